-- What holds of every vertex before and after each look, by how many of its predecessor entries were met.
use Rattle.std.specs.Prelude.{Bool, true, false, ◌≡◌, refl, ℕ, ◌+◌, ◌-◌, ◌≤◌, ◌<◌}
use Rattle.std.proofs.Common.{arith}
use Rattle.basics.specs.Basics.{clash}

-- of a vertex by whether it is in V', in T and own, how many of its edges end in V', whether it is in, its counter, and how
-- many of its predecessor entries were met
pub record Mark (inside target own : Bool) (degree : ℕ) (member : Bool) (counter seen : ℕ) : Type 0 where
  pub member_inside : member ≡ true → inside ≡ true
  pub target_in : target ≡ true → member ≡ true
  pub own_out : inside ≡ true → member ≡ false → own ≡ true → seen ≡ 0
  pub other_out : inside ≡ true → member ≡ false → own ≡ false → counter + seen ≡ degree
  pub waiting : inside ≡ true → member ≡ false → own ≡ false → 0 < seen → 0 < counter
  pub in_met : member ≡ true → target ≡ false → 0 < seen
  pub other_in : member ≡ true → target ≡ false → own ≡ false → degree ≤ seen

module _ {inside target own member : Bool} {degree counter seen : ℕ}
    (before : Mark inside target own degree member counter seen) where
  -- a look at a vertex outside V'
  pub mark_outside : inside ≡ false → Mark inside target own degree member counter (seen + 1)
  mark_outside o =
      record {
        member_inside = before.member_inside;
        target_in = before.target_in;
        own_out = λ i m p. absurd (clash i o);
        other_out = λ i m p. absurd (clash i o);
        waiting = λ i m p q. absurd (clash i o);
        in_met = λ m t. omega arith;
        other_in = λ m t p. absurd (clash (before.member_inside m) o);
      }

  -- at one that is in
  pub mark_again : member ≡ true → Mark inside target own degree member counter (seen + 1)
  mark_again y =
      record {
        member_inside = before.member_inside;
        target_in = before.target_in;
        own_out = λ i m p. absurd (clash y m);
        other_out = λ i m p. absurd (clash y m);
        waiting = λ i m p q. absurd (clash y m);
        in_met = λ m t. omega arith;
        other_in = λ m t p. let h = before.other_in m t p in omega arith;
      }

  -- at an own vertex, which comes in
  pub mark_own : inside ≡ true → own ≡ true → Mark inside target own degree true counter (seen + 1)
  mark_own i y =
      record {
        member_inside = λ m. i;
        target_in = λ t. refl;
        own_out = λ i m p. absurd (clash refl m);
        other_out = λ i m p. absurd (clash refl m);
        waiting = λ i m p q. absurd (clash refl m);
        in_met = λ m t. omega arith;
        other_in = λ m t p. absurd (clash y p);
      }

  -- at another's vertex, which comes in by its last inside edge
  pub mark_last : inside ≡ true → member ≡ false → own ≡ false → counter - 1 ≡ 0 → (c : ℕ) →
      Mark inside target own degree true c (seen + 1)
  mark_last i o p z c =
      record {
        member_inside = λ m. i;
        target_in = λ t. refl;
        own_out = λ i m p. absurd (clash refl m);
        other_out = λ i m p. absurd (clash refl m);
        waiting = λ i m p q. absurd (clash refl m);
        in_met = λ m t. omega arith;
        other_in = λ m t q. let h = before.other_out i o p in omega arith;
      }

  -- at another's vertex that still waits
  pub mark_count :
      inside ≡ true →
      member ≡ false →
      own ≡ false →
      0 < counter →
      (counter - 1 ≡ 0 → ⊥) →
      Mark inside target own degree member (counter - 1) (seen + 1)
  mark_count i o p pos more =
      record {
        member_inside = before.member_inside;
        target_in = before.target_in;
        own_out = λ i m q. absurd (clash q p);
        other_out = λ i m q. let h = before.other_out i m q in omega arith;
        waiting = λ i m q r. omega (arith, more);
        in_met = λ m t. omega arith;
        other_in = λ m t q. absurd (clash m o);
      }
