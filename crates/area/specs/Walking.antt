-- A walk over the members of a set that stands in the work area: what is left of it are members, each next one is a member, and none comes
-- twice.
use Rattle.std.specs.Prelude.{Bool, true, cond, List, [], ◌∷◌, ◌≡◌, refl, ℕ, ◌+◌, ◌-◌, ◌≤◌, ◌<◌, eqb, length, take, drop}
use Rattle.std.proofs.Common.{ap, ◌∙◌, arith, eq-eqb, ne_eqb}
use Rattle.rules.specs.Counting.{times}
use Rattle.rules.specs.Tables.{words}
use Rattle.rules.specs.Words.{bit, set_of}
use Rattle.sets.specs.Laws.{bit_member}
use Rattle.walk.specs.MemberLaws.{times_members}
use Rattle.sets.specs.Whole.{bit_lt}
use Rattle.walk.specs.Walk.{members, left}
use Rattle.walk.specs.declared.members.Members.{Members}
use Rattle.area.specs.Area.{words_at}
use Rattle.area.specs.Lent.{part_is}

-- the words of a part, as the code has it, are those of the set
pub lent_part_lem : (n s a : ℕ) (xs : List ℕ) → s ≡ words n → take ((a + s) - a) (drop a xs) ≡ words_at n a xs
lent_part_lem n s a xs size = part_is a s xs ∙ ap (λ (k : ℕ). take k (drop a xs)) size

-- how often each vertex stands in what is left
pub times_next : (v x : ℕ) (l : List ℕ) → times v (x ∷ l) ≡ cond (eqb v x) 1 0 + times v l
unfolding times
times_next v x l = refl

pub times_here : (v : ℕ) (l : List ℕ) → times v (v ∷ l) ≡ 1 + times v l
times_here v l = times_next v v l ∙ ap (λ (t : Bool). cond t 1 0 + times v l) (eq-eqb v v refl)

pub times_there : (v x : ℕ) (l : List ℕ) → (v ≡ x → ⊥) → times v (x ∷ l) ≡ times v l
times_there v x l d = times_next v x l ∙ ap (λ (t : Bool). cond t 1 0 + times v l) (ne_eqb v x d) ∙ zero
  where
    zero : 0 + times v l ≡ times v l
    zero = omega arith

pub times_gone : (v : ℕ) → times v [] ≡ 0
unfolding times
times_gone v = refl

-- what is left of the walk are members
pub record Walking (xs : List ℕ) (walk : Members) : Type 0 where
  pub at : walk.at ≤ 64
  pub inside : (v : ℕ) → times v (left xs walk) ≤ bit xs v

pub walking_start : (xs : List ℕ) (walk : Members) → left xs walk ≡ members xs → walk.at ≡ 0 → Walking xs walk
walking_start xs walk e z =
    record { at = omega arith; inside = λ v. omega (arith, ap (times v) e, times_members xs v) }

module _ {xs : List ℕ} {walk : Members} (rest : Members) {v : ℕ} (w : Walking xs walk) (e : left xs walk ≡ v ∷ left xs rest) where
  pub counted : times v (left xs walk) ≡ 1 + times v (left xs rest)
  counted = ap (times v) e ∙ times_here v (left xs rest)

  -- the next one is a member
  pub next_member : set_of xs v ≡ true
  next_member =
      let inside = w.inside v in
      let small = bit_lt xs v in
      bit_member xs v (omega (arith, counted))

  -- that does not come again
  pub next_once : times v (left xs rest) ≡ 0
  next_once =
      let inside = w.inside v in
      let small = bit_lt xs v in
      omega (arith, counted)

  pub next_other : (u : ℕ) → (u ≡ v → ⊥) → times u (left xs walk) ≡ times u (left xs rest)
  next_other u d = ap (times u) e ∙ times_there u v (left xs rest) d

  pub walking_next : rest.at ≤ 64 → Walking xs rest
  walking_next l =
      record {
        at = l;
        inside =
            λ u.
            let inside = w.inside u in omega (arith, ap (times u) e, times_next u v (left xs rest));
      }

  pub next_shorter : length (left xs rest) < length (left xs walk)
  next_shorter = omega (arith, ap length e)
