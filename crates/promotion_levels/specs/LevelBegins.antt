-- A level begins: R is its vertices of priority p, which lose their entries, and the next level is the rest of it.
use Rattle.std.specs.Prelude.{Bool, true, false, ◌&&◌, not, List, ◌⊎◌, ◌≡◌, refl, ℕ, ◌+◌, ◌*◌, ◌≤◌, ◌<◌, eqb, length, get_or}
use Rattle.std.proofs.Common.{inl, inr, sym, ap, ap₂, subst, ◌∙◌, arith, lt-ltb}
use Rattle.rules.specs.Tables.{words}
use Rattle.rules.specs.Words.{no_entry}
use Rattle.basics.specs.Basics.{bool_cases, and_left}
use Rattle.basics.specs.Frame.{Beside}
use Rattle.sets.specs.After.{Parts}
use Rattle.area.specs.Area.{free, set_at}
use Rattle.area.specs.SetsAt.{set_kept}
use Rattle.priority_sets.specs.Sorting.{PriorityPlaceable, SetsOf, set_of_priority, set_room}
use Rattle.promotion_sets.specs.Without.{WithoutAt}
use Rattle.promotion_sets.specs.Forgetting.{Forgettable, Forgotten}

-- what `begin_level` asks for: R stands behind the sets of the priorities and the entries, the level and the next behind R
pub record LevelBeginnable (n m p s held base entries : ℕ) (work : List ℕ) : Type 0 where
  pub placeable : PriorityPlaceable n m s p
  pub sorted : free n m + 256 * s ≤ held
  pub given : entries + n ≤ held
  pub order : held + s ≤ base
  pub room : base + s + s ≤ length work
  pub below : (v : ℕ) → set_at n base work v ≡ true → v < n

-- what it leaves
pub record LevelBegun (n : ℕ) (priorities : List ℕ) (p s held base entries : ℕ) (before after : List ℕ) : Type 0 where
  pub long : length after ≡ length before
  pub last : (v : ℕ) → set_at n (base + s) after v ≡ (set_at n base before v && not (eqb (get_or priorities v 0) p))
  pub region : (v : ℕ) → set_at n held after v ≡ (set_at n base before v && eqb (get_or priorities v 0) p)
  pub forgotten : (v : ℕ) → set_at n held after v ≡ true → get_or after (entries + v) 0 ≡ no_entry
  pub others :
      (v : ℕ) → v < n → set_at n held after v ≡ false → get_or after (entries + v) 0 ≡ get_or before (entries + v) 0
  pub rest :
      (i : ℕ) → Beside n entries i → Beside s held i → Beside s (base + s) i → get_or after i 0 ≡ get_or before i 0

-- what is left of a when what is left without b goes is what it has of b
left_again : (a b : Bool) → (a && not (a && not b)) ≡ (a && b)
left_again true true = refl
left_again true false = refl
left_again false b = refl

module _ {n m p s held base entries : ℕ} {work : List ℕ} (given : LevelBeginnable n m p s held base entries work) {of next : ℕ}
    (placed : of ≡ set_of_priority (words n) (free n m) p) (behind : next ≡ base + s)
  where
    size : s ≡ words n
    size = given.placeable.size

    -- the set of priority p ends before R
    of_ends : of + s ≤ held
    of_ends =
        let room = set_room s (free n m) p given.placeable.small in
        let e : p * s ≡ p * words n = ap (λ (k : ℕ). p * k) size in
        omega (arith, given.sorted)

    pub begin_next : Parts next base s work × Parts next of s work
    begin_next = (
      record {
        into_fits = omega (arith, given.room);
        from_fits = omega (arith, given.room);
        apart = inr (omega arith);
      },
      record {
        into_fits = omega (arith, given.room);
        from_fits = omega (arith, of_ends, given.order, given.room);
        apart = inr (omega (arith, of_ends, given.order));
      },
    )

    module _ {one : List ℕ} (first : WithoutAt n next base of work one) where
      pub begin_held : Parts held base s one × Parts held next s one
      begin_held = (
        record {
          into_fits = omega (arith, given.order, given.room, first.long);
          from_fits = omega (arith, given.room, first.long);
          apart = inl given.order;
        },
        record {
          into_fits = omega (arith, given.order, given.room, first.long);
          from_fits = omega (arith, given.room, first.long);
          apart = inl (omega (arith, given.order));
        },
      )

      -- the level stays
      base_one : (v : ℕ) → set_at n base one v ≡ set_at n base work v
      base_one = set_kept n base work one (λ i low high. first.rest i (inl (omega (arith, size))))

      module _ {two : List ℕ} (second : WithoutAt n held base next one two) where
        pub begin_forgettable : Forgettable n s held entries two
        begin_forgettable =
            record {
              size = size;
              few = given.placeable.few;
              order = given.given;
              high = omega (arith, size, given.order, given.room, first.long, second.long);
              below =
                  λ v h.
                  given.below v (sym (base_one v) ∙ and_left (set_at n base one v) _ (sym (second.made v) ∙ h));
            }

        -- **The level begins.**
        pub begun :
            {after : List ℕ} →
            Forgotten n held entries two after →
            (priorities : List ℕ) →
            SetsOf n priorities n (free n m) work →
            LevelBegun n priorities p s held base entries work after
        begun {after} third priorities sets =
            record {
              long = third.keeps.long ∙ second.long ∙ first.long;
              last = last;
              region = λ v. held_two v ∙ second.made v ∙ both v;
              forgotten = λ v h. third.inside v (sym (held_two v) ∙ h);
              others =
                  λ v l h.
                  third.outside v l (sym (held_two v) ∙ h) ∙
                  second.rest (entries + v) (inl (omega (arith, given.given))) ∙
                  first.rest (entries + v) (inl (omega (arith, given.given, given.order)));
              rest =
                  λ i e h b.
                  third.keeps.rest i e ∙
                  second.rest i (subst (λ (k : ℕ). Beside k held i) size h) ∙
                  first.rest i (rw (behind, ← size) b);
            }
          where
            held_two : (v : ℕ) → set_at n held after v ≡ set_at n held two v
            held_two =
                set_kept n held two after (λ i low high. third.keeps.rest i (inr (omega (arith, given.given))))

            next_one : (v : ℕ) → set_at n next after v ≡ set_at n next one v
            next_one =
                set_kept n next one after
                (λ i low high.
                third.keeps.rest i (inr (omega (arith, given.given, given.order))) ∙
                second.rest i (inr (omega (arith, size, given.order))))

            -- of the level, the set of priority p has those that have it
            of_level : (v : ℕ) → set_at n base work v ≡ true → set_at n of work v ≡ eqb (get_or priorities v 0) p
            of_level v h =
                ap (λ (at : ℕ). set_at n at work v) placed ∙
                sets p v given.placeable.small ∙
                ap (λ (b : Bool). b && eqb (get_or priorities v 0) p) (lt-ltb v n (given.below v h))

            without_of :
                (v : ℕ) →
                (set_at n base work v ≡ true) ⊎ (set_at n base work v ≡ false) →
                (set_at n base work v && not (set_at n of work v)) ≡
                (set_at n base work v && not (eqb (get_or priorities v 0) p))
            without_of v (inl h) = ap (λ (b : Bool). set_at n base work v && not b) (of_level v h)
            without_of v (inr h) = rw h

            made : (v : ℕ) → set_at n next one v ≡ (set_at n base work v && not (eqb (get_or priorities v 0) p))
            made v = first.made v ∙ without_of v (bool_cases (set_at n base work v))

            last : (v : ℕ) → set_at n (base + s) after v ≡ (set_at n base work v && not (eqb (get_or priorities v 0) p))
            last v = rw (← behind) (next_one v ∙ made v)

            both :
                (v : ℕ) →
                (set_at n base one v && not (set_at n next one v)) ≡
                (set_at n base work v && eqb (get_or priorities v 0) p)
            both v =
                ap₂ (λ (a b : Bool). a && not b) (base_one v) (made v) ∙
                left_again (set_at n base work v) (eqb (get_or priorities v 0) p)
