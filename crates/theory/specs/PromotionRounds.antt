-- The three states that a round of priority promotion can end in, vertex by vertex, what is unsolved in each, and that the rules' round is one
-- of them.
use Rattle.std.specs.Prelude.{true, false, ◌&&◌, not, cond, ◌≡◌, ℕ, ◌≤◌, ◌<◌, ltb}
use Rattle.std.proofs.Common.{⊎_elim, ◌∙◌, arith, lt-ltb, le-ltb}
use Rattle.std.proofs.Math.Path.{refl}
use Rattle.rules.specs.Counting.{Set, some, greatest, noted, without, union, within}
use Rattle.rules.specs.Game.{Game, same}
use Rattle.rules.specs.Promotion.{Regions, solved_region, unsolved, highest_region, region_set, region_is_open, way_out, moved_down}
use Rattle.rules.specs.Promotion.{dominion_solved, promoted}
use Rattle.rules.specs.Promotion.{round_of, drawn_regions, drawn_entries, closed_entries}
use Rattle.rules.specs.Distance.{attractor_entry}
use Rattle.rules.specs.Words.{no_entry}
use Rattle.basics.specs.Basics.{bool_cases, clash, bool_ext, not_true_is_false, not_false_is_true, lt_or_ge, without_left}
use Rattle.basics.specs.Basics.{noted_below}
use Rattle.theory.specs.PromotionEntries.{mover, remaining, promoted_to, dominion_set}
use Rattle.theory.specs.PromotionTests.{unsolved_below, unsolved_region, unsolved_intro, region_in_lem}

module _ (g : Game) (s : Regions) where
  -- the three regions that a round can give

  -- R gets region p
  abbrev pub attracted_region : ℕ → ℕ
  attracted_region = drawn_regions g s (region_set g s)

  pub attracted_gained : (v : ℕ) → region_set g s v ≡ true → attracted_region v ≡ s.current
  attracted_gained v m =
      noted_below solved_region g.size _ v (unsolved_below g s.region v (region_in_lem g s v m)) ∙ rw m

  pub attracted_rest : (v : ℕ) → remaining g s v ≡ true → region_set g s v ≡ false → attracted_region v ≡ s.region v
  attracted_rest v i out = noted_below solved_region g.size _ v (unsolved_below g s.region v i) ∙ rw out

  -- R gets region q, other regions below q go back to the priorities
  abbrev pub promoted_region : ℕ → ℕ
  promoted_region =
      noted solved_region g.size
      (λ v.
      cond
      (region_set g s v)
      (promoted_to g s)
      (cond (remaining g s v && ltb (s.region v) (promoted_to g s)) (g.priority v) (s.region v)))

  pub promoted_gained : (v : ℕ) → region_set g s v ≡ true → promoted_region v ≡ promoted_to g s
  promoted_gained v m =
      noted_below solved_region g.size _ v (unsolved_below g s.region v (region_in_lem g s v m)) ∙ rw m

  pub promoted_reset :
      (v : ℕ) →
      remaining g s v ≡ true →
      region_set g s v ≡ false →
      s.region v < promoted_to g s →
      promoted_region v ≡ g.priority v
  promoted_reset v i out l =
      noted_below solved_region g.size _ v (unsolved_below g s.region v i) ∙
      rw (out, i, lt-ltb (s.region v) (promoted_to g s) l)

  pub promoted_kept :
      (v : ℕ) →
      remaining g s v ≡ true →
      region_set g s v ≡ false →
      promoted_to g s ≤ s.region v →
      promoted_region v ≡ s.region v
  promoted_kept v i out l =
      noted_below solved_region g.size _ v (unsolved_below g s.region v i) ∙
      rw (out, i, le-ltb (s.region v) (promoted_to g s) l)

  -- what is unsolved outside D goes back to the priorities, all else is solved
  abbrev pub solved_regions : ℕ → ℕ
  solved_regions =
      noted solved_region g.size (λ v. cond (remaining g s v && not (dominion_set g s v)) (g.priority v) solved_region)

  pub solved_rest : (v : ℕ) → without (remaining g s) (dominion_set g s) v ≡ true → solved_regions v ≡ g.priority v
  solved_rest v i =
      noted_below solved_region g.size _ v
      (unsolved_below g s.region v (without_left (remaining g s) (dominion_set g s) v i)) ∙
      rw i

  -- what is unsolved after each

  unsolved_same :
      (r : ℕ → ℕ) (S : Set) →
      ((v : ℕ) → S v ≡ true → (v < g.size) × (r v < solved_region)) →
      ((v : ℕ) → v < g.size → r v < solved_region → S v ≡ true) →
      (v : ℕ) →
      S v ≡ unsolved g r v
  unsolved_same r S to from v =
      bool_ext
      (S v)
      (unsolved g r v)
      (λ i. unsolved_intro g r v (to v i).0 (to v i).1)
      (λ i. from v (unsolved_below g r v i) (unsolved_region g r v i))

  pub attracted_unsolved : s.current < solved_region → (v : ℕ) → remaining g s v ≡ unsolved g attracted_region v
  attracted_unsolved small =
      unsolved_same attracted_region (remaining g s)
      (λ v i. (
        unsolved_below g s.region v i,
        ⊎_elim
            (λ m. rw (attracted_gained v m) small)
            (λ m. rw (attracted_rest v i m) (unsolved_region g s.region v i))
            (bool_cases (region_set g s v)),
      ))
      (λ v l k.
      ⊎_elim
      (λ m. region_in_lem g s v m)
      (λ m.
      let same_there : attracted_region v ≡ s.region v = noted_below solved_region g.size _ v l ∙ rw m in
      unsolved_intro g s.region v l (rw same_there at k))
      (bool_cases (region_set g s v)))

  pub promoted_unsolved :
      promoted_to g s < solved_region →
      ((v : ℕ) → v < g.size → g.priority v < solved_region) →
      (v : ℕ) →
      remaining g s v ≡ unsolved g promoted_region v
  promoted_unsolved small low =
      unsolved_same promoted_region (remaining g s)
      (λ v i. (unsolved_below g s.region v i, to v i))
      (λ v l k. not_false_is_true (remaining g s v) (λ out. clash (unsolved_intro g s.region v l (rw (from v l out) at k)) out))
    where
      to : (v : ℕ) → remaining g s v ≡ true → promoted_region v < solved_region
      to v i =
          ⊎_elim
          (λ m. rw (promoted_gained v m) small)
          (λ m.
          ⊎_elim
          (λ l. rw (promoted_reset v i m l) (low v (unsolved_below g s.region v i)))
          (λ l. rw (promoted_kept v i m l) (unsolved_region g s.region v i))
          (lt_or_ge (s.region v) (promoted_to g s)))
          (bool_cases (region_set g s v))

      from : (v : ℕ) → v < g.size → remaining g s v ≡ false → promoted_region v ≡ s.region v
      from v l out =
          let not-R = not_true_is_false (region_set g s v) (λ m. clash (region_in_lem g s v m) out) in
          noted_below solved_region g.size _ v l ∙ rw (not-R, out)

  pub solved_unsolved :
      ((v : ℕ) → v < g.size → g.priority v < solved_region) →
      (v : ℕ) →
      without (remaining g s) (dominion_set g s) v ≡ unsolved g solved_regions v
  solved_unsolved low =
      unsolved_same solved_regions (without (remaining g s) (dominion_set g s))
      (λ v i.
      let l = unsolved_below g s.region v (without_left (remaining g s) (dominion_set g s) v i) in
      (l, rw (solved_rest v i) (low v l)))
      (λ v l k.
      not_false_is_true
      (without (remaining g s) (dominion_set g s) v)
      (λ out.
      let gone : solved_regions v ≡ solved_region = noted_below solved_region g.size _ v l ∙ rw out in
      omega arith))

  -- an open round

  abbrev pub lower_vertices : Set
  lower_vertices v = unsolved g attracted_region v && ltb (attracted_region v) s.current

  -- the next region below p
  abbrev pub lowered_to : ℕ
  lowered_to = greatest g.size lower_vertices attracted_region

  -- the entries after a promotion and after a dominion

  abbrev pub promoted_entries : ℕ → ℕ
  promoted_entries =
      noted no_entry g.size
      (λ v.
      cond
      (region_set g s v)
      (closed_entries g s (region_set g s) v)
      (cond (remaining g s v && ltb (s.region v) (promoted_to g s)) no_entry (s.entries v)))

  abbrev pub solved_entries : ℕ → ℕ
  solved_entries =
      noted no_entry g.size
      (λ v.
      cond
      (region_set g s v)
      (closed_entries g s (region_set g s) v)
      (cond (remaining g s v) (attractor_entry g (mover s) (remaining g s) (region_set g s) v) (s.entries v)))

  -- the state after each kind of round

  abbrev pub lowered_state : Regions
  lowered_state =
      record { region = attracted_region; current = lowered_to; won = s.won; entries = drawn_entries g s (region_set g s) }

  abbrev pub promoted_state : Regions
  promoted_state =
      record { region = promoted_region; current = promoted_to g s; won = s.won; entries = promoted_entries }

  abbrev pub solved_state : Regions
  solved_state =
      record {
        region = solved_regions;
        current = highest_region g solved_regions;
        won = λ b. cond (same (mover s) b) (within g.size (union (s.won b) (dominion_set g s))) (s.won b);
        entries = solved_entries;
      }

  pub round_opens :
      region_is_open g s (region_set g s) ≡ true → some g.size lower_vertices ≡ true → round_of g s ≡ lowered_state
  unfolding round_of moved_down
  round_opens p q = rw (p, round_of) (rw q refl)

  pub open_entries : region_is_open g s (region_set g s) ≡ true → (round_of g s).entries ≡ drawn_entries g s (region_set g s)
  unfolding round_of moved_down
  open_entries p = rw (p, round_of) refl

  pub round_promotes :
      region_is_open g s (region_set g s) ≡ false →
      some g.size (way_out g s (region_set g s)) ≡ true →
      round_of g s ≡ promoted_state
  unfolding round_of promoted
  round_promotes p q = rw (p, round_of) (rw q refl)

  pub round_solves :
      region_is_open g s (region_set g s) ≡ false →
      some g.size (way_out g s (region_set g s)) ≡ false →
      round_of g s ≡ solved_state
  unfolding round_of dominion_solved
  round_solves p q = rw (p, round_of) (rw q refl)

-- what a round is
pub data Round (g : Game) (s : Regions) : Type 0 where
  opening : region_is_open g s (region_set g s) ≡ true → Round g s
  promoting : region_is_open g s (region_set g s) ≡ false → some g.size (way_out g s (region_set g s)) ≡ true → Round g s
  solving : region_is_open g s (region_set g s) ≡ false → some g.size (way_out g s (region_set g s)) ≡ false → Round g s

pub round_kind : (g : Game) (s : Regions) → Round g s
round_kind g s =
    ⊎_elim
    opening
    (λ closed.
    ⊎_elim (promoting closed) (solving closed) (bool_cases (some g.size (way_out g s (region_set g s)))))
    (bool_cases (region_is_open g s (region_set g s)))
