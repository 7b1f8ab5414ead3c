-- One search for parts serves solitaire and the checker: over the edges inside a set, and where a vertex has an entry over that edge
-- alone. For solitaire no vertex has an entry. For the checker, after its kinds 22 and 23, these are the edges that 24 speaks of.
use Rattle.std.specs.Prelude.{Bool, true, false, ◌&&◌, cond, List, ◌≡◌, refl, eqb, leb}
use Rattle.std.proofs.Math.Bool.{not, and_assoc}
use Rattle.std.proofs.Common.{⊎_elim, sym, ap, ap₂, ◌∙◌, le_refl, le_trans, arith, eqb-true, eq-eqb, ne_eqb, lt-ltb}
use Prim.Native.Nat.{ℕ, zero, suc, ◌≤◌, ◌<◌, suc-le-suc}
use Rattle.std.proofs.Math.Nat.{le_step}
use Rattle.rules.specs.Counting.{Set, some, some_of, lowest}
use Rattle.rules.specs.Game.{Game, everywhere, Edge, Total, parity, same}
use Rattle.rules.specs.Outcome.{none, given_at, given}
use Rattle.rules.specs.Winning.{Cycle}
use Rattle.rules.specs.Words.{entry, no_entry}
use Rattle.rules.specs.Zielonka.{highest_in}
use Rattle.rules.specs.Solitaire.{Links, inside, good_part, at_most, on_part}
use Rattle.rules.specs.Checker.{winner_of, kept_edges, check22, check23, check24}
use Rattle.basics.specs.Basics.{bool_ext, and_intro, and_left, and_right, some_intro, some_elim, some_cong}
use Rattle.theory.specs.Dominion.{owner_cases}
use Rattle.theory.specs.Walks.{highest_le}
use Rattle.theory.specs.Links.{Linked, good_part_cycle, good_part_on_cycle, good_part_agrees}
use Rattle.theory.specs.Solitaire.{edge_test, test_edge, at_most_elim, at_most_intro, priority_le_highest}
use Rattle.theory.specs.Checker.{after22, after23, kept_elim, kept_intro, bad_cycle}

-- the edges inside X: the one to the entry of a vertex that has an entry, and all of a vertex that has none
abbrev pub chosen_links : Game → List ℕ → Set → Links
chosen_links g entries X v w =
    X v && X w && cond (eqb (entry entries v) no_entry) (some_of (g.targets v) (eqb w)) (eqb w (entry entries v))

-- v lies on a cycle of them among priorities of at most p that passes a vertex of priority p
abbrev pub chosen_part : Game → List ℕ → ℕ → Set
chosen_part g entries p v = at_most g p v && good_part g (chosen_links g entries (at_most g p)) p v

-- A cycle of chosen links whose highest priority is p is found there, and nothing else.
pub chosen_part_cycle :
    (g : Game) (entries : List ℕ) (p v : ℕ) →
    chosen_part g entries p v ≡ true →
    Cycle g.priority (Linked g.size (chosen_links g entries (at_most g p))) v p
chosen_part_cycle g entries p v q =
    good_part_cycle g (chosen_links g entries (at_most g p)) p v
    (λ x y e.
    let ends = at_most g p x && at_most g p y in
    (at_most_elim g p x (and_left (at_most g p x) (at_most g p y) (and_left ends _ e))).1)
    (and_right (at_most g p v) _ q)

-- so p is a priority of the game
pub chosen_part_highest :
    (g : Game) (entries : List ℕ) (p v : ℕ) → chosen_part g entries p v ≡ true → p ≤ highest_in g (everywhere g)
chosen_part_highest g entries p v q =
    highest_le (highest_in g (everywhere g)) (λ x y e. priority_le_highest g x e.start) (chosen_part_cycle g entries p v q)

-- Where there is no entry, these are solitaire's good parts.
pub on_part_chosen :
    (g : Game) (entries : List ℕ) →
    ((v : ℕ) → v < g.size → entry entries v ≡ no_entry) →
    (p v : ℕ) →
    on_part g p v ≡ chosen_part g entries p v
on_part_chosen g entries absent p v =
    ap
    (λ (b : Bool). at_most g p v && b)
    (good_part_agrees g (inside g (at_most g p)) (chosen_links g entries (at_most g p))
    (λ x y l m.
    ap
    (λ (b : Bool). at_most g p x && at_most g p y && cond b (some_of (g.targets x) (eqb y)) (eqb y (entry entries x)))
    (sym (eq-eqb (entry entries x) no_entry (absent x l))))
    p
    v)

-- a test that passes only below n finds the same in more numbers
pub some_wider : (n k : ℕ) (test : Set) → n ≤ k → ((v : ℕ) → test v ≡ true → v < n) → some n test ≡ some k test
some_wider n k test h small =
    bool_ext
    (some n test)
    (some k test)
    (λ p. let (v, l, q) = some_elim n test p in some_intro k test v (le_trans l h) q)
    (λ p. let (v, l, q) = some_elim k test p in some_intro n test v (small v q) q)

-- a check depends on its test below n alone
pub lowest_cong : (n : ℕ) (S T : Set) → ((v : ℕ) → v < n → S v ≡ T v) → lowest n S ≡ lowest n T
unfolding lowest
lowest_cong zero S T agree = refl
lowest_cong (suc n) S T agree =
    let rest = lowest_cong n S T (λ v l. agree v (le_step l)) in
    let found = some_cong n S T (λ v l. agree v (le_step l)) in
    let last = agree n (le_refl (suc n)) in
    rw found (rw last (rw rest))

pub given_at_cong : (k n : ℕ) (S T : Set) → ((v : ℕ) → v < n → S v ≡ T v) → given_at k n S ≡ given_at k n T
unfolding given_at
given_at_cong k n S T agree =
    ap₂ (λ (p : ℕ) (b : Bool). given k p b) (lowest_cong n S T agree) (some_cong n S T agree)

module _
    (g : Game)
    (total : Total g)
    (few : g.size ≤ 65535)
    (even strategy : List ℕ)
    (ok22 : check22 g even strategy ≡ none)
    (ok23 : check23 g even strategy ≡ none) where
  -- After 22 and 23 the edges that 24 speaks of are the chosen ones.
  pub kept_chosen :
      (p v w : ℕ) →
      v < g.size →
      w < g.size →
      kept_edges g even strategy p v w ≡ chosen_links g strategy (at_most g p) v w
  kept_chosen p v w l small =
      bool_ext (kept_edges g even strategy p v w) (chosen_links g strategy (at_most g p) v w) to from
    where
      mine_entry : g.owner v ≡ winner_of even v → eqb (entry strategy v) no_entry ≡ false
      mine_entry mine =
          let below = total.ends v (entry strategy v) ((after22 g even strategy ok22).0 v l mine) in
          ne_eqb (entry strategy v) no_entry (λ e. absurd (omega arith))

      theirs_entry : (g.owner v ≡ winner_of even v → ⊥) → eqb (entry strategy v) no_entry ≡ true
      theirs_entry theirs = eq-eqb (entry strategy v) no_entry ((after22 g even strategy ok22).1 v l theirs)

      to : kept_edges g even strategy p v w ≡ true → chosen_links g strategy (at_most g p) v w ≡ true
      to q =
          let kept = kept_elim g even strategy p v w q in
          and_intro
          (and_intro (at_most_intro g p v l kept.low) (at_most_intro g p w small kept.low_end))
          (⊎_elim
          (λ mine. rw (mine_entry mine) (eq-eqb w (entry strategy v) (kept.chosen mine)))
          (λ theirs. rw (theirs_entry theirs) (edge_test g v w (kept.edge theirs)))
          (owner_cases g (winner_of even v) v))

      from : chosen_links g strategy (at_most g p) v w ≡ true → kept_edges g even strategy p v w ≡ true
      from q =
          let ends = at_most g p v && at_most g p w in
          let last = cond (eqb (entry strategy v) no_entry) (some_of (g.targets v) (eqb w)) (eqb w (entry strategy v)) in
          let both = and_left ends last q in
          let chosen : g.owner v ≡ winner_of even v → w ≡ entry strategy v =
          λ mine. eqb-true w (entry strategy v) (rw (mine_entry mine) at (and_right ends last q)) in
          let edge : (g.owner v ≡ winner_of even v → ⊥) → Edge g v w =
          λ theirs. test_edge g v w (rw (theirs_entry theirs) at (and_right ends last q)) in
          kept_intro g even strategy p v w
          (record {
            low = (at_most_elim g p v (and_left (at_most g p v) (at_most g p w) both)).1;
            low_end = (at_most_elim g p w (and_right (at_most g p v) (at_most g p w) both)).1;
            side =
                ⊎_elim
                (λ mine. (after23 g even strategy ok23).0 v l mine ∙ ap (winner_of even) (sym (chosen mine)))
                (λ theirs. (after23 g even strategy ok23).1 v w l theirs (edge theirs))
                (owner_cases g (winner_of even v) v);
            chosen = chosen;
            edge = edge;
          })

  -- So the test of 24 looks for the same parts as solitaire's.
  pub bad_cycle_chosen :
      (v p : ℕ) →
      v < g.size →
      bad_cycle g even strategy v p ≡ (not (same (parity p) (winner_of even v)) && chosen_part g strategy p v)
  bad_cycle_chosen v p l =
      let same-part =
      sym (good_part_on_cycle g (kept_edges g even strategy p) p v) ∙
      good_part_agrees g (kept_edges g even strategy p) (chosen_links g strategy (at_most g p)) (kept_chosen p) p v in
      rw (same-part, lt-ltb v g.size l)
      (and_assoc
      (not (same (parity p) (winner_of even v)))
      (leb (g.priority v) p)
      (good_part g (chosen_links g strategy (at_most g p)) p v))

  -- 24, worked out for the priorities below any bound above the highest
  pub check24_chosen :
      (k : ℕ) →
      highest_in g (everywhere g) < k →
      check24 g even strategy ≡
      given_at 24 g.size (λ v. some k (λ p. not (same (parity p) (winner_of even v)) && chosen_part g strategy p v))
  unfolding check24
  check24_chosen k h =
      let top = suc (highest_in g (everywhere g)) in
      let bad : ℕ → Set = λ v p. not (same (parity p) (winner_of even v)) && chosen_part g strategy p v in
      given_at_cong 24 g.size (λ v. some top (bad_cycle g even strategy v)) (λ v. some k (bad v))
      (λ v l.
      some_cong top (bad_cycle g even strategy v) (bad v) (λ p m. bad_cycle_chosen v p l) ∙
      some_wider top k (bad v) h
      (λ p q.
      suc-le-suc (chosen_part_highest g strategy p v (and_right (not (same (parity p) (winner_of even v))) (chosen_part g strategy p v) q))))
