-- Solitaire by the attractor: in a game with one owner the answer is the attractor, for the owner, of the vertices in good parts. The
-- good parts may be worked out for the priorities below any bound above the highest.
use Rattle.std.specs.Prelude.{Bool, true, ◌&&◌, List, ◌≡◌}
use Rattle.std.proofs.Math.Path.{ap}
use Rattle.std.proofs.Common.{◌∙◌, lt-ltb, ltb-true}
use Prim.Native.Nat.{ℕ, suc, ◌<◌, suc-le-suc}
use Rattle.rules.specs.Attractor.{Closed, IsAttractor, attractor}
use Rattle.rules.specs.Counting.{Set, some}
use Rattle.rules.specs.Game.{Player, Game, everywhere, Edge, Total, parity, same}
use Rattle.rules.specs.Winning.{Reach, here, step}
use Rattle.rules.specs.Words.{entry, no_entry}
use Rattle.rules.specs.Zielonka.{highest_in}
use Rattle.rules.specs.Solitaire.{inside, at_most, on_part, solitaire}
use Rattle.basics.specs.Basics.{and_intro, and_left, and_right, some_intro, some_elim, some_cong, within_below, within_member}
use Rattle.theory.specs.Players.{same_true, true_same}
use Rattle.theory.specs.Walks.{reach_map, walk_map}
use Rattle.theory.specs.Attractor.{Draws, by_own, by_other, draws, drawn_so, attractor_is, attractor_unique}
use Rattle.theory.specs.Links.{Linked, first_step}
use Rattle.theory.specs.Chosen.{chosen_part, on_part_chosen, chosen_part_highest, some_wider}
use Rattle.theory.specs.Solitaire.{parts_for, inside_elim, solitaire_elim, solitaire_intro, on_part_cycle, cycle_on_part, on_part_highest}

module _ (g : Game) (a : Player) where
  -- a vertex in a good part has a priority for it, of a's parity
  pub parts_elim : (v : ℕ) → parts_for g a v ≡ true → (v < g.size) × ((p : ℕ) × (parity p ≡ a) × (on_part g p v ≡ true))
  unfolding parts_for
  parts_elim v q =
      let top = suc (highest_in g (everywhere g)) in
      let (l, r) = within_member g.size _ v q in
      let (p, k, t) = some_elim top (λ p. same (parity p) a && on_part g p v) r in
      (l, (p, same_true (parity p) a (and_left _ (on_part g p v) t), and_right (same (parity p) a) _ t))

  pub parts_intro : (v p : ℕ) → v < g.size → parity p ≡ a → on_part g p v ≡ true → parts_for g a v ≡ true
  unfolding parts_for
  parts_intro v p l mine on =
      let top = suc (highest_in g (everywhere g)) in
      within_below g.size _ v l ∙
      some_intro
      top
      (λ p. same (parity p) a && on_part g p v)
      p
      (suc-le-suc (on_part_highest g p v on))
      (and_intro (true_same (parity p) a mine) on)

  -- The good parts, worked out by the chosen links of a table without entries, for the priorities below any bound above the highest.
  pub parts_chosen :
      (entries : List ℕ) →
      ((v : ℕ) → v < g.size → entry entries v ≡ no_entry) →
      (k : ℕ) →
      highest_in g (everywhere g) < k →
      (v : ℕ) →
      v < g.size →
      parts_for g a v ≡ some k (λ p. same (parity p) a && chosen_part g entries p v)
  unfolding parts_for
  parts_chosen entries absent k h v l =
      let top = suc (highest_in g (everywhere g)) in
      let test : Set = λ p. same (parity p) a && chosen_part g entries p v in
      within_below g.size _ v l ∙
      some_cong top (λ p. same (parity p) a && on_part g p v) test
      (λ p m. ap (λ (b : Bool). same (parity p) a && b) (on_part_chosen g entries absent p v)) ∙
      some_wider top k test h
      (λ p q. suc-le-suc (chosen_part_highest g entries p v (and_right (same (parity p) a) (chosen_part g entries p v) q)))

-- a link inside X is an edge
linked_edge : (g : Game) (X : Set) (v w : ℕ) → Linked g.size (inside g X) v w → Edge g v w
linked_edge g X v w e = (inside_elim g X v w e.edge).2

module _ (g : Game) (total : Total g) (a : Player) (one : (v : ℕ) → v < g.size → g.owner v ≡ a) where
  -- the answer holds the good parts
  from_part : (v : ℕ) → parts_for g a v ≡ true → solitaire g a v ≡ true
  from_part v q =
      let (l, (p, mine, on)) = parts_elim g a v q in
      solitaire_intro g total a v v p l mine here (walk_map (linked_edge g (at_most g p)) (on_part_cycle g p v on))

  -- and the start of each edge into it
  from_edge : (v : ℕ) → Draws g a (everywhere g) (solitaire g a) v → solitaire g a v ≡ true
  from_edge v (by_own {w} i mine e q) =
      let (x, p, l, good, r, c) = solitaire_elim g a w q in
      solitaire_intro g total a v x p
      (total.starts v w e)
      good
      (step e (reach_map (linked_edge g (everywhere g)) r))
      (walk_map (linked_edge g (at_most g p)) c)
  from_edge v (by_other i theirs e j all) = absurd (theirs (one v (ltb-true v g.size i)))

  -- and nothing that it could do without
  needed :
      (S' : Set) → Closed g a (everywhere g) (parts_for g a) S' →
      {v w : ℕ} → S' w ≡ true → Reach (Linked g.size (inside g (everywhere g))) v w → S' v ≡ true
  needed S' closed q here = q
  needed S' closed q (step {v} {w} e r) =
      closed.attracted v
      (drawn_so v
      (by_own
      (lt-ltb v g.size e.start)
      (one v e.start)
      (linked_edge g (everywhere g) v w e)
      (needed S' closed q r)))

  solitaire_is_attractor : IsAttractor g a (everywhere g) (parts_for g a) (solitaire g a)
  solitaire_is_attractor =
      record {
        closed = record { target = from_part; attracted = λ v q. from_edge v (draws v q) };
        smallest =
            λ S' closed v q.
            let (w, p, l, mine, r, c) = solitaire_elim g a v q in
            let on = cycle_on_part g total p w (walk_map (linked_edge g (at_most g p)) c) in
            let part = parts_intro g a w p (first_step c).1.start mine on in
            needed S' closed (closed.target w part) r;
      }

  -- **Solitaire's answer is the attractor of the good parts.**
  pub solitaire_attractor : (v : ℕ) → solitaire g a v ≡ attractor g a (everywhere g) (parts_for g a) v
  solitaire_attractor =
      attractor_unique
      solitaire_is_attractor
      (attractor_is g a (everywhere g) (parts_for g a)
      (record {
        part = λ v q. lt-ltb v g.size (parts_elim g a v q).0;
        below = λ v q. ltb-true v g.size q;
      }))
