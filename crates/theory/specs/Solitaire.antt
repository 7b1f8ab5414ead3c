-- Solitaire: the rules' answer is the set of vertices from which a cycle of a's parity can be reached, and in a game with one owner
-- that is exactly the owner's winning set. From one vertex the owner goes along shortest paths to a vertex of the cycle's highest
-- priority, and from there back to it among vertices of no higher priority.
use Rattle.std.specs.Prelude.{true, false, ◌&&◌, not, cond, ◌≡◌, refl, ℕ, suc, ◌≤◌, ◌<◌, eqb, ltb, leb, get_or}
use mathlib.Core.List.Memᴰ
use Rattle.std.proofs.Common.{⊎_elim, sym, ap, ◌∙◌, suc-le-suc, eqb-true, eq-eqb, ltb-true, lt-ltb, leb-true, le-leb}
use Rattle.std.proofs.lemmas.Bool.{eqb-false, not-false}
use Rattle.rules.specs.Counting.{Set, some, some_of, within, without}
use Rattle.rules.specs.Game.{Player, opponent, Game, everywhere, Edge, Total, parity, same, player_of}
use Rattle.rules.specs.Outcome.{none}
use Rattle.rules.specs.Tables.{Tables, vertices, game_of}
use Rattle.rules.specs.Winning.{Cycle, Reach, here, Step, Wins, WinningSets}
use Rattle.rules.specs.Zielonka.{highest_in}
use Rattle.rules.specs.Solitaire.{inside, reached, at_most, on_part, solitaire, check11}
use Rattle.basics.specs.Basics.{bool_cases, clash, bool_ext, and_intro, and_left, and_right}
use Rattle.basics.specs.Basics.{some_intro, some_elim, some_false, some_of_intro, some_of_elim, within_below, within_member}
use Rattle.theory.specs.Players.{same_true, true_same, player_cases, opponent_is_other}
use Rattle.basics.specs.Greatest.{greatest_bounds}
use Rattle.theory.specs.Walks.{Among, reach_append, reach_map, walk_map, walk_among, reach_walk, hits}
use Rattle.theory.specs.Walks.{leaves_start, highest_bounds, highest_is, highest_le, no_falling_cycle}
use Rattle.theory.specs.Orbit.{comes_back}
use Rattle.theory.specs.Dominion.{Dominion, HeldOver, Inside, dominion_wins, dominion_drawn, ranked_held}
use Rattle.accepted.specs.Tables.{given_none}
use Rattle.theory.specs.Links.{Linked, reached_reach, reach_reached, reached_from, cycle_on_cycle}
use Rattle.theory.specs.Links.{good_part_cycle, cycle_good_part, first_step, distance, towards, towards_nearer}

-- an edge is found by the test that looks for its end
pub edge_test : (g : Game) (v w : ℕ) → Edge g v w → some_of (g.targets v) (eqb w) ≡ true
edge_test g v w e = some_of_intro (g.targets v) (eqb w) w e (eq-eqb w w refl)

pub test_edge : (g : Game) (v w : ℕ) → some_of (g.targets v) (eqb w) ≡ true → Edge g v w
test_edge g v w p =
    let (u, m, e) = some_of_elim (g.targets v) (eqb w) p in Memᴰ.cast (eqb-true w u e) m

-- the vertices in a good part for some priority of a's parity
unfoldable pub parts_for : Game → Player → Set
parts_for g a =
    within g.size (λ v. some (suc (highest_in g (everywhere g))) (λ p. same (parity p) a && on_part g p v))

module _ (g : Game) where
  -- a link inside X is an edge between members of X
  pub inside_elim : (X : Set) (v w : ℕ) → inside g X v w ≡ true → (X v ≡ true) × (X w ≡ true) × Edge g v w
  inside_elim X v w p =
      let both = and_left (X v && X w) (some_of (g.targets v) (eqb w)) p in (
        and_left (X v) (X w) both,
        and_right (X v) (X w) both,
        test_edge g v w (and_right (X v && X w) (some_of (g.targets v) (eqb w)) p),
      )

  pub inside_intro : (X : Set) (v w : ℕ) → X v ≡ true → X w ≡ true → Edge g v w → inside g X v w ≡ true
  inside_intro X v w p q e = and_intro (and_intro p q) (edge_test g v w e)

  -- no vertex has a priority above the highest of the game
  pub priority_le_highest : (v : ℕ) → v < g.size → g.priority v ≤ highest_in g (everywhere g)
  priority_le_highest v l = greatest_bounds g.size (everywhere g) g.priority v l (lt-ltb v g.size l)

  -- among vertices of priority at most p
  pub at_most_elim : (p v : ℕ) → at_most g p v ≡ true → (v < g.size) × (g.priority v ≤ p)
  at_most_elim p v q =
      let small = ltb v g.size in
      let low = leb (g.priority v) p in
      (ltb-true v g.size (and_left small low q), leb-true (g.priority v) p (and_right small low q))

  pub at_most_intro : (p v : ℕ) → v < g.size → g.priority v ≤ p → at_most g p v ≡ true
  at_most_intro p v l h = and_intro (lt-ltb v g.size l) (le-leb (g.priority v) p h)

  -- A cycle of edges is one of links among vertices of at most its highest priority.
  pub cycle_low : Total g → {v m : ℕ} → Cycle g.priority (Edge g) v m → Cycle g.priority (Linked g.size (inside g (at_most g m))) v m
  cycle_low total {v} {m} c =
      let bound = highest_bounds c in
      walk_map
      (λ x y s.
      let l = total.starts x y s.edge in
      let k = total.ends x y s.edge in
      record {
        edge =
            inside_intro (at_most g m) x y (at_most_intro m x l s.start) (at_most_intro m y k s.end) s.edge;
        start = l;
        end = k;
      })
      (walk_among (λ u. g.priority u ≤ m) c bound (bound v (leaves_start c)))

  -- on_part finds exactly the vertices on a cycle of edges whose highest priority is p.
  pub on_part_cycle : (p v : ℕ) → on_part g p v ≡ true → Cycle g.priority (Linked g.size (inside g (at_most g p))) v p
  on_part_cycle p v q =
      good_part_cycle g (inside g (at_most g p)) p v
      (λ x y e. (at_most_elim p x (inside_elim (at_most g p) x y e).0).1)
      (and_right (at_most g p v) _ q)

  pub cycle_on_part : Total g → (p v : ℕ) → Cycle g.priority (Edge g) v p → on_part g p v ≡ true
  cycle_on_part total p v c =
      let d = cycle_low total c in
      let (w, e, r) = first_step d in
      and_intro (inside_elim (at_most g p) v w e.edge).0 (cycle_good_part g (inside g (at_most g p)) p v d)

  -- a vertex in a good part for p has priority p at most, and some vertex has p
  pub on_part_highest : (p v : ℕ) → on_part g p v ≡ true → p ≤ highest_in g (everywhere g)
  on_part_highest p v q =
      highest_le (highest_in g (everywhere g)) (λ x y e. priority_le_highest x e.start) (on_part_cycle p v q)

  -- The answer holds only vertices from which a cycle of a's parity can be reached.
  pub solitaire_elim :
      (a : Player) (v : ℕ) →
      solitaire g a v ≡ true →
      (w : ℕ) ×
      (p : ℕ) ×
      (v < g.size) ×
      (parity p ≡ a) ×
      Reach (Linked g.size (inside g (everywhere g))) v w ×
      Cycle g.priority (Linked g.size (inside g (at_most g p))) w p
  unfolding solitaire parts_for
  solitaire_elim a v q =
      let n = g.size in
      let (small, r) = within_member n (λ v. some n (λ w. reached n (inside g (everywhere g)) v w && parts_for g a w)) v q in
      let (w, l, s) = some_elim n (λ w. reached n (inside g (everywhere g)) v w && parts_for g a w) r in
      let there = and_left (reached n (inside g (everywhere g)) v w) (parts_for g a w) s in
      let on = and_right (reached n (inside g (everywhere g)) v w) (parts_for g a w) s in
      let (p, k, t) =
      some_elim
      (suc (highest_in g (everywhere g)))
      (λ p. same (parity p) a && on_part g p w)
      (within_member n _ w on).1 in (
        w,
        p,
        small,
        same_true (parity p) a (and_left (same (parity p) a) (on_part g p w) t),
        reached_reach n (inside g (everywhere g)) there,
        on_part_cycle p w (and_right (same (parity p) a) (on_part g p w) t),
      )

  -- And all of them.
  pub solitaire_intro :
      Total g →
      (a : Player) (v w p : ℕ) →
      v < g.size →
      parity p ≡ a →
      Reach (Edge g) v w →
      Cycle g.priority (Edge g) w p →
      solitaire g a v ≡ true
  unfolding solitaire parts_for
  solitaire_intro total a v w p small mine r c =
      let n = g.size in
      let (x, e, back) = first_step c in
      let l = total.starts w x e in
      let there =
      reach_reached
      n
      (inside g (everywhere g))
      small
      (reach_map
      (λ x y d.
      let i = total.starts x y d in
      let j = total.ends x y d in
      record { edge = inside_intro (everywhere g) x y (lt-ltb x n i) (lt-ltb y n j) d; start = i; end = j })
      r) in
      let low = highest_le (highest_in g (everywhere g)) (λ x y d. priority_le_highest x (total.starts x y d)) c in
      let found =
      some_intro
      (suc (highest_in g (everywhere g)))
      (λ p. same (parity p) a && on_part g p w)
      p
      (suc-le-suc low)
      (and_intro (true_same (parity p) a mine) (cycle_on_part total p w c)) in
      within_below n _ v small ∙
      some_intro
      n
      (λ w. reached n (inside g (everywhere g)) v w && parts_for g a w)
      w
      l
      (and_intro there (within_below n _ w l ∙ found))

-- the vertices that reach u along edges inside X
abbrev Reaching : Game → Set → ℕ → Set
Reaching g X u v = reached g.size (inside g X) v u

-- from u to x, from other vertices that reach u at priorities of at most p nearer to u there, and from all others nearer to u
returning : Game → ℕ → ℕ → ℕ → ℕ → ℕ
returning g p u x v =
    cond
    (Reaching g (at_most g p) u v)
    (cond (eqb v u) x (towards g.size (inside g (at_most g p)) u v))
    (towards g.size (inside g (everywhere g)) u v)

-- links at priorities of at most p are links
pub wider : (g : Game) (p s t : ℕ) → Linked g.size (inside g (at_most g p)) s t → Linked g.size (inside g (everywhere g)) s t
wider g p s t e =
    record {
      edge =
          inside_intro g (everywhere g) s t (lt-ltb s g.size e.start) (lt-ltb t g.size e.end)
          (inside_elim g (at_most g p) s t e.edge).2;
      start = e.start;
      end = e.end;
    }

module _
    (g : Game)
    (a : Player)
    (one : (v : ℕ) → v < g.size → g.owner v ≡ a)
    (p u x : ℕ)
    (mine : parity p ≡ a)
    (exactly : g.priority u ≡ p)
    (out : Linked g.size (inside g (at_most g p)) u x)
    (back : Reaching g (at_most g p) u x ≡ true) where
  abbrev low : Set
  low = Reaching g (at_most g p) u

  abbrev far : Set
  far = Reaching g (everywhere g) u

  low_below : (v : ℕ) → low v ≡ true → v < g.size
  low_below v q = reached_from g.size (inside g (at_most g p)) v u q

  far_below : (v : ℕ) → far v ≡ true → v < g.size
  far_below v q = reached_from g.size (inside g (everywhere g)) v u q

  u_low : low u ≡ true
  u_low = reach_reached g.size (inside g (at_most g p)) out.start here

  at_u : (v : ℕ) → low v ≡ true → eqb v u ≡ true → returning g p u x v ≡ x
  unfolding returning
  at_u v q e = rw q (rw e)

  at_low : (v : ℕ) → low v ≡ true → eqb v u ≡ false → returning g p u x v ≡ towards g.size (inside g (at_most g p)) u v
  unfolding returning
  at_low v q e = rw q (rw e)

  at_far : (v : ℕ) → low v ≡ false → returning g p u x v ≡ towards g.size (inside g (everywhere g)) u v
  unfolding returning
  at_far v q = rw q

  -- the choice stays among the vertices that reach u at priorities of at most p
  low_kept : (v : ℕ) → low v ≡ true → Linked g.size (inside g (at_most g p)) v (returning g p u x v) × (low (returning g p u x v) ≡ true)
  low_kept v q =
      ⊎_elim
      (λ e. rw (at_u v q e) (rw (sym (eqb-true v u e)) at out, back))
      (λ e.
      let (f, r, near) = towards_nearer g.size (inside g (at_most g p)) u v (eqb-false v u e) q in
      rw (at_low v q e) (f, r))
      (bool_cases (eqb v u))

  -- and nears u, but at u itself
  low_nears :
      (v : ℕ) → low v ≡ true → eqb v u ≡ false →
      distance g.size (inside g (at_most g p)) u (returning g p u x v) < distance g.size (inside g (at_most g p)) u v
  low_nears v q e = rw (at_low v q e) (towards_nearer g.size (inside g (at_most g p)) u v (eqb-false v u e) q).2

  low_edge : (v : ℕ) → low v ≡ true → Edge g v (returning g p u x v)
  low_edge v q = (inside_elim g (at_most g p) v (returning g p u x v) (low_kept v q).0.edge).2

  low_priority : (v : ℕ) → low v ≡ true → g.priority v ≤ p
  low_priority v q =
      (at_most_elim g p v (inside_elim g (at_most g p) v (returning g p u x v) (low_kept v q).0.edge).0).1

  -- those vertices are a's dominion: every cycle there passes u, and p is the highest priority there
  low_dominion : Dominion g a (everywhere g) low (returning g p u x)
  low_dominion =
      record {
        within = λ v q. lt-ltb v g.size (low_below v q);
        edge = λ v q own. low_edge v q;
        own = λ v q own. (low_kept v q).1;
        other = λ v w q theirs e i. absurd (theirs (one v (low_below v q)));
        cycles =
            λ v m c.
            ⊎_elim
            (λ (y, l, e).
            ap parity (highest_is p (λ s t d. low_priority s d.start) c y l (ap g.priority (eqb-true y u e) ∙ exactly)) ∙
            mine)
            (λ missing.
            absurd (no_falling_cycle (distance g.size (inside g (at_most g p)) u) (λ s t d. nears s t d) missing))
            (hits (λ v. eqb v u) c);
      }
    where
      nears :
          (s t : ℕ) →
          Among (λ v. eqb v u ≡ false) (Inside g a low (returning g p u x)) s t →
          distance g.size (inside g (at_most g p)) u t < distance g.size (inside g (at_most g p)) u s
      nears s t d =
          rw (d.edge.edge.fixed (one s (low_below s d.edge.start))) (low_nears s d.edge.start d.start)

  -- from the others that reach u the choice nears u
  far_held : HeldOver g a (everywhere g) low (without far low) (returning g p u x)
  far_held =
      ranked_held
      (distance g.size (inside g (everywhere g)) u)
      (λ v q. lt-ltb v g.size (far_below v q))
      (λ v q outside own. let (f, r, near) = far_nears v q outside in ((inside_elim g (everywhere g) v _ f.edge).2, r, near))
      (λ v w q outside theirs. absurd (theirs (one v (far_below v q))))
    where
      far_nears :
          (v : ℕ) → far v ≡ true → low v ≡ false →
          Linked g.size (inside g (everywhere g)) v (returning g p u x v) ×
          (far (returning g p u x v) ≡ true) ×
          (distance g.size (inside g (everywhere g)) u (returning g p u x v) < distance g.size (inside g (everywhere g)) u v)
      far_nears v q outside =
          let differ : v ≡ u → ⊥ = λ e. clash (ap low e ∙ u_low) outside in
          rw (at_far v outside) (towards_nearer g.size (inside g (everywhere g)) u v differ q)

  -- so all vertices that reach u are a's dominion
  far_dominion : Dominion g a (everywhere g) far (returning g p u x)
  far_dominion =
      dominion_drawn
      (λ v q.
      reach_reached g.size (inside g (everywhere g)) (low_below v q)
      (reach_map (wider g p) (reached_reach g.size (inside g (at_most g p)) q)))
      low_dominion
      far_held

module _ (g : Game) (total : Total g) (a : Player) (one : (v : ℕ) → v < g.size → g.owner v ≡ a) where
  -- In a game with one owner the answer's vertices are won by the owner.
  pub solitaire_wins : (v : ℕ) → solitaire g a v ≡ true → Wins g a v
  solitaire_wins v q =
      let n = g.size in
      let (w, p, small, mine, r, c) = solitaire_elim g a v q in
      let on = cycle_on_cycle c in
      let u = on.vertex in
      let (m, k, from) = reach_walk on.part.1 c in
      let (x, e, rest) = first_step from in
      let back = reach_reached n (inside g (at_most g p)) e.end (reach_append rest on.part.0) in
      let there : Reach (Linked n (inside g (everywhere g))) w u = reach_map (wider g p) on.part.0 in
      dominion_wins total
      (far_dominion g a one p u x mine on.exactly e back)
      v
      (reach_reached n (inside g (everywhere g)) small (reach_append r there))

  -- What the owner wins is in the answer: the winning choice leads to a cycle, whose highest priority is the owner's.
  pub wins_solitaire : (v : ℕ) → v < g.size → Wins g a v → solitaire g a v ≡ true
  wins_solitaire v small w =
      let moves : (u : ℕ) → u < g.size → Step g a w.choice u (w.choice u) =
      λ u l. record { edge = w.fixes u l (one u l); fixed = λ e. refl } in
      let (u, m, r, c) =
      comes_back
      g.priority
      (Step g a w.choice)
      g.size
      w.choice
      moves
      (λ u l. total.ends u (w.choice u) (w.fixes u l (one u l)))
      v
      small in
      solitaire_intro g total a v u m small (w.wins u m r c) (reach_map (λ x y s. s.edge) r) (walk_map (λ x y s. s.edge) c)

  -- **Solitaire is exactly the owner's winning set**, whatever the winning sets were worked out by.
  pub solitaire_exact : (won : Player → Set) → WinningSets g won → (v : ℕ) → v < g.size → solitaire g a v ≡ won a v
  solitaire_exact won sets v small =
      bool_ext
      (solitaire g a v)
      (won a v)
      (λ q. (sets a v small).1 (solitaire_wins v q))
      (λ q. wins_solitaire v small ((sets a v small).0 q))

  -- All other vertices are the opponent's.
  pub solitaire_rest : (v : ℕ) → v < g.size → solitaire g a v ≡ false → Wins g (opponent a) v
  solitaire_rest v small q =
      record {
        choice = λ u. u;
        fixes = λ u l theirs. absurd (opponent_is_other theirs (one u l));
        wins =
            λ u m r c.
            ⊎_elim
            (λ mine.
            absurd
            (clash
            (solitaire_intro g total a v u m small mine (reach_map (λ x y s. s.edge) r) (walk_map (λ x y s. s.edge) c))
            q))
            (λ theirs. theirs)
            (player_cases a (parity m));
      }

-- Tables that 11 does not refuse have one owner.
pub accepted_one_owner :
    (t : Tables) →
    check11 (vertices t) t.owners ≡ none →
    (v : ℕ) →
    v < (game_of t).size →
    (game_of t).owner v ≡ player_of (get_or t.owners 0 0)
unfolding game_of check11
accepted_one_owner t ok v l =
    let differs : Set = λ u. not (eqb (get_or t.owners u 0) (get_or t.owners 0 0)) in
    let found = some_false (vertices t) differs (given_none 11 0 (some (vertices t) differs) ok) v l in
    ap player_of (eqb-true (get_or t.owners v 0) (get_or t.owners 0 0) (not-false _ found))
