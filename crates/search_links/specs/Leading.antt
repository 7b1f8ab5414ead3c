-- What the tests of the code say of the links: v leads to w where there is an edge, both are let in, and v keeps the edge.
use Rattle.std.proofs.Math.Bool.{true, false, cond}
use Rattle.std.specs.Prelude.{◌&&◌, List, [], ◌∷◌, ◌≡◌, ℕ, zero, suc, ◌+◌, ◌≤◌, ◌<◌, length, get_or}
use Rattle.std.proofs.Math.Logic.{⊎_elim}
use Rattle.std.proofs.Math.Path.{refl, sym}
use Rattle.std.proofs.Common.{◌∙◌, le_of_suc-le-suc, not-suc-le-zero, arith}
use borrow.Author.Tests.{eqb-true, eqb-false, eq-eqb, ne_eqb, leb-true, le-leb, lt-leb}
use Rattle.std.proofs.Math.Dec.{eqb, leb}
use Rattle.std.proofs.Math.ListN.{get_or-eq_default}
use Rattle.rules.specs.Counting.{some_of}
use Rattle.rules.specs.Game.{Edge}
use Rattle.rules.specs.Tables.{Tables, game_of}
use Rattle.rules.specs.Words.{entry, no_entry}
use Rattle.basics.specs.Basics.{bool_cases, and_intro, and_left, and_right, or_left, or_right, or_cases}
use Rattle.theory.specs.Solitaire.{edge_test, test_edge, at_most_elim, at_most_intro}
use Rattle.accepted.specs.Tables as Tables
use Rattle.predecessors.specs.Steps.{offset_within}
use Rattle.search_links.specs.Graph.{Graph, size, edge_count, priority, offset, target, game_in, low, Leads, SoundGraph, keeping, fresh_at}

-- within the list the default plays no part
pub get_or_within : (xs : List ℕ) (i a b : ℕ) → i < length xs → get_or xs i a ≡ get_or xs i b
get_or_within [] i a b l = absurd (not-suc-le-zero l)
get_or_within (x ∷ xs) zero a b l = refl
get_or_within (x ∷ xs) (suc i) a b l = get_or_within xs i a b (le_of_suc-le-suc l)

module _ (entries : List ℕ) (v w : ℕ) where
  pub keeping_past : length entries ≤ v → true ≡ keeping entries v w
  unfolding keeping
  keeping_past l =
      sym (or_left (eqb (entry entries v) no_entry) (eqb w (entry entries v))
      (eq-eqb (entry entries v) no_entry (get_or-eq_default entries no_entry {n = v} l)))

  pub keeping_none : v < length entries → get_or entries v 0 ≡ no_entry → true ≡ keeping entries v w
  unfolding keeping
  keeping_none l e =
      sym (or_left (eqb (entry entries v) no_entry) (eqb w (entry entries v)) (eq-eqb (entry entries v) no_entry (get_or_within entries v no_entry 0 l ∙ e)))

  pub keeping_entry : v < length entries → (get_or entries v 0 ≡ no_entry → ⊥) → eqb w (get_or entries v 0) ≡ keeping entries v w
  unfolding keeping
  keeping_entry l d =
      let is = get_or_within entries v no_entry 0 l in
      rw (is, ne_eqb (get_or entries v 0) no_entry d)

module _ (priorities : List ℕ) (p : ℕ) (work : List ℕ) (base x : ℕ) where
  pub fresh_high : p < get_or priorities x 0 → false ≡ fresh_at priorities p work base x
  unfolding fresh_at
  fresh_high l = rw (lt-leb (get_or priorities x 0) p l)

  pub fresh_low : get_or priorities x 0 ≤ p → eqb (get_or work (base + x) 0) 0 ≡ fresh_at priorities p work base x
  unfolding fresh_at
  fresh_low l = rw (le-leb (get_or priorities x 0) p l)

  pub fresh_true : fresh_at priorities p work base x ≡ true → (get_or priorities x 0 ≤ p) × (get_or work (base + x) 0 ≡ 0)
  unfolding fresh_at
  fresh_true e =
      let a = leb (get_or priorities x 0) p in
      let b = eqb (get_or work (base + x) 0) 0 in
      (leb-true _ _ (and_left a b e), eqb-true _ _ (and_right a b e))

  pub true_fresh : get_or priorities x 0 ≤ p → get_or work (base + x) 0 ≡ 0 → fresh_at priorities p work base x ≡ true
  unfolding fresh_at
  true_fresh l e = and_intro (le-leb (get_or priorities x 0) p l) (eq-eqb (get_or work (base + x) 0) 0 e)

-- the tables, with any owners
abbrev tables : Graph → Tables
tables G = record { owners = G.priorities; priorities = G.priorities; offsets = G.offsets; targets = G.targets }

-- what v leads to, taken apart
pub record Link (G : Graph) (v w : ℕ) : Type 0 where
  pub edge : Edge (game_in G) v w
  pub start : v < size G
  pub end : w < size G
  pub start_low : priority G v ≤ G.top
  pub end_low : priority G w ≤ G.top
  pub kept : keeping G.entries v w ≡ true

module _ (G : Graph) (sound : SoundGraph G) where
  pub edge_within : (v : ℕ) → v < size G → offset G (v + 1) ≤ edge_count G
  edge_within v l = offset_within (size G) G.offsets G.targets sound.edges (v + 1) (omega arith)

  -- the edges of v in the table of targets
  pub edge_at : (v e : ℕ) → v < size G → offset G v ≤ e → e < offset G (v + 1) → Edge (game_in G) v (target G e)
  unfolding game_of
  edge_at v e l a b = Tables.place_edge (tables G) v e a b (omega (arith, edge_within v l))

  pub edge_place : (v w : ℕ) → Edge (game_in G) v w → (e : ℕ) × (offset G v ≤ e) × (e < offset G (v + 1)) × (e < edge_count G) × (target G e ≡ w)
  unfolding game_of
  edge_place v w edge = Tables.edge_place (tables G) v w edge

  pub link : (v w : ℕ) → Leads G v w → Link G v w
  unfolding keeping
  link v w leads =
      let both = low G v && low G w in
      let given = eqb (entry G.entries v) no_entry in
      let last = cond given (some_of ((game_in G).targets v) (eqb w)) (eqb w (entry G.entries v)) in
      let ends = and_left both last leads.edge in
      let chosen = and_right both last leads.edge in
      record {
        edge =
            ⊎_elim
            (λ e. test_edge (game_in G) v w (rw e at chosen))
            (λ e.
            let is = eqb-true w (entry G.entries v) (rw e at chosen) in
            rw is (sound.entry_edge v leads.start (eqb-false (entry G.entries v) no_entry e)))
            (bool_cases given);
        start = leads.start;
        end = leads.end;
        start_low = (at_most_elim (game_in G) G.top v (and_left (low G v) (low G w) ends)).1;
        end_low = (at_most_elim (game_in G) G.top w (and_right (low G v) (low G w) ends)).1;
        kept =
            ⊎_elim
            (λ e. or_left given (eqb w (entry G.entries v)) e)
            (λ e. or_right given (eqb w (entry G.entries v)) (rw e at chosen))
            (bool_cases given);
      }

  pub leads : (v w : ℕ) → Link G v w → Leads G v w
  unfolding keeping
  leads v w l =
      let given = eqb (entry G.entries v) no_entry in
      record {
        edge =
            and_intro
            (and_intro
            (at_most_intro (game_in G) G.top v l.start l.start_low)
            (at_most_intro (game_in G) G.top w l.end l.end_low))
            (⊎_elim
            (λ e. rw e (edge_test (game_in G) v w l.edge))
            (λ e.
            rw e
            (⊎_elim
            (λ (k : given ≡ true). absurd (differ (sym k ∙ e)))
            (λ k. k)
            (or_cases given (eqb w (entry G.entries v)) l.kept)))
            (bool_cases given));
        start = l.start;
        end = l.end;
      }
    where
      differ : true ≡ false → ⊥
      differ e = eqb-false 0 0 e refl
