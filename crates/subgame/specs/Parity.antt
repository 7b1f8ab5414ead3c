-- The good parts of all priorities of one parity, and the predecessor table and the game that callers bring.
use Rattle.std.specs.Prelude.{Bool, ◌&&◌, ◌||◌, ◌≡◌, ℕ, ◌+◌, ◌-◌, ◌*◌, ◌/◌, ◌%◌, ◌≤◌, ◌<◌, eqb, length, get_or}
use Rattle.std.proofs.Math.Bool.{true, false}
use mathlib.Core.List.{List, Memᴰ}
use Rattle.std.proofs.Math.Path.{refl, sym, ap, fun_ext}
use Rattle.std.proofs.Common.{subst, ◌∙◌, le_refl, add-one, arith, eqb-true, eq-eqb, get_or-take}
use Rattle.rules.specs.Counting.{Set, some, times}
use Rattle.rules.specs.Game.{Edge, player_of}
use Rattle.rules.specs.Record.{counts_of, fresh_count}
use Rattle.rules.specs.Solitaire.{at_most, good_part, same_part}
use Rattle.rules.specs.Tables.{Tables, vertices, targets_of, game_of, Accepted}
use Rattle.rules.specs.Words.{entry, no_entry}
use Rattle.basics.specs.Basics.{member_place, place_member, times_pos, times_member}
use Rattle.basics.specs.Basics.{bool_ext, and_intro, and_left, and_right, some_intro, some_elim, some_false, clash, not_true_is_false}
use Rattle.basics.specs.Frame.{Beside, Below, Unchanged}
use Rattle.theory.specs.Chosen.{chosen_part}
use Rattle.theory.specs.Counts.{length_fresh, take_fresh, counted_used}
use Rattle.parity_game.specs.Laws.{accepted_sound}
use Rattle.predecessors.specs.Table.{start, row, TableReady, Predecessors}
use Rattle.predecessors.specs.Whole.{starts_grow, row_length, row_at, accepted_edges}
use Rattle.search_rows.specs.Rows.{marks, behind}
use Rattle.search_links.specs.Area.{marked, false_marked}
use Rattle.search_links.specs.Graph.{Graph, graph, size, edge_count, game_in, links_in, SoundGraph}
use Rattle.backward_look.specs.Seeking.{Rows}
use Rattle.parts.specs.Whole.{PartsMarkable, PartsMarked}

pub record Sweepable (priorities offsets targets entries : List ℕ) (parity : ℕ) (work : List ℕ) (base : ℕ) : Type 0 where
  pub markable : (p : ℕ) → PartsMarkable (graph priorities offsets targets entries p) work base
  pub parity_small : parity ≤ 1

-- the priorities 2 j + parity for j below k were gone through
pub record Swept (priorities offsets targets entries : List ℕ) (parity base k : ℕ) (before after : List ℕ) : Type 0 where
  pub long : length after ≡ length before
  pub table : Unchanged (Below (marks (length priorities) (length targets))) before after
  pub rest :
      (i : ℕ) → behind (length priorities) (length targets) ≤ i → Beside (length priorities) base i → get_or after i 0 ≡ get_or before i 0
  pub found :
      (v : ℕ) → v < length priorities →
      marked (length priorities) base after v ≡
      (marked (length priorities) base before v ||
      some k (λ j. chosen_part (game_in (graph priorities offsets targets entries 0)) entries (2 * j + parity) v))

-- the row by what it is equal to
pub sweepable_as :
    {priorities offsets targets entries work : List ℕ} {parity base base' : ℕ} →
    base ≡ base' → Sweepable priorities offsets targets entries parity work base' → Sweepable priorities offsets targets entries parity work base
sweepable_as {priorities} {offsets} {targets} {entries} {work} {parity} e h =
    subst (λ (k : ℕ). Sweepable priorities offsets targets entries parity work k) (sym e) h

pub swept_as :
    {priorities offsets targets entries before after : List ℕ} {parity base base' k : ℕ} →
    base ≡ base' → Swept priorities offsets targets entries parity base k before after →
    Swept priorities offsets targets entries parity base' k before after
swept_as {priorities} {offsets} {targets} {entries} {before} {after} {parity} {k = k} e h =
    subst (λ (b : ℕ). Swept priorities offsets targets entries parity b k before after) e h

or_nothing : (b : Bool) → (b || false) ≡ b
or_nothing true = refl
or_nothing false = refl

-- kept numbers have a place for each priority, and 0 there tells that no vertex has it
pub kept_long : (ps kept : List ℕ) → kept ≡ fresh_count ps → length kept ≡ 258
kept_long ps kept fresh = ap (λ (ks : List ℕ). length ks) fresh ∙ length_fresh ps

pub kept_unused :
    (ps kept : List ℕ) (p : ℕ) →
    kept ≡ fresh_count ps →
    p < 256 →
    get_or kept p 0 ≡ 0 →
    some (length ps) (λ v. eqb (get_or ps v 0) p) ≡ false
kept_unused ps kept p fresh low zero =
    let at : get_or (counts_of ps) p 0 ≡ 0 =
    ap (λ (ks : List ℕ). get_or ks p 0) (sym (take_fresh ps)) ∙ get_or-take 256 (fresh_count ps) p 0 low ∙
    ap (λ (ks : List ℕ). get_or ks p 0) (sym fresh) ∙ zero in
    sym (counted_used ps p low) ∙ rw at

-- a priority that no vertex has has no part
pub marked_unused :
    (G : Graph) (base : ℕ) (work : List ℕ) →
    some (size G) (λ v. eqb (get_or G.priorities v 0) G.top) ≡ false →
    PartsMarked G base work work
unfolding good_part
marked_unused G base work none =
    record {
      long = refl;
      table = λ i l. refl;
      rest = λ i b o. refl;
      found =
          λ v l.
          sym (ap (λ (b : Bool). marked (size G) base work v || b) (no_part v) ∙ or_nothing (marked (size G) base work v));
    }
  where
    no_part : (v : ℕ) → chosen_part (game_in G) G.entries G.top v ≡ false
    no_part v =
        not_true_is_false _
        (λ q.
        let (u, l, met) = some_elim (size G) _ (and_left _ _ (and_right (at_most (game_in G) G.top v) _ q)) in
        clash (and_right (same_part (size G) (links_in G) v u) _ met) (some_false (size G) _ none u l))

-- the table depends on its own words alone
pub rows_alike :
    (G : Graph) (before after : List ℕ) →
    (Unchanged (Below (marks (size G) (edge_count G))) before after) →
    Rows G before →
    Rows G after
rows_alike G before after h rows =
    record {
      rising = λ x l. rw (h x (omega arith), h (x + 1) (omega arith)) (rows.rising x l);
      top = λ x l. rw (h (x + 1) (omega arith)) (rows.top x l);
      vertex =
          λ x e l a b.
          let (a', b') = place x e l a b in
          rw (h (size G + 1 + e) (omega (arith, rows.top x l))) (rows.vertex x e l a' b');
      edge =
          λ x e l a b.
          let (a', b') = place x e l a b in
          rw (h (size G + 1 + e) (omega (arith, rows.top x l))) (rows.edge x e l a' b');
      entry =
          λ v x l edge.
          let (e, a, b, is) = rows.entry v x l edge in (
            e,
            rw (h x (omega arith)) a,
            rw (h (x + 1) (omega arith)) b,
            h (size G + 1 + e) (omega (arith, rows.top x l)) ∙ is,
          );
    }
  where
    place :
        (x e : ℕ) → x < size G → get_or after x 0 ≤ e → e < get_or after (x + 1) 0 → (get_or before x 0 ≤ e) × (e < get_or before (x + 1) 0)
    place x e l a b = (rw (sym (h x (omega arith))) a, rw (sym (h (x + 1) (omega arith))) b)

module _ (priorities offsets targets entries : List ℕ) (parity : ℕ) (before : List ℕ) (base : ℕ)
    (given : Sweepable priorities offsets targets entries parity before base) where
  pub swept_none : Swept priorities offsets targets entries parity base 0 before before
  unfolding some
  swept_none =
      record {
        long = refl;
        table = λ i l. refl;
        rest = λ i a o. refl;
        found = λ v l. sym (or_nothing (marked (length priorities) base before v));
      }

  module _ (k : ℕ) (work : List ℕ) (s : Swept priorities offsets targets entries parity base k before work) where
    pub sweep_ready : PartsMarkable (graph priorities offsets targets entries (2 * k + parity)) work base
    sweep_ready =
        let m = given.markable (2 * k + parity) in
        record {
          sound = m.sound;
          rows = rows_alike (graph priorities offsets targets entries (2 * k + parity)) before work s.table m.rows;
          low_end = m.low_end;
          fits = omega (arith, m.fits, s.long);
        }

    pub swept_more : (after : List ℕ) → PartsMarked (graph priorities offsets targets entries (2 * k + parity)) base work after →
        Swept priorities offsets targets entries parity base (k + 1) before after
    unfolding some
    swept_more after a =
        record {
          long = a.long ∙ s.long;
          table = λ i l. a.table i l ∙ s.table i l;
          rest = λ i b o. a.rest i b o ∙ s.rest i b o;
          found =
              λ v l.
              rw (add-one k)
              (a.found v l ∙
              ap (λ (b : Bool). b || chosen_part (game_in (graph priorities offsets targets entries 0)) entries (2 * k + parity) v) (s.found v l) ∙
              or_assoc (marked (length priorities) base before v) _ _);
        }
      where
        or_assoc : (a b c : Bool) → ((a || b) || c) ≡ (a || (b || c))
        or_assoc true b c = refl
        or_assoc false b c = refl

-- ---- what callers bring

module _ (t : Tables) (accepted : Accepted t) (before after : List ℕ) (ready : TableReady (vertices t) t.offsets t.targets before)
    (p : Predecessors (vertices t) t.offsets t.targets before after) where
  abbrev vs : ℕ
  vs = vertices t

  -- the rows of the predecessor table
  pub predecessor_rows : (entries : List ℕ) (top : ℕ) → Rows (graph t.priorities t.offsets t.targets entries top) after
  predecessor_rows entries top =
      record {
        rising = λ w l. omega (arith, p.start_next w (small w l));
        top =
            λ w l. omega (
              arith,
              starts_grow vs t.offsets t.targets before after ready p (w + 1) vs (omega (arith, small w l)) (le_refl vs),
              p.start_last,
            );
        vertex = λ w e l a b. subst (λ (x : ℕ). x < length t.priorities) (at_entry w e (small w l) a b) (below (source_below w e (small w l) a b));
        edge =
            λ w e l a b. subst (λ (x : ℕ). Edge (game_in (graph t.priorities t.offsets t.targets entries top)) x w)
            (at_entry w e (small w l) a b) (is_edge w e (small w l) a b);
        entry = λ v w l edge. find v w (small w l) edge;
      }
    where
      each : length t.priorities ≡ vs
      each = (accepted_sound t accepted).priority_each

      small : (w : ℕ) → w < length t.priorities → w < vs
      small w l = rw (sym each) l

      below : {x : ℕ} → x < vs → x < length t.priorities
      below l = rw each l

      long : (w : ℕ) → w < vs → length (row vs after w) ≡ times w t.targets
      long w l = row_length vs t.offsets t.targets before after ready p w l

      place : (w e : ℕ) → w < vs → start after w ≤ e → e < start after (w + 1) → e - start after w < times w t.targets
      place w e l a b = omega (arith, p.start_next w l)

      at_entry : (w e : ℕ) → w < vs → start after w ≤ e → e < start after (w + 1) →
          get_or (row vs after w) (e - start after w) 0 ≡ get_or after (length t.priorities + 1 + e) 0
      at_entry w e l a b =
          let sum : vs + 1 + start after w + (e - start after w) ≡ length t.priorities + 1 + e = omega (arith, each) in
          row_at vs t.offsets t.targets before after ready p w (e - start after w) l (place w e l a b) ∙ ap (λ (i : ℕ). get_or after i 0) sum

      source_below : (w e : ℕ) → w < vs → start after w ≤ e → e < start after (w + 1) → get_or (row vs after w) (e - start after w) 0 < vs
      source_below w e l a b = p.sources w (e - start after w) l (rw (long w l) (place w e l a b))

      is_edge : (w e : ℕ) → w < vs → start after w ≤ e → e < start after (w + 1) →
          Memᴰ w (targets_of t.offsets t.targets (get_or (row vs after w) (e - start after w) 0))
      is_edge w e l a b =
          let x = get_or (row vs after w) (e - start after w) 0 in
          let stands = times_pos x (row vs after w) (place_member (row vs after w) (e - start after w) (rw (long w l) (place w e l a b))) in
          times_member w (targets_of t.offsets t.targets x) (rw (p.rows x w l) at stands)

      find : (v w : ℕ) → w < vs → Memᴰ w (targets_of t.offsets t.targets v) →
          (e : ℕ) × (start after w ≤ e) × (e < start after (w + 1)) × (get_or after (length t.priorities + 1 + e) 0 ≡ v)
      find v w l edge =
          let some-times = times_pos w (targets_of t.offsets t.targets v) edge in
          let stands = times_member v (row vs after w) (rw (sym (p.rows v w l)) at some-times) in
          let (k, short, is) = member_place (row vs after w) stands in
          let short' : k < times w t.targets = rw (long w l) at short in
          let next = p.start_next w l in
          let sum : vs + 1 + start after w + k ≡ length t.priorities + 1 + (start after w + k) = omega (arith, each) in (
            start after w + k,
            omega arith,
            omega arith,
            ap (λ (i : ℕ). get_or after i 0) (sym sum) ∙ sym (row_at vs t.offsets t.targets before after ready p w k l short') ∙ is,
          )

-- a game is looked at by its size, priorities and targets alone
pub game_of_lem : (t : Tables) → Accepted t → (entries : List ℕ) (top p v : ℕ) →
    chosen_part (game_in (graph t.priorities t.offsets t.targets entries top)) entries p v ≡ chosen_part (game_of t) entries p v
unfolding game_of good_part
game_of_lem t accepted entries top p v =
    ap
    (λ (k : ℕ).
    chosen_part
    (record {
      size = k;
      owner = λ u. player_of (get_or t.owners u 0);
      priority = λ u. get_or t.priorities u 0;
      targets = targets_of t.offsets t.targets;
    })
    entries p v)
    (accepted_sound t accepted).priority_each

pub graph_sound : (t : Tables) → Accepted t → (entries : List ℕ) (top : ℕ) →
    ((v : ℕ) → v < vertices t → (entry entries v ≡ no_entry → ⊥) → Edge (game_of t) v (entry entries v)) →
    SoundGraph (graph t.priorities t.offsets t.targets entries top)
unfolding game_of
graph_sound t accepted entries top edges =
    let each = (accepted_sound t accepted).priority_each in
    record {
      edges = rw each (accepted_edges t accepted);
      entry_edge = λ v l d. edges v (rw (sym each) l) d;
    }

-- a priority below 256 of one parity is 2 j + q
parity_some : (q : ℕ) (f : Set) → q ≤ 1 → some 128 (λ j. f (2 * j + q)) ≡ some 256 (λ p. eqb (p % 2) q && f p)
parity_some q f l =
    bool_ext (some 128 (λ j. f (2 * j + q))) (some 256 (λ p. eqb (p % 2) q && f p))
    (λ e.
    let (j, k, h) = some_elim 128 (λ j. f (2 * j + q)) e in
    let is : (2 * j + q) % 2 ≡ q = omega arith in
    some_intro 256 (λ p. eqb (p % 2) q && f p) (2 * j + q) (omega arith) (and_intro (eq-eqb ((2 * j + q) % 2) q is) h))
    (λ e.
    let (p, k, h) = some_elim 256 (λ p. eqb (p % 2) q && f p) e in
    let is = eqb-true (p % 2) q (and_left (eqb (p % 2) q) (f p) h) in
    let at : 2 * (p / 2) + q ≡ p = omega arith in
    some_intro 128 (λ j. f (2 * j + q)) (p / 2) (omega arith) (ap f at ∙ and_right (eqb (p % 2) q) (f p) h))

-- what a row that was blank has in the end: the vertices of good parts for a priority below 256 of that parity
pub swept_all :
    (t : Tables) → Accepted t → (entries : List ℕ) (q base : ℕ) (before after : List ℕ) → q ≤ 1 →
    Swept t.priorities t.offsets t.targets entries q base 128 before after →
    ((v : ℕ) → v < length t.priorities → get_or before (base + v) 0 ≡ 0) →
    (v : ℕ) → v < length t.priorities →
    marked (length t.priorities) base after v ≡ some 256 (λ p. eqb (p % 2) q && chosen_part (game_of t) entries p v)
swept_all t accepted entries q base before after small s blank v l =
    s.found v l ∙
    ap
    (λ (b : Bool).
    b || some 128 (λ j. chosen_part (game_in (graph t.priorities t.offsets t.targets entries 0)) entries (2 * j + q) v))
    (false_marked (length t.priorities) base before v (blank v l)) ∙
    ap (some 128) (fun_ext (λ j. game_of_lem t accepted entries 0 (2 * j + q) v)) ∙
    parity_some q (λ p. chosen_part (game_of t) entries p v) small
