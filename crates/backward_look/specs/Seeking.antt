-- The second pass over the work area: the search for one part against the links, and what it leaves.
use Rattle.std.specs.Prelude.{Bool, false, ◌&&◌, List, ◌≡◌, refl, ℕ, ◌+◌, ◌-◌, ◌≤◌, ◌<◌, length, get_or, set}
use Rattle.std.proofs.Math.Bool.{true}
use Rattle.std.proofs.Common.{inl, ◌∙◌, le_refl}
use Rattle.std.proofs.Math.Logic.{⊎_elim}
use Rattle.std.proofs.Math.Path.{sym, ap, subst}
use Rattle.std.proofs.Math.Numerals.{add-one}
use native.Mathlib.Omega.{arith}
use Rattle.rules.specs.Counting.{Set, count}
use Rattle.rules.specs.Game.{Edge}
use Rattle.basics.specs.Basics.{clash, and_intro, and_left, and_right, not_false_is_true, not_true_is_false, below_suc}
use Rattle.basics.specs.Basics.{count_strict, count_le}
use Rattle.theory.specs.DepthFirst.{FinishingOrder, Marks, marks_cases, marks_keeps, marks_count}
use Rattle.theory.specs.Kosaraju.{Assigned, PartSought}
use Rattle.search_rows.specs.Rows.{marks, order, queue, labels, hits}
use Rattle.search_links.specs.Area.{Within, within_same, within_then, within_store}
use Rattle.search_links.specs.Area.{marked, marked_true, false_marked, marked_false, marked_marks}
use Rattle.search_links.specs.Graph.{Graph, size, edge_count, priority, game_in, low, Leads, SoundGraph, keeping, fresh_at}
use Rattle.search_links.specs.Leading.{fresh_true, true_fresh, link, leads}
use Rattle.depth_first.specs.Walking.{Room, finished, stored_first, stored_second, stored_else}

-- the vertices that have a label, the word of the label, which is the label plus 1, and the queue
abbrev pub assigned : Graph → List ℕ → Set
assigned G work = marked (size G) (labels (size G) (edge_count G)) work

abbrev pub label_word : Graph → List ℕ → ℕ → ℕ
label_word G work v = get_or work (labels (size G) (edge_count G) + v) 0

abbrev pub label_of : Graph → List ℕ → ℕ → ℕ
label_of G work v = label_word G work v - 1

abbrev pub queued : Graph → List ℕ → ℕ → ℕ
queued G work k = get_or work (queue (size G) (edge_count G) + k) 0

-- the predecessor table at the front of the work area: where the row of w starts, and its entries
abbrev pub row_start : List ℕ → ℕ → ℕ
row_start work w = get_or work w 0

abbrev pub source : Graph → List ℕ → ℕ → ℕ
source G work e = get_or work (size G + 1 + e) 0

pub record Rows (G : Graph) (work : List ℕ) : Type 0 where
  pub rising : (w : ℕ) → w < size G → row_start work w ≤ row_start work (w + 1)
  pub top : (w : ℕ) → w < size G → row_start work (w + 1) ≤ edge_count G
  pub vertex : (w e : ℕ) → w < size G → row_start work w ≤ e → e < row_start work (w + 1) → source G work e < size G
  pub edge : (w e : ℕ) → w < size G → row_start work w ≤ e → e < row_start work (w + 1) → Edge (game_in G) (source G work e) w
  pub entry :
      (v w : ℕ) → w < size G → Edge (game_in G) v w → (e : ℕ) × (row_start work w ≤ e) × (e < row_start work (w + 1)) × (source G work e ≡ v)

-- ---- what the functions ask for and leave

pub record Putable (row x queue at : ℕ) (work : List ℕ) : Type 0 where
  pub word : row + x < length work
  pub place : queue + at < length work

abbrev pub putting : ℕ → ℕ → ℕ → ℕ → ℕ → List ℕ → List ℕ
putting row x word queue at work = set (set work (row + x) word) (queue + at) x

-- the rows by what they are equal to
pub putable_as :
    {row row' x queue queue' at : ℕ} {work : List ℕ} →
    row ≡ row' → queue ≡ queue' → Putable row' x queue' at work → Putable row x queue at work
putable_as a b h = record { word = rw a h.word; place = rw b h.place }

pub putting_as :
    {row row' queue queue' : ℕ} (x word at : ℕ) (work : List ℕ) →
    row ≡ row' → queue ≡ queue' → putting row x word queue at work ≡ putting row' x word queue' at work
putting_as x word at work a b = rw (a, b)

-- what a look at an entry answered, by what the rows are equal to
pub opens_as :
    {row start : ℕ} {answer b : Bool} (G : Graph) (work : List ℕ) (e w : ℕ) →
    row ≡ labels (size G) (edge_count G) →
    start ≡ size G + 1 →
    answer ≡ (fresh_at G.priorities G.top work row (get_or work (start + e) 0) && keeping G.entries (get_or work (start + e) 0) w) →
    answer ≡ b →
    (fresh_at G.priorities G.top work (labels (size G) (edge_count G)) (source G work e) && keeping G.entries (source G work e) w) ≡ b
opens_as G work e w a b is said = rw (← a, ← b) (sym is ∙ said)

pub record Lookable (G : Graph) (work : List ℕ) (w r tail : ℕ) : Type 0 where
  pub sound : SoundGraph G
  pub room : Room G work
  pub rows : Rows G work
  pub vertex : w < size G
  pub root : r ≤ size G
  pub few : tail ≤ count (size G) (assigned G work)
  pub rising : row_start work w ≤ row_start work (w + 1)
  pub top : row_start work (w + 1) ≤ edge_count G
  pub next : w + 1 ≤ size G
  pub end_low : priority G w ≤ G.top

-- the entries of w's row before entry e were looked at
pub record Looked (G : Graph) (before : List ℕ) (w r tail e : ℕ) (after : List ℕ) (end : ℕ) : Type 0 where
  pub within : Within (queue (size G) (edge_count G)) (hits (size G) (edge_count G)) before after
  pub grows : (u : ℕ) → assigned G before u ≡ true → assigned G after u ≡ true
  pub old : (u : ℕ) → assigned G before u ≡ true → label_word G after u ≡ label_word G before u
  pub new : (u : ℕ) → assigned G after u ≡ true → assigned G before u ≡ false → label_word G after u ≡ r + 1
  pub leading : (u : ℕ) → assigned G after u ≡ true → assigned G before u ≡ false → Leads G u w
  pub stands :
      (u : ℕ) → assigned G after u ≡ true → assigned G before u ≡ false → (k : ℕ) × (tail ≤ k) × (k < end) × (queued G after k ≡ u)
  pub stood : (k : ℕ) → k < tail → queued G after k ≡ queued G before k
  pub joined : (k : ℕ) → tail ≤ k → k < end → (assigned G after (queued G after k) ≡ true) × (assigned G before (queued G after k) ≡ false)
  pub seen : (i : ℕ) → row_start before w ≤ i → i < e → Leads G (source G before i) w → assigned G after (source G before i) ≡ true
  pub grown : tail ≤ end
  pub few : end ≤ count (size G) (assigned G after)
  pub room : end ≤ size G

-- the same within the loop
pub record LookingBack (G : Graph) (before : List ℕ) (w r tail last e : ℕ) (after : List ℕ) (end : ℕ) : Type 0 where
  pub is_last : last ≡ row_start before (w + 1)
  pub low_end : row_start before w ≤ e
  pub high_end : e ≤ last
  pub long : length after ≡ length before
  pub looked : Looked G before w r tail e after end

pub looking_as :
    {G : Graph} {before : List ℕ} {w r tail e : ℕ} {after after' : List ℕ} {end end' : ℕ} →
    after' ≡ after →
    end' ≡ end →
    Looked G before w r tail e after end →
    Looked G before w r tail e after' end'
looking_as {G} {before} {w} {r} {tail} {e} {after} {after'} {end} {end'} a b s =
    subst (λ (xs : List ℕ). Looked G before w r tail e xs end') (sym a)
    (subst (λ (k : ℕ). Looked G before w r tail e after k) (sym b) s)

pub record Findable (G : Graph) (work : List ℕ) (r : ℕ) : Type 0 where
  pub sound : SoundGraph G
  pub room : Room G work
  pub rows : Rows G work
  pub vertex : r < size G
  pub small : priority G r ≤ G.top
  pub fresh : label_word G work r ≡ 0

pub record PartFound (G : Graph) (before : List ℕ) (r : ℕ) (after : List ℕ) : Type 0 where
  pub within : Within (queue (size G) (edge_count G)) (hits (size G) (edge_count G)) before after
  pub sought : PartSought (Leads G) (assigned G before) r (assigned G after) (λ u. ⊥)
  pub old : (u : ℕ) → assigned G before u ≡ true → label_word G after u ≡ label_word G before u
  pub new : (u : ℕ) → assigned G after u ≡ true → assigned G before u ≡ false → label_word G after u ≡ r + 1

pub record Labelling (G : Graph) (work : List ℕ) (done : ℕ) : Type 0 where
  pub sound : SoundGraph G
  pub room : Room G work
  pub rows : Rows G work
  pub clear : (v : ℕ) → v < size G → label_word G work v ≡ 0
  pub few : done ≤ size G
  pub ordered : FinishingOrder (Leads G) (low G) (finished G done work)
  pub vertices : (k : ℕ) → k < done → get_or work (order (size G) (edge_count G) + k) 0 < size G
  pub small : (k : ℕ) → k < done → priority G (get_or work (order (size G) (edge_count G) + k) 0) ≤ G.top

pub record Labelled (G : Graph) (before after : List ℕ) : Type 0 where
  pub within : Within (queue (size G) (edge_count G)) (hits (size G) (edge_count G)) before after
  pub parts : Assigned (Leads G) (assigned G after) (label_of G after)
  pub all : (v : ℕ) → low G v ≡ true → assigned G after v ≡ true

-- ---- laws

-- the table stays where only words behind it change
pub rows_kept :
    {G : Graph} {lo hi : ℕ} {before after : List ℕ} → marks (size G) (edge_count G) ≤ lo → Within lo hi before after → Rows G before → Rows G after
rows_kept {G} {lo} {hi} {before} {after} h w rows =
    record {
      rising = λ x l. rw (start x (omega arith), start (x + 1) (omega arith)) (rows.rising x l);
      top = λ x l. rw (start (x + 1) (omega arith)) (rows.top x l);
      vertex =
          λ x e l a b.
          let (low-e, high-e) = place x e l a b in
          rw (entry x e l a b) (rows.vertex x e l low-e high-e);
      edge =
          λ x e l a b.
          let (low-e, high-e) = place x e l a b in
          rw (entry x e l a b) (rows.edge x e l low-e high-e);
      entry =
          λ v x l edge.
          let (e, a, b, is) = rows.entry v x l edge in (
            e,
            rw (start x (omega arith)) a,
            rw (start (x + 1) (omega arith)) b,
            w.rest (size G + 1 + e) (inl (omega (arith, rows.top x l))) ∙ is,
          );
    }
  where
    start : (x : ℕ) → x ≤ size G → row_start after x ≡ row_start before x
    start x l = w.rest x (inl (omega arith))

    place :
        (x e : ℕ) → x < size G → row_start after x ≤ e → e < row_start after (x + 1) → (row_start before x ≤ e) × (e < row_start before (x + 1))
    place x e l a b = (rw (sym (start x (omega arith))) a, rw (sym (start (x + 1) (omega arith))) b)

    entry : (x e : ℕ) → x < size G → row_start after x ≤ e → e < row_start after (x + 1) → source G after e ≡ source G before e
    entry x e l a b =
        let high-e = (place x e l a b).1 in
        w.rest (size G + 1 + e) (inl (omega (arith, rows.top x l)))

module _ (G : Graph) (before : List ℕ) (w r tail : ℕ) (given : Lookable G before w r tail) where
  abbrev n : ℕ
  n = size G

  abbrev m : ℕ
  m = edge_count G

  pub looked_starts : Looked G before w r tail (row_start before w) before tail
  looked_starts =
      record {
        within = within_same _ _ before;
        grows = λ u p. p;
        old = λ u p. refl;
        new = λ u p q. absurd (clash p q);
        leading = λ u p q. absurd (clash p q);
        stands = λ u p q. absurd (clash p q);
        stood = λ k l. refl;
        joined = λ k a b. absurd (omega arith);
        seen = λ i a b. absurd (omega arith);
        grown = le_refl tail;
        few = given.few;
        room = omega (arith, given.few, count_le n (assigned G before));
      }

  module _
      (e : ℕ)
      (after : List ℕ)
      (end : ℕ)
      (s : Looked G before w r tail e after end)
      (from : row_start before w ≤ e)
      (to : e < row_start before (w + 1)) where
    -- the entry that is read
    v : ℕ
    v = source G after e

    v_is : v ≡ source G before e
    unfolding v
    v_is = s.within.rest (n + 1 + e) (inl (omega (arith, given.top)))

    pub entry_vertex : source G after e < size G
    unfolding v
    entry_vertex = rw v_is (given.rows.vertex w e given.vertex from to)

    -- one entry more
    last_seen :
        (S : Set) →
        (Leads G v w → S v ≡ true) →
        ((i : ℕ) → row_start before w ≤ i → i < e → Leads G (source G before i) w → S (source G before i) ≡ true) →
        (i : ℕ) →
        row_start before w ≤ i →
        i < e + 1 →
        Leads G (source G before i) w →
        S (source G before i) ≡ true
    last_seen S met rest i a b l =
        ⊎_elim
        (λ (q : i ≡ e).
        let is : source G before i ≡ v = ap (source G before) q ∙ sym v_is in
        ap S is ∙ met (subst (λ (x : ℕ). Leads G x w) is l))
        (λ k. rest i a k l)
        (below_suc (rw add-one at b))

    pub looked_passes :
        (fresh_at G.priorities G.top after (labels n m) (source G after e) && keeping G.entries (source G after e) w) ≡ false →
        Looked G before w r tail (e + 1) after end
    unfolding v
    looked_passes shut =
        record {
          within = s.within;
          grows = s.grows;
          old = s.old;
          new = s.new;
          leading = s.leading;
          stands = s.stands;
          stood = s.stood;
          joined = s.joined;
          seen = last_seen (assigned G after) met s.seen;
          grown = s.grown;
          few = s.few;
          room = s.room;
        }
      where
        met : Leads G (source G after e) w → assigned G after (source G after e) ≡ true
        met l =
            let k = link G given.sound (source G after e) w l in
            not_false_is_true (assigned G after (source G after e))
            (λ q.
            clash
            (and_intro
            (true_fresh G.priorities G.top after (labels n m) (source G after e) k.start_low
            (marked_false n (labels n m) after (source G after e) k.start q))
            k.kept)
            shut)

    module _
        (opens : (fresh_at G.priorities G.top after (labels n m) (source G after e) && keeping G.entries (source G after e) w) ≡ true) where
      y : ℕ
      y = source G after e

      y_fresh : (priority G y ≤ G.top) × (label_word G after y ≡ 0)
      unfolding y
      y_fresh =
          fresh_true G.priorities G.top after (labels n m) y
          (and_left (fresh_at G.priorities G.top after (labels n m) y) (keeping G.entries y w) opens)

      y_below : y < n
      unfolding y
      y_below = entry_vertex

      unlabelled : assigned G after y ≡ false
      unlabelled = false_marked n (labels n m) after y y_fresh.1

      y_leads : Leads G y w
      unfolding y v
      y_leads =
          leads G given.sound y w
          (record {
            edge = subst (λ (x : ℕ). Edge (game_in G) x w) (sym v_is) (given.rows.edge w e given.vertex from to);
            start = entry_vertex;
            end = given.vertex;
            start_low = y_fresh.0;
            end_low = given.end_low;
            kept = and_right (fresh_at G.priorities G.top after (labels n m) y) (keeping G.entries y w) opens;
          })

      less : end < n
      less =
          let more = count_strict n (assigned G after) (λ u. true) (λ u k p. refl) y y_below unlabelled refl in
          let most = count_le n (λ u. true) in
          omega (arith, s.few)

      room : Room G after
      room = omega (arith, given.room, s.within.long)

      pub look_putable : Putable (labels n m) (source G after e) (queue n m) end after
      unfolding y
      look_putable = record { word = omega (arith, room, y_below); place = omega (arith, room, less) }

      abbrev put : List ℕ
      put = putting (labels n m) (source G after e) (r + 1) (queue n m) end after

      at_label : label_word G put y ≡ r + 1
      unfolding y
      at_label = stored_first after (labels n m + y) (r + 1) (queue n m + end) y look_putable.word look_putable.place (λ q. omega (arith, less))

      at_place : queued G put end ≡ y
      unfolding y
      at_place = stored_second after (labels n m + y) (r + 1) (queue n m + end) y look_putable.word look_putable.place (λ q. omega (arith, less))

      elsewhere : (k : ℕ) → (k ≡ labels n m + y → ⊥) → (k ≡ queue n m + end → ⊥) → get_or put k 0 ≡ get_or after k 0
      unfolding y
      elsewhere = stored_else after (labels n m + y) (r + 1) (queue n m + end) y look_putable.word look_putable.place (λ q. omega (arith, less))

      one_more : Marks y (assigned G after) (assigned G put)
      one_more =
          marked_marks n (labels n m) y after put y_below (λ z. let is = at_label in omega arith)
          (λ u k d. elsewhere (labels n m + u) (λ q. d (omega arith)) (λ q. omega (arith, less)))

      not_y : (u : ℕ) → assigned G after u ≡ true → u ≡ y → ⊥
      not_y u p q = clash (sym (ap (assigned G after) q) ∙ p) unlabelled

      y_new : assigned G before y ≡ false
      y_new = not_true_is_false (assigned G before y) (λ p. clash (s.grows y p) unlabelled)

      label_kept : (u : ℕ) → u < n → (u ≡ y → ⊥) → label_word G put u ≡ label_word G after u
      label_kept u l d = elsewhere (labels n m + u) (λ q. d (omega arith)) (λ q. omega (arith, less))

      place_kept : (k : ℕ) → k < end → queued G put k ≡ queued G after k
      place_kept k l = elsewhere (queue n m + k) (λ q. omega (arith, less)) (λ q. omega arith)

      pub looked_puts : Looked G before w r tail (e + 1) (putting (labels n m) (source G after e) (r + 1) (queue n m) end after) (end + 1)
      unfolding y v
      looked_puts =
          record {
            within =
                within_then s.within
                (within_then
                (within_store (queue n m) (hits n m) (labels n m + y) (r + 1) after (omega arith) (omega (arith, y_below)))
                (within_store (queue n m) (hits n m) (queue n m + end) y (set after (labels n m + y) (r + 1)) (omega arith) (omega (arith, less))));
            grows = λ u p. marks_keeps one_more u (s.grows u p);
            old =
                λ u p.
                label_kept u (marked_true n (labels n m) before u p).0 (not_y u (s.grows u p)) ∙ s.old u p;
            new =
                λ u p q.
                ⊎_elim
                (λ i. ap (label_word G put) i ∙ at_label)
                (λ k. label_kept u (marked_true n (labels n m) after u k).0 (not_y u k) ∙ s.new u k q)
                (marks_cases one_more u p);
            leading = λ u p q. ⊎_elim (λ i. subst (λ (x : ℕ). Leads G x w) (sym i) y_leads) (λ k. s.leading u k q) (marks_cases one_more u p);
            stands =
                λ u p q.
                ⊎_elim
                (λ i. (end, s.grown, omega arith, at_place ∙ sym i))
                (λ k. let (j, a, b, is) = s.stands u k q in (j, a, omega arith, place_kept j b ∙ is))
                (marks_cases one_more u p);
            stood = λ k l. place_kept k (omega (arith, s.grown)) ∙ s.stood k l;
            joined =
                λ k a b.
                ⊎_elim
                (λ (q : k ≡ end).
                let is : queued G put k ≡ y = ap (queued G put) q ∙ at_place in
                (ap (assigned G put) is ∙ one_more.new, ap (assigned G before) is ∙ y_new))
                (λ l.
                let is = place_kept k l in
                let (p, q) = s.joined k a l in
                (ap (assigned G put) is ∙ marks_keeps one_more (queued G after k) p, ap (assigned G before) is ∙ q))
                (below_suc (rw add-one at b));
            seen =
                last_seen (assigned G put) (λ l. one_more.new)
                (λ i a b l. marks_keeps one_more (source G before i) (s.seen i a b l));
            grown = omega (arith, s.grown);
            few = omega (arith, s.few, marks_count one_more n y_below unlabelled);
            room = omega (arith, less);
          }
