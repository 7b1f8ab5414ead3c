-- The search: what stands in its queue and in its row of words, and what it leaves. Each vertex that has a word has a way along
-- the links to where the search began, of no more vertices than stand before it in the queue and itself.
use Rattle.std.specs.Prelude.{true, false, List, ◌∷◌, ◌≡◌, ℕ, ◌+◌, ◌≤◌, ◌<◌, length}
use Rattle.std.proofs.Common.{⊎_elim, sym, ap, subst, ◌∙◌, add-one, arith}
use Rattle.rules.specs.Counting.{count}
use Rattle.rules.specs.Loop.{Path, alone, next}
use Rattle.rules.specs.Winning.{Reach, here, step}
use Rattle.basics.specs.Basics.{bool_cases, below_suc, lt_or_ge}
use Rattle.theory.specs.Loop.{path_map}
use Rattle.search_rows.specs.Rows.{queue, labels, hits}
use Rattle.search_links.specs.Area.{Within, within_same, within_then, true_marked, marked_true}
use Rattle.search_links.specs.Graph.{Graph, size, edge_count, priority, Leads, SoundGraph}
use Rattle.search_links.specs.Leading.{link}
use Rattle.depth_first.specs.Walking.{Room}
use Rattle.backward_look.specs.Seeking.{assigned, label_word, queued, row_start, Rows, rows_kept, Lookable, Looked}
use Rattle.breadth_first.specs.Following as Words

-- x leads to y, and its word says so
pub record Onward (G : Graph) (work : List ℕ) (x y : ℕ) : Type 0 where
  pub leads : Leads G x y
  pub word : label_word G work x ≡ y + 1

-- a way along the links, as the words show it, to where the search began
pub record SpreadWay (G : Graph) (work : List ℕ) (x : ℕ) (vs : List ℕ) : Type 0 where
  pub last : ℕ
  pub path : Path (Onward G work) x last vs
  pub vertex : last < size G
  pub ends : label_word G work last ≡ size G + 1

-- the queue and the row: the vertices before the head were looked at
pub record QueueStanding (G : Graph) (work : List ℕ) (head tail : ℕ) : Type 0 where
  pub sound : SoundGraph G
  pub room : Room G work
  pub rows : Rows G work
  pub ahead : head ≤ tail
  pub few : tail ≤ count (size G) (assigned G work)
  pub bound : tail ≤ size G
  pub stands : (u : ℕ) → assigned G work u ≡ true → (k : ℕ) × (k < tail) × (queued G work k ≡ u)
  pub joined : (k : ℕ) → k < tail → assigned G work (queued G work k) ≡ true
  pub small : (k : ℕ) → k < tail → priority G (queued G work k) ≤ G.top
  pub ways : (k : ℕ) → k < tail → (vs : List ℕ) × SpreadWay G work (queued G work k) vs × (length vs ≤ k + 1)
  pub seen : (k u : ℕ) → k < head → Leads G u (queued G work k) → assigned G work u ≡ true

-- only words of the queue and the row change, what has a word keeps one, and only where the search began it is n + 1
pub record SpreadKept (G : Graph) (before after : List ℕ) : Type 0 where
  pub within : Within (queue (size G) (edge_count G)) (hits (size G) (edge_count G)) before after
  pub grows : (u : ℕ) → assigned G before u ≡ true → assigned G after u ≡ true
  pub begun : (u : ℕ) → u < size G → label_word G after u ≡ size G + 1 → label_word G before u ≡ size G + 1

-- all that stands in the queue was looked at
pub record Spread (G : Graph) (before after : List ℕ) : Type 0 where
  pub kept : SpreadKept G before after
  pub tail : ℕ
  pub standing : QueueStanding G after tail tail

pub kept_same : (G : Graph) (work : List ℕ) → SpreadKept G work work
kept_same G work = record { within = within_same _ _ work; grows = λ u p. p; begun = λ u l e. e }

-- ways stay where words stay
pub way_kept :
    {G : Graph} {before after : List ℕ} {x : ℕ} {vs : List ℕ} →
    ((u : ℕ) → assigned G before u ≡ true → label_word G after u ≡ label_word G before u) →
    SpreadWay G before x vs →
    SpreadWay G after x vs
way_kept {G} {before} {after} old w =
    record {
      last = w.last;
      path = path_map (λ x y e. record { leads = e.leads; word = same y x e.leads.start e.word ∙ e.word }) w.path;
      vertex = w.vertex;
      ends = same (size G) w.last w.vertex w.ends ∙ w.ends;
    }
  where
    same : (k u : ℕ) → u < size G → label_word G before u ≡ k + 1 → label_word G after u ≡ label_word G before u
    same k u l e = old u (true_marked (size G) (labels (size G) (edge_count G)) before u l (λ z. omega arith))

-- the words alone show the way
pub way_words :
    {G : Graph} {work : List ℕ} {x : ℕ} {vs : List ℕ} → SpreadWay G work x vs → Words.Way (size G)
    (labels (size G) (edge_count G)) work x vs
way_words w =
    record {
      last = w.last;
      path = path_map (λ x y e. record { start = e.leads.start; end = e.leads.end; word = e.word }) w.path;
      vertex = w.vertex;
      ends = w.ends;
    }

-- a way of two vertices or more does not end where it starts
pub way_once : {G : Graph} {work : List ℕ} {x : ℕ} {vs : List ℕ} (w : SpreadWay G work x vs) → 2 ≤ length vs → w.last ≡ x → ⊥
way_once {G} {work} w two same = go w.path two same w.ends
  where
    go :
        {x y : ℕ} {vs : List ℕ} → Path (Onward G work) x y vs → 2 ≤ length vs → y ≡ x → label_word G work y ≡ size G + 1 → ⊥
    go alone two same ends = omega arith
    go (next e r) two same ends =
        let word = ap (label_word G work) same in
        omega (arith, e.word, e.leads.end)

module _ (G : Graph) (work : List ℕ) (head tail : ℕ) (s : QueueStanding G work head tail) (more : head < tail) where
  abbrev w : ℕ
  w = queued G work head

  w_below : queued G work head < size G
  w_below = (marked_true (size G) (labels (size G) (edge_count G)) work w (s.joined head more)).0

  pub look_ready : Lookable G work (queued G work head) (queued G work head) tail
  look_ready =
      record {
        sound = s.sound;
        room = s.room;
        rows = s.rows;
        vertex = w_below;
        root = omega (arith, w_below);
        few = s.few;
        rising = s.rows.rising w w_below;
        top = s.rows.top w w_below;
        next = omega (arith, w_below);
        end_low = s.small head more;
      }

  module _ (after : List ℕ) (end : ℕ)
      (looked : Looked G work (queued G work head) (queued G work head) tail
      (row_start work (queued G work head + 1)) after end) where
    -- all that leads to w has a word now
    all_seen : (u : ℕ) → Leads G u w → assigned G after u ≡ true
    all_seen u l =
        let (e, a, b, is) = s.rows.entry u w w_below (link G s.sound u w l).edge in
        subst (λ (x : ℕ). assigned G after x ≡ true) is (looked.seen e a b (subst (λ (x : ℕ). Leads G x w) (sym is) l))

    -- a vertex of the queue stood there before, or was found now
    each :
        (P : ℕ → ℕ → Type 0) →
        ((k : ℕ) → k < tail → P k (queued G work k)) →
        ((k u : ℕ) → tail ≤ k → k < end → assigned G after u ≡ true → assigned G work u ≡ false → P k u) →
        (k : ℕ) →
        k < end →
        P k (queued G after k)
    each P old new k l =
        ⊎_elim
        (λ below. subst (P k) (sym (looked.stood k below)) (old k below))
        (λ above. let (p, q) = looked.joined k above l in new k (queued G after k) above l p q)
        (lt_or_ge k tail)

    new_way :
        (k u : ℕ) → tail ≤ k → assigned G after u ≡ true → assigned G work u ≡ false →
        (vs : List ℕ) × SpreadWay G after u vs × (length vs ≤ k + 1)
    new_way k u above p q =
        let (vs, way, short) = s.ways head more in
        let on = way_kept looked.old way in (
          u ∷ vs,
          record {
            last = on.last;
            path = next (record { leads = looked.leading u p q; word = looked.new u p q }) on.path;
            vertex = on.vertex;
            ends = on.ends;
          },
          omega arith,
        )

    pub standing_moves : QueueStanding G after (head + 1) end
    standing_moves =
        record {
          sound = s.sound;
          room = omega (arith, s.room, looked.within.long);
          rows = rows_kept (omega arith) looked.within s.rows;
          ahead = omega (arith, looked.grown);
          few = looked.few;
          bound = looked.room;
          stands =
              λ u p.
              ⊎_elim
              (λ was. let (k, l, is) = s.stands u was in (k, omega (arith, looked.grown), looked.stood k l ∙ is))
              (λ fresh. let (k, a, b, is) = looked.stands u p fresh in (k, b, is))
              (bool_cases (assigned G work u));
          joined =
              each (λ k u. assigned G after u ≡ true) (λ k l. looked.grows (queued G work k) (s.joined k l)) (λ k u a l p q. p);
          small =
              each (λ k u. priority G u ≤ G.top) s.small
              (λ k u a l p q. (link G s.sound u w (looked.leading u p q)).start_low);
          ways =
              each (λ k u. (vs : List ℕ) × SpreadWay G after u vs × (length vs ≤ k + 1))
              (λ k l. let (vs, way, short) = s.ways k l in (vs, way_kept looked.old way, short))
              (λ k u a l p q. new_way k u a p q);
          seen =
              λ k u l leads.
              let to = subst (λ (x : ℕ). Leads G u x) (looked.stood k (omega arith)) leads in
              ⊎_elim
              (λ (at : k ≡ head). all_seen u (subst (λ (j : ℕ). Leads G u (queued G work j)) at to))
              (λ below. looked.grows u (s.seen k u below to))
              (below_suc (rw add-one at l));
        }

    pub kept_moves : (start : List ℕ) → SpreadKept G start work → SpreadKept G start after
    kept_moves start k =
        record {
          within = within_then k.within looked.within;
          grows = λ u p. looked.grows u (k.grows u p);
          begun =
              λ u l e.
              let p = true_marked (size G) (labels (size G) (edge_count G)) after u l (λ z. omega arith) in
              ⊎_elim
              (λ was. k.begun u l (sym (looked.old u was) ∙ e))
              (λ fresh. let is = looked.new u p fresh in absurd (omega (arith, w_below)))
              (bool_cases (assigned G work u));
        }

-- ---- what the search leaves

module _ (G : Graph) (before after : List ℕ) (s : Spread G before after) where
  -- a vertex that has a word has a way, of at most n vertices
  pub found_way : (u : ℕ) → assigned G after u ≡ true → (vs : List ℕ) × SpreadWay G after u vs × (length vs ≤ size G)
  found_way u p =
      let (k, l, is) = s.standing.stands u p in
      let (vs, way, short) = s.standing.ways k l in
      (vs, subst (λ (x : ℕ). SpreadWay G after x vs) is way, omega (arith, s.standing.bound))

  -- and what leads to one has a word
  found_back : (u v : ℕ) → Leads G u v → assigned G after v ≡ true → assigned G after u ≡ true
  found_back u v leads p =
      let (k, l, is) = s.standing.stands v p in
      s.standing.seen k u l (subst (λ (x : ℕ). Leads G u x) (sym is) leads)

  pub found_all : {u v : ℕ} → Reach (Leads G) u v → assigned G after v ≡ true → assigned G after u ≡ true
  found_all here p = p
  found_all (step {v = u} {w} e r) p = found_back u w e (found_all r p)
