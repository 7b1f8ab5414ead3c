-- Where a search begins: no vertex has a word; then one vertex more gets the word n + 1 and goes to the end of the queue; or
-- all that leads to u, so that the way from u goes round.
use Rattle.std.specs.Prelude.{true, false, List, [], ◌∷◌, ◌≡◌, refl, ℕ, ◌+◌, ◌≤◌, ◌<◌, length, get_or, set}
use Rattle.std.proofs.Common.{inl, inr, ⊎_elim, sym, ap, subst, ◌∙◌, le_refl, add-one, arith}
use Rattle.rules.specs.Loop.{alone}
use Rattle.rules.specs.Winning.{Reach}
use Rattle.basics.specs.Basics.{clash, below_suc, count_strict, count_le}
use Rattle.theory.specs.DepthFirst.{Marks, marks_cases, marks_keeps, marks_count}
use Rattle.sets.specs.After.{Cleared}
use Rattle.search_rows.specs.Rows.{queue, labels, hits}
use Rattle.search_links.specs.Area.{Within, within_then, within_store, true_marked, marked_true}
use Rattle.search_links.specs.Area.{false_marked, marked_marks}
use Rattle.search_links.specs.Graph.{Graph, size, edge_count, priority, Leads, SoundGraph}
use Rattle.search_links.specs.Leading.{link}
use Rattle.depth_first.specs.Walking.{Room, stored_first, stored_second, stored_else}
use Rattle.backward_look.specs.Seeking.{assigned, label_word, queued, row_start, Rows, rows_kept, Putable, putting, Lookable, Looked}
use Rattle.breadth_first.specs.Spreading.{SpreadWay, QueueStanding, Spread, way_kept, found_way, found_all}

-- a graph, its predecessor table, and room
pub record Open (G : Graph) (work : List ℕ) : Type 0 where
  pub sound : SoundGraph G
  pub room : Room G work
  pub rows : Rows G work

-- no vertex has a word
pub standing_none :
    (G : Graph) (work : List ℕ) → Open G work → ((u : ℕ) → u < size G → label_word G work u ≡ 0) → QueueStanding G work 0 0
standing_none G work o blank =
    record {
      sound = o.sound;
      room = o.room;
      rows = o.rows;
      ahead = omega arith;
      few = omega arith;
      bound = omega arith;
      stands =
          λ u p.
          let (l, d) = marked_true (size G) (labels (size G) (edge_count G)) work u p in absurd (d (blank u l));
      joined = λ k l. absurd (omega arith);
      small = λ k l. absurd (omega arith);
      ways = λ k l. absurd (omega arith);
      seen = λ k u l. absurd (omega arith);
    }

module _
    (G : Graph)
    (work : List ℕ)
    (end y : ℕ)
    (s : QueueStanding G work 0 end)
    (below : y < size G)
    (small : priority G y ≤ G.top)
    (fresh : label_word G work y ≡ 0) where
  abbrev n : ℕ
  n = size G

  abbrev m : ℕ
  m = edge_count G

  unlabelled : assigned G work y ≡ false
  unlabelled = false_marked n (labels n m) work y fresh

  less : end < n
  less =
      let more = count_strict n (assigned G work) (λ u. true) (λ u k p. refl) y below unlabelled refl in
      let most = count_le n (λ u. true) in
      omega (arith, s.few)

  pub join_putable : Putable (labels (size G) (edge_count G)) y (queue (size G) (edge_count G)) end work
  join_putable = record { word = omega (arith, s.room, below); place = omega (arith, s.room, less) }

  abbrev put : List ℕ
  put = putting (labels n m) y (n + 1) (queue n m) end work

  at_label : label_word G put y ≡ n + 1
  at_label = stored_first work (labels n m + y) (n + 1) (queue n m + end) y join_putable.word join_putable.place
      (λ q. omega (arith, less))

  at_place : queued G put end ≡ y
  at_place = stored_second work (labels n m + y) (n + 1) (queue n m + end) y join_putable.word join_putable.place
      (λ q. omega (arith, less))

  elsewhere : (k : ℕ) → (k ≡ labels n m + y → ⊥) → (k ≡ queue n m + end → ⊥) → get_or put k 0 ≡ get_or work k 0
  elsewhere = stored_else work (labels n m + y) (n + 1) (queue n m + end) y join_putable.word join_putable.place
      (λ q. omega (arith, less))

  label_kept : (u : ℕ) → u < n → (u ≡ y → ⊥) → label_word G put u ≡ label_word G work u
  label_kept u l d = elsewhere (labels n m + u) (λ q. d (omega arith)) (λ q. omega (arith, less))

  place_kept : (k : ℕ) → k < end → queued G put k ≡ queued G work k
  place_kept k l = elsewhere (queue n m + k) (λ q. omega (arith, less)) (λ q. omega arith)

  one_more : Marks y (assigned G work) (assigned G put)
  one_more = marked_marks n (labels n m) y work put below (λ z. let is = at_label in omega arith) (λ u k d. label_kept u k d)

  not_y : (u : ℕ) → assigned G work u ≡ true → u ≡ y → ⊥
  not_y u p q = clash (sym (ap (assigned G work) q) ∙ p) unlabelled

  old : (u : ℕ) → assigned G work u ≡ true → label_word G put u ≡ label_word G work u
  old u p = label_kept u (marked_true n (labels n m) work u p).0 (not_y u p)

  -- y stands there now, and all others as before
  pub record Joined (after : List ℕ) : Type 0 where
    pub standing : QueueStanding G after 0 (end + 1)
    pub within : Within (queue (size G) (edge_count G)) (hits (size G) (edge_count G)) work after
    pub marks : Marks y (assigned G work) (assigned G after)
    pub word : label_word G after y ≡ size G + 1
    pub kept : (u : ℕ) → assigned G work u ≡ true → label_word G after u ≡ label_word G work u

  put_within : Within (queue n m) (hits n m) work put
  put_within =
      within_then
      (within_store (queue n m) (hits n m) (labels n m + y) (n + 1) work (omega arith) (omega (arith, below)))
      (within_store (queue n m) (hits n m) (queue n m + end) y (set work (labels n m + y) (n + 1)) (omega arith)
      (omega (arith, less)))

  -- a vertex of the queue stood there before, or is y
  each : (P : ℕ → ℕ → Type 0) → ((k : ℕ) → k < end → P k (queued G work k)) → P end y → (k : ℕ) → k < end + 1 → P k
      (queued G put k)
  each P was new k l =
      ⊎_elim
      (λ (q : k ≡ end).
      subst (λ (j : ℕ). P j (queued G put j)) (sym q) (subst (P end) (sym at_place) new))
      (λ b. subst (P k) (sym (place_kept k b)) (was k b))
      (below_suc (rw add-one at l))

  pub joins : Joined (putting (labels (size G) (edge_count G)) y (size G + 1) (queue (size G) (edge_count G)) end work)
  joins =
      record {
        standing =
            record {
              sound = s.sound;
              room = omega (arith, s.room, put_within.long);
              rows = rows_kept (omega arith) put_within s.rows;
              ahead = omega arith;
              few = omega (arith, s.few, marks_count one_more n below unlabelled);
              bound = omega (arith, less);
              stands =
                  λ u p.
                  ⊎_elim
                  (λ i. (end, omega arith, at_place ∙ sym i))
                  (λ was. let (k, l, is) = s.stands u was in (k, omega arith, place_kept k l ∙ is))
                  (marks_cases one_more u p);
              joined =
                  each (λ k u. assigned G put u ≡ true) (λ k l. marks_keeps one_more (queued G work k) (s.joined k l))
                  one_more.new;
              small = each (λ k u. priority G u ≤ G.top) s.small small;
              ways =
                  each (λ k u. (vs : List ℕ) × SpreadWay G put u vs × (length vs ≤ k + 1))
                  (λ k l. let (vs, way, short) = s.ways k l in (vs, way_kept old way, short))
                  (y ∷ [], record { last = y; path = alone; vertex = below; ends = at_label }, omega arith);
              seen = λ k u l. absurd (omega arith);
            };
        within = put_within;
        marks = one_more;
        word = at_label;
        kept = old;
      }

-- ---- the search round

pub record Roundable (G : Graph) (work : List ℕ) (u : ℕ) : Type 0 where
  pub tables : Open G work
  pub vertex : u < size G
  pub low : priority G u ≤ G.top

-- the way round: it leads on to u
pub record Round (G : Graph) (work : List ℕ) (u : ℕ) : Type 0 where
  pub vs : List ℕ
  pub way : SpreadWay G work u vs
  pub short : length vs ≤ size G
  pub back : Leads G way.last u

pub record Rounded (G : Graph) (u : ℕ) (before after : List ℕ) : Type 0 where
  pub within : Within (queue (size G) (edge_count G)) (hits (size G) (edge_count G)) before after
  pub round : (z : ℕ) → Reach (Leads G) u z → Leads G z u → Round G after u

module _ (G : Graph) (w₀ : List ℕ) (u : ℕ) (given : Roundable G w₀ u)
    (w₁ : List ℕ) (cleared : Cleared (labels (size G) (edge_count G)) (size G) w₀ w₁)
  where
    blank : (x : ℕ) → x < size G → label_word G w₁ x ≡ 0
    blank x l = cleared.zeros (labels (size G) (edge_count G) + x) (omega arith) (omega arith)

    clear_within : Within (queue (size G) (edge_count G)) (hits (size G) (edge_count G)) w₀ w₁
    clear_within =
        record {
          long = cleared.long;
          rest = λ i o. cleared.rest i
              (⊎_elim (λ l. inl (omega arith)) (λ h. inr (omega arith)) o);
        }

    rows₁ : Rows G w₁
    rows₁ = rows_kept (omega arith) clear_within given.tables.rows

    pub round_lookable : Lookable G w₁ u (size G) 0
    round_lookable =
        record {
          sound = given.tables.sound;
          room = omega (arith, given.tables.room, cleared.long);
          rows = rows₁;
          vertex = given.vertex;
          root = le_refl (size G);
          few = omega arith;
          rising = rows₁.rising u given.vertex;
          top = rows₁.top u given.vertex;
          next = omega (arith, given.vertex);
          end_low = given.low;
        }

    unmarked : (x : ℕ) → x < size G → assigned G w₁ x ≡ false
    unmarked x l = false_marked (size G) (labels (size G) (edge_count G)) w₁ x (blank x l)

    module _ (w₂ : List ℕ) (end : ℕ) (looked : Looked G w₁ u (size G) 0 (row_start w₁ (u + 1)) w₂ end) where
      vertex : (x : ℕ) → assigned G w₂ x ≡ true → x < size G
      vertex x p = (marked_true (size G) (labels (size G) (edge_count G)) w₂ x p).0

      fresh : (x : ℕ) → assigned G w₂ x ≡ true → assigned G w₁ x ≡ false
      fresh x p = unmarked x (vertex x p)

      pub round_standing : QueueStanding G w₂ 0 end
      round_standing =
          record {
            sound = given.tables.sound;
            room = omega (arith, given.tables.room, cleared.long, looked.within.long);
            rows = rows_kept (omega arith) looked.within rows₁;
            ahead = omega arith;
            few = looked.few;
            bound = looked.room;
            stands = λ x p. let (k, a, b, is) = looked.stands x p (fresh x p) in (k, b, is);
            joined = λ k l. (looked.joined k (omega arith) l).0;
            small =
                λ k l.
                let (p, q) = looked.joined k (omega arith) l in
                (link G given.tables.sound (queued G w₂ k) u (looked.leading (queued G w₂ k) p q)).start_low;
            ways =
                λ k l.
                let x = queued G w₂ k in
                let (p, q) = looked.joined k (omega arith) l in
                (x ∷ [], record { last = x; path = alone; vertex = vertex x p; ends = looked.new x p q }, omega arith);
            seen = λ k x l. absurd (omega arith);
          }

      -- what leads to u is where the search begins
      begun : (z : ℕ) → Leads G z u → assigned G w₂ z ≡ true
      begun z l =
          let (e, a, b, is) = rows₁.entry z u given.vertex (link G given.tables.sound z u l).edge in
          subst (λ (x : ℕ). assigned G w₂ x ≡ true) is (looked.seen e a b (subst (λ (x : ℕ). Leads G x u) (sym is) l))

      pub rounded : (w₃ : List ℕ) → Spread G w₂ w₃ → Rounded G u w₀ w₃
      rounded w₃ s =
          record {
            within = within_then clear_within (within_then looked.within s.kept.within);
            round =
                λ z there back.
                let (vs, way, short) = found_way G w₂ w₃ s u (found_all G w₂ w₃ s there (s.kept.grows z (begun z back))) in
                let last = way.last in
                let word = s.kept.begun last way.vertex way.ends in
                let p = true_marked (size G) (labels (size G) (edge_count G)) w₂ last way.vertex (λ z. omega arith) in
                record { vs = vs; way = way; short = short; back = looked.leading last p (fresh last p) };
          }
