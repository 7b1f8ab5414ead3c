-- The search for one part, from its root to its end, and the parts one after another.
use Rattle.std.specs.Prelude.{true, ◌&&◌, not, List, ◌⊎◌, ◌≡◌, refl, ℕ, suc, ◌+◌, ◌-◌, ◌≤◌, ◌<◌, eqb, length, get_or, set}
use Rattle.std.proofs.Math.Bool.{false}
use Rattle.std.proofs.Math.Logic.{inl, inr, ⊎_elim}
use Rattle.std.proofs.Math.Path.{sym, ap, subst, fun_ext}
use Rattle.std.proofs.Common.{◌∙◌, eqb-true}
use Rattle.std.proofs.Math.Nat.{le_refl}
use native.Mathlib.Omega.{arith}
use Rattle.std.proofs.lemmas.Bool.{eqb-false}
use Rattle.rules.specs.Counting.{Set, count}
use Rattle.rules.specs.Winning.{step}
use Rattle.basics.specs.Basics.{bool_cases, clash, bool_ext, and_intro, and_left, and_right, not_true_is_false, lt_or_ge}
use Rattle.basics.specs.Basics.{count_pos}
use Rattle.theory.specs.DepthFirst.{Marks}
use Rattle.theory.specs.Kosaraju.{PartSought, part_starts, SecondPass, second_pass_starts, second_pass_skips, second_pass_assigns, second_pass_ends}
use Rattle.theory.specs.Solitaire.{at_most_intro}
use Rattle.search_rows.specs.Rows.{order, queue, labels, hits}
use Rattle.search_links.specs.Area.{Within, within_same, within_then, within_store}
use Rattle.search_links.specs.Area.{segment_length, segment_at, true_marked, marked_true, false_marked, marked_marks}
use Rattle.search_links.specs.Graph.{Graph, size, edge_count, priority, game_in, low, Leads, SoundGraph}
use Rattle.search_links.specs.Leading.{link}
use Rattle.depth_first.specs.Walking.{Room, finished, stored_first, stored_second, stored_else}
use Rattle.backward_look.specs.Seeking.{assigned, label_word, label_of, queued, row_start, Rows, rows_kept, Putable, putting}
use Rattle.backward_look.specs.Seeking.{Lookable, Looked, Findable, PartFound, Labelling, Labelled}

-- the vertices with a label other than r's, once r alone has r's
abbrev pub others : Graph → List ℕ → ℕ → Set
others G start r u = assigned G start u && not (eqb u r)

-- u stands in the queue between its head and its end
abbrev pub Pending : Graph → List ℕ → ℕ → ℕ → ℕ → Type 0
Pending G work head tail u = (k : ℕ) × (head ≤ k) × (k < tail) × (queued G work k ≡ u)

pub record Seeking (G : Graph) (start : List ℕ) (r : ℕ) (work : List ℕ) (head tail : ℕ) : Type 0 where
  pub ahead : head ≤ tail
  pub few : tail ≤ count (size G) (assigned G work)
  pub bound : tail ≤ size G
  pub room : Room G work
  pub rows : Rows G work
  pub within : Within (queue (size G) (edge_count G)) (hits (size G) (edge_count G)) start work
  pub sought : PartSought (Leads G) (others G start r) r (assigned G work) (Pending G work head tail)
  pub small : (u : ℕ) → assigned G work u ≡ true → others G start r u ≡ false → priority G u ≤ G.top
  pub old : (u : ℕ) → others G start r u ≡ true → label_word G work u ≡ label_word G start u
  pub new : (u : ℕ) → assigned G work u ≡ true → others G start r u ≡ false → label_word G work u ≡ r + 1

module _ (G : Graph) (before : List ℕ) (r : ℕ) (given : Findable G before r) where
  abbrev n : ℕ
  n = size G

  abbrev m : ℕ
  m = edge_count G

  pub root_putable : Putable (labels n m) r (queue n m) 0 before
  root_putable = record { word = omega (arith, given.room, given.vertex); place = omega (arith, given.room, given.vertex) }

  module _ (start : List ℕ) (is : start ≡ putting (labels n m) r (r + 1) (queue n m) 0 before) where
    at_label : label_word G start r ≡ r + 1
    at_label =
        ap (λ (xs : List ℕ). label_word G xs r) is ∙
        stored_first before (labels n m + r) (r + 1) (queue n m + 0) r root_putable.word root_putable.place (λ q. omega arith)

    at_place : queued G start 0 ≡ r
    at_place =
        ap (λ (xs : List ℕ). queued G xs 0) is ∙
        stored_second before (labels n m + r) (r + 1) (queue n m + 0) r root_putable.word root_putable.place (λ q. omega arith)

    elsewhere : (k : ℕ) → (k ≡ labels n m + r → ⊥) → (k ≡ queue n m + 0 → ⊥) → get_or start k 0 ≡ get_or before k 0
    elsewhere k p q =
        ap (λ (xs : List ℕ). get_or xs k 0) is ∙
        stored_else before (labels n m + r) (r + 1) (queue n m + 0) r root_putable.word root_putable.place (λ e. omega arith) k p q

    start_within : Within (queue n m) (hits n m) before start
    start_within =
        subst (λ (xs : List ℕ). Within (queue n m) (hits n m) before xs) (sym is)
        (within_then
        (within_store (queue n m) (hits n m) (labels n m + r) (r + 1) before (omega arith) (omega (arith, given.vertex)))
        (within_store (queue n m) (hits n m) (queue n m + 0) r (set before (labels n m + r) (r + 1)) (omega arith) (omega (arith, given.vertex))))

    one_more : Marks r (assigned G before) (assigned G start)
    one_more =
        marked_marks n (labels n m) r before start given.vertex (λ z. let h = at_label in omega arith)
        (λ u k d. elsewhere (labels n m + u) (λ q. d (omega arith)) (λ q. omega arith))

    unlabelled : assigned G before r ≡ false
    unlabelled = false_marked n (labels n m) before r given.fresh

    -- the others are those that had a label before
    others_before : others G start r ≡ assigned G before
    others_before = fun_ext (λ u. go u (bool_cases (eqb u r)))
      where
        go : (u : ℕ) → (eqb u r ≡ true) ⊎ (eqb u r ≡ false) → others G start r u ≡ assigned G before u
        go u (inl e) =
            let q = eqb-true u r e in
            not_true_is_false (others G start r u)
            (λ p. clash (and_right (assigned G start u) (not (eqb u r)) p) (ap not e)) ∙
            sym (ap (assigned G before) q ∙ unlabelled)
        go u (inr e) =
            bool_ext (others G start r u) (assigned G before u)
            (λ p. sym (one_more.others u (eqb-false u r e)) ∙ and_left (assigned G start u) (not (eqb u r)) p)
            (λ p. and_intro (one_more.others u (eqb-false u r e) ∙ p) (ap not e))

    marks_others : Marks r (others G start r) (assigned G start)
    marks_others = subst (λ (S : Set). Marks r S (assigned G start)) (sym others_before) one_more

    only_root : (u : ℕ) → assigned G start u ≡ true → others G start r u ≡ false → u ≡ r
    only_root u p q =
        ⊎_elim
        (λ e. eqb-true u r e)
        (λ e. absurd (clash (and_intro p (ap not e)) q))
        (bool_cases (eqb u r))

    pub seek_starts : Seeking G start r start 0 1
    seek_starts =
        record {
          ahead = omega arith;
          few = count_pos n (assigned G start) r given.vertex one_more.new;
          bound = omega (arith, given.vertex);
          room = omega (arith, given.room, start_within.long);
          rows = rows_kept (omega arith) start_within given.rows;
          within = within_same _ _ start;
          sought =
              part_starts (Pending G start 0 1) (ap (λ (S : Set). S r) others_before ∙ unlabelled) marks_others
              (0, omega arith, omega arith, at_place)
              (λ u (k, a, b, e). let z : k ≡ 0 = omega arith in sym e ∙ ap (queued G start) z ∙ at_place);
          small = λ u p q. rw (only_root u p q) given.small;
          old = λ u p. refl;
          new = λ u p q. ap (label_word G start) (only_root u p q) ∙ at_label;
        }

    pub seek_ends : (work : List ℕ) (head tail : ℕ) → Seeking G start r work head tail → tail ≤ head → PartFound G before r work
    seek_ends work head tail s end =
        record {
          within = within_then start_within s.within;
          sought =
              subst (λ (S : Set). PartSought (Leads G) S r (assigned G work) (λ u. ⊥)) others_before
              (record {
                kept = s.sought.kept;
                root = s.sought.root;
                reaches = s.sought.reaches;
                new = λ u p. absurd p;
                drained =
                    λ u w p q e.
                    ⊎_elim inl (λ (k, a, b, c). absurd (omega arith)) (s.sought.drained u w p q e);
              });
          old = λ u p. s.old u (was u p) ∙ kept_label u p;
          new = λ u p q. s.new u p (ap (λ (S : Set). S u) others_before ∙ q);
        }
      where
        was : (u : ℕ) → assigned G before u ≡ true → others G start r u ≡ true
        was u p = ap (λ (S : Set). S u) others_before ∙ p

        kept_label : (u : ℕ) → assigned G before u ≡ true → label_word G start u ≡ label_word G before u
        kept_label u p =
            let (l, d) = marked_true n (labels n m) before u p in
            elsewhere (labels n m + u)
            (λ q. let same : u ≡ r = omega arith in clash (sym (ap (assigned G before) same) ∙ p) unlabelled)
            (λ q. omega arith)

module _
    (G : Graph)
    (sound : SoundGraph G)
    (start : List ℕ)
    (r : ℕ)
    (below : r < size G)
    (work : List ℕ)
    (head tail : ℕ)
    (s : Seeking G start r work head tail)
    (more : head < tail) where
  w : ℕ
  w = queued G work head

  w_new : (assigned G work w ≡ true) × (others G start r w ≡ false)
  unfolding w
  w_new = s.sought.new w (head, le_refl head, more, refl)

  w_below : w < size G
  w_below = (marked_true (size G) (labels (size G) (edge_count G)) work w w_new.0).0

  pub look_ready : Lookable G work (queued G work head) r tail
  unfolding w
  look_ready =
      record {
        sound = sound;
        room = s.room;
        rows = s.rows;
        vertex = w_below;
        root = omega (arith, below);
        few = s.few;
        rising = s.rows.rising w w_below;
        top = s.rows.top w w_below;
        next = omega (arith, w_below);
        end_low = s.small w w_new.0 w_new.1;
      }

  module _ (after : List ℕ) (end : ℕ) (looked : Looked G work (queued G work head) r tail (row_start work (queued G work head + 1)) after end) where
    -- all that leads to w is assigned now
    all_seen : (u : ℕ) → Leads G u w → assigned G after u ≡ true
    unfolding w
    all_seen u l =
        let (e, a, b, is) = s.rows.entry u w w_below (link G sound u w l).edge in
        subst (λ (x : ℕ). assigned G after x ≡ true) is (looked.seen e a b (subst (λ (x : ℕ). Leads G x w) (sym is) l))

    not_others : (u : ℕ) → assigned G work u ≡ false → others G start r u ≡ false
    not_others u q = not_true_is_false (others G start r u) (λ p. clash (s.sought.kept u p) q)

    sought_on : PartSought (Leads G) (others G start r) r (assigned G after) (Pending G after (head + 1) end)
    unfolding w
    sought_on =
        record {
          kept = λ u p. looked.grows u (s.sought.kept u p);
          root = looked.grows r s.sought.root;
          reaches =
              λ u p q.
              ⊎_elim
              (λ was. s.sought.reaches u was q)
              (λ fresh.
              step (record { edge = looked.leading u p fresh; start = q; end = w_new.1 }) (s.sought.reaches w w_new.0 w_new.1))
              (bool_cases (assigned G work u));
          new =
              λ u (k, a, b, is).
              ⊎_elim
              (λ l.
              let (p, q) = s.sought.new u (k, omega arith, l, sym (looked.stood k l) ∙ is) in
              (looked.grows u p, q))
              (λ l.
              let (p, q) = looked.joined k l b in
              (ap (assigned G after) (sym is) ∙ p, not_others u (ap (assigned G work) (sym is) ∙ q)))
              (lt_or_ge k tail);
          drained =
              λ u x p q e.
              ⊎_elim
              (λ was.
              ⊎_elim
              (λ k. inl (looked.grows u k))
              (λ (k, a, b, is).
              ⊎_elim
              (λ l. inr (k, omega arith, omega (arith, looked.grown), looked.stood k b ∙ is))
              (λ l.
              let here_k : k ≡ head = omega arith in
              let same : x ≡ w = sym is ∙ ap (queued G work) here_k in
              inl (all_seen u (subst (λ (y : ℕ). Leads G u y) same e)))
              (lt_or_ge head k))
              (s.sought.drained u x was q e))
              (λ fresh. let (k, a, b, is) = looked.stands x p fresh in inr (k, omega arith, b, is))
              (bool_cases (assigned G work x));
        }

    pub seek_moves : Seeking G start r after (head + 1) end
    unfolding w
    seek_moves =
        record {
          ahead = omega (arith, looked.grown);
          few = looked.few;
          bound = looked.room;
          room = omega (arith, s.room, looked.within.long);
          rows = rows_kept (omega arith) looked.within s.rows;
          within = within_then s.within looked.within;
          sought = sought_on;
          small =
              λ u p q.
              ⊎_elim
              (λ was. s.small u was q)
              (λ fresh. (link G sound u w (looked.leading u p fresh)).start_low)
              (bool_cases (assigned G work u));
          old = λ u p. looked.old u (s.sought.kept u p) ∙ s.old u p;
          new =
              λ u p q.
              ⊎_elim
              (λ was. looked.old u was ∙ s.new u was q)
              (λ fresh. looked.new u p fresh)
              (bool_cases (assigned G work u));
        }

-- the parts of the last i vertices of the order are found
pub record Passing (G : Graph) (before : List ℕ) (done i : ℕ) (work : List ℕ) : Type 0 where
  pub to : i ≤ done
  pub long : length work ≡ length before
  pub room : Room G work
  pub rows : Rows G work
  pub within : Within (queue (size G) (edge_count G)) (hits (size G) (edge_count G)) before work
  pub pass : SecondPass (Leads G) (finished G done before) (done - i) (assigned G work) (label_of G work)

module _ (G : Graph) (before : List ℕ) (done : ℕ) (given : Labelling G before done) where
  abbrev os : ℕ
  os = order (size G) (edge_count G)

  order_long : length (finished G done before) ≡ done
  order_long = segment_length os done before (omega (arith, given.room, given.few))

  pub passing_starts : Passing G before done 0 before
  passing_starts =
      record {
        to = omega arith;
        long = refl;
        room = given.room;
        rows = given.rows;
        within = within_same _ _ before;
        pass =
            subst (λ (k : ℕ). SecondPass (Leads G) (finished G done before) k (assigned G before) (label_of G before)) whole
            (second_pass_starts (Leads G) (finished G done before) (assigned G before) (label_of G before) none);
      }
    where
      whole : length (finished G done before) ≡ done - 0
      whole = order_long ∙ (omega arith)

      none : (v : ℕ) → assigned G before v ≡ false
      none v =
          not_true_is_false (assigned G before v)
          (λ p. let (l, d) = marked_true (size G) (labels (size G) (edge_count G)) before v p in d (given.clear v l))

  module _ (i : ℕ) (work : List ℕ) (s : Passing G before done i work) (more : i < done) where
    -- the vertex that is next in the order, from its end
    j : ℕ
    j = done - 1 - i

    here_after : done - i ≡ suc j
    unfolding j
    here_after = omega arith

    gone_on : done - (i + 1) ≡ j
    unfolding j
    gone_on = omega arith

    short : j < done
    unfolding j
    short = omega arith

    x : ℕ
    x = get_or work (os + (done - 1 - i)) 0

    x_is : x ≡ get_or before (os + j) 0
    unfolding x j
    x_is = s.within.rest (os + j) (inl (omega (arith, given.few)))

    x_order : get_or (finished G done before) j 0 ≡ x
    x_order = segment_at os done j before short ∙ sym x_is

    pub next_vertex : get_or work (os + (done - 1 - i)) 0 < size G
    unfolding x
    next_vertex = subst (λ (y : ℕ). y < size G) (sym x_is) (given.vertices j short)

    before_pass : SecondPass (Leads G) (finished G done before) (suc j) (assigned G work) (label_of G work)
    before_pass = subst (λ (k : ℕ). SecondPass (Leads G) (finished G done before) k (assigned G work) (label_of G work)) here_after s.pass

    within_order : j < length (finished G done before)
    within_order = rw order_long short

    pub passing_skips : (label_word G work (get_or work (os + (done - 1 - i)) 0) ≡ 0 → ⊥) → Passing G before done (i + 1) work
    unfolding x
    passing_skips d =
        record {
          to = omega arith;
          long = s.long;
          room = s.room;
          rows = s.rows;
          within = s.within;
          pass =
              subst (λ (k : ℕ). SecondPass (Leads G) (finished G done before) k (assigned G work) (label_of G work)) (sym gone_on)
              (second_pass_skips j within_order before_pass
              (ap (assigned G work) x_order ∙ true_marked (size G) (labels (size G) (edge_count G)) work x next_vertex d));
        }

    pub find_ready : label_word G work (get_or work (os + (done - 1 - i)) 0) ≡ 0 → Findable G work (get_or work (os + (done - 1 - i)) 0)
    unfolding x
    find_ready z =
        record {
          sound = given.sound;
          room = s.room;
          rows = s.rows;
          vertex = next_vertex;
          small = subst (λ (y : ℕ). priority G y ≤ G.top) (sym x_is) (given.small j short);
          fresh = z;
        }

    pub passing_finds :
        (after : List ℕ) →
        label_word G work (get_or work (os + (done - 1 - i)) 0) ≡ 0 →
        PartFound G work (get_or work (os + (done - 1 - i)) 0) after →
        Passing G before done (i + 1) after
    unfolding x
    passing_finds after z f =
        record {
          to = omega arith;
          long = f.within.long ∙ s.long;
          room = omega (arith, s.room, f.within.long);
          rows = rows_kept (omega arith) f.within s.rows;
          within = within_then s.within f.within;
          pass =
              subst (λ (k : ℕ). SecondPass (Leads G) (finished G done before) k (assigned G after) (label_of G after)) (sym gone_on)
              (second_pass_assigns j within_order before_pass (assigned G after) (label_of G after) (λ u. ⊥) ends given.ordered fresh
              (subst (λ (y : ℕ). PartSought (Leads G) (assigned G work) y (assigned G after) (λ u. ⊥)) (sym x_order) f.sought)
              (λ u p. p)
              (λ u p. ap (λ (y : ℕ). y - 1) (f.old u p))
              (λ u p q. ap (λ (y : ℕ). y - 1) (f.new u p q) ∙ one_less x ∙ sym x_order));
        }
      where
        fresh : assigned G work (get_or (finished G done before) j 0) ≡ false
        fresh = ap (assigned G work) x_order ∙ false_marked (size G) (labels (size G) (edge_count G)) work x z

        one_less : (y : ℕ) → y + 1 - 1 ≡ y
        one_less y = omega arith

        ends : (v w : ℕ) → Leads G v w → (low G v ≡ true) × (low G w ≡ true)
        ends v w l =
            let k = link G given.sound v w l in
            (at_most_intro (game_in G) G.top v k.start k.start_low, at_most_intro (game_in G) G.top w k.end k.end_low)

  pub passing_ends : (i : ℕ) (work : List ℕ) → Passing G before done i work → done ≤ i → Labelled G before work
  passing_ends i work s end =
      let none : done - i ≡ 0 = omega arith in
      let pass = subst (λ (k : ℕ). SecondPass (Leads G) (finished G done before) k (assigned G work) (label_of G work)) none s.pass in
      record { within = s.within; parts = pass.parts; all = λ v p. second_pass_ends given.ordered pass v p }
