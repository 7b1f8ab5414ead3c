-- The test for a good part by labels and marks, and that it says what the rule says.
use Rattle.std.specs.Prelude.{Bool, ◌&&◌, ◌||◌, List, ◌⊎◌, ◌≡◌, ℕ, ◌+◌, ◌-◌, ◌≤◌, ◌<◌, eqb, ltb, leb, length, get_or, set}
use Rattle.std.proofs.Math.Bool.{true, false, not, cond}
use Rattle.std.proofs.Common.{inl, inr, ⊎_elim, ap, ap₂, subst, ◌∙◌, le_refl, add-one, arith, get_or-set_same, get_or-set_other}
use Rattle.std.proofs.Math.Path.{refl, sym}
use Rattle.std.proofs.Math.Decide.{ℕ_discrete}
use borrow.Author.Tests.{eqb-true, eqb-false, eq-eqb, ne_eqb, lt-ltb, le-ltb, ltb-true, le-leb, lt-leb, leb-true, not-true}
use Rattle.rules.specs.Counting.{Set, some, some_of}
use Rattle.rules.specs.Game.{Edge}
use Rattle.basics.specs.Basics.{bool_cases, bool_ext, and_intro, and_left, and_right, or_right, not_true_is_false}
use Rattle.basics.specs.Basics.{some_intro, some_elim, some_cong, below_suc}
use Rattle.theory.specs.Chosen.{chosen_part}
use Rattle.theory.specs.Kosaraju.{Assigned, labels_good_part}
use Rattle.theory.specs.Solitaire.{edge_test, test_edge, at_most_elim, at_most_intro}
use Rattle.search_rows.specs.Rows.{labels, hits, pairs, behind}
use Rattle.search_links.specs.Area.{Within, within_same, within_then, within_store}
use Rattle.search_links.specs.Area.{marked, true_marked, marked_true, false_marked, marked_alike, marked_marks}
use Rattle.search_links.specs.Graph.{Graph, size, edge_count, priority, offset, target, game_in, low, links_in, Leads, SoundGraph, keeping}
use Rattle.search_links.specs.Leading.{link, leads, edge_at, edge_place}
use Rattle.good_parts.specs.Noting.{note_test, tells_of}
use Rattle.backward_look.specs.Seeking.{assigned, label_word, label_of}
use Rattle.depth_first.specs.Walking.{Room}

-- ---- a vertex that leads to itself

unfoldable pub loops_at : Graph → ℕ → Bool
loops_at G v = keeping G.entries v v && some_of ((game_in G).targets v) (eqb v)

pub record Loopable (G : Graph) (v : ℕ) : Type 0 where
  pub sound : SoundGraph G
  pub vertex : v < size G
  pub rising : offset G v ≤ offset G (v + 1)
  pub top : offset G (v + 1) ≤ edge_count G

-- no edge of v before edge e ends in v
pub record Looping (G : Graph) (v e : ℕ) : Type 0 where
  pub kept : keeping G.entries v v ≡ true
  pub low_end : offset G v ≤ e
  pub none : (i : ℕ) → offset G v ≤ i → i < e → target G i ≡ v → ⊥

module _ (G : Graph) (v : ℕ) (given : Loopable G v) where
  pub loop_unkept : keeping G.entries v v ≡ false → false ≡ loops_at G v
  unfolding loops_at
  loop_unkept e = rw e

  pub loop_found : (e : ℕ) → Looping G v e → e < offset G (v + 1) → target G e ≡ v → true ≡ loops_at G v
  unfolding loops_at
  loop_found e s l is =
      sym
      (and_intro s.kept
      (edge_test (game_in G) v v (subst (λ (w : ℕ). Edge (game_in G) v w) is (edge_at G given.sound v e given.vertex s.low_end l))))

  pub loop_more : (e : ℕ) → Looping G v e → (target G e ≡ v → ⊥) → Looping G v (e + 1)
  loop_more e s d =
      record {
        kept = s.kept;
        low_end = omega (arith, s.low_end);
        none =
            λ i a b q.
            ⊎_elim (λ (k : i ≡ e). d (sym (ap (target G) k) ∙ q)) (λ k. s.none i a k q) (below_suc (rw add-one at b));
      }

  pub loop_none : (e : ℕ) → Looping G v e → offset G (v + 1) ≤ e → false ≡ loops_at G v
  unfolding loops_at
  loop_none e s l =
      sym
      (not_true_is_false (loops_at G v)
      (λ p.
      let edge = test_edge (game_in G) v v (and_right (keeping G.entries v v) (some_of ((game_in G).targets v) (eqb v)) p) in
      let (i, a, b, c, is) = edge_place G given.sound v v edge in
      s.none i a (omega arith) is))

-- ---- the test

unfoldable pub good_at : Graph → List ℕ → ℕ → Bool
good_at G work v =
    leb (priority G v) G.top &&
    (marked (size G) (hits (size G) (edge_count G)) work (label_of G work v) &&
    (loops_at G v || marked (size G) (pairs (size G) (edge_count G)) work (label_of G work v)))

pub record Testable (G : Graph) (work : List ℕ) (v : ℕ) : Type 0 where
  pub sound : SoundGraph G
  pub room : Room G work
  pub vertex : v < size G
  pub labelled : priority G v ≤ G.top → (1 ≤ label_word G work v) × (label_word G work v ≤ size G)

module _ (G : Graph) (work : List ℕ) (v : ℕ) (given : Testable G work v) where
  abbrev n : ℕ
  n = size G

  abbrev m : ℕ
  m = edge_count G

  pub good_high : G.top < priority G v → false ≡ good_at G work v
  unfolding good_at
  good_high l = rw (lt-leb (priority G v) G.top l)

  module _ (small : priority G v ≤ G.top) where
    label_below : label_of G work v < n
    label_below = let h = given.labelled small in omega arith

    pub good_unhit : get_or work (hits n m + label_of G work v) 0 ≡ 0 → false ≡ good_at G work v
    unfolding good_at
    good_unhit z = rw (le-leb (priority G v) G.top small, false_marked n (hits n m) work (label_of G work v) z)

    module _ (hit : get_or work (hits n m + label_of G work v) 0 ≡ 0 → ⊥) where
      pub good_pair : (get_or work (pairs n m + label_of G work v) 0 ≡ 0 → ⊥) → true ≡ good_at G work v
      unfolding good_at
      good_pair d =
          sym
          (and_intro (le-leb (priority G v) G.top small)
          (and_intro (true_marked n (hits n m) work (label_of G work v) label_below hit)
          (or_right (loops_at G v) (marked n (pairs n m) work (label_of G work v)) (true_marked n (pairs n m) work (label_of G work v) label_below d))))

      pub good_loop : get_or work (pairs n m + label_of G work v) 0 ≡ 0 → loops_at G v ≡ good_at G work v
      unfolding good_at
      good_loop z =
          rw (
            le-leb (priority G v) G.top small,
            true_marked n (hits n m) work (label_of G work v) label_below hit,
            false_marked n (pairs n m) work (label_of G work v) z,
          )
          (sym (or_nothing (loops_at G v)))
        where
          or_nothing : (b : Bool) → (b || false) ≡ b
          or_nothing true = refl
          or_nothing false = refl

-- ---- collecting

pub record Collectable (G : Graph) (work : List ℕ) (base : ℕ) : Type 0 where
  pub sound : SoundGraph G
  pub room : Room G work
  pub low_end : behind (size G) (edge_count G) ≤ base
  pub fits : base + size G ≤ length work
  pub labelled : (v : ℕ) → v < size G → priority G v ≤ G.top → (1 ≤ label_word G work v) × (label_word G work v ≤ size G)

-- the vertices below i were tested
pub record TestedBelow (G : Graph) (before : List ℕ) (base i : ℕ) (after : List ℕ) : Type 0 where
  pub within : Within base (base + size G) before after
  pub found :
      (v : ℕ) → v < size G → marked (size G) base after v ≡ (marked (size G) base before v || (ltb v i && good_at G before v))

-- the test looks at words before `base` alone
good_kept :
    (G : Graph) (base v : ℕ) (before after : List ℕ) →
    behind (size G) (edge_count G) ≤ base →
    v < size G →
    Within base (base + size G) before after →
    good_at G after v ≡ good_at G before v
unfolding good_at
good_kept G base v before after h l w =
    let label = ap (λ (k : ℕ). k - 1) (w.rest (labels (size G) (edge_count G) + v) (inl (omega arith))) in
    let hit = marked_alike (size G) (hits (size G) (edge_count G)) before after (λ u k. w.rest (hits (size G) (edge_count G) + u) (inl (omega arith))) in
    let pair = marked_alike (size G) (pairs (size G) (edge_count G)) before after (λ u k. w.rest (pairs (size G) (edge_count G) + u) (inl (omega arith))) in
    ap₂
    (λ (S : Set) (T : Set). leb (priority G v) G.top && (S (label_of G after v) && (loops_at G v || T (label_of G after v))))
    hit pair ∙
    ap
    (λ (x : ℕ).
    leb (priority G v) G.top &&
    (marked (size G) (hits (size G) (edge_count G)) before x && (loops_at G v || marked (size G) (pairs (size G) (edge_count G)) before x)))
    label

module _ (G : Graph) (before : List ℕ) (base : ℕ) (given : Collectable G before base) where
  pub collected_none : TestedBelow G before base 0 before
  collected_none =
      record { within = within_same _ _ before; found = λ v l. rw (le-ltb v 0 (omega arith)) (sym (or_nothing (marked (size G) base before v))) }
    where
      or_nothing : (b : Bool) → (b || false) ≡ b
      or_nothing true = refl
      or_nothing false = refl

  module _ (i : ℕ) (after : List ℕ) (s : TestedBelow G before base i after) (more : i < size G) where
    same_good : good_at G after i ≡ good_at G before i
    same_good = good_kept G base i before after given.low_end more s.within

    pub test_ready : Testable G after i
    test_ready =
        record {
          sound = given.sound;
          room = omega (arith, given.room, s.within.long);
          vertex = more;
          labelled =
              λ small.
              let word = s.within.rest (labels (size G) (edge_count G) + i) (inl (omega (arith, given.low_end))) in
              subst (λ (k : ℕ). (1 ≤ k) × (k ≤ size G)) (sym word) (given.labelled i more small);
        }

    -- below i + 1: below i, or i
    next_test : (v : ℕ) → (v ≡ i → ⊥) → ltb v (i + 1) ≡ ltb v i
    next_test v d =
        bool_ext (ltb v (i + 1)) (ltb v i)
        (λ e. let h = ltb-true v (i + 1) e in lt-ltb v i (omega arith))
        (λ e. let h = ltb-true v i e in lt-ltb v (i + 1) (omega arith))

    tested :
        (S : Set) →
        (S i ≡ (marked (size G) base after i || good_at G before i)) →
        ((v : ℕ) → v < size G → (v ≡ i → ⊥) → S v ≡ marked (size G) base after v) →
        (v : ℕ) →
        v < size G →
        S v ≡ (marked (size G) base before v || (ltb v (i + 1) && good_at G before v))
    tested S at_i rest v l = go (ℕ_discrete v i)
      where
        go : Dec (v ≡ i) → S v ≡ (marked (size G) base before v || (ltb v (i + 1) && good_at G before v))
        go (yes e) =
            ap S e ∙ at_i ∙
            ap (λ (b : Bool). b || good_at G before i) (s.found i more ∙ plain) ∙
            sym
            (ap (λ (u : ℕ). marked (size G) base before u || (ltb u (i + 1) && good_at G before u)) e ∙
            ap (λ (b : Bool). marked (size G) base before i || (b && good_at G before i)) (lt-ltb i (i + 1) (omega arith)))
          where
            or_nothing : (b : Bool) → (b || false) ≡ b
            or_nothing true = refl
            or_nothing false = refl

            plain : (marked (size G) base before i || (ltb i i && good_at G before i)) ≡ marked (size G) base before i
            plain = rw (le-ltb i i (le_refl i)) (or_nothing (marked (size G) base before i))
        go (no d) =
            rest v l d ∙ s.found v l ∙ ap (λ (b : Bool). marked (size G) base before v || (b && good_at G before v)) (sym (next_test v d))

    pub collected_passes : good_at G after i ≡ false → TestedBelow G before base (i + 1) after
    collected_passes shut =
        record {
          within = s.within;
          found =
              tested (marked (size G) base after)
              (sym (ap (λ (b : Bool). marked (size G) base after i || b) (sym same_good ∙ shut) ∙ or_nothing (marked (size G) base after i)))
              (λ v l d. refl);
        }
      where
        or_nothing : (b : Bool) → (b || false) ≡ b
        or_nothing true = refl
        or_nothing false = refl

    pub collected_marks : good_at G after i ≡ true → TestedBelow G before base (i + 1) (set after (base + i) 1)
    collected_marks opens =
        record {
          within = within_then s.within (within_store base (base + size G) (base + i) 1 after (omega arith) (omega arith));
          found =
              tested (marked (size G) base (set after (base + i) 1))
              (true_marked (size G) base (set after (base + i) 1) i more (λ z. let is = at_i in omega arith) ∙
              sym (or_right (marked (size G) base after i) (good_at G before i) (sym same_good ∙ opens)))
              (λ v l d.
              ap (λ (b : Bool). b) (others v l d));
        }
      where
        at_i : get_or (set after (base + i) 1) (base + i) 0 ≡ 1
        at_i = get_or-set_same after (base + i) 1 0 (omega (arith, given.fits, s.within.long))

        others : (v : ℕ) → v < size G → (v ≡ i → ⊥) → marked (size G) base (set after (base + i) 1) v ≡ marked (size G) base after v
        others v l d =
            (marked_marks (size G) base i after (set after (base + i) 1) more (λ z. let is = at_i in omega arith)
            (λ u k e. get_or-set_other after (base + i) (base + u) 1 0 (λ q. e (omega arith)))
            ).others v d

-- ---- what the test says

module _
    (G : Graph)
    (sound : SoundGraph G)
    (work : List ℕ)
    (parts : Assigned (Leads G) (assigned G work) (label_of G work))
    (all : (v : ℕ) → low G v ≡ true → assigned G work v ≡ true)
    (hit :
    (x : ℕ) → x < size G →
    marked (size G) (hits (size G) (edge_count G)) work x ≡ some (size G) (tells_of G.priorities (edge_count G) G.top work false x))
    (two :
    (x : ℕ) → x < size G →
    marked (size G) (pairs (size G) (edge_count G)) work x ≡ some (size G) (tells_of G.priorities (edge_count G) G.top work true x)) where
  -- the label of an assigned vertex is an assigned vertex, with itself as label
  label_label : (u : ℕ) → assigned G work u ≡ true → (assigned G work (label_of G work u) ≡ true) × (label_of G work (label_of G work u) ≡ label_of G work u)
  label_label u p = parts.whole u (label_of G work u) p (parts.root u p)

  pub label_vertex : (u : ℕ) → assigned G work u ≡ true → label_of G work u < size G
  label_vertex u p = (marked_true (size G) (labels (size G) (edge_count G)) work (label_of G work u) (label_label u p).0).0

  word_some : (u : ℕ) → assigned G work u ≡ true → label_word G work u ≡ 0 → ⊥
  word_some u p = (marked_true (size G) (labels (size G) (edge_count G)) work u p).1

  some_word : (u : ℕ) → u < size G → (label_word G work u ≡ 0 → ⊥) → assigned G work u ≡ true
  some_word u l d = true_marked (size G) (labels (size G) (edge_count G)) work u l d

  -- what a vertex tells, taken apart
  told_elim :
      (b : Bool) (x u : ℕ) →
      tells_of G.priorities (edge_count G) G.top work b x u ≡ true →
      (label_word G work u ≡ 0 → ⊥) × (cond b (not (eqb (label_word G work u) (u + 1))) (eqb (priority G u) G.top) ≡ true) × (label_of G work u ≡ x)
  unfolding note_test
  told_elim b x u e =
      let some-test = not (eqb (label_word G work u) 0) in
      let test = cond b (not (eqb (label_word G work u) (u + 1))) (eqb (priority G u) G.top) in
      let both = and_left (some-test && test) (eqb (label_of G work u) x) e in (
        eqb-false (label_word G work u) 0 (not-true _ (and_left some-test test both)),
        and_right some-test test both,
        eqb-true (label_of G work u) x (and_right (some-test && test) (eqb (label_of G work u) x) e),
      )

  told_intro :
      (b : Bool) (x u : ℕ) →
      (label_word G work u ≡ 0 → ⊥) →
      cond b (not (eqb (label_word G work u) (u + 1))) (eqb (priority G u) G.top) ≡ true →
      label_of G work u ≡ x →
      tells_of G.priorities (edge_count G) G.top work b x u ≡ true
  unfolding note_test
  told_intro b x u d test is =
      and_intro (and_intro (ap not (ne_eqb (label_word G work u) 0 d)) test) (eq-eqb (label_of G work u) x is)

  -- the word of a label says whether the vertex is its own label
  own_label : (u : ℕ) → (label_word G work u ≡ 0 → ⊥) → not (eqb (label_word G work u) (u + 1)) ≡ true → label_of G work u ≡ u → ⊥
  own_label u d e q = eqb-false (label_word G work u) (u + 1) (not-true _ e) (back (label_word G work u) d q)
    where
      back : (w : ℕ) → (w ≡ 0 → ⊥) → w - 1 ≡ u → w ≡ u + 1
      back w d q = omega arith

  other_label : (u : ℕ) → (label_of G work u ≡ u → ⊥) → not (eqb (label_word G work u) (u + 1)) ≡ true
  other_label u d = ap not (ne_eqb (label_word G work u) (u + 1) (λ e. d (back (label_word G work u) e)))
    where
      back : (w : ℕ) → w ≡ u + 1 → w - 1 ≡ u
      back w e = omega arith

  module _ (v : ℕ) (below : v < size G) (at-v : assigned G work v ≡ true) where
    hits_say :
        marked (size G) (hits (size G) (edge_count G)) work (label_of G work v) ≡
        some (size G) (λ u. assigned G work u && eqb (label_of G work v) (label_of G work u) && eqb (priority G u) G.top)
    hits_say =
        hit (label_of G work v) (label_vertex v at-v) ∙
        some_cong (size G) _ _
        (λ u l.
        bool_ext
        (tells_of G.priorities (edge_count G) G.top work false (label_of G work v) u)
        (assigned G work u && eqb (label_of G work v) (label_of G work u) && eqb (priority G u) G.top)
        (λ e.
        let (d, test, is) = told_elim false (label_of G work v) u e in
        and_intro (and_intro (some_word u l d) (eq-eqb (label_of G work v) (label_of G work u) (sym is))) test)
        (λ e.
        let a = assigned G work u in
        let b = eqb (label_of G work v) (label_of G work u) in
        let c = eqb (priority G u) G.top in
        let both = and_left (a && b) c e in
        told_intro false (label_of G work v) u (word_some u (and_left a b both)) (and_right (a && b) c e)
        (sym (eqb-true (label_of G work v) (label_of G work u) (and_right a b both)))))

    pairs_say :
        marked (size G) (pairs (size G) (edge_count G)) work (label_of G work v) ≡
        some (size G) (λ u. not (eqb u v) && (assigned G work u && eqb (label_of G work v) (label_of G work u)))
    pairs_say =
        two (label_of G work v) (label_vertex v at-v) ∙
        bool_ext (some (size G) (tells_of G.priorities (edge_count G) G.top work true (label_of G work v))) (some (size G) other)
        (λ e.
        let (u, l, t) = some_elim (size G) (tells_of G.priorities (edge_count G) G.top work true (label_of G work v)) e in
        let (d, test, is) = told_elim true (label_of G work v) u t in
        to u l d test is (ℕ_discrete u v))
        (λ e.
        let (u, l, t) = some_elim (size G) other e in
        from u l t (ℕ_discrete (label_of G work u) u))
      where
        other : Set
        other u = not (eqb u v) && (assigned G work u && eqb (label_of G work v) (label_of G work u))

        to :
            (u : ℕ) → u < size G → (label_word G work u ≡ 0 → ⊥) → not (eqb (label_word G work u) (u + 1)) ≡ true → label_of G work u ≡ label_of G work v →
            Dec (u ≡ v) → some (size G) other ≡ true
        to u l d test is (yes q) =
            let x = label_of G work v in
            let own : x ≡ v → ⊥ = λ h. own_label u d test (is ∙ h ∙ sym q) in
            let (there, same) = label_label v at-v in
            some_intro (size G) other x (label_vertex v at-v)
            (and_intro (ap not (ne_eqb x v own)) (and_intro there (eq-eqb x (label_of G work x) (sym same))))
        to u l d test is (no q) =
            some_intro (size G) other u l
            (and_intro (ap not (ne_eqb u v q)) (and_intro (some_word u l d) (eq-eqb (label_of G work v) (label_of G work u) (sym is))))

        from :
            (u : ℕ) →
            u < size G →
            other u ≡ true →
            Dec (label_of G work u ≡ u) →
            some (size G) (tells_of G.priorities (edge_count G) G.top work true (label_of G work v)) ≡ true
        from u l t own =
            let a = not (eqb u v) in
            let b = assigned G work u && eqb (label_of G work v) (label_of G work u) in
            let differ = eqb-false u v (not-true _ (and_left a b t)) in
            let both = and_right a b t in
            let there = and_left (assigned G work u) (eqb (label_of G work v) (label_of G work u)) both in
            let same = eqb-true (label_of G work v) (label_of G work u) (and_right (assigned G work u) (eqb (label_of G work v) (label_of G work u)) both) in
            pick u l differ there same own
          where
            pick :
                (u : ℕ) → u < size G → (u ≡ v → ⊥) → assigned G work u ≡ true → label_of G work v ≡ label_of G work u → Dec (label_of G work u ≡ u) →
                some (size G) (tells_of G.priorities (edge_count G) G.top work true (label_of G work v)) ≡ true
            pick u l differ there same (yes q) =
                some_intro (size G) (tells_of G.priorities (edge_count G) G.top work true (label_of G work v)) v below
                (told_intro true (label_of G work v) v (word_some v at-v) (other_label v (λ h. differ (sym q ∙ sym same ∙ h))) refl)
            pick u l differ there same (no q) =
                some_intro (size G) (tells_of G.priorities (edge_count G) G.top work true (label_of G work v)) u l
                (told_intro true (label_of G work v) u (word_some u there) (other_label u q) (sym same))

    loops_say : low G v ≡ true → loops_at G v ≡ links_in G v v
    unfolding loops_at
    loops_say h =
        bool_ext (loops_at G v) (links_in G v v)
        (λ e.
        let a = keeping G.entries v v in
        let b = some_of ((game_in G).targets v) (eqb v) in
        let small = (at_most_elim (game_in G) G.top v h).1 in
        (leads G sound v v
        (record {
          edge = test_edge (game_in G) v v (and_right a b e);
          start = below;
          end = below;
          start_low = small;
          end_low = small;
          kept = and_left a b e;
        })).edge)
        (λ e.
        let k = link G sound v v (record { edge = e; start = below; end = below }) in
        and_intro k.kept (edge_test (game_in G) v v k.edge))

  -- **The test is the rule's.**
  pub good_chosen : (v : ℕ) → v < size G → good_at G work v ≡ chosen_part (game_in G) G.entries G.top v
  unfolding good_at
  good_chosen v l = go (bool_cases (leb (priority G v) G.top))
    where
      go : (leb (priority G v) G.top ≡ true) ⊎ (leb (priority G v) G.top ≡ false) → good_at G work v ≡ chosen_part (game_in G) G.entries G.top v
      go (inr e) = rw (e, lt-ltb v (size G) l)
      go (inl e) =
          let inside = at_most_intro (game_in G) G.top v l (leb-true (priority G v) G.top e) in
          let at-v = all v inside in
          rw (e, lt-ltb v (size G) l)
          (ap₂ (λ (a b : Bool). a && b) (hits_say v l at-v)
          (ap₂ (λ (a b : Bool). a || b) (loops_say v l at-v inside) (pairs_say v l at-v)) ∙
          sym (labels_good_part (game_in G) (links_in G) parts G.top v l at-v))
