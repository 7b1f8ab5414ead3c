-- The first pass over the work area: what it keeps, and what each store makes of it.
use Rattle.std.specs.Prelude.{Bool, true, false, ◌&&◌, List, [], ◌∷◌, ◌++◌, ◌≡◌, refl, ℕ, suc, ◌+◌, ◌-◌, ◌*◌, ◌≤◌, ◌<◌, length, get_or, set}
use mathlib.Core.List.Memᴰ
use Rattle.std.proofs.Common.{⊎_elim, sym, ap, ap₂, subst, ◌∙◌, add-one, arith, length-set, get_or-set_same, get_or-set_other, le_refl}
use Rattle.std.proofs.Math.Path.{fun_ext}
use Rattle.std.proofs.Math.Decide.{ℕ_discrete}
use Rattle.rules.specs.Counting.{Set}
use Rattle.rules.specs.Winning.{here, step}
use Rattle.basics.specs.Basics.{bool_ext, clash, not_false_is_true, and_intro, and_left, and_right, lt_or_ge, below_suc}
use Rattle.theory.specs.Walks.{Relation, reach_step}
use Rattle.theory.specs.DepthFirst.{Searched, searching, ReachesUp, Marks, marks_keeps, each_last, dfs_pushes, dfs_pops, dfs_room}
use Rattle.theory.specs.DepthFirst.{marks_cases}
use Rattle.search_rows.specs.Rows.{marks, order, queue, labels, behind}
use Rattle.search_links.specs.Area.{Within, within_same, within_then, within_store}
use Rattle.search_links.specs.Area.{segment, segment_length, segment_alike, segment_more, marked}
use Rattle.search_links.specs.Area.{true_marked, marked_true, false_marked, marked_false, marked_alike, marked_marks}
use Rattle.search_links.specs.Graph.{Graph, size, edge_count, priority, offset, target, low, Leads, SoundGraph, keeping, fresh_at}
use Rattle.search_links.specs.Leading.{fresh_true, true_fresh, link, leads, edge_at, edge_place, edge_within}

-- the vertices visited, the stack, and the vertices finished
abbrev pub visited : Graph → List ℕ → Set
visited G work = marked (size G) (marks (size G) (edge_count G)) work

abbrev pub stack_of : Graph → ℕ → List ℕ → List ℕ
stack_of G top work = segment (queue (size G) (edge_count G)) top work

abbrev pub finished : Graph → ℕ → List ℕ → List ℕ
finished G done work = segment (order (size G) (edge_count G)) done work

-- the word of v, which is its cursor plus 1
abbrev pub mark_of : Graph → List ℕ → ℕ → ℕ
mark_of G work v = get_or work (marks (size G) (edge_count G) + v) 0

abbrev pub Room : Graph → List ℕ → Type 0
Room G work = behind (size G) (edge_count G) ≤ length work

-- the edges of v before edge e lead to visited vertices
pub record EdgesPassed (G : Graph) (seen : Set) (v e : ℕ) : Type 0 where
  pub from : offset G v ≤ e
  pub to : e ≤ offset G (v + 1)
  pub led : (i : ℕ) → offset G v ≤ i → i < e → Leads G v (target G i) → seen (target G i) ≡ true

pub record SearchWalking (G : Graph) (work : List ℕ) (top done : ℕ) : Type 0 where
  pub fits : top + done ≤ size G
  pub searched : Searched (Leads G) (size G) (searching (visited G work) (stack_of G top work) (finished G done work))
  pub small : (v : ℕ) → visited G work v ≡ true → priority G v ≤ G.top
  pub passed : (v : ℕ) → visited G work v ≡ true → EdgesPassed G (visited G work) v (mark_of G work v - 1)

-- ---- what the functions ask for and leave

-- the edge leads to a vertex not yet visited, as the code asks
abbrev pub opening : Graph → List ℕ → ℕ → ℕ → Bool
opening G work t w =
    fresh_at G.priorities G.top work (marks (size G) (edge_count G)) w && keeping G.entries t w

pub record Scannable (G : Graph) (work : List ℕ) (t from : ℕ) : Type 0 where
  pub sound : SoundGraph G
  pub room : Room G work
  pub vertex : t < size G
  pub edge : from ≤ offset G (t + 1)

pub record Scanned (G : Graph) (work : List ℕ) (t from r : ℕ) : Type 0 where
  pub onward : from ≤ r
  pub to : r ≤ offset G (t + 1)
  pub none : (e : ℕ) → from ≤ e → e < r → opening G work t (target G e) ≡ false
  pub found : r < offset G (t + 1) → opening G work t (target G r) ≡ true

-- no edge before edge e leads to a vertex not yet visited
pub record Scanning (G : Graph) (work : List ℕ) (t from end e : ℕ) : Type 0 where
  pub is_end : end ≡ offset G (t + 1)
  pub fits : end ≤ edge_count G
  pub onward : from ≤ e
  pub to : e ≤ end
  pub none : (i : ℕ) → from ≤ i → i < e → opening G work t (target G i) ≡ false

pub record Pushable (n marks : ℕ) (offsets work : List ℕ) (y top : ℕ) : Type 0 where
  pub vertex : y < n
  pub table : n < length offsets
  pub room : marks + n + n + n ≤ length work
  pub next : top < n

abbrev pub pushed : ℕ → ℕ → List ℕ → ℕ → ℕ → List ℕ → List ℕ
pushed n marks offsets y top work = set (set work (marks + y) (get_or offsets y 0 + 1)) (marks + n + n + top) y

-- the words of the first pass alone have changed, and what was visited is
pub record WalkedFurther (G : Graph) (before after : List ℕ) : Type 0 where
  pub within : Within (marks (size G) (edge_count G)) (labels (size G) (edge_count G)) before after
  pub grows : (v : ℕ) → visited G before v ≡ true → visited G after v ≡ true

-- t is the top of the stack
pub record Advances (G : Graph) (work : List ℕ) (t top done : ℕ) : Type 0 where
  pub sound : SoundGraph G
  pub room : Room G work
  pub walking : SearchWalking G work top done
  pub some : 0 < top
  pub is_top : get_or work (queue (size G) (edge_count G) + (top - 1)) 0 ≡ t
  pub vertex : t < size G
  pub seen : visited G work t ≡ true
  pub mark : 1 ≤ mark_of G work t
  pub cursor : mark_of G work t - 1 ≤ offset G (t + 1)
  pub edges : offset G (t + 1) ≤ edge_count G

pub record Advanced (G : Graph) (before after : List ℕ) (top done top' done' : ℕ) : Type 0 where
  pub further : WalkedFurther G before after
  pub walking : SearchWalking G after top' done'
  pub moved : top' + 2 * done' ≡ suc (top + 2 * done)

-- a new root
pub record Startable (G : Graph) (work : List ℕ) (r done : ℕ) : Type 0 where
  pub sound : SoundGraph G
  pub room : Room G work
  pub walking : SearchWalking G work 0 done
  pub vertex : r < size G
  pub fresh : fresh_at G.priorities G.top work (marks (size G) (edge_count G)) r ≡ true

pub record Searches (G : Graph) (before after : List ℕ) (r done done' : ℕ) : Type 0 where
  pub further : WalkedFurther G before after
  pub walking : SearchWalking G after 0 done'
  pub root : visited G after r ≡ true

pub record Passes (G : Graph) (work : List ℕ) : Type 0 where
  pub sound : SoundGraph G
  pub room : Room G work
  pub clear : (v : ℕ) → v < size G → mark_of G work v ≡ 0

pub record WalkFinished (G : Graph) (before after : List ℕ) (done : ℕ) : Type 0 where
  pub further : WalkedFurther G before after
  pub walking : SearchWalking G after 0 done
  pub all : (v : ℕ) → v < size G → low G v ≡ true → visited G after v ≡ true

-- ---- laws

module _ (G : Graph) (work : List ℕ) (t from : ℕ) (given : Scannable G work t from) where
  pub scanning_starts : Scanning G work t from (offset G (t + 1)) from
  scanning_starts =
      record {
        is_end = refl;
        fits = edge_within G given.sound t given.vertex;
        onward = le_refl from;
        to = given.edge;
        none = λ i a b. absurd (omega arith);
      }

  module _ (e : ℕ) (s : Scanning G work t from (offset G (t + 1)) e) where
    pub scanning_more : e < offset G (t + 1) → opening G work t (target G e) ≡ false → Scanning G work t from (offset G (t + 1)) (e + 1)
    scanning_more l shut =
        record {
          is_end = refl;
          fits = s.fits;
          onward = omega (arith, s.onward);
          to = omega arith;
          none =
              λ i a b.
              ⊎_elim
              (λ (q : i ≡ e). ap (λ (k : ℕ). opening G work t (target G k)) q ∙ shut)
              (λ k. s.none i a k)
              (below_suc (rw add-one at b));
        }

    pub scan_found : e < offset G (t + 1) → opening G work t (target G e) ≡ true → Scanned G work t from e
    scan_found l opens = record { onward = s.onward; to = s.to; none = s.none; found = λ b. opens }

    pub scan_nothing : offset G (t + 1) ≤ e → Scanned G work t from (offset G (t + 1))
    scan_nothing l =
        let end : e ≡ offset G (t + 1) = omega (arith, s.to) in
        record {
          onward = omega (arith, s.onward);
          to = le_refl (offset G (t + 1));
          none = λ i a b. s.none i a (omega arith);
          found = λ b. absurd (omega arith);
        }

pub further_same : (G : Graph) (work : List ℕ) → WalkedFurther G work work
further_same G work = record { within = within_same _ _ work; grows = λ v p. p }

pub further_then : {G : Graph} {x y z : List ℕ} → WalkedFurther G x y → WalkedFurther G y z → WalkedFurther G x z
further_then a b = record { within = within_then a.within b.within; grows = λ v p. b.grows v (a.grows v p) }

searched_same :
    {R : Relation} {n : ℕ} {V' W S T D E : _} →
    V' ≡ W →
    S ≡ T →
    D ≡ E →
    Searched R n (searching W T E) →
    Searched R n (searching V' S D)
searched_same {R} {n} {V'} {W} {S} {T} {D} {E} a b c s =
    subst (λ (X : Set). Searched R n (searching X S D)) (sym a)
    (subst (λ (X : List ℕ). Searched R n (searching W X D)) (sym b)
    (subst (λ (X : List ℕ). Searched R n (searching W T X)) (sym c) s))

-- where more is seen, an edge that was passed still is
passed_more : {G : Graph} {S T : Set} {v e : ℕ} → ((u : ℕ) → S u ≡ true → T u ≡ true) → EdgesPassed G S v e → EdgesPassed G T v e
passed_more wider p = record { from = p.from; to = p.to; led = λ i a b l. wider _ (p.led i a b l) }

-- a vertex that was marked and is marked again
marks_again : {t : ℕ} {S T : Set} → Marks t S T → S t ≡ true → T ≡ S
marks_again {t} {S} {T} marks old =
    fun_ext
    (λ u.
    bool_ext (T u) (S u)
    (λ e. ⊎_elim (λ q. ap S q ∙ old) (λ k. k) (marks_cases marks u e))
    (λ e. marks_keeps marks u e))

-- two stores at different places
module _ (work : List ℕ) (i a j b : ℕ) (fits : i < length work) (fits' : j < length work) (apart : i ≡ j → ⊥) where
  pub stored_first : get_or (set (set work i a) j b) i 0 ≡ a
  stored_first = get_or-set_other (set work i a) j i b 0 apart ∙ get_or-set_same work i a 0 fits

  pub stored_second : get_or (set (set work i a) j b) j 0 ≡ b
  stored_second = get_or-set_same (set work i a) j b 0 (rw (length-set work i a) fits')

  pub stored_else : (k : ℕ) → (k ≡ i → ⊥) → (k ≡ j → ⊥) → get_or (set (set work i a) j b) k 0 ≡ get_or work k 0
  stored_else k p q = get_or-set_other (set work i a) j k b 0 q ∙ get_or-set_other work i k a 0 p

  pub stored_long : length (set (set work i a) j b) ≡ length work
  stored_long = length-set (set work i a) j b ∙ length-set work i a

module _ (G : Graph) (work : List ℕ) (top done : ℕ) (sound : SoundGraph G) (room : Room G work) (walking : SearchWalking G work top done) where
  abbrev n : ℕ
  n = size G

  abbrev m : ℕ
  m = edge_count G

  -- stack and order have room for a vertex that is not yet visited
  pub next_room : (y : ℕ) → y < n → visited G work y ≡ false → top + done < n
  next_room y l fresh =
      let less = dfs_room walking.searched y l fresh in
      let fits = walking.fits in
      let stack = segment_length (queue n m) top work (omega arith) in
      let order = segment_length (order n m) done work (omega arith) in
      omega arith

  -- a vertex that is not yet visited goes onto the stack
  module _ (y : ℕ) (l : y < n) (fresh : visited G work y ≡ false) (small : priority G y ≤ G.top) (up : ReachesUp (Leads G) (stack_of G top work) y) where
    less : top + done < n
    less = next_room y l fresh

    abbrev after : List ℕ
    after = pushed n (marks n m) G.offsets y top work

    at_mark : mark_of G after y ≡ offset G y + 1
    at_mark = stored_first work (marks n m + y) (offset G y + 1) (queue n m + top) y (omega (arith, less)) (omega (arith, less)) (λ e. omega arith)

    at_place : get_or after (queue n m + top) 0 ≡ y
    at_place = stored_second work (marks n m + y) (offset G y + 1) (queue n m + top) y (omega (arith, less)) (omega (arith, less)) (λ e. omega arith)

    elsewhere : (k : ℕ) → (k ≡ marks n m + y → ⊥) → (k ≡ queue n m + top → ⊥) → get_or after k 0 ≡ get_or work k 0
    elsewhere = stored_else work (marks n m + y) (offset G y + 1) (queue n m + top) y (omega (arith, less)) (omega (arith, less)) (λ e. omega arith)

    long : length after ≡ length work
    long = stored_long work (marks n m + y) (offset G y + 1) (queue n m + top) y (omega (arith, less)) (omega (arith, less)) (λ e. omega arith)

    one_more : Marks y (visited G work) (visited G after)
    one_more =
        marked_marks n (marks n m) y work after l (λ z. let is = at_mark in omega arith)
        (λ u k d. elsewhere (marks n m + u) (λ e. d (omega arith)) (λ e. omega (arith, less)))

    stack_more : stack_of G (top + 1) after ≡ stack_of G top work ++ (y ∷ [])
    stack_more =
        ap (λ (k : ℕ). stack_of G k after) (add-one top) ∙
        segment_more (queue n m) top after (omega (arith, less, long)) ∙
        ap₂ (λ (xs : List ℕ) (x : ℕ). xs ++ (x ∷ []))
        (segment_alike (queue n m) top work after long
        (λ i k. elsewhere (queue n m + i) (λ e. omega (arith, less)) (λ e. omega arith)))
        at_place

    order_same : finished G done after ≡ finished G done work
    order_same =
        segment_alike (order n m) done work after long
        (λ i k. elsewhere (order n m + i) (λ e. omega (arith, less)) (λ e. omega (arith, less)))

    pub push_walks : SearchWalking G (pushed n (marks n m) G.offsets y top work) (top + 1) done
    push_walks =
        record {
          fits = omega (arith, less);
          searched =
              searched_same refl stack_more order_same
              (dfs_pushes walking.searched (visited G after) y l fresh up one_more);
          small = λ v p. ⊎_elim (λ e. rw e small) (λ q. walking.small v q) (marks_cases one_more v p);
          passed = λ v p. ⊎_elim (λ e. rw e first) (λ q. later v q) (marks_cases one_more v p);
        }
      where
        first : EdgesPassed G (visited G after) y (mark_of G after y - 1)
        first = rw at_mark
            (record {
              from = omega arith;
              to = omega (arith, sound.edges.offset_next y l);
              led = λ i a b. absurd (omega arith);
            })

        later : (v : ℕ) → visited G work v ≡ true → EdgesPassed G (visited G after) v (mark_of G after v - 1)
        later v q =
            let k = (marked_true n (marks n m) work v q).0 in
            let differ : v ≡ y → ⊥ = λ e. clash (sym (ap (visited G work) e) ∙ q) fresh in
            let same = elsewhere (marks n m + v) (λ e. differ (omega arith)) (λ e. omega (arith, less)) in
            rw same (passed_more (marks_keeps one_more) (walking.passed v q))

    pub push_further : WalkedFurther G work (pushed n (marks n m) G.offsets y top work)
    push_further =
        record {
          within =
              within_then
              (within_store (marks n m) (labels n m) (marks n m + y) (offset G y + 1) work (omega arith) (omega arith))
              (within_store (marks n m) (labels n m) (queue n m + top) y (set work (marks n m + y) (offset G y + 1)) (omega arith) (omega (arith, less)));
          grows = marks_keeps one_more;
        }

    pub push_visits : visited G (pushed n (marks n m) G.offsets y top work) y ≡ true
    push_visits = one_more.new

  -- the cursor of a visited vertex moves on
  module _ (t e : ℕ) (seen : visited G work t ≡ true) (past : EdgesPassed G (visited G work) t e) where
    abbrev moved : List ℕ
    moved = set work (marks n m + t) (e + 1)

    t_below : t < n
    t_below = (marked_true n (marks n m) work t seen).0

    moved_at : mark_of G moved t ≡ e + 1
    moved_at = get_or-set_same work (marks n m + t) (e + 1) 0 (omega (arith, t_below))

    moved_else : (k : ℕ) → (k ≡ marks n m + t → ⊥) → get_or moved k 0 ≡ get_or work k 0
    moved_else k d = get_or-set_other work (marks n m + t) k (e + 1) 0 d

    moved_long : length moved ≡ length work
    moved_long = length-set work (marks n m + t) (e + 1)

    pub same_visited : visited G (set work (marks n m + t) (e + 1)) ≡ visited G work
    same_visited =
        marks_again
        (marked_marks n (marks n m) t work moved t_below (λ z. let is = moved_at in omega arith)
        (λ u k d. moved_else (marks n m + u) (λ q. d (omega arith))))
        seen

    pub cursor_walks : SearchWalking G (set work (marks n m + t) (e + 1)) top done
    cursor_walks =
        record {
          fits = walking.fits;
          searched =
              searched_same same_visited
              (segment_alike (queue n m) top work moved moved_long (λ i k. moved_else (queue n m + i) (λ q. omega (arith, t_below))))
              (segment_alike (order n m) done work moved moved_long (λ i k. moved_else (order n m + i) (λ q. omega (arith, t_below))))
              walking.searched;
          small = λ v p. walking.small v (was v p);
          passed = λ v p. place v (was v p) (ℕ_discrete v t);
        }
      where
        was : (v : ℕ) → visited G moved v ≡ true → visited G work v ≡ true
        was v p = sym (ap (λ (S : Set). S v) same_visited) ∙ p

        is : (v : ℕ) → visited G work v ≡ true → visited G moved v ≡ true
        is v p = ap (λ (S : Set). S v) same_visited ∙ p

        place : (v : ℕ) → visited G work v ≡ true → Dec (v ≡ t) → EdgesPassed G (visited G moved) v (mark_of G moved v - 1)
        place v q (yes s) =
            let at : mark_of G moved v - 1 ≡ e = ap (λ (x : ℕ). mark_of G moved x - 1) s ∙ (let h = moved_at in omega arith) in
            rw (at, s) (passed_more is past)
        place v q (no d) =
            let same = moved_else (marks n m + v) (λ r. d (omega arith)) in
            rw same (passed_more is (walking.passed v q))

    pub cursor_further : WalkedFurther G work (set work (marks n m + t) (e + 1))
    cursor_further =
        record {
          within = within_store (marks n m) (labels n m) (marks n m + t) (e + 1) work (omega arith) (omega (arith, t_below));
          grows = λ v p. ap (λ (S : Set). S v) same_visited ∙ p;
        }

  -- what the scan found

  module _ (t : ℕ) (seen : visited G work t ≡ true) where
    -- an edge that the code takes leads to a vertex not yet visited
    pub opening_leads :
        (e : ℕ) → offset G t ≤ e → e < offset G (t + 1) → opening G work t (target G e) ≡ true →
        Leads G t (target G e) × (visited G work (target G e) ≡ false) × (priority G (target G e) ≤ G.top)
    opening_leads e a b opens =
        let w = target G e in
        let fresh = fresh_at G.priorities G.top work (marks n m) w in
        let kept = keeping G.entries t w in
        let t_below = (marked_true n (marks n m) work t seen).0 in
        let (high, blank) = fresh_true G.priorities G.top work (marks n m) w (and_left fresh kept opens) in
        let within = edge_within G sound t t_below in (
          leads G sound t w
              (record {
                edge = edge_at G sound t e t_below a b;
                start = t_below;
                end = sound.edges.target_below e (omega arith);
                start_low = walking.small t seen;
                end_low = high;
                kept = and_right fresh kept opens;
              }),
          false_marked n (marks n m) work w blank,
          high,
        )

    -- one that it passes over does not
    pub opening_passed : (w : ℕ) → opening G work t w ≡ false → Leads G t w → visited G work w ≡ true
    opening_passed w shut l =
        let k = link G sound t w l in
        not_false_is_true (visited G work w)
        (λ q.
        clash
        (and_intro
        (true_fresh G.priorities G.top work (marks n m) w k.end_low (marked_false n (marks n m) work w k.end q))
        k.kept)
        shut)

    -- so the scan moves the cursor on
    pub scan_passes : (r : ℕ) → Scanned G work t (mark_of G work t - 1) r → EdgesPassed G (visited G work) t r
    scan_passes r s =
        let p = walking.passed t seen in
        record {
          from = omega (arith, p.from, s.onward);
          to = s.to;
          led =
              λ i a b l.
              ⊎_elim
              (λ k. p.led i a k l)
              (λ k. opening_passed (target G i) (s.none i k b) l)
              (lt_or_ge i (mark_of G work t - 1));
        }

    -- and where it found none, all that t leads to is visited
    pub scan_ends : (r : ℕ) → Scanned G work t (mark_of G work t - 1) r → offset G (t + 1) ≤ r → (w : ℕ) → Leads G t w → visited G work w ≡ true
    scan_ends r s past w l =
        let (e, a, b, c, is) = edge_place G sound t w (link G sound t w l).edge in
        let h = (scan_passes r s).led e a (omega arith) (rw is l) in
        rw is at h

-- the top of the stack, once all that it leads to is visited, is finished
module _ (G : Graph) (work : List ℕ) (top done : ℕ) (room : Room G work) (walking : SearchWalking G work (suc top) done) where
  abbrev top_of : ℕ
  top_of = get_or work (queue (size G) (edge_count G) + top) 0

  abbrev vs : ℕ
  vs = size G

  abbrev es : ℕ
  es = edge_count G

  abbrev popped : List ℕ
  popped = set work (order vs es + done) top_of

  stack_top : stack_of G (suc top) work ≡ stack_of G top work ++ (top_of ∷ [])
  stack_top = segment_more (queue vs es) top work (omega (arith, walking.fits))

  below_top : Searched (Leads G) (size G) (searching (visited G work) (stack_of G top work ++ (top_of ∷ [])) (finished G done work))
  below_top = searched_same refl (sym stack_top) refl walking.searched

  pub top_visited : visited G work top_of ≡ true
  top_visited = below_top.on_stack top_of (Memᴰ.append_right (stack_of G top work) (Memᴰ.head refl))

  -- whatever the top leads to is reached from the whole stack
  pub top_reaches : (y : ℕ) → Leads G top_of y → ReachesUp (Leads G) (stack_of G (suc top) work) y
  top_reaches y l u m =
      ⊎_elim
      (λ k. reach_step (each_last (ReachesUp (Leads G)) (stack_of G top work) top_of below_top.chain u k) l)
      (λ k. let is : u ≡ top_of = Memᴰ.eq_of_singleton k in rw is (step l here))
      (Memᴰ.append_cases (stack_of G top work) (rw stack_top at m))

  pub pop_walks : ((w : ℕ) → Leads G top_of w → visited G work w ≡ true) → SearchWalking G (set work (order vs es + done) top_of) top (done + 1)
  pop_walks seen =
      record {
        fits = omega (arith, walking.fits);
        searched =
            searched_same same_visited
            (segment_alike (queue vs es) top work popped long (λ i k. elsewhere (queue vs es + i) (λ e. omega (arith, walking.fits))))
            (ap (λ (k : ℕ). finished G k popped) (add-one done) ∙
            segment_more (order vs es) done popped (omega (arith, long, walking.fits)) ∙
            ap₂ (λ (xs : List ℕ) (x : ℕ). xs ++ (x ∷ []))
            (segment_alike (order vs es) done work popped long (λ i k. elsewhere (order vs es + i) (λ e. omega arith)))
            (get_or-set_same work (order vs es + done) top_of 0 (omega (arith, walking.fits))))
            (dfs_pops (stack_of G top work) top_of seen below_top);
        small = λ v p. walking.small v (was v p);
        passed =
            λ v p.
            let same = elsewhere (marks vs es + v) (λ e. omega (arith, (marked_true vs (marks vs es) popped v p).0)) in
            rw same (passed_more (λ u q. ap (λ (S : Set). S u) same_visited ∙ q) (walking.passed v (was v p)));
      }
    where
      elsewhere : (k : ℕ) → (k ≡ order vs es + done → ⊥) → get_or popped k 0 ≡ get_or work k 0
      elsewhere k d = get_or-set_other work (order vs es + done) k top_of 0 d

      long : length popped ≡ length work
      long = length-set work (order vs es + done) top_of

      same_visited : visited G popped ≡ visited G work
      same_visited = marked_alike vs (marks vs es) work popped (λ v l. elsewhere (marks vs es + v) (λ e. omega arith))

      was : (v : ℕ) → visited G popped v ≡ true → visited G work v ≡ true
      was v p = sym (ap (λ (S : Set). S v) same_visited) ∙ p

  pub pop_further : WalkedFurther G work (set work (order vs es + done) top_of)
  pop_further =
      record {
        within =
            within_store (marks vs es) (labels vs es) (order vs es + done) top_of work (omega arith)
            (omega (arith, walking.fits));
        grows =
            λ v p.
            let (l, d) = marked_true vs (marks vs es) work v p in
            true_marked vs (marks vs es) (set work (order vs es + done) top_of) v l
            (λ z. d (sym (get_or-set_other work (order vs es + done) (marks vs es + v) top_of 0 (λ e. omega arith)) ∙ z));
      }

-- ---- one move

module _
    (G : Graph)
    (work : List ℕ)
    (t top done : ℕ)
    (given : Advances G work t top done)
    (e : ℕ)
    (s : Scanned G work t (mark_of G work t - 1) e) where
  abbrev ms : ℕ
  ms = marks (size G) (edge_count G)

  -- the work area with the cursor moved
  abbrev on : List ℕ
  on = set work (ms + t) (e + 1)

  past : EdgesPassed G (visited G work) t e
  past = scan_passes G work top done given.sound given.room given.walking t given.seen e s

  on_room : Room G on
  on_room = rw (length-set work (ms + t) (e + 1)) given.room

  on_walks : SearchWalking G on top done
  on_walks = cursor_walks G work top done given.sound given.room given.walking t e given.seen past

  on_further : WalkedFurther G work on
  on_further = cursor_further G work top done given.sound given.room given.walking t e given.seen past

  on_visited : visited G on ≡ visited G work
  on_visited = same_visited G work top done given.sound given.room given.walking t e given.seen past

  one_below : top ≡ suc (top - 1)
  one_below = omega (arith, given.some)

  on_walks' : SearchWalking G on (suc (top - 1)) done
  on_walks' = subst (λ (k : ℕ). SearchWalking G on k done) one_below on_walks

  on_top : get_or on (queue (size G) (edge_count G) + (top - 1)) 0 ≡ t
  on_top =
      get_or-set_other work (ms + t) (queue (size G) (edge_count G) + (top - 1)) (e + 1) 0 (λ q. omega (arith, given.vertex)) ∙ given.is_top

  module _ (more : e < offset G (t + 1)) where
    next :
        Leads G t (target G e) × (visited G work (target G e) ≡ false) × (priority G (target G e) ≤ G.top)
    next =
        opening_leads G work top done given.sound given.room given.walking t given.seen e past.from more (s.found more)

    below : target G e < size G
    below = next.0.end

    unseen : visited G on (target G e) ≡ false
    unseen = ap (λ (S : Set). S (target G e)) on_visited ∙ next.1

    up : ReachesUp (Leads G) (stack_of G top on) (target G e)
    up =
        subst (λ (k : ℕ). ReachesUp (Leads G) (stack_of G k on) (target G e)) (sym one_below)
        (top_reaches G on (top - 1) done on_room on_walks' (target G e) (rw on_top next.0))

    pub advance_pushable : Pushable (size G) ms G.offsets on (target G e) top
    advance_pushable =
        let less = next_room G on top done given.sound on_room on_walks (target G e) below unseen in
        record {
          vertex = below;
          table = omega (arith, given.sound.edges.offset_each);
          room = omega (arith, on_room);
          next = omega arith;
        }

    pub advance_pushes :
        (after : List ℕ) → after ≡ pushed (size G) ms G.offsets (target G e) top on → Advanced G work after top done (top + 1) done
    advance_pushes after is =
        record {
          further =
              further_then on_further
              (subst (λ (xs : List ℕ). WalkedFurther G on xs) (sym is)
              (push_further G on top done given.sound on_room on_walks (target G e) below unseen next.2 up));
          walking =
              subst (λ (xs : List ℕ). SearchWalking G xs (top + 1) done) (sym is)
              (push_walks G on top done given.sound on_room on_walks (target G e) below unseen next.2 up);
          moved = omega arith;
        }

  pub advance_pops :
      offset G (t + 1) ≤ e → Advanced G work (set on (order (size G) (edge_count G) + done) t) top done (top - 1) (done + 1)
  advance_pops none =
      record {
        further =
            further_then on_further
            (subst (λ (x : ℕ). WalkedFurther G on (set on (order (size G) (edge_count G) + done) x)) on_top
            (pop_further G on (top - 1) done on_room on_walks'));
        walking =
            subst (λ (x : ℕ). SearchWalking G (set on (order (size G) (edge_count G) + done) x) (top - 1) (done + 1)) on_top
            (pop_walks G on (top - 1) done on_room on_walks' seen_all);
        moved = omega (arith, given.some);
      }
    where
      seen_all : (w : ℕ) → Leads G (get_or on (queue (size G) (edge_count G) + (top - 1)) 0) w → visited G on w ≡ true
      seen_all w l =
          let l' : Leads G t w = subst (λ (x : ℕ). Leads G x w) on_top l in
          ap (λ (S : Set). S w) on_visited ∙
          scan_ends G work top done given.sound given.room given.walking t given.seen e s none w l'
