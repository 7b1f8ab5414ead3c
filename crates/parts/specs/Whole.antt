-- The stages joined: from a lent work area with the predecessor table to the row of marks, which are the rule's.
use Rattle.std.specs.Prelude.{Bool, true, false, ◌&&◌, ◌||◌, ◌≡◌, ℕ, ◌+◌, ◌-◌, ◌≤◌, ◌<◌, eqb, length, get_or}
use mathlib.Core.List.{List, Memᴰ}
use Rattle.std.proofs.Common.{inl, inr, ⊎_elim, sym, ap, ap₂, subst, ◌∙◌, le_refl, arith, lt-ltb}
use Rattle.std.proofs.Math.Decide.{ℕ_discrete}
use Rattle.rules.specs.Counting.{Set, some}
use Rattle.basics.specs.Basics.{some_cong, place_member}
use Rattle.basics.specs.Frame.{Outside, Beside, Below, Unchanged}
use Rattle.theory.specs.Chosen.{chosen_part}
use Rattle.theory.specs.DepthFirst.{dfs_done_order}
use Rattle.theory.specs.Kosaraju.{Assigned}
use Rattle.theory.specs.Links.{Together}
use Rattle.theory.specs.Solitaire.{at_most_elim, at_most_intro}
use Rattle.search_rows.specs.Rows.{marks, order, queue, labels, hits, pairs, behind}
use Rattle.search_links.specs.Area.{Within, within_then, within_wider, ClearedUpTo}
use Rattle.search_links.specs.Area.{segment_length, segment_at, marked, true_marked, marked_true, marked_alike}
use Rattle.search_links.specs.Graph.{Graph, size, edge_count, game_in, low, Leads, SoundGraph}
use Rattle.depth_first.specs.Walking.{visited, finished, Room, Passes, WalkFinished}
use Rattle.backward_look.specs.Seeking.{assigned, label_word, label_of, Rows, rows_kept, Labelling, Labelled}
use Rattle.good_parts.specs.Noting.{note_test, tells_of, Noteable, Noted}
use Rattle.good_parts.specs.Good.{good_at, Collectable, TestedBelow, good_chosen}

pub record PartsMarkable (G : Graph) (work : List ℕ) (base : ℕ) : Type 0 where
  pub sound : SoundGraph G
  pub rows : Rows G work
  pub low_end : behind (size G) (edge_count G) ≤ base
  pub fits : base + size G ≤ length work

-- the row at base also has the vertices of good parts; the predecessor table and the words behind, but for that row, are as they were
pub record PartsMarked (G : Graph) (base : ℕ) (before after : List ℕ) : Type 0 where
  pub long : length after ≡ length before
  pub table : Unchanged (Below (marks (size G) (edge_count G))) before after
  pub rest : (i : ℕ) → behind (size G) (edge_count G) ≤ i → Beside (size G) base i → get_or after i 0 ≡ get_or before i 0
  pub found :
      (v : ℕ) → v < size G →
      marked (size G) base after v ≡ (marked (size G) base before v || chosen_part (game_in G) G.entries G.top v)

-- the row by what it is equal to
pub markable_as : {G : Graph} {work : List ℕ} {base base' : ℕ} → base ≡ base' → PartsMarkable G work base' → PartsMarkable G work base
markable_as {G} {work} e h = subst (λ (k : ℕ). PartsMarkable G work k) (sym e) h

pub marked_as : {G : Graph} {before after : List ℕ} {base base' : ℕ} → base ≡ base' → PartsMarked G base before after → PartsMarked G base' before after
marked_as {G} {before} {after} e h = subst (λ (k : ℕ). PartsMarked G k before after) e h

-- labels in words that stay are whole parts still
labels_kept :
    (G : Graph) (lo hi : ℕ) (before after : List ℕ) →
    hits (size G) (edge_count G) ≤ lo →
    Within lo hi before after →
    Assigned (Leads G) (assigned G before) (label_of G before) →
    Assigned (Leads G) (assigned G after) (label_of G after)
labels_kept G lo hi before after h w parts =
    record {
      whole =
          λ u x p both.
          let (q, e) = parts.whole u x (was u p) both in
          (is x q, label x (below x q) ∙ e ∙ sym (label u (below u (was u p))));
      root = λ u p. subst (λ (y : ℕ). Together (Leads G) u y) (sym (label u (below u (was u p)))) (parts.root u (was u p));
    }
  where
    word : (u : ℕ) → u < size G → label_word G after u ≡ label_word G before u
    word u l = w.rest (labels (size G) (edge_count G) + u) (inl (omega arith))

    label : (u : ℕ) → u < size G → label_of G after u ≡ label_of G before u
    label u l = ap (λ (k : ℕ). k - 1) (word u l)

    same : assigned G after ≡ assigned G before
    same = marked_alike (size G) (labels (size G) (edge_count G)) before after word

    was : (u : ℕ) → assigned G after u ≡ true → assigned G before u ≡ true
    was u p = sym (ap (λ (S : Set). S u) same) ∙ p

    is : (u : ℕ) → assigned G before u ≡ true → assigned G after u ≡ true
    is u p = ap (λ (S : Set). S u) same ∙ p

    below : (u : ℕ) → assigned G before u ≡ true → u < size G
    below u p = (marked_true (size G) (labels (size G) (edge_count G)) before u p).0

module _ (G : Graph) (w0 : List ℕ) (base : ℕ) (given : PartsMarkable G w0 base) where
  abbrev n : ℕ
  n = size G

  abbrev m : ℕ
  m = edge_count G

  module _ (w1 : List ℕ) (cleared : ClearedUpTo (marks n m) (behind n m) w0 w1) where
    room1 : Room G w1
    room1 = omega (arith, given.fits, given.low_end, cleared.within.long)

    pub passes : Passes G w1
    passes =
        record { sound = given.sound; room = room1; clear = λ v l. cleared.zeros (marks n m + v) (omega arith) (omega arith) }

    module _ (w2 : List ℕ) (done : ℕ) (first : WalkFinished G w1 w2 done) where
      rows2 : Rows G w2
      rows2 = rows_kept (le_refl (marks n m)) first.further.within (rows_kept (le_refl (marks n m)) cleared.within given.rows)

      member : (k : ℕ) → k < done → visited G w2 (get_or w2 (order n m + k) 0) ≡ true
      member k l =
          let long = segment_length (order n m) done w2 (omega (arith, room1, first.further.within.long, first.walking.fits)) in
          first.walking.searched.finished (get_or w2 (order n m + k) 0)
          (subst (λ (x : ℕ). Memᴰ x (finished G done w2)) (segment_at (order n m) done k w2 l)
          (place_member (finished G done w2) k (rw long l)))

      pub labelling : Labelling G w2 done
      labelling =
          record {
            sound = given.sound;
            room = omega (arith, room1, first.further.within.long);
            rows = rows2;
            clear =
                λ v l.
                first.further.within.rest (labels n m + v) (inr (omega arith)) ∙
                cleared.zeros (labels n m + v) (omega arith) (omega arith);
            few = omega (arith, first.walking.fits);
            ordered =
                dfs_done_order first.walking.searched (λ v p. first.all v (at_most_elim (game_in G) G.top v p).0 p);
            vertices = λ k l. (marked_true n (marks n m) w2 (get_or w2 (order n m + k) 0) (member k l)).0;
            small = λ k l. first.walking.small (get_or w2 (order n m + k) 0) (member k l);
          }

      module _ (w3 : List ℕ) (second : Labelled G w2 w3) where
        long3 : length w3 ≡ length w0
        long3 = second.within.long ∙ first.further.within.long ∙ cleared.within.long

        -- words of the rows of hits and pairs are still 0
        blank3 : (i : ℕ) → hits n m ≤ i → i < behind n m → get_or w3 i 0 ≡ 0
        blank3 i a b =
            second.within.rest i (inr a) ∙ first.further.within.rest i (inr (omega arith)) ∙ cleared.zeros i (omega arith) b

        label_word_lem : (u : ℕ) → assigned G w3 u ≡ true → (1 ≤ label_word G w3 u) × (label_word G w3 u ≤ n)
        label_word_lem u p =
            let (l, d) = marked_true n (labels n m) w3 u p in
            let at_label = (second.parts.whole u (label_of G w3 u) p (second.parts.root u p)).0 in
            let below = (marked_true n (labels n m) w3 (label_of G w3 u) at_label).0 in
            bounds (label_word G w3 u) d below
          where
            bounds : (w : ℕ) → (w ≡ 0 → ⊥) → w - 1 < n → (1 ≤ w) × (w ≤ n)
            bounds w d l = (omega arith, omega arith)

        word_small : (u : ℕ) → u < n → label_word G w3 u ≤ n
        word_small u l = go (ℕ_discrete (label_word G w3 u) 0)
          where
            go : Dec (label_word G w3 u ≡ 0) → label_word G w3 u ≤ n
            go (yes e) = omega arith
            go (no d) = (label_word_lem u (true_marked n (labels n m) w3 u l d)).1

        pub hits_noteable : Noteable G.priorities m G.top w3 (hits n m)
        hits_noteable =
            record {
              low_end = le_refl (hits n m);
              fits = omega (arith, given.fits, given.low_end, long3);
              small = word_small;
              clear = λ x l. blank3 (hits n m + x) (omega arith) (omega arith);
            }

        module _ (w4 : List ℕ) (hit : Noted G.priorities m G.top w3 (hits n m) false n w4) where
          pub pairs_noteable : Noteable G.priorities m G.top w4 (pairs n m)
          pairs_noteable =
              record {
                low_end = omega arith;
                fits = omega (arith, given.fits, given.low_end, long3, hit.within.long);
                small =
                    λ u l.
                    subst (λ (k : ℕ). k ≤ n) (sym (hit.within.rest (labels n m + u) (inl (omega arith)))) (word_small u l);
                clear = λ x l. hit.within.rest (pairs n m + x) (inr (omega arith)) ∙ blank3 (pairs n m + x) (omega arith) (omega arith);
              }

          module _ (w5 : List ℕ) (pair : Noted G.priorities m G.top w4 (pairs n m) true n w5) where
            kept45 : Within (hits n m) (behind n m) w3 w5
            kept45 =
                within_then (within_wider (le_refl (hits n m)) (omega arith) hit.within) (within_wider (omega arith) (le_refl (behind n m)) pair.within)

            word5 : (u : ℕ) → u < n → label_word G w5 u ≡ label_word G w3 u
            word5 u l = kept45.rest (labels n m + u) (inl (omega arith))

            assigned5 : (v : ℕ) → low G v ≡ true → assigned G w5 v ≡ true
            assigned5 v p =
                ap (λ (S : Set). S v) (marked_alike n (labels n m) w3 w5 word5) ∙ second.all v p

            -- what each vertex tells is what it told
            tells_same : (w : List ℕ) (b : Bool) → ((u : ℕ) → u < n → label_word G w5 u ≡ label_word G w u) → (x u : ℕ) → u < n →
                tells_of G.priorities m G.top w b x u ≡ tells_of G.priorities m G.top w5 b x u
            tells_same w b h x u l =
                ap (λ (k : ℕ). note_test G.priorities G.top k u b && eqb (k - 1) x) (sym (h u l))

            hits5 : (x : ℕ) → x < n → marked n (hits n m) w5 x ≡ some n (tells_of G.priorities m G.top w5 false x)
            hits5 x l =
                ap (λ (S : Set). S x)
                (marked_alike n (hits n m) w4 w5 (λ v k. pair.within.rest (hits n m + v) (inl (omega arith)))) ∙
                hit.told x l ∙
                some_cong n _ _ (λ u k. tells_same w3 false word5 x u k)

            pairs5 : (x : ℕ) → x < n → marked n (pairs n m) w5 x ≡ some n (tells_of G.priorities m G.top w5 true x)
            pairs5 x l =
                pair.told x l ∙
                some_cong n _ _
                (λ u k. tells_same w4 true (λ v j. pair.within.rest (labels n m + v) (inl (omega arith))) x u k)

            good5 : (v : ℕ) → v < n → good_at G w5 v ≡ chosen_part (game_in G) G.entries G.top v
            good5 =
                good_chosen G given.sound w5 (labels_kept G (hits n m) (behind n m) w3 w5 (le_refl (hits n m)) kept45 second.parts) assigned5 hits5
                pairs5

            pub collectable : Collectable G w5 base
            collectable =
                record {
                  sound = given.sound;
                  room = omega (arith, given.fits, given.low_end, long3, kept45.long);
                  low_end = given.low_end;
                  fits = omega (arith, given.fits, long3, kept45.long);
                  labelled =
                      λ v l small.
                      subst (λ (k : ℕ). (1 ≤ k) × (k ≤ n)) (sym (word5 v l))
                      (label_word_lem v (second.all v (at_most_intro (game_in G) G.top v l small)));
                }

            -- **The row has exactly the rule's vertices more.**
            pub marked_parts : (w6 : List ℕ) → TestedBelow G w5 base n w6 → PartsMarked G base w0 w6
            marked_parts w6 c =
                record {
                  long = c.within.long ∙ kept45.long ∙ long3;
                  table =
                      λ i l.
                      c.within.rest i (inl (omega (arith, given.low_end))) ∙ to5 i (inl l);
                  rest = λ i a o. c.within.rest i o ∙ to5 i (inr a);
                  found =
                      λ v l.
                      c.found v l ∙
                      ap₂ (λ (a b : Bool). a || b)
                      (ap (λ (S : Set). S v) (marked_alike n base w0 w5 (λ u k. to5 (base + u) (inr (omega (arith, given.low_end))))))
                      (ap₂ (λ (a b : Bool). a && b) (lt-ltb v n l) (good5 v l));
                }
              where
                to5 : Unchanged (Outside (marks n m) (behind n m)) w0 w5
                to5 i o =
                    let far : Outside (hits n m) (behind n m) i = ⊎_elim (λ l. inl (omega arith)) inr o in
                    let second_far : Outside (queue n m) (hits n m) i = ⊎_elim (λ l. inl (omega arith)) (λ l. inr (omega arith)) o in
                    let first_far : Outside (marks n m) (labels n m) i = ⊎_elim inl (λ l. inr (omega arith)) o in
                    kept45.rest i far ∙ second.within.rest i second_far ∙ first.further.within.rest i first_far ∙ cleared.within.rest i o
