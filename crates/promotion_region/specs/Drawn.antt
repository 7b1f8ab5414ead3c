-- `draw_region` goes one of two ways, and both leave R drawn in by all of the region: where all of it is new it is attracted within the
-- current level, and else its newcomers alone are, within what the others leave of that level.
use Rattle.std.specs.Prelude.{Bool, true, false, ◌&&◌, ◌||◌, List, ◌⊎◌, ◌≡◌, refl, ℕ, suc, ◌+◌, ◌-◌, ◌≤◌, ◌<◌, max, length, get_or, set}
use Rattle.std.proofs.Math.Bool.{not}
use Rattle.std.proofs.Math.Logic.{inl, inr}
use Rattle.std.proofs.Common.{⊎_elim, subst, ◌∙◌, le_refl, arith, get_or-set_other}
use Rattle.std.proofs.Math.Path.{sym, ap, ap₂}
use Rattle.std.proofs.Math.ListN.{length-set}
use Rattle.rules.specs.Counting.{Set, without, union}
use Rattle.rules.specs.Game.{Player, Game, player_of}
use Rattle.rules.specs.Tables.{Tables, words, game_of, Accepted, tables_of}
use Rattle.rules.specs.Attractor.{attractor}
use Rattle.basics.specs.Basics.{clash, not_true_is_false, and_left, or_right, without_right, lt_or_ge}
use Rattle.basics.specs.Frame.{Beside}
use Rattle.theory.specs.Attractor.{Fits}
use Rattle.sets.specs.After.{Combined}
use Rattle.sets.specs.Laws.{bit_other}
use Rattle.area.specs.Area.{entries, free, set_at, words_at, entry_at}
use Rattle.area.specs.SetsAt.{set_kept, set_united, set_reduced}
use Rattle.attractor.specs.Attracted.{Nested, Attractable, Attracted, listed_kept}
use Rattle.promotion_levels.specs.Nesting.{inside_all}
use Rattle.promotion_levels.specs.Layout.{held_at, level_at, end_at, mark_at, depth_in, level_in, held_in, current_in, Whole, Ready}
use Rattle.promotion_levels.specs.Places.{next_level}
use Rattle.promotion_levels.specs.Newcomers.{settled_in, Newcomers}
use Rattle.promotion_levels.specs.Pulled.{Pulled, pulled_as, attract_pulled}
use Rattle.set_difference.specs.Without.{WithoutAt}
use Rattle.promotion_region.specs.Joined.{pulled_joined}
use Rattle.promotion_region.specs.Query.{Drawable, RegionDrawn, RegionDraws}

-- ---- what the steps make of a vertex, by where it is

-- x, y: in the current level and the one after; z: a newcomer; a: drawn in
after_is :
    (x y z : Bool) → (y ≡ true → x ≡ true) → (z ≡ true → (x && not y) ≡ true) → (y || z) ≡ (x && not ((x && not y) && not z))
after_is true true true i h = refl
after_is true true false i h = refl
after_is true false true i h = refl
after_is true false false i h = refl
after_is false true z i h = absurd (clash (i refl) refl)
after_is false false true i h = absurd (clash (h refl) refl)
after_is false false false i h = refl

region_is : (c z : Bool) → (z ≡ true → c ≡ true) → ((c && not z) || z) ≡ c
region_is true true h = refl
region_is true false h = refl
region_is false true h = absurd (clash (h refl) refl)
region_is false false h = refl

-- c: of the region, but no newcomer
drawn_is : (x c a : Bool) → (c ≡ true → x ≡ true) → (a ≡ true → x ≡ true) → (c || a) ≡ (x && not ((x && not c) && not a))
drawn_is true true a i h = refl
drawn_is true false true i h = refl
drawn_is true false false i h = refl
drawn_is false true a i h = absurd (clash (i refl) refl)
drawn_is false false true i h = absurd (clash (h refl) refl)
drawn_is false false false i h = refl

left_is : (x c a : Bool) → ((x && not c) && not a) ≡ (x && not (c || a))
left_is true true a = refl
left_is true false a = refl
left_is false c a = refl

-- of the entries only those of vertices count
pulled_entries :
    {g : Game} {a : Player} {V' T S : Set} {σ σ' τ τ' : ℕ → ℕ} →
    ((v : ℕ) → S v ≡ true → v < g.size) →
    ((v : ℕ) → v < g.size → τ v ≡ σ v) →
    ((v : ℕ) → v < g.size → τ' v ≡ σ' v) →
    Pulled g a V' T S σ σ' →
    Pulled g a V' T S τ τ'
pulled_entries small before after p =
    record {
      certificate = p.certificate;
      near = p.near;
      entered = λ v i out o. after v (small v i) ∙ p.entered v i out o;
      kept = λ v l no. after v l ∙ p.kept v l no ∙ sym (before v l);
    }

module _ (owners priorities : List ℕ) {offsets targets : List ℕ} (ok : Accepted (tables_of owners priorities offsets targets))
    {s : ℕ} {w0 : List ℕ} (ready : Ready (length owners) priorities offsets targets s w0)
    (y-end :
    level_at (length owners) (length targets) s (suc (depth_in (length owners) (length targets) s w0)) + s ≤
    end_at (length owners) (length targets) s)
    {a : Player}
    (newcomers : Newcomers (game_of (tables_of owners priorities offsets targets)) a (length owners) (length targets) s w0)
  where
    abbrev n : ℕ
    n = length owners

    abbrev m : ℕ
    m = length targets

    abbrev t : Tables
    t = tables_of owners priorities offsets targets

    abbrev g : Game
    g = game_of t

    abbrev k : ℕ
    k = depth_in n m s w0

    -- the current level, the level after it, and R
    abbrev X : ℕ
    X = level_at n m s k

    abbrev Y : ℕ
    Y = level_at n m s (suc k)

    abbrev H : ℕ
    H = held_at n m s

    abbrev L : ℕ → Set
    L = level_in n m s w0

    -- the region: its newcomers and the others
    abbrev C : Set
    C = current_in n m s w0

    abbrev N : Set
    N = held_in n m s w0

    abbrev S : Set
    S = settled_in n m s w0

    size : s ≡ words n
    size = ready.size

    y_is : Y ≡ X + s
    y_is = next_level n m s k

    y_high : Y + s ≤ length w0
    y_high = omega (arith, y-end, ready.room)

    in_small : (v : ℕ) → L k v ≡ true → v < n
    in_small v i = ready.nests.below v (inside_all ready.nests 0 k v (omega arith) (omega arith) i)

    -- ---- all of the region is new

    module _ (whole : Whole n m s w0) where
      nested0 : Nested n X H w0
      nested0 = record { below = in_small; part = λ v i. and_left (L k v) _ (sym (whole v) ∙ i) }

      pub whole_ready : {alpha : ℕ} → alpha ≤ 1 → Attractable owners offsets targets alpha X H w0
      whole_ready side =
          record {
            placed =
                record {
                  within_low = omega (arith, size);
                  within_high = omega (arith, size, y_is, y_high);
                  set_low = omega (arith, size);
                  set_high = omega (arith, size, y_is, y_high);
                  apart = inr (omega (arith, size));
                };
            nested = nested0;
            edges = ready.edges;
            listed = ready.listed;
            side = side;
          }

      module _ {w1 w2 : List ℕ} {looks : ℕ} (c1 : Attracted t a X H w0 w1 looks) (c2 : WithoutAt n Y X H w1 w2) where
        abbrev B : Set
        B = attractor g a (set_at n X w0) (set_at n H w0)

        drawn1 : Pulled g a (L k) N B (entry_at n m w0) (entry_at n m w1)
        drawn1 = attract_pulled ok nested0 c1

        B_is : (v : ℕ) → B v ≡ held_in n m s w2 v
        B_is v =
            ⊎_elim
            (λ l. sym (c1.holds.bits v l))
            (λ l.
            not_true_is_false (B v) (λ i. let b = in_small v (drawn1.certificate.inside v i) in omega arith) ∙
            sym (bit_other (words_at n H w1) v (c1.holds.clear v l)))
            (lt_or_ge v n) ∙
            sym (set_kept n H w1 w2 (λ i low high. c2.rest i (inl (omega (arith, size, y_is)))) v)

        -- **R is drawn in by all of the region**
        pub whole_drawn : RegionDrawn owners priorities offsets targets s a w0 w2
        unfolding game_of
        whole_drawn =
            record {
              long = c2.long ∙ c1.long;
              pulled =
                  pulled_as (λ v. refl) whole B_is
                  (pulled_entries (λ v i. in_small v (drawn1.certificate.inside v i)) (λ v l. refl)
                  (λ v l. c2.rest (entries n m + v) (inl (omega (arith, y_is)))) drawn1);
              left =
                  λ v.
                  c2.made v ∙
                  ap₂ (λ (x y : Bool). x && not y)
                  (set_kept n X w0 w1 (λ i low high. c1.rest i (omega arith) (inr (omega (arith, size)))) v)
                  (sym (set_kept n H w1 w2 (λ i low high. c2.rest i (inl (omega (arith, size, y_is)))) v));
              table = λ i l. c2.rest i (inl (omega (arith, y_is))) ∙ c1.table i l;
              rest =
                  λ i low o b d.
                  c2.rest i (⊎_elim (λ h. inl h) (λ h. inr (omega (arith, size))) b) ∙
                  c1.rest i low (⊎_elim (λ h. inl h) (λ h. inr (omega (arith, size))) o);
            }

    -- ---- only the newcomers are

    module _ {w1 : List ℕ} (c1 : Combined max Y H s w0 w1) where
      united1 : Combined max Y H (words n) w0 w1
      united1 = subst (λ (x : ℕ). Combined max Y H x w0 w1) size c1

      held1 : (v : ℕ) → held_in n m s w1 v ≡ N v
      held1 = set_kept n H w0 w1 (λ i low high. c1.rest i (inl (omega (arith, size, y_is))))

      -- the level after is the current one but for the others
      after1 : (v : ℕ) → set_at n Y w1 v ≡ without (L k) S v
      after1 v =
          set_united n Y H w0 w1 united1 v ∙
          after_is (L k v) (L (suc k) v) (N v) (ready.nests.inside k v (le_refl k)) (newcomers.part v)

      nested1 : Nested n Y H w1
      nested1 =
          record {
            below = λ v i. in_small v (and_left (L k v) _ (sym (after1 v) ∙ i));
            part = λ v i. set_united n Y H w0 w1 united1 v ∙ or_right (L (suc k) v) (N v) (sym (held1 v) ∙ i);
          }

      pub attract_ready : {alpha : ℕ} → alpha ≤ 1 → Attractable owners offsets targets alpha Y H w1
      attract_ready side =
          record {
            placed =
                record {
                  within_low = omega (arith, size);
                  within_high = omega (arith, size, y_high, c1.long);
                  set_low = omega (arith, size);
                  set_high = omega (arith, size, y_is, y_high, c1.long);
                  apart = inr (omega (arith, size, y_is));
                };
            nested = nested1;
            edges = ready.edges;
            listed =
                listed_kept n offsets targets w0 w1 c1.long (λ i l. c1.rest i (inl (omega (arith, y_is)))) ready.listed;
            side = side;
          }

      module _ {w2 w3 w4 : List ℕ} {looks : ℕ}
          (c2 : Attracted t a Y H w1 w2 looks)
          (c3 : Combined ◌-◌ Y H s w2 w3)
          (c4 : WithoutAt n H X Y w3 w4)
        where
          -- what the newcomers draw in
          abbrev A : Set
          A = attractor g a (set_at n Y w1) (set_at n H w1)

          alone2 : Pulled g a (without (L k) S) N A (entry_at n m w1) (entry_at n m w2)
          alone2 = pulled_as after1 held1 (λ v. refl) (attract_pulled ok nested1 c2)

          joined2 : (v : ℕ) → union S N v ≡ C v
          joined2 v = region_is (C v) (N v) (newcomers.part v)

          fits2 : Fits g (L k) (union S N)
          unfolding game_of
          fits2 = record { part = λ v i. and_left (L k v) _ (sym (joined2 v) ∙ i); below = in_small }

          -- **and all of the region draws in the same**
          pulled2 : Pulled g a (L k) C (union S A) (entry_at n m w1) (entry_at n m w2)
          pulled2 =
              pulled_as (λ v. refl) joined2 (λ v. refl)
              (pulled_joined fits2 (λ v i. without_right C N v i) newcomers.settled alone2)

          small2 : (v : ℕ) → union S A v ≡ true → v < n
          small2 v i = in_small v (pulled2.certificate.inside v i)

          held2 : (v : ℕ) → held_in n m s w2 v ≡ A v
          held2 v =
              ⊎_elim
              (λ l. c2.holds.bits v l)
              (λ l.
              bit_other (words_at n H w2) v (c2.holds.clear v l) ∙
              sym (not_true_is_false (A v) (λ i. let b = small2 v (or_right (S v) (A v) i) in omega arith)))
              (lt_or_ge v n)

          -- free words that are neither in R's place nor in the level after are as they were
          same2 : (i : ℕ) → free n m ≤ i → Beside s H i → Beside s Y i → get_or w2 i 0 ≡ get_or w0 i 0
          same2 i low (inl l) o = c2.rest i low (inl l) ∙ c1.rest i o
          same2 i low (inr l) o = c2.rest i low (inr (omega (arith, size))) ∙ c1.rest i o

          -- the current level, and the level after, before R is written
          here3 : (v : ℕ) → set_at n X w3 v ≡ L k v
          here3 =
              set_kept n X w0 w3
              (λ i low high.
              c3.rest i (inl (omega (arith, size, y_is))) ∙
              same2 i (omega arith) (inr (omega arith)) (inl (omega (arith, size, y_is))))

          after3 : (v : ℕ) → set_at n Y w3 v ≡ (without (L k) S v && not (A v))
          after3 v =
              set_reduced n Y H w2 w3 (subst (λ (x : ℕ). Combined ◌-◌ Y H x w2 w3) size c3) v ∙
              ap₂ (λ (x y : Bool). x && not y)
              (set_kept n Y w1 w2 (λ i low high. c2.rest i (omega arith) (inr (omega (arith, size, y_is)))) v ∙ after1 v)
              (held2 v)

          -- the mark is taken away, which none of these is
          abbrev w5 : List ℕ
          w5 = set w4 (mark_at n m s) 0

          same5 : (i : ℕ) → (i ≡ mark_at n m s → ⊥) → get_or w5 i 0 ≡ get_or w4 i 0
          same5 i d = get_or-set_other w4 (mark_at n m s) i 0 0 d

          A_is : (v : ℕ) → union S A v ≡ held_in n m s w5 v
          A_is v =
              drawn_is (L k v) (S v) (A v) (λ i. and_left (L k v) _ (and_left (C v) _ i))
              (λ i. pulled2.certificate.inside v (or_right (S v) (A v) i)) ∙
              sym
              (set_kept n H w4 w5 (λ i low high. same5 i (λ e. omega (arith, size))) v ∙
              c4.made v ∙
              ap₂ (λ (x y : Bool). x && not y) (here3 v) (after3 v))

          -- words before R's place
          low5 : (i : ℕ) → i < H → get_or w5 i 0 ≡ get_or w2 i 0
          low5 i l = same5 i (λ e. omega arith) ∙ c4.rest i (inl l) ∙ c3.rest i (inl (omega (arith, y_is)))

          -- **R is drawn in by all of the region**
          pub newcomers_drawn : RegionDrawn owners priorities offsets targets s a w0 w5
          unfolding game_of
          newcomers_drawn =
              record {
                long = length-set w4 (mark_at n m s) 0 ∙ c4.long ∙ c3.long ∙ c2.long ∙ c1.long;
                pulled =
                    pulled_as (λ v. refl) (λ v. refl) A_is
                    (pulled_entries small2 (λ v l. sym (c1.rest (entries n m + v) (inl (omega (arith, y_is)))))
                    (λ v l. low5 (entries n m + v) (omega arith)) pulled2);
                left =
                    λ v.
                    set_kept n Y w3 w5
                    (λ i low high. same5 i (λ e. omega arith) ∙ c4.rest i (inr (omega (arith, size, y_is)))) v ∙
                    after3 v ∙
                    left_is (L k v) (S v) (A v) ∙
                    ap (λ (b : Bool). L k v && not b) (A_is v);
                table =
                    λ i l. low5 i (omega arith) ∙ c2.table i l ∙ c1.rest i (inl (omega (arith, y_is)));
                rest =
                    λ i low o b d.
                    same5 i d ∙
                    c4.rest i (⊎_elim (λ h. inl h) (λ h. inr (omega (arith, size))) o) ∙
                    c3.rest i b ∙
                    same2 i low o b;
              }

-- ---- the same for the numbers that the code has

module _ {owners offsets targets : List ℕ} {alpha s held base mark : ℕ} {w0 : List ℕ}
    (d : Drawable owners offsets targets alpha s held base mark w0)
    {below : ℕ} (next : below ≡ base + s)
  where
    abbrev n' : ℕ
    n' = length owners

    abbrev m' : ℕ
    m' = length targets

    at_is : below ≡ level_at n' m' s (suc (depth_in n' m' s w0))
    at_is = next ∙ ap (λ (x : ℕ). x + s) d.asked.base_is ∙ sym (next_level n' m' s (depth_in n' m' s w0))

    room_after : level_at n' m' s (suc (depth_in n' m' s w0)) + s ≤ end_at n' m' s
    room_after = omega (arith, at_is, next, d.asked.room)

    -- no mark: all of the region is new
    module _ (none : get_or w0 mark 0 ≡ 0) where
      none_is : get_or w0 (mark_at n' m' s) 0 ≡ 0
      none_is = rw d.asked.mark_is at none

      pub given_whole_attract : Attractable owners offsets targets alpha base held w0
      given_whole_attract =
          let q = d.asked in
          rw (q.base_is, q.held_is)
          (whole_ready owners q.priorities q.accepted q.ready room_after q.newcomers (q.newcomers.unmarked none_is)
          d.side)

      pub given_whole :
          {w1 w2 : List ℕ} {looks : ℕ} →
          ((priorities : List ℕ) →
          Accepted (tables_of owners priorities offsets targets) →
          Attracted (tables_of owners priorities offsets targets) (player_of alpha) base held w0 w1 looks) →
          ((n : ℕ) → s ≡ words n → WithoutAt n below base held w1 w2) →
          RegionDraws owners offsets targets s (player_of alpha) w0 w2
      given_whole c1 c2 priorities ok ready newcomers =
          let q = d.asked in
          whole_drawn owners priorities ok ready room_after newcomers (newcomers.unmarked none_is)
          (rw (q.base_is, q.held_is) at (c1 priorities ok))
          (rw (at_is, q.base_is, q.held_is) at (c2 (length owners) ready.size))

    -- the newcomers are put back into the level after
    module _ {w1 : List ℕ} (c1 : Combined max below held s w0 w1) where
      pub given_attract : Attractable owners offsets targets alpha below held w1
      given_attract =
          let q = d.asked in
          rw (at_is, q.held_is)
          (attract_ready owners q.priorities q.accepted q.ready room_after q.newcomers
          (rw (at_is, q.held_is) at c1) d.side)

      pub given_newcomers :
          {w2 w3 w4 : List ℕ} {looks : ℕ} →
          ((priorities : List ℕ) →
          Accepted (tables_of owners priorities offsets targets) →
          Attracted (tables_of owners priorities offsets targets) (player_of alpha) below held w1 w2 looks) →
          Combined ◌-◌ below held s w2 w3 →
          ((n : ℕ) → s ≡ words n → WithoutAt n held base below w3 w4) →
          RegionDraws owners offsets targets s (player_of alpha) w0 (set w4 mark 0)
      given_newcomers c2 c3 c4 priorities ok ready newcomers =
          let q = d.asked in
          rw q.mark_is
          (newcomers_drawn owners priorities ok ready room_after newcomers (rw (at_is, q.held_is) at c1)
          (rw (at_is, q.held_is) at (c2 priorities ok)) (rw (at_is, q.held_is) at c3)
          (rw (at_is, q.base_is, q.held_is) at (c4 (length owners) ready.size)))
