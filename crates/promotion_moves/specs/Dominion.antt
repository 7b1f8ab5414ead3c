-- R is a dominion: what the calls of `solve_dominion` ask for and leave, one after the other.
use Rattle.std.specs.Prelude.{Bool, false, ◌&&◌, ◌||◌, cond, List, ◌⊎◌, ◌≡◌, refl, ℕ, ◌+◌, ◌-◌, ◌*◌, ◌≤◌, ◌<◌, max, length, get_or}
use Rattle.std.proofs.Math.Bool.{true, not}
use Rattle.std.proofs.Common.{inl, inr, ⊎_elim, ap, subst, subst₂, ◌∙◌, arith}
use Rattle.std.proofs.Math.Path.{sym, ap₂}
use Rattle.rules.specs.Counting.{Set}
use Rattle.rules.specs.Game.{Player, Even, Odd, Game, parity, player_of, same}
use Rattle.rules.specs.Tables.{Tables, vertices, edges_in, words, game_of, Accepted, tables_of}
use Rattle.rules.specs.Attractor.{Closed, drawn, attractor}
use Rattle.basics.specs.Basics.{bool_cases, clash, not_true_is_false, lt_or_ge}
use Rattle.basics.specs.Frame.{Beside, Below, Unchanged}
use Rattle.theory.specs.Players.{same_true}
use Rattle.predecessors.specs.Table.{SoundEdges}
use Rattle.sets.specs.After.{Combined, Parts}
use Rattle.sets.specs.Laws.{bit_other}
use Rattle.area.specs.Area.{entries, free, set_at, words_at}
use Rattle.area.specs.SetsAt.{set_kept, set_united, set_reduced}
use Rattle.attractor.specs.Attracted.{Nested, Listed, Attractable, Attracted}
use Rattle.promotion_levels.specs.Layout.{won_behind}
use Rattle.promotion_levels.specs.Pulled.{Pulled, pulled_as, pulled_shut, attract_pulled}

-- what it asks for: the tables are accepted with some priorities, R lies in level 0, nothing may be drawn into it there where it was
-- drawn in within level 0, and the places do not overlap
pub record DominionReady (owners offsets targets : List ℕ) (s : ℕ) (a : Player) (k held levels : ℕ) (work : List ℕ) : Type 0 where
  pub priorities : List ℕ
  pub accepted : Accepted (tables_of owners priorities offsets targets)
  pub size : s ≡ words (length owners)
  pub edges : SoundEdges (length owners) offsets targets
  pub listed : Listed (length owners) offsets targets work
  pub nested : Nested (length owners) levels held work
  pub shut :
      k ≤ 0 →
      let R = set_at (length owners) held work in
      Closed (game_of (tables_of owners priorities offsets targets)) a (set_at (length owners) levels work) R R
  pub low : free (length owners) (length targets) ≤ held
  pub apart : held + 3 * s ≤ levels
  pub high : levels + s ≤ length work

-- what `draw_unsolved` asks for
pub record DrawReady (owners offsets targets : List ℕ) (alpha k held levels : ℕ) (work : List ℕ) : Type 0 where
  pub side : alpha ≤ 1
  pub ready : DominionReady owners offsets targets (words (length owners)) (player_of alpha) k held levels work

-- and what it leaves: R's place has its attractor in level 0, and other free words are as they were
pub record DrawnIn (t : Tables) (a : Player) (held levels : ℕ) (before after : List ℕ) : Type 0 where
  pub long : length after ≡ length before
  pub pulled :
      let n = vertices t in
      let m = edges_in t in
      Pulled (game_of t) a (set_at n levels before) (set_at n held before) (set_at n held after)
      (λ v. get_or before (entries n m + v) 0) (λ v. get_or after (entries n m + v) 0)
  pub table : Unchanged (Below (vertices t + 1 + edges_in t)) before after
  pub rest :
      (i : ℕ) →
      free (vertices t) (edges_in t) ≤ i →
      Beside (words (vertices t)) held i →
      get_or after i 0 ≡ get_or before i 0

-- what it leaves: R's place has its attractor D, which has left level 0 and is won
pub record Dominated (owners priorities offsets targets : List ℕ) (s p held levels : ℕ) (before after : List ℕ) : Type 0 where
  pub long : length after ≡ length before
  pub pulled :
      let n = length owners in
      let m = length targets in
      Pulled (game_of (tables_of owners priorities offsets targets)) (parity p) (set_at n levels before) (set_at n held before)
      (set_at n held after) (λ v. get_or before (entries n m + v) 0) (λ v. get_or after (entries n m + v) 0)
  pub left :
      let n = length owners in
      (v : ℕ) → set_at n levels after v ≡ (set_at n levels before v && not (set_at n held after v))
  pub won :
      let n = length owners in
      (b : Player) (v : ℕ) →
      set_at n (won_behind s held b) after v ≡
      cond (same (parity p) b) (set_at n (won_behind s held b) before v || set_at n held after v)
      (set_at n (won_behind s held b) before v)
  pub table : Unchanged (Below (length owners + 1 + length targets)) before after
  pub rest :
      (i : ℕ) →
      free (length owners) (length targets) ≤ i →
      Beside (3 * s) held i →
      Beside s levels i →
      get_or after i 0 ≡ get_or before i 0

-- ---- R is drawn in

module _ {owners offsets targets : List ℕ} {alpha k held levels : ℕ} {w0 : List ℕ}
    (given : DrawReady owners offsets targets alpha k held levels w0)
  where
    abbrev n₀ : ℕ
    n₀ = length owners

    pub attract_ready : Attractable owners offsets targets alpha levels held w0
    attract_ready =
        let r = given.ready in
        record {
          placed =
              record {
                within_low = omega (arith, r.low, r.apart);
                within_high = r.high;
                set_low = r.low;
                set_high = omega (arith, r.apart, r.high);
                apart = inr (omega (arith, r.apart));
              };
          nested = r.nested;
          edges = r.edges;
          listed = r.listed;
          side = given.side;
        }

    module _ (priorities : List ℕ) (ok : Accepted (tables_of owners priorities offsets targets)) where
      abbrev t : Tables
      t = tables_of owners priorities offsets targets

      -- by the attractor
      pub attracted_in :
          {w1 : List ℕ} {looks : ℕ} →
          Attracted (tables_of owners priorities offsets targets) (player_of alpha) levels held w0 w1 looks →
          DrawnIn (tables_of owners priorities offsets targets) (player_of alpha) held levels w0 w1
      attracted_in {w1} c =
          record {
            long = c.long;
            pulled = pulled_as (λ v. refl) (λ v. refl) (λ v. held1 v (lt_or_ge v n₀)) drawn1;
            table = c.table;
            rest = c.rest;
          }
        where
          D : Set
          D = attractor (game_of t) (player_of alpha) (set_at n₀ levels w0) (set_at n₀ held w0)

          drawn1 :
              Pulled (game_of t) (player_of alpha) (set_at n₀ levels w0) (set_at n₀ held w0) D
              (λ v. get_or w0 (entries n₀ (length targets) + v) 0) (λ v. get_or w1 (entries n₀ (length targets) + v) 0)
          drawn1 = attract_pulled ok given.ready.nested c

          held1 : (v : ℕ) → (v < n₀) ⊎ (n₀ ≤ v) → D v ≡ set_at n₀ held w1 v
          held1 v (inl l) = sym (c.holds.bits v l)
          held1 v (inr l) =
              not_true_is_false (D v)
              (λ i. let b = given.ready.nested.below v (drawn1.certificate.inside v i) in omega arith) ∙
              sym (bit_other (words_at n₀ held w1) v (c.holds.clear v l))

      -- and in level 0 it stays as it is
      pub shut_in : k ≤ 0 → DrawnIn (tables_of owners priorities offsets targets) (player_of alpha) held levels w0 w0
      unfolding game_of drawn
      shut_in none =
          record {
            long = refl;
            pulled =
                pulled_shut (record { part = given.ready.nested.part; below = given.ready.nested.below })
                (record { target = λ v i. i; attracted = (given.ready.shut none).attracted }) _;
            table = λ i l. refl;
            rest = λ i low o. refl;
          }

-- ---- and is won

module _ (p : ℕ) {owners offsets targets : List ℕ} {s k held levels : ℕ} {w0 : List ℕ}
    (given : DominionReady owners offsets targets s (parity p) k held levels w0)
  where
    abbrev n : ℕ
    n = length owners

    abbrev m : ℕ
    m = length targets

    abbrev W : Player → ℕ
    W = won_behind s held

    size : s ≡ words n
    size = given.size

    won_low : (b : Player) → held + s ≤ W b
    won_low Even = omega arith
    won_low Odd = omega arith

    won_high : (b : Player) → W b + s ≤ held + 3 * s
    won_high Even = omega arith
    won_high Odd = omega arith

    won_apart : (a b : Player) → same a b ≡ false → (W b + words n ≤ W a) ⊎ (W a + words n ≤ W b)
    won_apart Even Even e = absurd (clash refl e)
    won_apart Odd Odd e = absurd (clash refl e)
    won_apart Even Odd e = inr (omega (arith, size))
    won_apart Odd Even e = inl (omega (arith, size))

    pub draw_ready :
        {alpha : ℕ} → alpha ≤ 1 → player_of alpha ≡ parity p → DrawReady owners offsets targets alpha k held levels w0
    draw_ready side own =
        record {
          side = side;
          ready =
              subst₂ (λ (x : ℕ) (b : Player). DominionReady owners offsets targets x b k held levels w0) size (sym own) given;
        }

    module _ (priorities : List ℕ) (ok : Accepted (tables_of owners priorities offsets targets))
        {drawer : Player} (own : drawer ≡ parity p) {w1 : List ℕ}
        (made1 : DrawnIn (tables_of owners priorities offsets targets) drawer held levels w0 w1)
      where
        abbrev g : Game
        g = game_of (tables_of owners priorities offsets targets)

        abbrev a : Player
        a = parity p

        c1 : DrawnIn (tables_of owners priorities offsets targets) a held levels w0 w1
        c1 = rw own at made1

        drawn1 :
            Pulled g a (set_at n levels w0) (set_at n held w0) (set_at n held w1) (λ v. get_or w0 (entries n m + v) 0)
            (λ v. get_or w1 (entries n m + v) 0)
        drawn1 = c1.pulled

        same1 : (i : ℕ) → free n m ≤ i → Beside s held i → get_or w1 i 0 ≡ get_or w0 i 0
        same1 i low (inl l) = c1.rest i low (inl l)
        same1 i low (inr l) = c1.rest i low (inr (omega (arith, size)))

        pub union_parts : {won : ℕ} → won ≡ W a → Parts won held s w1
        union_parts is =
            let low = won_low a in
            let high = won_high a in
            record {
              into_fits = omega (arith, given.apart, given.high, c1.long);
              from_fits = omega (arith, given.apart, given.high, c1.long);
              apart = inr (omega arith);
            }

        module _ {won : ℕ} (is : won ≡ W a) {w2 : List ℕ} (made2 : Combined max won held s w1 w2) where
          c2 : Combined max (W a) held (words n) w1 w2
          c2 =
              subst (λ (k : ℕ). Combined max (W a) held k w1 w2) size
              (subst (λ (k : ℕ). Combined max k held s w1 w2) is made2)

          pub difference_parts : Parts levels held s w2
          difference_parts =
              record {
                into_fits = omega (arith, given.high, c1.long, c2.long);
                from_fits = omega (arith, given.apart, given.high, c1.long, c2.long);
                apart = inr (omega (arith, given.apart));
              }

          module _ {w3 : List ℕ} (made3 : Combined ◌-◌ levels held s w2 w3) where
            c3 : Combined ◌-◌ levels held (words n) w2 w3
            c3 = subst (λ (k : ℕ). Combined ◌-◌ levels held k w2 w3) size made3

            -- words before the sets won are written by the attractor alone
            front3 : Unchanged (Below (held + s)) w1 w3
            front3 i l =
                let low = won_low a in
                c3.rest i (inl (omega (arith, given.apart))) ∙ c2.rest i (inl (omega arith))

            held3 : (v : ℕ) → set_at n held w3 v ≡ set_at n held w1 v
            held3 = set_kept n held w1 w3 (λ i low high. front3 i (omega (arith, size)))

            level2 : (v : ℕ) → set_at n levels w2 v ≡ set_at n levels w0 v
            level2 =
                set_kept n levels w0 w2
                (λ i low high.
                let most = won_high a in
                c2.rest i (inr (omega (arith, size, given.apart))) ∙
                same1 i (omega (arith, given.low, given.apart)) (inr (omega (arith, given.apart))))

            held2 : (v : ℕ) → set_at n held w2 v ≡ set_at n held w3 v
            held2 v =
                sym (set_kept n held w2 w3 (λ i low high. c3.rest i (inl (omega (arith, size, given.apart)))) v)

            won1 : (b : Player) (v : ℕ) → set_at n (W b) w1 v ≡ set_at n (W b) w0 v
            won1 b =
                set_kept n (W b) w0 w1
                (λ i low high.
                let first = won_low b in
                same1 i (omega (arith, given.low)) (inr (omega arith)))

            won3 : (b : Player) (v : ℕ) → set_at n (W b) w3 v ≡ set_at n (W b) w2 v
            won3 b =
                set_kept n (W b) w2 w3
                (λ i low high.
                let last = won_high b in
                c3.rest i (inl (omega (arith, size, given.apart))))

            won_now :
                (b : Player) (v : ℕ) →
                set_at n (W b) w3 v ≡
                cond (same a b) (set_at n (W b) w0 v || set_at n held w3 v) (set_at n (W b) w0 v)
            won_now b v =
                won3 b v ∙
                ⊎_elim
                (λ (e : same a b ≡ true).
                ap (λ (x : Player). set_at n (W x) w2 v) (sym (same_true a b e)) ∙
                set_united n (W a) held w1 w2 c2 v ∙
                ap₂ (λ (x y : Bool). x || y) (won1 a v) (sym (held3 v)) ∙
                ap (λ (x : Player). set_at n (W x) w0 v || set_at n held w3 v) (same_true a b e) ∙
                sym (ap (λ (x : Bool). cond x (set_at n (W b) w0 v || set_at n held w3 v) (set_at n (W b) w0 v)) e))
                (λ (e : same a b ≡ false).
                set_kept n (W b) w1 w2
                (λ i low high.
                c2.rest i (⊎_elim (λ h. inl (omega arith)) (λ h. inr (omega arith)) (won_apart a b e))) v ∙
                won1 b v ∙
                sym (ap (λ (x : Bool). cond x (set_at n (W b) w0 v || set_at n held w3 v) (set_at n (W b) w0 v)) e))
                (bool_cases (same a b))

            -- **R's attractor is won, and no longer unsolved**
            pub dominated : Dominated owners priorities offsets targets s p held levels w0 w3
            unfolding game_of
            dominated =
                record {
                  long = c3.long ∙ c2.long ∙ c1.long;
                  pulled =
                      let as-held = pulled_as (λ v. refl) (λ v. refl) (λ v. sym (held3 v)) drawn1 in
                      record {
                        certificate = as-held.certificate;
                        near = as-held.near;
                        entered =
                            λ v i out o.
                            front3 (entries n m + v) (entry_low v (small v i)) ∙ as-held.entered v i out o;
                        kept = λ v l no. front3 (entries n m + v) (entry_low v (size_is v l)) ∙ as-held.kept v l no;
                      };
                  left =
                      λ v.
                      set_reduced n levels held w2 w3 c3 v ∙
                      ap₂ (λ (x y : Bool). x && not y) (level2 v) (held2 v);
                  won = won_now;
                  table = λ i l. front3 i (omega (arith, given.low)) ∙ c1.table i l;
                  rest = λ i low o x. rest3 i low o x;
                }
              where
                small : (v : ℕ) → set_at n held w3 v ≡ true → v < n
                small v i =
                    given.nested.below v (drawn1.certificate.inside v (sym (held3 v) ∙ i))

                size_is : (v : ℕ) → v < g.size → v < n
                size_is v l = l

                entry_low : (v : ℕ) → v < n → entries n m + v < held + s
                entry_low v l = omega (arith, given.low)

                rest3 :
                    (i : ℕ) → free n m ≤ i → Beside (3 * s) held i → Beside s levels i →
                    get_or w3 i 0 ≡ get_or w0 i 0
                rest3 i low o x =
                    c3.rest i (⊎_elim (λ l. inl l) (λ l. inr (omega (arith, size))) x) ∙
                    ⊎_elim
                    (λ l. let first = won_low a in c2.rest i (inl (omega arith)) ∙ same1 i low (inl l))
                    (λ l.
                    let last = won_high a in
                    c2.rest i (inr (omega (arith, size))) ∙ same1 i low (inr (omega arith)))
                    o
