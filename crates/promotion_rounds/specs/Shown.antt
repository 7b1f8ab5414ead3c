-- The work area and the small state show a state of the rules; and what they show once R is drawn in: the three kinds of round.
use Rattle.std.specs.Prelude.{Bool, true, false, ◌&&◌, List, ◌≡◌, refl, ℕ, suc, ◌%◌, ◌≤◌, ◌<◌, length, get_or}
use Rattle.std.proofs.Math.Bool.{cond}
use Rattle.std.proofs.Math.Logic.{⊎_elim}
use Rattle.std.proofs.Math.Path.{sym, ap, ap₂}
use Rattle.std.proofs.Common.{◌∙◌, le_refl}
use Rattle.std.proofs.Math.Dec.{eqb, ltb}
use Rattle.rules.specs.Counting.{Set, count, some}
use Rattle.rules.specs.Game.{Player, Game, Total, parity}
use Rattle.rules.specs.Tables.{Tables, game_of, Accepted, tables_of}
use Rattle.rules.specs.Promotion.{Regions, region_set, region_is_open, after_rounds}
use Rattle.basics.specs.Basics.{lt_or_ge}
use Rattle.basics.specs.Basics.{some_cong, some_of_cong}
use Rattle.accepted.specs.Tables.{accepted_total, accepted_priority, accepted_few}
use Rattle.basics.specs.Basics.{noted_below}
use Rattle.theory.specs.PromotionRounds.{attracted_region}
use Rattle.theory.specs.PromotionStanding.{Standing}
use Rattle.theory.specs.PromotionBound.{after_standing}
use Rattle.theory.specs.PromotionTable.{open_at, above_solved, region_table}
use Rattle.promotion_heads.specs.Heads.{open_by_heads}
use Rattle.area.specs.Area.{set_at}
use Rattle.promotion_levels.specs.Nesting.{region_of, Nesting, here_is, below_is}
use Rattle.promotion_levels.specs.Layout.{held_at, won_at, level_at, depth_in, top_in, level_in, held_in, region_in, Ready}
use Rattle.promotion_levels.specs.Places.{solved_above}
use Rattle.promotion_levels.specs.Newcomers.{Newcomers}
use Rattle.promotion_levels.specs.Pulled.{owner_test}
use Rattle.promotion_region.specs.Query.{Queried}
use Rattle.promotion_open.specs.Opening.{is_open_in}

-- a head of R that passes a test
head_first : (a b c : Bool) → ((a && b) && c) ≡ (b && (a && c))
head_first true b c = refl
head_first false true c = refl
head_first false false c = refl

-- the work area and the small state show a state of the rules
pub record Shows (owners priorities offsets targets : List ℕ) (s : ℕ) (r : Regions) (at many : ℕ) (work : List ℕ) : Type 0 where
  pub ready : Ready (length owners) priorities offsets targets s work
  pub newcomers :
      Newcomers (game_of (tables_of owners priorities offsets targets)) (parity at) (length owners) (length targets) s work
  pub current : at ≡ r.current
  pub top :
      at ≡ top_in (length owners) (length targets) s work (depth_in (length owners) (length targets) s work)
  pub region : (v : ℕ) → v < length owners → region_in (length owners) (length targets) s priorities work v ≡ r.region v
  pub won :
      (b : Player) (v : ℕ) → v < length owners →
      set_at (length owners) (won_at (length owners) (length targets) s b) work v ≡ r.won b v
  pub bare :
      (b : Player) (v : ℕ) → length owners ≤ v →
      set_at (length owners) (won_at (length owners) (length targets) s b) work v ≡ false
  pub left : many ≡ count (length owners) (level_in (length owners) (length targets) s work 0)

module _ {owners priorities offsets targets : List ℕ} (ok : Accepted (tables_of owners priorities offsets targets)) {s : ℕ}
    (made : ℕ) {current left : ℕ} {w0 : List ℕ}
    (shows :
    Shows owners priorities offsets targets s (after_rounds (game_of (tables_of owners priorities offsets targets)) made) current left
    w0)
  where
    abbrev n : ℕ
    n = length owners

    abbrev m : ℕ
    m = length targets

    abbrev t : Tables
    t = tables_of owners priorities offsets targets

    abbrev g : Game
    g = game_of t

    -- the rules' state before the round, and its current priority
    abbrev r : Regions
    r = after_rounds g made

    abbrev p : ℕ
    p = r.current

    abbrev k : ℕ
    k = depth_in n m s w0

    pub total : Total g
    total = accepted_total t ok

    pub standing : Standing g r
    standing = after_standing g total (λ v l. accepted_priority t ok v) made

    pub small : p < 256
    small = standing.small

    pub top_is : top_in n m s w0 k ≡ p
    top_is = sym shows.top ∙ shows.current

    -- the regions before the round are the rules'
    pub agrees0 : (v : ℕ) → region_in n m s priorities w0 v ≡ r.region v
    unfolding game_of
    agrees0 v =
        ⊎_elim
        (λ l. shows.region v l)
        (λ l. solved_above owners priorities offsets targets shows.ready.nests v l ∙ sym (above_solved g made v l))
        (lt_or_ge v n)

    module _ {w1 : List ℕ} (c1 : Queried owners priorities offsets targets s p w0 w1) where
      -- the regions once R is drawn in
      abbrev T : ℕ → ℕ
      T = region_in n m s priorities w1

      abbrev R : Set
      R = held_in n m s w1

      pub R_is : (v : ℕ) → R v ≡ region_set g r v
      R_is = region_table g r (region_in n m s priorities w0) agrees0 c1.attracts.certificate

      pub agrees1 : (v : ℕ) → v < g.size → T v ≡ attracted_region g r v
      unfolding game_of
      agrees1 v l =
          c1.region v ∙ ap₂ (λ (b : Bool) (x : ℕ). cond b p x) (R_is v) (shows.region v l) ∙
          sym (noted_below 256 g.size _ v l)

      -- the levels once R is drawn in
      abbrev L : ℕ → Set
      L = level_in n m s w1

      pub depth1 : depth_in n m s w1 ≡ k
      depth1 = c1.depth

      pub nests1 : Nesting n k L (top_in n m s w1) (λ v. get_or priorities v 0)
      nests1 = rw depth1 at c1.ready.nests

      pub top1 : top_in n m s w1 k ≡ p
      top1 = c1.tops k (le_refl k) ∙ top_is

      pub T_is : (v : ℕ) → T v ≡ region_of L (top_in n m s w1) (λ u. get_or priorities u 0) k v
      T_is v = ap (λ (j : ℕ). region_of L (top_in n m s w1) (λ u. get_or priorities u 0) j v) depth1

      -- R are the vertices of region p, and the last level those below
      pub held_is : (v : ℕ) → R v ≡ eqb (T v) p
      held_is v =
          (rw depth1 at (c1.whole v)) ∙ sym (here_is nests1 k v (le_refl k)) ∙
          ap₂ (λ (x y : ℕ). eqb x y) (sym (T_is v)) top1

      pub last_is : (v : ℕ) → L (suc k) v ≡ ltb (T v) p
      last_is v = sym (below_is nests1 k v (le_refl k)) ∙ ap₂ (λ (x y : ℕ). ltb x y) (sym (T_is v)) top1

      -- **open by its heads, as the code tells it**
      pub open_same :
          is_open_in owners offsets targets (p % 2) (level_at n m s (suc (suc k))) (held_at n m s) (level_at n m s (suc k)) w1 ≡
          some g.size (λ v. eqb (g.priority v) p && open_at g T p v)
      unfolding game_of
      open_same =
          some_cong n _ _
          (λ v l.
          ap₂ (λ (x y : Bool). x && y) (c1.heads v ∙ ap (λ (x : Bool). x && eqb (get_or priorities v 0) p) (held_is v))
          (rw (
            owner_test t ok p v l,
            some_of_cong (g.targets v) R (λ w. eqb (T w) p) (λ w e. held_is w),
            some_of_cong (g.targets v) (L (suc k)) (λ w. ltb (T w) p) (λ w e. last_is w),
          )) ∙
          head_first (eqb (T v) p) (eqb (get_or priorities v 0) p) _)

      pub open_is :
          region_is_open g r (region_set g r) ≡
          is_open_in owners offsets targets (p % 2) (level_at n m s (suc (suc k))) (held_at n m s) (level_at n m s (suc k)) w1
      open_is =
          open_by_heads g total (λ v l. accepted_priority t ok v) (accepted_few t ok) made T agrees1 ∙ sym open_same
