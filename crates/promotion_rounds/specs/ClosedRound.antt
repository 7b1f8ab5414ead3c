-- A round whose R is closed, once the missing entries are given: what is known then, of a promotion and of a dominion alike.
use Rattle.std.specs.Prelude.{true, false, List, ◌≡◌, ℕ, ◌%◌, ◌≤◌, ◌<◌, eqb, length, get_or}
use Rattle.std.proofs.Common.{sym, ap, subst, ◌∙◌, le_refl, arith}
use Rattle.rules.specs.Counting.{some}
use Rattle.rules.specs.Game.{Even, Game, Total}
use Rattle.rules.specs.Tables.{game_of, Accepted, tables_of}
use Rattle.rules.specs.Promotion.{Regions, region_set, region_is_open, after_rounds}
use Rattle.basics.specs.Basics.{and_left}
use Rattle.theory.specs.PromotionEntries.{mover, AttractedEntries, ClosesEntries}
use Rattle.theory.specs.PromotionRounds.{attracted_region}
use Rattle.theory.specs.PromotionStanding.{Standing}
use Rattle.theory.specs.PromotionTable.{open_at, next_above, open_read}
use Rattle.promotion_levels.specs.Nesting.{inside_all, here_is}
use Rattle.promotion_levels.specs.Layout.{won_at, depth_at, depth_in, top_in, level_in, held_in, region_in, entry_in, Whole, Ready}
use Rattle.promotion_escape.specs.Highest.{HighestLevel}
use Rattle.promotion_escape.specs.ByRegions.{LowestAbove, region_before, highest_lowest}
use Rattle.promotion_rounds.specs.Shown as shown
use Rattle.promotion_rounds.specs.Shown.{Shows}
use Rattle.promotion_rounds.specs.Above.{next_above_lem}

-- w0 is the work area where the round began, w2 where R is drawn in and its entries are given; σ are the entries between
pub record ClosedRound (owners priorities offsets targets : List ℕ) (s made current left : ℕ) (w0 w2 : List ℕ) (σ : ℕ → ℕ) :
    Type 0 where
  pub accepted : Accepted (tables_of owners priorities offsets targets)
  pub shows :
      Shows owners priorities offsets targets s (after_rounds (game_of (tables_of owners priorities offsets targets)) made) current
      left w0
  pub ready : Ready (length owners) priorities offsets targets s w2
  pub whole : Whole (length owners) (length targets) s w2
  pub agrees :
      let g = game_of (tables_of owners priorities offsets targets) in
      (v : ℕ) → v < g.size →
      region_in (length owners) (length targets) s priorities w2 v ≡ attracted_region g (after_rounds g made) v
  pub top :
      top_in (length owners) (length targets) s w2 (depth_in (length owners) (length targets) s w2) ≡
      (after_rounds (game_of (tables_of owners priorities offsets targets)) made).current
  pub won_kept :
      (i : ℕ) → won_at (length owners) (length targets) s Even ≤ i → i < depth_at (length owners) (length targets) s →
      get_or w2 i 0 ≡ get_or w0 i 0
  pub left_kept :
      (v : ℕ) → level_in (length owners) (length targets) s w2 0 v ≡ level_in (length owners) (length targets) s w0 0 v
  pub closed :
      let g = game_of (tables_of owners priorities offsets targets) in
      region_is_open g (after_rounds g made) (region_set g (after_rounds g made)) ≡ false
  pub drawn :
      let g = game_of (tables_of owners priorities offsets targets) in
      AttractedEntries g (after_rounds g made) (entry_in (length owners) (length targets) s w0) σ
  pub filled :
      let g = game_of (tables_of owners priorities offsets targets) in
      ClosesEntries g (mover (after_rounds g made)) (region_set g (after_rounds g made)) σ
      (entry_in (length owners) (length targets) s w2)

module _ {owners priorities offsets targets : List ℕ} {s made current left : ℕ} {w0 w2 : List ℕ} {σ : ℕ → ℕ}
    (c : ClosedRound owners priorities offsets targets s made current left w0 w2 σ)
  where
    abbrev n : ℕ
    n = length owners

    abbrev m : ℕ
    m = length targets

    abbrev g : Game
    g = game_of (tables_of owners priorities offsets targets)

    abbrev r : Regions
    r = after_rounds g made

    abbrev p : ℕ
    p = r.current

    abbrev k : ℕ
    k = depth_in n m s w2

    abbrev T : ℕ → ℕ
    T = region_in n m s priorities w2

    pub total : Total g
    total = shown.total c.accepted made c.shows

    pub standing : Standing g r
    standing = shown.standing c.accepted made c.shows

    pub small : p < 256
    small = shown.small c.accepted made c.shows

    -- R are the vertices of region p
    pub held_is : (v : ℕ) → held_in n m s w2 v ≡ eqb (T v) p
    held_is v =
        c.whole v ∙ sym (here_is c.ready.nests k v (le_refl k)) ∙ ap (λ (x : ℕ). eqb (T v) x) c.top

    -- all of them stand in the first level
    pub held_first : (v : ℕ) → held_in n m s w2 v ≡ true → level_in n m s w2 0 v ≡ true
    held_first v i =
        inside_all c.ready.nests 0 k v (omega arith) (omega arith)
        (and_left (level_in n m s w2 k v) _ (sym (c.whole v) ∙ i))

    pub not_open : some g.size (open_at g T p) ≡ false
    not_open = sym (open_read g total r small T c.agrees) ∙ c.closed

    -- **the region that the code finds is the one to promote to**
    pub found_above :
        (x : ℕ) →
        HighestLevel owners offsets targets (p % 2) (held_in n m s w2) (level_in n m s w2) k x →
        region_before (top_in n m s w2) x ≡ next_above g T p
    found_above x h =
        next_above_lem owners priorities offsets targets c.accepted p (held_in n m s w2) T small held_is
        (λ v i. c.ready.nests.below v (held_first v i))
        (subst (λ (q : ℕ). LowestAbove owners offsets targets (p % 2) (held_in n m s w2) T q (region_before (top_in n m s w2) x))
        c.top (highest_lowest c.ready.nests x h))
