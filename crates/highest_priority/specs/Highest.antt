-- How far the search for the highest priority has come.
use Rattle.std.specs.Prelude.{true, List, ◌≡◌, ℕ, ◌≤◌, max, length, get_or, Option, Some, None}
use Rattle.std.proofs.Common.{arith}
use Rattle.basics.specs.Greatest.{greatest_bounds, greatest_le}
use Rattle.parity_game.specs.declared.player.VertexIndex.{VertexIndex}
use Rattle.walk.specs.Walk.{words_from, Begins, Walks}
use Rattle.walk.specs.declared.members.Members.{Members}
use Rattle.area.specs.Area.{set_at}
use Rattle.area.specs.Walked.{Passed, passes, passed_weaker, walked_none, walked_all, walked_next}
use Rattle.highest_priority.specs.Parts.{highest_of, Searchable}

-- no member that was passed has a priority above `highest`, and `highest` is not above that of V
pub record SearchedTo (priorities : List ℕ) (base : ℕ) (work : List ℕ) (walk : Members) (highest : ℕ) : Type 0 where
  pub passed : Passed (length priorities) base (λ v. get_or priorities v 0 ≤ highest) work walk
  pub most : highest ≤ highest_of priorities (set_at (length priorities) base work)

module _ {priorities : List ℕ} {s base top : ℕ} {work : List ℕ} (given : Searchable priorities s base top work) where
  -- the walk begins
  pub searched_none : {walk : Members} → Begins (words_from s base work) walk → SearchedTo priorities base work walk 0
  searched_none first = record { passed = walked_none given.walkable tt first; most = omega arith }

  -- a member bounds the highest priority
  bounds : (v : ℕ) → set_at (length priorities) base work v ≡ true → get_or priorities v 0 ≤ highest_of priorities (set_at (length priorities) base work)
  bounds v member =
      greatest_bounds (length priorities) (set_at (length priorities) base work) (λ u. get_or priorities u 0) v
      (given.walkable.below v member) member

  -- and one that has the bound has it
  pub searched_top :
      (v : ℕ) →
      set_at (length priorities) base work v ≡ true →
      get_or priorities v 0 ≡ top →
      top ≡ highest_of priorities (set_at (length priorities) base work)
  searched_top v member has =
      omega (
        arith,
        bounds v member,
        greatest_le (length priorities) (set_at (length priorities) base work) (λ u. get_or priorities u 0) top (λ u l m. given.under u m),
      )

  module _ {walk : Members} {highest : ℕ} (c : SearchedTo priorities base work walk highest) {next : Option VertexIndex} (rest : Members)
      (step : Walks (words_from s base work) walk next rest)
    where
      -- the walk is over
      pub searched_all : next ≡ None → highest ≡ highest_of priorities (set_at (length priorities) base work)
      searched_all told =
          let all = (walked_all given.walkable c.passed rest step told).inside in
          omega (
            arith,
            c.most,
            greatest_le (length priorities) (set_at (length priorities) base work) (λ v. get_or priorities v 0) highest (λ v l m. all v m),
          )

      -- the next member's priority counts
      pub searched_more :
          {v : VertexIndex} {higher : ℕ} →
          next ≡ Some v →
          higher ≡ max highest (get_or priorities v.0 0) →
          SearchedTo priorities base work rest higher
      searched_more {v} {higher = higher} told is =
          let weaker : Passed (length priorities) base (λ u. get_or priorities u 0 ≤ higher) work walk =
          passed_weaker (λ u l. omega (arith, l, is)) c.passed in
          let reached = walked_next given.walkable weaker rest step told in
          record {
            passed = reached.more (passes (omega (arith, is)));
            most = omega (arith, is, c.most, bounds v.0 reached.member);
          }
