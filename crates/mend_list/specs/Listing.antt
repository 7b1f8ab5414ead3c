-- What the writing of the list needs, and what its two parts make.
use mathlib.Core.List.{List, [], ◌++◌}
use Rattle.std.specs.Prelude.{◌≡◌, ℕ, ◌+◌, ◌≤◌}
use Rattle.std.proofs.Common.{sym, ◌∙◌, arith}
use Rattle.std.proofs.Math.Path.{ap}
use Rattle.std.proofs.Math.ListN.{length, length-append}
use Rattle.rules.specs.Mending.{dropped_up_to, altered_up_to, mending_list, overwritten}
use Rattle.rules.specs.Tables.{Tables, vertices, edges_in}
use Rattle.theory.specs.Mending.{Mendable}
use Rattle.mend_counts.specs.Bare.{bare, bared_dropped}
use Rattle.mend_counts.specs.Placed.{placed, placed_front, placed_then, placed_length}

-- the tables pass 1 to 6, so many edges are dropped, and the list has room
pub record ListFits (t : Tables) (dropped : ℕ) (before : List ℕ) : Type 0 where
  pub mendable : Mendable t
  pub counted : dropped ≡ length (dropped_up_to t (edges_in t))
  pub room : length (mending_list t) ≤ length before

module _ (t : Tables) (dropped : ℕ) (before : List ℕ) (fits : ListFits t dropped before) where
  -- the dropped edges, as they are counted and written without the other tables
  abbrev gone : List ℕ
  gone = dropped_up_to (bare t.owners [] t.targets) (edges_in t)

  parts_long : length (mending_list t) ≡ dropped + length (altered_up_to t (vertices t))
  unfolding mending_list
  parts_long =
      length-append (dropped_up_to t (edges_in t)) (altered_up_to t (vertices t)) ∙
      ap (λ (k : ℕ). k + length (altered_up_to t (vertices t))) (sym fits.counted)

  gone_long : length gone ≡ dropped
  gone_long = ap length (bared_dropped t (edges_in t)) ∙ sym fits.counted

  pub first_room : length gone ≤ length before
  first_room = omega (arith, parts_long, gone_long, fits.room)

  first_placed : overwritten gone before ≡ placed 0 gone before
  first_placed = sym (placed_front gone before)

  -- the first part leaves the length, so that there is room for the second
  pub second_room :
      (mid : List ℕ) → mid ≡ overwritten gone before → dropped + length (altered_up_to t (vertices t)) ≤ length mid
  second_room mid e =
      let long = ap length (e ∙ first_placed) ∙ placed_length 0 gone before (omega (arith, first_room)) in
      omega (arith, parts_long, fits.room)

  -- both parts are the list
  pub parts_make_list :
      (mid after : List ℕ) → mid ≡ overwritten gone before → after ≡ placed dropped (altered_up_to t (vertices t)) mid →
      after ≡ overwritten (mending_list t) before
  unfolding mending_list
  parts_make_list mid after e e' =
      let rest = altered_up_to t (vertices t) in
      let from : dropped ≡ 0 + length gone = omega (arith, gone_long) in
      let both : placed dropped rest mid ≡ placed 0 (gone ++ rest) before =
      rw (e ∙ first_placed, from) (placed_then 0 gone before rest (omega (arith, first_room))) in
      let whole : gone ++ rest ≡ mending_list t = ap (λ (xs : List ℕ). xs ++ rest) (bared_dropped t (edges_in t)) in
      e' ∙ both ∙ ap (λ (xs : List ℕ). placed 0 xs before) whole ∙ placed_front (mending_list t) before
