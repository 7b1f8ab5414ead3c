-- `touch` meets its contract: by its tests it does nothing, gives an entry and joins, or counts down and joins at 0.
use mathlib.Core.Bool.{true, false, ◌&&◌, not}
use mathlib.Core.Path.{◌≡◌, sym, ap₂, ◌∙◌}
use Prim.Native.Nat.{◌+◌}
use borrow.Author.Tests.{not-true, eq-eqb, ne_eqb}
use lib.ListN.{length, set}
use Rattle.rules.specs.Counting.{Set}
use Rattle.basics.specs.Basics.{and_left, and_right}
use Rattle.area.specs.Lent.{bit_fits, part_set}
use Rattle.attractor_drawing.specs.Drawn.{drawn, inside}
use Rattle.attractor_counters.specs.Counters.{own_of, counts_in}
use Rattle.attractor_look.specs.State.{State, entered, counted, touched}
use Rattle.attractor_look.specs.State.{touched_passed, touched_entry, touched_last, touched_count}
use Rattle.attractor_look.specs.InArea.{state_at, Makes}
use Rattle.attractor_look.specs.InAreaLaws.{kept_room_lem, becomes_same, becomes_then, becomes_as, store_entry, count_becomes}
use Rattle.attractor_look.proofs.look.touch.Goals as goal
use Rattle.attractor_look.proofs.look.touch.Goals.{After-in_difference, After-entries-entries, After-count_down}

-- the state, where the function begins
abbrev state : (c : After-in_difference) → State
state c =
    let d = drawn c.args.drawing.now in
    state_at (counts_in d c.args.work.now) (length d.owners) (length d.targets) d.set c.args.next c.args.work.now

abbrev V' : (c : After-in_difference) → Set
V' c = inside (drawn c.args.drawing.now) c.args.work.now

-- what the first test says
is_new : (c : After-in_difference) → c.in_difference.result ≡ (V' c c.args.v && not ((state c).members c.args.v))
is_new c =
    let d = c.args.drawing.now in
    c.in_difference.ensures ∙
    ap₂ (λ (S T : Set). S c.args.v && not (T c.args.v)) (part_set (length d.owners.now) d.s d.within c.args.work.now d.size)
    (part_set (length d.owners.now) d.s d.set c.args.work.now d.size)

is_inside : (c : After-in_difference) → c.in_difference.result ≡ true → V' c c.args.v ≡ true
is_inside c e = and_left _ _ (sym (is_new c) ∙ e)

is_out : (c : After-in_difference) → c.in_difference.result ≡ true → (state c).members c.args.v ≡ false
is_out c e = not-true _ (and_right (V' c c.args.v) _ (sym (is_new c) ∙ e))

-- the entry is given
entry_given :
    (c : After-entries-entries) →
    let d = drawn c.args.drawing.now in
    Makes (counts_in d c.args.work.now) d c.args.next (entered c.args.w c.args.v) c.args.work.now
    (set c.args.work.now (c.entries-entries.result + c.args.v) c.args.w)
entry_given c =
    let d = drawn c.args.drawing.now in
    rw (c.entries-entries.ensures, c.area.ensures)
    (store_entry (counts_in d c.args.work.now) (length d.owners) (length d.targets) d.set c.args.next c.args.work.now
    c.requires.room c.args.v c.args.w c.requires.safe.below)

-- the counter falls
count_given :
    (c : After-count_down) →
    let d = drawn c.args.drawing.now in
    Makes (counts_in d c.args.work.now) d c.args.next (counted c.args.v) c.args.work.now c.count_down.new.work
count_given c =
    let d = drawn c.args.drawing.now in
    count_becomes (counts_in d c.args.work.now) (length d.owners) (length d.targets) d.set c.args.next c.args.work.now
    c.requires.room c.count_down.ensures

pub in_difference-requires : goal.in_difference-requires
in_difference-requires c =
    let d = c.args.drawing.now in
    let n = length d.owners.now in (
      bit_fits n d.s d.within c.args.v c.args.work.now d.size c.requires.placed.within_high c.requires.safe.below,
      bit_fits n d.s d.set c.args.v c.args.work.now d.size c.requires.placed.set_high c.requires.safe.below,
    )

pub returns-then-not-in_difference : goal.returns-then-not-in_difference
returns-then-not-in_difference c =
    let k = (goal.at.returns-then-not-in_difference c).After-in_difference in
    let d = drawn c.args.drawing.now in
    becomes_as
    (touched (V' k) (own_of d) c.args.w c.args.far c.args.v)
    (becomes_same (counts_in d c.args.work.now) (length d.owners) (length d.targets) d.set c.args.next c.args.work.now)
    (touched_passed (V' k) (own_of d) c.args.w c.args.far c.args.v (state k) (sym (is_new k) ∙ c.if-not-in_difference.true))

pub returns-then-owners-v : goal.returns-then-owners-v
returns-then-owners-v c =
    let k = (goal.at.returns-then-owners-v c).After-in_difference in
    let e = (goal.at.returns-then-owners-v c).After-entries-entries in
    let d = drawn c.args.drawing.now in
    becomes_as
    (touched (V' k) (own_of d) c.args.w c.args.far c.args.v)
    (becomes_then (entry_given e) (c.join.ensures (counts_in d c.args.work.now)))
    (touched_entry (V' k) (own_of d) c.args.w c.args.far c.args.v (state k) (is_inside k c.if-not-in_difference.false)
    (is_out k c.if-not-in_difference.false) (eq-eqb _ _ c.if-owners-v.true))

pub returns-then-count_down-ne0 : goal.returns-then-count_down-ne0
returns-then-count_down-ne0 c =
    let k = (goal.at.returns-then-count_down-ne0 c).After-in_difference in
    let e = (goal.at.returns-then-count_down-ne0 c).After-count_down in
    let d = drawn c.args.drawing.now in
    becomes_as
    (touched (V' k) (own_of d) c.args.w c.args.far c.args.v)
    (count_given e)
    (touched_count (V' k) (own_of d) c.args.w c.args.far c.args.v (state k) (is_inside k c.if-not-in_difference.false)
    (is_out k c.if-not-in_difference.false) (ne_eqb _ _ c.if-owners-v.false)
    (λ z. c.if-count_down-ne0.true (c.count_down.ensures.less ∙ z)))

pub join-requires-2 : goal.join-requires-2
join-requires-2 c =
    let given = count_given (goal.at.join-requires-2 c).After-count_down in
    record {
      room = kept_room_lem given.kept c.requires.room;
      layer = given.layer c.requires.layer;
      small = c.requires.safe.below;
    }

pub returns : goal.returns
returns c =
    let k = (goal.at.returns c).After-in_difference in
    let e = (goal.at.returns c).After-count_down in
    let d = drawn c.args.drawing.now in
    becomes_as
    (touched (V' k) (own_of d) c.args.w c.args.far c.args.v)
    (becomes_then (count_given e) (c.join-2.ensures (counts_in d c.args.work.now)))
    (touched_last (V' k) (own_of d) c.args.w c.args.far c.args.v (state k) (is_inside k c.if-not-in_difference.false)
    (is_out k c.if-not-in_difference.false) (ne_eqb _ _ c.if-owners-v.false)
    (sym c.count_down.ensures.less ∙ c.if-count_down-ne0.false))
