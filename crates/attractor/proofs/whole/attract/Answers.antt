-- `attract` meets its contract: layer by layer each member is taken by one of the rules' steps, until a layer has none.
use mathlib.Core.List.{List}
use Prim.Native.Nat.{ℕ, ◌<◌}
use mathlib.Core.Path.{◌≡◌, ap, ◌∙◌}
use native.Mathlib.Omega.{arith}
use lib.ListN.{length}
use Rattle.rules.specs.Counting.{count}
use Rattle.basics.specs.Basics.{count_le}
use Rattle.layer.specs.Laws.{unmarked_empty}
use Rattle.area.specs.Area.{layers}
use Rattle.attractor_drawing.specs.Drawn.{Plan}
use Rattle.attractor_look.specs.InArea.{layer_at}
use Rattle.attractor_word.specs.Attracted.{Attractable}
use Rattle.attractor_word.specs.Going.{taken_at}
use Rattle.attractor_layer.specs.OneLayer.{LayerStands, marks_read, marks_left, all_looks_few}
use Rattle.attractor.specs.LoopBegins.{begin_ready, started_same, started_given, started}
use Rattle.attractor.specs.Running.{layer_stands, turned, running_turn, running_all, attracted_moved}
use Rattle.attractor.proofs.whole.attract.Goals as goal
use Rattle.attractor.proofs.whole.attract.Goals.{After-layers-first, After-begin_layers, After-marks_at, After-take_layer-looks}

-- where the layers stand
first_is : (c : After-begin_layers) → c.layers-first.result ≡ layers (length c.args.owners.now) (length c.args.targets.now)
first_is c = rw c.area.ensures at c.layers-first.ensures

-- what holds of the work area where the loop begins
given :
    (c : After-begin_layers) →
    Attractable c.args.owners.now c.args.offsets.now c.args.targets.now c.args.alpha c.args.within c.args.set c.begin_layers.new.work
given c = started_given c.requires c.set_words-s.ensures (first_is c) c.begin_layers.ensures

-- how many are taken, by the work area
abbrev taken : After-take_layer-looks → List ℕ → ℕ
taken c work =
    let n = length c.args.owners.now in count n (taken_at n c.args.set c.loop-work.this c.loop-work.next work)

-- the run stands at the layer's end
then :
    (c : After-take_layer-looks) →
    let d : Plan =
    record {
      owners = c.args.owners.now;
      offsets = c.args.offsets.now;
      targets = c.args.targets.now;
      alpha = c.args.alpha;
      within = c.args.within;
      set = c.args.set;
    } in
    LayerStands d c.loop-work.this c.loop-work.next c.loop-work.far c.begin_layers.new.work c.loop-work.looks
    (taken c c.loop-work.work) c.take_layer-looks.result c.take_layer-looks.new.work
then c =
    let given =
    started_given c.requires c.set_words-s.ensures (rw c.area.ensures at c.layers-first.ensures) c.begin_layers.ensures in
    let going = c.loop-work.invariant.going in
    c.take_layer-looks.ensures.took _ _ _
    (layer_stands given going (marks_left given going c.set_words-s.ensures c.marks_at.ensures c.loop-work-test.true))

-- so more are taken, and never more than there are vertices
grows : (c : After-take_layer-looks) → taken c c.loop-work.work < taken c c.take_layer-looks.new.work
grows c = (then c).grown c.take_layer-looks.ensures.done

pub begin_layers-requires : goal.begin_layers-requires
begin_layers-requires c = begin_ready c.requires c.set_words-s.ensures (rw c.area.ensures at c.layers-first.ensures)

pub loop-work-init : goal.loop-work-init
loop-work-init c =
    rw c.behind_layer-next.ensures
    (started c.requires c.set_words-s.ensures (first_is (goal.at.loop-work-init c).After-begin_layers) c.begin_layers.ensures)

pub take_layer-looks-requires : goal.take_layer-looks-requires
take_layer-looks-requires c =
    let start = given (goal.at.take_layer-looks-requires c).After-begin_layers in
    let going = c.loop-work.invariant.going in
    record {
      lent = c.begin_layers.new.work;
      sofar = c.loop-work.looks;
      taken = _;
      stands =
          layer_stands start going (marks_left start going c.set_words-s.ensures c.marks_at.ensures c.loop-work-test.true);
    }

pub overflow_add-looks : goal.overflow_add-looks
overflow_add-looks c =
    let s = then (goal.at.overflow_add-looks c).After-take_layer-looks in omega (arith, all_looks_few s.given s.going)

pub overflow_add-far : goal.overflow_add-far
overflow_add-far c =
    let n = length c.args.owners.now in
    omega (
      arith,
      c.loop-work.invariant.deep,
      count_le n (taken_at n c.args.set c.loop-work.this c.loop-work.next c.loop-work.work),
      c.requires.edges.few_vertices,
    )

pub loop-work-smaller : goal.loop-work-smaller
loop-work-smaller c =
    let k = (goal.at.loop-work-smaller c).After-take_layer-looks in
    let s = then k in
    let n = length c.args.owners.now in
    let same_count = ap (count n) (turned s.given s.going c.take_layer-looks.ensures.done) in
    omega (arith, grows k, count_le n (taken_at n c.args.set c.loop-work.this c.loop-work.next c.take_layer-looks.new.work))

pub loop-work-preserved : goal.loop-work-preserved
loop-work-preserved c =
    let k = (goal.at.loop-work-preserved c).After-take_layer-looks in
    let s = then k in
    running_turn s.given s.going (omega (arith, grows k, c.loop-work.invariant.deep)) c.take_layer-looks.ensures.done

pub returns : goal.returns
returns c priorities ok =
    let b = (goal.at.returns c).After-begin_layers in
    let l = c.loop-work in
    let going = l.invariant.going in
    let none = marks_read (given b) going c.set_words-s.ensures c.marks_at.ensures ∙ c.loop-work-test.false in
    attracted_moved (started_same c.requires c.set_words-s.ensures (first_is b) c.begin_layers.ensures)
    (running_all (given b) going (unmarked_empty (layer_at (length c.args.owners.now) l.this l.work) going.layer none)
    l.invariant.next_none priorities ok)
