-- `join` meets its contract: the set, the distance and the next layer, one after the other.
use lib.ListN.{length}
use Rattle.area.specs.Lent.{bit_fits}
use Rattle.attractor_look.specs.InAreaLaws.{add_ready, state_joined}
use Rattle.attractor_look.proofs.look.join.Goals as goal

pub insert-requires : goal.insert-requires
insert-requires c =
    let d = c.args.drawing.now in
    bit_fits (length d.owners.now) d.s d.set c.args.v c.args.work.now d.size c.requires.room.high c.requires.small

pub add-requires : goal.add-requires
add-requires c =
    let d = c.args.drawing.now in
    add_ready (length d.owners.now) (length d.targets.now) d.set c.args.next c.args.work.now c.requires.room d.s c.args.v c.args.far
    c.insert.new.set d.size (rw c.area.ensures at c.distances-distances.ensures) c.requires.small c.insert.ensures
    c.behind_layer.ensures c.requires.layer

pub returns : goal.returns
returns c =
    let d = c.args.drawing.now in
    state_joined (length d.owners.now) (length d.targets.now) d.set c.args.next c.args.work.now c.requires.room d.s c.args.v c.args.far
    c.insert.new.set d.size (rw c.area.ensures at c.distances-distances.ensures) c.requires.small c.insert.ensures
    c.behind_layer.ensures c.add.new.layer c.add.ensures
