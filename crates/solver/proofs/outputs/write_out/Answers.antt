-- `write_out` meets its contract.
use Rattle.solver.specs.Outputs.{lent_enterable, wrote_parts}
use Rattle.solver.proofs.outputs.write_out.Lts as lts
use Rattle.solver.proofs.outputs.write_out.Reads as reads
use Rattle.solver.proofs.outputs.write_out.Tie as tie
use Rattle.solver.proofs.outputs.write_out.Goals as goal

abbrev AtAfterCopyFrom : Type 0
AtAfterCopyFrom = lts.After-copy_from tie.the-claims reads.Pre reads.Post

abbrev AtAfterCopyFrom2 : Type 0
AtAfterCopyFrom2 = lts.After-copy_from2 tie.the-claims reads.Pre reads.Post

abbrev AtAfterNextSet : Type 0
AtAfterNextSet = lts.After-next_set tie.the-claims reads.Pre reads.Post

abbrev AtStart : Type 0
AtStart = lts.Start tie.the-claims reads.Pre reads.Post

-- where the function begins, where Odd's set is found, and where Even's set is written
abbrev placed : AtAfterCopyFrom → AtAfterNextSet
placed e = e.before.before.before

abbrev start : AtAfterCopyFrom → AtStart
start e = (placed e).before.before.before.before.before.before

abbrev even_out : AtAfterCopyFrom2 → AtAfterCopyFrom
even_out o = o.before.before.before.before.before

pub write_strategy-requires : goal.write_strategy-requires
write_strategy-requires c =
    let e = even_out c.before.before.before.before.before.before.before in lent_enterable (start e).requires (placed e).next_set-next.ensures

pub returns : goal.returns
returns c =
    let w = c.before.before.before in
    let o = w.before.before.before.before.before.before.before in
    let e = even_out o in
    let a = (start e).args in
    wrote_parts a.s a.from a.at a.work.now
    (record { even = a.even.now; odd = a.odd.now; strategy = a.strategy.now })
    (placed e).next_set-next.ensures e.copy_from.ensures o.copy_from-2.ensures w.write_strategy.ensures
    (λ i. (o.slice_known-4-1.given i).fits)
    (λ i. (w.slice_known-5-1.given i).fits)
