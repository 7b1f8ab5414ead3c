-- `prepare` meets its contract.
use native.Mathlib.Omega.{arith}
use Rattle.solver_start.specs.Preparing.{fill_fits, prepared_full}
use Rattle.solver_start.proofs.preparing.prepare.Lts as lts
use Rattle.solver_start.proofs.preparing.prepare.Reads as reads
use Rattle.solver_start.proofs.preparing.prepare.Tie as tie
use Rattle.solver_start.proofs.preparing.prepare.Goals as goal

abbrev AtAfterBuild : Type 0
AtAfterBuild = lts.After-build tie.the-claims reads.Pre reads.Post

abbrev AtAfterClear : Type 0
AtAfterClear = lts.After-clear tie.the-claims reads.Pre reads.Post

abbrev AtStart : Type 0
AtStart = lts.Start tie.the-claims reads.Pre reads.Post

-- where the function begins, and where the table is built
abbrev start : AtAfterBuild → AtStart
start b = b.before.before.before.before.before

abbrev listed : AtAfterClear → AtAfterBuild
listed k = k.before.before.before.before

pub build-requires : goal.build-requires
build-requires c =
    let g = c.before.before.before.before.before in
    let low = g.requires.low in
    let high = g.requires.high in
    record { edges = g.requires.edges; room = omega arith }

pub clear-requires : goal.clear-requires
clear-requires c =
    let b = c.before.before.before.before in omega (arith, (start b).requires.high, b.build.auto.table)

pub fill-requires : goal.fill-requires
fill-requires c =
    let k = c.before.before.before.before in
    let b = listed k in
    fill_fits (start b).requires b.build.ensures k.clear.ensures

pub returns : goal.returns
returns c =
    let f = c.before.before.before in
    let k = f.before.before.before.before in
    let b = listed k in
    prepared_full (start b).requires b.build.ensures k.clear.ensures f.fill.new.set f.fill.auto.set f.fill.ensures
