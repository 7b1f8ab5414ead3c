-- `run` meets its contract: the rounds from the first state are those of the rules, and what they found is written out.
use mathlib.Core.Path.{◌≡◌, refl, ◌∙◌}
use native.Mathlib.Omega.{arith}
use Rattle.accepted.specs.Tables.{accepted_sound}
use Rattle.area.specs.Lent.{words_few}
use Rattle.sets.specs.Laws.{cleared_all}
use Rattle.solver.specs.Outputs.{found_writable, found_finished}
use Rattle.kept_numbers.specs.Reading.{kept_long}
use Rattle.priority_promotion.specs.Running.{run_preparable, run_beginnable, run_begun, run_reached}
use Rattle.priority_promotion.specs.Running.{run_over_lem, run_rounds, run_found_at}
use Rattle.priority_promotion.proofs.door.PriorityPromotionEngine.run.Goals as goal

pub held_at-held-requires : goal.held_at-held-requires
held_at-held-requires c =
    let f = accepted_sound _ c.requires.0.accepted in
    record { size = c.set_words-s.ensures; few = f.few_vertices; few_edges = f.few_edges; small = omega arith }

pub depth_at-requires : goal.depth_at-requires
depth_at-requires c =
    let f = accepted_sound _ c.requires.0.accepted in
    omega (arith, f.few_edges, words_few _ f.few_vertices, c.set_words-s.ensures, c.held_at-held.ensures)

pub levels_at-levels-requires : goal.levels_at-levels-requires
levels_at-levels-requires c =
    let f = accepted_sound _ c.requires.0.accepted in
    omega (arith, f.few_edges, words_few _ f.few_vertices, c.set_words-s.ensures, c.held_at-held.ensures, c.depth_at.ensures)

pub prepare-requires : goal.prepare-requires
prepare-requires c =
    let a = c.args in
    run_preparable a.owners.now a.priorities.now a.offsets.now a.targets.now c.requires.0.accepted c.set_words-s.ensures
    a.work.now c.requires.0.room c.held_at-held.ensures (omega (arith, c.depth_at.ensures, c.levels_at-levels.ensures))

pub bounds-kept-257 : goal.bounds-kept-257
bounds-kept-257 c = omega (arith, kept_long c.requires.1)

pub begin-highest-requires : goal.begin-highest-requires
begin-highest-requires c =
    let a = c.args in
    run_beginnable a.owners.now a.priorities.now a.offsets.now a.targets.now c.requires.0.accepted c.set_words-s.ensures
    a.work.now c.requires.0.room c.held_at-held.ensures (omega (arith, c.depth_at.ensures, c.levels_at-levels.ensures))
    c.prepare.ensures c.requires.1

pub solve-end-requires : goal.solve-end-requires
solve-end-requires c =
    let a = c.args in (
      run_reached a.owners.now a.priorities.now a.offsets.now a.targets.now c.requires.0.accepted c.set_words-s.ensures
          a.work.now c.requires.0.room c.held_at-held.ensures (omega (arith, c.depth_at.ensures, c.levels_at-levels.ensures))
          c.prepare.ensures
          (run_begun a.owners.now a.priorities.now a.offsets.now a.targets.now c.requires.0.accepted c.set_words-s.ensures
          a.work.now c.requires.0.room c.held_at-held.ensures (omega (arith, c.depth_at.ensures, c.levels_at-levels.ensures))
          c.prepare.ensures c.begin-highest.ensures),
      omega arith,
    )

pub returns-then-end-gt0 : goal.returns-then-end-gt0
returns-then-end-gt0 c = (
  cleared_all c.args.work.now c.solve-end.new.work (c.solve-end.auto.work ∙ c.begin-highest.auto.work ∙ c.prepare.auto.work)
      c.clear.ensures,
  record { over = run_over_lem c.solve-end.ensures c.if-end-gt0.true; same = refl },
)

pub write_out-requires : goal.write_out-requires
write_out-requires c =
    let found =
    run_found_at c.solve-end.ensures (omega (arith, c.if-end-gt0.false))
    (omega (arith, c.won_at-won.ensures, c.held_at-held.ensures)) in
    found_writable found c.entries-entries.ensures c.requires.0.even_size c.requires.0.odd_size c.requires.0.strategy_size

pub returns : goal.returns
returns c =
    let none : c.solve-end.result.unsolved ≡ 0 = omega (arith, c.if-end-gt0.false) in
    let found = run_found_at c.solve-end.ensures none (omega (arith, c.won_at-won.ensures, c.held_at-held.ensures)) in (
      cleared_all c.args.work.now c.solve-end.new.work (c.solve-end.auto.work ∙ c.begin-highest.auto.work ∙ c.prepare.auto.work)
          c.clear-2.ensures,
      found_finished found c.requires.0.strategy_size c.entries-entries.ensures c.write_out.ensures
          (run_rounds c.solve-end.ensures none) c.solve-end.ensures.within,
    )
