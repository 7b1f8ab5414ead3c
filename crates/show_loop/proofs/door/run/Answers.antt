-- `run` meets its contract: each call asks for what the calls before it left.
use mathlib.Core.Path.{◌∙◌}
use Rattle.sets.specs.Laws.{cleared_all}
use Rattle.show_loop.specs.Running.{build_ready, go_ready, run_ran}
use Rattle.show_loop.proofs.door.run.Goals as goal

pub build-requires : goal.build-requires
build-requires c = build_ready _ _ _ _ _ c.requires.0 _ c.sole_owner-owner.ensures

pub write_run-found-requires : goal.write_run-found-requires
write_run-found-requires c = (
  go_ready _ _ _ _ _ c.requires.0 _ c.sole_owner-owner.ensures _ c.build.ensures,
  c.requires.1,
)

pub returns : goal.returns
returns c =
    run_ran _ _ _ _ _ c.requires.0 _ c.sole_owner-owner.ensures _ c.build.ensures _ _ _ _ _ c.write_run-found.ensures
    (cleared_all _ _ (c.write_run-found.ensures.long ∙ c.build.ensures.long) c.clear.ensures)
