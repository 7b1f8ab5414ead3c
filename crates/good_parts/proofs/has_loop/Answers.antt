-- `has_loop` meets its contract.
use mathlib.Core.Path.{sym, ◌∙◌}
use Rattle.std.proofs.Common.{arith}
use Rattle.good_parts.specs.Good.{loop_unkept, loop_found, loop_none}
use Rattle.good_parts.proofs.has_loop.Goals as goal

pub returns-then-not-keeps : goal.returns-then-not-keeps
returns-then-not-keeps c = loop_unkept _ _ c.requires (sym c.keeps.ensures ∙ c.if-not-keeps.true)

pub returns-then-graph-e : goal.returns-then-graph-e
returns-then-graph-e c = loop_found _ _ c.requires _ c.loop-e.invariant (omega arith) c.if-graph-e.true

pub returns : goal.returns
returns c = loop_none _ _ c.requires _ c.loop-e.invariant (omega arith)
