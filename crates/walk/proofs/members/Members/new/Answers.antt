-- `new`: all members are left before the first word's bits, and none of no words.
use mathlib.Core.Path.{refl}
use native.Mathlib.Omega.{arith}
use Rattle.walk.specs.Steps.{left_first, left_none}
use Rattle.walk.proofs.members.Members.new.Goals as goal

pub returns-then-s-eq0 : goal.returns-then-s-eq0
returns-then-s-eq0 c = (left_none c.args.s c.args.base c.args.work.now c.requires c.if-s-eq0.true, refl)

pub returns : goal.returns
returns c = (left_first c.args.s c.args.base c.args.work.now c.requires (omega arith), refl)
