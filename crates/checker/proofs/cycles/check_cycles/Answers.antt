-- `check_cycles` meets its contract: the search over the marks is the rule's 24.
use Rattle.checker.specs.Checks.{cycles_ready, scan_ready, cycles_told}
use native.Mathlib.Omega.{arith}
use Rattle.checker.proofs.cycles.check_cycles.Goals as goal

pub mark_cycles-requires : goal.mark_cycles-requires
mark_cycles-requires c = (cycles_ready c.requires.0, c.requires.1)

pub behind-requires : goal.behind-requires
behind-requires c = omega (arith, (scan_ready c.requires.0 c.mark_cycles.ensures).room, c.mark_cycles.ensures.long)

pub find_losing-requires : goal.find_losing-requires
find_losing-requires c = rw c.behind.ensures (scan_ready c.requires.0 c.mark_cycles.ensures)

pub returns : goal.returns
returns c = cycles_told c.requires.0 c.mark_cycles.ensures (rw c.behind.ensures at c.find_losing.ensures)
