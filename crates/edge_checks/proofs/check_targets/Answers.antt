-- `check_targets` meets its contract: the first place that is found is the one that check 7 names.
use Rattle.std.proofs.Common.{rules, sym, leb, get_or, length}
use Rattle.rules.specs.Tables.{check7}
use Rattle.parity_game.specs.Search.{found_at, none_found}
use Rattle.edge_checks.proofs.check_targets.Goals as goal

pub returns-in-Some : goal.returns-in-Some
unfolding check7
returns-in-Some c =
    let targets = c.args.targets.now in
    sym (found_at 7 (length targets) (λ e. leb c.args.n (get_or targets e 0)) c.in-Some.e (search rules) (search rules) (search rules))

pub returns-in-None : goal.returns-in-None
unfolding check7
returns-in-None c =
    let targets = c.args.targets.now in
    sym (none_found 7 (length targets) (λ e. leb c.args.n (get_or targets e 0)) (search rules))
