-- `check_owners` meets its contract: the first place that is found is the one that check 4 names.
use Rattle.std.proofs.Common.{rules, sym, ltb, get_or, length}
use Rattle.rules.specs.Tables.{check4}
use Rattle.parity_game.specs.Search.{found_at, none_found}
use Rattle.vertex_checks.proofs.check_owners.Goals as goal

pub returns-in-Some : goal.returns-in-Some
unfolding check4
returns-in-Some c =
    let owners = c.args.owners.now in
    sym (found_at 4 (length owners) (λ v. ltb 1 (get_or owners v 0)) c.in-Some.v (search rules) (search rules) (search rules))

pub returns-in-None : goal.returns-in-None
unfolding check4
returns-in-None c =
    let owners = c.args.owners.now in
    sym (none_found 4 (length owners) (λ v. ltb 1 (get_or owners v 0)) (search rules))
