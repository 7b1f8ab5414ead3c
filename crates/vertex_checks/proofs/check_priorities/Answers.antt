-- `check_priorities` meets its contract: the first place that is found is the one that check 5 names.
use Rattle.std.proofs.Common.{rules, sym, ltb, get_or, length}
use Rattle.rules.specs.Tables.{check5}
use Rattle.parity_game.specs.Search.{found_at, none_found}
use Rattle.vertex_checks.proofs.check_priorities.Goals as goal

pub returns-in-Some : goal.returns-in-Some
unfolding check5
returns-in-Some c =
    let priorities = c.args.priorities.now in
    sym (found_at 5 (length priorities) (λ v. ltb 255 (get_or priorities v 0)) c.in-Some.v (search rules) (search rules) (search rules))

pub returns-in-None : goal.returns-in-None
unfolding check5
returns-in-None c =
    let priorities = c.args.priorities.now in
    sym (none_found 5 (length priorities) (λ v. ltb 255 (get_or priorities v 0)) (search rules))
