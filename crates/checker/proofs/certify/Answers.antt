-- `certify` meets its contract: kind by kind, the first that applies gives the answer.
use Rattle.std.proofs.lemmas.Result.{err_from_is_err_and}
use Rattle.rules.specs.Tables.{game_of}
use Rattle.rules.specs.Checker.{certificate_checks}
use Rattle.parity_game.specs.Laws.{refused_is_some}
use Rattle.checker.specs.Checks.{kinds_ready, kinds_pass, cycles_given, kinds_stop}
use Rattle.checker.proofs.certify.Goals as goal

pub check_kinds-requires : goal.check_kinds-requires
check_kinds-requires c = kinds_ready c.requires.0

pub check_cycles-requires : goal.check_cycles-requires
check_cycles-requires c =
    let ok = kinds_pass c.requires.0 c.in_ok-check_kinds.ensures in (cycles_given c.requires.0 ok.1 ok.2, c.requires.1)

pub returns-in_err-check_kinds : goal.returns-in_err-check_kinds
returns-in_err-check_kinds c =
    let p = err_from_is_err_and c.from_residual.result c.from_residual.ensures.1 in
    rw (p.1, p.2) (kinds_stop c.requires.0 refused_is_some c.in_err-check_kinds.ensures)

pub returns : goal.returns
unfolding certificate_checks game_of
returns c =
    let ok = kinds_pass c.requires.0 c.in_ok-check_kinds.ensures in
    record {
      gives = rw (ok.0, ok.1, ok.2) c.check_cycles.ensures.gives;
      long = c.check_cycles.ensures.long;
      beyond = c.check_cycles.ensures.beyond;
    }
