-- `check_bits` meets its contract: no bit passed is a stray one, and the first that is decides.
use Rattle.std.proofs.Common.{sym, ◌∙◌, arith, ◌*◌}
use Rattle.rules.specs.Attractor.{check12}
use Rattle.rules.specs.Tables.{words}
use Rattle.parity_game.specs.Search.{found_at, none_found}
use Rattle.attractor_checks.specs.Door.{stray}
use Rattle.area.specs.Lent.{words_few}
use Rattle.attractor_checks.proofs.checks.check_bits.Goals as goal

pub overflow_mul-b-end : goal.overflow_mul-b-end
overflow_mul-b-end c = omega (arith, words_few c.args.n c.requires.2)

pub returns-then-is_stray : goal.returns-then-is_stray
unfolding check12
returns-then-is_stray c =
    let a = c.args in
    sym (found_at 12 (64 * words a.n) (stray a.n a.within.now a.target.now) c.loop-b.b (omega (arith, c.requires.0)) c.loop-b.invariant
    (sym c.is_stray.ensures ∙ c.if-is_stray.true))

pub returns : goal.returns
unfolding check12
returns c =
    let a = c.args in
    sym (none_found 12 (64 * words a.n) (stray a.n a.within.now a.target.now) (λ k l. c.loop-b.invariant k (omega (arith, l, c.requires.0))))
