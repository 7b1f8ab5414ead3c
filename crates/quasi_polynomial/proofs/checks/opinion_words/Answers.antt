-- `opinion_words` meets its contract. The sum is below 2 ^ 22, so nothing wraps.
use Prim.Native.Nat.{◌+◌, ◌*◌, ◌≤◌}
use native.Mathlib.Nat.{mul-le-mul}
use native.Mathlib.Omega.{arith}
use Rattle.rules.specs.SecondOpinion.{opinion_words}
use Rattle.rules.specs.Tables.{words, work_words}
use Rattle.quasi_polynomial.proofs.checks.opinion_words.Goals.{After-set_words}
use Rattle.quasi_polynomial.proofs.checks.opinion_words.Goals as goal

-- the other solvers' work area is small, and so are the words of a set
few :
    (c : After-set_words) →
    (c.set_words.result ≤ 64) × (c.work_words.result ≤ 32784 * 64 + 4 * 4096 + 2 * 16384 + 272)
unfolding words work_words
few c =
    let few : words c.args.n ≤ 64 = omega arith in
    let small : 8 * (c.args.n + 2) * words c.args.n ≤ 32784 * 64 = mul-le-mul {n₂ = 32784} {m₂ = 64} (omega arith) few in
    (omega arith, omega (arith, c.work_words.ensures))

pub overflow_mul-result : goal.overflow_mul-result
overflow_mul-result c = omega (arith, few (goal.at.overflow_mul-result c).After-set_words)

pub overflow_add-result : goal.overflow_add-result
overflow_add-result c = omega (arith, few (goal.at.overflow_add-result c).After-set_words)

pub returns : goal.returns
unfolding opinion_words
returns c = rw (c.set_words.ensures, c.work_words.ensures)
