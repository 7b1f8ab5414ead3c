-- `work_words` meets its contract. The one product of two variables is below 2 ^ 22, so nothing wraps.
use Prim.Native.Nat.{◌+◌, ◌*◌, ◌≤◌}
use native.Mathlib.Nat.{mul-le-mul}
use native.Mathlib.Omega.{arith}
use Rattle.rules.specs.Tables.{words, work_words}
use Rattle.parity_game.proofs.sizes.work_words.Lts as lts
use Rattle.parity_game.proofs.sizes.work_words.Reads as reads
use Rattle.parity_game.proofs.sizes.work_words.Tie as tie
use Rattle.parity_game.proofs.sizes.work_words.Goals as goal

abbrev AtAfterSetWords : Type 0
AtAfterSetWords = lts.After-set_words tie.the-claims reads.Pre reads.Post

few_words : (c : AtAfterSetWords) → c.set_words.result ≤ 64
unfolding words
few_words c = omega arith

few_in_sets : (c : AtAfterSetWords) → 8 * (c.args.n + 2) * c.set_words.result ≤ 32784 * 64
few_in_sets c = mul-le-mul {n₂ = 32784} {m₂ = 64} (omega arith) (few_words c)

pub overflow_mul-result-2 : goal.overflow_mul-result-2
overflow_mul-result-2 c = omega (arith, few_in_sets c)

pub overflow_add-result-2 : goal.overflow_add-result-2
overflow_add-result-2 c = omega (arith, few_in_sets c)

pub overflow_add-result-3 : goal.overflow_add-result-3
overflow_add-result-3 c = omega (arith, few_in_sets c)

pub overflow_add-result-4 : goal.overflow_add-result-4
overflow_add-result-4 c = omega (arith, few_in_sets c)

pub returns : goal.returns
unfolding work_words
returns c = rw c.set_words.ensures
