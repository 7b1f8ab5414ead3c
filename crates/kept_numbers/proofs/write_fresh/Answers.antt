-- `write_fresh` meets its contract: the fresh count, written.
use mathlib.Core.List.{List}
use mathlib.Core.Path.{ap, ◌∙◌}
use Prim.Native.Nat.{ℕ}
use lib.ListN.{length}
use Rattle.theory.specs.Counts.{length_fresh}
use borrow.Author.Rules.{rules}
use Rattle.kept_numbers.proofs.write_fresh.Goals as goal

pub put-requires : goal.put-requires
put-requires c =
    let counted = c.before.before.before in
    let args = counted.args in (
      ap (λ (l : List ℕ). length l) counted.fresh-count.ensures ∙ length_fresh args.priorities.now,
      search rules,
    )

pub returns : goal.returns
returns c = c.put.ensures ∙ c.fresh-count.ensures
