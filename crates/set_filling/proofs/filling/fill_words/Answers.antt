-- `fill_words` meets its contract: one full word after another.
use Rattle.std.specs.Prelude.{List, ◌++◌, ℕ, zero, suc, ◌*◌, ◌≤◌, ◌<◌, length, drop, replicate}
use Rattle.std.proofs.Common.{add-one, arith, rules, length-append, length-drop}
use Rattle.std.proofs.lemmas.List.{length-replicate, length-take-le}
use Rattle.std.proofs.lemmas.List.Edits.{fill_more}
use Rattle.set_bits.specs.After.{Filled}
use Rattle.set_filling.specs.Filling.{filled_none, filled_word}
use Rattle.set_filling.proofs.filling.fill_words.Goals as goal

words_filled : (n : ℕ) (xs : List ℕ) → n ≤ length xs → Filled (64 * n) xs (replicate n 18446744073709551615 ++ drop n xs)
words_filled zero xs l = filled_none xs
words_filled (suc n) xs l =
    let long : n < length (replicate n 18446744073709551615 ++ drop n xs) =
    grind (arith, length-append, length-replicate, length-drop) in
    let more = filled_word long (words_filled n xs (omega arith)) in
    rw (fill_more n 18446744073709551615 xs (omega arith), add-one n) at more

pub returns : goal.returns
returns c =
    let long = length-take-le c.args.full c.args.set.now c.requires in
    rw (c.fill.ensures.after (λ y e. search rules), long) (words_filled c.args.full c.args.set.now c.requires)
