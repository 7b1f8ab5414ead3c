-- `put_word` meets its contract: the part that is written becomes the word, and the rest stays.
use Rattle.std.proofs.Common.{◌+◌, ◌-◌, refl, ap, ◌∙◌, ◌++◌, arith, length, take, le_refl}
use Rattle.std.proofs.Math.Seq.{take-length}
use Rattle.std.proofs.lemmas.List.Edits.{length-paste, drop-paste, take-paste}
use Rattle.std.proofs.lemmas.Slice.{put_mid-paste}
use Rattle.putting.proofs.put.put_word.Goals as goal

pub returns : goal.returns
returns c =
    let out = c.args.out.now in
    let word = c.args.word.now in
    let at = c.args.at in
    let n = length word in
    rw (put_mid-paste at (at + n - at) out c.copy_from_slice.new.self word n c.copy_from_slice.ensures.after (omega arith) refl)
    (record {
      place = refl;
      front = take-paste out at word n (omega arith) (le_refl n) ∙ ap (λ w. take at out ++ w) (take-length word);
      rest = drop-paste out at word n (omega arith) (le_refl n);
      long = length-paste out at word n (omega arith) (le_refl n);
    })
