-- Change A1's worked text, `parity 1; 0 2 0 1; 1 0 1 0,1;`: what the machine gives for it, by computing, and so that the rules
-- read it, with nothing to refuse, as C7.
use Rattle.std.specs.Prelude.{Bool, true, ◌&&◌, List, [], ◌∷◌, ◌≡◌, refl, ℕ, zero, suc, ◌<◌, ltb, get_or}
use Rattle.std.proofs.Common.{subst, ltb-true, lit<}
use Rattle.rules.specs.Counting.{some, lowest, times, listed}
use Rattle.rules.specs.Outcome.{none, given_at}
use Rattle.rules.specs.Pgsolver.{Entry, highest}
use Rattle.rules.specs.Reading.{limits_of_a1, targets_in, Reads, check31, entry_of, targets_up_to, tables_read}
use Rattle.basics.specs.Basics.{and_left, and_right}
use Rattle.theory.specs.Worked.{C7}
use Rattle.grammar.specs.Machine.{class_of, step_from, step_at, next, run_from, end_of, Read, reading_of}
use Rattle.grammar.specs.Correct.{machine_reads}

-- the text, byte by byte
abbrev pub worked_text : List ℕ
worked_text =
    112 ∷ 97 ∷ 114 ∷ 105 ∷ 116 ∷ 121 ∷ 32 ∷ 49 ∷ 59 ∷ 32 ∷ 48 ∷ 32 ∷ 50 ∷ 32 ∷ 48 ∷ 32 ∷ 49 ∷ 59 ∷ 32 ∷ 49 ∷ 32 ∷ 48 ∷ 32 ∷ 49 ∷
    32 ∷ 48 ∷ 44 ∷ 49 ∷ 59 ∷ []

-- its two records
abbrev pub worked_entries : List Entry
worked_entries =
    record { identifier = 0; priority = 2; owner = 0; targets = 1 ∷ [] } ∷
    record { identifier = 1; priority = 0; owner = 1; targets = 0 ∷ 1 ∷ [] } ∷
    []

-- every entry of a list is a byte
abbrev all_bytes : List ℕ → Bool
all_bytes [] = true
all_bytes (b ∷ bs) = ltb b 256 && all_bytes bs

each_byte : (bs : List ℕ) → all_bytes bs ≡ true → (k : ℕ) → get_or bs k 0 < 256
each_byte [] h k = lit< tt
each_byte (b ∷ bs) h zero = ltb-true b 256 (and_left (ltb b 256) (all_bytes bs) h)
each_byte (b ∷ bs) h (suc k) = each_byte bs (and_right (ltb b 256) (all_bytes bs) h) k

worked_run : reading_of limits_of_a1 worked_text ≡ record { verdict = none; header = highest 1; entries = worked_entries }
unfolding class_of step_from step_at next run_from end_of targets_in
worked_run = refl

-- it is read, its identifiers are right, and its tables are C7's
pub worked_text_lem :
    Reads limits_of_a1 worked_text none (highest 1) worked_entries ×
    (check31 (highest 1) worked_entries ≡ none) ×
    (tables_read worked_entries ≡ C7.tables)
unfolding check31 given_at some lowest times tables_read listed entry_of targets_up_to C7
worked_text_lem = (
  subst (λ (r : Read). Reads limits_of_a1 worked_text r.verdict r.header r.entries) worked_run
      (machine_reads limits_of_a1 worked_text (each_byte worked_text refl)),
  refl,
  refl,
)
