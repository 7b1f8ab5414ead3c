-- Why the program reads no further than one byte beyond the limit: the line for the first 16,385 bytes is the line for the text.
use Rattle.std.specs.Prelude.{List, ◌≡◌, refl, ℕ, ◌+◌, ◌≤◌, ◌<◌, length, take, drop, get_or}
use Rattle.std.proofs.Common.{⊎_elim, sym, ap, subst, ◌∙◌, arith, length-take, take-append-drop, take_all, take-suc, get_or-take}
use Rattle.std.proofs.Math.ListN.{get_or-eq_default}
use Rattle.rules.specs.Outcome.{Verdict, refused}
use Rattle.rules.specs.Pgsolver.{Header, Entry}
use Rattle.rules.specs.Printing.{PrintsText}
use Rattle.rules.specs.Reading.{Reads, limits_of_a1}
use Rattle.basics.specs.Basics.{lt_or_ge}
use Rattle.grammar.specs.Correct.{machine_reads}
use Rattle.grammar.specs.Machine.{Run, live, ended, at_first, next, step_at, run_from, Read, reading_of, end_of}
use Rattle.grammar.specs.OneReading.{reads_one}
use Rattle.grammar.specs.Runs.{run_snoc, ended_reading}

-- a text is a list of bytes
abbrev pub Bytes : List ℕ → Type 0
Bytes text = (k : ℕ) → get_or text k 0 < 256

front_bytes : (n : ℕ) (text : List ℕ) → Bytes text → Bytes (take n text)
front_bytes n text small k =
    ⊎_elim
    (λ (less : k < n). subst (λ (b : ℕ). b < 256) (sym (get_or-take n text k 0 less)) (small k))
    (λ (more : n ≤ k).
    subst (λ (b : ℕ). b < 256) (sym (get_or-eq_default (take n text) 0 {n = k} (omega (arith, length-take n text))))
    (omega arith))
    (lt_or_ge k n)

-- byte 16,384 ends every run
ended_there : (r : Run) (b : ℕ) → (v : Verdict) × (next limits_of_a1 16384 r b ≡ ended v)
unfolding next step_at
ended_there (ended v) b = (v, refl)
ended_there (live s) b = (refused 32 16384, refl)

front_ended :
    (text : List ℕ) →
    16384 < length text →
    (v : Verdict) × (run_from limits_of_a1 0 (live at_first) (take 16385 text) ≡ ended v)
front_ended text longer =
    let r = run_from limits_of_a1 0 (live at_first) (take 16384 text) in
    let b = get_or text 16384 0 in
    let place : 0 + length (take 16384 text) ≡ 16384 = omega (arith, length-take 16384 text) in
    let there = ended_there r b in (
      there.0,
      ap (run_from limits_of_a1 0 (live at_first)) (take-suc text 16384 0 longer) ∙
          run_snoc limits_of_a1 0 (live at_first) (take 16384 text) b ∙
          ap (λ (k : ℕ). next limits_of_a1 k r b) place ∙
          there.1,
    )

-- so what is read of the front is what is read of the text
same_reading : (text : List ℕ) → 16384 < length text → reading_of limits_of_a1 (take 16385 text) ≡ reading_of limits_of_a1 text
unfolding end_of
same_reading text longer =
    let there = front_ended text longer in
    ap (end_of (length (take 16385 text))) there.1 ∙
    sym (ended_reading limits_of_a1 (take 16385 text) (drop 16385 text) there.0 there.1) ∙
    ap (reading_of limits_of_a1) (take-append-drop 16385 text)

-- **the line for the first 16,385 bytes is the line for the text**
pub front_prints :
    (budget : ℕ) (text line : List ℕ) → Bytes text → PrintsText budget (take 16385 text) line → PrintsText budget text line
front_prints budget text line small p =
    ⊎_elim
    (λ (longer : 16384 < length text).
    let read = machine_reads limits_of_a1 (take 16385 text) (front_bytes 16385 text small) in
    let one = reads_one p.reads read in
    let same = same_reading text longer in
    let whole = machine_reads limits_of_a1 text small in
    record {
      verdict = p.verdict;
      header = p.header;
      entries = p.entries;
      reads =
          let all = reading_of limits_of_a1 text in
          subst (λ (v : Verdict). Reads limits_of_a1 text v p.header p.entries)
          (sym (one.0 ∙ ap (λ (x : Read). x.verdict) same))
          (subst (λ (h : Header). Reads limits_of_a1 text all.verdict h p.entries)
          (sym (one.1 ∙ ap (λ (x : Read). x.header) same))
          (subst (λ (es : List Entry). Reads limits_of_a1 text all.verdict all.header es)
          (sym (one.2 ∙ ap (λ (x : Read). x.entries) same))
          whole));
      prints = p.prints;
    })
    (λ (short : length text ≤ 16384).
    subst (λ (t : List ℕ). PrintsText budget t line) (take_all 16385 text (omega arith)) p)
    (lt_or_ge 16384 (length text))
