-- Both engines on one game, in the same rooms one after another: their counts and the words of Odd's set make the rule's line.
use Rattle.std.specs.Prelude.{Bool, true, false, cond, List, [], ◌∷◌, ◌++◌, ◌≡◌, refl, ℕ, ◌+◌, ◌*◌, ◌/◌, ◌≤◌, ◌<◌, eqb, ltb, length}
use Rattle.std.proofs.Common.{sym, ap, subst, ◌∙◌, mul-le-mul, arith, le-ltb, eq-eqb, ext_get_or}
use Rattle.rules.specs.Counting.{Set, listed, every_of}
use Rattle.rules.specs.Decimal.{decimal}
use Rattle.rules.specs.Game.{Player, Odd}
use Rattle.rules.specs.Outcome.{Outcome, Verdict, none, outcome, answered, budgeted}
use Rattle.rules.specs.Printing.{space, newline, dash, file_word, winner_digits, winners_word, solved_line}
use Rattle.rules.specs.Promotion.{after_rounds, rounds_needed}
use Rattle.rules.specs.Solver.{Lent, solver_checks, Solves, Leaves}
use Rattle.rules.specs.Tables.{Tables, vertices, edges_in, words, work_words, game_of, Accepted, check9, check10}
use Rattle.rules.specs.Words.{set_of, Holds}
use Rattle.rules.specs.Zielonka.{zielonka}
use Rattle.basics.specs.Basics.{clash, length_listed, get_or_listed}
use Rattle.kept_numbers.specs.Reading as Reading
use Rattle.std.specs.declared.option.Option.{Option}
use Rattle.std.specs.declared.option.Option.TheVariants.{None, Some}
use Rattle.printing.specs.Line.{line_bytes}

-- a game for the engines, and room for the line
pub record EnginesGiven (t : Tables) (out : List ℕ) : Type 0 where
  pub accepted : Accepted t
  pub few : vertices t ≤ 128
  pub short : edges_in t ≤ 512
  pub room : 256 ≤ length out

-- and its kept numbers and rooms for the engines
pub record EnginesReady (t : Tables) (kept : List ℕ) (l : Lent) (out : List ℕ) : Type 0 where
  pub counted : Reading.FreshlyCounted t kept
  pub few : vertices t ≤ 128
  pub room : 256 ≤ length out
  pub even_size : length l.even ≡ words (vertices t)
  pub odd_size : length l.odd ≡ words (vertices t)
  pub strategy_size : length l.strategy ≡ vertices t
  pub work_size : work_words (vertices t) (edges_in t) ≤ length l.work

-- the work area is long enough for every game of that size
pub work_enough : (n m : ℕ) → n ≤ 128 → m ≤ 512 → work_words n m ≤ 3888
unfolding work_words words
work_enough n m few short =
    let most : 8 * (n + 2) * ((n + 63) / 64) ≤ 1040 * 2 = mul-le-mul {n₂ = 1040} {m₂ = 2} (omega arith) (omega arith) in
    omega arith

pub words_few : (n : ℕ) → n ≤ 128 → words n ≤ 2
unfolding words
words_few n few = omega arith

pub words_cover : (n : ℕ) → n ≤ 64 * words n
unfolding words
words_cover n = omega arith

check9_passes : (n a b c : ℕ) → a ≡ words n → b ≡ words n → c ≡ n → check9 n (a ∷ b ∷ []) (c ∷ []) ≡ none
unfolding check9 every_of
check9_passes n a b c ea eb ec = rw (eq-eqb a (words n) ea, eq-eqb b (words n) eb, eq-eqb c n ec)

check10_passes : (n m w : ℕ) → work_words n m ≤ w → check10 n m w ≡ none
unfolding check10
check10_passes n m w enough = rw (le-ltb w (work_words n m) enough)

-- no engine refuses
pub ready_passes : {t : Tables} {kept : List ℕ} {l : Lent} {out : List ℕ} → EnginesReady t kept l out → solver_checks t l ≡ none
unfolding Accepted
ready_passes {t} {kept} {l} {out} r =
    rw (
      r.counted.accepted,
      check9_passes (vertices t) (length l.even) (length l.odd) (length l.strategy) r.even_size r.odd_size
          r.strategy_size,
    )
    (check10_passes (vertices t) (edges_in t) (length l.work) r.work_size)

-- ---- what an engine gave

abbrev pub counted_of : Outcome → Option ℕ
counted_of o = cond (eqb o.number 13) None (Some o.count)

-- what is needed, or that it is more than the budget
abbrev pub counted_for : ℕ → ℕ → Option ℕ
counted_for budget needed = cond (ltb budget needed) None (Some needed)

counted_budgeted : (budget needed : ℕ) → counted_of (budgeted budget needed) ≡ counted_for budget needed
counted_budgeted budget needed = by (ltb budget needed)
  where
    by : (over : Bool) →
        counted_of (cond over (record { number = 13; place = 0; count = budget }) (answered needed))
        ≡ cond over None (Some needed)
    by true = refl
    by false = refl

-- Odd's words after an engine: as before where it gave 13, else the set it found
pub record OddsWordsKept (over : Bool) (n : ℕ) (odd : Set) (before after : List ℕ) : Type 0 where
  pub same : over ≡ true → after ≡ before
  pub told : over ≡ false → Holds n odd after

leaves_kept :
    (over : Bool) (t : Tables) (won : Player → Set) (entries : ℕ → ℕ) (before after : Lent) →
    Leaves none over t won entries before after →
    OddsWordsKept over (vertices t) (won Odd) before.odd after.odd
leaves_kept true t won entries before after l =
    record { same = λ e. l.odd; told = λ e. absurd (clash refl e) }
leaves_kept false t won entries before after l =
    record { same = λ e. absurd (clash e refl); told = λ e. l.odd }

module _ {budget : ℕ} {t : Tables} {needed : ℕ} {won : Player → Set} {entries : ℕ → ℕ} {before after : Lent} {o : Outcome}
    (s : Solves budget t needed won entries before after o) (passes : solver_checks t before ≡ none) where
  pub solves_counted : counted_of o ≡ counted_for budget needed
  solves_counted =
      ap counted_of (s.gives ∙ ap (λ (v : Verdict). outcome v (budgeted budget needed)) passes) ∙ counted_budgeted budget needed

  pub solves_kept : OddsWordsKept (ltb budget needed) (vertices t) (won Odd) before.odd after.odd
  solves_kept =
      leaves_kept (ltb budget needed) t won entries before after
      (subst (λ (v : Verdict). Leaves v (ltb budget needed) t won entries before after) passes s.leaves)

-- ---- the line

winners_same : (n : ℕ) (S T : Set) → ((v : ℕ) → v < n → S v ≡ T v) → winner_digits n S ≡ winner_digits n T
unfolding winner_digits
winners_same n S T same =
    let digit : Set → ℕ → ℕ = λ X v. cond (X v) 49 48 in
    ext_get_or 0 (listed n (digit S)) (listed n (digit T))
    (length_listed n (digit S) ∙ sym (length_listed n (digit T)))
    (λ i l.
    let less : i < n = subst (λ (k : ℕ). i < k) (length_listed n (digit S)) l in
    get_or_listed n (digit S) i 0 less ∙ ap (λ (b : Bool). cond b 49 48) (same i less) ∙ sym (get_or_listed n (digit T) i 0 less))

-- by cases on which engine was over its budget
line_by :
    (x y : Bool) (calls rounds n : ℕ) (S zielonkas promotions : Set) →
    (x ≡ false → winner_digits n S ≡ winner_digits n zielonkas) →
    (x ≡ true → y ≡ false → winner_digits n S ≡ winner_digits n promotions) →
    line_bytes n S (cond x None (Some calls)) (cond y None (Some rounds)) ≡
    file_word ++
    (space ++
    (cond x (cond y dash (winner_digits n promotions)) (winner_digits n zielonkas) ++
    (space ++ (cond x dash (decimal calls) ++ (space ++ (cond y dash (decimal rounds) ++ newline))))))
line_by true true calls rounds n S zielonkas promotions first second = refl
line_by true false calls rounds n S zielonkas promotions first second =
    ap (λ (w : List ℕ). file_word ++ (space ++ (w ++ (space ++ (dash ++ (space ++ (decimal rounds ++ newline)))))))
    (second refl refl)
line_by false true calls rounds n S zielonkas promotions first second =
    ap (λ (w : List ℕ). file_word ++ (space ++ (w ++ (space ++ (decimal calls ++ (space ++ (dash ++ newline))))))) (first refl)
line_by false false calls rounds n S zielonkas promotions first second =
    ap (λ (w : List ℕ). file_word ++ (space ++ (w ++ (space ++ (decimal calls ++ (space ++ (decimal rounds ++ newline)))))))
    (first refl)

-- **promotion first, then Zielonka over its words: the line is the rule's**
pub line_solved :
    (budget : ℕ) (t : Tables) (start between after : List ℕ) →
    OddsWordsKept (ltb budget (rounds_needed (game_of t))) (vertices t)
    ((after_rounds (game_of t) (rounds_needed (game_of t))).won Odd) start between →
    OddsWordsKept (ltb budget (zielonka (game_of t)).calls) (vertices t) ((zielonka (game_of t)).won Odd) between after →
    line_bytes (vertices t) (set_of after) (counted_for budget (zielonka (game_of t)).calls)
    (counted_for budget (rounds_needed (game_of t))) ≡
    solved_line budget (game_of t)
unfolding solved_line winners_word game_of
line_solved budget t start between after promotion recursion =
    line_by (ltb budget (zielonka (game_of t)).calls) (ltb budget (rounds_needed (game_of t))) (zielonka (game_of t)).calls
    (rounds_needed (game_of t)) (vertices t) (set_of after) ((zielonka (game_of t)).won Odd)
    ((after_rounds (game_of t) (rounds_needed (game_of t))).won Odd)
    (λ e. winners_same (vertices t) (set_of after) ((zielonka (game_of t)).won Odd) (recursion.told e).bits)
    (λ e e'.
    ap (λ (w : List ℕ). winner_digits (vertices t) (set_of w)) (recursion.same e) ∙
    winners_same (vertices t) (set_of between) ((after_rounds (game_of t) (rounds_needed (game_of t))).won Odd)
    (promotion.told e').bits)
