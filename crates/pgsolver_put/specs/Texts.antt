-- The whole text put at the front of an array: from its header and records, what it leaves, and each of the function's answers.
use Rattle.std.specs.Prelude.{List, [], ◌∷◌, ◌++◌, ◌≡◌, refl, ℕ, ◌+◌, ◌-◌, ◌≤◌, ◌<◌, length, drop}
use Rattle.std.proofs.Common.{sym, ap, subst, ◌∙◌, arith, eq-eqb, ne_eqb, lt-ltb, le-ltb, length-append, take-append-drop}
use Rattle.rules.specs.Decimal.{decimal}
use Rattle.rules.specs.Outcome.{Verdict, none, refused, outcome, answered}
use Rattle.rules.specs.Pgsolver.{parity_word}
use Rattle.rules.specs.Tables.{Tables, vertices, Accepted}
use Rattle.rules.specs.Writing.{blank, line_end, records_text, header_text, text_of, check33, check34, writing_checks, written_text}
use Rattle.rules.specs.Writing.{Writes}
use Rattle.putting.specs.Puts.{Puts, puts_both}
use Rattle.pgsolver_line.specs.Written.{PutWritten}

-- ---- the text from its pieces

-- `parity` and a blank
abbrev pub opening : List ℕ
opening = parity_word ++ (blank ∷ [])

pieces : (t : Tables) → opening ++ ((decimal (vertices t - 1) ++ line_end) ++ records_text t (vertices t)) ≡ text_of t
unfolding text_of header_text
pieces t = refl

pub text_pieces :
    (t : Tables) →
    length (text_of t) ≡ 7 + (length (decimal (vertices t - 1) ++ line_end) + length (records_text t (vertices t)))
text_pieces t =
    ap length (sym (pieces t)) ∙
    omega (arith, length-append (decimal (vertices t - 1) ++ line_end) (records_text t (vertices t)))

pub text_put :
    {at₁ at₂ r : ℕ} {out out₁ out₂ after : List ℕ} (t : Tables) →
    Puts 0 opening out out₁ at₁ →
    Puts at₁ (decimal (vertices t - 1) ++ line_end) out₁ out₂ at₂ →
    Puts at₂ (records_text t (vertices t)) out₂ after r →
    Puts 0 (text_of t) out after r
text_put {r = r} {out = out} {after = after} t a b c =
    subst (λ (s : List ℕ). Puts 0 s out after r) (pieces t) (puts_both a (puts_both b c))

-- ---- the function's answers

-- a refusal leaves the array as it was
refusal_leaves :
    (v : Verdict) (t : Tables) (before : List ℕ) (k : ℕ) →
    ((outcome v (answered k)).number ≡ 0 → ⊥) →
    before ≡ written_text v t before
refusal_leaves none t before k h = absurd (h refl)
refusal_leaves (refused n p) t before k h = refl

-- 33
pub writes_empty :
    (t : Tables) (before : List ℕ) →
    Accepted t →
    vertices t ≡ 0 →
    Writes t before before (record { number = 33; place = 0; count = 0 })
unfolding Accepted check33
writes_empty t before ok empty =
    let all : writing_checks t (length before) ≡ refused 33 0 = rw (ok, eq-eqb (vertices t) 0 empty) in
    record { gives = rw all; leaves = rw all }

-- 34
pub writes_short :
    (t : Tables) (before : List ℕ) →
    PutWritten t →
    length before < length (text_of t) →
    Writes t before before (record { number = 34; place = length (text_of t); count = 0 })
unfolding Accepted check33 check34
writes_short t before w short =
    let all : writing_checks t (length before) ≡ refused 34 (length (text_of t)) =
    rw (w.accepted, ne_eqb (vertices t) 0 (λ e. omega (arith, e, w.some)), lt-ltb (length before) (length (text_of t)) short) in
    record { gives = rw all; leaves = rw all }

-- none of them
pub checks_pass : (t : Tables) (room : ℕ) → PutWritten t → length (text_of t) ≤ room → writing_checks t room ≡ none
unfolding Accepted check33 check34
checks_pass t room w enough =
    rw (w.accepted, ne_eqb (vertices t) 0 (λ e. omega (arith, e, w.some)), le-ltb room (length (text_of t)) enough)

-- an answer
pub writes_answered :
    {r : ℕ} {before after : List ℕ} (t : Tables) →
    PutWritten t →
    length (text_of t) ≤ length before →
    Puts 0 (text_of t) before after r →
    Writes t before after (answered r)
writes_answered {r} {before} {after} t w room put =
    let all = checks_pass t (length before) w room in
    let long : r ≡ length (text_of t) = omega (arith, put.place) in
    record {
      gives = rw all (ap answered long);
      leaves =
          rw all
          (sym (take-append-drop r after) ∙
          ap (λ (s : List ℕ). s ++ drop r after) put.front ∙
          ap (λ (s : List ℕ). text_of t ++ s) (put.rest ∙ ap (λ (k : ℕ). drop k before) long));
    }
