-- What a solver reads from kept numbers that are a fresh count: how many vertices have a priority, and the highest.
use Rattle.std.specs.Prelude.{true, List, [], ◌∷◌, ◌++◌, ◌≡◌, refl, ℕ, zero, suc, ◌+◌, ◌≤◌, ◌<◌, eqb, length, get_or, take}
use Rattle.std.proofs.Common.{sym, ap, ◌∙◌, arith, eq-eqb, ne_eqb, take-suc, take_all, get_or-take, get_or-append-add}
use Rattle.std.proofs.Math.Decide.{ℕ_discrete}
use Rattle.rules.specs.Counting.{count, greatest, times}
use Rattle.rules.specs.Record.{counts_of, highest_in, kept_for, fresh_count}
use Rattle.rules.specs.Tables.{Tables, vertices, Accepted}
use Rattle.basics.specs.Sums.{times_append}
use Rattle.theory.specs.Counts.{length_counts, counts_at, length_fresh, take_fresh, highest_greatest}
use Rattle.basics.specs.Greatest.{greatest_bounds, greatest_le}
use Rattle.accepted.specs.Tables.{accepted_sound}

-- accepted tables, with kept numbers that are a fresh count of them
pub record FreshlyCounted (t : Tables) (kept : List ℕ) : Type 0 where
  pub accepted : Accepted t
  pub fresh : kept ≡ fresh_count t.priorities

-- how often a number stands in a list is how many places have it
times_places : (q v : ℕ) (ps : List ℕ) → v ≤ length ps → times q (take v ps) ≡ count v (λ u. eqb (get_or ps u 0) q)
unfolding times count
times_places q zero ps l = refl
times_places q (suc v) ps l =
    let before = times_places q v ps (omega arith) in
    let split = times_append q (take v ps) (get_or ps v 0 ∷ []) in
    rw (take-suc ps v 0 (omega arith)) (go before split (ℕ_discrete q (get_or ps v 0)))
  where
    go :
        times q (take v ps) ≡ count v (λ u. eqb (get_or ps u 0) q) →
        times q (take v ps ++ (get_or ps v 0 ∷ [])) ≡ times q (take v ps) + times q (get_or ps v 0 ∷ []) →
        Dec (q ≡ get_or ps v 0) →
        times q (take v ps ++ (get_or ps v 0 ∷ [])) ≡ count (suc v) (λ u. eqb (get_or ps u 0) q)
    go before split (yes e) =
        rw (split, eq-eqb q (get_or ps v 0) e, eq-eqb (get_or ps v 0) q (sym e)) (omega arith)
    go before split (no d) =
        rw (split, ne_eqb q (get_or ps v 0) d, ne_eqb (get_or ps v 0) q (λ e. d (sym e))) (omega arith)

-- the count of a priority
pub kept_count :
    {t : Tables} {kept : List ℕ} →
    FreshlyCounted t kept →
    (q : ℕ) →
    q < 256 →
    get_or kept q 0 ≡ count (vertices t) (λ v. eqb (get_or t.priorities v 0) q)
kept_count {t} {kept} c q l =
    let ps = t.priorities in
    ap (λ (k : List ℕ). get_or k q 0) c.fresh ∙
    sym (get_or-take 256 (fresh_count ps) q 0 l) ∙
    ap (λ (k : List ℕ). get_or k q 0) (take_fresh ps) ∙
    counts_at ps q l ∙
    ap (times q) (sym (take_all (length ps) ps (omega arith))) ∙
    times_places q (length ps) ps (omega arith) ∙
    ap (λ (n : ℕ). count n (λ v. eqb (get_or ps v 0) q)) (accepted_sound t c.accepted).priority_each

pub kept_long : {t : Tables} {kept : List ℕ} → FreshlyCounted t kept → length kept ≡ 258
kept_long {t} c = ap (λ (k : List ℕ). length k) c.fresh ∙ length_fresh t.priorities

-- the last of them is the highest by the counts
last_highest : (ps : List ℕ) → get_or (fresh_count ps) 257 0 ≡ highest_in (counts_of ps)
unfolding fresh_count kept_for
last_highest ps =
    ap (λ (n : ℕ). get_or (kept_for (counts_of ps)) n 0) (ap (λ (n : ℕ). n + 1) (sym (length_counts ps))) ∙
    get_or-append-add (counts_of ps) _ 1 0

-- the highest is the greatest priority, 0 where there is no vertex
pub kept_highest :
    {t : Tables} {kept : List ℕ} →
    FreshlyCounted t kept →
    get_or kept 257 0 ≡ greatest (vertices t) (λ v. true) (λ v. get_or t.priorities v 0)
kept_highest {t} {kept} c =
    let ps = t.priorities in
    let sound = accepted_sound t c.accepted in
    let long = sound.priority_each in
    ap (λ (k : List ℕ). get_or k 257 0) c.fresh ∙
    last_highest ps ∙
    highest_greatest ps (λ u m. sound.priority_small u (omega arith)) ∙
    ap (λ (n : ℕ). greatest n (λ v. true) (λ v. get_or ps v 0)) long

-- so no priority is above it,
pub kept_bounds :
    {t : Tables} {kept : List ℕ} → FreshlyCounted t kept → (v : ℕ) → v < vertices t → get_or t.priorities v 0 ≤ get_or kept 257 0
kept_bounds {t} c v l =
    omega (arith, kept_highest c, greatest_bounds (vertices t) (λ u. true) (λ u. get_or t.priorities u 0) v l refl)

-- and it is a priority
pub kept_small : {t : Tables} {kept : List ℕ} → FreshlyCounted t kept → get_or kept 257 0 ≤ 255
kept_small {t} c =
    omega (
      arith,
      kept_highest c,
      greatest_le (vertices t) (λ u. true) (λ u. get_or t.priorities u 0) 255
          (λ u l e. (accepted_sound t c.accepted).priority_small u l),
    )
