-- Rooms that were cleared: every entry of the tables and the used words of the work area are 0, which is what the rules let
-- stand in them after a refusal.
use Rattle.std.specs.Prelude.{List, [], ◌++◌, ◌≡◌, ℕ, ◌+◌, ◌-◌, ◌≤◌, ◌<◌, length, get_or, drop, replicate}
use Rattle.std.proofs.Common.{append-nil, inr, sym, ap, ◌∙◌, arith, length-append, length-drop, ext_get_or, get_or-append-add, get_or-drop}
use Rattle.std.proofs.Math.Decide.{dec_lt}
use Rattle.std.proofs.Math.Nat.{sub-zero}
use Rattle.std.proofs.lemmas.List.{get_or-replicate, length-replicate}
use Rattle.std.proofs.Math.ListN.{get_or-append}
use Rattle.std.proofs.Math.Seq.{drop-length}
use Rattle.rules.specs.Reading.{Rooms, reading_words, padded, holding, no_tables}
use Rattle.sets.specs.After.{Cleared}

-- as many zeros
abbrev pub zeros : List ℕ → List ℕ
zeros xs = replicate (length xs) 0

-- every entry of the tables is 0
pub record TablesZero (o p f t o' p' f' t' : List ℕ) : Type 0 where
  pub owners : o' ≡ zeros o
  pub priorities : p' ≡ zeros p
  pub offsets : f' ≡ zeros f
  pub targets : t' ≡ zeros t

pub record AllZero (used : ℕ) (before after : Rooms) : Type 0 where
  pub owners : after.owners ≡ zeros before.owners
  pub priorities : after.priorities ≡ zeros before.priorities
  pub offsets : after.offsets ≡ zeros before.offsets
  pub targets : after.targets ≡ zeros before.targets
  pub work : after.work ≡ replicate used 0 ++ drop used before.work

padded_none : (xs : List ℕ) → zeros xs ≡ padded (length xs) []
padded_none xs = ap (λ (k : ℕ). replicate k 0) (sym (sub-zero (length xs)))

-- That is what a refusal leaves.
pub all_zero_holding : (before after : Rooms) → AllZero (reading_words before) before after → after ≡ holding no_tables before
all_zero_holding before after z =
    λ i.
    record {
      owners = (z.owners ∙ padded_none before.owners) i;
      priorities = (z.priorities ∙ padded_none before.priorities) i;
      offsets = (z.offsets ∙ padded_none before.offsets) i;
      targets = (z.targets ∙ padded_none before.targets) i;
      work = z.work i;
    }

-- entry k of a list that begins with zeros
pub get_or_zeros_front :
    (n : ℕ) (xs : List ℕ) (k : ℕ) → k < n → get_or (replicate n 0 ++ xs) k 0 ≡ 0
get_or_zeros_front n xs k l =
    get_or-append (replicate n 0) xs 0 k (rw (length-replicate {A = ℕ} n 0) l) ∙ get_or-replicate n k 0 0 l

pub get_or_zeros_behind :
    (n : ℕ) (xs : List ℕ) (k : ℕ) → get_or (replicate n 0 ++ xs) (n + k) 0 ≡ get_or xs k 0
get_or_zeros_behind n xs k =
    ap (λ (p : ℕ). get_or (replicate n 0 ++ xs) (p + k) 0) (sym (length-replicate {A = ℕ} n 0)) ∙
    get_or-append-add (replicate n 0) xs k 0

-- cleared words at the front, and the others as they were
pub cleared_front :
    (used : ℕ) (before after : List ℕ) →
    used ≤ length before →
    Cleared 0 used before after →
    after ≡ replicate used 0 ++ drop used before
cleared_front used before after fits c =
    ext_get_or 0 after (replicate used 0 ++ drop used before) long (λ k l. at k (dec_lt k used))
  where
    long : length after ≡ length (replicate used 0 ++ drop used before)
    long = simp (length-append, length-replicate, length-drop) (omega (arith, c.long))

    at : (k : ℕ) → Dec (k < used) → get_or after k 0 ≡ get_or (replicate used 0 ++ drop used before) k 0
    at k (yes l) = c.zeros k (omega arith) (omega arith) ∙ sym (get_or_zeros_front used (drop used before) k l)
    at k (no n) =
        let split : k ≡ used + (k - used) = omega (arith, n) in
        c.rest k (inr (omega (arith, n))) ∙ ap (λ (p : ℕ). get_or before p 0) split ∙ sym (get_or-drop used before (k - used) 0) ∙
        sym (get_or_zeros_behind used (drop used before) (k - used)) ∙
        ap (λ (p : ℕ). get_or (replicate used 0 ++ drop used before) p 0) (sym split)

-- a list that was filled to its end
pub filled_all :
    {after : List ℕ} (i : ℕ) (before : List ℕ) →
    i ≡ length before →
    after ≡ replicate i 0 ++ drop i before → after ≡ zeros before
filled_all i before all e =
    e ∙ ap (λ (k : ℕ). replicate k 0 ++ drop k before) all ∙ ap (λ (xs : List ℕ). zeros before ++ xs) (drop-length before) ∙
    append-nil (zeros before)
