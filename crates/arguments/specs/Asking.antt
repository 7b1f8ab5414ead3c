-- What the arguments ask for, in the code's own type, and how digits are tested and read one by one.
use Rattle.std.specs.Prelude.{Bool, true, false, ◌&&◌, cond, List, [], ◌∷◌, ◌≡◌, refl, ℕ, zero, suc, ◌+◌, ◌-◌, ◌*◌, ◌^◌, ◌≤◌, ◌<◌, ltb, leb, length, get_or, drop}
use Rattle.std.proofs.Common.{sym, ap, ◌∙◌, not-suc-le-zero, pow-suc, add-one, arith, lt-ltb, le-ltb, le-leb, leb-true, drop-cons}
use Rattle.std.proofs.Math.Nat.{pow-le-pow_right}
use Rattle.std.proofs.lemmas.Bool.{lt-leb}
use Rattle.rules.specs.Counting.{every_of}
use Rattle.rules.specs.Pgsolver.{is_digit}
use Rattle.rules.specs.Printing as Printing
use Rattle.rules.specs.Printing.{arguments_ask_by, arguments_ask, value_after, default_budget}
use Rattle.basics.specs.Basics.{and_left, and_right, and_intro}
use Rattle.std.specs.declared.option.Option.{Option}
use Rattle.std.specs.declared.option.Option.TheVariants.{None, Some}

abbrev pub asked : Option ℕ → Printing.Asked
asked (Some b) = Printing.Asked.within b
asked None = Printing.Asked.wrong

-- the first argument is the one at hand, where there is one
abbrev pub FirstIs : List ℕ → List (List ℕ) → Type 0
FirstIs first [] = Unit {0}
FirstIs first (a ∷ more) = a ≡ first

-- with so many arguments, the program's name among them
abbrev pub Asks : ℕ → List ℕ → Option ℕ → Type 0
Asks given first r =
    (arguments : List (List ℕ)) → length arguments ≡ given - 1 → FirstIs first arguments → asked r ≡ arguments_ask arguments

-- ---- by cases on how many there are

pub asks_none : (given : ℕ) (first : List ℕ) → given ≤ 1 → Asks given first (Some default_budget)
unfolding arguments_ask_by
asks_none given first few [] long is = refl
asks_none given first few (a ∷ more) long is = absurd (omega arith)

pub asks_many : (given : ℕ) (first : List ℕ) → 2 < given → Asks given first None
unfolding arguments_ask_by
asks_many given first many [] long is = absurd (omega arith)
asks_many given first many (a ∷ []) long is = absurd (omega arith)
asks_many given first many (a ∷ (b ∷ more)) long is = refl

-- the test of one argument
abbrev pub fine : List ℕ → Bool
fine a = ltb 0 (length a) && leb (length a) 9 && every_of a is_digit

pub asks_wrong : (given : ℕ) (first : List ℕ) → 1 < given → fine first ≡ false → Asks given first None
unfolding arguments_ask_by
asks_wrong given first some bad [] long is = absurd (omega arith)
asks_wrong given first some bad (a ∷ []) long is =
    sym (ap (λ (t : Bool). cond t (Printing.Asked.within (value_after 0 a)) Printing.Asked.wrong) (ap fine is ∙ bad))
asks_wrong given first some bad (a ∷ (b ∷ more)) long is = refl

pub asks_one :
    (given : ℕ) (first : List ℕ) (v : ℕ) →
    1 < given →
    given ≤ 2 →
    fine first ≡ true →
    v ≡ value_after 0 first →
    Asks given first (Some v)
unfolding arguments_ask_by
asks_one given first v some one good e [] long is = absurd (omega arith)
asks_one given first v some one good e (a ∷ []) long is =
    ap Printing.Asked.within (e ∙ ap (λ (s : List ℕ). value_after 0 s) (sym is)) ∙
    sym (ap (λ (t : Bool). cond t (Printing.Asked.within (value_after 0 a)) Printing.Asked.wrong) (ap fine is ∙ good))
asks_one given first v some one good e (a ∷ (b ∷ more)) long is = absurd (omega arith)

-- what makes an argument wrong
pub not_fine_empty : (first : List ℕ) → length first ≡ 0 → fine first ≡ false
not_fine_empty first none = rw (le-ltb 0 (length first) (omega arith))

pub not_fine_long : (first : List ℕ) → 9 < length first → fine first ≡ false
not_fine_long first long = rw (lt-ltb 0 (length first) (omega arith), lt-leb (length first) 9 long)

pub not_fine_digits : (first : List ℕ) → every_of first is_digit ≡ false → fine first ≡ false
not_fine_digits first bad = rw bad (no (ltb 0 (length first)) (leb (length first) 9))
  where
    no : (b c : Bool) → b && c && false ≡ false
    no true true = refl
    no true false = refl
    no false c = refl

pub is_fine : (first : List ℕ) → 0 < length first → length first ≤ 9 → every_of first is_digit ≡ true → fine first ≡ true
is_fine first some few good =
    and_intro (and_intro (lt-ltb 0 (length first) some) (le-leb (length first) 9 few)) good

-- ---- digits one by one

pub every_none : (xs : List ℕ) (i : ℕ) → length xs ≤ i → every_of (drop i xs) is_digit ≡ true
unfolding every_of
every_none [] zero all = refl
every_none [] (suc i) all = refl
every_none (x ∷ xs) zero all = absurd (not-suc-le-zero all)
every_none (x ∷ xs) (suc i) all = every_none xs i (omega arith)

pub every_next :
    (xs : List ℕ) (i : ℕ) →
    i < length xs →
    every_of (drop i xs) is_digit ≡ (is_digit (get_or xs i 0) && every_of (drop (i + 1) xs) is_digit)
unfolding every_of
every_next xs i less = rw (add-one, drop-cons xs i 0 less)

pub value_next :
    (xs : List ℕ) (i v : ℕ) →
    i < length xs →
    value_after v (drop i xs) ≡ value_after (10 * v + (get_or xs i 0 - 48)) (drop (i + 1) xs)
unfolding value_after
value_next xs i v less = rw (add-one, drop-cons xs i 0 less)

pub value_none : (xs : List ℕ) (i v : ℕ) → length xs ≤ i → value_after v (drop i xs) ≡ v
unfolding value_after
value_none [] zero v all = refl
value_none [] (suc i) v all = refl
value_none (x ∷ xs) zero v all = absurd (not-suc-le-zero all)
value_none (x ∷ xs) (suc i) v all = value_none xs i v (omega arith)

pub digit_low : (b : ℕ) → b < 48 → is_digit b ≡ false
digit_low b low = rw (lt-leb 48 b low)

pub digit_high : (b : ℕ) → 57 < b → is_digit b ≡ false
digit_high b high = rw (le-leb 48 b (omega arith), lt-leb b 57 high)

pub digit_within : (b : ℕ) → 48 ≤ b → b ≤ 57 → is_digit b ≡ true
digit_within b low high = and_intro (le-leb 48 b low) (le-leb b 57 high)

pub digit_bounds : (b : ℕ) → is_digit b ≡ true → (48 ≤ b) × (b ≤ 57)
digit_bounds b is =
    (leb-true 48 b (and_left (leb 48 b) (leb b 57) is), leb-true b 57 (and_right (leb 48 b) (leb b 57) is))

-- the entries passed are digits
pub record Tested (xs : List ℕ) (i : ℕ) : Type 0 where
  pub some : i ≤ length xs
  pub same : every_of xs is_digit ≡ every_of (drop i xs) is_digit

pub tested_more : {xs : List ℕ} {i : ℕ} → Tested xs i → i < length xs → is_digit (get_or xs i 0) ≡ true → Tested xs (i + 1)
tested_more {xs} {i} t less is =
    record {
      some = omega arith;
      same =
          t.same ∙ every_next xs i less ∙ ap (λ (b : Bool). b && every_of (drop (i + 1) xs) is_digit) is;
    }

pub tested_wrong :
    {xs : List ℕ} {i : ℕ} → Tested xs i → i < length xs → is_digit (get_or xs i 0) ≡ false → false ≡ every_of xs is_digit
tested_wrong {xs} {i} t less is =
    sym (t.same ∙ every_next xs i less ∙ ap (λ (b : Bool). b && every_of (drop (i + 1) xs) is_digit) is)

pub tested_all : {xs : List ℕ} {i : ℕ} → Tested xs i → length xs ≤ i → true ≡ every_of xs is_digit
tested_all {xs} {i} t all = sym (t.same ∙ every_none xs i all)

-- the digits passed have this value, of at most as many digits
pub record Valued (xs : List ℕ) (i v : ℕ) : Type 0 where
  pub some : i ≤ length xs
  pub few : length xs ≤ 9
  pub digits : every_of (drop i xs) is_digit ≡ true
  pub same : value_after v (drop i xs) ≡ value_after 0 xs
  pub small : v < 10 ^ i

module _ {xs : List ℕ} {i v : ℕ} (t : Valued xs i v) (less : i < length xs) where
  -- the next one is a digit
  pub valued_digit : is_digit (get_or xs i 0) ≡ true
  valued_digit =
      and_left (is_digit (get_or xs i 0)) (every_of (drop (i + 1) xs) is_digit) (sym (every_next xs i less) ∙ t.digits)

  pub valued_bounds : (48 ≤ get_or xs i 0) × (get_or xs i 0 ≤ 57)
  valued_bounds = digit_bounds (get_or xs i 0) valued_digit

  valued_small : 10 * v + (get_or xs i 0 - 48) < 10 ^ (i + 1)
  valued_small =
      let power : 10 ^ (i + 1) ≡ 10 ^ i * 10 = ap (λ (k : ℕ). 10 ^ k) (add-one i) ∙ pow-suc 10 i in
      omega (arith, t.small, valued_bounds.0, valued_bounds.1)

  -- so the value stays below a thousand million
  pub valued_fits : 10 * v + (get_or xs i 0 - 48) < 1000000000
  valued_fits =
      let most : 10 ^ (i + 1) ≤ 10 ^ 9 = pow-le-pow_right (omega arith) {i = i + 1} {j = 9} (omega (arith, t.few)) in
      omega (arith, valued_small)

  -- and one more is passed
  pub valued_more : Valued xs (i + 1) (10 * v + (get_or xs i 0 - 48))
  valued_more =
      record {
        some = omega arith;
        few = t.few;
        digits =
            and_right (is_digit (get_or xs i 0)) (every_of (drop (i + 1) xs) is_digit) (sym (every_next xs i less) ∙ t.digits);
        same = sym (value_next xs i v less) ∙ t.same;
        small = valued_small;
      }

pub valued_none : {xs : List ℕ} → length xs ≤ 9 → every_of xs is_digit ≡ true → Valued xs 0 0
valued_none few good = record { some = omega arith; few = few; digits = good; same = refl; small = omega arith }

pub valued_all : {xs : List ℕ} {i v : ℕ} → Valued xs i v → length xs ≤ i → v ≡ value_after 0 xs
valued_all {xs} {i} {v} t all = sym (value_none xs i v all) ∙ t.same
