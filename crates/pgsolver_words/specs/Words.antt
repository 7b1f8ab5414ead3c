-- How the small part of a reading stands in words: which word holds what, and that what was kept is what is found again.
use Rattle.std.specs.Prelude.{Bool, true, false, cond, List, [], ◌∷◌, ◌++◌, ◌≡◌, refl, ℕ, ◌+◌, ◌%◌, min, ◌<◌, eqb, get_or, drop}
use Rattle.std.proofs.Common.{sym, ap, subst, ◌∙◌, arith, ne_eqb}
use Rattle.pgsolver_acts.specs.declared.state.Phase.{Phase}
use Rattle.pgsolver_acts.specs.declared.state.Phase.TheVariants.{AtStart, InWord, PastWord, InHighest, PastHighest}
use Rattle.pgsolver_acts.specs.declared.state.Phase.TheVariants.{BetweenRecords}
use Rattle.pgsolver_acts.specs.declared.state.Phase.TheVariants.{InIdentifier, PastIdentifier, InPriority, PastPriority}
use Rattle.pgsolver_acts.specs.declared.state.Phase.TheVariants.{InOwner, PastOwner, InTarget, PastTarget, PastComma, InName}
use Rattle.pgsolver_acts.specs.declared.state.Phase.TheVariants.{PastName}
use Rattle.pgsolver_acts.specs.declared.state.State.{State}

-- ---- a phase

-- which phase a word stands for: its number, or 256 and so many letters of `parity`
abbrev pub phase_in : ℕ → Phase
phase_in w =
    cond (eqb w 0) AtStart (
    cond (eqb w 1) PastWord (
    cond (eqb w 2) InHighest (
    cond (eqb w 3) PastHighest (
    cond (eqb w 4) BetweenRecords (
    cond (eqb w 5) InIdentifier (
    cond (eqb w 6) PastIdentifier (
    cond (eqb w 7) InPriority (
    cond (eqb w 8) PastPriority (
    cond (eqb w 9) InOwner (
    cond (eqb w 10) PastOwner (
    cond (eqb w 11) InTarget (
    cond (eqb w 12) PastTarget (
    cond (eqb w 13) PastComma (
    cond (eqb w 14) InName (
    cond (eqb w 15) PastName (
    InWord (w % 256)))))))))))))))))

pub letters_again : (k : ℕ) → k < 256 → phase_in (256 + k) ≡ InWord k
letters_again k few =
    simp (
      ne_eqb (256 + k) 0 (λ e. omega arith),
      ne_eqb (256 + k) 1 (λ e. omega arith),
      ne_eqb (256 + k) 2 (λ e. omega arith),
      ne_eqb (256 + k) 3 (λ e. omega arith),
      ne_eqb (256 + k) 4 (λ e. omega arith),
      ne_eqb (256 + k) 5 (λ e. omega arith),
      ne_eqb (256 + k) 6 (λ e. omega arith),
      ne_eqb (256 + k) 7 (λ e. omega arith),
      ne_eqb (256 + k) 8 (λ e. omega arith),
      ne_eqb (256 + k) 9 (λ e. omega arith),
      ne_eqb (256 + k) 10 (λ e. omega arith),
      ne_eqb (256 + k) 11 (λ e. omega arith),
      ne_eqb (256 + k) 12 (λ e. omega arith),
      ne_eqb (256 + k) 13 (λ e. omega arith),
      ne_eqb (256 + k) 14 (λ e. omega arith),
      ne_eqb (256 + k) 15 (λ e. omega arith),
    )
    (ap (λ (j : ℕ). InWord j) (let same : (256 + k) % 256 ≡ k = omega arith in same))

-- ---- a reading

-- the words of a reading: 0, the most bytes, the place, and then the state
abbrev pub state_in : List ℕ → State
state_in ws =
    record {
      phase = phase_in (get_or ws 3 0);
      said = eqb (get_or ws 4 0) 1;
      highest = get_or ws 5 0 % 65536;
      records = get_or ws 6 0 % 65536;
      edges = get_or ws 7 0 % 65536;
      identifier = get_or ws 8 0 % 65536;
      priority = get_or ws 9 0 % 65536;
      owner = get_or ws 10 0 % 65536;
      begins = get_or ws 11 0 % 65536;
      value = get_or ws 12 0 % 65536;
    }

abbrev pub most_in : List ℕ → ℕ
most_in ws = get_or ws 1 0

-- no place is behind the most bytes
abbrev pub place_in : List ℕ → ℕ
place_in ws = min (get_or ws 2 0) (get_or ws 1 0)

abbrev pub flag : Bool → ℕ
flag true = 1
flag false = 0

-- `phase` and `said` are words for the state's phase and for whether it was said
abbrev pub words_of : ℕ → ℕ → ℕ → ℕ → State → List ℕ
words_of most place phase said s =
    0 ∷ most ∷ place ∷ phase ∷ said ∷ s.highest ∷ s.records ∷ s.edges ∷ s.identifier ∷
    s.priority ∷ s.owner ∷ s.begins ∷ s.value ∷ []

-- the words hold this reading, and those behind them stay
pub record KeepsReading (most place : ℕ) (s : State) (before after : List ℕ) : Type 0 where
  pub kind : get_or after 0 0 ≡ 0
  pub bytes : most_in after ≡ most
  pub at : get_or after 2 0 ≡ place
  pub state : state_in after ≡ s
  pub behind : drop 13 after ≡ drop 13 before

pub record SmallState (s : State) : Type 0 where
  pub highest : s.highest < 65536
  pub records : s.records < 65536
  pub edges : s.edges < 65536
  pub identifier : s.identifier < 65536
  pub priority : s.priority < 65536
  pub owner : s.owner < 65536
  pub begins : s.begins < 65536
  pub value : s.value < 65536

flag_again : (b : Bool) → eqb (flag b) 1 ≡ b
flag_again true = refl
flag_again false = refl

small_again : (k : ℕ) → k < 65536 → k % 65536 ≡ k
small_again k l = omega arith

pub keeps :
    (most place phase said : ℕ) (s : State) (before after : List ℕ) →
    phase_in phase ≡ s.phase →
    said ≡ flag s.said →
    SmallState s →
    after ≡ words_of most place phase said s ++ drop 13 before →
    KeepsReading most place s before after
keeps most place phase said s before after same is small e =
    subst (λ (ws : List ℕ). KeepsReading most place s before ws) (sym e)
    (record {
      kind = refl;
      bytes = refl;
      at = refl;
      state =
          λ i.
          record {
            phase = same i;
            said = (ap (λ (k : ℕ). eqb k 1) is ∙ flag_again s.said) i;
            highest = small_again s.highest small.highest i;
            records = small_again s.records small.records i;
            edges = small_again s.edges small.edges i;
            identifier = small_again s.identifier small.identifier i;
            priority = small_again s.priority small.priority i;
            owner = small_again s.owner small.owner i;
            begins = small_again s.begins small.begins i;
            value = small_again s.value small.value i;
          };
      behind = refl;
    })

-- ---- an outcome

-- the words of an outcome: 1, its number and place, and the sizes n and m
pub record Gives (number place n m : ℕ) (before after : List ℕ) : Type 0 where
  pub kind : get_or after 0 0 ≡ 1
  pub says : get_or after 1 0 ≡ number
  pub at : get_or after 2 0 ≡ place
  pub vertices : get_or after 3 0 ≡ n
  pub edges : get_or after 4 0 ≡ m
  pub behind : drop 13 after ≡ drop 13 before

pub gives :
    (number place n m : ℕ) (before after : List ℕ) →
    after ≡ (1 ∷ number ∷ place ∷ n ∷ m ∷ 0 ∷ 0 ∷ 0 ∷ 0 ∷ 0 ∷ 0 ∷ 0 ∷ 0 ∷ []) ++ drop 13 before →
    Gives number place n m before after
gives number place n m before after e =
    subst (λ (ws : List ℕ). Gives number place n m before ws) (sym e)
    (record { kind = refl; says = refl; at = refl; vertices = refl; edges = refl; behind = refl })
