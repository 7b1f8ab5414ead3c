-- What a search in order finds: a test that fails at every place before i and holds at i is given at i, and one that fails at
-- every place is not given. Every check that names a lowest place goes by these.
use Rattle.std.specs.Prelude.{Bool, true, false, ◌≡◌, ℕ, ◌<◌}
use Rattle.rules.specs.Outcome.{Outcome, none, refused, given_at, outcome}
use Rattle.basics.specs.Basics.{some_intro, false_some, lowest_unique}
use Rattle.parity_game.specs.Said.{refusal}

-- the test fails at every number below n
abbrev pub FailsBelow : ℕ → (ℕ → Bool) → Type 0
FailsBelow n test = (k : ℕ) → k < n → test k ≡ false

-- a search that met no place gives nothing
pub none_found : (number n : ℕ) (test : ℕ → Bool) → FailsBelow n test → given_at number n test ≡ none
unfolding given_at
none_found number n test h = rw (false_some n test h)

-- a search that stops at i refuses at i
pub found_at : (number n : ℕ) (test : ℕ → Bool) (i : ℕ) → i < n → FailsBelow i test → test i ≡ true → given_at number n test ≡ refused number i
unfolding given_at
found_at number n test i l h e = rw (some_intro n test i l e, lowest_unique n test i (record { below = l; passes = e; first = h }))

-- the same of what a function gives
pub outcome_none : (number n : ℕ) (test : ℕ → Bool) (o : Outcome) → FailsBelow n test → o ≡ outcome (given_at number n test) o
outcome_none number n test o h = rw (none_found number n test h)

pub outcome_found :
    (number n : ℕ) (test : ℕ → Bool) (o : Outcome) (i : ℕ) → i < n → FailsBelow i test → test i ≡ true →
    refusal number i ≡ outcome (given_at number n test) o
outcome_found number n test o i l h e = rw (found_at number n test i l h e)
