-- What the checks at the two ends of reading say, in the words of the rules: 9 and 10 for the rooms, 31 for the identifiers.
use Rattle.std.specs.Prelude.{Bool, true, false, not, ◌||◌, List, ◌≡◌, refl, ℕ, ◌+◌, eqb, ltb, length, get_or}
use Rattle.rules.specs.Outcome.{Verdict, given, given_at, ◌then◌}
use Rattle.rules.specs.Pgsolver.{Header, unsaid, highest}
use Rattle.rules.specs.Reading.{Rooms, room_checks, wrong_highest}
use Rattle.grammar.specs.Waiting.{seen}

-- 9 and 10 go by the lengths alone
abbrev pub size_checks : ℕ → ℕ → ℕ → ℕ → ℕ → Verdict
size_checks owners priorities offsets targets work =
    given 9 0 (not (eqb priorities owners) || not (eqb offsets (owners + 1))) then given 10 0 (ltb work (owners + targets))

pub size_checks_lem :
    (r : Rooms) →
    room_checks r ≡
    size_checks (length r.owners) (length r.priorities) (length r.offsets) (length r.targets) (length r.work)
unfolding room_checks
size_checks_lem r = refl

-- N as the reader keeps it: whether the text says it, and what
abbrev pub header_from : Bool → ℕ → Header
header_from true k = highest k
header_from false k = unsaid

-- 31 goes by how often each identifier was seen
abbrev pub seen_checks : ℕ → Header → List ℕ → Verdict
seen_checks n h offsets = given_at 31 n (λ i. not (eqb (seen (get_or offsets i 0)) 1)) then given 31 n (wrong_highest h n)
