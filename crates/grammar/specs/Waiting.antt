-- What waits in the tables while a text is read: owners and priorities at their identifier, targets in the order of the text, and
-- at each identifier where the targets of its record begin (below 16,384) and, above that, whether it was seen once or twice.
use Rattle.std.specs.Prelude.{cond, List, [], ◌∷◌, ◌++◌, map, ◌≡◌, ℕ, ◌+◌, ◌/◌, ◌%◌, min, ◌≤◌, ◌<◌, eqb, length, get_or, take}
use Rattle.rules.specs.Counting.{times}
use Rattle.rules.specs.Pgsolver.{Entry}
use Rattle.rules.specs.Reading.{targets_in, entry_of}

abbrev pub identifiers : List Entry → List ℕ
identifiers es = map (λ e. e.identifier) es

-- the targets in the order of the text
unfoldable pub in_text : List Entry → List ℕ
in_text [] = []
in_text (e ∷ es) = e.targets ++ in_text es

-- where the targets of the first record with an identifier begin among them
unfoldable pub beginning : List Entry → ℕ → ℕ
beginning [] i = 0
beginning (e ∷ es) i = cond (eqb e.identifier i) 0 (length e.targets + beginning es i)

-- a word of the offsets while a text is read: how often an identifier was seen, up to two, and where its targets begin
abbrev pub seen : ℕ → ℕ
seen word = word / 16384

abbrev pub begin : ℕ → ℕ
begin word = word % 16384

-- what stands at an identifier that was seen once
pub record KeptAt (es : List Entry) (owners priorities offsets : List ℕ) (i : ℕ) : Type 0 where
  pub owner : get_or owners i 0 ≡ min 255 (entry_of es i).owner
  pub priority : get_or priorities i 0 ≡ (entry_of es i).priority
  pub begins : begin (get_or offsets i 0) ≡ beginning es i

-- what stands at an identifier that was not seen
pub record FreshAt (owners priorities offsets : List ℕ) (i : ℕ) : Type 0 where
  pub owner : get_or owners i 0 ≡ 0
  pub priority : get_or priorities i 0 ≡ 0
  pub offset : get_or offsets i 0 ≡ 0

-- the records es and the targets so far of the next one wait in the tables
pub record Waits (es : List Entry) (more owners priorities offsets targets : List ℕ) : Type 0 where
  -- the rooms fit each other, and there is room
  pub as_many : length priorities ≡ length owners
  pub one_more : length offsets ≡ length owners + 1
  pub few_records : length es ≤ length owners
  pub room : targets_in es + length more ≤ length targets
  pub few_targets : targets_in es + length more ≤ 16384
  -- each whole record has a target
  pub each : (k : ℕ) → k < length es → 0 < length (get_or es k (record { identifier = 0; priority = 0; owner = 0; targets = [] })).targets
  pub in_order : take (targets_in es + length more) targets ≡ in_text es ++ more
  pub behind : (k : ℕ) → targets_in es + length more ≤ k → get_or targets k 0 ≡ 0
  pub often : (i : ℕ) → i < length owners → seen (get_or offsets i 0) ≡ min 2 (times i (identifiers es))
  pub kept : (i : ℕ) → i < length owners → times i (identifiers es) ≡ 1 → KeptAt es owners priorities offsets i
  pub fresh : (i : ℕ) → i < length owners → times i (identifiers es) ≡ 0 → FreshAt owners priorities offsets i
  pub last : get_or offsets (length owners) 0 ≡ 0
