-- Writing a game as PGSolver text, in one form: header, records in identifier order, one space between fields, commas without spaces, no
-- leading zeros, no name, the header and each record ended by a semicolon and LF. And what the function gives back and leaves.
use Rattle.std.specs.Prelude.{List, [], ◌∷◌, ◌++◌, ◌≡◌, ℕ, zero, suc, ◌-◌, eqb, ltb, length, get_or, drop}
use Rattle.rules.specs.Decimal.{decimal}
use Rattle.rules.specs.Outcome.{Outcome, Verdict, none, refused, given, outcome, answered, ◌then◌}
use Rattle.rules.specs.Pgsolver.{comma, semicolon, parity_word}
use Rattle.rules.specs.Tables.{Tables, vertices, targets_of, table_checks}

abbrev pub blank : ℕ
blank = 32

-- a semicolon and LF
abbrev pub line_end : List ℕ
line_end = semicolon ∷ (10 ∷ [])

-- targets with commas between, without spaces
unfoldable pub targets_text : List ℕ → List ℕ
targets_text [] = []
targets_text (w ∷ []) = decimal w
targets_text (w ∷ (x ∷ ws)) = decimal w ++ (comma ∷ targets_text (x ∷ ws))

-- identifier, priority, owner, targets
unfoldable pub record_text : Tables → ℕ → List ℕ
record_text t v =
    decimal v ++
    (blank ∷
    (decimal (get_or t.priorities v 0) ++
    (blank ∷
    (decimal (get_or t.owners v 0) ++ (blank ∷ (targets_text (targets_of t.offsets t.targets v) ++ line_end))))))

-- the records of the first k vertices, in identifier order
unfoldable pub records_text : Tables → ℕ → List ℕ
records_text t zero = []
records_text t (suc v) = records_text t v ++ record_text t v

-- `parity N;`, N the highest identifier
unfoldable pub header_text : ℕ → List ℕ
header_text n = parity_word ++ (blank ∷ (decimal (n - 1) ++ line_end))

-- the whole text
unfoldable pub text_of : Tables → List ℕ
text_of t = header_text (vertices t) ++ records_text t (vertices t)

-- 33: no vertex
unfoldable pub check33 : Tables → Verdict
check33 t = given 33 0 (eqb (vertices t) 0)

-- 34: an output shorter than the text needs, with the length needed as the place
unfoldable pub check34 : Tables → ℕ → Verdict
check34 t room = given 34 (length (text_of t)) (ltb room (length (text_of t)))

-- both follow 8
abbrev pub writing_checks : Tables → ℕ → Verdict
writing_checks t room = table_checks t then check33 t then check34 t room

-- a refusal writes nothing; the rest of a longer output stays
abbrev pub written_text : Verdict → Tables → List ℕ → List ℕ
written_text (refused k p) t before = before
written_text none t before = text_of t ++ drop (length (text_of t)) before

-- the public function; the count is the text's length
pub record Writes (t : Tables) (before after : List ℕ) (o : Outcome) : Type 0 where
  pub gives : o ≡ outcome (writing_checks t (length before)) (answered (length (text_of t)))
  pub leaves : after ≡ written_text (writing_checks t (length before)) t before
