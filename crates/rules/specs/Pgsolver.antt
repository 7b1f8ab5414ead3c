-- The text of a game in PGSolver's form: a grammar over bytes, apart from any reader, with what each piece stands for. An optional
-- `parity N;`, then records of identifier, priority, owner, targets with commas between, an optional quoted name, and a semicolon.
use Rattle.std.specs.Prelude.{Bool, true, ◌&&◌, ◌||◌, List, [], ◌∷◌, ◌++◌, ◌≡◌, ℕ, ◌+◌, ◌-◌, ◌*◌, ◌<◌, eqb, leb, length}

-- space, tab, CR and LF separate
abbrev pub separates : ℕ → Bool
separates b = eqb b 32 || eqb b 9 || eqb b 13 || eqb b 10

abbrev pub is_digit : ℕ → Bool
is_digit b = leb 48 b && leb b 57

abbrev pub quote : ℕ
quote = 34

abbrev pub comma : ℕ
comma = 44

abbrev pub semicolon : ℕ
semicolon = 59

-- the word `parity`
abbrev pub parity_word : List ℕ
parity_word = 112 ∷ 97 ∷ 114 ∷ 105 ∷ 116 ∷ 121 ∷ []

-- any number of separators
pub data Blank : List ℕ → Type 0 where
  empty : Blank []
  more : (b : ℕ) {s : List ℕ} → separates b ≡ true → Blank s → Blank (b ∷ s)

-- one separator or more
pub data Gap : List ℕ → Type 0 where
  gap : (b : ℕ) {s : List ℕ} → separates b ≡ true → Blank s → Gap (b ∷ s)

-- a number: one decimal digit or more, leading zeros allowed, with its value
pub data Number : List ℕ → ℕ → Type 0 where
  first : (b : ℕ) → is_digit b ≡ true → Number (b ∷ []) (b - 48)
  next : {s : List ℕ} {v : ℕ} → Number s v → (b : ℕ) → is_digit b ≡ true → Number (s ++ (b ∷ [])) (10 * v + (b - 48))

-- what stands between the quotes of a name: any byte but a quote
pub data Quoted : List ℕ → Type 0 where
  empty : Quoted []
  more : (b : ℕ) {s : List ℕ} → b < 256 → (b ≡ quote → ⊥) → Quoted s → Quoted (b ∷ s)

-- no name, or a quoted one with what separates behind it
pub data Name : List ℕ → Type 0 where
  absent : Name []
  quoted : {s b : List ℕ} → Quoted s → Blank b → Name (quote ∷ (s ++ (quote ∷ b)))

-- a record, as it is read
pub record Entry : Type 0 where
  pub identifier : ℕ
  pub priority : ℕ
  pub owner : ℕ
  pub targets : List ℕ

-- the record with one target more
abbrev pub with_target : Entry → ℕ → Entry
with_target e w =
    record { identifier = e.identifier; priority = e.priority; owner = e.owner; targets = e.targets ++ (w ∷ []) }

-- a record up to where its next target begins, with the targets so far
pub data Fields : List ℕ → Entry → Type 0 where
  begun :
      {a b c d e f : List ℕ} {i p o : ℕ} →
      Number a i →
      Gap b →
      Number c p →
      Gap d →
      Number e o →
      Gap f →
      Fields (a ++ (b ++ (c ++ (d ++ (e ++ f))))) (record { identifier = i; priority = p; owner = o; targets = [] })
  target :
      {s t b c : List ℕ} {e : Entry} {w : ℕ} →
      Fields s e →
      Number t w →
      Blank b →
      Blank c →
      Fields (s ++ (t ++ (b ++ (comma ∷ c)))) (with_target e w)

-- a whole record, with what separates behind it
pub data Recorded : List ℕ → Entry → Type 0 where
  recorded :
      {s t b c d : List ℕ} {e : Entry} {w : ℕ} →
      Fields s e →
      Number t w →
      Blank b →
      Name c →
      Blank d →
      Recorded (s ++ (t ++ (b ++ (c ++ (semicolon ∷ d))))) (with_target e w)

-- N, where the text says it
pub data Header : Type 0 where
  unsaid : Header
  highest : ℕ → Header

-- what stands before the first record: separators alone, or `parity N;` with separators around its pieces
pub data Opening : List ℕ → Header → Type 0 where
  plain : {s : List ℕ} → Blank s → Opening s unsaid
  headed :
      {a b c d e : List ℕ} {k : ℕ} →
      Blank a →
      Gap b →
      Number c k →
      Blank d →
      Blank e →
      Opening (a ++ (parity_word ++ (b ++ (c ++ (d ++ (semicolon ∷ e)))))) (highest k)

-- an opening and whole records, any number of them
pub data Records : List ℕ → Header → List Entry → Type 0 where
  opened : {s : List ℕ} {h : Header} → Opening s h → Records s h []
  another :
      {s r : List ℕ} {h : Header} {es : List Entry} {e : Entry} →
      Records s h es →
      Recorded r e →
      Records (s ++ r) h (es ++ (e ∷ []))

-- a text of the grammar has a record
pub record Text (s : List ℕ) (h : Header) (es : List Entry) : Type 0 where
  pub reads : Records s h es
  pub some : 0 < length es

-- some bytes make it a text of the grammar
pub record Viable (s : List ℕ) : Type 0 where
  pub rest : List ℕ
  pub header : Header
  pub entries : List Entry
  pub text : Text (s ++ rest) header entries
