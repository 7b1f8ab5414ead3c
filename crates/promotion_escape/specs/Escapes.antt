-- Looking at R without changing anything: what such a walk asks for, and the sets and levels that it looks into.
use Rattle.std.specs.Prelude.{Bool, true, ◌&&◌, not, List, ◌≡◌, ℕ, ◌+◌, ◌-◌, ◌*◌, ◌≤◌, ◌<◌, length, get_or, take, drop}
use Rattle.std.proofs.Common.{sym, ap, ap₂, subst, ◌∙◌, le_refl, mul-le-mul_right, arith}
use Rattle.rules.specs.Counting.{Set}
use Rattle.rules.specs.Tables.{words}
use Rattle.rules.specs.Words.{set_of}
use Rattle.accepted.specs.Tables.{never_falls}
use Rattle.predecessors.specs.Table.{SoundEdges}
use Rattle.area.specs.Area.{set_at}
use Rattle.area.specs.Lent.{part_is, part_length, part_set, words_enough}
use Rattle.area.specs.Walked.{Walkable, Anything}
use Rattle.promotion_escape.specs.Highest.{Nested}

-- ---- sets in parts of the work area

-- level j of those that stand from `levels` on, s words each
abbrev pub level_from : ℕ → ℕ → ℕ → List ℕ → ℕ → Set
level_from n s levels work j = set_at n (levels + j * s) work

-- the same by the number of words
abbrev pub sets_from : ℕ → ℕ → ℕ → List ℕ → ℕ → Set
sets_from k s levels work j = set_of (take k (drop (levels + j * s) work))

pub levels_same :
    (n s levels : ℕ) (work : List ℕ) → s ≡ words n → sets_from s s levels work ≡ level_from n s levels work
levels_same n s levels work size = ap (λ (k : ℕ). sets_from k s levels work) size

-- each has its room where the last has
pub level_room : (s levels j k : ℕ) → j ≤ k → levels + j * s + s ≤ levels + k * s + s
level_room s levels j k l = let most = mul-le-mul_right s l in omega arith

-- a part has a bit for each number below 64 times its words
pub part_bit :
    (s a v : ℕ) (xs : List ℕ) → a + s ≤ length xs → v < 64 * s → v < 64 * length (take ((a + s) - a) (drop a xs))
part_bit s a v xs high l = rw (part_is a s xs, part_length a s xs high) l

-- a bit of a part, as the code lends it where it was told to stand
pub part_asked :
    (s at a v : ℕ) (xs : List ℕ) → at ≡ a → set_of (take ((at + s) - at) (drop at xs)) v ≡ set_of (take s (drop a xs)) v
part_asked s at a v xs is =
    ap (λ (ys : List ℕ). set_of ys v) (part_is at s xs) ∙ ap (λ (i : ℕ). set_of (take s (drop i xs)) v) is

pub set_asked :
    (n s a v : ℕ) (xs : List ℕ) → s ≡ words n → set_of (take ((a + s) - a) (drop a xs)) v ≡ set_at n a xs v
set_asked n s a v xs size = ap (λ (S : Set). S v) (part_set n s a xs size)

-- in one part and not in the other, as the code asks
pub parts_asked :
    (s at a bt b v : ℕ) (xs : List ℕ) → at ≡ a → bt ≡ b →
    (set_of (take ((at + s) - at) (drop at xs)) v && not (set_of (take ((bt + s) - bt) (drop bt xs)) v)) ≡
    (set_of (take s (drop a xs)) v && not (set_of (take s (drop b xs)) v))
parts_asked s at a bt b v xs is-a is_b =
    ap₂ (λ (x y : Bool). x && not y) (part_asked s at a v xs is-a) (part_asked s bt b v xs is_b)

-- ---- a set, R or its heads, and its edges

pub record Escapes (owners offsets targets : List ℕ) (s held : ℕ) (work : List ℕ) : Type 0 where
  pub size : s ≡ words (length owners)
  pub edges : SoundEdges (length owners) offsets targets
  pub high : held + words (length owners) ≤ length work
  pub below : (v : ℕ) → set_at (length owners) held work v ≡ true → v < length owners

pub escape_walkable :
    {owners offsets targets : List ℕ} {s held : ℕ} {work : List ℕ} →
    Escapes owners offsets targets s held work →
    Walkable (length owners) s held Anything work
escape_walkable e =
    record { size = e.size; few = e.edges.few_vertices; high = e.high; below = e.below; out = λ i low high. tt }

-- the edges of one vertex, each with a bit in s words
pub record EdgesIn (offsets targets : List ℕ) (s v : ℕ) : Type 0 where
  pub each : v + 1 < length offsets
  pub rising : get_or offsets v 0 ≤ get_or offsets (v + 1) 0
  pub top : get_or offsets (v + 1) 0 ≤ length targets
  pub bits : (e : ℕ) → e < length targets → get_or targets e 0 < 64 * s

pub edges_ready :
    {owners offsets targets : List ℕ} {s held : ℕ} {work : List ℕ} →
    Escapes owners offsets targets s held work →
    (v : ℕ) →
    v < length owners →
    EdgesIn offsets targets s v
edges_ready {owners} {offsets} {targets} e v small =
    record {
      each = omega (arith, e.edges.offset_each);
      rising = e.edges.offset_next v small;
      top =
          let grows =
          never_falls (λ i. get_or offsets i 0) (length owners) e.edges.offset_next (v + 1) (length owners) (omega arith)
          (le_refl (length owners)) in
          omega (arith, e.edges.offset_last);
      bits = λ k l. rw e.size (words_enough (length owners) (get_or targets k 0) (e.edges.target_below k l));
    }

-- ---- what the two tests ask for

-- R's heads stand at `heads`, R at `held`, and the last level at `below`
pub record Openable (owners offsets targets : List ℕ) (s heads held below : ℕ) (work : List ℕ) : Type 0 where
  pub escapes : Escapes owners offsets targets s heads work
  pub held_room : held + words (length owners) ≤ length work
  pub room : below + words (length owners) ≤ length work

-- levels 0 to k stand from `levels` on
pub record Escapable (owners offsets targets : List ℕ) (s held levels k : ℕ) (work : List ℕ) : Type 0 where
  pub escapes : Escapes owners offsets targets s held work
  pub room : levels + k * s + s ≤ length work
  pub nested : Nested (level_from (length owners) s levels work) k

pub record Climbable (s levels k w best : ℕ) (work : List ℕ) : Type 0 where
  pub bit : w < 64 * s
  pub low : best ≤ k
  pub room : levels + k * s + s ≤ length work

pub record Looks (offsets targets : List ℕ) (s levels k v best : ℕ) (work : List ℕ) : Type 0 where
  pub edges : EdgesIn offsets targets s v
  pub low : best ≤ k
  pub room : levels + k * s + s ≤ length work
  pub nested : Nested (sets_from s s levels work) k

pub looks_ready :
    {owners offsets targets : List ℕ} {s held levels k : ℕ} {work : List ℕ} →
    Escapable owners offsets targets s held levels k work →
    {v best : ℕ} →
    v < length owners →
    best ≤ k →
    Looks offsets targets s levels k v best work
looks_ready {owners} {offsets} {targets} {s} {held} {levels} {k} {work} given {v} small low =
    record {
      edges = edges_ready given.escapes v small;
      low = low;
      room = given.room;
      nested =
          subst (λ (L : ℕ → Set). Nested L k) (sym (levels_same (length owners) s levels work given.escapes.size))
          given.nested;
    }
