-- "The tables of a game": four tables as lent, their sizes, the game they stand for, and the refusals 1 to 10 in order.
use Rattle.std.specs.Prelude.{not, ◌||◌, List, ◌≡◌, ℕ, ◌+◌, ◌-◌, ◌*◌, ◌/◌, eqb, ltb, leb, length, get_or, take, drop}
use Rattle.rules.specs.Counting.{every_of}
use Rattle.rules.specs.Game.{Game, player_of}
use Rattle.rules.specs.Outcome.{Verdict, none, given, given_at, ◌then◌}

pub record Tables : Type 0 where
  pub owners : List ℕ
  pub priorities : List ℕ
  pub offsets : List ℕ
  pub targets : List ℕ

abbrev pub tables_of : List ℕ → List ℕ → List ℕ → List ℕ → Tables
tables_of owners priorities offsets targets =
    record { owners = owners; priorities = priorities; offsets = offsets; targets = targets }

-- n vertices, m edges
abbrev pub vertices : Tables → ℕ
vertices t = length t.owners

abbrev pub edges_in : Tables → ℕ
edges_in t = length t.targets

-- s: n / 64 rounded up
unfoldable pub words : ℕ → ℕ
words n = (n + 63) / 64

-- W: the words of the work area
unfoldable pub work_words : ℕ → ℕ → ℕ
work_words n m = 8 * (n + 2) * words n + 4 * n + 2 * m + 272

-- the edges of v stand from offset v up to offset v + 1
unfoldable pub degree : List ℕ → ℕ → ℕ
degree offsets v = get_or offsets (v + 1) 0 - get_or offsets v 0

unfoldable pub targets_of : List ℕ → List ℕ → ℕ → List ℕ
targets_of offsets targets v = take (degree offsets v) (drop (get_or offsets v 0) targets)

unfoldable pub game_of : Tables → Game
game_of t =
    record {
      size = vertices t;
      owner = λ v. player_of (get_or t.owners v 0);
      priority = λ v. get_or t.priorities v 0;
      targets = targets_of t.offsets t.targets;
    }

-- 1: n above 4,096
unfoldable pub check1 : ℕ → Verdict
check1 n = given 1 0 (ltb 4096 n)

-- 2: priorities not n, or offsets not n + 1 long
unfoldable pub check2 : ℕ → ℕ → ℕ → Verdict
check2 n priorityLength offsetLength = given 2 0 (not (eqb priorityLength n) || not (eqb offsetLength (n + 1)))

-- 3: m above 16,384
unfoldable pub check3 : ℕ → Verdict
check3 m = given 3 0 (ltb 16384 m)

-- 4: an owner not 0 or 1, at the lowest vertex
unfoldable pub check4 : ℕ → List ℕ → Verdict
check4 n owners = given_at 4 n (λ v. ltb 1 (get_or owners v 0))

-- 5: a priority above 255, at the lowest vertex
unfoldable pub check5 : ℕ → List ℕ → Verdict
check5 n priorities = given_at 5 n (λ v. ltb 255 (get_or priorities v 0))

-- 6: first offset not 0, at 0; else an offset above the next, at the lowest such index; else last offset not m, at n
unfoldable pub check6 : ℕ → ℕ → List ℕ → Verdict
check6 n m offsets =
    given 6 0 (not (eqb (get_or offsets 0 0) 0)) then
    given_at 6 n (λ i. ltb (get_or offsets (i + 1) 0) (get_or offsets i 0)) then
    given 6 n (not (eqb (get_or offsets n 0) m))

-- 7: a target not below n, at the lowest edge
unfoldable pub check7 : ℕ → ℕ → List ℕ → Verdict
check7 n m targets = given_at 7 m (λ e. leb n (get_or targets e 0))

-- 8: a vertex without an edge, at the lowest vertex
unfoldable pub check8 : ℕ → List ℕ → Verdict
check8 n offsets = given_at 8 n (λ v. eqb (degree offsets v) 0)

-- the first of 1 to 8 that applies
unfoldable pub table_checks : Tables → Verdict
table_checks t =
    check1 (vertices t) then
    check2 (vertices t) (length t.priorities) (length t.offsets) then
    check3 (edges_in t) then
    check4 (vertices t) t.owners then
    check5 (vertices t) t.priorities then
    check6 (vertices t) (edges_in t) t.offsets then
    check7 (vertices t) (edges_in t) t.targets then
    check8 (vertices t) t.offsets

-- tables that none of 1 to 8 refuses
unfoldable pub Accepted : Tables → Type 0
Accepted t = table_checks t ≡ none

-- 9: a set not s words, or a strategy or new priority table not n entries; given the lengths of each
unfoldable pub check9 : ℕ → List ℕ → List ℕ → Verdict
check9 n setLengths tableLengths =
    given 9 0 (not (every_of setLengths (λ k. eqb k (words n))) || not (every_of tableLengths (λ k. eqb k n)))

-- 10: a work area shorter than W
unfoldable pub check10 : ℕ → ℕ → ℕ → Verdict
check10 n m workLength = given 10 0 (ltb workLength (work_words n m))
