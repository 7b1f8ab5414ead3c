-- Compaction keeps winners: by its rule a used priority keeps its parity, a higher one gets no lower number, and no number grows.
-- Of the rule itself only the three laws of `next_number` are used: it is the lowest number of its priority's parity that is not
-- below the last one. Compacted tables are accepted again.
use Rattle.std.specs.Prelude.{true, false, List, [], ◌∷◌, map, ◌↔◌, ◌≡◌, refl, eqb, ltb, length}
use Rattle.std.proofs.Math.Logic.{⊎_elim}
use Rattle.std.proofs.Math.Path.{sym}
use Rattle.std.proofs.Common.{ap, ◌∙◌, le_refl, le_trans, le_of_eq, eq-or-lt_of_le, le_of_lt, le_of_suc-le-suc, not-suc-le-zero, arith, eqb-true, eq-eqb, le-ltb}
use Prim.Native.Nat.{ℕ, zero, suc, ◌%◌, ◌≤◌, ◌<◌}
use Rattle.std.proofs.Math.Nat.{le_step}
use Rattle.std.proofs.lemmas.Bool.{eqb-false}
use Rattle.std.proofs.Math.ListN.{get_or}
use Rattle.std.proofs.lemmas.List.{length-map}
use Rattle.rules.specs.Compaction.{used, Last, nothing, last, next_number, last_below, compacted}
use Rattle.rules.specs.Counting.{Set, some}
use Rattle.rules.specs.Game.{Player, parity, player_of}
use Rattle.rules.specs.Outcome.{none, given_at}
use Rattle.rules.specs.Tables.{Tables, vertices, game_of, table_checks, check5, Accepted}
use Rattle.rules.specs.Winning.{Wins, WinningSets}
use Rattle.basics.specs.Basics.{bool_cases, some_intro, false_some, below_suc}
use Rattle.theory.specs.Relabelling.{Alike, KeepsOrder, keeps_order, alike_sym, alike_winners, alike_winning_sets, alike_answers}
use Rattle.accepted.specs.Tables.{accepted_sound, accepted_total}

-- ---- relabelled tables

-- the tables with other priorities
abbrev pub with_priorities : Tables → List ℕ → Tables
with_priorities t priorities =
    record { owners = t.owners; priorities = priorities; offsets = t.offsets; targets = t.targets }

pub get_or_map_below :
    (f : ℕ → ℕ) (xs : List ℕ) (i : ℕ) → i < length xs → get_or (map f xs) i 0 ≡ f (get_or xs i 0)
get_or_map_below f [] i l = absurd (not-suc-le-zero l)
get_or_map_below f (x ∷ xs) zero l = refl
get_or_map_below f (x ∷ xs) (suc i) l = get_or_map_below f xs i (le_of_suc-le-suc l)

check5_passes :
    (n : ℕ) (priorities : List ℕ) → ((v : ℕ) → v < n → get_or priorities v 0 ≤ 255) → check5 n priorities ≡ none
unfolding check5 given_at
check5_passes n priorities small =
    rw (false_some n (λ v. ltb 255 (get_or priorities v 0)) (λ v l. le-ltb 255 (get_or priorities v 0) (small v l)))

module _ (t : Tables) (ok : Accepted t) where
  -- tables with other small priorities, as many as before, are accepted
  pub other_priorities_accepted :
      (priorities : List ℕ) →
      length priorities ≡ vertices t →
      ((v : ℕ) → v < vertices t → get_or priorities v 0 ≤ 255) →
      Accepted (with_priorities t priorities)
  unfolding Accepted table_checks
  other_priorities_accepted priorities long small =
      let sound = accepted_sound t ok in
      let passes : check5 (vertices t) priorities ≡ check5 (vertices t) t.priorities =
      check5_passes (vertices t) priorities small ∙
      sym (check5_passes (vertices t) t.priorities sound.priority_small) in
      rw (long ∙ sym sound.priority_each, passes)
      ok

  -- where f keeps order and parity on the priorities in use, the game with f applied to each entry is alike
  pub relabelled_tables_alike :
      (f : ℕ → ℕ) →
      KeepsOrder (vertices t) (λ v. get_or t.priorities v 0) f →
      Alike (game_of t) (game_of (with_priorities t (map f t.priorities)))
  unfolding game_of
  relabelled_tables_alike f keeps =
      record {
        sizes = refl;
        owners = λ v. refl;
        targets = λ v. refl;
        starts = (accepted_total t ok).starts;
        order = λ v w lv lw. rw (new v lv, new w lw) (keeps_order keeps v w lv lw);
        parities = λ v l. rw (new v l) (sym (keeps.parities v l));
      }
    where
      new : (v : ℕ) → v < vertices t → get_or (map f t.priorities) v 0 ≡ f (get_or t.priorities v 0)
      new v l =
          get_or_map_below f t.priorities v (rw (accepted_sound t ok).priority_each l)

-- ---- the three laws of the rule

-- l is nothing, or a number that is not above k
abbrev pub AtMost : ℕ → Last → Type 0
AtMost k nothing = Unit {0}
AtMost k (last q) = q ≤ k

-- l is a number that is not below k
abbrev pub Reaches : ℕ → Last → Type 0
Reaches k nothing = ⊥
Reaches k (last q) = k ≤ q

-- a new number has its priority's parity
pub next_parity : (l : Last) (p : ℕ) → next_number l p % 2 ≡ p % 2
unfolding next_number
next_parity nothing p = omega arith
next_parity (last q) p =
    ⊎_elim
    (λ e. let same = eqb-true (q % 2) (p % 2) e in rw e (omega arith))
    (λ e. let differ = eqb-false (q % 2) (p % 2) e in rw e (omega arith))
    (bool_cases (eqb (q % 2) (p % 2)))

-- it is not below the last one
pub next_above_lem : (l : Last) (p k : ℕ) → Reaches k l → k ≤ next_number l p
unfolding next_number
next_above_lem nothing p k h = absurd h
next_above_lem (last q) p k h = omega arith

-- and it is the lowest such number
pub next_lowest : (l : Last) (p k : ℕ) → k % 2 ≡ p % 2 → AtMost k l → next_number l p ≤ k
unfolding next_number
next_lowest nothing p k kept h = omega arith
next_lowest (last q) p k kept h =
    ⊎_elim
    (λ e. rw e (omega arith))
    (λ e. let differ = eqb-false (q % 2) (p % 2) e in rw e (omega arith))
    (bool_cases (eqb (q % 2) (p % 2)))

-- ---- numbers given one after another

module _ (isUsed : Set) where
  -- the number that a used priority gets
  abbrev number : ℕ → ℕ
  number p = next_number (last_below isUsed p) p

  -- what is last below n, after one more priority: used, or not
  pub last_used : (n : ℕ) → isUsed n ≡ true → last_below isUsed (suc n) ≡ last (number n)
  unfolding last_below
  last_used n e = rw e

  pub last_unused : (n : ℕ) → isUsed n ≡ false → last_below isUsed (suc n) ≡ last_below isUsed n
  unfolding last_below
  last_unused n e = rw e

  -- what is last below n is not below the number of a used priority below n
  pub last_reaches : (p n : ℕ) → isUsed p ≡ true → p < n → Reaches (number p) (last_below isUsed n)
  last_reaches p zero e l = absurd (not-suc-le-zero l)
  last_reaches p (suc n) e l =
      ⊎_elim
      (λ (q : p ≡ n).
      rw (last_used n (ap isUsed (sym q) ∙ e)) (le_of_eq (ap number q)))
      (λ (k : p < n).
      ⊎_elim
      (λ u. rw (last_used n u) (next_above_lem (last_below isUsed n) n (number p) (last_reaches p n e k)))
      (λ u. rw (last_unused n u) (last_reaches p n e k))
      (bool_cases (isUsed n)))
      (below_suc l)

  number_monotone : (p q : ℕ) → isUsed p ≡ true → p ≤ q → number p ≤ number q
  number_monotone p q e l =
      ⊎_elim
      (λ (same : p ≡ q). le_of_eq (ap number same))
      (λ (less : p < q). next_above_lem (last_below isUsed q) q (number p) (last_reaches p q e less))
      (eq-or-lt_of_le l)

  -- f keeps order and parity on the used priorities
  module _
      (f : ℕ → ℕ)
      (order : (p q : ℕ) → isUsed p ≡ true → isUsed q ≡ true → p ≤ q → f p ≤ f q)
      (kept : (p : ℕ) → isUsed p ≡ true → f p % 2 ≡ p % 2)
    where
      -- where f gives no used priority below n a number above k, what is last below n is not above k
      pub last_lowest :
          (n k : ℕ) → ((p : ℕ) → isUsed p ≡ true → p < n → f p ≤ k) → AtMost k (last_below isUsed n)
      unfolding last_below
      last_lowest zero k most = tt
      last_lowest (suc n) k most =
          ⊎_elim
          (λ e.
          rw e
          (le_trans
          (next_lowest (last_below isUsed n) n (f n) (kept n e) (last_lowest n (f n) (λ p u l. order p n u e (le_of_lt l))))
          (most n e (le_refl (suc n)))))
          (λ e. rw e (last_lowest n k (λ p u l. most p u (le_step l))))
          (bool_cases (isUsed n))

      -- so f gives no used priority a lower number
      pub number_lowest : (p : ℕ) → isUsed p ≡ true → number p ≤ f p
      number_lowest p e =
          next_lowest (last_below isUsed p) p (f p) (kept p e) (last_lowest p (f p) (λ r u l. order r p u e (le_of_lt l)))

  -- no number grows
  pub number_small : (p : ℕ) → number p ≤ p
  number_small p =
      next_lowest (last_below isUsed p) p p refl
      (last_lowest (λ r. r) (λ r q u e l. l) (λ r u. refl) p p (λ r u l. le_of_lt l))

-- ---- compaction

-- Compaction keeps order and parity, and no number grows.
pub compacted_monotone :
    (priorities : List ℕ) (p q : ℕ) → used priorities p ≡ true → p ≤ q → compacted priorities p ≤ compacted priorities q
unfolding compacted
compacted_monotone priorities = number_monotone (used priorities)

pub compacted_parity : (priorities : List ℕ) (p : ℕ) → parity (compacted priorities p) ≡ parity p
unfolding compacted
compacted_parity priorities p = ap player_of (next_parity (last_below (used priorities) p) p)

pub compacted_small : (priorities : List ℕ) (p : ℕ) → compacted priorities p ≤ p
unfolding compacted
compacted_small priorities = number_small (used priorities)

-- every entry is a used priority
pub entry_used : (priorities : List ℕ) (v : ℕ) → v < length priorities → used priorities (get_or priorities v 0) ≡ true
entry_used priorities v l =
    let p = get_or priorities v 0 in
    some_intro (length priorities) (λ u. eqb (get_or priorities u 0) p) v l (eq-eqb p p refl)

-- so compaction keeps order and parity on the entries
pub compacted_keeps :
    (priorities : List ℕ) → KeepsOrder (length priorities) (λ v. get_or priorities v 0) (compacted priorities)
compacted_keeps priorities =
    record {
      monotone = λ v w lv lw up. compacted_monotone priorities _ _ (entry_used priorities v lv) up;
      parities = λ v l. compacted_parity priorities (get_or priorities v 0);
    }

-- the tables with the new numbers
abbrev pub compacted_tables : Tables → Tables
compacted_tables t = with_priorities t (map (compacted t.priorities) t.priorities)

module _ (t : Tables) (ok : Accepted t) where
  -- Compacted tables are accepted,
  pub compacted_accepted : Accepted (compacted_tables t)
  compacted_accepted =
      let sound = accepted_sound t ok in
      other_priorities_accepted t ok
      (map (compacted t.priorities) t.priorities)
      (length-map t.priorities (compacted t.priorities) ∙ sound.priority_each)
      (λ v l.
      let old = get_or t.priorities v 0 in
      rw (get_or_map_below (compacted t.priorities) t.priorities v (rw sound.priority_each l))
      (le_trans (compacted_small t.priorities old) (sound.priority_small v l)))

  -- their game differs by priorities that keep order and parity,
  pub compacted_alike : Alike (game_of t) (game_of (compacted_tables t))
  compacted_alike =
      relabelled_tables_alike t ok (compacted t.priorities)
      (rw (accepted_sound t ok).priority_each at (compacted_keeps t.priorities))

  -- winners stay,
  pub compaction_keeps_winners : (a : Player) (v : ℕ) → Wins (game_of t) a v ↔ Wins (game_of (compacted_tables t)) a v
  compaction_keeps_winners = alike_winners compacted_alike

  -- and so do winning sets,
  pub compaction_keeps_winning_sets :
      (won : Player → Set) → WinningSets (game_of t) won ↔ WinningSets (game_of (compacted_tables t)) won
  compaction_keeps_winning_sets won =
      (alike_winning_sets compacted_alike, alike_winning_sets (alike_sym compacted_alike))

  -- and whatever finds the winning sets of both games finds the same sets.
  pub compaction_keeps_answers :
      (won won' : Player → Set) →
      WinningSets (game_of t) won →
      WinningSets (game_of (compacted_tables t)) won' →
      (a : Player) (v : ℕ) →
      v < (game_of t).size →
      won a v ≡ won' a v
  compaction_keeps_answers won won' = alike_answers won won' compacted_alike

-- 3, 7, 4 becomes 1, 3, 2
pub worked_compaction : map (compacted (3 ∷ 7 ∷ 4 ∷ [])) (3 ∷ 7 ∷ 4 ∷ []) ≡ 1 ∷ 3 ∷ 2 ∷ []
unfolding compacted next_number last_below some
worked_compaction = refl

-- 2, 6 becomes 0, 0
pub worked_same_number : map (compacted (2 ∷ 6 ∷ [])) (2 ∷ 6 ∷ []) ≡ 0 ∷ 0 ∷ []
unfolding compacted next_number last_below some
worked_same_number = refl

-- 3, 7, 8 becomes 1, 1, 2
pub worked_same_then_next : map (compacted (3 ∷ 7 ∷ 8 ∷ [])) (3 ∷ 7 ∷ 8 ∷ []) ≡ 1 ∷ 1 ∷ 2 ∷ []
unfolding compacted next_number last_below some
worked_same_then_next = refl
