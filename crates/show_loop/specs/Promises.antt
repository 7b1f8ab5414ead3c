-- What a reader may conclude of `show_loop`, from its contract alone: past the checks it answers exactly where the one owner
-- wins the vertex by demand 2, and gives 46 exactly where there is no run; and two results that meet the contract differ in the
-- run alone.
use Rattle.std.specs.Prelude.{true, false, List, ◌≡◌, ℕ, length}
use Rattle.std.proofs.Common.{⊎_elim, sym, ap, ◌∙◌, arith}
use Rattle.rules.specs.Game.{opponent}
use Rattle.rules.specs.Loop.{Run, LentRun, loop_checks, check46, LoopShown, LoopLeaves, ShowsLoop}
use Rattle.rules.specs.Outcome.{Outcome, Verdict, none, refused}
use Rattle.rules.specs.Solitaire.{solitaire, sole_owner}
use Rattle.rules.specs.Solver.{cleared}
use Rattle.rules.specs.Tables.{Tables, game_of}
use Rattle.rules.specs.Winning.{Wins}
use Rattle.basics.specs.Basics.{bool_cases, clash}
use Rattle.theory.specs.Loop.{run_solitaire, solitaire_run}
use Rattle.theory.specs.Solitaire.{accepted_one_owner, solitaire_wins, wins_solitaire, solitaire_rest}
use Rattle.accepted.specs.Tables.{accepted_total}
use Rattle.parity_game.specs.Said.{refusal}
use Rattle.show_loop.specs.Checks.{LoopPassed, checks_passed}
use Rattle.show_loop.specs.Running.{lent_of}

-- what 46 leaves
abbrev pub NoLoop : Tables → ℕ → LentRun → LentRun → Outcome → Type 0
NoLoop t v before after o =
    (o ≡ refusal 46 v) × (after ≡ lent_of before.path before.cycle (cleared t before.work) 0)

module _ (t : Tables) (v : ℕ) (before after : LentRun) (o : Outcome) (p : ShowsLoop t v before after o)
    (ok : loop_checks t v before ≡ none) where
  passed : LoopPassed t v (length before.path) (length before.cycle) (length before.work)
  passed = checks_passed t v (length before.path) (length before.cycle) (length before.work) ok

  -- **Past the checks there is a run in the lists, or 46, by whether the vertex is in the solitaire set.**
  pub shown : solitaire (game_of t) (sole_owner t) v ≡ true → LoopShown t v before after o
  unfolding check46
  shown q = rw (ok, q) at p

  pub not_shown : solitaire (game_of t) (sole_owner t) v ≡ false → NoLoop t v before after o
  unfolding check46
  not_shown q = rw (ok, q) at p

  zero_in : o.number ≡ 0 → solitaire (game_of t) (sole_owner t) v ≡ true
  zero_in z =
      ⊎_elim
      (λ q. q)
      (λ q. let number = ap (λ (x : Outcome). x.number) (not_shown q).0 in absurd (omega arith))
      (bool_cases (solitaire (game_of t) (sole_owner t) v))

  other_out : o.number ≡ 46 → solitaire (game_of t) (sole_owner t) v ≡ false
  other_out z =
      ⊎_elim
      (λ q. let number = ap (λ (x : Outcome). x.number) (shown q).gives in absurd (omega arith))
      (λ q. q)
      (bool_cases (solitaire (game_of t) (sole_owner t) v))

  -- **46 is given exactly where there is no run.**
  pub no_run : o.number ≡ 46 → (path cycle : List ℕ) → Run (game_of t) (sole_owner t) v path cycle → ⊥
  no_run z path cycle run =
      clash (run_solitaire (game_of t) (accepted_total t passed.accepted) (sole_owner t) v run) (other_out z)

  pub without_run : ((path cycle : List ℕ) → Run (game_of t) (sole_owner t) v path cycle → ⊥) → o ≡ refusal 46 v
  without_run none_there =
      ⊎_elim
      (λ q. let (path, cycle, run) = solitaire_run (game_of t) (sole_owner t) v q in absurd (none_there path cycle run))
      (λ q. (not_shown q).0)
      (bool_cases (solitaire (game_of t) (sole_owner t) v))

  -- **A run is shown exactly where the owner wins the vertex, by demand 2**; the opponent wins it with 46.
  pub shown_wins : o.number ≡ 0 → Wins (game_of t) (sole_owner t) v
  shown_wins z =
      solitaire_wins (game_of t) (accepted_total t passed.accepted) (sole_owner t)
      (accepted_one_owner t passed.one_owner) v (zero_in z)

  pub wins_shown : Wins (game_of t) (sole_owner t) v → LoopShown t v before after o
  unfolding game_of
  wins_shown w =
      shown
      (wins_solitaire (game_of t) (accepted_total t passed.accepted) (sole_owner t) (accepted_one_owner t passed.one_owner) v
      passed.vertex w)

  pub not_shown_loses : o.number ≡ 46 → Wins (game_of t) (opponent (sole_owner t)) v
  unfolding game_of
  not_shown_loses z =
      solitaire_rest (game_of t) (accepted_total t passed.accepted) (sole_owner t)
      (accepted_one_owner t passed.one_owner) v passed.vertex
      (other_out z)

-- ---- two results that meet the contract

-- the run is free: any two results agree in number, place and work area, and in all else where there is none
pub record Agree (after after' : LentRun) (o o' : Outcome) : Type 0 where
  pub number : o.number ≡ o'.number
  pub place : o.place ≡ o'.place
  pub work : after.work ≡ after'.work
  pub refused_same : (o.number ≡ 0 → ⊥) → (after ≡ after') × (o ≡ o')

agree_same : {after after' : LentRun} {o o' : Outcome} → after ≡ after' → o ≡ o' → Agree after after' o o'
agree_same a e =
    record {
      number = ap (λ (x : Outcome). x.number) e;
      place = ap (λ (x : Outcome). x.place) e;
      work = ap (λ (l : LentRun). l.work) a;
      refused_same = λ h. (a, e);
    }

same_by :
    (w last : Verdict) (t : Tables) (v : ℕ) (before after after' : LentRun) (o o' : Outcome) →
    LoopLeaves w last t v before after o →
    LoopLeaves w last t v before after' o' →
    Agree after after' o o'
same_by (refused k p) last t v before after after' o o' l l' = agree_same (l.1 ∙ sym l'.1) (l.0 ∙ sym l'.0)
same_by none (refused k p) t v before after after' o o' l l' = agree_same (l.1 ∙ sym l'.1) (l.0 ∙ sym l'.0)
same_by none none t v before after after' o o' l l' =
    record {
      number = ap (λ (x : Outcome). x.number) l.gives ∙ sym (ap (λ (x : Outcome). x.number) l'.gives);
      place = ap (λ (x : Outcome). x.place) l.gives ∙ sym (ap (λ (x : Outcome). x.place) l'.gives);
      work = l.work ∙ sym l'.work;
      refused_same = λ h. absurd (h (ap (λ (x : Outcome). x.number) l.gives));
    }

-- **Any two results that meet the contract are the same, but for the run.**
pub loop_one_outcome :
    (t : Tables) (v : ℕ) (before after after' : LentRun) (o o' : Outcome) →
    ShowsLoop t v before after o →
    ShowsLoop t v before after' o' →
    Agree after after' o o'
loop_one_outcome t v before after after' o o' p p' =
    same_by (loop_checks t v before) (check46 t v) t v before after after' o o' p p'
