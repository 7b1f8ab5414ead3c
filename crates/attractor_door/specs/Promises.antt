-- What a reader may conclude of the public attractor from its contract alone: past the checks its result is the attractor, the
-- smallest set, with the rule's looks, distances and entries; and any two results are the same.
use mathlib.Core.List.{List}
use Rattle.std.proofs.Common.{⊎_elim, ap, subst, ◌∙◌, arith}
use Rattle.std.specs.Prelude.{◌≡◌, eqb}
use Rattle.std.proofs.Math.Path.{sym, subst₂, fun_ext}
use Prim.Native.Nat.{ℕ, ◌≤◌, ◌<◌}
use Rattle.std.proofs.Math.ListN.{get_or, get_or-eq_default}
use Rattle.rules.specs.Attracts.{LentResult, attractor_checks, wanted, AttractorAnswered, AttractorLeaves, Attracts}
use Rattle.rules.specs.Attractor.{IsAttractor, looks_of}
use Rattle.theory.specs.Arriving.{AttractorEntries}
use Rattle.rules.specs.Counting.{Set, listed}
use Rattle.rules.specs.Distance.{outside, distance, IsDistance}
use Rattle.rules.specs.Game.{Player, Game}
use Rattle.rules.specs.Outcome.{Outcome, Verdict, none, refused, outcome, answered}
use Rattle.rules.specs.Tables.{Tables, game_of, vertices}
use Rattle.rules.specs.Words.{set_of}
use Rattle.theory.specs.Attractor.{Fits, attractor_below, attractor_is}
use Rattle.basics.specs.Basics.{lt_or_ge, not_true_is_false, get_or_listed, length_listed}
use Rattle.theory.specs.Distance.{distance_is}
use Rattle.theory.specs.DistanceEntries.{entries_arrive}
use Rattle.basics.specs.Basics.{noted_above}
use Rattle.parity_game.specs.Laws.{accepted_sound}
use Rattle.sets.specs.Same.{holds_same}
use Rattle.attractor_door.specs.Answered.{checks_passed}
use Rattle.attractor_checks.specs.DoorLaws.{within_below, target_part}

-- no vertex at n or above has another distance than 65,535
distance_above : (g : Game) (a : Player) (V' T : Set) (v : ℕ) → g.size ≤ v → distance g a V' T v ≡ outside
unfolding distance
distance_above g a V' T v l = noted_above outside g.size _ v l

-- the table of distances, read with 65,535 past its end, is the distance
distance_listed :
    (g : Game) (a : Player) (V' T : Set) (v : ℕ) →
    get_or (listed g.size (distance g a V' T)) v outside ≡ distance g a V' T v
distance_listed g a V' T v =
    ⊎_elim
    (λ (l : v < g.size). get_or_listed g.size (distance g a V' T) v outside l)
    (λ (l : g.size ≤ v). past l)
    (lt_or_ge v g.size)
  where
    past : g.size ≤ v → get_or (listed g.size (distance g a V' T)) v outside ≡ distance g a V' T v
    past l =
        get_or-eq_default (listed g.size (distance g a V' T)) outside (rw (length_listed g.size (distance g a V' T)) l) ∙
        sym (distance_above g a V' T v l)

-- the rule's set is the set of the result
answers_set :
    {t : Tables} {a : Player} {V' T : List ℕ} {before after : LentResult} →
    AttractorAnswered t a V' T before after →
    (v : ℕ) →
    wanted t a V' T v ≡ set_of after.result v
unfolding game_of set_of
answers_set {t} {a} {V'} {T} {after = after} r v =
    ⊎_elim
    (λ l. sym (r.set.bits v l))
    (λ l.
    not_true_is_false (wanted t a V' T v) (λ w. let below = attractor_below (game_of t) a (set_of V') (set_of T) v w in omega arith) ∙
    sym (ap (λ (b : ℕ). eqb b 1) (r.set.clear v l)))
    (lt_or_ge v (vertices t))

module _ {t : Tables} {a : Player} {V' T : List ℕ} {before after : LentResult} {o : Outcome} (p : Attracts t a V' T before after o) where
  -- **Past the checks the count is the rule's looks, and the result and the entries are the rule's.**
  pub attractor_answers :
      attractor_checks t V' T before ≡ none →
      (o ≡ answered (looks_of (game_of t) (wanted t a V' T))) × AttractorAnswered t a V' T before after
  attractor_answers passed = (
    p.gives ∙ ap (λ (v : Verdict). outcome v (answered (looks_of (game_of t) (wanted t a V' T)))) passed,
    rw passed at p.leaves,
  )

  -- what the theorems about distances ask for
  checked :
      attractor_checks t V' T before ≡ none → Fits (game_of t) (set_of V') (set_of T) × ((game_of t).size ≤ 65535)
  unfolding game_of
  checked passed =
      let checked = checks_passed t V' T _ _ _ _ passed in
      let sizes = checked.sizes in (
        record {
          part = target_part (vertices t) V' T sizes.within_size sizes.target_size checked.bits;
          below = within_below (vertices t) V' T sizes.within_size sizes.target_size checked.bits;
        },
        omega (arith, (accepted_sound t checked.accepted).few_vertices),
      )

  -- **The result is the attractor of T in V, the smallest set,**
  pub attractor_smallest :
      attractor_checks t V' T before ≡ none → IsAttractor (game_of t) a (set_of V') (set_of T) (set_of after.result)
  attractor_smallest passed =
      subst
      (λ (S : Set). IsAttractor (game_of t) a (set_of V') (set_of T) S)
      (fun_ext (answers_set (attractor_answers passed).1))
      (attractor_is (game_of t) a (set_of V') (set_of T) (checked passed).0)

  -- **the distances are A4's for that result,**
  pub attractor_distances :
      attractor_checks t V' T before ≡ none →
      IsDistance (game_of t) a (set_of V') (set_of T) (set_of after.result) (λ v. get_or after.distances v outside)
  unfolding game_of
  attractor_distances passed =
      let (fits, few) = checked passed in
      subst₂
      (λ (S : Set) (d : ℕ → ℕ). IsDistance (game_of t) a (set_of V') (set_of T) S d)
      (fun_ext (answers_set (attractor_answers passed).1))
      (fun_ext read)
      (distance_is (game_of t) a (set_of V') (set_of T) fits few)
    where
      read : (v : ℕ) → distance (game_of t) a (set_of V') (set_of T) v ≡ get_or after.distances v outside
      read v =
          sym (distance_listed (game_of t) a (set_of V') (set_of T) v) ∙
          sym (ap (λ (l : List ℕ). get_or l v outside) (attractor_answers passed).1.distances)

  -- **and the entries are the rule's: along them no walk of n steps in the result avoids T.**
  pub attractor_entries :
      attractor_checks t V' T before ≡ none →
      AttractorEntries (game_of t) a (set_of V') (set_of T) (set_of after.result) after.strategy
  unfolding game_of
  attractor_entries passed =
      let (fits, few) = checked passed in
      subst₂
      (λ (S : Set) (l : List ℕ). AttractorEntries (game_of t) a (set_of V') (set_of T) S l)
      (fun_ext (answers_set (attractor_answers passed).1))
      (sym (attractor_answers passed).1.strategy)
      (entries_arrive (game_of t) a (set_of V') (set_of T) fits few)

-- ---- two results that meet the contract

same_by :
    (v : Verdict) (t : Tables) (a : Player) (V' T : List ℕ) (before after after' : LentResult) →
    AttractorLeaves v t a V' T before after →
    AttractorLeaves v t a V' T before after' →
    after ≡ after'
same_by (refused k q) t a V' T before after after' l l' = l ∙ sym l'
same_by none t a V' T before after after' l l' =
    lent
    (holds_same after.result after'.result l.set l'.set)
    (l.strategy ∙ sym l'.strategy)
    (l.distances ∙ sym l'.distances)
    (l.work ∙ sym l'.work)
  where
    lent :
        {r r' s s' d d' w w' : List ℕ} →
        r ≡ r' → s ≡ s' → d ≡ d' → w ≡ w' →
        ◌≡◌ {A = LentResult} (record { result = r; strategy = s; distances = d; work = w })
        (record { result = r'; strategy = s'; distances = d'; work = w' })
    lent e f g h = cc

-- **Any two results that meet the contract are the same.**
pub attractor_one_result :
    {t : Tables} {a : Player} {V' T : List ℕ} {before after after' : LentResult} {o o' : Outcome} →
    Attracts t a V' T before after o →
    Attracts t a V' T before after' o' →
    (after ≡ after') × (o ≡ o')
attractor_one_result {t} {a} {V'} {T} {before} {after} {after'} p p' = (
  same_by (attractor_checks t V' T before) t a V' T before after after' p.leaves p'.leaves,
  p.gives ∙ sym p'.gives,
)
