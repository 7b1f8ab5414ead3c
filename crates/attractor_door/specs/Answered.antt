-- From the verdict of the checks to what the public attractor promises: a refusal leaves everything, and past the checks all that the
-- work asks for is there.
use Rattle.std.specs.Prelude.{Result, Err, List, [], ◌∷◌, ◌≡◌, refl, ℕ, ◌+◌, ◌-◌, ◌≤◌, length, take, drop}
use Rattle.std.proofs.Common.{sym, ap, subst, ◌∙◌, arith, length-take}
use Rattle.rules.specs.Game.{Player}
use Rattle.rules.specs.Outcome.{Outcome, Verdict, none, refused, outcome, answered, ◌then◌}
use Rattle.rules.specs.Tables.{Tables, game_of, vertices, edges_in, words, work_words, table_checks, Accepted, check9, check10}
use Rattle.rules.specs.Attractor.{check12, looks_of}
use Rattle.parity_game.specs.Laws.{then_none, then_assoc, Numbered, numbered_then, numbered_given_at, numbered_tables, numbered_check9, numbered_check10}
use Rattle.parity_game.specs.Laws.{check9_set, check9_set_none, check9_table, check9_table_none, check10_none}
use Rattle.parity_game.specs.declared.refusal.Refusal.{Refusal}
use Rattle.parity_game.specs.Said.{said, verdict}
use Rattle.parity_game.specs.Laws.{refused_outcome}
use Rattle.area.specs.Area.{free}
use Rattle.area.specs.Regions.{free_words}
use Rattle.rules.specs.Solver.{cleared}
use Rattle.rules.specs.Attracts.{LentResult, attractor_checks, wanted, AttractorLeaves, Attracts}
use Rattle.attractor_run.specs.Work.{AttractorRunnable, AttractorRan}
use Rattle.attractor_checks.specs.Door.{size_checks, lent_checks, checks_by}
use Rattle.attractor_checks.specs.DoorLaws.{within_below, target_part}

pub numbered_checks : (t : Tables) (V' T : List ℕ) (l : LentResult) → Numbered (attractor_checks t V' T l)
unfolding check12
numbered_checks t V' T l =
    numbered_then (table_checks t) _ (numbered_tables t)
    (numbered_then (check9 (vertices t) _ _) _ (numbered_check9 _ _ _)
    (numbered_then (check10 (vertices t) (edges_in t) _) (check12 (vertices t) V' T) (numbered_check10 _ _ _) (numbered_given_at 12 _ _ (omega arith))))

-- of accepted tables they are 9, 10 and 12
pub accepted_checks :
    (t : Tables) (V' T : List ℕ) (result strategy distances work : ℕ) →
    Accepted t →
    lent_checks (vertices t) (edges_in t) V' T result strategy distances work ≡ checks_by t V' T result strategy distances work
unfolding Accepted
accepted_checks t V' T result strategy distances work ok = rw ok

-- a refusal is given as it is, and nothing is written
leaves_refused : (v : Verdict) (t : Tables) (a : Player) (V' T : List ℕ) (l : LentResult) → (v ≡ none → ⊥) → AttractorLeaves v t a V' T l l
leaves_refused none t a V' T l h = absurd (h refl)
leaves_refused (refused k p) t a V' T l h = refl

gives_refused : (v : Verdict) (o q : Outcome) → (v ≡ none → ⊥) → outcome v o ≡ outcome v q
gives_refused none o q h = absurd (h refl)
gives_refused (refused k p) o q h = refl

pub attracts_refused :
    (t : Tables) (a : Player) (V' T : List ℕ) (l : LentResult) (o : Outcome) →
    o ≡ outcome (attractor_checks t V' T l) (answered 0) →
    (o.number ≡ 0 → ⊥) →
    Attracts t a V' T l l o
attracts_refused t a V' T l o e h =
    record {
      gives = e ∙ gives_refused (attractor_checks t V' T l) (answered 0) (answered (looks_of (game_of t) (wanted t a V' T))) refuses;
      leaves = leaves_refused (attractor_checks t V' T l) t a V' T l refuses;
    }
  where
    refuses : attractor_checks t V' T l ≡ none → ⊥
    refuses z = h (ap (λ (x : Outcome). x.number) (e ∙ ap (λ (v : Verdict). outcome v (answered 0)) z))

-- the same of what the checks refused
pub attracts_stopped :
    {t : Tables} {a : Player} {V' T : List ℕ} {l : LentResult} (x : Result ℕ Refusal) (f : Refusal) →
    x ≡ Err f →
    verdict (Err f) ≡ attractor_checks t V' T l →
    Attracts t a V' T l l (said x)
attracts_stopped {t} {a} {V'} {T} {l} x f gave was =
    rw gave (record {
      gives = refused_outcome f (attractor_checks t V' T l) (answered (looks_of (game_of t) (wanted t a V' T))) was;
      leaves = subst (λ (v : Verdict). AttractorLeaves v t a V' T l l) was refl;
    })

-- an answer
pub attracts_answered :
    (t : Tables) (a : Player) (V' T : List ℕ) (before after : LentResult) (looks : ℕ) →
    attractor_checks t V' T before ≡ none →
    AttractorRan t a V' T after.result after.strategy after.distances looks →
    after.work ≡ cleared t before.work →
    Attracts t a V' T before after (answered looks)
attracts_answered t a V' T before after looks passed ran work =
    record {
      gives =
          ap answered ran.met ∙
          ap (λ (v : Verdict). outcome v (answered (looks_of (game_of t) (wanted t a V' T)))) (sym passed);
      leaves =
          subst
          (λ (v : Verdict). AttractorLeaves v t a V' T before after)
          (sym passed)
          (record { set = ran.set; strategy = ran.entries; distances = ran.far; work = work });
    }

-- ---- past the checks

-- check 9 of one set
abbrev one_set : ℕ → ℕ → Verdict
one_set n k = check9 n (k ∷ []) []

-- check 9 of one table
abbrev one_table : ℕ → ℕ → Verdict
one_table n k = check9 n [] (k ∷ [])

-- what the sizes say
pub record Sizes (n m within target result strategy distances work : ℕ) : Type 0 where
  pub within_size : within ≡ words n
  pub target_size : target ≡ words n
  pub result_size : result ≡ words n
  pub strategy_size : strategy ≡ n
  pub distances_size : distances ≡ n
  pub work_size : work_words n m ≤ work

pub sizes_right :
    (n m within target result strategy distances work : ℕ) →
    size_checks n m within target result strategy distances work ≡ none →
    Sizes n m within target result strategy distances work
sizes_right n m within target result strategy distances work e =
    let tables : List ℕ = strategy ∷ distances ∷ [] in
    let both = then_none (check9 n (within ∷ target ∷ result ∷ []) tables) (check10 n m work) e in
    let first = then_none (one_set n within) _ (sym (check9_set n within (target ∷ result ∷ []) tables) ∙ both.0) in
    let second = then_none (one_set n target) _ (sym (check9_set n target (result ∷ []) tables) ∙ first.1) in
    let third = then_none (one_set n result) _ (sym (check9_set n result [] tables) ∙ second.1) in
    let fourth = then_none (one_table n strategy) (one_table n distances) (sym (check9_table n strategy (distances ∷ [])) ∙ third.1) in
    record {
      within_size = check9_set_none n within first.0;
      target_size = check9_set_none n target second.0;
      result_size = check9_set_none n result third.0;
      strategy_size = check9_table_none n strategy fourth.0;
      distances_size = check9_table_none n distances fourth.1;
      work_size = check10_none n m work both.1;
    }

-- all that the checks say
pub record AttractorPassed (t : Tables) (V' T : List ℕ) (result strategy distances work : ℕ) : Type 0 where
  pub accepted : Accepted t
  pub sizes : Sizes (vertices t) (edges_in t) (length V') (length T) result strategy distances work
  pub bits : check12 (vertices t) V' T ≡ none

pub checks_passed :
    (t : Tables) (V' T : List ℕ) (result strategy distances work : ℕ) →
    checks_by t V' T result strategy distances work ≡ none →
    AttractorPassed t V' T result strategy distances work
unfolding Accepted
checks_passed t V' T result strategy distances work e =
    let n = vertices t in
    let nine = check9 n (length V' ∷ length T ∷ result ∷ []) (strategy ∷ distances ∷ []) in
    let ten = check10 n (edges_in t) work in
    let twelve = check12 n V' T in
    let first = then_none (table_checks t) (nine then (ten then twelve)) e in
    let second = then_none (nine then ten) twelve (then_assoc nine ten twelve ∙ first.1) in
    record {
      accepted = first.0;
      sizes = sizes_right n (edges_in t) (length V') (length T) result strategy distances work second.0;
      bits = second.1;
    }

-- W words have room for the predecessor table, the counters, the distances, the entries, the layers, those met and two sets
work_room : (n m : ℕ) → free n m + words n + words n ≤ work_words n m
work_room n m = omega (arith, free_words n m)

pub run_ready :
    (t : Tables) (alpha w : ℕ) (V' T result strategy distances work : List ℕ) →
    alpha ≤ 1 →
    w ≡ work_words (vertices t) (edges_in t) →
    AttractorPassed t V' T (length result) (length strategy) (length distances) (length work) →
    AttractorRunnable t.owners t.offsets t.targets alpha V' T result strategy distances (take (w - 0) (drop 0 work))
run_ready t alpha w V' T result strategy distances work side is p =
    record {
      priorities = t.priorities;
      accepted = p.accepted;
      side = side;
      within_size = p.sizes.within_size;
      target_size = p.sizes.target_size;
      result_size = p.sizes.result_size;
      strategy_size = p.sizes.strategy_size;
      distances_size = p.sizes.distances_size;
      room = omega (arith, length-take (w - 0) work, p.sizes.work_size, work_room (vertices t) (edges_in t));
      below = within_below (vertices t) V' T p.sizes.within_size p.sizes.target_size p.bits;
      part = target_part (vertices t) V' T p.sizes.within_size p.sizes.target_size p.bits;
    }
