-- From the solver for Even on all vertices to what the public solver leaves: the winning sets, and the work area cleared.
use Rattle.std.specs.Prelude.{Bool, true, ◌&&◌, not, List, ◌++◌, ◌≡◌, refl, ℕ, ◌+◌, ◌-◌, ◌*◌, ◌%◌, ◌≤◌, ◌<◌, length, get_or, take, drop, replicate}
use Rattle.std.proofs.Math.Bool.{false}
use Rattle.std.proofs.Common.{inl, inr, sym, ◌∙◌, arith, length-take}
use Rattle.std.proofs.Math.Path.{ap, subst, fun_ext}
use Rattle.std.proofs.Math.Nat.{mul-le-mul_left}
use Rattle.rules.specs.Counting.{Set, without}
use Rattle.rules.specs.Game.{Player, Even, Odd, player_of, everywhere}
use Rattle.rules.specs.Outcome.{Outcome, Verdict, none, refused, outcome, answered}
use Rattle.rules.specs.SecondOpinion.{LentSets, opinion_words, opinion_checks, OpinionLeaves, GivesOpinion}
use Rattle.rules.specs.Tables.{Tables, game_of, vertices, edges_in, words, Accepted}
use Rattle.rules.specs.Winning.{WinningSets}
use Rattle.rules.specs.Words.{Narrow, Holds, set_of, bit}
use Rattle.rules.specs.Zielonka.{won_by}
use Rattle.theory.specs.AttractorComplement.{TotalIn}
use Rattle.basics.specs.Basics.{not_true_is_false, and_left}
use Rattle.theory.specs.Bits.{Bits, narrow_holds}
use Rattle.accepted.specs.Tables.{accepted_total}
use Rattle.theory.specs.Zielonka.{everywhere_below, everywhere_total}
use Rattle.kept_numbers.specs.Reading.{FreshlyCounted, kept_bounds, kept_small}
use Rattle.sets.specs.After.{Combined, other}
use Rattle.sets.specs.Laws.{other_bit}
use Rattle.area.specs.Area.{free, set_at, words_at}
use Rattle.area.specs.Regions.{free_words}
use Rattle.area.specs.Lent.{part_is, part_length}
use Rattle.area.specs.SetsAt.{set_kept, set_copied_here, set_reduced}
use Rattle.solver.specs.Preparing.{Preparable, Prepared}
use Rattle.attractor.specs.Attracted.{listed_kept}
use Rattle.separation.specs.Separates.{Separates, separates_over}
use Rattle.separation.specs.Stages.{separates_asked}
use Rattle.separation.specs.Opinion.{opinion_wins}
use Rattle.quasi_level.specs.Level.{on_level}
use Rattle.quasi_level.specs.Pieces.{sound_edges}
use Rattle.quasi_level.specs.declared.passes.Sharp.{Sharp}
use Rattle.quasi_solvers.specs.Calling.{OpinionCalled, SmallDominions}
use Rattle.quasi_polynomial.specs.Checks.{OpinionPassed}

-- a height for priorities up to `top`, for which W words have room
pub record Height (top high : ℕ) : Type 0 where
  pub above : top < high
  pub least : high ≤ top + 2
  pub odd : high % 2 ≡ 1

-- what `run` asks for: accepted tables with every priority below the height, sets of the right sizes, and W words
pub record OpinionRunnable (t : Tables) (high : ℕ) (even odd work : List ℕ) : Type 0 where
  pub accepted : Accepted t
  pub under : (v : ℕ) → v < vertices t → get_or t.priorities v 0 < high
  pub most : high ≤ 257
  pub turn : high % 2 ≡ 1
  pub even_size : length even ≡ words (vertices t)
  pub odd_size : length odd ≡ words (vertices t)
  pub room : length work ≡ opinion_words (vertices t) (edges_in t)

-- the two sets are the winning sets
pub record Opinion (t : Tables) (evens odds : List ℕ) : Type 0 where
  pub won : Player → Set
  pub wins : WinningSets (game_of t) won
  pub even : Holds (vertices t) (won Even) evens
  pub odd : Holds (vertices t) (won Odd) odds

-- W words have room for the two sets and a level for each height
levels_fit : (n m : ℕ) → free n m + words n + 2064 * words n ≤ opinion_words n m
unfolding opinion_words
levels_fit n m = omega (arith, free_words n m)

module _ {t : Tables} {high : ℕ} {even odd w₀ : List ℕ} (given : OpinionRunnable t high even odd w₀)
    {first : ℕ} (place : first ≡ free (vertices t) (edges_in t))
  where
    abbrev n : ℕ
    n = vertices t

    fits : first + length even + 2064 * length even ≤ length w₀
    fits = omega (arith, place, levels_fit (vertices t) (edges_in t), given.room, given.even_size)

    -- both sets stand in the work area
    pub run_fits : first + length even + length even ≤ length w₀
    run_fits = omega (arith, fits)

    -- what `prepare` asks for
    pub run_preparable : Preparable (vertices t) t.offsets t.targets (length even) first w₀
    run_preparable =
        record {
          edges = sound_edges t given.accepted;
          size = given.even_size;
          low = omega (arith, given.even_size);
          high = omega (arith, fits);
        }

    module _ {second : ℕ} {w₁ w₂ : List ℕ} (behind : second ≡ first + length even)
        (prepared : Prepared (vertices t) t.offsets t.targets first w₀ w₁)
        (copied : Combined other second first (length even) w₁ w₂)
      where
        size : length even ≡ words (vertices t)
        size = given.even_size

        copied' : Combined other second first (words (vertices t)) w₁ w₂
        copied' = rw size at copied

        -- all vertices stand in both sets
        all : (v : ℕ) → on_level t first w₂ v ≡ everywhere (game_of t) v
        unfolding game_of
        all v =
            set_kept (vertices t) first w₁ w₂ (λ i l h. copied'.rest i (inl (omega (arith, size)))) v ∙ prepared.full v

        narrowed : (v : ℕ) → on_level t second w₂ v ≡ everywhere (game_of t) v
        unfolding game_of
        narrowed v = set_copied_here (vertices t) second first w₁ w₂ copied' v ∙ prepared.full v

        -- what the solver for Even asks for
        pub run_called : OpinionCalled t Even second high w₂
        unfolding game_of
        run_called =
            record {
              accepted = given.accepted;
              table =
                  listed_kept (vertices t) t.offsets t.targets w₁ w₂ copied.long
                  (λ i l. copied.rest i (inl (omega arith)))
                  prepared.listed;
              low = omega (arith, size);
              room =
                  let most = given.most in
                  let levels : words (vertices t) * (high + 1) ≤ words (vertices t) * 258 = mul-le-mul_left (words (vertices t)) (omega arith) in
                  omega (arith, fits, copied.long, prepared.long, size);
              below = λ v p. everywhere_below (game_of t) v (sym (narrowed v) ∙ p);
              total =
                  subst (λ (S : Set). TotalIn (game_of t) S) (sym (fun_ext narrowed))
                  (everywhere_total (game_of t) (accepted_total t given.accepted));
              under = λ v p. given.under v (everywhere_below (game_of t) v (sym (narrowed v) ∙ p));
              turn = ap player_of given.turn;
            }

        module _ {w₃ w₄ : List ℕ} {r : Sharp}
            (solved : SmallDominions t Even second (vertices t) (vertices t) w₂ w₃ r)
            (reduced : Combined ◌-◌ first second (length even) w₃ w₄)
          where
            reduced' : Combined ◌-◌ first second (words (vertices t)) w₃ w₄
            reduced' = rw size at reduced

            pub run_long : length w₄ ≡ length w₀
            run_long = reduced.long ∙ solved.stays.long ∙ copied.long ∙ prepared.long

            -- Even's set, and what is left of all vertices without it
            abbrev R : Set
            R = on_level t second w₃

            parts : Separates (game_of t) Even (everywhere (game_of t)) (game_of t).size (game_of t).size R
            unfolding game_of
            parts = separates_over narrowed (λ v. refl) (separates_asked r.keeps r.drops solved.parts)

            evens : (v : ℕ) → set_at (vertices t) second w₄ v ≡ R v
            evens = set_kept (vertices t) second w₃ w₄ (λ i l h. reduced.rest i (inr (omega (arith, size))))

            odds : (v : ℕ) → set_at (vertices t) first w₄ v ≡ without (everywhere (game_of t)) R v
            odds v =
                set_reduced (vertices t) first second w₃ w₄ reduced' v ∙
                ap (λ (x : Bool). x && not (R v))
                (set_kept (vertices t) first w₂ w₃ (λ i l h. solved.stays.lower i (omega (arith, size)) (omega (arith, size))) v ∙ all v)

            -- a set of the work area that has no vertex at n or above, copied out
            holds :
                (at : ℕ) (S : Set) (set : List ℕ) →
                at + length even ≤ length w₄ →
                ((v : ℕ) → set_at (vertices t) at w₄ v ≡ S v) →
                ((v : ℕ) → S v ≡ true → v < vertices t) →
                set ≡ take ((at + length even) - at) (drop at w₄) →
                Narrow set →
                Holds (vertices t) S set
            unfolding set_of
            holds at S set room same below is narrow =
                narrow_holds narrow (rw (is, part_is at (length even) w₄, size) as_bits)
              where
                bare : (v : ℕ) → set_at (vertices t) at w₄ v ≡ false → bit (words_at (vertices t) at w₄) v ≡ 0
                bare v e = other_bit (words_at (vertices t) at w₄) v e

                as_bits : Bits (vertices t) S (words_at (vertices t) at w₄)
                as_bits =
                    record {
                      long = part_length at (words (vertices t)) w₄ (omega (arith, size));
                      bits = λ v l. same v;
                      clear = λ v l. bare v (same v ∙ not_true_is_false (S v) (λ p. let less = below v p in omega arith));
                    }

            -- **What is copied out are the winning sets.**
            pub run_opinion :
                (even' odd' : List ℕ) →
                even' ≡ take ((second + length even) - second) (drop second w₄) →
                odd' ≡ take ((first + length even) - first) (drop first w₄) →
                Narrow even' →
                Narrow odd' →
                Opinion t even' odd'
            unfolding game_of
            run_opinion even' odd' e o even_narrow odd_narrow =
                record {
                  won = won_by Even R (without (everywhere (game_of t)) R);
                  wins = opinion_wins (game_of t) (accepted_total t given.accepted) R parts;
                  even =
                      holds second R even' (omega (arith, fits, run_long)) evens
                      (λ v p. everywhere_below (game_of t) v (parts.inside v p))
                      e even_narrow;
                  odd =
                      holds first (without (everywhere (game_of t)) R) odd' (omega (arith, fits, run_long)) odds
                      (λ v p. everywhere_below (game_of t) v (and_left (everywhere (game_of t) v) _ p))
                      o odd_narrow;
                }

-- ---- the public solver

-- a refusal is given as it is, and nothing is written
leaves_refused : (v : Verdict) (t : Tables) (l : LentSets) → (v ≡ none → ⊥) → OpinionLeaves v t l l
leaves_refused none t l h = absurd (h refl)
leaves_refused (refused k p) t l h = refl

pub opinion_refused :
    (t : Tables) (l : LentSets) (o : Outcome) →
    o ≡ outcome (opinion_checks t l) (answered 0) →
    (o.number ≡ 0 → ⊥) →
    GivesOpinion t l l o
opinion_refused t l o e h =
    record {
      gives = e;
      leaves =
          leaves_refused (opinion_checks t l) t l
          (λ z. h (ap (λ (x : Outcome). x.number) (e ∙ ap (λ (v : Verdict). outcome v (answered 0)) z)));
    }

-- an answer
pub opinion_answered :
    (t : Tables) (before after : LentSets) →
    opinion_checks t before ≡ none →
    Opinion t after.even after.odd →
    after.work ≡
    replicate (opinion_words (vertices t) (edges_in t)) 0 ++ drop (opinion_words (vertices t) (edges_in t)) before.work →
    GivesOpinion t before after (answered 0)
opinion_answered t before after passed o work =
    record {
      gives = rw passed refl;
      leaves = rw passed (record { won = o.won; wins = o.wins; even = o.even; odd = o.odd; work = work });
    }

-- past the checks the first W words are what the run asks for
pub run_ready :
    (t : Tables) (w : ℕ) (even odd work : List ℕ) →
    w ≡ opinion_words (vertices t) (edges_in t) →
    OpinionPassed t (length even) (length odd) (length work) →
    {kept : List ℕ} {high : ℕ} →
    FreshlyCounted t kept →
    Height (get_or kept 257 0) high →
    OpinionRunnable t high even odd (take (w - 0) (drop 0 work))
run_ready t w even odd work is p counted height =
    record {
      accepted = p.accepted;
      under = λ v l. omega (arith, kept_bounds counted v l, height.above);
      most = omega (arith, kept_small counted, height.least);
      turn = height.odd;
      even_size = p.even_size;
      odd_size = p.odd_size;
      room = omega (arith, length-take (w - 0) work, p.work_size);
    }

-- the first W words zero, the words beyond as they were
pub opinion_cleared :
    (k w : ℕ) (work zeros : List ℕ) →
    w ≡ k →
    k ≤ length work →
    zeros ≡ replicate (length (take (w - 0) (drop 0 work))) 0 →
    take 0 work ++ (zeros ++ drop (w - 0) (drop 0 work)) ≡ replicate k 0 ++ drop k work
opinion_cleared k w work zeros is fits e =
    ap (λ (l : List ℕ). l ++ drop (w - 0) work) (e ∙ ap (λ (j : ℕ). replicate j 0) long) ∙
    ap (λ (j : ℕ). replicate k 0 ++ drop j work) whole
  where
    long : length (take (w - 0) work) ≡ k
    long = omega (arith, length-take (w - 0) work)

    whole : w - 0 ≡ k
    whole = omega arith
