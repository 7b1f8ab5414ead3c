-- From what `attract` asks for to what holds where its loop begins: nothing is taken and no entry was met.
use Rattle.std.specs.Prelude.{Bool, true, false, ◌&&◌, ◌||◌, not, List, ◌≡◌, ℕ, ◌+◌, length}
use Rattle.std.proofs.Math.Logic.{inl}
use Rattle.std.proofs.Common.{inr, sym, ◌∙◌, zero-le}
use Rattle.std.proofs.Math.Path.{refl, ap, subst, fun_ext}
use native.Mathlib.Omega.{arith}
use Rattle.rules.specs.Counting.{Set}
use Rattle.rules.specs.Game.{player_of}
use Rattle.rules.specs.Tables.{game_of, words, targets_of}
use Rattle.theory.specs.Steps.{at_first, Takes, stop}
use Rattle.basics.specs.Basics.{clash}
use Rattle.basics.specs.Sums.{count_of}
use Rattle.basics.specs.Frame.{Outside, Unchanged}
use Rattle.area.specs.Area.{entries, layers, layer_words, met_at, free, set_at}
use Rattle.area.specs.Lent.{set_alike, words_few}
use Rattle.area.specs.SetsAt.{set_zeros}
use Rattle.attractor_drawing.specs.Drawn.{Plan, inside, tables_with}
use Rattle.attractor_counters.specs.Counters.{own_of, counts_in, counter_new}
use Rattle.attractor_counters.specs.Tally.{tally_nobody}
use Rattle.attractor_look.specs.State.{State}
use Rattle.attractor_look.specs.Growth.{Mark}
use Rattle.attractor_step.specs.Taking.{Standing, growing}
use Rattle.attractor_step.specs.Layers.{Layered, layered_first}
use Rattle.attractor_look.specs.InArea.{cells, state_in}
use Rattle.attractor_word.specs.Attracted.{listed_kept}
use Rattle.attractor_begin.specs.LayersBegin.{LayersBeginnable, LayersBegun}
use Rattle.attractor_word.specs.Going.{Drawable, now_at, taken_at, fits}
use Rattle.attractor.specs.Running.{Running, SameAreas}

module _ {d : Plan} {s : ℕ} {work : List ℕ} (given : Drawable d work) (size : s ≡ words (length d.owners))
    {first : ℕ} (place : first ≡ layers (length d.owners) (length d.targets))
  where
    abbrev n : ℕ
    n = length d.owners

    abbrev m : ℕ
    m = length d.targets

    abbrev own : Set
    own = own_of d

    pub begin_ready : LayersBeginnable first d.set s work
    begin_ready =
        record {
          few = rw size (words_few n given.edges.few_vertices);
          before_set = omega (arith, size, place, given.placed.set_low);
          high = omega (arith, size, place, given.placed.set_high);
        }

    module _ {after : List ℕ} (begun' : LayersBegun first d.set s work after) where
      begun : LayersBegun (layers n m) d.set (words n) work after
      begun =
          subst (λ (k : ℕ). LayersBegun (layers n m) d.set k work after) size
          (subst (λ (k : ℕ). LayersBegun k d.set s work after) place begun')

      abbrev second : ℕ
      second = layers n m + words n + 1

      -- what stands before the layers and in the free part is as it was
      same : Unchanged (Outside (layers n m) (free n m)) work after
      same i (inl l) = begun.rest i (inl l)
      same i (inr l) = begun.rest i (inr (omega arith))

      all_long : length after ≡ length work
      all_long = begun.long

      abbrev V' : Set
      V' = inside d after

      abbrev T : Set
      T = set_at n d.set after

      abbrev state : State
      state = state_in d after second after

      -- V, the target, the entries and all that is to stay are as they were
      inside_same : V' ≡ inside d work
      inside_same =
          set_alike n d.within work after all_long
          (λ i l. same (d.within + i) (inr (omega (arith, given.placed.within_low))))

      target_same : T ≡ set_at n d.set work
      target_same =
          set_alike n d.set work after all_long (λ i l. same (d.set + i) (inr (omega (arith, given.placed.set_low))))

      pub started_same : SameAreas n m d.within d.set work after
      started_same =
          record {
            long = all_long;
            inside = inside_same;
            target = target_same;
            entry = λ v l. same (entries n m + v) (inl (omega arith));
            table = λ i l. same i (inl (omega arith));
            rest = λ i l. same i (inr l);
          }

      -- what is asked for holds where the loop begins
      pub started_given : Drawable d after
      started_given =
          record {
            placed =
                record {
                  within_low = given.placed.within_low;
                  within_high = omega (arith, all_long, given.placed.within_high);
                  set_low = given.placed.set_low;
                  set_high = omega (arith, all_long, given.placed.set_high);
                  apart = given.placed.apart;
                };
            nested =
                record {
                  below = λ v p. given.nested.below v (ap (λ (S : Set). S v) (sym inside_same) ∙ p);
                  part =
                      λ v p.
                      ap (λ (S : Set). S v) inside_same ∙ given.nested.part v (ap (λ (S : Set). S v) (sym target_same) ∙ p);
                };
            edges = given.edges;
            listed = listed_kept n d.offsets d.targets work after all_long (λ i l. same i (inl (omega arith))) given.listed;
            side = given.side;
          }

      now_is : now_at n (layers n m) after ≡ T
      now_is =
          begun.is ∙ sym target_same

      none : (u : ℕ) → state.next u ≡ false
      none u = begun.next_none u

      untaken : taken_at n d.set (layers n m) second after ≡ (λ u. false)
      untaken =
          fun_ext
          (λ u.
          ap (λ (d : Bool). T u && not (d || state.next u)) (ap (λ (S : Set). S u) now_is) ∙
          neither_way (T u) (state.next u))
        where
          neither_way : (b d : Bool) → (b && not (b || d)) ≡ false
          neither_way true d = refl
          neither_way false d = refl

      none_met : (u : ℕ) → set_at n (met_at n m) after u ≡ false
      none_met =
          set_zeros n (met_at n m) after
          (λ i low high. begun.unmet i (omega arith) (omega arith))

      counter_at : (u : ℕ) → V' u ≡ true → state.counter u ≡ count_of (targets_of d.offsets d.targets u) V'
      counter_at u i =
          counter_new (counts_in d after) n m after u (started_given.nested.below u i) (none_met u)

      mark_first :
          (u : ℕ) →
          Mark (V' u) (T u) (own u) (count_of (targets_of d.offsets d.targets u) V') (state.members u) (state.counter u)
          (count_of (targets_of d.offsets d.targets u) (λ v. false))
      mark_first u =
          let unseen = tally_nobody (targets_of d.offsets d.targets u) in
          record {
            member_inside = λ p. started_given.nested.part u p;
            target_in = λ p. p;
            own_out = λ i o p. unseen;
            other_out = λ i o p. let h = counter_at u i in omega arith;
            waiting = λ i o p q. absurd (omega arith);
            in_met = λ p t. absurd (clash p t);
            other_in = λ p t o. absurd (clash p t);
          }

      first_stands : Standing n (targets_of d.offsets d.targets) V' T own (λ u. false) state
      first_stands = record { marks = mark_first; early = λ u p. absurd (clash p refl) }

      begins : Running d after (layers n m) second 1 0 after
      unfolding at_first game_of
      begins =
          record {
            going =
                record {
                  long = refl;
                  table = λ i l. refl;
                  rest = λ i l o. refl;
                  sides = inl (refl, second_is);
                  layer = begun.layer;
                  next_layer = begun.next_layer;
                  parts =
                      record {
                        inside = λ u p. ap (λ (S : Set). S u) (sym now_is) ∙ p;
                        found = λ u p. absurd (clash p (none u));
                        apart = λ u p. none u;
                      };
                  stands =
                      subst (λ (S : Set). Standing n (targets_of d.offsets d.targets) V' T own S state) (sym untaken) first_stands;
                  few = zero-le;
                  far_some = omega arith;
                  run =
                      λ priorities ok.
                      let g = game_of (tables_with d priorities) in
                      let a = player_of d.alpha in (
                        subst
                            (λ (X : Set). Takes g a V' (at_first T) (growing X 0 state))
                            (sym untaken)
                            stop,
                        subst
                            (λ (N : Set). Layered g a V' T own (cells n (entries n m) after) 0 N state)
                            (sym now_is)
                            (layered_first g a V' T own
                            (fits started_given priorities ok)
                            (cells n (entries n m) after) state refl none refl),
                      );
                };
            deep = omega arith;
            next_none = none;
          }
        where
          second_is : second ≡ layers n m + layer_words n
          second_is = omega arith

      -- **the loop begins**
      pub started : Running d after first (first + s + 1) 1 0 after
      started =
          subst (λ (k : ℕ). Running d after k (k + s + 1) 1 0 after) (sym place)
          (subst (λ (k : ℕ). Running d after (layers n m) (layers n m + k + 1) 1 0 after) (sym size) begins)
