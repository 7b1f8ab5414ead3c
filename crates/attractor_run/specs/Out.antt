-- What `hand_out` writes: the words of the result, and of them and the attractor's words the strategy and the distances.
use Rattle.std.specs.Prelude.{true, List, ◌≡◌, ℕ, ◌+◌, ◌-◌, ◌<◌, length, take, drop}
use Rattle.std.proofs.Common.{ap, subst, ◌∙◌, arith}
use Rattle.rules.specs.Counting.{listed}
use Rattle.rules.specs.Words.{set_of, Narrow}
use Rattle.area.specs.Area.{distances, entries}
use Rattle.area.specs.Lent.{part_is, part_length}
use Rattle.attractor_outputs.specs.Outputs.{word_of, drawn_in, chosen, measure, Seen, EntriesWritable, Measurable}
use Rattle.attractor_run.specs.Work.{found, Handing, Handed}

module _ (owners : List ℕ) (m alpha : ℕ) (target work : List ℕ) (set : ℕ) (result strategy far : List ℕ)
    (given : Handing owners m alpha target work set result strategy far)
  where
    abbrev n : ℕ
    n = length owners

    abbrev s : ℕ
    s = length target

    -- the result was copied
    module _ (out : List ℕ) (is-out : out ≡ take ((set + s) - set) (drop set work)) where
      out_is : out ≡ found target work set
      out_is = is-out ∙ part_is set s work

      out_long : length out ≡ s
      out_long = ap length out_is ∙ part_length set s work given.high

      seen : (base v : ℕ) → v < n → base + v < length work → Seen target out work base v
      seen base v l h = record { high = h; target_bits = given.bits v l; result_bits = rw out_long (given.bits v l) }

      pub enter_ready : {row : ℕ} → row ≡ entries n m → EntriesWritable owners alpha target out work row strategy
      enter_ready {row} at =
          record {
            each = given.strategy_size;
            entered =
                λ v l.
                record {
                  small = l;
                  seen = seen row v l (omega (arith, at, given.low));
                  narrow =
                      λ p.
                      rw at
                      (given.entries_narrow v l (subst (λ (x : List ℕ). drawn_in owners alpha target x v ≡ true) out_is p));
                };
          }

      pub measure_ready : {row : ℕ} → row ≡ distances n m → Measurable (length far) target out work row
      measure_ready {row} at v h =
          let l : v < n = omega (arith, given.distances_size) in
          record {
            seen = seen row v l (omega (arith, at, given.low));
            narrow = λ p q. rw at (given.distances_narrow v l (subst (λ (x : List ℕ). set_of x v ≡ true) out_is p) q);
          }

      pub handed :
          {row row' : ℕ} → row ≡ entries n m → row' ≡ distances n m →
          (strategy' far' : List ℕ) →
          Narrow out →
          strategy' ≡ listed n (chosen owners alpha target out (word_of work row)) →
          far' ≡ listed (length far) (measure target out (word_of work row')) →
          Handed owners m alpha target work set out strategy' far'
      handed at at' strategy' far' narrow is-strategy is-far =
          record {
            result_is = out_is;
            strategy_is =
                is-strategy ∙
                ap (λ (k : ℕ). listed n (chosen owners alpha target out (word_of work k))) at ∙
                ap (λ (x : List ℕ). listed n (chosen owners alpha target x (word_of work (entries n m)))) out_is;
            distances_is =
                is-far ∙
                ap (λ (k : ℕ). listed (length far) (measure target out (word_of work k))) at' ∙
                ap (λ (k : ℕ). listed k (measure target out (word_of work (distances n m)))) given.distances_size ∙
                ap (λ (x : List ℕ). listed n (measure target x (word_of work (distances n m)))) out_is;
            narrow = narrow;
          }
