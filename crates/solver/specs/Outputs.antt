-- What stands in the work area when a solver has ended, how it is written out, and that this is what the rules ask for.
use Rattle.std.specs.Prelude.{Bool, false, ◌≡◌, eqb, length, get_or, take, drop}
use Rattle.std.proofs.Math.Bool.{true, cond}
use mathlib.Core.List.{List, [], ◌∷◌}
use Rattle.std.proofs.Math.Path.{refl, ap}
use Rattle.std.proofs.Common.{sym, ap₂, subst, ◌∙◌, not-suc-le-zero, le_of_suc-le-suc, arith, get_or-take, get_or-drop}
use Prim.Native.Nat.{ℕ, zero, suc, ◌+◌, ◌-◌, ◌≤◌, ◌<◌}
use Rattle.std.proofs.Math.Dec.{eqb-suc-zero}
use Rattle.rules.specs.Counting.{Set, listed}
use Rattle.rules.specs.Game.{Player, Even, Odd, player_of}
use Rattle.rules.specs.Tables.{Tables, game_of, vertices, edges_in, words, Accepted}
use Rattle.rules.specs.Winning.{WinningSets, WinningEntries}
use Rattle.rules.specs.Words.{set_of, Narrow, no_entry, entry}
use Rattle.basics.specs.Basics.{not_true_is_false, length_listed, get_or_listed}
use Rattle.theory.specs.Bits.{Bits, narrow_holds}
use Rattle.accepted.specs.Tables.{accepted_sound, accepted_total}
use Rattle.theory.specs.Zielonka.{determinacy}
use Rattle.sets.specs.Laws.{other_bit}
use Rattle.area.specs.Area.{entries, set_at, entry_at}
use Rattle.area.specs.Lent.{part_is, part_length, words_enough}
use Rattle.solver_entries.specs.Entries.{owner_wins, StrategyWritable, StrategyWritten}
use Rattle.solver.specs.Running.{Outputs, AnsweredWithin}

-- ---- what `write_out` asks for and leaves

-- room for the outputs, and entries that fit where they are written
pub record Writable (owners : List ℕ) (s from at : ℕ) (work even odd strategy : List ℕ) : Type 0 where
  pub even_long : length even ≡ s
  pub odd_long : length odd ≡ s
  pub entries : from + length owners ≤ length work
  pub sets : at + s + s ≤ length work
  pub enterable :
      StrategyWritable owners (take s (drop at work)) (take s (drop (at + s) work)) (take (length owners) (drop from work)) strategy

-- the sets as they stand, and the strategy by them
pub record WroteOut (owners : List ℕ) (s from at : ℕ) (work : List ℕ) (before after : Outputs) : Type 0 where
  pub even : after.even ≡ take s (drop at work)
  pub odd : after.odd ≡ take s (drop (at + s) work)
  pub strategy :
      StrategyWritten owners (take s (drop at work)) (take s (drop (at + s) work)) (take (length owners) (drop from work))
      before.strategy after.strategy
  pub even_narrow : Narrow after.even
  pub odd_narrow : Narrow after.odd

-- the parts, as the code lends them
abbrev pub part_at : ℕ → ℕ → List ℕ → List ℕ
part_at a k work = take ((a + k) - a) (drop a work)

pub lent_enterable :
    {owners : List ℕ} {s from at : ℕ} {work even odd strategy : List ℕ} →
    Writable owners s from at work even odd strategy →
    {next : ℕ} →
    next ≡ at + s →
    StrategyWritable owners (part_at at s work) (part_at next s work) (part_at from (length owners) work) strategy
lent_enterable {owners} {s} {from} {at} {work} w e =
    rw (e, part_is at s work, part_is (at + s) s work, part_is from (length owners) work) w.enterable

pub wrote_parts :
    {owners : List ℕ} (s from at : ℕ) (work : List ℕ) {even odd strategy : List ℕ} (was : Outputs) →
    {next : ℕ} →
    next ≡ at + s →
    even ≡ part_at at s work →
    odd ≡ part_at next s work →
    StrategyWritten owners (part_at at s work) (part_at next s work) (part_at from (length owners) work) was.strategy strategy →
    Narrow even →
    Narrow odd →
    WroteOut owners s from at work was (record { even = even; odd = odd; strategy = strategy })
wrote_parts {owners} s from at work was behind e o w even_narrow odd_narrow =
    record {
      even = e ∙ part_is at s work;
      odd = rw behind at o ∙ part_is (at + s) s work;
      strategy = rw (behind, part_is at s work, part_is (at + s) s work, part_is from (length owners) work) at w;
      even_narrow = even_narrow;
      odd_narrow = odd_narrow;
    }

-- ---- what a solver has found

-- what Even wins stands at a place, what Odd wins behind it
abbrev pub won_from : ℕ → ℕ → Player → ℕ
won_from s at Even = at
won_from s at Odd = at + s

-- the sets that are won, and the entries: a table that has them at the winners' own vertices, and none elsewhere, is the rules'
-- choice, which wins
pub record WinnersFound (t : Tables) (won : Player → Set) (choice : ℕ → ℕ) (s at : ℕ) (work : List ℕ) : Type 0 where
  pub accepted : Accepted t
  pub size : s ≡ words (vertices t)
  pub low : entries (vertices t) (edges_in t) + vertices t ≤ at
  pub high : at + s + s ≤ length work
  pub inside : (c : Player) (v : ℕ) → v < vertices t → set_at (vertices t) (won_from s at c) work v ≡ won c v
  pub bare : (c : Player) (v : ℕ) → vertices t ≤ v → set_at (vertices t) (won_from s at c) work v ≡ false
  pub sets : WinningSets (game_of t) won
  pub chosen :
      (strategy : List ℕ) →
      length strategy ≡ vertices t →
      ((a : Player) (v : ℕ) →
      v < vertices t →
      won a v ≡ true →
      (game_of t).owner v ≡ a →
      entry strategy v ≡ entry_at (vertices t) (edges_in t) work v) →
      ((a : Player) (v : ℕ) → v < vertices t → won a v ≡ true → ((game_of t).owner v ≡ a → ⊥) → entry strategy v ≡ no_entry) →
      strategy ≡ listed (vertices t) choice
  pub wins : WinningEntries (game_of t) won (listed (vertices t) choice)

-- within a list the default does not matter
get_or_any : (l : List ℕ) (k x y : ℕ) → k < length l → get_or l k x ≡ get_or l k y
get_or_any [] k x y h = absurd (not-suc-le-zero h)
get_or_any (z ∷ l) zero x y h = refl
get_or_any (z ∷ l) (suc k) x y h = get_or_any l k x y (le_of_suc-le-suc h)

module _ {t : Tables} {won : Player → Set} {choice : ℕ → ℕ} {s at : ℕ} {w : List ℕ} (found : WinnersFound t won choice s at w) where
  abbrev n : ℕ
  n = vertices t

  abbrev E : ℕ
  E = entries (vertices t) (edges_in t)

  -- the words of a set
  abbrev part : Player → List ℕ
  part c = take s (drop (won_from s at c) w)

  set_is : (c : Player) (v : ℕ) → set_of (part c) v ≡ set_at n (won_from s at c) w v
  set_is c v = ap (λ (k : ℕ). set_of (take k (drop (won_from s at c) w)) v) found.size

  fits : (c : Player) → won_from s at c + s ≤ length w
  fits Even = omega (arith, found.high)
  fits Odd = omega (arith, found.high)

  long : (c : Player) → length (part c) ≡ s
  long c = part_length (won_from s at c) s w (fits c)

  holds : (c : Player) → Bits n (won c) (part c)
  holds c =
      record {
        long = long c ∙ found.size;
        bits = λ v l. set_is c v ∙ found.inside c v l;
        clear = λ v l. other_bit (part c) v (set_is c v ∙ found.bare c v l);
      }

  -- one player wins a vertex
  not_both : (c : Player) (v : ℕ) → v < n → won c v ≡ true → won ((game_of t).owner v) v ≡ true → ((game_of t).owner v ≡ c → ⊥) → ⊥
  unfolding game_of
  not_both c v l p q other = go c ((game_of t).owner v) p q other
    where
      apart : won Even v ≡ true → won Odd v ≡ true → ⊥
      apart a b = (determinacy t found.accepted v l).1 ((found.sets Even v l).0 a) ((found.sets Odd v l).0 b)

      go : (a b : Player) → won a v ≡ true → won b v ≡ true → (b ≡ a → ⊥) → ⊥
      go Even Even p q d = d refl
      go Even Odd p q d = apart p q
      go Odd Even p q d = apart q p
      go Odd Odd p q d = d refl

  -- the owner's set
  owner_won : (v : ℕ) → v < n → owner_wins t.owners (part Even) (part Odd) v ≡ won ((game_of t).owner v) v
  unfolding game_of
  owner_won v l = go (get_or t.owners v 0)
    where
      go : (k : ℕ) → cond (eqb k 0) (set_of (part Even) v) (set_of (part Odd) v) ≡ won (player_of k) v
      go zero = (holds Even).bits v l
      go (suc k) = rw (eqb-suc-zero k) ((holds Odd).bits v l)

  -- the entry of v where its owner wins it
  abbrev own : ℕ → ℕ
  own v = cond (won ((game_of t).owner v) v) (entry_at n (edges_in t) w v) no_entry

  own_chosen :
      (strategy : List ℕ) →
      length strategy ≡ n →
      ((v : ℕ) → v < n → entry strategy v ≡ own v) →
      strategy ≡ listed n choice
  own_chosen strategy long is =
      found.chosen strategy long
      (λ c v l p mine.
      is v l ∙ ap (λ (b : Bool). cond b (entry_at n (edges_in t) w v) no_entry) (ap (λ (a : Player). won a v) mine ∙ p))
      (λ c v l p other.
      is v l ∙
      ap (λ (b : Bool). cond b (entry_at n (edges_in t) w v) no_entry)
      (not_true_is_false (won ((game_of t).owner v) v) (λ q. not_both c v l p q other)))

  -- such an entry is a vertex
  own_small : (v : ℕ) → v < n → won ((game_of t).owner v) v ≡ true → entry_at n (edges_in t) w v < n
  unfolding game_of
  own_small v l p =
      let held : (u : ℕ) → u < n → entry (listed n own) u ≡ own u = λ u j. get_or_listed n own u no_entry j in
      let same : listed n own ≡ listed n choice = own_chosen (listed n own) (length_listed n own) held in
      let is : entry (listed n choice) v ≡ entry_at n (edges_in t) w v =
      ap (λ (xs : List ℕ). entry xs v) (sym same) ∙
      held v l ∙
      ap (λ (b : Bool). cond b (entry_at n (edges_in t) w v) no_entry) p in
      let edge = found.wins.given ((game_of t).owner v) v l p refl in
      let small = (accepted_total t found.accepted).ends v (entry (listed n choice) v) edge in
      rw is at small

  abbrev entries_in : List ℕ
  entries_in = take n (drop E w)

  entry_is : (v : ℕ) → v < n → get_or entries_in v 0 ≡ entry_at n (edges_in t) w v
  entry_is v l = get_or-take n (drop E w) v 0 l ∙ get_or-drop E w v 0

  -- what `write_out` asks for
  pub found_writable :
      {from : ℕ} →
      from ≡ entries (vertices t) (edges_in t) →
      {even odd strategy : List ℕ} →
      length even ≡ words (vertices t) →
      length odd ≡ words (vertices t) →
      length strategy ≡ vertices t →
      Writable t.owners s from at w even odd strategy
  found_writable place {even} {odd} {strategy} even_size odd_size strategy_size =
      subst (λ (k : ℕ). Writable t.owners s k at w even odd strategy) (sym place)
      (record {
        even_long = even_size ∙ sym found.size;
        odd_long = odd_size ∙ sym found.size;
        entries = omega (arith, found.low, found.high);
        sets = found.high;
        enterable =
            record {
              each = strategy_size;
              entered =
                  λ v l.
                  record {
                    small = l;
                    long = part_length E n w (omega (arith, found.low, found.high));
                    even_bits = rw (holds Even).long (words_enough n v l);
                    odd_bits = rw (holds Odd).long (words_enough n v l);
                    narrow =
                        λ p.
                        let small = own_small v l (sym (owner_won v l) ∙ p) in
                        let few = (accepted_sound t found.accepted).few_vertices in
                        omega (arith, entry_is v l);
                  };
            };
      })

  module _ {before after : Outputs} (size : length before.strategy ≡ vertices t)
      {from : ℕ} (place : from ≡ entries (vertices t) (edges_in t))
      (written : WroteOut t.owners s from at w before after)
    where
      wrote : WroteOut t.owners s E at w before after
      wrote = subst (λ (k : ℕ). WroteOut t.owners s k at w before after) place written

      strategy_long : length after.strategy ≡ n
      strategy_long = wrote.strategy.long ∙ size

      written_entry : (v : ℕ) → v < n → entry after.strategy v ≡ own v
      written_entry v l =
          get_or_any after.strategy v no_entry 0 (omega (arith, strategy_long)) ∙
          wrote.strategy.all v l ∙
          ap₂ (λ (b : Bool) (x : ℕ). cond b x no_entry) (owner_won v l) (entry_is v l)

      -- **What is written out is what the rules ask for.**
      pub found_finished :
          {budget needed made : ℕ} → made ≡ needed → made ≤ budget → AnsweredWithin budget t needed won choice made after
      found_finished is within =
          record {
            exact = is;
            within = within;
            even = narrow_holds wrote.even_narrow (rw wrote.even (holds Even));
            odd = narrow_holds wrote.odd_narrow (rw wrote.odd (holds Odd));
            strategy = own_chosen after.strategy strategy_long written_entry;
          }
