-- Zielonka's theorem. The rules' recursion has a run, so it gives what every run gives: exactly the winning sets, and entries that
-- win. So each vertex of an accepted game has exactly one winner.
use Rattle.std.specs.Prelude.{Bool, true, false, cond, List, ◌⊎◌, ◌≡◌, refl, ℕ, zero, suc, ◌+◌, ◌≤◌, ◌<◌}
use Rattle.std.proofs.Common.{inl, inr, sym, ap, ◌∙◌, le_refl, not-suc-le-zero, arith, ltb-true, lt-ltb}
use Rattle.std.proofs.Math.Logic.{⊎_elim}
use Rattle.rules.specs.Counting.{Set, nobody, union, without, some, count, within, listed, noted}
use Rattle.rules.specs.Game.{Player, Even, Odd, opponent, Game, everywhere, Total, parity, same}
use Rattle.rules.specs.Words.{entry, no_entry}
use Rattle.rules.specs.Tables.{Tables, game_of, Accepted}
use Rattle.rules.specs.Winning.{Wins, WinningSets, WinningEntries}
use Rattle.rules.specs.Attractor.{attractor}
use Rattle.rules.specs.Distance.{outside, lowest_in, attractor_entry}
use Rattle.rules.specs.Zielonka.{highest_in, with_priority, Solved, won_by, one_call, call_on, zielonka_on, zielonka}
use Rattle.basics.specs.Basics.{bool_cases, clash, not_true_is_false, and_left, Subset, without_left, union_cases}
use Rattle.basics.specs.Basics.{if_true, if_false, some_elim, some_false, within_all, get_or_listed}
use Rattle.theory.specs.Players.{true_same, false_same}
use Rattle.basics.specs.Basics.{without_intro, without_right}
use Rattle.theory.specs.Dominion.{partition_exact, partition_entries}
use Rattle.theory.specs.OneWinner.{one_winner}
use Rattle.accepted.specs.Tables.{accepted_total}
use Rattle.theory.specs.AttractorComplement.{TotalIn}
use Rattle.theory.specs.Attractor.{Fits}
use Rattle.basics.specs.Basics.{noted_below}
use Rattle.theory.specs.Distance.{entry_none}
use Rattle.theory.specs.Run.{Top, highest_top, Cut, AllWon, AllEntries, SomeLost, SomeEntries, Run, empty, all_won}
use Rattle.theory.specs.Run.{some_lost}
use Rattle.theory.specs.Run.{cut_inside, cut_total, cut_fewer, first_fewer, all_entries, some_entries, run_agrees}
use Rattle.theory.specs.Run.{both_players}
use Rattle.theory.specs.Run.{attractor_cut, cut_entry}
use Rattle.theory.specs.RunSound.{run_sound}
use Rattle.theory.specs.RunSame.{Same, run_same, Needs}

-- the rules' cut
rules_cut :
    (g : Game) (c : Player) (V' T : Set) →
    Fits g V' T →
    Cut g c V' T (attractor g c V' T) (within g.size (without V' (attractor g c V' T)))
rules_cut g c V' T fits =
    attractor_cut g c V' T _ fits
    (within_all g.size _ (λ v p. fits.below v (without_left V' (attractor g c V' T) v p)))

won_by_mine : (a : Player) (S T : Set) → won_by a S T a ≡ S
won_by_mine Even S T = refl
won_by_mine Odd S T = refl

won_by_theirs : (a : Player) (S T : Set) → won_by a S T (opponent a) ≡ T
won_by_theirs Even S T = refl
won_by_theirs Odd S T = refl

-- there is a run on V that gives this: the entries are the run's where no vertex has the number for none, and none elsewhere
record HasRun (g : Game) (V' : Set) (s : Solved) : Type 0 where
  σ : ℕ → ℕ
  run : Run g V' s.won σ s.calls
  chosen : g.size ≤ outside → (c : Player) (v : ℕ) → s.won c v ≡ true → g.owner v ≡ c → s.entries v ≡ σ v
  absent : (c : Player) (v : ℕ) → s.won c v ≡ true → (g.owner v ≡ c → ⊥) → s.entries v ≡ no_entry

-- where the nested calls have runs, a call on a set that is not empty has one
module _
    (g : Game)
    (solve : Set → Solved)
    (V' : Set)
    (below : (v : ℕ) → V' v ≡ true → v < g.size)
    (total : TotalIn g V')
    (member : some g.size V' ≡ true)
    (solves : (X : Set) → Subset X V' → TotalIn g X → count g.size X < count g.size V' → HasRun g X (solve X))
  where
    abbrev p : ℕ
    p = highest_in g V'

    abbrev a : Player
    a = parity p

    abbrev U : Set
    U = with_priority g V' p

    abbrev A : Set
    A = attractor g a V' U

    abbrev rest : Set
    rest = within g.size (without V' A)

    abbrev W : Set
    W = (solve rest).won (opponent a)

    abbrev B : Set
    B = attractor g (opponent a) V' W

    abbrev rest₂ : Set
    rest₂ = within g.size (without V' B)

    top : Top g V' a p
    top = let (v, l, q) = some_elim g.size V' member in highest_top g V' below v q

    cut : Cut g a V' U A rest
    cut = rules_cut g a V' U (record { part = λ v q. and_left (V' v) _ q; below = below })

    first_run : HasRun g rest (solve rest)
    first_run = solves rest (cut_inside cut) (cut_total cut total) (first_fewer below top cut)

    first_inside : (c : Player) (v : ℕ) → (solve rest).won c v ≡ true → rest v ≡ true
    first_inside = (run_sound first_run.run).splits.inside

    fits : Fits g V' U
    fits = record { part = λ v q. and_left (V' v) _ q; below = below }

    -- what the call gives where the opponent wins nothing of the rest
    abbrev all_given : Solved
    all_given =
        let drawn = attractor_entry g a V' U in
        record {
          won = won_by a V' nobody;
          calls = 1 + (solve rest).calls;
          entries =
              noted no_entry g.size
              (λ v.
              cond (U v)
              (cond (same (g.owner v) a) (lowest_in g V' v) no_entry)
              (cond (A v) (drawn v) ((solve rest).entries v)));
        }

    all_run : some g.size W ≡ false → HasRun g V' all_given
    all_run none =
        record {
          σ = entries.0;
          run = all_won top cut first_run.run result entries.1 refl;
          chosen =
              λ few.
              both_players a (λ c. (v : ℕ) → all_given.won c v ≡ true → g.owner v ≡ c → all_given.entries v ≡ entries.0 v)
              (λ v q. chosen few v (sym (result.mine v) ∙ q))
              (λ v q. absurd (clash q (result.theirs v)));
          absent =
              both_players a
              (λ c. (v : ℕ) → all_given.won c v ≡ true → (g.owner v ≡ c → ⊥) → all_given.entries v ≡ no_entry)
              (λ v q. absent v (sym (result.mine v) ∙ q))
              (λ v q. absurd (clash q (result.theirs v)));
        }
      where
        entries : (σ : ℕ → ℕ) × AllEntries g a V' U A cut.drawn.pull first_run.σ σ
        entries = all_entries below total cut first_run.σ

        nothing : (v : ℕ) → W v ≡ false
        nothing v =
            not_true_is_false (W v)
            (λ q.
            clash q (some_false g.size W none v (below v (cut_inside cut v (first_inside (opponent a) v q)))))

        result : AllWon a V' (solve rest).won (won_by a V' nobody)
        result =
            record {
              nothing = nothing;
              mine = λ v. ap (λ (X : Set). X v) (won_by_mine a V' nobody);
              theirs = λ v. ap (λ (X : Set). X v) (won_by_theirs a V' nobody);
            }

        -- outside A a won the vertex in the nested call
        won_first : (v : ℕ) → V' v ≡ true → A v ≡ false → (solve rest).won a v ≡ true
        won_first v q out =
            ⊎_elim
            (λ r. r)
            (λ r. absurd (clash r (nothing v)))
            ((run_sound first_run.run).splits.covers a v (cut.left v ∙ without_intro V' A v q out))

        off : (v : ℕ) → A v ≡ false → U v ≡ false
        off v out = not_true_is_false (U v) (λ u. clash (cut.drawn.closed.target v u) out)

        chosen : g.size ≤ outside → (v : ℕ) → V' v ≡ true → g.owner v ≡ a → all_given.entries v ≡ entries.0 v
        chosen few v q o =
            noted_below no_entry g.size _ v (below v q) ∙
            ⊎_elim
            (λ u. if_true _ u ∙ if_true _ (true_same (g.owner v) a o) ∙ sym (entries.1.lowest v u o))
            (λ u.
            ⊎_elim
            (λ m.
            if_false _ u ∙ if_true _ m ∙ cut_entry fits few cut v m u o ∙
            sym (entries.1.pulled v m u o))
            (λ m.
            if_false _ u ∙ if_false _ m ∙ first_run.chosen few a v (won_first v q m) o ∙ sym (entries.1.kept v q m o))
            (bool_cases (A v)))
            (bool_cases (U v))

        absent : (v : ℕ) → V' v ≡ true → (g.owner v ≡ a → ⊥) → all_given.entries v ≡ no_entry
        absent v q o =
            noted_below no_entry g.size _ v (below v q) ∙
            ⊎_elim
            (λ u. if_true _ u ∙ if_false _ (false_same (g.owner v) a o))
            (λ u.
            ⊎_elim
            (λ m. if_false _ u ∙ if_true _ m ∙ entry_none g a V' U fits v (λ p t mine. o mine))
            (λ m. if_false _ u ∙ if_false _ m ∙ first_run.absent a v (won_first v q m) o)
            (bool_cases (A v)))
            (bool_cases (U v))

    -- what it gives where the opponent wins some
    abbrev some_given : Solved
    some_given =
        let drawn = attractor_entry g (opponent a) V' W in
        record {
          won = won_by a ((solve rest₂).won a) (within g.size (union B ((solve rest₂).won (opponent a))));
          calls = 1 + (solve rest).calls + (solve rest₂).calls;
          entries =
              noted no_entry g.size
              (λ v. cond (W v) ((solve rest).entries v) (cond (B v) (drawn v) ((solve rest₂).entries v)));
        }

    some_run : some g.size W ≡ true → HasRun g V' some_given
    some_run lost =
        record {
          σ = entries.0;
          run = some_lost top cut first_run.run cut₂ second_run.run result entries.1 refl;
          chosen =
              λ few.
              both_players a (λ c. (v : ℕ) → some_given.won c v ≡ true → g.owner v ≡ c → some_given.entries v ≡ entries.0 v)
              (λ v q. chosen_later few a v (sym (result.mine v) ∙ q))
              (λ v q o.
              ⊎_elim
              (λ m. chosen_drawn few v m o)
              (λ m. chosen_later few (opponent a) v m o)
              (union_cases B ((solve rest₂).won (opponent a)) v (sym (result.theirs v) ∙ q)));
          absent =
              both_players a
              (λ c. (v : ℕ) → some_given.won c v ≡ true → (g.owner v ≡ c → ⊥) → some_given.entries v ≡ no_entry)
              (λ v q. absent_later a v (sym (result.mine v) ∙ q))
              (λ v q o.
              ⊎_elim
              (λ m. absent_drawn v m o)
              (λ m. absent_later (opponent a) v m o)
              (union_cases B ((solve rest₂).won (opponent a)) v (sym (result.theirs v) ∙ q)));
        }
      where
        fits₂ : Fits g V' W
        fits₂ = record { part = λ v q. cut_inside cut v (first_inside (opponent a) v q); below = below }

        cut₂ : Cut g (opponent a) V' W B rest₂
        cut₂ = rules_cut g (opponent a) V' W fits₂

        vertex : ℕ
        vertex = (some_elim g.size W lost).0

        second_run : HasRun g rest₂ (solve rest₂)
        second_run =
            solves rest₂ (cut_inside cut₂) (cut_total cut₂ total) (cut_fewer below cut₂ vertex (some_elim g.size W lost).2)

        second_inside : (c : Player) (v : ℕ) → (solve rest₂).won c v ≡ true → rest₂ v ≡ true
        second_inside = (run_sound second_run.run).splits.inside

        entries :
            (σ : ℕ → ℕ) × SomeEntries g (opponent a) W B (solve rest₂).won cut₂.drawn.pull first_run.σ second_run.σ σ
        entries = some_entries cut₂ (solve rest₂).won first_run.σ second_run.σ second_inside

        theirs : Set
        theirs = within g.size (union B ((solve rest₂).won (opponent a)))

        theirs_below : (v : ℕ) → union B ((solve rest₂).won (opponent a)) v ≡ true → v < g.size
        theirs_below v q =
            below v
            (⊎_elim
            (cut₂.drawn.inside v)
            (λ r. cut_inside cut₂ v (second_inside (opponent a) v r))
            (union_cases B ((solve rest₂).won (opponent a)) v q))

        result : SomeLost a B (solve rest).won (solve rest₂).won (won_by a ((solve rest₂).won a) theirs)
        result =
            record {
              vertex = vertex;
              lost = (some_elim g.size W lost).2;
              mine = λ v. ap (λ (X : Set). X v) (won_by_mine a ((solve rest₂).won a) theirs);
              theirs =
                  λ v.
                  ap (λ (X : Set). X v) (won_by_theirs a ((solve rest₂).won a) theirs) ∙
                  within_all g.size (union B ((solve rest₂).won (opponent a))) theirs_below v;
            }

        given_below :
            (v : ℕ) →
            V' v ≡ true →
            some_given.entries v ≡
            cond (W v) ((solve rest).entries v) (cond (B v) (attractor_entry g (opponent a) V' W v) ((solve rest₂).entries v))
        given_below v q = noted_below no_entry g.size _ v (below v q)

        -- what is won of V without B lies outside B and so outside W
        later : (c : Player) (v : ℕ) → (solve rest₂).won c v ≡ true → some_given.entries v ≡ (solve rest₂).entries v
        later c v q =
            let i = second_inside c v q in
            let out = without_right V' B v (sym (cut₂.left v) ∙ i) in
            let off : W v ≡ false = not_true_is_false (W v) (λ w. clash (cut₂.drawn.closed.target v w) out) in
            given_below v (cut_inside cut₂ v i) ∙ if_false _ off ∙ if_false _ out

        chosen_later :
            g.size ≤ outside →
            (c : Player) (v : ℕ) →
            (solve rest₂).won c v ≡ true →
            g.owner v ≡ c →
            some_given.entries v ≡ entries.0 v
        chosen_later few c v q o = later c v q ∙ second_run.chosen few c v q o ∙ sym (entries.1.later c v q o)

        absent_later :
            (c : Player) (v : ℕ) →
            (solve rest₂).won c v ≡ true →
            (g.owner v ≡ c → ⊥) →
            some_given.entries v ≡ no_entry
        absent_later c v q o = later c v q ∙ second_run.absent c v q o

        chosen_drawn :
            g.size ≤ outside → (v : ℕ) → B v ≡ true → g.owner v ≡ opponent a → some_given.entries v ≡ entries.0 v
        chosen_drawn few v m o =
            given_below v (cut₂.drawn.inside v m) ∙
            ⊎_elim
            (λ w. if_true _ w ∙ first_run.chosen few (opponent a) v w o ∙ sym (entries.1.kept v w o))
            (λ w.
            if_false _ w ∙ if_true _ m ∙ cut_entry fits₂ few cut₂ v m w o ∙
            sym (entries.1.pulled v m w o))
            (bool_cases (W v))

        absent_drawn : (v : ℕ) → B v ≡ true → (g.owner v ≡ opponent a → ⊥) → some_given.entries v ≡ no_entry
        absent_drawn v m o =
            given_below v (cut₂.drawn.inside v m) ∙
            ⊎_elim
            (λ w. if_true _ w ∙ first_run.absent (opponent a) v w o)
            (λ w. if_false _ w ∙ if_true _ m ∙ entry_none g (opponent a) V' W fits₂ v (λ p t mine. o mine))
            (bool_cases (W v))

    one_call_run : HasRun g V' (one_call solve g V')
    unfolding one_call
    one_call_run =
        ⊎_elim
        (λ (e : some g.size W ≡ true). rw (e, one_call) (some_run e))
        (λ (e : some g.size W ≡ false). rw (e, one_call) (all_run e))
        (bool_cases (some g.size W))

-- so a call that may go as deep as there are vertices, and once more, has one
call_run :
    (g : Game) (depth : ℕ) (V' : Set) →
    ((v : ℕ) → V' v ≡ true → v < g.size) →
    TotalIn g V' →
    count g.size V' < depth →
    HasRun g V' (call_on depth g V')
unfolding call_on
call_run g zero V' below total deep = absurd (not-suc-le-zero deep)
call_run g (suc depth) V' below total deep = go (some g.size V') refl (call_run g depth)
  where
    Nested : Type 0
    Nested =
        (X : Set) →
        ((v : ℕ) → X v ≡ true → v < g.size) →
        TotalIn g X →
        count g.size X < depth →
        HasRun g X (call_on depth g X)

    go : (b : Bool) → some g.size V' ≡ b → Nested → HasRun g V' (call_on (suc depth) g V')
    go false none nested =
        let nobody_here : (v : ℕ) → V' v ≡ false =
        λ v. not_true_is_false (V' v) (λ q. clash q (some_false g.size V' none v (below v q))) in
        rw (none, call_on)
        (record {
          σ = λ v. 0;
          run = empty nobody_here (λ c v. refl) refl;
          chosen = λ few c v q. absurd (clash q refl);
          absent = λ c v q. absurd (clash q refl);
        })
    go true member nested =
        rw (member, call_on)
        (one_call_run g (call_on depth g) V' below total member
        (λ X sub tot fewer. nested X (λ v q. below v (sub v q)) tot (omega arith)))

whole_run : (g : Game) (V' : Set) → ((v : ℕ) → V' v ≡ true → v < g.size) → TotalIn g V' → HasRun g V' (zielonka_on g V')
unfolding zielonka_on
whole_run g V' below total = call_run g (suc (count g.size V')) V' below total (le_refl (suc (count g.size V')))

-- **The rules' recursion has a run**: it is deep enough, since every nested call is on fewer vertices.
pub rules_run :
    (g : Game) (V' : Set) →
    ((v : ℕ) → V' v ≡ true → v < g.size) →
    TotalIn g V' →
    (σ : ℕ → ℕ) × Run g V' (zielonka_on g V').won σ (zielonka_on g V').calls
rules_run g V' below total = let has = whole_run g V' below total in (has.σ, has.run)

-- **and where no vertex has the number for none, its entries are a run's**, and none where the winner is not the owner.
pub rules_run_entries :
    (g : Game) (V' : Set) →
    g.size ≤ outside →
    ((v : ℕ) → V' v ≡ true → v < g.size) →
    TotalIn g V' →
    Run g V' (zielonka_on g V').won (zielonka_on g V').entries (zielonka_on g V').calls
rules_run_entries g V' few below total =
    let has = whole_run g V' below total in run_agrees (zielonka_on g V').entries (has.chosen few) has.run

pub rules_run_absent :
    (g : Game) (V' : Set) →
    ((v : ℕ) → V' v ≡ true → v < g.size) →
    TotalIn g V' →
    (c : Player) (v : ℕ) →
    (zielonka_on g V').won c v ≡ true →
    (g.owner v ≡ c → ⊥) →
    (zielonka_on g V').entries v ≡ no_entry
rules_run_absent g V' below total = (whole_run g V' below total).absent

-- **Every run gives what the rules give**: each player the same set, in as many calls.
pub runs_are_the_rules :
    {g : Game} {V' : Set} {won : Player → Set} {σ : ℕ → ℕ} {n : ℕ} →
    ((v : ℕ) → V' v ≡ true → v < g.size) →
    TotalIn g V' →
    Run g V' won σ n →
    Same won (zielonka_on g V').won n (zielonka_on g V').calls
runs_are_the_rules {g} {V'} below total run = run_same (λ v. refl) run (rules_run g V' below total).1

-- the set of all vertices has no others, and is total in a total game
pub everywhere_below : (g : Game) (v : ℕ) → everywhere g v ≡ true → v < g.size
everywhere_below g v p = ltb-true v g.size p

pub everywhere_total : (g : Game) → Total g → TotalIn g (everywhere g)
everywhere_total g total v p =
    let (w, e) = total.leads v (everywhere_below g v p) in (w, e, lt-ltb w g.size (total.ends v w e))

-- The same for all vertices of a total game.
pub run_is_zielonka :
    {g : Game} {won : Player → Set} {σ : ℕ → ℕ} {n : ℕ} →
    Total g → Run g (everywhere g) won σ n → Same won (zielonka g).won n (zielonka g).calls
unfolding zielonka
run_is_zielonka {g} total run = runs_are_the_rules (everywhere_below g) (everywhere_total g total) run

-- What every run on all vertices needs, the rules need.
pub needs_zielonka : (g : Game) (n : ℕ) → Total g → Needs g (everywhere g) n → n ≤ (zielonka g).calls
unfolding zielonka
needs_zielonka g n total needs = needs _ _ _ (rules_run g (everywhere g) (everywhere_below g) (everywhere_total g total)).1

-- **A run on all vertices of a total game gives exactly the winning sets.**
pub run_wins :
    {g : Game} {won : Player → Set} {σ : ℕ → ℕ} {n : ℕ} →
    Total g → Run g (everywhere g) won σ n → WinningSets g won
run_wins {g} {won} {σ} total run =
    let sound = run_sound run in
    partition_exact g total won
    (λ c. σ)
    (λ v small. sound.splits.covers Even v (lt-ltb v g.size small))
    sound.dominion

-- **And its entries win**: a table that has them at each winner's own vertices, and no entry elsewhere, is a winning choice.
pub run_entries :
    {g : Game} {won : Player → Set} {σ : ℕ → ℕ} {n : ℕ} →
    Total g →
    Run g (everywhere g) won σ n →
    (strategy : List ℕ) →
    ((c : Player) (v : ℕ) → v < g.size → won c v ≡ true → g.owner v ≡ c → entry strategy v ≡ σ v) →
    ((c : Player) (v : ℕ) → v < g.size → won c v ≡ true → (g.owner v ≡ c → ⊥) → entry strategy v ≡ no_entry) →
    WinningEntries g won strategy
run_entries {g} {won} {σ} total run strategy = partition_entries g total won (λ c. σ) strategy (run_sound run).dominion

-- **Zielonka's theorem**: the rules' recursion finds exactly the winning sets of a total game.
pub zielonka_wins : (g : Game) → Total g → WinningSets g (zielonka g).won
unfolding zielonka
zielonka_wins g total = run_wins total (rules_run g (everywhere g) (everywhere_below g) (everywhere_total g total)).1

-- **and its entries win**, where no vertex has the number for none: each winner's own vertex has one, all others have none.
pub zielonka_entries_win :
    (g : Game) → Total g → g.size ≤ outside → WinningEntries g (zielonka g).won (listed g.size (zielonka g).entries)
unfolding zielonka
zielonka_entries_win g total few =
    run_entries total (rules_run_entries g (everywhere g) few (everywhere_below g) (everywhere_total g total))
    (listed g.size (zielonka_on g (everywhere g)).entries)
    (λ c v l p o. get_or_listed g.size (zielonka_on g (everywhere g)).entries v no_entry l)
    (λ c v l p o.
    get_or_listed g.size (zielonka_on g (everywhere g)).entries v no_entry l ∙
    rules_run_absent g (everywhere g) (everywhere_below g) (everywhere_total g total) c v p o)

-- each vertex of a total game has exactly one winner
pub total_determinacy :
    (g : Game) →
    Total g →
    (v : ℕ) →
    v < g.size →
    (Wins g Even v ⊎ Wins g Odd v) × (Wins g Even v → Wins g Odd v → ⊥)
total_determinacy g total v small =
    let (σ, run) = rules_run g (everywhere g) (everywhere_below g) (everywhere_total g total) in
    let sets = run_wins total run in (
      ⊎_elim
          (λ p. inl ((sets Even v small).0 p))
          (λ p. inr ((sets Odd v small).0 p))
          ((run_sound run).splits.covers Even v (lt-ltb v g.size small)),
      one_winner g total v small,
    )

-- **Each vertex of an accepted game has exactly one winner.**
pub determinacy :
    (t : Tables) →
    Accepted t →
    (v : ℕ) →
    v < (game_of t).size →
    (Wins (game_of t) Even v ⊎ Wins (game_of t) Odd v) × (Wins (game_of t) Even v → Wins (game_of t) Odd v → ⊥)
determinacy t ok v small = total_determinacy (game_of t) (accepted_total t ok) v small
