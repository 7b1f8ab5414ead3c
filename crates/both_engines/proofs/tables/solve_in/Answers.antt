-- `solve_in` meets its contract: promotion, then Zielonka over its words, and the line of both.
use mathlib.Core.List.{List}
use mathlib.Core.Path.{◌≡◌, sym, ap, subst, ◌∙◌}
use Prim.Native.Nat.{ℕ, ◌≤◌}
use native.Mathlib.Omega.{arith}
use lib.ListN.{length}
use Rattle.rules.specs.Solver.{Lent}
use Rattle.rules.specs.Tables.{Tables, tables_of, vertices, edges_in, work_words, game_of}
use Rattle.rules.specs.Words.{set_of}
use Rattle.rules.specs.Zielonka.{zielonka}
use Rattle.std.specs.declared.option.Option.{Option}
use Rattle.printing.specs.Line.{line_bytes}
use Rattle.putting.specs.Puts.{Puts}
use Rattle.both_engines.specs.Solved.{EnginesReady, ready_passes, words_cover, counted_for}
use Rattle.both_engines.specs.Solved.{solves_counted, solves_kept, line_solved}
use Rattle.both_engines.proofs.tables.solve_in.Lts as lts
use Rattle.both_engines.proofs.tables.solve_in.Reads as reads
use Rattle.both_engines.proofs.tables.solve_in.Tie as tie
use Rattle.both_engines.proofs.tables.solve_in.Goals as goal

abbrev AtAfterCounted : Type 0
AtAfterCounted = lts.After-counted tie.the-claims reads.Pre reads.Post

abbrev AtAfterSolvePriorityPromotion : Type 0
AtAfterSolvePriorityPromotion = lts.After-solve_priority_promotion tie.the-claims reads.Pre reads.Post

abbrev AtAfterSolveZielonka : Type 0
AtAfterSolveZielonka = lts.After-solve_zielonka tie.the-claims reads.Pre reads.Post

abbrev AtStart : Type 0
AtStart = lts.Start tie.the-claims reads.Pre reads.Post

-- the places, each from the next: where the function begins, and after each engine
abbrev start : AtAfterSolvePriorityPromotion → AtStart
start c = c.before.before.before.before.before.before.before.before.before.before.before.before.before.before.before

abbrev promotion : AtAfterSolveZielonka → AtAfterSolvePriorityPromotion
promotion c = c.before.before.before.before.before.before.before.before.before.before.before.before.before

abbrev recursion : AtAfterCounted → AtAfterSolveZielonka
recursion c = c.before.before.before.before.before.before.before.before.before

abbrev tables : AtStart → Tables
tables c = tables_of c.args.owners.now c.args.priorities.now c.args.offsets.now c.args.targets.now

-- the rooms before both, between them and after both
abbrev lent : AtStart → Lent
lent c =
    record {
      even = c.args.even.now;
      odd = c.args.odd.now;
      strategy = c.args.strategy.now;
      work = c.args.work.now;
    }

abbrev between : AtAfterSolvePriorityPromotion → Lent
between c =
    let after = c.solve_priority_promotion-promotion.new in
    record {
      even = after.even;
      odd = after.odd;
      strategy = after.strategy;
      work = after.work;
    }

abbrev odd_after : AtAfterSolveZielonka → List ℕ
odd_after c = c.solve_zielonka-zielonka.new.odd

even_same : (c : AtAfterSolvePriorityPromotion) → length (between c).even ≡ length (start c).args.even.now
even_same c = c.solve_priority_promotion-promotion.auto.even

odd_same : (c : AtAfterSolvePriorityPromotion) → length (between c).odd ≡ length (start c).args.odd.now
odd_same c = c.solve_priority_promotion-promotion.auto.odd

strategy_same : (c : AtAfterSolvePriorityPromotion) → length (between c).strategy ≡ length (start c).args.strategy.now
strategy_same c = c.solve_priority_promotion-promotion.auto.strategy

work_same : (c : AtAfterSolvePriorityPromotion) → length (between c).work ≡ length (start c).args.work.now
work_same c = c.solve_priority_promotion-promotion.auto.work

odd_again : (c : AtAfterSolveZielonka) → length (odd_after c) ≡ length (between (promotion c)).odd
odd_again c = c.solve_zielonka-zielonka.auto.odd

-- Zielonka's rooms have the sizes that promotion's had
again : (c : AtAfterSolvePriorityPromotion) → EnginesReady (tables (start c)) (start c).args.kept.now (between c) (start c).args.out.now
again c =
    let r = (start c).requires in
    record {
      counted = r.counted;
      few = r.few;
      room = r.room;
      even_size = even_same c ∙ r.even_size;
      odd_size = odd_same c ∙ r.odd_size;
      strategy_size = strategy_same c ∙ r.strategy_size;
      work_size =
          subst (λ (k : ℕ). work_words (vertices (tables (start c))) (edges_in (tables (start c))) ≤ k) (sym (work_same c))
          r.work_size;
    }

pub solve_priority_promotion-promotion-requires : goal.solve_priority_promotion-promotion-requires
solve_priority_promotion-promotion-requires c =
    let at = c.before in
    at.requires.counted

pub solve_zielonka-zielonka-requires : goal.solve_zielonka-zielonka-requires
solve_zielonka-zielonka-requires c =
    let at1 = c.before.before.before.before.before.before.before.before.before.before.before.before.before in (start at1).requires.counted

pub solved_line-requires : goal.solved_line-requires
solved_line-requires c =
    let at2 = recursion c.before.before.before in
    let at1 = promotion at2 in
    let at = start at1 in (
      omega (arith, at.requires.odd_size, odd_same at1, odd_again at2, words_cover (vertices (tables at))),
      omega (arith, at.requires.few, at.requires.room),
    )

pub returns : goal.returns
returns c =
    let line = c.before in
    let at4 = line in
    let at3 = at4.before.before.before.before.before in
    let at2 = recursion at3 in
    let at1 = promotion at2 in
    let at = start at1 in
    let t = tables at in
    let budget = at.args.budget in
    let passes = ready_passes at.requires in
    let passes-again = ready_passes (again at1) in
    let S = set_of (odd_after at2) in
    let is =
    ap (λ (k : Option ℕ). line_bytes (vertices t) S k at4.counted-2.result)
    (at3.counted.ensures ∙ solves_counted at2.solve_zielonka-zielonka.ensures passes-again) ∙
    ap (λ (k : Option ℕ). line_bytes (vertices t) S (counted_for budget (zielonka (game_of t)).calls) k)
    (at4.counted-2.ensures ∙ solves_counted at1.solve_priority_promotion-promotion.ensures passes) ∙
    line_solved budget t at.args.odd.now (between at1).odd (odd_after at2)
    (solves_kept at1.solve_priority_promotion-promotion.ensures passes)
    (solves_kept at2.solve_zielonka-zielonka.ensures passes-again) in
    let made = line.solved_line in
    subst (λ (bytes : List ℕ). Puts 0 bytes at.args.out.now made.new.out made.result) is
    line.solved_line.ensures
