-- `solve_text` meets its contract: a refusal is put into its line, and else the rooms hold the game whose line is the text's.
use mathlib.Core.List.{List}
use mathlib.Core.Path.{sym, ap, subst, ◌∙◌}
use Prim.Native.Nat.{ℕ}
use native.Mathlib.Omega.{arith}
use lib.ListN.{take}
use Rattle.rules.specs.Outcome.{Outcome}
use Rattle.rules.specs.Printing.{refused_line, PrintsText}
use Rattle.rules.specs.Reading.{Written}
use Rattle.parity_game.specs.Said.{said}
use Rattle.putting.specs.Puts.{puts_front, puts_within}
use Rattle.solving.specs.Texts.{prints_refused, few, short, game_given, prints_solved}
use Rattle.solving.proofs.solve_text.Goals as goal
use Rattle.solving.proofs.solve_text.Goals.{After-told-number}

-- what the reader left and gave
abbrev after : After-told-number → Written
after c =
    let last = c.read-read.new in
    record {
      rooms =
          record {
            owners = last.owners;
            priorities = last.priorities;
            offsets = last.offsets;
            targets = last.targets;
            work = last.work;
          };
      n = last.n;
      m = last.m;
    }

abbrev gave : After-told-number → Outcome
gave c = said c.read-read.result

pub returns-then-number-ne0 : goal.returns-then-number-ne0
returns-then-number-ne0 c =
    let at = (goal.at.returns-then-number-ne0 c).After-told-number in
    let is =
    puts_front c.refused_line.ensures ∙
    ap (λ (k : ℕ). refused_line k c.told-number.result.1) c.told-number.ensures.0 ∙
    ap (λ (p : ℕ). refused_line (gave at).number p) c.told-number.ensures.1 in (
      subst (λ (bytes : List ℕ). PrintsText c.args.budget c.args.text.now bytes) (sym is)
          (prints_refused c.args.text.now (after at) (gave at) c.read-read.ensures c.args.budget
          (λ e. c.if-number-ne0.true (c.told-number.ensures.0 ∙ e))),
      puts_within c.refused_line.ensures,
    )

pub slice_bounds-solve_tables-end : goal.slice_bounds-solve_tables-end
slice_bounds-solve_tables-end c =
    let at = (goal.at.slice_bounds-solve_tables-end c).After-told-number in
    omega (arith, few c.args.text.now (after at) (gave at) c.read-read.ensures (sym c.told-number.ensures.0 ∙ c.if-number-ne0.false) c.read-read.auto.owners)

pub slice_bounds-solve_tables-end-2 : goal.slice_bounds-solve_tables-end-2
slice_bounds-solve_tables-end-2 c =
    let at = (goal.at.slice_bounds-solve_tables-end-2 c).After-told-number in
    omega (arith, few c.args.text.now (after at) (gave at) c.read-read.ensures (sym c.told-number.ensures.0 ∙ c.if-number-ne0.false) c.read-read.auto.owners)

pub overflow_add-n : goal.overflow_add-n
overflow_add-n c =
    let at = (goal.at.overflow_add-n c).After-told-number in
    omega (arith, few c.args.text.now (after at) (gave at) c.read-read.ensures (sym c.told-number.ensures.0 ∙ c.if-number-ne0.false) c.read-read.auto.owners)

pub slice_bounds-solve_tables-end-3 : goal.slice_bounds-solve_tables-end-3
slice_bounds-solve_tables-end-3 c =
    let at = (goal.at.slice_bounds-solve_tables-end-3 c).After-told-number in
    omega (arith, few c.args.text.now (after at) (gave at) c.read-read.ensures (sym c.told-number.ensures.0 ∙ c.if-number-ne0.false) c.read-read.auto.owners)

pub slice_bounds-solve_tables-end-4 : goal.slice_bounds-solve_tables-end-4
slice_bounds-solve_tables-end-4 c =
    let at = (goal.at.slice_bounds-solve_tables-end-4 c).After-told-number in
    omega (arith, short c.args.text.now (after at) (gave at) c.read-read.ensures (sym c.told-number.ensures.0 ∙ c.if-number-ne0.false) c.read-read.auto.targets)

pub solve_tables-requires : goal.solve_tables-requires
solve_tables-requires c =
    let at = (goal.at.solve_tables-requires c).After-told-number in
    game_given c.args.text.now (after at) (gave at) c.read-read.ensures (sym c.told-number.ensures.0 ∙ c.if-number-ne0.false)
    c.args.out.now c.requires c.read-read.auto.owners c.read-read.auto.targets

pub returns : goal.returns
returns c =
    let at = (goal.at.returns c).After-told-number in (
      prints_solved c.args.text.now (after at) (gave at) c.read-read.ensures (sym c.told-number.ensures.0 ∙ c.if-number-ne0.false)
          c.args.budget (take c.solve_tables.result c.solve_tables.new.out) (puts_front c.solve_tables.ensures),
      puts_within c.solve_tables.ensures,
    )
