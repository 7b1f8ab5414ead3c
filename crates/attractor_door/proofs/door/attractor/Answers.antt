-- `attractor` meets its contract: a refusal is returned with nothing written; past the checks the work is done in the first W words.
use Rattle.std.proofs.Common.{rules, arith, ℕ, List, sym, subst, ◌≡◌, ◌∙◌, length}
use Rattle.rules.specs.Game.{Player}
use Rattle.rules.specs.Outcome.{none}
use Rattle.rules.specs.Tables.{Tables, tables_of, vertices, edges_in, Accepted}
use Rattle.attractor_checks.specs.Door.{lent_checks, checks_by}
use Rattle.parity_game.specs.Laws.{accepted_sound}
use Rattle.parity_game.specs.Said.{is}
use Rattle.attractor_run.specs.Work.{AttractorRan}
use Rattle.attractor_door.specs.Answered.{accepted_checks, checks_passed, run_ready, attracts_stopped, attracts_answered}
use Rattle.area.specs.Lent.{work_cleared}
use Rattle.attractor_door.proofs.door.attractor.Goals as goal

-- past 9, 10 and 12 of accepted tables all checks are passed
past :
    (t : Tables) (V' T : List ℕ) (result strategy distances work : ℕ) → Accepted t →
    none ≡ lent_checks (vertices t) (edges_in t) V' T result strategy distances work →
    none ≡ checks_by t V' T result strategy distances work
past t V' T result strategy distances work ok e = e ∙ accepted_checks t V' T result strategy distances work ok

pub check_lent-requires : goal.check_lent-requires
check_lent-requires c = let f = accepted_sound _ c.requires in (f.few_vertices, f.few_edges)

pub returns-in_err-check_lent : goal.returns-in_err-check_lent
returns-in_err-check_lent c =
    let a = c.args in
    let t = tables_of a.owners.now a.priorities.now a.offsets.now a.targets.now in
    attracts_stopped c.from_residual.result c.in_err-check_lent.field-0.0 (search rules)
    (c.in_err-check_lent.ensures ∙
    accepted_checks t a.within.now a.target.now (length a.res.now) (length a.strategy.now) (length a.distances.now) (length a.work.now) c.requires)

pub work_words-w-requires : goal.work_words-w-requires
work_words-w-requires c = let f = accepted_sound _ c.requires in (f.few_vertices, f.few_edges)

pub slice_bounds-run-end : goal.slice_bounds-run-end
slice_bounds-run-end c =
    let a = c.args in
    let t = tables_of a.owners.now a.priorities.now a.offsets.now a.targets.now in
    let passed =
    checks_passed t a.within.now a.target.now (length a.res.now) (length a.strategy.now) (length a.distances.now) (length a.work.now)
    (sym (past t _ _ _ _ _ _ c.requires c.in_ok-check_lent.ensures)) in
    omega (arith, passed.sizes.work_size, c.work_words-w.ensures)

pub run-requires : goal.run-requires
run-requires c =
    let a = c.args in
    let t = tables_of a.owners.now a.priorities.now a.offsets.now a.targets.now in
    let passed =
    checks_passed t a.within.now a.target.now (length a.res.now) (length a.strategy.now) (length a.distances.now) (length a.work.now)
    (sym (past t _ _ _ _ _ _ c.requires c.in_ok-check_lent.ensures)) in
    run_ready t c.index-alpha.result c.work_words-w.result a.within.now a.target.now a.res.now a.strategy.now a.distances.now a.work.now
    c.index-alpha.ensures.1 c.work_words-w.ensures passed

pub returns : goal.returns
returns c =
    let a = c.args in
    let t = tables_of a.owners.now a.priorities.now a.offsets.now a.targets.now in
    let all =
    sym (past t a.within.now a.target.now (length a.res.now) (length a.strategy.now) (length a.distances.now) (length a.work.now) c.requires c.in_ok-check_lent.ensures) in
    let passed =
    checks_passed t a.within.now a.target.now (length a.res.now) (length a.strategy.now) (length a.distances.now) (length a.work.now) all in
    attracts_answered t (is a.player) a.within.now a.target.now
    (record { result = a.res.now; strategy = a.strategy.now; distances = a.distances.now; work = a.work.now })
    (record { result = _; strategy = _; distances = _; work = _ })
    c.run.result
    all
    (subst
    (λ (p : Player). AttractorRan t p a.within.now a.target.now c.run.new.res c.run.new.strategy c.run.new.distances c.run.result)
    c.index-alpha.ensures.0
    (c.run.ensures.1 a.priorities.now c.requires))
    (work_cleared t c.work_words-w.result a.work.now _ c.work_words-w.ensures passed.sizes.work_size c.run.ensures.0)
