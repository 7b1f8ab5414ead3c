-- `run` meets its contract: the recursion on all vertices is what the rules ask for, and what it found is written out.
use mathlib.Core.Path.{◌≡◌, refl, ◌∙◌}
use native.Mathlib.Omega.{arith}
use Rattle.rules.specs.Tables.{Tables, Accepted, vertices, edges_in, words}
use Rattle.accepted.specs.Tables.{accepted_sound}
use Rattle.priority_sets.specs.Sorting.{PriorityPlaceable, placed_few}
use Rattle.zielonka.specs.Solving.{run_preparable, run_sortable, run_clearable, run_called, run_over_budget, run_calls}
use Rattle.zielonka.specs.Solving.{run_parts, run_found}
use Rattle.solver.specs.Outputs.{found_writable, found_finished}
use Rattle.sets.specs.Laws.{cleared_all}
use Prim.Native.Nat.{ℕ}
use Rattle.zielonka.proofs.door.run.Goals as goal

-- the places can be asked for
placeable : (t : Tables) {s : ℕ} → Accepted t → s ≡ words (vertices t) → PriorityPlaceable (vertices t) (edges_in t) s 255
placeable t ok size =
    let f = accepted_sound t ok in
    record { size = size; few = f.few_vertices; few_edges = f.few_edges; small = omega arith }

pub free-first-requires : goal.free-first-requires
free-first-requires c =
    let few = placed_few (placeable _ c.requires.0.accepted c.set_words-s.ensures) in (c.set_words-s.ensures, omega (arith, few))

pub behind_sets-even_won-requires : goal.behind_sets-even_won-requires
behind_sets-even_won-requires c = placeable _ c.requires.0.accepted c.set_words-s.ensures

pub odd_at-odd_won-requires : goal.odd_at-odd_won-requires
odd_at-odd_won-requires c = placeable _ c.requires.0.accepted c.set_words-s.ensures

pub levels_at-base-requires : goal.levels_at-base-requires
levels_at-base-requires c = placeable _ c.requires.0.accepted c.set_words-s.ensures

pub prepare-requires : goal.prepare-requires
prepare-requires c =
    run_preparable _ c.requires.0.accepted c.args.work.now c.requires.0.room c.free-first.ensures c.odd_at-odd_won.ensures
    c.levels_at-base.ensures c.set_words-s.ensures

pub make-requires : goal.make-requires
make-requires c =
    run_sortable _ c.requires.0.accepted c.args.work.now c.requires.0.room c.free-first.ensures c.odd_at-odd_won.ensures
    c.levels_at-base.ensures c.set_words-s.ensures c.prepare.ensures

pub clear-requires : goal.clear-requires
clear-requires c =
    run_clearable _ c.requires.0.accepted c.args.work.now c.requires.0.room c.free-first.ensures c.odd_at-odd_won.ensures
    c.levels_at-base.ensures c.set_words-s.ensures c.prepare.ensures c.make.ensures

pub zielonka_rec-requires : goal.zielonka_rec-requires
zielonka_rec-requires c =
    run_called _ c.requires.0.accepted c.args.work.now c.requires.0.room c.free-first.ensures c.odd_at-odd_won.ensures
    c.levels_at-base.ensures c.set_words-s.ensures c.prepare.ensures c.make.ensures c.clear.ensures c.requires.1

pub returns-in_default : goal.returns-in_default
returns-in_default c = (
  cleared_all c.args.work.now c.zielonka_rec.new.work
      (c.zielonka_rec.auto.work ∙ c.clear.ensures.long ∙ c.make.ensures.long ∙ c.prepare.ensures.long)
      c.clear-in_default.ensures,
  record {
    over =
        run_over_budget _ c.requires.0.accepted c.args.work.now c.requires.0.room c.free-first.ensures c.odd_at-odd_won.ensures
        c.levels_at-base.ensures c.set_words-s.ensures c.prepare.ensures c.make.ensures c.clear.ensures
        (c.zielonka_rec.ensures.over c.in_default.is);
    same = refl;
  },
)

pub without-requires : goal.without-requires
without-requires c =
    run_parts _ c.requires.0.accepted c.args.work.now c.requires.0.room c.free-first.ensures c.odd_at-odd_won.ensures
    c.levels_at-base.ensures c.set_words-s.ensures c.prepare.ensures c.make.ensures c.clear.ensures
    (c.zielonka_rec.ensures.done _ c.in-Some.is) c.behind_sets-even_won.ensures

pub write_out-requires : goal.write_out-requires
write_out-requires c =
    let found =
    run_found _ c.requires.0.accepted c.args.work.now c.requires.0.room c.free-first.ensures c.odd_at-odd_won.ensures
    c.levels_at-base.ensures c.set_words-s.ensures c.prepare.ensures c.make.ensures c.clear.ensures
    (c.zielonka_rec.ensures.done _ c.in-Some.is) c.behind_sets-even_won.ensures (c.without.ensures _ c.set_words-s.ensures) in
    found_writable found c.entries-entries.ensures c.requires.0.even_size c.requires.0.odd_size c.requires.0.strategy_size

pub returns : goal.returns
returns c =
    let done = c.zielonka_rec.ensures.done _ c.in-Some.is in
    let found =
    run_found _ c.requires.0.accepted c.args.work.now c.requires.0.room c.free-first.ensures c.odd_at-odd_won.ensures
    c.levels_at-base.ensures c.set_words-s.ensures c.prepare.ensures c.make.ensures c.clear.ensures done
    c.behind_sets-even_won.ensures (c.without.ensures _ c.set_words-s.ensures) in (
      cleared_all c.args.work.now c.without.new.work
          (c.without.auto.work ∙ c.zielonka_rec.auto.work ∙ c.clear.ensures.long ∙ c.make.ensures.long ∙ c.prepare.ensures.long)
          c.clear-2.ensures,
      found_finished found c.requires.0.strategy_size c.entries-entries.ensures c.write_out.ensures
          (run_calls _ c.requires.0.accepted c.args.work.now c.requires.0.room c.free-first.ensures c.odd_at-odd_won.ensures
          c.levels_at-base.ensures c.set_words-s.ensures c.prepare.ensures c.make.ensures c.clear.ensures done)
          done.within,
    )
