-- `look_back` meets its contract.
use mathlib.Core.Path.{refl, sym, ◌∙◌}
use native.Mathlib.Nat.{le_refl}
use Rattle.std.proofs.Common.{arith, ◌+◌, ◌<◌}
use Rattle.search_links.specs.Graph.{graph_of}
use Rattle.backward_look.specs.Seeking.{Looked, row_start, looking_as, looked_starts, looked_passes, looked_puts}
use Rattle.backward_look.proofs.look.look_back.Goals as goal
use Rattle.backward_look.proofs.look.look_back.Goals.{then-opens, else-opens}

pub loop-e-init : goal.loop-e-init
loop-e-init c =
    record {
      is_last = refl;
      low_end = le_refl _;
      high_end = c.requires.rising;
      long = refl;
      looked = looked_starts _ _ _ _ _ c.requires;
    }

pub loop-e-preserved : goal.loop-e-preserved
loop-e-preserved c =
    let l = c.loop-e in
    let more : l.e < row_start c.args.work.now (c.args.w + 1) = omega arith in
    let next : Looked (graph_of c.args.graph.now) c.args.work.now c.args.w c.args.r c.args.tail (l.e + 1) c.if-opens.work c.if-opens.end =
    elim c.if-opens.branch [
      | then-opens w ↦
          looking_as {before = c.args.work.now}
          (w.work-is ∙ (rw (c.sources_at-sources.ensures, c.labels-labels.ensures, c.queue-queue.ensures, c.rows-rows.ensures) at w.put.ensures)) w.end-is
          (looked_puts _ _ _ _ _ c.requires l.e _ _ l.invariant.looked l.invariant.low_end more
          (rw (c.sources_at-sources.ensures, c.labels-labels.ensures, c.rows-rows.ensures) at (sym c.opens.ensures ∙ w.if-opens.true)))
      | else-opens w ↦
          looking_as {before = c.args.work.now} w.work-is w.end-is
          (looked_passes _ _ _ _ _ c.requires l.e _ _ l.invariant.looked l.invariant.low_end more
          (rw (c.sources_at-sources.ensures, c.labels-labels.ensures, c.rows-rows.ensures) at (sym c.opens.ensures ∙ w.if-opens.false)))
    ] in
    record {
      is_last = refl;
      low_end = omega arith;
      high_end = omega arith;
      long = next.within.long;
      looked = next;
    }
