-- `is_good` meets its contract: it goes by the marks of the label.
use mathlib.Core.Path.{◌∙◌}
use borrow.Author.Tests.{ne_eqb}
use Rattle.search_links.specs.Leading.{edge_within}
use Rattle.good_parts.specs.Good.{good_high, good_unhit, good_pair, good_loop}
use Rattle.good_parts.proofs.is_good.Goals as goal

pub returns-then-graph-v : goal.returns-then-graph-v
returns-then-graph-v c = good_high _ _ _ c.requires c.if-graph-v.true

pub returns-then-work-hits-eq0 : goal.returns-then-work-hits-eq0
returns-then-work-hits-eq0 c =
    good_unhit _ _ _ c.requires c.if-graph-v.false
    (rw (c.hits.ensures, c.labels.ensures, c.rows-rows.ensures) at c.if-work-hits-eq0.true)

pub has_loop-requires : goal.has_loop-requires
has_loop-requires c =
    record {
      sound = c.requires.sound;
      vertex = c.requires.vertex;
      rising = c.requires.sound.edges.offset_next _ c.requires.vertex;
      top = edge_within _ c.requires.sound _ c.requires.vertex;
    }

pub returns-then-work-pairs-ne0 : goal.returns-then-work-pairs-ne0
returns-then-work-pairs-ne0 c =
    rw (ne_eqb _ 0 c.if-work-pairs-ne0.true)
    (good_pair _ _ _ c.requires c.if-graph-v.false
    (rw (c.hits.ensures, c.labels.ensures, c.rows-rows.ensures) at c.if-work-hits-eq0.false)
    (rw (c.pairs.ensures, c.labels.ensures, c.rows-rows.ensures) at c.if-work-pairs-ne0.true))

pub returns-else-work-pairs-ne0 : goal.returns-else-work-pairs-ne0
returns-else-work-pairs-ne0 c =
    c.has_loop.ensures ∙
    good_loop _ _ _ c.requires c.if-graph-v.false
    (rw (c.hits.ensures, c.labels.ensures, c.rows-rows.ensures) at c.if-work-hits-eq0.false)
    (rw (c.pairs.ensures, c.labels.ensures, c.rows-rows.ensures) at c.if-work-pairs-ne0.false)
