-- `count_down` meets its contract: a vertex that was met has its counter in the table, and one that was not gets it now.
use mathlib.Core.Bool.{Bool}
use mathlib.Core.Path.{◌≡◌, sym, ◌∙◌}
use Prim.Native.Nat.{◌+◌, ◌-◌}
use lib.ListN.{length, take, drop}
use Rattle.rules.specs.Words.{set_of}
use Rattle.area.specs.Area.{counters, met_at, set_at}
use Rattle.attractor_counters.specs.Counters.{met_bit, met_asked, met_some, met_down, inside_ready, new_some, new_down}
use Rattle.attractor_counters.proofs.counters.count_down.Goals as goal
use Rattle.attractor_counters.proofs.counters.count_down.Goals.{After-counters}

-- where those met and the counters stand
met_is : (c : After-counters) → c.met-met.result ≡ met_at (c.args.n) (length c.args.targets.now)
met_is c = c.met-met.ensures

base_is :
    (c : After-counters) → c.counters.result ≡ counters (c.args.n) (length c.args.targets.now)
base_is c = c.counters.ensures

-- whether v was met
asked :
    (c : After-counters) {b : Bool} →
    b ≡ set_of (take ((c.met-met.result + c.args.s) - c.met-met.result) (drop c.met-met.result c.args.work.now)) c.args.v →
    let n = c.args.n in
    b ≡ set_at n (met_at n (length c.args.targets.now)) c.args.work.now c.args.v
asked c e = e ∙ met_asked c.requires (met_is c) (base_is c)

pub contains-requires : goal.contains-requires
contains-requires c =
    let k = (goal.at.contains-requires c).After-counters in
    met_bit c.requires (met_is k) (base_is k)

pub overflow_sub-left : goal.overflow_sub-left
overflow_sub-left c =
    let k = (goal.at.overflow_sub-left c).After-counters in
    met_some c.requires (met_is k) (base_is k) (sym (asked k c.contains.ensures) ∙ c.if-contains.true)

pub returns-then-contains : goal.returns-then-contains
returns-then-contains c =
    let k = (goal.at.returns-then-contains c).After-counters in
    met_down c.requires (met_is k) (base_is k) (sym (asked k c.contains.ensures) ∙ c.if-contains.true)

pub insert-requires : goal.insert-requires
insert-requires c =
    let k = (goal.at.insert-requires c).After-counters in
    met_bit c.requires (met_is k) (base_is k)

pub inside_edges-left-requires : goal.inside_edges-left-requires
inside_edges-left-requires c =
    let k = (goal.at.inside_edges-left-requires c).After-counters in
    inside_ready c.requires (met_is k) (base_is k) (sym (asked k c.contains.ensures) ∙ c.if-contains.false)
    c.insert.new.set c.insert.ensures

pub overflow_sub-left-2 : goal.overflow_sub-left-2
overflow_sub-left-2 c =
    let k = (goal.at.overflow_sub-left-2 c).After-counters in
    new_some c.requires (met_is k) (base_is k) (sym (asked k c.contains.ensures) ∙ c.if-contains.false)
    c.insert.new.set c.insert.ensures c.inside_edges-left.result c.inside_edges-left.ensures

pub returns : goal.returns
returns c =
    let k = (goal.at.returns c).After-counters in
    new_down c.requires (met_is k) (base_is k) (sym (asked k c.contains.ensures) ∙ c.if-contains.false)
    c.insert.new.set c.insert.ensures c.inside_edges-left.result c.inside_edges-left.ensures
