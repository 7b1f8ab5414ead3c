-- `fresh` meets its contract: the tally, summed up.
use Rattle.kept_numbers.specs.Steps.{fresh_summed}
use Rattle.kept_numbers.proofs.fresh.Goals as goal

pub returns : goal.returns
returns c =
    let tallied = c.before.before.before.before in
    fresh_summed c.args.priorities.now tallied.tally-kept.result c.sum_up.new.kept
    tallied.tally-kept.ensures
    c.sum_up.ensures
