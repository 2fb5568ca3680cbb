use Rattle.std.proofs.Common.{◌≤◌, ◌-◌, slice_index_or, arith}
use Rattle.std.proofs.lemmas.Grind.{common_steps}
use Rattle.flu_model.specs.declared.events.Item.TheVariants.{End}
use Rattle.flu_streams.specs.Lists.{item_time}
use Rattle.flu_streams.proofs.Placing.{up_to_last}
use Rattle.flu_streams.proofs.items.count_until.Goals as goal

pub returns-else-time_of-time-clause-earlier : goal.returns-else-time_of-time-clause-earlier
returns-else-time_of-time-clause-earlier c = λ i lt.
    let n = c.loop-count.count in
    let items = c.args.items.now in
    let last : item_time (slice_index_or items (n - 1) End) ≤ c.args.time = grind (arith, common_steps) in
    let k = up_to_last items n i c.requires c.loop-count.invariant.within lt in
    omega (arith, k, last)
