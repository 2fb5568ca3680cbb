use Rattle.std.proofs.Common.{◌∙◌}
use Rattle.flu_gen.proofs.Counting.{count_of_events, lists_for_itags}
use Rattle.flu_gen.proofs.Streaming.{good_lists}
use Rattle.flu_gen.proofs.streams.demo_streams.Goals as goal

pub new-requires : goal.new-requires
new-requires c = good_lists c.args.n c.args.seed _ c.in_ok-lists.ensures

pub returns-clause-one_each : goal.returns-clause-one_each
returns-clause-one_each c = lists_for_itags c.args.n c.args.seed c.args.p.now _ c.requires.job (c.new.ensures ∙ c.in_ok-lists.ensures)

pub returns-clause-events : goal.returns-clause-events
returns-clause-events c = count_of_events c.args.n c.args.seed _ (c.new.ensures ∙ c.in_ok-lists.ensures)
