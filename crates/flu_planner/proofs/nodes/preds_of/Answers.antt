use Rattle.std.proofs.lemmas.List.Elements.{Contains-get_or}
use Rattle.flu_planner.proofs.nodes.preds_of.Goals as goal

pub pred_of-requires : goal.pred_of-requires
pred_of-requires c = c.requires _ (Contains-get_or c.args.itags.now c.loop-i.i-index 0 c.loop-i-test.true)
