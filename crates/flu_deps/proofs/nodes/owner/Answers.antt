use Rattle.std.proofs.Common.{sym, ◌∙◌}
use Rattle.flu_model.specs.Owners.{node_owns}
use Rattle.flu_lemmas.proofs.OnlyOne.{counted_stands}
use Rattle.flu_deps.proofs.nodes.owner.Goals as goal

pub unreachable-requires : goal.unreachable-requires
unreachable-requires c =
    counted_stands (node_owns c.args.p.now c.args.i) c.args.plan.now.nodes (c.requires.valid.one_owner c.args.i c.requires.in_range)
    (sym c.first_owner.ensures.owner ∙ c.in-None.is)
