use Rattle.std.proofs.Common.{◌∙◌}
use Rattle.flu_plan.proofs.NameLemmas.{position_by_bytes}
use Rattle.flu_plan.proofs.resolving.place_named.Goals as goal

pub returns : goal.returns
returns c = c.get_index_of.ensures.index ∙ position_by_bytes (λ k. k.now) c.args.name.now c.args.names.now.keys
