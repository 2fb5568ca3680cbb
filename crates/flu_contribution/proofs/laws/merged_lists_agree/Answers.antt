use Rattle.flu_contribution.proofs.Merged.{lists_agree, lists_pass_alike}
use Rattle.flu_contribution.proofs.laws.merged_lists_agree.Goals as goal

pub returns : goal.returns
returns c = record { events = λ test whole part e f long alike. lists_pass_alike test whole part long alike; itags = lists_agree }
