use Rattle.flu_grammar.proofs.Faults.{family_is_unknown, kind_is_unknown, plan_kind_is_unknown, plan_source_is_unknown, child_is_unknown}
use Rattle.flu_grammar.proofs.laws.unknown_names_are_not_declared.Goals as goal

pub returns-clause-family : goal.returns-clause-family
returns-clause-family c = family_is_unknown

pub returns-clause-kind : goal.returns-clause-kind
returns-clause-kind c = kind_is_unknown

pub returns-clause-plan_kind : goal.returns-clause-plan_kind
returns-clause-plan_kind c = plan_kind_is_unknown

pub returns-clause-plan_source : goal.returns-clause-plan_source
returns-clause-plan_source c = plan_source_is_unknown

pub returns-clause-child : goal.returns-clause-child
returns-clause-child c = child_is_unknown
