use Rattle.std.proofs.Common.{rules, tests}
use Rattle.std.proofs.lemmas.Iterator.{YieldsList-from_slice}
use Rattle.std.proofs.lemmas.Iterator.Search.{position_from_yields_List}
use Rattle.flu_model.specs.declared.jobs.Kind.{Kind}
use Rattle.flu_model.specs.Rules.{is_same_text}
use Rattle.flu_streams.proofs.tags.kind_named.Goals as goal

pub returns-clause-value : goal.returns-clause-value
returns-clause-value c = position_from_yields_List (λ (k : Kind). is_same_text k.name c.args.name.now) _ _ _ c.position.ensures.ran
    (YieldsList-from_slice c.args.kinds.now cc) (λ x b q k. search (rules, tests))
