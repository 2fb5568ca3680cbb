use Rattle.flu_grammar.proofs.NormalForms.{normal_form_is_short}
use Rattle.flu_grammar.proofs.laws.normal_forms_are_short.Goals as goal

pub returns : goal.returns
returns c = normal_form_is_short c.tokens_stand.ensures.spans
