use Rattle.flu_grammar.proofs.Utf8.{normal_form_is_utf8}
use Rattle.flu_grammar.proofs.laws.normal_forms_are_utf8.Goals as goal

pub returns : goal.returns
returns c = normal_form_is_utf8
