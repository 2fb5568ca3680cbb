use Rattle.flu_layout.proofs.Kept.{read_may_be_printed}
use Rattle.flu_layout.proofs.laws.read_may_be_printed.Goals as goal

pub returns : goal.returns
returns c =
    read_may_be_printed c.names_are_tested.ensures.names c.reading_is_exact.ensures.tokens c.tokens_stand.ensures.each c.tokens_stand.ensures.spans
    c.tokens_stand.ensures.inside
