use Rattle.flu_partial.proofs.Utf8.{law_of_printed_heads}
use Rattle.flu_partial.proofs.laws.printed_heads_are_lines.Goals as goal

pub returns : goal.returns
returns c = law_of_printed_heads
