use Rattle.flu_command.proofs.Starts.{starts_some}
use Rattle.flu_command.proofs.one_text.starts_have_rows.Goals as goal

pub returns : goal.returns
returns c = starts_some
