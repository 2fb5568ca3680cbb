use Rattle.flu_command.proofs.Mendings.{goes_on_mended}
use Rattle.flu_command.proofs.mending.mended_rounds_go_on.Goals as goal

pub returns : goal.returns
returns c = goes_on_mended
