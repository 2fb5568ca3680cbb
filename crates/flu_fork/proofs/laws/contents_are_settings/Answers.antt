use Rattle.flu_fork.proofs.LotLemmas.{setting_holds}
use Rattle.flu_fork.proofs.laws.contents_are_settings.Goals as goal

pub returns : goal.returns
returns c = setting_holds
