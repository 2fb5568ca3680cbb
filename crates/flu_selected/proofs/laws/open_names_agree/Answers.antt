use Rattle.std.proofs.Common.{ap}
use Rattle.std.specs.Option.{option_or}
use Rattle.flu_selected.proofs.Lists.{open_left}
use Rattle.flu_selected.proofs.laws.open_names_agree.Goals as goal

pub returns-clause-always : goal.returns-clause-always
returns-clause-always c = λ lines left name none. ap (λ line. option_or line (left name)) none

pub returns-clause-at_start : goal.returns-clause-at_start
returns-clause-at_start c = open_left
