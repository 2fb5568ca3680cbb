use Rattle.std.proofs.Common.{subst}
use Rattle.flu_net.specs.Rule.{IsWell}
use Rattle.flu_net.proofs.net.Net.outputs.Goals as goal

pub returns-clause-once : goal.returns-clause-once
returns-clause-once c = λ gone. (subst IsWell c.self.view_is c.self.invariant gone).tells
