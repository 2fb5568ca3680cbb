use Rattle.std.proofs.Common.{subst}
use Rattle.flu_net.specs.Rule.{IsWell}
use Rattle.flu_net.proofs.net.Net.rule.Goals as goal

pub returns : goal.returns
returns c = subst IsWell c.self.view_is c.self.invariant
