use Rattle.std.proofs.Common.{◌≡◌, Some, List, subst}
use Rattle.std.specs.Prelude.{slice_get}
use Rattle.std.proofs.lemmas.Grind.{common_steps}
use Rattle.std.proofs.Common.{arith}
use Rattle.flu_mail.specs.declared.keys.Key.{Key}
use Rattle.flu_mail.specs.Orders.{IsLeastOf}
use Rattle.flu_mail.proofs.OrderLemmas.{root_is_least}
use Rattle.flu_mail.proofs.order.Order.least.Goals as goal

pub returns-in-Some-clause-some : goal.returns-in-Some-clause-some
returns-in-Some-clause-some c =
    let root = c.in-Some.root.now in
    let here : slice_get c.self.inside.nodes.items 1 ≡ Some root = first_of (cc, grind (arith, common_steps)) in
    subst (λ (keys : List Key). IsLeastOf keys root) c.self.view_is
    (root_is_least c.self.inside.size c.self.inside.nodes.items root c.self.invariant here)
