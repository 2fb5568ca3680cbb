use Rattle.std.proofs.Common.{◌≡◌}
use Rattle.flu_planner.proofs.Rising.{rising_is}
use Rattle.flu_planner.proofs.removal.rising.Goals as goal

pub returns : goal.returns
returns c =
    let copied : c.in_ok-order.order.items ≡ c.args.itags.now = c.in_ok-order.ensures.items_if_clones_equal (λ x y e. e) in
    rising_is c.args.itags.now c.sort_unstable.new.self.items c.sort_unstable.ensures.sorted (rw copied at c.sort_unstable.ensures.permutation)
