use Rattle.std.proofs.Common.{sym, ap, ◌∙◌}
use Rattle.std.specs.List.{insert}
use Rattle.flu_planner.specs.LoopReaching.{has_greater_total}
use Rattle.flu_planner.proofs.Putting.{put_at_place}
use Rattle.flu_planner.proofs.components.add_component.Goals as goal

pub returns : goal.returns
returns c =
    let place = rw (c.deref.ensures.value, c.items.ensures) at c.place_of-place.ensures.place in
    c.in_ok-insert.ensures.items ∙ ap (λ k. insert c.args.components.now.items k c.args.component) place
    ∙ sym (put_at_place (has_greater_total c.args.rates.now) c.args.component c.args.components.now.items)
