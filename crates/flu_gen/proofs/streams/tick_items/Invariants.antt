use Rattle.std.proofs.Common.{◌≡◌, map, filter}
use Rattle.std.specs.List.{range_with_len}
use Rattle.flu_model.specs.declared.events.Item.TheVariants.{Event as EventItem}
use Rattle.flu_gen.proofs.Drawing.{tick_at, is_tick_time}
use Rattle.flu_gen.proofs.streams.tick_items.Given as goal

abbrev pub invariant-loop-turn : goal.invariant-loop-turn
invariant-loop-turn l =
    l.items.items ≡ map EventItem (map tick_at (filter is_tick_time (range_with_len 1 l.turn)))
