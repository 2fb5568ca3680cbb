use Rattle.std.proofs.Common.{◌≡◌, map, take}
use Rattle.flu_model.specs.declared.events.Item.TheVariants.{Event as EventItem}
use Rattle.flu_gen.specs.DemoStreams.{of_itag}
use Rattle.flu_gen.proofs.streams.items_of.Given as goal

abbrev pub invariant-loop-event : goal.invariant-loop-event
invariant-loop-event l = l.items.items ≡ map EventItem (of_itag l.itag (take l.event-index l.events))
