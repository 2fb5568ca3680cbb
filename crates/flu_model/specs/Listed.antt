-- The lists of items of streams.
use Rattle.std.specs.Prelude.{List, map}
use Rattle.flu_model.specs.declared.events.Item.{Item}
use Rattle.flu_model.specs.declared.streams.Streams.{Streams}

abbrev pub listed : Streams → List (List Item)
listed s = map (λ v. v.items) s.lists.items
