-- The parts that were read of a contribution.
use Rattle.std.specs.Prelude.{◌≡◌, Option, Some, None, map}
use Rattle.serde_json.specs.View.{items_of, items_view}
use Rattle.flu_partial.specs.declared.values.Emitted.{Emitted}
use Rattle.flu_partial.specs.declared.values.Contribution.{Contribution}
use Rattle.flu_partial.specs.declared.contributions.Parts.{Parts}
use Rattle.flu_partial.specs.declared.contributions.EmittedParts.{EmittedParts}
use Rattle.flu_partial.specs.Partial.{amount_value, emitted_value}

abbrev pub AreParts : Option Parts → Contribution → Type 0
AreParts None c = ⊥
AreParts (Some r) c =
    (r.place ≡ c.place) × (r.events ≡ c.events) × (items_view r.cells.now ≡ items_of (map amount_value c.cells))
    × (items_view r.outs.now ≡ items_of (map emitted_value c.outs))

abbrev pub AreEmittedParts : Option EmittedParts → Emitted → Type 0
AreEmittedParts None o = ⊥
AreEmittedParts (Some r) o = (r.time ≡ o.time) × (r.tag.now ≡ o.tag) × (r.text.now ≡ o.text)
