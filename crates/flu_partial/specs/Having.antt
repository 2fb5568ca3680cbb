-- Which members a JSON value has.
use Rattle.std.specs.Prelude.{◌≡◌, Some, None, map, codes}
use Rattle.serde_json.specs.Data.{Data, number, unsigned, string, array}
use Rattle.serde_json.specs.Find.{get}
use Rattle.serde_json.specs.View.{items_of}
use Rattle.flu_partial.specs.declared.values.PartialHead.{PartialHead}
use Rattle.flu_partial.specs.declared.values.Contribution.{Contribution}
use Rattle.flu_partial.specs.declared.values.Place.{Place}
use Rattle.flu_partial.specs.declared.values.Place.TheVariants.{Before, End}
use Rattle.flu_partial.specs.Partial.{time_or_null, amount_value, emitted_value}

-- the value has the members of a head
pub record HasHead (d : Data) (h : PartialHead) : Type 0 where
  pub first : get (codes "first") d ≡ Some (time_or_null h.first)
  pub job : get (codes "job") d ≡ Some (string h.job)
  pub node : get (codes "node") d ≡ Some (string h.node)
  pub plan : get (codes "plan") d ≡ Some (string h.plan)

-- the members of a place
abbrev pub HasPlace : Data → Place → Type 0
HasPlace d (Before time itag) =
    (get (codes "last") d ≡ None) × (get (codes "time") d ≡ Some (number (unsigned time)))
    × (get (codes "itag") d ≡ Some (number (unsigned itag.0)))
HasPlace d (End last) = get (codes "last") d ≡ Some (time_or_null last)

-- the value has the members of a contribution
pub record HasContribution (d : Data) (c : Contribution) : Type 0 where
  pub cells : get (codes "cells") d ≡ Some (array (items_of (map amount_value c.cells)))
  pub events : get (codes "events") d ≡ Some (number (unsigned c.events))
  pub outs : get (codes "outs") d ≡ Some (array (items_of (map emitted_value c.outs)))
  pub place : HasPlace d c.place
