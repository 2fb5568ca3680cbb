use Rattle.std.proofs.Common.{◌≡◌, ◌+◌, length, drop}
use Rattle.std.specs.List.{flat_map}
use Rattle.flu_model.specs.Listing.{listed_tags}
use Rattle.flu_rules.proofs.tags.left_after.Given as goal

abbrev pub invariant-loop-listed : goal.invariant-loop-listed
invariant-loop-listed l = l.room + length (flat_map listed_tags (drop l.listed-index l.tags)) ≡ l.left + length (flat_map listed_tags l.tags)
