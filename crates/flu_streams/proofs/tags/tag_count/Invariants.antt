use Rattle.std.proofs.Common.{◌≡◌, take, length}
use Rattle.std.specs.List.{flat_map}
use Rattle.flu_model.specs.Listing.{listed_tags}
use Rattle.flu_streams.proofs.tags.tag_count.Given as goal

abbrev pub invariant-loop-listed : goal.invariant-loop-listed
invariant-loop-listed l = record {
  count : l.count ≡ length (flat_map listed_tags (take l.listed-index l.tags));
}
