use Rattle.std.proofs.Common.{◌≡◌, take, length, None}
use Rattle.std.specs.List.{flat_map, position}
use Rattle.flu_model.specs.Listing.{listed_tags}
use Rattle.flu_model.specs.Rules.{is_same_tag}
use Rattle.flu_streams.proofs.tags.place_of.Given as goal

abbrev pub invariant-loop-listed : goal.invariant-loop-listed
invariant-loop-listed l = record {
  count : l.count ≡ length (flat_map listed_tags (take l.listed-index l.tags));
  none : position (is_same_tag l.tag) (flat_map listed_tags (take l.listed-index l.tags)) ≡ None;
}
