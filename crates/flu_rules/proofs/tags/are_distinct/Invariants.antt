use Rattle.std.proofs.Common.{◌≡◌, drop}
use Rattle.std.specs.List.{flat_map}
use Rattle.flu_model.specs.Listing.{listed_tags}
use Rattle.flu_model.specs.Rules.{are_distinct, is_same_tag}
use Rattle.flu_rules.proofs.tags.are_distinct.Given as goal

abbrev pub invariant-loop-index : goal.invariant-loop-index
invariant-loop-index l =
    are_distinct is_same_tag (flat_map listed_tags (drop l.index l.tags)) ≡ are_distinct is_same_tag (flat_map listed_tags l.tags)
