use Rattle.std.proofs.Common.{◌≡◌, ◌+◌, length, drop}
use Rattle.flu_model.specs.Listing.{itags_of_sources}
use Rattle.flu_rules.proofs.tags.has_few_itags.Given as goal

abbrev pub invariant-loop-source : goal.invariant-loop-source
invariant-loop-source l =
    256 + length (itags_of_sources l.source-index (drop l.source-index l.sources)) ≡ l.left + length (itags_of_sources 0 l.sources)
