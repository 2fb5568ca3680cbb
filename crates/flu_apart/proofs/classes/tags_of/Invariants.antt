use Rattle.std.proofs.Common.{◌≡◌, ◌<◌, ℕ, length}
use Rattle.std.specs.Prelude.{slice_index_or}
use Rattle.flu_model.specs.Listing.{tag}
use Rattle.flu_apart.specs.Classes.{tag_at}
use Rattle.flu_apart.proofs.classes.tags_of.Given as goal

abbrev pub invariant-loop-i : goal.invariant-loop-i
invariant-loop-i l = (length l.tags ≡ 256) × ((k : ℕ) → k < l.i → slice_index_or l.tags k (tag 0 0) ≡ tag_at l.p k)
