use Rattle.std.proofs.Common.{◌≡◌, map}
use Rattle.std.specs.List.{range_with_len}
use Rattle.flu_model.specs.Itags.{tag_of_itag}
use Rattle.flu_handover.specs.Parts.{named_tag}
use Rattle.flu_handover.proofs.tags.named_tags.Given as goal

abbrev pub invariant-loop-i : goal.invariant-loop-i
invariant-loop-i l = l.tags.items ≡ map (λ i. named_tag l.p (tag_of_itag l.p (record { 0 = i }))) (range_with_len 0 l.i)
