use Rattle.std.proofs.Common.{◌≡◌, ℕ}
use Rattle.std.specs.Prelude.{◌==◌, ◌&&◌}
use Rattle.std.specs.List.{list_any, range_with_len}
use Rattle.flu_model.specs.Itags.{source_of_itag}
use Rattle.flu_deps.specs.Validated.{plan_of}
use Rattle.flu_apart.specs.Classes.{itag}
use Rattle.flu_contribution.specs.Sharing.{needs_itag}
use Rattle.flu_selected.specs.Gathering.{reads as is_read_by}
use Rattle.flu_readers.proofs.readers.sources_of_node.Given as goal

abbrev pub invariant-loop-i : goal.invariant-loop-i
invariant-loop-i l =
    (s : ℕ) → is_read_by l.read s
    ≡ list_any (λ i. needs_itag l.p (plan_of l.v).nodes l.w i && (source_of_itag l.p (itag i) == s)) (range_with_len 0 l.i)
