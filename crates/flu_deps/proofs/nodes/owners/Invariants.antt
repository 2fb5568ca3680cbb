use Rattle.std.proofs.Common.{◌≡◌, ◌<◌, length, slice_index, EachIndex}
use Rattle.std.specs.Prelude.{Some}
use Rattle.flu_model.specs.declared.events.Itag.{Itag}
use Rattle.flu_model.specs.Owners.{owner_of}
use Rattle.flu_deps.proofs.nodes.owners.Given as goal

abbrev pub invariant-loop-i : goal.invariant-loop-i
invariant-loop-i l = record {
  size : length l.owners ≡ 256;
  owner : (k : Itag) → k.0 < l.i → owner_of l.p l.plan.nodes k ≡ Some (slice_index l.owners k.0);
  nodes : EachIndex l.owners (λ k. slice_index l.owners k < length l.plan.nodes);
}
