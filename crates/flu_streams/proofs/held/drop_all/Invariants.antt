use Rattle.std.proofs.Common.{◌≡◌, ◌<◌, ◌≤◌, ℕ, Some, length}
use Rattle.std.specs.Prelude.{slice_get}
use Rattle.flu_streams.specs.declared.inlet.Inlet.{Inlet}
use Rattle.flu_streams.specs.LoopHeld.{DropsTo}
use Rattle.flu_streams.proofs.held.drop_all.Given as goal

abbrev pub invariant-loop-number : goal.invariant-loop-number
invariant-loop-number l = record {
  size : length l.inlets.items ≡ length l.fn.inlets.items;
  end : l.number-end ≡ length l.fn.inlets.items;
  done : (i : ℕ) (old new : Inlet) → i < l.number → slice_get l.fn.inlets.items i ≡ Some old → slice_get l.inlets.items i ≡ Some new → DropsTo l.time old new;
  ahead : (i : ℕ) → l.number ≤ i → slice_get l.inlets.items i ≡ slice_get l.fn.inlets.items i;
}
