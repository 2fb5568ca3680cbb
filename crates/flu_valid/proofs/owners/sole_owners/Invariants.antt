use Rattle.std.proofs.Common.{◌≡◌, ◌<◌, length}
use Rattle.flu_model.specs.declared.events.Itag.{Itag}
use Rattle.flu_valid.specs.Faults.{HasOneOwner}
use Rattle.flu_valid.specs.LoopSearch.{AreSoleOwners}
use Rattle.flu_valid.proofs.owners.sole_owners.Given as goal

abbrev pub invariant-loop-i : goal.invariant-loop-i
invariant-loop-i l = record {
  size : length l.owners ≡ 256;
  sole : AreSoleOwners l.p l.plan.nodes l.owners l.i;
  counted : (k : Itag) → k.0 < l.i → HasOneOwner l.p l.plan.nodes k;
}
