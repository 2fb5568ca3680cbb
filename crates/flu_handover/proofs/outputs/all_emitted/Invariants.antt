use Rattle.std.proofs.Common.{◌≡◌, map, take}
use Rattle.flu_handover.specs.Handing.{emitted_of}
use Rattle.flu_handover.proofs.outputs.all_emitted.Given as goal

abbrev pub invariant-loop-out : goal.invariant-loop-out
invariant-loop-out l = l.emitted.items ≡ map (emitted_of l.p) (take l.out-index l.outputs)
