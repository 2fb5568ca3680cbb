use Rattle.std.proofs.Common.{◌≡◌, map, take}
use Rattle.std.specs.List.{AllByRecursion}
use Rattle.flu_model.specs.declared.events.Out.{Out}
use Rattle.flu_handover.specs.Handing.{emitted_of, IsListed}
use Rattle.flu_handover.proofs.outputs.outputs_of.Given as goal

abbrev pub invariant-loop-one : goal.invariant-loop-one
invariant-loop-one l = record {
  listed : AllByRecursion (λ (x : Out). IsListed l.p x.tag) l.outs.items;
  same : map (emitted_of l.p) l.outs.items ≡ take l.one-index l.emitted;
}
