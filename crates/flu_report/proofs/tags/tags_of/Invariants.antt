use Rattle.std.proofs.Common.{take}
use Rattle.flu_report.specs.Tagging.{IsTagged}
use Rattle.flu_report.proofs.tags.tags_of.Given as goal

abbrev pub invariant-loop-out : goal.invariant-loop-out
invariant-loop-out l = IsTagged l.p l.tags (take l.out-index l.outs)
