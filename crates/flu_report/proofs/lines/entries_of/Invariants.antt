use Rattle.std.proofs.Common.{◌≡◌, map, take}
use Rattle.flu_model.specs.Reports.{line_of}
use Rattle.flu_report.specs.Entries.{line_at}
use Rattle.flu_report.proofs.lines.entries_of.Given as goal

abbrev pub invariant-loop-out : goal.invariant-loop-out
invariant-loop-out l = map line_at l.entries.items ≡ map (line_of l.p) (take l.out-index l.outs)
