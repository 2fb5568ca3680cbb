use Rattle.std.proofs.Common.{◌≡◌, map, take}
use Rattle.std.specs.List.{flat_map}
use Rattle.std.specs.String.{string_bytes}
use Rattle.flu_model.specs.Reports.{line_bytes}
use Rattle.flu_report.specs.Entries.{line_at}
use Rattle.flu_report.proofs.lines.text_of.Given as goal

abbrev pub invariant-loop-entry : goal.invariant-loop-entry
invariant-loop-entry l = string_bytes l.text ≡ flat_map (line_bytes l.iso) (map line_at (take l.entry-index l.entries))
