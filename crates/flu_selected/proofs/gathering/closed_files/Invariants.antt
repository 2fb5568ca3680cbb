use Rattle.std.proofs.Common.{◌≡◌, take}
use Rattle.std.specs.List.{filter_map}
use Rattle.flu_streams.specs.Before.{each_with_before}
use Rattle.flu_selected.specs.Gathering.{reads}
use Rattle.flu_selected.specs.Laws.{closed_file}
use Rattle.flu_selected.proofs.gathering.closed_files.Given as goal

abbrev pub invariant-loop-number : goal.invariant-loop-number
invariant-loop-number l = l.names.items ≡ filter_map (closed_file (reads l.is_read)) (each_with_before (take l.number l.p.sources))
