use Rattle.std.proofs.Common.{◌≡◌, ◌+◌, drop}
use Rattle.flu_parse.specs.Templates.{field_at, scan, scan_start}
use Rattle.flu_parse.specs.Scans.{scan_of}
use Rattle.flu_parse.proofs.scanning.scan.Given as goal

abbrev pub invariant-loop-i : goal.invariant-loop-i
invariant-loop-i l =
    scan (field_at l.text l.version l.in_flush) (scan_of l.scanner) (l.from + l.i) (drop l.i l.bytes) ≡ scan (field_at l.text l.version l.in_flush)
    (scan_start l.from) l.from l.bytes
