-- What contracts see of a scan.
use Rattle.std.specs.Prelude.{◌≡◌, Bool, true, false, Option, Some, None}
use Rattle.flu_parse.specs.declared.pieces.Scanner.{Scanner}
use Rattle.flu_parse.specs.declared.pieces.ScannedTemplate.{ScannedTemplate}
use Rattle.flu_parse.specs.Templates.{Scan, Template}

abbrev pub scan_of : Scanner → Scan
scan_of s = record { pieces = s.pieces.items; start = s.start; in_field = s.in_field }

abbrev pub template_of_scan : ScannedTemplate → Template
template_of_scan t = record { pieces = t.pieces.items; whole = t.whole }

-- the scan continues, or stops before a faulty brace
abbrev pub Steps : Bool → Scan → Scan → Option Scan → Type 0
Steps true old new found = found ≡ Some new
Steps false old new found = (found ≡ None) × (new.pieces ≡ old.pieces)
