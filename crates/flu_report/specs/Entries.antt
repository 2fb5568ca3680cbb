-- The line that an entry of the report stands for.
use Rattle.flu_model.specs.Reports.{Line}
use Rattle.flu_report.specs.declared.lines.Entry.{Entry}

abbrev pub line_at : Entry → Line
line_at e = record { time = e.time; tag = e.tag.now; text = e.text.now }
