use Rattle.std.proofs.Common.{sym, ap}
use Rattle.flu_lines.specs.Lines.{source_fault_line}
use Rattle.flu_lines.proofs.Written.{writes_as}
use Rattle.flu_lines.proofs.lines.write_source_fault.Goals as goal

pub returns-in-UnknownTag : goal.returns-in-UnknownTag
returns-in-UnknownTag g c = writes_as _ _ _ _ _ _ c.write_row-in-UnknownTag.result
    (ap (source_fault_line c.args.name.now c.args.row) (sym c.in-UnknownTag.is)) c.write_row-in-UnknownTag.ensures

pub returns-in-UnknownItem : goal.returns-in-UnknownItem
returns-in-UnknownItem g c = writes_as _ _ _ _ _ _ c.write_row-in-UnknownItem.result
    (ap (source_fault_line c.args.name.now c.args.row) (sym c.in-UnknownItem.is)) c.write_row-in-UnknownItem.ensures
