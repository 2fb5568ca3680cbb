use Rattle.std.proofs.Common.{sym, ap, ◌++◌}
use Rattle.std.specs.Prelude.{codes}
use Rattle.flu_lines.specs.PartLines.{text_fault_text}
use Rattle.flu_lines.proofs.Written.{writes_as}
use Rattle.flu_lines.proofs.part_lines.write_text_fault.Goals as goal

pub returns-in-OverLimit : goal.returns-in-OverLimit
returns-in-OverLimit g c = writes_as _ _ _ _ _ _ c.write_all.result (ap (λ fault. text_fault_text fault ++ codes "\n") (sym c.in-OverLimit.is)) c.write_all.ensures

pub returns-in-OutOfOrder : goal.returns-in-OutOfOrder
returns-in-OutOfOrder g c = writes_as _ _ _ _ _ _ c.write_at_line-in-OutOfOrder.result
    (ap (λ fault. text_fault_text fault ++ codes "\n") (sym c.in-OutOfOrder.is)) c.write_at_line-in-OutOfOrder.ensures
