use Rattle.std.proofs.Common.{sym, ap}
use Rattle.flu_lines.specs.Lines.{trace_fault_line}
use Rattle.flu_lines.proofs.Written.{writes_as}
use Rattle.flu_lines.proofs.lines.write_trace_fault.Goals as goal

pub returns-in-Bad : goal.returns-in-Bad
returns-in-Bad g c = writes_as _ _ _ _ _ _ c.write_trace_line.result (ap (trace_fault_line) (sym c.in-Bad.is)) c.write_trace_line.ensures

pub returns-in-NotEnabled : goal.returns-in-NotEnabled
returns-in-NotEnabled g c = writes_as _ _ _ _ _ _ c.write_trace_line-in-NotEnabled.result
    (ap (trace_fault_line) (sym c.in-NotEnabled.is)) c.write_trace_line-in-NotEnabled.ensures

pub returns-in-Incomplete : goal.returns-in-Incomplete
returns-in-Incomplete g c = writes_as _ _ _ _ _ _ c.write_trace_line-in-Incomplete.result
    (ap (trace_fault_line) (sym c.in-Incomplete.is)) c.write_trace_line-in-Incomplete.ensures

pub returns-in-ReadFault : goal.returns-in-ReadFault
returns-in-ReadFault g c = writes_as _ _ _ _ _ _ c.write_all.result (ap (trace_fault_line) (sym c.in-ReadFault.is)) c.write_all.ensures

pub returns-in-NoMemory : goal.returns-in-NoMemory
returns-in-NoMemory g c = writes_as _ _ _ _ _ _ c.write_all-in-NoMemory.result (ap (trace_fault_line) (sym c.in-NoMemory.is)) c.write_all-in-NoMemory.ensures
