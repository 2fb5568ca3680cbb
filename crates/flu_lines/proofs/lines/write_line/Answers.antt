use Rattle.std.proofs.Common.{sym, ap, ◌∙◌, List, ℕ}
use Rattle.flu_model.specs.declared.jobs.Program.{Program}
use Rattle.flu_lines.specs.Answer.{line_of}
use Rattle.flu_lines.specs.Lines.{source_fault_line}
use Rattle.flu_lines.specs.Names.{source_name}
use Rattle.flu_lines.proofs.Written.{writes_as}
use Rattle.flu_lines.proofs.lines.write_line.Goals as goal

pub returns-in-SourceFault : goal.returns-in-SourceFault
returns-in-SourceFault g c =
    let fault = c.in-SourceFault.fault in
    let name = c.source_name.ensures ∙ ap (λ (p : Program). source_name p fault.source) c.program.ensures in
    writes_as _ _ _ _ _ _ c.write_source_fault.result
    (ap (λ (n : List ℕ). source_fault_line n fault.row fault.why) name ∙ ap (line_of) (sym c.in-SourceFault.is)) c.write_source_fault.ensures

pub returns-in-ReadFault : goal.returns-in-ReadFault
returns-in-ReadFault g c = writes_as _ _ _ _ _ _ c.write_all.result (ap (line_of) (sym c.in-ReadFault.is)) c.write_all.ensures

pub returns-in-WriteFault : goal.returns-in-WriteFault
returns-in-WriteFault g c = writes_as _ _ _ _ _ _ c.write_all-in-WriteFault.result (ap (line_of) (sym c.in-WriteFault.is)) c.write_all-in-WriteFault.ensures

pub returns-in-NoMemory : goal.returns-in-NoMemory
returns-in-NoMemory g c = writes_as _ _ _ _ _ _ c.write_all-in-NoMemory.result (ap (line_of) (sym c.in-NoMemory.is)) c.write_all-in-NoMemory.ensures

pub returns-in-PutFault : goal.returns-in-PutFault
returns-in-PutFault g c = writes_as _ _ _ _ _ _ c.write_all-in-PutFault.result (ap (line_of) (sym c.in-PutFault.is)) c.write_all-in-PutFault.ensures
