use Rattle.std.proofs.Common.{sym, ap}
use Rattle.flu_lines.specs.Lines.{save_line, save_fault_text}
use Rattle.flu_lines.proofs.Written.{writes_as}
use Rattle.flu_lines.proofs.lines.write_save_fault.Goals as goal

pub returns-in-OverLimit : goal.returns-in-OverLimit
returns-in-OverLimit g c = writes_as _ _ _ _ _ _ c.write_over_limit.result
    (ap (λ fault. save_line (save_fault_text fault)) (sym c.in-OverLimit.is)) c.write_over_limit.ensures

pub returns-in-NotJson : goal.returns-in-NotJson
returns-in-NotJson g c = writes_as _ _ _ _ _ _ c.write_all.result (ap (λ fault. save_line (save_fault_text fault)) (sym c.in-NotJson.is)) c.write_all.ensures

pub returns-in-WrongForm : goal.returns-in-WrongForm
returns-in-WrongForm g c = writes_as _ _ _ _ _ _ c.write_all-in-WrongForm.result
    (ap (λ fault. save_line (save_fault_text fault)) (sym c.in-WrongForm.is)) c.write_all-in-WrongForm.ensures

pub returns-in-OtherJob : goal.returns-in-OtherJob
returns-in-OtherJob g c = writes_as _ _ _ _ _ _ c.write_all-in-OtherJob.result
    (ap (λ fault. save_line (save_fault_text fault)) (sym c.in-OtherJob.is)) c.write_all-in-OtherJob.ensures

pub returns-in-NoMemory : goal.returns-in-NoMemory
returns-in-NoMemory g c = writes_as _ _ _ _ _ _ c.write_all-in-NoMemory.result
    (ap (λ fault. save_line (save_fault_text fault)) (sym c.in-NoMemory.is)) c.write_all-in-NoMemory.ensures
