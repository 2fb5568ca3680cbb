use Rattle.std.proofs.Common.{sym, ap}
use Rattle.flu_lines.specs.Lines.{job_fault_line}
use Rattle.flu_lines.proofs.Written.{writes_as}
use Rattle.flu_lines.proofs.lines.write_job_fault.Goals as goal

pub returns-in-BadToken : goal.returns-in-BadToken
returns-in-BadToken g c = writes_as _ _ _ _ _ _ c.write_place-in-BadToken.result (ap (job_fault_line) (sym c.in-BadToken.is)) c.write_place-in-BadToken.ensures

pub returns-in-UnknownName : goal.returns-in-UnknownName
returns-in-UnknownName g c = writes_as _ _ _ _ _ _ c.write_place-in-UnknownName.result
    (ap (job_fault_line) (sym c.in-UnknownName.is)) c.write_place-in-UnknownName.ensures

pub returns-in-TwiceNamed : goal.returns-in-TwiceNamed
returns-in-TwiceNamed g c = writes_as _ _ _ _ _ _ c.write_place-in-TwiceNamed.result
    (ap (job_fault_line) (sym c.in-TwiceNamed.is)) c.write_place-in-TwiceNamed.ensures

pub returns-in-WrongShape : goal.returns-in-WrongShape
returns-in-WrongShape g c = writes_as _ _ _ _ _ _ c.write_place-in-WrongShape.result
    (ap (job_fault_line) (sym c.in-WrongShape.is)) c.write_place-in-WrongShape.ensures

pub returns-in-NoMemory : goal.returns-in-NoMemory
returns-in-NoMemory g c = writes_as _ _ _ _ _ _ c.write_all.result (ap (job_fault_line) (sym c.in-NoMemory.is)) c.write_all.ensures

pub returns-in-BadUtf8 : goal.returns-in-BadUtf8
returns-in-BadUtf8 g c = writes_as _ _ _ _ _ _ c.write_place.result (ap (job_fault_line) (sym c.in-BadUtf8.is)) c.write_place.ensures

pub returns-in-Unexpected : goal.returns-in-Unexpected
returns-in-Unexpected g c = writes_as _ _ _ _ _ _ c.write_place-in-Unexpected.result
    (ap (job_fault_line) (sym c.in-Unexpected.is)) c.write_place-in-Unexpected.ensures

pub returns-in-OverLimit : goal.returns-in-OverLimit
returns-in-OverLimit g c = writes_as _ _ _ _ _ _ c.write_over_limit.result (ap (job_fault_line) (sym c.in-OverLimit.is)) c.write_over_limit.ensures
