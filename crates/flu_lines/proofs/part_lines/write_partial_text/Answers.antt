use Rattle.std.proofs.Common.{sym, ap, ◌++◌}
use Rattle.std.specs.Prelude.{codes}
use Rattle.flu_lines.specs.PartLines.{partial_defect_text}
use Rattle.flu_lines.proofs.Written.{writes_as}
use Rattle.flu_lines.proofs.part_lines.write_partial_text.Goals as goal

pub returns-in-TooLong : goal.returns-in-TooLong
returns-in-TooLong g c = writes_as _ _ _ _ _ _ c.write_all.result
    (ap (λ defect. partial_defect_text c.args.program.now c.args.plan.now.nodes defect ++ codes "\n") (sym c.in-TooLong.is)) c.write_all.ensures

pub returns-in-UnknownNode : goal.returns-in-UnknownNode
returns-in-UnknownNode g c = writes_as _ _ _ _ _ _ c.write_all-in-UnknownNode.result
    (ap (λ defect. partial_defect_text c.args.program.now c.args.plan.now.nodes defect ++ codes "\n") (sym c.in-UnknownNode.is)) c.write_all-in-UnknownNode.ensures

pub returns-in-WrongTimes : goal.returns-in-WrongTimes
returns-in-WrongTimes g c = writes_as _ _ _ _ _ _ c.write_all-in-WrongTimes.result
    (ap (λ defect. partial_defect_text c.args.program.now c.args.plan.now.nodes defect ++ codes "\n") (sym c.in-WrongTimes.is))
    c.write_all-in-WrongTimes.ensures
