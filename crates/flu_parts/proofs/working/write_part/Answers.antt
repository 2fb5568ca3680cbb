use Rattle.flu_deps.specs.Checking.{program_of}
use Rattle.flu_deps.specs.Validated.{plan_of}
use Rattle.flu_parts.proofs.BehindTexts.{left_of_node}
use Rattle.flu_parts.proofs.working.write_part.Goals as goal

pub returns-in-Ok-write_partial-clause-others : goal.returns-in-Ok-write_partial-clause-others
returns-in-Ok-write_partial-clause-others g c job plan =
    left_of_node (program_of c.args.checked.now) (plan_of c.args.valid.now).nodes job plan c.args.node.now c.in-Ok.w c.in-Ok.ensures.node _ _
    c.write_partial.ensures.others

pub returns-in-Err-Source-clause-others : goal.returns-in-Err-Source-clause-others
returns-in-Err-Source-clause-others g c job plan =
    left_of_node (program_of c.args.checked.now) (plan_of c.args.valid.now).nodes job plan c.args.node.now c.in-Ok.w c.in-Ok.ensures.node _ _
    c.write_partial.ensures.others

pub returns-in-Err-ReadFault-clause-others : goal.returns-in-Err-ReadFault-clause-others
returns-in-Err-ReadFault-clause-others g c job plan =
    left_of_node (program_of c.args.checked.now) (plan_of c.args.valid.now).nodes job plan c.args.node.now c.in-Ok.w c.in-Ok.ensures.node _ _
    c.write_partial.ensures.others

pub returns-in-Err-WriteFault-clause-others : goal.returns-in-Err-WriteFault-clause-others
returns-in-Err-WriteFault-clause-others g c job plan =
    left_of_node (program_of c.args.checked.now) (plan_of c.args.valid.now).nodes job plan c.args.node.now c.in-Ok.w c.in-Ok.ensures.node _ _
    c.write_partial.ensures.others

pub returns-in-Err-NoMemory-clause-others : goal.returns-in-Err-NoMemory-clause-others
returns-in-Err-NoMemory-clause-others g c job plan =
    left_of_node (program_of c.args.checked.now) (plan_of c.args.valid.now).nodes job plan c.args.node.now c.in-Ok.w c.in-Ok.ensures.node _ _
    c.write_partial.ensures.others
