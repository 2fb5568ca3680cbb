use Rattle.std.proofs.Common.{◌≡◌, rules, arith}
use Rattle.std.proofs.lemmas.Grind.{common_steps}
use Rattle.serde_json.specs.View.{view}
use Rattle.flu_partial.specs.declared.fault.LineFault.TheVariants.{NoMemory}
use Rattle.flu_partial.specs.Forms.{IsHeadLine, IsShort}
use Rattle.flu_partial.proofs.Found.{head_is_json}
use Rattle.flu_partial.proofs.Reading.{line_of_some, fault_of_none, answer_of, memory_only}
use Rattle.flu_partial.proofs.heads.read_head.Goals as goal

pub returns-in_err-value-clause-found : goal.returns-in_err-value-clause-found
returns-in_err-value-clause-found c h line =
    let only : c.in_err-value.field-0.0 ≡ NoMemory = memory_only c.args.bytes.now c.in_err-value.field-0.0 c.in_err-value.ensures.fault
    (head_is_json h c.args.bytes.now line) in
    first_of (search rules, grind (arith, common_steps))

pub returns-clause-head : goal.returns-clause-head
returns-clause-head c =
    line_of_some IsHeadLine c.args.bytes.now c.in_ok-head_of.field-0 c.in_ok-head_of.ensures.line c.ok_or.result c.ok_or.ensures.value

pub returns-clause-fault : goal.returns-clause-fault
returns-clause-fault c =
    let short : IsShort c.args.bytes.now = omega (arith, c.if-bytes-gt-MOST_BYTES.false) in
    fault_of_none IsHeadLine c.args.bytes.now (view c.in_ok-value.value) short c.in_ok-value.ensures.json c.in_ok-head_of.field-0
    c.in_ok-head_of.ensures.found c.ok_or.result c.ok_or.ensures.value

pub returns-clause-found : goal.returns-clause-found
returns-clause-found c h line = answer_of h c.in_ok-head_of.field-0 (c.in_ok-head_of.ensures.found h line) c.ok_or.result c.ok_or.ensures.value
