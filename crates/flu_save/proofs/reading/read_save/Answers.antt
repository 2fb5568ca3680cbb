use Rattle.std.proofs.Common.{◌≡◌, Option, ◌∙◌, subst, arith}
use Rattle.std.specs.Prelude.{IfNone}
use Rattle.serde_json.specs.View.{view, items_view}
use Rattle.flu_model.specs.Erasure.{job_of}
use Rattle.flu_parse.specs.Printing.{normal_form}
use Rattle.flu_save.specs.Forms.{HasForm, IsOfJob, IsShort}
use Rattle.flu_save.specs.declared.reading.Parts.{Parts}
use Rattle.flu_save.proofs.Members.{checkpoint_form, save_value, same_texts, fault_of_none, answer_of}
use Rattle.flu_save.proofs.reading.read_save.Goals as goal

pub returns-in_default-clause-found : goal.returns-in_default-clause-found
returns-in_default-clause-found c t s is =
    let d = view c.in_ok-value.value in
    let form = checkpoint_form c.args.p.now t s d (save_value c.args.p.now t s c.args.bytes.now d is c.in_ok-value.ensures.json) in
    absurd (subst (λ (o : Option Parts). IfNone o (HasForm d → ⊥)) c.in_default.is c.parts_of.ensures.none form)

pub returns-clause-fault : goal.returns-clause-fault
returns-clause-fault c =
    let p = c.args.p.now in
    let d = view c.in_ok-value.value in
    let short : IsShort c.args.bytes.now = omega (arith, c.if-bytes-gt-MOST_BYTES.false) in
    let text : c.in-Some.parts.job.now ≡ normal_form
    (job_of p) = same_texts c.in-Some.parts.job.now c.as_str.result.now c.ne.result c.ne.ensures c.if-ne.false ∙ c.as_str.ensures
    ∙ c.in_ok-job.ensures.text in
    let job : IsOfJob d (normal_form (job_of p)) = subst (IsOfJob d) text
    (record { border = c.in-Some.parts.border; entries = items_view c.in-Some.parts.entries.now; parts = c.in-Some.ensures.some }) in
    fault_of_none p c.args.bytes.now d short c.in_ok-value.ensures.json job c.in_ok-saved_in.field-0 c.in_ok-saved_in.ensures.found c.ok_or.result
    c.ok_or.ensures.value

pub returns-clause-found : goal.returns-clause-found
returns-clause-found c t s is =
    let d = view c.in_ok-value.value in
    let checkpoint = save_value c.args.p.now t s c.args.bytes.now d is c.in_ok-value.ensures.json in
    answer_of t s c.in_ok-saved_in.field-0 (c.in_ok-saved_in.ensures.found t s checkpoint) c.ok_or.result c.ok_or.ensures.value
