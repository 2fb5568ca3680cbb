use Rattle.std.proofs.Common.{refl, sym, ◌∙◌}
use Rattle.flu_combine.proofs.Judging.{none_related, ok_if_no_error, related_there, defect_of_first}
use Rattle.flu_combine.proofs.accepting.apart_beside.Goals as goal

pub returns-in-None-clause-apart : goal.returns-in-None-clause-apart
returns-in-None-clause-apart c =
    let none = sym (rw c.plan.ensures at c.first_related.ensures.value) ∙ c.in-None.is in
    record {
      apart = record { there = c.requires.node; may = c.apart.ensures.apart.0 (ok_if_no_error c.apart.result c.in_default.not-Err) };
      beside = none_related _ c.args.w c.args.nodes.now none;
    }

pub defect_beside-requires : goal.defect_beside-requires
defect_beside-requires c =
    let first = sym (rw c.plan.ensures at c.first_related.ensures.value) ∙ c.in-Some.is in
    rw c.plan-in-Some.ensures (related_there _ c.args.w c.args.nodes.now c.in-Some.place 0 first)

pub returns-in-Some-clause-defect : goal.returns-in-Some-clause-defect
returns-in-Some-clause-defect c =
    let first = sym (rw c.plan.ensures at c.first_related.ensures.value) ∙ c.in-Some.is in
    let may = c.apart.ensures.apart.0 (ok_if_no_error c.apart.result c.in_default.not-Err) in
    defect_of_first _ _ c.args.nodes.now c.args.w _ c.in-Some.place c.defect_beside.result may first refl
    (rw c.plan-in-Some.ensures at c.defect_beside.ensures)
