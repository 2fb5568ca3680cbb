use Rattle.std.proofs.Common.{◌≡◌, sym, subst, ◌∙◌, ℕ, List, IsPermutation}
use Rattle.std.specs.Prelude.{IfOk}
use Rattle.std.proofs.lemmas.Result.{IfOk-weaker}
use Rattle.flu_model.specs.declared.events.Out.{Out}
use Rattle.flu_model.specs.Reports.{IsReport, report}
use Rattle.flu_report.proofs.ReportLemmas.{only_report, report_in_any_order}
use Rattle.flu_report.proofs.report.report_text.Goals as goal

-- what was made is a report of the outputs
made : (c : goal.After-drop-outs-inside) → IfOk c.sorted_text.result (IsReport c.args.p.now c.args.outs)
made c = subst (λ (outs : List Out). IfOk c.sorted_text.result (IsReport c.args.p.now outs)) c.items.ensures c.sorted_text.ensures

pub returns-clause-report : goal.returns-clause-report
returns-clause-report c =
    let p = c.args.p.now in
    let outs = c.args.outs in
    IfOk-weaker c.sorted_text.result (IsReport p outs) (λ (t : List ℕ). t ≡ report p outs) (only_report p outs) (made c)

pub returns-clause-sorted : goal.returns-clause-sorted
returns-clause-sorted c = made c

pub returns-clause-only : goal.returns-clause-only
returns-clause-only c =
    let p = c.args.p.now in
    let outs = c.args.outs in
    IfOk-weaker c.sorted_text.result (IsReport p outs) (λ (t : List ℕ). (bytes : List ℕ) → IsReport p outs bytes → bytes ≡ t)
    (λ t is bytes also. only_report p outs bytes also ∙ sym (only_report p outs t is)) (made c)

pub returns-clause-order : goal.returns-clause-order
returns-clause-order c =
    let p = c.args.p.now in
    let outs = c.args.outs in
    IfOk-weaker c.sorted_text.result (IsReport p outs) (λ (t : List ℕ). (others : List Out) → IsPermutation outs others → report p others ≡ t)
    (λ t is others moved. only_report p outs (report p others) (report_in_any_order p outs others moved) ∙ sym (only_report p outs t is)) (made c)
