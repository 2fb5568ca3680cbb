use Rattle.std.proofs.Common.{◌≡◌, Option, sym, ap, ◌∙◌, subst}
use Rattle.serde_json.specs.View.{view, items_of, items_view}
use Rattle.flu_cells.specs.Holding.{held}
use Rattle.flu_cells.specs.declared.state.State.{State}
use Rattle.flu_lemmas.proofs.Tests.{not_both}
use Rattle.flu_model.specs.Erasure.{job_of}
use Rattle.flu_parse.specs.Printing.{normal_form}
use Rattle.flu_save.specs.Checkpoint.{checkpoint, entries_of}
use Rattle.flu_save.specs.Parts.{IsStateWith}
use Rattle.flu_save.proofs.Members.{checkpoint_parts, same_entries, same_border}
use Rattle.flu_save.proofs.reading.saved_in.Goals as goal

pub returns-in_default-clause-found : goal.returns-in_default-clause-found
returns-in_default-clause-found c t s is =
    let same = same_entries c.args.p.now t c.args.parts.border s (view c.args.value.now) c.args.parts.entries.now c.args.parts.job.now c.requires.parts is in
    subst (λ (o : Option State). IsStateWith o s) c.in_default.is (c.in_ok-state.ensures.found s is.state same)

pub returns-then-branch-clause-found : goal.returns-then-branch-clause-found
returns-then-branch-clause-found c t s is =
    let p = c.args.p.now in
    let d = view c.args.value.now in
    let same = same_entries p t c.args.parts.border s d c.args.parts.entries.now c.args.parts.job.now c.requires.parts is in (
      same_border d c.args.parts.border t (items_view c.args.parts.entries.now) (items_of (entries_of p.families s)) c.args.parts.job.now (normal_form
          (job_of p)) c.requires.parts (checkpoint_parts p t s d is),
      subst (λ (o : Option State). IsStateWith o s) c.in-Some.is (c.in_ok-state.ensures.found s is.state same),
    )

pub returns-else-branch-clause-found : goal.returns-else-branch-clause-found
returns-else-branch-clause-found c t s is =
    let p = c.args.p.now in
    let d = view c.args.value.now in
    let same = same_entries p t c.args.parts.border s d c.args.parts.entries.now c.args.parts.job.now c.requires.parts is in
    let border : c.args.parts.border ≡ t =
    same_border d c.args.parts.border t (items_view c.args.parts.entries.now) (items_of (entries_of p.families s)) c.args.parts.job.now (normal_form
    (job_of p)) c.requires.parts (checkpoint_parts p t s d is) in
    let state : held c.in-Some.state ≡ s = subst (λ (o : Option State). IsStateWith o s) c.in-Some.is (c.in_ok-state.ensures.found s is.state same) in
    let value = is.value ∙ ap (λ u. checkpoint p u s) (sym border) ∙ ap (checkpoint p c.args.parts.border) (sym state) in
    not_both c.in_ok-is_value_of.field-0 (c.in_ok-is_value_of.ensures.1 value) c.if-branch.false
