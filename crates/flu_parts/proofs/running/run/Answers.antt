use Rattle.std.proofs.Common.{◌≡◌, refl, sym, subst, Err}
use Rattle.std.proofs.Math.Path.{fun_ext}
use Rattle.flu_outside.specs.Outside.{WhereTold}
use Rattle.flu_deps.specs.Checking.{program_of}
use Rattle.flu_deps.specs.Validated.{plan_of}
use Rattle.flu_lemmas.proofs.Named.{fronts_then}
use Rattle.flu_words.specs.Parts.{plain_part}
use Rattle.flu_command.specs.Taking.{TookOnly}
use Rattle.flu_command.specs.Done.{IsReadName}
use Rattle.flu_command.specs.Ready.{IsReady}
use Rattle.flu_top.specs.Ending.{call}
use Rattle.flu_top.specs.Refusing.{IsRefusal}
use Rattle.flu_parts.specs.Ending.{IsEnding}
use Rattle.flu_parts.proofs.Commands.{same_texts, stopped_in_texts, only_in_texts, planned_told, done_behind, stopped_behind, only_behind}
use Rattle.flu_parts.proofs.running.run.Goals as goal

pub returns-in-Err-clause-ends : goal.returns-in-Err-clause-ends
returns-in-Err-clause-ends g c =
    let command = plain_part c.args.command in
    let same = same_texts command c.texts_of.result.0.now c.texts_of.result.1.now c.texts_of.ensures.job c.texts_of.ensures.plan in
    let left = g.F.Files.left in
    let a = left c.args.files.now in
    let m = left c.planned_by.new.files in
    let faults = g.F.Files.faults in
    let puts = g.F.Files.put_faults in
    let taken = g.K.Sink.taken in
    let counts = g.K.Sink.faults in
    stopped_in_texts (call a m (faults c.args.files.now) (faults c.planned_by.new.files) (puts c.args.files.now) (puts c.planned_by.new.files)
    (taken c.args.out.now) (taken c.args.out.now) (counts c.args.out.now) (counts c.args.out.now)) command c.in-Err.refusal
    (subst (λ d. IsRefusal d a m (faults c.args.files.now) (faults c.planned_by.new.files) c.in-Err.refusal) same c.in-Err.ensures.refused) refl

pub returns-in-Err-clause-only : goal.returns-in-Err-clause-only
returns-in-Err-clause-only g c =
    let command = plain_part c.args.command in
    let same = same_texts command c.texts_of.result.0.now c.texts_of.result.1.now c.texts_of.ensures.job c.texts_of.ensures.plan in
    let left = g.F.Files.left in
    let a = left c.args.files.now in
    let m = left c.planned_by.new.files in
    only_in_texts command a m (subst (λ d. WhereTold a m (TookOnly (IsReadName a d))) same c.in-Err.ensures.only)

pub returns-in-Ok-work-clause-ends : goal.returns-in-Ok-work-clause-ends
returns-in-Ok-work-clause-ends g c =
    let command = plain_part c.args.command in
    let same = same_texts command c.texts_of.result.0.now c.texts_of.result.1.now c.texts_of.ensures.job c.texts_of.ensures.plan in
    let left = g.F.Files.left in
    let a = left c.args.files.now in
    let m = left c.planned_by.new.files in
    let checked = c.in-Ok.planned.checked in
    let valid = c.in-Ok.planned.valid in
    let p = program_of checked in
    let b = left c.work.new.files in
    let planned = planned_told command c.texts_of.result.0.now c.texts_of.result.1.now p (plan_of valid).nodes a m c.texts_of.ensures.job
    c.texts_of.ensures.plan c.in-Ok.ensures.accepted c.in-Ok.ensures.valid.valid c.in-Ok.ensures.ready c.in-Ok.ensures.nodes in
    let ready = subst (λ d. WhereTold a m (IsReady d p)) same c.in-Ok.ensures.ready in
    let is = c.in-Ok-work.ensures.ends in
    done_behind c.partials_have_one_text.ensures command checked valid a m b is.0 _ _ planned ready c.work.ensures.others is.1 is.2

pub returns-in-Ok-work-clause-fronts : goal.returns-in-Ok-work-clause-fronts
returns-in-Ok-work-clause-fronts g c = fronts_then _ _ _ c.in-Ok.ensures.fronts c.work.ensures.fronts

pub returns-clause-fronts : goal.returns-clause-fronts
returns-clause-fronts g c = fronts_then _ _ _ c.in-Ok.ensures.fronts c.work.ensures.fronts

pub returns-in-Ok-work-clause-only : goal.returns-in-Ok-work-clause-only
returns-in-Ok-work-clause-only g c =
    let command = plain_part c.args.command in
    let same = same_texts command c.texts_of.result.0.now c.texts_of.result.1.now c.texts_of.ensures.job c.texts_of.ensures.plan in
    let left = g.F.Files.left in
    let a = left c.args.files.now in
    let m = left c.planned_by.new.files in
    let checked = c.in-Ok.planned.checked in
    let valid = c.in-Ok.planned.valid in
    let p = program_of checked in
    let b = left c.work.new.files in
    let planned = planned_told command c.texts_of.result.0.now c.texts_of.result.1.now p (plan_of valid).nodes a m c.texts_of.ensures.job
    c.texts_of.ensures.plan c.in-Ok.ensures.accepted c.in-Ok.ensures.valid.valid c.in-Ok.ensures.ready c.in-Ok.ensures.nodes in
    let ready = subst (λ d. WhereTold a m (IsReady d p)) same c.in-Ok.ensures.ready in
    only_behind c.partials_have_one_text.ensures command checked valid a m b c.in-Ok.ensures.accepted c.in-Ok.ensures.valid.valid planned ready
    (subst (λ d. WhereTold a m (TookOnly (IsReadName a d))) same c.in-Ok.ensures.only) c.work.ensures.others

pub returns-clause-only : goal.returns-clause-only
returns-clause-only g c =
    let command = plain_part c.args.command in
    let same = same_texts command c.texts_of.result.0.now c.texts_of.result.1.now c.texts_of.ensures.job c.texts_of.ensures.plan in
    let left = g.F.Files.left in
    let a = left c.args.files.now in
    let m = left c.planned_by.new.files in
    let checked = c.in-Ok.planned.checked in
    let valid = c.in-Ok.planned.valid in
    let p = program_of checked in
    let b = left c.work.new.files in
    let planned = planned_told command c.texts_of.result.0.now c.texts_of.result.1.now p (plan_of valid).nodes a m c.texts_of.ensures.job
    c.texts_of.ensures.plan c.in-Ok.ensures.accepted c.in-Ok.ensures.valid.valid c.in-Ok.ensures.ready c.in-Ok.ensures.nodes in
    let ready = subst (λ d. WhereTold a m (IsReady d p)) same c.in-Ok.ensures.ready in
    only_behind c.partials_have_one_text.ensures command checked valid a m b c.in-Ok.ensures.accepted c.in-Ok.ensures.valid.valid planned ready
    (subst (λ d. WhereTold a m (TookOnly (IsReadName a d))) same c.in-Ok.ensures.only) c.work.ensures.others

pub returns-clause-ends : goal.returns-clause-ends
returns-clause-ends g c =
    let command = plain_part c.args.command in
    let same = same_texts command c.texts_of.result.0.now c.texts_of.result.1.now c.texts_of.ensures.job c.texts_of.ensures.plan in
    let left = g.F.Files.left in
    let a = left c.args.files.now in
    let m = left c.planned_by.new.files in
    let checked = c.in-Ok.planned.checked in
    let valid = c.in-Ok.planned.valid in
    let p = program_of checked in
    let b = left c.work.new.files in
    let planned = planned_told command c.texts_of.result.0.now c.texts_of.result.1.now p (plan_of valid).nodes a m c.texts_of.ensures.job
    c.texts_of.ensures.plan c.in-Ok.ensures.accepted c.in-Ok.ensures.valid.valid c.in-Ok.ensures.ready c.in-Ok.ensures.nodes in
    let ready = subst (λ d. WhereTold a m (IsReady d p)) same c.in-Ok.ensures.ready in
    let faults = g.F.Files.faults in
    let puts = g.F.Files.put_faults in
    let taken = g.K.Sink.taken in
    let counts = g.K.Sink.faults in
    let unchanged : faults c.args.files.now ≡ faults c.planned_by.new.files = fun_ext (λ name. sym (c.in-Ok.ensures.quiet (λ e. cc) name)) in
    subst (λ r. IsEnding (call (left c.args.files.now) (left c.work.new.files) (faults c.args.files.now) (faults c.work.new.files) (puts c.args.files.now)
    (puts c.work.new.files) (taken c.args.out.now) (taken c.work.new.out) (counts c.args.out.now) (counts c.work.new.out)) command (Err r))
    (sym c.refusal_of.ensures)
    (stopped_behind c.partials_have_one_text.ensures command checked valid a m b (faults c.args.files.now) (faults c.planned_by.new.files)
    (faults c.work.new.files) (puts c.args.files.now) (puts c.work.new.files) (taken c.args.out.now) (taken c.work.new.out)
    (counts c.args.out.now) (counts c.work.new.out)
    c.in-Err-work.stop c.in-Ok.ensures.accepted c.in-Ok.ensures.valid.valid planned ready unchanged c.work.ensures.fronts c.work.ensures.others
    c.in-Err-work.ensures.ends)
