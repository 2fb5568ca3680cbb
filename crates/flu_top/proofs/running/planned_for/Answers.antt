use Rattle.std.proofs.Common.{sym, ap, subst, List, ℕ, Option}
use Rattle.std.specs.Prelude.{IfErr, ◌∷◌, option_map}
use Rattle.flu_lemmas.proofs.Named.{fronts_at}
use Rattle.flu_outside.specs.Outside.{WhereTold}
use Rattle.flu_streams.specs.Files.{LeavesOthers}
use Rattle.flu_words.specs.Words.{RunOptions, Run}
use Rattle.flu_lines.specs.declared.refusals.Refusal.{Refusal}
use Rattle.flu_top.specs.Refusing.{IsRefusal}
use Rattle.flu_command.specs.Wants.{if_named}
use Rattle.flu_top.proofs.Checkpoints.{others_of_one}
use Rattle.flu_top.proofs.Runnings.{others_as_valid, run_only_as_valid, run_refused_as_valid}
use Rattle.flu_top.proofs.running.planned_for.Goals as goal

pub returns-in-Some-clause-refused : goal.returns-in-Some-clause-refused
returns-in-Some-clause-refused g c = run_refused_as_valid c.planned_by.result c.args.job.now c.in-Some.plan.now _ _ _ _ _
    (ap (option_map (λ name. name.now)) c.in-Some.is) c.planned_by.ensures.refused

pub returns-in-Some-clause-only : goal.returns-in-Some-clause-only
returns-in-Some-clause-only g c = run_only_as_valid c.args.job.now c.in-Some.plan.now _ _ _
    (ap (option_map (λ name. name.now)) c.in-Some.is) c.planned_by.ensures.only

pub returns-in-Some-clause-others : goal.returns-in-Some-clause-others
returns-in-Some-clause-others g c = others_as_valid c.args.job.now c.in-Some.plan.now _ _ _
    (ap (option_map (λ name. name.now)) c.in-Some.is) c.planned_by.ensures.only

pub returns-in-None-clause-refused : goal.returns-in-None-clause-refused
returns-in-None-clause-refused g c =
    let left = g.F.Files.left in
    let faults = g.F.Files.faults in
    subst (λ (o : Option (List ℕ)). IfErr c.greedily.result (λ (refusal : Refusal). (options : RunOptions)
    → IsRefusal (Run c.args.job.now o options) (left c.args.files.now) (left c.greedily.new.files) (faults c.args.files.now)
    (faults c.greedily.new.files) refusal))
    (sym (ap (option_map (λ name. name.now)) c.in-None.is)) c.greedily.ensures.refused

pub returns-in-None-clause-fronts : goal.returns-in-None-clause-fronts
returns-in-None-clause-fronts g c = fronts_at c.args.job.now _ _ c.greedily.ensures.taken

pub returns-in-None-clause-others : goal.returns-in-None-clause-others
returns-in-None-clause-others g c =
    let left = g.F.Files.left in
    subst (λ (o : Option (List ℕ)). WhereTold (left c.args.files.now) (left c.greedily.new.files) (LeavesOthers (c.args.job.now ∷ if_named o)))
    (sym (ap (option_map (λ name. name.now)) c.in-None.is)) (others_of_one c.args.job.now _ _ c.greedily.ensures.taken)
