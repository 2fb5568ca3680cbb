use Rattle.std.proofs.Common.{refl}
use Rattle.std.proofs.lemmas.Result.{IfOk-weaker, IfErr-weaker}
use Rattle.flu_lemmas.proofs.Named.{fronts_at}
use Rattle.flu_words.specs.Words.{Check}
use Rattle.flu_top.proofs.Sequence.{job_refusal, only_job}
use Rattle.flu_top.proofs.Checks.{is_checked, check_refusal}
use Rattle.flu_top.proofs.checking.check_job.Goals as goal

pub returns-in-Ok-clause-written : goal.returns-in-Ok-clause-written
returns-in-Ok-clause-written g c =
    IfOk-weaker c.normal_form_of.result _ _ (λ text checked. is_checked c.args.job.now c.in-Ok.program text _ _ c.in-Ok.ensures.read checked)
    c.normal_form_of.ensures.checked

pub returns-in-Ok-clause-refused : goal.returns-in-Ok-clause-refused
returns-in-Ok-clause-refused g c =
    IfErr-weaker c.normal_form_of.result _ _ (λ refusal refused. check_refusal
    (Check c.args.job.now) c.args.job.now c.in-Ok.program _ _ _ _ refusal refl refl c.in-Ok.ensures.read refused) c.normal_form_of.ensures.refused

pub returns-in-Ok-clause-fronts : goal.returns-in-Ok-clause-fronts
returns-in-Ok-clause-fronts g c = fronts_at c.args.job.now _ _ c.in-Ok.ensures.taken

pub returns-in-Ok-clause-only : goal.returns-in-Ok-clause-only
returns-in-Ok-clause-only g c = only_job (Check c.args.job.now) c.args.job.now _ _ refl c.in-Ok.ensures.taken

pub returns-in-Err-clause-refused : goal.returns-in-Err-clause-refused
returns-in-Err-clause-refused g c = job_refusal (Check c.args.job.now) c.args.job.now _ _ _ _ c.in-Err.refusal refl c.in-Err.ensures.refused

pub returns-in-Err-clause-fronts : goal.returns-in-Err-clause-fronts
returns-in-Err-clause-fronts g c = fronts_at c.args.job.now _ _ c.in-Err.ensures.taken

pub returns-in-Err-clause-only : goal.returns-in-Err-clause-only
returns-in-Err-clause-only g c = only_job (Check c.args.job.now) c.args.job.now _ _ refl c.in-Err.ensures.taken
