use Rattle.std.proofs.Common.{refl}
use Rattle.std.proofs.lemmas.Bool.{false≢true}
use Rattle.std.proofs.lemmas.Result.{IfOk-weaker, IfErr-weaker}
use Rattle.flu_lemmas.proofs.Named.{fronts_at, fronts_then}
use Rattle.flu_words.specs.Words.{Fold}
use Rattle.flu_top.proofs.Sequence.{ready_alone, is_reported_behind, job_refusal, report_refusal, only_job, only_ready}
use Rattle.flu_top.proofs.folding.fold_job.Goals as goal

pub returns-in-Ok-clause-written : goal.returns-in-Ok-clause-written
returns-in-Ok-clause-written g c =
    let job = c.args.job.now in
    let p = c.in-Ok.program in
    let ready = ready_alone (Fold job) job p _ _ refl refl (λ x plan named. absurd (cc)) c.in-Ok.ensures.read c.in-Ok.ensures.taken in
    IfOk-weaker c.report_of.result _ _
    (λ report reported. is_reported_behind (Fold job) p report _ _ _ refl (λ asked. absurd (false≢true asked)) refl (record { save = refl; resume = refl; rows = refl })
    (λ left q text is. (is, refl)) ready c.report_of.ensures.others reported)
    c.report_of.ensures.reported

pub returns-in-Ok-clause-refused : goal.returns-in-Ok-clause-refused
returns-in-Ok-clause-refused g c =
    let job = c.args.job.now in
    let p = c.in-Ok.program in
    let left = g.F.Files.left in
    let faults = g.F.Files.faults in
    let ready = ready_alone (Fold job) job p (left c.args.files.now) (left c.program_of.new.files) refl refl
    (λ x plan named. absurd (cc)) c.in-Ok.ensures.read c.in-Ok.ensures.taken in
    IfErr-weaker c.report_of.result _ _
    (λ refusal refused. report_refusal (Fold job) p (left c.args.files.now) (left c.program_of.new.files) (left c.report_of.new.files)
    (faults c.args.files.now) (faults c.program_of.new.files) (faults c.report_of.new.files) refusal refl (λ asked. absurd (false≢true asked))
    (record { save = refl; resume = refl; rows = refl }) ready c.in-Ok.ensures.counts refused)
    c.report_of.ensures.refused

pub returns-in-Ok-clause-fronts : goal.returns-in-Ok-clause-fronts
returns-in-Ok-clause-fronts g c = fronts_then _ _ _ (fronts_at c.args.job.now _ _ c.in-Ok.ensures.taken) c.report_of.ensures.fronts

pub returns-in-Ok-clause-only : goal.returns-in-Ok-clause-only
returns-in-Ok-clause-only g c =
    let job = c.args.job.now in
    let p = c.in-Ok.program in
    only_ready (Fold job) p _ _ _ (record { save = refl; resume = refl; rows = refl }) refl (λ asked. absurd (false≢true asked))
    (ready_alone (Fold job) job p _ _ refl refl (λ x plan named. absurd (cc)) c.in-Ok.ensures.read c.in-Ok.ensures.taken) c.report_of.ensures.others

pub returns-in-Err-clause-refused : goal.returns-in-Err-clause-refused
returns-in-Err-clause-refused g c = job_refusal (Fold c.args.job.now) c.args.job.now _ _ _ _ c.in-Err.refusal refl c.in-Err.ensures.refused

pub returns-in-Err-clause-fronts : goal.returns-in-Err-clause-fronts
returns-in-Err-clause-fronts g c = fronts_at c.args.job.now _ _ c.in-Err.ensures.taken

pub returns-in-Err-clause-only : goal.returns-in-Err-clause-only
returns-in-Err-clause-only g c = only_job (Fold c.args.job.now) c.args.job.now _ _ refl c.in-Err.ensures.taken
