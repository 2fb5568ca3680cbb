use Rattle.std.proofs.Common.{None, refl}
use Rattle.std.proofs.lemmas.Result.{IfOk-weaker}
use Rattle.flu_deps.specs.Checking.{program_of}
use Rattle.flu_words.specs.Words.{Run}
use Rattle.flu_top.proofs.Runnings.{begun_alone}
use Rattle.flu_top.proofs.Sequence.{job_refusal}
use Rattle.flu_top.proofs.running.greedily.Goals as goal

pub returns-in-Ok-clause-begun : goal.returns-in-Ok-clause-begun
returns-in-Ok-clause-begun g c =
    IfOk-weaker c.planned_greedily.result _ _
    (λ planned same. begun_alone c.args.job.now c.in-Ok.program (program_of planned.checked) _ _ same c.in-Ok.ensures.read c.in-Ok.ensures.taken)
    c.planned_greedily.ensures.same

pub returns-in-Err-clause-refused : goal.returns-in-Err-clause-refused
returns-in-Err-clause-refused g c options =
    job_refusal (Run c.args.job.now None options) c.args.job.now _ _ _ _ c.in-Err.refusal refl c.in-Err.ensures.refused
