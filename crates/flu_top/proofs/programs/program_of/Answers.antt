use Rattle.std.proofs.Common.{ap, ◌∙◌, subst, List, ℕ, sym}
use Rattle.flu_parse.specs.Faults.{Fails}
use Rattle.flu_parse.specs.Reading.{job_in}
use Rattle.flu_top.specs.Jobs.{IsJobRefusal}
use Rattle.flu_top.proofs.Jobs.{job_is_read, job_is_refused}
use Rattle.flu_top.proofs.programs.program_of.Goals as goal

pub returns-in-Err-clause-refused : goal.returns-in-Err-clause-refused
returns-in-Err-clause-refused g c =
    let left = g.F.Files.left in
    let faults = g.F.Files.faults in
    let job = c.args.job.now in
    let fault = c.in-Err.fault in
    let fails = subst (λ (bytes : List ℕ). Fails fault (job_in bytes)) c.deref.ensures.value c.in-Err.ensures in
    subst (IsJobRefusal job (left c.args.files.now) (left c.read_whole.new.files) (faults c.args.files.now) (faults c.read_whole.new.files))
    (sym c.job_refusal.ensures)
    (job_is_refused job c.in_ok-bytes.bytes fault _ _ (faults c.args.files.now) (faults c.read_whole.new.files) c.in_ok-bytes.ensures.whole fails)

pub returns-in-Ok-clause-read : goal.returns-in-Ok-clause-read
returns-in-Ok-clause-read g c =
    job_is_read c.jobs_are_grammar.ensures c.args.job.now c.in_ok-bytes.bytes.items c.in-Ok.program _ _ c.in_ok-bytes.ensures.whole
    (sym (ap job_in c.deref.ensures.value) ∙ c.in-Ok.ensures)
