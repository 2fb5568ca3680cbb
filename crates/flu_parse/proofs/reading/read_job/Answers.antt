use Rattle.std.proofs.Common.{refl}
use Rattle.flu_parse.specs.Resolving.{job_of_parts}
use Rattle.flu_parse.proofs.reading.read_job.Goals as goal

-- parts that are read keep the rules, so they are a program's
pub unreachable-requires : goal.unreachable-requires
unreachable-requires c =
    let parts = c.in_ok-parts.parts in
    c.in-None.ensures.refused (c.jobs_keep_rules.ensures c.args.bytes.now (job_of_parts parts) c.in_ok-parts.ensures parts.kinds refl)
