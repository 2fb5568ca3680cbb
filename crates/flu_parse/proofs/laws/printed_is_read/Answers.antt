use Rattle.flu_parse.specs.Laws.{job_with}
use Rattle.flu_parse.proofs.Printed.Jobs.{job_is_read}
use Rattle.flu_parse.proofs.Printed.Rules.{job_fits}
use Rattle.flu_parse.proofs.laws.printed_is_read.Goals as goal

pub returns : goal.returns
returns c = λ version ties iso lists families kinds depends sources kept.
    job_is_read c.laid_is_read.ensures.tokens c.laid_is_read.ensures.signs c.keys_are_laid.ensures.spelled c.keys_are_laid.ensures.laid
    c.found_is_job.ensures.exactly
    c.tags_meet_by_their_ends.ensures.meet c.tags_meet_by_their_ends.ensures.differ (job_with version ties iso lists families kinds depends sources)
    (job_fits version ties iso lists families kinds depends sources kept)
