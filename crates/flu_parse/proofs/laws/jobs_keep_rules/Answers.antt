use Rattle.flu_parse.proofs.Kept.Jobs.{jobs_kept}
use Rattle.flu_parse.proofs.laws.jobs_keep_rules.Goals as goal

pub returns : goal.returns
returns c =
    jobs_kept c.read_may_be_printed.ensures c.found_is_job.ensures.exactly c.words_stand.ensures
    c.tags_meet_by_their_ends.ensures.meet c.tags_meet_by_their_ends.ensures.differ
