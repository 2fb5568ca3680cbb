use Rattle.flu_node_run.proofs.OneJob.{LawsBelow, one_partial}
use Rattle.flu_node_run.proofs.laws.programs_of_a_job_have_one_partial.Goals as goal

pub returns : goal.returns
returns c =
    let laws : LawsBelow = record {
      plans = c.programs_of_a_job_read_plans_alike.ensures;
      selecting = c.programs_of_a_job_select_the_same.ensures;
      reading = c.programs_of_a_job_read_the_same_parts.ensures;
      sending = c.programs_of_a_job_send_the_same.ensures;
    } in
    one_partial laws
