use Rattle.flu_readers.proofs.OneJob.{LawsBelow, same_parts}
use Rattle.flu_readers.proofs.laws.programs_of_a_job_read_the_same_parts.Goals as goal

pub returns : goal.returns
returns c =
    let laws : LawsBelow = record {
      reading = c.programs_of_a_job_read_the_same.ensures;
      contributing = c.programs_of_a_job_contribute_the_same.ensures.contributions;
      selecting = c.programs_of_a_job_select_the_same.ensures;
    } in
    same_parts laws
