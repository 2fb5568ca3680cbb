use Rattle.flu_top.proofs.RunFronts.{LawsOfFronts, mended_law}
use Rattle.flu_top.proofs.laws.of_mended_runs.Goals as goal

pub returns : goal.returns
returns c =
    let of_fronts : LawsOfFronts = record {
      one_job = c.texts_have_one_job.ensures;
      rows = c.starts_have_rows.ensures;
      good = c.programs_of_a_job_agree.ensures.good;
      fronts = c.fronts_of_reports.ensures.fronts;
      nexts = c.fronts_of_reports.ensures.next;
    } in
    mended_law (record {
      of_fronts = of_fronts;
      mended = c.programs_of_a_job_agree.ensures.mended;
      none = c.good_sources_have_no_defect.ensures;
      goes_on = c.mended_rounds_go_on.ensures;
    })
