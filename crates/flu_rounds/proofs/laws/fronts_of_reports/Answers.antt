use Rattle.flu_rounds.proofs.ReportFronts.{law_of_report_fronts, law_of_next_report_fronts}
use Rattle.flu_rounds.proofs.laws.fronts_of_reports.Goals as goal

pub returns : goal.returns
returns c =
    let laws = c.rounds_meet_what_is_there.ensures in
    record {
      fronts = law_of_report_fronts laws.fronts laws.above;
      next = law_of_next_report_fronts laws.fronts laws.above c.last_round_has_all_rows.ensures c.last_round_has_later_rows.ensures;
    }
