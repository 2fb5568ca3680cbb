use Rattle.flu_command.proofs.ResumedRuns.{LawsOfRests, opens_the_rest, runs_go_on, checkpoints_open}
use Rattle.flu_command.proofs.resuming.of_checkpoints.Goals as goal

pub returns : goal.returns
returns c =
    let laws : LawsOfRests = record {
      times = c.times_are_in_range.ensures;
      tags = c.itags_have_tags.ensures.fits;
      sorts = c.updates_are_changes.ensures.fold;
      fronts = c.rounds_meet_what_is_there.ensures.fronts;
      fronts_above = c.rounds_meet_what_is_there.ensures.above;
      last = c.last_round_has_all_rows.ensures;
      later = c.last_round_has_later_rows.ensures;
      cut = c.borders_cut_a_fold.ensures.items;
      saves = c.save_is_a_checkpoint.ensures.checkpoint;
      no_fault = c.save_is_a_checkpoint.ensures.no_fault;
      meaning = c.save_is_a_checkpoint.ensures.meaning;
    } in
    record {
      rest = opens_the_rest laws;
      together = runs_go_on laws;
      opens = checkpoints_open laws c.normal_forms_are_short.ensures c.normal_forms_are_utf8.ensures;
    }
