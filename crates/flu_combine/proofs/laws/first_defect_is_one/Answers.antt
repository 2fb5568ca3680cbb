use Rattle.flu_combine.proofs.FirstDefects.{first_is_one}
use Rattle.flu_combine.proofs.laws.first_defect_is_one.Goals as goal

pub returns : goal.returns
returns c =
    first_is_one c.reasons_are_one.ensures c.bytes_have_one_fault.ensures c.faulty_bytes_are_not_whole.ensures c.partials_have_one_text.ensures
    c.lines_determine.ensures c.alike_queues_join_alike.ensures
