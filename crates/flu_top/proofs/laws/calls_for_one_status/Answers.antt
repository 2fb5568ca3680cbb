use Rattle.flu_top.proofs.laws.calls_for_one_status.Goals as goal

pub returns : goal.returns
returns c = c.files_call_for_one_status.ensures
