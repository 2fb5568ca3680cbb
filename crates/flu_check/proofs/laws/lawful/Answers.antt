use Rattle.flu_check.proofs.laws.lawful.Goals as goal

pub returns : goal.returns
returns c = c.accepted_is_lawful.ensures.lawful c.args.checked.now.program c.args.checked.now.accepted
