use Rattle.flu_combine.proofs.accepting.judge.Goals as goal

pub returns-in-Err-clause-defect : goal.returns-in-Err-clause-defect
returns-in-Err-clause-defect c = c.in-Err.ensures.defect c.args.nodes.now
