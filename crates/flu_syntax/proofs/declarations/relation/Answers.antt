use Rattle.flu_syntax.proofs.Parts.{run-same_relation, run-all_relation, run-no_relation}
use Rattle.flu_syntax.proofs.declarations.relation.Goals as goal

pub returns-in-Some-clause-run : goal.returns-in-Some-clause-run
returns-in-Some-clause-run c = λ end job a b. run-same_relation end job a b c.args.tokens.now c.in-Some.rest.now c.in-Some.word c.in-Some.ensures.front

pub returns-in-Some-take-clause-run : goal.returns-in-Some-take-clause-run
returns-in-Some-take-clause-run c = λ end job a b. run-all_relation end job a b c.args.tokens.now c.in-Some-take.rest.now c.in-Some-take.field-0-0
    c.in-Some-take.ensures.front

pub returns-in-None-clause-run : goal.returns-in-None-clause-run
returns-in-None-clause-run c = λ end job a b. run-no_relation end job a b c.args.tokens.now c.in_default.ensures.front c.in-None.ensures.front
