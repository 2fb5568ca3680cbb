use Rattle.std.proofs.Common.{◌≡◌, true, false, rules}
use Rattle.flu_syntax.specs.Machine.{is_within}
use Rattle.flu_syntax.specs.Grammar.{op_level}
use Rattle.flu_syntax.proofs.Runs.{pass_end, pass_word, pass_level, take_operator}
use Rattle.flu_syntax.proofs.expressions.operator.Goals as goal

pub returns-in_default-clause-run : goal.returns-in_default-clause-run
returns-in_default-clause-run c = λ end job context t frames. pass_end c.args.low c.args.high end job context t frames c.args.tokens.now c.in_default.ensures

pub returns-in_default-operator_of-clause-run : goal.returns-in_default-operator_of-clause-run
returns-in_default-operator_of-clause-run c = λ end job context t frames. pass_word c.args.low c.args.high end job context t frames c.in-Some.token
    c.args.tokens.now c.in-Some.rest.now c.in-Some.ensures c.in_default-operator_of.ensures

pub returns-then-is_within-clause-run : goal.returns-then-is_within-clause-run
returns-then-is_within-clause-run c = λ end job context t frames.
    let hit : is_within c.args.low (op_level c.in-Some-operator_of.op) c.args.high ≡ true = search rules in
    take_operator c.args.low c.args.high end job context t frames c.in-Some.token c.args.tokens.now c.in-Some.rest.now c.in-Some-operator_of.op
    c.in-Some.ensures c.in-Some-operator_of.ensures hit

pub returns-else-is_within-clause-run : goal.returns-else-is_within-clause-run
returns-else-is_within-clause-run c = λ end job context t frames.
    let miss : is_within c.args.low (op_level c.in-Some-operator_of.op) c.args.high ≡ false = search rules in
    pass_level c.args.low c.args.high end job context t frames c.in-Some.token c.args.tokens.now c.in-Some.rest.now c.in-Some-operator_of.op
    c.in-Some.ensures c.in-Some-operator_of.ensures miss
