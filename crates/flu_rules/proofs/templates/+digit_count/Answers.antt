use Rattle.std.proofs.Common.{◌+◌, ap, ◌∙◌, arith}
use Rattle.std.proofs.lemmas.Fmt.{length-decimal-le}
use Rattle.flu_rules.proofs.DigitLemmas.{one_digit, one_more}
use Rattle.flu_rules.proofs.templates.+digit_count.Goals as goal

pub overflow_add-result : goal.overflow_add-result
overflow_add-result t c = omega (arith, c.digit_count.ensures.few)

pub returns-then-number-lt10-clause-count : goal.returns-then-number-lt10-clause-count
returns-then-number-lt10-clause-count t c = one_digit c.args.number c.if-number-lt10.true

pub returns-else-number-lt10-clause-count : goal.returns-else-number-lt10-clause-count
returns-else-number-lt10-clause-count t c =
    ap (λ n. n + 1) c.digit_count.ensures.count ∙ one_more c.args.number (omega arith) (omega arith)

pub returns-else-number-lt10-clause-few : goal.returns-else-number-lt10-clause-few
returns-else-number-lt10-clause-few t c =
    let few = length-decimal-le 10 c.args.number (omega arith) (omega arith) (omega arith) in
    omega (arith, few, c.digit_count.ensures.count, one_more c.args.number (omega arith) (omega arith))
