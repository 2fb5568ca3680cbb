use Rattle.std.proofs.Common.{◌≡◌, true, false, rules}
use Rattle.flu_syntax.specs.Machine.{is_close}
use Rattle.flu_syntax.proofs.Runs.{run-paren, run-paren_end, run-paren_misses}
use Rattle.flu_syntax.proofs.expressions.close.Goals as goal

pub returns-in_default-clause-run : goal.returns-in_default-clause-run
returns-in_default-clause-run c = λ job context t level at frames. rw c.unexpected.ensures
    (run-paren_end c.args.end level at job context t frames c.args.tokens.now c.in_default.ensures)

pub returns-then-is_close-clause-run : goal.returns-then-is_close-clause-run
returns-then-is_close-clause-run c = λ job context t level at frames.
    let hit : is_close c.in-Some.token.word ≡ true = search rules in
    run-paren c.args.end level at job context t frames c.in-Some.token c.args.tokens.now c.in-Some.rest.now c.in-Some.ensures hit

pub returns-else-is_close-clause-run : goal.returns-else-is_close-clause-run
returns-else-is_close-clause-run c = λ job context t level at frames.
    let miss : is_close c.in-Some.token.word ≡ false = search rules in
    rw c.unexpected-else-is_close.ensures
    (run-paren_misses c.args.end level at job context t frames c.in-Some.token c.args.tokens.now c.in-Some.rest.now c.in-Some.ensures miss)
