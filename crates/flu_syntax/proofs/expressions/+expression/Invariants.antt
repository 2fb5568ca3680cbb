use Rattle.std.proofs.Common.{◌<◌, ◌+◌, ◌*◌, ◌≡◌, length}
use Rattle.flu_syntax.specs.Tree.{view}
use Rattle.flu_syntax.specs.Machine.{Want, Have}
use Rattle.flu_syntax.specs.Reading.{Inside, in_mode, from_turn}
use Rattle.flu_syntax.proofs.expressions.+expression.Given as goal

abbrev pub decreases-first : goal.decreases-first
decreases-first l = 2 * length l.tokens.now

abbrev pub decreases-expression : goal.decreases-expression
decreases-expression l = 2 * length l.tokens.now + 1

abbrev pub invariant-expression-loop-op : goal.invariant-expression-loop-op
invariant-expression-loop-op l = record {
  run : (here : Inside l.opened)
      → from_turn l.end (in_mode (Want l.level) here) l.fn.tokens ≡ from_turn l.end (in_mode (Have l.level l.high (view l.left)) here) l.rest;
  shorter : length l.rest < length l.fn.tokens;
}

abbrev pub decreases-expression-loop-op : goal.decreases-expression-loop-op
decreases-expression-loop-op l = length l.rest
