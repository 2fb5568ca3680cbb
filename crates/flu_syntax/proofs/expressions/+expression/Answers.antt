use Rattle.std.proofs.Common.{◌≡◌, ◌∙◌, refl, sym, rules, arith}
use Rattle.std.proofs.lemmas.Result.{err_from_is_err_and}
use Rattle.flu_syntax.specs.declared.tokens.Front.TheVariants as start
use Rattle.flu_syntax.specs.Tree.{view, NumberTree}
use Rattle.flu_text.specs.Signs.{span_of, number_of}
use Rattle.flu_syntax.specs.Machine.{ToRead, ToTest, NegFrame, NotFrame, ParenFrame, RightFrame}
use Rattle.flu_syntax.proofs.Runs.{run-front, run-front_deep, run-front_misses, run-front_end, run-neg, run-not, run-right}
use Rattle.flu_syntax.proofs.Runs.{not_starts, not_misses, opens_more, opens_none, deeper_in, same_in, Tells-through}
use Rattle.flu_syntax.proofs.expressions.+expression.Goals as goal

pub first-returns-in_default-clause-run : goal.first-returns-in_default-clause-run
first-returns-in_default-clause-run t c = λ here. rw c.unexpected.ensures
    (run-front_end c.args.end c.args.level here.before here.context here.frames c.args.tokens.now c.in_default.ensures)

pub first-returns-in-Number-clause-run : goal.first-returns-in-Number-clause-run
first-returns-in-Number-clause-run t c = λ here.
    let v : view c.numbered.result ≡ NumberTree (number_of c.in-Number.value c.in-Some.token) = search rules in
    rw v (run-front c.args.end c.args.level here.before here.context here.frames _ c.in-Some.token c.args.tokens.now c.in-Some.rest.now
    (start.Number c.in-Number.value) c.in-Some.ensures (sym c.in-Number.is ∙ c.start_of.ensures) refl)

pub first-returns-in-Value-clause-run : goal.first-returns-in-Value-clause-run
first-returns-in-Value-clause-run t c = λ here. run-front c.args.end c.args.level here.before here.context here.frames _ c.in-Some.token c.args.tokens.now
    c.in-Some.rest.now start.Value c.in-Some.ensures (sym c.in-Value.is ∙ c.start_of.ensures) refl

pub first-returns-in-Key-clause-run : goal.first-returns-in-Key-clause-run
first-returns-in-Key-clause-run t c = λ here. run-front c.args.end c.args.level here.before here.context here.frames _ c.in-Some.token c.args.tokens.now
    c.in-Some.rest.now start.Key c.in-Some.ensures (sym c.in-Key.is ∙ c.start_of.ensures) refl

pub first-returns-in-Time-clause-run : goal.first-returns-in-Time-clause-run
first-returns-in-Time-clause-run t c = λ here. run-front c.args.end c.args.level here.before here.context here.frames _ c.in-Some.token c.args.tokens.now
    c.in-Some.rest.now start.Time c.in-Some.ensures (sym c.in-Time.is ∙ c.start_of.ensures) refl

pub first-returns-in_err-key-in-Family-clause-run : goal.first-returns-in_err-key-in-Family-clause-run
first-returns-in_err-key-in-Family-clause-run t c =
    let p = err_from_is_err_and c.from_residual.result c.from_residual.ensures.1 in
    rw (p.1, p.2) (λ here. Tells-through _ _ _
    (run-front c.args.end c.args.level here.before here.context here.frames _ c.in-Some.token c.args.tokens.now c.in-Some.rest.now start.Family
    c.in-Some.ensures (sym c.in-Family.is
    ∙ c.start_of.ensures) refl)
    (c.in_err-key-in-Family.ensures.run (here.before, ToRead here.context c.args.level here.frames, span_of c.in-Some.token)))

pub first-returns-in_ok-key-in-Family-clause-run : goal.first-returns-in_ok-key-in-Family-clause-run
first-returns-in_ok-key-in-Family-clause-run t c = λ here. rw c.span_of-family.ensures
    (run-front c.args.end c.args.level here.before here.context here.frames _ c.in-Some.token c.args.tokens.now c.in-Some.rest.now start.Family
    c.in-Some.ensures (sym c.in-Family.is ∙ c.start_of.ensures) refl
    ∙ c.in_ok-key-in-Family.ensures.run (here.before, ToRead here.context c.args.level here.frames, span_of c.in-Some.token))

pub first-returns-in_err-cell-in-Has-clause-run : goal.first-returns-in_err-cell-in-Has-clause-run
first-returns-in_err-cell-in-Has-clause-run t c =
    let p = err_from_is_err_and c.from_residual-in_err-cell-in-Has.result c.from_residual-in_err-cell-in-Has.ensures.1 in
    rw (p.1, p.2) (λ here. Tells-through _ _ _
    (run-front c.args.end c.args.level here.before here.context here.frames _ c.in-Some.token c.args.tokens.now c.in-Some.rest.now start.Has
    c.in-Some.ensures (sym c.in-Has.is
    ∙ c.start_of.ensures) refl) (c.in_err-cell-in-Has.ensures.run (here.before, ToTest here.context c.args.level here.frames c.in-Some.token.from)))

pub first-returns-in_ok-cell-in-Has-clause-run : goal.first-returns-in_ok-cell-in-Has-clause-run
first-returns-in_ok-cell-in-Has-clause-run t c = λ here. run-front c.args.end c.args.level here.before here.context here.frames _ c.in-Some.token
    c.args.tokens.now c.in-Some.rest.now start.Has c.in-Some.ensures (sym c.in-Has.is ∙ c.start_of.ensures) refl
    ∙ c.in_ok-cell-in-Has.ensures.run (here.before, ToTest here.context c.args.level here.frames c.in-Some.token.from)

pub first-returns-in-Other-clause-run : goal.first-returns-in-Other-clause-run
first-returns-in-Other-clause-run t c = λ here. rw c.unexpected-in-Other.ensures
    (run-front_misses c.args.end c.args.level here.before here.context here.frames c.in-Some.token c.args.tokens.now c.in-Some.rest.now start.Other
    c.in-Some.ensures (sym c.in-Other.is ∙ c.start_of.ensures) refl)

pub first-returns-then-level-gt-NOT_LEVEL-clause-run : goal.first-returns-then-level-gt-NOT_LEVEL-clause-run
first-returns-then-level-gt-NOT_LEVEL-clause-run t c = λ here. rw c.unexpected-then-level-gt-NOT_LEVEL.ensures
    (run-front_misses c.args.end c.args.level here.before here.context here.frames c.in-Some.token c.args.tokens.now c.in-Some.rest.now start.Not
    c.in-Some.ensures (sym c.in-Not.is ∙ c.start_of.ensures) (not_misses here.context c.args.level here.frames c.in-Some.token (omega arith)))

pub first-returns-then-opened-eq-MOST_OPEN-clause-run : goal.first-returns-then-opened-eq-MOST_OPEN-clause-run
first-returns-then-opened-eq-MOST_OPEN-clause-run t c = λ here. run-front_deep c.args.end c.args.level here.before here.context here.frames c.in-Some.token
    c.args.tokens.now c.in-Some.rest.now start.Not c.in-Some.ensures (sym c.in-Not.is
    ∙ c.start_of.ensures) (not_starts here.context c.args.level here.frames c.in-Some.token (omega arith)
    ∙ opens_none here.frames _ (omega (arith, here.many)))

pub first-returns-in_err-operand-in-Not-clause-run : goal.first-returns-in_err-operand-in-Not-clause-run
first-returns-in_err-operand-in-Not-clause-run t c =
    let p = err_from_is_err_and c.from_residual-in_err-operand-in-Not.result c.from_residual-in_err-operand-in-Not.ensures.1 in
    rw (p.1, p.2) (λ here. Tells-through _ _ _
    (run-front c.args.end c.args.level here.before here.context here.frames _ c.in-Some.token c.args.tokens.now c.in-Some.rest.now start.Not
    c.in-Some.ensures (sym c.in-Not.is ∙ c.start_of.ensures) (not_starts here.context c.args.level here.frames c.in-Some.token (omega arith)
    ∙ opens_more here.frames _ (omega (arith, here.many))))
    (c.in_err-operand-in-Not.ensures.run (deeper_in here (NotFrame c.args.level c.in-Some.token.from) refl)))

pub first-returns-in_ok-inner-in-Not-clause-run : goal.first-returns-in_ok-inner-in-Not-clause-run
first-returns-in_ok-inner-in-Not-clause-run t c = λ here. rw c.in_ok-inner-in-Not.ensures.value
    (run-front c.args.end c.args.level here.before here.context here.frames _ c.in-Some.token c.args.tokens.now c.in-Some.rest.now start.Not
    c.in-Some.ensures (sym c.in-Not.is ∙ c.start_of.ensures) (not_starts here.context c.args.level here.frames c.in-Some.token (omega arith)
    ∙ opens_more here.frames _ (omega (arith, here.many)))
    ∙ c.in_ok-operand-in-Not.ensures.run (deeper_in here (NotFrame c.args.level c.in-Some.token.from) refl)
    ∙ run-not c.args.end c.args.level c.in-Some.token.from here.before here.context (view c.in_ok-operand-in-Not.operand) here.frames
    c.in_ok-operand-in-Not.rest.now)

pub first-returns-then-opened-eq-MOST_OPEN-2-clause-run : goal.first-returns-then-opened-eq-MOST_OPEN-2-clause-run
first-returns-then-opened-eq-MOST_OPEN-2-clause-run t c = λ here. run-front_deep c.args.end c.args.level here.before here.context here.frames c.in-Some.token
    c.args.tokens.now c.in-Some.rest.now start.Minus c.in-Some.ensures (sym c.in-Minus.is
    ∙ c.start_of.ensures) (opens_none here.frames _ (omega (arith, here.many)))

pub first-returns-in_err-operand-in-Minus-clause-run : goal.first-returns-in_err-operand-in-Minus-clause-run
first-returns-in_err-operand-in-Minus-clause-run t c =
    let p = err_from_is_err_and c.from_residual-in_err-operand-in-Minus.result c.from_residual-in_err-operand-in-Minus.ensures.1 in
    rw (p.1, p.2) (λ here. Tells-through _ _ _
    (run-front c.args.end c.args.level here.before here.context here.frames _ c.in-Some.token c.args.tokens.now c.in-Some.rest.now start.Minus
    c.in-Some.ensures (sym c.in-Minus.is
    ∙ c.start_of.ensures) (opens_more here.frames _ (omega (arith, here.many))))
    (c.in_err-operand-in-Minus.ensures.run (deeper_in here (NegFrame c.args.level c.in-Some.token.from) refl)))

pub first-returns-in_ok-inner-in-Minus-clause-run : goal.first-returns-in_ok-inner-in-Minus-clause-run
first-returns-in_ok-inner-in-Minus-clause-run t c = λ here. rw c.in_ok-inner-in-Minus.ensures.value
    (run-front c.args.end c.args.level here.before here.context here.frames _ c.in-Some.token c.args.tokens.now c.in-Some.rest.now start.Minus
    c.in-Some.ensures (sym c.in-Minus.is ∙ c.start_of.ensures) (opens_more here.frames _ (omega (arith, here.many)))
    ∙ c.in_ok-operand-in-Minus.ensures.run (deeper_in here (NegFrame c.args.level c.in-Some.token.from) refl)
    ∙ run-neg c.args.end c.args.level c.in-Some.token.from here.before here.context (view c.in_ok-operand-in-Minus.operand) here.frames
    c.in_ok-operand-in-Minus.rest.now)

pub first-returns-then-opened-eq-MOST_OPEN-3-clause-run : goal.first-returns-then-opened-eq-MOST_OPEN-3-clause-run
first-returns-then-opened-eq-MOST_OPEN-3-clause-run t c = λ here. run-front_deep c.args.end c.args.level here.before here.context here.frames c.in-Some.token
    c.args.tokens.now c.in-Some.rest.now start.Open c.in-Some.ensures (sym c.in-Open.is
    ∙ c.start_of.ensures) (opens_none here.frames _ (omega (arith, here.many)))

pub first-returns-in_err-inside-in-Open-clause-run : goal.first-returns-in_err-inside-in-Open-clause-run
first-returns-in_err-inside-in-Open-clause-run t c =
    let p = err_from_is_err_and c.from_residual-in_err-inside-in-Open.result c.from_residual-in_err-inside-in-Open.ensures.1 in
    rw (p.1, p.2) (λ here. Tells-through _ _ _
    (run-front c.args.end c.args.level here.before here.context here.frames _ c.in-Some.token c.args.tokens.now c.in-Some.rest.now start.Open
    c.in-Some.ensures (sym c.in-Open.is
    ∙ c.start_of.ensures) (opens_more here.frames _ (omega (arith, here.many))))
    (c.in_err-inside-in-Open.ensures.run (deeper_in here (ParenFrame c.args.level c.in-Some.token.from) refl)))

pub first-returns-in_err-rest-in-Open-clause-run : goal.first-returns-in_err-rest-in-Open-clause-run
first-returns-in_err-rest-in-Open-clause-run t c =
    let p = err_from_is_err_and c.from_residual-in_err-rest-in-Open.result c.from_residual-in_err-rest-in-Open.ensures.1 in
    rw (p.1, p.2) (λ here. Tells-through _ _ _
    (run-front c.args.end c.args.level here.before here.context here.frames _ c.in-Some.token c.args.tokens.now c.in-Some.rest.now start.Open
    c.in-Some.ensures (sym c.in-Open.is ∙ c.start_of.ensures) (opens_more here.frames _ (omega (arith, here.many)))
    ∙ c.in_ok-inside-in-Open.ensures.run (deeper_in here (ParenFrame c.args.level c.in-Some.token.from) refl))
    (c.in_err-rest-in-Open.ensures.run here.before here.context (view c.in_ok-inside-in-Open.inside) c.args.level c.in-Some.token.from
    here.frames))

pub first-returns-in_ok-inner-in-Open-clause-run : goal.first-returns-in_ok-inner-in-Open-clause-run
first-returns-in_ok-inner-in-Open-clause-run t c = λ here. rw c.in_ok-inner-in-Open.ensures.value
    (run-front c.args.end c.args.level here.before here.context here.frames _ c.in-Some.token c.args.tokens.now c.in-Some.rest.now start.Open
    c.in-Some.ensures (sym c.in-Open.is ∙ c.start_of.ensures) (opens_more here.frames _ (omega (arith, here.many)))
    ∙ c.in_ok-inside-in-Open.ensures.run (deeper_in here (ParenFrame c.args.level c.in-Some.token.from) refl)
    ∙ c.in_ok-rest-in-Open.ensures.run here.before here.context (view c.in_ok-inside-in-Open.inside) c.args.level c.in-Some.token.from here.frames)

pub expression-returns-in_err-right-clause-run : goal.expression-returns-in_err-right-clause-run
expression-returns-in_err-right-clause-run t c =
    let p = err_from_is_err_and c.from_residual-in_err-right.result c.from_residual-in_err-right.ensures.1 in
    rw (p.1, p.2) (λ here. Tells-through _ _ _ (c.loop-op.invariant.run here
    ∙ c.in-Some.ensures.run c.args.end here.before here.context (view c.loop-op.left) here.frames)
    (rw c.level_of-found.ensures.level at
    (c.in_err-right.ensures.run (same_in here (RightFrame c.args.level c.in-Some.op c.in-Some.at (view c.loop-op.left)) refl))))

pub expression-loop-op-preserved : goal.expression-loop-op-preserved
expression-loop-op-preserved t c = record {
  run = λ here.
      rw (c.level_behind-high.ensures, c.in_ok-boxed.ensures.value, c.in_ok-boxed-2.ensures.value, c.level_of-found.ensures.level)
      (c.loop-op.invariant.run here ∙ c.in-Some.ensures.run c.args.end here.before here.context (view c.loop-op.left) here.frames
      ∙ (rw c.level_of-found.ensures.level at
      (c.in_ok-right.ensures.run (same_in here (RightFrame c.args.level c.in-Some.op c.in-Some.at (view c.loop-op.left)) refl)))
      ∙ run-right c.args.end c.args.level c.in-Some.at here.before here.context c.in-Some.op (view c.loop-op.left) (view c.in_ok-right.right) here.frames
      c.in_ok-right.behind.now);
  shorter = search rules;
}
