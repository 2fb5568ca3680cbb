use Rattle.std.proofs.Common.{◌≡◌, false, sym, ap, ◌∙◌, arith}
use Rattle.std.specs.Prelude.{◌&&◌, Some}
use Rattle.std.specs.List.{list_any, range_with_len}
use Rattle.flu_lemmas.proofs.Booleans.{and_false}
use Rattle.flu_lemmas.proofs.Listed.{test_turn}
use Rattle.flu_lemmas.proofs.Tests.{both}
use Rattle.flu_model.specs.Itags.{count_of_itags}
use Rattle.flu_apart.specs.Classes.{inside, has_ticks}
use Rattle.flu_apart.specs.Subtrees.{job, nodes, node}
use Rattle.flu_apart.proofs.ClockLemmas.{of_clock, first_at, none_at}
use Rattle.flu_apart.proofs.search.first_clock.Goals as goal
use Rattle.flu_apart.proofs.search.first_clock.Goals.{else-has-via-then-has+else-has_ticks, else-has-via-else-has}

pub returns-then-has_ticks : goal.returns-then-has_ticks
returns-then-has_ticks c =
    let s = c.args.s.now in
    let inner = sym c.has.ensures ∙ c.if-has.true in
    let ticks = sym c.has_ticks.ensures ∙ c.if-has_ticks.true in
    ap Some c.source_of.ensures.source
    ∙ sym (first_at (job s) (nodes s) (node s) c.loop-i.i (omega arith) c.loop-i.invariant
    (both (inside (job s) (nodes s) (node s) c.loop-i.i) (has_ticks (job s) c.loop-i.i) inner ticks))

pub loop-i-preserved : goal.loop-i-preserved
loop-i-preserved c =
    let s = c.args.s.now in
    let i = c.loop-i.i in
    let not_clock : of_clock (job s) (nodes s) (node s) i ≡ false =
    elim c.else-has.branch [
      | else-has-via-then-has+else-has_ticks w ↦
          ap (λ b. inside (job s) (nodes s) (node s) i && b) (sym w.has_ticks.ensures ∙ w.if-has_ticks.false)
          ∙ and_false (inside (job s) (nodes s) (node s) i)
      | else-has-via-else-has w ↦ ap (λ b. b && has_ticks (job s) i) (sym c.has.ensures ∙ w.if-has.false)
    ] in
    sym (test_turn (of_clock (job s) (nodes s) (node s)) i false false (sym not_clock) (sym c.loop-i.invariant))

pub returns : goal.returns
returns c =
    let s = c.args.s.now in
    let all : c.loop-i.i ≡ count_of_itags (job s) = omega arith in
    sym (none_at (job s) (nodes s) (node s)
    (ap (λ n. list_any (of_clock (job s) (nodes s) (node s)) (range_with_len 0 n)) (sym all) ∙ c.loop-i.invariant))
