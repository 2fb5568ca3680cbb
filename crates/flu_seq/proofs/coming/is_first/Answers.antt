use Rattle.std.proofs.Common.{◌≡◌, true, arith}
use Rattle.std.specs.BinaryHeap.{heap_items}
use Rattle.std.proofs.lemmas.Grind.{common_steps}
use Rattle.flu_model.specs.Merging.{is_before}
use Rattle.flu_seq.specs.LoopHeads.{event_at}
use Rattle.flu_seq.proofs.Turns.{before_all}
use Rattle.flu_seq.proofs.coming.is_first.Goals as goal

pub returns-then-own-first : goal.returns-then-own-first
returns-then-own-first c first heap =
    let before : is_before (event_at c.args.own.now) (event_at c.in-Some.field-0.now.0) ≡ true = grind (arith, common_steps, c.if-own-first.true) in
    before_all (event_at c.args.own.now) c.in-Some.field-0.now (heap_items c.args.others.now) before (c.in-Some.ensures.greatest heap)

pub returns-then-own-first-2 : goal.returns-then-own-first-2
returns-then-own-first-2 c first heap =
    let before : is_before (event_at c.args.own.now) (event_at c.in-Some.field-0.now.0) ≡ true = grind (arith, common_steps, c.if-own-first-2.true, first) in
    before_all (event_at c.args.own.now) c.in-Some.field-0.now (heap_items c.args.others.now) before (c.in-Some.ensures.greatest heap)
