use Rattle.std.proofs.Common.{◌≡◌, ◌≤◌, [], ◌∷◌, drop, length, subst}
use Rattle.std.specs.BinaryHeap.{heap_items}
use Rattle.flu_model.specs.Listed.{listed}
use Rattle.flu_model.specs.Merging.{events_of}
use Rattle.flu_seq.specs.LoopHeads.{event_at}
use Rattle.flu_seq.proofs.Turns.{goes_without, goes_on, goes_round}
use Rattle.flu_seq.proofs.coming.next_after.Goals as goal

pub returns-in_default : goal.returns-in_default
returns-in_default c =
    goes_without (listed c.args.s.now) c.args.s.now.good c.args.head (heap_items c.args.others.now) c.requires
    (heap_items c.pop_first.new.heads) c.pop_first.result
    (subst (λ items. events_of (drop c.args.head.place items) ≡ []) c.items.ensures c.in_default.ensures.next) c.pop_first.ensures

pub returns : goal.returns
returns c =
    goes_round (listed c.args.s.now) c.args.s.now.good c.args.head (heap_items c.args.others.now) c.requires c.in-Some.own
    (subst (λ items. events_of (drop c.args.head.place items) ≡ event_at c.in-Some.own ∷ events_of (drop c.in-Some.own.place items))
    c.items.ensures c.in-Some.ensures.next)
    (subst (λ items. c.in-Some.own.place ≤ length items) c.items.ensures c.in-Some.ensures.within)
    (heap_items c.push.new.self) (heap_items c.pop_first-2.new.heads) c.pop_first-2.result
    c.in_ok-push.ensures.permutation c.in_ok-push.ensures.heap_order c.pop_first-2.ensures
