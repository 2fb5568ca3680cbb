use Rattle.std.proofs.Common.{◌<◌, Some, None, sym, subst}
use Rattle.std.specs.BinaryHeap.{heap_items}
use Rattle.flu_lemmas.specs.Totals.{total}
use Rattle.flu_model.specs.declared.events.Event.{Event}
use Rattle.flu_model.specs.Listed.{listed}
use Rattle.flu_seq.specs.declared.coming.Coming.{Coming}
use Rattle.flu_seq.specs.LoopHeads.{Comes, Goes, IsNext, SoFar, all_heads, event_at, left_in, pending}
use Rattle.flu_seq.proofs.Turns.{ended, turn, fewer, in_range}
use Rattle.flu_seq.proofs.coming.Coming.next.Goals as goal

pub next_after-requires : goal.next_after-requires
next_after-requires c =
    subst (λ next. IsNext (listed c.args.self.now.streams.now) next (heap_items c.args.self.now.others)) c.in-Some.is c.requires.1.stands

pub returns-in_default-clause-next : goal.returns-in_default-clause-next
returns-in_default-clause-next c done behind =
    ended (listed c.args.self.now.streams.now) done (heap_items c.args.self.now.others)
    (subst (λ next. SoFar (listed c.args.self.now.streams.now) done next (heap_items c.args.self.now.others)) c.in_default.is behind)

pub returns-clause-next : goal.returns-clause-next
returns-clause-next c done behind =
    let lists = listed c.args.self.now.streams.now in
    let old = heap_items c.args.self.now.others in
    let others = heap_items c.next_after.new.others in
    let so_far : SoFar lists done (Some c.in-Some.head) old = subst (λ next. SoFar lists done next old) c.in-Some.is behind in
    let goes : Goes lists c.in-Some.head old others c.in_ok-self.field-0 = c.in_ok-self.ensures in
    let new : Coming = record { streams = c.args.self.now.streams; next = c.in_ok-self.field-0; others = c.next_after.new.others } in
    let comes : Comes c.args.self.now new done (event_at c.in-Some.head) = record {
      in_range = in_range lists c.args.self.now.streams.now.good c.in-Some.head old so_far.stands;
      fewer =
          subst (λ next. left_in new < total (λ (e : Event). 1) (pending lists (all_heads next old))) (sym c.in-Some.is)
          (fewer lists c.in-Some.head old others c.in_ok-self.field-0 goes);
      behind = turn lists done c.in-Some.head old others c.in_ok-self.field-0 so_far goes;
    } in
    subst (λ x. Comes c.args.self.now new done x) (sym c.event_of.ensures) comes
