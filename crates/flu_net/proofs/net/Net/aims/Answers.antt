use Rattle.std.proofs.Common.{◌≡◌, Some, List, true, false, sym, ap, subst, ◌∙◌}
use Rattle.std.specs.Prelude.{◌&&◌, slice_get, is_some}
use Rattle.flu_worker.specs.Choosing.{target_of}
use Rattle.flu_worker.specs.Hands.{may_take}
use Rattle.flu_worker.specs.Notes.{WorkerNote}
use Rattle.flu_net.specs.declared.edges.Edge.{Edge}
use Rattle.flu_net.specs.Enabled.{aims}
use Rattle.flu_net.specs.Notes.{NetNote, asked_of, asked_over}
use Rattle.flu_net.specs.Rule.{Rule}
use Rattle.flu_net.proofs.Readying.{asks_above, asks_next, at_index}
use Rattle.flu_net.proofs.net.Net.aims.Goals as goal

pub target-requires-clause-above : goal.target-requires-clause-above
target-requires-clause-above c =
    let laws = c.laws_below.ensures in
    let v : NetNote = record {
      case = c.self.inside.case;
      gone = c.self.inside.gone;
      seen = c.self.inside.seen;
      workers = c.self.inside.workers.items;
      edges = c.self.inside.edges.items;
      outs = c.self.inside.outs;
    } in
    let gone_in : c.self.inside.gone ≡ false = ap (λ (x : NetNote). x.gone) c.self.view_is ∙ c.requires.gone in
    let rule : Rule v = c.self.invariant gone_in in
    let n = c.in-Some.worker.now in
    let at : slice_get v.workers c.args.w ≡ Some n = ap (λ (l : List WorkerNote). slice_get l c.args.w) (sym c.deref.ensures.value)
    ∙ at_index c.deref.result.now c.args.w n c.in-Some.ensures.lookup.3.0 c.in-Some.ensures.lookup.1 in
    let asked : c.ask_at-asked.result ≡ asked_of v c.args.w = c.ask_at-asked.ensures
    ∙ ap (λ (es : List Edge). asked_over (slice_get es c.args.w)) c.as_slice.ensures.value in
    asks_above laws v rule c.args.w n at c.ask_at-asked.result asked

pub target-requires-clause-next : goal.target-requires-clause-next
target-requires-clause-next c =
    let laws = c.laws_below.ensures in
    let v : NetNote = record {
      case = c.self.inside.case;
      gone = c.self.inside.gone;
      seen = c.self.inside.seen;
      workers = c.self.inside.workers.items;
      edges = c.self.inside.edges.items;
      outs = c.self.inside.outs;
    } in
    let gone_in : c.self.inside.gone ≡ false = ap (λ (x : NetNote). x.gone) c.self.view_is ∙ c.requires.gone in
    let rule : Rule v = c.self.invariant gone_in in
    let n = c.in-Some.worker.now in
    let at : slice_get v.workers c.args.w ≡ Some n = ap (λ (l : List WorkerNote). slice_get l c.args.w) (sym c.deref.ensures.value)
    ∙ at_index c.deref.result.now c.args.w n c.in-Some.ensures.lookup.3.0 c.in-Some.ensures.lookup.1 in
    let asked : c.ask_at-asked.result ≡ asked_of v c.args.w = c.ask_at-asked.ensures
    ∙ ap (λ (es : List Edge). asked_over (slice_get es c.args.w)) c.as_slice.ensures.value in
    asks_next laws v rule c.args.w n at c.ask_at-asked.result asked

pub returns-then-may_take : goal.returns-then-may_take
returns-then-may_take c =
    let v : NetNote = record {
      case = c.self.inside.case;
      gone = c.self.inside.gone;
      seen = c.self.inside.seen;
      workers = c.self.inside.workers.items;
      edges = c.self.inside.edges.items;
      outs = c.self.inside.outs;
    } in
    let gone_in : c.self.inside.gone ≡ false = ap (λ (x : NetNote). x.gone) c.self.view_is ∙ c.requires.gone in
    let rule : Rule v = c.self.invariant gone_in in
    let n = c.in-Some.worker.now in
    let at : slice_get v.workers c.args.w ≡ Some n = ap (λ (l : List WorkerNote). slice_get l c.args.w) (sym c.deref.ensures.value)
    ∙ at_index c.deref.result.now c.args.w n c.in-Some.ensures.lookup.3.0 c.in-Some.ensures.lookup.1 in
    let asked : c.ask_at-asked.result ≡ asked_of v c.args.w = c.ask_at-asked.ensures
    ∙ ap (λ (es : List Edge). asked_over (slice_get es c.args.w)) c.as_slice.ensures.value in
    let takes : may_take c.args.side n.hand ≡ true = sym (c.may_take.ensures ∙ ap (may_take c.args.side) c.hand.ensures) ∙ c.if-may_take.true in
    subst (λ (x : NetNote). c.is_some.result ≡ aims x c.args.w c.args.side (slice_get x.workers c.args.w)) c.self.view_is
    (c.is_some.ensures ∙ ap is_some (c.target.ensures ∙ ap (target_of n) asked) ∙ sym (ap (λ b. b && is_some (target_of n (asked_of v c.args.w))) takes)
    ∙ sym (ap (aims v c.args.w c.args.side) at))

pub returns-else-may_take : goal.returns-else-may_take
returns-else-may_take c =
    let v : NetNote = record {
      case = c.self.inside.case;
      gone = c.self.inside.gone;
      seen = c.self.inside.seen;
      workers = c.self.inside.workers.items;
      edges = c.self.inside.edges.items;
      outs = c.self.inside.outs;
    } in
    let gone_in : c.self.inside.gone ≡ false = ap (λ (x : NetNote). x.gone) c.self.view_is ∙ c.requires.gone in
    let rule : Rule v = c.self.invariant gone_in in
    let n = c.in-Some.worker.now in
    let at : slice_get v.workers c.args.w ≡ Some n = ap (λ (l : List WorkerNote). slice_get l c.args.w) (sym c.deref.ensures.value)
    ∙ at_index c.deref.result.now c.args.w n c.in-Some.ensures.lookup.3.0 c.in-Some.ensures.lookup.1 in
    let takes : may_take c.args.side n.hand ≡ false = sym (c.may_take.ensures ∙ ap (may_take c.args.side) c.hand.ensures) ∙ c.if-may_take.false in
    subst (λ (x : NetNote). c.may_take.result ≡ aims x c.args.w c.args.side (slice_get x.workers c.args.w)) c.self.view_is
    (c.if-may_take.false ∙ sym (ap (λ b. b && is_some (target_of n (asked_of v c.args.w))) takes) ∙ sym (ap (aims v c.args.w c.args.side) at))
