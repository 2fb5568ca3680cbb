use Rattle.std.proofs.Common.{◌≡◌, ◌≤◌, ℕ, Some, None, List, false, length, sym, ap, subst, ◌∙◌, arith}
use Rattle.std.specs.Prelude.{nat_lt, slice_get}
use Rattle.std.proofs.lemmas.Bool.Decides.{nat_tests}
use Rattle.std.proofs.lemmas.Option.{slice_get_past}
use Rattle.flu_worker.specs.Notes.{WorkerNote}
use Rattle.flu_net.specs.Notes.{NetNote, asked_of}
use Rattle.flu_net.specs.Rule.{Rule}
use Rattle.flu_net.specs.Enabled.{if_there}
use Rattle.flu_worker.specs.Choosing.{may_give}
use Rattle.flu_net.proofs.Readying.{asks_above, asks_next, at_index, case_of}
use Rattle.flu_net.proofs.net.Net.gives.Goals as goal

pub can_give-requires-clause-above : goal.can_give-requires-clause-above
can_give-requires-clause-above c =
    let v : NetNote = record {
      case = c.self.inside.case;
      gone = c.self.inside.gone;
      seen = c.self.inside.seen;
      workers = c.self.inside.workers.items;
      edges = c.self.inside.edges.items;
      outs = c.self.inside.outs;
    } in
    let gone_in : c.self.inside.gone ≡ false = ap (λ (x : NetNote). x.gone) c.self.view_is ∙ c.requires.gone in
    let rule : Rule v = c.self.invariant gone_in in
    let n = c.in-Some.worker.now in
    let at : slice_get v.workers c.args.w ≡ Some n = ap (λ (l : List WorkerNote). slice_get l c.args.w) (sym c.deref.ensures.value)
    ∙ at_index c.deref.result.now c.args.w n c.in-Some.ensures.lookup.3.0 c.in-Some.ensures.lookup.1 in
    let asked : asked_of v c.args.w ≡ Some c.args.y = subst (λ (x : NetNote). asked_of x c.args.w ≡ Some c.args.y) (sym c.self.view_is) c.requires.asked in
    asks_above c.laws_below.ensures v rule c.args.w n at (Some c.args.y) (sym asked)

pub can_give-requires-clause-next : goal.can_give-requires-clause-next
can_give-requires-clause-next c =
    let v : NetNote = record {
      case = c.self.inside.case;
      gone = c.self.inside.gone;
      seen = c.self.inside.seen;
      workers = c.self.inside.workers.items;
      edges = c.self.inside.edges.items;
      outs = c.self.inside.outs;
    } in
    let gone_in : c.self.inside.gone ≡ false = ap (λ (x : NetNote). x.gone) c.self.view_is ∙ c.requires.gone in
    let rule : Rule v = c.self.invariant gone_in in
    let n = c.in-Some.worker.now in
    let at : slice_get v.workers c.args.w ≡ Some n = ap (λ (l : List WorkerNote). slice_get l c.args.w) (sym c.deref.ensures.value)
    ∙ at_index c.deref.result.now c.args.w n c.in-Some.ensures.lookup.3.0 c.in-Some.ensures.lookup.1 in
    let asked : asked_of v c.args.w ≡ Some c.args.y = subst (λ (x : NetNote). asked_of x c.args.w ≡ Some c.args.y) (sym c.self.view_is) c.requires.asked in
    asks_next c.laws_below.ensures v rule c.args.w n at (Some c.args.y) (sym asked)

pub can_give-requires-clause-case : goal.can_give-requires-clause-case
can_give-requires-clause-case c =
    let v : NetNote = record {
      case = c.self.inside.case;
      gone = c.self.inside.gone;
      seen = c.self.inside.seen;
      workers = c.self.inside.workers.items;
      edges = c.self.inside.edges.items;
      outs = c.self.inside.outs;
    } in
    let gone_in : c.self.inside.gone ≡ false = ap (λ (x : NetNote). x.gone) c.self.view_is ∙ c.requires.gone in
    let rule : Rule v = c.self.invariant gone_in in
    let same : c.args.case.now ≡ v.case = c.requires.case ∙ sym (ap (λ (x : NetNote). x.case) c.self.view_is) in
    let n = c.in-Some.worker.now in
    let at : slice_get v.workers c.args.w ≡ Some n = ap (λ (l : List WorkerNote). slice_get l c.args.w) (sym c.deref.ensures.value)
    ∙ at_index c.deref.result.now c.args.w n c.in-Some.ensures.lookup.3.0 c.in-Some.ensures.lookup.1 in
    same ∙ sym (case_of c.laws_below.ensures v rule c.args.w n at)

pub returns-in-Some : goal.returns-in-Some
returns-in-Some c =
    let n = c.in-Some.worker.now in
    let at : slice_get c.self.inside.workers.items c.args.w ≡ Some n = ap (λ (l : List WorkerNote). slice_get l c.args.w) (sym c.deref.ensures.value)
    ∙ at_index c.deref.result.now c.args.w n c.in-Some.ensures.lookup.3.0 c.in-Some.ensures.lookup.1 in
    let workers : c.self.inside.workers.items ≡ c.args.self.now.workers = ap (λ (x : NetNote). x.workers) c.self.view_is in
    c.can_give.ensures ∙ ap (if_there (λ (x : WorkerNote). may_give x c.args.y)) (sym at ∙ ap (λ (l : List WorkerNote). slice_get l c.args.w) workers)

pub returns-in-None : goal.returns-in-None
returns-in-None c =
    let far : length c.deref.result.now ≤ c.args.w = not_lt c.args.w (length c.deref.result.now) (sym c.in-None.ensures.lookup.0) in
    let workers : c.deref.result.now ≡ c.args.self.now.workers = c.deref.ensures.value ∙ ap (λ (x : NetNote). x.workers) c.self.view_is in
    let none : slice_get c.args.self.now.workers c.args.w ≡ None =
    ap (λ (l : List WorkerNote). slice_get l c.args.w) (sym workers) ∙ slice_get_past c.deref.result.now c.args.w far in
    sym (ap (if_there (λ (x : WorkerNote). may_give x c.args.y)) none)
  where
    not_lt : (a b : ℕ) → nat_lt a b ≡ false → b ≤ a
    not_lt a b e = grind (arith, nat_tests)
