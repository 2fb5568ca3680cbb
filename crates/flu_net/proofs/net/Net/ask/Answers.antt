use Rattle.std.proofs.Common.{◌≡◌, Option, Some, List, set, true, false, refl, sym, ap, subst, ◌∙◌}
use Rattle.std.specs.Prelude.{◌&&◌, slice_get, is_some, IfSome}
use Rattle.flu_lemmas.proofs.Tests.{and_left, and_right}
use Rattle.flu_lemmas.proofs.Options.{none_or_some}
use Rattle.flu_fork.specs.declared.content.Content.{Content}
use Rattle.flu_fork.specs.declared.lots.Ask.{Ask}
use Rattle.flu_worker.specs.Calls.{IsAskable, KeepsTarget}
use Rattle.flu_worker.specs.Choosing.{target_of}
use Rattle.flu_worker.specs.Hands.{may_take}
use Rattle.flu_worker.specs.Notes.{WorkerNote}
use Rattle.flu_net.specs.declared.edges.Edge.{Edge}
use Rattle.flu_net.specs.Effects.{Asks}
use Rattle.flu_net.specs.Enabled.{may_ask}
use Rattle.flu_net.specs.Notes.{NetNote, asked_of, asked_over, kid_of}
use Rattle.flu_net.specs.Rule.{Rule}
use Rattle.flu_net.proofs.Keeping.{rule_asks}
use Rattle.flu_net.proofs.Readying.{asks_above, asks_next, at_index, case_of, held_edge, kid_lt, kid_there, there_test, kept_at}
use Rattle.flu_net.proofs.net.Net.ask.Goals as goal

pub ask_of-requires-clause-case : goal.ask_of-requires-clause-case
ask_of-requires-clause-case c =
    let v : NetNote = record {
      case = c.self.inside.case;
      gone = c.self.inside.gone;
      seen = c.self.inside.seen;
      workers = c.self.inside.workers.items;
      edges = c.self.inside.edges.items;
      outs = c.self.inside.outs;
    } in
    let gone_in : c.self.inside.gone ≡ false = ap (λ (x : NetNote). x.gone) c.self.view_is ∙ c.requires.gone in
    let rule : Rule v = c.self.invariant gone_in in
    let same : c.args.case.now ≡ v.case = c.requires.case ∙ sym (ap (λ (x : NetNote). x.case) c.self.view_is) in
    let may : may_ask v c.args.w c.args.side ≡ true = subst (λ x. may_ask x c.args.w c.args.side ≡ true) (sym c.self.view_is) c.requires.may in
    let n = c.index_mut.result.now in
    let kid : kid_of v.case c.args.w c.args.side ≡ Some c.in-Some.kid = ap (λ (k : Content). kid_of k c.args.w c.args.side) (sym same) ∙ sym c.kid_of.ensures
    ∙ c.in-Some.is in
    let lt = kid_lt v rule c.args.w c.in-Some.kid c.args.side kid in
    let at : slice_get v.workers c.args.w ≡ Some n = at_index v.workers c.args.w n lt c.index_mut.ensures.value in
    let asked : c.ask_at-asked.result ≡ asked_of v c.args.w = c.ask_at-asked.ensures
    ∙ ap (λ (es : List Edge). asked_over (slice_get es c.args.w)) c.as_slice.ensures.value in
    let tests =
    there_test (λ (x : WorkerNote). may_take c.args.side x.hand && is_some (target_of x (asked_of v c.args.w))) (slice_get v.workers c.args.w) n at
    (and_right _ _ may) in
    same ∙ sym (case_of c.laws_below.ensures v rule c.args.w n at)

pub ask_of-requires-clause-above : goal.ask_of-requires-clause-above
ask_of-requires-clause-above c =
    let v : NetNote = record {
      case = c.self.inside.case;
      gone = c.self.inside.gone;
      seen = c.self.inside.seen;
      workers = c.self.inside.workers.items;
      edges = c.self.inside.edges.items;
      outs = c.self.inside.outs;
    } in
    let gone_in : c.self.inside.gone ≡ false = ap (λ (x : NetNote). x.gone) c.self.view_is ∙ c.requires.gone in
    let rule : Rule v = c.self.invariant gone_in in
    let same : c.args.case.now ≡ v.case = c.requires.case ∙ sym (ap (λ (x : NetNote). x.case) c.self.view_is) in
    let may : may_ask v c.args.w c.args.side ≡ true = subst (λ x. may_ask x c.args.w c.args.side ≡ true) (sym c.self.view_is) c.requires.may in
    let n = c.index_mut.result.now in
    let kid : kid_of v.case c.args.w c.args.side ≡ Some c.in-Some.kid = ap (λ (k : Content). kid_of k c.args.w c.args.side) (sym same) ∙ sym c.kid_of.ensures
    ∙ c.in-Some.is in
    let lt = kid_lt v rule c.args.w c.in-Some.kid c.args.side kid in
    let at : slice_get v.workers c.args.w ≡ Some n = at_index v.workers c.args.w n lt c.index_mut.ensures.value in
    let asked : c.ask_at-asked.result ≡ asked_of v c.args.w = c.ask_at-asked.ensures
    ∙ ap (λ (es : List Edge). asked_over (slice_get es c.args.w)) c.as_slice.ensures.value in
    let tests =
    there_test (λ (x : WorkerNote). may_take c.args.side x.hand && is_some (target_of x (asked_of v c.args.w))) (slice_get v.workers c.args.w) n at
    (and_right _ _ may) in
    asks_above c.laws_below.ensures v rule c.args.w n at c.ask_at-asked.result asked

pub ask_of-requires-clause-next : goal.ask_of-requires-clause-next
ask_of-requires-clause-next c =
    let v : NetNote = record {
      case = c.self.inside.case;
      gone = c.self.inside.gone;
      seen = c.self.inside.seen;
      workers = c.self.inside.workers.items;
      edges = c.self.inside.edges.items;
      outs = c.self.inside.outs;
    } in
    let gone_in : c.self.inside.gone ≡ false = ap (λ (x : NetNote). x.gone) c.self.view_is ∙ c.requires.gone in
    let rule : Rule v = c.self.invariant gone_in in
    let same : c.args.case.now ≡ v.case = c.requires.case ∙ sym (ap (λ (x : NetNote). x.case) c.self.view_is) in
    let may : may_ask v c.args.w c.args.side ≡ true = subst (λ x. may_ask x c.args.w c.args.side ≡ true) (sym c.self.view_is) c.requires.may in
    let n = c.index_mut.result.now in
    let kid : kid_of v.case c.args.w c.args.side ≡ Some c.in-Some.kid = ap (λ (k : Content). kid_of k c.args.w c.args.side) (sym same) ∙ sym c.kid_of.ensures
    ∙ c.in-Some.is in
    let lt = kid_lt v rule c.args.w c.in-Some.kid c.args.side kid in
    let at : slice_get v.workers c.args.w ≡ Some n = at_index v.workers c.args.w n lt c.index_mut.ensures.value in
    let asked : c.ask_at-asked.result ≡ asked_of v c.args.w = c.ask_at-asked.ensures
    ∙ ap (λ (es : List Edge). asked_over (slice_get es c.args.w)) c.as_slice.ensures.value in
    let tests =
    there_test (λ (x : WorkerNote). may_take c.args.side x.hand && is_some (target_of x (asked_of v c.args.w))) (slice_get v.workers c.args.w) n at
    (and_right _ _ may) in
    asks_next c.laws_below.ensures v rule c.args.w n at c.ask_at-asked.result asked

pub unreachable-requires-in_default-ask_of : goal.unreachable-requires-in_default-ask_of
unreachable-requires-in_default-ask_of c =
    let v : NetNote = record {
      case = c.self.inside.case;
      gone = c.self.inside.gone;
      seen = c.self.inside.seen;
      workers = c.self.inside.workers.items;
      edges = c.self.inside.edges.items;
      outs = c.self.inside.outs;
    } in
    let gone_in : c.self.inside.gone ≡ false = ap (λ (x : NetNote). x.gone) c.self.view_is ∙ c.requires.gone in
    let rule : Rule v = c.self.invariant gone_in in
    let same : c.args.case.now ≡ v.case = c.requires.case ∙ sym (ap (λ (x : NetNote). x.case) c.self.view_is) in
    let may : may_ask v c.args.w c.args.side ≡ true = subst (λ x. may_ask x c.args.w c.args.side ≡ true) (sym c.self.view_is) c.requires.may in
    let n = c.index_mut.result.now in
    let kid : kid_of v.case c.args.w c.args.side ≡ Some c.in-Some.kid = ap (λ (k : Content). kid_of k c.args.w c.args.side) (sym same) ∙ sym c.kid_of.ensures
    ∙ c.in-Some.is in
    let lt = kid_lt v rule c.args.w c.in-Some.kid c.args.side kid in
    let at : slice_get v.workers c.args.w ≡ Some n = at_index v.workers c.args.w n lt c.index_mut.ensures.value in
    let asked : c.ask_at-asked.result ≡ asked_of v c.args.w = c.ask_at-asked.ensures
    ∙ ap (λ (es : List Edge). asked_over (slice_get es c.args.w)) c.as_slice.ensures.value in
    let tests =
    there_test (λ (x : WorkerNote). may_take c.args.side x.hand && is_some (target_of x (asked_of v c.args.w))) (slice_get v.workers c.args.w) n at
    (and_right _ _ may) in
    none_or_some (target_of n (asked_of v c.args.w)) (ap (target_of n) (sym asked) ∙ sym c.ask_of.ensures.target ∙ c.in_default-ask_of.is) (and_right _ _ tests)

pub put-requires : goal.put-requires
put-requires c =
    let v : NetNote = record {
      case = c.self.inside.case;
      gone = c.self.inside.gone;
      seen = c.self.inside.seen;
      workers = c.self.inside.workers.items;
      edges = c.self.inside.edges.items;
      outs = c.self.inside.outs;
    } in
    let gone_in : c.self.inside.gone ≡ false = ap (λ (x : NetNote). x.gone) c.self.view_is ∙ c.requires.gone in
    let rule : Rule v = c.self.invariant gone_in in
    let same : c.args.case.now ≡ v.case = c.requires.case ∙ sym (ap (λ (x : NetNote). x.case) c.self.view_is) in
    let may : may_ask v c.args.w c.args.side ≡ true = subst (λ x. may_ask x c.args.w c.args.side ≡ true) (sym c.self.view_is) c.requires.may in
    let n = c.index_mut.result.now in
    let kid : kid_of v.case c.args.w c.args.side ≡ Some c.in-Some.kid = ap (λ (k : Content). kid_of k c.args.w c.args.side) (sym same) ∙ sym c.kid_of.ensures
    ∙ c.in-Some.is in
    let lt = kid_lt v rule c.args.w c.in-Some.kid c.args.side kid in
    let at : slice_get v.workers c.args.w ≡ Some n = at_index v.workers c.args.w n lt c.index_mut.ensures.value in
    let asked : c.ask_at-asked.result ≡ asked_of v c.args.w = c.ask_at-asked.ensures
    ∙ ap (λ (es : List Edge). asked_over (slice_get es c.args.w)) c.as_slice.ensures.value in
    let tests =
    there_test (λ (x : WorkerNote). may_take c.args.side x.hand && is_some (target_of x (asked_of v c.args.w))) (slice_get v.workers c.args.w) n at
    (and_right _ _ may) in
    kid_there c.laws_below.ensures v rule c.args.w n at c.in-Some.kid c.args.side kid

pub invariant_of-self : goal.invariant_of-self
invariant_of-self c =
    let v : NetNote = record {
      case = c.self.inside.case;
      gone = c.self.inside.gone;
      seen = c.self.inside.seen;
      workers = c.self.inside.workers.items;
      edges = c.self.inside.edges.items;
      outs = c.self.inside.outs;
    } in
    let gone_in : c.self.inside.gone ≡ false = ap (λ (x : NetNote). x.gone) c.self.view_is ∙ c.requires.gone in
    let rule : Rule v = c.self.invariant gone_in in
    let same : c.args.case.now ≡ v.case = c.requires.case ∙ sym (ap (λ (x : NetNote). x.case) c.self.view_is) in
    let may : may_ask v c.args.w c.args.side ≡ true = subst (λ x. may_ask x c.args.w c.args.side ≡ true) (sym c.self.view_is) c.requires.may in
    let n = c.index_mut.result.now in
    let kid : kid_of v.case c.args.w c.args.side ≡ Some c.in-Some.kid = ap (λ (k : Content). kid_of k c.args.w c.args.side) (sym same) ∙ sym c.kid_of.ensures
    ∙ c.in-Some.is in
    let lt = kid_lt v rule c.args.w c.in-Some.kid c.args.side kid in
    let at : slice_get v.workers c.args.w ≡ Some n = at_index v.workers c.args.w n lt c.index_mut.ensures.value in
    let asked : c.ask_at-asked.result ≡ asked_of v c.args.w = c.ask_at-asked.ensures
    ∙ ap (λ (es : List Edge). asked_over (slice_get es c.args.w)) c.as_slice.ensures.value in
    let tests =
    there_test (λ (x : WorkerNote). may_take c.args.side x.hand && is_some (target_of x (asked_of v c.args.w))) (slice_get v.workers c.args.w) n at
    (and_right _ _ may) in
    let u : NetNote = record {
      case = c.self.inside.case;
      gone = c.self.inside.gone;
      seen = c.self.inside.seen;
      workers = set c.self.inside.workers.items c.args.w c.ask_of.new.self;
      edges = c.put.new.edges.items;
      outs = c.self.inside.outs;
    } in
    let y = c.in-Some-ask_of.target in
    let h : Asks c.args.w c.args.side v u = record {
      step = record { was = n; is = c.ask_of.new.self; rule = kept_at v.workers c.args.w c.ask_of.new.self lt c.keeps.ensures; at = at; case = refl; gone = gone_in; seen = refl; workers = refl };
      kid = c.in-Some.kid;
      is_kid = kid;
      target = y;
      aims = ap (target_of n) (sym asked) ∙ sym c.ask_of.ensures.target ∙ c.in-Some-ask_of.is;
      does = subst (λ (o : Option Ask). KeepsTarget o n c.ask_of.new.self) c.in-Some-ask_of.is c.ask_of.ensures.note;
      askable = subst (λ (o : Option Ask). IfSome o (IsAskable c.ask_of.new.self)) c.in-Some-ask_of.is c.ask_of.ensures.askable;
      edges = c.put.ensures.is;
      outs = refl;
    } in
    λ _. rule_asks c.laws_below.ensures c.args.w c.args.side v u rule h
    (held_edge v.edges (kid_of v.case c.args.w c.args.side) c.in-Some.kid kid (and_left _ _ may)) (and_left _ _ tests)

pub returns : goal.returns
returns c =
    let v : NetNote = record {
      case = c.self.inside.case;
      gone = c.self.inside.gone;
      seen = c.self.inside.seen;
      workers = c.self.inside.workers.items;
      edges = c.self.inside.edges.items;
      outs = c.self.inside.outs;
    } in
    let gone_in : c.self.inside.gone ≡ false = ap (λ (x : NetNote). x.gone) c.self.view_is ∙ c.requires.gone in
    let rule : Rule v = c.self.invariant gone_in in
    let same : c.args.case.now ≡ v.case = c.requires.case ∙ sym (ap (λ (x : NetNote). x.case) c.self.view_is) in
    let may : may_ask v c.args.w c.args.side ≡ true = subst (λ x. may_ask x c.args.w c.args.side ≡ true) (sym c.self.view_is) c.requires.may in
    let n = c.index_mut.result.now in
    let kid : kid_of v.case c.args.w c.args.side ≡ Some c.in-Some.kid = ap (λ (k : Content). kid_of k c.args.w c.args.side) (sym same) ∙ sym c.kid_of.ensures
    ∙ c.in-Some.is in
    let lt = kid_lt v rule c.args.w c.in-Some.kid c.args.side kid in
    let at : slice_get v.workers c.args.w ≡ Some n = at_index v.workers c.args.w n lt c.index_mut.ensures.value in
    let asked : c.ask_at-asked.result ≡ asked_of v c.args.w = c.ask_at-asked.ensures
    ∙ ap (λ (es : List Edge). asked_over (slice_get es c.args.w)) c.as_slice.ensures.value in
    let tests =
    there_test (λ (x : WorkerNote). may_take c.args.side x.hand && is_some (target_of x (asked_of v c.args.w))) (slice_get v.workers c.args.w) n at
    (and_right _ _ may) in
    let u : NetNote = record {
      case = c.self.inside.case;
      gone = c.self.inside.gone;
      seen = c.self.inside.seen;
      workers = set c.self.inside.workers.items c.args.w c.ask_of.new.self;
      edges = c.put.new.edges.items;
      outs = c.self.inside.outs;
    } in
    let y = c.in-Some-ask_of.target in
    let h : Asks c.args.w c.args.side v u = record {
      step = record { was = n; is = c.ask_of.new.self; rule = kept_at v.workers c.args.w c.ask_of.new.self lt c.keeps.ensures; at = at; case = refl; gone = gone_in; seen = refl; workers = refl };
      kid = c.in-Some.kid;
      is_kid = kid;
      target = y;
      aims = ap (target_of n) (sym asked) ∙ sym c.ask_of.ensures.target ∙ c.in-Some-ask_of.is;
      does = subst (λ (o : Option Ask). KeepsTarget o n c.ask_of.new.self) c.in-Some-ask_of.is c.ask_of.ensures.note;
      askable = subst (λ (o : Option Ask). IfSome o (IsAskable c.ask_of.new.self)) c.in-Some-ask_of.is c.ask_of.ensures.askable;
      edges = c.put.ensures.is;
      outs = refl;
    } in
    subst (λ x. Asks c.args.w c.args.side x u) c.self.view_is h
