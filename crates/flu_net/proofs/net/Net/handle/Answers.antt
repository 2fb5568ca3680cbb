use Rattle.std.proofs.Common.{◌≡◌, Some, set, true, false, refl, sym, ap, subst, ◌∙◌, rules}
use Rattle.std.specs.Prelude.{slice_get, is_some}
use Rattle.std.proofs.lemmas.Option.{same_Some}
use Rattle.flu_lemmas.proofs.Options.{none_or_some}
use Rattle.flu_fork.specs.declared.content.Content.{Content}
use Rattle.flu_worker.specs.Calls.{CountsEvent}
use Rattle.flu_worker.specs.Choosing.{next_of}
use Rattle.flu_net.specs.Effects.{Handles}
use Rattle.flu_net.specs.Enabled.{may_handle}
use Rattle.flu_net.specs.Notes.{NetNote}
use Rattle.flu_net.specs.Rule.{Rule}
use Rattle.flu_net.proofs.Keeping.{rule_handles}
use Rattle.flu_net.proofs.Readying.{at_index, case_of, there_lt, there_test, kept_at}
use Rattle.flu_net.proofs.net.Net.handle.Goals as goal

pub can_handle-requires : goal.can_handle-requires
can_handle-requires c =
    let v : NetNote = record {
      case = c.self.inside.case;
      gone = c.self.inside.gone;
      seen = c.self.inside.seen;
      workers = c.self.inside.workers.items;
      edges = c.self.inside.edges.items;
      outs = c.self.inside.outs;
    } in
    let gone_in : c.self.inside.gone ≡ false = ap (λ (x : NetNote). x.gone) c.self.view_is ∙ c.requires.gone in
    let rule : Rule v = c.self.invariant gone_in in
    let may : may_handle v c.args.w ≡ true = subst (λ x. may_handle x c.args.w ≡ true) (sym c.self.view_is) c.requires.may in
    let lt = there_lt (λ x. is_some (next_of x)) v.workers c.args.w may in
    let same : c.args.case.now ≡ v.case = c.requires.case ∙ sym (ap (λ (x : NetNote). x.case) c.self.view_is) in
    let seen_at : slice_get v.workers c.args.w ≡ Some c.index.result.now = at_index v.workers c.args.w c.index.result.now lt c.index.ensures in
    same ∙ sym (case_of c.laws_below.ensures v rule c.args.w c.index.result.now seen_at)

pub unreachable-requires : goal.unreachable-requires
unreachable-requires c =
    let v : NetNote = record {
      case = c.self.inside.case;
      gone = c.self.inside.gone;
      seen = c.self.inside.seen;
      workers = c.self.inside.workers.items;
      edges = c.self.inside.edges.items;
      outs = c.self.inside.outs;
    } in
    let gone_in : c.self.inside.gone ≡ false = ap (λ (x : NetNote). x.gone) c.self.view_is ∙ c.requires.gone in
    let rule : Rule v = c.self.invariant gone_in in
    let may : may_handle v c.args.w ≡ true = subst (λ x. may_handle x c.args.w ≡ true) (sym c.self.view_is) c.requires.may in
    let lt = there_lt (λ x. is_some (next_of x)) v.workers c.args.w may in
    let seen_at : slice_get v.workers c.args.w ≡ Some c.index.result.now = at_index v.workers c.args.w c.index.result.now lt c.index.ensures in
    let tests = there_test (λ x. is_some (next_of x)) (slice_get v.workers c.args.w) c.index.result.now seen_at may in
    none_or_some (next_of c.index.result.now) (sym c.can_handle.ensures ∙ c.in_default.is) tests

pub index_mut-requires : goal.index_mut-requires
index_mut-requires c =
    let v : NetNote = record {
      case = c.self.inside.case;
      gone = c.self.inside.gone;
      seen = c.self.inside.seen;
      workers = c.self.inside.workers.items;
      edges = c.self.inside.edges.items;
      outs = c.self.inside.outs;
    } in
    let gone_in : c.self.inside.gone ≡ false = ap (λ (x : NetNote). x.gone) c.self.view_is ∙ c.requires.gone in
    let rule : Rule v = c.self.invariant gone_in in
    let may : may_handle v c.args.w ≡ true = subst (λ x. may_handle x c.args.w ≡ true) (sym c.self.view_is) c.requires.may in
    let lt = there_lt (λ x. is_some (next_of x)) v.workers c.args.w may in
    search (rules, lt)

pub handle-requires-clause-case : goal.handle-requires-clause-case
handle-requires-clause-case c =
    let v : NetNote = record {
      case = c.self.inside.case;
      gone = c.self.inside.gone;
      seen = c.self.inside.seen;
      workers = c.self.inside.workers.items;
      edges = c.self.inside.edges.items;
      outs = c.self.inside.outs;
    } in
    let gone_in : c.self.inside.gone ≡ false = ap (λ (x : NetNote). x.gone) c.self.view_is ∙ c.requires.gone in
    let rule : Rule v = c.self.invariant gone_in in
    let may : may_handle v c.args.w ≡ true = subst (λ x. may_handle x c.args.w ≡ true) (sym c.self.view_is) c.requires.may in
    let lt = there_lt (λ x. is_some (next_of x)) v.workers c.args.w may in
    let same : c.args.case.now ≡ v.case = c.requires.case ∙ sym (ap (λ (x : NetNote). x.case) c.self.view_is) in
    let n = c.index_mut.result.now in
    let at : slice_get v.workers c.args.w ≡ Some n = at_index v.workers c.args.w n lt c.index_mut.ensures.value in
    same ∙ sym (case_of c.laws_below.ensures v rule c.args.w n at)

pub handle-requires-clause-next : goal.handle-requires-clause-next
handle-requires-clause-next c =
    let v : NetNote = record {
      case = c.self.inside.case;
      gone = c.self.inside.gone;
      seen = c.self.inside.seen;
      workers = c.self.inside.workers.items;
      edges = c.self.inside.edges.items;
      outs = c.self.inside.outs;
    } in
    let gone_in : c.self.inside.gone ≡ false = ap (λ (x : NetNote). x.gone) c.self.view_is ∙ c.requires.gone in
    let rule : Rule v = c.self.invariant gone_in in
    let may : may_handle v c.args.w ≡ true = subst (λ x. may_handle x c.args.w ≡ true) (sym c.self.view_is) c.requires.may in
    let lt = there_lt (λ x. is_some (next_of x)) v.workers c.args.w may in
    let seen_at : slice_get v.workers c.args.w ≡ Some c.index.result.now = at_index v.workers c.args.w c.index.result.now lt c.index.ensures in
    let n = c.index_mut.result.now in
    let at : slice_get v.workers c.args.w ≡ Some n = at_index v.workers c.args.w n lt c.index_mut.ensures.value in
    ap next_of (same_Some n c.index.result.now (sym at ∙ seen_at)) ∙ sym c.can_handle.ensures ∙ c.in-Some.is

pub invariant_of-self-2 : goal.invariant_of-self-2
invariant_of-self-2 c =
    let v : NetNote = record {
      case = c.self.inside.case;
      gone = c.self.inside.gone;
      seen = c.self.inside.seen;
      workers = c.self.inside.workers.items;
      edges = c.self.inside.edges.items;
      outs = c.self.inside.outs;
    } in
    let gone_in : c.self.inside.gone ≡ false = ap (λ (x : NetNote). x.gone) c.self.view_is ∙ c.requires.gone in
    let rule : Rule v = c.self.invariant gone_in in
    let may : may_handle v c.args.w ≡ true = subst (λ x. may_handle x c.args.w ≡ true) (sym c.self.view_is) c.requires.may in
    let n = c.index_mut.result.now in
    let lt = there_lt (λ x. is_some (next_of x)) v.workers c.args.w may in
    let at : slice_get v.workers c.args.w ≡ Some n = at_index v.workers c.args.w n lt c.index_mut.ensures.value in
    let seen_at : slice_get v.workers c.args.w ≡ Some c.index.result.now = at_index v.workers c.args.w c.index.result.now lt c.index.ensures in
    let u : NetNote = record {
      case = c.self.inside.case;
      gone = false;
      seen = c.self.inside.seen;
      workers = set c.self.inside.workers.items c.args.w c.handle.new.self;
      edges = c.self.inside.edges.items;
      outs = c.handle.new.outs;
    } in
    let h : Handles c.args.w v u = record {
      step = record { was = n; is = c.handle.new.self; rule = kept_at v.workers c.args.w c.handle.new.self lt c.keeps.ensures; at = at; case = refl; gone = refl; seen = refl; workers = refl };
      event = c.in-Some.event;
      next = ap next_of (same_Some n c.index.result.now (sym at ∙ seen_at)) ∙ sym c.can_handle.ensures ∙ c.in-Some.is;
      does = c.in_ok-handle.ensures.note;
      counts =
          subst (λ (k : Content). CountsEvent k c.in-Some.event n.counts c.handle.new.self.counts v.outs u.outs)
          (case_of c.laws_below.ensures v rule c.args.w n at) c.in_ok-handle.ensures.texts;
      edges = refl;
    } in
    λ _. rule_handles c.laws_below.ensures c.args.w v u rule h

pub returns-clause-made : goal.returns-clause-made
returns-clause-made c =
    let v : NetNote = record {
      case = c.self.inside.case;
      gone = c.self.inside.gone;
      seen = c.self.inside.seen;
      workers = c.self.inside.workers.items;
      edges = c.self.inside.edges.items;
      outs = c.self.inside.outs;
    } in
    let gone_in : c.self.inside.gone ≡ false = ap (λ (x : NetNote). x.gone) c.self.view_is ∙ c.requires.gone in
    let rule : Rule v = c.self.invariant gone_in in
    let may : may_handle v c.args.w ≡ true = subst (λ x. may_handle x c.args.w ≡ true) (sym c.self.view_is) c.requires.may in
    let n = c.index_mut.result.now in
    let lt = there_lt (λ x. is_some (next_of x)) v.workers c.args.w may in
    let at : slice_get v.workers c.args.w ≡ Some n = at_index v.workers c.args.w n lt c.index_mut.ensures.value in
    let seen_at : slice_get v.workers c.args.w ≡ Some c.index.result.now = at_index v.workers c.args.w c.index.result.now lt c.index.ensures in
    let u : NetNote = record {
      case = c.self.inside.case;
      gone = false;
      seen = c.self.inside.seen;
      workers = set c.self.inside.workers.items c.args.w c.handle.new.self;
      edges = c.self.inside.edges.items;
      outs = c.handle.new.outs;
    } in
    let h : Handles c.args.w v u = record {
      step = record { was = n; is = c.handle.new.self; rule = kept_at v.workers c.args.w c.handle.new.self lt c.keeps.ensures; at = at; case = refl; gone = refl; seen = refl; workers = refl };
      event = c.in-Some.event;
      next = ap next_of (same_Some n c.index.result.now (sym at ∙ seen_at)) ∙ sym c.can_handle.ensures ∙ c.in-Some.is;
      does = c.in_ok-handle.ensures.note;
      counts =
          subst (λ (k : Content). CountsEvent k c.in-Some.event n.counts c.handle.new.self.counts v.outs u.outs)
          (case_of c.laws_below.ensures v rule c.args.w n at) c.in_ok-handle.ensures.texts;
      edges = refl;
    } in
    subst (λ x. Handles c.args.w x u) c.self.view_is h
