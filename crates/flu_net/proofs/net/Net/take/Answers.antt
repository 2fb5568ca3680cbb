use Rattle.std.proofs.Common.{◌≡◌, Some, set, false, refl, sym, ap, subst, ◌∙◌}
use Rattle.std.specs.Prelude.{slice_get}
use Rattle.flu_fork.specs.declared.content.Content.{Content}
use Rattle.flu_net.specs.declared.edges.Edge.TheVariants as edge
use Rattle.flu_net.specs.Effects.{Takes}
use Rattle.flu_net.specs.Notes.{NetNote, kid_of}
use Rattle.flu_net.specs.Rule.{Rule}
use Rattle.flu_net.proofs.Keeping.{rule_takes}
use Rattle.flu_net.proofs.Readying.{at_index, case_of, kid_lt, take_fits, take_kept, take_may, take_served, kept_at}
use Rattle.flu_net.proofs.net.Net.take.Goals as goal

pub take_reply-requires-clause-case : goal.take_reply-requires-clause-case
take_reply-requires-clause-case c =
    let v : NetNote = record {
      case = c.self.inside.case;
      gone = c.self.inside.gone;
      seen = c.self.inside.seen;
      workers = c.self.inside.workers.items;
      edges = c.self.inside.edges.items;
      outs = c.self.inside.outs;
    } in
    let gone_in : c.self.inside.gone ≡ false = ap (λ (x : NetNote). x.gone) c.self.view_is ∙ c.requires.gone in
    let rule : Rule v = c.self.invariant gone_in in
    let same : c.args.case.now ≡ v.case = c.requires.case ∙ sym (ap (λ (x : NetNote). x.case) c.self.view_is) in
    let n = c.index_mut.result.now in
    let kid : kid_of v.case c.args.w c.args.side ≡ Some c.in-Some.kid = ap (λ (k : Content). kid_of k c.args.w c.args.side) (sym same) ∙ sym c.kid_of.ensures
    ∙ c.in-Some.is in
    let lt = kid_lt v rule c.args.w c.in-Some.kid c.args.side kid in
    let at : slice_get v.workers c.args.w ≡ Some n = at_index v.workers c.args.w n lt c.index_mut.ensures.value in
    let lot = c.given_lot-lot.result in
    let given : slice_get v.edges c.in-Some.kid ≡ Some (edge.Given lot) = c.put.ensures.was ∙ ap Some c.given_lot-lot.ensures in
    same ∙ sym (case_of c.laws_below.ensures v rule c.args.w n at)

pub take_reply-requires-clause-may : goal.take_reply-requires-clause-may
take_reply-requires-clause-may c =
    let v : NetNote = record {
      case = c.self.inside.case;
      gone = c.self.inside.gone;
      seen = c.self.inside.seen;
      workers = c.self.inside.workers.items;
      edges = c.self.inside.edges.items;
      outs = c.self.inside.outs;
    } in
    let gone_in : c.self.inside.gone ≡ false = ap (λ (x : NetNote). x.gone) c.self.view_is ∙ c.requires.gone in
    let rule : Rule v = c.self.invariant gone_in in
    let same : c.args.case.now ≡ v.case = c.requires.case ∙ sym (ap (λ (x : NetNote). x.case) c.self.view_is) in
    let n = c.index_mut.result.now in
    let kid : kid_of v.case c.args.w c.args.side ≡ Some c.in-Some.kid = ap (λ (k : Content). kid_of k c.args.w c.args.side) (sym same) ∙ sym c.kid_of.ensures
    ∙ c.in-Some.is in
    let lt = kid_lt v rule c.args.w c.in-Some.kid c.args.side kid in
    let at : slice_get v.workers c.args.w ≡ Some n = at_index v.workers c.args.w n lt c.index_mut.ensures.value in
    let lot = c.given_lot-lot.result in
    let given : slice_get v.edges c.in-Some.kid ≡ Some (edge.Given lot) = c.put.ensures.was ∙ ap Some c.given_lot-lot.ensures in
    take_may c.laws_below.ensures v rule c.args.w n at c.in-Some.kid c.args.side kid lot given

pub take_reply-requires-clause-kept : goal.take_reply-requires-clause-kept
take_reply-requires-clause-kept c =
    let v : NetNote = record {
      case = c.self.inside.case;
      gone = c.self.inside.gone;
      seen = c.self.inside.seen;
      workers = c.self.inside.workers.items;
      edges = c.self.inside.edges.items;
      outs = c.self.inside.outs;
    } in
    let gone_in : c.self.inside.gone ≡ false = ap (λ (x : NetNote). x.gone) c.self.view_is ∙ c.requires.gone in
    let rule : Rule v = c.self.invariant gone_in in
    let same : c.args.case.now ≡ v.case = c.requires.case ∙ sym (ap (λ (x : NetNote). x.case) c.self.view_is) in
    let n = c.index_mut.result.now in
    let kid : kid_of v.case c.args.w c.args.side ≡ Some c.in-Some.kid = ap (λ (k : Content). kid_of k c.args.w c.args.side) (sym same) ∙ sym c.kid_of.ensures
    ∙ c.in-Some.is in
    let lt = kid_lt v rule c.args.w c.in-Some.kid c.args.side kid in
    let at : slice_get v.workers c.args.w ≡ Some n = at_index v.workers c.args.w n lt c.index_mut.ensures.value in
    let lot = c.given_lot-lot.result in
    let given : slice_get v.edges c.in-Some.kid ≡ Some (edge.Given lot) = c.put.ensures.was ∙ ap Some c.given_lot-lot.ensures in
    take_kept c.laws_below.ensures v rule c.args.w n at c.in-Some.kid c.args.side kid lot given

pub take_reply-requires-clause-fits : goal.take_reply-requires-clause-fits
take_reply-requires-clause-fits c =
    let v : NetNote = record {
      case = c.self.inside.case;
      gone = c.self.inside.gone;
      seen = c.self.inside.seen;
      workers = c.self.inside.workers.items;
      edges = c.self.inside.edges.items;
      outs = c.self.inside.outs;
    } in
    let gone_in : c.self.inside.gone ≡ false = ap (λ (x : NetNote). x.gone) c.self.view_is ∙ c.requires.gone in
    let rule : Rule v = c.self.invariant gone_in in
    let same : c.args.case.now ≡ v.case = c.requires.case ∙ sym (ap (λ (x : NetNote). x.case) c.self.view_is) in
    let n = c.index_mut.result.now in
    let kid : kid_of v.case c.args.w c.args.side ≡ Some c.in-Some.kid = ap (λ (k : Content). kid_of k c.args.w c.args.side) (sym same) ∙ sym c.kid_of.ensures
    ∙ c.in-Some.is in
    let lt = kid_lt v rule c.args.w c.in-Some.kid c.args.side kid in
    let at : slice_get v.workers c.args.w ≡ Some n = at_index v.workers c.args.w n lt c.index_mut.ensures.value in
    let lot = c.given_lot-lot.result in
    let given : slice_get v.edges c.in-Some.kid ≡ Some (edge.Given lot) = c.put.ensures.was ∙ ap Some c.given_lot-lot.ensures in
    take_fits c.laws_below.ensures v rule c.args.w n at c.in-Some.kid c.args.side kid lot given

pub take_reply-requires-clause-served : goal.take_reply-requires-clause-served
take_reply-requires-clause-served c =
    let v : NetNote = record {
      case = c.self.inside.case;
      gone = c.self.inside.gone;
      seen = c.self.inside.seen;
      workers = c.self.inside.workers.items;
      edges = c.self.inside.edges.items;
      outs = c.self.inside.outs;
    } in
    let gone_in : c.self.inside.gone ≡ false = ap (λ (x : NetNote). x.gone) c.self.view_is ∙ c.requires.gone in
    let rule : Rule v = c.self.invariant gone_in in
    let same : c.args.case.now ≡ v.case = c.requires.case ∙ sym (ap (λ (x : NetNote). x.case) c.self.view_is) in
    let n = c.index_mut.result.now in
    let kid : kid_of v.case c.args.w c.args.side ≡ Some c.in-Some.kid = ap (λ (k : Content). kid_of k c.args.w c.args.side) (sym same) ∙ sym c.kid_of.ensures
    ∙ c.in-Some.is in
    let lt = kid_lt v rule c.args.w c.in-Some.kid c.args.side kid in
    let at : slice_get v.workers c.args.w ≡ Some n = at_index v.workers c.args.w n lt c.index_mut.ensures.value in
    let lot = c.given_lot-lot.result in
    let given : slice_get v.edges c.in-Some.kid ≡ Some (edge.Given lot) = c.put.ensures.was ∙ ap Some c.given_lot-lot.ensures in
    take_served c.laws_below.ensures v rule c.args.w n at c.in-Some.kid c.args.side kid lot given

pub invariant_of-self-2 : goal.invariant_of-self-2
invariant_of-self-2 c =
    let v : NetNote = record {
      case = c.self.inside.case;
      gone = c.self.inside.gone;
      seen = c.self.inside.seen;
      workers = c.self.inside.workers.items;
      edges = c.self.inside.edges.items;
      outs = c.self.inside.outs;
    } in
    let gone_in : c.self.inside.gone ≡ false = ap (λ (x : NetNote). x.gone) c.self.view_is ∙ c.requires.gone in
    let rule : Rule v = c.self.invariant gone_in in
    let same : c.args.case.now ≡ v.case = c.requires.case ∙ sym (ap (λ (x : NetNote). x.case) c.self.view_is) in
    let n = c.index_mut.result.now in
    let kid : kid_of v.case c.args.w c.args.side ≡ Some c.in-Some.kid = ap (λ (k : Content). kid_of k c.args.w c.args.side) (sym same) ∙ sym c.kid_of.ensures
    ∙ c.in-Some.is in
    let lt = kid_lt v rule c.args.w c.in-Some.kid c.args.side kid in
    let at : slice_get v.workers c.args.w ≡ Some n = at_index v.workers c.args.w n lt c.index_mut.ensures.value in
    let lot = c.given_lot-lot.result in
    let given : slice_get v.edges c.in-Some.kid ≡ Some (edge.Given lot) = c.put.ensures.was ∙ ap Some c.given_lot-lot.ensures in
    let u : NetNote = record {
      case = c.self.inside.case;
      gone = false;
      seen = c.self.inside.seen;
      workers = set c.self.inside.workers.items c.args.w c.take_reply.new.self;
      edges = c.put.new.edges.items;
      outs = c.self.inside.outs;
    } in
    let h : Takes c.args.w c.args.side v u = record {
      step = record { was = n; is = c.take_reply.new.self; rule = kept_at v.workers c.args.w c.take_reply.new.self lt c.keeps.ensures; at = at; case = refl; gone = refl; seen = refl; workers = refl };
      kid = c.in-Some.kid;
      is_kid = kid;
      lot = lot;
      given = given;
      does = c.in_ok-take_reply.ensures.takes;
      edges = c.put.ensures.is;
      outs = refl;
    } in
    λ _. rule_takes c.laws_below.ensures c.args.w c.args.side v u rule h

pub returns-clause-made : goal.returns-clause-made
returns-clause-made c =
    let v : NetNote = record {
      case = c.self.inside.case;
      gone = c.self.inside.gone;
      seen = c.self.inside.seen;
      workers = c.self.inside.workers.items;
      edges = c.self.inside.edges.items;
      outs = c.self.inside.outs;
    } in
    let gone_in : c.self.inside.gone ≡ false = ap (λ (x : NetNote). x.gone) c.self.view_is ∙ c.requires.gone in
    let rule : Rule v = c.self.invariant gone_in in
    let same : c.args.case.now ≡ v.case = c.requires.case ∙ sym (ap (λ (x : NetNote). x.case) c.self.view_is) in
    let n = c.index_mut.result.now in
    let kid : kid_of v.case c.args.w c.args.side ≡ Some c.in-Some.kid = ap (λ (k : Content). kid_of k c.args.w c.args.side) (sym same) ∙ sym c.kid_of.ensures
    ∙ c.in-Some.is in
    let lt = kid_lt v rule c.args.w c.in-Some.kid c.args.side kid in
    let at : slice_get v.workers c.args.w ≡ Some n = at_index v.workers c.args.w n lt c.index_mut.ensures.value in
    let lot = c.given_lot-lot.result in
    let given : slice_get v.edges c.in-Some.kid ≡ Some (edge.Given lot) = c.put.ensures.was ∙ ap Some c.given_lot-lot.ensures in
    let u : NetNote = record {
      case = c.self.inside.case;
      gone = false;
      seen = c.self.inside.seen;
      workers = set c.self.inside.workers.items c.args.w c.take_reply.new.self;
      edges = c.put.new.edges.items;
      outs = c.self.inside.outs;
    } in
    let h : Takes c.args.w c.args.side v u = record {
      step = record { was = n; is = c.take_reply.new.self; rule = kept_at v.workers c.args.w c.take_reply.new.self lt c.keeps.ensures; at = at; case = refl; gone = refl; seen = refl; workers = refl };
      kid = c.in-Some.kid;
      is_kid = kid;
      lot = lot;
      given = given;
      does = c.in_ok-take_reply.ensures.takes;
      edges = c.put.ensures.is;
      outs = refl;
    } in
    subst (λ x. Takes c.args.w c.args.side x u) c.self.view_is h
