use Rattle.std.proofs.Common.{◌≡◌, Some, set, false, refl, sym, ap, subst, ◌∙◌}
use Rattle.std.specs.Prelude.{slice_get}
use Rattle.flu_net.specs.declared.edges.Edge.TheVariants as edge
use Rattle.flu_net.specs.Effects.{Holds}
use Rattle.flu_net.specs.Notes.{NetNote}
use Rattle.flu_net.specs.Rule.{Rule}
use Rattle.flu_net.proofs.Keeping.{rule_holds}
use Rattle.flu_net.proofs.Readying.{at_index, case_of, edge_lt, ready_fits, ready_grown, ready_shut, kept_at}
use Rattle.flu_net.proofs.net.Net.hold.Goals as goal

pub hold-requires-clause-case : goal.hold-requires-clause-case
hold-requires-clause-case c =
    let v : NetNote = record {
      case = c.self.inside.case;
      gone = c.self.inside.gone;
      seen = c.self.inside.seen;
      workers = c.self.inside.workers.items;
      edges = c.self.inside.edges.items;
      outs = c.self.inside.outs;
    } in
    let gone_in : c.self.inside.gone ≡ false = ap (λ (x : NetNote). x.gone) c.self.view_is ∙ c.requires.gone in
    let rule : Rule v = c.self.invariant gone_in in
    let same : c.args.case.now ≡ v.case = c.requires.case ∙ sym (ap (λ (x : NetNote). x.case) c.self.view_is) in
    let n = c.index_mut.result.now in
    let lot = c.lent_lot-lot.result in
    let lent : slice_get v.edges c.args.w ≡ Some (edge.Lent lot) = c.put.ensures.was ∙ ap Some c.lent_lot-lot.ensures in
    let lt = edge_lt v rule c.args.w (edge.Lent lot) lent in
    let at : slice_get v.workers c.args.w ≡ Some n = at_index v.workers c.args.w n lt c.index_mut.ensures.value in
    same ∙ sym (case_of c.laws_below.ensures v rule c.args.w n at)

pub hold-requires-clause-empty : goal.hold-requires-clause-empty
hold-requires-clause-empty c =
    let v : NetNote = record {
      case = c.self.inside.case;
      gone = c.self.inside.gone;
      seen = c.self.inside.seen;
      workers = c.self.inside.workers.items;
      edges = c.self.inside.edges.items;
      outs = c.self.inside.outs;
    } in
    let gone_in : c.self.inside.gone ≡ false = ap (λ (x : NetNote). x.gone) c.self.view_is ∙ c.requires.gone in
    let rule : Rule v = c.self.invariant gone_in in
    let same : c.args.case.now ≡ v.case = c.requires.case ∙ sym (ap (λ (x : NetNote). x.case) c.self.view_is) in
    let n = c.index_mut.result.now in
    let lot = c.lent_lot-lot.result in
    let lent : slice_get v.edges c.args.w ≡ Some (edge.Lent lot) = c.put.ensures.was ∙ ap Some c.lent_lot-lot.ensures in
    let lt = edge_lt v rule c.args.w (edge.Lent lot) lent in
    let at : slice_get v.workers c.args.w ≡ Some n = at_index v.workers c.args.w n lt c.index_mut.ensures.value in
    ready_shut c.laws_below.ensures v rule c.args.w n at lot lent

pub hold-requires-clause-fits : goal.hold-requires-clause-fits
hold-requires-clause-fits c =
    let v : NetNote = record {
      case = c.self.inside.case;
      gone = c.self.inside.gone;
      seen = c.self.inside.seen;
      workers = c.self.inside.workers.items;
      edges = c.self.inside.edges.items;
      outs = c.self.inside.outs;
    } in
    let gone_in : c.self.inside.gone ≡ false = ap (λ (x : NetNote). x.gone) c.self.view_is ∙ c.requires.gone in
    let rule : Rule v = c.self.invariant gone_in in
    let same : c.args.case.now ≡ v.case = c.requires.case ∙ sym (ap (λ (x : NetNote). x.case) c.self.view_is) in
    let n = c.index_mut.result.now in
    let lot = c.lent_lot-lot.result in
    let lent : slice_get v.edges c.args.w ≡ Some (edge.Lent lot) = c.put.ensures.was ∙ ap Some c.lent_lot-lot.ensures in
    let lt = edge_lt v rule c.args.w (edge.Lent lot) lent in
    let at : slice_get v.workers c.args.w ≡ Some n = at_index v.workers c.args.w n lt c.index_mut.ensures.value in
    ready_fits c.laws_below.ensures v rule c.args.w n at lot lent

pub hold-requires-clause-grown : goal.hold-requires-clause-grown
hold-requires-clause-grown c =
    let v : NetNote = record {
      case = c.self.inside.case;
      gone = c.self.inside.gone;
      seen = c.self.inside.seen;
      workers = c.self.inside.workers.items;
      edges = c.self.inside.edges.items;
      outs = c.self.inside.outs;
    } in
    let gone_in : c.self.inside.gone ≡ false = ap (λ (x : NetNote). x.gone) c.self.view_is ∙ c.requires.gone in
    let rule : Rule v = c.self.invariant gone_in in
    let same : c.args.case.now ≡ v.case = c.requires.case ∙ sym (ap (λ (x : NetNote). x.case) c.self.view_is) in
    let n = c.index_mut.result.now in
    let lot = c.lent_lot-lot.result in
    let lent : slice_get v.edges c.args.w ≡ Some (edge.Lent lot) = c.put.ensures.was ∙ ap Some c.lent_lot-lot.ensures in
    let lt = edge_lt v rule c.args.w (edge.Lent lot) lent in
    let at : slice_get v.workers c.args.w ≡ Some n = at_index v.workers c.args.w n lt c.index_mut.ensures.value in
    ready_grown c.laws_below.ensures v rule c.args.w n at lot lent

pub invariant_of-self-2 : goal.invariant_of-self-2
invariant_of-self-2 c =
    let v : NetNote = record {
      case = c.self.inside.case;
      gone = c.self.inside.gone;
      seen = c.self.inside.seen;
      workers = c.self.inside.workers.items;
      edges = c.self.inside.edges.items;
      outs = c.self.inside.outs;
    } in
    let gone_in : c.self.inside.gone ≡ false = ap (λ (x : NetNote). x.gone) c.self.view_is ∙ c.requires.gone in
    let rule : Rule v = c.self.invariant gone_in in
    let same : c.args.case.now ≡ v.case = c.requires.case ∙ sym (ap (λ (x : NetNote). x.case) c.self.view_is) in
    let n = c.index_mut.result.now in
    let lot = c.lent_lot-lot.result in
    let lent : slice_get v.edges c.args.w ≡ Some (edge.Lent lot) = c.put.ensures.was ∙ ap Some c.lent_lot-lot.ensures in
    let lt = edge_lt v rule c.args.w (edge.Lent lot) lent in
    let at : slice_get v.workers c.args.w ≡ Some n = at_index v.workers c.args.w n lt c.index_mut.ensures.value in
    let u : NetNote = record {
      case = c.self.inside.case;
      gone = false;
      seen = c.self.inside.seen;
      workers = set c.self.inside.workers.items c.args.w c.hold.new.self;
      edges = c.put.new.edges.items;
      outs = c.self.inside.outs;
    } in
    let h : Holds c.args.w v u = record {
      step = record { was = n; is = c.hold.new.self; rule = kept_at v.workers c.args.w c.hold.new.self lt c.keeps.ensures; at = at; case = refl; gone = refl; seen = refl; workers = refl };
      lot = lot;
      lent = lent;
      does = c.in_ok-hold.ensures.holds;
      edges = c.put.ensures.is;
      outs = refl;
    } in
    λ _. rule_holds c.laws_below.ensures c.args.w v u rule h

pub returns-clause-made : goal.returns-clause-made
returns-clause-made c =
    let v : NetNote = record {
      case = c.self.inside.case;
      gone = c.self.inside.gone;
      seen = c.self.inside.seen;
      workers = c.self.inside.workers.items;
      edges = c.self.inside.edges.items;
      outs = c.self.inside.outs;
    } in
    let gone_in : c.self.inside.gone ≡ false = ap (λ (x : NetNote). x.gone) c.self.view_is ∙ c.requires.gone in
    let rule : Rule v = c.self.invariant gone_in in
    let same : c.args.case.now ≡ v.case = c.requires.case ∙ sym (ap (λ (x : NetNote). x.case) c.self.view_is) in
    let n = c.index_mut.result.now in
    let lot = c.lent_lot-lot.result in
    let lent : slice_get v.edges c.args.w ≡ Some (edge.Lent lot) = c.put.ensures.was ∙ ap Some c.lent_lot-lot.ensures in
    let lt = edge_lt v rule c.args.w (edge.Lent lot) lent in
    let at : slice_get v.workers c.args.w ≡ Some n = at_index v.workers c.args.w n lt c.index_mut.ensures.value in
    let u : NetNote = record {
      case = c.self.inside.case;
      gone = false;
      seen = c.self.inside.seen;
      workers = set c.self.inside.workers.items c.args.w c.hold.new.self;
      edges = c.put.new.edges.items;
      outs = c.self.inside.outs;
    } in
    let h : Holds c.args.w v u = record {
      step = record { was = n; is = c.hold.new.self; rule = kept_at v.workers c.args.w c.hold.new.self lt c.keeps.ensures; at = at; case = refl; gone = refl; seen = refl; workers = refl };
      lot = lot;
      lent = lent;
      does = c.in_ok-hold.ensures.holds;
      edges = c.put.ensures.is;
      outs = refl;
    } in
    subst (λ x. Holds c.args.w x u) c.self.view_is h
