use Rattle.std.proofs.Common.{◌≡◌, Some, List, set, true, false, refl, sym, ap, subst, ◌∙◌, arith}
use Rattle.std.specs.Prelude.{slice_get}
use Rattle.flu_net.specs.declared.edges.Edge.{Edge}
use Rattle.flu_net.specs.declared.edges.Edge.TheVariants as edge
use Rattle.flu_net.specs.Effects.{Gives}
use Rattle.flu_net.specs.Enabled.{may_give_up}
use Rattle.flu_net.specs.Notes.{NetNote, asked_of, asked_over}
use Rattle.flu_net.specs.Rule.{Rule}
use Rattle.flu_net.proofs.Keeping.{rule_gives}
use Rattle.flu_net.proofs.Readying.{asked_edge, at_index, case_of, edge_lt, give_may, kept_at}
use Rattle.flu_net.proofs.net.Net.give.Goals as goal

pub give-lot-requires-clause-case : goal.give-lot-requires-clause-case
give-lot-requires-clause-case c =
    let v : NetNote = record {
      case = c.self.inside.case;
      gone = c.self.inside.gone;
      seen = c.self.inside.seen;
      workers = c.self.inside.workers.items;
      edges = c.self.inside.edges.items;
      outs = c.self.inside.outs;
    } in
    let gone_in : c.self.inside.gone ≡ false = ap (λ (x : NetNote). x.gone) c.self.view_is ∙ c.requires.gone in
    let rule : Rule v = c.self.invariant gone_in in
    let same : c.args.case.now ≡ v.case = c.requires.case ∙ sym (ap (λ (x : NetNote). x.case) c.self.view_is) in
    let may : may_give_up v c.args.w ≡ true = subst (λ x. may_give_up x c.args.w ≡ true) (sym c.self.view_is) c.requires.may in
    let n = c.index_mut.result.now in
    let y = c.in-Some.y in
    let asked : c.ask_at.result ≡ asked_of v c.args.w = c.ask_at.ensures
    ∙ ap (λ (es : List Edge). asked_over (slice_get es c.args.w)) c.as_slice.ensures.value in
    let over : slice_get v.edges c.args.w ≡ Some (edge.Asked y) = asked_edge (slice_get v.edges c.args.w) y (sym asked ∙ c.in-Some.is) in
    let lt = edge_lt v rule c.args.w (edge.Asked y) over in
    let at : slice_get v.workers c.args.w ≡ Some n = at_index v.workers c.args.w n lt c.index_mut.ensures.value in
    same ∙ sym (case_of c.laws_below.ensures v rule c.args.w n at)

pub give-lot-requires-clause-may : goal.give-lot-requires-clause-may
give-lot-requires-clause-may c =
    let v : NetNote = record {
      case = c.self.inside.case;
      gone = c.self.inside.gone;
      seen = c.self.inside.seen;
      workers = c.self.inside.workers.items;
      edges = c.self.inside.edges.items;
      outs = c.self.inside.outs;
    } in
    let gone_in : c.self.inside.gone ≡ false = ap (λ (x : NetNote). x.gone) c.self.view_is ∙ c.requires.gone in
    let rule : Rule v = c.self.invariant gone_in in
    let same : c.args.case.now ≡ v.case = c.requires.case ∙ sym (ap (λ (x : NetNote). x.case) c.self.view_is) in
    let may : may_give_up v c.args.w ≡ true = subst (λ x. may_give_up x c.args.w ≡ true) (sym c.self.view_is) c.requires.may in
    let n = c.index_mut.result.now in
    let y = c.in-Some.y in
    let asked : c.ask_at.result ≡ asked_of v c.args.w = c.ask_at.ensures
    ∙ ap (λ (es : List Edge). asked_over (slice_get es c.args.w)) c.as_slice.ensures.value in
    let over : slice_get v.edges c.args.w ≡ Some (edge.Asked y) = asked_edge (slice_get v.edges c.args.w) y (sym asked ∙ c.in-Some.is) in
    let lt = edge_lt v rule c.args.w (edge.Asked y) over in
    let at : slice_get v.workers c.args.w ≡ Some n = at_index v.workers c.args.w n lt c.index_mut.ensures.value in
    give_may v c.args.w y n over at may

pub put-requires : goal.put-requires
put-requires c =
    let v : NetNote = record {
      case = c.self.inside.case;
      gone = c.self.inside.gone;
      seen = c.self.inside.seen;
      workers = c.self.inside.workers.items;
      edges = c.self.inside.edges.items;
      outs = c.self.inside.outs;
    } in
    let gone_in : c.self.inside.gone ≡ false = ap (λ (x : NetNote). x.gone) c.self.view_is ∙ c.requires.gone in
    let rule : Rule v = c.self.invariant gone_in in
    let same : c.args.case.now ≡ v.case = c.requires.case ∙ sym (ap (λ (x : NetNote). x.case) c.self.view_is) in
    let may : may_give_up v c.args.w ≡ true = subst (λ x. may_give_up x c.args.w ≡ true) (sym c.self.view_is) c.requires.may in
    let n = c.index_mut.result.now in
    let y = c.in-Some.y in
    let asked : c.ask_at.result ≡ asked_of v c.args.w = c.ask_at.ensures
    ∙ ap (λ (es : List Edge). asked_over (slice_get es c.args.w)) c.as_slice.ensures.value in
    let over : slice_get v.edges c.args.w ≡ Some (edge.Asked y) = asked_edge (slice_get v.edges c.args.w) y (sym asked ∙ c.in-Some.is) in
    let lt = edge_lt v rule c.args.w (edge.Asked y) over in
    let at : slice_get v.workers c.args.w ≡ Some n = at_index v.workers c.args.w n lt c.index_mut.ensures.value in
    let a = rule.ties.edges_each in let b = rule.ties.workers_each in omega arith

pub invariant_of-self : goal.invariant_of-self
invariant_of-self c =
    let v : NetNote = record {
      case = c.self.inside.case;
      gone = c.self.inside.gone;
      seen = c.self.inside.seen;
      workers = c.self.inside.workers.items;
      edges = c.self.inside.edges.items;
      outs = c.self.inside.outs;
    } in
    let gone_in : c.self.inside.gone ≡ false = ap (λ (x : NetNote). x.gone) c.self.view_is ∙ c.requires.gone in
    let rule : Rule v = c.self.invariant gone_in in
    let same : c.args.case.now ≡ v.case = c.requires.case ∙ sym (ap (λ (x : NetNote). x.case) c.self.view_is) in
    let may : may_give_up v c.args.w ≡ true = subst (λ x. may_give_up x c.args.w ≡ true) (sym c.self.view_is) c.requires.may in
    let n = c.index_mut.result.now in
    let y = c.in-Some.y in
    let asked : c.ask_at.result ≡ asked_of v c.args.w = c.ask_at.ensures
    ∙ ap (λ (es : List Edge). asked_over (slice_get es c.args.w)) c.as_slice.ensures.value in
    let over : slice_get v.edges c.args.w ≡ Some (edge.Asked y) = asked_edge (slice_get v.edges c.args.w) y (sym asked ∙ c.in-Some.is) in
    let lt = edge_lt v rule c.args.w (edge.Asked y) over in
    let at : slice_get v.workers c.args.w ≡ Some n = at_index v.workers c.args.w n lt c.index_mut.ensures.value in
    let u : NetNote = record {
      case = c.self.inside.case;
      gone = c.self.inside.gone;
      seen = c.self.inside.seen;
      workers = set c.self.inside.workers.items c.args.w c.give-lot.new.self;
      edges = c.put.new.edges.items;
      outs = c.self.inside.outs;
    } in
    let h : Gives c.args.w v u = record {
      step = record { was = n; is = c.give-lot.new.self; rule = kept_at v.workers c.args.w c.give-lot.new.self lt c.keeps.ensures; at = at; case = refl; gone = gone_in; seen = refl; workers = refl };
      ask = y;
      asked = over;
      lot = c.give-lot.result;
      does = c.give-lot.ensures.note;
      fits = c.give-lot.ensures.fits;
      served = c.give-lot.ensures.served;
      edges = c.put.ensures.is;
      outs = refl;
    } in
    λ _. rule_gives c.laws_below.ensures c.args.w v u rule h

pub returns : goal.returns
returns c =
    let v : NetNote = record {
      case = c.self.inside.case;
      gone = c.self.inside.gone;
      seen = c.self.inside.seen;
      workers = c.self.inside.workers.items;
      edges = c.self.inside.edges.items;
      outs = c.self.inside.outs;
    } in
    let gone_in : c.self.inside.gone ≡ false = ap (λ (x : NetNote). x.gone) c.self.view_is ∙ c.requires.gone in
    let rule : Rule v = c.self.invariant gone_in in
    let same : c.args.case.now ≡ v.case = c.requires.case ∙ sym (ap (λ (x : NetNote). x.case) c.self.view_is) in
    let may : may_give_up v c.args.w ≡ true = subst (λ x. may_give_up x c.args.w ≡ true) (sym c.self.view_is) c.requires.may in
    let n = c.index_mut.result.now in
    let y = c.in-Some.y in
    let asked : c.ask_at.result ≡ asked_of v c.args.w = c.ask_at.ensures
    ∙ ap (λ (es : List Edge). asked_over (slice_get es c.args.w)) c.as_slice.ensures.value in
    let over : slice_get v.edges c.args.w ≡ Some (edge.Asked y) = asked_edge (slice_get v.edges c.args.w) y (sym asked ∙ c.in-Some.is) in
    let lt = edge_lt v rule c.args.w (edge.Asked y) over in
    let at : slice_get v.workers c.args.w ≡ Some n = at_index v.workers c.args.w n lt c.index_mut.ensures.value in
    let u : NetNote = record {
      case = c.self.inside.case;
      gone = c.self.inside.gone;
      seen = c.self.inside.seen;
      workers = set c.self.inside.workers.items c.args.w c.give-lot.new.self;
      edges = c.put.new.edges.items;
      outs = c.self.inside.outs;
    } in
    let h : Gives c.args.w v u = record {
      step = record { was = n; is = c.give-lot.new.self; rule = kept_at v.workers c.args.w c.give-lot.new.self lt c.keeps.ensures; at = at; case = refl; gone = gone_in; seen = refl; workers = refl };
      ask = y;
      asked = over;
      lot = c.give-lot.result;
      does = c.give-lot.ensures.note;
      fits = c.give-lot.ensures.fits;
      served = c.give-lot.ensures.served;
      edges = c.put.ensures.is;
      outs = refl;
    } in
    subst (λ x. Gives c.args.w x u) c.self.view_is h
