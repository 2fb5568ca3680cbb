use Rattle.std.proofs.Common.{◌≡◌, Some, set, true, false, refl, sym, ap, subst, ◌∙◌, rules}
use Rattle.std.specs.Prelude.{slice_get}
use Rattle.flu_lemmas.proofs.Tests.{and_left, and_right}
use Rattle.flu_lemmas.proofs.Options.{none_or_some}
use Rattle.flu_fork.specs.declared.content.Content.{Content}
use Rattle.flu_worker.specs.Hands.{may_lend}
use Rattle.flu_worker.specs.Notes.{WorkerNote}
use Rattle.flu_net.specs.Effects.{Lends}
use Rattle.flu_net.specs.Enabled.{may_lend_part}
use Rattle.flu_net.specs.Notes.{NetNote, kid_of}
use Rattle.flu_net.specs.Rule.{Rule}
use Rattle.flu_net.proofs.Keeping.{rule_lends}
use Rattle.flu_net.proofs.Readying.{at_index, kid_lt, kid_there, there_test, kept_at}
use Rattle.flu_net.proofs.net.Net.lend.Goals as goal

pub unreachable-requires : goal.unreachable-requires
unreachable-requires c =
    none_or_some (kid_of c.args.self.now.case c.args.w c.args.side)
    (ap (λ (k : Content). kid_of k c.args.w c.args.side) (sym c.requires.case) ∙ sym c.kid_of.ensures ∙ c.in_default.is)
    (and_left _ _ c.requires.may)

pub index_mut-requires : goal.index_mut-requires
index_mut-requires c =
    let v : NetNote = record {
      case = c.self.inside.case;
      gone = c.self.inside.gone;
      seen = c.self.inside.seen;
      workers = c.self.inside.workers.items;
      edges = c.self.inside.edges.items;
      outs = c.self.inside.outs;
    } in
    let gone_in : c.self.inside.gone ≡ false = ap (λ (x : NetNote). x.gone) c.self.view_is ∙ c.requires.gone in
    let rule : Rule v = c.self.invariant gone_in in
    let same : c.args.case.now ≡ v.case = c.requires.case ∙ sym (ap (λ (x : NetNote). x.case) c.self.view_is) in
    let may : may_lend_part v c.args.w c.args.side ≡ true = subst (λ x. may_lend_part x c.args.w c.args.side ≡ true) (sym c.self.view_is) c.requires.may in
    let kid : kid_of v.case c.args.w c.args.side ≡ Some c.in-Some.kid = ap (λ (k : Content). kid_of k c.args.w c.args.side) (sym same) ∙ sym c.kid_of.ensures
    ∙ c.in-Some.is in
    let lt = kid_lt v rule c.args.w c.in-Some.kid c.args.side kid in
    search (rules, lt)

pub lend-part-requires : goal.lend-part-requires
lend-part-requires c =
    let v : NetNote = record {
      case = c.self.inside.case;
      gone = c.self.inside.gone;
      seen = c.self.inside.seen;
      workers = c.self.inside.workers.items;
      edges = c.self.inside.edges.items;
      outs = c.self.inside.outs;
    } in
    let gone_in : c.self.inside.gone ≡ false = ap (λ (x : NetNote). x.gone) c.self.view_is ∙ c.requires.gone in
    let rule : Rule v = c.self.invariant gone_in in
    let same : c.args.case.now ≡ v.case = c.requires.case ∙ sym (ap (λ (x : NetNote). x.case) c.self.view_is) in
    let may : may_lend_part v c.args.w c.args.side ≡ true = subst (λ x. may_lend_part x c.args.w c.args.side ≡ true) (sym c.self.view_is) c.requires.may in
    let kid : kid_of v.case c.args.w c.args.side ≡ Some c.in-Some.kid = ap (λ (k : Content). kid_of k c.args.w c.args.side) (sym same) ∙ sym c.kid_of.ensures
    ∙ c.in-Some.is in
    let lt = kid_lt v rule c.args.w c.in-Some.kid c.args.side kid in
    let n = c.index_mut.result.now in
    let at : slice_get v.workers c.args.w ≡ Some n = at_index v.workers c.args.w n lt c.index_mut.ensures.value in
    let tests = there_test (λ (x : WorkerNote). may_lend c.args.side x.hand) (slice_get v.workers c.args.w) n at (and_right _ _ may) in
    tests

pub put-requires : goal.put-requires
put-requires c =
    let v : NetNote = record {
      case = c.self.inside.case;
      gone = c.self.inside.gone;
      seen = c.self.inside.seen;
      workers = c.self.inside.workers.items;
      edges = c.self.inside.edges.items;
      outs = c.self.inside.outs;
    } in
    let gone_in : c.self.inside.gone ≡ false = ap (λ (x : NetNote). x.gone) c.self.view_is ∙ c.requires.gone in
    let rule : Rule v = c.self.invariant gone_in in
    let same : c.args.case.now ≡ v.case = c.requires.case ∙ sym (ap (λ (x : NetNote). x.case) c.self.view_is) in
    let may : may_lend_part v c.args.w c.args.side ≡ true = subst (λ x. may_lend_part x c.args.w c.args.side ≡ true) (sym c.self.view_is) c.requires.may in
    let kid : kid_of v.case c.args.w c.args.side ≡ Some c.in-Some.kid = ap (λ (k : Content). kid_of k c.args.w c.args.side) (sym same) ∙ sym c.kid_of.ensures
    ∙ c.in-Some.is in
    let lt = kid_lt v rule c.args.w c.in-Some.kid c.args.side kid in
    let n = c.index_mut.result.now in
    let at : slice_get v.workers c.args.w ≡ Some n = at_index v.workers c.args.w n lt c.index_mut.ensures.value in
    let tests = there_test (λ (x : WorkerNote). may_lend c.args.side x.hand) (slice_get v.workers c.args.w) n at (and_right _ _ may) in
    kid_there c.laws_below.ensures v rule c.args.w n at c.in-Some.kid c.args.side kid

pub invariant_of-self : goal.invariant_of-self
invariant_of-self c =
    let v : NetNote = record {
      case = c.self.inside.case;
      gone = c.self.inside.gone;
      seen = c.self.inside.seen;
      workers = c.self.inside.workers.items;
      edges = c.self.inside.edges.items;
      outs = c.self.inside.outs;
    } in
    let gone_in : c.self.inside.gone ≡ false = ap (λ (x : NetNote). x.gone) c.self.view_is ∙ c.requires.gone in
    let rule : Rule v = c.self.invariant gone_in in
    let same : c.args.case.now ≡ v.case = c.requires.case ∙ sym (ap (λ (x : NetNote). x.case) c.self.view_is) in
    let may : may_lend_part v c.args.w c.args.side ≡ true = subst (λ x. may_lend_part x c.args.w c.args.side ≡ true) (sym c.self.view_is) c.requires.may in
    let kid : kid_of v.case c.args.w c.args.side ≡ Some c.in-Some.kid = ap (λ (k : Content). kid_of k c.args.w c.args.side) (sym same) ∙ sym c.kid_of.ensures
    ∙ c.in-Some.is in
    let lt = kid_lt v rule c.args.w c.in-Some.kid c.args.side kid in
    let n = c.index_mut.result.now in
    let at : slice_get v.workers c.args.w ≡ Some n = at_index v.workers c.args.w n lt c.index_mut.ensures.value in
    let tests = there_test (λ (x : WorkerNote). may_lend c.args.side x.hand) (slice_get v.workers c.args.w) n at (and_right _ _ may) in
    let u : NetNote = record {
      case = c.self.inside.case;
      gone = c.self.inside.gone;
      seen = c.self.inside.seen;
      workers = set c.self.inside.workers.items c.args.w c.lend-part.new.self;
      edges = c.put.new.edges.items;
      outs = c.self.inside.outs;
    } in
    let h : Lends c.args.w c.args.side v u = record {
      step = record { was = n; is = c.lend-part.new.self; rule = kept_at v.workers c.args.w c.lend-part.new.self lt c.keeps.ensures; at = at; case = refl; gone = gone_in; seen = refl; workers = refl };
      kid = c.in-Some.kid;
      is_kid = kid;
      lot = c.lend-part.result;
      does = c.lend-part.ensures.note;
      part = c.lend-part.ensures.part;
      edges = c.put.ensures.is;
      outs = refl;
    } in
    λ _. rule_lends c.laws_below.ensures c.args.w c.args.side v u rule h tests

pub returns : goal.returns
returns c =
    let v : NetNote = record {
      case = c.self.inside.case;
      gone = c.self.inside.gone;
      seen = c.self.inside.seen;
      workers = c.self.inside.workers.items;
      edges = c.self.inside.edges.items;
      outs = c.self.inside.outs;
    } in
    let gone_in : c.self.inside.gone ≡ false = ap (λ (x : NetNote). x.gone) c.self.view_is ∙ c.requires.gone in
    let rule : Rule v = c.self.invariant gone_in in
    let same : c.args.case.now ≡ v.case = c.requires.case ∙ sym (ap (λ (x : NetNote). x.case) c.self.view_is) in
    let may : may_lend_part v c.args.w c.args.side ≡ true = subst (λ x. may_lend_part x c.args.w c.args.side ≡ true) (sym c.self.view_is) c.requires.may in
    let kid : kid_of v.case c.args.w c.args.side ≡ Some c.in-Some.kid = ap (λ (k : Content). kid_of k c.args.w c.args.side) (sym same) ∙ sym c.kid_of.ensures
    ∙ c.in-Some.is in
    let lt = kid_lt v rule c.args.w c.in-Some.kid c.args.side kid in
    let n = c.index_mut.result.now in
    let at : slice_get v.workers c.args.w ≡ Some n = at_index v.workers c.args.w n lt c.index_mut.ensures.value in
    let tests = there_test (λ (x : WorkerNote). may_lend c.args.side x.hand) (slice_get v.workers c.args.w) n at (and_right _ _ may) in
    let u : NetNote = record {
      case = c.self.inside.case;
      gone = c.self.inside.gone;
      seen = c.self.inside.seen;
      workers = set c.self.inside.workers.items c.args.w c.lend-part.new.self;
      edges = c.put.new.edges.items;
      outs = c.self.inside.outs;
    } in
    let h : Lends c.args.w c.args.side v u = record {
      step = record { was = n; is = c.lend-part.new.self; rule = kept_at v.workers c.args.w c.lend-part.new.self lt c.keeps.ensures; at = at; case = refl; gone = gone_in; seen = refl; workers = refl };
      kid = c.in-Some.kid;
      is_kid = kid;
      lot = c.lend-part.result;
      does = c.lend-part.ensures.note;
      part = c.lend-part.ensures.part;
      edges = c.put.ensures.is;
      outs = refl;
    } in
    subst (λ x. Lends c.args.w c.args.side x u) c.self.view_is h
