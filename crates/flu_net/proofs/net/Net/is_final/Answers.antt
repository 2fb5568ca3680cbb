use Rattle.std.proofs.Common.{◌≡◌, List, length, sym, ap, subst, ◌∙◌}
use Rattle.std.specs.Prelude.{slice_get}
use Rattle.flu_lemmas.proofs.Tests.{not_both}
use Rattle.flu_model.specs.Itags.{count_of_itags}
use Rattle.flu_fork.specs.declared.content.Content.{Content}
use Rattle.flu_fork.specs.Lots.{job}
use Rattle.flu_worker.specs.Notes.{WorkerNote}
use Rattle.flu_net.specs.Ending.{AreOver, OneIsLeft, SeesAllItems}
use Rattle.flu_net.specs.Notes.{NetNote}
use Rattle.flu_net.specs.Rule.{IsWell, Rule}
use Rattle.flu_net.proofs.Finals.{final_told, unseen_told}
use Rattle.flu_net.proofs.net.Net.is_final.Goals as goal

pub all_seen-requires : goal.all_seen-requires
all_seen-requires c =
    let n = c.args.self.now in
    let rule : Rule n = subst IsWell c.self.view_is c.self.invariant (sym (ap (λ (x : NetNote). x.gone) c.self.view_is) ∙ c.if-self.false) in
    ap (λ (x : NetNote). length x.seen) c.self.view_is ∙ rule.seen.one_each ∙ ap (λ (k : Content). count_of_itags (job k)) (sym c.requires)

pub all_over-requires : goal.all_over-requires
all_over-requires c =
    let n = c.args.self.now in
    let rule : Rule n = subst IsWell c.self.view_is c.self.invariant (sym (ap (λ (x : NetNote). x.gone) c.self.view_is) ∙ c.if-self.false) in
    let same : n.workers ≡ c.as_slice.result.now = sym (c.as_slice.ensures.value ∙ ap (λ (x : NetNote). x.workers) c.self.view_is) in
    λ w v up. (rule.ties.placed w v (ap (λ (l : List WorkerNote). slice_get l w) same ∙ up)).case ∙ sym c.requires

pub returns-then-not-all_seen-clause-exact : goal.returns-then-not-all_seen-clause-exact
returns-then-not-all_seen-clause-exact c = λ _.
    let n = c.args.self.now in
    unseen_told n c.args.case.now c.requires (λ all. not_both _
    (c.all_seen.ensures.1 (subst (SeesAllItems c.args.case.now) (sym (ap (λ (x : NetNote). x.seen) c.self.view_is)) all)) c.if-not-all_seen.true)

pub returns-clause-exact : goal.returns-clause-exact
returns-clause-exact c = λ gone.
    let n = c.args.self.now in
    let rule : Rule n = subst IsWell c.self.view_is c.self.invariant gone in
    let same : c.as_slice.result.now ≡ n.workers = c.as_slice.ensures.value ∙ ap (λ (x : NetNote). x.workers) c.self.view_is in
    final_told c.laws_below.ensures n rule c.args.case.now c.requires
    (subst (SeesAllItems c.args.case.now) (ap (λ (x : NetNote). x.seen) c.self.view_is) (c.all_seen.ensures.0 c.if-not-all_seen.false)) c.all_over.result
    (λ e. subst AreOver same (c.all_over.ensures.over e)) (λ e. subst OneIsLeft same (c.all_over.ensures.left e))
