use Rattle.std.proofs.Common.{◌≡◌, sym, ap, subst}
use Rattle.std.specs.List.Sorted.{IsPermutation}
use Rattle.flu_model.specs.Folding.{final_state, final_outputs}
use Rattle.flu_model.specs.Listed.{listed}
use Rattle.flu_model.specs.Sorts.{IsStateOf}
use Rattle.flu_cells.specs.Holding.{held}
use Rattle.flu_fork.specs.declared.content.Content.{Content}
use Rattle.flu_fork.specs.Lots.{job}
use Rattle.flu_fork.specs.Serving.{none_counted}
use Rattle.flu_net.specs.Ending.{AreAtEnd}
use Rattle.flu_net.specs.Notes.{NetNote}
use Rattle.flu_net.specs.Rule.{IsWell, Rule}
use Rattle.flu_net.proofs.Bringing.{the_state, the_sorts}
use Rattle.flu_net.proofs.Finals.{all_outputs, at_end}
use Rattle.flu_net.proofs.net.Net.joined.Goals as goal

pub whole_lot-requires-clause-end : goal.whole_lot-requires-clause-end
whole_lot-requires-clause-end c =
    let n = c.args.self in
    let rule : Rule n = subst IsWell c.self.view_is c.self.invariant c.requires.gone in
    subst (λ (k : Content). AreAtEnd k c.self.inside.workers.items) (sym c.requires.case)
    (subst (AreAtEnd n.case) (sym (ap (λ (x : NetNote). x.workers) c.self.view_is)) (at_end c.laws_below.ensures n rule c.requires.is_final))

pub returns-clause-state : goal.returns-clause-state
returns-clause-state c =
    subst (λ (k : Content). held c.in_ok-lot.lot.state ≡ final_state (job k) (held k.opening) (listed k.streams)) c.requires.case
    (the_state c.laws_below.ensures c.args.case.now (none_counted c.args.case.now) c.in_ok-lot.lot c.in_ok-lot.ensures)

pub returns-clause-sorts : goal.returns-clause-sorts
returns-clause-sorts c =
    subst (λ (k : Content). IsStateOf (job k).families (held c.in_ok-lot.lot.state)) c.requires.case
    (the_sorts c.laws_below.ensures c.args.case.now (none_counted c.args.case.now) c.in_ok-lot.lot c.in_ok-lot.ensures)

pub returns-clause-outputs : goal.returns-clause-outputs
returns-clause-outputs c =
    let n = c.args.self in
    let rule : Rule n = subst IsWell c.self.view_is c.self.invariant c.requires.gone in
    subst (IsPermutation (final_outputs (job n.case) (held n.case.opening) (listed n.case.streams))) (sym (ap (λ (x : NetNote). x.outs) c.self.view_is))
    (all_outputs c.laws_below.ensures n rule c.requires.is_final)
