use Rattle.std.proofs.Common.{◌≡◌, ◌<◌, Some, None, length, refl, sym, subst, ap, ◌∙◌}
use Rattle.std.specs.Prelude.{IfSome}
use Rattle.flu_deps.specs.Owned.{kids_at}
use Rattle.flu_deps.specs.Trees.{AreKids}
use Rattle.flu_deps.proofs.TreeLemmas.{kids_are_nodes}
use Rattle.flu_deps.proofs.Trees.{are_kids}
use Rattle.flu_deps.proofs.nodes.kids.Goals as goal

pub returns-clause-nodes : goal.returns-clause-nodes
returns-clause-nodes c =
    let nodes = c.args.plan.now.nodes in
    subst (λ o. IfSome o (λ kids. (kids.0 < length nodes) × (kids.1 < length nodes)))
    (sym (c.kids_at.ensures ∙ ap (λ ns. kids_at ns c.args.w) c.items.ensures))
    (kids_are_nodes nodes c.args.w c.args.plan.now.one_tree)

pub returns-clause-in_order : goal.returns-clause-in_order
returns-clause-in_order c =
    let nodes = c.args.plan.now.nodes in
    let w = c.args.w in
    subst (λ o. IfSome o (λ kids. AreKids nodes w kids.0 kids.1))
    (sym (c.kids_at.ensures ∙ ap (λ ns. kids_at ns w) c.items.ensures))
    (elim (kids_at nodes w) as (λ o. kids_at nodes w ≡ o → IfSome o (λ kids. AreKids nodes w kids.0 kids.1)) [
      | None ↦ λ none. tt
      | Some kids ↦ λ some. are_kids nodes c.args.plan.now.one_tree w kids.0 kids.1 some
    ] refl)
