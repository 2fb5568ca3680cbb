use Rattle.std.proofs.Common.{sym, ap, subst, ◌∙◌, rules}
use Rattle.flu_model.specs.Sorts.{IsStateOf}
use Rattle.flu_apart.specs.Subtrees.{job, nodes, node}
use Rattle.flu_contribution.specs.Contributions.{keeps, Contribution}
use Rattle.flu_contribution.specs.Parts.{open_of}
use Rattle.flu_sending.specs.LoopSending.{program_in, IsNodeOf}
use Rattle.flu_sending.proofs.Sorts.{within_sorts}
use Rattle.flu_sending.proofs.sending.Part.take_event.Goals as goal

pub returns-in_ok-closed-clause-its : goal.returns-in_ok-closed-clause-its
returns-in_ok-closed-clause-its c =
    let s = c.args.self.now in
    let old = c.args.node.now in
    let e = c.in_ok-closed.ensures in
    let h = c.requires.its in
    let kept : IsNodeOf s c.above.new.self = record {
      job = ap job e.same ∙ h.job;
      nodes = ap nodes e.same ∙ h.nodes;
      node = ap node e.same ∙ h.node;
      sorts = subst (λ (k : Contribution). IsStateOf (program_in s).families k.cells) (sym e.open)
          (within_sorts (program_in s).families (keeps (job old.subtree) (nodes old.subtree) (node old.subtree)) (open_of old).cells h.sorts);
    } in
    search rules
