use Rattle.std.proofs.Common.{◌≡◌, ◌<◌, List, sym, ap, subst, ◌∙◌, rules}
use Rattle.std.specs.List.{AllByRecursion}
use Rattle.flu_model.specs.declared.events.Event.{Event}
use Rattle.flu_model.specs.Itags.{count_of_itags}
use Rattle.flu_model.specs.Listed.{listed}
use Rattle.flu_model.specs.Sorts.{IsStateOf}
use Rattle.flu_deps.specs.Checking.{program_of}
use Rattle.flu_apart.specs.Subtrees.{job, nodes, node}
use Rattle.flu_contribution.specs.Contributions.{Contribution}
use Rattle.flu_sending.specs.Lines.{last_time}
use Rattle.flu_sending.proofs.Merged.{merged_in_range}
use Rattle.flu_sending.proofs.Sorts.{within_sorts}
use Rattle.flu_sending.proofs.sending.push_sent.Goals as goal

pub push_all-requires-clause-in_range : goal.push_all-requires-clause-in_range
push_all-requires-clause-in_range c =
    let p = c.program-p.result.now in
    let streams = c.args.streams.now in
    subst (λ (xs : List Event). AllByRecursion (λ (x : Event). x.itag.0 < count_of_itags p) xs) (sym (c.as_slice.ensures.value ∙ c.in_ok-events.ensures.same))
    (merged_in_range (count_of_itags p) (listed streams) (c.requires.lists ∙ ap count_of_itags (sym c.program-p.ensures)) streams.good)

pub push_all-requires-clause-its : goal.push_all-requires-clause-its
push_all-requires-clause-its c =
    let families = c.program-p.result.now.families in
    record {
      job = ap job c.in_ok-node.ensures.same ∙ c.of.ensures.job ∙ sym c.program-p.ensures;
      nodes = ap nodes c.in_ok-node.ensures.same ∙ c.of.ensures.nodes;
      node = ap node c.in_ok-node.ensures.same ∙ c.of.ensures.node;
      sorts = subst (λ (k : Contribution). IsStateOf families k.cells) (sym c.in_ok-node.ensures.open)
          (within_sorts families _ _ (subst (IsStateOf families) (sym c.new-opening.ensures) (λ cell. tt)));
    }

pub returns : goal.returns
returns c =
    let lists = listed c.args.streams.now in
    let last : c.last_time.result ≡ last_time (program_of c.args.c.now) lists = c.last_time.ensures ∙ ap (λ p. last_time p lists) c.program-p.ensures in
    search rules
