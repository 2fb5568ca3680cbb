use Rattle.std.proofs.Common.{◌≡◌, ◌<◌, List, sym, subst, ◌∙◌}
use Rattle.std.specs.List.{AllByRecursion}
use Rattle.flu_model.specs.declared.events.Itag.{Itag}
use Rattle.flu_model.specs.Itags.{count_of_itags}
use Rattle.flu_model.specs.Owners.{ancestors_own}
use Rattle.flu_fork.specs.Lots.{job, nodes}
use Rattle.flu_tables.specs.Lists.{itags_where}
use Rattle.flu_worker.specs.Choosing.{above_itags}
use Rattle.flu_worker.proofs.EarliestLemmas.{all_known}
use Rattle.flu_worker.proofs.choosing.above_itags.Goals as goal

pub returns : goal.returns
returns c =
    let k = c.args.case.now in
    let is : c.above.result.now ≡ above_itags k c.args.node = c.above.ensures
    ∙ λ i. itags_where (c.tables.ensures.of_job i) (ancestors_own (c.tables.ensures.of_job i) (c.tables.ensures.of_plan i) c.args.node) in
    record {
      listed = is;
      known =
          subst (λ (xs : List Itag). AllByRecursion (λ (i : Itag). i.0 < count_of_itags (job k)) xs) (sym is)
          (all_known (job k) (ancestors_own (job k) (nodes k) c.args.node));
    }
