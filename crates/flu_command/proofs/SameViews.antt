-- Programs that are the same job show workers the same.
use Rattle.std.proofs.Common.{◌≡◌, List}
use Rattle.flu_laws.specs.OneJob.{HaveTheSameItags, HaveTheSameOwners}
use Rattle.flu_model.specs.declared.events.Item.{Item}
use Rattle.flu_model.specs.declared.jobs.Program.{Program}
use Rattle.flu_model.specs.declared.plans.Node.{Node}
use Rattle.flu_fork.specs.Classes.{itag}
use Rattle.flu_net.specs.Alike.{view_of}
use Rattle.flu_command.specs.Simulating.{from_nothing}

pub same_view : (p q : Program) → HaveTheSameItags p q → HaveTheSameOwners p q → (nodes : List Node) (lists : List (List Item))
    → view_of (from_nothing p nodes lists) ≡ view_of (from_nothing q nodes lists)
same_view p q itags owners nodes lists = λ j. record {
  count = itags.count j;
  owned = λ w i. owners.by_number j nodes w (itag i);
  higher = λ w i. owners.above j nodes w (itag i);
  tied = λ i k. itags.dependent j (itags.tags j (itag i)) (itags.tags j (itag k));
  nodes = nodes;
  lists = lists;
}
