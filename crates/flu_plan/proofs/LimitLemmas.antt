-- What is within the limits.
use Rattle.std.proofs.Common.{◌≡◌, ◌≤◌, Bool, true, false, List, length, Ok, refl}
use Rattle.std.specs.Prelude.{nat_le}
use Rattle.flu_lemmas.proofs.Tests.{true_le}
use Rattle.flu_model.specs.declared.limits.What.TheVariants.{Nodes, Predicates, Depth}
use Rattle.flu_plan.specs.declared.fault.PlanFault.{PlanFault}
use Rattle.flu_plan.specs.declared.fault.PlanFault.TheVariants as f
use Rattle.flu_plan.specs.declared.drafts.DraftNode.{DraftNode}
use Rattle.flu_plan.specs.declared.drafts.Visit.{Visit}
use Rattle.flu_plan.specs.Faults.{Found, ◌>>◌, unless}
use Rattle.flu_plan.specs.Limits.{keys_of_nodes, predicates, are_shallow, within_limits}

-- a look that passes, and what follows it
pub passed : (b : Bool) (fault : PlanFault) (rest : Found (Unit {0})) → (unless b fault >> rest) ≡ Ok tt → (b ≡ true) × (rest ≡ Ok tt)
passed true fault rest e = (refl, e)
passed false fault rest e = absurd cc

pub record Within (order : List Visit) (nodes : List DraftNode) : Type 0 where
  pub few_nodes : length nodes ≤ 127
  pub few_predicates : predicates nodes ≤ 4096
  pub shallow : are_shallow order ≡ true
  pub keys : keys_of_nodes nodes ≡ Ok tt

pub within : (order : List Visit) (nodes : List DraftNode) → within_limits order nodes ≡ Ok tt → Within order nodes
unfolding within_limits
within order nodes e =
    let a = passed (nat_le (length nodes) 127) (f.OverLimit Nodes 128) _ e in
    let b = passed (nat_le (predicates nodes) 4096) (f.OverLimit Predicates 4097) _ a.1 in
    let d = passed (are_shallow order) (f.OverLimit Depth 7) (keys_of_nodes nodes) b.1 in
    record { few_nodes = true_le (length nodes) 127 a.0; few_predicates = true_le (predicates nodes) 4096 b.0; shallow = d.0; keys = d.1 }
