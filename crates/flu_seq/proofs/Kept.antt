-- The state of a fold holds values of the job's sorts.
use Rattle.std.proofs.Common.{◌≡◌, Result, Ok, Err, List, sym, subst}
use Rattle.std.specs.Prelude.{IfOk}
use Rattle.flu_model.specs.declared.events.Item.{Item}
use Rattle.flu_model.specs.declared.jobs.Program.{Program}
use Rattle.flu_model.specs.Contents.{Contents}
use Rattle.flu_model.specs.Folding.{final_state}
use Rattle.flu_model.specs.Sorts.{IsStateOf}
use Rattle.flu_cells.specs.declared.state.State.{State}
use Rattle.flu_cells.specs.Holding.{held}
use Rattle.flu_laws.specs.Updating.{FoldKeepsSorts}

pub sorts_kept : {O E : Type 0} (p : Program) (opening : Contents) (lists : List (List Item)) (r : Result (State × O) E)
    → IfOk r (λ done. held done.0 ≡ final_state p opening lists) → FoldKeepsSorts → IsStateOf p.families opening
    → IfOk r (λ done. IsStateOf p.families (held done.0))
sorts_kept p opening lists (Ok done) e kept sorts = subst (IsStateOf p.families) (sym e) (kept p opening lists sorts)
sorts_kept p opening lists (Err x) e kept sorts = tt
