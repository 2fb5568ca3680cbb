-- The cells that a node keeps of a state have the job's sorts, as the state has.
use Rattle.std.proofs.Common.{Bool, true, false, cond, None, List}
use Rattle.flu_model.specs.declared.events.Cell.{Cell}
use Rattle.flu_model.specs.declared.jobs.Family.{Family}
use Rattle.flu_model.specs.Contents.{Contents}
use Rattle.flu_model.specs.Sorts.{MayHold, IsStateOf}
use Rattle.flu_laws.specs.Consistency.{within, outside}

pub within_sorts : (families : List Family) (keep : Cell → Bool) (s : Contents) → IsStateOf families s → IsStateOf families (within keep s)
within_sorts families keep s sorts c =
    elim (keep c) as (λ b. MayHold families c (cond b (s c) None)) [
      | true ↦ sorts c
      | false ↦ tt
    ]

pub outside_sorts : (families : List Family) (keep : Cell → Bool) (s : Contents) → IsStateOf families s → IsStateOf families (outside keep s)
outside_sorts families keep s sorts c =
    elim (keep c) as (λ b. MayHold families c (cond b None (s c))) [
      | true ↦ tt
      | false ↦ sorts c
    ]
