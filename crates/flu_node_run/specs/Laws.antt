-- PROGRAMS OF ONE JOB differ only in where the boxes of their expressions lie in memory. So a node apart has one partial.
use Rattle.std.specs.Prelude.{◌≡◌, ℕ, Bool, List, Option}
use Rattle.flu_model.specs.declared.jobs.Program.{Program}
use Rattle.flu_model.specs.declared.plans.Node.{Node}
use Rattle.flu_model.specs.Erasure.{IsSameJob}
use Rattle.flu_outside.specs.Outside.{Contents}
use Rattle.flu_node_run.specs.declared.faults.PartFault.{PartFault}
use Rattle.flu_node_run.specs.Faults.{IsFirstPartFault}
use Rattle.flu_node_run.specs.Partials.{text_of_partial, IsPartialOf}

-- the text of a partial is the same, of the same sources; and so is the fault for which it is not written
pub record HaveOnePartial (p q : Program) : Type 0 where
  pub texts : text_of_partial p ≡ text_of_partial q
  pub partial : (nodes : List Node) (w : ℕ) (text : List ℕ) (old new : Contents) → IsPartialOf p nodes w text old new → IsPartialOf q nodes w text old new
  pub fault : (is_read : ℕ → Bool) (left left' : Option Contents) (fault : PartFault) → IsFirstPartFault p is_read left left' fault
      → IsFirstPartFault q is_read left left' fault

-- LAW OF JOBS
abbrev pub JobsHaveOnePartial : Type 0
JobsHaveOnePartial = (p q : Program) → IsSameJob p q → HaveOnePartial p q
