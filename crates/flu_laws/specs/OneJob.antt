-- PROGRAMS OF ONE JOB differ only in where the boxes of their expressions lie in memory. So they mean the same.
use Rattle.std.specs.Prelude.{◌≡◌, List}
use Rattle.flu_model.specs.declared.jobs.Program.{Program}
use Rattle.flu_model.specs.declared.plans.Node.{Node}
use Rattle.flu_model.specs.Erasure.{IsSameJob}
use Rattle.flu_model.specs.Folding.{outputs_with, state_after, outputs_of}
use Rattle.flu_model.specs.Itags.{itags, count_of_itags, tag_of_itag, source_of_itag, is_dependent}
use Rattle.flu_model.specs.Modes.{mode_of, IsAccepted}
use Rattle.flu_model.specs.Owners.{node_owns, owns, owner_of, subtree_owns, ancestors_own}
use Rattle.flu_model.specs.Reports.{text_of_tag, line_of, report}
use Rattle.flu_model.specs.Updates.{effect_of}
use Rattle.flu_model.specs.Validity.{IsValid}

-- they have the same itags, of the same tags and sources, and the same tags depend on each other
pub record HaveTheSameItags (p q : Program) : Type 0 where
  pub all : itags p ≡ itags q
  pub count : count_of_itags p ≡ count_of_itags q
  pub tags : tag_of_itag p ≡ tag_of_itag q
  pub sources : source_of_itag p ≡ source_of_itag q
  pub dependent : is_dependent p ≡ is_dependent q

-- an event has the same effect on each state, and the same outputs, and so have some events
pub record DoTheSame (p q : Program) : Type 0 where
  pub effect : effect_of p ≡ effect_of q
  pub with_texts : outputs_with p ≡ outputs_with q
  pub after : state_after p ≡ state_after q
  pub outputs : outputs_of p ≡ outputs_of q

-- each tag uses each cell in the same mode, and one is accepted if the other is
pub record AreAcceptedAlike (p q : Program) : Type 0 where
  pub modes : mode_of p ≡ mode_of q
  pub accepted : IsAccepted p → IsAccepted q

-- the nodes of a plan own the same itags, and a plan is valid for one if it is for the other
pub record HaveTheSameOwners (p q : Program) : Type 0 where
  pub by_node : node_owns p ≡ node_owns q
  pub by_number : owns p ≡ owns q
  pub owner : owner_of p ≡ owner_of q
  pub below : subtree_owns p ≡ subtree_owns q
  pub above : ancestors_own p ≡ ancestors_own q
  pub valid : (nodes : List Node) → IsValid p nodes → IsValid q nodes

-- tags have the same text, outputs the same line, and so some outputs the same report
pub record ReportTheSame (p q : Program) : Type 0 where
  pub texts : text_of_tag p ≡ text_of_tag q
  pub lines : line_of p ≡ line_of q
  pub reports : report p ≡ report q

-- ---- the laws
abbrev pub JobsHaveTheSameItags : Type 0
JobsHaveTheSameItags = (p q : Program) → IsSameJob p q → HaveTheSameItags p q

abbrev pub JobsDoTheSame : Type 0
JobsDoTheSame = (p q : Program) → IsSameJob p q → DoTheSame p q

abbrev pub JobsAreAcceptedAlike : Type 0
JobsAreAcceptedAlike = (p q : Program) → IsSameJob p q → AreAcceptedAlike p q

abbrev pub JobsHaveTheSameOwners : Type 0
JobsHaveTheSameOwners = (p q : Program) → IsSameJob p q → HaveTheSameOwners p q

abbrev pub JobsReportTheSame : Type 0
JobsReportTheSame = (p q : Program) → IsSameJob p q → ReportTheSame p q
