-- The lines on err of a part command that was not done: of the node that it names, and of a file that it names.
use Rattle.std.specs.Prelude.{ℕ, List, ◌++◌, codes}
use Rattle.std.specs.Fmt.{decimal}
use Rattle.flu_model.specs.Reports.{text_of_tag, text_of_cell}
use Rattle.flu_model.specs.declared.jobs.Program.{Program}
use Rattle.flu_model.specs.declared.plans.Node.{Node}
use Rattle.flu_apart.specs.declared.reason.Reason.{Reason}
use Rattle.flu_apart.specs.declared.reason.Reason.TheVariants.{Clock, Shared}
use Rattle.flu_receiving.specs.declared.fault.PartialFault.{PartialFault}
use Rattle.flu_receiving.specs.declared.fault.PartialFault.TheVariants as texts
use Rattle.flu_combine.specs.declared.fault.PartialDefect.{PartialDefect}
use Rattle.flu_combine.specs.declared.fault.PartialDefect.TheVariants as defects
use Rattle.flu_lines.specs.declared.parts.NodeDefect.{NodeDefect}
use Rattle.flu_lines.specs.declared.parts.NodeDefect.TheVariants.{Unknown, NotApart}
use Rattle.flu_lines.specs.declared.parts.FileDefect.{FileDefect}
use Rattle.flu_lines.specs.declared.parts.FileDefect.TheVariants.{SameName, Partial}
use Rattle.flu_lines.specs.Lines.{fault_line, plan_line}
use Rattle.flu_lines.specs.Names.{node_name, source_name}

-- why a node may not be apart: the first clock of the job; or the tag of its subtree, and the cell that this one uses
abbrev pub reason_text : Program → Reason → List ℕ
reason_text p (Clock number) = codes "clock " ++ source_name p number
reason_text p (Shared shared) = text_of_tag p shared.tag ++ codes " on " ++ text_of_cell p shared.cell

abbrev pub not_apart_text : Program → List Node → ℕ → Reason → List ℕ
not_apart_text p nodes u reason = node_name nodes u ++ codes " can't be apart: " ++ reason_text p reason

-- ---- the node
-- what is wrong with the node that has this name, or that none has
abbrev pub node_defect_text : Program → List Node → List ℕ → NodeDefect → List ℕ
node_defect_text p nodes name Unknown = codes "no node " ++ name
node_defect_text p nodes name (NotApart u reason) = not_apart_text p nodes u reason

abbrev pub node_defect_line : Program → List Node → List ℕ → NodeDefect → List ℕ
node_defect_line p nodes name why = plan_line (node_defect_text p nodes name why)

-- ---- a file
-- why bytes are no partial: the number of the first line that is not right, and what is wrong with it
abbrev pub text_fault_text : PartialFault → List ℕ
text_fault_text (texts.OverLimit line) = codes "over limit bytes 536870913"
text_fault_text (texts.NotJson line) = codes "not json at line " ++ decimal line
text_fault_text (texts.WrongForm line) = codes "wrong form at line " ++ decimal line
text_fault_text (texts.OutOfOrder line) = codes "out of order at line " ++ decimal line
text_fault_text texts.Incomplete = codes "incomplete"
text_fault_text texts.NoMemory = codes "no memory"

-- what is wrong with a partial
abbrev pub partial_defect_text : Program → List Node → PartialDefect → List ℕ
partial_defect_text p nodes defects.TooLong = codes "over limit bytes 536870913"
partial_defect_text p nodes (defects.Text fault) = text_fault_text fault
partial_defect_text p nodes defects.OtherJob = codes "other job"
partial_defect_text p nodes defects.OtherPlan = codes "other plan"
partial_defect_text p nodes defects.UnknownNode = codes "unknown node"
partial_defect_text p nodes (defects.NotApart u reason) = codes "node " ++ not_apart_text p nodes u reason
partial_defect_text p nodes (defects.Twice u) = codes "node " ++ node_name nodes u ++ codes " twice"
partial_defect_text p nodes (defects.Within u v) = codes "node " ++ node_name nodes u ++ codes " within " ++ node_name nodes v
partial_defect_text p nodes defects.WrongTimes = codes "wrong times"
partial_defect_text p nodes defects.LeftOver = codes "left over"

-- what is wrong with a file that is named as a partial: it is the file of this source too, or it is no partial that can be combined
abbrev pub file_defect_text : Program → List Node → FileDefect → List ℕ
file_defect_text p nodes (SameName number) = codes "same as source " ++ source_name p number
file_defect_text p nodes (Partial defect) = partial_defect_text p nodes defect

-- the line of a file with this name
abbrev pub file_defect_line : Program → List Node → List ℕ → FileDefect → List ℕ
file_defect_line p nodes name why = fault_line (codes "flumina: partial " ++ name ++ codes ": ") (file_defect_text p nodes why)
