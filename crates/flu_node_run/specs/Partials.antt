-- THE PARTIAL OF A NODE APART, of the sources that the node reads.
use Rattle.std.specs.Prelude.{◌≡◌, ℕ, Bool, Some, None, List, [], ◌++◌, slice_get}
use Rattle.flu_model.specs.declared.events.Item.{Item}
use Rattle.flu_model.specs.declared.jobs.Program.{Program}
use Rattle.flu_model.specs.declared.plans.Node.{Node}
use Rattle.flu_model.specs.Erasure.{job_of}
use Rattle.flu_deps.specs.declared.checked.Checked.{Checked}
use Rattle.flu_deps.specs.declared.valid.Valid.{Valid}
use Rattle.flu_deps.specs.Checking.{program_of}
use Rattle.flu_deps.specs.Validated.{plan_of}
use Rattle.flu_outside.specs.Outside.{Contents}
use Rattle.flu_parse.specs.Printing.{normal_form}
use Rattle.flu_plan.specs.Printing.{printed, name_of_child}
use Rattle.flu_partial.specs.declared.values.PartialHead.{PartialHead}
use Rattle.flu_partial.specs.Partial.{head_text, line_of}
use Rattle.flu_selected.specs.Gathering.{IsRead}
use Rattle.flu_selected.specs.Laws.{first_read_fault}
use Rattle.flu_sending.specs.Lines.{first_time, last_time, lines_of, sent_by}
use Rattle.flu_readers.specs.Reading.{reads, part_read}

-- the name of a node of a plan
abbrev pub name_of_node : List Node → ℕ → List ℕ
name_of_node nodes w = name_of_child (slice_get nodes w)

-- THE HEAD of a node's partial: the first time of the rows that the node has read, the job and the plan in normal form, and the node's
-- name
abbrev pub head_of : Program → List Node → ℕ → List (List Item) → PartialHead
head_of p nodes w lists =
    record { first = first_time p lists; job = normal_form (job_of p); node = name_of_node nodes w; plan = printed p nodes }

-- THE TEXT OF A NODE'S PARTIAL, of the streams that the node has read: the line of its head, and then the lines of what it sends
abbrev pub text_of_partial : Program → List Node → ℕ → List (List Item) → List ℕ
text_of_partial p nodes w lists = line_of (head_text (head_of p nodes w lists)) ++ lines_of p (last_time p lists) (sent_by p nodes w lists)

-- the sources that a node of a plan reads, by their numbers
abbrev pub read_by : Checked → Valid → ℕ → ℕ → Bool
read_by c v w = reads (program_of c) (plan_of v).nodes w

-- none of the sources that the node reads has a defect, they were read to their end, and this is the text of its partial of them
pub record IsPartialOf (p : Program) (nodes : List Node) (w : ℕ) (text : List ℕ) (old new : Contents) : Type 0 where
  pub good : first_read_fault p [] (reads p nodes w) old ≡ None
  pub ends : (name : List ℕ) → IsRead p (reads p nodes w) name → new name ≡ Some []
  pub is : text ≡ text_of_partial p nodes w (part_read p nodes old w)
