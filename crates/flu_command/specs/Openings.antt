-- What a run starts from: the first row and the empty state, or a checkpoint; and what the fold gives from there.
use Rattle.std.specs.Prelude.{◌≡◌, ◌≤◌, ℕ, List, Option, Some, None}
use Rattle.flu_outside.specs.Outside.{Contents as Files}
use Rattle.flu_outside.specs.Taking.{bytes_left}
use Rattle.flu_model.specs.declared.events.Item.{Item}
use Rattle.flu_model.specs.declared.jobs.Program.{Program}
use Rattle.flu_model.specs.Contents.{Contents, nothing_held}
use Rattle.flu_model.specs.Folding.{final_state, final_outputs}
use Rattle.flu_model.specs.Reports.{report}
use Rattle.flu_rounds.specs.Written.{lists_above}
use Rattle.flu_save.specs.Forms.{IsSave}
use Rattle.flu_command.specs.Behind.{emptied_each, lists_behind}

-- THE OPENING of a run: the border above which it is resumed, if it is, what the cells hold then, and how many rows of each source make
-- a round
pub record Opening : Type 0 where
  pub border : Option ℕ
  pub cells : Contents
  pub rows : ℕ

-- from the first row on, and from the empty state
abbrev pub fresh : ℕ → Opening
fresh rows = record { border = None; cells = nothing_held; rows = rows }

-- these bytes are a checkpoint of the job, of this border and this state, and a round has some row
pub record OpensAt (p : Program) (bytes : List ℕ) (o : Opening) : Type 0 where
  pub time : ℕ
  pub above : o.border ≡ Some time
  pub save : IsSave p time o.cells bytes
  pub some : 1 ≤ o.rows

-- a run in rounds of a number of rows opens fresh; or, if it is resumed, with the checkpoint under a name, which is read after some texts
abbrev pub Opens : ℕ → Option (List ℕ) → List (List ℕ) → Files → Program → Opening → Type 0
Opens rows None texts left p o = (o ≡ fresh rows) × (1 ≤ rows)
Opens rows (Some name) texts left p o = OpensAt p (bytes_left (emptied_each texts left) name) o × (o.rows ≡ rows)

-- the items that it runs, of sources that are read after some texts
abbrev pub lists_from : Opening → List (List ℕ) → Files → Program → List (List Item)
lists_from o texts left p = lists_above p o.border (lists_behind texts left p)

-- the report of their fold, and the state after it
abbrev pub report_from : Opening → List (List ℕ) → Files → Program → List ℕ
report_from o texts left p = report p (final_outputs p o.cells (lists_from o texts left p))

abbrev pub state_from : Opening → List (List ℕ) → Files → Program → Contents
state_from o texts left p = final_state p o.cells (lists_from o texts left p)
