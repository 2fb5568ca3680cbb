-- What a lot is at a node of a case, and how it is parted and joined.
use Rattle.std.specs.Prelude.{◌≡◌, ℕ, Option, Some, List}
use Rattle.flu_model.specs.declared.jobs.Program.{Program}
use Rattle.flu_model.specs.declared.plans.Node.{Node}
use Rattle.flu_model.specs.Listed.{listed}
use Rattle.flu_deps.specs.Checking.{program_of}
use Rattle.flu_deps.specs.Owned.{kids_at}
use Rattle.flu_deps.specs.Validated.{plan_of}
use Rattle.flu_cells.specs.Holding.{held}
use Rattle.flu_model.specs.declared.streams.Streams.{Streams}
use Rattle.flu_deps.specs.declared.checked.Checked.{Checked}
use Rattle.flu_deps.specs.declared.valid.Valid.{Valid}
use Rattle.flu_cells.specs.declared.state.State.{State}
use Rattle.flu_fork.specs.declared.content.Content.{Content}
use Rattle.flu_fork.specs.declared.lots.Lot.{Lot}
use Rattle.flu_fork.specs.Settings.{Setting}
use Rattle.flu_fork.specs.Fitting.{Fits}
use Rattle.flu_fork.specs.Laws.{no_counts}
use Rattle.flu_fork.specs.Parts.{left_part, right_part, joined_state, joined_counts, ArePaired}

abbrev pub job : Content → Program
job k = program_of k.checked

abbrev pub nodes : Content → List Node
nodes k = (plan_of k.valid).nodes

abbrev pub setting_of : Content → Setting
setting_of k = record { program = job k; nodes = nodes k; lists = listed k.streams; opening = held k.opening }

-- the children of a node of the plan, the left one first
abbrev pub kids : Content → ℕ → Option (ℕ × ℕ)
kids k w = kids_at (nodes k) w

-- the lot fits the node
abbrev pub LotFits : Content → ℕ → Lot → Type 0
LotFits k w lot = Fits (setting_of k) w (held lot.state) lot.since lot.upto

-- the counts of two lots at the children of a node are those of one fork, each as it was lent or as it came back
abbrev pub LotsPaired : Content → ℕ → ℕ → Lot → Lot → Type 0
LotsPaired k l r left right = ArePaired (job k) (nodes k) l r left.since left.upto right.since right.upto

-- no event is counted
pub record CountsNothing (k : Content) (lot : Lot) : Type 0 where
  pub since : lot.since ≡ no_counts (job k)
  pub upto : lot.upto ≡ no_counts (job k)

-- ---- two parts, the left one first

-- what the cells hold that the right child's subtree needs is in the right part, and all but what is moved there in the left one
pub record HasParts (k : Content) (r : ℕ) (lot : Lot) (parts : Lot × Lot) : Type 0 where
  pub left : held parts.0.state ≡ left_part (job k) (nodes k) r (held lot.state)
  pub right : held parts.1.state ≡ right_part (job k) (nodes k) r (held lot.state)

-- the left part keeps the counts, and the right one has no effect of an event yet
pub record HasCounts (lot : Lot) (parts : Lot × Lot) : Type 0 where
  pub left_since : parts.0.since ≡ lot.since
  pub left_upto : parts.0.upto ≡ lot.upto
  pub right_since : parts.1.since ≡ lot.upto
  pub right_upto : parts.1.upto ≡ lot.upto

-- the parts fit the children, and are paired
pub record PartsFitKids (k : Content) (l r : ℕ) (parts : Lot × Lot) : Type 0 where
  pub left : LotFits k l parts.0
  pub right : LotFits k r parts.1
  pub paired : LotsPaired k l r parts.0 parts.1

-- ---- two lots together

-- the join of the states, without the copies in the right one
abbrev pub IsJoined : Content → ℕ → Lot → Lot → Lot → Type 0
IsJoined k r left right lot = held lot.state ≡ joined_state (job k) (nodes k) r (held left.state) (held right.state)

-- the counts of the joined lot of a node: it begins where the left lot does, and the events of the right child's subtree are counted as in the right lot
pub record HasJoinedCounts (k : Content) (w : ℕ) (left right lot : Lot) : Type 0 where
  pub since : lot.since ≡ left.since
  pub upto : (l r : ℕ) → kids k w ≡ Some (l, r) → lot.upto ≡ joined_counts (job k) (nodes k) r left.upto right.upto

-- ---- a case

-- it is the case of a job, a plan, streams and an opening state
pub record IsCaseOf (c : Checked) (v : Valid) (s : Streams) (start : State) (k : Content) : Type 0 where
  pub checked : k.checked ≡ c
  pub valid : k.valid ≡ v
  pub streams : k.streams ≡ s
  pub opening : k.opening ≡ start
