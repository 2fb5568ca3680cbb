-- What the code of nodes apart holds.
use Rattle.std.specs.Prelude.{◌≡◌, ℕ, ◌<◌, Bool, true, None, is_some}
use Rattle.flu_model.specs.declared.events.Cell.{Cell}
use Rattle.flu_model.specs.declared.jobs.Program.{Program}
use Rattle.flu_model.specs.Contents.{Contents}
use Rattle.flu_cells.specs.declared.sets.CellSet.{CellSet}
use Rattle.flu_cells.specs.Holding.{held}
use Rattle.flu_cells.specs.Sets.{is_in}
use Rattle.flu_apart.specs.declared.classes.Subtree.{Subtree}
use Rattle.flu_apart.specs.Subtrees.{job, nodes, node}
use Rattle.flu_contribution.specs.declared.contributing.Contributing.{Contributing}
use Rattle.flu_contribution.specs.declared.contributing.Handed.{Handed}
use Rattle.flu_contribution.specs.declared.combining.Combining.{Combining}
use Rattle.flu_contribution.specs.Contributions.{keeps, Contribution}
use Rattle.flu_contribution.specs.Combining.{Combined}

-- the cells that the node of a subtree keeps
abbrev pub keeps_of : Subtree → Cell → Bool
keeps_of s c = keeps (job s) (nodes s) (node s) c

-- a set has the cells of the families below a number that a state holds and the node keeps, and none that it does not keep
pub record HasKept (s : Subtree) (state : Contents) (set : CellSet) (family : ℕ) : Type 0 where
  pub only : (c : Cell) → is_in set c ≡ true → keeps_of s c ≡ true
  pub all : (c : Cell) → c.family < family → is_some (state c) ≡ true → keeps_of s c ≡ true → is_in set c ≡ true

-- the subtree of a node apart
abbrev pub subtree_of : Contributing → Subtree
subtree_of k = k.subtree

-- its open contribution
abbrev pub open_of : Contributing → Contribution
open_of k = record { cells = held k.cells; outputs = k.outputs; count = k.count; before = None }

-- a contribution that was handed over
abbrev pub contribution_of : Handed → Contribution
contribution_of k = record { cells = held k.cells; outputs = k.outputs; count = k.count; before = k.before }

-- the state and the outputs so far, and the job
abbrev pub combined_of : Combining → Combined
combined_of r = record { cells = held r.cells; outputs = r.outputs }

abbrev pub program_of : Combining → Program
program_of r = r.program.now
