-- What goes to the right children of the nodes, as it is kept.
use Rattle.std.specs.Prelude.{◌≡◌, ℕ, Bool, false, Some, List, map, length, slice_get, slice_index, slice_index_or, if◌then◌else◌}
use Rattle.std.specs.List.{range_with_len}
use Rattle.flu_model.specs.declared.events.Cell.{Cell}
use Rattle.flu_model.specs.declared.jobs.Program.{Program}
use Rattle.flu_model.specs.declared.modes.Mode.{Mode}
use Rattle.flu_model.specs.declared.plans.Node.{Node}
use Rattle.flu_model.specs.Itags.{count_of_itags}
use Rattle.flu_deps.specs.Owned.{kids_at}
use Rattle.flu_cells.specs.Sets.{is_in, is_in_but}
use Rattle.flu_cells.specs.declared.sets.CellSet.{CellSet}
use Rattle.flu_tables.specs.Tables.{AreTablesOf}
use Rattle.flu_fork.specs.Classes.{below, some_has, is_needed, is_copied}
use Rattle.flu_fork.specs.declared.rights.Copied.{Copied}
use Rattle.flu_fork.specs.declared.rights.Right.{Right}
use Rattle.flu_fork.specs.declared.tree_tables.TreeTables.{TreeTables}

-- the cells on which some itag of a node's subtree has such a mode
abbrev pub IsSetOf : Program → List Node → ℕ → (Mode → Bool) → CellSet → Type 0
IsSetOf p nodes w test set = (c : Cell) → is_in set c ≡ some_has p test (below p nodes w) c

-- the cell is one of those that are copied
abbrev pub is_copied_by : Copied → Cell → Bool
is_copied_by k c = is_in_but k.written k.read c

-- those that are copied to a node, if that is a right child
abbrev pub IsCopiedSet : Program → List Node → ℕ → Copied → Type 0
IsCopiedSet p nodes right k = (c : Cell) → is_copied_by k c ≡ is_copied p (below p nodes right) c

-- the cells that some itag of a node's subtree needs, those of them that are copied, and whether each itag is of that subtree
pub record IsRight (p : Program) (nodes : List Node) (right : ℕ) (table : Right) : Type 0 where
  pub needed : (c : Cell) → is_in table.needed c ≡ is_needed p (below p nodes right) c
  pub copied : (c : Cell) → is_copied_by table.copied c ≡ is_copied p (below p nodes right) c
  pub itags : table.itags.items ≡ map (below p nodes right) (range_with_len 0 (count_of_itags p))

-- those of the right child of a node, if it has one
abbrev pub IsRightAt : Program → List Node → ℕ → Right → Type 0
IsRightAt p nodes w table = (left right : ℕ) → kids_at nodes w ≡ Some (left, right) → IsRight p nodes right table

-- those of the right child of each node
pub record AreTables (p : Program) (nodes : List Node) (tables : List Right) : Type 0 where
  pub one_each : length tables ≡ length nodes
  pub right : (w : ℕ) (table : Right) → slice_get tables w ≡ Some table → IsRightAt p nodes w table

-- what is kept of a job and of a plan with these nodes for their cases
pub record AreTreeTablesOf (p : Program) (nodes : List Node) (t : TreeTables) : Type 0 where
  pub rights : AreTables p nodes t.rights.items
  pub tables : AreTablesOf p nodes t.tables

-- the count of an itag: the right one if it is of the right ones, and else the left one
abbrev pub count_by : List Bool → List ℕ → List ℕ → ℕ → ℕ
count_by is_right lefts rights i = if slice_index_or is_right i false then slice_index rights i else slice_index lefts i

-- so for each itag
abbrev pub counts_by : List Bool → List ℕ → List ℕ → List ℕ
counts_by is_right lefts rights = map (count_by is_right lefts rights) (range_with_len 0 (length is_right))
