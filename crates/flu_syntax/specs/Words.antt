-- The names, the texts and the numbers that a job keeps, as signs: what is left of its spelling without the words that are the
-- same in every job.
use Rattle.std.specs.Prelude.{List, [], ◌++◌, Option, Some, None}
use Rattle.std.specs.List.{flat_map}
use Rattle.flu_text.specs.declared.written.WrittenNumber.{WrittenNumber}
use Rattle.flu_syntax.specs.declared.tree.WrittenKey.{WrittenKey}
use Rattle.flu_syntax.specs.declared.tree.WrittenKey.TheVariants as key
use Rattle.flu_syntax.specs.declared.tree.WrittenRef.{WrittenRef}
use Rattle.flu_text.specs.declared.written.WrittenKeys.{WrittenKeys}
use Rattle.flu_text.specs.declared.written.WrittenKeys.TheVariants as keys
use Rattle.flu_syntax.specs.declared.tree.WrittenTag.{WrittenTag}
use Rattle.flu_syntax.specs.declared.tree.WrittenBy.{WrittenBy}
use Rattle.flu_syntax.specs.declared.tree.WrittenCells.{WrittenCells}
use Rattle.flu_syntax.specs.declared.tree.WrittenCells.TheVariants as cells
use Rattle.flu_syntax.specs.declared.tree.WrittenItem.{WrittenItem}
use Rattle.flu_syntax.specs.declared.tree.WrittenTies.{WrittenTies}
use Rattle.flu_syntax.specs.declared.tree.WrittenUnit.{WrittenUnit}
use Rattle.flu_syntax.specs.declared.tree.WrittenHead.{WrittenHead}
use Rattle.flu_syntax.specs.Tree.{Tree, NumberTree, ValueTree, KeyTree, TimeTree, ReadTree, HasTree, ParenTree, NegTree, NotTree, TwoTree, Deed, Writes, Clears}
use Rattle.flu_syntax.specs.Tree.{Emits, Flushes, Action, Declaration, Cell, Tag, Names, Depends, On, Source, Clock, Job}
use Rattle.flu_text.specs.Signs.{Sign}
use Rattle.flu_text.specs.Signs.{name, text, number}

-- those of a cell: its family's name, and the number in its brackets, if there is one
abbrev pub key_words : WrittenKey → List Sign
key_words key.Alone = []
key_words (key.OwnKey at) = []
key_words (key.OwnItem at) = []
key_words (key.Fixed n) = number n

abbrev pub cell_words : WrittenRef → List Sign
cell_words cell = name cell.family ++ key_words cell.key

-- those of an expression
abbrev pub tree_words : Tree → List Sign
tree_words (NumberTree n) = number n
tree_words (ValueTree at) = []
tree_words (KeyTree at) = []
tree_words (TimeTree at) = []
tree_words (ReadTree cell) = cell_words cell
tree_words (HasTree at cell) = cell_words cell
tree_words (ParenTree at inner) = tree_words inner
tree_words (NegTree at inner) = tree_words inner
tree_words (NotTree at inner) = tree_words inner
tree_words (TwoTree o at left right) = tree_words left ++ tree_words right

-- those of an action: of what it does, and of its guard
abbrev pub deed_words : Deed → List Sign
deed_words (Writes verb cell amount) = cell_words cell ++ tree_words amount
deed_words (Clears cell) = cell_words cell
deed_words (Emits template) = text template
deed_words (Flushes family template) = name family ++ text template

abbrev pub guard_words : Option Tree → List Sign
guard_words None = []
guard_words (Some guard) = tree_words guard

abbrev pub action_words : Action → List Sign
action_words a = deed_words a.deed ++ guard_words a.guard

-- those of tags that a source lists: their kind's name, and the numbers in their brackets
abbrev pub keys_words : WrittenKeys → List Sign
keys_words keys.Alone = []
keys_words (keys.One n) = number n
keys_words (keys.Range low high) = number low ++ number high

abbrev pub tag_words : WrittenTag → List Sign
tag_words t = name t.kind ++ keys_words t.keys

-- the one of a rate or a slack, if one is written
abbrev pub number_words : Option WrittenNumber → List Sign
number_words None = []
number_words (Some n) = number n

-- the one of the list that names keys or items, if one does
abbrev pub list_words : Option WrittenBy → List Sign
list_words None = []
list_words (Some by) = name by.list

abbrev pub cells_words : WrittenCells → List Sign
cells_words cells.Alone = []
cells_words cells.Keyed = []
cells_words (cells.By by) = name by.list

abbrev pub item_words : Option WrittenItem → List Sign
item_words None = []
item_words (Some item) = list_words item.by

-- those of a declaration
abbrev pub declaration_words : Declaration → List Sign
declaration_words (Cell n cells sort) = name n ++ cells_words cells
declaration_words (Tag n keyed item has_value) = name n ++ item_words item
declaration_words (Names at n texts) = name n ++ flat_map text texts
declaration_words (Depends a b relation) = name a ++ name b
declaration_words (On kind actions) = name kind ++ flat_map action_words actions
declaration_words (Source n file rate slack tags) = name n ++ text file ++ number_words rate ++ number_words slack ++ flat_map tag_words tags
declaration_words (Clock at n every rate tag) = name n ++ number every ++ number_words rate ++ name tag

-- those of a head: the number of the version, the one of the rows at one time and the name of the unit, if they are written
abbrev pub ties_words : Option WrittenTies → List Sign
ties_words None = []
ties_words (Some ties) = number ties.number

abbrev pub unit_words : Option WrittenUnit → List Sign
unit_words None = []
unit_words (Some unit) = name unit.name

abbrev pub head_words : Option WrittenHead → List Sign
head_words None = []
head_words (Some head) = number head.version ++ ties_words head.ties ++ unit_words head.iso

-- those of a whole job
abbrev pub job_words : Job → List Sign
job_words job = head_words job.head ++ flat_map declaration_words job.declarations
