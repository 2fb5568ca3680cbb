-- Items that rows name: the kinds whose items a list names.
use Rattle.std.specs.Prelude.{ℕ, List, Option, option_map, option_and_then}
use Rattle.std.specs.List.{filter_map, find}
use Rattle.flu_model.specs.Erasure.{PlainKind}
use Rattle.flu_model.specs.Numberings.{Numbering, list_at, number_of}
use Rattle.flu_model.specs.Rules.{is_same_text}
use Rattle.flu_rows.specs.Fields.{item_in}

-- the lists that name the items of some kinds, each behind the name of its kind
abbrev pub item_lists : List Numbering → List PlainKind → List (List ℕ × Numbering)
item_lists lists kinds = filter_map (λ (k : PlainKind). option_map (λ l. (k.name, l)) (list_at lists k.list)) kinds

-- the list of the first kind of this name, if there is one
abbrev pub items_named : List (List ℕ × Numbering) → List ℕ → Option Numbering
items_named lists name = option_map (λ e. e.1) (find (λ e. is_same_text e.0 name) lists)

-- the item that a text names, where the list has it
abbrev pub named_item : Numbering → List ℕ → Option ℕ
named_item list text = option_and_then item_in (number_of list text)
