-- How cells and templates are written in a job text.
use Rattle.std.specs.Prelude.{ℕ, Option, Some, None, List, [], ◌++◌, slice_get, codes}
use Rattle.std.specs.Fmt.{decimal}
use Rattle.std.specs.List.{flat_map}
use Rattle.flu_model.specs.declared.jobs.Family.{Family}
use Rattle.flu_model.specs.declared.jobs.At.{At}
use Rattle.flu_model.specs.declared.jobs.At.TheVariants.{Alone, OwnKey, OwnItem, Fixed}
use Rattle.flu_model.specs.declared.jobs.CellRef.{CellRef}
use Rattle.flu_model.specs.declared.jobs.Piece.{Piece}
use Rattle.flu_model.specs.declared.jobs.Piece.TheVariants.{Plain, Value, Key, Item, Time, Read, CellValue, FamilyCell}

abbrev pub family_name : Option Family → List ℕ
family_name None = []
family_name (Some f) = f.name

-- nothing, `[key]`, `[item]`, or a number in brackets
abbrev pub written_key : At → List ℕ
written_key Alone = []
written_key OwnKey = codes "[key]"
written_key OwnItem = codes "[item]"
written_key (Fixed k) = codes "[" ++ decimal k ++ codes "]"

-- a cell as an action names it
abbrev pub written_cell : List Family → CellRef → List ℕ
written_cell families r = family_name (slice_get families r.family) ++ written_key r.at

-- a piece of a template: plain bytes, or a field in braces
abbrev pub written_piece : List Family → Piece → List ℕ
written_piece families (Plain t) = t
written_piece families Value = codes "{value}"
written_piece families Key = codes "{key}"
written_piece families Item = codes "{item}"
written_piece families Time = codes "{time}"
written_piece families (Read r) = codes "{" ++ written_cell families r ++ codes "}"
written_piece families CellValue = codes "{cell}"
written_piece families (FamilyCell f) = codes "{" ++ family_name (slice_get families f) ++ codes "}"

-- what is between the quotes
abbrev pub written_template : List Family → List Piece → List ℕ
written_template families pieces = flat_map (written_piece families) pieces
