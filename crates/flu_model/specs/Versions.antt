-- What the versions of the language have: items, division, families that are cleared whole, fields of a flush that name a family, and clocks
-- came with version 3. Each is a test, which computes.
use Rattle.std.specs.Prelude.{ℕ, ◌^◌, nat_le, Bool, true, false, not, ◌==◌, ◌&&◌, ◌||◌, Option, Some, None, List, codes, if◌then◌else◌}
use Rattle.std.specs.List.{list_all, list_any}
use Rattle.flu_calendar.specs.declared.unit.Unit.{Unit}
use Rattle.flu_model.specs.declared.jobs.Family.{Family}
use Rattle.flu_model.specs.declared.jobs.At.{At}
use Rattle.flu_model.specs.declared.jobs.At.TheVariants.{Alone, OwnKey, OwnItem, Fixed}
use Rattle.flu_model.specs.declared.jobs.Op.{Op}
use Rattle.flu_model.specs.declared.jobs.Op.TheVariants.{Plus, Minus, Times, Divide, Remainder, Less, LessEq, More, MoreEq, Same, Differs, Both, Either}
use Rattle.flu_model.specs.declared.jobs.Expr.{Expr}
use Rattle.flu_model.specs.declared.jobs.Expr.TheVariants.{Lit, Value, Key, Item, Time, Read, Has, Neg', Not', Two'}
use Rattle.flu_model.specs.declared.jobs.Piece.{Piece}
use Rattle.flu_model.specs.declared.jobs.Piece.TheVariants.{Plain, Value as ValueField, Key as KeyField, Item as ItemField, Time as TimeField}
use Rattle.flu_model.specs.declared.jobs.Piece.TheVariants.{Read as ReadField, CellValue, FamilyCell}
use Rattle.flu_model.specs.declared.jobs.Act.{Act}
use Rattle.flu_model.specs.declared.jobs.Act.TheVariants.{Add, Raise, Set, Clear, ClearFamily, Emit, Flush}
use Rattle.flu_model.specs.declared.jobs.Action.{Action}
use Rattle.flu_model.specs.declared.jobs.Kind.{Kind}
use Rattle.flu_model.specs.declared.jobs.Source.{Source}
use Rattle.flu_model.specs.Rules.{is_same_text, is_clock}

-- ---- what asks for an item

abbrev pub at_takes_item : At → Bool
at_takes_item Alone = false
at_takes_item OwnKey = false
at_takes_item OwnItem = true
at_takes_item (Fixed k) = false

abbrev pub expr_takes_item : Expr → Bool
expr_takes_item (Lit n) = false
expr_takes_item Value = false
expr_takes_item Key = false
expr_takes_item Item = true
expr_takes_item Time = false
expr_takes_item (Read r) = at_takes_item r.at
expr_takes_item (Has r) = at_takes_item r.at
expr_takes_item (Neg' p e) = expr_takes_item e
expr_takes_item (Not' p e) = expr_takes_item e
expr_takes_item (Two' op p a q b) = expr_takes_item a || expr_takes_item b

abbrev pub piece_takes_item : Piece → Bool
piece_takes_item (Plain t) = false
piece_takes_item ValueField = false
piece_takes_item KeyField = false
piece_takes_item ItemField = true
piece_takes_item TimeField = false
piece_takes_item (ReadField r) = at_takes_item r.at
piece_takes_item CellValue = false
piece_takes_item (FamilyCell f) = false

abbrev pub act_takes_item : Act → Bool
act_takes_item (Add r e) = at_takes_item r.at || expr_takes_item e
act_takes_item (Raise r e) = at_takes_item r.at || expr_takes_item e
act_takes_item (Set r e) = at_takes_item r.at || expr_takes_item e
act_takes_item (Clear r) = at_takes_item r.at
act_takes_item (ClearFamily f) = false
act_takes_item (Emit ps) = list_any piece_takes_item ps
act_takes_item (Flush f ps) = list_any piece_takes_item ps

abbrev pub guard_takes_item : Option Expr → Bool
guard_takes_item None = false
guard_takes_item (Some e) = expr_takes_item e

abbrev pub action_takes_item : Action → Bool
action_takes_item a = act_takes_item a.act || guard_takes_item a.guard

-- only the actions of a kind that has items ask for one
abbrev pub items_fit : Kind → Bool
items_fit k = k.has_item || not (list_any action_takes_item k.actions)

-- ---- what else came with version 3

abbrev pub op_divides : Op → Bool
op_divides Plus = false
op_divides Minus = false
op_divides Times = false
op_divides Divide = true
op_divides Remainder = true
op_divides Less = false
op_divides LessEq = false
op_divides More = false
op_divides MoreEq = false
op_divides Same = false
op_divides Differs = false
op_divides Both = false
op_divides Either = false

abbrev pub expr_divides : Expr → Bool
expr_divides (Lit n) = false
expr_divides Value = false
expr_divides Key = false
expr_divides Item = false
expr_divides Time = false
expr_divides (Read r) = false
expr_divides (Has r) = false
expr_divides (Neg' p e) = expr_divides e
expr_divides (Not' p e) = expr_divides e
expr_divides (Two' op p a q b) = op_divides op || (expr_divides a || expr_divides b)

abbrev pub piece_names_family : Piece → Bool
piece_names_family (Plain t) = false
piece_names_family ValueField = false
piece_names_family KeyField = false
piece_names_family ItemField = false
piece_names_family TimeField = false
piece_names_family (ReadField r) = false
piece_names_family CellValue = false
piece_names_family (FamilyCell f) = true

abbrev pub act_is_newer : Act → Bool
act_is_newer (Add r e) = expr_divides e
act_is_newer (Raise r e) = expr_divides e
act_is_newer (Set r e) = expr_divides e
act_is_newer (Clear r) = false
act_is_newer (ClearFamily f) = true
act_is_newer (Emit ps) = false
act_is_newer (Flush f ps) = list_any piece_names_family ps

abbrev pub guard_divides : Option Expr → Bool
guard_divides None = false
guard_divides (Some e) = expr_divides e

abbrev pub action_is_newer : Action → Bool
action_is_newer a = act_is_newer a.act || guard_divides a.guard

-- ---- by version

-- a kind as the versions before version 3 have it
abbrev pub is_older_kind : Kind → Bool
is_older_kind k = not k.has_item && not (list_any action_is_newer k.actions)

-- in version 3 `item` is the event's item wherever a cell's name may stand, so no family has this name
abbrev pub is_named_item : Family → Bool
is_named_item f = is_same_text f.name (codes "item")

abbrev pub fit_version : ℕ → List Family → List Kind → Bool
fit_version version families kinds =
    list_all items_fit kinds && (if version == 3 then not (list_any is_named_item families) else list_all is_older_kind kinds)

-- several rows of a source at one time came with version 3
abbrev pub ties_fit : ℕ → ℕ → Bool
ties_fit version ties = nat_le 1 ties && nat_le ties (2 ^ 31) && (version == 3 || ties == 1)

-- times as text came with version 3
abbrev pub iso_fits : ℕ → Option Unit → Bool
iso_fits version None = true
iso_fits version (Some unit) = version == 3

-- clocks came with version 3
abbrev pub clocks_fit : ℕ → List Source → Bool
clocks_fit version sources = (version == 3) || not (list_any is_clock sources)
