-- Written actions, under a kind.
use Rattle.std.specs.Prelude.{ℕ, Bool, ◌&&◌, if◌then◌else◌, List, [], ◌∷◌, ◌++◌, length, Option, Some, None, Ok}
use Rattle.flu_model.specs.declared.limits.What.TheVariants.{Actions}
use Rattle.flu_model.specs.declared.jobs.Sort.{Sort}
use Rattle.flu_model.specs.declared.jobs.Sort.TheVariants.{Sum, Max, Last}
use Rattle.flu_model.specs.declared.jobs.CellRef.{CellRef}
use Rattle.flu_model.specs.Erasure.{Term, PlainAct, Adding, Raising, Setting, Clearing, ClearingFamily, Emitting, Flushing, PlainAction}
use Rattle.flu_syntax.specs.declared.tokens.Verb.{Verb}
use Rattle.flu_syntax.specs.declared.tokens.Verb.TheVariants as verb
use Rattle.flu_syntax.specs.declared.tree.WrittenKey.{WrittenKey}
use Rattle.flu_syntax.specs.Tree.{Tree, Writes, Clears, Emits, Flushes}
use Rattle.flu_syntax.specs.Tree.{Deed as WrittenDeed, Action as WrittenDo}
use Rattle.flu_parse.specs.declared.faults.JobFault.TheVariants as f
use Rattle.flu_parse.specs.declared.names.FamilyHead.{FamilyHead}
use Rattle.flu_parse.specs.declared.names.KindHead.{KindHead}
use Rattle.flu_parse.specs.Faults.{Found, ◌>>=◌, ◌>>◌, unless, room, each}
use Rattle.flu_parse.specs.Naming.{Naming, is_version_3, family_of}
use Rattle.flu_parse.specs.Cells.{resolved_cell}
use Rattle.flu_parse.specs.Terms.{is_alone, expression_of}
use Rattle.flu_parse.specs.Templates.{template_of}

-- each verb needs a family of its own sort
abbrev pub sort_for : Verb → Sort
sort_for verb.Add = Sum
sort_for verb.Raise = Max
sort_for verb.Set = Last

abbrev pub act_with : Verb → CellRef → Term → PlainAct
act_with verb.Add cell term = Adding cell term
act_with verb.Raise cell term = Raising cell term
act_with verb.Set cell term = Setting cell term

-- in version 3 a keyed family may be cleared whole, by its name without brackets
abbrev pub clears_whole : Naming → FamilyHead → WrittenKey → Bool
clears_whole n family key = is_version_3 n && family.keyed && is_alone key

module _ (text : List ℕ) (n : Naming) (under : KindHead) where
  -- what an action does; a flush needs a keyed family
  unfoldable pub resolved_act : WrittenDeed → Found PlainAct
  resolved_act (Writes verb r e) = do
    cell ← resolved_cell text n under (Some (sort_for verb)) r
    term ← expression_of text n under e
    Ok (act_with verb cell term)
  resolved_act (Clears r) = do
    family ← family_of text n r.family
    if clears_whole n family r.key then Ok (ClearingFamily family.number) else (resolved_cell text n under None r >>= λ cell. Ok (Clearing cell))
  resolved_act (Emits template) = do
    pieces ← template_of text n under None template
    Ok (Emitting pieces)
  resolved_act (Flushes name template) = do
    family ← family_of text n name
    unless family.keyed (f.WrongShape name.from)
    pieces ← template_of text n under (Some family.number) template
    Ok (Flushing family.number pieces)

  unfoldable pub guard_of : Option Tree → Found (Option Term)
  guard_of None = Ok None
  guard_of (Some e) = expression_of text n under e >>= λ t. Ok (Some t)

  unfoldable pub action_of : WrittenDo → Found PlainAction
  action_of a = do
    act ← resolved_act a.deed
    guard ← guard_of a.guard
    Ok (record { act = act; guard = guard })

  -- one more action, of at most 32
  unfoldable pub with_action : List PlainAction → WrittenDo → Found (List PlainAction)
  with_action done a = do
    room Actions 32 (length done)
    action ← action_of a
    Ok (done ++ action ∷ [])

  abbrev pub resolved_actions : List WrittenDo → Found (List PlainAction)
  resolved_actions actions = each with_action [] actions
