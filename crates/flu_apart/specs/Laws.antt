-- What the events of a node's subtree and the events outside it do to the cells of each class.
use Rattle.std.specs.Prelude.{◌≡◌, ◌≢◌, ◌⊎◌, ℕ, ◌<◌, true, false, List}
use Rattle.flu_model.specs.declared.events.Cell.{Cell}
use Rattle.flu_model.specs.declared.events.Event.{Event}
use Rattle.flu_model.specs.declared.jobs.Program.{Program}
use Rattle.flu_model.specs.declared.modes.Mode.{Mode}
use Rattle.flu_model.specs.declared.modes.Mode.TheVariants.{Add as AddMode, Raise as RaiseMode}
use Rattle.flu_model.specs.declared.plans.Node.{Node}
use Rattle.flu_model.specs.Contents.{Contents, joined_worth}
use Rattle.flu_model.specs.Itags.{count_of_itags}
use Rattle.flu_model.specs.Modes.{uses}
use Rattle.flu_model.specs.Sorts.{IsStateOf}
use Rattle.flu_model.specs.Updates.{effect_of}
use Rattle.flu_laws.specs.Changes.{change_of}
use Rattle.flu_laws.specs.Lawful.{amount_of}
use Rattle.flu_apart.specs.declared.classes.Class.TheVariants.{Kept}
use Rattle.flu_apart.specs.declared.reason.Reason.{Reason}
use Rattle.flu_apart.specs.Apart.{MayBeApart, IsFirstReason}
use Rattle.flu_apart.specs.Classes.{mode_at, inside, is_contributed, class_of}

-- an event of the subtree, and one outside it
pub record IsInside (p : Program) (nodes : List Node) (w : ℕ) (x : Event) : Type 0 where
  pub in_range : x.itag.0 < count_of_itags p
  pub there : inside p nodes w x.itag.0 ≡ true

pub record IsOutside (p : Program) (nodes : List Node) (w : ℕ) (x : Event) : Type 0 where
  pub in_range : x.itag.0 < count_of_itags p
  pub elsewhere : inside p nodes w x.itag.0 ≡ false

-- two states agree on the cells that the subtree keeps, and on all others
abbrev pub AgreeOnKept : Program → List Node → ℕ → Contents → Contents → Type 0
AgreeOnKept p nodes w s t = (c : Cell) → class_of p nodes w c ≡ Kept → s c ≡ t c

abbrev pub AgreeOnOthers : Program → List Node → ℕ → Contents → Contents → Type 0
AgreeOnOthers p nodes w s t = (c : Cell) → class_of p nodes w c ≢ Kept → s c ≡ t c

-- INSIDE: an event of the subtree does nothing to a cell that the subtree does not keep but join an amount to it, which adds to it or
-- raises it; what it emits and what it does to each cell depend on the cells alone that the subtree keeps
pub record Contributes (p : Program) (nodes : List Node) (w : ℕ) : Type 0 where
  pub joins : (s : Contents) (x : Event) (c : Cell) → IsInside p nodes w x → IsStateOf p.families s → class_of p nodes w c ≢ Kept
      → (effect_of p s x).cells c ≡ joined_worth (s c) (amount_of p s x c)
  pub texts : (s t : Contents) (x : Event) → IsInside p nodes w x → AgreeOnKept p nodes w s t → (effect_of p s x).texts ≡ (effect_of p t x).texts
  pub changes : (s t : Contents) (x : Event) (c : Cell) → IsInside p nodes w x → AgreeOnKept p nodes w s t → change_of p s x c ≡ change_of p t x c

-- OUTSIDE: an event outside the subtree leaves the cells that the subtree keeps as they are, and neither what it emits nor what it does
-- to a cell depends on them
pub record LeavesKept (p : Program) (nodes : List Node) (w : ℕ) : Type 0 where
  pub leaves : (s : Contents) (x : Event) (c : Cell) → IsOutside p nodes w x → IsStateOf p.families s → class_of p nodes w c ≡ Kept
      → (effect_of p s x).cells c ≡ s c
  pub texts : (s t : Contents) (x : Event) → IsOutside p nodes w x → AgreeOnOthers p nodes w s t → (effect_of p s x).texts ≡ (effect_of p t x).texts
  pub changes : (s t : Contents) (x : Event) (c : Cell) → IsOutside p nodes w x → AgreeOnOthers p nodes w s t
      → change_of p s x c ≡ change_of p t x c

-- ONE REASON: there is one first reason why a node may not be apart, and none where it may be
pub record HasOneReason (p : Program) (nodes : List Node) (w : ℕ) : Type 0 where
  pub one : (r s : Reason) → IsFirstReason p nodes w r → IsFirstReason p nodes w s → r ≡ s
  pub none : (r : Reason) → MayBeApart p nodes w → IsFirstReason p nodes w r → ⊥

abbrev pub ReasonsAreOne : Type 0
ReasonsAreOne = (p : Program) (nodes : List Node) (w : ℕ) → HasOneReason p nodes w

-- where a node may be apart its subtree contributes
abbrev pub SubtreesContribute : Type 0
SubtreesContribute = (p : Program) (nodes : List Node) (w : ℕ) → MayBeApart p nodes w → Contributes p nodes w

-- and of each node, what its subtree keeps is left alone elsewhere
abbrev pub KeptIsLeft : Type 0
KeptIsLeft = (p : Program) (nodes : List Node) (w : ℕ) → LeavesKept p nodes w

-- all tags of the subtree that use a cell use it in this mode
abbrev pub AllUseIt : Program → List Node → ℕ → Cell → Mode → Type 0
AllUseIt p nodes w c m = (i : ℕ) → i < count_of_itags p → inside p nodes w i ≡ true → uses (mode_at p i c) ≡ true → mode_at p i c ≡ m

-- ONE MODE: the tags of a subtree that contribute to a cell all add to it, or all raise it
abbrev pub ContributedInOneMode : Type 0
ContributedInOneMode =
    (p : Program) (nodes : List Node) (w : ℕ) (c : Cell) → is_contributed p nodes w c ≡ true
    → AllUseIt p nodes w c AddMode ⊎ AllUseIt p nodes w c RaiseMode
