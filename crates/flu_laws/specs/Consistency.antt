-- CONSISTENCY: the laws by which a job's state may be kept in parts.
use Rattle.std.specs.Prelude.{◌≡◌, ◌<◌, Bool, true, false, ◌||◌, None, if◌then◌else◌, IsFalse}
use Rattle.flu_model.specs.declared.events.Cell.{Cell}
use Rattle.flu_model.specs.declared.events.Event.{Event}
use Rattle.flu_model.specs.declared.jobs.Program.{Program}
use Rattle.flu_model.specs.Contents.{Contents, join}
use Rattle.flu_model.specs.Itags.{count_of_itags, tag_of_itag, is_dependent}
use Rattle.flu_model.specs.Updates.{effect_of}
use Rattle.flu_model.specs.Sorts.{IsStateOf}
use Rattle.flu_laws.specs.Uses.{needs, mode_at}

-- the cells that the event's tag needs are neutral in the state
abbrev pub IsNeutralAtNeeds : Program → Event → Contents → Type 0
IsNeutralAtNeeds p x s = (c : Cell) → needs (mode_at p x c) ≡ true → s c ≡ None

-- an update of the left part before a join is the update after it, where the right part is neutral at the cells that the event needs
abbrev pub UpdatesLeft : Program → Type 0
UpdatesLeft p =
    (s t : Contents) (x : Event)
    → IsStateOf p.families s → IsStateOf p.families t → x.itag.0 < count_of_itags p → IsNeutralAtNeeds p x t
    → effect_of p (join s t) x ≡ record { cells = join (effect_of p s x).cells t; texts = (effect_of p s x).texts }

-- an update of the right part before a join is the update after it, where the left part is neutral at the cells that the event needs
abbrev pub UpdatesRight : Program → Type 0
UpdatesRight p =
    (s t : Contents) (x : Event)
    → IsStateOf p.families s → IsStateOf p.families t → x.itag.0 < count_of_itags p → IsNeutralAtNeeds p x s
    → effect_of p (join s t) x ≡ record { cells = join s (effect_of p t x).cells; texts = (effect_of p t x).texts }

-- both orders of two events of independent tags give the same state, and each event has the same texts in both
abbrev pub Commutes : Program → Type 0
Commutes p =
    (s : Contents) (x y : Event)
    → IsStateOf p.families s → x.itag.0 < count_of_itags p → y.itag.0 < count_of_itags p
    → IsFalse (is_dependent p (tag_of_itag p x.itag) (tag_of_itag p y.itag))
    → ((effect_of p (effect_of p s x).cells y).cells ≡ (effect_of p (effect_of p s y).cells x).cells)
    × ((effect_of p (effect_of p s x).cells y).texts ≡ (effect_of p s y).texts)
    × ((effect_of p (effect_of p s y).cells x).texts ≡ (effect_of p s x).texts)

-- a state on some cells alone, and without them
abbrev pub within : (Cell → Bool) → Contents → Contents
within w s = λ c. if w c then s c else None

abbrev pub outside : (Cell → Bool) → Contents → Contents
outside w s = λ c. if w c then None else s c

abbrev pub in_either : (Cell → Bool) → (Cell → Bool) → Cell → Bool
in_either w v c = w c || v c

-- no cell is in both sets
abbrev pub AreApart : (Cell → Bool) → (Cell → Bool) → Type 0
AreApart w v = (c : Cell) → w c ≡ true → v c ≡ false

-- of two sets without a common cell the first is moved from a state to another part, and the second is copied to it: without the copies the parts
-- join to the state
abbrev pub JoinsSplits : Type 0
JoinsSplits =
    (s : Contents) (w v : Cell → Bool) → AreApart w v
    → join (outside w s) (outside v (within (in_either w v) s)) ≡ s
