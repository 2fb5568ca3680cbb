-- All that the laws of lots and of the worker tree ask of a job, in terms of what events need, write and mix in.
use Rattle.std.specs.Prelude.{◌≡◌, ◌↔◌, true, false, Option, None, IsTrue}
use Rattle.flu_model.specs.declared.events.Cell.{Cell}
use Rattle.flu_model.specs.declared.events.Event.{Event}
use Rattle.flu_model.specs.declared.events.Tag.{Tag}
use Rattle.flu_model.specs.declared.events.Worth.{Worth}
use Rattle.flu_model.specs.declared.jobs.Program.{Program}
use Rattle.flu_model.specs.Contents.{Contents, joined_worth}
use Rattle.flu_model.specs.Itags.{is_dependent}
use Rattle.flu_model.specs.Updates.{effect_of}
use Rattle.flu_model.specs.Modes.{mode_of, IsInUniverse, IsAccepted}
use Rattle.flu_model.specs.Sorts.{MayHold, IsStateOf}
use Rattle.flu_laws.specs.Changes.{applied, change_of}
use Rattle.flu_laws.specs.Uses.{needs, writes, mixes, mode_at, AgreeOnNeeds}

-- a cell that one tag of the job needs and another writes makes them dependent
abbrev pub UsesAreDependent : Program → Type 0
UsesAreDependent p =
    (a b : Tag) (c : Cell) → IsInUniverse p a → IsInUniverse p b
    → needs (mode_of p a c) ≡ true → writes (mode_of p b c) ≡ true → IsTrue (is_dependent p a b)

-- dependency goes both ways
abbrev pub DependencyTurns : Type 0
DependencyTurns = (p : Program) (a b : Tag) → is_dependent p a b ≡ is_dependent p b a

-- acceptance in one sentence
abbrev pub AcceptanceByUses : Type 0
AcceptanceByUses = (p : Program) → IsAccepted p ↔ UsesAreDependent p

-- what an event mixes into a cell: its change of a neutral one
abbrev pub amount_of : Program → Contents → Event → Cell → Option Worth
amount_of p s x c = applied (change_of p s x c) None

-- a job whose updates keep to their modes, and whose cells mix as commutative groups do wherever a tag mixes into them
pub record IsLawful (p : Program) : Type 0 where
  pub dependent_turns : (a b : Tag) → is_dependent p a b ≡ is_dependent p b a
  pub accepted : UsesAreDependent p
  pub mix_left : (w : Option Worth) → joined_worth None w ≡ w
  pub mix_right : (w : Option Worth) → joined_worth w None ≡ w
  pub mix_groups : (t : Tag) (c : Cell) (u v w : Option Worth) → mixes (mode_of p t c) ≡ true
      → MayHold p.families c u → MayHold p.families c v → MayHold p.families c w
      → joined_worth (joined_worth u v) w ≡ joined_worth u (joined_worth v w)
  pub mix_turns : (t : Tag) (c : Cell) (u v : Option Worth) → mixes (mode_of p t c) ≡ true
      → MayHold p.families c u → MayHold p.families c v → joined_worth u v ≡ joined_worth v u
  pub mix_holds : (c : Cell) (u v : Option Worth) → MayHold p.families c u → MayHold p.families c v → MayHold p.families c (joined_worth u v)
  pub texts_by_needs : (s t : Contents) (x : Event) → AgreeOnNeeds p x s t → (effect_of p s x).texts ≡ (effect_of p t x).texts
  pub next_by_needs : (s t : Contents) (x : Event) (c : Cell) → AgreeOnNeeds p x s t → needs (mode_at p x c) ≡ true
      → (effect_of p s x).cells c ≡ (effect_of p t x).cells c
  pub amount_by_needs : (s t : Contents) (x : Event) (c : Cell) → AgreeOnNeeds p x s t → amount_of p s x c ≡ amount_of p t x c
  pub amount_holds : (s : Contents) (x : Event) (c : Cell) → mixes (mode_at p x c) ≡ true → MayHold p.families c (amount_of p s x c)
  pub next_mixes : (s : Contents) (x : Event) (c : Cell) → IsStateOf p.families s → mixes (mode_at p x c) ≡ true
      → (effect_of p s x).cells c ≡ joined_worth (s c) (amount_of p s x c)
  pub next_leaves : (s : Contents) (x : Event) (c : Cell) → writes (mode_at p x c) ≡ false → (effect_of p s x).cells c ≡ s c
  pub next_holds : (s : Contents) (x : Event) → IsStateOf p.families s → IsStateOf p.families (effect_of p s x).cells

-- an accepted job is lawful
abbrev pub AcceptedIsLawful : Type 0
AcceptedIsLawful = (p : Program) → IsAccepted p → IsLawful p
