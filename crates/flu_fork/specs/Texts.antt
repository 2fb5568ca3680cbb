-- THE TEXTS of a set of itags: what the fold emits for their counted events, each event's once.
use Rattle.std.specs.Prelude.{◌≡◌, ◌≢◌, ℕ, ◌+◌, ◌<◌, Bool, true, false, ◌&&◌, List, [], ◌∷◌, ◌++◌, length, slice_index}
use Rattle.std.specs.List.{filter, flat_map}
use Rattle.std.specs.List.Sorted.{IsPermutation}
use Rattle.flu_model.specs.declared.events.Out.{Out}
use Rattle.flu_model.specs.declared.jobs.Program.{Program}
use Rattle.flu_model.specs.Contents.{Contents}
use Rattle.flu_model.specs.Folding.{outputs_with, final_state, final_outputs}
use Rattle.flu_model.specs.Itags.{count_of_itags}
use Rattle.flu_model.specs.Updates.{effect_of}
use Rattle.flu_laws.specs.Spans.{Moment, is_below}
use Rattle.flu_fork.specs.Settings.{Setting, IsSetting, events_at, moments}
use Rattle.flu_fork.specs.Classes.{Itags, below}
use Rattle.flu_fork.specs.Fitting.{Fits}

-- the outputs of a moment's event in the fold
abbrev pub outputs_then : Program → Moment → List Out
outputs_then p m = outputs_with p m.event (effect_of p m.before m.event).texts

-- the event is of an itag of the set, and below the counts
abbrev pub is_counted : Itags → List ℕ → Moment → Bool
is_counted set upto m = set m.event.itag.0 && is_below upto m

-- the outputs of the counted events of a set of itags, in the order of the fold
abbrev pub texts_of : Setting → Itags → List ℕ → List Out
texts_of k set upto = flat_map (outputs_then k.program) (filter (is_counted set upto) (moments k))

-- these outputs are those of the counted events of the set, each event's once
unfoldable pub HasTexts : Setting → Itags → List ℕ → List Out → Type 0
HasTexts k set upto outs = IsPermutation (texts_of k set upto) outs

-- all events of the itags of the set are counted
abbrev pub IsComplete : Setting → Itags → List ℕ → Type 0
IsComplete k set upto = (i : ℕ) → set i ≡ true → slice_index upto i ≡ length (events_at k i)

-- ---- the laws

-- no event is counted: no outputs
abbrev pub NoTexts : Type 0
NoTexts = (k : Setting) (set : Itags) (upto : List ℕ) → ((i : ℕ) → set i ≡ true → slice_index upto i ≡ 0) → HasTexts k set upto []

-- only the counts of the set's itags matter
abbrev pub TextsAreOfTheSet : Type 0
TextsAreOfTheSet =
    (k : Setting) (set : Itags) (upto more : List ℕ) (outs : List Out) → ((i : ℕ) → set i ≡ true → slice_index more i ≡ slice_index upto i)
    → HasTexts k set upto outs → HasTexts k set more outs

-- the event of m is counted, and nothing else
pub record CountsMoment (m : Moment) (upto more : List ℕ) : Type 0 where
  pub was : slice_index upto m.event.itag.0 ≡ m.index
  pub is : slice_index more m.event.itag.0 ≡ m.index + 1
  pub rest : (j : ℕ) → j ≢ m.event.itag.0 → slice_index more j ≡ slice_index upto j

-- THEY GROW by an event's outputs when it is counted
abbrev pub TextsGrow : Type 0
TextsGrow =
    (k : Setting) (set : Itags) (before after : List Moment) (m : Moment) (upto more : List ℕ) (outs : List Out)
    → IsSetting k → moments k ≡ before ++ m ∷ after → set m.event.itag.0 ≡ true → CountsMoment m upto more
    → HasTexts k set upto outs → HasTexts k set more (outs ++ outputs_then k.program m)

-- an itag of the whole set is in exactly one of three
pub data InOneOf (whole a b c : Bool) : Type 0 where
  InNone : whole ≡ false → a ≡ false → b ≡ false → c ≡ false → InOneOf whole a b c
  InFirst : whole ≡ true → a ≡ true → b ≡ false → c ≡ false → InOneOf whole a b c
  InSecond : whole ≡ true → a ≡ false → b ≡ true → c ≡ false → InOneOf whole a b c
  InThird : whole ≡ true → a ≡ false → b ≡ false → c ≡ true → InOneOf whole a b c

-- THREE SETS: where each itag of a set is in exactly one of three, its outputs are those of the three, one after another
abbrev pub TextsOfThree : Type 0
TextsOfThree =
    (k : Setting) (whole a b c : Itags) (upto : List ℕ) (first second third : List Out)
    → IsSetting k → ((i : ℕ) → i < count_of_itags k.program → InOneOf (whole i) (a i) (b i) (c i))
    → HasTexts k a upto first → HasTexts k b upto second → HasTexts k c upto third → HasTexts k whole upto ((first ++ second) ++ third)

-- THE END: complete at the root, they are the fold's outputs
abbrev pub TextsEnd : Type 0
TextsEnd =
    (k : Setting) (upto : List ℕ) (outs : List Out)
    → IsSetting k → IsComplete k (below k.program k.nodes 0) upto → HasTexts k (below k.program k.nodes 0) upto outs
    → IsPermutation (final_outputs k.program k.opening k.lists) outs

-- and what fits the root with complete counts holds the final state
abbrev pub StatesEnd : Type 0
StatesEnd =
    (k : Setting) (s : Contents) (since upto : List ℕ)
    → IsSetting k → Fits k 0 s since upto → IsComplete k (below k.program k.nodes 0) upto → s ≡ final_state k.program k.opening k.lists

-- the fold's outputs are those of its moments, one after another
abbrev pub OutputsAreOfMoments : Type 0
OutputsAreOfMoments = (k : Setting) → final_outputs k.program k.opening k.lists ≡ flat_map (outputs_then k.program) (moments k)
