-- FITS: what a lot is at a node, from the streams and two lists of counts alone.
use Rattle.std.specs.Prelude.{◌≡◌, ℕ, ◌≤◌, true, List, ◌∷◌, ◌++◌, length, slice_index}
use Rattle.std.specs.List.{AllByRecursion}
use Rattle.flu_model.specs.declared.jobs.Program.{Program}
use Rattle.flu_model.specs.Contents.{Contents}
use Rattle.flu_model.specs.Itags.{count_of_itags}
use Rattle.flu_laws.specs.Spans.{Moment, is_below, AreAtMost}
use Rattle.flu_laws.specs.Lots.{CellsFit, depends_on}
use Rattle.flu_fork.specs.Settings.{Setting, events_at, moments}
use Rattle.flu_fork.specs.Classes.{is_base, is_away}

-- for any two dependent itags, the events of both below the counts are a prefix, in event order, of the events of both: with an event, all earlier ones
-- on which its tag depends are below the counts
abbrev pub IsPrefix : Program → List Moment → List ℕ → Type 0
IsPrefix p ms upto =
    (before after : List Moment) (m : Moment) → ms ≡ before ++ m ∷ after → is_below upto m ≡ true
    → AllByRecursion (λ q. depends_on p m q ≡ true → is_below upto q ≡ true) before

-- a state with two lists of counts, by itag, fits a node
pub record Fits (k : Setting) (w : ℕ) (s : Contents) (since upto : List ℕ) : Type 0 where
  pub since_each : length since ≡ count_of_itags k.program
  pub upto_each : length upto ≡ count_of_itags k.program
  pub since_first : AreAtMost since upto
  pub there : (i : ℕ) → slice_index upto i ≤ length (events_at k i)
  pub prefix : IsPrefix k.program (moments k) upto
  pub cells : CellsFit k.program (moments k) k.opening (is_base k.program k.nodes w) (is_away k.program k.nodes w) s since upto
