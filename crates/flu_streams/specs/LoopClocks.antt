-- The span of the rows that were read, by which the ticks of clocks are found.
use Rattle.std.specs.Prelude.{◌≡◌, ℕ, suc, ◌-◌, ◌/◌, ◌<◌, ◌≤◌, min, max, Option, Some, None, List, [], ◌∷◌, length, take, slice_get, ⊤}
use Rattle.std.specs.List.{filter}
use Rattle.flu_lemmas.specs.Elements.{AtEach}
use Rattle.flu_model.specs.declared.jobs.Source.{Source}
use Rattle.flu_model.specs.declared.jobs.Program.{Program}
use Rattle.flu_model.specs.Moments.{limit_of_times}
use Rattle.flu_moments.specs.Clocks.{IsSpan}
use Rattle.flu_moments.specs.Moments.{moment}
use Rattle.flu_streams.specs.declared.border.Border.{Border}
use Rattle.flu_streams.specs.declared.border.Border.TheVariants.{At, Closed}
use Rattle.flu_streams.specs.declared.clocks.Span.{Span}
use Rattle.flu_streams.specs.declared.inlet.Inlet.{Inlet}
use Rattle.flu_streams.specs.Clocks.{Declared, ticks_of}
use Rattle.flu_streams.specs.Rounds.{is_within}

-- rows that stand there have this span; where there are none it is none
abbrev pub HasSpan : Option Span → List ℕ → Type 0
HasSpan None ranks = ranks ≡ []
HasSpan (Some span) ranks = IsSpan span.first span.last ranks

-- the first and the last of them, which tell all ticks
abbrev pub ranks_in : Option Span → List ℕ
ranks_in None = []
ranks_in (Some span) = span.first ∷ span.last ∷ []

-- the times of the rows are below this one
abbrev pub IsEarly : ℕ → ℕ → Option Span → Type 0
IsEarly sources end span = (s : Span) → span ≡ Some s → (s.first ≤ s.last) × (s.last / sources < end)

-- a span with the rows of one more source, from the first and to the last of these ranks
abbrev pub span_to : Option Span → ℕ → ℕ → Option Span
span_to None low high = Some (record { first = low; last = high })
span_to (Some span) low high = Some (record { first = min span.first low; last = max span.last high })

abbrev pub span_with : ℕ → ℕ → Option Span → Option ℕ → Option ℕ → Option Span
span_with sources number span None last = span
span_with sources number span (Some first) None = span
span_with sources number span (Some first) (Some last) = span_to span (moment sources 1 first number 0) (moment sources 1 last number 0)

-- with those of the sources from this number on, of which this is held
abbrev pub span_from : ℕ → ℕ → Option Span → List Inlet → Option Span
span_from sources number span [] = span
span_from sources number span (h ∷ inlets) = span_from sources (suc number) (span_with sources number span h.first h.last) inlets

abbrev pub span_of : Program → List Inlet → Option Span
span_of p inlets = span_from (length p.sources) 0 None inlets

-- ---- rounds
-- the ticks of a source above one border and up to another, among rows with this span
abbrev pub ticks_in_span : Program → Option ℕ → Option Span → Border → Declared → List ℕ
ticks_in_span p above span end e = filter (is_within above end) (ticks_of p (ranks_in span) e)

-- the one with which a round above a border is full, if there are so many
abbrev pub last_in_span : Program → ℕ → Option ℕ → Option Span → Declared → Option ℕ
last_in_span p rows above span e = slice_get (ticks_in_span p above span Closed e) (rows - 1)

-- a border is at most the last tick of each clock
abbrev pub IsAtMostLast : Program → ℕ → Option ℕ → Option Span → Border → Type 0
IsAtMostLast p rows above span (At t) = AtEach (λ i s. (last : ℕ) → last_in_span p rows above span (take i p.sources, s) ≡ Some last → t ≤ last) p.sources
IsAtMostLast p rows above span Closed = AtEach (λ i s. last_in_span p rows above span (take i p.sources, s) ≡ None) p.sources

-- a border is not above another
abbrev pub IsNotAbove : Border → Border → Type 0
IsNotAbove Closed end = end ≡ Closed
IsNotAbove (At t) (At u) = t ≤ u
IsNotAbove (At t) Closed = ⊤

-- where a round ends: at this border, or before it with the last tick of a clock, which has moments
pub data EndsByTicks (p : Program) (rows : ℕ) (above : Option ℕ) (span : Option Span) (end border : Border) : Type 0 where
  Stays : border ≡ end → EndsByTicks p rows above span end border
  Lowers : (i : ℕ) (s : Source) (t : ℕ) → slice_get p.sources i ≡ Some s → last_in_span p rows above span (take i p.sources, s) ≡ Some t
      → t < limit_of_times p → border ≡ At t → EndsByTicks p rows above span end border

pub record IsByTicks (p : Program) (rows : ℕ) (above : Option ℕ) (span : Option Span) (end border : Border) : Type 0 where
  pub below : IsNotAbove border end
  pub most : IsAtMostLast p rows above span border
  pub ends : EndsByTicks p rows above span end border

-- no source has more ticks than this many
abbrev pub FewTicks : Program → ℕ → Option ℕ → Option Span → Border → Type 0
FewTicks p most above span end = AtEach (λ i s. length (ticks_in_span p above span end (take i p.sources, s)) ≤ most) p.sources
