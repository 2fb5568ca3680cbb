-- PLACES: where the events of the streams are in the fold.
use Rattle.std.specs.Prelude.{◌≡◌, ◌<◌, ℕ, true, List, ◌∷◌, ◌++◌}
use Rattle.std.specs.List.{AllByRecursion}
use Rattle.flu_model.specs.declared.events.Event.{Event}
use Rattle.flu_model.specs.Merging.{is_before}
use Rattle.flu_model.specs.Itags.{count_of_itags}
use Rattle.flu_laws.specs.Spans.{Moment}
use Rattle.flu_fork.specs.Settings.{Setting, IsSetting, moments}
use Rattle.flu_fork.specs.Streams.{IsEventAt}

-- the one moment of event n of itag i: before it are exactly the events that are before it in event order
pub record HasMoment (k : Setting) (i n : ℕ) (x : Event) : Type 0 where
  pub front : List Moment
  pub back : List Moment
  pub moment : Moment
  pub stands : moments k ≡ front ++ moment ∷ back
  pub event : moment.event ≡ x
  pub index : moment.index ≡ n
  pub itag : x.itag.0 ≡ i
  pub earlier : AllByRecursion (λ q. is_before q.event x ≡ true) front
  pub later : AllByRecursion (λ q. is_before x q.event ≡ true) back
  pub alone : (before after : List Moment) (m : Moment) → moments k ≡ before ++ m ∷ after → m.event.itag.0 ≡ i → m.index ≡ n
      → (before ≡ front) × ((m ≡ moment) × (after ≡ back))

-- each event of the streams has its moment
abbrev pub EventsHaveMoments : Type 0
EventsHaveMoments = (k : Setting) (i n : ℕ) (x : Event) → IsSetting k → IsEventAt k i n x → HasMoment k i n x

-- and each moment is that of an event of the streams
abbrev pub MomentsAreEvents : Type 0
MomentsAreEvents =
    (k : Setting) (before after : List Moment) (m : Moment) → IsSetting k → moments k ≡ before ++ m ∷ after → IsEventAt k m.event.itag.0 m.index m.event

-- an itag with an event is one of the job
abbrev pub EventsAreKnown : Type 0
EventsAreKnown = (k : Setting) (i n : ℕ) (x : Event) → IsSetting k → IsEventAt k i n x → i < count_of_itags k.program
