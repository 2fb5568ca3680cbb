-- What holds of the demo job and its streams.
use Rattle.std.specs.Prelude.{◌≡◌, ℕ, ◌+◌, ◌/◌, ◌<◌, ◌≤◌, ◌^◌, List, [], ◌∷◌, ◌++◌, map, length}
use Rattle.std.specs.List.{range_with_len}
use Rattle.flu_model.specs.declared.events.Tag.{Tag}
use Rattle.flu_model.specs.declared.jobs.Program.{Program}
use Rattle.flu_model.specs.Listing.{tag}
use Rattle.flu_model.specs.Itags.{itags, tag_and_source}
use Rattle.flu_gen.specs.DemoJob.{IsDemoJob}
use Rattle.flu_gen.specs.DemoStreams.{web_view, app_view, app_update, clock_tick}

-- the itags are what their names say: views of the web, views and updates of the app, and the tick of the clock
pub record HasNamedItags (p : Program) : Type 0 where
  pub all : itags p ≡ map (λ key. (tag 0 key, 0)) (range_with_len 0 10)
      ++ map (λ key. (tag 0 key, 1)) (range_with_len 0 10)
      ++ map (λ key. (tag 1 key, 1)) (range_with_len 0 10)
      ++ (tag 2 0, 2) ∷ []
