-- What a tree of workers works on: a job with a valid plan, the items of its itags, and the state at the start.
use Rattle.std.specs.Prelude.{◌≡◌, ℕ, List, [], length, slice_index_or, IsTrue}
use Rattle.flu_model.specs.declared.events.Event.{Event}
use Rattle.flu_model.specs.declared.events.Item.{Item}
use Rattle.flu_model.specs.declared.jobs.Program.{Program}
use Rattle.flu_model.specs.declared.plans.Node.{Node}
use Rattle.flu_model.specs.Contents.{Contents}
use Rattle.flu_model.specs.Itags.{count_of_itags}
use Rattle.flu_model.specs.Merging.{events_of, merged}
use Rattle.flu_model.specs.Modes.{IsAccepted}
use Rattle.flu_model.specs.PlanRules.{is_tree}
use Rattle.flu_model.specs.Sorts.{IsStateOf}
use Rattle.flu_model.specs.Streaming.{are_streams}
use Rattle.flu_model.specs.Validity.{IsValid}
use Rattle.flu_laws.specs.Spans.{Moment, history}

pub record Setting : Type 0 where
  pub program : Program
  pub nodes : List Node
  pub lists : List (List Item)
  pub opening : Contents

-- the job is accepted, the nodes are a tree and a valid plan of the job, there is a stream for each itag, and the state holds values of the job's sorts
pub record IsSetting (k : Setting) : Type 0 where
  pub accepted : IsAccepted k.program
  pub one_tree : IsTrue (is_tree k.nodes)
  pub valid : IsValid k.program k.nodes
  pub one_each : length k.lists ≡ count_of_itags k.program
  pub streams : IsTrue (are_streams 0 k.lists)
  pub opening_sorts : IsStateOf k.program.families k.opening

-- the events of an itag, in order
abbrev pub events_at : Setting → ℕ → List Event
events_at k i = events_of (slice_index_or k.lists i [])

-- the fold of all events: each with its place among those of its itag and the state before it
abbrev pub moments : Setting → List Moment
moments k = history k.program k.opening (λ i. 0) (merged k.lists)
