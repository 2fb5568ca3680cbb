-- An event that comes next for a lot.
use Rattle.std.specs.Prelude.{◌≡◌, ℕ, ◌<◌, ◌+◌, ◌^◌, Some, List, length, slice_index}
use Rattle.flu_model.specs.declared.events.Event.{Event}
use Rattle.flu_model.specs.Itags.{count_of_itags}
use Rattle.flu_model.specs.Owners.{owner_of}
use Rattle.flu_fork.specs.declared.content.Content.{Content}
use Rattle.flu_fork.specs.declared.lots.Lot.{Lot}
use Rattle.flu_fork.specs.Lots.{job, nodes, setting_of, LotFits}
use Rattle.flu_fork.specs.Streams.{IsEventAt, IsStreamExact}

-- the event comes next by the lot's counts: of the itags on which it depends exactly the events before it are counted
pub record ComesNext (k : Content) (lot : Lot) (x : Event) : Type 0 where
  pub each : length lot.upto ≡ count_of_itags (job k)
  pub known : x.itag.0 < count_of_itags (job k)
  pub there : IsEventAt (setting_of k) x.itag.0 (slice_index lot.upto x.itag.0) x
  pub exact : IsStreamExact (setting_of k) x.itag.0 (slice_index lot.upto x.itag.0) x lot.upto
  pub room : slice_index lot.upto x.itag.0 + 1 < 2 ^ 64

-- the lot fits the node that owns the event's itag
abbrev pub FitsOwner : Content → Event → Lot → Type 0
FitsOwner k x lot = (w : ℕ) → owner_of (job k) (nodes k) x.itag ≡ Some w → LotFits k w lot
