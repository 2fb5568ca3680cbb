-- WHAT A NODE APART SENDS of the streams that it has read, and the lines of it.
use Rattle.std.specs.Prelude.{ℕ, min, max, Option, Some, None, List, [], slice_index_or, if◌then◌else◌}
use Rattle.std.specs.List.{filter_map, flat_map, range_with_len, reduce}
use Rattle.flu_model.specs.declared.events.Item.{Item}
use Rattle.flu_model.specs.declared.events.Item.TheVariants.{Event as EventItem, Beat, End}
use Rattle.flu_model.specs.declared.jobs.Program.{Program}
use Rattle.flu_model.specs.declared.plans.Node.{Node}
use Rattle.flu_model.specs.Contents.{nothing_held}
use Rattle.flu_model.specs.Itags.{count_of_itags}
use Rattle.flu_model.specs.Merging.{merged}
use Rattle.flu_apart.specs.Classes.{has_ticks}
use Rattle.flu_contribution.specs.Contributions.{Contribution, contributions}
use Rattle.flu_contribution.specs.Sending.{sent}
use Rattle.flu_partial.specs.Partial.{contribution_text, line_of as text_line}
use Rattle.flu_handover.specs.Handing.{line_of}

-- ---- the times of streams

-- the time of an event or a heartbeat; an end has none
abbrev pub time_of : Item → Option ℕ
time_of (EventItem x) = Some x.time
time_of (Beat t) = Some t
time_of End = None

-- the times of the items of one itag, and of all
abbrev pub times_of : List Item → List ℕ
times_of items = filter_map time_of items

abbrev pub all_times : List (List Item) → List ℕ
all_times lists = flat_map times_of lists

-- the times of the rows: those of the itags of sources with a file. The ticks of clocks follow these.
abbrev pub times_of_itag : Program → List (List Item) → ℕ → List ℕ
times_of_itag p lists i = if has_ticks p i then [] else times_of (slice_index_or lists i [])

abbrev pub row_times : Program → List (List Item) → List ℕ
row_times p lists = flat_map (times_of_itag p lists) (range_with_len 0 (count_of_itags p))

-- THE FIRST AND THE LAST TIME of some streams: the least and the greatest time of the rows; none where there are none
abbrev pub first_time : Program → List (List Item) → Option ℕ
first_time p lists = reduce min (row_times p lists)

abbrev pub last_time : Program → List (List Item) → Option ℕ
last_time p lists = reduce max (row_times p lists)

-- ---- what is sent

-- WHAT A NODE APART SENDS of the events of some streams, from a state in which all cells are neutral
abbrev pub sent_by : Program → List Node → ℕ → List (List Item) → List Contribution
sent_by p nodes w lists = sent (contributions p nodes w nothing_held (merged lists))

-- THE LINES of what is sent, each with its line feed; `last` stands in the one that is joined at the end
abbrev pub lines_of : Program → Option ℕ → List Contribution → List ℕ
lines_of p last ks = flat_map (λ k. text_line (contribution_text (line_of p last k))) ks
