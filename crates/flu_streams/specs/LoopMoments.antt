-- The moments of the rows that are held of a source.
use Rattle.std.specs.Prelude.{◌≡◌, ℕ, ◌+◌, ◌-◌, ◌/◌, ◌%◌, ◌==◌, ◌&&◌, ◌||◌, Bool, true, false, nat_lt, nat_le, Option, Some, option_map, List, [], ◌∷◌, length, map}
use Rattle.std.specs.List.{filter, range_with_len}
use Rattle.std.specs.Option.{option_map_or}
use Rattle.flu_lemmas.specs.Counting.{times}
use Rattle.flu_model.specs.declared.events.Item.{Item}
use Rattle.flu_model.specs.declared.events.Item.TheVariants.{Event as EventItem, Beat as BeatItem, End as EndItem}
use Rattle.flu_model.specs.declared.moments.Timing.{Timing}
use Rattle.flu_model.specs.Moments.{moment_at, last_moment}
use Rattle.flu_rows.specs.declared.row.Row.{Row}
use Rattle.flu_streams.specs.declared.border.Border.{Border}
use Rattle.flu_streams.specs.declared.border.Border.TheVariants.{At, Closed}
use Rattle.flu_streams.specs.Good.{with_time, time_at}
use Rattle.flu_streams.specs.Lists.{item_time, times_in}

-- a border as a border of moments
abbrev pub border_moment : Timing → Option ℕ → Option ℕ
border_moment timing border = option_map (last_moment timing) border

abbrev pub end_moment : Timing → Border → Border
end_moment timing (At t) = At (last_moment timing t)
end_moment timing Closed = Closed

-- the times of items, which are at their moments
abbrev pub own_times : Timing → List Item → List ℕ
own_times timing items = map (λ m. m / timing.scale) (times_in items)

-- a moment is the source's first one at its time, or comes right after the one before it
abbrev pub follows : Timing → Option ℕ → ℕ → Bool
follows timing before m =
    nat_le (m % timing.scale) (timing.offset + (timing.ties - 1))
    && ((m % timing.scale == timing.offset) || (nat_lt timing.offset (m % timing.scale) && option_map_or (λ b. b + 1 == m) before false))

-- THE MOMENTS OF A SOURCE IN A ROW: of each time that is among them, all rows up to the last one are
abbrev pub are_in_a_row : Timing → Option ℕ → List ℕ → Bool
are_in_a_row timing before [] = true
are_in_a_row timing before (m ∷ ms) = follows timing before m && are_in_a_row timing (Some m) ms

-- those of some numbers that are from one number on and below another
abbrev pub between : ℕ → ℕ → List ℕ → List ℕ
between from end ms = filter (λ m. nat_le from m && nat_lt m end) ms

-- each is one more than the one before it, from the first on
abbrev pub Follow : ℕ → List ℕ → Type 0
Follow from ms = ms ≡ range_with_len from (length ms)

-- a row at its moment behind some times
abbrev pub at_moment : Timing → List ℕ → Row → Row
at_moment timing earlier row = with_time (moment_at timing (time_at row) (times (time_at row) earlier)) row

-- an event or a heartbeat at another time
abbrev pub item_at_time : ℕ → Item → Item
item_at_time time (EventItem x) = EventItem (record { time = time; itag = x.itag; item = x.item; value = x.value })
item_at_time time (BeatItem t) = BeatItem time
item_at_time time EndItem = EndItem

abbrev pub is_timed : Item → Bool
is_timed (EventItem x) = true
is_timed (BeatItem t) = true
is_timed EndItem = false

-- an item at its moment behind some times
abbrev pub item_at_moment : Timing → List ℕ → Item → Item
item_at_moment timing earlier item = item_at_time (moment_at timing (item_time item) (times (item_time item) earlier)) item
