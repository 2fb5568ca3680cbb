-- THE DEMO STREAMS: events of the demo job that a seed draws, one at each time, and the ticks of the clock.
use Rattle.std.specs.Prelude.{ℕ, zero, suc, ◌+◌, ◌*◌, ◌/◌, ◌%◌, Bool, nat_le, ◌==◌, if◌then◌else◌, List, [], ◌∷◌, ◌++◌, map, filter, pos}
use Rattle.std.specs.List.{range_with_len}
use Rattle.flu_draw.specs.Draws.{next_draw, draw_of}
use Rattle.flu_model.specs.declared.events.Event.{Event}
use Rattle.flu_model.specs.declared.events.Item.{Item}
use Rattle.flu_model.specs.declared.events.Item.TheVariants.{Event as EventItem, End}

-- ---- the itags of the demo job
abbrev pub web_view : ℕ → ℕ
web_view key = key

abbrev pub app_view : ℕ → ℕ
app_view key = 10 + key

abbrev pub app_update : ℕ → ℕ
app_update key = 20 + key

abbrev pub clock_tick : ℕ
clock_tick = 30

-- ---- draws

-- the number that a seed comes to in this many draws
abbrev pub number_after : ℕ → ℕ → ℕ
number_after seed zero = seed
number_after seed (suc turns) = next_draw (number_after seed turns)

-- what the seed draws for a time
abbrev pub draw_for : ℕ → ℕ → ℕ
draw_for seed time = draw_of (number_after seed time)

-- ---- events

-- of sixteen draws one is an update in the app, five are views in the app and ten are views in the web, each of one of ten keys
abbrev pub key_drawn : ℕ → ℕ
key_drawn draw = draw / 16 % 10

abbrev pub itag_drawn : ℕ → ℕ
itag_drawn draw =
    if draw % 16 == 0 then app_update (key_drawn draw)
    else if nat_le (draw % 16) 5 then app_view (key_drawn draw) else web_view (key_drawn draw)

abbrev pub value_drawn : ℕ → ℕ
value_drawn draw = draw % 100

abbrev pub event_at : ℕ → ℕ → ℕ → Event
event_at time itag value = record { time = time; itag = record { 0 = itag }; item = 0; value = pos value }

-- the event of a draw at a time
abbrev pub drawn_event : ℕ → ℕ → Event
drawn_event time draw = event_at time (itag_drawn draw) (value_drawn draw)

-- the events that a seed draws at the times from 1 to n
abbrev pub drawn_events : ℕ → ℕ → List Event
drawn_events n seed = map (λ time. drawn_event time (draw_for seed time)) (range_with_len 1 n)

-- a tick at each thousandth time up to n, and one after n
abbrev pub tick_times : ℕ → List ℕ
tick_times n = filter (λ time. time % 1000 == 0) (range_with_len 1 n) ++ (n + 1) ∷ []

abbrev pub ticks : ℕ → List Event
ticks n = map (λ time. event_at time clock_tick 0) (tick_times n)

-- ---- streams

-- events without heartbeats between them, and the end
abbrev pub ended : List Event → List Item
ended events = map EventItem events ++ End ∷ []

-- those of some events that are of one itag
abbrev pub of_itag : ℕ → List Event → List Event
of_itag itag events = filter (λ event. event.itag.0 == itag) events

-- the items of each itag, by its number: web's views 0 to 9, the app's views 10 to 19, its updates 20 to 29, and the tick
abbrev pub demo_lists : ℕ → ℕ → List (List Item)
demo_lists n seed = map (λ itag. ended (of_itag itag (drawn_events n seed))) (range_with_len 0 clock_tick) ++ ended (ticks n) ∷ []
