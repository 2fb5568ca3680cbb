-- Nothing is left to see or to count.
use Rattle.std.specs.Prelude.{ℕ, Bool, [], List, ◌==◌, ◌&&◌, ◌||◌, length, slice_index, slice_index_or}
use Rattle.std.specs.List.{list_all}
use Rattle.flu_model.specs.declared.events.Itag.{Itag}
use Rattle.flu_model.specs.declared.events.Item.{Item}
use Rattle.flu_model.specs.Listed.{listed}
use Rattle.flu_model.specs.Merging.{events_of}
use Rattle.flu_worker.specs.declared.hand.Hand.{Hand}
use Rattle.flu_worker.specs.Choosing.{Sight, own_itags, above_itags}
use Rattle.flu_worker.specs.Hands.{is_whole, is_down}

-- all items of an itag are seen, and all its events counted
abbrev pub is_over : List (List Item) → List ℕ → List ℕ → ℕ → Bool
is_over lists seen counts i =
    (slice_index seen i == length (slice_index_or lists i [])) && (slice_index counts i == length (events_of (slice_index_or lists i [])))

abbrev pub all_over : Sight → List Itag → Bool
all_over s itags = list_all (λ (i : Itag). is_over (listed s.case.streams) s.seen s.counts i.0) itags

-- this holds for each itag of the node and those above it, and the lot is whole or both its parts are lent
abbrev pub has_done_all : Sight → Hand → Bool
has_done_all s hand = (is_whole hand || is_down hand) && all_over s (own_itags s.case s.node) && all_over s (above_itags s.case s.node)
