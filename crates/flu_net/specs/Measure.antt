-- HOW MANY STEPS ARE LEFT, at most: each step that is made lowers this number, in whatever order the steps are made.
use Rattle.std.specs.Prelude.{ℕ, ◌+◌, ◌-◌, ◌*◌, Option, Some, None, List, [], length, slice_get, slice_index, slice_index_or, if◌then◌else◌}
use Rattle.std.specs.List.{count_by, range_with_len}
use Rattle.flu_lemmas.specs.Totals.{total}
use Rattle.flu_model.specs.declared.plans.Node.{Node}
use Rattle.flu_model.specs.Itags.{count_of_itags}
use Rattle.flu_model.specs.Listed.{listed}
use Rattle.flu_model.specs.Owners.{is_within}
use Rattle.flu_deps.specs.Validated.{owner_in}
use Rattle.flu_fork.specs.declared.content.Content.{Content}
use Rattle.flu_fork.specs.Classes.{itag}
use Rattle.flu_fork.specs.Lots.{job, nodes, setting_of}
use Rattle.flu_fork.specs.Settings.{events_at}
use Rattle.flu_worker.specs.declared.hand.Side.{Side}
use Rattle.flu_worker.specs.declared.hand.Side.TheVariants.{Left, Right}
use Rattle.flu_worker.specs.Hands.{may_lend}
use Rattle.flu_worker.specs.Notes.{WorkerNote}
use Rattle.flu_net.specs.declared.edges.Edge.{Edge}
use Rattle.flu_net.specs.declared.edges.Edge.TheVariants.{Home, Lent, Held, Asked, Given}
use Rattle.flu_net.specs.Notes.{NetNote, kid_of}

-- the itags by their numbers, and how many items and events an itag has
abbrev pub itags : Content → List ℕ
itags k = range_with_len 0 (count_of_itags (job k))

abbrev pub items_of : Content → ℕ → ℕ
items_of k i = length (slice_index_or (listed k.streams) i [])

abbrev pub events_of : Content → ℕ → ℕ
events_of k i = length (events_at (setting_of k) i)

-- how many nodes are in the subtree of node v, itself included
abbrev pub size : List Node → ℕ → ℕ
size nodes v = count_by (is_within nodes v) (range_with_len 0 (length nodes))

-- ---- ARRIVE: the items that are not seen yet
abbrev pub unseen : Content → List ℕ → ℕ
unseen k seen = total (λ i. items_of k i - slice_index seen i) (itags k)

-- ---- HANDLE: the events that their owner has not counted yet
abbrev pub counted_in : Option WorkerNote → ℕ → ℕ
counted_in None i = 0
counted_in (Some v) i = slice_index v.counts i

abbrev pub uncounted : Content → List WorkerNote → ℕ
uncounted k workers = total (λ i. events_of k i - counted_in (slice_get workers (owner_in k.valid (itag i))) i) (itags k)

-- ---- LEND: for a part that is still to be lent, each node of its subtree has a round of five steps ahead: lend, hold, ask, give and take
abbrev pub rounds_below : Content → Option ℕ → ℕ
rounds_below k None = 0
rounds_below k (Some v) = 5 * size (nodes k) v

abbrev pub to_lend : Side → WorkerNote → ℕ
to_lend s v = if may_lend s v.hand then rounds_below v.case (kid_of v.case v.node s) else 0

abbrev pub to_be_lent : List WorkerNote → ℕ
to_be_lent workers = total (λ v. to_lend Left v + to_lend Right v) workers

-- ---- HOLD, ASK, GIVE and TAKE: what is left of the round of a node v, and while its lot is on the way down, of the rounds below it
abbrev pub steps_on : Content → ℕ → Option Edge → ℕ
steps_on k v None = 0
steps_on k v (Some Home) = 0
steps_on k v (Some (Lent lot)) = 5 * size (nodes k) v - 1
steps_on k v (Some Held) = 3
steps_on k v (Some (Asked y)) = 2
steps_on k v (Some (Given lot)) = 1

abbrev pub on_edges : Content → List Edge → ℕ
on_edges k edges = total (λ v. steps_on k v (slice_get edges v)) (range_with_len 0 (length (nodes k)))

-- ---- in total: handling an event takes one step, and starts a new round for each node below its owner
abbrev pub steps_left : NetNote → ℕ
steps_left n = unseen n.case n.seen + 5 * length (nodes n.case) * uncounted n.case n.workers + to_be_lent n.workers + on_edges n.case n.edges

-- and at most this many at the start
abbrev pub most_steps : Content → ℕ
most_steps k = total (items_of k) (itags k) + total (events_of k) (itags k) + 8 * length (nodes k) * (total (events_of k) (itags k) + 1)
