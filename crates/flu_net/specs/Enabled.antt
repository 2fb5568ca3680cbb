-- Which steps are enabled.
use Rattle.std.specs.Prelude.{ℕ, Bool, true, false, not, ◌&&◌, Option, Some, None, [], length, nat_lt, is_some, slice_get, slice_index, slice_index_or}
use Rattle.flu_model.specs.declared.events.Itag.{Itag}
use Rattle.flu_model.specs.Listed.{listed}
use Rattle.flu_worker.specs.declared.hand.Side.{Side}
use Rattle.flu_worker.specs.Choosing.{may_give, next_of, target_of}
use Rattle.flu_worker.specs.Hands.{may_lend, may_take}
use Rattle.flu_worker.specs.Notes.{WorkerNote}
use Rattle.flu_net.specs.declared.edges.Edge.{Edge}
use Rattle.flu_net.specs.declared.edges.Edge.TheVariants.{Home, Lent, Held, Asked, Given}
use Rattle.flu_net.specs.declared.steps.Step.{Step}
use Rattle.flu_net.specs.declared.steps.Step.TheVariants.{Arrive, Handle, Ask, Take, Give, Hold, Lend}
use Rattle.flu_net.specs.Notes.{NetNote, kid_of, edge_below, asked_of}

abbrev pub is_held : Option Edge → Bool
is_held None = false
is_held (Some Home) = false
is_held (Some (Lent lot)) = false
is_held (Some Held) = true
is_held (Some (Asked y)) = false
is_held (Some (Given lot)) = false

abbrev pub is_given : Option Edge → Bool
is_given None = false
is_given (Some Home) = false
is_given (Some (Lent lot)) = false
is_given (Some Held) = false
is_given (Some (Asked y)) = false
is_given (Some (Given lot)) = true

abbrev pub is_lent : Option Edge → Bool
is_lent None = false
is_lent (Some Home) = false
is_lent (Some (Lent lot)) = true
is_lent (Some Held) = false
is_lent (Some (Asked y)) = false
is_lent (Some (Given lot)) = false

-- a worker that exists passes a test
abbrev pub if_there : (WorkerNote → Bool) → Option WorkerNote → Bool
if_there test None = false
if_there test (Some n) = test n

-- ARRIVE: some items of the itag are not seen yet
abbrev pub may_arrive : NetNote → Itag → Bool
may_arrive n i = nat_lt (slice_index n.seen i.0) (length (slice_index_or (listed n.case.streams) i.0 []))

-- HANDLE: there is an event that the worker takes next
abbrev pub may_handle : NetNote → ℕ → Bool
may_handle n w = if_there (λ v. is_some (next_of v)) (slice_get n.workers w)

-- ASK: the part is with the child, the worker may take it, and has a target
abbrev pub aims : NetNote → ℕ → Side → Option WorkerNote → Bool
aims n w s here = if_there (λ v. may_take s v.hand && is_some (target_of v (asked_of n w))) here

abbrev pub may_ask : NetNote → ℕ → Side → Bool
may_ask n w s = is_held (edge_below n w s) && aims n w s (slice_get n.workers w)

-- TAKE: the child gave the part
abbrev pub may_take_part : NetNote → ℕ → Side → Bool
may_take_part n w s = is_given (edge_below n w s)

-- GIVE: the lot is asked for, and the worker may give it
abbrev pub gives_for : NetNote → ℕ → Option Edge → Bool
gives_for n w None = false
gives_for n w (Some Home) = false
gives_for n w (Some (Lent lot)) = false
gives_for n w (Some Held) = false
gives_for n w (Some (Asked y)) = if_there (λ v. may_give v y) (slice_get n.workers w)
gives_for n w (Some (Given lot)) = false

abbrev pub may_give_up : NetNote → ℕ → Bool
may_give_up n w = gives_for n w (slice_get n.edges w)

-- HOLD: a lot is on its way down to the worker
abbrev pub may_hold : NetNote → ℕ → Bool
may_hold n w = is_lent (slice_get n.edges w)

-- LEND: there is such a child, and the worker has the part to lend to it
abbrev pub may_lend_part : NetNote → ℕ → Side → Bool
may_lend_part n w s = is_some (kid_of n.case w s) && if_there (λ v. may_lend s v.hand) (slice_get n.workers w)

abbrev pub by_step : NetNote → Step → Bool
by_step n (Arrive i) = may_arrive n i
by_step n (Handle w) = may_handle n w
by_step n (Ask w s) = may_ask n w s
by_step n (Take w s) = may_take_part n w s
by_step n (Give w) = may_give_up n w
by_step n (Hold w) = may_hold n w
by_step n (Lend w s) = may_lend_part n w s

-- no step is enabled once memory ran out in a step
abbrev pub is_enabled : NetNote → Step → Bool
is_enabled n s = not n.gone && by_step n s
