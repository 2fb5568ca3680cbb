-- A mailbox of a node of a case, and tests on what was found in it.
use Rattle.std.specs.Prelude.{◌≡◌, ℕ, Bool, true, Option, Some, None, ◌<◌, ◌==◌, ◌&&◌, ◌||◌, nat_lt, if◌then◌else◌, length}
use Rattle.std.specs.List.{fold}
use Rattle.flu_model.specs.declared.events.Event.{Event}
use Rattle.flu_model.specs.Listed.{listed}
use Rattle.flu_model.specs.Merging.{is_before}
use Rattle.flu_fork.specs.declared.content.Content.{Content}
use Rattle.flu_fork.specs.Lots.{job, nodes}
use Rattle.flu_mail.specs.declared.mailbox.Mailbox.{Mailbox}
use Rattle.flu_mail.specs.Mailboxes.{node_of, IsAt, IsOver}
use Rattle.flu_worker.specs.declared.choosing.Due.{Due}
use Rattle.flu_worker.specs.Choosing.{Sight, next_at, own_itags}

pub record IsMailFor (k : Content) (w : ℕ) (mail : Mailbox) : Type 0 where
  pub there : w < length (nodes k)
  pub node : node_of mail ≡ w
  pub at_node : IsAt (job k) (nodes k) mail
  pub over : IsOver (listed k.streams) mail

-- it is before the one that was found, if there is one
abbrev pub comes_first : Event → Option Event → Bool
comes_first x None = true
comes_first x (Some y) = is_before x y

-- ---- the time and the itag of an event, by which events are ordered

abbrev pub due_of : Option Event → Option Due
due_of None = None
due_of (Some x) = Some (record { time = x.time; itag = x.itag })

abbrev pub comes_before : Event → Due → Bool
comes_before y d = nat_lt y.time d.time || (y.time == d.time && nat_lt y.itag.0 d.itag.0)

abbrev pub earlier_due : Option Due → Option Event → Option Due
earlier_due None b = due_of b
earlier_due (Some d) None = Some d
earlier_due (Some d) (Some y) = if comes_before y d then due_of (Some y) else Some d

-- the same for the least next event of the node's own itags
abbrev pub first_due : Sight → Option Due
first_due s = fold (λ found i. earlier_due found (next_at s i)) None (own_itags s.case s.node)
