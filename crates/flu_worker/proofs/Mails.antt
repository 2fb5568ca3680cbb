-- Counts that go up to those of a lot.
use Rattle.std.specs.Prelude.{◌≡◌, ℕ, Bool, List, length, slice_index, if◌then◌else◌}
use Rattle.flu_model.specs.declared.events.Item.{Item}
use Rattle.flu_model.specs.declared.jobs.Program.{Program}
use Rattle.flu_model.specs.declared.plans.Node.{Node}
use Rattle.flu_mail.specs.declared.mailbox.Mailbox.{Mailbox}
use Rattle.flu_mail.specs.Mailboxes.{node_of, seen_of, IsAt, IsOver}

-- another mailbox of the same node that has seen the same
pub record IsSameMail (lists : List (List Item)) (old new : Mailbox) : Type 0 where
  pub seen : seen_of new ≡ seen_of old
  pub node : node_of new ≡ node_of old
  pub at_node : (p : Program) (nodes : List Node) → IsAt p nodes old → IsAt p nodes new
  pub over : IsOver lists new

-- the events of the itags of a set are counted as there, and all others as before
pub record CountsLike (set : ℕ → Bool) (counts old new : List ℕ) : Type 0 where
  pub long : length new ≡ length old
  pub counts_are : (i : ℕ) → slice_index new i ≡ (if set i then slice_index counts i else slice_index old i)
