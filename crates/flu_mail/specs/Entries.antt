-- What a mailbox keeps of an itag.
use Rattle.std.specs.Prelude.{◌≡◌, ◌≤◌, Bool, true, false, nat_lt, Some, List, length, slice_get, if◌then◌else◌}
use Rattle.flu_lemmas.specs.Elements.{AtEach}
use Rattle.flu_model.specs.declared.events.Item.{Item}
use Rattle.flu_model.specs.declared.events.Itag.{Itag}
use Rattle.flu_model.specs.Merging.{events_of}
use Rattle.flu_mail.specs.declared.entries.Entry.{Entry}
use Rattle.flu_mail.specs.declared.entries.Owner.{Owner}
use Rattle.flu_mail.specs.declared.entries.Owner.TheVariants.{Node, Ancestor}
use Rattle.flu_mail.specs.declared.keys.Key.{Key}
use Rattle.flu_mail.specs.declared.keys.Key.TheVariants.{Unseen, Next, Over}
use Rattle.flu_mail.specs.Places.{place_of, time_in}
use Rattle.flu_mail.specs.Waiting.{itag}

-- no more is seen or counted than there is, and the place is that of the next event, whose time is kept too
pub record IsEntryOver (items : List Item) (e : Entry) : Type 0 where
  pub all : e.all ≡ length items
  pub seen : e.seen ≤ length items
  pub count : e.count ≤ length (events_of items)
  pub place : e.place ≡ place_of items e.count
  pub time : e.time ≡ time_in (slice_get (events_of items) e.count)

-- THE KEY of an itag: its next event, if that was seen; and else whether anything is left to be seen of it
abbrev pub key_of : Entry → Itag → Key
key_of e i = if nat_lt e.place e.seen then Next e.time i else (if nat_lt e.seen e.all then Unseen else Over)

-- the node owns the itag, or an ancestor of the node does
abbrev pub is_of : Owner → Entry → Bool
is_of Node e = e.own
is_of Ancestor e = e.above

-- the key of an itag that is asked, or is not
abbrev pub key_among : Bool → Entry → Itag → Key
key_among true e i = key_of e i
key_among false e i = Over

-- KEYS OF ENTRIES: one for each entry, of which some are asked
pub record AreKeysOf (asked : Entry → Bool) (entries : List Entry) (keys : List Key) : Type 0 where
  pub one_each : length keys ≡ length entries
  pub each : AtEach (λ j e. slice_get keys j ≡ Some (key_among (asked e) e (itag j))) entries
