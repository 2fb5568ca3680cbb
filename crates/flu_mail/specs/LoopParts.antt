-- Waiting, as a mailbox decides it from lists of itags.
use Rattle.std.specs.Prelude.{Bool, true, false, not, ◌==◌, ◌&&◌, ◌||◌, Option, Some, None, List, slice_index}
use Rattle.flu_model.specs.declared.events.Event.{Event}
use Rattle.flu_model.specs.declared.events.Itag.{Itag}
use Rattle.flu_model.specs.declared.events.Item.{Item}
use Rattle.flu_model.specs.declared.jobs.Program.{Program}
use Rattle.flu_deps.specs.Dependencies.{itags_depend}
use Rattle.flu_mail.specs.declared.waiting.Purpose.{Purpose}
use Rattle.flu_mail.specs.declared.waiting.Purpose.TheVariants.{Take, Serve}
use Rattle.flu_mail.specs.declared.mailbox.Mailbox.{Mailbox}
use Rattle.flu_mail.specs.declared.keys.Key.{Key}
use Rattle.flu_mail.specs.Keys.{is_less, key_at}
use Rattle.flu_mail.specs.Passing.{seen_items, passes}
use Rattle.flu_mail.specs.Mailboxes.{seen_of, counts_of}

-- an event of itag i asks itag j
abbrev pub asks : Purpose → Itag → Itag → Bool
asks Take i j = not (j.0 == i.0)
asks Serve i j = true

-- itag j holds x up: x waits for it, and it does not let x pass
abbrev pub holds_up : Program → Mailbox → List (List Item) → Purpose → Event → Itag → Bool
holds_up p m lists purpose x j =
    asks purpose x.itag j && (not m.leaf || itags_depend p x.itag j) && not (passes (seen_items lists (seen_of m) j.0) (slice_index (counts_of m) j.0) x)

-- an itag with this key lets x pass
abbrev pub key_passes : Purpose → Key → Event → Bool
key_passes Take key x = not (is_less key (key_at x))
key_passes Serve key x = is_less (key_at x) key

-- so do all itags of which none has a lesser one
abbrev pub least_passes : Purpose → Option Key → Event → Bool
least_passes purpose None x = false
least_passes purpose (Some key) x = key_passes purpose key x
