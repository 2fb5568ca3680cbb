-- KEYS: up to which event an itag lets all pass.
use Rattle.std.specs.Prelude.{Bool, true, false, nat_lt, ◌==◌, ◌&&◌, ◌||◌, if◌then◌else◌}
use Rattle.flu_model.specs.declared.events.Event.{Event}
use Rattle.flu_mail.specs.declared.keys.Key.{Key}
use Rattle.flu_mail.specs.declared.keys.Key.TheVariants.{Unseen, Next, Over}

-- their order: Unseen comes first, Over last, and those of events are in event order
abbrev pub is_less : Key → Key → Bool
is_less a Unseen = false
is_less Unseen (Next u j) = true
is_less (Next t i) (Next u j) = nat_lt t u || ((t == u) && nat_lt i.0 j.0)
is_less Over (Next u j) = false
is_less Unseen Over = true
is_less (Next t i) Over = true
is_less Over Over = false

abbrev pub lesser : Key → Key → Key
lesser a b = if is_less b a then b else a

-- the key of an itag whose next event this is
abbrev pub key_at : Event → Key
key_at x = Next x.time x.itag
