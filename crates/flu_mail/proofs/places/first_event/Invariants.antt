use Rattle.std.proofs.Common.{◌≡◌, ◌+◌, drop}
use Rattle.flu_mail.specs.Places.{place_of}
use Rattle.flu_mail.proofs.places.first_event.Given as goal

abbrev pub invariant-loop-place : goal.invariant-loop-place
invariant-loop-place l = l.from + place_of (drop l.from l.items) 0 ≡ l.place + place_of (drop l.place l.items) 0
