use Rattle.std.proofs.Common.{◌≡◌}
use Rattle.flu_mail.specs.Places.{place_of}
use Rattle.flu_mail.proofs.places.place_after.Given as goal

abbrev pub invariant-loop-counted : goal.invariant-loop-counted
invariant-loop-counted l = l.place ≡ place_of l.items l._counted
