use Rattle.std.proofs.Common.{rules, ap}
use Rattle.flu_link.specs.Seats.{Sat}
use Rattle.flu_link.proofs.Whole.{starts, splits}
use Rattle.flu_link.proofs.ends.link.Goals as goal

pub vacant-requires : goal.vacant-requires
vacant-requires c = starts _ _

pub split_seat-seat-requires : goal.split_seat-seat-requires
split_seat-seat-requires c = (search rules, search rules, splits _ _ _ (ap (λ (m : Sat). m.0) c.in_ok-table.ensures.4))
