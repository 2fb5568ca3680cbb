use Rattle.std.proofs.Common.{rules}
use Rattle.flu_arrive.proofs.Keeps.{splits}
use Rattle.flu_arrive.proofs.ends.Watch.another.Goals as goal

pub split_seat-place-requires : goal.split_seat-place-requires
split_seat-place-requires c = (search rules, search rules, splits _ _ _)
