use Rattle.std.proofs.Common.{◌≡◌, ◌+◌, ◌*◌, ◌%◌, ap}
use Rattle.flu_live.specs.Seeded.{marked}
use Rattle.flu_live.proofs.drawing.marked.Goals as goal

pub returns : goal.returns
unfolding marked
returns c = let same : c.from.result ≡ c.args.mark = cc in ap (λ y. (y * 33 + c.args.place) % 4294967296) same
