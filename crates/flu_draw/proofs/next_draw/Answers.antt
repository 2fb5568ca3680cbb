use Rattle.std.proofs.Common.{◌≡◌, ◌+◌, ◌*◌, ◌%◌, ap}
use Rattle.flu_draw.specs.Draws.{next_draw}
use Rattle.flu_draw.proofs.next_draw.Goals as goal

pub returns-clause-value : goal.returns-clause-value
unfolding next_draw
returns-clause-value c = let same : c.from.result ≡ c.args.x = cc in ap (λ y. (y * 1103515245 + 12345) % 2147483648) same
