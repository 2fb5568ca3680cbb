use Rattle.std.proofs.Common.{refl}
use Rattle.flu_draw.specs.Draws.{draw_of}
use Rattle.flu_draw.proofs.draw_of.Goals as goal

pub returns-clause-value : goal.returns-clause-value
unfolding draw_of
returns-clause-value c = refl
