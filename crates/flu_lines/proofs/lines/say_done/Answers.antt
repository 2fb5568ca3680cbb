use Rattle.std.proofs.Common.{inl, inr}
use Rattle.flu_lines.proofs.lines.say_done.Goals as goal

pub returns-in-Ok : goal.returns-in-Ok
returns-in-Ok g c = inl c.in-Ok.ensures.all

pub returns-in-Err : goal.returns-in-Err
returns-in-Err g c = inr (c.in-Err.ensures.failed, c.in-Err.ensures.part)
