-- How many steps these counts have in total.
use Rattle.std.specs.Prelude.{ℕ, ◌+◌}
use Rattle.flu_live.specs.declared.counts.StepCounts.{StepCounts}

abbrev pub steps_in : StepCounts → ℕ
steps_in c = c.arrive + c.handle + c.ask + c.take + c.give + c.hold + c.lend
