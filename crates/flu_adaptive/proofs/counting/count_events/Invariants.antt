use Rattle.flu_model.specs.Listed.{listed}
use Rattle.flu_model.specs.Merging.{merged}
use Rattle.flu_adaptive.proofs.Growing.{HaveGrownTo}
use Rattle.flu_adaptive.proofs.counting.count_events.Given as goal

abbrev pub invariant-loop-number : goal.invariant-loop-number
invariant-loop-number l = HaveGrownTo l.number (merged (listed l.s)) l.fn.counts.items l.counts.items
