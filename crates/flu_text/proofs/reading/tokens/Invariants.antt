use Rattle.std.proofs.Common.{◌≤◌, ◌-◌, length}
use Rattle.flu_text.specs.Grammar.{LeadsTo}
use Rattle.flu_text.proofs.reading.tokens.Given as goal

abbrev pub invariant-loop-place : goal.invariant-loop-place
invariant-loop-place l = record { within : l.place ≤ length l.text; reads : LeadsTo l.text 0 l.found.items l.place }

abbrev pub decreases-loop-place : goal.decreases-loop-place
decreases-loop-place l = length l.initial.text - l.place
