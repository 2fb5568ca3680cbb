use Rattle.std.proofs.Common.{◌≡◌, [], map, length}
use Rattle.flu_syntax.specs.Tree.{declaration_of}
use Rattle.flu_syntax.specs.Machine.{Start, run}
use Rattle.flu_syntax.proofs.reading.declarations.Given as goal

abbrev pub invariant-each : goal.invariant-each
invariant-each l = record { run : run l.end [] Start l.fn.tokens ≡ run l.end (map declaration_of l.all.items) Start l.rest }

abbrev pub decreases-each : goal.decreases-each
decreases-each l = length l.rest
