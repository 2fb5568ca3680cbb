use Rattle.std.proofs.Common.{◌≤◌, ◌≡◌, length}
use Rattle.flu_syntax.specs.Machine.{TagKind, source_of, run}
use Rattle.flu_syntax.specs.Reading.{Head}
use Rattle.flu_syntax.proofs.declarations.tags.Given as goal

abbrev pub invariant-each : goal.invariant-each
invariant-each l = record {
  run : (here : Head) → run l.end here.before (TagKind (source_of here.name here.file here.rate here.slack)) l.fn.tokens ≡ run l.end here.before
      (TagKind (record { name = here.name; file = here.file; rate = here.rate; slack = here.slack; all = l.all.items })) l.rest;
  shorter : length l.rest ≤ length l.fn.tokens;
}

abbrev pub decreases-each : goal.decreases-each
decreases-each l = length l.rest
