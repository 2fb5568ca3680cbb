use Rattle.std.proofs.Common.{◌≤◌, ◌≡◌, length, map}
use Rattle.flu_text.specs.declared.written.WrittenSpan.{WrittenSpan}
use Rattle.flu_syntax.specs.Tree.{Declarations, action_of}
use Rattle.flu_syntax.specs.Machine.{ActionStart, run}
use Rattle.flu_syntax.specs.Reading.{no_actions}
use Rattle.flu_syntax.proofs.declarations.actions.Given as goal

abbrev pub invariant-each : goal.invariant-each
invariant-each l = record {
  run : (here : Declarations × WrittenSpan)
      → run l.end here.0 (ActionStart (no_actions here.1)) l.fn.tokens ≡ run l.end here.0
      (ActionStart (record { kind = here.1; all = map action_of l.all.items })) l.rest;
  shorter : length l.rest ≤ length l.fn.tokens;
}

abbrev pub decreases-each : goal.decreases-each
decreases-each l = length l.rest
