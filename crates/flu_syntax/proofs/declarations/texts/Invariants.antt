use Rattle.std.proofs.Common.{◌≤◌, ◌≡◌, ℕ, length}
use Rattle.flu_text.specs.declared.written.WrittenSpan.{WrittenSpan}
use Rattle.flu_syntax.specs.Tree.{Declarations}
use Rattle.flu_syntax.specs.Machine.{NamesText, listing_of, run}
use Rattle.flu_syntax.proofs.declarations.texts.Given as goal

abbrev pub invariant-each : goal.invariant-each
invariant-each l = record {
  run : (here : Declarations × ℕ × WrittenSpan) → run l.end here.0 (NamesText (listing_of here.1 here.2)) l.fn.tokens ≡ run l.end here.0
      (NamesText (record { at = here.1; name = here.2; texts = l.all.items })) l.rest;
  shorter : length l.rest ≤ length l.fn.tokens;
}

abbrev pub decreases-each : goal.decreases-each
decreases-each l = length l.rest
