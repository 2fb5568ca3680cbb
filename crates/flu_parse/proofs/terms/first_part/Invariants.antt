use Rattle.std.proofs.Common.{◌≡◌}
use Rattle.flu_syntax.specs.Tree.{view}
use Rattle.flu_parse.specs.Terms.{first_part}
use Rattle.flu_parse.proofs.terms.first_part.Given as goal

abbrev pub invariant-loop-part : goal.invariant-loop-part
invariant-loop-part l = first_part (view l.part) ≡ first_part (view l.written)
