use Rattle.std.proofs.Common.{◌≡◌, drop, map}
use Rattle.flu_parse.specs.Faults.{each}
use Rattle.flu_parse.specs.Naming.{naming}
use Rattle.flu_parse.specs.Resolving.{drafted, draft_of}
use Rattle.flu_syntax.specs.Tree.{declaration_of}
use Rattle.flu_parse.proofs.Steps.{read_written}
use Rattle.flu_parse.proofs.resolving.draft_of.Given as goal

abbrev pub invariant-loop-declaration : goal.invariant-loop-declaration
invariant-loop-declaration l =
    each (read_written l.text (naming l.names)) (drafted l.draft) (drop l.declaration-index l.declarations) ≡ draft_of l.text (naming l.names)
    (map declaration_of l.declarations)
