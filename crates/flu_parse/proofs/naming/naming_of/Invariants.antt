use Rattle.std.proofs.Common.{◌≡◌, drop, map}
use Rattle.flu_syntax.specs.Tree.{declaration_of}
use Rattle.flu_parse.specs.Naming.{naming, naming_of}
use Rattle.flu_parse.proofs.Steps.{declare_written}
use Rattle.flu_parse.specs.Faults.{each}
use Rattle.flu_parse.proofs.naming.naming_of.Given as goal

abbrev pub invariant-loop-declaration : goal.invariant-loop-declaration
invariant-loop-declaration l =
    each (declare_written l.text) (naming l.names) (drop l.declaration-index l.declarations) ≡ naming_of l.text (map declaration_of l.declarations)
