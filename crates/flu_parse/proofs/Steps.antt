-- The steps of the readings at the trees as they lie in memory.
use Rattle.std.proofs.Common.{ℕ, List}
use Rattle.flu_model.specs.Erasure.{PlainAction}
use Rattle.flu_syntax.specs.declared.tree.WrittenAction.{WrittenAction}
use Rattle.flu_syntax.specs.declared.tree.WrittenDeclaration.{WrittenDeclaration}
use Rattle.flu_syntax.specs.Tree.{action_of as action_seen, declaration_of}
use Rattle.flu_parse.specs.declared.names.KindHead.{KindHead}
use Rattle.flu_parse.specs.Faults.{Found}
use Rattle.flu_parse.specs.Naming.{Naming, declare}
use Rattle.flu_parse.specs.Actions.{with_action}
use Rattle.flu_parse.specs.Resolving.{Drafted, with_declaration}

abbrev pub declare_written : List ℕ → Naming → WrittenDeclaration → Found Naming
declare_written text n d = declare text n (declaration_of d)

abbrev pub do_written : List ℕ → Naming → KindHead → List PlainAction → WrittenAction → Found (List PlainAction)
do_written text n under done a = with_action text n under done (action_seen a)

abbrev pub read_written : List ℕ → Naming → Drafted → WrittenDeclaration → Found Drafted
read_written text n d w = with_declaration text n d (declaration_of w)
