use Rattle.std.proofs.Common.{◌≡◌, ◌++◌, map}
use Rattle.flu_model.specs.Erasure.{plain_kind}
use Rattle.flu_parse.specs.Naming.{naming}
use Rattle.flu_parse.specs.Resolving.{idle_kind}
use Rattle.flu_parse.proofs.resolving.idle_kinds.Given as goal

abbrev pub invariant-loop-name : goal.invariant-loop-name
invariant-loop-name l = map plain_kind l.kinds.items ++ map idle_kind (map (λ e. (e.0.now, e.1)) l.name-iterator) ≡ map idle_kind (naming l.names).kinds
