use Rattle.std.proofs.Common.{◌≡◌, ◌++◌, map}
use Rattle.flu_parse.specs.Naming.{naming, family, families_of}
use Rattle.flu_parse.proofs.naming.families_of.Given as goal

abbrev pub invariant-loop-name : goal.invariant-loop-name
invariant-loop-name l = l.families.items ++ map family (map (λ e. (e.0.now, e.1)) l.name-iterator) ≡ families_of (naming l.names)
