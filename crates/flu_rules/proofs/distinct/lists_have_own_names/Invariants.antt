use Rattle.std.proofs.Common.{◌≡◌, drop, []}
use Rattle.flu_model.specs.Rules.{have_own_names}
use Rattle.flu_rules.proofs.distinct.lists_have_own_names.Given as goal

abbrev pub invariant-loop-index : goal.invariant-loop-index
invariant-loop-index l = have_own_names (drop l.index l.lists) [] [] [] ≡ have_own_names l.lists [] [] []
