use Rattle.std.proofs.Common.{◌≡◌, drop}
use Rattle.flu_model.specs.Rules.{have_own_files}
use Rattle.flu_rules.proofs.distinct.have_own_files.Given as goal

abbrev pub invariant-loop-index : goal.invariant-loop-index
invariant-loop-index l = have_own_files (drop l.index l.sources) ≡ have_own_files l.sources
