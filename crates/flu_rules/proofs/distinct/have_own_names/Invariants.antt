use Rattle.std.proofs.Common.{◌≡◌, drop}
use Rattle.flu_model.specs.Rules.{have_own_names}
use Rattle.flu_rules.proofs.distinct.have_own_names.Given as goal

abbrev pub invariant-loop-index : goal.invariant-loop-index
invariant-loop-index l = have_own_names l.lists (drop l.index l.families) l.kinds l.sources ≡ have_own_names l.lists l.families l.kinds l.sources
