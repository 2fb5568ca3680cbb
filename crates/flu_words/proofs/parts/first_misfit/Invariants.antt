use Rattle.std.proofs.Common.{◌≡◌, [], ◌∷◌, map}
use Rattle.std.specs.Prelude.{string_bytes}
use Rattle.flu_words.specs.Parts.{first_misfit}
use Rattle.flu_words.proofs.PartLemmas.{misfit_from}
use Rattle.flu_words.proofs.parts.first_misfit.Given as goal

abbrev pub invariant-loop-index : goal.invariant-loop-index
invariant-loop-index l = misfit_from string_bytes l.job l.plan l.words l.index ≡ first_misfit (l.job ∷ l.plan ∷ []) 3 (map string_bytes l.words)
