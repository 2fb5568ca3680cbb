use Rattle.std.proofs.Common.{ap}
use Rattle.flu_model.specs.Listing.{itags_of_sources}
use Rattle.flu_gen.proofs.laws.itags_have_names.Goals as goal

pub returns : goal.returns
returns c = λ p job. record { all = ap (λ sources. itags_of_sources 0 sources) job.sources }
