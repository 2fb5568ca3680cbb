use Rattle.flu_lemmas.proofs.Tests.{all_at}
use Rattle.flu_model.specs.Itags.{itags}
use Rattle.flu_model.specs.Listing.{tag}
use Rattle.flu_model.specs.Rules.{tag_fits}
use Rattle.flu_model.proofs.ItagLemmas.{itags_fit}
use Rattle.flu_model.proofs.laws.itags_have_tags.Goals as goal

pub returns : goal.returns
returns c = record { fits = λ p i lt. all_at (λ e. tag_fits p.kinds e.0) (itags p) i.0 (tag 0 0, 0) (itags_fit p.kinds 0 p.sources p.sources_fit) lt }
