use Rattle.std.proofs.Common.{ap, ◌∙◌}
use Rattle.flu_lemmas.proofs.Tests.{all_at}
use Rattle.flu_model.specs.Listing.{tag}
use Rattle.flu_model.specs.Itags.{itags}
use Rattle.flu_model.specs.Rules.{tag_fits}
use Rattle.flu_model.proofs.ItagLemmas.{itags_fit}
use Rattle.flu_model.proofs.itags.tag_of.Goals as goal

pub returns-clause-fits : goal.returns-clause-fits
returns-clause-fits c =
    let p = c.args.p.now in
    ap (tag_fits p.kinds) c.find.ensures.tag ∙ all_at (λ e. tag_fits p.kinds e.0) (itags p) c.args.i.0 (tag 0 0, 0)
    (itags_fit p.kinds 0 p.sources p.sources_fit) c.requires
