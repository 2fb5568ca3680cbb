use Rattle.flu_contribution.proofs.Places.{have_places}
use Rattle.flu_contribution.proofs.contributions_have_places.Goals as goal

pub returns : goal.returns
returns c = λ p nodes w opening xs tree valid there range.
    have_places p nodes w there (c.plans_are_trees.ensures.order nodes tree) (λ i lt. c.itags_are_owned.ensures p nodes i valid lt) opening xs range
