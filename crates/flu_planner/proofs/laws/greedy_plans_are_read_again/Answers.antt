use Rattle.flu_lemmas.proofs.Tests.{both}
use Rattle.flu_planner.proofs.laws.greedy_plans_are_read_again.Goals as goal

pub returns : goal.returns
returns c = λ p rates depth nodes le greedy.
    let text = c.greedy_plans_have_text.ensures p rates depth nodes le greedy in
    c.printed_is_read.ensures p nodes (c.greedy_plans_keep_rules.ensures p rates depth nodes le greedy) (both _ _ text.0 text.1)
