use Rattle.flu_plan.proofs.PrintedPlan.{printed_is_read}
use Rattle.flu_plan.proofs.laws.printed_is_read.Goals as goal

pub returns : goal.returns
returns c = printed_is_read c.laid_is_read.ensures.tokens c.laid_is_read.ensures.signs c.keys_are_laid.ensures.spelled c.keys_are_laid.ensures.laid
