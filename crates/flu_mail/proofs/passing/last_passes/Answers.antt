use Rattle.std.proofs.Common.{sym, ◌∙◌}
use Rattle.flu_mail.proofs.PassingLemmas.{last_passes_last}
use Rattle.flu_mail.proofs.passing.last_passes.Goals as goal

pub returns-in-Some : goal.returns-in-Some
returns-in-Some c = c.time_passes.ensures ∙ sym (last_passes_last c.args.t c.args.seen.now c.in-Some.last.now (sym c.in-Some.ensures.value))
