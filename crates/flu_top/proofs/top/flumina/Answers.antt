use Rattle.std.proofs.Common.{sym, ap, ◌∙◌, subst, map, string_bytes}
use Rattle.flu_lines.specs.Statuses.{code}
use Rattle.flu_top.specs.Outcome.{Outcome, ReadOnly, FaultsFirst, HidesNothing, Completes}
use Rattle.flu_top.proofs.top.flumina.Goals as goal

pub returns-clause-outcome : goal.returns-clause-outcome
returns-clause-outcome g c =
    subst (Outcome (map string_bytes c.args.words.now) _ _) (sym (c.code.ensures ∙ ap code c.status_after.ensures)) c.answer_words-ended.ensures.outcome

pub returns-clause-read : goal.returns-clause-read
returns-clause-read g c =
    subst (ReadOnly (map string_bytes c.args.words.now) _ _) (sym (c.code.ensures ∙ ap code c.status_after.ensures)) c.answer_words-ended.ensures.read

pub returns-clause-faults : goal.returns-clause-faults
returns-clause-faults g c =
    subst (FaultsFirst (map string_bytes c.args.words.now) _ _ _) (sym (c.code.ensures ∙ ap code c.status_after.ensures)) c.answer_words-ended.ensures.faults

pub returns-clause-hides : goal.returns-clause-hides
returns-clause-hides g c =
    subst (HidesNothing (map string_bytes c.args.words.now) _ _ _ _) (sym (c.code.ensures ∙ ap code c.status_after.ensures)) c.answer_words-ended.ensures.hides

pub returns-clause-completes : goal.returns-clause-completes
returns-clause-completes g c =
    subst (Completes (map string_bytes c.args.words.now) _ _ _) (sym (c.code.ensures ∙ ap code c.status_after.ensures)) c.answer_words-ended.ensures.completes
