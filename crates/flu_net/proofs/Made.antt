-- A step that is made leaves a net of the same case, which is not to be given up.
use Rattle.std.proofs.Common.{◌≡◌, true, false, ap, ◌∙◌}
use Rattle.std.specs.Prelude.{not}
use Rattle.flu_lemmas.proofs.Tests.{and_left, not_true}
use Rattle.flu_net.specs.declared.steps.Step.{Step}
use Rattle.flu_net.specs.declared.steps.Step.TheVariants.{Arrive, Handle, Ask, Take, Give, Hold, Lend}
use Rattle.flu_net.specs.Effects.{Makes}
use Rattle.flu_net.specs.Enabled.{by_step, is_enabled}
use Rattle.flu_net.specs.Notes.{NetNote}

pub kept_case : (s : Step) (old new : NetNote) → Makes s old new → new.case ≡ old.case
kept_case (Arrive i) old new does = ap (λ (n : NetNote). n.case) does
kept_case (Handle w) old new does = does.step.case
kept_case (Ask w side) old new does = does.step.case
kept_case (Take w side) old new does = does.step.case
kept_case (Give w) old new does = does.step.case
kept_case (Hold w) old new does = does.step.case
kept_case (Lend w side) old new does = does.step.case

pub still_there : (s : Step) (old new : NetNote) → old.gone ≡ false → Makes s old new → new.gone ≡ false
still_there (Arrive i) old new there does = ap (λ (n : NetNote). n.gone) does ∙ there
still_there (Handle w) old new there does = does.step.gone
still_there (Ask w side) old new there does = does.step.gone
still_there (Take w side) old new there does = does.step.gone
still_there (Give w) old new there does = does.step.gone
still_there (Hold w) old new there does = does.step.gone
still_there (Lend w side) old new there does = does.step.gone

-- where a step is enabled, the net is not to be given up
pub there_if_enabled : (n : NetNote) (s : Step) → is_enabled n s ≡ true → n.gone ≡ false
there_if_enabled n s e = not_true n.gone (and_left (not n.gone) (by_step n s) e)
