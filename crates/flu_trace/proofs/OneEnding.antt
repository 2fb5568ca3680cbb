-- A trace has one ending.
use Rattle.std.proofs.Common.{◌≡◌, ◌+◌, ℕ, true, false, List, refl, sym, ap, subst, ◌∙◌}
use Rattle.flu_lemmas.proofs.Tests.{not_both}
use Rattle.flu_lemmas.specs.Lines.{lines_of}
use Rattle.flu_net.specs.declared.steps.Step.{Step}
use Rattle.flu_net.specs.Alike.{View, view_in, AreAlike, AlikeAreEnabled, AlikeAreFinal, StartsAreAlike, StepsKeepAlike}
use Rattle.flu_net.specs.Effects.{Makes}
use Rattle.flu_net.specs.Enabled.{is_enabled}
use Rattle.flu_net.specs.Notes.{NetNote}
use Rattle.flu_trace.specs.Lines.{IsLineOf}
use Rattle.flu_trace.specs.OneEnding.{OneEnding}
use Rattle.flu_trace.specs.Replaying.{Ending, Ends, bad, complete, incomplete, made, not_enabled}
use Rattle.flu_trace.proofs.StepLines.{same_step}

-- what the laws of the net say
pub record StepsDetermine : Type 0 where
  pub start : StartsAreAlike
  pub step : StepsKeepAlike
  pub enabled : AlikeAreEnabled
  pub is_final : AlikeAreFinal

one_step : (s r : Step) (line : List ℕ) → IsLineOf s line → IsLineOf r line → r ≡ s
one_step s r line a b = same_step r s b.number a.number (sym b.is ∙ a.is)

module _ (laws : StepsDetermine) (k : View) where
  differ : (n m : NetNote) (s r : Step) (line : List ℕ) → AreAlike k n m → IsLineOf s line → IsLineOf r line → is_enabled n s ≡ false → is_enabled m r ≡ true → ⊥
  differ n m s r line t a b off on =
      let step : r ≡ s = one_step s r line a b in
      not_both (is_enabled m r) on (ap (is_enabled m) step ∙ sym (laws.enabled k n m s t) ∙ off)

  ends_one : (before : ℕ) (lines : List (List ℕ)) (n m : NetNote) (a b : Ending) → AreAlike k n m → AreAlike k m n → Ends before lines n a → Ends before lines m b
      → a ≡ b
  ends_one before lines n m a b t u (complete well final) (complete well' final') = refl
  ends_one before lines n m a b t u (complete well final) (incomplete well' open') = absurd (open' (laws.is_final k n m t final))
  ends_one before lines n m a b t u (incomplete well open') (complete well' final) = absurd (open' (laws.is_final k m n u final))
  ends_one before lines n m a b t u (incomplete well open') (incomplete well' open2) = refl
  ends_one before lines n m a b t u (bad well none) (bad well' none') = refl
  ends_one before lines n m a b t u (bad well none) (not_enabled {s = r} well' is off) = absurd (none r is)
  ends_one before lines n m a b t u (bad well none) (made {s = r} is does later) = absurd (none r is)
  ends_one before lines n m a b t u (not_enabled {s = s} well is off) (bad well' none) = absurd (none s is)
  ends_one before lines n m a b t u (not_enabled well is off) (not_enabled well' is' off') = refl
  ends_one before lines n m a b t u (not_enabled {line = line} {s = s} well is off) (made {s = r} is' does later) =
      absurd (differ n m s r line t is is' off does.enabled)
  ends_one before lines n m a b t u (made {s = s} is does later) (bad well none) = absurd (none s is)
  ends_one before lines n m a b t u (made {line = line} {s = s} is does later) (not_enabled {s = r} well is' off) =
      absurd (differ m n r s line u is' is off does.enabled)
  ends_one before lines n m a b t u
      (made {line = line} {lines = rest} {new = new} {s = s} is does later) (made {new = other} {s = r} is' does' later') =
      let step : r ≡ s = one_step s r line is is' in
      let made_too : Makes s m other = subst (λ x. Makes x m other) step does'.made in
      ends_one (before + 1) rest new other a b (laws.step k s n new m other t does.made made_too) (laws.step k s m other n new u made_too does.made) later later'

pub one_ending : StepsDetermine → OneEnding
one_ending laws k j bytes a b same x y =
    ends_one laws (view_in k) 0 (lines_of bytes) x.net y.net a b (laws.start k j x.net y.net same x.start y.start)
    (subst (λ c. AreAlike c y.net x.net) same (laws.start j k y.net x.net (sym same) y.start x.start)) x.ends y.ends
