use Rattle.std.proofs.Common.{◌≡◌, ℕ, true, List, length, ap, ◌∙◌, arith}
use Rattle.std.proofs.lemmas.List.{take_all}
use Rattle.flu_lemmas.proofs.InTime.{not_back}
use Rattle.flu_model.specs.declared.events.Event.{Event}
use Rattle.flu_model.specs.declared.events.Item.{Item}
use Rattle.flu_model.specs.Merging.{is_before}
use Rattle.flu_model.specs.Streaming.{is_stream_from}
use Rattle.flu_mail.specs.Passing.{passes}
use Rattle.flu_mail.specs.Laws.{IsUncounted}
use Rattle.flu_mail.proofs.PassingLemmas.{passing_clears, passes_when_clear, event_of_stream, before_or_after}
use Rattle.flu_mail.proofs.laws.passing_is_exact.Goals as goal

whole_clears : (i low count : ℕ) (items : List Item) (x y : Event) → is_stream_from i low items ≡ true → passes items count x ≡ true
    → IsUncounted items count y → is_before x y ≡ true
whole_clears i low count items x y s h uncounted =
    passing_clears i low items (length items) count x uncounted.0 y s
    (ap (λ is. passes is count x) (take_all (length items) items (omega arith)) ∙ h) uncounted.1 uncounted.2

pub returns-clause-after : goal.returns-clause-after
returns-clause-after c = λ i low count items x s. (
  λ h y uncounted. whole_clears i low count items x y s h uncounted,
  λ clear. passes_when_clear i low items count x s (λ y e. clear y (count, omega arith, e)),
)

pub returns-clause-clear : goal.returns-clause-clear
returns-clause-clear c = λ i low count items x s other. (
  λ h y uncounted. not_back x.time x.itag.0 y.time y.itag.0 (whole_clears i low count items x y s h uncounted),
  λ clear. passes_when_clear i low items count x s
      (λ y e. before_or_after x y (λ same. other (same ∙ (event_of_stream i low items count y s e).1)) (clear y (count, omega arith, e))),
)
