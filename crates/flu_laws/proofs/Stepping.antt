-- An update of one cell is its change.
use Rattle.std.proofs.Common.{◌≡◌, ℕ, ℤ, Bool, true, false, Option, Some, None, List, refl, sym, ap, ◌∙◌}
use Rattle.std.specs.List.{list_any, list_all}
use Rattle.flu_model.specs.declared.events.Cell.{Cell}
use Rattle.flu_model.specs.declared.events.Event.{Event}
use Rattle.flu_model.specs.declared.events.Worth.{Worth}
use Rattle.flu_model.specs.declared.jobs.Family.{Family}
use Rattle.flu_model.specs.declared.jobs.Action.{Action}
use Rattle.flu_model.specs.declared.jobs.Sort.TheVariants.{Sum as SumSort}
use Rattle.flu_model.specs.declared.modes.Mode.{Mode}
use Rattle.flu_model.specs.declared.modes.Mode.TheVariants.{None as NoMode, Add as AddMode, Raise as RaiseMode, Read as ReadMode, Own}
use Rattle.flu_model.specs.Contents.{Contents, added}
use Rattle.flu_model.specs.Texts.{Showing}
use Rattle.flu_model.specs.Updates.{effect_of_actions}
use Rattle.flu_model.specs.Sorts.{IsStateOf}
use Rattle.flu_model.specs.Rules.{action_fits}
use Rattle.flu_model.specs.Modes.{mode_among}
use Rattle.flu_laws.specs.Uses.{needs, writes}
use Rattle.flu_laws.specs.Changes.{applied, reach, level_reached, change_by, change_among}
use Rattle.flu_laws.proofs.Reading.{Agree, action_needs}
use Rattle.flu_laws.proofs.Locality.{cells-agree, amount-agree, level-agree}
use Rattle.flu_laws.proofs.Changing.{raised_to, keeps, gains, reaches}
use Rattle.flu_laws.proofs.SortLemmas.{adds-sort, adds_only}
use Rattle.flu_laws.proofs.Uses.{needs_among, quiet_among, sums_among, maxima_among}
use Rattle.flu_laws.proofs.Values.{holds_sort}

pub applied-reach : (o : Option ℤ) (w : Option Worth) → raised_to w o ≡ applied (reach o) w
applied-reach None w = refl
applied-reach (Some v) w = refl

module _ (version : ℕ) (show : Showing) (families : List Family) (keyed has_value : Bool) (x : Event) (key : ℕ) (all : List Action)
    (fits : list_all (action_fits families keyed has_value) all ≡ true) (s t : Contents) (sorted : IsStateOf families s)
    (agree : Agree (λ c. list_any (action_needs key c) all) s t) where
  -- what a cell that is only left alone becomes
  stays : (c : Cell) → writes (mode_among version all key c) ≡ false → (effect_of_actions show families all s x key).cells c ≡ s c
  stays c e = let quiet = quiet_among version all key c e in keeps show families x key c all s quiet.0 quiet.1 quiet.2

  -- what the cell becomes is the change from the other state
  step_at : (c : Cell) (m : Mode) → mode_among version all key c ≡ m
      → (effect_of_actions show families all s x key).cells c ≡ applied (change_by show families m all t x key c) (s c)
  step_at c NoMode e = stays c (ap writes e)
  step_at c ReadMode e = stays c (ap writes e)
  step_at c Own e = cells-agree show families keyed has_value x key all s t agree c (agree c (sym (needs_among version all key c) ∙ ap needs e))
  step_at c AddMode e =
      let sums = sums_among version all key c e in
      let sort = adds-sort families keyed has_value key c all fits sums.1 in
      gains show families x key c all s sums.0 (adds_only families keyed has_value key c all fits sums.1) (holds_sort families c SumSort (s c) sort (sorted c))
      ∙ ap (added (s c)) (amount-agree show families keyed has_value x key all s t c agree)
  step_at c RaiseMode e =
      let maxima = maxima_among version all key c e in
      reaches show families x key c all s maxima.0 maxima.1
      ∙ ap (raised_to (s c)) (level-agree show families keyed has_value x key all s t c agree)
      ∙ applied-reach (level_reached show families all t x key c) (s c)

  pub step : (c : Cell) → (effect_of_actions show families all s x key).cells c ≡ applied (change_among version show families all t x key c) (s c)
  step c = step_at c (mode_among version all key c) refl
