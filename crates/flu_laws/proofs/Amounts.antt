-- What actions add to a cell or raise it to is what it may hold: a family that is meant by items has more cells in its modes than
-- keys, and nothing is added to those, nor are they raised.
use Rattle.std.proofs.Common.{◌≡◌, ℕ, ℤ, pos, ◌+ℤ◌, Bool, true, false, cond, Option, Some, None, List, [], ◌∷◌, refl, sym, ap, subst, ◌∙◌}
use Rattle.std.specs.Prelude.{nat_lt, slice_get}
use Rattle.std.specs.List.{list_all}
use Rattle.flu_lemmas.proofs.Tests.{and_left, and_right, not_both, false_if_not}
use Rattle.flu_lemmas.proofs.TwoNumbers.{made_alike}
use Rattle.flu_model.specs.declared.events.Cell.{Cell}
use Rattle.flu_model.specs.declared.events.Event.{Event}
use Rattle.flu_model.specs.declared.jobs.Act.{Act}
use Rattle.flu_model.specs.declared.jobs.Act.TheVariants.{Add, Raise, Set, Clear, ClearFamily, Emit, Flush}
use Rattle.flu_model.specs.declared.jobs.Action.{Action}
use Rattle.flu_model.specs.declared.jobs.CellRef.{CellRef}
use Rattle.flu_model.specs.declared.jobs.Family.{Family}
use Rattle.flu_model.specs.declared.jobs.Sort.TheVariants.{Sum as SumSort, Max as MaxSort}
use Rattle.flu_model.specs.Contents.{Contents, cell, added, key_count}
use Rattle.flu_model.specs.Expressions.{item_of, key_of, value_of_expr}
use Rattle.flu_model.specs.Rules.{has_sort, ref_fits, act_fits, action_fits}
use Rattle.flu_model.specs.Sorts.{is_cell_of, MayHold}
use Rattle.flu_model.specs.Texts.{Showing}
use Rattle.flu_model.specs.Updates.{effect_of_action, passes_guard}
use Rattle.flu_laws.specs.Changes.{applied, reach, hits, amount_of_act, amount_of_action, amount_added, level_of_act, level_of_action, level_reached, higher}
use Rattle.flu_laws.proofs.Algebra.{added-zero, added-holds}
use Rattle.flu_laws.proofs.Keys.{cell_is_there}
use Rattle.flu_laws.proofs.Values.{HoldsSort, may_hold}

reach_holds : (l : Option ℤ) → HoldsSort MaxSort (applied (reach l) None)
reach_holds None = tt
reach_holds (Some v) = tt

module _ (show : Showing) (families : List Family) (keyed has_value : Bool) (x : Event) (key : ℕ) (c : Cell) (in_range : nat_lt key key_count ≡ true) where
  -- ---- no event reaches a cell that is none of the families'
  unhit : is_cell_of families c ≡ false → (r : CellRef) → ref_fits families keyed r ≡ true → hits x key c r ≡ false
  unhit nowhere r fits =
      false_if_not (hits x key c r)
      (λ h. not_both (is_cell_of families c)
      (ap (is_cell_of families) (sym (made_alike cell r.family (key_of r.at key (item_of x)) c.family c.key h))
      ∙ cell_is_there families keyed r key x in_range fits)
      nowhere)

  act_adds_nothing : is_cell_of families c ≡ false → (a : Act) (s : Contents) → act_fits families keyed has_value a ≡ true
      → amount_of_act a s x key c ≡ pos 0
  act_adds_nothing nowhere (Add r e) s fits = ap (λ b. cond b (value_of_expr e s x key) (pos 0)) (unhit nowhere r (and_left _ _ (and_left _ _ fits)))
  act_adds_nothing nowhere (Raise r e) s fits = refl
  act_adds_nothing nowhere (Set r e) s fits = refl
  act_adds_nothing nowhere (Clear r) s fits = refl
  act_adds_nothing nowhere (ClearFamily f) s fits = refl
  act_adds_nothing nowhere (Emit qs) s fits = refl
  act_adds_nothing nowhere (Flush f qs) s fits = refl

  act_reaches_nothing : is_cell_of families c ≡ false → (a : Act) (s : Contents) → act_fits families keyed has_value a ≡ true
      → level_of_act a s x key c ≡ None
  act_reaches_nothing nowhere (Add r e) s fits = refl
  act_reaches_nothing nowhere (Raise r e) s fits = ap (λ b. cond b (Some (value_of_expr e s x key)) None) (unhit nowhere r (and_left _ _ (and_left _ _ fits)))
  act_reaches_nothing nowhere (Set r e) s fits = refl
  act_reaches_nothing nowhere (Clear r) s fits = refl
  act_reaches_nothing nowhere (ClearFamily f) s fits = refl
  act_reaches_nothing nowhere (Emit qs) s fits = refl
  act_reaches_nothing nowhere (Flush f qs) s fits = refl

  adds_nothing : is_cell_of families c ≡ false → (all : List Action) (s : Contents) → list_all (action_fits families keyed has_value) all ≡ true
      → amount_added show families all s x key c ≡ pos 0
  adds_nothing nowhere [] s fits = refl
  adds_nothing nowhere (a ∷ all) s fits =
      let one : amount_of_action a s x key c ≡ pos 0 =
      elim (passes_guard a.guard s x key) as (λ b. cond b (amount_of_act a.act s x key c) (pos 0) ≡ pos 0) [
        | true ↦ act_adds_nothing nowhere a.act s (and_left _ _ (and_left _ _ fits))
        | false ↦ refl
      ] in
      let rest : amount_added show families all (effect_of_action show families a s x key).cells x key c ≡ pos 0 =
      adds_nothing nowhere all (effect_of_action show families a s x key).cells (and_right _ _ fits) in
      λ i. one i +ℤ rest i

  reaches_nothing : is_cell_of families c ≡ false → (all : List Action) (s : Contents) → list_all (action_fits families keyed has_value) all ≡ true
      → level_reached show families all s x key c ≡ None
  reaches_nothing nowhere [] s fits = refl
  reaches_nothing nowhere (a ∷ all) s fits =
      let one : level_of_action a s x key c ≡ None =
      elim (passes_guard a.guard s x key) as (λ b. cond b (level_of_act a.act s x key c) None ≡ None) [
        | true ↦ act_reaches_nothing nowhere a.act s (and_left _ _ (and_left _ _ fits))
        | false ↦ refl
      ] in
      let rest : level_reached show families all (effect_of_action show families a s x key).cells x key c ≡ None =
      reaches_nothing nowhere all (effect_of_action show families a s x key).cells (and_right _ _ fits) in
      λ i. higher (one i) (rest i)

  -- ---- so a neutral cell then holds what it may
  pub amount_may : (all : List Action) (s : Contents) → list_all (action_fits families keyed has_value) all ≡ true
      → has_sort (slice_get families c.family) SumSort ≡ true → MayHold families c (added None (amount_added show families all s x key c))
  amount_may all s fits sort =
      let n : ℤ = amount_added show families all s x key c in
      elim (is_cell_of families c) as (λ b. is_cell_of families c ≡ b → MayHold families c (added None n)) [
        | true ↦ λ there. may_hold families c SumSort (added None n) sort there (added-holds None n)
        | false ↦ λ nowhere. subst (MayHold families c) (sym (ap (added None) (adds_nothing nowhere all s fits) ∙ added-zero None tt)) tt
      ] refl

  pub level_may : (all : List Action) (s : Contents) → list_all (action_fits families keyed has_value) all ≡ true
      → has_sort (slice_get families c.family) MaxSort ≡ true → MayHold families c (applied (reach (level_reached show families all s x key c)) None)
  level_may all s fits sort =
      let l : Option ℤ = level_reached show families all s x key c in
      elim (is_cell_of families c) as (λ b. is_cell_of families c ≡ b → MayHold families c (applied (reach l) None)) [
        | true ↦ λ there. may_hold families c MaxSort (applied (reach l) None) sort there (reach_holds l)
        | false ↦ λ nowhere. subst (λ o. MayHold families c (applied (reach o) None)) (sym (reaches_nothing nowhere all s fits)) tt
      ] refl
