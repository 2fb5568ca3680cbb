-- An update keeps cells and values to the job's families.
use Rattle.std.proofs.Common.{◌≡◌, ℕ, Bool, true, false, cond, Option, Some, None, List, [], ◌∷◌, refl, sym, subst}
use Rattle.std.specs.Prelude.{◌==◌, nat_lt, slice_get}
use Rattle.std.specs.List.{list_all}
use Rattle.flu_lemmas.proofs.TwoNumbers.{made_alike}
use Rattle.flu_model.specs.declared.events.Cell.{Cell}
use Rattle.flu_model.specs.declared.events.Event.{Event}
use Rattle.flu_model.specs.declared.events.Worth.{Worth}
use Rattle.flu_model.specs.declared.events.Worth.TheVariants.{Last}
use Rattle.flu_model.specs.declared.jobs.Sort.TheVariants.{Sum as SumSort, Max as MaxSort, Last as LastSort}
use Rattle.flu_model.specs.declared.jobs.Family.{Family}
use Rattle.flu_model.specs.declared.jobs.Act.{Act}
use Rattle.flu_model.specs.declared.jobs.Act.TheVariants.{Add, Raise, Set, Clear, ClearFamily, Emit, Flush}
use Rattle.flu_model.specs.declared.jobs.Action.{Action}
use Rattle.flu_model.specs.Contents.{Contents, cell, is_same_cell, with_worth, without_family, key_count}
use Rattle.flu_model.specs.Expressions.{item_of, cell_of, value_of_expr}
use Rattle.flu_model.specs.Texts.{Showing}
use Rattle.flu_model.specs.Updates.{changes_to, effect_of_act, effect_of_action, effect_of_actions, passes_guard}
use Rattle.flu_model.specs.Sorts.{MayHold, IsStateOf}
use Rattle.flu_model.specs.Rules.{has_sort, act_fits, action_fits}
use Rattle.flu_lemmas.proofs.Tests.{and_left, and_right}
use Rattle.flu_laws.proofs.Algebra.{added-holds, raised-holds}
use Rattle.flu_laws.proofs.Keys.{cell_is_there}
use Rattle.flu_laws.proofs.Values.{HoldsSort, holds_sort, may_hold}

-- one cell of a state is changed to a value that it may hold
with_kept : (families : List Family) (s : Contents) (d : Cell) (w : Option Worth) → IsStateOf families s → MayHold families d w
    → IsStateOf families (with_worth s d w)
with_kept families s d w sorted holds c =
    elim (is_same_cell c d) as (λ b. is_same_cell c d ≡ b → MayHold families c (cond b w (s c))) [
      | true ↦ λ e. subst (λ (u : Cell). MayHold families u w) (sym (made_alike cell c.family c.key d.family d.key e)) holds
      | false ↦ λ e. sorted c
    ] refl

module _ (show : Showing) (families : List Family) (keyed has_value : Bool) (x : Event) (key : ℕ) (in_range : nat_lt key key_count ≡ true) where
  without_kept : (f : ℕ) (s : Contents) → IsStateOf families s → IsStateOf families (without_family s f)
  without_kept f s sorted =
      λ c. elim (c.family == f) as (λ b. MayHold families c (cond b None (s c))) [
        | true ↦ tt
        | false ↦ sorted c
      ]

  act_keeps : (a : Act) (s : Contents) → act_fits families keyed has_value a ≡ true → IsStateOf families s
      → IsStateOf families (effect_of_act show families a s x key).cells
  act_keeps (Add r e) s fits sorted =
      let c : Cell = cell_of r key (item_of x) in
      let there = cell_is_there families keyed r key x in_range (and_left _ _ (and_left _ _ fits)) in
      let sort : has_sort (slice_get families r.family) SumSort ≡ true = and_right _ _ (and_left _ _ fits) in
      with_kept families s c _ sorted (may_hold families c SumSort _ sort there (added-holds (s c) (value_of_expr e s x key)))
  act_keeps (Raise r e) s fits sorted =
      let c : Cell = cell_of r key (item_of x) in
      let there = cell_is_there families keyed r key x in_range (and_left _ _ (and_left _ _ fits)) in
      let sort : has_sort (slice_get families r.family) MaxSort ≡ true = and_right _ _ (and_left _ _ fits) in
      let held : HoldsSort MaxSort (s c) = holds_sort families c MaxSort (s c) sort (sorted c) in
      with_kept families s c _ sorted (may_hold families c MaxSort _ sort there (raised-holds (s c) (value_of_expr e s x key) held))
  act_keeps (Set r e) s fits sorted =
      let c : Cell = cell_of r key (item_of x) in
      let there = cell_is_there families keyed r key x in_range (and_left _ _ (and_left _ _ fits)) in
      let sort : has_sort (slice_get families r.family) LastSort ≡ true = and_right _ _ (and_left _ _ fits) in
      with_kept families s c _ sorted (may_hold families c LastSort (Some (Last (value_of_expr e s x key))) sort there tt)
  act_keeps (Clear r) s fits sorted = with_kept families s (cell_of r key (item_of x)) None sorted tt
  act_keeps (ClearFamily f) s fits sorted = without_kept f s sorted
  act_keeps (Emit qs) s fits sorted = sorted
  act_keeps (Flush f qs) s fits sorted = without_kept f s sorted

  pub actions_keep : (all : List Action) (s : Contents) → list_all (action_fits families keyed has_value) all ≡ true → IsStateOf families s
      → IsStateOf families (effect_of_actions show families all s x key).cells
  actions_keep [] s fits sorted = sorted
  actions_keep (a ∷ all) s fits sorted =
      actions_keep all (effect_of_action show families a s x key).cells (and_right _ _ fits)
      (elim (passes_guard a.guard s x key) as (λ b. IsStateOf families (cond b (effect_of_act show families a.act s x key) (changes_to s)).cells) [
        | true ↦ act_keeps a.act s (and_left _ _ (and_left _ _ fits)) sorted
        | false ↦ sorted
      ])
