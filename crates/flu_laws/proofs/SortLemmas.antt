-- A cell that a job's actions add to or raise is of a family of that sort.
use Rattle.std.proofs.Common.{◌≡◌, ℕ, Bool, true, false, Option, Some, None, List, sym, ap, ◌∙◌}
use Rattle.std.specs.Prelude.{◌==◌, slice_get}
use Rattle.std.specs.List.{list_any, list_all}
use Rattle.flu_model.specs.declared.events.Cell.{Cell}
use Rattle.flu_model.specs.declared.jobs.Sort.{Sort}
use Rattle.flu_model.specs.declared.jobs.Sort.TheVariants.{Sum as SumSort, Max as MaxSort, Last as LastSort}
use Rattle.flu_model.specs.declared.jobs.Family.{Family}
use Rattle.flu_model.specs.declared.jobs.CellRef.{CellRef}
use Rattle.flu_model.specs.declared.jobs.Act.{Act}
use Rattle.flu_model.specs.declared.jobs.Act.TheVariants.{Add, Raise, Set, Clear, ClearFamily, Emit, Flush}
use Rattle.flu_model.specs.declared.jobs.Action.{Action}
use Rattle.flu_model.specs.Rules.{has_sort, is_sort, act_fits, action_fits}
use Rattle.flu_model.specs.Modes.{means, act_adds, act_raises}
use Rattle.flu_lemmas.proofs.Elements.{from_any}
use Rattle.flu_lemmas.proofs.Tests.{and_left, and_right, true_eq, false_if_not}

meant_sort : (families : List Family) (key : ℕ) (c : Cell) (r : CellRef) (sort : Sort) → means key c r ≡ true
    → has_sort (slice_get families r.family) sort ≡ true → has_sort (slice_get families c.family) sort ≡ true
meant_sort families key c r sort m e =
    ap (λ f. has_sort (slice_get families f) sort) (sym (true_eq r.family c.family (and_left (r.family == c.family) _ m))) ∙ e

act_adds-sort : (families : List Family) (keyed has_value : Bool) (key : ℕ) (c : Cell) (a : Act) → act_fits families keyed has_value a ≡ true
    → act_adds key c a ≡ true → has_sort (slice_get families c.family) SumSort ≡ true
act_adds-sort families keyed has_value key c (Add r e) fits m = meant_sort families key c r SumSort m (and_right _ _ (and_left _ _ fits))
act_adds-sort families keyed has_value key c (Raise r e) fits m = cc
act_adds-sort families keyed has_value key c (Set r e) fits m = cc
act_adds-sort families keyed has_value key c (Clear r) fits m = cc
act_adds-sort families keyed has_value key c (ClearFamily f) fits m = cc
act_adds-sort families keyed has_value key c (Emit qs) fits m = cc
act_adds-sort families keyed has_value key c (Flush f qs) fits m = cc

act_raises-sort : (families : List Family) (keyed has_value : Bool) (key : ℕ) (c : Cell) (a : Act) → act_fits families keyed has_value a ≡ true
    → act_raises key c a ≡ true → has_sort (slice_get families c.family) MaxSort ≡ true
act_raises-sort families keyed has_value key c (Add r e) fits m = cc
act_raises-sort families keyed has_value key c (Raise r e) fits m = meant_sort families key c r MaxSort m (and_right _ _ (and_left _ _ fits))
act_raises-sort families keyed has_value key c (Set r e) fits m = cc
act_raises-sort families keyed has_value key c (Clear r) fits m = cc
act_raises-sort families keyed has_value key c (ClearFamily f) fits m = cc
act_raises-sort families keyed has_value key c (Emit qs) fits m = cc
act_raises-sort families keyed has_value key c (Flush f qs) fits m = cc

pub adds-sort : (families : List Family) (keyed has_value : Bool) (key : ℕ) (c : Cell) (all : List Action)
    → list_all (action_fits families keyed has_value) all ≡ true → list_any (λ (a : Action). act_adds key c a.act) all ≡ true
    → has_sort (slice_get families c.family) SumSort ≡ true
adds-sort families keyed has_value key c all fits any =
    from_any (action_fits families keyed has_value) (λ (a : Action). act_adds key c a.act) all fits any
    (λ a f m. act_adds-sort families keyed has_value key c a.act (and_left _ _ f) m)

pub raises-sort : (families : List Family) (keyed has_value : Bool) (key : ℕ) (c : Cell) (all : List Action)
    → list_all (action_fits families keyed has_value) all ≡ true → list_any (λ (a : Action). act_raises key c a.act) all ≡ true
    → has_sort (slice_get families c.family) MaxSort ≡ true
raises-sort families keyed has_value key c all fits any =
    from_any (action_fits families keyed has_value) (λ (a : Action). act_raises key c a.act) all fits any
    (λ a f m. act_raises-sort families keyed has_value key c a.act (and_left _ _ f) m)

-- no family is both of sums and of maxima
pub not_sum_and_max : (o : Option Family) → has_sort o SumSort ≡ true → has_sort o MaxSort ≡ true → ⊥
not_sum_and_max None e f = cc
not_sum_and_max (Some f) e g = by_sort f.sort e g
  where
    by_sort : (sort : Sort) → is_sort sort SumSort ≡ true → is_sort sort MaxSort ≡ true → ⊥
    by_sort SumSort e g = cc
    by_sort MaxSort e g = cc
    by_sort LastSort e g = cc

-- what is added to is not raised
pub adds_only : (families : List Family) (keyed has_value : Bool) (key : ℕ) (c : Cell) (all : List Action)
    → list_all (action_fits families keyed has_value) all ≡ true → list_any (λ (a : Action). act_adds key c a.act) all ≡ true
    → list_any (λ (a : Action). act_raises key c a.act) all ≡ false
adds_only families keyed has_value key c all fits adds =
    false_if_not (list_any (λ (a : Action). act_raises key c a.act) all)
    (λ raises. not_sum_and_max (slice_get families c.family) (adds-sort families keyed has_value key c all fits adds)
    (raises-sort families keyed has_value key c all fits raises))
