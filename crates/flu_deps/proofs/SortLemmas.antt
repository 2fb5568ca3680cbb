-- No tag of a job adds to a cell and raises it, since a cell has one sort.
use Rattle.std.proofs.Common.{◌≡◌, ℕ, zero, suc, Bool, true, Option, Some, None, List, [], ◌∷◌, inl, inr, sym, ap, ◌∙◌}
use Rattle.std.specs.Prelude.{◌==◌, slice_get}
use Rattle.std.specs.List.{list_any, list_all}
use Rattle.std.proofs.lemmas.Bool.{or_cases}
use Rattle.flu_lemmas.proofs.Booleans.{three_middle}
use Rattle.flu_lemmas.proofs.Tests.{and_left, and_right, true_eq}
use Rattle.flu_model.specs.declared.events.Cell.{Cell}
use Rattle.flu_model.specs.declared.jobs.Sort.{Sort}
use Rattle.flu_model.specs.declared.jobs.Sort.TheVariants.{Sum, Max, Last}
use Rattle.flu_model.specs.declared.jobs.Family.{Family}
use Rattle.flu_model.specs.declared.jobs.CellRef.{CellRef}
use Rattle.flu_model.specs.declared.jobs.Act.{Act}
use Rattle.flu_model.specs.declared.jobs.Act.TheVariants.{Add, Raise, Set, Clear, ClearFamily, Emit, Flush}
use Rattle.flu_model.specs.declared.jobs.Action.{Action}
use Rattle.flu_model.specs.declared.jobs.Kind.{Kind}
use Rattle.flu_model.specs.declared.jobs.Program.{Program}
use Rattle.flu_model.specs.Modes.{is_at, means, act_adds, act_raises}
use Rattle.flu_model.specs.Rules.{is_sort, has_sort, ref_fits, ref_has_sort, is_good_expr, act_fits, guard_fits, action_fits, kind_fits}
use Rattle.flu_model.specs.Updates.{actions_of}

one_sort_of : (s : Sort) → is_sort s Sum ≡ true → is_sort s Max ≡ true → ⊥
one_sort_of Sum sum max = cc
one_sort_of Max sum max = cc
one_sort_of Last sum max = cc

one_sort_in : (o : Option Family) → has_sort o Sum ≡ true → has_sort o Max ≡ true → ⊥
one_sort_in None sum max = cc
one_sort_in (Some f) sum max = one_sort_of f.sort sum max

module _ (families : List Family) (key : ℕ) (c : Cell) where
  of_ref : (sort : Sort) (r : CellRef) → means key c r ≡ true → ref_has_sort families sort r ≡ true → has_sort (slice_get families c.family) sort ≡ true
  of_ref sort r meant fits =
      ap (λ (f : ℕ). has_sort (slice_get families f) sort) (sym (true_eq r.family c.family (and_left (r.family == c.family) (is_at r.at key c.key) meant)))
      ∙ fits

  of_added : (keyed has_value : Bool) (a : Act) → act_fits families keyed has_value a ≡ true → act_adds key c a ≡ true
      → has_sort (slice_get families c.family) Sum ≡ true
  of_added keyed has_value (Add r e) fits add =
      of_ref Sum r add (three_middle (ref_fits families keyed r) (ref_has_sort families Sum r) (is_good_expr families keyed has_value e) fits)
  of_added keyed has_value (Raise r e) fits add = cc
  of_added keyed has_value (Set r e) fits add = cc
  of_added keyed has_value (Clear r) fits add = cc
  of_added keyed has_value (ClearFamily f) fits add = cc
  of_added keyed has_value (Emit qs) fits add = cc
  of_added keyed has_value (Flush f qs) fits add = cc

  of_raised : (keyed has_value : Bool) (a : Act) → act_fits families keyed has_value a ≡ true → act_raises key c a ≡ true
      → has_sort (slice_get families c.family) Max ≡ true
  of_raised keyed has_value (Add r e) fits raise = cc
  of_raised keyed has_value (Raise r e) fits raise =
      of_ref Max r raise (three_middle (ref_fits families keyed r) (ref_has_sort families Max r) (is_good_expr families keyed has_value e) fits)
  of_raised keyed has_value (Set r e) fits raise = cc
  of_raised keyed has_value (Clear r) fits raise = cc
  of_raised keyed has_value (ClearFamily f) fits raise = cc
  of_raised keyed has_value (Emit qs) fits raise = cc
  of_raised keyed has_value (Flush f qs) fits raise = cc

  of_some : (keyed has_value : Bool) (uses : Act → Bool) (sort : Sort)
      → ((a : Act) → act_fits families keyed has_value a ≡ true → uses a ≡ true → has_sort (slice_get families c.family) sort ≡ true)
      → (all : List Action) → list_all (action_fits families keyed has_value) all ≡ true → list_any (λ (a : Action). uses a.act) all ≡ true
      → has_sort (slice_get families c.family) sort ≡ true
  of_some keyed has_value uses sort one [] fit any = cc
  of_some keyed has_value uses sort one (a ∷ all) fit any =
      elim (or_cases (uses a.act) (list_any (λ (a : Action). uses a.act) all) any) [
        | inl here ↦
            one a.act
            (and_left (act_fits families keyed has_value a.act) (guard_fits families keyed has_value a.guard)
            (and_left (action_fits families keyed has_value a) (list_all (action_fits families keyed has_value) all) fit)) here
        | inr later ↦
            of_some keyed has_value uses sort one all
            (and_right (action_fits families keyed has_value a) (list_all (action_fits families keyed has_value) all) fit) later
      ]

  of_kind : (kinds : List Kind) (n : ℕ) → list_all (kind_fits families) kinds ≡ true
      → list_any (λ (a : Action). act_adds key c a.act) (actions_of (slice_get kinds n)) ≡ true
      → list_any (λ (a : Action). act_raises key c a.act) (actions_of (slice_get kinds n)) ≡ true → ⊥
  of_kind [] n fit add raise = cc
  of_kind (k ∷ ks) zero fit add raise =
      let fits : list_all (action_fits families k.keyed k.has_value) k.actions ≡ true =
      and_right _ _ (and_left (kind_fits families k) (list_all (kind_fits families) ks) fit) in
      one_sort_in (slice_get families c.family) (of_some k.keyed k.has_value (act_adds key c) Sum (of_added k.keyed k.has_value) k.actions fits add)
      (of_some k.keyed k.has_value (act_raises key c) Max (of_raised k.keyed k.has_value) k.actions fits raise)
  of_kind (k ∷ ks) (suc n) fit add raise = of_kind ks n (and_right (kind_fits families k) (list_all (kind_fits families) ks) fit) add raise

pub one_sort : (p : Program) (n key : ℕ) (c : Cell) → list_any (λ (a : Action). act_adds key c a.act) (actions_of (slice_get p.kinds n)) ≡ true
    → list_any (λ (a : Action). act_raises key c a.act) (actions_of (slice_get p.kinds n)) ≡ true → ⊥
one_sort p n key c add raise = of_kind p.families key c p.kinds n p.kinds_fit add raise
