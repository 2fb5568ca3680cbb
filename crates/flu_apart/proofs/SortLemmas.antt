-- A tag that adds to a cell, and one that raises it, are of families of different sorts.
use Rattle.std.proofs.Common.{◌≡◌, ℕ, zero, suc, Bool, true, false, cond, Option, Some, None, List, [], ◌∷◌, inl, inr, refl, sym, ap, ◌∙◌}
use Rattle.std.specs.Prelude.{◌==◌, slice_get}
use Rattle.std.specs.List.{list_any, list_all}
use Rattle.std.proofs.lemmas.Bool.{or_cases}
use Rattle.flu_lemmas.proofs.Booleans.{three_middle}
use Rattle.flu_lemmas.proofs.Tests.{and_left, and_right, true_eq}
use Rattle.flu_model.specs.declared.events.Cell.{Cell}
use Rattle.flu_model.specs.declared.events.Tag.{Tag}
use Rattle.flu_model.specs.declared.jobs.Sort.{Sort}
use Rattle.flu_model.specs.declared.jobs.Sort.TheVariants.{Sum, Max, Last}
use Rattle.flu_model.specs.declared.jobs.Family.{Family}
use Rattle.flu_model.specs.declared.jobs.CellRef.{CellRef}
use Rattle.flu_model.specs.declared.jobs.Act.{Act}
use Rattle.flu_model.specs.declared.jobs.Act.TheVariants.{Add, Raise, Set, Clear, ClearFamily, Emit, Flush}
use Rattle.flu_model.specs.declared.jobs.Action.{Action}
use Rattle.flu_model.specs.declared.jobs.Kind.{Kind}
use Rattle.flu_model.specs.declared.jobs.Program.{Program}
use Rattle.flu_model.specs.declared.modes.Mode.TheVariants.{Add as AddMode, Raise as RaiseMode}
use Rattle.flu_model.specs.Modes.{is_at, means, action_reads, act_overwrites, act_adds, act_raises}
use Rattle.flu_model.specs.Modes.{mode_in_version_1, mode_with_reads, mode_from, mode_of}
use Rattle.flu_model.specs.Rules.{is_sort, has_sort, ref_fits, ref_has_sort, is_good_expr, act_fits, guard_fits, action_fits, kind_fits}
use Rattle.flu_model.specs.Updates.{actions_of}

one_sort_of : (s : Sort) → is_sort s Sum ≡ true → is_sort s Max ≡ true → ⊥
one_sort_of Sum sum max = cc
one_sort_of Max sum max = cc
one_sort_of Last sum max = cc

pub one_sort_in : (o : Option Family) → has_sort o Sum ≡ true → has_sort o Max ≡ true → ⊥
one_sort_in None sum max = cc
one_sort_in (Some f) sum max = one_sort_of f.sort sum max

module _ (families : List Family) (key : ℕ) (c : Cell) where
  of_ref : (sort : Sort) (r : CellRef) → means key c r ≡ true → ref_has_sort families sort r ≡ true → has_sort (slice_get families c.family) sort ≡ true
  of_ref sort r meant fits =
      ap (λ (f : ℕ). has_sort (slice_get families f) sort) (sym (true_eq r.family c.family (and_left (r.family == c.family) (is_at r.at key c.key) meant)))
      ∙ fits

  of_added : (keyed has_value : Bool) (a : Act) → act_fits families keyed has_value a ≡ true → act_adds key c a ≡ true
      → has_sort (slice_get families c.family) Sum ≡ true
  of_added keyed has_value (Add r e) fits add =
      of_ref Sum r add (three_middle (ref_fits families keyed r) (ref_has_sort families Sum r) (is_good_expr families keyed has_value e) fits)
  of_added keyed has_value (Raise r e) fits add = cc
  of_added keyed has_value (Set r e) fits add = cc
  of_added keyed has_value (Clear r) fits add = cc
  of_added keyed has_value (ClearFamily f) fits add = cc
  of_added keyed has_value (Emit qs) fits add = cc
  of_added keyed has_value (Flush f qs) fits add = cc

  of_raised : (keyed has_value : Bool) (a : Act) → act_fits families keyed has_value a ≡ true → act_raises key c a ≡ true
      → has_sort (slice_get families c.family) Max ≡ true
  of_raised keyed has_value (Add r e) fits raise = cc
  of_raised keyed has_value (Raise r e) fits raise =
      of_ref Max r raise (three_middle (ref_fits families keyed r) (ref_has_sort families Max r) (is_good_expr families keyed has_value e) fits)
  of_raised keyed has_value (Set r e) fits raise = cc
  of_raised keyed has_value (Clear r) fits raise = cc
  of_raised keyed has_value (ClearFamily f) fits raise = cc
  of_raised keyed has_value (Emit qs) fits raise = cc
  of_raised keyed has_value (Flush f qs) fits raise = cc

  module _ (does : Act → Bool) (sort : Sort)
      (one : (keyed has_value : Bool) (a : Act) → act_fits families keyed has_value a ≡ true → does a ≡ true
      → has_sort (slice_get families c.family) sort ≡ true) where
    of_some : (keyed has_value : Bool) (all : List Action) → list_all (action_fits families keyed has_value) all ≡ true
        → list_any (λ (a : Action). does a.act) all ≡ true → has_sort (slice_get families c.family) sort ≡ true
    of_some keyed has_value [] fit any = cc
    of_some keyed has_value (a ∷ all) fit any =
        elim (or_cases (does a.act) (list_any (λ (a : Action). does a.act) all) any) [
          | inl here ↦
              one keyed has_value a.act
              (and_left (act_fits families keyed has_value a.act) (guard_fits families keyed has_value a.guard)
              (and_left (action_fits families keyed has_value a) (list_all (action_fits families keyed has_value) all) fit)) here
          | inr later ↦
              of_some keyed has_value all
              (and_right (action_fits families keyed has_value a) (list_all (action_fits families keyed has_value) all) fit) later
        ]

    of_kind : (kinds : List Kind) (n : ℕ) → list_all (kind_fits families) kinds ≡ true
        → list_any (λ (a : Action). does a.act) (actions_of (slice_get kinds n)) ≡ true → has_sort (slice_get families c.family) sort ≡ true
    of_kind [] n fit any = cc
    of_kind (k ∷ ks) zero fit any =
        of_some k.keyed k.has_value k.actions (and_right _ _ (and_left (kind_fits families k) (list_all (kind_fits families) ks) fit)) any
    of_kind (k ∷ ks) (suc n) fit any = of_kind ks n (and_right (kind_fits families k) (list_all (kind_fits families) ks) fit) any

-- ---- modes
adds_if : (v : ℕ) (r o a x : Bool) → mode_from v r o a x ≡ AddMode → a ≡ true
adds_if v r o a x = elim (v == 1) as (λ b. cond b (mode_in_version_1 r o a x) (mode_with_reads r o a x) ≡ AddMode → a ≡ true) [
  | true ↦ in_first r o a x
  | false ↦ in_later r o a x
]
  where
    in_first : (r o a x : Bool) → mode_in_version_1 r o a x ≡ AddMode → a ≡ true
    in_first true o a x e = cc
    in_first false true a x e = cc
    in_first false false true x e = refl
    in_first false false false true e = cc
    in_first false false false false e = cc

    in_later : (r o a x : Bool) → mode_with_reads r o a x ≡ AddMode → a ≡ true
    in_later r true a x e = cc
    in_later r false true x e = refl
    in_later true false false true e = cc
    in_later true false false false e = cc
    in_later false false false true e = cc
    in_later false false false false e = cc

raises_if : (v : ℕ) (r o a x : Bool) → mode_from v r o a x ≡ RaiseMode → x ≡ true
raises_if v r o a x = elim (v == 1) as (λ b. cond b (mode_in_version_1 r o a x) (mode_with_reads r o a x) ≡ RaiseMode → x ≡ true) [
  | true ↦ in_first r o a x
  | false ↦ in_later r o a x
]
  where
    in_first : (r o a x : Bool) → mode_in_version_1 r o a x ≡ RaiseMode → x ≡ true
    in_first r o a true e = refl
    in_first true o a false e = cc
    in_first false true a false e = cc
    in_first false false true false e = cc
    in_first false false false false e = cc

    in_later : (r o a x : Bool) → mode_with_reads r o a x ≡ RaiseMode → x ≡ true
    in_later r o a true e = refl
    in_later r true a false e = cc
    in_later true false true false e = cc
    in_later true false false false e = cc
    in_later false false true false e = cc
    in_later false false false false e = cc

module _ (p : Program) (t : Tag) (c : Cell) where
  abbrev all : List Action
  all = actions_of (slice_get p.kinds t.kind)

  pub added_is_sum : mode_of p t c ≡ AddMode → has_sort (slice_get p.families c.family) Sum ≡ true
  added_is_sum e =
      of_kind p.families t.key c (act_adds t.key c) Sum (of_added p.families t.key c) p.kinds t.kind p.kinds_fit
      (adds_if p.version (list_any (action_reads t.key c) all) (list_any (λ (a : Action). act_overwrites t.key c a.act) all)
      (list_any (λ (a : Action). act_adds t.key c a.act) all) (list_any (λ (a : Action). act_raises t.key c a.act) all) e)

  pub raised_is_max : mode_of p t c ≡ RaiseMode → has_sort (slice_get p.families c.family) Max ≡ true
  raised_is_max e =
      of_kind p.families t.key c (act_raises t.key c) Max (of_raised p.families t.key c) p.kinds t.kind p.kinds_fit
      (raises_if p.version (list_any (action_reads t.key c) all) (list_any (λ (a : Action). act_overwrites t.key c a.act) all)
      (list_any (λ (a : Action). act_adds t.key c a.act) all) (list_any (λ (a : Action). act_raises t.key c a.act) all) e)
