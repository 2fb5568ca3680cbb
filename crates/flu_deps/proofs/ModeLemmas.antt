-- Modes that conflict do so too where more is done to the cell.
use Rattle.std.proofs.Common.{◌≡◌, ℕ, Bool, true, false, cond, ◌⊎◌, inl, inr, refl, sym, ap, ◌∙◌}
use Rattle.std.specs.Prelude.{◌==◌}
use Rattle.flu_model.specs.declared.modes.Mode.{Mode}
use Rattle.flu_model.specs.declared.modes.Mode.TheVariants.{None as NoMode, Add as AddMode, Raise as RaiseMode, Read as ReadMode, Own}
use Rattle.flu_model.specs.Modes.{mixed_mode, mode_in_version_1, mode_with_reads, mode_from, modes_conflict}

-- the second mode is that of a tag that does all that one with the first mode does
abbrev pub Grows : Mode → Mode → Type 0
Grows m n = (m ≡ n) ⊎ ((m ≡ NoMode) ⊎ (n ≡ Own))

wrong : ◌≡◌ {A = Bool} false true → ⊥
wrong e = cc

-- no cell is both added to and raised, since it has one sort
mixed_grows : (a x a2 x2 : Bool) → (a ≡ true → a2 ≡ true) → (x ≡ true → x2 ≡ true) → (a2 ≡ true → x2 ≡ true → ⊥) → Grows (mixed_mode a x) (mixed_mode a2 x2)
mixed_grows true x true x2 adds raises apart = inl refl
mixed_grows true x false x2 adds raises apart = absurd (wrong (adds refl))
mixed_grows false true true true adds raises apart = absurd (apart refl refl)
mixed_grows false true false true adds raises apart = inl refl
mixed_grows false true a2 false adds raises apart = absurd (wrong (raises refl))
mixed_grows false false a2 x2 adds raises apart = inr (inl refl)

module _ (r o a x r2 o2 a2 x2 : Bool) (reads : r ≡ true → r2 ≡ true) (overwrites : o ≡ true → o2 ≡ true) (adds : a ≡ true → a2 ≡ true)
    (raises : x ≡ true → x2 ≡ true) (apart : a2 ≡ true → x2 ≡ true → ⊥) where
  pub grows_in_version_1 : Grows (mode_in_version_1 r o a x) (mode_in_version_1 r2 o2 a2 x2)
  grows_in_version_1 = by_cases r o r2 o2 reads overwrites
    where
      by_cases : (r o r2 o2 : Bool) → (r ≡ true → r2 ≡ true) → (o ≡ true → o2 ≡ true) → Grows (mode_in_version_1 r o a x) (mode_in_version_1 r2 o2 a2 x2)
      by_cases r o true o2 f g = inr (inr refl)
      by_cases r o false true f g = inr (inr refl)
      by_cases true o false false f g = absurd (wrong (f refl))
      by_cases false true false false f g = absurd (wrong (g refl))
      by_cases false false false false f g = mixed_grows a x a2 x2 adds raises apart

  pub grows_with_reads : Grows (mode_with_reads r o a x) (mode_with_reads r2 o2 a2 x2)
  grows_with_reads = by_cases r o r2 o2 reads overwrites
    where
      only_read : (r a x a2 x2 : Bool) → (a ≡ true → a2 ≡ true) → (x ≡ true → x2 ≡ true)
          → Grows (mode_with_reads r false a x) (mode_with_reads true false a2 x2)
      only_read r a x true x2 f g = inr (inr refl)
      only_read r a x false true f g = inr (inr refl)
      only_read r true x false false f g = absurd (wrong (f refl))
      only_read r false true false false f g = absurd (wrong (g refl))
      only_read true false false false false f g = inl refl
      only_read false false false false false f g = inr (inl refl)

      by_cases : (r o r2 o2 : Bool) → (r ≡ true → r2 ≡ true) → (o ≡ true → o2 ≡ true) → Grows (mode_with_reads r o a x) (mode_with_reads r2 o2 a2 x2)
      by_cases r o r2 true f g = inr (inr refl)
      by_cases r true r2 false f g = absurd (wrong (g refl))
      by_cases r false true false f g = only_read r a x a2 x2 adds raises
      by_cases true false false false f g = absurd (wrong (f refl))
      by_cases false false false false f g = mixed_grows a x a2 x2 adds raises apart

pub mode_grows : (v : ℕ) (r o a x r2 o2 a2 x2 : Bool) → (r ≡ true → r2 ≡ true) → (o ≡ true → o2 ≡ true) → (a ≡ true → a2 ≡ true) → (x ≡ true → x2 ≡ true)
    → (a2 ≡ true → x2 ≡ true → ⊥) → Grows (mode_from v r o a x) (mode_from v r2 o2 a2 x2)
mode_grows v r o a x r2 o2 a2 x2 reads overwrites adds raises apart =
    elim (v == 1) as (λ b. Grows (cond b (mode_in_version_1 r o a x) (mode_with_reads r o a x))
    (cond b (mode_in_version_1 r2 o2 a2 x2) (mode_with_reads r2 o2 a2 x2))) [
      | true ↦ grows_in_version_1 r o a x r2 o2 a2 x2 reads overwrites adds raises apart
      | false ↦ grows_with_reads r o a x r2 o2 a2 x2 reads overwrites adds raises apart
    ]

-- ---- conflicts
pub left_used : (m n : Mode) → modes_conflict m n ≡ true → m ≡ NoMode → ⊥
left_used m n e none = let f : modes_conflict NoMode n ≡ true = ap (λ k. modes_conflict k n) (sym none) ∙ e in cc

pub right_used : (m n : Mode) → modes_conflict m n ≡ true → n ≡ NoMode → ⊥
right_used NoMode n e none = cc
right_used AddMode n e none = let f : modes_conflict AddMode NoMode ≡ true = ap (modes_conflict AddMode) (sym none) ∙ e in cc
right_used RaiseMode n e none = let f : modes_conflict RaiseMode NoMode ≡ true = ap (modes_conflict RaiseMode) (sym none) ∙ e in cc
right_used ReadMode n e none = let f : modes_conflict ReadMode NoMode ≡ true = ap (modes_conflict ReadMode) (sym none) ∙ e in cc
right_used Own n e none = let f : modes_conflict Own NoMode ≡ true = ap (modes_conflict Own) (sym none) ∙ e in cc

owner_conflicts : (n : Mode) → (n ≡ NoMode → ⊥) → modes_conflict Own n ≡ true
owner_conflicts NoMode used = absurd (used refl)
owner_conflicts AddMode used = refl
owner_conflicts RaiseMode used = refl
owner_conflicts ReadMode used = refl
owner_conflicts Own used = refl

conflicts_owner : (m : Mode) → (m ≡ NoMode → ⊥) → modes_conflict m Own ≡ true
conflicts_owner NoMode used = absurd (used refl)
conflicts_owner AddMode used = refl
conflicts_owner RaiseMode used = refl
conflicts_owner ReadMode used = refl
conflicts_owner Own used = refl

left_grows : (m m2 n : Mode) → Grows m m2 → modes_conflict m n ≡ true → modes_conflict m2 n ≡ true
left_grows m m2 n (inl same) e = ap (λ k. modes_conflict k n) (sym same) ∙ e
left_grows m m2 n (inr (inl none)) e = absurd (left_used m n e none)
left_grows m m2 n (inr (inr own)) e = ap (λ k. modes_conflict k n) own ∙ owner_conflicts n (right_used m n e)

right_grows : (m n n2 : Mode) → Grows n n2 → modes_conflict m n ≡ true → modes_conflict m n2 ≡ true
right_grows m n n2 (inl same) e = ap (modes_conflict m) (sym same) ∙ e
right_grows m n n2 (inr (inl none)) e = absurd (right_used m n e none)
right_grows m n n2 (inr (inr own)) e = ap (modes_conflict m) own ∙ conflicts_owner m (left_used m n e)

pub conflict_grows : (m n m2 n2 : Mode) → Grows m m2 → Grows n n2 → modes_conflict m n ≡ true → modes_conflict m2 n2 ≡ true
conflict_grows m n m2 n2 f g e = right_grows m2 n n2 g (left_grows m m2 n f e)
