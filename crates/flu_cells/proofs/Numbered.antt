-- What is read by numbers of cells, each of which has one of its own.
use Rattle.std.proofs.Common.{◌≡◌, ◌<◌, ◌≤◌, ◌+◌, ℕ, Bool, true, false, cond, Option, None, refl, sym, ap, ◌∙◌, arith}
use Rattle.std.specs.Prelude.{◌==◌, nat_lt}
use Rattle.std.proofs.lemmas.Bool.{eqb-false, ltb-false}
use Rattle.flu_lemmas.proofs.Tests.{true_lt, not_both}
use Rattle.flu_lemmas.proofs.TwoNumbers.{made_alike}
use Rattle.flu_model.specs.declared.events.Cell.{Cell}
use Rattle.flu_model.specs.declared.events.Worth.{Worth}
use Rattle.flu_model.specs.Contents.{Contents, cell, is_same_cell, with_worth}
use Rattle.flu_dense.specs.Values.{with_value}

-- a cell that passes a test is another one than a cell that does not
pub apart : (is : Cell → Bool) (c d : Cell) → is c ≡ true → is d ≡ false → is_same_cell d c ≡ false
apart is c d passes fails =
    elim (is_same_cell d c) as (λ b. is_same_cell d c ≡ b → b ≡ false) [
      | true ↦ λ same. absurd (not_both (is d) (ap is (made_alike cell d.family d.key c.family c.key same) ∙ passes) fails)
      | false ↦ λ other. refl
    ] refl

-- what the cells that have numbers hold
abbrev pub numbered : (Cell → Bool) → (Cell → ℕ) → (ℕ → Option Worth) → Contents
numbered is number m = λ c. cond (is c) (m (number c)) None

pub numbered-with : (is : Cell → Bool) (number : Cell → ℕ)
    → ((c d : Cell) → is c ≡ true → is d ≡ true → (number d == number c) ≡ is_same_cell d c)
    → (m n : ℕ → Option Worth) (c : Cell) (w : Option Worth) → is c ≡ true → n ≡ with_value m (number c) w
    → numbered is number n ≡ with_worth (numbered is number m) c w
numbered-with is number one m n c w here changed = λ i d. at d i
  where
    at : (d : Cell) → numbered is number n d ≡ with_worth (numbered is number m) c w d
    at d =
        elim (is d) as (λ b. is d ≡ b → cond b (n (number d)) None ≡ cond (is_same_cell d c) w (cond b (m (number d)) None)) [
          | true ↦ λ passes. ap (λ f. f (number d)) changed ∙ ap (λ b. cond b w (m (number d))) (one c d here passes)
          | false ↦ λ fails. ap (λ b. cond {A = Option Worth} b w None) (sym (apart is c d here fails))
        ] refl

-- ---- values that are taken out, one after another
pub below_slot : (m then : ℕ → Option Worth) (from slot : ℕ) → then ≡ with_value m slot None → ((s : ℕ) → s < from → m s ≡ None)
    → ((s : ℕ) → from ≤ s → s < slot → m s ≡ None) → (s : ℕ) → s < slot + 1 → then s ≡ None
below_slot m then from slot changed before between s lt =
    ap (λ n. n s) changed
    ∙ elim (s == slot) as (λ b. (s == slot) ≡ b → cond b None (m s) ≡ None) [
      | true ↦ λ e. refl
      | false ↦ λ e.
          elim (nat_lt s from) as (λ b. nat_lt s from ≡ b → m s ≡ None) [
            | true ↦ λ below. before s (true_lt s from below)
            | false ↦ λ above. between s (ltb-false s from above) (omega (arith, eqb-false s slot e))
          ] refl
    ] refl

pub all_slots : (m : ℕ → Option Worth) (from : ℕ) → ((s : ℕ) → s < from → m s ≡ None) → ((s : ℕ) → from ≤ s → m s ≡ None) → (s : ℕ) → m s ≡ None
all_slots m from before behind s =
    elim (nat_lt s from) as (λ b. nat_lt s from ≡ b → m s ≡ None) [
      | true ↦ λ below. before s (true_lt s from below)
      | false ↦ λ above. behind s (ltb-false s from above)
    ] refl
