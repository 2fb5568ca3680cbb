-- What is answered for what was found in a line, and times that are read.
use Rattle.std.proofs.Common.{◌≡◌, ℕ, ◌<◌, ◌^◌, ◌⊎◌, inl, inr, true, false, Option, Some, None, List, Result, refl, sym, ap, subst, ◌∙◌}
use Rattle.std.specs.Prelude.{is_some, option_and_then, IfOk, IfErr, IfSome, MatchResult}
use Rattle.std.specs.Option.{ok_or}
use Rattle.serde_json.specs.Data.{Data, number, unsigned}
use Rattle.serde_json.specs.Find.{as_null, as_number, as_u64}
use Rattle.flu_partial.specs.declared.fault.LineFault.{LineFault}
use Rattle.flu_partial.specs.declared.fault.LineFault.TheVariants.{NotJson, WrongForm, NoMemory}
use Rattle.flu_partial.specs.Forms.{IsShort, IsJsonOf, IsFaultOf}
use Rattle.flu_partial.specs.Partial.{time_or_null, IsTimeOrNone}

-- ---- answers
module _ {X : Type 0} (IsLine : X → List ℕ → Type 0) (bytes : List ℕ) where
  pub line_of_some : (o : Option X) → IfSome o (λ x. IsLine x bytes) → (r : Result X LineFault) → r ≡ ok_or o WrongForm → IfOk r (λ x. IsLine x bytes)
  line_of_some None line r is = subst (λ (u : Result X LineFault). IfOk u (λ x. IsLine x bytes)) (sym is) tt
  line_of_some (Some x) line r is = subst (λ (u : Result X LineFault). IfOk u (λ y. IsLine y bytes)) (sym is) line

  pub fault_of_none : (d : Data) → IsShort bytes → IsJsonOf bytes d → (o : Option X) → ((x : X) → IsLine x bytes → o ≡ Some x)
      → (r : Result X LineFault) → r ≡ ok_or o WrongForm → IfErr r (IsFaultOf IsLine bytes)
  fault_of_none d short json None found r is =
      let none : (x : X) → IsLine x bytes → ⊥ = λ x line. (let e : None ≡ Some x = found x line in absurd cc) in
      subst (λ (u : Result X LineFault). IfErr u (IsFaultOf IsLine bytes)) (sym is) (short, (d, json), none)
  fault_of_none d short json (Some x) found r is = subst (λ (u : Result X LineFault). IfErr u (IsFaultOf IsLine bytes)) (sym is) tt

pub answer_of : {X : Type 0} (x : X) (o : Option X) → o ≡ Some x → (r : Result X LineFault) → r ≡ ok_or o WrongForm
    → MatchResult r (λ y. y ≡ x) (λ e. e ≡ NoMemory)
answer_of {X} x None found r is = absurd cc
answer_of {X} x (Some y) found r is =
    let same : y ≡ x = cc in subst (λ (u : Result X LineFault). MatchResult u (λ z. z ≡ x) (λ e. e ≡ NoMemory)) (sym is) same

pub memory_only : (bytes : List ℕ) (e : LineFault) → (e ≡ NoMemory) ⊎ ((e ≡ NotJson) × ((d : Data) → IsJsonOf bytes d → ⊥))
    → (d : Data) × IsJsonOf bytes d → e ≡ NoMemory
memory_only bytes e (inl h) j = h
memory_only bytes e (inr h) j = absurd (h.1 j.0 j.1)

-- ---- times
pub null_read : (t : Option ℕ) (d : Data) → d ≡ time_or_null t → is_some (as_null d) ≡ true → t ≡ None
null_read None d is e = refl
null_read (Some n) d is e = let x : false ≡ true = sym (ap (λ y. is_some (as_null y)) is) ∙ e in absurd cc

pub record TimeRead (t : Option ℕ) (d : Data) : Type 0 where
  pub time : ℕ
  pub is : t ≡ Some time
  pub fits : time < 2 ^ 63
  pub there : option_and_then as_u64 (as_number d) ≡ Some time

pub time_read : (t : Option ℕ) (d : Data) → IsTimeOrNone t → d ≡ time_or_null t → is_some (as_null d) ≡ false → TimeRead t d
time_read None d fits is e = let x : true ≡ false = sym (ap (λ y. is_some (as_null y)) is) ∙ e in absurd cc
time_read (Some n) d fits is e = record { time = n; is = refl; fits = fits; there = ap (λ y. option_and_then as_u64 (as_number y)) is }
