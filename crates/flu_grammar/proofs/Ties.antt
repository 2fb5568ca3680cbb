-- What the number of rows at one time means.
use Rattle.std.proofs.Common.{◌≡◌, ◌≤◌, ◌^◌, ◌⊎◌, ◌<◌, inl, inr, ℕ, Bool, true, false, Option, Some, None, Ok, refl, sym, subst}
use Rattle.std.specs.Prelude.{◌==◌, ◌&&◌, nat_le}
use Rattle.flu_lemmas.specs.Loops.{◌>>◌}
use Rattle.flu_lemmas.proofs.Searches.{eq_true}
use Rattle.flu_lemmas.proofs.Tests.{true_eq, true_le, le_true, and_left, and_right, both}
use Rattle.flu_syntax.specs.declared.tree.WrittenTies.{WrittenTies}
use Rattle.flu_syntax.specs.declared.tree.WrittenHead.{WrittenHead}
use Rattle.flu_layout.specs.Spelling.{written_value}
use Rattle.flu_parse.specs.declared.faults.JobFault.TheVariants as f
use Rattle.flu_parse.specs.Faults.{unless}
use Rattle.flu_parse.specs.Resolving.{ties_counted, ties_of}
use Rattle.flu_grammar.specs.Jobs.{MeansTies, MeansCount}
use Rattle.flu_grammar.proofs.Broken.{not_most}
use Rattle.flu_grammar.proofs.Looks.{ok_same, ok_ok, passed, passes}

-- the number is one that a job may have
abbrev pub is_count : ℕ → Bool
is_count n = nat_le 1 n && nat_le n (2 ^ 31)

pub outside : (n : ℕ) → is_count n ≡ false → (n < 1) ⊎ (2 ^ 31 < n)
outside n fails = by (nat_le 1 n) refl fails
  where
    by : (b : Bool) → nat_le 1 n ≡ b → (b && nat_le n (2 ^ 31)) ≡ false → (n < 1) ⊎ (2 ^ 31 < n)
    by true some fails = inr (not_most n (2 ^ 31) fails)
    by false none fails = inl (not_most 1 n none)

count_means : (version : ℕ) (o : Option WrittenTies) (ties : ℕ) → ties_counted version o ≡ Ok ties → MeansTies version o ties
count_means version None ties e = sym (ok_same 1 ties e)
count_means version (Some written) ties e =
    let value = written_value written.number.value in
    let one = passed (version == 3) (f.WrongShape written.at) (unless (is_count value) (f.WrongShape written.number.at) >> Ok value) ties e in
    let two = passed (is_count value) (f.WrongShape written.number.at) (Ok value) ties one.1 in
    let same : value ≡ ties = ok_same value ties two.1 in (
      true_eq version 3 one.0,
      sym same,
      subst (λ (n : ℕ). 1 ≤ n) same (true_le 1 value (and_left (nat_le 1 value) (nat_le value (2 ^ 31)) two.0)),
      subst (λ (n : ℕ). n ≤ 2 ^ 31) same (true_le value (2 ^ 31) (and_right (nat_le 1 value) (nat_le value (2 ^ 31)) two.0)),
    )

count_found : (version : ℕ) (o : Option WrittenTies) (ties : ℕ) → MeansTies version o ties → ties_counted version o ≡ Ok ties
count_found version None ties h = ok_ok 1 ties (sym h)
count_found version (Some written) ties h =
    let value = written_value written.number.value in
    let some = le_true 1 value (subst (λ (n : ℕ). 1 ≤ n) h.1 h.2) in
    let few = le_true value (2 ^ 31) (subst (λ (n : ℕ). n ≤ 2 ^ 31) h.1 h.3) in
    passes (version == 3) (f.WrongShape written.at) (unless (is_count value) (f.WrongShape written.number.at) >> Ok value) ties (eq_true version 3 h.0)
    (passes (is_count value) (f.WrongShape written.number.at) (Ok value) ties (both (nat_le 1 value) (nat_le value (2 ^ 31)) some few)
    (ok_ok value ties (sym h.1)))

pub ties_is : (version : ℕ) (o : Option WrittenHead) (ties : ℕ) → ties_of version o ≡ Ok ties → MeansCount version o ties
ties_is version None ties e = sym (ok_same 1 ties e)
ties_is version (Some head) ties e = count_means version head.ties ties e

pub ties_found : (version : ℕ) (o : Option WrittenHead) (ties : ℕ) → MeansCount version o ties → ties_of version o ≡ Ok ties
ties_found version None ties h = ok_ok 1 ties (sym h)
ties_found version (Some head) ties h = count_found version head.ties ties h
