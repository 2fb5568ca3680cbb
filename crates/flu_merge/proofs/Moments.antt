-- The moments of rows are those of the laws of moments, and have the rows' times.
use Rattle.std.proofs.Common.{◌≡◌, ◌≢◌, ℕ, ◌+◌, ◌-◌, ◌*◌, ◌<◌, min, max, Bool, true, false, length, sym, ap, ◌∙◌, arith}
use Rattle.std.specs.Prelude.{◌^◌, ◌==◌, ◌&&◌, ◌||◌, nat_le, if◌then◌else◌}
use Rattle.std.proofs.Math.Nat.{mul_assoc, add-mul}
use Rattle.std.proofs.lemmas.Bool.{ne_eqb}
use Rattle.std.proofs.lemmas.Bool.Decides.{nat_tests}
use Rattle.flu_lemmas.proofs.Tests.{and_right}
use Rattle.flu_model.specs.declared.jobs.Program.{Program}
use Rattle.flu_model.specs.Moments.{time_of_moment, timing_of, moment_at}
use Rattle.flu_streams.proofs.Moments.{time_of-moment, timing_fits}
use Rattle.flu_merge.specs.Moments.{RowsHaveTheirMoments}

-- ---- the moment of a row, with several rows at one time or with one
numbered_by : (several : Bool) (count ties i t n : ℕ) → several ≡ true → i < count → n < ties
    → t * (if several then max 1 count * ties else 1) + (if several then i * ties else 0) + min n (ties - 1) ≡ (t * count + i) * ties + n
numbered_by true count ties i t n is lt few =
    let some : max 1 count ≡ count = omega (arith, lt) in
    let whole : t * (max 1 count * ties) ≡ t * count * ties = ap (λ c. t * (c * ties)) some ∙ sym (mul_assoc t count ties) in
    let parts : (t * count + i) * ties ≡ t * count * ties + i * ties = add-mul (t * count) i ties in
    omega (arith, whole, parts, few)
numbered_by false count ties i t n is lt few = absurd cc

one_tie : (ties : ℕ) → (ties == 1) ≡ true → ties ≡ 1
one_tie ties e = grind (arith, nat_tests)

older_by : (several : Bool) (count ties i t n : ℕ) → several ≡ false → (several || (ties == 1)) ≡ true
    → t * (if several then max 1 count * ties else 1) + (if several then i * ties else 0) + min n (ties - 1) ≡ t
older_by true count ties i t n is one = absurd cc
older_by false count ties i t n is one = let alone = one_tie ties one in omega (arith, alone)

older_moment : (p : Program) (i t n : ℕ) → p.version ≢ 3 → moment_at (timing_of p i) t n ≡ t
older_moment p i t n other =
    older_by (p.version == 3) (length p.sources) p.ties i t n (ne_eqb p.version 3 other)
    (and_right (nat_le 1 p.ties && nat_le p.ties (2 ^ 31)) ((p.version == 3) || (p.ties == 1)) p.known_ties)

pub time_of_row : (p : Program) (i t n : ℕ) → i < length p.sources → time_of_moment p (moment_at (timing_of p i) t n) ≡ t
time_of_row p i t n inside = time_of-moment (timing_of p i) (timing_fits p i inside) t n

pub rows_at_moments : RowsHaveTheirMoments
rows_at_moments = record {
  numbered = λ p i t n third inside few. numbered_by (p.version == 3) (length p.sources) p.ties i t n (ap (λ v. v == 3) third) inside few;
  older = older_moment;
  time = λ p i t n inside. time_of_row p i t n inside;
}
