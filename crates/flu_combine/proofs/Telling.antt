-- Where the rows of a partial stand: before the end of times.
use Rattle.std.proofs.Common.{◌≡◌, ◌<◌, ◌≤◌, ◌/◌, ℕ, Bool, true, false, Option, Some, None, List, [], ◌∷◌, length, refl, sym, ap, subst, ◌∙◌, cond, arith}
use Rattle.std.specs.Prelude.{◌&&◌, ◌||◌, not, nat_le, nat_lt}
use Rattle.std.specs.List.{list_any, All}
use Rattle.std.proofs.lemmas.List.Elements.{All-cons, All-nil}
use Rattle.std.proofs.lemmas.Nat.{le-div}
use Rattle.std.proofs.Math.Nat.{div-mul-le_self}
use Rattle.flu_lemmas.proofs.Tests.{and_left, and_right, true_le, true_lt}
use Rattle.flu_model.specs.declared.jobs.Program.{Program}
use Rattle.flu_model.specs.declared.jobs.Source.{Source}
use Rattle.flu_model.specs.Moments.{end_of_times}
use Rattle.flu_model.specs.Rules.{is_clock}
use Rattle.flu_streams.specs.Clocks.{AreEarly}
use Rattle.flu_selected.specs.Spans.{span_told, moments_fit}
use Rattle.flu_combine.specs.Partials.{told_by, times_fit}

-- one of the sources of a job with a clock is it
pub some_source : (sources : List Source) → list_any is_clock sources ≡ true → 1 ≤ length sources
some_source [] clocks = absurd cc
some_source (s ∷ sources) clocks = omega arith

pub has_ties : (p : Program) → 1 ≤ p.ties
has_ties p = true_le 1 p.ties (and_left _ _ (and_left _ _ p.known_ties))

div_le : (m n k : ℕ) → 1 ≤ k → m ≤ n → m / k ≤ n / k
div_le m n k some le = let part = div-mul-le_self m k in le-div (m / k) n k (omega (arith, some)) (omega (arith, le, part))

-- the ranks of moments that fit are those of times that rows may have
span_early : (p : Program) (first last : Option ℕ) → list_any is_clock p.sources ≡ true → moments_fit p first last ≡ true
    → AreEarly p (span_told p first last)
span_early p None last clocks fit = All-nil (λ rank. rank / length p.sources < end_of_times p)
span_early p (Some first) None clocks fit = All-nil (λ rank. rank / length p.sources < end_of_times p)
span_early p (Some first) (Some last) clocks fit =
    let end = end_of_times p in
    let n = length p.sources in
    let order = true_le first last (and_left (nat_le first last) (nat_lt (last / p.ties / n) end) fit) in
    let late = true_lt (last / p.ties / n) end (and_right (nat_le first last) (nat_lt (last / p.ties / n) end) fit) in
    let ranks = div_le first last p.ties (has_ties p) order in
    let times = div_le (first / p.ties) (last / p.ties) n (some_source p.sources clocks) ranks in
    All-cons (λ rank. rank / n < end) (first / p.ties) (last / p.ties ∷ []) (omega (arith, late, times))
    (All-cons (λ rank. rank / n < end) (last / p.ties) [] late (All-nil (λ rank. rank / n < end)))

pub told_early : (p : Program) (first last : Option ℕ) → times_fit p first last ≡ true → AreEarly p (told_by p first last)
told_early p first last fit = by (list_any is_clock p.sources) refl fit
  where
    by : (b : Bool) → list_any is_clock p.sources ≡ b → (not b || moments_fit p first last) ≡ true
        → AreEarly p (cond b (span_told p first last) [])
    by true clocks fits = span_early p first last clocks fits
    by false clocks fits = All-nil (λ rank. rank / length p.sources < end_of_times p)

-- of a job with a clock, where both moments are there
pub two_early : (p : Program) (clocks : Bool) → list_any is_clock p.sources ≡ clocks → clocks ≡ true → (first last : Option ℕ) (f l a b : ℕ)
    → first ≡ Some f → last ≡ Some l → a ≡ p.ties → b ≡ p.ties → times_fit p first last ≡ true → AreEarly p (f / a ∷ l / b ∷ [])
two_early p clocks is there first last f l a b one other ties too fit =
    subst (AreEarly p)
    (ap (λ (c : Bool). cond c (span_told p first last) []) (is ∙ there) ∙ (λ i. span_told p (one i) (other i)) ∙ (λ i. f / sym ties i ∷ l / sym too i ∷ []))
    (told_early p first last fit)
