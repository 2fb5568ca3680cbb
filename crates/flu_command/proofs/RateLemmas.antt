-- The rates of a job's itags: one for each, and none above the greatest that a source has.
use Rattle.std.proofs.Common.{◌≡◌, sym, ap, ◌∙◌, subst, ℕ, zero, suc, ◌+◌, ◌≤◌, ◌<◌, ◌^◌, List, [], ◌∷◌, ◌++◌, length, get_or, map, true, arith}
use Rattle.std.specs.Prelude.{EachIndex, slice_index}
use Rattle.std.specs.List.{range_with_len}
use Rattle.std.proofs.lemmas.List.FromFn.{length-map-range_with_len, get_or-map-range_with_len, map-range_with_len_more}
use Rattle.flu_lemmas.proofs.Tests.{and_left, and_right, true_le}
use Rattle.flu_model.specs.declared.jobs.Kind.{Kind}
use Rattle.flu_model.specs.declared.jobs.Program.{Program}
use Rattle.flu_model.specs.declared.jobs.Source.{Source}
use Rattle.flu_model.specs.Itags.{count_of_itags, source_of_itag}
use Rattle.flu_model.specs.Rules.{source_fits, are_sources}
use Rattle.flu_command.specs.Rates.{rate_of_source, source_rates}

source_rate : (kinds : List Kind) (s : Source) → source_fits kinds s ≡ true → s.rate ≤ 1000000000
source_rate kinds s fits = true_le s.rate 1000000000 (and_right _ _ (and_left _ _ (and_left _ _ (and_left _ _ (and_left _ _ fits)))))

-- a declared source keeps the limit
rate_is_small : (kinds : List Kind) (sources : List Source) (number : ℕ) → are_sources kinds sources ≡ true → rate_of_source sources number ≤ 1000000000
rate_is_small kinds [] number fit = omega arith
rate_is_small kinds (s ∷ sources) zero fit = source_rate kinds s (and_left (source_fits kinds s) _ fit)
rate_is_small kinds (s ∷ sources) (suc number) fit = rate_is_small kinds sources number (and_right (source_fits kinds s) _ fit)

-- the rate of an itag by its number
abbrev pub rate_at : Program → ℕ → ℕ
rate_at p i = rate_of_source p.sources (source_of_itag p (record { 0 = i }))

-- one rate more
pub rates_more : (p : Program) (number rate : ℕ) (old new : List ℕ) → old ≡ map (rate_at p) (range_with_len 0 number) → rate ≡ rate_at p number
    → new ≡ old ++ rate ∷ [] → new ≡ map (rate_at p) (range_with_len 0 (number + 1))
rates_more p number rate old new so_far is pushed =
    pushed ∙ ((λ i. so_far i ++ is i ∷ []) ∙ sym (map-range_with_len_more (rate_at p) 0 number number (omega arith)))

-- the rates of all itags
pub all_rates : (p : Program) (number : ℕ) (rates : List ℕ) → number ≡ count_of_itags p → rates ≡ map (rate_at p) (range_with_len 0 number)
    → rates ≡ source_rates p
unfolding source_rates
all_rates p number rates all is = is ∙ ap (λ n. map (rate_at p) (range_with_len 0 n)) all

pub one_rate_each : (p : Program) → length (source_rates p) ≡ count_of_itags p
unfolding source_rates
one_rate_each p = length-map-range_with_len (rate_at p) 0 (count_of_itags p)

pub rates_are_small : (p : Program) → EachIndex (source_rates p) (λ k. slice_index (source_rates p) k ≤ 2 ^ 40)
unfolding source_rates
rates_are_small p = λ k within.
    let n = count_of_itags p in
    let lt : k < n = subst (λ (m : ℕ). k < m) (length-map-range_with_len (rate_at p) 0 n) within in
    let is : get_or (map (rate_at p) (range_with_len 0 n)) k 0 ≡ rate_at p k = get_or-map-range_with_len (rate_at p) 0 n k k 0 lt (omega arith) in
    let small = rate_is_small p.kinds p.sources (source_of_itag p (record { 0 = k })) p.sources_fit in
    omega (arith, is, small)
