-- The span of rows: it grows with each source, and tells all ticks. And what holds of each clock of a job.
use Rattle.std.proofs.Common.{◌≡◌, ℕ, zero, suc, ◌+◌, ◌-◌, ◌*◌, ◌/◌, ◌%◌, ◌^◌, ◌<◌, ◌≤◌, min, max, Bool, true, false, List, [], ◌∷◌, ◌++◌, map, length, take}
use Rattle.std.proofs.Common.{Option, Some, None, refl, sym, ap, ◌∙◌, inl, inr, arith, subst}
use Rattle.std.specs.Prelude.{nat_lt, nat_le, ◌==◌, ◌&&◌, ◌||◌, not, slice_get, unwrap_or, Contains, is_some}
use Rattle.std.specs.List.{list_all, list_any, All}
use Rattle.std.specs.Option.{option_map_or}
use Rattle.std.proofs.lemmas.Bool.{cases_lt}
use Rattle.std.proofs.lemmas.Grind.{common_steps}
use Rattle.flu_streams.proofs.Moments.{product_le}
use Rattle.std.proofs.lemmas.List.{append-nil}
use Rattle.std.proofs.lemmas.List.Elements.{All-contains, All-cons, All-nil, All-weaker, All-contains_itself, Contains-append_left, Contains-append_right}
use Rattle.std.proofs.lemmas.List.Elements.{Contains-append_cases}
use Rattle.flu_lemmas.proofs.Containing.{contains_here, contains_later, contains_cases, contains_none, contains_one}
use Rattle.flu_lemmas.proofs.Tests.{and_left, and_right, true_eq, true_le}
use Rattle.flu_model.specs.declared.jobs.Kind.{Kind}
use Rattle.flu_model.specs.declared.jobs.Program.{Program}
use Rattle.flu_model.specs.declared.jobs.Source.{Source}
use Rattle.flu_model.specs.Rules.{is_clock, clock_fits, has_origin, origin_fits, source_fits}
use Rattle.flu_moments.specs.Clocks.{IsSpan, ticks_among}
use Rattle.flu_moments.specs.Moments.{moment}
use Rattle.flu_moments.proofs.NearLemmas.{spans_tell_ticks}
use Rattle.flu_streams.specs.declared.clocks.Span.{Span}
use Rattle.flu_streams.specs.Clocks.{Declared, ticks_of}
use Rattle.flu_streams.specs.LoopClocks.{HasSpan, ranks_in, span_to, span_with}
use Rattle.flu_streams.specs.Tests.{least, greatest}

-- ---- each clock of a job
clock_origin : (kinds : List Kind) (s : Source) (every : ℕ) (o : Option ℕ) → o ≡ Some every → has_origin kinds s o ≡ true → clock_fits kinds every s ≡ true
clock_origin kinds s every None is fits = absurd cc
clock_origin kinds s every (Some k) is fits = let same : k ≡ every = cc in subst (λ n. clock_fits kinds n s ≡ true) same fits

clock_in : (kinds : List Kind) (sources : List Source) (i : ℕ) (s : Source) (every : ℕ) → list_all (source_fits kinds) sources ≡ true
    → slice_get sources i ≡ Some s → s.every ≡ Some every → clock_fits kinds every s ≡ true
clock_in kinds [] i s every fits at is = absurd cc
clock_in kinds (x ∷ xs) zero s every fits at is =
    let same : x ≡ s = cc in
    let one = and_left (source_fits kinds x) _ fits in
    let origin = and_right _ _ (and_left _ _ (and_left _ _ (and_left _ _ (and_left _ _ (and_left _ _ one))))) in
    clock_origin kinds s every s.every is (subst (λ (y : Source). origin_fits kinds y ≡ true) same origin)
clock_in kinds (x ∷ xs) (suc i) s every fits at is = clock_in kinds xs i s every (and_right (source_fits kinds x) _ fits) at is

pub clock_fits_at : (p : Program) (i : ℕ) (s : Source) (every : ℕ) → slice_get p.sources i ≡ Some s → s.every ≡ Some every → clock_fits p.kinds every s ≡ true
clock_fits_at p i s every at is = clock_in p.kinds p.sources i s every p.sources_fit at is

pub period_some : (p : Program) (i : ℕ) (s : Source) (every : ℕ) → slice_get p.sources i ≡ Some s → s.every ≡ Some every → 0 < every
period_some p i s every at is = let le = true_le 1 every
    (and_left _ _ (and_left _ _ (and_left _ _ (and_left _ _ (and_left _ _ (clock_fits_at p i s every at is)))))) in omega (arith, le)

or_later : (a b : Bool) → b ≡ true → (a || b) ≡ true
or_later true b is = refl
or_later false b is = is

pub any_clock : (sources : List Source) (i : ℕ) (s : Source) → slice_get sources i ≡ Some s → is_clock s ≡ true → list_any is_clock sources ≡ true
any_clock [] i s at is = absurd cc
any_clock (x ∷ xs) zero s at is = let same : x ≡ s = cc in ap (λ b. b || list_any is_clock xs) (ap is_clock same ∙ is)
any_clock (x ∷ xs) (suc i) s at is = or_later (is_clock x) (list_any is_clock xs) (any_clock xs i s at is)

version_by : (version clocks : Bool) → (version || not clocks) ≡ true → clocks ≡ true → version ≡ true
version_by true clocks fit any = refl
version_by false true fit any = cc
version_by false false fit any = cc

pub clocks_are_newer : (p : Program) → list_any is_clock p.sources ≡ true → p.version ≡ 3
clocks_are_newer p any = true_eq p.version 3 (version_by (p.version == 3) (list_any is_clock p.sources) p.clocks_fit any)

pub clock_is_newer : (p : Program) (i : ℕ) (s : Source) (every : ℕ) → slice_get p.sources i ≡ Some s → s.every ≡ Some every → p.version ≡ 3
clock_is_newer p i s every at is = clocks_are_newer p (any_clock p.sources i s at (ap is_some is))

pub has_ties : (p : Program) → 1 ≤ p.ties
has_ties p = true_le 1 p.ties (and_left _ _ (and_left _ _ p.known_ties))

-- ---- the span
pub span_tells : (p : Program) (span : Option Span) (ranks : List ℕ) (e : Declared) → HasSpan span ranks
    → ticks_of p (ranks_in span) e ≡ ticks_of p ranks e
span_tells p None ranks e has = ap (λ rs. ticks_of p rs e) (sym has)
span_tells p (Some span) ranks e has = by e.1.every
  where
    by : (o : Option ℕ) → option_map_or (λ every. ticks_among (length p.sources) 1 every (length e.0) (span.first ∷ span.last ∷ [])) o []
        ≡ option_map_or (λ every. ticks_among (length p.sources) 1 every (length e.0) ranks) o []
    by None = refl
    by (Some every) = sym (spans_tell_ticks (length p.sources) 1 every (length e.0) span.first span.last ranks has)

-- the least and the greatest of some times
least_is : (t : ℕ) (ts : List ℕ) → (f : ℕ) × (least (t ∷ ts) ≡ Some f) × Contains (t ∷ ts) f × ((x : ℕ) → Contains (t ∷ ts) x → f ≤ x)
least_is t [] = (t, grind (arith, common_steps), contains_here t [], λ x there. let same = contains_one t x there in omega (arith, same))
least_is t (u ∷ us) =
    let rest = least_is u us in
    let e : least (t ∷ u ∷ us) ≡ Some (min t rest.0) = ap (λ o. Some (min t (unwrap_or o t))) rest.1 in
    let below = λ (x : ℕ) (there : Contains (t ∷ u ∷ us) x).
    elim (contains_cases t x (u ∷ us) there) as (λ w. min t rest.0 ≤ x) [
      | inl same ↦ omega (arith, same)
      | inr later ↦ (let le = rest.3 x later in omega (arith, le))
    ] in
    elim (cases_lt rest.0 t) [
      | inl less ↦ (let same : rest.0 ≡ min t rest.0 = omega (arith, less) in
          (min t rest.0, e, subst (Contains (t ∷ u ∷ us)) same (contains_later t rest.0 (u ∷ us) rest.2), below))
      | inr le ↦ (let same : t ≡ min t rest.0 = omega (arith, le) in
          (min t rest.0, e, subst (Contains (t ∷ u ∷ us)) same (contains_here t (u ∷ us)), below))
    ]

greatest_is : (t : ℕ) (ts : List ℕ) → (l : ℕ) × (greatest (t ∷ ts) ≡ Some l) × Contains (t ∷ ts) l × ((x : ℕ) → Contains (t ∷ ts) x → x ≤ l)
greatest_is t [] = (t, grind (arith, common_steps), contains_here t [], λ x there. let same = contains_one t x there in omega (arith, same))
greatest_is t (u ∷ us) =
    let rest = greatest_is u us in
    let e : greatest (t ∷ u ∷ us) ≡ Some (max t rest.0) = ap (λ o. Some (max t (unwrap_or o 0))) rest.1 in
    let above = λ (x : ℕ) (there : Contains (t ∷ u ∷ us) x).
    elim (contains_cases t x (u ∷ us) there) as (λ w. x ≤ max t rest.0) [
      | inl same ↦ omega (arith, same)
      | inr later ↦ (let le = rest.3 x later in omega (arith, le))
    ] in
    elim (cases_lt t rest.0) [
      | inl less ↦ (let same : rest.0 ≡ max t rest.0 = omega (arith, less) in
          (max t rest.0, e, subst (Contains (t ∷ u ∷ us)) same (contains_later t rest.0 (u ∷ us) rest.2), above))
      | inr le ↦ (let same : t ≡ max t rest.0 = omega (arith, le) in
          (max t rest.0, e, subst (Contains (t ∷ u ∷ us)) same (contains_here t (u ∷ us)), above))
    ]

-- ranks rise with times
module _ (sources number : ℕ) where
  abbrev rank : ℕ → ℕ
  rank time = moment sources 1 time number 0

  rank_le : (a b : ℕ) → a ≤ b → rank a ≤ rank b
  rank_le a b le = let more = product_le a b sources le in omega (arith, more)

  in_ranks : (ts : List ℕ) (m : ℕ) → Contains (map rank ts) m → (t : ℕ) × Contains ts t × (rank t ≡ m)
  in_ranks [] m there = absurd (contains_none m there)
  in_ranks (t ∷ ts) m there =
      elim (contains_cases (rank t) m (map rank ts) there) [
        | inl e ↦ (t, contains_here t ts, e)
        | inr later ↦ (let rest = in_ranks ts m later in (rest.0, contains_later t rest.0 ts rest.1, rest.2))
      ]

  ranks_in_span : (ts : List ℕ) (f l : ℕ) → Contains ts f → Contains ts l → ((x : ℕ) → Contains ts x → f ≤ x) → ((x : ℕ) → Contains ts x → x ≤ l)
      → IsSpan (rank f) (rank l) (map rank ts)
  ranks_in_span ts f l has_f has_l low high = record {
    has_first = rank_there ts f has_f;
    has_last = rank_there ts l has_l;
    between = All-weaker (Contains (map rank ts)) (λ m. (rank f ≤ m) × (m ≤ rank l)) (λ m there.
        let own = in_ranks ts m there in
        let e = own.2 in
        let le = rank_le f own.0 (low own.0 own.1) in
        let ge = rank_le own.0 l (high own.0 own.1) in
        (omega (arith, e, le), omega (arith, e, ge))) (map rank ts) (All-contains_itself (map rank ts));
  }
    where
      rank_there : (ts : List ℕ) (t : ℕ) → Contains ts t → Contains (map rank ts) (rank t)
      rank_there [] t there = absurd (contains_none t there)
      rank_there (u ∷ us) t there =
          elim (contains_cases u t us there) [
            | inl same ↦ subst (λ x. Contains (map rank (u ∷ us)) (rank x)) same (contains_here (rank u) (map rank us))
            | inr later ↦ contains_later (rank u) (rank t) (map rank us) (rank_there us t later)
          ]

-- the span of two lists
joined_span : (a b c d : ℕ) (xs ys : List ℕ) → IsSpan a b xs → IsSpan c d ys → IsSpan (min a c) (max b d) (xs ++ ys)
joined_span a b c d xs ys x y = record {
  has_first = elim (cases_lt a c) [
    | inl less ↦ (let same : a ≡ min a c = omega (arith, less) in subst (Contains (xs ++ ys)) same (Contains-append_left xs ys a x.has_first))
    | inr le ↦ (let same : c ≡ min a c = omega (arith, le) in subst (Contains (xs ++ ys)) same (Contains-append_right xs ys c y.has_first))
  ];
  has_last = elim (cases_lt b d) [
    | inl less ↦ (let same : d ≡ max b d = omega (arith, less) in subst (Contains (xs ++ ys)) same (Contains-append_right xs ys d y.has_last))
    | inr le ↦ (let same : b ≡ max b d = omega (arith, le) in subst (Contains (xs ++ ys)) same (Contains-append_left xs ys b x.has_last))
  ];
  between = All-weaker (Contains (xs ++ ys)) (λ m. (min a c ≤ m) × (m ≤ max b d)) (λ m there.
      elim (Contains-append_cases xs ys m there) [
        | inl left ↦ (let own = All-contains (λ m. (a ≤ m) × (m ≤ b)) xs m x.between left in let low = own.0 in let high = own.1 in
            (omega (arith, low), omega (arith, high)))
        | inr right ↦ (let own = All-contains (λ m. (c ≤ m) × (m ≤ d)) ys m y.between right in let low = own.0 in let high = own.1 in
            (omega (arith, low), omega (arith, high)))
      ]) (xs ++ ys) (All-contains_itself (xs ++ ys));
}

-- THE SPAN GROWS with the rows of one more source, whose least and greatest times are these
pub span_with_has : (sources number : ℕ) (span : Option Span) (first last : Option ℕ) (ranks times : List ℕ) → HasSpan span ranks → least times ≡ first
    → greatest times ≡ last → HasSpan (span_with sources number span first last) (ranks ++ map (λ time. moment sources 1 time number 0) times)
span_with_has sources number span first last ranks [] has low high =
    subst (λ o. HasSpan (span_with sources number span o last) (ranks ++ [])) low (subst (HasSpan span) (sym (append-nil ranks)) has)
span_with_has sources number span first last ranks (t ∷ ts) has low high =
    let f = least_is t ts in
    let l = greatest_is t ts in
    subst (λ o. HasSpan (span_with sources number span o last) (ranks ++ map (λ time. moment sources 1 time number 0) (t ∷ ts))) (sym f.1 ∙ low)
    (subst (λ o. HasSpan (span_with sources number span (Some f.0) o) (ranks ++ map (λ time. moment sources 1 time number 0) (t ∷ ts))) (sym l.1 ∙ high)
    (by span ranks has (rank sources number f.0) (rank sources number l.0) (ranks_in_span sources number (t ∷ ts) f.0 l.0 f.2 l.2 f.3 l.3)))
  where
    by : (span : Option Span) (ranks : List ℕ) → HasSpan span ranks → (low high : ℕ) → IsSpan low high (map (λ time. moment sources 1 time number 0) (t ∷ ts))
        → HasSpan (span_to span low high) (ranks ++ map (λ time. moment sources 1 time number 0) (t ∷ ts))
    by None ranks has low high is = subst (λ rs. IsSpan low high (rs ++ map (λ time. moment sources 1 time number 0) (t ∷ ts))) (sym has) is
    by (Some span) ranks has low high is = joined_span span.first span.last low high ranks (map (λ time. moment sources 1 time number 0) (t ∷ ts)) has is
