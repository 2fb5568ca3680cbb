-- The span of the rows that were read and of rows elsewhere.
use Rattle.std.proofs.Common.{◌≡◌, ℕ, suc, ◌+◌, ◌/◌, ◌<◌, ◌≤◌, min, max, List, [], ◌∷◌, ◌++◌, length, take, Option, Some, None, refl, sym, ap, ◌∙◌, inl, inr, arith}
use Rattle.std.proofs.Common.{subst}
use Rattle.std.specs.Prelude.{Contains}
use Rattle.std.specs.List.{All}
use Rattle.std.proofs.lemmas.Bool.{cases_lt}
use Rattle.std.proofs.lemmas.List.Elements.{All-contains, All-weaker, All-contains_itself, Contains-append_left, Contains-append_right, Contains-append_cases}
use Rattle.flu_lemmas.proofs.Containing.{contains_here, contains_later, contains_cases, contains_none, contains_one}
use Rattle.flu_moments.specs.Clocks.{IsSpan}
use Rattle.flu_streams.specs.declared.clocks.Span.{Span}
use Rattle.flu_streams.specs.LoopClocks.{HasSpan, IsEarly, span_to}

-- the span of some ranks is that of others that have the same members
same_members : (first last : ℕ) (xs ys : List ℕ) → ((m : ℕ) → Contains xs m → Contains ys m) → ((m : ℕ) → Contains ys m → Contains xs m)
    → IsSpan first last xs → IsSpan first last ys
same_members first last xs ys there back is = record {
  has_first = there first is.has_first;
  has_last = there last is.has_last;
  between = All-weaker (Contains ys) (λ m. (first ≤ m) × (m ≤ last))
      (λ m own. All-contains (λ m. (first ≤ m) × (m ≤ last)) xs m is.between (back m own)) ys (All-contains_itself ys);
}

-- with one more rank
one_more : (rank first last : ℕ) (ranks : List ℕ) → IsSpan first last ranks → IsSpan (min first rank) (max last rank) (rank ∷ ranks)
one_more rank first last ranks is = record {
  has_first = elim (cases_lt first rank) [
    | inl less ↦ (let same : first ≡ min first rank = omega (arith, less) in
        subst (Contains (rank ∷ ranks)) same (contains_later rank first ranks is.has_first))
    | inr le ↦ (let same : rank ≡ min first rank = omega (arith, le) in subst (Contains (rank ∷ ranks)) same (contains_here rank ranks))
  ];
  has_last = elim (cases_lt rank last) [
    | inl less ↦ (let same : last ≡ max last rank = omega (arith, less) in
        subst (Contains (rank ∷ ranks)) same (contains_later rank last ranks is.has_last))
    | inr le ↦ (let same : rank ≡ max last rank = omega (arith, le) in subst (Contains (rank ∷ ranks)) same (contains_here rank ranks))
  ];
  between = All-weaker (Contains (rank ∷ ranks)) (λ m. (min first rank ≤ m) × (m ≤ max last rank)) (λ m there.
      elim (contains_cases rank m ranks there) [
        | inl same ↦ (omega (arith, same), omega (arith, same))
        | inr later ↦ (let own = All-contains (λ m. (first ≤ m) × (m ≤ last)) ranks m is.between later in let low = own.0 in let high = own.1 in
            (omega (arith, low), omega (arith, high)))
      ]) (rank ∷ ranks) (All-contains_itself (rank ∷ ranks));
}

-- one rank alone
alone : (rank : ℕ) → IsSpan rank rank (rank ∷ [])
alone rank = record {
  has_first = contains_here rank [];
  has_last = contains_here rank [];
  between = All-weaker (Contains (rank ∷ [])) (λ m. (rank ≤ m) × (m ≤ rank))
      (λ m there. let same = contains_one rank m there in (omega (arith, same), omega (arith, same))) (rank ∷ []) (All-contains_itself (rank ∷ []));
}

-- a rank stands in front of others, or behind some of them
module _ (rank : ℕ) (ys zs : List ℕ) where
  front_there : (m : ℕ) → Contains (rank ∷ ys ++ zs) m → Contains ((ys ++ rank ∷ []) ++ zs) m
  front_there m there =
      elim (contains_cases rank m (ys ++ zs) there) [
        | inl same ↦ subst (Contains ((ys ++ rank ∷ []) ++ zs)) same
            (Contains-append_left (ys ++ rank ∷ []) zs rank (Contains-append_right ys (rank ∷ []) rank (contains_here rank [])))
        | inr later ↦ elim (Contains-append_cases ys zs m later) [
          | inl left ↦ Contains-append_left (ys ++ rank ∷ []) zs m (Contains-append_left ys (rank ∷ []) m left)
          | inr right ↦ Contains-append_right (ys ++ rank ∷ []) zs m right
        ]
      ]

  front_back : (m : ℕ) → Contains ((ys ++ rank ∷ []) ++ zs) m → Contains (rank ∷ ys ++ zs) m
  front_back m there =
      elim (Contains-append_cases (ys ++ rank ∷ []) zs m there) [
        | inl left ↦ elim (Contains-append_cases ys (rank ∷ []) m left) [
          | inl own ↦ contains_later rank m (ys ++ zs) (Contains-append_left ys zs m own)
          | inr one ↦ subst (Contains (rank ∷ ys ++ zs)) (contains_one rank m one) (contains_here rank (ys ++ zs))
        ]
        | inr right ↦ contains_later rank m (ys ++ zs) (Contains-append_right ys zs m right)
      ]

-- THE SPAN GROWS with the rank of a row elsewhere
pub span_to_has : (span : Option Span) (rank : ℕ) (ys zs : List ℕ) → HasSpan span (ys ++ zs) → HasSpan (span_to span rank rank) ((ys ++ rank ∷ []) ++ zs)
span_to_has None rank ys zs has =
    same_members rank rank (rank ∷ ys ++ zs) ((ys ++ rank ∷ []) ++ zs) (front_there rank ys zs) (front_back rank ys zs)
    (subst (λ l. IsSpan rank rank (rank ∷ l)) (sym has) (alone rank))
span_to_has (Some span) rank ys zs has =
    same_members (min span.first rank) (max span.last rank) (rank ∷ ys ++ zs) ((ys ++ rank ∷ []) ++ zs) (front_there rank ys zs) (front_back rank ys zs)
    (one_more rank span.first span.last (ys ++ zs) has)

-- and stays early with one that is
pub span_to_early : (sources end : ℕ) (span : Option Span) (rank : ℕ) → rank / sources < end → IsEarly sources end span
    → IsEarly sources end (span_to span rank rank)
span_to_early sources end None rank early is s at =
    let first : s.first ≡ rank = cc in
    let last : s.last ≡ rank = cc in
    (omega (arith, first, last), subst (λ n. n / sources < end) (sym last) early)
span_to_early sources end (Some span) rank early is s at =
    let own = is span refl in
    let le = own.0 in
    let first : s.first ≡ min span.first rank = cc in
    let last : s.last ≡ max span.last rank = cc in (
      omega (arith, le, first, last),
      subst (λ n. n / sources < end) (sym last) (elim (cases_lt rank span.last) [
        | inl less ↦ (let same : span.last ≡ max span.last rank = omega (arith, less) in subst (λ n. n / sources < end) same own.1)
        | inr more ↦ (let same : rank ≡ max span.last rank = omega (arith, more) in subst (λ n. n / sources < end) same early)
      ]),
    )
