-- The search from an itag, and what it finds.
use Rattle.std.proofs.Common.{◌≡◌, ◌<◌, ◌≤◌, ◌+◌, ℕ, Bool, true, false, cond, List, [], ◌∷◌, ◌++◌, length, get_or, drop, inl, inr, refl, sym, ap, subst, ◌∙◌, arith}
use Rattle.std.specs.Prelude.{Contains, IsTrue, not, ◌↔◌, ◌⊎◌, ◌==◌}
use Rattle.std.specs.List.{filter}
use Rattle.std.proofs.lemmas.Bool.{cases_lt, both_ways, not-true, eqb-true, eqb-false}
use Rattle.std.proofs.lemmas.List.{append-nil, length-append, get_or_append_left, get_or_default, nil_from_length}
use Rattle.std.proofs.lemmas.List.Filters.{length-filter_both}
use Rattle.std.proofs.lemmas.List.Elements.{Contains-append_left, Contains-append_cases, Contains-get_or}
use Rattle.flu_planner.specs.Graphs.{Graph, AreConnected, IsApart, is_rising, least}
use Rattle.flu_lemmas.specs.Counting.{times}
use Rattle.flu_planner.specs.LoopReaching.{IsReached}
use Rattle.flu_planner.proofs.Connections.{kept_where_connected, connected_itself, connected_on, connected_step, connected_back}
use Rattle.flu_lemmas.proofs.Containing.{contains_here, contains_cases, contains_none}
use Rattle.flu_lemmas.proofs.Counting.{times-cons, times_append, times_filter, times_if_contained, contained_if_times}
use Rattle.flu_planner.proofs.Rising.{rising_rest, rising_once, kept, rising_filter}

-- ---- the search
-- Some itags are connected with the first, those of them before a place have no neighbour among the rest, and each itag stands
-- on one side.
pub record IsReaching (g : Graph) (itags : List ℕ) (place : ℕ) (connected rest : List ℕ) : Type 0 where
  pub parts : (k : ℕ) → times k connected + times k rest ≡ times k itags
  pub sizes : length connected + length rest ≡ length itags
  pub start : Contains connected (least itags)
  pub walks : (k : ℕ) → Contains connected k → AreConnected g itags (least itags) k
  pub seen : (d : ℕ) → d < place → (k : ℕ) → Contains rest k → g (get_or connected d 0) k ≡ false
  pub in_order : IsTrue (is_rising rest)
  pub within : place ≤ length connected

pub starts : (g : Graph) (itags : List ℕ) → 0 < length itags → IsTrue (is_rising itags) → IsReaching g itags 0 (get_or itags 0 0 ∷ []) (drop 1 itags)
starts g [] some up = absurd (omega arith)
starts g (x ∷ xs) some up = record {
  parts = λ k. (let one = times-cons k x [] in let all = times-cons k x xs in omega arith);
  sizes = omega arith;
  start = contains_here x [];
  walks = λ k there.
      elim (contains_cases x k [] there) [
        | inl e ↦ subst (AreConnected g (x ∷ xs) x) e (connected_itself g (x ∷ xs) x)
        | inr none ↦ absurd (contains_none k none)
      ];
  seen = λ d lt. absurd (omega arith);
  in_order = rising_rest x xs up;
  within = omega arith;
}

pub goes_on : (g : Graph) (itags : List ℕ) (place : ℕ) (connected rest : List ℕ) → place < length connected → IsReaching g itags place connected rest
    → IsReaching g itags (place + 1) (connected ++ filter (g (get_or connected place 0)) rest) (filter (λ j. not (g (get_or connected place 0) j)) rest)
goes_on g itags place connected rest lt now =
    let i : ℕ = get_or connected place 0 in
    let next : List ℕ = filter (g i) rest in
    let others : List ℕ = filter (λ j. not (g i j)) rest in
    let lengths : length (connected ++ next) ≡ length connected + length next = length-append connected next in
    record {
      parts = λ k. (let one = times_append k connected next in let both = times_filter k (g i) rest in let old = now.parts k in omega arith);
      sizes = (let both = length-filter_both (g i) (λ j. not (g i j)) (λ j. refl) rest in let old = now.sizes in omega arith);
      start = Contains-append_left connected next (least itags) now.start;
      walks = λ k there.
          elim (Contains-append_cases connected next k there) [
            | inl before ↦ now.walks k before
            | inr new ↦
                (let kept_here = kept (g i) rest k new in
                let once = times_if_contained k rest kept_here.0 in
                let old = now.parts k in
                connected_step g itags (least itags) i k (now.walks i (Contains-get_or connected place 0 lt)) kept_here.1
                (contained_if_times k itags (omega arith)))
          ];
      seen = λ d less k there.
          (let kept_here = kept (λ j. not (g i j)) rest k there in
          elim (cases_lt d place) [
            | inl before ↦ ap (λ n. g n k) (get_or_append_left connected next 0 d (omega arith)) ∙ now.seen d before k kept_here.0
            | inr after ↦
                (let same : d ≡ place = omega arith in
                ap (λ n. g n k) (get_or_append_left connected next 0 d (omega arith) ∙ ap (λ n. get_or connected n 0) same) ∙ not-true (g i k) kept_here.1)
          ]);
      in_order = rising_filter (λ j. not (g i j)) rest now.in_order;
      within = omega arith;
    }

-- where no test passes, the others are all
none_kept : (p : ℕ → Bool) (xs : List ℕ) → filter p xs ≡ [] → filter (λ j. not (p j)) xs ≡ xs
none_kept p [] e = refl
none_kept p (x ∷ xs) e = by_test (p x) e (λ none. none_kept p xs none)
  where
    by_test : (b : Bool) → cond b (x ∷ filter p xs) (filter p xs) ≡ [] → (filter p xs ≡ [] → filter (λ j. not (p j)) xs ≡ xs)
        → cond (not b) (x ∷ filter (λ j. not (p j)) xs) (filter (λ j. not (p j)) xs) ≡ x ∷ xs
    by_test true e more = absurd cc
    by_test false e more = ap (λ l. x ∷ l) (more e)

-- an itag to which none of the rest is joined
pub looks_on : (g : Graph) (itags : List ℕ) (place : ℕ) (connected rest : List ℕ) → place < length connected
    → filter (g (get_or connected place 0)) rest ≡ [] → IsReaching g itags place connected rest → IsReaching g itags (place + 1) connected rest
looks_on g itags place connected rest lt none now =
    let i : ℕ = get_or connected place 0 in
    let same : connected ++ filter (g i) rest ≡ connected = ap (λ l. connected ++ l) none ∙ append-nil connected in
    subst (λ l. IsReaching g itags (place + 1) connected l) (none_kept (g i) rest none)
    (subst (λ l. IsReaching g itags (place + 1) l (filter (λ j. not (g i j)) rest)) same (goes_on g itags place connected rest lt now))

-- a place of what stands in a list
place_in : (xs : List ℕ) (x : ℕ) → Contains xs x → (d : ℕ) × (d < length xs) × (get_or xs d 0 ≡ x)
place_in xs x there = (there.0, there.1, get_or_default xs there.0 0 x there.1 ∙ there.2)

pub ends : (g : Graph) (itags : List ℕ) (place : ℕ) (connected rest : List ℕ) → length connected ≤ place → 0 < length itags
    → IsReaching g itags place connected rest → IsReached g itags connected rest
ends g itags place connected rest le some now = record {
  parts = now.parts;
  start = now.start;
  walks = now.walks;
  cut = λ i k there other.
      (let at = place_in connected i there in
      let lt = at.1 in
      ap (λ n. g n k) (sym at.2) ∙ now.seen at.0 (omega arith) k other);
  in_order = now.in_order;
  fewer = (let sizes = now.sizes in let start = now.start.1 in omega arith);
}

-- ---- what is found
module _ (g : Graph) (both : (i j : ℕ) → g i j ≡ g j i) (itags : List ℕ) (up : IsTrue (is_rising itags)) (connected rest : List ℕ)
    (now : IsReached g itags connected rest) where
  pub connected_in : (k : ℕ) → Contains connected k → Contains itags k
  connected_in k there = let once = times_if_contained k connected there in let parts = now.parts k in contained_if_times k itags (omega arith)

  pub rest_in : (k : ℕ) → Contains rest k → Contains itags k
  rest_in k there = let once = times_if_contained k rest there in let parts = now.parts k in contained_if_times k itags (omega arith)

  -- no itag stands on both sides
  pub one_side : (k : ℕ) → Contains connected k → Contains rest k → ⊥
  one_side k here there =
      let a = times_if_contained k connected here in
      let b = times_if_contained k rest there in
      let parts = now.parts k in
      let once = rising_once itags up k in
      absurd (omega arith)

  -- each stands on one
  pub some_side : (k : ℕ) → Contains itags k → Contains connected k ⊎ Contains rest k
  some_side k there =
      let once = times_if_contained k itags there in
      let parts = now.parts k in
      elim (cases_lt 0 (times k connected)) [
        | inl some ↦ inl (contained_if_times k connected (omega arith))
        | inr none ↦ inr
            (contained_if_times k rest (omega arith))
      ]

  -- no walk leads out of what is connected
  pub stays_step : (i j : ℕ) → Contains connected i → Contains itags j → g i j ≡ true → Contains connected j
  stays_step i j here there joined = elim (some_side j there) [ inl one ↦ one | inr other ↦ absurd (both_ways (g i j) (now.cut i j here other) joined) ]

  pub stays : (i j : ℕ) → Contains connected i → AreConnected g itags i j → Contains connected j
  stays i j here c = kept_where_connected g itags (Contains connected) stays_step i j c here

  -- all that is connected is connected with each other
  pub all_connected : (i j : ℕ) → Contains connected i → Contains connected j → AreConnected g itags i j
  all_connected i j one other =
      connected_on g itags i (least itags) j
      (connected_back g itags both (least itags) i (connected_in (least itags) now.start) (now.walks i one)) (now.walks j other)

  pub apart_if_rest : 0 < length rest → IsApart g itags
  apart_if_rest some = record {
    one = least itags;
    other = get_or rest 0 0;
    one_in = connected_in (least itags) now.start;
    other_in = rest_in (get_or rest 0 0) (Contains-get_or rest 0 0 some);
    apart = λ c. one_side (get_or rest 0 0) (stays (least itags) (get_or rest 0 0) now.start c) (Contains-get_or rest 0 0 some);
  }

  side_if_none : (k : ℕ) → rest ≡ [] → Contains itags k → Contains connected k
  side_if_none k none there = elim (some_side k there) [ inl one ↦ one | inr other ↦ absurd (contains_none k (subst (λ xs. Contains xs k) none other)) ]

  pub not_apart_if_none : rest ≡ [] → IsApart g itags → ⊥
  not_apart_if_none none a = a.apart (all_connected a.one a.other (side_if_none a.one none a.one_in) (side_if_none a.other none a.other_in))

pub none_apart : (g : Graph) → IsApart g [] → ⊥
none_apart g a = absurd (contains_none a.one a.one_in)

-- whether there is a rest tells whether the graph is apart
pub rest_tells : (g : Graph) → ((i j : ℕ) → g i j ≡ g j i) → (itags : List ℕ) → IsTrue (is_rising itags) → (connected rest : List ℕ)
    → IsReached g itags connected rest → (b : Bool) → b ≡ (length rest == 0) → IsTrue (not b) ↔ IsApart g itags
rest_tells g both itags up connected rest now true e =
    (λ wrong. cc, λ a. absurd (not_apart_if_none g both itags up connected rest now (nil_from_length rest (eqb-true (length rest) 0 (sym e))) a))
rest_tells g both itags up connected rest now false e =
    (λ right. apart_if_rest g both itags up connected rest now (let some = eqb-false (length rest) 0 (sym e) in omega arith), λ a. refl)

pub none_tells : (g : Graph) (itags : List ℕ) → length itags ≡ 0 → IsTrue false ↔ IsApart g itags
none_tells g itags none = (λ wrong. cc, λ a. absurd (none_apart g (subst (IsApart g) (nil_from_length itags none) a)))
