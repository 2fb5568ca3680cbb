-- The components, found one after another.
use Rattle.std.proofs.Common.{◌≡◌, ◌<◌, ◌≤◌, ◌+◌, ℕ, Bool, true, false, cond, List, [], ◌∷◌, inl, inr, refl, sym, ap, subst, ◌∙◌, arith}
use Rattle.std.specs.Prelude.{Contains, IsTrue, ◌&&◌, ◌==◌, nat_lt, ◌⊎◌}
use Rattle.std.proofs.lemmas.Bool.{cases_lt, cases_eq, both_ways, or_cases, or_left, or_right}
use Rattle.std.proofs.lemmas.Bool.{and_parts, and_from, lt-ltb, ltb-true, ltb-false, eqb-true, eq-eqb}
use Rattle.flu_lemmas.specs.Sorting.{put_in_order}
use Rattle.flu_lemmas.specs.Totals.{total}
use Rattle.flu_planner.specs.Graphs.{Graph, IsComponent, AreComponents, IsInTurn, comes_first, is_rising, least, rising, total_rate}
use Rattle.flu_lemmas.specs.Counting.{times}
use Rattle.flu_planner.specs.LoopReaching.{has_greater_total, IsReached}
use Rattle.flu_planner.proofs.Connections.{kept_where_connected, connected_within}
use Rattle.flu_lemmas.proofs.Containing.{contains_here, contains_later, contains_cases, contains_none}
use Rattle.flu_lemmas.proofs.Counting.{times_in_order, times_if_contained, contained_if_times}
use Rattle.flu_planner.proofs.Rising.{rising_above, rising_once, rising_in_order}
use Rattle.flu_planner.proofs.TreeParts.{IsPart}
use Rattle.flu_planner.proofs.Searching.{connected_in, rest_in, one_side, some_side, stays_step, all_connected}

-- ---- an element put in order among others
contains_put : {X : Type 0} (before : X → X → Bool) (x : X) (ys : List X) (z : X) → Contains (put_in_order before x ys) z → (x ≡ z) ⊎ Contains ys z
contains_put before x [] z there = elim (contains_cases x z [] there) [ inl e ↦ inl e | inr none ↦ absurd (contains_none z none) ]
contains_put before x (y ∷ ys) z there =
    elim (before x y) as (λ b. Contains (cond b (x ∷ y ∷ ys) (y ∷ put_in_order before x ys)) z → (x ≡ z) ⊎ Contains (y ∷ ys) z) [
      | true ↦ λ here. contains_cases x z (y ∷ ys) here
      | false ↦ λ here.
          elim (contains_cases y z (put_in_order before x ys) here) [
            | inl e ↦ inr (subst (Contains (y ∷ ys)) e (contains_here y ys))
            | inr later ↦ elim (contains_put before x ys z later) [ inl e ↦ inl e | inr more ↦ inr (contains_later y z ys more) ]
          ]
    ] there

total_put : {X : Type 0} (f : X → ℕ) (before : X → X → Bool) (x : X) (ys : List X) → total f (put_in_order before x ys) ≡ f x + total f ys
total_put f before x [] = refl
total_put f before x (y ∷ ys) =
    elim (before x y) as (λ b. total f (cond b (x ∷ y ∷ ys) (y ∷ put_in_order before x ys)) ≡ f x + (f y + total f ys)) [
      | true ↦ refl
      | false ↦ (let rest : total f (put_in_order before x ys) ≡ f x + total f ys = total_put f before x ys in omega (arith, rest))
    ]

-- ---- the order of components
first_by_total : (rates a b : List ℕ) → total_rate rates b < total_rate rates a → comes_first rates a b ≡ true
first_by_total rates a b lt = or_left (nat_lt (total_rate rates b) (total_rate rates a)) _ (lt-ltb (total_rate rates b) (total_rate rates a) lt)

first_by_least : (rates a b : List ℕ) → total_rate rates b ≤ total_rate rates a → least a < least b → comes_first rates a b ≡ true
first_by_least rates a b le lt =
    elim (cases_lt (total_rate rates b) (total_rate rates a)) [
      | inl less ↦ first_by_total rates a b less
      | inr ge ↦
          (let same : total_rate rates a ≡ total_rate rates b = omega arith in
          or_right (nat_lt (total_rate rates b) (total_rate rates a)) (total_rate rates a == total_rate rates b && nat_lt (least a) (least b))
          (and_from (total_rate rates a == total_rate rates b) (nat_lt (least a) (least b)) (eq-eqb (total_rate rates a) (total_rate rates b) same)
          (lt-ltb (least a) (least b) lt)))
    ]

first_not_less : (rates a b : List ℕ) → comes_first rates a b ≡ true → total_rate rates b ≤ total_rate rates a
first_not_less rates a b first =
    elim (or_cases (nat_lt (total_rate rates b) (total_rate rates a)) (total_rate rates a == total_rate rates b && nat_lt (least a) (least b)) first) [
      | inl less ↦ (let lt = ltb-true (total_rate rates b) (total_rate rates a) less in omega arith)
      | inr tie ↦
          (let parts = and_parts (total_rate rates a == total_rate rates b) (nat_lt (least a) (least b)) tie in
          let same = eqb-true (total_rate rates a) (total_rate rates b) parts.0 in
          omega arith)
    ]

-- a component whose least itag is greater than those of all others
put_in_turn : (rates c : List ℕ) (cs : List (List ℕ)) → IsInTurn (comes_first rates) cs → ((d : List ℕ) → Contains cs d → least d < least c)
    → IsInTurn (comes_first rates) (put_in_order (has_greater_total rates) c cs)
put_in_turn rates c [] turn lower = (λ d none. absurd (contains_none d none), tt)
put_in_turn rates c (d ∷ ds) turn lower =
    elim (has_greater_total rates c d) as (λ b. has_greater_total rates c d ≡ b → IsInTurn (comes_first rates)
    (cond b (c ∷ d ∷ ds) (d ∷ put_in_order (has_greater_total rates) c ds))) [
      | true ↦ λ less.
          (let lt : total_rate rates d < total_rate rates c = ltb-true (total_rate rates d) (total_rate rates c) less in (
            λ e there.
                elim (contains_cases d e ds there) [
                  | inl same ↦ subst (λ x. comes_first rates c x ≡ true) same (first_by_total rates c d lt)
                  | inr later ↦ (let le : total_rate rates e ≤ total_rate rates d =
                      first_not_less rates d e (turn.0 e later) in first_by_total rates c e (omega arith))
                ],
            turn,
          ))
      | false ↦ λ not_less.
          (let le : total_rate rates c ≤ total_rate rates d = ltb-false (total_rate rates d) (total_rate rates c) not_less in (
            λ e there.
                elim (contains_put (has_greater_total rates) c ds e there) [
                  | inl same ↦ subst (λ x. comes_first rates d x ≡ true) same (first_by_least rates d c le (lower d (contains_here d ds)))
                  | inr later ↦ turn.0 e later
                ],
            put_in_turn rates c ds turn.1 (λ e there. lower e (contains_later d e ds there)),
          ))
    ] refl

-- ---- what is found so far
pub record IsFinding (g : Graph) (rates itags : List ℕ) (components : List (List ℕ)) (rest : List ℕ) : Type 0 where
  pub up : IsTrue (is_rising rest)
  pub once : (k : ℕ) → total (times k) components + times k rest ≡ times k itags
  pub closed : (i j : ℕ) → Contains rest i → Contains itags j → g i j ≡ true → Contains rest j
  pub each : (c : List ℕ) → Contains components c → IsComponent g itags c
  pub in_turn : IsInTurn (comes_first rates) components
  pub lower : (c : List ℕ) → Contains components c → (k : ℕ) → Contains rest k → least c < k

pub none_found : (g : Graph) (rates itags : List ℕ) → IsTrue (is_rising itags) → IsFinding g rates itags [] itags
none_found g rates itags up = record {
  up = up;
  once = λ k. omega arith;
  closed = λ i j here there joined. there;
  each = λ c none. absurd (contains_none c none);
  in_turn = tt;
  lower = λ c none. absurd (contains_none c none);
}

least_of_rising : (c : List ℕ) → IsTrue (is_rising c) → (k : ℕ) → Contains c k → least c ≤ k
least_of_rising [] up k there = absurd (contains_none k there)
least_of_rising (x ∷ xs) up k there = elim (contains_cases x k xs there) [
  | inl e ↦ omega arith
  | inr later ↦
      (let lt : x < k = rising_above x xs up k later in omega arith)
]

least_in : (c : List ℕ) (k : ℕ) → Contains c k → Contains c (least c)
least_in [] k there = absurd (contains_none k there)
least_in (x ∷ xs) k there = contains_here x xs

module _ (g : Graph) (both : (i j : ℕ) → g i j ≡ g j i) (rates itags : List ℕ) (components : List (List ℕ)) (rest : List ℕ)
    (now : IsFinding g rates itags components rest) (connected others : List ℕ) (reached : IsReached g rest connected others) where
  component : List ℕ
  component = rising connected

  to_connected : (k : ℕ) → Contains component k → Contains connected k
  unfolding component
  to_connected k there = let once = times_if_contained k (rising connected) there in let same =
      times_in_order k nat_lt connected in contained_if_times k connected (omega arith)

  to_component : (k : ℕ) → Contains connected k → Contains component k
  unfolding component
  to_component k there = let once = times_if_contained k connected there in let same =
      times_in_order k nat_lt connected in contained_if_times k (rising connected) (omega arith)

  in_rest : (k : ℕ) → Contains connected k → Contains rest k
  in_rest = connected_in g both rest now.up connected others reached

  others_in_rest : (k : ℕ) → Contains others k → Contains rest k
  others_in_rest = rest_in g both rest now.up connected others reached

  in_itags : IsPart rest itags
  in_itags k there = let some = times_if_contained k rest there in let all = now.once k in contained_if_times k itags (omega arith)

  component_rising : IsTrue (is_rising component)
  unfolding component
  component_rising = rising_in_order connected (λ k. let parts = reached.parts k in let once = rising_once rest now.up k in omega arith)

  is_component : IsComponent g itags component
  is_component = record {
    some = λ e. contains_none (least rest) (subst (λ xs. Contains xs (least rest)) e (to_component (least rest) reached.start));
    in_order = component_rising;
    inside = λ k there. in_itags k (in_rest k (to_connected k there));
    connected = λ i j one other. connected_within g rest itags i j in_itags
        (all_connected g both rest now.up connected others reached i j (to_connected i one) (to_connected j other));
    closed = λ i j one there c.
        to_component j
        (kept_where_connected g itags (Contains connected)
        (λ n m here other joined. stays_step g both rest now.up connected others reached n m here (now.closed n m (in_rest n here) other joined) joined)
        i j c (to_connected i one));
  }

  least_is : least component ≤ least rest
  least_is = least_of_rising component component_rising (least rest) (to_component (least rest) reached.start)

  lower_than_rest : (k : ℕ) → Contains others k → least component < k
  lower_than_rest k there =
      let first : least component ≤ least rest = least_is in
      let le : least rest ≤ k = least_of_rising rest now.up k (others_in_rest k there) in
      elim (cases_eq (least rest) k) [
        | inl same ↦ absurd (one_side g both rest now.up connected others reached (least rest) reached.start (subst (Contains others) (sym same) there))
        | inr other ↦ omega arith
      ]

  higher_than_found : (d : List ℕ) → Contains components d → least d < least component
  higher_than_found d there = now.lower d there (least component) (in_rest (least component)
      (to_connected (least component) (least_in component (least rest) (to_component (least rest) reached.start))))

  pub one_more_found : IsFinding g rates itags (put_in_order (has_greater_total rates) (rising connected) components) others
  unfolding component
  one_more_found = record {
    up = reached.in_order;
    once = λ k.
        (let put = total_put (times k) (has_greater_total rates) (rising connected) components in
        let same = times_in_order k nat_lt connected in
        let parts = reached.parts k in
        let old = now.once k in
        omega arith);
    closed = λ i j here there joined.
        (let near : Contains rest j = now.closed i j (others_in_rest i here) there joined in
        elim (some_side g both rest now.up connected others reached j near) [
          | inl one ↦ absurd (both_ways (g i j) (both i j ∙ reached.cut j i one here) joined)
          | inr other ↦ other
        ]);
    each = λ c there.
        elim (contains_put (has_greater_total rates) (rising connected) components c there) [
          | inl same ↦ subst (IsComponent g itags) same is_component
          | inr before ↦ now.each c before
        ];
    in_turn = put_in_turn rates (rising connected) components now.in_turn higher_than_found;
    lower = λ c there k here.
        elim (contains_put (has_greater_total rates) (rising connected) components c there) [
          | inl same ↦ subst (λ d. least d < k) same (lower_than_rest k here)
          | inr before ↦ now.lower c before k (others_in_rest k here)
        ];
  }

-- ---- all are found
pub some_list : (k : ℕ) (lists : List (List ℕ)) → 1 ≤ total (times k) lists → (c : List ℕ) × Contains lists c × Contains c k
some_list k [] some = absurd (omega arith)
some_list k (c ∷ cs) some =
    elim (cases_lt 0 (times k c)) [
      | inl here ↦ (c, contains_here c cs, contained_if_times k c (omega arith))
      | inr none ↦ (let rest = some_list k cs (omega arith) in (rest.0, contains_later c rest.0 cs rest.1, rest.2))
    ]

pub all_once : (g : Graph) (rates itags : List ℕ) (components : List (List ℕ)) (rest : List ℕ) → rest ≡ [] → IsFinding g rates itags components rest
    → (k : ℕ) → total (times k) components ≡ times k itags
all_once g rates itags components rest none now k =
    let empty : times k rest ≡ 0 = ap (times k) none in
    let all = now.once k in
    omega arith

pub all_found : (g : Graph) (rates itags : List ℕ) (components : List (List ℕ)) (rest : List ℕ) → rest ≡ [] → IsFinding g rates itags components rest
    → AreComponents g rates itags components
all_found g rates itags components rest none now = record {
  each = now.each;
  every = λ i there. some_list i components (let once = times_if_contained i itags there in let all =
      all_once g rates itags components rest none now i in omega arith);
  in_turn = now.in_turn;
}
