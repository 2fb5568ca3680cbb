-- The order of keys, and the tournament that finds the least one.
use Rattle.std.proofs.Common.{◌≡◌, ◌≢◌, ℕ, ◌+◌, ◌-◌, ◌/◌, ◌<◌, ◌≤◌, zero, suc, Bool, true, false, cond}
use Rattle.std.proofs.Common.{Some, List, length, drop, inl, inr, refl, sym, ap, subst, ◌∙◌, arith}
use Rattle.std.specs.Prelude.{◌⊎◌, nat_lt, ◌==◌, ◌&&◌, ◌||◌, slice_get}
use Rattle.std.proofs.Math.ListN.{set}
use Rattle.std.proofs.lemmas.Bool.{cases_eq, cases_lt}
use Rattle.std.proofs.lemmas.Grind.{common_steps}
use Rattle.std.proofs.lemmas.List.{length-set, length-drop, get_or-drop, get_or-set_same, get_or-set_other}
use Rattle.std.proofs.lemmas.Option.{get_or_from_slice_get, slice_get-get_or, slice_get_within}
use Rattle.flu_mail.specs.declared.keys.Key.{Key}
use Rattle.flu_mail.specs.declared.keys.Key.TheVariants.{Unseen, Next, Over}
use Rattle.flu_mail.specs.Keys.{is_less, lesser}
use Rattle.flu_mail.specs.Orders.{node_at, IsPlayed, IsTournament, IsLeastOf}

-- ---- the order of keys

abbrev pub earlier : ℕ → ℕ → ℕ → ℕ → Bool
earlier t i u j = nat_lt t u || ((t == u) && nat_lt i j)

not_earlier_itself : (t i : ℕ) → earlier t i t i ≡ false
not_earlier_itself t i = grind (arith, common_steps)

not_earlier : (t i s l u j : ℕ) → earlier t i s l ≡ false → earlier s l u j ≡ false → earlier t i u j ≡ false
not_earlier t i s l u j h k = grind (arith, common_steps)

not_both_earlier : (t i u j : ℕ) → earlier u j t i ≡ true → earlier t i u j ≡ false
not_both_earlier t i u j h = grind (arith, common_steps)

pub not_itself : (a : Key) → is_less a a ≡ false
not_itself Unseen = refl
not_itself (Next t i) = not_earlier_itself t i.0
not_itself Over = refl

pub not_less : (a b c : Key) → is_less a b ≡ false → is_less b c ≡ false → is_less a c ≡ false
not_less a b Unseen h k = refl
not_less Unseen Unseen (Next u j) h k = k
not_less (Next t i) Unseen (Next u j) h k = cc
not_less Over Unseen (Next u j) h k = refl
not_less Unseen (Next s l) (Next u j) h k = cc
not_less (Next t i) (Next s l) (Next u j) h k = not_earlier t i.0 s l.0 u j.0 h k
not_less Over (Next s l) (Next u j) h k = refl
not_less Unseen Over (Next u j) h k = cc
not_less (Next t i) Over (Next u j) h k = cc
not_less Over Over (Next u j) h k = refl
not_less a Unseen Over h k = cc
not_less a (Next s l) Over h k = cc
not_less a Over Over h k = h

not_both_less : (a b : Key) → is_less b a ≡ true → is_less a b ≡ false
not_both_less Unseen b h = cc
not_both_less (Next t i) Unseen h = refl
not_both_less (Next t i) (Next u j) h = not_both_earlier t i.0 u j.0 h
not_both_less (Next t i) Over h = cc
not_both_less Over Unseen h = refl
not_both_less Over (Next u j) h = refl
not_both_less Over Over h = cc

lesser_left : (a b : Key) → is_less a (lesser a b) ≡ false
lesser_left a b =
    elim (is_less b a) as (λ q. is_less b a ≡ q → is_less a (cond q b a) ≡ false) [ true ↦ λ h. not_both_less a b h | false ↦ λ h. not_itself a ] refl

lesser_right : (a b : Key) → is_less b (lesser a b) ≡ false
lesser_right a b =
    elim (is_less b a) as (λ q. is_less b a ≡ q → is_less b (cond q b a) ≡ false) [ true ↦ λ h. not_itself b | false ↦ λ h. h ] refl

-- ---- the root

-- a node is the left or the right child of the one above it
half : (v : ℕ) → (v ≡ v / 2 + v / 2) ⊎ (v ≡ v / 2 + v / 2 + 1)
half v = elim (cases_eq v (v / 2 + v / 2)) [ inl same ↦ inl same | inr other ↦ inr (omega arith) ]

-- and not less than it
not_below : (size : ℕ) (nodes : List Key) (v : ℕ) → IsTournament size nodes → 1 < v → v < size + size
    → is_less (node_at nodes v) (node_at nodes (v / 2)) ≡ false
not_below size nodes v played more lt =
    let up = played.played (v / 2) (omega arith) (omega arith) in
    let a = node_at nodes (v / 2 + v / 2) in
    let b = node_at nodes (v / 2 + v / 2 + 1) in
    elim (half v) [
      | inl left ↦ ap (λ u. is_less (node_at nodes u) (node_at nodes (v / 2))) left ∙ ap (is_less a) up ∙ lesser_left a b
      | inr right ↦ ap (λ u. is_less (node_at nodes u) (node_at nodes (v / 2))) right ∙ ap (is_less b) up ∙ lesser_right a b
    ]

-- no node is less than the root
root_least : (size : ℕ) (nodes : List Key) (fuel v : ℕ) → IsTournament size nodes → v ≤ fuel → 0 < v → v < size + size
    → is_less (node_at nodes v) (node_at nodes 1) ≡ false
root_least size nodes zero v played le pos lt = absurd (omega arith)
root_least size nodes (suc fuel) v played le pos lt =
    elim (cases_lt 1 v) [
      | inl more ↦ not_less (node_at nodes v) (node_at nodes (v / 2)) (node_at nodes 1) (not_below size nodes v played more lt)
          (root_least size nodes fuel (v / 2) played (omega arith) (omega arith) (omega arith))
      | inr one ↦
          (let same : v ≡ 1 = omega arith in
          ap (λ u. is_less (node_at nodes u) (node_at nodes 1)) same ∙ not_itself (node_at nodes 1))
    ]

-- each node has one of the keys
found_below : (size : ℕ) (nodes : List Key) (fuel v : ℕ) → IsTournament size nodes → size + size ≤ v + fuel → 0 < v → v < size + size
    → (j : ℕ) × (j < size) × (node_at nodes v ≡ node_at nodes (size + j))
found_below size nodes zero v played le pos lt = absurd (omega arith)
found_below size nodes (suc fuel) v played le pos lt =
    elim (cases_lt v size) [
      | inl inner ↦
          (let up = played.played v pos inner in
          let a = node_at nodes (v + v) in
          let b = node_at nodes (v + v + 1) in
          let left = found_below size nodes fuel (v + v) played (omega arith) (omega arith) (omega arith) in
          let right = found_below size nodes fuel (v + v + 1) played (omega arith) (omega arith) (omega arith) in
          elim (is_less b a) as (λ q. node_at nodes v ≡ cond q b a → (j : ℕ) × (j < size) × (node_at nodes v ≡ node_at nodes (size + j))) [
            | true ↦ λ e. (right.0, right.1, e ∙ right.2)
            | false ↦ λ e. (left.0, left.1, e ∙ left.2)
          ] up)
      | inr key ↦
          (let j : (j : ℕ) × (v ≡ size + j) = split size v key in
          let same = j.1 in
          (j.0, omega arith, ap (node_at nodes) same))
    ]
  where
    split : (a b : ℕ) → a ≤ b → (j : ℕ) × (b ≡ a + j)
    split a b le = (b - a, omega arith)

-- so the root has the least key
pub root_is_least : (size : ℕ) (nodes : List Key) (root : Key) → IsTournament size nodes → slice_get nodes 1 ≡ Some root → IsLeastOf (drop size nodes) root
root_is_least size nodes root played is =
    let within = slice_get_within nodes 1 root is in
    let long = played.long in
    let at_root : node_at nodes 1 ≡ root = get_or_from_slice_get nodes 1 root Over is in
    let found = found_below size nodes (size + size) 1 played (omega arith) (omega arith) (omega arith) in
    let lt = found.1 in
    let size_of = length-drop size nodes in
    record {
      place = found.0;
      there = slice_get-get_or (drop size nodes) found.0 Over (omega arith) ∙ ap (λ k. Some k) (get_or-drop size nodes found.0 Over ∙ sym found.2 ∙ at_root);
      least = λ j q e.
          let there = slice_get_within (drop size nodes) j q e in
          ap (λ k. is_less k root) (sym (get_or_from_slice_get (drop size nodes) j q Over e) ∙ get_or-drop size nodes j Over)
          ∙ ap (is_less (node_at nodes (size + j))) (sym at_root)
          ∙ root_least size nodes (size + j) (size + j) played (omega arith) (omega arith) (omega arith);
    }

pub no_root : (size : ℕ) (nodes : List Key) → IsTournament size nodes → length nodes ≤ 1 → length (drop size nodes) ≡ 0
no_root size nodes played le = let long = played.long in let size_of = length-drop size nodes in omega arith

-- ---- a node changes

-- a node that is neither the one that changes nor above it
pub played_still : (nodes : List Key) (v u : ℕ) (key : Key) → u ≢ v → u + u ≢ v → u + u + 1 ≢ v → IsPlayed nodes u → IsPlayed (set nodes v key) u
played_still nodes v u key here left right played =
    get_or-set_other nodes v u key Over here ∙ played
    ∙ ap (λ a. lesser a (node_at nodes (u + u + 1))) (sym (get_or-set_other nodes v (u + u) key Over left))
    ∙ ap (lesser (node_at (set nodes v key) (u + u))) (sym (get_or-set_other nodes v (u + u + 1) key Over right))

abbrev pub winner : List Key → ℕ → Key
winner nodes v = lesser (node_at nodes (v + v)) (node_at nodes (v + v + 1))

-- the one that is made the lesser of its children
pub played_here : (nodes : List Key) (v : ℕ) → 0 < v → v < length nodes → IsPlayed (set nodes v (winner nodes v)) v
played_here nodes v pos lt =
    let left : v + v ≢ v = λ e. absurd (omega arith) in
    let right : v + v + 1 ≢ v = λ e. absurd (omega arith) in
    get_or-set_same nodes v (winner nodes v) Over lt
    ∙ ap (λ a. lesser a (node_at nodes (v + v + 1))) (sym (get_or-set_other nodes v (v + v) (winner nodes v) Over left))
    ∙ ap (lesser (node_at (set nodes v (winner nodes v)) (v + v))) (sym (get_or-set_other nodes v (v + v + 1) (winner nodes v) Over right))

-- all but the one above
pub record ArePlayedBut (size except : ℕ) (nodes : List Key) : Type 0 where
  pub long : length nodes ≡ size + size
  pub played : (u : ℕ) → 0 < u → u < size → u ≢ except → IsPlayed nodes u

pub key_set : (size place : ℕ) (nodes : List Key) (key : Key) → IsTournament size nodes → ArePlayedBut size ((size + place) / 2) (set nodes (size + place) key)
key_set size place nodes key played = record {
  long = length-set nodes (size + place) key ∙ played.long;
  played = λ u pos lt other.
      played_still nodes (size + place) u key (λ e. absurd (omega arith)) (λ e. other (omega arith)) (λ e. other (omega arith)) (played.played u pos lt);
}

pub one_up : (size v : ℕ) (nodes : List Key) → 0 < v → v < size → ArePlayedBut size v nodes → ArePlayedBut size (v / 2) (set nodes v (winner nodes v))
one_up size v nodes pos inner but = record {
  long = length-set nodes v (winner nodes v) ∙ but.long;
  played = λ u pos_u lt other.
      elim (cases_eq u v) [
        | inl same ↦
            (let long = but.long in
            subst (IsPlayed (set nodes v (winner nodes v))) (sym same) (played_here nodes v pos (omega arith)))
        | inr differ ↦
            played_still nodes v u (winner nodes v) differ (λ e. other (omega arith)) (λ e. other (omega arith)) (but.played u pos_u lt differ)
      ];
}

-- from a node on
pub record ArePlayedFrom (size from : ℕ) (nodes : List Key) : Type 0 where
  pub long : length nodes ≡ size + size
  pub played : (u : ℕ) → 0 < u → from ≤ u → u < size → IsPlayed nodes u

pub one_down : (size v : ℕ) (nodes : List Key) → 0 < v → v < size → ArePlayedFrom size (v + 1) nodes → ArePlayedFrom size v (set nodes v (winner nodes v))
one_down size v nodes pos inner from = record {
  long = length-set nodes v (winner nodes v) ∙ from.long;
  played = λ u pos_u le lt.
      elim (cases_eq u v) [
        | inl same ↦
            (let long = from.long in
            subst (IsPlayed (set nodes v (winner nodes v))) (sym same) (played_here nodes v pos (omega arith)))
        | inr differ ↦
            played_still nodes v u (winner nodes v) differ (λ e. absurd (omega arith)) (λ e. absurd (omega arith)) (from.played u pos_u (omega arith) lt)
      ];
}
