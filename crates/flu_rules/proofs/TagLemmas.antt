-- Which tags two parts of a source's list have in common.
use Rattle.std.proofs.Common.{◌≡◌, ◌+◌, ◌-◌, ℕ, zero, suc, true, false, List, [], ◌∷◌, ◌++◌, map, refl, ap, ◌∙◌, sym, arith, ◌<◌, length, take, drop}
use Rattle.std.proofs.Common.{get_or}
use Rattle.std.specs.Prelude.{nat_lt, nat_le, ◌==◌, ◌&&◌, ◌||◌, not, max, min}
use Rattle.std.specs.List.{list_any, range_with_len, flat_map}
use Rattle.std.proofs.lemmas.Grind.{common_steps}
use Rattle.std.proofs.lemmas.List.{get_or_default}
use Rattle.std.proofs.lemmas.List.Folds.{list_any-append}
use Rattle.flu_model.specs.declared.events.Tag.{Tag}
use Rattle.flu_model.specs.declared.jobs.Keys.{Keys}
use Rattle.flu_model.specs.declared.jobs.Keys.TheVariants.{Alone, One, Range}
use Rattle.flu_model.specs.declared.jobs.TagRef.{TagRef}
use Rattle.flu_model.specs.Listing.{tag, listed_keys, listed_tags}
use Rattle.flu_model.specs.Rules.{are_distinct, is_same_tag}
use Rattle.flu_lemmas.proofs.Booleans.{and_false}
use Rattle.flu_lemmas.proofs.Distinct.{distinct-append}
use Rattle.flu_lemmas.proofs.Tests.{false_if_not, true_eq}
use Rattle.flu_rules.specs.Keys.{first_key, last_key}
use Rattle.flu_rules.specs.Keys.{share_tag as both_list}
use Rattle.flu_lemmas.proofs.Searches.{eq_true, rest_whole, list_any-map, list_any_never, list_any_or, list_any_and, list_any_within, list_any-range}
use Rattle.flu_lemmas.proofs.Searches.{ranges_meet}
use Rattle.flu_rules.proofs.DistinctLemmas.{from_place}

in_one : (j k : ℕ) → ((j == k) || false) ≡ (nat_le k j && nat_le j k)
in_one j k = grind (arith, common_steps)

in_range : (j lo hi : ℕ) → (nat_le lo j && nat_lt j (lo + (hi + 1 - lo))) ≡ (nat_le lo j && nat_le j hi)
in_range j lo hi = grind (arith, common_steps)

-- a key is listed where it is between the ends
is_listed : (j : ℕ) (keys : Keys) → list_any (λ i. j == i) (listed_keys keys) ≡ (nat_le (first_key keys) j && nat_le j (last_key keys))
is_listed j Alone = in_one j 0
is_listed j (One k) = in_one j k
is_listed j (Range lo hi) = list_any-range j lo (hi + 1 - lo) ∙ in_range j lo hi

meets_one : (f l k : ℕ) → ((nat_le f k && nat_le k l) || false) ≡ nat_le (max k f) (min k l)
meets_one f l k = grind (arith, common_steps)

meets_range : (f l lo hi : ℕ) → nat_lt (max lo f) (min (lo + (hi + 1 - lo)) (l + 1)) ≡ nat_le (max lo f) (min hi l)
meets_range f l lo hi = grind (arith, common_steps)

keys_meet : (f l : ℕ) (keys : Keys) → list_any (λ k. nat_le f k && nat_le k l) (listed_keys keys) ≡ nat_le (max (first_key keys) f) (min (last_key keys) l)
keys_meet f l Alone = meets_one f l 0
keys_meet f l (One k) = meets_one f l k
keys_meet f l (Range lo hi) = ranges_meet f l lo (hi + 1 - lo) ∙ meets_range f l lo hi

-- a tag is listed where its kind is, and its key
tag_is_listed : (kind j : ℕ) (r : TagRef)
    → list_any (is_same_tag (tag kind j)) (listed_tags r) ≡ ((kind == r.kind) && (nat_le (first_key r.keys) j && nat_le j (last_key r.keys)))
tag_is_listed kind j r =
    list_any-map (is_same_tag (tag kind j)) (λ k. tag r.kind k) (listed_keys r.keys)
    ∙ list_any_and (kind == r.kind) (λ k. j == k) (listed_keys r.keys)
    ∙ ap (λ b. (kind == r.kind) && b) (is_listed j r.keys)

pub share_tag : (a b : TagRef)
    → list_any (λ t. list_any (is_same_tag t) (listed_tags b))
    (listed_tags a) ≡ ((a.kind == b.kind) && nat_le (max (first_key a.keys) (first_key b.keys)) (min (last_key a.keys) (last_key b.keys)))
share_tag a b =
    list_any-map (λ t. list_any (is_same_tag t) (listed_tags b)) (λ k. tag a.kind k) (listed_keys a.keys)
    ∙ list_any_within (λ k. list_any (is_same_tag (tag a.kind k)) (listed_tags b))
    (λ k. (a.kind == b.kind) && (nat_le (first_key b.keys) k && nat_le k (last_key b.keys))) (listed_keys a.keys) (λ k. tag_is_listed a.kind k b)
    ∙ list_any_and (a.kind == b.kind) (λ k. nat_le (first_key b.keys) k && nat_le k (last_key b.keys)) (listed_keys a.keys)
    ∙ ap (λ b'. (a.kind == b.kind) && b') (keys_meet (first_key b.keys) (last_key b.keys) a.keys)

pub share_where_same_kind : (a b : TagRef) (first last : ℕ) → a.kind ≡ b.kind → first ≡ max (first_key a.keys) (first_key b.keys)
    → last ≡ min (last_key a.keys) (last_key b.keys)
    → nat_le first last ≡ list_any (λ t. list_any (is_same_tag t) (listed_tags b)) (listed_tags a)
share_where_same_kind a b first last same greater lesser =
    ap (λ n. nat_le n last) greater
    ∙ ap (λ n. nat_le (max (first_key a.keys) (first_key b.keys)) n) lesser
    ∙ ap (λ t. t && nat_le (max (first_key a.keys) (first_key b.keys)) (min (last_key a.keys) (last_key b.keys))) (sym (eq_true a.kind b.kind same))
    ∙ sym (share_tag a b)

pub none_of_other_kind : (a b : TagRef) → (a.kind ≡ b.kind → ⊥) → (a.kind == b.kind) ≡ list_any (λ t. list_any (is_same_tag t) (listed_tags b)) (listed_tags a)
none_of_other_kind a b other =
    let differs : (a.kind == b.kind) ≡ false = false_if_not (a.kind == b.kind) (λ t. other (true_eq a.kind b.kind t)) in
    differs
    ∙ ap (λ t. t && nat_le (max (first_key a.keys) (first_key b.keys)) (min (last_key a.keys) (last_key b.keys))) (sym differs)
    ∙ sym (share_tag a b)

not_before : (lo n : ℕ) → (nat_le (lo + 1) lo && nat_lt lo (lo + 1 + n)) ≡ false
not_before lo n = grind (arith, common_steps)

range_is_distinct : (kind lo n : ℕ) → are_distinct is_same_tag (map (λ k. tag kind k) (range_with_len lo n)) ≡ true
range_is_distinct kind lo zero = refl
range_is_distinct kind lo (suc n) =
    ap (λ b. not b && are_distinct is_same_tag (map (λ k. tag kind k) (range_with_len (lo + 1) n)))
    (list_any-map (is_same_tag (tag kind lo)) (λ k. tag kind k) (range_with_len (lo + 1) n)
    ∙ list_any_and (kind == kind) (λ k. lo == k) (range_with_len (lo + 1) n)
    ∙ ap (λ b. (kind == kind) && b) (list_any-range lo (lo + 1) n ∙ not_before lo n)
    ∙ and_false (kind == kind))
    ∙ range_is_distinct kind (lo + 1) n

listed_are_distinct : (kind : ℕ) (keys : Keys) → are_distinct is_same_tag (map (λ k. tag kind k) (listed_keys keys)) ≡ true
listed_are_distinct kind Alone = refl
listed_are_distinct kind (One k) = refl
listed_are_distinct kind (Range lo hi) = range_is_distinct kind lo (hi + 1 - lo)

-- what is listed among the rest is listed by one part of it
among_rest : (xs : List Tag) (rs : List TagRef)
    → list_any (λ t. list_any (is_same_tag t) (flat_map listed_tags rs)) xs ≡ list_any (λ r. list_any (λ t. list_any (is_same_tag t) (listed_tags r)) xs) rs
among_rest xs [] = list_any_never xs
among_rest xs (r ∷ rs) =
    list_any_within (λ t. list_any (is_same_tag t) (listed_tags r ++ flat_map listed_tags rs))
    (λ t. list_any (is_same_tag t) (listed_tags r) || list_any (is_same_tag t) (flat_map listed_tags rs)) xs
    (λ t. list_any-append (is_same_tag t) (listed_tags r) (flat_map listed_tags rs))
    ∙ list_any_or (λ t. list_any (is_same_tag t) (listed_tags r)) (λ t. list_any (is_same_tag t) (flat_map listed_tags rs)) xs
    ∙ ap (λ b. list_any (λ t. list_any (is_same_tag t) (listed_tags r)) xs || b) (among_rest xs rs)

pub distinct_tags : (r : TagRef) (rs : List TagRef)
    → are_distinct is_same_tag (flat_map listed_tags (r ∷ rs)) ≡ (not (list_any
    (λ other. list_any (λ t. list_any (is_same_tag t) (listed_tags other)) (listed_tags r)) rs) && are_distinct is_same_tag (flat_map listed_tags rs))
distinct_tags r rs =
    distinct-append is_same_tag (are_distinct is_same_tag) refl (λ t ts. refl) (listed_tags r) (flat_map listed_tags rs)
    ∙ ap (λ b. b && not (list_any (λ t. list_any (is_same_tag t) (flat_map listed_tags rs)) (listed_tags r))
    && are_distinct is_same_tag (flat_map listed_tags rs)) (listed_are_distinct r.kind r.keys)
    ∙ ap (λ b. not b && are_distinct is_same_tag (flat_map listed_tags rs)) (among_rest (listed_tags r) rs)

-- no tag is listed twice where no two parts share one
pub parts_distinct : (rs : List TagRef) → are_distinct is_same_tag (flat_map listed_tags rs) ≡ are_distinct both_list rs
parts_distinct [] = refl
parts_distinct (r ∷ rs) = distinct_tags r rs ∙ ap (λ b. not (list_any (both_list r) rs) && b) (parts_distinct rs)

pub tags_step : (refs : List TagRef) (i : ℕ) (r : TagRef) → i < length refs → r ≡ get_or refs i r
    → are_distinct is_same_tag (flat_map listed_tags (drop i refs))
    ≡ (not (list_any (λ other. list_any (λ t. list_any (is_same_tag t) (listed_tags other)) (listed_tags r)) (take (length refs - (i + 1)) (drop (i + 1) refs)))
    && are_distinct is_same_tag (flat_map listed_tags (drop (i + 1) refs)))
tags_step refs i r lt is =
    let rest = take (length refs - (i + 1)) (drop (i + 1) refs) in
    ap (λ rs. are_distinct is_same_tag (flat_map listed_tags rs)) (from_place refs i r lt is)
    ∙ distinct_tags r rest
    ∙ ap (λ rs. not (list_any (λ other. list_any (λ t. list_any (is_same_tag t) (listed_tags other)) (listed_tags r)) rest)
    && are_distinct is_same_tag (flat_map listed_tags rs)) (rest_whole refs (i + 1))

pub tags_step_at : (refs : List TagRef) (i : ℕ) (d : TagRef) → i < length refs
    → are_distinct is_same_tag (flat_map listed_tags (drop i refs))
    ≡ (not (list_any (λ other. list_any (λ t. list_any (is_same_tag t) (listed_tags other)) (listed_tags (get_or refs i d)))
    (take (length refs - (i + 1)) (drop (i + 1) refs))) && are_distinct is_same_tag (flat_map listed_tags (drop (i + 1) refs)))
tags_step_at refs i d lt = tags_step refs i (get_or refs i d) lt (get_or_default refs i d (get_or refs i d) lt)
