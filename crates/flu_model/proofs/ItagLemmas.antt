-- The tags of itags are those of declared kinds, with keys in range.
use Rattle.std.proofs.Common.{◌≡◌, ◌<◌, ◌≤◌, ◌+◌, ◌-◌, ℕ, zero, suc, Bool, true, Option, Some, None, List, [], ◌∷◌, map, length, refl, ◌∙◌, arith}
use Rattle.std.specs.Prelude.{nat_lt, nat_le, ◌&&◌, slice_get}
use Rattle.std.specs.List.{flat_map, list_all}
use Rattle.std.proofs.lemmas.List.Folds.{list_all-append, list_all-map}
use Rattle.flu_lemmas.proofs.Ranges.{all_below}
use Rattle.flu_lemmas.proofs.Tests.{and_left, and_right, both, lt_true, true_lt, true_le}
use Rattle.flu_model.specs.declared.events.Tag.{Tag}
use Rattle.flu_model.specs.declared.jobs.Kind.{Kind}
use Rattle.flu_model.specs.declared.jobs.Keys.{Keys}
use Rattle.flu_model.specs.declared.jobs.Keys.TheVariants.{Alone, One, Range}
use Rattle.flu_model.specs.declared.jobs.TagRef.{TagRef}
use Rattle.flu_model.specs.declared.jobs.Source.{Source}
use Rattle.flu_model.specs.Contents.{key_count}
use Rattle.flu_model.specs.Listing.{tag, listed_keys, listed_tags, tags_of_source, itags_of_sources}
use Rattle.flu_model.specs.Rules.{tag_fits, keys_fit, listed_kind_fits, tag_ref_fits, source_fits, are_sources}

found_kind : (kinds : List Kind) (k : ℕ) (keys : Keys) → listed_kind_fits (slice_get kinds k) keys ≡ true → k < length kinds
found_kind [] k keys e = cc
found_kind (x ∷ xs) zero keys e = omega arith
found_kind (x ∷ xs) (suc k) keys e = let h : k < length xs = found_kind xs k keys e in omega (arith, h)

keys_in_range : (keyed : Bool) (keys : Keys) → keys_fit keyed keys ≡ true → list_all (λ k. nat_lt k key_count) (listed_keys keys) ≡ true
keys_in_range keyed Alone e = refl
keys_in_range keyed (One k) e = both (nat_lt k key_count) true (and_right keyed (nat_lt k key_count) e) refl
keys_in_range keyed (Range lo hi) e =
    let last : hi < key_count = true_lt hi key_count (and_right (keyed && nat_le lo hi) (nat_lt hi key_count) e) in
    let rises : lo ≤ hi = true_le lo hi (and_right keyed (nat_le lo hi) (and_left (keyed && nat_le lo hi) (nat_lt hi key_count) e)) in
    all_below lo (hi + 1 - lo) key_count (omega arith)

keys_of_found : (o : Option Kind) (keys : Keys) → listed_kind_fits o keys ≡ true → list_all (λ k. nat_lt k key_count) (listed_keys keys) ≡ true
keys_of_found None keys e = cc
keys_of_found (Some k) keys e = keys_in_range k.keyed keys e

tagged : (kinds : List Kind) (n : ℕ) (ks : List ℕ) → n < length kinds → list_all (λ k. nat_lt k key_count) ks ≡ true
    → list_all (tag_fits kinds) (map (λ k. tag n k) ks) ≡ true
tagged kinds n [] lt e = refl
tagged kinds n (k ∷ ks) lt e =
    both (nat_lt n (length kinds) && nat_lt k key_count) _
    (both (nat_lt n (length kinds)) (nat_lt k key_count) (lt_true n (length kinds) lt) (and_left (nat_lt k key_count) _ e))
    (tagged kinds n ks lt (and_right (nat_lt k key_count) _ e))

tags_of_refs : (kinds : List Kind) (rs : List TagRef) → list_all (tag_ref_fits kinds) rs ≡ true → list_all (tag_fits kinds) (flat_map listed_tags rs) ≡ true
tags_of_refs kinds [] e = refl
tags_of_refs kinds (r ∷ rs) e =
    let one : tag_ref_fits kinds r ≡ true = and_left (tag_ref_fits kinds r) _ e in
    list_all-append (tag_fits kinds) (listed_tags r) (flat_map listed_tags rs)
    ∙ both (list_all (tag_fits kinds) (listed_tags r)) _
    (tagged kinds r.kind (listed_keys r.keys) (found_kind kinds r.kind r.keys one) (keys_of_found (slice_get kinds r.kind) r.keys one))
    (tags_of_refs kinds rs (and_right (tag_ref_fits kinds r) _ e))

tags_of_source_fit : (kinds : List Kind) (s : Source) → source_fits kinds s ≡ true → list_all (tag_fits kinds) (tags_of_source s) ≡ true
tags_of_source_fit kinds s e = tags_of_refs kinds s.tags (and_right _ _ (and_left _ _ e))

pub itags_fit : (kinds : List Kind) (n : ℕ) (ss : List Source) → are_sources kinds ss ≡ true → list_all (λ e. tag_fits kinds e.0) (itags_of_sources n ss) ≡ true
itags_fit kinds n [] e = refl
itags_fit kinds n (s ∷ ss) e =
    list_all-append (λ (e : Tag × ℕ). tag_fits kinds e.0) (map (λ t. (t, n)) (tags_of_source s)) (itags_of_sources (n + 1) ss)
    ∙ both _ _ (list_all-map (λ (e : Tag × ℕ). tag_fits kinds e.0) (λ t. (t, n)) (tags_of_source s)
    ∙ tags_of_source_fit kinds s (and_left (source_fits kinds s) _ e))
    (itags_fit kinds (n + 1) ss (and_right (source_fits kinds s) _ e))
