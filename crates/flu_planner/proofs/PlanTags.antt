-- The predicate of an itag alone matches no other: an itag is its tag and its source.
use Rattle.std.proofs.Common.{◌≡◌, ◌<◌, ◌+◌, ℕ, zero, suc, Bool, true, false, inl, inr, Option, Some}
use Rattle.std.proofs.Common.{None, List, [], ◌∷◌, ◌++◌, map, length, get_or, refl, sym, ap, ◌∙◌, arith}
use Rattle.std.specs.Prelude.{nat_lt, nat_le, ◌==◌, ◌&&◌, ◌||◌, not, slice_get}
use Rattle.std.specs.List.{flat_map, list_all, list_any}
use Rattle.std.proofs.lemmas.Bool.{cases_lt, cases_eq, cases_Bool, or_right, or_left, ne_eqb, true≢false}
use Rattle.std.proofs.lemmas.List.Folds.{list_all-append, list_any-append, list_all-map, list_any_at}
use Rattle.flu_lemmas.proofs.Tests.{and_left, and_right, both, true_eq, all_at, not_true, not_both}
use Rattle.flu_lemmas.proofs.Booleans.{and_false}
use Rattle.flu_lemmas.proofs.Searches.{eq_true}
use Rattle.flu_model.specs.declared.events.Tag.{Tag}
use Rattle.flu_model.specs.declared.events.Itag.{Itag}
use Rattle.flu_model.specs.declared.jobs.Kind.{Kind}
use Rattle.flu_model.specs.declared.jobs.Keys.{Keys}
use Rattle.flu_model.specs.declared.jobs.Keys.TheVariants.{Alone, One, Range}
use Rattle.flu_model.specs.declared.jobs.TagRef.{TagRef}
use Rattle.flu_model.specs.declared.jobs.Source.{Source}
use Rattle.flu_model.specs.declared.jobs.Program.{Program}
use Rattle.flu_model.specs.Contents.{key_count}
use Rattle.flu_model.specs.Listing.{tag, listed_keys, listed_tags, tags_of_source, itags_of_sources}
use Rattle.flu_model.specs.Rules.{are_distinct, is_same_tag, kind_is_keyed, keys_fit, listed_kind_fits, tag_ref_fits, source_fits, are_sources}
use Rattle.flu_model.specs.Itags.{itags, count_of_itags, tag_and_source, tag_of_itag, source_of_itag}
use Rattle.flu_model.specs.Owners.{is_keyed, key_matches, kind_matches, matches}
use Rattle.flu_planner.specs.Plans.{own_keys, pred_of}

-- ---- a tag of a kind without keys has key 0
abbrev has_own_key : List Kind → Tag → Bool
has_own_key kinds t = is_keyed kinds t.kind || (t.key == 0)

bare_keys : (keyed : Bool) (keys : Keys) → keys_fit keyed keys ≡ true → list_all (λ k. keyed || (k == 0)) (listed_keys keys) ≡ true
bare_keys keyed Alone e = both (keyed || (0 == 0)) true (or_right keyed (0 == 0) refl) refl
bare_keys keyed (One k) e = both (keyed || (k == 0)) true (or_left keyed (k == 0) (and_left keyed (nat_lt k key_count) e)) refl
bare_keys keyed (Range lo hi) e = all_if keyed (and_left keyed (nat_le lo hi) (and_left (keyed && nat_le lo hi) (nat_lt hi key_count) e))
    (listed_keys (Range lo hi))
  where
    all_if : (b : Bool) → b ≡ true → (ks : List ℕ) → list_all (λ k. b || (k == 0)) ks ≡ true
    all_if b t [] = refl
    all_if b t (k ∷ ks) = both (b || (k == 0)) _ (or_left b (k == 0) t) (all_if b t ks)

keys_of_found : (o : Option Kind) (keys : Keys) → listed_kind_fits o keys ≡ true → list_all (λ k. kind_is_keyed o || (k == 0)) (listed_keys keys) ≡ true
keys_of_found None keys e = cc
keys_of_found (Some k) keys e = bare_keys k.keyed keys e

bare_tags : (kinds : List Kind) (n : ℕ) (ks : List ℕ) → list_all (λ k. is_keyed kinds n || (k == 0)) ks ≡ true
    → list_all (has_own_key kinds) (map (λ k. tag n k) ks) ≡ true
bare_tags kinds n [] e = refl
bare_tags kinds n (k ∷ ks) e = both (is_keyed kinds n || (k == 0)) _ (and_left (is_keyed kinds n || (k == 0)) _ e)
    (bare_tags kinds n ks (and_right (is_keyed kinds n || (k == 0)) _ e))

bare_refs : (kinds : List Kind) (rs : List TagRef) → list_all (tag_ref_fits kinds) rs ≡ true → list_all (has_own_key kinds) (flat_map listed_tags rs) ≡ true
bare_refs kinds [] e = refl
bare_refs kinds (r ∷ rs) e =
    list_all-append (has_own_key kinds) (listed_tags r) (flat_map listed_tags rs)
    ∙ both (list_all (has_own_key kinds) (listed_tags r)) _ (bare_tags kinds r.kind (listed_keys r.keys)
    (keys_of_found (slice_get kinds r.kind) r.keys (and_left (tag_ref_fits kinds r) _ e)))
    (bare_refs kinds rs (and_right (tag_ref_fits kinds r) _ e))

bare_itags : (kinds : List Kind) (n : ℕ) (ss : List Source) → are_sources kinds ss ≡ true → list_all (λ e. has_own_key kinds e.0) (itags_of_sources n ss) ≡ true
bare_itags kinds n [] e = refl
bare_itags kinds n (s ∷ ss) e =
    list_all-append (λ (e : Tag × ℕ). has_own_key kinds e.0) (map (λ t. (t, n)) (tags_of_source s)) (itags_of_sources (n + 1) ss)
    ∙ both _ _ (list_all-map (λ (e : Tag × ℕ). has_own_key kinds e.0) (λ t. (t, n)) (tags_of_source s)
    ∙ bare_refs kinds s.tags (and_right _ _ (and_left _ _ (and_left (source_fits kinds s) _ e))))
    (bare_itags kinds (n + 1) ss (and_right (source_fits kinds s) _ e))

-- ---- lists whose elements all differ by a test
distinct_append : {X : Type 0} (same : X → X → Bool) (xs ys : List X) → are_distinct same xs ≡ true → are_distinct same ys ≡ true
    → list_all (λ x. not (list_any (same x) ys)) xs ≡ true → are_distinct same (xs ++ ys) ≡ true
distinct_append same [] ys d e apart = e
distinct_append same (x ∷ xs) ys d e apart =
    let here : list_any (same x) xs ≡ false = not_true (list_any (same x) xs) (and_left (not (list_any (same x) xs)) _ d) in
    let there : list_any (same x) ys ≡ false = not_true (list_any (same x) ys) (and_left (not (list_any (same x) ys)) _ apart) in
    both (not (list_any (same x) (xs ++ ys))) _ (ap not (list_any-append (same x) xs ys ∙ ap (λ b. b || list_any (same x) ys) here ∙ there))
    (distinct_append same xs ys (and_right (not (list_any (same x) xs)) _ d) e (and_right (not (list_any (same x) ys)) _ apart))

pub distinct_at : {X : Type 0} (same : X → X → Bool) (xs : List X) (i j : ℕ) (d : X) → are_distinct same xs ≡ true → i < j → j < length xs
    → same (get_or xs i d) (get_or xs j d) ≡ true → ⊥
distinct_at same [] i j d e lt in_list same_ij = omega arith
distinct_at same (x ∷ xs) i zero d e lt in_list same_ij = omega arith
distinct_at same (x ∷ xs) zero (suc j) d e lt in_list same_ij =
    not_both (list_any (same x) xs) (list_any_at (same x) xs j d (omega arith) same_ij)
    (not_true (list_any (same x) xs) (and_left (not (list_any (same x) xs)) _ e))
distinct_at same (x ∷ xs) (suc i) (suc j) d e lt in_list same_ij =
    distinct_at same xs i j d (and_right (not (list_any (same x) xs)) _ e) (omega arith) (omega arith) same_ij

-- ---- an itag is its tag and its source
abbrev is_same_itag : Tag × ℕ → Tag × ℕ → Bool
is_same_itag a b = is_same_tag a.0 b.0 && (a.1 == b.1)

one_source : (n : ℕ) (t : Tag) (ts : List Tag) → list_any (is_same_tag t) ts ≡ false → list_any (is_same_itag (t, n)) (map (λ u. (u, n)) ts) ≡ false
one_source n t [] e = refl
one_source n t (u ∷ us) e =
    elim (cases_Bool (is_same_tag t u)) [
      | inl same ↦ absurd (true≢false (sym (or_left (is_same_tag t u) (list_any (is_same_tag t) us) same) ∙ e))
      | inr differ ↦
          ap (λ b. (b && (n == n)) || list_any (is_same_itag (t, n)) (map (λ u. (u, n)) us)) differ
          ∙ one_source n t us (sym (ap (λ b. b || list_any (is_same_tag t) us) differ) ∙ e)
    ]

distinct_source : (n : ℕ) (ts : List Tag) → are_distinct is_same_tag ts ≡ true → are_distinct is_same_itag (map (λ u. (u, n)) ts) ≡ true
distinct_source n [] e = refl
distinct_source n (t ∷ ts) e =
    both (not (list_any (is_same_itag (t, n)) (map (λ u. (u, n)) ts))) _
    (ap not (one_source n t ts (not_true (list_any (is_same_tag t) ts) (and_left (not (list_any (is_same_tag t) ts)) _ e))))
    (distinct_source n ts (and_right (not (list_any (is_same_tag t) ts)) _ e))

not_of_source : (a : Tag × ℕ) (n : ℕ) (ts : List Tag) → a.1 < n → list_any (is_same_itag a) (map (λ u. (u, n)) ts) ≡ false
not_of_source a n [] lt = refl
not_of_source a n (t ∷ ts) lt =
    ap (λ b. (is_same_tag a.0 t && b) || list_any (is_same_itag a) (map (λ u. (u, n)) ts)) (ne_eqb a.1 n (λ e. omega (arith, lt, e)))
    ∙ ap (λ b. b || list_any (is_same_itag a) (map (λ u. (u, n)) ts)) (and_false (is_same_tag a.0 t)) ∙ not_of_source a n ts lt

not_of_later : (a : Tag × ℕ) (n : ℕ) (ss : List Source) → a.1 < n → list_any (is_same_itag a) (itags_of_sources n ss) ≡ false
not_of_later a n [] lt = refl
not_of_later a n (s ∷ ss) lt =
    list_any-append (is_same_itag a) (map (λ t. (t, n)) (tags_of_source s)) (itags_of_sources (n + 1) ss)
    ∙ ap (λ b. b || list_any (is_same_itag a) (itags_of_sources (n + 1) ss)) (not_of_source a n (tags_of_source s) lt)
    ∙ not_of_later a (n + 1) ss (omega (arith, lt))

apart_from_later : (n : ℕ) (ts : List Tag) (ss : List Source)
    → list_all (λ x. not (list_any (is_same_itag x) (itags_of_sources (n + 1) ss))) (map (λ u. (u, n)) ts) ≡ true
apart_from_later n [] ss = refl
apart_from_later n (t ∷ ts) ss =
    both (not (list_any (is_same_itag (t, n)) (itags_of_sources (n + 1) ss))) _ (ap not (not_of_later (t, n) (n + 1) ss (omega arith)))
    (apart_from_later n ts ss)

distinct_itags : (kinds : List Kind) (n : ℕ) (ss : List Source) → are_sources kinds ss ≡ true → are_distinct is_same_itag (itags_of_sources n ss) ≡ true
distinct_itags kinds n [] e = refl
distinct_itags kinds n (s ∷ ss) e =
    distinct_append is_same_itag (map (λ t. (t, n)) (tags_of_source s)) (itags_of_sources (n + 1) ss)
    (distinct_source n (tags_of_source s) (and_right _ (are_distinct is_same_tag (tags_of_source s)) (and_left (source_fits kinds s) _ e)))
    (distinct_itags kinds (n + 1) ss (and_right (source_fits kinds s) _ e))
    (apart_from_later n (tags_of_source s) ss)

abbrev pub number : ℕ → Itag
number n = record { 0 = n }

same_itag : (a b : Tag × ℕ) → a.0.kind ≡ b.0.kind → a.0.key ≡ b.0.key → a.1 ≡ b.1 → is_same_itag a b ≡ true
same_itag a b kinds keys sources =
    both (is_same_tag a.0 b.0) (a.1 == b.1) (both (a.0.kind == b.0.kind) (a.0.key == b.0.key) (eq_true a.0.kind b.0.kind kinds)
    (eq_true a.0.key b.0.key keys)) (eq_true a.1 b.1 sources)

-- itags of one tag and one source are one
pub itag_is_tag_and_source : (p : Program) (i j : ℕ) → i < count_of_itags p → j < count_of_itags p
    → (tag_of_itag p (number i)).kind ≡ (tag_of_itag p (number j)).kind → (tag_of_itag p (number i)).key ≡ (tag_of_itag p (number j)).key
    → source_of_itag p (number i) ≡ source_of_itag p (number j) → i ≡ j
itag_is_tag_and_source p i j in_i in_j kinds keys sources =
    let differ = distinct_itags p.kinds 0 p.sources p.sources_fit in
    let a = tag_and_source p (number i) in
    let b = tag_and_source p (number j) in
    elim (cases_eq i j) [
      | inl same ↦ same
      | inr other ↦ elim (cases_lt i j) [
        | inl lt ↦ absurd (distinct_at is_same_itag (itags p) i j (tag 0 0, 0) differ lt in_j (same_itag a b kinds keys sources))
        | inr le ↦ absurd (distinct_at is_same_itag (itags p) j i (tag 0 0, 0) differ (omega arith) in_i (same_itag b a (sym kinds) (sym keys) (sym sources)))
      ]
    ]

pub itag_has_own_key : (p : Program) (i : ℕ) → i < count_of_itags p → is_keyed p.kinds (tag_of_itag p (number i)).kind ≡ false
    → (tag_of_itag p (number i)).key ≡ 0
itag_has_own_key p i lt bare =
    let t = tag_of_itag p (number i) in
    let own : has_own_key p.kinds t ≡ true = all_at (λ e. has_own_key p.kinds e.0) (itags p) i (tag 0 0, 0) (bare_itags p.kinds 0 p.sources p.sources_fit) lt in
    true_eq t.key 0 (sym (ap (λ b. b || (t.key == 0)) bare) ∙ own)

-- ---- what the predicate of an itag matches
key_matches_itself : (keyed : Bool) (key : ℕ) → key_matches keyed (own_keys keyed key) key ≡ true
key_matches_itself true key = eq_true key key refl
key_matches_itself false key = refl

pub matches_itself : (p : Program) (i : ℕ) → matches p (pred_of p i) (number i) ≡ true
matches_itself p i =
    let t = tag_of_itag p (number i) in
    let s = source_of_itag p (number i) in
    both (kind_matches p.kinds (pred_of p i).kind (pred_of p i).keys t) (s == s)
    (both (t.kind == t.kind) (key_matches (is_keyed p.kinds t.kind) (own_keys (is_keyed p.kinds t.kind) t.key) t.key) (eq_true t.kind t.kind refl)
    (key_matches_itself (is_keyed p.kinds t.kind) t.key))
    (eq_true s s refl)

same_key : (keyed : Bool) (a b : ℕ) → (keyed ≡ false → (a ≡ 0) × (b ≡ 0)) → key_matches keyed (own_keys keyed b) a ≡ true → a ≡ b
same_key true a b bare e = true_eq a b e
same_key false a b bare e = let none = bare refl in none.0 ∙ sym none.1

pub matches_only : (p : Program) (i j : ℕ) → i < count_of_itags p → j < count_of_itags p → matches p (pred_of p j) (number i) ≡ true → j ≡ i
matches_only p i j in_i in_j e =
    let t = tag_of_itag p (number i) in
    let u = tag_of_itag p (number j) in
    let s = source_of_itag p (number i) in
    let r = source_of_itag p (number j) in
    let keyed = is_keyed p.kinds u.kind in
    let by_kind : ((t.kind == u.kind) && key_matches keyed (own_keys keyed u.key) t.key) ≡ true = and_left _ (s == r) e in
    let sources : s ≡ r = true_eq s r (and_right ((t.kind == u.kind) && key_matches keyed (own_keys keyed u.key) t.key) (s == r) e) in
    let kinds : t.kind ≡ u.kind = true_eq t.kind u.kind (and_left (t.kind == u.kind) _ by_kind) in
    let keys : t.key ≡ u.key =
    same_key keyed t.key u.key
    (λ bare. (itag_has_own_key p i in_i (ap (is_keyed p.kinds) kinds ∙ bare), itag_has_own_key p j in_j bare))
    (and_right (t.kind == u.kind) (key_matches keyed (own_keys keyed u.key) t.key) by_kind) in
    sym (itag_is_tag_and_source p i j in_i in_j kinds keys sources)
