-- Places in lists: the first element that passes a test.
use Rattle.std.proofs.Common.{◌≡◌, ℕ, suc, ◌+◌, ◌<◌, Bool, true, false, eqb, List, [], ◌∷◌, ◌++◌, length, get_or, take, drop, length-append, Option, Some, None}
use Rattle.std.proofs.Common.{refl, sym, ap, ◌∙◌, inl, inr, arith}
use Rattle.std.specs.Prelude.{option_map}
use Rattle.std.specs.List.{position, flat_map}
use Rattle.std.proofs.lemmas.Bool.{cases_Bool}
use Rattle.std.proofs.lemmas.List.{take-append-drop, drop_more, length-map}
use Rattle.std.proofs.lemmas.Grind.{common_steps, flat_map-append}
use Rattle.flu_lemmas.proofs.Places.{position-cons, position-map, position-none}
use Rattle.flu_model.specs.declared.events.Tag.{Tag}
use Rattle.flu_model.specs.declared.jobs.TagRef.{TagRef}
use Rattle.flu_model.specs.Listing.{tag, listed_keys, listed_tags}
use Rattle.flu_model.specs.Rules.{is_same_tag}
use Rattle.flu_streams.specs.Before.{or_else}

shift_more : (n : ℕ) (o : Option ℕ) → option_map (λ i. i + 1) (option_map (λ i. n + i) o) ≡ option_map (λ i. suc n + i) o
shift_more n None = refl
shift_more n (Some i) = ap Some (omega arith)

no_shift : (o : Option ℕ) → o ≡ option_map (λ i. 0 + i) o
no_shift None = refl
no_shift (Some i) = ap Some (omega arith)

shift_else : (n : ℕ) (o other : Option ℕ) → option_map (λ i. i + 1) (or_else o (option_map (λ i. n + i) other)) ≡ or_else (option_map (λ i. i + 1) o)
    (option_map (λ i. suc n + i) other)
shift_else n None other = shift_more n other
shift_else n (Some i) other = refl

pub position-append : {X : Type 0} (p : X → Bool) (xs ys : List X)
    → position p (xs ++ ys) ≡ or_else (position p xs) (option_map (λ i. length xs + i) (position p ys))
position-append p [] ys = no_shift (position p ys)
position-append p (x ∷ xs) ys =
    elim (cases_Bool (p x)) [
      | inl hit ↦ rw (position-cons p x (xs ++ ys), position-cons p x xs, hit) refl
      | inr miss ↦ rw (position-cons p x (xs ++ ys), position-cons p x xs, miss, position-append p xs ys)
          (shift_else (length xs) (position p xs) (position p ys))
    ]

-- ---- the tags that are listed together
pub same_kind : (t : Tag) (r : TagRef) → eqb t.kind r.kind ≡ true → position (is_same_tag t) (listed_tags r) ≡ position (λ k. eqb t.key k) (listed_keys r.keys)
same_kind t r hit = position-map (is_same_tag t) (λ k. tag r.kind k) (listed_keys r.keys) ∙ rw hit refl

pub other_kind : (t : Tag) (r : TagRef) → eqb t.kind r.kind ≡ false → position (is_same_tag t) (listed_tags r) ≡ None
other_kind t r miss = position-map (is_same_tag t) (λ k. tag r.kind k) (listed_keys r.keys) ∙ rw miss (position-none (listed_keys r.keys))

-- ---- one element more of a list that is gone through
pub flat_more : {X Y : Type 0} (f : X → List Y) (xs : List X) (i : ℕ) (d : X) → i < length xs → flat_map f (take (i + 1) xs) ≡ flat_map f (take i xs)
    ++ f (get_or xs i d)
flat_more f xs i d lt = grind (arith, common_steps)

pub flat_rest : {X Y : Type 0} (f : X → List Y) (xs : List X) (i : ℕ) (d : X) → i < length xs → flat_map f xs ≡ flat_map f (take i xs)
    ++ (f (get_or xs i d) ++ flat_map f (drop (i + 1) xs))
flat_rest f xs i d lt =
    let whole : xs ≡ take i xs ++ (get_or xs i d ∷ drop (i + 1) xs) = sym (take-append-drop i xs) ∙ ap (λ rest. take i xs ++ rest) (drop_more xs i d lt) in
    ap (flat_map f) whole ∙ flat_map-append f (take i xs) (get_or xs i d ∷ drop (i + 1) xs)

-- ---- a tag among those that are gone through
found_else : (o : Option ℕ) (place n : ℕ) (other : Option ℕ) → o ≡ Some place → option_map (λ i. n + i) (or_else o other) ≡ Some (n + place)
found_else o place n other e = rw e refl

pub found_at : (t : Tag) (tags : List TagRef) (i place : ℕ) (d : TagRef) → i < length tags
    → position (is_same_tag t) (flat_map listed_tags (take i tags)) ≡ None
    → position (is_same_tag t) (listed_tags (get_or tags i d)) ≡ Some place
    → position (is_same_tag t) (flat_map listed_tags tags) ≡ Some (length (flat_map listed_tags (take i tags)) + place)
found_at t tags i place d lt none found =
    let p = is_same_tag t in
    let front = flat_map listed_tags (take i tags) in
    let here = listed_tags (get_or tags i d) in
    let rest = flat_map listed_tags (drop (i + 1) tags) in
    rw (flat_rest listed_tags tags i d lt, position-append p front (here ++ rest), none, position-append p here rest)
    (found_else (position p here) place (length front) (option_map (λ j. length here + j) (position p rest)) found)

pub none_more : (t : Tag) (tags : List TagRef) (i : ℕ) (d : TagRef) → i < length tags → position (is_same_tag t) (flat_map listed_tags (take i tags)) ≡ None
    → position (is_same_tag t) (listed_tags (get_or tags i d)) ≡ None → position (is_same_tag t) (flat_map listed_tags (take (i + 1) tags)) ≡ None
none_more t tags i d lt none also =
    rw (flat_more listed_tags tags i d lt, position-append (is_same_tag t) (flat_map listed_tags (take i tags)) (listed_tags (get_or tags i d)), none, also)
    refl

pub tag_count : (r : TagRef) → length (listed_tags r) ≡ length (listed_keys r.keys)
tag_count r = simp length-map

pub count_more : (tags : List TagRef) (i : ℕ) (d : TagRef) → i < length tags
    → length (flat_map listed_tags (take (i + 1) tags)) ≡ length (flat_map listed_tags (take i tags)) + length (listed_keys (get_or tags i d).keys)
count_more tags i d lt =
    rw (flat_more listed_tags tags i d lt, length-append (flat_map listed_tags (take i tags)) (listed_tags (get_or tags i d)))
    (ap (λ n. length (flat_map listed_tags (take i tags)) + n) (tag_count (get_or tags i d)))
