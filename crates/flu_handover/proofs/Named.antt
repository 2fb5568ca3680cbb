-- The tags of a job's itags and their texts.
use Rattle.std.proofs.Common.{◌≡◌, ℕ, zero, suc, ◌+◌, ◌<◌, ◌++◌, Bool, true, false, cond, Option, Some, None, List, [], ◌∷◌, map, length, get_or, take}
use Rattle.std.proofs.Common.{refl, sym, ap, subst, ◌∙◌, arith}
use Rattle.std.specs.Prelude.{nat_lt, slice_get, option_map, ◌||◌, position, IfSome, IfNone}
use Rattle.std.specs.Cmp.Lexicographic.{bytes_decides}
use Rattle.std.specs.List.{list_any, range_with_len, AllByRecursion}
use Rattle.std.proofs.lemmas.List.{map-append, take_more}
use Rattle.std.proofs.lemmas.Option.{slice_get-get_or}
use Rattle.flu_lemmas.proofs.Elements.{passes_at}
use Rattle.flu_lemmas.proofs.Mapped.{from_mapped}
use Rattle.flu_lemmas.proofs.Places.{position_passes, position_below, position-cons}
use Rattle.flu_lemmas.proofs.Ranges.{any_in_range, all_below}
use Rattle.flu_lemmas.proofs.Searches.{list_any-map}
use Rattle.flu_lemmas.proofs.Tests.{true_lt, not_both}
use Rattle.flu_model.specs.declared.events.Out.{Out}
use Rattle.flu_model.specs.declared.events.Tag.{Tag}
use Rattle.flu_model.specs.declared.jobs.Program.{Program}
use Rattle.flu_model.specs.Itags.{count_of_itags, tag_of_itag}
use Rattle.flu_model.specs.Reports.{text_of_tag}
use Rattle.flu_partial.specs.declared.values.Emitted.{Emitted}
use Rattle.flu_handover.specs.Handing.{emitted_of, IsListed}
use Rattle.flu_handover.specs.Parts.{named_tag, named_tags, has_text, IsNamedAt}
use Rattle.flu_handover.specs.declared.tags.NamedTag.{NamedTag}

-- what stands in the list is a tag of an itag, with its text
pub named_there : (p : Program) (place : ℕ) (n : NamedTag) → slice_get (named_tags p) place ≡ Some n → IsListed p n.tag × (n.text ≡ text_of_tag p n.tag)
named_there p place n at =
    let count = count_of_itags p in
    let found = from_mapped (λ i. named_tag p (tag_of_itag p (record { 0 = i }))) (range_with_len 0 count) place n at in
    let below = passes_at (λ k. nat_lt k count) (range_with_len 0 count) place found.0 (all_below 0 count count (omega arith)) found.1 in
    let tag : n.tag ≡ tag_of_itag p (record { 0 = found.0 }) = ap (λ (x : NamedTag). x.tag) found.2 in
    let text : n.text ≡ text_of_tag p (tag_of_itag p (record { 0 = found.0 })) = ap (λ (x : NamedTag). x.text) found.2 in
    ((record { 0 = found.0 }, true_lt found.0 count below, sym tag), text ∙ ap (text_of_tag p) (sym tag))

-- each tag of an itag is found by its text
pub listed_there : (p : Program) (t : Tag) (text : List ℕ) → IsListed p t → text ≡ text_of_tag p t → list_any (has_text text) (named_tags p) ≡ true
listed_there p t text listed is =
    let named : ℕ → NamedTag = λ i. named_tag p (tag_of_itag p (record { 0 = i })) in
    let low = listed.1 in
    list_any-map (has_text text) named (range_with_len 0 (count_of_itags p))
    ∙ any_in_range (λ i. has_text text (named i)) 0 (count_of_itags p) listed.0.0 (omega arith) (omega (arith, low))
    ((bytes_decides (text_of_tag p (tag_of_itag p listed.0)) text).1 (ap (text_of_tag p) listed.2 ∙ sym is))

-- ---- the first place of a tag with a text
pub named_where : (tags : List NamedTag) (text : List ℕ) (o : Option ℕ) → o ≡ position (has_text text) tags → IfSome o (IsNamedAt tags text)
named_where tags text None e = tt
named_where tags text (Some k) e =
    let found = position_passes (has_text text) tags k (sym e) in
    (position_below (has_text text) tags k (sym e), (found.0, found.1, (bytes_decides found.0.text text).0 found.2))

none_passes : {X : Type 0} (p : X → Bool) (xs : List X) → position p xs ≡ None → list_any p xs ≡ false
none_passes p [] e = refl
none_passes p (x ∷ xs) e = by_test (p x) refl (none_passes p xs)
  where
    not_there : (k : ℕ) → Some k ≡ None → ⊥
    not_there k h = absurd cc

    unmapped : (o : Option ℕ) → option_map (λ i. i + 1) o ≡ None → o ≡ None
    unmapped None h = refl
    unmapped (Some k) h = absurd cc

    by_test : (b : Bool) → p x ≡ b → (position p xs ≡ None → list_any p xs ≡ false) → (p x || list_any p xs) ≡ false
    by_test true hit more =
        absurd (not_there 0 (sym (position-cons p x xs ∙ ap (λ b. cond b (Some 0) (option_map (λ i. i + 1) (position p xs))) hit) ∙ e))
    by_test false miss more =
        let later : option_map (λ i. i + 1) (position p xs) ≡ None =
        sym (position-cons p x xs ∙ ap (λ b. cond b (Some 0) (option_map (λ i. i + 1) (position p xs))) miss) ∙ e in
        ap (λ b. b || list_any p xs) miss ∙ more (unmapped (position p xs) later)

pub named_nowhere : (tags : List NamedTag) (text : List ℕ) (o : Option ℕ) → o ≡ position (has_text text) tags
    → IfNone o (list_any (has_text text) tags ≡ false)
named_nowhere tags text None e = none_passes (has_text text) tags (sym e)
named_nowhere tags text (Some k) e = tt

-- ---- outputs that are made one by one of what was emitted
pub chosen : (p : Program) (tags : List NamedTag) (text : List ℕ) (place : ℕ) (m : NamedTag) → tags ≡ named_tags p → IsNamedAt tags text place
    → m ≡ get_or tags place m → IsListed p m.tag × (text_of_tag p m.tag ≡ text)
chosen p tags text place m all at is =
    let here : slice_get tags place ≡ Some m = slice_get-get_or tags place m at.0 ∙ ap Some (sym is) in
    let there : slice_get (named_tags p) place ≡ Some m = ap (λ (ts : List NamedTag). slice_get ts place) (sym all) ∙ here in
    let named = named_there p place m there in
    let one : Some m ≡ Some at.1.0 = sym here ∙ at.1.1 in
    let same : m ≡ at.1.0 = cc in
    (named.0, sym named.1 ∙ ap (λ (x : NamedTag). x.text) same ∙ at.1.2)

pub emits_next : (p : Program) (old new : List Out) (emitted : List Emitted) (i : ℕ) (one : Emitted) (x : Out) → map (emitted_of p) old ≡ take i emitted
    → new ≡ old ++ x ∷ [] → emitted_of p x ≡ one → i < length emitted → one ≡ get_or emitted i one → map (emitted_of p) new ≡ take (i + 1) emitted
emits_next p old new emitted i one x was grown is lt at =
    ap (map (emitted_of p)) grown ∙ map-append (emitted_of p) old (x ∷ []) ∙ (λ k. was k ++ is k ∷ [])
    ∙ sym (take_more emitted i one lt ∙ ap (λ y. take i emitted ++ y ∷ []) (sym at))

holds_at : {X : Type 0} (P : X → Type 0) (xs : List X) (i : ℕ) (x : X) → AllByRecursion P xs → slice_get xs i ≡ Some x → P x
holds_at P [] i x all at = absurd cc
holds_at P (y ∷ ys) zero x all at = let same : y ≡ x = cc in subst P same all.0
holds_at P (y ∷ ys) (suc i) x all at = holds_at P ys i x all.1 at

-- of what can be emitted no tag is missing
pub none_missing : (p : Program) (xs : List Out) (emitted : List Emitted) (i : ℕ) (one : Emitted) (tags : List NamedTag) (text : List ℕ)
    → AllByRecursion (λ (x : Out). IsListed p x.tag) xs → emitted ≡ map (emitted_of p) xs → i < length emitted → one ≡ get_or emitted i one
    → tags ≡ named_tags p → text ≡ one.tag → list_any (has_text text) tags ≡ false → ⊥
none_missing p xs emitted i one tags text listed same lt at all is none =
    let here : slice_get emitted i ≡ Some one = slice_get-get_or emitted i one lt ∙ ap Some (sym at) in
    let seen : slice_get (map (emitted_of p) xs) i ≡ Some one = ap (λ (es : List Emitted). slice_get es i) (sym same) ∙ here in
    let found = from_mapped (emitted_of p) xs i one seen in
    let tag = holds_at (λ (x : Out). IsListed p x.tag) xs i found.0 listed found.1 in
    let hit = listed_there p found.0.tag text tag (is ∙ ap (λ (e : Emitted). e.tag) found.2) in
    not_both (list_any (has_text text) tags) (ap (list_any (has_text text)) all ∙ hit) none
