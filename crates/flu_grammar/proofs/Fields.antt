-- The form of a field that is found is the one that it has, and the other way round.
use Rattle.std.proofs.Common.{◌≡◌, ℕ, ◌+◌, ◌-◌, ◌<◌, ◌^◌, pos, Bool, true, false, List, [], ◌∷◌, ◌++◌}
use Rattle.std.proofs.Common.{length, Option, Some, None, inl, inr, refl, sym, ap, subst, ◌∙◌}
use Rattle.std.specs.Prelude.{nat_lt, nat_le, not, ◌==◌, ◌&&◌, ◌||◌, if◌then◌else◌, option_map, codes, position, slice_get}
use Rattle.std.specs.Char.{is_ascii_digit}
use Rattle.std.specs.List.{list_all, list_any}
use Rattle.std.specs.Str.{bytes_eq}
use Rattle.std.specs.Str.Parse.{digits_value}
use Rattle.flu_lemmas.specs.Spans.{spelled}
use Rattle.flu_lemmas.proofs.Elements.{fails_at, passes_at}
use Rattle.flu_lemmas.proofs.Places.{position_passes}
use Rattle.flu_lemmas.proofs.Prefixes.{chosen, mapped}
use Rattle.flu_lemmas.proofs.Searches.{eq_true}
use Rattle.flu_lemmas.proofs.Tests.{and_left, and_right, both, not_true, not_both, false_if_not, true_lt, lt_true, true_eq}
use Rattle.flu_lemmas.proofs.Bytes.{bytes_itself, bytes_is}
use Rattle.flu_lemmas.proofs.Booleans.{or_false_right}
use Rattle.flu_names.specs.declared.reserved.Reserved.{Reserved}
use Rattle.flu_names.specs.declared.reserved.Reserved.TheVariants as r
use Rattle.flu_names.specs.Names.{is_name, is_name_byte, begins_as_name, is_reserved, reserved_spelling, reserved_words}
use Rattle.flu_text.specs.Lexeme.{number_of}
use Rattle.flu_syntax.specs.declared.tree.WrittenKey.{WrittenKey}
use Rattle.flu_syntax.specs.declared.tree.WrittenKey.TheVariants as k
use Rattle.flu_parse.specs.declared.pieces.WrittenPiece.{WrittenPiece}
use Rattle.flu_parse.specs.declared.pieces.WrittenPiece.TheVariants as w
use Rattle.flu_parse.specs.Templates.{open_brace, close_brace, is_open_bracket, span, digits_at, key_at, ref_with, ref_at, family_at, field_at, braced}
use Rattle.flu_grammar.specs.Means.{IsItemWord}
use Rattle.flu_grammar.specs.Templates.{IsField, field_value, field_key, field_time, field_item, field_cell, field_flushed, field_family}
use Rattle.flu_grammar.specs.Templates.{field_own, field_own_item, field_fixed, AreCut, cut_none, cut_plain, cut_field}
use Rattle.flu_grammar.proofs.Lists.{some_same}
use Rattle.flu_grammar.proofs.Items.{is_item_word, item_word, is_item, no_item_word, not_item, other_word}
use Rattle.flu_grammar.proofs.Cuts.{field_between, AreCut as IsCut, cut_none as is_none, cut_plain as is_plain, cut_field as is_field}

-- ---- what is found has the form

number_means : (ds : List ℕ) (n : ℕ) → number_of ds ≡ Some n → (digits_value 10 ds ≡ n) × (digits_value 10 ds < 2 ^ 63)
unfolding number_of
number_means ds n e =
    elim (chosen (nat_lt (digits_value 10 ds) (2 ^ 63)) (Some (digits_value 10 ds)) None (Some n) e) [
      | inl h ↦ (some_same (digits_value 10 ds) n h.1, true_lt (digits_value 10 ds) (2 ^ 63) h.0)
      | inr h ↦ absurd cc
    ]

module _ (text : List ℕ) (version from to : ℕ) where
  -- a reference to a cell with something in brackets
  keyed_means : (i : ℕ) (inner : List ℕ) (q : WrittenPiece) → position is_open_bracket (spelled text from to) ≡ Some i → is_name (spelled text from
      (from + i)) ≡ true
      → spelled text (to - 1) to ≡ codes "]" → spelled text (from + i + 1) (to - 1) ≡ inner
      → option_map (λ key. w.Read (record { family = span from (from + i); key = key })) (key_at version inner (from + i + 1)) ≡ Some q
      → IsField text version false from to q
  unfolding key_at digits_at
  keyed_means i inner q place named closes is e =
      let m = mapped (λ key. w.Read (record { family = span from (from + i); key = key })) (key_at version inner (from + i + 1)) q e in
      elim (chosen (bytes_eq inner (codes "key")) (Some (k.OwnKey (from + i + 1))) (if is_item_word version inner then Some
      (k.OwnItem (from + i + 1)) else digits_at inner (from + i + 1)) (Some m.0) m.1) [
        | inl h ↦
            let key : k.OwnKey (from + i + 1) ≡ m.0 = some_same (k.OwnKey (from + i + 1)) m.0 h.1 in
            subst (λ (x : WrittenPiece). IsField text version false from to x) (ap (λ (x : WrittenKey). w.Read (record {
              family = span from
                  (from + i);
              key = x;
            })) key ∙ m.2)
            (field_own i refl place named closes (is ∙ bytes_is inner (codes "key") h.0))
        | inr h ↦
            elim (chosen (is_item_word version inner) (Some (k.OwnItem (from + i + 1))) (digits_at inner (from + i + 1)) (Some m.0) h.1) [
              | inl item ↦
                  let key : k.OwnItem (from + i + 1) ≡ m.0 = some_same (k.OwnItem (from + i + 1)) m.0 item.1 in
                  subst (λ (x : WrittenPiece). IsField text version false from to x) (ap (λ (x : WrittenKey). w.Read (record {
                    family = span from (from + i);
                    key = x;
                  })) key ∙ m.2)
                  (field_own_item i refl place named closes (subst (IsItemWord version) (sym is) (item_word version inner item.0)))
              | inr other ↦ subst (λ (x : WrittenPiece). IsField text version false from to x) m.2 (digits inner is m.0 other.1)
            ]
      ]
    where
      digits : (ds : List ℕ) → spelled text (from + i + 1) (to - 1) ≡ ds → (key : WrittenKey) → digits_at ds (from + i + 1) ≡ Some key
          → IsField text version false from to (w.Read (record { family = span from (from + i); key = key }))
      digits [] is key e = absurd cc
      digits (b ∷ bs) is key e =
          elim (chosen (list_all is_ascii_digit (b ∷ bs)) (option_map (λ n. k.Fixed (record { value = pos n; at = from + i + 1 })) (number_of
          (b ∷ bs))) None (Some key) e) [
            | inl h ↦
                let m = mapped (λ n. k.Fixed (record { value = pos n; at = from + i + 1 })) (number_of (b ∷ bs)) key h.1 in
                let number = number_means (b ∷ bs) m.0 m.1 in
                let same : k.Fixed (record { value = pos (digits_value 10 (b ∷ bs)); at = from + i + 1 }) ≡ key =
                ap (λ (n : ℕ). k.Fixed (record { value = pos n; at = from + i + 1 })) number.0 ∙ m.2 in
                subst (λ (x : WrittenKey). IsField text version false from to (w.Read (record { family = span from (from + i); key = x }))) same
                (field_fixed i b bs refl place named closes is h.0 number.1)
            | inr h ↦ absurd cc
          ]

  ref_means : (o : Option ℕ) (q : WrittenPiece) → ¬ IsItemWord version (spelled text from to) → position is_open_bracket (spelled text from to) ≡ o
      → ref_with text version from to o ≡ Some q → IsField text version false from to q
  unfolding ref_with
  ref_means None q other place e =
      let read : WrittenPiece = w.Read (record { family = span from to; key = k.Alone }) in
      elim (chosen (is_name (spelled text from to)) (Some read) None (Some q) e) [
        | inl h ↦ subst (λ (x : WrittenPiece). IsField text version false from to x) (some_same read q h.1) (field_family refl h.0 other)
        | inr h ↦ absurd cc
      ]
  ref_means (Some i) q other place e =
      let inner = spelled text (from + i + 1) (to - 1) in
      elim (chosen (is_name (spelled text from (from + i)) && bytes_eq (spelled text (to - 1) to) (codes "]"))
      (option_map (λ key. w.Read (record { family = span from (from + i); key = key })) (key_at version inner (from + i + 1))) None (Some q) e) [
        | inl h ↦
            keyed_means i inner q place (and_left (is_name (spelled text from (from + i))) (bytes_eq (spelled text (to - 1) to) (codes "]")) h.0)
            (bytes_is (spelled text (to - 1) to) (codes "]") (and_right (is_name (spelled text from (from + i))) (bytes_eq (spelled text (to - 1) to)
            (codes "]")) h.0))
            refl h.1
        | inr h ↦ absurd cc
      ]

  -- the name of a family in a flush
  flushed_means : (q : WrittenPiece) → ¬ IsItemWord version (spelled text from to) → family_at text version from to ≡ Some q
      → IsField text version true from to q
  unfolding family_at
  flushed_means q other e =
      elim (chosen ((version == 3) && is_name (spelled text from to)) (Some (w.Family (span from to))) None (Some q) e) [
        | inl h ↦
            subst (λ (x : WrittenPiece). IsField text version true from to x) (some_same (w.Family (span from to)) q h.1)
            (field_flushed refl (true_eq version 3 (and_left (version == 3) (is_name (spelled text from to)) h.0))
            (and_right (version == 3) (is_name (spelled text from to)) h.0) other)
        | inr h ↦ absurd cc
      ]

  by_tests : (a b c d in_flush e : Bool) (q : WrittenPiece) → bytes_eq (spelled text from to) (codes "value") ≡ a
      → bytes_eq (spelled text from to) (codes "key") ≡ b → bytes_eq (spelled text from to) (codes "time") ≡ c
      → is_item_word version (spelled text from to) ≡ d → bytes_eq (spelled text from to) (codes "cell") ≡ e
      → (if a then Some w.Value else if b then Some w.Key else if c then Some w.Time else if d then Some w.Item else if in_flush then
      (if e then Some w.CellValue else family_at text version from to) else ref_at text version from to)
      ≡ Some q → IsField text version in_flush from to q
  by_tests true b c d in_flush e q ea eb ec ed ee h =
      subst (λ (x : WrittenPiece). IsField text version in_flush from to x) (some_same w.Value q h)
      (field_value (bytes_is (spelled text from to) (codes "value") ea))
  by_tests false true c d in_flush e q ea eb ec ed ee h =
      subst (λ (x : WrittenPiece). IsField text version in_flush from to x) (some_same w.Key q h) (field_key (bytes_is (spelled text from to) (codes "key") eb))
  by_tests false false true d in_flush e q ea eb ec ed ee h =
      subst (λ (x : WrittenPiece). IsField text version in_flush from to x) (some_same w.Time q h)
      (field_time (bytes_is (spelled text from to) (codes "time") ec))
  by_tests false false false true in_flush e q ea eb ec ed ee h =
      subst (λ (x : WrittenPiece). IsField text version in_flush from to x) (some_same w.Item q h) (field_item (item_word version (spelled text from to) ed))
  by_tests false false false false true true q ea eb ec ed ee h =
      subst (λ (x : WrittenPiece). IsField text version true from to x) (some_same w.CellValue q h)
      (field_cell refl (bytes_is (spelled text from to) (codes "cell") ee))
  by_tests false false false false true false q ea eb ec ed ee h = flushed_means q (no_item_word version (spelled text from to) ed) h
  by_tests false false false false false e q ea eb ec ed ee h =
      ref_means (position is_open_bracket (spelled text from to)) q (no_item_word version (spelled text from to) ed) refl h

  pub field_means : (in_flush : Bool) (q : WrittenPiece) → field_at text version in_flush from to ≡ Some q → IsField text version in_flush from to q
  unfolding field_at
  field_means in_flush q e =
      by_tests (bytes_eq (spelled text from to) (codes "value")) (bytes_eq (spelled text from to) (codes "key")) (bytes_eq (spelled text from to)
      (codes "time")) (is_item_word version (spelled text from to)) in_flush (bytes_eq (spelled text from to) (codes "cell")) q refl refl refl refl refl e

-- ---- what has the form is found

abbrev field_with : List ℕ → ℕ → Bool → ℕ → ℕ → List ℕ → Option WrittenPiece
field_with text version in_flush from to bytes =
    if bytes_eq bytes (codes "value") then Some w.Value
    else if bytes_eq bytes (codes "key") then Some w.Key
    else if bytes_eq bytes (codes "time") then Some w.Time
    else if is_item_word version bytes then Some w.Item
    else if in_flush then (if bytes_eq bytes (codes "cell") then Some w.CellValue else family_at text version from to)
    else ref_at text version from to

spelled_so : (text : List ℕ) (version : ℕ) (in_flush : Bool) (from to : ℕ) (bytes : List ℕ) → spelled text from to ≡ bytes
    → field_at text version in_flush from to ≡ field_with text version in_flush from to bytes
unfolding field_at
spelled_so text version in_flush from to bytes e = ap (field_with text version in_flush from to) e

-- a name is no reserved word
not_reserved : (n : List ℕ) (word : Reserved) (i : ℕ) → is_name n ≡ true → slice_get reserved_words i ≡ Some word → bytes_eq n (reserved_spelling word) ≡ false
not_reserved n word i named found =
    let free = and_right (begins_as_name n && list_all is_name_byte n && nat_le (length n) 32) (not (is_reserved n)) named in
    let other = fails_at (λ (x : Reserved). bytes_eq (reserved_spelling x) n) reserved_words i word (not_true (is_reserved n) free) found in
    false_if_not (bytes_eq n (reserved_spelling word)) (λ e.
    not_both (bytes_eq (reserved_spelling word) n)
    (subst (λ (x : List ℕ). bytes_eq (reserved_spelling word) x ≡ true) (sym (bytes_is n (reserved_spelling word) e)) (bytes_itself
    (reserved_spelling word))) other)

-- and has no bracket
no_bracket : (n : List ℕ) → is_name n ≡ true → position is_open_bracket n ≡ None
no_bracket n named = by (position is_open_bracket n) refl
  where
    front : (begins_as_name n && list_all is_name_byte n && nat_le (length n) 32) ≡ true
    front = and_left (begins_as_name n && list_all is_name_byte n && nat_le (length n) 32) (not (is_reserved n)) named

    bytes : list_all is_name_byte n ≡ true
    bytes = and_right (begins_as_name n) (list_all is_name_byte n) (and_left (begins_as_name n && list_all is_name_byte n) (nat_le (length n) 32) front)

    by : (o : Option ℕ) → position is_open_bracket n ≡ o → position is_open_bracket n ≡ None
    by None e = e
    by (Some i) e =
        let at = position_passes is_open_bracket n i e in
        let byte = passes_at is_name_byte n i at.0 bytes at.1 in
        let is : at.0 ≡ 91 = true_eq at.0 91 at.2 in
        let bad : false ≡ true = sym (ap is_name_byte is) ∙ byte in
        absurd cc

-- what has a bracket is none of the words without one
not_word : (n word : List ℕ) (i : ℕ) → position is_open_bracket n ≡ Some i → position is_open_bracket word ≡ None → bytes_eq n word ≡ false
not_word n word i there none =
    false_if_not (bytes_eq n word) (λ e. (let bad : None ≡ Some i = sym none ∙ ap (position is_open_bracket) (sym (bytes_is n word e)) ∙ there in cc))

-- where the word is none of the four, it is a reference in an emit
is_reference : (text : List ℕ) (version from to : ℕ) → bytes_eq (spelled text from to) (codes "value") ≡ false
    → bytes_eq (spelled text from to) (codes "key") ≡ false → bytes_eq (spelled text from to) (codes "time") ≡ false
    → is_item_word version (spelled text from to) ≡ false → field_at text version false from to ≡ ref_at text version from to
unfolding field_at
is_reference text version from to a b c d =
    let word = spelled text from to in
    let reference = ref_at text version from to in
    ap (λ t. if t then Some w.Value else if bytes_eq word (codes "key") then Some w.Key else if bytes_eq word
    (codes "time") then Some w.Time else if is_item_word
    version word then Some w.Item else reference) a
    ∙ ap (λ t. if t then Some w.Key else if bytes_eq word (codes "time") then Some w.Time else if is_item_word version word then Some w.Item else reference) b
    ∙ ap (λ t. if t then Some w.Time else if is_item_word version word then Some w.Item else reference) c
    ∙ ap (λ t. if t then Some w.Item else reference) d

-- and where it is no `cell` either, a family in a flush
is_family : (text : List ℕ) (version from to : ℕ) → bytes_eq (spelled text from to) (codes "value") ≡ false
    → bytes_eq (spelled text from to) (codes "key") ≡ false → bytes_eq (spelled text from to) (codes "time") ≡ false
    → is_item_word version (spelled text from to) ≡ false → bytes_eq (spelled text from to) (codes "cell") ≡ false
    → field_at text version true from to ≡ family_at text version from to
unfolding field_at
is_family text version from to a b c d e =
    let word = spelled text from to in
    let family = family_at text version from to in
    let held = if bytes_eq word (codes "cell") then Some w.CellValue else family in
    ap (λ t. if t then Some w.Value else if bytes_eq word (codes "key") then Some w.Key else if bytes_eq word
    (codes "time") then Some w.Time else if is_item_word
    version word then Some w.Item else held) a
    ∙ ap (λ t. if t then Some w.Key else if bytes_eq word (codes "time") then Some w.Time else if is_item_word version word then Some w.Item else held) b
    ∙ ap (λ t. if t then Some w.Time else if is_item_word version word then Some w.Item else held) c
    ∙ ap (λ t. if t then Some w.Item else held) d
    ∙ ap (λ t. if t then Some w.CellValue else family) e

bracketed : (text : List ℕ) (version from to i : ℕ) → position is_open_bracket (spelled text from to) ≡ Some i
    → field_at text version false from to ≡ ref_at text version from to
bracketed text version from to i place =
    is_reference text version from to (not_word (spelled text from to) (codes "value") i place refl)
    (not_word (spelled text from to) (codes "key") i place refl)
    (not_word (spelled text from to) (codes "time") i place refl)
    (other_word version (spelled text from to) (not_word (spelled text from to) (codes "item") i place refl))

keyed_found : (text : List ℕ) (version from to i : ℕ) (key : WrittenKey) → position is_open_bracket (spelled text from to) ≡ Some i
    → is_name (spelled text from (from + i)) ≡ true → spelled text (to - 1) to ≡ codes "]"
    → key_at version (spelled text (from + i + 1) (to - 1)) (from + i + 1) ≡ Some key
    → field_at text version false from to ≡ Some (w.Read (record { family = span from (from + i); key = key }))
unfolding ref_with
keyed_found text version from to i key place named closes is =
    let made =
    option_map (λ key. w.Read (record { family = span from (from + i); key = key }))
    (key_at version (spelled text (from + i + 1) (to - 1)) (from + i + 1)) in
    bracketed text version from to i place
    ∙ ap (ref_with text version from to) place
    ∙ ap (λ t. if t then made else None) (both (is_name (spelled text from (from + i))) (bytes_eq (spelled text (to - 1) to) (codes "]")) named
    (subst (λ (x : List ℕ). bytes_eq x (codes "]") ≡ true) (sym closes) refl))
    ∙ ap (option_map (λ key. w.Read (record { family = span from (from + i); key = key }))) is

digits_found : (version b at : ℕ) (bs : List ℕ) → list_all is_ascii_digit (b ∷ bs) ≡ true → digits_value 10 (b ∷ bs) < 2 ^ 63
    → key_at version (b ∷ bs) at ≡ Some (k.Fixed (record { value = pos (digits_value 10 (b ∷ bs)); at = at }))
unfolding key_at digits_at number_of
digits_found version b at bs digits small =
    let no_digits : (word : List ℕ) → list_all is_ascii_digit word ≡ false → bytes_eq (b ∷ bs) word ≡ false = λ word fails.
    false_if_not (bytes_eq (b ∷ bs) word) (λ e. not_both (list_all is_ascii_digit (b ∷ bs)) digits
    (ap (list_all is_ascii_digit) (bytes_is (b ∷ bs) word e) ∙ fails)) in
    let read = option_map (λ n. k.Fixed (record { value = pos n; at = at })) (number_of (b ∷ bs)) in
    let found = if list_all is_ascii_digit (b ∷ bs) then read else None in
    ap (λ t. if t then Some (k.OwnKey at) else if is_item_word version (b ∷ bs) then Some (k.OwnItem at) else found) (no_digits (codes "key") refl)
    ∙ ap (λ t. if t then Some (k.OwnItem at) else found) (other_word version (b ∷ bs) (no_digits (codes "item") refl))
    ∙ ap (λ t. if t then read else None) digits
    ∙ ap (λ t. option_map (λ n. k.Fixed (record { value = pos n; at = at })) (if t then Some (digits_value 10 (b ∷ bs)) else None))
    (lt_true (digits_value 10 (b ∷ bs)) (2 ^ 63) small)

own_found : (version at : ℕ) → key_at version (codes "key") at ≡ Some (k.OwnKey at)
unfolding key_at
own_found version at = refl

own_item_found : (version at : ℕ) (word : List ℕ) → IsItemWord version word → key_at version word at ≡ Some (k.OwnItem at)
unfolding key_at
own_item_found version at word is =
    ap (λ t. if t then Some (k.OwnKey at) else if is_item_word version word then Some (k.OwnItem at) else digits_at word at)
    (ap (λ (x : List ℕ). bytes_eq x (codes "key")) is.1)
    ∙ ap (λ t. if t then Some (k.OwnItem at) else digits_at word at) (is_item version word is)

in_emit : (text : List ℕ) (version : ℕ) (in_flush : Bool) (from to : ℕ) (q : WrittenPiece) → in_flush ≡ false → field_at text version false from to ≡ Some q
    → field_at text version in_flush from to ≡ Some q
in_emit text version in_flush from to q e found = ap (λ b. field_at text version b from to) e ∙ found

pub field_found : {text : List ℕ} {version : ℕ} {in_flush : Bool} {from to : ℕ} {q : WrittenPiece} → IsField text version in_flush from to q
    → field_at text version in_flush from to ≡ Some q
unfolding ref_with family_at
field_found {text} {version} {in_flush} {from} {to} (field_value e) = spelled_so text version in_flush from to (codes "value") e
field_found {text} {version} {in_flush} {from} {to} (field_key e) = spelled_so text version in_flush from to (codes "key") e
field_found {text} {version} {in_flush} {from} {to} (field_time e) = spelled_so text version in_flush from to (codes "time") e
field_found {text} {version} {in_flush} {from} {to} (field_item is) =
    spelled_so text version in_flush from to (codes "item") is.1
    ∙ ap (λ t. if t then Some w.Item else if in_flush then family_at text version from to else ref_at text version from to) (is_item version (codes "item")
    (is.0, refl))
field_found {text} {version} {in_flush} {from} {to} (field_cell flush e) =
    spelled_so text version in_flush from to (codes "cell") e
    ∙ ap (λ t. if t then Some w.Item else if in_flush then Some w.CellValue else ref_at text version from to) (other_word version (codes "cell") refl)
    ∙ ap (λ b. if b then Some w.CellValue else ref_at text version from to) flush
field_found {text} {version} {in_flush} {from} {to} (field_flushed flush third named other) =
    ap (λ b. field_at text version b from to) flush
    ∙ is_family text version from to (not_reserved (spelled text from to) r.Value 21 named refl) (not_reserved (spelled text from to) r.Key 22 named refl)
    (not_reserved (spelled text from to) r.Time 23 named refl) (not_item version (spelled text from to) other)
    (not_reserved (spelled text from to) r.Cell 0 named refl)
    ∙ ap (λ t. if t then Some (w.Family (span from to)) else None)
    (both (version == 3) (is_name (spelled text from to)) (eq_true version 3 third) named)
field_found {text} {version} {in_flush} {from} {to} (field_family emit named other) =
    in_emit text version in_flush from to (w.Read (record { family = span from to; key = k.Alone })) emit
    (is_reference text version from to (not_reserved (spelled text from to) r.Value 21 named refl) (not_reserved (spelled text from to) r.Key 22 named refl)
    (not_reserved (spelled text from to) r.Time 23 named refl) (not_item version (spelled text from to) other)
    ∙ ap (ref_with text version from to) (no_bracket (spelled text from to) named)
    ∙ ap (λ t. if t then Some (w.Read (record { family = span from to; key = k.Alone })) else None) named)
field_found {text} {version} {in_flush} {from} {to} (field_own i emit place named closes is) =
    in_emit text version in_flush from to (w.Read (record { family = span from (from + i); key = k.OwnKey (from + i + 1) })) emit
    (keyed_found text version from to i (k.OwnKey (from + i + 1)) place named closes
    (ap (λ (x : List ℕ). key_at version x (from + i + 1)) is ∙ own_found version (from + i + 1)))
field_found {text} {version} {in_flush} {from} {to} (field_own_item i emit place named closes is) =
    in_emit text version in_flush from to (w.Read (record { family = span from (from + i); key = k.OwnItem (from + i + 1) })) emit
    (keyed_found text version from to i (k.OwnItem (from + i + 1)) place named closes
    (own_item_found version (from + i + 1) (spelled text (from + i + 1) (to - 1)) is))
field_found {text} {version} {in_flush} {from} {to} (field_fixed i b bs emit place named closes is digits small) =
    let key : WrittenKey = k.Fixed (record { value = pos (digits_value 10 (b ∷ bs)); at = from + i + 1 }) in
    in_emit text version in_flush from to (w.Read (record { family = span from (from + i); key = key })) emit
    (keyed_found text version from to i key place named closes
    (ap (λ (x : List ℕ). key_at version x (from + i + 1)) is ∙ digits_found version b (from + i + 1) bs digits small))

-- ---- templates

-- what stands between two braces and has the form of no field
abbrev pub is_formless : WrittenPiece → Bool
is_formless (w.Plain s) = false
is_formless w.Value = false
is_formless w.Key = false
is_formless w.Item = false
is_formless w.Time = false
is_formless w.CellValue = false
is_formless (w.Read r) = false
is_formless (w.Family s) = false
is_formless w.Formless = true

-- where no piece is formless, each field has a form
pub formed : {text : List ℕ} {version : ℕ} {in_flush first : Bool} {at : ℕ} {bytes : List ℕ} {qs : List WrittenPiece}
    → IsCut (field_between text version in_flush) first at bytes qs → list_any is_formless qs ≡ false → AreCut text version in_flush first at bytes qs
formed (is_none first at) none = cut_none first at
formed (is_plain at b more rest qs plain cut) none = cut_plain at b more rest qs plain (formed cut none)
formed {text} {version} {in_flush} (is_field first at word rest qs plain cut) none =
    cut_field first at word rest (field_between text version in_flush (at + 1) (at + 1 + length word)) qs plain
    (by (field_at text version in_flush (at + 1) (at + 1 + length word)) refl none)
    (formed cut (or_false_right (is_formless (field_between text version in_flush (at + 1) (at + 1 + length word))) (list_any is_formless qs) none))
  where
    by : (o : Option WrittenPiece) → field_at text version in_flush (at + 1) (at + 1 + length word) ≡ o
        → (is_formless (braced o) || list_any is_formless qs) ≡ false
        → IsField text version in_flush (at + 1) (at + 1 + length word) (braced o)
    by None e none = absurd cc
    by (Some q) e none = field_means text version (at + 1) (at + 1 + length word) in_flush q e

-- and the other way round
field_formed : {text : List ℕ} {version : ℕ} {in_flush : Bool} {from to : ℕ} {q : WrittenPiece} → IsField text version in_flush from to q
    → is_formless q ≡ false
field_formed (field_value e) = refl
field_formed (field_key e) = refl
field_formed (field_time e) = refl
field_formed (field_item is) = refl
field_formed (field_cell flush e) = refl
field_formed (field_flushed flush third named other) = refl
field_formed (field_family emit named other) = refl
field_formed (field_own i emit place named closes is) = refl
field_formed (field_own_item i emit place named closes is) = refl
field_formed (field_fixed i b bs emit place named closes is digits small) = refl

pub all_formed : {text : List ℕ} {version : ℕ} {in_flush first : Bool} {at : ℕ} {bytes : List ℕ} {qs : List WrittenPiece}
    → AreCut text version in_flush first at bytes qs
    → list_any is_formless qs ≡ false
all_formed (cut_none first at) = refl
all_formed (cut_plain at b more rest qs plain cut) = all_formed cut
all_formed (cut_field first at word rest field qs plain form cut) = ap (λ b. b || list_any is_formless qs) (field_formed form) ∙ all_formed cut

pub told : {text : List ℕ} {version : ℕ} {in_flush first : Bool} {at : ℕ} {bytes : List ℕ} {qs : List WrittenPiece}
    → AreCut text version in_flush first at bytes qs
    → IsCut (field_between text version in_flush) first at bytes qs
told (cut_none first at) = is_none first at
told (cut_plain at b more rest qs plain cut) = is_plain at b more rest qs plain (told cut)
told {text} {version} {in_flush} (cut_field first at word rest field qs plain form cut) =
    subst (λ (x : WrittenPiece). IsCut (field_between text version in_flush) first at (open_brace ∷ (word ++ close_brace ∷ rest)) (x ∷ qs)) (ap braced
    (field_found form))
    (is_field first at word rest qs plain (told cut))
