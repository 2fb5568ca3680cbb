-- A field that was printed is read as that field.
use Rattle.std.proofs.Common.{◌≡◌, ◌<◌, ◌^◌, ◌+◌, ◌-◌, ℕ, pos, Bool, true, false, cond, ◌&&◌, List, [], ◌∷◌, ◌++◌, length, Option, Some, None, Ok, refl, sym}
use Rattle.std.proofs.Common.{ap, ◌∙◌, append_assoc, length-append, arith}
use Rattle.std.specs.Prelude.{nat_lt, nat_le, not, ◌==◌, option_map, slice_get, codes, if◌then◌else◌}
use Rattle.std.specs.Char.{is_ascii_digit}
use Rattle.std.specs.Fmt.{decimal}
use Rattle.std.specs.List.{list_all, list_any, prefix_len, position}
use Rattle.std.specs.Str.{IsUtf8, bytes_eq}
use Rattle.std.specs.Str.Parse.{digits_value}
use Rattle.std.proofs.lemmas.Bool.Decides.{nat_tests}
use Rattle.std.proofs.lemmas.Fmt.{decimal_is_IsNumeral, decimal_nonempty}
use Rattle.std.proofs.lemmas.List.{append-nil}
use Rattle.std.proofs.lemmas.List.Folds.{list_all-append, list_any-append}
use Rattle.std.proofs.lemmas.Slice.Eq.{bytes_eq-Decides}
use Rattle.flu_lemmas.proofs.Tests.{and_left, and_right, both, true_lt, lt_true, not_true, not_both, false_if_not}
use Rattle.flu_lemmas.specs.Spans.{is_boundary, spelled}
use Rattle.flu_lemmas.proofs.Booleans.{or_true, and_false}
use Rattle.flu_lemmas.proofs.Elements.{list_all_weaker, fails_at}
use Rattle.flu_lemmas.proofs.Spans.{Place, before_ascii, after_ascii, spelled_between}
use Rattle.flu_lemmas.proofs.Digits.{decimal_digits}
use Rattle.flu_text.specs.Lexeme.{number_of}
use Rattle.flu_model.specs.declared.jobs.At.{At}
use Rattle.flu_model.specs.declared.jobs.At.TheVariants as at
use Rattle.flu_model.specs.declared.limits.What.TheVariants.{Key}
use Rattle.flu_model.specs.Contents.{key_count}
use Rattle.flu_model.specs.Rules.{key_fits}
use Rattle.flu_model.specs.Templates.{written_key}
use Rattle.flu_syntax.specs.declared.tree.WrittenKey.{WrittenKey}
use Rattle.flu_syntax.specs.declared.tree.WrittenKey.TheVariants as k
use Rattle.flu_syntax.specs.declared.tree.WrittenRef.{WrittenRef}
use Rattle.flu_names.specs.declared.reserved.Reserved.{Reserved}
use Rattle.flu_names.specs.declared.reserved.Reserved.TheVariants as r
use Rattle.flu_names.specs.Names.{is_name, is_name_byte, begins_as_name, is_reserved, reserved_spelling, reserved_words}
use Rattle.flu_layout.specs.Spelling.{name_of}
use Rattle.flu_parse.specs.declared.faults.JobFault.TheVariants as f
use Rattle.flu_parse.specs.declared.names.KindHead.{KindHead}
use Rattle.flu_parse.specs.declared.pieces.WrittenPiece.{WrittenPiece}
use Rattle.flu_parse.specs.declared.pieces.WrittenPiece.TheVariants as p
use Rattle.flu_parse.specs.Faults.{◌>>=◌, ◌>>◌, unless}
use Rattle.flu_parse.specs.Naming.{Naming, is_version_3, takes_items}
use Rattle.flu_parse.specs.Cells.{brackets_fit, at_of}
use Rattle.flu_parse.specs.Templates.{span, is_open_bracket, digits_at, key_at, ref_with, ref_at, family_at, field_at, own_key_fits}
use Rattle.flu_parse.proofs.Printed.Quotes.{name_bytes, name_between}
use Rattle.flu_parse.proofs.Printed.Scans.{no_brace}
use Rattle.flu_parse.proofs.Printed.ReadTerms.{ItemsKnown}
use Rattle.flu_parse.proofs.Kept.Versions.{at_suits}

-- ---- names are none of the words that a field may be

not_reserved : (n : List ℕ) (word : Reserved) (i : ℕ) → is_name n ≡ true → slice_get reserved_words i ≡ Some word → bytes_eq n (reserved_spelling word) ≡ false
not_reserved n word i named found =
    let free = and_right (begins_as_name n && list_all is_name_byte n && nat_le (length n) 32) (not (is_reserved n)) named in
    let other = fails_at (λ (r : Reserved). bytes_eq (reserved_spelling r) n) reserved_words i word (not_true (is_reserved n) free) found in
    false_if_not (bytes_eq n (reserved_spelling word)) (λ e.
    not_both (bytes_eq (reserved_spelling word) n) ((bytes_eq-Decides (reserved_spelling word) n).1
    (sym ((bytes_eq-Decides n (reserved_spelling word)).0 e))) other)

-- what has a bracket is no word without one
not_bracketed : (n more word : List ℕ) → list_any is_open_bracket word ≡ false → bytes_eq (n ++ 91 ∷ more) word ≡ false
not_bracketed n more word none = false_if_not (bytes_eq (n ++ 91 ∷ more) word) (λ e.
    not_both (list_any is_open_bracket word)
    (ap (list_any is_open_bracket) (sym ((bytes_eq-Decides (n ++ 91 ∷ more) word).0 e)) ∙ list_any-append is_open_bracket n (91 ∷ more)
    ∙ or_true (list_any is_open_bracket n)) none)

-- ---- the key of a field

digits_are : (ds : List ℕ) (at m : ℕ) → 0 < length ds → list_all is_ascii_digit ds ≡ true → number_of ds ≡ Some m
    → digits_at ds at ≡ Some (k.Fixed (record { value = pos m; at = at }))
unfolding digits_at
digits_are [] at m some digits number = absurd (omega arith)
digits_are (b ∷ bs) at m some digits number =
    ap (λ t. if t then option_map (λ n. k.Fixed (record { value = pos n; at = at })) (number_of (b ∷ bs)) else None) digits
    ∙ ap (option_map (λ n. k.Fixed (record { value = pos n; at = at }))) number

number_is : (ds : List ℕ) (m : ℕ) → digits_value 10 ds ≡ m → m < 2 ^ 63 → number_of ds ≡ Some m
unfolding number_of
number_is ds m value small =
    ap (λ n. if nat_lt n (2 ^ 63) then Some n else None) value ∙ ap (λ t. if t then Some m else None) (lt_true m (2 ^ 63) small)

not_key : (ds : List ℕ) → list_all is_ascii_digit ds ≡ true → bytes_eq ds (codes "key") ≡ false
not_key ds digits = false_if_not (bytes_eq ds (codes "key")) (λ e. not_both (list_all is_ascii_digit ds) digits
    (ap (list_all is_ascii_digit) ((bytes_eq-Decides ds (codes "key")).0 e)))

not_item : (ds : List ℕ) → list_all is_ascii_digit ds ≡ true → bytes_eq ds (codes "item") ≡ false
not_item ds digits = false_if_not (bytes_eq ds (codes "item")) (λ e. not_both (list_all is_ascii_digit ds) digits
    (ap (list_all is_ascii_digit) ((bytes_eq-Decides ds (codes "item")).0 e)))

key_of_number : (version m at : ℕ) → m < 65536 → key_at version (decimal m) at ≡ Some (k.Fixed (record { value = pos m; at = at }))
unfolding key_at
key_of_number version m at small =
    let wide : m < 2 ^ 64 = omega arith in
    let digits = decimal_digits m wide in
    let item : Bool = (version == 3) && bytes_eq (decimal m) (codes "item") in
    ap (λ t. if t then Some (k.OwnKey at) else if item then Some (k.OwnItem at) else digits_at (decimal m) at) (not_key (decimal m) digits)
    ∙ ap (λ t. if (version == 3) && t then Some (k.OwnItem at) else digits_at (decimal m) at) (not_item (decimal m) digits)
    ∙ ap (λ t. if t then Some (k.OwnItem at) else digits_at (decimal m) at) (and_false (version == 3))
    ∙ digits_are (decimal m) at m (decimal_nonempty m wide) digits (number_is (decimal m) m (decimal_is_IsNumeral m wide).1 (omega arith))

own_key : (version at : ℕ) → key_at version (codes "key") at ≡ Some (k.OwnKey at)
unfolding key_at
own_key version at = refl

own_item : (version at : ℕ) → (version == 3) ≡ true → key_at version (codes "item") at ≡ Some (k.OwnItem at)
unfolding key_at
own_item version at newer = ap (λ t. if t && true then Some (k.OwnItem at) else digits_at (codes "item") at) newer

-- ---- the first bracket

no_bracket : (b : ℕ) → is_name_byte b ≡ true → not (is_open_bracket b) ≡ true
no_bracket b h = grind (arith, nat_tests)

prefix_all : (q : ℕ → Bool) (n : List ℕ) → list_all q n ≡ true → prefix_len q n ≡ length n
prefix_all q [] h = refl
prefix_all q (b ∷ n) h =
    let rest : prefix_len q n ≡ length n = prefix_all q n (and_right (q b) (list_all q n) h) in
    ap (λ t. cond t (1 + prefix_len q n) 0) (and_left (q b) (list_all q n) h) ∙ omega (arith, rest)

prefix_to : (q : ℕ → Bool) (n : List ℕ) (y : ℕ) (more : List ℕ) → list_all q n ≡ true → q y ≡ false → prefix_len q (n ++ y ∷ more) ≡ length n
prefix_to q [] y more h stop = ap (λ t. cond t (1 + prefix_len q more) 0) stop
prefix_to q (b ∷ n) y more h stop =
    let rest : prefix_len q (n ++ y ∷ more) ≡ length n = prefix_to q n y more (and_right (q b) (list_all q n) h) stop in
    ap (λ t. cond t (1 + prefix_len q (n ++ y ∷ more)) 0) (and_left (q b) (list_all q n) h) ∙ omega (arith, rest)

abbrev position_with : List ℕ → ℕ → Option ℕ
position_with xs n = cond (nat_lt n (length xs)) (Some n) None

no_position : (n : List ℕ) → list_all is_name_byte n ≡ true → position is_open_bracket n ≡ None
no_position n h =
    let none : nat_lt (length n) (length n) ≡ false = grind (arith, nat_tests) in
    ap (position_with n) (prefix_all (λ b. not (is_open_bracket b)) n (list_all_weaker is_name_byte (λ b. not (is_open_bracket b)) n no_bracket h))
    ∙ ap (λ t. cond t (Some (length n)) None) none

position_is : (n more : List ℕ) → list_all is_name_byte n ≡ true → position is_open_bracket (n ++ 91 ∷ more) ≡ Some (length n)
position_is n more h =
    let inside : length n < length (n ++ 91 ∷ more) = omega (arith, length-append n (91 ∷ more)) in
    ap (position_with (n ++ 91 ∷ more)) (prefix_to (λ b. not (is_open_bracket b)) n 91 more
    (list_all_weaker is_name_byte (λ b. not (is_open_bracket b)) n no_bracket h) refl)
    ∙ ap (λ t. cond t (Some (length n)) None) (lt_true (length n) (length (n ++ 91 ∷ more)) inside)

-- ---- what stands between braces

-- the word of a field, before its closing brace
pub word_between : (whole before word after : List ℕ) (from to : ℕ) → Place whole before (word ++ 125 ∷ after) from → to ≡ from + length word
    → is_boundary whole from ≡ true → spelled whole from to ≡ word
word_between whole before word after from to at size begins =
    let is : whole ≡ (before ++ word) ++ 125 ∷ after = at.is ∙ simp append_assoc in
    let here : to ≡ length (before ++ word) = omega (arith, size, at.here, length-append before word) in
    spelled_between whole before word (125 ∷ after) from to at size begins
    (before_ascii whole (before ++ word) 125 after to (record { is = is; here = here }) (omega arith))

module _ (whole : List ℕ) (utf8 : IsUtf8 whole) (version : ℕ) (before n after : List ℕ) (from to : ℕ) (named : is_name n ≡ true)
    (begins : is_boundary whole from ≡ true) where
  -- a family's name alone
  alone : Place whole before (n ++ 125 ∷ after) from → to ≡ from + length n
      → ref_at whole version from to ≡ Some (p.Read (record { family = span from to; key = k.Alone }))
  unfolding ref_with
  alone at size =
      let word = word_between whole before n after from to at size begins in
      ap (λ w. ref_with whole version from to (position is_open_bracket w)) word
      ∙ ap (ref_with whole version from to) (no_position n (name_bytes n named))
      ∙ ap (λ w. if is_name w then Some (p.Read (record { family = span from to; key = k.Alone })) else None) word
      ∙ ap (λ t. if t then Some (p.Read (record { family = span from to; key = k.Alone })) else None) named

  -- a family's name and a key in brackets
  bracketed : (inner : List ℕ) (key : WrittenKey) → Place whole before ((n ++ 91 ∷ (inner ++ 93 ∷ [])) ++ 125 ∷ after) from
      → to ≡ from + length (n ++ 91 ∷ (inner ++ 93 ∷ [])) → key_at version inner (from + length n + 1) ≡ Some key
      → ref_at whole version from to ≡ Some (p.Read (record { family = span from (from + length n); key = key }))
  unfolding ref_with
  bracketed inner key at size found =
      let i : ℕ = length n in
      let sizes : length (n ++ 91 ∷ (inner ++ 93 ∷ [])) ≡ length n + length inner + 2 =
      omega (arith, length-append n (91 ∷ (inner ++ 93 ∷ [])), length-append inner (93 ∷ [])) in
      let name_is : whole ≡ before ++ (n ++ (91 ∷ (inner ++ (93 ∷ 125 ∷ after)))) = at.is ∙ simp append_assoc in
      let open_is : whole ≡ (before ++ n) ++ (91 ∷ (inner ++ (93 ∷ 125 ∷ after))) = name_is ∙ simp append_assoc in
      let open_here : from + i ≡ length (before ++ n) = omega (arith, at.here, length-append before n) in
      let inner_is : whole ≡ ((before ++ n) ++ 91 ∷ []) ++ (inner ++ (93 ∷ 125 ∷ after)) = open_is ∙ simp append_assoc in
      let inner_here : from + i + 1 ≡ length ((before ++ n) ++ 91 ∷ []) = omega (arith, open_here, length-append (before ++ n) (91 ∷ [])) in
      let close_is : whole ≡ (((before ++ n) ++ 91 ∷ []) ++ inner) ++ (93 ∷ 125 ∷ after) = inner_is ∙ simp append_assoc in
      let close_here : to - 1 ≡ length (((before ++ n) ++ 91 ∷ []) ++ inner) =
      omega (arith, inner_here, size, sizes, length-append ((before ++ n) ++ 91 ∷ []) inner) in
      let brace_is : whole ≡ ((((before ++ n) ++ 91 ∷ []) ++ inner) ++ 93 ∷ []) ++ (125 ∷ after) = close_is ∙ simp append_assoc in
      let brace_here : to ≡ length ((((before ++ n) ++ 91 ∷ []) ++ inner) ++ 93 ∷ []) =
      omega (arith, close_here, size, sizes, length-append (((before ++ n) ++ 91 ∷ []) ++ inner) (93 ∷ [])) in
      let behind_open = after_ascii whole (before ++ n) 91 (inner ++ (93 ∷ 125 ∷ after)) (from + i) utf8 (record { is = open_is; here = open_here })
      (omega arith) in
      let before_close = before_ascii whole (((before ++ n) ++ 91 ∷ []) ++ inner) 93 (125 ∷ after) (to - 1) (record { is = close_is; here = close_here })
      (omega arith) in
      let before_brace = before_ascii whole ((((before ++ n) ++ 91 ∷ []) ++ inner) ++ 93 ∷ []) 125 after to (record { is = brace_is; here = brace_here })
      (omega arith) in
      let name_spelled = name_between whole before n (91 ∷ (inner ++ (93 ∷ 125 ∷ after))) from (from + i) utf8 named
      (record { is = name_is; here = at.here }) refl in
      let inner_spelled : spelled whole (from + i + 1) (to - 1) ≡ inner =
      spelled_between whole ((before ++ n) ++ 91 ∷ []) inner (93 ∷ 125 ∷ after) (from + i + 1) (to - 1) (record { is = inner_is; here = inner_here })
      (omega (arith, size, sizes)) behind_open before_close in
      let close_spelled : spelled whole (to - 1) to ≡ 93 ∷ [] =
      spelled_between whole (((before ++ n) ++ 91 ∷ []) ++ inner) (93 ∷ []) (125 ∷ after) (to - 1) to (record { is = close_is; here = close_here })
      (omega (arith, size, sizes)) before_close before_brace in
      let make : WrittenKey → WrittenPiece = λ key. p.Read (record { family = span from (from + i); key = key }) in
      ap (λ w. ref_with whole version from to (position is_open_bracket w))
      (word_between whole before (n ++ 91 ∷ (inner ++ 93 ∷ [])) after from to at size begins)
      ∙ ap (ref_with whole version from to) (position_is n (inner ++ 93 ∷ []) (name_bytes n named))
      ∙ ap (λ w. if is_name w && bytes_eq (spelled whole (to - 1) to) (codes "]") then option_map make
      (key_at version (spelled whole (from + i + 1) (to - 1)) (from + i + 1)) else None) name_spelled
      ∙ ap (λ t. if t && bytes_eq (spelled whole (to - 1) to) (codes "]") then option_map make
      (key_at version (spelled whole (from + i + 1) (to - 1)) (from + i + 1)) else None) named
      ∙ ap (λ w. if bytes_eq w (codes "]") then option_map make (key_at version (spelled whole (from + i + 1) (to - 1)) (from + i + 1)) else None) close_spelled
      ∙ ap (λ w. option_map make (key_at version w (from + i + 1))) inner_spelled
      ∙ ap (option_map make) found

-- a reference between braces, as it is read under a kind
pub record FieldIs (whole : List ℕ) (names : Naming) (under : KindHead) (n : List ℕ) (family_keyed : Bool) (a : At) (from to : ℕ) : Type 0 where
  pub written : WrittenRef
  pub read : ref_at whole names.version from to ≡ Some (p.Read written)
  pub named : name_of whole written.family ≡ n
  pub brackets : brackets_fit family_keyed written.key ≡ true
  pub own : own_key_fits names under written.key ≡ true
  pub means : at_of names under written.key ≡ Ok a

module _ (whole : List ℕ) (utf8 : IsUtf8 whole) (names : Naming) (under : KindHead) (items : ItemsKnown names under)
    (before n after : List ℕ) (from to : ℕ) (named : is_name n ≡ true) (begins : is_boundary whole from ≡ true) where
  pub read_field : (family_keyed : Bool) (a : At) → key_fits family_keyed under.keyed a ≡ true → at_suits under.has_item a ≡ true
      → Place whole before ((n ++ written_key a) ++ 125 ∷ after) from
      → to ≡ from + length (n ++ written_key a) → FieldIs whole names under n family_keyed a from to
  read_field family_keyed at.Alone fits suits place size =
      let at_name : Place whole before (n ++ 125 ∷ after) from = record {
        is = place.is
            ∙ ap (λ w. before ++ (w ++ 125 ∷ after)) (append-nil n);
        here = place.here;
      } in
      let name_size : to ≡ from + length n = size ∙ ap (λ w. from + length w) (append-nil n) in
      record {
        written = record { family = span from to; key = k.Alone };
        read = alone whole utf8 names.version before n after from to named begins at_name name_size;
        named = word_between whole before n after from to at_name name_size begins;
        brackets = fits;
        own = refl;
        means = refl;
      }
  read_field family_keyed at.OwnKey fits suits place size =
      let name_at : Place whole before (n ++ (codes "[key]" ++ 125 ∷ after)) from =
      record { is = place.is ∙ ap (λ w. before ++ w) (append_assoc n (codes "[key]") (125 ∷ after)); here = place.here } in
      record {
        written = record { family = span from (from + length n); key = k.OwnKey (from + length n + 1) };
        read = bracketed whole utf8 names.version before n after from to named begins (codes "key") (k.OwnKey (from + length n + 1)) place size
            (own_key names.version (from + length n + 1));
        named = name_between whole before n (codes "[key]" ++ 125 ∷ after) from (from + length n) utf8 named name_at refl;
        brackets = and_left family_keyed under.keyed fits;
        own = and_right family_keyed under.keyed fits;
        means = ap (λ b. unless b (f.WrongShape (from + length n + 1)) >> Ok at.OwnKey) (and_right family_keyed under.keyed fits);
      }
  read_field family_keyed at.OwnItem fits suits place size =
      let name_at : Place whole before (n ++ (codes "[item]" ++ 125 ∷ after)) from =
      record { is = place.is ∙ ap (λ w. before ++ w) (append_assoc n (codes "[item]") (125 ∷ after)); here = place.here } in
      let takes : takes_items names under ≡ true = items ∙ suits in
      record {
        written = record { family = span from (from + length n); key = k.OwnItem (from + length n + 1) };
        read = bracketed whole utf8 names.version before n after from to named begins (codes "item") (k.OwnItem (from + length n + 1)) place size
            (own_item names.version (from + length n + 1) (and_left (is_version_3 names) under.has_item takes));
        named = name_between whole before n (codes "[item]" ++ 125 ∷ after) from (from + length n) utf8 named name_at refl;
        brackets = fits;
        own = takes;
        means = ap (λ b. unless b (f.WrongShape (from + length n + 1)) >> Ok at.OwnItem) takes;
      }
  read_field family_keyed (at.Fixed m) fits suits place size =
      let small = and_right family_keyed (nat_lt m key_count) fits in
      let name_at : Place whole before (n ++ (written_key (at.Fixed m) ++ 125 ∷ after)) from =
      record { is = place.is ∙ ap (λ w. before ++ w) (append_assoc n (written_key (at.Fixed m)) (125 ∷ after)); here = place.here } in
      record {
        written = record { family = span from (from + length n); key = k.Fixed (record { value = pos m; at = from + length n + 1 }) };
        read = bracketed whole utf8 names.version before n after from to named begins (decimal m)
            (k.Fixed (record { value = pos m; at = from + length n + 1 })) place size
            (key_of_number names.version m (from + length n + 1) (true_lt m 65536 small));
        named = name_between whole before n (written_key (at.Fixed m) ++ 125 ∷ after) from (from + length n) utf8 named name_at refl;
        brackets = and_left family_keyed (nat_lt m key_count) fits;
        own = refl;
        means = ap (λ b. unless b (f.OverLimit Key m) >> Ok m >>= λ key. Ok (at.Fixed key)) small;
      }

-- ---- which field a word is

abbrev field_with : List ℕ → ℕ → Bool → ℕ → ℕ → List ℕ → Option WrittenPiece
field_with whole version in_flush from to word =
    if bytes_eq word (codes "value") then Some p.Value
    else if bytes_eq word (codes "key") then Some p.Key
    else if bytes_eq word (codes "time") then Some p.Time
    else if (version == 3) && bytes_eq word (codes "item") then Some p.Item
    else if in_flush then (if bytes_eq word (codes "cell") then Some p.CellValue else family_at whole version from to)
    else ref_at whole version from to

pub field_of_word : (whole : List ℕ) (version : ℕ) (in_flush : Bool) (from to : ℕ) (word : List ℕ) → spelled whole from to ≡ word
    → field_at whole version in_flush from to ≡ field_with whole version in_flush from to word
unfolding field_at
field_of_word whole version in_flush from to word e = ap (field_with whole version in_flush from to) e

-- `item` in version 3, and `cell` in a flush
pub field_of_item : (whole : List ℕ) (version : ℕ) (in_flush : Bool) (from to : ℕ) → (version == 3) ≡ true → spelled whole from to ≡ codes "item"
    → field_at whole version in_flush from to ≡ Some p.Item
field_of_item whole version in_flush from to newer e =
    let other : Option WrittenPiece = if in_flush then family_at whole version from to else ref_at whole version from to in
    field_of_word whole version in_flush from to (codes "item") e ∙ ap (λ t. if t && true then Some p.Item else other) newer

pub field_of_cell : (whole : List ℕ) (version from to : ℕ) → spelled whole from to ≡ codes "cell" → field_at whole version true from to ≡ Some p.CellValue
field_of_cell whole version from to e =
    field_of_word whole version true from to (codes "cell") e ∙ ap (λ t. if t then Some p.Item else Some p.CellValue) (and_false (version == 3))

-- the word of a reference is none of the others
other_word : (n : List ℕ) (a : At) (i : ℕ) (word : Reserved) → is_name n ≡ true → slice_get reserved_words i ≡ Some word
    → list_any is_open_bracket (reserved_spelling word) ≡ false → bytes_eq (n ++ written_key a) (reserved_spelling word) ≡ false
other_word n at.Alone i word named found none = ap (λ w. bytes_eq w (reserved_spelling word)) (append-nil n) ∙ not_reserved n word i named found
other_word n at.OwnKey i word named found none = not_bracketed n (codes "key]") (reserved_spelling word) none
other_word n at.OwnItem i word named found none = not_bracketed n (codes "item]") (reserved_spelling word) none
other_word n (at.Fixed m) i word named found none = not_bracketed n (decimal m ++ codes "]") (reserved_spelling word) none

-- nor is it `item` in version 3, where no family is called so
item_word : (newer : Bool) (n : List ℕ) (a : At) → (newer && bytes_eq n (codes "item")) ≡ false
    → (newer && bytes_eq (n ++ written_key a) (codes "item")) ≡ false
item_word newer n at.Alone other = ap (λ w. newer && bytes_eq w (codes "item")) (append-nil n) ∙ other
item_word newer n at.OwnKey other = ap (λ b. newer && b) (not_bracketed n (codes "key]") (codes "item") refl) ∙ and_false newer
item_word newer n at.OwnItem other = ap (λ b. newer && b) (not_bracketed n (codes "item]") (codes "item") refl) ∙ and_false newer
item_word newer n (at.Fixed m) other = ap (λ b. newer && b) (not_bracketed n (decimal m ++ codes "]") (codes "item") refl) ∙ and_false newer

-- a word that is none of those that stand for themselves
field_of_other : (whole : List ℕ) (version : ℕ) (in_flush : Bool) (from to : ℕ) (n : List ℕ) (a : At) → is_name n ≡ true
    → ((version == 3) && bytes_eq n (codes "item")) ≡ false → spelled whole from to ≡ n ++ written_key a
    → field_at whole version in_flush from to ≡ (if in_flush then (if bytes_eq (n ++ written_key a) (codes "cell") then Some p.CellValue
    else family_at whole version from to) else ref_at whole version from to)
field_of_other whole version in_flush from to n a named other e =
    let word : List ℕ = n ++ written_key a in
    let in_a_flush : Option WrittenPiece = if bytes_eq word (codes "cell") then Some p.CellValue else family_at whole version from to in
    let last : Option WrittenPiece = if in_flush then in_a_flush else ref_at whole version from to in
    let fourth : Option WrittenPiece = if (version == 3) && bytes_eq word (codes "item") then Some p.Item else last in
    let third : Option WrittenPiece = if bytes_eq word (codes "time") then Some p.Time else fourth in
    field_of_word whole version in_flush from to word e
    ∙ ap (λ t. if t then Some p.Value else if bytes_eq word (codes "key") then Some p.Key else third) (other_word n a 21 r.Value named refl refl)
    ∙ ap (λ t. if t then Some p.Key else third) (other_word n a 22 r.Key named refl refl)
    ∙ ap (λ t. if t then Some p.Time else fourth) (other_word n a 23 r.Time named refl refl)
    ∙ ap (λ t. if t then Some p.Item else last) (item_word (version == 3) n a other)

pub field_of_ref : (whole : List ℕ) (version from to : ℕ) (n : List ℕ) (a : At) → is_name n ≡ true
    → ((version == 3) && bytes_eq n (codes "item")) ≡ false → spelled whole from to ≡ n ++ written_key a
    → field_at whole version false from to ≡ ref_at whole version from to
field_of_ref whole version from to n a named other e = field_of_other whole version false from to n a named other e

-- a family's name in a flush of version 3
pub field_of_family : (whole : List ℕ) (version from to : ℕ) (n : List ℕ) → is_name n ≡ true
    → ((version == 3) && bytes_eq n (codes "item")) ≡ false → (version == 3) ≡ true → spelled whole from to ≡ n
    → field_at whole version true from to ≡ Some (p.Family (span from to))
unfolding family_at
field_of_family whole version from to n named other newer e =
    field_of_other whole version true from to n at.Alone named other (e ∙ sym (append-nil n))
    ∙ ap (λ t. if t then Some p.CellValue else family_at whole version from to) (other_word n at.Alone 0 r.Cell named refl refl)
    ∙ ap (λ w. if (version == 3) && is_name w then Some (p.Family (span from to)) else None) e
    ∙ ap (λ t. if t then Some (p.Family (span from to)) else None) (both (version == 3) (is_name n) newer named)

-- no word of a field has a closing brace
key_closed : (a : At) (family_keyed keyed : Bool) → key_fits family_keyed keyed a ≡ true → list_all no_brace (written_key a) ≡ true
key_closed at.Alone family_keyed keyed fits = refl
key_closed at.OwnKey family_keyed keyed fits = refl
key_closed at.OwnItem family_keyed keyed fits = refl
key_closed (at.Fixed m) family_keyed keyed fits =
    let small : m < 65536 = true_lt m 65536 (and_right family_keyed (nat_lt m key_count) fits) in
    let digits = list_all_weaker is_ascii_digit no_brace (decimal m) digit_no_brace (decimal_digits m (omega arith)) in
    list_all-append no_brace (codes "[" ++ decimal m) (codes "]") ∙ both (list_all no_brace (codes "[" ++ decimal m)) true digits refl
  where
    digit_no_brace : (b : ℕ) → is_ascii_digit b ≡ true → no_brace b ≡ true
    digit_no_brace b h = grind (arith, nat_tests)

pub name_no_brace : (b : ℕ) → is_name_byte b ≡ true → no_brace b ≡ true
name_no_brace b h = grind (arith, nat_tests)

pub ref_closed : (n : List ℕ) (a : At) (family_keyed keyed : Bool) → is_name n ≡ true → key_fits family_keyed keyed a ≡ true
    → list_all no_brace (n ++ written_key a) ≡ true
ref_closed n a family_keyed keyed named fits =
    list_all-append no_brace n (written_key a)
    ∙ both (list_all no_brace n) (list_all no_brace (written_key a)) (list_all_weaker is_name_byte no_brace n name_no_brace (name_bytes n named))
    (key_closed a family_keyed keyed fits)
