-- How much of its text each piece of a template takes, at the least.
use Rattle.std.proofs.Common.{◌≡◌, ◌≤◌, ◌+◌, ◌-◌, ◌^◌, ℕ, pos, Bool, true, false, ◌&&◌, List, [], ◌∷◌, ◌++◌, length, drop, Option, Some, None, inl, inr, refl}
use Rattle.std.proofs.Common.{ap, subst, ◌∙◌, arith}
use Rattle.std.specs.Prelude.{nat_lt, nat_le, ◌==◌, slice_range, option_map, position, codes, if◌then◌else◌}
use Rattle.std.specs.Char.{is_ascii_digit}
use Rattle.std.specs.Fmt.{decimal}
use Rattle.std.specs.List.{list_all}
use Rattle.std.specs.Str.{bytes_eq}
use Rattle.std.specs.Str.Parse.{digits_value, AllDigits}
use Rattle.std.proofs.lemmas.Fmt.{length-decimal-le}
use Rattle.std.proofs.lemmas.Int.Digits.{digits_value-lt}
use Rattle.std.proofs.lemmas.List.{length-take}
use Rattle.std.proofs.lemmas.Slice.Eq.{bytes_eq-Decides}
use Rattle.std.proofs.lemmas.Str.{digit_value_digit}
use Rattle.flu_lemmas.specs.Totals.{total}
use Rattle.flu_lemmas.proofs.Totals.{total-append}
use Rattle.flu_lemmas.proofs.Prefixes.{chosen, mapped}
use Rattle.flu_lemmas.proofs.Tests.{and_left, and_right, true_lt}
use Rattle.flu_lemmas.proofs.Digits.{digit_in_range}
use Rattle.flu_lemmas.specs.Spans.{is_boundary, spelled}
use Rattle.flu_text.specs.Lexeme.{number_of}
use Rattle.flu_names.specs.Names.{is_name}
use Rattle.flu_text.specs.declared.written.WrittenSpan.{WrittenSpan}
use Rattle.flu_syntax.specs.declared.tree.WrittenKey.{WrittenKey}
use Rattle.flu_syntax.specs.declared.tree.WrittenKey.TheVariants as k
use Rattle.flu_layout.specs.Spelling.{inside, written_value}
use Rattle.flu_parse.specs.declared.pieces.WrittenPiece.{WrittenPiece}
use Rattle.flu_parse.specs.declared.pieces.WrittenPiece.TheVariants as p
use Rattle.flu_parse.specs.Templates.{close_brace, open_brace, is_open_bracket, span, digits_at, key_at, ref_with, ref_at, family_at, field_at, braced, Scan}
use Rattle.flu_parse.specs.Templates.{with_plain, with_piece, scan_byte, continued, end_of_scan, scan, scan_start, template_at}

-- ---- how much of a text a piece takes at least, and is written in at most

abbrev pub key_size : WrittenKey → ℕ
key_size k.Alone = 0
key_size (k.OwnKey place) = 5
key_size (k.OwnItem place) = 6
key_size (k.Fixed number) = length (decimal (written_value number.value)) + 2

abbrev pub piece_size : WrittenPiece → ℕ
piece_size (p.Plain s) = s.to - s.from
piece_size p.Value = 7
piece_size p.Key = 5
piece_size p.Item = 6
piece_size p.Time = 6
piece_size p.CellValue = 6
piece_size (p.Read r) = r.family.to - r.family.from + key_size r.key + 2
piece_size (p.Family s) = s.to - s.from + 2
piece_size p.Formless = 0

abbrev pub pieces_size : List WrittenPiece → ℕ
pieces_size qs = total piece_size qs

-- a name or a text takes no more than its span
pub spelled_size : (text : List ℕ) (from to : ℕ) → length (spelled text from to) ≤ to - from
spelled_size text from to = by (nat_le from to && is_boundary text from && is_boundary text to)
  where
    by : (b : Bool) → length (if b then slice_range text from to else []) ≤ to - from
    by true = omega (arith, length-take (to - from) (drop from text))
    by false = omega arith

same_word : (text : List ℕ) (from to : ℕ) (word : List ℕ) → bytes_eq (spelled text from to) word ≡ true → length word ≤ to - from
same_word text from to word e =
    let same = ap length ((bytes_eq-Decides (spelled text from to) word).0 e) in
    omega (arith, same, spelled_size text from to)

-- ---- a number has no fewer digits where it is written

all_digits : (ds : List ℕ) → list_all is_ascii_digit ds ≡ true → AllDigits 10 ds
all_digits [] h = tt
all_digits (d ∷ ds) h =
    let range = digit_in_range d (and_left (is_ascii_digit d) (list_all is_ascii_digit ds) h) in
    let value = digit_value_digit d range in
    (omega (arith, value, range), all_digits ds (and_right (is_ascii_digit d) (list_all is_ascii_digit ds) h))

fewer_digits : (b : ℕ) (ds : List ℕ) (n : ℕ) → list_all is_ascii_digit (b ∷ ds) ≡ true → number_of (b ∷ ds) ≡ Some n → length (decimal n) ≤ length (b ∷ ds)
unfolding number_of
fewer_digits b ds n digits e =
    elim (chosen (nat_lt (digits_value 10 (b ∷ ds)) (2 ^ 63)) (Some (digits_value 10 (b ∷ ds))) None (Some n) e) [
      | inl h ↦
          let same : digits_value 10 (b ∷ ds) ≡ n = cc in
          let small = true_lt (digits_value 10 (b ∷ ds)) (2 ^ 63) h.0 in
          let few = digits_value-lt 10 (b ∷ ds) (all_digits (b ∷ ds) digits) in
          subst (λ m. length (decimal m) ≤ length (b ∷ ds)) same
          (length-decimal-le (length (b ∷ ds)) (digits_value 10 (b ∷ ds)) (omega arith) few (omega arith))
      | inr h ↦ absurd cc
    ]

digits_size : (word : List ℕ) (place : ℕ) (key : WrittenKey) → digits_at word place ≡ Some key → (1 ≤ length word) × (key_size key ≤ length word + 2)
unfolding digits_at
digits_size [] place key e = absurd cc
digits_size (b ∷ ds) place key e =
    let make : ℕ → WrittenKey = λ n. k.Fixed (record { value = pos n; at = place }) in
    elim (chosen (list_all is_ascii_digit (b ∷ ds)) (option_map make (number_of (b ∷ ds))) None (Some key) e) [
      | inl h ↦
          let m = mapped make (number_of (b ∷ ds)) key h.1 in
          let few : length (decimal m.0) ≤ length (b ∷ ds) = fewer_digits b ds m.0 h.0 m.1 in
          subst (λ key. (1 ≤ length (b ∷ ds)) × (key_size key ≤ length (b ∷ ds) + 2)) m.2 (omega arith, omega (arith, few))
      | inr h ↦ absurd cc
    ]

key_fits_word : (version : ℕ) (word : List ℕ) (place : ℕ) (key : WrittenKey) → key_at version word place ≡ Some key
    → (1 ≤ length word) × (key_size key ≤ length word + 2)
unfolding key_at
key_fits_word version word place key e =
    let item : Bool = (version == 3) && bytes_eq word (codes "item") in
    let second : Option WrittenKey = if item then Some (k.OwnItem place) else digits_at word place in
    elim (chosen (bytes_eq word (codes "key")) (Some (k.OwnKey place)) second (Some key) e) [
      | inl h ↦
          let same : k.OwnKey place ≡ key = cc in
          let size = ap length ((bytes_eq-Decides word (codes "key")).0 h.0) in
          subst (λ key. (1 ≤ length word) × (key_size key ≤ length word + 2)) same (omega (arith, size), omega (arith, size))
      | inr h ↦
          elim (chosen item (Some (k.OwnItem place)) (digits_at word place) (Some key) h.1) [
            | inl g ↦
                let same : k.OwnItem place ≡ key = cc in
                let size = ap length ((bytes_eq-Decides word (codes "item")).0 (and_right (version == 3) (bytes_eq word (codes "item")) g.0)) in
                subst (λ key. (1 ≤ length word) × (key_size key ≤ length word + 2)) same (omega (arith, size), omega (arith, size))
            | inr g ↦ digits_size word place key g.1
          ]
    ]

-- ---- a field takes its word and two braces

ref_size : (text : List ℕ) (version from to : ℕ) (o : Option ℕ) (q : WrittenPiece) → ref_with text version from to o ≡ Some q
    → piece_size q ≤ to - from + 2
unfolding ref_with
ref_size text version from to None q e =
    let alone : WrittenPiece = p.Read (record { family = span from to; key = k.Alone }) in
    elim (chosen (is_name (spelled text from to)) (Some alone) None (Some q) e) [
      | inl h ↦ let same : alone ≡ q = cc in subst (λ q. piece_size q ≤ to - from + 2) same (omega arith)
      | inr h ↦ absurd cc
    ]
ref_size text version from to (Some i) q e =
    let make : WrittenKey → WrittenPiece = λ key. p.Read (record { family = span from (from + i); key = key }) in
    let word : List ℕ = spelled text (from + i + 1) (to - 1) in
    elim (chosen (is_name (spelled text from (from + i)) && bytes_eq (spelled text (to - 1) to) (codes "]"))
    (option_map make (key_at version word (from + i + 1))) None (Some q) e) [
      | inl h ↦
          let m = mapped make (key_at version word (from + i + 1)) q h.1 in
          let key = key_fits_word version word (from + i + 1) m.0 m.1 in
          let room = spelled_size text (from + i + 1) (to - 1) in
          subst (λ q. piece_size q ≤ to - from + 2) m.2 (omega (arith, key, room))
      | inr h ↦ absurd cc
    ]

family_size : (text : List ℕ) (version from to : ℕ) (q : WrittenPiece) → family_at text version from to ≡ Some q → piece_size q ≤ to - from + 2
unfolding family_at
family_size text version from to q e =
    elim (chosen ((version == 3) && is_name (spelled text from to)) (Some (p.Family (span from to))) None (Some q) e) [
      | inl h ↦ let same : p.Family (span from to) ≡ q = cc in subst (λ q. piece_size q ≤ to - from + 2) same (omega arith)
      | inr h ↦ absurd cc
    ]

field_size : (text : List ℕ) (version : ℕ) (in_flush : Bool) (from to : ℕ) (q : WrittenPiece) → field_at text version in_flush from to ≡ Some q
    → piece_size q ≤ to - from + 2
unfolding field_at
field_size text version in_flush from to q e =
    let word : List ℕ = spelled text from to in
    let ref : Option WrittenPiece = ref_at text version from to in
    let family : Option WrittenPiece = family_at text version from to in
    let cell : Option WrittenPiece = if bytes_eq word (codes "cell") then Some p.CellValue else family in
    let fifth : Option WrittenPiece = if in_flush then cell else ref in
    let item : Bool = (version == 3) && bytes_eq word (codes "item") in
    let fourth : Option WrittenPiece = if item then Some p.Item else fifth in
    let third : Option WrittenPiece = if bytes_eq word (codes "time") then Some p.Time else fourth in
    let second : Option WrittenPiece = if bytes_eq word (codes "key") then Some p.Key else third in
    elim (chosen (bytes_eq word (codes "value")) (Some p.Value) second (Some q) e) [
      | inl h ↦ let same : p.Value ≡ q = cc in subst (λ q. piece_size q ≤ to - from + 2) same (omega (arith, same_word text from to (codes "value") h.0))
      | inr h ↦
          elim (chosen (bytes_eq word (codes "key")) (Some p.Key) third (Some q) h.1) [
            | inl h ↦ let same : p.Key ≡ q = cc in subst (λ q. piece_size q ≤ to - from + 2) same (omega (arith, same_word text from to (codes "key") h.0))
            | inr h ↦
                elim (chosen (bytes_eq word (codes "time")) (Some p.Time) fourth (Some q) h.1) [
                  | inl h ↦
                      let same : p.Time ≡ q = cc in subst (λ q. piece_size q ≤ to - from + 2) same (omega (arith, same_word text from to (codes "time") h.0))
                  | inr h ↦
                      elim (chosen item (Some p.Item) fifth (Some q) h.1) [
                        | inl h ↦
                            let same : p.Item ≡ q = cc in
                            let is = and_right (version == 3) (bytes_eq word (codes "item")) h.0 in
                            subst (λ q. piece_size q ≤ to - from + 2) same (omega (arith, same_word text from to (codes "item") is))
                        | inr h ↦
                            elim (chosen in_flush cell ref (Some q) h.1) [
                              | inl h ↦
                                  elim (chosen (bytes_eq word (codes "cell")) (Some p.CellValue) family (Some q) h.1) [
                                    | inl h ↦
                                        let same : p.CellValue ≡ q = cc in
                                        subst (λ q. piece_size q ≤ to - from + 2) same (omega (arith, same_word text from to (codes "cell") h.0))
                                    | inr h ↦ family_size text version from to q h.1
                                  ]
                              | inr h ↦ ref_size text version from to (position is_open_bracket word) q h.1
                            ]
                      ]
                ]
          ]
    ]

braced_size : (found : Option WrittenPiece) (most : ℕ) → ((q : WrittenPiece) → found ≡ Some q → piece_size q ≤ most) → piece_size (braced found) ≤ most
braced_size None most small = omega arith
braced_size (Some q) most small = small q refl

-- ---- the scan of a template

module _ (text : List ℕ) (version : ℕ) (in_flush : Bool) (start : ℕ) where
  -- what is still open takes the bytes behind its start, and a field its brace too
  abbrev open_size : Bool → ℕ → ℕ → ℕ
  open_size true from place = place - from + 1
  open_size false from place = place - from

  record Within (s : Scan) (place : ℕ) : Type 0 where
    rises : s.start ≤ place
    begins : start ≤ place
    size : pieces_size s.pieces + open_size s.in_field s.start place ≤ place - start

  one_more_size : (qs : List WrittenPiece) (q : WrittenPiece) → pieces_size (qs ++ q ∷ []) ≡ pieces_size qs + piece_size q
  one_more_size qs q =
      total-append piece_size qs (q ∷ []) ∙ (let same : pieces_size qs + (piece_size q + 0) ≡ pieces_size qs + piece_size q = omega arith in same)

  plain_size : (qs : List WrittenPiece) (from place : ℕ) (in_field : Bool)
      → pieces_size (with_plain (record { pieces = qs; start = from; in_field = in_field }) place) ≤ pieces_size qs + (place - from)
  plain_size qs from place in_field = by (nat_lt from place)
    where
      by : (b : Bool) → pieces_size (if b then qs ++ p.Plain (span from place) ∷ [] else qs) ≤ pieces_size qs + (place - from)
      by true = omega (arith, one_more_size qs (p.Plain (span from place)))
      by false = omega arith

  step_size : (qs : List WrittenPiece) (from : ℕ) (in_field : Bool) (place b : ℕ) (next : Scan)
      → Within (record { pieces = qs; start = from; in_field = in_field }) place
      → scan_byte (field_at text version in_flush) (record { pieces = qs; start = from; in_field = in_field }) place b ≡ Some next → Within next (place + 1)
  unfolding scan_byte
  step_size qs from true place b next now e =
      let s : Scan = record { pieces = qs; start = from; in_field = true } in
      let q : WrittenPiece = braced (field_at text version in_flush from place) in
      elim (chosen (b == close_brace) (Some (with_piece s place q)) (if b == open_brace then None else Some s) (Some next) e) [
        | inl h ↦
            let same : with_piece s place q ≡ next = cc in
            let field = braced_size (field_at text version in_flush from place) (place - from + 2) (field_size text version in_flush from place) in
            let more = one_more_size qs q in
            subst (λ (s : Scan). Within s (place + 1)) same
            (record { rises = omega arith; begins = omega (arith, now.begins); size = omega (arith, now.size, now.rises, now.begins, field, more) })
        | inr h ↦
            elim (chosen (b == open_brace) None (Some s) (Some next) h.1) [
              | inl g ↦ absurd cc
              | inr g ↦
                  let same : s ≡ next = cc in
                  subst (λ (s : Scan). Within s (place + 1)) same
                  (record { rises = omega (arith, now.rises); begins = omega (arith, now.begins); size = omega (arith, now.size, now.rises, now.begins) })
            ]
      ]
  step_size qs from false place b next now e =
      let s : Scan = record { pieces = qs; start = from; in_field = false } in
      let opened : Scan = record { pieces = with_plain s place; start = place + 1; in_field = true } in
      elim (chosen (b == open_brace) (Some opened) (if b == close_brace then None else Some s) (Some next) e) [
        | inl h ↦
            let same : opened ≡ next = cc in
            let plain = plain_size qs from place false in
            subst (λ (s : Scan). Within s (place + 1)) same
            (record { rises = omega arith; begins = omega (arith, now.begins); size = omega (arith, now.size, now.rises, now.begins, plain) })
        | inr h ↦
            elim (chosen (b == close_brace) None (Some s) (Some next) h.1) [
              | inl h ↦ absurd cc
              | inr h ↦
                  let same : s ≡ next = cc in
                  subst (λ (s : Scan). Within s (place + 1)) same
                  (record { rises = omega (arith, now.rises); begins = omega (arith, now.begins); size = omega (arith, now.size, now.rises, now.begins) })
            ]
      ]

  end_size : (qs : List WrittenPiece) (from : ℕ) (in_field : Bool) (place : ℕ) → Within (record { pieces = qs; start = from; in_field = in_field }) place
      → pieces_size (end_of_scan (record { pieces = qs; start = from; in_field = in_field }) place).pieces ≤ place - start
  end_size qs from true place now = omega (arith, now.size)
  end_size qs from false place now = omega (arith, now.size, plain_size qs from place false)

  scan_size : (bs : List ℕ) (s : Scan) (place : ℕ) → Within s place
      → pieces_size (scan (field_at text version in_flush) s place bs).pieces ≤ place + length bs - start
  unfolding scan
  scan_size [] s place now = omega (arith, end_size s.pieces s.start s.in_field place now)
  scan_size (b ∷ bs) s place now =
      by (scan_byte (field_at text version in_flush) s place b)
      (λ next e. scan_size bs next (place + 1) (step_size s.pieces s.start s.in_field place b next now e)) refl
    where
      by : (o : Option Scan)
          → ((next : Scan) → scan_byte (field_at text version in_flush) s place b ≡ Some next
          → pieces_size (scan (field_at text version in_flush) next (place + 1) bs).pieces ≤ place + 1 + length bs - start)
          → scan_byte (field_at text version in_flush) s place b ≡ o → pieces_size
          (continued s o (λ next. scan (field_at text version in_flush) next (place + 1) bs)).pieces ≤ place + length (b ∷ bs) - start
      by None more e = omega (arith, now.size)
      by (Some next) more e = omega (arith, more next e)

pub template_size : (text : List ℕ) (version : ℕ) (in_flush : Bool) (s : WrittenSpan)
    → pieces_size (template_at text version in_flush s).pieces ≤ length (inside text s)
unfolding template_at
template_size text version in_flush s =
    let start : ℕ = s.from + 1 in
    let size = scan_size text version in_flush start (inside text s) (scan_start start) start
    (record { rises = omega arith; begins = omega arith; size = omega arith }) in
    omega (arith, size)
