-- The text of a checkpoint is short, where that of its job is.
use Rattle.std.proofs.Common.{◌≡◌, ◌<◌, ◌≤◌, ◌+◌, ◌*◌, ◌^◌, ℕ, ℤ, pos, negsuc, suc, Bool, true, false, cond, Some, List, [], ◌∷◌, ◌++◌, map, length, sym, ap}
use Rattle.std.proofs.Common.{subst, arith, length-append}
use lib.Signed.{mag}
use Rattle.std.specs.Prelude.{nat_lt, nat_le, slice_get, is_some, codes, ◌&&◌, ◌/◌, ◌%◌}
use Rattle.std.specs.Char.{digit_char}
use Rattle.std.specs.Fmt.{decimal, signed_decimal}
use Rattle.std.specs.List.{list_all, filter, flat_map, range_with_len}
use Rattle.std.specs.Str.Parse.{AllDigits}
use Rattle.std.proofs.lemmas.Fmt.{decimal_is_IsNumeral_wide, length-decimal-le_wide}
use Rattle.std.proofs.lemmas.Grind.{common_steps}
use Rattle.std.proofs.lemmas.List.{length-map}
use Rattle.std.proofs.lemmas.List.FromFn.{length-range_with_len}
use Rattle.std.proofs.lemmas.Str.Parse.{digit_from_value}
use Rattle.json.specs.Print.{escape_byte, escape_letter, escape, quoted}
use Rattle.json.proofs.Printed.Strings.{escape_byte_plain}
use Rattle.serde_json.specs.Written.{compact_text, items_text}
use Rattle.serde_json.specs.View.{items_of}
use Rattle.flu_lemmas.proofs.Elements.{passes_at}
use Rattle.flu_lemmas.proofs.Tests.{and_left, and_right, true_le}
use Rattle.flu_model.specs.declared.events.Cell.{Cell}
use Rattle.flu_model.specs.declared.events.Worth.{Worth}
use Rattle.flu_model.specs.declared.events.Worth.TheVariants.{Sum, Max, Last}
use Rattle.flu_model.specs.declared.jobs.Family.{Family}
use Rattle.flu_model.specs.declared.jobs.Program.{Program}
use Rattle.flu_model.specs.declared.jobs.Sort.{Sort}
use Rattle.flu_model.specs.declared.jobs.Sort.TheVariants.{Sum as SumSort, Max as MaxSort, Last as LastSort}
use Rattle.flu_model.specs.Contents.{Contents, cell, held_keys, all_keys, key_count}
use Rattle.flu_model.specs.Erasure.{job_of}
use Rattle.flu_model.specs.Sorts.{IsWorthOf}
use Rattle.flu_model.specs.Templates.{family_name}
use Rattle.flu_names.specs.Names.{is_name, is_name_byte, begins_as_name}
use Rattle.flu_parse.specs.Printing.{normal_form}
use Rattle.flu_save.specs.Checkpoint.{number_held, entry, entry_of, cells_of_family, cells_held, entries_of, HasWordWidth, IsSavable}
use Rattle.flu_save.specs.Laws.{LawOfShortTexts}
use Rattle.flu_save.proofs.Families.{saves}
use Rattle.flu_save.proofs.States.{is_held, all_held, from_some, key_below}

-- ---- bytes in quotes
plain_byte : (x : ℕ) (xs : List ℕ) (n : ℕ) → (x ≡ 34 → ⊥) → (x ≡ 92 → ⊥) → 32 ≤ x → length (escape xs) ≤ n → length (escape (x ∷ xs)) ≤ suc n
plain_byte x xs n quote slash least few =
    let long : length (escape (x ∷ xs)) ≡ suc (length (escape xs)) = ap (λ l. length (l ++ escape xs)) (escape_byte_plain x quote slash least) in
    omega (arith, long, few)

name_byte_above : (x : ℕ) → is_name_byte x ≡ true → 32 ≤ x
name_byte_above x e = grind (arith, common_steps)

name_byte_no_quote : (x : ℕ) → is_name_byte x ≡ true → x ≡ 34 → ⊥
name_byte_no_quote x e is = let h : is_name_byte 34 ≡ true = subst (λ n. is_name_byte n ≡ true) is e in cc

name_byte_no_slash : (x : ℕ) → is_name_byte x ≡ true → x ≡ 92 → ⊥
name_byte_no_slash x e is = let h : is_name_byte 92 ≡ true = subst (λ n. is_name_byte n ≡ true) is e in cc

letters_few : (bytes : List ℕ) → list_all is_name_byte bytes ≡ true → length (escape bytes) ≤ length bytes
letters_few [] e = omega arith
letters_few (x ∷ xs) e =
    let here = and_left (is_name_byte x) (list_all is_name_byte xs) e in
    plain_byte x xs (length xs) (name_byte_no_quote x here) (name_byte_no_slash x here) (name_byte_above x here)
    (letters_few xs (and_right (is_name_byte x) (list_all is_name_byte xs) e))

pub name_parts : (name : List ℕ) → is_name name ≡ true → (list_all is_name_byte name ≡ true) × (length name ≤ 32)
name_parts name e =
    let front = and_left (begins_as_name name && list_all is_name_byte name && nat_le (length name) 32) _ e in (
      and_right (begins_as_name name) (list_all is_name_byte name)
          (and_left (begins_as_name name && list_all is_name_byte name) (nat_le (length name) 32) front),
      true_le (length name) 32 (and_right (begins_as_name name && list_all is_name_byte name) (nat_le (length name) 32) front),
    )

digits_few : (bytes : List ℕ) → AllDigits 10 bytes → length (escape bytes) ≤ length bytes
digits_few [] d = omega arith
digits_few (x ∷ xs) d =
    let k = digit_from_value x d.0 in
    plain_byte x xs (length xs) (λ e. omega (arith, k, e)) (λ e. omega (arith, k, e)) (omega (arith, k)) (digits_few xs d.1)

-- whatever stands in them
byte_few : (x : ℕ) → length (escape_byte x) ≤ 6
unfolding escape_byte
byte_few x = by (nat_lt 0 (escape_letter x)) (nat_lt x 32)
  where
    by : (a b : Bool) → length (cond a (92 ∷ escape_letter x ∷ []) (cond b (92 ∷ 117 ∷ 48 ∷ 48 ∷ digit_char (x / 16) ∷ digit_char (x % 16) ∷ []) (x ∷ []))) ≤ 6
    by true b = omega arith
    by false true = omega arith
    by false false = omega arith

escaped_few : (bytes : List ℕ) → length (escape bytes) ≤ 6 * length bytes
escaped_few [] = omega arith
escaped_few (x ∷ xs) = omega (arith, byte_few x, escaped_few xs, length-append (escape_byte x) (escape xs))

quoted_more : (bytes rest : List ℕ) → length (quoted bytes ++ rest) ≡ length (escape bytes) + 2 + length rest
quoted_more bytes rest = omega (arith, length-append (escape bytes ++ 34 ∷ []) rest, length-append (escape bytes) (34 ∷ []))

-- ---- numbers
digits_small : (k n : ℕ) → 0 < k → n < 10 ^ k → n < 10 ^ 64 → (length (decimal n) ≤ k) × (length (escape (decimal n)) ≤ k)
digits_small k n some small fits =
    let few = length-decimal-le_wide k n some small fits in
    let plain = digits_few (decimal n) (decimal_is_IsNumeral_wide n fits).0.1 in
    (few, omega (arith, few, plain))

signed_small : (z : ℤ) → mag z + 1 < 10 ^ 39 → length (escape (signed_decimal z)) ≤ 40
signed_small (pos n) small = let few = (digits_small 39 n (omega arith) (omega (arith, small)) (omega (arith, small))).1 in omega (arith, few)
signed_small (negsuc n) small =
    let few = (digits_small 39 (suc n) (omega arith) (omega (arith, small)) (omega (arith, small))).1 in
    plain_byte 45 (decimal (suc n)) 39 (λ e. omega (arith, e)) (λ e. omega (arith, e)) (omega arith) few

pub worth_small : (sort : Sort) (w : Worth) → IsWorthOf sort w → HasWordWidth (Some w) → mag (number_held (Some w)) + 1 < 10 ^ 39
worth_small SumSort (Sum n) a b = omega (arith, a.1.sfits)
worth_small SumSort (Max v) a b = absurd a
worth_small SumSort (Last v) a b = absurd a
worth_small MaxSort (Sum n) a b = absurd a
worth_small MaxSort (Max v) a b = omega (arith, b.sfits)
worth_small MaxSort (Last v) a b = absurd a
worth_small LastSort (Sum n) a b = absurd a
worth_small LastSort (Max v) a b = absurd a
worth_small LastSort (Last v) a b = omega (arith, b.sfits)

-- ---- entries
entry_small : (family : List ℕ) (key : ℕ) (value : ℤ) → length (escape family) ≤ 32 → key < key_count → mag value + 1 < 10 ^ 39
    → length (compact_text (entry family key value)) ≤ 85
entry_small family key value name low small =
    let third = quoted (signed_decimal value) ++ 93 ∷ [] in
    let second = decimal key ++ 44 ∷ third in
    let text = signed_small value small in
    let number = (digits_small 5 key (omega arith) (omega (arith, low)) (omega (arith, low))).0 in
    let long = quoted_more family (44 ∷ second) in
    let longer = length-append (decimal key) (44 ∷ third) in
    let longest = quoted_more (signed_decimal value) (93 ∷ []) in
    omega (arith, long, longer, longest, name, number, text)

module _ (p : Program) (s : Contents) (savable : IsSavable p.families s) where
  cell_small : (c : Cell) → is_held s c ≡ true → length (compact_text (entry_of p.families s c)) ≤ 85
  cell_small c held =
      let w = from_some (s c) held in
      let saved = saves p s c w.0 savable w.1 in
      let named : is_name saved.family.name ≡ true = passes_at (λ (f : Family). is_name f.name) p.families c.family saved.family p.families_fit saved.there in
      let parts = name_parts saved.family.name named in
      let here : family_name (slice_get p.families c.family) ≡ saved.family.name = ap family_name saved.there in
      entry_small (family_name (slice_get p.families c.family)) c.key (number_held (s c))
      (subst (λ name. length (escape name) ≤ 32) (sym here) (omega (arith, letters_few saved.family.name parts.0, parts.1)))
      (key_below (Some saved.family) c.key saved.key)
      (subst (λ o. mag (number_held o) + 1 < 10 ^ 39) (sym w.1) (worth_small saved.family.sort w.0 saved.sort saved.width))

  cells_small : (cs : List Cell) (later : Bool) → list_all (is_held s) cs ≡ true
      → length (items_text later (items_of (map (entry_of p.families s) cs))) ≤ 86 * length cs + 1
  cells_small [] later held = omega arith
  cells_small (c ∷ cs) later held =
      let here = cell_small c (and_left (is_held s c) (list_all (is_held s) cs) held) in
      let more = cells_small cs true (and_right (is_held s c) (list_all (is_held s) cs) held) in
      let long = length-append (compact_text (entry_of p.families s c)) (items_text true (items_of (map (entry_of p.families s) cs))) in
      by later here more long
    where
      by : (b : Bool) → length (compact_text (entry_of p.families s c)) ≤ 85
          → length (items_text true (items_of (map (entry_of p.families s) cs))) ≤ 86 * length cs + 1
          → length (compact_text (entry_of p.families s c) ++ items_text true (items_of (map (entry_of p.families s) cs))) ≡ length
          (compact_text (entry_of p.families s c)) + length (items_text true (items_of (map (entry_of p.families s) cs)))
          → length (items_text b (items_of (map (entry_of p.families s) (c ∷ cs)))) ≤ 86 * length (c ∷ cs) + 1
      by true here more long = omega (arith, here, more, long)
      by false here more long = omega (arith, here, more, long)

-- ---- how many there are
few_kept : (keep : ℕ → Bool) (ks : List ℕ) → length (filter keep ks) ≤ length ks
few_kept keep [] = omega arith
few_kept keep (k ∷ ks) =
    elim (keep k) as (λ b. length (cond b (k ∷ filter keep ks) (filter keep ks)) ≤ length (k ∷ ks)) [
      | true ↦ omega (arith, few_kept keep ks)
      | false ↦ omega (arith, few_kept keep ks)
    ]

few_of_family : (s : Contents) (f : ℕ) → length (cells_of_family s f) ≤ key_count
unfolding all_keys
few_of_family s f =
    let few = few_kept (λ k. is_some (s (cell f k))) all_keys in
    omega (arith, few, length-map (held_keys s f) (cell f), length-range_with_len 0 key_count)

few_cells : (s : Contents) (fs : List ℕ) → length (flat_map (cells_of_family s) fs) ≤ key_count * length fs
few_cells s [] = omega arith
few_cells s (f ∷ fs) = omega (arith, few_of_family s f, few_cells s fs, length-append (cells_of_family s f) (flat_map (cells_of_family s) fs))

-- ---- the whole text
pub law_of_short_texts : LawOfShortTexts
law_of_short_texts p t s border savable short =
    let cs = cells_held p.families s in
    let job = normal_form (job_of p) in
    let items = items_text false (items_of (entries_of p.families s)) in
    let last = quoted job ++ 125 ∷ [] in
    let third = quoted (codes "job") ++ 58 ∷ last in
    let second = quoted (codes "cells") ++ 58 ∷ 91 ∷ (items ++ 44 ∷ third) in
    let families = p.few_families in
    let count = few_cells s (range_with_len 0 (length p.families)) in
    let size = length-range_with_len 0 (length p.families) in
    let entries = cells_small p s savable cs false (all_held s (range_with_len 0 (length p.families))) in
    let number = (digits_small 19 t (omega arith) (omega (arith, border)) (omega (arith, border))).0 in
    omega (
      arith,
      families,
      count,
      size,
      entries,
      number,
      short,
      quoted_more (codes "border") (58 ∷ (decimal t ++ 44 ∷ second)),
      escaped_few (codes "border"),
      length-append (decimal t) (44 ∷ second),
      quoted_more (codes "cells") (58 ∷ 91 ∷ (items ++ 44 ∷ third)),
      escaped_few (codes "cells"),
      length-append items (44 ∷ third),
      quoted_more (codes "job") (58 ∷ last),
      escaped_few (codes "job"),
      quoted_more job (125 ∷ []),
      escaped_few job,
    )
