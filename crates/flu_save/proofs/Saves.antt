-- The text of a checkpoint is read as its value, and is UTF-8 where that of its job is.
use Rattle.std.proofs.Common.{◌≡◌, ℕ, suc, ◌+◌, ◌<◌, ◌≤◌, ◌^◌, ℤ, pos, negsuc, Bool, true, false, Option, Some, List, [], ◌∷◌, ◌++◌, map, length, IsUtf8, refl, sym}
use Rattle.std.proofs.Common.{ap, subst, ◌∙◌, arith, append-nil, lt-ltb}
use lib.Signed.{mag}
use Rattle.std.specs.Prelude.{nat_lt, codes, slice_get, option_map, option_and_then}
use Rattle.std.specs.Fmt.{decimal, signed_decimal}
use Rattle.std.specs.List.{list_all, range_with_len}
use Rattle.std.specs.Str.Parse.{AllDigits}
use Rattle.std.proofs.lemmas.Fmt.{decimal_is_IsNumeral_wide}
use Rattle.std.proofs.lemmas.Grind.{common_steps}
use Rattle.std.proofs.lemmas.Str.{IsUtf8-append, IsUtf8-nil}
use Rattle.std.proofs.lemmas.Str.Parse.{digit_from_value}
use Rattle.json.specs.Json as json
use Rattle.json.specs.Lex.{tokens}
use Rattle.json.specs.Print.{quoted}
use Rattle.json.specs.Tree as tree
use Rattle.json.proofs.Printed.Decimals.{IsNumber-decimal}
use Rattle.json.proofs.Printed.Tokens.{tokens-print}
use Rattle.json.proofs.Printed.Trees.{value-json_tokens, ArePrintable-json_tokens}
use Rattle.json.proofs.Printed.Utf8.{are_ascii, IsUtf8-are_ascii, IsUtf8-quoted}
use Rattle.serde_json.specs.Data.{Data, Num, number, unsigned, string, array, object, Items, no_items, item, no_members, member, put}
use Rattle.serde_json.specs.Read.{read, of_json, of_items, of_members, max_depth}
use Rattle.serde_json.specs.View.{items_of}
use Rattle.serde_json.specs.Written.{compact_text, items_text, comma_if, outline, items_outline}
use Rattle.serde_json.proofs.Numbers.{number_of-decimal}
use Rattle.serde_json.proofs.OnLiterals.{serde_json_on_literals}
use Rattle.serde_json.proofs.Texts.{print-outline}
use Rattle.flu_lemmas.proofs.Tests.{and_left, and_right, both}
use Rattle.flu_lemmas.proofs.Elements.{passes_at}
use Rattle.flu_names.specs.Names.{is_name, is_name_byte}
use Rattle.flu_model.specs.declared.events.Cell.{Cell}
use Rattle.flu_model.specs.declared.jobs.Family.{Family}
use Rattle.flu_model.specs.declared.jobs.Program.{Program}
use Rattle.flu_model.specs.Contents.{Contents, key_count}
use Rattle.flu_model.specs.Erasure.{Job, job_of}
use Rattle.flu_model.specs.Templates.{family_name}
use Rattle.flu_parse.specs.Printing.{normal_form}
use Rattle.flu_save.specs.declared.fault.SaveFault.{SaveFault}
use Rattle.flu_save.specs.declared.fault.SaveFault.TheVariants.{OverLimit, NotJson, WrongForm, OtherJob, NoMemory}
use Rattle.flu_save.specs.Checkpoint.{number_held, entry, entry_of, cells_held, entries_of, checkpoint, save, IsSavable}
use Rattle.flu_save.specs.Forms.{IsFaultOf}
use Rattle.flu_save.specs.Laws.{LawOfSaves, SavesHaveNoFault, SavesMeanThemselves, SavesAreOfJobs}
use Rattle.flu_save.proofs.Families.{saves}
use Rattle.flu_save.proofs.Lengths.{law_of_short_texts, name_parts, worth_small}
use Rattle.flu_save.proofs.Meanings.{law_of_faults, law_of_one_meaning}
use Rattle.flu_save.proofs.States.{is_held, all_held, from_some, key_below}

-- ---- bytes of one character each
byte_then : (x : ℕ) (xs : List ℕ) → nat_lt x 128 ≡ true → IsUtf8 xs → IsUtf8 (x ∷ xs)
byte_then x xs low more = IsUtf8-append (x ∷ []) xs (IsUtf8-are_ascii (x ∷ []) (both (nat_lt x 128) true low refl)) more

name_byte_low : (x : ℕ) → is_name_byte x ≡ true → x < 128
name_byte_low x e = grind (arith, common_steps)

letters_ascii : (bytes : List ℕ) → list_all is_name_byte bytes ≡ true → are_ascii bytes ≡ true
letters_ascii [] e = refl
letters_ascii (x ∷ xs) e =
    both (nat_lt x 128) (are_ascii xs) (lt-ltb x 128 (name_byte_low x (and_left (is_name_byte x) (list_all is_name_byte xs) e)))
    (letters_ascii xs (and_right (is_name_byte x) (list_all is_name_byte xs) e))

digits_ascii : (bytes : List ℕ) → AllDigits 10 bytes → are_ascii bytes ≡ true
digits_ascii [] d = refl
digits_ascii (x ∷ xs) d =
    let k = digit_from_value x d.0 in
    both (nat_lt x 128) (are_ascii xs) (lt-ltb x 128 (omega (arith, k))) (digits_ascii xs d.1)

decimal_utf8 : (n : ℕ) → n < 10 ^ 64 → IsUtf8 (decimal n)
decimal_utf8 n fits = IsUtf8-are_ascii (decimal n) (digits_ascii (decimal n) (decimal_is_IsNumeral_wide n fits).0.1)

signed_utf8 : (z : ℤ) → mag z + 1 < 10 ^ 39 → IsUtf8 (signed_decimal z)
signed_utf8 (pos n) small = decimal_utf8 n (omega (arith, small))
signed_utf8 (negsuc n) small = byte_then 45 (decimal (suc n)) refl (decimal_utf8 (suc n) (omega (arith, small)))

-- ---- an entry
entry_utf8 : (family : List ℕ) (key : ℕ) (value : ℤ) → IsUtf8 family → key < key_count → mag value + 1 < 10 ^ 39
    → IsUtf8 (compact_text (entry family key value))
entry_utf8 family key value name low small =
    let third = quoted (signed_decimal value) ++ 93 ∷ [] in
    let second = decimal key ++ 44 ∷ third in
    byte_then 91 (quoted family ++ 44 ∷ second) refl
    (IsUtf8-append (quoted family) (44 ∷ second) (IsUtf8-quoted family name)
    (byte_then 44 second refl
    (IsUtf8-append (decimal key) (44 ∷ third) (decimal_utf8 key (omega (arith, low)))
    (byte_then 44 third refl
    (IsUtf8-append (quoted (signed_decimal value)) (93 ∷ []) (IsUtf8-quoted (signed_decimal value) (signed_utf8 value small))
    (byte_then 93 [] refl IsUtf8-nil))))))

entry_read : (family : List ℕ) (key : ℕ) (value : ℤ) → key < key_count → of_json (outline (entry family key value)) ≡ Some (entry family key value)
entry_read family key value low =
    ap (λ (n : Option Num). option_map array (option_map (item (string family))
    (option_and_then (λ d. option_map (item d) (Some (item (string (signed_decimal value)) no_items))) (option_map number n))))
    (number_of-decimal key (omega (arith, low)))

entry_numbers : (family : List ℕ) (key : ℕ) (value : ℤ) → key < key_count → tree.HasNumbers (outline (entry family key value))
entry_numbers family key value low = (tt, (IsNumber-decimal key (omega (arith, low)), (tt, tt)))

-- ---- the entries of a state
comma_utf8 : (b : Bool) (xs : List ℕ) → IsUtf8 xs → IsUtf8 (comma_if b ++ xs)
comma_utf8 true xs u = byte_then 44 xs refl u
comma_utf8 false xs u = u

module _ (p : Program) (s : Contents) (savable : IsSavable p.families s) where
  cell_utf8 : (c : Cell) → is_held s c ≡ true → IsUtf8 (compact_text (entry_of p.families s c))
  cell_utf8 c held =
      let w = from_some (s c) held in
      let saved = saves p s c w.0 savable w.1 in
      let named : is_name saved.family.name ≡ true = passes_at (λ (f : Family). is_name f.name) p.families c.family saved.family p.families_fit saved.there in
      let name : IsUtf8 saved.family.name = IsUtf8-are_ascii saved.family.name (letters_ascii saved.family.name (name_parts saved.family.name named).0) in
      entry_utf8 (family_name (slice_get p.families c.family)) c.key (number_held (s c)) (subst IsUtf8 (sym (ap family_name saved.there)) name)
      (key_below (Some saved.family) c.key saved.key)
      (subst (λ o. mag (number_held o) + 1 < 10 ^ 39) (sym w.1) (worth_small saved.family.sort w.0 saved.sort saved.width))

  cell_key : (c : Cell) → is_held s c ≡ true → c.key < key_count
  cell_key c held =
      let w = from_some (s c) held in
      let saved = saves p s c w.0 savable w.1 in
      key_below (Some saved.family) c.key saved.key

  cells_utf8 : (cs : List Cell) (later : Bool) → list_all (is_held s) cs ≡ true → IsUtf8 (items_text later (items_of (map (entry_of p.families s) cs)))
  cells_utf8 [] later held = byte_then 93 [] refl IsUtf8-nil
  cells_utf8 (c ∷ cs) later held =
      let text = compact_text (entry_of p.families s c) in
      let rest = items_text true (items_of (map (entry_of p.families s) cs)) in
      comma_utf8 later (text ++ rest)
      (IsUtf8-append text rest (cell_utf8 c (and_left (is_held s c) (list_all (is_held s) cs) held))
      (cells_utf8 cs true (and_right (is_held s c) (list_all (is_held s) cs) held)))

  cells_read : (cs : List Cell) → list_all (is_held s) cs ≡ true
      → of_items (items_outline (items_of (map (entry_of p.families s) cs))) ≡ Some (items_of (map (entry_of p.families s) cs))
  cells_read [] held = refl
  cells_read (c ∷ cs) held =
      ap (option_and_then (λ (d : Data). option_map (item d) (of_items (items_outline (items_of (map (entry_of p.families s) cs))))))
      (entry_read (family_name (slice_get p.families c.family)) c.key (number_held (s c))
      (cell_key c (and_left (is_held s c) (list_all (is_held s) cs) held)))
      ∙ ap (option_map (item (entry_of p.families s c))) (cells_read cs (and_right (is_held s c) (list_all (is_held s) cs) held))

  cells_numbers : (cs : List Cell) → list_all (is_held s) cs ≡ true → tree.ItemsHaveNumbers (items_outline (items_of (map (entry_of p.families s) cs)))
  cells_numbers [] held = tt
  cells_numbers (c ∷ cs) held = (
    entry_numbers (family_name (slice_get p.families c.family)) c.key (number_held (s c)) (cell_key c (and_left (is_held s c) (list_all (is_held s) cs) held)),
    cells_numbers cs (and_right (is_held s c) (list_all (is_held s) cs) held),
  )

  cells_depth : (cs : List Cell) → tree.items_depth (items_outline (items_of (map (entry_of p.families s) cs))) ≤ 1
  cells_depth [] = omega arith
  cells_depth (c ∷ cs) = omega (arith, cells_depth cs)

  -- ---- the whole text
  module _ (t : ℕ) (border : t < 2 ^ 63) where
    abbrev value : Data
    value = checkpoint p t s

    abbrev held_cells : List Cell
    held_cells = cells_held p.families s

    abbrev items : Items
    items = items_of (entries_of p.families s)

    all : list_all (is_held s) held_cells ≡ true
    all = all_held s (range_with_len 0 (length p.families))

    value_read : of_json (outline value) ≡ Some value
    unfolding serde_json_on_literals
    value_read =
        let job = json.member (codes "job") (json.string (normal_form (job_of p))) json.no_members in
        ap (λ (n : Option Num). option_map object (option_and_then (λ d. of_members (json.member (codes "cells") (json.array (items_outline items)) job)
        (put (codes "border") d no_members)) (option_map number n))) (number_of-decimal t (omega (arith, border)))
        ∙ ap (λ (o : Option Items). option_map object (option_and_then (λ d. of_members job
        (put (codes "cells") d (member (codes "border") (number (unsigned t)) no_members))) (option_map array o))) (cells_read held_cells all)

    text_read : read (save p t s) ≡ Some value
    text_read =
        let j = outline value in
        let numbers : tree.HasNumbers j = (IsNumber-decimal t (omega (arith, border)), (cells_numbers held_cells all, (tt, tt))) in
        let shallow : tree.depth j ≤ max_depth = omega (arith, cells_depth held_cells) in
        let cut : tokens (save p t s) ≡ tree.json_tokens j ++ [] =
        ap tokens (sym (print-outline value)) ∙ tokens-print (tree.json_tokens j) (ArePrintable-json_tokens j numbers)
        ∙ sym (append-nil (tree.json_tokens j)) in
        ap (option_and_then of_json) (ap (option_and_then (λ q. json.if_last q.0 q.1)) (ap (json.value max_depth) cut ∙ value-json_tokens j max_depth [] shallow))
        ∙ value_read

    text_utf8 : IsUtf8 (normal_form (job_of p)) → IsUtf8 (save p t s)
    text_utf8 job =
        let last = quoted (normal_form (job_of p)) ++ 125 ∷ [] in
        let third = quoted (codes "job") ++ 58 ∷ last in
        let cells = items_text false items in
        let second = quoted (codes "cells") ++ 58 ∷ 91 ∷ (cells ++ 44 ∷ third) in
        byte_then 123 (quoted (codes "border") ++ 58 ∷ (decimal t ++ 44 ∷ second)) refl
        (IsUtf8-append (quoted (codes "border")) (58 ∷ (decimal t ++ 44 ∷ second)) (IsUtf8-quoted (codes "border") (IsUtf8-are_ascii (codes "border") refl))
        (byte_then 58 (decimal t ++ 44 ∷ second) refl
        (IsUtf8-append (decimal t) (44 ∷ second) (decimal_utf8 t (omega (arith, border)))
        (byte_then 44 second refl
        (IsUtf8-append (quoted (codes "cells")) (58 ∷ 91 ∷ (cells ++ 44 ∷ third)) (IsUtf8-quoted (codes "cells") (IsUtf8-are_ascii (codes "cells") refl))
        (byte_then 58 (91 ∷ (cells ++ 44 ∷ third)) refl
        (byte_then 91 (cells ++ 44 ∷ third) refl
        (IsUtf8-append cells (44 ∷ third) (cells_utf8 held_cells false all)
        (byte_then 44 third refl
        (IsUtf8-append (quoted (codes "job")) (58 ∷ last) (IsUtf8-quoted (codes "job") (IsUtf8-are_ascii (codes "job") refl))
        (byte_then 58 last refl
        (IsUtf8-append (quoted (normal_form (job_of p))) (125 ∷ []) (IsUtf8-quoted (normal_form (job_of p)) job)
        (byte_then 125 [] refl IsUtf8-nil)))))))))))))

-- ---- laws
pub law_of_saves : LawOfSaves
law_of_saves p t s border savable short job = record {
  short = law_of_short_texts p t s border savable short;
  value = checkpoint p t s;
  json = (text_utf8 p s savable t border job, text_read p s savable t border);
  checkpoint = record { border = border; state = savable; value = refl };
}

pub saves_have_no_fault : SavesHaveNoFault
saves_have_no_fault p t s border savable short job fault is = by fault is
  where
    other : (f : SaveFault) → IsFaultOf p (save p t s) f → (f ≡ NoMemory → ⊥) → ⊥
    other f faulty known = law_of_faults p (save p t s) f faulty known t s (law_of_saves p t s border savable short job)

    by : (f : SaveFault) → IsFaultOf p (save p t s) f → f ≡ NoMemory
    by (OverLimit count) faulty = absurd (other (OverLimit count) faulty (λ e. cc))
    by NotJson faulty = absurd (other NotJson faulty (λ e. cc))
    by WrongForm faulty = absurd (other WrongForm faulty (λ e. cc))
    by OtherJob faulty = absurd (other OtherJob faulty (λ e. cc))
    by NoMemory faulty = refl

pub saves_mean_themselves : SavesMeanThemselves
saves_mean_themselves p t u s r border savable is =
    law_of_one_meaning p (save p t s) u t r s is (record {
      short = is.short;
      value = checkpoint p t s;
      json = (is.json.0, text_read p s savable t border);
      checkpoint = record { border = border; state = savable; value = refl };
    })

-- the value of a checkpoint, by its job
abbrev checkpoint_of : Job → ℕ → Contents → Data
checkpoint_of job t s =
    object (member (codes "border") (number (unsigned t))
    (member (codes "cells") (array (items_of (entries_of job.families s)))
    (member (codes "job") (string (normal_form job)) no_members)))

pub saves_are_of_jobs : SavesAreOfJobs
saves_are_of_jobs p q same t s bytes is = record {
  short = is.short;
  value = is.value;
  json = is.json;
  checkpoint = record {
    border = is.checkpoint.border;
    state = subst (λ (job : Job). IsSavable job.families s) same is.checkpoint.state;
    value = is.checkpoint.value ∙ ap (λ (job : Job). checkpoint_of job t s) same;
  };
}
