-- The names of the lexical grammar are those that pass the test of a name.
use Rattle.std.proofs.Common.{◌≡◌, ◌≢◌, ℕ, true, false, ◌&&◌, ◌||◌, List, [], ◌∷◌, length, refl, sym, ap, ◌∙◌}
use Rattle.std.specs.Prelude.{not, nat_le}
use Rattle.std.specs.List.{list_all, list_any}
use Rattle.std.specs.Str.{bytes_eq}
use Rattle.std.proofs.lemmas.Slice.Eq.{bytes_eq-Decides}
use Rattle.flu_names.specs.declared.reserved.Reserved.{Reserved}
use Rattle.flu_names.specs.Names.{is_name_start, is_name_byte, reserved_spelling, reserved_words, reserved_of, is_reserved, begins_as_name, is_name}
use Rattle.flu_text.specs.Grammar.{Starts, IsName}
use Rattle.flu_text.specs.Laws.{NamesAreTested, ReservedIsSpelled}
use Rattle.flu_lemmas.proofs.Tests.{and_left, and_right, both, not_both, not_true, false_if_not, le_true, true_le}
use Rattle.flu_text.proofs.Tables.{each_reserved, reserved_is, reserved_of-spelling}

-- ---- reserved words
reserved_is_reserved : (word : Reserved) → is_reserved (reserved_spelling word) ≡ true
reserved_is_reserved word = each_reserved (λ (word : Reserved). is_reserved (reserved_spelling word)) word refl

none_of : (s : List ℕ) (words : List Reserved) → ((word : Reserved) → s ≢ reserved_spelling word)
    → list_any (λ word. bytes_eq (reserved_spelling word) s) words ≡ true → ⊥
none_of s [] free e = absurd cc
none_of s (word ∷ words) free e =
    elim (bytes_eq (reserved_spelling word) s) as
    (λ b. bytes_eq (reserved_spelling word) s ≡ b → (b || list_any (λ word. bytes_eq (reserved_spelling word) s) words) ≡ true → ⊥) [
      | true ↦ λ here e. free word (sym ((bytes_eq-Decides (reserved_spelling word) s).0 here))
      | false ↦ λ here e. none_of s words free e
    ] refl e

not_reserved : (s : List ℕ) → ((word : Reserved) → s ≢ reserved_spelling word) → is_reserved s ≡ false
not_reserved s free = false_if_not (is_reserved s) (none_of s reserved_words free)

-- ---- names
starts : (s : List ℕ) → begins_as_name s ≡ true → Starts is_name_start s
starts [] e = absurd cc
starts (b ∷ s) e = e

begins : (s : List ℕ) → Starts is_name_start s → begins_as_name s ≡ true
begins [] starts = absurd starts
begins (b ∷ s) starts = starts

name_is : (s : List ℕ) → is_name s ≡ true → IsName s
name_is s e =
    let begins = begins_as_name s in
    let all = list_all is_name_byte s in
    let short = nat_le (length s) 32 in
    let free = not (is_reserved s) in
    let three = and_left (begins && all && short) free e in
    let two = and_left (begins && all) short three in
    record {
      starts = starts s (and_left begins all two);
      bytes = and_right begins all two;
      short = true_le (length s) 32 (and_right (begins && all) short three);
      free = λ word same.
          not_both (is_reserved s) (ap is_reserved same ∙ reserved_is_reserved word) (not_true (is_reserved s) (and_right (begins && all && short) free e));
    }

is_name_of : (s : List ℕ) → IsName s → is_name s ≡ true
is_name_of s n =
    let first = begins_as_name s in
    let all = list_all is_name_byte s in
    let short = nat_le (length s) 32 in
    let free = not (is_reserved s) in
    both (first && all && short) free
    (both (first && all) short (both first all (begins s n.starts) n.bytes) (le_true (length s) 32 n.short))
    (ap not (not_reserved s n.free))

pub names_are_tested : NamesAreTested
names_are_tested s = (name_is s, is_name_of s)

pub reserved_is_spelled : ReservedIsSpelled
reserved_is_spelled s word = (reserved_is s word, λ same. ap reserved_of same ∙ reserved_of-spelling word)
