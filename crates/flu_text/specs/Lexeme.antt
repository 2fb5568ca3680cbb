-- The word that begins some bytes, computed: the longest run of its characters is taken, and then its limit is looked at.
use Rattle.std.specs.Prelude.{ℕ, ◌+◌, ◌^◌, ◌&&◌, ◌==◌, nat_lt, nat_le, if◌then◌else◌, List, [], ◌∷◌, length, take, Option, Some, None, option_map, unwrap_or}
use Rattle.std.specs.Prelude.{pos, find, slice_index}
use Rattle.std.specs.Char.{is_ascii_digit}
use Rattle.std.specs.List.{prefix_len}
use Rattle.std.specs.Str.{bytes_eq}
use Rattle.std.specs.Str.Parse.{digits_value}
use Rattle.flu_text.specs.declared.words.Mark.{Mark}
use Rattle.flu_text.specs.declared.words.Word.{Word}
use Rattle.flu_text.specs.declared.words.Word.TheVariants as w
use Rattle.flu_text.specs.Spelling.{mark_spelling, marks, contextual_of}
use Rattle.flu_text.specs.Grammar.{quote}
use Rattle.flu_names.specs.Names.{is_name_start, is_name_byte, is_text_byte, reserved_of}

-- a name or a reserved word, where the first byte is known to begin one
unfoldable pub name_at : List ℕ → Option (Word × ℕ)
name_at bytes =
    let n = prefix_len is_name_byte bytes in
    if nat_lt 32 n then None else Some (unwrap_or (option_map w.Reserved (reserved_of (take n bytes))) (w.Name (contextual_of (take n bytes))), n)

-- the number that the digits write, if it is small enough
unfoldable pub number_of : List ℕ → Option ℕ
number_of digits = if nat_lt (digits_value 10 digits) (2 ^ 63) then Some (digits_value 10 digits) else None

unfoldable pub number_at : List ℕ → Option (Word × ℕ)
number_at bytes =
    let n = prefix_len is_ascii_digit bytes in
    option_map (λ v. (w.Number (pos v), n)) (number_of (take n bytes))

-- a text after its first quote
unfoldable pub text_at : List ℕ → Option (Word × ℕ)
text_at bytes =
    let n = prefix_len is_text_byte bytes in
    if nat_le n 256 && (slice_index bytes n == quote) then Some (w.Text, n + 2) else None

-- the mark that the bytes begin with, the longer ones first
unfoldable pub mark_of : List ℕ → Option Mark
mark_of bytes = find (λ m. bytes_eq (mark_spelling m) (take (length (mark_spelling m)) bytes)) marks

unfoldable pub mark_at : List ℕ → Option (Word × ℕ)
mark_at bytes = option_map (λ m. (w.Mark m, length (mark_spelling m))) (mark_of bytes)

-- the word, and how many bytes it takes
unfoldable pub word_at : List ℕ → Option (Word × ℕ)
word_at [] = None
word_at (b ∷ bytes) =
    if is_name_start b then name_at (b ∷ bytes)
    else if is_ascii_digit b then number_at (b ∷ bytes)
    else if b == quote then text_at bytes
    else mark_at (b ∷ bytes)
