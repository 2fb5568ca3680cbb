-- Names and texts: which bytes they may have, and the reserved words.
use Rattle.std.specs.Prelude.{ℕ, Bool, false, not, nat_le, ◌==◌, ◌&&◌, ◌||◌, Option, List, [], ◌∷◌, length, codes}
use Rattle.std.specs.Char.{is_ascii_alphabetic, is_ascii_alphanumeric}
use Rattle.std.specs.List.{list_all, list_any, find}
use Rattle.std.specs.Str.{bytes_eq}
use Rattle.flu_names.specs.declared.reserved.Reserved.{Reserved}
use Rattle.flu_names.specs.declared.reserved.Reserved.TheVariants as r

-- a letter or `_`
abbrev pub is_name_start : ℕ → Bool
is_name_start b = is_ascii_alphabetic b || (b == 95)

-- a letter, a digit or `_`
abbrev pub is_name_byte : ℕ → Bool
is_name_byte b = is_ascii_alphanumeric b || (b == 95)

-- a byte of a character that may occur in a text: neither `"` nor below U+0020 nor U+007F
abbrev pub is_text_byte : ℕ → Bool
is_text_byte b = nat_le 32 b && not (b == 34) && not (b == 127)

abbrev pub reserved_spelling : Reserved → List ℕ
reserved_spelling r.Cell = codes "cell"
reserved_spelling r.Tag = codes "tag"
reserved_spelling r.Depends = codes "depends"
reserved_spelling r.On = codes "on"
reserved_spelling r.Source = codes "source"
reserved_spelling r.Keyed = codes "keyed"
reserved_spelling r.Sum = codes "sum"
reserved_spelling r.Max = codes "max"
reserved_spelling r.Last = codes "last"
reserved_spelling r.Int = codes "int"
reserved_spelling r.None = codes "none"
reserved_spelling r.Same = codes "same"
reserved_spelling r.All = codes "all"
reserved_spelling r.Rate = codes "rate"
reserved_spelling r.Add = codes "add"
reserved_spelling r.Raise = codes "raise"
reserved_spelling r.Set = codes "set"
reserved_spelling r.Clear = codes "clear"
reserved_spelling r.Emit = codes "emit"
reserved_spelling r.Flush = codes "flush"
reserved_spelling r.When = codes "when"
reserved_spelling r.Value = codes "value"
reserved_spelling r.Key = codes "key"
reserved_spelling r.Time = codes "time"
reserved_spelling r.Has = codes "has"
reserved_spelling r.And = codes "and"
reserved_spelling r.Or = codes "or"
reserved_spelling r.Not = codes "not"
reserved_spelling r.Beat = codes "beat"
reserved_spelling r.End = codes "end"
reserved_spelling r.Node = codes "node"
reserved_spelling r.Version = codes "version"
reserved_spelling r.Slack = codes "slack"

-- all of them
abbrev pub reserved_words : List Reserved
reserved_words =
    r.Cell ∷ r.Tag ∷ r.Depends ∷ r.On ∷ r.Source ∷ r.Keyed ∷ r.Sum ∷ r.Max ∷ r.Last ∷ r.Int ∷ r.None ∷ r.Same ∷ r.All ∷ r.Rate ∷ r.Add
    ∷ r.Raise ∷ r.Set ∷ r.Clear ∷ r.Emit ∷ r.Flush ∷ r.When ∷ r.Value ∷ r.Key ∷ r.Time ∷ r.Has ∷ r.And ∷ r.Or ∷ r.Not ∷ r.Beat ∷ r.End
    ∷ r.Node ∷ r.Version ∷ r.Slack ∷ []

-- the reserved word that is spelled so
unfoldable pub reserved_of : List ℕ → Option Reserved
reserved_of bytes = find (λ r. bytes_eq (reserved_spelling r) bytes) reserved_words

abbrev pub is_reserved : List ℕ → Bool
is_reserved bytes = list_any (λ r. bytes_eq (reserved_spelling r) bytes) reserved_words

abbrev pub begins_as_name : List ℕ → Bool
begins_as_name [] = false
begins_as_name (b ∷ bs) = is_name_start b

-- a name: a letter or `_`, then letters, digits and `_`, at most 32 bytes, and no reserved word
abbrev pub is_name : List ℕ → Bool
is_name bs = begins_as_name bs && list_all is_name_byte bs && nat_le (length bs) 32 && not (is_reserved bs)
