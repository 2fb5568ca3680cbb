-- How the marks are spelled, and which word a name spells where the grammar has that word.
use Rattle.std.specs.Prelude.{ℕ, if◌then◌else◌, List, [], ◌∷◌, codes}
use Rattle.std.specs.Str.{bytes_eq}
use Rattle.flu_text.specs.declared.words.Contextual.{Contextual}
use Rattle.flu_text.specs.declared.words.Contextual.TheVariants as c
use Rattle.flu_text.specs.declared.words.Mark.{Mark}
use Rattle.flu_text.specs.declared.words.Mark.TheVariants as m

abbrev pub mark_spelling : Mark → List ℕ
mark_spelling m.Colon = codes ":"
mark_spelling m.Semicolon = codes ";"
mark_spelling m.Comma = codes ","
mark_spelling m.OpenBracket = codes "["
mark_spelling m.CloseBracket = codes "]"
mark_spelling m.OpenParen = codes "("
mark_spelling m.CloseParen = codes ")"
mark_spelling m.Dots = codes ".."
mark_spelling m.Plus = codes "+"
mark_spelling m.Minus = codes "-"
mark_spelling m.Times = codes "*"
mark_spelling m.Divide = codes "/"
mark_spelling m.Remainder = codes "%"
mark_spelling m.Less = codes "<"
mark_spelling m.LessEq = codes "<="
mark_spelling m.More = codes ">"
mark_spelling m.MoreEq = codes ">="
mark_spelling m.Same = codes "=="
mark_spelling m.Differs = codes "!="
mark_spelling m.At = codes "@"
mark_spelling m.Arrow = codes "->"

-- all of them, the longer ones first
abbrev pub marks : List Mark
marks =
    m.Dots ∷ m.LessEq ∷ m.MoreEq ∷ m.Same ∷ m.Differs ∷ m.Arrow ∷ m.Colon ∷ m.Semicolon ∷ m.Comma ∷ m.OpenBracket ∷ m.CloseBracket ∷ m.OpenParen
    ∷ m.CloseParen ∷ m.Plus ∷ m.Minus ∷ m.Times ∷ m.Divide ∷ m.Remainder ∷ m.Less ∷ m.More ∷ m.At ∷ []

-- the word that these bytes of a name spell where the grammar has that word
unfoldable pub contextual_of : List ℕ → Contextual
contextual_of name =
    if bytes_eq name (codes "item") then c.Item else if bytes_eq name (codes "ties") then c.Ties else if bytes_eq name (codes "iso") then c.Iso
    else if bytes_eq name (codes "names") then c.Names else if bytes_eq name (codes "by") then c.By else if bytes_eq name (codes "clock") then c.Clock
    else if bytes_eq name (codes "every") then c.Every else c.Other
