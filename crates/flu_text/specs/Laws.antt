-- What holds of every text.
use Rattle.std.specs.Prelude.{◌≡◌, ◌↔◌, ℕ, true, List, map, All, Some, Ok, Err}
use Rattle.std.specs.List.{AllByRecursion}
use Rattle.std.specs.Str.{IsUtf8}
use Rattle.flu_names.specs.declared.reserved.Reserved.{Reserved}
use Rattle.flu_names.specs.Names.{reserved_spelling, reserved_of, is_name}
use Rattle.flu_text.specs.declared.words.Token.{Token}
use Rattle.flu_text.specs.Grammar.{bytes_of, IsName, AreTokens, IsFirstBadPlace, IsToken, IsSpan, IsInsideOfText, Rise}
use Rattle.flu_text.specs.Signs.{Sign, AreSigns, Stands}
use Rattle.flu_text.specs.Reading.{reading}
use Rattle.flu_text.specs.Layout.{Piece, layout, tokens_of, IsLaid}

-- no text is tokens in two ways
abbrev pub TokensAreUnique : Type 0
TokensAreUnique = (text : List ℕ) (a b : List Token) → AreTokens text a → AreTokens text b → a ≡ b

-- no text has two first bad places
abbrev pub BadPlaceIsUnique : Type 0
BadPlaceIsUnique = (text : List ℕ) (a b : ℕ) → IsFirstBadPlace text a → IsFirstBadPlace text b → a ≡ b

-- no text that is tokens has a bad place
abbrev pub TokensOrBadPlace : Type 0
TokensOrBadPlace = (text : List ℕ) (ts : List Token) (place : ℕ) → AreTokens text ts → IsFirstBadPlace text place → ⊥

-- the reading is the tokens exactly if the text is those tokens
abbrev pub ReadingIsTokens : Type 0
ReadingIsTokens = (text : List ℕ) (ts : List Token) → (reading text ≡ Ok ts) ↔ AreTokens text ts

-- and a place exactly if that is the first bad one
abbrev pub ReadingIsBadPlace : Type 0
ReadingIsBadPlace = (text : List ℕ) (place : ℕ) → (reading text ≡ Err place) ↔ IsFirstBadPlace text place

-- each token of a text is in it
abbrev pub EachIsToken : Type 0
EachIsToken = (text : List ℕ) (ts : List Token) → AreTokens text ts → All (IsToken text) ts

-- in a text that is UTF-8 the spans are within it and between its characters
abbrev pub EachIsSpan : Type 0
EachIsSpan = (text : List ℕ) (ts : List Token) → IsUtf8 text → AreTokens text ts → All (IsSpan text) ts

-- and so is what is between the quotes of its texts
abbrev pub EachIsInside : Type 0
EachIsInside = (text : List ℕ) (ts : List Token) → IsUtf8 text → AreTokens text ts → All (IsInsideOfText text) ts

-- and the spans rise
abbrev pub TokensRise : Type 0
TokensRise = (text : List ℕ) (ts : List Token) → AreTokens text ts → Rise ts

-- what is laid out as words is read as their tokens
abbrev pub LayoutIsRead : Type 0
LayoutIsRead = (ps : List Piece) → IsLaid ps → reading (layout ps) ≡ Ok (tokens_of 0 ps)

-- and the bytes of those tokens are the spellings of the words
abbrev pub LayoutIsSpelled : Type 0
LayoutIsSpelled = (ps : List Piece) → map (bytes_of (layout ps)) (tokens_of 0 ps) ≡ map (λ p. p.spelling) ps

-- the names of the lexical grammar are those that pass the test of a name
abbrev pub NamesAreTested : Type 0
NamesAreTested = (s : List ℕ) → (is_name s ≡ true) ↔ IsName s

-- and the reserved word that is found is the one that is spelled so
abbrev pub ReservedIsSpelled : Type 0
ReservedIsSpelled = (s : List ℕ) (word : Reserved) → (reserved_of s ≡ Some word) ↔ (s ≡ reserved_spelling word)

-- where tokens are signs, each sign stands for one of them
abbrev pub SignsStand : Type 0
SignsStand = (tokens : List Token) (signs : List Sign) → AreSigns signs tokens → AllByRecursion (Stands tokens) signs
