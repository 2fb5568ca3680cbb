-- The lexical grammar, as relations: which bytes spell which word, where a token is in a text, and what is between tokens.
use Rattle.std.specs.Prelude.{◌≡◌, ◌≢◌, ◌⊎◌, ℕ, ◌+◌, ◌-◌, ◌<◌, ◌≤◌, ◌^◌, Bool, ◌||◌, ◌==◌, IsTrue, ℤ, pos, List, [], ◌∷◌, ◌++◌, length, slice_index}
use Rattle.std.specs.Prelude.{slice_range}
use Rattle.std.specs.Char.{is_ascii_digit}
use Rattle.std.specs.List.{list_all, AllAdjacentBelow}
use Rattle.std.specs.Str.{IsCharBoundary}
use Rattle.std.specs.Str.Parse.{digits_value}
use Rattle.flu_names.specs.declared.reserved.Reserved.{Reserved}
use Rattle.flu_text.specs.declared.words.Mark.{Mark}
use Rattle.flu_text.specs.declared.words.Word.{Word}
use Rattle.flu_text.specs.declared.words.Word.TheVariants as w
use Rattle.flu_text.specs.declared.words.Token.{Token}
use Rattle.flu_text.specs.Spelling.{mark_spelling, contextual_of}
use Rattle.flu_names.specs.Names.{is_name_start, is_name_byte, is_text_byte, reserved_spelling}

-- the bytes of `"`, of `#` and of a line feed
abbrev pub quote : ℕ
quote = 34

abbrev pub number_sign : ℕ
number_sign = 35

abbrev pub line_feed : ℕ
line_feed = 10

-- space, tab, carriage return, line feed
abbrev pub is_blank : ℕ → Bool
is_blank b = (b == 32) || (b == 9) || (b == 13) || (b == 10)

-- there is a first byte, and it passes
abbrev pub Starts : (ℕ → Bool) → List ℕ → Type 0
Starts p [] = ⊥
Starts p (b ∷ rest) = IsTrue (p b)

-- A lexeme: the characters of one token, whatever its limit.
pub data IsLexeme (s : List ℕ) : Type 0 where
  -- a letter or `_`, then letters, digits and `_`
  Identifier : (starts : Starts is_name_start s) (bytes : IsTrue (list_all is_name_byte s)) → IsLexeme s
  -- digits, at least one
  Digits : (some : s ≢ []) (digits : IsTrue (list_all is_ascii_digit s)) → IsLexeme s
  -- a quote, characters of a text, and a quote
  Quoted : (inside : List ℕ) (quoted : s ≡ quote ∷ (inside ++ quote ∷ [])) (bytes : IsTrue (list_all is_text_byte inside)) → IsLexeme s
  -- a mark
  Punctuation : (mark : Mark) (spelled : s ≡ mark_spelling mark) → IsLexeme s

-- a name: an identifier of at most 32 bytes that is no reserved word
pub record IsName (s : List ℕ) : Type 0 where
  pub starts : Starts is_name_start s
  pub bytes : IsTrue (list_all is_name_byte s)
  pub short : length s ≤ 32
  pub free : (r : Reserved) → s ≢ reserved_spelling r

-- digits, at least one, with this value, which is at most 9223372036854775807
pub record IsNumber (n : ℤ) (s : List ℕ) : Type 0 where
  pub some : s ≢ []
  pub digits : IsTrue (list_all is_ascii_digit s)
  pub value : n ≡ pos (digits_value 10 s)
  pub small : digits_value 10 s < 2 ^ 63

-- a text: its quotes, and at most 256 bytes between them
pub record IsText (s : List ℕ) : Type 0 where
  pub inside : List ℕ
  pub quoted : s ≡ quote ∷ (inside ++ quote ∷ [])
  pub bytes : IsTrue (list_all is_text_byte inside)
  pub short : length inside ≤ 256

-- these bytes spell this word, and a name says which word it spells where the grammar has that word
abbrev pub Spells : Word → List ℕ → Type 0
Spells (w.Name c) s = IsName s × (c ≡ contextual_of s)
Spells (w.Reserved r) s = s ≡ reserved_spelling r
Spells (w.Number n) s = IsNumber n s
Spells w.Text s = IsText s
Spells (w.Mark mark) s = s ≡ mark_spelling mark

-- the bytes that a token takes
abbrev pub bytes_of : List ℕ → Token → List ℕ
bytes_of text t = slice_range text t.from t.to

-- The token is in the text: its bytes spell its word, and no lexeme that begins where it begins is longer. So the longest
-- run of a token's characters is taken first, and its limit is looked at then.
pub record IsToken (text : List ℕ) (t : Token) : Type 0 where
  pub within : t.to ≤ length text
  pub spelled : Spells t.word (bytes_of text t)
  pub longest : (to : ℕ) → to ≤ length text → IsLexeme (slice_range text t.from to) → to ≤ t.to

-- Where comments may begin at `from`, the byte at this place is one of a comment: there is a `#` there or before, and no line
-- feed from it up to there.
pub record IsInComment (text : List ℕ) (from place : ℕ) : Type 0 where
  pub start : ℕ
  pub behind : from ≤ start
  pub before : start ≤ place
  pub opens : slice_index text start ≡ number_sign
  pub open_still : (k : ℕ) → start ≤ k → k ≤ place → slice_index text k ≢ line_feed

abbrev pub IsBlankOrComment : List ℕ → ℕ → ℕ → Type 0
IsBlankOrComment text from place = IsTrue (is_blank (slice_index text place)) ⊎ IsInComment text from place

-- from one place to another there are only blanks and comments, and there something else begins or the text ends
pub record IsGap (text : List ℕ) (from to : ℕ) : Type 0 where
  pub rises : from ≤ to
  pub within : to ≤ length text
  pub blank : (place : ℕ) → from ≤ place → place < to → IsBlankOrComment text from place
  pub ends : to < length text → IsBlankOrComment text from to → ⊥

-- from one place to another are these tokens, with only blanks and comments before each and after the last
abbrev pub LeadsTo : List ℕ → ℕ → List Token → ℕ → Type 0
LeadsTo text from [] to = IsGap text from to
LeadsTo text from (t ∷ ts) to = IsGap text from t.from × IsToken text t × LeadsTo text t.to ts to

-- the whole text is these tokens
abbrev pub AreTokens : List ℕ → List Token → Type 0
AreTokens text ts = LeadsTo text 0 ts (length text)

-- tokens lead to a place that is not the end, and no token begins there
pub record IsFirstBadPlace (text : List ℕ) (place : ℕ) : Type 0 where
  pub front : List Token
  pub reached : LeadsTo text 0 front place
  pub within : place < length text
  pub none_begins : (t : Token) → t.from ≡ place → IsToken text t → ⊥

-- the span rises, is within the text, and begins and ends between characters
pub record IsSpan (text : List ℕ) (t : Token) : Type 0 where
  pub rises : t.from < t.to
  pub within : t.to ≤ length text
  pub begins : IsCharBoundary text t.from
  pub ends : IsCharBoundary text t.to

-- between the quotes of a text are at most 256 bytes that may be in one, and both ends are between characters
pub record IsInside (text : List ℕ) (t : Token) : Type 0 where
  pub room : t.from + 2 ≤ t.to
  pub short : t.to ≤ t.from + 258
  pub bytes : IsTrue (list_all is_text_byte (slice_range text (t.from + 1) (t.to - 1)))
  pub begins : IsCharBoundary text (t.from + 1)
  pub ends : IsCharBoundary text (t.to - 1)

abbrev pub IsInsideOfText : List ℕ → Token → Type 0
IsInsideOfText text t = t.word ≡ w.Text → IsInside text t

-- each token begins where the one before it ends, or later
abbrev pub Rise : List Token → Type 0
Rise ts = AllAdjacentBelow (λ a b. a.to ≤ b.from) ts (length ts)
