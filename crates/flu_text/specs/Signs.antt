-- Signs, by which grammars over tokens say what is where, and what is written of a token.
use Rattle.std.specs.Prelude.{◌≡◌, ℕ, ℤ, Bool, true, false, List, [], ◌∷◌, ◌++◌, Contains}
use Rattle.std.specs.List.{flat_map}
use Rattle.flu_text.specs.declared.words.Word.{Word}
use Rattle.flu_text.specs.declared.words.Word.TheVariants as w
use Rattle.flu_text.specs.declared.words.Mark.TheVariants as m
use Rattle.flu_text.specs.declared.words.Token.{Token}
use Rattle.flu_text.specs.declared.written.WrittenSpan.{WrittenSpan}
use Rattle.flu_text.specs.declared.written.WrittenNumber.{WrittenNumber}
use Rattle.flu_text.specs.declared.written.WrittenKeys.{WrittenKeys}
use Rattle.flu_text.specs.declared.written.WrittenKeys.TheVariants as keys

-- a name, whichever word it may spell besides
abbrev pub is_name_word : Word → Bool
is_name_word (w.Name c) = true
is_name_word _ = false

-- A sign stands for a token: of a word, at any place; of a word that begins at a place; of a word that takes these bytes; of a
-- name that takes these bytes.
pub data Sign : Type 0 where
  Any : (word : Word) → Sign
  At : (word : Word) (from : ℕ) → Sign
  Spanned : (word : Word) (span : WrittenSpan) → Sign
  Named : (span : WrittenSpan) → Sign

abbrev pub IsSign : Sign → Token → Type 0
IsSign (Any word) t = t.word ≡ word
IsSign (At word from) t = (t.word ≡ word) × (t.from ≡ from)
IsSign (Spanned word span) t = (t.word ≡ word) × (t.from ≡ span.from) × (t.to ≡ span.to)
IsSign (Named span) t = (is_name_word t.word ≡ true) × (t.from ≡ span.from) × (t.to ≡ span.to)

-- the tokens are these signs, one by one
abbrev pub AreSigns : List Sign → List Token → Type 0
AreSigns [] [] = Unit {0}
AreSigns [] (t ∷ tokens) = ⊥
AreSigns (s ∷ signs) [] = ⊥
AreSigns (s ∷ signs) (t ∷ tokens) = IsSign s t × AreSigns signs tokens

-- one of the tokens is what the sign stands for
abbrev pub Stands : List Token → Sign → Type 0
Stands tokens s = (t : Token) × Contains tokens t × IsSign s t

-- the bytes that a token takes, and a number with the place of its token
abbrev pub span_of : Token → WrittenSpan
span_of t = record { from = t.from; to = t.to }

abbrev pub number_of : ℤ → Token → WrittenNumber
number_of n t = record { value = n; at = t.from }

-- ---- what jobs and plans write alike

abbrev pub name : WrittenSpan → List Sign
name span = Named span ∷ []

abbrev pub text : WrittenSpan → List Sign
text span = Spanned w.Text span ∷ []

abbrev pub number : WrittenNumber → List Sign
number n = At (w.Number n.value) n.at ∷ []

-- items, with a mark between each two
abbrev pub separated : {X : Type 0} → Word → (X → List Sign) → List X → List Sign
separated mark item [] = []
separated mark item (x ∷ xs) = item x ++ flat_map (λ y. Any mark ∷ item y) xs

-- NAME [ "[" NUMBER [ ".." NUMBER ] "]" ]
abbrev pub keys_signs : WrittenKeys → List Sign
keys_signs keys.Alone = []
keys_signs (keys.One n) = Any (w.Mark m.OpenBracket) ∷ (number n ++ Any (w.Mark m.CloseBracket) ∷ [])
keys_signs (keys.Range low high) = Any (w.Mark m.OpenBracket) ∷ (number low ++ Any (w.Mark m.Dots) ∷ (number high ++ Any (w.Mark m.CloseBracket) ∷ []))

-- the place of the first token, or of the end
abbrev pub place_of : ℕ → List Token → ℕ
place_of end [] = end
place_of end (t ∷ tokens) = t.from
