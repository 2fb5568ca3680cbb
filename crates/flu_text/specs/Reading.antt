-- The tokens of a text, or the first place where none begins, computed.
use Rattle.std.specs.Prelude.{◌≡◌, ℕ, zero, suc, ◌+◌, Bool, true, false, not, ◌==◌, if◌then◌else◌, List, [], ◌∷◌, length, drop, Option, Some, None, option_map}
use Rattle.std.specs.Prelude.{Result, Ok, Err, Vec}
use Rattle.std.specs.declared.alloc.Global.{Global}
use Rattle.flu_text.specs.declared.words.Token.{Token}
use Rattle.flu_text.specs.declared.reading.TextFault.{TextFault}
use Rattle.flu_text.specs.declared.reading.TextFault.TheVariants as f
use Rattle.flu_text.specs.Grammar.{number_sign, line_feed, is_blank}
use Rattle.flu_text.specs.Lexeme.{word_at}

-- how many bytes of blanks and comments there are at the front, where in_comment says that a comment is open
unfoldable pub gap_len : Bool → List ℕ → ℕ
gap_len in_comment [] = 0
gap_len true (b ∷ bytes) = gap_len (not (b == line_feed)) bytes + 1
gap_len false (b ∷ bytes) =
    if b == number_sign then gap_len true bytes + 1
    else if is_blank b then gap_len false bytes + 1
    else 0

-- the place after the blanks and comments at a place
abbrev pub next_place : List ℕ → ℕ → ℕ
next_place text place = place + gap_len false (drop place text)

-- the token at a place
unfoldable pub token_at : List ℕ → ℕ → Option Token
token_at text place = option_map (λ p. record { word = p.0; from = place; to = place + p.1 }) (word_at (drop place text))

-- The tokens, or the first place where no token begins.
abbrev pub Reading : Type 0
Reading = Result (List Token) ℕ

abbrev pub prepend : Token → Reading → Reading
prepend t (Ok ts) = Ok (t ∷ ts)
prepend t (Err place) = Err place

-- what begins at a place, and what follows it
abbrev pub continued : ℕ → Option Token → (Token → Reading) → Reading
continued place None more = Err place
continued place (Some t) more = prepend t (more t)

-- the reading from a place on, with at most this many tokens
unfoldable pub reading_from : ℕ → List ℕ → ℕ → Reading
reading_from zero text place = Ok []
reading_from (suc most) text place =
    let next = next_place text place in
    if next == length text then Ok [] else continued next (token_at text next) (λ t. reading_from most text t.to)

-- a token takes a byte at least, so a text has no more tokens than bytes
unfoldable pub reading : List ℕ → Reading
reading text = reading_from (length text) text 0

-- the answer is the reading, unless memory runs out
abbrev pub Gives : Reading → Result (Vec Token Global) TextFault → Type 0
Gives r (Ok found) = r ≡ Ok found.items
Gives r (Err (f.BadToken place)) = r ≡ Err place
Gives r (Err f.NoMemory) = Unit {0}
