-- What is printed is read as it was printed, and what is read may be printed.
use Rattle.std.specs.Prelude.{◌≡◌, ℕ, List, [], ◌++◌, IsTrue, Ok}
use Rattle.std.specs.Str.{IsUtf8}
use Rattle.flu_lemmas.specs.Items.{Begins}
use Rattle.flu_text.specs.declared.words.Token.{Token}
use Rattle.flu_text.specs.Reading.{reading}
use Rattle.flu_text.specs.Layout.{Piece, layout, tokens_of}
use Rattle.flu_text.specs.Signs.{Sign, IsSign, AreSigns}
use Rattle.flu_model.specs.declared.jobs.Keys.{Keys}
use Rattle.flu_model.specs.PlanRules.{are_small_keys}
use Rattle.flu_layout.specs.Laid.{AreLaid, Follows}
use Rattle.flu_layout.specs.Lists.{keys_text, behind_kind, keys_words}
use Rattle.flu_layout.specs.Stands.{Stand, AreRead}

-- a text that is laid out by the rules is read as tokens that stand for its words
abbrev pub LaidIsRead : Type 0
LaidIsRead = (ps : List Piece) → AreLaid ps → IsUtf8 (layout ps) → (reading (layout ps) ≡ Ok (tokens_of 0 ps)) × Stand (layout ps) ps (tokens_of 0 ps)

-- the names of a text that was read are names, and what is between its quotes may be there
abbrev pub ReadMayBePrinted : Type 0
ReadMayBePrinted = (text : List ℕ) (ts : List Token) → IsUtf8 text → reading text ≡ Ok ts → AreRead text ts

-- signs that the tokens begin with, with nothing after them, are those of all tokens
abbrev pub BegunAreSigns : Type 0
BegunAreSigns = (signs : List Sign) (ts : List Token) → Begins IsSign signs ts [] → AreSigns signs ts

-- the words of keys are laid out as their text
abbrev pub KeysAreSpelled : Type 0
KeysAreSpelled =
    (ks : Keys) (behind : List ℕ) (rest : List Piece)
    → behind_kind ks behind ++ layout (keys_words ks behind rest) ≡ keys_text ks ++ (behind ++ layout rest)

-- by the rules, where the keys are in range
abbrev pub KeysAreLaid : Type 0
KeysAreLaid =
    (ks : Keys) (behind : List ℕ) (rest : List Piece) → IsTrue (are_small_keys ks) → Follows behind rest
    → Follows (behind_kind ks behind) (keys_words ks behind rest)
