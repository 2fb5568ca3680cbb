-- Items and lines of a printed text, and the keys that are listed of a kind.
use Rattle.std.specs.Prelude.{ℕ, pos, List, [], ◌∷◌, ◌++◌, codes}
use Rattle.std.specs.Fmt.{decimal}
use Rattle.std.specs.List.{flat_map}
use Rattle.flu_lemmas.specs.Items.{items_before}
use Rattle.flu_text.specs.declared.words.Mark.{Mark}
use Rattle.flu_text.specs.declared.words.Mark.TheVariants as m
use Rattle.flu_text.specs.Layout.{Piece}
use Rattle.flu_model.specs.declared.jobs.Keys.{Keys}
use Rattle.flu_model.specs.declared.jobs.Keys.TheVariants as keys
use Rattle.flu_layout.specs.Laid.{blank, mark, number}

-- items, with something between each two
abbrev pub separated : {X : Type 0} → List ℕ → (X → List ℕ) → List X → List ℕ
separated mark text [] = []
separated mark text (x ∷ xs) = text x ++ flat_map (λ y. mark ++ text y) xs

-- a mark and a blank
abbrev pub between : Mark → List Piece → List Piece
between word rest = mark word blank ∷ rest

-- the words of items with a mark and a blank between each two
abbrev pub items_words : {X : Type 0} → Mark → (X → List ℕ → List Piece → List Piece) → X → List X → List ℕ → List Piece → List Piece
items_words word item x xs behind rest = items_before item [] (between word) x xs behind rest

-- nothing, a number in brackets, or two of them with `..` between
abbrev pub keys_text : Keys → List ℕ
keys_text keys.Alone = []
keys_text (keys.One k) = codes "[" ++ decimal k ++ codes "]"
keys_text (keys.Range low high) = codes "[" ++ decimal low ++ codes ".." ++ decimal high ++ codes "]"

-- what comes after the kind of keys, and the keys' words
abbrev pub behind_kind : Keys → List ℕ → List ℕ
behind_kind keys.Alone behind = behind
behind_kind (keys.One k) behind = []
behind_kind (keys.Range low high) behind = []

abbrev pub keys_words : Keys → List ℕ → List Piece → List Piece
keys_words keys.Alone behind rest = rest
keys_words (keys.One k) behind rest = mark m.OpenBracket [] ∷ number (pos k) [] ∷ mark m.CloseBracket behind ∷ rest
keys_words (keys.Range low high) behind rest =
    mark m.OpenBracket [] ∷ number (pos low) [] ∷ mark m.Dots [] ∷ number (pos high) [] ∷ mark m.CloseBracket behind ∷ rest
