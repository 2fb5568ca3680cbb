-- How an object is written member by member.
use Rattle.std.specs.Prelude.{ℕ, List, ◌∷◌, ◌++◌, codes}
use Rattle.json.specs.Print.{quoted}
use Rattle.serde_json.specs.Data.{Data, number, unsigned}
use Rattle.serde_json.specs.Written.{compact_text}
use Rattle.flu_partial.specs.declared.values.Place.{Place}
use Rattle.flu_partial.specs.declared.values.Place.TheVariants.{Before, End}
use Rattle.flu_partial.specs.Partial.{time_or_null}

-- a member, after what stands before it: the opening brace, or a comma
unfoldable pub piece : List ℕ → List ℕ → Data → List ℕ
piece before name value = before ++ (quoted name ++ 58 ∷ compact_text value)

-- the members of a place
abbrev pub place_piece : Place → List ℕ
place_piece (Before time itag) =
    piece (codes ",") (codes "time") (number (unsigned time)) ++ piece (codes ",") (codes "itag") (number (unsigned itag.0))
place_piece (End last) = piece (codes ",") (codes "last") (time_or_null last)
