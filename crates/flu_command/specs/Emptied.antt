-- What is left after texts that were read to their ends.
use Rattle.std.specs.Prelude.{ℕ, List, [], ◌∷◌, Option, Some, None, option_map, if◌then◌else◌}
use Rattle.std.specs.Str.{bytes_eq}
use Rattle.flu_outside.specs.Outside.{Contents}

-- what is left after a text, which was read to its end: another file with its name is empty
unfoldable pub emptied : List ℕ → Contents → Contents
emptied text left name = if bytes_eq name text then option_map (λ bytes. []) (left name) else left name

-- what is left after several texts, one read after another
abbrev pub emptied_each : List (List ℕ) → Contents → Contents
emptied_each [] left = left
emptied_each (text ∷ texts) left = emptied_each texts (emptied text left)

-- a name, if there is one, as a list
abbrev pub if_named : Option (List ℕ) → List (List ℕ)
if_named None = []
if_named (Some name) = name ∷ []
