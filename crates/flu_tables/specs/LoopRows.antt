-- The rows of dependence.
use Rattle.std.specs.Prelude.{ℕ, min, Bool, false, List, [], ◌∷◌, ◌++◌, map, slice_index_or}
use Rattle.std.specs.List.{range_with_len}
use Rattle.flu_model.specs.declared.events.Itag.{Itag}
use Rattle.flu_model.specs.declared.events.Tag.{Tag}
use Rattle.flu_model.specs.declared.jobs.Program.{Program}
use Rattle.flu_model.specs.Itags.{count_of_itags, tag_of_itag, is_dependent}
use Rattle.flu_model.specs.Listing.{tag}
use Rattle.flu_tables.specs.Lists.{itag}

-- the tags of the itags, and last the tag of no itag
abbrev pub tags_with_none : Program → List Tag
tags_with_none p = map (λ i. tag_of_itag p (itag i)) (range_with_len 0 (count_of_itags p)) ++ tag 0 0 ∷ []

-- for each of some tags on which of them it depends
abbrev pub rows_of : Program → List Tag → List (List Bool)
rows_of p tags = map (λ a. map (is_dependent p a) tags) tags

-- the entry for two itags, of this many; every number that is not an itag's has the last place
abbrev pub place_in : List (List Bool) → ℕ → Itag → Itag → Bool
place_in rows count i j = slice_index_or (slice_index_or rows (min i.0 count) []) (min j.0 count) false
