-- The keys that sources list of a kind: their ends, and which tags two parts of a list have in common.
use Rattle.std.specs.Prelude.{◌≡◌, ℕ, Bool, ◌==◌, ◌&&◌, nat_le, max, min, List}
use Rattle.std.specs.List.{list_any, flat_map}
use Rattle.flu_model.specs.declared.jobs.Keys.{Keys}
use Rattle.flu_model.specs.declared.jobs.Keys.TheVariants.{Alone, One, Range}
use Rattle.flu_model.specs.declared.jobs.TagRef.{TagRef}
use Rattle.flu_model.specs.Listing.{listed_tags}
use Rattle.flu_model.specs.Rules.{are_distinct, is_same_tag}

abbrev pub first_key : Keys → ℕ
first_key Alone = 0
first_key (One k) = k
first_key (Range lo hi) = lo

abbrev pub last_key : Keys → ℕ
last_key Alone = 0
last_key (One k) = k
last_key (Range lo hi) = hi

-- both list a tag
abbrev pub share_tag : TagRef → TagRef → Bool
share_tag a b = list_any (λ t. list_any (is_same_tag t) (listed_tags b)) (listed_tags a)

-- they do if they are of one kind, and the later of their first keys is not after the earlier of their last ones
abbrev pub TagsMeet : Type 0
TagsMeet =
    (a b : TagRef)
    → share_tag a b ≡ ((a.kind == b.kind) && nat_le (max (first_key a.keys) (first_key b.keys)) (min (last_key a.keys) (last_key b.keys)))

-- no tag is listed twice if no two parts share one
abbrev pub TagsDiffer : Type 0
TagsDiffer = (rs : List TagRef) → are_distinct is_same_tag (flat_map listed_tags rs) ≡ are_distinct share_tag rs
