-- The order of cells and of tags.
use Rattle.std.specs.Prelude.{Bool}
use Rattle.std.specs.Ordering.{nat_cmp, ordering_then, is_lt}
use Rattle.std.specs.declared.cmp.Ordering.{Ordering}
use Rattle.flu_model.specs.declared.events.Cell.{Cell}
use Rattle.flu_model.specs.declared.events.Tag.{Tag}

-- by family as declared, then by key
abbrev pub cell_cmp : Cell → Cell → Ordering
cell_cmp c d = ordering_then (nat_cmp c.family d.family) (nat_cmp c.key d.key)

abbrev pub is_cell_before : Cell → Cell → Bool
is_cell_before c d = is_lt (cell_cmp c d)

-- by kind as declared, then by key
abbrev pub tag_cmp : Tag → Tag → Ordering
tag_cmp a b = ordering_then (nat_cmp a.kind b.kind) (nat_cmp a.key b.key)

abbrev pub is_tag_before : Tag → Tag → Bool
is_tag_before a b = is_lt (tag_cmp a b)
