use Rattle.std.proofs.Common.{◌≡◌, ◌++◌, length, drop}
use Rattle.flu_parse.specs.Lists.{listed_families}
use Rattle.flu_parse.proofs.lists.listed_families.Given as goal

abbrev pub invariant-loop-family : goal.invariant-loop-family
invariant-loop-family l =
    (l.place ≡ length l.listed.items)
    × (l.listed.items ++ listed_families l.family-iterator.rest.items (drop l.place l.lists) ≡ listed_families l.fn.families.items l.lists)
