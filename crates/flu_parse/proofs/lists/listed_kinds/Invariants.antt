use Rattle.std.proofs.Common.{◌≡◌, ◌++◌, map, length, drop}
use Rattle.flu_model.specs.Erasure.{plain_kind}
use Rattle.flu_parse.specs.Lists.{listed_kinds}
use Rattle.flu_parse.proofs.lists.listed_kinds.Given as goal

abbrev pub invariant-loop-kind : goal.invariant-loop-kind
invariant-loop-kind l =
    (l.place ≡ length l.listed.items)
    × (map plain_kind l.listed.items ++ listed_kinds (map plain_kind l.kind-iterator.rest.items) (drop l.place l.lists)
    ≡ listed_kinds (map plain_kind l.fn.kinds.items) l.lists)
