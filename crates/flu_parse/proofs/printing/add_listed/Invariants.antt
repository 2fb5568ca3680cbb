use Rattle.std.proofs.Common.{◌≡◌, ◌++◌, map, take}
use Rattle.std.specs.Prelude.{codes}
use Rattle.std.specs.List.{flat_map}
use Rattle.std.specs.String.{string_bytes}
use Rattle.flu_model.specs.Erasure.{plain_kind}
use Rattle.flu_parse.specs.Printing.{tag_text}
use Rattle.flu_parse.proofs.printing.add_listed.Given as goal

abbrev pub invariant-loop-tag : goal.invariant-loop-tag
invariant-loop-tag l =
    string_bytes l.text
    ≡ string_bytes l.initial.text ++ flat_map (λ t. codes ", " ++ tag_text (map plain_kind l.kinds) t) (take l.tag-index l.others)
