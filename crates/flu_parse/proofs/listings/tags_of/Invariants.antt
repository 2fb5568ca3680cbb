use Rattle.std.proofs.Common.{◌≡◌, drop}
use Rattle.flu_parse.specs.Faults.{each}
use Rattle.flu_parse.specs.Naming.{naming}
use Rattle.flu_parse.specs.Listings.{with_tag, tags_of}
use Rattle.flu_parse.specs.Resolving.{tags_listed}
use Rattle.flu_parse.proofs.listings.tags_of.Given as goal

abbrev pub invariant-loop-tag : goal.invariant-loop-tag
invariant-loop-tag l =
    each (with_tag l.text (naming l.names)) (tags_listed l.listed) (drop l.tag-index l.written) ≡ tags_of l.text
    (naming l.names) l.initial.listed.itags l.written
