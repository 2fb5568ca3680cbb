-- The texts of tags.
use Rattle.std.specs.Prelude.{◌≡◌, ℕ, IsSome, IfSome, List}
use Rattle.std.specs.List.{All}
use Rattle.std.specs.Ordering.{nat_cmp, ordering_then}
use Rattle.std.specs.BTreeMap.{BTreeMap, get}
use Rattle.std.specs.declared.cmp.Ordering.{Ordering}
use Rattle.flu_model.specs.declared.events.Out.{Out}
use Rattle.flu_model.specs.declared.events.Tag.{Tag}
use Rattle.flu_model.specs.declared.jobs.Program.{Program}
use Rattle.flu_model.specs.Reports.{text_of_tag}

-- tags in order: by kind, then by key
abbrev pub tag_cmp : Tag → Tag → Ordering
tag_cmp a b = ordering_then (nat_cmp a.kind b.kind) (nat_cmp a.key b.key)

-- each tag that is there has its text
abbrev pub HasTexts : Program → BTreeMap Tag (List ℕ) → Type 0
HasTexts p tags = (t : Tag) → IfSome (get tag_cmp tags t) (λ text. text ≡ text_of_tag p t)

-- the tags of some outputs are there, each with its text
pub record IsTagged (p : Program) (tags : BTreeMap Tag (List ℕ)) (outs : List Out) : Type 0 where
  pub texts : HasTexts p tags
  pub all : All (λ o. IsSome (get tag_cmp tags o.tag)) outs
