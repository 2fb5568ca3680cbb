-- WHICH JOBS EMIT UTF-8: those with plain pieces of templates, and texts in lists of names, that are UTF-8, as they are in memory.
use Rattle.std.specs.Prelude.{List, ⊤}
use Rattle.std.specs.List.{AllByRecursion}
use Rattle.std.specs.Str.{IsUtf8}
use Rattle.flu_model.specs.declared.events.Out.{Out}
use Rattle.flu_model.specs.declared.jobs.Act.{Act}
use Rattle.flu_model.specs.declared.jobs.Act.TheVariants.{Emit, Flush}
use Rattle.flu_model.specs.declared.jobs.Action.{Action}
use Rattle.flu_model.specs.declared.jobs.Kind.{Kind}
use Rattle.flu_model.specs.declared.jobs.Piece.{Piece}
use Rattle.flu_model.specs.declared.jobs.Piece.TheVariants.{Plain}
use Rattle.flu_model.specs.declared.jobs.Program.{Program}
use Rattle.flu_model.specs.Numberings.{Numbering}
use Rattle.flu_model.specs.Reports.{text_of_tag}

-- a piece of a template: plain bytes are UTF-8; a field is always filled in with such bytes
abbrev pub IsUtf8Piece : Piece → Type 0
IsUtf8Piece (Plain t) = IsUtf8 t
IsUtf8Piece field = ⊤

-- the plain pieces of what an act emits are UTF-8
abbrev pub EmitsUtf8 : Act → Type 0
EmitsUtf8 (Emit pieces) = AllByRecursion IsUtf8Piece pieces
EmitsUtf8 (Flush f pieces) = AllByRecursion IsUtf8Piece pieces
EmitsUtf8 act = ⊤

-- THE TEMPLATES ARE UTF-8: the plain pieces of all templates of some kinds are
abbrev pub TemplatesAreUtf8 : List Kind → Type 0
TemplatesAreUtf8 kinds = AllByRecursion (λ (kind : Kind). AllByRecursion (λ (a : Action). EmitsUtf8 a.act) kind.actions) kinds

-- THE NAMES ARE UTF-8: the texts of all lists of names are
abbrev pub NamesAreUtf8 : List Numbering → Type 0
NamesAreUtf8 lists = AllByRecursion (λ (l : Numbering). AllByRecursion IsUtf8 l.texts) lists

-- an output's text and its tag's text are UTF-8
abbrev pub IsUtf8Output : Program → Out → Type 0
IsUtf8Output p o = IsUtf8 (text_of_tag p o.tag) × IsUtf8 o.text
