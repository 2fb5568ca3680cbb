-- What written dependencies and sources mean, with the kinds that are declared.
use Rattle.std.specs.Prelude.{◌≡◌, ◌≢◌, ◌<◌, ◌≤◌, ◌^◌, ℕ, Bool, true, false, List, [], ◌∷◌, Option, Some, None, slice_get}
use Rattle.flu_lemmas.specs.Items.{Pairs}
use Rattle.flu_model.specs.declared.jobs.Depend.{Depend}
use Rattle.flu_model.specs.declared.jobs.Keys.{Keys}
use Rattle.flu_model.specs.declared.jobs.Keys.TheVariants as keys
use Rattle.flu_model.specs.declared.jobs.TagRef.{TagRef}
use Rattle.flu_model.specs.declared.jobs.Source.{Source}
use Rattle.flu_rules.specs.Keys.{share_tag}
use Rattle.flu_text.specs.declared.written.WrittenSpan.{WrittenSpan}
use Rattle.flu_text.specs.declared.written.WrittenNumber.{WrittenNumber}
use Rattle.flu_text.specs.declared.written.WrittenKeys.{WrittenKeys}
use Rattle.flu_text.specs.declared.written.WrittenKeys.TheVariants as w
use Rattle.flu_syntax.specs.declared.tree.WrittenTag.{WrittenTag}
use Rattle.flu_syntax.specs.declared.tree.WrittenRelation.{WrittenRelation}
use Rattle.flu_syntax.specs.declared.tree.WrittenRelation.TheVariants as r
use Rattle.flu_layout.specs.Spelling.{name_of, inside, written_value}
use Rattle.flu_grammar.specs.Cells.{IsKey}
use Rattle.flu_grammar.specs.Declared.{DeclaredKind, WrittenDepend, WrittenSource, WrittenClock, WrittenFeed, OfFile, OfClock}

-- the declared kind of this number has the written name
pub record MeansKind (text : List ℕ) (kinds : List DeclaredKind) (written : WrittenSpan) (number : ℕ) : Type 0 where
  pub kind : DeclaredKind
  pub here : slice_get kinds number ≡ Some kind
  pub name : kind.name ≡ name_of text written

-- ---- dependencies

-- `same` may only be used between two keyed kinds; else the relation is `all`
abbrev pub MeansRelation : Bool → Bool → WrittenRelation → Bool → Type 0
MeansRelation a_keyed b_keyed r.None same = same ≡ false
MeansRelation a_keyed b_keyed r.All same = same ≡ false
MeansRelation a_keyed b_keyed (r.Same at) same = (same ≡ true) × (a_keyed ≡ true) × (b_keyed ≡ true)

pub record MeansDepend (text : List ℕ) (kinds : List DeclaredKind) (written : WrittenDepend) (depend : Depend) : Type 0 where
  pub a : MeansKind text kinds written.a depend.a
  pub b : MeansKind text kinds written.b depend.b
  pub same : MeansRelation a.kind.keyed b.kind.keyed written.relation depend.same

-- ---- sources

-- a keyed kind has brackets and another has none; the first number of a range is at most the second
abbrev pub MeansListedKeys : Bool → WrittenKeys → Keys → Type 0
MeansListedKeys keyed w.Alone keys.Alone = keyed ≡ false
MeansListedKeys keyed (w.One n) (keys.One k) = (keyed ≡ true) × IsKey n k
MeansListedKeys keyed (w.Range low high) (keys.Range lo hi) = (keyed ≡ true) × (lo ≤ hi) × IsKey low lo × IsKey high hi
MeansListedKeys _ _ _ = ⊥

pub record MeansTag (text : List ℕ) (kinds : List DeclaredKind) (written : WrittenTag) (tag : TagRef) : Type 0 where
  pub kind : MeansKind text kinds written.kind tag.kind
  pub keys : MeansListedKeys kind.kind.keyed written.keys tag.keys

-- a number up to a limit, or what is meant if none is written
abbrev pub MeansNumber : ℕ → ℕ → Option WrittenNumber → ℕ → Type 0
MeansNumber default most None n = n ≡ default
MeansNumber default most (Some w) n = (n ≡ written_value w.value) × (n ≤ most)

-- no tag is listed in two parts of a list
abbrev pub AreApart : List TagRef → Type 0
AreApart tags = (i j : ℕ) (a b : TagRef) → i < j → slice_get tags i ≡ Some a → slice_get tags j ≡ Some b → share_tag b a ≡ false

pub record MeansSource (text : List ℕ) (kinds : List DeclaredKind) (written : WrittenSource) (source : Source) : Type 0 where
  pub name : source.name ≡ name_of text written.name
  pub file : source.file ≡ inside text written.file
  pub some_file : source.file ≢ []
  pub no_period : source.every ≡ None
  pub rate : MeansNumber 1 1000000000 written.rate source.rate
  pub slack : MeansNumber 0 60000 written.slack source.slack
  pub tags : Pairs (MeansTag text kinds) written.tags source.tags
  pub apart : AreApart source.tags

-- A clock has no file and no slack, and a period from 1 to 2^62; its tag is of a kind without key, item and value.
pub record MeansClock (text : List ℕ) (kinds : List DeclaredKind) (written : WrittenClock) (source : Source) : Type 0 where
  pub name : source.name ≡ name_of text written.name
  pub no_file : source.file ≡ []
  pub period : source.every ≡ Some (written_value written.every.value)
  pub some_period : 1 ≤ written_value written.every.value
  pub few_period : written_value written.every.value ≤ 2 ^ 62
  pub rate : MeansNumber 1 1000000000 written.rate source.rate
  pub slack : source.slack ≡ 0
  pub number : ℕ
  pub kind : MeansKind text kinds written.tag number
  pub no_key : kind.kind.keyed ≡ false
  pub no_item : kind.kind.has_item ≡ false
  pub no_value : kind.kind.has_value ≡ false
  pub tags : source.tags ≡ record { kind = number; keys = keys.Alone } ∷ []

abbrev pub MeansFeed : List ℕ → List DeclaredKind → WrittenFeed → Source → Type 0
MeansFeed text kinds (OfFile written) source = MeansSource text kinds written source
MeansFeed text kinds (OfClock written) source = MeansClock text kinds written source
