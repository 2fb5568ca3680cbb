-- A written job: its names first, then its declarations in order again, token by token.
use Rattle.std.specs.Prelude.{ℕ, zero, suc, ◌^◌, nat_le, Bool, true, false, not, ◌&&◌, ◌==◌, if◌then◌else◌, List, [], ◌∷◌, ◌++◌, map, Option, Some, None}
use Rattle.std.specs.Prelude.{codes, Ok, Err}
use Rattle.std.specs.List.{list_any}
use Rattle.std.specs.Str.{bytes_eq}
use Rattle.flu_model.specs.declared.jobs.Depend.{Depend}
use Rattle.flu_model.specs.declared.jobs.Source.{Source}
use Rattle.flu_model.specs.Numberings.{Numbering}
use Rattle.flu_model.specs.Rules.{is_version}
use Rattle.flu_model.specs.Texts.{Unit as TimeUnit}
use Rattle.flu_calendar.specs.declared.unit.Unit.TheVariants.{Seconds, Milliseconds, Microseconds}
use Rattle.flu_model.specs.Erasure.{PlainAction, PlainKind, Job, plain_kind}
use Rattle.flu_text.specs.declared.written.WrittenSpan.{WrittenSpan}
use Rattle.flu_text.specs.declared.written.WrittenNumber.{WrittenNumber}
use Rattle.flu_syntax.specs.declared.tree.WrittenTag.{WrittenTag}
use Rattle.flu_syntax.specs.declared.tree.WrittenCells.{WrittenCells}
use Rattle.flu_syntax.specs.declared.tree.WrittenItem.{WrittenItem}
use Rattle.flu_syntax.specs.declared.tree.WrittenRelation.{WrittenRelation}
use Rattle.flu_syntax.specs.declared.tree.WrittenRelation.TheVariants as r
use Rattle.flu_syntax.specs.declared.tree.WrittenTies.{WrittenTies}
use Rattle.flu_syntax.specs.declared.tree.WrittenUnit.{WrittenUnit}
use Rattle.flu_syntax.specs.declared.tree.WrittenHead.{WrittenHead}
use Rattle.flu_syntax.specs.Tree.{Action, Declaration}
use Rattle.flu_syntax.specs.Tree as w
use Rattle.flu_layout.specs.Spelling.{name_of, written_value}
use Rattle.flu_parse.specs.declared.faults.JobFault.TheVariants as f
use Rattle.flu_parse.specs.declared.names.KindHead.{KindHead}
use Rattle.flu_parse.specs.declared.drafts.Draft.{Draft}
use Rattle.flu_parse.specs.declared.drafts.JobParts.{JobParts}
use Rattle.flu_parse.specs.declared.drafts.TagList.{TagList}
use Rattle.flu_parse.specs.Faults.{Found, ◌>>=◌, ◌>>◌, unless, each}
use Rattle.flu_parse.specs.Naming.{Naming, in_version, is_version_3, families_of, keys_by, items_by, naming_of, kind_of}
use Rattle.flu_parse.specs.Actions.{resolved_actions}
use Rattle.flu_parse.specs.Lists.{texts_of, list_of, listed_families, listed_kinds}
use Rattle.flu_parse.specs.Listings.{Listed, tags_of, rate_of, slack_of, file_of, period_of, tick_of}

-- the job as far as its declarations were processed, with the numbers of the kinds whose `on` was met, and for the families and the kinds
-- that were met the lists that name their keys and their items
pub record Drafted : Type 0 where
  pub lists : List Numbering
  pub family_lists : List (Option ℕ)
  pub kind_lists : List (Option ℕ)
  pub kinds : List PlainKind
  pub given : List ℕ
  pub depends : List Depend
  pub sources : List Source
  pub itags : ℕ

abbrev pub drafted : Draft → Drafted
drafted d = record {
  lists = d.lists.items;
  family_lists = d.family_lists.items;
  kind_lists = d.kind_lists.items;
  kinds = map plain_kind d.kinds.items;
  given = d.given.items;
  depends = d.depends.items;
  sources = d.sources.items;
  itags = d.itags;
}

abbrev pub tags_listed : TagList → Listed
tags_listed l = record { tags = l.tags.items; itags = l.itags }

-- `same` may only be used between two keyed kinds
abbrev pub same_of : WrittenRelation → KindHead → KindHead → Found Bool
same_of r.None a b = Ok false
same_of r.All a b = Ok false
same_of (r.Same at) a b = do
  unless (a.keyed && b.keyed) (f.WrongShape at)
  Ok true

unfoldable pub with_depend : List ℕ → Naming → Drafted → WrittenSpan → WrittenSpan → WrittenRelation → Found Drafted
with_depend text n d a b relation = do
  first ← kind_of text n a
  second ← kind_of text n b
  same ← same_of relation first second
  Ok (record d { depends = d.depends ++ record { a = first.number; b = second.number; same = same } ∷ [] })

-- the kinds, with these actions at one of them
abbrev pub with_actions : List PlainKind → ℕ → List PlainAction → List PlainKind
with_actions [] number actions = []
with_actions (k ∷ ks) zero actions = record k { actions = actions } ∷ ks
with_actions (k ∷ ks) (suc number) actions = k ∷ with_actions ks number actions

-- a kind has one `on` at most
unfoldable pub with_on : List ℕ → Naming → Drafted → WrittenSpan → List Action → Found Drafted
with_on text n d name actions = do
  kind ← kind_of text n name
  unless (not (list_any (λ g. g == kind.number) d.given)) (f.TwiceNamed name.from)
  done ← resolved_actions text n kind actions
  Ok (record d { kinds = with_actions d.kinds kind.number done; given = d.given ++ kind.number ∷ [] })

unfoldable pub with_source : List ℕ → Naming → Drafted → WrittenSpan → WrittenSpan → Option WrittenNumber → Option WrittenNumber → List WrittenTag
    → Found Drafted
with_source text n d name file written_rate written_slack tags = do
  bytes ← file_of text d.sources file
  rate ← rate_of written_rate
  slack ← slack_of written_slack
  listed ← tags_of text n d.itags tags
  Ok (record d {
    sources = d.sources ++ record { name = name_of text name; file = bytes; every = None; rate = rate; slack = slack; tags = listed.tags } ∷ [];
    itags = listed.itags;
  })

-- A clock is a source without a file, none of whose events is late; only version 3 has clocks.
unfoldable pub with_clock : List ℕ → Naming → Drafted → ℕ → WrittenSpan → WrittenNumber → Option WrittenNumber → WrittenSpan → Found Drafted
with_clock text n d at name every written_rate tag = do
  unless (is_version_3 n) (f.WrongShape at)
  period ← period_of every
  rate ← rate_of written_rate
  listed ← tick_of text n d.itags tag
  Ok (record d {
    sources = d.sources ++ record { name = name_of text name; file = []; every = Some period; rate = rate; slack = 0; tags = listed.tags } ∷ [];
    itags = listed.itags;
  })

-- in version 3 no family is called `item`
abbrev pub cell_name_fits : List ℕ → Naming → WrittenSpan → Bool
cell_name_fits text n name = not (is_version_3 n && bytes_eq (name_of text name) (codes "item"))

-- a kind has items only in version 3
abbrev pub item_word_fits : Naming → Option WrittenItem → Found (Unit {0})
item_word_fits n None = Ok tt
item_word_fits n (Some item) = unless (is_version_3 n) (f.WrongShape item.at)

unfoldable pub with_cell : List ℕ → Naming → Drafted → WrittenSpan → WrittenCells → Found Drafted
with_cell text n d name cells = do
  unless (cell_name_fits text n name) (f.WrongShape name.from)
  list ← list_of text n (keys_by cells)
  Ok (record d { family_lists = d.family_lists ++ list ∷ [] })

unfoldable pub with_tag : List ℕ → Naming → Drafted → Option WrittenItem → Found Drafted
with_tag text n d item = do
  item_word_fits n item
  list ← list_of text n (items_by item)
  Ok (record d { kind_lists = d.kind_lists ++ list ∷ [] })

-- only version 3 has lists
unfoldable pub with_names : List ℕ → Naming → Drafted → ℕ → WrittenSpan → List WrittenSpan → Found Drafted
with_names text n d at name texts = do
  unless (is_version_3 n) (f.WrongShape at)
  named ← texts_of text texts
  Ok (record d { lists = d.lists ++ record { name = name_of text name; texts = named } ∷ [] })

-- one more declaration
unfoldable pub with_declaration : List ℕ → Naming → Drafted → Declaration → Found Drafted
with_declaration text n d (w.Cell name cells sort) = with_cell text n d name cells
with_declaration text n d (w.Tag name keyed item has_value) = with_tag text n d item
with_declaration text n d (w.Names at name texts) = with_names text n d at name texts
with_declaration text n d (w.Depends a b relation) = with_depend text n d a b relation
with_declaration text n d (w.On name actions) = with_on text n d name actions
with_declaration text n d (w.Source name file rate slack tags) = with_source text n d name file rate slack tags
with_declaration text n d (w.Clock at name every rate tag) = with_clock text n d at name every rate tag

-- a kind without `on` has no actions; its head says nothing of a list
abbrev pub idle_kind : List ℕ × KindHead → PlainKind
idle_kind h = record { name = h.0; keyed = h.1.keyed; has_item = h.1.has_item; list = None; has_value = h.1.has_value; actions = [] }

abbrev pub first_draft : Naming → Drafted
first_draft n = record {
  lists = [];
  family_lists = [];
  kind_lists = [];
  kinds = map idle_kind n.kinds;
  given = [];
  depends = [];
  sources = [];
  itags = 0;
}

abbrev pub draft_of : List ℕ → Naming → List Declaration → Found Drafted
draft_of text n ds = each (with_declaration text n) (first_draft n) ds

-- the version of the language is 1 if none is written
abbrev pub version_of : Option WrittenHead → Found ℕ
version_of None = Ok 1
version_of (Some head) = do
  unless (is_version (written_value head.version.value)) (f.WrongShape head.version.at)
  Ok (written_value head.version.value)

-- how many rows a source may have at one time: 1 if no number is written; only version 3 has more
abbrev pub ties_counted : ℕ → Option WrittenTies → Found ℕ
ties_counted version None = Ok 1
ties_counted version (Some ties) = do
  unless (version == 3) (f.WrongShape ties.at)
  unless (nat_le 1 (written_value ties.number.value) && nat_le (written_value ties.number.value) (2 ^ 31)) (f.WrongShape ties.number.at)
  Ok (written_value ties.number.value)

abbrev pub ties_of : ℕ → Option WrittenHead → Found ℕ
ties_of version None = Ok 1
ties_of version (Some head) = ties_counted version head.ties

-- the unit that has this name
abbrev pub unit_named : List ℕ → Option TimeUnit
unit_named name =
    if bytes_eq name (codes "seconds") then Some Seconds
    else if bytes_eq name (codes "milliseconds") then Some Milliseconds
    else if bytes_eq name (codes "microseconds") then Some Microseconds
    else None

abbrev pub found_unit : ℕ → Option TimeUnit → Found (Option TimeUnit)
found_unit at None = Err (f.WrongShape at)
found_unit at (Some unit) = Ok (Some unit)

-- the unit of the times, if one is written; only version 3 has units
abbrev pub unit_of : List ℕ → ℕ → Option WrittenUnit → Found (Option TimeUnit)
unit_of text version None = Ok None
unit_of text version (Some unit) = do
  unless (version == 3) (f.WrongShape unit.at)
  found_unit unit.name.from (unit_named (name_of text unit.name))

abbrev pub iso_of : List ℕ → ℕ → Option WrittenHead → Found (Option TimeUnit)
iso_of text version None = Ok None
iso_of text version (Some head) = unit_of text version head.iso

abbrev pub job_with : ℕ → Option TimeUnit → Naming → Drafted → Job
job_with ties iso n d = record {
  version = n.version;
  ties = ties;
  iso = iso;
  lists = d.lists;
  families = listed_families (families_of n) d.family_lists;
  kinds = listed_kinds d.kinds d.kind_lists;
  depends = d.depends;
  sources = d.sources;
}

-- The job that is written, or the first fault: the names of all declarations, then the version, the rows at one time and the unit, then the
-- declarations again.
unfoldable pub resolved : List ℕ → w.Job → Found Job
resolved text job = do
  n ← naming_of text job.declarations
  version ← version_of job.head
  ties ← ties_of version job.head
  iso ← iso_of text version job.head
  let m = in_version n version
  d ← draft_of text m job.declarations
  Ok (job_with ties iso m d)

-- the parts of a job as plain data
abbrev pub job_of_parts : JobParts → Job
job_of_parts p = record {
  version = p.version;
  ties = p.ties;
  iso = p.iso;
  lists = p.lists;
  families = p.families;
  kinds = map plain_kind p.kinds;
  depends = p.depends;
  sources = p.sources;
}
