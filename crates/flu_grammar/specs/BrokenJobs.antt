-- What each fault of a job text says: which rule is broken, and where.
use Rattle.std.specs.Prelude.{◌≡◌, ◌≢◌, ◌<◌, ◌≤◌, ◌+◌, ◌^◌, ◌&&◌, ◌||◌, ◌⊎◌, ℕ, Bool, true, false, List, []}
use Rattle.std.specs.Prelude.{◌∷◌, ◌++◌, length, sum_by, Option, Some, Err, slice_get, codes, IsTrue}
use Rattle.std.specs.List.{flat_map}
use Rattle.std.specs.Str.{IsUtf8}
use Rattle.std.specs.Str.Lossy.{utf8_valid_len}
use Rattle.flu_model.specs.declared.limits.What.TheVariants.{Bytes, Nesting, Families, Kinds, Lists, Names as NamesLimit, Sources, Depends as DependsLimit}
use Rattle.flu_model.specs.declared.limits.What.TheVariants.{Key, Itags, Rate, Slack}
use Rattle.flu_model.specs.declared.jobs.Sort.{Sort}
use Rattle.flu_model.specs.declared.jobs.TagRef.{TagRef}
use Rattle.flu_model.specs.Contents.{key_count}
use Rattle.flu_model.specs.ListRules.{is_listed_text}
use Rattle.flu_model.specs.Rules.{is_version}
use Rattle.flu_model.specs.Texts.{Unit as TimeUnit}
use Rattle.flu_rules.specs.Keys.{share_tag}
use Rattle.flu_text.specs.declared.words.Token.{Token}
use Rattle.flu_text.specs.declared.written.WrittenSpan.{WrittenSpan}
use Rattle.flu_text.specs.declared.written.WrittenNumber.{WrittenNumber}
use Rattle.flu_text.specs.declared.written.WrittenKeys.{WrittenKeys}
use Rattle.flu_text.specs.declared.written.WrittenKeys.TheVariants as ks
use Rattle.flu_text.specs.Grammar.{AreTokens, IsFirstBadPlace}
use Rattle.flu_syntax.specs.declared.tree.WrittenBy.{WrittenBy}
use Rattle.flu_syntax.specs.declared.tree.WrittenCells.{WrittenCells}
use Rattle.flu_syntax.specs.declared.tree.WrittenCells.TheVariants.{By}
use Rattle.flu_syntax.specs.declared.tree.WrittenItem.{WrittenItem}
use Rattle.flu_syntax.specs.declared.tree.WrittenTag.{WrittenTag}
use Rattle.flu_syntax.specs.declared.tree.WrittenRelation.{WrittenRelation}
use Rattle.flu_syntax.specs.declared.tree.WrittenRelation.TheVariants as r
use Rattle.flu_syntax.specs.declared.tree.WrittenTies.{WrittenTies}
use Rattle.flu_syntax.specs.declared.tree.WrittenUnit.{WrittenUnit}
use Rattle.flu_syntax.specs.declared.tree.WrittenHead.{WrittenHead}
use Rattle.flu_syntax.specs.Tree.{Action, Declaration, Declarations, Cell, Tag, Names, Depends, On, Source, Clock, Job as WrittenJob}
use Rattle.flu_syntax.specs.Grammar.{IsJob}
use Rattle.flu_layout.specs.Spelling.{name_of, inside, written_value}
use Rattle.flu_parse.specs.declared.faults.JobFault.{JobFault}
use Rattle.flu_parse.specs.declared.faults.JobFault.TheVariants as j
use Rattle.flu_parse.specs.Listings.{written_keys, tag_count, alone}
use Rattle.flu_parse.specs.Printing.{unit_name}
use Rattle.flu_parse.specs.Reading.{job_in}
use Rattle.flu_grammar.specs.Texts.{IsShortText}
use Rattle.flu_grammar.specs.Declared.{DeclaredKind, under_kind, WrittenFeed, feed_tags, lists_in, list_names, families_in, kinds_in, depends_in, sources_in}
use Rattle.flu_grammar.specs.Sources.{MeansKind, MeansTag}
use Rattle.flu_grammar.specs.Faults.{NoneIsNamed, IsNotContinued, OpensTooMany, IsDeclaredTwice, IsOnTwice, IsFileTwice}
use Rattle.flu_grammar.specs.Jobs.{MeansVersion}
use Rattle.flu_grammar.specs.Broken.{BreaksActions}

abbrev pub declared_name : DeclaredKind → List ℕ
declared_name kind = kind.name

-- ---- tags

abbrev pub has_key_brackets : WrittenKeys → Bool
has_key_brackets ks.Alone = false
has_key_brackets (ks.One n) = true
has_key_brackets (ks.Range low high) = true

-- the number is one of the keys that are written
abbrev pub IsWrittenKey : WrittenKeys → WrittenNumber → Type 0
IsWrittenKey ks.Alone n = ⊥
IsWrittenKey (ks.One one) n = n ≡ one
IsWrittenKey (ks.Range low high) n = (n ≡ low) ⊎ (n ≡ high)

-- how many itags sources list
abbrev pub listed_itags : List WrittenTag → ℕ
listed_itags tags = sum_by (λ (t : WrittenTag). tag_count t.keys) tags

abbrev pub itags_in : Declarations → ℕ
itags_in ds = sum_by (λ (s : WrittenFeed). listed_itags (feed_tags s)) (flat_map sources_in ds)

-- an earlier part of the list has one of the tags of this one
pub record IsListedTwice (text : List ℕ) (kinds : List DeclaredKind) (earlier : List WrittenTag) (t : WrittenTag) : Type 0 where
  pub place : ℕ
  pub other : WrittenTag
  pub here : slice_get earlier place ≡ Some other
  pub kind : ℕ
  pub is : MeansKind text kinds t.kind kind
  pub tag : TagRef
  pub means : MeansTag text kinds other tag
  pub shared : share_tag (record { kind = kind; keys = written_keys t.keys }) tag ≡ true

-- this many itags are listed before the list of tags, and these tags in it before this one
pub data BreaksTag (text : List ℕ) (kinds : List DeclaredKind) (itags : ℕ) (earlier : List WrittenTag) (t : WrittenTag) : JobFault → Type 0 where
  tag_unknown : NoneIsNamed declared_name kinds (name_of text t.kind) → BreaksTag text kinds itags earlier t (j.UnknownName t.kind.from)
  -- a keyed kind has brackets and another has none
  tag_brackets : (number : ℕ) (kind : MeansKind text kinds t.kind number) → kind.kind.keyed ≢ has_key_brackets t.keys
      → BreaksTag text kinds itags earlier t (j.WrongShape t.kind.from)
  too_many_itags : 256 < itags + listed_itags (earlier ++ t ∷ []) → BreaksTag text kinds itags earlier t (j.OverLimit Itags 257)
  listed_twice : IsListedTwice text kinds earlier t → BreaksTag text kinds itags earlier t (j.TwiceNamed t.kind.from)
  -- the first number of a range is at most the second
  range_falls : (low high : WrittenNumber) → t.keys ≡ ks.Range low high → written_value high.value < written_value low.value
      → BreaksTag text kinds itags earlier t (j.WrongShape low.at)
  tag_key : (n : WrittenNumber) → IsWrittenKey t.keys n → key_count ≤ written_value n.value
      → BreaksTag text kinds itags earlier t (j.OverLimit Key (written_value n.value))

-- ---- lists of names

-- the list that a declaration names
pub data BreaksList (text : List ℕ) (version : ℕ) (all : Declarations) (by : WrittenBy) : JobFault → Type 0 where
  list_of_older : version ≢ 3 → BreaksList text version all by (j.WrongShape by.at)
  list_unknown : NoneIsNamed (λ (name : List ℕ). name) (list_names text all) (name_of text by.list)
      → BreaksList text version all by (j.UnknownName by.list.from)

-- a text of a list, behind others
pub data BreaksName (text : List ℕ) (earlier : List WrittenSpan) (s : WrittenSpan) : JobFault → Type 0 where
  no_name : ¬ IsTrue (is_listed_text (inside text s)) → BreaksName text earlier s (j.WrongShape s.from)
  -- at most 65,536
  too_many_names : key_count ≤ length earlier → BreaksName text earlier s (j.OverLimit NamesLimit 65537)
  name_twice : (i : ℕ) (other : WrittenSpan) → slice_get earlier i ≡ Some other → inside text other ≡ inside text s
      → BreaksName text earlier s (j.TwiceNamed s.from)

-- ---- declarations

-- a declaration of a job of this version, behind others
pub data BreaksDeclaration (text : List ℕ) (version : ℕ) (all before : Declarations) : Declaration → JobFault → Type 0 where
  -- in version 3 no cell is called `item`
  called_item : (name : WrittenSpan) (cells : WrittenCells) (sort : Sort) → version ≡ 3 → name_of text name ≡ codes "item"
      → BreaksDeclaration text version all before (Cell name cells sort) (j.WrongShape name.from)
  -- only in version 3 kinds have items
  items_of_older : (name : WrittenSpan) (keyed : Bool) (item : WrittenItem) (has_value : Bool) → version ≢ 3
      → BreaksDeclaration text version all before (Tag name keyed (Some item) has_value) (j.WrongShape item.at)
  -- a list that names keys or items is declared, which only version 3 has
  in_keys : (name : WrittenSpan) (by : WrittenBy) (sort : Sort) (fault : JobFault) → BreaksList text version all by fault
      → BreaksDeclaration text version all before (Cell name (By by) sort) fault
  in_items : (name : WrittenSpan) (keyed : Bool) (item : WrittenItem) (by : WrittenBy) (has_value : Bool) (fault : JobFault) → item.by ≡ Some by
      → BreaksList text version all by fault → BreaksDeclaration text version all before (Tag name keyed (Some item) has_value) fault
  -- only version 3 has lists of names
  names_of_older : (at : ℕ) (name : WrittenSpan) (texts : List WrittenSpan) → version ≢ 3
      → BreaksDeclaration text version all before (Names at name texts) (j.WrongShape at)
  in_names : (at : ℕ) (name : WrittenSpan) (earlier later : List WrittenSpan) (s : WrittenSpan) (fault : JobFault) → BreaksName text earlier s fault
      → BreaksDeclaration text version all before (Names at name (earlier ++ s ∷ later)) fault
  first_unknown : (a b : WrittenSpan) (relation : WrittenRelation) → NoneIsNamed declared_name (flat_map (kinds_in text) all) (name_of text a)
      → BreaksDeclaration text version all before (Depends a b relation) (j.UnknownName a.from)
  second_unknown : (a b : WrittenSpan) (relation : WrittenRelation) → NoneIsNamed declared_name (flat_map (kinds_in text) all) (name_of text b)
      → BreaksDeclaration text version all before (Depends a b relation) (j.UnknownName b.from)
  -- `same` may only be used between two keyed kinds
  same_of_unkeyed : (a b : WrittenSpan) (at i k : ℕ) (x : MeansKind text (flat_map (kinds_in text) all) a i)
      (y : MeansKind text (flat_map (kinds_in text) all) b k)
      → (x.kind.keyed && y.kind.keyed) ≡ false → BreaksDeclaration text version all before (Depends a b (r.Same at)) (j.WrongShape at)
  kind_unknown : (kind : WrittenSpan) (actions : List Action) → NoneIsNamed declared_name (flat_map (kinds_in text) all) (name_of text kind)
      → BreaksDeclaration text version all before (On kind actions) (j.UnknownName kind.from)
  second_on : (kind : WrittenSpan) (actions : List Action) (at : ℕ) → IsOnTwice text before kind at
      → BreaksDeclaration text version all before (On kind actions) (j.TwiceNamed at)
  in_actions : (kind : WrittenSpan) (actions : List Action) (fault : JobFault) (number : ℕ) (x : MeansKind text (flat_map (kinds_in text) all) kind number)
      → BreaksActions text (flat_map (families_in text) all) (under_kind version x.kind) actions fault
      → BreaksDeclaration text version all before (On kind actions) fault
  no_file : (name file : WrittenSpan) (rate slack : Option WrittenNumber) (tags : List WrittenTag) → inside text file ≡ []
      → BreaksDeclaration text version all before (Source name file rate slack tags) (j.WrongShape file.from)
  second_file : (name file : WrittenSpan) (rate slack : Option WrittenNumber) (tags : List WrittenTag) (at : ℕ) → IsFileTwice text before file at
      → BreaksDeclaration text version all before (Source name file rate slack tags) (j.TwiceNamed at)
  high_rate : (name file : WrittenSpan) (rate : WrittenNumber) (slack : Option WrittenNumber) (tags : List WrittenTag) → 1000000000 < written_value rate.value
      → BreaksDeclaration text version all before (Source name file (Some rate) slack tags) (j.OverLimit Rate (written_value rate.value))
  high_slack : (name file : WrittenSpan) (rate : Option WrittenNumber) (slack : WrittenNumber) (tags : List WrittenTag) → 60000 < written_value slack.value
      → BreaksDeclaration text version all before (Source name file rate (Some slack) tags) (j.OverLimit Slack (written_value slack.value))
  in_tags : (name file : WrittenSpan) (rate slack : Option WrittenNumber) (earlier later : List WrittenTag) (t : WrittenTag) (fault : JobFault)
      → BreaksTag text (flat_map (kinds_in text) all) (itags_in before) earlier t fault
      → BreaksDeclaration text version all before (Source name file rate slack (earlier ++ t ∷ later)) fault
  -- only version 3 has clocks
  clock_of_older : (at : ℕ) (name : WrittenSpan) (every : WrittenNumber) (rate : Option WrittenNumber) (tag : WrittenSpan) → version ≢ 3
      → BreaksDeclaration text version all before (Clock at name every rate tag) (j.WrongShape at)
  -- its period is from 1 to 2^62
  no_period : (at : ℕ) (name : WrittenSpan) (every : WrittenNumber) (rate : Option WrittenNumber) (tag : WrittenSpan)
      → (written_value every.value < 1) ⊎ (2 ^ 62 < written_value every.value)
      → BreaksDeclaration text version all before (Clock at name every rate tag) (j.WrongShape every.at)
  high_rate_of_clock : (at : ℕ) (name : WrittenSpan) (every rate : WrittenNumber) (tag : WrittenSpan) → 1000000000 < written_value rate.value
      → BreaksDeclaration text version all before (Clock at name every (Some rate) tag) (j.OverLimit Rate (written_value rate.value))
  -- its tag is of a kind without key, item and value
  no_tick : (at : ℕ) (name : WrittenSpan) (every : WrittenNumber) (rate : Option WrittenNumber) (tag : WrittenSpan) (number : ℕ)
      (x : MeansKind text (flat_map (kinds_in text) all) tag number)
      → (x.kind.keyed || x.kind.has_item || x.kind.has_value) ≡ true
      → BreaksDeclaration text version all before (Clock at name every rate tag) (j.WrongShape tag.from)
  in_tick : (at : ℕ) (name : WrittenSpan) (every : WrittenNumber) (rate : Option WrittenNumber) (tag : WrittenSpan) (fault : JobFault)
      → BreaksTag text (flat_map (kinds_in text) all) (itags_in before) [] (alone tag) fault
      → BreaksDeclaration text version all before (Clock at name every rate tag) fault

-- ---- a written job

pub data BreaksJob (text : List ℕ) (job : WrittenJob) : JobFault → Type 0 where
  declared_twice : (at : ℕ) → IsDeclaredTwice text job.declarations at → BreaksJob text job (j.TwiceNamed at)
  -- at most 64 families, kinds, lists and sources each, and 4,096 `depends`
  too_many_families : 64 < length (flat_map (families_in text) job.declarations) → BreaksJob text job (j.OverLimit Families 65)
  too_many_kinds : 64 < length (flat_map (kinds_in text) job.declarations) → BreaksJob text job (j.OverLimit Kinds 65)
  too_many_lists : 64 < length (flat_map lists_in job.declarations) → BreaksJob text job (j.OverLimit Lists 65)
  too_many_sources : 64 < length (flat_map sources_in job.declarations) → BreaksJob text job (j.OverLimit Sources 65)
  too_many_depends : 4096 < length (flat_map depends_in job.declarations) → BreaksJob text job (j.OverLimit DependsLimit 4097)
  no_version : (head : WrittenHead) → job.head ≡ Some head → ¬ IsTrue (is_version (written_value head.version.value))
      → BreaksJob text job (j.WrongShape head.version.at)
  -- only version 3 has a number of rows at one time, and it is from 1 to 2,147,483,648
  ties_of_older : (head : WrittenHead) (ties : WrittenTies) → job.head ≡ Some head → head.ties ≡ Some ties → written_value head.version.value ≢ 3
      → BreaksJob text job (j.WrongShape ties.at)
  no_ties : (head : WrittenHead) (ties : WrittenTies) → job.head ≡ Some head → head.ties ≡ Some ties
      → (written_value ties.number.value < 1) ⊎ (2 ^ 31 < written_value ties.number.value) → BreaksJob text job (j.WrongShape ties.number.at)
  -- only version 3 has a unit, and it is `seconds`, `milliseconds` or `microseconds`
  unit_of_older : (head : WrittenHead) (unit : WrittenUnit) → job.head ≡ Some head → head.iso ≡ Some unit → written_value head.version.value ≢ 3
      → BreaksJob text job (j.WrongShape unit.at)
  no_unit : (head : WrittenHead) (unit : WrittenUnit) → job.head ≡ Some head → head.iso ≡ Some unit → ((u : TimeUnit) → name_of text unit.name ≢ unit_name u)
      → BreaksJob text job (j.WrongShape unit.name.from)
  in_declaration : (version : ℕ) (before : Declarations) (x : Declaration) (after : Declarations) (fault : JobFault) → MeansVersion job.head version
      → job.declarations ≡ before ++ x ∷ after → BreaksDeclaration text version job.declarations before x fault → BreaksJob text job fault

-- ---- a job text

-- what a fault says of the bytes in which it is found
pub data IsFaultOf (bytes : List ℕ) : JobFault → Type 0 where
  too_many_bytes : 1048576 < length bytes → IsFaultOf bytes (j.OverLimit Bytes 1048577)
  not_utf8 : length bytes ≤ 1048576 → ¬ IsUtf8 bytes → IsFaultOf bytes (j.BadUtf8 (utf8_valid_len bytes))
  no_token : (at : ℕ) → IsShortText bytes → IsFirstBadPlace bytes at → IsFaultOf bytes (j.BadToken at)
  not_continued : (at : ℕ) → IsNotContinued bytes at → IsFaultOf bytes (j.Unexpected at)
  -- a token that may follow opens the 65th parenthesis or unary operator
  too_deep : OpensTooMany bytes → IsFaultOf bytes (j.OverLimit Nesting 65)
  of_written : (tokens : List Token) (job : WrittenJob) (fault : JobFault) → IsShortText bytes → AreTokens bytes tokens → IsJob tokens job
      → BreaksJob bytes job fault → IsFaultOf bytes fault

-- each fault of a job text is one by its rule
abbrev pub FaultsAreByRule : Type 0
FaultsAreByRule = (bytes : List ℕ) (fault : JobFault) → job_in bytes ≡ Err fault → IsFaultOf bytes fault
