-- What a job text is, and which job it means: tokens, a job that is written by the grammar, and what each of its declarations says.
use Rattle.std.specs.Prelude.{◌≡◌, ◌≤◌, ◌^◌, ℕ, List, map, length, Option, Some, None, slice_get, IsTrue}
use Rattle.std.specs.List.{flat_map, filter_map, list_all}
use Rattle.flu_lemmas.specs.Items.{Pairs}
use Rattle.flu_model.specs.declared.jobs.Family.{Family}
use Rattle.flu_model.specs.Contents.{key_count}
use Rattle.flu_model.specs.Erasure.{PlainKind, Job}
use Rattle.flu_model.specs.Listing.{itags_of_sources}
use Rattle.flu_model.specs.ListRules.{is_listed_text}
use Rattle.flu_model.specs.Numberings.{Numbering}
use Rattle.flu_model.specs.Rules.{is_version, file_of_source}
use Rattle.flu_model.specs.Texts.{Unit as TimeUnit}
use Rattle.flu_text.specs.declared.words.Token.{Token}
use Rattle.flu_text.specs.Grammar.{AreTokens}
use Rattle.flu_syntax.specs.declared.tree.WrittenBy.{WrittenBy}
use Rattle.flu_syntax.specs.declared.tree.WrittenTies.{WrittenTies}
use Rattle.flu_syntax.specs.declared.tree.WrittenUnit.{WrittenUnit}
use Rattle.flu_syntax.specs.declared.tree.WrittenHead.{WrittenHead}
use Rattle.flu_syntax.specs.Tree.{Job as WrittenJob, Declaration, Declarations}
use Rattle.flu_syntax.specs.Grammar.{IsJob}
use Rattle.flu_layout.specs.Spelling.{name_of, inside, written_value}
use Rattle.flu_parse.specs.Printing.{unit_name}
use Rattle.flu_grammar.specs.Means.{AllDiffer, IfWritten, IsNamed}
use Rattle.flu_grammar.specs.Texts.{IsShortText}
use Rattle.flu_grammar.specs.Actions.{MeansAction}
use Rattle.flu_grammar.specs.Declared.{DeclaredKind, WrittenNames, under_kind, IsDeclaredIn, names_in, lists_in, list_names, families_in, family_lists_in}
use Rattle.flu_grammar.specs.Declared.{kinds_in, kind_lists_in, depends_in, ons_in, actions_in, sources_in}
use Rattle.flu_grammar.specs.Sources.{MeansDepend, MeansFeed}

-- version 1, 2 or 3, and 1 if none is written
abbrev pub MeansVersion : Option WrittenHead → ℕ → Type 0
MeansVersion None version = version ≡ 1
MeansVersion (Some head) version = (version ≡ written_value head.version.value) × IsTrue (is_version version)

-- a number from 1 to 2,147,483,648, in version 3 only, and 1 if none is written
abbrev pub MeansTies : ℕ → Option WrittenTies → ℕ → Type 0
MeansTies version None ties = ties ≡ 1
MeansTies version (Some written) ties = (version ≡ 3) × (ties ≡ written_value written.number.value) × (1 ≤ ties) × (ties ≤ 2 ^ 31)

abbrev pub MeansCount : ℕ → Option WrittenHead → ℕ → Type 0
MeansCount version None ties = ties ≡ 1
MeansCount version (Some head) ties = MeansTies version head.ties ties

-- `seconds`, `milliseconds` or `microseconds`, in version 3 only, and none if none is written
abbrev pub MeansUnit : List ℕ → ℕ → Option WrittenUnit → Option TimeUnit → Type 0
MeansUnit text version None iso = iso ≡ None
MeansUnit text version (Some written) None = ⊥
MeansUnit text version (Some written) (Some unit) = (version ≡ 3) × (name_of text written.name ≡ unit_name unit)

abbrev pub MeansIso : List ℕ → ℕ → Option WrittenHead → Option TimeUnit → Type 0
MeansIso text version None iso = iso ≡ None
MeansIso text version (Some head) iso = MeansUnit text version head.iso iso

-- ---- lists of names

-- a written list is this one, whose texts are all such as a list may have, each of another name
pub record MeansNames (text : List ℕ) (written : WrittenNames) (list : Numbering) : Type 0 where
  pub name : list.name ≡ name_of text written.name
  pub texts : list.texts ≡ map (inside text) written.texts
  pub allowed : IsTrue (list_all is_listed_text list.texts)
  pub differ : AllDiffer list.texts
  pub few : length list.texts ≤ key_count

-- the list of this number, among those of these names, is the one that is written
abbrev pub MeansList : List ℕ → List (List ℕ) → WrittenBy → ℕ → Type 0
MeansList text names by number = slice_get names number ≡ Some (name_of text by.list)

-- a family but for the list that names its keys
abbrev pub without_list : Family → Family
without_list f = record { name = f.name; keyed = f.keyed; list = None; sort = f.sort }

-- ---- the whole

-- A declared kind is the job's kind of its name, with the actions of its `on`, in their order, if it has one.
pub record MeansDeclaredKind (text : List ℕ) (version : ℕ) (families : List Family) (declarations : Declarations) (declared : DeclaredKind) (kind : PlainKind)
    : Type 0 where
  pub name : kind.name ≡ declared.name
  pub keyed : kind.keyed ≡ declared.keyed
  pub has_item : kind.has_item ≡ declared.has_item
  pub has_value : kind.has_value ≡ declared.has_value
  pub actions : Pairs (MeansAction text families (under_kind version declared)) (flat_map (actions_in text declared.name) declarations) kind.actions
  pub few_actions : length kind.actions ≤ 32

-- The declarations mean these parts of a job, each in the order of the text. Each is one that the version has. All names differ, each
-- `on` is of a declared kind and no two are of the same one, and no two sources read the same file.
pub record MeansJob (text : List ℕ) (written : WrittenJob) (job : Job) : Type 0 where
  pub version : MeansVersion written.head job.version
  pub ties : MeansCount job.version written.head job.ties
  pub iso : MeansIso text job.version written.head job.iso
  pub allowed : (i : ℕ) (x : Declaration) → slice_get written.declarations i ≡ Some x → IsDeclaredIn text job.version x
  pub own_names : AllDiffer (flat_map (names_in text) written.declarations)
  pub lists : Pairs (MeansNames text) (flat_map lists_in written.declarations) job.lists
  pub families : map without_list job.families ≡ flat_map (families_in text) written.declarations
  pub family_lists : Pairs (IfWritten (MeansList text (list_names text written.declarations))) (flat_map family_lists_in written.declarations)
      (map (λ (f : Family). f.list) job.families)
  pub kinds : Pairs (MeansDeclaredKind text job.version (flat_map (families_in text) written.declarations) written.declarations)
      (flat_map (kinds_in text) written.declarations) job.kinds
  pub kind_lists : Pairs (IfWritten (MeansList text (list_names text written.declarations))) (flat_map kind_lists_in written.declarations)
      (map (λ (k : PlainKind). k.list) job.kinds)
  pub known_ons : (i : ℕ) (name : List ℕ) → slice_get (flat_map (ons_in text) written.declarations) i ≡ Some name
      → (number : ℕ) × IsNamed (λ (k : DeclaredKind). k.name) (flat_map (kinds_in text) written.declarations) name number
  pub own_ons : AllDiffer (flat_map (ons_in text) written.declarations)
  pub depends : Pairs (MeansDepend text (flat_map (kinds_in text) written.declarations)) (flat_map depends_in written.declarations) job.depends
  pub sources : Pairs (MeansFeed text (flat_map (kinds_in text) written.declarations)) (flat_map sources_in written.declarations) job.sources
  pub own_files : AllDiffer (filter_map file_of_source job.sources)
  pub few_lists : length job.lists ≤ 64
  pub few_families : length job.families ≤ 64
  pub few_kinds : length job.kinds ≤ 64
  pub few_depends : length job.depends ≤ 4096
  pub few_sources : length job.sources ≤ 64
  pub few_itags : length (itags_of_sources 0 job.sources) ≤ 256

-- The bytes are the text of this job.
pub record IsJobText (bytes : List ℕ) (job : Job) : Type 0 where
  pub text : IsShortText bytes
  pub tokens : List Token
  pub cut : AreTokens bytes tokens
  pub written : WrittenJob
  pub grammar : IsJob tokens written
  pub means : MeansJob bytes written job
