-- What some faults of the readers say, by the rules that they break.
use Rattle.std.specs.Prelude.{◌≡◌, ◌≢◌, ◌<◌, ◌≤◌, ◌↔◌, ℕ, length, List, [], ◌∷◌, ◌++◌, map, Ok, Err, Some, slice_get}
use Rattle.std.specs.List.{flat_map}
use Rattle.std.specs.Str.{IsUtf8}
use Rattle.std.specs.Str.Lossy.{utf8_valid_len}
use Rattle.flu_model.specs.declared.limits.What.TheVariants.{Bytes, Nesting}
use Rattle.flu_text.specs.declared.words.Token.{Token}
use Rattle.flu_text.specs.Grammar.{AreTokens, IsFirstBadPlace}
use Rattle.flu_syntax.specs.Continued.{IsFirstThatCannotFollow, IsTooDeep}
use Rattle.flu_model.specs.declared.jobs.Family.{Family}
use Rattle.flu_model.specs.declared.jobs.Kind.{Kind}
use Rattle.flu_model.specs.declared.jobs.Source.{Source}
use Rattle.flu_model.specs.declared.jobs.Program.{Program}
use Rattle.flu_model.specs.declared.plans.Node.{Node}
use Rattle.flu_model.specs.Erasure.{Job}
use Rattle.flu_text.specs.declared.written.WrittenSpan.{WrittenSpan}
use Rattle.flu_syntax.specs.Tree.{Action, Declaration, Declarations, Cell, Tag, Names, Depends, On, Source as SourceLine, Clock}
use Rattle.flu_layout.specs.Spelling.{name_of, inside}
use Rattle.flu_parse.specs.declared.faults.JobFault.{JobFault}
use Rattle.flu_parse.specs.declared.faults.JobFault.TheVariants as j
use Rattle.flu_parse.specs.Naming.{Naming, in_version, naming_of, family_of, kind_of}
use Rattle.flu_parse.specs.Listings.{file_of}
use Rattle.flu_parse.specs.Resolving.{Drafted, with_on, draft_of}
use Rattle.flu_parse.specs.Reading.{job_in}
use Rattle.flu_plan.specs.declared.fault.PlanFault.{PlanFault}
use Rattle.flu_plan.specs.declared.fault.PlanFault.TheVariants as p
use Rattle.flu_plan.specs.declared.written.WrittenNode.{WrittenNode}
use Rattle.flu_plan.specs.Resolving.{names_of, kid_of, kind_of as plan_kind_of, source_of as plan_source_of}
use Rattle.flu_plan.specs.Reading.{plan_in}
use Rattle.flu_grammar.specs.Means.{AllDiffer}
use Rattle.flu_grammar.specs.Texts.{IsShortText}
use Rattle.flu_grammar.specs.Declared.{DeclaredKind, WrittenSource, OfFile, names_in, families_in, kinds_in, ons_in, sources_in}
use Rattle.flu_grammar.specs.Plans.{IsPlanText}
use Rattle.flu_grammar.specs.Jobs.{IsJobText}

-- ---- a fault, and no text

-- bytes in which a fault is found are the text of no job, and of no plan
abbrev pub RefusedIsNoJob : Type 0
RefusedIsNoJob = (bytes : List ℕ) (fault : JobFault) (job : Job) → job_in bytes ≡ Err fault → IsJobText bytes job → ⊥

abbrev pub RefusedIsNoPlan : Type 0
RefusedIsNoPlan = (program : Program) (bytes : List ℕ) (fault : PlanFault) (plan : List Node) → plan_in program bytes ≡ Err fault
    → IsPlanText program bytes plan → ⊥

-- ---- bytes, tokens and grammar

-- more bytes than a text may have
abbrev pub BytesAreTooMany : Type 0
BytesAreTooMany = (bytes : List ℕ) (count : ℕ) → (job_in bytes ≡ Err (j.OverLimit Bytes count)) ↔ ((1048576 < length bytes) × (count ≡ 1048577))

-- bytes that are few enough and not UTF-8, with the place of the first sequence that is not
abbrev pub BytesAreNotUtf8 : Type 0
BytesAreNotUtf8 =
    (bytes : List ℕ) (at : ℕ) → (job_in bytes ≡ Err (j.BadUtf8 at)) ↔ ((length bytes ≤ 1048576) × (IsUtf8 bytes → ⊥) × (at ≡ utf8_valid_len bytes))

-- a text in which tokens lead to a place where none begins
abbrev pub NoTokenBegins : Type 0
NoTokenBegins = (bytes : List ℕ) (at : ℕ) → (job_in bytes ≡ Err (j.BadToken at)) ↔ (IsShortText bytes × IsFirstBadPlace bytes at)

-- a text of tokens, with the place of the first one with which those before it can no longer be continued to a job
pub record IsNotContinued (bytes : List ℕ) (at : ℕ) : Type 0 where
  pub text : IsShortText bytes
  pub tokens : List Token
  pub cut : AreTokens bytes tokens
  pub first : IsFirstThatCannotFollow (length bytes) tokens at

abbrev pub UnexpectedIsNotContinued : Type 0
UnexpectedIsNotContinued = (bytes : List ℕ) (at : ℕ) → (job_in bytes ≡ Err (j.Unexpected at)) ↔ IsNotContinued bytes at

-- a text of tokens, one of which may follow and opens the 65th parenthesis or unary operator
pub record OpensTooMany (bytes : List ℕ) : Type 0 where
  pub text : IsShortText bytes
  pub tokens : List Token
  pub cut : AreTokens bytes tokens
  pub deep : IsTooDeep tokens

abbrev pub TooManyAreOpen : Type 0
TooManyAreOpen = (bytes : List ℕ) (count : ℕ) → (job_in bytes ≡ Err (j.OverLimit Nesting count)) ↔ (OpensTooMany bytes × (count ≡ 65))

-- ---- unknown names

-- nothing has the name
abbrev pub NoneIsNamed : {X : Type 0} → (X → List ℕ) → List X → List ℕ → Type 0
NoneIsNamed {X} name_in xs name = (i : ℕ) (x : X) → slice_get xs i ≡ Some x → name_in x ≢ name

-- the place is the place of the written name, and nothing has it
pub record IsUnknown {X : Type 0} (name_in : X → List ℕ) (xs : List X) (text : List ℕ) (s : WrittenSpan) (at : ℕ) : Type 0 where
  pub here : at ≡ s.from
  pub unknown : NoneIsNamed name_in xs (name_of text s)

-- a family, or a kind, that is unknown is declared nowhere in the job
abbrev pub FamilyIsUnknown : Type 0
FamilyIsUnknown =
    (text : List ℕ) (ds : Declarations) (n : Naming) (s : WrittenSpan) (at : ℕ) → naming_of text ds ≡ Ok n → family_of text n s ≡ Err (j.UnknownName at)
    → IsUnknown (λ (x : Family). x.name) (flat_map (families_in text) ds) text s at

abbrev pub KindIsUnknown : Type 0
KindIsUnknown =
    (text : List ℕ) (ds : Declarations) (n : Naming) (s : WrittenSpan) (at : ℕ) → naming_of text ds ≡ Ok n → kind_of text n s ≡ Err (j.UnknownName at)
    → IsUnknown (λ (x : DeclaredKind). x.name) (flat_map (kinds_in text) ds) text s at

-- and in a plan a kind or a source that is unknown is none of the job's, and a child none of the nodes
abbrev pub PlanKindIsUnknown : Type 0
PlanKindIsUnknown =
    (program : Program) (text : List ℕ) (s : WrittenSpan) (at : ℕ) → plan_kind_of program text (Some s) ≡ Err (p.UnknownName at)
    → IsUnknown (λ (x : Kind). x.name) program.kinds text s at

abbrev pub PlanSourceIsUnknown : Type 0
PlanSourceIsUnknown =
    (program : Program) (text : List ℕ) (s : WrittenSpan) (at : ℕ) → plan_source_of program text (Some s) ≡ Err (p.UnknownName at)
    → IsUnknown (λ (x : Source). x.name) program.sources text s at

abbrev pub ChildIsUnknown : Type 0
ChildIsUnknown =
    (text : List ℕ) (names : List (List ℕ)) (s : WrittenSpan) (at : ℕ) → kid_of text names s ≡ Err (p.UnknownName at)
    → IsUnknown (λ (x : List ℕ). x) names text s at

-- ---- names that are declared twice

-- the written name that a declaration gives
abbrev pub spans_in : Declaration → List WrittenSpan
spans_in (Cell name cells sort) = name ∷ []
spans_in (Tag name keyed item has_value) = name ∷ []
spans_in (Names at name texts) = name ∷ []
spans_in (Depends a b relation) = []
spans_in (On kind actions) = []
spans_in (SourceLine name file rate slack tags) = name ∷ []
spans_in (Clock at name every rate tag) = name ∷ []

-- The declaration of this name at this place is the first that gives a name which an earlier one gives.
pub record IsDeclaredTwice (text : List ℕ) (ds : Declarations) (at : ℕ) : Type 0 where
  pub before : Declarations
  pub again : Declaration
  pub after : Declarations
  pub is : ds ≡ before ++ again ∷ after
  pub name : WrittenSpan
  pub named : spans_in again ≡ name ∷ []
  pub here : at ≡ name.from
  pub first : AllDiffer (flat_map (names_in text) before)
  pub place : ℕ
  pub earlier : slice_get (flat_map (names_in text) before) place ≡ Some (name_of text name)

abbrev pub TwiceNamedIsDeclaredTwice : Type 0
TwiceNamedIsDeclaredTwice = (text : List ℕ) (ds : Declarations) (at : ℕ) → naming_of text ds ≡ Err (j.TwiceNamed at) → IsDeclaredTwice text ds at

-- An `on` of this kind at this place, with an `on` of the same kind among the declarations before it.
pub record IsOnTwice (text : List ℕ) (before : Declarations) (kind : WrittenSpan) (at : ℕ) : Type 0 where
  pub here : at ≡ kind.from
  pub place : ℕ
  pub earlier : slice_get (flat_map (ons_in text) before) place ≡ Some (name_of text kind)

abbrev pub TwiceNamedIsOnTwice : Type 0
TwiceNamedIsOnTwice =
    (text : List ℕ) (ds before : Declarations) (n : Naming) (version : ℕ) (x : Drafted) (kind : WrittenSpan) (actions : List Action) (at : ℕ)
    → naming_of text ds ≡ Ok n → draft_of text (in_version n version) before ≡ Ok x
    → with_on text (in_version n version) x kind actions ≡ Err (j.TwiceNamed at) → IsOnTwice text before kind at

-- This file text at this place, with a source before it that has the same.
pub record IsFileTwice (text : List ℕ) (before : Declarations) (file : WrittenSpan) (at : ℕ) : Type 0 where
  pub here : at ≡ file.from
  pub place : ℕ
  pub source : WrittenSource
  pub earlier : slice_get (flat_map sources_in before) place ≡ Some (OfFile source)
  pub same : inside text source.file ≡ inside text file

abbrev pub TwiceNamedIsFileTwice : Type 0
TwiceNamedIsFileTwice =
    (text : List ℕ) (ds before : Declarations) (n : Naming) (version : ℕ) (x : Drafted) (file : WrittenSpan) (at : ℕ) → naming_of text ds ≡ Ok n
    → draft_of text (in_version n version) before ≡ Ok x → file_of text x.sources file ≡ Err (j.TwiceNamed at) → IsFileTwice text before file at

-- This node is the first that has the name of an earlier one.
pub record IsNodeTwice (text : List ℕ) (nodes : List WrittenNode) (name : List ℕ) : Type 0 where
  pub before : List WrittenNode
  pub again : WrittenNode
  pub after : List WrittenNode
  pub is : nodes ≡ before ++ again ∷ after
  pub named : name ≡ name_of text again.name
  pub first : AllDiffer (map (λ (w : WrittenNode). name_of text w.name) before)
  pub place : ℕ
  pub earlier : slice_get (map (λ (w : WrittenNode). name_of text w.name) before) place ≡ Some name

abbrev pub NoTreeIsNodeTwice : Type 0
NoTreeIsNodeTwice = (text : List ℕ) (nodes : List WrittenNode) (name : List ℕ) → names_of text nodes ≡ Err (p.NotATree name) → IsNodeTwice text nodes name
