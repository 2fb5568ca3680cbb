-- The job of a text is read exactly where the text is that job's.
use Rattle.std.proofs.Common.{◌≡◌, ◌⊎◌, inl, inr, ℕ, zero, suc, ◌+◌, List, [], ◌∷◌, ◌++◌, map, length}
use Rattle.std.proofs.Common.{Option, Some, None, Ok, Err, refl, sym, ap, subst, ◌∙◌, length-append, arith}
use Rattle.std.specs.Prelude.{nat_le, slice_get, is_some}
use Rattle.std.specs.List.{flat_map}
use Rattle.std.specs.Str.{is_utf8}
use Rattle.std.specs.Str.Lossy.{utf8_valid_len}
use Rattle.std.proofs.lemmas.List.{length-map}
use Rattle.std.proofs.lemmas.Str.{IsUtf8-from_is_utf8, is_utf8-from_IsUtf8}
use Rattle.flu_lemmas.specs.Items.{Pairs}
use Rattle.flu_lemmas.specs.Totals.{total}
use Rattle.flu_lemmas.proofs.Loops.{bind_ok}
use Rattle.flu_lemmas.proofs.Tests.{true_le, le_true}
use Rattle.flu_model.specs.declared.limits.What.TheVariants.{Bytes}
use Rattle.flu_model.specs.declared.jobs.Family.{Family}
use Rattle.flu_model.specs.declared.jobs.TagRef.{TagRef}
use Rattle.flu_model.specs.declared.jobs.Source.{Source}
use Rattle.flu_model.specs.declared.events.Tag.{Tag}
use Rattle.flu_model.specs.Erasure.{PlainKind, Job}
use Rattle.flu_model.specs.Listing.{tag, listed_keys, listed_tags, tags_of_source, itags_of_sources}
use Rattle.flu_model.specs.Rules.{is_version}
use Rattle.flu_model.specs.Texts.{Unit as TimeUnit}
use Rattle.flu_text.specs.declared.words.Token.{Token}
use Rattle.flu_syntax.specs.declared.tree.WrittenHead.{WrittenHead}
use Rattle.flu_text.specs.Reading.{reading, Reading as TokenReading}
use Rattle.flu_text.specs.Laws.{ReadingIsTokens}
use Rattle.flu_syntax.specs.Tree.{Declaration, Declarations, Job as WrittenJob}
use Rattle.flu_syntax.specs.Tree as d
use Rattle.flu_syntax.specs.Laws.{FoundIsJob}
use Rattle.flu_syntax.specs.Machine.{Verdict, verdict, Found as IsVerdict, Unexpected, TooDeep}
use Rattle.flu_layout.specs.Spelling.{name_of, written_value}
use Rattle.flu_parse.specs.declared.faults.JobFault.TheVariants as f
use Rattle.flu_parse.specs.Faults.{Found, ◌>>=◌}
use Rattle.flu_parse.specs.Lists.{listed_families, listed_kinds}
use Rattle.flu_parse.specs.Naming.{Naming, in_version, has_keys, family, naming_of}
use Rattle.flu_parse.specs.Resolving.{draft_of, version_of, ties_of, iso_of, job_with, resolved}
use Rattle.flu_parse.specs.Reading.{text_in, found_tokens, tokens_in, found_job, written_in, job_in}
use Rattle.flu_grammar.specs.Means.{AllDiffer, IfWritten}
use Rattle.flu_grammar.specs.Cells.{family_name}
use Rattle.flu_grammar.specs.Declared.{DeclaredKind, WrittenNames, names_in, families_in, kinds_in, depends_in, ons_in, sources_in, lists_in, list_names}
use Rattle.flu_grammar.specs.Declared.{family_lists_in, kind_lists_in}
use Rattle.flu_grammar.specs.Sources.{MeansDepend, MeansFeed}
use Rattle.flu_grammar.specs.Jobs.{MeansVersion, MeansNames, MeansList, without_list, MeansDeclaredKind, MeansJob, IsJobText}
use Rattle.flu_grammar.specs.Laws.{JobsAreGrammar, TextsHaveOneJob}
use Rattle.flu_grammar.proofs.Lists.{differ_none, differ_cons, differ_tail, differ_head, get_behind, pairs_left, pairs_length}
use Rattle.flu_grammar.proofs.Looks.{ok_same, ok_ok, passed, passes, binds}
use Rattle.flu_grammar.proofs.JobCells.{families_back, KnowFamilies}
use Rattle.flu_grammar.proofs.JobNames.{kind_name, all_names, all_families, all_kinds, source_names_in, list_names_in, lists_named, Named, OwnNames}
use Rattle.flu_grammar.proofs.JobNames.{naming_is, naming_found}
use Rattle.flu_grammar.proofs.JobLists.{family_list, families_listed, families_kept, families_again, kind_list, kinds_listed, kinds_so, as_many_kinds}
use Rattle.flu_grammar.proofs.JobLists.{kinds_again}
use Rattle.flu_grammar.proofs.JobSources.{KnowKinds, part_count}
use Rattle.flu_grammar.proofs.JobDrafts.{itag_count, drafts_are}
use Rattle.flu_grammar.proofs.JobFound.{Parts, Aim, drafted}
use Rattle.flu_grammar.proofs.Ties.{ties_is, ties_found}
use Rattle.flu_grammar.proofs.Units.{iso_is, iso_found}

-- ---- the names of families and of kinds are among all

module _ (text : List ℕ) {X : Type 0} (name : X → List ℕ) (g : Declaration → List X) where
  -- a declaration gives nothing of a sort, or one thing of its name
  abbrev GivesOne : Declaration → Type 0
  GivesOne y = (g y ≡ []) ⊎ ((x : X) × (g y ≡ x ∷ []) × (names_in text y ≡ name x ∷ []))

  -- what stands among the names of more declarations
  abbrev Stands : Declarations → List ℕ → Type 0
  Stands ds s = (j : ℕ) × (slice_get (flat_map (names_in text) ds) j ≡ Some s)

  stands_later : (y : Declaration) (ds : Declarations) (s : List ℕ) → Stands ds s → Stands (y ∷ ds) s
  stands_later y ds s more = (length (names_in text y) + more.0, get_behind (names_in text y) (flat_map (names_in text) ds) more.0 s more.1)

  stands_at : (y : Declaration) (ds : Declarations) (s : List ℕ) (x : X) → names_in text y ≡ name x ∷ []
      → ((i : ℕ) → slice_get (map name (flat_map g ds)) i ≡ Some s → Stands ds s) → (i : ℕ) → slice_get (name x ∷ map name (flat_map g ds)) i ≡ Some s
      → Stands (y ∷ ds) s
  stands_at y ds s x is more zero e = (0, ap (λ (l : List (List ℕ)). slice_get (l ++ flat_map (names_in text) ds) 0) is ∙ e)
  stands_at y ds s x is more (suc i) e = stands_later y ds s (more i e)

  stands_in : (y : Declaration) (ds : Declarations) (s : List ℕ) → GivesOne y → ((i : ℕ) → slice_get (map name (flat_map g ds)) i ≡ Some s → Stands ds s)
      → (i : ℕ) → slice_get (map name (g y ++ flat_map g ds)) i ≡ Some s → Stands (y ∷ ds) s
  stands_in y ds s (inl none) more i e = stands_later y ds s (more i (sym (ap (λ (l : List X). slice_get (map name (l ++ flat_map g ds)) i) none) ∙ e))
  stands_in y ds s (inr one) more i e =
      stands_at y ds s one.0 one.2 more i (sym (ap (λ (l : List X). slice_get (map name (l ++ flat_map g ds)) i) one.1) ∙ e)

  among : ((y : Declaration) → GivesOne y) → (ds : Declarations) (i : ℕ) (s : List ℕ) → slice_get (map name (flat_map g ds)) i ≡ Some s → Stands ds s
  among gives [] i s e = absurd cc
  among gives (y ∷ ds) i s e = stands_in y ds s (gives y) (λ k at. among gives ds k s at) i e

  behind_names : (xs : List (List ℕ)) (ds : Declarations) → AllDiffer (xs ++ flat_map (names_in text) ds) → AllDiffer (flat_map (names_in text) ds)
  behind_names [] ds own = own
  behind_names (x ∷ xs) ds own = behind_names xs ds (differ_tail x (xs ++ flat_map (names_in text) ds) own)

  differ_in : (y : Declaration) (ds : Declarations) → GivesOne y → AllDiffer (flat_map (names_in text) (y ∷ ds)) → AllDiffer (map name (flat_map g ds))
      → ((i : ℕ) (s : List ℕ) → slice_get (map name (flat_map g ds)) i ≡ Some s → Stands ds s) → AllDiffer (map name (flat_map g (y ∷ ds)))
  differ_in y ds (inl none) own rest stands = subst (λ (l : List X). AllDiffer (map name (l ++ flat_map g ds))) (sym none) rest
  differ_in y ds (inr one) own rest stands =
      let whole : AllDiffer (name one.0 ∷ flat_map (names_in text) ds) =
      subst (λ (l : List (List ℕ)). AllDiffer (l ++ flat_map (names_in text) ds)) one.2 own in
      subst (λ (l : List X). AllDiffer (map name (l ++ flat_map g ds))) (sym one.1)
      (differ_cons (name one.0) (map name (flat_map g ds)) (λ i e. (
      let there = stands i (name one.0) e in differ_head (name one.0) (flat_map (names_in text) ds) whole there.0 there.1)) rest)

  among_differ : ((y : Declaration) → GivesOne y) → (ds : Declarations) → AllDiffer (flat_map (names_in text) ds) → AllDiffer (map name (flat_map g ds))
  among_differ gives [] own = differ_none
  among_differ gives (y ∷ ds) own =
      differ_in y ds (gives y) own (among_differ gives ds (behind_names (names_in text y) ds own)) (λ i s e. among gives ds i s e)

families_one : (text : List ℕ) (y : Declaration) → GivesOne text family_name (families_in text) y
families_one text (d.Cell s cells sort) = inr (record { name = name_of text s; keyed = has_keys cells; list = None; sort = sort }, refl, refl)
families_one text (d.Tag s keyed item has_value) = inl refl
families_one text (d.Names at s texts) = inl refl
families_one text (d.Depends a b relation) = inl refl
families_one text (d.On kind actions) = inl refl
families_one text (d.Source s file rate slack tags) = inl refl
families_one text (d.Clock at s every rate tag) = inl refl

kinds_one : (text : List ℕ) (y : Declaration) → GivesOne text kind_name (kinds_in text) y
kinds_one text (d.Cell s cells sort) = inl refl
kinds_one text (d.Tag s keyed item has_value) =
    inr (record { name = name_of text s; keyed = keyed; has_item = is_some item; has_value = has_value }, refl, refl)
kinds_one text (d.Names at s texts) = inl refl
kinds_one text (d.Depends a b relation) = inl refl
kinds_one text (d.On kind actions) = inl refl
kinds_one text (d.Source s file rate slack tags) = inl refl
kinds_one text (d.Clock at s every rate tag) = inl refl

lists_one : (text : List ℕ) (y : Declaration) → GivesOne text (λ (l : WrittenNames). name_of text l.name) lists_in y
lists_one text (d.Cell s cells sort) = inl refl
lists_one text (d.Tag s keyed item has_value) = inl refl
lists_one text (d.Names at s texts) = inr (record { name = s; texts = texts }, refl, refl)
lists_one text (d.Depends a b relation) = inl refl
lists_one text (d.On kind actions) = inl refl
lists_one text (d.Source s file rate slack tags) = inl refl
lists_one text (d.Clock at s every rate tag) = inl refl

-- no list is said of a family where it is declared
without_lists : (text : List ℕ) (ds : Declarations) → map without_list (all_families text ds) ≡ all_families text ds
without_lists text [] = refl
without_lists text (d.Cell s cells sort ∷ ds) =
    ap (λ (l : List Family). record { name = name_of text s; keyed = has_keys cells; list = None; sort = sort } ∷ l) (without_lists text ds)
without_lists text (d.Tag s keyed item has_value ∷ ds) = without_lists text ds
without_lists text (d.Names at s texts ∷ ds) = without_lists text ds
without_lists text (d.Depends a b relation ∷ ds) = without_lists text ds
without_lists text (d.On kind actions ∷ ds) = without_lists text ds
without_lists text (d.Source s file rate slack tags ∷ ds) = without_lists text ds
without_lists text (d.Clock at s every rate tag ∷ ds) = without_lists text ds

pub know_families : (text : List ℕ) (ds : Declarations) (n : Naming) → Named text ds n → AllDiffer (all_names text ds) → KnowFamilies n (all_families text ds)
know_families text ds n named own = record {
  heads_are = named.families;
  differ = among_differ text family_name (families_in text) (families_one text) ds own;
  without = without_lists text ds;
}

pub kinds_differ : (text : List ℕ) (ds : Declarations) → AllDiffer (all_names text ds) → AllDiffer (map kind_name (all_kinds text ds))
kinds_differ text ds own = among_differ text kind_name (kinds_in text) (kinds_one text) ds own

-- the same names with a version
pub families_in_version : (n : Naming) (version : ℕ) (families : List Family) → KnowFamilies n families → KnowFamilies (in_version n version) families
families_in_version n version families know = record { heads_are = know.heads_are; differ = know.differ; without = know.without }

lists_differ : (text : List ℕ) (ds : Declarations) → AllDiffer (all_names text ds) → AllDiffer (list_names text ds)
lists_differ text ds own = among_differ text (λ (l : WrittenNames). name_of text l.name) lists_in (lists_one text) ds own

pub kinds_in_version : (n : Naming) (version : ℕ) (kinds : List DeclaredKind) → KnowKinds n kinds → KnowKinds (in_version n version) kinds
kinds_in_version n version kinds know = record { heads_are = know.heads_are; differ = know.differ }

pub know_kinds : (text : List ℕ) (ds : Declarations) (n : Naming) → Named text ds n → AllDiffer (all_names text ds) → KnowKinds n (all_kinds text ds)
know_kinds text ds n named own = record { heads_are = named.kinds; differ = kinds_differ text ds own }

-- ---- parts of a job

pub as_many_sources : (text : List ℕ) (ds : Declarations) → length (flat_map (source_names_in text) ds) ≡ length (flat_map sources_in ds)
as_many_sources text [] = refl
as_many_sources text (d.Cell s cells sort ∷ ds) = as_many_sources text ds
as_many_sources text (d.Tag s keyed item has_value ∷ ds) = as_many_sources text ds
as_many_sources text (d.Names at s texts ∷ ds) = as_many_sources text ds
as_many_sources text (d.Depends a b relation ∷ ds) = as_many_sources text ds
as_many_sources text (d.On kind actions ∷ ds) = as_many_sources text ds
as_many_sources text (d.Source s file rate slack tags ∷ ds) = ap (λ (m : ℕ). suc m) (as_many_sources text ds)
as_many_sources text (d.Clock at s every rate tag ∷ ds) = ap (λ (m : ℕ). suc m) (as_many_sources text ds)

pub as_many_lists : (text : List ℕ) (ds : Declarations) → length (flat_map (list_names_in text) ds) ≡ length (flat_map lists_in ds)
as_many_lists text ds = ap length (lists_named text ds) ∙ length-map (flat_map lists_in ds) (λ (l : WrittenNames). name_of text l.name)

-- each family, and each kind, has a list or has none
as_many_families : (text : List ℕ) (ds : Declarations) → length (flat_map family_lists_in ds) ≡ length (all_families text ds)
as_many_families text [] = refl
as_many_families text (d.Cell s cells sort ∷ ds) = ap (λ (m : ℕ). suc m) (as_many_families text ds)
as_many_families text (d.Tag s keyed item has_value ∷ ds) = as_many_families text ds
as_many_families text (d.Names at s texts ∷ ds) = as_many_families text ds
as_many_families text (d.Depends a b relation ∷ ds) = as_many_families text ds
as_many_families text (d.On kind actions ∷ ds) = as_many_families text ds
as_many_families text (d.Source s file rate slack tags ∷ ds) = as_many_families text ds
as_many_families text (d.Clock at s every rate tag ∷ ds) = as_many_families text ds

as_many_kinds_declared : (text : List ℕ) (ds : Declarations) → length (flat_map kind_lists_in ds) ≡ length (all_kinds text ds)
as_many_kinds_declared text [] = refl
as_many_kinds_declared text (d.Cell s cells sort ∷ ds) = as_many_kinds_declared text ds
as_many_kinds_declared text (d.Tag s keyed item has_value ∷ ds) = ap (λ (m : ℕ). suc m) (as_many_kinds_declared text ds)
as_many_kinds_declared text (d.Names at s texts ∷ ds) = as_many_kinds_declared text ds
as_many_kinds_declared text (d.Depends a b relation ∷ ds) = as_many_kinds_declared text ds
as_many_kinds_declared text (d.On kind actions ∷ ds) = as_many_kinds_declared text ds
as_many_kinds_declared text (d.Source s file rate slack tags ∷ ds) = as_many_kinds_declared text ds
as_many_kinds_declared text (d.Clock at s every rate tag ∷ ds) = as_many_kinds_declared text ds

-- what a declared kind is does not depend on the list that names its items
kind_with : (text : List ℕ) (version : ℕ) (families : List Family) (ds : Declarations) (declared : DeclaredKind) (k : PlainKind) (l : Option ℕ)
    → MeansDeclaredKind text version families ds declared k → MeansDeclaredKind text version families ds declared (record k { list = l })
kind_with text version families ds declared k l is = record {
  name = is.name;
  keyed = is.keyed;
  has_item = is.has_item;
  has_value = is.has_value;
  actions = is.actions;
  few_actions = is.few_actions;
}

tags_counted : (ts : List TagRef) → length (flat_map listed_tags ts) ≡ total part_count ts
tags_counted [] = refl
tags_counted (t ∷ ts) =
    let one = length-append (listed_tags t) (flat_map listed_tags ts) in
    let two = length-map (listed_keys t.keys) (λ (k : ℕ). tag t.kind k) in
    let more = tags_counted ts in
    omega (arith, one, two, more)

itags_counted : (i : ℕ) (ss : List Source) → length (itags_of_sources i ss) ≡ itag_count ss
itags_counted i [] = refl
itags_counted i (s ∷ ss) =
    let pair : Tag → Tag × ℕ = λ t. (t, i) in
    let one = length-append (map pair (tags_of_source s)) (itags_of_sources (i + 1) ss) in
    let two = length-map (tags_of_source s) pair in
    let tags = tags_counted s.tags in
    let more = itags_counted (i + 1) ss in
    omega (arith, one, two, tags, more)

pub version_is : (o : Option WrittenHead) (v : ℕ) → version_of o ≡ Ok v → MeansVersion o v
version_is None v e = sym (ok_same 1 v e)
version_is (Some head) v e =
    let value = written_value head.version.value in
    let one = passed (is_version value) (f.WrongShape head.version.at) (Ok value) v e in
    let same : value ≡ v = ok_same value v one.1 in
    (sym same, ap is_version (sym same) ∙ one.0)

version_found : (o : Option WrittenHead) (v : ℕ) → MeansVersion o v → version_of o ≡ Ok v
version_found None v h = ok_ok 1 v (sym h)
version_found (Some head) v h =
    let value = written_value head.version.value in
    passes (is_version value) (f.WrongShape head.version.at) (Ok value) v (ap is_version (sym h.0) ∙ h.1) (ok_ok value v (sym h.0))

-- ---- the meaning

job_means : (text : List ℕ) (written : WrittenJob) (job : Job) → resolved text written ≡ Ok job → MeansJob text written job
unfolding resolved
job_means text written job e =
    let ds = written.declarations in
    let drafted_in = λ (n : Naming) (version ties : ℕ) (iso : Option TimeUnit). draft_of text (in_version n version) ds >>= λ x. let r : Found Job = Ok
    (job_with ties iso (in_version n version) x) in r in
    let with_unit = λ (n : Naming) (version ties : ℕ). iso_of text version written.head >>= λ iso. drafted_in n version ties iso in
    let with_ties = λ (n : Naming) (version : ℕ). ties_of version written.head >>= λ ties. with_unit n version ties in
    let one = bind_ok (naming_of text ds) (λ n. version_of written.head >>= λ version. with_ties n version) job e in
    let n = one.0 in
    let two = bind_ok (version_of written.head) (λ version. with_ties n version) job one.2 in
    let m = in_version n two.0 in
    let count = bind_ok (ties_of two.0 written.head) (λ ties. with_unit n two.0 ties) job two.2 in
    let unit = bind_ok (iso_of text two.0 written.head) (λ iso. drafted_in n two.0 count.0 iso) job count.2 in
    let three = bind_ok (draft_of text m ds) (λ x. Ok (job_with count.0 unit.0 m x)) job unit.2 in
    let x = three.0 in
    let names = naming_is text ds n one.1 in
    let named = names.0 in
    let own = names.1 in
    let families = all_families text ds in
    let kinds = all_kinds text ds in
    let know = families_in_version n two.0 families (know_families text ds n named own.own) in
    let knows = kinds_in_version n two.0 kinds (know_kinds text ds n named own.own) in
    let is = drafts_are text m families kinds know knows ds x three.1 in
    let the_families : map family n.families ≡ families =
    ap (map family) named.families ∙ families_back 0 families ∙ without_lists text ds in
    let job_families = listed_families (map family n.families) x.family_lists in
    let job_kinds = listed_kinds x.kinds x.kind_lists in
    let without : map without_list job_families ≡ families =
    families_kept (map family n.families) x.family_lists ∙ ap (map without_list) the_families ∙ without_lists text ds in
    let kinds_many = pairs_length (MeansDeclaredKind text two.0 families ds) kinds x.kinds is.kinds_are in
    let names_are : n.lists ≡ list_names text ds = named.lists ∙ lists_named text ds in
    let family_lists = subst (λ (l : List (List ℕ)). Pairs (IfWritten (MeansList text l)) (flat_map family_lists_in ds) x.family_lists) names_are
    is.family_lists in
    let kind_lists = subst (λ (l : List (List ℕ)). Pairs (IfWritten (MeansList text l)) (flat_map kind_lists_in ds) x.kind_lists) names_are
    is.kind_lists in
    let families_listed_many : length x.family_lists ≡ length (map family n.families) =
    pairs_length (IfWritten (MeansList text (list_names text ds))) (flat_map family_lists_in ds) x.family_lists family_lists ∙ as_many_families text ds
    ∙ ap length (sym the_families) in
    let kinds_listed_many : length x.kind_lists ≡ length x.kinds =
    pairs_length (IfWritten (MeansList text (list_names text ds))) (flat_map kind_lists_in ds) x.kind_lists kind_lists ∙ as_many_kinds_declared text ds
    ∙ sym kinds_many in
    let lists_many = pairs_length (MeansNames text) (flat_map lists_in ds) x.lists is.lists in
    let listed_many = as_many_lists text ds in
    let families_many : length job_families ≡ length families =
    sym (length-map job_families without_list) ∙ ap length without in
    let job_kinds_many = as_many_kinds x.kinds x.kind_lists in
    let depends_many = pairs_length (MeansDepend text kinds) (flat_map depends_in ds) x.depends is.depends in
    let sources_many = pairs_length (MeansFeed text kinds) (flat_map sources_in ds) x.sources is.sources in
    let named_many = as_many_sources text ds in
    let itags = itags_counted 0 x.sources in
    let drafted_itags = is.itags in
    let few_itags = is.few_itags in
    let few_families = own.few_families in
    let few_kinds = own.few_kinds in
    let few_lists = own.few_lists in
    let few_depends = own.few_depends in
    let few_sources = own.few_sources in
    let means : MeansJob text written (job_with count.0 unit.0 m x) = record {
      version = version_is written.head two.0 two.1;
      ties = ties_is two.0 written.head count.0 count.1;
      iso = iso_is text two.0 written.head unit.0 unit.1;
      allowed = is.allowed;
      own_names = own.own;
      lists = is.lists;
      families = without;
      family_lists =
          subst (λ (l : List (Option ℕ)). Pairs (IfWritten (MeansList text (list_names text ds))) (flat_map family_lists_in ds) l)
          (sym (families_listed (map family n.families) x.family_lists families_listed_many)) family_lists;
      kinds =
          kinds_so (MeansDeclaredKind text two.0 families ds) (kind_with text two.0 families ds) kinds x.kinds x.kind_lists is.kinds_are;
      kind_lists =
          subst (λ (l : List (Option ℕ)). Pairs (IfWritten (MeansList text (list_names text ds))) (flat_map kind_lists_in ds) l)
          (sym (kinds_listed x.kinds x.kind_lists kinds_listed_many)) kind_lists;
      known_ons = λ i name at. (let got = pairs_left _ (flat_map (ons_in text) ds) x.given is.given i name at in (got.0, got.2));
      own_ons = is.own_ons;
      depends = is.depends;
      sources = is.sources;
      own_files = is.own_files;
      few_lists = omega (arith, lists_many, listed_many, few_lists);
      few_families = omega (arith, families_many, few_families);
      few_kinds = omega (arith, job_kinds_many, kinds_many, few_kinds);
      few_depends = omega (arith, depends_many, few_depends);
      few_sources = omega (arith, sources_many, named_many, few_sources);
      few_itags = omega (arith, itags, drafted_itags, few_itags);
    } in
    subst (λ (j : Job). MeansJob text written j) (ok_same (job_with count.0 unit.0 m x) job three.2) means

job_found : (text : List ℕ) (written : WrittenJob) (job : Job) → MeansJob text written job → resolved text written ≡ Ok job
unfolding resolved
job_found text written job is =
    let ds = written.declarations in
    let families = all_families text ds in
    let kinds = all_kinds text ds in
    let kinds_many = pairs_length (MeansDeclaredKind text job.version families ds) kinds job.kinds is.kinds in
    let lists_many = pairs_length (MeansNames text) (flat_map lists_in ds) job.lists is.lists in
    let listed_many = as_many_lists text ds in
    let families_many : length job.families ≡ length families = sym (length-map job.families without_list) ∙ ap length is.families in
    let few_families = is.few_families in
    let few_lists = is.few_lists in
    let depends_many = pairs_length (MeansDepend text kinds) (flat_map depends_in ds) job.depends is.depends in
    let sources_many = pairs_length (MeansFeed text kinds) (flat_map sources_in ds) job.sources is.sources in
    let named_many = as_many_sources text ds in
    let few_kinds = is.few_kinds in
    let few_depends = is.few_depends in
    let few_sources = is.few_sources in
    let few_itags = is.few_itags in
    let itags = itags_counted 0 job.sources in
    let own : OwnNames text ds = record {
      own = is.own_names;
      few_families = omega (arith, families_many, few_families);
      few_kinds = omega (arith, kinds_many, few_kinds);
      few_lists = omega (arith, lists_many, listed_many, few_lists);
      few_sources = omega (arith, sources_many, named_many, few_sources);
      few_depends = omega (arith, depends_many, few_depends);
    } in
    let names = naming_found text ds own in
    let n = names.0 in
    let m = in_version n job.version in
    let know = families_in_version n job.version families (know_families text ds n names.2 own.own) in
    let knows = kinds_in_version n job.version kinds (know_kinds text ds n names.2 own.own) in
    let names_are : n.lists ≡ list_names text ds = names.2.lists ∙ lists_named text ds in
    let parts : Parts = record {
      lists = job.lists;
      family_lists = map family_list job.families;
      kind_lists = map kind_list job.kinds;
      kinds = job.kinds;
      depends = job.depends;
      sources = job.sources;
    } in
    let aim : Aim text m families kinds know knows ds parts = record {
      allowed = is.allowed;
      own_lists = subst (λ (l : List (List ℕ)). AllDiffer l) (sym names_are) (lists_differ text ds own.own);
      lists_are = is.lists;
      family_lists_are =
          subst (λ (l : List (List ℕ)). Pairs (IfWritten (MeansList text l)) (flat_map family_lists_in ds) (map family_list job.families)) (sym names_are)
          is.family_lists;
      kind_lists_are =
          subst (λ (l : List (List ℕ)). Pairs (IfWritten (MeansList text l)) (flat_map kind_lists_in ds) (map kind_list job.kinds)) (sym names_are)
          is.kind_lists;
      kinds_are = is.kinds;
      known_ons = is.known_ons;
      own_ons = is.own_ons;
      depends_are = is.depends;
      sources_are = is.sources;
      own_files = is.own_files;
      few_itags = omega (arith, itags, few_itags);
    } in
    let draft = drafted text m families kinds know knows ds parts aim in
    let x = draft.draft in
    let the_families : map family n.families ≡ map without_list job.families =
    ap (map family) names.2.families ∙ families_back 0 families ∙ without_lists text ds ∙ sym is.families in
    let job_families : listed_families (map family n.families) x.family_lists ≡ job.families =
    (λ i. listed_families (the_families i) (draft.family_lists_are i)) ∙ families_again job.families in
    let job_kinds : listed_kinds x.kinds x.kind_lists ≡ job.kinds =
    ap (listed_kinds x.kinds) draft.kind_lists_are ∙ kinds_again x.kinds job.kinds draft.kinds_are draft.kinds_many in
    let same : job_with job.ties job.iso m x ≡ job = λ i. record {
      version = job.version;
      ties = job.ties;
      iso = job.iso;
      lists = draft.lists_are i;
      families = job_families i;
      kinds = job_kinds i;
      depends = draft.depends_are i;
      sources = draft.sources_are i;
    } in
    let drafted_in = λ (n : Naming) (version ties : ℕ) (iso : Option TimeUnit). draft_of text (in_version n version) ds >>= λ x. let r : Found Job = Ok
    (job_with ties iso (in_version n version) x) in r in
    let with_unit = λ (n : Naming) (version ties : ℕ). iso_of text version written.head >>= λ iso. drafted_in n version ties iso in
    let with_ties = λ (n : Naming) (version : ℕ). ties_of version written.head >>= λ ties. with_unit n version ties in
    binds (naming_of text ds) (λ n. version_of written.head >>= λ version. with_ties n version) n job names.1
    (binds (version_of written.head) (λ version. with_ties n version) job.version job (version_found written.head job.version is.version)
    (binds (ties_of job.version written.head) (λ ties. with_unit n job.version ties) job.ties job
    (ties_found job.version written.head job.ties is.ties)
    (binds (iso_of text job.version written.head) (λ iso. drafted_in n job.version job.ties iso) job.iso job
    (iso_found text job.version written.head job.iso is.iso)
    (binds (draft_of text m ds) (λ x. Ok (job_with job.ties job.iso m x)) draft.draft job draft.found
    (ok_ok (job_with job.ties job.iso m draft.draft) job same)))))

-- ---- the whole

pub tokens_are : (r : TokenReading) (ts : List Token) → found_tokens r ≡ Ok ts → r ≡ Ok ts
tokens_are (Ok x) ts e = ap (λ (l : List Token). let r : TokenReading = Ok l in r) (ok_same x ts e)
tokens_are (Err at) ts e = absurd cc

pub verdict_is : (v : Verdict WrittenJob) (written : WrittenJob) → found_job v ≡ Ok written → v ≡ IsVerdict written
verdict_is (IsVerdict x) written e = ap IsVerdict (ok_same x written e)
verdict_is (Unexpected at) written e = absurd cc
verdict_is TooDeep written e = absurd cc

is_text : ReadingIsTokens → FoundIsJob → (bytes : List ℕ) (job : Job) → job_in bytes ≡ Ok job → IsJobText bytes job
unfolding job_in
is_text tokens found bytes job e =
    let one = passed (nat_le (length bytes) 1048576) (f.OverLimit Bytes 1048577)
    (text_in bytes >>= λ text. tokens_in text >>= λ ts. written_in (length text) ts >>= λ written. resolved text written) job e in
    let text = bind_ok (text_in bytes) (λ text. tokens_in text >>= λ ts. written_in (length text) ts >>= λ written. resolved text written) job one.1 in
    let inner = passed (is_utf8 bytes) (f.BadUtf8 (utf8_valid_len bytes)) (Ok bytes) text.0 text.1 in
    let same : text.0 ≡ bytes = sym (ok_same bytes text.0 inner.1) in
    let rest : (tokens_in bytes >>= λ ts. written_in (length bytes) ts >>= λ written. resolved bytes written) ≡ Ok job =
    subst (λ (x : List ℕ). (tokens_in x >>= λ ts. written_in (length x) ts >>= λ written. resolved x written) ≡ Ok job) same text.2 in
    let ts = bind_ok (tokens_in bytes) (λ ts. written_in (length bytes) ts >>= λ written. resolved bytes written) job rest in
    let written = bind_ok (written_in (length bytes) ts.0) (λ written. resolved bytes written) job ts.2 in
    record {
      text = record { short = true_le (length bytes) 1048576 one.0; utf8 = IsUtf8-from_is_utf8 bytes inner.0 };
      tokens = ts.0;
      cut = (tokens bytes ts.0).0 (tokens_are (reading bytes) ts.0 ts.1);
      written = written.0;
      grammar = (found (length bytes) ts.0 written.0).0 (verdict_is (verdict (length bytes) ts.0) written.0 written.1);
      means = job_means bytes written.0 job written.2;
    }

is_read : ReadingIsTokens → FoundIsJob → (bytes : List ℕ) (job : Job) → IsJobText bytes job → job_in bytes ≡ Ok job
unfolding job_in
is_read tokens found bytes job is =
    passes (nat_le (length bytes) 1048576) (f.OverLimit Bytes 1048577)
    (text_in bytes >>= λ text. tokens_in text >>= λ ts. written_in (length text) ts >>= λ written. resolved text written) job
    (le_true (length bytes) 1048576 is.text.short)
    (binds (text_in bytes) (λ text. tokens_in text >>= λ ts. written_in (length text) ts >>= λ written. resolved text written) bytes job
    (passes (is_utf8 bytes) (f.BadUtf8 (utf8_valid_len bytes)) (Ok bytes) bytes (is_utf8-from_IsUtf8 bytes is.text.utf8) refl)
    (binds (tokens_in bytes) (λ ts. written_in (length bytes) ts >>= λ written. resolved bytes written) is.tokens job
    (ap found_tokens ((tokens bytes is.tokens).1 is.cut))
    (binds (written_in (length bytes) is.tokens) (λ written. resolved bytes written) is.written job
    (ap found_job ((found (length bytes) is.tokens is.written).1 is.grammar)) (job_found bytes is.written job is.means))))

pub jobs_are_grammar : ReadingIsTokens → FoundIsJob → JobsAreGrammar
jobs_are_grammar tokens found = λ bytes job. (is_text tokens found bytes job, is_read tokens found bytes job)

pub texts_have_one_job : JobsAreGrammar → TextsHaveOneJob
texts_have_one_job grammar = λ bytes a b is_a is_b. ok_same a b (sym ((grammar bytes a).1 is_a) ∙ (grammar bytes b).1 is_b)
