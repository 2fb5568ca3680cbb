-- The rules of a job as plain data.
use Rattle.std.proofs.Common.{◌≡◌, ◌≤◌, ℕ, zero, suc, Bool, true, false, ◌&&◌, ◌||◌, List, [], ◌∷◌, ◌++◌, map, length, Option, Some, None, refl, sym, ap, ◌∙◌}
use Rattle.std.proofs.lemmas.List.{length-map}
use Rattle.std.specs.Prelude.{nat_le, nat_lt, ◌==◌, ◌^◌, not, slice_get}
use Rattle.std.specs.List.{list_all, filter_map}
use Rattle.flu_model.specs.declared.jobs.Family.{Family}
use Rattle.flu_model.specs.declared.jobs.Kind.{Kind}
use Rattle.flu_model.specs.declared.jobs.Depend.{Depend}
use Rattle.flu_model.specs.declared.jobs.Keys.{Keys}
use Rattle.flu_model.specs.declared.jobs.TagRef.{TagRef}
use Rattle.flu_model.specs.declared.jobs.Source.{Source}
use Rattle.flu_model.specs.Erasure.{PlainKind, plain_kind, Job}
use Rattle.flu_model.specs.Numberings.{Numbering}
use Rattle.flu_model.specs.ListRules.{are_lists}
use Rattle.flu_model.specs.Rules.{is_version, is_same_text, are_distinct, kind_is_keyed, depend_fits, keys_fit, listed_kind_fits, tag_ref_fits, is_file_text}
use Rattle.flu_model.specs.Rules.{is_same_tag, source_fits, file_of_source, is_tick_kind, is_tick_tag, has_origin}
use Rattle.flu_model.specs.Listing.{tags_of_source, itags_of_sources}
use Rattle.flu_model.specs.Texts.{Unit}
use Rattle.flu_model.specs.Versions.{ties_fit, iso_fits, clocks_fit}
use Rattle.flu_rules.specs.Kept.{KeepsRules}
use Rattle.flu_parse.specs.Laws.{job_with}
use Rattle.flu_names.specs.Names.{is_name}
use Rattle.flu_lemmas.proofs.Elements.{list_all_same}
use Rattle.flu_parse.proofs.Kept.Plain.{plain_kind_fits, kinds-plain}
use Rattle.flu_parse.proofs.Kept.Versions.{plain_fit_version, version-plain}
use Rattle.flu_parse.proofs.Printed.ListFits.{plain_fit_lists, lists-plain}

abbrev pub plain_kind_is_keyed : Option PlainKind → Bool
plain_kind_is_keyed None = false
plain_kind_is_keyed (Some k) = k.keyed

abbrev pub plain_depend_fits : List PlainKind → Depend → Bool
plain_depend_fits kinds d =
    nat_lt d.a (length kinds) && nat_lt d.b (length kinds)
    && (not d.same || (plain_kind_is_keyed (slice_get kinds d.a) && plain_kind_is_keyed (slice_get kinds d.b)))

abbrev pub plain_listed_fits : Option PlainKind → Keys → Bool
plain_listed_fits None keys = false
plain_listed_fits (Some k) keys = keys_fit k.keyed keys

abbrev pub plain_tag_fits : List PlainKind → TagRef → Bool
plain_tag_fits kinds r = plain_listed_fits (slice_get kinds r.kind) r.keys

-- the kinds whose events may be ticks
abbrev pub plain_is_tick : Option PlainKind → Bool
plain_is_tick None = false
plain_is_tick (Some k) = not k.keyed && not k.has_item && not k.has_value

abbrev pub plain_tick_tag : List PlainKind → TagRef → Bool
plain_tick_tag kinds r = plain_is_tick (slice_get kinds r.kind)

abbrev pub plain_origin : List PlainKind → Source → Option ℕ → Bool
plain_origin kinds s None = is_file_text s.file
plain_origin kinds s (Some every) =
    nat_le 1 every && nat_le every (2 ^ 62) && (length s.file == 0) && (s.slack == 0) && (length s.tags == 1) && list_all (plain_tick_tag kinds) s.tags

abbrev pub plain_source_fits : List PlainKind → Source → Bool
plain_source_fits kinds s =
    is_name s.name && plain_origin kinds s s.every && nat_le s.rate 1000000000 && nat_le s.slack 60000 && nat_lt 0 (length s.tags)
    && list_all (plain_tag_fits kinds) s.tags && are_distinct is_same_tag (tags_of_source s)

abbrev pub names_of_job : Job → List (List ℕ)
names_of_job job =
    map (λ (f : Family). f.name) job.families ++ map (λ (k : PlainKind). k.name) job.kinds ++ map (λ (s : Source). s.name) job.sources
    ++ map (λ (l : Numbering). l.name) job.lists

-- the rules of a job
pub record JobFits (job : Job) : Type 0 where
  pub known_version : is_version job.version ≡ true
  pub known_ties : ties_fit job.version job.ties ≡ true
  pub known_iso : iso_fits job.version job.iso ≡ true
  pub few_lists : length job.lists ≤ 64
  pub few_families : length job.families ≤ 64
  pub few_kinds : length job.kinds ≤ 64
  pub few_depends : length job.depends ≤ 4096
  pub few_sources : length job.sources ≤ 64
  pub few_itags : length (itags_of_sources 0 job.sources) ≤ 256
  pub lists : are_lists job.lists ≡ true
  pub families : list_all (λ (f : Family). is_name f.name) job.families ≡ true
  pub kinds : list_all (plain_kind_fits job.families) job.kinds ≡ true
  pub version : plain_fit_version job.version job.families job.kinds ≡ true
  pub lists_fit : plain_fit_lists job.version job.lists job.families job.kinds ≡ true
  pub depends : list_all (plain_depend_fits job.kinds) job.depends ≡ true
  pub sources : list_all (plain_source_fits job.kinds) job.sources ≡ true
  pub clocks : clocks_fit job.version job.sources ≡ true
  pub own_names : are_distinct is_same_text (names_of_job job) ≡ true
  pub own_files : are_distinct is_same_text (filter_map file_of_source job.sources) ≡ true

same_keyed : (kinds : List Kind) (i : ℕ) → plain_kind_is_keyed (slice_get (map plain_kind kinds) i) ≡ kind_is_keyed (slice_get kinds i)
same_keyed [] i = refl
same_keyed (k ∷ kinds) zero = refl
same_keyed (k ∷ kinds) (suc i) = same_keyed kinds i

same_depend : (kinds : List Kind) (d : Depend) → plain_depend_fits (map plain_kind kinds) d ≡ depend_fits kinds d
same_depend kinds d =
    ap (λ n. nat_lt d.a n && nat_lt d.b n && (not d.same || (plain_kind_is_keyed (slice_get (map plain_kind kinds) d.a) && plain_kind_is_keyed
    (slice_get (map plain_kind kinds) d.b)))) (length-map kinds plain_kind)
    ∙ ap (λ x. nat_lt d.a (length kinds) && nat_lt d.b (length kinds) && (not d.same || (x && plain_kind_is_keyed (slice_get (map plain_kind kinds) d.b))))
    (same_keyed kinds d.a)
    ∙ ap (λ x. nat_lt d.a (length kinds) && nat_lt d.b (length kinds) && (not d.same || (kind_is_keyed (slice_get kinds d.a) && x))) (same_keyed kinds d.b)

same_listed : (kinds : List Kind) (i : ℕ) (keys : Keys)
    → plain_listed_fits (slice_get (map plain_kind kinds) i) keys ≡ listed_kind_fits (slice_get kinds i) keys
same_listed [] i keys = refl
same_listed (k ∷ kinds) zero keys = refl
same_listed (k ∷ kinds) (suc i) keys = same_listed kinds i keys

same_tick : (kinds : List Kind) (i : ℕ) → plain_is_tick (slice_get (map plain_kind kinds) i) ≡ is_tick_kind (slice_get kinds i)
same_tick [] i = refl
same_tick (k ∷ kinds) zero = refl
same_tick (k ∷ kinds) (suc i) = same_tick kinds i

same_origin : (kinds : List Kind) (s : Source) (every : Option ℕ) → plain_origin (map plain_kind kinds) s every ≡ has_origin kinds s every
same_origin kinds s None = refl
same_origin kinds s (Some every) =
    ap (λ x. nat_le 1 every && nat_le every (2 ^ 62) && (length s.file == 0) && (s.slack == 0) && (length s.tags == 1) && x)
    (list_all_same (plain_tick_tag (map plain_kind kinds)) (is_tick_tag kinds) s.tags (λ (r : TagRef). same_tick kinds r.kind))

same_source : (kinds : List Kind) (s : Source) → plain_source_fits (map plain_kind kinds) s ≡ source_fits kinds s
same_source kinds s =
    ap (λ x. is_name s.name && x && nat_le s.rate 1000000000 && nat_le s.slack 60000 && nat_lt 0
    (length s.tags) && list_all (plain_tag_fits (map plain_kind kinds)) s.tags && are_distinct is_same_tag (tags_of_source s)) (same_origin kinds s s.every)
    ∙ ap (λ x. is_name s.name && has_origin kinds s s.every && nat_le s.rate 1000000000 && nat_le s.slack 60000 && nat_lt 0
    (length s.tags) && x && are_distinct is_same_tag (tags_of_source s))
    (list_all_same (plain_tag_fits (map plain_kind kinds)) (tag_ref_fits kinds) s.tags (λ (r : TagRef). same_listed kinds r.kind r.keys))

same_names : (kinds : List Kind) → map (λ (k : PlainKind). k.name) (map plain_kind kinds) ≡ map (λ (k : Kind). k.name) kinds
same_names [] = refl
same_names (k ∷ kinds) = ap (λ ns. k.name ∷ ns) (same_names kinds)

-- what keeps the rules keeps them as plain data
pub job_fits : (version ties : ℕ) (iso : Option Unit) (lists : List Numbering) (families : List Family) (kinds : List Kind) (depends : List Depend)
    (sources : List Source)
    → KeepsRules version ties iso lists families kinds depends sources → JobFits (job_with version ties iso lists families kinds depends sources)
job_fits version ties iso lists families kinds depends sources kept = record {
  known_version = kept.known_version;
  known_ties = kept.known_ties;
  known_iso = kept.known_iso;
  few_lists = kept.few_lists;
  few_families = kept.few_families;
  few_kinds = rw (length-map kinds plain_kind) kept.few_kinds;
  few_depends = kept.few_depends;
  few_sources = kept.few_sources;
  few_itags = kept.few_itags;
  lists = kept.lists_are;
  families = kept.families_fit;
  kinds = sym (kinds-plain families kinds) ∙ kept.kinds_fit;
  version = sym (version-plain version families kinds) ∙ kept.version_fits;
  lists_fit = sym (lists-plain version lists families kinds) ∙ kept.lists_fit;
  depends = list_all_same (plain_depend_fits (map plain_kind kinds)) (depend_fits kinds) depends (same_depend kinds) ∙ kept.depends_fit;
  sources = list_all_same (plain_source_fits (map plain_kind kinds)) (source_fits kinds) sources (same_source kinds) ∙ kept.sources_fit;
  clocks = kept.clocks_fit;
  own_names = ap (λ ns. are_distinct is_same_text (map (λ (f : Family). f.name) families ++ ns ++ map (λ (s : Source). s.name) sources
      ++ map (λ (l : Numbering). l.name) lists)) (same_names kinds) ∙ kept.own_names;
  own_files = kept.own_files;
}
