-- The rules of the job language, all of them, as parts keep them.
use Rattle.std.specs.Prelude.{◌≤◌, ℕ, Option, List, length, IsTrue}
use Rattle.flu_model.specs.declared.jobs.Family.{Family}
use Rattle.flu_model.specs.declared.jobs.Kind.{Kind}
use Rattle.flu_model.specs.declared.jobs.Depend.{Depend}
use Rattle.flu_model.specs.declared.jobs.Source.{Source}
use Rattle.flu_model.specs.Listing.{itags_of_sources}
use Rattle.flu_model.specs.Numberings.{Numbering}
use Rattle.flu_model.specs.ListRules.{are_lists, fit_lists}
use Rattle.flu_model.specs.Texts.{Unit}
use Rattle.flu_model.specs.Versions.{fit_version, ties_fit, iso_fits, clocks_fit}
use Rattle.flu_model.specs.Rules.{is_version, are_families, are_kinds, are_depends, are_sources, have_own_names, have_own_files}

pub record KeepsRules (version ties : ℕ) (iso : Option Unit) (lists : List Numbering) (families : List Family) (kinds : List Kind) (depends : List Depend)
    (sources : List Source) : Type 0 where
  pub known_version : IsTrue (is_version version)
  pub known_ties : IsTrue (ties_fit version ties)
  pub known_iso : IsTrue (iso_fits version iso)
  pub few_lists : length lists ≤ 64
  pub few_families : length families ≤ 64
  pub few_kinds : length kinds ≤ 64
  pub few_depends : length depends ≤ 4096
  pub few_sources : length sources ≤ 64
  pub few_itags : length (itags_of_sources 0 sources) ≤ 256
  pub lists_are : IsTrue (are_lists lists)
  pub families_fit : IsTrue (are_families families)
  pub kinds_fit : IsTrue (are_kinds families kinds)
  pub version_fits : IsTrue (fit_version version families kinds)
  pub lists_fit : IsTrue (fit_lists version lists families kinds)
  pub depends_fit : IsTrue (are_depends kinds depends)
  pub sources_fit : IsTrue (are_sources kinds sources)
  pub clocks_fit : IsTrue (clocks_fit version sources)
  pub own_names : IsTrue (have_own_names lists families kinds sources)
  pub own_files : IsTrue (have_own_files sources)
