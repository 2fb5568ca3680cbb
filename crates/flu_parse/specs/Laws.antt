-- What holds of the job of every text, and of the text of every job.
use Rattle.std.specs.Prelude.{◌≡◌, ◌≤◌, ℕ, Option, List, map, length, Ok}
use Rattle.std.specs.Str.{IsUtf8}
use Rattle.flu_model.specs.declared.jobs.Family.{Family}
use Rattle.flu_model.specs.declared.jobs.Kind.{Kind}
use Rattle.flu_model.specs.declared.jobs.Depend.{Depend}
use Rattle.flu_model.specs.declared.jobs.Source.{Source}
use Rattle.flu_model.specs.Numberings.{Numbering}
use Rattle.flu_model.specs.Texts.{Unit}
use Rattle.flu_model.specs.Erasure.{Job, plain_kind}
use Rattle.flu_rules.specs.Kept.{KeepsRules}
use Rattle.flu_parse.specs.Reading.{job_in}
use Rattle.flu_parse.specs.Printing.{normal_form}

-- the job of a text keeps the rules of the language, wherever the boxes of its expressions are in memory
abbrev pub JobsKeepRules : Type 0
JobsKeepRules =
    (bytes : List ℕ) (job : Job) → job_in bytes ≡ Ok job
    → (kinds : List Kind) → map plain_kind kinds ≡ job.kinds
    → KeepsRules job.version job.ties job.iso job.lists job.families kinds job.depends job.sources

-- a job of these parts
abbrev pub job_with : ℕ → ℕ → Option Unit → List Numbering → List Family → List Kind → List Depend → List Source → Job
job_with version ties iso lists families kinds depends sources = record {
  version = version;
  ties = ties;
  iso = iso;
  lists = lists;
  families = families;
  kinds = map plain_kind kinds;
  depends = depends;
  sources = sources;
}

-- the normal form of a job that keeps the rules is read as that job, if it is not too long to be read
abbrev pub PrintedIsRead : Type 0
PrintedIsRead =
    (version ties : ℕ) (iso : Option Unit) (lists : List Numbering) (families : List Family) (kinds : List Kind) (depends : List Depend) (sources : List Source)
    → KeepsRules version ties iso lists families kinds depends sources
    → IsUtf8 (normal_form (job_with version ties iso lists families kinds depends sources))
    → length (normal_form (job_with version ties iso lists families kinds depends sources)) ≤ 1048576
    → job_in (normal_form (job_with version ties iso lists families kinds depends sources))
    ≡ Ok (job_with version ties iso lists families kinds depends sources)
