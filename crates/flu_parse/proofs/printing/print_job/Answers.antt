use Rattle.std.proofs.Common.{◌≡◌, ◌≤◌, ℕ, List, length, Ok, sym, subst, ◌∙◌}
use Rattle.std.specs.Str.{IsUtf8}
use Rattle.std.proofs.lemmas.Str.{IsUtf8-string_bytes}
use Rattle.flu_model.specs.declared.jobs.Program.{Program}
use Rattle.flu_model.specs.Erasure.{job_of}
use Rattle.flu_rules.specs.Kept.{KeepsRules}
use Rattle.flu_parse.specs.Reading.{job_in}
use Rattle.flu_parse.specs.Printing.{normal_form}
use Rattle.flu_parse.specs.Laws.{PrintedIsRead}
use Rattle.flu_parse.proofs.printing.print_job.Goals as goal

rules_of : (p : Program) → KeepsRules p.version p.ties p.iso p.lists p.families p.kinds p.depends p.sources
rules_of p = record {
  known_version = p.known_version;
  known_ties = p.known_ties;
  known_iso = p.known_iso;
  few_lists = p.few_lists;
  few_families = p.few_families;
  few_kinds = p.few_kinds;
  few_depends = p.few_depends;
  few_sources = p.few_sources;
  few_itags = p.few_itags;
  lists_are = p.lists_are;
  families_fit = p.families_fit;
  kinds_fit = p.kinds_fit;
  version_fits = p.version_fits;
  lists_fit = p.lists_fit;
  depends_fit = p.depends_fit;
  sources_fit = p.sources_fit;
  clocks_fit = p.clocks_fit;
  own_names = p.own_names;
  own_files = p.own_files;
}

read_again : PrintedIsRead → (p : Program) (text : List ℕ) → IsUtf8 text → text ≡ normal_form (job_of p) → length text ≤ 1048576 → job_in text ≡ Ok (job_of p)
read_again printed p text utf8 is =
    subst (λ t. IsUtf8 t → length t ≤ 1048576 → job_in t ≡ Ok (job_of p)) (sym is)
    (printed p.version p.ties p.iso p.lists p.families p.kinds p.depends p.sources (rules_of p)) utf8

pub returns-clause-read_again : goal.returns-clause-read_again
returns-clause-read_again c =
    read_again c.printed_is_read.ensures c.args.p.now c.of.result (subst IsUtf8 (sym c.of.ensures) (IsUtf8-string_bytes c.in_ok-text.text))
    (c.of.ensures ∙ c.in_ok-text.ensures)
