-- The demo: its job, and the summary of the report of its streams.
use Rattle.std.specs.Prelude.{ℕ, ◌==◌, None, List, [], ◌++◌, codes, count_by, length, map}
use Rattle.std.specs.Fmt.{decimal}
use Rattle.flu_model.specs.declared.jobs.Program.{Program}
use Rattle.flu_model.specs.Contents.{nothing_held}
use Rattle.flu_model.specs.Erasure.{Job, plain_kind}
use Rattle.flu_model.specs.Folding.{final_outputs}
use Rattle.flu_model.specs.Merging.{all_events}
use Rattle.flu_model.specs.Reports as reports
use Rattle.flu_gen.specs.DemoJob.{demo_families, demo_kinds, demo_depends, demo_sources}
use Rattle.flu_gen.specs.DemoStreams.{demo_lists}

-- the job of a demo
abbrev pub demo_job : Job
demo_job = record {
  version = 1;
  ties = 1;
  iso = None;
  lists = [];
  families = demo_families;
  kinds = map plain_kind demo_kinds;
  depends = demo_depends;
  sources = demo_sources;
}

-- how many lines some bytes are: how many of them are line feeds
abbrev pub lines_in : List ℕ → ℕ
lines_in bytes = count_by (λ c. c == 10) bytes

-- the summary of the report of this many events: how many lines and bytes it has
abbrev pub summary : ℕ → List ℕ → List ℕ
summary events report =
    codes "demo events " ++ (decimal events ++ (codes " lines " ++ (decimal (lines_in report)
    ++ (codes " bytes " ++ (decimal (length report) ++ codes "\n")))))

-- the summary of the report of the fold of all events that a seed draws, n of them and the ticks, from the empty state
unfoldable pub demo_summary : ℕ → ℕ → Program → List ℕ
demo_summary n seed p =
    summary (length (all_events (demo_lists n seed))) (reports.report p (final_outputs p nothing_held (demo_lists n seed)))
