-- The demo job is run over the events that a seed draws.
use Rattle.std.proofs.Common.{◌≡◌, refl, sym, ap, ◌∙◌, subst, ℕ, List, [], length, map}
use Rattle.std.specs.Prelude.{Result, Ok, Err, Option, IfErr}
use Rattle.flu_outside.specs.Outside.{Contents}
use Rattle.flu_model.specs.declared.events.Item.{Item}
use Rattle.flu_model.specs.declared.jobs.Program.{Program}
use Rattle.flu_model.specs.Contents.{nothing_held}
use Rattle.flu_model.specs.Erasure.{plain_kind, job_of}
use Rattle.flu_model.specs.Folding.{final_outputs}
use Rattle.flu_model.specs.Merging.{all_events}
use Rattle.flu_model.specs.Modes.{IsAccepted}
use Rattle.flu_model.specs.Reports as reports
use Rattle.flu_gen.specs.DemoJob.{IsDemoJob}
use Rattle.flu_gen.specs.DemoStreams.{demo_lists}
use Rattle.flu_words.specs.Words.{Demo}
use Rattle.flu_top.specs.declared.products.Product.{Product}
use Rattle.flu_lines.specs.declared.refusals.Refusal.{Refusal}
use Rattle.flu_lines.specs.declared.refusals.Refusal.TheVariants as refusals
use Rattle.flu_top.specs.Checking.{IsCheckRefusal}
use Rattle.flu_command.specs.Demos.{demo_job, summary, demo_summary}
use Rattle.flu_command.specs.Done.{IsWritten}
use Rattle.flu_top.specs.Refusing.{IsRefusal}
use Rattle.flu_top.proofs.Sequence.{none_among, can_start, has_saved}

pub is_demo_job : (p : Program) → IsDemoJob p → job_of p ≡ demo_job
is_demo_job p demo =
    λ i. record {
      version = demo.version i;
      ties = demo.ties i;
      iso = demo.iso i;
      lists = demo.lists i;
      families = demo.families i;
      kinds = map plain_kind (demo.kinds i);
      depends = demo.depends i;
      sources =
          demo.sources i;
    }

-- the summary of the report of the streams
pub is_summary : (n seed events : ℕ) (p : Program) (lists : List (List Item)) (report text : List ℕ) → lists ≡ demo_lists n seed
    → length (all_events lists) ≡ events
    → report ≡ reports.report p (final_outputs p nothing_held lists) → text ≡ summary events report → text ≡ demo_summary n seed p
unfolding demo_summary
is_summary n seed events p lists report text drawn count made is =
    is
    ∙ (λ i. summary (sym count i) (made i))
    ∙ ap (λ (ls : List (List Item)). summary (length (all_events ls)) (reports.report p (final_outputs p nothing_held ls))) drawn

-- the summary is what the demo writes, and no file is read for it
pub is_shown : (n seed : ℕ) (p : Program) (text : List ℕ) (left : Contents) → IsDemoJob p → IsAccepted p → text ≡ demo_summary n seed p
    → IsWritten (Demo n seed) text [] left left
is_shown n seed p text left demo accepted is = (
  p,
  record {
    good = record {
      has = is_demo_job p demo;
      accepted = λ asked. accepted;
      plan = λ plan named. absurd (cc);
      start =
          can_start (Demo n seed) left p (record { save = refl; resume = refl; rows = refl });
      sources = tt;
    };
    ends = λ name found apart. absurd (none_among name found);
    trace = λ trace named. absurd (cc);
    saved = has_saved (Demo n seed) p left left (record { save = refl; resume = refl; rows = refl });
  },
  is,
  refl,
)

-- a job that is accepted is refused for want of memory alone
pub only_memory : (p : Program) (refusal : Refusal) → IsAccepted p → IsCheckRefusal p refusal → refusal ≡ refusals.NoMemory
only_memory p (refusals.BadWords bad) accepted is = absurd is
only_memory p (refusals.JobFault fault text) accepted is = absurd is
only_memory p (refusals.Conflict fault) accepted is = absurd (is.1.refused (subst (λ (q : Program). IsAccepted q) (sym is.0) accepted))
only_memory p (refusals.PlanDefect defect) accepted is = absurd is
only_memory p (refusals.SourceFault q fault) accepted is = absurd is
only_memory p refusals.ReadFault accepted is = absurd is
only_memory p refusals.WriteFault accepted is = absurd is
only_memory p refusals.NoMemory accepted is = refl
only_memory p (refusals.SaveDefect defect) accepted is = absurd is
only_memory p refusals.PutFault accepted is = absurd is
only_memory p (refusals.TraceFault fault) accepted is = absurd is

-- what refuses a demo refuses it whatever the files hold
pub refused_anyhow : (n seed : ℕ) (result : Result Product Refusal) (old new : Option Contents) (before now : List ℕ → ℕ)
    → IfErr result (λ refusal. refusal ≡ refusals.NoMemory)
    → IfErr result (IsRefusal (Demo n seed) old new before now)
refused_anyhow n seed (Ok product) old new before now refused = tt
refused_anyhow n seed (Err refusal) old new before now refused = subst (IsRefusal (Demo n seed) old new before now) (sym refused) tt
