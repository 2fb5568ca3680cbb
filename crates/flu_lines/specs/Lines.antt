-- The lines on err (`docs/LANGUAGE.md`).
use Rattle.std.specs.Prelude.{ℕ, List, ◌++◌, codes, Option, ◌⊎◌}
use Rattle.std.specs.Fmt.{decimal}
use Rattle.flu_outside.specs.Outside.{Rose, WhereTold}
use Rattle.flu_outside.specs.Writing.{AppendsAll, AppendsPart}
use Rattle.flu_model.specs.Reports.{text_of_tag, text_of_cell}
use Rattle.flu_model.specs.declared.events.Itag.{Itag}
use Rattle.flu_model.specs.declared.jobs.Program.{Program}
use Rattle.flu_model.specs.declared.plans.Node.{Node}
use Rattle.flu_model.specs.declared.limits.What.{What}
use Rattle.flu_model.specs.declared.limits.What.TheVariants as whats
use Rattle.flu_parse.specs.declared.faults.JobFault.{JobFault}
use Rattle.flu_parse.specs.declared.faults.JobFault.TheVariants as faults
use Rattle.flu_check.specs.declared.CheckFault.{CheckFault}
use Rattle.flu_deps.specs.Checking.{program_of}
use Rattle.flu_plan.specs.declared.fault.PlanFault.{PlanFault}
use Rattle.flu_plan.specs.declared.fault.PlanFault.TheVariants as plans
use Rattle.flu_valid.specs.declared.faults.Invalid.{Invalid}
use Rattle.flu_valid.specs.declared.faults.Invalid.TheVariants.{Unowned, OwnedTwice, Clash}
use Rattle.flu_streams.specs.declared.faults.Why.{Why}
use Rattle.flu_streams.specs.declared.faults.Why.TheVariants as whys
use Rattle.flu_save.specs.declared.fault.SaveFault.{SaveFault}
use Rattle.flu_save.specs.declared.fault.SaveFault.TheVariants as saves
use Rattle.flu_trace.specs.declared.faults.ReplayFault.{ReplayFault}
use Rattle.flu_trace.specs.declared.faults.ReplayFault.TheVariants as traces
use Rattle.flu_lines.specs.declared.refusals.PlanDefect.{PlanDefect}
use Rattle.flu_lines.specs.declared.refusals.PlanDefect.TheVariants as defects
use Rattle.flu_lines.specs.declared.refusals.SaveDefect.{SaveDefect}
use Rattle.flu_lines.specs.declared.refusals.SaveDefect.TheVariants as starts
use Rattle.flu_lines.specs.declared.products.DrawnSteps.{DrawnSteps}
use Rattle.flu_lines.specs.Names.{node_name, itag_text, source_name}

-- the word for what has a limit
abbrev pub what_word : What → List ℕ
what_word whats.Bytes = codes "bytes"
what_word whats.Nesting = codes "nesting"
what_word whats.Families = codes "families"
what_word whats.Kinds = codes "kinds"
what_word whats.Sources = codes "sources"
what_word whats.Depends = codes "depends"
what_word whats.Key = codes "key"
what_word whats.Rate = codes "rate"
what_word whats.Itags = codes "itags"
what_word whats.Actions = codes "actions"
what_word whats.Height = codes "height"
what_word whats.Nodes = codes "nodes"
what_word whats.Predicates = codes "predicates"
what_word whats.Depth = codes "depth"
what_word whats.Slack = codes "slack"
what_word whats.Lists = codes "lists"
what_word whats.Names = codes "names"

-- that there is more than the language allows
abbrev pub limit_text : What → ℕ → List ℕ
limit_text what count = codes "over limit " ++ what_word what ++ codes " " ++ decimal count

-- what is wrong with a job text, and where
abbrev pub job_fault_text : JobFault → List ℕ
job_fault_text (faults.BadUtf8 at) = codes "bad utf8 at " ++ decimal at
job_fault_text (faults.BadToken at) = codes "bad token at " ++ decimal at
job_fault_text (faults.Unexpected at) = codes "unexpected at " ++ decimal at
job_fault_text (faults.UnknownName at) = codes "unknown name at " ++ decimal at
job_fault_text (faults.TwiceNamed at) = codes "twice named at " ++ decimal at
job_fault_text (faults.WrongShape at) = codes "wrong shape at " ++ decimal at
job_fault_text (faults.OverLimit what count) = limit_text what count
job_fault_text faults.NoMemory = codes "no memory"

-- what is wrong with a plan text, and where
abbrev pub plan_fault_text : PlanFault → List ℕ
plan_fault_text (plans.BadToken at) = codes "bad token at " ++ decimal at
plan_fault_text (plans.Unexpected at) = codes "unexpected at " ++ decimal at
plan_fault_text (plans.UnknownName at) = codes "unknown name at " ++ decimal at
plan_fault_text (plans.NotATree name) = codes "not a tree at " ++ name
plan_fault_text (plans.OverLimit what count) = limit_text what count
plan_fault_text plans.NoMemory = codes "no memory"

-- an itag and a node that owns it
abbrev pub owned_text : Program → List Node → Itag → ℕ → List ℕ
owned_text p nodes i node = itag_text p i ++ codes " at " ++ node_name nodes node

-- what keeps a plan from being valid for a job
abbrev pub invalid_text : Program → List Node → Invalid → List ℕ
invalid_text p nodes (Unowned i) = itag_text p i ++ codes " has no owner"
invalid_text p nodes (OwnedTwice i a b) = itag_text p i ++ codes " has two owners, " ++ node_name nodes a ++ codes " and " ++ node_name nodes b
invalid_text p nodes (Clash a i b j) = codes "clash of " ++ owned_text p nodes i a ++ codes " and " ++ owned_text p nodes j b

-- what is wrong with a row
abbrev pub why_text : Why → List ℕ
why_text whys.BadRow = codes "bad row"
why_text whys.UnknownTag = codes "unknown tag"
why_text whys.UnknownItem = codes "unknown item"
why_text (whys.Disordered last got) = codes "disordered, last " ++ decimal last ++ codes ", got " ++ decimal got
why_text whys.Unclosed = codes "unclosed"
why_text whys.AfterEnd = codes "after end"
why_text (whys.TooMany count) = codes "too many, " ++ decimal count

-- why bytes are not a checkpoint
abbrev pub save_fault_text : SaveFault → List ℕ
save_fault_text (saves.OverLimit count) = limit_text whats.Bytes count
save_fault_text saves.NotJson = codes "not json"
save_fault_text saves.WrongForm = codes "wrong form"
save_fault_text saves.OtherJob = codes "other job"
save_fault_text saves.NoMemory = codes "no memory"

-- ---- the lines
-- the line of words that are not a command, of which the one at a place does not fit
abbrev pub bad_words_line : ℕ → List ℕ
bad_words_line at = codes "flumina: bad words at " ++ decimal at ++ codes "\n"

-- the line of a fault, after a head that says what has it
abbrev pub fault_line : List ℕ → List ℕ → List ℕ
fault_line head fault = head ++ fault ++ codes "\n"

-- the line of a fault in a job text
abbrev pub job_line : List ℕ → List ℕ
job_line fault = fault_line (codes "flumina: job: ") fault

abbrev pub job_fault_line : JobFault → List ℕ
job_fault_line fault = job_line (job_fault_text fault)

-- the line of a conflict: its two tags and its cell
abbrev pub conflict_line : CheckFault → List ℕ
conflict_line fault =
    codes "flumina: conflict: " ++ text_of_tag fault.program fault.a ++ codes " and " ++ text_of_tag fault.program fault.b ++ codes " on " ++ text_of_cell
    fault.program fault.cell ++ codes "\n"

-- the line of what is wrong with a plan
abbrev pub plan_line : List ℕ → List ℕ
plan_line defect = fault_line (codes "flumina: plan: ") defect

abbrev pub plan_defect_line : PlanDefect → List ℕ
plan_defect_line (defects.Text fault text) = plan_line (plan_fault_text fault)
plan_defect_line (defects.Invalid checked fault) = plan_line (invalid_text (program_of checked) fault.plan.nodes fault.why)

-- the line of a defect: the source's name, its row, and what is wrong with that
abbrev pub row_line : List ℕ → ℕ → List ℕ → List ℕ
row_line name row why = codes "flumina: source " ++ name ++ codes " row " ++ decimal row ++ codes ": " ++ why ++ codes "\n"

abbrev pub source_fault_line : List ℕ → ℕ → Why → List ℕ
source_fault_line name row why = row_line name row (why_text why)

-- the line of what keeps a run from starting: the source whose file has its name, or what is wrong with its checkpoint
abbrev pub save_line : List ℕ → List ℕ
save_line defect = fault_line (codes "flumina: save: ") defect

abbrev pub save_defect_line : SaveDefect → List ℕ
save_defect_line (starts.SameName checked number) = save_line (codes "same as source " ++ source_name (program_of checked) number)
save_defect_line (starts.Checkpoint fault) = save_line (save_fault_text fault)

-- the line of what stops the replay of a trace: the number of its line, and why
abbrev pub trace_line : ℕ → List ℕ → List ℕ
trace_line line why = codes "flumina: trace line " ++ decimal line ++ codes ": " ++ why ++ codes "\n"

abbrev pub read_fault_line : List ℕ
read_fault_line = codes "flumina: read fault\n"

abbrev pub write_fault_line : List ℕ
write_fault_line = codes "flumina: write fault\n"

abbrev pub put_fault_line : List ℕ
put_fault_line = codes "flumina: save fault\n"

abbrev pub no_memory_line : List ℕ
no_memory_line = codes "flumina: no memory\n"

abbrev pub trace_fault_line : ReplayFault → List ℕ
trace_fault_line (traces.Bad line) = trace_line line (codes "bad line")
trace_fault_line (traces.NotEnabled line) = trace_line line (codes "not enabled")
trace_fault_line (traces.Incomplete line) = trace_line line (codes "incomplete")
trace_fault_line traces.ReadFault = read_fault_line
trace_fault_line traces.NoMemory = no_memory_line

-- the line of the steps of a run that a seed drew: how many of each kind, and the mark of their places
abbrev pub step_line : DrawnSteps → List ℕ
step_line steps =
    codes "steps arrive " ++ decimal steps.counts.arrive ++ codes " handle " ++ decimal steps.counts.handle
    ++ codes " ask " ++ decimal steps.counts.ask ++ codes " take " ++ decimal steps.counts.take
    ++ codes " give " ++ decimal steps.counts.give ++ codes " hold " ++ decimal steps.counts.hold
    ++ codes " lend " ++ decimal steps.counts.lend ++ codes " mark " ++ decimal steps.mark ++ codes "\n"

-- a line was appended to what was there, or the sink failed and has a proper prefix of the line
abbrev pub IsSaid : List ℕ → Option (List ℕ) → Option (List ℕ) → ℕ → ℕ → Type 0
IsSaid line old new before now =
    WhereTold old new (AppendsAll line) ⊎ (Rose before now × WhereTold old new (AppendsPart line))
