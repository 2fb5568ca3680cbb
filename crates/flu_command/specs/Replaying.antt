-- How the trace that a command reads ends on the net of its plan.
use Rattle.std.specs.Prelude.{◌≡◌, ℕ, List, Some}
use Rattle.flu_outside.specs.Outside.{Contents}
use Rattle.flu_outside.specs.Taking.{bytes_left}
use Rattle.flu_model.specs.declared.events.Item.{Item}
use Rattle.flu_model.specs.declared.jobs.Program.{Program}
use Rattle.flu_model.specs.declared.plans.Node.{Node}
use Rattle.flu_fork.specs.declared.content.Content.{Content}
use Rattle.flu_fork.specs.Lots.{setting_of}
use Rattle.flu_streams.specs.Files.{files_of}
use Rattle.flu_streams.specs.Good.{lists_of}
use Rattle.flu_trace.specs.Replaying.{Ending, Complete, IsReplayed}
use Rattle.flu_words.specs.Words.{Command}
use Rattle.flu_command.specs.Behind.{HasPlan, emptied_each}
use Rattle.flu_command.specs.Simulating.{from_nothing}
use Rattle.flu_command.specs.Wants.{job_wanted, plan_named, trace_named, texts_named}

-- on the net of a plan over these items, from the empty state, a trace of these bytes has this ending
pub record EndsOnNet (p : Program) (nodes : List Node) (lists : List (List Item)) (bytes : List ℕ) (ending : Ending) : Type 0 where
  pub case : Content
  pub of : setting_of case ≡ from_nothing p nodes lists
  pub replayed : IsReplayed case bytes ending

-- the bytes under a trace's name, which are read after the sources of a program: none, if it names the file of one
abbrev pub trace_in : List ℕ → Program → Contents → List ℕ
trace_in trace p left = bytes_left (emptied_each (files_of p.sources) left) trace

-- the trace under a name, read after the sources of a program, has this ending on the net of a plan over their items
abbrev pub EndsBehind : Program → List Node → List ℕ → Contents → Ending → Type 0
EndsBehind p nodes trace left ending = EndsOnNet p nodes (lists_of p left) (trace_in trace p left) ending

-- THE TRACE UNDER A NAME HAS THIS ENDING on the net of the command's plan: its job's text and its plan's are read first, then the
-- sources, and then the trace, so that a trace with the name of any of these files is empty
pub record ReplaysTo (command : Command) (trace : List ℕ) (left : Contents) (p : Program) (ending : Ending) : Type 0 where
  pub plan : List ℕ
  pub asked : plan_named command ≡ Some plan
  pub nodes : List Node
  pub has : HasPlan (job_wanted command) plan left p nodes
  pub ends : EndsBehind p nodes trace (emptied_each (texts_named command) left) ending

-- each trace that the command reads is complete
abbrev pub HasCompleteTrace : Command → Contents → Program → Type 0
HasCompleteTrace command left p = (trace : List ℕ) → trace_named command ≡ Some trace → ReplaysTo command trace left p Complete
