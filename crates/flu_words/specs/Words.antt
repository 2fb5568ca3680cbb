-- The words of a command.
use Rattle.std.specs.Prelude.{ℕ, ◌+◌, ◌≤◌, ◌≡◌, List, [], ◌∷◌, Bool, true, false, not, ◌==◌, ◌&&◌, if◌then◌else◌, Option, Some, None, option_map, Result, Ok, Err, codes}
use Rattle.std.specs.Str.{bytes_eq}
use Rattle.flu_words.specs.declared.words.RunOptions.{RunOptions as NamedOptions}
use Rattle.flu_words.specs.declared.words.Command.{Command as NamedCommand}
use Rattle.flu_words.specs.declared.words.Command.TheVariants as named
use Rattle.flu_words.specs.Numbers.{depth_of, rows_of, seed_of, draws_of}

-- what else a run does: how deep its greedy plan may be if no plan is named, how many rows of each source make a round, whether its plan
-- follows what is observed, the name of the file that its checkpoints are put to, whether the flushes at each put are left out, and the
-- name of the checkpoint that it is resumed from
pub record RunOptions : Type 0 where
  pub depth : ℕ
  pub rows : ℕ
  pub adapt : Bool
  pub save : Option (List ℕ)
  pub unflushed : Bool
  pub resume : Option (List ℕ)

-- what the words ask for, each with the names of its files, of which a plan may be left out, how deep a plan may be, the seed of
-- what is drawn, whether the trace of a drawn run is asked for in place of its report, and how many events a demo draws
pub data Command : Type 0 where
  Fold : (job : List ℕ) → Command
  Check : (job : List ℕ) → Command
  Valid : (job plan : List ℕ) → Command
  Plan : (job : List ℕ) → (depth : ℕ) → Command
  Run : (job : List ℕ) → (plan : Option (List ℕ)) → (options : RunOptions) → Command
  Simulate : (job plan : List ℕ) → (seed : ℕ) → (trace : Bool) → Command
  Replay : (job plan trace : List ℕ) → Command
  Demo : (n seed : ℕ) → Command

-- a run's options without the places of their names in memory
abbrev pub plain_options : NamedOptions → RunOptions
plain_options options = record {
  depth = options.depth.levels;
  rows = options.rows.count;
  adapt = options.adapt;
  save = option_map (λ name. name.now) options.save;
  unflushed = options.unflushed;
  resume = option_map (λ name. name.now) options.resume;
}

-- a command without the places of its names in memory
abbrev pub plain_command : NamedCommand → Command
plain_command (named.Fold job) = Fold job.now
plain_command (named.Check job) = Check job.now
plain_command (named.Valid job plan) = Valid job.now plan.now
plain_command (named.Plan job depth) = Plan job.now depth.levels
plain_command (named.Run job plan options) = Run job.now (option_map (λ name. name.now) plan) (plain_options options)
plain_command (named.Simulate job plan seed trace) = Simulate job.now plan.now seed.number trace
plain_command (named.Replay job plan trace) = Replay job.now plan.now trace.now
plain_command (named.Demo n seed) = Demo n.count seed.number

-- a word that can name a file: it is not empty and does not begin with a dash
abbrev pub is_file_name : List ℕ → Bool
is_file_name [] = false
is_file_name (c ∷ cs) = not (c == 45)

abbrev pub no_word_after : List ℕ → List (List ℕ) → Result (List ℕ) ℕ
no_word_after job [] = Ok job
no_word_after job (w ∷ ws) = Err 2

-- the job's name in the words after a command that has no others
abbrev pub job_alone : List (List ℕ) → Result (List ℕ) ℕ
job_alone [] = Err 1
job_alone (w ∷ ws) = if is_file_name w then no_word_after w ws else Err 1

abbrev pub on_job : (List ℕ → Command) → Result (List ℕ) ℕ → Result Command ℕ
on_job command (Ok job) = Ok (command job)
on_job command (Err at) = Err at

abbrev pub no_word_after_both : List ℕ → List ℕ → List (List ℕ) → Result (List ℕ × List ℕ) ℕ
no_word_after_both job plan [] = Ok (job, plan)
no_word_after_both job plan (w ∷ ws) = Err 3

abbrev pub plan_after : List ℕ → List (List ℕ) → Result (List ℕ × List ℕ) ℕ
plan_after job [] = Err 2
plan_after job (w ∷ ws) = if is_file_name w then no_word_after_both job w ws else Err 2

-- the names of a job and a plan in the words after a command that has no others
abbrev pub job_and_plan : List (List ℕ) → Result (List ℕ × List ℕ) ℕ
job_and_plan [] = Err 1
job_and_plan (w ∷ ws) = if is_file_name w then plan_after w ws else Err 1

abbrev pub on_both : (List ℕ → List ℕ → Command) → Result (List ℕ × List ℕ) ℕ → Result Command ℕ
on_both command (Ok names) = Ok (command names.0 names.1)
on_both command (Err at) = Err at

-- the number that the word at a place is, with the words after it
abbrev pub no_word_after_number : ℕ → Option ℕ → List (List ℕ) → Result ℕ ℕ
no_word_after_number at None ws = Err at
no_word_after_number at (Some n) [] = Ok n
no_word_after_number at (Some n) (w ∷ ws) = Err (at + 1)

-- A depth, the place of the first word after it, and the words from there on.
abbrev pub DepthBegun : Type 0
DepthBegun = ℕ × ℕ × List (List ℕ)

abbrev pub depth_from : ℕ → Option ℕ → List (List ℕ) → Result DepthBegun ℕ
depth_from at None ws = Err at
depth_from at (Some depth) ws = Ok (depth, at + 1, ws)

abbrev pub depth_at : ℕ → List (List ℕ) → Result DepthBegun ℕ
depth_at at [] = Err at
depth_at at (w ∷ ws) = depth_from at (depth_of w) ws

-- the depth that the words from a place on begin with: the one after `--depth`, and 3 if they don't begin with that
abbrev pub depth_and_rest : ℕ → List (List ℕ) → Result DepthBegun ℕ
depth_and_rest at [] = Ok (3, at, [])
depth_and_rest at (w ∷ ws) = if bytes_eq w (codes "--depth") then depth_at (at + 1) ws else Ok (3, at, w ∷ ws)

abbrev pub no_word_after_depth : ℕ → ℕ → List (List ℕ) → Result ℕ ℕ
no_word_after_depth depth at [] = Ok depth
no_word_after_depth depth at (w ∷ ws) = Err at

abbrev pub depth_alone : Result DepthBegun ℕ → Result ℕ ℕ
depth_alone (Ok begun) = no_word_after_depth begun.0 begun.1 begun.2
depth_alone (Err at) = Err at

-- the depth in the words after a job's name, which have no others
abbrev pub depth_after : List (List ℕ) → Result ℕ ℕ
depth_after ws = depth_alone (depth_and_rest 2 ws)

abbrev pub with_job : List ℕ → Result ℕ ℕ → Result (List ℕ × ℕ) ℕ
with_job job (Ok depth) = Ok (job, depth)
with_job job (Err at) = Err at

-- the name of a job and a depth in the words after a command that has no others
abbrev pub job_and_depth : List (List ℕ) → Result (List ℕ × ℕ) ℕ
job_and_depth [] = Err 1
job_and_depth (w ∷ ws) = if is_file_name w then with_job w (depth_after ws) else Err 1

abbrev pub on_depth : (List ℕ → ℕ → Command) → Result (List ℕ × ℕ) ℕ → Result Command ℕ
on_depth command (Ok both) = Ok (command both.0 both.1)
on_depth command (Err at) = Err at

-- whether a plan's file, if one is named, has another name than a word
abbrev pub is_no_plan : Option (List ℕ) → List ℕ → Bool
is_no_plan None w = true
is_no_plan (Some plan) w = not (bytes_eq w plan)

-- a word that names a file, which is neither the job's nor the plan's
abbrev pub is_other_file : List ℕ → Option (List ℕ) → List ℕ → Bool
is_other_file job plan w = is_file_name w && not (bytes_eq w job) && is_no_plan plan w

-- What words begin with, if anything: a name; the place of the first word after it, and the words from there on.
abbrev pub Begun : Type 0
Begun = Option (List ℕ) × ℕ × List (List ℕ)

abbrev pub plan_and_rest : List (List ℕ) → Begun
plan_and_rest [] = (None, 2, [])
plan_and_rest (w ∷ ws) = if is_file_name w then (Some w, 3, ws) else (None, 2, w ∷ ws)

abbrev pub file_behind : List ℕ → Option (List ℕ) → ℕ → List (List ℕ) → Result Begun ℕ
file_behind job plan at [] = Err at
file_behind job plan at (w ∷ ws) = if is_other_file job plan w then Ok (Some w, at + 1, ws) else Err at

-- the file after an option, in the words from a place on, which may begin with that option
abbrev pub file_after : List ℕ → List ℕ → Option (List ℕ) → ℕ → List (List ℕ) → Result Begun ℕ
file_after option job plan at [] = Ok (None, at, [])
file_after option job plan at (w ∷ ws) = if bytes_eq w option then file_behind job plan (at + 1) ws else Ok (None, at, w ∷ ws)

-- the depth of the greedy plan in the words from a place on, which may give one only if no plan is named
abbrev pub depth_without : Option (List ℕ) → ℕ → List (List ℕ) → Result DepthBegun ℕ
depth_without (Some plan) at ws = Ok (3, at, ws)
depth_without None at ws = depth_and_rest at ws

-- How many rows make a round, the place of the first word after that, and the words from there on.
abbrev pub RowsBegun : Type 0
RowsBegun = ℕ × ℕ × List (List ℕ)

abbrev pub rows_from : ℕ → Option ℕ → List (List ℕ) → Result RowsBegun ℕ
rows_from at None ws = Err at
rows_from at (Some rows) ws = Ok (rows, at + 1, ws)

abbrev pub rows_at : ℕ → List (List ℕ) → Result RowsBegun ℕ
rows_at at [] = Err at
rows_at at (w ∷ ws) = rows_from at (rows_of w) ws

-- how many rows of each source make a round in the words from a place on: the number after `--round`, and 4096 if they don't begin with
-- that
abbrev pub rows_and_rest : ℕ → List (List ℕ) → Result RowsBegun ℕ
rows_and_rest at [] = Ok (4096, at, [])
rows_and_rest at (w ∷ ws) = if bytes_eq w (codes "--round") then rows_at (at + 1) ws else Ok (4096, at, w ∷ ws)

-- whether the words from a place on begin with an option that has no value
abbrev pub option_and_rest : List ℕ → ℕ → List (List ℕ) → Bool × ℕ × List (List ℕ)
option_and_rest option at [] = (false, at, [])
option_and_rest option at (w ∷ ws) = if bytes_eq w option then (true, at + 1, ws) else (false, at, w ∷ ws)

-- whether the flushes are left out, which the words from a place on may say only right after the file of `--save`
abbrev pub unflushed_after : Option (List ℕ) → ℕ → List (List ℕ) → Bool × ℕ × List (List ℕ)
unflushed_after None at ws = (false, at, ws)
unflushed_after (Some file) at ws = option_and_rest (codes "--unflushed") at ws

abbrev pub no_word_after_options : RunOptions → ℕ → List (List ℕ) → Result RunOptions ℕ
no_word_after_options options at [] = Ok options
no_word_after_options options at (w ∷ ws) = Err at

abbrev pub with_resume : ℕ → ℕ → Bool → Option (List ℕ) → Bool → Result Begun ℕ → Result RunOptions ℕ
with_resume depth rows adapt save unflushed (Ok begun) = no_word_after_options
    (record { depth = depth; rows = rows; adapt = adapt; save = save; unflushed = unflushed; resume = begun.0 }) begun.1 begun.2
with_resume depth rows adapt save unflushed (Err at) = Err at

abbrev pub with_unflushed : List ℕ → Option (List ℕ) → ℕ → ℕ → Bool → Option (List ℕ) → Bool × ℕ × List (List ℕ) → Result RunOptions ℕ
with_unflushed job plan depth rows adapt save begun =
    with_resume depth rows adapt save begun.0 (file_after (codes "--resume") job plan begun.1 begun.2)

abbrev pub with_save : List ℕ → Option (List ℕ) → ℕ → ℕ → Bool → Result Begun ℕ → Result RunOptions ℕ
with_save job plan depth rows adapt (Ok begun) = with_unflushed job plan depth rows adapt begun.0 (unflushed_after begun.0 begun.1 begun.2)
with_save job plan depth rows adapt (Err at) = Err at

abbrev pub with_adapt : List ℕ → Option (List ℕ) → ℕ → ℕ → Bool × ℕ × List (List ℕ) → Result RunOptions ℕ
with_adapt job plan depth rows begun = with_save job plan depth rows begun.0 (file_after (codes "--save") job plan begun.1 begun.2)

abbrev pub with_rows : List ℕ → Option (List ℕ) → ℕ → Result RowsBegun ℕ → Result RunOptions ℕ
with_rows job plan depth (Ok begun) = with_adapt job plan depth begun.0 (option_and_rest (codes "--adapt") begun.1 begun.2)
with_rows job plan depth (Err at) = Err at

abbrev pub with_depth : List ℕ → Option (List ℕ) → Result DepthBegun ℕ → Result RunOptions ℕ
with_depth job plan (Ok begun) = with_rows job plan begun.0 (rows_and_rest begun.1 begun.2)
with_depth job plan (Err at) = Err at

-- the options of a run in the words from a place on, which have no others
abbrev pub run_options : List ℕ → Option (List ℕ) → ℕ → List (List ℕ) → Result RunOptions ℕ
run_options job plan at ws = with_depth job plan (depth_without plan at ws)

abbrev pub on_options : (RunOptions → Command) → Result RunOptions ℕ → Result Command ℕ
on_options command (Ok options) = Ok (command options)
on_options command (Err at) = Err at

abbrev pub run_of : List ℕ → Begun → Result Command ℕ
run_of job begun = on_options (Run job begun.0) (run_options job begun.0 begun.1 begun.2)

-- the name of a job, the name of a plan if there is one, and a run's options in the words after `run`
abbrev pub run_command : List (List ℕ) → Result Command ℕ
run_command [] = Err 1
run_command (w ∷ ws) = if is_file_name w then run_of w (plan_and_rest ws) else Err 1

-- the seed in the words from a place on, which have no others
abbrev pub seed_alone : ℕ → List (List ℕ) → Result ℕ ℕ
seed_alone at [] = Err at
seed_alone at (w ∷ ws) = no_word_after_number at (seed_of w) ws

abbrev pub on_seed : (ℕ → Command) → Result ℕ ℕ → Result Command ℕ
on_seed command (Ok seed) = Ok (command seed)
on_seed command (Err at) = Err at

-- whether a trace is asked for, in the words after a seed: `--trace` alone asks for it
abbrev pub no_word_after_option : List (List ℕ) → Result Bool ℕ
no_word_after_option [] = Ok true
no_word_after_option (w ∷ ws) = Err 5

abbrev pub trace_after : List (List ℕ) → Result Bool ℕ
trace_after [] = Ok false
trace_after (w ∷ ws) = if bytes_eq w (codes "--trace") then no_word_after_option ws else Err 4

abbrev pub on_option : (Bool → Command) → Result Bool ℕ → Result Command ℕ
on_option command (Ok asked) = Ok (command asked)
on_option command (Err at) = Err at

abbrev pub simulation_from : List ℕ → List ℕ → Option ℕ → List (List ℕ) → Result Command ℕ
simulation_from job plan None ws = Err 3
simulation_from job plan (Some seed) ws = on_option (Simulate job plan seed) (trace_after ws)

abbrev pub simulation_of : List ℕ → List ℕ → List (List ℕ) → Result Command ℕ
simulation_of job plan [] = Err 3
simulation_of job plan (w ∷ ws) = simulation_from job plan (seed_of w) ws

abbrev pub plan_and_others : List ℕ → List (List ℕ) → Result (List ℕ × List ℕ × List (List ℕ)) ℕ
plan_and_others job [] = Err 2
plan_and_others job (w ∷ ws) = if is_file_name w then Ok (job, w, ws) else Err 2

-- the names of a job and a plan that the words after a command begin with, and the words after them
abbrev pub both_and_rest : List (List ℕ) → Result (List ℕ × List ℕ × List (List ℕ)) ℕ
both_and_rest [] = Err 1
both_and_rest (w ∷ ws) = if is_file_name w then plan_and_others w ws else Err 1

abbrev pub on_rest : (List ℕ → List ℕ → List (List ℕ) → Result Command ℕ) → Result (List ℕ × List ℕ × List (List ℕ)) ℕ → Result Command ℕ
on_rest command (Ok begun) = command begun.0 begun.1 begun.2
on_rest command (Err at) = Err at

-- the names of a job and a plan, a seed and the option if there is one, in the words after `simulate`
abbrev pub simulation : List (List ℕ) → Result Command ℕ
simulation ws = on_rest simulation_of (both_and_rest ws)

abbrev pub no_word_after_trace : List ℕ → List ℕ → List ℕ → List (List ℕ) → Result Command ℕ
no_word_after_trace job plan trace [] = Ok (Replay job plan trace)
no_word_after_trace job plan trace (w ∷ ws) = Err 4

abbrev pub replay_of : List ℕ → List ℕ → List (List ℕ) → Result Command ℕ
replay_of job plan [] = Err 3
replay_of job plan (w ∷ ws) = if is_file_name w then no_word_after_trace job plan w ws else Err 3

-- the names of a job, a plan and a trace in the words after `replay`
abbrev pub replay : List (List ℕ) → Result Command ℕ
replay ws = on_rest replay_of (both_and_rest ws)

abbrev pub demo_with : Option ℕ → List (List ℕ) → Result Command ℕ
demo_with None ws = Err 1
demo_with (Some n) ws = on_seed (Demo n) (seed_alone 2 ws)

-- the number of events and the seed in the words after `demo`
abbrev pub demo : List (List ℕ) → Result Command ℕ
demo [] = Err 1
demo (w ∷ ws) = demo_with (draws_of w) ws

abbrev pub command_of : List ℕ → List (List ℕ) → Result Command ℕ
command_of w ws =
    if bytes_eq w (codes "fold") then on_job Fold (job_alone ws)
    else if bytes_eq w (codes "check") then on_job Check (job_alone ws)
    else if bytes_eq w (codes "valid") then on_both Valid (job_and_plan ws)
    else if bytes_eq w (codes "plan") then on_depth Plan (job_and_depth ws)
    else if bytes_eq w (codes "run") then run_command ws
    else if bytes_eq w (codes "simulate") then simulation ws
    else if bytes_eq w (codes "replay") then replay ws
    else if bytes_eq w (codes "demo") then demo ws else Err 0

-- the command that words are, or the number from 0 of the first word that does not fit, which is the number of words if
-- one is missing
abbrev pub command_in : List (List ℕ) → Result Command ℕ
command_in [] = Err 0
command_in (w ∷ ws) = command_of w ws

-- LAW OF ROUNDS: a run that words ask for has rounds of 1 to 4096 rows of each source
abbrev pub RoundsHaveRows : Type 0
RoundsHaveRows =
    (words : List (List ℕ)) (job : List ℕ) (plan : Option (List ℕ)) (options : RunOptions) → command_in words ≡ Ok (Run job plan options)
    → (1 ≤ options.rows) × (options.rows ≤ 4096)
