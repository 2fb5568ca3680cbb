-- How many rows make a round in each command that words are.
use Rattle.std.proofs.Common.{◌≡◌, ℕ, ◌≤◌, ◌+◌, Bool, true, false, cond, List, [], ◌∷◌, Option, Some, None, Result, Ok, Err, subst, ap, refl, arith}
use Rattle.std.specs.Prelude.{length, not, ◌&&◌, ◌==◌, nat_le, codes, ⊤}
use Rattle.std.specs.Char.{is_ascii_digit}
use Rattle.std.specs.List.{list_all}
use Rattle.std.specs.Str.{bytes_eq}
use Rattle.std.specs.Str.Parse.{digits_value}
use Rattle.std.proofs.lemmas.Grind.{common_steps}
use Rattle.flu_lemmas.proofs.Tests.{and_right, true_le}
use Rattle.flu_words.specs.Numbers.{number_of, not_zero, rows_of, draws_of, seed_of}
use Rattle.flu_words.specs.Words.{Command, Fold, Check, Valid, Plan, Run, Simulate, Replay, Demo, RunOptions, Begun, DepthBegun, RowsBegun, RoundsHaveRows}
use Rattle.flu_words.specs.Words.{on_job, on_both, on_depth, on_options, on_seed, on_option, on_rest, run_of, run_options, run_command, simulation_from, simulation_of}
use Rattle.flu_words.specs.Words.{replay_of, no_word_after_trace, demo_with, demo, command_of, command_in, rows_from, rows_at, rows_and_rest}
use Rattle.flu_words.specs.Words.{no_word_after_options, with_resume, with_save, with_rows, with_depth, is_file_name}
use Rattle.flu_words.specs.Words.{file_after, unflushed_after, option_and_rest, depth_without, plan_and_rest, both_and_rest, trace_after, seed_alone}
use Rattle.flu_words.specs.Words.{job_alone, job_and_plan, job_and_depth}

-- ---- the number
abbrev FitRows : ℕ → Type 0
FitRows n = (1 ≤ n) × (n ≤ 4096)

kept : (b : Bool) (v n : ℕ) → cond b (Some v) None ≡ Some n → (b ≡ true) × (v ≡ n)
kept true v n e = (refl, cc)
kept false v n e = absurd cc

left_out : (b : Bool) (v n : ℕ) → cond b None (Some v) ≡ Some n → (b ≡ false) × (v ≡ n)
left_out true v n e = absurd cc
left_out false v n e = (refl, cc)

within : (digits : List ℕ) (n : ℕ) → number_of 4096 digits ≡ Some n → n ≤ 4096
unfolding number_of
within digits n is =
    let some = not (length digits == 0) in
    let short = nat_le (length digits) 10 in
    let plain = list_all is_ascii_digit digits in
    let small = nat_le (digits_value 10 digits) 4096 in
    let both = kept (some && short && plain && small) (digits_value 10 digits) n is in
    subst (λ (v : ℕ). v ≤ 4096) both.1 (true_le (digits_value 10 digits) 4096 (and_right (some && short && plain) small both.0))

not_none : (k : ℕ) → (k == 0) ≡ false → 1 ≤ k
not_none k e = grind (arith, common_steps)

above_zero : (found : Option ℕ) (n : ℕ) → not_zero found ≡ Some n → (1 ≤ n) × (found ≡ Some n)
above_zero None n is = absurd cc
above_zero (Some k) n is = let both = left_out (k == 0) k n is in (subst (λ (v : ℕ). 1 ≤ v) both.1 (not_none k both.0), ap Some both.1)

fit : (digits : List ℕ) (n : ℕ) → rows_of digits ≡ Some n → FitRows n
fit digits n is = let some = above_zero (number_of 4096 digits) n is in (some.0, within digits n some.1)

-- ---- the options of a run
abbrev RowsFit : Result RowsBegun ℕ → Type 0
RowsFit (Ok begun) = FitRows begun.0
RowsFit (Err at) = ⊤

abbrev OptionsFit : Result RunOptions ℕ → Type 0
OptionsFit (Ok options) = FitRows options.rows
OptionsFit (Err at) = ⊤

either_rows : (b : Bool) (x y : Result RowsBegun ℕ) → RowsFit x → RowsFit y → RowsFit (cond b x y)
either_rows true x y hx hy = hx
either_rows false x y hx hy = hy

from_fits : (at : ℕ) (found : Option ℕ) (ws : List (List ℕ)) → ((n : ℕ) → found ≡ Some n → FitRows n) → RowsFit (rows_from at found ws)
from_fits at None ws all = tt
from_fits at (Some n) ws all = all n refl

at_fits : (at : ℕ) (ws : List (List ℕ)) → RowsFit (rows_at at ws)
at_fits at [] = tt
at_fits at (w ∷ ws) = from_fits at (rows_of w) ws (fit w)

usual : FitRows 4096
usual = (omega arith, omega arith)

rest_fits : (at : ℕ) (ws : List (List ℕ)) → RowsFit (rows_and_rest at ws)
rest_fits at [] = usual
rest_fits at (w ∷ ws) = either_rows (bytes_eq w (codes "--round")) (rows_at (at + 1) ws) (Ok (4096, at, w ∷ ws)) (at_fits (at + 1) ws) usual

end_fits : (options : RunOptions) (at : ℕ) (ws : List (List ℕ)) → FitRows options.rows → OptionsFit (no_word_after_options options at ws)
end_fits options at [] fits = fits
end_fits options at (w ∷ ws) fits = tt

resume_fits : (depth rows : ℕ) (adapt : Bool) (save : Option (List ℕ)) (unflushed : Bool) (r : Result Begun ℕ) → FitRows rows
    → OptionsFit (with_resume depth rows adapt save unflushed r)
resume_fits depth rows adapt save unflushed (Ok begun) fits =
    end_fits (record { depth = depth; rows = rows; adapt = adapt; save = save; unflushed = unflushed; resume = begun.0 }) begun.1 begun.2 fits
resume_fits depth rows adapt save unflushed (Err at) fits = tt

save_fits : (job : List ℕ) (plan : Option (List ℕ)) (depth rows : ℕ) (adapt : Bool) (r : Result Begun ℕ) → FitRows rows
    → OptionsFit (with_save job plan depth rows adapt r)
save_fits job plan depth rows adapt (Ok begun) fits =
    let after = unflushed_after begun.0 begun.1 begun.2 in
    resume_fits depth rows adapt begun.0 after.0 (file_after (codes "--resume") job plan after.1 after.2) fits
save_fits job plan depth rows adapt (Err at) fits = tt

rows_fit : (job : List ℕ) (plan : Option (List ℕ)) (depth : ℕ) (r : Result RowsBegun ℕ) → RowsFit r → OptionsFit (with_rows job plan depth r)
rows_fit job plan depth (Ok begun) fits =
    let after = option_and_rest (codes "--adapt") begun.1 begun.2 in
    save_fits job plan depth begun.0 after.0 (file_after (codes "--save") job plan after.1 after.2) fits
rows_fit job plan depth (Err at) fits = tt

depth_fits : (job : List ℕ) (plan : Option (List ℕ)) (r : Result DepthBegun ℕ) → OptionsFit (with_depth job plan r)
depth_fits job plan (Ok begun) = rows_fit job plan begun.0 (rows_and_rest begun.1 begun.2) (rest_fits begun.1 begun.2)
depth_fits job plan (Err at) = tt

-- ---- commands
abbrev CommandFits : Command → Type 0
CommandFits (Fold job) = ⊤
CommandFits (Check job) = ⊤
CommandFits (Valid job plan) = ⊤
CommandFits (Plan job depth) = ⊤
CommandFits (Run job plan options) = FitRows options.rows
CommandFits (Simulate job plan seed trace) = ⊤
CommandFits (Replay job plan trace) = ⊤
CommandFits (Demo n seed) = ⊤

abbrev Fits : Result Command ℕ → Type 0
Fits (Ok command) = CommandFits command
Fits (Err at) = ⊤

either : (b : Bool) (x y : Result Command ℕ) → Fits x → Fits y → Fits (cond b x y)
either true x y hx hy = hx
either false x y hx hy = hy

run_fits : (job : List ℕ) (plan : Option (List ℕ)) (r : Result RunOptions ℕ) → OptionsFit r → Fits (on_options (Run job plan) r)
run_fits job plan (Ok options) fits = fits
run_fits job plan (Err at) fits = tt

run_command_fits : (ws : List (List ℕ)) → Fits (run_command ws)
run_command_fits [] = tt
run_command_fits (w ∷ ws) =
    let begun = plan_and_rest ws in
    either (is_file_name w) (run_of w begun) (Err 1)
    (run_fits w begun.0 (run_options w begun.0 begun.1 begun.2) (depth_fits w begun.0 (depth_without begun.0 begun.1 begun.2))) tt

fold_fits : (r : Result (List ℕ) ℕ) → Fits (on_job Fold r)
fold_fits (Ok job) = tt
fold_fits (Err at) = tt

check_fits : (r : Result (List ℕ) ℕ) → Fits (on_job Check r)
check_fits (Ok job) = tt
check_fits (Err at) = tt

valid_fits : (r : Result (List ℕ × List ℕ) ℕ) → Fits (on_both Valid r)
valid_fits (Ok names) = tt
valid_fits (Err at) = tt

plan_fits : (r : Result (List ℕ × ℕ) ℕ) → Fits (on_depth Plan r)
plan_fits (Ok both) = tt
plan_fits (Err at) = tt

option_fits : (job plan : List ℕ) (seed : ℕ) (r : Result Bool ℕ) → Fits (on_option (Simulate job plan seed) r)
option_fits job plan seed (Ok asked) = tt
option_fits job plan seed (Err at) = tt

seeded_fits : (job plan : List ℕ) (seed : Option ℕ) (ws : List (List ℕ)) → Fits (simulation_from job plan seed ws)
seeded_fits job plan None ws = tt
seeded_fits job plan (Some seed) ws = option_fits job plan seed (trace_after ws)

simulation_fits : (r : Result (List ℕ × List ℕ × List (List ℕ)) ℕ) → Fits (on_rest simulation_of r)
simulation_fits (Ok (job, plan, [])) = tt
simulation_fits (Ok (job, plan, w ∷ ws)) = seeded_fits job plan (seed_of w) ws
simulation_fits (Err at) = tt

trace_fits : (job plan trace : List ℕ) (ws : List (List ℕ)) → Fits (no_word_after_trace job plan trace ws)
trace_fits job plan trace [] = tt
trace_fits job plan trace (w ∷ ws) = tt

replay_fits : (r : Result (List ℕ × List ℕ × List (List ℕ)) ℕ) → Fits (on_rest replay_of r)
replay_fits (Ok (job, plan, [])) = tt
replay_fits (Ok (job, plan, w ∷ ws)) = either (is_file_name w) (no_word_after_trace job plan w ws) (Err 3) (trace_fits job plan w ws) tt
replay_fits (Err at) = tt

demo_seed_fits : (n : ℕ) (r : Result ℕ ℕ) → Fits (on_seed (Demo n) r)
demo_seed_fits n (Ok seed) = tt
demo_seed_fits n (Err at) = tt

demo_number_fits : (n : Option ℕ) (ws : List (List ℕ)) → Fits (demo_with n ws)
demo_number_fits None ws = tt
demo_number_fits (Some n) ws = demo_seed_fits n (seed_alone 2 ws)

demo_fits : (ws : List (List ℕ)) → Fits (demo ws)
demo_fits [] = tt
demo_fits (w ∷ ws) = demo_number_fits (draws_of w) ws

command_fits : (w : List ℕ) (ws : List (List ℕ)) → Fits (command_of w ws)
command_fits w ws =
    either (bytes_eq w (codes "fold")) _ _ (fold_fits (job_alone ws))
    (either (bytes_eq w (codes "check")) _ _ (check_fits (job_alone ws))
    (either (bytes_eq w (codes "valid")) _ _ (valid_fits (job_and_plan ws))
    (either (bytes_eq w (codes "plan")) _ _ (plan_fits (job_and_depth ws))
    (either (bytes_eq w (codes "run")) _ _ (run_command_fits ws)
    (either (bytes_eq w (codes "simulate")) _ _ (simulation_fits (both_and_rest ws))
    (either (bytes_eq w (codes "replay")) _ _ (replay_fits (both_and_rest ws))
    (either (bytes_eq w (codes "demo")) _ (Err 0) (demo_fits ws) tt)))))))

all_fit : (words : List (List ℕ)) → Fits (command_in words)
all_fit [] = tt
all_fit (w ∷ ws) = command_fits w ws

pub rounds_have_rows : RoundsHaveRows
rounds_have_rows words job plan options is = subst Fits is (all_fit words)
