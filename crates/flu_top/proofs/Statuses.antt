-- What an outcome says at each status.
use Rattle.std.proofs.Common.{◌≡◌, ◌≢◌, ◌<◌, refl, sym, ap, ◌∙◌, subst, ℕ, List, [], ◌∷◌, Bool, true, false, Option, None, Ok, Err, inl, inr, ◌⊎◌, arith}
use Rattle.std.specs.Prelude.{Contains, IsTrue, ◌↔◌}
use Rattle.std.proofs.lemmas.Bool.{false≢true}
use Rattle.flu_model.specs.declared.jobs.Program.{Program}
use Rattle.flu_parse.specs.declared.faults.JobFault.{JobFault}
use Rattle.flu_streams.specs.declared.faults.SourceFault.{SourceFault}
use Rattle.flu_lines.specs.declared.refusals.PlanDefect.{PlanDefect}
use Rattle.flu_lines.specs.declared.refusals.SaveDefect.{SaveDefect}
use Rattle.flu_words.specs.Words.{Command, Fold, Check, Valid, Plan, Run, Simulate, Replay, Demo, command_in}
use Rattle.flu_command.specs.Reading.{Reading, Unread, Whole, InRounds}
use Rattle.flu_command.specs.Wants.{Saying, Nothing, Line, want, if_named, how_read, save_named, says_nothing, is_nothing, Writes, IsObservedText}
use Rattle.flu_command.specs.Wants.{IsSomePlanText}
use Rattle.flu_command.specs.Starting.{Leaves, LeavesAnything}
use Rattle.flu_command.specs.Done.{IsDone, Wrote, WroteSome, WroteUnsaved, WroteForMemory}
use Rattle.flu_command.specs.Simulating.{IsLineOfRun, IsStepLine}
use Rattle.flu_command.specs.Behind.{Named, HasJob}
use Rattle.flu_outside.specs.Outside.{Contents, WhereTold}
use Rattle.flu_outside.specs.Writing.{AppendsAll}
use Rattle.flu_lemmas.proofs.Told.{told_weaker}
use Rattle.flu_lines.specs.Lines.{bad_words_line}
use Rattle.flu_lines.specs.declared.statuses.Status.{Status}
use Rattle.flu_lines.specs.declared.statuses.Status.TheVariants as statuses
use Rattle.flu_lines.specs.Statuses.{code}
use Rattle.flu_top.specs.Outcome.{Ended, Outside, Said, Hears, Refused, Outcome}
use Rattle.flu_top.specs.Outcome as cases
use Rattle.flu_top.proofs.OneCommand.{same_command, no_command}

-- ---- the status of a number
one_number : (a b : Status) → code a ≡ code b → a ≡ b
one_number statuses.Done statuses.Done same = refl
one_number statuses.BadWords statuses.BadWords same = refl
one_number statuses.JobFault statuses.JobFault same = refl
one_number statuses.Conflict statuses.Conflict same = refl
one_number statuses.PlanDefect statuses.PlanDefect same = refl
one_number statuses.SourceFault statuses.SourceFault same = refl
one_number statuses.ReadFault statuses.ReadFault same = refl
one_number statuses.WriteFault statuses.WriteFault same = refl
one_number statuses.NoMemory statuses.NoMemory same = refl
one_number statuses.SaveDefect statuses.SaveDefect same = refl
one_number statuses.PutFault statuses.PutFault same = refl
one_number statuses.TraceFault statuses.TraceFault same = refl
one_number statuses.PartialDefect statuses.PartialDefect same = refl
one_number a b same = absurd (omega arith)

-- how a command ended, whose status has a number
pub ended_with : (words : List (List ℕ)) (old new : Outside) (number : ℕ) → Outcome words old new number → (command : Command) → command_in words ≡ Ok command
    → (status : Status) × (number ≡ code status) × Ended command old new status
ended_with words old new number (cases.OfCommand status is other also ended) command word =
    (status, is, subst (λ (d : Command). Ended d old new status) (same_command words other command also word) ended)
ended_with words old new number (cases.OfNone is at bad files refused) command word = absurd (no_command words command at word bad)

pub ended_at : (words : List (List ℕ)) (old new : Outside) (number : ℕ) → Outcome words old new number → (status : Status) → number ≡ code status
    → (command : Command) → command_in words ≡ Ok command → Ended command old new status
ended_at words old new number outcome status at command word =
    let found = ended_with words old new number outcome command word in
    subst (Ended command old new) (one_number found.0 status (sym found.1 ∙ at)) found.2

-- the command, where the status is that of one
pub command_at : (words : List (List ℕ)) (old new : Outside) (number : ℕ) → Outcome words old new number → (status : Status) → number ≡ code status
    → status ≢ statuses.BadWords → (command : Command) × (command_in words ≡ Ok command) × Ended command old new status
command_at words old new number (cases.OfCommand other is command word ended) status at apart =
    (command, word, subst (Ended command old new) (one_number other status (sym is ∙ at)) ended)
command_at words old new number (cases.OfNone is place bad files refused) status at apart =
    absurd (apart (one_number status statuses.BadWords (sym at ∙ is)))

pub no_command_at : (words : List (List ℕ)) (old new : Outside) (number : ℕ) → Outcome words old new number → number ≡ 2
    → (at : ℕ) × (command_in words ≡ Err at) × (new.left ≡ old.left) × Refused old new (bad_words_line at)
no_command_at words old new number (cases.OfCommand status is command word ended) two =
    absurd (subst (Ended command old new) (one_number status statuses.BadWords (sym is ∙ two)) ended)
no_command_at words old new number (cases.OfNone is at bad files refused) two = (at, bad, files, refused)

-- ---- what holds at more than one status
listed : (command : Command) (old new : Outside) (status : Status) → Ended command old new status
    → Contains (0 ∷ 2 ∷ 3 ∷ 4 ∷ 5 ∷ 6 ∷ 7 ∷ 8 ∷ 9 ∷ 11 ∷ 12 ∷ 13 ∷ []) (code status)
listed command old new statuses.Done ended = (0, omega arith, refl)
listed command old new statuses.BadWords ended = absurd ended
listed command old new statuses.JobFault ended = (2, omega arith, refl)
listed command old new statuses.Conflict ended = (3, omega arith, refl)
listed command old new statuses.PlanDefect ended = (4, omega arith, refl)
listed command old new statuses.SourceFault ended = (5, omega arith, refl)
listed command old new statuses.ReadFault ended = (6, omega arith, refl)
listed command old new statuses.WriteFault ended = (7, omega arith, refl)
listed command old new statuses.NoMemory ended = (8, omega arith, refl)
listed command old new statuses.SaveDefect ended = (9, omega arith, refl)
listed command old new statuses.PutFault ended = (10, omega arith, refl)
listed command old new statuses.TraceFault ended = (11, omega arith, refl)
listed command old new statuses.PartialDefect ended = absurd ended

pub known_status : (words : List (List ℕ)) (old new : Outside) (number : ℕ) → Outcome words old new number
    → Contains (0 ∷ 2 ∷ 3 ∷ 4 ∷ 5 ∷ 6 ∷ 7 ∷ 8 ∷ 9 ∷ 11 ∷ 12 ∷ 13 ∷ []) number
known_status words old new number (cases.OfCommand status is command word ended) =
    subst (Contains (0 ∷ 2 ∷ 3 ∷ 4 ∷ 5 ∷ 6 ∷ 7 ∷ 8 ∷ 9 ∷ 11 ∷ 12 ∷ 13 ∷ [])) (sym is) (listed command old new status ended)
known_status words old new number (cases.OfNone is at bad files refused) =
    subst (Contains (0 ∷ 2 ∷ 3 ∷ 4 ∷ 5 ∷ 6 ∷ 7 ∷ 8 ∷ 9 ∷ 11 ∷ 12 ∷ 13 ∷ [])) (sym is) (1, omega arith, refl)

-- where nothing is read in rounds nothing was written
wrote_unread : (reading : Reading) (text : List ℕ) (had has : Option (List ℕ)) → reading ≢ InRounds → Wrote reading text had has → has ≡ had
wrote_unread Unread text had has other wrote = wrote
wrote_unread Whole text had has other wrote = wrote
wrote_unread InRounds text had has other wrote = absurd (other refl)

some_unread : (reading : Reading) (command : Command) (a b : Option Contents) (had has : Option (List ℕ)) → reading ≢ InRounds
    → WroteSome reading command a b had has → has ≡ had
some_unread Unread command a b had has other some = some
some_unread Whole command a b had has other some = some
some_unread InRounds command a b had has other some = absurd (other refl)

-- and nothing is saved by a command that does not read in rounds
saves_nothing : (command : Command) → how_read command ≢ InRounds → save_named command ≡ None
saves_nothing (Fold job) other = refl
saves_nothing (Check job) other = refl
saves_nothing (Valid job plan) other = refl
saves_nothing (Plan job depth) other = refl
saves_nothing (Run job plan options) other = absurd (other refl)
saves_nothing (Simulate job plan seed trace) other = refl
saves_nothing (Replay job plan trace) other = refl
saves_nothing (Demo n seed) other = refl

unsaved_in_rounds : (Left : Option (List ℕ) → Contents → Contents → Type 0) (command : Command) (a b : Option Contents) (had has : Option (List ℕ))
    → how_read command ≢ InRounds → WroteUnsaved Left command a b had has → ⊥
unsaved_in_rounds Left command a b had has other wrote = wrote.saves (saves_nothing command other)

memory_unread : (command : Command) (a b : Option Contents) (had has : Option (List ℕ)) → how_read command ≢ InRounds
    → WroteForMemory (how_read command) command a b had has → has ≡ had
memory_unread command a b had has other (inl some) = some_unread (how_read command) command a b had has other some
memory_unread command a b had has other (inr wrote) = absurd (unsaved_in_rounds (Leaves command) command a b had has other wrote)

-- nothing is written at these statuses, except by a command that reads in rounds
unwritten_apart : (command : Command) (old new : Outside) (status : Status) → Ended command old new status → status ≢ statuses.Done
    → status ≢ statuses.WriteFault → how_read command ≢ InRounds → new.out ≡ old.out
unwritten_apart command old new statuses.Done ended some other apart = absurd (some refl)
unwritten_apart command old new statuses.BadWords ended some other apart = absurd ended
unwritten_apart command old new statuses.JobFault ended some other apart = ended.2.nothing
unwritten_apart command old new statuses.Conflict ended some other apart = ended.2.nothing
unwritten_apart command old new statuses.PlanDefect ended some other apart = ended.2.nothing
unwritten_apart command old new statuses.SourceFault ended some other apart =
    wrote_unread (how_read command) ended.2 old.out new.out apart ended.4
unwritten_apart command old new statuses.ReadFault ended some other apart =
    some_unread (how_read command) command old.left new.left old.out new.out apart ended.0
unwritten_apart command old new statuses.WriteFault ended some other apart = absurd (other refl)
unwritten_apart command old new statuses.NoMemory ended some other apart = memory_unread command old.left new.left old.out new.out apart ended.0
unwritten_apart command old new statuses.SaveDefect ended some other apart = ended.2.nothing
unwritten_apart command old new statuses.PutFault ended some other apart =
    absurd (unsaved_in_rounds LeavesAnything command old.left new.left old.out new.out apart ended.0)
unwritten_apart command old new statuses.TraceFault ended some other apart = ended.2.nothing
unwritten_apart command old new statuses.PartialDefect ended some other apart = absurd ended

pub nothing_written : (words : List (List ℕ)) (old new : Outside) (number : ℕ) → Outcome words old new number → number ≢ 0 → number ≢ 8
    → ((command : Command) → command_in words ≡ Ok command → how_read command ≢ InRounds) → new.out ≡ old.out
nothing_written words old new number (cases.OfCommand status is command word ended) some other apart =
    unwritten_apart command old new status ended (λ e. some (is ∙ ap code e)) (λ e. other (is ∙ ap code e)) (apart command word)
nothing_written words old new number (cases.OfNone is at bad files refused) some other apart = refused.nothing

-- nor at those below 6, at 11 and at 13, by any command
unwritten : (command : Command) (old new : Outside) (status : Status) → Ended command old new status → code status ≢ 0
    → (code status < 6) ⊎ ((code status ≡ 11) ⊎ (code status ≡ 13)) → new.out ≡ old.out
unwritten command old new statuses.Done ended some low = absurd (some refl)
unwritten command old new statuses.BadWords ended some low = absurd ended
unwritten command old new statuses.JobFault ended some low = ended.2.nothing
unwritten command old new statuses.Conflict ended some low = ended.2.nothing
unwritten command old new statuses.PlanDefect ended some low = ended.2.nothing
unwritten command old new statuses.SaveDefect ended some low = ended.2.nothing
unwritten command old new statuses.TraceFault ended some low = ended.2.nothing
unwritten command old new status ended some (inl low) = absurd (omega (arith, low))
unwritten command old new status ended some (inr (inl eleven)) = absurd (omega (arith, eleven))
unwritten command old new status ended some (inr (inr thirteen)) = absurd (omega (arith, thirteen))

pub refused_unwritten : (words : List (List ℕ)) (old new : Outside) (number : ℕ) → Outcome words old new number → number ≢ 0
    → (number < 6) ⊎ ((number ≡ 11) ⊎ (number ≡ 13)) → new.out ≡ old.out
refused_unwritten words old new number (cases.OfCommand status is command word ended) some low =
    unwritten command old new status ended (λ e. some (is ∙ e)) (subst (λ n. (n < 6) ⊎ ((n ≡ 11) ⊎ (n ≡ 13))) is low)
refused_unwritten words old new number (cases.OfNone is at bad files refused) some low = refused.nothing

-- words that are no command have status 2, and no others
same_place : (words : List (List ℕ)) (a b : ℕ) → command_in words ≡ Err a → command_in words ≡ Err b → a ≡ b
same_place words a b first second = let e = sym first ∙ second in cc

pub of_no_command : (words : List (List ℕ)) (old new : Outside) (number : ℕ) → Outcome words old new number → (at : ℕ) → command_in words ≡ Err at
    → (number ≡ 2) × Said old new (bad_words_line at)
of_no_command words old new number (cases.OfCommand status is command word ended) place bad = absurd (no_command words command place word bad)
of_no_command words old new number (cases.OfNone is at word files refused) place bad =
    (is, subst (λ n. Said old new (bad_words_line n)) (same_place words at place word bad) refused.said)

pub bad_words_exactly : (words : List (List ℕ)) (old new : Outside) (number : ℕ) → Outcome words old new number
    → (number ≡ 2) ↔ ((at : ℕ) × (command_in words ≡ Err at))
bad_words_exactly words old new number outcome =
    (λ is. let found = no_command_at words old new number outcome is in (found.0, found.1), λ bad. (of_no_command words old new number outcome bad.0 bad.1).0)

-- ---- what is said where a command is done
heard_nothing : (says : Saying) (old new : Outside) (line : List ℕ) → IsTrue (is_nothing says) → Hears says old new line → new.err ≡ old.err
heard_nothing Nothing old new line nothing heard = heard
heard_nothing (Line Is IsForm) old new line nothing heard = absurd (false≢true nothing)

pub quiet_at_0 : (words : List (List ℕ)) (old new : Outside) (status : ℕ) → Outcome words old new status → status ≡ 0
    → (command : Command) → command_in words ≡ Ok command → IsTrue (says_nothing command) → new.err ≡ old.err
quiet_at_0 words old new status outcome is command word nothing =
    let found = ended_at words old new status outcome statuses.Done is command word in
    heard_nothing (want command).says old new found.0 nothing found.2

pub heard_at_0 : (words : List (List ℕ)) (old new : Outside) (status : ℕ) → Outcome words old new status → status ≡ 0
    → (job plan : List ℕ) (seed : ℕ) (trace : Bool) → command_in words ≡ Ok (Simulate job plan seed trace)
    → (line : List ℕ) × IsStepLine line × Said old new line × WhereTold old.left new.left
    (λ left _. (p : Program) × HasJob (Named job) left p × IsLineOfRun job plan seed left p line)
heard_at_0 words old new status outcome is job plan seed trace word =
    let found = ended_at words old new status outcome statuses.Done is (Simulate job plan seed trace) word in
    let line = found.0 in
    let told = told_weaker (IsDone (Simulate job plan seed trace) old.out new.out line)
    (λ left _. (p : Program) × HasJob (Named job) left p × IsLineOfRun job plan seed left p line) old.left new.left
    (λ x y d. (d.0, d.2.good.has, d.4)) found.1 in
    (line, found.2.0, found.2.1, told)

pub adapted_at_0 : (words : List (List ℕ)) (old new : Outside) (status : ℕ) → Outcome words old new status → status ≡ 0
    → (job : List ℕ) (plan : Option (List ℕ)) (depth rows : ℕ) (save : Option (List ℕ)) (unflushed : Bool) (resume : Option (List ℕ))
    → command_in words ≡ Ok (Run job plan (record { depth = depth; rows = rows; adapt = true; save = save; unflushed = unflushed; resume = resume }))
    → (line : List ℕ) × IsSomePlanText line × Said old new line
    × WhereTold old.left new.left (λ left _. (p : Program) × HasJob (Named job) left p
    × ((text : List ℕ)
    × Writes (Run job plan (record { depth = depth; rows = rows; adapt = false; save = save; unflushed = unflushed; resume = resume })) left p text
    × WhereTold old.out new.out (AppendsAll text))
    × IsObservedText rows (job ∷ if_named plan) resume left p line)
adapted_at_0 words old new status outcome is job plan depth rows save unflushed resume word =
    let whole = Run job plan (record { depth = depth; rows = rows; adapt = true; save = save; unflushed = unflushed; resume = resume }) in
    let found = ended_at words old new status outcome statuses.Done is whole word in
    let line = found.0 in
    let told = told_weaker (IsDone whole old.out new.out line) (λ left _. (p : Program) × HasJob (Named job) left p
    × ((text : List ℕ)
    × Writes (Run job plan (record { depth = depth; rows = rows; adapt = false; save = save; unflushed = unflushed; resume = resume })) left p text
    × WhereTold old.out new.out (AppendsAll text))
    × IsObservedText rows (job ∷ if_named plan) resume left p line) old.left new.left (λ x y d. (d.0, d.2.good.has, (d.1, d.3, d.5), d.4)) found.1 in
    (line, found.2.0, found.2.1, told)
