-- How the rounds of a job's sources end, what they have written, what they have put, and what is said about them.
use Rattle.std.specs.Prelude.{◌≡◌, ◌≢◌, ◌<◌, ◌-◌, ◌+◌, ◌^◌, ◌≤◌, ◌++◌, ◌⊎◌, ℕ, Bool, true, false, List, [], ◌∷◌, length, Option, Some, None, option_map}
use Rattle.std.specs.Prelude.{Result, Ok, Err, Contains, IsTrue, ⊤}
use Rattle.std.specs.Option.{option_map_or}
use Rattle.flu_outside.specs.declared.files.PutFault.TheVariants.{Failed, NoMemory as NoMemoryToPut}
use Rattle.flu_outside.specs.Outside.{Contents as Files, WhereTold, Rose, Puts, SameLeft, SameCounts}
use Rattle.flu_outside.specs.Taking.{bytes_left, TookAtMost, TookFronts}
use Rattle.flu_outside.specs.Writing.{AppendsAll}
use Rattle.flu_adaptive.specs.Notes.{AdaptiveNote}
use Rattle.flu_adaptive.specs.Observed.{IsObservedPlan}
use Rattle.flu_cells.specs.Holding.{held}
use Rattle.flu_deps.specs.Checking.{program_of}
use Rattle.flu_model.specs.declared.events.Item.{Item}
use Rattle.flu_model.specs.declared.jobs.Program.{Program}
use Rattle.flu_model.specs.declared.plans.Node.{Node}
use Rattle.flu_model.specs.Contents.{Contents, nothing_held}
use Rattle.flu_model.specs.Folding.{final_state, final_outputs}
use Rattle.flu_model.specs.Reports.{report}
use Rattle.flu_model.specs.Sorts.{IsStateOf}
use Rattle.flu_plan.specs.Printing.{printed}
use Rattle.flu_streams.specs.declared.border.Border.{Border}
use Rattle.flu_streams.specs.declared.border.Border.TheVariants.{At, Closed}
use Rattle.flu_streams.specs.declared.faults.SourceFault.{SourceFault}
use Rattle.flu_streams.specs.declared.held.Stage.TheVariants.{Filling}
use Rattle.flu_streams.specs.Counts.{grown, grown_in_turn, no_counts}
use Rattle.flu_streams.specs.Files.{files_of, LeavesOthers}
use Rattle.flu_streams.specs.Good.{lists_of}
use Rattle.flu_rounds.specs.declared.faults.RoundsFault.TheVariants.{Source, ReadFault, WriteFault, NoMemory}
use Rattle.flu_rounds.specs.Coming.{CameFrom, lists_above}
use Rattle.flu_rounds.specs.Written.{AreSound, lines_in}
use Rattle.flu_rounds.specs.Standing.{Standing}
use Rattle.flu_save.specs.declared.fault.SaveFault.TheVariants as saves
use Rattle.flu_save.specs.Checkpoint.{save}
use Rattle.flu_save.specs.Forms.{IsFaultOf}
use Rattle.flu_top.specs.declared.openings.Opening.{Opening as NamedOpening}
use Rattle.flu_lines.specs.declared.products.Said.{Said}
use Rattle.flu_top.specs.declared.running.RunFault.{RunFault}
use Rattle.flu_top.specs.declared.running.RunFault.TheVariants.{Round, Unsaved}
use Rattle.flu_lines.specs.declared.refusals.Refusal.{Refusal}
use Rattle.flu_lines.specs.declared.refusals.Refusal.TheVariants as refusals
use Rattle.flu_lines.specs.declared.refusals.SaveDefect.TheVariants as defects
use Rattle.flu_command.specs.Behind.{Named, HasJob}
use Rattle.flu_command.specs.Done.{AppendsInto, HasValidPlan}
use Rattle.flu_top.specs.Ending.{Call}
use Rattle.flu_lines.specs.Jobs.{program_read}
use Rattle.flu_command.specs.Openings.{Opening, Opens}
use Rattle.flu_lines.specs.Products.{line_of_said, line_said}
use Rattle.flu_command.specs.Reading.{HaveWritten, MeetsDefect, ReportsNext, greatest_border}
use Rattle.flu_command.specs.Ready.{AreTextsRead}
use Rattle.flu_command.specs.Starting.{LeavesPut, LeavesAnything}
use Rattle.flu_command.specs.Taking.{TookOnly, TookFrontsBut}
use Rattle.flu_command.specs.Unfinished.{Unfinished, IsUnfinished}
use Rattle.flu_command.specs.Wants.{if_named, IsSomePlanText}

-- ---- before the rounds
-- the bytes under the job's name are the text of this program, those under the plan's, if one is named, are a plan that is valid
-- for it, and these texts alone were read
pub record IsBegun (job : List ℕ) (plan : Option (List ℕ)) (p : Program) (old new : Files) : Type 0 where
  pub has : HasJob (Named job) old p
  pub its_plan : (name : List ℕ) → plan ≡ Some name → HasValidPlan (Named job) name old p
  pub texts : AreTextsRead (job ∷ if_named plan) old new

-- an opening without the place of its state in memory
abbrev pub plain_opening : NamedOpening → Opening
plain_opening opening = record { border = opening.border; cells = held opening.state; rows = opening.rows.count }

-- an opening that a run of this job can have: its border is in range, its state is of the job's sorts, without a border it is the empty
-- one, and a round has 1 to 4,096 rows of each source
pub record IsOpening (p : Program) (o : Opening) : Type 0 where
  pub in_range : (t : ℕ) → o.border ≡ Some t → t < 2 ^ 63
  pub sorts : IsStateOf p.families o.cells
  pub empty : o.border ≡ None → o.cells ≡ nothing_held
  pub some : 1 ≤ o.rows
  pub few : o.rows ≤ 4096

-- a run has this opening, and only the checkpoint that it is resumed from, if it is, was read
pub record IsOpened (rows : ℕ) (resume : Option (List ℕ)) (p : Program) (o : Opening) (old new : Files) : Type 0 where
  pub opens : Opens rows resume [] old p o
  pub texts : AreTextsRead (if_named resume) old new

-- why a run has no opening
abbrev pub IsOpeningRefusal : Option (List ℕ) → Program → Option Files → Option Files → (List ℕ → ℕ) → (List ℕ → ℕ) → Refusal → Type 0
IsOpeningRefusal resume p old new before now (refusals.BadWords bad) = ⊥
IsOpeningRefusal resume p old new before now (refusals.JobFault fault text) = ⊥
IsOpeningRefusal resume p old new before now (refusals.Conflict fault) = ⊥
IsOpeningRefusal resume p old new before now (refusals.PlanDefect defect) = ⊥
IsOpeningRefusal resume p old new before now (refusals.SourceFault job fault) = ⊥
IsOpeningRefusal resume p old new before now refusals.ReadFault =
    (name : List ℕ) × (resume ≡ Some name) × Rose (before name) (now name) × WhereTold old new (TookAtMost name 536870912)
IsOpeningRefusal resume p old new before now refusals.WriteFault = ⊥
IsOpeningRefusal resume p old new before now refusals.NoMemory = ⊤
IsOpeningRefusal resume p old new before now (refusals.SaveDefect (defects.SameName checked number)) = ⊥
IsOpeningRefusal resume p old new before now (refusals.SaveDefect (defects.Checkpoint fault)) =
    (name : List ℕ) × (resume ≡ Some name) × (fault ≢ saves.NoMemory) × WhereTold old new (λ left _. IsFaultOf p (bytes_left left name) fault)
IsOpeningRefusal resume p old new before now refusals.PutFault = ⊥
IsOpeningRefusal resume p old new before now (refusals.TraceFault fault) = ⊥

-- ---- a checkpoint
-- the border that a checkpoint has after a round's end: the greatest one after the last
abbrev pub border_at : Border → ℕ
border_at (At t) = t
border_at Closed = greatest_border

-- a border is in range
abbrev pub IsInRange : Border → Type 0
IsInRange end = (t : ℕ) → end ≡ At t → t < 2 ^ 63

-- this was put under a name, if there is one
abbrev pub PutsAt : Option (List ℕ) → List ℕ → Files → Files → Type 0
PutsAt None bytes old new = SameLeft old new
PutsAt (Some name) bytes old new = Puts name bytes old new

-- it could not be put under a name, whose count of puts rose
abbrev pub PutFailed : Option (List ℕ) → (List ℕ → ℕ) → (List ℕ → ℕ) → Type 0
PutFailed named before now = (name : List ℕ) × (named ≡ Some name) × Rose (before name) (now name)

-- a name that is saved to
abbrev pub IsSavedTo : Option (List ℕ) → List ℕ → Type 0
IsSavedTo named name = named ≡ Some name

-- ---- between two rounds
-- what was put last after some rounds, if the border and the state are these: nothing after none
abbrev pub put_behind : Program → List (List (List Item)) → Option ℕ → Contents → Option (List ℕ)
put_behind p [] border s = None
put_behind p (round ∷ rounds) border s = option_map (λ t. save p t s) border

-- bytes are taken only from the front of the sources' files, and none are put but under the name that is saved to; and no count of takes
-- falls
pub record StaysWithin (p : Program) (named : Option (List ℕ)) (c : Call) : Type 0 where
  pub fronts : WhereTold c.left c.left_after (TookFrontsBut (IsSavedTo named))
  pub others : WhereTold c.left c.left_after (TookOnly (λ name. Contains (files_of p.sources) name ⊎ IsSavedTo named name))
  pub rise : (n : List ℕ) → c.counts n ≤ c.counts_after n

-- a run in rounds, each of some row, has come to a standing, and may continue; its engine is of this job, and has counted the events of the rounds so far,
-- if its plan follows them
pub record GoesOn (adapts : Bool) (p : Program) (e : AdaptiveNote) (o : Opening) (named : Option (List ℕ)) (c : Call) (now : Standing) : Type 0 where
  pub engine : program_of e.checked ≡ p
  pub adapting : e.adapts ≡ adapts
  pub stage : now.held.stage ≡ Filling
  pub written : List ℕ
  pub some : 1 ≤ o.rows
  pub came : CameFrom p o.rows o.border o.cells c.left c.left_after now written
  pub counted : IsTrue adapts → e.counts ≡ grown_in_turn (no_counts p) came.done
  pub wrote : WhereTold c.taken c.taken_after (AppendsAll written)
  pub leaves : WhereTold c.left c.left_after (LeavesPut named [] (put_behind p came.done now.held.border (held now.state)))
  pub within : StaysWithin p named c
  pub quiet : c.count_after ≡ c.count
  pub puts : SameCounts c.puts c.puts_after

-- what a round takes, whether it is run or not: bytes from the front of the sources' files alone, and no count of takes falls
pub record IsWithin (old : Standing) (c : Call) : Type 0 where
  pub fronts : WhereTold c.left c.left_after TookFronts
  pub others : WhereTold c.left c.left_after (LeavesOthers (files_of old.held.program.sources))
  pub rise : (n : List ℕ) → c.counts n ≤ c.counts_after n
  pub puts : SameCounts c.puts c.puts_after

-- how many borders there may still be above one
abbrev pub borders_above : Option ℕ → ℕ
borders_above border = option_map_or (λ t. 2 ^ 63 - t) border (2 ^ 63 + 1)

-- ---- how they end
-- the items that the run has in all
abbrev pub all_lists : Program → Opening → Files → List (List Item)
all_lists p o left = lists_above p o.border (lists_of p left)

-- this is what a run says whose events have these counts: the text of the plan that is observed of them, if its plan follows them, and
-- else nothing
abbrev pub IsPlanSaid : Bool → Program → List ℕ → List ℕ → Type 0
IsPlanSaid false p counts line = line ≡ []
IsPlanSaid true p counts line = (nodes : List Node) × IsObservedPlan p counts nodes × (line ≡ printed p nodes)

-- something is said exactly if the plan follows the counts, and that is the text of some plan
abbrev pub MaySayPlan : Bool → Option Said → Type 0
MaySayPlan false said = said ≡ None
MaySayPlan true None = ⊥
MaySayPlan true (Some said) = IsSomePlanText (line_of_said said)

-- this is said of the counts of the rounds that were run
pub record SaysCounts (adapts : Bool) (p : Program) (counts : List ℕ) (said : Option Said) : Type 0 where
  pub may_say : MaySayPlan adapts said
  pub is : IsPlanSaid adapts p counts (line_said said)

-- this is said of the counts of all events
pub record SaysPlan (adapts : Bool) (p : Program) (o : Opening) (said : Option Said) (c : Call) : Type 0 where
  pub may_say : MaySayPlan adapts said
  pub told : WhereTold c.left c.left_after (λ left now. IsPlanSaid adapts p (grown (no_counts p) (all_lists p o left)) (line_said said))

-- no source has a defect, all files were read to their ends, this is the report of all events, and the last checkpoint was put
pub record IsAllRun (p : Program) (o : Opening) (named : Option (List ℕ)) (text : List ℕ) (left now : Files) : Type 0 where
  pub sound : AreSound p (lines_in p left)
  pub is : text ≡ report p (final_outputs p o.cells (all_lists p o left))
  pub ends : (name : List ℕ) → Contains (files_of p.sources) name → now name ≡ Some []
  pub saved : (name : List ℕ) → named ≡ Some name → now name ≡ Some (save p greatest_border (final_state p o.cells (all_lists p o left)))

-- all of it was written
pub record RanAll (p : Program) (o : Opening) (named : Option (List ℕ)) (c : Call) : Type 0 where
  pub text : List ℕ
  pub wrote : WhereTold c.taken c.taken_after (AppendsAll text)
  pub all : WhereTold c.left c.left_after (IsAllRun p o named text)

-- a round met this defect
pub record RanToDefect (p : Program) (o : Opening) (named : Option (List ℕ)) (c : Call) (fault : SourceFault) : Type 0 where
  pub source : fault.source < length p.sources
  pub text : List ℕ
  pub wrote : WhereTold c.taken c.taken_after (AppendsAll text)
  pub met : WhereTold c.left c.left_after (λ left now. (put : Option (List ℕ)) × MeetsDefect p o (lines_in p left) text put fault
      × LeavesPut named [] put left now)

-- a source's file failed, and the round that read it is unfinished
pub record HasFailed (p : Program) (o : Opening) (c : Call) : Type 0 where
  pub round : Unfinished p o.rows
  pub rose : Rose (c.counts round.source.file) (c.counts_after round.source.file)
  pub told : WhereTold c.left c.left_after (λ left now. IsUnfinished p o round (lines_in p left) now)

-- what the rounds up to some round wrote is in out, and what they put is under the name that is saved to
pub record RanSome (p : Program) (o : Opening) (named : Option (List ℕ)) (c : Call) : Type 0 where
  pub text : List ℕ
  pub wrote : WhereTold c.taken c.taken_after (AppendsAll text)
  pub rounds : WhereTold c.left c.left_after (λ left now. (put : Option (List ℕ)) × HaveWritten p o (lines_in p left) text put
      × LeavesPut named [] put left now)

-- and a prefix of the next round's report
pub record RanInto (p : Program) (o : Opening) (named : Option (List ℕ)) (c : Call) : Type 0 where
  pub text : List ℕ
  pub more : List ℕ
  pub wrote : WhereTold c.taken c.taken_after (AppendsInto text more)
  pub round : WhereTold c.left c.left_after (λ left now. (put : Option (List ℕ)) × ReportsNext p o (lines_in p left) text put more
      × LeavesPut named [] put left now)

-- or all of it, and its checkpoint could not be put: this holds of what is left under the name that is saved to, by what was put there
-- before
pub record RanUnsaved (Left : Option (List ℕ) → Files → Files → Type 0) (p : Program) (o : Opening) (named : Option (List ℕ)) (c : Call) : Type 0 where
  pub text : List ℕ
  pub more : List ℕ
  pub saves : named ≢ None
  pub wrote : WhereTold c.taken c.taken_after (AppendsAll (text ++ more))
  pub round : WhereTold c.left c.left_after (λ left now. (put : Option (List ℕ)) × ReportsNext p o (lines_in p left) text put more × Left put left now)

abbrev pub EndsRounds : Bool → Program → Opening → Option (List ℕ) → Call → Result (Option Said) RunFault → Type 0
EndsRounds adapts p o named c (Ok said) = RanAll p o named c × SaysPlan adapts p o said c
EndsRounds adapts p o named c (Err (Round (Source fault))) = RanToDefect p o named c fault
EndsRounds adapts p o named c (Err (Round ReadFault)) = HasFailed p o c × RanSome p o named c
EndsRounds adapts p o named c (Err (Round WriteFault)) = Rose c.count c.count_after × RanInto p o named c
EndsRounds adapts p o named c (Err (Round NoMemory)) = RanSome p o named c
EndsRounds adapts p o named c (Err (Unsaved Failed)) = PutFailed named c.puts c.puts_after × RanUnsaved LeavesAnything p o named c
EndsRounds adapts p o named c (Err (Unsaved NoMemoryToPut)) = RanUnsaved (LeavesPut named []) p o named c

-- what one round more comes to, with what it says: the next standing, or an end
abbrev pub Steps : Bool → Program → AdaptiveNote → Opening → Option (List ℕ) → Call → Standing → Option Said → Result Border RunFault → Type 0
Steps adapts p e o named c new said (Ok (At t)) = GoesOn adapts p e o named c new
Steps adapts p e o named c new said (Ok Closed) = EndsRounds adapts p o named c (Ok said) × StaysWithin p named c
Steps adapts p e o named c new said (Err fault) = EndsRounds adapts p o named c (Err fault) × StaysWithin p named c

-- the same, stated as the end of a command
abbrev pub IsRoundsRefusal : Program → Opening → Option (List ℕ) → Call → Refusal → Type 0
IsRoundsRefusal p o named c (refusals.BadWords bad) = ⊥
IsRoundsRefusal p o named c (refusals.JobFault fault text) = ⊥
IsRoundsRefusal p o named c (refusals.Conflict fault) = ⊥
IsRoundsRefusal p o named c (refusals.PlanDefect defect) = ⊥
IsRoundsRefusal p o named c (refusals.SourceFault job fault) = (program_read job ≡ p) × RanToDefect p o named c fault
IsRoundsRefusal p o named c refusals.ReadFault = HasFailed p o c × RanSome p o named c
IsRoundsRefusal p o named c refusals.WriteFault = Rose c.count c.count_after × RanInto p o named c
IsRoundsRefusal p o named c refusals.NoMemory = RanSome p o named c ⊎ RanUnsaved (LeavesPut named []) p o named c
IsRoundsRefusal p o named c (refusals.SaveDefect defect) = ⊥
IsRoundsRefusal p o named c refusals.PutFault = PutFailed named c.puts c.puts_after × RanUnsaved LeavesAnything p o named c
IsRoundsRefusal p o named c (refusals.TraceFault fault) = ⊥

abbrev pub EndsRun : Bool → Program → Opening → Option (List ℕ) → Call → Result (Option Said) Refusal → Type 0
EndsRun adapts p o named c (Ok said) = RanAll p o named c × SaysPlan adapts p o said c
EndsRun adapts p o named c (Err refusal) = IsRoundsRefusal p o named c refusal
