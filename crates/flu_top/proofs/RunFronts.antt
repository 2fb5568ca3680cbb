-- What a run of good sources wrote is a front of its report.
use Rattle.std.proofs.Common.{◌≡◌, sym, ap, ◌∙◌, subst, ℕ, ◌+◌, ◌≤◌, List, [], ◌∷◌, ◌++◌, length, take, Option, Some, Ok, inl, inr, append_assoc, arith}
use Rattle.std.proofs.Math.Seq.{take-append_seam, take-append-add}
use Rattle.std.proofs.lemmas.List.{append-nil, take-append-le}
use Rattle.flu_lemmas.proofs.Told.{of_told, told_same, told_weaker}
use Rattle.flu_outside.specs.Outside.{WhereTold, Contents, Appends}
use Rattle.flu_outside.specs.Writing.{AppendsAll}
use Rattle.flu_model.specs.declared.jobs.Program.{Program}
use Rattle.flu_model.specs.Contents.{nothing_held, Contents as State}
use Rattle.flu_model.specs.Folding.{final_outputs}
use Rattle.flu_model.specs.Reports.{report}
use Rattle.flu_command.specs.Mending.{AreMended, MendedRoundsGoOn}
use Rattle.flu_command.specs.OneText.{TextsHaveOneJob, JobsHaveGoodSources, JobsHaveMendedSources, GoodSourcesHaveNone, StartsHaveRows}
use Rattle.flu_streams.specs.Borders.{LawOfBorders, ItemsAreCut, up_to, beyond}
use Rattle.flu_streams.specs.declared.faults.SourceFault.{SourceFault}
use Rattle.flu_streams.specs.Good.{lists_of}
use Rattle.flu_rounds.specs.Coming.{LawOfReportFronts, LawOfNextReportFronts}
use Rattle.flu_rounds.specs.Written.{AreSound, RanFrom, lines_in, lists_above}
use Rattle.flu_words.specs.Words.{Command, Run, RunOptions, command_in}
use Rattle.flu_command.specs.Behind.{Named, HasJob, emptied_each, lists_behind, report_behind}
use Rattle.flu_command.specs.Openings.{Opening, report_from}
use Rattle.flu_command.specs.Starting.{StartsFrom, CanStart, Leaves, LeavesAnything}
use Rattle.flu_command.specs.Wants.{if_named, texts_named}
use Rattle.flu_top.specs.Mended.{RunsWriteFrontsOfMended}
use Rattle.flu_command.specs.Reading.{InRounds, HasDefect, HaveWritten, ReportsNext, lines_behind}
use Rattle.flu_command.specs.Done.{HasPlanAsked, IsGood, IsDone, AppendsInto}
use Rattle.flu_command.specs.Done.{WroteRounds, WroteSome, WroteUnsaved, WroteForMemory, WroteIntoRound}
use Rattle.flu_command.specs.Causes.{HasSourceFault, IsMetInRounds}
use Rattle.flu_lines.specs.declared.statuses.Status.{Status}
use Rattle.flu_lines.specs.declared.statuses.Status.TheVariants as statuses
use Rattle.flu_top.specs.Outcome.{Outside, Ended, Outcome}
use Rattle.flu_top.specs.Laws.{RunsWriteFronts, FreshRunsReportTheFold, ResumedRunsGoOn}
use Rattle.flu_top.proofs.Statuses.{ended_with}

-- ---- bytes
-- a front of a text stands behind what was there
abbrev AppendsFront : List ℕ → List ℕ → List ℕ → Type 0
AppendsFront text old new = (n : ℕ) × Appends n text old new

-- a text that was written is a front of what begins with it
appends_front : (text rest whole old new : List ℕ) → whole ≡ text ++ rest → new ≡ old ++ text → AppendsFront whole old new
appends_front text rest whole old new is wrote =
    (length text, wrote ∙ ap (λ bytes. old ++ bytes) (sym (ap (take (length text)) is ∙ take-append_seam text rest)))

appends_more : (text more rest whole old new : List ℕ) → whole ≡ (text ++ more) ++ rest → AppendsInto text more old new → AppendsFront whole old new
appends_more text more rest whole old new is wrote =
    let n = wrote.0 in
    let few : n ≤ length more = omega (arith, wrote.1) in
    let front : take (length text + n) whole ≡ text ++ take n more =
    ap (take (length text + n)) (is ∙ append_assoc text more rest) ∙ take-append-add text (more ++ rest) n
    ∙ ap (λ bytes. text ++ bytes) (take-append-le n more rest few) in
    (length text + n, wrote.2 ∙ append_assoc old text (take n more) ∙ ap (λ bytes. old ++ bytes) (sym front))

-- ---- a run
-- what was written is a front of what a program of the job writes, from an opening
HasFront : (Program → Opening → List ℕ) → Command → List ℕ → Contents → Option (List ℕ) → Option (List ℕ) → Type 0
HasFront written command job left had has =
    (q : Program) × HasJob (Named job) left q
    × ((o : Opening) × StartsFrom command left q o × WhereTold had has (AppendsFront (written q o)))

-- the laws of fronts, of each opening
abbrev ReportFronts : Type 0
ReportFronts = (border : Option ℕ) (opening : State) → LawOfReportFronts border opening

abbrev NextReportFronts : Type 0
NextReportFronts = (border : Option ℕ) (opening : State) → LawOfNextReportFronts border opening

-- what is used of a run, of good sources and of mended ones
pub record LawsOfFronts : Type 0 where
  pub one_job : TextsHaveOneJob
  pub rows : StartsHaveRows
  pub good : JobsHaveGoodSources
  pub fronts : ReportFronts
  pub nexts : NextReportFronts

pub record LawsOfMending : Type 0 where
  pub of_fronts : LawsOfFronts
  pub mended : JobsHaveMendedSources
  pub none : GoodSourcesHaveNone
  pub goes_on : MendedRoundsGoOn

-- the report of mended sources, from an opening
abbrev mended_report : Contents → Program → Opening → List ℕ
mended_report mended q o = report q (final_outputs q o.cells (lists_above q o.border (lists_of q mended)))

-- a text begins with another
abbrev BeginsWith : List ℕ → List ℕ → Type 0
BeginsWith text front = (rest : List ℕ) × (text ≡ front ++ rest)

-- a run that can start, where what each program writes from an opening begins with what any rounds have written, with the report of one
-- round more, and with the report of all events where the run is done
module _ (starts_some : StartsHaveRows) (job : List ℕ) (plan : Option (List ℕ)) (options : RunOptions) (left : Contents) (p : Program)
    (has_job : HasJob (Named job) left p) (start : CanStart (Run job plan options) left p) (written : Program → Opening → List ℕ)
    (front_of : (q : Program) (o : Opening) (border : Option ℕ) (text : List ℕ) → HasJob (Named job) left q → 1 ≤ o.rows
    → RanFrom q o.rows o.border o.cells (lines_behind (texts_named (Run job plan options)) left q) border text → BeginsWith (written q o) text)
    (next_of : (q : Program) (o : Opening) (text more : List ℕ) (put : Option (List ℕ)) → HasJob (Named job) left q → 1 ≤ o.rows
    → ReportsNext q o (lines_behind (texts_named (Run job plan options)) left q) text put more → BeginsWith (written q o) (text ++ more))
    (all_of : (q : Program) (o : Opening) → IsGood (Run job plan options) left q
    → BeginsWith (written q o) (report_from o (texts_named (Run job plan options)) left q)) where
  abbrev whole : Command
  whole = Run job plan options

  abbrev texts : List (List ℕ)
  texts = texts_named (Run job plan options)

  nothing : (had has : Option (List ℕ)) → has ≡ had → HasFront written whole job left had has
  unfolding HasFront
  nothing had has same =
      let o = start.0 in (
        p,
        has_job,
        (
          o,
          start.1,
          subst (λ (now : Option (List ℕ)). WhereTold had now (AppendsFront (written p o))) (sym same)
              (told_same (AppendsFront (written p o)) had (λ bytes. (0, sym (append-nil bytes)))),
        ),
      )

  front_written : (q : Program) (o : Opening) (text rest : List ℕ) (had has : Option (List ℕ)) → HasJob (Named job) left q → StartsFrom whole left q o
      → written q o ≡ text ++ rest → WhereTold had has (AppendsAll text) → HasFront written whole job left had has
  unfolding HasFront
  front_written q o text rest had has its starts is wrote = (
    q,
    its,
    (
      o,
      starts,
      told_weaker (AppendsAll text) (AppendsFront (written q o)) had has (λ x y w. appends_front text rest (written q o) x y is w) wrote,
    ),
  )

  more_written : (q : Program) (o : Opening) (text more rest : List ℕ) (had has : Option (List ℕ)) → HasJob (Named job) left q → StartsFrom whole left q o
      → written q o ≡ (text ++ more) ++ rest → WhereTold had has (AppendsInto text more) → HasFront written whole job left had has
  unfolding HasFront
  more_written q o text more rest had has its starts is wrote = (
    q,
    its,
    (
      o,
      starts,
      told_weaker (AppendsInto text more) (AppendsFront (written q o)) had has (λ x y w. appends_more text more rest (written q o) x y is w) wrote,
    ),
  )

  -- ---- by what is known of what was written
  some_written : (a b : Option Contents) (had has : Option (List ℕ)) → a ≡ Some left → WroteRounds whole a b had has → HasFront written whole job left had has
  some_written a b had has told wrote =
      let q = wrote.p in
      let found = (of_told (λ x y. HasJob (Named job) x q × HasPlanAsked whole x q
      × ((o : Opening) × StartsFrom whole x q o
      × ((put : Option (List ℕ)) × HaveWritten q o (lines_behind texts x q) wrote.text put × Leaves whole put x y))) left a b told wrote.rounds).1 in
      let o = found.2.0 in
      let ran = found.2.2.1 in
      let front = front_of q o ran.border wrote.text found.0 (starts_some whole left q o found.2.1) ran.ran in
      front_written q o wrote.text front.0 had has found.0 found.2.1 front.1 wrote.wrote

  unsaved_written : (Left : Option (List ℕ) → Contents → Contents → Type 0) (a b : Option Contents) (had has : Option (List ℕ)) → a ≡ Some left
      → WroteUnsaved Left whole a b had has
      → HasFront written whole job left had has
  unsaved_written Left a b had has told wrote =
      let q = wrote.p in
      let found = (of_told (λ x y. HasJob (Named job) x q × HasPlanAsked whole x q
      × ((o : Opening) × StartsFrom whole x q o
      × ((put : Option (List ℕ)) × ReportsNext q o (lines_behind texts x q) wrote.text put wrote.more × Left put x y))) left a b told wrote.round).1 in
      let o = found.2.0 in
      let front = next_of q o wrote.text wrote.more found.2.2.0 found.0 (starts_some whole left q o found.2.1) found.2.2.1 in
      front_written q o (wrote.text ++ wrote.more) front.0 had has found.0 found.2.1 front.1 wrote.wrote

  part_written : (a b : Option Contents) (had has : Option (List ℕ)) → a ≡ Some left → WroteIntoRound whole a b had has → HasFront written whole job left had has
  part_written a b had has told wrote =
      let q = wrote.p in
      let found = (of_told (λ x y. HasJob (Named job) x q × HasPlanAsked whole x q
      × ((o : Opening) × StartsFrom whole x q o
      × ((put : Option (List ℕ)) × ReportsNext q o (lines_behind texts x q) wrote.text put wrote.more × Leaves whole put x y))) left a b told wrote.round).1 in
      let o = found.2.0 in
      let front = next_of q o wrote.text wrote.more found.2.2.0 found.0 (starts_some whole left q o found.2.1) found.2.2.1 in
      more_written q o wrote.text wrote.more front.0 had has found.0 found.2.1 front.1 wrote.wrote

  met_written : (a b : Option Contents) (had has : Option (List ℕ)) (q : Program) (fault : SourceFault) (text : List ℕ) → a ≡ Some left
      → HasSourceFault whole a b q fault text
      → WhereTold had has (AppendsAll text) → HasFront written whole job left had has
  met_written a b had has q fault text told why wrote =
      let found = (of_told (λ x y. HasJob (Named job) x q × HasPlanAsked whole x q × CanStart whole x q × IsMetInRounds whole x y q text fault) left a b told
      why.first).1 in
      let met = found.3 in
      let front = front_of q met.opening met.met.border text found.0 (starts_some whole left q met.opening met.starts) met.met.ran in
      front_written q met.opening text front.0 had has found.0 met.starts front.1 wrote

  done_written : (a b : Option Contents) (had has : Option (List ℕ)) (line : List ℕ) → a ≡ Some left → WhereTold a b (IsDone whole had has line)
      → HasFront written whole job left had has
  done_written a b had has line told done =
      let found = (of_told (IsDone whole had has line) left a b told done).1 in
      let writes = found.3 in
      let starts : StartsFrom whole left found.0 writes.0 = record { apart = found.2.good.start.1.apart; opens = writes.1 } in
      let front = all_of found.0 writes.0 found.2.good in
      front_written found.0 writes.0 found.1 front.0 had has found.2.good.has starts (front.1 ∙ ap (λ text. text ++ front.0) (sym writes.2)) found.5

  rounds_or_nothing : (a b : Option Contents) (had has : Option (List ℕ)) → a ≡ Some left → WroteSome InRounds whole a b had has
      → HasFront written whole job left had has
  rounds_or_nothing a b had has told (inl none) = nothing had has none.nothing
  rounds_or_nothing a b had has told (inr wrote) = some_written a b had has told wrote

  memory_written : (a b : Option Contents) (had has : Option (List ℕ)) → a ≡ Some left → WroteForMemory InRounds whole a b had has
      → HasFront written whole job left had has
  memory_written a b had has told (inl some) = rounds_or_nothing a b had has told some
  memory_written a b had has told (inr wrote) = unsaved_written (Leaves whole) a b had has told wrote

  by_ended : (old new : Outside) (status : Status) → Ended whole old new status → old.left ≡ Some left → HasFront written whole job left old.out new.out
  by_ended old new statuses.Done ended told = done_written old.left new.left old.out new.out ended.0 told ended.1
  by_ended old new statuses.BadWords ended told = absurd ended
  by_ended old new statuses.JobFault ended told = nothing old.out new.out ended.2.nothing
  by_ended old new statuses.Conflict ended told = nothing old.out new.out ended.2.nothing
  by_ended old new statuses.PlanDefect ended told = nothing old.out new.out ended.2.nothing
  by_ended old new statuses.SourceFault ended told = met_written old.left new.left old.out new.out ended.0 ended.1 ended.2 told ended.3 ended.4
  by_ended old new statuses.ReadFault ended told = rounds_or_nothing old.left new.left old.out new.out told ended.0
  by_ended old new statuses.WriteFault ended told = part_written old.left new.left old.out new.out told ended.0
  by_ended old new statuses.NoMemory ended told = memory_written old.left new.left old.out new.out told ended.0
  by_ended old new statuses.SaveDefect ended told = nothing old.out new.out ended.2.nothing
  by_ended old new statuses.PutFault ended told = unsaved_written LeavesAnything old.left new.left old.out new.out told ended.0
  by_ended old new statuses.TraceFault ended told = nothing old.out new.out ended.2.nothing
  by_ended old new statuses.PartialDefect ended told = absurd ended

  pub what_was_written : (words : List (List ℕ)) (old new : Outside) (status : ℕ) → Outcome words old new status → command_in words ≡ Ok (Run job plan options)
      → old.left ≡ Some left
      → (q : Program) × HasJob (Named job) left q
      × ((o : Opening) × StartsFrom (Run job plan options) left q o × WhereTold old.out new.out (AppendsFront (written q o)))
  unfolding HasFront
  what_was_written words old new status outcome word told =
      let found = ended_with words old new status outcome whole word in by_ended old new found.0 found.2 told

-- ---- a run of good sources
module _ (laws : LawsOfFronts) (job : List ℕ) (plan : Option (List ℕ)) (options : RunOptions) (left : Contents) (p : Program) (good : IsGood (Run job plan options) left p) where
  abbrev its_texts : List (List ℕ)
  its_texts = texts_named (Run job plan options)

  sound_of : (q : Program) → HasJob (Named job) left q → AreSound q (lines_behind its_texts left q)
  sound_of q has = laws.good InRounds its_texts left p q (laws.one_job (Named job) left p q good.has has) good.sources

  good_front : (q : Program) (o : Opening) (border : Option ℕ) (text : List ℕ) → HasJob (Named job) left q → 1 ≤ o.rows
      → RanFrom q o.rows o.border o.cells (lines_behind its_texts left q) border text → BeginsWith (report_from o its_texts left q) text
  unfolding lists_behind
  good_front q o border text has some ran =
      laws.fronts o.border o.cells q o.rows (emptied_each its_texts left) border text some (sound_of q has) ran

  good_next : (q : Program) (o : Opening) (text more : List ℕ) (put : Option (List ℕ)) → HasJob (Named job) left q → 1 ≤ o.rows
      → ReportsNext q o (lines_behind its_texts left q) text put more → BeginsWith (report_from o its_texts left q) (text ++ more)
  unfolding lists_behind
  good_next q o text more put has some round =
      laws.nexts o.border o.cells q o.rows (emptied_each its_texts left) round.border text (text ++ more) round.now round.end some (sound_of q has)
      round.ran round.next

pub runs_law : LawsOfFronts → RunsWriteFronts
runs_law laws words old new status outcome job plan options left p word told good =
    what_was_written laws.rows job plan options left p good.has good.start (λ q o. report_from o (texts_named (Run job plan options)) left q)
    (good_front laws job plan options left p good) (good_next laws job plan options left p good)
    (λ q o its. ([], sym (append-nil (report_from o (texts_named (Run job plan options)) left q))))
    words old new status outcome word told

-- ---- a run of sources with a defect
module _ (laws : LawsOfMending) (job : List ℕ) (plan : Option (List ℕ)) (options : RunOptions) (left mended : Contents) (p : Program) (has_job : HasJob (Named job) left p)
    (bad : HasDefect InRounds (texts_named (Run job plan options)) left p)
    (mends : AreMended p (emptied_each (texts_named (Run job plan options)) left) mended) where
  mended_of : (q : Program) → HasJob (Named job) left q → AreMended q (emptied_each (texts_named (Run job plan options)) left) mended
  mended_of q has = laws.mended p q (emptied_each (texts_named (Run job plan options)) left) mended (laws.of_fronts.one_job (Named job) left p q has_job has) mends

  mended_front : (q : Program) (o : Opening) (border : Option ℕ) (text : List ℕ) → HasJob (Named job) left q → 1 ≤ o.rows
      → RanFrom q o.rows o.border o.cells (lines_behind (texts_named (Run job plan options)) left q) border text
      → BeginsWith (mended_report mended q o) text
  mended_front q o border text has some ran =
      let its = mended_of q has in
      laws.of_fronts.fronts o.border o.cells q o.rows mended border text some its.sound
      (laws.goes_on q o.rows (lines_behind (texts_named (Run job plan options)) left q) (lines_in q mended) its.each o.border o.cells border text ran).0

  mended_next : (q : Program) (o : Opening) (text more : List ℕ) (put : Option (List ℕ)) → HasJob (Named job) left q → 1 ≤ o.rows
      → ReportsNext q o (lines_behind (texts_named (Run job plan options)) left q) text put more → BeginsWith (mended_report mended q o) (text ++ more)
  mended_next q o text more put has some round =
      let its = mended_of q has in
      let whole = lines_behind (texts_named (Run job plan options)) left q in
      let also = laws.goes_on q o.rows whole (lines_in q mended) its.each o.border o.cells round.border text round.ran in
      laws.of_fronts.nexts o.border o.cells q o.rows mended round.border text (text ++ more) round.now round.end some its.sound also.0
      (also.1 round.now round.end (text ++ more) round.next)

  -- it is not done
  not_done : (q : Program) (o : Opening) → IsGood (Run job plan options) left q
      → BeginsWith (mended_report mended q o) (report_from o (texts_named (Run job plan options)) left q)
  not_done q o good = absurd (laws.none InRounds (texts_named (Run job plan options)) left p
      (laws.of_fronts.good InRounds (texts_named (Run job plan options)) left q p (laws.of_fronts.one_job (Named job) left q p good.has has_job) good.sources) bad)

pub mended_law : LawsOfMending → RunsWriteFrontsOfMended
mended_law laws words old new status outcome job plan options left mended p word told has start bad mends =
    what_was_written laws.of_fronts.rows job plan options left p has start (mended_report mended)
    (mended_front laws job plan options left mended p has bad mends) (mended_next laws job plan options left mended p has bad mends)
    (not_done laws job plan options left mended p has bad mends) words old new status outcome word told

-- ---- what the report is
pub fresh_law : FreshRunsReportTheFold
unfolding lists_behind report_behind
fresh_law job plan depth rows adapt save unflushed left p o starts =
    ap (λ (from : Opening). report_from from ((job ∷ if_named plan) ++ []) left p) starts.opens.0
    ∙ ap (λ (texts : List (List ℕ)). report_behind texts left p) (append-nil (job ∷ if_named plan))

pub resumed_law : LawOfBorders → ItemsAreCut → ResumedRunsGoOn
resumed_law borders cut p lists t = (borders p nothing_held t lists (up_to p t lists) (beyond p t lists) (cut p t lists)).lines
