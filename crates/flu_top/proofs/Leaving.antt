-- What a run leaves under the name that it saves to, and what one writes that is resumed.
use Rattle.std.proofs.Common.{◌≡◌, ◌⊎◌, refl, sym, ap, ◌∙◌, subst, ℕ, ◌≤◌, ◌<◌, List, [], ◌∷◌, ◌++◌, take, Option, Some, None, inl, inr, append_assoc, append-nil, arith}
use Rattle.flu_lemmas.proofs.Told.{told_weaker}
use Rattle.flu_outside.specs.Outside.{WhereTold, Contents}
use Rattle.flu_outside.specs.Taking.{bytes_left}
use Rattle.flu_outside.specs.Writing.{AppendsAll}
use Rattle.flu_model.specs.declared.jobs.Program.{Program}
use Rattle.flu_save.specs.Laws.{LawOfOneMeaning}
use Rattle.flu_streams.specs.declared.faults.SourceFault.{SourceFault}
use Rattle.flu_words.specs.Words.{Command, Run, RunOptions}
use Rattle.flu_command.specs.Behind.{Named, HasJob, emptied_each}
use Rattle.flu_command.specs.Openings.{Opening, Opens, OpensAt, report_from}
use Rattle.flu_command.specs.Starting.{StartsFrom, CanStart, IsAsBefore, Leaves, LeavesPut}
use Rattle.flu_command.specs.Wants.{if_named, texts_named}
use Rattle.flu_command.specs.Reading.{InRounds, HaveWritten, ReportsNext, lines_behind}
use Rattle.flu_command.specs.Done.{HasPlanAsked, IsDone, AppendsInto}
use Rattle.flu_command.specs.Done.{WroteNone, WroteRounds, WroteSome, WroteUnsaved, WroteForMemory, WroteIntoRound}
use Rattle.flu_command.specs.Resting.{Behind, AtTheEnd}
use Rattle.flu_command.specs.Causes.{HasSourceFault, IsMetInRounds}
use Rattle.flu_lines.specs.declared.statuses.Status.{Status}
use Rattle.flu_lines.specs.declared.statuses.Status.TheVariants as statuses
use Rattle.flu_lines.specs.Statuses.{code}
use Rattle.flu_top.specs.Outcome.{Outside, Ended}
use Rattle.flu_top.specs.Resuming.{BeginsWith, HasLeft, MayHaveSaved, RunsLeaveCheckpoints, ResumedRunsWriteTheRest}
use Rattle.flu_top.proofs.Statuses.{ended_with, ended_at}

-- ---- openings
-- bytes open in one way, with a number of rows
same_at : LawOfOneMeaning → (p : Program) (bytes : List ℕ) (o r : Opening) → OpensAt p bytes o → OpensAt p bytes r → o.rows ≡ r.rows → o ≡ r
same_at meaning p bytes o r a b rows =
    let same = meaning p bytes a.time b.time o.cells r.cells a.save b.save in
    λ i. record { border = (a.above ∙ ap Some same.0 ∙ sym b.above) i; cells = same.1 i; rows = rows i }

same_opening : LawOfOneMeaning → (rows : ℕ) (resume : Option (List ℕ)) (texts : List (List ℕ)) (left : Contents) (p : Program) (o r : Opening)
    → Opens rows resume texts left p o → Opens rows resume texts left p r → o ≡ r
same_opening meaning rows None texts left p o r a b = a.0 ∙ sym b.0
same_opening meaning rows (Some name) texts left p o r a b =
    same_at meaning p (bytes_left (emptied_each texts left) name) o r a.0 b.0 (a.1 ∙ sym b.1)

-- ---- what was written
begins_all : (text before now : List ℕ) → now ≡ before ++ text → BeginsWith text before now
begins_all text before now wrote = ([], wrote ∙ sym (append-nil (before ++ text)))

begins_more : (text more before now : List ℕ) → now ≡ before ++ (text ++ more) → BeginsWith text before now
begins_more text more before now wrote = (more, wrote ∙ sym (append_assoc before text more))

begins_into : (text more before now : List ℕ) → AppendsInto text more before now → BeginsWith text before now
begins_into text more before now wrote = (take wrote.0 more, wrote.2)

module _ (meaning : LawOfOneMeaning) (job : List ℕ) (plan : Option (List ℕ)) (options : RunOptions) (file : List ℕ) (saves : options.save ≡ Some file) where
  abbrev whole : Command
  whole = Run job plan options

  abbrev texts : List (List ℕ)
  texts = texts_named (Run job plan options)

  abbrev Left : Option (List ℕ) → Option (List ℕ) → Contents → Contents → Type 0
  Left had has left now = IsAsBefore texts file left now ⊎ HasLeft whole file had has left now

  leaves : (put : Option (List ℕ)) (left now : Contents) → Leaves whole put left now → LeavesPut (Some file) texts put left now
  leaves put left now is = subst (λ (named : Option (List ℕ)). LeavesPut named texts put left now) saves is

  by_put : (q : Program) (o : Opening) (text : List ℕ) (put : Option (List ℕ)) (had has : Option (List ℕ)) (left now : Contents) → HasJob (Named job) left q
      → StartsFrom whole left q o → HaveWritten q o (lines_behind texts left q) text put → LeavesPut (Some file) texts put left now
      → WhereTold had has (BeginsWith text) → Left had has left now
  by_put q o text None had has left now its starts written is wrote = inl is
  by_put q o text (Some checkpoint) had has left now its starts written is wrote =
      inr (record {
        p = q;
        job = its;
        opening = o;
        starts = starts;
        text = text;
        checkpoint = checkpoint;
        put = Behind written;
        stands = is;
        wrote = wrote;
      })

  by_none : (a b : Option Contents) (had has : Option (List ℕ)) → WroteNone whole a b had has → WhereTold a b (Left had has)
  by_none a b had has none = told_weaker (Leaves whole None) (Left had has) a b (λ left now is. inl (leaves None left now is)) none.as_before

  by_rounds : (a b : Option Contents) (had has : Option (List ℕ)) → WroteRounds whole a b had has → WhereTold a b (Left had has)
  by_rounds a b had has wrote =
      let q = wrote.p in
      told_weaker (λ left now. HasJob (Named job) left q × HasPlanAsked whole left q
      × ((o : Opening) × StartsFrom whole left q o
      × ((put : Option (List ℕ)) × HaveWritten q o (lines_behind texts left q) wrote.text put × Leaves whole put left now))) (Left had has) a b
      (λ left now found. by_put q found.2.0 wrote.text found.2.2.0 had has left now found.0 found.2.1 found.2.2.1
      (leaves found.2.2.0 left now found.2.2.2)
      (told_weaker (AppendsAll wrote.text) (BeginsWith wrote.text) had has (begins_all wrote.text) wrote.wrote)) wrote.rounds

  written_before : (q : Program) (o : Opening) (left : Contents) (text more : List ℕ) (put : Option (List ℕ))
      → ReportsNext q o (lines_behind texts left q) text put more
      → HaveWritten q o (lines_behind texts left q) text put
  written_before q o left text more put next = record { border = next.border; ran = next.ran; saved = next.saved }

  by_unsaved : (a b : Option Contents) (had has : Option (List ℕ)) → WroteUnsaved (Leaves whole) whole a b had has → WhereTold a b (Left had has)
  by_unsaved a b had has wrote =
      let q = wrote.p in
      told_weaker (λ left now. HasJob (Named job) left q × HasPlanAsked whole left q
      × ((o : Opening) × StartsFrom whole left q o
      × ((put : Option (List ℕ)) × ReportsNext q o (lines_behind texts left q) wrote.text put wrote.more × Leaves whole put left now))) (Left had has) a b
      (λ left now found. by_put q found.2.0 wrote.text found.2.2.0 had has left now found.0 found.2.1
      (written_before q found.2.0 left wrote.text wrote.more found.2.2.0 found.2.2.1)
      (leaves found.2.2.0 left now found.2.2.2)
      (told_weaker (AppendsAll (wrote.text ++ wrote.more)) (BeginsWith wrote.text) had has (begins_more wrote.text wrote.more) wrote.wrote)) wrote.round

  by_part : (a b : Option Contents) (had has : Option (List ℕ)) → WroteIntoRound whole a b had has → WhereTold a b (Left had has)
  by_part a b had has wrote =
      let q = wrote.p in
      told_weaker (λ left now. HasJob (Named job) left q × HasPlanAsked whole left q
      × ((o : Opening) × StartsFrom whole left q o
      × ((put : Option (List ℕ)) × ReportsNext q o (lines_behind texts left q) wrote.text put wrote.more × Leaves whole put left now))) (Left had has) a b
      (λ left now found. by_put q found.2.0 wrote.text found.2.2.0 had has left now found.0 found.2.1
      (written_before q found.2.0 left wrote.text wrote.more found.2.2.0 found.2.2.1)
      (leaves found.2.2.0 left now found.2.2.2)
      (told_weaker (AppendsInto wrote.text wrote.more) (BeginsWith wrote.text) had has (begins_into wrote.text wrote.more) wrote.wrote)) wrote.round

  by_defect : (a b : Option Contents) (had has : Option (List ℕ)) (q : Program) (fault : SourceFault) (text : List ℕ)
      → HasSourceFault whole a b q fault text
      → WhereTold had has (AppendsAll text) → WhereTold a b (Left had has)
  by_defect a b had has q fault text why wrote =
      told_weaker (λ left now. HasJob (Named job) left q × HasPlanAsked whole left q × CanStart whole left q × IsMetInRounds whole left now q text fault)
      (Left had has) a b
      (λ left now found. by_put q found.3.opening text found.3.put had has left now found.0 found.3.starts
      (record { border = found.3.met.border; ran = found.3.met.ran; saved = found.3.met.saved })
      (leaves found.3.put left now found.3.leaves)
      (told_weaker (AppendsAll text) (BeginsWith text) had has (begins_all text) wrote)) why.first

  by_done : (a b : Option Contents) (had has : Option (List ℕ)) (line : List ℕ) → WhereTold a b (IsDone whole had has line) → WhereTold a b (Left had has)
  by_done a b had has line done =
      told_weaker (IsDone whole had has line) (Left had has) a b
      (λ left now found.
      let p = found.0 in
      let text = found.1 in
      let saved = found.2.saved file saves in
      let o = saved.0 in
      let same : found.3.0 ≡ o = same_opening meaning options.rows options.resume (job ∷ if_named plan) left p found.3.0 o found.3.1 saved.1.opens in
      inr (record {
        p = p;
        job = found.2.good.has;
        opening = o;
        starts = saved.1;
        text = text;
        checkpoint = _;
        put = AtTheEnd (found.3.2 ∙ ap (λ (r : Opening). report_from r texts left p) same) refl;
        stands = saved.2;
        wrote = told_weaker (AppendsAll text) (BeginsWith text) had has (begins_all text) found.5;
      })) done

  by_some : (a b : Option Contents) (had has : Option (List ℕ)) → WroteSome InRounds whole a b had has → WhereTold a b (Left had has)
  by_some a b had has (inl none) = by_none a b had has none
  by_some a b had has (inr wrote) = by_rounds a b had has wrote

  by_memory : (a b : Option Contents) (had has : Option (List ℕ)) → WroteForMemory InRounds whole a b had has → WhereTold a b (Left had has)
  by_memory a b had has (inl some) = by_some a b had has some
  by_memory a b had has (inr wrote) = by_unsaved a b had has wrote

  by_ended : (old new : Outside) (status : Status) → Ended whole old new status → MayHaveSaved (code status) → WhereTold old.left new.left (Left old.out new.out)
  by_ended old new statuses.Done ended may = by_done old.left new.left old.out new.out ended.0 ended.1
  by_ended old new statuses.BadWords ended may = absurd ended
  by_ended old new statuses.SourceFault ended may = by_defect old.left new.left old.out new.out ended.0 ended.1 ended.2 ended.3 ended.4
  by_ended old new statuses.ReadFault ended may = by_some old.left new.left old.out new.out ended.0
  by_ended old new statuses.WriteFault ended may = by_part old.left new.left old.out new.out ended.0
  by_ended old new statuses.NoMemory ended may = by_memory old.left new.left old.out new.out ended.0
  by_ended old new status ended (inl none) = absurd (omega (arith, none))
  by_ended old new status ended (inr both) = absurd (omega (arith, both.0, both.1))

pub runs_leave : LawOfOneMeaning → RunsLeaveCheckpoints
runs_leave meaning words old new status outcome may job plan options file word saves =
    let found = ended_with words old new status outcome (Run job plan options) word in
    by_ended meaning job plan options file saves old new found.0 found.2 (subst MayHaveSaved found.1 may)

-- ---- a run that is resumed
module _ (job : List ℕ) (plan : Option (List ℕ)) (options : RunOptions) (file : List ℕ) (resumes : options.resume ≡ Some file) where
  abbrev resumed : Command
  resumed = Run job plan options

  abbrev Rest : Option (List ℕ) → Option (List ℕ) → Contents → Contents → Type 0
  Rest had has left now =
      (p : Program) × HasJob (Named job) left p
      × ((rest : Opening) × OpensAt p (bytes_left (emptied_each (job ∷ if_named plan) left) file) rest
      × WhereTold had has (AppendsAll (report_from rest (texts_named (Run job plan options)) left p)))

  rest_written : (a b : Option Contents) (had has : Option (List ℕ)) (line : List ℕ) → WhereTold a b (IsDone resumed had has line)
      → WhereTold a b (Rest had has)
  rest_written a b had has line done =
      told_weaker (IsDone resumed had has line) (Rest had has) a b
      (λ left now found. (
        found.0,
        found.2.good.has,
        (
          found.3.0,
          (subst (λ (named : Option (List ℕ)). Opens options.rows named (job ∷ if_named plan) left found.0 found.3.0) resumes found.3.1).0,
          subst (λ (text : List ℕ). WhereTold had has (AppendsAll text)) found.3.2 found.5,
        ),
      )) done

pub resumed_write : ResumedRunsWriteTheRest
resumed_write words old new outcome job plan options file word resumes =
    let found = ended_at words old new 0 outcome statuses.Done refl (Run job plan options) word in
    rest_written job plan options file resumes old.left new.left old.out new.out found.0 found.1
