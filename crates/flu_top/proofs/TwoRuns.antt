-- A run, and one that is resumed from what it left, write the report of the first one together.
use Rattle.std.proofs.Common.{◌≡◌, ◌⊎◌, ◌≤◌, ap, sym, ◌∙◌, subst, ℕ, List, [], ◌∷◌, Option, Some, None, inl, inr}
use Rattle.std.specs.Prelude.{unwrap_or}
use Rattle.flu_lemmas.proofs.Told.{of_told}
use Rattle.flu_command.specs.OneText.{TextsHaveOneJob, JobsHaveOneRest}
use Rattle.flu_command.specs.Resting.{IsOpeningOf, AreSameSources, CheckpointsOpenTheRest, SourcesDecide}
use Rattle.flu_outside.specs.Outside.{WhereTold, Contents}
use Rattle.flu_outside.specs.Taking.{bytes_left}
use Rattle.flu_outside.specs.Writing.{AppendsAll}
use Rattle.flu_model.specs.declared.events.Item.{Item}
use Rattle.flu_model.specs.declared.jobs.Program.{Program}
use Rattle.flu_model.specs.Erasure.{IsSameJob}
use Rattle.flu_model.specs.Folding.{final_outputs}
use Rattle.flu_model.specs.Reports.{report}
use Rattle.flu_rounds.specs.Written.{AreSound, lists_above}
use Rattle.flu_save.specs.Laws.{LawOfOneMeaning, SavesAreOfJobs}
use Rattle.flu_words.specs.Words.{Run, RunOptions}
use Rattle.flu_command.specs.Behind.{Named, HasJob, emptied_each}
use Rattle.flu_command.specs.Openings.{Opening, Opens, OpensAt, fresh, report_from}
use Rattle.flu_top.specs.Outcome.{Outside, Outcome}
use Rattle.flu_command.specs.Reading.{lines_behind}
use Rattle.flu_top.specs.Resuming.{HasLeft, MayHaveSaved, AreInTurn, AreOfOneJob, WroteTheWhole}
use Rattle.flu_top.specs.Resuming.{ResumedRunsCompleteReports}
use Rattle.flu_command.specs.Starting.{IsAsBefore}
use Rattle.flu_command.specs.Wants.{if_named, texts_named}
use Rattle.flu_top.proofs.Leaving.{runs_leave, resumed_write}

-- what is told of both
told_at : {A : Type 0} (P : A → A → Type 0) (x y : A) (a b : Option A) → a ≡ Some x → b ≡ Some y → WhereTold a b P → P x y
told_at P x y a b is is' told = subst (λ (o : Option _). WhereTold (Some x) o P) is' (subst (λ (o : Option _). WhereTold o b P) is told)

-- what a run opens with is an opening of its job
pub is_opening : (rows : ℕ) (resume : Option (List ℕ)) (texts : List (List ℕ)) (left : Contents) (p : Program) (o : Opening)
    → Opens rows resume texts left p o → IsOpeningOf p o
is_opening rows None texts left p o opens =
    let same : rows ≡ o.rows = sym (ap (λ (r : Opening). r.rows) opens.0) in
    inl (opens.0 ∙ ap fresh same, subst (λ (n : ℕ). 1 ≤ n) same opens.1)
is_opening rows (Some name) texts left p o opens = inr (bytes_left (emptied_each texts left) name, opens.0)

-- what opens a run of a job opens one of each program that is this job
pub opens_same : SavesAreOfJobs → (p q : Program) → IsSameJob p q → (bytes : List ℕ) (o : Opening) → OpensAt p bytes o → OpensAt q bytes o
opens_same saves p q same bytes o opens = record {
  time = opens.time;
  above = opens.above;
  save = saves p q same opens.time o.cells bytes opens.save;
  some = opens.some;
}

-- the report over other sources that have the same
same_sources_report : SourcesDecide → (p : Program) (o : Opening) (texts texts' : List (List ℕ)) (left left' : Contents) → AreSameSources p texts left texts' left'
    → report_from o texts' left' p ≡ report_from o texts left p
same_sources_report decide p o texts texts' left left' same =
    ap (λ (lists : List (List Item)). report p (final_outputs p o.cells (lists_above p o.border lists))) (decide p texts texts' left left' same).1

-- what the first one left
pub first_left : LawOfOneMeaning → (words words' : List (List ℕ)) (old new old' : Outside) (status : ℕ) → Outcome words old new status → MayHaveSaved status
    → (runs : AreInTurn words words' old new old')
    → IsAsBefore (texts_named (Run runs.job runs.plan runs.options)) runs.file runs.left runs.now
    ⊎ HasLeft (Run runs.job runs.plan runs.options) runs.file old.out new.out runs.left runs.now
first_left meaning words words' old new old' status outcome may runs =
    told_at (λ x y. IsAsBefore (texts_named (Run runs.job runs.plan runs.options)) runs.file x y
    ⊎ HasLeft (Run runs.job runs.plan runs.options) runs.file old.out new.out x y) runs.left runs.now old.left new.left runs.told_left runs.told_now
    (runs_leave meaning words old new status outcome may runs.job runs.plan runs.options runs.file runs.first runs.saves)

module _ (rests : CheckpointsOpenTheRest) (decide : SourcesDecide) (one_job : TextsHaveOneJob) (one_rest : JobsHaveOneRest)
    (meaning : LawOfOneMeaning) (saves : SavesAreOfJobs) where
  both_wrote : (job job' : List ℕ) (plan plan' : Option (List ℕ)) (options options' : RunOptions) (file file' : List ℕ)
      (had has had' has' : Option (List ℕ)) (left now left' : Contents)
      → bytes_left (emptied_each (job' ∷ if_named plan') left') file' ≡ bytes_left now file
      → AreOfOneJob job left job' left'
      → ((p : Program) → HasJob (Named job) left p → AreSound p (lines_behind (texts_named (Run job plan options)) left p)
      × AreSameSources p (texts_named (Run job plan options)) left (texts_named (Run job' plan' options')) left')
      → HasLeft (Run job plan options) file had has left now
      → ((q : Program) × HasJob (Named job') left' q
      × ((rest : Opening) × OpensAt q (bytes_left (emptied_each (job' ∷ if_named plan') left') file') rest
      × WhereTold had' has' (AppendsAll (report_from rest (texts_named (Run job' plan' options')) left' q))))
      → WroteTheWhole (Run job plan options) left had has had' has'
  both_wrote job job' plan plan' options options' file file' had has had' has' left now left' bytes one good stays second =
      let p = stays.p in
      let o = stays.opening in
      let q = second.0 in
      let rest = second.2.0 in
      let texts = texts_named (Run job plan options) in
      let texts' = texts_named (Run job' plan' options') in
      let same : IsSameJob q p = one_job (Named job') left' q p second.1 (one p stays.job) in
      let there : bytes_left (emptied_each (job' ∷ if_named plan') left') file' ≡ stays.checkpoint =
      bytes ∙ ap (λ (found : Option (List ℕ)). unwrap_or found []) stays.stands in
      let opens : OpensAt p stays.checkpoint rest =
      opens_same saves q p same stays.checkpoint rest (subst (λ (text : List ℕ). OpensAt q text rest) there second.2.1) in
      let goes = rests p o rest texts left stays.text stays.checkpoint (good p stays.job).0
      (is_opening options.rows options.resume (job ∷ if_named plan) left p o stays.starts.opens) stays.put opens in
      let wrote : report_from rest texts' left' q ≡ report_from rest texts left p =
      one_rest q p same rest texts' left' ∙ same_sources_report decide p rest texts texts' left left' (good p stays.job).1 in
      record {
        p = p;
        job = stays.job;
        opening = o;
        starts = stays.starts;
        text = stays.text;
        rest = report_from rest texts left p;
        whole = goes.report;
        first = stays.wrote;
        second = subst (λ (text : List ℕ). WhereTold had' has' (AppendsAll text)) wrote second.2.2;
      }

  pub complete_reports : ResumedRunsCompleteReports
  complete_reports words words' old new old' new' status outcome may outcome' runs same =
      let second = of_told (λ x y. (q : Program) × HasJob (Named runs.later_job) x q
      × ((rest : Opening) × OpensAt q (bytes_left (emptied_each (runs.later_job ∷ if_named runs.later_plan) x) runs.later_file) rest
      × WhereTold old'.out new'.out (AppendsAll (report_from rest (texts_named (Run runs.later_job runs.later_plan runs.later_options)) x q))))
      runs.later_left old'.left new'.left runs.told_later
      (resumed_write words' old' new' outcome' runs.later_job runs.later_plan runs.later_options runs.later_file runs.later runs.resumes) in
      by (first_left meaning words words' old new old' status outcome may runs) second.1
    where
      by : IsAsBefore (texts_named (Run runs.job runs.plan runs.options)) runs.file runs.left runs.now
          ⊎ HasLeft (Run runs.job runs.plan runs.options) runs.file old.out new.out runs.left runs.now
          → ((q : Program) × HasJob (Named runs.later_job) runs.later_left q
          × ((rest : Opening)
          × OpensAt q (bytes_left (emptied_each (runs.later_job ∷ if_named runs.later_plan) runs.later_left) runs.later_file) rest
          × WhereTold old'.out new'.out (AppendsAll
          (report_from rest (texts_named (Run runs.later_job runs.later_plan runs.later_options)) runs.later_left q))))
          → IsAsBefore (texts_named (Run runs.job runs.plan runs.options)) runs.file runs.left runs.now
          ⊎ WroteTheWhole (Run runs.job runs.plan runs.options) runs.left old.out new.out old'.out new'.out
      by (inl before) rest = inl before
      by (inr stays) rest =
          inr (both_wrote runs.job runs.later_job runs.plan runs.later_plan runs.options runs.later_options runs.file runs.later_file old.out
          new.out old'.out new'.out runs.left runs.now runs.later_left runs.same_bytes runs.one_job (λ p has. (runs.sound p has, same p has)) stays rest)
