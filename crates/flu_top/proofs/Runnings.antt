-- What a run has read before its rounds, what refuses it there, and how its rounds end its command.
use Rattle.std.proofs.Common.{◌≡◌, refl, sym, ap, ◌∙◌, subst, ℕ, Bool, true, false, ◌≤◌, List, [], ◌∷◌, ◌++◌, Option, Some, None, Result, Ok, Err, inl, inr}
use Rattle.std.proofs.Common.{◌⊎◌, arith, append_assoc}
use Rattle.std.specs.Prelude.{Contains, option_map, slice_get, IfErr, IfSome}
use Rattle.std.proofs.lemmas.Result.{IfErr-weaker}
use Rattle.std.proofs.lemmas.List.Elements.{Contains-append_cases, Contains-append_left, Contains-append_right}
use Rattle.flu_outside.specs.declared.files.PutFault.{PutFault}
use Rattle.flu_outside.specs.Outside.{WhereTold, Contents, SameCounts, Rose}
use Rattle.flu_outside.specs.Taking.{TakesFrom, TookFronts, TookAtMost, bytes_left}
use Rattle.flu_model.specs.declared.jobs.Program.{Program}
use Rattle.flu_model.specs.declared.jobs.Source.{Source}
use Rattle.flu_model.specs.Folding.{final_state, final_outputs}
use Rattle.flu_model.specs.Reports.{report}
use Rattle.flu_lemmas.proofs.Containing.{contains_here, contains_later, one_contains}
use Rattle.flu_lemmas.proofs.Named.{fronts_then, rose_behind}
use Rattle.flu_lemmas.proofs.Told.{told_both, told_then, told_weaker}
use Rattle.flu_model.specs.Modes.{IsAccepted}
use Rattle.flu_streams.specs.declared.faults.SourceFault.{SourceFault}
use Rattle.flu_streams.specs.Files.{files_of, LeavesOthers}
use Rattle.flu_rounds.specs.Written.{lists_above, AreSound, lines_in}
use Rattle.flu_streams.specs.Counts.{grown, no_counts}
use Rattle.flu_save.specs.Checkpoint.{save}
use Rattle.flu_save.specs.Forms.{IsFaultOf}
use Rattle.flu_streams.specs.Good.{lists_of}
use Rattle.flu_words.specs.Words.{RunOptions, Run, Valid}
use Rattle.flu_lines.specs.declared.products.Said.{Said}
use Rattle.flu_lines.specs.declared.refusals.JobRead.{JobRead}
use Rattle.flu_lines.specs.declared.refusals.Refusal.{Refusal}
use Rattle.flu_lines.specs.declared.refusals.Refusal.TheVariants as refusals
use Rattle.flu_lines.specs.declared.refusals.SaveDefect.TheVariants as defects
use Rattle.flu_lines.specs.Answer.{code_after}
use Rattle.flu_command.specs.Behind.{WantedJob, Named, job_files, HasJob, emptied_each, lists_behind}
use Rattle.flu_command.specs.Causes.{IsJobRead, HasSourceFault, HasStartDefect, IsMet}
use Rattle.flu_command.specs.Done.{HasPlanAsked, MayHaveJob, MayBeJob, IsDone, IsLine, WroteRounds, WroteUnsaved, WroteIntoRound, IsReadName, IsSourceFile}
use Rattle.flu_command.specs.Done.{IsPutAt}
use Rattle.flu_top.specs.Ending.{call, HasAll, HasDefectMet, IsStopped, IsEnding}
use Rattle.flu_lines.specs.Jobs.{program_read}
use Rattle.flu_command.specs.Openings.{Opening, Opens, OpensAt, lists_from}
use Rattle.flu_lines.specs.Products.{line_said}
use Rattle.flu_top.specs.Products.{MaySay}
use Rattle.flu_command.specs.Ready.{AreTextsRead, IsReady}
use Rattle.flu_command.specs.Reading.{InRounds, HaveWritten, MeetsDefect, ReportsNext, greatest_border, lines_behind}
use Rattle.flu_command.specs.ReadFaults.{InCheckpoint, InRows}
use Rattle.flu_top.specs.Refusing.{IsRefusal}
use Rattle.flu_top.specs.Running.{IsBegun, IsOpened, IsOpeningRefusal, IsSavedTo, StaysWithin, IsAllRun, RanAll, RanToDefect, RanSome, RanInto, RanUnsaved}
use Rattle.flu_top.specs.Running.{IsRoundsRefusal, EndsRun, IsPlanSaid, MaySayPlan, SaysPlan}
use Rattle.flu_command.specs.Starting.{AreNoSources, CanStart, HasBadCheckpoint, StartsFrom, IsSameName, Saves, Resumes, Leaves, LeavesPut, LeavesAnything}
use Rattle.flu_command.specs.Taking.{TookOnly, TookFrontsBut}
use Rattle.flu_command.specs.Unfinished.{IsUnfinished}
use Rattle.flu_command.specs.Wants.{if_named, plan_said, job_and_plan_named, texts_named, sources_read, IsNotSaved}
use Rattle.flu_top.proofs.AsValid.{only_as_valid, refusal_as_valid, run_reads}
use Rattle.flu_top.proofs.SourceFiles.{file_is_named}
use Rattle.flu_top.proofs.Sequence.{among, name_given, none_among, one_text, is_source_file, stays_ended, text_is_read}

-- ---- texts
-- some texts are read, and then others
emptied_then : (first second : List (List ℕ)) (x : Contents) → emptied_each (first ++ second) x ≡ emptied_each second (emptied_each first x)
emptied_then [] second x = refl
emptied_then (text ∷ first) second x = emptied_then first second _

pub texts_then : (first second : List (List ℕ)) (x y z : Contents) → AreTextsRead first x y → AreTextsRead second y z → AreTextsRead (first ++ second) x z
texts_then first second x y z one two = record {
  behind = emptied_then first second x ∙ ap (emptied_each second) one.behind ∙ two.behind;
  ends = λ name found. elim (Contains-append_cases first second name found) [
    | inl early ↦ stays_ended second y z two.ends two.others name (one.ends name early)
    | inr late ↦ two.ends name late
  ];
  others = λ name missing.
      two.others name (λ found. missing (Contains-append_right first second name found))
      ∙ one.others name (λ found. missing (Contains-append_left first second name found));
}

others_then : (first second : List (List ℕ)) (x y z : Contents) → LeavesOthers first x y → LeavesOthers second y z → LeavesOthers (first ++ second) x z
others_then first second x y z one two name missing =
    two name (λ found. missing (Contains-append_right first second name found)) ∙ one name (λ found. missing (Contains-append_left first second name found))

-- ---- what is left under the name that is saved to
-- where some texts were read, and nothing was put, it is as before
none_put : (named : Option (List ℕ)) (texts : List (List ℕ)) (x y : Contents) → TookFronts x y → LeavesOthers texts x y → LeavesPut named texts None x y
none_put None texts x y fronts others = tt
none_put (Some name) texts x y fronts others = record { end = λ rest is. fronts name rest is; unread = λ missing. others name missing }

-- what was put behind the texts
put_behind_texts : (named put : Option (List ℕ)) (texts : List (List ℕ)) (x y z : Contents) → TookFronts x y → LeavesOthers texts x y
    → LeavesPut named [] put y z → LeavesPut named texts put x z
put_behind_texts None put texts x y z fronts others leaves = tt
put_behind_texts (Some name) None texts x y z fronts others leaves = record {
  end = λ rest is.
      let second = leaves.end rest is in
      let first = fronts name (second.0 ++ rest) second.1 in
      (first.0 ++ second.0, first.1 ∙ ap Some (sym (append_assoc first.0 second.0 rest)));
  unread = λ missing. leaves.unread (none_among name) ∙ others name missing;
}
put_behind_texts (Some name) (Some bytes) texts x y z fronts others leaves = leaves

-- ---- a run reads its job and its plan as `valid` does, where it names a plan
-- those are all names that `valid` reads
valid_reads : (job plan : List ℕ) (left : Option Contents) (name : List ℕ) → IsReadName left (Valid job plan) name → Contains (job ∷ plan ∷ []) name
valid_reads job plan left name (inl same) = subst (λ (wanted : WantedJob). Contains (job_files wanted ++ plan ∷ []) name) (sym same)
    (contains_here name (plan ∷ []))
valid_reads job plan left name (inr (inl found)) = contains_later job name (plan ∷ [])
    (one_contains plan name (let same : plan ≡ name = let e = found.named in cc in sym same))
valid_reads job plan left name (inr (inr (inl checkpoint))) = absurd (let e = checkpoint.named in cc)
valid_reads job plan left name (inr (inr (inr (inl source)))) = absurd (none_among name source.named)
valid_reads job plan left name (inr (inr (inr (inr trace)))) = absurd (let e = trace.named in cc)

pub others_as_valid : (job plan : List ℕ) (named : Option (List ℕ)) (a b : Option Contents) → named ≡ Some plan
    → WhereTold a b (TookOnly (IsReadName a (Valid job plan))) → WhereTold a b (LeavesOthers (job ∷ if_named named))
others_as_valid job plan named a b is only = subst (λ (o : Option (List ℕ)). WhereTold a b (LeavesOthers (job ∷ if_named o))) (sym is)
    (told_weaker (TookOnly (IsReadName a (Valid job plan))) (LeavesOthers (job ∷ plan ∷ [])) a b
    (λ x y took name missing. took name (λ read. missing (valid_reads job plan a name read))) only)

pub run_only_as_valid : (job plan : List ℕ) (named : Option (List ℕ)) (a b : Option Contents) → named ≡ Some plan
    → WhereTold a b (TookOnly (IsReadName a (Valid job plan)))
    → (options : RunOptions) → WhereTold a b (TookOnly (IsReadName a (Run job named options)))
run_only_as_valid job plan named a b is only options = subst (λ (o : Option (List ℕ)). WhereTold a b (TookOnly (IsReadName a (Run job o options)))) (sym is)
    (only_as_valid (Run job (Some plan) options) job plan a b (run_reads job plan options) only)

pub run_refused_as_valid : {T : Type 0} (r : Result T Refusal) (job plan : List ℕ) (named : Option (List ℕ)) (a b : Option Contents) (k m : List ℕ → ℕ)
    → named ≡ Some plan → IfErr r (IsRefusal (Valid job plan) a b k m)
    → IfErr r (λ (refusal : Refusal). (options : RunOptions) → IsRefusal (Run job named options) a b k m refusal)
run_refused_as_valid r job plan named a b k m is refused = subst (λ (o : Option (List ℕ)). IfErr r (λ (refusal : Refusal). (options : RunOptions)
    → IsRefusal (Run job o options) a b k m refusal)) (sym is)
    (IfErr-weaker r _ _ (λ refusal why options. refusal_as_valid (Run job (Some plan) options) job plan a b k m refusal (run_reads job plan options) why)
    refused)

-- where it names none its job alone is read
pub begun_alone : (job : List ℕ) (p q : Program) (a b : Option Contents) → q ≡ p → WhereTold a b (IsJobRead job p) → WhereTold a b (TakesFrom job)
    → WhereTold a b (IsBegun job None q)
begun_alone job p q a b same read taken = subst (λ (r : Program). WhereTold a b (IsBegun job None r)) (sym same)
    (told_weaker (λ x y. IsJobRead job p x y × TakesFrom job x y) (IsBegun job None p) a b
    (λ x y first. record { has = first.0.has; its_plan = λ name named. absurd (cc); texts = one_text job x y first.0.end first.1 })
    (told_both (IsJobRead job p) (TakesFrom job) a b read taken))

-- ---- a run that has read its job and its plan
-- a name that it saves to is as before
pub as_before : (job : List ℕ) (plan : Option (List ℕ)) (options : RunOptions) (a b : Option Contents) → WhereTold a b TookFronts
    → WhereTold a b (LeavesOthers (job ∷ if_named plan)) → WhereTold a b (Leaves (Run job plan options) None)
as_before job plan options a b fronts others = told_weaker (λ x y. TookFronts x y × LeavesOthers (job ∷ if_named plan) x y)
    (Leaves (Run job plan options) None) a b
    (λ x y both. none_put options.save (texts_named (Run job plan options)) x y both.0
    (λ name missing. both.1 name (λ found. missing (Contains-append_left (job ∷ if_named plan) (if_named options.resume) name found))))
    (told_both TookFronts (LeavesOthers (job ∷ if_named plan)) a b fronts others)

pub as_before_opening : (job : List ℕ) (plan : Option (List ℕ)) (options : RunOptions) (a b d : Option Contents) → WhereTold a b TookFronts
    → WhereTold a b (LeavesOthers (job ∷ if_named plan))
    → WhereTold b d TookFronts → WhereTold b d (LeavesOthers (if_named options.resume)) → WhereTold a d (Leaves (Run job plan options) None)
as_before_opening job plan options a b d fronts others fronts' others' =
    told_then (λ x y. TookFronts x y × LeavesOthers (job ∷ if_named plan) x y) (λ y z. TookFronts y z × LeavesOthers (if_named options.resume) y z)
    (Leaves (Run job plan options) None) a b d
    (λ x y z first second. none_put options.save (texts_named (Run job plan options)) x z (fronts_then (Some x) (Some y) (Some z) first.0 second.0)
    (others_then (job ∷ if_named plan) (if_named options.resume) x y z first.1 second.1))
    (told_both TookFronts (LeavesOthers (job ∷ if_named plan)) a b fronts others)
    (told_both TookFronts (LeavesOthers (if_named options.resume)) b d fronts' others')

module _ (job : List ℕ) (plan : Option (List ℕ)) (options : RunOptions) (p : Program) (a b : Option Contents) where
  may_be_begun : IsAccepted p → WhereTold a b (IsBegun job plan p) → MayBeJob a (Run job plan options) p
  may_be_begun accepted begun = record { has = has_begun a b begun; accepted = λ asked. accepted }
    where
      has_begun : (a' b' : Option Contents) → WhereTold a' b' (IsBegun job plan p) → MayHaveJob a' (Named job) p
      has_begun None b' told = tt
      has_begun (Some x) None told = absurd told
      has_begun (Some x) (Some y) told = told.has

  -- a plan that is named is valid, where the files tell it
  plan_begun : WhereTold a b (IsBegun job plan p) → IfSome a (λ contents. HasPlanAsked (Run job plan options) contents p)
  plan_begun begun = by_told a b begun
    where
      by_told : (a' b' : Option Contents) → WhereTold a' b' (IsBegun job plan p) → IfSome a' (λ contents. HasPlanAsked (Run job plan options) contents p)
      by_told None b' told = tt
      by_told (Some x) None told = absurd told
      by_told (Some x) (Some y) told = told.its_plan

  -- ---- what refuses it before its rounds
  -- a name that it saves to, or is resumed from, is a source's file
  pub same_name_refuses : IsAccepted p → WhereTold a b (IsBegun job plan p) → (number : ℕ) → IsSameName (Run job plan options) p number
      → HasStartDefect (Run job plan options) a b p (λ left. IsSameName (Run job plan options) p number)
  same_name_refuses accepted begun number same = record {
    name = (names_it same).0;
    named = (names_it same).1;
    accepted = λ asked. accepted;
    first = told_weaker (IsBegun job plan p) (λ left _. HasJob (Named job) left p × HasPlanAsked (Run job plan options) left p
        × IsSameName (Run job plan options) p number) a b
        (λ x y first. (first.has, first.its_plan, same)) begun;
  }
    where
      names_it : IsSameName (Run job plan options) p number → (name : List ℕ) × ((options.save ≡ Some name) ⊎ (options.resume ≡ Some name))
      names_it (Saves file) = (file.0.file, inl file.3)
      names_it (Resumes others file) = (file.0.file, inr file.3)

  -- the checkpoint that it is resumed from could not be read, or has a fault
  pub opening_refuses : (d : Option Contents) (k l m : List ℕ → ℕ) → IsAccepted p → AreNoSources (Run job plan options) p
      → WhereTold a b (IsBegun job plan p) → ((n : List ℕ) → k n ≤ l n) → (refusal : Refusal)
      → IsOpeningRefusal options.resume p b d l m refusal → IsRefusal (Run job plan options) a d k m refusal
  opening_refuses d k l m accepted apart begun rise (refusals.BadWords bad) is = is
  opening_refuses d k l m accepted apart begun rise (refusals.JobFault fault text) is = absurd is
  opening_refuses d k l m accepted apart begun rise (refusals.Conflict fault) is = absurd is
  opening_refuses d k l m accepted apart begun rise (refusals.PlanDefect defect) is = absurd is
  opening_refuses d k l m accepted apart begun rise (refusals.SourceFault job_read fault) is = absurd is
  opening_refuses d k l m accepted apart begun rise refusals.ReadFault is =
      InCheckpoint is.0 (record { p = p; job = may_be_begun accepted begun; plan = plan_begun begun; apart = apart; named = is.1 })
      (rose_behind (k is.0) (l is.0) (m is.0) (rise is.0) is.2)
      (told_then (IsBegun job plan p) (TookAtMost is.0 536870912)
      (λ x z. TookAtMost is.0 536870912 (emptied_each (job_and_plan_named (Run job plan options)) x) z) a b d
      (λ x y z first few. subst (λ (left : Contents). TookAtMost is.0 536870912 left z) (sym first.texts.behind) few) begun is.3)
  opening_refuses d k l m accepted apart begun rise refusals.WriteFault is = is
  opening_refuses d k l m accepted apart begun rise refusals.NoMemory is = tt
  opening_refuses d k l m accepted apart begun rise (refusals.SaveDefect (defects.SameName checked number)) is = absurd is
  opening_refuses d k l m accepted apart begun rise (refusals.SaveDefect (defects.Checkpoint fault)) is = (
    p,
    record {
      name = is.0;
      named = inr is.1;
      accepted = λ asked. accepted;
      first = told_then (IsBegun job plan p) (λ left _. IsFaultOf p (bytes_left left is.0) fault)
          (λ left _. HasJob (Named job) left p × HasPlanAsked (Run job plan options) left p × HasBadCheckpoint (Run job plan options) left p fault) a b d
          (λ x y z first bad. (
            first.has,
            first.its_plan,
            record {
              apart = apart;
              name = is.0;
              named = is.1;
              is_fault = is.2;
              first = subst (λ (left : Contents). IsFaultOf p (bytes_left left is.0) fault) (sym first.texts.behind) bad;
            },
          )) begun is.3;
    },
  )
  opening_refuses d k l m accepted apart begun rise refusals.PutFault is = is
  opening_refuses d k l m accepted apart begun rise (refusals.TraceFault fault) is = absurd is

  -- and then nothing else was read
  pub only_opening : (d : Option Contents) (status : ℕ) → IsAccepted p → AreNoSources (Run job plan options) p → WhereTold a b (IsBegun job plan p)
      → WhereTold a b (TookOnly (IsReadName a (Run job plan options))) → WhereTold b d (LeavesOthers (if_named options.resume))
      → WhereTold a d (TookOnly (λ name. IsReadName a (Run job plan options) name ⊎ IsPutAt (Run job plan options) status name))
  only_opening d status accepted apart begun only others =
      told_then (TookOnly (IsReadName a (Run job plan options))) (LeavesOthers (if_named options.resume))
      (TookOnly (λ name. IsReadName a (Run job plan options) name ⊎ IsPutAt (Run job plan options) status name)) a b d
      (λ x y z first second name unread.
      second name (λ found. unread (inl (inr (inr (inl (record {
        p = p;
        job = may_be_begun accepted begun;
        plan = plan_begun begun;
        apart = apart;
        named =
            name_given options.resume name found;
      }))))))
      ∙ first name (λ read. unread (inl read))) only others

-- ---- a run that has read all of its texts
-- it has its opening then
pub record IsStarted (job : List ℕ) (plan : Option (List ℕ)) (options : RunOptions) (p : Program) (o : Opening) (old new : Contents) : Type 0 where
  pub ready : IsReady (Run job plan options) p old new
  pub starts : StartsFrom (Run job plan options) old p o
  pub fronts : TookFronts old new

opens_behind : (rows : ℕ) (resume : Option (List ℕ)) (texts : List (List ℕ)) (p : Program) (o : Opening) (x y : Contents) → emptied_each texts x ≡ y
    → Opens rows resume [] y p o → Opens rows resume texts x p o
opens_behind rows None texts p o x y behind opens = opens
opens_behind rows (Some name) texts p o x y behind opens =
    (subst (λ (left : Contents). OpensAt p (bytes_left left name) o) (sym behind) opens.0, opens.1)

pub is_started : (job : List ℕ) (plan : Option (List ℕ)) (options : RunOptions) (p : Program) (o : Opening) (a b d : Option Contents)
    → AreNoSources (Run job plan options) p
    → WhereTold a b (IsBegun job plan p) → WhereTold a b TookFronts → WhereTold b d (IsOpened options.rows options.resume p o) → WhereTold b d TookFronts
    → WhereTold a d (IsStarted job plan options p o)
is_started job plan options p o a b d apart begun fronts opened fronts' =
    told_then (λ x y. IsBegun job plan p x y × TookFronts x y) (λ y z. IsOpened options.rows options.resume p o y z × TookFronts y z)
    (IsStarted job plan options p o) a b d
    (λ x y z first second. record {
      ready = record {
        has = first.0.has;
        plan = first.0.its_plan;
        texts =
            texts_then (job ∷ if_named plan) (if_named options.resume) x y z first.0.texts second.0.texts;
      };
      starts = record { apart = apart; opens = opens_behind options.rows options.resume (job ∷ if_named plan) p o x y first.0.texts.behind second.0.opens };
      fronts = fronts_then (Some x) (Some y) (Some z) first.1 second.1;
    })
    (told_both (IsBegun job plan p) TookFronts a b begun fronts) (told_both (IsOpened options.rows options.resume p o) TookFronts b d opened fronts')

-- ---- what is said
-- what is said of the counts of all events is what the command says
says_line : (adapts : Bool) (rows : ℕ) (texts : List (List ℕ)) (resume : Option (List ℕ)) (p : Program) (o : Opening) (left : Contents) (line : List ℕ)
    → Opens rows resume texts left p o
    → IsPlanSaid adapts p (grown (no_counts p) (lists_from o (texts ++ if_named resume) left p)) line → IsLine (plan_said adapts rows texts resume) left p line
says_line false rows texts resume p o left line opens is = is
says_line true rows texts resume p o left line opens is = (o, opens, is)

may_say_line : (adapts : Bool) (rows : ℕ) (texts : List (List ℕ)) (resume : Option (List ℕ)) (said : Option Said) → MaySayPlan adapts said
    → MaySay (plan_said adapts rows texts resume) said
may_say_line false rows texts resume said is = is
may_say_line true rows texts resume None is = is
may_say_line true rows texts resume (Some said) is = is

-- ---- the rounds of a run, behind its texts
module _ (job : List ℕ) (plan : Option (List ℕ)) (options : RunOptions) (p : Program) (o : Opening) (a b d : Option Contents) (k l m s t u : List ℕ → ℕ)
    (had has : Option (List ℕ)) (x z : ℕ)
    (accepted : IsAccepted p) (apart : AreNoSources (Run job plan options) p) (started : WhereTold a b (IsStarted job plan options p o)) (rise : (n : List ℕ)
    → k n ≤ l n) (puts : SameCounts s t)
    (within : StaysWithin p options.save (call b d l m t u had has x z)) where
  -- the lines of the sources behind the texts
  lines_same : (v w : Contents) → IsStarted job plan options p o v w → lines_in p w ≡ lines_behind (texts_named (Run job plan options)) v p
  lines_same v w first = ap (lines_in p) (sym first.ready.texts.behind)

  -- what is left under the name that it saves to
  leaves_behind : (put : Option (List ℕ)) (v w r : Contents) → IsStarted job plan options p o v w → LeavesPut options.save [] put w r
      → Leaves (Run job plan options) put v r
  leaves_behind put v w r first leaves = put_behind_texts options.save put
      (texts_named (Run job plan options)) v w r first.fronts first.ready.texts.others leaves

  -- the names of its texts and sources were read to their ends, but for one that it saves to
  ends_behind : (v w r : Contents) → IsStarted job plan options p o v w → ((name : List ℕ) → Contains (files_of p.sources) name → r name ≡ Some [])
      → TookOnly (λ name. Contains (files_of p.sources) name ⊎ IsSavedTo options.save name) w r
      → (name : List ℕ) → Contains (texts_named (Run job plan options) ++ sources_read (Run job plan options) p) name
      → IsNotSaved (Run job plan options) name → r name ≡ Some []
  ends_behind v w r first ends only name found unsaved = elim (Contains-append_cases (texts_named (Run job plan options)) (files_of p.sources) name found) [
    | inr source ↦ ends name source
    | inl text ↦ elim (among (files_of p.sources) name) [
      | inl source ↦ ends name source
      | inr other ↦ only name (λ either. elim either [ inl source ↦ other source | inr saved ↦ unsaved saved ]) ∙ first.ready.texts.ends name text
    ]
  ]

  -- all events are those of the sources behind the texts
  says_behind : (said : Option Said) (v w : Contents) → IsStarted job plan options p o v w
      → IsPlanSaid options.adapt p (grown (no_counts p) (lists_above p o.border (lists_of p w))) (line_said said)
      → IsLine (plan_said options.adapt options.rows (job ∷ if_named plan) options.resume) v p (line_said said)
  unfolding lists_behind
  says_behind said v w first is = says_line options.adapt options.rows (job ∷ if_named plan) options.resume p o v (line_said said) first.starts.opens
      (subst (λ (left : Contents). IsPlanSaid options.adapt p (grown (no_counts p) (lists_above p o.border (lists_of p left))) (line_said said))
      (sym first.ready.texts.behind) is)

  all_read : (said : Option Said) → RanAll p o options.save (call b d l m t u had has x z) → SaysPlan options.adapt p o said (call b d l m t u had has x z)
      → HasAll (call a d k m s u had has x z) (Run job plan options) said
  unfolding lists_behind
  all_read said ran says = record {
    done = told_then (IsStarted job plan options p o)
        (λ v w. IsAllRun p o options.save ran.text v w × (TookOnly (λ name. Contains (files_of p.sources) name ⊎ IsSavedTo options.save name) v w
        × IsPlanSaid options.adapt p (grown (no_counts p) (lists_above p o.border (lists_of p v))) (line_said said)))
        (IsDone (Run job plan options) had has (line_said said)) a b d
        (λ v w r first second. (
          p,
          ran.text,
          record {
            good = record {
              has = first.ready.has;
              accepted = λ asked. accepted;
              plan = first.ready.plan;
              start = (o, first.starts);
              sources = subst (AreSound p) (lines_same v w first) second.0.sound;
            };
            ends = ends_behind v w r first second.0.ends second.1.0;
            trace = λ trace named. absurd (cc);
            saved = λ name named. (
              o,
              first.starts,
              second.0.saved name named ∙ ap (λ (left : Contents). Some
                  (save p greatest_border (final_state p o.cells (lists_above p o.border (lists_of p left))))) (sym first.ready.texts.behind),
            );
          },
          (
            o,
            first.starts.opens,
            second.0.is ∙ ap (λ (left : Contents). report p (final_outputs p o.cells (lists_above p o.border (lists_of p left))))
                (sym first.ready.texts.behind),
          ),
          says_behind said v w first second.1.1,
          ran.wrote,
        )) started
        (told_both (IsAllRun p o options.save ran.text)
        (λ v w. TookOnly (λ name. Contains (files_of p.sources) name ⊎ IsSavedTo options.save name) v w
        × IsPlanSaid options.adapt p (grown (no_counts p) (lists_above p o.border (lists_of p v))) (line_said said)) b d ran.all
        (told_both (TookOnly (λ name. Contains (files_of p.sources) name ⊎ IsSavedTo options.save name))
        (λ v w. IsPlanSaid options.adapt p (grown (no_counts p) (lists_above p o.border (lists_of p v))) (line_said said)) b d
        within.others says.told));
    may_say = may_say_line options.adapt options.rows (job ∷ if_named plan) options.resume said says.may_say;
  }

  met : (job_read : JobRead) (fault : SourceFault) → program_read job_read ≡ p → RanToDefect p o options.save (call b d l m t u had has x z) fault
      → HasDefectMet (call a d k m s u had has x z) (Run job plan options) job_read fault
  met job_read fault same ran = record {
    text = ran.text;
    why = subst (λ (q : Program). HasSourceFault (Run job plan options) a d q fault ran.text) (sym same) (record {
      asked = refl;
      accepted = λ asked. accepted;
      source = ran.source;
      first = told_then (IsStarted job plan options p o) (λ v w. (put : Option (List ℕ)) × MeetsDefect p o (lines_in p v) ran.text put fault
          × LeavesPut options.save [] put v w)
          (λ left now. HasJob (Named job) left p × HasPlanAsked (Run job plan options) left p × CanStart (Run job plan options) left p
          × IsMet InRounds (Run job plan options) left now p ran.text fault) a b d
          (λ v w r first second. (
            first.ready.has,
            first.ready.plan,
            (o, first.starts),
            record {
              opening = o;
              starts = first.starts;
              put = second.0;
              met = subst (λ lines. MeetsDefect p o lines ran.text second.0 fault) (lines_same v w first) second.1;
              leaves = leaves_behind second.0 v w r first second.2;
            },
          )) started ran.met;
    });
    wrote = ran.wrote;
  }

  wrote_rounds : RanSome p o options.save (call b d l m t u had has x z) → WroteRounds (Run job plan options) a d had has
  wrote_rounds ran = record {
    p = p;
    text = ran.text;
    accepted = λ asked. accepted;
    wrote = ran.wrote;
    rounds = told_then (IsStarted job plan options p o) (λ v w. (put : Option (List ℕ)) × HaveWritten p o (lines_in p v) ran.text put
        × LeavesPut options.save [] put v w)
        (λ left now. HasJob (Named job) left p × HasPlanAsked (Run job plan options) left p × ((o' : Opening) × StartsFrom (Run job plan options) left p o'
        × ((put : Option (List ℕ)) × HaveWritten p o' (lines_behind (texts_named (Run job plan options)) left p) ran.text put
        × Leaves (Run job plan options) put left now))) a b d
        (λ v w r first second. (
          first.ready.has,
          first.ready.plan,
          (
            o,
            first.starts,
            (
              second.0,
              subst (λ lines. HaveWritten p o lines ran.text second.0) (lines_same v w first) second.1,
              leaves_behind second.0 v w r first second.2,
            ),
          ),
        )) started ran.rounds;
  }

  wrote_into : RanInto p o options.save (call b d l m t u had has x z) → WroteIntoRound (Run job plan options) a d had has
  wrote_into ran = record {
    p = p;
    text = ran.text;
    more = ran.more;
    accepted = λ asked. accepted;
    wrote = ran.wrote;
    round = told_then (IsStarted job plan options p o) (λ v w. (put : Option (List ℕ)) × ReportsNext p o (lines_in p v) ran.text put ran.more
        × LeavesPut options.save [] put v w)
        (λ left now. HasJob (Named job) left p × HasPlanAsked (Run job plan options) left p × ((o' : Opening) × StartsFrom (Run job plan options) left p o'
        × ((put : Option (List ℕ)) × ReportsNext p o' (lines_behind (texts_named (Run job plan options)) left p) ran.text put ran.more
        × Leaves (Run job plan options) put left now))) a b d
        (λ v w r first second. (
          first.ready.has,
          first.ready.plan,
          (
            o,
            first.starts,
            (
              second.0,
              subst (λ lines. ReportsNext p o lines ran.text second.0 ran.more) (lines_same v w first) second.1,
              leaves_behind second.0 v w r first second.2,
            ),
          ),
        )) started ran.round;
  }

  wrote_unsaved : (Left Left' : Option (List ℕ) → Contents → Contents → Type 0)
      → ((put : Option (List ℕ)) (v w r : Contents) → IsStarted job plan options p o v w → Left put w r → Left' put v r)
      → RanUnsaved Left p o options.save (call b d l m t u had has x z) → WroteUnsaved Left' (Run job plan options) a d had has
  wrote_unsaved Left Left' behind ran = record {
    p = p;
    text = ran.text;
    more = ran.more;
    saves = ran.saves;
    accepted = λ asked. accepted;
    wrote = ran.wrote;
    round = told_then (IsStarted job plan options p o) (λ v w. (put : Option (List ℕ)) × ReportsNext p o (lines_in p v) ran.text put ran.more × Left put v w)
        (λ left now. HasJob (Named job) left p × HasPlanAsked (Run job plan options) left p × ((o' : Opening) × StartsFrom (Run job plan options) left p o'
        × ((put : Option (List ℕ)) × ReportsNext p o' (lines_behind (texts_named (Run job plan options)) left p) ran.text put ran.more
        × Left' put left now))) a b d
        (λ v w r first second. (
          first.ready.has,
          first.ready.plan,
          (
            o,
            first.starts,
            (
              second.0,
              subst (λ lines. ReportsNext p o lines ran.text second.0 ran.more) (lines_same v w first) second.1,
              behind second.0 v w r first second.2,
            ),
          ),
        )) started ran.round;
  }

  -- it can start, where the files tell it
  start_told : IfSome a (λ contents. CanStart (Run job plan options) contents p)
  start_told = by_told a b started
    where
      by_told : (a' b' : Option Contents) → WhereTold a' b' (IsStarted job plan options p o)
          → IfSome a' (λ contents. CanStart (Run job plan options) contents p)
      by_told None b' told = tt
      by_told (Some v) None told = absurd told
      by_told (Some v) (Some w) told = (o, told.starts)

  is_ready : WhereTold a b (IsReady (Run job plan options) p)
  is_ready = told_weaker (IsStarted job plan options p o) (IsReady (Run job plan options) p) a b (λ v w first. first.ready) started

  source_file : (name : List ℕ) → Contains (files_of p.sources) name → IsSourceFile a (Run job plan options) name
  source_file name found = is_source_file (Run job plan options) p a b refl (λ asked. accepted) apart start_told is_ready name found

  refused_in_rounds : (refusal : Refusal) → IsRoundsRefusal p o options.save (call b d l m t u had has x z) refusal
      → IsStopped (call a d k m s u had has x z) (Run job plan options) refusal
  refused_in_rounds (refusals.BadWords bad) is = is
  refused_in_rounds (refusals.JobFault fault text) is = absurd is
  refused_in_rounds (refusals.Conflict fault) is = absurd is
  refused_in_rounds (refusals.PlanDefect defect) is = absurd is
  refused_in_rounds (refusals.SourceFault job_read fault) is = met job_read fault is.0 is.1
  refused_in_rounds refusals.ReadFault is =
      let round = is.0.round in
      let name = round.source.file in
      record {
        why = InRows name (source_file name (file_is_named p.sources round.at round.source round.is round.has_file)) refl
            (rose_behind (k name) (l name) (m name) (rise name) is.0.rose) (record {
              p = p;
              o = o;
              round = round;
              named = refl;
              told = told_then (IsStarted job plan options p o) (λ v w. IsUnfinished p o round (lines_in p v) w)
                  (λ was now. HasJob (Named job) was p × StartsFrom (Run job plan options) was p o
                  × IsUnfinished p o round (lines_behind (texts_named (Run job plan options)) was p) now) a b d
                  (λ v w r first rest. (first.ready.has, first.starts, subst (λ lines. IsUnfinished p o round lines r) (lines_same v w first) rest))
                  started is.0.told;
            });
        wrote = inr (wrote_rounds is.1);
      }
  refused_in_rounds refusals.WriteFault is = record { rose = is.0; partly = wrote_into is.1 }
  refused_in_rounds refusals.NoMemory is = elim is [
    | inl some ↦ inl (inr (wrote_rounds some))
    | inr unsaved ↦ inr (wrote_unsaved (LeavesPut options.save []) (Leaves (Run job plan options)) leaves_behind unsaved)
  ]
  refused_in_rounds (refusals.SaveDefect defect) is = absurd is
  refused_in_rounds refusals.PutFault is =
      let rose = is.0 in
      record {
        name = rose.0;
        named = rose.1;
        rose = subst (λ (n : ℕ). Rose n (u rose.0)) (puts rose.0) rose.2;
        wrote = wrote_unsaved LeavesAnything LeavesAnything (λ put v w r first anything. tt) is.1;
      }
  refused_in_rounds (refusals.TraceFault fault) is = absurd is

  pub ends_run : (result : Result (Option Said) Refusal) → EndsRun options.adapt p o options.save (call b d l m t u had has x z) result
      → IsEnding (call a d k m s u had has x z) (Run job plan options) result
  ends_run (Ok said) is = all_read said is.0 is.1
  ends_run (Err refusal) is = refused_in_rounds refusal is

  -- ---- the names that it reads and puts
  may_put : (result : Result (Option Said) Refusal) → EndsRun options.adapt p o options.save (call b d l m t u had has x z) result
      → Contains (0 ∷ 6 ∷ 7 ∷ 8 ∷ 9 ∷ 12 ∷ []) (code_after result)
  may_put (Ok said) is = (0, omega arith, refl)
  may_put (Err (refusals.BadWords bad)) is = absurd is
  may_put (Err (refusals.JobFault fault text)) is = absurd is
  may_put (Err (refusals.Conflict fault)) is = absurd is
  may_put (Err (refusals.PlanDefect defect)) is = absurd is
  may_put (Err (refusals.SourceFault job_read fault)) is = (1, omega arith, refl)
  may_put (Err refusals.ReadFault) is = (2, omega arith, refl)
  may_put (Err refusals.WriteFault) is = (3, omega arith, refl)
  may_put (Err refusals.NoMemory) is = (4, omega arith, refl)
  may_put (Err (refusals.SaveDefect defect)) is = absurd is
  may_put (Err refusals.PutFault) is = (5, omega arith, refl)
  may_put (Err (refusals.TraceFault fault)) is = absurd is

  pub run_fronts : (result : Result (Option Said) Refusal) → EndsRun options.adapt p o options.save (call b d l m t u had has x z) result
      → WhereTold a d (TookFrontsBut (IsPutAt (Run job plan options) (code_after result)))
  run_fronts result is = told_then (IsStarted job plan options p o) (TookFrontsBut (IsSavedTo options.save))
      (TookFrontsBut (IsPutAt (Run job plan options) (code_after result))) a b d
      (λ v w r first second name rest other left.
      let later = second name rest (λ saved. other (saved, may_put result is)) left in
      let early = first.fronts name (later.0 ++ rest) later.1 in
      (early.0 ++ later.0, early.1 ∙ ap Some (sym (append_assoc early.0 later.0 rest)))) started within.fronts

  pub run_only : (result : Result (Option Said) Refusal) → EndsRun options.adapt p o options.save (call b d l m t u had has x z) result
      → WhereTold a d (TookOnly (λ name. IsReadName a (Run job plan options) name ⊎ IsPutAt (Run job plan options) (code_after result) name))
  run_only result is = told_then (IsStarted job plan options p o) (TookOnly (λ name. Contains (files_of p.sources) name ⊎ IsSavedTo options.save name))
      (TookOnly (λ name. IsReadName a (Run job plan options) name ⊎ IsPutAt (Run job plan options) (code_after result) name)) a b d
      (λ v w r first second name unread.
      second name (λ either.
      elim either [ inl source ↦ unread (inl (inr (inr (inr (inl (source_file name source)))))) | inr saved ↦ unread (inr (saved, may_put result is)) ])
      ∙ first.ready.texts.others name (λ found. unread (inl (text_is_read (Run job plan options) p a b (λ asked. accepted) apart is_ready name found))))
      started within.others
