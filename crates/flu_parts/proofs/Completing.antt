-- If nothing failed, the status of a part command is the one that it and its files call for, or the one for out of memory.
use Rattle.std.proofs.Common.{◌≡◌, ◌≢◌, ℕ, List, [], Option, Some, None, Ok, refl, sym, ap, subst, ◌∙◌, inl, inr, ◌⊎◌, arith}
use Rattle.std.specs.Prelude.{Contains}
use Rattle.std.proofs.lemmas.Option.{get_or_from_slice_get}
use Rattle.flu_lemmas.proofs.Places.{position_below, position_passes}
use Rattle.flu_lemmas.proofs.Told.{of_told}
use Rattle.flu_model.specs.declared.jobs.Program.{Program}
use Rattle.flu_model.specs.declared.plans.Node.{Node}
use Rattle.flu_outside.specs.Outside.{Contents}
use Rattle.flu_apart.specs.Apart.{MayBeApart}
use Rattle.flu_apart.specs.Laws.{ReasonsAreOne}
use Rattle.flu_streams.specs.declared.faults.SourceFault.{SourceFault}
use Rattle.flu_streams.specs.Files.{files_of}
use Rattle.flu_selected.specs.Laws.{first_read_fault}
use Rattle.flu_readers.specs.Reading.{reads}
use Rattle.flu_combine.specs.Combined.{IsCombined}
use Rattle.flu_combine.specs.Faults.{IsFaultOfSource}
use Rattle.flu_combine.specs.Laws.{NoPartialIsFaulty, NoSourceIsFaulty, SourcesOrPartialsAreFaulty}
use Rattle.flu_lines.specs.declared.statuses.Status.{Status}
use Rattle.flu_lines.specs.declared.statuses.Status.TheVariants as statuses
use Rattle.flu_lines.specs.Statuses.{code}
use Rattle.flu_lines.specs.declared.parts.NodeDefect.{NodeDefect}
use Rattle.flu_lines.specs.declared.parts.NodeDefect.TheVariants.{Unknown, NotApart}
use Rattle.flu_lines.specs.declared.parts.FileDefect.{FileDefect}
use Rattle.flu_lines.specs.declared.parts.FileDefect.TheVariants.{SameName, Partial as PartialDefect}
use Rattle.flu_words.specs.Parts.{PartCommand, Partial, Combine, part_in}
use Rattle.flu_command.specs.Calling.{CallsFor, CallsForOneStatus, JobFaultIsCalledFor, ConflictIsCalledFor, PlanDefectIsCalledFor}
use Rattle.flu_command.specs.Calling.{Good as NothingRefuses}
use Rattle.flu_command.specs.Done.{HasValidPlan}
use Rattle.flu_command.specs.Openings.{fresh}
use Rattle.flu_command.specs.Outside.{Outside, Faults}
use Rattle.flu_command.specs.Reading.{rows_in_round}
use Rattle.flu_command.specs.Wants.{plan_named, job_wanted}
use Rattle.flu_parts.specs.Planned.{plan_of_part, texts_of, behind, IsPlanned, IsNodeApart}
use Rattle.flu_parts.specs.Written.{AreNoSources, IsTextOf, IsWritten}
use Rattle.flu_parts.specs.Causes.{IsNodeDefect, IsFileDefect, IsSameName, IsSourceDefect, HasNodeDefect, HasFileDefect, is_file_of}
use Rattle.flu_parts.specs.ReadNames.{IsReadPart}
use Rattle.flu_parts.specs.Outcome.{Ended, OfCommand, OfNone, PartFaultsFirst, IsPlanRefused, Plan, OfNode}
use Rattle.flu_parts.specs.Calling.{HasNodeRefused, HasFileRefused, PartCallsFor, Good, FaultyTexts, FaultyNode, FaultyFile, FaultySource}
use Rattle.flu_parts.specs.Calling.{PartCallsForOneStatus, NoPartFailed, PartsCompleteByFaults}
use Rattle.flu_parts.proofs.Names.{among_files, among_there}

-- a command calls for one status, what ends it is called for, and of what partials and sources give one of three happens
pub record LawsOfParts : Type 0 where
  pub one : CallsForOneStatus
  pub job_fault : JobFaultIsCalledFor
  pub conflict : ConflictIsCalledFor
  pub plan_defect : PlanDefectIsCalledFor
  pub reasons : ReasonsAreOne
  pub no_partial : NoPartialIsFaulty
  pub no_source : NoSourceIsFaulty
  pub apart : SourcesOrPartialsAreFaulty

-- ---- what excludes what, of one program and one plan
-- a node that may be apart has no defect
no_node_defect : ReasonsAreOne → (p : Program) (nodes : List Node) (node : List ℕ) (w : ℕ) (why : NodeDefect) → IsNodeApart p nodes node w
    → IsNodeDefect p nodes node why → ⊥
no_node_defect reasons p nodes node w Unknown apart none = let e : None ≡ Some w = sym none ∙ apart.named in cc
no_node_defect reasons p nodes node w (NotApart u reason) apart defect =
    let e : Some w ≡ Some u = sym apart.named ∙ defect.0 in
    let same : w ≡ u = cc in
    (reasons p nodes u).none reason (subst (MayBeApart p nodes) same apart.may) defect.1

-- sources that a node reads have no defect, or they have one
good_or_faulty : (p : Program) (nodes : List Node) (node : List ℕ) (left : Contents) (v w : ℕ) (fault : SourceFault) → IsNodeApart p nodes node v
    → IsNodeApart p nodes node w → first_read_fault p [] (reads p nodes v) left ≡ None → first_read_fault p [] (reads p nodes w) left ≡ Some fault → ⊥
good_or_faulty p nodes node left v w fault one other good bad =
    let e : Some v ≡ Some w = sym one.named ∙ other.named in
    let same : v ≡ w = cc in
    let none : None ≡ Some fault = sym good ∙ ap (λ (u : ℕ). first_read_fault p [] (reads p nodes u) left) same ∙ bad in
    cc

-- names that are no sources' files have no first that is one
no_same_name : (p : Program) (names : List (List ℕ)) (place number : ℕ) → AreNoSources names p → IsSameName p names place number → ⊥
no_same_name p names place number none same =
    let found = position_passes (is_file_of p.sources) names place same.first in
    let there : Contains names found.0 =
    (place, position_below (is_file_of p.sources) names place same.first, get_or_from_slice_get names place found.0 found.0 found.1) in
    none found.0 there
    (among_there (files_of p.sources) found.0 (among_files p.sources found.0 ∙ found.2))

-- ---- what is so behind the texts, with the status of that
data IsAt (command : PartCommand) (left : Contents) (p : Program) (nodes : List Node) (status : ℕ) : Type 0 where
  for_good : status ≡ 0 → (text : List ℕ) (now : Contents) → IsTextOf command p nodes text (behind command left) now → IsAt command left p nodes status
  for_node : status ≡ 5 → HasNodeRefused command p nodes → IsAt command left p nodes status
  for_file : status ≡ 14 → HasFileRefused command left p nodes → IsAt command left p nodes status
  for_source : status ≡ 6 → (fault : SourceFault) → IsSourceDefect command p nodes (behind command left) fault → IsAt command left p nodes status

module _ (laws : LawsOfParts) (left : Contents) (p : Program) (nodes : List Node) where
  good_node : (command : PartCommand) (text : List ℕ) (now : Contents) → IsTextOf command p nodes text (behind command left) now
      → HasNodeRefused command p nodes → ⊥
  good_node (Partial job plan node) text now good bad = no_node_defect laws.reasons p nodes node good.0 bad.0 good.1 bad.1
  good_node (Combine job plan partials) text now good bad = bad

  file_of_good : (names : List (List ℕ)) (text : List ℕ) (was now : Contents) (place : ℕ) (why : FileDefect) → AreNoSources names p
      → IsCombined p nodes names text was now → IsFileDefect p nodes names was place why → ⊥
  file_of_good names text was now place (SameName number) none combined bad = no_same_name p names place number none bad
  file_of_good names text was now place (PartialDefect defect) none combined bad = laws.no_partial p nodes names text was now place defect combined bad.1

  good_file : (command : PartCommand) (text : List ℕ) (now : Contents) → IsTextOf command p nodes text (behind command left) now
      → HasFileRefused command left p nodes → ⊥
  good_file (Partial job plan node) text now good bad = bad
  good_file (Combine job plan partials) text now good bad =
      file_of_good partials text (behind (Combine job plan partials) left) now bad.0 bad.1 good.0 good.1 bad.2

  good_source : (command : PartCommand) (text : List ℕ) (now : Contents) (fault : SourceFault) → IsTextOf command p nodes text (behind command left) now
      → IsSourceDefect command p nodes (behind command left) fault → ⊥
  good_source (Partial job plan node) text now fault good bad =
      good_or_faulty p nodes node (behind (Partial job plan node) left) good.0 bad.0 fault good.1 bad.1 good.2.good bad.2
  good_source (Combine job plan partials) text now fault good bad =
      laws.no_source p nodes partials text (behind (Combine job plan partials) left) now fault good.1 bad.1

  node_source : (command : PartCommand) (fault : SourceFault) → HasNodeRefused command p nodes
      → IsSourceDefect command p nodes (behind command left) fault → ⊥
  node_source (Partial job plan node) fault bad other = no_node_defect laws.reasons p nodes node other.0 bad.0 other.1 bad.1
  node_source (Combine job plan partials) fault bad other = bad

  node_file : (command : PartCommand) → HasNodeRefused command p nodes → HasFileRefused command left p nodes → ⊥
  node_file (Partial job plan node) bad other = other
  node_file (Combine job plan partials) bad other = bad

  file_of_source : (names : List (List ℕ)) (was : Contents) (place : ℕ) (why : FileDefect) (fault : SourceFault) → AreNoSources names p
      → IsFaultOfSource p nodes names was fault → IsFileDefect p nodes names was place why → ⊥
  file_of_source names was place (SameName number) fault none faulty bad = no_same_name p names place number none bad
  file_of_source names was place (PartialDefect defect) fault none faulty bad = laws.apart p nodes names was fault place defect faulty bad.1

  file_source : (command : PartCommand) (fault : SourceFault) → HasFileRefused command left p nodes
      → IsSourceDefect command p nodes (behind command left) fault → ⊥
  file_source (Partial job plan node) fault bad other = bad
  file_source (Combine job plan partials) fault bad other =
      file_of_source partials (behind (Combine job plan partials) left) bad.0 bad.1 fault other.0 other.1 bad.2

  -- one status behind the texts
  one_at : (command : PartCommand) (a b : ℕ) → IsAt command left p nodes a → IsAt command left p nodes b → a ≡ b
  one_at command a b (for_good is text now good) (for_good too other then also) = is ∙ sym too
  one_at command a b (for_good is text now good) (for_node too bad) = absurd (good_node command text now good bad)
  one_at command a b (for_good is text now good) (for_file too bad) = absurd (good_file command text now good bad)
  one_at command a b (for_good is text now good) (for_source too fault bad) = absurd (good_source command text now fault good bad)
  one_at command a b (for_node is bad) (for_good too text now good) = absurd (good_node command text now good bad)
  one_at command a b (for_node is bad) (for_node too other) = is ∙ sym too
  one_at command a b (for_node is bad) (for_file too other) = absurd (node_file command bad other)
  one_at command a b (for_node is bad) (for_source too fault other) = absurd (node_source command fault bad other)
  one_at command a b (for_file is bad) (for_good too text now good) = absurd (good_file command text now good bad)
  one_at command a b (for_file is bad) (for_node too other) = absurd (node_file command other bad)
  one_at command a b (for_file is bad) (for_file too other) = is ∙ sym too
  one_at command a b (for_file is bad) (for_source too fault other) = absurd (file_source command fault bad other)
  one_at command a b (for_source is fault bad) (for_good too text now good) = absurd (good_source command text now fault good bad)
  one_at command a b (for_source is fault bad) (for_node too other) = absurd (node_source command fault other bad)
  one_at command a b (for_source is fault bad) (for_file too other) = absurd (file_source command fault other bad)
  one_at command a b (for_source is fault bad) (for_source too other also) = is ∙ sym too

-- ---- the texts
-- the statuses that refuse the job or the plan
abbrev IsOfTexts : ℕ → Type 0
IsOfTexts status = (status ≡ 3) ⊎ (status ≡ 4) ⊎ (status ≡ 5)

not_zero : (status : ℕ) → IsOfTexts status → 0 ≡ status → ⊥
not_zero status (inl three) zero = omega (arith, three, zero)
not_zero status (inr (inl four)) zero = omega (arith, four, zero)
not_zero status (inr (inr five)) zero = omega (arith, five, zero)

unnamed : (name : List ℕ) → None ≡ Some name → ⊥
unnamed name e = cc

-- where the job is accepted and the plan is valid, nothing refuses them
nothing_refuses : (command : PartCommand) (left : Contents) (p : Program) (nodes : List Node) → IsPlanned command left p nodes
    → CallsFor (texts_of command) left 0
nothing_refuses command left p nodes planned =
    NothingRefuses refl p (record {
      has = planned.has;
      accepted = λ asked. planned.accepted;
      plan = λ plan named. subst (λ (name : List ℕ). HasValidPlan (job_wanted (texts_of command)) name left p) (same_plan plan named)
          (nodes, planned.plan, planned.valid);
      start = (
        fresh rows_in_round,
        record {
          apart = record { save = λ name named. absurd (unnamed name named); resume = λ name named. absurd (unnamed name named) };
          opens = (refl, omega arith);
        },
      );
      sources = tt;
    }) (λ trace named. absurd (unnamed trace named))
  where
    same_plan : (plan : List ℕ) → plan_named (texts_of command) ≡ Some plan → plan_of_part command ≡ plan
    same_plan plan named = let e : Some (plan_of_part command) ≡ Some plan = named in cc

-- ---- what was found
data IsFound (command : PartCommand) (left : Contents) (status : ℕ) : Type 0 where
  in_texts : IsOfTexts status → CallsFor (texts_of command) left status → IsFound command left status
  behind_texts : (p : Program) (nodes : List Node) → IsPlanned command left p nodes → IsAt command left p nodes status → IsFound command left status

module _ (laws : LawsOfParts) (command : PartCommand) (left : Contents) where
  texts_or_behind : (a : ℕ) (p : Program) (nodes : List Node) → IsOfTexts a → CallsFor (texts_of command) left a → IsPlanned command left p nodes → ⊥
  texts_or_behind a p nodes of calls planned =
      not_zero a of (laws.one (texts_of command) left 0 a (nothing_refuses command left p nodes planned) calls)

  at_each : (p : Program) (nodes : List Node) (a b : ℕ) → IsPlanned command left p nodes → IsAt command left p nodes a → PartCallsFor command left b → a ≡ b
  at_each p nodes a b planned at (Good is calls) =
      let here = calls.holds p nodes planned in
      one_at laws left p nodes command a b at (for_good is here.0 here.1 here.2)
  at_each p nodes a b planned at (FaultyTexts of calls) = absurd (texts_or_behind b p nodes of calls planned)
  at_each p nodes a b planned at (FaultyNode is calls) = one_at laws left p nodes command a b at (for_node is (calls.holds p nodes planned))
  at_each p nodes a b planned at (FaultyFile is calls) = one_at laws left p nodes command a b at (for_file is (calls.holds p nodes planned))
  at_each p nodes a b planned at (FaultySource is calls) =
      let here = calls.holds p nodes planned in
      one_at laws left p nodes command a b at (for_source is here.0 here.1)

  in_each : (a b : ℕ) → IsOfTexts a → CallsFor (texts_of command) left a → PartCallsFor command left b → a ≡ b
  in_each a b of calls (Good is behind) = absurd (texts_or_behind a behind.p behind.nodes of calls behind.planned)
  in_each a b of calls (FaultyTexts also others) = laws.one (texts_of command) left a b calls others
  in_each a b of calls (FaultyNode is behind) = absurd (texts_or_behind a behind.p behind.nodes of calls behind.planned)
  in_each a b of calls (FaultyFile is behind) = absurd (texts_or_behind a behind.p behind.nodes of calls behind.planned)
  in_each a b of calls (FaultySource is behind) = absurd (texts_or_behind a behind.p behind.nodes of calls behind.planned)

  called : (a b : ℕ) → IsFound command left a → PartCallsFor command left b → a ≡ b
  called a b (in_texts of calls) others = in_each a b of calls others
  called a b (behind_texts p nodes planned at) others = at_each p nodes a b planned at others

  found_of : (a : ℕ) → PartCallsFor command left a → IsFound command left a
  found_of a (Good is calls) =
      let here = calls.holds calls.p calls.nodes calls.planned in
      behind_texts calls.p calls.nodes calls.planned (for_good is here.0 here.1 here.2)
  found_of a (FaultyTexts of calls) = in_texts of calls
  found_of a (FaultyNode is calls) =
      behind_texts calls.p calls.nodes calls.planned (for_node is (calls.holds calls.p calls.nodes calls.planned))
  found_of a (FaultyFile is calls) =
      behind_texts calls.p calls.nodes calls.planned (for_file is (calls.holds calls.p calls.nodes calls.planned))
  found_of a (FaultySource is calls) =
      let here = calls.holds calls.p calls.nodes calls.planned in
      behind_texts calls.p calls.nodes calls.planned (for_source is here.0 here.1)

pub one_status : LawsOfParts → PartCallsForOneStatus
one_status laws command left a b one other = called laws command left a b (found_of laws command left a one) other

-- ---- what ends a command is found
module _ (laws : LawsOfParts) (left : Contents) (old new : Outside) (told : old.left ≡ Some left) where
  of_node : (command : PartCommand) (p : Program) (nodes : List Node) (name : List ℕ) (why : NodeDefect)
      → HasNodeDefect command old.left new.left p nodes name why → IsFound command left 5
  of_node (Partial job plan node) p nodes name why has =
      let command = Partial job plan node in
      let found = of_told (λ was now. IsPlanned command was p nodes) left old.left new.left told has.2 in
      behind_texts p nodes found.1 (for_node refl (why, has.1))
  of_node (Combine job plan partials) p nodes name why has = absurd has

  of_file : (command : PartCommand) (p : Program) (nodes : List Node) (name : List ℕ) (why : FileDefect)
      → HasFileDefect command old.left new.left p nodes name why → IsFound command left 14
  of_file (Partial job plan node) p nodes name why has = absurd has
  of_file (Combine job plan partials) p nodes name why has =
      let command = Combine job plan partials in
      let found = of_told (λ was now. IsPlanned command was p nodes × IsFileDefect p nodes partials (behind command was) has.0 why) left old.left new.left told
      has.3 in
      behind_texts p nodes found.1.0 (for_file refl (has.0, why, found.1.1))

  of_plan : (command : PartCommand) → IsPlanRefused command old new → IsFound command left 5
  of_plan command (Plan defect has refused) =
      in_texts (inr (inr refl)) (laws.plan_defect (texts_of command) left old.left new.left defect told has)
  of_plan command (OfNode p nodes name why has refused) = of_node command p nodes name why has

  by_ended : (command : PartCommand) (status : Status) → Ended command old new status → (code status ≢ 7) × (code status ≢ 8)
      → IsFound command left (code status) ⊎ (code status ≡ 9)
  by_ended command statuses.Done ended apart =
      let found = of_told (IsWritten command ended.0) left old.left new.left told ended.1 in
      inl (behind_texts found.1.p found.1.nodes found.1.planned (for_good refl ended.0 found.0 found.1.is))
  by_ended command statuses.BadWords ended apart = absurd ended
  by_ended command statuses.JobFault ended apart =
      inl (in_texts (inl refl) (laws.job_fault (texts_of command) left old.left new.left ended.0 told ended.1))
  by_ended command statuses.Conflict ended apart =
      inl (in_texts (inr (inl refl)) (laws.conflict (texts_of command) left old.left new.left ended.0 told ended.1))
  by_ended command statuses.PlanDefect ended apart = inl (of_plan command ended)
  by_ended command statuses.SourceFault ended apart =
      let defect = ended.2 in
      let found = of_told (λ was now. IsPlanned command was ended.0 defect.nodes × IsSourceDefect command ended.0 defect.nodes (behind command was) ended.1)
      left old.left new.left told defect.first in
      inl (behind_texts ended.0 defect.nodes found.1.0 (for_source refl ended.1 found.1.1))
  by_ended command statuses.ReadFault ended apart = absurd (apart.0 refl)
  by_ended command statuses.WriteFault ended apart = absurd (apart.1 refl)
  by_ended command statuses.NoMemory ended apart = inr refl
  by_ended command statuses.SaveDefect ended apart = absurd ended
  by_ended command statuses.PutFault ended apart = absurd ended
  by_ended command statuses.TraceFault ended apart = absurd ended
  by_ended command statuses.PartialDefect ended apart = inl (of_file command ended.0 ended.1 ended.2 ended.3 ended.4)

one_part : (words : List (List ℕ)) (a b : PartCommand) → part_in words ≡ Ok a → part_in words ≡ Ok b → a ≡ b
one_part words a b one other = cc

-- if nothing failed, no status of a failure comes
unfailed : (words : List (List ℕ)) (told : Option Contents) (before now : Faults) (status : ℕ) (command : PartCommand)
    → PartFaultsFirst words told before now status → part_in words ≡ Ok command → NoPartFailed command told before now → (status ≢ 7) × (status ≢ 8)
unfailed words told before now status command faults word nothing = (
  λ is. let rose = faults.read is in
      nothing.files rose.0 (subst (λ (c : PartCommand). IsReadPart told c rose.0) (one_part words rose.1.0 command rose.1.1 word) rose.1.2) rose.2,
  λ is. nothing.out (faults.write is),
)

pub completes_of : LawsOfParts → PartsCompleteByFaults
completes_of laws words old new status before now (OfCommand ended_as is other named ended) faults command left wanted word told nothing called_for =
    let same : other ≡ command = one_part words other command named word in
    let apart = unfailed words old.left before now status command faults word nothing in
    let how = subst (λ (c : PartCommand). Ended c old new ended_as) same ended in
    elim (by_ended laws left old new told command ended_as how (subst (λ n. (n ≢ 7) × (n ≢ 8)) is apart)) [
      | inl found ↦ inl (is ∙ called laws command left (code ended_as) wanted found called_for)
      | inr none ↦ inr (is ∙ none)
    ]
completes_of laws words old new status before now (OfNone two at misfit same refused) faults command left wanted word told nothing called_for =
    absurd (let e = sym word ∙ misfit in cc)
