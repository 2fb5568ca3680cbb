-- At most one of three happens: something can be combined, or a partial has the first defect, or a source has it.
use Rattle.std.proofs.Common.{◌≡◌, ℕ, Bool, true, false, ◌<◌, Some, None, List, [], length, refl, sym, ap, subst, ◌∙◌, inl, inr, arith, get_or}
use Rattle.std.specs.Prelude.{not, position}
use Rattle.std.specs.List.{list_all}
use Rattle.std.proofs.lemmas.Bool.{false≢true}
use Rattle.std.proofs.lemmas.List.Folds.{list_all_at}
use Rattle.std.proofs.lemmas.Option.{get_or_from_slice_get}
use Rattle.std.proofs.Math.Seq.{take-length}
use Rattle.flu_lemmas.proofs.Places.{position_below, position_passes}
use Rattle.flu_model.specs.declared.jobs.Program.{Program}
use Rattle.flu_model.specs.declared.plans.Node.{Node}
use Rattle.flu_outside.specs.Outside.{Contents}
use Rattle.flu_apart.specs.Laws.{ReasonsAreOne}
use Rattle.flu_contribution.specs.Contributions.{Contribution}
use Rattle.flu_handover.specs.Laws.{LinesDetermine}
use Rattle.flu_selected.specs.Laws.{first_read_fault}
use Rattle.flu_readers.specs.Reading.{reads_rest}
use Rattle.flu_receiving.specs.Laws.{BytesHaveOneFault, FaultyBytesAreNotWhole, PartialsHaveOneText}
use Rattle.flu_streams.specs.declared.faults.SourceFault.{SourceFault}
use Rattle.flu_joining.specs.Joining.{is_last_alone, are_used_up, nothing_joined, waiting_behind}
use Rattle.flu_joining.specs.Laws.{AlikeQueuesJoinAlike}
use Rattle.flu_combine.specs.declared.fault.PartialDefect.{PartialDefect}
use Rattle.flu_combine.specs.Combined.{AreAccepted, events_of_rest}
use Rattle.flu_combine.specs.Faults.{IsFirstDefect}
use Rattle.flu_combine.specs.Laws.{NoPartialIsFaulty, NoSourceIsFaulty, SourcesOrPartialsAreFaulty}
use Rattle.flu_combine.specs.Names.{read_out}
use Rattle.flu_combine.proofs.FirstDefects.{not_accepted}
use Rattle.flu_combine.proofs.Lawful.{all_alike, all_tell_alike}

-- where all queues have come to their last contribution, none is the first that has not
none_waits : (queues : List (List Contribution)) (place : ℕ) → list_all is_last_alone queues ≡ true
    → position (λ ks. not (is_last_alone ks)) queues ≡ Some place → ⊥
none_waits queues place all first =
    let found = position_passes (λ ks. not (is_last_alone ks)) queues place first in
    let there = position_below (λ ks. not (is_last_alone ks)) queues place first in
    by (is_last_alone (get_or queues place [])) refl there
    (ap (λ (ks : List Contribution). not (is_last_alone ks)) (get_or_from_slice_get queues place found.0 [] found.1) ∙ found.2)
  where
    by : (b : Bool) → is_last_alone (get_or queues place []) ≡ b → place < length queues → not (is_last_alone (get_or queues place [])) ≡ true → ⊥
    by true is there waits = false≢true (sym (ap not is) ∙ waits)
    by false is there waits = false≢true (sym (list_all_at is_last_alone queues place [] there is) ∙ all)

module _ (one_text : PartialsHaveOneText) (determine : LinesDetermine) (p : Program) (nodes : List Node) (names : List (List ℕ)) (left : Contents) where
  -- of the same partials, accepted twice, the same sources are read, and the same is told of where their rows stand
  same_nodes : (vs ws : List ℕ) (js ks : List (List Contribution)) (these those : List ℕ) → AreAccepted p nodes left names vs js these
      → AreAccepted p nodes left names ws ks those → vs ≡ ws
  same_nodes vs ws js ks these those one other = (all_alike one_text determine p nodes left names vs ws js ks one.partials other.partials).0

  good_or_faulty : (vs ws : List ℕ) (js ks : List (List Contribution)) (these those : List ℕ) (fault : SourceFault)
      → AreAccepted p nodes left names vs js these → AreAccepted p nodes left names ws ks those
      → first_read_fault p these (reads_rest p nodes vs) (read_out names left) ≡ None
      → first_read_fault p those (reads_rest p nodes ws) (read_out names left) ≡ Some fault → ⊥
  good_or_faulty vs ws js ks these those fault one other good bad =
      let same = ap (λ (us : List ℕ). first_read_fault p these (reads_rest p nodes us) (read_out names left))
      (same_nodes vs ws js ks these those one other)
      ∙ ap (λ (ts : List ℕ). first_read_fault p ts (reads_rest p nodes ws) (read_out names left))
      (all_tell_alike one_text p left names these those one.tell other.tell) in
      let none : None ≡ Some fault = sym good ∙ same ∙ bad in
      cc

pub no_source_is_faulty : PartialsHaveOneText → LinesDetermine → NoSourceIsFaulty
no_source_is_faulty one_text determine p nodes names text left now fault combined faulty =
    good_or_faulty one_text determine p nodes names left combined.ws faulty.ws combined.queues faulty.queues combined.told faulty.told fault
    combined.accepted faulty.accepted combined.good faulty.first

module _ (reasons : ReasonsAreOne) (one_fault : BytesHaveOneFault) (not_whole : FaultyBytesAreNotWhole) (one_text : PartialsHaveOneText)
    (determine : LinesDetermine) where
  -- partials that are all accepted have no first defect
  not_first : (p : Program) (nodes : List Node) (names : List (List ℕ)) (left : Contents) (place : ℕ) (d : PartialDefect) (ws : List ℕ)
      (queues : List (List Contribution)) (told : List ℕ) → AreAccepted p nodes left names ws queues told → IsFirstDefect p nodes names left place d → ⊥
  not_first p nodes names left place d ws queues told accepted first =
      not_accepted reasons one_fault not_whole one_text determine p nodes names left place (length names) d ws queues told first.there (omega arith) first
      (subst (λ (ns : List (List ℕ)). AreAccepted p nodes left ns ws queues told) (sym (take-length names)) accepted)

  pub sources_or_partials : SourcesOrPartialsAreFaulty
  sources_or_partials p nodes names left fault place d faulty (inl first) =
      not_first p nodes names left place d faulty.ws faulty.queues faulty.told faulty.accepted first
  sources_or_partials p nodes names left fault place d faulty (inr left_over) =
      let behind = left_over.1 in
      good_or_faulty one_text determine p nodes names left behind.ws faulty.ws behind.queues faulty.queues behind.told faulty.told fault behind.accepted
      faulty.accepted behind.good faulty.first

  pub no_partial_is_faulty : AlikeQueuesJoinAlike → NoPartialIsFaulty
  no_partial_is_faulty join p nodes names text left now place d combined (inl first) =
      not_first p nodes names left place d combined.ws combined.queues combined.told combined.accepted first
  no_partial_is_faulty join p nodes names text left now place d combined (inr left_over) =
      let behind = left_over.1 in
      let alike = all_alike one_text determine p nodes left names combined.ws behind.ws combined.queues behind.queues combined.accepted.partials
      behind.accepted.partials in
      let same_told = all_tell_alike one_text p left names combined.told behind.told combined.accepted.tell behind.accepted.tell in
      let events = events_of_rest p nodes names behind.ws behind.told left in
      let here : are_used_up combined.queues events ≡ true =
      subst (λ (ts : List ℕ). are_used_up combined.queues (events_of_rest p nodes names behind.ws ts left) ≡ true) same_told
      (subst (λ (ws : List ℕ). are_used_up combined.queues (events_of_rest p nodes names ws combined.told left) ≡ true) alike.0 combined.used_up) in
      let same = (join p nothing_joined nothing_joined combined.queues behind.queues events (record { cells = refl; outputs = refl }) alike.1).used_up in
      none_waits (waiting_behind behind.queues events) place (sym same ∙ here) behind.first
