-- Programs that are the same job have the same faults of their sources.
use Rattle.std.proofs.Common.{◌≡◌, sym, ap, ◌∙◌, ℕ, List, []}
use Rattle.std.specs.Prelude.{slice_get}
use Rattle.std.specs.Option.{option_map_or}
use Rattle.flu_model.specs.declared.jobs.Source.{Source}
use Rattle.flu_model.specs.declared.jobs.Program.{Program}
use Rattle.flu_model.specs.Erasure.{Job, IsSameJob}
use Rattle.flu_model.specs.Moments.{timing_of}
use Rattle.flu_outside.specs.Outside.{Contents}
use Rattle.flu_rows.specs.Row.{form_of}
use Rattle.flu_streams.specs.Good.{lines_in as lines_of_source}
use Rattle.flu_streams.specs.OneJob.{JobsReadTheSame}
use Rattle.flu_streams.specs.Rounds.{defect_in}
use Rattle.flu_streams.proofs.OneJob.{timing_in}
use Rattle.flu_rounds.specs.Written.{AreSound, lines_in}
use Rattle.flu_command.specs.Behind.{emptied_each, fault_behind}
use Rattle.flu_command.specs.Mending.{AreMended}
use Rattle.flu_command.specs.Reading.{Reading, Unread, Whole, InRounds, AreSourcesGood, lines_behind}

pub same_lines : (texts : List (List ℕ)) (left : Contents) (p q : Program) (i : ℕ) → IsSameJob p q → lines_behind texts left q i ≡ lines_behind texts left p i
same_lines texts left p q i same =
    ap (λ (j : Job). option_map_or (lines_of_source (form_of j) (emptied_each texts left)) (slice_get j.sources i) []) (sym same)

module _ (law : JobsReadTheSame) where
  same_fault : (texts : List (List ℕ)) (left : Contents) (p q : Program) → IsSameJob p q → fault_behind texts left p ≡ fault_behind texts left q
  unfolding fault_behind
  same_fault texts left p q same = λ j. (law p q same).faults j [] (emptied_each texts left)

  same_sound : (texts : List (List ℕ)) (left : Contents) (p q : Program) → IsSameJob p q → AreSound p (lines_behind texts left p)
      → AreSound q (lines_behind texts left q)
  same_sound texts left p q same sound = λ i s e.
      ap (defect_in (timing_of q i) q.kinds s) (same_lines texts left p q i same)
      ∙ ((λ j. (law q p (sym same)).rows.in_lines (timing_in (sym same j) i) j s (lines_behind texts left p i))
      ∙ sound i s (ap (λ (ss : List Source). slice_get ss i) (ap (λ j. j.sources) same) ∙ e))

  -- good sources of one are good sources of the other
  pub same_good : (reading : Reading) (texts : List (List ℕ)) (left : Contents) (p q : Program) → IsSameJob p q → AreSourcesGood reading texts left p
      → AreSourcesGood reading texts left q
  same_good Unread texts left p q same good = good
  same_good Whole texts left p q same good = sym (same_fault texts left p q same) ∙ good
  same_good InRounds texts left p q same good = same_sound texts left p q same good

  -- and sources that mend those of one mend those of the other
  pub same_mended : (p q : Program) (left mended : Contents) → IsSameJob p q → AreMended p left mended → AreMended q left mended
  same_mended p q left mended same mends = record {
    each = λ i s e.
        let its = mends.each i s (ap (λ (ss : List Source). slice_get ss i) (ap (λ j. j.sources) same) ∙ e) in
        let alike = (law p q same).rows.in_lines in
        let before = same_lines [] left p q i same in
        let behind = same_lines [] mended p q i same in
        record {
          fronts = λ front rest is sound.
              let found = its.fronts front rest (sym before ∙ is) ((λ j. alike (timing_in (same j) i) j s front) ∙ sound) in
              (found.0, behind ∙ found.1);
          good = λ sound. behind
              ∙ (its.good ((λ j. alike (timing_in (same j) i) j s (lines_in p left i)) ∙ (ap (defect_in (timing_of q i) q.kinds s) (sym before) ∙ sound))
              ∙ sym before);
        };
    sound = same_sound [] mended p q same mends.sound;
  }
