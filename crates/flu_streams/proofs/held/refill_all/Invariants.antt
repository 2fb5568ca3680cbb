use Rattle.std.proofs.Common.{◌≡◌, ◌≤◌, ℕ, List, length, take}
use Rattle.std.specs.Prelude.{slice_get, sum_by}
use Rattle.flu_outside.specs.Outside.{WhereTold, SameCounts, IsThere}
use Rattle.flu_outside.specs.Taking.{TookFronts}
use Rattle.flu_streams.specs.declared.border.Border.{Border}
use Rattle.flu_streams.specs.Files.{files_of, LeavesOthers, CountsOfNames}
use Rattle.flu_streams.specs.LoopHeld.{earliest, AreRefilled, AreTimed, AreUncounted}
use Rattle.flu_streams.specs.Tags.{width}
use Rattle.flu_streams.proofs.held.refill_all.Given as goal

abbrev pub invariant-loop-source : goal.invariant-loop-source
invariant-loop-source g l =
    let left = g.F.Files.left in
    let faults = g.F.Files.faults in
    let put_faults = g.F.Files.put_faults in
    let earlier = take l.source-index l.p.sources in
    record {
      number : l.number ≡ l.source-index;
      first : l.first ≡ sum_by width earlier;
      ends : List Border;
      count : length ends ≡ l.source-index;
      end : l.end ≡ earliest ends;
      all : AreRefilled l.p l.rows l.fn.inlets.items l.inlets.items (left l.fn.files) (left l.files) ends;
      timed : AreTimed l.p l.inlets.items;
      uncounted : AreUncounted l.inlets.items;
      rest : (j : ℕ) → l.source-index ≤ j → slice_get l.inlets.items j ≡ slice_get l.fn.inlets.items j;
      others : WhereTold (left l.fn.files) (left l.files) (LeavesOthers (files_of earlier));
      fronts : WhereTold (left l.fn.files) (left l.files) TookFronts;
      counts : CountsOfNames (left l.fn.files) (files_of earlier) (faults l.fn.files) (faults l.files);
      quiet : SameCounts (faults l.fn.files) (faults l.files);
      puts : SameCounts (put_faults l.fn.files) (put_faults l.files);
      there : (n : List ℕ) → IsThere (left l.fn.files) n → IsThere (left l.files) n;
    }
