use Rattle.std.proofs.Common.{◌≡◌, ℕ, List, true, length, take, vec_len}
use Rattle.std.specs.Prelude.{sum_by}
use Rattle.flu_model.specs.Erasure.{job_of}
use Rattle.flu_model.specs.Moments.{timing_of, end_of_times}
use Rattle.flu_model.specs.Streaming.{are_streams}
use Rattle.flu_outside.specs.Outside.{WhereTold, SameCounts, IsThere}
use Rattle.flu_outside.specs.Taking.{TookFronts}
use Rattle.flu_rows.specs.Row.{form_of}
use Rattle.flu_streams.specs.Files.{files_of, CountsOfNames, AreReadOut}
use Rattle.flu_streams.specs.LoopClocks.{IsEarly}
use Rattle.flu_streams.specs.LoopGathering.{IsGathered}
use Rattle.flu_streams.specs.Lists.{lists_in}
use Rattle.flu_streams.specs.Tags.{width}
use Rattle.flu_streams.proofs.OneSource.{IsSpanned}
use Rattle.flu_streams.proofs.reading.read_all.Given as goal

abbrev pub invariant-loop-source : goal.invariant-loop-source
invariant-loop-source g l =
    let left = g.F.Files.left in
    let faults = g.F.Files.faults in
    let puts = g.F.Files.put_faults in
    let earlier = take l.source-index l.p.sources in
    record {
      number : l.gathered.number ≡ l.source-index;
      len : vec_len l.gathered.lists ≡ sum_by width earlier;
      streams : are_streams 0 (lists_in l.gathered.lists) ≡ true;
      form : l.form ≡ form_of (job_of l.p);
      told : WhereTold (left l.fn.files) (left l.files) (IsGathered (timing_of l.p) (form_of (job_of l.p)) l.p.kinds earlier l.gathered);
      span : WhereTold (left l.fn.files) (left l.files) (IsSpanned l.p earlier l.gathered.span);
      early : IsEarly (length l.p.sources) (end_of_times l.p) l.gathered.span;
      fronts : WhereTold (left l.fn.files) (left l.files) TookFronts;
      out : AreReadOut (files_of earlier) (left l.files);
      counts : CountsOfNames (left l.fn.files) (files_of earlier) (faults l.fn.files) (faults l.files);
      quiet : SameCounts (faults l.fn.files) (faults l.files);
      puts : SameCounts (puts l.fn.files) (puts l.files);
      there : (n : List ℕ) → IsThere (left l.fn.files) n → IsThere (left l.files) n;
    }
