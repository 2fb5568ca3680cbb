use Rattle.std.proofs.Common.{◌≡◌, ◌+◌, ◌/◌, ◌^◌, ◌<◌, ◌≤◌, ◌∷◌, [], List, true, length, take, drop, Err, refl, sym, subst, ap, ◌∙◌, rules, arith}
use Rattle.std.specs.Prelude.{sum_by}
use Rattle.std.proofs.lemmas.List.{take_all}
use Rattle.std.proofs.lemmas.List.Sums.{sum_by-append}
use Rattle.flu_model.specs.declared.jobs.Source.{Source}
use Rattle.flu_model.specs.declared.moments.Timing.{Timing}
use Rattle.flu_model.specs.Erasure.{job_of}
use Rattle.flu_model.specs.Moments.{timing_of}
use Rattle.flu_lemmas.proofs.Named.{rose_behind, fronts_at, fronts_then}
use Rattle.flu_lemmas.proofs.Told.{told_weaker}
use Rattle.flu_outside.specs.Outside.{WhereTold}
use Rattle.flu_rows.specs.Row.{form_of}
use Rattle.flu_streams.specs.declared.faults.GatherFault.TheVariants.{ReadFault}
use Rattle.flu_streams.specs.Files.{files_of, LeavesOthers, CountsOfNames, AreReadOut}
use Rattle.flu_streams.specs.LoopGathering.{IsGathered}
use Rattle.flu_streams.specs.Tags.{width}
use Rattle.flu_streams.proofs.Bounds.{slack_of}
use Rattle.flu_streams.proofs.Gatherings.{err_same, total_width, there_more}
use Rattle.flu_streams.proofs.OneSource.{IsClocked, IsSpanned, ranked, gathered_more, streams_more, span_more, early_more, gathered_fault, hides_behind}
use Rattle.flu_streams.proofs.OneSource.{out_join}
use Rattle.flu_streams.proofs.SourceFiles.{others_join, counts_join, file_there}
use Rattle.flu_streams.proofs.TickLists.{here_at}
use Rattle.flu_streams.proofs.Turns.{turn}
use Rattle.flu_streams.proofs.reading.read_all.Goals as goal

pub add_source-requires-clause-numbered : goal.add_source-requires-clause-numbered
add_source-requires-clause-numbered g c =
    let p = c.args.p.now in
    let s = c.source-item.result in
    let t = turn p c.items-source-items.result.now c.loop-source.source-index s c.items-source-items.ensures c.loop-source-test.true c.source-item.is in
    omega (arith, t.narrow, c.loop-source.invariant.len)

pub add_source-requires-clause-slack : goal.add_source-requires-clause-slack
add_source-requires-clause-slack g c =
    let p = c.args.p.now in
    let i = c.loop-source.source-index in
    let s = c.source-item.result in
    slack_of p i s (here_at p.sources c.items-source-items.result.now i s c.items-source-items.ensures c.loop-source-test.true c.source-item.is)

pub add_source-requires-clause-ranked : goal.add_source-requires-clause-ranked
add_source-requires-clause-ranked g c = λ n e.
    let p = c.args.p.now in
    let clocked = c.sources_with_clocks-clocked.result in
    let is : IsClocked p clocked = record { any = c.sources_with_clocks-clocked.ensures.any; some = c.sources_with_clocks-clocked.ensures.some } in
    let same = ap length c.items-source-items.ensures in
    let number = c.loop-source.invariant.number in
    let lt = c.loop-source-test.true in
    let within : c.loop-source.gathered.number < length p.sources = omega arith in
    subst (λ (t : Timing). (c.loop-source.gathered.number < n) × (t.end ≤ 2 ^ 63 / n)) (sym c.timing_of.ensures.value)
    (ranked p clocked n c.loop-source.gathered.number is within e)

pub returns-in-Err-clause-fault : goal.returns-in-Err-clause-fault
returns-in-Err-clause-fault g c =
    let left = g.F.Files.left in
    let p = c.args.p.now in
    let i = c.loop-source.source-index in
    let s = c.source-item.result in
    let t = turn p c.items-source-items.result.now i s c.items-source-items.ensures c.loop-source-test.true c.source-item.is in
    let numbered : c.timing_of.result ≡ timing_of p (length (take i p.sources)) =
    c.timing_of.ensures.value ∙ ap (timing_of p) (c.loop-source.invariant.number ∙ t.size) in
    gathered_fault p (take i p.sources) (drop (i + 1) p.sources) s c.loop-source.gathered c.loop-source.gathered.number c.in-Err.fault (left c.args.files.now)
    (left c.loop-source.files) (left c.add_source.new.files)
    t.split (c.loop-source.invariant.number ∙ t.size) t.apart c.loop-source.invariant.told
    (rw (numbered, c.loop-source.invariant.form, c.items.ensures) at c.in-Err.ensures.fault)

pub returns-in-Err-clause-fronts : goal.returns-in-Err-clause-fronts
returns-in-Err-clause-fronts g c =
    let left = g.F.Files.left in
    fronts_then (left c.args.files.now) (left c.loop-source.files) (left c.add_source.new.files) c.loop-source.invariant.fronts
    (fronts_at c.source-item.result.file (left c.loop-source.files) (left c.add_source.new.files) c.in-Err.ensures.taken)

pub returns-in-Err-clause-others : goal.returns-in-Err-clause-others
returns-in-Err-clause-others g c =
    let left = g.F.Files.left in
    let p = c.args.p.now in
    let i = c.loop-source.source-index in
    let s = c.source-item.result in
    let earlier = take i p.sources in
    let t = turn p c.items-source-items.result.now i s c.items-source-items.ensures c.loop-source-test.true c.source-item.is in
    let was = told_weaker (IsGathered (timing_of p) (form_of (job_of p)) p.kinds earlier c.loop-source.gathered) (LeavesOthers (files_of earlier))
    (left c.args.files.now) (left c.loop-source.files) (λ x y k. k.others) c.loop-source.invariant.told in
    subst (λ (l : List Source). WhereTold (left c.args.files.now) (left c.add_source.new.files) (LeavesOthers (files_of l))) (sym t.split)
    (others_join earlier (drop (i + 1) p.sources) s (left c.args.files.now) (left c.loop-source.files) (left c.add_source.new.files)
    (λ clock. ap left (c.add_source.ensures.shut clock)) was c.in-Err.ensures.taken)

pub returns-in-Err-clause-counts : goal.returns-in-Err-clause-counts
returns-in-Err-clause-counts g c =
    let left = g.F.Files.left in
    let faults = g.F.Files.faults in
    let p = c.args.p.now in
    let i = c.loop-source.source-index in
    let s = c.source-item.result in
    let t = turn p c.items-source-items.result.now i s c.items-source-items.ensures c.loop-source-test.true c.source-item.is in
    subst (λ (l : List Source). CountsOfNames (left c.args.files.now) (files_of l) (faults c.args.files.now) (faults c.add_source.new.files)) (sym t.split)
    (counts_join (take i p.sources) (drop (i + 1) p.sources) s (left c.args.files.now) (left c.loop-source.files) (faults c.args.files.now)
    (faults c.loop-source.files) (faults c.add_source.new.files) (λ clock. ap faults (c.add_source.ensures.shut clock)) c.loop-source.invariant.there
    c.loop-source.invariant.counts c.in-Err.ensures.counts)

pub returns-in-Err-clause-cause : goal.returns-in-Err-clause-cause
returns-in-Err-clause-cause g c = λ is_fault.
    let faults = g.F.Files.faults in
    let p = c.args.p.now in
    let i = c.loop-source.source-index in
    let s = c.source-item.result in
    let t = turn p c.items-source-items.result.now i s c.items-source-items.ensures c.loop-source-test.true c.source-item.is in
    let is : c.add_source.result ≡ Err ReadFault = c.in-Err.is ∙ ap Err (err_same (Err c.in-Err.fault) c.in-Err.fault ReadFault refl is_fault) in
    let among = rw (← t.split) at (file_there (take i p.sources) (drop (i + 1) p.sources) s (c.add_source.ensures.read is)) in (
      s.file,
      among,
      rose_behind (faults c.args.files.now s.file) (faults c.loop-source.files s.file) (faults c.add_source.new.files s.file)
          (c.loop-source.invariant.counts.rise s.file) (c.add_source.ensures.cause is),
    )

pub returns-in-Err-clause-hides : goal.returns-in-Err-clause-hides
returns-in-Err-clause-hides g c = λ is_fault.
    let left = g.F.Files.left in
    let p = c.args.p.now in
    let i = c.loop-source.source-index in
    let s = c.source-item.result in
    let t = turn p c.items-source-items.result.now i s c.items-source-items.ensures c.loop-source-test.true c.source-item.is in
    let faults = g.F.Files.faults in
    let is : c.add_source.result ≡ Err ReadFault = c.in-Err.is ∙ ap Err (err_same (Err c.in-Err.fault) c.in-Err.fault ReadFault refl is_fault) in
    let hides = c.add_source.ensures.hides is in
    let rose = rose_behind (faults c.args.files.now s.file) (faults c.loop-source.files s.file) (faults c.add_source.new.files s.file)
    (c.loop-source.invariant.counts.rise s.file) (c.add_source.ensures.cause is) in
    let numbered : c.timing_of.result ≡ timing_of p (length (take i p.sources)) =
    c.timing_of.ensures.value ∙ ap (timing_of p) (c.loop-source.invariant.number ∙ t.size) in
    hides_behind p (take i p.sources) (drop (i + 1) p.sources) s c.loop-source.gathered (left c.args.files.now) (left c.loop-source.files)
    (left c.add_source.new.files) (faults c.args.files.now) (faults c.add_source.new.files)
    t.split (c.add_source.ensures.read is) t.apart c.loop-source.invariant.told rose (rw (numbered, c.loop-source.invariant.form, c.items.ensures) at hides)

pub loop-source-preserved : goal.loop-source-preserved
loop-source-preserved g c =
    let left = g.F.Files.left in
    let faults = g.F.Files.faults in
    let old = c.args.files.now in
    let mid = c.loop-source.files in
    let new = c.add_source.new.files in
    let p = c.args.p.now in
    let i = c.loop-source.source-index in
    let s = c.source-item.result in
    let earlier = take i p.sources in
    let t = turn p c.items-source-items.result.now i s c.items-source-items.ensures c.loop-source-test.true c.source-item.is in
    let size = c.loop-source.invariant.number ∙ t.size in
    let numbered : c.timing_of.result ≡ timing_of p (length (take i p.sources)) = c.timing_of.ensures.value ∙ ap (timing_of p) size in
    let adds = rw (numbered, c.loop-source.invariant.form, c.items.ensures) at c.in_default-add_source.ensures.added in
    let taken = c.in_default-add_source.ensures.taken in
    let idle = c.add_source.ensures.shut in
    let clocked = c.sources_with_clocks-clocked.result in
    let is : IsClocked p clocked = record { any = c.sources_with_clocks-clocked.ensures.any; some = c.sources_with_clocks-clocked.ensures.some } in
    let same = ap length c.items-source-items.ensures in
    let number = c.loop-source.invariant.number in
    let lt = c.loop-source-test.true in
    let within : c.loop-source.gathered.number < length p.sources = omega arith in
    let one : sum_by width (take (i + 1) p.sources) ≡ sum_by width earlier + width s =
    ap (sum_by width) t.more ∙ sum_by-append width earlier (s ∷ []) ∙ omega arith in
    record {
      form = c.loop-source.invariant.form;
      number = omega (arith, adds.number, c.loop-source.invariant.number);
      len = omega (arith, adds.len, one, c.loop-source.invariant.len);
      streams = streams_more (timing_of p) (form_of (job_of p)) p.kinds clocked earlier s c.loop-source.gathered c.add_source.new.gathered (left old) (left mid)
          (left new) adds t.apart c.loop-source.invariant.streams;
      told = subst (λ (l : List Source). WhereTold (left old) (left new) (IsGathered (timing_of p) (form_of (job_of p)) p.kinds l c.add_source.new.gathered))
          (sym t.more) (gathered_more (timing_of p) (form_of (job_of p)) p.kinds clocked earlier s c.loop-source.gathered c.add_source.new.gathered (left old)
          (left mid) (left new) adds t.apart c.loop-source.invariant.told taken (λ clock. ap left (idle clock)) c.loop-source.invariant.len);
      span = subst (λ (l : List Source). WhereTold (left old) (left new) (IsSpanned p l c.add_source.new.gathered.span)) (sym t.more)
          (span_more p clocked earlier s c.loop-source.gathered c.add_source.new.gathered (left old) (left mid) (left new) adds is t.apart size
          c.loop-source.invariant.told c.loop-source.invariant.span);
      early = early_more p clocked earlier s c.loop-source.gathered c.add_source.new.gathered (left mid)
          (left new) adds is within c.loop-source.invariant.early;
      fronts = fronts_then (left old) (left mid) (left new) c.loop-source.invariant.fronts (fronts_at s.file (left mid) (left new) taken);
      out = subst (λ (l : List Source). AreReadOut (files_of l) (left new)) (sym t.more) (out_join earlier s (left mid) (left new) taken t.apart
          (λ clock. ap left (idle clock)) c.loop-source.invariant.out c.in_default-add_source.ensures.read_out);
      counts = subst (λ (l : List Source). CountsOfNames (left old) (files_of l) (faults old) (faults new)) (sym t.more)
          (counts_join earlier [] s (left old) (left mid) (faults old) (faults mid) (faults new) (λ clock. ap faults (idle clock)) c.loop-source.invariant.there
          c.loop-source.invariant.counts c.in_default-add_source.ensures.counts);
      quiet = search rules;
      puts = search rules;
      there = there_more s.file (left old) (left mid) (left new) taken c.loop-source.invariant.there;
    }

pub returns-clause-read : goal.returns-clause-read
returns-clause-read g c =
    let left = g.F.Files.left in
    let p = c.args.p.now in
    let all : take c.loop-source.source-index p.sources ≡ p.sources =
    take_all c.loop-source.source-index p.sources (omega (arith, ap length c.items-source-items.ensures)) in
    subst (λ (l : List Source). WhereTold (left c.args.files.now) (left c.loop-source.files)
    (IsGathered (timing_of p) (form_of (job_of p)) p.kinds l c.loop-source.gathered)) all c.loop-source.invariant.told

pub returns-clause-len : goal.returns-clause-len
returns-clause-len g c =
    let p = c.args.p.now in
    let all : take c.loop-source.source-index p.sources ≡ p.sources =
    take_all c.loop-source.source-index p.sources (omega (arith, ap length c.items-source-items.ensures)) in
    c.loop-source.invariant.len ∙ ap (sum_by width) all ∙ sym (total_width 0 p.sources)

pub returns-clause-span : goal.returns-clause-span
returns-clause-span g c =
    let left = g.F.Files.left in
    let p = c.args.p.now in
    let all : take c.loop-source.source-index p.sources ≡ p.sources =
    take_all c.loop-source.source-index p.sources (omega (arith, ap length c.items-source-items.ensures)) in
    subst (λ (l : List Source). WhereTold (left c.args.files.now) (left c.loop-source.files) (IsSpanned p l c.loop-source.gathered.span)) all
    c.loop-source.invariant.span

pub returns-clause-early : goal.returns-clause-early
returns-clause-early g c = c.loop-source.invariant.early

pub returns-clause-others : goal.returns-clause-others
returns-clause-others g c =
    let left = g.F.Files.left in
    let p = c.args.p.now in
    let all : take c.loop-source.source-index p.sources ≡ p.sources =
    take_all c.loop-source.source-index p.sources (omega (arith, ap length c.items-source-items.ensures)) in
    let told = subst (λ (l : List Source). WhereTold (left c.args.files.now) (left c.loop-source.files)
    (IsGathered (timing_of p) (form_of (job_of p)) p.kinds l c.loop-source.gathered)) all c.loop-source.invariant.told in
    told_weaker (IsGathered (timing_of p) (form_of (job_of p)) p.kinds p.sources c.loop-source.gathered) (LeavesOthers (files_of p.sources))
    (left c.args.files.now) (left c.loop-source.files) (λ x y k. k.others) told
