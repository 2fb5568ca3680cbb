use Rattle.std.proofs.Common.{Bool, true, false, ◌≡◌, ◌+◌, ◌<◌, ◌++◌, ◌∷◌, [], ℕ, Err, Some, length, length-append, take, drop, refl, sym, ap, ◌∙◌, rules}
use Rattle.std.proofs.Common.{arith}
use Rattle.std.specs.Prelude.{is_some, slice_get, sum_by}
use Rattle.std.specs.List.{flat_map}
use Rattle.std.proofs.lemmas.List.Sums.{sum_by-append}
use Rattle.std.proofs.lemmas.Option.{slice_get_read}
use Rattle.flu_lemmas.proofs.Named.{rose_behind, fronts_at, fronts_then}
use Rattle.flu_lemmas.proofs.Elements.{each_set}
use Rattle.flu_lemmas.proofs.Replaced.{slice_get-set_other}
use Rattle.flu_lemmas.proofs.Told.{told_same}
use Rattle.flu_lemmas.proofs.Tests.{not_both, false_if_not}
use Rattle.flu_model.specs.Rules.{is_clock}
use Rattle.flu_model.specs.Listing.{listed_tags}
use Rattle.flu_model.specs.Moments.{timing_of}
use Rattle.flu_outside.specs.Taking.{TookFronts}
use Rattle.flu_streams.specs.declared.faults.GatherFault.TheVariants.{ReadFault}
use Rattle.flu_streams.specs.declared.stop.Stop.TheVariants.{ReadFault as ReadStop}
use Rattle.flu_streams.specs.Files.{LeavesOthers}
use Rattle.flu_streams.specs.LoopStop.{fault_of_stop}
use Rattle.flu_streams.specs.declared.inlet.Inlet.{Inlet}
use Rattle.flu_streams.specs.LoopHeld.{earlier_of}
use Rattle.flu_streams.specs.Tags.{width}
use Rattle.flu_streams.proofs.Bounds.{slack_of}
use Rattle.flu_streams.proofs.Gatherings.{err_same, there_more}
use Rattle.flu_streams.proofs.SourceFiles.{counts_join, file_there}
use Rattle.flu_streams.proofs.Rounding.{refilled_more, earliest-push, others_more, others_end, stops_at, source_at}
use Rattle.flu_streams.proofs.Turns.{turn}
use Rattle.flu_streams.proofs.Whole.{read_stop}
use Rattle.flu_streams.proofs.held.refill_all.Goals as goal

pub loop-source-init : goal.loop-source-init
loop-source-init g c =
    let left = g.F.Files.left c.args.files.now in
    record {
      number = refl;
      first = refl;
      ends = [];
      count = refl;
      end = refl;
      all = record { size = refl; each = λ i s at end old new here was is. absurd cc };
      timed = c.requires.timed;
      uncounted = c.requires.uncounted;
      rest = λ j le. refl;
      others = told_same (LeavesOthers []) left (λ x other apart. refl);
      fronts = told_same TookFronts left (λ x name rest e. ([], e));
      counts = record { rise = λ n. omega arith; apart = λ n apart. refl };
      quiet = λ n. refl;
      puts = λ n. refl;
      there = λ n there. there;
    }

pub refill-requires-clause-numbered : goal.refill-requires-clause-numbered
refill-requires-clause-numbered g c =
    let t = turn c.args.p.now c.items-source-items.result.now c.loop-source.source-index c.source-item.result c.items-source-items.ensures
    c.loop-source-test.true c.source-item.is in
    omega (arith, t.narrow, c.loop-source.invariant.first)

pub refill-requires-clause-file : goal.refill-requires-clause-file
refill-requires-clause-file g c =
    let i = c.loop-source.source-index in
    let n = c.loop-source.number in
    let p = c.args.p.now in
    let s = c.source-item.result in
    let mid = c.index_mut-inlet.result.now in
    let news = c.loop-source.inlets.items in
    let at : slice_get p.sources i ≡ Some s =
    source_at p c.items-source-items.result.now i s c.items-source-items.ensures c.loop-source-test.true c.source-item.is in
    let lt : n < length news = omega (
      arith,
      c.loop-source.invariant.number,
      c.loop-source.invariant.all.size,
      c.requires.count,
      c.loop-source-test.true,
      ap length c.items-source-items.ensures,
    ) in
    let is : slice_get news n ≡ Some mid = slice_get_read news (length news) n mid refl lt c.index_mut-inlet.ensures.value in
    let was : slice_get c.args.inlets.now.items i ≡ Some mid =
    sym (c.loop-source.invariant.rest i (omega arith)) ∙ ap (slice_get news) (sym c.loop-source.invariant.number) ∙ is in
    c.requires.files i s at mid was

pub refill-requires-clause-slack : goal.refill-requires-clause-slack
refill-requires-clause-slack g c =
    let i = c.loop-source.source-index in
    let s = c.source-item.result in
    slack_of c.args.p.now i s (source_at c.args.p.now c.items-source-items.result.now i s c.items-source-items.ensures c.loop-source-test.true c.source-item.is)

-- a clock is not read
file_read : (closed clock : Bool) → closed ≡ false → (clock ≡ true → closed ≡ true) → clock ≡ false
file_read closed clock open' shut = false_if_not clock (λ ticks. not_both closed (shut ticks) open')

pub returns-in-Err-clause-stop : goal.returns-in-Err-clause-stop
returns-in-Err-clause-stop g c =
    let left = g.F.Files.left in
    let faults = g.F.Files.faults in
    let i = c.loop-source.source-index in
    let n = c.loop-source.number in
    let p = c.args.p.now in
    let s = c.source-item.result in
    let mid = c.index_mut-inlet.result.now in
    let news = c.loop-source.inlets.items in
    let inv = c.loop-source.invariant in
    let t = turn p c.items-source-items.result.now i s c.items-source-items.ensures c.loop-source-test.true c.source-item.is in
    let at : slice_get p.sources i ≡ Some s =
    source_at p c.items-source-items.result.now i s c.items-source-items.ensures c.loop-source-test.true c.source-item.is in
    let lt : n < length news = omega (arith, inv.number, inv.all.size, c.requires.count, c.loop-source-test.true, ap length c.items-source-items.ensures) in
    let is : slice_get news n ≡ Some mid = slice_get_read news (length news) n mid refl lt c.index_mut-inlet.ensures.value in
    let was : slice_get c.args.inlets.now.items i ≡ Some mid = sym (inv.rest i (omega arith)) ∙ ap (slice_get news) (sym inv.number) ∙ is in
    stops_at p c.args.rows i s c.args.inlets.now.items news mid (left c.args.files.now) (left c.loop-source.files)
    (left c.refill.new.files) inv.ends c.in-Err.stop c.fault_of.result (faults c.args.files.now) (faults c.refill.new.files)
    t inv.count at (file_read mid.closed (is_clock s) c.in-Err.ensures.read (c.requires.clocks i s at mid was)) was inv.others c.in-Err.ensures.taken inv.all
    (rw (c.items.ensures, inv.first) at c.in-Err.ensures.stop)
    (c.fault_of.ensures ∙ ap (λ (k : ℕ). fault_of_stop k c.in-Err.stop) inv.number)
    (λ stop. rose_behind (faults c.args.files.now s.file) (faults c.loop-source.files s.file) (faults c.refill.new.files s.file)
    (inv.counts.rise s.file) (c.refill.ensures.cause (rw (c.in-Err.is, stop) refl)))

pub returns-in-Err-clause-timed : goal.returns-in-Err-clause-timed
returns-in-Err-clause-timed g c =
    let n = c.loop-source.number in
    let mid = c.index_mut-inlet.result.now in
    let news = c.loop-source.inlets.items in
    let inv = c.loop-source.invariant in
    let lt : n < length news = omega (arith, inv.number, inv.all.size, c.requires.count, c.loop-source-test.true, ap length c.items-source-items.ensures) in
    let is : slice_get news n ≡ Some mid = slice_get_read news (length news) n mid refl lt c.index_mut-inlet.ensures.value in
    each_set (λ (j : ℕ) (h : Inlet). h.timing ≡ timing_of c.args.p.now j) news n c.refill.new.self inv.timed (c.refill.ensures.timing ∙ inv.timed n mid is)

pub returns-in-Err-clause-fronts : goal.returns-in-Err-clause-fronts
returns-in-Err-clause-fronts g c =
    let left = g.F.Files.left in
    fronts_then (left c.args.files.now) (left c.loop-source.files) (left c.refill.new.files) c.loop-source.invariant.fronts
    (fronts_at c.source-item.result.file (left c.loop-source.files) (left c.refill.new.files) c.in-Err.ensures.taken)

pub returns-in-Err-clause-others : goal.returns-in-Err-clause-others
returns-in-Err-clause-others g c =
    let left = g.F.Files.left in
    let p = c.args.p.now in
    let i = c.loop-source.source-index in
    let s = c.source-item.result in
    let n = c.loop-source.number in
    let mid = c.index_mut-inlet.result.now in
    let news = c.loop-source.inlets.items in
    let inv = c.loop-source.invariant in
    let t = turn p c.items-source-items.result.now i s c.items-source-items.ensures c.loop-source-test.true c.source-item.is in
    let at : slice_get p.sources i ≡ Some s =
    source_at p c.items-source-items.result.now i s c.items-source-items.ensures c.loop-source-test.true c.source-item.is in
    let lt : n < length news = omega (arith, inv.number, inv.all.size, c.requires.count, c.loop-source-test.true, ap length c.items-source-items.ensures) in
    let is : slice_get news n ≡ Some mid = slice_get_read news (length news) n mid refl lt c.index_mut-inlet.ensures.value in
    let was : slice_get c.args.inlets.now.items i ≡ Some mid = sym (inv.rest i (omega arith)) ∙ ap (slice_get news) (sym inv.number) ∙ is in
    others_end p i s (left c.args.files.now) (left c.loop-source.files) (left c.refill.new.files) t
    (λ ticks. ap left (c.refill.ensures.shut (c.requires.clocks i s at mid was ticks))) c.loop-source.invariant.others c.in-Err.ensures.taken

pub returns-in-Err-clause-counts : goal.returns-in-Err-clause-counts
returns-in-Err-clause-counts g c =
    let left = g.F.Files.left in
    let faults = g.F.Files.faults in
    let p = c.args.p.now in
    let i = c.loop-source.source-index in
    let s = c.source-item.result in
    let n = c.loop-source.number in
    let mid = c.index_mut-inlet.result.now in
    let news = c.loop-source.inlets.items in
    let inv = c.loop-source.invariant in
    let t = turn p c.items-source-items.result.now i s c.items-source-items.ensures c.loop-source-test.true c.source-item.is in
    let at : slice_get p.sources i ≡ Some s =
    source_at p c.items-source-items.result.now i s c.items-source-items.ensures c.loop-source-test.true c.source-item.is in
    let lt : n < length news = omega (arith, inv.number, inv.all.size, c.requires.count, c.loop-source-test.true, ap length c.items-source-items.ensures) in
    let is : slice_get news n ≡ Some mid = slice_get_read news (length news) n mid refl lt c.index_mut-inlet.ensures.value in
    let was : slice_get c.args.inlets.now.items i ≡ Some mid = sym (inv.rest i (omega arith)) ∙ ap (slice_get news) (sym inv.number) ∙ is in
    let k = counts_join (take i p.sources) (drop (i + 1) p.sources) s (left c.args.files.now) (left c.loop-source.files) (faults c.args.files.now)
    (faults c.loop-source.files) (faults c.refill.new.files) (λ ticks. ap faults (c.refill.ensures.shut (c.requires.clocks i s at mid was ticks)))
    c.loop-source.invariant.there c.loop-source.invariant.counts c.in-Err.ensures.counts in
    rw (← t.split) at k

pub returns-in-Err-clause-cause : goal.returns-in-Err-clause-cause
returns-in-Err-clause-cause g c = λ is_fault.
    let faults = g.F.Files.faults in
    let p = c.args.p.now in
    let i = c.loop-source.source-index in
    let s = c.source-item.result in
    let n = c.loop-source.number in
    let mid = c.index_mut-inlet.result.now in
    let news = c.loop-source.inlets.items in
    let inv = c.loop-source.invariant in
    let t = turn p c.items-source-items.result.now i s c.items-source-items.ensures c.loop-source-test.true c.source-item.is in
    let at : slice_get p.sources i ≡ Some s =
    source_at p c.items-source-items.result.now i s c.items-source-items.ensures c.loop-source-test.true c.source-item.is in
    let lt : n < length news = omega (arith, inv.number, inv.all.size, c.requires.count, c.loop-source-test.true, ap length c.items-source-items.ensures) in
    let is : slice_get news n ≡ Some mid = slice_get_read news (length news) n mid refl lt c.index_mut-inlet.ensures.value in
    let was : slice_get c.args.inlets.now.items i ≡ Some mid = sym (inv.rest i (omega arith)) ∙ ap (slice_get news) (sym inv.number) ∙ is in
    let goes : is_clock s ≡ false = file_read mid.closed (is_clock s) c.in-Err.ensures.read (c.requires.clocks i s at mid was) in
    let among = rw (← t.split) at (file_there (take i p.sources) (drop (i + 1) p.sources) s goes) in
    let stop : c.in-Err.stop ≡ ReadStop =
    read_stop _ c.in-Err.stop (sym c.fault_of.ensures ∙ err_same (Err c.fault_of.result) c.fault_of.result ReadFault refl is_fault) in (
      s.file,
      among,
      rose_behind (faults c.args.files.now s.file) (faults c.loop-source.files s.file) (faults c.refill.new.files s.file)
          (c.loop-source.invariant.counts.rise s.file) (c.refill.ensures.cause (rw (c.in-Err.is, stop) refl)),
    )

pub tag_count-first-requires : goal.tag_count-first-requires
tag_count-first-requires g c =
    let s = c.source-item.result in
    let t = turn c.args.p.now c.items-source-items.result.now c.loop-source.source-index s c.items-source-items.ensures c.loop-source-test.true c.source-item.is
    in
    let w : length (flat_map listed_tags c.items-in-loop-source.result.now) ≡ width s =
    ap (λ tags. length (flat_map listed_tags tags)) c.items-in-loop-source.ensures in
    omega (arith, t.narrow, w)

pub overflow_add-first : goal.overflow_add-first
overflow_add-first g c =
    let s = c.source-item.result in
    let t = turn c.args.p.now c.items-source-items.result.now c.loop-source.source-index s c.items-source-items.ensures c.loop-source-test.true c.source-item.is
    in
    let w : c.tag_count-first.result ≡ width s = c.tag_count-first.ensures ∙ ap (λ tags. length (flat_map listed_tags tags)) c.items-in-loop-source.ensures in
    omega (arith, t.narrow, w, c.loop-source.invariant.first)

pub loop-source-preserved : goal.loop-source-preserved
loop-source-preserved g c =
    let left = g.F.Files.left in
    let faults = g.F.Files.faults in
    let old = c.args.files.now in
    let b = c.loop-source.files in
    let new = c.refill.new.files in
    let i = c.loop-source.source-index in
    let n = c.loop-source.number in
    let p = c.args.p.now in
    let s = c.source-item.result in
    let mid = c.index_mut-inlet.result.now in
    let news = c.loop-source.inlets.items in
    let inv = c.loop-source.invariant in
    let earlier = take i p.sources in
    let t = turn p c.items-source-items.result.now i s c.items-source-items.ensures c.loop-source-test.true c.source-item.is in
    let at : slice_get p.sources i ≡ Some s =
    source_at p c.items-source-items.result.now i s c.items-source-items.ensures c.loop-source-test.true c.source-item.is in
    let lt : n < length news = omega (arith, inv.number, inv.all.size, c.requires.count, c.loop-source-test.true, ap length c.items-source-items.ensures) in
    let is : slice_get news n ≡ Some mid = slice_get_read news (length news) n mid refl lt c.index_mut-inlet.ensures.value in
    let was : slice_get c.args.inlets.now.items i ≡ Some mid = sym (inv.rest i (omega arith)) ∙ ap (slice_get news) (sym inv.number) ∙ is in
    let taken = c.in-Ok.ensures.taken in
    let w : c.tag_count-first.result ≡ width s = c.tag_count-first.ensures ∙ ap (λ tags. length (flat_map listed_tags tags)) c.items-in-loop-source.ensures in
    let one : sum_by width (take (i + 1) p.sources) ≡ sum_by width earlier + width s =
    ap (sum_by width) t.more ∙ sum_by-append width earlier (s ∷ []) ∙ omega arith in
    let idle = c.in-Ok.ensures.shut in
    record {
      number = omega (arith, inv.number);
      first = omega (arith, w, one, inv.first);
      ends = inv.ends ++ c.in-Ok.turn ∷ [];
      count = length-append inv.ends (c.in-Ok.turn ∷ []) ∙ ap (λ (k : ℕ). k + 1) inv.count;
      end = c.earlier-end.ensures ∙ ap (λ e. earlier_of e c.in-Ok.turn) inv.end ∙ sym (earliest-push inv.ends c.in-Ok.turn);
      all = rw inv.number (refilled_more p c.args.rows i s c.args.inlets.now.items news mid c.refill.new.self (left old) (left b)
          (left new) inv.ends c.in-Ok.turn t inv.count at (λ ticks. ap left (idle (c.requires.clocks i s at mid was ticks))) was inv.others taken inv.all
          (rw (c.items.ensures, inv.first) at c.in-Ok.ensures.filled));
      timed = each_set (λ (j : ℕ) (h : Inlet). h.timing ≡ timing_of p j) news n c.refill.new.self inv.timed
          (c.in-Ok.ensures.timing ∙ inv.timed n mid is);
      uncounted = each_set (λ (j : ℕ) (h : Inlet). is_some h.held ≡ false) news n c.refill.new.self inv.uncounted
          (c.in-Ok.ensures.counted ∙ inv.uncounted n mid is);
      rest = λ j le. slice_get-set_other news n j c.refill.new.self (λ e. omega (arith, e, le, inv.number)) ∙ inv.rest j (omega (arith, le));
      others = others_more p i s (left old) (left b) (left new) t (λ ticks. ap left (idle (c.requires.clocks i s at mid was ticks))) inv.others taken;
      fronts = fronts_then (left old) (left b) (left new) inv.fronts (fronts_at s.file (left b) (left new) taken);
      counts = rw t.more (counts_join earlier [] s (left old) (left b) (faults old) (faults b) (faults new)
          (λ ticks. ap faults (idle (c.requires.clocks i s at mid was ticks))) inv.there inv.counts c.in-Ok.ensures.counts);
      quiet = search rules;
      puts = search rules;
      there = there_more s.file (left old) (left b) (left new) taken inv.there;
    }
