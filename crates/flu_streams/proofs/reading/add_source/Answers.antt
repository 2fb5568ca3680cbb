use Rattle.std.proofs.Common.{◌≡◌, ◌+◌, ◌++◌, [], Err, None, Some, length, vec_len, map, refl, sym, ap, ◌∙◌, arith}
use Rattle.std.specs.Prelude.{is_some, unwrap_or}
use Rattle.std.specs.List.{flat_map}
use Rattle.std.proofs.lemmas.Grind.{common_steps}
use Rattle.std.proofs.lemmas.List.{map-append}
use Rattle.flu_lemmas.proofs.Tests.{not_both}
use Rattle.flu_model.specs.declared.moments.Timing.{Timing}
use Rattle.flu_model.specs.Listing.{listed_tags}
use Rattle.flu_model.specs.Rules.{is_clock}
use Rattle.flu_streams.specs.declared.border.Border.TheVariants.{Closed}
use Rattle.flu_streams.specs.declared.faults.GatherFault.TheVariants.{ReadFault as ReadFaulty}
use Rattle.flu_streams.specs.Good.{lists_of_rows}
use Rattle.flu_streams.specs.Holding.{HeldSource}
use Rattle.flu_streams.specs.Lists.{lists_in}
use Rattle.flu_streams.specs.LoopGathering.{span_among}
use Rattle.flu_streams.specs.LoopHeld.{held_with}
use Rattle.flu_streams.specs.Tags.{width}
use Rattle.flu_streams.specs.Tests.{rows_of, times_of, least, items_of}
use Rattle.flu_streams.proofs.Counted.{fits_now}
use Rattle.flu_streams.proofs.Cuts.{own_lists, own_streams}
use Rattle.flu_streams.proofs.Gatherings.{err_same}
use Rattle.flu_streams.proofs.RoundEnds.{whole_rows}
use Rattle.flu_streams.proofs.Whole.{passes_whole, is_closed, read_stop, whole_reads, whole_told, whole_fault, whole_hides}
use Rattle.flu_streams.proofs.reading.add_source.Goals as goal

pub refill-requires-clause-file : goal.refill-requires-clause-file
refill-requires-clause-file g c = ap (λ (h : HeldSource). h.place.file) c.in-Ok.ensures.source

pub refill-requires-clause-counted : goal.refill-requires-clause-counted
refill-requires-clause-counted g c = λ none. ap is_some c.in-Ok.ensures.held

pub returns-clause-added : goal.returns-clause-added
returns-clause-added g c =
    let left = g.F.Files.left in
    let timing = c.args.timing in
    let kinds = c.args.kinds.now in
    let s = c.args.source.now in
    let old = c.args.gathered.now in
    let first = c.len-first.result in
    let now = c.refill.new.self in
    let r = whole_reads timing c.args.form.now kinds s first c.in-Ok.inlet now (left c.args.files.now) (left c.refill.new.files) _
    c.in-Ok.ensures.timing c.in-Ok.ensures.source c.in_default-refill.ensures.filled in
    let read = r.so_far.more in
    let more : c.append.new.self.items ≡ old.lists.items ++ c.in-Ok-take_lists.lists.items = grind (arith, common_steps) in
    let len : vec_len c.append.new.self ≡ vec_len old.lists + vec_len c.in-Ok-take_lists.lists = grind (arith, common_steps) in
    let w : c.tag_count-width.result ≡ width s = c.tag_count-width.ensures ∙ ap (λ tags. length (flat_map listed_tags tags)) c.items.ensures in
    let own : lists_in c.in-Ok-take_lists.lists ≡ lists_of_rows timing kinds s first (rows_of read) =
    own_lists timing c.requires.fits c.in-Ok-take_lists.lists kinds s first None Closed read now (c.in-Ok-take_lists.ensures.len ∙ w)
    (λ i lt. c.in-Ok-take_lists.ensures.each i (rw w lt)) r.so_far.behind c.in_default-refill.ensures.filled.caught
    ∙ whole_rows timing kinds s first read r.so_far.behind.sound in
    let counted = r.so_far.held in
    let start : c.in-Ok.inlet.held ≡ Some old.held = c.in-Ok.ensures.held in
    let sum : now.held ≡ Some (old.held + items_of (width s) (rows_of read)) =
    counted ∙ ap (λ o. held_with o (items_of (width s) (rows_of read))) start in
    record {
      read = read;
      passes = passes_whole timing kinds s old.held read r.so_far.behind.sound (fits_now s read c.in-Ok.inlet now counted old.held start);
      told = whole_told timing c.args.form.now kinds s first c.in-Ok.inlet now (left c.args.files.now) (left c.refill.new.files) _ c.in-Ok.ensures.source r;
      lists = ap (map (λ v. v.items)) more ∙ map-append (λ v. v.items) old.lists.items c.in-Ok-take_lists.lists.items
          ∙ ap (λ rest. lists_in old.lists ++ rest) (own ∙ ap (λ n. lists_of_rows timing kinds s n (rows_of read)) c.len-first.ensures);
      streams = rw (← c.len-first.ensures, ← own) (own_streams c.in-Ok-take_lists.lists first c.tag_count-width.result Closed now.items
          c.in-Ok-take_lists.ensures.len c.in-Ok-take_lists.ensures.each now.rising);
      len = omega (arith, len, w, c.in-Ok-take_lists.ensures.len);
      held = c.unwrap_or-gathered.ensures ∙ ap (λ o. unwrap_or o 0) (c.take_lists.ensures.counted ∙ sum);
      number = refl;
      span = c.span_behind-span.ensures
          ∙ ap (λ o. span_among c.args.clocked old.number old.span o now.last) r.so_far.behind.earliest
          ∙ ap (λ o. span_among c.args.clocked old.number old.span (least (times_of (rows_of read))) o) r.so_far.behind.last;
      early = λ t e.
          let lt = now.early t (r.so_far.behind.last ∙ e) in
          let same : now.timing.end ≡ timing.end = ap (λ (x : Timing). x.end) (c.refill.ensures.timing ∙ c.in-Ok.ensures.timing) in
          omega (arith, lt, same);
    }

pub returns-clause-read_out : goal.returns-clause-read_out
returns-clause-read_out g c =
    let left = g.F.Files.left in
    let timing = c.args.timing in
    let kinds = c.args.kinds.now in
    let s = c.args.source.now in
    let now = c.refill.new.self in
    let r = whole_reads timing c.args.form.now kinds s c.len-first.result c.in-Ok.inlet now (left c.args.files.now) (left c.refill.new.files) _
    c.in-Ok.ensures.timing c.in-Ok.ensures.source c.in_default-refill.ensures.filled in
    λ file. c.in_default-refill.ensures.filled.out
    (λ closed. absurd (not_both (is_clock s) (sym (ap (λ (h : HeldSource). h.closed) c.in-Ok.ensures.source) ∙ closed) file))
    (is_closed timing s ([] ++ r.so_far.more) now _ r.ends)

pub returns-in-Err-clause-fault : goal.returns-in-Err-clause-fault
returns-in-Err-clause-fault g c =
    let left = g.F.Files.left in
    rw c.fault_of.ensures
    (whole_fault c.args.timing c.args.form.now c.args.kinds.now c.args.source.now c.len-first.result c.args.gathered.now.number c.args.gathered.now.held
    c.in-Ok.inlet (left c.args.files.now)
    (left c.refill.new.files) c.in-Err.stop c.in-Ok.ensures.timing c.in-Ok.ensures.source c.in-Ok.ensures.held c.in-Err.ensures.stop)

pub returns-in-Err-clause-hides : goal.returns-in-Err-clause-hides
returns-in-Err-clause-hides g c = λ is_fault.
    let left = g.F.Files.left in
    let stop = read_stop c.args.gathered.now.number c.in-Err.stop
    (sym c.fault_of.ensures ∙ err_same (Err c.fault_of.result) c.fault_of.result ReadFaulty refl is_fault) in
    whole_hides c.args.timing c.args.form.now c.args.kinds.now c.args.source.now c.len-first.result c.args.gathered.now.held c.in-Ok.inlet
    (left c.args.files.now)
    (left c.refill.new.files) c.in-Err.stop stop c.in-Ok.ensures.timing c.in-Ok.ensures.source c.in-Ok.ensures.held c.in-Err.ensures.stop

pub span_behind-span-requires-clause-number : goal.span_behind-span-requires-clause-number
span_behind-span-requires-clause-number g c = λ n e. (c.requires.ranked n e).0

pub span_behind-span-requires-clause-ordered : goal.span_behind-span-requires-clause-ordered
span_behind-span-requires-clause-ordered g c = c.refill.new.self.ordered

pub span_behind-span-requires-clause-range : goal.span_behind-span-requires-clause-range
span_behind-span-requires-clause-range g c = λ n e t last.
    let now = c.refill.new.self in
    let lt = now.early t last in
    let same : now.timing.end ≡ c.args.timing.end = ap (λ (x : Timing). x.end) (c.refill.ensures.timing ∙ c.in-Ok.ensures.timing) in
    let most = (c.requires.ranked n e).1 in
    omega (arith, lt, same, most)

pub returns-in-Err-clause-read : goal.returns-in-Err-clause-read
returns-in-Err-clause-read g c = λ is_fault. sym (ap (λ (h : HeldSource). h.closed) c.in-Ok.ensures.source) ∙ c.in-Err.ensures.read

pub returns-in-Err-clause-shut : goal.returns-in-Err-clause-shut
returns-in-Err-clause-shut g c = λ clock. c.refill.ensures.shut (ap (λ (h : HeldSource). h.closed) c.in-Ok.ensures.source ∙ clock)

pub returns-clause-shut : goal.returns-clause-shut
returns-clause-shut g c = λ clock. c.refill.ensures.shut (ap (λ (h : HeldSource). h.closed) c.in-Ok.ensures.source ∙ clock)
