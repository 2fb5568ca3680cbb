use Rattle.std.proofs.Common.{◌≡◌, ◌∙◌, refl, sym, ap, rules}
use Rattle.flu_lemmas.proofs.Named.{taken_then, counts_then, none_taken, no_counts}
use Rattle.flu_lemmas.proofs.Tests.{not_both, false_if_not}
use Rattle.std.specs.Prelude.{is_some}
use Rattle.flu_outside.specs.Taking.{IsReadOut}
use Rattle.flu_outside.specs.declared.files.TakeFault.{TakeFault}
use Rattle.flu_outside.specs.declared.files.TakeFault.TheVariants.{Failed, NoMemory}
use Rattle.flu_streams.specs.LoopHeld.{IsStopOf}
use Rattle.flu_streams.proofs.Bounds.{few_caught, few_row, room_here}
use Rattle.flu_streams.proofs.HeldRows.{well_row, well_caught}
use Rattle.flu_streams.proofs.Refilling.{refilling_none, refilling_row, refused_row, meets_last, stops_behind, refilled_open, refilled_shut, refilled_end}
use Rattle.flu_streams.proofs.Refilling.{refilling_caught}
use Rattle.flu_streams.proofs.Taken.{at_done}
use Rattle.flu_streams.proofs.inlet.Inlet.refill.Goals as goal

pub loop-time-init : goal.loop-time-init
loop-time-init g c =
    let left = g.F.Files.left c.args.files.now in
    let file = c.args.source.now.file in
    record {
      timing = c.catch_up.ensures.timing;
      form = ap (λ place. place.form) c.catch_up.ensures.rows;
      file = ap (λ place. place.file) c.catch_up.ensures.rows ∙ c.requires.file;
      so_far = λ above before is. refilling_caught c.args.kinds.now c.args.source.now c.args.first c.args.rows above before
          c.args.self.now c.args.self.now c.catch_up.new.self left left refl c.catch_up.ensures
          (refilling_none c.args.kinds.now c.args.source.now c.args.first c.args.rows above before c.args.self.now left is);
      well = λ border was. well_caught c.args.self.now.timing c.args.source.now border c.args.self.now c.catch_up.new.self c.catch_up.ensures was;
      out = λ was closed. was (sym c.catch_up.ensures.closed ∙ closed);
      few = few_caught c.args.rows c.args.source.now c.args.self.now c.catch_up.new.self c.catch_up.ensures;
      room = c.catch_up.ensures.room;
      before_goal = c.catch_up.ensures.before;
      shut = c.catch_up.ensures.shut;
      idle = λ closed. (c.catch_up.ensures.closed ∙ closed, refl);
      counted = ap is_some c.catch_up.ensures.held;
      taken = none_taken file left;
      counts = no_counts file left (g.F.Files.faults c.args.files.now);
      quiet = λ n. refl;
      puts = λ n. refl;
    }

pub returns-in-Some-clause-filled : goal.returns-in-Some-clause-filled
returns-in-Some-clause-filled g c =
    let left = g.F.Files.left in
    refilled_open c.args.kinds.now c.args.source.now c.args.first c.in-Some.time c.args.rows c.args.self.now c.loop-time.self (left c.args.files.now)
    (left c.loop-time.files)
    c.requires.some c.loop-time.invariant.timing c.loop-time.invariant.so_far c.loop-time.invariant.well c.loop-time.invariant.out c.loop-time.invariant.few
    c.loop-time.invariant.form (sym c.in-Some.ensures)

pub returns-then-self-clause-filled : goal.returns-then-self-clause-filled
returns-then-self-clause-filled g c =
    let left = g.F.Files.left in
    refilled_shut c.args.kinds.now c.args.source.now c.args.first c.args.rows c.args.self.now c.loop-time.self (left c.args.files.now) (left c.loop-time.files)
    c.requires.some c.loop-time.invariant.timing c.loop-time.invariant.so_far c.loop-time.invariant.well c.loop-time.invariant.out c.loop-time.invariant.few
    c.loop-time.invariant.form (sym c.in_default.ensures, c.loop-time.invariant.before_goal) c.if-self.true (c.loop-time.invariant.shut c.if-self.true)

pub returns-in-Some-clause-shut : goal.returns-in-Some-clause-shut
returns-in-Some-clause-shut g c closed = (c.loop-time.invariant.idle closed).1

pub returns-then-self-clause-shut : goal.returns-then-self-clause-shut
returns-then-self-clause-shut g c closed = (c.loop-time.invariant.idle closed).1

pub returns-in-Err-clause-shut : goal.returns-in-Err-clause-shut
returns-in-Err-clause-shut g c closed = absurd (not_both c.loop-time.self.closed (c.loop-time.invariant.idle closed).0 c.if-self.false)

pub returns-in-Err-clause-read : goal.returns-in-Err-clause-read
returns-in-Err-clause-read g c =
    false_if_not c.args.self.now.closed (λ closed. not_both c.loop-time.self.closed (c.loop-time.invariant.idle closed).0 c.if-self.false)

pub returns-in-Err-take-clause-read : goal.returns-in-Err-take-clause-read
returns-in-Err-take-clause-read g c =
    false_if_not c.args.self.now.closed (λ closed. not_both c.loop-time.self.closed (c.loop-time.invariant.idle closed).0 c.if-self.false)

pub returns-in-Err-take-clause-shut : goal.returns-in-Err-take-clause-shut
returns-in-Err-take-clause-shut g c closed = absurd (not_both c.loop-time.self.closed (c.loop-time.invariant.idle closed).0 c.if-self.false)

pub returns-in-Err-clause-stop : goal.returns-in-Err-clause-stop
returns-in-Err-clause-stop g c =
    let left = g.F.Files.left in
    let old = left c.args.files.now in
    let new = left c.next_row.new.files in
    by_fault c.in-Err.fault refl
  where
    by_fault : (fault : TakeFault) → c.in-Err.fault ≡ fault → IsStopOf c.args.kinds.now c.args.source.now c.args.first c.args.rows c.args.self.now
        (g.F.Files.left c.args.files.now) (g.F.Files.left c.next_row.new.files) c.stop_of.result
    by_fault Failed e =
        rw (c.stop_of.ensures, e) (stops_behind c.args.kinds.now c.args.source.now c.args.first c.args.rows c.args.self.now c.loop-time.self c.next_row.new.self
        (g.F.Files.left c.args.files.now) (g.F.Files.left c.loop-time.files) (g.F.Files.left c.next_row.new.files)
        c.requires.some c.loop-time.invariant.timing c.loop-time.invariant.so_far c.if-self.false (sym c.in_default.ensures, c.loop-time.invariant.before_goal)
        (c.next_row.ensures.form ∙ c.loop-time.invariant.form) (c.next_row.ensures.same ∙ c.loop-time.invariant.file)
        (c.next_row.ensures.undecided (rw (c.in-Err.is, e) refl)) (c.next_row.ensures.kept (rw (c.in-Err.is, e) refl)))
    by_fault NoMemory e = rw (c.stop_of.ensures, e) tt

pub returns-in-Err-clause-taken : goal.returns-in-Err-clause-taken
returns-in-Err-clause-taken g c = taken_then c.args.source.now.file (g.F.Files.left c.args.files.now) (g.F.Files.left c.loop-time.files)
    (g.F.Files.left c.next_row.new.files) c.loop-time.invariant.taken (rw c.loop-time.invariant.file at c.in-Err.ensures.taken)

pub take-requires-clause-room : goal.take-requires-clause-room
take-requires-clause-room g c =
    room_here c.args.rows c.args.source.now c.loop-time.self c.requires.some c.requires.most
    (λ none. c.loop-time.invariant.counted ∙ c.requires.counted none) c.requires.slack
    (sym c.in_default.ensures, c.loop-time.invariant.before_goal) c.loop-time.invariant.room

pub returns-in-Err-take-clause-stop : goal.returns-in-Err-take-clause-stop
returns-in-Err-take-clause-stop g c =
    let left = g.F.Files.left in
    let told = rw c.in-Row.is at c.in-Ok.ensures.told in
    rw c.stop_at.ensures (refused_row c.args.kinds.now c.args.source.now c.args.first c.args.rows c.args.self.now c.loop-time.self
    (record c.loop-time.self { rows = c.next_row.new.self }) (left c.args.files.now) (left c.loop-time.files)
    (left c.next_row.new.files) c.in-Row.line c.in-Row.row c.in-Err-take.refusal
    c.requires.some c.loop-time.invariant.timing c.loop-time.invariant.so_far c.if-self.false
    (sym c.in_default.ensures, c.loop-time.invariant.before_goal) refl refl refl refl refl told c.in-Err-take.ensures.refused)

pub returns-in-Err-take-clause-counted : goal.returns-in-Err-take-clause-counted
returns-in-Err-take-clause-counted g c = c.take.ensures.counted ∙ c.loop-time.invariant.counted

pub returns-in-Err-take-clause-timing : goal.returns-in-Err-take-clause-timing
returns-in-Err-take-clause-timing g c = c.take.ensures.timing ∙ c.loop-time.invariant.timing

pub returns-in-Err-take-clause-taken : goal.returns-in-Err-take-clause-taken
returns-in-Err-take-clause-taken g c = taken_then c.args.source.now.file (g.F.Files.left c.args.files.now) (g.F.Files.left c.loop-time.files)
    (g.F.Files.left c.next_row.new.files) c.loop-time.invariant.taken (rw c.loop-time.invariant.file at c.in-Ok.ensures.taken)

pub loop-time-preserved : goal.loop-time-preserved
loop-time-preserved g c =
    let left = g.F.Files.left in
    let faults = g.F.Files.faults in
    let old = c.args.files.now in
    let mid = c.loop-time.files in
    let new = c.next_row.new.files in
    let file = c.args.source.now.file in
    let told = rw c.in-Row.is at c.in-Ok.ensures.told in
    let puts = c.in_default-take.ensures.taken in
    let here = c.in-Ok.ensures.same ∙ c.loop-time.invariant.file in
    let form_here = c.in-Ok.ensures.form ∙ c.loop-time.invariant.form in
    let catches = c.catch_up-in-Row.ensures in
    let caught = c.catch_up-in-Row.new.self in
    record {
      timing = catches.timing ∙ puts.timing ∙ c.loop-time.invariant.timing;
      form = ap (λ place. place.form) catches.rows ∙ ap (λ place. place.form) puts.rows ∙ form_here;
      file = ap (λ place. place.file) catches.rows ∙ ap (λ place. place.file) puts.rows ∙ here;
      so_far = λ above before is. refilling_caught c.args.kinds.now c.args.source.now c.args.first c.args.rows above before
          c.args.self.now c.take.new.self caught (left old) (left new) (puts.timing ∙ c.loop-time.invariant.timing) catches
          (refilling_row c.args.kinds.now c.args.source.now c.args.first c.args.rows c.args.self.now c.loop-time.self _ c.take.new.self (left old)
          (left mid) (left new) c.in-Row.line c.in-Row.row
          c.requires.some c.loop-time.invariant.timing c.loop-time.invariant.so_far c.if-self.false
          (sym c.in_default.ensures, c.loop-time.invariant.before_goal) refl refl refl refl refl refl refl refl here told puts above before is);
      well = λ border was. well_caught c.args.self.now.timing c.args.source.now border c.take.new.self caught catches
          (well_row c.args.self.now.timing c.args.self.now.fits c.args.kinds.now c.args.source.now c.args.first border c.loop-time.self _ c.take.new.self
          c.in-Row.row (c.loop-time.invariant.well border was) refl c.if-self.false refl refl refl here puts);
      out = λ was closed. absurd (not_both caught.closed closed (catches.closed ∙ puts.closed ∙ c.if-self.false));
      few = λ was. few_caught c.args.rows c.args.source.now c.take.new.self caught catches
          (few_row c.args.rows c.args.kinds.now c.args.source.now c.args.first c.loop-time.self _ c.take.new.self c.in-Row.row c.requires.some
          (sym c.in_default.ensures, c.loop-time.invariant.before_goal) refl refl refl puts);
      room = catches.room;
      before_goal = catches.before;
      shut = catches.shut;
      idle = λ closed. absurd (not_both c.loop-time.self.closed (c.loop-time.invariant.idle closed).0 c.if-self.false);
      counted = ap is_some catches.held ∙ c.take.ensures.counted ∙ c.loop-time.invariant.counted;
      taken = taken_then file (left old) (left mid) (left new) c.loop-time.invariant.taken (rw c.loop-time.invariant.file at c.in-Ok.ensures.taken);
      counts = counts_then file (left old) (left mid) (faults old) (faults mid) (faults new) c.loop-time.invariant.taken c.loop-time.invariant.counts
          (rw c.loop-time.invariant.file at c.in-Ok.ensures.counts);
      quiet = search rules;
      puts = search rules;
    }

pub returns-in-Some-defect_behind : goal.returns-in-Some-defect_behind
returns-in-Some-defect_behind g c =
    let left = g.F.Files.left in
    let faults = g.F.Files.faults in
    let old = c.args.files.now in
    let mid = c.loop-time.files in
    let new = c.next_row.new.files in
    let file = c.args.source.now.file in
    record {
      filled = tt;
      stop = meets_last c.args.kinds.now c.args.source.now c.args.first c.args.rows c.args.self.now c.loop-time.self c.next_row.new.self (left old) (left mid)
          (left new) c.in-Ok.next c.in-Some-defect_behind.row c.in-Some-defect_behind.why
          c.requires.some c.loop-time.invariant.timing c.loop-time.invariant.so_far c.if-self.false
          (sym c.in_default.ensures, c.loop-time.invariant.before_goal) c.in-Ok.ensures.told c.in_default-next.not-Row (sym c.in-Some-defect_behind.ensures);
      counted = c.loop-time.invariant.counted;
      timing = c.loop-time.invariant.timing;
      taken = taken_then file (left old) (left mid) (left new) c.loop-time.invariant.taken (rw c.loop-time.invariant.file at c.in-Ok.ensures.taken);
      counts = counts_then file (left old) (left mid) (faults old) (faults mid) (faults new) c.loop-time.invariant.taken c.loop-time.invariant.counts
          (rw c.loop-time.invariant.file at c.in-Ok.ensures.counts);
      quiet = search rules;
      puts = search rules;
      cause = search rules;
      shut = λ closed. absurd (not_both c.loop-time.self.closed (c.loop-time.invariant.idle closed).0 c.if-self.false);
      read = false_if_not c.args.self.now.closed (λ closed. not_both c.loop-time.self.closed (c.loop-time.invariant.idle closed).0 c.if-self.false);
    }

pub returns-in_default-next : goal.returns-in_default-next
returns-in_default-next g c =
    let left = g.F.Files.left in
    let faults = g.F.Files.faults in
    let old = c.args.files.now in
    let mid = c.loop-time.files in
    let new = c.next_row.new.files in
    let file = c.args.source.now.file in
    let none = sym c.in_default-defect_behind.ensures in
    let here = c.in-Ok.ensures.same ∙ c.loop-time.invariant.file in
    let form_here = c.in-Ok.ensures.form ∙ c.loop-time.invariant.form in
    let out : IsReadOut file (left new) = rw c.loop-time.invariant.file at
    (at_done c.loop-time.self.ended c.in-Ok.next (IsReadOut c.loop-time.self.rows.file (left new)) c.in_default-next.not-Row none c.in-Ok.ensures.end) in
    record {
      filled = refilled_end c.args.kinds.now c.args.source.now c.args.first c.args.rows c.args.self.now c.loop-time.self _ c.catch_up-in_default-next.new.self
          (left old) (left mid) (left new) c.in-Ok.next
          c.requires.some c.loop-time.invariant.timing c.loop-time.invariant.so_far c.loop-time.invariant.well c.loop-time.invariant.few c.if-self.false
          (sym c.in_default.ensures, c.loop-time.invariant.before_goal) c.in-Ok.ensures.told c.in_default-next.not-Row none out
          refl refl refl refl refl refl refl refl form_here here c.catch_up-in_default-next.ensures;
      stop = tt;
      counted = ap is_some c.catch_up-in_default-next.ensures.held ∙ c.loop-time.invariant.counted;
      timing = c.catch_up-in_default-next.ensures.timing ∙ c.loop-time.invariant.timing;
      taken = taken_then file (left old) (left mid) (left new) c.loop-time.invariant.taken (rw c.loop-time.invariant.file at c.in-Ok.ensures.taken);
      counts = counts_then file (left old) (left mid) (faults old) (faults mid) (faults new) c.loop-time.invariant.taken c.loop-time.invariant.counts
          (rw c.loop-time.invariant.file at c.in-Ok.ensures.counts);
      quiet = search rules;
      puts = search rules;
      cause = search rules;
      shut = λ closed. absurd (not_both c.loop-time.self.closed (c.loop-time.invariant.idle closed).0 c.if-self.false);
      read = tt;
    }
