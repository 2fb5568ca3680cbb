use Rattle.std.proofs.Common.{◌≡◌, ◌≤◌, ◌∙◌, sym, ap, subst, ℕ, List}
use Rattle.std.specs.Prelude.{is_some}
use Rattle.flu_lemmas.specs.Told.{WhereTold}
use Rattle.flu_model.specs.declared.streams.Streams.{Streams}
use Rattle.flu_model.specs.Listed.{listed}
use Rattle.flu_outside.specs.Outside.{Contents}
use Rattle.flu_streams.specs.Faults.{IsFirstFaultBeside}
use Rattle.flu_streams.specs.Good.{lists_beside}
use Rattle.flu_selected.proofs.ReadSources.{on_ok, if_ok, if_err, counts_open, good_read, of_read, fault_read, out_read, fronts_read, others_read, counts_read}
use Rattle.flu_selected.proofs.ReadSources.{closed_of_lines, hides_along}
use Rattle.flu_selected.specs.Closed.{lines_in}
use Rattle.flu_selected.specs.Gathering.{reads, IsFirstReadFault}
use Rattle.flu_selected.specs.Laws.{closed_files, selected}
use Rattle.flu_selected.specs.Origin.{left_at, ClosedStay}
use Rattle.flu_selected.specs.Selecting.{is_among, whole_lines, left_beside, counts_beside}
use Rattle.flu_selected.proofs.gathering.gather_lent.Given.{Over}
use Rattle.flu_selected.proofs.gathering.gather_lent.Goals as goal

pub new-selected-requires-clause-names : goal.new-selected-requires-clause-names
new-selected-requires-clause-names g c = λ name.
    ap (λ (lines : Contents). is_some (lines name)) c.requires.lines ∙ closed_of_lines (closed_files c.args.p.now (reads c.args.is_read.now)) name
    ∙ c.requires.names name

-- ---- what is known of the files behind at the start and at the end
start_is : (g : Over) (c : goal.After-into_lent g) → left_beside (g.F.Files.left c.new-selected.result.files.now) (lines_in c.new-selected.result.closed)
    ≡ left_beside g.K.Origin.left (whole_lines (closed_files c.args.p.now (reads c.args.is_read.now)))
start_is g c =
    let made = c.new-selected.result in
    ap (λ files. left_beside (g.F.Files.left files) (lines_in made.closed)) c.new-selected.ensures.files
    ∙ ap (λ left. left_beside left (lines_in made.closed)) c.requires.left
    ∙ ap (λ closed. left_beside g.K.Origin.left (lines_in closed)) c.new-selected.ensures.closed
    ∙ ap (λ lines. left_beside g.K.Origin.left lines) c.requires.lines

final_is : (g : Over) (c : goal.After-into_lent g)
    → left_beside (g.F.Files.left c.gather_beside.new.files.files.now) (lines_in c.gather_beside.new.files.closed)
    ≡ left_beside (g.F.Files.left c.into_lent.result.files.now) (lines_in c.gather_beside.new.files.closed)
final_is g c = ap (λ files. left_beside (g.F.Files.left files) (lines_in c.gather_beside.new.files.closed)) (sym c.into_lent.ensures.now)

closed_now : (g : Over) (c : goal.After-into_lent g) (n : List ℕ)
    → is_some (lines_in c.gather_beside.new.files.closed n) ≡ is_among (closed_files c.args.p.now (reads c.args.is_read.now)) n
closed_now g c n = c.gather_beside.new.files.same_names n ∙ sym (c.requires.names n)

stay : (g : Over) (c : goal.After-into_lent g)
    → ClosedStay (is_among (closed_files c.args.p.now (reads c.args.is_read.now))) g.K.Origin.left (g.F.Files.left c.into_lent.result.files.now)
stay g c = λ n closed.
    ap (λ files. left_at (g.F.Files.left files) n) c.into_lent.ensures.now ∙ c.gather_beside.new.files.left n (sym (c.requires.names n) ∙ closed)

-- ---- the clauses
pub returns-clause-good : goal.returns-clause-good
returns-clause-good g c =
    on_ok c.gather_beside.result (good_read c.args.p.now (reads c.args.is_read.now) _ _ _ _ _ (start_is g c) (final_is g c) (closed_now g c) (stay g c)
    c.args.beside.now)
    c.gather_beside.ensures.good

pub returns-clause-lists : goal.returns-clause-lists
returns-clause-lists g c =
    let p = c.args.p.now in
    let is_read = reads c.args.is_read.now in
    let start = left_beside (g.F.Files.left c.new-selected.result.files.now) (lines_in c.new-selected.result.closed) in
    let final = left_beside (g.F.Files.left c.gather_beside.new.files.files.now) (lines_in c.gather_beside.new.files.closed) in
    if_ok (λ (streams : Streams). WhereTold start final (λ old new. listed streams ≡ lists_beside p c.args.beside.now old))
    (λ (streams : Streams). WhereTold g.K.Origin.left (g.F.Files.left c.into_lent.result.files.now)
    (λ old new. listed streams ≡ lists_beside p c.args.beside.now (selected p is_read old)))
    c.gather_beside.result
    (λ streams t. of_read p is_read _ _ _ _ _ (start_is g c) (final_is g c) (closed_now g c) (stay g c)
    (λ old. listed streams ≡ lists_beside p c.args.beside.now old) t)
    c.gather_beside.ensures.lists

pub returns-clause-read_out : goal.returns-clause-read_out
returns-clause-read_out g c =
    on_ok c.gather_beside.result (out_read c.args.p.now (reads c.args.is_read.now) _ _ _ _ _ (start_is g c) (final_is g c) (closed_now g c) (stay g c))
    c.gather_beside.ensures.read_out

pub returns-clause-fault : goal.returns-clause-fault
returns-clause-fault g c =
    let p = c.args.p.now in
    let is_read = reads c.args.is_read.now in
    let start = left_beside (g.F.Files.left c.new-selected.result.files.now) (lines_in c.new-selected.result.closed) in
    let final = left_beside (g.F.Files.left c.gather_beside.new.files.files.now) (lines_in c.gather_beside.new.files.closed) in
    let beside : List ℕ = c.args.beside.now in
    if_err (IsFirstFaultBeside p beside start final) (IsFirstReadFault p beside is_read g.K.Origin.left (g.F.Files.left c.into_lent.result.files.now))
    c.gather_beside.result (fault_read p is_read _ _ _ _ _ (start_is g c) (final_is g c) (closed_now g c) (stay g c) beside) c.gather_beside.ensures.fault

pub returns-clause-fronts : goal.returns-clause-fronts
returns-clause-fronts g c =
    fronts_read c.args.p.now (reads c.args.is_read.now) _ _ _ _ _ (start_is g c) (final_is g c) (closed_now g c) (stay g c) c.gather_beside.ensures.fronts

pub returns-clause-others : goal.returns-clause-others
returns-clause-others g c =
    others_read c.args.p.now (reads c.args.is_read.now) _ _ _ _ _ (start_is g c) (final_is g c) (closed_now g c) (stay g c) c.gather_beside.ensures.others

pub returns-clause-counts : goal.returns-clause-counts
returns-clause-counts g c =
    let left = g.F.Files.left in
    let faults = g.F.Files.faults in
    let made = c.new-selected.result in
    let ended = c.gather_beside.new.files in
    let back = c.into_lent.result.files.now in
    let at_start : List ℕ → ℕ = counts_beside (left made.files.now) (lines_in made.closed) (faults made.files.now) in
    let at_end : List ℕ → ℕ = counts_beside (left ended.files.now) (lines_in ended.closed) (faults ended.files.now) in
    counts_read c.args.p.now (reads c.args.is_read.now) _ _ _ _ _ (start_is g c) (final_is g c) (closed_now g c) (stay g c) at_start at_end g.K.Origin.faults
    (faults back) c.gather_beside.ensures.counts
    (λ n unclosed. counts_open (left made.files.now) (lines_in made.closed) (faults made.files.now) n
    (made.same_names n ∙ sym (c.requires.names n) ∙ unclosed) ∙ ap (λ files. faults files n) c.new-selected.ensures.files
    ∙ ap (λ counts. counts n) c.requires.faults)
    (λ n unclosed. counts_open (left ended.files.now) (lines_in ended.closed) (faults ended.files.now) n (closed_now g c n ∙ unclosed)
    ∙ ap (λ files. faults files n) (sym c.into_lent.ensures.now))
    (λ n. subst (λ files. g.K.Origin.faults n ≤ faults files n) (sym c.into_lent.ensures.now) (ended.rise n))
    (λ n closed there. ap (λ files. faults files n) c.into_lent.ensures.now ∙ ended.apart n (sym (c.requires.names n) ∙ closed) there)

-- the counts at the start and at the end
counts_start_is : (g : Over) (c : goal.After-into_lent g)
    → counts_beside (g.F.Files.left c.new-selected.result.files.now) (lines_in c.new-selected.result.closed) (g.F.Files.faults c.new-selected.result.files.now)
    ≡ counts_beside g.K.Origin.left (whole_lines (closed_files c.args.p.now (reads c.args.is_read.now))) g.K.Origin.faults
counts_start_is g c =
    let made = c.new-selected.result in
    ap (λ files. counts_beside (g.F.Files.left files) (lines_in made.closed) (g.F.Files.faults files)) c.new-selected.ensures.files
    ∙ ap (λ left. counts_beside left (lines_in made.closed) (g.F.Files.faults c.args.lent.files.now)) c.requires.left
    ∙ ap (λ closed. counts_beside g.K.Origin.left (lines_in closed) (g.F.Files.faults c.args.lent.files.now)) c.new-selected.ensures.closed
    ∙ ap (λ lines. counts_beside g.K.Origin.left lines (g.F.Files.faults c.args.lent.files.now)) c.requires.lines
    ∙ ap (λ counts. counts_beside g.K.Origin.left (whole_lines (closed_files c.args.p.now (reads c.args.is_read.now))) counts) c.requires.faults

counts_final_is : (g : Over) (c : goal.After-into_lent g)
    → counts_beside (g.F.Files.left c.gather_beside.new.files.files.now) (lines_in c.gather_beside.new.files.closed) (g.F.Files.faults c.gather_beside.new.files.files.now)
    ≡ counts_beside (g.F.Files.left c.into_lent.result.files.now) (lines_in c.gather_beside.new.files.closed) (g.F.Files.faults c.into_lent.result.files.now)
counts_final_is g c =
    ap (λ files. counts_beside (g.F.Files.left files) (lines_in c.gather_beside.new.files.closed) (g.F.Files.faults files)) (sym c.into_lent.ensures.now)

pub returns-clause-hides : goal.returns-clause-hides
returns-clause-hides g c = λ is_fault.
    let p = c.args.p.now in
    record {
      now = lines_in c.gather_beside.new.files.closed;
      names = closed_now g c;
      hides = hides_along p _ _ _ _ _ _ _ _ (start_is g c) (final_is g c) (counts_start_is g c) (counts_final_is g c) (c.gather_beside.ensures.hides is_fault);
    }
