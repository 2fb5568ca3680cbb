-- A round that has begun, and what is known once it was run while the next round was read.
use Rattle.std.proofs.Common.{◌≡◌, ◌≢◌, refl, sym, ap, ◌∙◌, subst, ℕ, Bool, ◌≤◌, ◌<◌, ◌-◌, ◌^◌, List, [], ◌∷◌, ◌++◌, Option, Some, None, Result, Ok, Err, inl, inr, ◌⊎◌}
use Rattle.std.proofs.Common.{arith}
use Rattle.std.specs.Prelude.{true, nat_lt, length, IsTrue, IfOk, OnOk, IfErr}
use Rattle.std.specs.List.Sorted.{IsPermutation}
use Rattle.std.proofs.lemmas.Bool.Decides.{nat_tests}
use Rattle.flu_lemmas.proofs.Named.{fronts_then}
use Rattle.flu_lemmas.proofs.Told.{told_same, told_then}
use Rattle.flu_outside.specs.Outside.{WhereTold, Contents as Files, Rose, SameCounts, SameLeft}
use Rattle.flu_outside.specs.Taking.{TookFronts}
use Rattle.flu_outside.specs.Writing.{AppendsPart}
use Rattle.flu_adaptive.specs.Notes.{AdaptiveNote}
use Rattle.flu_cells.specs.declared.state.State.{State}
use Rattle.flu_cells.specs.Holding.{held}
use Rattle.flu_deps.specs.Checking.{program_of}
use Rattle.flu_model.specs.declared.events.Item.{Item}
use Rattle.flu_model.specs.declared.events.Out.{Out}
use Rattle.flu_model.specs.declared.jobs.Program.{Program}
use Rattle.flu_model.specs.Folding.{final_state, final_outputs}
use Rattle.flu_model.specs.Itags.{count_of_itags}
use Rattle.flu_model.specs.Listed.{listed}
use Rattle.flu_model.specs.Sorts.{IsStateOf}
use Rattle.flu_rows.specs.declared.rows.Next.{Next}
use Rattle.flu_streams.specs.declared.border.Border.{Border}
use Rattle.flu_streams.specs.declared.border.Border.TheVariants.{At, Closed}
use Rattle.flu_streams.specs.Counts.{grown}
use Rattle.flu_streams.specs.Files.{files_of, LeavesOthers}
use Rattle.flu_streams.specs.Holding.{Holding, AreHeldBehind, AreInAll, AreClosed, ClosedAreReadOut, Cuts, Fills, HidesNoRoundFault, IsNewBorder, KeepsJob, border_after}
use Rattle.flu_streams.specs.Rounds.{ComesFrom, GoesOn as OneMore, IsRound, lists_between}
use Rattle.flu_rounds.specs.declared.faults.RoundsFault.{RoundsFault}
use Rattle.flu_rounds.specs.declared.faults.RoundsFault.TheVariants.{ReadFault, WriteFault, NoMemory}
use Rattle.flu_rounds.specs.declared.rounds.Begun.{Begun}
use Rattle.flu_rounds.specs.Halves.{AppendsReport, AppendsPartOfReport, AreRun, Begins, LawOfHalf, LawOfParts}
use Rattle.flu_rounds.specs.Standing.{Standing, IsSourceFault, StandsBehind}
use Rattle.flu_rounds.specs.Written.{lines_in}
use Rattle.flu_save.specs.Checkpoint.{save}
use Rattle.flu_lines.specs.declared.products.Said.{Said}
use Rattle.flu_top.specs.declared.running.RunFault.TheVariants.{Round}
use Rattle.flu_top.specs.Ending.{Call, call}
use Rattle.flu_command.specs.Openings.{Opening}
use Rattle.flu_top.specs.ReadingAhead.{HasBegun, IsFilled, StepsAhead, rounds_left}
use Rattle.flu_top.specs.Running.{EndsRounds, GoesOn, IsSavedTo, IsWithin, PutsAt, SaysCounts, StaysWithin, Steps, border_at}
use Rattle.flu_command.specs.Starting.{IsNoSource}
use Rattle.flu_command.specs.Taking.{TookOnly}
use Rattle.flu_top.proofs.RunReports.{round_of_halves}
use Rattle.flu_top.proofs.Roundings.{Laws, IsRun, IsHalted, ends_halted, failed_behind, goes_on, ran_some, steps_on, stays}

-- ---- names, takes and counts
pub no_name : (p : Program) → IsNoSource None p
no_name p name e = absurd (cc)

-- what a round takes is so whatever is in out
within_as : (old : Standing) (b d : Option Files) (l m t u : List ℕ → ℕ) (had mid has now : Option (List ℕ)) (x y z w : ℕ)
    → IsWithin old (call b d l m t u had mid x y) → IsWithin old (call b d l m t u has now z w)
within_as old b d l m t u had mid has now x y z w i = record { fronts = i.fronts; others = i.others; rise = i.rise; puts = i.puts }

-- where nothing is taken
pub within_none : (old : Standing) (b : Option Files) (m u : List ℕ → ℕ) → IsWithin old (call b b m m u u None None 0 0)
within_none old b m u = record {
  fronts = told_same TookFronts b (λ left name rest e. ([], e));
  others = told_same (LeavesOthers (files_of old.held.program.sources)) b (λ left other not_in. refl);
  rise = λ n. omega arith;
  puts = λ n. refl;
}

rises_then : (x y z : ℕ) → x ≤ y → y ≤ z → x ≤ z
rises_then x y z first second = omega arith

-- what two rounds take after one another
within_then : (old : Standing) (next : Standing) (b d e : Option Files) (l m n t u w : List ℕ → ℕ) (had mid has now : Option (List ℕ)) (x y z v : ℕ)
    → next.held.program ≡ old.held.program → IsWithin old (call b d l m t u had mid x y) → IsWithin next (call d e m n u w has now z v)
    → IsWithin old (call b e l n t w had had x x)
within_then old next b d e l m n t u w had mid has now x y z v job i j = record {
  fronts = fronts_then b d e i.fronts j.fronts;
  others = told_then (LeavesOthers (files_of old.held.program.sources)) (LeavesOthers (files_of old.held.program.sources))
      (LeavesOthers (files_of old.held.program.sources)) b d e (λ f g h first second other not_in. second other not_in ∙ first other not_in) i.others
      (subst (λ (q : Program). WhereTold d e (LeavesOthers (files_of q.sources))) job j.others);
  rise = λ name. rises_then (l name) (m name) (n name) (i.rise name) (j.rise name);
  puts = λ name. j.puts name ∙ i.puts name;
}

-- a border after this one leaves fewer
pub fewer_left : (above : Option ℕ) (t : ℕ) (before next : Border) → before ≡ At t → above ≡ Some t → t < 2 ^ 63 → IsNewBorder above next
    → rounds_left next < rounds_left before
fewer_left above t before (At u) is at small new =
    let e : rounds_left before ≡ 2 ^ 63 - t = ap rounds_left is in
    let later : t < u = later_than t u (subst (λ (b : Option ℕ). IsNewBorder b (At u)) at new).0 in
    omega (arith, e, later, new.1)
  where
    later_than : (b u : ℕ) → nat_lt b u ≡ true → b < u
    later_than b u e = grind (arith, nat_tests)
fewer_left above t before Closed is at small new =
    let e : rounds_left before ≡ 2 ^ 63 - t = ap rounds_left is in
    omega (arith, e, small)

-- what running the rows of a round gave
pub record IsDone (note note' : AdaptiveNote) (begun : Begun) (state : State) (outs : List Out) : Type 0 where
  pub folded : held state ≡ final_state (program_of note.checked) (held begun.opening) (listed begun.rows)
  pub outputs : IsPermutation (final_outputs (program_of note.checked) (held begun.opening) (listed begun.rows)) outs
  pub counts : IsTrue note.adapts → note'.counts ≡ grown note.counts (listed begun.rows)
  pub engine : note'.checked ≡ note.checked
  pub adapting : note'.adapts ≡ note.adapts

-- what is said of a result that is known
pub ok_of : {T E : Type 0} (P : T → Type 0) (r : Result T E) (x : T) → r ≡ Ok x → IfOk r P → P x
ok_of P r x is h = subst (λ y. IfOk y P) is h

pub on_ok_of : {T E : Type 0} (P : Type 0) (r : Result T E) (x : T) → r ≡ Ok x → OnOk r P → P
on_ok_of P r x is h = subst (λ y. OnOk y P) is h

pub err_of : {T E : Type 0} (P : E → Type 0) (r : Result T E) (x : E) → r ≡ Err x → IfErr r P → P x
err_of P r x is h = subst (λ y. IfErr y P) is h

pub filled_of : (old new : Standing) (c : Call) (r : Result Border RoundsFault) (end : Border) → r ≡ Ok end → IsFilled old new c r → IsFilled old new c (Ok end)
filled_of old new c r end is h = subst (IsFilled old new c) is h

-- ---- a round that has begun, in a run from a start `a`, over files that are `b` by now
module _ (adapts : Bool) (p : Program) (note : AdaptiveNote) (o : Opening) (a b : Option Files) (k m s u : List ℕ → ℕ) (had mid : Option (List ℕ)) (x y : ℕ)
    (now : Standing) (begun : Begun) (has : HasBegun adapts p note o (call a b k m s u had mid x y) now begun) where
  -- its job is the engine's
  pub its_job : program_of note.checked ≡ has.old.held.program
  its_job = has.goes.engine ∙ sym has.goes.came.program

  -- ---- it was run, and its report was written: before the next round was read, as far as the files show
  module _ (note' : AdaptiveNote) (state : State) (outs : List Out) (ran : IsDone note note' begun state outs) (behind : State)
      (is : held behind ≡ held state) (fin : Option (List ℕ)) (z : ℕ)
      (wrote : AppendsReport (program_of note.checked) outs mid fin) (quiet : z ≡ y) where
    -- the standing after it
    abbrev pub after : Standing
    after = record { held = now.held; state = behind }

    is_run : (said : Option Said) → (begun.border ≡ Closed → SaysCounts note'.adapts (program_of note'.checked) note'.counts said)
        → IsRun note note' has.old after said (call has.left b has.counts m has.puts u mid fin y z) begun.border
    is_run said says = record {
      written = λ before held_behind.
          let round = round_of_halves (program_of note.checked) has.old after has.left b begun.border begun.opening state (listed begun.rows) outs mid fin
          its_job has.begins (record { state' = ran.folded; outs' = ran.outputs }) is wrote before held_behind in
          (round.0, round.1, λ follows. ran.counts follows ∙ ap (grown note.counts) round.2);
      says = says;
      engine = ran.engine;
      adapting = ran.adapting;
      stands = record { program = has.stands.program; rows = has.stands.rows; border = has.stands.border; stage = has.stands.stage };
      read_out = has.read_out;
      quiet = quiet;
    }

    -- the next standing, if it is not the last one
    pub goes_ahead : Laws o → (t : ℕ) → begun.border ≡ At t → GoesOn adapts p note' o None (call a b k m s u had fin x z) after
    goes_ahead laws t at =
        goes_on adapts p note o None a has.left b k has.counts m s has.puts u had mid fin x y z has.old has.goes (no_name p)
        (within_as has.old has.left b has.counts m has.puts u mid mid mid fin y y y z has.within) b m u note' after None begun.border
        (is_run None (λ closed. absurd (not_both_ends t closed)))
        (told_same (TookOnly (IsSavedTo None)) b (λ left name other. refl)) (λ n. refl) (program_of note'.checked) behind refl refl
        (told_same (PutsAt None (save (program_of note'.checked) (border_at begun.border) (held behind))) b (λ left name. refl)) (λ n. refl)
        laws t at
      where
        not_both_ends : (t : ℕ) → begun.border ≡ Closed → ⊥
        not_both_ends t closed = let e = sym at ∙ closed in cc

    -- the end, if it is
    pub ends_ahead : Laws o → begun.border ≡ Closed → (said : Option Said) → SaysCounts note'.adapts (program_of note'.checked) note'.counts said
        → EndsRounds adapts p o None (call a b k m s u had fin x z) (Ok said) × StaysWithin p None (call a b k m s u had fin x z)
    ends_ahead laws closed said says =
        subst (λ (e : Border). Steps adapts p note' o None (call a b k m s u had fin x z) after said (Ok e)) closed
        (steps_on adapts p note o None a has.left b k has.counts m s has.puts u had mid fin x y z has.old has.goes (no_name p)
        (within_as has.old has.left b has.counts m has.puts u mid mid mid fin y y y z has.within) b m u note' after said begun.border
        (is_run said (λ at. says))
        (told_same (TookOnly (IsSavedTo None)) b (λ left name other. refl)) (λ n. refl) (program_of note'.checked) behind refl refl
        (told_same (PutsAt None (save (program_of note'.checked) (border_at begun.border) (held behind))) b (λ left name. refl)) (λ n. refl)
        laws has.closed)

    -- the next round was not filled, or it was not handed out
    pub not_next : Laws o → (t : ℕ) → begun.border ≡ At t → (d : Option Files) (n w : List ℕ → ℕ) → IsWithin now (call b d m n u w None None 0 0)
        → (f : RoundsFault) → IsSourceFault now.held b d f → f ≢ WriteFault
        → (f ≡ ReadFault → (before : ℕ → List Next) → AreHeldBehind now.held before → HidesNoRoundFault now.held b d m n before)
        → EndsRounds adapts p o None (call a d k n s w had fin x z) (Err (Round f)) × StaysWithin p None (call a d k n s w had fin x z)
    not_next laws t at d n w read f fault other hides =
        ends_halted adapts p note' o None a b d k m n s u w had fin fin x z z after (goes_ahead laws t at) (no_name p)
        (record { fronts = read.fronts; others = read.others; rise = read.rise; puts = read.puts }) laws f (record {
          fault = fault;
          nothing = λ unwritten. refl;
          part = λ is. absurd (other is);
          failed = λ is. absurd (other is);
          hides = hides;
        })

    -- it was filled, and handed out: it has begun
    pub next_begun : Laws o → LawOfParts → (t : ℕ) → begun.border ≡ At t → (d : Option Files) (n w : List ℕ → ℕ) (filled new : Standing) (mid' : Holding)
        (end : Border) (next : Begun) → IsFilled now filled (call b d m n u w None None 0 0) (Ok end) → mid' ≡ filled.held → (q : Program)
        → now.held.program ≡ q → q ≡ p → next.border ≡ end → held next.opening ≡ held behind
        → ((lines : ℕ → List Next) → AreHeldBehind mid' lines → listed next.rows ≡ lists_between q mid'.border end lines) → Cuts mid' new.held end
        → length (listed next.rows) ≡ count_of_itags q → IsStateOf q.families (held next.opening)
        → HasBegun adapts p note' o (call a d k n s w had fin x z) new next × (rounds_left next.border < rounds_left begun.border)
    next_begun laws parts t at d n w filled new mid' end next read same q job its last opening lists cuts itags sorts =
        let keeps = subst (KeepsJob now.held) (sym same) read.same in
        let fills = subst (λ (h : Holding). (before : ℕ → List Next) → AreHeldBehind now.held before → Fills now.held h b d end before) (sym same)
        read.filled in
        let both = parts q after mid' new.held b d end next.opening (listed next.rows) job opening keeps fills cuts lists in (
          record {
            old = after;
            left = b;
            counts = m;
            puts = u;
            goes = goes_ahead laws t at;
            begins = subst (λ (e : Border). Begins after new.held b d e next.opening (listed next.rows)) (sym last) both.0;
            border = subst (IsNewBorder now.held.border) (sym last) read.border;
            stands = subst (StandsBehind now.held new.held) (sym last) both.1;
            read_out = λ out. cuts.ended d (subst (λ (h : Holding). ClosedAreReadOut h d) (sym same) (read.read_out out));
            closed = λ is. cuts.closed (subst AreClosed (sym same) (read.closed (ap Ok (sym last ∙ is))));
            within = record { fronts = read.within.fronts; others = read.within.others; rise = read.within.rise; puts = read.within.puts };
            itags = itags ∙ ap count_of_itags its;
            sorts = subst (λ (r : Program). IsStateOf r.families (held next.opening)) its sorts;
          },
          fewer_left now.held.border t begun.border next.border at (has.stands.border ∙ ap (λ e. border_after e has.old.held.border) at)
              (subst (IsNewBorder has.old.held.border) at has.border).1 (subst (IsNewBorder now.held.border) (sym last) read.border),
        )

  -- ---- the files have gone on to `d`, as the next round was read, or not
  module _ (laws : Laws o) (d : Option Files) (n w : List ℕ → ℕ) (next : Standing) (at_hand : next.held.program ≡ has.old.held.program)
      (read : IsWithin next (call b d m n u w None None 0 0)) where
    both_within : IsWithin has.old (call has.left d has.counts n has.puts w mid mid y y)
    both_within = within_then has.old next has.left b d has.counts m n has.puts u w mid mid None None y y 0 0 at_hand has.within read

    -- it was not run, for lack of memory
    pub not_run : EndsRounds adapts p o None (call a d k n s w had mid x y) (Err (Round NoMemory)) × StaysWithin p None (call a d k n s w had mid x y)
    not_run = (
      ran_some adapts p note o None a has.left d k has.counts n s has.puts w had mid mid x y y has.old has.goes (no_name p) both_within laws refl,
      stays adapts p note o None a has.left d k has.counts n s has.puts w had mid mid x y y has.old has.goes (no_name p) both_within,
    )

    -- the file of a source failed as the next round was read: this one was read, whether it was run or not
    pub not_read : (t : ℕ) → begun.border ≡ At t
        → ((before : ℕ → List Next) → AreHeldBehind now.held before → HidesNoRoundFault now.held b d m n before)
        → EndsRounds adapts p o None (call a d k n s w had mid x y) (Err (Round ReadFault)) × StaysWithin p None (call a d k n s w had mid x y)
    not_read t at hides =
        let go = has.goes in
        let fills = (has.begins.filled go.came.before go.came.behind).0 in
        let lists = lists_between p has.old.held.border (At t) fills.now in (
          (
            failed_behind p o a b d k m n s w had mid x y now.held (go.came.done ++ lists ∷ []) fills.now (has.stands.program ∙ go.came.program)
                (has.stands.rows ∙ go.came.number)
                (told_then (λ was is. ComesFrom p o.rows (lines_in p was) o.border go.came.done has.old.held.border go.came.before
                × AreInAll has.old.held go.came.before is (lines_in p was))
                (λ was is. (whole : ℕ → List Next) → AreInAll has.old.held go.came.before was whole
                → IsRound has.old.held.program has.old.held.rows has.old.held.border whole go.came.before fills.now begun.border
                × AreInAll now.held fills.now is whole)
                (λ was is. ComesFrom p o.rows (lines_in p was) o.border (go.came.done ++ lists ∷ []) now.held.border fills.now
                × AreInAll now.held fills.now is (lines_in p was)) a has.left b
                (λ was after is came filled.
                let f = filled (lines_in p was) came.1 in
                let round = same_round p has.old.held.program o.rows has.old.held.rows has.old.held.border (lines_in p was) go.came.before fills.now
                begun.border go.came.program go.came.number f.0 in (
                  subst (λ (above : Option ℕ). ComesFrom p o.rows (lines_in p was) o.border (go.came.done ++ lists ∷ []) above fills.now)
                      (sym (has.stands.border ∙ ap (λ e. border_after e has.old.held.border) at))
                      (OneMore go.came.done has.old.held.border go.came.before fills.now t came.0
                      (subst (λ (e : Border). IsRound p o.rows has.old.held.border (lines_in p was) go.came.before fills.now e) at round)),
                  f.1,
                )) go.came.told fills.round)
                (λ name. rises_then (k name) (has.counts name) (m name) (go.within.rise name) (has.within.rise name))
                (hides fills.now fills.behind),
            not_run.0,
          ),
          not_run.1,
        )
      where
        same_round : (p q : Program) (rows n : ℕ) (above : Option ℕ) (whole before now : ℕ → List Next) (end : Border)
            → q ≡ p → n ≡ rows → IsRound q n above whole before now end → IsRound p rows above whole before now end
        same_round p q rows n above whole before now end job number round =
            subst (λ (m : ℕ). IsRound p m above whole before now end) number (subst (λ (r : Program). IsRound r n above whole before now end) job round)

    -- it was run, and its report was not written, or not all of it
    pub not_written : LawOfHalf → (note' : AdaptiveNote) (state : State) (outs : List Out) → IsDone note note' begun state outs
        → (fin : Option (List ℕ)) (z : ℕ) (f : RoundsFault) → (f ≡ WriteFault) ⊎ (f ≡ NoMemory) → (f ≢ WriteFault → fin ≡ mid)
        → (f ≡ WriteFault → AppendsPartOfReport (program_of note.checked) outs mid fin) → (f ≡ WriteFault → Rose y z)
        → EndsRounds adapts p o None (call a d k n s w had fin x z) (Err (Round f)) × StaysWithin p None (call a d k n s w had fin x z)
    not_written half note' state outs ran fin z f why nothing part failed =
        ends_halted adapts p note o None a has.left d k has.counts n s has.puts w had mid fin x y z has.old has.goes (no_name p)
        (within_as has.old has.left d has.counts n has.puts w mid mid mid fin y y y z both_within) laws f (record {
          fault = no_defect f why;
          nothing = nothing;
          part = λ is before behind.
              let r = half (program_of note.checked) has.old now.held has.left b begun.border begun.opening state (listed begun.rows) outs mid fin its_job
              has.begins (record { state' = ran.folded; outs' = ran.outputs }) (part is) before behind in (
                r.0,
                r.1,
                record {
                  round = told_then
                      (λ was is. (whole : ℕ → List Next) → AreInAll has.old.held before was whole
                      → IsRound has.old.held.program has.old.held.rows has.old.held.border whole before r.1 r.0)
                      TookFronts
                      (λ was is. (whole : ℕ → List Next) → AreInAll has.old.held before was whole
                      → IsRound has.old.held.program has.old.held.rows has.old.held.border whole before r.1 r.0) has.left b d
                      (λ f g h first fronts. first) r.2.round read.fronts;
                },
                r.3,
              );
          failed = failed;
          hides = λ is. absurd (not_read_fault f why is);
        })
      where
        no_defect : (f : RoundsFault) → (f ≡ WriteFault) ⊎ (f ≡ NoMemory) → IsSourceFault has.old.held has.left d f
        no_defect f (inl is) = subst (IsSourceFault has.old.held has.left d) (sym is) tt
        no_defect f (inr is) = subst (IsSourceFault has.old.held has.left d) (sym is) tt

        not_read_fault : (f : RoundsFault) → (f ≡ WriteFault) ⊎ (f ≡ NoMemory) → f ≡ ReadFault → ⊥
        not_read_fault f (inl other) is = let e = sym other ∙ is in cc
        not_read_fault f (inr other) is = let e = sym other ∙ is in cc
