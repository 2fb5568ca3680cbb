-- The rounds of a job's sources, one after another, what is put behind each, what is counted of them, and how they end.
use Rattle.std.proofs.Common.{◌≡◌, ◌≢◌, refl, sym, ap, ◌∙◌, subst, ℕ, Bool, ◌-◌, ◌^◌, ◌<◌, ◌≤◌, List, [], ◌∷◌, ◌++◌, Option, Some, None, Result, Ok, Err, inl}
use Rattle.std.proofs.Common.{inr, ◌⊎◌, append_assoc, arith}
use Rattle.std.specs.Prelude.{true, false, nat_lt, slice_get, take, unwrap_or, Contains, option_map, IsTrue}
use Rattle.std.specs.Result.{IsErrAnd, result_err}
use Rattle.std.proofs.lemmas.Bool.Decides.{nat_tests}
use Rattle.std.proofs.lemmas.List.{append-nil}
use Rattle.flu_lemmas.specs.Elements.{AtEach}
use Rattle.flu_lemmas.proofs.Named.{rose_behind}
use Rattle.flu_lemmas.proofs.Told.{told_both, told_same, told_then, told_weaker}
use Rattle.flu_outside.specs.declared.files.PutFault.{PutFault}
use Rattle.flu_outside.specs.declared.files.PutFault.TheVariants.{Failed, NoMemory as NoMemoryToPut}
use Rattle.flu_outside.specs.Outside.{WhereTold, Contents as Files, Rose, SameLeft, SameCounts}
use Rattle.flu_outside.specs.Taking.{TookFronts}
use Rattle.flu_outside.specs.Writing.{AppendsAll, AppendsPart}
use Rattle.flu_adaptive.specs.Notes.{AdaptiveNote}
use Rattle.flu_cells.specs.declared.state.State.{State}
use Rattle.flu_cells.specs.Holding.{held}
use Rattle.flu_deps.specs.Checking.{program_of}
use Rattle.flu_model.specs.declared.events.Item.{Item}
use Rattle.flu_model.specs.declared.jobs.Program.{Program}
use Rattle.flu_model.specs.Moments.{timing_of}
use Rattle.flu_model.specs.Contents.{Contents}
use Rattle.flu_model.specs.Erasure.{job_of}
use Rattle.flu_rows.specs.Row.{form_of}
use Rattle.flu_rows.specs.declared.rows.Next.{Next}
use Rattle.flu_streams.specs.declared.border.Border.{Border}
use Rattle.flu_streams.specs.declared.border.Border.TheVariants.{At, Closed}
use Rattle.flu_streams.specs.declared.faults.SourceFault.{SourceFault}
use Rattle.flu_streams.specs.Counts.{grown, grown_in_turn, no_counts, OneMoreInTurn}
use Rattle.flu_streams.specs.Files.{files_of, LeavesOthers, AreReadOut}
use Rattle.flu_streams.specs.Holding.{Holding, AreHeldBehind, AreInAll, ClosedAreReadOut, AreClosed, IsNewBorder, HidesNoRoundFault}
use Rattle.flu_streams.specs.Rounds.{ComesFrom, IsRound, IsRoundFault, IsPassed, LawOfNoRows, Reads, Starts, Turn, defect_in, is_enough, lists_between}
use Rattle.flu_rounds.specs.declared.faults.RoundsFault.{RoundsFault}
use Rattle.flu_rounds.specs.declared.faults.RoundsFault.TheVariants.{Source as SourceDefect, ReadFault, WriteFault, NoMemory}
use Rattle.flu_rounds.specs.Coming.{HasRunFrom, IsStateUpTo, LawOfBeginningFrom, LawOfGoingOnFrom, LawOfLastFrom, LawOfDefectFrom, LawOfTextAndState}
use Rattle.flu_rounds.specs.Coming.{LawOfNextTextAndState, LawOfDefectAndState, LawOfOtherNames}
use Rattle.flu_rounds.specs.Counting.{LawOfLastCounts}
use Rattle.flu_rounds.specs.Written.{RanFrom, WouldWriteFrom, lines_in, text_up_from}
use Rattle.flu_rounds.specs.Standing.{Standing, IsFirstFrom, Runs, IsRoundOf, IsSourceFault, StandsBehind, round_lists, round_report}
use Rattle.flu_save.specs.Checkpoint.{save}
use Rattle.flu_lines.specs.declared.products.Said.{Said}
use Rattle.flu_top.specs.declared.running.RunFault.{RunFault}
use Rattle.flu_top.specs.declared.running.RunFault.TheVariants.{Round, Unsaved}
use Rattle.flu_command.specs.Done.{AppendsInto}
use Rattle.flu_top.specs.Ending.{Call, call}
use Rattle.flu_command.specs.Openings.{Opening}
use Rattle.flu_lines.specs.Products.{line_said}
use Rattle.flu_command.specs.Reading.{HaveWritten, MeetsDefect, ReportsNext, put_by, greatest_border}
use Rattle.flu_top.specs.Running.{GoesOn, StaysWithin, IsAllRun, HasFailed, RanAll, RanToDefect, RanSome, RanInto, RanUnsaved, EndsRounds, Steps, PutsAt}
use Rattle.flu_top.specs.Running.{PutFailed, IsSavedTo, border_at, borders_above, put_behind, IsPlanSaid, IsWithin, SaysCounts, SaysPlan, all_lists}
use Rattle.flu_command.specs.Starting.{IsNoSource, LeavesPut, LeavesAnything}
use Rattle.flu_command.specs.Taking.{TookOnly, TookFrontsBut}

-- ---- each border is later than the one before it
pub borders_fall : (above : Option ℕ) (t : ℕ) (next : Option ℕ) → IsNewBorder above (At t) → next ≡ Some t → borders_above next < borders_above above
borders_fall None t next new is = let e : borders_above next ≡ 2 ^ 63 - t = ap borders_above is in omega (arith, e)
borders_fall (Some b) t next new is =
    let e : borders_above next ≡ 2 ^ 63 - t = ap borders_above is in
    let later : b < t = later_than b t new.0 in
    omega (arith, e, later, new.1)
  where
    later_than : (b t : ℕ) → nat_lt b t ≡ true → b < t
    later_than b t e = grind (arith, nat_tests)

-- ---- names
fronts_join : (P : List ℕ → Type 0) (x y z : Files) → TookFrontsBut P x y → TookFrontsBut P y z → TookFrontsBut P x z
fronts_join P x y z f g name rest other left =
    let second = g name rest other left in
    let first = f name (second.0 ++ rest) other second.1 in
    (first.0 ++ second.0, first.1 ∙ ap Some (sym (append_assoc first.0 second.0 rest)))

-- what stays as it was but for one sort of names
fronts_of_only : (P : List ℕ → Type 0) (x y : Files) → TookOnly P x y → TookFrontsBut P x y
fronts_of_only P x y only name rest other left = ([], sym (only name other) ∙ left)

-- ---- what was put
-- by the rounds that were run, and the state behind them, it is the checkpoint of their border
put_is : (p : Program) (o : Opening) (done ran : List (List (List Item))) (border : Option ℕ) (before : ℕ → List Next) (s : Contents)
    → ran ≡ done → IsStateUpTo p o.border o.cells border before s → put_behind p done border s ≡ put_by p o ran border before
put_is p o [] [] border before s same state = refl
put_is p o [] (round ∷ rounds) border before s same state = absurd (cc)
put_is p o (round ∷ rounds) [] border before s same state = absurd (cc)
put_is p o (round ∷ rounds) (round' ∷ rounds') None before s same state = refl
put_is p o (round ∷ rounds) (round' ∷ rounds') (Some t) before s same state = ap (λ cells. Some (save p t cells)) (state t refl)

-- behind a round more something was put
put_more : (p : Program) (done now : List (List (List Item))) (lists : List (List Item)) (border : Option ℕ) (t : ℕ) (s : Contents)
    → now ≡ done ++ lists ∷ [] → border ≡ Some t → put_behind p now border s ≡ Some (save p t s)
put_more p done [] lists border t s is at = absurd (not_empty done is)
  where
    not_empty : (rounds : List (List (List Item))) → [] ≡ rounds ++ lists ∷ [] → ⊥
    not_empty [] e = cc
    not_empty (r ∷ rs) e = cc
put_more p done (round ∷ rounds) lists border t s is at = ap (λ above. put_behind p (round ∷ rounds) above s) at

-- what was put stays while the name does
keeps_put : (named put : Option (List ℕ)) (x y z : Files) → LeavesPut named [] put x y → ((name : List ℕ) → IsSavedTo named name → z name ≡ y name)
    → LeavesPut named [] put x z
keeps_put None put x y z leaves same = tt
keeps_put (Some name) None x y z leaves same = record {
  end = λ rest is. leaves.end rest (sym (same name refl) ∙ is);
  unread = λ missing. same name refl ∙ leaves.unread missing;
}
keeps_put (Some name) (Some bytes) x y z leaves same = same name refl ∙ leaves

-- a round leaves a name that is no source's file
round_keeps : (p : Program) (named put : Option (List ℕ)) (x y z : Files) → IsNoSource named p → LeavesPut named [] put x y
    → LeavesOthers (files_of p.sources) y z → LeavesPut named [] put x z
round_keeps p named put x y z apart leaves others = keeps_put named put x y z leaves (λ name saved. others name (apart name saved))

-- a put leaves what it puts
put_leaves : (named put : Option (List ℕ)) (bytes : List ℕ) (x y z : Files) → put ≡ Some bytes → PutsAt named bytes y z → LeavesPut named [] put x z
put_leaves None put bytes x y z is puts = tt
put_leaves (Some name) None bytes x y z is puts = absurd (cc)
put_leaves (Some name) (Some other) bytes x y z is puts = puts.here ∙ sym is

-- and the sources' files
put_keeps_sources : (p : Program) (named : Option (List ℕ)) (y z : Files) → IsNoSource named p → TookOnly (IsSavedTo named) y z → (name : List ℕ)
    → Contains (files_of p.sources) name → z name ≡ y name
put_keeps_sources p named y z apart only name found = only name (λ saved. apart name saved found)

-- ---- what is said
-- this was said of counts that are those of all events, where that is told
plan_told : (adapts : Bool) (p : Program) (o : Opening) (counts line : List ℕ) (P Q : Files → Files → Type 0) (a d e : Option Files) → WhereTold a e P
    → WhereTold d e Q
    → (IsTrue adapts → WhereTold a d (λ was is. counts ≡ grown (no_counts p) (all_lists p o was))) → IsPlanSaid adapts p counts line
    → WhereTold a e (λ left now. IsPlanSaid adapts p (grown (no_counts p) (all_lists p o left)) line)
plan_told false p o counts line P Q a d e all later counted is = told_weaker P
    (λ left now. IsPlanSaid false p (grown (no_counts p) (all_lists p o left)) line) a e (λ v f known. is) all
plan_told true p o counts line P Q a d e all later counted is =
    told_then (λ was is. counts ≡ grown (no_counts p) (all_lists p o was)) Q
    (λ left now. IsPlanSaid true p (grown (no_counts p) (all_lists p o left)) line) a d e
    (λ v r f same known. subst (λ (ns : List ℕ). IsPlanSaid true p ns line) same is) (counted refl) later

-- what is said of the counts of an engine is said of those of its job
says_of_job : (adapts adapts' : Bool) (p q : Program) (counts : List ℕ) (said : Option Said) → adapts' ≡ adapts → q ≡ p → SaysCounts adapts' q counts said
    → SaysCounts adapts p counts said
says_of_job adapts adapts' p q counts said same job says =
    subst (λ (r : Program). SaysCounts adapts r counts said) job (subst (λ (b : Bool). SaysCounts b q counts said) same says)

-- ---- the laws of what was written, of the state, and of what was counted
pub record Laws (o : Opening) : Type 0 where
  pub going : LawOfGoingOnFrom o.border o.cells
  pub state : LawOfTextAndState o.border o.cells
  pub next : LawOfNextTextAndState o.border o.cells
  pub last : LawOfLastFrom o.border o.cells
  pub defect : LawOfDefectFrom o.border o.cells
  pub defect_state : LawOfDefectAndState o.border o.cells
  pub others : LawOfOtherNames o.border o.cells
  pub one_more : OneMoreInTurn
  pub counts : LawOfLastCounts

-- ---- before the first round
stays_at_start : (p : Program) (named : Option (List ℕ)) (a : Option Files) (k s : List ℕ → ℕ) (had : Option (List ℕ)) (x : ℕ)
    → StaysWithin p named (call a a k k s s had had x x)
stays_at_start p named a k s had x = record {
  fronts = told_same (TookFrontsBut (IsSavedTo named)) a (λ left name rest other e. ([], e));
  others = told_same (TookOnly (λ name. Contains (files_of p.sources) name ⊎ IsSavedTo named name)) a (λ left name other. refl);
  rise = λ n. omega arith;
}

nothing_put : (named put : Option (List ℕ)) (left : Files) → put ≡ None → LeavesPut named [] put left left
nothing_put None put left none = tt
nothing_put (Some name) None left none = record { end = λ rest is. ([], is); unread = λ missing. refl }
nothing_put (Some name) (Some bytes) left none = absurd (cc)

pub rounds_start : (adapts : Bool) (p : Program) (note : AdaptiveNote) (o : Opening) (named : Option (List ℕ)) (a : Option Files) (k s : List ℕ → ℕ)
    (had : Option (List ℕ)) (x : ℕ) (now : Standing)
    → LawOfBeginningFrom o.border o.cells → program_of note.checked ≡ p → note.adapts ≡ adapts → note.counts ≡ no_counts p → 1 ≤ o.rows
    → IsFirstFrom p o.rows o.border o.cells now
    → GoesOn adapts p note o named (call a a k k s s had had x x) now
rounds_start adapts p note o named a k s had x now beginning engine adapting none some first =
    let begun = beginning p o.rows a now first in
    record {
      engine = engine;
      adapting = adapting;
      stage = ap (λ h. h.stage) first.held';
      some = some;
      written = [];
      came = begun.0;
      counted = λ follows. none ∙ sym (ap (grown_in_turn (no_counts p)) begun.1);
      wrote = told_same (AppendsAll []) had (λ bytes. sym (append-nil bytes));
      leaves = told_same (LeavesPut named [] (put_behind p begun.0.done now.held.border (held now.state))) a
          (λ left. nothing_put named (put_behind p begun.0.done now.held.border (held now.state)) left
          (ap (λ done. put_behind p done now.held.border (held now.state)) begun.1));
      within = stays_at_start p named a k s had x;
      quiet = refl;
      puts = λ n. refl;
    }

-- where memory is wanting before it
start_text : LawOfNoRows → (p : Program) (border : Option ℕ) (cells : Contents) → [] ≡ text_up_from p border cells border (λ i. [])
start_text none p None cells = refl
start_text none p (Some t) cells = (none p cells t (λ i. [])).reports

pub some_at_start : LawOfNoRows → (p : Program) (o : Opening) (named : Option (List ℕ)) (a : Option Files) (k s : List ℕ → ℕ) (had : Option (List ℕ)) (x : ℕ)
    → RanSome p o named (call a a k k s s had had x x) × StaysWithin p named (call a a k k s s had had x x)
some_at_start none p o named a k s had x = (
  record {
    text = [];
    wrote = told_same (AppendsAll []) had (λ bytes. sym (append-nil bytes));
    rounds = told_same (λ left now. (put : Option (List ℕ)) × HaveWritten p o (lines_in p left) [] put × LeavesPut named [] put left now) a (λ left. (
      None,
      record {
        border = o.border;
        ran = record {
          done = [];
          before = λ i. [];
          comes = Starts (λ i. []) (λ i. refl);
          text =
              start_text none p o.border o.cells;
        };
        saved = refl;
      },
      nothing_put named None left refl,
    ));
  },
  stays_at_start p named a k s had x,
)

-- ---- a round
-- a round was run, its report was written, and its events were counted, where the plan follows them
abbrev pub WritesRound : AdaptiveNote → AdaptiveNote → Standing → Standing → Option Files → Option Files → Option (List ℕ) → Option (List ℕ)
    → (ℕ → List Next) → Border → Type 0
WritesRound note note' old new left left' had has before end =
    (runs : Runs old new left left' end before) × WhereTold had has (AppendsAll (round_report old end runs.fills.now))
    × (IsTrue note.adapts → note'.counts ≡ grown note.counts (round_lists old end runs.fills.now))

-- what is known of a round that was run and written
pub record IsRun (note note' : AdaptiveNote) (old new : Standing) (said : Option Said) (c : Call) (end : Border) : Type 0 where
  pub written : (before : ℕ → List Next) → AreHeldBehind old.held before → WritesRound note note' old new c.left c.left_after c.taken c.taken_after before end
  pub says : end ≡ Closed → SaysCounts note'.adapts (program_of note'.checked) note'.counts said
  pub engine : note'.checked ≡ note.checked
  pub adapting : note'.adapts ≡ note.adapts
  pub stands : StandsBehind old.held new.held end
  pub read_out : ClosedAreReadOut old.held c.left → ClosedAreReadOut new.held c.left_after
  pub quiet : c.count_after ≡ c.count

-- what is known of a round that was refused
pub record IsHalted (old : Standing) (c : Call) (f : RoundsFault) : Type 0 where
  pub fault : IsSourceFault old.held c.left c.left_after f
  pub nothing : f ≢ WriteFault → c.taken_after ≡ c.taken
  pub part : f ≡ WriteFault → (before : ℕ → List Next) → AreHeldBehind old.held before
      → (end : Border) × (now : ℕ → List Next) × IsRoundOf old c.left c.left_after end before now
      × WhereTold c.taken c.taken_after (AppendsPart (round_report old end now))
  pub failed : f ≡ WriteFault → Rose c.count c.count_after
  pub hides : f ≡ ReadFault → (before : ℕ → List Next) → AreHeldBehind old.held before
      → HidesNoRoundFault old.held c.left c.left_after c.counts c.counts_after before

wrote_then : (text more : List ℕ) (a b d : Option (List ℕ)) → WhereTold a b (AppendsAll text) → WhereTold b d (AppendsAll more)
    → WhereTold a d (AppendsAll (text ++ more))
wrote_then text more a b d first second =
    told_then (AppendsAll text) (AppendsAll more) (AppendsAll (text ++ more)) a b d
    (λ x y z e f. f ∙ ap (λ bytes. bytes ++ more) e ∙ append_assoc x text more) first second

rises_on : (x y z : ℕ) → x ≤ y → y ≤ z → x ≤ z
rises_on x y z first second = omega arith

-- where it is told that a file was read, nothing is left of it
told_ends : (names : List (List ℕ)) (P : Files → Files → Type 0) (b d : Option Files) → WhereTold b d P → AreReadOut names d
    → WhereTold b d (λ y z. P y z × ((name : List ℕ) → Contains names name → z name ≡ Some []))
told_ends names P None None told ends = tt
told_ends names P None (Some z) told ends = told
told_ends names P (Some y) None told ends = told
told_ends names P (Some y) (Some z) told ends = (told, ends)

-- a source's file failed after these lines, which were read in some rounds, whether these were run or not
pub failed_behind : (p : Program) (o : Opening) (a b d : Option Files) (k l m s u : List ℕ → ℕ) (had has : Option (List ℕ)) (x z : ℕ) (old : Holding)
    (done : List (List (List Item))) (before : ℕ → List Next) → old.program ≡ p → old.rows ≡ o.rows
    → WhereTold a b (λ was is. ComesFrom p o.rows (lines_in p was) o.border done old.border before × AreInAll old before is (lines_in p was))
    → ((n : List ℕ) → k n ≤ l n) → HidesNoRoundFault old b d l m before → HasFailed p o (call a d k m s u had has x z)
failed_behind p o a b d k l m s u had has x z old done before job number told rise h = record {
  round = record {
    done = done;
    border = old.border;
    before = before;
    now = h.now;
    at = h.at;
    source = h.source;
    is = subst (λ (r : Program). slice_get r.sources h.at ≡ Some h.source) job h.is;
    has_file = h.has_file;
    more = h.more;
    further = h.further;
    sound = subst (λ (r : Program). defect_in (timing_of r h.at) r.kinds h.source (h.now h.at) ≡ None) job h.sound;
    few = λ n le. subst (λ (r : ℕ). is_enough (timing_of p h.at) r old.border h.source (before h.at ++ take n h.more) ≡ false) number
        (subst (λ (r : Program). is_enough (timing_of r h.at) old.rows old.border h.source (before h.at ++ take n h.more) ≡ false) job (h.few n le));
    place = h.place;
    form = h.form ∙ ap (λ (r : Program). form_of (job_of r)) job;
    file = h.file;
    undecided = h.undecided;
  };
  rose = rose_behind (k h.source.file) (l h.source.file) (m h.source.file) (rise h.source.file) h.rose;
  told = told_then _ _ _ a b d
      (λ was mid is came found.
      let both = found (lines_in p was) came.1 in
      record {
        rounds = came.0;
        earlier = subst (λ (r : Program). AtEach (λ i s'. i < h.at → (turn : Turn)
            × Reads (timing_of r i) r.kinds s' o.rows old.border (lines_in p was i) (before i) (h.now i) turn × IsPassed turn) r.sources)
            job
            (subst (λ (n : ℕ). AtEach (λ i s'. i < h.at → (turn : Turn)
            × Reads (timing_of old.program i) old.program.kinds s' n old.border (lines_in p was i) (before i) (h.now i) turn × IsPassed turn)
            old.program.sources) number both.0);
        was = both.1;
      }) told h.told;
}

-- a run from a start `a`, which has come to files `b`; a round takes it to files `d`
module _ (adapts : Bool) (p : Program) (note : AdaptiveNote) (o : Opening) (named : Option (List ℕ)) (a b d : Option Files) (k l m s t u : List ℕ → ℕ)
    (had mid has : Option (List ℕ)) (x y z : ℕ) (old : Standing)
    (go : GoesOn adapts p note o named (call a b k l s t had mid x y) old) (apart : IsNoSource named p)
    (within : IsWithin old (call b d l m t u mid has y z)) where
  -- the files of the job's sources alone changed
  others_of_job : WhereTold b d (LeavesOthers (files_of p.sources))
  others_of_job = subst (λ (r : Program). WhereTold b d (LeavesOthers (files_of r.sources))) go.came.program within.others

  pub stays : StaysWithin p named (call a d k m s u had has x z)
  stays = record {
    fronts = told_then (TookFrontsBut (IsSavedTo named)) TookFronts (TookFrontsBut (IsSavedTo named)) a b d
        (λ v w r first second. fronts_join (IsSavedTo named) v w r first (λ name rest other left. second name rest left)) go.within.fronts within.fronts;
    others = told_then (TookOnly (λ name. Contains (files_of p.sources) name ⊎ IsSavedTo named name)) (LeavesOthers (files_of p.sources))
        (TookOnly (λ name. Contains (files_of p.sources) name ⊎ IsSavedTo named name)) a b d
        (λ v w r first second name other. second name (λ found. other (inl found)) ∙ first name other) go.within.others others_of_job;
    rise = λ n. rises_on (k n) (l n) (m n) (go.within.rise n) (within.rise n);
  }

  puts_same : SameCounts s u
  puts_same n = within.puts n ∙ go.puts n

  -- what was put before the round
  abbrev put : Option (List ℕ)
  put = put_behind p go.came.done old.held.border (held old.state)

  leaves_on : WhereTold a d (LeavesPut named [] put)
  leaves_on = told_then (LeavesPut named [] put) (LeavesOthers (files_of p.sources)) (LeavesPut named [] put) a b d
      (λ v w r leaves others. round_keeps p named put v w r apart leaves others) go.leaves others_of_job

  put_was : (ran : List (List (List Item))) (before : ℕ → List Next) → ran ≡ go.came.done
      → IsStateUpTo p o.border o.cells old.held.border before (held old.state)
      → put ≡ put_by p o ran old.held.border before
  put_was ran before same state = put_is p o go.came.done ran old.held.border before (held old.state) same state

  -- ---- a round that was not run
  still : has ≡ mid → WhereTold had has (AppendsAll go.written)
  still nothing = subst (λ (out : Option (List ℕ)). WhereTold had out (AppendsAll go.written)) (sym nothing) go.wrote

  ran_to_defect : Laws o → (fault : SourceFault) → IsSourceFault old.held b d (SourceDefect fault) → has ≡ mid
      → RanToDefect p o named (call a d k m s u had has x z) fault
  ran_to_defect laws fault met nothing = record {
    source = (laws.defect p o.rows a b d old go.written fault go.some go.came met).0;
    text = go.written;
    wrote = still nothing;
    met = told_weaker
        (λ was is. ((ran : RanFrom p o.rows o.border o.cells (lines_in p was) old.held.border go.written) × (ran.done ≡ go.came.done)
        × IsStateUpTo p o.border o.cells old.held.border ran.before (held old.state)
        × IsRoundFault p o.rows old.held.border (lines_in p was) ran.before fault)
        × LeavesPut named [] put was is)
        (λ left now. (put' : Option (List ℕ)) × MeetsDefect p o (lines_in p left) go.written put' fault × LeavesPut named [] put' left now) a d
        (λ was is h. (put, record { border = old.held.border; ran = h.0.0; saved = put_was h.0.0.done h.0.0.before h.0.1 h.0.2; meets = h.0.3 }, h.1))
        (told_both _ (LeavesPut named [] put) a d (laws.defect_state p o.rows a b d old go.written fault go.some go.came met) leaves_on);
  }

  pub ran_some : Laws o → has ≡ mid → RanSome p o named (call a d k m s u had has x z)
  ran_some laws nothing = record {
    text = go.written;
    wrote = still nothing;
    rounds = told_weaker
        (λ was is. ((ran : RanFrom p o.rows o.border o.cells (lines_in p was) old.held.border go.written) × (ran.done ≡ go.came.done)
        × IsStateUpTo p o.border o.cells old.held.border ran.before (held old.state)) × LeavesPut named [] put was is)
        (λ left now. (put' : Option (List ℕ)) × HaveWritten p o (lines_in p left) go.written put' × LeavesPut named [] put' left now) a d
        (λ was is h. (put, record { border = old.held.border; ran = h.0.0; saved = put_was h.0.0.done h.0.0.before h.0.1 h.0.2 }, h.1))
        (told_both _ (LeavesPut named [] put) a d
        (told_then _ TookFronts _ a b d (λ was is now ran fronts. ran) (laws.state p o.rows a b old go.written go.some go.came) within.fronts)
        leaves_on);
  }

  has_failed : HidesNoRoundFault old.held b d l m go.came.before → HasFailed p o (call a d k m s u had has x z)
  has_failed h = failed_behind p o a b d k l m s u had has x z old.held go.came.done go.came.before go.came.program go.came.number go.came.told
      go.within.rise h

  rose_on : Rose y z → Rose x z
  rose_on rose = subst (λ (n : ℕ). Rose n z) go.quiet rose

  -- the report of the next round
  reports_next : Laws o → (end : Border) (now : ℕ → List Next) → IsRoundOf old b d end go.came.before now
      → WhereTold a d (λ left after. (put' : Option (List ℕ)) × ReportsNext p o (lines_in p left) go.written put' (round_report old end now)
      × LeavesPut named [] put' left after)
  reports_next laws end now round = told_weaker
      (λ was is. ((ran : RanFrom p o.rows o.border o.cells (lines_in p was) old.held.border go.written) × (ran.done ≡ go.came.done)
      × IsStateUpTo p o.border o.cells old.held.border ran.before (held old.state)
      × WouldWriteFrom p o.rows o.border o.cells (lines_in p was) old.held.border ran.before now end (go.written ++ round_report old end now))
      × LeavesPut named [] put was is)
      (λ left after. (put' : Option (List ℕ)) × ReportsNext p o (lines_in p left) go.written put' (round_report old end now)
      × LeavesPut named [] put' left after) a d
      (λ was is h. (
        put,
        record {
          border = old.held.border;
          ran = h.0.0;
          saved = put_was h.0.0.done h.0.0.before h.0.1 h.0.2;
          end = end;
          now = now;
          next =
              h.0.3;
        },
        h.1,
      ))
      (told_both _ (LeavesPut named [] put) a d (laws.next p o.rows a b d old go.written end now go.some go.came round) leaves_on)

  ran_into : Laws o
      → ((before : ℕ → List Next) → AreHeldBehind old.held before → (end : Border) × (now : ℕ → List Next) × IsRoundOf old b d end before now
      × WhereTold mid has (AppendsPart (round_report old end now)))
      → RanInto p o named (call a d k m s u had has x z)
  ran_into laws part =
      let round = part go.came.before go.came.behind in
      let more = round_report old round.0 round.1 in
      record {
        text = go.written;
        more = more;
        wrote = told_then (AppendsAll go.written) (AppendsPart more) (AppendsInto go.written more) had mid has
            (λ v w r e f. subst (λ (bytes : List ℕ). AppendsPart more bytes r) e f) go.wrote round.3;
        round = reports_next laws round.0 round.1 round.2;
      }

  -- why a round was not run
  pub ends_halted : Laws o → (f : RoundsFault) → IsHalted old (call b d l m t u mid has y z) f
      → EndsRounds adapts p o named (call a d k m s u had has x z) (Err (Round f)) × StaysWithin p named (call a d k m s u had has x z)
  ends_halted laws (SourceDefect fault) is = (ran_to_defect laws fault is.fault (is.nothing (λ e. cc)), stays)
  ends_halted laws ReadFault is = ((has_failed (is.hides refl go.came.before go.came.behind), ran_some laws (is.nothing (λ e. cc))), stays)
  ends_halted laws WriteFault is = ((rose_on (is.failed refl), ran_into laws (is.part refl)), stays)
  ends_halted laws NoMemory is = (ran_some laws (is.nothing (λ e. cc)), stays)

  -- ---- the put behind a round that was run
  module _ (e : Option Files) (n w : List ℕ → ℕ) (note' : AdaptiveNote) (new : Standing) (said : Option Said) (end : Border)
      (run : IsRun note note' old new said (call b d l m t u mid has y z) end)
      (kept : WhereTold d e (TookOnly (IsSavedTo named))) (takes : SameCounts m n) where
    stays_put : StaysWithin p named (call a e k n s w had has x z)
    stays_put = record {
      fronts = told_then (TookFrontsBut (IsSavedTo named)) (TookOnly (IsSavedTo named)) (TookFrontsBut (IsSavedTo named)) a d e
          (λ v r f first second. fronts_join (IsSavedTo named) v r f first (fronts_of_only (IsSavedTo named) r f second)) stays.fronts kept;
      others = told_then (TookOnly (λ name. Contains (files_of p.sources) name ⊎ IsSavedTo named name)) (TookOnly (IsSavedTo named))
          (TookOnly (λ name. Contains (files_of p.sources) name ⊎ IsSavedTo named name)) a d e
          (λ v r f first second name other. second name (λ saved. other (inr saved)) ∙ first name other) stays.others kept;
      rise = λ name. subst (λ (count : ℕ). k name ≤ count) (sym (takes name)) (stays.rise name);
    }

    -- the round that was run
    its_run : WritesRound note note' old new b d mid has go.came.before end
    its_run = run.written go.came.before go.came.behind

    wrote_more : WhereTold had has (AppendsAll (go.written ++ round_report old end its_run.0.fills.now))
    wrote_more = wrote_then go.written (round_report old end its_run.0.fills.now) had mid has go.wrote its_run.1

    is_round : IsRoundOf old b d end go.came.before its_run.0.fills.now
    is_round = record {
      round = told_weaker
          (λ was is. (whole : ℕ → List Next) → AreInAll old.held go.came.before was whole
          → IsRound old.held.program old.held.rows old.held.border whole go.came.before its_run.0.fills.now end
          × AreInAll new.held its_run.0.fills.now is whole)
          (λ was is. (whole : ℕ → List Next) → AreInAll old.held go.came.before was whole
          → IsRound old.held.program old.held.rows old.held.border whole go.came.before its_run.0.fills.now end) b d
          (λ was is fills whole all. (fills whole all).0) its_run.0.fills.round;
    }

    -- it could not be put
    unsaved : Laws o → (Left : Option (List ℕ) → Files → Files → Type 0) → named ≢ None
        → WhereTold d e (λ r f. (v : Files) (other : Option (List ℕ)) → LeavesPut named [] other v r → Left other v f)
        → RanUnsaved Left p o named (call a e k n s w had has x z)
    unsaved laws Left saves leaves = record {
      text = go.written;
      more = round_report old end its_run.0.fills.now;
      saves = saves;
      wrote = wrote_more;
      round = told_then
          (λ left after. (put' : Option (List ℕ)) × ReportsNext p o (lines_in p left) go.written put' (round_report old end its_run.0.fills.now)
          × LeavesPut named [] put' left after)
          (λ r f. (v : Files) (other : Option (List ℕ)) → LeavesPut named [] other v r → Left other v f)
          (λ left after. (put' : Option (List ℕ)) × ReportsNext p o (lines_in p left) go.written put' (round_report old end its_run.0.fills.now)
          × Left put' left after) a d e
          (λ v r f next left. (next.0, next.1, left v next.0 next.2)) (reports_next laws end its_run.0.fills.now is_round) leaves;
    }

    pub ends_unsaved : Laws o → (f : PutFault) → named ≢ None → (f ≡ Failed → PutFailed named u w) → (f ≡ NoMemoryToPut → WhereTold d e SameLeft)
        → EndsRounds adapts p o named (call a e k n s w had has x z) (Err (Unsaved f)) × StaysWithin p named (call a e k n s w had has x z)
    ends_unsaved laws Failed saves failed same =
        let rose = failed refl in (
          (
            (rose.0, rose.1, subst (λ (count : ℕ). Rose count (w rose.0)) (puts_same rose.0) rose.2),
            unsaved laws LeavesAnything saves (told_weaker (TookOnly (IsSavedTo named)) _ d e (λ r f only v other leaves. tt) kept),
          ),
          stays_put,
        )
    ends_unsaved laws NoMemoryToPut saves failed same = (
      unsaved laws (LeavesPut named []) saves
          (told_weaker SameLeft (λ r f. (v : Files) (other : Option (List ℕ)) → LeavesPut named [] other v r → LeavesPut named [] other v f) d e
          (λ r f same' v other leaves. keeps_put named other v r f leaves (λ name saved. same' name)) (same refl)),
      stays_put,
    )

    -- it was put
    module _ (r' : Program) (st : State) (has_state : st ≡ new.state) (its : r' ≡ program_of note'.checked)
        (puts : WhereTold d e (PutsAt named (save r' (border_at end) (held st)))) (quiet : SameCounts u w) where
      -- the engine is still of the job
      still_engine : program_of note'.checked ≡ p
      still_engine = ap program_of run.engine ∙ go.engine

      saved_bytes : save r' (border_at end) (held st) ≡ save p (border_at end) (held new.state)
      saved_bytes = λ i. save ((its ∙ still_engine) i) (border_at end) (held (has_state i))

      its_puts : WhereTold d e (PutsAt named (save p (border_at end) (held new.state)))
      its_puts = subst (λ (bytes : List ℕ). WhereTold d e (PutsAt named bytes)) saved_bytes puts

      pub goes_on : Laws o → (time : ℕ) → end ≡ At time → GoesOn adapts p note' o named (call a e k n s w had has x z) new
      goes_on laws time at =
          let runs = subst (WritesRound note note' old new b d mid has go.came.before) at its_run in
          let stands = subst (λ (b' : Border). StandsBehind old.held new.held b') at run.stands in
          let on = laws.going p o.rows a b d old new go.written time go.came runs.0 stands run.read_out in
          let still_on = laws.others p o.rows a d e new (go.written ++ round_report old (At time) runs.0.fills.now) on.0
          (told_weaker (TookOnly (IsSavedTo named)) (λ was is. (name : List ℕ) → Contains (files_of p.sources) name → is name ≡ was name) d e
          (λ r f only name found. put_keeps_sources p named r f apart only name found) kept) in
          let bytes = save p time (held new.state) in
          let lists = lists_between p old.held.border (At time) runs.0.fills.now in
          let put_now = put_more p go.came.done still_on.0.done lists new.held.border time (held new.state) (still_on.1 ∙ on.1) stands.border in
          record {
            engine = still_engine;
            adapting = run.adapting ∙ go.adapting;
            stage = stands.stage;
            some = go.some;
            written = go.written ++ round_report old (At time) runs.0.fills.now;
            came = still_on.0;
            counted = λ follows.
                runs.2 (go.adapting ∙ follows)
                ∙ (λ i. grown (go.counted follows i) (lists_between (go.came.program i) old.held.border (At time) runs.0.fills.now))
                ∙ sym (laws.one_more (no_counts p) go.came.done lists)
                ∙ ap (grown_in_turn (no_counts p)) (sym (still_on.1 ∙ on.1));
            wrote = wrote_then go.written (round_report old (At time) runs.0.fills.now) had mid has go.wrote runs.1;
            leaves = told_then (LeavesPut named [] put) (PutsAt named bytes)
                (LeavesPut named [] (put_behind p still_on.0.done new.held.border (held new.state))) a d e
                (λ v r f first second. put_leaves named (put_behind p still_on.0.done new.held.border (held new.state)) bytes v r f put_now second)
                leaves_on (subst (λ (b' : Border). WhereTold d e (PutsAt named (save p (border_at b') (held new.state)))) at its_puts);
            within = stays_put;
            quiet = run.quiet ∙ go.quiet;
            puts = λ name. quiet name ∙ puts_same name;
          }

      -- the last round: all events were counted, and what is said is said of them
      says_plan : Laws o → end ≡ Closed → SaysPlan adapts p o said (call a e k n s w had has x z)
      says_plan laws at =
          let runs = subst (WritesRound note note' old new b d mid has go.came.before) at its_run in
          let says = says_of_job adapts note'.adapts p (program_of note'.checked) note'.counts said (run.adapting ∙ go.adapting) still_engine (run.says at) in
          let counted : IsTrue adapts → WhereTold a d (λ was is. note'.counts ≡ grown (no_counts p) (all_lists p o was)) = λ follows.
          told_weaker (λ was is. grown note.counts (round_lists old Closed runs.0.fills.now) ≡ grown (no_counts p) (all_lists p o was))
          (λ was is. note'.counts ≡ grown (no_counts p) (all_lists p o was)) a d
          (λ was is all. runs.2 (go.adapting ∙ follows) ∙ all)
          (laws.counts p o.rows o.border o.cells a b d old new go.written (no_counts p) note.counts go.some
          (record { came = go.came; counts' = go.counted follows }) runs.0) in
          record {
            may_say = says.may_say;
            told = plan_told adapts p o note'.counts (line_said said) (TookFrontsBut (IsSavedTo named))
                (TookOnly (IsSavedTo named)) a d e stays_put.fronts kept counted says.is;
          }

      pub ran_all : Laws o → end ≡ Closed → AreClosed new.held → EndsRounds adapts p o named (call a e k n s w had has x z) (Ok said)
          × StaysWithin p named (call a e k n s w had has x z)
      ran_all laws at closed =
          let runs = subst (WritesRound note note' old new b d mid has go.came.before) at its_run in
          let stands = subst (λ (b' : Border). StandsBehind old.held new.held b') at run.stands in
          let text = go.written ++ round_report old Closed runs.0.fills.now in
          let whole = laws.last p o.rows a b d old new go.written go.some go.came runs.0 stands run.read_out closed in
          let bytes = save p greatest_border (held new.state) in
          let ran : RanAll p o named (call a e k n s w had has x z) =
          record {
            text = text;
            wrote = wrote_then go.written (round_report old Closed runs.0.fills.now) had mid has go.wrote runs.1;
            all = told_then
                (λ was is. HasRunFrom p o.border o.cells was new text × ((name : List ℕ) → Contains (files_of p.sources) name → is name ≡ Some []))
                (λ is after. TookOnly (IsSavedTo named) is after × PutsAt named bytes is after)
                (IsAllRun p o named text) a d e
                (λ v r f first second. record {
                  sound = first.0.sound;
                  is = first.0.text;
                  ends = λ name found. put_keeps_sources p named r f apart second.0 name found ∙ first.1 name found;
                  saved = λ name saved. put_here bytes name r f saved second.1 ∙ ap (λ cells. Some (save p greatest_border cells)) first.0.state;
                })
                (told_ends (files_of p.sources) (λ was is. HasRunFrom p o.border o.cells was new text) a d whole.1 whole.0)
                (told_both (TookOnly (IsSavedTo named)) (PutsAt named bytes) d e kept
                (subst (λ (b' : Border). WhereTold d e (PutsAt named (save p (border_at b') (held new.state)))) at its_puts));
          } in
          ((ran, says_plan laws at), stays_put)
        where
          put_here : (bytes name : List ℕ) (r f : Files) → named ≡ Some name → PutsAt named bytes r f → f name ≡ Some bytes
          put_here bytes name r f is puts' = (subst (λ (one : Option (List ℕ)). PutsAt one bytes r f) is puts').here

      -- the next standing, or the end
      pub steps_on : Laws o → (end ≡ Closed → AreClosed new.held) → Steps adapts p note' o named (call a e k n s w had has x z) new said (Ok end)
      steps_on laws closed = by_end end refl
        where
          by_end : (b' : Border) → end ≡ b' → Steps adapts p note' o named (call a e k n s w had has x z) new said (Ok b')
          by_end (At time) at = goes_on laws time at
          by_end Closed at = ran_all laws at (closed at)

-- ---- answers
-- a name that is there is so too without where it lies in memory
pub still_named : {A B : Type 0} (f : A → B) (o : Option A) → o ≢ None → option_map f o ≢ None
still_named f None other e = other refl
still_named f (Some x) other e = absurd (cc)

pub laws_of : ((border : Option ℕ) (cells : Contents) → LawOfGoingOnFrom border cells)
    → ((border : Option ℕ) (cells : Contents) → LawOfTextAndState border cells)
    → ((border : Option ℕ) (cells : Contents) → LawOfNextTextAndState border cells) → ((border : Option ℕ) (cells : Contents) → LawOfLastFrom border cells)
    → ((border : Option ℕ) (cells : Contents) → LawOfDefectFrom border cells) → ((border : Option ℕ) (cells : Contents) → LawOfDefectAndState border cells)
    → ((border : Option ℕ) (cells : Contents) → LawOfOtherNames border cells) → OneMoreInTurn → LawOfLastCounts → (o : Opening) → Laws o
laws_of going state next last defect defect_state others one_more counts o = record {
  going = going o.border o.cells;
  state = state o.border o.cells;
  next = next o.border o.cells;
  last = last o.border o.cells;
  defect = defect o.border o.cells;
  defect_state = defect_state o.border o.cells;
  others = others o.border o.cells;
  one_more = one_more;
  counts = counts;
}

-- a result that `?` gives of an error
pub given_err : {T F : Type 0} (r : Result T F) (f : F) → IsErrAnd r (λ (e : F). e ≡ f) → r ≡ Err f
given_err (Ok done) f is = absurd is
given_err (Err e) f is = ap Err is

-- the error that `?` was given is none that it did not give
pub none_given : {T E F : Type 0} (r : Result T F) (s : Result E F) (f other : F) → s ≡ Err f
    → IsErrAnd r (λ (e : F). e ≡ f) → r ≢ Err other → s ≢ Err other
none_given {T} {E} {F} r s f other from is differs same =
    let both = sym from ∙ same in differs (given_err r f is ∙ ap Err (ap (λ (e : Result E F). unwrap_or (result_err e) f) both))

pub closed_is : (b : Border) → ((t : ℕ) → b ≡ At t → ⊥) → b ≡ Closed
closed_is (At t) other = absurd (other t refl)
closed_is Closed other = refl

pub not_both : {T E : Type 0} (r : Result T E) (x : T) (f : E) → r ≡ Ok x → r ≡ Err f → ⊥
not_both r x f good bad = let e = sym good ∙ bad in cc
