-- A job is run on the net of a plan by the steps of a trace.
use Rattle.std.proofs.Common.{◌≡◌, ◌≢◌, refl, sym, ap, ◌∙◌, subst, ℕ, ◌≤◌, List, [], ◌∷◌, Bool, true, false, Option, Some, None, Result, Ok, Err, inl, inr}
use Rattle.std.proofs.Common.{◌⊎◌, if◌then◌else◌, arith}
use Rattle.std.specs.Prelude.{Contains, option_map, unwrap_or, IfSome, IfOk, OnOk}
use Rattle.std.specs.Str.{bytes_eq}
use Rattle.std.proofs.lemmas.Bool.{false≢true}
use Rattle.std.proofs.lemmas.List.Elements.{Contains-append_cases, Contains-append_right}
use Rattle.std.proofs.lemmas.Slice.Eq.{bytes_eq-Decides}
use Rattle.flu_outside.specs.Outside.{WhereTold, Contents, Rose}
use Rattle.flu_outside.specs.Taking.{bytes_left, TakesFrom, IsReadOut}
use Rattle.flu_model.specs.declared.events.Item.{Item}
use Rattle.flu_model.specs.declared.jobs.Program.{Program}
use Rattle.flu_model.specs.declared.plans.Node.{Node}
use Rattle.flu_model.specs.Contents.{nothing_held}
use Rattle.flu_model.specs.Folding.{final_outputs}
use Rattle.flu_model.specs.Modes.{IsAccepted}
use Rattle.flu_model.specs.Reports.{report}
use Rattle.flu_fork.specs.declared.content.Content.{Content}
use Rattle.flu_fork.specs.Lots.{setting_of}
use Rattle.flu_lemmas.proofs.Named.{rose_behind}
use Rattle.flu_lemmas.proofs.Told.{told_both, told_then, told_weaker}
use Rattle.flu_streams.specs.Files.{files_of, LeavesOthers, AreReadOut}
use Rattle.flu_streams.specs.Good.{first_fault, lists_of, AreGood}
use Rattle.flu_trace.specs.declared.faults.ReplayFault.{ReplayFault}
use Rattle.flu_trace.specs.declared.faults.ReplayFault.TheVariants as traces
use Rattle.flu_trace.specs.Replaying.{Ending, Complete, IsReplayed, ending_of}
use Rattle.flu_words.specs.Words.{Replay}
use Rattle.flu_lines.specs.declared.refusals.Refusal.{Refusal}
use Rattle.flu_lines.specs.declared.refusals.Refusal.TheVariants as refusals
use Rattle.flu_lines.specs.Answer.{refusal_of_replay}
use Rattle.flu_command.specs.Taking.{TookOnly}
use Rattle.flu_command.specs.Emptied.{emptied, emptied_each}
use Rattle.flu_command.specs.Starting.{AreNoSources}
use Rattle.flu_command.specs.Done.{IsGood, IsReadName, IsTraceName, IsWritten}
use Rattle.flu_command.specs.Ready.{HasNodes, IsReady}
use Rattle.flu_command.specs.ReadFaults.{InTrace}
use Rattle.flu_top.specs.Refusing.{IsRefusal}
use Rattle.flu_command.specs.Replaying.{EndsOnNet, EndsBehind, ReplaysTo, trace_in}
use Rattle.flu_top.specs.Replays.{IsNetRefusal, IsReplayDone, IsReadIn, StaysEnded, IsReplayRefusal}
use Rattle.flu_command.specs.Simulating.{from_nothing}
use Rattle.flu_top.proofs.Sequence.{among, only_one, same_or_apart, read_at, good_at, report_at, report_refusal, text_is_read, source_name_is_read}
use Rattle.flu_top.proofs.Sequence.{stays_ended, NamesNoCheckpoint, no_sources, can_start}

-- ---- names of which nothing is left
emptied_left : (o : Option (List ℕ)) → unwrap_or (option_map {U = List ℕ} (λ (bytes : List ℕ). []) o) [] ≡ []
emptied_left None = refl
emptied_left (Some bytes) = refl

-- nothing is left of a text, nor of what had nothing left
emptied_of : (text : List ℕ) (left : Contents) (name : List ℕ) → (text ≡ name) ⊎ (bytes_left left name ≡ []) → bytes_left (emptied text left) name ≡ []
unfolding emptied
emptied_of text left name none = by_test (bytes_eq name text) refl
  where
    by_test : (b : Bool) → bytes_eq name text ≡ b → unwrap_or (if bytes_eq name text then option_map {U = List ℕ} (λ (bytes : List ℕ). [])
        (left name) else left name) [] ≡ []
    by_test true t = rw t (emptied_left (left name))
    by_test false f = rw f (elim none [ inl same ↦ absurd (false≢true (sym f ∙ (bytes_eq-Decides name text).1 (sym same))) | inr empty ↦ empty ])

emptied_apart : (text : List ℕ) (left : Contents) (name : List ℕ) → text ≢ name → emptied text left name ≡ left name
unfolding emptied
emptied_apart text left name apart = by_test (bytes_eq name text) refl
  where
    by_test : (b : Bool) → bytes_eq name text ≡ b → (if bytes_eq name text then option_map {U = List ℕ} (λ (bytes : List ℕ). []) (left name) else left name)
        ≡ left name
    by_test true t = absurd (apart (sym ((bytes_eq-Decides name text).0 t)))
    by_test false f = rw f refl

-- what is left behind texts of one of them, or of what had nothing left
each_of : (texts : List (List ℕ)) (left : Contents) (name : List ℕ) → Contains texts name ⊎ (bytes_left left name ≡ [])
    → bytes_left (emptied_each texts left) name ≡ []
each_of [] left name (inl found) = absurd (omega (arith, found.1))
each_of [] left name (inr empty) = empty
each_of (text ∷ texts) left name (inr empty) = each_of texts (emptied text left) name (inr (emptied_of text left name (inr empty)))
each_of (text ∷ texts) left name (inl found) =
    each_of texts (emptied text left) name (elim (Contains-append_cases (text ∷ []) texts name found) [
      | inl one ↦ inr (emptied_of text left name (inl (only_one text name one)))
      | inr more ↦ inl more
    ])

each_apart : (texts : List (List ℕ)) (left : Contents) (name : List ℕ) → (Contains texts name → ⊥) → emptied_each texts left name ≡ left name
each_apart [] left name missing = refl
each_apart (text ∷ texts) left name missing =
    each_apart texts (emptied text left) name (λ found. missing (Contains-append_right (text ∷ []) texts name found))
    ∙ emptied_apart text left name (λ same. missing (0, omega arith, same))

-- what a trace is behind the sources
trace_left : (trace : List ℕ) (p : Program) (y z : Contents) → ((name : List ℕ) → Contains (files_of p.sources) name → z name ≡ Some [])
    → LeavesOthers (files_of p.sources) y z
    → bytes_left z trace ≡ trace_in trace p y
trace_left trace p y z ends others = elim (among (files_of p.sources) trace) [
  | inl found ↦ ap (λ (o : Option (List ℕ)). unwrap_or o []) (ends trace found) ∙ sym (each_of (files_of p.sources) y trace (inl found))
  | inr missing ↦ ap (λ (o : Option (List ℕ)). unwrap_or o []) (others trace missing ∙ sym (each_apart (files_of p.sources) y trace missing))
]

-- ---- the trace alone
-- a replay in a case of these items is one on the net of the plan over them
pub on_net : (p : Program) (nodes : List Node) (lists : List (List Item)) (trace : List ℕ) (k : Content) (a b : Option Contents) (ending : Ending)
    → setting_of k ≡ from_nothing p nodes lists
    → WhereTold a b (λ left _. IsReplayed k (bytes_left left trace) ending) → WhereTold a b (λ left _. EndsOnNet p nodes lists (bytes_left left trace) ending)
on_net p nodes lists trace k a b ending of replayed =
    told_weaker (λ left _. IsReplayed k (bytes_left left trace) ending) (λ left _. EndsOnNet p nodes lists (bytes_left left trace) ending) a b
    (λ x y is. record { case = k; of = of; replayed = is }) replayed

pub told_on_net : (p : Program) (nodes : List Node) (lists : List (List Item)) (trace : List ℕ) (k : Content) (a b : Option Contents) (told : Option Ending)
    → setting_of k ≡ from_nothing p nodes lists
    → IfSome told (λ ending. WhereTold a b (λ left _. IsReplayed k (bytes_left left trace) ending))
    → IfSome told (λ ending. WhereTold a b (λ left _. EndsOnNet p nodes lists (bytes_left left trace) ending))
told_on_net p nodes lists trace k a b None of replayed = tt
told_on_net p nodes lists trace k a b (Some ending) of replayed = on_net p nodes lists trace k a b ending of replayed

pub net_refusal : (p : Program) (nodes : List Node) (lists : List (List Item)) (trace : List ℕ) (a b : Option Contents) (before now : List ℕ → ℕ)
    (fault : ReplayFault)
    → IfSome (ending_of fault) (λ ending. WhereTold a b (λ left _. EndsOnNet p nodes lists (bytes_left left trace) ending))
    → (fault ≡ traces.ReadFault → Rose (before trace) (now trace))
    → IsNetRefusal p nodes lists trace a b before now (refusal_of_replay fault)
net_refusal p nodes lists trace a b before now (traces.Bad line) ends rose = (_, refl, ends)
net_refusal p nodes lists trace a b before now (traces.NotEnabled line) ends rose = (_, refl, ends)
net_refusal p nodes lists trace a b before now (traces.Incomplete line) ends rose = (_, refl, ends)
net_refusal p nodes lists trace a b before now traces.ReadFault ends rose = rose refl
net_refusal p nodes lists trace a b before now traces.NoMemory ends rose = tt

-- ---- the trace behind the sources
-- what was read of the sources
abbrev pub AreRead : Program → List (List Item) → Contents → Contents → Type 0
AreRead p lists y z = (first_fault p y ≡ None) × (lists ≡ lists_of p y) × ((name : List ℕ) → Contains (files_of p.sources) name → z name ≡ Some [])
    × LeavesOthers (files_of p.sources) y z

pub are_read : (p : Program) (lists : List (List Item)) (a b : Option Contents) → WhereTold a b (λ old _. AreGood p old)
    → WhereTold a b (λ old _. lists ≡ lists_of p old)
    → AreReadOut (files_of p.sources) b → WhereTold a b (LeavesOthers (files_of p.sources)) → WhereTold a b (AreRead p lists)
are_read p lists None None good are ends others = tt
are_read p lists None (Some y) good are ends others = good
are_read p lists (Some x) None good are ends others = good
are_read p lists (Some x) (Some y) good are ends others = (good, are, ends, others)

ends_behind : (p : Program) (nodes : List Node) (lists : List (List Item)) (trace : List ℕ) (y z : Contents) (ending : Ending) → AreRead p lists y z
    → EndsOnNet p nodes lists (bytes_left z trace) ending → EndsBehind p nodes trace y ending
ends_behind p nodes lists trace y z ending read ends =
    subst (λ (l : List (List Item)). EndsOnNet p nodes l (trace_in trace p y) ending) read.1
    (subst (λ (bytes : List ℕ). EndsOnNet p nodes lists bytes ending) (trace_left trace p y z read.2 read.3) ends)

-- what was read to its end before a trace stays so, where that was read to its end too
trace_stays : (trace : List ℕ) (y z : Contents) → z trace ≡ Some [] → TakesFrom trace y z → StaysEnded y z
trace_stays trace y z end taken name ended = elim (same_or_apart name trace) [ inl same ↦ ap z same ∙ end | inr apart ↦ taken.others name apart ∙ ended ]

pub replayed_behind : (p : Program) (nodes : List Node) (lists : List (List Item)) (trace : List ℕ) (a b c : Option Contents)
    (result : Result (List ℕ) Refusal) → WhereTold a b (AreRead p lists)
    → IfOk result (λ (text : List ℕ). text ≡ report p (final_outputs p nothing_held lists))
    → OnOk result (WhereTold b c (λ left _. EndsOnNet p nodes lists (bytes_left left trace) Complete))
    → OnOk result (IsReadOut trace c) → WhereTold b c (TakesFrom trace) → IfOk result (λ (text : List ℕ). WhereTold a c (IsReplayDone p nodes trace text))
replayed_behind p nodes lists trace a b c (Err refusal) read is complete end taken = tt
replayed_behind p nodes lists trace None None None (Ok text) read is complete end taken = tt
replayed_behind p nodes lists trace None None (Some z) (Ok text) read is complete end taken = taken
replayed_behind p nodes lists trace None (Some y) c (Ok text) read is complete end taken = absurd read
replayed_behind p nodes lists trace (Some x) None c (Ok text) read is complete end taken = absurd read
replayed_behind p nodes lists trace (Some x) (Some y) None (Ok text) read is complete end taken = taken
replayed_behind p nodes lists trace (Some x) (Some y) (Some z) (Ok text) read is complete end taken = record {
  reported = record {
    read = record { good = read.0; ends = λ name found. trace_stays trace y z end taken name (read.2 name found) };
    is = is ∙ ap (λ (l : List (List Item)). report p (final_outputs p nothing_held l)) read.1;
  };
  complete = ends_behind p nodes lists trace x y Complete read complete;
  end = end;
}

pub stays_behind : (p : Program) (lists : List (List Item)) (trace : List ℕ) (a b c : Option Contents) (result : Result (List ℕ) Refusal)
    → WhereTold a b (AreRead p lists)
    → OnOk result (IsReadOut trace c) → WhereTold b c (TakesFrom trace) → OnOk result (WhereTold a c StaysEnded)
stays_behind p lists trace a b c (Err refusal) read end taken = tt
stays_behind p lists trace None None None (Ok text) read end taken = tt
stays_behind p lists trace None None (Some z) (Ok text) read end taken = taken
stays_behind p lists trace None (Some y) c (Ok text) read end taken = absurd read
stays_behind p lists trace (Some x) None c (Ok text) read end taken = absurd read
stays_behind p lists trace (Some x) (Some y) None (Ok text) read end taken = taken
stays_behind p lists trace (Some x) (Some y) (Some z) (Ok text) read end taken =
    λ name ended. trace_stays trace y z end taken name (stays_ended (files_of p.sources) x y read.2 read.3 name ended)

pub only_of_sources : (p : Program) (trace : List ℕ) (a b : Option Contents) → WhereTold a b (LeavesOthers (files_of p.sources))
    → WhereTold a b (λ x z. TookOnly (IsReadIn p trace x) x z)
only_of_sources p trace a b others =
    told_weaker (LeavesOthers (files_of p.sources)) (λ x z. TookOnly (IsReadIn p trace x) x z) a b
    (λ x z left name unread. left name (λ found. unread (inl found))) others

pub only_of_both : (p : Program) (lists : List (List Item)) (trace : List ℕ) (a b c : Option Contents) → WhereTold a b (AreRead p lists)
    → WhereTold b c (TakesFrom trace)
    → WhereTold a c (λ x z. TookOnly (IsReadIn p trace x) x z)
only_of_both p lists trace a b c read taken =
    told_then (AreRead p lists) (TakesFrom trace) (λ x z. TookOnly (IsReadIn p trace x) x z) a b c
    (λ x y z first second name unread.
    second.others name (λ same. unread (inr (sym same, first.0))) ∙ first.3 name (λ found. unread (inl found))) read taken

pub behind_refusal : (p : Program) (nodes : List Node) (lists : List (List Item)) (trace : List ℕ) (a b c : Option Contents) (k l m : List ℕ → ℕ)
    (refusal : Refusal)
    → WhereTold a b (AreRead p lists) → WhereTold b c (TakesFrom trace) → ((n : List ℕ) → k n ≤ l n) → IsNetRefusal p nodes lists trace b c l m refusal
    → IsReplayRefusal p nodes trace a c k m refusal
behind_refusal p nodes lists trace a b c k l m (refusals.BadWords bad) read taken rise is = is
behind_refusal p nodes lists trace a b c k l m (refusals.JobFault fault text) read taken rise is = is
behind_refusal p nodes lists trace a b c k l m (refusals.Conflict fault) read taken rise is = is
behind_refusal p nodes lists trace a b c k l m (refusals.PlanDefect defect) read taken rise is = is
behind_refusal p nodes lists trace a b c k l m (refusals.SourceFault job fault) read taken rise is = absurd is
behind_refusal p nodes lists trace a b c k l m refusals.ReadFault read taken rise is =
    inr (
      told_then (AreRead p lists) (TakesFrom trace) (λ left _. first_fault p left ≡ None) a b c (λ x y z first second. first.0) read taken,
      rose_behind
          (k trace) (l trace) (m trace) (rise trace) is,
    )
behind_refusal p nodes lists trace a b c k l m refusals.WriteFault read taken rise is = is
behind_refusal p nodes lists trace a b c k l m refusals.NoMemory read taken rise is = tt
behind_refusal p nodes lists trace a b c k l m (refusals.SaveDefect defect) read taken rise is = absurd is
behind_refusal p nodes lists trace a b c k l m refusals.PutFault read taken rise is = absurd is
behind_refusal p nodes lists trace a b c k l m (refusals.TraceFault fault) read taken rise is = (
  is.0,
  is.1,
  told_then (AreRead p lists) (λ left _. EndsOnNet p nodes lists (bytes_left left trace) is.0)
      (λ left _. (first_fault p left ≡ None) × EndsBehind p nodes trace left is.0) a b c
      (λ x y z first second. (first.0, ends_behind p nodes lists trace x y is.0 first second)) read is.2,
)

-- ---- the trace behind the texts and the sources
no_checkpoint : (job plan trace : List ℕ) → NamesNoCheckpoint (Replay job plan trace)
no_checkpoint job plan trace = record { save = refl; resume = refl; rows = refl }

module _ (job plan trace : List ℕ) (p : Program) (nodes : List Node) (a b c : Option Contents) (accepted : IsAccepted p)
    (ready : WhereTold a b (IsReady (Replay job plan trace) p)) (found : WhereTold a b (HasNodes job plan p nodes)) where
  replays_at : (x y : Contents) (ending : Ending) → IsReady (Replay job plan trace) p x y → HasNodes job plan p nodes x y → EndsBehind p nodes trace y ending
      → ReplaysTo (Replay job plan trace) trace x p ending
  replays_at x y ending first has ends = record {
    plan = plan;
    asked = refl;
    nodes = nodes;
    has = has;
    ends = subst (λ (left : Contents). EndsBehind p nodes trace left ending) (sym first.texts.behind) ends;
  }

  trace_read : (x z : Contents) (name : List ℕ) → Some trace ≡ Some name → ReplaysTo (Replay job plan trace) trace x p Complete → z trace ≡ Some []
      → ReplaysTo (Replay job plan trace) name x p Complete × (z name ≡ Some [])
  trace_read x z name named complete end =
      let same : trace ≡ name = cc in
      subst (λ (n : List ℕ). ReplaysTo (Replay job plan trace) n x p Complete × (z n ≡ Some [])) same (complete, end)

  is_replayed : (text : List ℕ) → WhereTold b c (IsReplayDone p nodes trace text) → WhereTold b c StaysEnded
      → WhereTold a c (IsWritten (Replay job plan trace) text [])
  is_replayed text done stays =
      told_then (λ x y. IsReady (Replay job plan trace) p x y × HasNodes job plan p nodes x y) (λ y z. IsReplayDone p nodes trace text y z × StaysEnded y z)
      (IsWritten (Replay job plan trace) text []) a b c
      (λ x y z first second. (
        p,
        read_at (Replay job plan trace) p x y z refl (λ asked. accepted) (no_checkpoint job plan trace) first.0 second.0.reported.read second.1
            (λ name named. trace_read x z name named (replays_at x y Complete first.0 first.1 second.0.complete) second.0.end),
        report_at (Replay job plan trace) p text x y z first.0 second.0.reported,
        refl,
      ))
      (told_both (IsReady (Replay job plan trace) p) (HasNodes job plan p nodes) a b ready found)
      (told_both (IsReplayDone p nodes trace text) StaysEnded b c done stays)

  pub replayed : (result : Result (List ℕ) Refusal) → IfOk result (λ (text : List ℕ). WhereTold b c (IsReplayDone p nodes trace text))
      → OnOk result (WhereTold b c StaysEnded)
      → IfOk result (λ (text : List ℕ). WhereTold a c (IsWritten (Replay job plan trace) text []))
  replayed (Ok text) done stays = is_replayed text done stays
  replayed (Err refusal) done stays = tt

  -- where the sources are good, nothing refuses the command before its trace
  good_told : WhereTold b c (λ left _. first_fault p left ≡ None) → IfSome a (λ contents. IsGood (Replay job plan trace) contents p)
  good_told good = by_told a b c ready good
    where
      by_told : (a b c : Option Contents) → WhereTold a b (IsReady (Replay job plan trace) p) → WhereTold b c (λ left _. first_fault p left ≡ None)
          → IfSome a (λ contents. IsGood (Replay job plan trace) contents p)
      by_told None b c first good = tt
      by_told (Some x) None c first good = absurd first
      by_told (Some x) (Some y) None first good = absurd good
      by_told (Some x) (Some y) (Some z) first good = good_at (Replay job plan trace) p x y refl (λ asked. accepted) (no_checkpoint job plan trace) first good

  trace_name : WhereTold b c (λ left _. first_fault p left ≡ None) → IsTraceName a (Replay job plan trace) trace
  trace_name good = record { named = refl; p = p; accepted = λ asked. accepted; good = good_told good }

  pub replay_refusal : (k l m : List ℕ → ℕ) (refusal : Refusal) → ((n : List ℕ) → k n ≤ l n) → IsReplayRefusal p nodes trace b c l m refusal
      → IsRefusal (Replay job plan trace) a c k m refusal
  replay_refusal k l m (refusals.BadWords bad) rise is = is
  replay_refusal k l m (refusals.JobFault fault text) rise is = absurd is
  replay_refusal k l m (refusals.Conflict fault) rise is = absurd is
  replay_refusal k l m (refusals.PlanDefect defect) rise is = absurd is
  replay_refusal k l m (refusals.SourceFault q fault) rise is = report_refusal (Replay job plan trace) p a b c k l m (refusals.SourceFault q fault) refl
      (λ asked. accepted) (no_checkpoint job plan trace) ready rise is
  replay_refusal k l m refusals.ReadFault rise (inl rose) = report_refusal (Replay job plan trace) p a b c k l m refusals.ReadFault refl (λ asked. accepted)
      (no_checkpoint job plan trace) ready rise rose
  replay_refusal k l m refusals.ReadFault rise (inr rose) =
      InTrace trace (trace_name rose.0) (rose_behind (k trace) (l trace) (m trace) (rise trace) rose.1)
  replay_refusal k l m refusals.WriteFault rise is = is
  replay_refusal k l m refusals.NoMemory rise is = tt
  replay_refusal k l m (refusals.SaveDefect defect) rise is = absurd is
  replay_refusal k l m refusals.PutFault rise is = is
  replay_refusal k l m (refusals.TraceFault fault) rise is = record {
    trace = trace;
    named = refl;
    p = p;
    accepted = λ asked. accepted;
    ending = is.0;
    tells = is.1;
    first = told_then (λ x y. IsReady (Replay job plan trace) p x y × HasNodes job plan p nodes x y)
        (λ left _. (first_fault p left ≡ None) × EndsBehind p nodes trace left is.0)
        (λ left _. IsGood (Replay job plan trace) left p × ReplaysTo (Replay job plan trace) trace left p is.0) a b c
        (λ x y z first second. (
          good_at (Replay job plan trace) p x y refl (λ asked. accepted)
              (no_checkpoint job plan trace) first.0 second.0,
          replays_at x y is.0 first.0 first.1 second.1,
        ))
        (told_both (IsReady (Replay job plan trace) p) (HasNodes job plan p nodes) a b ready found) is.2;
  }

-- bytes are taken of names that the command reads
pub only_replayed : (job plan trace : List ℕ) (p : Program) (a b c : Option Contents) → IsAccepted p → WhereTold a b (IsReady (Replay job plan trace) p)
    → WhereTold b c (λ y z. TookOnly (IsReadIn p trace y) y z) → WhereTold a c (TookOnly (IsReadName a (Replay job plan trace)))
only_replayed job plan trace p None None None accepted ready only = tt
only_replayed job plan trace p None None (Some z) accepted ready only = only
only_replayed job plan trace p None (Some y) c accepted ready only = absurd ready
only_replayed job plan trace p (Some x) None c accepted ready only = absurd ready
only_replayed job plan trace p (Some x) (Some y) None accepted ready only = only
only_replayed job plan trace p (Some x) (Some y) (Some z) accepted ready only = λ name unread.
    only name (λ found. unread (behind name found)) ∙ ready.texts.others name
    (λ found. unread (text_is_read (Replay job plan trace) p (Some x) (Some y) (λ asked. accepted) apart ready name found))
  where
    apart : AreNoSources (Replay job plan trace) p
    apart = no_sources (Replay job plan trace) p (no_checkpoint job plan trace)

    behind : (name : List ℕ) → IsReadIn p trace y name → IsReadName (Some x) (Replay job plan trace) name
    behind name (inl found) = source_name_is_read (Replay job plan trace) p (Some x) (Some y) refl (λ asked. accepted) apart
        (can_start (Replay job plan trace) x p (no_checkpoint job plan trace)) ready name found
    behind name (inr found) = inr (inr (inr (inr (record {
      named = ap Some found.0;
      p = p;
      accepted = λ asked. accepted;
      good = good_at (Replay job plan trace) p x y refl (λ asked. accepted) (no_checkpoint job plan trace) ready found.1;
    }))))

-- ---- the answer to a replay that is refused
abbrev pub as_refused : {A B : Type 0} → Result A ReplayFault → Result B Refusal
as_refused (Ok x) = Err refusals.NoMemory
as_refused (Err fault) = Err (refusal_of_replay fault)
