-- How a replay ends, one line at a time.
use Rattle.std.proofs.Common.{◌≡◌, ℕ, ◌+◌, Bool, true, false, Option, Some, None, List, [], ◌∷◌, ◌++◌, refl, sym, subst, ◌∙◌, inl}
use Rattle.std.specs.Prelude.{Result, Ok, Err, IfErr, IfSome, IfNone, OnOk}
use Rattle.flu_lemmas.specs.Told.{WhereTold}
use Rattle.flu_lemmas.specs.Named.{Contents, KeepsBytes, IsReadOut, bytes_left}
use Rattle.flu_lemmas.proofs.Told.{told_then, told_weaker}
use Rattle.flu_lemmas.specs.Lines.{lines_of}
use Rattle.flu_fork.specs.declared.content.Content.{Content}
use Rattle.flu_net.specs.declared.steps.Step.{Step}
use Rattle.flu_net.specs.Enabled.{is_enabled}
use Rattle.flu_net.specs.Final.{IsFinal}
use Rattle.flu_net.specs.Notes.{NetNote}
use Rattle.flu_net.specs.Rule.{IsWell}
use Rattle.flu_net.specs.Runs.{IsMade}
use Rattle.flu_net.specs.Starting.{IsStart}
use Rattle.flu_trace.specs.declared.faults.ReplayFault.{ReplayFault}
use Rattle.flu_trace.specs.declared.faults.ReplayFault.TheVariants as faults
use Rattle.flu_outside.specs.declared.lines.Found.{Found}
use Rattle.flu_outside.specs.Lines.{IsLast}
use Rattle.flu_trace.specs.declared.replaying.Replaying.{Replaying}
use Rattle.flu_trace.specs.Lines.{IsLineOf}
use Rattle.flu_trace.specs.LoopReplaying.{BeginsWith, EndsFrom, GoesOn, IsEndFault, IsReplayedBy, MayCome, Says}
use Rattle.flu_trace.specs.Replaying.{Complete, Ending, Ends, IsReplayed, NotEnabled, Bad, Incomplete, bad, complete, ending_of, incomplete, made, not_enabled}

-- ---- what a line says
pub says : (said : Option Step) (text line : List ℕ) → text ≡ line → IfSome said (λ s. IsLineOf s text) → IfNone said ((s : Step) → ¬ IsLineOf s text)
    → Says said line
says None text line same is none = λ s h. none s (subst (IsLineOf s) (sym same) h)
says (Some s) text line same is none = subst (IsLineOf s) same is

-- ---- a line that was found
-- of the lines that are still to come, and what is left of the files behind the first
found_told : (name held now rest : List ℕ) (found : Found) (said : Option Step) (P : List (List ℕ) → Contents → Type 0) (a b : Option Contents)
    → WhereTold a b (KeepsBytes name held now) → (IsLast found → IsReadOut name b)
    → ((coming : List ℕ) → MayCome found coming → BeginsWith said now rest coming)
    → ((y : Contents) (line : List ℕ) (lines : List (List ℕ)) → Says said line → ((s : Step) → IsLineOf s line → lines ≡ lines_of (rest ++ bytes_left y name))
    → P (line ∷ lines) y)
    → WhereTold a b (λ x y. P (lines_of (held ++ bytes_left x name)) y)
found_told name held now rest found said P None None keeps out begins give = tt
found_told name held now rest found said P None (Some y) keeps out begins give = absurd keeps
found_told name held now rest found said P (Some x) None keeps out begins give = absurd keeps
found_told name held now rest found said P (Some x) (Some y) keeps out begins give =
    let k = begins (bytes_left y name) (λ last. rw (out (inl last)) refl) in
    subst (λ l. P (lines_of l) y) keeps (subst (λ ls. P ls y) (sym k.cut) (give y k.line k.lines k.says k.behind))

pub told_bad : (name held now rest : List ℕ) (found : Found) (before line : ℕ) (n : NetNote) (a b : Option Contents)
    → WhereTold a b (KeepsBytes name held now)
    → (IsLast found → IsReadOut name b) → ((coming : List ℕ) → MayCome found coming → BeginsWith None now rest coming) → line ≡ before + 1 → IsWell n
    → WhereTold a b (λ x y. Ends before (lines_of (held ++ bytes_left x name)) n (Bad line))
told_bad name held now rest found before line n a b keeps out begins next well =
    found_told name held now rest found None (λ ls y. Ends before ls n (Bad line)) a b keeps out begins
    (λ y l ls none behind. subst (λ m. Ends before (l ∷ ls) n (Bad m)) (sym next) (bad well none))

pub told_not_enabled : (name held now rest : List ℕ) (found : Found) (s : Step) (before line : ℕ) (n : NetNote) (a b : Option Contents)
    → WhereTold a b (KeepsBytes name held now)
    → (IsLast found → IsReadOut name b) → ((coming : List ℕ) → MayCome found coming → BeginsWith (Some s) now rest coming) → line ≡ before + 1
    → IsWell n → is_enabled n s ≡ false
    → WhereTold a b (λ x y. Ends before (lines_of (held ++ bytes_left x name)) n (NotEnabled line))
told_not_enabled name held now rest found s before line n a b keeps out begins next well off =
    found_told name held now rest found (Some s) (λ ls y. Ends before ls n (NotEnabled line)) a b keeps out begins
    (λ y l ls is behind. subst (λ m. Ends before (l ∷ ls) n (NotEnabled m)) (sym next) (not_enabled well is off))

pub told_made : (name held now rest : List ℕ) (found : Found) (s : Step) (before line : ℕ) (old new : NetNote) (a b : Option Contents)
    → WhereTold a b (KeepsBytes name held now)
    → (IsLast found → IsReadOut name b) → ((coming : List ℕ) → MayCome found coming → BeginsWith (Some s) now rest coming) → line ≡ before + 1
    → IsMade s old new
    → WhereTold a b (λ x y. (ending : Ending) → Ends line (lines_of (rest ++ bytes_left y name)) new ending
    → Ends before (lines_of (held ++ bytes_left x name)) old ending)
told_made name held now rest found s before line old new a b keeps out begins next does =
    found_told name held now rest found (Some s)
    (λ ls y. (ending : Ending) → Ends line (lines_of (rest ++ bytes_left y name)) new ending → Ends before ls old ending) a b keeps out begins
    (λ y l ls is behind ending later.
    made is does (subst (λ m. Ends m ls new ending) next (subst (λ k. Ends line k new ending) (sym (behind s is)) later)))

-- ---- no line more
pub told_kept : (name held now : List ℕ) (before : ℕ) (n : NetNote) (a b : Option Contents) → WhereTold a b (KeepsBytes name held now)
    → WhereTold a b (λ x y. (ending : Ending) → Ends before (lines_of (now ++ bytes_left y name)) n ending
    → Ends before (lines_of (held ++ bytes_left x name)) n ending)
told_kept name held now before n a b keeps =
    told_weaker (KeepsBytes name held now)
    (λ x y. (ending : Ending) → Ends before (lines_of (now ++ bytes_left y name)) n ending → Ends before (lines_of (held ++ bytes_left x name)) n ending)
    a b
    (λ x y same ending later. subst (λ l. Ends before (lines_of l) n ending) same later) keeps

told_ended : (k : Content) (name : List ℕ) (r : Replaying) (ending : Ending) (a c : Option Contents) → WhereTold a c (IsReplayedBy k name r) → r.held ≡ []
    → IsReadOut name c → Ends r.lines [] r.net ending
    → WhereTold a c (λ old new. IsReplayed k (bytes_left old name) ending)
unfolding lines_of
told_ended k name r ending None None by none out ends = tt
told_ended k name r ending None (Some z) by none out ends = absurd by
told_ended k name r ending (Some x) None by none out ends = absurd by
told_ended k name r ending (Some x) (Some z) by none out ends = by ending (rw (none, out) ends)

pub told_complete : {X : Type 0} (k : Content) (name : List ℕ) (r : Replaying) (result : Result X ReplayFault) (a c : Option Contents)
    → WhereTold a c (IsReplayedBy k name r) → r.held ≡ []
    → IsReadOut name c → OnOk result (IsWell r.net × IsFinal r.net)
    → OnOk result (WhereTold a c (λ old new. IsReplayed k (bytes_left old name) Complete))
told_complete k name r (Ok x) a c by none out final = told_ended k name r Complete a c by none out (complete final.0 final.1)
told_complete k name r (Err fault) a c by none out final = tt

at_fault : (k : Content) (name : List ℕ) (r : Replaying) (fault : ReplayFault) (a c : Option Contents) → WhereTold a c (IsReplayedBy k name r) → r.held ≡ []
    → IsReadOut name c → IsEndFault r fault
    → IfSome (ending_of fault) (λ ending. WhereTold a c (λ old new. IsReplayed k (bytes_left old name) ending))
at_fault k name r (faults.Bad line) a c by none out is = absurd is
at_fault k name r (faults.NotEnabled line) a c by none out is = absurd is
at_fault k name r (faults.Incomplete line) a c by none out is =
    told_ended k name r (Incomplete line) a c by none out (subst (λ m. Ends r.lines [] r.net (Incomplete m)) (sym is.0) (incomplete is.2 is.1))
at_fault k name r faults.ReadFault a c by none out is = absurd is
at_fault k name r faults.NoMemory a c by none out is = tt

pub told_fault : {X : Type 0} (k : Content) (name : List ℕ) (r : Replaying) (result : Result X ReplayFault) (a c : Option Contents)
    → WhereTold a c (IsReplayedBy k name r) → r.held ≡ []
    → IsReadOut name c → IfErr result (IsEndFault r)
    → IfErr result (λ fault. IfSome (ending_of fault) (λ ending. WhereTold a c (λ old new. IsReplayed k (bytes_left old name) ending)))
told_fault k name r (Ok x) a c by none out is = tt
told_fault k name r (Err fault) a c by none out is = at_fault k name r fault a c by none out is

-- ---- a fault of one turn is that of the whole replay
pub told_so_far : (k : Content) (name : List ℕ) (r : Replaying) (found : Option Ending) (a b c : Option Contents) → WhereTold a b (IsReplayedBy k name r)
    → IfSome found (λ ending. WhereTold b c (λ old new. EndsFrom name r old ending))
    → IfSome found (λ ending. WhereTold a c (λ old new. IsReplayed k (bytes_left old name) ending))
told_so_far k name r None a b c by ends = tt
told_so_far k name r (Some ending) a b c by ends =
    told_then (IsReplayedBy k name r) (λ old new. EndsFrom name r old ending) (λ old new. IsReplayed k (bytes_left old name) ending) a b c
    (λ x y z p q. p ending q) by ends

pub told_on : (k : Content) (name : List ℕ) (old new : Replaying) (a b c : Option Contents) → WhereTold a b (IsReplayedBy k name old)
    → WhereTold b c (GoesOn name old new)
    → WhereTold a c (IsReplayedBy k name new)
told_on k name old new a b c by goes =
    told_then (IsReplayedBy k name old) (GoesOn name old new) (IsReplayedBy k name new) a b c (λ x y z p q ending later. p ending (q ending later)) by goes

pub told_begun : (k : Content) (name : List ℕ) (r : Replaying) (a : Option Contents) → IsStart k r.net → r.held ≡ [] → r.lines ≡ 0
    → WhereTold a a (IsReplayedBy k name r)
told_begun k name r None start none first = tt
told_begun k name r (Some x) start none first = λ ending ends. record {
  net = r.net;
  start = start;
  ends =
      subst (λ m. Ends m (lines_of (bytes_left x name)) r.net ending) first
      (subst (λ (l : List ℕ). Ends r.lines (lines_of (l ++ bytes_left x name)) r.net ending) none ends);
}

-- what is not off is on
pub on_where : (b : Bool) → (b ≡ false → ⊥) → b ≡ true
on_where true off = refl
on_where false off = absurd (off refl)

pub made_on : {X E : Type 0} (r : Result X E) (x : X) (fault : E) (b : Bool) → (b ≡ false → r ≡ Err fault) → r ≡ Ok x → b ≡ true
made_on r x fault b off ok = on_where b (λ no. let e : Ok x ≡ Err fault = sym ok ∙ off no in absurd (cc))
