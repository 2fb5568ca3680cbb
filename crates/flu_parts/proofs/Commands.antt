-- A part command reads its job and its plan, and works behind them.
use Rattle.std.proofs.Common.{◌≡◌, refl, sym, ap, ◌∙◌, subst, ℕ, List, [], ◌∷◌, Bool, true, false, Option, Some, None, Err}
use Rattle.std.proofs.Common.{inl, inr, ◌⊎◌}
use Rattle.std.specs.Prelude.{Contains, option_map}
use Rattle.std.proofs.lemmas.Bool.{false≢true}
use Rattle.flu_lemmas.proofs.Told.{told_both, told_then, told_weaker}
use Rattle.flu_outside.specs.Outside.{Contents, WhereTold}
use Rattle.flu_outside.specs.Taking.{TookFronts}
use Rattle.flu_outside.specs.Writing.{AppendsAll}
use Rattle.flu_model.specs.declared.jobs.Program.{Program}
use Rattle.flu_model.specs.declared.plans.Node.{Node}
use Rattle.flu_model.specs.Modes.{IsAccepted}
use Rattle.flu_model.specs.Validity.{IsValid}
use Rattle.flu_deps.specs.declared.checked.Checked.{Checked}
use Rattle.flu_deps.specs.declared.valid.Valid.{Valid as ValidPlan}
use Rattle.flu_deps.specs.Checking.{program_of}
use Rattle.flu_deps.specs.Validated.{plan_of}
use Rattle.flu_streams.specs.Files.{files_of}
use Rattle.flu_selected.specs.Gathering.{IsRead}
use Rattle.flu_selected.specs.Laws.{closed_files}
use Rattle.flu_selected.specs.Selecting.{is_among}
use Rattle.flu_readers.specs.Reading.{reads, reads_rest}
use Rattle.flu_receiving.specs.Laws.{PartialsHaveOneText}
use Rattle.flu_contribution.specs.Contributions.{Contribution}
use Rattle.flu_combine.specs.Combined.{IsReadBeside}
use Rattle.flu_combine.specs.Partials.{node_named, IsPartialOf, ArePartials}
use Rattle.flu_lines.specs.declared.refusals.SaveDefect.TheVariants as saves
use Rattle.flu_lines.specs.declared.refusals.Refusal.{Refusal}
use Rattle.flu_lines.specs.declared.refusals.Refusal.TheVariants as refusals
use Rattle.flu_lines.specs.declared.parts.NodeDefect.{NodeDefect}
use Rattle.flu_lines.specs.declared.parts.FileDefect.{FileDefect}
use Rattle.flu_words.specs.Words.{Command, Valid}
use Rattle.flu_words.specs.Parts.{PartCommand, Partial, Combine}
use Rattle.flu_command.specs.Behind.{Named, HasPlan}
use Rattle.flu_command.specs.Taking.{TookOnly}
use Rattle.flu_command.specs.Wants.{texts_named}
use Rattle.flu_command.specs.Done.{IsReadName}
use Rattle.flu_command.specs.Ready.{IsReady, HasNodes}
use Rattle.flu_top.specs.Ending.{Call, call, WroteNothing}
use Rattle.flu_top.specs.Refusing.{IsRefusal}
use Rattle.flu_parts.specs.declared.stops.Stop.{Stop}
use Rattle.flu_parts.specs.declared.stops.Stop.TheVariants as stops
use Rattle.flu_parts.specs.Planned.{job_of_part, plan_of_part, texts_of, behind, IsPlanned}
use Rattle.flu_parts.specs.Written.{IsTextOf, IsWritten}
use Rattle.flu_parts.specs.Causes.{IsSourceDefect, IsFileDefect, IsReadFaultBehind, HasNodeDefect, HasFileDefect, InTexts, Behind}
use Rattle.flu_parts.specs.ReadNames.{IsReadPart, IsBehind}
use Rattle.flu_parts.specs.Ending.{IsNodeStop, IsFileStop, IsStop, IsReadBehind, LeavesBehind, refusal_of_stop, IsStopped, IsEnding}
use Rattle.flu_parts.proofs.Names.{among, among_there}

-- ---- the job and the plan refuse it
never_starts : (name : List ℕ) → (None ≡ Some name) ⊎ (None ≡ Some name) → ⊥
never_starts name (inl saved) = absurd (cc)
never_starts name (inr resumed) = absurd (cc)

not_named : (name : List ℕ) → None ≡ Some name → ⊥
not_named name named = cc

pub stopped_in_texts : (c : Call) (command : PartCommand) (refusal : Refusal)
    → IsRefusal (texts_of command) c.left c.left_after c.counts c.counts_after refusal → WroteNothing c → IsStopped c command refusal
stopped_in_texts c command (refusals.BadWords bad) why nothing = why
stopped_in_texts c command (refusals.JobFault fault text) why nothing = (why, nothing)
stopped_in_texts c command (refusals.Conflict fault) why nothing = (why, nothing)
stopped_in_texts c command (refusals.PlanDefect defect) why nothing = (why, nothing)
stopped_in_texts c command (refusals.SourceFault job fault) why nothing = absurd (false≢true why.asked)
stopped_in_texts c command refusals.ReadFault why nothing = (InTexts why, nothing)
stopped_in_texts c command refusals.WriteFault why nothing = absurd why
stopped_in_texts c command refusals.NoMemory why nothing = nothing
stopped_in_texts c command (refusals.SaveDefect (saves.SameName checked number)) why nothing = absurd (never_starts why.name why.named)
stopped_in_texts c command (refusals.SaveDefect (saves.Checkpoint fault)) why nothing = absurd (never_starts why.1.name why.1.named)
stopped_in_texts c command refusals.PutFault why nothing = absurd why
stopped_in_texts c command (refusals.TraceFault fault) why nothing = absurd (not_named why.trace why.named)

-- the command that reads a job and a plan of these names
pub same_texts : (command : PartCommand) (job plan : List ℕ) → job ≡ job_of_part command → plan ≡ plan_of_part command → Valid job plan ≡ texts_of command
same_texts command job plan its_job its_plan = λ i. Valid (its_job i) (its_plan i)

-- ---- the job and the plan are there
planned_at : (command : PartCommand) (job plan : List ℕ) (p : Program) (nodes : List Node) (x y : Contents) → job ≡ job_of_part command
    → plan ≡ plan_of_part command → IsAccepted p → IsValid p nodes → IsReady (Valid job plan) p x y → HasNodes job plan p nodes x y
    → IsPlanned command x p nodes
planned_at command job plan p nodes x y its_job its_plan accepted valid ready has =
    let moved = subst (λ (d : Command). IsReady d p x y) (same_texts command job plan its_job its_plan) ready in
    record {
      has = moved.has;
      accepted = accepted;
      plan = subst (λ (n : List ℕ). HasPlan (Named (job_of_part command)) n x p nodes) its_plan
          (subst (λ (n : List ℕ). HasPlan (Named n) plan x p nodes) its_job has);
      valid = valid;
    }

pub planned_told : (command : PartCommand) (job plan : List ℕ) (p : Program) (nodes : List Node) (a m : Option Contents) → job ≡ job_of_part command
    → plan ≡ plan_of_part command → IsAccepted p → IsValid p nodes → WhereTold a m (IsReady (Valid job plan) p) → WhereTold a m (HasNodes job plan p nodes)
    → WhereTold a m (λ left now. IsPlanned command left p nodes)
planned_told command job plan p nodes a m its_job its_plan accepted valid ready has =
    told_weaker (λ x y. IsReady (Valid job plan) p x y × HasNodes job plan p nodes x y) (λ left now. IsPlanned command left p nodes) a m
    (λ x y h. planned_at command job plan p nodes x y its_job its_plan accepted valid h.0 h.1)
    (told_both (IsReady (Valid job plan) p) (HasNodes job plan p nodes) a m ready has)

-- what is left then
pub behind_told : (command : PartCommand) (p : Program) (a m : Option Contents) → WhereTold a m (IsReady (texts_of command) p)
    → m ≡ option_map (behind command) a
behind_told command p None None ready = refl
behind_told command p None (Some y) ready = absurd ready
behind_told command p (Some x) None ready = absurd ready
behind_told command p (Some x) (Some y) ready = ap Some (sym ready.texts.behind)

pub texts_end : (command : PartCommand) (p : Program) (a m : Option Contents) → WhereTold a m (IsReady (texts_of command) p)
    → WhereTold a m (λ x y. (name : List ℕ) → Contains (texts_named (texts_of command)) name → y name ≡ Some [])
texts_end command p a m ready =
    told_weaker (IsReady (texts_of command) p) (λ x y. (name : List ℕ) → Contains (texts_named (texts_of command)) name → y name ≡ Some []) a m
    (λ x y h. h.texts.ends) ready

-- what is true of what is left then is true of what was left before
pub told_behind : (f : Contents → Contents) (P : Contents → Contents → Type 0) (a b : Option Contents) → WhereTold (option_map f a) b P
    → WhereTold a b (λ x y. P (f x) y)
told_behind f P None None is = is
told_behind f P None (Some y) is = is
told_behind f P (Some x) None is = is
told_behind f P (Some x) (Some y) is = is

-- ---- what was read to its end stays so
-- the files that a node reads, where they were read to their ends
stays_read : (p : Program) (is_read : ℕ → Bool) (y z : Contents) (name : List ℕ) → y name ≡ Some []
    → ((n : List ℕ) → IsRead p is_read n → z n ≡ Some []) → (¬ IsRead p is_read name → z name ≡ y name) → z name ≡ Some []
stays_read p is_read y z name out ends leaves = by_test (is_among (closed_files p is_read) name) refl (is_among (files_of p.sources) name) refl
  where
    by_test : (b : Bool) → is_among (closed_files p is_read) name ≡ b → (d : Bool) → is_among (files_of p.sources) name ≡ d → z name ≡ Some []
    by_test true closed d file = leaves (λ read. false≢true (sym read.1 ∙ closed)) ∙ out
    by_test false closed true file = ends name (among_there (files_of p.sources) name file, closed)
    by_test false closed false file = leaves (λ read. false≢true (sym file ∙ among (files_of p.sources) name read.0)) ∙ out

-- one partial is of one node
one_number : (a b : Option ℕ) (v w : ℕ) → a ≡ b → a ≡ Some v → b ≡ Some w → v ≡ w
one_number a b v w same first second = cc

one_node : PartialsHaveOneText → (p : Program) (nodes : List Node) (bytes : List ℕ) (v w : ℕ) (ks ls : List Contribution) → IsPartialOf p nodes bytes v ks
    → IsPartialOf p nodes bytes w ls → v ≡ w
one_node law p nodes bytes v w ks ls first second =
    one_number (node_named nodes first.head.node) (node_named nodes second.head.node) v w
    (ap (λ h. node_named nodes h.node) (law bytes first.head second.head first.lines second.lines first.whole second.whole).0)
    first.of_node.node second.of_node.node

one_list : PartialsHaveOneText → (p : Program) (nodes : List Node) (left : Contents) (names : List (List ℕ)) (vs ws : List ℕ)
    (ks ls : List (List Contribution)) → ArePartials p nodes left names vs ks → ArePartials p nodes left names ws ls → vs ≡ ws
one_list law p nodes left [] [] [] ks ls first second = refl
one_list law p nodes left [] [] (w ∷ ws) ks ls first second = absurd second
one_list law p nodes left [] (v ∷ vs) ws ks ls first second = absurd first
one_list law p nodes left (name ∷ names) [] ws ks ls first second = absurd first
one_list law p nodes left (name ∷ names) (v ∷ vs) ws [] ls first second = absurd first
one_list law p nodes left (name ∷ names) (v ∷ vs) [] (k ∷ ks) ls first second = absurd second
one_list law p nodes left (name ∷ names) (v ∷ vs) (w ∷ ws) (k ∷ ks) [] first second = absurd second
one_list law p nodes left (name ∷ names) (v ∷ vs) (w ∷ ws) (k ∷ ks) (l ∷ ls) first second =
    λ i. one_node law p nodes _ v w k l first.0 second.0 i ∷ one_list law p nodes left names vs ws ks ls first.1 second.1 i

-- a name that had nothing left has nothing left once a command was done
stays : PartialsHaveOneText → (command : PartCommand) (p : Program) (nodes : List Node) (text : List ℕ) (y z : Contents) → IsTextOf command p nodes text y z
    → LeavesBehind command p nodes y z → (name : List ℕ) → y name ≡ Some [] → z name ≡ Some []
stays law (Partial job plan node) p nodes text y z (w, apart, is) leaves name out =
    stays_read p (reads p nodes w) y z name out is.ends (λ unread. leaves name (λ read. unread (moved read.0 w (one_number _ _ read.0 w refl
    read.1.named apart.named) read.2)))
  where
    moved : (u v : ℕ) → u ≡ v → IsRead p (reads p nodes u) name → IsRead p (reads p nodes v) name
    moved u v same read = subst (λ n. IsRead p (reads p nodes n) name) same read
stays law (Combine job plan names) p nodes text y z (none, is) leaves name out = by_test (is_among names name) refl
  where
    at_end : ¬ Contains names name → z name ≡ Some []
    at_end unnamed =
        stays_read p (reads_rest p nodes is.ws) y z name out is.sources_end
        (λ unread. leaves name (λ read. elim read.1 [
          | inl named ↦ unnamed named
          | inr beside ↦ unread (subst (λ ws. IsRead p (reads_rest p nodes ws) name)
              (one_list law p nodes y names beside.0 is.ws beside.1 is.queues beside.3.partials is.accepted.partials) beside.4)
        ]))

    by_test : (b : Bool) → is_among names name ≡ b → z name ≡ Some []
    by_test true here = is.partials_end name (among_there names name here)
    by_test false other = at_end (λ named. false≢true (sym other ∙ among names name named))

-- ---- how it ended
-- all was read, and this is the text
written_at : PartialsHaveOneText → (command : PartCommand) (p : Program) (nodes : List Node) (text : List ℕ) (x y z : Contents) → y ≡ behind command x
    → IsPlanned command x p nodes → ((name : List ℕ) → Contains (texts_named (texts_of command)) name → y name ≡ Some [])
    → IsTextOf command p nodes text y z → LeavesBehind command p nodes y z → IsWritten command text x z
written_at law command p nodes text x y z same planned ends is leaves = record {
  p = p;
  nodes = nodes;
  planned = planned;
  ends = λ name named. stays law command p nodes text y z is leaves name (ends name named);
  is = subst (λ (left : Contents). IsTextOf command p nodes text left z) same is;
}

-- what a call finds and leaves that works behind the job and the plan: what was left when it began, what is left behind them, and at its end
module _ (law : PartialsHaveOneText) (command : PartCommand) (checked : Checked) (valid : ValidPlan) (a m b : Option Contents) where
  abbrev p : Program
  p = program_of checked

  abbrev nodes : List Node
  nodes = (plan_of valid).nodes

  written_told : (text : List ℕ) → WhereTold a m (λ left now. IsPlanned command left p nodes) → WhereTold a m (IsReady (texts_of command) p)
      → WhereTold m b (IsTextOf command p nodes text) → WhereTold m b (LeavesBehind command p nodes) → WhereTold a b (IsWritten command text)
  written_told text planned ready is leaves =
      told_then (λ x y. IsPlanned command x p nodes × IsReady (texts_of command) p x y)
      (λ y z. IsTextOf command p nodes text y z × LeavesBehind command p nodes y z) (IsWritten command text) a m b
      (λ x y z h k. written_at law command p nodes text x y z (sym h.1.texts.behind) h.0 h.1.texts.ends k.0 k.1)
      (told_both (λ left now. IsPlanned command left p nodes) (IsReady (texts_of command) p) a m planned ready)
      (told_both (IsTextOf command p nodes text) (LeavesBehind command p nodes) m b is leaves)

  -- what is true of what is left behind them, and the job and the plan
  planned_and : (P : Contents → Contents → Type 0) (Q : Contents → Contents → Type 0) → ((x z : Contents) → P (behind command x) z → Q x z)
      → WhereTold a m (λ left now. IsPlanned command left p nodes) → WhereTold a m (IsReady (texts_of command) p)
      → WhereTold m b P → WhereTold a b (λ left now. IsPlanned command left p nodes × Q left now)
  planned_and P Q weaken planned ready is =
      told_then (λ x y. IsPlanned command x p nodes × IsReady (texts_of command) p x y) P (λ left now. IsPlanned command left p nodes × Q left now) a m b
      (λ x y z h k. (h.0, weaken x z (subst (λ (left : Contents). P left z) (sym h.1.texts.behind) k)))
      (told_both (λ left now. IsPlanned command left p nodes) (IsReady (texts_of command) p) a m planned ready) is

  planned_on : WhereTold a m (λ left now. IsPlanned command left p nodes) → WhereTold m b TookFronts
      → WhereTold a b (λ left now. IsPlanned command left p nodes)
  planned_on planned fronts = told_then (λ left now. IsPlanned command left p nodes) TookFronts (λ left now. IsPlanned command left p nodes) a m b
      (λ x y z h k. h) planned fronts

  node_defect : (d : PartCommand) → d ≡ command → (name : List ℕ) (why : NodeDefect) → IsNodeStop d p nodes name why
      → WhereTold a b (λ left now. IsPlanned d left p nodes) → HasNodeDefect d a b p nodes name why
  node_defect (Partial job plan node) same name why is planned = (is.0, is.1, planned)
  node_defect (Combine job plan partials) same name why is planned = absurd is

  file_defect : (d : PartCommand) → d ≡ command → (name : List ℕ) (why : FileDefect) → IsFileStop d p nodes name why m b
      → ((P : Contents → Contents → Type 0) (Q : Contents → Contents → Type 0) → ((x z : Contents) → P (behind d x) z → Q x z) → WhereTold m b P
      → WhereTold a b (λ left now. IsPlanned d left p nodes × Q left now)) → HasFileDefect d a b p nodes name why
  file_defect (Partial job plan node) same name why is planned = absurd is
  file_defect (Combine job plan partials) same name why is planned = (
    is.0,
    is.1,
    is.2,
    planned (λ was then. IsFileDefect p nodes partials was is.0 why)
        (λ left now. IsFileDefect p nodes partials (behind (Combine job plan partials) left) is.0 why) (λ x z h. h) is.3,
  )

  pub stopped_behind : (k km l u v : List ℕ → ℕ) (t s : Option (List ℕ)) (n o : ℕ) (stop : Stop) → IsAccepted p → IsValid p nodes
      → WhereTold a m (λ left now. IsPlanned command left p nodes) → WhereTold a m (IsReady (texts_of command) p) → k ≡ km
      → WhereTold m b TookFronts → WhereTold m b (LeavesBehind command p nodes) → IsStop command p nodes (call m b km l u v t s n o) stop
      → IsEnding (call a b k l u v t s n o) command (Err (refusal_of_stop checked valid stop))
  stopped_behind k km l u v t s n o (stops.Node name why) accepted plan planned ready same fronts leaves is =
      (node_defect command refl name.now why is.0 (planned_on planned fronts), is.1)
  stopped_behind k km l u v t s n o (stops.File name why) accepted plan planned ready same fronts leaves is =
      (file_defect command refl name.now why is.0 (λ P Q weaken. planned_and P Q weaken planned ready), is.1)
  stopped_behind k km l u v t s n o (stops.Source fault) accepted plan planned ready same fronts leaves is = (
    record {
      nodes = nodes;
      source = is.0;
      first = planned_and (λ left now. IsSourceDefect command p nodes left fault) (λ left now. IsSourceDefect command p nodes (behind command left) fault)
          (λ x z h. h) planned ready is.1;
    },
    is.2,
  )
  stopped_behind k km l u v t s n o stops.ReadFault accepted plan planned ready same fronts leaves is = (
    Behind p nodes accepted plan (planned_on planned fronts)
        (subst (λ (left : Option Contents). IsReadFaultBehind command p nodes left b k l) (behind_told command p a m ready)
        (subst (λ (counts : List ℕ → ℕ). IsReadFaultBehind command p nodes m b counts l) (sym same) is.0)),
    is.1,
  )
  stopped_behind k km l u v t s n o stops.WriteFault accepted plan planned ready same fronts leaves is =
      (is.0, written_told is.0 planned ready is.1 leaves, is.2, is.3)
  stopped_behind k km l u v t s n o stops.NoMemory accepted plan planned ready same fronts leaves is = is

  pub done_behind : (text : List ℕ) (t s : Option (List ℕ)) → WhereTold a m (λ left now. IsPlanned command left p nodes)
      → WhereTold a m (IsReady (texts_of command) p) → WhereTold m b (LeavesBehind command p nodes) → WhereTold m b (IsTextOf command p nodes text)
      → WhereTold t s (AppendsAll text)
      → (bytes : List ℕ) × WhereTold a b (IsWritten command bytes) × WhereTold t s (AppendsAll bytes)
  done_behind text t s planned ready leaves is wrote = (text, written_told text planned ready is leaves, wrote)

  -- ---- the names that it reads
  behind_is_read : (d : PartCommand) (x y : Contents) (name : List ℕ) → y ≡ behind d x → IsAccepted p → IsValid p nodes → IsPlanned d x p nodes
      → IsReadBehind d p nodes y name → IsBehind (Some x) d name
  behind_is_read (Partial job plan node) x y name same accepted fits planned read = record {
    p = p;
    nodes = nodes;
    may = record { accepted = accepted; valid = fits; planned = planned };
    named = inr (read.2.0, (read.0, read.1, read.2));
  }
  behind_is_read (Combine job plan partials) x y name same accepted fits planned read = record {
    p = p;
    nodes = nodes;
    may = record { accepted = accepted; valid = fits; planned = planned };
    named = elim read.1 [
      | inl named ↦ inl (read.0, named)
      | inr beside ↦ inr (beside.4.0, read.0, subst (λ (left : Contents). IsReadBeside p nodes partials left name) same beside)
    ];
  }

  pub only_behind : IsAccepted p → IsValid p nodes → WhereTold a m (λ left now. IsPlanned command left p nodes) → WhereTold a m (IsReady (texts_of command) p)
      → WhereTold a m (TookOnly (IsReadName a (texts_of command))) → WhereTold m b (LeavesBehind command p nodes)
      → WhereTold a b (TookOnly (IsReadPart a command))
  only_behind accepted plan planned ready only leaves = by_told a m b planned ready only leaves
    where
      by_told : (a m b : Option Contents) → WhereTold a m (λ left now. IsPlanned command left p nodes) → WhereTold a m (IsReady (texts_of command) p)
          → WhereTold a m (TookOnly (IsReadName a (texts_of command))) → WhereTold m b (LeavesBehind command p nodes)
          → WhereTold a b (TookOnly (IsReadPart a command))
      by_told None None None planned ready only leaves = tt
      by_told None None (Some z) planned ready only leaves = absurd leaves
      by_told None (Some y) b planned ready only leaves = absurd ready
      by_told (Some x) None b planned ready only leaves = absurd ready
      by_told (Some x) (Some y) None planned ready only leaves = absurd leaves
      by_told (Some x) (Some y) (Some z) planned ready only leaves =
          λ name unread. leaves name (λ read. unread (inr (behind_is_read command x y name (sym ready.texts.behind) accepted plan planned read)))
          ∙ only name (λ read. unread (inl read))

pub only_in_texts : (command : PartCommand) (a m : Option Contents) → WhereTold a m (TookOnly (IsReadName a (texts_of command)))
    → WhereTold a m (TookOnly (IsReadPart a command))
only_in_texts command a m only =
    told_weaker (TookOnly (IsReadName a (texts_of command))) (TookOnly (IsReadPart a command)) a m
    (λ x y took name unread. took name (λ read. unread (inl read))) only
