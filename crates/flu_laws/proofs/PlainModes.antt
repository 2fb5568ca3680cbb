-- A tag has the same mode on a cell for programs of one job.
use Rattle.std.proofs.Common.{◌≡◌, refl, sym, ap, ◌∙◌, ℕ, List, Bool, false, ◌||◌, ◌==◌, map, Option, Some, None}
use Rattle.std.specs.Prelude.{option_map, slice_get}
use Rattle.std.specs.List.{list_any}
use Rattle.std.proofs.Math.Path.{fun_ext}
use Rattle.std.proofs.lemmas.Option.{slice_get-map}
use Rattle.flu_lemmas.proofs.Searches.{list_any-map}
use Rattle.flu_model.specs.declared.events.Cell.{Cell}
use Rattle.flu_model.specs.declared.events.Tag.{Tag}
use Rattle.flu_model.specs.declared.jobs.Act.{Act}
use Rattle.flu_model.specs.declared.jobs.Act.TheVariants.{Add, Raise, Set, Clear, ClearFamily, Emit, Flush}
use Rattle.flu_model.specs.declared.jobs.Action.{Action}
use Rattle.flu_model.specs.declared.jobs.Expr.{Expr}
use Rattle.flu_model.specs.declared.jobs.Expr.TheVariants.{Lit, Value, Key, Item, Time, Read, Has, Neg', Not', Two'}
use Rattle.flu_model.specs.declared.jobs.Kind.{Kind}
use Rattle.flu_model.specs.declared.jobs.Program.{Program}
use Rattle.flu_model.specs.declared.modes.Mode.{Mode}
use Rattle.flu_model.specs.Erasure.{Term, Literal, EventValue, EventKey, EventItem, EventTime, CellRead, CellHeld, Negative, Negation, Operation, term_of}
use Rattle.flu_model.specs.Erasure.{PlainAct, Adding, Raising, Setting, Clearing, ClearingFamily, Emitting, Flushing, plain_act, PlainAction}
use Rattle.flu_model.specs.Erasure.{plain_action, PlainKind, plain_kind, Job, IsSameJob}
use Rattle.flu_model.specs.Modes.{means, expr_reads, guard_reads, piece_reads, act_reads, action_reads, act_overwrites, act_adds, act_raises, mode_from}
use Rattle.flu_model.specs.Modes.{mode_among, mode_of}
use Rattle.flu_model.specs.Updates.{actions_of}

-- ---- the mode of a tag depends on its kind as plain data
term_reads : ℕ → Cell → Term → Bool
term_reads key c (Literal n) = false
term_reads key c EventValue = false
term_reads key c EventKey = false
term_reads key c EventItem = false
term_reads key c EventTime = false
term_reads key c (CellRead r) = means key c r
term_reads key c (CellHeld r) = means key c r
term_reads key c (Negative e) = term_reads key c e
term_reads key c (Negation e) = term_reads key c e
term_reads key c (Operation op a b) = term_reads key c a || term_reads key c b

reads-term : (key : ℕ) (c : Cell) (e : Expr) → expr_reads key c e ≡ term_reads key c (term_of e)
unfolding term_reads
reads-term key c (Lit n) = refl
reads-term key c Value = refl
reads-term key c Key = refl
reads-term key c Item = refl
reads-term key c Time = refl
reads-term key c (Read r) = refl
reads-term key c (Has r) = refl
reads-term key c (Neg' p e) = reads-term key c e
reads-term key c (Not' p e) = reads-term key c e
reads-term key c (Two' op p a q b) = λ i. reads-term key c a i || reads-term key c b i

guard_term_reads : ℕ → Cell → Option Term → Bool
guard_term_reads key c None = false
guard_term_reads key c (Some e) = term_reads key c e

reads-guard : (key : ℕ) (c : Cell) (guard : Option Expr) → guard_reads key c guard ≡ guard_term_reads key c (option_map term_of guard)
unfolding guard_term_reads
reads-guard key c None = refl
reads-guard key c (Some e) = reads-term key c e

plain_act_reads : ℕ → Cell → PlainAct → Bool
plain_act_reads key c (Adding r e) = term_reads key c e
plain_act_reads key c (Raising r e) = term_reads key c e
plain_act_reads key c (Setting r e) = term_reads key c e
plain_act_reads key c (Clearing r) = false
plain_act_reads key c (ClearingFamily f) = false
plain_act_reads key c (Emitting ps) = list_any (piece_reads key c) ps
plain_act_reads key c (Flushing f ps) = list_any (piece_reads key c) ps

reads-act : (key : ℕ) (c : Cell) (act : Act) → act_reads key c act ≡ plain_act_reads key c (plain_act act)
unfolding plain_act_reads
reads-act key c (Add r e) = reads-term key c e
reads-act key c (Raise r e) = reads-term key c e
reads-act key c (Set r e) = reads-term key c e
reads-act key c (Clear r) = refl
reads-act key c (ClearFamily f) = refl
reads-act key c (Emit ps) = refl
reads-act key c (Flush f ps) = refl

plain_act_overwrites : ℕ → Cell → PlainAct → Bool
plain_act_overwrites key c (Adding r e) = false
plain_act_overwrites key c (Raising r e) = false
plain_act_overwrites key c (Setting r e) = means key c r
plain_act_overwrites key c (Clearing r) = means key c r
plain_act_overwrites key c (ClearingFamily f) = c.family == f
plain_act_overwrites key c (Emitting ps) = false
plain_act_overwrites key c (Flushing f ps) = c.family == f

overwrites-act : (key : ℕ) (c : Cell) (act : Act) → act_overwrites key c act ≡ plain_act_overwrites key c (plain_act act)
unfolding plain_act_overwrites
overwrites-act key c (Add r e) = refl
overwrites-act key c (Raise r e) = refl
overwrites-act key c (Set r e) = refl
overwrites-act key c (Clear r) = refl
overwrites-act key c (ClearFamily f) = refl
overwrites-act key c (Emit ps) = refl
overwrites-act key c (Flush f ps) = refl

plain_act_adds : ℕ → Cell → PlainAct → Bool
plain_act_adds key c (Adding r e) = means key c r
plain_act_adds key c act = false

adds-act : (key : ℕ) (c : Cell) (act : Act) → act_adds key c act ≡ plain_act_adds key c (plain_act act)
unfolding plain_act_adds
adds-act key c (Add r e) = refl
adds-act key c (Raise r e) = refl
adds-act key c (Set r e) = refl
adds-act key c (Clear r) = refl
adds-act key c (ClearFamily f) = refl
adds-act key c (Emit ps) = refl
adds-act key c (Flush f ps) = refl

plain_act_raises : ℕ → Cell → PlainAct → Bool
plain_act_raises key c (Raising r e) = means key c r
plain_act_raises key c act = false

raises-act : (key : ℕ) (c : Cell) (act : Act) → act_raises key c act ≡ plain_act_raises key c (plain_act act)
unfolding plain_act_raises
raises-act key c (Add r e) = refl
raises-act key c (Raise r e) = refl
raises-act key c (Set r e) = refl
raises-act key c (Clear r) = refl
raises-act key c (ClearFamily f) = refl
raises-act key c (Emit ps) = refl
raises-act key c (Flush f ps) = refl

plain_action_reads : ℕ → Cell → PlainAction → Bool
plain_action_reads key c a = guard_term_reads key c a.guard || plain_act_reads key c a.act

reads-plain : (key : ℕ) (c : Cell) (a : Action) → action_reads key c a ≡ plain_action_reads key c (plain_action a)
unfolding plain_action_reads
reads-plain key c a = λ i. reads-guard key c a.guard i || reads-act key c a.act i

-- a test of the actions is one of the plain actions
any-plain : (test : Action → Bool) (plain : PlainAction → Bool) → ((a : Action) → test a ≡ plain (plain_action a)) → (all : List Action)
    → list_any test all ≡ list_any plain (map plain_action all)
any-plain test plain same all = ap (λ f. list_any f all) (fun_ext same) ∙ sym (list_any-map plain plain_action all)

plain_mode : ℕ → ℕ → Cell → Option PlainKind → Mode
plain_mode version key c None = mode_from version false false false false
plain_mode version key c (Some k) =
    mode_from version (list_any (plain_action_reads key c) k.actions) (list_any (λ (a : PlainAction). plain_act_overwrites key c a.act) k.actions)
    (list_any (λ (a : PlainAction). plain_act_adds key c a.act) k.actions) (list_any (λ (a : PlainAction). plain_act_raises key c a.act) k.actions)

mode-plain : (version key : ℕ) (c : Cell) (kind : Option Kind) → mode_among version (actions_of kind) key c
    ≡ plain_mode version key c (option_map plain_kind kind)
unfolding plain_mode
mode-plain version key c None = refl
mode-plain version key c (Some k) =
    let reads = any-plain (action_reads key c) (plain_action_reads key c) (reads-plain key c) k.actions in
    let overwrites = any-plain (λ a. act_overwrites key c a.act) (λ a. plain_act_overwrites key c a.act) (λ a. overwrites-act key c a.act) k.actions in
    let adds = any-plain (λ a. act_adds key c a.act) (λ a. plain_act_adds key c a.act) (λ a. adds-act key c a.act) k.actions in
    let raises = any-plain (λ a. act_raises key c a.act) (λ a. plain_act_raises key c a.act) (λ a. raises-act key c a.act) k.actions in
    λ i. mode_from version (reads i) (overwrites i) (adds i) (raises i)

mode_by_plain : (version : ℕ) (kinds : List Kind) (t : Tag) (c : Cell)
    → mode_among version (actions_of (slice_get kinds t.kind)) t.key c ≡ plain_mode version t.key c (slice_get (map plain_kind kinds) t.kind)
mode_by_plain version kinds t c = mode-plain version t.key c (slice_get kinds t.kind)
    ∙ ap (plain_mode version t.key c) (sym (slice_get-map plain_kind kinds t.kind))

pub same_mode : (p q : Program) (t : Tag) (c : Cell) → IsSameJob p q → mode_of p t c ≡ mode_of q t c
same_mode p q t c same =
    mode_by_plain p.version p.kinds t c
    ∙ (ap (λ (j : Job). plain_mode j.version t.key c (slice_get j.kinds t.kind)) same ∙ sym (mode_by_plain q.version q.kinds t c))
