-- What is spelled as a job is found, as that job.
use Rattle.std.proofs.Common.{◌≡◌, ◌≢◌, ℕ, Bool, true, false, List, [], ◌∷◌, ◌++◌, Option, Some, None, refl, sym, ap, subst, ◌∙◌, append_assoc, arith}
use Rattle.std.specs.List.{flat_map}
use Rattle.std.proofs.lemmas.List.{append-nil}
use Rattle.flu_text.specs.declared.words.Token.{Token}
use Rattle.flu_text.specs.declared.words.Word.{Word}
use Rattle.flu_text.specs.declared.words.Word.TheVariants as w
use Rattle.flu_text.specs.declared.words.Contextual.TheVariants as contextual
use Rattle.flu_names.specs.declared.reserved.Reserved.TheVariants as r
use Rattle.flu_text.specs.declared.words.Mark.TheVariants as m
use Rattle.flu_model.specs.declared.jobs.Sort.{Sort}
use Rattle.flu_model.specs.declared.jobs.Sort.TheVariants as sort
use Rattle.flu_syntax.specs.declared.tokens.Verb.{Verb}
use Rattle.flu_syntax.specs.declared.tokens.Verb.TheVariants as verb
use Rattle.flu_text.specs.declared.written.WrittenSpan.{WrittenSpan}
use Rattle.flu_text.specs.declared.written.WrittenNumber.{WrittenNumber}
use Rattle.flu_text.specs.declared.written.WrittenKeys.{WrittenKeys}
use Rattle.flu_text.specs.declared.written.WrittenKeys.TheVariants as keys
use Rattle.flu_syntax.specs.declared.tree.WrittenTag.{WrittenTag}
use Rattle.flu_syntax.specs.declared.tree.WrittenBy.{WrittenBy}
use Rattle.flu_syntax.specs.declared.tree.WrittenCells.{WrittenCells}
use Rattle.flu_syntax.specs.declared.tree.WrittenCells.TheVariants as cells
use Rattle.flu_syntax.specs.declared.tree.WrittenItem.{WrittenItem}
use Rattle.flu_syntax.specs.declared.tree.WrittenRelation.{WrittenRelation}
use Rattle.flu_syntax.specs.declared.tree.WrittenRelation.TheVariants as relation
use Rattle.flu_syntax.specs.Tree.{Tree, Deed, Writes, Clears, Emits, Flushes, Action, Declaration, Cell, Tag, Names, Depends, On, Source, Clock, Declarations}
use Rattle.flu_syntax.specs.Machine.{tag_of, Actions, Tags, Context, Amount, Guard, Want, Done, ToWrite, ToClear, Now, Start, Declared, CellName, CellForm}
use Rattle.flu_syntax.specs.Machine.{CellSort, TagName, TagForm, TagItem, TagValue, DependsFirst, DependsSecond, DependsHow, SourceName, SourceFile, SourceRate}
use Rattle.flu_syntax.specs.Machine.{SourceColon, TagKind, TagKeys, TagLow, TagMore, TagHigh, TagClose, TagEnd, OnKind}
use Rattle.flu_syntax.specs.Machine.{OnColon, ActionStart, DeedEnd, ActionEnd, EmitText, FlushFamily, FlushText, CellFamily, InExpression, Goes, acted}
use Rattle.flu_syntax.specs.Machine.{listed, source_of, deed_step, action_step, operator_of, doing_of, sort_of, value_of, heading_of, opening, step, Found}
use Rattle.flu_syntax.specs.Machine.{run, CellBy, CellList, TagBy, TagList, NamesName, NamesColon, NamesText, NamesEnd, Listing, by_of, item_of, listing_of}
use Rattle.flu_syntax.specs.Machine.{texted}
use Rattle.flu_syntax.specs.Machine.{ClockName, ClockEvery, ClockPeriod, ClockRate, ClockColon, ClockTag}
use Rattle.flu_text.specs.Signs.{Sign, Any, At, Spanned, Named, IsSign, AreSigns, text, keys_signs}
use Rattle.flu_syntax.specs.Grammar.{sort_word, value_word, verb_word, cell_signs, spelled, IsExpression, deed_signs, IsDeed}
use Rattle.flu_syntax.specs.Grammar.{guard_signs, IsGuard, action_signs, AreActions, tag_signs, keyed_signs, list_signs, cells_signs, item_signs}
use Rattle.flu_syntax.specs.Grammar.{relation_signs, rate_signs, slack_signs, declaration_signs, IsDeclaration, declarations_signs, AreDeclarations}
use Rattle.flu_syntax.specs.Reading.{no_actions}
use Rattle.flu_syntax.proofs.Runs.{run-behind, begins, job_ends, opens-nil}
use Rattle.flu_syntax.proofs.Parts.{run-passed, run-closed, run-declared, run-no_relation, deed_plain}
use Rattle.flu_syntax.proofs.Parts.{cell_plain, cell_listless, tag_plain, tag_itemless, tag_listless, names_end, tag_alone}
use Rattle.flu_syntax.proofs.Parts.{tags_end, actions_end}
use Rattle.flu_syntax.proofs.Accepts.{MayBe, on_named, Reaches, Same, Stops, ◌then◌, LeadsTo, takes_sign, NoBracket, NotWord, not_first, bracket_word, Quiet}
use Rattle.flu_syntax.proofs.Accepts.{Quiet-follows, passes_quiet, high_of, top, accepts, accepts_cell, no_bracket}
use Rattle.flu_syntax.proofs.SourceSteps.{source_name_step, source_file_step, source_colon_step, behind_rate, accepts_rate, accepts_slack, clock_name_step}
use Rattle.flu_syntax.proofs.SourceSteps.{clock_every_step, clock_period_step, clock_colon_step, clock_tag_step, accepts_clock_rate}

-- ---- what stands behind a declaration

pub record IsHeading (s : Sign) : Type 0 where
  pub quiet : (word : Word) → MayBe s word → operator_of word ≡ None
  pub bracket : MayBe s (w.Mark m.OpenBracket) → ⊥
  pub semicolon : MayBe s (w.Mark m.Semicolon) → ⊥
  pub comma : MayBe s (w.Mark m.Comma) → ⊥
  pub guarded : MayBe s (w.Reserved r.When) → ⊥
  pub same : MayBe s (w.Reserved r.Same) → ⊥
  pub all : MayBe s (w.Reserved r.All) → ⊥

abbrev pub Ends : List Sign → Type 0
Ends [] = Unit {0}
Ends (s ∷ more) = IsHeading s

headed : (d : Declaration) (more : List Sign) → Ends (declaration_signs d ++ more)
unfolding operator_of
headed (Cell n cells s) more = record
    { quiet = λ word is. rw is refl; bracket = λ e. cc; semicolon = λ e. cc; comma = λ e. cc; guarded = λ e. cc; same = λ e. cc; all = λ e. cc }
headed (Tag n keyed item has_value) more = record
    { quiet = λ word is. rw is refl; bracket = λ e. cc; semicolon = λ e. cc; comma = λ e. cc; guarded = λ e. cc; same = λ e. cc; all = λ e. cc }
headed (Names at n texts) more = record
    { quiet = λ word is. rw is refl; bracket = λ e. cc; semicolon = λ e. cc; comma = λ e. cc; guarded = λ e. cc; same = λ e. cc; all = λ e. cc }
headed (Depends a b how) more = record
    { quiet = λ word is. rw is refl; bracket = λ e. cc; semicolon = λ e. cc; comma = λ e. cc; guarded = λ e. cc; same = λ e. cc; all = λ e. cc }
headed (On kind actions) more = record
    { quiet = λ word is. rw is refl; bracket = λ e. cc; semicolon = λ e. cc; comma = λ e. cc; guarded = λ e. cc; same = λ e. cc; all = λ e. cc }
headed (Source n file rate slack tags) more = record
    { quiet = λ word is. rw is refl; bracket = λ e. cc; semicolon = λ e. cc; comma = λ e. cc; guarded = λ e. cc; same = λ e. cc; all = λ e. cc }
headed (Clock at n every rate tag) more = record
    { quiet = λ word is. rw is refl; bracket = λ e. cc; semicolon = λ e. cc; comma = λ e. cc; guarded = λ e. cc; same = λ e. cc; all = λ e. cc }

declarations_headed : (job : Declarations) → Ends (declarations_signs job)
declarations_headed [] = tt
declarations_headed (d ∷ job) = headed d (declarations_signs job)

ends_quiet : (more : List Sign) → Ends more → Quiet more
ends_quiet [] h = tt
ends_quiet (s ∷ more) h = (h.quiet, h.bracket)

ends_bracket : (more : List Sign) → Ends more → NoBracket more
ends_bracket [] h = tt
ends_bracket (s ∷ more) h = h.bracket

ends_semicolon : (more : List Sign) → Ends more → NotWord (w.Mark m.Semicolon) more
ends_semicolon [] h = tt
ends_semicolon (s ∷ more) h = h.semicolon

ends_comma : (more : List Sign) → Ends more → NotWord (w.Mark m.Comma) more
ends_comma [] h = tt
ends_comma (s ∷ more) h = h.comma

ends_when : (more : List Sign) → Ends more → NotWord (w.Reserved r.When) more
ends_when [] h = tt
ends_when (s ∷ more) h = h.guarded

ends_same : (more : List Sign) → Ends more → NotWord (w.Reserved r.Same) more
ends_same [] h = tt
ends_same (s ∷ more) h = h.same

ends_all : (more : List Sign) → Ends more → NotWord (w.Reserved r.All) more
ends_all [] h = tt
ends_all (s ∷ more) h = h.all

quiet_bracket : (more : List Sign) → Quiet more → NoBracket more
quiet_bracket [] h = tt
quiet_bracket (s ∷ more) h = h.1

-- behind an action: a semicolon, or what ends its declaration
abbrev Behind : List Sign → Type 0
Behind more = Quiet more × NotWord (w.Reserved r.When) more

-- ---- actions

verb_step : (so_far : Actions) (at : ℕ) (v : Verb) (t : Token) → IsSign (At (verb_word v) at) t
    → step (ActionStart so_far) t ≡ Goes (CellFamily (ToWrite so_far at v))
unfolding step doing_of
verb_step so_far at verb.Add t h = rw (h.0, h.1) refl
verb_step so_far at verb.Raise t h = rw (h.0, h.1) refl
verb_step so_far at verb.Set t h = rw (h.0, h.1) refl

clear_step : (so_far : Actions) (at : ℕ) (t : Token) → IsSign (At (w.Reserved r.Clear) at) t
    → step (ActionStart so_far) t ≡ Goes (CellFamily (ToClear so_far at))
unfolding step doing_of
clear_step so_far at t h = rw (h.0, h.1) refl

emit_step : (so_far : Actions) (at : ℕ) (t : Token) → IsSign (At (w.Reserved r.Emit) at) t → step (ActionStart so_far) t ≡ Goes (EmitText so_far at)
unfolding step doing_of
emit_step so_far at t h = rw (h.0, h.1) refl

flush_step : (so_far : Actions) (at : ℕ) (t : Token) → IsSign (At (w.Reserved r.Flush) at) t → step (ActionStart so_far) t ≡ Goes (FlushFamily so_far at)
unfolding step doing_of
flush_step so_far at t h = rw (h.0, h.1) refl

emit_text_step : (so_far : Actions) (at : ℕ) (file : WrittenSpan) (t : Token) → IsSign (Spanned w.Text file) t
    → step (EmitText so_far at) t ≡ Goes (DeedEnd so_far at (Emits file))
unfolding step
emit_text_step so_far at file t h = rw (h.0, h.1, h.2) refl

flush_family_step : (so_far : Actions) (at : ℕ) (family : WrittenSpan) (t : Token) → IsSign (Named family) t
    → step (FlushFamily so_far at) t ≡ Goes (FlushText so_far at family)
unfolding step
flush_family_step so_far at family t h = on_named family t (λ name. FlushText so_far at name) h

flush_text_step : (so_far : Actions) (at : ℕ) (family file : WrittenSpan) (t : Token) → IsSign (Spanned w.Text file) t
    → step (FlushText so_far at family) t ≡ Goes (DeedEnd so_far at (Flushes family file))
unfolding step
flush_text_step so_far at family file t h = rw (h.0, h.1, h.2) refl

-- a whole expression, in its place
accepts_whole : (most end : ℕ) (job : Declarations) (context : Context) (t : Tree) (tokens : List Token) (more : List Sign) → IsExpression most t
    → AreSigns (spelled t ++ more) tokens → Quiet more
    → LeadsTo most end job (InExpression context (Want 0) []) tokens job (InExpression context (Done t) []) more
accepts_whole most end job context t tokens more is e quiet =
    let a = accepts most end job context t 0 [] tokens more (omega arith) is.0 e (omega (arith, is.1, opens-nil)) (Quiet-follows (top t) more quiet) in
    (a.0, a.1, a.2 then Same (passes_quiet end 0 (high_of t) job context t [] a.0 more a.1 quiet))

accepts_deed : (most end : ℕ) (job : Declarations) (so_far : Actions) (at : ℕ) (deed : Deed) (tokens : List Token) (more : List Sign)
    → AreSigns (deed_signs at deed ++ more) tokens → IsDeed most deed → Quiet more
    → LeadsTo most end job (ActionStart so_far) tokens job (DeedEnd so_far at deed) more
accepts_deed most end job so_far at (Writes v cell amount) tokens more h is quiet =
    let g : AreSigns (At (verb_word v) at ∷ (cell_signs cell ++ (spelled amount ++ more))) tokens = subst
    (λ (x : List Sign). AreSigns (At (verb_word v) at ∷ x) tokens) (append_assoc (cell_signs cell) (spelled amount) more) h in
    let a = takes_sign most end job (ActionStart so_far) (CellFamily (ToWrite so_far at v)) tokens (At (verb_word v) at)
    (cell_signs cell ++ (spelled amount ++ more)) g (verb_step so_far at v) in
    let b = accepts_cell most end job (ToWrite so_far at v) cell a.0 (spelled amount ++ more) a.1 (no_bracket amount more) in
    let c = accepts_whole most end job (Amount so_far at v cell) amount b.0 more is b.1 quiet in
    (c.0, c.1, a.2 then b.2 then c.2 then Same (run-behind end job (Amount so_far at v cell) amount c.0))
accepts_deed most end job so_far at (Clears cell) tokens more h is quiet =
    let a = takes_sign most end job (ActionStart so_far) (CellFamily (ToClear so_far at)) tokens (At (w.Reserved r.Clear) at) (cell_signs cell ++ more) h
    (clear_step so_far at) in
    let b = accepts_cell most end job (ToClear so_far at) cell a.0 more a.1 (quiet_bracket more quiet) in
    (b.0, b.1, a.2 then b.2)
accepts_deed most end job so_far at (Emits file) tokens more h is quiet =
    let a = takes_sign most end job (ActionStart so_far) (EmitText so_far at) tokens (At (w.Reserved r.Emit) at) (Spanned w.Text file ∷ more) h
    (emit_step so_far at) in
    let b = takes_sign most end job (EmitText so_far at) (DeedEnd so_far at (Emits file)) a.0 (Spanned w.Text file) more a.1 (emit_text_step so_far at file) in
    (b.0, b.1, a.2 then b.2)
accepts_deed most end job so_far at (Flushes family file) tokens more h is quiet =
    let a = takes_sign most end job (ActionStart so_far) (FlushFamily so_far at) tokens (At (w.Reserved r.Flush) at)
    (Named family ∷ Spanned w.Text file ∷ more) h (flush_step so_far at) in
    let b = takes_sign most end job (FlushFamily so_far at) (FlushText so_far at family) a.0 (Named family) (Spanned w.Text file ∷ more) a.1
    (flush_family_step so_far at family) in
    let c = takes_sign most end job (FlushText so_far at family) (DeedEnd so_far at (Flushes family file)) b.0 (Spanned w.Text file) more b.1
    (flush_text_step so_far at family file) in
    (c.0, c.1, a.2 then b.2 then c.2)

when_step : (so_far : Actions) (at : ℕ) (deed : Deed) (t : Token) → IsSign (Any (w.Reserved r.When)) t
    → step (DeedEnd so_far at deed) t ≡ Goes (InExpression (Guard so_far at deed) (Want 0) [])
unfolding step deed_step
when_step so_far at deed t h = rw h refl

accepts_guard : (most end : ℕ) (job : Declarations) (so_far : Actions) (at : ℕ) (deed : Deed) (guard : Option Tree) (tokens : List Token) (more : List Sign)
    → AreSigns (guard_signs guard ++ more) tokens → IsGuard most guard → Behind more
    → LeadsTo most end job (DeedEnd so_far at deed) tokens job (ActionEnd (acted so_far at deed guard)) more
accepts_guard most end job so_far at deed None tokens more h is behind =
    (tokens, h, Same (run-passed end job tokens (deed_plain so_far at deed) (not_first _ tokens more h behind.1)))
accepts_guard most end job so_far at deed (Some guard) tokens more h is behind =
    let a = takes_sign most end job (DeedEnd so_far at deed) (InExpression (Guard so_far at deed) (Want 0) []) tokens (Any (w.Reserved r.When))
    (spelled guard ++ more) h (when_step so_far at deed) in
    let b = accepts_whole most end job (Guard so_far at deed) guard a.0 more is a.1 behind.0 in
    (b.0, b.1, a.2 then b.2 then Same (run-behind end job (Guard so_far at deed) guard b.0))

guard_quiet : (guard : Option Tree) (more : List Sign) → Quiet more → Quiet (guard_signs guard ++ more)
unfolding operator_of
guard_quiet None more h = h
guard_quiet (Some guard) more h = (λ x is. rw is refl, λ e. cc)

accepts_action : (most end : ℕ) (job : Declarations) (so_far : Actions) (a : Action) (tokens : List Token) (more : List Sign)
    → AreSigns (action_signs a ++ more) tokens → IsDeed most a.deed → IsGuard most a.guard → Behind more
    → LeadsTo most end job (ActionStart so_far) tokens job (ActionEnd (acted so_far a.at a.deed a.guard)) more
accepts_action most end job so_far a tokens more h is guarded behind =
    let g : AreSigns (deed_signs a.at a.deed ++ (guard_signs a.guard ++ more)) tokens = subst (λ (x : List Sign). AreSigns x tokens)
    (append_assoc (deed_signs a.at a.deed) (guard_signs a.guard) more) h in
    let b = accepts_deed most end job so_far a.at a.deed tokens (guard_signs a.guard ++ more) g is (guard_quiet a.guard more behind.0) in
    let c = accepts_guard most end job so_far a.at a.deed a.guard b.0 more b.1 guarded behind in
    (c.0, c.1, b.2 then c.2)

semicolon_step : (so_far : Actions) (t : Token) → IsSign (Any (w.Mark m.Semicolon)) t → step (ActionEnd so_far) t ≡ Goes (ActionStart so_far)
unfolding step action_step
semicolon_step so_far t h = rw h refl

abbrev more_actions : List Action → List Sign
more_actions rest = flat_map (λ (y : Action). Any (w.Mark m.Semicolon) ∷ action_signs y) rest

semicolon_behind : (more : List Sign) → Behind (Any (w.Mark m.Semicolon) ∷ more)
unfolding operator_of
semicolon_behind more = ((λ x is. rw is refl, λ e. cc), λ e. cc)

accepts_actions : (most end : ℕ) (job : Declarations) (so_far : Actions) (a : Action) (others : List Action) (tokens : List Token) (more : List Sign)
    → AreSigns ((action_signs a ++ more_actions others) ++ more) tokens → AreActions most (a ∷ others) → Ends more
    → LeadsTo most end job (ActionStart so_far) tokens (job ++ On so_far.kind (so_far.all ++ a ∷ others) ∷ []) Start more
accepts_actions most end job so_far a [] tokens more h are ends =
    let now = acted so_far a.at a.deed a.guard in
    let g : AreSigns (action_signs a ++ more) tokens = subst (λ (x : List Sign). AreSigns (x ++ more) tokens) (append-nil (action_signs a)) h in
    let b = accepts_action most end job so_far a tokens more g are.0 are.1 (ends_quiet more ends, ends_when more ends) in
    (b.0, b.1, b.2 then Same (run-closed end job b.0 (actions_end now) (not_first _ b.0 more b.1 (ends_semicolon more ends))))
accepts_actions most end job so_far a (next ∷ others) tokens more h are ends =
    let now = acted so_far a.at a.deed a.guard in
    let later = (action_signs next ++ more_actions others) ++ more in
    let g : AreSigns (action_signs a ++ (Any (w.Mark m.Semicolon) ∷ later)) tokens =
    subst (λ (x : List Sign). AreSigns x tokens) (append_assoc (action_signs a) (more_actions (next ∷ others)) more) h in
    let b = accepts_action most end job so_far a tokens (Any (w.Mark m.Semicolon) ∷ later) g are.0 are.1 (semicolon_behind later) in
    let c = takes_sign most end job (ActionEnd now) (ActionStart now) b.0 (Any (w.Mark m.Semicolon)) later b.1 (semicolon_step now) in
    let d = accepts_actions most end job now next others c.0 more c.1 are.2 ends in (
      d.0,
      d.1,
      b.2 then c.2 then d.2
          then Same (ap (λ (xs : List Action). run end (job ++ On so_far.kind xs ∷ []) Start d.0) (append_assoc so_far.all (a ∷ []) (next ∷ others))),
    )

-- ---- tags

tag_kind_step : (so_far : Tags) (kind : WrittenSpan) (t : Token) → IsSign (Named kind) t → step (TagKind so_far) t ≡ Goes (TagKeys so_far kind)
unfolding step
tag_kind_step so_far kind t h = on_named kind t (λ name. TagKeys so_far name) h

tag_open_step : (so_far : Tags) (kind : WrittenSpan) (t : Token) → IsSign (Any (w.Mark m.OpenBracket)) t
    → step (TagKeys so_far kind) t ≡ Goes (TagLow so_far kind)
unfolding step
tag_open_step so_far kind t h = rw h refl

tag_low_step : (so_far : Tags) (kind : WrittenSpan) (n : WrittenNumber) (t : Token) → IsSign (At (w.Number n.value) n.at) t
    → step (TagLow so_far kind) t ≡ Goes (TagMore so_far kind n)
unfolding step
tag_low_step so_far kind n t h = rw (h.0, h.1) refl

tag_one_step : (so_far : Tags) (kind : WrittenSpan) (low : WrittenNumber) (t : Token) → IsSign (Any (w.Mark m.CloseBracket)) t
    → step (TagMore so_far kind low) t ≡ Goes (TagEnd (listed so_far (tag_of kind (keys.One low))))
unfolding step
tag_one_step so_far kind low t h = rw h refl

tag_dots_step : (so_far : Tags) (kind : WrittenSpan) (low : WrittenNumber) (t : Token) → IsSign (Any (w.Mark m.Dots)) t
    → step (TagMore so_far kind low) t ≡ Goes (TagHigh so_far kind low)
unfolding step
tag_dots_step so_far kind low t h = rw h refl

tag_high_step : (so_far : Tags) (kind : WrittenSpan) (low n : WrittenNumber) (t : Token) → IsSign (At (w.Number n.value) n.at) t
    → step (TagHigh so_far kind low) t ≡ Goes (TagClose so_far kind (keys.Range low n))
unfolding step
tag_high_step so_far kind low n t h = rw (h.0, h.1) refl

tag_close_step : (so_far : Tags) (kind : WrittenSpan) (ks : WrittenKeys) (t : Token) → IsSign (Any (w.Mark m.CloseBracket)) t
    → step (TagClose so_far kind ks) t ≡ Goes (TagEnd (listed so_far (tag_of kind ks)))
unfolding step
tag_close_step so_far kind ks t h = rw h refl

accepts_keys : (most end : ℕ) (job : Declarations) (so_far : Tags) (kind : WrittenSpan) (ks : WrittenKeys) (tokens : List Token) (more : List Sign)
    → AreSigns (keys_signs ks ++ more) tokens → NoBracket more
    → LeadsTo most end job (TagKeys so_far kind) tokens job (TagEnd (listed so_far (tag_of kind ks))) more
accepts_keys most end job so_far kind keys.Alone tokens more h free =
    (tokens, h, Same (run-passed end job tokens (tag_alone so_far kind) (not_first _ tokens more h (bracket_word more free))))
accepts_keys most end job so_far kind (keys.One n) tokens more h free =
    let a = takes_sign most end job (TagKeys so_far kind) (TagLow so_far kind) tokens (Any (w.Mark m.OpenBracket))
    (At (w.Number n.value) n.at ∷ Any (w.Mark m.CloseBracket) ∷ more) h (tag_open_step so_far kind) in
    let b = takes_sign most end job (TagLow so_far kind) (TagMore so_far kind n) a.0 (At (w.Number n.value) n.at) (Any (w.Mark m.CloseBracket) ∷ more) a.1
    (tag_low_step so_far kind n) in
    let c = takes_sign most end job (TagMore so_far kind n) (TagEnd (listed so_far (tag_of kind (keys.One n)))) b.0 (Any (w.Mark m.CloseBracket)) more b.1
    (tag_one_step so_far kind n) in
    (c.0, c.1, a.2 then b.2 then c.2)
accepts_keys most end job so_far kind (keys.Range low n) tokens more h free =
    let after_low = Any (w.Mark m.Dots) ∷ At (w.Number n.value) n.at ∷ Any (w.Mark m.CloseBracket) ∷ more in
    let a = takes_sign most end job (TagKeys so_far kind) (TagLow so_far kind) tokens (Any (w.Mark m.OpenBracket))
    (At (w.Number low.value) low.at ∷ after_low) h
    (tag_open_step so_far kind) in
    let b = takes_sign most end job (TagLow so_far kind) (TagMore so_far kind low) a.0 (At (w.Number low.value) low.at) after_low a.1
    (tag_low_step so_far kind low) in
    let c = takes_sign most end job (TagMore so_far kind low) (TagHigh so_far kind low) b.0 (Any (w.Mark m.Dots))
    (At (w.Number n.value) n.at ∷ Any (w.Mark m.CloseBracket) ∷ more) b.1 (tag_dots_step so_far kind low) in
    let d = takes_sign most end job (TagHigh so_far kind low) (TagClose so_far kind (keys.Range low n)) c.0 (At (w.Number n.value) n.at)
    (Any (w.Mark m.CloseBracket) ∷ more) c.1 (tag_high_step so_far kind low n) in
    let f = takes_sign most end job (TagClose so_far kind (keys.Range low n)) (TagEnd (listed so_far (tag_of kind (keys.Range low n)))) d.0
    (Any (w.Mark m.CloseBracket)) more d.1 (tag_close_step so_far kind (keys.Range low n)) in
    (f.0, f.1, a.2 then b.2 then c.2 then d.2 then f.2)

accepts_tag : (most end : ℕ) (job : Declarations) (so_far : Tags) (tag : WrittenTag) (tokens : List Token) (more : List Sign)
    → AreSigns (tag_signs tag ++ more) tokens → NoBracket more
    → LeadsTo most end job (TagKind so_far) tokens job (TagEnd (listed so_far tag)) more
accepts_tag most end job so_far tag tokens more h free =
    let a = takes_sign most end job (TagKind so_far) (TagKeys so_far tag.kind) tokens (Named tag.kind) (keys_signs tag.keys ++ more) h
    (tag_kind_step so_far tag.kind) in
    let b = accepts_keys most end job so_far tag.kind tag.keys a.0 more a.1 free in
    (b.0, b.1, a.2 then b.2)

comma_step : (so_far : Tags) (t : Token) → IsSign (Any (w.Mark m.Comma)) t → step (TagEnd so_far) t ≡ Goes (TagKind so_far)
unfolding step
comma_step so_far t h = rw h refl

abbrev more_tags : List WrittenTag → List Sign
more_tags rest = flat_map (λ (y : WrittenTag). Any (w.Mark m.Comma) ∷ tag_signs y) rest

accepts_tags : (most end : ℕ) (job : Declarations) (so_far : Tags) (tag : WrittenTag) (others : List WrittenTag) (tokens : List Token) (more : List Sign)
    → AreSigns ((tag_signs tag ++ more_tags others) ++ more) tokens → Ends more
    → LeadsTo most end job (TagKind so_far) tokens (job ++ Source so_far.name so_far.file so_far.rate so_far.slack (so_far.all ++ tag ∷ others) ∷ []) Start more
accepts_tags most end job so_far tag [] tokens more h ends =
    let now = listed so_far tag in
    let g : AreSigns (tag_signs tag ++ more) tokens = subst (λ (x : List Sign). AreSigns (x ++ more) tokens) (append-nil (tag_signs tag)) h in
    let b = accepts_tag most end job so_far tag tokens more g (ends_bracket more ends) in
    (b.0, b.1, b.2 then Same (run-closed end job b.0 (tags_end now) (not_first _ b.0 more b.1 (ends_comma more ends))))
accepts_tags most end job so_far tag (next ∷ others) tokens more h ends =
    let now = listed so_far tag in
    let later = (tag_signs next ++ more_tags others) ++ more in
    let g : AreSigns (tag_signs tag ++ (Any (w.Mark m.Comma) ∷ later)) tokens = subst (λ (x : List Sign). AreSigns x tokens)
    (append_assoc (tag_signs tag) (more_tags (next ∷ others)) more) h in
    let b = accepts_tag most end job so_far tag tokens (Any (w.Mark m.Comma) ∷ later) g (λ e. cc) in
    let c = takes_sign most end job (TagEnd now) (TagKind now) b.0 (Any (w.Mark m.Comma)) later b.1 (comma_step now) in
    let d = accepts_tags most end job now next others c.0 more c.1 ends in (
      d.0,
      d.1,
      b.2 then c.2 then d.2
          then Same (ap (λ (xs : List WrittenTag). run end (job ++ Source so_far.name so_far.file so_far.rate so_far.slack xs ∷ []) Start d.0)
          (append_assoc so_far.all (tag ∷ []) (next ∷ others))),
    )

-- ---- declarations

-- a first word
opens_with : (most end : ℕ) (job : Declarations) (now : Now) (tokens : List Token) (s : Sign) (more : List Sign) → AreSigns (s ∷ more) tokens
    → ((t : Token) → IsSign s t → opening t.from (heading_of t.word) ≡ Some now) → LeadsTo most end job Start tokens job now more
opens_with most end job now [] s more h e = absurd h
opens_with most end job now (t ∷ rest) s more h e = (rest, h.1, Same (begins end job now t rest (e t h.0)))

cell_name_step : (n : WrittenSpan) (t : Token) → IsSign (Named n) t → step CellName t ≡ Goes (CellForm n)
unfolding step
cell_name_step n t h = on_named n t (λ name. CellForm name) h

cell_keyed_step : (n : WrittenSpan) (t : Token) → IsSign (Any (w.Reserved r.Keyed)) t → step (CellForm n) t ≡ Goes (CellBy n)
unfolding step
cell_keyed_step n t h = rw h refl

cell_by_step : (n : WrittenSpan) (at : ℕ) (t : Token) → IsSign (At (w.Name contextual.By) at) t → step (CellBy n) t ≡ Goes (CellList n at)
unfolding step
cell_by_step n at t h = rw (h.0, h.1) refl

cell_list_step : (n : WrittenSpan) (at : ℕ) (list : WrittenSpan) (t : Token) → IsSign (Named list) t
    → step (CellList n at) t ≡ Goes (CellSort n (cells.By (by_of at list)))
unfolding step
cell_list_step n at list t h = on_named list t (λ list. CellSort n (cells.By (by_of at list))) h

sort_is : (s : Sort) → sort_of (sort_word s) ≡ Some s
unfolding sort_of
sort_is sort.Sum = refl
sort_is sort.Max = refl
sort_is sort.Last = refl

cell_sort_step : (n : WrittenSpan) (cells : WrittenCells) (s : Sort) (t : Token) → IsSign (Any (sort_word s)) t
    → step (CellSort n cells) t ≡ Goes (Declared (Cell n cells s))
unfolding step
cell_sort_step n cells s t h = rw (h, sort_is s) refl

sort_not_keyed : (s : Sort) → w.Reserved r.Keyed ≢ sort_word s
sort_not_keyed sort.Sum = λ e. cc
sort_not_keyed sort.Max = λ e. cc
sort_not_keyed sort.Last = λ e. cc

sort_no_by : (s : Sort) → w.Name contextual.By ≢ sort_word s
sort_no_by sort.Sum = λ e. cc
sort_no_by sort.Max = λ e. cc
sort_no_by sort.Last = λ e. cc

accepts_cells : (most end : ℕ) (job : Declarations) (n : WrittenSpan) (c : WrittenCells) (s : Sort) (tokens : List Token) (more : List Sign)
    → AreSigns ((cells_signs c ++ Any (sort_word s) ∷ []) ++ more) tokens
    → LeadsTo most end job (CellForm n) tokens job (CellSort n c) (Any (sort_word s) ∷ more)
accepts_cells most end job n cells.Alone s tokens more h =
    (tokens, h, Same (run-passed end job tokens (cell_plain n) (not_first _ tokens (Any (sort_word s) ∷ more) h (sort_not_keyed s))))
accepts_cells most end job n cells.Keyed s tokens more h =
    let behind = Any (sort_word s) ∷ more in
    let a = takes_sign most end job (CellForm n) (CellBy n) tokens (Any (w.Reserved r.Keyed)) behind h (cell_keyed_step n) in
    (a.0, a.1, a.2 then Same (run-passed end job a.0 (cell_listless n) (not_first _ a.0 behind a.1 (sort_no_by s))))
accepts_cells most end job n (cells.By by) s tokens more h =
    let behind = Any (sort_word s) ∷ more in
    let word = At (w.Name contextual.By) by.at in
    let a = takes_sign most end job (CellForm n) (CellBy n) tokens (Any (w.Reserved r.Keyed)) (word ∷ Named by.list ∷ behind) h (cell_keyed_step n) in
    let b = takes_sign most end job (CellBy n) (CellList n by.at) a.0 word (Named by.list ∷ behind) a.1 (cell_by_step n by.at) in
    let c = takes_sign most end job (CellList n by.at) (CellSort n (cells.By by)) b.0 (Named by.list) behind b.1 (cell_list_step n by.at by.list) in
    (c.0, c.1, a.2 then b.2 then c.2)

tag_name_step : (n : WrittenSpan) (t : Token) → IsSign (Named n) t → step TagName t ≡ Goes (TagForm n)
unfolding step
tag_name_step n t h = on_named n t (λ name. TagForm name) h

tag_keyed_step : (n : WrittenSpan) (t : Token) → IsSign (Any (w.Reserved r.Keyed)) t → step (TagForm n) t ≡ Goes (TagItem n true)
unfolding step
tag_keyed_step n t h = rw h refl

value_is : (b : Bool) → value_of (value_word b) ≡ Some b
unfolding value_of
value_is true = refl
value_is false = refl

tag_item_step : (n : WrittenSpan) (keyed : Bool) (at : ℕ) (t : Token) → IsSign (At (w.Name contextual.Item) at) t
    → step (TagItem n keyed) t ≡ Goes (TagBy n keyed at)
unfolding step
tag_item_step n keyed at t h = rw (h.0, h.1) refl

tag_by_step : (n : WrittenSpan) (keyed : Bool) (at by_at : ℕ) (t : Token) → IsSign (At (w.Name contextual.By) by_at) t
    → step (TagBy n keyed at) t ≡ Goes (TagList n keyed at by_at)
unfolding step
tag_by_step n keyed at by_at t h = rw (h.0, h.1) refl

tag_list_step : (n : WrittenSpan) (keyed : Bool) (at by_at : ℕ) (list : WrittenSpan) (t : Token) → IsSign (Named list) t
    → step (TagList n keyed at by_at) t ≡ Goes (TagValue n keyed (Some (item_of at (Some (by_of by_at list)))))
unfolding step
tag_list_step n keyed at by_at list t h = on_named list t (λ list. TagValue n keyed (Some (item_of at (Some (by_of by_at list))))) h

tag_value_step : (n : WrittenSpan) (keyed : Bool) (item : Option WrittenItem) (has_value : Bool) (t : Token) → IsSign (Any (value_word has_value)) t
    → step (TagValue n keyed item) t ≡ Goes (Declared (Tag n keyed item has_value))
unfolding step
tag_value_step n keyed item has_value t h = rw (h, value_is has_value) refl

value_not_keyed : (b : Bool) → w.Reserved r.Keyed ≢ value_word b
value_not_keyed true = λ e. cc
value_not_keyed false = λ e. cc

value_no_item : (b : Bool) → w.Name contextual.Item ≢ value_word b
value_no_item true = λ e. cc
value_no_item false = λ e. cc

value_no_by : (b : Bool) → w.Name contextual.By ≢ value_word b
value_no_by true = λ e. cc
value_no_by false = λ e. cc

-- what stands behind a tag's `keyed`
abbrev behind_keyed : Option WrittenItem → Bool → List Sign → List Sign
behind_keyed item has_value more = item_signs item ++ (Any (value_word has_value) ∷ more)

item_not_keyed : (item : Option WrittenItem) (has_value : Bool) (more : List Sign) → NotWord (w.Reserved r.Keyed) (behind_keyed item has_value more)
item_not_keyed None has_value more = value_not_keyed has_value
item_not_keyed (Some item) has_value more = λ e. cc

accepts_tag_keyed : (most end : ℕ) (job : Declarations) (n : WrittenSpan) (keyed : Bool) (item : Option WrittenItem) (has_value : Bool) (tokens : List Token)
    (more : List Sign) → AreSigns (keyed_signs keyed ++ behind_keyed item has_value more) tokens
    → LeadsTo most end job (TagForm n) tokens job (TagItem n keyed) (behind_keyed item has_value more)
accepts_tag_keyed most end job n true item has_value tokens more h =
    takes_sign most end job (TagForm n) (TagItem n true) tokens (Any (w.Reserved r.Keyed)) (behind_keyed item has_value more) h (tag_keyed_step n)
accepts_tag_keyed most end job n false item has_value tokens more h = (
  tokens,
  h,
  Same (run-passed end job tokens (tag_plain n)
      (not_first _ tokens (behind_keyed item has_value more) h (item_not_keyed item has_value more))),
)

accepts_item_by : (most end : ℕ) (job : Declarations) (n : WrittenSpan) (keyed : Bool) (at : ℕ) (by : Option WrittenBy) (has_value : Bool)
    (tokens : List Token) (more : List Sign) → AreSigns (list_signs by ++ (Any (value_word has_value) ∷ more)) tokens
    → LeadsTo most end job (TagBy n keyed at) tokens job (TagValue n keyed (Some (item_of at by))) (Any (value_word has_value) ∷ more)
accepts_item_by most end job n keyed at None has_value tokens more h = (
  tokens,
  h,
  Same (run-passed end job tokens (tag_listless n keyed at)
      (not_first _ tokens (Any (value_word has_value) ∷ more) h (value_no_by has_value))),
)
accepts_item_by most end job n keyed at (Some by) has_value tokens more h =
    let behind = Any (value_word has_value) ∷ more in
    let a = takes_sign most end job (TagBy n keyed at) (TagList n keyed at by.at) tokens (At (w.Name contextual.By) by.at) (Named by.list ∷ behind) h
    (tag_by_step n keyed at by.at) in
    let b = takes_sign most end job (TagList n keyed at by.at) (TagValue n keyed (Some (item_of at (Some by)))) a.0 (Named by.list) behind a.1
    (tag_list_step n keyed at by.at by.list) in
    (b.0, b.1, a.2 then b.2)

accepts_tag_item : (most end : ℕ) (job : Declarations) (n : WrittenSpan) (keyed : Bool) (item : Option WrittenItem) (has_value : Bool) (tokens : List Token)
    (more : List Sign) → AreSigns (behind_keyed item has_value more) tokens
    → LeadsTo most end job (TagItem n keyed) tokens job (TagValue n keyed item) (Any (value_word has_value) ∷ more)
accepts_tag_item most end job n keyed None has_value tokens more h = (
  tokens,
  h,
  Same (run-passed end job tokens (tag_itemless n keyed)
      (not_first _ tokens (Any (value_word has_value) ∷ more) h (value_no_item has_value))),
)
accepts_tag_item most end job n keyed (Some item) has_value tokens more h =
    let a = takes_sign most end job (TagItem n keyed) (TagBy n keyed item.at) tokens (At (w.Name contextual.Item) item.at)
    (list_signs item.by ++ (Any (value_word has_value) ∷ more)) h (tag_item_step n keyed item.at) in
    let b = accepts_item_by most end job n keyed item.at item.by has_value a.0 more a.1 in
    (b.0, b.1, a.2 then b.2)

names_name_step : (at : ℕ) (n : WrittenSpan) (t : Token) → IsSign (Named n) t → step (NamesName at) t ≡ Goes (NamesColon at n)
unfolding step
names_name_step at n t h = on_named n t (λ name. NamesColon at name) h

names_colon_step : (at : ℕ) (n : WrittenSpan) (t : Token) → IsSign (Any (w.Mark m.Colon)) t → step (NamesColon at n) t ≡ Goes (NamesText (listing_of at n))
unfolding step
names_colon_step at n t h = rw h refl

names_text_step : (so_far : Listing) (span : WrittenSpan) (t : Token) → IsSign (Spanned w.Text span) t
    → step (NamesText so_far) t ≡ Goes (NamesEnd (texted so_far span))
unfolding step
names_text_step so_far span t h = rw (h.0, h.1, h.2) refl

names_comma_step : (so_far : Listing) (t : Token) → IsSign (Any (w.Mark m.Comma)) t → step (NamesEnd so_far) t ≡ Goes (NamesText so_far)
unfolding step
names_comma_step so_far t h = rw h refl

abbrev more_texts : List WrittenSpan → List Sign
more_texts rest = flat_map (λ (y : WrittenSpan). Any (w.Mark m.Comma) ∷ text y) rest

accepts_texts : (most end : ℕ) (job : Declarations) (so_far : Listing) (span : WrittenSpan) (others : List WrittenSpan) (tokens : List Token)
    (more : List Sign) → AreSigns (Spanned w.Text span ∷ (more_texts others ++ more)) tokens → Ends more
    → LeadsTo most end job (NamesText so_far) tokens (job ++ Names so_far.at so_far.name (so_far.texts ++ span ∷ others) ∷ []) Start more
accepts_texts most end job so_far span [] tokens more h ends =
    let now = texted so_far span in
    let a = takes_sign most end job (NamesText so_far) (NamesEnd now) tokens (Spanned w.Text span) more h (names_text_step so_far span) in
    (a.0, a.1, a.2 then Same (run-closed end job a.0 (names_end now) (not_first _ a.0 more a.1 (ends_comma more ends))))
accepts_texts most end job so_far span (next ∷ others) tokens more h ends =
    let now = texted so_far span in
    let later = Spanned w.Text next ∷ (more_texts others ++ more) in
    let a = takes_sign most end job (NamesText so_far) (NamesEnd now) tokens (Spanned w.Text span) (Any (w.Mark m.Comma) ∷ later) h
    (names_text_step so_far span) in
    let b = takes_sign most end job (NamesEnd now) (NamesText now) a.0 (Any (w.Mark m.Comma)) later a.1 (names_comma_step now) in
    let c = accepts_texts most end job now next others b.0 more b.1 ends in (
      c.0,
      c.1,
      a.2 then b.2 then c.2
          then Same (ap (λ (xs : List WrittenSpan). run end (job ++ Names so_far.at so_far.name xs ∷ []) Start c.0)
          (append_assoc so_far.texts (span ∷ []) (next ∷ others))),
    )

depends_first_step : (a : WrittenSpan) (t : Token) → IsSign (Named a) t → step DependsFirst t ≡ Goes (DependsSecond a)
unfolding step
depends_first_step a t h = on_named a t (λ name. DependsSecond name) h

depends_second_step : (a b : WrittenSpan) (t : Token) → IsSign (Named b) t → step (DependsSecond a) t ≡ Goes (DependsHow a b)
unfolding step
depends_second_step a b t h = on_named b t (λ name. DependsHow a name) h

same_step : (a b : WrittenSpan) (at : ℕ) (t : Token) → IsSign (At (w.Reserved r.Same) at) t
    → step (DependsHow a b) t ≡ Goes (Declared (Depends a b (relation.Same at)))
unfolding step
same_step a b at t h = rw (h.0, h.1) refl

all_step : (a b : WrittenSpan) (t : Token) → IsSign (Any (w.Reserved r.All)) t → step (DependsHow a b) t ≡ Goes (Declared (Depends a b relation.All))
unfolding step
all_step a b t h = rw h refl

accepts_relation : (most end : ℕ) (job : Declarations) (a b : WrittenSpan) (how : WrittenRelation) (tokens : List Token) (more : List Sign)
    → AreSigns (relation_signs how ++ more) tokens → Ends more
    → LeadsTo most end job (DependsHow a b) tokens (job ++ Depends a b how ∷ []) Start more
accepts_relation most end job a b relation.None tokens more h ends =
    (tokens, h, Same (run-no_relation end job a b tokens (not_first _ tokens more h (ends_same more ends)) (not_first _ tokens more h (ends_all more ends))))
accepts_relation most end job a b relation.All tokens more h ends =
    let c = takes_sign most end job (DependsHow a b) (Declared (Depends a b relation.All)) tokens (Any (w.Reserved r.All)) more h (all_step a b) in
    (c.0, c.1, c.2 then Same (run-declared end job (Depends a b relation.All) c.0))
accepts_relation most end job a b (relation.Same at) tokens more h ends =
    let c = takes_sign most end job (DependsHow a b) (Declared (Depends a b (relation.Same at))) tokens (At (w.Reserved r.Same) at) more h (same_step a b at) in
    (c.0, c.1, c.2 then Same (run-declared end job (Depends a b (relation.Same at)) c.0))

on_kind_step : (kind : WrittenSpan) (t : Token) → IsSign (Named kind) t → step OnKind t ≡ Goes (OnColon kind)
unfolding step
on_kind_step kind t h = on_named kind t (λ name. OnColon name) h

on_colon_step : (kind : WrittenSpan) (t : Token) → IsSign (Any (w.Mark m.Colon)) t → step (OnColon kind) t ≡ Goes (ActionStart (no_actions kind))
unfolding step
on_colon_step kind t h = rw h refl

heading_cell : (t : Token) → IsSign (Any (w.Reserved r.Cell)) t → opening t.from (heading_of t.word) ≡ Some CellName
unfolding heading_of
heading_cell t h = rw h refl

heading_tag : (t : Token) → IsSign (Any (w.Reserved r.Tag)) t → opening t.from (heading_of t.word) ≡ Some TagName
unfolding heading_of
heading_tag t h = rw h refl

heading_depends : (t : Token) → IsSign (Any (w.Reserved r.Depends)) t → opening t.from (heading_of t.word) ≡ Some DependsFirst
unfolding heading_of
heading_depends t h = rw h refl

heading_on : (t : Token) → IsSign (Any (w.Reserved r.On)) t → opening t.from (heading_of t.word) ≡ Some OnKind
unfolding heading_of
heading_on t h = rw h refl

heading_source : (t : Token) → IsSign (Any (w.Reserved r.Source)) t → opening t.from (heading_of t.word) ≡ Some SourceName
unfolding heading_of
heading_source t h = rw h refl

heading_names : (at : ℕ) (t : Token) → IsSign (At (w.Name contextual.Names) at) t → opening t.from (heading_of t.word) ≡ Some (NamesName at)
unfolding heading_of
heading_names at t h = rw (h.0, h.1) refl

heading_clock : (at : ℕ) (t : Token) → IsSign (At (w.Name contextual.Clock) at) t → opening t.from (heading_of t.word) ≡ Some (ClockName at)
unfolding heading_of
heading_clock at t h = rw (h.0, h.1) refl

accepts_declaration : (most end : ℕ) (job : Declarations) (d : Declaration) (tokens : List Token) (more : List Sign)
    → AreSigns (declaration_signs d ++ more) tokens → IsDeclaration most d → Ends more
    → LeadsTo most end job Start tokens (job ++ d ∷ []) Start more
accepts_declaration most end job (Cell n cells s) tokens more h is ends =
    let tail = (cells_signs cells ++ Any (sort_word s) ∷ []) ++ more in
    let a = opens_with most end job CellName tokens (Any (w.Reserved r.Cell)) (Named n ∷ tail) h heading_cell in
    let b = takes_sign most end job CellName (CellForm n) a.0 (Named n) tail a.1 (cell_name_step n) in
    let c = accepts_cells most end job n cells s b.0 more b.1 in
    let d = takes_sign most end job (CellSort n cells) (Declared (Cell n cells s)) c.0 (Any (sort_word s)) more c.1 (cell_sort_step n cells s) in
    (d.0, d.1, a.2 then b.2 then c.2 then d.2 then Same (run-declared end job (Cell n cells s) d.0))
accepts_declaration most end job (Tag n keyed item has_value) tokens more h is ends =
    let value : List Sign = Any (value_word has_value) ∷ [] in
    let tail = keyed_signs keyed ++ behind_keyed item has_value more in
    let moves : (keyed_signs keyed ++ item_signs item ++ value) ++ more ≡ tail =
    append_assoc (keyed_signs keyed ++ item_signs item) value more
    ∙ append_assoc (keyed_signs keyed) (item_signs item) (Any (value_word has_value) ∷ more) in
    let g : AreSigns (Any (w.Reserved r.Tag) ∷ Named n ∷ tail) tokens =
    subst (λ (x : List Sign). AreSigns (Any (w.Reserved r.Tag) ∷ Named n ∷ x) tokens) moves h in
    let a = opens_with most end job TagName tokens (Any (w.Reserved r.Tag)) (Named n ∷ tail) g heading_tag in
    let b = takes_sign most end job TagName (TagForm n) a.0 (Named n) tail a.1 (tag_name_step n) in
    let c = accepts_tag_keyed most end job n keyed item has_value b.0 more b.1 in
    let i = accepts_tag_item most end job n keyed item has_value c.0 more c.1 in
    let d = takes_sign most end job (TagValue n keyed item) (Declared (Tag n keyed item has_value)) i.0 (Any (value_word has_value)) more i.1
    (tag_value_step n keyed item has_value) in
    (d.0, d.1, a.2 then b.2 then c.2 then i.2 then d.2 then Same (run-declared end job (Tag n keyed item has_value) d.0))
accepts_declaration most end job (Names at n []) tokens more h is ends = absurd (is refl)
accepts_declaration most end job (Names at n (first ∷ texts)) tokens more h is ends =
    let tail = Spanned w.Text first ∷ (more_texts texts ++ more) in
    let x = opens_with most end job (NamesName at) tokens (At (w.Name contextual.Names) at) (Named n ∷ Any (w.Mark m.Colon) ∷ tail) h (heading_names at) in
    let y = takes_sign most end job (NamesName at) (NamesColon at n) x.0 (Named n) (Any (w.Mark m.Colon) ∷ tail) x.1 (names_name_step at n) in
    let z = takes_sign most end job (NamesColon at n) (NamesText (listing_of at n)) y.0 (Any (w.Mark m.Colon)) tail y.1 (names_colon_step at n) in
    let c = accepts_texts most end job (listing_of at n) first texts z.0 more z.1 ends in
    (c.0, c.1, x.2 then y.2 then z.2 then c.2)
accepts_declaration most end job (Depends a b how) tokens more h is ends =
    let tail = relation_signs how ++ more in
    let x = opens_with most end job DependsFirst tokens (Any (w.Reserved r.Depends)) (Named a ∷ Named b ∷ tail) h heading_depends in
    let y = takes_sign most end job DependsFirst (DependsSecond a) x.0 (Named a) (Named b ∷ tail) x.1 (depends_first_step a) in
    let z = takes_sign most end job (DependsSecond a) (DependsHow a b) y.0 (Named b) tail y.1 (depends_second_step a b) in
    let c = accepts_relation most end job a b how z.0 more z.1 ends in
    (c.0, c.1, x.2 then y.2 then z.2 then c.2)
accepts_declaration most end job (On kind []) tokens more h is ends = absurd (is.0 refl)
accepts_declaration most end job (On kind (first ∷ actions)) tokens more h is ends =
    let tail = (action_signs first ++ more_actions actions) ++ more in
    let x = opens_with most end job OnKind tokens (Any (w.Reserved r.On)) (Named kind ∷ Any (w.Mark m.Colon) ∷ tail) h heading_on in
    let y = takes_sign most end job OnKind (OnColon kind) x.0 (Named kind) (Any (w.Mark m.Colon) ∷ tail) x.1 (on_kind_step kind) in
    let z = takes_sign most end job (OnColon kind) (ActionStart (no_actions kind)) y.0 (Any (w.Mark m.Colon)) tail y.1 (on_colon_step kind) in
    let c = accepts_actions most end job (no_actions kind) first actions z.0 more z.1 is.1 ends in
    (c.0, c.1, x.2 then y.2 then z.2 then c.2)
accepts_declaration most end job (Source n file rate slack []) tokens more h is ends = absurd (is refl)
accepts_declaration most end job (Source n file rate slack (first ∷ tags)) tokens more h is ends =
    let list = tag_signs first ++ more_tags tags in
    let tail = list ++ more in
    let behind = rate_signs rate ++ behind_rate slack tail in
    let moves : ((rate_signs rate ++ slack_signs slack) ++ (Any (w.Mark m.Colon) ∷ list)) ++ more ≡ behind =
    append_assoc (rate_signs rate ++ slack_signs slack) (Any (w.Mark m.Colon) ∷ list) more
    ∙ append_assoc (rate_signs rate) (slack_signs slack) (Any (w.Mark m.Colon) ∷ tail) in
    let g : AreSigns (Any (w.Reserved r.Source) ∷ Named n ∷ Spanned w.Text file ∷ behind) tokens =
    subst (λ (x : List Sign). AreSigns (Any (w.Reserved r.Source) ∷ Named n ∷ Spanned w.Text file ∷ x) tokens) moves h in
    let x = opens_with most end job SourceName tokens (Any (w.Reserved r.Source)) (Named n ∷ Spanned w.Text file ∷ behind) g heading_source in
    let y = takes_sign most end job SourceName (SourceFile n) x.0 (Named n) (Spanned w.Text file ∷ behind) x.1 (source_name_step n) in
    let z = takes_sign most end job (SourceFile n) (SourceRate n file) y.0 (Spanned w.Text file) behind y.1 (source_file_step n file) in
    let u = accepts_rate most end job n file rate slack z.0 tail z.1 in
    let s = accepts_slack most end job n file rate slack u.0 tail u.1 in
    let v = takes_sign most end job (SourceColon n file rate slack) (TagKind (source_of n file rate slack)) s.0 (Any (w.Mark m.Colon)) tail s.1
    (source_colon_step n file rate slack) in
    let c = accepts_tags most end job (source_of n file rate slack) first tags v.0 more v.1 ends in
    (c.0, c.1, x.2 then y.2 then z.2 then u.2 then s.2 then v.2 then c.2)
accepts_declaration most end job (Clock at n every rate tag) tokens more h is ends =
    let number = At (w.Number every.value) every.at in
    let tail = Any (w.Mark m.Colon) ∷ Named tag ∷ more in
    let behind = rate_signs rate ++ tail in
    let moves : (rate_signs rate ++ (Any (w.Mark m.Colon) ∷ Named tag ∷ [])) ++ more ≡ behind =
    append_assoc (rate_signs rate) (Any (w.Mark m.Colon) ∷ Named tag ∷ []) more in
    let g : AreSigns (At (w.Name contextual.Clock) at ∷ Named n ∷ Any (w.Name contextual.Every) ∷ number ∷ behind) tokens =
    subst (λ (x : List Sign). AreSigns (At (w.Name contextual.Clock) at ∷ Named n ∷ Any (w.Name contextual.Every) ∷ number ∷ x) tokens) moves h in
    let x = opens_with most end job (ClockName at) tokens (At (w.Name contextual.Clock) at) (Named n ∷ Any (w.Name contextual.Every) ∷ number ∷ behind) g
    (heading_clock at) in
    let y = takes_sign most end job (ClockName at) (ClockEvery at n) x.0 (Named n) (Any (w.Name contextual.Every) ∷ number ∷ behind) x.1
    (clock_name_step at n) in
    let z = takes_sign most end job (ClockEvery at n) (ClockPeriod at n) y.0 (Any (w.Name contextual.Every)) (number ∷ behind) y.1
    (clock_every_step at n) in
    let u = takes_sign most end job (ClockPeriod at n) (ClockRate at n every) z.0 number behind z.1 (clock_period_step at n every) in
    let s = accepts_clock_rate most end job at n every rate u.0 (Named tag ∷ more) u.1 in
    let v = takes_sign most end job (ClockColon at n every rate) (ClockTag at n every rate) s.0 (Any (w.Mark m.Colon)) (Named tag ∷ more) s.1
    (clock_colon_step at n every rate) in
    let d = takes_sign most end job (ClockTag at n every rate) (Declared (Clock at n every rate tag)) v.0 (Named tag) more v.1
    (clock_tag_step at n every rate tag) in
    (d.0, d.1, x.2 then y.2 then z.2 then u.2 then s.2 then v.2 then d.2 then Same (run-declared end job (Clock at n every rate tag) d.0))

-- ---- all declarations

no_tokens : (tokens : List Token) → AreSigns [] tokens → tokens ≡ []
no_tokens [] h = refl
no_tokens (t ∷ tokens) h = absurd h

accepts_declarations : (most end : ℕ) (job ds : Declarations) (tokens : List Token) → AreDeclarations most ds → AreSigns (declarations_signs ds) tokens
    → Reaches most (run end job Start tokens) (Found (job ++ ds))
accepts_declarations most end job [] tokens are h = Same (rw (no_tokens tokens h) (job_ends end job ∙ ap Found (sym (append-nil job))))
accepts_declarations most end job (d ∷ ds) tokens are h =
    let a = accepts_declaration most end job d tokens (declarations_signs ds) h are.0 (declarations_headed ds) in
    a.2 then accepts_declarations most end (job ++ d ∷ []) ds a.0 are.1 a.1 then Same (ap Found (append_assoc job (d ∷ []) ds))

-- where at most so many are open, the declarations are found, or a token opens too many
pub declarations_are_reached : (most end : ℕ) (tokens : List Token) (ds : Declarations) → AreDeclarations most ds → AreSigns (declarations_signs ds) tokens
    → Reaches most (run end [] Start tokens) (Found ds)
declarations_are_reached most end tokens ds are spelled = accepts_declarations most end [] ds tokens are spelled

-- and where these are 64, they are found
pub declarations_are_found : (end : ℕ) (tokens : List Token) (ds : Declarations) → AreDeclarations 64 ds → AreSigns (declarations_signs ds) tokens
    → run end [] Start tokens ≡ Found ds
declarations_are_found end tokens ds are spelled = by_reach (declarations_are_reached 64 end tokens ds are spelled)
  where
    by_reach : Reaches 64 (run end [] Start tokens) (Found ds) → run end [] Start tokens ≡ Found ds
    by_reach (Same e) = e
    by_reach (Stops over e) = let never : ⊥ = omega arith in absurd never
