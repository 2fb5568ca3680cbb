-- What is begun can be ended, so an unexpected token is the first with which the tokens can no longer go on.
use Rattle.std.proofs.Common.{◌≡◌, ℕ, Bool, List, [], ◌∷◌, ◌++◌, Option, Some, None, pos, refl, sym, ap, ◌∙◌}
use Rattle.flu_text.specs.declared.words.Token.{Token}
use Rattle.flu_text.specs.declared.words.Word.{Word}
use Rattle.flu_text.specs.declared.words.Word.TheVariants as w
use Rattle.flu_text.specs.declared.words.Contextual.TheVariants as contextual
use Rattle.flu_names.specs.declared.reserved.Reserved.TheVariants as r
use Rattle.flu_text.specs.declared.words.Mark.TheVariants as m
use Rattle.flu_text.specs.declared.written.WrittenSpan.{WrittenSpan}
use Rattle.flu_text.specs.declared.written.WrittenNumber.{WrittenNumber}
use Rattle.flu_syntax.specs.declared.tree.WrittenKey.TheVariants as key
use Rattle.flu_syntax.specs.declared.tree.WrittenRef.{WrittenRef}
use Rattle.flu_syntax.specs.declared.tree.WrittenCells.{WrittenCells}
use Rattle.flu_syntax.specs.declared.tree.WrittenItem.{WrittenItem}
use Rattle.flu_text.specs.declared.written.WrittenKeys.{WrittenKeys}
use Rattle.flu_text.specs.declared.written.WrittenKeys.TheVariants as keys
use Rattle.flu_syntax.specs.Tree.{Tree, NumberTree, ParenTree, NegTree, NotTree, TwoTree, Deed, Emits, Flushes, Declarations}
use Rattle.flu_text.specs.Signs.{span_of, number_of}
use Rattle.flu_syntax.specs.Machine.{cell_of, tag_of, Actions, Tags, Context, Amount, Guard, Frame, NegFrame, NotFrame, ParenFrame, RightFrame, Mode, Want}
use Rattle.flu_syntax.specs.Machine.{Have, Done, Aim, ToWrite, ToClear, ToRead, ToTest, Now, Start, Declared, CellName, CellForm, CellSort, TagName, TagForm}
use Rattle.flu_syntax.specs.Machine.{TagItem, TagValue, DependsFirst, DependsSecond, DependsHow, SourceName, SourceFile, SourceRate, RateNumber, SourceSlack}
use Rattle.flu_syntax.specs.Machine.{SlackNumber, SourceColon, TagKind, TagKeys, TagLow, TagMore, TagHigh, TagClose, TagEnd, OnKind, OnColon, ActionStart}
use Rattle.flu_syntax.specs.Machine.{DeedEnd, ActionEnd, EmitText, FlushFamily, FlushText, CellFamily, CellKeys, CellKey, CellClose, InExpression, Next, Goes}
use Rattle.flu_syntax.specs.Machine.{Deep, Refused, operator_of, start_of, doing_of, sort_of, value_of, level_behind, behind, named, source_of, listed}
use Rattle.flu_syntax.specs.Machine.{heading_of, opening, expression_step, step, whole, Verdict, Found, Unexpected, TooDeep, goes_on, next_declaration, ended}
use Rattle.flu_syntax.specs.Machine.{ClockName, ClockEvery, ClockPeriod, ClockRate, ClockRateNumber, ClockColon, ClockTag}
use Rattle.flu_syntax.specs.Machine.{run, CellBy, CellList, TagBy, TagList, NamesName, NamesColon, NamesText, NamesEnd, Listing, listing_of, texted}
use Rattle.flu_text.specs.Signs.{place_of}
use Rattle.flu_syntax.specs.Grammar.{op_level}
use Rattle.flu_syntax.specs.Reading.{no_actions}
use Rattle.flu_syntax.proofs.Runs.{run-takes, run-neg, run-not, run-right, run-paren, run-behind, pass_end, pass_word}

abbrev token : Word → Token
token word = record { word = word; from = 0; to = 0 }

abbrev a_name : Token
a_name = token (w.Name contextual.Other)

-- what stands at this turn can be ended
abbrev pub Can : ℕ → Declarations → Now → Type 0
Can end job now = (more : List Token) × (found : Declarations) × (run end job now more ≡ Found found)

whole_can : (end : ℕ) (job one : Declarations) (now : Now) → whole now ≡ Some one → Can end job now
unfolding run
whole_can end job one now e = ([], job ++ one, rw e refl)

via : (end : ℕ) (job : Declarations) (now next : Now) (t : Token) → step now t ≡ Goes next → Can end job next → Can end job now
via end job now next t e can = (t ∷ can.0, can.1, run-takes end job now next t can.0 e ∙ can.2)

-- ---- expressions

-- the ends of all open parentheses
abbrev closing : List Frame → List Token
closing [] = []
closing (NegFrame level at ∷ frames) = closing frames
closing (NotFrame level at ∷ frames) = closing frames
closing (ParenFrame level at ∷ frames) = token (w.Mark m.CloseParen) ∷ closing frames
closing (RightFrame level o at left ∷ frames) = closing frames

abbrev Ended : ℕ → Declarations → Now → List Token → Type 0
Ended end job now tokens = (found : Declarations) × (run end job now tokens ≡ Found found)

quiet : (low high end : ℕ) (job : Declarations) (context : Context) (t : Tree) (frames fs : List Frame)
    → run end job (InExpression context (Have low high t) frames) (closing fs) ≡ run end job (InExpression context (Done t) frames) (closing fs)
unfolding operator_of
quiet low high end job context t frames [] = pass_end low high end job context t frames [] refl
quiet low high end job context t frames (NegFrame level at ∷ fs) = quiet low high end job context t frames fs
quiet low high end job context t frames (NotFrame level at ∷ fs) = quiet low high end job context t frames fs
quiet low high end job context t frames (ParenFrame level at ∷ fs) =
    pass_word low high end job context t frames (token (w.Mark m.CloseParen)) (closing (ParenFrame level at ∷ fs)) (closing fs) refl refl
quiet low high end job context t frames (RightFrame level o at left ∷ fs) = quiet low high end job context t frames fs

so : (end : ℕ) (job : Declarations) (a b : Now) (xs ys : List Token) → run end job a xs ≡ run end job b ys → Ended end job b ys → Ended end job a xs
so end job a b xs ys e h = (h.0, e ∙ h.1)

behind_ended : (end : ℕ) (job : Declarations) (context : Context) (t : Tree) → Ended end job (behind context t) []
unfolding run whole
behind_ended end job (Amount so_far at verb cell) t = (_, refl)
behind_ended end job (Guard so_far at deed) t = (_, refl)

closed : (end : ℕ) (job : Declarations) (context : Context) (t : Tree) (frames : List Frame)
    → Ended end job (InExpression context (Done t) frames) (closing frames)
closed end job context t [] = so end job _ _ _ _ (run-behind end job context t []) (behind_ended end job context t)
closed end job context t (NegFrame level at ∷ frames) =
    so end job _ _ _ _ (run-neg end level at job context t frames (closing frames)
    ∙ quiet level 6 end job context (NegTree at t) frames frames) (closed end job context (NegTree at t) frames)
closed end job context t (NotFrame level at ∷ frames) =
    so end job _ _ _ _ (run-not end level at job context t frames (closing frames)
    ∙ quiet level 2 end job context (NotTree at t) frames frames) (closed end job context (NotTree at t) frames)
closed end job context t (ParenFrame level at ∷ frames) =
    so end job _ _ _ _
    (run-paren end level at job context t frames (token (w.Mark m.CloseParen)) (token (w.Mark m.CloseParen) ∷ closing frames) (closing frames) refl refl
    ∙ quiet level 6 end job context (ParenTree at t) frames frames)
    (closed end job context (ParenTree at t) frames)
closed end job context t (RightFrame level o at left ∷ frames) =
    so end job _ _ _ _
    (run-right end level at job context o left t frames (closing frames)
    ∙ quiet level (level_behind (op_level o)) end job context (TwoTree o at left t) frames frames)
    (closed end job context (TwoTree o at left t) frames)

expression_can : (end : ℕ) (job : Declarations) (context : Context) (mode : Mode) (frames : List Frame) → Can end job (InExpression context mode frames)
unfolding step expression_step start_of
expression_can end job context (Want level) frames =
    let zero_ = NumberTree (number_of (pos 0) (token (w.Number (pos 0)))) in
    let h = closed end job context zero_ frames in
    via end job _ (InExpression context (Have level 6 zero_) frames) (token (w.Number (pos 0))) refl
    (closing frames, h.0, quiet level 6 end job context zero_ frames frames ∙ h.1)
expression_can end job context (Have low high t) frames =
    let h = closed end job context t frames in (closing frames, h.0, quiet low high end job context t frames frames ∙ h.1)
expression_can end job context (Done t) frames = let h = closed end job context t frames in (closing frames, h.0, h.1)

-- ---- cells

deed_can : (end : ℕ) (job : Declarations) (so_far : Actions) (at : ℕ) (deed : Deed) → Can end job (DeedEnd so_far at deed)
unfolding whole
deed_can end job so_far at deed = whole_can end job _ (DeedEnd so_far at deed) refl

named_can : (end : ℕ) (job : Declarations) (aim : Aim) (cell : WrittenRef) → Can end job (named aim cell)
named_can end job (ToWrite so_far at verb) cell = expression_can end job (Amount so_far at verb cell) (Want 0) []
named_can end job (ToClear so_far at) cell = deed_can end job so_far at _
named_can end job (ToRead context level frames) cell = expression_can end job context _ frames
named_can end job (ToTest context level frames at) cell = expression_can end job context _ frames

close_can : (end : ℕ) (job : Declarations) (aim : Aim) (cell : WrittenRef) → Can end job (CellClose aim cell)
unfolding step
close_can end job aim cell = via end job _ (named aim cell) (token (w.Mark m.CloseBracket)) refl (named_can end job aim cell)

key_can : (end : ℕ) (job : Declarations) (aim : Aim) (family : WrittenSpan) → Can end job (CellKey aim family)
unfolding step
key_can end job aim family =
    via end job _ (CellClose aim (cell_of family (key.OwnKey 0))) (token (w.Reserved r.Key)) refl (close_can end job aim (cell_of family (key.OwnKey 0)))

keys_can : (end : ℕ) (job : Declarations) (aim : Aim) (family : WrittenSpan) → Can end job (CellKeys aim family)
unfolding step
keys_can end job aim family = via end job _ (CellKey aim family) (token (w.Mark m.OpenBracket)) refl (key_can end job aim family)

-- ---- tags and actions

kind_can : (end : ℕ) (job : Declarations) (so_far : Tags) → Can end job (TagKind so_far)
unfolding step whole
kind_can end job so_far =
    via end job _ (TagKeys so_far (span_of a_name)) a_name refl (whole_can end job _ (TagKeys so_far (span_of a_name)) refl)

tag_end_can : (end : ℕ) (job : Declarations) (so_far : Tags) → Can end job (TagEnd so_far)
unfolding whole
tag_end_can end job so_far = whole_can end job _ (TagEnd so_far) refl

more_can : (end : ℕ) (job : Declarations) (so_far : Tags) (kind : WrittenSpan) (low : WrittenNumber) → Can end job (TagMore so_far kind low)
unfolding step
more_can end job so_far kind low =
    via end job _ (TagEnd (listed so_far (tag_of kind (keys.One low)))) (token (w.Mark m.CloseBracket)) refl (tag_end_can end job _)

tag_close_can : (end : ℕ) (job : Declarations) (so_far : Tags) (kind : WrittenSpan) (ks : WrittenKeys) → Can end job (TagClose so_far kind ks)
unfolding step
tag_close_can end job so_far kind ks = via end job _ (TagEnd (listed so_far (tag_of kind ks))) (token (w.Mark m.CloseBracket)) refl (tag_end_can end job _)

colon_can : (end : ℕ) (job : Declarations) (name file : WrittenSpan) (rate slack : Option WrittenNumber) → Can end job (SourceColon name file rate slack)
unfolding step
colon_can end job name file rate slack = via end job _ (TagKind (source_of name file rate slack)) (token (w.Mark m.Colon)) refl (kind_can end job _)

slack_can : (end : ℕ) (job : Declarations) (name file : WrittenSpan) (rate : Option WrittenNumber) → Can end job (SourceSlack name file rate)
unfolding step
slack_can end job name file rate = via end job _ (TagKind (source_of name file rate None)) (token (w.Mark m.Colon)) refl (kind_can end job _)

rate_can : (end : ℕ) (job : Declarations) (name file : WrittenSpan) → Can end job (SourceRate name file)
unfolding step
rate_can end job name file = via end job _ (TagKind (source_of name file None None)) (token (w.Mark m.Colon)) refl (kind_can end job _)

file_can : (end : ℕ) (job : Declarations) (name : WrittenSpan) → Can end job (SourceFile name)
unfolding step
file_can end job name = via end job _ (SourceRate name (span_of (token w.Text))) (token w.Text) refl (rate_can end job _ _)

clock_tag_can : (end : ℕ) (job : Declarations) (at : ℕ) (name : WrittenSpan) (every : WrittenNumber) (rate : Option WrittenNumber)
    → Can end job (ClockTag at name every rate)
unfolding step whole
clock_tag_can end job at name every rate = via end job _ (Declared _) a_name refl (whole_can end job _ (Declared _) refl)

clock_colon_can : (end : ℕ) (job : Declarations) (at : ℕ) (name : WrittenSpan) (every : WrittenNumber) (rate : Option WrittenNumber)
    → Can end job (ClockColon at name every rate)
unfolding step
clock_colon_can end job at name every rate = via end job _ (ClockTag at name every rate) (token (w.Mark m.Colon)) refl (clock_tag_can end job _ _ _ _)

clock_rate_can : (end : ℕ) (job : Declarations) (at : ℕ) (name : WrittenSpan) (every : WrittenNumber) → Can end job (ClockRate at name every)
unfolding step
clock_rate_can end job at name every = via end job _ (ClockTag at name every None) (token (w.Mark m.Colon)) refl (clock_tag_can end job _ _ _ _)

clock_period_can : (end : ℕ) (job : Declarations) (at : ℕ) (name : WrittenSpan) → Can end job (ClockPeriod at name)
unfolding step
clock_period_can end job at name =
    via end job _ (ClockRate at name (number_of (pos 0) (token (w.Number (pos 0))))) (token (w.Number (pos 0))) refl (clock_rate_can end job _ _ _)

clock_every_can : (end : ℕ) (job : Declarations) (at : ℕ) (name : WrittenSpan) → Can end job (ClockEvery at name)
unfolding step
clock_every_can end job at name = via end job _ (ClockPeriod at name) (token (w.Name contextual.Every)) refl (clock_period_can end job _ _)

emit_can : (end : ℕ) (job : Declarations) (so_far : Actions) (at : ℕ) → Can end job (EmitText so_far at)
unfolding step
emit_can end job so_far at = via end job _ (DeedEnd so_far at (Emits (span_of (token w.Text)))) (token w.Text) refl (deed_can end job so_far at _)

flush_can : (end : ℕ) (job : Declarations) (so_far : Actions) (at : ℕ) (family : WrittenSpan) → Can end job (FlushText so_far at family)
unfolding step
flush_can end job so_far at family =
    via end job _ (DeedEnd so_far at (Flushes family (span_of (token w.Text)))) (token w.Text) refl (deed_can end job so_far at _)

action_can : (end : ℕ) (job : Declarations) (so_far : Actions) → Can end job (ActionStart so_far)
unfolding step doing_of
action_can end job so_far = via end job _ (EmitText so_far 0) (token (w.Reserved r.Emit)) refl (emit_can end job so_far 0)

on_can : (end : ℕ) (job : Declarations) (kind : WrittenSpan) → Can end job (OnColon kind)
unfolding step
on_can end job kind = via end job _ (ActionStart (no_actions kind)) (token (w.Mark m.Colon)) refl (action_can end job _)

form_can : (end : ℕ) (job : Declarations) (name : WrittenSpan) → Can end job (CellForm name)
unfolding step sort_of whole
form_can end job name = via end job _ (Declared _) (token (w.Reserved r.Sum)) refl (whole_can end job _ (Declared _) refl)

tag_form_can : (end : ℕ) (job : Declarations) (name : WrittenSpan) → Can end job (TagForm name)
unfolding step value_of whole
tag_form_can end job name = via end job _ (Declared _) (token (w.Reserved r.Int)) refl (whole_can end job _ (Declared _) refl)

sort_can : (end : ℕ) (job : Declarations) (name : WrittenSpan) (cells : WrittenCells) → Can end job (CellSort name cells)
unfolding step sort_of whole
sort_can end job name cells = via end job _ (Declared _) (token (w.Reserved r.Sum)) refl (whole_can end job _ (Declared _) refl)

value_can : (end : ℕ) (job : Declarations) (name : WrittenSpan) (keyed : Bool) (item : Option WrittenItem) → Can end job (TagValue name keyed item)
unfolding step value_of whole
value_can end job name keyed item = via end job _ (Declared _) (token (w.Reserved r.Int)) refl (whole_can end job _ (Declared _) refl)

names_can : (end : ℕ) (job : Declarations) (so_far : Listing) → Can end job (NamesText so_far)
unfolding step whole
names_can end job so_far =
    via end job _ (NamesEnd (texted so_far (span_of (token w.Text)))) (token w.Text) refl (whole_can end job _ (NamesEnd _) refl)

names_colon_can : (end : ℕ) (job : Declarations) (at : ℕ) (name : WrittenSpan) → Can end job (NamesColon at name)
unfolding step
names_colon_can end job at name = via end job _ (NamesText (listing_of at name)) (token (w.Mark m.Colon)) refl (names_can end job _)

how_can : (end : ℕ) (job : Declarations) (a b : WrittenSpan) → Can end job (DependsHow a b)
unfolding whole
how_can end job a b = whole_can end job _ (DependsHow a b) refl

second_can : (end : ℕ) (job : Declarations) (a : WrittenSpan) → Can end job (DependsSecond a)
unfolding step
second_can end job a = via end job _ (DependsHow a (span_of a_name)) a_name refl (how_can end job a _)

-- ---- each turn

pub can : (end : ℕ) (job : Declarations) (now : Now) → Can end job now
unfolding step whole sort_of value_of
can end job Start = whole_can end job _ Start refl
can end job (Declared d) = whole_can end job _ (Declared d) refl
can end job CellName = via end job _ (CellForm (span_of a_name)) a_name refl (form_can end job _)
can end job (CellForm name) = form_can end job name
can end job (CellBy name) = via end job _ (Declared _) (token (w.Reserved r.Sum)) refl (whole_can end job _ (Declared _) refl)
can end job (CellList name at) = via end job _ (CellSort name _) a_name refl (sort_can end job _ _)
can end job (CellSort name cells) = sort_can end job name cells
can end job TagName = via end job _ (TagForm (span_of a_name)) a_name refl (tag_form_can end job _)
can end job (TagForm name) = tag_form_can end job name
can end job (TagItem name keyed) = via end job _ (Declared _) (token (w.Reserved r.Int)) refl (whole_can end job _ (Declared _) refl)
can end job (TagBy name keyed at) = via end job _ (Declared _) (token (w.Reserved r.Int)) refl (whole_can end job _ (Declared _) refl)
can end job (TagList name keyed at by_at) = via end job _ (TagValue name keyed _) a_name refl (value_can end job _ _ _)
can end job (TagValue name keyed item) = value_can end job name keyed item
can end job (NamesName at) = via end job _ (NamesColon at (span_of a_name)) a_name refl (names_colon_can end job at _)
can end job (NamesColon at name) = names_colon_can end job at name
can end job (NamesText so_far) = names_can end job so_far
can end job (NamesEnd so_far) = whole_can end job _ (NamesEnd so_far) refl
can end job DependsFirst = via end job _ (DependsSecond (span_of a_name)) a_name refl (second_can end job _)
can end job (DependsSecond a) = second_can end job a
can end job (DependsHow a b) = how_can end job a b
can end job SourceName = via end job _ (SourceFile (span_of a_name)) a_name refl (file_can end job _)
can end job (SourceFile name) = file_can end job name
can end job (SourceRate name file) = rate_can end job name file
can end job (RateNumber name file) =
    via end job _ (SourceSlack name file (Some (number_of (pos 0) (token (w.Number (pos 0)))))) (token (w.Number (pos 0))) refl (slack_can end job _ _ _)
can end job (SourceSlack name file rate) = slack_can end job name file rate
can end job (SlackNumber name file rate) =
    via end job _ (SourceColon name file rate (Some (number_of (pos 0) (token (w.Number (pos 0)))))) (token (w.Number (pos 0))) refl (colon_can end job _ _ _ _)
can end job (SourceColon name file rate slack) = colon_can end job name file rate slack
can end job (ClockName at) = via end job _ (ClockEvery at (span_of a_name)) a_name refl (clock_every_can end job _ _)
can end job (ClockEvery at name) = clock_every_can end job at name
can end job (ClockPeriod at name) = clock_period_can end job at name
can end job (ClockRate at name every) = clock_rate_can end job at name every
can end job (ClockRateNumber at name every) =
    via end job _ (ClockColon at name every (Some (number_of (pos 0) (token (w.Number (pos 0)))))) (token (w.Number (pos 0))) refl
    (clock_colon_can end job _ _ _ _)
can end job (ClockColon at name every rate) = clock_colon_can end job at name every rate
can end job (ClockTag at name every rate) = clock_tag_can end job at name every rate
can end job (TagKind so_far) = kind_can end job so_far
can end job (TagKeys so_far kind) = whole_can end job _ (TagKeys so_far kind) refl
can end job (TagLow so_far kind) =
    via end job _ (TagMore so_far kind (number_of (pos 0) (token (w.Number (pos 0))))) (token (w.Number (pos 0))) refl (more_can end job _ _ _)
can end job (TagMore so_far kind low) = more_can end job so_far kind low
can end job (TagHigh so_far kind low) =
    via end job _ (TagClose so_far kind (keys.Range low (number_of (pos 0) (token (w.Number (pos 0)))))) (token (w.Number (pos 0))) refl
    (tag_close_can end job _ _ _)
can end job (TagClose so_far kind ks) = tag_close_can end job so_far kind ks
can end job (TagEnd so_far) = tag_end_can end job so_far
can end job OnKind = via end job _ (OnColon (span_of a_name)) a_name refl (on_can end job _)
can end job (OnColon kind) = on_can end job kind
can end job (ActionStart so_far) = action_can end job so_far
can end job (DeedEnd so_far at deed) = deed_can end job so_far at deed
can end job (ActionEnd so_far) = whole_can end job _ (ActionEnd so_far) refl
can end job (EmitText so_far at) = emit_can end job so_far at
can end job (FlushFamily so_far at) = via end job _ (FlushText so_far at (span_of a_name)) a_name refl (flush_can end job so_far at _)
can end job (FlushText so_far at family) = flush_can end job so_far at family
can end job (CellFamily aim) = via end job _ (CellKeys aim (span_of a_name)) a_name refl (keys_can end job aim _)
can end job (CellKeys aim family) = keys_can end job aim family
can end job (CellKey aim family) = key_can end job aim family
can end job (CellClose aim cell) = close_can end job aim cell
can end job (InExpression context mode frames) = expression_can end job context mode frames

-- ---- the first token that cannot follow

-- the next token is unexpected, whatever follows, or the tokens end and that is unexpected
abbrev pub Cannot : ℕ → Declarations → Now → List Token → List Token → Type 0
Cannot end job now front [] = run end job now front ≡ Unexpected end
Cannot end job now front (t ∷ rest) = (more : List Token) → run end job now ((front ++ t ∷ []) ++ more) ≡ Unexpected t.from

pub record IsFirst (end : ℕ) (job : Declarations) (now : Now) (tokens : List Token) (place : ℕ) : Type 0 where
  pub front : List Token
  pub rest : List Token
  pub parts : tokens ≡ front ++ rest
  pub here : place ≡ place_of end rest
  pub may : (more : List Token) × (found : Declarations) × (run end job now (front ++ more) ≡ Found found)
  pub cannot : Cannot end job now front rest

same_place : (a b : ℕ) (v : Verdict Declarations) → v ≡ Unexpected a → v ≡ Unexpected b → b ≡ a
same_place a b v p q = let both : Unexpected a ≡ Unexpected b = sym p ∙ q in let same : a ≡ b = cc in sym same

end_place : (end place : ℕ) (job : Declarations) (o : Option Declarations) → ended end job o ≡ Unexpected place → place ≡ end
end_place end place job None e = let same : end ≡ place = cc in sym same
end_place end place job (Some one) e = cc

at_end : (end place : ℕ) (job : Declarations) (now : Now) → run end job now [] ≡ Unexpected place → IsFirst end job now [] place
unfolding run
at_end end place job now e = record {
  front = [];
  rest = [];
  parts = refl;
  here = end_place end place job (whole now) e;
  may = can end job now;
  cannot = e ∙ ap Unexpected (end_place end place job (whole now) e);
}

here_it_is : (end place : ℕ) (job : Declarations) (now : Now) (t : Token) (tokens : List Token) → place ≡ t.from
    → ((more : List Token) → run end job now (t ∷ more) ≡ Unexpected t.from) → IsFirst end job now (t ∷ tokens) place
here_it_is end place job now t tokens e all = record {
  front = [];
  rest = t ∷ tokens;
  parts = refl;
  here = e;
  may = can end job now;
  cannot = all;
}

later_cannot : (end : ℕ) (job next : Declarations) (now other : Now) (t : Token) (front rest : List Token)
    → ((more : List Token) → run end job now (t ∷ more) ≡ run end next other more) → Cannot end next other front rest
    → Cannot end job now (t ∷ front) rest
later_cannot end job next now other t front [] leads h = leads front ∙ h
later_cannot end job next now other t front (u ∷ rest) leads h = λ more. leads ((front ++ u ∷ []) ++ more) ∙ h more

later : (end place : ℕ) (job next : Declarations) (now other : Now) (t : Token) (tokens : List Token)
    → ((more : List Token) → run end job now (t ∷ more) ≡ run end next other more) → IsFirst end next other tokens place
    → IsFirst end job now (t ∷ tokens) place
later end place job next now other t tokens leads h = record {
  front = t ∷ h.front;
  rest = h.rest;
  parts = ap (λ (ts : List Token). t ∷ ts) h.parts;
  here = h.here;
  may = (h.may.0, h.may.1, leads (h.front ++ h.may.0) ∙ h.may.2);
  cannot = later_cannot end job next now other t h.front h.rest leads h.cannot;
}

-- all that a token may do
unrolled : (end : ℕ) (job : Declarations) (now : Now) (t : Token) (tokens : List Token)
    → run end job now (t ∷ tokens) ≡ goes_on t job now (step now t) (λ next other. run end next other tokens)
unfolding run
unrolled end job now t tokens = refl

pub goes_at : (end : ℕ) (job : Declarations) (now : Now) (t : Token) (n : Next) (tokens : List Token) → step now t ≡ n
    → run end job now (t ∷ tokens) ≡ goes_on t job now n (λ next other. run end next other tokens)
goes_at end job now t n tokens e = unrolled end job now t tokens ∙ ap (λ (x : Next). goes_on t job now x (λ next other. run end next other tokens)) e

pub declares_at : (end : ℕ) (job : Declarations) (now : Now) (t : Token) (o : Option Declarations) (p : Option Now) (tokens : List Token) → step now t ≡ Refused
    → whole now ≡ o → opening t.from (heading_of t.word) ≡ p
    → run end job now (t ∷ tokens) ≡ next_declaration t.from job o p (λ next other. run end next other tokens)
declares_at end job now t o p tokens s e h = goes_at end job now t Refused tokens s ∙ (rw (e, h) refl)

by_declaration : (end place : ℕ) (job : Declarations) (now : Now) (t : Token) (tokens : List Token) → run end job now (t ∷ tokens) ≡ Unexpected place
    → ((next : Declarations) (other : Now) → run end next other tokens ≡ Unexpected place → IsFirst end next other tokens place)
    → step now t ≡ Refused → (o : Option Declarations) → whole now ≡ o → (p : Option Now) → opening t.from (heading_of t.word) ≡ p
    → IsFirst end job now (t ∷ tokens) place
by_declaration end place job now t tokens e ih s None a p b =
    here_it_is end place job now t tokens (same_place t.from place (run end job now (t ∷ tokens)) (declares_at end job now t None p tokens s a b) e)
    (λ more. declares_at end job now t None p more s a b)
by_declaration end place job now t tokens e ih s (Some one) a None b =
    here_it_is end place job now t tokens (same_place t.from place (run end job now (t ∷ tokens)) (declares_at end job now t (Some one) None tokens s a b) e)
    (λ more. declares_at end job now t (Some one) None more s a b)
by_declaration end place job now t tokens e ih s (Some one) a (Some other) b =
    later end place job (job ++ one) now other t tokens (λ more. declares_at end job now t (Some one) (Some other) more s a b)
    (ih (job ++ one) other (sym (declares_at end job now t (Some one) (Some other) tokens s a b) ∙ e))

by_step : (end place : ℕ) (job : Declarations) (now : Now) (t : Token) (tokens : List Token) → run end job now (t ∷ tokens) ≡ Unexpected place
    → ((next : Declarations) (other : Now) → run end next other tokens ≡ Unexpected place → IsFirst end next other tokens place)
    → (n : Next) → step now t ≡ n → IsFirst end job now (t ∷ tokens) place
by_step end place job now t tokens e ih (Goes other) s =
    later end place job job now other t tokens (λ more. goes_at end job now t (Goes other) more s)
    (ih job other (sym (goes_at end job now t (Goes other) tokens s) ∙ e))
by_step end place job now t tokens e ih Deep s = absurd (let both : TooDeep ≡ Unexpected place = sym (goes_at end job now t Deep tokens s) ∙ e in cc)
by_step end place job now t tokens e ih Refused s = by_declaration end place job now t tokens e ih s (whole now) refl (opening t.from (heading_of t.word)) refl

pub first_of_all : (end place : ℕ) (tokens : List Token) (job : Declarations) (now : Now) → run end job now tokens ≡ Unexpected place
    → IsFirst end job now tokens place
first_of_all end place [] job now e = at_end end place job now e
first_of_all end place (t ∷ tokens) job now e = by_step end place job now t tokens e (first_of_all end place tokens) (step now t) refl
