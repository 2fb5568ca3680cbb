-- What the tokens of a job are read as, token by token: a machine that keeps what it has read and what is still open, and so
-- finds the job, or the first token that cannot follow. `Grammar` says what a job is, and `Laws` that the machine finds exactly that.
use Rattle.std.specs.Prelude.{ℕ, ◌+◌, Bool, true, false, ◌&&◌, nat_lt, nat_le, ◌==◌, if◌then◌else◌, ℤ, List, [], ◌∷◌, ◌++◌, Option, Some, None}
use Rattle.flu_text.specs.Signs.{span_of, number_of}
use Rattle.flu_text.specs.declared.words.Word.{Word}
use Rattle.flu_text.specs.declared.words.Word.TheVariants as w
use Rattle.flu_names.specs.declared.reserved.Reserved.{Reserved}
use Rattle.flu_names.specs.declared.reserved.Reserved.TheVariants as r
use Rattle.flu_text.specs.declared.words.Contextual.TheVariants as contextual
use Rattle.flu_text.specs.declared.words.Mark.{Mark}
use Rattle.flu_text.specs.declared.words.Mark.TheVariants as m
use Rattle.flu_text.specs.declared.words.Token.{Token}
use Rattle.flu_model.specs.declared.jobs.Op.{Op}
use Rattle.flu_model.specs.declared.jobs.Op.TheVariants as op
use Rattle.flu_model.specs.declared.jobs.Sort.{Sort}
use Rattle.flu_model.specs.declared.jobs.Sort.TheVariants as sort
use Rattle.flu_text.specs.declared.written.WrittenSpan.{WrittenSpan}
use Rattle.flu_text.specs.declared.written.WrittenNumber.{WrittenNumber}
use Rattle.flu_syntax.specs.declared.tree.WrittenKey.{WrittenKey}
use Rattle.flu_syntax.specs.declared.tree.WrittenKey.TheVariants as key
use Rattle.flu_syntax.specs.declared.tree.WrittenRef.{WrittenRef}
use Rattle.flu_text.specs.declared.written.WrittenKeys.{WrittenKeys}
use Rattle.flu_text.specs.declared.written.WrittenKeys.TheVariants as keys
use Rattle.flu_syntax.specs.declared.tree.WrittenTag.{WrittenTag}
use Rattle.flu_syntax.specs.declared.tree.WrittenBy.{WrittenBy}
use Rattle.flu_syntax.specs.declared.tree.WrittenCells.{WrittenCells}
use Rattle.flu_syntax.specs.declared.tree.WrittenCells.TheVariants as cells
use Rattle.flu_syntax.specs.declared.tree.WrittenItem.{WrittenItem}
use Rattle.flu_syntax.specs.declared.tree.WrittenRelation.TheVariants as relation
use Rattle.flu_syntax.specs.declared.tree.WrittenTies.{WrittenTies}
use Rattle.flu_syntax.specs.declared.tree.WrittenUnit.{WrittenUnit}
use Rattle.flu_syntax.specs.declared.tree.WrittenHead.{WrittenHead}
use Rattle.flu_syntax.specs.declared.tokens.Front.{Front}
use Rattle.flu_syntax.specs.declared.tokens.Front.TheVariants as start
use Rattle.flu_syntax.specs.declared.tokens.Verb.{Verb}
use Rattle.flu_syntax.specs.declared.tokens.Verb.TheVariants as verb
use Rattle.flu_syntax.specs.declared.tokens.Doing.{Doing}
use Rattle.flu_syntax.specs.declared.tokens.Doing.TheVariants as doing
use Rattle.flu_syntax.specs.declared.tokens.Heading.{Heading}
use Rattle.flu_syntax.specs.declared.tokens.Heading.TheVariants as heading
use Rattle.flu_syntax.specs.Tree.{Tree, NumberTree, ValueTree, KeyTree, TimeTree, ReadTree, HasTree, ParenTree, NegTree, NotTree, TwoTree, Deed, Writes, Clears}
use Rattle.flu_syntax.specs.Tree.{Emits, Flushes, Action, Declaration, Cell, Tag, Names, Depends, On, Source, Clock, Declarations, Job}
use Rattle.flu_syntax.specs.Grammar.{op_level}

abbrev pub cell_of : WrittenSpan → WrittenKey → WrittenRef
cell_of family k = record { family = family; key = k }

abbrev pub tag_of : WrittenSpan → WrittenKeys → WrittenTag
tag_of kind ks = record { kind = kind; keys = ks }

-- ---- what there is at each turn

-- the actions of a kind so far
pub record Actions : Type 0 where
  pub kind : WrittenSpan
  pub all : List Action

-- a source with its tags so far
pub record Tags : Type 0 where
  pub name : WrittenSpan
  pub file : WrittenSpan
  pub rate : Option WrittenNumber
  pub slack : Option WrittenNumber
  pub all : List WrittenTag

-- a list of names with its texts so far
pub record Listing : Type 0 where
  pub at : ℕ
  pub name : WrittenSpan
  pub texts : List WrittenSpan

-- where an expression is: the amount of an action, or its guard; `at` is the place of the action's first token
pub data Context : Type 0 where
  Amount : (so_far : Actions) (at : ℕ) (verb : Verb) (cell : WrittenRef) → Context
  Guard : (so_far : Actions) (at : ℕ) (deed : Deed) → Context

-- what is open in an expression, from the innermost, each with the least level of the operators that may follow it
pub data Frame : Type 0 where
  NegFrame : (level at : ℕ) → Frame
  NotFrame : (level at : ℕ) → Frame
  ParenFrame : (level at : ℕ) → Frame
  RightFrame : (level : ℕ) (o : Op) (at : ℕ) (left : Tree) → Frame

-- how far an expression is
pub data Mode : Type 0 where
  -- one is expected
  Want : (level : ℕ) → Mode
  -- one is there, and operators of these levels may take it as their left operand
  Have : (low high : ℕ) (t : Tree) → Mode
  -- one is there, and no operator takes it
  Done : (t : Tree) → Mode

-- what a cell is named for: to be written or cleared by an action, or to be read or tested in an expression
pub data Aim : Type 0 where
  ToWrite : (so_far : Actions) (at : ℕ) (verb : Verb) → Aim
  ToClear : (so_far : Actions) (at : ℕ) → Aim
  ToRead : (context : Context) (level : ℕ) (frames : List Frame) → Aim
  ToTest : (context : Context) (level : ℕ) (frames : List Frame) (at : ℕ) → Aim

-- how far a declaration is
pub data Now : Type 0 where
  -- one may begin
  Start : Now
  -- one is there, and nothing more of it may follow
  Declared : (d : Declaration) → Now
  -- after `cell`, after its name, after `keyed`, after `by`, after the list's name
  CellName : Now
  CellForm : (name : WrittenSpan) → Now
  CellBy : (name : WrittenSpan) → Now
  CellList : (name : WrittenSpan) (at : ℕ) → Now
  CellSort : (name : WrittenSpan) (cells : WrittenCells) → Now
  -- after `tag`, after its name, after `keyed`, after `item`, after `by`, after the list's name
  TagName : Now
  TagForm : (name : WrittenSpan) → Now
  TagItem : (name : WrittenSpan) (keyed : Bool) → Now
  TagBy : (name : WrittenSpan) (keyed : Bool) (at : ℕ) → Now
  TagList : (name : WrittenSpan) (keyed : Bool) (at by_at : ℕ) → Now
  TagValue : (name : WrittenSpan) (keyed : Bool) (item : Option WrittenItem) → Now
  -- after `names`, after the list's name, where a text is expected, after it
  NamesName : (at : ℕ) → Now
  NamesColon : (at : ℕ) (name : WrittenSpan) → Now
  NamesText : (so_far : Listing) → Now
  NamesEnd : (so_far : Listing) → Now
  -- after `depends`, after its first name, after its second name
  DependsFirst : Now
  DependsSecond : (a : WrittenSpan) → Now
  DependsHow : (a b : WrittenSpan) → Now
  -- after `source`, after its name, after its file, after `rate`, after the rate, after `slack`, after the slack
  SourceName : Now
  SourceFile : (name : WrittenSpan) → Now
  SourceRate : (name file : WrittenSpan) → Now
  RateNumber : (name file : WrittenSpan) → Now
  SourceSlack : (name file : WrittenSpan) (rate : Option WrittenNumber) → Now
  SlackNumber : (name file : WrittenSpan) (rate : Option WrittenNumber) → Now
  SourceColon : (name file : WrittenSpan) (rate slack : Option WrittenNumber) → Now
  -- after `clock`, after its name, after `every`, after the period, after `rate`, after the rate, after `:`
  ClockName : (at : ℕ) → Now
  ClockEvery : (at : ℕ) (name : WrittenSpan) → Now
  ClockPeriod : (at : ℕ) (name : WrittenSpan) → Now
  ClockRate : (at : ℕ) (name : WrittenSpan) (every : WrittenNumber) → Now
  ClockRateNumber : (at : ℕ) (name : WrittenSpan) (every : WrittenNumber) → Now
  ClockColon : (at : ℕ) (name : WrittenSpan) (every : WrittenNumber) (rate : Option WrittenNumber) → Now
  ClockTag : (at : ℕ) (name : WrittenSpan) (every : WrittenNumber) (rate : Option WrittenNumber) → Now
  -- where a tag is expected, after its kind, after `[`, after the first number, after `..`, after the last number, after it
  TagKind : (so_far : Tags) → Now
  TagKeys : (so_far : Tags) (kind : WrittenSpan) → Now
  TagLow : (so_far : Tags) (kind : WrittenSpan) → Now
  TagMore : (so_far : Tags) (kind : WrittenSpan) (low : WrittenNumber) → Now
  TagHigh : (so_far : Tags) (kind : WrittenSpan) (low : WrittenNumber) → Now
  TagClose : (so_far : Tags) (kind : WrittenSpan) (ks : WrittenKeys) → Now
  TagEnd : (so_far : Tags) → Now
  -- after `on`, after its name, where an action is expected, after what it does, after it
  OnKind : Now
  OnColon : (kind : WrittenSpan) → Now
  ActionStart : (so_far : Actions) → Now
  DeedEnd : (so_far : Actions) (at : ℕ) (deed : Deed) → Now
  ActionEnd : (so_far : Actions) → Now
  -- after `emit`, after `flush`, after its family
  EmitText : (so_far : Actions) (at : ℕ) → Now
  FlushFamily : (so_far : Actions) (at : ℕ) → Now
  FlushText : (so_far : Actions) (at : ℕ) (family : WrittenSpan) → Now
  -- where a cell is expected, after its family, after `[`, after its key
  CellFamily : (aim : Aim) → Now
  CellKeys : (aim : Aim) (family : WrittenSpan) → Now
  CellKey : (aim : Aim) (family : WrittenSpan) → Now
  CellClose : (aim : Aim) (cell : WrittenRef) → Now
  -- in an expression
  InExpression : (context : Context) (mode : Mode) (frames : List Frame) → Now

-- what a token does: it leads on, or it opens one too many, or it cannot follow within the declaration
pub data Next : Type 0 where
  Goes : (now : Now) → Next
  Deep : Next
  Refused : Next

-- ---- operators

abbrev pub mark_operator : Mark → Option Op
mark_operator m.Plus = Some op.Plus
mark_operator m.Minus = Some op.Minus
mark_operator m.Times = Some op.Times
mark_operator m.Divide = Some op.Divide
mark_operator m.Remainder = Some op.Remainder
mark_operator m.Less = Some op.Less
mark_operator m.LessEq = Some op.LessEq
mark_operator m.More = Some op.More
mark_operator m.MoreEq = Some op.MoreEq
mark_operator m.Same = Some op.Same
mark_operator m.Differs = Some op.Differs
mark_operator _ = None

abbrev pub reserved_operator : Reserved → Option Op
reserved_operator r.Or = Some op.Either
reserved_operator r.And = Some op.Both
reserved_operator _ = None

unfoldable pub operator_of : Word → Option Op
operator_of (w.Mark mark) = mark_operator mark
operator_of (w.Reserved word) = reserved_operator word
operator_of (w.Name c) = None
operator_of (w.Number n) = None
operator_of w.Text = None

-- the greatest level after an operator and its right operand: comparisons do not chain
abbrev pub level_behind : ℕ → ℕ
level_behind level = if level == 3 then 2 else level

abbrev pub is_within : ℕ → ℕ → ℕ → Bool
is_within low level high = nat_le low level && nat_le level high

-- ---- actions

abbrev pub acted : Actions → ℕ → Deed → Option Tree → Actions
acted so_far at deed guard = record { kind = so_far.kind; all = so_far.all ++ record { at = at; deed = deed; guard = guard } ∷ [] }

abbrev pub on_line : Actions → Declarations
on_line so_far = On so_far.kind so_far.all ∷ []

unfoldable pub action_step : Actions → Word → Next
action_step so_far (w.Mark m.Semicolon) = Goes (ActionStart so_far)
action_step so_far _ = Refused

unfoldable pub deed_step : Actions → ℕ → Deed → Word → Next
deed_step so_far at deed (w.Reserved r.When) = Goes (InExpression (Guard so_far at deed) (Want 0) [])
deed_step so_far at deed word = action_step (acted so_far at deed None) word

-- after an expression
abbrev pub behind : Context → Tree → Now
behind (Amount so_far at verb cell) t = DeedEnd so_far at (Writes verb cell t)
behind (Guard so_far at deed) t = ActionEnd (acted so_far at deed (Some t))

unfoldable pub behind_step : Context → Tree → Word → Next
behind_step (Amount so_far at verb cell) t word = deed_step so_far at (Writes verb cell t) word
behind_step (Guard so_far at deed) t word = action_step (acted so_far at deed (Some t)) word

-- ---- expressions

unfoldable pub start_of : Word → Front
start_of (w.Number n) = start.Number n
start_of (w.Name c) = start.Family
start_of (w.Reserved r.Value) = start.Value
start_of (w.Reserved r.Key) = start.Key
start_of (w.Reserved r.Time) = start.Time
start_of (w.Reserved r.Has) = start.Has
start_of (w.Reserved r.Not) = start.Not
start_of (w.Mark m.Minus) = start.Minus
start_of (w.Mark m.OpenParen) = start.Open
start_of _ = start.Other

abbrev pub is_close : Word → Bool
is_close (w.Mark m.CloseParen) = true
is_close _ = false

-- how many parentheses and unary operators are open
abbrev pub opens_of : Frame → ℕ
opens_of (NegFrame level at) = 1
opens_of (NotFrame level at) = 1
opens_of (ParenFrame level at) = 1
opens_of (RightFrame level o at left) = 0

unfoldable pub opens : List Frame → ℕ
opens [] = 0
opens (f ∷ frames) = opens_of f + opens frames

-- one more is opened
abbrev pub deeper : List Frame → Now → Next
deeper frames now = if nat_lt (opens frames) 64 then Goes now else Deep

abbrev pub atom : Context → ℕ → List Frame → Tree → Next
atom context level frames t = Goes (InExpression context (Have level 6 t) frames)

abbrev pub begin : Context → ℕ → List Frame → Token → Front → Next
begin context level frames t (start.Number n) = atom context level frames (NumberTree (number_of n t))
begin context level frames t start.Value = atom context level frames (ValueTree t.from)
begin context level frames t start.Key = atom context level frames (KeyTree t.from)
begin context level frames t start.Time = atom context level frames (TimeTree t.from)
begin context level frames t start.Family = Goes (CellKeys (ToRead context level frames) (span_of t))
begin context level frames t start.Has = Goes (CellFamily (ToTest context level frames t.from))
begin context level frames t start.Not = if nat_le level 2 then deeper frames (InExpression context (Want 2) (NotFrame level t.from ∷ frames)) else Refused
begin context level frames t start.Minus = deeper frames (InExpression context (Want 6) (NegFrame level t.from ∷ frames))
begin context level frames t start.Open = deeper frames (InExpression context (Want 0) (ParenFrame level t.from ∷ frames))
begin context level frames t start.Other = Refused

-- an operator at a place takes it as its left operand, or others have their turn
abbrev pub take_or : Context → ℕ → ℕ → Tree → List Frame → ℕ → Option Op → Next → Next
take_or context low high t frames at None others = others
take_or context low high t frames at (Some o) others =
    if is_within low (op_level o) high then Goes (InExpression context (Want (op_level o + 1)) (RightFrame low o at t ∷ frames)) else others

-- an expression that no operator takes is a part of what is open
unfoldable pub done_step : Context → Tree → List Frame → Token → Next
done_step context t [] x = behind_step context t x.word
done_step context t (NegFrame level at ∷ frames) x =
    take_or context level 6 (NegTree at t) frames x.from (operator_of x.word) (done_step context (NegTree at t) frames x)
done_step context t (NotFrame level at ∷ frames) x =
    take_or context level 2 (NotTree at t) frames x.from (operator_of x.word) (done_step context (NotTree at t) frames x)
done_step context t (ParenFrame level at ∷ frames) x = if is_close x.word then atom context level frames (ParenTree at t) else Refused
done_step context t (RightFrame level o at left ∷ frames) x =
    take_or context level (level_behind (op_level o)) (TwoTree o at left t) frames x.from (operator_of x.word)
    (done_step context (TwoTree o at left t) frames x)

unfoldable pub expression_step : Context → Mode → List Frame → Token → Next
expression_step context (Want level) frames t = begin context level frames t (start_of t.word)
expression_step context (Have low high e) frames t = take_or context low high e frames t.from (operator_of t.word) (done_step context e frames t)
expression_step context (Done e) frames t = done_step context e frames t

-- ---- cells

-- after a cell
abbrev pub named : Aim → WrittenRef → Now
named (ToWrite so_far at verb) cell = InExpression (Amount so_far at verb cell) (Want 0) []
named (ToClear so_far at) cell = DeedEnd so_far at (Clears cell)
named (ToRead context level frames) cell = InExpression context (Have level 6 (ReadTree cell)) frames
named (ToTest context level frames at) cell = InExpression context (Have level 6 (HasTree at cell)) frames

unfoldable pub named_step : Aim → WrittenRef → Token → Next
named_step (ToWrite so_far at verb) cell t = expression_step (Amount so_far at verb cell) (Want 0) [] t
named_step (ToClear so_far at) cell t = deed_step so_far at (Clears cell) t.word
named_step (ToRead context level frames) cell t = expression_step context (Have level 6 (ReadTree cell)) frames t
named_step (ToTest context level frames at) cell t = expression_step context (Have level 6 (HasTree at cell)) frames t

abbrev pub keys_step : Aim → WrittenSpan → Token → Word → Next
keys_step aim family t (w.Mark m.OpenBracket) = Goes (CellKey aim family)
keys_step aim family t _ = named_step aim (cell_of family key.Alone) t

abbrev pub key_step : Aim → WrittenSpan → Token → Word → Next
key_step aim family t (w.Reserved r.Key) = Goes (CellClose aim (cell_of family (key.OwnKey t.from)))
key_step aim family t (w.Name contextual.Item) = Goes (CellClose aim (cell_of family (key.OwnItem t.from)))
key_step aim family t (w.Number n) = Goes (CellClose aim (cell_of family (key.Fixed (number_of n t))))
key_step aim family t _ = Refused

-- ---- declarations

-- where only one word may follow
abbrev pub on_name : Word → Now → Next
on_name (w.Name c) now = Goes now
on_name _ now = Refused

abbrev pub on_text : Word → Now → Next
on_text w.Text now = Goes now
on_text _ now = Refused

abbrev pub on_colon : Word → Now → Next
on_colon (w.Mark m.Colon) now = Goes now
on_colon _ now = Refused

abbrev pub on_every : Word → Now → Next
on_every (w.Name contextual.Every) now = Goes now
on_every _ now = Refused

abbrev pub on_bracket : Word → Now → Next
on_bracket (w.Mark m.CloseBracket) now = Goes now
on_bracket _ now = Refused

abbrev pub on_number : Word → (ℤ → Now) → Next
on_number (w.Number n) now = Goes (now n)
on_number _ now = Refused

unfoldable pub sort_of : Word → Option Sort
sort_of (w.Reserved r.Sum) = Some sort.Sum
sort_of (w.Reserved r.Max) = Some sort.Max
sort_of (w.Reserved r.Last) = Some sort.Last
sort_of _ = None

abbrev pub by_of : ℕ → WrittenSpan → WrittenBy
by_of at list = record { at = at; list = list }

abbrev pub item_of : ℕ → Option WrittenBy → WrittenItem
item_of at by = record { at = at; by = by }

abbrev pub sort_step : WrittenSpan → WrittenCells → Option Sort → Next
sort_step name cells None = Refused
sort_step name cells (Some s) = Goes (Declared (Cell name cells s))

abbrev pub cell_step : WrittenSpan → Word → Next
cell_step name (w.Reserved r.Keyed) = Goes (CellBy name)
cell_step name word = sort_step name cells.Alone (sort_of word)

abbrev pub cell_by_step : WrittenSpan → Token → Word → Next
cell_by_step name t (w.Name contextual.By) = Goes (CellList name t.from)
cell_by_step name t word = sort_step name cells.Keyed (sort_of word)

unfoldable pub value_of : Word → Option Bool
value_of (w.Reserved r.Int) = Some true
value_of (w.Reserved r.None) = Some false
value_of _ = None

abbrev pub value_step : WrittenSpan → Bool → Option WrittenItem → Option Bool → Next
value_step name keyed item None = Refused
value_step name keyed item (Some has_value) = Goes (Declared (Tag name keyed item has_value))

abbrev pub item_step : WrittenSpan → Bool → Token → Word → Next
item_step name keyed t (w.Name contextual.Item) = Goes (TagBy name keyed t.from)
item_step name keyed t word = value_step name keyed None (value_of word)

abbrev pub tag_by_step : WrittenSpan → Bool → ℕ → Token → Word → Next
tag_by_step name keyed at t (w.Name contextual.By) = Goes (TagList name keyed at t.from)
tag_by_step name keyed at t word = value_step name keyed (Some (item_of at None)) (value_of word)

abbrev pub tag_step : WrittenSpan → Token → Word → Next
tag_step name t (w.Reserved r.Keyed) = Goes (TagItem name true)
tag_step name t word = item_step name false t word

abbrev pub listing_of : ℕ → WrittenSpan → Listing
listing_of at name = record { at = at; name = name; texts = [] }

abbrev pub texted : Listing → WrittenSpan → Listing
texted so_far text = record { at = so_far.at; name = so_far.name; texts = so_far.texts ++ text ∷ [] }

abbrev pub names_line : Listing → Declarations
names_line so_far = Names so_far.at so_far.name so_far.texts ∷ []

abbrev pub texts_step : Listing → Word → Next
texts_step so_far (w.Mark m.Comma) = Goes (NamesText so_far)
texts_step so_far _ = Refused

abbrev pub how_step : WrittenSpan → WrittenSpan → Token → Word → Next
how_step a b t (w.Reserved r.Same) = Goes (Declared (Depends a b (relation.Same t.from)))
how_step a b t (w.Reserved r.All) = Goes (Declared (Depends a b relation.All))
how_step a b t _ = Refused

abbrev pub source_of : WrittenSpan → WrittenSpan → Option WrittenNumber → Option WrittenNumber → Tags
source_of name file rate slack = record { name = name; file = file; rate = rate; slack = slack; all = [] }

abbrev pub slack_step : WrittenSpan → WrittenSpan → Option WrittenNumber → Word → Next
slack_step name file rate (w.Reserved r.Slack) = Goes (SlackNumber name file rate)
slack_step name file rate word = on_colon word (TagKind (source_of name file rate None))

abbrev pub rate_step : WrittenSpan → WrittenSpan → Word → Next
rate_step name file (w.Reserved r.Rate) = Goes (RateNumber name file)
rate_step name file word = slack_step name file None word

abbrev pub clock_rate_step : ℕ → WrittenSpan → WrittenNumber → Word → Next
clock_rate_step at name every (w.Reserved r.Rate) = Goes (ClockRateNumber at name every)
clock_rate_step at name every word = on_colon word (ClockTag at name every None)

abbrev pub listed : Tags → WrittenTag → Tags
listed so_far t = record { name = so_far.name; file = so_far.file; rate = so_far.rate; slack = so_far.slack; all = so_far.all ++ t ∷ [] }

abbrev pub source_line : Tags → Declarations
source_line so_far = Source so_far.name so_far.file so_far.rate so_far.slack so_far.all ∷ []

abbrev pub tags_step : Tags → Word → Next
tags_step so_far (w.Mark m.Comma) = Goes (TagKind so_far)
tags_step so_far _ = Refused

abbrev pub tag_keys_step : Tags → WrittenSpan → Word → Next
tag_keys_step so_far kind (w.Mark m.OpenBracket) = Goes (TagLow so_far kind)
tag_keys_step so_far kind word = tags_step (listed so_far (tag_of kind keys.Alone)) word

abbrev pub range_step : Tags → WrittenSpan → WrittenNumber → Word → Next
range_step so_far kind low (w.Mark m.Dots) = Goes (TagHigh so_far kind low)
range_step so_far kind low word = on_bracket word (TagEnd (listed so_far (tag_of kind (keys.One low))))

unfoldable pub doing_of : Word → Doing
doing_of (w.Reserved r.Add) = doing.Write verb.Add
doing_of (w.Reserved r.Raise) = doing.Write verb.Raise
doing_of (w.Reserved r.Set) = doing.Write verb.Set
doing_of (w.Reserved r.Clear) = doing.Clear
doing_of (w.Reserved r.Emit) = doing.Emit
doing_of (w.Reserved r.Flush) = doing.Flush
doing_of _ = doing.Other

abbrev pub act_step : Actions → ℕ → Doing → Next
act_step so_far at (doing.Write verb) = Goes (CellFamily (ToWrite so_far at verb))
act_step so_far at doing.Clear = Goes (CellFamily (ToClear so_far at))
act_step so_far at doing.Emit = Goes (EmitText so_far at)
act_step so_far at doing.Flush = Goes (FlushFamily so_far at)
act_step so_far at doing.Other = Refused

-- ---- one token

unfoldable pub step : Now → Token → Next
step Start t = Refused
step (Declared d) t = Refused
step CellName t = on_name t.word (CellForm (span_of t))
step (CellForm name) t = cell_step name t.word
step (CellBy name) t = cell_by_step name t t.word
step (CellList name at) t = on_name t.word (CellSort name (cells.By (by_of at (span_of t))))
step (CellSort name cells) t = sort_step name cells (sort_of t.word)
step TagName t = on_name t.word (TagForm (span_of t))
step (TagForm name) t = tag_step name t t.word
step (TagItem name keyed) t = item_step name keyed t t.word
step (TagBy name keyed at) t = tag_by_step name keyed at t t.word
step (TagList name keyed at by_at) t = on_name t.word (TagValue name keyed (Some (item_of at (Some (by_of by_at (span_of t))))))
step (TagValue name keyed item) t = value_step name keyed item (value_of t.word)
step (NamesName at) t = on_name t.word (NamesColon at (span_of t))
step (NamesColon at name) t = on_colon t.word (NamesText (listing_of at name))
step (NamesText so_far) t = on_text t.word (NamesEnd (texted so_far (span_of t)))
step (NamesEnd so_far) t = texts_step so_far t.word
step DependsFirst t = on_name t.word (DependsSecond (span_of t))
step (DependsSecond a) t = on_name t.word (DependsHow a (span_of t))
step (DependsHow a b) t = how_step a b t t.word
step SourceName t = on_name t.word (SourceFile (span_of t))
step (SourceFile name) t = on_text t.word (SourceRate name (span_of t))
step (SourceRate name file) t = rate_step name file t.word
step (RateNumber name file) t = on_number t.word (λ n. SourceSlack name file (Some (number_of n t)))
step (SourceSlack name file rate) t = slack_step name file rate t.word
step (SlackNumber name file rate) t = on_number t.word (λ n. SourceColon name file rate (Some (number_of n t)))
step (SourceColon name file rate slack) t = on_colon t.word (TagKind (source_of name file rate slack))
step (ClockName at) t = on_name t.word (ClockEvery at (span_of t))
step (ClockEvery at name) t = on_every t.word (ClockPeriod at name)
step (ClockPeriod at name) t = on_number t.word (λ n. ClockRate at name (number_of n t))
step (ClockRate at name every) t = clock_rate_step at name every t.word
step (ClockRateNumber at name every) t = on_number t.word (λ n. ClockColon at name every (Some (number_of n t)))
step (ClockColon at name every rate) t = on_colon t.word (ClockTag at name every rate)
step (ClockTag at name every rate) t = on_name t.word (Declared (Clock at name every rate (span_of t)))
step (TagKind so_far) t = on_name t.word (TagKeys so_far (span_of t))
step (TagKeys so_far kind) t = tag_keys_step so_far kind t.word
step (TagLow so_far kind) t = on_number t.word (λ n. TagMore so_far kind (number_of n t))
step (TagMore so_far kind low) t = range_step so_far kind low t.word
step (TagHigh so_far kind low) t = on_number t.word (λ n. TagClose so_far kind (keys.Range low (number_of n t)))
step (TagClose so_far kind ks) t = on_bracket t.word (TagEnd (listed so_far (tag_of kind ks)))
step (TagEnd so_far) t = tags_step so_far t.word
step OnKind t = on_name t.word (OnColon (span_of t))
step (OnColon kind) t = on_colon t.word (ActionStart (record { kind = kind; all = [] }))
step (ActionStart so_far) t = act_step so_far t.from (doing_of t.word)
step (DeedEnd so_far at deed) t = deed_step so_far at deed t.word
step (ActionEnd so_far) t = action_step so_far t.word
step (EmitText so_far at) t = on_text t.word (DeedEnd so_far at (Emits (span_of t)))
step (FlushFamily so_far at) t = on_name t.word (FlushText so_far at (span_of t))
step (FlushText so_far at family) t = on_text t.word (DeedEnd so_far at (Flushes family (span_of t)))
step (CellFamily aim) t = on_name t.word (CellKeys aim (span_of t))
step (CellKeys aim family) t = keys_step aim family t t.word
step (CellKey aim family) t = key_step aim family t t.word
step (CellClose aim cell) t = on_bracket t.word (named aim cell)
step (InExpression context mode frames) t = expression_step context mode frames t

-- ---- the end of a declaration

abbrev pub behind_whole : Context → Tree → Option Declarations
behind_whole (Amount so_far at verb cell) t = Some (on_line (acted so_far at (Writes verb cell t) None))
behind_whole (Guard so_far at deed) t = Some (on_line (acted so_far at deed (Some t)))

unfoldable pub done_whole : Context → Tree → List Frame → Option Declarations
done_whole context t [] = behind_whole context t
done_whole context t (NegFrame level at ∷ frames) = done_whole context (NegTree at t) frames
done_whole context t (NotFrame level at ∷ frames) = done_whole context (NotTree at t) frames
done_whole context t (ParenFrame level at ∷ frames) = None
done_whole context t (RightFrame level o at left ∷ frames) = done_whole context (TwoTree o at left t) frames

abbrev pub expression_whole : Context → Mode → List Frame → Option Declarations
expression_whole context (Want level) frames = None
expression_whole context (Have low high t) frames = done_whole context t frames
expression_whole context (Done t) frames = done_whole context t frames

abbrev pub named_whole : Aim → WrittenRef → Option Declarations
named_whole (ToWrite so_far at verb) cell = None
named_whole (ToClear so_far at) cell = Some (on_line (acted so_far at (Clears cell) None))
named_whole (ToRead context level frames) cell = done_whole context (ReadTree cell) frames
named_whole (ToTest context level frames at) cell = done_whole context (HasTree at cell) frames

-- what is declared, if a declaration may end here or begin
unfoldable pub whole : Now → Option Declarations
whole Start = Some []
whole (Declared d) = Some (d ∷ [])
whole (NamesEnd so_far) = Some (names_line so_far)
whole (DependsHow a b) = Some (Depends a b relation.None ∷ [])
whole (TagKeys so_far kind) = Some (source_line (listed so_far (tag_of kind keys.Alone)))
whole (TagEnd so_far) = Some (source_line so_far)
whole (DeedEnd so_far at deed) = Some (on_line (acted so_far at deed None))
whole (ActionEnd so_far) = Some (on_line so_far)
whole (CellKeys aim family) = named_whole aim (cell_of family key.Alone)
whole (InExpression context mode frames) = expression_whole context mode frames
whole _ = None

-- the words that begin a declaration
unfoldable pub heading_of : Word → Heading
heading_of (w.Reserved r.Cell) = heading.Cell
heading_of (w.Reserved r.Tag) = heading.Tag
heading_of (w.Name contextual.Names) = heading.Names
heading_of (w.Reserved r.Depends) = heading.Depends
heading_of (w.Reserved r.On) = heading.On
heading_of (w.Reserved r.Source) = heading.Source
heading_of (w.Name contextual.Clock) = heading.Clock
heading_of _ = heading.Other

-- how far a declaration is after its first word, which is at this place
abbrev pub opening : ℕ → Heading → Option Now
opening at heading.Cell = Some CellName
opening at heading.Tag = Some TagName
opening at heading.Names = Some (NamesName at)
opening at heading.Depends = Some DependsFirst
opening at heading.On = Some OnKind
opening at heading.Source = Some SourceName
opening at heading.Clock = Some (ClockName at)
opening at heading.Other = None

-- ---- all declarations

-- what tokens are: what is found is declarations, or a whole job
pub data Verdict (X : Type 0) : Type 0 where
  -- the tokens are this
  Found : (found : X) → Verdict X
  -- the token at this place cannot follow, or the end, if that is the place
  Unexpected : (place : ℕ) → Verdict X
  -- a token opens one parenthesis or unary operator too many
  TooDeep : Verdict X

-- a token that cannot follow within a declaration begins the next one, if that one may end
abbrev pub next_declaration : ℕ → Declarations → Option Declarations → Option Now → (Declarations → Now → Verdict Declarations) → Verdict Declarations
next_declaration place before None opened more = Unexpected place
next_declaration place before (Some one) None more = Unexpected place
next_declaration place before (Some one) (Some now) more = more (before ++ one) now

abbrev pub goes_on : Token → Declarations → Now → Next → (Declarations → Now → Verdict Declarations) → Verdict Declarations
goes_on t before now (Goes next) more = more before next
goes_on t before now Deep more = TooDeep
goes_on t before now Refused more = next_declaration t.from before (whole now) (opening t.from (heading_of t.word)) more

abbrev pub ended : ℕ → Declarations → Option Declarations → Verdict Declarations
ended end before None = Unexpected end
ended end before (Some one) = Found (before ++ one)

unfoldable pub run : ℕ → Declarations → Now → List Token → Verdict Declarations
run end before now [] = ended end before (whole now)
run end before now (t ∷ tokens) = goes_on t before now (step now t) (λ all next. run end all next tokens)

-- ---- all tokens

-- the declarations of a job with this head, or the same fault
abbrev pub with_head : Option WrittenHead → Verdict Declarations → Verdict Job
with_head head (Found all) = Found (record { head = head; declarations = all })
with_head head (Unexpected place) = Unexpected place
with_head head TooDeep = TooDeep

abbrev pub head_of : WrittenNumber → Option WrittenTies → Option WrittenUnit → WrittenHead
head_of version ties iso = record { version = version; ties = ties; iso = iso }

abbrev pub unit_of : ℕ → WrittenSpan → WrittenUnit
unit_of at name = record { at = at; name = name }

abbrev pub ties_of : ℕ → WrittenNumber → WrittenTies
ties_of at number = record { at = at; number = number }

-- after `iso`, which is at this place
abbrev pub unit_named : ℕ → WrittenNumber → Option WrittenTies → ℕ → Token → Word → List Token → Verdict Job
unit_named end version ties at t (w.Name c) tokens = with_head (Some (head_of version ties (Some (unit_of at (span_of t))))) (run end [] Start tokens)
unit_named end version ties at t _ tokens = Unexpected t.from

abbrev pub behind_iso : ℕ → WrittenNumber → Option WrittenTies → ℕ → List Token → Verdict Job
behind_iso end version ties at [] = Unexpected end
behind_iso end version ties at (t ∷ tokens) = unit_named end version ties at t t.word tokens

-- after the number of the version, and the rows at one time if they are written
abbrev pub iso_or_more : ℕ → WrittenNumber → Option WrittenTies → Token → Word → List Token → Verdict Job
iso_or_more end version ties t (w.Name contextual.Iso) tokens = behind_iso end version ties t.from tokens
iso_or_more end version ties t _ tokens = with_head (Some (head_of version ties None)) (run end [] Start (t ∷ tokens))

abbrev pub behind_ties : ℕ → WrittenNumber → Option WrittenTies → List Token → Verdict Job
behind_ties end version ties [] = with_head (Some (head_of version ties None)) (run end [] Start [])
behind_ties end version ties (t ∷ tokens) = iso_or_more end version ties t t.word tokens

-- after `ties`, which is at this place
abbrev pub ties_counted : ℕ → WrittenNumber → ℕ → Token → Word → List Token → Verdict Job
ties_counted end version at t (w.Number n) tokens = behind_ties end version (Some (ties_of at (number_of n t))) tokens
ties_counted end version at t _ tokens = Unexpected t.from

abbrev pub behind_the_word_ties : ℕ → WrittenNumber → ℕ → List Token → Verdict Job
behind_the_word_ties end version at [] = Unexpected end
behind_the_word_ties end version at (t ∷ tokens) = ties_counted end version at t t.word tokens

-- after the number of the version
abbrev pub ties_or_more : ℕ → WrittenNumber → Token → Word → List Token → Verdict Job
ties_or_more end version t (w.Name contextual.Ties) tokens = behind_the_word_ties end version t.from tokens
ties_or_more end version t _ tokens = behind_ties end version None (t ∷ tokens)

abbrev pub behind_number : ℕ → WrittenNumber → List Token → Verdict Job
behind_number end version [] = behind_ties end version None []
behind_number end version (t ∷ tokens) = ties_or_more end version t t.word tokens

-- after `version`
abbrev pub numbered : ℕ → Token → Word → List Token → Verdict Job
numbered end t (w.Number n) tokens = behind_number end (number_of n t) tokens
numbered end t _ tokens = Unexpected t.from

abbrev pub behind_version : ℕ → List Token → Verdict Job
behind_version end [] = Unexpected end
behind_version end (t ∷ tokens) = numbered end t t.word tokens

abbrev pub headed : ℕ → Token → Word → List Token → Verdict Job
headed end t (w.Reserved r.Version) tokens = behind_version end tokens
headed end t _ tokens = with_head None (run end [] Start (t ∷ tokens))

-- what the tokens of a text are, where end is the text's length
unfoldable pub verdict : ℕ → List Token → Verdict Job
verdict end [] = with_head None (run end [] Start [])
verdict end (t ∷ tokens) = headed end t t.word tokens
