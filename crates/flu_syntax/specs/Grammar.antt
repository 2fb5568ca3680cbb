-- How a job is spelled. This is the grammar that the machine of `Machine` is proved to follow.
use Rattle.std.specs.Prelude.{◌≢◌, ℕ, ◌+◌, ◌≤◌, max, ◌==◌, if◌then◌else◌, Bool, true, false, List, [], ◌∷◌, ◌++◌, Option, Some, None}
use Rattle.std.specs.List.{flat_map}
use Rattle.flu_text.specs.declared.words.Word.{Word}
use Rattle.flu_text.specs.declared.words.Word.TheVariants as w
use Rattle.flu_names.specs.declared.reserved.Reserved.TheVariants as r
use Rattle.flu_text.specs.declared.words.Contextual.TheVariants as contextual
use Rattle.flu_text.specs.declared.words.Mark.TheVariants as m
use Rattle.flu_text.specs.declared.words.Token.{Token}
use Rattle.flu_text.specs.Signs.{Sign, Any, At, AreSigns, name, text, number, separated, keys_signs}
use Rattle.flu_model.specs.declared.jobs.Op.{Op}
use Rattle.flu_model.specs.declared.jobs.Op.TheVariants as op
use Rattle.flu_model.specs.declared.jobs.Sort.{Sort}
use Rattle.flu_model.specs.declared.jobs.Sort.TheVariants as sort
use Rattle.flu_syntax.specs.declared.tokens.Verb.{Verb}
use Rattle.flu_syntax.specs.declared.tokens.Verb.TheVariants as verb
use Rattle.flu_text.specs.declared.written.WrittenNumber.{WrittenNumber}
use Rattle.flu_syntax.specs.declared.tree.WrittenKey.{WrittenKey}
use Rattle.flu_syntax.specs.declared.tree.WrittenKey.TheVariants as key
use Rattle.flu_syntax.specs.declared.tree.WrittenRef.{WrittenRef}
use Rattle.flu_syntax.specs.declared.tree.WrittenTag.{WrittenTag}
use Rattle.flu_syntax.specs.declared.tree.WrittenBy.{WrittenBy}
use Rattle.flu_syntax.specs.declared.tree.WrittenCells.{WrittenCells}
use Rattle.flu_syntax.specs.declared.tree.WrittenCells.TheVariants as cells
use Rattle.flu_syntax.specs.declared.tree.WrittenItem.{WrittenItem}
use Rattle.flu_syntax.specs.declared.tree.WrittenRelation.{WrittenRelation}
use Rattle.flu_syntax.specs.declared.tree.WrittenRelation.TheVariants as relation
use Rattle.flu_syntax.specs.declared.tree.WrittenTies.{WrittenTies}
use Rattle.flu_syntax.specs.declared.tree.WrittenUnit.{WrittenUnit}
use Rattle.flu_syntax.specs.declared.tree.WrittenHead.{WrittenHead}
use Rattle.flu_syntax.specs.Tree.{Tree, NumberTree, ValueTree, KeyTree, TimeTree, ReadTree, HasTree, ParenTree, NegTree, NotTree, TwoTree, Deed, Writes, Clears}
use Rattle.flu_syntax.specs.Tree.{Emits, Flushes, Action, Declaration, Cell, Tag, Names, Depends, On, Source, Clock, Declarations, Job}

-- ---- the words

abbrev pub op_word : Op → Word
op_word op.Either = w.Reserved r.Or
op_word op.Both = w.Reserved r.And
op_word op.Less = w.Mark m.Less
op_word op.LessEq = w.Mark m.LessEq
op_word op.More = w.Mark m.More
op_word op.MoreEq = w.Mark m.MoreEq
op_word op.Same = w.Mark m.Same
op_word op.Differs = w.Mark m.Differs
op_word op.Plus = w.Mark m.Plus
op_word op.Minus = w.Mark m.Minus
op_word op.Times = w.Mark m.Times
op_word op.Divide = w.Mark m.Divide
op_word op.Remainder = w.Mark m.Remainder

abbrev pub sort_word : Sort → Word
sort_word sort.Sum = w.Reserved r.Sum
sort_word sort.Max = w.Reserved r.Max
sort_word sort.Last = w.Reserved r.Last

abbrev pub value_word : Bool → Word
value_word true = w.Reserved r.Int
value_word false = w.Reserved r.None

abbrev pub verb_word : Verb → Word
verb_word verb.Add = w.Reserved r.Add
verb_word verb.Raise = w.Reserved r.Raise
verb_word verb.Set = w.Reserved r.Set

-- ---- the grammar

-- NAME [ "[" ("key" | "item" | NUMBER) "]" ], where `item` is a name that spells it
abbrev pub key_signs : WrittenKey → List Sign
key_signs key.Alone = []
key_signs (key.OwnKey at) = Any (w.Mark m.OpenBracket) ∷ At (w.Reserved r.Key) at ∷ Any (w.Mark m.CloseBracket) ∷ []
key_signs (key.OwnItem at) = Any (w.Mark m.OpenBracket) ∷ At (w.Name contextual.Item) at ∷ Any (w.Mark m.CloseBracket) ∷ []
key_signs (key.Fixed n) = Any (w.Mark m.OpenBracket) ∷ (number n ++ Any (w.Mark m.CloseBracket) ∷ [])

abbrev pub cell_signs : WrittenRef → List Sign
cell_signs cell = name cell.family ++ key_signs cell.key

-- an expression: a number, `value`, `key`, `time`, a cell, `has` and a cell, an expression in parentheses, a unary operator and its
-- operand, or an operator between two operands
abbrev pub spelled : Tree → List Sign
spelled (NumberTree n) = number n
spelled (ValueTree at) = At (w.Reserved r.Value) at ∷ []
spelled (KeyTree at) = At (w.Reserved r.Key) at ∷ []
spelled (TimeTree at) = At (w.Reserved r.Time) at ∷ []
spelled (ReadTree cell) = cell_signs cell
spelled (HasTree at cell) = At (w.Reserved r.Has) at ∷ cell_signs cell
spelled (ParenTree at inner) = At (w.Mark m.OpenParen) at ∷ (spelled inner ++ Any (w.Mark m.CloseParen) ∷ [])
spelled (NegTree at inner) = At (w.Mark m.Minus) at ∷ spelled inner
spelled (NotTree at inner) = At (w.Reserved r.Not) at ∷ spelled inner
spelled (TwoTree o at left right) = spelled left ++ At (op_word o) at ∷ spelled right

-- the level of an operator: the greater, the closer it binds
abbrev pub op_level : Op → ℕ
op_level op.Either = 0
op_level op.Both = 1
op_level op.Less = 3
op_level op.LessEq = 3
op_level op.More = 3
op_level op.MoreEq = 3
op_level op.Same = 3
op_level op.Differs = 3
op_level op.Plus = 4
op_level op.Minus = 4
op_level op.Times = 5
op_level op.Divide = 5
op_level op.Remainder = 5

-- the level of a left operand: operators group to the left, and comparisons do not group
abbrev pub left_level : ℕ → ℕ
left_level level = if level == 3 then 4 else level

-- The expression may occur where operators of this level and above are expected: from `or` as 0 over `and`, `not`, the
-- comparisons, `+` and `-`, `*`, `/` and `%`, to unary `-` and what is alone as 6.
abbrev pub Fits : ℕ → Tree → Type 0
Fits level (NumberTree n) = Unit {0}
Fits level (ValueTree at) = Unit {0}
Fits level (KeyTree at) = Unit {0}
Fits level (TimeTree at) = Unit {0}
Fits level (ReadTree cell) = Unit {0}
Fits level (HasTree at cell) = Unit {0}
Fits level (ParenTree at inner) = Fits 0 inner
Fits level (NegTree at inner) = Fits 6 inner
Fits level (NotTree at inner) = (level ≤ 2) × Fits 2 inner
Fits level (TwoTree o at left right) = (level ≤ op_level o) × Fits (left_level (op_level o)) left × Fits (op_level o + 1) right

-- how many parentheses and unary operators are open at once in an expression
abbrev pub nest : Tree → ℕ
nest (NumberTree n) = 0
nest (ValueTree at) = 0
nest (KeyTree at) = 0
nest (TimeTree at) = 0
nest (ReadTree cell) = 0
nest (HasTree at cell) = 0
nest (ParenTree at inner) = nest inner + 1
nest (NegTree at inner) = nest inner + 1
nest (NotTree at inner) = nest inner + 1
nest (TwoTree o at left right) = max (nest left) (nest right)

-- an expression by the levels, with at most this many open at once
abbrev pub IsExpression : ℕ → Tree → Type 0
IsExpression most t = Fits 0 t × (nest t ≤ most)

-- "add" cref expr | "raise" cref expr | "set" cref expr | "clear" cref | "emit" TEXT | "flush" NAME TEXT
abbrev pub deed_signs : ℕ → Deed → List Sign
deed_signs at (Writes verb cell amount) = At (verb_word verb) at ∷ (cell_signs cell ++ spelled amount)
deed_signs at (Clears cell) = At (w.Reserved r.Clear) at ∷ cell_signs cell
deed_signs at (Emits file) = At (w.Reserved r.Emit) at ∷ text file
deed_signs at (Flushes family file) = At (w.Reserved r.Flush) at ∷ (name family ++ text file)

abbrev pub IsDeed : ℕ → Deed → Type 0
IsDeed most (Writes verb cell amount) = IsExpression most amount
IsDeed most (Clears cell) = Unit {0}
IsDeed most (Emits file) = Unit {0}
IsDeed most (Flushes family file) = Unit {0}

-- [ "when" expr ]
abbrev pub guard_signs : Option Tree → List Sign
guard_signs None = []
guard_signs (Some guard) = Any (w.Reserved r.When) ∷ spelled guard

abbrev pub IsGuard : ℕ → Option Tree → Type 0
IsGuard most None = Unit {0}
IsGuard most (Some guard) = IsExpression most guard

abbrev pub action_signs : Action → List Sign
action_signs a = deed_signs a.at a.deed ++ guard_signs a.guard

abbrev pub AreActions : ℕ → List Action → Type 0
AreActions most [] = Unit {0}
AreActions most (a ∷ actions) = IsDeed most a.deed × IsGuard most a.guard × AreActions most actions

abbrev pub tag_signs : WrittenTag → List Sign
tag_signs t = name t.kind ++ keys_signs t.keys

-- ["keyed"]
abbrev pub keyed_signs : Bool → List Sign
keyed_signs true = Any (w.Reserved r.Keyed) ∷ []
keyed_signs false = []

-- "by" NAME, where `by` is a name that spells it
abbrev pub by_signs : WrittenBy → List Sign
by_signs by = At (w.Name contextual.By) by.at ∷ name by.list

-- ["by" NAME]
abbrev pub list_signs : Option WrittenBy → List Sign
list_signs None = []
list_signs (Some by) = by_signs by

-- [ "keyed" [ "by" NAME ] ]
abbrev pub cells_signs : WrittenCells → List Sign
cells_signs cells.Alone = []
cells_signs cells.Keyed = Any (w.Reserved r.Keyed) ∷ []
cells_signs (cells.By by) = Any (w.Reserved r.Keyed) ∷ by_signs by

-- [ "item" [ "by" NAME ] ], where `item` is a name that spells it
abbrev pub item_signs : Option WrittenItem → List Sign
item_signs None = []
item_signs (Some item) = At (w.Name contextual.Item) item.at ∷ list_signs item.by

-- ["same" | "all"]
abbrev pub relation_signs : WrittenRelation → List Sign
relation_signs relation.None = []
relation_signs relation.All = Any (w.Reserved r.All) ∷ []
relation_signs (relation.Same at) = At (w.Reserved r.Same) at ∷ []

-- ["rate" NUMBER]
abbrev pub rate_signs : Option WrittenNumber → List Sign
rate_signs None = []
rate_signs (Some n) = Any (w.Reserved r.Rate) ∷ number n

-- ["slack" NUMBER]
abbrev pub slack_signs : Option WrittenNumber → List Sign
slack_signs None = []
slack_signs (Some n) = Any (w.Reserved r.Slack) ∷ number n

-- "cell" NAME [ "keyed" [ "by" NAME ] ] ("sum" | "max" | "last") | "tag" NAME ["keyed"] [ "item" [ "by" NAME ] ] ("int" | "none")
--     | "names" NAME ":" TEXT { "," TEXT }, where `names` is a name that spells it
--     | "depends" NAME NAME ["same" | "all"] | "on" NAME ":" action { ";" action }
--     | "source" NAME TEXT ["rate" NUMBER] ["slack" NUMBER] ":" tagref { "," tagref }
--     | "clock" NAME "every" NUMBER ["rate" NUMBER] ":" NAME, where `clock` and `every` are names that spell them
abbrev pub declaration_signs : Declaration → List Sign
declaration_signs (Cell n cells s) = Any (w.Reserved r.Cell) ∷ (name n ++ cells_signs cells ++ Any (sort_word s) ∷ [])
declaration_signs (Tag n keyed item has_value) =
    Any (w.Reserved r.Tag) ∷ (name n ++ keyed_signs keyed ++ item_signs item ++ Any (value_word has_value) ∷ [])
declaration_signs (Names at n texts) = At (w.Name contextual.Names) at ∷ (name n ++ Any (w.Mark m.Colon) ∷ separated (w.Mark m.Comma) text texts)
declaration_signs (Depends a b how) = Any (w.Reserved r.Depends) ∷ (name a ++ name b ++ relation_signs how)
declaration_signs (On kind actions) = Any (w.Reserved r.On) ∷ (name kind ++ Any (w.Mark m.Colon) ∷ separated (w.Mark m.Semicolon) action_signs actions)
declaration_signs (Source n file rate slack tags) =
    Any (w.Reserved r.Source) ∷
    (name n ++ text file ++ rate_signs rate ++ slack_signs slack ++ Any (w.Mark m.Colon) ∷ separated (w.Mark m.Comma) tag_signs tags)
declaration_signs (Clock at n every rate tag) =
    At (w.Name contextual.Clock) at ∷
    (name n ++ Any (w.Name contextual.Every) ∷ (number every ++ rate_signs rate ++ Any (w.Mark m.Colon) ∷ name tag))

abbrev pub IsDeclaration : ℕ → Declaration → Type 0
IsDeclaration most (Cell n cells s) = Unit {0}
IsDeclaration most (Tag n keyed item has_value) = Unit {0}
IsDeclaration most (Names at n texts) = texts ≢ []
IsDeclaration most (Depends a b how) = Unit {0}
IsDeclaration most (On kind actions) = (actions ≢ []) × AreActions most actions
IsDeclaration most (Source n file rate slack tags) = tags ≢ []
IsDeclaration most (Clock at n every rate tag) = Unit {0}

-- { decl }
abbrev pub declarations_signs : Declarations → List Sign
declarations_signs all = flat_map declaration_signs all

abbrev pub AreDeclarations : ℕ → Declarations → Type 0
AreDeclarations most [] = Unit {0}
AreDeclarations most (d ∷ all) = IsDeclaration most d × AreDeclarations most all

-- ["iso" NAME], where `iso` is a name that spells it
abbrev pub iso_signs : Option WrittenUnit → List Sign
iso_signs None = []
iso_signs (Some unit) = At (w.Name contextual.Iso) unit.at ∷ name unit.name

-- ["ties" NUMBER], where `ties` is a name that spells it
abbrev pub ties_signs : Option WrittenTies → List Sign
ties_signs None = []
ties_signs (Some ties) = At (w.Name contextual.Ties) ties.at ∷ number ties.number

-- ["version" NUMBER ["ties" NUMBER] ["iso" NAME]]
abbrev pub head_signs : Option WrittenHead → List Sign
head_signs None = []
head_signs (Some head) = Any (w.Reserved r.Version) ∷ (number head.version ++ ties_signs head.ties ++ iso_signs head.iso)

-- ["version" NUMBER ["ties" NUMBER] ["iso" NAME]] { decl }
abbrev pub job_signs : Job → List Sign
job_signs job = head_signs job.head ++ declarations_signs job.declarations

-- The tokens are this job, in which at most this many parentheses and unary operators are open at once: they are its signs, one by one, and
-- it keeps the levels of operators.
pub record IsJobWithin (most : ℕ) (tokens : List Token) (job : Job) : Type 0 where
  pub grammar : AreDeclarations most job.declarations
  pub spelled : AreSigns (job_signs job) tokens

-- the tokens are this job: at most 64 are open at once
abbrev pub IsJob : List Token → Job → Type 0
IsJob tokens job = IsJobWithin 64 tokens job
