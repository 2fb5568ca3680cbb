-- What a reader of some part of the grammar does.
use Rattle.std.specs.Prelude.{◌≡◌, ◌≢◌, ℕ, ℤ, Bool, true, false, List, [], ◌∷◌, ◌++◌, ◌+◌, Option, Some, None, Result, Ok, Err}
use Rattle.flu_text.specs.declared.words.Word.{Word}
use Rattle.flu_text.specs.declared.words.Word.TheVariants as w
use Rattle.flu_names.specs.declared.reserved.Reserved.TheVariants as r
use Rattle.flu_text.specs.declared.words.Token.{Token}
use Rattle.flu_model.specs.declared.jobs.Op.{Op}
use Rattle.flu_syntax.specs.declared.fault.SyntaxFault.{SyntaxFault}
use Rattle.flu_syntax.specs.declared.fault.SyntaxFault.TheVariants as f
use Rattle.flu_syntax.specs.declared.tokens.Verb.{Verb}
use Rattle.flu_text.specs.declared.written.WrittenSpan.{WrittenSpan}
use Rattle.flu_text.specs.declared.written.WrittenNumber.{WrittenNumber}
use Rattle.flu_syntax.specs.declared.tree.WrittenKey.{WrittenKey}
use Rattle.flu_syntax.specs.declared.tree.WrittenRef.{WrittenRef}
use Rattle.flu_text.specs.declared.written.WrittenKeys.{WrittenKeys}
use Rattle.flu_syntax.specs.declared.tree.WrittenTag.{WrittenTag}
use Rattle.flu_syntax.specs.declared.tree.WrittenBy.{WrittenBy}
use Rattle.flu_syntax.specs.declared.tree.WrittenCells.{WrittenCells}
use Rattle.flu_syntax.specs.declared.tree.WrittenCells.TheVariants as cells
use Rattle.flu_syntax.specs.declared.tree.WrittenItem.{WrittenItem}
use Rattle.flu_syntax.specs.declared.tree.WrittenRelation.{WrittenRelation}
use Rattle.flu_syntax.specs.declared.tree.WrittenTies.{WrittenTies}
use Rattle.flu_syntax.specs.declared.tree.WrittenUnit.{WrittenUnit}
use Rattle.flu_syntax.specs.declared.tree.WrittenHead.{WrittenHead}
use Rattle.flu_syntax.specs.Tree.{Tree, ParenTree, Deed, Action, Declaration, Names, Depends, On, Source, Declarations}
use Rattle.flu_text.specs.Signs.{place_of}
use Rattle.flu_syntax.specs.Grammar.{op_level}
use Rattle.flu_text.specs.Signs.{is_name_word, span_of, number_of}
use Rattle.flu_syntax.specs.Machine.{Now, Start, CellFamily, CellKeys, CellKey, CellClose, InExpression, ActionStart, ActionEnd, DeedEnd, TagKind, TagKeys}
use Rattle.flu_syntax.specs.Machine.{TagMore, TagClose, TagEnd, SourceRate, SourceSlack, SourceColon, DependsHow, Actions, Tags, Context, Aim, ToWrite, Frame}
use Rattle.flu_syntax.specs.Machine.{ParenFrame, RightFrame, Mode, Want, Have, Done, opens, named, cell_of, tag_of, listed, source_of, acted, Verdict, Found}
use Rattle.flu_syntax.specs.Machine.{Unexpected, TooDeep, run, verdict, with_head, head_of, behind_ties, behind_number, CellForm}
use Rattle.flu_syntax.specs.Machine.{CellBy, CellSort, TagItem, TagBy}
use Rattle.flu_syntax.specs.Machine.{TagValue, NamesText, item_of, listing_of, ClockRate, ClockColon}

-- the fault is the verdict, unless memory runs out
abbrev pub Tells : {X : Type 0} → SyntaxFault → Verdict X → Type 0
Tells (f.Unexpected place) verdict = verdict ≡ Unexpected place
Tells f.TooDeep verdict = verdict ≡ TooDeep
Tells f.NoMemory verdict = Unit {0}

-- ---- the first token

-- the first token is another
abbrev pub NotFirst : Word → List Token → Type 0
NotFirst word [] = Unit {0}
NotFirst word (t ∷ tokens) = t.word ≢ word

-- the first token is of this word, and these come after it
abbrev pub IsFirst : Word → List Token → Token → List Token → Type 0
IsFirst word tokens t rest = (tokens ≡ t ∷ rest) × (t.word ≡ word)

-- the first token is this number
abbrev pub IsNumber : List Token → WrittenNumber → List Token → Type 0
IsNumber tokens n rest = (t : Token) × IsFirst (w.Number n.value) tokens t rest × (n ≡ number_of n.value t)

abbrev pub NotNumber : List Token → Type 0
NotNumber tokens = (n : ℤ) → NotFirst (w.Number n) tokens

-- the first token is a name, which takes these bytes
abbrev pub IsNamed : List Token → WrittenSpan → List Token → Type 0
IsNamed tokens name rest = (t : Token) × (tokens ≡ t ∷ rest) × (is_name_word t.word ≡ true) × (name ≡ span_of t)

abbrev pub NotNamed : List Token → Type 0
NotNamed [] = Unit {0}
NotNamed (t ∷ tokens) = is_name_word t.word ≡ false

-- ---- the parts of the grammar

-- what is declared so far, and how far the declaration is
abbrev pub Turn : Type 0
Turn = Declarations × Now

abbrev pub from_turn : ℕ → Turn → List Token → Verdict Declarations
from_turn end turn tokens = run end turn.0 turn.1 tokens

-- A part of the grammar is read, wherever it occurs: the verdict on the tokens is the verdict on those after the part, or the fault
-- is the verdict.
abbrev pub Reads : {X : Type 0} → (Where : Type 0) → ℕ → List Token → (Where → Turn) → (X → Where → Turn) → (X → List Token) → Result X SyntaxFault → Type 0
Reads Where end tokens before after rest (Ok x) = (here : Where) → from_turn end (before here) tokens ≡ from_turn end (after x here) (rest x)
Reads Where end tokens before after rest (Err fault) = (here : Where) → Tells fault (from_turn end (before here) tokens)

-- what is in brackets after a family, if anything
abbrev pub ReadsKey : {X : Type 0} → ℕ → List Token → (X → WrittenKey) → (X → List Token) → Result X SyntaxFault → Type 0
ReadsKey end tokens key rest result =
    Reads (Declarations × Aim × WrittenSpan) end tokens (λ here. (here.0, CellKeys here.1 here.2))
    (λ x here. (here.0, named here.1 (cell_of here.2 (key x)))) rest result

-- the same, after the opening bracket and before the closing one
abbrev pub ReadsInside : {X : Type 0} → ℕ → List Token → (X → WrittenKey) → (X → List Token) → Result X SyntaxFault → Type 0
ReadsInside end tokens key rest result =
    Reads (Declarations × Aim × WrittenSpan) end tokens (λ here. (here.0, CellKey here.1 here.2))
    (λ x here. (here.0, CellClose here.1 (cell_of here.2 (key x)))) rest result

abbrev pub ReadsCell : {X : Type 0} → ℕ → List Token → (X → WrittenRef) → (X → List Token) → Result X SyntaxFault → Type 0
ReadsCell end tokens cell rest result =
    Reads (Declarations × Aim) end tokens (λ here. (here.0, CellFamily here.1)) (λ x here. (here.0, named here.1 (cell x))) rest result

-- where an expression is, with this many parentheses and unary operators open
pub record Inside (opened : ℕ) : Type 0 where
  pub before : Declarations
  pub context : Context
  pub frames : List Frame
  pub many : opens frames ≡ opened

abbrev pub in_mode : {opened : ℕ} → Mode → Inside opened → Turn
in_mode mode here = (here.before, InExpression here.context mode here.frames)

abbrev pub ReadsExpression : {X : Type 0} → ℕ → ℕ → Mode → List Token → (X → Mode) → (X → List Token) → Result X SyntaxFault → Type 0
ReadsExpression end opened mode tokens now rest result =
    Reads (Inside opened) end tokens (λ here. in_mode mode here) (λ x here. in_mode (now x) here) rest result

-- the end of a parenthesis
abbrev pub Closes : {X : Type 0} → ℕ → List Token → (X → List Token) → Result X SyntaxFault → Type 0
Closes end tokens rest (Ok x) =
    (before : Declarations) (context : Context) (t : Tree) (level at : ℕ) (frames : List Frame)
    → run end before (InExpression context (Done t) (ParenFrame level at ∷ frames)) tokens ≡ run end before
    (InExpression context (Have level 6 (ParenTree at t)) frames) (rest x)
Closes end tokens rest (Err fault) =
    (before : Declarations) (context : Context) (t : Tree) (level at : ℕ) (frames : List Frame) → Tells fault
    (run end before (InExpression context (Done t) (ParenFrame level at ∷ frames)) tokens)

-- no operator of these levels is here
abbrev pub IsPassed : ℕ → ℕ → List Token → Type 0
IsPassed low high tokens =
    (end : ℕ) (before : Declarations) (context : Context) (t : Tree) (frames : List Frame) → run end before (InExpression context (Have low high t) frames)
    tokens ≡ run end before (InExpression context (Done t) frames) tokens

-- this one is here, at this place
abbrev pub IsTaken : ℕ → ℕ → List Token → Op → ℕ → List Token → Type 0
IsTaken low high tokens o at rest =
    (end : ℕ) (before : Declarations) (context : Context) (t : Tree) (frames : List Frame)
    → run end before (InExpression context (Have low high t) frames) tokens ≡ run end before
    (InExpression context (Want (op_level o + 1)) (RightFrame low o at t ∷ frames)) rest

-- what an action does; its first token is at a place
abbrev pub ReadsWriting : {X : Type 0} → ℕ → Verb → List Token → (X → Deed) → (X → List Token) → Result X SyntaxFault → Type 0
ReadsWriting end verb tokens deed rest result =
    Reads (Declarations × Actions × ℕ) end tokens (λ here. (here.0, CellFamily (ToWrite here.1 here.2 verb)))
    (λ x here. (here.0, DeedEnd here.1 here.2 (deed x))) rest result

abbrev pub ReadsDeed : {X : Type 0} → ℕ → List Token → (X → Deed) → (X → List Token) → Result X SyntaxFault → Type 0
ReadsDeed end tokens deed rest result =
    Reads (Declarations × Actions) end tokens (λ here. (here.0, ActionStart here.1)) (λ x here. (here.0, DeedEnd here.1 (place_of end tokens) (deed x))) rest
    result

abbrev pub with_action : Actions → Action → Actions
with_action so_far a = acted so_far a.at a.deed a.guard

abbrev pub ReadsAction : {X : Type 0} → ℕ → List Token → (X → Action) → (X → List Token) → Result X SyntaxFault → Type 0
ReadsAction end tokens action rest result =
    Reads (Declarations × Actions) end tokens (λ here. (here.0, ActionStart here.1)) (λ x here. (here.0, ActionEnd (with_action here.1 (action x)))) rest result

-- an expression after `when`, if that is here
abbrev pub ReadsGuard : {X : Type 0} → ℕ → List Token → (X → Option Tree) → (X → List Token) → Result X SyntaxFault → Type 0
ReadsGuard end tokens guard rest result =
    Reads (Declarations × Actions × ℕ × Deed) end tokens (λ here. (here.0, DeedEnd here.1 here.2 here.3))
    (λ x here. (here.0, ActionEnd (acted here.1 here.2 here.3 (guard x)))) rest result

abbrev pub no_actions : WrittenSpan → Actions
no_actions kind = record { kind = kind; all = [] }

-- actions to the end of their declaration
abbrev pub ReadsActions : {X : Type 0} → ℕ → List Token → (X → List Action) → (X → List Token) → Result X SyntaxFault → Type 0
ReadsActions end tokens actions rest result =
    Reads (Declarations × WrittenSpan) end tokens (λ here. (here.0, ActionStart (no_actions here.1)))
    (λ x here. (here.0 ++ On here.1 (actions x) ∷ [], Start)) rest result

-- what is in brackets after a kind, if anything
abbrev pub ReadsKeys : {X : Type 0} → ℕ → List Token → (X → WrittenKeys) → (X → List Token) → Result X SyntaxFault → Type 0
ReadsKeys end tokens keys rest result =
    Reads (Declarations × Tags × WrittenSpan) end tokens (λ here. (here.0, TagKeys here.1 here.2))
    (λ x here. (here.0, TagEnd (listed here.1 (tag_of here.2 (keys x))))) rest result

-- the same, after the first number and before the closing bracket
abbrev pub ReadsRange : {X : Type 0} → ℕ → WrittenNumber → List Token → (X → WrittenKeys) → (X → List Token) → Result X SyntaxFault → Type 0
ReadsRange end low tokens keys rest result =
    Reads (Declarations × Tags × WrittenSpan) end tokens (λ here. (here.0, TagMore here.1 here.2 low)) (λ x here. (here.0, TagClose here.1 here.2 (keys x)))
    rest result

abbrev pub ReadsTag : {X : Type 0} → ℕ → List Token → (X → WrittenTag) → (X → List Token) → Result X SyntaxFault → Type 0
ReadsTag end tokens tag rest result =
    Reads (Declarations × Tags) end tokens (λ here. (here.0, TagKind here.1)) (λ x here. (here.0, TagEnd (listed here.1 (tag x)))) rest result

-- where the tags of a source are
pub record Head : Type 0 where
  pub before : Declarations
  pub name : WrittenSpan
  pub file : WrittenSpan
  pub rate : Option WrittenNumber
  pub slack : Option WrittenNumber

-- tags to the end of their declaration
abbrev pub ReadsTags : {X : Type 0} → ℕ → List Token → (X → List WrittenTag) → (X → List Token) → Result X SyntaxFault → Type 0
ReadsTags end tokens tags rest result =
    Reads Head end tokens (λ here. (here.before, TagKind (source_of here.name here.file here.rate here.slack)))
    (λ x here. (here.before ++ Source here.name here.file here.rate here.slack (tags x) ∷ [], Start)) rest result

abbrev pub ReadsRate : {X : Type 0} → ℕ → List Token → (X → Option WrittenNumber) → (X → List Token) → Result X SyntaxFault → Type 0
ReadsRate end tokens rate rest result =
    Reads (Declarations × WrittenSpan × WrittenSpan) end tokens (λ here. (here.0, SourceRate here.1 here.2))
    (λ x here. (here.0, SourceSlack here.1 here.2 (rate x))) rest result

abbrev pub ReadsClockRate : {X : Type 0} → ℕ → List Token → (X → Option WrittenNumber) → (X → List Token) → Result X SyntaxFault → Type 0
ReadsClockRate end tokens rate rest result =
    Reads (Declarations × ℕ × WrittenSpan × WrittenNumber) end tokens (λ here. (here.0, ClockRate here.1 here.2 here.3))
    (λ x here. (here.0, ClockColon here.1 here.2 here.3 (rate x))) rest result

abbrev pub ReadsSlack : {X : Type 0} → ℕ → List Token → (X → Option WrittenNumber) → (X → List Token) → Result X SyntaxFault → Type 0
ReadsSlack end tokens slack rest result =
    Reads (Declarations × WrittenSpan × WrittenSpan × Option WrittenNumber) end tokens (λ here. (here.0, SourceSlack here.1 here.2 here.3))
    (λ x here. (here.0, SourceColon here.1 here.2 here.3 (slack x))) rest result

-- a declaration, from this turn to its end
abbrev pub ReadsDeclaration : {X : Type 0} → ℕ → Now → List Token → (X → Declaration) → (X → List Token) → Result X SyntaxFault → Type 0
ReadsDeclaration end now tokens declaration rest result =
    Reads Declarations end tokens (λ before. (before, now)) (λ x before. (before ++ declaration x ∷ [], Start)) rest result

-- whether `keyed` is here, and what comes after it
abbrev pub TakesKeyed : List Token → Bool → List Token → Type 0
TakesKeyed tokens true rest = (t : Token) × IsFirst (w.Reserved r.Keyed) tokens t rest
TakesKeyed tokens false rest = (rest ≡ tokens) × NotFirst (w.Reserved r.Keyed) tokens

-- the cells of a family that has one for each key
abbrev pub keyed_by : Option WrittenBy → WrittenCells
keyed_by None = cells.Keyed
keyed_by (Some by) = cells.By by

-- the list that names keys, if one is here
abbrev pub ReadsKeyedBy : {X : Type 0} → ℕ → List Token → (X → Option WrittenBy) → (X → List Token) → Result X SyntaxFault → Type 0
ReadsKeyedBy end tokens by rest result =
    Reads (Declarations × WrittenSpan) end tokens (λ here. (here.0, CellBy here.1)) (λ x here. (here.0, CellSort here.1 (keyed_by (by x)))) rest result

-- the list that names items, if one is here
abbrev pub ReadsItemBy : {X : Type 0} → ℕ → List Token → (X → Option WrittenBy) → (X → List Token) → Result X SyntaxFault → Type 0
ReadsItemBy end tokens by rest result =
    Reads (Declarations × WrittenSpan × Bool × ℕ) end tokens (λ here. (here.0, TagBy here.1 here.2 here.3))
    (λ x here. (here.0, TagValue here.1 here.2 (Some (item_of here.3 (by x))))) rest result

-- which cells a family has
abbrev pub ReadsCells : {X : Type 0} → ℕ → List Token → (X → WrittenCells) → (X → List Token) → Result X SyntaxFault → Type 0
ReadsCells end tokens cells rest result =
    Reads (Declarations × WrittenSpan) end tokens (λ here. (here.0, CellForm here.1)) (λ x here. (here.0, CellSort here.1 (cells x))) rest result

-- `item` and what follows it, if that is here
abbrev pub ReadsItem : {X : Type 0} → ℕ → List Token → (X → Option WrittenItem) → (X → List Token) → Result X SyntaxFault → Type 0
ReadsItem end tokens item rest result =
    Reads (Declarations × WrittenSpan × Bool) end tokens (λ here. (here.0, TagItem here.1 here.2)) (λ x here. (here.0, TagValue here.1 here.2 (item x)))
    rest result

-- texts to the end of their declaration
abbrev pub ReadsTexts : {X : Type 0} → ℕ → List Token → (X → List WrittenSpan) → (X → List Token) → Result X SyntaxFault → Type 0
ReadsTexts end tokens texts rest result =
    Reads (Declarations × ℕ × WrittenSpan) end tokens (λ here. (here.0, NamesText (listing_of here.1 here.2)))
    (λ x here. (here.0 ++ Names here.1 here.2 (texts x) ∷ [], Start)) rest result

-- the relation of two kinds, to the end of their declaration
abbrev pub ReadsRelation : List Token → WrittenRelation → List Token → Type 0
ReadsRelation tokens how rest =
    (end : ℕ) (before : Declarations) (a b : WrittenSpan) → run end before (DependsHow a b) tokens ≡ run end (before ++ Depends a b how ∷ []) Start rest

-- all declarations, to the end of the tokens
abbrev pub ReadsDeclarations : {X : Type 0} → ℕ → List Token → (X → Declarations) → Result X SyntaxFault → Type 0
ReadsDeclarations end tokens declarations (Ok x) = run end [] Start tokens ≡ Found (declarations x)
ReadsDeclarations end tokens declarations (Err fault) = Tells fault (run end [] Start tokens)

-- the unit of a job's times, if one is written, after the number of any version and any rows at one time
abbrev pub ReadsUnit : {X : Type 0} → ℕ → List Token → (X → Option WrittenUnit) → (X → List Token) → Result X SyntaxFault → Type 0
ReadsUnit end tokens unit rest (Ok x) =
    (version : WrittenNumber) (ties : Option WrittenTies)
    → behind_ties end version ties tokens ≡ with_head (Some (head_of version ties (unit x))) (run end [] Start (rest x))
ReadsUnit end tokens unit rest (Err fault) = (version : WrittenNumber) (ties : Option WrittenTies) → Tells fault (behind_ties end version ties tokens)

-- how many rows a source may have at one time, if it is written, after the number of any version
abbrev pub ReadsTies : {X : Type 0} → ℕ → List Token → (X → Option WrittenTies) → (X → List Token) → Result X SyntaxFault → Type 0
ReadsTies end tokens ties rest (Ok x) = (version : WrittenNumber) → behind_number end version tokens ≡ behind_ties end version (ties x) (rest x)
ReadsTies end tokens ties rest (Err fault) = (version : WrittenNumber) → Tells fault (behind_number end version tokens)

-- the head of a job, if one is written: the verdict on all tokens is the verdict on the declarations after it, or the fault is the verdict
abbrev pub ReadsHead : {X : Type 0} → ℕ → List Token → (X → Option WrittenHead) → (X → List Token) → Result X SyntaxFault → Type 0
ReadsHead end tokens head rest (Ok x) = verdict end tokens ≡ with_head (head x) (run end [] Start (rest x))
ReadsHead end tokens head rest (Err fault) = Tells fault (verdict end tokens)
