-- A written expression, under a kind that is keyed or not and has items, a value, or not.
use Rattle.std.specs.Prelude.{ℕ, ◌+◌, max, nat_le, Bool, true, false, not, ◌&&◌, ◌||◌, if◌then◌else◌, List, None, codes, Ok}
use Rattle.std.specs.Str.{bytes_eq}
use Rattle.flu_model.specs.declared.limits.What.TheVariants.{Height}
use Rattle.flu_model.specs.declared.jobs.Op.{Op}
use Rattle.flu_model.specs.Erasure.{Term, Literal, EventValue, EventKey, EventItem, EventTime, CellRead, CellHeld, Negative, Negation, Operation}
use Rattle.flu_model.specs.Versions.{op_divides}
use Rattle.flu_syntax.specs.declared.tree.WrittenKey.{WrittenKey}
use Rattle.flu_syntax.specs.declared.tree.WrittenKey.TheVariants as k
use Rattle.flu_syntax.specs.declared.tree.WrittenRef.{WrittenRef}
use Rattle.flu_syntax.specs.Tree.{Tree, NumberTree, ValueTree, KeyTree, TimeTree, ReadTree, HasTree, ParenTree, NegTree, NotTree, TwoTree}
use Rattle.flu_layout.specs.Spelling.{name_of}
use Rattle.flu_parse.specs.declared.faults.JobFault.TheVariants as f
use Rattle.flu_parse.specs.declared.names.KindHead.{KindHead}
use Rattle.flu_parse.specs.Faults.{Found, ◌>>=◌, ◌>>◌, unless}
use Rattle.flu_parse.specs.Naming.{Naming, is_version_3, takes_items}
use Rattle.flu_parse.specs.Cells.{family_for, resolved_cell}

-- a word counts 1, parentheses nothing
abbrev pub height : Tree → ℕ
height (NumberTree n) = 1
height (ValueTree at) = 1
height (KeyTree at) = 1
height (TimeTree at) = 1
height (ReadTree r) = 1
height (HasTree at r) = 1
height (ParenTree at e) = height e
height (NegTree at e) = height e + 1
height (NotTree at e) = height e + 1
height (TwoTree op at a b) = max (height a) (height b) + 1

-- the part that the expression's first token begins
abbrev pub first_part : Tree → Tree
first_part (NumberTree n) = NumberTree n
first_part (ValueTree at) = ValueTree at
first_part (KeyTree at) = KeyTree at
first_part (TimeTree at) = TimeTree at
first_part (ReadTree r) = ReadTree r
first_part (HasTree at r) = HasTree at r
first_part (ParenTree at e) = ParenTree at e
first_part (NegTree at e) = NegTree at e
first_part (NotTree at e) = NotTree at e
first_part (TwoTree op at a b) = first_part a

abbrev pub is_alone : WrittenKey → Bool
is_alone k.Alone = true
is_alone (k.OwnKey at) = false
is_alone (k.OwnItem at) = false
is_alone (k.Fixed number) = false

-- in version 3 the name `item` without brackets is the event's item, in versions 1 and 2 the cell of this name
abbrev pub is_item : List ℕ → Naming → WrittenRef → Bool
is_item text n r = is_version_3 n && is_alone r.key && bytes_eq (name_of text r.family) (codes "item")

-- division came with version 3
abbrev pub op_fits : Naming → Op → Bool
op_fits n op = is_version_3 n || not (op_divides op)

module _ (text : List ℕ) (n : Naming) (under : KindHead) where
  -- what is wrong at a part's first token itself
  unfoldable pub first_token : Tree → Found (Unit {0})
  first_token (NumberTree m) = Ok tt
  first_token (ValueTree at) = unless under.has_value (f.WrongShape at)
  first_token (KeyTree at) = unless under.keyed (f.WrongShape at)
  first_token (TimeTree at) = Ok tt
  first_token (ReadTree r) =
      if is_item text n r then unless (takes_items n under) (f.WrongShape r.family.from) else (family_for text n None r >>= λ _. Ok tt)
  first_token (HasTree at r) = Ok tt
  first_token (ParenTree at e) = Ok tt
  first_token (NegTree at e) = Ok tt
  first_token (NotTree at e) = Ok tt
  first_token (TwoTree op at a b) = Ok tt

  -- the expression's meaning, token by token
  unfoldable pub term_of : Tree → Found Term
  term_of (NumberTree m) = Ok (Literal m.value)
  term_of (ValueTree at) = do
    unless under.has_value (f.WrongShape at)
    Ok EventValue
  term_of (KeyTree at) = do
    unless under.keyed (f.WrongShape at)
    Ok EventKey
  term_of (TimeTree at) = Ok EventTime
  term_of (ReadTree r) =
      if is_item text n r then (unless (takes_items n under) (f.WrongShape r.family.from) >> Ok EventItem)
      else (resolved_cell text n under None r >>= λ c. Ok (CellRead c))
  term_of (HasTree at r) = resolved_cell text n under None r >>= λ c. Ok (CellHeld c)
  term_of (ParenTree at e) = term_of e
  term_of (NegTree at e) = term_of e >>= λ t. Ok (Negative t)
  term_of (NotTree at e) = term_of e >>= λ t. Ok (Negation t)
  term_of (TwoTree op at a b) = do
    s ← term_of a
    unless (op_fits n op) (f.WrongShape at)
    t ← term_of b
    Ok (Operation op s t)

  -- The height is checked when the first token is found to be right.
  unfoldable pub expression_of : Tree → Found Term
  expression_of e = do
    first_token (first_part e)
    unless (nat_le (height e) 32) (f.OverLimit Height 33)
    term_of e
