-- What is spelled as an expression is read as that expression.
use Rattle.std.proofs.Common.{◌≡◌, ◌≢◌, ℕ, ◌+◌, ◌<◌, ◌≤◌, Bool, true, false, List, [], ◌∷◌, ◌++◌, Option, Some, None, refl, sym, ap, subst, ◌∙◌}
use Rattle.std.proofs.Common.{append_assoc, arith}
use Rattle.std.specs.Prelude.{IfSome, nat_lt}
use Rattle.std.proofs.lemmas.Bool.Decides.{nat_tests}
use Rattle.flu_text.specs.declared.words.Token.{Token}
use Rattle.flu_text.specs.declared.words.Word.{Word}
use Rattle.flu_text.specs.declared.words.Word.TheVariants as w
use Rattle.flu_text.specs.declared.words.Contextual.TheVariants as contextual
use Rattle.flu_names.specs.declared.reserved.Reserved.TheVariants as r
use Rattle.flu_text.specs.declared.words.Mark.TheVariants as m
use Rattle.flu_model.specs.declared.jobs.Op.{Op}
use Rattle.flu_model.specs.declared.jobs.Op.TheVariants as op
use Rattle.flu_text.specs.declared.written.WrittenSpan.{WrittenSpan}
use Rattle.flu_text.specs.declared.written.WrittenNumber.{WrittenNumber}
use Rattle.flu_syntax.specs.declared.tree.WrittenKey.{WrittenKey}
use Rattle.flu_syntax.specs.declared.tree.WrittenKey.TheVariants as key
use Rattle.flu_syntax.specs.declared.tree.WrittenRef.{WrittenRef}
use Rattle.flu_lemmas.proofs.Tests.{true_lt}
use Rattle.flu_syntax.specs.declared.tokens.Front.TheVariants as start
use Rattle.flu_syntax.specs.Tree.{Tree, NumberTree, ValueTree, KeyTree, TimeTree, ReadTree, HasTree, ParenTree, NegTree, NotTree, TwoTree, Declarations}
use Rattle.flu_syntax.specs.Machine.{cell_of, Context, Frame, NegFrame, NotFrame, ParenFrame, RightFrame, Want, Have, Done, Aim}
use Rattle.flu_syntax.specs.Machine.{ToRead, ToTest, Now, CellFamily, CellKeys, CellKey, CellClose, InExpression, Goes, on_name, start_of}
use Rattle.flu_syntax.specs.Machine.{deeper, done_step, expression_step, operator_of, level_behind, is_within, opens, named, step, Verdict, TooDeep, run}
use Rattle.flu_text.specs.Signs.{Sign, Any, At, Spanned, Named, IsSign, AreSigns, is_name_word, span_of}
use Rattle.flu_syntax.specs.Grammar.{op_level, op_word, key_signs, cell_signs, spelled, left_level, Fits, nest}
use Rattle.flu_syntax.specs.Reading.{NotFirst}
use Rattle.flu_syntax.proofs.Runs.{run-takes, run-too_deep, run-neg, run-not, run-right, pass_end, pass_word, pass_level, opens-one, opens-same, not_starts}
use Rattle.flu_syntax.proofs.Runs.{opens_more, opens_none}
use Rattle.flu_syntax.proofs.Parts.{run-passed, cell_alone}

-- ---- signs

-- a token of this word may be what the sign stands for
abbrev pub MayBe : Sign → Word → Type 0
MayBe (Any word) x = x ≡ word
MayBe (At word from) x = x ≡ word
MayBe (Spanned word span) x = x ≡ word
MayBe (Named span) x = is_name_word x ≡ true

pub sign_word : (s : Sign) (t : Token) → IsSign s t → MayBe s t.word
sign_word (Any word) t h = h
sign_word (At word from) t h = h.0
sign_word (Spanned word span) t h = h.0
sign_word (Named span) t h = h.0

named_span : (name : WrittenSpan) (t : Token) → IsSign (Named name) t → span_of t ≡ name
named_span name t h = rw (h.1, h.2) refl

-- a name leads on where one is expected
pub on_named : (name : WrittenSpan) (t : Token) (next : WrittenSpan → Now) → IsSign (Named name) t → on_name t.word (next (span_of t)) ≡ Goes (next name)
on_named name t next h = by_word t.word h.0 (ap next (named_span name t h))
  where
    by_word : (word : Word) → is_name_word word ≡ true → next (span_of t) ≡ next name → on_name word (next (span_of t)) ≡ Goes (next name)
    by_word (w.Name c) named same = ap Goes same
    by_word _ named same = cc

-- One verdict is that of another turn, or too deep: that where at most so many are open, and these are more than 64.
pub data Reaches (most : ℕ) (a b : Verdict Declarations) : Type 0 where
  Same : a ≡ b → Reaches most a b
  Stops : 64 < most → a ≡ TooDeep → Reaches most a b

infixl 30 ◌then◌
pub ◌then◌ : {most : ℕ} {a b c : Verdict Declarations} → Reaches most a b → Reaches most b c → Reaches most a c
◌then◌ (Same p) (Same q) = Same (p ∙ q)
◌then◌ (Same p) (Stops over q) = Stops over (p ∙ q)
◌then◌ (Stops over p) h = Stops over p

-- tokens that lead on to others, which are these signs
abbrev pub LeadsTo : ℕ → ℕ → Declarations → Now → List Token → Declarations → Now → List Sign → Type 0
LeadsTo most end job now tokens next other more = (rest : List Token) × AreSigns more rest × Reaches most (run end job now tokens) (run end next other rest)

pub takes_sign : (most end : ℕ) (job : Declarations) (now next : Now) (tokens : List Token) (s : Sign) (more : List Sign) → AreSigns (s ∷ more) tokens
    → ((t : Token) → IsSign s t → step now t ≡ Goes next) → LeadsTo most end job now tokens job next more
takes_sign most end job now next [] s more h takes = absurd h
takes_sign most end job now next (t ∷ rest) s more h takes = (rest, h.1, Same (run-takes end job now next t rest (takes t h.0)))

-- a sign that opens one more
opens_sign : (most end : ℕ) (job : Declarations) (now next : Now) (frames : List Frame) (tokens : List Token) (s : Sign) (more : List Sign)
    → AreSigns (s ∷ more) tokens → opens frames + 1 ≤ most → ((t : Token) → IsSign s t → step now t ≡ deeper frames next)
    → LeadsTo most end job now tokens job next more
opens_sign most end job now next frames [] s more h le takes = absurd h
opens_sign most end job now next frames (t ∷ rest) s more h le takes =
    (rest, h.1, by_test (nat_lt (opens frames) 64) refl)
  where
    by_test : (b : Bool) → nat_lt (opens frames) 64 ≡ b → Reaches most (run end job now (t ∷ rest)) (run end job next rest)
    by_test true few = Same (run-takes end job now next t rest (takes t h.0 ∙ opens_more frames next (true_lt (opens frames) 64 few)))
    by_test false many =
        let over : 64 ≤ opens frames = grind (arith, nat_tests) in
        Stops (omega arith) (run-too_deep end job now t rest (takes t h.0 ∙ opens_none frames next over))

-- the sign behind a part: no bracket opens, and no operator above a level stands there
abbrev pub Follows : ℕ → List Sign → Type 0
Follows n [] = Unit {0}
Follows n (s ∷ more) = ((x : Word) → MayBe s x → IfSome (operator_of x) (λ o. op_level o ≤ n)) × (MayBe s (w.Mark m.OpenBracket) → ⊥)

if_some_more : (o : Option Op) (m n : ℕ) → m ≤ n → IfSome o (λ o. op_level o ≤ m) → IfSome o (λ o. op_level o ≤ n)
if_some_more None m n le h = tt
if_some_more (Some o) m n le h = omega arith

Follows-more : (m n : ℕ) (more : List Sign) → m ≤ n → Follows m more → Follows n more
Follows-more m n [] le h = tt
Follows-more m n (s ∷ more) le h = (λ x is. if_some_more (operator_of x) m n le (h.0 x is), h.1)

abbrev pub NoBracket : List Sign → Type 0
NoBracket [] = Unit {0}
NoBracket (s ∷ more) = MayBe s (w.Mark m.OpenBracket) → ⊥

pub Follows-bracket : (n : ℕ) (more : List Sign) → Follows n more → NoBracket more
Follows-bracket n [] h = tt
Follows-bracket n (s ∷ more) h = h.1

-- the first sign is of another word
abbrev pub NotWord : Word → List Sign → Type 0
NotWord word [] = Unit {0}
NotWord word (s ∷ more) = MayBe s word → ⊥

pub not_first : (word : Word) (tokens : List Token) (more : List Sign) → AreSigns more tokens → NotWord word more → NotFirst word tokens
not_first word [] more h no_word = tt
not_first word (t ∷ tokens) [] h no_word = absurd h
not_first word (t ∷ tokens) (s ∷ more) h no_word = λ e. no_word (subst (MayBe s) e (sign_word s t h.0))

pub bracket_word : (more : List Sign) → NoBracket more → NotWord (w.Mark m.OpenBracket) more
bracket_word [] h = tt
bracket_word (s ∷ more) h = h

-- ---- cells

bracket_step : (aim : Aim) (family : WrittenSpan) (t : Token) → IsSign (Any (w.Mark m.OpenBracket)) t → step (CellKeys aim family) t ≡ Goes (CellKey aim family)
unfolding step
bracket_step aim family t h = rw h refl

own_step : (aim : Aim) (family : WrittenSpan) (at : ℕ) (t : Token) → IsSign (At (w.Reserved r.Key) at) t
    → step (CellKey aim family) t ≡ Goes (CellClose aim (cell_of family (key.OwnKey at)))
unfolding step
own_step aim family at t h = rw (h.0, h.1) refl

item_step : (aim : Aim) (family : WrittenSpan) (at : ℕ) (t : Token) → IsSign (At (w.Name contextual.Item) at) t
    → step (CellKey aim family) t ≡ Goes (CellClose aim (cell_of family (key.OwnItem at)))
unfolding step
item_step aim family at t h = rw (h.0, h.1) refl

fixed_step : (aim : Aim) (family : WrittenSpan) (n : WrittenNumber) (t : Token) → IsSign (At (w.Number n.value) n.at) t
    → step (CellKey aim family) t ≡ Goes (CellClose aim (cell_of family (key.Fixed n)))
unfolding step
fixed_step aim family n t h = rw (h.0, h.1) refl

close_step : (aim : Aim) (cell : WrittenRef) (t : Token) → IsSign (Any (w.Mark m.CloseBracket)) t → step (CellClose aim cell) t ≡ Goes (named aim cell)
unfolding step
close_step aim cell t h = rw h refl

family_step : (aim : Aim) (family : WrittenSpan) (t : Token) → IsSign (Named family) t → step (CellFamily aim) t ≡ Goes (CellKeys aim family)
unfolding step
family_step aim family t h = on_named family t (λ name. CellKeys aim name) h

pub accepts_key : (most end : ℕ) (job : Declarations) (aim : Aim) (family : WrittenSpan) (k : WrittenKey) (tokens : List Token) (more : List Sign)
    → AreSigns (key_signs k ++ more) tokens → NoBracket more
    → LeadsTo most end job (CellKeys aim family) tokens job (named aim (cell_of family k)) more
accepts_key most end job aim family key.Alone tokens more h free =
    (tokens, h, Same (run-passed end job tokens (cell_alone aim family) (not_first _ tokens more h (bracket_word more free))))
accepts_key most end job aim family (key.OwnKey at) tokens more h free =
    let a = takes_sign most end job (CellKeys aim family) (CellKey aim family) tokens (Any (w.Mark m.OpenBracket))
    (At (w.Reserved r.Key) at ∷ Any (w.Mark m.CloseBracket) ∷ more) h (bracket_step aim family) in
    let b = takes_sign most end job (CellKey aim family) (CellClose aim (cell_of family (key.OwnKey at))) a.0 (At (w.Reserved r.Key) at)
    (Any (w.Mark m.CloseBracket) ∷ more) a.1 (own_step aim family at) in
    let c = takes_sign most end job (CellClose aim (cell_of family (key.OwnKey at))) (named aim (cell_of family (key.OwnKey at))) b.0
    (Any (w.Mark m.CloseBracket)) more b.1 (close_step aim (cell_of family (key.OwnKey at))) in
    (c.0, c.1, a.2 then b.2 then c.2)
accepts_key most end job aim family (key.OwnItem at) tokens more h free =
    let a = takes_sign most end job (CellKeys aim family) (CellKey aim family) tokens (Any (w.Mark m.OpenBracket))
    (At (w.Name contextual.Item) at ∷ Any (w.Mark m.CloseBracket) ∷ more) h (bracket_step aim family) in
    let b = takes_sign most end job (CellKey aim family) (CellClose aim (cell_of family (key.OwnItem at))) a.0 (At (w.Name contextual.Item) at)
    (Any (w.Mark m.CloseBracket) ∷ more) a.1 (item_step aim family at) in
    let c = takes_sign most end job (CellClose aim (cell_of family (key.OwnItem at))) (named aim (cell_of family (key.OwnItem at))) b.0
    (Any (w.Mark m.CloseBracket)) more b.1 (close_step aim (cell_of family (key.OwnItem at))) in
    (c.0, c.1, a.2 then b.2 then c.2)
accepts_key most end job aim family (key.Fixed n) tokens more h free =
    let a = takes_sign most end job (CellKeys aim family) (CellKey aim family) tokens (Any (w.Mark m.OpenBracket))
    (At (w.Number n.value) n.at ∷ Any (w.Mark m.CloseBracket) ∷ more) h (bracket_step aim family) in
    let b = takes_sign most end job (CellKey aim family) (CellClose aim (cell_of family (key.Fixed n))) a.0 (At (w.Number n.value) n.at)
    (Any (w.Mark m.CloseBracket) ∷ more) a.1 (fixed_step aim family n) in
    let c = takes_sign most end job (CellClose aim (cell_of family (key.Fixed n))) (named aim (cell_of family (key.Fixed n))) b.0 (Any (w.Mark m.CloseBracket))
    more b.1 (close_step aim (cell_of family (key.Fixed n))) in
    (c.0, c.1, a.2 then b.2 then c.2)

pub accepts_cell : (most end : ℕ) (job : Declarations) (aim : Aim) (cell : WrittenRef) (tokens : List Token) (more : List Sign)
    → AreSigns (cell_signs cell ++ more) tokens → NoBracket more → LeadsTo most end job (CellFamily aim) tokens job (named aim cell) more
accepts_cell most end job aim cell tokens more h free =
    let a = takes_sign most end job (CellFamily aim) (CellKeys aim cell.family) tokens (Named cell.family) (key_signs cell.key ++ more) h
    (family_step aim cell.family) in
    let b = accepts_key most end job aim cell.family cell.key a.0 more a.1 free in
    (b.0, b.1, a.2 then b.2)

-- ---- levels

-- the greatest level of an operator that may follow, and that may take the expression as its left operand
abbrev pub top : Tree → ℕ
top (NumberTree n) = 5
top (ValueTree at) = 5
top (KeyTree at) = 5
top (TimeTree at) = 5
top (ReadTree cell) = 5
top (HasTree at cell) = 5
top (ParenTree at inner) = 5
top (NegTree at inner) = 5
top (NotTree at inner) = 1
top (TwoTree o at left right) = op_level o

abbrev pub high_of : Tree → ℕ
high_of (NotTree at inner) = 2
high_of (TwoTree o at left right) = level_behind (op_level o)
high_of _ = 6

-- each operator has a level, which is not that of `not`
pub record IsLevel (p : ℕ) : Type 0 where
  pub below : p < 6
  pub other : p ≢ 2

pub level_is : (o : Op) → IsLevel (op_level o)
level_is op.Plus = record { below = omega arith; other = omega arith }
level_is op.Minus = record { below = omega arith; other = omega arith }
level_is op.Times = record { below = omega arith; other = omega arith }
level_is op.Divide = record { below = omega arith; other = omega arith }
level_is op.Remainder = record { below = omega arith; other = omega arith }
level_is op.Less = record { below = omega arith; other = omega arith }
level_is op.LessEq = record { below = omega arith; other = omega arith }
level_is op.More = record { below = omega arith; other = omega arith }
level_is op.MoreEq = record { below = omega arith; other = omega arith }
level_is op.Same = record { below = omega arith; other = omega arith }
level_is op.Differs = record { below = omega arith; other = omega arith }
level_is op.Both = record { below = omega arith; other = omega arith }
level_is op.Either = record { below = omega arith; other = omega arith }

pub operator_of-op_word : (o : Op) → operator_of (op_word o) ≡ Some o
unfolding operator_of
operator_of-op_word op.Plus = refl
operator_of-op_word op.Minus = refl
operator_of-op_word op.Times = refl
operator_of-op_word op.Divide = refl
operator_of-op_word op.Remainder = refl
operator_of-op_word op.Less = refl
operator_of-op_word op.LessEq = refl
operator_of-op_word op.More = refl
operator_of-op_word op.MoreEq = refl
operator_of-op_word op.Same = refl
operator_of-op_word op.Differs = refl
operator_of-op_word op.Both = refl
operator_of-op_word op.Either = refl

op_no_bracket : (o : Op) → w.Mark m.OpenBracket ≢ op_word o
op_no_bracket op.Plus = λ e. cc
op_no_bracket op.Minus = λ e. cc
op_no_bracket op.Times = λ e. cc
op_no_bracket op.Divide = λ e. cc
op_no_bracket op.Remainder = λ e. cc
op_no_bracket op.Less = λ e. cc
op_no_bracket op.LessEq = λ e. cc
op_no_bracket op.More = λ e. cc
op_no_bracket op.MoreEq = λ e. cc
op_no_bracket op.Same = λ e. cc
op_no_bracket op.Differs = λ e. cc
op_no_bracket op.Both = λ e. cc
op_no_bracket op.Either = λ e. cc

op_follows : (o : Op) (at n : ℕ) (more : List Sign) → op_level o ≤ n → Follows n (At (op_word o) at ∷ more)
op_follows o at n more le = (λ x is. rw (is, operator_of-op_word o) le, op_no_bracket o)

pub Fits-below : (j k : ℕ) (t : Tree) → j ≤ k → Fits k t → Fits j t
Fits-below j k (NotTree at inner) le h = (omega arith, h.1)
Fits-below j k (TwoTree o at a b) le h = (omega arith, h.1, h.2)
Fits-below j k (NumberTree n) le h = h
Fits-below j k (ValueTree at) le h = h
Fits-below j k (KeyTree at) le h = h
Fits-below j k (TimeTree at) le h = h
Fits-below j k (ReadTree cell) le h = h
Fits-below j k (HasTree at cell) le h = h
Fits-below j k (ParenTree at inner) le h = h
Fits-below j k (NegTree at inner) le h = h

by_level : (p q : ℕ) → IsLevel p → left_level p ≤ q → (q ≡ 2) → (p ≤ 1) × (p ≤ q) × (p ≤ left_level p)
by_level p q is le e = (grind (arith, nat_tests, is.other), grind (arith, nat_tests), grind (arith, nat_tests))

by_two : (p q : ℕ) → IsLevel p → left_level p ≤ q → (p ≤ q) × (p ≤ level_behind q) × (p ≤ left_level p)
by_two p q is le = (grind (arith, nat_tests), grind (arith, nat_tests, is.other), grind (arith, nat_tests))

by_six : (p : ℕ) → IsLevel p → (p ≤ 5) × (p ≤ 6) × (p ≤ left_level p)
by_six p is = (omega (arith, is.below), omega (arith, is.below), grind (arith, nat_tests))

-- a left operand lets its operator follow, and take it
pub left_fits : (p : ℕ) (t : Tree) → IsLevel p → Fits (left_level p) t → (p ≤ top t) × (p ≤ high_of t) × (p ≤ left_level p)
left_fits p (NotTree at inner) is h = by_level p 2 is h.0 refl
left_fits p (TwoTree o at a b) is h = by_two p (op_level o) is h.0
left_fits p (NumberTree n) is h = by_six p is
left_fits p (ValueTree at) is h = by_six p is
left_fits p (KeyTree at) is h = by_six p is
left_fits p (TimeTree at) is h = by_six p is
left_fits p (ReadTree cell) is h = by_six p is
left_fits p (HasTree at cell) is h = by_six p is
left_fits p (ParenTree at inner) is h = by_six p is
left_fits p (NegTree at inner) is h = by_six p is

pub right_fits : (p : ℕ) (t : Tree) → p < 6 → Fits (p + 1) t → p ≤ top t
right_fits p (NotTree at inner) lt h = omega (arith, h.0)
right_fits p (TwoTree o at a b) lt h = omega (arith, h.0)
right_fits p (NumberTree n) lt h = omega arith
right_fits p (ValueTree at) lt h = omega arith
right_fits p (KeyTree at) lt h = omega arith
right_fits p (TimeTree at) lt h = omega arith
right_fits p (ReadTree cell) lt h = omega arith
right_fits p (HasTree at cell) lt h = omega arith
right_fits p (ParenTree at inner) lt h = omega arith
right_fits p (NegTree at inner) lt h = omega arith

-- an operand of unary minus
pub six_fits : (t : Tree) → Fits 6 t → 5 ≤ top t
six_fits (NotTree at inner) h = omega (arith, h.0)
six_fits (TwoTree o at a b) h = omega (arith, h.0, (level_is o).below)
six_fits (NumberTree n) h = omega arith
six_fits (ValueTree at) h = omega arith
six_fits (KeyTree at) h = omega arith
six_fits (TimeTree at) h = omega arith
six_fits (ReadTree cell) h = omega arith
six_fits (HasTree at cell) h = omega arith
six_fits (ParenTree at inner) h = omega arith
six_fits (NegTree at inner) h = omega arith

-- ---- operators that do not take

pub not_within : (low level high n : ℕ) → level ≤ n → n < low → is_within low level high ≡ false
not_within low level high n le lt = grind (arith, nat_tests)

pub within : (low level high : ℕ) → low ≤ level → level ≤ high → is_within low level high ≡ true
within low level high le below = grind (arith, nat_tests)

not_taken : (end low high n : ℕ) (job : Declarations) (context : Context) (t : Tree) (frames : List Frame) (x : Token) (rest : List Token) → n < low
    → (o : Option Op) → o ≡ operator_of x.word → IfSome o (λ o. op_level o ≤ n)
    → run end job (InExpression context (Have low high t) frames) (x ∷ rest) ≡ run end job (InExpression context (Done t) frames) (x ∷ rest)
not_taken end low high n job context t frames x rest lt None e h = pass_word low high end job context t frames x (x ∷ rest) rest refl e
not_taken end low high n job context t frames x rest lt (Some o) e h =
    pass_level low high end job context t frames x (x ∷ rest) rest o refl e (not_within low (op_level o) high n h lt)

-- operators below a level do not take it
pub passes_low : (end low high n : ℕ) (job : Declarations) (context : Context) (t : Tree) (frames : List Frame) (rest : List Token) (more : List Sign)
    → AreSigns more rest → n < low → Follows n more
    → run end job (InExpression context (Have low high t) frames) rest ≡ run end job (InExpression context (Done t) frames) rest
passes_low end low high n job context t frames [] more e lt h = pass_end low high end job context t frames [] refl
passes_low end low high n job context t frames (x ∷ rest) [] e lt h = absurd e
passes_low end low high n job context t frames (x ∷ rest) (s ∷ more) e lt h =
    not_taken end low high n job context t frames x rest lt (operator_of x.word) refl (h.0 x.word (sign_word s x e.0))

-- a sign that is no operator
abbrev pub Quiet : List Sign → Type 0
Quiet [] = Unit {0}
Quiet (s ∷ more) = ((x : Word) → MayBe s x → operator_of x ≡ None) × (MayBe s (w.Mark m.OpenBracket) → ⊥)

pub Quiet-follows : (n : ℕ) (more : List Sign) → Quiet more → Follows n more
Quiet-follows n [] h = tt
Quiet-follows n (s ∷ more) h = (λ x is. rw (h.0 x is) tt, h.1)

pub passes_quiet : (end low high : ℕ) (job : Declarations) (context : Context) (t : Tree) (frames : List Frame) (rest : List Token) (more : List Sign)
    → AreSigns more rest → Quiet more
    → run end job (InExpression context (Have low high t) frames) rest ≡ run end job (InExpression context (Done t) frames) rest
passes_quiet end low high job context t frames [] more e h = pass_end low high end job context t frames [] refl
passes_quiet end low high job context t frames (x ∷ rest) [] e h = absurd e
passes_quiet end low high job context t frames (x ∷ rest) (s ∷ more) e h =
    pass_word low high end job context t frames x (x ∷ rest) rest refl (sym (h.0 x.word (sign_word s x e.0)))

-- ---- steps of an expression

abbrev want : Context → ℕ → List Frame → Now
want context level frames = InExpression context (Want level) frames

number_step : (context : Context) (level : ℕ) (frames : List Frame) (n : WrittenNumber) (t : Token) → IsSign (At (w.Number n.value) n.at) t
    → step (want context level frames) t ≡ Goes (InExpression context (Have level 6 (NumberTree n)) frames)
unfolding step expression_step start_of
number_step context level frames n t h = rw (h.0, h.1) refl

value_step : (context : Context) (level : ℕ) (frames : List Frame) (at : ℕ) (t : Token) → IsSign (At (w.Reserved r.Value) at) t
    → step (want context level frames) t ≡ Goes (InExpression context (Have level 6 (ValueTree at)) frames)
unfolding step expression_step start_of
value_step context level frames at t h = rw (h.0, h.1) refl

key_step : (context : Context) (level : ℕ) (frames : List Frame) (at : ℕ) (t : Token) → IsSign (At (w.Reserved r.Key) at) t
    → step (want context level frames) t ≡ Goes (InExpression context (Have level 6 (KeyTree at)) frames)
unfolding step expression_step start_of
key_step context level frames at t h = rw (h.0, h.1) refl

time_step : (context : Context) (level : ℕ) (frames : List Frame) (at : ℕ) (t : Token) → IsSign (At (w.Reserved r.Time) at) t
    → step (want context level frames) t ≡ Goes (InExpression context (Have level 6 (TimeTree at)) frames)
unfolding step expression_step start_of
time_step context level frames at t h = rw (h.0, h.1) refl

name_begins : (word : Word) → is_name_word word ≡ true → start_of word ≡ start.Family
unfolding start_of
name_begins (w.Name c) named = refl
name_begins _ named = cc

read_step : (context : Context) (level : ℕ) (frames : List Frame) (family : WrittenSpan) (t : Token) → IsSign (Named family) t
    → step (want context level frames) t ≡ Goes (CellKeys (ToRead context level frames) family)
unfolding step expression_step
read_step context level frames family t h =
    rw (name_begins t.word h.0) (ap (λ (name : WrittenSpan). Goes (CellKeys (ToRead context level frames) name)) (named_span family t h))

has_step : (context : Context) (level : ℕ) (frames : List Frame) (at : ℕ) (t : Token) → IsSign (At (w.Reserved r.Has) at) t
    → step (want context level frames) t ≡ Goes (CellFamily (ToTest context level frames at))
unfolding step expression_step start_of
has_step context level frames at t h = rw (h.0, h.1) refl

open_step : (context : Context) (level : ℕ) (frames : List Frame) (at : ℕ) (t : Token) → IsSign (At (w.Mark m.OpenParen) at) t
    → step (want context level frames) t ≡ deeper frames (want context 0 (ParenFrame level at ∷ frames))
unfolding step expression_step start_of
open_step context level frames at t h = rw (h.0, h.1) refl

minus_step : (context : Context) (level : ℕ) (frames : List Frame) (at : ℕ) (t : Token) → IsSign (At (w.Mark m.Minus) at) t
    → step (want context level frames) t ≡ deeper frames (want context 6 (NegFrame level at ∷ frames))
unfolding step expression_step start_of
minus_step context level frames at t h = rw (h.0, h.1) refl

not_step : (context : Context) (level : ℕ) (frames : List Frame) (at : ℕ) → level ≤ 2 → (t : Token) → IsSign (At (w.Reserved r.Not) at) t
    → step (want context level frames) t ≡ deeper frames (want context 2 (NotFrame level at ∷ frames))
unfolding step expression_step start_of
not_step context level frames at le t h = rw h.0 (not_starts context level frames t le ∙ (rw h.1 refl))

paren_close : (context : Context) (level at : ℕ) (inner : Tree) (frames : List Frame) (t : Token) → IsSign (Any (w.Mark m.CloseParen)) t
    → step (InExpression context (Done inner) (ParenFrame level at ∷ frames)) t ≡ Goes (InExpression context (Have level 6 (ParenTree at inner)) frames)
unfolding step expression_step done_step
paren_close context level at inner frames t h = rw h refl

operator_step : (low high : ℕ) (context : Context) (t : Tree) (frames : List Frame) (o : Op) (at : ℕ) → low ≤ op_level o → op_level o ≤ high → (x : Token)
    → IsSign (At (op_word o) at) x
    → step (InExpression context (Have low high t) frames) x ≡ Goes (want context (op_level o + 1) (RightFrame low o at t ∷ frames))
unfolding step expression_step
operator_step low high context t frames o at le below x h = rw (h.0, h.1, operator_of-op_word o, within low (op_level o) high le below) refl

close_follows : (n : ℕ) (more : List Sign) → Follows n (Any (w.Mark m.CloseParen) ∷ more)
unfolding operator_of
close_follows n more = (λ x is. rw is tt, λ e. cc)

close_quiet : (more : List Sign) → Quiet (Any (w.Mark m.CloseParen) ∷ more)
unfolding operator_of
close_quiet more = (λ x is. rw is refl, λ e. cc)

abbrev have : Context → ℕ → Tree → List Frame → Now
have context level t frames = InExpression context (Have level (high_of t) t) frames

-- what is spelled as an expression is read as that expression
pub accepts : (most end : ℕ) (job : Declarations) (context : Context) (t : Tree) (level : ℕ) (frames : List Frame) (tokens : List Token) (more : List Sign)
    → level ≤ 6 → Fits level t → AreSigns (spelled t ++ more) tokens
    → nest t + opens frames ≤ most → Follows (top t) more → LeadsTo most end job (want context level frames) tokens job (have context level t frames) more
accepts most end job context (NumberTree n) level frames tokens more six fits e le h =
    takes_sign most end job (want context level frames) (InExpression context (Have level 6 (NumberTree n)) frames) tokens (At (w.Number n.value) n.at) more e
    (number_step context level frames n)
accepts most end job context (ValueTree at) level frames tokens more six fits e le h =
    takes_sign most end job (want context level frames) (InExpression context (Have level 6 (ValueTree at)) frames) tokens (At (w.Reserved r.Value) at) more e
    (value_step context level frames at)
accepts most end job context (KeyTree at) level frames tokens more six fits e le h =
    takes_sign most end job (want context level frames) (InExpression context (Have level 6 (KeyTree at)) frames) tokens (At (w.Reserved r.Key) at) more e
    (key_step context level frames at)
accepts most end job context (TimeTree at) level frames tokens more six fits e le h =
    takes_sign most end job (want context level frames) (InExpression context (Have level 6 (TimeTree at)) frames) tokens (At (w.Reserved r.Time) at) more e
    (time_step context level frames at)
accepts most end job context (ReadTree cell) level frames tokens more six fits e le h =
    let a = takes_sign most end job (want context level frames) (CellKeys (ToRead context level frames) cell.family) tokens (Named cell.family)
    (key_signs cell.key ++ more) e (read_step context level frames cell.family) in
    let b = accepts_key most end job (ToRead context level frames) cell.family cell.key a.0 more a.1 (Follows-bracket 5 more h) in
    (b.0, b.1, a.2 then b.2)
accepts most end job context (HasTree at cell) level frames tokens more six fits e le h =
    let a = takes_sign most end job (want context level frames) (CellFamily (ToTest context level frames at)) tokens (At (w.Reserved r.Has) at)
    (cell_signs cell ++ more) e (has_step context level frames at) in
    let b = accepts_cell most end job (ToTest context level frames at) cell a.0 more a.1 (Follows-bracket 5 more h) in
    (b.0, b.1, a.2 then b.2)
accepts most end job context (ParenTree at inner) level frames tokens more six fits e le h =
    let f = ParenFrame level at in
    let i = opens-one f frames (opens frames) refl refl in
    let g : AreSigns (At (w.Mark m.OpenParen) at ∷ (spelled inner ++ (Any (w.Mark m.CloseParen) ∷ more))) tokens =
    subst (λ (x : List Sign). AreSigns (At (w.Mark m.OpenParen) at ∷ x) tokens) (append_assoc (spelled inner) (Any (w.Mark m.CloseParen) ∷ []) more) e in
    let a = opens_sign most end job (want context level frames) (want context 0 (f ∷ frames)) frames tokens (At (w.Mark m.OpenParen) at)
    (spelled inner ++ (Any (w.Mark m.CloseParen) ∷ more)) g (omega arith) (open_step context level frames at) in
    let b = accepts most end job context inner 0 (f ∷ frames) a.0 (Any (w.Mark m.CloseParen) ∷ more) (omega arith) fits a.1 (omega arith)
    (close_follows (top inner) more) in
    let c = passes_quiet end 0 (high_of inner) job context inner (f ∷ frames) b.0 (Any (w.Mark m.CloseParen) ∷ more) b.1 (close_quiet more) in
    let d = takes_sign most end job (InExpression context (Done inner) (f ∷ frames)) (InExpression context (Have level 6 (ParenTree at inner)) frames) b.0
    (Any (w.Mark m.CloseParen)) more b.1 (paren_close context level at inner frames) in
    (d.0, d.1, a.2 then b.2 then Same c then d.2)
accepts most end job context (NegTree at inner) level frames tokens more six fits e le h =
    let f = NegFrame level at in
    let i = opens-one f frames (opens frames) refl refl in
    let a = opens_sign most end job (want context level frames) (want context 6 (f ∷ frames)) frames tokens (At (w.Mark m.Minus) at) (spelled inner ++ more) e
    (omega arith) (minus_step context level frames at) in
    let b = accepts most end job context inner 6 (f ∷ frames) a.0 more (omega arith) fits a.1 (omega arith)
    (Follows-more 5 (top inner) more (six_fits inner fits) h) in
    let c = passes_low end 6 (high_of inner) 5 job context inner (f ∷ frames) b.0 more b.1 (omega arith) h in
    (b.0, b.1, a.2 then b.2 then Same (c ∙ run-neg end level at job context inner frames b.0))
accepts most end job context (NotTree at inner) level frames tokens more six fits e le h =
    let f = NotFrame level at in
    let i = opens-one f frames (opens frames) refl refl in
    let a = opens_sign most end job (want context level frames) (want context 2 (f ∷ frames)) frames tokens (At (w.Reserved r.Not) at) (spelled inner ++ more) e
    (omega arith) (not_step context level frames at fits.0) in
    let b = accepts most end job context inner 2 (f ∷ frames) a.0 more (omega arith) fits.1 a.1 (omega arith)
    (Follows-more 1 (top inner) more (right_fits 1 inner (omega arith) fits.1) h) in
    let c = passes_low end 2 (high_of inner) 1 job context inner (f ∷ frames) b.0 more b.1 (omega arith) h in
    (b.0, b.1, a.2 then b.2 then Same (c ∙ run-not end level at job context inner frames b.0))
accepts most end job context (TwoTree o at left right) level frames tokens more six fits e le h =
    let p = op_level o in
    let is = level_is o in
    let lf = left_fits p left is fits.1 in
    let f = RightFrame level o at left in
    let g : AreSigns (spelled left ++ (At (op_word o) at ∷ (spelled right ++ more))) tokens = subst (λ (x : List Sign). AreSigns x tokens)
    (append_assoc (spelled left) (At (op_word o) at ∷ spelled right) more) e in
    let a = accepts most end job context left level frames tokens (At (op_word o) at ∷ (spelled right ++ more)) six
    (Fits-below level (left_level p) left (omega arith) fits.1) g (omega arith) (op_follows o at (top left) (spelled right ++ more) lf.0) in
    let i = opens-same f frames (opens frames) refl refl in
    let t = takes_sign most end job (have context level left frames) (want context (p + 1) (f ∷ frames)) a.0 (At (op_word o) at) (spelled right ++ more) a.1
    (operator_step level (high_of left) context left frames o at fits.0 lf.1) in
    let b = accepts most end job context right (p + 1) (f ∷ frames) t.0 more (omega (arith, is.below)) fits.2 t.1 (omega arith)
    (Follows-more p (top right) more (right_fits p right is.below fits.2) h) in
    let c = passes_low end (p + 1) (high_of right) p job context right (f ∷ frames) b.0 more b.1 (omega arith) h in
    (b.0, b.1, a.2 then t.2 then b.2 then Same (c ∙ run-right end level at job context o left right frames b.0))

-- no expression begins with a bracket
pub no_bracket : (t : Tree) (more : List Sign) → NoBracket (spelled t ++ more)
no_bracket (NumberTree n) more = λ e. cc
no_bracket (ValueTree at) more = λ e. cc
no_bracket (KeyTree at) more = λ e. cc
no_bracket (TimeTree at) more = λ e. cc
no_bracket (ReadTree cell) more = λ e. cc
no_bracket (HasTree at cell) more = λ e. cc
no_bracket (ParenTree at inner) more = λ e. cc
no_bracket (NegTree at inner) more = λ e. cc
no_bracket (NotTree at inner) more = λ e. cc
no_bracket (TwoTree o at left right) more =
    subst NoBracket (sym (append_assoc (spelled left) (At (op_word o) at ∷ spelled right) more)) (no_bracket left (At (op_word o) at ∷ (spelled right ++ more)))
