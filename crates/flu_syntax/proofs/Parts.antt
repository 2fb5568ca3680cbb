-- The turns of a declaration: which words lead on from each.
use Rattle.std.proofs.Common.{◌≡◌, ◌≢◌, ℕ, ℤ, Bool, true, false, List, [], ◌∷◌, ◌++◌, Option, Some, None, Result, Ok, Err, refl, sym, ap, ◌∙◌}
use Rattle.flu_text.specs.declared.words.Token.{Token}
use Rattle.flu_text.specs.declared.words.Word.{Word}
use Rattle.flu_text.specs.declared.words.Word.TheVariants as w
use Rattle.flu_text.specs.declared.words.Contextual.TheVariants as contextual
use Rattle.flu_names.specs.declared.reserved.Reserved.TheVariants as r
use Rattle.flu_text.specs.declared.words.Mark.TheVariants as m
use Rattle.flu_model.specs.declared.jobs.Sort.{Sort}
use Rattle.flu_syntax.specs.declared.fault.SyntaxFault.{SyntaxFault}
use Rattle.flu_syntax.specs.declared.fault.SyntaxFault.TheVariants as f
use Rattle.flu_text.specs.declared.written.WrittenSpan.{WrittenSpan}
use Rattle.flu_text.specs.declared.written.WrittenNumber.{WrittenNumber}
use Rattle.flu_syntax.specs.declared.tree.WrittenKey.TheVariants as key
use Rattle.flu_syntax.specs.declared.tree.WrittenRef.{WrittenRef}
use Rattle.flu_text.specs.declared.written.WrittenKeys.{WrittenKeys}
use Rattle.flu_text.specs.declared.written.WrittenKeys.TheVariants as keys
use Rattle.flu_syntax.specs.declared.tree.WrittenRelation.TheVariants as relation
use Rattle.flu_syntax.specs.declared.tree.WrittenCells.{WrittenCells}
use Rattle.flu_syntax.specs.declared.tree.WrittenCells.TheVariants as cells
use Rattle.flu_syntax.specs.declared.tree.WrittenItem.{WrittenItem}
use Rattle.flu_syntax.specs.declared.tokens.Verb.{Verb}
use Rattle.flu_syntax.specs.declared.tokens.Heading.{Heading}
use Rattle.flu_syntax.specs.declared.tokens.Doing.{Doing}
use Rattle.flu_syntax.specs.declared.tokens.Doing.TheVariants as doing
use Rattle.flu_syntax.specs.Tree.{Deed, Emits, Flushes, Declaration, Cell, Tag, Names, Depends, On, Source, Declarations}
use Rattle.flu_syntax.specs.Reading.{Tells, NotFirst, IsFirst, IsNumber, NotNumber, IsNamed, NotNamed, no_actions, TakesKeyed}
use Rattle.flu_syntax.specs.Reading.{ReadsWriting, ReadsDeed, ReadsDeclaration}
use Rattle.flu_text.specs.Signs.{is_name_word, span_of, number_of}
use Rattle.flu_syntax.specs.Machine.{cell_of, tag_of, Actions, Tags, Aim, ToWrite, ToClear, ToRead, ToTest, Guard, InExpression, Want, Now, Start}
use Rattle.flu_syntax.specs.Machine.{Declared, CellName, CellForm, CellSort, TagName, TagForm, TagItem, TagValue, DependsFirst, DependsSecond, DependsHow}
use Rattle.flu_syntax.specs.Machine.{SourceName, SourceFile, SourceRate, RateNumber, SourceSlack, SlackNumber, SourceColon, TagKind, TagKeys, TagLow}
use Rattle.flu_syntax.specs.Machine.{TagMore, TagHigh, TagClose, TagEnd, OnKind, OnColon, ActionStart, DeedEnd, ActionEnd, EmitText, FlushFamily}
use Rattle.flu_syntax.specs.Machine.{FlushText, CellFamily, CellKeys, CellKey, CellClose, Goes, Refused, Verdict, Unexpected, acted, action_step}
use Rattle.flu_syntax.specs.Machine.{deed_step, named, named_step, keys_step, key_step, on_name, on_text, on_colon, on_bracket, on_number, sort_of}
use Rattle.flu_syntax.specs.Machine.{sort_step, cell_step, value_of, value_step, item_step, tag_step, how_step, source_of, rate_step, slack_step, listed}
use Rattle.flu_syntax.specs.Machine.{tags_step, tag_keys_step, range_step, doing_of, act_step, heading_of, opening, step, whole, run}
use Rattle.flu_syntax.specs.Machine.{CellBy, CellList, TagBy, TagList, NamesName, NamesColon, NamesText, NamesEnd, Listing, by_of, item_of, listing_of, texted}
use Rattle.flu_syntax.specs.Machine.{cell_by_step, tag_by_step, texts_step}
use Rattle.flu_text.specs.Signs.{place_of}
use Rattle.flu_syntax.proofs.Runs.{run-takes, run-misses, run-ends, run-same, run-same_empty, closes_empty, closes_token, begins, begins_none, Tells-through}

-- ---- a word, or none

-- at this turn one word alone may stand
pub record Expects (now : Now) (word : Word) (next : Token → Now) : Type 0 where
  pub takes : (t : Token) → t.word ≡ word → step now t ≡ Goes (next t)
  pub refuses : (t : Token) → t.word ≢ word → step now t ≡ Refused
  pub none : whole now ≡ None

pub run-expected : {now : Now} {word : Word} {next : Token → Now} (end : ℕ) (job : Declarations) (tokens rest : List Token) (t : Token)
    → Expects now word next → IsFirst word tokens t rest → run end job now tokens ≡ run end job (next t) rest
run-expected {now = now} {next = next} end job tokens rest t expects h = rw h.0 (run-takes end job now (next t) t rest (expects.takes t h.1))

pub run-unexpected : {now : Now} {word : Word} {next : Token → Now} (end : ℕ) (job : Declarations) (tokens : List Token) → Expects now word next
    → NotFirst word tokens → run end job now tokens ≡ Unexpected (place_of end tokens)
run-unexpected {now = now} end job [] expects h = run-ends end job now expects.none
run-unexpected {now = now} end job (t ∷ tokens) expects h = run-misses end job now t tokens (expects.refuses t h) expects.none

-- the fault of it
pub tells : {X : Type 0} (fault : SyntaxFault) (place : ℕ) (v : Verdict X) → fault ≡ f.Unexpected place → v ≡ Unexpected place → Tells fault v
tells fault place v e h = rw e h

-- at this turn a number alone may stand
pub record ExpectsNumber (now : Now) (next : WrittenNumber → Now) : Type 0 where
  pub takes : (t : Token) (n : ℤ) → t.word ≡ w.Number n → step now t ≡ Goes (next (number_of n t))
  pub refuses : (t : Token) → ((n : ℤ) → t.word ≢ w.Number n) → step now t ≡ Refused
  pub none : whole now ≡ None

pub run-number : {now : Now} {next : WrittenNumber → Now} (end : ℕ) (job : Declarations) (tokens rest : List Token) (n : WrittenNumber)
    → ExpectsNumber now next → IsNumber tokens n rest → run end job now tokens ≡ run end job (next n) rest
run-number {now = now} {next = next} end job tokens rest n expects h =
    rw h.1.0 (run-takes end job now (next n) h.0 rest (expects.takes h.0 n.value h.1.1 ∙ ap (λ (x : WrittenNumber). Goes (next x)) (sym h.2)))

pub run-no_number : {now : Now} {next : WrittenNumber → Now} (end : ℕ) (job : Declarations) (tokens : List Token) → ExpectsNumber now next → NotNumber tokens
    → run end job now tokens ≡ Unexpected (place_of end tokens)
run-no_number {now = now} end job [] expects h = run-ends end job now expects.none
run-no_number {now = now} end job (t ∷ tokens) expects h = run-misses end job now t tokens (expects.refuses t h) expects.none

-- at this turn a name alone may stand
pub record ExpectsName (now : Now) (next : WrittenSpan → Now) : Type 0 where
  pub takes : (t : Token) → is_name_word t.word ≡ true → step now t ≡ Goes (next (span_of t))
  pub refuses : (t : Token) → is_name_word t.word ≡ false → step now t ≡ Refused
  pub none : whole now ≡ None

pub run-named : {now : Now} {next : WrittenSpan → Now} (end : ℕ) (job : Declarations) (tokens rest : List Token) (name : WrittenSpan)
    → ExpectsName now next → IsNamed tokens name rest → run end job now tokens ≡ run end job (next name) rest
run-named {now = now} {next = next} end job tokens rest name expects h =
    rw h.1 (run-takes end job now (next name) h.0 rest (expects.takes h.0 h.2 ∙ ap (λ (x : WrittenSpan). Goes (next x)) (sym h.3)))

pub run-no_name : {now : Now} {next : WrittenSpan → Now} (end : ℕ) (job : Declarations) (tokens : List Token) → ExpectsName now next → NotNamed tokens
    → run end job now tokens ≡ Unexpected (place_of end tokens)
run-no_name {now = now} end job [] expects h = run-ends end job now expects.none
run-no_name {now = now} end job (t ∷ tokens) expects h = run-misses end job now t tokens (expects.refuses t h) expects.none

-- a turn at which all other words do the same as at another turn
pub record Passes (now : Now) (word : Word) (other : Now) : Type 0 where
  pub whole : whole now ≡ whole other
  pub same : (t : Token) → t.word ≢ word → step now t ≡ step other t

pub run-passed : {now : Now} {word : Word} {other : Now} (end : ℕ) (job : Declarations) (tokens : List Token) → Passes now word other → NotFirst word tokens
    → run end job now tokens ≡ run end job other tokens
run-passed {now = now} {other = other} end job [] passes h = run-same_empty end job now other passes.whole
run-passed {now = now} {other = other} end job (t ∷ tokens) passes h = run-same end job now other t tokens passes.whole (passes.same t h)

-- a turn at which a declaration ends, unless this word follows
pub record EndsUnless (now : Now) (word : Word) (d : Declaration) : Type 0 where
  pub whole : whole now ≡ Some (d ∷ [])
  pub refuses : (t : Token) → t.word ≢ word → step now t ≡ Refused

pub run-closed : {now : Now} {word : Word} {d : Declaration} (end : ℕ) (job : Declarations) (tokens : List Token) → EndsUnless now word d
    → NotFirst word tokens → run end job now tokens ≡ run end (job ++ d ∷ []) Start tokens
run-closed {now = now} {d = d} end job [] ends h = closes_empty end job now d ends.whole
run-closed {now = now} {d = d} end job (t ∷ tokens) ends h = closes_token end job now d t tokens ends.whole (ends.refuses t h)

declared_whole : (d : Declaration) → whole (Declared d) ≡ Some (d ∷ [])
unfolding whole
declared_whole d = refl

declared_step : (d : Declaration) (t : Token) → step (Declared d) t ≡ Refused
unfolding step
declared_step d t = refl

pub run-declared : (end : ℕ) (job : Declarations) (d : Declaration) (tokens : List Token)
    → run end job (Declared d) tokens ≡ run end (job ++ d ∷ []) Start tokens
run-declared end job d [] = closes_empty end job (Declared d) d (declared_whole d)
run-declared end job d (t ∷ tokens) = closes_token end job (Declared d) d t tokens (declared_whole d) (declared_step d t)

-- ---- words

pub name_takes : (word : Word) (now : Now) → is_name_word word ≡ true → on_name word now ≡ Goes now
name_takes (w.Name c) now named = refl
name_takes _ now named = cc

pub name_only : (word : Word) (now : Now) → is_name_word word ≡ false → on_name word now ≡ Refused
name_only (w.Name c) now other = cc
name_only _ now other = refl

text_only : (word : Word) (now : Now) → word ≢ w.Text → on_text word now ≡ Refused
text_only w.Text now ne = absurd (ne refl)
text_only _ now ne = refl

pub colon_only : (word : Word) (now : Now) → word ≢ w.Mark m.Colon → on_colon word now ≡ Refused
colon_only (w.Mark m.Colon) now ne = absurd (ne refl)
colon_only _ now ne = refl

bracket_only : (word : Word) (now : Now) → word ≢ w.Mark m.CloseBracket → on_bracket word now ≡ Refused
bracket_only (w.Mark m.CloseBracket) now ne = absurd (ne refl)
bracket_only _ now ne = refl

pub number_only : (word : Word) (now : ℤ → Now) → ((n : ℤ) → word ≢ w.Number n) → on_number word now ≡ Refused
number_only (w.Number n) now ne = absurd (ne n refl)
number_only _ now ne = refl

-- ---- cells

pub cell_family : (aim : Aim) → ExpectsName (CellFamily aim) (λ name. CellKeys aim name)
unfolding step whole
cell_family aim = record {
  takes = λ t named. name_takes t.word (CellKeys aim (span_of t)) named;
  refuses = λ t other. name_only t.word (CellKeys aim (span_of t)) other;
  none = refl;
}

pub cell_close : (aim : Aim) (cell : WrittenRef) → Expects (CellClose aim cell) (w.Mark m.CloseBracket) (λ t. named aim cell)
unfolding step whole
cell_close aim cell = record { takes = λ t e. rw e refl; refuses = λ t ne. bracket_only t.word (named aim cell) ne; none = refl }

pub cell_bracket : (aim : Aim) (family : WrittenSpan) (t : Token) → t.word ≡ w.Mark m.OpenBracket → step (CellKeys aim family) t ≡ Goes (CellKey aim family)
unfolding step
cell_bracket aim family t e = rw e refl

named-step : (aim : Aim) (cell : WrittenRef) (t : Token) → named_step aim cell t ≡ step (named aim cell) t
unfolding step named_step
named-step (ToWrite so_far at verb) cell t = refl
named-step (ToClear so_far at) cell t = refl
named-step (ToRead context level frames) cell t = refl
named-step (ToTest context level frames at) cell t = refl

named-whole : (aim : Aim) (family : WrittenSpan) → whole (CellKeys aim family) ≡ whole (named aim (cell_of family key.Alone))
unfolding whole
named-whole (ToWrite so_far at verb) family = refl
named-whole (ToClear so_far at) family = refl
named-whole (ToRead context level frames) family = refl
named-whole (ToTest context level frames at) family = refl

no_bracket : (aim : Aim) (family : WrittenSpan) (t : Token) (word : Word) → word ≢ w.Mark m.OpenBracket
    → keys_step aim family t word ≡ named_step aim (cell_of family key.Alone) t
no_bracket aim family t (w.Mark m.OpenBracket) ne = absurd (ne refl)
no_bracket aim family t _ ne = refl

keys-step : (aim : Aim) (family : WrittenSpan) (t : Token) → step (CellKeys aim family) t ≡ keys_step aim family t t.word
unfolding step
keys-step aim family t = refl

pub cell_alone : (aim : Aim) (family : WrittenSpan) → Passes (CellKeys aim family) (w.Mark m.OpenBracket) (named aim (cell_of family key.Alone))
cell_alone aim family = record {
  whole = named-whole aim family;
  same = λ t ne. keys-step aim family t ∙ no_bracket aim family t t.word ne ∙ named-step aim (cell_of family key.Alone) t;
}

pub cell_own : (aim : Aim) (family : WrittenSpan) (t : Token) → t.word ≡ w.Reserved r.Key
    → step (CellKey aim family) t ≡ Goes (CellClose aim (cell_of family (key.OwnKey t.from)))
unfolding step
cell_own aim family t e = rw e refl

pub cell_fixed : (aim : Aim) (family : WrittenSpan) (t : Token) (n : ℤ) → t.word ≡ w.Number n
    → step (CellKey aim family) t ≡ Goes (CellClose aim (cell_of family (key.Fixed (number_of n t))))
unfolding step
cell_fixed aim family t n e = rw e refl

pub cell_item : (aim : Aim) (family : WrittenSpan) (t : Token) → t.word ≡ w.Name contextual.Item
    → step (CellKey aim family) t ≡ Goes (CellClose aim (cell_of family (key.OwnItem t.from)))
unfolding step
cell_item aim family t e = rw e refl

key_only : (aim : Aim) (family : WrittenSpan) (t : Token) (word : Word) → word ≢ w.Reserved r.Key → word ≢ w.Name contextual.Item
    → ((n : ℤ) → word ≢ w.Number n) → key_step aim family t word ≡ Refused
key_only aim family t (w.Reserved r.Key) ne no_item nor = absurd (ne refl)
key_only aim family t (w.Name contextual.Item) ne no_item nor = absurd (no_item refl)
key_only aim family t (w.Number n) ne no_item nor = absurd (nor n refl)
key_only aim family t _ ne no_item nor = refl

key-step : (aim : Aim) (family : WrittenSpan) (t : Token) → step (CellKey aim family) t ≡ key_step aim family t t.word
unfolding step
key-step aim family t = refl

key_whole : (aim : Aim) (family : WrittenSpan) → whole (CellKey aim family) ≡ None
unfolding whole
key_whole aim family = refl

pub run-own : (end : ℕ) (job : Declarations) (aim : Aim) (family : WrittenSpan) (tokens rest : List Token) (t : Token)
    → IsFirst (w.Reserved r.Key) tokens t rest
    → run end job (CellKey aim family) tokens ≡ run end job (CellClose aim (cell_of family (key.OwnKey t.from))) rest
run-own end job aim family tokens rest t h =
    rw h.0 (run-takes end job (CellKey aim family) (CellClose aim (cell_of family (key.OwnKey t.from))) t rest (cell_own aim family t h.1))

pub run-own_item : (end : ℕ) (job : Declarations) (aim : Aim) (family : WrittenSpan) (tokens rest : List Token) (t : Token)
    → IsFirst (w.Name contextual.Item) tokens t rest
    → run end job (CellKey aim family) tokens ≡ run end job (CellClose aim (cell_of family (key.OwnItem t.from))) rest
run-own_item end job aim family tokens rest t h =
    rw h.0 (run-takes end job (CellKey aim family) (CellClose aim (cell_of family (key.OwnItem t.from))) t rest (cell_item aim family t h.1))

pub run-fixed : (end : ℕ) (job : Declarations) (aim : Aim) (family : WrittenSpan) (tokens rest : List Token) (n : WrittenNumber) → IsNumber tokens n rest
    → run end job (CellKey aim family) tokens ≡ run end job (CellClose aim (cell_of family (key.Fixed n))) rest
run-fixed end job aim family tokens rest n h =
    rw h.1.0 (run-takes end job (CellKey aim family) (CellClose aim (cell_of family (key.Fixed n))) h.0 rest
    (cell_fixed aim family h.0 n.value h.1.1 ∙ ap (λ (x : WrittenNumber). Goes (CellClose aim (cell_of family (key.Fixed x)))) (sym h.2)))

pub run-no_key : (end : ℕ) (job : Declarations) (aim : Aim) (family : WrittenSpan) (tokens : List Token) → NotFirst (w.Reserved r.Key) tokens
    → NotFirst (w.Name contextual.Item) tokens → NotNumber tokens → run end job (CellKey aim family) tokens ≡ Unexpected (place_of end tokens)
run-no_key end job aim family [] ne no_item nor = run-ends end job (CellKey aim family) (key_whole aim family)
run-no_key end job aim family (t ∷ tokens) ne no_item nor =
    run-misses end job (CellKey aim family) t tokens (key-step aim family t ∙ key_only aim family t t.word ne no_item nor) (key_whole aim family)

pub run-bracket : (end : ℕ) (job : Declarations) (aim : Aim) (family : WrittenSpan) (tokens rest : List Token) (t : Token)
    → IsFirst (w.Mark m.OpenBracket) tokens t rest → run end job (CellKeys aim family) tokens ≡ run end job (CellKey aim family) rest
run-bracket end job aim family tokens rest t h = rw h.0 (run-takes end job (CellKeys aim family) (CellKey aim family) t rest (cell_bracket aim family t h.1))

-- ---- lines of cells, tags and dependencies

pub cell_name : ExpectsName CellName (λ name. CellForm name)
unfolding step whole
cell_name = record {
  takes = λ t named. name_takes t.word (CellForm (span_of t)) named;
  refuses = λ t other. name_only t.word (CellForm (span_of t)) other;
  none = refl;
}

pub tag_name : ExpectsName TagName (λ name. TagForm name)
unfolding step whole
tag_name = record {
  takes = λ t named. name_takes t.word (TagForm (span_of t)) named;
  refuses = λ t other. name_only t.word (TagForm (span_of t)) other;
  none = refl;
}

pub depends_first : ExpectsName DependsFirst (λ name. DependsSecond name)
unfolding step whole
depends_first = record {
  takes = λ t named. name_takes t.word (DependsSecond (span_of t)) named;
  refuses = λ t other. name_only t.word (DependsSecond (span_of t)) other;
  none = refl;
}

pub depends_second : (a : WrittenSpan) → ExpectsName (DependsSecond a) (λ name. DependsHow a name)
unfolding step whole
depends_second a = record {
  takes = λ t named. name_takes t.word (DependsHow a (span_of t)) named;
  refuses = λ t other. name_only t.word (DependsHow a (span_of t)) other;
  none = refl;
}

pub cell_keyed : (name : WrittenSpan) (t : Token) → t.word ≡ w.Reserved r.Keyed → step (CellForm name) t ≡ Goes (CellBy name)
unfolding step
cell_keyed name t e = rw e refl

cell_unkeyed : (name : WrittenSpan) (word : Word) → word ≢ w.Reserved r.Keyed → cell_step name word ≡ sort_step name cells.Alone (sort_of word)
cell_unkeyed name (w.Reserved r.Keyed) ne = absurd (ne refl)
cell_unkeyed name _ ne = refl

pub cell_plain : (name : WrittenSpan) → Passes (CellForm name) (w.Reserved r.Keyed) (CellSort name cells.Alone)
unfolding step whole
cell_plain name = record { whole = refl; same = λ t ne. cell_unkeyed name t.word ne }

pub cell_by : (name : WrittenSpan) (t : Token) → t.word ≡ w.Name contextual.By → step (CellBy name) t ≡ Goes (CellList name t.from)
unfolding step
cell_by name t e = rw e refl

cell_unlisted : (name : WrittenSpan) (t : Token) (word : Word) → word ≢ w.Name contextual.By
    → cell_by_step name t word ≡ sort_step name cells.Keyed (sort_of word)
cell_unlisted name t (w.Name contextual.By) ne = absurd (ne refl)
cell_unlisted name t _ ne = refl

pub cell_listless : (name : WrittenSpan) → Passes (CellBy name) (w.Name contextual.By) (CellSort name cells.Keyed)
unfolding step whole
cell_listless name = record { whole = refl; same = λ t ne. cell_unlisted name t t.word ne }

pub cell_list : (name : WrittenSpan) (at : ℕ) → ExpectsName (CellList name at) (λ list. CellSort name (cells.By (by_of at list)))
unfolding step whole
cell_list name at = record {
  takes = λ t named. name_takes t.word (CellSort name (cells.By (by_of at (span_of t)))) named;
  refuses = λ t other. name_only t.word (CellSort name (cells.By (by_of at (span_of t)))) other;
  none = refl;
}

pub cell_sort : (name : WrittenSpan) (cells : WrittenCells) (t : Token) (s : Sort) → sort_of t.word ≡ Some s
    → step (CellSort name cells) t ≡ Goes (Declared (Cell name cells s))
unfolding step
cell_sort name cells t s e = rw e refl

pub cell_no_sort : (name : WrittenSpan) (cells : WrittenCells) (t : Token) → sort_of t.word ≡ None → step (CellSort name cells) t ≡ Refused
unfolding step
cell_no_sort name cells t e = rw e refl

pub cell_sort_whole : (name : WrittenSpan) (cells : WrittenCells) → whole (CellSort name cells) ≡ None
unfolding whole
cell_sort_whole name cells = refl

pub tag_keyed : (name : WrittenSpan) (t : Token) → t.word ≡ w.Reserved r.Keyed → step (TagForm name) t ≡ Goes (TagItem name true)
unfolding step
tag_keyed name t e = rw e refl

tag_unkeyed : (name : WrittenSpan) (t : Token) (word : Word) → word ≢ w.Reserved r.Keyed → tag_step name t word ≡ item_step name false t word
tag_unkeyed name t (w.Reserved r.Keyed) ne = absurd (ne refl)
tag_unkeyed name t _ ne = refl

pub tag_plain : (name : WrittenSpan) → Passes (TagForm name) (w.Reserved r.Keyed) (TagItem name false)
unfolding step whole
tag_plain name = record { whole = refl; same = λ t ne. tag_unkeyed name t t.word ne }

pub tag_item : (name : WrittenSpan) (keyed : Bool) (t : Token) → t.word ≡ w.Name contextual.Item
    → step (TagItem name keyed) t ≡ Goes (TagBy name keyed t.from)
unfolding step
tag_item name keyed t e = rw e refl

tag_no_item : (name : WrittenSpan) (keyed : Bool) (t : Token) (word : Word) → word ≢ w.Name contextual.Item
    → item_step name keyed t word ≡ value_step name keyed None (value_of word)
tag_no_item name keyed t (w.Name contextual.Item) ne = absurd (ne refl)
tag_no_item name keyed t _ ne = refl

pub tag_itemless : (name : WrittenSpan) (keyed : Bool) → Passes (TagItem name keyed) (w.Name contextual.Item) (TagValue name keyed None)
unfolding step whole
tag_itemless name keyed = record { whole = refl; same = λ t ne. tag_no_item name keyed t t.word ne }

pub tag_by : (name : WrittenSpan) (keyed : Bool) (at : ℕ) (t : Token) → t.word ≡ w.Name contextual.By
    → step (TagBy name keyed at) t ≡ Goes (TagList name keyed at t.from)
unfolding step
tag_by name keyed at t e = rw e refl

tag_unlisted : (name : WrittenSpan) (keyed : Bool) (at : ℕ) (t : Token) (word : Word) → word ≢ w.Name contextual.By
    → tag_by_step name keyed at t word ≡ value_step name keyed (Some (item_of at None)) (value_of word)
tag_unlisted name keyed at t (w.Name contextual.By) ne = absurd (ne refl)
tag_unlisted name keyed at t _ ne = refl

pub tag_listless : (name : WrittenSpan) (keyed : Bool) (at : ℕ)
    → Passes (TagBy name keyed at) (w.Name contextual.By) (TagValue name keyed (Some (item_of at None)))
unfolding step whole
tag_listless name keyed at = record { whole = refl; same = λ t ne. tag_unlisted name keyed at t t.word ne }

pub tag_list : (name : WrittenSpan) (keyed : Bool) (at by_at : ℕ)
    → ExpectsName (TagList name keyed at by_at) (λ list. TagValue name keyed (Some (item_of at (Some (by_of by_at list)))))
unfolding step whole
tag_list name keyed at by_at = record {
  takes = λ t named. name_takes t.word (TagValue name keyed (Some (item_of at (Some (by_of by_at (span_of t)))))) named;
  refuses = λ t other. name_only t.word (TagValue name keyed (Some (item_of at (Some (by_of by_at (span_of t)))))) other;
  none = refl;
}

pub tag_value : (name : WrittenSpan) (keyed : Bool) (item : Option WrittenItem) (t : Token) (has_value : Bool) → value_of t.word ≡ Some has_value
    → step (TagValue name keyed item) t ≡ Goes (Declared (Tag name keyed item has_value))
unfolding step
tag_value name keyed item t has_value e = rw e refl

pub tag_no_value : (name : WrittenSpan) (keyed : Bool) (item : Option WrittenItem) (t : Token) → value_of t.word ≡ None
    → step (TagValue name keyed item) t ≡ Refused
unfolding step
tag_no_value name keyed item t e = rw e refl

pub tag_value_whole : (name : WrittenSpan) (keyed : Bool) (item : Option WrittenItem) → whole (TagValue name keyed item) ≡ None
unfolding whole
tag_value_whole name keyed item = refl

pub depends_same : (a b : WrittenSpan) (t : Token) → t.word ≡ w.Reserved r.Same → step (DependsHow a b) t ≡ Goes (Declared (Depends a b (relation.Same t.from)))
unfolding step
depends_same a b t e = rw e refl

pub depends_all : (a b : WrittenSpan) (t : Token) → t.word ≡ w.Reserved r.All → step (DependsHow a b) t ≡ Goes (Declared (Depends a b relation.All))
unfolding step
depends_all a b t e = rw e refl

no_how : (a b : WrittenSpan) (t : Token) (word : Word) → word ≢ w.Reserved r.Same → word ≢ w.Reserved r.All → how_step a b t word ≡ Refused
no_how a b t (w.Reserved r.Same) ne nor = absurd (ne refl)
no_how a b t (w.Reserved r.All) ne nor = absurd (nor refl)
no_how a b t _ ne nor = refl

pub depends_none : (a b : WrittenSpan) (t : Token) → t.word ≢ w.Reserved r.Same → t.word ≢ w.Reserved r.All → step (DependsHow a b) t ≡ Refused
unfolding step
depends_none a b t ne nor = no_how a b t t.word ne nor

pub depends_whole : (a b : WrittenSpan) → whole (DependsHow a b) ≡ Some (Depends a b relation.None ∷ [])
unfolding whole
depends_whole a b = refl

-- ---- lists of names

pub names_name : (at : ℕ) → ExpectsName (NamesName at) (λ name. NamesColon at name)
unfolding step whole
names_name at = record {
  takes = λ t named. name_takes t.word (NamesColon at (span_of t)) named;
  refuses = λ t other. name_only t.word (NamesColon at (span_of t)) other;
  none = refl;
}

pub names_colon : (at : ℕ) (name : WrittenSpan) → Expects (NamesColon at name) (w.Mark m.Colon) (λ t. NamesText (listing_of at name))
unfolding step whole
names_colon at name = record { takes = λ t e. rw e refl; refuses = λ t ne. colon_only t.word (NamesText (listing_of at name)) ne; none = refl }

pub names_text : (so_far : Listing) → Expects (NamesText so_far) w.Text (λ t. NamesEnd (texted so_far (span_of t)))
unfolding step whole
names_text so_far = record { takes = λ t e. rw e refl; refuses = λ t ne. text_only t.word (NamesEnd (texted so_far (span_of t))) ne; none = refl }

pub names_comma : (so_far : Listing) (t : Token) → t.word ≡ w.Mark m.Comma → step (NamesEnd so_far) t ≡ Goes (NamesText so_far)
unfolding step
names_comma so_far t e = rw e refl

no_more_texts : (so_far : Listing) (word : Word) → word ≢ w.Mark m.Comma → texts_step so_far word ≡ Refused
no_more_texts so_far (w.Mark m.Comma) ne = absurd (ne refl)
no_more_texts so_far _ ne = refl

pub names_end : (so_far : Listing) → EndsUnless (NamesEnd so_far) (w.Mark m.Comma) (Names so_far.at so_far.name so_far.texts)
unfolding step whole
names_end so_far = record { whole = refl; refuses = λ t ne. no_more_texts so_far t.word ne }

-- ---- sources

pub source_name : ExpectsName SourceName (λ name. SourceFile name)
unfolding step whole
source_name = record {
  takes = λ t named. name_takes t.word (SourceFile (span_of t)) named;
  refuses = λ t other. name_only t.word (SourceFile (span_of t)) other;
  none = refl;
}

pub source_file : (name : WrittenSpan) → Expects (SourceFile name) w.Text (λ t. SourceRate name (span_of t))
unfolding step whole
source_file name = record { takes = λ t e. rw e refl; refuses = λ t ne. text_only t.word (SourceRate name (span_of t)) ne; none = refl }

pub source_rate : (name file : WrittenSpan) (t : Token) → t.word ≡ w.Reserved r.Rate → step (SourceRate name file) t ≡ Goes (RateNumber name file)
unfolding step
source_rate name file t e = rw e refl

no_rate : (name file : WrittenSpan) (word : Word) → word ≢ w.Reserved r.Rate → rate_step name file word ≡ slack_step name file None word
no_rate name file (w.Reserved r.Rate) ne = absurd (ne refl)
no_rate name file _ ne = refl

pub source_plain : (name file : WrittenSpan) → Passes (SourceRate name file) (w.Reserved r.Rate) (SourceSlack name file None)
unfolding step whole
source_plain name file = record { whole = refl; same = λ t ne. no_rate name file t.word ne }

pub rate_number : (name file : WrittenSpan) → ExpectsNumber (RateNumber name file) (λ n. SourceSlack name file (Some n))
unfolding step whole
rate_number name file = record
    { takes = λ t n e. rw e refl; refuses = λ t nor. number_only t.word (λ n. SourceSlack name file (Some (number_of n t))) nor; none = refl }

pub source_slack : (name file : WrittenSpan) (rate : Option WrittenNumber) (t : Token) → t.word ≡ w.Reserved r.Slack
    → step (SourceSlack name file rate) t ≡ Goes (SlackNumber name file rate)
unfolding step
source_slack name file rate t e = rw e refl

no_slack : (name file : WrittenSpan) (rate : Option WrittenNumber) (word : Word) → word ≢ w.Reserved r.Slack
    → slack_step name file rate word ≡ on_colon word (TagKind (source_of name file rate None))
no_slack name file rate (w.Reserved r.Slack) ne = absurd (ne refl)
no_slack name file rate _ ne = refl

pub source_prompt : (name file : WrittenSpan) (rate : Option WrittenNumber)
    → Passes (SourceSlack name file rate) (w.Reserved r.Slack) (SourceColon name file rate None)
unfolding step whole
source_prompt name file rate = record { whole = refl; same = λ t ne. no_slack name file rate t.word ne }

pub slack_number : (name file : WrittenSpan) (rate : Option WrittenNumber)
    → ExpectsNumber (SlackNumber name file rate) (λ n. SourceColon name file rate (Some n))
unfolding step whole
slack_number name file rate = record {
  takes = λ t n e. rw e refl;
  refuses = λ t nor. number_only t.word (λ n. SourceColon name file rate (Some (number_of n t))) nor;
  none = refl;
}

pub source_colon : (name file : WrittenSpan) (rate slack : Option WrittenNumber)
    → Expects (SourceColon name file rate slack) (w.Mark m.Colon) (λ t. TagKind (source_of name file rate slack))
unfolding step whole
source_colon name file rate slack = record
    { takes = λ t e. rw e refl; refuses = λ t ne. colon_only t.word (TagKind (source_of name file rate slack)) ne; none = refl }

pub tag_kind : (so_far : Tags) → ExpectsName (TagKind so_far) (λ name. TagKeys so_far name)
unfolding step whole
tag_kind so_far = record {
  takes = λ t named. name_takes t.word (TagKeys so_far (span_of t)) named;
  refuses = λ t other. name_only t.word (TagKeys so_far (span_of t)) other;
  none = refl;
}

pub tag_bracket : (so_far : Tags) (kind : WrittenSpan) (t : Token) → t.word ≡ w.Mark m.OpenBracket → step (TagKeys so_far kind) t ≡ Goes (TagLow so_far kind)
unfolding step
tag_bracket so_far kind t e = rw e refl

no_keys : (so_far : Tags) (kind : WrittenSpan) (word : Word) → word ≢ w.Mark m.OpenBracket
    → tag_keys_step so_far kind word ≡ tags_step (listed so_far (tag_of kind keys.Alone)) word
no_keys so_far kind (w.Mark m.OpenBracket) ne = absurd (ne refl)
no_keys so_far kind _ ne = refl

pub tag_alone : (so_far : Tags) (kind : WrittenSpan) → Passes (TagKeys so_far kind) (w.Mark m.OpenBracket) (TagEnd (listed so_far (tag_of kind keys.Alone)))
unfolding step whole
tag_alone so_far kind = record { whole = refl; same = λ t ne. no_keys so_far kind t.word ne }

pub tag_low : (so_far : Tags) (kind : WrittenSpan) → ExpectsNumber (TagLow so_far kind) (λ n. TagMore so_far kind n)
unfolding step whole
tag_low so_far kind = record { takes = λ t n e. rw e refl; refuses = λ t nor. number_only t.word (λ n. TagMore so_far kind (number_of n t)) nor; none = refl }

pub tag_high : (so_far : Tags) (kind : WrittenSpan) (low : WrittenNumber)
    → ExpectsNumber (TagHigh so_far kind low) (λ n. TagClose so_far kind (keys.Range low n))
unfolding step whole
tag_high so_far kind low = record
    { takes = λ t n e. rw e refl; refuses = λ t nor. number_only t.word (λ n. TagClose so_far kind (keys.Range low (number_of n t))) nor; none = refl }

pub tag_dots : (so_far : Tags) (kind : WrittenSpan) (low : WrittenNumber) (t : Token) → t.word ≡ w.Mark m.Dots
    → step (TagMore so_far kind low) t ≡ Goes (TagHigh so_far kind low)
unfolding step
tag_dots so_far kind low t e = rw e refl

no_dots : (so_far : Tags) (kind : WrittenSpan) (low : WrittenNumber) (word : Word) → word ≢ w.Mark m.Dots
    → range_step so_far kind low word ≡ on_bracket word (TagEnd (listed so_far (tag_of kind (keys.One low))))
no_dots so_far kind low (w.Mark m.Dots) ne = absurd (ne refl)
no_dots so_far kind low _ ne = refl

pub tag_one : (so_far : Tags) (kind : WrittenSpan) (low : WrittenNumber)
    → Passes (TagMore so_far kind low) (w.Mark m.Dots) (TagClose so_far kind (keys.One low))
unfolding step whole
tag_one so_far kind low = record { whole = refl; same = λ t ne. no_dots so_far kind low t.word ne }

pub tag_close : (so_far : Tags) (kind : WrittenSpan) (ks : WrittenKeys)
    → Expects (TagClose so_far kind ks) (w.Mark m.CloseBracket) (λ t. TagEnd (listed so_far (tag_of kind ks)))
unfolding step whole
tag_close so_far kind ks = record { takes = λ t e. rw e refl; refuses = λ t ne. bracket_only t.word (TagEnd (listed so_far (tag_of kind ks))) ne; none = refl }

pub tag_comma : (so_far : Tags) (t : Token) → t.word ≡ w.Mark m.Comma → step (TagEnd so_far) t ≡ Goes (TagKind so_far)
unfolding step
tag_comma so_far t e = rw e refl

no_comma : (so_far : Tags) (word : Word) → word ≢ w.Mark m.Comma → tags_step so_far word ≡ Refused
no_comma so_far (w.Mark m.Comma) ne = absurd (ne refl)
no_comma so_far _ ne = refl

pub tags_end : (so_far : Tags) → EndsUnless (TagEnd so_far) (w.Mark m.Comma) (Source so_far.name so_far.file so_far.rate so_far.slack so_far.all)
unfolding step whole
tags_end so_far = record { whole = refl; refuses = λ t ne. no_comma so_far t.word ne }

-- ---- actions

pub on_kind : ExpectsName OnKind (λ name. OnColon name)
unfolding step whole
on_kind = record {
  takes = λ t named. name_takes t.word (OnColon (span_of t)) named;
  refuses = λ t other. name_only t.word (OnColon (span_of t)) other;
  none = refl;
}

pub on_mark : (kind : WrittenSpan) → Expects (OnColon kind) (w.Mark m.Colon) (λ t. ActionStart (no_actions kind))
unfolding step whole
on_mark kind = record { takes = λ t e. rw e refl; refuses = λ t ne. colon_only t.word (ActionStart (no_actions kind)) ne; none = refl }

pub act-step : (so_far : Actions) (t : Token) (d : Doing) → doing_of t.word ≡ d → step (ActionStart so_far) t ≡ act_step so_far t.from d
unfolding step
act-step so_far t d e = rw e refl

pub act_whole : (so_far : Actions) → whole (ActionStart so_far) ≡ None
unfolding whole
act_whole so_far = refl

pub emit_text : (so_far : Actions) (at : ℕ) → Expects (EmitText so_far at) w.Text (λ t. DeedEnd so_far at (Emits (span_of t)))
unfolding step whole
emit_text so_far at = record { takes = λ t e. rw e refl; refuses = λ t ne. text_only t.word (DeedEnd so_far at (Emits (span_of t))) ne; none = refl }

pub flush_family : (so_far : Actions) (at : ℕ) → ExpectsName (FlushFamily so_far at) (λ name. FlushText so_far at name)
unfolding step whole
flush_family so_far at = record {
  takes = λ t named. name_takes t.word (FlushText so_far at (span_of t)) named;
  refuses = λ t other. name_only t.word (FlushText so_far at (span_of t)) other;
  none = refl;
}

pub flush_text : (so_far : Actions) (at : ℕ) (family : WrittenSpan)
    → Expects (FlushText so_far at family) w.Text (λ t. DeedEnd so_far at (Flushes family (span_of t)))
unfolding step whole
flush_text so_far at family = record
    { takes = λ t e. rw e refl; refuses = λ t ne. text_only t.word (DeedEnd so_far at (Flushes family (span_of t))) ne; none = refl }

pub deed_when : (so_far : Actions) (at : ℕ) (deed : Deed) (t : Token) → t.word ≡ w.Reserved r.When
    → step (DeedEnd so_far at deed) t ≡ Goes (InExpression (Guard so_far at deed) (Want 0) [])
unfolding step deed_step
deed_when so_far at deed t e = rw e refl

no_when : (so_far : Actions) (at : ℕ) (deed : Deed) (word : Word) → word ≢ w.Reserved r.When
    → deed_step so_far at deed word ≡ action_step (acted so_far at deed None) word
unfolding deed_step
no_when so_far at deed (w.Reserved r.When) ne = absurd (ne refl)
no_when so_far at deed _ ne = refl

pub deed_plain : (so_far : Actions) (at : ℕ) (deed : Deed) → Passes (DeedEnd so_far at deed) (w.Reserved r.When) (ActionEnd (acted so_far at deed None))
unfolding step whole
deed_plain so_far at deed = record { whole = refl; same = λ t ne. no_when so_far at deed t.word ne }

pub action_semicolon : (so_far : Actions) (t : Token) → t.word ≡ w.Mark m.Semicolon → step (ActionEnd so_far) t ≡ Goes (ActionStart so_far)
unfolding step action_step
action_semicolon so_far t e = rw e refl

no_semicolon : (so_far : Actions) (word : Word) → word ≢ w.Mark m.Semicolon → action_step so_far word ≡ Refused
unfolding action_step
no_semicolon so_far (w.Mark m.Semicolon) ne = absurd (ne refl)
no_semicolon so_far _ ne = refl

pub actions_end : (so_far : Actions) → EndsUnless (ActionEnd so_far) (w.Mark m.Semicolon) (On so_far.kind so_far.all)
unfolding step whole
actions_end so_far = record { whole = refl; refuses = λ t ne. no_semicolon so_far t.word ne }

-- a word that leads on
pub run-word : (end : ℕ) (job : Declarations) (now next : Now) (word : Word) (tokens rest : List Token) (t : Token)
    → ((x : Token) → x.word ≡ word → step now x ≡ Goes next) → IsFirst word tokens t rest → run end job now tokens ≡ run end job next rest
run-word end job now next word tokens rest t takes h = rw h.0 (run-takes end job now next t rest (takes t h.1))

-- a token of a word that leads on
pub run-led : (end : ℕ) (job : Declarations) (now next : Now) (word : Word) (tokens rest : List Token) (t : Token) → IsFirst word tokens t rest
    → (t.word ≡ word → step now t ≡ Goes next) → run end job now tokens ≡ run end job next rest
run-led end job now next word tokens rest t h takes = rw h.0 (run-takes end job now next t rest (takes h.1))

-- ---- what a reader does

pub run-keyed_tag : (end : ℕ) (job : Declarations) (name : WrittenSpan) (keyed : Bool) (tokens rest : List Token) → TakesKeyed tokens keyed rest
    → run end job (TagForm name) tokens ≡ run end job (TagItem name keyed) rest
run-keyed_tag end job name true tokens rest h = run-word end job (TagForm name) (TagItem name true) (w.Reserved r.Keyed) tokens rest h.0 (tag_keyed name) h.1
run-keyed_tag end job name false tokens rest h = rw h.0 (run-passed end job tokens (tag_plain name) h.1)

pub run-sort : (end : ℕ) (job : Declarations) (name : WrittenSpan) (cells : WrittenCells) (tokens rest : List Token) (t : Token) (s : Sort) → tokens ≡ t ∷ rest
    → Some s ≡ sort_of t.word
    → run end job (CellSort name cells) tokens ≡ run end (job ++ Cell name cells s ∷ []) Start rest
run-sort end job name cells tokens rest t s here e =
    rw here (run-takes end job (CellSort name cells) (Declared (Cell name cells s)) t rest (cell_sort name cells t s (sym e))
    ∙ run-declared end job (Cell name cells s) rest)

pub run-no_sort : (end : ℕ) (job : Declarations) (name : WrittenSpan) (cells : WrittenCells) (tokens rest : List Token) (t : Token) → tokens ≡ t ∷ rest
    → None ≡ sort_of t.word → run end job (CellSort name cells) tokens ≡ Unexpected (place_of end tokens)
run-no_sort end job name cells tokens rest t here e =
    rw here (run-misses end job (CellSort name cells) t rest (cell_no_sort name cells t (sym e)) (cell_sort_whole name cells))

pub run-sort_end : (end : ℕ) (job : Declarations) (name : WrittenSpan) (cells : WrittenCells) (tokens : List Token) → tokens ≡ []
    → run end job (CellSort name cells) tokens ≡ Unexpected (place_of end tokens)
run-sort_end end job name cells tokens e = rw e (run-ends end job (CellSort name cells) (cell_sort_whole name cells))

pub run-value : (end : ℕ) (job : Declarations) (name : WrittenSpan) (keyed : Bool) (item : Option WrittenItem) (tokens rest : List Token) (t : Token)
    (has_value : Bool) → tokens ≡ t ∷ rest → Some has_value ≡ value_of t.word
    → run end job (TagValue name keyed item) tokens ≡ run end (job ++ Tag name keyed item has_value ∷ []) Start rest
run-value end job name keyed item tokens rest t has_value here e =
    rw here (run-takes end job (TagValue name keyed item) (Declared (Tag name keyed item has_value)) t rest (tag_value name keyed item t has_value (sym e))
    ∙ run-declared end job (Tag name keyed item has_value) rest)

pub run-no_value : (end : ℕ) (job : Declarations) (name : WrittenSpan) (keyed : Bool) (item : Option WrittenItem) (tokens rest : List Token) (t : Token)
    → tokens ≡ t ∷ rest → None ≡ value_of t.word → run end job (TagValue name keyed item) tokens ≡ Unexpected (place_of end tokens)
run-no_value end job name keyed item tokens rest t here e =
    rw here (run-misses end job (TagValue name keyed item) t rest (tag_no_value name keyed item t (sym e)) (tag_value_whole name keyed item))

pub run-value_end : (end : ℕ) (job : Declarations) (name : WrittenSpan) (keyed : Bool) (item : Option WrittenItem) (tokens : List Token) → tokens ≡ []
    → run end job (TagValue name keyed item) tokens ≡ Unexpected (place_of end tokens)
run-value_end end job name keyed item tokens e = rw e (run-ends end job (TagValue name keyed item) (tag_value_whole name keyed item))

pub run-same_relation : (end : ℕ) (job : Declarations) (a b : WrittenSpan) (tokens rest : List Token) (t : Token) → IsFirst (w.Reserved r.Same) tokens t rest
    → run end job (DependsHow a b) tokens ≡ run end (job ++ Depends a b (relation.Same t.from) ∷ []) Start rest
run-same_relation end job a b tokens rest t h =
    rw h.0 (run-takes end job (DependsHow a b) (Declared (Depends a b (relation.Same t.from))) t rest (depends_same a b t h.1)
    ∙ run-declared end job (Depends a b (relation.Same t.from)) rest)

pub run-all_relation : (end : ℕ) (job : Declarations) (a b : WrittenSpan) (tokens rest : List Token) (t : Token) → IsFirst (w.Reserved r.All) tokens t rest
    → run end job (DependsHow a b) tokens ≡ run end (job ++ Depends a b relation.All ∷ []) Start rest
run-all_relation end job a b tokens rest t h =
    rw h.0 (run-takes end job (DependsHow a b) (Declared (Depends a b relation.All)) t rest (depends_all a b t h.1)
    ∙ run-declared end job (Depends a b relation.All) rest)

pub run-no_relation : (end : ℕ) (job : Declarations) (a b : WrittenSpan) (tokens : List Token) → NotFirst (w.Reserved r.Same) tokens
    → NotFirst (w.Reserved r.All) tokens
    → run end job (DependsHow a b) tokens ≡ run end (job ++ Depends a b relation.None ∷ []) Start tokens
run-no_relation end job a b [] h k = closes_empty end job (DependsHow a b) (Depends a b relation.None) (depends_whole a b)
run-no_relation end job a b (t ∷ tokens) h k =
    closes_token end job (DependsHow a b) (Depends a b relation.None) t tokens (depends_whole a b) (depends_none a b t h k)

pub run-doing : (end : ℕ) (job : Declarations) (so_far : Actions) (next : Now) (t : Token) (rest : List Token) (d : Doing) → d ≡ doing_of t.word
    → act_step so_far t.from d ≡ Goes next → run end job (ActionStart so_far) (t ∷ rest) ≡ run end job next rest
run-doing end job so_far next t rest d is e = run-takes end job (ActionStart so_far) next t rest (act-step so_far t d (sym is) ∙ e)

pub run-no_doing : (end : ℕ) (job : Declarations) (so_far : Actions) (tokens rest : List Token) (t : Token) → tokens ≡ t ∷ rest
    → doing.Other ≡ doing_of t.word → run end job (ActionStart so_far) tokens ≡ Unexpected (place_of end tokens)
run-no_doing end job so_far tokens rest t here is =
    rw here (run-misses end job (ActionStart so_far) t rest (act-step so_far t doing.Other (sym is)) (act_whole so_far))

pub run-doing_end : (end : ℕ) (job : Declarations) (so_far : Actions) (tokens : List Token) → tokens ≡ []
    → run end job (ActionStart so_far) tokens ≡ Unexpected (place_of end tokens)
run-doing_end end job so_far tokens e = rw e (run-ends end job (ActionStart so_far) (act_whole so_far))

pub through_write : {X : Type 0} (end : ℕ) (tokens others : List Token) (t : Token) (verb : Verb) (deed : X → Deed) (rest : X
    → List Token) (result : Result X SyntaxFault) → tokens ≡ t ∷ others → doing.Write verb ≡ doing_of t.word
    → ReadsWriting end verb others deed rest result → ReadsDeed end tokens deed rest result
through_write end tokens others t verb deed rest (Ok x) here is h = λ at. rw here
    (run-doing end at.0 at.1 (CellFamily (ToWrite at.1 t.from verb)) t others (doing.Write verb) is refl ∙ h (at.0, at.1, t.from))
through_write end tokens others t verb deed rest (Err fault) here is h = λ at. rw here
    (Tells-through fault _ _ (run-doing end at.0 at.1 (CellFamily (ToWrite at.1 t.from verb)) t others (doing.Write verb) is refl) (h (at.0, at.1, t.from)))

pub through_heading : {X : Type 0} (end : ℕ) (tokens others : List Token) (t : Token) (now : Now) (heading : Heading) (declaration : X
    → Declaration) (rest : X → List Token) (result : Result X SyntaxFault) → tokens ≡ t ∷ others
    → heading ≡ heading_of t.word → opening t.from heading ≡ Some now → ReadsDeclaration end now others declaration rest result
    → ReadsDeclaration end Start tokens declaration rest result
through_heading end tokens others t now heading declaration rest (Ok x) here is e h =
    λ job. rw here (begins end job now t others (ap (opening t.from) (sym is) ∙ e)
    ∙ h job)
through_heading end tokens others t now heading declaration rest (Err fault) here is e h = λ job. rw here
    (Tells-through fault _ _ (begins end job now t others (ap (opening t.from) (sym is) ∙ e)) (h job))

pub no_heading : (end : ℕ) (job : Declarations) (tokens rest : List Token) (t : Token) (heading : Heading) → tokens ≡ t ∷ rest → heading ≡ heading_of t.word
    → opening t.from heading ≡ None → run end job Start tokens ≡ Unexpected (place_of end tokens)
no_heading end job tokens rest t heading here is e = rw here (begins_none end job t rest (ap (opening t.from) (sym is) ∙ e))
