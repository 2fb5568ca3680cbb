-- What is found is spelled by the tokens.
use Rattle.std.proofs.Common.{◌≡◌, ◌≢◌, ℕ, ◌+◌, Bool, true, false, cond, ltb, leb, List, [], ◌∷◌}
use Rattle.std.proofs.Common.{◌++◌, Option, Some, None, refl, sym, ap, subst, ◌∙◌, append_assoc}
use Rattle.std.specs.List.{flat_map}
use Rattle.std.specs.Prelude.{IfSome}
use Rattle.std.proofs.lemmas.List.{append-nil}
use Rattle.std.proofs.lemmas.Grind.{flat_map-append}
use Rattle.flu_text.specs.declared.words.Token.{Token}
use Rattle.flu_text.specs.declared.words.Word.{Word}
use Rattle.flu_text.specs.declared.words.Word.TheVariants as w
use Rattle.flu_text.specs.declared.words.Contextual.TheVariants as contextual
use Rattle.flu_names.specs.declared.reserved.Reserved.TheVariants as r
use Rattle.flu_text.specs.declared.words.Mark.TheVariants as m
use Rattle.flu_model.specs.declared.jobs.Op.{Op}
use Rattle.flu_text.specs.declared.written.WrittenSpan.{WrittenSpan}
use Rattle.flu_text.specs.declared.written.WrittenNumber.{WrittenNumber}
use Rattle.flu_syntax.specs.declared.tree.WrittenKey.{WrittenKey}
use Rattle.flu_syntax.specs.declared.tree.WrittenKey.TheVariants as key
use Rattle.flu_syntax.specs.declared.tree.WrittenRef.{WrittenRef}
use Rattle.flu_text.specs.declared.written.WrittenKeys.{WrittenKeys}
use Rattle.flu_text.specs.declared.written.WrittenKeys.TheVariants as keys
use Rattle.flu_syntax.specs.declared.tree.WrittenTag.{WrittenTag}
use Rattle.flu_syntax.specs.declared.tree.WrittenCells.{WrittenCells}
use Rattle.flu_syntax.specs.declared.tree.WrittenCells.TheVariants as cells
use Rattle.flu_syntax.specs.declared.tree.WrittenItem.{WrittenItem}
use Rattle.flu_lemmas.proofs.Elements.{push_some}
use Rattle.flu_syntax.specs.Tree.{Tree, ReadTree, HasTree, ParenTree, NegTree, NotTree, TwoTree, Deed}
use Rattle.flu_syntax.specs.Tree.{Writes, Clears, Emits, Flushes, Action, Names, On, Source, Clock, Declarations}
use Rattle.flu_text.specs.Signs.{span_of, number_of}
use Rattle.flu_syntax.specs.Machine.{cell_of, tag_of, Actions, Tags, Context, Amount, Guard, Frame, NegFrame, NotFrame, ParenFrame, RightFrame, Mode, Want}
use Rattle.flu_syntax.specs.Machine.{Have, Done, Aim, ToWrite, ToClear, ToRead, ToTest, Now, Start, Declared, CellName, CellForm, CellSort, TagName, TagForm}
use Rattle.flu_syntax.specs.Machine.{TagItem, TagValue, DependsFirst, DependsSecond, DependsHow, SourceName, SourceFile, SourceRate, RateNumber, SourceSlack}
use Rattle.flu_syntax.specs.Machine.{SlackNumber, SourceColon, TagKind, TagKeys, TagLow, TagMore, TagHigh, TagClose, TagEnd, OnKind, OnColon, ActionStart}
use Rattle.flu_syntax.specs.Machine.{DeedEnd, ActionEnd, EmitText, FlushFamily, FlushText, CellFamily, CellKeys, CellKey, CellClose, InExpression, Next}
use Rattle.flu_syntax.specs.Machine.{Goes, Deep, Refused, begin, atom, take_or, done_step, expression_step, behind_step, deed_step, action_step, acted}
use Rattle.flu_syntax.specs.Machine.{listed, source_of, named, named_step, keys_step, key_step, on_name, on_text, on_colon, on_bracket, on_number, sort_of}
use Rattle.flu_syntax.specs.Machine.{sort_step, cell_step, value_of, value_step, item_step, tag_step, how_step, rate_step, slack_step, source_line, tags_step}
use Rattle.flu_syntax.specs.Machine.{tag_keys_step, range_step, doing_of, act_step, start_of, operator_of, is_within, is_close, level_behind, opens}
use Rattle.flu_syntax.specs.Machine.{heading_of, opening, done_whole, behind_whole, named_whole, step, whole, Verdict, Found, goes_on, next_declaration}
use Rattle.flu_syntax.specs.Machine.{ClockName, ClockEvery, ClockPeriod, ClockRate, ClockRateNumber, ClockColon, ClockTag, on_every, clock_rate_step}
use Rattle.flu_syntax.specs.Machine.{ended, run, CellBy, CellList, TagBy, TagList, NamesName, NamesColon, NamesText, NamesEnd, Listing, by_of, item_of}
use Rattle.flu_syntax.specs.Machine.{texted, listing_of, cell_by_step, tag_by_step, texts_step}
use Rattle.flu_text.specs.Signs.{Sign, Any, At, Spanned, Named, IsSign, AreSigns, name, text, number, separated}
use Rattle.flu_syntax.specs.Grammar.{op_level, op_word, verb_word, key_signs, cell_signs, spelled, deed_signs, guard_signs, action_signs}
use Rattle.flu_syntax.specs.Grammar.{tag_signs, keyed_signs, rate_signs, slack_signs, declaration_signs, declarations_signs}
use Rattle.flu_syntax.proofs.Said.{mark_ended, on_head, said_actions, source_begun, source_head, said_tags, tag_begun, clock_begun, listing_head, said_texts}
use Rattle.flu_syntax.proofs.Said.{said_context, said_frames, said_aim, key_open, keys_open, said, Sound, Says}

-- ---- what a step says

moved : (a b : List Sign) (t : Token) (next : Next) → a ≡ b → Says b t next → Says a t next
moved a b t next e h = rw e h

-- ---- where one word alone may follow

name_says : (before : List Sign) (t : Token) (word : Word) (next : Now) → t.word ≡ word → Sound next → said next ≡ before ++ Named (span_of t) ∷ []
    → Says before t (on_name word next)
name_says before t (w.Name c) next e sound h = (Named (span_of t), (rw e refl, refl, refl), sound, h)
name_says before t _ next e sound h = tt

text_says : (before : List Sign) (t : Token) (word : Word) (next : Now) → t.word ≡ word → Sound next → said next ≡ before ++ Spanned w.Text (span_of t) ∷ []
    → Says before t (on_text word next)
text_says before t w.Text next e sound h = (Spanned w.Text (span_of t), (e, refl, refl), sound, h)
text_says before t _ next e sound h = tt

colon_says : (before : List Sign) (t : Token) (word : Word) (next : Now) → t.word ≡ word → Sound next → said next ≡ before ++ Any (w.Mark m.Colon) ∷ []
    → Says before t (on_colon word next)
colon_says before t (w.Mark m.Colon) next e sound h = (Any (w.Mark m.Colon), e, sound, h)
colon_says before t _ next e sound h = tt

every_says : (before : List Sign) (t : Token) (word : Word) (next : Now) → t.word ≡ word → Sound next
    → said next ≡ before ++ Any (w.Name contextual.Every) ∷ [] → Says before t (on_every word next)
every_says before t (w.Name contextual.Every) next e sound h = (Any (w.Name contextual.Every), e, sound, h)
every_says before t _ next e sound h = tt

bracket_says : (before : List Sign) (t : Token) (word : Word) (next : Now) → t.word ≡ word → Sound next
    → said next ≡ before ++ Any (w.Mark m.CloseBracket) ∷ [] → Says before t (on_bracket word next)
bracket_says before t (w.Mark m.CloseBracket) next e sound h = (Any (w.Mark m.CloseBracket), e, sound, h)
bracket_says before t _ next e sound h = tt

number_says : (before : List Sign) (t : Token) (word : Word) (next : WrittenNumber → Now) → t.word ≡ word → ((n : WrittenNumber) → Sound (next n))
    → ((n : WrittenNumber) → said (next n) ≡ before ++ number n)
    → Says before t (on_number word (λ n. next (number_of n t)))
number_says before t (w.Number n) next e sound h = (At (w.Number n) t.from, (e, refl), sound (number_of n t), h (number_of n t))
number_says before t _ next e sound h = tt

-- ---- cells, tags and dependencies

sort_says : (n : WrittenSpan) (cells : WrittenCells) (t : Token) (word : Word) → t.word ≡ word
    → Says (said (CellSort n cells)) t (sort_step n cells (sort_of word))
unfolding sort_of
sort_says n cells t (w.Reserved r.Sum) e = (Any (w.Reserved r.Sum), e, tt, ap (λ (x : List Sign). Any (w.Reserved r.Cell) ∷ Named n ∷ x) refl)
sort_says n cells t (w.Reserved r.Max) e = (Any (w.Reserved r.Max), e, tt, refl)
sort_says n cells t (w.Reserved r.Last) e = (Any (w.Reserved r.Last), e, tt, refl)
sort_says n cells t _ e = tt

cell_says : (n : WrittenSpan) (t : Token) (word : Word) → t.word ≡ word → Says (said (CellForm n)) t (cell_step n word)
cell_says n t (w.Reserved r.Keyed) e = (Any (w.Reserved r.Keyed), e, tt, refl)
cell_says n t word e = sort_says n cells.Alone t word e

cell_by_says : (n : WrittenSpan) (t : Token) (word : Word) → t.word ≡ word → Says (said (CellBy n)) t (cell_by_step n t word)
cell_by_says n t (w.Name contextual.By) e = (At (w.Name contextual.By) t.from, (e, refl), tt, refl)
cell_by_says n t word e = sort_says n cells.Keyed t word e

value_says : (n : WrittenSpan) (keyed : Bool) (item : Option WrittenItem) (t : Token) (word : Word) → t.word ≡ word
    → Says (said (TagValue n keyed item)) t (value_step n keyed item (value_of word))
unfolding value_of
value_says n keyed item t (w.Reserved r.Int) e = (Any (w.Reserved r.Int), e, tt, refl)
value_says n keyed item t (w.Reserved r.None) e = (Any (w.Reserved r.None), e, tt, refl)
value_says n keyed item t _ e = tt

no_item_said : (n : WrittenSpan) (keyed : Bool) → said (TagItem n keyed) ≡ said (TagValue n keyed None)
no_item_said n keyed = ap (tag_begun n) (sym (append-nil (keyed_signs keyed)))

item_says : (n : WrittenSpan) (keyed : Bool) (t : Token) (word : Word) → t.word ≡ word → Says (said (TagItem n keyed)) t (item_step n keyed t word)
item_says n keyed t (w.Name contextual.Item) e = (At (w.Name contextual.Item) t.from, (e, refl), tt, refl)
item_says n keyed t word e = moved _ _ t (value_step n keyed None (value_of word)) (no_item_said n keyed) (value_says n keyed None t word e)

tag_by_says : (n : WrittenSpan) (keyed : Bool) (at : ℕ) (t : Token) (word : Word) → t.word ≡ word
    → Says (said (TagBy n keyed at)) t (tag_by_step n keyed at t word)
tag_by_says n keyed at t (w.Name contextual.By) e = (
  At (w.Name contextual.By) t.from,
  (e, refl),
  tt,
  ap (tag_begun n) (sym (append_assoc (keyed_signs keyed) (At (w.Name contextual.Item) at ∷ []) (At (w.Name contextual.By) t.from ∷ []))),
)
tag_by_says n keyed at t word e = value_says n keyed (Some (item_of at None)) t word e

tag_says : (n : WrittenSpan) (t : Token) (word : Word) → t.word ≡ word → Says (said (TagForm n)) t (tag_step n t word)
tag_says n t (w.Reserved r.Keyed) e = (Any (w.Reserved r.Keyed), e, tt, refl)
tag_says n t word e = item_says n false t word e

how_says : (a b : WrittenSpan) (t : Token) (word : Word) → t.word ≡ word → Says (said (DependsHow a b)) t (how_step a b t word)
how_says a b t (w.Reserved r.Same) e = (At (w.Reserved r.Same) t.from, (e, refl), tt, refl)
how_says a b t (w.Reserved r.All) e = (Any (w.Reserved r.All), e, tt, refl)
how_says a b t _ e = tt

-- ---- sources

no_slack_said : (n file : WrittenSpan) (rate : Option WrittenNumber)
    → said (TagKind (source_of n file rate None)) ≡ said (SourceSlack n file rate) ++ Any (w.Mark m.Colon) ∷ []
no_slack_said n file rate =
    append-nil (source_head (source_of n file rate None))
    ∙ ap (λ (z : List Sign). source_begun n file (z ++ Any (w.Mark m.Colon) ∷ [])) (append-nil (rate_signs rate))

slack_says : (n file : WrittenSpan) (rate : Option WrittenNumber) (t : Token) (word : Word) → t.word ≡ word
    → Says (said (SourceSlack n file rate)) t (slack_step n file rate word)
slack_says n file rate t (w.Reserved r.Slack) e = (Any (w.Reserved r.Slack), e, tt, refl)
slack_says n file rate t word e =
    colon_says (said (SourceSlack n file rate)) t word (TagKind (source_of n file rate None)) e tt (no_slack_said n file rate)

rate_says : (n file : WrittenSpan) (t : Token) (word : Word) → t.word ≡ word → Says (said (SourceRate n file)) t (rate_step n file word)
rate_says n file t (w.Reserved r.Rate) e = (Any (w.Reserved r.Rate), e, tt, refl)
rate_says n file t word e = slack_says n file None t word e

clock_rate_says : (at : ℕ) (n : WrittenSpan) (every : WrittenNumber) (t : Token) (word : Word) → t.word ≡ word
    → Says (said (ClockRate at n every)) t (clock_rate_step at n every word)
clock_rate_says at n every t (w.Reserved r.Rate) e = (Any (w.Reserved r.Rate), e, tt, refl)
clock_rate_says at n every t word e = colon_says (said (ClockRate at n every)) t word (ClockTag at n every None) e tt refl

after_first : {X : Type 0} (mark : Word) (item : X → List Sign) (xs : List X) (x : X)
    → flat_map (λ y. Any mark ∷ item y) (xs ++ x ∷ []) ≡ Any mark ∷ (mark_ended mark item xs ++ item x)
after_first mark item [] x = ap (λ (z : List Sign). Any mark ∷ z) (append-nil (item x))
after_first mark item (y ∷ xs) x =
    ap (λ (z : List Sign). Any mark ∷ (item y ++ z)) (after_first mark item xs x)
    ∙ ap (λ (z : List Sign). Any mark ∷ z) (sym (append_assoc (item y) (Any mark ∷ []) (mark_ended mark item xs ++ item x))
    ∙ sym (append_assoc (item y ++ Any mark ∷ []) (mark_ended mark item xs) (item x)))

-- items with a mark behind each, and one more item
separated_more : {X : Type 0} (mark : Word) (item : X → List Sign) (xs : List X) (x : X)
    → separated mark item (xs ++ x ∷ []) ≡ mark_ended mark item xs ++ item x
separated_more mark item [] x = append-nil (item x)
separated_more mark item (y ∷ xs) x =
    ap (λ (z : List Sign). item y ++ z) (after_first mark item xs x) ∙ sym (append_assoc (item y) (Any mark ∷ []) (mark_ended mark item xs ++ item x))
    ∙ sym (append_assoc (item y ++ Any mark ∷ []) (mark_ended mark item xs) (item x))

first_marked : {X : Type 0} (mark : Word) (item : X → List Sign) (xs : List X) (x : X)
    → (item x ++ Any mark ∷ []) ++ mark_ended mark item xs ≡ (item x ++ flat_map (λ y. Any mark ∷ item y) xs) ++ Any mark ∷ []
first_marked mark item [] x = append-nil (item x ++ Any mark ∷ []) ∙ ap (λ (z : List Sign). z ++ Any mark ∷ []) (sym (append-nil (item x)))
first_marked mark item (y ∷ xs) x =
    append_assoc (item x) (Any mark ∷ []) (mark_ended mark item (y ∷ xs)) ∙ ap (λ (z : List Sign). item x ++ (Any mark ∷ z)) (first_marked mark item xs y)
    ∙ sym (append_assoc (item x) (Any mark ∷ (item y ++ flat_map (λ y. Any mark ∷ item y) xs)) (Any mark ∷ []))

-- a mark behind items that are some
mark_more : {X : Type 0} (mark : Word) (item : X → List Sign) (xs : List X) → xs ≢ [] → mark_ended mark item xs ≡ separated mark item xs ++ Any mark ∷ []
mark_more mark item [] some = absurd (some refl)
mark_more mark item (x ∷ xs) some = first_marked mark item xs x

marked_last : {X : Type 0} (mark : Word) (item : X → List Sign) (xs : List X) (x : X)
    → mark_ended mark item (xs ++ x ∷ []) ≡ mark_ended mark item xs ++ (item x ++ Any mark ∷ [])
marked_last mark item xs x =
    flat_map-append (λ y. item y ++ Any mark ∷ []) xs (x ∷ []) ∙ ap (λ (z : List Sign). mark_ended mark item xs ++ z) (append-nil (item x ++ Any mark ∷ []))

-- a text is said
text_said : (so_far : Listing) (span : WrittenSpan) → said (NamesEnd (texted so_far span)) ≡ said_texts so_far ++ text span
text_said so_far span =
    ap (λ (z : List Sign). listing_head so_far ++ z) (separated_more (w.Mark m.Comma) text so_far.texts span)
    ∙ sym (append_assoc (listing_head so_far) (mark_ended (w.Mark m.Comma) text so_far.texts) (text span))

texts_says : (so_far : Listing) (t : Token) (word : Word) → t.word ≡ word → so_far.texts ≢ [] → Says (said (NamesEnd so_far)) t (texts_step so_far word)
texts_says so_far t (w.Mark m.Comma) e some = (
  Any (w.Mark m.Comma),
  e,
  tt,
  ap (λ (z : List Sign). listing_head so_far ++ z) (mark_more (w.Mark m.Comma) text so_far.texts some)
      ∙ sym (append_assoc (listing_head so_far) (separated (w.Mark m.Comma) text so_far.texts) (Any (w.Mark m.Comma) ∷ [])),
)
texts_says so_far t _ e some = tt

-- a tag is said
tag_said : (so_far : Tags) (tag : WrittenTag) → said (TagEnd (listed so_far tag)) ≡ said_tags so_far ++ tag_signs tag
tag_said so_far tag =
    ap (λ (z : List Sign). source_head so_far ++ z) (separated_more (w.Mark m.Comma) tag_signs so_far.all tag)
    ∙ sym (append_assoc (source_head so_far) (mark_ended (w.Mark m.Comma) tag_signs so_far.all) (tag_signs tag))

tags_says : (so_far : Tags) (t : Token) (word : Word) → t.word ≡ word → so_far.all ≢ [] → Says (said (TagEnd so_far)) t (tags_step so_far word)
tags_says so_far t (w.Mark m.Comma) e some = (
  Any (w.Mark m.Comma),
  e,
  tt,
  ap (λ (z : List Sign). source_head so_far ++ z) (mark_more (w.Mark m.Comma) tag_signs so_far.all some)
      ∙ sym (append_assoc (source_head so_far) (separated (w.Mark m.Comma) tag_signs so_far.all) (Any (w.Mark m.Comma) ∷ [])),
)
tags_says so_far t _ e some = tt

tag_keys_says : (so_far : Tags) (kind : WrittenSpan) (t : Token) (word : Word) → t.word ≡ word
    → Says (said (TagKeys so_far kind)) t (tag_keys_step so_far kind word)
tag_keys_says so_far kind t (w.Mark m.OpenBracket) e =
    (Any (w.Mark m.OpenBracket), e, tt, sym (append_assoc (said_tags so_far) (name kind) (Any (w.Mark m.OpenBracket) ∷ [])))
tag_keys_says so_far kind t word e =
    moved _ _ t (tags_step (listed so_far (tag_of kind keys.Alone)) word) (sym (tag_said so_far (tag_of kind keys.Alone)))
    (tags_says (listed so_far (tag_of kind keys.Alone)) t word e (push_some so_far.all (tag_of kind keys.Alone)))

range_says : (so_far : Tags) (kind : WrittenSpan) (low : WrittenNumber) (t : Token) (word : Word) → t.word ≡ word
    → Says (said (TagMore so_far kind low)) t (range_step so_far kind low word)
range_says so_far kind low t (w.Mark m.Dots) e =
    (Any (w.Mark m.Dots), e, tt, sym (append_assoc (said_tags so_far) (name kind ++ keys_open (keys.One low)) (Any (w.Mark m.Dots) ∷ [])))
range_says so_far kind low t word e =
    bracket_says (said (TagMore so_far kind low)) t word (TagEnd (listed so_far (tag_of kind (keys.One low)))) e
    (push_some so_far.all (tag_of kind (keys.One low)))
    (tag_said so_far (tag_of kind (keys.One low))
    ∙ sym (append_assoc (said_tags so_far) (name kind ++ keys_open (keys.One low)) (Any (w.Mark m.CloseBracket) ∷ [])))

close_says : (so_far : Tags) (kind : WrittenSpan) (ks : WrittenKeys) (t : Token) → Sound (TagClose so_far kind ks)
    → Says (said (TagClose so_far kind ks)) t (on_bracket t.word (TagEnd (listed so_far (tag_of kind ks))))
close_says so_far kind keys.Alone t sound = absurd sound
close_says so_far kind (keys.One n) t sound =
    bracket_says (said (TagClose so_far kind (keys.One n))) t t.word (TagEnd (listed so_far (tag_of kind (keys.One n)))) refl
    (push_some so_far.all (tag_of kind (keys.One n)))
    (tag_said so_far (tag_of kind (keys.One n))
    ∙ sym (append_assoc (said_tags so_far) (name kind ++ keys_open (keys.One n)) (Any (w.Mark m.CloseBracket) ∷ [])))
close_says so_far kind (keys.Range low high) t sound =
    bracket_says (said (TagClose so_far kind (keys.Range low high))) t t.word (TagEnd (listed so_far (tag_of kind (keys.Range low high)))) refl
    (push_some so_far.all (tag_of kind (keys.Range low high)))
    (tag_said so_far (tag_of kind (keys.Range low high))
    ∙ sym (append_assoc (said_tags so_far) (name kind ++ keys_open (keys.Range low high)) (Any (w.Mark m.CloseBracket) ∷ [])))

-- ---- actions

action_said : (so_far : Actions) (at : ℕ) (deed : Deed) (guard : Option Tree)
    → said (ActionStart (acted so_far at deed guard)) ≡ (said_actions so_far ++ (deed_signs at deed ++ guard_signs guard)) ++ Any (w.Mark m.Semicolon) ∷ []
action_said so_far at deed guard =
    let a : Action = record { at = at; deed = deed; guard = guard } in
    let marked = mark_ended (w.Mark m.Semicolon) action_signs so_far.all in
    ap (λ (z : List Sign). on_head so_far.kind ++ z) (marked_last (w.Mark m.Semicolon) action_signs so_far.all a)
    ∙ sym (append_assoc (on_head so_far.kind) marked (action_signs a ++ Any (w.Mark m.Semicolon) ∷ []))
    ∙ sym (append_assoc (on_head so_far.kind ++ marked) (action_signs a) (Any (w.Mark m.Semicolon) ∷ []))

action_says : (so_far : Actions) (at : ℕ) (deed : Deed) (guard : Option Tree) (t : Token) (word : Word) → t.word ≡ word
    → Says (said_actions so_far ++ (deed_signs at deed ++ guard_signs guard)) t (action_step (acted so_far at deed guard) word)
unfolding action_step
action_says so_far at deed guard t (w.Mark m.Semicolon) e = (Any (w.Mark m.Semicolon), e, tt, action_said so_far at deed guard)
action_says so_far at deed guard t _ e = tt

deed_says : (so_far : Actions) (at : ℕ) (deed : Deed) (t : Token) (word : Word) → t.word ≡ word
    → Says (said (DeedEnd so_far at deed)) t (deed_step so_far at deed word)
unfolding deed_step
deed_says so_far at deed t (w.Reserved r.When) e =
    (Any (w.Reserved r.When), e, tt, sym (append_assoc (said_actions so_far) (deed_signs at deed) (Any (w.Reserved r.When) ∷ [])))
deed_says so_far at deed t word e =
    moved _ _ t (action_step (acted so_far at deed None) word) (ap (λ (z : List Sign). said_actions so_far ++ z) (sym (append-nil (deed_signs at deed))))
    (action_says so_far at deed None t word e)

act_says : (so_far : Actions) (t : Token) (word : Word) → t.word ≡ word → Says (said_actions so_far) t (act_step so_far t.from (doing_of word))
unfolding doing_of
act_says so_far t (w.Reserved r.Add) e = (At (w.Reserved r.Add) t.from, (e, refl), tt, refl)
act_says so_far t (w.Reserved r.Raise) e = (At (w.Reserved r.Raise) t.from, (e, refl), tt, refl)
act_says so_far t (w.Reserved r.Set) e = (At (w.Reserved r.Set) t.from, (e, refl), tt, refl)
act_says so_far t (w.Reserved r.Clear) e = (At (w.Reserved r.Clear) t.from, (e, refl), tt, refl)
act_says so_far t (w.Reserved r.Emit) e = (At (w.Reserved r.Emit) t.from, (e, refl), tt, refl)
act_says so_far t (w.Reserved r.Flush) e = (At (w.Reserved r.Flush) t.from, (e, refl), tt, refl)
act_says so_far t _ e = tt

-- ---- expressions

operator_says : (word : Word) → IfSome (operator_of word) (λ o. op_word o ≡ word)
unfolding operator_of
operator_says (w.Mark m.Plus) = refl
operator_says (w.Mark m.Minus) = refl
operator_says (w.Mark m.Times) = refl
operator_says (w.Mark m.Divide) = refl
operator_says (w.Mark m.Remainder) = refl
operator_says (w.Mark m.Less) = refl
operator_says (w.Mark m.LessEq) = refl
operator_says (w.Mark m.More) = refl
operator_says (w.Mark m.MoreEq) = refl
operator_says (w.Mark m.Same) = refl
operator_says (w.Mark m.Differs) = refl
operator_says (w.Reserved r.Or) = refl
operator_says (w.Reserved r.And) = refl
operator_says _ = tt

close_is : (word : Word) → is_close word ≡ true → w.Mark m.CloseParen ≡ word
close_is (w.Mark m.CloseParen) e = refl
close_is _ e = cc

deeper_says : (before : List Sign) (t : Token) (now : Now) (b : Bool) → Says before t (Goes now) → Says before t (cond b (Goes now) Deep)
deeper_says before t now true h = h
deeper_says before t now false h = tt

guarded_says : (before : List Sign) (t : Token) (next : Next) (b : Bool) → Says before t next → Says before t (cond b next Refused)
guarded_says before t next true h = h
guarded_says before t next false h = tt

begin_says : (context : Context) (level : ℕ) (frames : List Frame) (t : Token) (word : Word) → t.word ≡ word
    → Says (said_frames context frames) t (begin context level frames t (start_of word))
unfolding start_of
begin_says context level frames t (w.Number n) e = (At (w.Number n) t.from, (e, refl), tt, refl)
begin_says context level frames t (w.Name c) e = (Named (span_of t), (rw e refl, refl, refl), tt, refl)
begin_says context level frames t (w.Reserved r.Value) e = (At (w.Reserved r.Value) t.from, (e, refl), tt, refl)
begin_says context level frames t (w.Reserved r.Key) e = (At (w.Reserved r.Key) t.from, (e, refl), tt, refl)
begin_says context level frames t (w.Reserved r.Time) e = (At (w.Reserved r.Time) t.from, (e, refl), tt, refl)
begin_says context level frames t (w.Reserved r.Has) e = (At (w.Reserved r.Has) t.from, (e, refl), tt, refl)
begin_says context level frames t (w.Reserved r.Not) e =
    guarded_says (said_frames context frames) t _ (leb level 2)
    (deeper_says (said_frames context frames) t (InExpression context (Want 2) (NotFrame level t.from ∷ frames)) (ltb (opens frames) 64)
    (At (w.Reserved r.Not) t.from, (e, refl), tt, refl))
begin_says context level frames t (w.Mark m.Minus) e =
    deeper_says (said_frames context frames) t (InExpression context (Want 6) (NegFrame level t.from ∷ frames)) (ltb (opens frames) 64)
    (At (w.Mark m.Minus) t.from, (e, refl), tt, refl)
begin_says context level frames t (w.Mark m.OpenParen) e =
    deeper_says (said_frames context frames) t (InExpression context (Want 0) (ParenFrame level t.from ∷ frames)) (ltb (opens frames) 64)
    (At (w.Mark m.OpenParen) t.from, (e, refl), tt, refl)
begin_says context level frames t _ e = tt

within_says : (context : Context) (low : ℕ) (tree : Tree) (frames : List Frame) (t : Token) (o : Op) (others : Next) (b : Bool) → t.word ≡ op_word o
    → Says (said_frames context frames ++ spelled tree) t others
    → Says (said_frames context frames ++ spelled tree) t
    (cond b (Goes (InExpression context (Want (op_level o + 1)) (RightFrame low o t.from tree ∷ frames))) others)
within_says context low tree frames t o others true e h =
    (At (op_word o) t.from, (e, refl), tt, sym (append_assoc (said_frames context frames) (spelled tree) (At (op_word o) t.from ∷ [])))
within_says context low tree frames t o others false e h = h

take_says : (context : Context) (low high : ℕ) (tree : Tree) (frames : List Frame) (t : Token) (o : Option Op) (others : Next)
    → IfSome o (λ o. op_word o ≡ t.word) → Says (said_frames context frames ++ spelled tree) t others
    → Says (said_frames context frames ++ spelled tree) t (take_or context low high tree frames t.from o others)
take_says context low high tree frames t None others i h = h
take_says context low high tree frames t (Some o) others i h = within_says context low tree frames t o others (is_within low (op_level o) high) (sym i) h

paren_says : (context : Context) (level at : ℕ) (tree : Tree) (frames : List Frame) (t : Token) (b : Bool) → (b ≡ true → w.Mark m.CloseParen ≡ t.word)
    → Says ((said_frames context frames ++ At (w.Mark m.OpenParen) at ∷ []) ++ spelled tree) t (cond b (atom context level frames (ParenTree at tree)) Refused)
paren_says context level at tree frames t false e = tt
paren_says context level at tree frames t true e = (
  Any (w.Mark m.CloseParen),
  sym (e refl),
  tt,
  sym (append_assoc (said_frames context frames ++ At (w.Mark m.OpenParen) at ∷ []) (spelled tree) (Any (w.Mark m.CloseParen) ∷ [])
      ∙ append_assoc (said_frames context frames) (At (w.Mark m.OpenParen) at ∷ []) (spelled tree ++ Any (w.Mark m.CloseParen) ∷ [])),
)

behind_says : (context : Context) (tree : Tree) (t : Token) → Says (said_context context ++ spelled tree) t (behind_step context tree t.word)
unfolding behind_step
behind_says (Amount so_far at v cell) tree t =
    moved _ _ t (deed_step so_far at (Writes v cell tree) t.word) (append_assoc (said_actions so_far) (At (verb_word v) at ∷ cell_signs cell) (spelled tree))
    (deed_says so_far at (Writes v cell tree) t t.word refl)
behind_says (Guard so_far at deed) tree t =
    moved _ _ t (action_step (acted so_far at deed (Some tree)) t.word)
    (append_assoc (said_actions so_far) (deed_signs at deed ++ Any (w.Reserved r.When) ∷ []) (spelled tree)
    ∙ ap (λ (z : List Sign). said_actions so_far ++ z) (append_assoc (deed_signs at deed) (Any (w.Reserved r.When) ∷ []) (spelled tree)))
    (action_says so_far at deed (Some tree) t t.word refl)

right_moves : (f l x : List Sign) (o : Sign) → (f ++ (l ++ o ∷ [])) ++ x ≡ f ++ (l ++ o ∷ x)
right_moves f l x o = append_assoc f (l ++ o ∷ []) x ∙ ap (λ (z : List Sign). f ++ z) (append_assoc l (o ∷ []) x)

done_says : (context : Context) (tree : Tree) (frames : List Frame) (t : Token)
    → Says (said_frames context frames ++ spelled tree) t (done_step context tree frames t)
unfolding done_step
done_says context tree [] t = behind_says context tree t
done_says context tree (NegFrame level at ∷ frames) t =
    moved _ _ t _ (append_assoc (said_frames context frames) (At (w.Mark m.Minus) at ∷ []) (spelled tree))
    (take_says context level 6 (NegTree at tree) frames t (operator_of t.word) (done_step context (NegTree at tree) frames t) (operator_says t.word)
    (done_says context (NegTree at tree) frames t))
done_says context tree (NotFrame level at ∷ frames) t =
    moved _ _ t _ (append_assoc (said_frames context frames) (At (w.Reserved r.Not) at ∷ []) (spelled tree))
    (take_says context level 2 (NotTree at tree) frames t (operator_of t.word) (done_step context (NotTree at tree) frames t) (operator_says t.word)
    (done_says context (NotTree at tree) frames t))
done_says context tree (ParenFrame level at ∷ frames) t = paren_says context level at tree frames t (is_close t.word) (close_is t.word)
done_says context tree (RightFrame level o at left ∷ frames) t =
    moved _ _ t _ (right_moves (said_frames context frames) (spelled left) (spelled tree) (At (op_word o) at))
    (take_says context level (level_behind (op_level o)) (TwoTree o at left tree) frames t (operator_of t.word)
    (done_step context (TwoTree o at left tree) frames t) (operator_says t.word) (done_says context (TwoTree o at left tree) frames t))

expression_says : (context : Context) (mode : Mode) (frames : List Frame) (t : Token)
    → Says (said (InExpression context mode frames)) t (expression_step context mode frames t)
unfolding expression_step
expression_says context (Want level) frames t = begin_says context level frames t t.word refl
expression_says context (Have low high tree) frames t =
    take_says context low high tree frames t (operator_of t.word) (done_step context tree frames t) (operator_says t.word)
    (done_says context tree frames t)
expression_says context (Done tree) frames t = done_says context tree frames t

-- ---- named cells

named_said : (aim : Aim) (cell : WrittenRef) → said (named aim cell) ≡ said_aim aim ++ cell_signs cell
named_said (ToWrite so_far at v) cell = sym (append_assoc (said_actions so_far) (At (verb_word v) at ∷ []) (cell_signs cell))
named_said (ToClear so_far at) cell = sym (append_assoc (said_actions so_far) (At (w.Reserved r.Clear) at ∷ []) (cell_signs cell))
named_said (ToRead context level frames) cell = refl
named_said (ToTest context level frames at) cell = sym (append_assoc (said_frames context frames) (At (w.Reserved r.Has) at ∷ []) (cell_signs cell))

named_sound : (aim : Aim) (cell : WrittenRef) → Sound (named aim cell)
named_sound (ToWrite so_far at v) cell = tt
named_sound (ToClear so_far at) cell = tt
named_sound (ToRead context level frames) cell = tt
named_sound (ToTest context level frames at) cell = tt

named_says : (aim : Aim) (cell : WrittenRef) (t : Token) → Says (said (named aim cell)) t (named_step aim cell t)
unfolding named_step
named_says (ToWrite so_far at v) cell t = expression_says (Amount so_far at v cell) (Want 0) [] t
named_says (ToClear so_far at) cell t = deed_says so_far at (Clears cell) t t.word refl
named_says (ToRead context level frames) cell t = expression_says context (Have level 6 (ReadTree cell)) frames t
named_says (ToTest context level frames at) cell t = expression_says context (Have level 6 (HasTree at cell)) frames t

keys_says : (aim : Aim) (family : WrittenSpan) (t : Token) (word : Word) → t.word ≡ word → Says (said (CellKeys aim family)) t (keys_step aim family t word)
keys_says aim family t (w.Mark m.OpenBracket) e =
    (Any (w.Mark m.OpenBracket), e, tt, sym (append_assoc (said_aim aim) (name family) (Any (w.Mark m.OpenBracket) ∷ [])))
keys_says aim family t _ e =
    moved _ _ t (named_step aim (cell_of family key.Alone) t) (sym (named_said aim (cell_of family key.Alone))) (named_says aim (cell_of family key.Alone) t)

key_says : (aim : Aim) (family : WrittenSpan) (t : Token) (word : Word) → t.word ≡ word → Says (said (CellKey aim family)) t (key_step aim family t word)
key_says aim family t (w.Reserved r.Key) e = (
  At (w.Reserved r.Key) t.from,
  (e, refl),
  (λ bad. cc),
  sym
      (append_assoc (said_aim aim) (name family ++ Any (w.Mark m.OpenBracket) ∷ []) (At (w.Reserved r.Key) t.from ∷ [])),
)
key_says aim family t (w.Name contextual.Item) e = (
  At (w.Name contextual.Item) t.from,
  (e, refl),
  (λ bad. cc),
  sym
      (append_assoc (said_aim aim) (name family ++ Any (w.Mark m.OpenBracket) ∷ []) (At (w.Name contextual.Item) t.from ∷ [])),
)
key_says aim family t (w.Number n) e = (
  At (w.Number n) t.from,
  (e, refl),
  (λ bad. cc),
  sym
      (append_assoc (said_aim aim) (name family ++ Any (w.Mark m.OpenBracket) ∷ []) (At (w.Number n) t.from ∷ [])),
)
key_says aim family t _ e = tt

key_closes : (k : WrittenKey) → k ≢ key.Alone → key_open k ++ Any (w.Mark m.CloseBracket) ∷ [] ≡ key_signs k
key_closes key.Alone ne = absurd (ne refl)
key_closes (key.OwnKey at) ne = refl
key_closes (key.OwnItem at) ne = refl
key_closes (key.Fixed n) ne = refl

cell_close_says : (aim : Aim) (cell : WrittenRef) (t : Token) → cell.key ≢ key.Alone → Says (said (CellClose aim cell)) t (on_bracket t.word (named aim cell))
cell_close_says aim cell t ne =
    bracket_says (said (CellClose aim cell)) t t.word (named aim cell) refl (named_sound aim cell)
    (named_said aim cell ∙ ap (λ (z : List Sign). said_aim aim ++ (name cell.family ++ z)) (sym (key_closes cell.key ne))
    ∙ sym (append_assoc (said_aim aim) (name cell.family ++ key_open cell.key) (Any (w.Mark m.CloseBracket) ∷ [])))

-- ---- any turn

pub step_says : (now : Now) (t : Token) → Sound now → Says (said now) t (step now t)
unfolding step
step_says Start t sound = tt
step_says (Declared d) t sound = tt
step_says CellName t sound = name_says (said CellName) t t.word (CellForm (span_of t)) refl tt refl
step_says (CellForm n) t sound = cell_says n t t.word refl
step_says (CellBy n) t sound = cell_by_says n t t.word refl
step_says (CellList n at) t sound = name_says (said (CellList n at)) t t.word (CellSort n (cells.By (by_of at (span_of t)))) refl tt refl
step_says (CellSort n cells) t sound = sort_says n cells t t.word refl
step_says TagName t sound = name_says (said TagName) t t.word (TagForm (span_of t)) refl tt refl
step_says (TagForm n) t sound = tag_says n t t.word refl
step_says (TagItem n keyed) t sound = item_says n keyed t t.word refl
step_says (TagBy n keyed at) t sound = tag_by_says n keyed at t t.word refl
step_says (TagList n keyed at by_at) t sound =
    name_says (said (TagList n keyed at by_at)) t t.word (TagValue n keyed (Some (item_of at (Some (by_of by_at (span_of t)))))) refl tt
    (ap (tag_begun n)
    (sym (append_assoc (keyed_signs keyed) (At (w.Name contextual.Item) at ∷ At (w.Name contextual.By) by_at ∷ []) (name (span_of t)))))
step_says (TagValue n keyed item) t sound = value_says n keyed item t t.word refl
step_says (NamesName at) t sound = name_says (said (NamesName at)) t t.word (NamesColon at (span_of t)) refl tt refl
step_says (NamesColon at n) t sound = colon_says (said (NamesColon at n)) t t.word (NamesText (listing_of at n)) refl tt refl
step_says (NamesText so_far) t sound =
    text_says (said (NamesText so_far)) t t.word (NamesEnd (texted so_far (span_of t))) refl (push_some so_far.texts (span_of t))
    (text_said so_far (span_of t))
step_says (NamesEnd so_far) t sound = texts_says so_far t t.word refl sound
step_says DependsFirst t sound = name_says (said DependsFirst) t t.word (DependsSecond (span_of t)) refl tt refl
step_says (DependsSecond a) t sound = name_says (said (DependsSecond a)) t t.word (DependsHow a (span_of t)) refl tt refl
step_says (DependsHow a b) t sound = how_says a b t t.word refl
step_says SourceName t sound = name_says (said SourceName) t t.word (SourceFile (span_of t)) refl tt refl
step_says (SourceFile n) t sound = text_says (said (SourceFile n)) t t.word (SourceRate n (span_of t)) refl tt refl
step_says (SourceRate n file) t sound = rate_says n file t t.word refl
step_says (RateNumber n file) t sound =
    number_says (said (RateNumber n file)) t t.word (λ rate. SourceSlack n file (Some rate)) refl (λ rate. tt) (λ rate. refl)
step_says (SourceSlack n file rate) t sound = slack_says n file rate t t.word refl
step_says (SlackNumber n file rate) t sound =
    number_says (said (SlackNumber n file rate)) t t.word (λ slack. SourceColon n file rate (Some slack)) refl (λ slack. tt)
    (λ slack. ap (source_begun n file) (sym (append_assoc (rate_signs rate) (Any (w.Reserved r.Slack) ∷ []) (number slack))))
step_says (SourceColon n file rate slack) t sound =
    colon_says (said (SourceColon n file rate slack)) t t.word (TagKind (source_of n file rate slack)) refl tt
    (append-nil (source_head (source_of n file rate slack)))
step_says (ClockName at) t sound = name_says (said (ClockName at)) t t.word (ClockEvery at (span_of t)) refl tt refl
step_says (ClockEvery at n) t sound = every_says (said (ClockEvery at n)) t t.word (ClockPeriod at n) refl tt refl
step_says (ClockPeriod at n) t sound =
    number_says (said (ClockPeriod at n)) t t.word (λ every. ClockRate at n every) refl (λ every. tt) (λ every. refl)
step_says (ClockRate at n every) t sound = clock_rate_says at n every t t.word refl
step_says (ClockRateNumber at n every) t sound =
    number_says (said (ClockRateNumber at n every)) t t.word (λ rate. ClockColon at n every (Some rate)) refl (λ rate. tt) (λ rate. refl)
step_says (ClockColon at n every rate) t sound =
    colon_says (said (ClockColon at n every rate)) t t.word (ClockTag at n every rate) refl tt refl
step_says (ClockTag at n every rate) t sound =
    name_says (said (ClockTag at n every rate)) t t.word (Declared (Clock at n every rate (span_of t))) refl tt
    (ap (clock_begun at n every) (sym (append_assoc (rate_signs rate) (Any (w.Mark m.Colon) ∷ []) (name (span_of t)))))
step_says (TagKind so_far) t sound = name_says (said (TagKind so_far)) t t.word (TagKeys so_far (span_of t)) refl tt refl
step_says (TagKeys so_far kind) t sound = tag_keys_says so_far kind t t.word refl
step_says (TagLow so_far kind) t sound =
    number_says (said (TagLow so_far kind)) t t.word (λ low. TagMore so_far kind low) refl (λ low. tt)
    (λ low. sym (append_assoc (said_tags so_far) (name kind ++ Any (w.Mark m.OpenBracket) ∷ []) (number low)))
step_says (TagMore so_far kind low) t sound = range_says so_far kind low t t.word refl
step_says (TagHigh so_far kind low) t sound =
    number_says (said (TagHigh so_far kind low)) t t.word (λ high. TagClose so_far kind (keys.Range low high)) refl (λ high. tt)
    (λ high. sym (append_assoc (said_tags so_far) (name kind ++ Any (w.Mark m.OpenBracket) ∷ (number low ++ Any (w.Mark m.Dots) ∷ [])) (number high)))
step_says (TagClose so_far kind ks) t sound = close_says so_far kind ks t sound
step_says (TagEnd so_far) t sound = tags_says so_far t t.word refl sound
step_says OnKind t sound = name_says (said OnKind) t t.word (OnColon (span_of t)) refl tt refl
step_says (OnColon kind) t sound = colon_says (said (OnColon kind)) t t.word (ActionStart (record { kind = kind; all = [] })) refl tt refl
step_says (ActionStart so_far) t sound = act_says so_far t t.word refl
step_says (DeedEnd so_far at deed) t sound = deed_says so_far at deed t t.word refl
step_says (ActionEnd so_far) t sound = absurd sound
step_says (EmitText so_far at) t sound =
    text_says (said (EmitText so_far at)) t t.word (DeedEnd so_far at (Emits (span_of t))) refl tt
    (sym (append_assoc (said_actions so_far) (At (w.Reserved r.Emit) at ∷ []) (text (span_of t))))
step_says (FlushFamily so_far at) t sound =
    name_says (said (FlushFamily so_far at)) t t.word (FlushText so_far at (span_of t)) refl tt
    (sym (append_assoc (said_actions so_far) (At (w.Reserved r.Flush) at ∷ []) (name (span_of t))))
step_says (FlushText so_far at family) t sound =
    text_says (said (FlushText so_far at family)) t t.word (DeedEnd so_far at (Flushes family (span_of t))) refl tt
    (sym (append_assoc (said_actions so_far) (At (w.Reserved r.Flush) at ∷ name family) (text (span_of t))))
step_says (CellFamily aim) t sound = name_says (said (CellFamily aim)) t t.word (CellKeys aim (span_of t)) refl tt refl
step_says (CellKeys aim family) t sound = keys_says aim family t t.word refl
step_says (CellKey aim family) t sound = key_says aim family t t.word refl
step_says (CellClose aim cell) t sound = cell_close_says aim cell t sound
step_says (InExpression context mode frames) t sound = expression_says context mode frames t

-- ---- the end of a declaration

-- what is whole is spelled by what was said
abbrev pub Spelt : List Sign → Option Declarations → Type 0
Spelt before o = IfSome o (λ one. declarations_signs one ≡ before)

action_spelt : (so_far : Actions) (at : ℕ) (deed : Deed) (guard : Option Tree)
    → declarations_signs (On so_far.kind (acted so_far at deed guard).all ∷ []) ≡ said_actions so_far ++ (deed_signs at deed ++ guard_signs guard)
action_spelt so_far at deed guard =
    let a : Action = record { at = at; deed = deed; guard = guard } in
    append-nil (on_head so_far.kind ++ separated (w.Mark m.Semicolon) action_signs (so_far.all ++ a ∷ []))
    ∙ ap (λ (z : List Sign). on_head so_far.kind ++ z) (separated_more (w.Mark m.Semicolon) action_signs so_far.all a)
    ∙ sym (append_assoc (on_head so_far.kind) (mark_ended (w.Mark m.Semicolon) action_signs so_far.all) (action_signs a))

plain_spelt : (so_far : Actions) (at : ℕ) (deed : Deed)
    → declarations_signs (On so_far.kind (acted so_far at deed None).all ∷ []) ≡ said_actions so_far ++ deed_signs at deed
plain_spelt so_far at deed = action_spelt so_far at deed None ∙ ap (λ (z : List Sign). said_actions so_far ++ z) (append-nil (deed_signs at deed))

behind_spelt : (context : Context) (tree : Tree) → Spelt (said_context context ++ spelled tree) (behind_whole context tree)
behind_spelt (Amount so_far at v cell) tree =
    plain_spelt so_far at (Writes v cell tree) ∙ sym (append_assoc (said_actions so_far) (At (verb_word v) at ∷ cell_signs cell) (spelled tree))
behind_spelt (Guard so_far at deed) tree =
    action_spelt so_far at deed (Some tree)
    ∙ sym (append_assoc (said_actions so_far) (deed_signs at deed ++ Any (w.Reserved r.When) ∷ []) (spelled tree)
    ∙ ap (λ (z : List Sign). said_actions so_far ++ z) (append_assoc (deed_signs at deed) (Any (w.Reserved r.When) ∷ []) (spelled tree)))

spelt_moved : (a b : List Sign) (o : Option Declarations) → a ≡ b → Spelt b o → Spelt a o
spelt_moved a b o e h = rw e h

done_spelt : (context : Context) (tree : Tree) (frames : List Frame) → Spelt (said_frames context frames ++ spelled tree) (done_whole context tree frames)
unfolding done_whole
done_spelt context tree [] = behind_spelt context tree
done_spelt context tree (NegFrame level at ∷ frames) =
    spelt_moved _ _ (done_whole context (NegTree at tree) frames) (append_assoc (said_frames context frames) (At (w.Mark m.Minus) at ∷ []) (spelled tree))
    (done_spelt context (NegTree at tree) frames)
done_spelt context tree (NotFrame level at ∷ frames) =
    spelt_moved _ _ (done_whole context (NotTree at tree) frames) (append_assoc (said_frames context frames) (At (w.Reserved r.Not) at ∷ []) (spelled tree))
    (done_spelt context (NotTree at tree) frames)
done_spelt context tree (ParenFrame level at ∷ frames) = tt
done_spelt context tree (RightFrame level o at left ∷ frames) =
    spelt_moved _ _ (done_whole context (TwoTree o at left tree) frames)
    (right_moves (said_frames context frames) (spelled left) (spelled tree) (At (op_word o) at)) (done_spelt context (TwoTree o at left tree) frames)

keys_spelt : (aim : Aim) (family : WrittenSpan) → Spelt (said (CellKeys aim family)) (named_whole aim (cell_of family key.Alone))
keys_spelt (ToWrite so_far at v) family = tt
keys_spelt (ToClear so_far at) family =
    plain_spelt so_far at (Clears (cell_of family key.Alone)) ∙ sym (append_assoc (said_actions so_far) (At (w.Reserved r.Clear) at ∷ []) (name family))
keys_spelt (ToRead context level frames) family = done_spelt context (ReadTree (cell_of family key.Alone)) frames
keys_spelt (ToTest context level frames at) family =
    spelt_moved _ _ (done_whole context (HasTree at (cell_of family key.Alone)) frames)
    (append_assoc (said_frames context frames) (At (w.Reserved r.Has) at ∷ []) (name family))
    (done_spelt context (HasTree at (cell_of family key.Alone)) frames)

tags_spelt : (so_far : Tags) → declarations_signs (source_line so_far) ≡ said (TagEnd so_far)
tags_spelt so_far =
    let extras = rate_signs so_far.rate ++ slack_signs so_far.slack in
    let colon : List Sign = Any (w.Mark m.Colon) ∷ [] in
    let tags = separated (w.Mark m.Comma) tag_signs so_far.all in
    append-nil (declaration_signs (Source so_far.name so_far.file so_far.rate so_far.slack so_far.all))
    ∙ ap (source_begun so_far.name so_far.file) (sym (append_assoc extras colon tags))

pub whole_spelt : (now : Now) → Sound now → Spelt (said now) (whole now)
unfolding whole
whole_spelt Start sound = refl
whole_spelt (Declared d) sound = append-nil (declaration_signs d)
whole_spelt (NamesEnd so_far) sound = append-nil (declaration_signs (Names so_far.at so_far.name so_far.texts))
whole_spelt (DependsHow a b) sound = refl
whole_spelt (TagKeys so_far kind) sound = tags_spelt (listed so_far (tag_of kind keys.Alone)) ∙ tag_said so_far (tag_of kind keys.Alone)
whole_spelt (TagEnd so_far) sound = tags_spelt so_far
whole_spelt (DeedEnd so_far at deed) sound = plain_spelt so_far at deed
whole_spelt (ActionEnd so_far) sound = absurd sound
whole_spelt (CellKeys aim family) sound = keys_spelt aim family
whole_spelt (InExpression context (Want level) frames) sound = tt
whole_spelt (InExpression context (Have low high t) frames) sound = done_spelt context t frames
whole_spelt (InExpression context (Done t) frames) sound = done_spelt context t frames
whole_spelt CellName sound = tt
whole_spelt (CellForm n) sound = tt
whole_spelt (CellBy n) sound = tt
whole_spelt (CellList n at) sound = tt
whole_spelt (CellSort n cells) sound = tt
whole_spelt TagName sound = tt
whole_spelt (TagForm n) sound = tt
whole_spelt (TagItem n keyed) sound = tt
whole_spelt (TagBy n keyed at) sound = tt
whole_spelt (TagList n keyed at by_at) sound = tt
whole_spelt (TagValue n keyed item) sound = tt
whole_spelt (NamesName at) sound = tt
whole_spelt (NamesColon at n) sound = tt
whole_spelt (NamesText so_far) sound = tt
whole_spelt DependsFirst sound = tt
whole_spelt (DependsSecond a) sound = tt
whole_spelt SourceName sound = tt
whole_spelt (SourceFile n) sound = tt
whole_spelt (SourceRate n file) sound = tt
whole_spelt (RateNumber n file) sound = tt
whole_spelt (SourceSlack n file rate) sound = tt
whole_spelt (SlackNumber n file rate) sound = tt
whole_spelt (SourceColon n file rate slack) sound = tt
whole_spelt (ClockName at) sound = tt
whole_spelt (ClockEvery at n) sound = tt
whole_spelt (ClockPeriod at n) sound = tt
whole_spelt (ClockRate at n every) sound = tt
whole_spelt (ClockRateNumber at n every) sound = tt
whole_spelt (ClockColon at n every rate) sound = tt
whole_spelt (ClockTag at n every rate) sound = tt
whole_spelt (TagKind so_far) sound = tt
whole_spelt (TagLow so_far kind) sound = tt
whole_spelt (TagMore so_far kind low) sound = tt
whole_spelt (TagHigh so_far kind low) sound = tt
whole_spelt (TagClose so_far kind ks) sound = tt
whole_spelt OnKind sound = tt
whole_spelt (OnColon kind) sound = tt
whole_spelt (ActionStart so_far) sound = tt
whole_spelt (EmitText so_far at) sound = tt
whole_spelt (FlushFamily so_far at) sound = tt
whole_spelt (FlushText so_far at family) sound = tt
whole_spelt (CellFamily aim) sound = tt
whole_spelt (CellKey aim family) sound = tt
whole_spelt (CellClose aim cell) sound = tt

-- ---- to the end

-- the first word of a declaration
pub heading_says : (t : Token) (word : Word) → t.word ≡ word
    → IfSome (opening t.from (heading_of word)) (λ now. (s : Sign) × IsSign s t × Sound now × (said now ≡ s ∷ []))
unfolding heading_of
heading_says t (w.Reserved r.Cell) e = (Any (w.Reserved r.Cell), e, tt, refl)
heading_says t (w.Reserved r.Tag) e = (Any (w.Reserved r.Tag), e, tt, refl)
heading_says t (w.Name contextual.Names) e = (At (w.Name contextual.Names) t.from, (e, refl), tt, refl)
heading_says t (w.Reserved r.Depends) e = (Any (w.Reserved r.Depends), e, tt, refl)
heading_says t (w.Reserved r.On) e = (Any (w.Reserved r.On), e, tt, refl)
heading_says t (w.Reserved r.Source) e = (Any (w.Reserved r.Source), e, tt, refl)
heading_says t (w.Name contextual.Clock) e = (At (w.Name contextual.Clock) t.from, (e, refl), tt, refl)
heading_says t _ e = tt

-- signs that the tokens are, behind those said before, spell the job
pub record Spells (before : List Sign) (tokens : List Token) (found : Declarations) : Type 0 where
  pub signs : List Sign
  pub are : AreSigns signs tokens
  pub spell : declarations_signs found ≡ before ++ signs

longer : (before : List Sign) (s : Sign) (t : Token) (tokens : List Token) (found : Declarations) → IsSign s t → Spells (before ++ s ∷ []) tokens found
    → Spells before (t ∷ tokens) found
longer before s t tokens found is h = record { signs = s ∷ h.signs; are = (is, h.are); spell = h.spell ∙ append_assoc before (s ∷ []) h.signs }

spells_from : (a b : List Sign) (tokens : List Token) (found : Declarations) → a ≡ b → Spells b tokens found → Spells a tokens found
spells_from a b tokens found e h = rw e h

declarations_more : (job one : Declarations) → declarations_signs (job ++ one) ≡ declarations_signs job ++ declarations_signs one
declarations_more job one = flat_map-append declaration_signs job one

-- one more sign of a declaration, and the first one of the next
pub spells_more : (job : Declarations) (before : List Sign) (next : Now) (s : Sign) (t : Token) (tokens : List Token) (found : Declarations) → IsSign s t
    → said next ≡ before ++ s ∷ [] → Spells (declarations_signs job ++ said next) tokens found
    → Spells (declarations_signs job ++ before) (t ∷ tokens) found
spells_more job before next s t tokens found is e h =
    longer (declarations_signs job ++ before) s t tokens found is
    (spells_from _ _ tokens found (append_assoc (declarations_signs job) before (s ∷ []) ∙ ap (λ (z : List Sign). declarations_signs job ++ z) (sym e)) h)

pub spells_declared : (job one : Declarations) (before : List Sign) (now : Now) (s : Sign) (t : Token) (tokens : List Token) (found : Declarations)
    → IsSign s t → declarations_signs one ≡ before → said now ≡ s ∷ [] → Spells (declarations_signs (job ++ one) ++ said now) tokens found
    → Spells (declarations_signs job ++ before) (t ∷ tokens) found
spells_declared job one before now s t tokens found is e first h =
    longer (declarations_signs job ++ before) s t tokens found is
    (spells_from _ _ tokens found
    (sym (ap (λ (z : List Sign). z ++ said now) (declarations_more job one ∙ ap (λ (z : List Sign). declarations_signs job ++ z) e)
    ∙ ap (λ (z : List Sign). (declarations_signs job ++ before) ++ z) first))
    h)

end_says : (end : ℕ) (job found : Declarations) (before : List Sign) (o : Option Declarations) → Spelt before o → ended end job o ≡ Found found
    → Spells (declarations_signs job ++ before) [] found
end_says end job found before None h e = cc
end_says end job found before (Some one) h e =
    let same : job ++ one ≡ found = cc in
    record {
      signs = [];
      are = tt;
      spell = ap declarations_signs (sym same) ∙ declarations_more job one
          ∙ ap (λ (z : List Sign). declarations_signs job ++ z) h ∙ sym (append-nil (declarations_signs job ++ before));
    }

declares_says : (place : ℕ) (job found : Declarations) (before : List Sign) (t : Token) (tokens : List Token) (o : Option Declarations) (p : Option Now)
    (more : Declarations → Now → Verdict Declarations) → Spelt before o
    → IfSome p (λ now. (s : Sign) × IsSign s t × Sound now × (said now ≡ s ∷ []))
    → ((next : Declarations) (now : Now) → Sound now → more next now ≡ Found found → Spells (declarations_signs next ++ said now) tokens found)
    → next_declaration place job o p more ≡ Found found → Spells (declarations_signs job ++ before) (t ∷ tokens) found
declares_says place job found before t tokens None p more h k ih e = cc
declares_says place job found before t tokens (Some one) None more h k ih e = cc
declares_says place job found before t tokens (Some one) (Some now) more h k ih e =
    spells_declared job one before now k.0 t tokens found k.1 h k.3 (ih (job ++ one) now k.2 e)

goes_says : (end : ℕ) (job found : Declarations) (now : Now) (t : Token) (tokens : List Token) (next : Next) → Sound now → Says (said now) t next
    → ((job : Declarations) (now : Now) → Sound now → run end job now tokens ≡ Found found → Spells (declarations_signs job ++ said now) tokens found)
    → goes_on t job now next (λ job now. run end job now tokens) ≡ Found found → Spells (declarations_signs job ++ said now) (t ∷ tokens) found
goes_says end job found now t tokens (Goes next) sound h ih e =
    spells_more job (said now) next h.0 t tokens found h.1 h.3 (ih job next h.2 e)
goes_says end job found now t tokens Deep sound h ih e = cc
goes_says end job found now t tokens Refused sound h ih e =
    declares_says t.from job found (said now) t tokens (whole now) (opening t.from (heading_of t.word)) (λ job now. run end job now tokens)
    (whole_spelt now sound) (heading_says t t.word refl) ih e

pub run_says : (end : ℕ) (found : Declarations) (tokens : List Token) (job : Declarations) (now : Now) → Sound now → run end job now tokens ≡ Found found
    → Spells (declarations_signs job ++ said now) tokens found
unfolding run
run_says end found [] job now sound e = end_says end job found (said now) (whole now) (whole_spelt now sound) e
run_says end found (t ∷ tokens) job now sound e = goes_says end job found now t tokens (step now t) sound (step_says now t sound) (run_says end found tokens) e

pub declarations_are_spelled : (end : ℕ) (tokens : List Token) (ds : Declarations) → run end [] Start tokens ≡ Found ds
    → AreSigns (declarations_signs ds) tokens
declarations_are_spelled end tokens ds e =
    let h = run_says end ds tokens [] Start tt e in
    subst (λ (z : List Sign). AreSigns z tokens) (sym h.spell) h.are
