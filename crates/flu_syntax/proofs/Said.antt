-- What a turn has said: the signs of the tokens that led to it.
use Rattle.std.proofs.Common.{◌≡◌, ◌≢◌, ℕ, ◌+◌, List, [], ◌∷◌}
use Rattle.std.proofs.Common.{◌++◌, Some, None}
use Rattle.std.specs.List.{flat_map}
use Rattle.flu_text.specs.declared.words.Token.{Token}
use Rattle.flu_text.specs.declared.words.Word.{Word}
use Rattle.flu_text.specs.declared.words.Word.TheVariants as w
use Rattle.flu_text.specs.declared.words.Contextual.TheVariants as contextual
use Rattle.flu_names.specs.declared.reserved.Reserved.TheVariants as r
use Rattle.flu_text.specs.declared.words.Mark.TheVariants as m
use Rattle.flu_text.specs.declared.written.WrittenSpan.{WrittenSpan}
use Rattle.flu_text.specs.declared.written.WrittenNumber.{WrittenNumber}
use Rattle.flu_syntax.specs.declared.tree.WrittenKey.{WrittenKey}
use Rattle.flu_syntax.specs.declared.tree.WrittenKey.TheVariants as key
use Rattle.flu_text.specs.declared.written.WrittenKeys.{WrittenKeys}
use Rattle.flu_text.specs.declared.written.WrittenKeys.TheVariants as keys
use Rattle.flu_syntax.specs.declared.tree.WrittenCells.TheVariants as cells
use Rattle.flu_syntax.specs.Tree.{Names, On, Source, Clock}
use Rattle.flu_syntax.specs.Machine.{Actions, Tags, Context, Amount, Guard, Frame, NegFrame, NotFrame, ParenFrame, RightFrame, Want}
use Rattle.flu_syntax.specs.Machine.{Have, Done, Aim, ToWrite, ToClear, ToRead, ToTest, Now, Start, Declared, CellName, CellForm, CellSort, TagName, TagForm}
use Rattle.flu_syntax.specs.Machine.{TagItem, TagValue, DependsFirst, DependsSecond, DependsHow, SourceName, SourceFile, SourceRate, RateNumber, SourceSlack}
use Rattle.flu_syntax.specs.Machine.{SlackNumber, SourceColon, TagKind, TagKeys, TagLow, TagMore, TagHigh, TagClose, TagEnd, OnKind, OnColon, ActionStart}
use Rattle.flu_syntax.specs.Machine.{DeedEnd, ActionEnd, EmitText, FlushFamily, FlushText, CellFamily, CellKeys, CellKey, CellClose, InExpression, Next}
use Rattle.flu_syntax.specs.Machine.{Goes, Deep, Refused}
use Rattle.flu_syntax.specs.Machine.{step}
use Rattle.flu_syntax.specs.Machine.{ClockName, ClockEvery, ClockPeriod, ClockRate, ClockRateNumber, ClockColon, ClockTag}
use Rattle.flu_syntax.specs.Machine.{CellBy, CellList, TagBy, TagList, NamesName, NamesColon, NamesText, NamesEnd, Listing, item_of}
use Rattle.flu_text.specs.Signs.{Sign, Any, At, Spanned, Named, IsSign, name, text, number, separated}
use Rattle.flu_syntax.specs.Grammar.{op_word, verb_word, cell_signs, spelled, deed_signs, action_signs}
use Rattle.flu_syntax.specs.Grammar.{tag_signs, keyed_signs, cells_signs, item_signs, rate_signs, slack_signs, declaration_signs}

abbrev pub mark_ended : {X : Type 0} → Word → (X → List Sign) → List X → List Sign
mark_ended mark item xs = flat_map (λ y. item y ++ Any mark ∷ []) xs

abbrev pub on_head : WrittenSpan → List Sign
on_head kind = Any (w.Reserved r.On) ∷ Named kind ∷ Any (w.Mark m.Colon) ∷ []

abbrev pub said_actions : Actions → List Sign
said_actions so_far = on_head so_far.kind ++ mark_ended (w.Mark m.Semicolon) action_signs so_far.all

abbrev pub source_begun : WrittenSpan → WrittenSpan → List Sign → List Sign
source_begun n file more = Any (w.Reserved r.Source) ∷ Named n ∷ Spanned w.Text file ∷ more

abbrev pub source_head : Tags → List Sign
source_head so_far =
    Any (w.Reserved r.Source) ∷ Named so_far.name ∷ Spanned w.Text so_far.file ∷
    (rate_signs so_far.rate ++ slack_signs so_far.slack ++ Any (w.Mark m.Colon) ∷ [])

abbrev pub said_tags : Tags → List Sign
said_tags so_far = source_head so_far ++ mark_ended (w.Mark m.Comma) tag_signs so_far.all

abbrev pub tag_begun : WrittenSpan → List Sign → List Sign
tag_begun n more = Any (w.Reserved r.Tag) ∷ Named n ∷ more

abbrev pub clock_begun : ℕ → WrittenSpan → WrittenNumber → List Sign → List Sign
clock_begun at n every more = At (w.Name contextual.Clock) at ∷ Named n ∷ Any (w.Name contextual.Every) ∷ At (w.Number every.value) every.at ∷ more

abbrev pub listing_head : Listing → List Sign
listing_head so_far = At (w.Name contextual.Names) so_far.at ∷ Named so_far.name ∷ Any (w.Mark m.Colon) ∷ []

abbrev pub said_texts : Listing → List Sign
said_texts so_far = listing_head so_far ++ mark_ended (w.Mark m.Comma) text so_far.texts

abbrev pub said_context : Context → List Sign
said_context (Amount so_far at v cell) = said_actions so_far ++ (At (verb_word v) at ∷ cell_signs cell)
said_context (Guard so_far at deed) = said_actions so_far ++ (deed_signs at deed ++ Any (w.Reserved r.When) ∷ [])

abbrev pub said_frames : Context → List Frame → List Sign
said_frames context [] = said_context context
said_frames context (NegFrame level at ∷ frames) = said_frames context frames ++ At (w.Mark m.Minus) at ∷ []
said_frames context (NotFrame level at ∷ frames) = said_frames context frames ++ At (w.Reserved r.Not) at ∷ []
said_frames context (ParenFrame level at ∷ frames) = said_frames context frames ++ At (w.Mark m.OpenParen) at ∷ []
said_frames context (RightFrame level o at left ∷ frames) = said_frames context frames ++ (spelled left ++ At (op_word o) at ∷ [])

abbrev pub said_aim : Aim → List Sign
said_aim (ToWrite so_far at v) = said_actions so_far ++ At (verb_word v) at ∷ []
said_aim (ToClear so_far at) = said_actions so_far ++ At (w.Reserved r.Clear) at ∷ []
said_aim (ToRead context level frames) = said_frames context frames
said_aim (ToTest context level frames at) = said_frames context frames ++ At (w.Reserved r.Has) at ∷ []

-- what stands in brackets, without the closing one
abbrev pub key_open : WrittenKey → List Sign
key_open key.Alone = []
key_open (key.OwnKey at) = Any (w.Mark m.OpenBracket) ∷ At (w.Reserved r.Key) at ∷ []
key_open (key.OwnItem at) = Any (w.Mark m.OpenBracket) ∷ At (w.Name contextual.Item) at ∷ []
key_open (key.Fixed n) = Any (w.Mark m.OpenBracket) ∷ number n

abbrev pub keys_open : WrittenKeys → List Sign
keys_open keys.Alone = []
keys_open (keys.One n) = Any (w.Mark m.OpenBracket) ∷ number n
keys_open (keys.Range low high) = Any (w.Mark m.OpenBracket) ∷ (number low ++ Any (w.Mark m.Dots) ∷ number high)

abbrev pub said : Now → List Sign
said Start = []
said (Declared d) = declaration_signs d
said CellName = Any (w.Reserved r.Cell) ∷ []
said (CellForm n) = Any (w.Reserved r.Cell) ∷ name n
said (CellBy n) = Any (w.Reserved r.Cell) ∷ (name n ++ cells_signs cells.Keyed)
said (CellList n at) = Any (w.Reserved r.Cell) ∷ (name n ++ cells_signs cells.Keyed ++ At (w.Name contextual.By) at ∷ [])
said (CellSort n cells) = Any (w.Reserved r.Cell) ∷ (name n ++ cells_signs cells)
said TagName = Any (w.Reserved r.Tag) ∷ []
said (TagForm n) = Any (w.Reserved r.Tag) ∷ name n
said (TagItem n keyed) = Any (w.Reserved r.Tag) ∷ (name n ++ keyed_signs keyed)
said (TagBy n keyed at) = Any (w.Reserved r.Tag) ∷ (name n ++ keyed_signs keyed ++ item_signs (Some (item_of at None)))
said (TagList n keyed at by_at) =
    Any (w.Reserved r.Tag) ∷ (name n ++ keyed_signs keyed ++ At (w.Name contextual.Item) at ∷ At (w.Name contextual.By) by_at ∷ [])
said (TagValue n keyed item) = Any (w.Reserved r.Tag) ∷ (name n ++ keyed_signs keyed ++ item_signs item)
said (NamesName at) = At (w.Name contextual.Names) at ∷ []
said (NamesColon at n) = At (w.Name contextual.Names) at ∷ name n
said (NamesText so_far) = said_texts so_far
said (NamesEnd so_far) = listing_head so_far ++ separated (w.Mark m.Comma) text so_far.texts
said DependsFirst = Any (w.Reserved r.Depends) ∷ []
said (DependsSecond a) = Any (w.Reserved r.Depends) ∷ name a
said (DependsHow a b) = Any (w.Reserved r.Depends) ∷ (name a ++ name b)
said SourceName = Any (w.Reserved r.Source) ∷ []
said (SourceFile n) = Any (w.Reserved r.Source) ∷ name n
said (SourceRate n file) = Any (w.Reserved r.Source) ∷ (name n ++ text file)
said (RateNumber n file) = Any (w.Reserved r.Source) ∷ (name n ++ text file ++ Any (w.Reserved r.Rate) ∷ [])
said (SourceSlack n file rate) = Any (w.Reserved r.Source) ∷ (name n ++ text file ++ rate_signs rate)
said (SlackNumber n file rate) = Any (w.Reserved r.Source) ∷ (name n ++ text file ++ rate_signs rate ++ Any (w.Reserved r.Slack) ∷ [])
said (SourceColon n file rate slack) = Any (w.Reserved r.Source) ∷ (name n ++ text file ++ rate_signs rate ++ slack_signs slack)
said (ClockName at) = At (w.Name contextual.Clock) at ∷ []
said (ClockEvery at n) = At (w.Name contextual.Clock) at ∷ name n
said (ClockPeriod at n) = At (w.Name contextual.Clock) at ∷ (name n ++ Any (w.Name contextual.Every) ∷ [])
said (ClockRate at n every) = clock_begun at n every []
said (ClockRateNumber at n every) = clock_begun at n every (Any (w.Reserved r.Rate) ∷ [])
said (ClockColon at n every rate) = clock_begun at n every (rate_signs rate)
said (ClockTag at n every rate) = clock_begun at n every (rate_signs rate ++ Any (w.Mark m.Colon) ∷ [])
said (TagKind so_far) = said_tags so_far
said (TagKeys so_far kind) = said_tags so_far ++ name kind
said (TagLow so_far kind) = said_tags so_far ++ (name kind ++ Any (w.Mark m.OpenBracket) ∷ [])
said (TagMore so_far kind low) = said_tags so_far ++ (name kind ++ keys_open (keys.One low))
said (TagHigh so_far kind low) = said_tags so_far ++ (name kind ++ Any (w.Mark m.OpenBracket) ∷ (number low ++ Any (w.Mark m.Dots) ∷ []))
said (TagClose so_far kind ks) = said_tags so_far ++ (name kind ++ keys_open ks)
said (TagEnd so_far) = source_head so_far ++ separated (w.Mark m.Comma) tag_signs so_far.all
said OnKind = Any (w.Reserved r.On) ∷ []
said (OnColon kind) = Any (w.Reserved r.On) ∷ name kind
said (ActionStart so_far) = said_actions so_far
said (DeedEnd so_far at deed) = said_actions so_far ++ deed_signs at deed
said (ActionEnd so_far) = []
said (EmitText so_far at) = said_actions so_far ++ At (w.Reserved r.Emit) at ∷ []
said (FlushFamily so_far at) = said_actions so_far ++ At (w.Reserved r.Flush) at ∷ []
said (FlushText so_far at family) = said_actions so_far ++ (At (w.Reserved r.Flush) at ∷ name family)
said (CellFamily aim) = said_aim aim
said (CellKeys aim family) = said_aim aim ++ name family
said (CellKey aim family) = said_aim aim ++ (name family ++ Any (w.Mark m.OpenBracket) ∷ [])
said (CellClose aim cell) = said_aim aim ++ (name cell.family ++ key_open cell.key)
said (InExpression context (Want level) frames) = said_frames context frames
said (InExpression context (Have low high t) frames) = said_frames context frames ++ spelled t
said (InExpression context (Done t) frames) = said_frames context frames ++ spelled t

-- the turns that a step may lead to: a bracket closes behind something, and there is a tag, or a text
abbrev pub Sound : Now → Type 0
Sound (TagClose so_far kind keys.Alone) = ⊥
Sound (CellClose aim cell) = cell.key ≢ key.Alone
Sound (TagEnd so_far) = so_far.all ≢ []
Sound (NamesEnd so_far) = so_far.texts ≢ []
Sound (ActionEnd so_far) = ⊥
Sound _ = Unit {0}

-- a step has said a sign that the token is
abbrev pub Says : List Sign → Token → Next → Type 0
Says before t (Goes next) = (s : Sign) × IsSign s t × Sound next × (said next ≡ before ++ s ∷ [])
Says before t Deep = Unit {0}
Says before t Refused = Unit {0}
