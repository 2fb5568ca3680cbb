-- What is found keeps the grammar's levels, and has few open at once.
use Rattle.std.proofs.Common.{◌≡◌, ◌≢◌, ℕ, ◌+◌, ◌<◌, ◌≤◌, Bool, true, false, cond, ltb, leb, List, [], ◌∷◌, ◌++◌, Option, Some, None, refl, subst, arith}
use Rattle.std.specs.Prelude.{IfSome}
use Rattle.std.proofs.lemmas.Bool.Decides.{nat_tests}
use Rattle.flu_text.specs.declared.words.Token.{Token}
use Rattle.flu_text.specs.declared.words.Word.{Word}
use Rattle.flu_text.specs.declared.words.Word.TheVariants as w
use Rattle.flu_text.specs.declared.words.Contextual.TheVariants as contextual
use Rattle.flu_names.specs.declared.reserved.Reserved.TheVariants as r
use Rattle.flu_text.specs.declared.words.Mark.TheVariants as m
use Rattle.flu_model.specs.declared.jobs.Op.{Op}
use Rattle.flu_model.specs.declared.jobs.Sort.{Sort}
use Rattle.flu_syntax.specs.declared.tokens.Front.{Front}
use Rattle.flu_syntax.specs.declared.tokens.Front.TheVariants as start
use Rattle.flu_syntax.specs.declared.tokens.Doing.{Doing}
use Rattle.flu_syntax.specs.declared.tokens.Doing.TheVariants as doing
use Rattle.flu_syntax.specs.declared.tokens.Heading.{Heading}
use Rattle.flu_syntax.specs.declared.tokens.Heading.TheVariants as heading
use Rattle.flu_text.specs.declared.written.WrittenSpan.{WrittenSpan}
use Rattle.flu_text.specs.declared.written.WrittenNumber.{WrittenNumber}
use Rattle.flu_syntax.specs.declared.tree.WrittenKey.TheVariants as key
use Rattle.flu_syntax.specs.declared.tree.WrittenRef.{WrittenRef}
use Rattle.flu_text.specs.declared.written.WrittenKeys.TheVariants as keys
use Rattle.flu_lemmas.proofs.Elements.{push_some}
use Rattle.flu_lemmas.proofs.Tests.{true_lt, true_le}
use Rattle.flu_syntax.specs.Tree.{Tree, NumberTree, ValueTree, KeyTree, TimeTree, ReadTree, HasTree, ParenTree, NegTree}
use Rattle.flu_syntax.specs.Tree.{NotTree, TwoTree, Deed, Writes, Clears, Emits, Flushes, Action, On, Declarations, Clock}
use Rattle.flu_text.specs.Signs.{span_of}
use Rattle.flu_syntax.specs.declared.tree.WrittenCells.{WrittenCells}
use Rattle.flu_syntax.specs.declared.tree.WrittenCells.TheVariants as cells
use Rattle.flu_syntax.specs.declared.tree.WrittenItem.{WrittenItem}
use Rattle.flu_syntax.specs.Machine.{CellBy, CellList, TagBy, TagList, NamesName, NamesColon, NamesText, NamesEnd, Listing, by_of, item_of, listing_of, texted}
use Rattle.flu_syntax.specs.Machine.{cell_by_step, tag_by_step, texts_step}
use Rattle.flu_syntax.specs.Machine.{ClockName, ClockEvery, ClockPeriod, ClockRate, ClockRateNumber, ClockColon, ClockTag, on_every, clock_rate_step}
use Rattle.flu_syntax.specs.Machine.{cell_of, tag_of, Actions, Tags, Context, Amount, Guard, Frame, NegFrame, NotFrame, ParenFrame, RightFrame, Mode, Want}
use Rattle.flu_syntax.specs.Machine.{Have, Done, Aim, ToWrite, ToClear, ToRead, ToTest, Now, Start, Declared, CellName, CellForm, CellSort, TagName}
use Rattle.flu_syntax.specs.Machine.{TagForm, TagItem, TagValue, DependsFirst, DependsSecond, DependsHow, SourceName, SourceFile, SourceRate, RateNumber}
use Rattle.flu_syntax.specs.Machine.{SourceSlack, SlackNumber, SourceColon, TagKind, TagKeys, TagLow, TagMore, TagHigh, TagClose, TagEnd, OnKind, OnColon}
use Rattle.flu_syntax.specs.Machine.{ActionStart, DeedEnd, ActionEnd, EmitText, FlushFamily, FlushText, CellFamily, CellKeys, CellKey, CellClose, InExpression}
use Rattle.flu_syntax.specs.Machine.{Next, Goes, Deep, Refused, begin, take_or, done_step, expression_step, behind_step, deed_step, action_step, acted, listed}
use Rattle.flu_syntax.specs.Machine.{named, named_step, keys_step, key_step, on_name, on_text, on_colon, on_bracket, on_number, sort_of, sort_step}
use Rattle.flu_syntax.specs.Machine.{cell_step, value_of, value_step, item_step, tag_step, how_step, rate_step, slack_step, source_of, tags_step, tag_keys_step}
use Rattle.flu_syntax.specs.Machine.{range_step, doing_of, act_step, start_of, operator_of, is_within, is_close, level_behind, opens, heading_of, opening}
use Rattle.flu_syntax.specs.Machine.{done_whole, behind_whole, named_whole, step, whole, Verdict, Found, goes_on, next_declaration, ended, run}
use Rattle.flu_syntax.specs.Grammar.{op_level, left_level, Fits, nest, IsDeed, IsGuard, AreActions, IsDeclaration, AreDeclarations}
use Rattle.flu_syntax.proofs.Accepts.{high_of, IsLevel, level_is}

-- the level of the operand that is wanted on top
abbrev pub hole : List Frame → ℕ
hole [] = 0
hole (NegFrame level at ∷ frames) = 6
hole (NotFrame level at ∷ frames) = 2
hole (ParenFrame level at ∷ frames) = 0
hole (RightFrame level o at left ∷ frames) = op_level o + 1

-- a token opens this where an operand of a level is wanted, and one of another level is wanted in it
pub data Opens (level : ℕ) (t : Token) : Front → ℕ → Frame → Type 0 where
  opens_not : level ≤ 2 → Opens level t start.Not 2 (NotFrame level t.from)
  opens_minus : Opens level t start.Minus 6 (NegFrame level t.from)
  opens_paren : Opens level t start.Open 0 (ParenFrame level t.from)

pub record Opened (now : Now) (t : Token) : Type 0 where
  pub context : Context
  pub level : ℕ
  pub frames : List Frame
  pub inner : ℕ
  pub frame : Frame
  pub is : now ≡ InExpression context (Want level) frames
  pub opens : Opens level t (start_of t.word) inner frame

module _ (most : ℕ) where
  abbrev pub Stack : List Frame → Type 0
  Stack [] = Unit {0}
  Stack (NegFrame level at ∷ frames) = (level ≡ hole frames) × Stack frames
  Stack (NotFrame level at ∷ frames) = (level ≡ hole frames) × (level ≤ 2) × Stack frames
  Stack (ParenFrame level at ∷ frames) = (level ≡ hole frames) × Stack frames
  Stack (RightFrame level o at left ∷ frames) =
      (level ≡ hole frames) × (level ≤ op_level o) × Fits (left_level (op_level o)) left × (nest left + opens frames ≤ most) × Stack frames

  abbrev pub KeptMode : Mode → List Frame → Type 0
  KeptMode (Want level) frames = (level ≡ hole frames) × (opens frames ≤ most)
  KeptMode (Have low high t) frames = (low ≡ hole frames) × Fits low t × (high ≡ high_of t) × (nest t + opens frames ≤ most)
  KeptMode (Done t) frames = Fits (hole frames) t × (nest t + opens frames ≤ most)

  abbrev pub KeptContext : Context → Type 0
  KeptContext (Amount so_far at verb cell) = AreActions most so_far.all
  KeptContext (Guard so_far at deed) = AreActions most so_far.all × IsDeed most deed

  abbrev pub KeptAim : Aim → Type 0
  KeptAim (ToWrite so_far at verb) = AreActions most so_far.all
  KeptAim (ToClear so_far at) = AreActions most so_far.all
  KeptAim (ToRead context level frames) = KeptContext context × Stack frames × (level ≡ hole frames) × (opens frames ≤ most)
  KeptAim (ToTest context level frames at) = KeptContext context × Stack frames × (level ≡ hole frames) × (opens frames ≤ most)

  abbrev pub Kept : Now → Type 0
  Kept (Declared d) = IsDeclaration most d
  Kept (TagEnd so_far) = so_far.all ≢ []
  Kept (NamesEnd so_far) = so_far.texts ≢ []
  Kept (ActionStart so_far) = AreActions most so_far.all
  Kept (DeedEnd so_far at deed) = AreActions most so_far.all × IsDeed most deed
  Kept (ActionEnd so_far) = ⊥
  Kept (EmitText so_far at) = AreActions most so_far.all
  Kept (FlushFamily so_far at) = AreActions most so_far.all
  Kept (FlushText so_far at family) = AreActions most so_far.all
  Kept (CellFamily aim) = KeptAim aim
  Kept (CellKeys aim family) = KeptAim aim
  Kept (CellKey aim family) = KeptAim aim
  Kept (CellClose aim cell) = KeptAim aim
  Kept (InExpression context mode frames) = KeptContext context × Stack frames × KeptMode mode frames
  Kept _ = Unit {0}

  -- ---- actions

  actions_more : (xs : List Action) (a : Action) → AreActions most xs → IsDeed most a.deed → IsGuard most a.guard → AreActions most (xs ++ a ∷ [])
  actions_more [] a h d g = (d, g, tt)
  actions_more (x ∷ xs) a h d g = (h.0, h.1, actions_more xs a h.2 d g)

  module _ (room : 64 ≤ most) where
    module _ (deep : Type 0) where
      -- what a token leads to is kept, or this holds where it opens one too many
      abbrev pub Keeps : Next → Type 0
      Keeps (Goes now) = Kept now
      Keeps Deep = deep
      Keeps Refused = Unit {0}

      -- ---- where one word alone may follow

      name_keeps : (word : Word) (now : Now) → Kept now → Keeps (on_name word now)
      name_keeps (w.Name c) now h = h
      name_keeps _ now h = tt

      text_keeps : (word : Word) (now : Now) → Kept now → Keeps (on_text word now)
      text_keeps w.Text now h = h
      text_keeps _ now h = tt

      colon_keeps : (word : Word) (now : Now) → Kept now → Keeps (on_colon word now)
      colon_keeps (w.Mark m.Colon) now h = h
      colon_keeps _ now h = tt

      bracket_keeps : (word : Word) (now : Now) → Kept now → Keeps (on_bracket word now)
      bracket_keeps (w.Mark m.CloseBracket) now h = h
      bracket_keeps _ now h = tt

      every_keeps : (word : Word) (now : Now) → Kept now → Keeps (on_every word now)
      every_keeps (w.Name contextual.Every) now h = h
      every_keeps _ now h = tt

      number_keeps : (word : Word) (t : Token) (now : WrittenNumber → Now) → ((n : WrittenNumber) → Kept (now n))
          → Keeps (on_number word (λ n. now (record { value = n; at = t.from })))
      number_keeps (w.Number n) t now h = h (record { value = n; at = t.from })
      number_keeps _ t now h = tt

      -- ---- cells, tags, dependencies and sources

      sort_keeps : (n : WrittenSpan) (cells : WrittenCells) (o : Option Sort) → Keeps (sort_step n cells o)
      sort_keeps n cells None = tt
      sort_keeps n cells (Some s) = tt

      cell_keeps : (n : WrittenSpan) (word : Word) → Keeps (cell_step n word)
      cell_keeps n (w.Reserved r.Keyed) = tt
      cell_keeps n word = sort_keeps n cells.Alone (sort_of word)

      cell_by_keeps : (n : WrittenSpan) (t : Token) (word : Word) → Keeps (cell_by_step n t word)
      cell_by_keeps n t (w.Name contextual.By) = tt
      cell_by_keeps n t word = sort_keeps n cells.Keyed (sort_of word)

      value_keeps : (n : WrittenSpan) (keyed : Bool) (item : Option WrittenItem) (o : Option Bool) → Keeps (value_step n keyed item o)
      value_keeps n keyed item None = tt
      value_keeps n keyed item (Some s) = tt

      item_keeps : (n : WrittenSpan) (keyed : Bool) (t : Token) (word : Word) → Keeps (item_step n keyed t word)
      item_keeps n keyed t (w.Name contextual.Item) = tt
      item_keeps n keyed t word = value_keeps n keyed None (value_of word)

      tag_by_keeps : (n : WrittenSpan) (keyed : Bool) (at : ℕ) (t : Token) (word : Word) → Keeps (tag_by_step n keyed at t word)
      tag_by_keeps n keyed at t (w.Name contextual.By) = tt
      tag_by_keeps n keyed at t word = value_keeps n keyed (Some (item_of at None)) (value_of word)

      texts_keeps : (so_far : Listing) (word : Word) → Keeps (texts_step so_far word)
      texts_keeps so_far (w.Mark m.Comma) = tt
      texts_keeps so_far _ = tt

      tag_keeps : (n : WrittenSpan) (t : Token) (word : Word) → Keeps (tag_step n t word)
      tag_keeps n t (w.Reserved r.Keyed) = tt
      tag_keeps n t word = item_keeps n false t word

      how_keeps : (a b : WrittenSpan) (t : Token) (word : Word) → Keeps (how_step a b t word)
      how_keeps a b t (w.Reserved r.Same) = tt
      how_keeps a b t (w.Reserved r.All) = tt
      how_keeps a b t _ = tt

      slack_keeps : (n file : WrittenSpan) (rate : Option WrittenNumber) (word : Word) → Keeps (slack_step n file rate word)
      slack_keeps n file rate (w.Reserved r.Slack) = tt
      slack_keeps n file rate word = colon_keeps word (TagKind (source_of n file rate None)) tt

      rate_keeps : (n file : WrittenSpan) (word : Word) → Keeps (rate_step n file word)
      rate_keeps n file (w.Reserved r.Rate) = tt
      rate_keeps n file word = slack_keeps n file None word

      clock_rate_keeps : (at : ℕ) (n : WrittenSpan) (every : WrittenNumber) (word : Word) → Keeps (clock_rate_step at n every word)
      clock_rate_keeps at n every (w.Reserved r.Rate) = tt
      clock_rate_keeps at n every word = colon_keeps word (ClockTag at n every None) tt

      tags_keeps : (so_far : Tags) (word : Word) → Keeps (tags_step so_far word)
      tags_keeps so_far (w.Mark m.Comma) = tt
      tags_keeps so_far _ = tt

      tag_keys_keeps : (so_far : Tags) (kind : WrittenSpan) (word : Word) → Keeps (tag_keys_step so_far kind word)
      tag_keys_keeps so_far kind (w.Mark m.OpenBracket) = tt
      tag_keys_keeps so_far kind word = tags_keeps (listed so_far (tag_of kind keys.Alone)) word

      range_keeps : (so_far : Tags) (kind : WrittenSpan) (low : WrittenNumber) (word : Word) → Keeps (range_step so_far kind low word)
      range_keeps so_far kind low (w.Mark m.Dots) = tt
      range_keeps so_far kind low word =
          bracket_keeps word (TagEnd (listed so_far (tag_of kind (keys.One low)))) (push_some so_far.all (tag_of kind (keys.One low)))

      -- ---- actions

      action_keeps : (so_far : Actions) (at : ℕ) (deed : Deed) (guard : Option Tree) (word : Word) → AreActions most so_far.all → IsDeed most deed
          → IsGuard most guard
          → Keeps (action_step (acted so_far at deed guard) word)
      unfolding action_step
      action_keeps so_far at deed guard (w.Mark m.Semicolon) h d g = actions_more so_far.all (record { at = at; deed = deed; guard = guard }) h d g
      action_keeps so_far at deed guard _ h d g = tt

      none_open : 64 ≤ opens [] → ⊥
      unfolding opens
      none_open many = let never : ⊥ = omega arith in never

      many_open : (frames : List Frame) → ltb (opens frames) 64 ≡ false → 64 ≤ opens frames
      many_open frames many = grind (arith, nat_tests)

      zero_hole : (frames : List Frame) → frames ≡ [] → opens frames ≤ most
      unfolding opens
      zero_hole [] e = omega arith
      zero_hole (f ∷ frames) e = cc

      deed_keeps : (so_far : Actions) (at : ℕ) (deed : Deed) (word : Word) → AreActions most so_far.all → IsDeed most deed
          → Keeps (deed_step so_far at deed word)
      unfolding deed_step
      deed_keeps so_far at deed (w.Reserved r.When) h d = ((h, d), tt, (refl, zero_hole [] refl))
      deed_keeps so_far at deed word h d = action_keeps so_far at deed None word h d tt

      act_keeps : (so_far : Actions) (at : ℕ) (d : Doing) → AreActions most so_far.all → Keeps (act_step so_far at d)
      act_keeps so_far at (doing.Write verb) h = h
      act_keeps so_far at doing.Clear h = h
      act_keeps so_far at doing.Emit h = h
      act_keeps so_far at doing.Flush h = h
      act_keeps so_far at doing.Other h = tt

      -- ---- expressions

      kept_if : (b : Bool) (next : Next) → (b ≡ true → Keeps next) → Keeps (cond b next Refused)
      kept_if true next h = h refl
      kept_if false next h = tt

      kept_deeper : (b : Bool) (now : Now) → (b ≡ true → Kept now) → (b ≡ false → deep) → Keeps (cond b (Goes now) Deep)
      kept_deeper true now h over = h refl
      kept_deeper false now h over = over refl

      within_low : (low level high : ℕ) → is_within low level high ≡ true → low ≤ level
      within_low low level high e = grind (arith, nat_tests)

      within_high : (low level high : ℕ) → is_within low level high ≡ true → level ≤ high
      within_high low level high e = grind (arith, nat_tests)

      begin_keeps : (context : Context) (level : ℕ) (frames : List Frame) (t : Token) (s : Front) → KeptContext context → Stack frames → level ≡ hole frames
          → opens frames ≤ most → ((inner : ℕ) (frame : Frame) → 64 ≤ opens frames → Opens level t s inner frame → deep)
          → Keeps (begin context level frames t s)
      unfolding opens
      begin_keeps context level frames t (start.Number n) c k e o over = (c, k, (e, tt, refl, omega arith))
      begin_keeps context level frames t start.Value c k e o over = (c, k, (e, tt, refl, omega arith))
      begin_keeps context level frames t start.Key c k e o over = (c, k, (e, tt, refl, omega arith))
      begin_keeps context level frames t start.Time c k e o over = (c, k, (e, tt, refl, omega arith))
      begin_keeps context level frames t start.Family c k e o over = (c, k, e, o)
      begin_keeps context level frames t start.Has c k e o over = (c, k, e, o)
      begin_keeps context level frames t start.Not c k e o over =
          kept_if (leb level 2) _
          (λ below.
          kept_deeper (ltb (opens frames) 64) (InExpression context (Want 2) (NotFrame level t.from ∷ frames))
          (λ few. (let few_ : opens frames < 64 = true_lt (opens frames) 64 few in (c, (e, true_le level 2 below, k), (refl, omega arith))))
          (λ many. over 2 (NotFrame level t.from) (many_open frames many) (opens_not (true_le level 2 below))))
      begin_keeps context level frames t start.Minus c k e o over =
          kept_deeper (ltb (opens frames) 64) (InExpression context (Want 6) (NegFrame level t.from ∷ frames))
          (λ few. (let few_ : opens frames < 64 = true_lt (opens frames) 64 few in (c, (e, k), (refl, omega arith))))
          (λ many. over 6 (NegFrame level t.from) (many_open frames many) opens_minus)
      begin_keeps context level frames t start.Open c k e o over =
          kept_deeper (ltb (opens frames) 64) (InExpression context (Want 0) (ParenFrame level t.from ∷ frames))
          (λ few. (let few_ : opens frames < 64 = true_lt (opens frames) 64 few in (c, (e, k), (refl, omega arith))))
          (λ many. over 0 (ParenFrame level t.from) (many_open frames many) opens_paren)
      begin_keeps context level frames t start.Other c k e o over = tt

      two_level : (p q : ℕ) → IsLevel p → p ≤ level_behind q → left_level p ≤ q
      two_level p q is le = grind (arith, nat_tests, is.other)

      not_level : (p : ℕ) → IsLevel p → p ≤ 2 → left_level p ≤ 2
      not_level p is le = grind (arith, nat_tests, is.other)

      -- an operator that may take the expression finds a left operand that fits
      left_kept : (t : Tree) (low p : ℕ) → Fits low t → IsLevel p → p ≤ high_of t → Fits (left_level p) t
      left_kept (NotTree at inner) low p fits is le = (not_level p is le, fits.1)
      left_kept (TwoTree o at left right) low p fits is le = (two_level p (op_level o) is le, fits.1, fits.2)
      left_kept (NumberTree n) low p fits is le = fits
      left_kept (ValueTree at) low p fits is le = fits
      left_kept (KeyTree at) low p fits is le = fits
      left_kept (TimeTree at) low p fits is le = fits
      left_kept (ReadTree cell) low p fits is le = fits
      left_kept (HasTree at cell) low p fits is le = fits
      left_kept (ParenTree at inner) low p fits is le = fits
      left_kept (NegTree at inner) low p fits is le = fits

      kept_or : (b : Bool) (now : Now) (others : Next) → (b ≡ true → Kept now) → Keeps others → Keeps (cond b (Goes now) others)
      kept_or true now others h k = h refl
      kept_or false now others h k = k

      take_keeps : (context : Context) (low high : ℕ) (tree : Tree) (frames : List Frame) (at : ℕ) (o : Option Op) (others : Next) → KeptContext context
          → Stack frames → low ≡ hole frames → Fits low tree → high ≡ high_of tree
          → nest tree + opens frames ≤ most → Keeps others → Keeps (take_or context low high tree frames at o others)
      unfolding opens
      take_keeps context low high tree frames at None others c k e fits top few h = h
      take_keeps context low high tree frames at (Some o) others c k e fits top few h =
          kept_or (is_within low (op_level o) high) (InExpression context (Want (op_level o + 1)) (RightFrame low o at tree ∷ frames)) others
          (λ hit. (
            c,
            (
              e,
              within_low low (op_level o) high hit,
              left_kept tree low (op_level o) fits (level_is o) (subst (λ (x : ℕ). op_level o ≤ x) top (within_high low (op_level o) high hit)),
              few,
              k,
            ),
            (refl, omega arith),
          ))
          h

      behind_keeps : (context : Context) (tree : Tree) (word : Word) → KeptContext context → Fits 0 tree → nest tree ≤ most
          → Keeps (behind_step context tree word)
      unfolding behind_step
      behind_keeps (Amount so_far at verb cell) tree word c fits few = deed_keeps so_far at (Writes verb cell tree) word c (fits, few)
      behind_keeps (Guard so_far at deed) tree word c fits few = action_keeps so_far at deed (Some tree) word c.0 c.1 (fits, few)

      done_keeps : (context : Context) (tree : Tree) (frames : List Frame) (x : Token) → KeptContext context → Stack frames → Fits (hole frames) tree
          → nest tree + opens frames ≤ most → Keeps (done_step context tree frames x)
      unfolding done_step opens
      done_keeps context tree [] x c k fits few = behind_keeps context tree x.word c fits (omega arith)
      done_keeps context tree (NegFrame level at ∷ frames) x c k fits few =
          take_keeps context level 6 (NegTree at tree) frames x.from (operator_of x.word) (done_step context (NegTree at tree) frames x) c k.1 k.0 fits refl
          (omega arith) (done_keeps context (NegTree at tree) frames x c k.1 fits (omega arith))
      done_keeps context tree (NotFrame level at ∷ frames) x c k fits few =
          take_keeps context level 2 (NotTree at tree) frames x.from (operator_of x.word) (done_step context (NotTree at tree) frames x) c k.2 k.0
          (k.1, fits) refl (omega arith)
          (done_keeps context (NotTree at tree) frames x c k.2 (subst (λ (n : ℕ). n ≤ 2) k.0 k.1, fits) (omega arith))
      done_keeps context tree (ParenFrame level at ∷ frames) x c k fits few = kept_if (is_close x.word) _ (λ hit. (c, k.1, (k.0, fits, refl, omega arith)))
      done_keeps context tree (RightFrame level o at left ∷ frames) x c k fits few =
          take_keeps context level (level_behind (op_level o)) (TwoTree o at left tree) frames x.from (operator_of x.word)
          (done_step context (TwoTree o at left tree) frames x) c k.4 k.0 (k.1, k.2, fits) refl (omega (arith, k.3))
          (done_keeps context (TwoTree o at left tree) frames x c k.4 (subst (λ (n : ℕ). n ≤ op_level o) k.0 k.1, k.2, fits) (omega (arith, k.3)))

      -- this holds where an operand is wanted, 64 are open and the token opens one more
      abbrev Allows : Now → Token → Type 0
      Allows (InExpression context (Want level) frames) t =
          (inner : ℕ) (frame : Frame) → 64 ≤ opens frames → Opens level t (start_of t.word) inner frame → deep
      Allows _ t = Unit {0}

      expression_keeps : (context : Context) (mode : Mode) (frames : List Frame) (t : Token) → KeptContext context → Stack frames → KeptMode mode frames
          → Allows (InExpression context mode frames) t → Keeps (expression_step context mode frames t)
      unfolding expression_step
      expression_keeps context (Want level) frames t c k h over = begin_keeps context level frames t (start_of t.word) c k h.0 h.1 over
      expression_keeps context (Have low high tree) frames t c k h over =
          take_keeps context low high tree frames t.from (operator_of t.word) (done_step context tree frames t) c k h.0 h.1 h.2 h.3
          (done_keeps context tree frames t c k (subst (λ (x : ℕ). Fits x tree) h.0 h.1) h.3)
      expression_keeps context (Done tree) frames t c k h over = done_keeps context tree frames t c k h.0 h.1

      -- ---- cells

      named_keeps : (aim : Aim) (cell : WrittenRef) (t : Token) → KeptAim aim → Keeps (named_step aim cell t)
      unfolding named_step
      named_keeps (ToWrite so_far at verb) cell t h =
          expression_keeps (Amount so_far at verb cell) (Want 0) [] t h tt (refl, zero_hole [] refl)
          (λ inner frame many opened. absurd (none_open many))
      named_keeps (ToClear so_far at) cell t h = deed_keeps so_far at (Clears cell) t.word h tt
      named_keeps (ToRead context level frames) cell t h =
          expression_keeps context (Have level 6 (ReadTree cell)) frames t h.0 h.1 (h.2, tt, refl, omega (arith, h.3)) tt
      named_keeps (ToTest context level frames at) cell t h =
          expression_keeps context (Have level 6 (HasTree at cell)) frames t h.0 h.1 (h.2, tt, refl, omega (arith, h.3)) tt

      kept_named : (aim : Aim) (cell : WrittenRef) → KeptAim aim → Kept (named aim cell)
      kept_named (ToWrite so_far at verb) cell h = (h, tt, (refl, zero_hole [] refl))
      kept_named (ToClear so_far at) cell h = (h, tt)
      kept_named (ToRead context level frames) cell h = (h.0, h.1, (h.2, tt, refl, omega (arith, h.3)))
      kept_named (ToTest context level frames at) cell h = (h.0, h.1, (h.2, tt, refl, omega (arith, h.3)))

      keys_keeps : (aim : Aim) (family : WrittenSpan) (t : Token) (word : Word) → KeptAim aim → Keeps (keys_step aim family t word)
      keys_keeps aim family t (w.Mark m.OpenBracket) h = h
      keys_keeps aim family t _ h = named_keeps aim (cell_of family key.Alone) t h

      key_keeps : (aim : Aim) (family : WrittenSpan) (t : Token) (word : Word) → KeptAim aim → Keeps (key_step aim family t word)
      key_keeps aim family t (w.Reserved r.Key) h = h
      key_keeps aim family t (w.Name contextual.Item) h = h
      key_keeps aim family t (w.Number n) h = h
      key_keeps aim family t _ h = tt

      -- ---- any turn

      pub step_keeps : (now : Now) (t : Token) → Kept now → Allows now t → Keeps (step now t)
      unfolding step
      step_keeps Start t h over = tt
      step_keeps (Declared d) t h over = tt
      step_keeps CellName t h over = name_keeps t.word (CellForm (span_of t)) tt
      step_keeps (CellForm n) t h over = cell_keeps n t.word
      step_keeps (CellBy n) t h over = cell_by_keeps n t t.word
      step_keeps (CellList n at) t h over = name_keeps t.word (CellSort n (cells.By (by_of at (span_of t)))) tt
      step_keeps (CellSort n cells) t h over = sort_keeps n cells (sort_of t.word)
      step_keeps TagName t h over = name_keeps t.word (TagForm (span_of t)) tt
      step_keeps (TagForm n) t h over = tag_keeps n t t.word
      step_keeps (TagItem n keyed) t h over = item_keeps n keyed t t.word
      step_keeps (TagBy n keyed at) t h over = tag_by_keeps n keyed at t t.word
      step_keeps (TagList n keyed at by_at) t h over =
          name_keeps t.word (TagValue n keyed (Some (item_of at (Some (by_of by_at (span_of t)))))) tt
      step_keeps (TagValue n keyed item) t h over = value_keeps n keyed item (value_of t.word)
      step_keeps (NamesName at) t h over = name_keeps t.word (NamesColon at (span_of t)) tt
      step_keeps (NamesColon at n) t h over = colon_keeps t.word (NamesText (listing_of at n)) tt
      step_keeps (NamesText so_far) t h over = text_keeps t.word (NamesEnd (texted so_far (span_of t))) (push_some so_far.texts (span_of t))
      step_keeps (NamesEnd so_far) t h over = texts_keeps so_far t.word
      step_keeps DependsFirst t h over = name_keeps t.word (DependsSecond (span_of t)) tt
      step_keeps (DependsSecond a) t h over = name_keeps t.word (DependsHow a (span_of t)) tt
      step_keeps (DependsHow a b) t h over = how_keeps a b t t.word
      step_keeps SourceName t h over = name_keeps t.word (SourceFile (span_of t)) tt
      step_keeps (SourceFile n) t h over = text_keeps t.word (SourceRate n (span_of t)) tt
      step_keeps (SourceRate n file) t h over = rate_keeps n file t.word
      step_keeps (RateNumber n file) t h over = number_keeps t.word t (λ rate. SourceSlack n file (Some rate)) (λ rate. tt)
      step_keeps (SourceSlack n file rate) t h over = slack_keeps n file rate t.word
      step_keeps (SlackNumber n file rate) t h over = number_keeps t.word t (λ slack. SourceColon n file rate (Some slack)) (λ slack. tt)
      step_keeps (SourceColon n file rate slack) t h over = colon_keeps t.word (TagKind (source_of n file rate slack)) tt
      step_keeps (ClockName at) t h over = name_keeps t.word (ClockEvery at (span_of t)) tt
      step_keeps (ClockEvery at n) t h over = every_keeps t.word (ClockPeriod at n) tt
      step_keeps (ClockPeriod at n) t h over = number_keeps t.word t (λ every. ClockRate at n every) (λ every. tt)
      step_keeps (ClockRate at n every) t h over = clock_rate_keeps at n every t.word
      step_keeps (ClockRateNumber at n every) t h over = number_keeps t.word t (λ rate. ClockColon at n every (Some rate)) (λ rate. tt)
      step_keeps (ClockColon at n every rate) t h over = colon_keeps t.word (ClockTag at n every rate) tt
      step_keeps (ClockTag at n every rate) t h over = name_keeps t.word (Declared (Clock at n every rate (span_of t))) tt
      step_keeps (TagKind so_far) t h over = name_keeps t.word (TagKeys so_far (span_of t)) tt
      step_keeps (TagKeys so_far kind) t h over = tag_keys_keeps so_far kind t.word
      step_keeps (TagLow so_far kind) t h over = number_keeps t.word t (λ low. TagMore so_far kind low) (λ low. tt)
      step_keeps (TagMore so_far kind low) t h over = range_keeps so_far kind low t.word
      step_keeps (TagHigh so_far kind low) t h over = number_keeps t.word t (λ high. TagClose so_far kind (keys.Range low high)) (λ high. tt)
      step_keeps (TagClose so_far kind ks) t h over = bracket_keeps t.word (TagEnd (listed so_far (tag_of kind ks))) (push_some so_far.all (tag_of kind ks))
      step_keeps (TagEnd so_far) t h over = tags_keeps so_far t.word
      step_keeps OnKind t h over = name_keeps t.word (OnColon (span_of t)) tt
      step_keeps (OnColon kind) t h over = colon_keeps t.word (ActionStart (record { kind = kind; all = [] })) tt
      step_keeps (ActionStart so_far) t h over = act_keeps so_far t.from (doing_of t.word) h
      step_keeps (DeedEnd so_far at deed) t h over = deed_keeps so_far at deed t.word h.0 h.1
      step_keeps (ActionEnd so_far) t h over = absurd h
      step_keeps (EmitText so_far at) t h over = text_keeps t.word (DeedEnd so_far at (Emits (span_of t))) (h, tt)
      step_keeps (FlushFamily so_far at) t h over = name_keeps t.word (FlushText so_far at (span_of t)) h
      step_keeps (FlushText so_far at family) t h over = text_keeps t.word (DeedEnd so_far at (Flushes family (span_of t))) (h, tt)
      step_keeps (CellFamily aim) t h over = name_keeps t.word (CellKeys aim (span_of t)) h
      step_keeps (CellKeys aim family) t h over = keys_keeps aim family t t.word h
      step_keeps (CellKey aim family) t h over = key_keeps aim family t t.word h
      step_keeps (CellClose aim cell) t h over = bracket_keeps t.word (named aim cell) (kept_named aim cell h)
      step_keeps (InExpression context mode frames) t h over = expression_keeps context mode frames t h.0 h.1 h.2 over

    -- ---- the end of a declaration

    line_kept : (so_far : Actions) (at : ℕ) (deed : Deed) (guard : Option Tree) → AreActions most so_far.all → IsDeed most deed → IsGuard most guard
        → AreDeclarations most (On so_far.kind (acted so_far at deed guard).all ∷ [])
    line_kept so_far at deed guard h d g =
        let a : Action = record { at = at; deed = deed; guard = guard } in
        ((push_some so_far.all a, actions_more so_far.all a h d g), tt)

    behind_kept : (context : Context) (tree : Tree) → KeptContext context → Fits 0 tree → nest tree ≤ most
        → IfSome (behind_whole context tree) (AreDeclarations most)
    behind_kept (Amount so_far at verb cell) tree c fits few = line_kept so_far at (Writes verb cell tree) None c (fits, few) tt
    behind_kept (Guard so_far at deed) tree c fits few = line_kept so_far at deed (Some tree) c.0 c.1 (fits, few)

    done_kept : (context : Context) (tree : Tree) (frames : List Frame) → KeptContext context → Stack frames → Fits (hole frames) tree
        → nest tree + opens frames ≤ most → IfSome (done_whole context tree frames) (AreDeclarations most)
    unfolding done_whole opens
    done_kept context tree [] c k fits few = behind_kept context tree c fits (omega arith)
    done_kept context tree (NegFrame level at ∷ frames) c k fits few = done_kept context (NegTree at tree) frames c k.1 fits (omega arith)
    done_kept context tree (NotFrame level at ∷ frames) c k fits few =
        done_kept context (NotTree at tree) frames c k.2 (subst (λ (x : ℕ). x ≤ 2) k.0 k.1, fits) (omega arith)
    done_kept context tree (ParenFrame level at ∷ frames) c k fits few = tt
    done_kept context tree (RightFrame level o at left ∷ frames) c k fits few =
        done_kept context (TwoTree o at left tree) frames c k.4 (subst (λ (x : ℕ). x ≤ op_level o) k.0 k.1, k.2, fits) (omega (arith, k.3))

    keys_kept : (aim : Aim) (cell : WrittenRef) → KeptAim aim → IfSome (named_whole aim cell) (AreDeclarations most)
    keys_kept (ToWrite so_far at verb) cell h = tt
    keys_kept (ToClear so_far at) cell h = line_kept so_far at (Clears cell) None h tt tt
    keys_kept (ToRead context level frames) cell h = done_kept context (ReadTree cell) frames h.0 h.1 tt (omega (arith, h.3))
    keys_kept (ToTest context level frames at) cell h = done_kept context (HasTree at cell) frames h.0 h.1 tt (omega (arith, h.3))

    pub whole_kept : (now : Now) → Kept now → IfSome (whole now) (AreDeclarations most)
    unfolding whole
    whole_kept (Declared d) h = (h, tt)
    whole_kept (TagKeys so_far kind) h = (push_some so_far.all (tag_of kind keys.Alone), tt)
    whole_kept (TagEnd so_far) h = (h, tt)
    whole_kept (NamesEnd so_far) h = (h, tt)
    whole_kept (DeedEnd so_far at deed) h = line_kept so_far at deed None h.0 h.1 tt
    whole_kept (ActionEnd so_far) h = absurd h
    whole_kept (CellKeys aim family) h = keys_kept aim (cell_of family key.Alone) h
    whole_kept (InExpression context (Want level) frames) h = tt
    whole_kept (InExpression context (Have low high t) frames) h = done_kept context t frames h.0 h.1 (subst (λ (x : ℕ). Fits x t) h.2.0 h.2.1) h.2.3
    whole_kept (InExpression context (Done t) frames) h = done_kept context t frames h.0 h.1 h.2.0 h.2.1
    whole_kept (DependsHow a b) h = (tt, tt)
    whole_kept _ h = tt

    -- ---- to the end

    pub declarations_more : (job one : Declarations) → AreDeclarations most job → AreDeclarations most one → AreDeclarations most (job ++ one)
    declarations_more [] one h k = k
    declarations_more (d ∷ job) one h k = (h.0, declarations_more job one h.1 k)

    pub heading_kept : (at : ℕ) (h : Heading) → IfSome (opening at h) Kept
    heading_kept at heading.Cell = tt
    heading_kept at heading.Tag = tt
    heading_kept at heading.Names = tt
    heading_kept at heading.Depends = tt
    heading_kept at heading.On = tt
    heading_kept at heading.Source = tt
    heading_kept at heading.Clock = tt
    heading_kept at heading.Other = tt

    end_kept : (end : ℕ) (job found : Declarations) (o : Option Declarations) → AreDeclarations most job → IfSome o (AreDeclarations most)
        → ended end job o ≡ Found found
        → AreDeclarations most found
    end_kept end job found None h k e = cc
    end_kept end job found (Some one) h k e = let same : job ++ one ≡ found = cc in subst (AreDeclarations most) same (declarations_more job one h k)

    declares_kept : (place : ℕ) (job found : Declarations) (o : Option Declarations) (p : Option Now) (more : Declarations → Now → Verdict Declarations)
        → AreDeclarations most job → IfSome o (AreDeclarations most) → IfSome p Kept
        → ((next : Declarations) (now : Now) → AreDeclarations most next → Kept now → more next now ≡ Found found → AreDeclarations most found)
        → next_declaration place job o p more ≡ Found found → AreDeclarations most found
    declares_kept place job found None p more h k l ih e = cc
    declares_kept place job found (Some one) None more h k l ih e = cc
    declares_kept place job found (Some one) (Some now) more h k l ih e = ih (job ++ one) now (declarations_more job one h k) l e

    goes_kept : (end : ℕ) (job found : Declarations) (now : Now) (t : Token) (tokens : List Token) (next : Next) → AreDeclarations most job → Kept now
        → Keeps (Unit {0}) next
        → ((job : Declarations) (now : Now) → AreDeclarations most job → Kept now → run end job now tokens ≡ Found found → AreDeclarations most found)
        → goes_on t job now next (λ job now. run end job now tokens) ≡ Found found → AreDeclarations most found
    goes_kept end job found now t tokens (Goes next) h k n ih e = ih job next h n e
    goes_kept end job found now t tokens Deep h k n ih e = cc
    goes_kept end job found now t tokens Refused h k n ih e =
        declares_kept t.from job found (whole now) (opening t.from (heading_of t.word)) (λ job now. run end job now tokens) h (whole_kept now k)
        (heading_kept t.from (heading_of t.word)) ih e

    pub any_allowed : (now : Now) (t : Token) → Allows (Unit {0}) now t
    any_allowed (InExpression context (Want level) frames) t = λ inner frame many opened. tt
    any_allowed (InExpression context (Have low high tree) frames) t = tt
    any_allowed (InExpression context (Done tree) frames) t = tt
    any_allowed _ t = tt

    pub run_kept : (end : ℕ) (found : Declarations) (tokens : List Token) (job : Declarations) (now : Now) → AreDeclarations most job → Kept now
        → run end job now tokens ≡ Found found → AreDeclarations most found
    unfolding run
    run_kept end found [] job now h k e = end_kept end job found (whole now) h (whole_kept now k) e
    run_kept end found (t ∷ tokens) job now h k e =
        goes_kept end job found now t tokens (step now t) h k (step_keeps (Unit {0}) now t k (any_allowed now t)) (run_kept end found tokens) e

    -- where a token opens one too many, an operand was wanted
    opened_there : (now : Now) (t : Token) → Allows (Opened now t) now t
    opened_there (InExpression context (Want level) frames) t = λ inner frame many opened.
        record { context = context; level = level; frames = frames; inner = inner; frame = frame; is = refl; opens = opened }
    opened_there (InExpression context (Have low high tree) frames) t = tt
    opened_there (InExpression context (Done tree) frames) t = tt
    opened_there _ t = tt

    pub opened : (now : Now) (t : Token) → Kept now → step now t ≡ Deep → Opened now t
    opened now t k e = subst (Keeps (Opened now t)) e (step_keeps (Opened now t) now t k (opened_there now t))

    pub declarations_are_kept : (end : ℕ) (tokens : List Token) (ds : Declarations) → run end [] Start tokens ≡ Found ds → AreDeclarations most ds
    declarations_are_kept end tokens ds e = run_kept end ds tokens [] Start tt tt e

-- a turn at which one more is open than 64
pub kept_opened : (context : Context) (level : ℕ) (frames : List Frame) (t : Token) {inner : ℕ} {frame : Frame} {s : Front} → Opens level t s inner frame
    → Kept 64 (InExpression context (Want level) frames) → Kept 65 (InExpression context (Want level) frames)
    → Kept 65 (InExpression context (Want inner) (frame ∷ frames))
unfolding opens
kept_opened context level frames t (opens_not low) k more = (more.0, (more.2.0, low, more.1), (refl, omega (arith, k.2.1)))
kept_opened context level frames t opens_minus k more = (more.0, (more.2.0, more.1), (refl, omega (arith, k.2.1)))
kept_opened context level frames t opens_paren k more = (more.0, (more.2.0, more.1), (refl, omega (arith, k.2.1)))
