-- The normal form of the job of a text is short: an expression is printed with a few bytes for each of its tokens, a list of names with a few
-- for each byte of its texts, and all else has the bounds that the rules of a job give.
use Rattle.std.proofs.Common.{◌≡◌, ◌≤◌, ◌+◌, ◌*◌, ◌^◌, ◌-◌, ℕ, suc, ℤ, pos, negsuc, Bool, true, false, cond, Option, Some, None, List, [], ◌∷◌, ◌++◌, map}
use Rattle.std.proofs.Common.{length, drop, refl, sym, ap, subst, ◌∙◌, arith, length-append}
use Rattle.std.specs.Prelude.{nat_lt, nat_le, ◌&&◌, max, slice_get, slice_range, codes, option_map, ⊤}
use Rattle.std.specs.Fmt.{decimal, signed_decimal}
use Rattle.std.specs.List.{list_all, flat_map, All}
use Rattle.std.specs.Str.{bytes_eq}
use Rattle.std.specs.Cmp.Lexicographic.{bytes_decides}
use Rattle.std.proofs.lemmas.List.{length-take}
use Rattle.flu_lemmas.specs.Items.{Pairs}
use Rattle.flu_lemmas.specs.Spans.{is_boundary}
use Rattle.flu_lemmas.specs.Totals.{total}
use Rattle.flu_lemmas.proofs.Elements.{passes_at}
use Rattle.flu_lemmas.proofs.NoTotal.{total_none}
use Rattle.flu_lemmas.proofs.Tests.{and_left, and_right, true_lt, true_le}
use Rattle.flu_lemmas.proofs.Totals.{total-append, total-flat_map, total-plus}
use Rattle.flu_names.specs.Names.{is_name}
use Rattle.flu_model.specs.declared.jobs.At.{At}
use Rattle.flu_model.specs.declared.jobs.At.TheVariants as at
use Rattle.flu_model.specs.declared.jobs.CellRef.{CellRef}
use Rattle.flu_model.specs.declared.jobs.Expr.{Expr}
use Rattle.flu_model.specs.declared.jobs.Expr.TheVariants.{Lit, Value, Key, Item, Time, Read, Has, Neg', Not', Two'}
use Rattle.flu_model.specs.declared.jobs.Act.{Act}
use Rattle.flu_model.specs.declared.jobs.Act.TheVariants.{Add, Raise, Set, Clear, ClearFamily, Emit, Flush}
use Rattle.flu_model.specs.declared.jobs.Action.{Action as JobAction}
use Rattle.flu_model.specs.declared.jobs.Family.{Family}
use Rattle.flu_model.specs.declared.jobs.Kind.{Kind}
use Rattle.flu_model.specs.declared.jobs.Op.{Op}
use Rattle.flu_model.specs.declared.jobs.Op.TheVariants as op
use Rattle.flu_model.specs.declared.jobs.Sort.{Sort}
use Rattle.flu_model.specs.declared.jobs.Sort.TheVariants as sort
use Rattle.flu_model.specs.Contents.{key_count}
use Rattle.flu_model.specs.Erasure.{Term, Literal, EventValue, EventKey, EventItem, EventTime, CellRead, CellHeld, Negative, Negation, Operation, term_of}
use Rattle.flu_model.specs.Erasure.{PlainAct, Adding, Raising, Setting, Clearing, ClearingFamily, Emitting, Flushing, plain_act, PlainAction, plain_action}
use Rattle.flu_model.specs.Erasure.{plain_kind}
use Rattle.flu_model.specs.ListRules.{is_list}
use Rattle.flu_model.specs.Numberings.{Numbering}
use Rattle.flu_model.specs.Rules.{family_fits, ref_fits, ref_has_sort, is_literal, expr_fits, height, is_good_expr, is_short, flush_template_fits, is_keyed}
use Rattle.flu_model.specs.Rules.{act_fits, guard_fits, action_fits, kind_fits}
use Rattle.flu_model.specs.Templates.{family_name, written_key, written_cell, written_template}
use Rattle.flu_text.specs.declared.words.Token.{Token}
use Rattle.flu_text.specs.Grammar.{LeadsTo, IsSpan}
use Rattle.flu_text.specs.Laws.{EachIsSpan}
use Rattle.flu_text.specs.declared.words.Word.{Word}
use Rattle.flu_text.specs.declared.words.Word.TheVariants as w
use Rattle.flu_text.specs.declared.words.Mark.TheVariants as m
use Rattle.flu_text.specs.Signs.{Sign, Any, At as AtSign, Spanned, Named, IsSign, AreSigns, text as text_signs, separated as signs_between}
use Rattle.flu_text.specs.declared.written.WrittenSpan.{WrittenSpan}
use Rattle.flu_syntax.specs.Tree.{Tree, Deed, Action, Declaration, Declarations}
use Rattle.flu_syntax.specs.Tree as d
use Rattle.flu_syntax.specs.Grammar.{op_word, cell_signs, spelled, deed_signs, guard_signs, action_signs, declaration_signs, head_signs}
use Rattle.flu_layout.specs.Laid.{line_end, quoted}
use Rattle.flu_layout.specs.Lists.{separated}
use Rattle.flu_layout.specs.Spelling.{name_of, inside}
use Rattle.flu_parse.specs.Printing.{op_text, term_text, act_text, guard_text, action_text, version_line, cell_line}
use Rattle.flu_parse.specs.Printing.{tag_line, depends_line, actions_line, on_line}
use Rattle.flu_parse.specs.Printing.{source_line, names_line}
use Rattle.flu_grammar.specs.Means.{AllDiffer, IfWritten, Under}
use Rattle.flu_grammar.specs.Terms.{MeansTerm, means_number, means_value, means_key, means_item, means_time, means_read, means_held, means_inside}
use Rattle.flu_grammar.specs.Terms.{means_negative, means_negation, means_operation, MeansExpression}
use Rattle.flu_grammar.specs.Actions.{MeansDeed, means_add, means_raise, means_set, means_clear, means_clear_family, means_emit, means_flush, MeansAction}
use Rattle.flu_grammar.specs.Declared.{DeclaredKind, WrittenNames, under_kind, families_in, kinds_in, actions_in, lists_in}
use Rattle.flu_grammar.specs.Jobs.{MeansNames, MeansDeclaredKind}
use Rattle.flu_grammar.specs.Laws.{NormalFormIsShort}
use Rattle.flu_grammar.proofs.JobTexts.{kinds_differ}
use Rattle.flu_grammar.proofs.Lists.{differ_head, differ_tail, get_map}
use Rattle.flu_grammar.proofs.NormalLines.{flat_few, list_named, three_long, four_long, six_long, seven_long, separated_few, name_few, digits, quoted_few}
use Rattle.flu_grammar.proofs.NormalLines.{version_few, cell_line_few, sources_few, tag_lines_few, depends_lines_few}

module _ (families : List Family) (named : list_all (λ (f : Family). is_name f.name) families ≡ true) where
  family_few : (i : ℕ) → length (family_name (slice_get families i)) ≤ 32
  family_few i = by (slice_get families i) refl
    where
      by : (o : Option Family) → slice_get families i ≡ o → length (family_name o) ≤ 32
      by None e = omega arith
      by (Some f) e = name_few f.name (passes_at (λ (g : Family). is_name g.name) families i f named e)

  key_few : (o : Option Family) (keyed : Bool) (key : At) → family_fits o keyed key ≡ true → length (written_key key) ≤ 7
  key_few None keyed key e = absurd cc
  key_few (Some f) keyed at.Alone e = omega arith
  key_few (Some f) keyed at.OwnKey e = omega arith
  key_few (Some f) keyed at.OwnItem e = omega arith
  key_few (Some f) keyed (at.Fixed k) e =
      let small = true_lt k key_count (and_right f.keyed (nat_lt k key_count) e) in
      omega (arith, digits 5 k (omega arith) (omega (arith, small)) (omega (arith, small)), length-append (decimal k) (codes "]"))

  cell_few : (keyed : Bool) (r : CellRef) → ref_fits families keyed r ≡ true → length (written_cell families r) ≤ 39
  cell_few keyed r e =
      let name = family_few r.family in
      let key = key_few (slice_get families r.family) keyed r.at e in
      omega (arith, name, key, length-append (family_name (slice_get families r.family)) (written_key r.at))

  -- ---- expressions
  -- what stands alone in it has few bytes
  abbrev SmallTerm : Term → Type 0
  SmallTerm (Literal n) = length (signed_decimal n) ≤ 39
  SmallTerm EventValue = ⊤
  SmallTerm EventKey = ⊤
  SmallTerm EventItem = ⊤
  SmallTerm EventTime = ⊤
  SmallTerm (CellRead r) = length (written_cell families r) ≤ 39
  SmallTerm (CellHeld r) = length (written_cell families r) ≤ 39
  SmallTerm (Negative e) = SmallTerm e
  SmallTerm (Negation e) = SmallTerm e
  SmallTerm (Operation o a b) = SmallTerm a × SmallTerm b

  literal_few : (n : ℤ) → is_literal n ≡ true → length (signed_decimal n) ≤ 39
  literal_few (pos n) e = let small = true_lt n (2 ^ 63) e in omega (arith, digits 19 n (omega arith) (omega (arith, small)) (omega (arith, small)))
  literal_few (negsuc n) e = absurd cc

  small_term : (keyed has_value : Bool) (e : Expr) → expr_fits families keyed has_value e ≡ true → SmallTerm (term_of e)
  small_term keyed has_value (Lit n) fits = literal_few n fits
  small_term keyed has_value Value fits = tt
  small_term keyed has_value Key fits = tt
  small_term keyed has_value Item fits = tt
  small_term keyed has_value Time fits = tt
  small_term keyed has_value (Read r) fits = cell_few keyed r fits
  small_term keyed has_value (Has r) fits = cell_few keyed r fits
  small_term keyed has_value (Neg' p e) fits = small_term keyed has_value e fits
  small_term keyed has_value (Not' p e) fits = small_term keyed has_value e fits
  small_term keyed has_value (Two' o p a q b) fits = (
    small_term keyed has_value a (and_left (expr_fits families keyed has_value a) (expr_fits families keyed has_value b) fits),
    small_term keyed has_value b (and_right (expr_fits families keyed has_value a) (expr_fits families keyed has_value b) fits),
  )

  op_few : (o : Op) → length (op_text o) ≤ 3
  op_few op.Plus = omega arith
  op_few op.Minus = omega arith
  op_few op.Times = omega arith
  op_few op.Divide = omega arith
  op_few op.Remainder = omega arith
  op_few op.Less = omega arith
  op_few op.LessEq = omega arith
  op_few op.More = omega arith
  op_few op.MoreEq = omega arith
  op_few op.Same = omega arith
  op_few op.Differs = omega arith
  op_few op.Both = omega arith
  op_few op.Either = omega arith

  -- what is written means it with the families as they are declared, of which no list is said
  module _ (text : List ℕ) (declared : List Family) (under : Under) where
    -- AN EXPRESSION has few bytes for each of its tokens
    term_few : {e : Tree} {t : Term} → MeansTerm text declared under e t → SmallTerm t → length (term_text families t) ≤ 23 * length (spelled e) + 16
    term_few (means_number n) small = omega (arith, small)
    term_few (means_value at h) small = omega arith
    term_few (means_key at h) small = omega arith
    term_few (means_item r item has) small = omega arith
    term_few (means_time at) small = omega arith
    term_few (means_read r c other means) small = omega (arith, small)
    term_few (means_held at r c means) small = omega (arith, small)
    term_few (means_inside at e t means) small = omega (arith, term_few means small, length-append (spelled e) (Any (w.Mark m.CloseParen) ∷ []))
    term_few (means_negative at e t means) small = omega (arith, term_few means small, length-append (term_text families t) (codes ")"))
    term_few (means_negation at e t means) small = omega (arith, term_few means small, length-append (term_text families t) (codes ")"))
    term_few (means_operation o at left right a b fits first second) small =
        omega (
          arith,
          op_few o,
          term_few first small.0,
          term_few second small.1,
          length-append (spelled left) (AtSign (op_word o) at ∷ spelled right),
          six_long (term_text families a) (codes " ") (op_text o) (codes " ") (term_text families b) (codes ")"),
        )

    expression_few : (e : Tree) (t : Term) → MeansExpression text declared under e t → SmallTerm t
        → length (term_text families t) ≤ 23 * length (spelled e) + 16
    expression_few e t is small = term_few is.means small

    -- ---- actions
    abbrev SmallAct : PlainAct → Type 0
    SmallAct (Adding r e) = (length (written_cell families r) ≤ 39) × SmallTerm e
    SmallAct (Raising r e) = (length (written_cell families r) ≤ 39) × SmallTerm e
    SmallAct (Setting r e) = (length (written_cell families r) ≤ 39) × SmallTerm e
    SmallAct (Clearing r) = length (written_cell families r) ≤ 39
    SmallAct (ClearingFamily f) = ⊤
    SmallAct (Emitting ps) = length (written_template families ps) ≤ 256
    SmallAct (Flushing f ps) = length (written_template families ps) ≤ 256

    abbrev SmallGuard : Option Term → Type 0
    SmallGuard None = ⊤
    SmallGuard (Some t) = SmallTerm t

    good_term : (e : Expr) → is_good_expr families under.keyed under.has_value e ≡ true → SmallTerm (term_of e)
    good_term e good = small_term under.keyed under.has_value e (and_left (expr_fits families under.keyed under.has_value e) (nat_le (height e) 32) good)

    -- an action of a cell and an expression
    cell_fits : (r : CellRef) (sort : Sort) (e : Expr) → ref_fits families under.keyed r && ref_has_sort families sort r
        && is_good_expr families under.keyed under.has_value e ≡ true
        → (length (written_cell families r) ≤ 39) × SmallTerm (term_of e)
    cell_fits r sort e fits = (
      cell_few under.keyed r (and_left (ref_fits families under.keyed r) (ref_has_sort families sort r)
          (and_left (ref_fits families under.keyed r && ref_has_sort families sort r) (is_good_expr families under.keyed under.has_value e) fits)),
      good_term e (and_right (ref_fits families under.keyed r && ref_has_sort families sort r) (is_good_expr families under.keyed under.has_value e) fits),
    )

    small_act : (a : Act) → act_fits families under.keyed under.has_value a ≡ true → SmallAct (plain_act a)
    small_act (Add r e) fits = cell_fits r sort.Sum e fits
    small_act (Raise r e) fits = cell_fits r sort.Max e fits
    small_act (Set r e) fits = cell_fits r sort.Last e fits
    small_act (Clear r) fits = cell_few under.keyed r fits
    small_act (ClearFamily f) fits = tt
    small_act (Emit ps) fits = true_le (length (written_template families ps)) 256 (and_right _ (is_short (written_template families ps)) fits)
    small_act (Flush f ps) fits =
        true_le (length (written_template families ps)) 256 (and_right _ (is_short (written_template families ps))
        (and_right (is_keyed (slice_get families f)) (flush_template_fits families f under.has_value ps) fits))

    small_guard : (o : Option Expr) → guard_fits families under.keyed under.has_value o ≡ true → SmallGuard (option_map term_of o)
    small_guard None fits = tt
    small_guard (Some e) fits = good_term e fits

    quoted_length : (bytes : List ℕ) → length (quoted bytes) ≡ length bytes + 2
    quoted_length bytes = omega (arith, length-append bytes (34 ∷ []))

    -- a word, a cell and an expression
    cell_act : (word : List ℕ) (r : CellRef) (e : Tree) (t : Term) (signs : ℕ) → length word ≤ 6 → length (written_cell families r) ≤ 39
        → length (term_text families t) ≤ 23 * length (spelled e) + 16 → length (spelled e) ≤ signs
        → length (word ++ written_cell families r ++ codes " " ++ term_text families t) ≤ 23 * signs + 297
    cell_act word r e t signs short cell term few =
        omega (arith, short, cell, term, few, four_long word (written_cell families r) (codes " ") (term_text families t))

    act_few : (at : ℕ) {deed : Deed} {act : PlainAct} → MeansDeed text declared under deed act → SmallAct act
        → length (act_text families act) ≤ 23 * length (deed_signs at deed) + 297
    act_few at (means_add r e c t cell term) small =
        cell_act (codes "add ") c e t _ (omega arith) small.0 (expression_few e t term small.1) (omega (arith, length-append (cell_signs r) (spelled e)))
    act_few at (means_raise r e c t cell term) small =
        cell_act (codes "raise ") c e t _ (omega arith) small.0 (expression_few e t term small.1) (omega (arith, length-append (cell_signs r) (spelled e)))
    act_few at (means_set r e c t cell term) small =
        cell_act (codes "set ") c e t _ (omega arith) small.0 (expression_few e t term small.1) (omega (arith, length-append (cell_signs r) (spelled e)))
    act_few at (means_clear r c cell) small = omega (arith, small)
    act_few at (means_clear_family r number third alone family) small = omega (arith, family_few number)
    act_few at (means_emit s ps means) small = omega (arith, small, quoted_length (written_template families ps))
    act_few at (means_flush name s number ps family means) small =
        omega (
          arith,
          small,
          quoted_length (written_template families ps),
          family_few number,
          three_long (family_name (slice_get families number)) (codes " ") (quoted (written_template families ps)),
        )

    guard_few : (written : Option Tree) (guard : Option Term) → IfWritten (MeansExpression text declared under) written guard → SmallGuard guard
        → length (guard_text families guard) ≤ 23 * length (guard_signs written) + 22
    guard_few None None means small = omega arith
    guard_few None (Some t) means small = absurd means
    guard_few (Some e) None means small = absurd means
    guard_few (Some e) (Some t) means small = omega (arith, expression_few e t means small)

    action_few : (written : Action) (a : JobAction) → MeansAction text declared under written (plain_action a)
        → action_fits families under.keyed under.has_value a ≡ true
        → length (action_text families (plain_action a)) ≤ 23 * length (action_signs written) + 319
    action_few written a means fits =
        let act = act_few written.at means.act (small_act a.act
        (and_left (act_fits families under.keyed under.has_value a.act) (guard_fits families under.keyed under.has_value a.guard) fits)) in
        let guard = guard_few written.guard (option_map term_of a.guard) means.guard
        (small_guard a.guard (and_right (act_fits families under.keyed under.has_value a.act)
        (guard_fits families under.keyed under.has_value a.guard) fits)) in
        omega (
          arith,
          act,
          guard,
          length-append (act_text families (plain_act a.act)) (guard_text families (option_map term_of a.guard)),
          length-append (deed_signs written.at written.deed) (guard_signs written.guard),
        )

    actions_few : (ws : List Action) (js : List JobAction) → Pairs (MeansAction text declared under) ws (map plain_action js)
        → list_all (action_fits families under.keyed under.has_value) js ≡ true
        → total (λ a. 2 + length (action_text families a)) (map plain_action js) ≤ 23 * total (λ w. length (action_signs w)) ws + 321 * length js
    actions_few [] [] means fits = omega arith
    actions_few [] (a ∷ js) means fits = absurd means
    actions_few (w ∷ ws) [] means fits = absurd means
    actions_few (w ∷ ws) (a ∷ js) means fits =
        let here = action_few w a means.0 (and_left (action_fits families under.keyed under.has_value a)
        (list_all (action_fits families under.keyed under.has_value) js) fits) in
        let more = actions_few ws js means.1 (and_right (action_fits families under.keyed under.has_value a)
        (list_all (action_fits families under.keyed under.has_value) js) fits) in
        omega (arith, here, more)

  -- the line of a kind's actions
  line_few : (name : List ℕ) (js : List PlainAction) → length name ≤ 32
      → length (actions_line families name js) ≤ total (λ a. 2 + length (action_text families a)) js + 38
  line_few name [] short = omega arith
  line_few name (a ∷ js) short =
      let items = separated (codes "; ") (action_text families) (a ∷ js) in
      omega (
        arith,
        short,
        separated_few (codes "; ") (action_text families) (a ∷ js),
        four_long name (codes ": ") items line_end,
      )

-- ---- tokens
-- a sign weighs as much as the token of a text has bytes, and 1 otherwise; none weighs less
abbrev span_weight : WrittenSpan → ℕ
span_weight span = max 1 (span.to - span.from)

abbrev sign_weight : Sign → ℕ
sign_weight (Any word) = 1
sign_weight (AtSign word from) = 1
sign_weight (Spanned word span) = span_weight span
sign_weight (Named span) = 1

-- each token takes as many bytes of the text
sign_few : (text : List ℕ) (s : Sign) (t : Token) → IsSign s t → IsSpan text t → sign_weight s ≤ t.to - t.from
sign_few text (Any word) t is span = let rises = span.rises in omega (arith, rises)
sign_few text (AtSign word from) t is span = let rises = span.rises in omega (arith, rises)
sign_few text (Spanned word span) t is spans =
    let rises = spans.rises in
    let from = is.1 in
    let to = is.2 in
    omega (arith, rises, from, to)
sign_few text (Named span) t is spans = let rises = spans.rises in omega (arith, rises)

tokens_few : (text : List ℕ) (from : ℕ) (signs : List Sign) (ts : List Token) (to : ℕ) → AreSigns signs ts → All (IsSpan text) ts → LeadsTo text from ts to
    → from + total sign_weight signs ≤ to
tokens_few text from [] [] to are spans leads = let rises = leads.rises in omega (arith, rises)
tokens_few text from [] (t ∷ ts) to are spans leads = absurd are
tokens_few text from (s ∷ signs) [] to are spans leads = absurd are
tokens_few text from (s ∷ signs) (t ∷ ts) to are spans leads =
    let rises = leads.0.rises in
    let span = spans 0 t (omega arith) in
    let up = span.rises in
    let here = sign_few text s t are.0 span in
    let more = tokens_few text t.to signs ts to are.1 (λ k x lt. spans (suc k) x (omega (arith, lt))) leads.2 in
    omega (arith, rises, up, here, more)

span_some : (span : WrittenSpan) → 1 ≤ span_weight span
span_some span = omega arith

sign_some : (s : Sign) → 1 ≤ sign_weight s
sign_some (Any word) = omega arith
sign_some (AtSign word from) = omega arith
sign_some (Spanned word span) = span_some span
sign_some (Named span) = omega arith

signs_weigh : (signs : List Sign) → length signs ≤ total sign_weight signs
signs_weigh [] = omega arith
signs_weigh (s ∷ signs) = omega (arith, sign_some s, signs_weigh signs)

-- ---- lists of names
-- what the texts of a declaration's list weigh
abbrev texts_weight : Declaration → ℕ
texts_weight (d.Cell name cells sort) = 0
texts_weight (d.Tag name keyed item has_value) = 0
texts_weight (d.Names at name texts) = total span_weight texts
texts_weight (d.Depends a b relation) = 0
texts_weight (d.On kind actions) = 0
texts_weight (d.Source name file rate slack tags) = 0
texts_weight (d.Clock at name every rate tag) = 0

texts_weigh : (mark : Word) (texts : List WrittenSpan) → total span_weight texts ≤ total sign_weight (signs_between mark text_signs texts)
texts_weigh mark [] = omega arith
texts_weigh mark (s ∷ texts) = omega (arith, others texts)
  where
    others : (ss : List WrittenSpan) → total span_weight ss ≤ total sign_weight (flat_map (λ (y : WrittenSpan). Any mark ∷ text_signs y) ss)
    others [] = omega arith
    others (y ∷ ss) = omega (arith, others ss)

-- what is between the quotes of a text is shorter than it
inside_few : (text : List ℕ) (s : WrittenSpan) → length (inside text s) ≤ span_weight s
inside_few text s = by (nat_le (s.from + 1) (s.to - 1) && is_boundary text (s.from + 1) && is_boundary text (s.to - 1))
  where
    by : (b : Bool) → length (cond b (slice_range text (s.from + 1) (s.to - 1)) []) ≤ span_weight s
    by false = omega arith
    by true = omega (arith, length-take (s.to - 1 - (s.from + 1)) (drop (s.from + 1) text))

module _ (text : List ℕ) where
  named_few : (ss : List WrittenSpan) → total (λ (t : List ℕ). 2 + length (quoted t)) (map (inside text) ss) ≤ 23 * total span_weight ss
  named_few [] = omega arith
  named_few (s ∷ ss) = omega (arith, named_few ss, inside_few text s, span_some s, quoted_few (inside text s))

  -- the line of a list
  list_few : (v : WrittenNames) (l : Numbering) → MeansNames text v l → is_list l ≡ true → length (names_line l) ≤ 23 * total span_weight v.texts + 41
  list_few v l means fits =
      let items = separated (codes ", ") quoted l.texts in
      let named : total (λ (t : List ℕ). 2 + length (quoted t)) l.texts ≡ total (λ (t : List ℕ). 2 + length (quoted t)) (map (inside text) v.texts) =
      ap (total (λ (t : List ℕ). 2 + length (quoted t))) means.texts in
      omega (
        arith,
        name_few l.name (list_named l fits),
        separated_few (codes ", ") quoted l.texts,
        named,
        named_few v.texts,
        four_long l.name (codes ": ") items line_end,
      )

  lists_few : (vs : List WrittenNames) (ls : List Numbering) → Pairs (MeansNames text) vs ls → list_all is_list ls ≡ true
      → length (flat_map names_line ls) ≤ 23 * total (λ (v : WrittenNames). total span_weight v.texts) vs + 41 * length ls
  lists_few [] [] means fits = omega arith
  lists_few [] (l ∷ ls) means fits = absurd means
  lists_few (v ∷ vs) [] means fits = absurd means
  lists_few (v ∷ vs) (l ∷ ls) means fits =
      let here = list_few v l means.0 (and_left (is_list l) (list_all is_list ls) fits) in
      let more = lists_few vs ls means.1 (and_right (is_list l) (list_all is_list ls) fits) in
      omega (arith, here, more, length-append (names_line l) (flat_map names_line ls))

-- the texts of all lists
lists_weigh : (ds : Declarations) → total (λ (v : WrittenNames). total span_weight v.texts) (flat_map lists_in ds) ≡ total texts_weight ds
lists_weigh [] = refl
lists_weigh (d.Cell name cells sort ∷ ds) = omega (arith, lists_weigh ds)
lists_weigh (d.Tag name keyed item has_value ∷ ds) = omega (arith, lists_weigh ds)
lists_weigh (d.Names at name texts ∷ ds) = omega (arith, lists_weigh ds)
lists_weigh (d.Depends a b relation ∷ ds) = omega (arith, lists_weigh ds)
lists_weigh (d.On kind actions ∷ ds) = omega (arith, lists_weigh ds)
lists_weigh (d.Source name file rate slack tags ∷ ds) = omega (arith, lists_weigh ds)
lists_weigh (d.Clock at name every rate tag ∷ ds) = omega (arith, lists_weigh ds)

-- ---- the actions of all kinds
-- how many tokens the actions of a kind of this name have in a declaration
abbrev size_of : List ℕ → List ℕ → Declaration → ℕ
size_of text name y = total (λ (a : Action). length (action_signs a)) (actions_in text name y)

action_tokens : (mark : Word) (js : List Action) → total (λ (a : Action). length (action_signs a)) js ≤ length (signs_between mark action_signs js)
action_tokens mark [] = omega arith
action_tokens mark (a ∷ js) = omega (arith, length-append (action_signs a) (flat_map (λ (y : Action). Any mark ∷ action_signs y) js), others js)
  where
    others : (ys : List Action) → total (λ (y : Action). length (action_signs y)) ys ≤ length (flat_map (λ (y : Action). Any mark ∷ action_signs y) ys)
    others [] = omega arith
    others (y ∷ ys) = omega (arith, length-append (Any mark ∷ action_signs y) (flat_map (λ (z : Action). Any mark ∷ action_signs z) ys), others ys)

module _ (text : List ℕ) where
  abbrev declared_name : DeclaredKind → List ℕ
  declared_name k = k.name

  -- actions are those of one kind at most
  one_kind : (name : List ℕ) (actions : List Action) (ks : List DeclaredKind) → AllDiffer (map declared_name ks)
      → total (λ (k : DeclaredKind). total (λ (a : Action). length (action_signs a)) (cond (bytes_eq name k.name) actions [])) ks
      ≤ total (λ (a : Action). length (action_signs a)) actions
  one_kind name actions [] differ = omega arith
  one_kind name actions (k ∷ ks) differ = by_test (bytes_eq name k.name) refl (one_kind name actions ks (differ_tail k.name (map declared_name ks) differ))
    where
      by_test : (b : Bool) → bytes_eq name k.name ≡ b
          → total (λ (j : DeclaredKind). total (λ (a : Action). length (action_signs a)) (cond (bytes_eq name j.name) actions [])) ks ≤ total
          (λ (a : Action). length (action_signs a)) actions
          → total (λ (a : Action). length (action_signs a)) (cond b actions []) + total
          (λ (j : DeclaredKind). total (λ (a : Action). length (action_signs a)) (cond (bytes_eq name j.name) actions [])) ks
          ≤ total (λ (a : Action). length (action_signs a)) actions
      by_test false e more = omega (arith, more)
      by_test true e more =
          let none : total (λ (j : DeclaredKind). total (λ (a : Action). length (action_signs a)) (cond (bytes_eq name j.name) actions [])) ks ≡ 0 =
          total_none (λ (j : DeclaredKind). total (λ (a : Action). length (action_signs a)) (cond (bytes_eq name j.name) actions [])) ks
          (λ i j at. other i j at (bytes_eq name j.name) refl) in
          omega (arith, none)
        where
          other : (i : ℕ) (j : DeclaredKind) → slice_get ks i ≡ Some j → (c : Bool) → bytes_eq name j.name ≡ c
              → total (λ (a : Action). length (action_signs a)) (cond c actions []) ≡ 0
          other i j at false f = refl
          other i j at true f =
              let same : j.name ≡ k.name = sym ((bytes_decides name j.name).0 f) ∙ (bytes_decides name k.name).0 e in
              absurd (differ_head k.name (map declared_name ks) differ i (get_map declared_name ks i j at ∙ ap (λ (n : List ℕ). Some n) same))

  no_actions : (f : DeclaredKind → ℕ) → ((k : DeclaredKind) → f k ≡ 0) → (ks : List DeclaredKind) → total f ks ≡ 0
  no_actions f none ks = total_none f ks (λ i k at. none k)

  -- so a declaration's tokens weigh no less than these and the texts of its list
  one_declaration : (ks : List DeclaredKind) → AllDiffer (map declared_name ks) → (y : Declaration)
      → total (λ (k : DeclaredKind). size_of text k.name y) ks + texts_weight y ≤ total sign_weight (declaration_signs y)
  one_declaration ks differ (d.Cell name cells sort) = omega (arith, no_actions (λ k. 0) (λ k. refl) ks)
  one_declaration ks differ (d.Tag name keyed item has_value) = omega (arith, no_actions (λ k. 0) (λ k. refl) ks)
  one_declaration ks differ (d.Names at name texts) =
      omega (arith, no_actions (λ k. 0) (λ k. refl) ks, texts_weigh (w.Mark m.Comma) texts)
  one_declaration ks differ (d.Depends a b relation) = omega (arith, no_actions (λ k. 0) (λ k. refl) ks)
  one_declaration ks differ (d.Source name file rate slack tags) = omega (arith, no_actions (λ k. 0) (λ k. refl) ks)
  one_declaration ks differ (d.Clock at name every rate tag) = omega (arith, no_actions (λ k. 0) (λ k. refl) ks)
  one_declaration ks differ (d.On kind actions) =
      omega (
        arith,
        one_kind (name_of text kind) actions ks differ,
        action_tokens (w.Mark m.Semicolon) actions,
        signs_weigh (signs_between (w.Mark m.Semicolon) action_signs actions),
      )

  all_declarations : (ks : List DeclaredKind) → AllDiffer (map declared_name ks) → (ds : Declarations)
      → total (λ (k : DeclaredKind). total (size_of text k.name) ds) ks + total texts_weight ds ≤ total sign_weight (flat_map declaration_signs ds)
  all_declarations ks differ [] = omega (arith, no_actions (λ k. 0) (λ k. refl) ks)
  all_declarations ks differ (y ∷ ds) =
      omega (
        arith,
        one_declaration ks differ y,
        all_declarations ks differ ds,
        total-append sign_weight (declaration_signs y) (flat_map declaration_signs ds),
        total-plus (λ (k : DeclaredKind). size_of text k.name y) (λ (k : DeclaredKind). total (size_of text k.name) ds) ks,
      )

  -- the lines of all kinds
  kinds_few : (version : ℕ) (families said : List Family) (named : list_all (λ (f : Family). is_name f.name) families ≡ true) (ds : Declarations)
      (declared : List DeclaredKind) (ks : List Kind)
      → Pairs (MeansDeclaredKind text version said ds) declared (map plain_kind ks) → list_all (kind_fits families) ks ≡ true
      → length (flat_map (on_line families) (map plain_kind ks)) ≤ 23 * total
      (λ (k : DeclaredKind). total (size_of text k.name) ds) declared + 10310 * length ks
  kinds_few version families said named ds [] [] means fits = omega arith
  kinds_few version families said named ds [] (k ∷ ks) means fits = absurd means
  kinds_few version families said named ds (x ∷ xs) [] means fits = absurd means
  kinds_few version families said named ds (x ∷ xs) (k ∷ ks) means fits =
      let one = and_left (kind_fits families k) (list_all (kind_fits families) ks) fits in
      let front = and_left (is_name k.name && nat_le (length k.actions) 32) (list_all (action_fits families k.keyed k.has_value) k.actions) one in
      let all = and_right (is_name k.name && nat_le (length k.actions) 32) (list_all (action_fits families k.keyed k.has_value) k.actions) one in
      let name = name_few k.name (and_left (is_name k.name) (nat_le (length k.actions) 32) front) in
      let count = true_le (length k.actions) 32 (and_right (is_name k.name) (nat_le (length k.actions) 32) front) in
      let is = means.0 in
      let so_keyed = subst (λ (b : Bool). list_all (action_fits families b k.has_value) k.actions ≡ true) is.keyed all in
      let so_valued = subst (λ (b : Bool). list_all (action_fits families x.keyed b) k.actions ≡ true) is.has_value so_keyed in
      let here = actions_few families named text said (under_kind version x) (flat_map (actions_in text x.name) ds) k.actions is.actions so_valued in
      let size = total-flat_map (λ (a : Action). length (action_signs a)) (actions_in text x.name) ds in
      let line = line_few families named k.name (map plain_action k.actions) name in
      let more = kinds_few version families said named ds xs ks means.1 (and_right (kind_fits families k) (list_all (kind_fits families) ks) fits) in
      omega (arith, here, size, line, count, more, length-append (on_line families (plain_kind k)) (flat_map (on_line families) (map plain_kind ks)))

-- ---- the whole
pub normal_form_is_short : EachIsSpan → NormalFormIsShort
normal_form_is_short spans p bytes is =
    let ds = is.written.declarations in
    let kinds = map plain_kind p.kinds in
    let declared = flat_map (kinds_in bytes) ds in
    let said = flat_map (families_in bytes) ds in
    let tokens = tokens_few bytes 0 (head_signs is.written.head ++ flat_map declaration_signs ds) is.tokens (length bytes) is.grammar.spelled
    (spans bytes is.tokens is.text.utf8 is.cut) is.cut in
    let weights = all_declarations bytes declared (kinds_differ bytes ds is.means.own_names) ds in
    let actions = kinds_few bytes p.version p.families said p.families_fit ds declared p.kinds is.means.kinds p.kinds_fit in
    let lists = lists_few bytes (flat_map lists_in ds) p.lists is.means.lists p.lists_are in
    let cells = flat_few (cell_line p.lists) 85 (λ (f : Family). is_name f.name) (cell_line_few p) p.families p.families_fit in
    let tags = tag_lines_few p p.kinds p.kinds_fit in
    let depends = depends_lines_few p p.depends in
    let sources = sources_few p 0 p.sources p.sources_fit in
    let short = is.text.short in
    let a = p.few_families in
    let g = p.few_lists in
    let b = p.few_kinds in
    let c = p.few_depends in
    let e = p.few_sources in
    let f = p.few_itags in
    omega (
      arith,
      tokens,
      weights,
      actions,
      lists,
      lists_weigh ds,
      cells,
      tags,
      depends,
      sources,
      short,
      a,
      b,
      c,
      e,
      f,
      g,
      version_few p,
      total-append sign_weight (head_signs is.written.head) (flat_map declaration_signs ds),
      seven_long (version_line p.version p.ties p.iso) (flat_map names_line p.lists) (flat_map (cell_line p.lists) p.families)
          (flat_map (tag_line p.lists) kinds)
          (flat_map (depends_line kinds) p.depends) (flat_map (on_line p.families) kinds) (flat_map (source_line kinds) p.sources),
    )
