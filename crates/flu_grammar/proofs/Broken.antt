-- Each fault that a look at a part of a written job finds is by a rule that the part breaks.
use Rattle.std.proofs.Common.{◌≡◌, ◌≢◌, ℕ, zero, suc, ◌+◌, ◌<◌, ◌≤◌, Bool, true, false, cond, List, [], ◌∷◌, ◌++◌}
use Rattle.std.proofs.Common.{length, Option, Some, None, Ok, Err, refl, sym, ap, subst, ◌∙◌, length-append, arith}
use Rattle.std.specs.Prelude.{Result, ◌==◌, ◌&&◌, nat_lt, nat_le, slice_get, is_some, if◌then◌else◌}
use Rattle.std.specs.List.{list_all, list_any}
use Rattle.std.proofs.lemmas.Grind.{common_steps}
use Rattle.flu_lemmas.specs.Loops.{◌>>=◌, ◌>>◌, each}
use Rattle.flu_lemmas.proofs.Loops.{bind_ok, collect}
use Rattle.flu_lemmas.proofs.Searches.{eq_true}
use Rattle.flu_lemmas.proofs.Tests.{not_both, and_left, and_right, both}
use Rattle.flu_lemmas.proofs.Elements.{passes_at, fails_at}
use Rattle.flu_model.specs.declared.limits.What.TheVariants.{Key, Actions, Height}
use Rattle.flu_model.specs.declared.jobs.Family.{Family}
use Rattle.flu_model.specs.declared.jobs.Sort.{Sort}
use Rattle.flu_model.specs.declared.jobs.At.TheVariants as at
use Rattle.flu_model.specs.declared.jobs.Piece.{Piece as JobPiece}
use Rattle.flu_model.specs.declared.jobs.Piece.TheVariants as piece
use Rattle.flu_model.specs.Contents.{key_count}
use Rattle.flu_model.specs.Erasure.{PlainAction, Literal, EventValue, EventKey, EventItem, EventTime, CellRead}
use Rattle.flu_model.specs.Erasure.{CellHeld, Negative, Negation, Operation, Clearing, ClearingFamily, Emitting, Flushing}
use Rattle.flu_text.specs.declared.written.WrittenSpan.{WrittenSpan}
use Rattle.flu_text.specs.declared.written.WrittenNumber.{WrittenNumber}
use Rattle.flu_syntax.specs.declared.tree.WrittenKey.{WrittenKey}
use Rattle.flu_syntax.specs.declared.tree.WrittenKey.TheVariants as k
use Rattle.flu_syntax.specs.declared.tree.WrittenRef.{WrittenRef}
use Rattle.flu_syntax.specs.Tree.{Tree, NumberTree, ValueTree, KeyTree, TimeTree, ReadTree, HasTree, ParenTree}
use Rattle.flu_syntax.specs.Tree.{NegTree, NotTree, TwoTree, Deed, Writes, Clears, Emits, Flushes, Action}
use Rattle.flu_layout.specs.Spelling.{name_of, inside, written_value}
use Rattle.flu_parse.specs.declared.faults.JobFault.{JobFault}
use Rattle.flu_parse.specs.declared.faults.JobFault.TheVariants as f
use Rattle.flu_parse.specs.declared.names.FamilyHead.{FamilyHead}
use Rattle.flu_parse.specs.declared.names.KindHead.{KindHead}
use Rattle.flu_parse.specs.declared.pieces.WrittenPiece.{WrittenPiece}
use Rattle.flu_parse.specs.declared.pieces.WrittenPiece.TheVariants as w
use Rattle.flu_parse.specs.Faults.{Found, unless}
use Rattle.flu_parse.specs.Naming.{Naming, takes_items, look_up, known, family_of}
use Rattle.flu_parse.specs.Cells.{resolved_key, is_wanted, brackets_fit, family_for, at_of, resolved_cell}
use Rattle.flu_parse.specs.Terms.{height, is_alone, is_item, op_fits, first_part, first_token, term_of, expression_of}
use Rattle.flu_parse.specs.Templates.{Template, template_at, known_name, known_names, own_key_fits, read_fits, piece_fits, family_piece}
use Rattle.flu_parse.specs.Templates.{piece_of, pieces_of, may_be_printed, template_of}
use Rattle.flu_parse.specs.Actions.{sort_for, act_with, clears_whole, resolved_act, guard_of, action_of, with_action, resolved_actions}
use Rattle.flu_grammar.specs.Actions.{MeansAction}
use Rattle.flu_grammar.specs.Templates.{AreCut}
use Rattle.flu_grammar.specs.Faults.{NoneIsNamed}
use Rattle.flu_grammar.specs.Means.{HasItems}
use Rattle.flu_grammar.specs.Cells.{family_name}
use Rattle.flu_grammar.specs.Broken.{IsFamily, has_brackets, BreaksKey, key_of_unkeyed, item_of_none, key_too_great, BreaksCell, cell_unknown}
use Rattle.flu_grammar.specs.Broken.{cell_of_other_sort, cell_brackets, cell_key, BreaksTerm, value_of_none, key_of_unkeyed_kind, item_of_no_items, in_read}
use Rattle.flu_grammar.specs.Broken.{in_held, inside_parentheses, in_negative, in_negation, on_the_left, on_the_right, division, BreaksExpression, in_term}
use Rattle.flu_grammar.specs.Broken.{too_high, BreaksPiece, piece_value, piece_key, piece_item, piece_brackets, piece_own_key, piece_own_item}
use Rattle.flu_grammar.specs.Broken.{BreaksTemplate, field_unknown, family_unknown, no_pieces, printed_too_long, ClearsWhole}
use Rattle.flu_grammar.specs.Broken.{wrong_piece, field_key, BreaksDeed, in_cell, in_amount, in_cleared, in_emitted, flushed_unknown, flushed_unkeyed}
use Rattle.flu_grammar.specs.Broken.{in_flushed, BreaksAction, in_deed, in_guard, BreaksActions, in_action, too_many_actions}
use Rattle.flu_grammar.proofs.FaultKinds.{FaultsAre, no_fault, faults_bind}
use Rattle.flu_grammar.proofs.Heads.{looked_up}
use Rattle.flu_grammar.proofs.Cuts.{template_cut, cut_template}
use Rattle.flu_grammar.proofs.Fields.{is_formless, told, formed, all_formed}
use Rattle.flu_grammar.proofs.Items.{divides_before}
use Rattle.flu_grammar.proofs.Looks.{found_each}
use Rattle.flu_grammar.proofs.JobTerms.{item_is, no_item}
use Rattle.flu_grammar.proofs.JobTemplates.{pieces_mean, fit_formed, prints}
use Rattle.flu_grammar.proofs.JobActions.{keyed_family, actions_mean}
use Rattle.flu_grammar.proofs.Lists.{some_same, no_some, pairs_length}
use Rattle.flu_grammar.proofs.JobCells.{family_head, KnowFamilies, under_head, takes, known_is, wants_sort, look_up_found}

-- ---- looks, with what they found before

module _ {E : Type 0} (P : E → Type 0) where
  pub faults_found : {A B : Type 0} (r : Result A E) (g : A → Result B E) → FaultsAre P r → ((x : A) → r ≡ Ok x → FaultsAre P (g x)) → FaultsAre P (r >>= g)
  faults_found (Ok x) g a b e h = b x refl e h
  faults_found (Err y) g a b e h = let same : y ≡ e = cc in subst P same (a y refl)

  -- a test that comes alone, and one before another look
  pub fault_where : (b : Bool) (fault : E) → (b ≡ false → P fault) → FaultsAre P (cond {A = Result (Unit {0}) E} b (Ok tt) (Err fault))
  fault_where true fault p e h = absurd cc
  fault_where false fault p e h = let same : fault ≡ e = cc in subst P same (p refl)

  pub faults_where : {B : Type 0} (b : Bool) (fault : E) (rest : Result B E) → (b ≡ false → P fault) → (b ≡ true → FaultsAre P rest)
      → FaultsAre P (cond {A = Result (Unit {0}) E} b (Ok tt) (Err fault) >> rest)
  faults_where true fault rest p q e h = q refl e h
  faults_where false fault rest p q e h = let same : fault ≡ e = cc in subst P same (p refl)

  -- one look or another, as a test says
  pub faults_choice : {A : Type 0} (b : Bool) (r s : Result A E) → (b ≡ true → FaultsAre P r) → (b ≡ false → FaultsAre P s) → FaultsAre P (cond b r s)
  faults_choice true r s p q = p refl
  faults_choice false r s p q = q refl

  pub faults_thens : {A B : Type 0} (r : Result A E) (g : Result B E) → FaultsAre P r → ((x : A) → r ≡ Ok x → FaultsAre P g) → FaultsAre P (r >> g)
  faults_thens (Ok x) g a b e h = b x refl e h
  faults_thens (Err y) g a b e h = let same : y ≡ e = cc in subst P same (a y refl)

  pub faults_weaker : {A : Type 0} (Q : E → Type 0) (r : Result A E) → ((e : E) → Q e → P e) → FaultsAre Q r → FaultsAre P r
  faults_weaker Q r more all e h = more e (all e h)

module _ {E S X : Type 0} (step : S → X → Result S E) where
  -- a fault of a loop is one at some element, behind those before it
  pub record AtElement (first : S) (xs : List X) (e : E) : Type 0 where
    pub before : List X
    pub x : X
    pub after : List X
    pub is : xs ≡ before ++ x ∷ after
    pub state : S
    pub reached : each step first before ≡ Ok state
    pub fault : step state x ≡ Err e

  pub at_element : (s : S) (xs : List X) (e : E) → each step s xs ≡ Err e → AtElement s xs e
  unfolding each
  at_element s [] e h = absurd cc
  at_element s (x ∷ xs) e h = by (step s x) refl h (λ t rest. at_element t xs e rest)
    where
      by : (r : Result S E) → step s x ≡ r → (r >>= λ t. each step t xs) ≡ Err e → ((t : S) → each step t xs ≡ Err e → AtElement t xs e)
          → AtElement s (x ∷ xs) e
      by (Err y) is h later =
          let same : y ≡ e = cc in
          record { before = []; x = x; after = xs; is = refl; state = s; reached = refl; fault = is ∙ ap (λ (z : E). let r : Result S E = Err z in r) same }
      by (Ok t) is h later =
          let more = later t h in
          record {
            before = x ∷ more.before;
            x = more.x;
            after = more.after;
            is = ap (λ l. x ∷ l) more.is;
            state = more.state;
            reached = ap (λ r. r >>= λ u. each step u more.before) is ∙ more.reached;
            fault = more.fault;
          }

get_middle : {X : Type 0} (before after : List X) (x : X) → slice_get (before ++ x ∷ after) (length before) ≡ Some x
get_middle [] after x = refl
get_middle (y ∷ before) after x = get_middle before after x

-- the place of that element
pub element_there : {X : Type 0} (xs before after : List X) (x : X) → xs ≡ before ++ x ∷ after → slice_get xs (length before) ≡ Some x
element_there xs before after x is = ap (λ l. slice_get l (length before)) is ∙ get_middle before after x

pub known_where : {X : Type 0} (P : JobFault → Type 0) (at : ℕ) (o : Option X) → (o ≡ None → P (f.UnknownName at)) → FaultsAre P (known at o)
known_where P at None p e h = let same : f.UnknownName at ≡ e = cc in subst P same (p refl)
known_where P at (Some x) p e h = absurd cc

pub not_less : (a b : ℕ) → nat_lt a b ≡ false → b ≤ a
not_less a b e = grind (arith, common_steps)

pub not_most : (a b : ℕ) → nat_le a b ≡ false → b < a
not_most a b e = grind (arith, common_steps)

-- where not all pass, one fails
pub fails_somewhere : {X : Type 0} (p : X → Bool) (xs : List X) → list_all p xs ≡ false → (i : ℕ) × (x : X) × (slice_get xs i ≡ Some x) × (p x ≡ false)
fails_somewhere p [] fails = absurd cc
fails_somewhere {X} p (x ∷ xs) fails = by (p x) refl fails (λ rest. fails_somewhere p xs rest)
  where
    by : (b : Bool) → p x ≡ b → (b && list_all p xs) ≡ false
        → (list_all p xs ≡ false → (i : ℕ) × (y : X) × (slice_get xs i ≡ Some y) × (p y ≡ false))
        → (i : ℕ) × (y : X) × (slice_get (x ∷ xs) i ≡ Some y) × (p y ≡ false)
    by false is fails later = (0, x, refl, is)
    by true is fails later = let more = later fails in (suc more.0, more.1, more.2, more.3)

-- where all looks pass, each does
all_passed : {E X : Type 0} (look : X → Result (Unit {0}) E) (xs : List X) (i : ℕ) (x : X) → each (λ done q. look q) tt xs ≡ Ok tt → slice_get xs i ≡ Some x
    → look x ≡ Ok tt
unfolding each
all_passed look [] i x all here = absurd cc
all_passed look (y ∷ xs) zero x all here =
    let one = bind_ok (look y) (λ t. each (λ done q. look q) t xs) tt all in
    ap look (sym (some_same y x here)) ∙ one.1
all_passed look (y ∷ xs) (suc i) x all here =
    let one = bind_ok (look y) (λ t. each (λ done q. look q) t xs) tt all in
    all_passed look xs i x one.2 here

-- ---- keys and brackets

pub number_breaks : (P : JobFault → Type 0) (n : WrittenNumber) → (key_count ≤ written_value n.value → P (f.OverLimit Key (written_value n.value)))
    → FaultsAre P (resolved_key n)
number_breaks P n great =
    faults_where P (nat_lt (written_value n.value) key_count) (f.OverLimit Key (written_value n.value)) (Ok (written_value n.value))
    (λ fails. great (not_less (written_value n.value) key_count fails)) (λ yes. no_fault P (written_value n.value))

no_items : (n : Naming) (under : KindHead) → takes_items n under ≡ false → ¬ HasItems (under_head n under)
no_items n under fails has = not_both (takes_items n under) (takes n under has) fails

key_breaks : (n : Naming) (under : KindHead) (key : WrittenKey) → FaultsAre (BreaksKey (under_head n under) key) (at_of n under key)
key_breaks n under k.Alone = no_fault (BreaksKey (under_head n under) k.Alone) at.Alone
key_breaks n under (k.OwnKey place) =
    faults_where (BreaksKey (under_head n under) (k.OwnKey place)) under.keyed (f.WrongShape place) (Ok at.OwnKey) (λ fails. key_of_unkeyed place fails)
    (λ yes. no_fault (BreaksKey (under_head n under) (k.OwnKey place)) at.OwnKey)
key_breaks n under (k.OwnItem place) =
    faults_where (BreaksKey (under_head n under) (k.OwnItem place)) (takes_items n under) (f.WrongShape place) (Ok at.OwnItem)
    (λ fails. item_of_none place (no_items n under fails)) (λ yes. no_fault (BreaksKey (under_head n under) (k.OwnItem place)) at.OwnItem)
key_breaks n under (k.Fixed m) =
    faults_bind (BreaksKey (under_head n under) (k.Fixed m)) (resolved_key m) (λ key. Ok (at.Fixed key))
    (number_breaks (BreaksKey (under_head n under) (k.Fixed m)) m (λ great. key_too_great m great))
    (λ key. no_fault (BreaksKey (under_head n under) (k.Fixed m)) (at.Fixed key))

brackets_apart : (keyed : Bool) (key : WrittenKey) → brackets_fit keyed key ≡ false → keyed ≢ has_brackets key
brackets_apart true k.Alone fails same = absurd cc
brackets_apart false k.Alone fails same = absurd cc
brackets_apart true (k.OwnKey place) fails same = absurd cc
brackets_apart false (k.OwnKey place) fails same = absurd cc
brackets_apart true (k.OwnItem place) fails same = absurd cc
brackets_apart false (k.OwnItem place) fails same = absurd cc
brackets_apart true (k.Fixed n) fails same = absurd cc
brackets_apart false (k.Fixed n) fails same = absurd cc

module _ (text : List ℕ) (n : Naming) (families : List Family) (knows : KnowFamilies n families) where
  -- ---- families

  none_declared : (s : WrittenSpan) → look_up (name_of text s) n.families ≡ None → NoneIsNamed family_name families (name_of text s)
  none_declared s none = λ i x there same. no_some (family_head i x) (sym none ∙ look_up_found text n families knows s i x there same)

  record Declared (s : WrittenSpan) (h : FamilyHead) : Type 0 where
    family : Family
    is : IsFamily text families s family
    keyed : family.keyed ≡ h.keyed
    sort : family.sort ≡ h.sort

  declared : (s : WrittenSpan) (h : FamilyHead) → look_up (name_of text s) n.families ≡ Some h → Declared s h
  declared s h e =
      let found = looked_up family_name family_head 0 families (name_of text s) h (ap (look_up (name_of text s)) (sym knows.heads_are) ∙ e) in
      record {
        family = found.declared;
        is = record { number = found.place; here = found.here; name = found.named };
        keyed = ap (λ (x : FamilyHead). x.keyed) found.is;
        sort = ap (λ (x : FamilyHead). x.sort) found.is;
      }

  module _ (under : KindHead) where
    -- ---- cells

    abbrev Cell : Option Sort → WrittenRef → JobFault → Type 0
    Cell wanted r fault = BreaksCell text families (under_head n under) wanted r fault

    family_breaks : (wanted : Option Sort) (r : WrittenRef) → FaultsAre (Cell wanted r) (family_for text n wanted r)
    family_breaks wanted r =
        faults_found (Cell wanted r) (family_of text n r.family)
        (λ h. unless (is_wanted wanted h.sort && brackets_fit h.keyed r.key) (f.WrongShape r.family.from) >> Ok h)
        (known_where (Cell wanted r) r.family.from (look_up (name_of text r.family) n.families) (λ none. cell_unknown (none_declared r.family none)))
        (λ h is. faults_where (Cell wanted r) (is_wanted wanted h.sort && brackets_fit h.keyed r.key) (f.WrongShape r.family.from) (Ok h)
        (λ fails. shape h (declared r.family h (known_is r.family.from (look_up (name_of text r.family) n.families) h is)) (is_wanted wanted h.sort) refl fails)
        (λ yes. no_fault (Cell wanted r) h))
      where
        shape : (h : FamilyHead) (x : Declared r.family h) (b : Bool) → is_wanted wanted h.sort ≡ b → (b && brackets_fit h.keyed r.key) ≡ false
            → Cell wanted r (f.WrongShape r.family.from)
        shape h x false other fails =
            cell_of_other_sort x.family x.is (λ has. not_both (is_wanted wanted x.family.sort) (wants_sort wanted x.family.sort has)
            (ap (is_wanted wanted) x.sort ∙ other))
        shape h x true wants fails = cell_brackets x.family x.is (λ same. brackets_apart h.keyed r.key fails (sym x.keyed ∙ same))

    cell_breaks : (wanted : Option Sort) (r : WrittenRef) → FaultsAre (Cell wanted r) (resolved_cell text n under wanted r)
    cell_breaks wanted r =
        faults_bind (Cell wanted r) (family_for text n wanted r) (λ h. at_of n under r.key >>= λ a. Ok (record { family = h.number; at = a }))
        (family_breaks wanted r)
        (λ h. faults_bind (Cell wanted r) (at_of n under r.key) (λ a. Ok (record { family = h.number; at = a }))
        (faults_weaker (Cell wanted r) (BreaksKey (under_head n under) r.key) (at_of n under r.key) (λ e broken. cell_key e broken) (key_breaks n under r.key))
        (λ a. no_fault (Cell wanted r) (record { family = h.number; at = a })))

    -- ---- expressions

    abbrev Term : Tree → JobFault → Type 0
    Term e fault = BreaksTerm text families (under_head n under) e fault

    token_breaks : (e : Tree) → FaultsAre (Term e) (first_token text n under e)
    unfolding first_token
    token_breaks (NumberTree m) = no_fault (Term (NumberTree m)) tt
    token_breaks (ValueTree at) = fault_where (Term (ValueTree at)) under.has_value (f.WrongShape at) (λ fails. value_of_none at fails)
    token_breaks (KeyTree at) = fault_where (Term (KeyTree at)) under.keyed (f.WrongShape at) (λ fails. key_of_unkeyed_kind at fails)
    token_breaks (TimeTree at) = no_fault (Term (TimeTree at)) tt
    token_breaks (ReadTree r) =
        faults_choice (Term (ReadTree r)) (is_item text n r) (unless (takes_items n under) (f.WrongShape r.family.from))
        (family_for text n None r >>= λ _. Ok tt)
        (λ item. fault_where (Term (ReadTree r)) (takes_items n under) (f.WrongShape r.family.from)
        (λ fails. item_of_no_items r (item_is text n r item) (no_items n under fails)))
        (λ other. faults_bind (Term (ReadTree r)) (family_for text n None r) (λ _. Ok tt)
        (faults_weaker (Term (ReadTree r)) (Cell None r) (family_for text n None r) (λ e broken. in_read r e (no_item text n r other) broken)
        (family_breaks None r))
        (λ _. no_fault (Term (ReadTree r)) tt))
    token_breaks (HasTree at r) = no_fault (Term (HasTree at r)) tt
    token_breaks (ParenTree at e) = no_fault (Term (ParenTree at e)) tt
    token_breaks (NegTree at e) = no_fault (Term (NegTree at e)) tt
    token_breaks (NotTree at e) = no_fault (Term (NotTree at e)) tt
    token_breaks (TwoTree op at a b) = no_fault (Term (TwoTree op at a b)) tt

    -- what the first part of an expression breaks, the expression does
    first_breaks : (e : Tree) (fault : JobFault) → Term (first_part e) fault → Term e fault
    first_breaks (NumberTree m) fault broken = broken
    first_breaks (ValueTree at) fault broken = broken
    first_breaks (KeyTree at) fault broken = broken
    first_breaks (TimeTree at) fault broken = broken
    first_breaks (ReadTree r) fault broken = broken
    first_breaks (HasTree at r) fault broken = broken
    first_breaks (ParenTree at e) fault broken = broken
    first_breaks (NegTree at e) fault broken = broken
    first_breaks (NotTree at e) fault broken = broken
    first_breaks (TwoTree op at a b) fault broken = on_the_left op at a b fault (first_breaks a fault broken)

    term_breaks : (e : Tree) → FaultsAre (Term e) (term_of text n under e)
    unfolding term_of
    term_breaks (NumberTree m) = no_fault (Term (NumberTree m)) (Literal m.value)
    term_breaks (ValueTree at) =
        faults_where (Term (ValueTree at)) under.has_value (f.WrongShape at) (Ok EventValue) (λ fails. value_of_none at fails)
        (λ yes. no_fault (Term (ValueTree at)) EventValue)
    term_breaks (KeyTree at) =
        faults_where (Term (KeyTree at)) under.keyed (f.WrongShape at) (Ok EventKey) (λ fails. key_of_unkeyed_kind at fails)
        (λ yes. no_fault (Term (KeyTree at)) EventKey)
    term_breaks (TimeTree at) = no_fault (Term (TimeTree at)) EventTime
    term_breaks (ReadTree r) =
        faults_choice (Term (ReadTree r)) (is_item text n r) (unless (takes_items n under) (f.WrongShape r.family.from) >> Ok EventItem)
        (resolved_cell text n under None r >>= λ c. Ok (CellRead c))
        (λ item. faults_where (Term (ReadTree r)) (takes_items n under) (f.WrongShape r.family.from) (Ok EventItem)
        (λ fails. item_of_no_items r (item_is text n r item) (no_items n under fails)) (λ yes. no_fault (Term (ReadTree r)) EventItem))
        (λ other. faults_bind (Term (ReadTree r)) (resolved_cell text n under None r) (λ c. Ok (CellRead c))
        (faults_weaker (Term (ReadTree r)) (Cell None r) (resolved_cell text n under None r) (λ e broken. in_read r e (no_item text n r other) broken)
        (cell_breaks None r))
        (λ c. no_fault (Term (ReadTree r)) (CellRead c)))
    term_breaks (HasTree at r) =
        faults_bind (Term (HasTree at r)) (resolved_cell text n under None r) (λ c. Ok (CellHeld c))
        (faults_weaker (Term (HasTree at r)) (Cell None r) (resolved_cell text n under None r) (λ e broken. in_held at r e broken) (cell_breaks None r))
        (λ c. no_fault (Term (HasTree at r)) (CellHeld c))
    term_breaks (ParenTree at e) =
        faults_weaker (Term (ParenTree at e)) (Term e) (term_of text n under e) (λ fault broken. inside_parentheses at e fault broken) (term_breaks e)
    term_breaks (NegTree at e) =
        faults_bind (Term (NegTree at e)) (term_of text n under e) (λ t. Ok (Negative t))
        (faults_weaker (Term (NegTree at e)) (Term e) (term_of text n under e) (λ fault broken. in_negative at e fault broken) (term_breaks e))
        (λ t. no_fault (Term (NegTree at e)) (Negative t))
    term_breaks (NotTree at e) =
        faults_bind (Term (NotTree at e)) (term_of text n under e) (λ t. Ok (Negation t))
        (faults_weaker (Term (NotTree at e)) (Term e) (term_of text n under e) (λ fault broken. in_negation at e fault broken) (term_breaks e))
        (λ t. no_fault (Term (NotTree at e)) (Negation t))
    term_breaks (TwoTree op at a b) =
        let P = Term (TwoTree op at a b) in
        faults_bind P (term_of text n under a) (λ s. unless (op_fits n op) (f.WrongShape at) >> (term_of text n under b >>= λ t. Ok (Operation op s t)))
        (faults_weaker P (Term a) (term_of text n under a) (λ fault broken. on_the_left op at a b fault broken) (term_breaks a))
        (λ s. faults_where P (op_fits n op) (f.WrongShape at) (term_of text n under b >>= λ t. Ok (Operation op s t))
        (λ fails. (let older = divides_before n.version op fails in division op at a b older.1 older.0))
        (λ yes. faults_bind P (term_of text n under b) (λ t. Ok (Operation op s t))
        (faults_weaker P (Term b) (term_of text n under b) (λ fault broken. on_the_right op at a b fault broken) (term_breaks b))
        (λ t. no_fault P (Operation op s t))))

    abbrev Expression : Tree → JobFault → Type 0
    Expression e fault = BreaksExpression text families (under_head n under) e fault

    expression_breaks : (e : Tree) → FaultsAre (Expression e) (expression_of text n under e)
    unfolding expression_of
    expression_breaks e =
        faults_thens (Expression e) (first_token text n under (first_part e)) (unless (nat_le (height e) 32) (f.OverLimit Height 33) >> term_of text n under e)
        (faults_weaker (Expression e) (Term (first_part e)) (first_token text n under (first_part e))
        (λ fault broken. in_term fault (first_breaks e fault broken)) (token_breaks (first_part e)))
        (λ u is. faults_where (Expression e) (nat_le (height e) 32) (f.OverLimit Height 33) (term_of text n under e)
        (λ fails. too_high (not_most (height e) 32 fails))
        (λ yes. faults_weaker (Expression e) (Term e) (term_of text n under e) (λ fault broken. in_term fault broken) (term_breaks e)))

    -- ---- templates

    module _ (flushed : Option ℕ) (s : WrittenSpan) where
      abbrev OfTemplate : JobFault → Type 0
      OfTemplate fault = BreaksTemplate text families (under_head n under) flushed s fault

      abbrev Piece : WrittenPiece → Type 0
      Piece q = BreaksPiece text families (under_head n under) (is_some flushed) q

      abbrev parts : List WrittenPiece
      parts = (template_at text n.version (is_some flushed) s).pieces

      -- a name that a field gives
      name_breaks : (i : ℕ) (q : WrittenPiece) → slice_get parts i ≡ Some q → FaultsAre OfTemplate (known_name text n s.from q)
      unfolding known_name
      name_breaks i (w.Plain t) here = no_fault OfTemplate tt
      name_breaks i w.Value here = no_fault OfTemplate tt
      name_breaks i w.Key here = no_fault OfTemplate tt
      name_breaks i w.Item here = no_fault OfTemplate tt
      name_breaks i w.Time here = no_fault OfTemplate tt
      name_breaks i w.CellValue here = no_fault OfTemplate tt
      name_breaks i (w.Read r) here =
          faults_bind OfTemplate (known s.from (look_up (name_of text r.family) n.families)) (λ _. Ok tt)
          (known_where OfTemplate s.from (look_up (name_of text r.family) n.families) (λ none. field_unknown i r here (none_declared r.family none)))
          (λ _. no_fault OfTemplate tt)
      name_breaks i (w.Family t) here =
          faults_bind OfTemplate (known s.from (look_up (name_of text t) n.families)) (λ _. Ok tt)
          (known_where OfTemplate s.from (look_up (name_of text t) n.families) (λ none. family_unknown i t here (none_declared t none)))
          (λ _. no_fault OfTemplate tt)
      name_breaks i w.Formless here = no_fault OfTemplate tt

      names_break : FaultsAre OfTemplate (known_names text n s.from parts)
      names_break e h =
          let found = at_element (λ done q. known_name text n s.from q) tt parts e h in
          name_breaks (length found.before) found.x (element_there parts found.before found.after found.x found.is) e found.fault

      -- a reference that does not fit, to a family that is declared
      read_breaks : (r : WrittenRef) (h : FamilyHead) → look_up (name_of text r.family) n.families ≡ Some h → read_fits n under r.key (Some h) ≡ false
          → Piece (w.Read r)
      read_breaks r h is fails = by (brackets_fit h.keyed r.key) refl fails
        where
          own : (key : WrittenKey) → r.key ≡ key → own_key_fits n under key ≡ false → Piece (w.Read r)
          own k.Alone at fails = absurd cc
          own (k.OwnKey place) at fails = piece_own_key r place at fails
          own (k.OwnItem place) at fails = piece_own_item r place at (no_items n under fails)
          own (k.Fixed m) at fails = absurd cc

          by : (b : Bool) → brackets_fit h.keyed r.key ≡ b → (b && own_key_fits n under r.key) ≡ false → Piece (w.Read r)
          by false apart fails =
              let x = declared r.family h is in piece_brackets r x.family x.is (λ same. brackets_apart h.keyed r.key apart (sym x.keyed ∙ same))
          by true fits fails = own r.key refl fails

      -- a piece that does not fit, where the names of fields are known
      piece_breaks : (q : WrittenPiece) → known_name text n s.from q ≡ Ok tt → piece_fits text n under (is_some flushed) q ≡ false → is_formless q ≡ false
          → Piece q
      unfolding known_name
      piece_breaks (w.Plain t) named fails form = absurd cc
      piece_breaks w.Value named fails form = piece_value fails
      piece_breaks w.Key named fails form = piece_key fails
      piece_breaks w.Item named fails form = piece_item (no_items n under fails)
      piece_breaks w.Time named fails form = absurd cc
      piece_breaks w.CellValue named fails form = absurd cc
      piece_breaks (w.Read r) named fails form = by (look_up (name_of text r.family) n.families) refl named fails
        where
          by : (o : Option FamilyHead) → look_up (name_of text r.family) n.families ≡ o
              → (known s.from o >>= λ _. let r : Found (Unit {0}) = Ok tt in r) ≡ (let r : Found (Unit {0}) = Ok tt in r)
              → read_fits n under r.key o ≡ false → Piece (w.Read r)
          by None is named fails = absurd cc
          by (Some h) is named fails = read_breaks r h is fails
      piece_breaks (w.Family t) named fails form = absurd cc
      piece_breaks w.Formless named fails form = absurd cc

      -- pieces with a formless one are no template
      not_cut : list_any is_formless parts ≡ true → (qs : List WrittenPiece) → AreCut text n.version (is_some flushed) true (s.from + 1) (inside text s) qs → ⊥
      not_cut some qs cut =
          let same : parts ≡ qs = ap (λ (t : Template). t.pieces) (cut_template text n.version (is_some flushed) s qs (told cut)) in
          not_both (list_any is_formless parts) some (ap (list_any is_formless) same ∙ all_formed cut)

      is_cut : (template_at text n.version (is_some flushed) s).whole ≡ true → list_any is_formless parts ≡ false
          → AreCut text n.version (is_some flushed) true (s.from + 1) (inside text s) parts
      is_cut whole none = formed (template_cut text n.version (is_some flushed) s whole) none

      shape_breaks : known_names text n s.from parts ≡ Ok tt
          → ((template_at text n.version (is_some flushed) s).whole && list_all (piece_fits text n under (is_some flushed)) parts) ≡ false
          → OfTemplate (f.WrongShape s.from)
      shape_breaks named fails = by (template_at text n.version (is_some flushed) s).whole refl fails
        where
          with_forms : (template_at text n.version (is_some flushed) s).whole ≡ true → list_all (piece_fits text n under (is_some flushed)) parts ≡ false
              → (b : Bool) → list_any is_formless parts ≡ b → OfTemplate (f.WrongShape s.from)
          with_forms whole fails true some = no_pieces (not_cut some)
          with_forms whole fails false none =
              let found = fails_somewhere (piece_fits text n under (is_some flushed)) parts fails in
              wrong_piece parts (is_cut whole none) found.0 found.1 found.2
              (piece_breaks found.1 (all_passed (λ q. known_name text n s.from q) parts found.0 found.1 named found.2) found.3
              (fails_at is_formless parts found.0 found.1 none found.2))

          by : (b : Bool) → (template_at text n.version (is_some flushed) s).whole ≡ b
              → (b && list_all (piece_fits text n under (is_some flushed)) parts) ≡ false
              → OfTemplate (f.WrongShape s.from)
          by false part fails = no_pieces (λ qs cut. not_both (template_at text n.version (is_some flushed) s).whole (ap (λ (t : Template). t.whole)
              (cut_template text n.version (is_some flushed) s qs (told cut))) part)
          by true whole fails = with_forms whole fails (list_any is_formless parts) refl

      -- a key that is too great
      great_breaks : (template_at text n.version (is_some flushed) s).whole ≡ true → list_all (piece_fits text n under (is_some flushed)) parts ≡ true
          → (i : ℕ) (q : WrittenPiece)
          → slice_get parts i ≡ Some q → FaultsAre OfTemplate (piece_of text n under flushed s.from q)
      unfolding piece_of
      great_breaks whole fit i (w.Plain t) here = no_fault OfTemplate (piece.Plain (name_of text t))
      great_breaks whole fit i w.Value here = no_fault OfTemplate piece.Value
      great_breaks whole fit i w.Key here = no_fault OfTemplate piece.Key
      great_breaks whole fit i w.Item here = no_fault OfTemplate piece.Item
      great_breaks whole fit i w.Time here = no_fault OfTemplate piece.Time
      great_breaks whole fit i w.CellValue here = no_fault OfTemplate piece.CellValue
      great_breaks whole fit i (w.Read r) here =
          faults_found OfTemplate (known s.from (look_up (name_of text r.family) n.families))
          (λ h. at_of n under r.key >>= λ a. Ok (piece.Read (record { family = h.number; at = a })))
          (known_where OfTemplate s.from (look_up (name_of text r.family) n.families) (λ none. absurd (not_both (read_fits n under r.key None)
          (sym (ap (read_fits n under r.key) none) ∙ passes) refl)))
          (λ h is. faults_bind OfTemplate (at_of n under r.key) (λ a. Ok (piece.Read (record { family = h.number; at = a })))
          (key_of (is_own h (known_is s.from (look_up (name_of text r.family) n.families) h is)) r.key refl)
          (λ a. no_fault OfTemplate (piece.Read (record { family = h.number; at = a }))))
        where
          passes : read_fits n under r.key (look_up (name_of text r.family) n.families) ≡ true
          passes = passes_at (piece_fits text n under (is_some flushed)) parts i (w.Read r) fit here

          is_own : (h : FamilyHead) → look_up (name_of text r.family) n.families ≡ Some h → own_key_fits n under r.key ≡ true
          is_own h is = and_right (brackets_fit h.keyed r.key) (own_key_fits n under r.key) (sym (ap (read_fits n under r.key) is) ∙ passes)

          key_of : own_key_fits n under r.key ≡ true → (key : WrittenKey) → r.key ≡ key → FaultsAre OfTemplate (at_of n under key)
          key_of own k.Alone same = no_fault OfTemplate at.Alone
          key_of own (k.OwnKey place) same =
              faults_where OfTemplate under.keyed (f.WrongShape place) (Ok at.OwnKey)
              (λ fails. absurd (not_both under.keyed (ap (own_key_fits n under) (sym same) ∙ own) fails)) (λ yes. no_fault OfTemplate at.OwnKey)
          key_of own (k.OwnItem place) same =
              faults_where OfTemplate (takes_items n under) (f.WrongShape place) (Ok at.OwnItem)
              (λ fails. absurd (not_both (takes_items n under) (ap (own_key_fits n under) (sym same) ∙ own) fails)) (λ yes. no_fault OfTemplate at.OwnItem)
          key_of own (k.Fixed m) same =
              faults_bind OfTemplate (resolved_key m) (λ key. Ok (at.Fixed key))
              (number_breaks OfTemplate m
              (λ great. field_key parts (is_cut whole (fit_formed text n families knows under flushed parts fit)) i r m here same great))
              (λ key. no_fault OfTemplate (at.Fixed key))
      great_breaks whole fit i (w.Family t) here =
          faults_bind OfTemplate (known s.from (look_up (name_of text t) n.families)) (λ h. Ok (family_piece flushed h.number))
          (known_where OfTemplate s.from (look_up (name_of text t) n.families) (λ none. family_unknown i t here (none_declared t none)))
          (λ h. no_fault OfTemplate (family_piece flushed h.number))
      great_breaks whole fit i w.Formless here =
          absurd (not_both (piece_fits text n under (is_some flushed) w.Formless)
          (passes_at (piece_fits text n under (is_some flushed)) parts i w.Formless fit here) refl)

      template_breaks : FaultsAre OfTemplate (template_of text n under flushed s)
      unfolding template_of
      template_breaks =
          let t = template_at text n.version (is_some flushed) s in
          let fits = list_all (piece_fits text n under (is_some flushed)) t.pieces in
          let last = λ (ps : List JobPiece). unless (may_be_printed n flushed ps) (f.WrongShape s.from) >> (let r : Found (List JobPiece) = Ok ps in r) in
          faults_thens OfTemplate (known_names text n s.from t.pieces)
          (unless (t.whole && fits) (f.WrongShape s.from) >> (pieces_of text n under flushed s.from t.pieces >>= last))
          names_break
          (λ u named. faults_where OfTemplate (t.whole && fits) (f.WrongShape s.from) (pieces_of text n under flushed s.from t.pieces >>= last)
          (λ fails. shape_breaks named fails)
          (λ yes. faults_found OfTemplate (pieces_of text n under flushed s.from t.pieces) last
          (pieces_break (and_left t.whole fits yes) (and_right t.whole fits yes))
          (λ ps found. faults_where OfTemplate (may_be_printed n flushed ps) (f.WrongShape s.from) (Ok ps)
          (λ fails. printed_breaks (and_left t.whole fits yes) (and_right t.whole fits yes) ps found fails) (λ short. no_fault OfTemplate ps))))
        where
          -- what is printed is too long
          printed_breaks : (template_at text n.version (is_some flushed) s).whole ≡ true → list_all (piece_fits text n under (is_some flushed)) parts ≡ true
              → (ps : List JobPiece) → pieces_of text n under flushed s.from parts ≡ Ok ps → may_be_printed n flushed ps ≡ false
              → OfTemplate (f.WrongShape s.from)
          printed_breaks whole fit ps found fails =
              printed_too_long parts ps (is_cut whole (fit_formed text n families knows under flushed parts fit))
              (pieces_mean text n families knows under flushed s.from parts ps fit (found_each (piece_of text n under flushed s.from) parts ps found))
              (λ few. not_both (may_be_printed n flushed ps) (prints text n families knows under flushed ps few) fails)

          pieces_break : (template_at text n.version (is_some flushed) s).whole ≡ true → list_all (piece_fits text n under (is_some flushed)) parts ≡ true
              → FaultsAre OfTemplate (pieces_of text n under flushed s.from parts)
          pieces_break whole fit e h =
              let found = at_element (collect (piece_of text n under flushed s.from)) [] parts e h in
              faults_bind OfTemplate (piece_of text n under flushed s.from found.x) (λ y. Ok (found.state ++ y ∷ []))
              (great_breaks whole fit (length found.before) found.x (element_there parts found.before found.after found.x found.is))
              (λ y. no_fault OfTemplate (found.state ++ y ∷ [])) e found.fault

    -- ---- actions

    abbrev OfDeed : Deed → JobFault → Type 0
    OfDeed d fault = BreaksDeed text families (under_head n under) d fault

    abbrev OfText : Option ℕ → WrittenSpan → JobFault → Type 0
    OfText flushed s fault = BreaksTemplate text families (under_head n under) flushed s fault

    -- where a family that is known is not cleared whole
    not_whole : (r : WrittenRef) (h : FamilyHead) → family_of text n r.family ≡ Ok h → clears_whole n h r.key ≡ false
        → ¬ ClearsWhole text families (under_head n under) r
    not_whole r h is part whole =
        let found = look_up_found text n families knows r.family whole.is.number whole.family whole.is.here whole.is.name in
        let same : h ≡ family_head whole.is.number whole.family = some_same h (family_head whole.is.number whole.family)
        (sym (known_is r.family.from (look_up (name_of text r.family) n.families) h is) ∙ found) in
        not_both (clears_whole n h r.key)
        (both ((n.version == 3) && h.keyed) (is_alone r.key)
        (both (n.version == 3) h.keyed (eq_true n.version 3 whole.version) (ap (λ (x : FamilyHead). x.keyed) same ∙ whole.keyed))
        (ap is_alone whole.alone))
        part

    deed_breaks : (d : Deed) → FaultsAre (OfDeed d) (resolved_act text n under d)
    unfolding resolved_act
    deed_breaks (Writes verb r e) =
        faults_bind (OfDeed (Writes verb r e)) (resolved_cell text n under (Some (sort_for verb)) r)
        (λ c. expression_of text n under e >>= λ t. Ok (act_with verb c t))
        (faults_weaker (OfDeed (Writes verb r e)) (Cell (Some (sort_for verb)) r) (resolved_cell text n under (Some (sort_for verb)) r)
        (λ fault broken. in_cell verb r e fault broken) (cell_breaks (Some (sort_for verb)) r))
        (λ c. faults_bind (OfDeed (Writes verb r e)) (expression_of text n under e) (λ t. Ok (act_with verb c t))
        (faults_weaker (OfDeed (Writes verb r e)) (Expression e) (expression_of text n under e) (λ fault broken. in_amount verb r e fault broken)
        (expression_breaks e))
        (λ t. no_fault (OfDeed (Writes verb r e)) (act_with verb c t)))
    deed_breaks (Clears r) =
        let P = OfDeed (Clears r) in
        faults_found P (family_of text n r.family)
        (λ h. if clears_whole n h r.key then Ok (ClearingFamily h.number) else (resolved_cell text n under None r >>= λ c. Ok (Clearing c)))
        (known_where P r.family.from (look_up (name_of text r.family) n.families) (λ none. in_cleared r (f.UnknownName r.family.from)
        (λ whole. none_declared r.family none whole.is.number whole.family whole.is.here whole.is.name) (cell_unknown (none_declared r.family none))))
        (λ h is. faults_choice P (clears_whole n h r.key) (Ok (ClearingFamily h.number)) (resolved_cell text n under None r >>= λ c. Ok (Clearing c))
        (λ whole. no_fault P (ClearingFamily h.number))
        (λ part. faults_bind P (resolved_cell text n under None r) (λ c. Ok (Clearing c))
        (faults_weaker P (Cell None r) (resolved_cell text n under None r) (λ fault broken. in_cleared r fault (not_whole r h is part) broken)
        (cell_breaks None r))
        (λ c. no_fault P (Clearing c))))
    deed_breaks (Emits s) =
        faults_bind (OfDeed (Emits s)) (template_of text n under None s) (λ ps. Ok (Emitting ps))
        (faults_weaker (OfDeed (Emits s)) (OfText None s) (template_of text n under None s) (λ fault broken. in_emitted s fault broken)
        (template_breaks None s))
        (λ ps. no_fault (OfDeed (Emits s)) (Emitting ps))
    deed_breaks (Flushes name s) =
        let P = OfDeed (Flushes name s) in
        faults_found P (family_of text n name)
        (λ h. unless h.keyed (f.WrongShape name.from) >> (template_of text n under (Some h.number) s >>= λ ps. Ok (Flushing h.number ps)))
        (known_where P name.from (look_up (name_of text name) n.families) (λ none. flushed_unknown name s (none_declared name none)))
        (λ h is. faults_where P h.keyed (f.WrongShape name.from) (template_of text n under (Some h.number) s >>= λ ps. Ok (Flushing h.number ps))
        (λ fails. (let x = declared name h (known_is name.from (look_up (name_of text name) n.families) h is) in
        flushed_unkeyed name s x.family x.is (x.keyed ∙ fails)))
        (λ yes. faults_bind P (template_of text n under (Some h.number) s) (λ ps. Ok (Flushing h.number ps))
        (faults_weaker P (OfText (Some h.number) s) (template_of text n under (Some h.number) s)
        (λ fault broken. in_flushed name s h.number fault (keyed_family text n families knows under name h is yes) broken)
        (template_breaks (Some h.number) s))
        (λ ps. no_fault P (Flushing h.number ps))))

    abbrev OfAction : Action → JobFault → Type 0
    OfAction a fault = BreaksAction text families (under_head n under) a fault

    guard_breaks : (a : Action) (g : Option Tree) → a.guard ≡ g → FaultsAre (OfAction a) (guard_of text n under g)
    unfolding guard_of
    guard_breaks a None is = no_fault (OfAction a) None
    guard_breaks a (Some e) is =
        faults_bind (OfAction a) (expression_of text n under e) (λ t. Ok (Some t))
        (faults_weaker (OfAction a) (Expression e) (expression_of text n under e) (λ fault broken. in_guard e fault is broken) (expression_breaks e))
        (λ t. no_fault (OfAction a) (Some t))

    action_breaks : (a : Action) → FaultsAre (OfAction a) (action_of text n under a)
    unfolding action_of
    action_breaks a =
        faults_bind (OfAction a) (resolved_act text n under a.deed) (λ act. guard_of text n under a.guard >>= λ guard. Ok (record { act = act; guard = guard }))
        (faults_weaker (OfAction a) (OfDeed a.deed) (resolved_act text n under a.deed) (λ fault broken. in_deed fault broken) (deed_breaks a.deed))
        (λ act. faults_bind (OfAction a) (guard_of text n under a.guard) (λ guard. Ok (record { act = act; guard = guard })) (guard_breaks a a.guard refl)
        (λ guard. no_fault (OfAction a) (record { act = act; guard = guard })))

    pub actions_break : (actions : List Action) → FaultsAre (BreaksActions text families (under_head n under) actions)
        (resolved_actions text n under actions)
    unfolding with_action
    actions_break actions e h =
        let P = BreaksActions text families (under_head n under) actions in
        let found = at_element (with_action text n under) [] actions e h in
        let done : List PlainAction = found.state in
        let mean = actions_mean text n families knows under found.before done found.reached in
        let many = pairs_length (MeansAction text families (under_head n under)) found.before done mean.0 in
        faults_where P (nat_lt (length done) 32) (f.OverLimit Actions 33) (action_of text n under found.x >>= λ a. Ok (done ++ a ∷ []))
        (λ fails. too_many_actions (more found.before found.x found.after found.is (length done) many (not_less (length done) 32 fails)))
        (λ yes. faults_bind P (action_of text n under found.x) (λ a. Ok (done ++ a ∷ []))
        (faults_weaker P (OfAction found.x) (action_of text n under found.x)
        (λ fault broken. in_action (length found.before) found.x fault (element_there actions found.before found.after found.x found.is) broken)
        (action_breaks found.x))
        (λ a. no_fault P (done ++ a ∷ []))) e found.fault
      where
        more : (before : List Action) (x : Action) (after : List Action) → actions ≡ before ++ x ∷ after → (m : ℕ) → m ≡ length before → 32 ≤ m
            → 32 < length actions
        more before x after is m many least =
            let all : length actions ≡ length before + suc (length after) = ap length is ∙ length-append before (x ∷ after) in
            omega (arith, all, many, least)
