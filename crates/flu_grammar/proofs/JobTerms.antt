-- Expressions that are found are what they mean, and the other way round.
use Rattle.std.proofs.Common.{◌≡◌, ℕ, Bool, true, false, List, None, Ok, refl, sym, ap, subst, ◌∙◌}
use Rattle.std.specs.Prelude.{nat_le, ◌==◌, ◌&&◌, if◌then◌else◌, codes}
use Rattle.std.specs.Str.{bytes_eq}
use Rattle.flu_lemmas.proofs.Loops.{bind_ok, then_ok}
use Rattle.flu_lemmas.proofs.Searches.{eq_true}
use Rattle.flu_lemmas.proofs.Tests.{and_left, and_right, both, false_if_not, not_both, true_eq, true_le, le_true}
use Rattle.flu_lemmas.proofs.Bytes.{bytes_is}
use Rattle.flu_model.specs.declared.limits.What.TheVariants.{Height}
use Rattle.flu_model.specs.declared.jobs.Family.{Family}
use Rattle.flu_model.specs.Erasure.{Term, Literal, EventValue, EventKey, EventItem, EventTime, CellRead, CellHeld, Negative, Negation, Operation}
use Rattle.flu_syntax.specs.declared.tree.WrittenKey.{WrittenKey}
use Rattle.flu_syntax.specs.declared.tree.WrittenKey.TheVariants as k
use Rattle.flu_syntax.specs.declared.tree.WrittenRef.{WrittenRef}
use Rattle.flu_syntax.specs.Tree.{Tree, NumberTree, ValueTree, KeyTree, TimeTree, ReadTree, HasTree, ParenTree, NegTree, NotTree, TwoTree}
use Rattle.flu_layout.specs.Spelling.{name_of}
use Rattle.flu_parse.specs.declared.faults.JobFault.TheVariants as f
use Rattle.flu_parse.specs.declared.names.KindHead.{KindHead}
use Rattle.flu_parse.specs.Faults.{◌>>=◌, ◌>>◌, unless}
use Rattle.flu_parse.specs.Naming.{Naming, takes_items}
use Rattle.flu_parse.specs.Cells.{at_of, family_for, resolved_cell}
use Rattle.flu_parse.specs.Terms.{height, is_alone, is_item, op_fits, first_part, first_token, term_of, expression_of}
use Rattle.flu_grammar.specs.Terms.{IsItem, MeansTerm, means_number, means_value, means_key, means_item, means_time, means_read, means_held}
use Rattle.flu_grammar.specs.Terms.{means_inside, means_negative, means_negation, means_operation, MeansExpression}
use Rattle.flu_grammar.proofs.Looks.{ok_same, passed, passes, binds, thens}
use Rattle.flu_grammar.proofs.Items.{divides_in, fits_in}
use Rattle.flu_grammar.proofs.JobCells.{KnowFamilies, under_head, has_items, takes, cell_means, cell_found}

-- ---- what came with version 3

pub alone_is : (key : WrittenKey) → is_alone key ≡ true → key ≡ k.Alone
alone_is k.Alone e = refl
alone_is (k.OwnKey at) e = absurd cc
alone_is (k.OwnItem at) e = absurd cc
alone_is (k.Fixed number) e = absurd cc

pub item_is : (text : List ℕ) (n : Naming) (r : WrittenRef) → is_item text n r ≡ true → IsItem text n.version r
item_is text n r e =
    let named = bytes_eq (name_of text r.family) (codes "item") in
    let front = and_left ((n.version == 3) && is_alone r.key) named e in (
      alone_is r.key (and_right (n.version == 3) (is_alone r.key) front),
      (
        true_eq n.version 3 (and_left (n.version == 3) (is_alone r.key) front),
        bytes_is (name_of text r.family) (codes "item") (and_right
            ((n.version == 3) && is_alone r.key) named e),
      ),
    )

pub is_item_is : (text : List ℕ) (n : Naming) (r : WrittenRef) → IsItem text n.version r → is_item text n r ≡ true
is_item_is text n r is =
    let named = bytes_eq (name_of text r.family) (codes "item") in
    both ((n.version == 3) && is_alone r.key) named
    (both (n.version == 3) (is_alone r.key) (eq_true n.version 3 is.1.0) (ap is_alone is.0))
    (subst (λ (s : List ℕ). bytes_eq s (codes "item") ≡ true) (sym is.1.1) refl)

pub no_item : (text : List ℕ) (n : Naming) (r : WrittenRef) → is_item text n r ≡ false → ¬ IsItem text n.version r
no_item text n r e is = not_both (is_item text n r) (is_item_is text n r is) e

not_item : (text : List ℕ) (n : Naming) (r : WrittenRef) → ¬ IsItem text n.version r → is_item text n r ≡ false
not_item text n r other = false_if_not (is_item text n r) (λ e. other (item_is text n r e))

module _ (text : List ℕ) (n : Naming) (families : List Family) (knows : KnowFamilies n families) (under : KindHead) where
  abbrev Means : Tree → Term → Type 0
  Means e t = MeansTerm text families (under_head n under) e t

  -- the name of a cell, or of the item
  read_means : (r : WrittenRef) (t : Term) (b : Bool) → is_item text n r ≡ b
      → (if b then (unless (takes_items n under) (f.WrongShape r.family.from) >> Ok EventItem)
      else (resolved_cell text n under None r >>= λ c. Ok (CellRead c))) ≡ Ok t
      → Means (ReadTree r) t
  read_means r t true is e =
      let one = passed (takes_items n under) (f.WrongShape r.family.from) (Ok EventItem) t e in
      subst (λ (x : Term). Means (ReadTree r) x) (ok_same EventItem t one.1) (means_item r (item_is text n r is) (has_items n under one.0))
  read_means r t false is e =
      let one = bind_ok (resolved_cell text n under None r) (λ c. Ok (CellRead c)) t e in
      subst (λ (x : Term). Means (ReadTree r) x) (ok_same (CellRead one.0) t one.2)
      (means_read r one.0 (no_item text n r is) (cell_means text n families knows under None r one.0 one.1))

  pub term_means : (e : Tree) (t : Term) → term_of text n under e ≡ Ok t → MeansTerm text families (under_head n under) e t
  unfolding term_of
  term_means (NumberTree m) t e = subst (λ (x : Term). Means (NumberTree m) x) (ok_same (Literal m.value) t e) (means_number m)
  term_means (ValueTree at) t e =
      let one = passed under.has_value (f.WrongShape at) (Ok EventValue) t e in
      subst (λ (x : Term). Means (ValueTree at) x) (ok_same EventValue t one.1) (means_value at one.0)
  term_means (KeyTree at) t e =
      let one = passed under.keyed (f.WrongShape at) (Ok EventKey) t e in
      subst (λ (x : Term). Means (KeyTree at) x) (ok_same EventKey t one.1) (means_key at one.0)
  term_means (TimeTree at) t e = subst (λ (x : Term). Means (TimeTree at) x) (ok_same EventTime t e) (means_time at)
  term_means (ReadTree r) t e = read_means r t (is_item text n r) refl e
  term_means (HasTree at r) t e =
      let one = bind_ok (resolved_cell text n under None r) (λ c. Ok (CellHeld c)) t e in
      subst (λ (x : Term). Means (HasTree at r) x) (ok_same (CellHeld one.0) t one.2)
      (means_held at r one.0 (cell_means text n families knows under None r one.0 one.1))
  term_means (ParenTree at e) t q = means_inside at e t (term_means e t q)
  term_means (NegTree at e) t q =
      let one = bind_ok (term_of text n under e) (λ s. Ok (Negative s)) t q in
      subst (λ (x : Term). Means (NegTree at e) x) (ok_same (Negative one.0) t one.2) (means_negative at e one.0 (term_means e one.0 one.1))
  term_means (NotTree at e) t q =
      let one = bind_ok (term_of text n under e) (λ s. Ok (Negation s)) t q in
      subst (λ (x : Term). Means (NotTree at e) x) (ok_same (Negation one.0) t one.2) (means_negation at e one.0 (term_means e one.0 one.1))
  term_means (TwoTree op at a b) t q =
      let one = bind_ok (term_of text n under a)
      (λ s. unless (op_fits n op) (f.WrongShape at) >> (term_of text n under b >>= λ u. Ok (Operation op s u))) t q in
      let fits = passed (op_fits n op) (f.WrongShape at) (term_of text n under b >>= λ u. Ok (Operation op one.0 u)) t one.2 in
      let two = bind_ok (term_of text n under b) (λ u. Ok (Operation op one.0 u)) t fits.1 in
      subst (λ (x : Term). Means (TwoTree op at a b) x) (ok_same (Operation op one.0 two.0) t two.2)
      (means_operation op at a b one.0 two.0 (divides_in n.version op fits.0) (term_means a one.0 one.1) (term_means b two.0 two.1))

  pub term_found : {e : Tree} {t : Term} → MeansTerm text families (under_head n under) e t → term_of text n under e ≡ Ok t
  unfolding term_of
  term_found (means_number m) = refl
  term_found (means_value at has) = passes under.has_value (f.WrongShape at) (Ok EventValue) EventValue has refl
  term_found (means_key at keyed) = passes under.keyed (f.WrongShape at) (Ok EventKey) EventKey keyed refl
  term_found (means_time at) = refl
  term_found (means_item r item has) =
      ap (λ b. if b then (unless (takes_items n under) (f.WrongShape r.family.from) >> Ok EventItem)
      else (resolved_cell text n under None r >>= λ c. Ok (CellRead c))) (is_item_is text n r item)
      ∙ passes (takes_items n under) (f.WrongShape r.family.from) (Ok EventItem) EventItem (takes n under has) refl
  term_found (means_read r c other is) =
      ap (λ b. if b then (unless (takes_items n under) (f.WrongShape r.family.from) >> Ok EventItem)
      else (resolved_cell text n under None r >>= λ c. Ok (CellRead c))) (not_item text n r other)
      ∙ ap (λ x. x >>= λ y. Ok (CellRead y)) (cell_found text n families knows under None r c is)
  term_found (means_held at r c is) = ap (λ x. x >>= λ y. Ok (CellHeld y)) (cell_found text n families knows under None r c is)
  term_found (means_inside at e t is) = term_found is
  term_found (means_negative at e t is) = ap (λ x. x >>= λ y. Ok (Negative y)) (term_found is)
  term_found (means_negation at e t is) = ap (λ x. x >>= λ y. Ok (Negation y)) (term_found is)
  term_found (means_operation op at a b s u fits left right) =
      binds (term_of text n under a) (λ x. unless (op_fits n op) (f.WrongShape at) >> (term_of text n under b >>= λ y. Ok (Operation op x y))) s
      (Operation op s u)
      (term_found left)
      (passes (op_fits n op) (f.WrongShape at) (term_of text n under b >>= λ y. Ok (Operation op s y)) (Operation op s u) (fits_in n.version op fits)
      (ap (λ x. x >>= λ y. Ok (Operation op s y)) (term_found right)))

  -- where an expression is found, its first token is right
  first_right : (e : Tree) (t : Term) → term_of text n under e ≡ Ok t → first_token text n under (first_part e) ≡ Ok tt
  unfolding term_of first_token
  first_right (NumberTree m) t e = refl
  first_right (ValueTree at) t e =
      let one = passed under.has_value (f.WrongShape at) (Ok EventValue) t e in ap (λ b. unless b (f.WrongShape at)) one.0
  first_right (KeyTree at) t e = let one = passed under.keyed (f.WrongShape at) (Ok EventKey) t e in ap (λ b. unless b (f.WrongShape at)) one.0
  first_right (TimeTree at) t e = refl
  first_right (ReadTree r) t e = by (is_item text n r) e
    where
      by : (b : Bool)
          → (if b then (unless (takes_items n under) (f.WrongShape r.family.from) >> Ok EventItem)
          else (resolved_cell text n under None r >>= λ c. Ok (CellRead c))) ≡ Ok t
          → (if b then unless (takes_items n under) (f.WrongShape r.family.from) else (family_for text n None r >>= λ _. Ok tt)) ≡ Ok tt
      by true e =
          let one = passed (takes_items n under) (f.WrongShape r.family.from) (Ok EventItem) t e in
          ap (λ b. unless b (f.WrongShape r.family.from)) one.0
      by false e =
          let one = bind_ok (resolved_cell text n under None r) (λ c. Ok (CellRead c)) t e in
          let two = bind_ok (family_for text n None r) (λ family. at_of n under r.key >>= λ a. Ok (record { family = family.number; at = a })) one.0 one.1 in
          ap (λ x. x >>= λ _. Ok tt) two.1
  first_right (HasTree at r) t e = refl
  first_right (ParenTree at e) t q = refl
  first_right (NegTree at e) t q = refl
  first_right (NotTree at e) t q = refl
  first_right (TwoTree op at a b) t q =
      let one = bind_ok (term_of text n under a)
      (λ s. unless (op_fits n op) (f.WrongShape at) >> (term_of text n under b >>= λ u. Ok (Operation op s u))) t q in
      first_right a one.0 one.1

  pub expression_means : (e : Tree) (t : Term) → expression_of text n under e ≡ Ok t → MeansExpression text families (under_head n under) e t
  unfolding expression_of
  expression_means e t q =
      let one = then_ok (first_token text n under (first_part e)) (unless (nat_le (height e) 32) (f.OverLimit Height 33) >> term_of text n under e) t q in
      let two = passed (nat_le (height e) 32) (f.OverLimit Height 33) (term_of text n under e) t one.2 in
      record { low = true_le (height e) 32 two.0; means = term_means e t two.1 }

  pub expression_found : (e : Tree) (t : Term) → MeansExpression text families (under_head n under) e t → expression_of text n under e ≡ Ok t
  unfolding expression_of
  expression_found e t is =
      let found = term_found is.means in
      thens (first_token text n under (first_part e)) (unless (nat_le (height e) 32) (f.OverLimit Height 33) >> term_of text n under e) tt t
      (first_right e t found)
      (passes (nat_le (height e) 32) (f.OverLimit Height 33) (term_of text n under e) t (le_true (height e) 32 is.low) found)
