-- Cells and expressions of the normal form are read as what was printed.
use Rattle.std.proofs.Common.{◌≡◌, ◌≤◌, ◌+◌, ◌*◌, ℕ, pos, Bool, true, false, ◌&&◌, ◌||◌, List, [], ◌∷◌, Option, Some, None, Ok, refl, ap, ◌∙◌, max, arith}
use Rattle.std.specs.Prelude.{nat_lt, nat_le, not, slice_get, codes, if◌then◌else◌}
use Rattle.std.specs.List.{list_all}
use Rattle.std.specs.Str.{IsUtf8, bytes_eq}
use Rattle.flu_lemmas.proofs.Tests.{and_left, and_right, both, true_le}
use Rattle.flu_lemmas.proofs.Items.{begins_append, Took}
use Rattle.flu_text.specs.declared.words.Token.{Token}
use Rattle.flu_text.specs.Layout.{Piece as Laid}
use Rattle.flu_model.specs.declared.jobs.Sort.{Sort}
use Rattle.flu_model.specs.declared.jobs.Family.{Family}
use Rattle.flu_model.specs.declared.jobs.At.{At}
use Rattle.flu_model.specs.declared.jobs.At.TheVariants as at
use Rattle.flu_model.specs.declared.jobs.CellRef.{CellRef}
use Rattle.flu_model.specs.declared.limits.What.TheVariants.{Key, Height}
use Rattle.flu_text.specs.declared.words.Mark.TheVariants as m
use Rattle.flu_model.specs.Contents.{key_count}
use Rattle.flu_model.specs.Erasure.{Term, Literal, EventValue, EventKey, EventItem, EventTime, CellRead, CellHeld, Negative, Negation, Operation}
use Rattle.flu_model.specs.Versions.{op_divides}
use Rattle.flu_model.specs.Rules.{key_fits, ref_fits}
use Rattle.flu_model.specs.declared.jobs.Piece.{Piece}
use Rattle.flu_model.specs.Templates.{family_name, written_template}
use Rattle.flu_syntax.specs.declared.tree.WrittenKey.{WrittenKey}
use Rattle.flu_syntax.specs.declared.tree.WrittenKey.TheVariants as k
use Rattle.flu_syntax.specs.declared.tree.WrittenRef.{WrittenRef}
use Rattle.flu_text.specs.Signs.{is_name_word, span_of}
use Rattle.flu_syntax.specs.Tree.{Tree, NumberTree, ValueTree, KeyTree, TimeTree, ReadTree, HasTree, ParenTree, NegTree, NotTree, TwoTree}
use Rattle.flu_text.specs.Signs.{IsSign}
use Rattle.flu_syntax.specs.Grammar.{key_signs, cell_signs, spelled, op_level, Fits, nest, left_level, IsExpression}
use Rattle.flu_names.specs.Names.{is_name}
use Rattle.flu_layout.specs.Spelling.{name_of}
use Rattle.flu_layout.specs.Laid.{mark}
use Rattle.flu_layout.specs.Stands.{Stand}
use Rattle.flu_parse.specs.declared.faults.JobFault.TheVariants as f
use Rattle.flu_parse.specs.declared.names.FamilyHead.{FamilyHead}
use Rattle.flu_parse.specs.declared.names.KindHead.{KindHead}
use Rattle.flu_parse.specs.Faults.{Found, ◌>>=◌, ◌>>◌, unless}
use Rattle.flu_parse.specs.Naming.{Naming, is_version_3, takes_items, families_of, look_up, known, family_of}
use Rattle.flu_parse.specs.Cells.{brackets_fit, is_wanted, family_for, at_of, resolved_cell}
use Rattle.flu_parse.specs.Terms.{height, first_part, is_alone, is_item, op_fits, first_token, term_of, expression_of}
use Rattle.flu_parse.proofs.Printed.Words.{key_words, cell_words, term_words}
use Rattle.flu_parse.proofs.Printed.LaidCells.{family_at}
use Rattle.flu_parse.proofs.Kept.Plain.{term_fits, term_height, is_good_term}
use Rattle.flu_parse.proofs.Kept.Versions.{at_suits, term_suits}

abbrev pub family_head : ℕ → Family → FamilyHead
family_head i f = record { number = i; keyed = f.keyed; sort = f.sort }

-- each family is looked up by its name, templates are written with the names that are known, and in version 3 no family is called `item`
pub record FamiliesKnown (families : List Family) (n : Naming) : Type 0 where
  pub declared : (i : ℕ) (f : Family) → slice_get families i ≡ Some f → look_up f.name n.families ≡ Some (family_head i f)
  pub not_item : (i : ℕ) (f : Family) → slice_get families i ≡ Some f → (is_version_3 n && bytes_eq f.name (codes "item")) ≡ false
  pub all : (pieces : List Piece) → written_template (families_of n) pieces ≡ written_template families pieces

-- where a kind has items, they may stand under it
abbrev pub ItemsKnown : Naming → KindHead → Type 0
ItemsKnown n under = takes_items n under ≡ under.has_item

-- what is not called `item` is no item, with brackets or without them
pub not_called : (newer alone called : Bool) → (newer && called) ≡ false → (newer && alone && called) ≡ false
not_called false alone called e = refl
not_called true true called e = e
not_called true false called e = refl

module _ (whole : List ℕ) (utf8 : IsUtf8 whole) (families : List Family) (names : list_all (λ (f : Family). is_name f.name) families ≡ true) (n : Naming)
    (known_families : FamiliesKnown families n) (under : KindHead) where
  -- a key that was printed, as it is read
  record KeyRead (a : At) (family_keyed : Bool) (rest : List Laid) (ts : List Token) : Type 0 where
    key : WrittenKey
    took : Took IsSign (Stand whole) (key_signs key) rest ts
    brackets : brackets_fit family_keyed key ≡ true
    means : at_of n under key ≡ Ok a

  read_key : ItemsKnown n under → (a : At) (family_keyed : Bool) (behind : List ℕ) (rest : List Laid) (ts : List Token)
      → key_fits family_keyed under.keyed a ≡ true → at_suits under.has_item a ≡ true
      → Stand whole (key_words a behind rest) ts → KeyRead a family_keyed rest ts
  read_key items at.Alone family_keyed behind rest ts fits suits h = record {
    key = k.Alone;
    took = record { rest = ts; begins = refl; stand = h };
    brackets =
        fits;
    means = refl;
  }
  read_key items at.OwnKey family_keyed behind rest ts fits suits h = record {
    key = k.OwnKey h.4.0.from;
    took = record {
      rest = h.4.4.1;
      begins = (
        h.0,
        h.1,
        h.2,
        h.3.word,
        (
          h.4.0,
          h.4.1,
          h.4.2,
          (h.4.3.word, refl),
          (h.4.4.0, h.4.4.1, h.4.4.2, h.4.4.3.word, refl),
        ),
      );
      stand = h.4.4.4;
    };
    brackets = and_left family_keyed under.keyed fits;
    means = ap (λ b. unless b (f.WrongShape h.4.0.from) >> Ok at.OwnKey) (and_right family_keyed under.keyed fits);
  }
  read_key items at.OwnItem family_keyed behind rest ts fits suits h = record {
    key = k.OwnItem h.4.0.from;
    took = record {
      rest = h.4.4.1;
      begins = (
        h.0,
        h.1,
        h.2,
        h.3.word,
        (
          h.4.0,
          h.4.1,
          h.4.2,
          (h.4.3.word, refl),
          (h.4.4.0, h.4.4.1, h.4.4.2, h.4.4.3.word, refl),
        ),
      );
      stand = h.4.4.4;
    };
    brackets = fits;
    means = ap (λ b. unless b (f.WrongShape h.4.0.from) >> Ok at.OwnItem) (items ∙ suits);
  }
  read_key items (at.Fixed m) family_keyed behind rest ts fits suits h = record {
    key = k.Fixed (record { value = pos m; at = h.4.0.from });
    took = record {
      rest = h.4.4.1;
      begins = (
        h.0,
        h.1,
        h.2,
        h.3.word,
        (
          h.4.0,
          h.4.1,
          h.4.2,
          (h.4.3.word, refl),
          (h.4.4.0, h.4.4.1, h.4.4.2, h.4.4.3.word, refl),
        ),
      );
      stand = h.4.4.4;
    };
    brackets = and_left family_keyed (nat_lt m key_count) fits;
    means = ap (λ b. unless b (f.OverLimit Key m) >> Ok m >>= λ key. Ok (at.Fixed key)) (and_right family_keyed (nat_lt m key_count) fits);
  }

  -- a cell that was printed, as it is read
  pub record CellIs (c : CellRef) (rest : List Laid) (ts : List Token) : Type 0 where
    pub written : WrittenRef
    pub took : Took IsSign (Stand whole) (cell_signs written) rest ts
    pub family : Family
    pub found : slice_get families c.family ≡ Some family
    pub spelled_so : name_of whole written.family ≡ family.name
    pub brackets : brackets_fit family.keyed written.key ≡ true
    pub looked : family_of whole n written.family ≡ Ok (family_head c.family family)
    pub named : (wanted : Option Sort) → is_wanted wanted family.sort ≡ true → family_for whole n wanted written ≡ Ok (family_head c.family family)
    pub means : (wanted : Option Sort) → is_wanted wanted family.sort ≡ true → resolved_cell whole n under wanted written ≡ Ok c

  pub read_cell : ItemsKnown n under → (c : CellRef) (behind : List ℕ) (rest : List Laid) (ts : List Token) → ref_fits families under.keyed c ≡ true
      → at_suits under.has_item c.at ≡ true → Stand whole (cell_words families c behind rest) ts → CellIs c rest ts
  read_cell items c behind rest ts fits suits h =
      let at_family = family_at families under.keyed c fits in
      let key = read_key items c.at at_family.family.keyed behind rest h.1 at_family.fits suits h.4 in
      let r : WrittenRef = record { family = span_of h.0; key = key.key } in
      let spelled_so : name_of whole r.family ≡ at_family.family.name =
      h.3.named refl ∙ ap family_name at_family.found in
      let head = family_head c.family at_family.family in
      let looked : family_of whole n r.family ≡ Ok head =
      ap (λ name. known r.family.from (look_up name n.families)) spelled_so
      ∙ ap (known r.family.from) (known_families.declared c.family at_family.family at_family.found) in
      let named : (wanted : Option Sort) → is_wanted wanted at_family.family.sort ≡ true → family_for whole n wanted r ≡ Ok head =
      λ wanted right.
      ap (λ (found : Found FamilyHead). found >>= λ family. unless (is_wanted wanted family.sort && brackets_fit family.keyed r.key)
      (f.WrongShape r.family.from) >> Ok family) looked
      ∙ ap (λ b. unless b (f.WrongShape r.family.from) >> Ok head) (both (is_wanted wanted head.sort) (brackets_fit head.keyed r.key) right key.brackets) in
      record {
        written = r;
        took = record { rest = key.took.rest; begins = (h.0, h.1, h.2, (ap is_name_word h.3.word, refl, refl), key.took.begins); stand = key.took.stand };
        family = at_family.family;
        found = at_family.found;
        spelled_so = spelled_so;
        brackets = key.brackets;
        looked = looked;
        named = named;
        means = λ wanted right.
            ap (λ (found : Found FamilyHead). found >>= λ family. at_of n under r.key >>=
            λ at. Ok (let cell : CellRef = record { family = family.number; at = at } in cell)) (named wanted right)
            ∙ ap (λ (found : Found At). found >>= λ at. Ok (let cell : CellRef = record { family = c.family; at = at } in cell)) key.means;
      }

  -- an expression that was printed, as it is read: it stands alone wherever operators are wanted
  pub record TermIs (e : Term) (rest : List Laid) (ts : List Token) : Type 0 where
    pub tree : Tree
    pub took : Took IsSign (Stand whole) (spelled tree) rest ts
    pub fits : (level : ℕ) → Fits level tree
    pub opens : nest tree + 2 ≤ 2 * term_height e
    pub high : height tree ≡ term_height e
    pub first : first_token whole n under (first_part tree) ≡ Ok tt
    pub means : term_of whole n under tree ≡ Ok e

  -- what is read as a cell is the event's item, or it is not
  abbrev item_first : Bool → WrittenRef → Found (Unit {0})
  item_first item r = if item then unless (takes_items n under) (f.WrongShape r.family.from) else (family_for whole n None r >>= λ _. Ok tt)

  abbrev item_or_cell : Bool → WrittenRef → Found Term
  item_or_cell item r =
      if item then (unless (takes_items n under) (f.WrongShape r.family.from) >> Ok EventItem)
      else (resolved_cell whole n under None r >>= λ c. Ok (CellRead c))

  pub read_term : ItemsKnown n under → (has_value : Bool) (e : Term) (behind : List ℕ) (rest : List Laid) (ts : List Token) → under.has_value ≡ has_value
      → term_fits families under.keyed has_value e ≡ true → term_suits under.has_item (is_version_3 n) e ≡ true
      → Stand whole (term_words families e behind rest) ts → TermIs e rest ts
  unfolding term_of first_token
  read_term items has_value (Literal m) behind rest ts same fits suits h = record {
    tree = NumberTree (record { value = m; at = h.0.from });
    took = record { rest = h.1; begins = (h.0, h.1, h.2, (h.3.word, refl), refl); stand = h.4 };
    fits = λ level. tt;
    opens = omega arith;
    high = refl;
    first = refl;
    means = refl;
  }
  read_term items has_value EventValue behind rest ts same fits suits h = record {
    tree = ValueTree h.0.from;
    took = record { rest = h.1; begins = (h.0, h.1, h.2, (h.3.word, refl), refl); stand = h.4 };
    fits = λ level. tt;
    opens = omega arith;
    high = refl;
    first = ap (λ b. unless b (f.WrongShape h.0.from)) (same ∙ fits);
    means = ap (λ b. unless b (f.WrongShape h.0.from) >> Ok EventValue) (same ∙ fits);
  }
  read_term items has_value EventKey behind rest ts same fits suits h = record {
    tree = KeyTree h.0.from;
    took = record { rest = h.1; begins = (h.0, h.1, h.2, (h.3.word, refl), refl); stand = h.4 };
    fits = λ level. tt;
    opens = omega arith;
    high = refl;
    first = ap (λ b. unless b (f.WrongShape h.0.from)) fits;
    means = ap (λ b. unless b (f.WrongShape h.0.from) >> Ok EventKey) fits;
  }
  read_term items has_value EventItem behind rest ts same fits suits h =
      let r : WrittenRef = record { family = span_of h.0; key = k.Alone } in
      let newer : is_version_3 n ≡ true = and_left (is_version_3 n) under.has_item (items ∙ suits) in
      let is : is_item whole n r ≡ true =
      both (is_version_3 n && true) (bytes_eq (name_of whole r.family) (codes "item")) (both (is_version_3 n) true newer refl)
      (ap (λ s. bytes_eq s (codes "item")) (h.3.named refl)) in
      record {
        tree = ReadTree r;
        took = record { rest = h.1; begins = (h.0, h.1, h.2, (ap is_name_word h.3.word, refl, refl), refl); stand = h.4 };
        fits = λ level. tt;
        opens = omega arith;
        high = refl;
        first = ap (λ b. item_first b r) is ∙ ap (λ b. unless b (f.WrongShape r.family.from)) (items ∙ suits);
        means = ap (λ b. item_or_cell b r) is ∙ ap (λ b. unless b (f.WrongShape r.family.from) >> Ok EventItem) (items ∙ suits);
      }
  read_term items has_value EventTime behind rest ts same fits suits h = record {
    tree = TimeTree h.0.from;
    took = record { rest = h.1; begins = (h.0, h.1, h.2, (h.3.word, refl), refl); stand = h.4 };
    fits = λ level. tt;
    opens = omega arith;
    high = refl;
    first = refl;
    means = refl;
  }
  read_term items has_value (CellRead c) behind rest ts same fits suits h =
      let cell = read_cell items c behind rest ts fits suits h in
      let r : WrittenRef = cell.written in
      let is : is_item whole n r ≡ false =
      ap (λ s. is_version_3 n && is_alone r.key && bytes_eq s (codes "item")) cell.spelled_so
      ∙ not_called (is_version_3 n) (is_alone r.key) (bytes_eq cell.family.name (codes "item")) (known_families.not_item c.family cell.family cell.found) in
      record {
        tree = ReadTree cell.written;
        took = cell.took;
        fits = λ level. tt;
        opens = omega arith;
        high = refl;
        first = ap (λ b. item_first b r) is ∙ ap (λ (found : Found FamilyHead). found >>= λ _. Ok tt) (cell.named None refl);
        means = ap (λ b. item_or_cell b r) is ∙ ap (λ (found : Found CellRef). found >>= λ c. Ok (CellRead c)) (cell.means None refl);
      }
  read_term items has_value (CellHeld c) behind rest ts same fits suits h =
      let cell = read_cell items c behind rest h.1 fits suits h.4 in
      record {
        tree = HasTree h.0.from cell.written;
        took = record { rest = cell.took.rest; begins = (h.0, h.1, h.2, (h.3.word, refl), cell.took.begins); stand = cell.took.stand };
        fits = λ level. tt;
        opens = omega arith;
        high = refl;
        first = refl;
        means = ap (λ (found : Found CellRef). found >>= λ c. Ok (CellHeld c)) (cell.means None refl);
      }
  read_term items has_value (Negative e) behind rest ts same fits suits h =
      let inner = read_term items has_value e [] (mark m.CloseParen behind ∷ rest) h.4.1 same fits suits h.4.4 in
      let close = inner.took.stand in
      record {
        tree = ParenTree h.0.from (NegTree h.4.0.from inner.tree);
        took = record {
          rest = close.1;
          begins = (
            h.0,
            h.1,
            h.2,
            (h.3.word, refl),
            (
              h.4.0,
              h.4.1,
              h.4.2,
              (h.4.3.word, refl),
              begins_append IsSign
                  (spelled inner.tree) _ h.4.1 inner.took.rest close.1 inner.took.begins (close.0, close.1, close.2, close.3.word, refl),
            ),
          );
          stand = close.4;
        };
        fits = λ level. inner.fits 6;
        opens = omega (arith, inner.opens);
        high = ap (λ k. k + 1) inner.high;
        first = refl;
        means = ap (λ (found : Found Term). found >>= λ t. Ok (Negative t)) inner.means;
      }
  read_term items has_value (Negation e) behind rest ts same fits suits h =
      let inner = read_term items has_value e [] (mark m.CloseParen behind ∷ rest) h.4.1 same fits suits h.4.4 in
      let close = inner.took.stand in
      record {
        tree = ParenTree h.0.from (NotTree h.4.0.from inner.tree);
        took = record {
          rest = close.1;
          begins = (
            h.0,
            h.1,
            h.2,
            (h.3.word, refl),
            (
              h.4.0,
              h.4.1,
              h.4.2,
              (h.4.3.word, refl),
              begins_append IsSign
                  (spelled inner.tree) _ h.4.1 inner.took.rest close.1 inner.took.begins (close.0, close.1, close.2, close.3.word, refl),
            ),
          );
          stand = close.4;
        };
        fits = λ level. (omega arith, inner.fits 2);
        opens = omega (arith, inner.opens);
        high = ap (λ k. k + 1) inner.high;
        first = refl;
        means = ap (λ (found : Found Term). found >>= λ t. Ok (Negation t)) inner.means;
      }
  read_term items has_value (Operation o a b) behind rest ts same fits suits h =
      let suits_a : Bool = term_suits under.has_item (is_version_3 n) a in
      let suits_b : Bool = term_suits under.has_item (is_version_3 n) b in
      let op_ok : op_fits n o ≡ true = and_left (is_version_3 n || not (op_divides o)) (suits_a && suits_b) suits in
      let parts : (suits_a && suits_b) ≡ true = and_right (is_version_3 n || not (op_divides o)) (suits_a && suits_b) suits in
      let left = read_term items has_value a _ _ h.1 same (and_left (term_fits families under.keyed has_value a)
      (term_fits families under.keyed has_value b) fits) (and_left suits_a suits_b parts) h.4 in
      let sign = left.took.stand in
      let right = read_term items has_value b [] (mark m.CloseParen behind ∷ rest) sign.1 same
      (and_right (term_fits families under.keyed has_value a) (term_fits families under.keyed has_value b) fits) (and_right suits_a suits_b parts) sign.4 in
      let close = right.took.stand in
      let two = TwoTree o sign.0.from left.tree right.tree in
      record {
        tree = ParenTree h.0.from two;
        took = record {
          rest = close.1;
          begins = (
            h.0,
            h.1,
            h.2,
            (h.3.word, refl),
            begins_append IsSign (spelled two) _ h.1 right.took.rest close.1
                (begins_append IsSign (spelled left.tree) _ h.1 left.took.rest right.took.rest left.took.begins
                (sign.0, sign.1, sign.2, (sign.3.word, refl), right.took.begins)) (close.0, close.1, close.2, close.3.word, refl),
          );
          stand = close.4;
        };
        fits = λ level. (omega arith, left.fits (left_level (op_level o)), right.fits (op_level o + 1));
        opens = omega (arith, left.opens, right.opens);
        high = ap (λ k. max k (height right.tree) + 1) left.high ∙ ap (λ k. max (term_height a) k + 1) right.high;
        first = refl;
        means = ap (λ (found : Found Term). found >>= λ s. unless (op_fits n o) (f.WrongShape sign.0.from) >> (term_of whole n under right.tree >>=
            λ t. Ok (Operation o s t))) left.means
            ∙ ap (λ b. unless b (f.WrongShape sign.0.from) >> (term_of whole n under right.tree >>= λ t. Ok (Operation o a t))) op_ok
            ∙ ap (λ (found : Found Term). found >>= λ t. Ok (Operation o a t)) right.means;
      }

  -- a whole expression
  pub record ExpressionIs (e : Term) (rest : List Laid) (ts : List Token) : Type 0 where
    pub tree : Tree
    pub took : Took IsSign (Stand whole) (spelled tree) rest ts
    pub is : IsExpression 64 tree
    pub means : expression_of whole n under tree ≡ Ok e

  pub read_expression : ItemsKnown n under → (has_value : Bool) (e : Term) (behind : List ℕ) (rest : List Laid) (ts : List Token)
      → under.has_value ≡ has_value → is_good_term families under.keyed has_value e ≡ true → term_suits under.has_item (is_version_3 n) e ≡ true
      → Stand whole (term_words families e behind rest) ts → ExpressionIs e rest ts
  unfolding expression_of
  read_expression items has_value e behind rest ts same good suits h =
      let fits = and_left (term_fits families under.keyed has_value e) (nat_le (term_height e) 32) good in
      let t = read_term items has_value e behind rest ts same fits suits h in
      let low = and_right (term_fits families under.keyed has_value e) (nat_le (term_height e) 32) good in
      let few : term_height e ≤ 32 = true_le (term_height e) 32 low in
      record {
        tree = t.tree;
        took = t.took;
        is = (t.fits 0, omega (arith, t.opens, few));
        means =
            ap (λ (found : Found (Unit {0})). found >> (unless (nat_le (height t.tree) 32) (f.OverLimit Height 33) >> term_of whole n under t.tree)) t.first
            ∙ ap (λ k. unless (nat_le k 32) (f.OverLimit Height 33) >> term_of whole n under t.tree) t.high
            ∙ ap (λ b. unless b (f.OverLimit Height 33) >> term_of whole n under t.tree) low
            ∙ t.means;
      }
