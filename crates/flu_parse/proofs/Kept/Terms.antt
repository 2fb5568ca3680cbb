-- Cells and expressions that are read keep the rules under their kind.
use Rattle.std.proofs.Common.{◌≡◌, ℕ, ◌+◌, ◌^◌, Bool, true, List, map, Option, Some, None, Ok, inl, inr, refl, sym, ap, subst, ◌∙◌}
use Rattle.std.specs.Prelude.{◌&&◌, ◌||◌, not, nat_lt, nat_le, max, slice_get, option_map}
use Rattle.std.proofs.lemmas.Option.{slice_get-map}
use Rattle.std.specs.List.{AllByRecursion}
use Rattle.flu_lemmas.proofs.Elements.{all_front, all_back}
use Rattle.flu_lemmas.proofs.Tests.{and_left, and_right, both, lt_true}
use Rattle.flu_lemmas.proofs.Loops.{bind_ok, then_ok}
use Rattle.flu_lemmas.proofs.Prefixes.{chosen}
use Rattle.flu_model.specs.declared.limits.What.TheVariants.{Key, Height}
use Rattle.flu_model.specs.declared.jobs.Sort.{Sort}
use Rattle.flu_model.specs.declared.jobs.Sort.TheVariants.{Sum, Max, Last}
use Rattle.flu_model.specs.declared.jobs.Family.{Family}
use Rattle.flu_model.specs.declared.jobs.At.{At}
use Rattle.flu_model.specs.declared.jobs.At.TheVariants as cell
use Rattle.flu_model.specs.declared.jobs.CellRef.{CellRef}
use Rattle.flu_model.specs.Rules.{is_literal, key_fits, is_sort, family_fits, has_sort, is_keyed, ref_fits, ref_has_sort}
use Rattle.flu_model.specs.Erasure.{Term, Literal, EventValue, EventKey, EventItem, EventTime, CellRead, CellHeld, Negative, Negation, Operation}
use Rattle.flu_model.specs.Versions.{op_divides}
use Rattle.flu_text.specs.declared.words.Word.{Word}
use Rattle.flu_text.specs.declared.words.Word.TheVariants as w
use Rattle.flu_text.specs.declared.words.Token.{Token}
use Rattle.flu_text.specs.Grammar.{Spells, IsToken, bytes_of}
use Rattle.flu_text.specs.Signs.{At as AtPlace}
use Rattle.flu_text.specs.Signs.{Stands}
use Rattle.flu_syntax.specs.Words.{tree_words}
use Rattle.flu_text.specs.declared.written.WrittenNumber.{WrittenNumber}
use Rattle.flu_syntax.specs.declared.tree.WrittenKey.{WrittenKey}
use Rattle.flu_syntax.specs.declared.tree.WrittenKey.TheVariants as k
use Rattle.flu_syntax.specs.declared.tree.WrittenRef.{WrittenRef}
use Rattle.flu_syntax.specs.Tree.{Tree, NumberTree, ValueTree, KeyTree, TimeTree, ReadTree, HasTree, ParenTree, NegTree, NotTree, TwoTree}
use Rattle.flu_layout.specs.Spelling.{name_of, written_value}
use Rattle.flu_layout.specs.Stands.{AreRead}
use Rattle.flu_parse.specs.declared.faults.JobFault.TheVariants as f
use Rattle.flu_parse.specs.declared.names.FamilyHead.{FamilyHead}
use Rattle.flu_parse.specs.declared.names.KindHead.{KindHead}
use Rattle.flu_parse.specs.Faults.{Found, ◌>>=◌, ◌>>◌, unless}
use Rattle.flu_parse.specs.Naming.{Naming, is_version_3, takes_items, family, look_up, known}
use Rattle.flu_parse.specs.Cells.{resolved_key, brackets_fit, is_wanted, family_for, at_of, resolved_cell}
use Rattle.flu_parse.specs.Terms.{height, first_part, is_item, op_fits, first_token, term_of, expression_of}
use Rattle.flu_parse.proofs.Looks.{passed}
use Rattle.flu_parse.proofs.Kept.Plain.{term_fits, term_height, is_good_term}
use Rattle.flu_parse.proofs.Kept.Versions.{at_suits, term_suits}
use Rattle.flu_parse.proofs.Kept.Names.{Numbered, family_number, at_number}

-- a family is known by its head
pub was_known : {X : Type 0} (place : ℕ) (o : Option X) (x : X) → known place o ≡ Ok x → o ≡ Some x
was_known place None x e = absurd cc
was_known place (Some y) x e = cc

-- a key that is found is in range
pub key_kept : (number : WrittenNumber) (key : ℕ) → resolved_key number ≡ Ok key → (nat_lt key 65536 ≡ true) × (written_value number.value ≡ key)
key_kept number key e =
    let h = passed (nat_lt (written_value number.value) 65536) (f.OverLimit Key (written_value number.value)) (Ok (written_value number.value)) key e in
    let same : written_value number.value ≡ key = cc in
    (ap (λ n. nat_lt n 65536) (sym same) ∙ h.0, same)

-- where brackets fit, so does the key
pub at_kept : (n : Naming) (keyed : Bool) (under : KindHead) (key : WrittenKey) (at : At) → brackets_fit keyed key ≡ true → at_of n under key ≡ Ok at
    → key_fits keyed under.keyed at ≡ true
at_kept n keyed under k.Alone at fits e = let same : cell.Alone ≡ at = cc in ap (key_fits keyed under.keyed) (sym same) ∙ fits
at_kept n keyed under (k.OwnKey place) at fits e =
    let h = passed under.keyed (f.WrongShape place) (Ok cell.OwnKey) at e in
    let same : cell.OwnKey ≡ at = cc in
    ap (key_fits keyed under.keyed) (sym same) ∙ both keyed under.keyed fits h.0
at_kept n keyed under (k.OwnItem place) at fits e =
    let h = passed (takes_items n under) (f.WrongShape place) (Ok cell.OwnItem) at e in
    let same : cell.OwnItem ≡ at = cc in
    ap (key_fits keyed under.keyed) (sym same) ∙ fits
at_kept n keyed under (k.Fixed number) at fits e =
    let h = bind_ok (resolved_key number) (λ key. Ok (cell.Fixed key)) at e in
    let same : cell.Fixed h.0 ≡ at = cc in
    ap (key_fits keyed under.keyed) (sym same) ∙ both keyed (nat_lt h.0 65536) fits (key_kept number h.0 h.1).0

-- an item is asked for only under a kind with items
pub at_suits_kept : (n : Naming) (under : KindHead) (key : WrittenKey) (at : At) → at_of n under key ≡ Ok at → at_suits under.has_item at ≡ true
at_suits_kept n under k.Alone at e = let same : cell.Alone ≡ at = cc in ap (at_suits under.has_item) (sym same)
at_suits_kept n under (k.OwnKey place) at e =
    let h = passed under.keyed (f.WrongShape place) (Ok cell.OwnKey) at e in
    let same : cell.OwnKey ≡ at = cc in
    ap (at_suits under.has_item) (sym same)
at_suits_kept n under (k.OwnItem place) at e =
    let h = passed (takes_items n under) (f.WrongShape place) (Ok cell.OwnItem) at e in
    let same : cell.OwnItem ≡ at = cc in
    ap (at_suits under.has_item) (sym same) ∙ and_right (is_version_3 n) under.has_item h.0
at_suits_kept n under (k.Fixed number) at e =
    let h = bind_ok (resolved_key number) (λ key. Ok (cell.Fixed key)) at e in
    let same : cell.Fixed h.0 ≡ at = cc in
    ap (at_suits under.has_item) (sym same)

pub sort_swapped : (a b : Sort) → is_sort a b ≡ true → is_sort b a ≡ true
sort_swapped Sum Sum e = refl
sort_swapped Sum Max e = e
sort_swapped Sum Last e = e
sort_swapped Max Sum e = e
sort_swapped Max Max e = refl
sort_swapped Max Last e = e
sort_swapped Last Sum e = e
sort_swapped Last Max e = e
sort_swapped Last Last e = refl

module _ (text : List ℕ) (n : Naming) (numbered : Numbered family_number 0 n.families) where
  abbrev pub families_of : List Family
  families_of = map family n.families

  -- the family of a head is declared at its number
  pub family_at : (name : List ℕ) (head : FamilyHead) → look_up name n.families ≡ Some head
      → (fam : Family) × (slice_get families_of head.number ≡ Some fam) × (fam.keyed ≡ head.keyed) × (fam.sort ≡ head.sort)
  family_at name head e =
      let h = at_number family_number n.families name head numbered e in (
        family h.0,
        slice_get-map family n.families head.number
            ∙ ap (option_map family) h.1,
        ap (λ (x : FamilyHead). x.keyed) h.2,
        ap (λ (x : FamilyHead). x.sort) h.2,
      )

  pub ref_kept : (name : List ℕ) (head : FamilyHead) (kind_keyed : Bool) (at : At) → look_up name n.families ≡ Some head
      → key_fits head.keyed kind_keyed at ≡ true → ref_fits families_of kind_keyed (record { family = head.number; at = at }) ≡ true
  ref_kept name head kind_keyed at e fits =
      let h = family_at name head e in
      ap (λ o. family_fits o kind_keyed at) h.1 ∙ ap (λ b. key_fits b kind_keyed at) h.2 ∙ fits

  pub sort_kept : (name : List ℕ) (head : FamilyHead) (sort : Sort) (at : At) → look_up name n.families ≡ Some head → is_sort sort head.sort ≡ true
      → ref_has_sort families_of sort (record { family = head.number; at = at }) ≡ true
  sort_kept name head sort at e is =
      let h = family_at name head e in
      ap (λ o. has_sort o sort) h.1 ∙ ap (λ s. is_sort s sort) h.3 ∙ sort_swapped sort head.sort is

  pub keyed_kept : (name : List ℕ) (head : FamilyHead) → look_up name n.families ≡ Some head → head.keyed ≡ true
      → is_keyed (slice_get families_of head.number) ≡ true
  keyed_kept name head e keyed = let h = family_at name head e in ap is_keyed h.1 ∙ h.2 ∙ keyed

  module _ (under : KindHead) where
    -- a cell that is found: its family is looked up, of the wanted sort and with brackets that fit
    found_cell : (wanted : Option Sort) (r : WrittenRef) (c : CellRef) → resolved_cell text n under wanted r ≡ Ok c
        → (head : FamilyHead) × (at : At) × (look_up (name_of text r.family) n.families ≡ Some head) × (is_wanted wanted head.sort ≡ true)
        × (key_fits head.keyed under.keyed at ≡ true) × (at_suits under.has_item at ≡ true) × (record { family = head.number; at = at } ≡ c)
    found_cell wanted r c e =
        let one = bind_ok (family_for text n wanted r) _ c e in
        let two = bind_ok (at_of n under r.key) (λ at. Ok (record { family = one.0.number; at = at })) c one.2 in
        let three = bind_ok (known r.family.from (look_up (name_of text r.family) n.families)) _ one.0 one.1 in
        let four = passed (is_wanted wanted three.0.sort && brackets_fit three.0.keyed r.key) (f.WrongShape r.family.from) (Ok three.0) one.0 three.2 in
        let same : three.0 ≡ one.0 = cc in
        let fit = ap (λ (h : FamilyHead). is_wanted wanted h.sort && brackets_fit h.keyed r.key) (sym same) ∙ four.0 in
        let brackets = and_right (is_wanted wanted one.0.sort) (brackets_fit one.0.keyed r.key) fit in (
          one.0,
          two.0,
          was_known r.family.from (look_up (name_of text r.family) n.families) three.0 three.1 ∙ ap Some same,
          and_left (is_wanted wanted one.0.sort) (brackets_fit one.0.keyed r.key) fit,
          at_kept n one.0.keyed under r.key two.0 brackets two.1,
          at_suits_kept n under r.key two.0 two.1,
          cc,
        )

    pub cell_kept : (wanted : Option Sort) (r : WrittenRef) (c : CellRef) → resolved_cell text n under wanted r ≡ Ok c
        → ref_fits families_of under.keyed c ≡ true
    cell_kept wanted r c e =
        let h = found_cell wanted r c e in ap (ref_fits families_of under.keyed) (sym h.6) ∙ ref_kept (name_of text r.family) h.0 under.keyed h.1 h.2 h.4

    pub cell_suits : (wanted : Option Sort) (r : WrittenRef) (c : CellRef) → resolved_cell text n under wanted r ≡ Ok c
        → at_suits under.has_item c.at ≡ true
    cell_suits wanted r c e = let h = found_cell wanted r c e in ap (λ (x : CellRef). at_suits under.has_item x.at) (sym h.6) ∙ h.5

    pub cell_has_sort : (sort : Sort) (r : WrittenRef) (c : CellRef) → resolved_cell text n under (Some sort) r ≡ Ok c → ref_has_sort families_of sort c ≡ true
    cell_has_sort sort r c e =
        let h = found_cell (Some sort) r c e in ap (ref_has_sort families_of sort) (sym h.6) ∙ sort_kept (name_of text r.family) h.0 sort h.1 h.2 h.3

    -- ---- expressions of words that stand in the text

    module _ (ts : List Token) (read : AreRead text ts) where
      number_kept : (m : WrittenNumber) → Stands ts (AtPlace (w.Number m.value) m.at) → is_literal m.value ≡ true
      number_kept m stands =
          let t : Token = stands.0 in
          let there : IsToken text t = let h = stands.1 in subst (IsToken text) h.2 (read.tokens h.0 t h.1) in
          let number : Spells (w.Number m.value) (bytes_of text t) = subst (λ (word : Word). Spells word (bytes_of text t)) stands.2.0 there.spelled in
          ap is_literal number.value ∙ lt_true _ (2 ^ 63) number.small

      abbrev Kept : Tree → Term → Type 0
      Kept e t = (term_fits families_of under.keyed under.has_value t ≡ true) × (term_height t ≡ height e)
          × (term_suits under.has_item (is_version_3 n) t ≡ true)

      term_kept : (e : Tree) (t : Term) → AllByRecursion (Stands ts) (tree_words e) → term_of text n under e ≡ Ok t → Kept e t
      unfolding term_of
      term_kept (NumberTree m) t words e = let same : Literal m.value ≡ t = cc in subst (Kept (NumberTree m)) same (number_kept m words.0, refl, refl)
      term_kept (ValueTree at) t words e =
          let h = passed under.has_value (f.WrongShape at) (Ok EventValue) t e in
          let same : EventValue ≡ t = cc in
          subst (Kept (ValueTree at)) same (h.0, refl, refl)
      term_kept (KeyTree at) t words e =
          let h = passed under.keyed (f.WrongShape at) (Ok EventKey) t e in
          let same : EventKey ≡ t = cc in
          subst (Kept (KeyTree at)) same (h.0, refl, refl)
      term_kept (TimeTree at) t words e = let same : EventTime ≡ t = cc in subst (Kept (TimeTree at)) same (refl, refl, refl)
      term_kept (ReadTree r) t words e =
          let item : Found Term = unless (takes_items n under) (f.WrongShape r.family.from) >> Ok EventItem in
          let read : Found Term = resolved_cell text n under None r >>= λ c. Ok (CellRead c) in
          elim (chosen (is_item text n r) item read (Ok t) e) [
            | inl g ↦
                let h = passed (takes_items n under) (f.WrongShape r.family.from) (Ok EventItem) t g.1 in
                let same : EventItem ≡ t = cc in
                subst (Kept (ReadTree r)) same (refl, refl, and_right (is_version_3 n) under.has_item h.0)
            | inr g ↦
                let h = bind_ok (resolved_cell text n under None r) (λ c. Ok (CellRead c)) t g.1 in
                let same : CellRead h.0 ≡ t = cc in
                subst (Kept (ReadTree r)) same (cell_kept None r h.0 h.1, refl, cell_suits None r h.0 h.1)
          ]
      term_kept (HasTree at r) t words e =
          let h = bind_ok (resolved_cell text n under None r) (λ c. Ok (CellHeld c)) t e in
          let same : CellHeld h.0 ≡ t = cc in
          subst (Kept (HasTree at r)) same (cell_kept None r h.0 h.1, refl, cell_suits None r h.0 h.1)
      term_kept (ParenTree at inner) t words e = term_kept inner t words e
      term_kept (NegTree at inner) t words e =
          let h = bind_ok (term_of text n under inner) (λ s. Ok (Negative s)) t e in
          let same : Negative h.0 ≡ t = cc in
          let rest = term_kept inner h.0 words h.1 in
          subst (Kept (NegTree at inner)) same (rest.0, ap (λ m. m + 1) rest.1, rest.2)
      term_kept (NotTree at inner) t words e =
          let h = bind_ok (term_of text n under inner) (λ s. Ok (Negation s)) t e in
          let same : Negation h.0 ≡ t = cc in
          let rest = term_kept inner h.0 words h.1 in
          subst (Kept (NotTree at inner)) same (rest.0, ap (λ m. m + 1) rest.1, rest.2)
      term_kept (TwoTree op at a b) t words e =
          let h = bind_ok (term_of text n under a) _ t e in
          let known = passed (op_fits n op) (f.WrongShape at) _ t h.2 in
          let g = bind_ok (term_of text n under b) (λ s. Ok (Operation op h.0 s)) t known.1 in
          let same : Operation op h.0 g.0 ≡ t = cc in
          let left = term_kept a h.0 (all_front (Stands ts) (tree_words a) (tree_words b) words) h.1 in
          let right = term_kept b g.0 (all_back (Stands ts) (tree_words a) (tree_words b) words) g.1 in
          let fits = term_fits families_of under.keyed under.has_value in
          let suits = term_suits under.has_item (is_version_3 n) in
          subst (Kept (TwoTree op at a b)) same (
            both (fits h.0) (fits g.0) left.0 right.0,
            (λ i. max (left.1 i) (right.1 i) + 1),
            both (is_version_3 n || not (op_divides op)) (suits h.0 && suits g.0) known.0 (both (suits h.0) (suits g.0) left.2 right.2),
          )

      pub expression_kept : (e : Tree) (t : Term) → AllByRecursion (Stands ts) (tree_words e) → expression_of text n under e ≡ Ok t
          → (is_good_term families_of under.keyed under.has_value t ≡ true) × (term_suits under.has_item (is_version_3 n) t ≡ true)
      unfolding expression_of
      expression_kept e t words found =
          let one = then_ok (first_token text n under (first_part e)) _ t found in
          let two = passed (nat_le (height e) 32) (f.OverLimit Height 33) (term_of text n under e) t one.2 in
          let kept = term_kept e t words two.1 in
          (both (term_fits families_of under.keyed under.has_value t) (nat_le (term_height t) 32) kept.0 (ap (λ m. nat_le m 32) kept.1 ∙ two.0), kept.2)
