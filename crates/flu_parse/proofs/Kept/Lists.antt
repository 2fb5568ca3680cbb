-- Lists of names that are read keep the rules: the texts of each, and which of them name keys and items.
use Rattle.std.proofs.Common.{◌≡◌, ◌≢◌, ℕ, ◌+◌, ◌≤◌, Bool, true, false, List, [], ◌∷◌, ◌++◌, map, length, Option, Some, None, Ok, refl, sym, ap, subst}
use Rattle.std.proofs.Common.{◌∙◌, arith}
use Rattle.std.specs.Prelude.{◌&&◌, ◌||◌, not, nat_lt, nat_le, is_some}
use Rattle.std.specs.List.{list_all, list_any}
use Rattle.std.specs.List.{position}
use Rattle.std.specs.Str.{bytes_eq}
use Rattle.std.proofs.lemmas.Cmp.{nat_list_eq_equiv}
use Rattle.std.proofs.lemmas.List.{length-append, append-nil}
use Rattle.std.proofs.lemmas.List.Folds.{list_all-map}
use Rattle.flu_lemmas.specs.Totals.{total}
use Rattle.flu_lemmas.proofs.Elements.{list_all_push}
use Rattle.flu_lemmas.proofs.Loops.{bind_ok, each-keeps-any, each-counts}
use Rattle.flu_lemmas.proofs.Places.{position_below}
use Rattle.flu_lemmas.proofs.Tests.{and_left, and_right, both, le_true, lt_true, not_true}
use Rattle.flu_model.specs.declared.jobs.Kind.{Kind}
use Rattle.flu_model.specs.declared.limits.What.TheVariants.{Names}
use Rattle.flu_model.specs.Erasure.{PlainKind, plain_kind}
use Rattle.flu_model.specs.Numberings.{Numbering}
use Rattle.flu_model.specs.ListRules.{is_listed_text, is_list, is_declared_list, family_list_fits, kind_list_fits}
use Rattle.flu_model.specs.Rules.{is_same_text, are_distinct}
use Rattle.flu_names.specs.Names.{is_name}
use Rattle.flu_text.specs.declared.written.WrittenSpan.{WrittenSpan}
use Rattle.flu_syntax.specs.declared.tree.WrittenBy.{WrittenBy}
use Rattle.flu_syntax.specs.declared.tree.WrittenCells.{WrittenCells}
use Rattle.flu_syntax.specs.declared.tree.WrittenCells.TheVariants as cells
use Rattle.flu_syntax.specs.declared.tree.WrittenItem.{WrittenItem}
use Rattle.flu_layout.specs.Spelling.{name_of, inside}
use Rattle.flu_parse.specs.declared.faults.JobFault.TheVariants as f
use Rattle.flu_parse.specs.declared.names.FamilyHead.{FamilyHead}
use Rattle.flu_parse.specs.Naming.{Naming, is_version_3, family, has_keys, keys_by, items_by, known}
use Rattle.flu_parse.specs.Lists.{with_text, texts_of, list_of, listed_families, listed_kinds}
use Rattle.flu_parse.proofs.Distinct.{distinct_with}
use Rattle.flu_parse.proofs.Looks.{passed, had_room}
use Rattle.flu_parse.proofs.Kept.Terms.{was_known}

-- ---- the texts of a list
record TextsKeep (done : List (List ℕ)) : Type 0 where
  few : length done ≤ 65536
  are : list_all is_listed_text done ≡ true
  apart : are_distinct is_same_text done ≡ true

module _ (text : List ℕ) where
  one_text : (done : List (List ℕ)) (s : WrittenSpan) (next : List (List ℕ)) → with_text text done s ≡ Ok next
      → (is_listed_text (inside text s) ≡ true) × (length done + 1 ≤ 65536) × (list_any (bytes_eq (inside text s)) done ≡ false)
      × (done ++ inside text s ∷ [] ≡ next)
  unfolding with_text
  one_text done s next e =
      let t = inside text s in
      let is = passed (is_listed_text t) (f.WrongShape s.from) _ next e in
      let room = had_room Names 65536 (length done) _ next is.1 in
      let free = passed (not (list_any (bytes_eq t) done)) (f.TwiceNamed s.from) (Ok (done ++ t ∷ [])) next room.1 in
      let few = room.0 in
      (is.0, omega (arith, few), not_true (list_any (bytes_eq t) done) free.0, cc)

  text_keeps : (done : List (List ℕ)) (s : WrittenSpan) (next : List (List ℕ)) → TextsKeep done → with_text text done s ≡ Ok next → TextsKeep next
  text_keeps done s next keep e =
      let t = inside text s in
      let one = one_text done s next e in
      let none = append-nil done in
      let room = one.1 in
      let size = length-append done (t ∷ []) in
      subst TextsKeep one.3 (
      record {
        few = omega (arith, room, size);
        are = list_all_push is_listed_text done t keep.are one.0;
        apart =
            distinct_with is_same_text nat_list_eq_equiv.symm done [] t (ap (are_distinct is_same_text) none ∙ keep.apart)
            (ap (list_any (is_same_text t)) none ∙ one.2);
      }
      )

  text_counts : (done : List (List ℕ)) (s : WrittenSpan) (next : List (List ℕ)) → with_text text done s ≡ Ok next → length next ≡ length done + 1
  text_counts done s next e = ap length (sym (one_text done s next e).3) ∙ length-append done (inside text s ∷ [])

  some_texts : (texts : List WrittenSpan) (named : List (List ℕ)) → texts ≢ [] → length named ≡ 0 + total (λ (s : WrittenSpan). 1) texts
      → nat_lt 0 (length named) ≡ true
  some_texts [] named some count = absurd (some refl)
  some_texts (s ∷ texts) named some count = lt_true 0 (length named) (omega (arith, count))

  -- a list that is read keeps its rules
  pub list_kept : (name : List ℕ) (texts : List WrittenSpan) (named : List (List ℕ)) → is_name name ≡ true → texts ≢ [] → texts_of text texts ≡ Ok named
      → is_list (record { name = name; texts = named }) ≡ true
  list_kept name texts named is some e =
      let count = each-counts (with_text text) length (λ (s : WrittenSpan). 1) text_counts [] texts named e in
      let keep = each-keeps-any (with_text text) TextsKeep text_keeps [] texts named (
      record {
        few = omega arith;
        are = refl;
        apart = refl;
      }
      ) e in
      both (is_name name && nat_lt 0 (length named) && nat_le (length named) 65536 && list_all is_listed_text named) (are_distinct is_same_text named)
      (both (is_name name && nat_lt 0 (length named) && nat_le (length named) 65536) (list_all is_listed_text named)
      (both (is_name name && nat_lt 0 (length named)) (nat_le (length named) 65536)
      (both (is_name name) (nat_lt 0 (length named)) is (some_texts texts named some count)) (le_true (length named) 65536 keep.few)) keep.are) keep.apart

-- ---- which lists are meant, of so many
abbrev pub is_counted : ℕ → Option ℕ → Bool
is_counted count None = true
is_counted count (Some number) = nat_lt number count

-- a list is meant only where there are keys, or items
abbrev pub list_fits : ℕ → Bool → Option ℕ → Bool
list_fits count has l = is_counted count l && (has || not (is_some l))

abbrev pub all_fit : ℕ → List Bool → List (Option ℕ) → Bool
all_fit count [] [] = true
all_fit count [] (l ∷ ls) = false
all_fit count (h ∷ hs) [] = false
all_fit count (h ∷ hs) (l ∷ ls) = list_fits count h l && all_fit count hs ls

pub all_fit-append : (count : ℕ) (hs gs : List Bool) (ls ms : List (Option ℕ)) → all_fit count hs ls ≡ true → all_fit count gs ms ≡ true
    → all_fit count (hs ++ gs) (ls ++ ms) ≡ true
all_fit-append count [] gs [] ms one two = two
all_fit-append count [] gs (l ∷ ls) ms one two = absurd cc
all_fit-append count (h ∷ hs) gs [] ms one two = absurd cc
all_fit-append count (h ∷ hs) gs (l ∷ ls) ms one two =
    both (list_fits count h l) (all_fit count (hs ++ gs) (ls ++ ms)) (and_left (list_fits count h l) (all_fit count hs ls) one)
    (all_fit-append count hs gs ls ms (and_right (list_fits count h l) (all_fit count hs ls) one) two)

module _ (text : List ℕ) (n : Naming) where
  -- a list that is found is declared, and one is found only where one is written
  pub list_found : (by : Option WrittenBy) (l : Option ℕ) → list_of text n by ≡ Ok l → (is_counted (length n.lists) l ≡ true) × (is_some l ≡ is_some by)
  list_found None l e = let same : None ≡ l = cc in (ap (is_counted (length n.lists)) (sym same), ap is_some (sym same))
  list_found (Some by) l e =
      let found = position (bytes_eq (name_of text by.list)) n.lists in
      let one = passed (is_version_3 n) (f.WrongShape by.at) _ l e in
      let two = bind_ok (known by.list.from found) (λ number. Ok (Some number)) l one.1 in
      let there = was_known by.list.from found two.0 two.1 in
      let same : Some two.0 ≡ l = cc in
      let below = position_below (bytes_eq (name_of text by.list)) n.lists two.0 there in
      (ap (is_counted (length n.lists)) (sym same) ∙ lt_true two.0 (length n.lists) below, ap is_some (sym same))

  keys_have : (written : WrittenCells) (l : Option ℕ) → is_some l ≡ is_some (keys_by written) → (has_keys written || not (is_some l)) ≡ true
  keys_have cells.Alone l e = ap not e
  keys_have cells.Keyed l e = refl
  keys_have (cells.By by) l e = refl

  items_have : (item : Option WrittenItem) (l : Option ℕ) → is_some l ≡ is_some (items_by item) → (is_some item || not (is_some l)) ≡ true
  items_have None l e = ap not e
  items_have (Some item) l e = refl

  pub keys_fit : (written : WrittenCells) (l : Option ℕ) → list_of text n (keys_by written) ≡ Ok l
      → all_fit (length n.lists) (has_keys written ∷ []) (l ∷ []) ≡ true
  keys_fit written l e =
      let h = list_found (keys_by written) l e in
      let has = has_keys written || not (is_some l) in
      both (is_counted (length n.lists) l && has) true (both (is_counted (length n.lists) l) has h.0 (keys_have written l h.1)) refl

  pub items_fit : (item : Option WrittenItem) (l : Option ℕ) → list_of text n (items_by item) ≡ Ok l
      → all_fit (length n.lists) (is_some item ∷ []) (l ∷ []) ≡ true
  items_fit item l e =
      let h = list_found (items_by item) l e in
      let has = is_some item || not (is_some l) in
      both (is_counted (length n.lists) l && has) true (both (is_counted (length n.lists) l) has h.0 (items_have item l h.1)) refl

-- ---- the rules of families and kinds
module _ (lists : List Numbering) where
  declared-counted : (l : Option ℕ) → is_declared_list lists l ≡ is_counted (length lists) l
  declared-counted None = refl
  declared-counted (Some number) = refl

  pub families_named : (hs : List (List ℕ × FamilyHead)) (ls : List (Option ℕ)) → all_fit (length lists) (map (λ h. h.1.keyed) hs) ls ≡ true
      → list_all (family_list_fits lists) (listed_families (map family hs) ls) ≡ true
  families_named [] ls e = refl
  families_named (h ∷ hs) [] e = absurd cc
  families_named (h ∷ hs) (l ∷ ls) e =
      let one : Bool = list_fits (length lists) h.1.keyed l in
      let rest : Bool = all_fit (length lists) (map (λ h. h.1.keyed) hs) ls in
      both (is_declared_list lists l && (h.1.keyed || not (is_some l))) (list_all (family_list_fits lists) (listed_families (map family hs) ls))
      (ap (λ b. b && (h.1.keyed || not (is_some l))) (declared-counted l) ∙ and_left one rest e) (families_named hs ls (and_right one rest e))

  abbrev plain_list_fits : PlainKind → Bool
  plain_list_fits k = is_declared_list lists k.list && (k.has_item || not (is_some k.list))

  plain_named : (ks : List PlainKind) (ls : List (Option ℕ)) → all_fit (length lists) (map (λ (k : PlainKind). k.has_item) ks) ls ≡ true
      → list_all plain_list_fits (listed_kinds ks ls) ≡ true
  plain_named [] ls e = refl
  plain_named (k ∷ ks) [] e = absurd cc
  plain_named (k ∷ ks) (l ∷ ls) e =
      let one : Bool = list_fits (length lists) k.has_item l in
      let rest : Bool = all_fit (length lists) (map (λ (q : PlainKind). q.has_item) ks) ls in
      both (is_declared_list lists l && (k.has_item || not (is_some l))) (list_all plain_list_fits (listed_kinds ks ls))
      (ap (λ b. b && (k.has_item || not (is_some l))) (declared-counted l) ∙ and_left one rest e) (plain_named ks ls (and_right one rest e))

  pub kinds_named : (kinds : List Kind) (ks : List PlainKind) (ls : List (Option ℕ)) → map plain_kind kinds ≡ listed_kinds ks ls
      → all_fit (length lists) (map (λ (k : PlainKind). k.has_item) ks) ls ≡ true → list_all (kind_list_fits lists) kinds ≡ true
  kinds_named kinds ks ls same e = sym (list_all-map plain_list_fits plain_kind kinds) ∙ ap (list_all plain_list_fits) same ∙ plain_named ks ls e
