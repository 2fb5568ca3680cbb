-- The rules of lists of names, of kinds as plain data.
use Rattle.std.proofs.Common.{◌≡◌, ◌<◌, ◌≤◌, ℕ, zero, suc, Bool, true, ◌&&◌, ◌||◌, List, [], ◌∷◌, map, length, Some, refl, ap, ◌∙◌, arith}
use Rattle.std.specs.Prelude.{nat_lt, nat_le, not, ◌==◌, is_some, slice_get}
use Rattle.std.specs.List.{list_all}
use Rattle.flu_lemmas.proofs.Tests.{and_left, and_right, true_le, true_lt, lt_true}
use Rattle.flu_lemmas.proofs.Booleans.{three_left, three_middle, three_right}
use Rattle.flu_lemmas.proofs.Elements.{list_all_weaker, passes_at}
use Rattle.flu_names.specs.Names.{is_name, is_text_byte}
use Rattle.flu_model.specs.declared.jobs.Family.{Family}
use Rattle.flu_model.specs.declared.jobs.Kind.{Kind}
use Rattle.flu_model.specs.Contents.{key_count}
use Rattle.flu_model.specs.Erasure.{PlainKind, plain_kind}
use Rattle.flu_model.specs.Numberings.{Numbering}
use Rattle.flu_model.specs.ListRules.{is_listed_byte, is_listed_text, is_list, is_declared_list, family_list_fits, kind_list_fits, fit_lists}
use Rattle.flu_model.specs.Rules.{is_same_text, are_distinct}
use Rattle.flu_parse.specs.Printing.{name_of_list, list_name}

-- the list of a kind's items
abbrev pub plain_kind_list_fits : List Numbering → PlainKind → Bool
plain_kind_list_fits lists k = is_declared_list lists k.list && (k.has_item || not (is_some k.list))

abbrev pub plain_fit_lists : ℕ → List Numbering → List Family → List PlainKind → Bool
plain_fit_lists version lists families kinds =
    (version == 3 || length lists == 0) && list_all (family_list_fits lists) families && list_all (plain_kind_list_fits lists) kinds

kinds_listed : (lists : List Numbering) (kinds : List Kind)
    → list_all (kind_list_fits lists) kinds ≡ list_all (plain_kind_list_fits lists) (map plain_kind kinds)
kinds_listed lists [] = refl
kinds_listed lists (k ∷ kinds) = ap (λ b. kind_list_fits lists k && b) (kinds_listed lists kinds)

pub lists-plain : (version : ℕ) (lists : List Numbering) (families : List Family) (kinds : List Kind)
    → fit_lists version lists families kinds ≡ plain_fit_lists version lists families (map plain_kind kinds)
lists-plain version lists families kinds =
    ap (λ b. (version == 3 || length lists == 0) && list_all (family_list_fits lists) families && b) (kinds_listed lists kinds)

-- lists fit, part by part
pub families_listed : (version : ℕ) (lists : List Numbering) (families : List Family) (kinds : List PlainKind)
    → plain_fit_lists version lists families kinds ≡ true → list_all (family_list_fits lists) families ≡ true
families_listed version lists families kinds h =
    three_middle (version == 3 || length lists == 0) (list_all (family_list_fits lists) families) (list_all (plain_kind_list_fits lists) kinds) h

pub plain_kinds_listed : (version : ℕ) (lists : List Numbering) (families : List Family) (kinds : List PlainKind)
    → plain_fit_lists version lists families kinds ≡ true → list_all (plain_kind_list_fits lists) kinds ≡ true
plain_kinds_listed version lists families kinds h =
    three_right (version == 3 || length lists == 0) (list_all (family_list_fits lists) families) (list_all (plain_kind_list_fits lists) kinds) h

pub lists_known : (version : ℕ) (lists : List Numbering) (families : List Family) (kinds : List PlainKind)
    → plain_fit_lists version lists families kinds ≡ true → (version == 3 || length lists == 0) ≡ true
lists_known version lists families kinds h =
    three_left (version == 3 || length lists == 0) (list_all (family_list_fits lists) families) (list_all (plain_kind_list_fits lists) kinds) h

-- what a list keeps
pub record ListFacts (l : Numbering) : Type 0 where
  pub name : is_name l.name ≡ true
  pub some : nat_lt 0 (length l.texts) ≡ true
  pub few : nat_le (length l.texts) key_count ≡ true
  pub texts : list_all is_listed_text l.texts ≡ true
  pub apart : are_distinct is_same_text l.texts ≡ true

pub list_facts : (l : Numbering) → is_list l ≡ true → ListFacts l
list_facts l h =
    let name : Bool = is_name l.name in
    let some : Bool = nat_lt 0 (length l.texts) in
    let few : Bool = nat_le (length l.texts) key_count in
    let texts : Bool = list_all is_listed_text l.texts in
    let apart : Bool = are_distinct is_same_text l.texts in
    let four : (name && some && few && texts) ≡ true = and_left (name && some && few && texts) apart h in
    let three : (name && some && few) ≡ true = and_left (name && some && few) texts four in
    record {
      name = three_left name some few three;
      some = three_middle name some few three;
      few = three_right name some few three;
      texts = and_right (name && some && few) texts four;
      apart = and_right (name && some && few && texts) apart h;
    }

-- the list of a number that is declared
pub record ListAt (lists : List Numbering) (i : ℕ) : Type 0 where
  pub list : Numbering
  pub found : slice_get lists i ≡ Some list

pub list_at_number : (lists : List Numbering) (i : ℕ) → nat_lt i (length lists) ≡ true → ListAt lists i
list_at_number [] i h = absurd (let lt : i < 0 = true_lt i 0 h in omega arith)
list_at_number (l ∷ lists) zero h = record { list = l; found = refl }
list_at_number (l ∷ lists) (suc i) h =
    let lt : suc i < length (l ∷ lists) = true_lt (suc i) (length (l ∷ lists)) h in
    let rest = list_at_number lists i (lt_true i (length lists) (omega arith)) in
    record { list = rest.list; found = rest.found }

-- a list that is meant has a name
pub list_named : (lists : List Numbering) (number : ℕ) → list_all is_list lists ≡ true → is_declared_list lists (Some number) ≡ true
    → is_name (list_name lists (Some number)) ≡ true
list_named lists number all declared =
    let at = list_at_number lists number declared in
    ap (λ o. is_name (name_of_list o)) at.found ∙ (list_facts at.list (passes_at is_list lists number at.list all at.found)).name

listed_byte : (b : ℕ) → is_listed_byte b ≡ true → is_text_byte b ≡ true
listed_byte b h =
    let text : Bool = is_text_byte b in
    let comma : Bool = not (b == 44) in
    let opening : Bool = not (b == 91) in
    let closing : Bool = not (b == 93) in
    let brace : Bool = not (b == 123) in
    three_left text comma opening (and_left (text && comma && opening) closing (and_left (text && comma && opening && closing) brace
    (and_left (text && comma && opening && closing && brace) (not (b == 125)) h)))

-- the bytes of a name in a list may stand between quotes
pub listed_bytes : (t : List ℕ) → is_listed_text t ≡ true → list_all is_text_byte t ≡ true
listed_bytes t h =
    list_all_weaker is_listed_byte is_text_byte t listed_byte (three_right (nat_lt 0 (length t)) (nat_le (length t) 64) (list_all is_listed_byte t) h)

pub listed_short : (t : List ℕ) → is_listed_text t ≡ true → length t ≤ 256
listed_short t h =
    let short : length t ≤ 64 = true_le (length t) 64 (three_middle (nat_lt 0 (length t)) (nat_le (length t) 64) (list_all is_listed_byte t) h) in
    omega arith
