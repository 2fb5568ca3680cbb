-- Cells that are found are what they mean, and the other way round.
use Rattle.std.proofs.Common.{◌≡◌, ℕ, ◌+◌, ◌<◌, Bool, true, List, [], ◌∷◌, map, Option, Some, None, Ok, refl, sym, ap, subst, ◌∙◌, arith}
use Rattle.std.specs.Prelude.{not, nat_lt, slice_get, ◌==◌, ◌&&◌}
use Rattle.flu_lemmas.proofs.Loops.{bind_ok}
use Rattle.flu_lemmas.proofs.Searches.{eq_true}
use Rattle.flu_lemmas.proofs.Tests.{and_left, and_right, both, not_true, true_eq, true_lt, lt_true}
use Rattle.flu_model.specs.declared.limits.What.TheVariants.{Key}
use Rattle.flu_model.specs.declared.jobs.Sort.{Sort}
use Rattle.flu_model.specs.declared.jobs.Sort.TheVariants.{Sum, Max, Last}
use Rattle.flu_model.specs.declared.jobs.Family.{Family}
use Rattle.flu_model.specs.declared.jobs.At.{At}
use Rattle.flu_model.specs.declared.jobs.At.TheVariants as at
use Rattle.flu_model.specs.declared.jobs.CellRef.{CellRef}
use Rattle.flu_model.specs.Contents.{key_count}
use Rattle.flu_model.specs.Rules.{is_sort}
use Rattle.flu_text.specs.declared.written.WrittenSpan.{WrittenSpan}
use Rattle.flu_text.specs.declared.written.WrittenNumber.{WrittenNumber}
use Rattle.flu_syntax.specs.declared.tree.WrittenKey.{WrittenKey}
use Rattle.flu_syntax.specs.declared.tree.WrittenKey.TheVariants as k
use Rattle.flu_syntax.specs.declared.tree.WrittenRef.{WrittenRef}
use Rattle.flu_layout.specs.Spelling.{name_of, written_value}
use Rattle.flu_parse.specs.declared.faults.JobFault.TheVariants as f
use Rattle.flu_parse.specs.declared.names.FamilyHead.{FamilyHead}
use Rattle.flu_parse.specs.declared.names.KindHead.{KindHead}
use Rattle.flu_parse.specs.Faults.{◌>>=◌, ◌>>◌, unless}
use Rattle.flu_parse.specs.Naming.{Naming, takes_items, family, families_of, look_up, known, family_of}
use Rattle.flu_parse.specs.Cells.{resolved_key, brackets_fit, is_wanted, family_for, at_of, resolved_cell}
use Rattle.flu_grammar.specs.Means.{AllDiffer, Under, HasItems}
use Rattle.flu_grammar.specs.Cells.{IsKey, MeansKey, HasSort, family_name, MeansCell}
use Rattle.flu_grammar.specs.Jobs.{without_list}
use Rattle.flu_grammar.proofs.Looks.{ok_same, ok_ok, passed, passes, binds}
use Rattle.flu_grammar.proofs.Heads.{heads, HeadFound, looked_up, looks_up}

abbrev pub family_head : ℕ → Family → FamilyHead
family_head i x = record { number = i; keyed = x.keyed; sort = x.sort }

pub families_back : (i : ℕ) (fs : List Family) → map family (heads family_name family_head i fs) ≡ map without_list fs
families_back i [] = refl
families_back i (x ∷ fs) = ap (λ l. without_list x ∷ l) (families_back (i + 1) fs)

-- the names of a job know these families, which lists are not said of
pub record KnowFamilies (n : Naming) (families : List Family) : Type 0 where
  pub heads_are : n.families ≡ heads family_name family_head 0 families
  pub differ : AllDiffer (map family_name families)
  pub without : map without_list families ≡ families

pub families_are : (n : Naming) (families : List Family) → KnowFamilies n families → families_of n ≡ families
families_are n families knows = ap (map family) knows.heads_are ∙ families_back 0 families ∙ knows.without

pub known_is : {X : Type 0} (at : ℕ) (o : Option X) (x : X) → known at o ≡ Ok x → o ≡ Some x
known_is at None x e = absurd cc
known_is at (Some y) x e = ap (λ z. Some z) (ok_same y x e)

-- ---- what actions stand under

-- in a job with these names, under a kind of this head
abbrev pub under_head : Naming → KindHead → Under
under_head n h = record { version = n.version; keyed = h.keyed; has_item = h.has_item; has_value = h.has_value }

pub has_items : (n : Naming) (h : KindHead) → takes_items n h ≡ true → HasItems (under_head n h)
has_items n h e = (true_eq n.version 3 (and_left (n.version == 3) h.has_item e), and_right (n.version == 3) h.has_item e)

pub takes : (n : Naming) (h : KindHead) → HasItems (under_head n h) → takes_items n h ≡ true
takes n h has = both (n.version == 3) h.has_item (eq_true n.version 3 has.0) has.1

-- ---- keys

pub key_is : (w : WrittenNumber) (key : ℕ) → resolved_key w ≡ Ok key → IsKey w key
key_is w key e =
    let one = passed (nat_lt (written_value w.value) key_count) (f.OverLimit Key (written_value w.value)) (Ok (written_value w.value)) key e in
    let is : written_value w.value ≡ key = ok_same (written_value w.value) key one.1 in
    (sym is, subst (λ (x : ℕ). x < key_count) is (true_lt (written_value w.value) key_count one.0))

pub key_found : (w : WrittenNumber) (key : ℕ) → IsKey w key → resolved_key w ≡ Ok key
key_found w key is =
    passes (nat_lt (written_value w.value) key_count) (f.OverLimit Key (written_value w.value)) (Ok (written_value w.value)) key
    (lt_true (written_value w.value) key_count (subst (λ (x : ℕ). x < key_count) is.0 is.1)) (ok_ok (written_value w.value) key (sym is.0))

pub at_means : (n : Naming) (under : KindHead) (keyed : Bool) (w : WrittenKey) (a : At) → brackets_fit keyed w ≡ true → at_of n under w ≡ Ok a
    → MeansKey keyed (under_head n under) w a
at_means n under keyed k.Alone a fits e = subst (λ (x : At). MeansKey keyed (under_head n under) k.Alone x) (ok_same at.Alone a e) (not_true keyed fits)
at_means n under keyed (k.OwnKey place) a fits e =
    let one = passed under.keyed (f.WrongShape place) (Ok at.OwnKey) a e in
    subst (λ (x : At). MeansKey keyed (under_head n under) (k.OwnKey place) x) (ok_same at.OwnKey a one.1) (fits, one.0)
at_means n under keyed (k.OwnItem place) a fits e =
    let one = passed (takes_items n under) (f.WrongShape place) (Ok at.OwnItem) a e in
    subst (λ (x : At). MeansKey keyed (under_head n under) (k.OwnItem place) x) (ok_same at.OwnItem a one.1) (fits, has_items n under one.0)
at_means n under keyed (k.Fixed w) a fits e =
    let one = bind_ok (resolved_key w) (λ key. Ok (at.Fixed key)) a e in
    subst (λ (x : At). MeansKey keyed (under_head n under) (k.Fixed w) x) (ok_same (at.Fixed one.0) a one.2) (fits, key_is w one.0 one.1)

pub at_found : (n : Naming) (under : KindHead) (keyed : Bool) (w : WrittenKey) (a : At) → MeansKey keyed (under_head n under) w a
    → (brackets_fit keyed w ≡ true) × (at_of n under w ≡ Ok a)
at_found n under keyed k.Alone at.Alone h = (ap not h, refl)
at_found n under keyed (k.OwnKey place) at.OwnKey h = (h.0, passes under.keyed (f.WrongShape place) (Ok at.OwnKey) at.OwnKey h.1 refl)
at_found n under keyed (k.OwnItem place) at.OwnItem h =
    (h.0, passes (takes_items n under) (f.WrongShape place) (Ok at.OwnItem) at.OwnItem (takes n under h.1) refl)
at_found n under keyed (k.Fixed w) (at.Fixed key) h = (h.0, ap (λ r. r >>= λ x. Ok (at.Fixed x)) (key_found w key h.1))
at_found n under keyed k.Alone at.OwnKey h = absurd h
at_found n under keyed k.Alone at.OwnItem h = absurd h
at_found n under keyed k.Alone (at.Fixed key) h = absurd h
at_found n under keyed (k.OwnKey place) at.Alone h = absurd h
at_found n under keyed (k.OwnKey place) at.OwnItem h = absurd h
at_found n under keyed (k.OwnKey place) (at.Fixed key) h = absurd h
at_found n under keyed (k.OwnItem place) at.Alone h = absurd h
at_found n under keyed (k.OwnItem place) at.OwnKey h = absurd h
at_found n under keyed (k.OwnItem place) (at.Fixed key) h = absurd h
at_found n under keyed (k.Fixed w) at.Alone h = absurd h
at_found n under keyed (k.Fixed w) at.OwnKey h = absurd h
at_found n under keyed (k.Fixed w) at.OwnItem h = absurd h

-- ---- sorts

sort_is : (wanted sort : Sort) → is_sort wanted sort ≡ true → sort ≡ wanted
sort_is Sum Sum e = refl
sort_is Max Max e = refl
sort_is Last Last e = refl
sort_is Sum Max e = absurd cc
sort_is Sum Last e = absurd cc
sort_is Max Sum e = absurd cc
sort_is Max Last e = absurd cc
sort_is Last Sum e = absurd cc
sort_is Last Max e = absurd cc

itself : (s : Sort) → is_sort s s ≡ true
itself Sum = refl
itself Max = refl
itself Last = refl

has_sort : (wanted : Option Sort) (sort : Sort) → is_wanted wanted sort ≡ true → HasSort wanted sort
has_sort None sort e = tt
has_sort (Some wanted) sort e = sort_is wanted sort e

pub wants_sort : (wanted : Option Sort) (sort : Sort) → HasSort wanted sort → is_wanted wanted sort ≡ true
wants_sort None sort h = refl
wants_sort (Some wanted) sort h = ap (is_sort wanted) h ∙ itself wanted

-- ---- families and cells

module _ (text : List ℕ) (n : Naming) (families : List Family) (knows : KnowFamilies n families) where
  pub family_is : (s : WrittenSpan) (h : FamilyHead) → family_of text n s ≡ Ok h → HeadFound family_name family_head families (name_of text s) 0 h
  family_is s h e =
      looked_up family_name family_head 0 families (name_of text s) h
      (ap (look_up (name_of text s)) (sym knows.heads_are) ∙ known_is s.from (look_up (name_of text s) n.families) h e)

  pub look_up_found : (s : WrittenSpan) (i : ℕ) (x : Family) → slice_get families i ≡ Some x → x.name ≡ name_of text s
      → look_up (name_of text s) n.families ≡ Some (family_head i x)
  look_up_found s i x here named =
      let zero_more : 0 + i ≡ i = omega arith in
      (λ j. look_up (sym named j) (knows.heads_are j)) ∙ looks_up family_name family_head 0 families i x knows.differ here
      ∙ ap (λ (m : ℕ). Some (family_head m x)) zero_more

  pub family_found : (s : WrittenSpan) (i : ℕ) (x : Family) → slice_get families i ≡ Some x → x.name ≡ name_of text s
      → family_of text n s ≡ Ok (family_head i x)
  family_found s i x here named = ap (known s.from) (look_up_found s i x here named)

  module _ (under : KindHead) where
    pub cell_from : (wanted : Option Sort) (r : WrittenRef) (h : FamilyHead) (a : At) → HeadFound family_name family_head families (name_of text r.family) 0 h
        → HasSort wanted h.sort → MeansKey h.keyed (under_head n under) r.key a
        → MeansCell text families (under_head n under) wanted r (record { family = h.number; at = a })
    cell_from wanted r h a found sort key =
        let zero_more : found.place ≡ 0 + found.place = omega arith in
        let number : found.place ≡ h.number = zero_more ∙ ap (λ (x : FamilyHead). x.number) found.is in record {
          family = found.declared;
          here = ap (slice_get families) (sym number) ∙ found.here;
          name = found.named;
          sort = subst (HasSort wanted) (ap (λ (x : FamilyHead). x.sort) (sym found.is)) sort;
          key = subst (λ (b : Bool). MeansKey b (under_head n under) r.key a) (ap (λ (x : FamilyHead). x.keyed) (sym found.is)) key;
        }

    pub cell_means : (wanted : Option Sort) (r : WrittenRef) (c : CellRef) → resolved_cell text n under wanted r ≡ Ok c
        → MeansCell text families (under_head n under) wanted r c
    cell_means wanted r c e =
        let one = bind_ok (family_for text n wanted r) (λ family. at_of n under r.key >>= λ a. Ok (record { family = family.number; at = a })) c e in
        let two = bind_ok (at_of n under r.key) (λ a. Ok (record { family = one.0.number; at = a })) c one.2 in
        let fam = bind_ok (family_of text n r.family)
        (λ family. unless (is_wanted wanted family.sort && brackets_fit family.keyed r.key) (f.WrongShape r.family.from) >> Ok family) one.0 one.1 in
        let look = passed (is_wanted wanted fam.0.sort && brackets_fit fam.0.keyed r.key) (f.WrongShape r.family.from) (Ok fam.0) one.0 fam.2 in
        let same : fam.0 ≡ one.0 = ok_same fam.0 one.0 look.1 in
        let sort = has_sort wanted fam.0.sort (and_left (is_wanted wanted fam.0.sort) (brackets_fit fam.0.keyed r.key) look.0) in
        let fits = and_right (is_wanted wanted fam.0.sort) (brackets_fit fam.0.keyed r.key) look.0 in
        let head = subst (λ (h : FamilyHead). HeadFound family_name family_head families (name_of text r.family) 0 h) same (family_is r.family fam.0 fam.1) in
        subst (λ (x : CellRef). MeansCell text families (under_head n under) wanted r x) (ok_same (record { family = one.0.number; at = two.0 }) c two.2)
        (cell_from wanted r one.0 two.0 head (subst (λ (h : FamilyHead). HasSort wanted h.sort) same sort)
        (at_means n under one.0.keyed r.key two.0 (subst (λ (h : FamilyHead). brackets_fit h.keyed r.key ≡ true) same fits) two.1))

    pub cell_found : (wanted : Option Sort) (r : WrittenRef) (c : CellRef) → MeansCell text families (under_head n under) wanted r c
        → resolved_cell text n under wanted r ≡ Ok c
    cell_found wanted r c means =
        let x = means.family in
        let h = family_head c.family x in
        let key = at_found n under x.keyed r.key c.at means.key in
        binds (family_for text n wanted r) (λ family. at_of n under r.key >>= λ a. Ok (record { family = family.number; at = a })) h c
        (binds (family_of text n r.family)
        (λ family. unless (is_wanted wanted family.sort && brackets_fit family.keyed r.key) (f.WrongShape r.family.from) >> Ok family) h h
        (family_found r.family c.family x means.here means.name)
        (passes (is_wanted wanted x.sort && brackets_fit x.keyed r.key) (f.WrongShape r.family.from) (Ok h) h
        (both (is_wanted wanted x.sort) (brackets_fit x.keyed r.key) (wants_sort wanted x.sort means.sort) key.0) refl))
        (binds (at_of n under r.key) (λ a. Ok (record { family = c.family; at = a })) c.at c key.1 refl)
