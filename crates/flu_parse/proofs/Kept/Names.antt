-- The names of a job that is read keep the rules: they are names, no two are the same, and they are not too many.
use Rattle.std.proofs.Common.{◌≡◌, ℕ, suc, ◌+◌, ◌<◌, ◌≤◌, Bool, true, false, List, [], ◌∷◌, ◌++◌, map, length, Some, None, Ok, refl, sym, ap, subst, ◌∙◌}
use Rattle.std.proofs.Common.{append_assoc, add-zero, arith}
use Rattle.std.specs.Prelude.{◌||◌, not, slice_get, is_some, if◌then◌else◌}
use Rattle.std.specs.List.{list_any, list_all, flat_map, AllByRecursion}
use Rattle.std.specs.Str.{bytes_eq}
use Rattle.std.proofs.lemmas.Cmp.{nat_list_eq_equiv}
use Rattle.std.proofs.lemmas.List.{length-append, append-nil, map-append}
use Rattle.std.proofs.lemmas.List.Folds.{list_any-append}
use Rattle.flu_lemmas.specs.Totals.{total}
use Rattle.flu_lemmas.proofs.Tests.{and_left, and_right, both, not_true}
use Rattle.flu_lemmas.proofs.Loops.{bind_ok, each-keeps, each-counts, each-lists}
use Rattle.flu_model.specs.declared.jobs.Sort.{Sort}
use Rattle.flu_model.specs.declared.limits.What.TheVariants.{Families, Kinds, Sources, Lists, Depends}
use Rattle.flu_model.specs.Rules.{are_distinct}
use Rattle.flu_names.specs.Names.{is_name}
use Rattle.flu_text.specs.declared.words.Token.{Token}
use Rattle.flu_text.specs.declared.written.WrittenSpan.{WrittenSpan}
use Rattle.flu_syntax.specs.Tree.{Declaration}
use Rattle.flu_syntax.specs.Tree as d
use Rattle.flu_text.specs.Signs.{Stands}
use Rattle.flu_syntax.specs.Words.{declaration_words}
use Rattle.flu_layout.specs.Spelling.{name_of}
use Rattle.flu_layout.specs.Stands.{AreRead}
use Rattle.flu_parse.specs.declared.faults.JobFault.TheVariants as f
use Rattle.flu_parse.specs.declared.names.FamilyHead.{FamilyHead}
use Rattle.flu_parse.specs.declared.names.KindHead.{KindHead}
use Rattle.flu_parse.specs.Faults.{◌>>◌, room}
use Rattle.flu_parse.specs.Naming.{Naming, look_up, is_declared, fresh_name, with_family, with_kind, with_source, with_list, has_keys, declare}
use Rattle.flu_parse.specs.Naming.{no_names, naming_of}
use Rattle.flu_parse.proofs.Distinct.{distinct_with}
use Rattle.flu_parse.proofs.NamingLemmas.{undeclared}
use Rattle.flu_parse.proofs.Looks.{passed, had_room}

-- the head of what is declared at a place, and its number
abbrev pub Numbered : {X : Type 0} → (X → ℕ) → ℕ → List (List ℕ × X) → Type 0
Numbered number i [] = Unit {0}
Numbered number i (h ∷ hs) = (number h.1 ≡ i) × Numbered number (i + 1) hs

abbrev pub names_in : {X : Type 0} → List (List ℕ × X) → List (List ℕ)
names_in hs = map (λ h. h.0) hs

abbrev pub all_names : Naming → List (List ℕ)
all_names n = names_in n.families ++ names_in n.kinds ++ n.sources ++ n.lists

abbrev pub family_number : FamilyHead → ℕ
family_number h = h.number

abbrev pub kind_number : KindHead → ℕ
kind_number h = h.number

-- which families are keyed
abbrev pub key_heads : Naming → List Bool
key_heads n = map (λ h. h.1.keyed) n.families

-- which kinds have items
abbrev pub item_heads : Naming → List Bool
item_heads n = map (λ h. h.1.has_item) n.kinds

-- What names that are read keep.
pub record NamesKeep (n : Naming) : Type 0 where
  pub few_families : length n.families ≤ 64
  pub few_kinds : length n.kinds ≤ 64
  pub few_sources : length n.sources ≤ 64
  pub few_lists : length n.lists ≤ 64
  pub few_depends : n.depends ≤ 4096
  pub are_names : list_all is_name (all_names n) ≡ true
  pub distinct : are_distinct bytes_eq (all_names n) ≡ true
  pub families : Numbered family_number 0 n.families
  pub kinds : Numbered kind_number 0 n.kinds

-- ---- numbers
module _ {X : Type 0} (number : X → ℕ) where
  pub numbered_more : (i : ℕ) (hs : List (List ℕ × X)) (name : List ℕ) (x : X) → Numbered number i hs → number x ≡ i + length hs
      → Numbered number i (hs ++ (name, x) ∷ [])
  numbered_more i [] name x all here = (omega (arith, here), tt)
  numbered_more i (h ∷ hs) name x all here = (all.0, numbered_more (i + 1) hs name x all.1 (omega (arith, here)))

  -- what is looked up stands at its number
  pub looked_up : (i : ℕ) (hs : List (List ℕ × X)) (name : List ℕ) (x : X) → Numbered number i hs → look_up name hs ≡ Some x
      → (k : ℕ) × (number x ≡ i + k) × (h : List ℕ × X) × (slice_get hs k ≡ Some h) × (h.1 ≡ x)
  looked_up i [] name x all e = absurd cc
  looked_up i (h ∷ hs) name x all e = by (bytes_eq name h.0) e (looked_up (i + 1) hs name x all.1)
    where
      by : (b : Bool) → (if b then Some h.1 else look_up name hs) ≡ Some x
          → (look_up name hs ≡ Some x → (k : ℕ) × (number x ≡ i + 1 + k) × (g : List ℕ × X) × (slice_get hs k ≡ Some g) × (g.1 ≡ x))
          → (k : ℕ) × (number x ≡ i + k) × (g : List ℕ × X) × (slice_get (h ∷ hs) k ≡ Some g) × (g.1 ≡ x)
      by true e rest = let same : h.1 ≡ x = cc in (0, ap number (sym same) ∙ all.0 ∙ sym (add-zero i), h, refl, same)
      by false e rest = let r = rest e in (suc r.0, omega (arith, r.1), r.2, r.3, r.4)

  pub at_number : (hs : List (List ℕ × X)) (name : List ℕ) (x : X) → Numbered number 0 hs → look_up name hs ≡ Some x
      → (h : List ℕ × X) × (slice_get hs (number x) ≡ Some h) × (h.1 ≡ x)
  at_number hs name x all e =
      let r = looked_up 0 hs name x all e in
      let here : number x ≡ r.0 = omega (arith, r.1) in
      (r.2, ap (slice_get hs) here ∙ r.3, r.4)

-- ---- names that are declared
any_named : {X : Type 0} (name : List ℕ) (hs : List (List ℕ × X)) → look_up name hs ≡ None → list_any (bytes_eq name) (names_in hs) ≡ false
any_named name [] e = refl
any_named name (h ∷ hs) e = by (bytes_eq name h.0) e (any_named name hs)
  where
    by : (b : Bool) → (if b then Some h.1 else look_up name hs) ≡ None → (look_up name hs ≡ None → list_any (bytes_eq name) (names_in hs) ≡ false)
        → (b || list_any (bytes_eq name) (names_in hs)) ≡ false
    by true e rest = absurd cc
    by false e rest = rest e

none_has : (n : Naming) (name : List ℕ) → is_declared n name ≡ false → list_any (bytes_eq name) (all_names n) ≡ false
none_has n name e =
    let none = undeclared n name e in
    list_any-append (bytes_eq name) (names_in n.families ++ names_in n.kinds ++ n.sources) n.lists
    ∙ ap (λ b. b || list_any (bytes_eq name) n.lists) (list_any-append (bytes_eq name) (names_in n.families ++ names_in n.kinds) n.sources)
    ∙ ap (λ b. (b || list_any (bytes_eq name) n.sources) || list_any (bytes_eq name) n.lists)
    (list_any-append (bytes_eq name) (names_in n.families) (names_in n.kinds))
    ∙ (λ i. ((any_named name n.families none.0 i || any_named name n.kinds none.1 i) || none.2 i) || none.3 i)

abbrev AreOwnNames : List (List ℕ) → Type 0
AreOwnNames all = (list_all is_name all ≡ true) × (are_distinct bytes_eq all ≡ true)

-- a new name at its place among the others
module _ (n : Naming) (name : List ℕ) (keep : NamesKeep n) (free : is_declared n name ≡ false) (is : is_name name ≡ true) where
  put : (front back : List (List ℕ)) → all_names n ≡ front ++ back → AreOwnNames (front ++ name ∷ back)
  put front back parts = (
    put_passes front back (ap (list_all is_name) (sym parts) ∙ keep.are_names),
    distinct_with bytes_eq nat_list_eq_equiv.symm front back name (ap (are_distinct bytes_eq) (sym parts) ∙ keep.distinct)
        (ap (list_any (bytes_eq name)) (sym parts) ∙ none_has n name free),
  )
    where
      put_passes : (front back : List (List ℕ)) → list_all is_name (front ++ back) ≡ true → list_all is_name (front ++ name ∷ back) ≡ true
      put_passes [] back all = both (is_name name) (list_all is_name back) is all
      put_passes (x ∷ front) back all =
          both (is_name x) (list_all is_name (front ++ name ∷ back)) (and_left (is_name x) (list_all is_name (front ++ back)) all)
          (put_passes front back (and_right (is_name x) (list_all is_name (front ++ back)) all))

  family_put : (head : FamilyHead) → AreOwnNames (names_in (n.families ++ (name, head) ∷ []) ++ names_in n.kinds ++ n.sources ++ n.lists)
  family_put head =
      let fs = names_in n.families in
      let ks = names_in n.kinds in
      let more : names_in (n.families ++ (name, head) ∷ []) ++ ks ++ n.sources ++ n.lists ≡ fs ++ name ∷ (ks ++ n.sources ++ n.lists) =
      ap (λ l. l ++ ks ++ n.sources ++ n.lists) (map-append (λ h. h.0) n.families ((name, head) ∷ []))
      ∙ ap (λ l. l ++ n.sources ++ n.lists) (append_assoc fs (name ∷ []) ks) ∙ ap (λ l. l ++ n.lists) (append_assoc fs (name ∷ ks) n.sources)
      ∙ append_assoc fs (name ∷ (ks ++ n.sources)) n.lists in
      let parts : all_names n ≡ fs ++ (ks ++ n.sources ++ n.lists) =
      ap (λ l. l ++ n.lists) (append_assoc fs ks n.sources) ∙ append_assoc fs (ks ++ n.sources) n.lists in
      subst AreOwnNames (sym more) (put fs (ks ++ n.sources ++ n.lists) parts)

  kind_put : (head : KindHead) → AreOwnNames (names_in n.families ++ names_in (n.kinds ++ (name, head) ∷ []) ++ n.sources ++ n.lists)
  kind_put head =
      let fs = names_in n.families in
      let ks = names_in n.kinds in
      let more : fs ++ names_in (n.kinds ++ (name, head) ∷ []) ++ n.sources ++ n.lists ≡ (fs ++ ks) ++ name ∷ (n.sources ++ n.lists) =
      ap (λ l. fs ++ l ++ n.sources ++ n.lists) (map-append (λ h. h.0) n.kinds ((name, head) ∷ []))
      ∙ ap (λ l. l ++ n.sources ++ n.lists) (sym (append_assoc fs ks (name ∷ [])))
      ∙ ap (λ l. l ++ n.lists) (append_assoc (fs ++ ks) (name ∷ []) n.sources) ∙ append_assoc (fs ++ ks) (name ∷ n.sources) n.lists in
      subst AreOwnNames (sym more) (put (fs ++ ks) (n.sources ++ n.lists) (append_assoc (fs ++ ks) n.sources n.lists))

  source_put : AreOwnNames (names_in n.families ++ names_in n.kinds ++ (n.sources ++ name ∷ []) ++ n.lists)
  source_put =
      let front = names_in n.families ++ names_in n.kinds in
      let more : front ++ (n.sources ++ name ∷ []) ++ n.lists ≡ (front ++ n.sources) ++ name ∷ n.lists =
      ap (λ l. l ++ n.lists) (sym (append_assoc front n.sources (name ∷ []))) ∙ append_assoc (front ++ n.sources) (name ∷ []) n.lists in
      subst AreOwnNames (sym more) (put (front ++ n.sources) n.lists refl)

  list_put : AreOwnNames (names_in n.families ++ names_in n.kinds ++ n.sources ++ (n.lists ++ name ∷ []))
  list_put =
      let front = names_in n.families ++ names_in n.kinds ++ n.sources in
      let none : all_names n ≡ (front ++ n.lists) ++ [] = sym (append-nil (front ++ n.lists)) in
      subst AreOwnNames (append_assoc front n.lists (name ∷ [])) (put (front ++ n.lists) [] none)

-- a name that was free
was_free : (text : List ℕ) (n : Naming) (s : WrittenSpan) (name : List ℕ) → fresh_name text n s ≡ Ok name
    → (is_declared n (name_of text s) ≡ false) × (name_of text s ≡ name)
was_free text n s name e =
    let h = passed (not (is_declared n (name_of text s))) (f.TwiceNamed s.from) (Ok (name_of text s)) name e in
    (not_true (is_declared n (name_of text s)) h.0, cc)

-- ---- one declaration more
module _ (text : List ℕ) where
  -- what the names are with one declaration more
  added_family : (n : Naming) (s : WrittenSpan) (keyed : Bool) (sort : Sort) (m : Naming) → with_family text n s keyed sort ≡ Ok m
      → (is_declared n (name_of text s) ≡ false) × (length n.families < 64)
      × (record n { families = n.families ++ (name_of text s, record { number = length n.families; keyed = keyed; sort = sort }) ∷ [] } ≡ m)
  unfolding with_family
  added_family n s keyed sort m e =
      let b = bind_ok (fresh_name text n s) _ m e in
      let free = was_free text n s b.0 b.1 in
      let r = had_room Families 64 (length n.families) _ m b.2 in (
        free.0,
        r.0,
        ap
            (λ (name : List ℕ). record n { families = n.families ++ (name, record { number = length n.families; keyed = keyed; sort = sort }) ∷ [] }) free.1
            ∙ cc,
      )

  added_kind : (n : Naming) (s : WrittenSpan) (keyed has_item has_value : Bool) (m : Naming) → with_kind text n s keyed has_item has_value ≡ Ok m
      → (is_declared n (name_of text s) ≡ false) × (length n.kinds < 64)
      × (record n {
        kinds = n.kinds ++ (name_of text s, record { number = length n.kinds; keyed = keyed; has_item = has_item; has_value = has_value }) ∷ [];
      } ≡ m)
  unfolding with_kind
  added_kind n s keyed has_item has_value m e =
      let b = bind_ok (fresh_name text n s) _ m e in
      let free = was_free text n s b.0 b.1 in
      let r = had_room Kinds 64 (length n.kinds) _ m b.2 in (
        free.0,
        r.0,
        ap
            (λ (name : List ℕ). record n {
              kinds = n.kinds ++ (name, record { number = length n.kinds; keyed = keyed; has_item = has_item; has_value = has_value }) ∷ [];
            }) free.1
            ∙ cc,
      )

  added_source : (n : Naming) (s : WrittenSpan) (m : Naming) → with_source text n s ≡ Ok m
      → (is_declared n (name_of text s) ≡ false) × (length n.sources < 64) × (record n { sources = n.sources ++ name_of text s ∷ [] } ≡ m)
  unfolding with_source
  added_source n s m e =
      let b = bind_ok (fresh_name text n s) _ m e in
      let free = was_free text n s b.0 b.1 in
      let r = had_room Sources 64 (length n.sources) _ m b.2 in
      (free.0, r.0, ap (λ (name : List ℕ). record n { sources = n.sources ++ name ∷ [] }) free.1 ∙ cc)

  added_list : (n : Naming) (s : WrittenSpan) (m : Naming) → with_list text n s ≡ Ok m
      → (is_declared n (name_of text s) ≡ false) × (length n.lists < 64) × (record n { lists = n.lists ++ name_of text s ∷ [] } ≡ m)
  unfolding with_list
  added_list n s m e =
      let b = bind_ok (fresh_name text n s) _ m e in
      let free = was_free text n s b.0 b.1 in
      let r = had_room Lists 64 (length n.lists) _ m b.2 in
      (free.0, r.0, ap (λ (name : List ℕ). record n { lists = n.lists ++ name ∷ [] }) free.1 ∙ cc)

  added_depend : (n : Naming) (m : Naming) → (room Depends 4096 n.depends >> Ok (record n { depends = n.depends + 1 })) ≡ Ok m
      → (n.depends < 4096) × (record n { depends = n.depends + 1 } ≡ m)
  added_depend n m e = let r = had_room Depends 4096 n.depends _ m e in (r.0, cc)

  -- how many dependencies a declaration is, and what it declares: names of families and whether they are keyed,
  -- whether kinds have items, and names of sources and of lists
  abbrev pub depends_in : Declaration → ℕ
  depends_in (d.Cell s cells sort) = 0
  depends_in (d.Tag s keyed item has_value) = 0
  depends_in (d.Names at s texts) = 0
  depends_in (d.Depends a b relation) = 1
  depends_in (d.On kind actions) = 0
  depends_in (d.Source s file rate slack tags) = 0
  depends_in (d.Clock at s every rate tag) = 0

  abbrev pub sources_in : Declaration → List (List ℕ)
  sources_in (d.Cell s cells sort) = []
  sources_in (d.Tag s keyed item has_value) = []
  sources_in (d.Names at s texts) = []
  sources_in (d.Depends a b relation) = []
  sources_in (d.On kind actions) = []
  sources_in (d.Source s file rate slack tags) = name_of text s ∷ []
  sources_in (d.Clock at s every rate tag) = name_of text s ∷ []

  abbrev pub families_in : Declaration → List (List ℕ)
  families_in (d.Cell s cells sort) = name_of text s ∷ []
  families_in (d.Tag s keyed item has_value) = []
  families_in (d.Names at s texts) = []
  families_in (d.Depends a b relation) = []
  families_in (d.On kind actions) = []
  families_in (d.Source s file rate slack tags) = []
  families_in (d.Clock at s every rate tag) = []

  abbrev pub keys_in : Declaration → List Bool
  keys_in (d.Cell s cells sort) = has_keys cells ∷ []
  keys_in (d.Tag s keyed item has_value) = []
  keys_in (d.Names at s texts) = []
  keys_in (d.Depends a b relation) = []
  keys_in (d.On kind actions) = []
  keys_in (d.Source s file rate slack tags) = []
  keys_in (d.Clock at s every rate tag) = []

  abbrev pub lists_in : Declaration → List (List ℕ)
  lists_in (d.Cell s cells sort) = []
  lists_in (d.Tag s keyed item has_value) = []
  lists_in (d.Names at s texts) = name_of text s ∷ []
  lists_in (d.Depends a b relation) = []
  lists_in (d.On kind actions) = []
  lists_in (d.Source s file rate slack tags) = []
  lists_in (d.Clock at s every rate tag) = []

  abbrev pub items_in : Declaration → List Bool
  items_in (d.Cell s cells sort) = []
  items_in (d.Tag s keyed item has_value) = is_some item ∷ []
  items_in (d.Names at s texts) = []
  items_in (d.Depends a b relation) = []
  items_in (d.On kind actions) = []
  items_in (d.Source s file rate slack tags) = []
  items_in (d.Clock at s every rate tag) = []

  counted : (n : Naming) (w : Declaration) (m : Naming) → declare text n w ≡ Ok m → m.depends ≡ n.depends + depends_in w
  unfolding declare
  counted n (d.Cell s cells sort) m e = ap (λ (k : Naming). k.depends) (sym (added_family n s (has_keys cells) sort m e).2) ∙ sym (add-zero n.depends)
  counted n (d.Tag s keyed item has_value) m e =
      ap (λ (k : Naming). k.depends) (sym (added_kind n s keyed (is_some item) has_value m e).2) ∙ sym (add-zero n.depends)
  counted n (d.Names at s texts) m e = ap (λ (k : Naming). k.depends) (sym (added_list n s m e).2) ∙ sym (add-zero n.depends)
  counted n (d.Depends a b relation) m e = ap (λ (k : Naming). k.depends) (sym (added_depend n m e).1)
  counted n (d.On kind actions) m e = let same : n ≡ m = cc in ap (λ (k : Naming). k.depends) (sym same) ∙ sym (add-zero n.depends)
  counted n (d.Source s file rate slack tags) m e = ap (λ (k : Naming). k.depends) (sym (added_source n s m e).2) ∙ sym (add-zero n.depends)
  counted n (d.Clock at s every rate tag) m e = ap (λ (k : Naming). k.depends) (sym (added_source n s m e).2) ∙ sym (add-zero n.depends)

  listed : (n : Naming) (w : Declaration) (m : Naming) → declare text n w ≡ Ok m → m.sources ≡ n.sources ++ sources_in w
  unfolding declare
  listed n (d.Cell s cells sort) m e = ap (λ (k : Naming). k.sources) (sym (added_family n s (has_keys cells) sort m e).2) ∙ sym (append-nil n.sources)
  listed n (d.Tag s keyed item has_value) m e =
      ap (λ (k : Naming). k.sources) (sym (added_kind n s keyed (is_some item) has_value m e).2) ∙ sym (append-nil n.sources)
  listed n (d.Names at s texts) m e = ap (λ (k : Naming). k.sources) (sym (added_list n s m e).2) ∙ sym (append-nil n.sources)
  listed n (d.Depends a b relation) m e = ap (λ (k : Naming). k.sources) (sym (added_depend n m e).1) ∙ sym (append-nil n.sources)
  listed n (d.On kind actions) m e = let same : n ≡ m = cc in ap (λ (k : Naming). k.sources) (sym same) ∙ sym (append-nil n.sources)
  listed n (d.Source s file rate slack tags) m e = ap (λ (k : Naming). k.sources) (sym (added_source n s m e).2)
  listed n (d.Clock at s every rate tag) m e = ap (λ (k : Naming). k.sources) (sym (added_source n s m e).2)

  families_listed : (n : Naming) (w : Declaration) (m : Naming) → declare text n w ≡ Ok m → names_in m.families ≡ names_in n.families ++ families_in w
  unfolding declare
  families_listed n (d.Cell s cells sort) m e =
      let head : FamilyHead = record { number = length n.families; keyed = has_keys cells; sort = sort } in
      ap (λ (k : Naming). names_in k.families) (sym (added_family n s (has_keys cells) sort m e).2)
      ∙ map-append (λ h. h.0) n.families ((name_of text s, head) ∷ [])
  families_listed n (d.Tag s keyed item has_value) m e =
      ap (λ (k : Naming). names_in k.families) (sym (added_kind n s keyed (is_some item) has_value m e).2) ∙ sym (append-nil (names_in n.families))
  families_listed n (d.Names at s texts) m e =
      ap (λ (k : Naming). names_in k.families) (sym (added_list n s m e).2) ∙ sym (append-nil (names_in n.families))
  families_listed n (d.Depends a b relation) m e =
      ap (λ (k : Naming). names_in k.families) (sym (added_depend n m e).1) ∙ sym (append-nil (names_in n.families))
  families_listed n (d.On kind actions) m e =
      let same : n ≡ m = cc in ap (λ (k : Naming). names_in k.families) (sym same) ∙ sym (append-nil (names_in n.families))
  families_listed n (d.Source s file rate slack tags) m e =
      ap (λ (k : Naming). names_in k.families) (sym (added_source n s m e).2) ∙ sym (append-nil (names_in n.families))
  families_listed n (d.Clock at s every rate tag) m e =
      ap (λ (k : Naming). names_in k.families) (sym (added_source n s m e).2) ∙ sym (append-nil (names_in n.families))

  items_listed : (n : Naming) (w : Declaration) (m : Naming) → declare text n w ≡ Ok m → item_heads m ≡ item_heads n ++ items_in w
  unfolding declare
  items_listed n (d.Cell s cells sort) m e = ap item_heads (sym (added_family n s (has_keys cells) sort m e).2) ∙ sym (append-nil (item_heads n))
  items_listed n (d.Tag s keyed item has_value) m e =
      let head : KindHead = record { number = length n.kinds; keyed = keyed; has_item = is_some item; has_value = has_value } in
      ap item_heads (sym (added_kind n s keyed (is_some item) has_value m e).2) ∙ map-append (λ h. h.1.has_item) n.kinds ((name_of text s, head) ∷ [])
  items_listed n (d.Names at s texts) m e = ap item_heads (sym (added_list n s m e).2) ∙ sym (append-nil (item_heads n))
  items_listed n (d.Depends a b relation) m e = ap item_heads (sym (added_depend n m e).1) ∙ sym (append-nil (item_heads n))
  items_listed n (d.On kind actions) m e = let same : n ≡ m = cc in ap item_heads (sym same) ∙ sym (append-nil (item_heads n))
  items_listed n (d.Source s file rate slack tags) m e = ap item_heads (sym (added_source n s m e).2) ∙ sym (append-nil (item_heads n))
  items_listed n (d.Clock at s every rate tag) m e = ap item_heads (sym (added_source n s m e).2) ∙ sym (append-nil (item_heads n))

  keys_listed : (n : Naming) (w : Declaration) (m : Naming) → declare text n w ≡ Ok m → key_heads m ≡ key_heads n ++ keys_in w
  unfolding declare
  keys_listed n (d.Cell s cells sort) m e =
      let head : FamilyHead = record { number = length n.families; keyed = has_keys cells; sort = sort } in
      ap key_heads (sym (added_family n s (has_keys cells) sort m e).2) ∙ map-append (λ h. h.1.keyed) n.families ((name_of text s, head) ∷ [])
  keys_listed n (d.Tag s keyed item has_value) m e =
      ap key_heads (sym (added_kind n s keyed (is_some item) has_value m e).2) ∙ sym (append-nil (key_heads n))
  keys_listed n (d.Names at s texts) m e = ap key_heads (sym (added_list n s m e).2) ∙ sym (append-nil (key_heads n))
  keys_listed n (d.Depends a b relation) m e = ap key_heads (sym (added_depend n m e).1) ∙ sym (append-nil (key_heads n))
  keys_listed n (d.On kind actions) m e = let same : n ≡ m = cc in ap key_heads (sym same) ∙ sym (append-nil (key_heads n))
  keys_listed n (d.Source s file rate slack tags) m e = ap key_heads (sym (added_source n s m e).2) ∙ sym (append-nil (key_heads n))
  keys_listed n (d.Clock at s every rate tag) m e = ap key_heads (sym (added_source n s m e).2) ∙ sym (append-nil (key_heads n))

  lists_listed : (n : Naming) (w : Declaration) (m : Naming) → declare text n w ≡ Ok m → m.lists ≡ n.lists ++ lists_in w
  unfolding declare
  lists_listed n (d.Cell s cells sort) m e =
      ap (λ (k : Naming). k.lists) (sym (added_family n s (has_keys cells) sort m e).2) ∙ sym (append-nil n.lists)
  lists_listed n (d.Tag s keyed item has_value) m e =
      ap (λ (k : Naming). k.lists) (sym (added_kind n s keyed (is_some item) has_value m e).2) ∙ sym (append-nil n.lists)
  lists_listed n (d.Names at s texts) m e = ap (λ (k : Naming). k.lists) (sym (added_list n s m e).2)
  lists_listed n (d.Depends a b relation) m e = ap (λ (k : Naming). k.lists) (sym (added_depend n m e).1) ∙ sym (append-nil n.lists)
  lists_listed n (d.On kind actions) m e = let same : n ≡ m = cc in ap (λ (k : Naming). k.lists) (sym same) ∙ sym (append-nil n.lists)
  lists_listed n (d.Source s file rate slack tags) m e = ap (λ (k : Naming). k.lists) (sym (added_source n s m e).2) ∙ sym (append-nil n.lists)
  lists_listed n (d.Clock at s every rate tag) m e = ap (λ (k : Naming). k.lists) (sym (added_source n s m e).2) ∙ sym (append-nil n.lists)

  pub naming_counts : (ds : List Declaration) (n : Naming) → naming_of text ds ≡ Ok n → n.depends ≡ total depends_in ds
  naming_counts ds n e =
      let count : n.depends ≡ 0 + total depends_in ds = each-counts (declare text) (λ (k : Naming). k.depends) depends_in counted no_names ds n e in
      omega (arith, count)

  pub naming_lists : (ds : List Declaration) (n : Naming) → naming_of text ds ≡ Ok n → n.sources ≡ flat_map sources_in ds
  naming_lists ds n e = each-lists (declare text) (λ (k : Naming). k.sources) sources_in listed no_names ds n e

  pub naming_families : (ds : List Declaration) (n : Naming) → naming_of text ds ≡ Ok n → names_in n.families ≡ flat_map families_in ds
  naming_families ds n e = each-lists (declare text) (λ (k : Naming). names_in k.families) families_in families_listed no_names ds n e

  pub naming_keys : (ds : List Declaration) (n : Naming) → naming_of text ds ≡ Ok n → key_heads n ≡ flat_map keys_in ds
  naming_keys ds n e = each-lists (declare text) key_heads keys_in keys_listed no_names ds n e

  pub naming_named_lists : (ds : List Declaration) (n : Naming) → naming_of text ds ≡ Ok n → n.lists ≡ flat_map lists_in ds
  naming_named_lists ds n e = each-lists (declare text) (λ (k : Naming). k.lists) lists_in lists_listed no_names ds n e

  pub naming_items : (ds : List Declaration) (n : Naming) → naming_of text ds ≡ Ok n → item_heads n ≡ flat_map items_in ds
  naming_items ds n e = each-lists (declare text) item_heads items_in items_listed no_names ds n e

  module _ (ts : List Token) (read : AreRead text ts) where
    stays : (n : Naming) (w : Declaration) (m : Naming) → NamesKeep n → AllByRecursion (Stands ts) (declaration_words w) → declare text n w ≡ Ok m → NamesKeep m
    unfolding declare
    stays n (d.Cell s cells sort) m keep words e =
        let head : FamilyHead = record { number = length n.families; keyed = has_keys cells; sort = sort } in
        let a = added_family n s (has_keys cells) sort m e in
        let p = family_put n (name_of text s) keep a.0 (read.names s words.0) head in
        subst NamesKeep a.2 (
        record {
          few_families = omega (arith, a.1, length-append n.families ((name_of text s, head) ∷ []));
          few_kinds = keep.few_kinds;
          few_sources = keep.few_sources;
          few_lists = keep.few_lists;
          few_depends = keep.few_depends;
          are_names = p.0;
          distinct = p.1;
          families = numbered_more family_number 0 n.families (name_of text s) head keep.families (omega arith);
          kinds = keep.kinds;
        }
        )
    stays n (d.Tag s keyed item has_value) m keep words e =
        let head : KindHead = record { number = length n.kinds; keyed = keyed; has_item = is_some item; has_value = has_value } in
        let a = added_kind n s keyed (is_some item) has_value m e in
        let p = kind_put n (name_of text s) keep a.0 (read.names s words.0) head in
        subst NamesKeep a.2 (
        record {
          few_families = keep.few_families;
          few_kinds = omega (arith, a.1, length-append n.kinds ((name_of text s, head) ∷ []));
          few_sources = keep.few_sources;
          few_lists = keep.few_lists;
          few_depends = keep.few_depends;
          are_names = p.0;
          distinct = p.1;
          families = keep.families;
          kinds = numbered_more kind_number 0 n.kinds (name_of text s) head keep.kinds (omega arith);
        }
        )
    stays n (d.Names at s texts) m keep words e =
        let a = added_list n s m e in
        let p = list_put n (name_of text s) keep a.0 (read.names s words.0) in
        subst NamesKeep a.2 (
        record {
          few_families = keep.few_families;
          few_kinds = keep.few_kinds;
          few_sources = keep.few_sources;
          few_lists = omega (arith, a.1, length-append n.lists (name_of text s ∷ []));
          few_depends = keep.few_depends;
          are_names = p.0;
          distinct = p.1;
          families = keep.families;
          kinds = keep.kinds;
        }
        )
    stays n (d.Depends a b relation) m keep words e =
        let r = added_depend n m e in
        subst NamesKeep r.1 (
        record {
          few_families = keep.few_families;
          few_kinds = keep.few_kinds;
          few_sources = keep.few_sources;
          few_lists = keep.few_lists;
          few_depends = omega (arith, r.0);
          are_names = keep.are_names;
          distinct = keep.distinct;
          families = keep.families;
          kinds = keep.kinds;
        }
        )
    stays n (d.On kind actions) m keep words e = let same : n ≡ m = cc in subst NamesKeep same keep
    stays n (d.Source s file rate slack tags) m keep words e =
        let a = added_source n s m e in
        let p = source_put n (name_of text s) keep a.0 (read.names s words.0) in
        subst NamesKeep a.2 (
        record {
          few_families = keep.few_families;
          few_kinds = keep.few_kinds;
          few_sources = omega (arith, a.1, length-append n.sources (name_of text s ∷ []));
          few_lists = keep.few_lists;
          few_depends = keep.few_depends;
          are_names = p.0;
          distinct = p.1;
          families = keep.families;
          kinds = keep.kinds;
        }
        )
    stays n (d.Clock at s every rate tag) m keep words e =
        let a = added_source n s m e in
        let p = source_put n (name_of text s) keep a.0 (read.names s words.0) in
        subst NamesKeep a.2 (
        record {
          few_families = keep.few_families;
          few_kinds = keep.few_kinds;
          few_sources = omega (arith, a.1, length-append n.sources (name_of text s ∷ []));
          few_lists = keep.few_lists;
          few_depends = keep.few_depends;
          are_names = p.0;
          distinct = p.1;
          families = keep.families;
          kinds = keep.kinds;
        }
        )

    -- the names of a job
    pub names_kept : (ds : List Declaration) (n : Naming) → AllByRecursion (λ w. AllByRecursion (Stands ts) (declaration_words w)) ds
        → naming_of text ds ≡ Ok n → NamesKeep n
    names_kept ds n words e =
        each-keeps (declare text) NamesKeep (λ w. AllByRecursion (Stands ts) (declaration_words w)) stays no_names ds n (
        record {
          few_families = omega arith;
          few_kinds = omega arith;
          few_sources = omega arith;
          few_lists = omega arith;
          few_depends = omega arith;
          are_names = refl;
          distinct = refl;
          families = tt;
          kinds = tt;
        }
        ) words e
