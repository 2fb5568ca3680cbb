-- The names of a job: they are found where no two are the same and there are not too many, and are the declared ones.
use Rattle.std.proofs.Common.{◌≡◌, ℕ, ◌+◌, ◌<◌, ◌≤◌, Bool, true, false, List, [], ◌∷◌, ◌++◌, map, length}
use Rattle.std.proofs.Common.{Some, None, Ok, refl, sym, ap, subst, ◌∙◌, append_assoc, length-append, arith}
use Rattle.std.specs.Prelude.{not, ◌||◌, nat_lt, is_some, if◌then◌else◌}
use Rattle.std.specs.List.{list_any, flat_map}
use Rattle.std.specs.Str.{bytes_eq}
use Rattle.std.proofs.lemmas.List.{append-nil}
use Rattle.std.proofs.lemmas.List.Folds.{list_any-append}
use Rattle.std.proofs.lemmas.Grind.{flat_map-append}
use Rattle.flu_lemmas.proofs.Elements.{fails_at}
use Rattle.flu_lemmas.proofs.Loops.{bind_ok}
use Rattle.flu_lemmas.proofs.Places.{slice_get-behind}
use Rattle.flu_lemmas.proofs.Tests.{not_true, not_both, false_if_not, true_lt, lt_true}
use Rattle.flu_lemmas.proofs.Bytes.{bytes_itself, bytes_is}
use Rattle.flu_model.specs.declared.limits.What.TheVariants.{Families, Kinds, Lists, Sources, Depends}
use Rattle.flu_model.specs.declared.jobs.Family.{Family}
use Rattle.flu_text.specs.declared.written.WrittenSpan.{WrittenSpan}
use Rattle.flu_syntax.specs.Tree.{Declaration, Declarations}
use Rattle.flu_syntax.specs.Tree as d
use Rattle.flu_layout.specs.Spelling.{name_of}
use Rattle.flu_parse.specs.declared.faults.JobFault.TheVariants as f
use Rattle.flu_parse.specs.declared.names.KindHead.{KindHead}
use Rattle.flu_parse.specs.Faults.{◌>>◌, room, each}
use Rattle.flu_parse.specs.Naming.{Naming, has_keys, look_up, is_declared, fresh_name, with_family, with_kind, with_list, with_source, declare, no_names}
use Rattle.flu_parse.specs.Naming.{naming_of}
use Rattle.flu_grammar.specs.Means.{AllDiffer}
use Rattle.flu_grammar.specs.Cells.{family_name}
use Rattle.flu_grammar.specs.Declared.{DeclaredKind, WrittenDepend, WrittenFeed, feed_name, WrittenNames, names_in, families_in, kinds_in, depends_in}
use Rattle.flu_grammar.specs.Declared.{sources_in}
use Rattle.flu_grammar.specs.Declared.{lists_in, list_names}
use Rattle.flu_grammar.proofs.Lists.{get_front, get_below, differ_none, differ_push, any_none}
use Rattle.flu_grammar.proofs.Looks.{ok_same, passed, passes, binds}
use Rattle.flu_grammar.proofs.Heads.{heads, heads_more}
use Rattle.flu_grammar.proofs.JobCells.{family_head}

abbrev pub kind_name : DeclaredKind → List ℕ
kind_name k = k.name

abbrev pub kind_head : ℕ → DeclaredKind → KindHead
kind_head i k = record { number = i; keyed = k.keyed; has_item = k.has_item; has_value = k.has_value }

-- ---- one declaration more

-- the names with one declaration more
abbrev pub next : List ℕ → Naming → Declaration → Naming
next text n (d.Cell s cells sort) = record n {
  families = n.families ++
      (name_of text s, record { number = length n.families; keyed = has_keys cells; sort = sort }) ∷ [];
}
next text n (d.Tag s keyed item has_value) = record n {
  kinds = n.kinds ++
      (name_of text s, record { number = length n.kinds; keyed = keyed; has_item = is_some item; has_value = has_value }) ∷ [];
}
next text n (d.Names at s texts) = record n { lists = n.lists ++ name_of text s ∷ [] }
next text n (d.Depends a b relation) = record n { depends = n.depends + 1 }
next text n (d.On kind actions) = n
next text n (d.Source s file rate slack tags) = record n { sources = n.sources ++ name_of text s ∷ [] }
next text n (d.Clock at s every rate tag) = record n { sources = n.sources ++ name_of text s ∷ [] }

-- what is looked at before
abbrev pub Checks : List ℕ → Naming → Declaration → Type 0
Checks text n (d.Cell s cells sort) = (is_declared n (name_of text s) ≡ false) × (length n.families < 64)
Checks text n (d.Tag s keyed item has_value) = (is_declared n (name_of text s) ≡ false) × (length n.kinds < 64)
Checks text n (d.Names at s texts) = (is_declared n (name_of text s) ≡ false) × (length n.lists < 64)
Checks text n (d.Depends a b relation) = n.depends < 4096
Checks text n (d.On kind actions) = Unit {0}
Checks text n (d.Source s file rate slack tags) = (is_declared n (name_of text s) ≡ false) × (length n.sources < 64)
Checks text n (d.Clock at s every rate tag) = (is_declared n (name_of text s) ≡ false) × (length n.sources < 64)

fresh_is : (text : List ℕ) (n : Naming) (s : WrittenSpan) (name : List ℕ) → fresh_name text n s ≡ Ok name
    → (is_declared n (name_of text s) ≡ false) × (name_of text s ≡ name)
fresh_is text n s name e =
    let one = passed (not (is_declared n (name_of text s))) (f.TwiceNamed s.from) (Ok (name_of text s)) name e in
    (not_true (is_declared n (name_of text s)) one.0, ok_same (name_of text s) name one.1)

fresh_passes : (text : List ℕ) (n : Naming) (s : WrittenSpan) → is_declared n (name_of text s) ≡ false → fresh_name text n s ≡ Ok (name_of text s)
fresh_passes text n s free =
    passes (not (is_declared n (name_of text s))) (f.TwiceNamed s.from) (Ok (name_of text s)) (name_of text s) (ap not free) refl

pub declare_is : (text : List ℕ) (n : Naming) (x : Declaration) (m : Naming) → declare text n x ≡ Ok m → Checks text n x × (next text n x ≡ m)
unfolding declare with_family with_kind with_list with_source
declare_is text n (d.Cell s cells sort) m e =
    let grown = λ (name : List ℕ). record n {
      families = n.families ++ (name, record { number = length n.families; keyed = has_keys cells; sort = sort }) ∷ [];
    } in
    let one = bind_ok (fresh_name text n s) (λ name. room Families 64 (length n.families) >> Ok (record n {
      families = n.families ++ (name, record { number = length n.families; keyed = has_keys cells; sort = sort }) ∷ [];
    })) m e in
    let free = fresh_is text n s one.0 one.1 in
    let two = passed (nat_lt (length n.families) 64) (f.OverLimit Families 65) (Ok (grown one.0)) m one.2 in
    ((free.0, true_lt (length n.families) 64 two.0), ap grown free.1 ∙ ok_same (grown one.0) m two.1)
declare_is text n (d.Tag s keyed item has_value) m e =
    let grown = λ (name : List ℕ). record n {
      kinds = n.kinds ++
          (name, record { number = length n.kinds; keyed = keyed; has_item = is_some item; has_value = has_value }) ∷ [];
    } in
    let one = bind_ok (fresh_name text n s) (λ name. room Kinds 64 (length n.kinds) >> Ok (record n {
      kinds = n.kinds ++ (name, record { number = length n.kinds; keyed = keyed; has_item = is_some item; has_value = has_value }) ∷ [];
    })) m e in
    let free = fresh_is text n s one.0 one.1 in
    let two = passed (nat_lt (length n.kinds) 64) (f.OverLimit Kinds 65) (Ok (grown one.0)) m one.2 in
    ((free.0, true_lt (length n.kinds) 64 two.0), ap grown free.1 ∙ ok_same (grown one.0) m two.1)
declare_is text n (d.Names at s texts) m e =
    let grown = λ (name : List ℕ). record n { lists = n.lists ++ name ∷ [] } in
    let one = bind_ok (fresh_name text n s) (λ name. room Lists 64 (length n.lists) >> Ok (record n { lists = n.lists ++ name ∷ [] })) m e in
    let free = fresh_is text n s one.0 one.1 in
    let two = passed (nat_lt (length n.lists) 64) (f.OverLimit Lists 65) (Ok (grown one.0)) m one.2 in
    ((free.0, true_lt (length n.lists) 64 two.0), ap grown free.1 ∙ ok_same (grown one.0) m two.1)
declare_is text n (d.Depends a b relation) m e =
    let one = passed (nat_lt n.depends 4096) (f.OverLimit Depends 4097) (Ok (record n { depends = n.depends + 1 })) m e in
    (true_lt n.depends 4096 one.0, ok_same (record n { depends = n.depends + 1 }) m one.1)
declare_is text n (d.On kind actions) m e = (tt, ok_same n m e)
declare_is text n (d.Source s file rate slack tags) m e =
    let grown = λ (name : List ℕ). record n { sources = n.sources ++ name ∷ [] } in
    let one = bind_ok (fresh_name text n s) (λ name. room Sources 64 (length n.sources) >> Ok (record n { sources = n.sources ++ name ∷ [] })) m e in
    let free = fresh_is text n s one.0 one.1 in
    let two = passed (nat_lt (length n.sources) 64) (f.OverLimit Sources 65) (Ok (grown one.0)) m one.2 in
    ((free.0, true_lt (length n.sources) 64 two.0), ap grown free.1 ∙ ok_same (grown one.0) m two.1)
declare_is text n (d.Clock at s every rate tag) m e =
    let grown = λ (name : List ℕ). record n { sources = n.sources ++ name ∷ [] } in
    let one = bind_ok (fresh_name text n s) (λ name. room Sources 64 (length n.sources) >> Ok (record n { sources = n.sources ++ name ∷ [] })) m e in
    let free = fresh_is text n s one.0 one.1 in
    let two = passed (nat_lt (length n.sources) 64) (f.OverLimit Sources 65) (Ok (grown one.0)) m one.2 in
    ((free.0, true_lt (length n.sources) 64 two.0), ap grown free.1 ∙ ok_same (grown one.0) m two.1)

declare_passes : (text : List ℕ) (n : Naming) (x : Declaration) → Checks text n x → declare text n x ≡ Ok (next text n x)
unfolding declare with_family with_kind with_list with_source
declare_passes text n (d.Cell s cells sort) h =
    binds (fresh_name text n s) (λ name. room Families 64 (length n.families) >> Ok (record n {
      families = n.families ++ (name, record { number = length n.families; keyed = has_keys cells; sort = sort }) ∷ [];
    })) (name_of text s) (next text n (d.Cell s cells sort)) (fresh_passes text n s h.0)
    (passes (nat_lt (length n.families) 64) (f.OverLimit Families 65) (Ok (next text n (d.Cell s cells sort))) (next text n (d.Cell s cells sort))
    (lt_true (length n.families) 64 h.1) refl)
declare_passes text n (d.Tag s keyed item has_value) h =
    binds (fresh_name text n s) (λ name. room Kinds 64 (length n.kinds) >> Ok (record n {
      kinds = n.kinds ++ (name, record { number = length n.kinds; keyed = keyed; has_item = is_some item; has_value = has_value }) ∷ [];
    })) (name_of text s) (next text n (d.Tag s keyed item has_value)) (fresh_passes text n s h.0)
    (passes (nat_lt (length n.kinds) 64) (f.OverLimit Kinds 65) (Ok (next text n (d.Tag s keyed item has_value))) (next text n (d.Tag s keyed item has_value))
    (lt_true (length n.kinds) 64 h.1) refl)
declare_passes text n (d.Names at s texts) h =
    binds (fresh_name text n s) (λ name. room Lists 64 (length n.lists) >> Ok (record n { lists = n.lists ++ name ∷ [] })) (name_of text s)
    (next text n (d.Names at s texts)) (fresh_passes text n s h.0)
    (passes (nat_lt (length n.lists) 64) (f.OverLimit Lists 65) (Ok (next text n (d.Names at s texts))) (next text n (d.Names at s texts))
    (lt_true (length n.lists) 64 h.1) refl)
declare_passes text n (d.Depends a b relation) h =
    passes (nat_lt n.depends 4096) (f.OverLimit Depends 4097) (Ok (next text n (d.Depends a b relation))) (next text n (d.Depends a b relation))
    (lt_true n.depends 4096 h) refl
declare_passes text n (d.On kind actions) h = refl
declare_passes text n (d.Source s file rate slack tags) h =
    binds (fresh_name text n s) (λ name. room Sources 64 (length n.sources) >> Ok (record n { sources = n.sources ++ name ∷ [] })) (name_of text s)
    (next text n (d.Source s file rate slack tags)) (fresh_passes text n s h.0)
    (passes (nat_lt (length n.sources) 64) (f.OverLimit Sources 65) (Ok (next text n (d.Source s file rate slack tags))) (next text n
    (d.Source s file rate slack tags))
    (lt_true (length n.sources) 64 h.1) refl)
declare_passes text n (d.Clock at s every rate tag) h =
    binds (fresh_name text n s) (λ name. room Sources 64 (length n.sources) >> Ok (record n { sources = n.sources ++ name ∷ [] })) (name_of text s)
    (next text n (d.Clock at s every rate tag)) (fresh_passes text n s h.0)
    (passes (nat_lt (length n.sources) 64) (f.OverLimit Sources 65) (Ok (next text n (d.Clock at s every rate tag))) (next text n
    (d.Clock at s every rate tag))
    (lt_true (length n.sources) 64 h.1) refl)

-- ---- the names of some declarations

module _ (text : List ℕ) where
  abbrev pub all_names : Declarations → List (List ℕ)
  all_names ds = flat_map (names_in text) ds

  abbrev pub all_families : Declarations → List Family
  all_families ds = flat_map (families_in text) ds

  abbrev pub all_kinds : Declarations → List DeclaredKind
  all_kinds ds = flat_map (kinds_in text) ds

  abbrev pub source_names_in : Declaration → List (List ℕ)
  source_names_in x = map (λ (w : WrittenFeed). name_of text (feed_name w)) (sources_in x)

  abbrev pub list_names_in : Declaration → List (List ℕ)
  list_names_in x = map (λ (w : WrittenNames). name_of text w.name) (lists_in x)

  -- the names of all lists are those that each declaration gives
  pub lists_named : (ds : Declarations) → flat_map list_names_in ds ≡ list_names text ds
  lists_named [] = refl
  lists_named (d.Cell s cells sort ∷ ds) = lists_named ds
  lists_named (d.Tag s keyed item has_value ∷ ds) = lists_named ds
  lists_named (d.Names at s texts ∷ ds) = ap (λ (l : List (List ℕ)). name_of text s ∷ l) (lists_named ds)
  lists_named (d.Depends a b relation ∷ ds) = lists_named ds
  lists_named (d.On kind actions ∷ ds) = lists_named ds
  lists_named (d.Source s file rate slack tags ∷ ds) = lists_named ds
  lists_named (d.Clock at s every rate tag ∷ ds) = lists_named ds

  -- the names are those of these declarations
  pub record Named (done : Declarations) (n : Naming) : Type 0 where
    pub families : n.families ≡ heads family_name family_head 0 (all_families done)
    pub kinds : n.kinds ≡ heads kind_name kind_head 0 (all_kinds done)
    pub lists : n.lists ≡ flat_map list_names_in done
    pub sources : n.sources ≡ flat_map source_names_in done
    pub depends : n.depends ≡ length (flat_map depends_in done)
    pub declared : (s : List ℕ) → is_declared n s ≡ list_any (bytes_eq s) (all_names done)

  -- no two names are the same, and there are not too many
  pub record OwnNames (done : Declarations) : Type 0 where
    pub own : AllDiffer (all_names done)
    pub few_families : length (all_families done) ≤ 64
    pub few_kinds : length (all_kinds done) ≤ 64
    pub few_lists : length (flat_map list_names_in done) ≤ 64
    pub few_sources : length (flat_map source_names_in done) ≤ 64
    pub few_depends : length (flat_map depends_in done) ≤ 4096

  pub heads_length : {X H : Type 0} (name : X → List ℕ) (head : ℕ → X → H) (i : ℕ) (xs : List X) → length (heads name head i xs) ≡ length xs
  heads_length name head i [] = refl
  heads_length name head i (x ∷ xs) = let more = heads_length name head (i + 1) xs in omega arith

  headed_more : {H : Type 0} (s name : List ℕ) (h : H) (hs : List (List ℕ × H))
      → is_some (look_up s (hs ++ (name, h) ∷ [])) ≡ (is_some (look_up s hs) || bytes_eq s name)
  headed_more s name h [] = by (bytes_eq s name)
    where
      by : (b : Bool) → is_some (if b then Some h else None) ≡ b
      by true = refl
      by false = refl
  headed_more s name h (g ∷ hs) = by (bytes_eq s g.0) (headed_more s name h hs)
    where
      by : (b : Bool) → is_some (look_up s (hs ++ (name, h) ∷ [])) ≡ (is_some (look_up s hs) || bytes_eq s name)
          → is_some (if b then Some g.1 else look_up s (hs ++ (name, h) ∷ [])) ≡ (is_some (if b then Some g.1 else look_up s hs) || bytes_eq s name)
      by true more = refl
      by false more = more

  first_grown : (a b c l e : Bool) → ((a || e) || b || c || l) ≡ ((a || b || c || l) || (e || false))
  first_grown true b c l e = refl
  first_grown false true c l true = refl
  first_grown false true c l false = refl
  first_grown false false true l true = refl
  first_grown false false true l false = refl
  first_grown false false false true true = refl
  first_grown false false false true false = refl
  first_grown false false false false true = refl
  first_grown false false false false false = refl

  second_grown : (a b c l e : Bool) → (a || (b || e) || c || l) ≡ ((a || b || c || l) || (e || false))
  second_grown true b c l e = refl
  second_grown false true c l e = refl
  second_grown false false true l true = refl
  second_grown false false true l false = refl
  second_grown false false false true true = refl
  second_grown false false false true false = refl
  second_grown false false false false true = refl
  second_grown false false false false false = refl

  third_grown : (a b c l e : Bool) → (a || b || (c || (e || false)) || l) ≡ ((a || b || c || l) || (e || false))
  third_grown true b c l e = refl
  third_grown false true c l e = refl
  third_grown false false true l e = refl
  third_grown false false false true true = refl
  third_grown false false false true false = refl
  third_grown false false false false true = refl
  third_grown false false false false false = refl

  fourth_grown : (a b c l e : Bool) → (a || b || c || (l || (e || false))) ≡ ((a || b || c || l) || (e || false))
  fourth_grown true b c l e = refl
  fourth_grown false true c l e = refl
  fourth_grown false false true l e = refl
  fourth_grown false false false true e = refl
  fourth_grown false false false false e = refl

  -- what one declaration more adds to a list
  pub grown : {X : Type 0} (g : Declaration → List X) (done : Declarations) (x : Declaration) → flat_map g (done ++ x ∷ []) ≡ flat_map g done ++ g x
  grown g done x = flat_map-append g done (x ∷ []) ∙ ap (λ l. flat_map g done ++ l) (append-nil (g x))

  pub unchanged : {X : Type 0} (g : Declaration → List X) (done : Declarations) (x : Declaration) → g x ≡ [] → flat_map g done ≡ flat_map g (done ++ x ∷ [])
  unchanged g done x none = sym (append-nil (flat_map g done)) ∙ ap (λ l. flat_map g done ++ l) (sym none) ∙ sym (grown g done x)

  any_grown : (s name : List ℕ) (done : Declarations) (x : Declaration) → names_in text x ≡ name ∷ []
      → (list_any (bytes_eq s) (all_names done) || (bytes_eq s name || false)) ≡ list_any (bytes_eq s) (all_names (done ++ x ∷ []))
  any_grown s name done x is =
      sym (list_any-append (bytes_eq s) (all_names done) (name ∷ [])) ∙ ap (λ l. list_any (bytes_eq s) (all_names done ++ l)) (sym is)
      ∙ ap (list_any (bytes_eq s)) (sym (grown (names_in text) done x))

  pub named_next : (done : Declarations) (n : Naming) (x : Declaration) → Named done n → Named (done ++ x ∷ []) (next text n x)
  named_next done n (d.Cell s cells sort) named =
      let x = d.Cell s cells sort in
      let name = name_of text s in
      let family : Family = record { name = name; keyed = has_keys cells; list = None; sort = sort } in
      let many : length n.families ≡ 0 + length (all_families done) =
      (let one = ap length named.families in let two = heads_length family_name family_head 0 (all_families done) in omega (arith, one, two)) in record {
        families =
            (λ i. named.families i ++ (name, family_head (many i) family) ∷ []) ∙ sym (heads_more family_name family_head 0 (all_families done) family)
            ∙ ap (heads family_name family_head 0) (sym (grown (families_in text) done x));
        kinds = named.kinds ∙ ap (heads kind_name kind_head 0) (unchanged (kinds_in text) done x refl);
        lists = named.lists ∙ unchanged list_names_in done x refl;
        sources = named.sources ∙ unchanged source_names_in done x refl;
        depends = named.depends ∙ ap length (unchanged depends_in done x refl);
        declared = λ t.
            ap (λ b. b || is_some (look_up t n.kinds) || list_any (bytes_eq t) n.sources || list_any (bytes_eq t) n.lists)
            (headed_more t name (record { number = length n.families; keyed = has_keys cells; sort = sort }) n.families)
            ∙ first_grown (is_some (look_up t n.families)) (is_some (look_up t n.kinds)) (list_any (bytes_eq t) n.sources) (list_any (bytes_eq t) n.lists)
            (bytes_eq t name)
            ∙ ap (λ b. b || (bytes_eq t name || false)) (named.declared t) ∙ any_grown t name done x refl;
      }
  named_next done n (d.Tag s keyed item has_value) named =
      let x = d.Tag s keyed item has_value in
      let name = name_of text s in
      let kind : DeclaredKind = record { name = name; keyed = keyed; has_item = is_some item; has_value = has_value } in
      let many : length n.kinds ≡ 0 + length (all_kinds done) =
      (let one = ap length named.kinds in let two = heads_length kind_name kind_head 0 (all_kinds done) in omega (arith, one, two)) in record {
        families = named.families ∙ ap (heads family_name family_head 0) (unchanged (families_in text) done x refl);
        kinds =
            (λ i. named.kinds i ++ (name, kind_head (many i) kind) ∷ []) ∙ sym (heads_more kind_name kind_head 0 (all_kinds done) kind)
            ∙ ap (heads kind_name kind_head 0) (sym (grown (kinds_in text) done x));
        lists = named.lists ∙ unchanged list_names_in done x refl;
        sources = named.sources ∙ unchanged source_names_in done x refl;
        depends = named.depends ∙ ap length (unchanged depends_in done x refl);
        declared = λ t.
            ap (λ b. is_some (look_up t n.families) || b || list_any (bytes_eq t) n.sources || list_any (bytes_eq t) n.lists)
            (headed_more t name (record { number = length n.kinds; keyed = keyed; has_item = is_some item; has_value = has_value }) n.kinds)
            ∙ second_grown (is_some (look_up t n.families)) (is_some (look_up t n.kinds)) (list_any (bytes_eq t) n.sources) (list_any (bytes_eq t) n.lists)
            (bytes_eq t name)
            ∙ ap (λ b. b || (bytes_eq t name || false)) (named.declared t) ∙ any_grown t name done x refl;
      }
  named_next done n (d.Names at s texts) named =
      let x = d.Names at s texts in
      let name = name_of text s in record {
        families = named.families ∙ ap (heads family_name family_head 0) (unchanged (families_in text) done x refl);
        kinds = named.kinds ∙ ap (heads kind_name kind_head 0) (unchanged (kinds_in text) done x refl);
        lists = ap (λ l. l ++ name ∷ []) named.lists ∙ sym (grown list_names_in done x);
        sources = named.sources ∙ unchanged source_names_in done x refl;
        depends = named.depends ∙ ap length (unchanged depends_in done x refl);
        declared = λ t.
            ap (λ b. is_some (look_up t n.families) || is_some (look_up t n.kinds) || list_any (bytes_eq t) n.sources || b)
            (list_any-append (bytes_eq t) n.lists (name ∷ []))
            ∙ fourth_grown (is_some (look_up t n.families)) (is_some (look_up t n.kinds)) (list_any (bytes_eq t) n.sources) (list_any (bytes_eq t) n.lists)
            (bytes_eq t name)
            ∙ ap (λ b. b || (bytes_eq t name || false)) (named.declared t) ∙ any_grown t name done x refl;
      }
  named_next done n (d.Depends a b relation) named =
      let x = d.Depends a b relation in
      let more = ap length (grown depends_in done x) in
      let count = length-append (flat_map depends_in done) (depends_in x) in
      let before = named.depends in record {
        families = named.families ∙ ap (heads family_name family_head 0) (unchanged (families_in text) done x refl);
        kinds = named.kinds ∙ ap (heads kind_name kind_head 0) (unchanged (kinds_in text) done x refl);
        lists = named.lists ∙ unchanged list_names_in done x refl;
        sources = named.sources ∙ unchanged source_names_in done x refl;
        depends = omega (arith, more, count, before);
        declared = λ t. named.declared t ∙ ap (list_any (bytes_eq t)) (unchanged (names_in text) done x refl);
      }
  named_next done n (d.On kind actions) named =
      let x = d.On kind actions in record {
        families = named.families ∙ ap (heads family_name family_head 0) (unchanged (families_in text) done x refl);
        kinds = named.kinds ∙ ap (heads kind_name kind_head 0) (unchanged (kinds_in text) done x refl);
        lists = named.lists ∙ unchanged list_names_in done x refl;
        sources = named.sources ∙ unchanged source_names_in done x refl;
        depends = named.depends ∙ ap length (unchanged depends_in done x refl);
        declared = λ t. named.declared t ∙ ap (list_any (bytes_eq t)) (unchanged (names_in text) done x refl);
      }
  named_next done n (d.Source s file rate slack tags) named =
      let x = d.Source s file rate slack tags in
      let name = name_of text s in record {
        families = named.families ∙ ap (heads family_name family_head 0) (unchanged (families_in text) done x refl);
        kinds = named.kinds ∙ ap (heads kind_name kind_head 0) (unchanged (kinds_in text) done x refl);
        lists = named.lists ∙ unchanged list_names_in done x refl;
        sources = ap (λ l. l ++ name ∷ []) named.sources ∙ sym (grown source_names_in done x);
        depends = named.depends ∙ ap length (unchanged depends_in done x refl);
        declared = λ t.
            ap (λ b. is_some (look_up t n.families) || is_some (look_up t n.kinds) || b || list_any (bytes_eq t) n.lists)
            (list_any-append (bytes_eq t) n.sources (name ∷ []))
            ∙ third_grown (is_some (look_up t n.families)) (is_some (look_up t n.kinds)) (list_any (bytes_eq t) n.sources) (list_any (bytes_eq t) n.lists)
            (bytes_eq t name)
            ∙ ap (λ b. b || (bytes_eq t name || false)) (named.declared t) ∙ any_grown t name done x refl;
      }
  named_next done n (d.Clock at s every rate tag) named =
      let x = d.Clock at s every rate tag in
      let name = name_of text s in record {
        families = named.families ∙ ap (heads family_name family_head 0) (unchanged (families_in text) done x refl);
        kinds = named.kinds ∙ ap (heads kind_name kind_head 0) (unchanged (kinds_in text) done x refl);
        lists = named.lists ∙ unchanged list_names_in done x refl;
        sources = ap (λ l. l ++ name ∷ []) named.sources ∙ sym (grown source_names_in done x);
        depends = named.depends ∙ ap length (unchanged depends_in done x refl);
        declared = λ t.
            ap (λ b. is_some (look_up t n.families) || is_some (look_up t n.kinds) || b || list_any (bytes_eq t) n.lists)
            (list_any-append (bytes_eq t) n.sources (name ∷ []))
            ∙ third_grown (is_some (look_up t n.families)) (is_some (look_up t n.kinds)) (list_any (bytes_eq t) n.sources) (list_any (bytes_eq t) n.lists)
            (bytes_eq t name)
            ∙ ap (λ b. b || (bytes_eq t name || false)) (named.declared t) ∙ any_grown t name done x refl;
      }

  -- ---- what the looks say

  -- a new name behind others
  name_new : (done : Declarations) (n : Naming) (name : List ℕ) → Named done n → is_declared n name ≡ false → AllDiffer (all_names done)
      → AllDiffer (all_names done ++ name ∷ [])
  name_new done n name named free own =
      let none : list_any (bytes_eq name) (all_names done) ≡ false = sym (named.declared name) ∙ free in
      differ_push (all_names done) name (λ i here. not_both (bytes_eq name name) (bytes_itself name) (fails_at (bytes_eq name)
      (all_names done) i name none here)) own

  pub own_next : (done : Declarations) (n : Naming) (x : Declaration) → Named done n → Checks text n x → OwnNames done → OwnNames (done ++ x ∷ [])
  own_next done n (d.Cell s cells sort) named h own =
      let x = d.Cell s cells sort in
      let many = ap length named.families in
      let heads_many = heads_length family_name family_head 0 (all_families done) in
      let more = ap length (grown (families_in text) done x) in
      let count = length-append (all_families done) (families_in text x) in
      let room_left = h.1 in record {
        own = subst (λ (l : List (List ℕ)). AllDiffer l) (sym (grown (names_in text) done x)) (name_new done n (name_of text s) named h.0 own.own);
        few_families = omega (arith, many, heads_many, more, count, room_left);
        few_kinds = subst (λ (l : List DeclaredKind). length l ≤ 64) (unchanged (kinds_in text) done x refl) own.few_kinds;
        few_lists = subst (λ (l : List (List ℕ)). length l ≤ 64) (unchanged list_names_in done x refl) own.few_lists;
        few_sources = subst (λ (l : List (List ℕ)). length l ≤ 64) (unchanged source_names_in done x refl) own.few_sources;
        few_depends = subst (λ (l : List WrittenDepend). length l ≤ 4096) (unchanged depends_in done x refl) own.few_depends;
      }
  own_next done n (d.Tag s keyed item has_value) named h own =
      let x = d.Tag s keyed item has_value in
      let many = ap length named.kinds in
      let heads_many = heads_length kind_name kind_head 0 (all_kinds done) in
      let more = ap length (grown (kinds_in text) done x) in
      let count = length-append (all_kinds done) (kinds_in text x) in
      let room_left = h.1 in record {
        own = subst (λ (l : List (List ℕ)). AllDiffer l) (sym (grown (names_in text) done x)) (name_new done n (name_of text s) named h.0 own.own);
        few_families = subst (λ (l : List Family). length l ≤ 64) (unchanged (families_in text) done x refl) own.few_families;
        few_kinds = omega (arith, many, heads_many, more, count, room_left);
        few_lists = subst (λ (l : List (List ℕ)). length l ≤ 64) (unchanged list_names_in done x refl) own.few_lists;
        few_sources = subst (λ (l : List (List ℕ)). length l ≤ 64) (unchanged source_names_in done x refl) own.few_sources;
        few_depends = subst (λ (l : List WrittenDepend). length l ≤ 4096) (unchanged depends_in done x refl) own.few_depends;
      }
  own_next done n (d.Names at s texts) named h own =
      let x = d.Names at s texts in
      let many = ap length named.lists in
      let more = ap length (grown list_names_in done x) in
      let count = length-append (flat_map list_names_in done) (list_names_in x) in
      let room_left = h.1 in record {
        own = subst (λ (l : List (List ℕ)). AllDiffer l) (sym (grown (names_in text) done x)) (name_new done n (name_of text s) named h.0 own.own);
        few_families = subst (λ (l : List Family). length l ≤ 64) (unchanged (families_in text) done x refl) own.few_families;
        few_kinds = subst (λ (l : List DeclaredKind). length l ≤ 64) (unchanged (kinds_in text) done x refl) own.few_kinds;
        few_lists = omega (arith, many, more, count, room_left);
        few_sources = subst (λ (l : List (List ℕ)). length l ≤ 64) (unchanged source_names_in done x refl) own.few_sources;
        few_depends = subst (λ (l : List WrittenDepend). length l ≤ 4096) (unchanged depends_in done x refl) own.few_depends;
      }
  own_next done n (d.Depends a b relation) named h own =
      let x = d.Depends a b relation in
      let many = named.depends in
      let more = ap length (grown depends_in done x) in
      let count = length-append (flat_map depends_in done) (depends_in x) in record {
        own = subst (λ (l : List (List ℕ)). AllDiffer l) (unchanged (names_in text) done x refl) own.own;
        few_families = subst (λ (l : List Family). length l ≤ 64) (unchanged (families_in text) done x refl) own.few_families;
        few_kinds = subst (λ (l : List DeclaredKind). length l ≤ 64) (unchanged (kinds_in text) done x refl) own.few_kinds;
        few_lists = subst (λ (l : List (List ℕ)). length l ≤ 64) (unchanged list_names_in done x refl) own.few_lists;
        few_sources = subst (λ (l : List (List ℕ)). length l ≤ 64) (unchanged source_names_in done x refl) own.few_sources;
        few_depends = omega (arith, many, more, count, h);
      }
  own_next done n (d.On kind actions) named h own =
      let x = d.On kind actions in record {
        own = subst (λ (l : List (List ℕ)). AllDiffer l) (unchanged (names_in text) done x refl) own.own;
        few_families = subst (λ (l : List Family). length l ≤ 64) (unchanged (families_in text) done x refl) own.few_families;
        few_kinds = subst (λ (l : List DeclaredKind). length l ≤ 64) (unchanged (kinds_in text) done x refl) own.few_kinds;
        few_lists = subst (λ (l : List (List ℕ)). length l ≤ 64) (unchanged list_names_in done x refl) own.few_lists;
        few_sources = subst (λ (l : List (List ℕ)). length l ≤ 64) (unchanged source_names_in done x refl) own.few_sources;
        few_depends = subst (λ (l : List WrittenDepend). length l ≤ 4096) (unchanged depends_in done x refl) own.few_depends;
      }
  own_next done n (d.Source s file rate slack tags) named h own =
      let x = d.Source s file rate slack tags in
      let many = ap length named.sources in
      let more = ap length (grown source_names_in done x) in
      let count = length-append (flat_map source_names_in done) (source_names_in x) in
      let room_left = h.1 in record {
        own = subst (λ (l : List (List ℕ)). AllDiffer l) (sym (grown (names_in text) done x)) (name_new done n (name_of text s) named h.0 own.own);
        few_families = subst (λ (l : List Family). length l ≤ 64) (unchanged (families_in text) done x refl) own.few_families;
        few_kinds = subst (λ (l : List DeclaredKind). length l ≤ 64) (unchanged (kinds_in text) done x refl) own.few_kinds;
        few_lists = subst (λ (l : List (List ℕ)). length l ≤ 64) (unchanged list_names_in done x refl) own.few_lists;
        few_sources = omega (arith, many, more, count, room_left);
        few_depends = subst (λ (l : List WrittenDepend). length l ≤ 4096) (unchanged depends_in done x refl) own.few_depends;
      }
  own_next done n (d.Clock at s every rate tag) named h own =
      let x = d.Clock at s every rate tag in
      let many = ap length named.sources in
      let more = ap length (grown source_names_in done x) in
      let count = length-append (flat_map source_names_in done) (source_names_in x) in
      let room_left = h.1 in record {
        own = subst (λ (l : List (List ℕ)). AllDiffer l) (sym (grown (names_in text) done x)) (name_new done n (name_of text s) named h.0 own.own);
        few_families = subst (λ (l : List Family). length l ≤ 64) (unchanged (families_in text) done x refl) own.few_families;
        few_kinds = subst (λ (l : List DeclaredKind). length l ≤ 64) (unchanged (kinds_in text) done x refl) own.few_kinds;
        few_lists = subst (λ (l : List (List ℕ)). length l ≤ 64) (unchanged list_names_in done x refl) own.few_lists;
        few_sources = omega (arith, many, more, count, room_left);
        few_depends = subst (λ (l : List WrittenDepend). length l ≤ 4096) (unchanged depends_in done x refl) own.few_depends;
      }

  -- ---- and what they need

  -- a list of what more declarations add
  pub split_more : {X : Type 0} (g : Declaration → List X) (done rest : Declarations) (x : Declaration)
      → flat_map g (done ++ x ∷ rest) ≡ flat_map g done ++ (g x ++ flat_map g rest)
  split_more g done rest x = flat_map-append g done (x ∷ rest)

  longer : {X : Type 0} (g : Declaration → List X) (done rest : Declarations) (x : Declaration)
      → length (flat_map g done) + length (g x) ≤ length (flat_map g (done ++ x ∷ rest))
  longer g done rest x =
      let whole = ap length (split_more g done rest x) in
      let one = length-append (flat_map g done) (g x ++ flat_map g rest) in
      let two = length-append (g x) (flat_map g rest) in
      omega (arith, whole, one, two)

  name_free : (done rest : Declarations) (n : Naming) (x : Declaration) (name : List ℕ) → names_in text x ≡ name ∷ [] → Named done n
      → AllDiffer (all_names (done ++ x ∷ rest)) → is_declared n name ≡ false
  name_free done rest n x name is named own =
      let front = all_names done in
      let back = all_names rest in
      let differ : AllDiffer (front ++ name ∷ back) =
      subst (λ (l : List (List ℕ)). AllDiffer l) (split_more (names_in text) done rest x ∙ ap (λ (l : List (List ℕ)). front ++ (l ++ back)) is) own in
      named.declared name
      ∙ any_none (bytes_eq name) front (λ i y here. false_if_not (bytes_eq name y) (λ same. (
      let at = get_front front (name ∷ back) i y here in
      let place : i ≡ length front = differ i (length front) name (at ∙ ap (λ (z : List ℕ). Some z) (sym (bytes_is name y same)))
      (slice_get-behind front name back) in
      let below = get_below front i y here in
      omega (arith, place, below))))

  checks_pass : (done rest : Declarations) (n : Naming) (x : Declaration) → Named done n → OwnNames (done ++ x ∷ rest) → Checks text n x
  checks_pass done rest n (d.Cell s cells sort) named own =
      let x = d.Cell s cells sort in
      let many = ap length named.families in
      let heads_many = heads_length family_name family_head 0 (all_families done) in
      let more = longer (families_in text) done rest x in
      let few = own.few_families in
      (name_free done rest n x (name_of text s) refl named own.own, omega (arith, many, heads_many, more, few))
  checks_pass done rest n (d.Tag s keyed item has_value) named own =
      let x = d.Tag s keyed item has_value in
      let many = ap length named.kinds in
      let heads_many = heads_length kind_name kind_head 0 (all_kinds done) in
      let more = longer (kinds_in text) done rest x in
      let few = own.few_kinds in
      (name_free done rest n x (name_of text s) refl named own.own, omega (arith, many, heads_many, more, few))
  checks_pass done rest n (d.Names at s texts) named own =
      let x = d.Names at s texts in
      let many = ap length named.lists in
      let more = longer list_names_in done rest x in
      let few = own.few_lists in
      (name_free done rest n x (name_of text s) refl named own.own, omega (arith, many, more, few))
  checks_pass done rest n (d.Depends a b relation) named own =
      let many = named.depends in
      let more = longer depends_in done rest (d.Depends a b relation) in
      let few = own.few_depends in
      omega (arith, many, more, few)
  checks_pass done rest n (d.On kind actions) named own = tt
  checks_pass done rest n (d.Source s file rate slack tags) named own =
      let x = d.Source s file rate slack tags in
      let many = ap length named.sources in
      let more = longer source_names_in done rest x in
      let few = own.few_sources in
      (name_free done rest n x (name_of text s) refl named own.own, omega (arith, many, more, few))
  checks_pass done rest n (d.Clock at s every rate tag) named own =
      let x = d.Clock at s every rate tag in
      let many = ap length named.sources in
      let more = longer source_names_in done rest x in
      let few = own.few_sources in
      (name_free done rest n x (name_of text s) refl named own.own, omega (arith, many, more, few))

  -- ---- all declarations

  all_named : (done ds : Declarations) (n m : Naming) → each (declare text) n ds ≡ Ok m → Named done n → OwnNames done
      → Named (done ++ ds) m × OwnNames (done ++ ds)
  unfolding each
  all_named done [] n m e named own =
      let same : n ≡ m = ok_same n m e in
      let none : done ≡ done ++ [] = sym (append-nil done) in
      (subst (λ (l : Declarations). Named l m) none (subst (λ (k : Naming). Named done k) same named), subst (λ (l : Declarations). OwnNames l) none own)
  all_named done (x ∷ ds) n m e named own =
      let one = bind_ok (declare text n x) (λ t. each (declare text) t ds) m e in
      let is = declare_is text n x one.0 one.1 in
      let next_named = subst (λ (k : Naming). Named (done ++ x ∷ []) k) is.1 (named_next done n x named) in
      let more = all_named (done ++ x ∷ []) ds one.0 m one.2 next_named (own_next done n x named is.0 own) in
      let same : (done ++ x ∷ []) ++ ds ≡ done ++ x ∷ ds = append_assoc done (x ∷ []) ds in
      (subst (λ (l : Declarations). Named l m) same more.0, subst (λ (l : Declarations). OwnNames l) same more.1)

  all_found : (done ds : Declarations) (n : Naming) → Named done n → OwnNames (done ++ ds)
      → (m : Naming) × (each (declare text) n ds ≡ Ok m) × Named (done ++ ds) m
  unfolding each
  all_found done [] n named own = (n, refl, subst (λ (l : Declarations). Named l n) (sym (append-nil done)) named)
  all_found done (x ∷ ds) n named own =
      let checks = checks_pass done ds n x named own in
      let same : (done ++ x ∷ []) ++ ds ≡ done ++ x ∷ ds = append_assoc done (x ∷ []) ds in
      let more = all_found (done ++ x ∷ []) ds (next text n x) (named_next done n x named) (subst (λ (l : Declarations). OwnNames l) (sym same) own) in (
        more.0,
        binds (declare text n x) (λ t. each (declare text) t ds) (next text n x) more.0 (declare_passes text n x checks) more.1,
        subst (λ (l : Declarations). Named l more.0) same more.2,
      )

  pub none_named : Named [] no_names
  none_named = record { families = refl; kinds = refl; lists = refl; sources = refl; depends = refl; declared = λ s. refl }

  pub none_own : OwnNames []
  none_own = record {
    own = differ_none;
    few_families = omega arith;
    few_kinds = omega arith;
    few_lists = omega arith;
    few_sources = omega arith;
    few_depends = omega arith;
  }

  pub naming_is : (ds : Declarations) (n : Naming) → naming_of text ds ≡ Ok n → Named ds n × OwnNames ds
  naming_is ds n e = all_named [] ds no_names n e none_named none_own

  pub naming_found : (ds : Declarations) → OwnNames ds → (n : Naming) × (naming_of text ds ≡ Ok n) × Named ds n
  naming_found ds own = all_found [] ds no_names none_named own
