-- The names that a printed job declares are those of the job.
use Rattle.std.proofs.Common.{◌≡◌, ◌<◌, ◌≤◌, ◌+◌, ℕ, zero, suc, pos, Bool, true, false, ◌||◌, List, [], ◌∷◌, ◌++◌, map, length, Option, Some, None, Ok, refl}
use Rattle.std.proofs.Common.{sym, ap, subst, ◌∙◌, append_assoc, length-append, arith}
use Rattle.std.specs.Prelude.{not, is_some, slice_get, if◌then◌else◌}
use Rattle.std.specs.List.{list_all, list_any}
use Rattle.std.specs.Str.{IsUtf8, bytes_eq}
use Rattle.std.proofs.lemmas.List.{append-nil}
use Rattle.std.proofs.lemmas.List.Folds.{list_any-append}
use Rattle.std.proofs.lemmas.Slice.Eq.{bytes_eq-Decides}
use Rattle.flu_lemmas.proofs.Tests.{and_left, and_right, lt_true, not_true, false_if_not, not_both}
use Rattle.flu_lemmas.proofs.Booleans.{or_false_left, or_false_right}
use Rattle.flu_lemmas.proofs.Elements.{fails_at}
use Rattle.flu_model.specs.declared.limits.What.TheVariants.{Families, Kinds, Sources, Lists as ListsLimit, Depends as DependsLimit}
use Rattle.flu_model.specs.declared.jobs.Family.{Family}
use Rattle.flu_model.specs.declared.jobs.Depend.{Depend}
use Rattle.flu_model.specs.declared.jobs.Source.{Source}
use Rattle.flu_model.specs.Erasure.{PlainAction, PlainKind, Job}
use Rattle.flu_model.specs.Numberings.{Numbering}
use Rattle.flu_model.specs.Rules.{is_same_text, are_distinct}
use Rattle.flu_syntax.specs.Tree.{Declaration, Cell, Tag, Names, Depends, Source as SourceLine, Clock as ClockLine}
use Rattle.flu_text.specs.declared.written.WrittenSpan.{WrittenSpan}
use Rattle.flu_names.specs.Names.{is_name}
use Rattle.flu_layout.specs.Spelling.{name_of}
use Rattle.flu_parse.specs.declared.faults.JobFault.TheVariants as f
use Rattle.flu_parse.specs.declared.names.FamilyHead.{FamilyHead}
use Rattle.flu_parse.specs.declared.names.KindHead.{KindHead}
use Rattle.flu_parse.specs.Faults.{Found, ◌>>=◌, ◌>>◌, unless, room, each}
use Rattle.flu_parse.specs.Naming.{Naming, look_up, is_declared, fresh_name, with_family, with_kind, with_source, with_list, declare, no_names}
use Rattle.flu_parse.proofs.Printed.ReadTerms.{family_head, FamiliesKnown}
use Rattle.flu_parse.proofs.Printed.ReadTags.{kind_head, KindsKnown}
use Rattle.flu_parse.proofs.Printed.ReadLines.{Lines, CellIs, TagIs, NamesIs, DependsIs, OriginIs, SourceIs, ActionsAre, Ons}

-- ---- the heads of declarations, numbered

abbrev pub heads : {X H : Type 0} → (X → List ℕ) → (ℕ → X → H) → ℕ → List X → List (List ℕ × H)
heads name head i [] = []
heads name head i (x ∷ xs) = (name x, head i x) ∷ heads name head (i + 1) xs

abbrev pub family_heads : ℕ → List Family → List (List ℕ × FamilyHead)
family_heads = heads (λ (f : Family). f.name) family_head

abbrev pub kind_heads : ℕ → List PlainKind → List (List ℕ × KindHead)
kind_heads = heads (λ (k : PlainKind). k.name) kind_head

-- the names of a job
abbrev pub naming_of_job : Job → Naming
naming_of_job job = record {
  families = family_heads 0 job.families;
  kinds = kind_heads 0 job.kinds;
  sources =
      map (λ (s : Source). s.name) job.sources;
  lists = map (λ (l : Numbering). l.name) job.lists;
  depends = length job.depends;
  version = 1;
}

-- ---- names that differ

pub same_itself : (a : List ℕ) → bytes_eq a a ≡ true
same_itself a = (bytes_eq-Decides a a).1 refl

pub differs_too : (a b : List ℕ) → bytes_eq a b ≡ false → bytes_eq b a ≡ false
differs_too a b h = false_if_not (bytes_eq b a) (λ e. not_both (bytes_eq a b) ((bytes_eq-Decides a b).1 (sym ((bytes_eq-Decides b a).0 e))) h)

pub turned_text : (a b : List ℕ) → is_same_text a b ≡ is_same_text b a
turned_text a b = by (bytes_eq a b) refl
  where
    by : (same : Bool) → bytes_eq a b ≡ same → bytes_eq a b ≡ bytes_eq b a
    by true e = e ∙ sym ((bytes_eq-Decides b a).1 (sym ((bytes_eq-Decides a b).0 e)))
    by false e = e ∙ sym (differs_too a b e)

-- where names differ, a name is looked up to its own head
module _ {X H : Type 0} (name : X → List ℕ) (head : ℕ → X → H) where
  name_found : (xs : List X) (i : ℕ) (x : X) → slice_get xs i ≡ Some x → slice_get (map name xs) i ≡ Some (name x)
  name_found [] i x found = absurd cc
  name_found (y ∷ ys) zero x found = let same : y ≡ x = cc in ap (λ z. Some (name z)) same
  name_found (y ∷ ys) (suc i) x found = name_found ys i x found

  pub own_head : (j : ℕ) (xs : List X) (i : ℕ) (x : X) → are_distinct is_same_text (map name xs) ≡ true → slice_get xs i ≡ Some x
      → look_up (name x) (heads name head j xs) ≡ Some (head (j + i) x)
  own_head j [] i x apart found = absurd cc
  own_head j (y ∷ ys) zero x apart found =
      let same : y ≡ x = cc in
      let number : j ≡ j + 0 = omega arith in
      ap (λ z. look_up (name z) (heads name head j (y ∷ ys))) (sym same)
      ∙ ap (λ b. if b then Some (head j y) else look_up (name y) (heads name head (j + 1) ys)) (same_itself (name y))
      ∙ ap (λ z. Some (head j z)) same ∙ ap (λ k. Some (head k x)) number
  own_head j (y ∷ ys) (suc i) x apart found =
      let none : list_any (is_same_text (name y)) (map name ys) ≡ false =
      not_true (list_any (is_same_text (name y)) (map name ys)) (and_left (not (list_any (is_same_text (name y)) (map name ys)))
      (are_distinct is_same_text (map name ys)) apart) in
      let other : bytes_eq (name x) (name y) ≡ false = differs_too (name y) (name x)
      (fails_at (is_same_text (name y)) (map name ys) i (name x) none (name_found ys i x found)) in
      let number : j + 1 + i ≡ j + suc i = omega arith in
      ap (λ b. if b then Some (head j y) else look_up (name x) (heads name head (j + 1) ys)) other
      ∙ own_head (j + 1) ys i x (and_right (not (list_any (is_same_text (name y)) (map name ys))) (are_distinct is_same_text (map name ys)) apart) found
      ∙ ap (λ k. Some (head k x)) number

-- ---- names that nothing has yet

pub record Fresh (m : Naming) (y : List ℕ) : Type 0 where
  pub family : look_up y m.families ≡ None
  pub kind : look_up y m.kinds ≡ None
  pub source : list_any (bytes_eq y) m.sources ≡ false
  pub list : list_any (bytes_eq y) m.lists ≡ false

abbrev pub AllFresh : Naming → List (List ℕ) → Type 0
AllFresh m [] = Unit {0}
AllFresh m (y ∷ ys) = Fresh m y × AllFresh m ys

not_declared : (m : Naming) (y : List ℕ) → Fresh m y → is_declared m y ≡ false
not_declared m y h =
    ap (λ o. is_some o || is_some (look_up y m.kinds) || list_any (bytes_eq y) m.sources || list_any (bytes_eq y) m.lists) h.family
    ∙ ap (λ o. is_some o || list_any (bytes_eq y) m.sources || list_any (bytes_eq y) m.lists) h.kind
    ∙ ap (λ b. b || list_any (bytes_eq y) m.lists) h.source
    ∙ h.list

look_up_more : {H : Type 0} (y x : List ℕ) (h : H) (hs : List (List ℕ × H)) → look_up y hs ≡ None → bytes_eq y x ≡ false → look_up y (hs ++ (x, h) ∷ []) ≡ None
look_up_more {H} y x h [] none other = ap (λ b. let o : Option H = if b then Some h else None in o) other
look_up_more {H} y x h (g ∷ hs) none other = by (bytes_eq y g.0) none (λ rest. look_up_more y x h hs rest other)
  where
    by : (b : Bool) → (let o : Option H = if b then Some g.1 else look_up y hs in o) ≡ None → (look_up y hs ≡ None → look_up y (hs ++ (x, h) ∷ []) ≡ None)
        → (let o : Option H = if b then Some g.1 else look_up y (hs ++ (x, h) ∷ []) in o) ≡ None
    by true none more = absurd cc
    by false none more = more none

-- names that are still fresh when one that differs from them is declared
still_fresh : (m next : Naming) (x : List ℕ) (ys : List (List ℕ)) → ((y : List ℕ) → Fresh m y → bytes_eq y x ≡ false → Fresh next y) → AllFresh m ys
    → list_any (is_same_text x) ys ≡ false → AllFresh next ys
still_fresh m next x [] step fresh none = tt
still_fresh m next x (y ∷ ys) step fresh none = (
  step y fresh.0 (differs_too x y (or_false_left (is_same_text x y) (list_any (is_same_text x) ys) none)),
  still_fresh m next x ys step fresh.1
      (or_false_right (is_same_text x y) (list_any (is_same_text x) ys) none),
)

pub all_fresh : (ys : List (List ℕ)) → AllFresh no_names ys
all_fresh [] = tt
all_fresh (y ∷ ys) = (record { family = refl; kind = refl; source = refl; list = refl }, all_fresh ys)

-- the names that are left, after some declarations
pub record Left (m : Naming) (ys : List (List ℕ)) : Type 0 where
  pub fresh : AllFresh m ys
  pub apart : are_distinct is_same_text ys ≡ true

-- after the first one, where it is declared
left_after : (m next : Naming) (x : List ℕ) (ys : List (List ℕ)) → ((y : List ℕ) → Fresh m y → bytes_eq y x ≡ false → Fresh next y) → Left m (x ∷ ys)
    → Left next ys
left_after m next x ys step left =
    let none : Bool = list_any (is_same_text x) ys in
    record {
      fresh = still_fresh m next x ys step left.fresh.1 (not_true none (and_left (not none) (are_distinct is_same_text ys) left.apart));
      apart = and_right (not none) (are_distinct is_same_text ys) left.apart;
    }

module _ (whole : List ℕ) (utf8 : IsUtf8 whole) where
  -- a fresh name
  fresh_is : (m : Naming) (s : WrittenSpan) (name : List ℕ) → name_of whole s ≡ name → Fresh m name → fresh_name whole m s ≡ Ok name
  fresh_is m s name is fresh =
      ap (λ n. unless (not (is_declared m n)) (f.TwiceNamed s.from) >> Ok n) is
      ∙ ap (λ b. unless (not b) (f.TwiceNamed s.from) >> Ok name) (not_declared m name fresh)

  abbrev pub with_families : Naming → List (List ℕ × FamilyHead) → Naming
  with_families m hs = record m { families = hs }

  abbrev pub with_kinds : Naming → List (List ℕ × KindHead) → Naming
  with_kinds m hs = record m { kinds = hs }

  abbrev pub with_sources : Naming → List (List ℕ) → Naming
  with_sources m ns = record m { sources = ns }

  abbrev pub with_lists : Naming → List (List ℕ) → Naming
  with_lists m ns = record m { lists = ns }

  abbrev pub with_count : Naming → ℕ → Naming
  with_count m count = record m { depends = count }

  counted_fresh : (m : Naming) (count : ℕ) (ys : List (List ℕ)) → AllFresh m ys → AllFresh (with_count m count) ys
  counted_fresh m count [] h = tt
  counted_fresh m count (y ∷ ys) h = (record { family = h.0.family; kind = h.0.kind; source = h.0.source; list = h.0.list }, counted_fresh m count ys h.1)

  -- names are left as they are where `depends` are counted
  pub counted : (m : Naming) (count : ℕ) (ys : List (List ℕ)) → Left m ys → Left (with_count m count) ys
  counted m count ys left = record { fresh = counted_fresh m count ys left.fresh; apart = left.apart }

  -- what declaring leads to
  pub record Declares (m next : Naming) (ds more : List Declaration) (ys : List (List ℕ)) : Type 0 where
    pub leads : each (declare whole) m (ds ++ more) ≡ each (declare whole) next more
    pub left : Left next ys

  -- nothing is declared
  nothing : (m : Naming) (ds more : List Declaration) → ds ≡ [] → each (declare whole) m (ds ++ more) ≡ each (declare whole) m more
  nothing m ds more none = ap (λ l. each (declare whole) m (l ++ more)) none

  -- one declaration, and then the others
  one : (m next : Naming) (ds here others more : List Declaration) (d : Declaration) → ds ≡ here ++ others → here ≡ d ∷ [] → declare whole m d ≡ Ok next
      → each (declare whole) m (ds ++ more) ≡ each (declare whole) next (others ++ more)
  unfolding each
  one m next ds here others more d split is found =
      ap (λ l. each (declare whole) m (l ++ more)) (split ∙ ap (λ l. l ++ others) is)
      ∙ ap (λ (r : Found Naming). r >>= λ n. each (declare whole) n (others ++ more)) found

  one_more : {H : Type 0} (hs : List (List ℕ × H)) (h : List ℕ × H) (behind : ℕ → List (List ℕ × H))
      → (hs ++ h ∷ []) ++ behind (length (hs ++ h ∷ [])) ≡ hs ++ (h ∷ behind (length hs + 1))
  one_more hs h behind = append_assoc hs (h ∷ []) (behind (length (hs ++ h ∷ []))) ∙ ap (λ k. hs ++ (h ∷ behind k)) (length-append hs (h ∷ []))

  one_family : (m : Naming) (s : WrittenSpan) (g : Family) → name_of whole s ≡ g.name → Fresh m g.name → length m.families < 64
      → with_family whole m s g.keyed g.sort ≡ Ok (with_families m (m.families ++ (g.name, family_head (length m.families) g) ∷ []))
  unfolding with_family
  one_family m s g is fresh few =
      ap (λ (r : Found (List ℕ)). r >>= λ name. room Families 64 (length m.families) >> Ok
      (with_families m (m.families ++ (name, family_head (length m.families) g) ∷ []))) (fresh_is m s g.name is fresh)
      ∙ ap (λ b. unless b (f.OverLimit Families 65) >> Ok (with_families m (m.families ++ (g.name, family_head (length m.families) g) ∷ [])))
      (lt_true (length m.families) 64 few)

  family_fresh : (m : Naming) (g : Family) (y : List ℕ) → Fresh m y → bytes_eq y g.name ≡ false
      → Fresh (with_families m (m.families ++ (g.name, family_head (length m.families) g) ∷ [])) y
  family_fresh m g y h other = record {
    family = look_up_more y g.name (family_head (length m.families) g) m.families h.family other;
    kind = h.kind;
    source = h.source;
    list = h.list;
  }

  pub declare_cells : (lists : List Numbering) (fs : List Family) (m : Naming) (ds more : List Declaration) (ys : List (List ℕ))
      → Lines (CellIs whole utf8 lists) fs ds
      → Left m (map (λ (g : Family). g.name) fs ++ ys) → length m.families + length fs ≤ 64
      → Declares m (with_families m (m.families ++ family_heads (length m.families) fs)) ds more ys
  unfolding declare
  declare_cells lists [] m ds more ys lines left few =
      let same : m ≡ with_families m (m.families ++ []) = ap (with_families m) (sym (append-nil m.families)) in
      record { leads = nothing m ds more lines ∙ ap (λ n. each (declare whole) n more) same; left = subst (λ n. Left n ys) same left }
  declare_cells lists (g ∷ fs) m ds more ys lines left few =
      let line = lines.3 in
      let next : Naming = with_families m (m.families ++ (g.name, family_head (length m.families) g) ∷ []) in
      let size = length-append m.families ((g.name, family_head (length m.families) g) ∷ []) in
      let rest = declare_cells lists fs next lines.1 more ys lines.4 (left_after m next g.name (map (λ (g : Family). g.name) fs ++ ys) (family_fresh m g) left)
      (omega (arith, few, size)) in
      let same : with_families m (next.families ++ family_heads (length next.families) fs) ≡ with_families m
      (m.families ++ family_heads (length m.families) (g ∷ fs)) =
      ap (with_families m) (one_more m.families (g.name, family_head (length m.families) g) (λ k. family_heads k fs)) in
      record {
        leads = one m next ds lines.0 lines.1 more (Cell line.named line.cells g.sort) lines.2 line.is
            (ap (λ b. with_family whole m line.named b g.sort) line.keyed
            ∙ one_family m line.named g line.name_is left.fresh.0 (omega (arith, few))) ∙ rest.leads ∙ ap (λ n. each (declare whole) n more) same;
        left = subst (λ n. Left n ys) same rest.left;
      }

  one_kind : (m : Naming) (s : WrittenSpan) (k : PlainKind) → name_of whole s ≡ k.name → Fresh m k.name → length m.kinds < 64
      → with_kind whole m s k.keyed k.has_item k.has_value ≡ Ok (with_kinds m (m.kinds ++ (k.name, kind_head (length m.kinds) k) ∷ []))
  unfolding with_kind
  one_kind m s k is fresh few =
      ap (λ (r : Found (List ℕ)). r >>= λ name. room Kinds 64 (length m.kinds) >> Ok (with_kinds m (m.kinds ++ (name, kind_head (length m.kinds) k) ∷ [])))
      (fresh_is m s k.name is fresh)
      ∙ ap (λ b. unless b (f.OverLimit Kinds 65) >> Ok (with_kinds m (m.kinds ++ (k.name, kind_head (length m.kinds) k) ∷ [])))
      (lt_true (length m.kinds) 64 few)

  kind_fresh : (m : Naming) (k : PlainKind) (y : List ℕ) → Fresh m y → bytes_eq y k.name ≡ false
      → Fresh (with_kinds m (m.kinds ++ (k.name, kind_head (length m.kinds) k) ∷ [])) y
  kind_fresh m k y h other =
      record { family = h.family; kind = look_up_more y k.name (kind_head (length m.kinds) k) m.kinds h.kind other; source = h.source; list = h.list }

  pub declare_tags : (lists : List Numbering) (ks : List PlainKind) (m : Naming) (ds more : List Declaration) (ys : List (List ℕ))
      → Lines (TagIs whole utf8 lists) ks ds
      → Left m (map (λ (k : PlainKind). k.name) ks ++ ys) → length m.kinds + length ks ≤ 64
      → Declares m (with_kinds m (m.kinds ++ kind_heads (length m.kinds) ks)) ds more ys
  unfolding declare
  declare_tags lists [] m ds more ys lines left few =
      let same : m ≡ with_kinds m (m.kinds ++ []) = ap (with_kinds m) (sym (append-nil m.kinds)) in
      record { leads = nothing m ds more lines ∙ ap (λ n. each (declare whole) n more) same; left = subst (λ n. Left n ys) same left }
  declare_tags lists (k ∷ ks) m ds more ys lines left few =
      let line = lines.3 in
      let next : Naming = with_kinds m (m.kinds ++ (k.name, kind_head (length m.kinds) k) ∷ []) in
      let size = length-append m.kinds ((k.name, kind_head (length m.kinds) k) ∷ []) in
      let rest = declare_tags lists ks next lines.1 more ys lines.4 (left_after m next k.name (map (λ (k : PlainKind). k.name) ks ++ ys) (kind_fresh m k) left)
      (omega (arith, few, size)) in
      let same : with_kinds m (next.kinds ++ kind_heads (length next.kinds) ks) ≡ with_kinds m (m.kinds ++ kind_heads (length m.kinds) (k ∷ ks)) =
      ap (with_kinds m) (one_more m.kinds (k.name, kind_head (length m.kinds) k) (λ i. kind_heads i ks)) in
      record {
        leads = one m next ds lines.0 lines.1 more (Tag line.named k.keyed line.item k.has_value) lines.2 line.is
            (ap (λ b. with_kind whole m line.named k.keyed b k.has_value) line.has_item
            ∙ one_kind m line.named k line.name_is left.fresh.0 (omega (arith, few))) ∙ rest.leads ∙ ap (λ n. each (declare whole) n more) same;
        left = subst (λ n. Left n ys) same rest.left;
      }

  one_source : (m : Naming) (s : WrittenSpan) (name : List ℕ) → name_of whole s ≡ name → Fresh m name → length m.sources < 64
      → with_source whole m s ≡ Ok (with_sources m (m.sources ++ name ∷ []))
  unfolding with_source
  one_source m s name is fresh few =
      ap (λ (r : Found (List ℕ)). r >>= λ name. room Sources 64 (length m.sources) >> Ok (with_sources m (m.sources ++ name ∷ []))) (fresh_is m s name is fresh)
      ∙ ap (λ b. unless b (f.OverLimit Sources 65) >> Ok (with_sources m (m.sources ++ name ∷ []))) (lt_true (length m.sources) 64 few)

  source_fresh : (m : Naming) (name y : List ℕ) → Fresh m y → bytes_eq y name ≡ false → Fresh (with_sources m (m.sources ++ name ∷ [])) y
  source_fresh m name y h other = record {
    family = h.family;
    kind = h.kind;
    source = list_any-append (bytes_eq y) m.sources (name ∷ []) ∙ ap (λ b. b || (bytes_eq y name || false)) h.source ∙ ap (λ b. b || false) other;
    list = h.list;
  }

  one_list : (m : Naming) (s : WrittenSpan) (name : List ℕ) → name_of whole s ≡ name → Fresh m name → length m.lists < 64
      → with_list whole m s ≡ Ok (with_lists m (m.lists ++ name ∷ []))
  unfolding with_list
  one_list m s name is fresh few =
      ap (λ (r : Found (List ℕ)). r >>= λ name. room ListsLimit 64 (length m.lists) >> Ok (with_lists m (m.lists ++ name ∷ []))) (fresh_is m s name is fresh)
      ∙ ap (λ b. unless b (f.OverLimit ListsLimit 65) >> Ok (with_lists m (m.lists ++ name ∷ []))) (lt_true (length m.lists) 64 few)

  list_fresh : (m : Naming) (name y : List ℕ) → Fresh m y → bytes_eq y name ≡ false → Fresh (with_lists m (m.lists ++ name ∷ [])) y
  list_fresh m name y h other = record {
    family = h.family;
    kind = h.kind;
    source = h.source;
    list = list_any-append (bytes_eq y) m.lists (name ∷ []) ∙ ap (λ b. b || (bytes_eq y name || false)) h.list ∙ ap (λ b. b || false) other;
  }

  pub declare_lists : (ls : List Numbering) (m : Naming) (ds more : List Declaration) (ys : List (List ℕ)) → Lines (NamesIs whole utf8) ls ds
      → Left m (map (λ (l : Numbering). l.name) ls ++ ys) → length m.lists + length ls ≤ 64
      → Declares m (with_lists m (m.lists ++ map (λ (l : Numbering). l.name) ls)) ds more ys
  unfolding declare
  declare_lists [] m ds more ys lines left few =
      let same : m ≡ with_lists m (m.lists ++ []) = ap (with_lists m) (sym (append-nil m.lists)) in
      record { leads = nothing m ds more lines ∙ ap (λ n. each (declare whole) n more) same; left = subst (λ n. Left n ys) same left }
  declare_lists (l ∷ ls) m ds more ys lines left few =
      let line = lines.3 in
      let next : Naming = with_lists m (m.lists ++ l.name ∷ []) in
      let size = length-append m.lists (l.name ∷ []) in
      let rest = declare_lists ls next lines.1 more ys lines.4 (left_after m next l.name (map (λ (l : Numbering). l.name) ls ++ ys) (list_fresh m l.name) left)
      (omega (arith, few, size)) in
      let same : with_lists m (next.lists ++ map (λ (l : Numbering). l.name) ls) ≡ with_lists m
      (m.lists ++ map (λ (l : Numbering). l.name) (l ∷ ls)) =
      ap (with_lists m) (append_assoc m.lists (l.name ∷ []) (map (λ (l : Numbering). l.name) ls)) in
      record {
        leads = one m next ds lines.0 lines.1 more (Names line.at line.named line.texts) lines.2 line.is
            (one_list m line.named l.name line.name_is left.fresh.0 (omega (arith, few))) ∙ rest.leads ∙ ap (λ n. each (declare whole) n more) same;
        left = subst (λ n. Left n ys) same rest.left;
      }

  module _ (kinds : List PlainKind) (named_kinds : list_all (λ (k : PlainKind). is_name k.name) kinds ≡ true) (n : Naming)
      (known_kinds : KindsKnown kinds n) where
    pub declare_depends : (deps : List Depend) (m : Naming) (ds more : List Declaration)
        → Lines (DependsIs whole utf8 kinds named_kinds n known_kinds) deps ds → m.depends + length deps ≤ 4096
        → each (declare whole) m (ds ++ more) ≡ each (declare whole) (with_count m (m.depends + length deps)) more
    unfolding declare
    declare_depends [] m ds more lines few = nothing m ds more lines ∙ ap (λ k. each (declare whole) (with_count m k) more)
        (let same : m.depends ≡ m.depends + 0 = omega arith in same)
    declare_depends (d ∷ deps) m ds more lines few =
        let line = lines.3 in
        let next : Naming = with_count m (m.depends + 1) in
        let found : declare whole m (Depends line.a line.b line.how) ≡ Ok next =
        ap (λ b. unless b (f.OverLimit DependsLimit 4097) >> Ok next) (lt_true m.depends 4096 (omega (arith, few))) in
        one m next ds lines.0 lines.1 more (Depends line.a line.b line.how) lines.2 line.is found
        ∙ declare_depends deps next lines.1 more lines.4 (omega (arith, few))
        ∙ ap (λ k. each (declare whole) (with_count m k) more) (let same : m.depends + 1 + length deps ≡ m.depends + suc (length deps) = omega arith in same)

    -- the line of one source
    record LineDeclares (s : Source) (ds : List Declaration) : Type 0 where
      line : Declaration
      named : WrittenSpan
      is : ds ≡ line ∷ []
      name_is : name_of whole named ≡ s.name
      declares : (m : Naming) → declare whole m line ≡ with_source whole m named

    line_declares : (s : Source) (every : Option ℕ) (ds : List Declaration) → OriginIs whole utf8 kinds named_kinds n known_kinds s every ds
        → LineDeclares s ds
    unfolding declare
    line_declares s None ds line = record {
      line = SourceLine line.named line.file (Some (record { value = pos s.rate; at = line.rate_at })) line.slack line.tags;
      named = line.named;
      is = line.is;
      name_is = line.name_is;
      declares = λ m. refl;
    }
    line_declares s (Some every) ds line = record {
      line = ClockLine line.at line.named (record { value = pos every; at = line.every_at }) (Some (record { value = pos s.rate; at = line.rate_at }))
          line.tag;
      named = line.named;
      is = line.is;
      name_is = line.name_is;
      declares = λ m. refl;
    }

    pub declare_sources : (ss : List Source) (m : Naming) (ds more : List Declaration) → Lines (SourceIs whole utf8 kinds named_kinds n known_kinds) ss ds
        → Left m (map (λ (s : Source). s.name) ss) → length m.sources + length ss ≤ 64
        → each (declare whole) m (ds ++ more) ≡ each (declare whole) (with_sources m (m.sources ++ map (λ (s : Source). s.name) ss)) more
    declare_sources [] m ds more lines left few = nothing m ds more lines ∙ ap (λ l. each (declare whole) (with_sources m l) more) (sym (append-nil m.sources))
    declare_sources (s ∷ ss) m ds more lines left few =
        let line = line_declares s s.every lines.0 lines.3 in
        let next : Naming = with_sources m (m.sources ++ s.name ∷ []) in
        let size = length-append m.sources (s.name ∷ []) in
        one m next ds lines.0 lines.1 more line.line lines.2 line.is
        (line.declares m ∙ one_source m line.named s.name line.name_is left.fresh.0 (omega (arith, few)))
        ∙ declare_sources ss next lines.1 more lines.4 (left_after m next s.name (map (λ (s : Source). s.name) ss) (source_fresh m s.name) left)
        (omega (arith, few, size))
        ∙ ap (λ l. each (declare whole) (with_sources m l) more) (append_assoc m.sources (s.name ∷ []) (map (λ (s : Source). s.name) ss))

  module _ (families : List Family) (names : list_all (λ (f : Family). is_name f.name) families ≡ true) (n : Naming)
      (known_families : FamiliesKnown families n) where
    -- one line of actions, or none
    skip_on : (i : ℕ) (k : PlainKind) (actions : List PlainAction) (m : Naming) (here more : List Declaration)
        → ActionsAre whole utf8 families names n known_families (kind_head i k) k.name actions here
        → each (declare whole) m (here ++ more) ≡ each (declare whole) m more
    unfolding each declare
    skip_on i k [] m here more line = ap (λ l. each (declare whole) m (l ++ more)) line
    skip_on i k (a ∷ actions) m here more line = ap (λ l. each (declare whole) m (l ++ more)) line.is

    pub declare_ons : (i : ℕ) (ks : List PlainKind) (m : Naming) (ds more : List Declaration) → Ons whole utf8 families names n known_families i ks ds
        → each (declare whole) m (ds ++ more) ≡ each (declare whole) m more
    declare_ons i [] m ds more lines = nothing m ds more lines
    declare_ons i (k ∷ ks) m ds more lines =
        ap (λ l. each (declare whole) m (l ++ more)) lines.2
        ∙ ap (each (declare whole) m) (append_assoc lines.0 lines.1 more)
        ∙ skip_on i k k.actions m lines.0 (lines.1 ++ more) lines.3
        ∙ declare_ons (i + 1) ks m lines.1 more lines.4
