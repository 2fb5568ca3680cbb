-- Families and kinds that differ only in the lists that name their keys and items: all rules but those of lists, and all texts of actions,
-- are the same for them.
use Rattle.std.proofs.Common.{◌≡◌, ℕ, zero, suc, Bool, List, [], ◌∷◌, ◌++◌, map, length, Option, Some, None, refl, sym, ap, ◌∙◌}
use Rattle.std.specs.Prelude.{◌&&◌, ◌||◌, not, ◌==◌, nat_le, slice_get, option_map, if◌then◌else◌, codes}
use Rattle.std.specs.List.{list_all, list_any, flat_map}
use Rattle.std.proofs.lemmas.Option.{slice_get-map}
use Rattle.flu_lemmas.proofs.Elements.{list_all_same}
use Rattle.flu_model.specs.declared.jobs.Sort.{Sort}
use Rattle.flu_model.specs.declared.jobs.Family.{Family}
use Rattle.flu_model.specs.declared.jobs.At.{At}
use Rattle.flu_model.specs.declared.jobs.CellRef.{CellRef}
use Rattle.flu_model.specs.declared.jobs.Expr.{Expr}
use Rattle.flu_model.specs.declared.jobs.Expr.TheVariants.{Lit, Value, Key, Item, Time, Read, Has, Neg', Not', Two'}
use Rattle.flu_model.specs.declared.jobs.Piece.{Piece}
use Rattle.flu_model.specs.declared.jobs.Piece.TheVariants as piece
use Rattle.flu_model.specs.declared.jobs.Sort.TheVariants.{Sum, Max, Last}
use Rattle.flu_model.specs.declared.jobs.Act.{Act}
use Rattle.flu_model.specs.declared.jobs.Act.TheVariants.{Add, Raise, Set, Clear, ClearFamily, Emit, Flush}
use Rattle.flu_model.specs.declared.jobs.Action.{Action}
use Rattle.flu_model.specs.declared.jobs.Kind.{Kind}
use Rattle.flu_model.specs.Erasure.{Term, Literal, EventValue, EventKey, EventItem, EventTime, CellRead, CellHeld, Negative, Negation, Operation}
use Rattle.flu_model.specs.Erasure.{PlainAct, Adding, Raising, Setting, Clearing, ClearingFamily, Emitting, Flushing, PlainAction, PlainKind}
use Rattle.flu_model.specs.Rules.{family_fits, has_sort, is_declared, is_keyed, ref_fits, ref_has_sort, expr_fits, height, is_good_expr, emit_piece_fits}
use Rattle.flu_model.specs.Rules.{flush_piece_fits, are_apart, is_short, emit_template_fits, flush_template_fits, act_fits, guard_fits, action_fits, kind_fits}
use Rattle.flu_model.specs.Rules.{are_families, are_kinds}
use Rattle.flu_model.specs.Templates.{family_name, written_key, written_cell, written_piece, written_template}
use Rattle.flu_model.specs.Versions.{items_fit, is_older_kind, is_named_item, fit_version}
use Rattle.flu_names.specs.Names.{is_name}
use Rattle.flu_layout.specs.Laid.{quoted, line_end}
use Rattle.flu_layout.specs.Lists.{separated}
use Rattle.flu_parse.specs.Lists.{listed_families, listed_kinds}
use Rattle.flu_parse.specs.Printing.{op_text, term_text, act_text, guard_text, action_text, actions_line, on_line}

-- ---- what asks nothing of the list
module _ {Y : Type 0} (g : Family → Y) (same : (f : Family) (l : Option ℕ) → g (record f { list = l }) ≡ g f) where
  pub map-listed_families : (fs : List Family) (ls : List (Option ℕ)) → map g (listed_families fs ls) ≡ map g fs
  map-listed_families [] ls = refl
  map-listed_families (f ∷ fs) [] = refl
  map-listed_families (f ∷ fs) (l ∷ ls) = λ i. same f l i ∷ map-listed_families fs ls i

module _ {Y : Type 0} (g : PlainKind → Y) (same : (k : PlainKind) (l : Option ℕ) → g (record k { list = l }) ≡ g k) where
  pub map-listed_kinds : (ks : List PlainKind) (ls : List (Option ℕ)) → map g (listed_kinds ks ls) ≡ map g ks
  map-listed_kinds [] ls = refl
  map-listed_kinds (k ∷ ks) [] = refl
  map-listed_kinds (k ∷ ks) (l ∷ ls) = λ i. same k l i ∷ map-listed_kinds ks ls i

module _ (p : PlainKind → Bool) (same : (k : PlainKind) (l : Option ℕ) → p (record k { list = l }) ≡ p k) where
  pub all-listed_kinds : (ks : List PlainKind) (ls : List (Option ℕ)) → list_all p (listed_kinds ks ls) ≡ list_all p ks
  all-listed_kinds [] ls = refl
  all-listed_kinds (k ∷ ks) [] = refl
  all-listed_kinds (k ∷ ks) (l ∷ ls) = λ i. same k l i && all-listed_kinds ks ls i

-- ---- how many, and which stands where
pub length-listed_families : (fs : List Family) (ls : List (Option ℕ)) → length (listed_families fs ls) ≡ length fs
length-listed_families [] ls = refl
length-listed_families (f ∷ fs) [] = refl
length-listed_families (f ∷ fs) (l ∷ ls) = ap suc (length-listed_families fs ls)

pub length-listed_kinds : (ks : List PlainKind) (ls : List (Option ℕ)) → length (listed_kinds ks ls) ≡ length ks
length-listed_kinds [] ls = refl
length-listed_kinds (k ∷ ks) [] = refl
length-listed_kinds (k ∷ ks) (l ∷ ls) = ap suc (length-listed_kinds ks ls)

pub listed_family_at : (fs : List Family) (ls : List (Option ℕ)) (i : ℕ) (f : Family) (l : Option ℕ) → slice_get fs i ≡ Some f → slice_get ls i ≡ Some l
    → slice_get (listed_families fs ls) i ≡ Some (record f { list = l })
listed_family_at [] ls i f l there list = absurd cc
listed_family_at (g ∷ fs) [] i f l there list = absurd cc
listed_family_at (g ∷ fs) (m ∷ ls) zero f l there list =
    let same : g ≡ f = cc in
    let one : m ≡ l = cc in
    λ i. Some (record (same i) { list = one i })
listed_family_at (g ∷ fs) (m ∷ ls) (suc i) f l there list = listed_family_at fs ls i f l there list

pub listed_kind_at : (ks : List PlainKind) (ls : List (Option ℕ)) (i : ℕ) (k : PlainKind) (l : Option ℕ) → slice_get ks i ≡ Some k → slice_get ls i ≡ Some l
    → slice_get (listed_kinds ks ls) i ≡ Some (record k { list = l })
listed_kind_at [] ls i k l there list = absurd cc
listed_kind_at (q ∷ ks) [] i k l there list = absurd cc
listed_kind_at (q ∷ ks) (m ∷ ls) zero k l there list =
    let same : q ≡ k = cc in
    let one : m ≡ l = cc in
    λ i. Some (record (same i) { list = one i })
listed_kind_at (q ∷ ks) (m ∷ ls) (suc i) k l there list = listed_kind_at ks ls i k l there list

-- ---- without the lists, and with them again
abbrev pub unlisted : Family → Family
unlisted f = record f { list = None }

abbrev pub unlisted_kind : PlainKind → PlainKind
unlisted_kind k = record k { list = None }

pub families_listed : (fs : List Family) → listed_families (map unlisted fs) (map (λ (f : Family). f.list) fs) ≡ fs
families_listed [] = refl
families_listed (f ∷ fs) = ap (λ gs. f ∷ gs) (families_listed fs)

pub kinds_listed : (ks : List PlainKind) → listed_kinds (map unlisted_kind ks) (map (λ (k : PlainKind). k.list) ks) ≡ ks
kinds_listed [] = refl
kinds_listed (k ∷ ks) = ap (λ qs. k ∷ qs) (kinds_listed ks)

-- ---- families that are alike but for their lists
abbrev pub AreAlike : List Family → List Family → Type 0
AreAlike fs gs = map unlisted fs ≡ map unlisted gs

pub listed_alike : (fs : List Family) (ls : List (Option ℕ)) → AreAlike (listed_families fs ls) fs
listed_alike fs ls = map-listed_families unlisted (λ f l. refl) fs ls

pub unlisted_alike : (fs : List Family) → AreAlike (map unlisted fs) fs
unlisted_alike [] = refl
unlisted_alike (f ∷ fs) = ap (λ gs. unlisted f ∷ gs) (unlisted_alike fs)

abbrev AsksNoList : {Y : Type 0} → (Option Family → Y) → Type 0
AsksNoList q = (o : Option Family) → q o ≡ q (option_map unlisted o)

no_list_fits : (keyed : Bool) (at : At) → AsksNoList (λ o. family_fits o keyed at)
no_list_fits keyed at None = refl
no_list_fits keyed at (Some f) = refl

no_list_sort : (sort : Sort) → AsksNoList (λ o. has_sort o sort)
no_list_sort sort None = refl
no_list_sort sort (Some f) = refl

no_list_declared : AsksNoList is_declared
no_list_declared None = refl
no_list_declared (Some f) = refl

no_list_keyed : AsksNoList is_keyed
no_list_keyed None = refl
no_list_keyed (Some f) = refl

no_list_name : AsksNoList family_name
no_list_name None = refl
no_list_name (Some f) = refl

flat_map_same : {X Y : Type 0} (f g : X → List Y) (xs : List X) → ((x : X) → f x ≡ g x) → flat_map f xs ≡ flat_map g xs
flat_map_same f g [] same = refl
flat_map_same f g (x ∷ xs) same = λ i. same x i ++ flat_map_same f g xs same i

separated_same : {X : Type 0} (between : List ℕ) (f g : X → List ℕ) (xs : List X) → ((x : X) → f x ≡ g x) → separated between f xs ≡ separated between g xs
separated_same between f g [] same = refl
separated_same between f g (x ∷ xs) same =
    λ i. same x i ++ flat_map_same (λ y. between ++ f y) (λ y. between ++ g y) xs (λ y. ap (λ t. between ++ t) (same y)) i

module _ (fs gs : List Family) (alike : AreAlike fs gs) where
  at_place : {Y : Type 0} (q : Option Family → Y) → AsksNoList q → (i : ℕ) → q (slice_get fs i) ≡ q (slice_get gs i)
  at_place q same i =
      same (slice_get fs i)
      ∙ ap q (sym (slice_get-map unlisted fs i) ∙ ap (λ hs. slice_get hs i) alike ∙ slice_get-map unlisted gs i)
      ∙ sym (same (slice_get gs i))

  pub declared-alike : (i : ℕ) → is_declared (slice_get fs i) ≡ is_declared (slice_get gs i)
  declared-alike i = at_place is_declared no_list_declared i

  pub keyed-alike : (i : ℕ) → is_keyed (slice_get fs i) ≡ is_keyed (slice_get gs i)
  keyed-alike i = at_place is_keyed no_list_keyed i

  pub name-alike : (i : ℕ) → family_name (slice_get fs i) ≡ family_name (slice_get gs i)
  name-alike i = at_place family_name no_list_name i

  pub ref-alike : (keyed : Bool) (r : CellRef) → ref_fits fs keyed r ≡ ref_fits gs keyed r
  ref-alike keyed r = at_place (λ o. family_fits o keyed r.at) (no_list_fits keyed r.at) r.family

  pub sort-alike : (sort : Sort) (r : CellRef) → ref_has_sort fs sort r ≡ ref_has_sort gs sort r
  sort-alike sort r = at_place (λ o. has_sort o sort) (no_list_sort sort) r.family

  -- texts
  pub cell-alike : (r : CellRef) → written_cell fs r ≡ written_cell gs r
  cell-alike r = ap (λ name. name ++ written_key r.at) (name-alike r.family)

  pub piece-alike : (p : Piece) → written_piece fs p ≡ written_piece gs p
  piece-alike (piece.Plain t) = refl
  piece-alike piece.Value = refl
  piece-alike piece.Key = refl
  piece-alike piece.Item = refl
  piece-alike piece.Time = refl
  piece-alike (piece.Read r) = ap (λ cell. codes "{" ++ cell ++ codes "}") (cell-alike r)
  piece-alike piece.CellValue = refl
  piece-alike (piece.FamilyCell f) = ap (λ name. codes "{" ++ name ++ codes "}") (name-alike f)

  pub template-alike : (ps : List Piece) → written_template fs ps ≡ written_template gs ps
  template-alike ps = flat_map_same (written_piece fs) (written_piece gs) ps piece-alike

  pub term-alike : (e : Term) → term_text fs e ≡ term_text gs e
  term-alike (Literal n) = refl
  term-alike EventValue = refl
  term-alike EventKey = refl
  term-alike EventItem = refl
  term-alike EventTime = refl
  term-alike (CellRead r) = cell-alike r
  term-alike (CellHeld r) = ap (λ cell. codes "has " ++ cell) (cell-alike r)
  term-alike (Negative e) = ap (λ t. codes "(- " ++ t ++ codes ")") (term-alike e)
  term-alike (Negation e) = ap (λ t. codes "(not " ++ t ++ codes ")") (term-alike e)
  term-alike (Operation o a b) = λ i. codes "(" ++ term-alike a i ++ codes " " ++ op_text o ++ codes " " ++ term-alike b i ++ codes ")"

  pub act_text-alike : (a : PlainAct) → act_text fs a ≡ act_text gs a
  act_text-alike (Adding r e) = λ i. codes "add " ++ cell-alike r i ++ codes " " ++ term-alike e i
  act_text-alike (Raising r e) = λ i. codes "raise " ++ cell-alike r i ++ codes " " ++ term-alike e i
  act_text-alike (Setting r e) = λ i. codes "set " ++ cell-alike r i ++ codes " " ++ term-alike e i
  act_text-alike (Clearing r) = λ i. codes "clear " ++ cell-alike r i
  act_text-alike (ClearingFamily f) = λ i. codes "clear " ++ name-alike f i
  act_text-alike (Emitting ps) = λ i. codes "emit " ++ quoted (template-alike ps i)
  act_text-alike (Flushing f ps) = λ i. codes "flush " ++ name-alike f i ++ codes " " ++ quoted (template-alike ps i)

  pub guard_text-alike : (g : Option Term) → guard_text fs g ≡ guard_text gs g
  guard_text-alike None = refl
  guard_text-alike (Some e) = ap (λ t. codes " when " ++ t) (term-alike e)

  pub action_text-alike : (a : PlainAction) → action_text fs a ≡ action_text gs a
  action_text-alike a = λ i. act_text-alike a.act i ++ guard_text-alike a.guard i

  pub on_line-alike : (k : PlainKind) → on_line fs k ≡ on_line gs k
  on_line-alike k = by k.actions
    where
      by : (actions : List PlainAction) → actions_line fs k.name actions ≡ actions_line gs k.name actions
      by [] = refl
      by (a ∷ actions) =
          ap (λ t. codes "on " ++ k.name ++ codes ": " ++ t ++ line_end)
          (separated_same (codes "; ") (action_text fs) (action_text gs) (a ∷ actions) action_text-alike)

  -- rules
  module _ (keyed has_value : Bool) where
    pub expr-alike : (e : Expr) → expr_fits fs keyed has_value e ≡ expr_fits gs keyed has_value e
    expr-alike (Lit n) = refl
    expr-alike Value = refl
    expr-alike Key = refl
    expr-alike Item = refl
    expr-alike Time = refl
    expr-alike (Read r) = ref-alike keyed r
    expr-alike (Has r) = ref-alike keyed r
    expr-alike (Neg' p e) = expr-alike e
    expr-alike (Not' p e) = expr-alike e
    expr-alike (Two' op p a q b) = λ i. expr-alike a i && expr-alike b i

    pub good-alike : (e : Expr) → is_good_expr fs keyed has_value e ≡ is_good_expr gs keyed has_value e
    good-alike e = ap (λ b. b && nat_le (height e) 32) (expr-alike e)

    pub emit_piece-alike : (p : Piece) → emit_piece_fits fs keyed has_value p ≡ emit_piece_fits gs keyed has_value p
    emit_piece-alike (piece.Plain t) = refl
    emit_piece-alike piece.Value = refl
    emit_piece-alike piece.Key = refl
    emit_piece-alike piece.Item = refl
    emit_piece-alike piece.Time = refl
    emit_piece-alike (piece.Read r) = ref-alike keyed r
    emit_piece-alike piece.CellValue = refl
    emit_piece-alike (piece.FamilyCell f) = refl

    pub flush_piece-alike : (flushed : ℕ) (p : Piece) → flush_piece_fits fs flushed has_value p ≡ flush_piece_fits gs flushed has_value p
    flush_piece-alike flushed (piece.Plain t) = refl
    flush_piece-alike flushed piece.Value = refl
    flush_piece-alike flushed piece.Key = refl
    flush_piece-alike flushed piece.Item = refl
    flush_piece-alike flushed piece.Time = refl
    flush_piece-alike flushed (piece.Read r) = refl
    flush_piece-alike flushed piece.CellValue = refl
    flush_piece-alike flushed (piece.FamilyCell f) = ap (λ b. b && not (f == flushed)) (declared-alike f)

    pub emit-alike : (ps : List Piece) → emit_template_fits fs keyed has_value ps ≡ emit_template_fits gs keyed has_value ps
    emit-alike ps =
        let pieces = list_all_same (emit_piece_fits fs keyed has_value) (emit_piece_fits gs keyed has_value) ps emit_piece-alike in
        λ i. pieces i && are_apart ps && is_short (template-alike ps i)

    pub flush-alike : (flushed : ℕ) (ps : List Piece) → flush_template_fits fs flushed has_value ps ≡ flush_template_fits gs flushed has_value ps
    flush-alike flushed ps =
        let pieces = list_all_same (flush_piece_fits fs flushed has_value) (flush_piece_fits gs flushed has_value) ps (flush_piece-alike flushed) in
        λ i. pieces i && are_apart ps && is_short (template-alike ps i)

    pub act-alike : (a : Act) → act_fits fs keyed has_value a ≡ act_fits gs keyed has_value a
    act-alike (Add r e) = λ i. ref-alike keyed r i && sort-alike Sum r i && good-alike e i
    act-alike (Raise r e) = λ i. ref-alike keyed r i && sort-alike Max r i && good-alike e i
    act-alike (Set r e) = λ i. ref-alike keyed r i && sort-alike Last r i && good-alike e i
    act-alike (Clear r) = ref-alike keyed r
    act-alike (ClearFamily f) = keyed-alike f
    act-alike (Emit ps) = emit-alike ps
    act-alike (Flush f ps) = λ i. keyed-alike f i && flush-alike f ps i

    pub guard-alike : (g : Option Expr) → guard_fits fs keyed has_value g ≡ guard_fits gs keyed has_value g
    guard-alike None = refl
    guard-alike (Some e) = good-alike e

    pub action-alike : (a : Action) → action_fits fs keyed has_value a ≡ action_fits gs keyed has_value a
    action-alike a = λ i. act-alike a.act i && guard-alike a.guard i

  pub kind-alike : (k : Kind) → kind_fits fs k ≡ kind_fits gs k
  kind-alike k =
      ap (λ b. is_name k.name && nat_le (length k.actions) 32 && b)
      (list_all_same (action_fits fs k.keyed k.has_value) (action_fits gs k.keyed k.has_value) k.actions (action-alike k.keyed k.has_value))

  pub kinds-alike : (kinds : List Kind) → are_kinds fs kinds ≡ are_kinds gs kinds
  kinds-alike kinds = list_all_same (kind_fits fs) (kind_fits gs) kinds kind-alike

-- ---- the names of families
all_unlisted : (fs : List Family) → are_families (map unlisted fs) ≡ are_families fs
all_unlisted [] = refl
all_unlisted (f ∷ fs) = ap (λ b. is_name f.name && b) (all_unlisted fs)

any_unlisted : (fs : List Family) → list_any is_named_item (map unlisted fs) ≡ list_any is_named_item fs
any_unlisted [] = refl
any_unlisted (f ∷ fs) = ap (λ b. is_named_item f || b) (any_unlisted fs)

names_unlisted : (fs : List Family) → map (λ (f : Family). f.name) (map unlisted fs) ≡ map (λ (f : Family). f.name) fs
names_unlisted [] = refl
names_unlisted (f ∷ fs) = ap (λ names. f.name ∷ names) (names_unlisted fs)

length_unlisted : (fs : List Family) → length (map unlisted fs) ≡ length fs
length_unlisted [] = refl
length_unlisted (f ∷ fs) = ap suc (length_unlisted fs)

module _ (fs gs : List Family) (alike : AreAlike fs gs) where
  pub length-alike : length fs ≡ length gs
  length-alike = sym (length_unlisted fs) ∙ ap length alike ∙ length_unlisted gs

  pub names-alike : map (λ (f : Family). f.name) fs ≡ map (λ (f : Family). f.name) gs
  names-alike = sym (names_unlisted fs) ∙ ap (map (λ (f : Family). f.name)) alike ∙ names_unlisted gs

  pub families-alike : are_families fs ≡ are_families gs
  families-alike = sym (all_unlisted fs) ∙ ap are_families alike ∙ all_unlisted gs

  pub named_item-alike : list_any is_named_item fs ≡ list_any is_named_item gs
  named_item-alike = sym (any_unlisted fs) ∙ ap (list_any is_named_item) alike ∙ any_unlisted gs

  pub version-alike : (version : ℕ) (kinds : List Kind) → fit_version version fs kinds ≡ fit_version version gs kinds
  version-alike version kinds =
      ap (λ b. list_all items_fit kinds && (if version == 3 then not b else list_all is_older_kind kinds)) named_item-alike
