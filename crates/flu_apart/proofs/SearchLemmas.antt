-- The search finds the first shared use, or there is none.
use Rattle.std.proofs.Common.{◌≡◌, ◌<◌, ◌≤◌, ℕ, zero, suc, Bool, true, false, cond, not, ◌&&◌, Option, Some, None, List, [], ◌∷◌}
use Rattle.std.proofs.Common.{inl, inr, refl, sym, ap, subst, ◌∙◌, arith}
use Rattle.std.specs.Prelude.{◌||◌, IfSome, IfNone, slice_get}
use Rattle.std.specs.Cmp.{IsTotalOrder, IsStrictWeakOrder}
use Rattle.std.specs.Ordering.{ordering_then, is_lt}
use Rattle.std.proofs.lemmas.Bool.{or_left, or_right, or_cases, cases_lt}
use Rattle.std.proofs.lemmas.Cmp.{on_total, then_total, tied_itself}
use Rattle.std.proofs.lemmas.List.Folds.{list_any-append}
use Rattle.std.proofs.lemmas.List.MinMax.{ranks_by}
use Rattle.flu_lemmas.proofs.Ranges.{any_in_range, found_in_range}
use Rattle.flu_lemmas.proofs.Tests.{and_left, and_right, both, not_both}
use Rattle.flu_lemmas.proofs.TwoNumbers.{by_two-total, none_before_zero, not_before_itself, made_alike}
use Rattle.flu_model.specs.declared.events.Cell.{Cell}
use Rattle.flu_model.specs.declared.events.Tag.{Tag}
use Rattle.flu_model.specs.declared.jobs.Program.{Program}
use Rattle.flu_model.specs.declared.modes.Mode.{Mode}
use Rattle.flu_model.specs.declared.plans.Node.{Node}
use Rattle.flu_model.specs.Contents.{cell, is_same_cell}
use Rattle.flu_model.specs.Itags.{count_of_itags}
use Rattle.flu_model.specs.Modes.{mode_of, uses}
use Rattle.flu_model.specs.Order.{cell_cmp, is_cell_before, tag_cmp}
use Rattle.flu_model.specs.Updates.{actions_of}
use Rattle.flu_laws.specs.Uses.{needs}
use Rattle.flu_apart.specs.declared.classes.Class.TheVariants.{Unused, Kept, Contributed, Shared}
use Rattle.flu_apart.specs.declared.reason.SharedUse.{SharedUse}
use Rattle.flu_apart.specs.Apart.{SharesNone, IsSharedUse, IsFirstUse, use_cmp}
use Rattle.flu_apart.specs.Classes.{tag_at, mode_at, inside, outside, some_has, is_used, is_contributed, is_kept, class_of}
use Rattle.flu_apart.specs.LoopSearch.{is_shared, is_before_best, shared_use, best_upto, best_at, best_among, cells_of, cells_upto}
use Rattle.flu_apart.proofs.CellLemmas.{names, first, FirstToo, first_is_used, first_is_needed}

-- ---- the order of shared uses
tags_total : IsTotalOrder tag_cmp
tags_total = by_two-total (λ (t : Tag). t.kind) (λ (t : Tag). t.key)

cells_total : IsTotalOrder cell_cmp
cells_total = by_two-total (λ (c : Cell). c.family) (λ (c : Cell). c.key)

abbrev is_before : SharedUse → SharedUse → Bool
is_before x y = is_lt (use_cmp x.tag x.cell y.tag y.cell)

uses_total : IsTotalOrder (λ (x y : SharedUse). use_cmp x.tag x.cell y.tag y.cell)
uses_total = then_total (on_total (λ (r : SharedUse). r.tag) tags_total) (on_total (λ (r : SharedUse). r.cell) cells_total)

uses_rank : IsStrictWeakOrder is_before
uses_rank = ranks_by uses_total (λ r. r)

-- of the shared uses of one tag the order is that of the cells
same_tag : (t : Tag) (c d : Cell) → is_before (shared_use t c) (shared_use t d) ≡ is_cell_before c d
same_tag t c d = ap (λ o. is_lt (ordering_then o (cell_cmp c d))) (tied_itself tags_total t)

itself : (r : SharedUse) → is_before r r ≡ false
itself r = ap is_lt (tied_itself uses_total r)

-- ---- there is a shared use so far, and this one is not before it
abbrev Passed : Option SharedUse → SharedUse → Type 0
Passed None r = ⊥
Passed (Some b) r = is_before r b ≡ false

pick_keeps : (b : Bool) (r : SharedUse) (best : Option SharedUse) (x : SharedUse) → Passed best x
    → Passed (cond (b && is_before_best r best) (Some r) best) x
pick_keeps b r None x passed = absurd passed
pick_keeps false r (Some d) x passed = passed
pick_keeps true r (Some d) x passed =
    elim (is_before r d) as (λ t. is_before r d ≡ t → Passed (cond t (Some r) (Some d)) x) [
      | true ↦ λ e. uses_rank.chain x d r passed (uses_rank.one_way r d e)
      | false ↦ λ e. passed
    ] refl

pick_itself : (b : Bool) (r : SharedUse) (best : Option SharedUse) → b ≡ true → Passed (cond (b && is_before_best r best) (Some r) best) r
pick_itself false r best e = cc
pick_itself true r None e = itself r
pick_itself true r (Some d) e =
    elim (is_before r d) as (λ t. is_before r d ≡ t → Passed (cond t (Some r) (Some d)) r) [
      | true ↦ λ h. itself r
      | false ↦ λ h. h
    ] refl

pick_good : (G : SharedUse → Type 0) (b : Bool) (r : SharedUse) (best : Option SharedUse) → (b ≡ true → G r) → IfSome best G
    → IfSome (cond (b && is_before_best r best) (Some r) best) G
pick_good G false r best good so_far = so_far
pick_good G true r best good so_far =
    elim (is_before_best r best) as (λ t. IfSome (cond t (Some r) best) G) [
      | true ↦ good refl
      | false ↦ so_far
    ]

-- ---- the class of a cell that is shared
record IsShared (u k n : Bool) : Type 0 where
  used : u ≡ true
  not_kept : k ≡ false
  not_contributed : n ≡ false

shared_is : (u k n : Bool) → is_shared (cond u (cond k Kept (cond n Contributed Shared)) Unused) ≡ true → IsShared u k n
shared_is false k n e = cc
shared_is true true n e = cc
shared_is true false true e = cc
shared_is true false false e = record { used = refl; not_kept = refl; not_contributed = refl }

is_shared_by : (u k n : Bool) → u ≡ true → k ≡ false → n ≡ false → is_shared (cond u (cond k Kept (cond n Contributed Shared)) Unused) ≡ true
is_shared_by false k n a b c = cc
is_shared_by true true n a b c = cc
is_shared_by true false true a b c = cc
is_shared_by true false false a b c = refl

not_false : (b : Bool) → not b ≡ false → b ≡ true
not_false true e = refl
not_false false e = cc

not_of : (b : Bool) → b ≡ true → not b ≡ false
not_of true e = refl
not_of false e = cc

neither : (a b : Bool) → (a ≡ false → b ≡ false → ⊥) → (a || b) ≡ true
neither true b none = refl
neither false true none = refl
neither false false none = absurd (none refl refl)

none_of_either : (a b : Bool) → (a || b) ≡ true → a ≡ false → b ≡ false → ⊥
none_of_either true b e f g = cc
none_of_either false true e f g = cc
none_of_either false false e f g = cc

module _ (p : Program) (nodes : List Node) (w : ℕ) where
  abbrev Good : SharedUse → Type 0
  Good r = IsSharedUse p nodes w r.tag r.cell

  abbrev shared : Cell → Bool
  shared c = is_shared (class_of p nodes w c)

  abbrev user : ℕ → Cell → Bool
  user i c = inside p nodes w i && uses (mode_at p i c)

  -- ---- one cell
  upto_keeps : (c : Cell) (best : Option SharedUse) (n : ℕ) (x : SharedUse) → Passed best x → Passed (best_upto p nodes w c best n) x
  upto_keeps c best zero x passed = passed
  upto_keeps c best (suc n) x passed =
      pick_keeps (user n c) (shared_use (tag_at p n) c) (best_upto p nodes w c best n) x (upto_keeps c best n x passed)

  upto_reaches : (c : Cell) (best : Option SharedUse) (n i : ℕ) → i < n → user i c ≡ true → Passed (best_upto p nodes w c best n) (shared_use (tag_at p i) c)
  upto_reaches c best zero i lt used = absurd (omega arith)
  upto_reaches c best (suc n) i lt used =
      elim (cases_lt i n) [
        | inl less ↦
            pick_keeps (user n c) (shared_use (tag_at p n) c) (best_upto p nodes w c best n) (shared_use (tag_at p i) c) (upto_reaches c best n i less used)
        | inr ge ↦
            let same : n ≡ i = omega arith in
            subst (λ k. Passed (best_upto p nodes w c best (suc n)) (shared_use (tag_at p k) c)) same
            (pick_itself (user n c) (shared_use (tag_at p n) c) (best_upto p nodes w c best n) (ap (λ k. user k c) same ∙ used))
      ]

  good_at : (c : Cell) (i : ℕ) → shared c ≡ true → i < count_of_itags p → user i c ≡ true → Good (shared_use (tag_at p i) c)
  good_at c i is lt used =
      let class : IsShared (is_used p nodes w c) (is_kept p nodes w c) (is_contributed p nodes w c) =
      shared_is (is_used p nodes w c) (is_kept p nodes w c) (is_contributed p nodes w c) is in
      record {
        itag = i;
        in_range = lt;
        of_subtree = and_left (inside p nodes w i) (uses (mode_at p i c)) used;
        tag = refl;
        used = and_right (inside p nodes w i) (uses (mode_at p i c)) used;
        not_contributed = class.not_contributed;
        not_kept = class.not_kept;
      }

  upto_good : (c : Cell) (best : Option SharedUse) (n : ℕ) → n ≤ count_of_itags p → shared c ≡ true → IfSome best Good
      → IfSome (best_upto p nodes w c best n) Good
  upto_good c best zero le is so_far = so_far
  upto_good c best (suc n) le is so_far =
      pick_good Good (user n c) (shared_use (tag_at p n) c) (best_upto p nodes w c best n) (good_at c n is (omega arith))
      (upto_good c best n (omega arith) is so_far)

  at_keeps : (best : Option SharedUse) (c : Cell) (x : SharedUse) → Passed best x → Passed (best_at p nodes w best c) x
  at_keeps best c x passed =
      elim (shared c) as (λ b. Passed (cond b (best_upto p nodes w c best (count_of_itags p)) best) x) [
        | true ↦ upto_keeps c best (count_of_itags p) x passed
        | false ↦ passed
      ]

  at_good : (best : Option SharedUse) (c : Cell) → IfSome best Good → IfSome (best_at p nodes w best c) Good
  at_good best c so_far =
      elim (shared c) as (λ b. shared c ≡ b → IfSome (cond b (best_upto p nodes w c best (count_of_itags p)) best) Good) [
        | true ↦ λ e. upto_good c best (count_of_itags p) (omega arith) e so_far
        | false ↦ λ e. so_far
      ] refl

  at_reaches : (best : Option SharedUse) (c : Cell) (i : ℕ) → shared c ≡ true → i < count_of_itags p → user i c ≡ true
      → Passed (best_at p nodes w best c) (shared_use (tag_at p i) c)
  at_reaches best c i is lt used =
      subst (λ b. Passed (cond b (best_upto p nodes w c best (count_of_itags p)) best) (shared_use (tag_at p i) c)) (sym is)
      (upto_reaches c best (count_of_itags p) i lt used)

  -- ---- a list of cells
  among_good : (best : Option SharedUse) (cs : List Cell) → IfSome best Good → IfSome (best_among p nodes w best cs) Good
  among_good best [] so_far = so_far
  among_good best (c ∷ cs) so_far = among_good (best_at p nodes w best c) cs (at_good best c so_far)

  among_keeps : (best : Option SharedUse) (cs : List Cell) (x : SharedUse) → Passed best x → Passed (best_among p nodes w best cs) x
  among_keeps best [] x passed = passed
  among_keeps best (c ∷ cs) x passed = among_keeps (best_at p nodes w best c) cs x (at_keeps best c x passed)

  among_reaches : (best : Option SharedUse) (cs : List Cell) (c : Cell) (i : ℕ) → names c cs ≡ true → shared c ≡ true → i < count_of_itags p
      → user i c ≡ true → Passed (best_among p nodes w best cs) (shared_use (tag_at p i) c)
  among_reaches best [] c i named is lt used = cc
  among_reaches best (d ∷ cs) c i named is lt used =
      elim (or_cases (is_same_cell d c) (names c cs) named) [
        | inl here ↦
            let same : d ≡ c = made_alike cell d.family d.key c.family c.key here in
            among_keeps (best_at p nodes w best d) cs (shared_use (tag_at p i) c)
            (subst (λ e. Passed (best_at p nodes w best e) (shared_use (tag_at p i) c)) (sym same) (at_reaches best c i is lt used))
        | inr later ↦ among_reaches (best_at p nodes w best d) cs c i later is lt used
      ]

  -- ---- the cells that are named
  abbrev pub all_named : List Cell
  all_named = cells_upto p (count_of_itags p)

  named_upto : (d : Cell) (n i : ℕ) → i < n → names d (cells_of p (tag_at p i)) ≡ true → names d (cells_upto p n) ≡ true
  named_upto d zero i lt named = absurd (omega arith)
  named_upto d (suc n) i lt named =
      let there : (names d (cells_upto p n) || names d (cells_of p (tag_at p n))) ≡ true = elim (cases_lt i n) [
        | inl less ↦ or_left (names d (cells_upto p n)) (names d (cells_of p (tag_at p n))) (named_upto d n i less named)
        | inr ge ↦
            let same : n ≡ i = omega arith in
            or_right (names d (cells_upto p n)) (names d (cells_of p (tag_at p n))) (ap (λ k. names d (cells_of p (tag_at p k))) same ∙ named)
      ] in
      list_any-append (λ x. is_same_cell x d) (cells_upto p n) (cells_of p (tag_at p n)) ∙ there

  -- a shared use of a cell is one of a cell that is named and not after it
  record Covered (t : Tag) (c : Cell) : Type 0 where
    at : Cell
    is_named : names at all_named ≡ true
    use_there : IsSharedUse p nodes w t at
    not_after : is_cell_before c at ≡ false

  some_has_first : (c : Cell) (test : Mode → Bool) (set : ℕ → Bool)
      → ((i : ℕ) → i < count_of_itags p → test (mode_at p i c) ≡ true → test (mode_at p i (first c)) ≡ true)
      → some_has p test set c ≡ true → some_has p test set (first c) ≡ true
  some_has_first c test set too some =
      let found = found_in_range (λ i. set i && test (mode_at p i c)) 0 (count_of_itags p) some in
      let i = found.number in
      let below : i < count_of_itags p = let high = found.high in omega arith in
      any_in_range (λ k. set k && test (mode_at p k (first c))) 0 (count_of_itags p) i found.low found.high
      (both (set i) (test (mode_at p i (first c))) (and_left (set i) (test (mode_at p i c)) found.passes)
      (too i below (and_right (set i) (test (mode_at p i c)) found.passes)))

  -- a cell that nothing names is used as one of its family, so the first of these is too
  too : (c : Cell) → names c all_named ≡ false → (i : ℕ) → i < count_of_itags p → uses (mode_at p i c) ≡ true
      → FirstToo c (cells_of p (tag_at p i)) (uses (mode_at p i (first c)))
  too c none i lt =
      first_is_used p.version (actions_of (slice_get p.kinds (tag_at p i).kind)) (tag_at p i).key c
      (λ h. not_both (names c all_named) (named_upto c (count_of_itags p) i lt h) none)

  needed_too : (c : Cell) → names c all_named ≡ false → (i : ℕ) → i < count_of_itags p → needs (mode_at p i c) ≡ true
      → needs (mode_at p i (first c)) ≡ true
  needed_too c none i lt =
      first_is_needed p.version (actions_of (slice_get p.kinds (tag_at p i).kind)) (tag_at p i).key c
      (λ h. not_both (names c all_named) (named_upto c (count_of_itags p) i lt h) none)

  covered : (t : Tag) (c : Cell) → IsSharedUse p nodes w t c → Covered t c
  covered t c r =
      elim (names c all_named) as (λ b. names c all_named ≡ b → Covered t c) [
        | true ↦ λ is. record {
          at = c;
          is_named = is;
          use_there = r;
          not_after = not_before_itself (λ (d : Cell). d.family) (λ (d : Cell). d.key) c;
        }
        | false ↦ λ none.
            let used_here : uses (mode_at p r.itag c) ≡ true = ap (λ u. uses (mode_of p u c)) r.tag ∙ r.used in
            record {
              at = first c;
              is_named = named_upto (first c) (count_of_itags p) r.itag r.in_range (too c none r.itag r.in_range used_here).0;
              use_there = record {
                itag = r.itag;
                in_range = r.in_range;
                of_subtree = r.of_subtree;
                tag = r.tag;
                used = ap (λ u. uses (mode_of p u (first c))) (sym r.tag) ∙ (too c none r.itag r.in_range used_here).1;
                not_contributed =
                    not_of (some_has p needs (inside p nodes w) (first c))
                    (some_has_first c needs (inside p nodes w) (needed_too c none)
                    (not_false (some_has p needs (inside p nodes w) c) r.not_contributed));
                not_kept =
                    not_of (some_has p uses (outside p nodes w) (first c))
                    (some_has_first c uses (outside p nodes w) (λ i lt h. (too c none i lt h).1)
                    (not_false (some_has p uses (outside p nodes w) c) r.not_kept));
              };
              not_after = none_before_zero c.family c.key;
            }
      ] refl

  -- ---- what is found
  module _ (found : Option SharedUse) (is : found ≡ best_among p nodes w None all_named) where
    passed : (t : Tag) (c : Cell) → names c all_named ≡ true → IsSharedUse p nodes w t c → Passed found (shared_use t c)
    passed t c named r =
        let used_here : uses (mode_at p r.itag c) ≡ true = ap (λ u. uses (mode_of p u c)) r.tag ∙ r.used in
        let used : user r.itag c ≡ true = both (inside p nodes w r.itag) (uses (mode_at p r.itag c)) r.of_subtree used_here in
        let some : is_used p nodes w c ≡ true =
        any_in_range (λ i. user i c) 0 (count_of_itags p) r.itag (omega arith) (let lt = r.in_range in omega arith) used in
        let class : shared c ≡ true =
        is_shared_by (is_used p nodes w c) (is_kept p nodes w c) (is_contributed p nodes w c) some r.not_kept r.not_contributed in
        subst (λ (o : Option SharedUse). Passed o (shared_use t c)) (sym is)
        (subst (λ u. Passed (best_among p nodes w None all_named) (shared_use u c)) r.tag (among_reaches None all_named c r.itag named class r.in_range used))

    good : IfSome found Good
    good = subst (λ (o : Option SharedUse). IfSome o Good) (sym is) (among_good None all_named tt)

    pub first_found : IfSome found (λ r. IsFirstUse p nodes w r.tag r.cell)
    first_found = at_answer found refl
      where
        at_answer : (o : Option SharedUse) → found ≡ o → IfSome o (λ r. IsFirstUse p nodes w r.tag r.cell)
        at_answer None e = tt
        at_answer (Some b) e = record {
          shared = subst (λ (o : Option SharedUse). IfSome o Good) e good;
          first = λ u d r.
              let k : Covered u d = covered u d r in
              let there : is_before (shared_use u k.at) b ≡ false =
              subst (λ (o : Option SharedUse). Passed o (shared_use u k.at)) e (passed u k.at k.is_named k.use_there) in
              uses_rank.chain (shared_use u d) (shared_use u k.at) b (same_tag u d k.at ∙ k.not_after) there;
        }

    pub none_found : IfNone found (SharesNone p nodes w)
    none_found = at_answer found refl
      where
        at_answer : (o : Option SharedUse) → found ≡ o → IfNone o (SharesNone p nodes w)
        at_answer None e = λ i c lt there used.
            neither (is_contributed p nodes w c) (is_kept p nodes w c) (λ not_contributed not_kept.
            let k : Covered (tag_at p i) c = covered (tag_at p i) c (record {
              itag = i;
              in_range = lt;
              of_subtree = there;
              tag = refl;
              used = used;
              not_contributed = not_contributed;
              not_kept = not_kept;
            }) in
            subst (λ (o : Option SharedUse). Passed o (shared_use (tag_at p i) k.at)) e (passed (tag_at p i) k.at k.is_named k.use_there))
        at_answer (Some b) e = tt

  -- a subtree that shares no cell has no shared use
  pub no_use : (t : Tag) (c : Cell) → IsSharedUse p nodes w t c → SharesNone p nodes w → ⊥
  no_use t c r apart =
      none_of_either (is_contributed p nodes w c) (is_kept p nodes w c)
      (apart r.itag c r.in_range r.of_subtree (ap (λ u. uses (mode_of p u c)) r.tag ∙ r.used)) r.not_contributed r.not_kept

-- what is said of equal jobs, plans and nodes
pub moved : (P : Program → List Node → ℕ → Type 0) (q p : Program) (ms ns : List Node) (u w : ℕ) → q ≡ p → ms ≡ ns → u ≡ w → P q ms u → P p ns w
moved P q p ms ns u w job nodes node holds =
    subst (λ v. P p ns v) node (subst (λ xs. P p xs u) nodes (subst (λ r. P r ms u) job holds))
