-- What the tables hold, of every node and of every number.
use Rattle.std.proofs.Common.{◌≡◌, ◌<◌, ◌≤◌, ◌+◌, ℕ, zero, suc, min, Bool, true, false, cond, Option, Some}
use Rattle.std.proofs.Common.{None, List, [], ◌∷◌, ◌++◌, length, map, inl, inr, refl, sym, ap, ◌∙◌, arith}
use Rattle.std.specs.Prelude.{◌==◌, ◌&&◌, ◌||◌, not, slice_get, slice_index_or}
use Rattle.std.specs.List.{filter, list_any, range_with_len}
use Rattle.std.proofs.lemmas.Bool.{cases_lt, cases_eq, ne_eqb, or_cases}
use Rattle.std.proofs.lemmas.List.{get_or_past, get_or_append_left, get_or_push, get_or-map, length-append}
use Rattle.std.proofs.lemmas.List.FromFn.{length-map-range_with_len, get_or-map-range_with_len, filter_of_map_range_with_len_more}
use Rattle.std.proofs.lemmas.Option.{slice_get_past}
use Rattle.flu_lemmas.proofs.Booleans.{and_false}
use Rattle.flu_lemmas.proofs.Places.{position_passes, slice_get-there}
use Rattle.flu_lemmas.proofs.Searches.{eq_true}
use Rattle.flu_lemmas.proofs.Tests.{true_eq, false_if_not}
use Rattle.flu_model.specs.declared.events.Itag.{Itag}
use Rattle.flu_model.specs.declared.events.Tag.{Tag}
use Rattle.flu_model.specs.declared.jobs.Program.{Program}
use Rattle.flu_model.specs.declared.plans.Node.{Node}
use Rattle.flu_model.specs.Itags.{itags, count_of_itags, tag_of_itag, is_dependent}
use Rattle.flu_model.specs.Listing.{tag}
use Rattle.flu_model.specs.Owners.{found_owns, owns, owner_of, ancestors_own, is_kid, parent_of, climb, is_within}
use Rattle.flu_model.specs.PlanRules.{is_tree}
use Rattle.flu_deps.specs.Dependencies.{itags_depend}
use Rattle.flu_deps.specs.Owned.{kids_of, kids_at}
use Rattle.flu_deps.specs.Owners.{IsOwned}
use Rattle.flu_deps.specs.Trees.{ChildrenAreLater}
use Rattle.flu_tables.specs.declared.shares.Share.{Share}
use Rattle.flu_tables.specs.Lists.{itag, itags_where}
use Rattle.flu_tables.specs.LoopShares.{own_of, above_of, AreShares}
use Rattle.flu_tables.specs.LoopRows.{tags_with_none, rows_of, place_in}

-- ---- the itags of a job, one more at a time

abbrev numbered : ℕ → List Itag
numbered n = map itag (range_with_len 0 n)

pub listed_more : (test : Itag → Bool) (n : ℕ) (old new : List Itag) → new ≡ old ++ itag n ∷ [] → test (itag n) ≡ true
    → old ≡ filter test (numbered n) → new ≡ filter test (numbered (n + 1))
listed_more test n old new grown passed kept =
    grown ∙ ap (λ xs. xs ++ itag n ∷ []) kept ∙ ap (λ b. filter test (numbered n) ++ cond b (itag n ∷ []) []) (sym passed)
    ∙ sym (filter_of_map_range_with_len_more test itag 0 n n (omega arith))

pub listed_still : (test : Itag → Bool) (n : ℕ) (old : List Itag) → test (itag n) ≡ false
    → old ≡ filter test (numbered n) → old ≡ filter test (numbered (n + 1))
listed_still test n old failed kept =
    kept ∙ sym (nothing_more (filter test (numbered n))) ∙ ap (λ b. filter test (numbered n) ++ cond b (itag n ∷ []) []) (sym failed)
    ∙ sym (filter_of_map_range_with_len_more test itag 0 n n (omega arith))
  where
    nothing_more : (xs : List Itag) → xs ++ [] ≡ xs
    nothing_more [] = refl
    nothing_more (x ∷ xs) = ap (λ ys. x ∷ ys) (nothing_more xs)

none_listed : (test : Itag → Bool) (xs : List Itag) → ((i : Itag) → test i ≡ false) → filter test xs ≡ []
none_listed test [] none = refl
none_listed test (x ∷ xs) none = ap (λ b. cond b (x ∷ filter test xs) (filter test xs)) (none x) ∙ none_listed test xs none

-- ---- owners

-- the owner is the node that owns the itag
pub owner_tells : (p : Program) (nodes : List Node) (w v : ℕ) (i : Itag) → IsOwned p nodes i → owner_of p nodes i ≡ Some v
    → (v == w) ≡ owns p nodes w i
owner_tells p nodes w v i owned is =
    elim (cases_eq v w) [
      | inl same ↦ eq_true v w same ∙ sym ((owned.alone w).1 (is ∙ ap (λ n. Some n) same))
      | inr other ↦ ne_eqb v w other ∙ sym (false_if_not _ (λ h. other (of_some v w (sym is ∙ (owned.alone w).0 h))))
    ]
  where
    of_some : (a b : ℕ) → Some a ≡ Some b → a ≡ b
    of_some a b e = cc

-- ---- a number that is no node's

-- it has no parent
kid_there : (nodes : List Node) (u v : ℕ) → ChildrenAreLater → is_tree nodes ≡ true → (kids : Option (ℕ × ℕ)) → kids_at nodes u ≡ kids → is_kid v kids ≡ true
    → v < length nodes
kid_there nodes u v later tree None at is = cc
kid_there nodes u v later tree (Some kids) at is =
    let both = later nodes u kids.0 kids.1 tree at in
    elim (or_cases (kids.0 == v) (kids.1 == v) is) [
      | inl h ↦ (let same = true_eq kids.0 v h in let there = both.left_under.there in omega arith)
      | inr h ↦ (let same = true_eq kids.1 v h in let there = both.right_under.there in omega arith)
    ]

no_parent : (nodes : List Node) (v : ℕ) → ChildrenAreLater → is_tree nodes ≡ true → length nodes ≤ v → parent_of nodes v ≡ None
no_parent nodes v later tree past = by_parent (parent_of nodes v) refl
  where
    by_parent : (o : Option ℕ) → parent_of nodes v ≡ o → o ≡ None
    by_parent None e = refl
    by_parent (Some u) e =
        let found = position_passes (λ (node : Node). is_kid v node.kids) nodes u e in
        let there = kid_there nodes u v later tree found.0.kids (ap kids_of found.1) found.2 in
        absurd (omega arith)

-- nothing but itself is on its path, so no proper ancestor owns anything
apart_past : (nodes : List Node) (u v : ℕ) → parent_of nodes v ≡ None → (is_within nodes u v && not (u == v)) ≡ false
apart_past nodes u v none = on_path (length nodes)
  where
    alone : (b : Bool) → ((v == u) ≡ b) → ((list_any (λ x. x == u) (v ∷ [])) && not (u == v)) ≡ false
    alone true e = and_not (true_eq v u e)
      where
        and_not : v ≡ u → ((list_any (λ x. x == u) (v ∷ [])) && not (u == v)) ≡ false
        and_not same = ap (λ b. list_any (λ x. x == u) (v ∷ []) && not b) (eq_true u v (sym same)) ∙ and_false _
    alone false e = ap (λ b. (b || false) && not (u == v)) e

    on_path : (n : ℕ) → (list_any (λ x. x == u) (climb n nodes (Some v)) && not (u == v)) ≡ false
    on_path zero = refl
    on_path (suc zero) = alone (v == u) refl
    on_path (suc (suc n)) = ap (λ path. list_any (λ x. x == u) (v ∷ path) && not (u == v)) (ap (climb (suc n) nodes) none) ∙ alone (v == u) refl

none_above : (p : Program) (nodes : List Node) (w : ℕ) (i : Itag) → parent_of nodes w ≡ None → ancestors_own p nodes w i ≡ false
none_above p nodes w i none = by_owner (owner_of p nodes i) refl
  where
    by_owner : (o : Option ℕ) → owner_of p nodes i ≡ o → ancestors_own p nodes w i ≡ false
    by_owner None e = rw e refl
    by_owner (Some v) e = rw e (apart_past nodes v w none)

-- ---- shares

pub own_listed : (p : Program) (nodes : List Node) (shares : List Share) (w : ℕ) → AreShares p nodes shares
    → own_of (slice_get shares w) ≡ itags_where p (owns p nodes w)
own_listed p nodes shares w are =
    elim (cases_lt w (length shares)) [
      | inl lt ↦ (let found = slice_get-there shares w lt in ap own_of found.1 ∙ (are.of_nodes w found.0 found.1).own)
      | inr le ↦
          (let each = are.one_each in
          ap own_of (slice_get_past shares w le)
          ∙ sym (none_listed (owns p nodes w) (numbered (count_of_itags p)) (λ i. ap (found_owns p i) (slice_get_past nodes w (omega arith)))))
    ]

pub above_listed : (p : Program) (nodes : List Node) (shares : List Share) (w : ℕ) → ChildrenAreLater → is_tree nodes ≡ true → AreShares p nodes shares
    → above_of (slice_get shares w) ≡ itags_where p (ancestors_own p nodes w)
above_listed p nodes shares w later tree are =
    elim (cases_lt w (length shares)) [
      | inl lt ↦ (let found = slice_get-there shares w lt in ap above_of found.1 ∙ (are.of_nodes w found.0 found.1).above)
      | inr le ↦
          (let each = are.one_each in
          ap above_of (slice_get_past shares w le)
          ∙ sym (none_listed (ancestors_own p nodes w) (numbered (count_of_itags p))
          (λ i. none_above p nodes w i (no_parent nodes w later tree (omega arith)))))
    ]

-- ---- dependence

-- what stands at the place of a number
at_place : {X : Type 0} (f : ℕ → X) (x d : X) (n i : ℕ) → ((j : ℕ) → n ≤ j → f j ≡ x)
    → slice_index_or (map f (range_with_len 0 n) ++ x ∷ []) (min i n) d ≡ f i
at_place f x d n i past =
    elim (cases_lt i n) [
      | inl lt ↦
          (let here : min i n ≡ i = omega arith in
          let size = length-map-range_with_len f 0 n in
          ap (λ k. slice_index_or (map f (range_with_len 0 n) ++ x ∷ []) k d) here ∙ get_or_append_left (map f (range_with_len 0 n)) (x ∷ []) d i (omega arith)
          ∙ get_or-map-range_with_len f 0 n i i d lt (omega arith))
      | inr le ↦
          (let here : min i n ≡ n = omega arith in
          ap (λ k. slice_index_or (map f (range_with_len 0 n) ++ x ∷ []) k d) here
          ∙ get_or_push (map f (range_with_len 0 n)) x d n (length-map-range_with_len f 0 n)
          ∙ sym (past i le))
    ]

tag_beyond : (p : Program) (i : ℕ) → count_of_itags p ≤ i → tag_of_itag p (itag i) ≡ tag 0 0
tag_beyond p i le = ap (λ (pair : Tag × ℕ). pair.0) (get_or_past (itags p) i (tag 0 0, 0) le)

abbrev tag_here : Program → ℕ → Tag
tag_here p i = slice_index_or (tags_with_none p) (min i (count_of_itags p)) (tag 0 0)

tag_at : (p : Program) (i : Itag) → tag_here p i.0 ≡ tag_of_itag p i
tag_at p i = at_place (λ k. tag_of_itag p (itag k)) (tag 0 0) (tag 0 0) (count_of_itags p) i.0 (tag_beyond p)

within_tags : (p : Program) (i : ℕ) → min i (count_of_itags p) < length (tags_with_none p)
within_tags p i =
    let n = count_of_itags p in
    let size = length-map-range_with_len (λ k. tag_of_itag p (itag k)) 0 n in
    let more = length-append (map (λ k. tag_of_itag p (itag k)) (range_with_len 0 n)) (tag 0 0 ∷ []) in
    omega arith

pub dependence_told : (p : Program) (rows : List (List Bool)) (i j : Itag) → rows ≡ rows_of p (tags_with_none p)
    → place_in rows (count_of_itags p) i j ≡ itags_depend p i j
dependence_told p rows i j are =
    let tags = tags_with_none p in
    let a = min i.0 (count_of_itags p) in
    let b = min j.0 (count_of_itags p) in
    ap (λ rs. slice_index_or (slice_index_or rs a []) b false) are
    ∙ ap (λ row. slice_index_or row b false) (get_or-map (λ t. map (is_dependent p t) tags) tags a (tag 0 0) [] (within_tags p i.0))
    ∙ get_or-map (is_dependent p (tag_here p i.0)) tags b (tag 0 0) false (within_tags p j.0)
    ∙ ap (λ t. is_dependent p t (tag_here p j.0)) (tag_at p i) ∙ ap (is_dependent p (tag_of_itag p i)) (tag_at p j)
