-- The classes of cells at a node and at its children.
use Rattle.std.proofs.Common.{◌≡◌, ◌<◌, ℕ, zero, suc, Bool, true, false, cond, Some, List, [], ◌∷◌, length, ◌⊎◌, inl, inr, refl, sym, ap, ◌∙◌, arith}
use Rattle.std.specs.Prelude.{◌&&◌, not}
use Rattle.std.proofs.lemmas.Bool.{cases_Bool, cases_eq, ne_eqb, or_cases, and_left as and_false_left, not_from_false}
use Rattle.std.proofs.lemmas.List.Elements.{Contains-get_or}
use Rattle.flu_lemmas.proofs.Searches.{eq_true}
use Rattle.flu_lemmas.proofs.Tests.{and_left, and_right, both, false_if_not, not_both, not_true}
use Rattle.flu_model.specs.declared.events.Cell.{Cell}
use Rattle.flu_model.specs.declared.jobs.Program.{Program}
use Rattle.flu_model.specs.declared.modes.Mode.{Mode}
use Rattle.flu_model.specs.declared.modes.Mode.TheVariants.{None as NoMode, Add as AddMode, Raise as RaiseMode, Read as ReadMode, Own}
use Rattle.flu_model.specs.Itags.{itags, count_of_itags, tag_of_itag, source_of_itag, is_dependent}
use Rattle.flu_model.specs.Listing.{tag}
use Rattle.flu_model.specs.Modes.{IsInUniverse}
use Rattle.flu_model.specs.Owners.{path_up}
use Rattle.flu_deps.specs.Owned.{kids_at}
use Rattle.flu_deps.specs.Trees.{IsUnder, IsRooted, HasPaths, Siblings}
use Rattle.flu_laws.specs.Uses.{needs, writes}
use Rattle.flu_laws.specs.Lawful.{IsLawful}
use Rattle.flu_fork.specs.Settings.{Setting, IsSetting}
use Rattle.flu_fork.specs.Classes.{Itags, itag, below, beside, mode_by, some_has, is_needed, is_moved}
use Rattle.flu_fork.specs.Classes.{is_copied, is_base_at_child, is_base_on, is_base, is_away}
use Rattle.flu_laws.specs.Versions.{NothingIsShared}
use Rattle.flu_fork.specs.LawsBelow.{LawsBelow}
use Rattle.flu_fork.specs.Laws.{NothingIsCopied, NeededIsBase, BaseIsNotAway, CopiesAreOnlyRead}
use Rattle.flu_fork.proofs.Sides.{left_and_right, right_and_left, kid_below, turned, beside_cases, beside_kid, beside_sibling, independent, across}
use Rattle.flu_lemmas.proofs.Ranges.{any_in_range, found_in_range}

-- ---- modes
needs_writes : (m : Mode) → (m ≡ ReadMode → ⊥) → needs m ≡ true → writes m ≡ true
needs_writes NoMode other e = cc
needs_writes AddMode other e = cc
needs_writes RaiseMode other e = cc
needs_writes ReadMode other e = absurd (other refl)
needs_writes Own other e = refl

-- ---- an itag of a set that has such a mode on a cell
pub record SomeHas (p : Program) (test : Mode → Bool) (set : Itags) (c : Cell) : Type 0 where
  pub number : ℕ
  pub in_range : number < count_of_itags p
  pub in_set : set number ≡ true
  pub has : test (mode_by p number c) ≡ true

pub some_found : (p : Program) (test : Mode → Bool) (set : Itags) (c : Cell) → some_has p test set c ≡ true → SomeHas p test set c
some_found p test set c e =
    let found = found_in_range (λ i. set i && test (mode_by p i c)) 0 (count_of_itags p) e in
    let high = found.high in
    record { number = found.number; in_range = omega arith; in_set = and_left _ _ found.passes; has = and_right (set found.number) _ found.passes }

pub some_there : (p : Program) (test : Mode → Bool) (set : Itags) (c : Cell) (i : ℕ) → i < count_of_itags p → set i ≡ true → test (mode_by p i c) ≡ true
    → some_has p test set c ≡ true
some_there p test set c i lt here has = any_in_range (λ j. set j && test (mode_by p j c)) 0 (count_of_itags p) i (omega arith) (omega arith) (both _ _ here has)

-- in version 1 what is needed is written
pub nothing_copied : NothingIsShared → NothingIsCopied
nothing_copied shared p set c first =
    false_if_not _ (λ h. (
    let one = some_found p needs set c (and_left _ _ h) in
    let write = needs_writes (mode_by p one.number c) (shared p (tag_of_itag p (itag one.number)) c first) one.has in
    not_both _ (some_there p writes set c one.number one.in_range one.in_set write) (not_true _ (and_right (is_needed p set c) _ h))))

-- what is needed is moved where it is written, and copied where it is not
pub moved_if_written : (p : Program) (set : Itags) (c : Cell) → is_needed p set c ≡ true → is_copied p set c ≡ false → is_moved p set c ≡ true
moved_if_written p set c need stays =
    elim (cases_Bool (some_has p writes set c)) [
      | inl write ↦ both _ _ need write
      | inr quiet ↦ absurd (not_both _ (both _ _ need (not_from_false _ quiet)) stays)
    ]

pub moved_not_copied : (p : Program) (set : Itags) (c : Cell) → is_moved p set c ≡ true → is_copied p set c ≡ false
moved_not_copied p set c moved = false_if_not _ (λ h. not_both _ (and_right (is_needed p set c) _ moved) (not_true _ (and_right (is_needed p set c) _ h)))

pub copied_not_moved : (p : Program) (set : Itags) (c : Cell) → is_copied p set c ≡ true → is_moved p set c ≡ false
copied_not_moved p set c copied = false_if_not _ (λ h. not_both _ copied (moved_not_copied p set c h))

pub not_needed_not_moved : (p : Program) (set : Itags) (c : Cell) → is_needed p set c ≡ false → is_moved p set c ≡ false
not_needed_not_moved p set c none = and_false_left _ _ none

pub not_needed_not_copied : (p : Program) (set : Itags) (c : Cell) → is_needed p set c ≡ false → is_copied p set c ≡ false
not_needed_not_copied p set c none = and_false_left _ _ none

-- a test of a set that none of its itags meets
pub none_has : (p : Program) (test : Mode → Bool) (set : Itags) (c : Cell) (i : ℕ) → i < count_of_itags p → set i ≡ true → some_has p test set c ≡ false
    → test (mode_by p i c) ≡ false
none_has p test set c i lt here none = false_if_not _ (λ h. not_both _ (some_there p test set c i lt here h) none)

-- ---- at the nodes of a plan
module _ (laws : LawsBelow) (k : Setting) (ok : IsSetting k) where
  pub lawful : IsLawful k.program
  lawful = laws.lawful k.program ok.accepted

  in_universe : (i : ℕ) → i < count_of_itags k.program → IsInUniverse k.program (tag_of_itag k.program (itag i))
  in_universe i lt = (source_of_itag k.program (itag i), Contains-get_or (itags k.program) i (tag 0 0, 0) lt)

  -- what needs a cell depends on what writes it
  pub uses_depend : (i j : ℕ) (c : Cell) → i < count_of_itags k.program → j < count_of_itags k.program → needs (mode_by k.program i c) ≡ true
      → writes (mode_by k.program j c) ≡ true
      → is_dependent k.program (tag_of_itag k.program (itag i)) (tag_of_itag k.program (itag j)) ≡ true
  uses_depend i j c hi hj need write =
      lawful.accepted (tag_of_itag k.program (itag i)) (tag_of_itag k.program (itag j)) c (in_universe i hi) (in_universe j hj) need write

  -- what needs a cell below a node keeps what is beside the node from writing it, and the other way round
  pub unwritten_beside : (w i j : ℕ) (c : Cell) → i < count_of_itags k.program → j < count_of_itags k.program → below k.program k.nodes w i ≡ true
      → beside k.program k.nodes w j ≡ true → needs (mode_by k.program i c) ≡ true → writes (mode_by k.program j c) ≡ false
  unwritten_beside w i j c hi hj inside out need =
      false_if_not _ (λ write. not_both _ (uses_depend i j c hi hj need write) (independent laws k ok w i j hi hj inside out))

  pub unwritten_below : (w i j : ℕ) (c : Cell) → i < count_of_itags k.program → j < count_of_itags k.program → below k.program k.nodes w i ≡ true
      → beside k.program k.nodes w j ≡ true → needs (mode_by k.program j c) ≡ true → writes (mode_by k.program i c) ≡ false
  unwritten_below w i j c hi hj inside out need =
      false_if_not _ (λ write. not_both _ (lawful.dependent_turns (tag_of_itag k.program (itag i)) (tag_of_itag k.program (itag j))
      ∙ uses_depend j i c hj hi need write) (independent laws k ok w i j hi hj inside out))

  -- an itag below a node does not write what is away there
  pub away_unwritten : (w i : ℕ) (c : Cell) → i < count_of_itags k.program → below k.program k.nodes w i ≡ true → is_away k.program k.nodes w c ≡ true
      → writes (mode_by k.program i c) ≡ false
  away_unwritten w i c hi inside away =
      let one = some_found k.program needs (beside k.program k.nodes w) c (and_right _ _ away) in
      unwritten_below w i one.number c hi one.in_range inside one.in_set one.has

  -- ---- base cells
  rooted : IsRooted k.nodes
  rooted = laws.rooted k.nodes ok.one_tree

  paths : HasPaths k.nodes
  paths = laws.paths k.nodes ok.one_tree

  -- a path begins with its node
  path_first : (v : ℕ) → v < length k.nodes → (rest : List ℕ) × (path_up k.nodes v ≡ v ∷ rest)
  path_first v lt =
      elim (cases_eq v 0) [
        | inl root ↦ ([], ap (path_up k.nodes) root ∙ paths.root ∙ ap (λ n. n ∷ []) (sym root))
        | inr other ↦ let up = rooted.above v (omega arith) lt in (path_up k.nodes up.parent, paths.child up.parent v up.under)
      ]

  pub root_base : (c : Cell) → is_base k.program k.nodes 0 c ≡ true
  root_base c = ap (λ us. is_base_on k.program k.nodes us c) paths.root

  base_under : (w x : ℕ) (c : Cell) → IsUnder k.nodes w x
      → is_base k.program k.nodes x c ≡ (is_base k.program k.nodes w c && is_base_at_child k.program k.nodes x (kids_at k.nodes w) c)
  base_under w x c under =
      let there : w < length k.nodes = (let a = under.there in let b = under.earlier in omega arith) in
      let first = path_first w there in
      ap (λ us. is_base_on k.program k.nodes us c) (paths.child w x under ∙ ap (λ us. x ∷ us) first.1)
      ∙ ap (λ us. is_base_on k.program k.nodes us c && is_base_at_child k.program k.nodes x (kids_at k.nodes w) c) (sym first.1)

  pub left_base : (w left right : ℕ) (c : Cell) → kids_at k.nodes w ≡ Some (left, right)
      → is_base k.program k.nodes left c ≡ (is_base k.program k.nodes w c && not (is_moved k.program (below k.program k.nodes right) c))
  left_base w left right c e =
      let s = left_and_right laws k ok w left right e in
      base_under w left c s.first
      ∙ ap (λ o. is_base k.program k.nodes w c && is_base_at_child k.program k.nodes left o c) e
      ∙ ap (λ b. is_base k.program k.nodes w c && cond b (not (is_moved k.program (below k.program k.nodes right) c))
      (is_needed k.program (below k.program k.nodes right) c)) (eq_true left left refl)

  pub right_base : (w left right : ℕ) (c : Cell) → kids_at k.nodes w ≡ Some (left, right)
      → is_base k.program k.nodes right c ≡ (is_base k.program k.nodes w c && is_needed k.program (below k.program k.nodes right) c)
  right_base w left right c e =
      let s = left_and_right laws k ok w left right e in
      base_under w right c s.second
      ∙ ap (λ o. is_base k.program k.nodes w c && is_base_at_child k.program k.nodes right o c) e
      ∙ ap (λ b. is_base k.program k.nodes w c && cond b (not (is_moved k.program (below k.program k.nodes right) c))
      (is_needed k.program (below k.program k.nodes right) c)) (ne_eqb left right s.differ)

  -- ---- what is needed below a node is base there
  needed_at : (fuel w i : ℕ) (c : Cell) → w < fuel → w < length k.nodes → i < count_of_itags k.program → below k.program k.nodes w i ≡ true
      → needs (mode_by k.program i c) ≡ true → is_base k.program k.nodes w c ≡ true
  needed_at zero w i c f lt hi inside need = absurd (omega arith)
  needed_at (suc fuel) w i c f lt hi inside need =
      elim (cases_eq w 0) [
        | inl root ↦ ap (λ n. is_base k.program k.nodes n c) root ∙ root_base c
        | inr other ↦
            let up = rooted.above w (omega arith) lt in
            let u = up.parent in
            let earlier = up.under.earlier in
            let left = up.kids.0 in
            let right = up.kids.1 in
            let kids : kids_at k.nodes u ≡ Some (left, right) = up.are in
            elim up.one [
              | inl is ↦
                  let inside_left : below k.program k.nodes left i ≡ true = sym (ap (λ n. below k.program k.nodes n i) is) ∙ inside in
                  let s = left_and_right laws k ok u left right kids in
                  let there : is_base k.program k.nodes u c ≡ true =
                  needed_at fuel u i c (omega arith) (omega arith) hi (kid_below laws k ok u left right i s inside_left) need in
                  let stays : is_moved k.program (below k.program k.nodes right) c ≡ false = false_if_not _ (λ h. (
                  let one =
                  some_found k.program writes (below k.program k.nodes right) c (and_right (is_needed k.program (below k.program k.nodes right) c) _ h) in
                  not_both _ (uses_depend i one.number c hi one.in_range need one.has)
                  (across laws k ok u left right i one.number s hi one.in_range inside_left one.in_set))) in
                  ap (λ n. is_base k.program k.nodes n c) is ∙ left_base u left right c kids ∙ both _ _ there (not_from_false _ stays)
              | inr is ↦
                  let inside_right : below k.program k.nodes right i ≡ true = sym (ap (λ n. below k.program k.nodes n i) is) ∙ inside in
                  let s = right_and_left laws k ok u left right kids in
                  let there : is_base k.program k.nodes u c ≡ true =
                  needed_at fuel u i c (omega arith) (omega arith) hi (kid_below laws k ok u right left i s inside_right) need in
                  ap (λ n. is_base k.program k.nodes n c) is ∙ right_base u left right c kids ∙ both _ _ there
                  (some_there k.program needs (below k.program k.nodes right) c i hi inside_right need)
            ]
      ]

  pub needed_is_base : (w i : ℕ) (c : Cell) → w < length k.nodes → i < count_of_itags k.program → below k.program k.nodes w i ≡ true
      → needs (mode_by k.program i c) ≡ true → is_base k.program k.nodes w c ≡ true
  needed_is_base w i c lt hi inside need = needed_at (suc w) w i c (omega arith) lt hi inside need

  pub all_needed_is_base : (w : ℕ) (c : Cell) → w < length k.nodes → is_needed k.program (below k.program k.nodes w) c ≡ true
      → is_base k.program k.nodes w c ≡ true
  all_needed_is_base w c lt need =
      let one = some_found k.program needs (below k.program k.nodes w) c need in
      needed_is_base w one.number c lt one.in_range one.in_set one.has

  -- and at its parent
  pub needed_is_base_up : (w x y : ℕ) (c : Cell) → Siblings k.nodes w x y → is_needed k.program (below k.program k.nodes x) c ≡ true
      → is_base k.program k.nodes w c ≡ true
  needed_is_base_up w x y c s need =
      let one = some_found k.program needs (below k.program k.nodes x) c need in
      needed_is_base w one.number c (let a = s.first.there in let b = s.first.earlier in omega arith) one.in_range
      (kid_below laws k ok w x y one.number s one.in_set) one.has

  -- ---- away cells
  -- a cell that is base at a child is base at its parent
  pub base_up : (w x y : ℕ) (c : Cell) → Siblings k.nodes w x y → is_base k.program k.nodes x c ≡ true → is_base k.program k.nodes w c ≡ true
  base_up w x y c s base = and_left _ _ (sym (base_under w x c s.first) ∙ base)

  pub not_base_down : (w x y : ℕ) (c : Cell) → Siblings k.nodes w x y → is_base k.program k.nodes w c ≡ false → is_base k.program k.nodes x c ≡ false
  not_base_down w x y c s not_base = false_if_not _ (λ h. not_both _ (base_up w x y c s h) not_base)

  -- what is needed beside a node is needed beside its children, as is what is needed below a sibling
  pub beside_down : (w x y : ℕ) (c : Cell) → Siblings k.nodes w x y → is_needed k.program (beside k.program k.nodes w) c ≡ true
      → is_needed k.program (beside k.program k.nodes x) c ≡ true
  beside_down w x y c s need =
      let one = some_found k.program needs (beside k.program k.nodes w) c need in
      some_there k.program needs (beside k.program k.nodes x) c one.number one.in_range
      (beside_kid laws k ok w x y one.number one.in_range s one.in_set) one.has

  pub beside_across : (w x y : ℕ) (c : Cell) → Siblings k.nodes w x y → is_needed k.program (below k.program k.nodes y) c ≡ true
      → is_needed k.program (beside k.program k.nodes x) c ≡ true
  beside_across w x y c s need =
      let one = some_found k.program needs (below k.program k.nodes y) c need in
      some_there k.program needs (beside k.program k.nodes x) c one.number one.in_range (beside_sibling laws k ok w x y one.number s one.in_set) one.has

  -- and what is needed beside a child is needed beside its parent or below its sibling
  pub beside_up : (w x y : ℕ) (c : Cell) → Siblings k.nodes w x y → is_needed k.program (beside k.program k.nodes x) c ≡ true
      → (is_needed k.program (beside k.program k.nodes w) c ≡ true) ⊎ (is_needed k.program (below k.program k.nodes y) c ≡ true)
  beside_up w x y c s need =
      let one = some_found k.program needs (beside k.program k.nodes x) c need in
      elim (beside_cases laws k ok w x y one.number one.in_range s one.in_set) [
        | inl up ↦ inl (some_there k.program needs (beside k.program k.nodes w) c one.number one.in_range up one.has)
        | inr there ↦ inr (some_there k.program needs (below k.program k.nodes y) c one.number one.in_range there one.has)
      ]

  -- what is away at a node is away at its children
  pub away_kid : (w x y : ℕ) (c : Cell) → Siblings k.nodes w x y → is_away k.program k.nodes w c ≡ true → is_away k.program k.nodes x c ≡ true
  away_kid w x y c s away =
      both _ _ (not_from_false _ (not_base_down w x y c s (not_true _ (and_left _ _ away)))) (beside_down w x y c s (and_right _ _ away))

  -- where a node's cell is not base, it is away at a child only where it is away at the node
  pub away_up : (w x y : ℕ) (c : Cell) → Siblings k.nodes w x y → is_base k.program k.nodes w c ≡ false → is_away k.program k.nodes x c ≡ true
      → is_away k.program k.nodes w c ≡ true
  away_up w x y c s not_base away =
      elim (beside_up w x y c s (and_right _ _ away)) [
        | inl up ↦ both _ _ (not_from_false _ not_base) up
        | inr there ↦ absurd (not_both _ (needed_is_base_up w y x c (turned laws k ok w x y s) there) not_base)
      ]

  -- what is not base at a child, and needed below its sibling, is away at the child
  pub needed_away : (w x y : ℕ) (c : Cell) → Siblings k.nodes w x y → is_base k.program k.nodes x c ≡ false
      → is_needed k.program (below k.program k.nodes y) c ≡ true
      → is_away k.program k.nodes x c ≡ true
  needed_away w x y c s not_base need = both _ _ (not_from_false _ not_base) (beside_across w x y c s need)

  -- what is copied is written below neither child
  pub copied_unwritten_right : (right i : ℕ) (c : Cell) → i < count_of_itags k.program → is_copied k.program (below k.program k.nodes right) c ≡ true
      → below k.program k.nodes right i ≡ true → writes (mode_by k.program i c) ≡ false
  copied_unwritten_right right i c hi copied inside =
      none_has k.program writes (below k.program k.nodes right) c i hi inside
      (not_true _ (and_right (is_needed k.program (below k.program k.nodes right) c) _ copied))

  pub copied_unwritten_left : (w left right i : ℕ) (c : Cell) → Siblings k.nodes w left right → i < count_of_itags k.program
      → is_copied k.program (below k.program k.nodes right) c ≡ true → below k.program k.nodes left i ≡ true → writes (mode_by k.program i c) ≡ false
  copied_unwritten_left w left right i c s hi copied inside =
      false_if_not _ (λ write. (
      let one = some_found k.program needs (below k.program k.nodes right) c (and_left _ _ copied) in
      not_both _ (lawful.dependent_turns (tag_of_itag k.program (itag i)) (tag_of_itag k.program (itag one.number))
      ∙ uses_depend one.number i c one.in_range hi one.has write)
      (across laws k ok w left right i one.number s hi one.in_range inside one.in_set)))

pub needed_law : LawsBelow → NeededIsBase
needed_law laws k w i c ok lt hi inside need = needed_is_base laws k ok w i c lt hi inside need

pub not_away_law : BaseIsNotAway
not_away_law k w c ok lt base = and_false_left _ _ (ap not base)

pub only_read_law : LawsBelow → CopiesAreOnlyRead
only_read_law laws k w left right i c ok kids hi copied inside =
    elim (or_cases (below k.program k.nodes left i) (below k.program k.nodes right i) inside) [
      | inl there ↦ copied_unwritten_left laws k ok w left right i c (left_and_right laws k ok w left right kids) hi copied there
      | inr there ↦ copied_unwritten_right laws k ok right i c hi copied there
    ]
