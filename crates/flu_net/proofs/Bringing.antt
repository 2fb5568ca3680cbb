-- From the last node to the root each lot goes up with all events of its subtree.
use Rattle.std.proofs.Common.{◌≡◌, ◌<◌, ◌≤◌, ◌+◌, ◌-◌, ℕ, true, Some, None, List, [], ◌∷◌, ◌++◌}
use Rattle.std.proofs.Common.{length, set, take, get_or, inl, inr, refl, sym, ap, subst, ◌∙◌, arith}
use Rattle.std.specs.Prelude.{slice_get, IsSome, Result, Ok, Err, IfOk, OnOk}
use Rattle.std.proofs.lemmas.Bool.{cases_eq}
use Rattle.std.proofs.lemmas.List.{get_or-take, length-append, length-take-le, take-take, take_all, length-set}
use Rattle.std.proofs.lemmas.Option.{same_Some, some_pair_parts}
use Rattle.flu_lemmas.proofs.Replaced.{slice_get-set_same, slice_get-set_other}
use Rattle.flu_lemmas.proofs.Options.{none_or_some}
use Rattle.flu_model.specs.Folding.{final_state}
use Rattle.flu_model.specs.Listed.{listed}
use Rattle.flu_model.specs.Owners.{parent_of}
use Rattle.flu_model.specs.Sorts.{IsStateOf}
use Rattle.flu_cells.specs.Holding.{held}
use Rattle.flu_fork.specs.declared.content.Content.{Content}
use Rattle.flu_fork.specs.declared.lots.Lot.{Lot}
use Rattle.flu_fork.specs.Completing.{BringsAll, IsLastFork}
use Rattle.flu_fork.specs.Lots.{job, nodes, kids, setting_of, LotFits, LotsPaired, HasJoinedCounts}
use Rattle.flu_fork.specs.Serving.{LotCounts}
use Rattle.flu_worker.specs.declared.hand.Hand.TheVariants.{Down}
use Rattle.flu_worker.specs.declared.hand.Side.{Side}
use Rattle.flu_worker.specs.declared.hand.Side.TheVariants.{Left, Right}
use Rattle.flu_worker.specs.Calls.{IsFinished, IsForked, IsWholeLot}
use Rattle.flu_worker.specs.Hands.{at_side}
use Rattle.flu_worker.specs.Keeping.{HasRule}
use Rattle.flu_worker.specs.Notes.{WorkerNote, lent_to}
use Rattle.flu_net.specs.declared.edges.Edge.{Edge}
use Rattle.flu_net.specs.declared.edges.Edge.TheVariants.{Home, Given}
use Rattle.flu_net.specs.Enabled.{is_given}
use Rattle.flu_net.specs.Ending.{IsAtEnd, AreAtEnd, AreBrought, IsBrought}
use Rattle.flu_net.specs.LawsBelow.{LawsBelow}
use Rattle.flu_net.proofs.Framing.{under, kids_differ}
use Rattle.flu_net.proofs.Readying.{at_index}

-- ---- the root's lot is the fold's
pub the_state : (laws : LawsBelow) (k : Content) (lent : LotCounts) (lot : Lot) → BringsAll k 0 lent lot
    → held lot.state ≡ final_state (job k) (held k.opening) (listed k.streams)
the_state laws k lent lot all = laws.states_end (setting_of k) (held lot.state) lot.since lot.upto (laws.settings k) all.fits all.inside

pub the_sorts : (laws : LawsBelow) (k : Content) (lent : LotCounts) (lot : Lot) → BringsAll k 0 lent lot → IsStateOf (job k).families (held lot.state)
the_sorts laws k lent lot all =
    laws.sorts (setting_of k) 0 (held lot.state) lot.since lot.upto (laws.settings k) (laws.parents (nodes k) (laws.settings k).one_tree).root all.fits

-- ---- a leaf
pub leaf_all : (laws : LawsBelow) (v : WorkerNote) (lot : Lot) → IsAtEnd v.case v.node v → HasRule v → kids v.case v.node ≡ None → IsWholeLot v lot
    → BringsAll v.case v.node v.held lot
leaf_all laws v lot end rule leaf whole =
    laws.at_leaf v.case v.node v.held lot leaf whole.fits whole.since (λ i mine. whole.own i mine ∙ (end.done rule).own i mine) whole.outside

-- ---- a node with children
module _ (k : Content) (w : ℕ) (v : WorkerNote) (end : IsAtEnd k w v) (done : IsFinished v) (inner : IsSome (kids k w)) where
  down : v.hand ≡ Down
  down = elim done.hand [
    | inl whole ↦ absurd (none_or_some (kids k w) ((λ i. kids (sym end.case i) (sym end.node i)) ∙ done.leaf whole) inner)
    | inr is ↦ is
  ]

  forked : IsForked v
  forked = done.forked down

  last : IsLastFork k w v.held v.lent_left v.lent_right
  last =
      subst (λ (j : Content). IsLastFork j w v.held v.lent_left v.lent_right) end.case
      (subst (λ (u : ℕ). IsLastFork v.case u v.held v.lent_left v.lent_right) end.node
      (record {
        left_since = forked.left_since;
        right_since = forked.right_since;
        right_upto = forked.right_upto;
        first = forked.first;
        there = forked.there;
        own = λ i mine. forked.own i mine ∙ done.own i mine;
        outside = forked.outside;
      }))

  pub are_paired : (laws : LawsBelow) (l r : ℕ) (left right : Lot) → BringsAll k l v.lent_left left → BringsAll k r v.lent_right right
      → LotsPaired k l r left right
  are_paired laws l r left right = laws.last_paired k w l r v.held v.lent_left v.lent_right left right last

  pub joined_all : (laws : LawsBelow) (left right lot : Lot) → ((l r : ℕ) → kids k w ≡ Some (l, r) → BringsAll k l v.lent_left left)
      → ((l r : ℕ) → kids k w ≡ Some (l, r) → BringsAll k r v.lent_right right) → LotFits k w lot → HasJoinedCounts k w left right lot
      → BringsAll k w v.held lot
  joined_all laws left right lot fl fr fits counts =
      elim (kids k w) as (λ o. kids k w ≡ o → BringsAll k w v.held lot) [
        | None ↦ λ e. absurd (none_or_some (kids k w) e inner)
        | Some both ↦ λ e.
            (laws.last_joined k w both.0 both.1 v.held v.lent_left v.lent_right left right lot e last (fl both.0 both.1 e) (fr both.0 both.1 e) fits counts).all
      ] refl

-- ---- as its node sees it
pub end_there : (k : Content) (w : ℕ) (v : WorkerNote) → IsAtEnd k w v → IsAtEnd v.case v.node v
end_there k w v end = subst (λ (j : Content). IsAtEnd j v.node v) (sym end.case) (subst (λ (u : ℕ). IsAtEnd k u v) (sym end.node) end)

pub all_here : (k : Content) (w : ℕ) (v : WorkerNote) (lot : Lot) → IsAtEnd k w v → BringsAll v.case v.node v.held lot → BringsAll k w v.held lot
all_here k w v lot end all = subst (λ (j : Content). BringsAll j w v.held lot) end.case (subst (λ (u : ℕ). BringsAll v.case u v.held lot) end.node all)

-- ---- the lots of both children come up
module _ (laws : LawsBelow) (k : Content) (w l r : ℕ) (are : kids k w ≡ Some (l, r)) (v : WorkerNote) (es : List Edge)
    (parts : (s : Side) (a b : ℕ) → kids k w ≡ Some (a, b) → IsBrought k (at_side s a b) (lent_to s v) es) where
  pub left_given : (e : Edge) → slice_get es l ≡ Some e → is_given (Some e) ≡ true
  left_given e was = ap is_given (sym was ∙ (parts Left l r are).on)

  right_on : (more : List Edge) (e : Edge) → more ≡ set es l Home → slice_get more r ≡ Some e → Some e ≡ Some (Given (parts Right l r are).lot)
  right_on more e is was =
      sym was ∙ ap (λ (x : List Edge). slice_get x r) is ∙ slice_get-set_other es l r Home (kids_differ laws k Left w l r are) ∙ (parts Right l r are).on

  pub right_given : (more : List Edge) (e : Edge) → more ≡ set es l Home → slice_get more r ≡ Some e → is_given (Some e) ≡ true
  right_given more e is was = ap is_given (right_on more e is was)

  same_lot : (e : Edge) (a b : Lot) → Some e ≡ Some (Given a) → e ≡ Given b → a ≡ b
  same_lot e a b p q = cc

  same_pair : (a b : ℕ) → kids k w ≡ Some (a, b) → (l ≡ a) × (r ≡ b)
  same_pair a b again = some_pair_parts l a r b (sym are ∙ again)

  pub left_all : (e : Edge) (lot : Lot) → slice_get es l ≡ Some e → e ≡ Given lot → (a b : ℕ) → kids k w ≡ Some (a, b) → BringsAll k a v.lent_left lot
  left_all e lot was is a b again =
      subst (λ (u : ℕ). BringsAll k u v.lent_left lot) (same_pair a b again).0
      (subst (BringsAll k l v.lent_left) (same_lot e (parts Left l r are).lot lot (sym was ∙ (parts Left l r are).on) is) (parts Left l r are).all)

  pub right_all : (more : List Edge) (e : Edge) (lot : Lot) → more ≡ set es l Home → slice_get more r ≡ Some e → e ≡ Given lot
      → (a b : ℕ) → kids k w ≡ Some (a, b) → BringsAll k b v.lent_right lot
  right_all more e lot put was is a b again =
      subst (λ (u : ℕ). BringsAll k u v.lent_right lot) (same_pair a b again).1
      (subst (BringsAll k r v.lent_right) (same_lot e (parts Right l r are).lot lot (right_on more e put was) is) (parts Right l r are).all)

  pub others_same : (more most : List Edge) → more ≡ set es l Home → most ≡ set more r Home → (u : ℕ) → (parent_of (nodes k) u ≡ Some w → ⊥)
      → slice_get most u ≡ slice_get es u
  others_same more most is also u no_kid =
      ap (λ (x : List Edge). slice_get x u) also
      ∙ slice_get-set_other more r u Home (λ e. no_kid (ap (parent_of (nodes k)) e ∙ (under laws k Right w l r are).parent))
      ∙ ap (λ (x : List Edge). slice_get x u) is
      ∙ slice_get-set_other es l u Home (λ e. no_kid (ap (parent_of (nodes k)) e ∙ (under laws k Left w l r are).parent))

pub on_ok : {T E : Type 0} (r : Result T E) (P : Type 0) → P → OnOk r P
on_ok (Ok x) P p = p
on_ok (Err e) P p = tt

pub ok_as : {T E A : Type 0} (r : Result T E) (P : A → T → Type 0) (a b : A) → a ≡ b → IfOk r (P a) → IfOk r (P b)
ok_as r P a b e = subst (λ x. IfOk r (P x)) e

-- ---- before any lot went up
pub brought_first : (laws : LawsBelow) (k : Content) (ws : List WorkerNote) (es : List Edge) → AreAtEnd k ws → length es ≡ length (nodes k) → (m : ℕ)
    → m ≡ length (nodes k)
    → (1 ≤ m) × (m ≤ length (nodes k)) × (ws ≡ take m ws) × AreBrought k m ws es
brought_first laws k ws es end each m is =
    let root = (laws.parents (nodes k) (laws.settings k).one_tree).root in
    let long = end.each in (
      omega arith,
      omega arith,
      sym (take_all m ws (omega arith)),
      record {
        each = each;
        brought = λ s u l r v lt up are le. (let there = (under laws k s u l r are).there in absurd (omega arith));
      },
    )

-- ---- one node more
module _ (laws : LawsBelow) (k : Content) (ws : List WorkerNote) (end : AreAtEnd k ws) (w : ℕ) (x : WorkerNote) (at : slice_get ws w ≡ Some x) (es : List Edge)
    (m : ℕ) (next : m ≡ w + 1) (was : AreBrought k m ws es) where
  pub parts_there : (s : Side) (l r : ℕ) → kids k w ≡ Some (l, r) → IsBrought k (at_side s l r) (lent_to s x) es
  parts_there s l r are = let later = (under laws k s w l r are).earlier in was.brought s w l r x (omega arith) at are (omega arith)

  pub brought_more : (lot : Lot) (more : List Edge) → w < length (nodes k) → BringsAll k w x.held lot → length more ≡ length es
      → ((v : ℕ) → (parent_of (nodes k) v ≡ Some w → ⊥) → slice_get more v ≡ slice_get es v) → AreBrought k w ws (set more w (Given lot))
  brought_more lot more there all long others = record {
    each = length-set more w (Given lot) ∙ long ∙ was.each;
    brought = λ s u l r v lt up are le. elim (cases_eq (at_side s l r) w) as (λ _. IsBrought k (at_side s l r) (lent_to s v) (set more w (Given lot))) [
      | inl same ↦
          let each = was.each in
          record {
            lot = lot;
            on = ap (slice_get (set more w (Given lot))) same ∙ slice_get-set_same more w (Given lot) (omega arith);
            all = subst (λ (m : LotCounts). BringsAll k (at_side s l r) m lot) (end.lent s u l r v x are up (ap (slice_get ws) same ∙ at))
                (subst (λ (j : ℕ). BringsAll k j x.held lot) (sym same) all);
          }
      | inr apart ↦
          let old = was.brought s u l r v (omega arith) up are (omega arith) in
          let parent = (under laws k s u l r are).parent in
          record {
            lot = old.lot;
            on = slice_get-set_other more w (at_side s l r) (Given lot) apart ∙ others (at_side s l r) (λ (e : parent_of (nodes k) (at_side s l r) ≡ Some w).
                (let same : u ≡ w = same_Some u w (sym parent ∙ e) in omega arith)) ∙ old.on;
            all = old.all;
          }
    ];
  }

-- ---- the workers that are left
last_or : (xs : List WorkerNote) (x : WorkerNote) → get_or (xs ++ x ∷ []) (length xs) x ≡ x
last_or [] x = refl
last_or (y ∷ ys) x = last_or ys x

front_of : (xs : List WorkerNote) (x : WorkerNote) → take (length xs) (xs ++ x ∷ []) ≡ xs
front_of [] x = refl
front_of (y ∷ ys) x = ap (λ (l : List WorkerNote). y ∷ l) (front_of ys x)

pub popped : (ws old new : List WorkerNote) (m : ℕ) (x : WorkerNote) → old ≡ take m ws → 1 ≤ m → m ≤ length ws → old ≡ new ++ x ∷ []
    → (new ≡ take (m - 1) ws) × (slice_get ws (m - 1) ≡ Some x)
popped ws old new m x was some le is =
    let all : take m ws ≡ new ++ x ∷ [] = sym was ∙ is in
    let first = length-take-le m ws le in
    let size = ap (λ (l : List WorkerNote). length l) all in
    let both = length-append new (x ∷ []) in
    let long : length new ≡ m - 1 = omega arith in (
      sym (front_of new x) ∙ ap (λ (j : ℕ). take j (new ++ x ∷ [])) long ∙ ap (λ (l : List WorkerNote). take (m - 1) l) (sym all)
          ∙ take-take (m - 1) m ws (omega arith),
      at_index ws (m - 1) x (omega arith)
          (sym (last_or new x) ∙ ap (λ (j : ℕ). get_or (new ++ x ∷ []) j x) long ∙ ap (λ (l : List WorkerNote). get_or l (m - 1) x) (sym all)
          ∙ get_or-take m ws (m - 1) x (omega arith)),
    )
