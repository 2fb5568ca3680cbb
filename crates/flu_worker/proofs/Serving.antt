-- What a worker takes next is exact for its lot, and the lot that it gives is served.
use Rattle.std.proofs.Common.{◌≡◌, ◌<◌, ℕ, Bool, true, false, cond, Option, Some, None, length, inl, inr, refl, sym, ap, ◌∙◌}
use Rattle.std.specs.Prelude.{◌==◌, ◌&&◌, is_none, slice_index}
use Rattle.std.proofs.lemmas.Bool.{cases_Bool}
use Rattle.std.proofs.lemmas.Option.{slice_get_within}
use Rattle.flu_lemmas.proofs.Tests.{and_left, and_right, true_eq}
use Rattle.flu_model.specs.Owners.{owns}
use Rattle.flu_fork.specs.declared.lots.Ask.{Ask}
use Rattle.flu_fork.specs.declared.lots.Lot.{Lot}
use Rattle.flu_fork.specs.Lots.{job, nodes, kids}
use Rattle.flu_fork.specs.Serving.{Served, AsksAbove}
use Rattle.flu_worker.specs.declared.hand.Hand.{Hand}
use Rattle.flu_worker.specs.declared.hand.Hand.TheVariants.{Empty, Whole, Lending, Down, Taking}
use Rattle.flu_worker.specs.Agreeing.{IsTarget, IsExactFor}
use Rattle.flu_worker.specs.Choosing.{sight, event_of, serves, least_ready, ask_for, if_own, is_same_ask, next_of, gives_by, may_give}
use Rattle.flu_worker.specs.Hands.{is_whole}
use Rattle.flu_worker.specs.LawsBelow.{LawsBelow}
use Rattle.flu_worker.specs.Notes.{WorkerNote, own_of, above_of}
use Rattle.flu_worker.specs.Rule.{HoldsWhole}
use Rattle.flu_worker.proofs.Aiming.{known_at, leaf_served, leaf_target, same_ask, serving_target, some_ask, target_exact}

pub hand_whole : (h : Hand) → is_whole h ≡ true → h ≡ Whole
hand_whole Empty e = cc
hand_whole Whole e = refl
hand_whole (Lending l r) e = cc
hand_whole Down e = cc
hand_whole (Taking l r) e = cc

pub no_kids : (o : Option (ℕ × ℕ)) → is_none o ≡ true → o ≡ None
no_kids None e = refl
no_kids (Some p) e = cc

cond_true : (b x y : Bool) → b ≡ true → cond b x y ≡ x
cond_true b x y e = ap (λ t. cond t x y) e

cond_false : (b x y : Bool) → b ≡ false → cond b x y ≡ y
cond_false b x y e = ap (λ t. cond t x y) e

pub may_hand : (n : WorkerNote) (y : Ask) → may_give n y ≡ true → is_whole n.hand ≡ true
may_hand n y may = and_left (is_whole n.hand) _ (and_right (above_of n y.itag.0 && (y.index == slice_index n.held.upto y.itag.0)) _ may)

pub whole_next : (n : WorkerNote) (y : Ask) → next_of n ≡ Some y → is_whole n.hand ≡ true
whole_next n y next = by_test (is_whole n.hand) _ next
  where
    by_test : (b : Bool) (o : Option Ask) → cond b o None ≡ Some y → b ≡ true
    by_test true o e = refl
    by_test false o e = cc

-- the kept target, where it is the worker's own
pub own_some : (n : WorkerNote) (y : Ask) (o : Option Ask) → if_own (sight n) o ≡ Some y → (o ≡ Some y) × (own_of n y.itag.0 ≡ true)
own_some n y None e = cc
own_some n y (Some x) e =
    elim (owns (job n.case) (nodes n.case) n.node x.itag) as (λ t. owns (job n.case) (nodes n.case) n.node x.itag ≡ t → cond t (Some x) None ≡ Some y
    → (Some x ≡ Some y) × (own_of n y.itag.0 ≡ true)) [
      | true ↦ λ mine f. (f, ap (λ (a : Ask). own_of n a.itag.0) (sym (some_ask f)) ∙ mine)
      | false ↦ λ mine f. absurd (nothing f)
    ] refl e
  where
    nothing : {x : Ask} → None ≡ Some x → ⊥
    nothing e = cc

-- the lot is as the event needs it
pub record Aims (n : WorkerNote) (lot : Lot) (y : Ask) : Type 0 where
  pub target : IsTarget n.case n.node n.counts lot.upto y
  pub served : Served n.case n.node n.held y lot

module _ (laws : LawsBelow) (n : WorkerNote) (there : n.node < length (nodes n.case)) (lot : Lot) (h : HoldsWhole n lot) where
  aims_at_leaf : kids n.case n.node ≡ None → (y : Ask) → IsTarget n.case n.node n.counts lot.upto y → Aims n lot y
  aims_at_leaf leaf y t = record { target = t; served = leaf_served laws n.case n.node there n.counts n.held lot h.fits h.since h.agrees y t leaf }

  aims_at_kept : (y : Ask) → n.kept ≡ Some y → Aims n lot y
  aims_at_kept y kept = record { target = h.target y kept; served = h.served y kept }

  -- ---- give
  module _ (y : Ask) (may : may_give n y ≡ true) where
    give_above : above_of n y.itag.0 ≡ true
    give_above = and_left (above_of n y.itag.0) _ (and_left (above_of n y.itag.0 && (y.index == slice_index n.held.upto y.itag.0)) _ may)

    give_index : y.index ≡ slice_index n.held.upto y.itag.0
    give_index = true_eq y.index _ (and_right (above_of n y.itag.0) _ (and_left (above_of n y.itag.0 && (y.index == slice_index n.held.upto y.itag.0)) _ may))

    gives : gives_by (sight n) n.hand n.kept y ≡ true
    gives = and_right (above_of n y.itag.0 && (y.index == slice_index n.held.upto y.itag.0)) _ may

    pub give_hand : is_whole n.hand ≡ true
    give_hand = and_left (is_whole n.hand) _ gives

    give_last : cond (is_none (kids n.case n.node)) (serves (sight n) (event_of n.case y)) (is_same_ask y n.kept) ≡ true
    give_last = and_right (is_whole n.hand) _ gives

    asks_above : serves (sight n) (event_of n.case y) ≡ true → AsksAbove n.case n.node y
    asks_above ready = by_event (event_of n.case y) refl ready
      where
        by_event : (o : Option Rattle.flu_model.specs.declared.events.Event.Event) → event_of n.case y ≡ o → serves (sight n) o ≡ true
            → AsksAbove n.case n.node y
        by_event None e f = cc
        by_event (Some x) e f = record { known = known_at laws n.case y.itag.0 y.index x e; above = give_above; there = slice_get_within _ y.index x e }

    pub give_aims : Aims n lot y
    give_aims = elim (cases_Bool (is_none (kids n.case n.node))) [
      | inl leaf ↦
          (let ready = sym (cond_true (is_none (kids n.case n.node)) (serves (sight n) (event_of n.case y)) (is_same_ask y n.kept) leaf) ∙ give_last in
          aims_at_leaf (no_kids _ leaf) y (serving_target laws (sight n) n.held.upto lot.upto h.agrees y (asks_above ready) give_index ready))
      | inr inner ↦
          aims_at_kept y (same_ask y n.kept
          (sym (cond_false (is_none (kids n.case n.node)) (serves (sight n) (event_of n.case y)) (is_same_ask y n.kept) inner) ∙ give_last))
    ]

  -- ---- handle
  module _ (y : Ask) (next : next_of n ≡ Some y) where
    both_parts : (b : Bool) (o : Option Ask) → cond b o None ≡ Some y → (b ≡ true) × (o ≡ Some y)
    both_parts true o e = (refl, e)
    both_parts false o e = cc

    pub next_hand : is_whole n.hand ≡ true
    next_hand = (both_parts (is_whole n.hand) _ next).0

    pub next_aims : Aims n lot y × (own_of n y.itag.0 ≡ true)
    next_aims =
        elim (is_none (kids n.case n.node)) as (λ t. is_none (kids n.case n.node) ≡ t
        → cond t (ask_for (sight n) (least_ready (sight n))) (if_own (sight n) n.kept) ≡ Some y → Aims n lot y × (own_of n y.itag.0 ≡ true)) [
          | true ↦ λ leaf e. (let t = leaf_target laws (sight n) n.held.upto lot.upto h.agrees y e in (aims_at_leaf (no_kids _ leaf) y t.0, t.1))
          | false ↦ λ inner e. (let o = own_some n y n.kept e in (aims_at_kept y o.0, o.1))
        ] refl (both_parts (is_whole n.hand) _ next).1

    pub next_exact : IsExactFor n.case n.node lot.upto y next_aims.0.target.event
    next_exact = let a = next_aims in target_exact laws n.case n.node there n.counts n.held lot h.fits h.since h.agrees y a.0.target a.0.served a.1
