-- One worker and the edges that it touches become others: the rule holds of the rest as before.
use Rattle.std.proofs.Common.{◌≡◌, ◌≢◌, ◌⊎◌, ◌<◌, ℕ, Some, List, length, set, inl, inr, sym, ap, subst, ◌∙◌, arith}
use Rattle.std.specs.Prelude.{slice_get}
use Rattle.std.proofs.lemmas.Bool.{cases_eq}
use Rattle.std.proofs.lemmas.Option.{slice_get_within, same_Some}
use Rattle.std.proofs.lemmas.List.{length-set}
use Rattle.flu_lemmas.proofs.Replaced.{slice_get-set_other}
use Rattle.flu_model.specs.Owners.{parent_of}
use Rattle.flu_deps.specs.Trees.{IsUnder, AreKids}
use Rattle.flu_fork.specs.declared.content.Content.{Content}
use Rattle.flu_fork.specs.Lots.{nodes, kids}
use Rattle.flu_fork.specs.Serving.{none_counted}
use Rattle.flu_worker.specs.declared.hand.Side.{Side}
use Rattle.flu_worker.specs.declared.hand.Side.TheVariants.{Left, Right}
use Rattle.flu_worker.specs.Calls.{IsSamePlace}
use Rattle.flu_worker.specs.Hands.{at_side}
use Rattle.flu_worker.specs.Notes.{WorkerNote}
use Rattle.flu_worker.specs.Turning.{other}
use Rattle.flu_net.specs.declared.edges.Edge.{Edge}
use Rattle.flu_net.specs.declared.edges.Edge.TheVariants.{Home}
use Rattle.flu_net.specs.LawsBelow.{LawsBelow}
use Rattle.flu_net.specs.Rule.{Hangs, Lets, IsPlaced, Ties}
use Rattle.flu_net.specs.Stays.{IsKid}
use Rattle.flu_net.proofs.Lists.{set_is}

module _ (laws : LawsBelow) (k : Content) where
  -- ---- children
  are_kids : (w l r : ℕ) → kids k w ≡ Some (l, r) → AreKids (nodes k) w l r
  are_kids w l r e = laws.children (nodes k) w l r (laws.settings k).one_tree e

  pub under : (s : Side) (w l r : ℕ) → kids k w ≡ Some (l, r) → IsUnder (nodes k) w (at_side s l r)
  under Left w l r e = (are_kids w l r e).left_under
  under Right w l r e = (are_kids w l r e).right_under

  pub one_parent : (s t : Side) (u w l r a b : ℕ) → kids k u ≡ Some (l, r) → kids k w ≡ Some (a, b) → at_side s l r ≡ at_side t a b → u ≡ w
  one_parent s t u w l r a b e f same =
      let p : Some u ≡ Some w = sym (under s u l r e).parent ∙ ap (λ v. parent_of (nodes k) v) same ∙ (under t w a b f).parent in
      same_Some u w p

  pub kids_differ : (s : Side) (w l r : ℕ) → kids k w ≡ Some (l, r) → at_side (other s) l r ≢ at_side s l r
  kids_differ Left w l r e = let lt = (are_kids w l r e).in_order in λ same. omega arith
  kids_differ Right w l r e = let lt = (are_kids w l r e).in_order in λ same. omega arith

  module _ (seen : List ℕ) (ws : List WorkerNote) (es : List Edge) (ties : Ties k seen ws es) (w : ℕ) (n m : WorkerNote) (es' : List Edge) (v : ℕ) where
    -- worker w is m now, and edge v, which is its own or that to a child, another
    pub record Changes : Type 0 where
      pub at : slice_get ws w ≡ Some n
      pub long : length es' ≡ length es
      pub others : (j : ℕ) → j ≢ v → slice_get es' j ≡ slice_get es j
      pub near : (v ≡ w) ⊎ IsKid k w v
      pub place : IsSamePlace n m
      pub top : slice_get es' 0 ≡ Some Home
      pub root : w ≡ 0 → m.held ≡ n.held
      pub hangs : (e : Edge) → 0 < w → slice_get es' w ≡ Some e → Hangs m e
      pub above : (s : Side) (u l r : ℕ) (p : WorkerNote) (e : Edge) → kids k u ≡ Some (l, r) → at_side s l r ≡ w → slice_get ws u ≡ Some p
          → slice_get es' w ≡ Some e → Lets s p e m
      pub below : (s : Side) (l r : ℕ) (c : WorkerNote) (e : Edge) → kids k w ≡ Some (l, r) → slice_get ws (at_side s l r) ≡ Some c
          → slice_get es' (at_side s l r) ≡ Some e
          → Hangs c e × Lets s m e c

    module _ (x : Changes) where
      within : w < length ws
      within = slice_get_within ws w n x.at

      there : (j : ℕ) (p : WorkerNote) → j ≢ w → slice_get (set ws w m) j ≡ Some p → slice_get ws j ≡ Some p
      there j p apart e = sym (slice_get-set_other ws w j m apart) ∙ e

      placed : (j : ℕ) (p : WorkerNote) → slice_get (set ws w m) j ≡ Some p → IsPlaced k seen j p
      placed j p e = elim (cases_eq j w) as (λ _. IsPlaced k seen j p) [
        | inl same ↦
            let was = ties.placed w n x.at in
            subst (IsPlaced k seen j) (set_is ws w m p within (sym (ap (slice_get (set ws w m)) same) ∙ e)) (record {
              case = x.place.case ∙ was.case;
              node = x.place.node ∙ was.node ∙ sym same;
              sees = x.place.seen ∙ was.sees;
            })
        | inr apart ↦ ties.placed j p (there j p apart e)
      ]

      rooted : (p : WorkerNote) → slice_get (set ws w m) 0 ≡ Some p → p.held ≡ none_counted k
      rooted p e = elim (cases_eq 0 w) as (λ _. p.held ≡ none_counted k) [
        | inl same ↦
            ap (λ (q : WorkerNote). q.held) (sym (set_is ws w m p within (sym (ap (slice_get (set ws w m)) same) ∙ e))) ∙ x.root (sym same)
            ∙ ties.root n (ap (slice_get ws) same ∙ x.at)
        | inr apart ↦ ties.root p (there 0 p apart e)
      ]

      hang : (j : ℕ) (p : WorkerNote) (e : Edge) → 0 < j → slice_get (set ws w m) j ≡ Some p → slice_get es' j ≡ Some e → Hangs p e
      hang j p e some a b = elim (cases_eq j w) as (λ _. Hangs p e) [
        | inl same ↦
            subst (λ (q : WorkerNote). Hangs q e) (set_is ws w m p within (sym (ap (slice_get (set ws w m)) same) ∙ a))
            (x.hangs e (subst (λ i. 0 < i) same some) (sym (ap (slice_get es') same) ∙ b))
        | inr apart ↦ elim (cases_eq j v) as (λ _. Hangs p e) [
          | inl changed ↦ elim x.near as (λ _. Hangs p e) [
            | inl own ↦ absurd (apart (changed ∙ own))
            | inr kid ↦
                let same : j ≡ at_side kid.side kid.left kid.right = changed ∙ kid.is in
                (x.below kid.side kid.left kid.right p e kid.are (sym (ap (slice_get ws) same) ∙ there j p apart a) (sym (ap (slice_get es') same) ∙ b)).0
          ]
          | inr still ↦ ties.hangs j p e some (there j p apart a) (sym (x.others j still) ∙ b)
        ]
      ]

      lends : (s : Side) (u l r : ℕ) (p c : WorkerNote) (e : Edge) → kids k u ≡ Some (l, r) → slice_get (set ws w m) u ≡ Some p
          → slice_get es' (at_side s l r) ≡ Some e
          → slice_get (set ws w m) (at_side s l r) ≡ Some c → Lets s p e c
      lends s u l r p c e are a b d =
          let later = (under s u l r are).earlier in
          elim (cases_eq u w) as (λ _. Lets s p e c) [
            | inl same ↦
                let apart : at_side s l r ≢ w = λ (t : at_side s l r ≡ w). omega arith in
                subst (λ (q : WorkerNote). Lets s q e c) (set_is ws w m p within (sym (ap (slice_get (set ws w m)) same) ∙ a))
                (x.below s l r c e (sym (ap (kids k) same) ∙ are) (there (at_side s l r) c apart d) b).1
            | inr apart ↦ elim (cases_eq (at_side s l r) w) as (λ _. Lets s p e c) [
              | inl same ↦
                  subst (Lets s p e) (set_is ws w m c within (sym (ap (slice_get (set ws w m)) same) ∙ d))
                  (x.above s u l r p e are same (there u p apart a) (sym (ap (slice_get es') same) ∙ b))
              | inr off ↦ elim (cases_eq (at_side s l r) v) as (λ _. Lets s p e c) [
                | inl changed ↦ elim x.near as (λ _. Lets s p e c) [
                  | inl own ↦ absurd (off (changed ∙ own))
                  | inr kid ↦ absurd (apart (one_parent s kid.side u w l r kid.left kid.right are kid.are (changed ∙ kid.is)))
                ]
                | inr still ↦ ties.lets s u l r p c e are (there u p apart a) (sym (x.others (at_side s l r) still) ∙ b) (there (at_side s l r) c off d)
              ]
            ]
          ]

      pub frame : Ties k seen (set ws w m) es'
      frame = record {
        workers_each = length-set ws w m ∙ ties.workers_each;
        edges_each = x.long ∙ ties.edges_each;
        placed = placed;
        top = x.top;
        root = rooted;
        hangs = hang;
        lets = lends;
      }
