-- What a worker takes next is the least own event that is ready, and its lot is exact for it.
use Rattle.std.proofs.Common.{◌≡◌, true, false, cond, Option, Some, None, refl, sym, ap, subst, ◌∙◌, arith}
use Rattle.std.specs.Prelude.{is_none, IsSome}
use Rattle.std.proofs.lemmas.Grind.{common_steps}
use Rattle.flu_lemmas.proofs.Options.{pair_there}
use Rattle.flu_model.specs.declared.events.Event.{Event}
use Rattle.flu_model.specs.Merging.{is_before}
use Rattle.flu_model.specs.Owners.{owns}
use Rattle.flu_fork.specs.declared.lots.Ask.{Ask}
use Rattle.flu_fork.specs.Lots.{job, nodes, kids}
use Rattle.flu_worker.specs.declared.hand.Hand.{Hand}
use Rattle.flu_worker.specs.declared.hand.Hand.TheVariants.{Whole}
use Rattle.flu_worker.specs.declared.holding.Holding.{Holding}
use Rattle.flu_worker.specs.declared.holding.Holding.TheVariants.{Empty as NoLot, Whole as WholeLot, LendingBoth, LendingLeft}
use Rattle.flu_worker.specs.declared.holding.Holding.TheVariants.{LendingRight, Down as BothOut, TakingLeft, TakingRight, Gone}
use Rattle.flu_worker.specs.Choosing.{Sight, sight, next_at, own_itags, if_ready, least_ready, ask_for, if_own, next_of}
use Rattle.flu_worker.specs.Hands.{is_whole}
use Rattle.flu_worker.specs.Holding.{hand_of}
use Rattle.flu_worker.specs.LawsBelow.{LawsBelow}
use Rattle.flu_worker.specs.Next.{IsReadyOwn, IsLeastReady, IsLeast, IsExactInHand}
use Rattle.flu_worker.specs.Next.{LeastIsOne, LeavesTakeTheLeast, LeavesTakeNothing, OthersTakeTheTarget, TargetsAreFirst, NothingWithoutTheLot, NextIsExact}
use Rattle.flu_worker.specs.Notes.{WorkerNote}
use Rattle.flu_worker.specs.Rule.{Holds}
use Rattle.flu_worker.proofs.Aiming.{ready_found, some_ask, some_event}
use Rattle.flu_worker.proofs.EarliestLemmas.{NotBefore, none_before, where_all}
use Rattle.flu_worker.proofs.Serving.{hand_whole, next_aims, next_exact, own_some, whole_next}

-- of two events of which neither is before the other, the itags are the same
pub same_itag : (x y : Event) → is_before x y ≡ false → is_before y x ≡ false → x.itag.0 ≡ y.itag.0
same_itag x y a b = grind (arith, common_steps)

pub least_one : LeastIsOne
least_one s x y a b =
    let itags : x.itag ≡ y.itag = λ j. record { 0 = same_itag x y (b.least x a.is) (a.least y b.is) j } in
    some_event (sym a.is.next ∙ ap (next_at s) itags ∙ b.is.next)

module _ (laws : LawsBelow) (s : Sight) where
  if_is : (x : Event) → IsReadyOwn s x → if_ready s (next_at s x.itag) ≡ Some x
  if_is x r = ap (if_ready s) r.next ∙ ap (λ t. cond t (Some x) None) r.ready

  -- no own event that is ready is before the one that is found
  none_first : (x : Event) → IsReadyOwn s x → NotBefore x (least_ready s)
  none_first x r =
      where_all (job s.case) (owns (job s.case) (nodes s.case) s.node) (λ i. (y : Event) → if_ready s (next_at s i) ≡ Some y → NotBefore y (least_ready s))
      (none_before (λ i. if_ready s (next_at s i)) (own_itags s.case s.node)) x.itag r.known r.own x (if_is x r)

  least_is : (x : Event) → least_ready s ≡ Some x → IsLeastReady s x
  least_is x e = record { is = ready_found laws s x e; least = λ y r. subst (NotBefore y) e (none_first y r) }

  found_is_least : (x : Event) → IsLeastReady s x → least_ready s ≡ Some x
  found_is_least x l = by_found (least_ready s) refl
    where
      by_found : (o : Option Event) → least_ready s ≡ o → o ≡ Some x
      by_found None e = absurd (subst (NotBefore x) e (none_first x l.is))
      by_found (Some z) e = ap (λ (y : Event). Some y) (least_one s z x (least_is z e) l)

  ask_is_least : (a : Ask) → ask_for s (least_ready s) ≡ Some a → IsLeast s a
  ask_is_least a e = by_found (least_ready s) refl e
    where
      by_found : (o : Option Event) → least_ready s ≡ o → ask_for s o ≡ Some a → IsLeast s a
      by_found None f g = cc
      by_found (Some x) f g = record { event = x; is = least_is x f; name = sym (some_ask g) }

  least_is_ask : (a : Ask) → IsLeast s a → ask_for s (least_ready s) ≡ Some a
  least_is_ask a l = ap (ask_for s) (found_is_least l.event l.is) ∙ ap (λ (y : Ask). Some y) (sym l.name)

  none_is_ready : ask_for s (least_ready s) ≡ None → (x : Event) → IsReadyOwn s x → ⊥
  none_is_ready e x r = by_found (least_ready s) refl e
    where
      by_found : (o : Option Event) → least_ready s ≡ o → ask_for s o ≡ None → ⊥
      by_found None f g = subst (NotBefore x) f (none_first x r)
      by_found (Some z) f g = cc

  ready_is_none : ((x : Event) → IsReadyOwn s x → ⊥) → ask_for s (least_ready s) ≡ None
  ready_is_none none = by_found (least_ready s) refl
    where
      by_found : (o : Option Event) → least_ready s ≡ o → ask_for s o ≡ None
      by_found None f = refl
      by_found (Some z) f = absurd (none z (ready_found laws s z f))

-- ---- by the hand and the node
at_leaf : (n : WorkerNote) → n.hand ≡ Whole → kids n.case n.node ≡ None → next_of n ≡ ask_for (sight n) (least_ready (sight n))
at_leaf n whole leaf =
    ap (λ (h : Hand). cond (is_whole h) (cond (is_none (kids n.case n.node)) (ask_for (sight n) (least_ready (sight n))) (if_own (sight n) n.kept)) None) whole
    ∙ ap (λ o. cond (is_none o) (ask_for (sight n) (least_ready (sight n))) (if_own (sight n) n.kept)) leaf

at_inner : (n : WorkerNote) → n.hand ≡ Whole → IsSome (kids n.case n.node) → next_of n ≡ if_own (sight n) n.kept
at_inner n whole inner =
    let pair = pair_there (kids n.case n.node) inner in
    ap (λ (h : Hand). cond (is_whole h) (cond (is_none (kids n.case n.node)) (ask_for (sight n) (least_ready (sight n))) (if_own (sight n) n.kept)) None) whole
    ∙ ap (λ o. cond (is_none o) (ask_for (sight n) (least_ready (sight n))) (if_own (sight n) n.kept)) pair.2

pub leaves_take : LawsBelow → LeavesTakeTheLeast
leaves_take laws n a whole leaf =
    let is = at_leaf n whole leaf in
    (λ e. ask_is_least laws (sight n) a (sym is ∙ e), λ l. is ∙ least_is_ask laws (sight n) a l)

pub leaves_take_nothing : LawsBelow → LeavesTakeNothing
leaves_take_nothing laws n whole leaf =
    let is = at_leaf n whole leaf in
    (λ e. none_is_ready laws (sight n) (sym is ∙ e), λ none. is ∙ ready_is_none laws (sight n) none)

pub others_take : OthersTakeTheTarget
others_take n a whole inner =
    let is = at_inner n whole inner in (
      λ e. own_some n a n.kept (sym is ∙ e),
      λ t. is ∙ ap (if_own (sight n)) t.0 ∙ ap (λ b. cond b (Some a) None) t.1,
    )

pub targets_first : TargetsAreFirst
targets_first n a rule inner next =
    let t = (others_take n a (hand_whole n.hand (whole_next n a next)) inner).0 next in
    let target = rule.target a t.0 in
    record { event = target.event; is = target.is; own = target.first_own inner; above = target.first_above inner t.1 }

pub nothing_without : NothingWithoutTheLot
nothing_without n not_whole =
    ap (λ b. cond b (cond (is_none (kids n.case n.node)) (ask_for (sight n) (least_ready (sight n))) (if_own (sight n) n.kept)) None) not_whole

pub next_is_exact : LawsBelow → NextIsExact
next_is_exact laws n a rule next = by_holding n.holding refl rule.holds (sym (ap is_whole rule.shape) ∙ whole_next n a next)
  where
    by_holding : (h : Holding) → n.holding ≡ h → Holds n h → is_whole (hand_of h) ≡ true → IsExactInHand n a
    by_holding NoLot e holds whole = cc
    by_holding (WholeLot lot) e holds whole = record {
      lot = lot;
      here = e;
      event = (next_aims laws n rule.there lot holds a next).0.target.event;
      exact = next_exact laws n rule.there lot holds a next;
    }
    by_holding (LendingBoth a b) e holds whole = cc
    by_holding (LendingLeft a) e holds whole = cc
    by_holding (LendingRight b) e holds whole = cc
    by_holding BothOut e holds whole = cc
    by_holding (TakingLeft a) e holds whole = cc
    by_holding (TakingRight b) e holds whole = cc
    by_holding Gone e holds whole = cc
