-- Nets that the same steps came to are alike.
use Rattle.std.proofs.Common.{◌≡◌, ◌⊎◌, ◌<◌, ◌≤◌, ◌+◌, ℕ, zero, suc, Bool, true, cond, Option, Some, None, List, [], ◌∷◌, length, map, set}
use Rattle.std.proofs.Common.{inl, inr, refl, sym, ap, subst, ◌∙◌, arith}
use Rattle.std.specs.Prelude.{◌&&◌, ◌||◌, ◌==◌, filter, nat_lt, is_none, is_some, not, slice_get, slice_index, slice_index_or}
use Rattle.std.specs.List.{list_all, range_with_len}
use Rattle.std.proofs.lemmas.Bool.{cases_Bool, cases_eq, cases_lt, or_cases}
use Rattle.std.proofs.lemmas.List.{length-map, length-set}
use Rattle.std.proofs.lemmas.Option.{slice_get_within, same_Some}
use Rattle.flu_lemmas.proofs.Places.{slice_get-there}
use Rattle.flu_lemmas.proofs.Replaced.{slice_get-set_other}
use Rattle.flu_model.specs.declared.events.Event.{Event}
use Rattle.flu_model.specs.declared.events.Itag.{Itag}
use Rattle.flu_model.specs.Itags.{count_of_itags}
use Rattle.flu_model.specs.Merging.{events_of}
use Rattle.flu_mail.specs.Passing.{seen_items, next_event, passes}
use Rattle.flu_fork.specs.declared.content.Content.{Content}
use Rattle.flu_fork.specs.declared.lots.Ask.{Ask}
use Rattle.flu_fork.specs.declared.lots.Lot.{Lot}
use Rattle.flu_fork.specs.Classes.{itag, own, above}
use Rattle.flu_fork.specs.Laws.{no_counts}
use Rattle.flu_deps.specs.Owned.{kids_at}
use Rattle.flu_fork.specs.Lots.{job, nodes, kids, setting_of}
use Rattle.flu_fork.specs.Settings.{events_at}
use Rattle.flu_fork.specs.Serving.{LotCounts}
use Rattle.flu_worker.specs.declared.hand.Hand.{Hand}
use Rattle.flu_worker.specs.declared.hand.Side.{Side}
use Rattle.flu_worker.specs.declared.hand.Side.TheVariants.{Left, Right}
use Rattle.flu_worker.specs.Calls.{start_hand}
use Rattle.flu_worker.specs.Choosing.{Sight, sight, ask_for, earliest, event_of, first_some, gives_by, if_own, if_ready, if_serves, is_same_ask, least_next}
use Rattle.flu_worker.specs.Choosing.{least_ready, may_give, new_target, next_at, next_by, next_of, own_itags, serves, target_by, target_of}
use Rattle.flu_worker.specs.Hands.{after_lend, after_take, at_side, first_hand, is_down, is_whole, may_lend, may_take}
use Rattle.flu_worker.specs.Notes.{WorkerNote, above_of, own_of}
use Rattle.flu_net.specs.declared.edges.Edge.{Edge}
use Rattle.flu_net.specs.declared.edges.Edge.TheVariants.{Home, Lent, Held, Asked, Given}
use Rattle.flu_net.specs.declared.steps.Step.{Step}
use Rattle.flu_net.specs.declared.steps.Step.TheVariants.{Arrive, Handle, Ask as AskStep, Take, Give, Hold, Lend}
use Rattle.flu_net.specs.Alike.{View, view_in, AgreeAbove, AreAlikeAt, AreAlikeOver, AreAlike, StartsAreAlike, AlikeAreEnabled, AlikeAreFinal, StepsKeepAlike}
use Rattle.flu_net.specs.Effects.{IsStepOf, Handles, Asks, Takes, Gives, Holds, Lends, arrived, seeing}
use Rattle.flu_net.specs.Enabled.{by_step, gives_for, if_there, is_enabled, is_given, is_held, is_lent}
use Rattle.flu_net.specs.LawsBelow.{LawsBelow}
use Rattle.flu_net.specs.Notes.{NetNote, asked_of, asked_over, edge_at, edge_below, kid_of, side_of}
use Rattle.flu_net.proofs.Arriving.{mapped_from}
use Rattle.flu_net.proofs.Lists.{set_is}
use Rattle.flu_net.proofs.Readying.{kid_pair}

-- ---- lists
same_lists : (xs ys : List ℕ) → length xs ≡ length ys → ((i : ℕ) → i < length xs → slice_index xs i ≡ slice_index ys i) → xs ≡ ys
same_lists [] [] e f = refl
same_lists [] (y ∷ ys) e f = absurd (omega arith)
same_lists (x ∷ xs) [] e f = absurd (omega arith)
same_lists (x ∷ xs) (y ∷ ys) e f =
    let head : x ≡ y = f 0 (omega arith) in
    let rest : xs ≡ ys = same_lists xs ys (omega arith) (λ i lt. f (suc i) (omega arith)) in
    λ j. head j ∷ rest j

get_past : {X : Type 0} (xs : List X) (i : ℕ) → length xs ≤ i → slice_get xs i ≡ None
get_past [] i le = refl
get_past (x ∷ xs) zero le = absurd (omega arith)
get_past (x ∷ xs) (suc i) le = get_past xs i (omega arith)

-- two lists of one length have both an item at a place, or none has
data Both {X : Type 0} (xs ys : List X) (i : ℕ) : Type 0 where
  none : slice_get xs i ≡ None → slice_get ys i ≡ None → Both xs ys i
  some : (a b : X) → slice_get xs i ≡ Some a → slice_get ys i ≡ Some b → Both xs ys i

both_at : {X : Type 0} (xs ys : List X) (i : ℕ) → length xs ≡ length ys → Both xs ys i
both_at xs ys i long = elim (cases_lt i (length xs)) [
  | inl lt ↦
      let a = slice_get-there xs i lt in
      let b = slice_get-there ys i (omega arith) in
      some a.0 b.0 a.1 b.1
  | inr ge ↦ none (get_past xs i ge) (get_past ys i (omega arith))
]

-- what tests say of both is the same
by_both : {X R : Type 0} (f g : Option X → R) (xs ys : List X) (i : ℕ) → length xs ≡ length ys → f None ≡ g None
    → ((a b : X) → slice_get xs i ≡ Some a → slice_get ys i ≡ Some b → f (Some a) ≡ g (Some b)) → f (slice_get xs i) ≡ g (slice_get ys i)
by_both f g xs ys i long nothing both = elim (both_at xs ys i long) as (λ _. f (slice_get xs i) ≡ g (slice_get ys i)) [
  | none a b ↦ ap f a ∙ nothing ∙ sym (ap g b)
  | some a b ea eb ↦ ap f ea ∙ both a b ea eb ∙ sym (ap g eb)
]

-- ---- edges
alike_edges : (k : View) (w : ℕ) (P : Edge → Edge → Type 0) → P Home Home → ((x y : Lot) → AgreeAbove k w x.upto y.upto → P (Lent x) (Lent y)) → P Held Held
    → ((x y : Ask) → x ≡ y → x.itag.0 < k.count → P (Asked x) (Asked y)) → ((x y : Lot) → P (Given x) (Given y))
    → (a b : Edge) → AreAlikeOver k w a b → P a b
alike_edges k w P home lent held asked given Home Home t = home
alike_edges k w P home lent held asked given Home (Lent b) t = absurd t
alike_edges k w P home lent held asked given Home Held t = absurd t
alike_edges k w P home lent held asked given Home (Asked y) t = absurd t
alike_edges k w P home lent held asked given Home (Given b) t = absurd t
alike_edges k w P home lent held asked given (Lent a) Home t = absurd t
alike_edges k w P home lent held asked given (Lent a) (Lent b) t = lent a b t
alike_edges k w P home lent held asked given (Lent a) Held t = absurd t
alike_edges k w P home lent held asked given (Lent a) (Asked y) t = absurd t
alike_edges k w P home lent held asked given (Lent a) (Given b) t = absurd t
alike_edges k w P home lent held asked given Held Home t = absurd t
alike_edges k w P home lent held asked given Held (Lent b) t = absurd t
alike_edges k w P home lent held asked given Held Held t = held
alike_edges k w P home lent held asked given Held (Asked y) t = absurd t
alike_edges k w P home lent held asked given Held (Given b) t = absurd t
alike_edges k w P home lent held asked given (Asked x) Home t = absurd t
alike_edges k w P home lent held asked given (Asked x) (Lent b) t = absurd t
alike_edges k w P home lent held asked given (Asked x) Held t = absurd t
alike_edges k w P home lent held asked given (Asked x) (Asked y) t = asked x y t.0 t.1
alike_edges k w P home lent held asked given (Asked x) (Given b) t = absurd t
alike_edges k w P home lent held asked given (Given a) Home t = absurd t
alike_edges k w P home lent held asked given (Given a) (Lent b) t = absurd t
alike_edges k w P home lent held asked given (Given a) Held t = absurd t
alike_edges k w P home lent held asked given (Given a) (Asked y) t = absurd t
alike_edges k w P home lent held asked given (Given a) (Given b) t = given a b

-- ---- what a worker chooses, by its setting
module _ (a b : Sight) (same : view_in a.case ≡ view_in b.case) (node : a.node ≡ b.node) (seen : a.seen ≡ b.seen) (counts : a.counts ≡ b.counts) where
  next_at_same : (i : Itag) → next_at a i ≡ next_at b i
  next_at_same i = λ j. next_event (seen_items (same j).lists (seen j) i.0) (slice_index (counts j) i.0)

  ready_same : (o : Option Event) → if_ready a o ≡ if_ready b o
  ready_same None = refl
  ready_same (Some x) =
      ap (λ (t : Bool). cond t (Some x) None) (λ j. list_all
      (λ i. not (not (i == x.itag.0) && ((same j).owned (node j) i || (same j).higher (node j) i)
      && (not (is_none (kids_at (same j).nodes (node j))) || (same j).tied x.itag.0 i))
      || passes (seen_items (same j).lists (seen j) i) (slice_index (counts j) i) x) (range_with_len 0 (same j).count))

  own_same : own_itags a.case a.node ≡ own_itags b.case b.node
  own_same = λ j. filter (λ (i : Itag). (same j).owned (node j) i.0) (map itag (range_with_len 0 (same j).count))

  least_ready_same : least_ready a ≡ least_ready b
  least_ready_same =
      let each : (i : Itag) → if_ready a (next_at a i) ≡ if_ready b (next_at b i) = λ i. ready_same (next_at a i) ∙ ap (if_ready b) (next_at_same i) in
      λ j. earliest (λ i. each i j) (own_same j)

  least_next_same : least_next a ≡ least_next b
  least_next_same = λ j. earliest (λ i. next_at_same i j) (own_same j)

  ask_same : (x y : Option Event) → x ≡ y → ask_for a x ≡ ask_for b y
  ask_same x y e = ap (ask_for a) e ∙ by_event y
    where
      by_event : (o : Option Event) → ask_for a o ≡ ask_for b o
      by_event None = refl
      by_event (Some z) = λ j. Some (record { itag = z.itag; index = slice_index (counts j) z.itag.0 })

  if_own_same : (o : Option Ask) → if_own a o ≡ if_own b o
  if_own_same None = refl
  if_own_same (Some y) = ap (λ (t : Bool). cond t (Some y) None) (λ j. (same j).owned (node j) y.itag.0)

  serves_same : (y : Ask) → serves a (event_of a.case y) ≡ serves b (event_of b.case y)
  serves_same y = by_event (event_of a.case y) ∙ ap (serves b) (λ j. slice_get (events_of (slice_index_or (same j).lists y.itag.0 [])) y.index)
    where
      by_event : (o : Option Event) → serves a o ≡ serves b o
      by_event None = refl
      by_event (Some x) = λ j. list_all
          (λ i. not ((same j).owned (node j) i && (not (is_none (kids_at (same j).nodes (node j))) || (same j).tied x.itag.0 i))
          || passes (seen_items (same j).lists (seen j) i) (slice_index (counts j) i) x) (range_with_len 0 (same j).count)

  if_serves_same : (o : Option Ask) → if_serves a o ≡ if_serves b o
  if_serves_same None = refl
  if_serves_same (Some y) = ap (λ (t : Bool). cond t (Some y) None) (serves_same y)

  leaf_same : is_none (kids a.case a.node) ≡ is_none (kids b.case b.node)
  leaf_same = λ j. is_none (kids_at (same j).nodes (node j))

  next_by_same : (h g : Hand) (x y : Option Ask) → h ≡ g → x ≡ y → next_by a h x ≡ next_by b g y
  next_by_same h g x y eh ex =
      let ready = ask_same (least_ready a) (least_ready b) least_ready_same in
      let mine : if_own a x ≡ if_own b y = if_own_same x ∙ ap (if_own b) ex in
      λ j. cond (is_whole (eh j)) (cond (leaf_same j) (ready j) (mine j)) None

  new_target_same : (x y : Option Ask) → x ≡ y → new_target a x ≡ new_target b y
  new_target_same x y e =
      let mine = ask_same (if_ready a (least_next a)) (if_ready b (least_next b)) (ready_same (least_next a) ∙ ap (if_ready b) least_next_same) in
      let asked : if_serves a x ≡ if_serves b y = if_serves_same x ∙ ap (if_serves b) e in
      λ j. first_some (mine j) (asked j)

  target_by_same : (h g : Hand) (p q x y : Option Ask) → h ≡ g → p ≡ q → x ≡ y → target_by a h p x ≡ target_by b g q y
  target_by_same h g p q x y eh ep ex =
      let target = new_target_same x y ex in
      λ j. first_some (ep j) (cond (is_down (eh j)) (target j) None)

  gives_by_same : (h g : Hand) (p q : Option Ask) (y : Ask) → h ≡ g → p ≡ q → gives_by a h p y ≡ gives_by b g q y
  gives_by_same h g p q y eh ep =
      let serve = serves_same y in
      λ j. is_whole (eh j) && cond (leaf_same j) (serve j) (is_same_ask y (ep j))

-- ---- workers
module _ (k : View) (w : ℕ) (a b : WorkerNote) (t : AreAlikeAt k w a b) where
  pub case_is : view_in a.case ≡ view_in b.case
  case_is = t.case ∙ sym t.same_case

  pub node_is : a.node ≡ b.node
  node_is = t.node ∙ sym t.same_node

  pub next_same : next_of a ≡ next_of b
  next_same = next_by_same (sight a) (sight b) case_is node_is t.seen t.counts a.hand b.hand a.kept b.kept t.hand t.kept

  pub target_same : (x y : Option Ask) → x ≡ y → target_of a x ≡ target_of b y
  target_same x y e = target_by_same (sight a) (sight b) case_is node_is t.seen t.counts a.hand b.hand a.kept b.kept x y t.hand t.kept e

  pub above_same : (i : ℕ) → above_of a i ≡ above_of b i
  above_same i = λ j. (case_is j).higher (node_is j) i

  pub above_here : (i : ℕ) → above_of a i ≡ true → k.higher w i ≡ true
  above_here i e = sym (λ j. (t.case j).higher (t.node j) i) ∙ e

  pub gives_same : (y : Ask) → y.itag.0 < k.count → may_give a y ≡ may_give b y
  gives_same y lt = elim (cases_Bool (above_of a y.itag.0)) [
    | inl over ↦
        let upto = t.held y.itag.0 lt (above_here y.itag.0 over) in
        let same = above_same y.itag.0 in
        let gives = gives_by_same (sight a) (sight b) case_is node_is t.seen t.counts a.hand b.hand a.kept b.kept y t.hand t.kept in
        λ j. same j && (y.index == upto j) && gives j
    | inr not_over ↦
        ap (λ c. c && (y.index == slice_index a.held.upto y.itag.0) && gives_by (sight a) a.hand a.kept y) not_over
        ∙ sym (ap (λ c. c && (y.index == slice_index b.held.upto y.itag.0) && gives_by (sight b) b.hand b.kept y) (sym (above_same y.itag.0) ∙ not_over))
  ]

-- ---- which steps are enabled
module _ (k : View) (n m : NetNote) (t : AreAlike k n m) where
  same_case : view_in n.case ≡ view_in m.case
  same_case = t.case ∙ sym t.same_case

  there_same : (f g : WorkerNote → Bool) (w : ℕ) → ((a b : WorkerNote) → AreAlikeAt k w a b → f a ≡ g b)
      → if_there f (slice_get n.workers w) ≡ if_there g (slice_get m.workers w)
  there_same f g w same = by_both (if_there f) (if_there g) n.workers m.workers w t.workers refl (λ a b ea eb. same a b (t.each w a b ea eb))

  over_same : {R : Type 0} (f g : Option Edge → R) (w : ℕ) → f None ≡ g None → f (Some Home) ≡ g (Some Home)
      → ((x y : Lot) → f (Some (Lent x)) ≡ g (Some (Lent y))) → f (Some Held) ≡ g (Some Held)
      → ((y : Ask) → y.itag.0 < k.count → f (Some (Asked y)) ≡ g (Some (Asked y)))
      → ((x y : Lot) → f (Some (Given x)) ≡ g (Some (Given y))) → f (slice_get n.edges w) ≡ g (slice_get m.edges w)
  over_same f g w nothing home lent held asked given =
      by_both f g n.edges m.edges w t.edges nothing (λ a b ea eb. alike_edges k w (λ x y. f (Some x) ≡ g (Some y)) home (λ x y agree. lent x y) held
      (λ x y e lt. asked x lt ∙ ap (λ z. g (Some (Asked z))) e) given a b (t.over w a b ea eb))

  kid_same : (w : ℕ) (s : Side) → kid_of n.case w s ≡ kid_of m.case w s
  kid_same w s = λ j. side_of s (kids_at (same_case j).nodes w)

  -- a test on the edge to a child
  below_same : (f : Option Edge → Bool) → ((w : ℕ) → f (slice_get n.edges w) ≡ f (slice_get m.edges w)) → (w : ℕ) (s : Side)
      → f (edge_below n w s) ≡ f (edge_below m w s)
  below_same f same w s = by_kid (kid_of n.case w s) ∙ ap (λ o. f (edge_at m.edges o)) (kid_same w s)
    where
      by_kid : (o : Option ℕ) → f (edge_at n.edges o) ≡ f (edge_at m.edges o)
      by_kid None = refl
      by_kid (Some v) = same v

  held_same : (w : ℕ) → is_held (slice_get n.edges w) ≡ is_held (slice_get m.edges w)
  held_same w = over_same is_held is_held w refl refl (λ x y. refl) refl (λ y lt. refl) (λ x y. refl)

  given_same : (w : ℕ) → is_given (slice_get n.edges w) ≡ is_given (slice_get m.edges w)
  given_same w = over_same is_given is_given w refl refl (λ x y. refl) refl (λ y lt. refl) (λ x y. refl)

  lent_same : (w : ℕ) → is_lent (slice_get n.edges w) ≡ is_lent (slice_get m.edges w)
  lent_same w = over_same is_lent is_lent w refl refl (λ x y. refl) refl (λ y lt. refl) (λ x y. refl)

  pub asked_same : (w : ℕ) → asked_of n w ≡ asked_of m w
  asked_same w = over_same asked_over asked_over w refl refl (λ x y. refl) refl (λ y lt. refl) (λ x y. refl)

  step_same : (s : Step) → by_step n s ≡ by_step m s
  step_same (Arrive i) = λ j. nat_lt (slice_index (t.seen j) i.0) (length (slice_index_or (same_case j).lists i.0 []))
  step_same (Handle w) = there_same (λ v. is_some (next_of v)) (λ v. is_some (next_of v)) w (λ a b q. ap is_some (next_same k w a b q))
  step_same (AskStep w s) =
      let held = below_same is_held held_same w s in
      let aims =
      there_same (λ v. may_take s v.hand && is_some (target_of v (asked_of n w))) (λ v. may_take s v.hand && is_some (target_of v (asked_of m w))) w
      (λ a b q. (let target = target_same k w a b q (asked_of n w) (asked_of m w) (asked_same w) in λ j. may_take s (q.hand j) && is_some (target j))) in
      λ j. held j && aims j
  step_same (Take w s) = below_same is_given given_same w s
  step_same (Give w) =
      over_same (gives_for n w) (gives_for m w) w refl refl (λ x y. refl) refl
      (λ y lt. there_same (λ v. may_give v y) (λ v. may_give v y) w (λ a b q. gives_same k w a b q y lt)) (λ x y. refl)
  step_same (Hold w) = lent_same w
  step_same (Lend w s) =
      let may = there_same (λ v. may_lend s v.hand) (λ v. may_lend s v.hand) w (λ a b q. ap (may_lend s) q.hand) in
      λ j. is_some (kid_same w s j) && may j

  pub enabled_same : (s : Step) → is_enabled n s ≡ is_enabled m s
  enabled_same s = let by = step_same s in λ j. not (t.gone j) && by j

pub alike_enabled : AlikeAreEnabled
alike_enabled k n m s t = enabled_same k n m t s

-- ---- the end
pub alike_final : AlikeAreFinal
alike_final k n m t final = record {
  seen = λ i. sym (ap (λ c. slice_index c i) t.seen) ∙ final.seen i ∙ (λ j. length (slice_index_or (cases j).lists i []));
  own = λ w b at i mine. (let a = other w b at in
      let q = t.each w a.0 b a.1 at in
      sym (ap (λ c. slice_index c i) q.counts) ∙ final.own w a.0 a.1 i ((λ j. (case_is k w a.0 b q j).owned (node_is k w a.0 b q j) i) ∙ mine) ∙ events i);
  above = λ w b at i over. (let a = other w b at in
      let q = t.each w a.0 b a.1 at in
      sym (ap (λ c. slice_index c i) q.counts) ∙ final.above w a.0 a.1 i ((λ j. (case_is k w a.0 b q j).higher (node_is k w a.0 b q j) i) ∙ over) ∙ events i);
  leaves = λ w b at leaf. (let a = other w b at in
      sym (t.each w a.0 b a.1 at).hand ∙ final.leaves w a.0 a.1 ((λ j. kids_at (cases j).nodes w) ∙ leaf));
}
  where
    cases : view_in n.case ≡ view_in m.case
    cases = t.case ∙ sym t.same_case

    other : (w : ℕ) (b : WorkerNote) → slice_get m.workers w ≡ Some b → (a : WorkerNote) × (slice_get n.workers w ≡ Some a)
    other w b at = let lt = slice_get_within m.workers w b at in let long = t.workers in slice_get-there n.workers w (omega arith)

    events : (i : ℕ) → length (events_at (setting_of n.case) i) ≡ length (events_at (setting_of m.case) i)
    events i = λ j. length (events_of (slice_index_or (cases j).lists i []))

-- ---- the start
pub starts_alike : StartsAreAlike
starts_alike k i n m same sn sm = record {
  case = ap view_in sn.case;
  same_case = ap view_in sm.case ∙ same;
  gone = sn.gone ∙ sym sm.gone;
  seen = sn.seen ∙ none ∙ sym sm.seen;
  workers = sn.workers.each ∙ nodes_each ∙ sym sm.workers.each;
  edges = sn.edges.each ∙ nodes_each ∙ sym sm.edges.each;
  each = λ w a b ea eb. (let x = sn.workers.new w a ea in
      let y = sm.workers.new w b eb in
      record {
        case = ap view_in x.case;
        node = x.node;
        same_case = ap view_in y.case ∙ same;
        same_node = y.node;
        hand = x.hand ∙ hands w ∙ sym y.hand;
        kept = x.kept ∙ sym y.kept;
        seen = x.seen ∙ none ∙ sym y.seen;
        counts = x.counts ∙ none ∙ sym y.counts;
        long = (sn.workers.keep w a ea).long ∙ ap (λ (c : Content). count_of_itags (job c)) x.case;
        held = λ h lt over. ap (λ (c : LotCounts). slice_index c.upto h) x.held ∙ ap (λ (c : List ℕ). slice_index c h) none
            ∙ sym (ap (λ (c : LotCounts). slice_index c.upto h) y.held);
      });
  over = λ w a b ea eb. subst (λ (x : Edge). AreAlikeOver (view_in k) w x b) (sym (sn.edges.home w a ea))
      (subst (λ (x : Edge). AreAlikeOver (view_in k) w Home x) (sym (sm.edges.home w b eb)) tt);
}
  where
    none : no_counts (job k) ≡ no_counts (job i)
    none = λ j. map (λ x. 0) (range_with_len 0 (sym same j).count)

    nodes_each : length (nodes k) ≡ length (nodes i)
    nodes_each = λ j. length (sym same j).nodes

    hands : (w : ℕ) → start_hand k w ≡ start_hand i w
    hands zero = λ j. first_hand (kids_at (sym same j).nodes 0)
    hands (suc w) = refl

-- ---- a step
-- one worker of each net becomes another, and the edges become these
module _ (k : View) (n m n' m' : NetNote) (t : AreAlike k n m) (w : ℕ) (sn : IsStepOf w n n') (sm : IsStepOf w m m') where
  pub was_alike : AreAlikeAt k w sn.was sm.was
  was_alike = t.each w sn.was sm.was sn.at sm.at

  workers_alike : AreAlikeAt k w sn.is sm.is → (j : ℕ) (a b : WorkerNote) → slice_get (set n.workers w sn.is) j ≡ Some a
      → slice_get (set m.workers w sm.is) j ≡ Some b → AreAlikeAt k j a b
  workers_alike is j a b ea eb = elim (cases_eq j w) as (λ _. AreAlikeAt k j a b) [
    | inl same ↦
        let x = set_is n.workers w sn.is a (slice_get_within n.workers w sn.was sn.at) (sym (ap (slice_get (set n.workers w sn.is)) same) ∙ ea) in
        let y = set_is m.workers w sm.is b (slice_get_within m.workers w sm.was sm.at) (sym (ap (slice_get (set m.workers w sm.is)) same) ∙ eb) in
        subst (λ (v : ℕ). AreAlikeAt k v a b) (sym same)
        (subst (λ (v : WorkerNote). AreAlikeAt k w v b) x (subst (λ (v : WorkerNote). AreAlikeAt k w sn.is v) y is))
    | inr other ↦ t.each j a b (sym (slice_get-set_other n.workers w j sn.is other) ∙ ea) (sym (slice_get-set_other m.workers w j sm.is other) ∙ eb)
  ]

  pub step_alike : AreAlikeAt k w sn.is sm.is → (es fs : List Edge) → n'.edges ≡ es → m'.edges ≡ fs → length es ≡ length fs
      → ((j : ℕ) (a b : Edge) → slice_get es j ≡ Some a → slice_get fs j ≡ Some b → AreAlikeOver k j a b) → AreAlike k n' m'
  step_alike is es fs en em long over = record {
    case = ap view_in sn.case ∙ t.case;
    same_case = ap view_in sm.case ∙ t.same_case;
    gone = sn.gone ∙ sym sm.gone;
    seen = sn.seen ∙ t.seen ∙ sym sm.seen;
    workers = ap length sn.workers ∙ length-set n.workers w sn.is ∙ t.workers ∙ sym (length-set m.workers w sm.is) ∙ sym (ap length sm.workers);
    edges = ap length en ∙ long ∙ sym (ap length em);
    each = λ j a b ea eb. workers_alike is j a b (sym (ap (λ ws. slice_get ws j) sn.workers) ∙ ea) (sym (ap (λ ws. slice_get ws j) sm.workers) ∙ eb);
    over = λ j a b ea eb. over j a b (sym (ap (λ xs. slice_get xs j) en) ∙ ea) (sym (ap (λ xs. slice_get xs j) em) ∙ eb);
  }

  -- no edge changes
  pub same_edges : AreAlikeAt k w sn.is sm.is → n'.edges ≡ n.edges → m'.edges ≡ m.edges → AreAlike k n' m'
  same_edges is en em = step_alike is n.edges m.edges en em t.edges t.over

  -- one does
  pub one_edge : AreAlikeAt k w sn.is sm.is → (v u : ℕ) (x y : Edge) → v ≡ u → n'.edges ≡ set n.edges v x → m'.edges ≡ set m.edges u y
      → AreAlikeOver k v x y → AreAlike k n' m'
  one_edge is v u x y same en em alike =
      step_alike is (set n.edges v x) (set m.edges v y) en (em ∙ ap (λ j. set m.edges j y) (sym same))
      (length-set n.edges v x ∙ t.edges ∙ sym (length-set m.edges v y))
      (λ j a b ea eb. elim (cases_eq j v) as (λ _. AreAlikeOver k j a b) [
        | inl here ↦
            let at = sym (ap (slice_get (set n.edges v x)) here) ∙ ea in
            let lt : v < length n.edges = (let q = slice_get_within (set n.edges v x) v a at in let e = length-set n.edges v x in omega arith) in
            let p = set_is n.edges v x a lt at in
            let q = set_is m.edges v y b (let long = t.edges in omega arith) (sym (ap (slice_get (set m.edges v y)) here) ∙ eb) in
            subst (λ (i : ℕ). AreAlikeOver k i a b) (sym here)
            (subst (λ (e : Edge). AreAlikeOver k v e b) p (subst (λ (e : Edge). AreAlikeOver k v x e) q alike))
        | inr other ↦
            t.over j a b (sym (slice_get-set_other n.edges v j x other) ∙ ea) (sym (slice_get-set_other m.edges v j y other) ∙ eb)
      ])

is_long : (k : View) (w : ℕ) (n n' : NetNote) (s : IsStepOf w n n') → view_in s.is.case ≡ k → length s.is.counts ≡ k.count
is_long k w n n' s case = s.rule.long ∙ ap (λ (c : View). c.count) case

-- above a child are the itags of its node and those above this one
above_kid : (laws : LawsBelow) (c : Content) (s : Side) (w l r i : ℕ) → kids c w ≡ Some (l, r) → i < count_of_itags (job c)
    → above (job c) (nodes c) (at_side s l r) i ≡ true → (own (job c) (nodes c) w i ≡ true) ⊎ (above (job c) (nodes c) w i ≡ true)
above_kid laws c Left w l r i are lt over = or_cases _ _ (sym (laws.of_kids (setting_of c) w l r i (laws.settings c) are lt).above_left ∙ over)
above_kid laws c Right w l r i are lt over = or_cases _ _ (sym (laws.of_kids (setting_of c) w l r i (laws.settings c) are lt).above_right ∙ over)

module _ (k : View) (n m n' m' : NetNote) (t : AreAlike k n m) where
  alike_handle : (w : ℕ) → Handles w n n' → Handles w m m' → AreAlike k n' m'
  alike_handle w hn hm =
      let sn = hn.step in
      let sm = hm.step in
      let was = was_alike k n m n' m' t w sn sm in
      let event : hn.event ≡ hm.event = same_Some hn.event hm.event (sym hn.next ∙ next_same k w sn.was sm.was was ∙ hm.next) in
      let itag : hn.event.itag.0 ≡ hm.event.itag.0 = ap (λ (y : Ask). y.itag.0) event in
      let case : view_in sn.is.case ≡ k = ap view_in hn.does.place.case ∙ was.case in
      let other : view_in sm.is.case ≡ k = ap view_in hm.does.place.case ∙ was.same_case in
      same_edges k n m n' m' t w sn sm (record {
        case = case;
        node = hn.does.place.node ∙ was.node;
        same_case = other;
        same_node = hm.does.place.node ∙ was.same_node;
        hand = hn.does.hand ∙ (λ j. first_hand (kids_at (case_is k w sn.was sm.was was j).nodes (node_is k w sn.was sm.was was j))) ∙ sym hm.does.hand;
        kept = hn.does.kept ∙ sym hm.does.kept;
        seen = hn.does.place.seen ∙ was.seen ∙ sym hm.does.place.seen;
        counts = same_lists sn.is.counts sm.is.counts (is_long k w n n' sn case ∙ sym (is_long k w m m' sm other)) (λ i lt.
            elim (cases_eq i hn.event.itag.0) as (λ _. slice_index sn.is.counts i ≡ slice_index sm.is.counts i) [
              | inl same ↦ (hn.counts.counts i).0 same ∙ ap (λ (y : Ask). y.index + 1) event ∙ sym ((hm.counts.counts i).0 (same ∙ itag))
              | inr differs ↦ (hn.counts.counts i).1 differs ∙ ap (λ (c : List ℕ). slice_index c i) was.counts
                  ∙ sym ((hm.counts.counts i).1 (λ q. differs (q ∙ sym itag)))
            ]);
        long = is_long k w n n' sn case;
        held = λ i lt over. ap (λ (c : LotCounts). slice_index c.upto i) hn.does.held ∙ was.held i lt over
            ∙ sym (ap (λ (c : LotCounts). slice_index c.upto i) hm.does.held);
      }) hn.edges hm.edges

  alike_ask : (w : ℕ) (s : Side) → Asks w s n n' → Asks w s m m' → AreAlike k n' m'
  alike_ask w s hn hm =
      let sn = hn.step in
      let sm = hm.step in
      let was = was_alike k n m n' m' t w sn sm in
      let target : hn.target ≡ hm.target =
      same_Some hn.target hm.target
      (sym hn.aims ∙ target_same k w sn.was sm.was was (asked_of n w) (asked_of m w) (asked_same k n m t w) ∙ hm.aims) in
      let kid : hn.kid ≡ hm.kid = same_Some hn.kid hm.kid (sym hn.is_kid ∙ kid_same k n m t w s ∙ hm.is_kid) in
      let case : view_in sn.is.case ≡ k = ap (λ (x : WorkerNote). view_in x.case) hn.does.rest ∙ was.case in
      let known : hn.target.itag.0 < count_of_itags (job sn.is.case) = (sn.rule.target hn.target (hn.does.some hn.target refl)).known in
      one_edge k n m n' m' t w sn sm (record {
        case = case;
        node = ap (λ (x : WorkerNote). x.node) hn.does.rest ∙ was.node;
        same_case = ap (λ (x : WorkerNote). view_in x.case) hm.does.rest ∙ was.same_case;
        same_node = ap (λ (x : WorkerNote). x.node) hm.does.rest ∙ was.same_node;
        hand = ap (λ (x : WorkerNote). x.hand) hn.does.rest ∙ was.hand ∙ sym (ap (λ (x : WorkerNote). x.hand) hm.does.rest);
        kept = hn.does.some hn.target refl ∙ ap Some target ∙ sym (hm.does.some hm.target refl);
        seen = ap (λ (x : WorkerNote). x.seen) hn.does.rest ∙ was.seen ∙ sym (ap (λ (x : WorkerNote). x.seen) hm.does.rest);
        counts = ap (λ (x : WorkerNote). x.counts) hn.does.rest ∙ was.counts ∙ sym (ap (λ (x : WorkerNote). x.counts) hm.does.rest);
        long = is_long k w n n' sn case;
        held = λ i lt over. ap (λ (x : WorkerNote). slice_index x.held.upto i) hn.does.rest ∙ was.held i lt over
            ∙ sym (ap (λ (x : WorkerNote). slice_index x.held.upto i) hm.does.rest);
      }) hn.kid hm.kid (Asked hn.target) (Asked hm.target) kid hn.edges hm.edges
      (target, subst (λ (c : View). hn.target.itag.0 < c.count) case known)

  alike_take : (w : ℕ) (s : Side) → Takes w s n n' → Takes w s m m' → AreAlike k n' m'
  alike_take w s hn hm =
      let sn = hn.step in
      let sm = hm.step in
      let was = was_alike k n m n' m' t w sn sm in
      let kid : hn.kid ≡ hm.kid = same_Some hn.kid hm.kid (sym hn.is_kid ∙ kid_same k n m t w s ∙ hm.is_kid) in
      let case : view_in sn.is.case ≡ k = ap view_in hn.does.place.case ∙ was.case in
      one_edge k n m n' m' t w sn sm (record {
        case = case;
        node = hn.does.place.node ∙ was.node;
        same_case = ap view_in hm.does.place.case ∙ was.same_case;
        same_node = hm.does.place.node ∙ was.same_node;
        hand = hn.does.hand ∙ ap (after_take s) was.hand ∙ sym hm.does.hand;
        kept = hn.does.kept ∙ was.kept ∙ sym hm.does.kept;
        seen = hn.does.place.seen ∙ was.seen ∙ sym hm.does.place.seen;
        counts = hn.does.counts ∙ was.counts ∙ sym hm.does.counts;
        long = is_long k w n n' sn case;
        held = λ i lt over. ap (λ (c : LotCounts). slice_index c.upto i) hn.does.held ∙ was.held i lt over
            ∙ sym (ap (λ (c : LotCounts). slice_index c.upto i) hm.does.held);
      }) hn.kid hm.kid Home Home kid hn.edges hm.edges tt

  alike_give : (w : ℕ) → Gives w n n' → Gives w m m' → AreAlike k n' m'
  alike_give w hn hm =
      let sn = hn.step in
      let sm = hm.step in
      let was = was_alike k n m n' m' t w sn sm in
      let case : view_in sn.is.case ≡ k = ap view_in hn.does.place.case ∙ was.case in
      one_edge k n m n' m' t w sn sm (record {
        case = case;
        node = hn.does.place.node ∙ was.node;
        same_case = ap view_in hm.does.place.case ∙ was.same_case;
        same_node = hm.does.place.node ∙ was.same_node;
        hand = hn.does.hand ∙ sym hm.does.hand;
        kept = hn.does.kept ∙ sym hm.does.kept;
        seen = hn.does.place.seen ∙ was.seen ∙ sym hm.does.place.seen;
        counts = hn.does.counts ∙ was.counts ∙ sym hm.does.counts;
        long = is_long k w n n' sn case;
        held = λ i lt over. ap (λ (c : LotCounts). slice_index c.upto i) hn.does.held ∙ was.held i lt over
            ∙ sym (ap (λ (c : LotCounts). slice_index c.upto i) hm.does.held);
      }) w w (Given hn.lot) (Given hm.lot) refl hn.edges hm.edges tt

  alike_hold : (w : ℕ) → Holds w n n' → Holds w m m' → AreAlike k n' m'
  alike_hold w hn hm =
      let sn = hn.step in
      let sm = hm.step in
      let was = was_alike k n m n' m' t w sn sm in
      let case : view_in sn.is.case ≡ k = ap view_in hn.does.place.case ∙ was.case in
      let other : view_in sm.is.case ≡ k = ap view_in hm.does.place.case ∙ was.same_case in
      let agree : AgreeAbove k w hn.lot.upto hm.lot.upto = t.over w (Lent hn.lot) (Lent hm.lot) hn.lent hm.lent in
      let long = is_long k w n n' sn case in
      one_edge k n m n' m' t w sn sm (record {
        case = case;
        node = hn.does.place.node ∙ was.node;
        same_case = other;
        same_node = hm.does.place.node ∙ was.same_node;
        hand = hn.does.hand ∙ (λ j. first_hand (kids_at (case_is k w sn.was sm.was was j).nodes (node_is k w sn.was sm.was was j))) ∙ sym hm.does.hand;
        kept = hn.does.kept ∙ sym hm.does.kept;
        seen = hn.does.place.seen ∙ was.seen ∙ sym hm.does.place.seen;
        counts = same_lists sn.is.counts sm.is.counts (long ∙ sym (is_long k w m m' sm other)) (λ i lt.
            elim (cases_Bool (above_of sn.was i)) as (λ _. slice_index sn.is.counts i ≡ slice_index sm.is.counts i) [
              | inl over ↦
                  hn.does.counts_above i over ∙ agree i (omega arith) (above_here k w sn.was sm.was was i over)
                  ∙ sym (hm.does.counts_above i (sym (above_same k w sn.was sm.was was i) ∙ over))
              | inr not_over ↦
                  hn.does.counts_rest i not_over ∙ ap (λ (c : List ℕ). slice_index c i) was.counts
                  ∙ sym (hm.does.counts_rest i (sym (above_same k w sn.was sm.was was i) ∙ not_over))
            ]);
        long = long;
        held = λ i lt over. ap (λ (c : LotCounts). slice_index c.upto i) hn.does.held ∙ agree i lt over
            ∙ sym (ap (λ (c : LotCounts). slice_index c.upto i) hm.does.held);
      }) w w Held Held refl hn.edges hm.edges tt

  alike_lend : LawsBelow → (w : ℕ) (s : Side) → Lends w s n n' → Lends w s m m' → AreAlike k n' m'
  alike_lend laws w s hn hm =
      let sn = hn.step in
      let sm = hm.step in
      let was = was_alike k n m n' m' t w sn sm in
      let kid : hn.kid ≡ hm.kid = same_Some hn.kid hm.kid (sym hn.is_kid ∙ kid_same k n m t w s ∙ hm.is_kid) in
      let case : view_in sn.is.case ≡ k = ap view_in hn.does.place.case ∙ was.case in
      let pair = kid_pair n.case w hn.kid s hn.is_kid in
      let agree : AgreeAbove k hn.kid hn.lot.upto hm.lot.upto = λ i lt over. (
      let over_here = (λ j. (t.case j).higher (sym pair.3 j) i) ∙ over in
      let place =
      above_kid laws n.case s w pair.0 pair.1 i pair.2 (subst (λ (c : View). i < c.count) (sym t.case) lt) over_here in
      hn.does.tied i (placed sn.was (was.case ∙ sym t.case) was.node i place) ∙ ap (λ (c : List ℕ). slice_index c i) was.counts
      ∙ sym (hm.does.tied i (placed sm.was (was.same_case ∙ sym t.case) was.same_node i place))) in
      one_edge k n m n' m' t w sn sm (record {
        case = case;
        node = hn.does.place.node ∙ was.node;
        same_case = ap view_in hm.does.place.case ∙ was.same_case;
        same_node = hm.does.place.node ∙ was.same_node;
        hand = hn.does.hand ∙ ap (after_lend s) was.hand ∙ sym hm.does.hand;
        kept = hn.does.kept ∙ was.kept ∙ sym hm.does.kept;
        seen = hn.does.place.seen ∙ was.seen ∙ sym hm.does.place.seen;
        counts = hn.does.counts ∙ was.counts ∙ sym hm.does.counts;
        long = is_long k w n n' sn case;
        held = λ i lt over. ap (λ (c : LotCounts). slice_index c.upto i) hn.does.held ∙ was.held i lt over
            ∙ sym (ap (λ (c : LotCounts). slice_index c.upto i) hm.does.held);
      }) hn.kid hm.kid (Lent hn.lot) (Lent hm.lot) kid hn.edges hm.edges agree
    where
      placed : (v : WorkerNote) → view_in v.case ≡ view_in n.case → v.node ≡ w → (i : ℕ)
          → (own (job n.case) (nodes n.case) w i ≡ true) ⊎ (above (job n.case) (nodes n.case) w i ≡ true)
          → (own_of v i ≡ true) ⊎ (above_of v i ≡ true)
      placed v ec ew i place = elim place [
        | inl mine ↦ inl ((λ j. (ec j).owned (ew j) i) ∙ mine)
        | inr over ↦ inr ((λ j. (ec j).higher (ew j) i) ∙ over)
      ]

-- an item is seen
alike_arrived : (k : View) (n m : NetNote) (i : Itag) → AreAlike k n m → AreAlike k (arrived n i) (arrived m i)
alike_arrived k n m i t = record {
  case = t.case;
  same_case = t.same_case;
  gone = t.gone;
  seen = λ j. set (t.seen j) i.0 (more j);
  workers = length-map n.workers (seeing i.0 (slice_index n.seen i.0 + 1)) ∙ t.workers ∙ sym (length-map m.workers (seeing i.0 (slice_index m.seen i.0 + 1)));
  edges = t.edges;
  each = λ w a b ea eb. (let x = mapped_from (seeing i.0 (slice_index n.seen i.0 + 1)) n.workers w a ea in
      let y = mapped_from (seeing i.0 (slice_index m.seen i.0 + 1)) m.workers w b eb in
      let q = t.each w x.0 y.0 x.1 y.1 in
      subst (λ (v : WorkerNote). AreAlikeAt k w v b) x.2 (subst (λ (v : WorkerNote). AreAlikeAt k w (seeing i.0 (slice_index n.seen i.0 + 1) x.0) v) y.2
      (record {
        case = q.case;
        node = q.node;
        same_case = q.same_case;
        same_node = q.same_node;
        hand = q.hand;
        kept = q.kept;
        seen = λ j. set (q.seen j) i.0 (more j);
        counts = q.counts;
        long = q.long;
        held = q.held;
      })));
  over = t.over;
}
  where
    more : slice_index n.seen i.0 + 1 ≡ slice_index m.seen i.0 + 1
    more = ap (λ s. slice_index s i.0 + 1) t.seen

pub steps_alike : LawsBelow → StepsKeepAlike
steps_alike laws k (Arrive i) n n' m m' t a b =
    subst (λ (x : NetNote). AreAlike k x m') (sym a) (subst (λ (x : NetNote). AreAlike k (arrived n i) x) (sym b) (alike_arrived k n m i t))
steps_alike laws k (Handle w) n n' m m' t a b = alike_handle k n m n' m' t w a b
steps_alike laws k (AskStep w s) n n' m m' t a b = alike_ask k n m n' m' t w s a b
steps_alike laws k (Take w s) n n' m m' t a b = alike_take k n m n' m' t w s a b
steps_alike laws k (Give w) n n' m m' t a b = alike_give k n m n' m' t w a b
steps_alike laws k (Hold w) n n' m m' t a b = alike_hold k n m n' m' t w a b
steps_alike laws k (Lend w s) n n' m m' t a b = alike_lend k n m n' m' t laws w s a b
