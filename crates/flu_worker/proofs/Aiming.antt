-- When an event is one at which a worker may aim, by what it has seen, and what holds of a whole lot then.
use Rattle.std.proofs.Common.{◌≡◌, ◌≢◌, ◌<◌, ◌≤◌, ℕ, true, false, cond, Option, Some, None}
use Rattle.std.proofs.Common.{List, [], length, inl, inr, refl, sym, ap, subst, ◌∙◌, arith}
use Rattle.std.specs.Prelude.{◌==◌, ◌||◌, not, slice_index, slice_index_or, IsSome}
use Rattle.std.proofs.lemmas.Bool.{cases_eq, ne_eqb, or_left, or_right}
use Rattle.flu_lemmas.proofs.Tests.{and_left, and_right, both, not_both, true_eq}
use Rattle.flu_model.specs.declared.events.Event.{Event}
use Rattle.flu_model.specs.declared.events.Itag.{Itag}
use Rattle.flu_model.specs.Itags.{count_of_itags}
use Rattle.flu_model.specs.Listed.{listed}
use Rattle.flu_model.specs.Owners.{owns}
use Rattle.flu_fork.specs.declared.content.Content.{Content}
use Rattle.flu_fork.specs.declared.lots.Ask.{Ask}
use Rattle.flu_fork.specs.declared.lots.Lot.{Lot}
use Rattle.flu_fork.specs.Classes.{Itags, own, above}
use Rattle.flu_fork.specs.Streams.{IsEventAt, IsClearOf}
use Rattle.flu_fork.specs.Lots.{job, nodes, kids, setting_of, LotFits}
use Rattle.flu_fork.specs.Serving.{LotCounts, Served, AsksAbove}
use Rattle.flu_mail.specs.Waiting.{is_leaf}
use Rattle.flu_worker.specs.Agreeing.{Agrees, IsFirstOf, IsTarget, IsExactFor}
use Rattle.flu_worker.specs.Choosing.{Sight, own_itags, next_at, takes, if_ready, event_of, serves, least_next}
use Rattle.flu_worker.specs.Choosing.{least_ready, ask_for, if_serves, is_same_ask, first_some, new_target}
use Rattle.flu_worker.specs.LawsBelow.{LawsBelow}
use Rattle.flu_worker.specs.Next.{IsReadyOwn}
use Rattle.flu_worker.proofs.Changing.{above_just_before}
use Rattle.flu_worker.proofs.EarliestLemmas.{all_where, found_is}
use Rattle.flu_worker.proofs.Nodes.{not_leaf, own_owner, own_below, above_not_below}
use Rattle.flu_worker.proofs.Rising.{rises}

-- ---- events that are there
-- an itag with an event is known
pub known_at : LawsBelow → (k : Content) (i n : ℕ) (x : Event) → IsEventAt (setting_of k) i n x → i < count_of_itags (job k)
known_at laws k i n x at = laws.known (setting_of k) i n x (laws.settings k) at

pub some_event : {x y : Event} → Some x ≡ Some y → x ≡ y
some_event e = cc

pub some_ask : {x y : Ask} → Some x ≡ Some y → x ≡ y
some_ask e = cc

pub never_ask : {y : Ask} {P : Type 0} (o : Option Ask) → o ≡ None → o ≡ Some y → P
never_ask o a b = cc

module _ (laws : LawsBelow) (s : Sight) where
  -- ---- READY: the event is before each one that is not counted and on which it depends, of the node's other itags and of those above
  not_same : (x : Event) (j : ℕ) → j ≢ x.itag.0 → not (j == x.itag.0) ≡ true
  not_same x j other = ap not (ne_eqb j x.itag.0 other)

  ready_clear : (set : Itags) (x : Event)
      → ((j : ℕ) → set j ≡ true → (own (job s.case) (nodes s.case) s.node j || above (job s.case) (nodes s.case) s.node j) ≡ true)
      → takes s x ≡ true → IsClearOf (setting_of s.case) set s.counts x
  ready_clear set x within ready j n y inside other d le at =
      (laws.ready (job s.case) (nodes s.case) (listed s.case.streams) s.node s.seen s.counts x j y (laws.settings s.case).streams ready
      (known_at laws s.case j n y at)
      (both _ _ (both _ _ (not_same x j other) (within j inside)) (or_right (not (is_leaf (nodes s.case) s.node)) _ d)) (n, le, at)).0

  pub ready_own : (x : Event) → takes s x ≡ true → IsClearOf (setting_of s.case) (own (job s.case) (nodes s.case) s.node) s.counts x
  ready_own x = ready_clear (own (job s.case) (nodes s.case) s.node) x (λ j h. or_left _ _ h)

  pub ready_above : (x : Event) → takes s x ≡ true → IsClearOf (setting_of s.case) (above (job s.case) (nodes s.case) s.node) s.counts x
  ready_above x = ready_clear (above (job s.case) (nodes s.case) s.node) x (λ j h. or_right (own (job s.case) (nodes s.case) s.node j) _ h)

  -- and at an inner worker no event of these itags that is not counted is before it
  ready_first : (set : Itags) (x : Event)
      → ((j : ℕ) → set j ≡ true → (own (job s.case) (nodes s.case) s.node j || above (job s.case) (nodes s.case) s.node j) ≡ true)
      → IsSome (kids s.case s.node) → takes s x ≡ true → IsEventAt (setting_of s.case) x.itag.0 (slice_index s.counts x.itag.0) x
      → IsFirstOf (setting_of s.case) set s.counts x
  ready_first set x within inner ready is j n y inside le at =
      elim (cases_eq j x.itag.0) [
        | inl same ↦
            (let le_x : slice_index s.counts x.itag.0 ≤ n = subst (λ (u : ℕ). slice_index s.counts u ≤ n) same le in
            rises laws (setting_of s.case) (laws.settings s.case) x.itag.0 (slice_index s.counts x.itag.0) n x y is
            (subst (λ (u : ℕ). IsEventAt (setting_of s.case) u n y) same at) le_x)
        | inr other ↦
            (laws.ready (job s.case) (nodes s.case) (listed s.case.streams) s.node s.seen s.counts x j y (laws.settings s.case).streams ready
            (known_at laws s.case j n y at)
            (both _ _ (both _ _ (not_same x j other) (within j inside)) (or_left _ _ (not_leaf (kids s.case s.node) inner))) (n, le, at)).1
      ]

  -- READY TO SERVE: the same of the node's own itags
  pub serving_own : (x : Event) → serves s (Some x) ≡ true → IsClearOf (setting_of s.case) (own (job s.case) (nodes s.case) s.node) s.counts x
  serving_own x ready j n y inside other d le at =
      (laws.serving (job s.case) (nodes s.case) (listed s.case.streams) s.node s.seen s.counts x j y (laws.settings s.case).streams ready
      (known_at laws s.case j n y at)
      (both _ _ inside (or_right (not (is_leaf (nodes s.case) s.node)) _ d)) (n, le, at)).0

  serving_first : (x : Event) → IsSome (kids s.case s.node) → serves s (Some x) ≡ true
      → IsFirstOf (setting_of s.case) (own (job s.case) (nodes s.case) s.node) s.counts x
  serving_first x inner ready j n y inside le at =
      (laws.serving (job s.case) (nodes s.case) (listed s.case.streams) s.node s.seen s.counts x j y (laws.settings s.case).streams ready
      (known_at laws s.case j n y at)
      (both _ _ inside (or_left _ _ (not_leaf (kids s.case s.node) inner))) (n, le, at)).1

  -- ---- the events that are found
  -- the itag of a next event is the one that it was found at
  pub itag_is : (i : Itag) (x : Event) → next_at s i ≡ Some x → x.itag ≡ i
  itag_is i x e =
      let at : IsEventAt (setting_of s.case) i.0 (slice_index s.counts i.0) x =
      laws.seen_events (slice_index_or (listed s.case.streams) i.0 []) (slice_index s.seen i.0) (slice_index s.counts i.0) x e in
      λ j. record { 0 = (laws.events (setting_of s.case) i.0 (slice_index s.counts i.0) x (laws.settings s.case) at).itag j }

  -- the next event of an own itag, where there is one that passes a test
  next_own : (i : Itag) → i.0 < count_of_itags (job s.case) → owns (job s.case) (nodes s.case) s.node i ≡ true → (x : Event) → next_at s i ≡ Some x
      → takes s x ≡ true → IsReadyOwn s x
  next_own i lt mine x e ready =
      subst (λ (j : Itag). j.0 < count_of_itags (job s.case) → owns (job s.case) (nodes s.case) s.node j ≡ true → next_at s j ≡ Some x → IsReadyOwn s x)
      (itag_is i x e) (λ known own next. record { known = known; own = own; next = next; ready = ready }) lt mine e

  -- it is the event at its place in the stream
  pub ready_at : (x : Event) → IsReadyOwn s x → IsEventAt (setting_of s.case) x.itag.0 (slice_index s.counts x.itag.0) x
  ready_at x r = laws.seen_events (slice_index_or (listed s.case.streams) x.itag.0 []) (slice_index s.seen x.itag.0) (slice_index s.counts x.itag.0) x r.next

  pub if_some : (o : Option Event) (x : Event) → if_ready s o ≡ Some x → (o ≡ Some x) × (takes s x ≡ true)
  if_some None x e = cc
  if_some (Some y) x e =
      elim (takes s y) as (λ t. takes s y ≡ t → cond t (Some y) None ≡ Some x → (Some y ≡ Some x) × (takes s x ≡ true)) [
        | true ↦ λ r h. (h, ap (takes s) (sym (some_event h)) ∙ r)
        | false ↦ λ r h. absurd (nothing h)
      ] refl e
    where
      nothing : {x : Event} → None ≡ Some x → ⊥
      nothing e = cc

  pub ready_found : (x : Event) → least_ready s ≡ Some x → IsReadyOwn s x
  ready_found =
      found_is (IsReadyOwn s) (λ i. if_ready s (next_at s i)) (own_itags s.case s.node)
      (all_where (job s.case) (owns (job s.case) (nodes s.case) s.node) (λ i. (x : Event) → if_ready s (next_at s i) ≡ Some x → IsReadyOwn s x)
      (λ i lt mine x e. (let h = if_some (next_at s i) x e in next_own i lt mine x h.0 h.1)))

  pub least_found : (x : Event) → if_ready s (least_next s) ≡ Some x → IsReadyOwn s x
  least_found x e =
      let h = if_some (least_next s) x e in
      found_is (λ z. takes s z ≡ true → IsReadyOwn s z) (next_at s) (own_itags s.case s.node)
      (all_where (job s.case) (owns (job s.case) (nodes s.case) s.node) (λ i. (z : Event) → next_at s i ≡ Some z → takes s z ≡ true → IsReadyOwn s z)
      (λ i lt mine z f r. next_own i lt mine z f r)) x h.0 h.1

  -- ---- targets
  module _ (held upto : List ℕ) (agrees : Agrees s.case s.node s.counts held upto) where
    pub ready_target : (x : Event) → IsReadyOwn s x → IsTarget s.case s.node s.counts upto (record { itag = x.itag; index = slice_index s.counts x.itag.0 })
    ready_target x r = record {
      known = r.known;
      next = agrees.mine x.itag.0 r.own;
      place = inl r.own;
      event = x;
      is = ready_at x r;
      clear_own = ready_own x r.ready;
      clear_above = λ _. ready_above x r.ready;
      first_own = λ inner. ready_first (own (job s.case) (nodes s.case) s.node) x (λ j h. or_left _ _ h) inner r.ready (ready_at x r);
      first_above =
          λ inner _. ready_first (above (job s.case) (nodes s.case) s.node) x
          (λ j h. or_right (own (job s.case) (nodes s.case) s.node j) _ h) inner r.ready (ready_at x r);
    }

    pub serving_target : (y : Ask) → AsksAbove s.case s.node y → y.index ≡ slice_index held y.itag.0 → serves s (event_of s.case y) ≡ true
        → IsTarget s.case s.node s.counts upto y
    serving_target y up next ready = by_event (event_of s.case y) refl ready
      where
        by_event : (o : Option Event) → event_of s.case y ≡ o → serves s o ≡ true → IsTarget s.case s.node s.counts upto y
        by_event None e f = cc
        by_event (Some x) e f =
            let out = above_not_below laws s.case s.node y.itag.0 up.known up.above in
            record {
              known = up.known;
              next = next ∙ sym (agrees.outside y.itag.0 out);
              place = inr up.above;
              event = x;
              is = e;
              clear_own = serving_own x f;
              clear_above = λ mine. absurd (not_both _ (own_below laws s.case s.node y.itag.0 up.known mine) out);
              first_own = λ inner. serving_first x inner f;
              first_above = λ inner mine. absurd (not_both _ (own_below laws s.case s.node y.itag.0 up.known mine) out);
            }

    ask_target : (o : Option Event) → ((x : Event) → o ≡ Some x → IsReadyOwn s x) → (y : Ask) → ask_for s o ≡ Some y
        → IsTarget s.case s.node s.counts upto y × (own (job s.case) (nodes s.case) s.node y.itag.0 ≡ true)
    ask_target None found y e = cc
    ask_target (Some x) found y e =
        let r = found x refl in
        subst (λ (z : Ask). IsTarget s.case s.node s.counts upto z × (own (job s.case) (nodes s.case) s.node z.itag.0 ≡ true)) (some_ask e)
        (ready_target x r, r.own)

    pub leaf_target : (y : Ask) → ask_for s (least_ready s) ≡ Some y
        → IsTarget s.case s.node s.counts upto y × (own (job s.case) (nodes s.case) s.node y.itag.0 ≡ true)
    leaf_target = ask_target (least_ready s) ready_found

    served_target : (o : Option Ask) → ((y : Ask) → o ≡ Some y → AsksAbove s.case s.node y × (y.index ≡ slice_index held y.itag.0)) → (y : Ask)
        → if_serves s o ≡ Some y
        → IsTarget s.case s.node s.counts upto y
    served_target None asks y e = cc
    served_target (Some z) asks y e =
        elim (serves s (event_of s.case z)) as (λ t. serves s (event_of s.case z) ≡ t → cond t (Some z) None ≡ Some y
        → IsTarget s.case s.node s.counts upto y) [
          | true ↦ λ r f. subst (λ (u : Ask). IsTarget s.case s.node s.counts upto u) (some_ask f) (serving_target z (asks z refl).0 (asks z refl).1 r)
          | false ↦ λ r f. absurd (nothing f)
        ] refl e
      where
        nothing : {x : Ask} → None ≡ Some x → ⊥
        nothing e = cc

    -- a new target of a worker whose parts are both lent
    pub new_is_target : (asked : Option Ask) → ((y : Ask) → asked ≡ Some y → AsksAbove s.case s.node y × (y.index ≡ slice_index held y.itag.0))
        → (y : Ask) → new_target s asked ≡ Some y → IsTarget s.case s.node s.counts upto y
    new_is_target asked asks y e = by_first (ask_for s (if_ready s (least_next s))) refl e
      where
        by_first : (o : Option Ask) → ask_for s (if_ready s (least_next s)) ≡ o → first_some o (if_serves s asked) ≡ Some y
            → IsTarget s.case s.node s.counts upto y
        by_first None is f = served_target asked asks y f
        by_first (Some z) is f = (ask_target (if_ready s (least_next s)) least_found y (is ∙ f)).0

-- ---- a lot for which the worker has such a target
module _ (laws : LawsBelow) (k : Content) (w : ℕ) (there : w < length (nodes k)) (counts : List ℕ) (held : LotCounts) (lot : Lot) (fits : LotFits k w lot)
    (since : lot.since ≡ held.since)
    (agrees : Agrees k w counts held.upto lot.upto) (y : Ask) (target : IsTarget k w counts lot.upto y) where
  -- at a leaf it is served
  pub leaf_served : kids k w ≡ None → Served k w held y lot
  leaf_served leaf =
      laws.leaves k w held y target.event lot leaf there fits (record { since = since; outside = agrees.outside; inside = agrees.inside })
      (sym target.next) target.is
      (λ j n z inside other d le at. target.clear_own j n z inside other d (let e = agrees.mine j inside in omega arith) at)

  -- and where it is served, it is exact for the node's own event
  pub target_exact : Served k w held y lot → own (job k) (nodes k) w y.itag.0 ≡ true → IsExactFor k w lot.upto y target.event
  target_exact served mine = record {
    known = target.known;
    is = target.is;
    next = target.next;
    owner = own_owner laws k w y.itag.0 target.known mine;
    exact = λ before after m split ei ex.
        laws.exact k w y lot.upto before after m (own_below laws k w y.itag.0 target.known mine) (sym target.next) served.exact
        (above_just_before laws k w counts held.upto lot.upto agrees y target fits.prefix mine) split ei ex;
  }

pub same_ask : (y : Ask) (o : Option Ask) → is_same_ask y o ≡ true → o ≡ Some y
same_ask y None e = cc
same_ask y (Some x) e =
    let a = true_eq x.itag.0 y.itag.0 (and_left _ _ e) in
    let b = true_eq x.index y.index (and_right (x.itag.0 == y.itag.0) _ e) in
    λ i. Some (record { itag = record { 0 = a i }; index = b i })
