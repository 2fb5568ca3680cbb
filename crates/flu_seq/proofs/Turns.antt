-- The turns of the merge: what the heads are after one is taken, and what has come by then.
use Rattle.std.proofs.Common.{◌≡◌, ◌≤◌, ◌<◌, ◌+◌, ℕ, Bool, true, false, cond, Option, Some, None, List, [], ◌∷◌, ◌++◌, length}
use Rattle.std.proofs.Common.{drop, refl, sym, ap, subst, ◌∙◌, arith, inl, inr, drop-cons, add-one}
use Rattle.std.proofs.lemmas.List.{drop_all}
use Rattle.std.proofs.lemmas.List.Sorted.{IsPermutation-refl}
use Rattle.std.specs.Prelude.{nat_le, nat_lt, ◌==◌}
use Rattle.std.specs.List.{flat_map, AllByRecursion}
use Rattle.std.specs.List.Sorted.{IsPermutation}
use Rattle.std.specs.BinaryHeap.{IsHeap, IsUpperBound, KeepsHeap}
use Rattle.std.specs.Ordering.{is_lt}
use Rattle.std.specs.declared.cmp.Reverse.{Reverse}
use Rattle.std.proofs.lemmas.Grind.{common_steps}
use Rattle.flu_model.specs.declared.events.Event.{Event}
use Rattle.flu_model.specs.declared.events.Item.{Item}
use Rattle.flu_model.specs.Listed.{listed}
use Rattle.flu_model.specs.Merging.{events_of, is_before, all_events, merged, IsMerged}
use Rattle.flu_model.specs.Streaming.{is_stream_from, are_streams}
use Rattle.flu_lemmas.proofs.Elements.{all_map, all_push}
use Rattle.flu_lemmas.proofs.Numbers.{same_number, apart_below}
use Rattle.flu_lemmas.proofs.Tests.{and_left, and_right, both, lt_true, le_true, true_le, true_lt, true_eq}
use Rattle.flu_seq.specs.declared.coming.Coming.{Coming}
use Rattle.flu_seq.specs.declared.coming.Head.{Head}
use Rattle.flu_lemmas.specs.Totals.{total}
use Rattle.flu_seq.specs.LoopHeads.{
  event_at,
  items_at,
  rest_of,
  pending,
  is_run,
  is_good,
  heads_of,
  head_cmp,
  Ready,
  Starts,
  Adds,
  Pops,
  all_heads,
  IsNext,
  Goes,
  SoFar,
  IsBehind,
  Yields,
}
use Rattle.flu_lemmas.proofs.Totals.{total-IsPermutation, total-append, total-flat_map, all-IsPermutation}
use Rattle.flu_seq.proofs.Runs.{run_of_stream, stream_at}
use Rattle.flu_seq.proofs.Unique.{before_trans, strict-push, merged-IsMerged, only_merged}

-- ---- the totals of what is to come
pub pending-IsPermutation : (lists : List (List Item)) (f : Event → ℕ) (hs ks : List (Reverse Head)) → IsPermutation hs ks
    → total f (pending lists ks) ≡ total f (pending lists hs)
pending-IsPermutation lists f hs ks perm =
    total-flat_map f (λ (r : Reverse Head). rest_of lists r.0) ks
    ∙ total-IsPermutation (λ (r : Reverse Head). total f (rest_of lists r.0)) hs ks perm
    ∙ sym (total-flat_map f (λ (r : Reverse Head). rest_of lists r.0) hs)

module _ (lists : List (List Item)) (good : are_streams 0 lists ≡ true) (i from : ℕ) (lt : i < length lists) (old new : List (Reverse Head)) where
  pub run_here : is_run i 0 (events_of (drop from (items_at lists i))) ≡ true
  run_here = let n : 0 + i ≡ i = omega arith in
      run_of_stream i 0 from (items_at lists i) (subst (λ m. is_stream_from m 0 (items_at lists i) ≡ true) n (stream_at 0 i lists good lt))

  -- the head that joins is of this itag
  pub own_itag : (h : Head) → events_of (drop from (items_at lists i)) ≡ event_at h ∷ events_of (drop h.place (items_at lists i)) → h.itag ≡ i
  own_itag h e = true_eq h.itag i (and_left _ _ (and_left _ _ (sym (ap (is_run i 0) e) ∙ run_here)))

  pub rest_is : (h : Head) → events_of (drop from (items_at lists i)) ≡ event_at h ∷ events_of (drop h.place (items_at lists i))
      → rest_of lists h ≡ events_of (drop from (items_at lists i))
  rest_is h e = ap (λ n. event_at h ∷ events_of (drop h.place (items_at lists n))) (own_itag h e) ∙ sym e

  pub head_good : (h : Head) → events_of (drop from (items_at lists i)) ≡ event_at h ∷ events_of (drop h.place (items_at lists i))
      → h.place ≤ length (items_at lists i) → is_good lists (record { 0 = h }) ≡ true
  head_good h e le =
      let n : h.itag ≡ i = own_itag h e in
      both _ _ (both (nat_lt h.itag (length lists)) _ (ap (λ m. nat_lt m (length lists)) n ∙ lt_true i (length lists) lt)
      (ap (λ m. nat_le h.place (length (items_at lists m))) n ∙ le_true h.place (length (items_at lists i)) le))
      ((λ k. is_run (n k) 0 (rest_is h e k)) ∙ run_here)

  pub added_total : Adds lists i from old new → (f : Event → ℕ)
      → total f (pending lists new) ≡ total f (events_of (drop from (items_at lists i))) + total f (pending lists old)
  added_total (inl a) f =
      let none : total f (events_of (drop from (items_at lists i))) ≡ 0 = ap (total f) a.0 in
      let same : total f (pending lists new) ≡ total f (pending lists old) = ap (λ hs. total f (pending lists hs)) a.1 in
      omega (arith, none, same)
  added_total (inr (h, a)) f =
      pending-IsPermutation lists f (record { 0 = h } ∷ old) new a.2
      ∙ total-append f (rest_of lists h) (pending lists old)
      ∙ ap (λ xs. total f xs + total f (pending lists old)) (rest_is h a.0)

  pub added_heads : Adds lists i from old new → (j : ℕ) → heads_of j new ≤ cond (i == j) 1 0 + heads_of j old
  added_heads (inl a) j = let same : heads_of j new ≡ heads_of j old = ap (heads_of j) a.1 in omega (arith, same)
  added_heads (inr (h, a)) j =
      let same : heads_of j new ≡ cond (h.itag == j) 1 0 + heads_of j old =
      total-IsPermutation (λ (r : Reverse Head). cond (r.0.itag == j) 1 0) (record { 0 = h } ∷ old) new a.2 in
      let one : cond {A = ℕ} (h.itag == j) 1 0 ≡ cond (i == j) 1 0 = ap (λ n. cond (n == j) 1 0) (own_itag h a.0) in
      omega (arith, same, one)

  pub added_ready : Adds lists i from old new → Ready lists old → heads_of i old ≡ 0 → Ready lists new
  added_ready a ready none = record {
    in_heap = heap a;
    good = fits a;
    own = λ j. at_most j (added_heads a j) (ready.own j);
  }
    where
      heap : Adds lists i from old new → IsHeap head_cmp new
      heap (inl b) = subst (IsHeap head_cmp) (sym b.1) ready.in_heap
      heap (inr (h, b)) = b.3 ready.in_heap

      fits : Adds lists i from old new → AllByRecursion (λ r. is_good lists r ≡ true) new
      fits (inl b) = subst (AllByRecursion (λ r. is_good lists r ≡ true)) (sym b.1) ready.good
      fits (inr (h, b)) = all-IsPermutation (is_good lists) (record { 0 = h } ∷ old) new b.2 (head_good h b.0 b.1, ready.good)

      at_most : (j : ℕ) → heads_of j new ≤ cond (i == j) 1 0 + heads_of j old → heads_of j old ≤ 1 → heads_of j new ≤ 1
      at_most j le one =
          elim (i == j) as (λ b. (i == j) ≡ b → heads_of j new ≤ cond b 1 0 + heads_of j old → heads_of j new ≤ 1) [
            | true ↦ λ e l. let zero : heads_of j old ≡ 0 = ap (λ n. heads_of n old) (sym (true_eq i j e)) ∙ none in omega (arith, zero, l)
            | false ↦ λ e l. omega (arith, one, l)
          ] refl le

-- ---- the first of some heads
least : (a b : Reverse Head) → is_lt (head_cmp a b) ≡ false → (b.0.itag == a.0.itag) ≡ false → is_before (event_at a.0) (event_at b.0) ≡ true
least a b e n = grind (arith, common_steps)

none_of : (j : ℕ) (hs : List (Reverse Head)) → heads_of j hs ≡ 0 → AllByRecursion (λ (r : Reverse Head). (r.0.itag == j) ≡ false) hs
none_of j [] e = tt
none_of j (r ∷ hs) e = (by_test (r.0.itag == j) (omega arith), none_of j hs (omega arith))
  where
    by_test : (b : Bool) → cond {A = ℕ} b 1 0 ≡ 0 → b ≡ false
    by_test true e = absurd (omega arith)
    by_test false e = refl

all_least : (x : Reverse Head) (hs : List (Reverse Head)) → AllByRecursion (λ (r : Reverse Head). is_lt (head_cmp x r) ≡ false) hs
    → AllByRecursion (λ (r : Reverse Head). (r.0.itag == x.0.itag) ≡ false) hs
    → AllByRecursion (λ (r : Reverse Head). is_before (event_at x.0) (event_at r.0) ≡ true) hs
all_least x [] a b = tt
all_least x (r ∷ hs) a b = (least x r a.0 b.0, all_least x hs a.1 b.1)

module _ (lists : List (List Item)) (hs ks : List (Reverse Head)) (x : Reverse Head) (perm : IsPermutation hs (x ∷ ks)) (ready : Ready lists hs) where
  counts : (j : ℕ) → heads_of j hs ≡ cond (x.0.itag == j) 1 0 + heads_of j ks
  counts j = sym (total-IsPermutation (λ (r : Reverse Head). cond (r.0.itag == j) 1 0) hs (x ∷ ks) perm)

  pub popped_alone : heads_of x.0.itag ks ≡ 0
  popped_alone =
      let one : cond {A = ℕ} (x.0.itag == x.0.itag) 1 0 ≡ 1 = ap (λ b. cond {A = ℕ} b 1 0) (same_number x.0.itag) in
      let c : heads_of x.0.itag hs ≡ cond (x.0.itag == x.0.itag) 1 0 + heads_of x.0.itag ks = counts x.0.itag in
      let o : heads_of x.0.itag hs ≤ 1 = ready.own x.0.itag in
      omega (arith, one, c, o)

  pub popped_good : AllByRecursion (λ r. is_good lists r ≡ true) (x ∷ ks)
  popped_good = all-IsPermutation (is_good lists) hs (x ∷ ks) perm ready.good

  pub popped_ready : IsHeap head_cmp ks → Ready lists ks
  popped_ready heap = record {
    in_heap = heap;
    good = popped_good.1;
    own = λ j. (let c : heads_of j hs ≡ cond (x.0.itag == j) 1 0 + heads_of j ks = counts j in let o : heads_of j hs ≤ 1 = ready.own j in omega (arith, c, o));
  }

  pub popped_first : IsUpperBound head_cmp x ks → AllByRecursion (λ (r : Reverse Head). is_before (event_at x.0) (event_at r.0) ≡ true) ks
  popped_first bound = all_least x ks bound (none_of x.0.itag ks popped_alone)

later : (a b : Event) → nat_le (a.time + 1) b.time ≡ true → is_before a b ≡ true
later a b e = grind (arith, common_steps)

-- what is before the first of some heads is before all of them
before_first : (e : Event) (a b : Reverse Head) → is_before e (event_at a.0) ≡ true → is_lt (head_cmp a b) ≡ false → is_before e (event_at b.0) ≡ true
before_first e a b before bound = grind (arith, common_steps)

pub before_all : (e : Event) (a : Reverse Head) (hs : List (Reverse Head)) → is_before e (event_at a.0) ≡ true → IsUpperBound head_cmp a hs
    → AllByRecursion (λ (r : Reverse Head). is_before e (event_at r.0) ≡ true) hs
before_all e a hs before bound =
    all_map (λ (r : Reverse Head). is_lt (head_cmp a r) ≡ false) (λ (r : Reverse Head). is_before e (event_at r.0) ≡ true) hs
    (λ r. before_first e a r before) bound

-- ---- the next head apart from the others
module _ (lists : List (List Item)) (old new : List (Reverse Head)) (ready : Ready lists old) where
  pub popped : (next : Option Head) → Pops old new next → IsPermutation old (all_heads next new) × IsNext lists next new
  popped None pops = (
    subst (IsPermutation old) (pops.0 ∙ sym pops.1) (IsPermutation-refl old),
    record {
      in_heap = subst (IsHeap head_cmp) (pops.0 ∙ sym pops.1) ready.in_heap;
      good = subst (AllByRecursion (λ r. is_good lists r ≡ true)) (sym pops.1) tt;
      own = λ j. (let z : heads_of j new ≡ 0 = ap (heads_of j) pops.1 in omega (arith, z));
      leads = pops.1;
    },
  )
  popped (Some h) takes =
      let ready' : Ready lists new = popped_ready lists old new (record { 0 = h }) takes.same ready (takes.heap ready.in_heap) in (
        takes.same,
        record {
          in_heap = ready'.in_heap;
          good = popped_good lists old new (record { 0 = h }) takes.same ready;
          own = λ j. (
              let c : heads_of j old ≡ cond (h.itag == j) 1 0 + heads_of j new = counts lists old new (record { 0 = h }) takes.same ready j in
              let o : heads_of j old ≤ 1 = ready.own j in
              omega (arith, c, o)
              );
          leads = popped_first lists old new (record { 0 = h }) takes.same ready (takes.first ready.in_heap);
        },
      )

-- a head, and the others after it
module _ (lists : List (List Item)) (good : are_streams 0 lists ≡ true) (x : Head) (ks : List (Reverse Head)) (stands : IsNext lists (Some x) ks) where
  pub in_range : x.itag < length lists
  in_range = true_lt x.itag (length lists) (and_left _ _ (and_left _ _ stands.good.0))

  pub within : x.place ≤ length (items_at lists x.itag)
  within = true_le x.place (length (items_at lists x.itag)) (and_right _ _ (and_left _ _ stands.good.0))

  pub others_ready : Ready lists ks
  others_ready = record {
    in_heap = stands.in_heap;
    good = stands.good.1;
    own = λ j. (let o : cond (x.itag == j) 1 0 + heads_of j ks ≤ 1 = stands.own j in omega (arith, o));
  }

  pub alone : heads_of x.itag ks ≡ 0
  alone =
      let one : cond {A = ℕ} (x.itag == x.itag) 1 0 ≡ 1 = ap (λ b. cond {A = ℕ} b 1 0) (same_number x.itag) in
      let o : cond (x.itag == x.itag) 1 0 + heads_of x.itag ks ≤ 1 = stands.own x.itag in
      omega (arith, one, o)

  -- what is still to come with the head's event, and what was
  pub head_total : (f : Event → ℕ) → total f (pending lists (record { 0 = x } ∷ ks))
      ≡ (f (event_at x) + total f (events_of (drop x.place (items_at lists x.itag)))) + total f (pending lists ks)
  head_total f = total-append f (rest_of lists x) (pending lists ks)

  -- the head's event is before the next one of its itag
  pub before_next : (h : Head) → events_of (drop x.place (items_at lists x.itag)) ≡ event_at h ∷ events_of (drop h.place (items_at lists x.itag))
      → is_before (event_at x) (event_at h) ≡ true
  before_next h e =
      let run : is_run x.itag (x.time + 1) (events_of (drop x.place (items_at lists x.itag))) ≡ true = and_right _ _ (and_right _ _ stands.good.0) in
      let next : is_run x.itag (x.time + 1) (event_at h ∷ events_of (drop h.place (items_at lists x.itag))) ≡ true =
      sym (ap (is_run x.itag (x.time + 1)) e) ∙ run in
      later (event_at x) (event_at h) (and_right _ _ (and_left _ _ next))

  -- its itag has no other event, and the first of the others is next
  pub goes_without : (new : List (Reverse Head)) (next : Option Head) → events_of (drop x.place (items_at lists x.itag)) ≡ [] → Pops ks new next
      → Goes lists x ks new next
  goes_without new next none pops =
      let p = popped lists ks new others_ready next pops in
      record {
        stands = p.1;
        totals = λ f. (
            let a : total f (pending lists (all_heads next new)) ≡ total f (pending lists ks) = pending-IsPermutation lists f ks (all_heads next new) p.0 in
            let b : total f (pending lists (record { 0 = x } ∷ ks)) ≡ (f (event_at x) + total f (events_of (drop x.place (items_at lists x.itag))))
            + total f (pending lists ks) = head_total f in
            let c : total f (events_of (drop x.place (items_at lists x.itag))) ≡ 0 = ap (total f) none in
            omega (arith, a, b, c)
            );
        later = all-IsPermutation (λ (r : Reverse Head). is_before (event_at x) (event_at r.0)) ks (all_heads next new) p.0 stands.leads;
      }

  module _ (h : Head) (next : events_of (drop x.place (items_at lists x.itag)) ≡ event_at h ∷ events_of (drop h.place (items_at lists x.itag)))
      (le : h.place ≤ length (items_at lists x.itag)) where
    joined_later : AllByRecursion (λ (r : Reverse Head). is_before (event_at x) (event_at r.0) ≡ true) (record { 0 = h } ∷ ks)
    joined_later = (before_next h next, stands.leads)

    joined_total : (f : Event → ℕ) → f (event_at x) + total f (pending lists (record { 0 = h } ∷ ks)) ≡ total f (pending lists (record { 0 = x } ∷ ks))
    joined_total f =
        let a : total f (pending lists (record { 0 = h } ∷ ks)) ≡ total f (rest_of lists h) + total f (pending lists ks) =
        total-append f (rest_of lists h) (pending lists ks) in
        let b : total f (rest_of lists h) ≡ total f (events_of (drop x.place (items_at lists x.itag))) =
        ap (total f) (rest_is lists good x.itag x.place in_range ks ks h next) in
        let c : total f (pending lists (record { 0 = x } ∷ ks)) ≡ (f (event_at x) + total f (events_of (drop x.place (items_at lists x.itag))))
        + total f (pending lists ks) = head_total f in
        omega (arith, a, b, c)

    -- the next event of its itag is before all others
    pub goes_on : AllByRecursion (λ (r : Reverse Head). is_before (event_at h) (event_at r.0) ≡ true) ks → Goes lists x ks ks (Some h)
    goes_on leads = record {
      stands = record {
        in_heap = stands.in_heap;
        good = (head_good lists good x.itag x.place in_range ks ks h next le, stands.good.1);
        own = λ j. (
            let same : cond {A = ℕ} (h.itag == j) 1 0 ≡ cond (x.itag == j) 1 0 =
            ap (λ n. cond {A = ℕ} (n == j) 1 0) (own_itag lists good x.itag x.place in_range ks ks h next) in
            let o : cond (x.itag == j) 1 0 + heads_of j ks ≤ 1 = stands.own j in
            omega (arith, same, o)
            );
        leads = leads;
      };
      totals = joined_total;
      later = joined_later;
    }

    -- it joins the others, and the first of them is next
    pub goes_round : (mid new : List (Reverse Head)) (first : Option Head) → IsPermutation (record { 0 = h } ∷ ks) mid → KeepsHeap head_cmp ks mid
        → Pops mid new first → Goes lists x ks new first
    goes_round mid new first perm heap pops =
        let adds : Adds lists x.itag x.place ks mid = inr (h, (next, le, perm, heap)) in
        let p = popped lists mid new (added_ready lists good x.itag x.place in_range ks mid adds others_ready alone) first pops in
        record {
          stands = p.1;
          totals = λ f. (
              let a : total f (pending lists (all_heads first new)) ≡ total f (pending lists mid) = pending-IsPermutation lists f mid (all_heads first new) p.0 in
              let b : total f (pending lists mid) ≡ total f (pending lists (record { 0 = h } ∷ ks)) =
              pending-IsPermutation lists f (record { 0 = h } ∷ ks) mid perm in
              let c : f (event_at x) + total f (pending lists (record { 0 = h } ∷ ks)) ≡ total f (pending lists (record { 0 = x } ∷ ks)) = joined_total f in
              omega (arith, a, b, c)
              );
          later =
              all-IsPermutation (λ (r : Reverse Head). is_before (event_at x) (event_at r.0)) mid (all_heads first new) p.0
              (all-IsPermutation (λ (r : Reverse Head). is_before (event_at x) (event_at r.0)) (record { 0 = h } ∷ ks) mid perm joined_later);
        }

-- ---- the events so far
pub at_start : (lists : List (List Item)) (hs new : List (Reverse Head)) (next : Option Head) → Starts lists hs → Pops hs new next → SoFar lists [] next new
at_start lists hs new next starts pops =
    let p = popped lists hs new starts.ready next pops in
    record {
      stands = p.1;
      totals = λ f. (
          let a : total f (pending lists (all_heads next new)) ≡ total f (pending lists hs) = pending-IsPermutation lists f hs (all_heads next new) p.0 in
          let b : total f (pending lists hs) ≡ total f (all_events lists) = starts.totals f in
          omega (arith, a, b)
          );
      strict = tt;
      first = tt;
    }

pub turn : (lists : List (List Item)) (done : List Event) (x : Head) (old new : List (Reverse Head)) (next : Option Head) → SoFar lists done (Some x) old
    → Goes lists x old new next → SoFar lists (done ++ event_at x ∷ []) next new
turn lists done x old new next so_far goes = record {
  stands = goes.stands;
  totals = λ f. (
      let a : total f (done ++ event_at x ∷ []) ≡ total f done + (f (event_at x) + 0) = total-append f done (event_at x ∷ []) in
      let b : f (event_at x) + total f (pending lists (all_heads next new)) ≡ total f (pending lists (record { 0 = x } ∷ old)) = goes.totals f in
      let c : total f done + total f (pending lists (record { 0 = x } ∷ old)) ≡ total f (all_events lists) = so_far.totals f in
      omega (arith, a, b, c)
      );
  strict =
      strict-push done (event_at x) so_far.strict
      (all_map (λ (m : Event). AllByRecursion (λ (r : Reverse Head). is_before m (event_at r.0) ≡ true) (record { 0 = x } ∷ old))
      (λ (m : Event). is_before m (event_at x) ≡ true) done (λ m all. all.0) so_far.first);
  first =
      all_push (λ (m : Event). AllByRecursion (λ (r : Reverse Head). is_before m (event_at r.0) ≡ true) (all_heads next new)) done (event_at x)
      (all_map (λ (m : Event). AllByRecursion (λ (r : Reverse Head). is_before m (event_at r.0) ≡ true) (record { 0 = x } ∷ old))
      (λ (m : Event). AllByRecursion (λ (r : Reverse Head). is_before m (event_at r.0) ≡ true) (all_heads next new)) done
      (λ m all. all_map (λ (r : Reverse Head). is_before (event_at x) (event_at r.0) ≡ true) (λ (r : Reverse Head). is_before m (event_at r.0) ≡ true)
      (all_heads next new) (λ r later. before_trans m (event_at x) (event_at r.0) all.0 later) goes.later) so_far.first)
      goes.later;
}

pub fewer : (lists : List (List Item)) (x : Head) (old new : List (Reverse Head)) (next : Option Head) → Goes lists x old new next
    → total (λ (e : Event). 1) (pending lists (all_heads next new)) < total (λ (e : Event). 1) (pending lists (record { 0 = x } ∷ old))
fewer lists x old new next goes =
    let f : Event → ℕ = λ e. 1 in
    let t : 1 + total f (pending lists (all_heads next new)) ≡ total f (pending lists (record { 0 = x } ∷ old)) = goes.totals f in
    omega (arith, t)

-- at the end nothing is to come
pub ended : (lists : List (List Item)) (done : List Event) (others : List (Reverse Head)) → SoFar lists done None others → (events : List Event)
    → IsMerged lists events → events ≡ done
ended lists done others so_far =
    only_merged lists done so_far.strict (λ f. (
    let a : total f done + total f (pending lists others) ≡ total f (all_events lists) = so_far.totals f in
    let b : total f (pending lists others) ≡ 0 = ap (λ hs. total f (pending lists hs)) so_far.stands.leads in
    omega (arith, a, b)
    ))

pub all_came : (lists : List (List Item)) (old new : Coming) (next : Option Event) → next ≡ None → Yields old new next → (done : List Event) → IsBehind done old
    → listed old.streams.now ≡ lists → done ≡ merged lists
all_came lists old new next none yields done behind same =
    let own = listed old.streams.now in
    sym (subst (Yields old new) none yields done behind (merged own) (merged-IsMerged own)) ∙ ap merged same

-- ---- the first heads
pub record Begun (lists : List (List Item)) (i : ℕ) (hs : List (Reverse Head)) : Type 0 where
  pub ready : Ready lists hs
  pub totals : (f : Event → ℕ) → total f (pending lists hs) + total f (flat_map events_of (drop i lists)) ≡ total f (all_events lists)
  pub none_yet : (j : ℕ) → i ≤ j → heads_of j hs ≡ 0

pub begin : (lists : List (List Item)) (hs : List (Reverse Head)) → hs ≡ [] → IsHeap head_cmp hs → Begun lists 0 hs
begin lists hs e heap = record {
  ready = record {
    in_heap = heap;
    good = subst (AllByRecursion (λ r. is_good lists r ≡ true)) (sym e) tt;
    own = λ j. (let z : heads_of j hs ≡ 0 = ap (heads_of j) e in omega (arith, z));
  };
  totals = λ f. (let z : total f (pending lists hs) ≡ 0 = ap (λ ks. total f (pending lists ks)) e in omega (arith, z));
  none_yet = λ j le. ap (heads_of j) e;
}

pub begin_turn : (lists : List (List Item)) (good : are_streams 0 lists ≡ true) (i : ℕ) (hs new : List (Reverse Head)) → i < length lists → Begun lists i hs
    → Adds lists i 0 hs new → Begun lists (i + 1) new
begin_turn lists good i hs new lt begun adds = record {
  ready = added_ready lists good i 0 lt hs new adds begun.ready (begun.none_yet i (omega arith));
  totals = λ f. (
      let a : total f (pending lists new) ≡ total f (events_of (items_at lists i)) + total f (pending lists hs) = added_total lists good i 0 lt hs new adds f in
      let split : drop i lists ≡ items_at lists i ∷ drop (i + 1) lists = drop-cons lists i [] lt ∙ simp add-one in
      let b : total f (flat_map events_of (drop i lists)) ≡ total f (events_of (items_at lists i)) + total f (flat_map events_of (drop (i + 1) lists)) =
      ap (λ ls. total f (flat_map events_of ls)) split ∙ total-append f (events_of (items_at lists i)) (flat_map events_of (drop (i + 1) lists)) in
      let c : total f (pending lists hs) + total f (flat_map events_of (drop i lists)) ≡ total f (all_events lists) = begun.totals f in
      omega (arith, a, b, c)
      );
  none_yet = λ j le. (
      let a : heads_of j new ≤ cond (i == j) 1 0 + heads_of j hs = added_heads lists good i 0 lt hs new adds j in
      let b : cond {A = ℕ} (i == j) 1 0 ≡ 0 = ap (λ t. cond {A = ℕ} t 1 0) (apart_below i j (omega (arith, le))) in
      let c : heads_of j hs ≡ 0 = begun.none_yet j (omega arith) in
      omega (arith, a, b, c)
      );
}

pub begun_all : (lists : List (List Item)) (i : ℕ) (hs : List (Reverse Head)) → length lists ≤ i → Begun lists i hs → Starts lists hs
begun_all lists i hs le begun = record {
  ready = begun.ready;
  totals = λ f. (
      let a : total f (pending lists hs) + total f (flat_map events_of (drop i lists)) ≡ total f (all_events lists) = begun.totals f in
      let b : total f (flat_map events_of (drop i lists)) ≡ 0 = ap (λ ls. total f (flat_map events_of ls)) (drop_all i lists le) in
      omega (arith, a, b)
      );
}
