-- What the keys of entries tell of passing, and of the first event.
use Rattle.std.proofs.Common.{◌≡◌, ◌<◌, ◌≤◌, ◌+◌, ℕ, zero, suc, Bool, true, false, cond, Option, Some, None}
use Rattle.std.proofs.Common.{List, [], ◌∷◌, length, take, get_or, refl, sym, ap, subst, ◌∙◌, inl, inr, arith}
use Rattle.std.specs.Prelude.{nat_lt, ◌==◌, ◌&&◌, ◌||◌, not, IfSome, IfNone, slice_get, slice_index, slice_index_or}
use Rattle.std.specs.List.{list_any, range_with_len}
use Rattle.std.proofs.Math.ListN.{set}
use Rattle.std.proofs.lemmas.Bool.{cases_eq, cases_lt}
use Rattle.std.proofs.lemmas.List.{length-set, take_all}
use Rattle.std.proofs.lemmas.Option.{get_or_from_slice_get, slice_get_within, slice_get-get_or}
use Rattle.flu_lemmas.specs.Elements.{AtEach}
use Rattle.flu_lemmas.proofs.Booleans.{and_false}
use Rattle.flu_lemmas.proofs.Elements.{each_set}
use Rattle.flu_lemmas.proofs.Places.{slice_index-map, slice_get-there}
use Rattle.flu_lemmas.proofs.Ranges.{not_any_in_range, all_of_range}
use Rattle.flu_lemmas.proofs.Replaced.{slice_get-set_same, slice_get-set_other}
use Rattle.flu_lemmas.proofs.Searches.{eq_true}
use Rattle.flu_lemmas.proofs.Tests.{lt_true, true_lt, not_both, not_true}
use Rattle.flu_model.specs.declared.events.Event.{Event}
use Rattle.flu_model.specs.declared.events.Item.{Item}
use Rattle.flu_model.specs.declared.events.Item.TheVariants.{Event as EventItem, Beat, End}
use Rattle.flu_model.specs.declared.events.Itag.{Itag}
use Rattle.flu_model.specs.declared.jobs.Program.{Program}
use Rattle.flu_model.specs.declared.plans.Node.{Node}
use Rattle.flu_model.specs.Itags.{count_of_itags}
use Rattle.flu_model.specs.Merging.{is_before, events_of}
use Rattle.flu_model.specs.Streaming.{is_stream_from, are_streams}
use Rattle.flu_deps.specs.Dependencies.{itags_depend}
use Rattle.flu_tables.specs.Lists.{itags_where}
use Rattle.flu_mail.specs.declared.entries.Entry.{Entry}
use Rattle.flu_mail.specs.declared.entries.Owner.{Owner}
use Rattle.flu_mail.specs.declared.entries.Owner.TheVariants.{Node as OfNode, Ancestor as OfAncestor}
use Rattle.flu_mail.specs.declared.keys.Key.{Key}
use Rattle.flu_mail.specs.declared.keys.Key.TheVariants.{Unseen, Next, Over}
use Rattle.flu_mail.specs.declared.mailbox.Mailbox.{Mailbox}
use Rattle.flu_mail.specs.declared.waiting.Purpose.{Purpose}
use Rattle.flu_mail.specs.declared.waiting.Purpose.TheVariants.{Take, Serve}
use Rattle.flu_mail.specs.Entries.{IsEntryOver, AreKeysOf, key_of, key_among, is_of}
use Rattle.flu_mail.specs.First.{HasNoFirst, IsNextOwn, IsFirstOwn}
use Rattle.flu_mail.specs.Keys.{is_less, key_at}
use Rattle.flu_mail.specs.LoopParts.{asks, holds_up, key_passes, least_passes}
use Rattle.flu_mail.specs.Mailboxes.{seen_of, counts_of, keys_of, owned_by, IsAt, IsOver}
use Rattle.flu_mail.specs.Orders.{IsLeastOf}
use Rattle.flu_mail.specs.Passing.{seen_items, next_event, passes, passes_with}
use Rattle.flu_mail.specs.Places.{place_of, time_in}
use Rattle.flu_mail.specs.Waiting.{itag}
use Rattle.flu_mail.proofs.ListLemmas.{any_listed}
use Rattle.flu_mail.proofs.MailboxLemmas.{length-seen, entry_there}
use Rattle.flu_mail.proofs.OrderLemmas.{earlier, not_less}
use Rattle.flu_mail.proofs.PassingLemmas.{before_or_after, event_of_stream, passes_when_clear, still_there}
use Rattle.flu_mail.proofs.PlaceLemmas.{place_there}
use Rattle.flu_mail.proofs.WaitingLemmas.{stream_of}

-- ---- the next event of an entry

-- there is one where its place was seen
next_there : (items : List Item) (seen count : ℕ) → place_of items count < seen → seen ≤ length items
    → (y : Event) × (next_event (take seen items) count ≡ Some y)
next_there [] seen count lt le = absurd (omega arith)
next_there (item ∷ rest) zero count lt le = absurd (omega arith)
next_there (EventItem x ∷ rest) (suc seen) zero lt le = (x, refl)
next_there (EventItem x ∷ rest) (suc seen) (suc count) lt le = next_there rest seen count (omega arith) (omega arith)
next_there (Beat t ∷ rest) (suc seen) count lt le = next_there rest seen count (omega arith) (omega arith)
next_there (End ∷ rest) (suc seen) count lt le = next_there rest seen count (omega arith) (omega arith)

-- and only there
next_seen : (items : List Item) (seen count : ℕ) (y : Event) → next_event (take seen items) count ≡ Some y → place_of items count < seen
next_seen [] zero count y e = cc
next_seen [] (suc seen) count y e = cc
next_seen (item ∷ rest) zero count y e = cc
next_seen (EventItem x ∷ rest) (suc seen) zero y e = omega arith
next_seen (EventItem x ∷ rest) (suc seen) (suc count) y e = let h = next_seen rest seen count y e in omega arith
next_seen (Beat t ∷ rest) (suc seen) count y e = let h = next_seen rest seen count y e in omega arith
next_seen (End ∷ rest) (suc seen) count y e = let h = next_seen rest seen count y e in omega arith

time_of_next : (items : List Item) (e : Entry) (y : Event) → IsEntryOver items e → next_event (take e.seen items) e.count ≡ Some y → e.time ≡ y.time
time_of_next items e y over is = over.time ∙ ap time_in (still_there items e.seen e.count y is)

false_le : (a b : ℕ) → nat_lt a b ≡ false → b ≤ a
false_le a b h = elim (cases_lt a b) [ inl lt ↦ absurd (not_both (nat_lt a b) (lt_true a b lt) h) | inr le ↦ le ]

-- ---- what a key lets pass

before_of : (purpose : Purpose) (x y : Event) (j t : ℕ) → t ≡ y.time → y.itag.0 ≡ j → asks purpose x.itag (itag j) ≡ true
    → key_passes purpose (Next t (itag j)) x ≡ true → is_before x y ≡ true
before_of Take x y j t time place asked h =
    before_or_after x y (λ e. not_both (j == x.itag.0) (eq_true j x.itag.0 (sym (e ∙ place))) (not_true (j == x.itag.0) asked))
    ((λ k. earlier (sym time k) (place k) x.time x.itag.0) ∙ not_true (earlier t j x.time x.itag.0) h)
before_of Serve x y j t time place asked h = (λ k. earlier x.time x.itag.0 (sym time k) (place k)) ∙ h

unseen_holds : (purpose : Purpose) (x : Event) → key_passes purpose Unseen x ≡ true → ⊥
unseen_holds Take x h = cc
unseen_holds Serve x h = cc

-- an entry whose next event was seen
next_passes : (items : List Item) (j : ℕ) (e : Entry) (purpose : Purpose) (x : Event) → is_stream_from j 0 items ≡ true → IsEntryOver items e
    → e.place < e.seen → asks purpose x.itag (itag j) ≡ true → key_passes purpose (Next e.time (itag j)) x ≡ true
    → passes (take e.seen items) e.count x ≡ true
next_passes items j e purpose x s over lt asked h =
    let at = over.place in
    let found = next_there items e.seen e.count (omega arith) over.seen in
    let whole = still_there items e.seen e.count found.0 found.1 in
    let place = (event_of_stream j 0 items e.count found.0 s whole).1 in
    ap (λ next. passes_with (take e.seen items) next x) found.1
    ∙ before_of purpose x found.0 j e.time (time_of_next items e found.0 over found.1) place asked h

-- an entry of which nothing is left
rest_passes : (items : List Item) (j : ℕ) (e : Entry) (x : Event) → is_stream_from j 0 items ≡ true → IsEntryOver items e → e.seen ≤ e.place
    → e.all ≤ e.seen → passes (take e.seen items) e.count x ≡ true
rest_passes items j e x s over none all =
    let long = over.all in
    let at = over.place in
    ap (λ is. passes is e.count x) (take_all e.seen items (omega arith))
    ∙ passes_when_clear j 0 items e.count x s
    (λ y is.
    let within = slice_get_within (events_of items) e.count y is in
    let there = place_there items e.count within in
    absurd (omega arith))

entry_passes : (items : List Item) (j : ℕ) (e : Entry) (purpose : Purpose) (x : Event) → is_stream_from j 0 items ≡ true → IsEntryOver items e
    → asks purpose x.itag (itag j) ≡ true → key_passes purpose (key_of e (itag j)) x ≡ true → passes (take e.seen items) e.count x ≡ true
entry_passes items j e purpose x s over asked h =
    elim (nat_lt e.place e.seen) as (λ b. nat_lt e.place e.seen ≡ b
    → key_passes purpose (cond b (Next e.time (itag j)) (cond (nat_lt e.seen e.all) Unseen Over)) x ≡ true → passes (take e.seen items) e.count x ≡ true) [
      | true ↦ λ seen k. next_passes items j e purpose x s over (true_lt e.place e.seen seen) asked k
      | false ↦ λ unseen k.
          (elim (nat_lt e.seen e.all) as (λ b. nat_lt e.seen e.all ≡ b → key_passes purpose (cond b Unseen Over) x ≡ true
          → passes (take e.seen items) e.count x ≡ true) [
            | true ↦ λ more g. absurd (unseen_holds purpose x g)
            | false ↦ λ all g. rest_passes items j e x s over (false_le e.place e.seen unseen) (false_le e.seen e.all all)
          ] refl k)
    ] refl h

-- what is let pass by a key is let pass by each that is not less
later_passes : (purpose : Purpose) (x : Event) (key q : Key) → is_less q key ≡ false → key_passes purpose key x ≡ true → key_passes purpose q x ≡ true
later_passes Take x key q le h = ap not (not_less q key (key_at x) le (not_true (is_less key (key_at x)) h))
later_passes Serve x key q le h =
    elim (is_less (key_at x) q) as (λ b. is_less (key_at x) q ≡ b → b ≡ true) [
      | true ↦ λ e. refl
      | false ↦ λ e. absurd (not_both (is_less (key_at x) key) h (not_less (key_at x) q key e le))
    ] refl

-- ---- the entries of a mailbox

-- the entry of an itag, and what it is over
pub record EntryAt (lists : List (List Item)) (m : Mailbox) (j : ℕ) : Type 0 where
  pub entry : Entry
  pub there : slice_get m.entries.items j ≡ Some entry
  pub seen : slice_index (seen_of m) j ≡ entry.seen
  pub count : slice_index (counts_of m) j ≡ entry.count
  pub over : IsEntryOver (slice_index_or lists j []) entry
  pub stream : is_stream_from j 0 (slice_index_or lists j []) ≡ true

pub entry_at : (lists : List (List Item)) (m : Mailbox) (j : ℕ) → are_streams 0 lists ≡ true → IsOver lists m → j < length lists → EntryAt lists m j
entry_at lists m j s over lt =
    let found = slice_get-there m.entries.items j (entry_there m (length lists) j over.one_each lt) in
    let same : 0 + j ≡ j = omega arith in
    record {
      entry = found.0;
      there = found.1;
      seen = slice_index-map (λ (e : Entry). e.seen) m.entries.items j found.0 found.1;
      count = slice_index-map (λ (e : Entry). e.count) m.entries.items j found.0 found.1;
      over = over.over_items j found.0 found.1;
      stream = subst (λ n. is_stream_from n 0 (slice_index_or lists j []) ≡ true) same (stream_of 0 lists j s lt);
    }

-- the key of an itag that has this owner
key_there : (p : Program) (nodes : List Node) (lists : List (List Item)) (m : Mailbox) (o : Owner) (j : ℕ) (e : Entry) → IsAt p nodes m → IsOver lists m
    → slice_get m.entries.items j ≡ Some e → owned_by p nodes m.node o (itag j) ≡ true → slice_get (keys_of o m) j ≡ Some (key_of e (itag j))
key_there p nodes lists m o j e at over there owned =
    (over.in_order o).each j e there ∙ ap (λ b. Some (key_among b e (itag j))) (at.owners o j e there ∙ owned)

none_in_range : (q : ℕ → Bool) (n : ℕ) → ((j : ℕ) → j < n → q j ≡ false) → list_any q (range_with_len 0 n) ≡ false
none_in_range q n each =
    not_true (list_any q (range_with_len 0 n))
    (not_any_in_range q (λ j. true) 0 n (λ j lt. ap not (each j (omega arith))) ∙ all_of_range (λ j. true) 0 n (λ j lt. refl))

-- where the least key of some itags lets x pass, none of them holds it up
none_holds_up : (p : Program) (nodes : List Node) (lists : List (List Item)) (m : Mailbox) (purpose : Purpose) (o : Owner) (key : Key) (x : Event)
    → are_streams 0 lists ≡ true → IsAt p nodes m → IsOver lists m → IsLeastOf (keys_of o m) key → key_passes purpose key x ≡ true
    → list_any (holds_up p m lists purpose x) (itags_where p (owned_by p nodes m.node o)) ≡ false
none_holds_up p nodes lists m purpose o key x s at over least h =
    let test = owned_by p nodes m.node o in
    any_listed p (holds_up p m lists purpose x) test
    ∙ none_in_range (λ j. test (itag j) && holds_up p m lists purpose x (itag j)) (count_of_itags p)
    (λ j lt.
    elim (test (itag j)) as (λ b. test (itag j) ≡ b → (b && holds_up p m lists purpose x (itag j)) ≡ false) [
      | true ↦ λ owned. by_asked j lt owned
      | false ↦ λ owned. refl
    ] refl)
  where
    pass : ℕ → Bool
    pass j = passes (seen_items lists (seen_of m) j) (slice_index (counts_of m) j) x

    near : ℕ → Bool
    near j = not m.leaf || itags_depend p x.itag (itag j)

    does_pass : (j : ℕ) → j < count_of_itags p → owned_by p nodes m.node o (itag j) ≡ true → asks purpose x.itag (itag j) ≡ true → pass j ≡ true
    does_pass j lt owned asked =
        let mine = at.one_each in
        let each = over.one_each in
        let here = entry_at lists m j s over (omega arith) in
        let less = least.least j (key_of here.entry (itag j)) (key_there p nodes lists m o j here.entry at over here.there owned) in
        (λ k. passes (take (here.seen k) (slice_index_or lists j [])) (here.count k) x)
        ∙ entry_passes (slice_index_or lists j []) j here.entry purpose x here.stream here.over asked
        (later_passes purpose x key (key_of here.entry (itag j)) less h)

    by_asked : (j : ℕ) → j < count_of_itags p → owned_by p nodes m.node o (itag j) ≡ true → holds_up p m lists purpose x (itag j) ≡ false
    by_asked j lt owned =
        elim (asks purpose x.itag (itag j)) as (λ b. asks purpose x.itag (itag j) ≡ b → ((b && near j) && not (pass j)) ≡ false) [
          | true ↦ λ asked. ap (λ b. near j && not b) (does_pass j lt owned asked) ∙ and_false (near j)
          | false ↦ λ asked. refl
        ] refl

pub least_holds_none : (p : Program) (nodes : List Node) (lists : List (List Item)) (m : Mailbox) (purpose : Purpose) (o : Owner) (key : Option Key) (x : Event)
    → are_streams 0 lists ≡ true → IsAt p nodes m → IsOver lists m → IfSome key (IsLeastOf (keys_of o m)) → least_passes purpose key x ≡ true
    → list_any (holds_up p m lists purpose x) (itags_where p (owned_by p nodes m.node o)) ≡ false
least_holds_none p nodes lists m purpose o None x s at over least h = cc
least_holds_none p nodes lists m purpose o (Some key) x s at over least h = none_holds_up p nodes lists m purpose o key x s at over least h

-- ---- the first event

next_key : (b : Bool) (e : Entry) (n t : ℕ) (i : Itag) → key_among b e (itag n) ≡ Next t i
    → (b ≡ true) × (e.time ≡ t) × (n ≡ i.0) × (e.place < e.seen)
next_key false e n t i h = cc
next_key true e n t i h =
    elim (nat_lt e.place e.seen) as (λ b. nat_lt e.place e.seen ≡ b → cond b (Next e.time (itag n)) (cond (nat_lt e.seen e.all) Unseen Over) ≡ Next t i
    → (true ≡ true) × (e.time ≡ t) × (n ≡ i.0) × (e.place < e.seen)) [
      | true ↦ λ lt k. (let time : e.time ≡ t = cc in let same : itag n ≡ i = cc in (refl, time, ap (λ (q : Itag). q.0) same, true_lt e.place e.seen lt))
      | false ↦ λ le k. (elim (nat_lt e.seen e.all) as (λ b. cond b Unseen Over ≡ Next t i
          → (true ≡ true) × (e.time ≡ t) × (n ≡ i.0) × (e.place < e.seen)) [
            | true ↦ λ g. cc
            | false ↦ λ g. cc
          ] k)
    ] refl h

unseen_key : (b : Bool) (e : Entry) (n : ℕ) → key_among b e (itag n) ≡ Unseen → (b ≡ true) × (e.seen ≤ e.place) × (e.seen < e.all)
unseen_key false e n h = cc
unseen_key true e n h =
    elim (nat_lt e.place e.seen) as (λ b. nat_lt e.place e.seen ≡ b → cond b (Next e.time (itag n)) (cond (nat_lt e.seen e.all) Unseen Over) ≡ Unseen
    → (true ≡ true) × (e.seen ≤ e.place) × (e.seen < e.all)) [
      | true ↦ λ lt k. cc
      | false ↦ λ le k. (elim (nat_lt e.seen e.all) as (λ b. nat_lt e.seen e.all ≡ b → cond b Unseen Over ≡ Unseen
          → (true ≡ true) × (e.seen ≤ e.place) × (e.seen < e.all)) [
            | true ↦ λ more g. (refl, false_le e.place e.seen le, true_lt e.seen e.all more)
            | false ↦ λ all g. cc
          ] refl k)
    ] refl h

-- where the least key of the node's itags is that of an event, its itag is the node's, and has this key
pub record FirstAt (m : Mailbox) (t : ℕ) (i : Itag) : Type 0 where
  pub entry : Entry
  pub there : slice_get m.entries.items i.0 ≡ Some entry
  pub own : entry.own ≡ true
  pub time : entry.time ≡ t
  pub seen : entry.place < entry.seen

pub first_at : (lists : List (List Item)) (m : Mailbox) (t : ℕ) (i : Itag) → IsOver lists m → IsLeastOf m.own (Next t i) → FirstAt m t i
first_at lists m t i over least =
    let keys = over.in_order OfNode in
    let within = slice_get_within m.own least.place (Next t i) least.there in
    let each = keys.one_each in
    let found = slice_get-there m.entries.items least.place (omega arith) in
    let both : Some (key_among found.0.own found.0 (itag least.place)) ≡ Some (Next t i) = sym (keys.each least.place found.0 found.1) ∙ least.there in
    let same : key_among found.0.own found.0 (itag least.place) ≡ Next t i = cc in
    let told = next_key found.0.own found.0 least.place t i same in
    record { entry = found.0; there = ap (slice_get m.entries.items) (sym told.2) ∙ found.1; own = told.0; time = told.1; seen = told.3 }

pub first_in_range : (lists : List (List Item)) (m : Mailbox) (t : ℕ) (i : Itag) → IsOver lists m → IsLeastOf m.own (Next t i) → i.0 < length lists
first_in_range lists m t i over least =
    let at = first_at lists m t i over least in
    let within = slice_get_within m.entries.items i.0 at.entry at.there in
    let each = over.one_each in
    let size = length-seen m in
    omega arith

key_of_next : (e : Entry) (i : Itag) → e.place < e.seen → key_of e i ≡ Next e.time i
key_of_next e i lt = ap (λ b. cond b (Next e.time i) (cond (nat_lt e.seen e.all) Unseen Over)) (lt_true e.place e.seen lt)

-- then its next event is the first of the node's own ones
pub is_first : (p : Program) (nodes : List Node) (lists : List (List Item)) (m : Mailbox) (t : ℕ) (i : Itag) (x : Event) → are_streams 0 lists ≡ true
    → IsAt p nodes m → IsOver lists m → IsLeastOf m.own (Next t i) → next_event (seen_items lists (seen_of m) i.0) (slice_index (counts_of m) i.0) ≡ Some x
    → x.itag ≡ i → IsFirstOwn p nodes lists m.node (seen_of m) (counts_of m) x
is_first p nodes lists m t i x s at over least is same = record {
  is = subst (λ (k : Itag). IsNextOwn p nodes lists m.node (seen_of m) (counts_of m) k.0 x) (sym same) here;
  first = not_before;
}
  where
    mine : FirstAt m t i
    mine = first_at lists m t i over least

    known : i.0 < count_of_itags p
    known =
        let within = slice_get_within m.entries.items i.0 mine.entry mine.there in
        let each = at.one_each in
        let size = length-seen m in
        omega arith

    here : IsNextOwn p nodes lists m.node (seen_of m) (counts_of m) i.0 x
    here = record { known = known; own = sym (at.owners OfNode i.0 mine.entry mine.there) ∙ mine.own; next = is }

    -- the time of a next event is that of its entry
    time_at : (j : ℕ) (e : Entry) (y : Event) → j < count_of_itags p → slice_get m.entries.items j ≡ Some e
        → next_event (seen_items lists (seen_of m) j) (slice_index (counts_of m) j) ≡ Some y → (e.time ≡ y.time) × (y.itag.0 ≡ j) × (e.place < e.seen)
    time_at j e y lt there next =
        let each = at.one_each in
        let all = over.one_each in
        let at_j = entry_at lists m j s over (omega arith) in
        let items = slice_index_or lists j [] in
        let one : Some e ≡ Some at_j.entry = sym there ∙ at_j.there in
        let equal : e ≡ at_j.entry = cc in
        let seen : slice_index (seen_of m) j ≡ e.seen = at_j.seen ∙ sym (ap (λ (z : Entry). z.seen) equal) in
        let count : slice_index (counts_of m) j ≡ e.count = at_j.count ∙ sym (ap (λ (z : Entry). z.count) equal) in
        let over_e : IsEntryOver items e = subst (IsEntryOver items) (sym equal) at_j.over in
        let told : next_event (take e.seen items) e.count ≡ Some y = (λ k. next_event (take (sym seen k) items) (sym count k)) ∙ next in
        let place = over_e.place in
        let lower = next_seen items e.seen e.count y told in (
          time_of_next items e y over_e told,
          (event_of_stream j 0 items e.count y at_j.stream (still_there items e.seen e.count y told)).1,
          omega arith,
        )

    not_before : (j : ℕ) (y : Event) → IsNextOwn p nodes lists m.node (seen_of m) (counts_of m) j y → is_before y x ≡ false
    not_before j y next =
        let each = at.one_each in
        let all = over.one_each in
        let at_j = entry_at lists m j s over (let lt = next.known in omega arith) in
        let yours = time_at j at_j.entry y next.known at_j.there next.next in
        let ours = time_at i.0 mine.entry x known mine.there is in
        let key = key_there p nodes lists m OfNode j at_j.entry at over at_j.there next.own ∙ ap (λ k. Some k) (key_of_next at_j.entry (itag j) yours.2) in
        let less = least.least j (Next at_j.entry.time (itag j)) key in
        let when : x.time ≡ t = sym ours.0 ∙ mine.time in
        (λ k. earlier (sym yours.0 k) (yours.1 k) (when k) (same k).0) ∙ less

-- ---- where no event is at hand

if_none : {X : Type 0} (o : Option X) (P : Type 0) → (o ≡ None → P) → IfNone o P
if_none None P h = h refl
if_none (Some x) P h = tt

-- the next event that is at hand is there
pub first_there : (p : Program) (nodes : List Node) (lists : List (List Item)) (m : Mailbox) (t : ℕ) (i : Itag) (o : Option Event) → are_streams 0 lists ≡ true
    → IsOver lists m → IsLeastOf m.own (Next t i) → o ≡ next_event (seen_items lists (seen_of m) i.0) (slice_index (counts_of m) i.0)
    → IfNone o (HasNoFirst p nodes lists m.node (seen_of m) (counts_of m))
first_there p nodes lists m t i o s over least is =
    let items = slice_index_or lists i.0 [] in
    let mine = first_at lists m t i over least in
    let e = mine.entry in
    let fits = over.over_items i.0 e mine.there in
    let seen = slice_index-map (λ (z : Entry). z.seen) m.entries.items i.0 e mine.there in
    let count = slice_index-map (λ (z : Entry). z.count) m.entries.items i.0 e mine.there in
    let place = fits.place in
    let lower = mine.seen in
    let found = next_there items e.seen e.count (omega arith) fits.seen in
    let there : o ≡ Some found.0 = is ∙ (λ k. next_event (take (seen k) items) (count k)) ∙ found.1 in
    if_none o (HasNoFirst p nodes lists m.node (seen_of m) (counts_of m)) (λ none. absurd (not_both_ways (sym none ∙ there)))
  where
    not_both_ways : {y : Event} → None ≡ Some y → ⊥
    not_both_ways same = cc

no_next : (items : List Item) (e : Entry) → IsEntryOver items e → e.seen ≤ e.place → next_event (take e.seen items) e.count ≡ None
no_next items e over le = by_next (next_event (take e.seen items) e.count) refl
  where
    by_next : (o : Option Event) → next_event (take e.seen items) e.count ≡ o → o ≡ None
    by_next None is = refl
    by_next (Some y) is = let place = over.place in let lower = next_seen items e.seen e.count y is in absurd (omega arith)

-- where the least key is unseen, the next event of its itag may come
pub one_may_come : (p : Program) (nodes : List Node) (lists : List (List Item)) (m : Mailbox) → IsAt p nodes m → IsOver lists m → IsLeastOf m.own Unseen
    → HasNoFirst p nodes lists m.node (seen_of m) (counts_of m)
one_may_come p nodes lists m at over least =
    let j = least.place in
    let items = slice_index_or lists least.place [] in
    let keys = over.in_order OfNode in
    let within = slice_get_within m.own least.place Unseen least.there in
    let each = keys.one_each in
    let mine = at.one_each in
    let size = length-seen m in
    let found = slice_get-there m.entries.items least.place (omega arith) in
    let e = found.0 in
    let both : Some (key_among found.0.own found.0 (itag least.place)) ≡ Some Unseen = sym (keys.each least.place found.0 found.1) ∙ least.there in
    let same : key_among found.0.own found.0 (itag least.place) ≡ Unseen = cc in
    let told = unseen_key found.0.own found.0 least.place same in
    let fits = over.over_items least.place found.0 found.1 in
    let seen = slice_index-map (λ (z : Entry). z.seen) m.entries.items least.place found.0 found.1 in
    let count = slice_index-map (λ (z : Entry). z.count) m.entries.items least.place found.0 found.1 in
    let all = fits.all in
    let lower = told.2 in
    inl (
      least.place,
      record {
        known = omega arith;
        own = sym (at.owners OfNode least.place found.0 found.1) ∙ told.0;
        next = (λ k. next_event (take (seen k) items) (count k)) ∙ no_next items found.0 fits told.1;
        more = omega arith;
      },
    )

-- where it is over, no own itag has a next event
pub none_is_next : (p : Program) (nodes : List Node) (lists : List (List Item)) (m : Mailbox) → are_streams 0 lists ≡ true → IsAt p nodes m → IsOver lists m
    → IsLeastOf m.own Over → HasNoFirst p nodes lists m.node (seen_of m) (counts_of m)
none_is_next p nodes lists m s at over least = inr by_next
  where
    not_so : true ≡ false → ⊥
    not_so h = cc

    by_next : (j : ℕ) (y : Event) → IsNextOwn p nodes lists m.node (seen_of m) (counts_of m) j y → ⊥
    by_next j y next =
        let items = slice_index_or lists j [] in
        let mine = at.one_each in
        let each = over.one_each in
        let here = entry_at lists m j s over (let lt = next.known in omega arith) in
        let e = here.entry in
        let told : next_event (take here.entry.seen items) here.entry.count ≡ Some y =
        (λ k. next_event (take (sym here.seen k) items) (sym here.count k)) ∙ next.next in
        let place = here.over.place in
        let lower = next_seen items here.entry.seen here.entry.count y told in
        let key = key_there p nodes lists m OfNode j here.entry at over here.there next.own
        ∙ ap (λ k. Some k) (key_of_next here.entry (itag j) (omega arith)) in
        let less = least.least j (Next here.entry.time (itag j)) key in
        not_so less

-- nor where there are no keys
pub none_is_known : (p : Program) (nodes : List Node) (lists : List (List Item)) (m : Mailbox) → IsAt p nodes m → IsOver lists m → m.own ≡ []
    → HasNoFirst p nodes lists m.node (seen_of m) (counts_of m)
none_is_known p nodes lists m at over none = inr by_next
  where
    by_next : (j : ℕ) (y : Event) → IsNextOwn p nodes lists m.node (seen_of m) (counts_of m) j y → ⊥
    by_next j y next =
        let long = (over.in_order OfNode).one_each in
        let empty = ap length none in
        let mine = at.one_each in
        let size = length-seen m in
        let lt = next.known in
        absurd (omega arith)

-- ---- the keys, as entries are made and change

abbrev pub KeyIs : (Entry → Bool) → List Entry → ℕ → Key → Type 0
KeyIs asked entries j q = (e : Entry) → slice_get entries j ≡ Some e → q ≡ key_among (asked e) e (itag j)

pub key_told : (asked : Entry → Bool) (entries : List Entry) (i : ℕ) (d e : Entry) (q : Key)
    → q ≡ key_among (asked (get_or entries i d)) (get_or entries i d) (itag i) → slice_get entries i ≡ Some e → q ≡ key_among (asked e) e (itag i)
key_told asked entries i d e q told is = told ∙ ap (λ z. key_among (asked z) z (itag i)) (get_or_from_slice_get entries i e d is)

pub keys_told : (asked : Entry → Bool) (entries : List Entry) (keys : List Key) → length keys ≡ length entries → AtEach (KeyIs asked entries) keys
    → AreKeysOf asked entries keys
keys_told asked entries keys long each = record {
  one_each = long;
  each = λ j e is.
      let within = slice_get_within entries j e is in
      let there = slice_get-get_or keys j Over (omega arith) in
      there ∙ ap (λ k. Some k) (each j (get_or keys j Over) there e is);
}

pub keys_unasked : (asked : Entry → Bool) (entries : List Entry) (keys : List Key) (i : ℕ) (e v : Entry) → slice_get entries i ≡ Some e → asked v ≡ asked e
    → asked v ≡ false → AreKeysOf asked entries keys → AreKeysOf asked (set entries i v) keys
keys_unasked asked entries keys i e v there same none are = record {
  one_each = are.one_each ∙ sym (length-set entries i v);
  each = each_set (λ j z. slice_get keys j ≡ Some (key_among (asked z) z (itag j))) entries i v are.each
      (are.each i e there ∙ ap (λ b. Some (key_among b e (itag i))) (sym same ∙ none) ∙ ap (λ b. Some (key_among b v (itag i))) (sym none));
}

pub keys_asked : (asked : Entry → Bool) (entries : List Entry) (keys : List Key) (i : ℕ) (e v : Entry) → slice_get entries i ≡ Some e
    → asked v ≡ true → AreKeysOf asked entries keys → AreKeysOf asked (set entries i v) (set keys i (key_of v (itag i)))
keys_asked asked entries keys i e v there all are = record {
  one_each = length-set keys i (key_of v (itag i)) ∙ are.one_each ∙ sym (length-set entries i v);
  each = λ j z is.
      elim (cases_eq j i) [
        | inl same ↦
            (let within = slice_get_within entries i e there in
            let long = are.one_each in
            let now : slice_get (set entries i v) i ≡ Some v = slice_get-set_same entries i v within in
            let both : Some v ≡ Some z = sym now ∙ ap (slice_get (set entries i v)) (sym same) ∙ is in
            let equal : v ≡ z = cc in
            ap (slice_get (set keys i (key_of v (itag i)))) same
            ∙ slice_get-set_same keys i (key_of v (itag i)) (omega arith)
            ∙ ap (λ b. Some (key_among b v (itag i))) (sym all)
            ∙ (λ k. Some (key_among (asked (equal k)) (equal k) (itag (sym same k)))))
        | inr other ↦
            slice_get-set_other keys i j (key_of v (itag i)) other
            ∙ are.each j z (sym (slice_get-set_other entries i j v other) ∙ is)
      ];
}

-- the keys of both orders
pub both_in_order : (m : Mailbox) → AreKeysOf (is_of OfNode) m.entries.items m.own → AreKeysOf (is_of OfAncestor) m.entries.items m.above → (o : Owner)
    → AreKeysOf (is_of o) m.entries.items (keys_of o m)
both_in_order m own above OfNode = own
both_in_order m own above OfAncestor = above

pub both_stay : (m n : Mailbox) → (AreKeysOf (is_of OfNode) m.entries.items m.own → AreKeysOf (is_of OfNode) n.entries.items n.own)
    → (AreKeysOf (is_of OfAncestor) m.entries.items m.above → AreKeysOf (is_of OfAncestor) n.entries.items n.above) → (o : Owner)
    → AreKeysOf (is_of o) m.entries.items (keys_of o m) → AreKeysOf (is_of o) n.entries.items (keys_of o n)
both_stay m n own above OfNode = own
both_stay m n own above OfAncestor = above
