-- What the case of the tests gives, by the laws of lots.
use Rattle.std.proofs.Common.{◌≡◌, ◌≢◌, ℕ, zero, suc, ◌+◌, ◌^◌, ◌<◌, ◌≤◌, Bool, true, false, ◌||◌, ◌==◌, ℤ, pos}
use Rattle.std.proofs.Common.{inl, inr, List, [], ◌∷◌, map, length, sym, refl, ap, ◌∙◌, subst, ne_eqb, arith, Some, None}
use Rattle.std.specs.Prelude.{◌↔◌, slice_get, slice_index, slice_index_or, slice_set}
use Rattle.std.specs.List.{range_with_len}
use Rattle.std.proofs.lemmas.Bool.{cases_eq}
use Rattle.std.proofs.lemmas.List.{get_or-set_same, get_or-set_other, length-set}
use Rattle.flu_lemmas.proofs.Searches.{eq_true}
use Rattle.flu_model.specs.declared.events.Event.{Event}
use Rattle.flu_model.specs.declared.events.Item.{Item}
use Rattle.flu_model.specs.Contents.{Contents}
use Rattle.flu_model.specs.Itags.{count_of_itags}
use Rattle.flu_model.specs.Merging.{is_before, events_of}
use Rattle.flu_model.specs.Owners.{owner_of}
use Rattle.flu_model.specs.Updates.{effect_of}
use Rattle.flu_cells.specs.Holding.{held}
use Rattle.flu_deps.specs.Dependencies.{itags_depend}
use Rattle.flu_laws.specs.Lots.{CountsOneMore}
use Rattle.flu_fork.specs.declared.content.Content.{Content}
use Rattle.flu_fork.specs.declared.lots.Lot.{Lot}
use Rattle.flu_fork.specs.Classes.{itag, own, below}
use Rattle.flu_fork.specs.Fitting.{Fits}
use Rattle.flu_fork.specs.Kin.{own_at, above_at, ItagsAreOfNodes, ItagsAreOfKids}
use Rattle.flu_fork.specs.Laws.{no_counts, CentralLaw}
use Rattle.flu_fork.specs.Lots.{job, nodes, kids, setting_of, LotFits}
use Rattle.flu_fork.specs.Places.{HasMoment, EventsHaveMoments}
use Rattle.flu_fork.specs.Serving.{AsksAbove, IsOnLoan, LeavesServe, ContentsAreSettings}
use Rattle.flu_fork.specs.Settings.{events_at}
use Rattle.flu_fork.specs.Streams.{IsEventAt, IsStreamExact, IsClearOf, ExactnessAgrees}
use Rattle.flu_thread_tests.specs.Rows.{event, row, HasShape, IsRow, first_read, no_events, IsServed}
use Rattle.flu_thread_tests.specs.Walks.{ComesNext, FitsOwner}

abbrev pub none : List ℕ
none = 0 ∷ 0 ∷ 0 ∷ []

abbrev pub one : List ℕ
one = 1 ∷ 0 ∷ 0 ∷ []

abbrev pub first : Event
first = event 1 0 (pos 5)

abbrev pub second : Event
second = event 2 1 (pos 7)

abbrev pub read : Event
read = event 3 2 (pos 0)

abbrev pub fourth : Event
fourth = event 4 0 (pos 2)

abbrev pub last : Event
last = event 5 2 (pos 0)

abbrev row_events : ℕ → List Event
row_events i = events_of (slice_index_or row i [])

one_owner : (v w : ℕ) → Some v ≡ Some w → v ≡ w
one_owner v w same = cc

none_there : (y : Event) → None ≡ Some y → ⊥
none_there y is = cc

-- what holds of each of the five events holds of every event
each : (P : ℕ → ℕ → Event → Type 0) → P 0 0 (event 1 0 (pos 5)) → P 0 1 (event 4 0 (pos 2)) → P 1 0 (event 2 1 (pos 7)) → P 2 0 (event 3 2 (pos 0))
    → P 2 1 (event 5 2 (pos 0))
    → (i l : ℕ) (y : Event) → slice_get (row_events i) l ≡ Some y → P i l y
each P a b c d e zero zero y is = subst (P 0 0) (let same : event 1 0 (pos 5) ≡ y = cc in same) a
each P a b c d e zero (suc zero) y is = subst (P 0 1) (let same : event 4 0 (pos 2) ≡ y = cc in same) b
each P a b c d e zero (suc (suc l)) y is = absurd (none_there y is)
each P a b c d e (suc zero) zero y is = subst (P 1 0) (let same : event 2 1 (pos 7) ≡ y = cc in same) c
each P a b c d e (suc zero) (suc l) y is = absurd (none_there y is)
each P a b c d e (suc (suc zero)) zero y is = subst (P 2 0) (let same : event 3 2 (pos 0) ≡ y = cc in same) d
each P a b c d e (suc (suc zero)) (suc zero) y is = subst (P 2 1) (let same : event 5 2 (pos 0) ≡ y = cc in same) e
each P a b c d e (suc (suc zero)) (suc (suc l)) y is = absurd (none_there y is)
each P a b c d e (suc (suc (suc i))) l y is = absurd (none_there y is)

events : (k : Content) → IsRow k → (i : ℕ) → events_at (setting_of k) i ≡ row_events i
events k r i = ap (λ (lists : List (List Item)). events_of (slice_index_or lists i [])) r.streams

known : (k : Content) → IsRow k → (i l : ℕ) (y : Event) → IsEventAt (setting_of k) i l y → slice_get (row_events i) l ≡ Some y
known k r i l y at = subst (λ (es : List Event). slice_get es l ≡ Some y) (events k r i) at

pub there : (k : Content) → IsRow k → (i l : ℕ) (y : Event) → slice_get (row_events i) l ≡ Some y → IsEventAt (setting_of k) i l y
there k r i l y at = subst (λ (es : List Event). slice_get es l ≡ Some y) (sym (events k r i)) at

pub zeros : (k : Content) → HasShape k → no_counts (job k) ≡ none
zeros k s = ap (λ (n : ℕ). map (λ (i : ℕ). 0) (range_with_len 0 n)) s.itags

nothing : (j : ℕ) → slice_index none j ≡ 0
nothing zero = refl
nothing (suc zero) = refl
nothing (suc (suc zero)) = refl
nothing (suc (suc (suc j))) = refl

-- the first read may be asked for
pub asks : (k : Content) → IsRow k → ContentsAreSettings → ItagsAreOfNodes → ItagsAreOfKids → AsksAbove k 1 first_read
asks k r settings of_nodes of_kids =
    let shape = r.shape in
    let small : 2 < count_of_itags (job k) = (let c = shape.itags in omega arith) in
    let owner = (of_nodes (setting_of k) 0 2 (settings k) small).owner in
    let mine : own_at (setting_of k) 0 2 ≡ true = owner.1 shape.reads in
    let kids = of_kids (setting_of k) 0 1 2 2 (settings k) shape.root small in
    record {
      known = small;
      above = kids.above_left ∙ ap (λ (b : Bool). b || above_at (setting_of k) 0 2) mine;
      there = subst (λ (es : List Event). 0 < length es) (sym (events k r 2)) (omega arith);
    }

-- ---- an event that comes next

-- one more is counted
one_more : (us : List ℕ) (i : ℕ) → i < length us → CountsOneMore i us (slice_set us i (slice_index us i + 1))
one_more us i lt j =
    elim (cases_eq j i) [
      | inl same ↦
          ap (slice_index (slice_set us i (slice_index us i + 1))) same ∙ get_or-set_same us i _ 0 lt
          ∙ (let there : (j == i) ≡ true = eq_true j i same in rw there (ap (λ (n : ℕ). slice_index us n + 1) (sym same)))
      | inr other ↦ get_or-set_other us i j _ 0 other ∙ (let there : (j == i) ≡ false = ne_eqb j i other in rw there refl)
    ]

module _ (k : Content) (old : Lot) (x : Event) (next : ComesNext k old x) (h : HasMoment (setting_of k) x.itag.0 (slice_index old.upto x.itag.0) x) where
  abbrev counted : List ℕ
  counted = slice_set old.upto x.itag.0 (slice_index old.upto x.itag.0 + 1)

  well : ContentsAreSettings → ExactnessAgrees → CentralLaw → (w : ℕ) → owner_of (job k) (nodes k) x.itag ≡ Some w → LotFits k w old
      → Fits (setting_of k) w (effect_of (job k) (held old.state) x).cells old.since counted
  well settings agrees central w owner fits =
      let lt : x.itag.0 < length old.upto = (let each = next.each in let known = next.known in omega arith) in
      let at : (x, slice_index old.upto x.itag.0) ≡ ((h.moment).event, (h.moment).index) = λ j. (sym h.event j, sym h.index j) in
      let good = (agrees (setting_of k) h.front h.back h.moment old.upto (settings k) h.stands).1
      (subst (λ (z : Event × ℕ). IsStreamExact (setting_of k) z.0.itag.0 z.1 z.0 old.upto) at next.exact) in
      let owned = subst (λ (e : Event). owner_of (job k) (nodes k) e.itag ≡ Some w) (sym h.event) owner in
      let more = subst (λ (e : Event). CountsOneMore e.itag.0 old.upto counted) (sym h.event) (one_more old.upto x.itag.0 lt) in
      let told = central (setting_of k) w h.front h.back h.moment (held old.state) old.since old.upto counted (settings k) owned h.stands good
      (length-set old.upto x.itag.0 _ ∙ next.each) more fits in
      subst (λ (e : Event). Fits (setting_of k) w (effect_of (job k) (held old.state) e).cells old.since counted) h.event told.fits

pub takes_fit : (k : Content) (old new : Lot) (x : Event) → ContentsAreSettings → EventsHaveMoments → ExactnessAgrees → CentralLaw → ComesNext k old x
    → FitsOwner k x old → held new.state ≡ (effect_of (job k) (held old.state) x).cells → new.since ≡ old.since
    → new.upto ≡ slice_set old.upto x.itag.0 (slice_index old.upto x.itag.0 + 1) → FitsOwner k x new
takes_fit k old new x settings moments agrees central next fits cells since upto w owner =
    let h = moments (setting_of k) x.itag.0 (slice_index old.upto x.itag.0) x (settings k) next.there in
    subst (λ (z : Contents × List ℕ × List ℕ). Fits (setting_of k) w z.0 z.1 z.2) (λ j. (sym cells j, sym since j, sym upto j))
    (well k old x next h settings agrees central w owner (fits w owner))

-- ---- the events of the walk

-- what exactness for an event asks of each event
abbrev AsksOf : Content → ℕ → Event → List ℕ → ℕ → ℕ → Event → Type 0
AsksOf k i x upto j l y = itags_depend (job k) (itag i) (itag j) ≡ true → (l < slice_index upto j) ↔ (is_before y x ≡ true)

module _ (k : Content) (i : ℕ) (x : Event) (upto : List ℕ) (j l : ℕ) (y : Event) where
  behind : slice_index upto j ≤ l → is_before y x ≡ false → AsksOf k i x upto j l y
  behind le later dep = ((λ less. absurd (omega arith)), (λ earlier. absurd cc))

comes : (k : Content) → IsRow k → (t i : ℕ) (v : ℤ) (upto : List ℕ) (lot : Lot) → lot.upto ≡ upto → length upto ≡ 3 → i < 3
    → slice_get (row_events i) (slice_index upto i) ≡ Some (event t i v) → slice_index upto i + 1 < 2 ^ 64
    → ((j l : ℕ) (y : Event) → slice_get (row_events j) l ≡ Some y → AsksOf k i (event t i v) upto j l y) → ComesNext k lot (event t i v)
comes k r t i v upto lot are long small at room exact = record {
  each = ap (λ (us : List ℕ). length us) are ∙ long ∙ sym r.shape.itags;
  known = subst (λ (n : ℕ). i < n) (sym r.shape.itags) small;
  there = subst (λ (us : List ℕ). IsEventAt (setting_of k) i (slice_index us i) (event t i v)) (sym are) (there k r i (slice_index upto i) (event t i v) at);
  exact = subst (λ (us : List ℕ). IsStreamExact (setting_of k) i (slice_index us i) (event t i v) us) (sym are)
      (record { next = refl; others = λ j l y is. exact j l y (known k r j l y is) });
  room = subst (λ (us : List ℕ). slice_index us i + 1 < 2 ^ 64) (sym are) room;
}

pub first_comes : (k : Content) → IsRow k → (lot : Lot) → lot.upto ≡ none → ComesNext k lot first
first_comes k r lot are =
    comes k r 1 0 (pos 5) none lot are refl (omega arith) refl (omega arith)
    (let x = first in
    each (AsksOf k 0 x none) (behind k 0 x none 0 0 first (omega arith) refl) (behind k 0 x none 0 1 fourth (omega arith) refl)
    (behind k 0 x none 1 0 second (omega arith) refl) (behind k 0 x none 2 0 read (omega arith) refl) (behind k 0 x none 2 1 last (omega arith) refl))

pub fits_owner : (k : Content) (v : ℕ) (x : Event) (lot : Lot) → owner_of (job k) (nodes k) x.itag ≡ Some v → LotFits k v lot → FitsOwner k x lot
fits_owner k v x lot owner fits w other = subst (λ (u : ℕ). LotFits k u lot) (one_owner v w (sym owner ∙ other)) fits

-- ---- and the first read, for which the leaf gives its lot

on_loan : (k : Content) → IsRow k → ContentsAreSettings → ItagsAreOfNodes → (lot : Lot) → lot.since ≡ none → lot.upto ≡ one → IsOnLoan k 1 no_events lot
on_loan k r settings of_nodes lot since upto = record {
  since = since;
  outside = λ i away. subst (λ (us : List ℕ). slice_index us i ≡ slice_index none i) (sym upto) (outside i away);
  inside = λ i within. let z = nothing i in omega arith;
}
  where
    outside : (i : ℕ) → below (job k) (nodes k) 1 i ≡ false → slice_index one i ≡ slice_index none i
    outside zero away =
        let small : 0 < count_of_itags (job k) = (let c = r.shape.itags in omega arith) in
        let n = of_nodes (setting_of k) 1 0 (settings k) small in
        let within : below (job k) (nodes k) 1 0 ≡ true = n.own ((n.owner).1 r.shape.left) in absurd cc
    outside (suc zero) away = refl
    outside (suc (suc zero)) away = refl
    outside (suc (suc (suc i))) away = refl

-- whether an event is one that the leaf has counted, or after the read, or not the leaf's
abbrev Clear : Content → ℕ → ℕ → Event → Type 0
Clear k j l y = own (job k) (nodes k) 1 j ≡ true → j ≢ 2 → slice_index one j ≤ l → is_before read y ≡ true

pub clear : (k : Content) → IsRow k → ContentsAreSettings → ItagsAreOfNodes → IsClearOf (setting_of k) (own (job k) (nodes k) 1) one read
clear k r settings of_nodes j l y mine other dep least at =
    each (Clear k)
    (λ mine other least. absurd (omega arith))
    (λ mine other least. refl)
    (λ mine other least. absurd (not_mine mine))
    (λ mine other least. absurd (other refl))
    (λ mine other least. absurd (other refl))
    j l y (known k r j l y at) mine other least
  where
    not_mine : own (job k) (nodes k) 1 1 ≡ true → ⊥
    not_mine mine =
        let small : 1 < count_of_itags (job k) = (let c = r.shape.itags in omega arith) in
        let owner = ((of_nodes (setting_of k) 1 1 (settings k) small).owner).0 mine in
        let same = one_owner 1 2 (sym owner ∙ r.shape.right) in omega arith

pub serves : (k : Content) → IsRow k → ContentsAreSettings → ItagsAreOfNodes → LeavesServe → (lot : Lot) → LotFits k 1 lot → lot.since ≡ none → lot.upto ≡ one
    → IsServed k lot
serves k r settings of_nodes leaves lot fits since upto = record {
  fits = fits;
  served = leaves k 1 no_events first_read read lot r.shape.leaf (let c = r.shape.count in omega arith) fits (on_loan k r settings of_nodes lot since upto)
      (ap (λ (us : List ℕ). slice_index us 2) upto) (there k r 2 0 read refl)
      (subst (λ (us : List ℕ). IsClearOf (setting_of k) (own (job k) (nodes k) 1) us read) (sym upto) (clear k r settings of_nodes));
}
