-- What counts agree after an event is counted, after a lot came down, and after two parts are joined.
use Rattle.std.proofs.Common.{◌≡◌, ◌<◌, ◌≤◌, ◌+◌, ℕ, true, false, cond, Some, List, length, inl, inr, refl, sym, ap, ◌∙◌, arith}
use Rattle.std.specs.Prelude.{◌==◌, slice_index}
use Rattle.std.proofs.lemmas.Bool.{cases_Bool, cases_lt}
use Rattle.std.proofs.lemmas.List.{get_or_past}
use Rattle.flu_lemmas.proofs.Tests.{not_both}
use Rattle.flu_lemmas.proofs.Listed.{taken_at}
use Rattle.flu_model.specs.Itags.{count_of_itags}
use Rattle.flu_laws.specs.Spans.{AreAtMost}
use Rattle.flu_laws.specs.Lots.{CountsOneMore}
use Rattle.flu_fork.specs.declared.content.Content.{Content}
use Rattle.flu_fork.specs.declared.lots.Ask.{Ask}
use Rattle.flu_fork.specs.declared.lots.Lot.{Lot}
use Rattle.flu_fork.specs.Classes.{own, below, above}
use Rattle.flu_fork.specs.Lots.{job, nodes, kids, setting_of, LotFits, LotsPaired, HasJoinedCounts}
use Rattle.flu_fork.specs.Serving.{LotCounts, GrownFrom, IsForkedFrom, CountsJustBefore, Served, GrowsFromBoth}
use Rattle.flu_worker.specs.Agreeing.{Agrees, Grows, IsTarget, IsForkedAt, left_loan, right_loan}
use Rattle.flu_worker.proofs.Mails.{CountsLike}
use Rattle.flu_worker.specs.LawsBelow.{LawsBelow}
use Rattle.flu_worker.proofs.CountLemmas.{alike_beyond, more_other, more_least, one_more_each}
use Rattle.flu_worker.proofs.Nodes.{own_below, above_not_below, own_not_above, own_not_left, own_not_right, left_below, right_below}

-- ---- one more event is counted
module _ (laws : LawsBelow) (k : Content) (w i : ℕ) (counts more_counts held upto more : List ℕ) (known : i < count_of_itags (job k))
    (mine : own (job k) (nodes k) w i ≡ true) (counted : CountsOneMore i counts more_counts) (one : CountsOneMore i upto more) where
  inside_here : below (job k) (nodes k) w i ≡ true
  inside_here = own_below laws k w i known mine

  pub agrees_more : Agrees k w counts held upto → Agrees k w more_counts held more
  agrees_more a = record {
    mine = λ j h. counted j ∙ ap (λ c. cond (j == i) (c + 1) c) (a.mine j h) ∙ sym (one j);
    over = λ j h. counted j ∙ ap (λ c. cond (j == i) (c + 1) c) (a.over j h) ∙ sym (one j);
    outside = λ j h. more_other i upto more one j (λ same. not_both _ (ap (below (job k) (nodes k) w) same ∙ inside_here) h) ∙ a.outside j h;
    inside = λ j h. (let b = a.inside j h in let c = more_least i upto more one j in omega arith);
    most = λ j. (let e = counted j in let f = one j in let le = one_more_each i j (slice_index counts j) (slice_index upto j) (a.most j) in omega arith);
  }

  pub grows_more : (tl tr : List ℕ) → Grows k w tl tr upto → Grows k w tl tr more
  grows_more tl tr g = record {
    left = λ l r e. record {
      inside =
          λ j h. more_other i upto more one j (λ same. not_both _ (ap (below (job k) (nodes k) l) (sym same) ∙ h) (own_not_left laws k w l r i e known mine))
          ∙ (g.left l r e).inside j h;
      outside = λ j. (let b = (g.left l r e).outside j in let c = more_least i upto more one j in omega arith);
    };
    right = λ l r e. record {
      inside =
          λ j h. more_other i upto more one j (λ same. not_both _ (ap (below (job k) (nodes k) r) (sym same) ∙ h) (own_not_right laws k w l r i e known mine))
          ∙ (g.right l r e).inside j h;
      outside = λ j. (let b = (g.right l r e).outside j in let c = more_least i upto more one j in omega arith);
    };
  }

-- ---- a lot comes down
module _ (laws : LawsBelow) (k : Content) (w : ℕ) (counts new given upto tl tr : List ℕ) (long : length counts ≡ count_of_itags (job k))
    (size : length upto ≡ count_of_itags (job k))
    (mine : (i : ℕ) → own (job k) (nodes k) w i ≡ true → slice_index counts i ≡ slice_index given i) (most : AreAtMost counts given)
    (grown : GrownFrom k w given upto) (like : CountsLike (above (job k) (nodes k) w) upto counts new) where
  pub counts_rise : AreAtMost counts upto
  counts_rise i = let a = most i in let b = grown.outside i in omega arith

  pub like_above : (i : ℕ) → above (job k) (nodes k) w i ≡ true → slice_index new i ≡ slice_index upto i
  like_above i over = like.counts_are i ∙ ap (λ t. cond t (slice_index upto i) (slice_index counts i)) over

  pub like_rest : (i : ℕ) → above (job k) (nodes k) w i ≡ false → slice_index new i ≡ slice_index counts i
  like_rest i not_over = like.counts_are i ∙ ap (λ t. cond t (slice_index upto i) (slice_index counts i)) not_over

  pub like_own : (i : ℕ) → own (job k) (nodes k) w i ≡ true → slice_index new i ≡ slice_index counts i
  like_own i own_i =
      elim (cases_lt i (count_of_itags (job k))) [
        | inl lt ↦ like_rest i (own_not_above laws k w i lt own_i)
        | inr ge ↦ alike_beyond (count_of_itags (job k)) new counts i (like.long ∙ long) long ge
      ]

  -- what the node owns is counted as in the lot
  own_as_held : (i : ℕ) → own (job k) (nodes k) w i ≡ true → slice_index counts i ≡ slice_index upto i
  own_as_held i own_i =
      elim (cases_lt i (count_of_itags (job k))) [
        | inl lt ↦ mine i own_i ∙ sym (grown.inside i (own_below laws k w i lt own_i))
        | inr ge ↦ alike_beyond (count_of_itags (job k)) counts upto i long size ge
      ]

  pub agrees_held : Agrees k w new upto upto
  agrees_held = record {
    mine = λ i h. like_own i h ∙ own_as_held i h;
    over = like_above;
    outside = λ i h. refl;
    inside = λ i h. omega arith;
    most = λ i. elim (cases_Bool (above (job k) (nodes k) w i)) [
      | inl over ↦ (let e = like_above i over in omega arith)
      | inr not_over ↦ (let e = like_rest i not_over in let le = counts_rise i in omega arith)
    ];
  }

  grown_inside : (v : ℕ) (taken : List ℕ) → GrownFrom k v taken given → (i : ℕ) → (i < count_of_itags (job k) → below (job k) (nodes k) w i ≡ true)
      → below (job k) (nodes k) v i ≡ true → slice_index upto i ≡ slice_index taken i
  grown_inside v taken g i within h =
      elim (cases_lt i (count_of_itags (job k))) [
        | inl lt ↦ grown.inside i (within lt) ∙ g.inside i h
        | inr ge ↦ (let a = get_or_past upto i 0 (omega arith) in let b = g.outside i in let c = grown.outside i in omega arith)
      ]

  pub grows_held : Grows k w tl tr given → Grows k w tl tr upto
  grows_held g = record {
    left = λ l r e. record {
      inside = λ i h. grown_inside l tl (g.left l r e) i (λ lt. left_below laws k w l r i e lt h) h;
      outside = λ i. (let a = grown.outside i in let b = (g.left l r e).outside i in omega arith);
    };
    right = λ l r e. record {
      inside = λ i h. grown_inside r tr (g.right l r e) i (λ lt. right_below laws k w l r i e lt h) h;
      outside = λ i. (let a = grown.outside i in let b = (g.right l r e).outside i in omega arith);
    };
  }

-- a lot whose counts are those counted agrees with itself
pub agrees_itself : (k : Content) (w : ℕ) (upto : List ℕ) → Agrees k w upto upto upto
agrees_itself k w upto = record { mine = λ i h. refl; over = λ i h. refl; outside = λ i h. refl; inside = λ i h. omega arith; most = λ i. omega arith }

pub grown_itself : (k : Content) (v : ℕ) (u : List ℕ) → GrownFrom k v u u
grown_itself k v u = record { inside = λ i h. refl; outside = λ i. omega arith }

-- ---- a target's event is just behind what is counted
module _ (laws : LawsBelow) (k : Content) (w : ℕ) (counts held upto : List ℕ) (agrees : Agrees k w counts held upto) (y : Ask)
    (target : IsTarget k w counts upto y)
    (prefix : Rattle.flu_fork.specs.Fitting.IsPrefix (job k) (Rattle.flu_fork.specs.Settings.moments (setting_of k)) upto) where
  pub own_just_before : CountsJustBefore k (own (job k) (nodes k) w) y upto
  own_just_before =
      laws.clear k (own (job k) (nodes k) w) y target.event upto prefix (sym target.next) target.is
      (λ j n z inside other d le at. target.clear_own j n z inside other d (let e = agrees.mine j inside in omega arith) at)

  pub above_just_before : own (job k) (nodes k) w y.itag.0 ≡ true → CountsJustBefore k (above (job k) (nodes k) w) y upto
  above_just_before mine =
      laws.clear k (above (job k) (nodes k) w) y target.event upto prefix (sym target.next) target.is
      (λ j n z inside other d le at. target.clear_above mine j n z inside other d (let e = agrees.over j inside in omega arith) at)

-- ---- two parts come together
module _ (laws : LawsBelow) (k : Content) (w l r : ℕ) (e : kids k w ≡ Some (l, r)) (counts : List ℕ) (long : length counts ≡ count_of_itags (job k))
    (held : LotCounts) (fork : List ℕ) (forked : IsForkedAt k w counts held fork) (y : Ask) (target : IsTarget k w counts fork y)
    (left right lot : Lot) (a : Served k l (left_loan held fork) y left) (b : Served k r (right_loan fork) y right)
    (left_fits : LotFits k l left) (right_fits : LotFits k r right) (fits : LotFits k w lot) (joined : HasJoinedCounts k w left right lot) where
  pub parts_paired : LotsPaired k l r left right
  parts_paired = laws.paired k l r held.since fork left right forked.since a.loan b.loan

  grows : GrowsFromBoth k l r left right lot
  grows = laws.grows k w l r held.since fork left right lot e left_fits.upto_each right_fits.upto_each a.loan b.loan joined

  at : (i : ℕ) → slice_index lot.upto i ≡ cond (below (job k) (nodes k) r i) (slice_index right.upto i) (slice_index left.upto i)
  at i = ap (λ u. slice_index u i) (joined.upto l r e)
      ∙ taken_at (below (job k) (nodes k) r) (count_of_itags (job k)) right.upto left.upto right_fits.upto_each left_fits.upto_each i

  fork_least : (i : ℕ) → slice_index fork i ≤ slice_index lot.upto i
  fork_least i =
      let more = grows.at_left.outside i in
      elim (cases_Bool (below (job k) (nodes k) l i)) [
        | inl h ↦ (let x = a.loan.inside i h in omega arith)
        | inr h ↦ (let x = a.loan.outside i h in omega arith)
      ]

  -- the node's own events are counted as they were
  own_as_forked : (i : ℕ) → own (job k) (nodes k) w i ≡ true → slice_index counts i ≡ slice_index lot.upto i
  own_as_forked i h =
      elim (cases_lt i (count_of_itags (job k))) [
        | inl lt ↦
            (let not_l = own_not_left laws k w l r i e lt h in
            let not_r = own_not_right laws k w l r i e lt h in
            forked.agrees.mine i h ∙ sym (a.loan.outside i not_l) ∙ sym (at i ∙ ap (λ t. cond t (slice_index right.upto i) (slice_index left.upto i)) not_r))
        | inr ge ↦ alike_beyond (count_of_itags (job k)) counts lot.upto i long fits.upto_each ge
      ]

  forked_from : IsForkedFrom k w held fork
  forked_from = record { outside = forked.agrees.outside; inside = forked.agrees.inside; first = forked.since }

  pub joined_next : y.index ≡ slice_index lot.upto y.itag.0
  joined_next = target.next ∙ elim target.place [
    | inl mine ↦ sym (forked.agrees.mine y.itag.0 mine) ∙ own_as_forked y.itag.0 mine
    | inr over ↦
        (let out = above_not_below laws k w y.itag.0 target.known over in
        elim (cases_Bool (below (job k) (nodes k) r y.itag.0)) [
          | inl h ↦ absurd (not_both _ (right_below laws k w l r y.itag.0 e target.known h) out)
          | inr not_r ↦ elim (cases_Bool (below (job k) (nodes k) l y.itag.0)) [
            | inl h ↦ absurd (not_both _ (left_below laws k w l r y.itag.0 e target.known h) out)
            | inr not_l ↦ sym (a.loan.outside y.itag.0 not_l)
                ∙ sym (at y.itag.0 ∙ ap (λ t. cond t (slice_index right.upto y.itag.0) (slice_index left.upto y.itag.0)) not_r)
          ]
        ])
  ]

  own_before : CountsJustBefore k (own (job k) (nodes k) w) y lot.upto
  own_before =
      laws.clear k (own (job k) (nodes k) w) y target.event lot.upto fits.prefix (sym joined_next) target.is
      (λ j n z inside other d le at_z. target.clear_own j n z inside other d (let q = own_as_forked j inside in omega arith) at_z)

  pub joined_served : Served k w held y lot
  joined_served = laws.joins k w l r held fork y left right lot e left_fits.upto_each forked_from a b joined own_before

  pub joined_agrees : Agrees k w counts held.upto lot.upto
  joined_agrees = record {
    mine = own_as_forked;
    over = λ i h. elim (cases_lt i (count_of_itags (job k))) [
      | inl lt ↦ (let out = above_not_below laws k w i lt h in forked.agrees.over i h ∙ forked.agrees.outside i out ∙ sym (joined_served.loan.outside i out))
      | inr ge ↦ alike_beyond (count_of_itags (job k)) counts lot.upto i long fits.upto_each ge
    ];
    outside = joined_served.loan.outside;
    inside = joined_served.loan.inside;
    most = λ i. (let x = forked.agrees.most i in let z = fork_least i in omega arith);
  }

  pub joined_target : IsTarget k w counts lot.upto y
  joined_target = record {
    known = target.known;
    next = joined_next;
    place = target.place;
    event = target.event;
    is = target.is;
    clear_own = target.clear_own;
    clear_above = target.clear_above;
    first_own = target.first_own;
    first_above = target.first_above;
  }

  pub joined_left_grown : GrownFrom k l left.upto lot.upto
  joined_left_grown = grows.at_left

  pub joined_right_grown : GrownFrom k r right.upto lot.upto
  joined_right_grown = grows.at_right
