-- One lot goes down the left leaf's link and comes back, again and again.
use Rattle.std.proofs.Common.{◌≡◌, ◌≤◌, ℕ, List, sym, refl, ap, ◌∙◌, subst, arith}
use Rattle.std.specs.Prelude.{slice_index}
use Rattle.flu_fork.specs.declared.content.Content.{Content}
use Rattle.flu_fork.specs.declared.lots.Lot.{Lot}
use Rattle.flu_fork.specs.Classes.{own}
use Rattle.flu_fork.specs.Kin.{ItagsAreOfNodes, ItagsAreOfKids}
use Rattle.flu_fork.specs.Laws.{no_counts}
use Rattle.flu_fork.specs.Lots.{job, nodes, setting_of, LotFits}
use Rattle.flu_fork.specs.Serving.{LotCounts, AsksAbove, LeavesServe, Served, counts_of, ContentsAreSettings}
use Rattle.flu_fork.specs.Streams.{IsClearOf}
use Rattle.flu_link.specs.Notes.{UpperNote, LowerNote, upper_start, lower_start, after_give}
use Rattle.flu_thread_tests.specs.Passing.{IsFree, IsOut, MayGo, IsTaken, IsBelow, Holds}
use Rattle.flu_thread_tests.specs.Rows.{IsRow, first_read, IsUnused, IsServed}
use Rattle.flu_thread_tests.proofs.RowLemmas.{none, one, read, zeros, asks, there, clear}

at_most : (a b i : ℕ) → a ≡ b → b ≤ a
at_most a b i same = omega arith

-- ---- a new link

pub free_first : (k : Content) (u : UpperNote) → IsRow k → u ≡ upper_start u.link k 1 → IsFree u
free_first k u r is = subst IsFree (sym is) (record { at = record { row = r; lower = refl }; taken = refl; phase = refl })

pub below_first : (k : Content) (l : LowerNote) → IsRow k → l ≡ lower_start l.link k 1 → IsBelow l
below_first k l r is = subst IsBelow (sym is) (record { row = r; lower = refl })

pub goes_first : (k : Content) (u : UpperNote) (lot : Lot) → IsRow k → u ≡ upper_start u.link k 1 → IsUnused k lot → MayGo u lot
goes_first k u lot r is unused =
    let same : lot.upto ≡ no_counts (job k) = unused.upto ∙ sym (zeros k r.shape) in
    subst (λ (x : UpperNote). MayGo x lot) (sym is) (record {
      fits = unused.fits;
      grown = record {
        inside = λ i within. ap (λ (us : List ℕ). slice_index us i) same;
        outside = λ i. at_most _ _ i (ap (λ (us : List ℕ). slice_index us i) same);
      };
      next = ap (λ (us : List ℕ). slice_index us 2) unused.upto;
    })

-- ---- above

pub asks_here : (u : UpperNote) → ContentsAreSettings → ItagsAreOfNodes → ItagsAreOfKids → IsOut u → AsksAbove u.case u.lower first_read
asks_here u settings of_nodes of_kids o =
    subst (λ (v : ℕ). AsksAbove u.case v first_read) (sym o.at.lower) (asks u.case o.at.row settings of_nodes of_kids)

pub goes_again : (u : UpperNote) (lot : Lot) → IsTaken u lot → lot.upto ≡ one → MayGo u lot
goes_again u lot t upto = record {
  fits = t.fits;
  grown = record {
    inside = λ i within. ap (λ (us : List ℕ). slice_index us i) (sym t.received);
    outside = λ i. at_most _ _ i (ap (λ (us : List ℕ). slice_index us i) (sym t.received));
  };
  next = ap (λ (us : List ℕ). slice_index us 2) upto;
}

-- ---- below

pub stays_below : (l m : LowerNote) (lot : Lot) → IsBelow l → m ≡ after_give l lot → IsBelow m
stays_below l m lot at is = subst IsBelow (sym is) (record { row = at.row; lower = at.lower })

pub first_fits : (k : Content) (l : LowerNote) (first : Lot) → l.case ≡ k → IsServed k first → LotFits l.case 1 first
first_fits k l first case s = subst (λ (c : Content). LotFits c 1 first) (sym case) s.fits

pub serves_first : (k : Content) (l : LowerNote) (lot first : Lot) → l.case ≡ k → Holds l lot → lot.since ≡ none → lot.upto ≡ none → IsServed k first
    → Served l.case 1 l.held first_read first
serves_first k l lot first case h since upto s =
    let held : l.held ≡ record { since = none; upto = none } = h.held ∙ (λ j. record { since = since j; upto = upto j }) in
    subst (λ (z : Content × LotCounts). Served z.0 1 z.1 first_read first) (λ j. (sym case j, sym held j)) s.served

pub serves_again : (l : LowerNote) (lot : Lot) → ContentsAreSettings → ItagsAreOfNodes → LeavesServe → Holds l lot → lot.upto ≡ one
    → Served l.case 1 l.held first_read lot
serves_again l lot settings of_nodes leaves h upto =
    let k = l.case in
    let r = h.at.row in
    subst (λ (c : LotCounts). Served k 1 c first_read lot) (sym h.held)
    (leaves k 1 (counts_of lot) first_read read lot r.shape.leaf (let c = r.shape.count in omega arith) h.fits
    (record { since = refl; outside = λ i away. refl; inside = λ i within. at_most _ _ i refl })
    (ap (λ (us : List ℕ). slice_index us 2) upto) (there k r 2 0 read refl)
    (subst (λ (us : List ℕ). IsClearOf (setting_of k) (own (job k) (nodes k) 1) us read) (sym upto) (clear k r settings of_nodes)))
