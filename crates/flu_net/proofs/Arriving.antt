-- An arrival keeps the rule of the net.
use Rattle.std.proofs.Common.{◌≡◌, ◌<◌, ◌≤◌, ◌+◌, ℕ, zero, suc, Some, List, [], ◌∷◌, length, map, set, true, inl, inr, refl, sym, ap, subst, ◌∙◌, arith}
use Rattle.std.specs.Prelude.{slice_get, slice_index, slice_index_or}
use Rattle.std.proofs.lemmas.Bool.{cases_eq, cases_lt}
use Rattle.std.proofs.lemmas.List.{get_or-set_same, get_or-set_other, get_or_past, length-set, length-map}
use Rattle.std.proofs.lemmas.Option.{same_Some}
use Rattle.flu_lemmas.proofs.Tests.{true_lt}
use Rattle.flu_model.specs.declared.events.Item.{Item}
use Rattle.flu_model.specs.declared.events.Itag.{Itag}
use Rattle.flu_model.specs.Listed.{listed}
use Rattle.flu_fork.specs.declared.content.Content.{Content}
use Rattle.flu_fork.specs.declared.lots.Ask.{Ask}
use Rattle.flu_fork.specs.Serving.{LotCounts, counts_of}
use Rattle.flu_worker.specs.declared.hand.Side.{Side}
use Rattle.flu_worker.specs.declared.hand.Side.TheVariants.{Left, Right}
use Rattle.flu_worker.specs.Hands.{at_side}
use Rattle.flu_worker.specs.Notes.{WorkerNote}
use Rattle.flu_worker.specs.Ties.{IsLoan, IsRecalled}
use Rattle.flu_net.specs.declared.edges.Edge.{Edge}
use Rattle.flu_net.specs.declared.edges.Edge.TheVariants.{Home, Lent, Held, Asked, Given}
use Rattle.flu_net.specs.Effects.{seeing, arrived}
use Rattle.flu_net.specs.Enabled.{may_arrive}
use Rattle.flu_net.specs.Notes.{NetNote}
use Rattle.flu_net.specs.Rule.{Hangs, Lets, IsPlaced, IsSeen, Rule, Stands, Ties}
use Rattle.flu_net.specs.Showing.{AllMaySee}

pub mapped_from : {X : Type 0} (f : X → X) (xs : List X) (w : ℕ) (y : X) → slice_get (map f xs) w ≡ Some y → (x : X) × (slice_get xs w ≡ Some x) × (f x ≡ y)
mapped_from f [] w y e = cc
mapped_from f (x ∷ xs) zero y e = (x, refl, same_Some (f x) y e)
mapped_from f (x ∷ xs) (suc w) y e = mapped_from f xs w y e

hangs_seen : (i count : ℕ) (n : WorkerNote) (e : Edge) → Hangs n e → Hangs (seeing i count n) e
hangs_seen i count n Home h = h
hangs_seen i count n (Lent lot) h = record { shut = h.shut; fits = h.fits; grown = h.grown }
hangs_seen i count n Held h = h
hangs_seen i count n (Asked y) h = record { opened = h.opened; above = h.above; next = h.next }
hangs_seen i count n (Given lot) h = record { shut = h.shut; fits = h.fits; given = h.given }

loan_seen : (i count : ℕ) (s : Side) (n : WorkerNote) (lent : LotCounts) (given : List ℕ) → IsLoan s n lent given → IsLoan s (seeing i count n) lent given
loan_seen i count Left n lent given t = record { lent = t.lent; given = t.given }
loan_seen i count Right n lent given t = record { lent = t.lent; given = t.given }

recalled_seen : (i count : ℕ) (s : Side) (n : WorkerNote) (y : Ask) → IsRecalled s n y → IsRecalled s (seeing i count n) y
recalled_seen i count s n y t = record { take = t.take; kept = t.kept }

lets_seen : (i count : ℕ) (s : Side) (n : WorkerNote) (e : Edge) (c : WorkerNote) → Lets s n e c → Lets s (seeing i count n) e (seeing i count c)
lets_seen i count Left n Home c t = record { home = t.home; given = t.given }
lets_seen i count Right n Home c t = record { home = t.home; given = t.given }
lets_seen i count s n (Lent lot) c t = record { out = t.out; loan = loan_seen i count s n (counts_of lot) c.given t.loan }
lets_seen i count s n Held c t = record { out = t.out; loan = loan_seen i count s n c.held c.given t.loan }
lets_seen i count s n (Asked y) c t = record { recalled = recalled_seen i count s n y t.recalled; loan = loan_seen i count s n c.held c.given t.loan }
lets_seen i count Left n (Given lot) c t = record { target = t.target; recalled = recalled_seen i count Left n t.target t.recalled; served = t.served }
lets_seen i count Right n (Given lot) c t = record { target = t.target; recalled = recalled_seen i count Right n t.target t.recalled; served = t.served }

module _ (old : NetNote) (rule : Rule old) (i : Itag) (may : may_arrive old i ≡ true) where
  abbrev items : List Item
  items = slice_index_or (listed old.case.streams) i.0 []

  abbrev pub count : ℕ
  count = slice_index old.seen i.0 + 1

  pub fewer : slice_index old.seen i.0 < length items
  fewer = true_lt (slice_index old.seen i.0) (length items) may

  pub in_range : i.0 < length (listed old.case.streams)
  in_range = elim (cases_lt i.0 (length (listed old.case.streams))) [
    | inl lt ↦ lt
    | inr ge ↦
        let nothing : length items ≡ 0 = ap length (get_or_past (listed old.case.streams) i.0 [] ge) in
        let some = fewer in
        absurd (omega arith)
  ]

  pub in_seen : i.0 < length old.seen
  in_seen = let a = in_range in let b = rule.seen.one_each in let c = old.case.one_each in omega arith

  pub all_may_see : AllMaySee old.case i.0 count old.workers
  all_may_see = λ w n at.
      let placed = rule.ties.placed w n at in
      record {
        case = sym placed.case;
        in_range = subst (λ (s : List ℕ). i.0 < length s) (sym placed.sees) in_seen;
        forward = subst (λ (s : List ℕ). slice_index s i.0 ≤ count) (sym placed.sees) (omega arith);
        there = subst (λ (j : Content). count ≤ length (slice_index_or (listed j.streams) i.0 [])) (sym placed.case) (let a = fewer in omega arith);
      }

  seen_more : IsSeen old.case (set old.seen i.0 count)
  seen_more = record {
    one_each = length-set old.seen i.0 count ∙ rule.seen.one_each;
    there = λ j. elim (cases_eq j i.0) as (λ _. slice_index (set old.seen i.0 count) j ≤ length (slice_index_or (listed old.case.streams) j [])) [
      | inl same ↦
          subst (λ x. slice_index (set old.seen i.0 count) x ≤ length (slice_index_or (listed old.case.streams) x [])) (sym same)
          (let a = get_or-set_same old.seen i.0 count 0 in_seen in let b = fewer in omega arith)
      | inr other ↦ (let a = get_or-set_other old.seen i.0 j count 0 other in let b = rule.seen.there j in omega arith)
    ];
  }

  ties_seen : Ties old.case (set old.seen i.0 count) (map (seeing i.0 count) old.workers) old.edges
  ties_seen = record {
    workers_each = length-map old.workers (seeing i.0 count) ∙ rule.ties.workers_each;
    edges_each = rule.ties.edges_each;
    placed = λ w m e.
        (let from = mapped_from (seeing i.0 count) old.workers w m e in
        let was = rule.ties.placed w from.0 from.1 in
        subst (IsPlaced old.case (set old.seen i.0 count) w) from.2
        (record { case = was.case; node = was.node; sees = ap (λ s. set s i.0 count) was.sees }));
    top = rule.ties.top;
    root = λ m e.
        (let from = mapped_from (seeing i.0 count) old.workers 0 m e in
        ap (λ (x : WorkerNote). x.held) (sym from.2) ∙ rule.ties.root from.0 from.1);
    hangs = λ w m e some a b.
        (let from = mapped_from (seeing i.0 count) old.workers w m a in
        subst (λ x. Hangs x e) from.2 (hangs_seen i.0 count from.0 e (rule.ties.hangs w from.0 e some from.1 b)));
    lets = λ s w l r m c e are a b d.
        (let from = mapped_from (seeing i.0 count) old.workers w m a in
        let kid = mapped_from (seeing i.0 count) old.workers (at_side s l r) c d in
        subst (λ x. Lets s x e c) from.2 (subst (λ x. Lets s (seeing i.0 count from.0) e x) kid.2
        (lets_seen i.0 count s from.0 e kid.0 (rule.ties.lets s w l r from.0 kid.0 e are from.1 b kid.1))));
  }

  pub rule_arrived : Rule (arrived old i)
  rule_arrived = record {
    seen = seen_more;
    ties = ties_seen;
    stands = λ w m e a b.
        (let from = mapped_from (seeing i.0 count) old.workers w m a in
        let was = rule.stands w from.0 e from.1 b in
        subst (λ (x : WorkerNote). Stands w x e) from.2 (record { asked = was.asked; sound = was.sound; root = was.root }));
    tells = record {
      done = rule.tells.done;
      long = rule.tells.long;
      counted = λ w m j a mine.
          (let from = mapped_from (seeing i.0 count) old.workers w m a in
          ap (λ (x : WorkerNote). slice_index x.counts j) (sym from.2) ∙ rule.tells.counted w from.0 j from.1 mine);
      texts = rule.tells.texts;
    };
  }
