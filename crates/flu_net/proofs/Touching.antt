-- What a step does to an edge that it leaves as it is.
use Rattle.std.proofs.Common.{◌≡◌, ℕ, List, true, false, Some, refl, sym, ap, subst, ◌∙◌}
use Rattle.std.specs.Prelude.{slice_index}
use Rattle.flu_lemmas.proofs.Tests.{not_both}
use Rattle.flu_fork.specs.declared.content.Content.{Content}
use Rattle.flu_fork.specs.declared.lots.Ask.{Ask}
use Rattle.flu_fork.specs.declared.lots.Lot.{Lot}
use Rattle.flu_fork.specs.Lots.{LotFits}
use Rattle.flu_fork.specs.Serving.{LotCounts, AsksAbove, GrownFrom, Served, counts_of}
use Rattle.flu_worker.specs.declared.hand.Side.{Side}
use Rattle.flu_worker.specs.declared.hand.Side.TheVariants.{Left, Right}
use Rattle.flu_worker.specs.Calls.{IsSamePlace, IsSameBelow, LendsPart, TakesPart, KeepsTarget}
use Rattle.flu_worker.specs.Hands.{is_open, is_out, may_lend, may_take}
use Rattle.flu_worker.specs.Notes.{WorkerNote, lent_to, taken_from}
use Rattle.flu_worker.specs.Ties.{IsLoan, IsRecalled}
use Rattle.flu_worker.specs.Turning.{other}
use Rattle.flu_net.specs.declared.edges.Edge.{Edge}
use Rattle.flu_net.specs.declared.edges.Edge.TheVariants.{Home, Lent, Held, Asked, Given}
use Rattle.flu_net.specs.LawsBelow.{LawsBelow}
use Rattle.flu_net.specs.Rule.{Hangs, Lets}
use Rattle.flu_net.specs.Stays.{StaysAt}
use Rattle.flu_net.proofs.Hands.{lending_takes_none}

pub lent_same : (s : Side) (n m : WorkerNote) → m.lent_left ≡ n.lent_left → m.lent_right ≡ n.lent_right → lent_to s m ≡ lent_to s n
lent_same Left n m a b = a
lent_same Right n m a b = b

pub taken_same : (s : Side) (n m : WorkerNote) → m.taken_left ≡ n.taken_left → m.taken_right ≡ n.taken_right → taken_from s m ≡ taken_from s n
taken_same Left n m a b = a
taken_same Right n m a b = b

-- a part is out where its edge is not at home
pub lets_home : LawsBelow → (s : Side) (n m : WorkerNote) (e : Edge) (c : WorkerNote) → IsSameBelow n m → is_out s n.hand ≡ false → is_out s m.hand ≡ false
    → Lets s n e c → Lets s m e c
lets_home laws s n m Home c same was is t = record { home = is; given = t.given ∙ sym (taken_same s n m same.taken_left same.taken_right) }
lets_home laws s n m (Lent lot) c same was is t = absurd (not_both _ t.out was)
lets_home laws s n m Held c same was is t = absurd (not_both _ t.out was)
lets_home laws s n m (Asked y) c same was is t = absurd (not_both _ (laws.take_turns s n.hand t.recalled.take).out was)
lets_home laws s n m (Given lot) c same was is t = absurd (not_both _ (laws.take_turns s n.hand t.recalled.take).out was)

loan_stays : (s : Side) (n m : WorkerNote) (lent : LotCounts) (given : List ℕ) → StaysAt s n m → IsLoan s n lent given → IsLoan s m lent given
loan_stays s n m lent given same t = record { lent = t.lent ∙ sym same.lent; given = t.given ∙ sym same.taken }

recalled_stays : (s : Side) (n m : WorkerNote) (y : Ask) → StaysAt s n m → IsRecalled s n y → IsRecalled s m y
recalled_stays s n m y same t = record { take = same.take t.take; kept = same.kept y t.kept }

pub lets_stays : (s : Side) (n m : WorkerNote) (e : Edge) (c : WorkerNote) → StaysAt s n m → Lets s n e c → Lets s m e c
lets_stays s n m Home c same t = record { home = same.out ∙ t.home; given = t.given ∙ sym same.taken }
lets_stays s n m (Lent lot) c same t = record { out = same.out ∙ t.out; loan = loan_stays s n m _ _ same t.loan }
lets_stays s n m Held c same t = record { out = same.out ∙ t.out; loan = loan_stays s n m _ _ same t.loan }
lets_stays s n m (Asked y) c same t = record {
  recalled = recalled_stays s n m y same t.recalled;
  loan = loan_stays s n m _ _ same t.loan;
}
lets_stays s n m (Given lot) c same t = record {
  target = t.target;
  recalled = recalled_stays s n m t.target same t.recalled;
  served = subst (λ (loan : LotCounts). Served c.case c.node loan t.target lot) (sym same.lent) t.served;
}

-- a part that is not out has its edge at home
pub home_edge : LawsBelow → (s : Side) (n : WorkerNote) (e : Edge) (c : WorkerNote) → is_out s n.hand ≡ false → Lets s n e c → e ≡ Home
home_edge laws s n Home c was t = refl
home_edge laws s n (Lent lot) c was t = absurd (not_both _ t.out was)
home_edge laws s n Held c was t = absurd (not_both _ t.out was)
home_edge laws s n (Asked y) c was t = absurd (not_both _ (laws.take_turns s n.hand t.recalled.take).out was)
home_edge laws s n (Given lot) c was t = absurd (not_both _ (laws.take_turns s n.hand t.recalled.take).out was)

-- ---- the edge above
pub at_place : (P : Content → ℕ → Type 0) (n m : WorkerNote) → IsSamePlace n m → P n.case n.node → P m.case m.node
at_place P n m place p = subst (λ (v : ℕ). P m.case v) (sym place.node) (subst (λ (j : Content). P j n.node) (sym place.case) p)

pub hangs_under : (n m : WorkerNote) (e : Edge) → IsSamePlace n m → m.held ≡ n.held → m.given ≡ n.given → is_open m.hand ≡ is_open n.hand → Hangs n e
    → Hangs m e
hangs_under n m Home place held given opens h = opens ∙ h
hangs_under n m (Lent lot) place held given opens h = record {
  shut = opens ∙ h.shut;
  fits = at_place (λ j v. LotFits j v lot) n m place h.fits;
  grown = at_place (λ j v. GrownFrom j v m.given lot.upto) n m place (subst (λ (base : List ℕ). GrownFrom n.case n.node base lot.upto) (sym given) h.grown);
}
hangs_under n m Held place held given opens h = opens ∙ h
hangs_under n m (Asked y) place held given opens h = record {
  opened = opens ∙ h.opened;
  above = at_place (λ j v. AsksAbove j v y) n m place h.above;
  next = h.next ∙ ap (λ (x : LotCounts). slice_index x.upto y.itag.0) (sym held);
}
hangs_under n m (Given lot) place held given opens h = record {
  shut = opens ∙ h.shut;
  fits = at_place (λ j v. LotFits j v lot) n m place h.fits;
  given = given ∙ h.given;
}

pub lets_under : (s : Side) (p : WorkerNote) (e : Edge) (n m : WorkerNote) → IsSamePlace n m → m.held ≡ n.held → m.given ≡ n.given → Lets s p e n → Lets s p e m
lets_under s p Home n m place held given t = record { home = t.home; given = given ∙ t.given }
lets_under s p (Lent lot) n m place held given t = record { out = t.out; loan = record { lent = t.loan.lent; given = given ∙ t.loan.given } }
lets_under s p Held n m place held given t = record { out = t.out; loan = record { lent = held ∙ t.loan.lent; given = given ∙ t.loan.given } }
lets_under s p (Asked y) n m place held given t = record {
  recalled = t.recalled;
  loan = record { lent = held ∙ t.loan.lent; given = given ∙ t.loan.given };
}
lets_under s p (Given lot) n m place held given t = record {
  target = t.target;
  recalled = t.recalled;
  served = at_place (λ j v. Served j v (lent_to s p) t.target lot) n m place t.served;
}

-- ---- the side of the step
pub lent_here : (s : Side) (n m : WorkerNote) (part : Lot) → LendsPart s part n m → lent_to s m ≡ counts_of part
lent_here Left n m part h = h.lent_left
lent_here Right n m part h = h.lent_right

pub taken_here : (s : Side) (n m : WorkerNote) (part : Lot) → TakesPart s part n m → taken_from s m ≡ part.upto
taken_here Left n m part h = h.taken_left
taken_here Right n m part h = h.taken_right

-- ---- the other side
lent_there : (s : Side) (n m : WorkerNote) (part : Lot) → LendsPart s part n m → lent_to (other s) m ≡ lent_to (other s) n
lent_there Left n m part h = h.lent_right
lent_there Right n m part h = h.lent_left

taken_there : (s : Side) (n m : WorkerNote) (part : Lot) → TakesPart s part n m → taken_from (other s) m ≡ taken_from (other s) n
taken_there Left n m part h = h.taken_right
taken_there Right n m part h = h.taken_left

pub stays_lend : LawsBelow → (s : Side) (n m : WorkerNote) (part : Lot) → may_lend s n.hand ≡ true → LendsPart s part n m → StaysAt (other s) n m
stays_lend laws s n m part may h = record {
  lent = lent_there s n m part h;
  taken = taken_same (other s) n m h.taken_left h.taken_right;
  out = ap (is_out (other s)) h.hand ∙ (laws.lend_turns s n.hand may).rest;
  take = λ e. absurd (not_both _ e (lending_takes_none s (other s) n.hand may));
  kept = λ a e. h.kept ∙ e;
}

pub stays_take : LawsBelow → (s : Side) (n m : WorkerNote) (part : Lot) → may_take s n.hand ≡ true → TakesPart s part n m → StaysAt (other s) n m
stays_take laws s n m part may h =
    let turned = laws.take_turns s n.hand may in record {
      lent = lent_same (other s) n m h.lent_left h.lent_right;
      taken = taken_there s n m part h;
      out = ap (is_out (other s)) h.hand ∙ turned.rest;
      take = λ e. ap (may_take (other s)) h.hand ∙ turned.rest_to_take ∙ e;
      kept = λ a e. h.kept ∙ e;
    }

pub stays_ask : (s : Side) (n m : WorkerNote) (y : Ask) → KeepsTarget (Some y) n m → StaysAt s n m
stays_ask s n m y h = record {
  lent = ap (lent_to s) h.rest ∙ lent_same s n (record n { kept = m.kept }) refl refl;
  taken = ap (taken_from s) h.rest ∙ taken_same s n (record n { kept = m.kept }) refl refl;
  out = ap (λ x. is_out s x.hand) h.rest;
  take = λ e. ap (λ x. may_take s x.hand) h.rest ∙ e;
  kept = h.same;
}
