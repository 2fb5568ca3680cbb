-- Each step keeps the ties between the workers and the edges.
use Rattle.std.proofs.Common.{◌≡◌, ◌≢◌, ◌⊎◌, ◌<◌, ℕ, Some, List, length, set, true, false, inl, inr, refl, sym, ap, subst, ◌∙◌, arith}
use Rattle.std.specs.Prelude.{slice_get, slice_index}
use Rattle.std.proofs.lemmas.Bool.{cases_eq}
use Rattle.std.proofs.lemmas.Option.{slice_get_within, same_Some}
use Rattle.std.proofs.lemmas.List.{length-set}
use Rattle.flu_lemmas.proofs.Replaced.{slice_get-set_same, slice_get-set_other}
use Rattle.flu_fork.specs.declared.content.Content.{Content}
use Rattle.flu_fork.specs.declared.lots.Ask.{Ask}
use Rattle.flu_fork.specs.declared.lots.Lot.{Lot}
use Rattle.flu_fork.specs.Lots.{kids, LotFits}
use Rattle.flu_fork.specs.Serving.{LotCounts, AsksAbove, GrownFrom, Served}
use Rattle.flu_worker.specs.declared.hand.Side.{Side}
use Rattle.flu_worker.specs.Calls.{IsSamePlace, IsSameBelow, HandlesEvent, HoldsLot, GivesLot, LendsPart, IsFitPart, TakesPart, KeepsTarget, IsAskable}
use Rattle.flu_worker.specs.Hands.{at_side, is_open, is_out, may_lend, may_take}
use Rattle.flu_worker.specs.Notes.{WorkerNote, lent_to}
use Rattle.flu_worker.specs.Turning.{other}
use Rattle.flu_net.specs.declared.edges.Edge.{Edge}
use Rattle.flu_net.specs.declared.edges.Edge.TheVariants.{Home, Lent, Held, Asked, Given}
use Rattle.flu_net.specs.LawsBelow.{LawsBelow}
use Rattle.flu_net.specs.Rule.{Hangs, Lets, Ties}
use Rattle.flu_net.specs.Stays.{StaysAt}
use Rattle.flu_net.proofs.Framing.{frame, under, kids_differ}
use Rattle.flu_net.proofs.Hands.{first_open, shut_home, sides}
use Rattle.flu_net.proofs.Touching.{lent_here, lets_home, lets_stays, stays_ask, stays_lend, stays_take}
use Rattle.flu_net.proofs.Touching.{taken_here, taken_same, hangs_under, lets_under, at_place}

lent_away : (lot : Lot) → Lent lot ≡ Home → ⊥
lent_away lot e = cc

asked_away : (y : Ask) → Asked y ≡ Home → ⊥
asked_away y e = cc

module _ (laws : LawsBelow) (k : Content) (seen : List ℕ) (ws : List WorkerNote) (es : List Edge) (t : Ties k seen ws es) (w : ℕ) (n m : WorkerNote)
    (at : slice_get ws w ≡ Some n) where
  case_is : n.case ≡ k
  case_is = (t.placed w n at).case

  node_is : n.node ≡ w
  node_is = (t.placed w n at).node

  there : w < length ws
  there = slice_get_within ws w n at

  -- an edge that is not at home is above a node that is not the root
  pub below_top : (e : Edge) → slice_get es w ≡ Some e → e ≢ Home → 0 < w
  below_top e is away = elim (cases_eq w 0) [
    | inl root ↦ absurd (away (same_Some e Home (sym is ∙ ap (slice_get es) root ∙ t.top)))
    | inr other ↦ omega arith
  ]

  pub hangs_now : (e : Edge) → slice_get es w ≡ Some e → e ≢ Home → Hangs n e
  hangs_now e is away = t.hangs w n e (below_top e is away) at is

  -- ---- the worker's own edge becomes another
  module _ (old new : Edge) (was : slice_get es w ≡ Some old) (away : old ≢ Home) (place : IsSamePlace n m) (same : IsSameBelow n m)
      (home : (s : Side) → (is_out s n.hand ≡ false) × (is_out s m.hand ≡ false)) (hang : Hangs m new)
      (lets : (s : Side) (p : WorkerNote) → Lets s p old n → Lets s p new m) where
    edge_there : w < length es
    edge_there = slice_get_within es w old was

    new_is : (e : Edge) → slice_get (set es w new) w ≡ Some e → new ≡ e
    new_is e is = same_Some new e (sym (slice_get-set_same es w new edge_there) ∙ is)

    above_here : (s : Side) (u l r : ℕ) (p : WorkerNote) (e : Edge) → kids k u ≡ Some (l, r) → at_side s l r ≡ w → slice_get ws u ≡ Some p
        → slice_get (set es w new) w ≡ Some e → Lets s p e m
    above_here s u l r p e are here up is =
        subst (λ (x : Edge). Lets s p x m) (new_is e is)
        (lets s p (t.lets s u l r p n old are up (ap (slice_get es) here ∙ was) (ap (slice_get ws) here ∙ at)))

    below_here : (s : Side) (l r : ℕ) (c : WorkerNote) (e : Edge) → kids k w ≡ Some (l, r) → slice_get ws (at_side s l r) ≡ Some c
        → slice_get (set es w new) (at_side s l r) ≡ Some e
        → Hangs c e × Lets s m e c
    below_here s l r c e are kid is =
        let later = (under laws k s w l r are).earlier in
        let apart : at_side s l r ≢ w = λ (q : at_side s l r ≡ w). omega arith in
        let still = sym (slice_get-set_other es w (at_side s l r) new apart) ∙ is in
        (t.hangs (at_side s l r) c e (omega arith) kid still, lets_home laws s n m e c same (home s).0 (home s).1 (t.lets s w l r n c e are at still kid))

    pub own_edge : Ties k seen (set ws w m) (set es w new)
    own_edge = frame laws k seen ws es t w n m (set es w new) w (record {
      at = at;
      long = length-set es w new;
      others = λ j apart. slice_get-set_other es w j new apart;
      near = inl refl;
      place = place;
      top = slice_get-set_other es w 0 new (λ q. (let some = below_top old was away in omega arith)) ∙ t.top;
      root = λ q. (let some = below_top old was away in absurd (omega arith));
      hangs = λ e some is. subst (Hangs m) (new_is e is) hang;
      above = above_here;
      below = below_here;
    })

  -- ---- the edge to a child becomes another
  module _ (s : Side) (l r : ℕ) (are : kids k w ≡ Some (l, r)) (old new : Edge) (was : slice_get es (at_side s l r) ≡ Some old) (place : IsSamePlace n m)
      (held : m.held ≡ n.held) (given : m.given ≡ n.given) (opens : is_open m.hand ≡ is_open n.hand)
      (stays : StaysAt (other s) n m)
      (hang : (c : WorkerNote) → c.case ≡ k → c.node ≡ at_side s l r → Hangs c old → Lets s n old c → Hangs c new)
      (lets : (c : WorkerNote) → c.case ≡ k → c.node ≡ at_side s l r → Hangs c old → Lets s n old c → Lets s m new c) where
    abbrev pub kid : ℕ
    kid = at_side s l r

    later : w < kid
    later = (under laws k s w l r are).earlier

    not_own : w ≢ kid
    not_own = λ (q : w ≡ kid). (let lt = later in omega arith)

    still_own : (e : Edge) → slice_get (set es kid new) w ≡ Some e → slice_get es w ≡ Some e
    still_own e is = sym (slice_get-set_other es kid w new not_own) ∙ is

    there_kid : kid < length es
    there_kid = slice_get_within es kid old was

    below_same : (c : WorkerNote) (e : Edge) → slice_get ws kid ≡ Some c → slice_get (set es kid new) kid ≡ Some e → Hangs c e × Lets s m e c
    below_same c e up is =
        let placed = t.placed kid c up in
        let hung = t.hangs kid c old (let lt = later in omega arith) up was in
        let let_go = t.lets s w l r n c old are at was up in
        subst (λ (x : Edge). Hangs c x × Lets s m x c) (same_Some new e (sym (slice_get-set_same es kid new there_kid) ∙ is))
        (hang c placed.case placed.node hung let_go, lets c placed.case placed.node hung let_go)

    below_other : (c : WorkerNote) (e : Edge) → slice_get ws (at_side (other s) l r) ≡ Some c → slice_get (set es kid new) (at_side (other s) l r) ≡ Some e
        → Hangs c e × Lets (other s) m e c
    below_other c e up is =
        let lt = (under laws k (other s) w l r are).earlier in
        let still = sym (slice_get-set_other es kid (at_side (other s) l r) new (kids_differ laws k s w l r are)) ∙ is in
        (t.hangs (at_side (other s) l r) c e (omega arith) up still, lets_stays (other s) n m e c stays (t.lets (other s) w l r n c e are at still up))

    below_kids : (q : Side) (a b : ℕ) (c : WorkerNote) (e : Edge) → kids k w ≡ Some (a, b) → slice_get ws (at_side q a b) ≡ Some c
        → slice_get (set es kid new) (at_side q a b) ≡ Some e
        → Hangs c e × Lets q m e c
    below_kids q a b c e f up is =
        let pair : (l, r) ≡ (a, b) = same_Some (l, r) (a, b) (sym are ∙ f) in
        let same : at_side q a b ≡ at_side q l r = λ i. at_side q (sym pair i).0 (sym pair i).1 in
        by_side (sides s q) (ap (slice_get ws) (sym same) ∙ up) (ap (slice_get (set es kid new)) (sym same) ∙ is)
      where
        by_side : (q ≡ s) ⊎ (q ≡ other s) → slice_get ws (at_side q l r) ≡ Some c → slice_get (set es kid new) (at_side q l r) ≡ Some e
            → Hangs c e × Lets q m e c
        by_side (inl here) up is =
            subst (λ (x : Side). Hangs c e × Lets x m e c) (sym here)
            (below_same c e (sym (ap (λ (x : Side). slice_get ws (at_side x l r)) here) ∙ up)
            (sym (ap (λ (x : Side). slice_get (set es kid new) (at_side x l r)) here) ∙ is))
        by_side (inr beside) up is =
            subst (λ (x : Side). Hangs c e × Lets x m e c) (sym beside)
            (below_other c e (sym (ap (λ (x : Side). slice_get ws (at_side x l r)) beside) ∙ up)
            (sym (ap (λ (x : Side). slice_get (set es kid new) (at_side x l r)) beside) ∙ is))

    pub kid_edge : Ties k seen (set ws w m) (set es kid new)
    kid_edge = frame laws k seen ws es t w n m (set es kid new) kid (record {
      at = at;
      long = length-set es kid new;
      others = λ j apart. slice_get-set_other es kid j new apart;
      near = inr (record { side = s; left = l; right = r; are = are; is = refl });
      place = place;
      top = slice_get-set_other es kid 0 new (λ q. (let lt = later in omega arith)) ∙ t.top;
      root = λ _. held;
      hangs = λ e some is. hangs_under n m e place held given opens (t.hangs w n e some at (still_own e is));
      above =
          λ q u a b p e f here up is. lets_under q p e n m place held given
          (t.lets q u a b p n e f up (ap (slice_get es) here ∙ still_own e is) (ap (slice_get ws) here ∙ at));
      below = below_kids;
    })

  -- ---- the steps
  pub ties_hold : (lot : Lot) → slice_get es w ≡ Some (Lent lot) → HoldsLot lot n m → Ties k seen (set ws w m) (set es w Held)
  ties_hold lot was h =
      let away : Lent lot ≢ Home = λ e. lent_away lot e in
      let hung = hangs_now (Lent lot) was away in
      own_edge (Lent lot) Held was away h.place h.same
      (λ s. (shut_home s n.hand hung.shut, ap (is_out s) h.hand ∙ laws.first_here (kids n.case n.node) s))
      (ap is_open h.hand ∙ first_open (kids n.case n.node))
      (λ s p over. record { out = over.out; loan = record { lent = h.held ∙ over.loan.lent; given = h.given ∙ over.loan.given } })

  pub ties_give : (y : Ask) (lot : Lot) → slice_get es w ≡ Some (Asked y) → GivesLot lot n m → LotFits n.case n.node lot → Served n.case n.node n.held y lot
      → Ties k seen (set ws w m) (set es w (Given lot))
  ties_give y lot was g fits served =
      own_edge (Asked y) (Given lot) was (λ e. asked_away y e) g.place g.same
      (λ s. (ap (is_out s) g.hand_was, ap (is_out s) g.hand))
      (record { shut = ap is_open g.hand; fits = at_place (λ j v. LotFits j v lot) n m g.place fits; given = g.given })
      (λ s p over. record {
        target = y;
        recalled = over.recalled;
        served = at_place (λ j v. Served j v (lent_to s p) y lot) n m g.place (subst (λ (loan : LotCounts). Served n.case n.node loan y lot) over.loan.lent served);
      })

  pub ties_lend : (s : Side) (l r : ℕ) (are : kids k w ≡ Some (l, r)) (part : Lot) → slice_get es (at_side s l r) ≡ Some Home → may_lend s n.hand ≡ true
      → LendsPart s part n m → IsFitPart s part n → Ties k seen (set ws w m) (set es (at_side s l r) (Lent part))
  ties_lend s l r are part was may h fit =
      let turned = laws.lend_turns s n.hand may in
      let here : kids n.case n.node ≡ Some (l, r) = (λ i. kids (case_is i) (node_is i)) ∙ are in
      kid_edge s l r are Home (Lent part) was h.place h.held h.given (ap is_open h.hand ∙ turned.open_after ∙ sym turned.open_before)
      (stays_lend laws s n m part may h)
      (λ c ck cv hung over. record {
        shut = hung;
        fits =
            subst (λ (v : ℕ). LotFits c.case v part) (sym cv) (subst (λ (j : Content). LotFits j (at_side s l r) part) (case_is ∙ sym ck) (fit.fits l r here));
        grown =
            subst (λ (v : ℕ). GrownFrom c.case v c.given part.upto) (sym cv)
            (subst (λ (j : Content). GrownFrom j (at_side s l r) c.given part.upto) (case_is ∙ sym ck)
            (subst (λ (base : List ℕ). GrownFrom n.case (at_side s l r) base part.upto) (sym over.given) (fit.grown l r here)));
      })
      (λ c ck cv hung over. record {
        out = ap (is_out s) h.hand ∙ turned.out;
        loan = record { lent = sym (lent_here s n m part h); given = over.given ∙ sym (taken_same s n m h.taken_left h.taken_right) };
      })

  pub ties_ask : (s : Side) (l r : ℕ) (are : kids k w ≡ Some (l, r)) (y : Ask) → slice_get es (at_side s l r) ≡ Some Held → may_take s n.hand ≡ true
      → KeepsTarget (Some y) n m → IsAskable m y → Ties k seen (set ws w m) (set es (at_side s l r) (Asked y))
  ties_ask s l r are y was may h askable =
      let place : IsSamePlace n m = record { case = ap (λ x. x.case) h.rest; node = ap (λ x. x.node) h.rest; seen = ap (λ x. x.seen) h.rest } in
      let here : kids m.case m.node ≡ Some (l, r) = (λ i. kids ((place.case ∙ case_is) i) ((place.node ∙ node_is) i)) ∙ are in
      let stays = stays_ask s n m y h in
      let asks = askable l r here s in
      kid_edge s l r are Held (Asked y) was place (ap (λ x. x.held) h.rest) (ap (λ x. x.given) h.rest) (ap (λ x. is_open x.hand) h.rest)
      (stays_ask (other s) n m y h)
      (λ c ck cv hung over. record {
        opened = hung;
        above =
            subst (λ (v : ℕ). AsksAbove c.case v y) (sym cv) (subst (λ (j : Content). AsksAbove j (at_side s l r) y) (place.case ∙ case_is ∙ sym ck) asks.0);
        next = asks.1 ∙ ap (λ (x : LotCounts). slice_index x.upto y.itag.0) (stays.lent ∙ sym over.loan.lent);
      })
      (λ c ck cv hung over. record {
        recalled = record { take = stays.take may; kept = h.some y refl };
        loan = record { lent = over.loan.lent ∙ sym stays.lent; given = over.loan.given ∙ sym stays.taken };
      })

  pub ties_take : (s : Side) (l r : ℕ) (are : kids k w ≡ Some (l, r)) (lot : Lot) → slice_get es (at_side s l r) ≡ Some (Given lot) → may_take s n.hand ≡ true
      → TakesPart s lot n m → Ties k seen (set ws w m) (set es (at_side s l r) Home)
  ties_take s l r are lot was may h =
      let turned = laws.take_turns s n.hand may in
      kid_edge s l r are (Given lot) Home was h.place h.held h.given (ap is_open h.hand ∙ turned.open_after ∙ sym turned.open_before)
      (stays_take laws s n m lot may h)
      (λ c ck cv hung over. hung.shut)
      (λ c ck cv hung over. record { home = ap (is_out s) h.hand ∙ turned.here; given = hung.given ∙ sym (taken_here s n m lot h) })

  pub ties_handle : (x : Ask) → HandlesEvent x n m → Ties k seen (set ws w m) es
  ties_handle x h =
      let opens : is_open m.hand ≡ is_open n.hand = ap is_open h.hand ∙ first_open (kids n.case n.node) ∙ sym (ap is_open h.hand_was) in
      frame laws k seen ws es t w n m es w (record {
        at = at;
        long = refl;
        others = λ j apart. refl;
        near = inl refl;
        place = h.place;
        top = t.top;
        root = λ _. h.held;
        hangs = λ e some is. hangs_under n m e h.place h.held h.given opens (t.hangs w n e some at is);
        above =
            λ q u a b p e f here up is. lets_under q p e n m h.place h.held h.given
            (t.lets q u a b p n e f up (ap (slice_get es) here ∙ is) (ap (slice_get ws) here ∙ at));
        below = λ q a b c e f up is. (
          let later = (under laws k q w a b f).earlier in t.hangs (at_side q a b) c e (omega arith) up is,
          lets_home laws q n m e c h.same (ap (is_out q) h.hand_was) (ap (is_out q) h.hand ∙ laws.first_here (kids n.case n.node) q)
              (t.lets q w a b n c e f at is up),
        );
      })
