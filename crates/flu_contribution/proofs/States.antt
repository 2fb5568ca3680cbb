-- Nodes apart with their open contributions, joined to a state: what one event does to them and to the whole.
use Rattle.std.proofs.Common.{◌≡◌, ◌<◌, ℕ, Bool, true, false, cond, List, [], ◌∷◌, inl, inr, refl, sym, ap, ◌∙◌, None}
use Rattle.std.specs.Prelude.{Option, map, ⊤}
use Rattle.std.specs.List.{AllByRecursion}
use Rattle.std.proofs.lemmas.Bool.{cases_Bool}
use Rattle.flu_lemmas.proofs.Tests.{not_both, false_if_not}
use Rattle.flu_model.specs.declared.events.Cell.{Cell}
use Rattle.flu_model.specs.declared.events.Event.{Event}
use Rattle.flu_model.specs.declared.events.Worth.{Worth}
use Rattle.flu_model.specs.declared.jobs.Program.{Program}
use Rattle.flu_model.specs.declared.plans.Node.{Node}
use Rattle.flu_model.specs.Contents.{Contents, join, joined_worth}
use Rattle.flu_model.specs.Itags.{count_of_itags}
use Rattle.flu_model.specs.Sorts.{MayHold, IsStateOf}
use Rattle.flu_model.specs.Updates.{effect_of, Effect}
use Rattle.flu_laws.specs.Consistency.{within, outside, IsNeutralAtNeeds}
use Rattle.flu_laws.specs.Uses.{writes, mode_at}
use Rattle.flu_deps.specs.Trees.{AreApart}
use Rattle.flu_apart.specs.Classes.{is_used}
use Rattle.flu_contribution.specs.Contributions.{keeps, is_inside, is_above, Contribution, opened, with_event}
use Rattle.flu_contribution.specs.Laws.{IsApart}
use Rattle.flu_contribution.proofs.Using.{Known, needed_is_used, written_is_used, used_by, kept_unused, mixing}
use Rattle.flu_contribution.proofs.Using.{unneeded, Moves, swap}

-- a node with its open contribution
pub record Open : Type 0 where
  pub node : ℕ
  pub part : Contribution

-- a state with all open contributions joined
abbrev pub total : Contents → List Open → Contents
total r [] = r
total r (o ∷ os) = total (join r o.part.cells) os

abbrev pub joined_if : Bool → Contents → Contents → Contents
joined_if true r k = join r k
joined_if false r k = r

pub total_same : (r s : Contents) (c : Cell) (os : List Open) → r c ≡ s c → total r os c ≡ total s os c
total_same r s c [] e = e
total_same r s c (o ∷ os) e = total_same (join r o.part.cells) (join s o.part.cells) c os (ap (λ v. joined_worth v (o.part.cells c)) e)

joined_if_same : (b : Bool) (r s k : Contents) (c : Cell) → r c ≡ s c → joined_if b r k c ≡ joined_if b s k c
joined_if_same true r s k c e = ap (λ v. joined_worth v (k c)) e
joined_if_same false r s k c e = e

none_of : (b : Bool) (v : Option Worth) → b ≡ true → cond b None v ≡ None
none_of b v e = ap (λ t. cond t None v) e

module _ (p : Program) (nodes : List Node) where
  -- what an open contribution hands over when it is closed
  abbrev pub outer : Open → Contents
  outer o = outside (keeps p nodes o.node) o.part.cells

  -- whether an event is inside the node and above it: what it makes of the open contribution
  abbrev pub step_by : Bool → Bool → Event → Open → Open
  step_by true a x o = record { node = o.node; part = with_event p o.part x }
  step_by false true x o = record { node = o.node; part = opened p nodes o.node o.part.cells }
  step_by false false x o = o

  abbrev pub stepped : Event → Open → Open
  stepped x o = step_by (is_inside p nodes o.node x) (is_above p nodes o.node x) x o

  -- a state with the contributions joined that an event closes
  abbrev pub closed_into : Event → Contents → List Open → Contents
  closed_into x r [] = r
  closed_into x r (o ∷ os) = closed_into x (joined_if (is_above p nodes o.node x) r (outer o)) os

  pub record Holds (o : Open) : Type 0 where
    pub apart : IsApart p nodes o.node
    pub sorts : IsStateOf p.families o.part.cells
    pub support : (c : Cell) → is_used p nodes o.node c ≡ false → o.part.cells c ≡ None

  abbrev pub AllHold : List Open → Type 0
  AllHold os = AllByRecursion Holds os

  abbrev pub AllApart : List Open → Type 0
  AllApart [] = ⊤
  AllApart (o ∷ os) = AllByRecursion (λ (q : Open). AreApart nodes o.node q.node) os × AllApart os

  -- a state has none of the cells that the nodes keep
  abbrev pub IsFree : Contents → ℕ → Type 0
  IsFree r w = (c : Cell) → keeps p nodes w c ≡ true → r c ≡ None

  abbrev pub AllFree : Contents → List Open → Type 0
  AllFree r os = AllByRecursion (λ (o : Open). IsFree r o.node) os

  -- the event is inside none
  abbrev pub AllElsewhere : Event → List Open → Type 0
  AllElsewhere x os = AllByRecursion (λ (o : Open). is_inside p nodes o.node x ≡ false) os

  module _ (known : Known p nodes) where
    closed_same : (x : Event) (r s : Contents) (c : Cell) (os : List Open) → r c ≡ s c → closed_into x r os c ≡ closed_into x s os c
    closed_same x r s c [] e = e
    closed_same x r s c (o ∷ os) e =
        let b = is_above p nodes o.node x in
        closed_same x (joined_if b r (outer o)) (joined_if b s (outer o)) c os (joined_if_same b r s (outer o) c e)

    -- ---- sorts
    pub join_holds : (r k : Contents) → IsStateOf p.families r → IsStateOf p.families k → IsStateOf p.families (join r k)
    join_holds r k hr hk c = known.lawful.mix_holds c (r c) (k c) (hr c) (hk c)

    joined_if_holds : (b : Bool) (r k : Contents) → IsStateOf p.families r → IsStateOf p.families k → IsStateOf p.families (joined_if b r k)
    joined_if_holds true r k hr hk = join_holds r k hr hk
    joined_if_holds false r k hr hk = hr

    pub outside_holds : (w : Cell → Bool) (s : Contents) → IsStateOf p.families s → IsStateOf p.families (outside w s)
    outside_holds w s hs c = by (w c)
      where
        by : (b : Bool) → MayHold p.families c (cond b None (s c))
        by true = tt
        by false = hs c

    pub within_holds : (w : Cell → Bool) (s : Contents) → IsStateOf p.families s → IsStateOf p.families (within w s)
    within_holds w s hs c = by (w c)
      where
        by : (b : Bool) → MayHold p.families c (cond b (s c) None)
        by true = hs c
        by false = tt

    pub closed_holds : (x : Event) (r : Contents) (os : List Open) → IsStateOf p.families r → AllHold os → IsStateOf p.families (closed_into x r os)
    closed_holds x r [] hr h = hr
    closed_holds x r (o ∷ os) hr h =
        let b = is_above p nodes o.node x in
        closed_holds x (joined_if b r (outer o)) os
        (joined_if_holds b r (outer o) hr (outside_holds (keeps p nodes o.node) o.part.cells h.0.sorts)) h.1

    -- ---- closing leaves the whole as it is
    outer_moves : (o : Open) (c : Cell) → Holds o → Moves p nodes known c (outer o c)
    outer_moves o c h =
        elim (cases_Bool (keeps p nodes o.node c)) [
          | inl kept ↦ inl (ap (λ t. cond t None (o.part.cells c)) kept)
          | inr other ↦ elim (cases_Bool (is_used p nodes o.node c)) [
            | inl used ↦ inr (mixing p nodes o.node c h.apart.may used other)
            | inr unused ↦ inl (ap (λ t. cond t None (o.part.cells c)) other ∙ h.support c unused)
          ]
        ]

    joined_if_swap : (b : Bool) (r k s : Contents) (c : Cell) → IsStateOf p.families r → IsStateOf p.families k → IsStateOf p.families s
        → Moves p nodes known c (k c) → joined_if b (join r s) k c ≡ joined_worth (joined_if b r k c) (s c)
    joined_if_swap true r k s c hr hk hs m = sym (swap p nodes known c (r c) (k c) (s c) (hr c) (hk c) (hs c) m)
    joined_if_swap false r k s c hr hk hs m = refl

    closed_pass : (x : Event) (r s : Contents) (os : List Open) (c : Cell) → IsStateOf p.families r → IsStateOf p.families s → AllHold os
        → closed_into x (join r s) os c ≡ joined_worth (closed_into x r os c) (s c)
    closed_pass x r s [] c hr hs h = refl
    closed_pass x r s (o ∷ os) c hr hs h =
        let b = is_above p nodes o.node x in
        let ho = outside_holds (keeps p nodes o.node) o.part.cells h.0.sorts in
        closed_same x (joined_if b (join r s) (outer o)) (join (joined_if b r (outer o)) s) c os
        (joined_if_swap b r (outer o) s c hr ho hs (outer_moves o c h.0))
        ∙ closed_pass x (joined_if b r (outer o)) s os c (joined_if_holds b r (outer o) hr ho) hs h.1

    parts_join : (i a : Bool) (x : Event) (r : Contents) (o : Open) (c : Cell) → i ≡ false
        → joined_worth (joined_if a r (outer o) c) ((step_by i a x o).part.cells c) ≡ joined_worth (r c) (o.part.cells c)
    parts_join true a x r o c e = cc
    parts_join false false x r o c e = refl
    parts_join false true x r o c e = by (keeps p nodes o.node c)
      where
        by : (k : Bool) → joined_worth (joined_worth (r c) (cond k None (o.part.cells c))) (cond k (o.part.cells c) None) ≡ joined_worth (r c) (o.part.cells c)
        by true = ap (λ v. joined_worth v (o.part.cells c)) (known.lawful.mix_right (r c))
        by false = known.lawful.mix_right (joined_worth (r c) (o.part.cells c))

    -- ---- an event keeps what holds of an open contribution
    step_holds : (i a : Bool) (x : Event) (o : Open) → x.itag.0 < count_of_itags p → is_inside p nodes o.node x ≡ i → Holds o → Holds (step_by i a x o)
    step_holds true a x o lt e h = record {
      apart = h.apart;
      sorts = known.lawful.next_holds o.part.cells x h.sorts;
      support = λ c unused.
          let unwritten : writes (mode_at p x c) ≡ false =
          false_if_not _ (λ g. not_both _ (used_by p nodes o.node x.itag.0 c lt e (written_is_used (mode_at p x c) g)) unused) in
          known.lawful.next_leaves o.part.cells x c unwritten ∙ h.support c unused;
    }
    step_holds false true x o lt e h = record {
      apart = h.apart;
      sorts = within_holds (keeps p nodes o.node) o.part.cells h.sorts;
      support = λ c unused. within_none (keeps p nodes o.node c) (o.part.cells c) (h.support c unused);
    }
      where
        within_none : (b : Bool) (v : Option Worth) → v ≡ None → cond b v None ≡ None
        within_none true v e = e
        within_none false v e = refl
    step_holds false false x o lt e h = h

    pub stepped_hold : (x : Event) (os : List Open) → x.itag.0 < count_of_itags p → AllHold os → AllHold (map (stepped x) os)
    stepped_hold x [] lt h = tt
    stepped_hold x (o ∷ os) lt h =
        (step_holds (is_inside p nodes o.node x) (is_above p nodes o.node x) x o lt refl h.0, stepped_hold x os lt h.1)

    node_stays : (i a : Bool) (x : Event) (o : Open) → (step_by i a x o).node ≡ o.node
    node_stays true a x o = refl
    node_stays false true x o = refl
    node_stays false false x o = refl

    pub stepped_node : (x : Event) (o : Open) → (stepped x o).node ≡ o.node
    stepped_node x o = node_stays (is_inside p nodes o.node x) (is_above p nodes o.node x) x o

    pub closed_total : (x : Event) (r : Contents) (os : List Open) (c : Cell) → x.itag.0 < count_of_itags p → IsStateOf p.families r → AllHold os
        → AllElsewhere x os → total (closed_into x r os) (map (stepped x) os) c ≡ total r os c
    closed_total x r [] c lt hr h out = refl
    closed_total x r (o ∷ os) c lt hr h out =
        let i = is_inside p nodes o.node x in
        let b = is_above p nodes o.node x in
        let s = (stepped x o).part.cells in
        let ho = outside_holds (keeps p nodes o.node) o.part.cells h.0.sorts in
        let hs : IsStateOf p.families s = (step_holds i b x o lt refl h.0).sorts in
        let k = joined_if b r (outer o) in
        let hk : IsStateOf p.families k = joined_if_holds b r (outer o) hr ho in
        total_same (join (closed_into x k os) s) (closed_into x (join r o.part.cells) os) c (map (stepped x) os)
        (sym (closed_pass x k s os c hk hs h.1) ∙ closed_same x (join k s) (join r o.part.cells) c os (parts_join i b x r o c out.0))
        ∙ closed_total x (join r o.part.cells) os c lt (join_holds r o.part.cells hr h.0.sorts) h.1 out.1

    -- ---- an update of a part is the update of the whole
    abbrev pub AllNeutral : Event → List Open → Type 0
    AllNeutral x os = AllByRecursion (λ (o : Open). IsNeutralAtNeeds p x o.part.cells) os

    pub outside_total : (x : Event) (r : Contents) (os : List Open) → x.itag.0 < count_of_itags p → IsStateOf p.families r → AllHold os → AllNeutral x os
        → effect_of p (total r os) x ≡ record { cells = total (effect_of p r x).cells os; texts = (effect_of p r x).texts }
    outside_total x r [] lt hr h n = refl
    outside_total x r (o ∷ os) lt hr h n =
        outside_total x (join r o.part.cells) os lt (join_holds r o.part.cells hr h.0.sorts) h.1 n.1
        ∙ ap (λ (e : Effect). record { cells = total e.cells os; texts = e.texts }) (known.left r o.part.cells x hr h.0.sorts lt n.0)

    -- where the event is elsewhere, each open contribution is neutral where the event needs, once those below it are closed
    neutral_by : (i a : Bool) (x : Event) (o : Open) → x.itag.0 < count_of_itags p → is_inside p nodes o.node x ≡ i → is_above p nodes o.node x ≡ a → i ≡ false
        → Holds o → IsNeutralAtNeeds p x (step_by i a x o).part.cells
    neutral_by true a x o lt e f out h = cc
    neutral_by false true x o lt e f out h = λ c needed.
        ap (λ t. cond t (o.part.cells c) None) (kept_unused p nodes o.node x.itag.0 c lt e (needed_is_used (mode_at p x c) needed))
    neutral_by false false x o lt e f out h = λ c needed.
        h.support c (unneeded p nodes known o.node x.itag.0 c h.apart.there h.apart.may lt e f needed)

    pub all_neutral : (x : Event) (os : List Open) → x.itag.0 < count_of_itags p → AllHold os → AllElsewhere x os → AllNeutral x (map (stepped x) os)
    all_neutral x [] lt h out = tt
    all_neutral x (o ∷ os) lt h out =
        (neutral_by (is_inside p nodes o.node x) (is_above p nodes o.node x) x o lt refl refl out.0 h.0, all_neutral x os lt h.1 out.1)
