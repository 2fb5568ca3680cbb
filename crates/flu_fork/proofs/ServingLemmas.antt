-- What is counted before and behind an event: by the prefix, by what it is clear of, and by the itags of a node's subtree.
use Rattle.std.proofs.Common.{◌≡◌, ◌<◌, ◌≤◌, ℕ, Bool, true, false, Some, None, List, [], ◌∷◌, ◌++◌, append_assoc, inl, inr, refl, sym, ap, subst, ◌∙◌, arith}
use Rattle.std.specs.Prelude.{nat_lt, slice_get, slice_index, not}
use Rattle.std.specs.List.{AllByRecursion}
use Rattle.std.proofs.lemmas.Bool.{cases_Bool, cases_eq, cases_lt, not_from_false}
use Rattle.flu_lemmas.proofs.Elements.{all_map, all_front, all_back, all_of_both, all_at_place, all_from_places}
use Rattle.flu_lemmas.proofs.Tests.{both, false_if_not, lt_true, not_both, true_lt}
use Rattle.flu_lemmas.proofs.InTime.{not_back}
use Rattle.flu_model.specs.declared.events.Event.{Event}
use Rattle.flu_model.specs.declared.events.Itag.{Itag}
use Rattle.flu_model.specs.Itags.{count_of_itags, tag_of_itag}
use Rattle.flu_model.specs.Merging.{is_before}
use Rattle.flu_laws.specs.Lots.{IsExact, depends_on}
use Rattle.flu_laws.specs.Spans.{Moment, is_below}
use Rattle.flu_fork.specs.declared.content.Content.{Content}
use Rattle.flu_fork.specs.declared.lots.Ask.{Ask}
use Rattle.flu_fork.specs.LawsBelow.{LawsBelow}
use Rattle.flu_fork.specs.Settings.{Setting, IsSetting, moments}
use Rattle.flu_fork.specs.Classes.{Itags, own, below, above}
use Rattle.flu_fork.specs.Fitting.{IsPrefix}
use Rattle.flu_fork.specs.Lots.{job, nodes, kids, setting_of}
use Rattle.flu_fork.specs.Streams.{IsEventAt, IsClearOf}
use Rattle.flu_fork.specs.Texts.{InNone, InFirst, InSecond, InThird}
use Rattle.flu_fork.specs.Serving.{CountsBefore, CountsJustBefore, ClearIsJustBefore, JustBeforeAtLeaf, JustBeforeAtInner, JustBeforeIsExact, LeavesServe}
use Rattle.flu_fork.proofs.LotLemmas.{setting_holds}
use Rattle.flu_fork.proofs.Moments.{moments_in_range}
use Rattle.flu_fork.proofs.Sides.{independent}
use Rattle.flu_fork.proofs.KinLemmas.{leaf_owns, of_kids}
use Rattle.flu_fork.proofs.PlaceLemmas.{places_at, all_earlier, moment_is_listed}

some_event : {x y : Event} → Some x ≡ Some y → x ≡ y
some_event e = cc

-- ---- at one moment
module _ (laws : LawsBelow) (k : Setting) (ok : IsSetting k) (before after : List Moment) (m : Moment) (split : moments k ≡ before ++ m ∷ after) where
  abbrev InRange : Moment → Type 0
  InRange q = q.event.itag.0 < count_of_itags k.program

  ranges : AllByRecursion InRange (before ++ m ∷ after)
  ranges = subst (AllByRecursion InRange) split (moments_in_range laws k ok)

  range_before : AllByRecursion InRange before
  range_before = all_front InRange before (m ∷ after) ranges

  range_here : InRange m
  range_here = (all_back InRange before (m ∷ after) ranges).0

  range_behind : AllByRecursion InRange after
  range_behind = (all_back InRange before (m ∷ after) ranges).1

  -- what follows for each moment, of an itag of the job
  pub each_before : (P Q : Moment → Type 0) → ((q : Moment) → q.event.itag.0 < count_of_itags k.program → P q → Q q)
      → AllByRecursion P before → AllByRecursion Q before
  each_before P Q f all = all_of_both InRange P Q before f range_before all

  pub each_behind : (P Q : Moment → Type 0) → ((q : Moment) → q.event.itag.0 < count_of_itags k.program → P q → Q q)
      → AllByRecursion P after → AllByRecursion Q after
  each_behind P Q f all = all_of_both InRange P Q after f range_behind all

  -- dependency is mutual
  turned : (q : Moment) → depends_on k.program m q ≡ true → depends_on k.program q m ≡ true
  turned q d = laws.turns k.program (tag_of_itag k.program q.event.itag) (tag_of_itag k.program m.event.itag) ∙ d

  module _ (upto : List ℕ) (next : slice_index upto m.event.itag.0 ≡ m.index) where
    -- NONE BEHIND: where the counted events are a prefix and m is not counted, none behind m is counted that m depends on
    pub none_behind : IsPrefix k.program (moments k) upto → AllByRecursion (λ q. depends_on k.program m q ≡ true → is_below upto q ≡ false) after
    none_behind prefix =
        all_from_places (λ q. depends_on k.program m q ≡ true → is_below upto q ≡ false) after
        (λ us vs q e d. false_if_not _ (λ counted.
        (let all = prefix (before ++ m ∷ us) vs q (split ∙ ap (λ l. before ++ m ∷ l) e ∙ sym (append_assoc before (m ∷ us) (q ∷ vs))) counted in
        let at_m =
        all_at_place (λ r. depends_on k.program q r ≡ true → is_below upto r ≡ true) (before ++ m ∷ us) before us m refl all in
        let less = true_lt m.index (slice_index upto m.event.itag.0) (at_m (turned q d)) in
        absurd (omega arith))))

    -- COUNTED BEFORE: where m's event is before each uncounted event of the set's other itags that it depends on, those before it are counted
    pub counted_before : (set : Itags) → IsClearOf k set upto m.event → CountsBefore k.program set upto before m
    counted_before set clear =
        all_from_places (λ q. set q.event.itag.0 ≡ true → depends_on k.program m q ≡ true → is_below upto q ≡ true) before
        (λ us vs q e inside d. elim (cases_lt q.index (slice_index upto q.event.itag.0)) [
          | inl less ↦ lt_true q.index (slice_index upto q.event.itag.0) less
          | inr not_less ↦ absurd (late us vs q e inside d not_less)
        ])
      where
        late : (us vs : List Moment) (q : Moment) → before ≡ us ++ q ∷ vs → set q.event.itag.0 ≡ true → depends_on k.program m q ≡ true
            → slice_index upto q.event.itag.0 ≤ q.index → ⊥
        late us vs q e inside d not_less =
            elim (cases_eq q.event.itag.0 m.event.itag.0) [
              | inl same ↦
                  (let at =
                  all_at_place (λ (r : Moment). r.event.itag.0 ≡ m.event.itag.0 → r.index < m.index) before us vs q e
                  (places_at laws k ok before after m split) in
                  let less : q.index < m.index = at same in
                  let here : slice_index upto q.event.itag.0 ≡ slice_index upto m.event.itag.0 = ap (slice_index upto) same in
                  omega arith)
              | inr other ↦
                  (let listed =
                  moment_is_listed laws k ok us (vs ++ m ∷ after) q (split ∙ ap (λ l. l ++ m ∷ after) e ∙ append_assoc us (q ∷ vs) (m ∷ after)) in
                  let there = clear q.event.itag.0 q.index q.event inside other d not_less listed in
                  let ordered =
                  all_at_place (λ (r : Moment). is_before r.event m.event ≡ true) before us vs q e (all_earlier laws k ok before after m split) in
                  not_both _ there (not_back q.event.time q.event.itag.0 m.event.time m.event.itag.0 ordered))
            ]

-- ---- at a content
module _ (laws : LawsBelow) (k : Content) where
  abbrev S : Setting
  S = setting_of k

  -- the same counts of a set
  pub just_before_as : (set : Itags) (y : Ask) (upto more : List ℕ)
      → ((i : ℕ) → i < count_of_itags (job k) → set i ≡ true → slice_index more i ≡ slice_index upto i)
      → CountsJustBefore k set y upto → CountsJustBefore k set y more
  just_before_as set y upto more same just before after m split ei ex =
      let here = just before after m split ei ex in (
        each_before laws S (setting_holds k) before after m split (λ q. set q.event.itag.0 ≡ true → depends_on (job k) m q ≡ true → is_below upto q ≡ true)
            (λ q. set q.event.itag.0 ≡ true → depends_on (job k) m q ≡ true → is_below more q ≡ true)
            (λ q lt h inside d. ap (nat_lt q.index) (same q.event.itag.0 lt inside) ∙ h inside d) here.0,
        each_behind laws S (setting_holds k) before after m split (λ q. set q.event.itag.0 ≡ true → depends_on (job k) m q ≡ true → is_below upto q ≡ false)
            (λ q. set q.event.itag.0 ≡ true → depends_on (job k) m q ≡ true → is_below more q ≡ false)
            (λ q lt h inside d. ap (nat_lt q.index) (same q.event.itag.0 lt inside) ∙ h inside d) here.1,
      )

  -- CLEAR
  pub clear_just_before : (set : Itags) (y : Ask) (x : Event) (upto : List ℕ) → IsPrefix (job k) (moments (setting_of k)) upto
      → slice_index upto y.itag.0 ≡ y.index → IsEventAt (setting_of k) y.itag.0 y.index x → IsClearOf (setting_of k) set upto x
      → CountsJustBefore k set y upto
  clear_just_before set y x upto prefix next there clear before after m split ei ex =
      let listed = moment_is_listed laws S (setting_holds k) before after m split in
      let found : IsEventAt (setting_of k) y.itag.0 y.index m.event = (λ j. slice_get (events (sym ei j)) (sym ex j)) ∙ listed in
      let same : x ≡ m.event = some_event (sym there ∙ found) in
      let next_m : slice_index upto m.event.itag.0 ≡ m.index = ap (λ (i : Itag). slice_index upto i.0) ei ∙ next ∙ sym ex in (
        counted_before laws S (setting_holds k) before after m split upto next_m set (subst (IsClearOf S set upto) same clear),
        all_map (λ q. depends_on (job k) m q ≡ true → is_below upto q ≡ false)
            (λ q. set q.event.itag.0 ≡ true → depends_on (job k) m q ≡ true → is_below upto q ≡ false) after (λ q h inside d. h d)
            (none_behind laws S (setting_holds k) before after m split upto next_m prefix),
      )
    where
      events : Itag → List Event
      events i = Rattle.flu_fork.specs.Settings.events_at (setting_of k) i.0

  -- ---- a node's subtree
  module _ (w : ℕ) (y : Ask) (upto : List ℕ) where
    pub at_leaf : kids k w ≡ None → CountsJustBefore k (own (job k) (nodes k) w) y upto → CountsJustBefore k (below (job k) (nodes k) w) y upto
    at_leaf leaf just before after m split ei ex =
        let here = just before after m split ei ex in
        let mine = λ (i : ℕ) (lt : i < count_of_itags (job k)) (inside : below (job k) (nodes k) w i ≡ true).
        (sym (leaf_owns laws S (setting_holds k) w i lt leaf) ∙ inside) in (
          each_before laws S (setting_holds k) before after m split
              (λ q. own (job k) (nodes k) w q.event.itag.0 ≡ true → depends_on (job k) m q ≡ true → is_below upto q ≡ true)
              (λ q. below (job k) (nodes k) w q.event.itag.0 ≡ true → depends_on (job k) m q ≡ true → is_below upto q ≡ true)
              (λ q lt h inside d. h (mine q.event.itag.0 lt inside) d) here.0,
          each_behind laws S (setting_holds k) before after m split
              (λ q. own (job k) (nodes k) w q.event.itag.0 ≡ true → depends_on (job k) m q ≡ true → is_below upto q ≡ false)
              (λ q. below (job k) (nodes k) w q.event.itag.0 ≡ true → depends_on (job k) m q ≡ true → is_below upto q ≡ false)
              (λ q lt h inside d. h (mine q.event.itag.0 lt inside) d) here.1,
        )

    -- what holds of a node's own itags and of those of its children's subtrees
    in_three : (l r i : ℕ) → kids k w ≡ Some (l, r) → i < count_of_itags (job k) → (P : Type 0)
        → (own (job k) (nodes k) w i ≡ true → P) → (below (job k) (nodes k) l i ≡ true → P) → (below (job k) (nodes k) r i ≡ true → P)
        → below (job k) (nodes k) w i ≡ true → P
    in_three l r i e lt P a b c inside =
        elim (of_kids laws S (setting_holds k) w l r i e lt).parts [
          | InNone t u v z ↦ absurd (not_both _ inside t)
          | InFirst t u v z ↦ a u
          | InSecond t u v z ↦ b v
          | InThird t u v z ↦ c z
        ]

    pub at_inner : (l r : ℕ) → kids k w ≡ Some (l, r) → CountsJustBefore k (own (job k) (nodes k) w) y upto
        → CountsJustBefore k (below (job k) (nodes k) l) y upto → CountsJustBefore k (below (job k) (nodes k) r) y upto
        → CountsJustBefore k (below (job k) (nodes k) w) y upto
    at_inner l r e mine lefts rights before after m split ei ex =
        let a = mine before after m split ei ex in
        let b = lefts before after m split ei ex in
        let c = rights before after m split ei ex in (
          each_before laws S (setting_holds k) before after m split (Three true m) (One (below (job k) (nodes k) w) true m)
              (λ q lt h inside d. in_three l r q.event.itag.0 e lt (is_below upto q ≡ true) (λ u. h.0 u d) (λ u. h.1.0 u d) (λ u. h.1.1 u d) inside)
              (all_three true m before a.0 b.0 c.0),
          each_behind laws S (setting_holds k) before after m split (Three false m) (One (below (job k) (nodes k) w) false m)
              (λ q lt h inside d. in_three l r q.event.itag.0 e lt (is_below upto q ≡ false) (λ u. h.0 u d) (λ u. h.1.0 u d) (λ u. h.1.1 u d) inside)
              (all_three false m after a.1 b.1 c.1),
        )
      where
        One : Itags → Bool → Moment → Moment → Type 0
        One set t n q = set q.event.itag.0 ≡ true → depends_on (job k) n q ≡ true → is_below upto q ≡ t

        Three : Bool → Moment → Moment → Type 0
        Three t n q = One (own (job k) (nodes k) w) t n q × (One (below (job k) (nodes k) l) t n q × One (below (job k) (nodes k) r) t n q)

        all_three : (t : Bool) (n : Moment) (ms : List Moment) → AllByRecursion (One (own (job k) (nodes k) w) t n) ms
            → AllByRecursion (One (below (job k) (nodes k) l) t n) ms → AllByRecursion (One (below (job k) (nodes k) r) t n) ms
            → AllByRecursion (Three t n) ms
        all_three t n [] a b c = tt
        all_three t n (q ∷ ms) a b c = ((a.0, (b.0, c.0)), all_three t n ms a.1 b.1 c.1)

    -- EXACT
    pub just_before_exact : (before after : List Moment) (m : Moment) → below (job k) (nodes k) w y.itag.0 ≡ true → slice_index upto y.itag.0 ≡ y.index
        → CountsJustBefore k (below (job k) (nodes k) w) y upto → CountsJustBefore k (above (job k) (nodes k) w) y upto
        → moments (setting_of k) ≡ before ++ m ∷ after → m.event.itag ≡ y.itag → m.index ≡ y.index → IsExact (job k) before after m upto
    just_before_exact before after m inside next inner outer split ei ex =
        let a = inner before after m split ei ex in
        let b = outer before after m split ei ex in
        let here : below (job k) (nodes k) w m.event.itag.0 ≡ true = ap (λ (i : Itag). below (job k) (nodes k) w i.0) ei ∙ inside in
        let known = range_here laws S (setting_holds k) before after m split in
        record {
          next = ap (λ (i : Itag). slice_index upto i.0) ei ∙ next ∙ sym ex;
          counted = each_before laws S (setting_holds k) before after m split (Two true m)
              (λ q. depends_on (job k) m q ≡ true → is_below upto q ≡ true)
              (λ q lt h d. two_cases true m q here known lt h d) (all_two true m before a.0 b.0);
          others = each_behind laws S (setting_holds k) before after m split (Two false m)
              (λ q. depends_on (job k) m q ≡ true → is_below upto q ≡ false)
              (λ q lt h d. two_cases false m q here known lt h d) (all_two false m after a.1 b.1);
        }
      where
        One : Itags → Bool → Moment → Moment → Type 0
        One set t n q = set q.event.itag.0 ≡ true → depends_on (job k) n q ≡ true → is_below upto q ≡ t

        Two : Bool → Moment → Moment → Type 0
        Two t n q = One (below (job k) (nodes k) w) t n q × One (above (job k) (nodes k) w) t n q

        all_two : (t : Bool) (n : Moment) (ms : List Moment) → AllByRecursion (One (below (job k) (nodes k) w) t n) ms
            → AllByRecursion (One (above (job k) (nodes k) w) t n) ms → AllByRecursion (Two t n) ms
        all_two t n [] a b = tt
        all_two t n (q ∷ ms) a b = ((a.0, b.0), all_two t n ms a.1 b.1)

        -- what is neither below the node nor above it is beside it
        two_cases : (t : Bool) (n q : Moment) → below (job k) (nodes k) w n.event.itag.0 ≡ true → n.event.itag.0 < count_of_itags (job k)
            → q.event.itag.0 < count_of_itags (job k) → Two t n q → depends_on (job k) n q ≡ true → is_below upto q ≡ t
        two_cases t n q here known lt h d =
            elim (cases_Bool (below (job k) (nodes k) w q.event.itag.0)) [
              | inl in_subtree ↦ h.0 in_subtree d
              | inr not_in ↦ elim (cases_Bool (above (job k) (nodes k) w q.event.itag.0)) [
                | inl over ↦ h.1 over d
                | inr not_over ↦
                    absurd (not_both _ d (independent laws S (setting_holds k) w n.event.itag.0 q.event.itag.0 known lt here
                    (both (not (below (job k) (nodes k) w q.event.itag.0)) _ (not_from_false _ not_in) (not_from_false _ not_over))))
              ]
            ]

pub clear_law : LawsBelow → ClearIsJustBefore
clear_law laws k set y x upto prefix next there clear = clear_just_before laws k set y x upto prefix next there clear

pub leaf_law : LawsBelow → JustBeforeAtLeaf
leaf_law laws k w y upto leaf there mine = at_leaf laws k w y upto leaf mine

pub inner_law : LawsBelow → JustBeforeAtInner
inner_law laws k w l r y upto e there mine lefts rights = at_inner laws k w y upto l r e mine lefts rights

pub exact_law : LawsBelow → JustBeforeIsExact
exact_law laws k w y upto before after m inside next inner outer split ei ex =
    just_before_exact laws k w y upto before after m inside next inner outer split ei ex

pub leaves_law : LawsBelow → LeavesServe
leaves_law laws k w lent y x lot leaf there fits loan next here clear = record {
  loan = loan;
  exact = at_leaf laws k w y lot.upto leaf (clear_just_before laws k (own (job k) (nodes k) w) y x lot.upto fits.prefix next here clear);
}
