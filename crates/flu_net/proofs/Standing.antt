-- Each step keeps what is said of a worker with the edge above it.
use Rattle.std.proofs.Common.{◌≡◌, ◌≢◌, ◌<◌, ℕ, Bool, true, false, cond, Option, Some, None, List, length, set, inl, inr, refl, sym, ap, subst, ◌∙◌, arith}
use Rattle.std.specs.Prelude.{slice_get}
use Rattle.std.proofs.lemmas.Bool.{cases_eq}
use Rattle.std.proofs.lemmas.Option.{slice_get_within, same_Some, none-some}
use Rattle.flu_lemmas.proofs.Tests.{not_both}
use Rattle.flu_lemmas.proofs.Replaced.{slice_get-set_same, slice_get-set_other}
use Rattle.flu_model.specs.Itags.{count_of_itags}
use Rattle.flu_fork.specs.declared.content.Content.{Content}
use Rattle.flu_fork.specs.declared.lots.Ask.{Ask}
use Rattle.flu_fork.specs.declared.lots.Lot.{Lot}
use Rattle.flu_fork.specs.Classes.{above}
use Rattle.flu_fork.specs.Lots.{job, nodes, setting_of}
use Rattle.flu_worker.specs.declared.hand.Hand.{Hand}
use Rattle.flu_worker.specs.declared.hand.Hand.TheVariants.{Empty, Whole, Lending, Down, Taking}
use Rattle.flu_worker.specs.declared.hand.Side.{Side}
use Rattle.flu_worker.specs.declared.hand.Side.TheVariants.{Left, Right}
use Rattle.flu_worker.specs.Calls.{IsSamePlace, HandlesEvent, HoldsLot, GivesLot, LendsPart, TakesPart, KeepsTarget}
use Rattle.flu_worker.specs.Choosing.{sight, first_some, new_target, target_of}
use Rattle.flu_worker.specs.Hands.{is_down, is_lost, is_open, may_lend, may_take, first_hand, after_lend, after_take}
use Rattle.flu_worker.specs.Notes.{WorkerNote, above_of}
use Rattle.flu_net.specs.declared.edges.Edge.{Edge}
use Rattle.flu_net.specs.declared.edges.Edge.TheVariants.{Home, Lent, Held, Asked, Given}
use Rattle.flu_net.specs.LawsBelow.{LawsBelow}
use Rattle.flu_net.specs.Notes.{asked_over}
use Rattle.flu_net.specs.Rule.{Stands, AllStand}
use Rattle.flu_net.proofs.Hands.{first_open}
use Rattle.flu_net.proofs.Readying.{asked_edge}

-- ---- hands
pub first_sound : (o : Option (ℕ × ℕ)) → is_lost (first_hand o) ≡ false
first_sound None = refl
first_sound (Some kids) = refl

lend_sound : (s : Side) (h : Hand) → may_lend s h ≡ true → is_lost (after_lend s h) ≡ false
lend_sound s Empty e = refl
lend_sound s Whole e = refl
lend_sound Left (Lending l true) e = refl
lend_sound Left (Lending l false) e = refl
lend_sound Right (Lending true r) e = refl
lend_sound Right (Lending false r) e = refl
lend_sound s Down e = refl
lend_sound s (Taking l r) e = cc

take_sound : (s : Side) (h : Hand) → may_take s h ≡ true → is_lost (after_take s h) ≡ false
take_sound s Empty e = refl
take_sound s Whole e = refl
take_sound s (Lending l r) e = refl
take_sound Left Down e = refl
take_sound Right Down e = refl
take_sound Left (Taking l true) e = refl
take_sound Left (Taking l false) e = refl
take_sound Right (Taking true r) e = refl
take_sound Right (Taking false r) e = refl

abbrev above_at : Content → ℕ → ℕ → Bool
above_at k w i = above (job k) (nodes k) w i

same_above : (n m : WorkerNote) (i : ℕ) → IsSamePlace n m → above_of m i ≡ true → above_of n i ≡ true
same_above n m i place e = sym (λ j. above_at (place.case j) (place.node j) i) ∙ e

module _ (ws : List WorkerNote) (es : List Edge) (all : AllStand ws es) (w : ℕ) (n m : WorkerNote) (at : slice_get ws w ≡ Some n) where
  there : w < length ws
  there = slice_get_within ws w n at

  -- worker w is m now, and it stands with its edge, as do the others
  stands_set : (es' : List Edge) → ((e : Edge) → slice_get es' w ≡ Some e → Stands w m e)
      → ((j : ℕ) (v : WorkerNote) (e : Edge) → j ≢ w → slice_get ws j ≡ Some v → slice_get es' j ≡ Some e → Stands j v e) → AllStand (set ws w m) es'
  stands_set es' here others j v e a b = elim (cases_eq j w) as (λ _. Stands j v e) [
    | inl same ↦
        let is : m ≡ v = same_Some m v (sym (slice_get-set_same ws w m there) ∙ sym (ap (slice_get (set ws w m)) same) ∙ a) in
        subst (λ (x : WorkerNote). Stands j x e) is (subst (λ (i : ℕ). Stands i m e) (sym same) (here e (sym (ap (slice_get es') same) ∙ b)))
    | inr apart ↦ others j v e apart (sym (slice_get-set_other ws w j m apart) ∙ a) b
  ]

  -- no edge changes
  pub stands_here : ((e : Edge) → slice_get es w ≡ Some e → Stands w m e) → AllStand (set ws w m) es
  stands_here here = stands_set es here (λ j v e apart a b. all j v e a b)

  -- its own edge does
  pub stands_own : (new : Edge) → Stands w m new → (w < length es) → AllStand (set ws w m) (set es w new)
  stands_own new stands within =
      stands_set (set es w new) (λ e is. subst (Stands w m) (same_Some new e (sym (slice_get-set_same es w new within) ∙ is)) stands)
      (λ j v e apart a b. all j v e a (sym (slice_get-set_other es w j new apart) ∙ b))

  -- that to a child does, and nothing was asked over it
  pub stands_kid : (kid : ℕ) (old new : Edge) → slice_get es kid ≡ Some old → w ≢ kid → ((y : Ask) → old ≡ Asked y → ⊥)
      → ((e : Edge) → slice_get es w ≡ Some e → Stands w m e) → AllStand (set ws w m) (set es kid new)
  stands_kid kid old new was apart free here =
      stands_set (set es kid new) (λ e is. here e (sym (slice_get-set_other es kid w new apart) ∙ is)) others
    where
      others : (j : ℕ) (v : WorkerNote) (e : Edge) → j ≢ w → slice_get ws j ≡ Some v → slice_get (set es kid new) j ≡ Some e → Stands j v e
      others j v e off a b = elim (cases_eq j kid) as (λ _. Stands j v e) [
        | inl same ↦
            let before = all j v old a (ap (slice_get es) same ∙ was) in
            record { asked = λ y kept over. absurd (free y (before.asked y kept over)); sound = before.sound; root = before.root }
        | inr still ↦ all j v e a (sym (slice_get-set_other es kid j new still) ∙ b)
      ]

  -- ---- the steps
  pub stands_handle : (x : Ask) → HandlesEvent x n m → AllStand (set ws w m) es
  stands_handle x h = stands_here (λ e is. record {
    asked = λ y kept over. absurd (none-some y (sym h.kept ∙ kept));
    sound = ap is_lost h.hand ∙ first_sound _;
    root = λ _. ap is_open h.hand ∙ first_open _;
  })

  pub stands_hold : (lot : Lot) → w < length es → HoldsLot lot n m → AllStand (set ws w m) (set es w Held)
  stands_hold lot within h = stands_own Held (record {
    asked = λ y kept over. absurd (none-some y (sym h.kept ∙ kept));
    sound = ap is_lost h.hand ∙ first_sound _;
    root = λ _. ap is_open h.hand ∙ first_open _;
  }) within

  pub stands_give : (lot given : Lot) → w < length es → 0 < w → GivesLot lot n m → AllStand (set ws w m) (set es w (Given given))
  stands_give lot given within below h = stands_own (Given given) (record {
    asked = λ y kept over. absurd (none-some y (sym h.kept ∙ kept));
    sound = ap is_lost h.hand;
    root = λ top. absurd (omega arith);
  }) within

  -- the target stays, and the lot is not lost
  stays : IsSamePlace n m → m.kept ≡ n.kept → is_lost m.hand ≡ false → is_open m.hand ≡ true → (e : Edge) → slice_get es w ≡ Some e → Stands w m e
  stays place same sound opened e is =
      let was = all w n e at is in
      record { asked = λ y kept over. was.asked y (sym same ∙ kept) (same_above n m y.itag.0 place over); sound = sound; root = λ _. opened }

  pub stands_lend : LawsBelow → (s : Side) (part lot : Lot) (kid : ℕ) → slice_get es kid ≡ Some Home → w ≢ kid → may_lend s n.hand ≡ true → LendsPart s part n m
      → AllStand (set ws w m) (set es kid (Lent lot))
  stands_lend laws s part lot kid was apart may h =
      stands_kid kid Home (Lent lot) was apart (λ y e. cc)
      (stays h.place h.kept (ap is_lost h.hand ∙ lend_sound s n.hand may) (ap is_open h.hand ∙ (laws.lend_turns s n.hand may).open_after))

  pub stands_take : LawsBelow → (s : Side) (lot given : Lot) (kid : ℕ) → slice_get es kid ≡ Some (Given given) → w ≢ kid → may_take s n.hand ≡ true
      → TakesPart s lot n m
      → AllStand (set ws w m) (set es kid Home)
  stands_take laws s lot given kid was apart may h =
      stands_kid kid (Given given) Home was apart (λ y e. cc)
      (stays h.place h.kept (ap is_lost h.hand ∙ take_sound s n.hand may) (ap is_open h.hand ∙ (laws.take_turns s n.hand may).open_after))

  -- what a worker asks for is its own or what is asked of it
  module _ (laws : LawsBelow) (target : Ask) (known : target.itag.0 < count_of_itags (job n.case))
      (aims : target_of n (asked_over (slice_get es w)) ≡ Some target)
      (e : Edge) (is : slice_get es w ≡ Some e) (over : above_of n target.itag.0 ≡ true) where
    asked_new : new_target (sight n) (asked_over (slice_get es w)) ≡ Some target → e ≡ Asked target
    asked_new found = elim (laws.new_targets (sight n) (asked_over (slice_get es w)) target found) [
      | inl mine ↦
          let node = laws.of_nodes (setting_of n.case) n.node target.itag.0 (laws.settings n.case) known in
          absurd (not_both _ (node.own mine) (node.above over))
      | inr asked ↦ same_Some e (Asked target) (sym is ∙ asked_edge (slice_get es w) target asked)
    ]

    asked_for : (o : Option Ask) → n.kept ≡ o → first_some o (cond (is_down n.hand) (new_target (sight n) (asked_over (slice_get es w))) None) ≡ Some target
        → e ≡ Asked target
    asked_for (Some y) kept f = (all w n e at is).asked target (kept ∙ f) over
    asked_for None kept f = elim (is_down n.hand) as (λ t. cond t (new_target (sight n) (asked_over (slice_get es w))) None ≡ Some target → e ≡ Asked target) [
      | true ↦ asked_new
      | false ↦ λ g. cc
    ] f

    pub is_asked : e ≡ Asked target
    is_asked = asked_for n.kept refl aims

  pub stands_ask : LawsBelow → (kid : ℕ) (target : Ask) → target.itag.0 < count_of_itags (job n.case) → target_of n (asked_over (slice_get es w)) ≡ Some target
      → slice_get es kid ≡ Some Held → w ≢ kid → KeepsTarget (Some target) n m → AllStand (set ws w m) (set es kid (Asked target))
  stands_ask laws kid target known aims was apart h =
      stands_kid kid Held (Asked target) was apart (λ y e. cc) here
    where
      here : (e : Edge) → slice_get es w ≡ Some e → Stands w m e
      here e is =
          let before = all w n e at is in
          record {
            asked = λ y kept over. (
                let one : target ≡ y = same_Some target y (sym (h.some target refl) ∙ kept) in
                let over_n : above_of n target.itag.0 ≡ true = ap (λ (z : Ask). above_of n z.itag.0) one
                ∙ sym (ap (λ (x : WorkerNote). above_of x y.itag.0) h.rest) ∙ over in
                subst (λ (z : Ask). e ≡ Asked z) one (is_asked laws target known aims e is over_n));
            sound = ap (λ (x : WorkerNote). is_lost x.hand) h.rest ∙ before.sound;
            root = λ top. ap (λ (x : WorkerNote). is_open x.hand) h.rest ∙ before.root top;
          }
