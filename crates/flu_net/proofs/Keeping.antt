-- Each step keeps the rule of the net.
use Rattle.std.proofs.Common.{◌≡◌, ◌≢◌, ◌<◌, ◌+◌, ℕ, Option, Some, List, length, set, true, inl, inr, refl, sym, ap, subst, ◌∙◌, arith}
use Rattle.std.specs.Prelude.{slice_get, slice_index}
use Rattle.std.proofs.lemmas.Bool.{cases_eq}
use Rattle.std.proofs.lemmas.List.{get_or-set_same, get_or-set_other, length-set}
use Rattle.std.proofs.lemmas.Option.{slice_get_within, same_Some}
use Rattle.flu_lemmas.proofs.Replaced.{slice_get-set_other}
use Rattle.flu_model.specs.declared.events.Itag.{Itag}
use Rattle.flu_model.specs.declared.events.Out.{Out}
use Rattle.flu_model.specs.Itags.{count_of_itags}
use Rattle.flu_fork.specs.declared.content.Content.{Content}
use Rattle.flu_fork.specs.declared.lots.Ask.{Ask}
use Rattle.flu_fork.specs.Classes.{own, below}
use Rattle.flu_fork.specs.Lots.{job, nodes, kids, setting_of}
use Rattle.flu_fork.specs.Texts.{HasTexts}
use Rattle.flu_worker.specs.declared.hand.Side.{Side}
use Rattle.flu_worker.specs.Calls.{CountsEvent, IsAskable, KeepsTarget}
use Rattle.flu_worker.specs.Hands.{at_side, may_lend, may_take}
use Rattle.flu_worker.specs.Notes.{WorkerNote, own_of}
use Rattle.flu_net.specs.declared.edges.Edge.{Edge}
use Rattle.flu_net.specs.declared.edges.Edge.TheVariants.{Home, Lent, Held, Asked, Given}
use Rattle.flu_net.specs.Effects.{IsStepOf, Asks, Gives, Handles, Holds, Lends, Takes}
use Rattle.flu_net.specs.LawsBelow.{LawsBelow}
use Rattle.flu_net.specs.Notes.{NetNote}
use Rattle.flu_net.specs.Rule.{AllStand, IsSeen, Rule, Tells, Ties}
use Rattle.flu_net.proofs.Framing.{under}
use Rattle.flu_net.proofs.Lists.{set_is}
use Rattle.flu_net.proofs.Readying.{kid_pair, lend_was, take_may}
use Rattle.flu_net.proofs.Standing.{stands_ask, stands_give, stands_handle, stands_hold, stands_lend, stands_take}
use Rattle.flu_net.proofs.Stepping.{below_top, ties_ask, ties_give, ties_handle, ties_hold, ties_lend, ties_take}

-- ---- a net as its parts say
ties_as : (k j : Content) (a b : List ℕ) (ws vs : List WorkerNote) (es fs : List Edge) → j ≡ k → b ≡ a → vs ≡ ws → fs ≡ es → Ties k a ws es → Ties j b vs fs
ties_as k j a b ws vs es fs ek ea ew ee t =
    subst (λ x. Ties x b vs fs) (sym ek) (subst (λ x. Ties k x vs fs) (sym ea) (subst (λ x. Ties k a x fs) (sym ew) (subst (λ x. Ties k a ws x) (sym ee) t)))

stands_as : (ws vs : List WorkerNote) (es fs : List Edge) → vs ≡ ws → fs ≡ es → AllStand ws es → AllStand vs fs
stands_as ws vs es fs ew ee t = subst (λ x. AllStand x fs) (sym ew) (subst (λ x. AllStand ws x) (sym ee) t)

tells_as : (k j : Content) (ws vs : List WorkerNote) (a b : List Out) → j ≡ k → vs ≡ ws → b ≡ a → Tells k ws a → Tells j vs b
tells_as k j ws vs a b ek ew eo t = subst (λ x. Tells x vs b) (sym ek) (subst (λ x. Tells k x b) (sym ew) (subst (λ x. Tells k ws x) (sym eo) t))

seen_as : (k j : Content) (a b : List ℕ) → j ≡ k → b ≡ a → IsSeen k a → IsSeen j b
seen_as k j a b ek ea s = subst (λ x. IsSeen x b) (sym ek) (subst (λ x. IsSeen k x) (sym ea) s)

-- ---- the outputs
module _ (laws : LawsBelow) (k : Content) (ws : List WorkerNote) (outs : List Out) (t : Tells k ws outs) (w : ℕ) (n m : WorkerNote)
    (at : slice_get ws w ≡ Some n) where
  within : w < length ws
  within = slice_get_within ws w n at

  -- nothing is counted
  pub tells_same : ((i : ℕ) → own (job k) (nodes k) w i ≡ true → slice_index m.counts i ≡ slice_index n.counts i) → Tells k (set ws w m) outs
  tells_same same = record {
    long = t.long;
    done = t.done;
    counted = λ j p i up mine. elim (cases_eq j w) as (λ _. slice_index p.counts i ≡ slice_index t.done i) [
      | inl is ↦
          let mine_w : own (job k) (nodes k) w i ≡ true = sym (ap (λ x. own (job k) (nodes k) x i) is) ∙ mine in
          ap (λ (q : WorkerNote). slice_index q.counts i) (sym (set_is ws w m p within (sym (ap (slice_get (set ws w m)) is) ∙ up))) ∙ same i mine_w
          ∙ t.counted w n i at mine_w
      | inr apart ↦ t.counted j p i (sym (slice_get-set_other ws w j m apart) ∙ up) mine
    ];
    texts = t.texts;
  }

  -- one event is
  module _ (x : Ask) (after : List Out) (c : CountsEvent k x n.counts m.counts outs after) (owned : own (job k) (nodes k) w x.itag.0 ≡ true) where
    at_itag : c.moment.event.itag.0 ≡ x.itag.0
    at_itag = ap (λ (i : Itag). i.0) c.itag

    pub known : x.itag.0 < count_of_itags (job k)
    known =
        let is = laws.events (setting_of k) c.front c.back c.moment (laws.settings k) c.stands in
        let lt : c.moment.event.itag.0 < count_of_itags (job k) =
        laws.known (setting_of k) c.moment.event.itag.0 c.moment.index c.moment.event (laws.settings k) is in
        let same = at_itag in
        omega arith

    more : List ℕ
    more = set t.done x.itag.0 (x.index + 1)

    more_here : slice_index more x.itag.0 ≡ x.index + 1
    unfolding more
    more_here = get_or-set_same t.done x.itag.0 (x.index + 1) 0 (let a = t.long in let b = known in omega arith)

    more_there : (j : ℕ) → j ≢ x.itag.0 → slice_index more j ≡ slice_index t.done j
    unfolding more
    more_there j apart = get_or-set_other t.done x.itag.0 j (x.index + 1) 0 apart

    others_own : (j i : ℕ) → j ≢ w → own (job k) (nodes k) j i ≡ true → i ≡ x.itag.0 → ⊥
    others_own j i apart mine same =
        let mine_x : own (job k) (nodes k) j x.itag.0 ≡ true = sym (ap (own (job k) (nodes k) j) same) ∙ mine in
        let a = (laws.of_nodes (setting_of k) j x.itag.0 (laws.settings k) known).owner.0 mine_x in
        let b = (laws.of_nodes (setting_of k) w x.itag.0 (laws.settings k) known).owner.0 owned in
        apart (same_Some j w (sym a ∙ b))

    counted_more : (j : ℕ) (p : WorkerNote) (i : ℕ) → slice_get (set ws w m) j ≡ Some p → own (job k) (nodes k) j i ≡ true
        → slice_index p.counts i ≡ slice_index more i
    counted_more j p i up mine = elim (cases_eq j w) as (λ _. slice_index p.counts i ≡ slice_index more i) [
      | inl is ↦
          let mine_w : own (job k) (nodes k) w i ≡ true = sym (ap (λ x. own (job k) (nodes k) x i) is) ∙ mine in
          ap (λ (q : WorkerNote). slice_index q.counts i) (sym (set_is ws w m p within (sym (ap (slice_get (set ws w m)) is) ∙ up))) ∙
          (elim (cases_eq i x.itag.0) as (λ _. slice_index m.counts i ≡ slice_index more i) [
            | inl same ↦ (c.counts i).0 same ∙ sym more_here ∙ ap (slice_index more) (sym same)
            | inr differs ↦ (c.counts i).1 differs ∙ t.counted w n i at mine_w ∙ sym (more_there i differs)
          ])
      | inr apart ↦
          t.counted j p i (sym (slice_get-set_other ws w j m apart) ∙ up) mine ∙ sym (more_there i (λ same. others_own j i apart mine same))
    ]

    pub tells_event : Tells k (set ws w m) after
    unfolding more
    tells_event = record {
      long = length-set t.done x.itag.0 (x.index + 1) ∙ t.long;
      done = more;
      counted = counted_more;
      texts = subst (HasTexts (setting_of k) (below (job k) (nodes k) 0) more) (sym c.outputs)
          (laws.more_texts (setting_of k) (below (job k) (nodes k) 0) c.front c.back c.moment t.done more outs (laws.settings k) c.stands
          ((laws.of_root (setting_of k) c.moment.event.itag.0 (laws.settings k) (let a = at_itag in let b = known in omega arith)).below)
          (record {
            was = ap (slice_index t.done) at_itag ∙ sym (t.counted w n x.itag.0 at owned) ∙ c.next ∙ sym c.index;
            is = ap (slice_index more) at_itag ∙ more_here ∙ ap (λ q. q + 1) (sym c.index);
            rest = λ j apart. more_there j (λ same. apart (same ∙ sym at_itag));
          }) t.texts);
    }

-- ---- the steps
-- where nothing is counted
pub rule_same : (w : ℕ) (old new : NetNote) → LawsBelow → Rule old → (s : IsStepOf w old new) → (es : List Edge) → new.edges ≡ es → new.outs ≡ old.outs
    → Ties old.case old.seen (set old.workers w s.is) es → AllStand (set old.workers w s.is) es
    → ((i : ℕ) → own (job old.case) (nodes old.case) w i ≡ true → slice_index s.is.counts i ≡ slice_index s.was.counts i) → Rule new
rule_same w old new laws rule s es edges outs ties stands same = record {
  seen = seen_as old.case new.case old.seen new.seen s.case s.seen rule.seen;
  ties = ties_as old.case new.case old.seen new.seen (set old.workers w s.is) new.workers es new.edges s.case s.seen s.workers edges ties;
  stands = stands_as (set old.workers w s.is) new.workers es new.edges s.workers edges stands;
  tells = tells_as old.case new.case (set old.workers w s.is) new.workers old.outs new.outs s.case s.workers outs
      (tells_same laws old.case old.workers old.outs rule.tells w s.was s.is s.at same);
}

pub own_at : (k : Content) (w : ℕ) (n : WorkerNote) (i : ℕ) → n.case ≡ k → n.node ≡ w → own_of n i ≡ true → own (job k) (nodes k) w i ≡ true
own_at k w n i ek ew e = sym (λ j. own (job (ek j)) (nodes (ek j)) (ew j) i) ∙ e

pub rule_handles : LawsBelow → (w : ℕ) (old new : NetNote) → Rule old → Handles w old new → Rule new
rule_handles laws w old new rule h =
    let s = h.step in
    let placed = rule.ties.placed w s.was s.at in record {
      seen = seen_as old.case new.case old.seen new.seen s.case s.seen rule.seen;
      ties = ties_as old.case new.case old.seen new.seen (set old.workers w s.is) new.workers old.edges new.edges s.case s.seen s.workers h.edges
          (ties_handle laws old.case old.seen old.workers old.edges rule.ties w s.was s.is s.at h.event h.does);
      stands =
          stands_as (set old.workers w s.is) new.workers old.edges new.edges s.workers h.edges
          (stands_handle old.workers old.edges rule.stands w s.was s.is s.at h.event h.does);
      tells = tells_as old.case new.case (set old.workers w s.is) new.workers new.outs new.outs s.case s.workers refl
          (tells_event laws old.case old.workers old.outs rule.tells w s.was s.is s.at h.event new.outs h.counts
          (own_at old.case w s.was h.event.itag.0 placed.case placed.node h.does.owned));
    }

-- ---- the other steps
apart : (laws : LawsBelow) (k : Content) (w : ℕ) (s : Side) (l r : ℕ) → kids k w ≡ Some (l, r) → w ≢ at_side s l r
apart laws k w s l r are same = let later = (under laws k s w l r are).earlier in omega arith

-- what a worker asks its children for is of an itag of the job
known_ask : (n m : WorkerNote) (y : Ask) (found : Option Ask) → KeepsTarget found n m → IsAskable m y → (k : Content) (w : ℕ) (s : Side) (l r : ℕ)
    → n.case ≡ k → n.node ≡ w
    → kids k w ≡ Some (l, r) → y.itag.0 < count_of_itags (job n.case)
known_ask n m y found h askable k w s l r ek ew are =
    let case : m.case ≡ n.case = ap (λ (x : WorkerNote). x.case) h.rest in
    let node : m.node ≡ n.node = ap (λ (x : WorkerNote). x.node) h.rest in
    let here : kids m.case m.node ≡ Some (l, r) = (λ i. kids ((case ∙ ek) i) ((node ∙ ew) i)) ∙ are in
    subst (λ (j : Content). y.itag.0 < count_of_itags (job j)) case (askable l r here s).0.known

pub own_to : (k : Content) (w : ℕ) (n : WorkerNote) (i : ℕ) → n.case ≡ k → n.node ≡ w → own (job k) (nodes k) w i ≡ true → own_of n i ≡ true
own_to k w n i ek ew e = (λ j. own (job (ek j)) (nodes (ek j)) (ew j) i) ∙ e

pub rule_holds : LawsBelow → (w : ℕ) (old new : NetNote) → Rule old → Holds w old new → Rule new
rule_holds laws w old new rule h =
    let s = h.step in
    let placed = rule.ties.placed w s.was s.at in
    rule_same w old new laws rule s (set old.edges w Held) h.edges h.outs
    (ties_hold laws old.case old.seen old.workers old.edges rule.ties w s.was s.is s.at h.lot h.lent h.does)
    (stands_hold old.workers old.edges rule.stands w s.was s.is s.at h.lot (slice_get_within old.edges w (Lent h.lot) h.lent) h.does)
    (λ i mine. h.does.counts_own i (own_to old.case w s.was i placed.case placed.node mine))

pub rule_gives : LawsBelow → (w : ℕ) (old new : NetNote) → Rule old → Gives w old new → Rule new
rule_gives laws w old new rule h =
    let s = h.step in
    rule_same w old new laws rule s (set old.edges w (Given h.lot)) h.edges h.outs
    (ties_give laws old.case old.seen old.workers old.edges rule.ties w s.was s.is s.at h.ask h.lot h.asked h.does h.fits h.served)
    (stands_give old.workers old.edges rule.stands w s.was s.is s.at h.lot h.lot (slice_get_within old.edges w (Asked h.ask) h.asked)
    (below_top laws old.case old.seen old.workers old.edges rule.ties w s.was s.is s.at (Asked h.ask) h.asked (λ e. cc)) h.does)
    (λ i mine. ap (λ c. slice_index c i) h.does.counts)

pub rule_lends : LawsBelow → (w : ℕ) (side : Side) (old new : NetNote) → Rule old → (h : Lends w side old new)
    → may_lend side h.step.was.hand ≡ true → Rule new
rule_lends laws w side old new rule h may =
    let s = h.step in
    let pair = kid_pair old.case w h.kid side h.is_kid in
    let same : h.kid ≡ at_side side pair.0 pair.1 = pair.3 in
    rule_same w old new laws rule s (set old.edges (at_side side pair.0 pair.1) (Lent h.lot)) (h.edges ∙ ap (λ v. set old.edges v (Lent h.lot)) same) h.outs
    (ties_lend laws old.case old.seen old.workers old.edges rule.ties w s.was s.is s.at side pair.0 pair.1 pair.2 h.lot
    (sym (ap (slice_get old.edges) same) ∙ lend_was laws old rule w s.was s.at h.kid side h.is_kid may) may h.does h.part)
    (stands_lend old.workers old.edges rule.stands w s.was s.is s.at laws side h.lot h.lot (at_side side pair.0 pair.1)
    (sym (ap (slice_get old.edges) same) ∙ lend_was laws old rule w s.was s.at h.kid side h.is_kid may)
    (apart laws old.case w side pair.0 pair.1 pair.2) may h.does)
    (λ i mine. ap (λ c. slice_index c i) h.does.counts)

pub rule_asks : LawsBelow → (w : ℕ) (side : Side) (old new : NetNote) → Rule old → (h : Asks w side old new)
    → slice_get old.edges h.kid ≡ Some Held → may_take side h.step.was.hand ≡ true → Rule new
rule_asks laws w side old new rule h held may =
    let s = h.step in
    let placed = rule.ties.placed w s.was s.at in
    let pair = kid_pair old.case w h.kid side h.is_kid in
    let same : h.kid ≡ at_side side pair.0 pair.1 = pair.3 in
    rule_same w old new laws rule s (set old.edges (at_side side pair.0 pair.1) (Asked h.target))
    (h.edges ∙ ap (λ v. set old.edges v (Asked h.target)) same) h.outs
    (ties_ask laws old.case old.seen old.workers old.edges rule.ties w s.was s.is s.at side pair.0 pair.1 pair.2 h.target
    (sym (ap (slice_get old.edges) same) ∙ held) may h.does h.askable)
    (stands_ask old.workers old.edges rule.stands w s.was s.is s.at laws (at_side side pair.0 pair.1) h.target
    (known_ask s.was s.is h.target (Some h.target) h.does h.askable old.case w side pair.0 pair.1 placed.case placed.node pair.2)
    h.aims (sym (ap (slice_get old.edges) same) ∙ held) (apart laws old.case w side pair.0 pair.1 pair.2) h.does)
    (λ i mine. ap (λ (x : WorkerNote). slice_index x.counts i) h.does.rest)

pub rule_takes : LawsBelow → (w : ℕ) (side : Side) (old new : NetNote) → Rule old → (h : Takes w side old new) → Rule new
rule_takes laws w side old new rule h =
    let s = h.step in
    let pair = kid_pair old.case w h.kid side h.is_kid in
    let same : h.kid ≡ at_side side pair.0 pair.1 = pair.3 in
    rule_same w old new laws rule s (set old.edges (at_side side pair.0 pair.1) Home) (h.edges ∙ ap (λ v. set old.edges v Home) same) h.outs
    (ties_take laws old.case old.seen old.workers old.edges rule.ties w s.was s.is s.at side pair.0 pair.1 pair.2 h.lot
    (sym (ap (slice_get old.edges) same) ∙ h.given) (take_may laws old rule w s.was s.at h.kid side h.is_kid h.lot h.given) h.does)
    (stands_take old.workers old.edges rule.stands w s.was s.is s.at laws side h.lot h.lot (at_side side pair.0 pair.1)
    (sym (ap (slice_get old.edges) same) ∙ h.given)
    (apart laws old.case w side pair.0 pair.1 pair.2) (take_may laws old rule w s.was s.at h.kid side h.is_kid h.lot h.given) h.does)
    (λ i mine. ap (λ c. slice_index c i) h.does.counts)
