-- A list of partials has one first defect.
use Rattle.std.proofs.Common.{◌≡◌, ◌≢◌, ◌<◌, ◌≤◌, ℕ, zero, suc, Bool, true, false, Some, None, List, [], ◌∷◌, ◌++◌, length, map, refl, sym, ap}
use Rattle.std.proofs.Common.{subst, ◌∙◌, cond, inl, inr, arith, take, get_or}
use Rattle.std.specs.Prelude.{◌==◌, ◌&&◌, ◌||◌, nat_lt, not, position, unwrap_or}
use Rattle.std.specs.List.{list_all, list_any, AllByRecursion}
use Rattle.std.specs.Str.{bytes_eq}
use Rattle.std.proofs.lemmas.Bool.{false≢true}
use Rattle.std.proofs.lemmas.Bool.Decides.{nat_tests}
use Rattle.std.proofs.lemmas.List.{get_or-take, length-take-le}
use Rattle.std.proofs.lemmas.Slice.Eq.{bytes_eq-Decides}
use Rattle.std.proofs.Math.Seq.{take-length}
use Rattle.flu_lemmas.specs.Items.{Pairs}
use Rattle.flu_lemmas.proofs.Elements.{all_back}
use Rattle.flu_lemmas.proofs.Places.{position-map, position_below}
use Rattle.flu_lemmas.proofs.Tests.{true_lt}
use Rattle.flu_model.specs.declared.events.Event.{Event}
use Rattle.flu_model.specs.declared.jobs.Program.{Program}
use Rattle.flu_model.specs.declared.plans.Node.{Node}
use Rattle.flu_model.specs.Owners.{climb, parent_of, is_within, are_related}
use Rattle.flu_outside.specs.Outside.{Contents}
use Rattle.flu_outside.specs.Taking.{bytes_left}
use Rattle.flu_apart.specs.declared.reason.Reason.{Reason}
use Rattle.flu_apart.specs.Apart.{MayBeApart, IsFirstReason}
use Rattle.flu_apart.specs.Laws.{ReasonsAreOne}
use Rattle.flu_contribution.specs.Contributions.{Contribution}
use Rattle.flu_contribution.specs.Laws.{IsApart, NoneIsWithin}
use Rattle.flu_contribution.specs.Sending.{is_due, without_due}
use Rattle.flu_contribution.specs.Combining.{without_first}
use Rattle.flu_deps.specs.Trees.{AreApart}
use Rattle.flu_partial.specs.declared.values.Contribution as partial
use Rattle.flu_partial.specs.declared.values.PartialHead.{PartialHead}
use Rattle.flu_handover.specs.Handing.{IsLineOf}
use Rattle.flu_handover.specs.Laws.{LinesDetermine}
use Rattle.flu_selected.specs.Selecting.{is_among}
use Rattle.flu_plan.specs.Printing.{printed}
use Rattle.flu_receiving.specs.declared.fault.PartialFault.{PartialFault}
use Rattle.flu_receiving.specs.declared.receiving.Received.{Received}
use Rattle.flu_contribution.specs.declared.contributing.Handed.{Handed}
use Rattle.flu_receiving.specs.Faults.{IsFirstFault}
use Rattle.flu_receiving.specs.Laws.{BytesHaveOneFault, FaultyBytesAreNotWhole, PartialsHaveOneText}
use Rattle.flu_receiving.specs.Receiving.{last_of, IsRead, IsSendableLine, IsSentBy}
use Rattle.flu_joining.specs.Joining.{is_last_alone, are_used_up, nothing_joined, waiting_behind}
use Rattle.flu_joining.specs.Laws.{AlikeQueuesJoinAlike, AreQueuesAlike}
use Rattle.flu_combine.specs.declared.fault.PartialDefect.{PartialDefect}
use Rattle.flu_combine.specs.declared.fault.PartialDefect.TheVariants.{TooLong, Text, OtherJob, OtherPlan, UnknownNode, NotApart, Twice, Within, WrongTimes}
use Rattle.flu_combine.specs.declared.fault.PartialDefect.TheVariants.{LeftOver}
use Rattle.flu_combine.specs.Combined.{AreAccepted, events_of_rest}
use Rattle.flu_combine.specs.Faults.{IsFirstDefect, IsFirstLeftOver, IsFaultOfPartial}
use Rattle.flu_combine.specs.Laws.{FirstDefectIsOne}
use Rattle.flu_combine.specs.Names.{bytes_behind}
use Rattle.flu_combine.specs.Partials.{most_bytes, node_named, times_fit, AreNested, ArePartials, AreWrongTimes, IsOfJob, IsOfPlan, IsOfNode, IsPartialOf}
use Rattle.flu_combine.specs.Partials.{TellsRows, AllTellRows, IsFirstRelated, IsDefectOfNode, IsDefectOfHead, IsDefect}
use Rattle.flu_combine.proofs.Judging.{related_there, none_related}
use Rattle.flu_combine.proofs.Lawful.{one_alike, all_alike, all_tell_alike}

-- ---- defects, by what they are found by

-- the defect of a node beside another
abbrev beside : List Node → ℕ → ℕ → PartialDefect
beside nodes other w = cond (other == w) (Twice w) (cond (is_within nodes other w) (Within w other) (Within other w))

data NodeFound (p : Program) (nodes : List Node) (ws : List ℕ) (w : ℕ) (d : PartialDefect) : Type 0 where
  for_reason : (r : Reason) → IsFirstReason p nodes w r → d ≡ NotApart w r → NodeFound p nodes ws w d
  for_related : (place : ℕ) → IsFirstRelated p nodes ws w place → d ≡ beside nodes (get_or ws place 0) w → NodeFound p nodes ws w d

data HeadFound (p : Program) (nodes : List Node) (ws : List ℕ) (h : PartialHead) (d : PartialDefect) : Type 0 where
  for_job : (IsOfJob p h → ⊥) → d ≡ OtherJob → HeadFound p nodes ws h d
  for_plan : IsOfJob p h → h.plan ≢ printed p nodes → d ≡ OtherPlan → HeadFound p nodes ws h d
  for_unknown : IsOfPlan p nodes h → node_named nodes h.node ≡ None → d ≡ UnknownNode → HeadFound p nodes ws h d
  for_node : (w : ℕ) → IsOfNode p nodes h w → NodeFound p nodes ws w d → HeadFound p nodes ws h d

data Found (p : Program) (nodes : List Node) (ws bytes : List ℕ) (d : PartialDefect) : Type 0 where
  for_length : most_bytes < length bytes → d ≡ TooLong → Found p nodes ws bytes d
  for_text : length bytes ≤ most_bytes → (f : PartialFault) → IsFirstFault p bytes f → d ≡ Text f → Found p nodes ws bytes d
  for_head : length bytes ≤ most_bytes → (r : Received) → IsRead p bytes r → HeadFound p nodes ws r.head d → Found p nodes ws bytes d
  for_times : length bytes ≤ most_bytes → (r : Received) → IsRead p bytes r → AreWrongTimes p nodes ws r → d ≡ WrongTimes → Found p nodes ws bytes d

same_test : (m n : ℕ) → m ≡ n → (m == n) ≡ true
same_test m n e = grind arith

other_test : (m n : ℕ) → m ≢ n → (m == n) ≡ false
other_test m n e = grind arith

twice_beside : (nodes : List Node) (other u w : ℕ) → u ≡ w → other ≡ w → Twice u ≡ beside nodes other w
twice_beside nodes other u w same there =
    ap (λ (n : ℕ). let d : PartialDefect = Twice n in d) same
    ∙ sym (ap (λ (b : Bool). cond b (Twice w) (cond (is_within nodes other w) (Within w other) (Within other w))) (same_test other w there))

nested_beside : (nodes : List Node) (other w u v : ℕ) → other ≢ w → AreNested nodes other w u v → Within u v ≡ beside nodes other w
nested_beside nodes other w u v apart nested =
    by nested ∙ sym (ap (λ (b : Bool). cond b (Twice w) (cond (is_within nodes other w) (Within w other) (Within other w))) (other_test other w apart))
  where
    by : AreNested nodes other w u v → Within u v ≡ cond (is_within nodes other w) (Within w other) (Within other w)
    by (inl below) = let same : Within u v ≡ Within w other = cc in
        same ∙ sym (ap (λ (b : Bool). cond b (Within w other) (Within other w)) below.2)
    by (inr above) = let same : Within u v ≡ Within other w = cc in
        same ∙ sym (ap (λ (b : Bool). cond b (Within w other) (Within other w)) above.2)

module _ (p : Program) (nodes : List Node) (ws : List ℕ) where
  node_found : (w : ℕ) (d : PartialDefect) → IsDefectOfNode p nodes ws w d → NodeFound p nodes ws w d
  node_found w TooLong is = absurd is
  node_found w (Text f) is = absurd is
  node_found w OtherJob is = absurd is
  node_found w OtherPlan is = absurd is
  node_found w UnknownNode is = absurd is
  node_found w (NotApart u r) is = for_reason r is.1 (ap (λ (n : ℕ). let d : PartialDefect = NotApart n r in d) is.0)
  node_found w (Twice u) is = for_related is.1.0 is.1.1 (twice_beside nodes (get_or ws is.1.0 0) u w is.0 is.1.2)
  node_found w (Within u v) is = for_related is.0 is.1 (nested_beside nodes (get_or ws is.0 0) w u v is.2 is.3)
  node_found w WrongTimes is = absurd is
  node_found w LeftOver is = absurd is

  head_found : (h : PartialHead) (d : PartialDefect) → IsDefectOfHead p nodes ws h d → HeadFound p nodes ws h d
  head_found h TooLong is = absurd is.2
  head_found h (Text f) is = absurd is.2
  head_found h OtherJob is = for_job is refl
  head_found h OtherPlan is = for_plan is.0 is.1 refl
  head_found h UnknownNode is = for_unknown is.0 is.1 refl
  head_found h (NotApart u r) is = for_node is.0 is.1 (node_found is.0 (NotApart u r) is.2)
  head_found h (Twice u) is = for_node is.0 is.1 (node_found is.0 (Twice u) is.2)
  head_found h (Within u v) is = for_node is.0 is.1 (node_found is.0 (Within u v) is.2)
  head_found h WrongTimes is = absurd is.2
  head_found h LeftOver is = absurd is.2

  found : (bytes : List ℕ) (d : PartialDefect) → IsDefect p nodes ws bytes d → Found p nodes ws bytes d
  found bytes TooLong is = for_length is refl
  found bytes (Text f) is = for_text is.0 f is.1 refl
  found bytes OtherJob is = for_head is.0 is.1.0 is.1.1 (head_found is.1.0.head OtherJob is.1.2)
  found bytes OtherPlan is = for_head is.0 is.1.0 is.1.1 (head_found is.1.0.head OtherPlan is.1.2)
  found bytes UnknownNode is = for_head is.0 is.1.0 is.1.1 (head_found is.1.0.head UnknownNode is.1.2)
  found bytes (NotApart u r) is = for_head is.0 is.1.0 is.1.1 (head_found is.1.0.head (NotApart u r) is.1.2)
  found bytes (Twice u) is = for_head is.0 is.1.0 is.1.1 (head_found is.1.0.head (Twice u) is.1.2)
  found bytes (Within u v) is = for_head is.0 is.1.0 is.1.1 (head_found is.1.0.head (Within u v) is.1.2)
  found bytes WrongTimes is = for_times is.0 is.1.0 is.1.1 is.1.2 refl
  found bytes LeftOver is = for_head is.0 is.1.0 is.1.1 (head_found is.1.0.head LeftOver is.1.2)

module _ (reasons : ReasonsAreOne) (p : Program) (nodes : List Node) (ws : List ℕ) where
  -- ---- of the same bytes, beside the same nodes, there is one
  one_of_node : (w : ℕ) (d e : PartialDefect) → NodeFound p nodes ws w d → NodeFound p nodes ws w e → d ≡ e
  one_of_node w d e (for_reason r first is) (for_reason s other too) =
      is ∙ ap (λ (x : Reason). let c : PartialDefect = NotApart w x in c) ((reasons p nodes w).one r s first other) ∙ sym too
  one_of_node w d e (for_reason r first is) (for_related place related too) = absurd ((reasons p nodes w).none r related.may first)
  one_of_node w d e (for_related place related is) (for_reason s other too) = absurd ((reasons p nodes w).none s related.may other)
  one_of_node w d e (for_related place related is) (for_related there other too) =
      let somes : Some place ≡ Some there = sym related.first ∙ other.first in
      let same : place ≡ there = cc in
      is ∙ ap (λ (i : ℕ). beside nodes (get_or ws i 0) w) same ∙ sym too

  one_of_head : (h : PartialHead) (d e : PartialDefect) → HeadFound p nodes ws h d → HeadFound p nodes ws h e → d ≡ e
  one_of_head h d e (for_job wrong is) (for_job other too) = is ∙ sym too
  one_of_head h d e (for_job wrong is) (for_plan job other too) = absurd (wrong job)
  one_of_head h d e (for_job wrong is) (for_unknown plan other too) = absurd (wrong plan.job)
  one_of_head h d e (for_job wrong is) (for_node w of_node other) = absurd (wrong of_node.plan.job)
  one_of_head h d e (for_plan job wrong is) (for_job other too) = absurd (other job)
  one_of_head h d e (for_plan job wrong is) (for_plan again other too) = is ∙ sym too
  one_of_head h d e (for_plan job wrong is) (for_unknown plan other too) = absurd (wrong plan.plan)
  one_of_head h d e (for_plan job wrong is) (for_node w of_node other) = absurd (wrong of_node.plan.plan)
  one_of_head h d e (for_unknown plan none is) (for_job other too) = absurd (other plan.job)
  one_of_head h d e (for_unknown plan none is) (for_plan job other too) = absurd (other plan.plan)
  one_of_head h d e (for_unknown plan none is) (for_unknown again other too) = is ∙ sym too
  one_of_head h d e (for_unknown plan none is) (for_node w of_node other) =
      absurd (let bad : None ≡ Some w = sym none ∙ of_node.node in cc)
  one_of_head h d e (for_node v of_node is) (for_job other too) = absurd (other of_node.plan.job)
  one_of_head h d e (for_node v of_node is) (for_plan job other too) = absurd (other of_node.plan.plan)
  one_of_head h d e (for_node v of_node is) (for_unknown plan none too) =
      absurd (let bad : None ≡ Some v = sym none ∙ of_node.node in cc)
  one_of_head h d e (for_node v of_node is) (for_node w other_node too) =
      let somes : Some v ≡ Some w = sym of_node.node ∙ other_node.node in
      let same : v ≡ w = cc in
      one_of_node w d e (subst (λ (u : ℕ). NodeFound p nodes ws u d) same is) too

  -- ---- of a node that may be apart beside those there is none
  apart_at : (us : List ℕ) (w place d : ℕ) → AllByRecursion (λ u. AreApart nodes u w) us → place < length us → AreApart nodes (get_or us place d) w
  apart_at [] w place d all lt = absurd (omega arith)
  apart_at (u ∷ us) w zero d all lt = all.0
  apart_at (u ∷ us) w (suc place) d all lt = apart_at us w place d all.1 (omega arith)

  not_related : (u w : ℕ) → AreApart nodes u w → are_related nodes u w ≡ true → ⊥
  not_related u w apart related = false≢true (sym (ap (λ (b : Bool). b || is_within nodes w u) apart.0 ∙ apart.1) ∙ related)

  apart_node : (w : ℕ) (d : PartialDefect) → MayBeApart p nodes w → AllByRecursion (λ u. AreApart nodes u w) ws → NodeFound p nodes ws w d → ⊥
  apart_node w d may all (for_reason r first is) = (reasons p nodes w).none r may first
  apart_node w d may all (for_related place related is) =
      not_related (get_or ws place 0) w (apart_at ws w place 0 all (position_below (λ u. are_related nodes u w) ws place related.first))
      (related_there nodes w ws place 0 related.first)

  apart_head : (h : PartialHead) (w : ℕ) (d : PartialDefect) → IsOfNode p nodes h w → MayBeApart p nodes w → AllByRecursion (λ u. AreApart nodes u w) ws
      → HeadFound p nodes ws h d → ⊥
  apart_head h w d of_node may all (for_job wrong is) = wrong of_node.plan.job
  apart_head h w d of_node may all (for_plan job wrong is) = wrong of_node.plan.plan
  apart_head h w d of_node may all (for_unknown plan none is) = let bad : None ≡ Some w = sym none ∙ of_node.node in cc
  apart_head h w d of_node may all (for_node v other is) =
      let somes : Some v ≡ Some w = sym other.node ∙ of_node.node in
      let same : v ≡ w = cc in
      apart_node w d may all (subst (λ (u : ℕ). NodeFound p nodes ws u d) same is)

  -- so of one whose times alone are wrong
  not_both : (h : PartialHead) (r : Received) (d : PartialDefect) → h ≡ r.head → AreWrongTimes p nodes ws r → HeadFound p nodes ws h d → ⊥
  not_both h r d same times is =
      apart_head r.head times.node d times.of_node times.may (none_related nodes times.node ws times.unrelated)
      (subst (λ (g : PartialHead). HeadFound p nodes ws g d) same is)

-- lines by which something was sent
sendable : (p : Program) (cs : List partial.Contribution) (hs : List Handed) → Pairs (IsSentBy p) cs hs → AllByRecursion (IsSendableLine p) cs
sendable p [] hs pairs = tt
sendable p (c ∷ cs) [] pairs = absurd pairs
sendable p (c ∷ cs) (h ∷ hs) pairs = ((_, pairs.0), sendable p cs hs pairs.1)

said_sendable : (p : Program) (cs : List partial.Contribution) (ks : List Contribution) → Pairs (IsLineOf p) cs ks → AllByRecursion (IsSendableLine p) cs
said_sendable p [] ks pairs = tt
said_sendable p (c ∷ cs) [] pairs = absurd pairs
said_sendable p (c ∷ cs) (k ∷ ks) pairs = ((k, pairs.0), said_sendable p cs ks pairs.1)

module _ (reasons : ReasonsAreOne) (one_fault : BytesHaveOneFault) (not_whole : FaultyBytesAreNotWhole) (one_text : PartialsHaveOneText)
    (p : Program) (nodes : List Node) where
  not_read : (bytes : List ℕ) (f : PartialFault) (r : Received) → IsFirstFault p bytes f → IsRead p bytes r → ⊥
  not_read bytes f r fault read = not_whole p bytes f r.head read.0 fault read.1 (sendable p read.0 r.sent.items read.2.sent)

  one_defect : (ws bytes : List ℕ) (d e : PartialDefect) → Found p nodes ws bytes d → Found p nodes ws bytes e → d ≡ e
  one_defect ws bytes d e (for_length long is) (for_length other too) = is ∙ sym too
  one_defect ws bytes d e (for_length long is) (for_text few f fault too) = absurd (omega (arith, long, few))
  one_defect ws bytes d e (for_length long is) (for_head few r read too) = absurd (omega (arith, long, few))
  one_defect ws bytes d e (for_text few f fault is) (for_length long too) = absurd (omega (arith, long, few))
  one_defect ws bytes d e (for_text few f fault is) (for_text again g other too) =
      is ∙ ap (λ (x : PartialFault). let c : PartialDefect = Text x in c) (one_fault p bytes f g fault other) ∙ sym too
  one_defect ws bytes d e (for_text few f fault is) (for_head again r read too) = absurd (not_read bytes f r fault read)
  one_defect ws bytes d e (for_head few r read is) (for_length long too) = absurd (omega (arith, long, few))
  one_defect ws bytes d e (for_head few r read is) (for_text again f fault too) = absurd (not_read bytes f r fault read)
  one_defect ws bytes d e (for_head few r read is) (for_head again s other too) =
      let same = one_text bytes r.head s.head read.0 other.0 read.1 other.1 in
      one_of_head reasons p nodes ws s.head d e (subst (λ (h : PartialHead). HeadFound p nodes ws h d) same.0 is) too
  one_defect ws bytes d e (for_length long is) (for_times few r read times too) = absurd (omega (arith, long, few))
  one_defect ws bytes d e (for_text few f fault is) (for_times again r read times too) = absurd (not_read bytes f r fault read)
  one_defect ws bytes d e (for_head few r read is) (for_times again s other times too) =
      absurd (not_both reasons p nodes ws r.head s d (one_text bytes r.head s.head read.0 other.0 read.1 other.1).0 times is)
  one_defect ws bytes d e (for_times few r read times is) (for_length long too) = absurd (omega (arith, long, few))
  one_defect ws bytes d e (for_times few r read times is) (for_text again f fault too) = absurd (not_read bytes f r fault read)
  one_defect ws bytes d e (for_times few r read times is) (for_head again s other too) =
      absurd (not_both reasons p nodes ws s.head r e (one_text bytes s.head r.head other.0 read.0 other.1 read.1).0 times too)
  one_defect ws bytes d e (for_times few r read times is) (for_times again s other wrong too) = is ∙ sym too

  -- ---- what is accepted has none
  accepted_bytes : (ws bytes : List ℕ) (w : ℕ) (sent : List Contribution) (rows : List ℕ) (d : PartialDefect) → IsPartialOf p nodes bytes w sent
      → TellsRows p bytes rows → MayBeApart p nodes w → AllByRecursion (λ u. AreApart nodes u w) ws → Found p nodes ws bytes d → ⊥
  accepted_bytes ws bytes w sent rows d one tells may all (for_length long is) = omega (arith, long, one.few)
  accepted_bytes ws bytes w sent rows d one tells may all (for_text few f fault is) =
      not_whole p bytes f one.head one.lines fault one.whole (said_sendable p one.lines sent one.said)
  accepted_bytes ws bytes w sent rows d one tells may all (for_head few r read is) =
      let same = one_text bytes r.head one.head read.0 one.lines read.1 one.whole in
      apart_head reasons p nodes ws one.head w d one.of_node may all (subst (λ (h : PartialHead). HeadFound p nodes ws h d) same.0 is)
  accepted_bytes ws bytes w sent rows d one tells may all (for_times few r read times is) =
      let same = one_text bytes r.head tells.head read.0 tells.lines read.1 tells.whole in
      false≢true (sym times.wrong
      ∙ ap (times_fit p r.head.first) read.2.last
      ∙ ap (λ (h : PartialHead). times_fit p h.first (last_of read.0)) same.0
      ∙ ap (λ (cs : List partial.Contribution). times_fit p tells.head.first (last_of cs)) same.1
      ∙ tells.fit)

-- ---- lists that are accepted
within_itself : (nodes : List Node) (v : ℕ) → v < length nodes → is_within nodes v v ≡ true
within_itself [] v lt = absurd (omega arith)
within_itself (n ∷ nodes) v lt =
    ap (λ (b : Bool). b || list_any (λ u. u == v) (climb (length nodes) (n ∷ nodes) (parent_of (n ∷ nodes) v))) (same_test v v refl)

-- one place of accepted partials
record IsPlaced (p : Program) (nodes : List Node) (left : Contents) (names : List (List ℕ)) (ws : List ℕ) (k : ℕ) : Type 0 where
  front : List ℕ
  node : ℕ
  behind : List ℕ
  queues : List (List Contribution)
  sent : List Contribution
  split : ws ≡ front ++ node ∷ behind
  earlier : ArePartials p nodes left (take k names) front queues
  here : IsPartialOf p nodes (bytes_left left (get_or names k [])) node sent

-- what the partial at one place tells of its rows
tells_at : (p : Program) (left : Contents) (names : List (List ℕ)) (told : List ℕ) (k : ℕ) → k < length names → AllTellRows p left names told
    → (rows : List ℕ) × TellsRows p (bytes_left left (get_or names k [])) rows
tells_at p left [] told k lt these = absurd (omega arith)
tells_at p left (name ∷ names) told zero lt these = (these.0, these.2)
tells_at p left (name ∷ names) told (suc k) lt these = tells_at p left names these.1 k (omega arith) these.3

push_front : (w : ℕ) (ws front behind : List ℕ) (v : ℕ) → ws ≡ front ++ v ∷ behind → w ∷ ws ≡ (w ∷ front) ++ v ∷ behind
push_front w ws front behind v same = ap (λ (us : List ℕ). w ∷ us) same

placed : (p : Program) (nodes : List Node) (left : Contents) (names : List (List ℕ)) (ws : List ℕ) (queues : List (List Contribution)) (k : ℕ)
    → k < length names → ArePartials p nodes left names ws queues → IsPlaced p nodes left names ws k
placed p nodes left [] ws queues k lt these = absurd (omega arith)
placed p nodes left (name ∷ names) [] queues k lt these = absurd these
placed p nodes left (name ∷ names) (w ∷ ws) [] k lt these = absurd these
placed p nodes left (name ∷ names) (w ∷ ws) (sent ∷ queues) zero lt these = record {
  front = [];
  node = w;
  behind = ws;
  queues = [];
  sent = sent;
  split = refl;
  earlier = tt;
  here = these.0;
}
placed p nodes left (name ∷ names) (w ∷ ws) (sent ∷ queues) (suc k) lt these =
    let more = placed p nodes left names ws queues k (omega arith) these.1 in
    record {
      front = w ∷ more.front;
      node = more.node;
      behind = more.behind;
      queues = sent ∷ more.queues;
      sent = more.sent;
      split = push_front w ws more.front more.behind more.node more.split;
      earlier = (these.0, more.earlier);
      here = more.here;
    }

apart_front : (nodes : List Node) (front : List ℕ) (w : ℕ) (behind : List ℕ) → NoneIsWithin nodes (front ++ w ∷ behind)
    → AllByRecursion (λ u. AreApart nodes u w) front
apart_front nodes [] w behind none = tt
apart_front nodes (u ∷ us) w behind none = ((all_back (AreApart nodes u) us (w ∷ behind) none.0).0, apart_front nodes us w behind none.1)

module _ (one_text : PartialsHaveOneText) (determine : LinesDetermine) (p : Program) (nodes : List Node) (left : Contents) where
  -- a name of a node that is apart from those of others is none of theirs
  not_among : (names : List (List ℕ)) (ws : List ℕ) (queues : List (List Contribution)) (name : List ℕ) (w : ℕ) (sent : List Contribution)
      → ArePartials p nodes left names ws queues → w < length nodes → AllByRecursion (λ u. AreApart nodes u w) ws
      → IsPartialOf p nodes (bytes_left left name) w sent → is_among names name ≡ false
  not_among [] ws queues name w sent these there all one = refl
  not_among (n ∷ names) [] queues name w sent these there all one = absurd these
  not_among (n ∷ names) (u ∷ us) [] name w sent these there all one = absurd these
  not_among (n ∷ names) (u ∷ us) (js ∷ queues) name w sent these there all one =
      by (bytes_eq name n) refl (not_among names us queues name w sent these.1 there all.1 one)
    where
      by : (b : Bool) → bytes_eq name n ≡ b → is_among names name ≡ false → (bytes_eq name n || is_among names name) ≡ false
      by false e more = ap (λ (b : Bool). b || is_among names name) e ∙ more
      by true e more =
          let same : n ≡ name = sym ((bytes_eq-Decides name n).0 e) in
          let theirs = subst (λ (x : List ℕ). IsPartialOf p nodes (bytes_left left x) u js) same these.0 in
          let nodes_same : u ≡ w = (one_alike one_text determine p nodes (bytes_left left name) u w js sent theirs one).0 in
          let apart = subst (λ (x : ℕ). is_within nodes x w ≡ false) nodes_same all.0.0 in
          absurd (false≢true (sym apart ∙ within_itself nodes w there))

  all_at_front : (P : ℕ → Type 0) (front : List ℕ) (w : ℕ) (behind ws : List ℕ) → ws ≡ front ++ w ∷ behind → AllByRecursion P ws → P w
  all_at_front P front w behind ws split all = (all_back P front (w ∷ behind) (subst (AllByRecursion P) split all)).0

module _ (reasons : ReasonsAreOne) (one_fault : BytesHaveOneFault) (not_whole : FaultyBytesAreNotWhole) (one_text : PartialsHaveOneText)
    (determine : LinesDetermine) (p : Program) (nodes : List Node) (names : List (List ℕ)) (left : Contents) where
  -- the first defect of a list is none of an accepted one that has its place
  pub not_accepted : (a b : ℕ) (d : PartialDefect) (ws : List ℕ) (queues : List (List Contribution)) (told : List ℕ) → a < b → b ≤ length names
      → IsFirstDefect p nodes names left a d → AreAccepted p nodes left (take b names) ws queues told → ⊥
  not_accepted a b d ws queues told lt le first accepted =
      let size : length (take b names) ≡ b = length-take-le b names le in
      let at = placed p nodes left (take b names) ws queues a (omega (arith, lt, size)) accepted.partials in
      let earlier : ArePartials p nodes left (take a names) at.front at.queues =
      subst (λ (ns : List (List ℕ)). ArePartials p nodes left ns at.front at.queues) (take_less a b names lt) at.earlier in
      let name = get_or names a [] in
      let here : IsPartialOf p nodes (bytes_left left name) at.node at.sent =
      subst (λ (n : List ℕ). IsPartialOf p nodes (bytes_left left n) at.node at.sent) (get_or-take b names a [] lt) at.here in
      let rows = tells_at p left (take b names) told a (omega (arith, lt, size)) accepted.tell in
      let tells : TellsRows p (bytes_left left name) rows.0 =
      subst (λ (n : List ℕ). TellsRows p (bytes_left left n) rows.0) (get_or-take b names a [] lt) rows.1 in
      let apart = all_at_front one_text determine p nodes left (IsApart p nodes) at.front at.node at.behind ws at.split accepted.apart.each in
      let beside_all = apart_front nodes at.front at.node at.behind (subst (NoneIsWithin nodes) at.split accepted.apart.none_within) in
      let new = not_among one_text determine p nodes left (take a names) at.front at.queues name at.node at.sent earlier apart.there beside_all here in
      let same_nodes = (all_alike one_text determine p nodes left (take a names) first.ws at.front first.queues at.queues first.earlier.partials earlier).0 in
      let bytes : bytes_behind (take a names) left name ≡ bytes_left left name = ap (λ (b : Bool). unwrap_or (cond b (Some []) (left name)) []) new in
      let has = subst (λ (bs : List ℕ). IsDefect p nodes at.front bs d) bytes
      (subst (λ (vs : List ℕ). IsDefect p nodes vs (bytes_behind (take a names) left name) d) same_nodes first.has) in
      accepted_bytes reasons one_fault not_whole one_text p nodes at.front (bytes_left left name) at.node at.sent rows.0 d here tells apart.may beside_all
      (found p nodes at.front (bytes_left left name) d has)
    where
      take_less : (a b : ℕ) (xs : List (List ℕ)) → a < b → take a (take b xs) ≡ take a xs
      take_less zero b xs lt = refl
      take_less (suc a) zero xs lt = absurd (omega arith)
      take_less (suc a) (suc b) [] lt = refl
      take_less (suc a) (suc b) (x ∷ xs) lt = ap (λ (ys : List (List ℕ)). x ∷ ys) (take_less a b xs (omega arith))

  same_place : (a : ℕ) (d e : PartialDefect) → IsFirstDefect p nodes names left a d → IsFirstDefect p nodes names left a e → d ≡ e
  same_place a d e one other =
      let bytes = bytes_behind (take a names) left (get_or names a []) in
      let same = (all_alike one_text determine p nodes left (take a names) one.ws other.ws one.queues other.queues one.earlier.partials
      other.earlier.partials).0 in
      let has = subst (λ (ws : List ℕ). IsDefect p nodes ws bytes d) same one.has in
      one_defect reasons one_fault not_whole one_text p nodes other.ws bytes d e (found p nodes other.ws bytes d has) (found p nodes other.ws bytes e other.has)

-- ---- what is left over

-- what waits in one queue behind some events
abbrev rest_of : List Contribution → List Event → List Contribution
rest_of ks [] = ks
rest_of ks (y ∷ ys) = rest_of (cond (is_due ks y) (without_first ks) ks) ys

behind_one : (ks : List Contribution) (queues : List (List Contribution)) (ys : List Event)
    → waiting_behind (ks ∷ queues) ys ≡ rest_of ks ys ∷ waiting_behind queues ys
behind_one ks queues [] = refl
behind_one ks queues (y ∷ ys) = behind_one (cond (is_due ks y) (without_first ks) ks) (without_due y queues) ys

behind_none : (ys : List Event) → waiting_behind [] ys ≡ []
behind_none [] = refl
behind_none (y ∷ ys) = behind_none ys

true_last : (b : Bool) → b ≡ (b && true)
true_last true = refl
true_last false = refl

alone_one : (ks : List Contribution) (ys : List Event) → are_used_up (ks ∷ []) ys ≡ is_last_alone (rest_of ks ys)
alone_one ks ys =
    ap (list_all is_last_alone) (behind_one ks [] ys ∙ ap (λ (queues : List (List Contribution)). rest_of ks ys ∷ queues) (behind_none ys))
    ∙ sym (true_last (is_last_alone (rest_of ks ys)))

alone_alike : AlikeQueuesJoinAlike → (p : Program) (queues others : List (List Contribution)) (ys : List Event) → AreQueuesAlike p queues others
    → map is_last_alone (waiting_behind queues ys) ≡ map is_last_alone (waiting_behind others ys)
alone_alike join p [] [] ys alike = refl
alone_alike join p [] (ks ∷ others) ys alike = absurd alike
alone_alike join p (js ∷ queues) [] ys alike = absurd alike
alone_alike join p (js ∷ queues) (ks ∷ others) ys alike =
    let same = (join p nothing_joined nothing_joined (js ∷ []) (ks ∷ []) ys (record { cells = refl; outputs = refl }) (alike.0, tt)).used_up in
    let here : is_last_alone (rest_of js ys) ≡ is_last_alone (rest_of ks ys) = sym (alone_one js ys) ∙ same ∙ alone_one ks ys in
    let more = alone_alike join p queues others ys alike.1 in
    ap (map is_last_alone) (behind_one js queues ys)
    ∙ ap (λ (b : Bool). b ∷ map is_last_alone (waiting_behind queues ys)) here
    ∙ ap (λ (bs : List Bool). is_last_alone (rest_of ks ys) ∷ bs) more
    ∙ sym (ap (map is_last_alone) (behind_one ks others ys))

first_alike : AlikeQueuesJoinAlike → (p : Program) (queues others : List (List Contribution)) (ys : List Event) → AreQueuesAlike p queues others
    → position (λ ks. not (is_last_alone ks)) (waiting_behind queues ys) ≡ position (λ ks. not (is_last_alone ks)) (waiting_behind others ys)
first_alike join p queues others ys alike =
    sym (position-map not is_last_alone (waiting_behind queues ys)) ∙ ap (position not) (alone_alike join p queues others ys alike)
    ∙ position-map not is_last_alone (waiting_behind others ys)

-- ---- the whole
pub first_is_one : ReasonsAreOne → BytesHaveOneFault → FaultyBytesAreNotWhole → PartialsHaveOneText → LinesDetermine → AlikeQueuesJoinAlike → FirstDefectIsOne
first_is_one reasons one_fault not_whole one_text determine join p nodes names left a b d e first second = by first second
  where
    apart_left : (a : ℕ) (c : PartialDefect) (place : ℕ) → IsFirstDefect p nodes names left a c → IsFirstLeftOver p nodes names left place → ⊥
    apart_left a c place one left_over =
        not_accepted reasons one_fault not_whole one_text determine p nodes names left a (length names) c left_over.ws left_over.queues left_over.told one.there
        (omega arith) one
        (subst (λ (ns : List (List ℕ)). AreAccepted p nodes left ns left_over.ws left_over.queues left_over.told) (sym (take-length names)) left_over.accepted)

    defects : IsFirstDefect p nodes names left a d → IsFirstDefect p nodes names left b e → (a ≡ b) × (d ≡ e)
    defects one other = order (nat_lt a b) refl (nat_lt b a) refl
      where
        order : (x : Bool) → nat_lt a b ≡ x → (y : Bool) → nat_lt b a ≡ y → (a ≡ b) × (d ≡ e)
        order true lt y gt =
            absurd (not_accepted reasons one_fault not_whole one_text determine p nodes names left a b d other.ws other.queues other.told
            (true_lt a b lt) (omega (arith, other.there)) one other.earlier)
        order false lt true gt =
            absurd (not_accepted reasons one_fault not_whole one_text determine p nodes names left b a e one.ws one.queues one.told
            (true_lt b a gt) (omega (arith, one.there)) other one.earlier)
        order false lt false gt =
            let same : a ≡ b = grind (arith, nat_tests) in (
              same,
              same_place reasons one_fault not_whole one_text determine p nodes names left b d e
                  (subst (λ (i : ℕ). IsFirstDefect p nodes names left i d) same one) other,
            )

    lefts : IsFirstLeftOver p nodes names left a → IsFirstLeftOver p nodes names left b → a ≡ b
    lefts one other =
        let alike = all_alike one_text determine p nodes left names one.ws other.ws one.queues other.queues one.accepted.partials other.accepted.partials in
        let same_told = all_tell_alike one_text p left names one.told other.told one.accepted.tell other.accepted.tell in
        let events = ap (λ (ws : List ℕ). events_of_rest p nodes names ws one.told left) alike.0
        ∙ ap (λ (ts : List ℕ). events_of_rest p nodes names other.ws ts left) same_told in
        let somes : Some a ≡ Some b =
        sym one.first ∙ ap (λ (ys : List Event). position (λ ks. not (is_last_alone ks)) (waiting_behind one.queues ys)) events
        ∙ first_alike join p one.queues other.queues (events_of_rest p nodes names other.ws other.told left) alike.1 ∙ other.first in
        cc

    by : IsFaultOfPartial p nodes names left a d → IsFaultOfPartial p nodes names left b e → (a ≡ b) × (d ≡ e)
    by (inl one) (inl other) = defects one other
    by (inl one) (inr other) = absurd (apart_left a d b one other.1)
    by (inr one) (inl other) = absurd (apart_left b e a other one.1)
    by (inr one) (inr other) = (lefts one.1 other.1, one.0 ∙ sym other.0)
