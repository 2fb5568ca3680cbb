-- How the number of steps that are left changes with one worker and one edge.
use Rattle.std.proofs.Common.{◌≡◌, ◌≢◌, ◌<◌, ◌≤◌, ◌+◌, ◌*◌, ℕ, true, false, Option, Some, None, List, length, set, inl, inr, refl, sym, ap, ◌∙◌, arith}
use Rattle.std.specs.Prelude.{◌-◌, slice_get, slice_index, if◌then◌else◌}
use Rattle.std.proofs.lemmas.Bool.{cases_eq}
use Rattle.std.proofs.lemmas.Option.{slice_get_within}
use Rattle.flu_lemmas.proofs.Replaced.{slice_get-set_same, slice_get-set_other}
use Rattle.flu_model.specs.Itags.{count_of_itags}
use Rattle.flu_model.specs.Owners.{owner_of}
use Rattle.flu_deps.specs.Validated.{owner_in}
use Rattle.flu_fork.specs.declared.content.Content.{Content}
use Rattle.flu_fork.specs.Classes.{itag, own}
use Rattle.flu_fork.specs.Lots.{job, nodes, kids, setting_of}
use Rattle.flu_worker.specs.declared.hand.Hand.{Hand}
use Rattle.flu_worker.specs.declared.hand.Hand.TheVariants.{Empty, Whole, Lending, Down, Taking}
use Rattle.flu_worker.specs.declared.hand.Side.{Side}
use Rattle.flu_worker.specs.declared.hand.Side.TheVariants.{Left, Right}
use Rattle.flu_worker.specs.Hands.{is_open, may_lend, first_hand, after_lend, after_take}
use Rattle.flu_worker.specs.Notes.{WorkerNote}
use Rattle.flu_net.specs.declared.edges.Edge.{Edge}
use Rattle.flu_net.specs.LawsBelow.{LawsBelow}
use Rattle.flu_net.specs.Measure.{size, events_of, counted_in, uncounted, rounds_below, to_lend, to_be_lent, steps_on, on_edges, unseen}
use Rattle.flu_net.specs.Notes.{side_of}
use Rattle.flu_net.proofs.Sizes.{TreesBelow, size_most, size_some, size_kids}
use Rattle.flu_net.proofs.Sums.{total_change, total_same, total_set}

-- the number by the parts of a net
abbrev pub left_of : Content → List ℕ → List WorkerNote → List Edge → ℕ
left_of k seen ws es = unseen k seen + 5 * length (nodes k) * uncounted k ws + to_be_lent ws + on_edges k es

-- ---- what a hand has to lend, by the children of its node
abbrev lends_at : Content → Option (ℕ × ℕ) → Hand → Side → ℕ
lends_at k o h s = if may_lend s h then rounds_below k (side_of s o) else 0

abbrev pub lends_by : Content → Option (ℕ × ℕ) → Hand → ℕ
lends_by k o h = lends_at k o h Left + lends_at k o h Right

abbrev pub lends : WorkerNote → ℕ
lends v = to_lend Left v + to_lend Right v

pub lends_is : (k : Content) (w : ℕ) (v : WorkerNote) → v.case ≡ k → v.node ≡ w → lends v ≡ lends_by k (kids k w) v.hand
lends_is k w v case node = λ i. lends_by (case i) (kids (case i) (node i)) v.hand

pub shut_lends : (k : Content) (o : Option (ℕ × ℕ)) (h : Hand) → is_open h ≡ false → lends_by k o h ≡ 0
shut_lends k o Empty e = refl
shut_lends k o Whole e = cc
shut_lends k o (Lending l r) e = cc
shut_lends k o Down e = cc
shut_lends k o (Taking l r) e = cc

pub take_lends : (k : Content) (o : Option (ℕ × ℕ)) (s : Side) (h : Hand) → lends_by k o (after_take s h) ≡ lends_by k o h
take_lends k o s Empty = refl
take_lends k o s Whole = refl
take_lends k o s (Lending l r) = refl
take_lends k o Left Down = refl
take_lends k o Right Down = refl
take_lends k o Left (Taking l true) = refl
take_lends k o Left (Taking l false) = refl
take_lends k o Right (Taking true r) = refl
take_lends k o Right (Taking false r) = refl

-- a part less is to be lent
pub lend_lends : (k : Content) (l r kid : ℕ) (s : Side) (h : Hand) → may_lend s h ≡ true → side_of s (Some (l, r)) ≡ Some kid
    → lends_by k (Some (l, r)) (after_lend s h) + 5 * size (nodes k) kid ≡ lends_by k (Some (l, r)) h
lend_lends k l r kid s Empty may is = cc
lend_lends k l r kid s Whole may is = cc
lend_lends k l r kid Left (Lending true true) may is = let same : 5 * size (nodes k) l ≡ 5 * size (nodes k) kid = ap (rounds_below k) is in omega arith
lend_lends k l r kid Left (Lending true false) may is = let same : 5 * size (nodes k) l ≡ 5 * size (nodes k) kid = ap (rounds_below k) is in omega arith
lend_lends k l r kid Left (Lending false b) may is = cc
lend_lends k l r kid Right (Lending true true) may is = let same : 5 * size (nodes k) r ≡ 5 * size (nodes k) kid = ap (rounds_below k) is in omega arith
lend_lends k l r kid Right (Lending false true) may is = let same : 5 * size (nodes k) r ≡ 5 * size (nodes k) kid = ap (rounds_below k) is in omega arith
lend_lends k l r kid Right (Lending a false) may is = cc
lend_lends k l r kid s Down may is = cc
lend_lends k l r kid s (Taking a b) may is = cc

module _ (laws : LawsBelow) (trees : TreesBelow) (k : Content) where
  pub one_node : (w : ℕ) → w < length (nodes k) → 1 ≤ size (nodes k) w
  one_node w lt = size_some (nodes k) (trees.order (nodes k) (laws.settings k).one_tree) w lt

  pub most_nodes : (w : ℕ) → size (nodes k) w ≤ length (nodes k)
  most_nodes w = size_most (nodes k) (trees.order (nodes k) (laws.settings k).one_tree) w

  -- a whole lot that is there anew: the parts to lend make fewer rounds than the subtree has nodes
  pub first_lends : (w : ℕ) → w < length (nodes k) → lends_by k (kids k w) (first_hand (kids k w)) + 5 ≤ 5 * size (nodes k) w
  first_lends w lt = at (kids k w) refl
    where
      at : (o : Option (ℕ × ℕ)) → kids k w ≡ o → lends_by k o (first_hand o) + 5 ≤ 5 * size (nodes k) w
      at None e = let some = one_node w lt in omega arith
      at (Some both) e =
          let tree = (laws.settings k).one_tree in
          let more =
          size_kids (nodes k) (trees.order (nodes k) tree) (trees.subtrees (nodes k) tree) w both.0 both.1
          (laws.children (nodes k) w both.0 both.1 tree e) e lt in
          omega arith

  -- ---- one edge becomes another
  pub edge_changes : (es : List Edge) (v : ℕ) (old new : Edge) → length es ≡ length (nodes k) → slice_get es v ≡ Some old
      → on_edges k (set es v new) + steps_on k v (Some old) ≡ on_edges k es + steps_on k v (Some new)
  edge_changes es v old new long was =
      let lt = slice_get_within es v old was in
      let change =
      total_change (λ u. steps_on k u (slice_get (set es v new) u)) (λ u. steps_on k u (slice_get es u)) 0 (length (nodes k)) v (omega arith) (omega arith)
      (λ u high apart. ap (steps_on k u) (slice_get-set_other es v u new apart)) in
      let before : steps_on k v (slice_get es v) ≡ steps_on k v (Some old) = ap (steps_on k v) was in
      let after : steps_on k v (slice_get (set es v new) v) ≡ steps_on k v (Some new) = ap (steps_on k v) (slice_get-set_same es v new lt) in
      omega arith

  -- ---- one worker becomes another
  module _ (ws : List WorkerNote) (w : ℕ) (n m : WorkerNote) (at : slice_get ws w ≡ Some n) where
    within : w < length ws
    within = slice_get_within ws w n at

    pub worker_changes : to_be_lent (set ws w m) + lends n ≡ to_be_lent ws + lends m
    worker_changes = total_set lends ws w n m at

    -- what its owner counted of an itag
    abbrev now : ℕ → ℕ
    now i = counted_in (slice_get (set ws w m) (owner_in k.valid (itag i))) i

    abbrev before : ℕ → ℕ
    before i = counted_in (slice_get ws (owner_in k.valid (itag i))) i

    now_here : (i : ℕ) → owner_in k.valid (itag i) ≡ w → now i ≡ slice_index m.counts i
    now_here i is = ap (λ o. counted_in o i) (ap (slice_get (set ws w m)) is ∙ slice_get-set_same ws w m within)

    before_here : (i : ℕ) → owner_in k.valid (itag i) ≡ w → before i ≡ slice_index n.counts i
    before_here i is = ap (λ o. counted_in o i) (ap (slice_get ws) is ∙ at)

    elsewhere : (i : ℕ) → owner_in k.valid (itag i) ≢ w → now i ≡ before i
    elsewhere i apart = ap (λ o. counted_in o i) (slice_get-set_other ws w (owner_in k.valid (itag i)) m apart)

    owns_it : (i : ℕ) → i < count_of_itags (job k) → owner_in k.valid (itag i) ≡ w → own (job k) (nodes k) w i ≡ true
    owns_it i lt is = (laws.of_nodes (setting_of k) w i (laws.settings k) lt).owner.1 (k.of_job.owner (itag i) lt ∙ ap Some is)

    owned_by : (i : ℕ) → i < count_of_itags (job k) → own (job k) (nodes k) w i ≡ true → owner_in k.valid (itag i) ≡ w
    owned_by i lt mine =
        let a : owner_of (job k) (nodes k) (itag i) ≡ Some w = (laws.of_nodes (setting_of k) w i (laws.settings k) lt).owner.0 mine in
        let b = k.of_job.owner (itag i) lt in
        cc

    -- nothing of its own is counted
    pub counts_stay : ((i : ℕ) → own (job k) (nodes k) w i ≡ true → slice_index m.counts i ≡ slice_index n.counts i) → uncounted k (set ws w m) ≡ uncounted k ws
    counts_stay same = total_same (λ i. events_of k i - now i) (λ i. events_of k i - before i) 0 (count_of_itags (job k)) (λ i low high.
        ap (λ c. events_of k i - c) (elim (cases_eq (owner_in k.valid (itag i)) w) as (λ _. now i ≡ before i) [
          | inl is ↦ now_here i is ∙ same i (owns_it i (omega arith) is) ∙ sym (before_here i is)
          | inr apart ↦ elsewhere i apart
        ]))

    -- one event of its own is
    pub counts_rise : (x index : ℕ) → x < count_of_itags (job k) → own (job k) (nodes k) w x ≡ true → slice_index n.counts x ≡ index → index < events_of k x
        → ((j : ℕ) → (j ≡ x → slice_index m.counts j ≡ index + 1) × (j ≢ x → slice_index m.counts j ≡ slice_index n.counts j))
        → uncounted k (set ws w m) + 1 ≡ uncounted k ws
    counts_rise x index known mine was there counts =
        let change =
        total_change (λ i. events_of k i - now i) (λ i. events_of k i - before i) 0 (count_of_itags (job k)) x (omega arith) (omega arith) (λ i high apart.
        ap (λ c. events_of k i - c) (elim (cases_eq (owner_in k.valid (itag i)) w) as (λ _. now i ≡ before i) [
          | inl is ↦ now_here i is ∙ (counts i).1 apart ∙ sym (before_here i is)
          | inr other ↦ elsewhere i other
        ])) in
        let is = owned_by x known mine in
        let old : before x ≡ index = before_here x is ∙ was in
        let new : now x ≡ index + 1 = now_here x is ∙ (counts x).0 refl in
        omega arith
