-- A net in which nothing is left to do: each worker is open, and has done all.
use Rattle.std.proofs.Common.{◌≡◌, ◌⊎◌, ◌<◌, ◌≤◌, ◌+◌, ℕ, zero, suc, Bool, true, false, Some, None, [], length, inl, inr, refl, sym, ap, subst, ◌∙◌, arith}
use Rattle.std.specs.Prelude.{◌&&◌, ◌||◌, not, slice_get, slice_index, slice_index_or}
use Rattle.std.specs.List.Sorted.{IsPermutation}
use Rattle.std.proofs.lemmas.Bool.{cases_Bool, cases_lt}
use Rattle.std.proofs.lemmas.List.{get_or_past}
use Rattle.std.proofs.lemmas.Option.{slice_get_within}
use Rattle.flu_lemmas.proofs.Places.{slice_get-there}
use Rattle.flu_lemmas.proofs.Tests.{not_both}
use Rattle.flu_lemmas.proofs.Options.{none_or_some}
use Rattle.flu_model.specs.Folding.{final_outputs}
use Rattle.flu_model.specs.Itags.{count_of_itags}
use Rattle.flu_model.specs.Listed.{listed}
use Rattle.flu_model.specs.Merging.{events_of}
use Rattle.flu_cells.specs.Holding.{held}
use Rattle.flu_fork.specs.declared.content.Content.{Content}
use Rattle.flu_fork.specs.Classes.{itag, own, below}
use Rattle.flu_fork.specs.Lots.{job, nodes, kids, setting_of}
use Rattle.flu_fork.specs.Settings.{events_at}
use Rattle.flu_fork.specs.Texts.{IsComplete}
use Rattle.flu_worker.specs.declared.hand.Hand.{Hand}
use Rattle.flu_worker.specs.declared.hand.Hand.TheVariants.{Empty, Whole, Lending, Down, Taking}
use Rattle.flu_worker.specs.declared.hand.Side.{Side}
use Rattle.flu_worker.specs.declared.hand.Side.TheVariants.{Left, Right}
use Rattle.flu_worker.specs.Calls.{HasDoneAll}
use Rattle.flu_worker.specs.Hands.{at_side, is_open, is_out}
use Rattle.flu_worker.specs.Keeping.{HasRule, KeepsIn}
use Rattle.flu_worker.specs.Notes.{WorkerNote, lent_to, own_of, above_of}
use Rattle.flu_net.specs.declared.edges.Edge.{Edge}
use Rattle.flu_net.specs.declared.edges.Edge.TheVariants.{Home, Lent, Held, Asked, Given}
use Rattle.flu_net.specs.Ending.{SeesAllItems, AreOver, OneIsLeft, AreAtEnd}
use Rattle.flu_net.specs.Final.{IsFinal}
use Rattle.flu_net.specs.LawsBelow.{LawsBelow}
use Rattle.flu_net.specs.Notes.{NetNote}
use Rattle.flu_net.specs.Rule.{Hangs, Lets, Rule}
use Rattle.flu_net.proofs.Framing.{under}
use Rattle.flu_net.proofs.Hands.{out_open}

-- ---- hands
neither : (l r : Bool) → not l ≡ true → not r ≡ true → (l || r) ≡ true → ⊥
neither true r a b c = cc
neither false true a b c = cc
neither false false a b c = cc

not_lost : (l r : Bool) → not l ≡ true → (l && r) ≡ false
not_lost true r a = cc
not_lost false r a = refl

-- a hand of which both parts are out is down
pub both_out : (n : WorkerNote) → HasRule n → is_out Left n.hand ≡ true → is_out Right n.hand ≡ true → n.hand ≡ Down
both_out n rule = by_hand n.hand rule.keeps
  where
    by_hand : (h : Hand) → KeepsIn h n → is_out Left h ≡ true → is_out Right h ≡ true → h ≡ Down
    by_hand Empty k a b = cc
    by_hand Whole k a b = cc
    by_hand (Lending l r) k a b = absurd (neither l r a b k.some)
    by_hand Down k a b = refl
    by_hand (Taking l r) k a b = absurd (neither l r a b (k (not_lost l r a)).some)

-- the child has the part that was lent to it last, or its part is out from there
pub record HasPart (s : Side) (v c : WorkerNote) : Type 0 where
  pub held : c.held ≡ lent_to s v
  pub out : is_out s v.hand ≡ true

module _ (laws : LawsBelow) (n : NetNote) (rule : Rule n) where
  worker_at : (w : ℕ) → w < length (nodes n.case) → (v : WorkerNote) × (slice_get n.workers w ≡ Some v)
  worker_at w lt = let each = rule.ties.workers_each in slice_get-there n.workers w (omega arith)

  pub kid_has : (s : Side) (w l r : ℕ) (v c : WorkerNote) → kids n.case w ≡ Some (l, r) → slice_get n.workers w ≡ Some v
      → slice_get n.workers (at_side s l r) ≡ Some c → is_open c.hand ≡ true → HasPart s v c
  kid_has s w l r v c are at_v at_c opened =
      let later = (under laws n.case s w l r are).earlier in
      let there = (under laws n.case s w l r are).there in
      let each = rule.ties.edges_each in
      let edge = slice_get-there n.edges (at_side s l r) (omega arith) in
      over edge.0 (rule.ties.hangs (at_side s l r) c edge.0 (omega arith) at_c edge.1) (rule.ties.lets s w l r v c edge.0 are at_v edge.1 at_c)
    where
      over : (e : Edge) → Hangs c e → Lets s v e c → HasPart s v c
      over Home h t = absurd (not_both _ opened h)
      over (Lent lot) h t = absurd (not_both _ opened h.shut)
      over Held h t = record { held = t.loan.lent; out = t.out }
      over (Asked y) h t = record { held = t.loan.lent; out = (laws.take_turns s v.hand t.recalled.take).out }
      over (Given lot) h t = absurd (not_both _ opened h.shut)

  pub is_over : SeesAllItems n.case n.seen → AreOver n.workers → IsFinal n
  is_over seen over = record {
    seen = seen;
    own = λ w v at. subst (λ (k : Content). IsComplete (setting_of k) (own_of v) v.counts) (rule.ties.placed w v at).case (over w v at).all.own;
    above = λ w v at. subst (λ (k : Content). IsComplete (setting_of k) (above_of v) v.counts) (rule.ties.placed w v at).case (over w v at).all.above;
    leaves = λ w v at leaf. elim (over w v at).all.hand [
      | inl whole ↦ whole
      | inr down ↦
          let placed = rule.ties.placed w v at in
          absurd (none_or_some (kids v.case v.node) ((λ i. kids (placed.case i) (placed.node i)) ∙ leaf) ((over w v at).finished.inner down))
    ];
  }

  module _ (final : IsFinal n) where
    -- from the leaves up
    opened : (fuel w : ℕ) (v : WorkerNote) → length (nodes n.case) ≤ w + fuel → slice_get n.workers w ≡ Some v → is_open v.hand ≡ true
    opened zero w v le at =
        let within = slice_get_within n.workers w v at in
        let each = rule.ties.workers_each in
        absurd (omega arith)
    opened (suc fuel) w v le at =
        elim (kids n.case w) as (λ o. kids n.case w ≡ o → is_open v.hand ≡ true) [
          | None ↦ λ leaf. ap is_open (final.leaves w v at leaf)
          | Some both ↦ λ are.
              let later = (under laws n.case Left w both.0 both.1 are).earlier in
              let c = worker_at both.0 (under laws n.case Left w both.0 both.1 are).there in
              out_open Left v.hand (kid_has Left w both.0 both.1 v c.0 are at c.1 (opened fuel both.0 c.0 (omega arith) c.1)).out
        ] refl

    pub all_open : (w : ℕ) (v : WorkerNote) → slice_get n.workers w ≡ Some v → is_open v.hand ≡ true
    all_open w v at = opened (length (nodes n.case)) w v (omega arith) at

    has_part : (s : Side) (w l r : ℕ) (v c : WorkerNote) → kids n.case w ≡ Some (l, r) → slice_get n.workers w ≡ Some v
        → slice_get n.workers (at_side s l r) ≡ Some c → HasPart s v c
    has_part s w l r v c are at_v at_c =
        kid_has s w l r v c are at_v at_c (all_open (at_side s l r) c at_c)

    pub part_out : (s : Side) (w l r : ℕ) (v : WorkerNote) → kids n.case w ≡ Some (l, r) → slice_get n.workers w ≡ Some v → is_out s v.hand ≡ true
    part_out s w l r v are at =
        let c = worker_at (at_side s l r) (under laws n.case s w l r are).there in
        (has_part s w l r v c.0 are at c.1).out

    -- each has done all
    pub done_all : (w : ℕ) (v : WorkerNote) → slice_get n.workers w ≡ Some v → HasRule v → HasDoneAll v
    done_all w v at keeps =
        let placed = rule.ties.placed w v at in record {
          hand = elim (kids n.case w) as (λ o. kids n.case w ≡ o → (v.hand ≡ Whole) ⊎ (v.hand ≡ Down)) [
            | None ↦ λ leaf. inl (final.leaves w v at leaf)
            | Some both ↦ λ are. inr (both_out v keeps (part_out Left w both.0 both.1 v are at) (part_out Right w both.0 both.1 v are at))
          ] refl;
          seen_own = λ i mine. sees i;
          seen_above = λ i over. sees i;
          own = subst (λ (k : Content). IsComplete (setting_of k) (own_of v) v.counts) (sym placed.case) (final.own w v at);
          above = subst (λ (k : Content). IsComplete (setting_of k) (above_of v) v.counts) (sym placed.case) (final.above w v at);
        }
      where
        sees : (i : ℕ) → slice_index v.seen i ≡ length (slice_index_or (listed v.case.streams) i [])
        sees i =
            let placed = rule.ties.placed w v at in
            ap (λ s. slice_index s i) placed.sees ∙ final.seen i ∙ ap (λ (k : Content). length (slice_index_or (listed k.streams) i [])) (sym placed.case)

    pub none_left : OneIsLeft n.workers → ⊥
    none_left one = one.left (done_all one.at one.worker one.is one.rule)

    pub at_end : AreAtEnd n.case n.workers
    at_end = record {
      each = rule.ties.workers_each;
      at = λ w v at. record {
        case = (rule.ties.placed w v at).case;
        node = (rule.ties.placed w v at).node;
        done = done_all w v at;
        leaf = final.leaves w v at;
      };
      lent = λ s w l r v c are at_v at_c. (has_part s w l r v c are at_v at_c).held;
      root = rule.ties.root;
    }

    -- what was put out is all
    all_done : (i : ℕ) → below (job n.case) (nodes n.case) 0 i ≡ true → slice_index rule.tells.done i ≡ length (events_at (setting_of n.case) i)
    all_done i inside =
        elim (cases_lt i (count_of_itags (job n.case))) [
          | inl lt ↦
              let o = laws.owned (job n.case) (nodes n.case) (itag i) (laws.settings n.case).valid lt in
              let mine : own (job n.case) (nodes n.case) o.owner i ≡ true = (o.alone o.owner).1 o.is in
              let v = worker_at o.owner o.there in
              let placed = rule.ties.placed o.owner v.0 v.1 in
              sym (rule.tells.counted o.owner v.0 i v.1 mine)
              ∙ final.own o.owner v.0 v.1 i ((λ j. own (job (placed.case j)) (nodes (placed.case j)) (placed.node j) i) ∙ mine)
          | inr ge ↦
              let long = rule.tells.long in
              let one = n.case.one_each in
              get_or_past rule.tells.done i 0 (omega arith)
              ∙ sym (ap (λ items. length (events_of items)) (get_or_past (listed n.case.streams) i [] (omega arith)))
        ]

    pub all_outputs : IsPermutation (final_outputs (job n.case) (held n.case.opening) (listed n.case.streams)) n.outs
    all_outputs = laws.texts_end (setting_of n.case) rule.tells.done n.outs (laws.settings n.case) all_done rule.tells.texts

-- ---- the test tells it
pub final_told : (laws : LawsBelow) (n : NetNote) → Rule n → (k : Content) → k ≡ n.case → SeesAllItems k n.seen → (b : Bool) → (b ≡ true → AreOver n.workers)
    → (b ≡ false → OneIsLeft n.workers) → (b ≡ true → IsFinal n) × (IsFinal n → b ≡ true)
final_told laws n rule k same seen b over left = (
  (λ e. is_over laws n rule (subst (λ (j : Content). SeesAllItems j n.seen) same seen) (over e)),
  (λ final. elim (cases_Bool b) [ inl is ↦ is | inr is_not ↦ absurd (none_left laws n rule final (left is_not)) ]),
)

pub unseen_told : (n : NetNote) (k : Content) → k ≡ n.case → (SeesAllItems k n.seen → ⊥) → (false ≡ true → IsFinal n) × (IsFinal n → false ≡ true)
unseen_told n k same not = ((λ e. cc), (λ final. absurd (not (subst (λ (j : Content). SeesAllItems j n.seen) (sym same) final.seen))))
