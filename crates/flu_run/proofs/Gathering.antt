-- What a worker with children hands on, once it and both subtrees have no event left.
use Rattle.std.proofs.Common.{◌≡◌, ◌<◌, ◌≤◌, ℕ, Option, Some, None, List, ◌++◌, length, inl, inr, sym, ap, subst, ◌∙◌, arith}
use Rattle.std.specs.Prelude.{IsSome}
use Rattle.std.proofs.lemmas.Option.{none-some}
use Rattle.flu_lemmas.proofs.Options.{none_or_some, pair_there}
use Rattle.flu_model.specs.declared.events.Out.{Out}
use Rattle.flu_fork.specs.declared.content.Content.{Content}
use Rattle.flu_fork.specs.declared.lots.Lot.{Lot}
use Rattle.flu_fork.specs.Lots.{nodes, kids, LotFits, LotsPaired, HasJoinedCounts}
use Rattle.flu_worker.specs.declared.hand.Hand.TheVariants.{Down}
use Rattle.flu_worker.specs.declared.hand.Side.{Side}
use Rattle.flu_worker.specs.declared.hand.Side.TheVariants.{Left, Right}
use Rattle.flu_worker.specs.Hands.{at_side, is_out}
use Rattle.flu_worker.specs.Notes.{WorkerNote, lent_to}
use Rattle.flu_worker.specs.Calls.{IsFinished}
use Rattle.flu_link.specs.Notes.{UpperNote, LowerNote}
use Rattle.flu_run.specs.LawsBelow.{LawsBelow}
use Rattle.flu_run.specs.Ties.{Lets}
use Rattle.flu_run.specs.Final.{IsFinal, IsDone}
use Rattle.flu_run.specs.Starts.{EndStarts}
use Rattle.flu_run.specs.Rests.{Rests}
use Rattle.flu_run.proofs.Leaves.{final_as, done_at, finished_open}
use Rattle.flu_run.proofs.Joined.{joined_final, joined_paired}

pub down_of_inner : (n : WorkerNote) → IsFinished n → IsSome (kids n.case n.node) → n.hand ≡ Down
down_of_inner n done inner = elim done.hand [
  | inl whole ↦ absurd (none_or_some (kids n.case n.node) (done.leaf whole) inner)
  | inr down ↦ down
]

-- nothing is asked for: the part was lent, or is held
pub phase_low : (s : Side) (n : WorkerNote) (u : UpperNote) → Lets s n u → n.hand ≡ Down → n.kept ≡ None → u.phase ≤ 1
phase_low s n u lets down kept =
    elim (lets.out (ap (is_out s) down)) [
      | inl free ↦ free.1
      | inr busy ↦ absurd (none-some _ (sym kept ∙ busy.1.kept))
    ]

module _ (laws : LawsBelow) (k : Content) (w : ℕ) (n : WorkerNote) (low : LowerNote) (u v : UpperNote) (outs : List Out)
    (rests : Rests n low u v n low u v outs)
    (ek : n.case ≡ k) (ew : n.node ≡ w) (inner : IsSome (kids k w)) where
  inner_n : IsSome (kids n.case n.node)
  inner_n = subst (λ (o : Option (ℕ × ℕ)). IsSome o) (λ i. kids (sym ek i) (sym ew i)) inner

  down : n.hand ≡ Down
  down = down_of_inner n rests.finished inner_n

  pub left_low : u.phase ≤ 1
  left_low = phase_low Left n u rests.left down rests.finished.kept

  pub right_low : v.phase ≤ 1
  right_low = phase_low Right n v rests.right down rests.finished.kept

  kid_final : (s : Side) (up : UpperNote) (given back : LowerNote) (lot : Lot) (told : List Out) (l r : ℕ)
      → kids n.case n.node ≡ Some (l, r) → Lets s n up → EndStarts up given → IsDone given back lot told → back.held ≡ up.lent
      → IsFinal n.case (at_side s l r) (lent_to s n) lot told
  kid_final s up given back lot told l r e lets starts done agree =
      final_as given.case n.case given.lower (at_side s l r) back.held (lent_to s n) lot told
      (sym (starts.case ∙ lets.case)) (sym (starts.lower ∙ lets.lower l r e)) (sym (agree ∙ lets.loan.lent)) done.final

  -- a child's end is that of a link
  pub kid_linked : (s : Side) (up : UpperNote) (given back : LowerNote) (lot : Lot) (told : List Out) → w < length (nodes k) → Lets s n up
      → EndStarts up given → IsDone given back lot told
      → 0 < back.lower
  kid_linked s up given back lot told there lets starts done =
      let kd = pair_there (kids n.case n.node) inner_n in
      let at : back.lower ≡ at_side s kd.0 kd.1 = done.same.lower ∙ starts.lower ∙ lets.lower kd.0 kd.1 kd.2 in
      let later = kid_later s kd.0 kd.1 kd.2 in
      omega arith
    where
      kid_later : (s : Side) (l r : ℕ) → kids n.case n.node ≡ Some (l, r) → n.node < at_side s l r
      kid_later Left l r e = (laws.children (nodes n.case) n.node l r (laws.settings n.case).one_tree e).left_under.earlier
      kid_later Right l r e = (laws.children (nodes n.case) n.node l r (laws.settings n.case).one_tree e).right_under.earlier

  module _ (a a' b b' : LowerNote) (left right : Lot) (lefts rights : List Out) (sa : EndStarts u a) (da : IsDone a a' left lefts) (sb : EndStarts v b)
      (db : IsDone b b' right rights)
      (ca : a'.held ≡ u.lent) (cb : b'.held ≡ v.lent) where
    at_left : (l r : ℕ) → kids n.case n.node ≡ Some (l, r) → IsFinal n.case l n.lent_left left lefts
    at_left l r e = kid_final Left u a a' left lefts l r e rests.left sa da ca

    at_right : (l r : ℕ) → kids n.case n.node ≡ Some (l, r) → IsFinal n.case r n.lent_right right rights
    at_right l r e = kid_final Right v b b' right rights l r e rests.right sb db cb

    here : (l r : ℕ) → kids k w ≡ Some (l, r) → kids n.case n.node ≡ Some (l, r)
    here l r e = (λ i. kids (ek i) (ew i)) ∙ e

    pub gathered_paired : (l r : ℕ) → kids k w ≡ Some (l, r) → LotsPaired k l r left right
    gathered_paired l r e =
        subst (λ (j : Content). LotsPaired j l r left right) ek
        (joined_paired laws n l r (here l r e) rests.finished down left right outs lefts rights (at_left l r (here l r e)) (at_right l r (here l r e)))

    pub gathered_done : (lot : Lot) (all : List Out) → LotFits k w lot → HasJoinedCounts k w left right lot → all ≡ (outs ++ lefts) ++ rights
        → IsDone low low lot all
    gathered_done lot all fits counts e =
        let kd = pair_there (kids n.case n.node) inner_n in
        let fits_n : LotFits n.case n.node lot = subst (λ (j : Content). LotFits j n.node lot) (sym ek) (subst (λ (x : ℕ). LotFits k x lot) (sym ew) fits) in
        let counts_n : HasJoinedCounts n.case n.node left right lot =
        subst (λ (j : Content). HasJoinedCounts j n.node left right lot) (sym ek) (subst (λ (x : ℕ). HasJoinedCounts k x left right lot) (sym ew) counts) in
        subst (IsDone low low lot) (sym e)
        (done_at n low lot ((outs ++ lefts) ++ rights) rests.hangs (finished_open n rests.finished) rests.phase
        (joined_final laws n kd.0 kd.1 kd.2 rests.finished down left right outs lefts rights (at_left kd.0 kd.1 kd.2)
        (at_right kd.0 kd.1 kd.2) lot fits_n counts_n rests.tells))
