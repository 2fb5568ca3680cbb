-- A worker with its ends and those of its children, as they are made, are ready.
use Rattle.std.proofs.Common.{◌≡◌, ℕ, true, Some, inl, refl, sym, ap, subst, ◌∙◌, arith}
use Rattle.std.proofs.lemmas.Option.{some_pair_parts}
use Rattle.flu_lemmas.proofs.Tests.{not_both}
use Rattle.atomic_table.specs.Seated.{TableId}
use Rattle.flu_deps.specs.Trees.{AreKids}
use Rattle.flu_fork.specs.declared.content.Content.{Content}
use Rattle.flu_fork.specs.Laws.{no_counts}
use Rattle.flu_fork.specs.Lots.{job, nodes, kids}
use Rattle.flu_fork.specs.Serving.{none_counted}
use Rattle.flu_worker.specs.declared.hand.Side.{Side}
use Rattle.flu_worker.specs.declared.hand.Side.TheVariants.{Left, Right}
use Rattle.flu_worker.specs.Hands.{at_side, is_out}
use Rattle.flu_worker.specs.Notes.{WorkerNote, lent_to, taken_from}
use Rattle.flu_worker.specs.Calls.{IsNew}
use Rattle.flu_worker.specs.Turning.{StartIsHere, StartIsShut}
use Rattle.flu_link.specs.Notes.{UpperNote, LowerNote, upper_start}
use Rattle.flu_run.specs.LawsBelow.{LawsBelow}
use Rattle.flu_run.specs.Ties.{Lets}
use Rattle.flu_run.specs.Starts.{StartsAt, EndStarts}
use Rattle.flu_run.specs.Rests.{MadeLink, IsReady}
use Rattle.flu_run.proofs.Tying.{hangs_new, tells_new}

lets_new : StartIsHere → (s : Side) (k : Content) (w l r : ℕ) (link : TableId) (n : WorkerNote) (u : UpperNote) → IsNew k w n → kids k w ≡ Some (l, r)
    → u ≡ upper_start link k (at_side s l r) → Lets s n u
lets_new home_first s k w l r link n u new e made = subst (λ (m : UpperNote). Lets s n m) (sym made) record {
  case = sym new.case;
  lower = λ l' r' f. (let same = some_pair_parts l l' r r' (sym e ∙ (λ i. kids (sym new.case i) (sym new.node i)) ∙ f) in λ i. at_side s (same.0 i) (same.1 i));
  loan = record { lent = sym (by_side_counts s); given = sym (by_side s) };
  home = λ _. (refl, refl);
  out = λ o. absurd (not_out o);
}
  where
    by_side_counts : (s : Side) → lent_to s n ≡ none_counted k
    by_side_counts Left = new.lent_left
    by_side_counts Right = new.lent_right

    by_side : (s : Side) → taken_from s n ≡ no_counts (job k)
    by_side Left = new.taken_left
    by_side Right = new.taken_right

    not_out : is_out s n.hand ≡ true → ⊥
    not_out o = not_both _ o (ap (is_out s) new.hand ∙ home_first k w s)

made_ends : (k : Content) (v : ℕ) (u : UpperNote) (l : LowerNote) → MadeLink k v u l → EndStarts u l
made_ends k v u l made = record {
  link = ap (λ m. m.link) made.lower ∙ sym (ap (λ m. m.link) made.upper);
  case = ap (λ m. m.case) made.lower ∙ sym (ap (λ m. m.case) made.upper);
  lower = ap (λ m. m.lower) made.lower ∙ sym (ap (λ m. m.lower) made.upper);
}

pub is_ready : (laws : LawsBelow) → StartIsHere → StartIsShut
    → (k : Content) (w l r : ℕ) (given left_given right_given : LowerNote) (n : WorkerNote) (low : LowerNote) (u v : UpperNote)
    (left_low right_low : LowerNote)
    → StartsAt k w low → kids k w ≡ Some (l, r) → given ≡ low → left_given ≡ left_low → right_given ≡ right_low → IsNew k w n → MadeLink k l u left_low
    → MadeLink k r v right_low
    → IsReady k (w, l, r) given left_given right_given n low u v left_low right_low
is_ready laws home_first shut_first k w l r given lg rg n low u v left_low right_low starts e eg el er new left right =
    let there : AreKids (nodes k) w l r = laws.children (nodes k) w l r (laws.settings k).one_tree e in record {
      there = starts.there;
      are_kids = e;
      case = new.case;
      node = new.node;
      seen = new.seen;
      given = eg;
      left_given = el;
      right_given = er;
      hangs = hangs_new shut_first k w n low new starts;
      tells = tells_new laws k w n new;
      left = lets_new home_first Left k w l r left.link n u new e left.upper;
      right = lets_new home_first Right k w l r right.link n v new e right.upper;
      left_end = made_ends k l u left_low left;
      right_end = made_ends k r v right_low right;
      left_starts = record { there = there.left_under.there; link = left.link; is = inl ((let h = there.left_under.earlier in omega arith), left.lower) };
      right_starts = record { there = there.right_under.there; link = right.link; is = inl ((let h = there.right_under.earlier in omega arith), right.lower) };
      left_later = there.left_under.earlier;
      right_later = there.right_under.earlier;
    }
