-- What a worker with children has at its end, for the end that it was given.
use Rattle.std.proofs.Common.{◌≡◌, ℕ, true, false, Option, Some, None, List, refl, sym, ap, subst, ◌∙◌}
use Rattle.std.specs.Prelude.{Result, Ok, Err, IfOk, IfErr, OnOk, IsOk, IfNone, is_none}
use Rattle.flu_lemmas.proofs.Tests.{not_both}
use Rattle.flu_model.specs.declared.events.Out.{Out}
use Rattle.flu_fork.specs.declared.content.Content.{Content}
use Rattle.flu_fork.specs.declared.lots.Ask.{Ask}
use Rattle.flu_worker.specs.declared.hand.Side.TheVariants.{Left, Right}
use Rattle.flu_worker.specs.Hands.{is_open}
use Rattle.flu_worker.specs.Notes.{WorkerNote}
use Rattle.flu_worker.specs.Calls.{IsFinished}
use Rattle.flu_link.specs.Notes.{UpperNote, LowerNote}
use Rattle.flu_run.specs.declared.handed.Why.{Why}
use Rattle.flu_run.specs.declared.handed.Ended.{Ended}
use Rattle.flu_run.specs.declared.handed.Ended.TheVariants.{Done, Cut}
use Rattle.flu_run.specs.EndNotes.{end_note, IsSameEnd}
use Rattle.flu_run.specs.Ended.{Keeps}
use Rattle.flu_run.specs.Ties.{Hangs, Lets, Tells}
use Rattle.flu_run.specs.Seeing.{SeesMore}
use Rattle.flu_run.specs.Stays.{IsSameUpper}
use Rattle.flu_run.specs.Starts.{EndStarts}
use Rattle.flu_run.specs.Rests.{Rests, Settles}
use Rattle.flu_run.proofs.Leaves.{final_as, finished_open}
use Rattle.flu_run.proofs.Tying.{tells_seen, lets_seen}

-- nothing is asked of a worker that is open: its lot is held
held_now : (found : Option Ask) (n : WorkerNote) (l : LowerNote) → is_none found ≡ true → IfNone found (is_open n.hand ≡ true → l.phase ≡ 1) → IsFinished n
    → l.phase ≡ 1
held_now None n l e none done = none (finished_open n done)
held_now (Some y) n l e none done = cc

end_trans : (a b c : LowerNote) → IsSameEnd a b → IsSameEnd b c → IsSameEnd a c
end_trans a b c p q = record { link = q.link ∙ p.link; case = q.case ∙ p.case; lower = q.lower ∙ p.lower }

upper_trans : (a b c : UpperNote) → IsSameUpper a b → IsSameUpper b c → IsSameUpper a c
upper_trans a b c p q = record { link = q.link ∙ p.link; lower = q.lower ∙ p.lower }

-- after a look around a worker that is finished
pub rests_now : (n0 n1 n : WorkerNote) (l0 l1 l2 l : LowerNote) (u0 u1 u v0 v1 v : UpperNote) (outs : List Out) (found : Option Ask)
    → n1.case ≡ n0.case → n1.node ≡ n0.node → IsSameEnd l0 l1 → IsSameEnd l1 l2 → IsSameEnd l2 l
    → IsSameUpper u0 u1 → IsSameUpper u1 u → IsSameUpper v0 v1 → IsSameUpper v1 v
    → SeesMore n1 n → Hangs n l → is_none found ≡ true → IfNone found (is_open n.hand ≡ true → l.phase ≡ 1)
    → Tells n1 outs → Lets Left n1 u → Lets Right n1 v → IsFinished n → Rests n0 l0 u0 v0 n l u v outs
rests_now n0 n1 n l0 l1 l2 l u0 u1 u v0 v1 v outs found case node a b c p q r s more hangs e none tells left right done = record {
  case = ap (λ m. m.case) more.rest ∙ case;
  node = ap (λ m. m.node) more.rest ∙ node;
  end = end_trans l0 l1 l a (end_trans l1 l2 l b c);
  left_end = upper_trans u0 u1 u p q;
  right_end = upper_trans v0 v1 v r s;
  hangs = hangs;
  phase = held_now found n l e none done;
  tells = tells_seen n1 n outs tells more;
  left = lets_seen Left n1 n u left more;
  right = lets_seen Right n1 n v right more;
  finished = done;
}

pub settled : (k : Content) (w : ℕ) (given a b : LowerNote) (n0 : WorkerNote) (l0 : LowerNote) (u0 v0 : UpperNote) (n : WorkerNote) (l : LowerNote)
    (u v : UpperNote) (outs : List Out)
    → n0.case ≡ k → n0.node ≡ w → given ≡ l0 → Lets Left n0 u0 → Lets Right n0 v0 → EndStarts u0 a → EndStarts v0 b
    → Rests n0 l0 u0 v0 n l u v outs → Settles k w given a b n l u v outs
settled k w given a b n0 l0 u0 v0 n l u v outs ek ew eg lu lv sa sb r = record {
  case = r.case ∙ ek;
  node = r.node ∙ ew;
  same = subst (λ (m : LowerNote). IsSameEnd m l) (sym eg) r.end;
  rests = record {
    case = refl;
    node = refl;
    end = record { link = refl; case = refl; lower = refl };
    left_end = record { link = refl; lower = refl };
    right_end = record { link = refl; lower = refl };
    hangs = r.hangs;
    phase = r.phase;
    tells = r.tells;
    left = r.left;
    right = r.right;
    finished = r.finished;
  };
  left = record { link = sa.link ∙ sym r.left_end.link; case = sa.case ∙ (lu.case ∙ sym r.case) ∙ sym r.left.case; lower = sa.lower ∙ sym r.left_end.lower };
  right = record {
    link = sb.link ∙ sym r.right_end.link;
    case = sb.case ∙ (lv.case ∙ sym r.case) ∙ sym r.right.case;
    lower = sb.lower ∙ sym r.right_end.lower;
  };
}

-- two results, each with what holds of its value
pub if_both : {T U E F : Type 0} (a : Result T E) (b : Result U F) (P Q : T → Type 0) (R : U → Type 0) (S : T → U → Type 0)
    → ((x : T) (y : U) → P x → Q x → R y → S x y) → IfOk a P → IfOk a Q → IfOk b R → IfOk a (λ x. IfOk b (S x))
if_both (Ok x) (Ok y) P Q R S f p q r = f x y p q r
if_both (Ok x) (Err e) P Q R S f p q r = tt
if_both (Err e) b P Q R S f p q r = tt

-- what is handed on only where the turns ended well
pub if_turned : {T U E F : Type 0} (turned : Result T E) (r : Result U F) (x : U) (P : U → Type 0) → OnOk turned (P x) → IfOk r (λ y. (y ≡ x) × IsOk turned)
    → IfOk r P
if_turned (Ok t) (Ok y) x P p q = subst P (sym q.0) p
if_turned (Err e) (Ok y) x P p q = absurd (not_both false q.1 refl)
if_turned turned (Err e) x P p q = tt

-- what keeps the promise for the end after the turns keeps it for the end before them
pub keeps_turned : {T : Type 0} (turned : Result T Why) (l m : LowerNote) (r : Ended) → OnOk turned (IsSameEnd l m) → IfErr turned (λ why. r ≡ Cut why)
    → Keeps m r → Keeps l r
keeps_turned (Err why) l m r same cut kept = subst (Keeps l) (sym cut) tt
keeps_turned (Ok t) l m (Cut why) same cut kept = tt
keeps_turned (Ok t) l m (Done d) same cut kept = record {
  same = end_trans l m (end_note d.end) same kept.same;
  phase = kept.phase;
  final = final_as m.case l.case m.lower l.lower (end_note d.end).held (end_note d.end).held d.lot d.outs (sym same.case) (sym same.lower) refl kept.final;
}
