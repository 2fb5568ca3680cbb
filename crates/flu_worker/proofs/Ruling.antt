-- The rule of a new worker, and after a lot came down.
use Rattle.std.proofs.Common.{◌≡◌, ◌<◌, ◌≤◌, ◌+◌, ℕ, zero, suc, false, cond, None}
use Rattle.std.proofs.Common.{List, ◌∷◌, length, map, replicate, refl, sym, ap, subst, ◌∙◌, arith}
use Rattle.std.specs.Prelude.{slice_index}
use Rattle.std.specs.List.{range_with_len}
use Rattle.flu_model.specs.declared.streams.Streams.{Streams}
use Rattle.flu_model.specs.declared.jobs.Program.{Program}
use Rattle.flu_model.specs.declared.plans.Node.{Node}
use Rattle.flu_model.specs.Itags.{count_of_itags}
use Rattle.flu_model.specs.Owners.{ancestors_own}
use Rattle.flu_tables.specs.declared.tables.Tables.{Tables}
use Rattle.flu_tables.specs.Tables.{AreTablesOf}
use Rattle.flu_model.specs.Listed.{listed}
use Rattle.flu_deps.specs.declared.checked.Checked.{Checked}
use Rattle.flu_deps.specs.declared.valid.Valid.{Valid}
use Rattle.flu_deps.specs.Checking.{program_of}
use Rattle.flu_deps.specs.Validated.{plan_of}
use Rattle.flu_fork.specs.declared.content.Content.{Content}
use Rattle.flu_fork.specs.declared.lots.Lot.{Lot}
use Rattle.flu_fork.specs.Classes.{itag, above}
use Rattle.flu_fork.specs.Laws.{no_counts}
use Rattle.flu_fork.specs.Lots.{job, nodes, LotFits, CountsNothing}
use Rattle.flu_fork.specs.Serving.{GrownFrom, none_counted}
use Rattle.flu_fork.specs.Serving as lots
use Rattle.flu_mail.specs.declared.mailbox.Mailbox.{Mailbox}
use Rattle.flu_mail.specs.Mailboxes.{node_of, seen_of, counts_of, is_above, IsAt, IsOver}
use Rattle.flu_worker.specs.declared.holding.Holding.{Holding}
use Rattle.flu_worker.specs.declared.holding.Holding.TheVariants.{Gone}
use Rattle.flu_worker.specs.Agreeing.{Agrees, Grows}
use Rattle.flu_worker.specs.Calls.{IsNew, HoldsLot, start_hand}
use Rattle.flu_worker.proofs.Mails.{IsSameMail, CountsLike}
use Rattle.flu_worker.specs.Hands.{is_open}
use Rattle.flu_worker.specs.Holding.{hand_of, IsHeldAs}
use Rattle.flu_worker.specs.LawsBelow.{LawsBelow}
use Rattle.flu_worker.specs.Notes.{WorkerNote}
use Rattle.flu_worker.specs.Rule.{Rule, IsMailed, Holds, HoldsNone}
use Rattle.flu_worker.specs.Starting.{IsFirst}
use Rattle.flu_worker.proofs.Changing.{agrees_held, grows_held, like_above, like_rest, like_own, agrees_itself, grown_itself}
use Rattle.flu_worker.proofs.Steps.{has_none, hand_anew, holds_anew, mailed_after, counts_long, mail_long}

-- ---- new
replicate_is : (m n : ℕ) → replicate {A = ℕ} n 0 ≡ map (λ (i : ℕ). 0) (range_with_len m n)
replicate_is m zero = refl
replicate_is m (suc n) = ap (λ l. 0 ∷ l) (replicate_is (m + 1) n)

pub nothing_counted : (k : Content) → replicate {A = ℕ} (count_of_itags (job k)) 0 ≡ no_counts (job k)
nothing_counted k = replicate_is 0 (count_of_itags (job k))

abbrev pub new_note : Content → ℕ → Holding → WorkerNote
new_note k w h = record {
  case = k;
  node = w;
  hand = hand_of h;
  holding = h;
  kept = None;
  seen = no_counts (job k);
  counts = no_counts (job k);
  held = none_counted k;
  given = no_counts (job k);
  lent_left = none_counted k;
  lent_right = none_counted k;
  taken_left = no_counts (job k);
  taken_right = no_counts (job k);
}

-- what a new worker is made of, where each list of counts is that of nothing
pub note_is : (k j : Content) (w : ℕ) (h : Holding) (seen counts none a b c d e f g x y : List ℕ) → j ≡ k → seen ≡ no_counts (job k)
    → counts ≡ no_counts (job k) → none ≡ no_counts (job k)
    → a ≡ none → b ≡ none → c ≡ none → d ≡ none → e ≡ none → f ≡ none → g ≡ none → x ≡ none → y ≡ none
    → record {
      case = j;
      node = w;
      hand = hand_of h;
      holding = h;
      kept = None;
      seen = seen;
      counts = counts;
      held = record { since = a; upto = b };
      given = c;
      lent_left = record { since = d; upto = e };
      lent_right = record { since = f; upto = g };
      taken_left = x;
      taken_right = y;
    } ≡ new_note k w h
note_is k j w h seen counts none a b c d e f g x y ej es ec en ea eb e3 ed ee ef eg ex ey = λ i. record {
  case = ej i;
  node = w;
  hand = hand_of h;
  holding = h;
  kept = None;
  seen = es i;
  counts = ec i;
  held = record { since = (ea ∙ en) i; upto = (eb ∙ en) i };
  given = (e3 ∙ en) i;
  lent_left = record { since = (ed ∙ en) i; upto = (ee ∙ en) i };
  lent_right = record { since = (ef ∙ en) i; upto = (eg ∙ en) i };
  taken_left = (ex ∙ en) i;
  taken_right = (ey ∙ en) i;
}

new_grows : (k : Content) (w : ℕ) → Grows k w (no_counts (job k)) (no_counts (job k)) (no_counts (job k))
new_grows k w = record { left = λ l r e. grown_itself k l (no_counts (job k)); right = λ l r e. grown_itself k r (no_counts (job k)) }

pub new_holds : (k : Content) (w : ℕ) (h : Holding) → IsFirst k w h → Holds (new_note k w h) h
new_holds k zero h is =
    let nothing : is.opening.upto ≡ no_counts (job k) = is.nothing.upto in
    holds_anew (new_note k zero h) is.opening refl is.fits is.nothing.since
    (subst (λ (u : List ℕ). Agrees k 0 (no_counts (job k)) (no_counts (job k)) u) (sym nothing) (agrees_itself k 0 (no_counts (job k))))
    (subst (λ (u : List ℕ). Grows k 0 (no_counts (job k)) (no_counts (job k)) u) (sym nothing) (new_grows k 0)) h is.is
new_holds k (suc w) h is =
    subst (λ (x : Holding). Holds (new_note k (suc w) h) x) (sym is) (record {
      kept = refl;
      mine = λ i e. refl;
      most = λ i. omega arith;
      grows = new_grows k (suc w);
    })

new_hand : (k : Content) (w : ℕ) (h : Holding) → IsFirst k w h → hand_of h ≡ start_hand k w
new_hand k zero h is = hand_anew k 0 is.opening h is.is
new_hand k (suc w) h is = ap hand_of is

pub first_is : (k : Content) (w : ℕ) (h : Holding) (lot : Lot) → w ≡ 0 → LotFits k 0 lot → CountsNothing k lot → IsHeldAs k w lot h → IsFirst k w h
first_is k zero h lot e fits nothing is = record { opening = lot; fits = fits; nothing = nothing; is = is }
first_is k (suc w) h lot e fits nothing is = absurd (omega arith)

pub record IsNewMail (k : Content) (w : ℕ) (mail : Mailbox) : Type 0 where
  pub at_node : IsAt (job k) (nodes k) mail
  pub over : IsOver (listed k.streams) mail
  pub node : node_of mail ≡ w
  pub seen : seen_of mail ≡ no_counts (job k)
  pub counts : counts_of mail ≡ no_counts (job k)

-- by what making it tells
pub new_mail : (k : Content) (w : ℕ) (mail : Mailbox) (c : Checked) (v : Valid) (s : Streams) → c ≡ k.checked → v ≡ k.valid → s ≡ k.streams
    → IsAt (program_of c) (plan_of v).nodes mail → IsOver (listed s) mail → node_of mail ≡ w
    → seen_of mail ≡ replicate {A = ℕ} (count_of_itags (program_of c)) 0
    → counts_of mail ≡ replicate {A = ℕ} (count_of_itags (program_of c)) 0 → IsNewMail k w mail
new_mail k w mail c v s ec ev es at over node seen counts = record {
  at_node = subst (λ (x : Valid). IsAt (job k) (plan_of x).nodes mail) ev (subst (λ (x : Checked). IsAt (program_of x) (plan_of v).nodes mail) ec at);
  over = subst (λ (x : Streams). IsOver (listed x) mail) es over;
  node = node;
  seen = seen ∙ ap (λ (x : Checked). replicate {A = ℕ} (count_of_itags (program_of x)) 0) ec ∙ nothing_counted k;
  counts = counts ∙ ap (λ (x : Checked). replicate {A = ℕ} (count_of_itags (program_of x)) 0) ec ∙ nothing_counted k;
}

pub new_rule : (k : Content) (w : ℕ) (mail : Mailbox) (h : Holding) (n : WorkerNote) → n ≡ new_note k w h → w < length (nodes k) → IsNewMail k w mail
    → IsFirst k w h → Rule n mail h
new_rule k w mail h n e there is_new is =
    subst (λ (m : WorkerNote). Rule m mail h) (sym e) (record {
      mailed = record { there = there; node = is_new.node; seen = is_new.seen; counts = is_new.counts; at_node = is_new.at_node; over = is_new.over };
      hand = refl;
      here = refl;
      holds = new_holds k w h is;
    })

pub is_new : (k : Content) (w : ℕ) (h : Holding) (n : WorkerNote) → n ≡ new_note k w h → IsFirst k w h → IsNew k w n
is_new k w h n e is =
    subst (λ (m : WorkerNote). IsNew k w m) (sym e) (record {
      case = refl;
      node = refl;
      hand = new_hand k w h is;
      kept = refl;
      seen = refl;
      counts = refl;
      held = refl;
      given = refl;
      taken_left = refl;
      taken_right = refl;
      lent_left = refl;
      lent_right = refl;
    })

-- ---- hold
pub held_none : (n : WorkerNote) (old : Mailbox) (was : Holding) → Rule n old was → is_open n.hand ≡ false → HoldsNone n
held_none n old was rule shut = has_none n was rule.holds (sym (ap is_open rule.hand) ∙ shut)

pub hold_rises : (n : WorkerNote) (old : Mailbox) (was : Holding) (lot : Lot) → Rule n old was → is_open n.hand ≡ false
    → GrownFrom n.case n.node n.given lot.upto
    → (i : ℕ) → slice_index n.counts i ≤ slice_index lot.upto i
hold_rises n old was lot rule shut grown i =
    let none = held_none n old was rule shut in
    let a = none.most i in
    let b = grown.outside i in
    omega arith

module _ (laws : LawsBelow) (n : WorkerNote) (old : Mailbox) (was : Holding) (rule : Rule n old was) (shut : is_open n.hand ≡ false) (lot : Lot)
    (fits : LotFits n.case n.node lot)
    (grown : GrownFrom n.case n.node n.given lot.upto) (mail : Mailbox) (same : IsSameMail (listed n.case.streams) old mail) (counts : List ℕ)
    (is_counts : counts_of mail ≡ counts)
    (like : CountsLike (above (job n.case) (nodes n.case) n.node) lot.upto n.counts counts) where
  none : HoldsNone n
  none = held_none n old was rule shut

  -- without memory for the parts
  abbrev pub gone_note : WorkerNote
  gone_note = record n { hand = hand_of Gone; holding = Gone; counts = counts }

  pub gone_rule : Rule gone_note mail Gone
  gone_rule = record { mailed = mailed_after n old mail gone_note rule.mailed same is_counts refl refl refl; hand = refl; here = refl; holds = none.kept }

  module _ (h : Holding) (is : IsHeldAs n.case n.node lot h) where
    abbrev pub held_note : WorkerNote
    held_note = record n { hand = hand_of h; holding = h; counts = counts; held = lots.counts_of lot }

    pub hold_rule : Rule held_note mail h
    hold_rule = record {
      mailed = mailed_after n old mail held_note rule.mailed same is_counts refl refl refl;
      hand = refl;
      here = refl;
      holds = holds_anew held_note lot none.kept fits refl
          (agrees_held laws n.case n.node n.counts counts n.given lot.upto n.taken_left n.taken_right
          (counts_long n old rule.mailed) fits.upto_each none.mine none.most grown like)
          (grows_held laws n.case n.node n.counts counts n.given lot.upto n.taken_left n.taken_right
          (counts_long n old rule.mailed) fits.upto_each none.mine none.most grown like none.grows) h is;
    }

    pub holds_lot : HoldsLot lot n held_note
    holds_lot = record {
      place = record { case = refl; node = refl; seen = refl };
      same = record { lent_left = refl; lent_right = refl; taken_left = refl; taken_right = refl };
      hand = hand_anew n.case n.node lot h is;
      kept = none.kept;
      held = refl;
      given = refl;
      counts_above =
          like_above laws n.case n.node n.counts counts n.given lot.upto n.taken_left n.taken_right
          (counts_long n old rule.mailed) fits.upto_each none.mine none.most grown like;
      counts_rest =
          like_rest laws n.case n.node n.counts counts n.given lot.upto n.taken_left n.taken_right
          (counts_long n old rule.mailed) fits.upto_each none.mine none.most grown like;
      counts_own =
          like_own laws n.case n.node n.counts counts n.given lot.upto n.taken_left n.taken_right
          (counts_long n old rule.mailed) fits.upto_each none.mine none.most grown like;
    }

-- the counts after those above were set, by what setting them tells
pub like_told : (n : WorkerNote) (old new : Mailbox) (t : Tables) (k : Content) (items upto : List ℕ) → IsMailed n old → k ≡ n.case
    → AreTablesOf (job k) (nodes k) t → items ≡ upto
    → (IsAt (job n.case) (nodes n.case) old → IsAt (job n.case) (nodes n.case) new)
    → ((i : ℕ) → slice_index (counts_of new) i ≡ cond (is_above t old i) (slice_index items i) (slice_index (counts_of old) i))
    → CountsLike (above (job n.case) (nodes n.case) n.node) upto n.counts (counts_of new)
like_told n old new t k items upto mailed ek tables ei at told = record {
  long = mail_long (job n.case) (nodes n.case) new (at mailed.at_node) ∙ sym (counts_long n old mailed);
  counts_are = λ i. told i
      ∙ λ j. cond (ancestors_own ((tables.of_job ∙ ap job ek) j) ((tables.of_plan ∙ ap nodes ek) j) (mailed.node j) (itag i)) (slice_index (ei j) i)
      (slice_index (mailed.counts j) i);
}

pub same_told : (n : WorkerNote) (old new : Mailbox) (s : Streams) → s ≡ n.case.streams → seen_of new ≡ seen_of old → node_of new ≡ node_of old
    → ((p : Program) (ns : List Node) → IsAt p ns old → IsAt p ns new) → IsOver (listed s) new → IsSameMail (listed n.case.streams) old new
same_told n old new s es seen node at over = record { seen = seen; node = node; at_node = at; over = subst (λ (x : Streams). IsOver (listed x) new) es over }

-- what stands of the case that is passed on stands of the worker's
pub record IsCaseAt (k : Content) (w : ℕ) (v : WorkerNote) : Type 0 where
  pub case : k ≡ v.case
  pub node : w ≡ v.node

pub held_at : (k : Content) (w : ℕ) (v : WorkerNote) (lot : Lot) (h : Holding) → IsCaseAt k w v → IsHeldAs k w lot h → IsHeldAs v.case v.node lot h
held_at k w v lot h at is = subst (λ (j : Content). IsHeldAs j v.node lot h) at.case (subst (λ (u : ℕ). IsHeldAs k u lot h) at.node is)
