-- The net at the start keeps the rule.
use Rattle.std.proofs.Common.{◌≡◌, ◌+◌, ℕ, zero, suc, Some, List, [], ◌∷◌, ◌++◌, false, inl, inr, refl, sym, ap, subst, ◌∙◌, arith}
use Rattle.std.specs.Prelude.{slice_get, slice_index}
use Rattle.std.specs.List.{range_with_len}
use Rattle.std.proofs.lemmas.List.{length-append}
use Rattle.std.proofs.lemmas.List.FromFn.{length-map-range_with_len}
use Rattle.std.proofs.lemmas.Option.{none-some}
use Rattle.std.proofs.Math.ListN.{get_or-map}
use Rattle.flu_lemmas.proofs.Places.{slice_get-there, slice_get_push}
use Rattle.flu_model.specs.Itags.{count_of_itags}
use Rattle.flu_fork.specs.declared.content.Content.{Content}
use Rattle.flu_fork.specs.Classes.{below}
use Rattle.flu_fork.specs.Laws.{no_counts}
use Rattle.flu_fork.specs.Lots.{job, nodes, kids, setting_of}
use Rattle.flu_worker.specs.declared.hand.Side.{Side}
use Rattle.flu_worker.specs.declared.hand.Side.TheVariants.{Left, Right}
use Rattle.flu_worker.specs.Calls.{IsNew, start_hand}
use Rattle.flu_worker.specs.Keeping.{HasRule}
use Rattle.flu_worker.specs.Hands.{at_side, is_lost, is_open, is_out}
use Rattle.flu_worker.specs.Notes.{WorkerNote, taken_from}
use Rattle.flu_net.specs.declared.edges.Edge.{Edge}
use Rattle.flu_net.specs.declared.edges.Edge.TheVariants.{Home}
use Rattle.flu_net.specs.LawsBelow.{LawsBelow}
use Rattle.flu_net.specs.Notes.{NetNote}
use Rattle.flu_fork.specs.Texts.{HasTexts}
use Rattle.flu_net.specs.Rule.{Hangs, Lets, IsSeen, Rule}
use Rattle.flu_net.specs.Starting.{AreNew, AreHome, IsStart}
use Rattle.flu_net.proofs.Hands.{first_open}
use Rattle.flu_net.proofs.Standing.{first_sound}

-- ---- one more
pub new_more : (k : Content) (w : ℕ) (old new : List WorkerNote) (n : WorkerNote) → new ≡ old ++ n ∷ [] → IsNew k w n → HasRule n → AreNew k w old → AreNew k (w + 1) new
new_more k w old new n push is rule were = subst (AreNew k (w + 1)) (sym push) (record {
  each = (let a = length-append old (n ∷ []) in let b = were.each in omega arith);
  new = λ v m e. elim (slice_get_push old n v m e) as (λ _. IsNew k v m) [
    | inl f ↦ were.new v m f
    | inr at ↦ subst (IsNew k v) at.1 (subst (λ j. IsNew k j n) (sym (at.0 ∙ were.each)) is)
  ];
  keep = λ v m e. elim (slice_get_push old n v m e) as (λ _. HasRule m) [ inl f ↦ were.keep v m f | inr at ↦ subst HasRule at.1 rule ];
})

pub home_more : (v : ℕ) (old new : List Edge) → new ≡ old ++ Home ∷ [] → AreHome v old → AreHome (v + 1) new
home_more v old new push were = subst (AreHome (v + 1)) (sym push) (record {
  each = (let a = length-append old (Home ∷ []) in let b = were.each in omega arith);
  home = λ j e at. elim (slice_get_push old Home j e at) as (λ _. e ≡ Home) [
    | inl f ↦ were.home j e f
    | inr at ↦ sym at.1
  ];
})

pub none_new : (k : Content) → AreNew k 0 []
none_new k = record { each = refl; new = λ v m e. none v m e; keep = λ v m e. none_kept v m e }
  where
    none_kept : (v : ℕ) (m : WorkerNote) → slice_get {X = WorkerNote} [] v ≡ Some m → HasRule m
    none_kept v m e = cc

    none : (v : ℕ) (m : WorkerNote) → slice_get {X = WorkerNote} [] v ≡ Some m → IsNew k v m
    none v m e = cc

pub none_home : AreHome 0 []
none_home = record { each = refl; home = λ v m e. none v m e }
  where
    none : (v : ℕ) (m : Edge) → slice_get {X = Edge} [] v ≡ Some m → m ≡ Home
    none v m e = cc

-- ---- the rule
start_sound : (k : Content) (w : ℕ) → is_lost (start_hand k w) ≡ false
start_sound k zero = first_sound (kids k 0)
start_sound k (suc w) = refl

none_taken : (s : Side) (k : Content) (w : ℕ) (n : WorkerNote) → IsNew k w n → taken_from s n ≡ no_counts (job k)
none_taken Left k w n is = is.taken_left
none_taken Right k w n is = is.taken_right

pub start_rule : LawsBelow → (k : Content) (n : NetNote) → IsStart k n → Rule n
start_rule laws k n start = subst (λ (j : Content). Rule (record n { case = j })) (sym start.case) at_k
  where
    nil : List ℕ
    nil = no_counts (job k)

    none_counted_at : (i : ℕ) → slice_index nil i ≡ 0
    none_counted_at i = get_or-map (λ (n : ℕ). 0) (range_with_len 0 (count_of_itags (job k))) i 0

    at_k : Rule (record n { case = k })
    at_k = record {
      seen = subst (IsSeen k) (sym start.seen) (record {
        one_each = length-map-range_with_len (λ (i : ℕ). 0) 0 (count_of_itags (job k));
        there = λ i. (let z = none_counted_at i in omega arith);
      });
      ties = record {
        workers_each = start.workers.each;
        edges_each = start.edges.each;
        placed = λ w m e. (let is = start.workers.new w m e in record { case = is.case; node = is.node; sees = is.seen ∙ sym start.seen });
        top = (let root = (laws.parents (nodes k) (laws.settings k).one_tree).root in
            let one = start.edges.each in
            let found = slice_get-there n.edges 0 (omega arith) in found.1 ∙ ap Some (start.edges.home 0 found.0 found.1));
        root = λ m e. (start.workers.new 0 m e).held;
        hangs = λ w m e some a b. subst (Hangs m) (sym (start.edges.home w e b)) (ap is_open (start.workers.new w m a).hand ∙ laws.start_shut k w some);
        lets = λ s w l r m c e are a b d. subst (λ (x : Edge). Lets s m x c) (sym (start.edges.home (at_side s l r) e b)) (record {
          home = ap (is_out s) (start.workers.new w m a).hand ∙ laws.start_here k w s;
          given = (start.workers.new (at_side s l r) c d).given ∙ sym (none_taken s k w m (start.workers.new w m a));
        });
      };
      stands = λ w m e a b. (let is = start.workers.new w m a in record {
        asked = λ y kept over. absurd (none-some y (sym is.kept ∙ kept));
        sound = ap is_lost is.hand ∙ start_sound k w;
        root = λ top. ap is_open is.hand ∙ ap (λ v. is_open (start_hand k v)) top ∙ first_open (kids k 0);
      });
      tells = record {
        done = nil;
        long = length-map-range_with_len (λ (i : ℕ). 0) 0 (count_of_itags (job k));
        counted = λ w m i a own. ap (λ (c : List ℕ). slice_index c i) (start.workers.new w m a).counts;
        texts = subst (HasTexts (setting_of k) (below (job k) (nodes k) 0) nil) (sym start.outs)
            (laws.no_texts (setting_of k) (below (job k) (nodes k) 0) nil (λ i set. none_counted_at i));
      };
    }
