-- Which partials are accepted.
use Rattle.std.proofs.Common.{◌≡◌, ℕ, ◌+◌, Bool, true, false, Option, Some, None, Result, Ok, Err, List, [], ◌∷◌, refl, sym, ap, subst, ◌∙◌, cond}
use Rattle.std.specs.Prelude.{◌≤◌, ◌||◌, map, length, position, option_map, slice_index_or, IsOk}
use Rattle.std.proofs.Common.{get_or}
use Rattle.std.proofs.lemmas.Option.{get_or_from_slice_get}
use Rattle.std.specs.List.{AllByRecursion}
use Rattle.flu_lemmas.specs.Items.{Pairs}
use Rattle.flu_lemmas.proofs.Places.{position-cons, position_passes}
use Rattle.flu_model.specs.declared.jobs.Program.{Program}
use Rattle.flu_model.specs.declared.plans.Node.{Node}
use Rattle.flu_model.specs.Owners.{is_within, are_related}
use Rattle.flu_apart.specs.Apart.{MayBeApart}
use Rattle.flu_contribution.specs.declared.contributing.Handed.{Handed}
use Rattle.flu_contribution.specs.Contributions.{Contribution}
use Rattle.flu_contribution.specs.Parts.{contribution_of}
use Rattle.flu_deps.specs.Trees.{AreApart}
use Rattle.flu_partial.specs.declared.values.Contribution as partial
use Rattle.flu_partial.specs.declared.values.PartialHead.{PartialHead}
use Rattle.flu_handover.specs.Handing.{IsLineOf}
use Rattle.flu_receiving.specs.declared.receiving.Received.{Received}
use Rattle.flu_receiving.specs.Receiving.{IsRead, IsSentBy}
use Rattle.flu_combine.specs.declared.fault.PartialDefect.{PartialDefect}
use Rattle.flu_combine.specs.declared.fault.PartialDefect.TheVariants.{TooLong, Text, OtherJob, OtherPlan, UnknownNode, NotApart, Twice, Within, WrongTimes}
use Rattle.flu_combine.specs.declared.fault.PartialDefect.TheVariants.{LeftOver}
use Rattle.flu_combine.specs.Partials.{most_bytes, told_by, times_fit, AreNested, IsOfNode, IsPartialOf, TellsRows, IsDefectOfNode, IsDefectOfHead, IsDefect}
use Rattle.flu_combine.specs.Reading.{IsApartBeside, IsDefectBeside}

-- ---- nodes beside each other
neither : (a b : Bool) → (a || b) ≡ false → (a ≡ false) × (b ≡ false)
neither true b h = cc
neither false true h = cc
neither false false h = (refl, refl)

pub none_related : (nodes : List Node) (w : ℕ) (ws : List ℕ) → position (λ u. are_related nodes u w) ws ≡ None → AllByRecursion (λ u. AreApart nodes u w) ws
none_related nodes w [] none = tt
none_related nodes w (u ∷ us) none =
    by_test (are_related nodes u w) refl (position (λ u. are_related nodes u w) us) refl (sym (position-cons (λ u. are_related nodes u w) u us) ∙ none)
    (none_related nodes w us)
  where
    by_test : (b : Bool) → are_related nodes u w ≡ b → (o : Option ℕ) → position (λ u. are_related nodes u w) us ≡ o
        → cond b (Some 0) (option_map (λ i. i + 1) o) ≡ None
        → (position (λ u. are_related nodes u w) us ≡ None → AllByRecursion (λ u. AreApart nodes u w) us)
        → AllByRecursion (λ u. AreApart nodes u w) (u ∷ us)
    by_test true is o later h more = cc
    by_test false is (Some i) later h more = cc
    by_test false is None later h more = (neither (is_within nodes u w) (is_within nodes w u) is, more later)

-- and the other way round
pub unrelated : (nodes : List Node) (w : ℕ) (ws : List ℕ) → AllByRecursion (λ u. AreApart nodes u w) ws → position (λ u. are_related nodes u w) ws ≡ None
unrelated nodes w [] all = refl
unrelated nodes w (u ∷ us) all =
    position-cons (λ v. are_related nodes v w) u us
    ∙ ap (λ (b : Bool). cond b (Some 0) (option_map (λ i. i + 1) (position (λ v. are_related nodes v w) us)))
    (ap (λ (b : Bool). b || is_within nodes w u) all.0.0 ∙ all.0.1)
    ∙ ap (option_map (λ i. i + 1)) (unrelated nodes w us all.1)

pub ok_if_no_error : {T E : Type 0} (r : Result T E) → ((e : E) → r ≡ Err e → ⊥) → IsOk r
ok_if_no_error (Ok x) none = refl
ok_if_no_error (Err e) none = absurd (none e refl)

-- ---- defects
pub related_there : (nodes : List Node) (w : ℕ) (ws : List ℕ) (place : ℕ) (d : ℕ) → position (λ u. are_related nodes u w) ws ≡ Some place
    → are_related nodes (get_or ws place d) w ≡ true
related_there nodes w ws place d first =
    let there = position_passes (λ u. are_related nodes u w) ws place first in
    subst (λ u. are_related nodes u w ≡ true) (sym (get_or_from_slice_get ws place there.0 d there.1)) there.2

-- what is wrong beside the first related one
pub defect_of_first : (p : Program) (nodes : List Node) (ws : List ℕ) (w other place : ℕ) (d : PartialDefect) → MayBeApart p nodes w
    → position (λ u. are_related nodes u w) ws ≡ Some place → slice_index_or ws place 0 ≡ other → IsDefectBeside nodes other w d
    → IsDefectOfNode p nodes ws w d
defect_of_first p nodes ws w other place TooLong may first at is = absurd is
defect_of_first p nodes ws w other place (Text fault) may first at is = absurd is
defect_of_first p nodes ws w other place OtherJob may first at is = absurd is
defect_of_first p nodes ws w other place OtherPlan may first at is = absurd is
defect_of_first p nodes ws w other place UnknownNode may first at is = absurd is
defect_of_first p nodes ws w other place (NotApart u reason) may first at is = absurd is
defect_of_first p nodes ws w other place (Twice u) may first at is = (is.0, (place, record { may = may; first = first }, at ∙ is.1))
defect_of_first p nodes ws w other place (Within u v) may first at is =
    (place, record { may = may; first = first }, λ same. is.0 (sym at ∙ same), subst (λ (r : ℕ). AreNested nodes r w u v) (sym at) is.1)
defect_of_first p nodes ws w other place WrongTimes may first at is = absurd is
defect_of_first p nodes ws w other place LeftOver may first at is = absurd is

pub defect_of_node : (p : Program) (nodes : List Node) (ws : List ℕ) (h : PartialHead) (w : ℕ) (d : PartialDefect) → IsOfNode p nodes h w
    → IsDefectOfNode p nodes ws w d → IsDefectOfHead p nodes ws h d
defect_of_node p nodes ws h w TooLong is d = (w, is, d)
defect_of_node p nodes ws h w (Text fault) is d = (w, is, d)
defect_of_node p nodes ws h w OtherJob is d = absurd d
defect_of_node p nodes ws h w OtherPlan is d = absurd d
defect_of_node p nodes ws h w UnknownNode is d = absurd d
defect_of_node p nodes ws h w (NotApart u reason) is d = (w, is, d)
defect_of_node p nodes ws h w (Twice u) is d = (w, is, d)
defect_of_node p nodes ws h w (Within u v) is d = (w, is, d)
defect_of_node p nodes ws h w WrongTimes is d = (w, is, d)
defect_of_node p nodes ws h w LeftOver is d = (w, is, d)

pub defect_of_head : (p : Program) (nodes : List Node) (ws bytes : List ℕ) (r : Received) (d : PartialDefect) → length bytes ≤ most_bytes
    → IsRead p bytes r → IsDefectOfHead p nodes ws r.head d → IsDefect p nodes ws bytes d
defect_of_head p nodes ws bytes r TooLong few read d = absurd d.2
defect_of_head p nodes ws bytes r (Text fault) few read d = absurd d.2
defect_of_head p nodes ws bytes r OtherJob few read d = (few, (r, read, d))
defect_of_head p nodes ws bytes r OtherPlan few read d = (few, (r, read, d))
defect_of_head p nodes ws bytes r UnknownNode few read d = (few, (r, read, d))
defect_of_head p nodes ws bytes r (NotApart u reason) few read d = (few, (r, read, d))
defect_of_head p nodes ws bytes r (Twice u) few read d = (few, (r, read, d))
defect_of_head p nodes ws bytes r (Within u v) few read d = (few, (r, read, d))
defect_of_head p nodes ws bytes r WrongTimes few read d = absurd d.2
defect_of_head p nodes ws bytes r LeftOver few read d = (few, (r, read, d))

-- ---- times
pub wrong_times : (p : Program) (nodes : List Node) (ws bytes : List ℕ) (r : Received) (w : ℕ) → length bytes ≤ most_bytes → IsRead p bytes r
    → IsOfNode p nodes r.head w → IsApartBeside p nodes ws w → times_fit p r.head.first r.last ≡ false → IsDefect p nodes ws bytes WrongTimes
wrong_times p nodes ws bytes r w few read of_node beside wrong =
    (few, (r, read, record { node = w; of_node = of_node; may = beside.apart.may; unrelated = unrelated nodes w ws beside.beside; wrong = wrong }))

pub tells_rows : (p : Program) (bytes : List ℕ) (r : Received) (told : List ℕ) → IsRead p bytes r → times_fit p r.head.first r.last ≡ true
    → told ≡ told_by p r.head.first r.last → TellsRows p bytes told
tells_rows p bytes r told read fit is = record {
  head = r.head;
  lines = read.0;
  whole = read.1;
  fit = subst (λ (last : Option ℕ). times_fit p r.head.first last ≡ true) read.2.last fit;
  tells = is ∙ ap (told_by p r.head.first) read.2.last;
}

-- ---- what was sent
pub sent_by_lines : (p : Program) (cs : List partial.Contribution) (hs : List Handed) → Pairs (IsSentBy p) cs hs
    → Pairs (IsLineOf p) cs (map contribution_of hs)
sent_by_lines p [] [] pairs = tt
sent_by_lines p [] (h ∷ hs) pairs = absurd pairs
sent_by_lines p (c ∷ cs) [] pairs = absurd pairs
sent_by_lines p (c ∷ cs) (h ∷ hs) pairs = (pairs.0, sent_by_lines p cs hs pairs.1)

pub accepted : (p : Program) (nodes : List Node) (bytes : List ℕ) (w : ℕ) (r : Received) (sent : List Contribution) → length bytes ≤ most_bytes
    → IsRead p bytes r
    → IsOfNode p nodes r.head w → sent ≡ map contribution_of r.sent.items → IsPartialOf p nodes bytes w sent
accepted p nodes bytes w r sent few read of_node is = record {
  head = r.head;
  lines = read.0;
  few = few;
  whole = read.1;
  of_node = of_node;
  said = subst (λ ks. Pairs (IsLineOf p) read.0 ks) (sym is) (sent_by_lines p read.0 r.sent.items read.2.sent);
}
