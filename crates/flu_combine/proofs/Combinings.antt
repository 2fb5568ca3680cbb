-- Partials, and the sources beside them.
use Rattle.std.proofs.Common.{◌≡◌, ◌≢◌, inr, ℕ, zero, suc, ◌<◌, Bool, true, false, Option, Some, None, List, [], ◌∷◌, length, refl, sym, ap, subst, ◌∙◌, cond}
use Rattle.std.proofs.Common.{arith, get_or}
use Rattle.std.specs.Prelude.{◌||◌, IsSome, Contains, not, option_map}
use Rattle.std.specs.List.{list_any}
use Rattle.std.specs.Str.{bytes_eq}
use Rattle.std.proofs.lemmas.Bool.{false≢true}
use Rattle.std.proofs.lemmas.List.{length-map}
use Rattle.std.proofs.lemmas.Map.Views.{Contains-from_any}
use Rattle.std.proofs.lemmas.Slice.Eq.{bytes_eq-Decides}
use Rattle.flu_lemmas.proofs.Places.{position_below}
use Rattle.flu_model.specs.declared.events.Event.{Event}
use Rattle.flu_model.specs.declared.events.Item.{Item}
use Rattle.flu_model.specs.declared.jobs.Program.{Program}
use Rattle.flu_model.specs.declared.plans.Node.{Node}
use Rattle.flu_lemmas.specs.Told.{WhereTold}
use Rattle.flu_lemmas.proofs.Told.{told_then, told_weaker, told_both}
use Rattle.flu_outside.specs.Outside.{Contents, Rose, SameCounts}
use Rattle.flu_contribution.specs.Contributions.{Contribution}
use Rattle.flu_contribution.specs.Laws.{AreNodesApart}
use Rattle.flu_contribution.specs.Sending.{without_due}
use Rattle.flu_streams.specs.Files.{files_of, LeavesOthers}
use Rattle.flu_selected.specs.Gathering.{IsRead, ReadAreOut, HidesNoReadDefect, LeavesUnread as LeavesSources}
use Rattle.flu_selected.specs.Laws.{closed_files, first_read_fault}
use Rattle.flu_selected.specs.Selecting.{is_among}
use Rattle.flu_readers.specs.Reading.{reads_rest, rest_read}
use Rattle.flu_joining.specs.Joining.{events_of_none, is_last_alone, waiting_behind}
use Rattle.flu_combine.specs.declared.fault.CombineFault.{CombineFault}
use Rattle.flu_combine.specs.declared.fault.CombineFault.TheVariants as combine
use Rattle.flu_combine.specs.Names.{read_out}
use Rattle.flu_combine.specs.Reading.{AreRead}
use Rattle.flu_combine.specs.Combined.{AreAccepted, IsCombined, LeavesUnread}
use Rattle.flu_combine.specs.Faults.{IsCause, IsFaultOfPartial, IsFaultOfSource, SourceRose, HidesNoDefectBehind}
use Rattle.flu_combine.specs.Resting.{IsJoined, IsJoinFault, IsLeftOver, IsRest, IsRestLeftOver, IsRestFault}

-- ---- names
or_true : (b : Bool) → (b || true) ≡ true
or_true true = refl
or_true false = refl

among_at : (names : List (List ℕ)) (k : ℕ) (name : List ℕ) → k < length names → get_or names k name ≡ name → list_any (bytes_eq name) names ≡ true
among_at [] k name lt at = absurd (omega arith)
among_at (n ∷ ns) zero name lt at = ap (λ (b : Bool). b || list_any (bytes_eq name) ns) ((bytes_eq-Decides name n).1 (sym at))
among_at (n ∷ ns) (suc k) name lt at =
    ap (λ (b : Bool). bytes_eq name n || b) (among_at ns k name (omega arith) at) ∙ or_true (bytes_eq name n)

among : (names : List (List ℕ)) (name : List ℕ) → Contains names name → is_among names name ≡ true
among names name there = among_at names there.0 name there.1 there.2

among_there : (names : List (List ℕ)) (name : List ℕ) → is_among names name ≡ true → Contains names name
among_there names name is = Contains-from_any (λ x y same. (bytes_eq-Decides x y).0 same) name names is

-- a name that is read out has nothing left, whether it is the file of a source that is read or not
left_at_end : (p : Program) (is_read : ℕ → Bool) (mid then : Contents) (name : List ℕ) → mid name ≡ Some [] → LeavesSources p is_read mid then
    → ((n : List ℕ) → IsRead p is_read n → then n ≡ Some []) → then name ≡ Some []
left_at_end p is_read mid then name out leaves ends = by_test (is_among (closed_files p is_read) name) refl (is_among (files_of p.sources) name) refl
  where
    by_test : (b : Bool) → is_among (closed_files p is_read) name ≡ b → (d : Bool) → is_among (files_of p.sources) name ≡ d → then name ≡ Some []
    by_test true closed d file = leaves name (λ read. false≢true (sym read.1 ∙ closed)) ∙ out
    by_test false closed true file = ends name (among_there (files_of p.sources) name file, closed)
    by_test false closed false file = leaves name (λ read. false≢true (sym file ∙ among (files_of p.sources) name read.0)) ∙ out

-- ---- what is combined
combined_join : (p : Program) (nodes : List Node) (names : List (List ℕ)) (ws : List ℕ) (queues : List (List Contribution)) (told : List ℕ) (text : List ℕ)
    (was mid then : Contents) → names ≢ [] → AreNodesApart p nodes ws → AreRead p nodes names ws queues told was mid
    → IsRest p nodes ws told queues text mid then → LeavesSources p (reads_rest p nodes ws) mid then → IsCombined p nodes names text was then
combined_join p nodes names ws queues told text was mid then some apart these rest leaves =
    let moved : IsRest p nodes ws told queues text (read_out names was) then =
    subst (λ (m : Contents). IsRest p nodes ws told queues text m then) these.end rest in
    record {
      some = some;
      ws = ws;
      queues = queues;
      told = told;
      accepted = record { partials = these.partials; tell = these.tell; apart = apart };
      good = moved.good;
      used_up = moved.joined.used_up;
      is = moved.joined.is;
      partials_end = λ name there. left_at_end p (reads_rest p nodes ws) mid then name
          (ap (λ (m : Contents). m name) these.end ∙ ap (λ (b : Bool). cond b (Some []) (was name)) (among names name there)) leaves rest.ends;
      sources_end = rest.ends;
    }

pub combined_told : (p : Program) (nodes : List Node) (names : List (List ℕ)) (ws : List ℕ) (queues : List (List Contribution)) (told : List ℕ) (text : List ℕ)
    (a b c : Option Contents) → names ≢ [] → AreNodesApart p nodes ws → WhereTold a b (AreRead p nodes names ws queues told)
    → WhereTold b c (IsRest p nodes ws told queues text)
    → WhereTold b c (LeavesSources p (reads_rest p nodes ws)) → WhereTold a c (IsCombined p nodes names text)
combined_told p nodes names ws queues told text a b c some apart these rest leaves =
    told_then (AreRead p nodes names ws queues told)
    (λ mid then. IsRest p nodes ws told queues text mid then × LeavesSources p (reads_rest p nodes ws) mid then) (IsCombined p nodes names text) a b c
    (λ was mid then h k. combined_join p nodes names ws queues told text was mid then some apart h k.0 k.1) these
    (told_both (IsRest p nodes ws told queues text) (LeavesSources p (reads_rest p nodes ws)) b c rest leaves)

-- ---- what is left alone
pub only_partials : (p : Program) (nodes : List Node) (names : List (List ℕ)) (a b : Option Contents) → WhereTold a b (LeavesOthers names)
    → WhereTold a b (LeavesUnread p nodes names)
only_partials p nodes names a b others =
    told_weaker (LeavesOthers names) (LeavesUnread p nodes names) a b (λ was then h other apart unread. h other apart) others

unread_join : (p : Program) (nodes : List Node) (names : List (List ℕ)) (ws : List ℕ) (queues : List (List Contribution)) (told : List ℕ)
    (was mid then : Contents) → AreNodesApart p nodes ws → AreRead p nodes names ws queues told was mid → LeavesOthers names was mid
    → LeavesSources p (reads_rest p nodes ws) mid then
    → LeavesUnread p nodes names was then
unread_join p nodes names ws queues told was mid then apart these others leaves other not_name not_read =
    leaves other (λ read. not_read (ws, queues, told, record { partials = these.partials; tell = these.tell; apart = apart }, read)) ∙ others other not_name

pub unread_told : (p : Program) (nodes : List Node) (names : List (List ℕ)) (ws : List ℕ) (queues : List (List Contribution)) (told : List ℕ)
    (a b c : Option Contents) → AreNodesApart p nodes ws → WhereTold a b (AreRead p nodes names ws queues told) → WhereTold a b (LeavesOthers names)
    → WhereTold b c (LeavesSources p (reads_rest p nodes ws)) → WhereTold a c (LeavesUnread p nodes names)
unread_told p nodes names ws queues told a b c apart these others leaves =
    told_then (λ was mid. AreRead p nodes names ws queues told was mid × LeavesOthers names was mid) (LeavesSources p (reads_rest p nodes ws))
    (LeavesUnread p nodes names) a b c
    (λ was mid then h k. unread_join p nodes names ws queues told was mid then apart h.0 h.1 k)
    (told_both (AreRead p nodes names ws queues told) (LeavesOthers names) a b these others) leaves

-- ---- faults
source_rose : (p : Program) (nodes : List Node) (names : List (List ℕ)) (ws : List ℕ) (queues : List (List Contribution)) (told : List ℕ)
    (a b c : Option Contents) (before mid now : List ℕ → ℕ) → AreNodesApart p nodes ws → WhereTold a b (AreRead p nodes names ws queues told)
    → SameCounts before mid
    → (IsSome b → (name : List ℕ) × IsRead p (reads_rest p nodes ws) name × Rose (mid name) (now name)) → WhereTold b c (λ x y. Unit {0})
    → WhereTold a c (λ was then. SourceRose p nodes names was before now)
source_rose p nodes names ws queues told None None None before mid now apart these same rose both = tt
source_rose p nodes names ws queues told None None (Some z) before mid now apart these same rose both = absurd both
source_rose p nodes names ws queues told None (Some y) c before mid now apart these same rose both = absurd these
source_rose p nodes names ws queues told (Some x) None c before mid now apart these same rose both = absurd these
source_rose p nodes names ws queues told (Some x) (Some y) None before mid now apart these same rose both = absurd both
source_rose p nodes names ws queues told (Some x) (Some y) (Some z) before mid now apart these same rose both =
    let one = rose refl in
    record {
      ws = ws;
      queues = queues;
      told = told;
      accepted = record { partials = these.partials; tell = these.tell; apart = apart };
      rose = (one.0, one.1, subst (λ (n : ℕ). Rose n (now one.0)) (same one.0) one.2);
    }

-- what the names have once the partials are read
read_of_all : (p : Program) (nodes : List Node) (names : List (List ℕ)) (ws : List ℕ) (queues : List (List Contribution)) (told : List ℕ)
    (a b : Option Contents) → WhereTold a b (AreRead p nodes names ws queues told) → b ≡ option_map (read_out names) a
read_of_all p nodes names ws queues told None None these = refl
read_of_all p nodes names ws queues told None (Some y) these = absurd these
read_of_all p nodes names ws queues told (Some x) None these = absurd these
read_of_all p nodes names ws queues told (Some x) (Some y) these = ap Some these.end

pub hides_behind : (p : Program) (nodes : List Node) (names : List (List ℕ)) (ws : List ℕ) (queues : List (List Contribution)) (told : List ℕ)
    (a b c : Option Contents) (before mid now : List ℕ → ℕ) → AreNodesApart p nodes ws → WhereTold a b (AreRead p nodes names ws queues told)
    → SameCounts before mid → WhereTold b c (λ x y. Unit {0}) → HidesNoReadDefect p (reads_rest p nodes ws) b c mid now
    → HidesNoDefectBehind p nodes names a c before now
hides_behind p nodes names ws queues told a b c before mid now apart these same both hides =
    let counts : mid ≡ before = λ i name. same name i in
    record {
      ws = ws;
      queues = queues;
      told = told;
      accepted = told_then (AreRead p nodes names ws queues told) (λ x y. Unit {0}) (λ was then. AreAccepted p nodes was names ws queues told) a b c
          (λ was mid then h k. record { partials = h.partials; tell = h.tell; apart = apart }) these both;
      hides = subst (λ (x : List ℕ → ℕ). HidesNoReadDefect p (reads_rest p nodes ws) (option_map (read_out names) a) c x now) counts
          (subst (λ (o : Option Contents). HidesNoReadDefect p (reads_rest p nodes ws) o c mid now) (read_of_all p nodes names ws queues told a b these) hides);
    }

-- no read fails where what was sent is joined
pub no_read_fault : (queues : List (List Contribution)) (ys : List Event) (fault : CombineFault) → IsJoinFault queues ys fault → fault ≡ combine.ReadFault → ⊥
no_read_fault queues ys fault is e = subst (IsJoinFault queues ys) e is

-- as many queues are left
as_many_behind : (queues : List (List Contribution)) (ys : List Event) → length (waiting_behind queues ys) ≡ length queues
as_many_behind queues [] = refl
as_many_behind queues (y ∷ ys) = as_many_behind (without_due y queues) ys ∙ simp length-map

pub left_over_below : (queues : List (List Contribution)) (ys : List Event) (place : ℕ) → IsLeftOver queues ys place → place < length queues
left_over_below queues ys place is =
    subst (λ (n : ℕ). place < n) (as_many_behind queues ys) (position_below (λ ks. not (is_last_alone ks)) (waiting_behind queues ys) place is)

pub cause_told : (p : Program) (nodes : List Node) (names : List (List ℕ)) (ws : List ℕ) (queues : List (List Contribution)) (told : List ℕ)
    (fault : CombineFault) (a b c : Option Contents) (before mid now : List ℕ → ℕ) → AreNodesApart p nodes ws → length queues ≡ length names
    → WhereTold a b (AreRead p nodes names ws queues told) → SameCounts before mid → WhereTold b c (λ x y. Unit {0})
    → IsRestFault p nodes ws told queues b c mid now fault → IsCause p nodes names a c before now fault
cause_told p nodes names ws queues told (combine.Partial place defect) a b c before mid now apart many these same both is = (
  subst (λ (n : ℕ). place < n) many is.1,
  told_then (AreRead p nodes names ws queues told) (λ was then. IsRestLeftOver p nodes ws told queues place was)
      (λ was then. IsFaultOfPartial p nodes names was place defect)
      a b c (λ was mid then h k. let moved = subst (IsRestLeftOver p nodes ws told queues place) h.end k in
      inr (
        is.0,
        record {
          ws = ws;
          queues = queues;
          told = told;
          accepted = record { partials = h.partials; tell = h.tell; apart = apart };
          good = moved.good;
          first = moved.left_over;
        },
      ))
      these is.2,
)
cause_told p nodes names ws queues told (combine.Source fault) a b c before mid now apart many these same both is = (
  is.0,
  told_then (AreRead p nodes names ws queues told) (λ was then. first_read_fault p told (reads_rest p nodes ws) was ≡ Some fault)
      (λ was then. IsFaultOfSource p nodes names was fault) a b c
      (λ was mid then h k. record {
        ws = ws;
        queues = queues;
        told = told;
        accepted = record { partials = h.partials; tell = h.tell; apart = apart };
        first = subst (λ (m : Contents). first_read_fault p told (reads_rest p nodes ws) m ≡ Some fault) h.end k;
      }) these is.1,
)
cause_told p nodes names ws queues told combine.ReadFault a b c before mid now apart many these same both is =
    inr (
      (is.0.0, is.0.1, subst (λ (n : ℕ). Rose n (now is.0.0)) (same is.0.0) is.0.2),
      source_rose p nodes names ws queues told a b c before mid now apart these same is.1 both,
    )
cause_told p nodes names ws queues told combine.WriteFault a b c before mid now apart many these same both is = tt
cause_told p nodes names ws queues told combine.NoMemory a b c before mid now apart many these same both is = tt

-- ---- the sources
pub moved : (P : Program → (ℕ → Bool) → Type 0) (p q : Program) (r s : ℕ → Bool) → p ≡ q → r ≡ s → P p r → P q s
moved P p q r s same_p same_r h = subst (λ (x : ℕ → Bool). P q x) same_r (subst (λ (x : Program). P x r) same_p h)

pub rest_told : (p : Program) (nodes : List Node) (ws : List ℕ) (queues : List (List Contribution)) (told : List ℕ) (text : List ℕ) (lists : List (List Item))
    (a b : Option Contents) → WhereTold a b (λ old new. first_read_fault p told (reads_rest p nodes ws) old ≡ None)
    → WhereTold a b (λ old new. lists ≡ rest_read p nodes ws told old) → ReadAreOut p (reads_rest p nodes ws) b
    → IsJoined p queues (events_of_none p nodes ws lists) text → WhereTold a b (IsRest p nodes ws told queues text)
rest_told p nodes ws queues told text lists None None good is out joined = tt
rest_told p nodes ws queues told text lists None (Some y) good is out joined = absurd good
rest_told p nodes ws queues told text lists (Some x) None good is out joined = absurd good
rest_told p nodes ws queues told text lists (Some x) (Some y) good is out joined = record {
  good = good;
  joined = subst (λ (l : List (List Item)). IsJoined p queues (events_of_none p nodes ws l) text) is joined;
  ends = out;
}

pub fault_told : (p : Program) (nodes : List Node) (ws : List ℕ) (queues : List (List Contribution)) (told : List ℕ) (fault : CombineFault)
    (lists : List (List Item)) (a b : Option Contents) (before now : List ℕ → ℕ)
    → WhereTold a b (λ old new. first_read_fault p told (reads_rest p nodes ws) old ≡ None)
    → WhereTold a b (λ old new. lists ≡ rest_read p nodes ws told old) → IsJoinFault queues (events_of_none p nodes ws lists) fault
    → IsRestFault p nodes ws told queues a b before now fault
fault_told p nodes ws queues told (combine.Partial place defect) lists a b before now good is joined = (
  joined.0,
  left_over_below queues (events_of_none p nodes ws lists) place joined.1,
  told_weaker (λ old new. (first_read_fault p told (reads_rest p nodes ws) old ≡ None) × (lists ≡ rest_read p nodes ws told old))
      (λ was then. IsRestLeftOver p nodes ws told queues place was) a b
      (λ was then h. record {
        good = h.0;
        left_over = subst (λ (l : List (List Item)). IsLeftOver queues (events_of_none p nodes ws l) place) h.1 joined.1;
      }) (told_both (λ old new. first_read_fault p told (reads_rest p nodes ws) old ≡ None) (λ old new. lists ≡ rest_read p nodes ws told old) a b good is),
)
fault_told p nodes ws queues told (combine.Source fault) lists a b before now good is joined = absurd joined
fault_told p nodes ws queues told combine.ReadFault lists a b before now good is joined = absurd joined
fault_told p nodes ws queues told combine.WriteFault lists a b before now good is joined = absurd joined
fault_told p nodes ws queues told combine.NoMemory lists a b before now good is joined = tt

pub both_told : (P : Contents → Contents → Type 0) (a b : Option Contents) → WhereTold a b P → WhereTold a b (λ x y. Unit {0})
both_told P a b h = told_weaker P (λ x y. Unit {0}) a b (λ x y k. tt) h
