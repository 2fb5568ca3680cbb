-- What reading the selected sources does to the files, from what it does to files of which the others are closed.
use Rattle.std.proofs.Common.{◌≡◌, ℕ, ◌+◌, ◌<◌, ◌≤◌, ◌∙◌, refl, sym, ap, subst, Bool, true, false, List, [], ◌∷◌, ◌++◌, length, take, get_or, arith}
use Rattle.std.proofs.Common.{Option, Some, None, Result, Ok, Err, inl, inr}
use Rattle.std.specs.Prelude.{IsSome, is_some, is_none, not, ◌&&◌, OnOk, IfOk, IfErr, if◌then◌else◌}
use Rattle.std.specs.Option.{option_or}
use Rattle.std.specs.List.{filter_map, cons_option, Contains}
use Rattle.std.proofs.lemmas.Bool.{cases_Bool}
use Rattle.std.proofs.lemmas.List.{append-nil, take_more, length-take-le}
use Rattle.std.proofs.lemmas.List.Elements.{filter_map-append}
use Rattle.flu_lemmas.proofs.Told.{told_weaker}
use Rattle.flu_lemmas.specs.Named.{IsThere, CountApart, TookFronts, IsReadOut}
use Rattle.flu_lemmas.specs.Told.{WhereTold}
use Rattle.flu_model.specs.declared.jobs.Source.{Source}
use Rattle.flu_model.specs.declared.jobs.Program.{Program}
use Rattle.flu_model.specs.Rules.{file_of_source}
use Rattle.flu_outside.specs.Outside.{Contents}
use Rattle.flu_streams.specs.declared.faults.GatherFault.{GatherFault}
use Rattle.flu_streams.specs.declared.faults.GatherFault.TheVariants.{Source as SourceFaulty, ReadFault, NoMemory}
use Rattle.flu_streams.specs.Before.{each_with_before}
use Rattle.flu_streams.specs.Faults.{IsFirstFaultBeside, HidesNothing}
use Rattle.flu_streams.specs.Files.{files_of, LeavesOthers, CountsOfNames, AreReadOut}
use Rattle.flu_streams.specs.Good.{first_fault_beside}
use Rattle.flu_selected.proofs.Faults.{defects_law, before-push}
use Rattle.flu_selected.proofs.Keeping.{not_some}
use Rattle.flu_selected.proofs.Lists.{open_left, closed_left}
use Rattle.flu_selected.specs.Gathering.{reads, IsRead, LeavesUnread, ReadAreOut, CountsOfRead, IsFirstReadFault}
use Rattle.flu_selected.specs.Laws.{closed_file, closed_files, selected, first_read_fault}
use Rattle.flu_selected.specs.Origin.{ClosedStay}
use Rattle.flu_selected.specs.Selecting.{end_line, with_closed, is_among, whole_lines, left_beside, counts_beside}

-- ---- the files that are closed
files_more : (is_read : List Bool) (sources : List Source) (i : ℕ) (x : Source) → i < length sources → x ≡ get_or sources i x
    → filter_map (closed_file (reads is_read)) (each_with_before (take (i + 1) sources))
    ≡ filter_map (closed_file (reads is_read)) (each_with_before (take i sources)) ++ cons_option (if reads is_read i then None else file_of_source x) []
files_more is_read sources i x lt is =
    let cut : take (i + 1) sources ≡ take i sources ++ x ∷ [] = take_more sources i x lt ∙ ap (λ (y : Source). take i sources ++ y ∷ []) (sym is) in
    let size : length (take i sources) ≡ i = length-take-le i sources (omega arith) in
    ap (λ front. filter_map (closed_file (reads is_read)) (each_with_before front)) cut
    ∙ ap (filter_map (closed_file (reads is_read))) (before-push [] (take i sources) x)
    ∙ filter_map-append (closed_file (reads is_read)) (each_with_before (take i sources)) ((take i sources, x) ∷ [])
    ∙ ap (λ (n : ℕ). filter_map (closed_file (reads is_read)) (each_with_before (take i sources))
    ++ cons_option (if reads is_read n then None else file_of_source x) []) size

pub files_skipped : (is_read : List Bool) (sources : List Source) (i : ℕ) (x : Source) → i < length sources → x ≡ get_or sources i x
    → (is_none x.every && not (reads is_read i)) ≡ false
    → filter_map (closed_file (reads is_read)) (each_with_before (take (i + 1) sources))
    ≡ filter_map (closed_file (reads is_read)) (each_with_before (take i sources))
files_skipped is_read sources i x lt is open_file =
    files_more is_read sources i x lt is
    ∙ ap (λ file. filter_map (closed_file (reads is_read)) (each_with_before (take i sources)) ++ cons_option file [])
    (by_tests (reads is_read i) x.every open_file)
    ∙ append-nil (filter_map (closed_file (reads is_read)) (each_with_before (take i sources)))
  where
    by_tests : (b : Bool) (every : Option ℕ) → (is_none every && not b) ≡ false
        → (if b then None else (if is_some every then None else Some x.file)) ≡ None
    by_tests true every none = refl
    by_tests false (Some n) none = refl
    by_tests false None none = cc

pub files_added : (is_read : List Bool) (sources : List Source) (i : ℕ) (x : Source) → i < length sources → x ≡ get_or sources i x
    → (is_none x.every && not (reads is_read i)) ≡ true
    → filter_map (closed_file (reads is_read)) (each_with_before (take (i + 1) sources))
    ≡ filter_map (closed_file (reads is_read)) (each_with_before (take i sources)) ++ x.file ∷ []
files_added is_read sources i x lt is closed =
    files_more is_read sources i x lt is
    ∙ ap (λ file. filter_map (closed_file (reads is_read)) (each_with_before (take i sources)) ++ cons_option file [])
    (by_tests (reads is_read i) x.every closed)
  where
    by_tests : (b : Bool) (every : Option ℕ) → (is_none every && not b) ≡ true
        → (if b then None else (if is_some every then None else Some x.file)) ≡ Some x.file
    by_tests false None there = refl
    by_tests false (Some n) there = cc
    by_tests true None there = cc
    by_tests true (Some n) there = cc

-- a name has the line where it is closed
pub closed_of_lines : (names : List (List ℕ)) (name : List ℕ) → is_some (whole_lines names name) ≡ is_among names name
closed_of_lines names name = by_test (is_among names name)
  where
    by_test : (b : Bool) → is_some {T = List ℕ} (if b then Some end_line else None) ≡ b
    by_test true = refl
    by_test false = refl

-- ---- results
pub on_ok : {T E P Q : Type 0} (r : Result T E) → (P → Q) → OnOk r P → OnOk r Q
on_ok (Ok x) f p = f p
on_ok (Err e) f p = tt

pub if_ok : {T E : Type 0} (P Q : T → Type 0) (r : Result T E) → ((x : T) → P x → Q x) → IfOk r P → IfOk r Q
if_ok P Q (Ok x) f p = f x p
if_ok P Q (Err e) f p = tt

pub if_err : {T E : Type 0} (P Q : E → Type 0) (r : Result T E) → ((e : E) → P e → Q e) → IfErr r P → IfErr r Q
if_err P Q (Ok x) f p = tt
if_err P Q (Err e) f p = f e p

-- ---- what is known of the files behind
told_behind : (P : Contents → Contents → Type 0) (lines now : Contents) (a b : Option Contents) → WhereTold (left_beside a lines) (left_beside b now) P
    → WhereTold a b (λ x y. P (with_closed lines x) (with_closed now y))
told_behind P lines now None None t = tt
told_behind P lines now None (Some y) t = absurd t
told_behind P lines now (Some x) None t = absurd t
told_behind P lines now (Some x) (Some y) t = t

open_now : (now y : Contents) (name : List ℕ) → is_some (now name) ≡ false → with_closed now y name ≡ y name
open_now now y name none = ap (λ (line : Option (List ℕ)). option_or line (y name)) (not_some (now name) none)

pub counts_open : (left : Option Contents) (lines : Contents) (counts : List ℕ → ℕ) (name : List ℕ) → is_some (lines name) ≡ false
    → counts_beside left lines counts name ≡ counts name
counts_open None lines counts name none = refl
counts_open (Some left) lines counts name none = rw none refl

pub hides_along : (p : Program) (a b c d : Option Contents) (e f g h : List ℕ → ℕ) → a ≡ b → c ≡ d → e ≡ f → g ≡ h → HidesNothing p a c e g
    → HidesNothing p b d f h
hides_along p a b c d e f g h ab cd ef gh hides =
    subst (λ (x : Option Contents). HidesNothing p x d f h) ab
    (subst (λ (x : Option Contents). HidesNothing p a x f h) cd
    (subst (λ (x : List ℕ → ℕ). HidesNothing p a c x h) ef
    (subst (λ (x : List ℕ → ℕ). HidesNothing p a c e x) gh hides)))

closed_pairs : (is_closed : List ℕ → Bool) (x y : Contents) → ClosedStay is_closed (Some x) (Some y) → (name : List ℕ) → is_closed name ≡ true → y name ≡ x name
closed_pairs is_closed x y stay name closed = let both = stay name closed in cc

-- what the names have at the start and at the end, of which those among `names` are closed
module _ (p : Program) (is_read : ℕ → Bool) (start a final b : Option Contents) (now : Contents)
    (start_is : start ≡ left_beside a (whole_lines (closed_files p is_read))) (final_is : final ≡ left_beside b now)
    (closed_now : (n : List ℕ) → is_some (now n) ≡ is_among (closed_files p is_read) n)
    (stay : ClosedStay (is_among (closed_files p is_read)) a b) where
  told : (P : Contents → Contents → Type 0) → WhereTold start final P
      → WhereTold a b (λ x y. P (selected p is_read x) (with_closed now y))
  told P t =
      told_behind P (whole_lines (closed_files p is_read)) now a b
      (subst (λ (f : Option Contents). WhereTold (left_beside a (whole_lines (closed_files p is_read))) f P) final_is
      (subst (λ (s : Option Contents). WhereTold s final P) start_is t))

  pub good_read : (beside : List ℕ) → WhereTold start final (λ old new. first_fault_beside p beside old ≡ None)
      → WhereTold a b (λ old new. first_read_fault p beside is_read old ≡ None)
  good_read beside t =
      told_weaker (λ x y. first_fault_beside p beside (selected p is_read x) ≡ None) (λ x y. first_read_fault p beside is_read x ≡ None) a b
      (λ x y good. sym (defects_law p beside is_read x) ∙ good) (told (λ old new. first_fault_beside p beside old ≡ None) t)

  pub of_read : (P : Contents → Type 0) → WhereTold start final (λ old new. P old) → WhereTold a b (λ old new. P (selected p is_read old))
  of_read P t = told (λ old new. P old) t

  pub fault_read : (beside : List ℕ) (e : GatherFault) → IsFirstFaultBeside p beside start final e → IsFirstReadFault p beside is_read a b e
  fault_read beside (SourceFaulty f) t = (
    t.0,
    told_weaker (λ x y. first_fault_beside p beside (selected p is_read x) ≡ Some f) (λ x y. first_read_fault p beside is_read x ≡ Some f) a b
        (λ x y is. sym (defects_law p beside is_read x) ∙ is) (told (λ old new. first_fault_beside p beside old ≡ Some f) t.1),
  )
  fault_read beside ReadFault t = tt
  fault_read beside NoMemory t = tt

  read_out_by : (b' : Option Contents) → final ≡ left_beside b' now → AreReadOut (files_of p.sources) final → ReadAreOut p is_read b'
  read_out_by None is out name read = tt
  read_out_by (Some y) is out name read =
      let at_end : IsReadOut name (left_beside (Some y) now) = subst (IsReadOut name) is (out name read.0) in
      sym (open_now now y name (closed_now name ∙ read.1)) ∙ at_end

  pub out_read : AreReadOut (files_of p.sources) final → ReadAreOut p is_read b
  out_read out = read_out_by b final_is out

  fronts_here : (x y : Contents) → ClosedStay (is_among (closed_files p is_read)) (Some x) (Some y) → TookFronts (selected p is_read x) (with_closed now y)
      → TookFronts x y
  fronts_here x y same took name rest is =
      elim (cases_Bool (is_among (closed_files p is_read) name)) as (λ c. (front : List ℕ) × (x name ≡ Some (front ++ rest))) [
        | inl closed ↦ ([], sym (closed_pairs (is_among (closed_files p is_read)) x y same name closed) ∙ is)
        | inr unclosed ↦
            let got = took name rest (open_now now y name (closed_now name ∙ unclosed) ∙ is) in
            (got.0, sym (open_left (closed_files p is_read) x name unclosed) ∙ got.1)
      ]

  others_here : (x y : Contents) → ClosedStay (is_among (closed_files p is_read)) (Some x) (Some y)
      → LeavesOthers (files_of p.sources) (selected p is_read x) (with_closed now y) → LeavesUnread p is_read x y
  others_here x y same leaves other unread =
      elim (cases_Bool (is_among (closed_files p is_read) other)) as (λ c. y other ≡ x other) [
        | inl closed ↦ closed_pairs (is_among (closed_files p is_read)) x y same other closed
        | inr unclosed ↦
            sym (open_now now y other (closed_now other ∙ unclosed)) ∙ leaves other (λ there. unread (there, unclosed))
            ∙ open_left (closed_files p is_read) x other unclosed
      ]

  -- what follows of two contents from what is said where names are closed
  told_by : (P Q : Contents → Contents → Type 0) (a' b' : Option Contents) → ClosedStay (is_among (closed_files p is_read)) a' b'
      → ((x y : Contents) → ClosedStay (is_among (closed_files p is_read)) (Some x) (Some y) → P (selected p is_read x) (with_closed now y) → Q x y)
      → WhereTold a' b' (λ x y. P (selected p is_read x) (with_closed now y)) → WhereTold a' b' Q
  told_by P Q None None same from t = tt
  told_by P Q None (Some y) same from t = absurd t
  told_by P Q (Some x) None same from t = absurd t
  told_by P Q (Some x) (Some y) same from t = from x y same t

  pub fronts_read : WhereTold start final TookFronts → WhereTold a b TookFronts
  fronts_read t = told_by TookFronts TookFronts a b stay fronts_here (told TookFronts t)

  pub others_read : WhereTold start final (LeavesOthers (files_of p.sources)) → WhereTold a b (LeavesUnread p is_read)
  others_read t =
      told_by (LeavesOthers (files_of p.sources)) (LeavesUnread p is_read) a b stay others_here (told (LeavesOthers (files_of p.sources)) t)

  there_at_start : (x : Contents) (name : List ℕ) → IsSome (x name) → IsSome (selected p is_read x name)
  there_at_start x name there =
      elim (cases_Bool (is_among (closed_files p is_read) name)) as (λ c. IsSome (selected p is_read x name)) [
        | inl closed ↦ ap is_some (closed_left (closed_files p is_read) x name closed)
        | inr unclosed ↦ ap is_some (open_left (closed_files p is_read) x name unclosed) ∙ there
      ]

  apart_at_start : (x : Contents) (n name : List ℕ) → is_among (closed_files p is_read) n ≡ false → Contains (files_of p.sources) name
      → ((read : List ℕ) → IsRead p is_read read → CountApart (Some x) read n) → CountApart (Some (selected p is_read x)) name n
  apart_at_start x n name unclosed there apart =
      elim (cases_Bool (is_among (closed_files p is_read) name)) as (λ c. CountApart (Some (selected p is_read x)) name n) [
        | inl closed ↦ (
          (λ same. let is : is_among (closed_files p is_read) n ≡ true = sym (ap (is_among (closed_files p is_read)) same) ∙ closed in cc),
          inl (ap is_some (closed_left (closed_files p is_read) x name closed)),
        )
        | inr open_name ↦
            let given = apart name (there, open_name) in
            (given.0, elim given.1 [ inl at_name ↦ inl (there_at_start x name at_name) | inr at_n ↦ inr (there_at_start x n at_n) ])
      ]

  apart_by : (a' : Option Contents) → start ≡ left_beside a' (whole_lines (closed_files p is_read)) → (f g : List ℕ → ℕ)
      → CountsOfNames start (files_of p.sources) f g → IsSome a' → (n : List ℕ)
      → is_among (closed_files p is_read) n ≡ false → ((name : List ℕ) → IsRead p is_read name → CountApart a' name n) → g n ≡ f n
  apart_by None is f g counts known n unclosed apart = absurd cc
  apart_by (Some x) is f g counts known n unclosed apart =
      counts.apart n (λ name there. subst (λ (s : Option Contents). CountApart s name n) (sym is) (apart_at_start x n name unclosed there apart))

  -- the counts, of which those of names that are not closed are those of the files behind
  pub counts_read : (f g old new : List ℕ → ℕ) → CountsOfNames start (files_of p.sources) f g
      → ((n : List ℕ) → is_among (closed_files p is_read) n ≡ false → f n ≡ old n) → ((n : List ℕ) → is_among (closed_files p is_read) n ≡ false → g n ≡ new n)
      → ((n : List ℕ) → old n ≤ new n) → ((n : List ℕ) → is_among (closed_files p is_read) n ≡ true → IsThere a n → new n ≡ old n)
      → CountsOfRead p is_read a old new
  counts_read f g old new counts f_is g_is rise closed = record {
    rise = rise;
    apart = λ known n unclosed apart. sym (g_is n unclosed) ∙ apart_by a start_is f g counts known n unclosed apart ∙ f_is n unclosed;
    closed = closed;
  }
