-- The checkpoint of a file's bytes, of which more than a checkpoint may have need not be read.
use Rattle.std.proofs.Common.{◌≡◌, ◌≢◌, refl, sym, ap, ◌∙◌, subst, ℕ, ◌+◌, ◌<◌, ◌≤◌, ◌^◌, List, [], ◌∷◌, ◌++◌, length, Bool, true, false, Option, Some, None}
use Rattle.std.proofs.Common.{cond, inl, inr, ◌⊎◌, arith, append-nil, length-append}
use Rattle.std.specs.Prelude.{Contains, IfSome, option_map, slice_get, is_none, is_some, ◌&&◌}
use Rattle.std.specs.List.{position}
use Rattle.std.specs.Str.{bytes_eq}
use Rattle.std.proofs.lemmas.Bool.{cases_Bool, false≢true}
use Rattle.std.proofs.lemmas.Slice.Eq.{bytes_eq-Decides}
use Rattle.flu_lemmas.proofs.Containing.{contains_cases, contains_none}
use Rattle.flu_lemmas.proofs.Places.{position-cons, position_passes}
use Rattle.flu_lemmas.proofs.Told.{told_both, told_weaker}
use Rattle.flu_outside.specs.Outside.{WhereTold, Contents}
use Rattle.flu_outside.specs.Taking.{TakesFrom, TookWhole, bytes_left}
use Rattle.flu_model.specs.declared.jobs.Program.{Program}
use Rattle.flu_model.specs.Contents.{Contents as Cells, nothing_held}
use Rattle.flu_model.specs.Sorts.{IsStateOf}
use Rattle.flu_model.specs.declared.jobs.Source.{Source}
use Rattle.flu_model.specs.Rules.{is_clock}
use Rattle.flu_streams.specs.Files.{files_of, LeavesOthers}
use Rattle.flu_words.specs.Words.{RunOptions, Run}
use Rattle.flu_command.specs.Starting.{IsFileOf, IsNoSource, IsSameName, Resumes}
use Rattle.flu_save.specs.declared.fault.SaveFault.{SaveFault}
use Rattle.flu_save.specs.declared.fault.SaveFault.TheVariants as f
use Rattle.flu_save.specs.Forms.{IsFaultOf, IsSave, IsShort, most_bytes}
use Rattle.flu_lines.specs.Answer.{refusal_of_save}
use Rattle.flu_top.specs.Running.{IsOpened, IsOpening, IsOpeningRefusal}
use Rattle.flu_top.proofs.SourceFiles.{no_file_of, own_file}
use Rattle.flu_top.proofs.Sequence.{one_text}

-- where they are few, the bytes that were read are all
all_bytes : (name bytes : List ℕ) (x y : Contents) → TookWhole name most_bytes bytes x y → IsShort bytes → bytes_left x name ≡ bytes
all_bytes name bytes x y whole short =
    let none : bytes_left y name ≡ [] = rw (whole.end short) refl in
    whole.front ∙ ap (λ (rest : List ℕ). bytes ++ rest) none ∙ append-nil bytes

-- the bytes that were read have the fault of all
fault_of_whole : (p : Program) (name bytes : List ℕ) (fault : SaveFault) (x y : Contents) → TookWhole name most_bytes bytes x y → IsFaultOf p bytes fault
    → IsFaultOf p (bytes_left x name) fault
fault_of_whole p name bytes (f.OverLimit count) x y whole is =
    let long : length bytes ≤ length (bytes_left x name) = rw (whole.front, length-append) (omega arith) in
    (omega (arith, is.0, long), is.1)
fault_of_whole p name bytes f.NotJson x y whole is = subst (λ (all : List ℕ). IsFaultOf p all f.NotJson) (sym (all_bytes name bytes x y whole is.0)) is
fault_of_whole p name bytes f.WrongForm x y whole is = subst (λ (all : List ℕ). IsFaultOf p all f.WrongForm) (sym (all_bytes name bytes x y whole is.0)) is
fault_of_whole p name bytes f.OtherJob x y whole is = subst (λ (all : List ℕ). IsFaultOf p all f.OtherJob) (sym (all_bytes name bytes x y whole is.0)) is
fault_of_whole p name bytes f.NoMemory x y whole is = tt

has_fault : (p : Program) (name bytes : List ℕ) (fault : SaveFault) (a b : Option Contents) → fault ≢ f.NoMemory
    → WhereTold a b (TookWhole name most_bytes bytes) → IsFaultOf p bytes fault
    → (name' : List ℕ) × (Some name ≡ Some name') × (fault ≢ f.NoMemory) × WhereTold a b (λ left _. IsFaultOf p (bytes_left left name') fault)
has_fault p name bytes fault a b other whole is = (
  name,
  refl,
  other,
  told_weaker (TookWhole name most_bytes bytes) (λ left _. IsFaultOf p (bytes_left left name) fault) a b
      (λ x y w. fault_of_whole p name bytes fault x y w is) whole,
)

pub checkpoint_is_refused : (p : Program) (name bytes : List ℕ) (fault : SaveFault) (a b : Option Contents) (before now : List ℕ → ℕ)
    → WhereTold a b (TookWhole name most_bytes bytes) → IsFaultOf p bytes fault
    → IsOpeningRefusal (Some name) p a b before now (refusal_of_save fault)
checkpoint_is_refused p name bytes (f.OverLimit count) a b before now whole is = has_fault p name bytes (f.OverLimit count) a b (λ e. cc) whole is
checkpoint_is_refused p name bytes f.NotJson a b before now whole is = has_fault p name bytes f.NotJson a b (λ e. cc) whole is
checkpoint_is_refused p name bytes f.WrongForm a b before now whole is = has_fault p name bytes f.WrongForm a b (λ e. cc) whole is
checkpoint_is_refused p name bytes f.OtherJob a b before now whole is = has_fault p name bytes f.OtherJob a b (λ e. cc) whole is
checkpoint_is_refused p name bytes f.NoMemory a b before now whole is = tt

-- an opening that a run can have
pub opening_saved : (p : Program) (t : ℕ) (s : Cells) (rows : ℕ) (bytes : List ℕ) → IsSave p t s bytes → 1 ≤ rows → rows ≤ 4096
    → IsOpening p (record { border = Some t; cells = s; rows = rows })
opening_saved p t s rows bytes is some few = record {
  in_range = λ time same. let e : t ≡ time = cc in subst (λ (n : ℕ). n < 2 ^ 63) e is.checkpoint.border;
  sorts = is.checkpoint.state.sorts;
  empty = λ e. absurd (cc);
  some = some;
  few = few;
}

pub opening_fresh : (p : Program) (s : Cells) (rows : ℕ) → s ≡ nothing_held → 1 ≤ rows → rows ≤ 4096
    → IsOpening p (record { border = None; cells = s; rows = rows })
opening_fresh p s rows empty some few = record {
  in_range = λ time same. absurd (cc);
  sorts = subst (λ (cells : Cells). IsStateOf p.families cells) (sym empty) (λ d. tt);
  empty = λ e. empty;
  some = some;
  few = few;
}

pub opened_saved : (p : Program) (name bytes : List ℕ) (t : ℕ) (s : Cells) (rows : ℕ) (a b : Option Contents)
    → WhereTold a b (TookWhole name most_bytes bytes) → WhereTold a b (TakesFrom name) → IsSave p t s bytes → 1 ≤ rows
    → WhereTold a b (IsOpened rows (Some name) p (record { border = Some t; cells = s; rows = rows }))
opened_saved p name bytes t s rows a b whole taken is some =
    told_weaker (λ x y. TookWhole name most_bytes bytes x y × TakesFrom name x y)
    (IsOpened rows (Some name) p (record { border = Some t; cells = s; rows = rows })) a b
    (λ x y both. record {
      opens = (
        record {
          time = t;
          above = refl;
          save = subst (λ (all : List ℕ). IsSave p t s all) (sym (all_bytes name bytes x y both.0 is.short)) is;
          some = some;
        },
        refl,
      );
      texts = one_text name x y (both.0.end is.short) both.1;
    })
    (told_both (TookWhole name most_bytes bytes) (TakesFrom name) a b whole taken)

pub others_of_one : (name : List ℕ) (a b : Option Contents) → WhereTold a b (TakesFrom name) → WhereTold a b (LeavesOthers (name ∷ []))
others_of_one name a b taken = told_weaker (TakesFrom name) (LeavesOthers (name ∷ [])) a b
    (λ x y took other missing. took.others other (λ same. missing (0, omega arith, sym same))) taken

-- ---- names that are sources' files
-- whether a source has a file of this name
abbrev pub has_file : List ℕ → Source → Bool
has_file name s = is_none s.every && bytes_eq s.file name

is_of_both : (every : Option ℕ) (same : Bool) → (is_none every && same) ≡ true → (is_some every ≡ false) × (same ≡ true)
is_of_both None same e = (refl, e)
is_of_both (Some k) same e = absurd (false≢true e)

both_are : (every : Option ℕ) (same : Bool) → is_some every ≡ false → same ≡ true → (is_none every && same) ≡ true
both_are None same has is = is
both_are (Some k) same has is = absurd cc

-- the place that is found is that of a source with the file
pub found_file : (xs : List Source) (name : List ℕ) (i : ℕ) → position (has_file name) xs ≡ Some i
    → (s : Source) × (slice_get xs i ≡ Some s) × (is_clock s ≡ false) × (name ≡ s.file)
found_file xs name i is =
    let found = position_passes (has_file name) xs i is in
    let both = is_of_both found.0.every (bytes_eq found.0.file name) found.2 in
    (found.0, found.1, both.0, sym ((bytes_eq-Decides found.0.file name).0 both.1))

-- a file of some sources is that of the first one, or of a later one
first_or_later : (x : Source) (xs : List Source) (name : List ℕ) → Contains (files_of (x ∷ xs)) name
    → ((is_clock x ≡ false) × (x.file ≡ name)) ⊎ Contains (files_of xs) name
first_or_later x xs name found = elim (cases_Bool (is_clock x)) [
  | inl clock ↦ inr (subst (λ (names : List (List ℕ)). Contains names name) (no_file_of x xs clock) found)
  | inr has ↦ elim (contains_cases x.file name (files_of xs) (subst (λ (names : List (List ℕ)). Contains names name) (own_file x xs has) found)) [
    | inl same ↦ inl (has, same)
    | inr among ↦ inr among
  ]
]

-- and where none is found, none has it
pub no_file : (xs : List Source) (name : List ℕ) → position (has_file name) xs ≡ None → ¬ Contains (files_of xs) name
no_file [] name none found = contains_none name found
no_file (x ∷ xs) name none found = by_test (has_file name x) refl (first_or_later x xs name found) (no_file xs name)
  where
    not_both : (i : ℕ) → Some i ≡ None → ⊥
    not_both i e = cc

    rest_none : (o : Option ℕ) → option_map (λ (i : ℕ). i + 1) o ≡ None → o ≡ None
    rest_none None e = refl
    rest_none (Some i) e = absurd (cc)

    by_test : (b : Bool) → has_file name x ≡ b → ((is_clock x ≡ false) × (x.file ≡ name)) ⊎ Contains (files_of xs) name
        → (position (has_file name) xs ≡ None → ¬ Contains (files_of xs) name) → ⊥
    by_test true here either later = not_both 0
        (sym (ap (λ (b : Bool). cond b (Some 0) (option_map (λ (i : ℕ). i + 1) (position (has_file name) xs))) here)
        ∙ sym (position-cons (has_file name) x xs) ∙ none)
    by_test false other (inl same) later =
        false≢true (sym other ∙ both_are x.every (bytes_eq x.file name) same.0 ((bytes_eq-Decides x.file name).1 same.1))
    by_test false other (inr among) later =
        later (rest_none (position (has_file name) xs)
        (sym (ap (λ (b : Bool). cond b (Some 0) (option_map (λ (i : ℕ). i + 1) (position (has_file name) xs))) other)
        ∙ sym (position-cons (has_file name) x xs) ∙ none)) among

-- the source of the name that a run is resumed from, where it saves to that of none
pub resumed_name : (r : Option ℕ) (p : Program) (options : RunOptions) → IsNoSource options.save p → IfSome r (IsFileOf options.resume p)
    → IfSome r (λ (number : ℕ). (job : List ℕ) (plan : Option (List ℕ)) → IsSameName (Run job plan options) p number)
resumed_name None p options apart found = tt
resumed_name (Some number) p options apart found = λ job plan. Resumes apart found

-- where no number is given, there is none
pub no_number : (r : Option ℕ) → ((number : ℕ) → r ≡ Some number → ⊥) → r ≡ None
no_number None other = refl
no_number (Some number) other = absurd (other number refl)
