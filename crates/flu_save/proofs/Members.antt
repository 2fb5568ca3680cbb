-- The members of the value of a checkpoint, found and put together.
use Rattle.std.proofs.Common.{◌≡◌, ℕ, inr, Bool, true, false, List, [], ◌∷◌, Option, Some, None, refl, sym, ap, subst, ◌∙◌}
use Rattle.std.specs.Prelude.{map, not, nat_eq, option_and_then, Result, IfErr, MatchResult}
use Rattle.std.specs.Option.{ok_or}
use Rattle.std.specs.Cmp.Lexicographic.{pointwise, bytes_decides}
use Rattle.serde_json.specs.Data.{Data, null, boolean, number, string, array, object, unsigned, negative, float, Items, no_items, item}
use Rattle.serde_json.specs.Find.{as_array, as_number, as_str, as_u64}
use Rattle.serde_json.specs.View.{items_of, items_view, view}
use Rattle.serde_json.specs.declared.value.Value.{Value}
use Rattle.serde_json.proofs.OnLiterals.{serde_json_on_literals}
use Rattle.flu_model.specs.declared.jobs.Program.{Program}
use Rattle.flu_model.specs.Contents.{Contents}
use Rattle.flu_model.specs.Erasure.{job_of}
use Rattle.flu_parse.specs.Printing.{normal_form}
use Rattle.flu_save.specs.Checkpoint.{entries_of, IsCheckpoint}
use Rattle.flu_cells.specs.Holding.{held}
use Rattle.flu_save.specs.Forms.{HasParts, HasForm, IsOfJob, IsJsonOf, IsShort, IsSave, IsFaultOf}
use Rattle.flu_save.specs.Parts.{IsSavedWith}
use Rattle.flu_save.specs.declared.fault.SaveFault.{SaveFault}
use Rattle.flu_save.specs.declared.fault.SaveFault.TheVariants.{WrongForm, NoMemory}
use Rattle.flu_save.specs.declared.reading.Saved.{Saved}

-- ---- what was found says what there is
pub number_there : (o : Option Data) (n : ℕ) → Some n ≡ option_and_then as_u64 (option_and_then as_number o) → o ≡ Some (number (unsigned n))
number_there None n e = absurd cc
number_there (Some null) n e = absurd cc
number_there (Some (boolean b)) n e = absurd cc
number_there (Some (number (unsigned m))) n e = let same : n ≡ m = cc in ap (λ k. Some (number (unsigned k))) (sym same)
number_there (Some (number (negative z))) n e = absurd cc
number_there (Some (number (float x))) n e = absurd cc
number_there (Some (string s)) n e = absurd cc
number_there (Some (array ds)) n e = absurd cc
number_there (Some (object ms)) n e = absurd cc

pub array_there : (o : Option Data) (ds : Items) → Some ds ≡ option_and_then as_array o → o ≡ Some (array ds)
array_there None ds e = absurd cc
array_there (Some null) ds e = absurd cc
array_there (Some (boolean b)) ds e = absurd cc
array_there (Some (number n)) ds e = absurd cc
array_there (Some (string s)) ds e = absurd cc
array_there (Some (array es)) ds e = let same : ds ≡ es = cc in ap (λ x. Some (array x)) (sym same)
array_there (Some (object ms)) ds e = absurd cc

pub text_there : (o : Option Data) (s : List ℕ) → Some s ≡ option_and_then as_str o → o ≡ Some (string s)
text_there None s e = absurd cc
text_there (Some null) s e = absurd cc
text_there (Some (boolean b)) s e = absurd cc
text_there (Some (number n)) s e = absurd cc
text_there (Some (string t)) s e = let same : s ≡ t = cc in ap (λ x. Some (string x)) (sym same)
text_there (Some (array es)) s e = absurd cc
text_there (Some (object ms)) s e = absurd cc

-- ---- the members of a checkpoint
pub checkpoint_parts : (p : Program) (t : ℕ) (s : Contents) (d : Data) → IsCheckpoint p t s d
    → HasParts d t (items_of (entries_of p.families s)) (normal_form (job_of p))
unfolding serde_json_on_literals
checkpoint_parts p t s d is =
    subst (λ x. HasParts x t (items_of (entries_of p.families s)) (normal_form (job_of p))) (sym is.value)
    (record { three = refl; border = refl; cells = refl; text = refl; in_range = is.border })

-- the parts of a value are its only ones
pub same_border : (d : Data) (t u : ℕ) (es fs : Items) (a b : List ℕ) → HasParts d t es a → HasParts d u fs b → t ≡ u
same_border d t u es fs a b x y = let e : Some (number (unsigned t)) ≡ Some (number (unsigned u)) = sym x.border ∙ y.border in cc

pub same_job : (d : Data) (t u : ℕ) (es fs : Items) (a b : List ℕ) → HasParts d t es a → HasParts d u fs b → a ≡ b
same_job d t u es fs a b x y = let e : Some (string a) ≡ Some (string b) = sym x.text ∙ y.text in cc

pub same_items : (d : Data) (t u : ℕ) (es fs : Items) (a b : List ℕ) → HasParts d t es a → HasParts d u fs b → es ≡ fs
same_items d t u es fs a b x y = let e : Some (array es) ≡ Some (array fs) = sym x.cells ∙ y.cells in cc

-- items of two lists are the same where the lists are
pub same_lists : (ds es : List Data) → items_of ds ≡ items_of es → ds ≡ es
same_lists ds es e = sym (listed ds) ∙ ap list_of e ∙ listed es
  where
    list_of : Items → List Data
    list_of no_items = []
    list_of (item d more) = d ∷ list_of more

    listed : (xs : List Data) → list_of (items_of xs) ≡ xs
    listed [] = refl
    listed (x ∷ xs) = ap (λ ys. x ∷ ys) (listed xs)

-- a text has one value
pub same_value : (bytes : List ℕ) (d e : Data) → IsJsonOf bytes d → IsJsonOf bytes e → d ≡ e
same_value bytes d e a b = let both : Some d ≡ Some e = sym a.1 ∙ b.1 in cc

-- ---- a checkpoint in a value and in bytes
pub checkpoint_form : (p : Program) (t : ℕ) (s : Contents) (d : Data) → IsCheckpoint p t s d → HasForm d
checkpoint_form p t s d is = (normal_form (job_of p), record { border = t; entries = items_of (entries_of p.families s); parts = checkpoint_parts p t s d is })

pub same_entries : (p : Program) (t u : ℕ) (s : Contents) (d : Data) (entries : List Value) (job : List ℕ) → HasParts d u (items_view entries) job
    → IsCheckpoint p t s d
    → map view entries ≡ entries_of p.families s
same_entries p t u s d entries job parts is =
    same_lists (map view entries) (entries_of p.families s) (same_items d u t (items_view entries) (items_of (entries_of p.families s)) job (normal_form
    (job_of p)) parts (checkpoint_parts p t s d is))

pub save_value : (p : Program) (t : ℕ) (s : Contents) (bytes : List ℕ) (d : Data) → IsSave p t s bytes → IsJsonOf bytes d → IsCheckpoint p t s d
save_value p t s bytes d is json = subst (IsCheckpoint p t s) (same_value bytes is.value d is.json json) is.checkpoint

pub same_texts : (a b : List ℕ) (r : Bool) → r ≡ not (pointwise nat_eq a b) → r ≡ false → a ≡ b
same_texts a b r is e = (bytes_decides a b).0 (turned (pointwise nat_eq a b) (sym is ∙ e))
  where
    turned : (t : Bool) → not t ≡ false → t ≡ true
    turned true h = refl
    turned false h = absurd cc

-- what is answered for what was found in the value
pub fault_of_none : (p : Program) (bytes : List ℕ) (d : Data) → IsShort bytes → IsJsonOf bytes d → IsOfJob d (normal_form (job_of p)) → (o : Option Saved)
    → ((t : ℕ) (s : Contents) → IsCheckpoint p t s d → IsSavedWith o t s) → (r : Result Saved SaveFault) → r ≡ ok_or o WrongForm → IfErr r (IsFaultOf p bytes)
fault_of_none p bytes d short json job None found r is = subst (λ (x : Result Saved SaveFault). IfErr x (IsFaultOf p bytes)) (sym is) (
  short,
  (
    d,
    json,
    inr
        (record { job = job; none = found }),
  ),
)
fault_of_none p bytes d short json job (Some x) found r is = subst (λ (x : Result Saved SaveFault). IfErr x (IsFaultOf p bytes)) (sym is) tt

pub answer_of : (t : ℕ) (s : Contents) (o : Option Saved) → IsSavedWith o t s → (r : Result Saved SaveFault) → r ≡ ok_or o WrongForm
    → MatchResult r (λ (x : Saved). (x.border ≡ t) × (held x.state ≡ s)) (λ e. e ≡ NoMemory)
answer_of t s None found r is = absurd found
answer_of t s (Some x) found r is = subst (λ (u : Result Saved SaveFault). MatchResult u (λ (x : Saved). (x.border ≡ t) × (held x.state ≡ s))
    (λ e. e ≡ NoMemory)) (sym is) found
