-- What a part command does behind its job and its plan.
use Rattle.std.proofs.Common.{◌≡◌, refl, sym, subst, ℕ, ◌<◌, List, [], Option, Some, length, get_or, map, string_bytes, String, inl, inr}
use Rattle.std.specs.Prelude.{slice_index_or}
use Rattle.std.specs.Global.{Global}
use Rattle.std.proofs.lemmas.List.{length-map}
use Rattle.flu_outside.specs.Outside.{Contents, WhereTold}
use Rattle.flu_outside.specs.Taking.{TookFronts}
use Rattle.flu_lemmas.proofs.Told.{told_same, told_weaker}
use Rattle.flu_model.specs.declared.jobs.Program.{Program}
use Rattle.flu_model.specs.declared.plans.Node.{Node}
use Rattle.flu_streams.specs.declared.faults.SourceFault.{SourceFault}
use Rattle.flu_selected.specs.Gathering.{LeavesUnread}
use Rattle.flu_selected.specs.Laws.{first_read_fault}
use Rattle.flu_readers.specs.Reading.{reads}
use Rattle.flu_node_run.specs.Partials.{IsPartialOf}
use Rattle.flu_combine.specs.Combined.{IsCombined, LeavesUnread as LeavesBeside}
use Rattle.flu_combine.specs.Faults.{IsFaultOfPartial, IsFaultOfSource}
use Rattle.flu_combine.specs.declared.fault.PartialDefect.{PartialDefect}
use Rattle.flu_lines.specs.declared.parts.FileDefect.TheVariants.{SameName, Partial as PartialDefective}
use Rattle.flu_words.specs.Parts.{PartCommand, Partial, Combine}
use Rattle.flu_parts.specs.Planned.{IsNodeApart}
use Rattle.flu_parts.specs.Written.{AreNoSources, IsTextOf}
use Rattle.flu_parts.specs.Causes.{IsSameName, IsFileDefect, IsSourceDefect}
use Rattle.flu_parts.specs.Ending.{IsFileStop, LeavesBehind}
use Rattle.flu_parts.proofs.Names.{bytes_at}

-- where nothing is read
pub same_fronts : (a : Option Contents) → WhereTold a a TookFronts
same_fronts a = told_same TookFronts a (λ x name rest is. ([], is))

pub same_left : (command : PartCommand) (p : Program) (nodes : List Node) (a : Option Contents) → WhereTold a a (LeavesBehind command p nodes)
same_left command p nodes a = told_same (LeavesBehind command p nodes) a (λ x other unread. refl)

-- ---- `partial`
module _ (p : Program) (nodes : List Node) (job plan node : List ℕ) (w : ℕ) (apart : IsNodeApart p nodes node w) (a b : Option Contents) where
  pub left_of_node : WhereTold a b (LeavesUnread p (reads p nodes w)) → WhereTold a b (LeavesBehind (Partial job plan node) p nodes)
  left_of_node leaves =
      told_weaker (LeavesUnread p (reads p nodes w)) (LeavesBehind (Partial job plan node) p nodes) a b
      (λ x y h other unread. h other (λ read. unread (w, apart, read))) leaves

  pub text_of_node : (text : List ℕ) → WhereTold a b (IsPartialOf p nodes w text) → WhereTold a b (IsTextOf (Partial job plan node) p nodes text)
  text_of_node text is =
      told_weaker (IsPartialOf p nodes w text) (IsTextOf (Partial job plan node) p nodes text) a b (λ x y h. (w, apart, h)) is

  pub fault_of_node : (fault : SourceFault) → WhereTold a b (λ was now. first_read_fault p [] (reads p nodes w) was ≡ Some fault)
      → WhereTold a b (λ left now. IsSourceDefect (Partial job plan node) p nodes left fault)
  fault_of_node fault is =
      told_weaker (λ was now. first_read_fault p [] (reads p nodes w) was ≡ Some fault)
      (λ left now. IsSourceDefect (Partial job plan node) p nodes left fault) a b (λ x y h. (w, apart, h)) is

-- ---- `combine`
module _ (p : Program) (nodes : List Node) (job plan : List ℕ) (names : List (List ℕ)) (none : AreNoSources names p) (a b : Option Contents) where
  pub left_of_parts : WhereTold a b (LeavesBeside p nodes names) → WhereTold a b (LeavesBehind (Combine job plan names) p nodes)
  left_of_parts leaves =
      told_weaker (LeavesBeside p nodes names) (LeavesBehind (Combine job plan names) p nodes) a b
      (λ x y h other unread. h other (λ named. unread (none, inl named)) (λ read. unread (none, inr read))) leaves

  pub text_of_parts : (text : List ℕ) → WhereTold a b (IsCombined p nodes names text) → WhereTold a b (IsTextOf (Combine job plan names) p nodes text)
  text_of_parts text is =
      told_weaker (IsCombined p nodes names text) (IsTextOf (Combine job plan names) p nodes text) a b (λ x y h. (none, h)) is

  pub fault_of_parts : (fault : SourceFault) → WhereTold a b (λ was then. IsFaultOfSource p nodes names was fault)
      → WhereTold a b (λ left now. IsSourceDefect (Combine job plan names) p nodes left fault)
  fault_of_parts fault is =
      told_weaker (λ was then. IsFaultOfSource p nodes names was fault)
      (λ left now. IsSourceDefect (Combine job plan names) p nodes left fault) a b (λ x y h. (none, h)) is

  pub defect_of_part : (place : ℕ) (name : List ℕ) (defect : PartialDefect) → place < length names → slice_index_or names place [] ≡ name
      → WhereTold a b (λ was then. IsFaultOfPartial p nodes names was place defect)
      → IsFileStop (Combine job plan names) p nodes name (PartialDefective defect) a b
  defect_of_part place name defect lt at is = (
    place,
    lt,
    at,
    told_weaker (λ was then. IsFaultOfPartial p nodes names was place defect)
        (λ was then. IsFileDefect p nodes names was place (PartialDefective defect)) a b (λ x y h. (none, h)) is,
  )

-- the file of a source is named as a partial
pub same_stop : (p : Program) (nodes : List Node) (job plan : List ℕ) (names : List (String Global)) (place number : ℕ) (name : String Global)
    (a : Option Contents) → place < length names → name ≡ get_or names place name → IsSameName p (map string_bytes names) place number
    → IsFileStop (Combine job plan (map string_bytes names)) p nodes (string_bytes name) (SameName number) a a
same_stop p nodes job plan names place number name a lt at same = (
  place,
  subst (λ (n : ℕ). place < n) (sym (length-map names string_bytes)) lt,
  bytes_at names place name lt at,
  told_same (λ was is. IsFileDefect p nodes (map string_bytes names) was place (SameName number)) a (λ x. same),
)
