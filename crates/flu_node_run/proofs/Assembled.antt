-- The head of a partial, and its text, from their parts.
use Rattle.std.proofs.Common.{◌≡◌, ◌<◌, ◌∙◌, refl, sym, ap, ℕ, List, [], length, get_or, Option, Some, None}
use Rattle.std.proofs.lemmas.Option.{slice_get_read}
use Rattle.flu_model.specs.declared.events.Item.{Item}
use Rattle.flu_model.specs.declared.jobs.Program.{Program}
use Rattle.flu_model.specs.declared.plans.Node.{Node}
use Rattle.flu_model.specs.declared.streams.Streams.{Streams}
use Rattle.flu_model.specs.Listed.{listed}
use Rattle.flu_model.specs.Erasure.{job_of}
use Rattle.flu_outside.specs.Outside.{Contents, WhereTold}
use Rattle.flu_parse.specs.Printing.{normal_form}
use Rattle.flu_plan.specs.Printing.{printed, name_of_child}
use Rattle.flu_selected.specs.Gathering.{ReadAreGood, AreReadLists, ReadAreOut}
use Rattle.flu_sending.specs.Lines.{first_time}
use Rattle.flu_readers.specs.Reading.{reads}
use Rattle.flu_node_run.specs.Partials.{name_of_node, head_of, text_of_partial, IsPartialOf}

pub is_named : (nodes : List Node) (w : ℕ) (n : Node) → w < length nodes → n ≡ get_or nodes w n → n.name ≡ name_of_node nodes w
is_named nodes w n lt is = sym (ap name_of_child (slice_get_read nodes (length nodes) w n refl lt is))

pub is_head : (p : Program) (nodes : List Node) (w : ℕ) (lists : List (List Item)) (first : Option ℕ) (job name plan : List ℕ)
    → first ≡ first_time p lists → job ≡ normal_form (job_of p) → name ≡ name_of_node nodes w → plan ≡ printed p nodes
    → record { first = first; job = job; node = name; plan = plan } ≡ head_of p nodes w lists
is_head p nodes w lists first job name plan e f g h = λ j. record { first = e j; job = f j; node = g j; plan = h j }

pub is_partial : (p : Program) (nodes : List Node) (w : ℕ) (text : List ℕ) (streams : Streams) (a b : Option Contents)
    → ReadAreGood p [] (reads p nodes w) a b → AreReadLists p [] (reads p nodes w) a b streams
    → ReadAreOut p (reads p nodes w) b → text ≡ text_of_partial p nodes w (listed streams) → WhereTold a b (IsPartialOf p nodes w text)
is_partial p nodes w text streams None None good are ends is = tt
is_partial p nodes w text streams None (Some y) good are ends is = good
is_partial p nodes w text streams (Some x) None good are ends is = good
is_partial p nodes w text streams (Some x) (Some y) good are ends is =
    record { good = good; ends = ends; is = is ∙ ap (text_of_partial p nodes w) are }
