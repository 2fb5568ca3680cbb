-- What is said of a case, said of its parts.
use Rattle.std.proofs.Common.{List, ap, subst}
use Rattle.flu_model.specs.declared.events.Item.{Item}
use Rattle.flu_model.specs.declared.jobs.Program.{Program}
use Rattle.flu_model.specs.declared.streams.Streams.{Streams}
use Rattle.flu_model.specs.Contents.{Contents}
use Rattle.flu_model.specs.Listed.{listed}
use Rattle.flu_deps.specs.Checking.{program_of}
use Rattle.flu_deps.specs.declared.checked.Checked.{Checked}
use Rattle.flu_deps.specs.declared.valid.Valid.{Valid}
use Rattle.flu_cells.specs.declared.state.State.{State}
use Rattle.flu_cells.specs.Holding.{held}
use Rattle.flu_fork.specs.declared.content.Content.{Content}
use Rattle.flu_fork.specs.Lots.{IsCaseOf, job}

pub of_parts : (P : Program → Contents → List (List Item) → Type 0) (k : Content) (c : Checked) (v : Valid) (s : Streams) (o : State) → IsCaseOf c v s o k
    → P (job k) (held k.opening) (listed k.streams) → P (program_of c) (held o) (listed s)
of_parts P k c v s o is here =
    subst (λ x. P x (held o) (listed s)) (ap program_of is.checked)
    (subst (λ x. P (job k) x (listed s)) (ap held is.opening) (subst (λ x. P (job k) (held k.opening) x) (ap listed is.streams) here))
