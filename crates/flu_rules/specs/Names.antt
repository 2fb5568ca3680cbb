-- The names that the parts of a job declare.
use Rattle.std.specs.Prelude.{ℕ, List, map, ◌++◌}
use Rattle.flu_model.specs.declared.jobs.Family.{Family}
use Rattle.flu_model.specs.declared.jobs.Kind.{Kind}
use Rattle.flu_model.specs.declared.jobs.Source.{Source}
use Rattle.flu_model.specs.Numberings.{Numbering}

abbrev pub names_of : List Numbering → List Family → List Kind → List Source → List (List ℕ)
names_of lists families kinds sources =
    map (λ (f : Family). f.name) families ++ map (λ (k : Kind). k.name) kinds ++ map (λ (s : Source). s.name) sources ++ map (λ (l : Numbering). l.name) lists
