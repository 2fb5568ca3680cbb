-- PROGRAMS OF ONE JOB differ only in where the boxes of their expressions lie in memory. So where nodes are apart, each reads the same.
use Rattle.std.specs.Prelude.{◌≡◌, ℕ, Bool, List}
use Rattle.flu_model.specs.declared.jobs.Program.{Program}
use Rattle.flu_model.specs.declared.plans.Node.{Node}
use Rattle.flu_model.specs.Erasure.{IsSameJob}
use Rattle.flu_outside.specs.Outside.{Contents}
use Rattle.flu_readers.specs.Reading.{reads, reads_rest, part_read, rest_read, all_told, IsReadGood, EachReadsGood}

-- a node and the one that combines read the same sources, and the same of them, and the nodes tell the same
pub record ReadTheSameParts (p q : Program) : Type 0 where
  pub sources : reads p ≡ reads q
  pub sources_of_rest : reads_rest p ≡ reads_rest q
  pub part : part_read p ≡ part_read q
  pub rest : rest_read p ≡ rest_read q
  pub told : all_told p ≡ all_told q
  pub good : (beside : List ℕ) (is_read : ℕ → Bool) (left : Contents) → IsReadGood p beside is_read left → IsReadGood q beside is_read left
  pub each_good : (nodes : List Node) (left : Contents) (ws : List ℕ) → EachReadsGood p nodes left ws → EachReadsGood q nodes left ws

-- LAW OF JOBS
abbrev pub JobsReadTheSameParts : Type 0
JobsReadTheSameParts = (p q : Program) → IsSameJob p q → ReadTheSameParts p q
