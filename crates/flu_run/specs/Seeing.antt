-- What a worker has seen is what its watch noted.
use Rattle.std.specs.Prelude.{◌≡◌, ℕ, List, length, map}
use Rattle.flu_model.specs.Listed.{listed}
use Rattle.flu_fork.specs.declared.content.Content.{Content}
use Rattle.flu_worker.specs.Notes.{WorkerNote}
use Rattle.flu_arrive.specs.Notes.{WatchNote, zeros}

-- how many items each itag of a case has
abbrev pub limits_of : Content → List ℕ
limits_of k = map (λ items. length items) (listed k.streams)

pub record Sees (n : WorkerNote) (w : WatchNote) : Type 0 where
  pub seen : n.seen ≡ w.noted
  pub one_each : length w.noted ≡ length w.limits
  pub limits : w.limits ≡ limits_of n.case

-- the worker is as before, except for what it has seen
pub record SeesMore (old new : WorkerNote) : Type 0 where
  pub rest : new ≡ record old { seen = new.seen }

-- a watch over the items of a case that has seen nothing yet
pub record WatchesFrom (k : Content) (w : WatchNote) : Type 0 where
  pub noted : w.noted ≡ zeros w.limits
  pub limits : w.limits ≡ limits_of k
