-- What holds of a job and a test of its sources holds of another name of the job and another form of the test.
use Rattle.std.proofs.Common.{◌≡◌, ◌∙◌, ap, subst, ℕ, Bool, List}
use Rattle.flu_model.specs.declared.jobs.Program.{Program}
use Rattle.flu_selected.specs.Gathering.{reads}

pub moved : (P : Program × (ℕ → Bool) → Type 0) (p q : Program) (s t : ℕ → Bool) → p ≡ q → s ≡ t → P (p, s) → P (q, t)
moved P p q s t same agree = subst P (λ j. (same j, agree j))

-- the test that a list is, where another list is the same and is this test
pub is_read_as : (listed read : List Bool) (test : ℕ → Bool) → listed ≡ read → reads read ≡ test → reads listed ≡ test
is_read_as listed read test same is = ap reads same ∙ is
