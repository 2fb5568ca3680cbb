-- What reading partials one after another does.
use Rattle.std.specs.Prelude.{◌≡◌, ◌≢◌, ℕ, Option, Some, None, List, [], ◌∷◌, ⊤}
use Rattle.flu_model.specs.declared.jobs.Program.{Program}
use Rattle.flu_model.specs.declared.plans.Node.{Node}
use Rattle.flu_outside.specs.Outside.{Contents, Rose, WhereTold}
use Rattle.flu_outside.specs.Taking.{bytes_left, TakesFrom, TookAtMost, TookFronts}
use Rattle.std.specs.List.{AllByRecursion}
use Rattle.flu_contribution.specs.Contributions.{Contribution}
use Rattle.flu_contribution.specs.Laws.{IsApart}
use Rattle.flu_deps.specs.Trees.{AreApart}
use Rattle.flu_combine.specs.declared.fault.CombineFault.{CombineFault}
use Rattle.flu_combine.specs.declared.fault.CombineFault.TheVariants as combine
use Rattle.flu_combine.specs.declared.fault.PartialDefect.{PartialDefect}
use Rattle.flu_combine.specs.declared.fault.PartialDefect.TheVariants.{Twice, Within}
use Rattle.flu_combine.specs.declared.fault.Refused.{Refused}
use Rattle.flu_combine.specs.declared.fault.Refused.TheVariants.{Defect, ReadFault, NoMemory}
use Rattle.flu_combine.specs.Names.{read_out}
use Rattle.flu_combine.specs.Partials.{most_bytes, AreNested, IsPartialOf, ArePartials, TellsRows, AllTellRows, IsDefect}
use Rattle.flu_combine.specs.declared.spans.Told.{Told}

-- the node may be apart, beside these
pub record IsApartBeside (p : Program) (nodes : List Node) (ws : List ℕ) (w : ℕ) : Type 0 where
  pub apart : IsApart p nodes w
  pub beside : AllByRecursion (λ u. AreApart nodes u w) ws

-- what is wrong with a node beside one that is it, or within it, or above it
abbrev pub IsDefectBeside : List Node → ℕ → ℕ → PartialDefect → Type 0
IsDefectBeside nodes other w (Twice u) = (u ≡ w) × (other ≡ w)
IsDefectBeside nodes other w (Within u v) = (other ≢ w) × AreNested nodes other w u v
IsDefectBeside nodes other w defect = ⊥

-- a partial of a node, which tells its rows, was read to its end
pub record IsOneRead (p : Program) (nodes : List Node) (name : List ℕ) (w : ℕ) (sent : List Contribution) (told : List ℕ) (old new : Contents)
    : Type 0 where
  pub partial : IsPartialOf p nodes (bytes_left old name) w sent
  pub tells : TellsRows p (bytes_left old name) told
  pub end : new ≡ read_out (name ∷ []) old
  pub taken : TakesFrom name old new

-- why bytes are not accepted as a partial
abbrev pub IsRefusedAs : Program → List Node → List ℕ → List ℕ → Refused → Type 0
IsRefusedAs p nodes ws bytes (Defect defect) = IsDefect p nodes ws bytes defect
IsRefusedAs p nodes ws bytes ReadFault = ⊥
IsRefusedAs p nodes ws bytes NoMemory = ⊤

-- why a partial under a name is not accepted
abbrev pub IsRefusal : Program → List Node → List ℕ → List ℕ → Option Contents → Option Contents → (List ℕ → ℕ) → (List ℕ → ℕ) → Refused → Type 0
IsRefusal p nodes ws name old new before now (Defect defect) = WhereTold old new (λ was then. IsDefect p nodes ws (bytes_left was name) defect)
IsRefusal p nodes ws name old new before now ReadFault = Rose (before name) (now name) × WhereTold old new (TookAtMost name most_bytes)
IsRefusal p nodes ws name old new before now NoMemory = ⊤

-- and what is said of it, with its place
abbrev pub IsRefusedAt : ℕ → Refused → CombineFault → Type 0
IsRefusedAt place (Defect defect) fault = fault ≡ combine.Partial place defect
IsRefusedAt place ReadFault fault = fault ≡ combine.ReadFault
IsRefusedAt place NoMemory fault = fault ≡ combine.NoMemory

-- the ranks of a first and a last row, if there are any
abbrev pub ranks_told : Option Told → List ℕ
ranks_told None = []
ranks_told (Some told) = told.first ∷ told.last ∷ []

-- partials of nodes, which tell their rows, were read to their end
pub record AreRead (p : Program) (nodes : List Node) (names : List (List ℕ)) (ws : List ℕ) (queues : List (List Contribution)) (told : List ℕ)
    (old new : Contents) : Type 0 where
  pub partials : ArePartials p nodes old names ws queues
  pub tell : AllTellRows p old names told
  pub end : new ≡ read_out names old
  pub fronts : TookFronts old new
