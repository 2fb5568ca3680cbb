-- The steps that a net may make, in the order of the seeded schedule, and those of them that are enabled.
use Rattle.std.specs.Prelude.{ℕ, ◌<◌, List, [], ◌∷◌, ◌++◌, map, filter, length}
use Rattle.std.specs.List.{flat_map, range_with_len}
use Rattle.flu_model.specs.Itags.{count_of_itags}
use Rattle.flu_fork.specs.declared.content.Content.{Content}
use Rattle.flu_fork.specs.Lots.{job, nodes}
use Rattle.flu_worker.specs.declared.hand.Side.TheVariants.{Left, Right}
use Rattle.flu_net.specs.declared.steps.Step.{Step}
use Rattle.flu_net.specs.declared.steps.Step.TheVariants.{Arrive, Handle, Ask, Take, Give, Hold, Lend}
use Rattle.flu_net.specs.Enabled.{is_enabled}
use Rattle.flu_net.specs.Notes.{NetNote}

abbrev pub arrival : ℕ → Step
arrival i = Arrive (record { 0 = i })

-- what a worker may do
abbrev pub steps_of : ℕ → List Step
steps_of w = Handle w ∷ Ask w Left ∷ Ask w Right ∷ Take w Left ∷ Take w Right ∷ Give w ∷ Hold w ∷ Lend w Left ∷ Lend w Right ∷ []

-- the arrivals by itag, and then what the workers may do, by their number
unfoldable pub all_steps : Content → List Step
all_steps k = map arrival (range_with_len 0 (count_of_itags (job k))) ++ flat_map steps_of (range_with_len 0 (length (nodes k)))

-- one of them: there is such an itag, or such a worker
abbrev pub IsPossible : Content → Step → Type 0
IsPossible k (Arrive i) = i.0 < count_of_itags (job k)
IsPossible k (Handle w) = w < length (nodes k)
IsPossible k (Ask w s) = w < length (nodes k)
IsPossible k (Take w s) = w < length (nodes k)
IsPossible k (Give w) = w < length (nodes k)
IsPossible k (Hold w) = w < length (nodes k)
IsPossible k (Lend w s) = w < length (nodes k)

-- the enabled ones among some steps
unfoldable pub enabled_among : NetNote → List Step → List Step
enabled_among n steps = filter (is_enabled n) steps

-- the steps that are enabled
abbrev pub enabled_steps : NetNote → List Step
enabled_steps n = enabled_among n (all_steps n.case)
