-- What was read of some lines.
use Rattle.std.specs.Prelude.{◌≡◌, ℕ, List, [], ◌∷◌, IsTrue}
use Rattle.std.specs.List.{AllByRecursion}
use Rattle.flu_lemmas.specs.Items.{Pairs}
use Rattle.flu_model.specs.declared.jobs.Program.{Program}
use Rattle.flu_partial.specs.declared.order.Reached.{Reached}
use Rattle.flu_partial.specs.declared.order.Reached.TheVariants.{Head, End as AtEnd}
use Rattle.flu_partial.specs.declared.values.Contribution.{Contribution}
use Rattle.flu_partial.specs.Order.{may_come, reached_with}
use Rattle.flu_receiving.specs.declared.receiving.Sent.{Sent}
use Rattle.flu_receiving.specs.declared.receiving.Taken.{Taken}
use Rattle.flu_receiving.specs.Faults.{IsNext}
use Rattle.flu_receiving.specs.Receiving.{last_of, last_time, lines_text, HasLine, IsSentBy}

-- what was sent by the next line
abbrev pub IsTaken : Program → Reached → Reached → List ℕ → Taken → Type 0
IsTaken p old new line t =
    (c : Contribution) × IsNext p old c line × (new ≡ reached_with c.place) × IsSentBy p c t.handed × (t.last ≡ last_time c.place)

-- contributions may come one after another, from what was reached to what the last one reaches
abbrev pub AreBetween : Reached → List Contribution → Reached → Type 0
AreBetween r [] s = r ≡ s
AreBetween r (c ∷ cs) s = IsTrue (may_come r c) × AreBetween (reached_with c.place) cs s

-- what was sent by the lines behind the head
abbrev pub AreSent : Program → List ℕ → Sent → Type 0
AreSent p bytes s =
    (cs : List Contribution) × (bytes ≡ lines_text cs) × AllByRecursion HasLine cs × AreBetween Head cs AtEnd × Pairs (IsSentBy p) cs s.sent.items
    × (s.last ≡ last_of cs)
