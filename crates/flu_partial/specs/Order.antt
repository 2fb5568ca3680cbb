-- WHOLE PARTIALS: which contributions may come after which, up to the one for the end.
use Rattle.std.specs.Prelude.{◌≡◌, ◌≢◌, ℕ, ◌&&◌, ◌||◌, ◌==◌, nat_lt, not, Bool, true, false, List, [], ◌∷◌, length, IsTrue}
use Rattle.flu_partial.specs.declared.order.OrderFault.{OrderFault}
use Rattle.flu_partial.specs.declared.order.OrderFault.TheVariants.{AfterEnd, OutOfOrder, Empty, Incomplete}
use Rattle.flu_partial.specs.declared.order.Reached.{Reached}
use Rattle.flu_partial.specs.declared.order.Reached.TheVariants.{Head, Event, End as AtEnd}
use Rattle.flu_partial.specs.declared.values.Contribution.{Contribution}
use Rattle.flu_partial.specs.declared.values.Place.{Place}
use Rattle.flu_partial.specs.declared.values.Place.TheVariants.{Before, End}

-- an event of this time and itag is after what was reached
abbrev pub is_after : Reached → ℕ → ℕ → Bool
is_after Head t i = true
is_after (Event s j) t i = nat_lt s t || ((s == t) && nat_lt j.0 i)
is_after AtEnd t i = false

-- it contributes nothing
abbrev pub is_empty : Contribution → Bool
is_empty c = (length c.cells == 0) && (c.events == 0) && (length c.outs == 0)

abbrev pub is_open : Reached → Bool
is_open Head = true
is_open (Event s j) = true
is_open AtEnd = false

abbrev pub may_come_at : Place → Reached → Contribution → Bool
may_come_at (Before t i) r c = is_after r t i.0 && not (is_empty c)
may_come_at (End last) r c = is_open r

-- A CONTRIBUTION MAY COME NEXT: up to an event, if it is after what was reached and contributes something; up to the end, if that was not reached
abbrev pub may_come : Reached → Contribution → Bool
may_come r c = may_come_at c.place r c

abbrev pub reached_with : Place → Reached
reached_with (Before t i) = Event t i
reached_with (End last) = AtEnd

-- THE REST OF A PARTIAL, from what was reached: each contribution may come where it comes, and the last one reaches the end
abbrev pub AreRest : Reached → List Contribution → Type 0
AreRest r [] = r ≡ AtEnd
AreRest r (c ∷ cs) = IsTrue (may_come r c) × AreRest (reached_with c.place) cs

-- WHY A CONTRIBUTION MAY NOT COME NEXT
abbrev pub IsLate : Place → Reached → Type 0
IsLate (Before t i) r = is_after r t i.0 ≡ false
IsLate (End last) r = ⊥

abbrev pub IsTimely : Place → Reached → Type 0
IsTimely (Before t i) r = IsTrue (is_after r t i.0)
IsTimely (End last) r = ⊥

abbrev pub IsOrderFault : Reached → Contribution → OrderFault → Type 0
IsOrderFault r c AfterEnd = r ≡ AtEnd
IsOrderFault r c OutOfOrder = (r ≢ AtEnd) × IsLate c.place r
IsOrderFault r c Empty = (r ≢ AtEnd) × IsTimely c.place r × IsTrue (is_empty c)
IsOrderFault r c Incomplete = ⊥
