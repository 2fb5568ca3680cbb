-- The place of a time among items in order of time.
use Rattle.std.proofs.Common.{◌≡◌, inl, inr, ℕ, ◌-◌, ◌<◌, ◌≤◌, true, false, eqb, List, length, get_or}
use Rattle.std.proofs.Common.{sym, ◌∙◌, arith}
use Rattle.std.specs.List.{list_any}
use Rattle.std.proofs.lemmas.Bool.{cases_lt}
use Rattle.flu_lemmas.specs.Late.{put_late, rises_from}
use Rattle.flu_lemmas.proofs.Late.{rising, rises_at, is_rising, rises_late}
use Rattle.flu_model.specs.declared.events.Item.{Item}
use Rattle.flu_model.specs.declared.events.Item.TheVariants.{End}
use Rattle.flu_streams.specs.Lists.{item_time, times_in}
use Rattle.flu_streams.proofs.Taken.{any_time}

-- the times before a place are at most that of the last one before it
pub up_to_last : (items : List Item) (n i : ℕ) → rises_from item_time 0 items ≡ true → n ≤ length items → i < n
    → item_time (get_or items i End) ≤ item_time (get_or items (n - 1) End)
up_to_last items n i up few lt =
    elim (cases_lt i (n - 1)) [
      | inl before ↦ let k = rises_at item_time 0 End items i (n - 1) (rising item_time 0 items up) before (omega arith) in omega (arith, k)
      | inr not_before ↦ let same : i ≡ n - 1 = omega arith in rw same (omega arith)
    ]

-- an item that is put there
pub still_rising : (items : List Item) (item : Item) → rises_from item_time 0 items ≡ true → list_any (λ t. eqb t (item_time item)) (times_in items) ≡ false
    → rises_from item_time 0 (put_late item_time item items) ≡ true
still_rising items item up apart =
    is_rising item_time 0 (put_late item_time item items)
    (rises_late item_time 0 item items (omega arith) (sym (any_time (item_time item) items) ∙ apart) (rising item_time 0 items up))
