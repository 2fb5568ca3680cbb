-- THE LAW of the times of rows.
use Rattle.std.specs.Prelude.{◌≡◌, ℕ, ◌<◌, ◌^◌, List, Some}
use Rattle.flu_rows.specs.declared.row.RowForm.{RowForm}
use Rattle.flu_rows.specs.Fields.{time_of}

-- LAW OF TIMES: a time that a row gives is below 2^63 in each form
abbrev pub TimesAreInRange : Type 0
TimesAreInRange = (form : RowForm) (field : List ℕ) (t : ℕ) → time_of form field ≡ Some t → t < 2 ^ 63
