-- How times and numbers are shown, as the code has it.
use Rattle.flu_model.specs.Texts.{Showing}
use Rattle.flu_step.specs.declared.texts.Shown.{Shown}

abbrev pub showing : Shown → Showing
showing s = record { iso = s.iso; lists = s.lists.now; items = s.items; keys = s.keys }
