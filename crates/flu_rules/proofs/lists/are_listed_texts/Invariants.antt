use Rattle.std.proofs.Common.{◌≡◌, drop, length}
use Rattle.std.specs.List.{list_all}
use Rattle.flu_model.specs.ListRules.{is_listed_text}
use Rattle.flu_rules.proofs.lists.are_listed_texts.Given as goal

abbrev pub invariant-loop-number : goal.invariant-loop-number
invariant-loop-number l =
    (l.number-end ≡ length l.list.texts) × (list_all is_listed_text (drop l.number l.list.texts) ≡ list_all is_listed_text l.list.texts)
