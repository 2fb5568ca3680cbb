use Rattle.std.proofs.Common.{◌≡◌, drop}
use Rattle.flu_parse.specs.Faults.{each}
use Rattle.flu_parse.specs.Lists.{with_text, texts_of}
use Rattle.flu_parse.proofs.lists.texts_of.Given as goal

abbrev pub invariant-loop-span : goal.invariant-loop-span
invariant-loop-span l = each (with_text l.text) l.texts (drop l.span-index l.spans) ≡ texts_of l.text l.spans
