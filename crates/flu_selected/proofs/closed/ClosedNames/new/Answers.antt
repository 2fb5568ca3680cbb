use Rattle.std.proofs.Common.{◌≡◌, ◌∙◌, ap, List, ℕ, arith}
use Rattle.std.proofs.lemmas.Grind.{text_groups}
use Rattle.std.proofs.lemmas.List.{take_all}
use Rattle.std.specs.BTreeMap.{get_by_text}
use Rattle.flu_selected.specs.Selecting.{whole_lines}
use Rattle.flu_selected.proofs.closed.ClosedNames.new.Goals as goal

pub loop-name-preserved : goal.loop-name-preserved
loop-name-preserved c = λ q. grind (arith, text_groups, c.loop-name.invariant q)

pub returns : goal.returns
returns c =
    let same : (name : List ℕ) → get_by_text c.loop-name.lines name ≡ whole_lines c.args.names.now name =
    λ name. c.loop-name.invariant name ∙ ap (λ names. whole_lines names name) (take_all c.loop-name.name-index c.args.names.now (omega arith)) in
    λ i name. same name i
