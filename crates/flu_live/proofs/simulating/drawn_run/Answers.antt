use Rattle.std.proofs.Common.{◌≡◌, List, [], ◌∷◌, length, refl, sym, ◌∙◌, arith}
use Rattle.std.proofs.lemmas.Bool.Decides.{nat_tests}
use Rattle.flu_net.specs.declared.steps.Step.{Step}
use Rattle.flu_live.proofs.Nothing.{none_enabled}
use Rattle.flu_live.proofs.simulating.drawn_run.Goals as goal

nothing : (xs : List Step) → length xs ≡ 0 → xs ≡ []
nothing [] none = refl
nothing (x ∷ xs) none = absurd (omega arith)

pub returns-clause-is_final : goal.returns-clause-is_final
returns-clause-is_final c =
    let none : length c.steps.enabled.items ≡ 0 = grind (arith, nat_tests, c.is_empty.ensures, c.steps-test.false) in
    let way = c.steps.invariant.way in
    (c.never_blocks.ensures way.gone).0
    (none_enabled c.steps.run.net (c.rule.ensures way.gone) (sym c.steps.invariant.enabled ∙ nothing c.steps.enabled.items none))
