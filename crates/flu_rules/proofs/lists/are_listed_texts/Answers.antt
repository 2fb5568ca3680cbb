use Rattle.std.proofs.Common.{subst, ◌≡◌, ◌<◌}
use Rattle.std.specs.Prelude.{slice_get, IfSome}
use Rattle.flu_model.specs.ListRules.{is_listed_text}
use Rattle.flu_rules.proofs.ListLemmas.{stops, goes_on}
use Rattle.flu_rules.proofs.lists.are_listed_texts.Goals as goal

pub returns-then-not-is_listed_at : goal.returns-then-not-is_listed_at
returns-then-not-is_listed_at c =
    let texts = c.args.list.now.texts in
    let number = c.loop-number.number in
    stops is_listed_text texts number (subst (λ n. number < n) c.loop-number.invariant.0 c.loop-number-test.true)
    (subst (λ b. IfSome (slice_get texts number) (λ text. b ≡ is_listed_text text)) c.if-not-is_listed_at.true c.is_listed_at.ensures)
    c.loop-number.invariant.1

pub loop-number-preserved : goal.loop-number-preserved
loop-number-preserved c =
    let texts = c.args.list.now.texts in
    let number = c.loop-number.number in (
      c.loop-number.invariant.0,
      goes_on is_listed_text texts number (subst (λ n. number < n) c.loop-number.invariant.0 c.loop-number-test.true)
          (subst (λ b. IfSome (slice_get texts number) (λ text. b ≡ is_listed_text text)) c.if-not-is_listed_at.false c.is_listed_at.ensures)
          c.loop-number.invariant.1,
    )
