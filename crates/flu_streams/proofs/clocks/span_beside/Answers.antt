use Rattle.std.proofs.Common.{◌≡◌, ◌<◌, ◌+◌, ◌/◌, ◌++◌, ℕ, Some, length, take, get_or, sym, subst}
use Rattle.std.proofs.lemmas.List.{take_more}
use Rattle.std.proofs.lemmas.List.Elements.{All-get_or}
use Rattle.flu_model.specs.Moments.{end_of_times}
use Rattle.flu_streams.specs.LoopClocks.{HasSpan, IsEarly, span_to}
use Rattle.flu_streams.proofs.Beside.{span_to_has, span_to_early}
use Rattle.flu_streams.proofs.clocks.span_beside.Goals as goal

pub loop-rank-preserved : goal.loop-rank-preserved
loop-rank-preserved c =
    let p = c.args.p.now in
    let beside = c.args.beside.now in
    let i = c.loop-rank.rank-index in
    let rank = get_or beside i 0 in
    let grown : Some c.span_to.result ≡ span_to c.loop-rank.span rank rank = c.span_to.ensures in (
      λ ranks has.
          subst (λ o. HasSpan o (take (i + 1) beside ++ ranks)) (sym grown)
          (subst (λ l. HasSpan (span_to c.loop-rank.span rank rank) (l ++ ranks)) (sym (take_more beside i 0 c.loop-rank-test.true))
          (span_to_has c.loop-rank.span rank (take i beside) ranks (c.loop-rank.invariant.0 ranks has))),
      subst (IsEarly (length p.sources) (end_of_times p)) (sym grown)
          (span_to_early (length p.sources) (end_of_times p) c.loop-rank.span rank
          (All-get_or (λ r. r / length p.sources < end_of_times p) beside i 0 c.loop-rank-test.true c.requires.rows)
          c.loop-rank.invariant.1),
    )
