use Rattle.std.proofs.Common.{◌≡◌, ◌++◌, map, ap, ◌∙◌, arith, length}
use Rattle.std.specs.List.{flat_map, range_with_len}
use Rattle.flu_model.specs.Itags.{count_of_itags}
use Rattle.flu_fork.specs.Lots.{job, nodes}
use Rattle.flu_live.specs.Possible.{all_steps, arrival, steps_of}
use Rattle.flu_live.proofs.Chosen.{each_more}
use Rattle.flu_live.proofs.possible.all_steps.Goals as goal

pub loop-w-preserved : goal.loop-w-preserved
loop-w-preserved c = (
  c.loop-w.invariant.0,
  c.in_ok-push_each.ensures ∙ ap (λ l. l ++ c.steps_of.result) c.loop-w.invariant.1
      ∙ ap (λ l. (map arrival (range_with_len 0 (count_of_itags (job c.args.case.now))) ++ flat_map steps_of (range_with_len 0 c.loop-w.w))
      ++ l) c.steps_of.ensures
      ∙ each_more (map arrival (range_with_len 0 (count_of_itags (job c.args.case.now)))) steps_of c.loop-w.w,
)

pub returns : goal.returns
unfolding all_steps
returns c =
    let all : c.loop-w.w ≡ length (nodes c.args.case.now) = omega (arith, c.loop-w.invariant.0) in
    c.loop-w.invariant.1 ∙ ap (λ m. map arrival (range_with_len 0 (count_of_itags (job c.args.case.now))) ++ flat_map steps_of (range_with_len 0 m)) all
