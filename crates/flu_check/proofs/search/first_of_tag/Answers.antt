use Rattle.flu_lemmas.proofs.Numbers.{one_more}
use Rattle.flu_model.specs.Itags.{tag_of_itag}
use Rattle.flu_check.specs.LoopFound.{tag_at, PassesPair}
use Rattle.flu_check.proofs.search.first_of_tag.Goals as goal

pub loop-j-preserved : goal.loop-j-preserved
loop-j-preserved c =
    let p = c.args.p.now in
    let kept = c.first_of_pair-found.ensures.kept in (
      c.first_of_pair-found.ensures.found,
      λ x passed. kept x (c.loop-j.invariant.1 x passed),
      one_more (λ k. PassesPair p (tag_of_itag p c.args.i) (tag_at p k) c.first_of_pair-found.result) c.loop-j.j
          (λ k lt d fault. kept _ (c.loop-j.invariant.2 k lt d fault)) c.first_of_pair-found.ensures.passed,
    )
