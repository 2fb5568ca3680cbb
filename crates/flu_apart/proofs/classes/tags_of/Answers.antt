use Rattle.std.proofs.Common.{◌≡◌, ◌<◌, ◌≤◌, length, ◌∙◌, arith}
use Rattle.std.specs.Prelude.{slice_index_or}
use Rattle.std.proofs.Math.ListN.{set}
use Rattle.std.proofs.lemmas.List.{length-set}
use Rattle.flu_lemmas.proofs.Numbers.{one_more}
use Rattle.flu_model.specs.Itags.{count_of_itags}
use Rattle.flu_model.specs.Listing.{tag}
use Rattle.flu_apart.specs.Classes.{tag_at}
use Rattle.flu_apart.proofs.TableLemmas.{set_there, set_other}
use Rattle.flu_apart.proofs.classes.tags_of.Goals as goal

pub loop-i-preserved : goal.loop-i-preserved
loop-i-preserved c =
    let p = c.args.p.now in
    let i = c.loop-i.i in
    let old = c.loop-i.tags in
    let one = c.tag_of-tag.result in
    let few : count_of_itags p ≤ 256 = p.few_itags in
    let size = c.loop-i.invariant.0 in
    let within : i < length old = omega arith in (
      length-set old i one ∙ size,
      one_more (λ n. slice_index_or (set old i one) n (tag 0 0) ≡ tag_at p n) i
          (λ n less. set_other old i n one (tag 0 0) (λ e. omega arith) ∙ c.loop-i.invariant.1 n less)
          (set_there old i one (tag 0 0) within ∙ c.tag_of-tag.ensures.tag),
    )
