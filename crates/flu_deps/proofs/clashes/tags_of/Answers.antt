use Rattle.std.proofs.Common.{◌≡◌, ◌≤◌, ap, ◌∙◌, arith}
use Rattle.std.specs.Prelude.{slice_index}
use Rattle.std.proofs.Math.ListN.{set}
use Rattle.std.proofs.lemmas.List.{length-set}
use Rattle.flu_lemmas.proofs.Numbers.{one_more}
use Rattle.flu_model.specs.Itags.{count_of_itags}
use Rattle.flu_deps.specs.LoopClashes.{tag_at}
use Rattle.flu_deps.proofs.ClashTables.{set_there, set_other}
use Rattle.flu_deps.proofs.clashes.tags_of.Goals as goal

pub loop-i-preserved : goal.loop-i-preserved
loop-i-preserved c =
    let p = c.args.p.now in
    let i = c.loop-i.i in
    let kinds = c.loop-i.tags.kinds in
    let keys = c.loop-i.tags.keys in
    let tag = c.tag_of-tag.result in
    let few : count_of_itags p ≤ 256 = p.few_itags in
    let inv = c.loop-i.invariant in
    let kinds_size = inv.0 in
    let keys_size = inv.1 in (
      length-set kinds i tag.kind ∙ kinds_size,
      length-set keys i tag.key ∙ keys_size,
      record {
        kind = one_more (λ n. slice_index (set kinds i tag.kind) n ≡ (tag_at p n).kind) i
            (λ n less. set_other kinds i n tag.kind (λ e. omega arith) ∙ inv.2.kind n less)
            (set_there kinds i tag.kind (omega arith) ∙ ap (λ t. t.kind) c.tag_of-tag.ensures.tag);
        key = one_more (λ n. slice_index (set keys i tag.key) n ≡ (tag_at p n).key) i
            (λ n less. set_other keys i n tag.key (λ e. omega arith) ∙ inv.2.key n less)
            (set_there keys i tag.key (omega arith) ∙ ap (λ t. t.key) c.tag_of-tag.ensures.tag);
      },
    )
