use Rattle.std.proofs.Common.{get_or, arith}
use Rattle.std.proofs.lemmas.List.Folds.{length-flat_map-take}
use Rattle.flu_model.specs.declared.jobs.TagRef.{TagRef}
use Rattle.flu_model.specs.declared.jobs.Keys.TheVariants.{Alone}
use Rattle.flu_model.specs.Listing.{listed_tags}
use Rattle.flu_streams.proofs.Places.{count_more, tag_count}
use Rattle.flu_streams.proofs.tags.tag_count.Goals as goal

none : TagRef
none = record { kind = 0; keys = Alone }

pub key_count-count-requires : goal.key_count-count-requires
unfolding none
key_count-count-requires c =
    let i = c.loop-listed.listed-index in
    let bound = length-flat_map-take listed_tags c.args.tags.now i none c.loop-listed-test.true in
    omega (arith, bound, tag_count (get_or c.args.tags.now i none))

pub overflow_add-count : goal.overflow_add-count
unfolding none
overflow_add-count c =
    let i = c.loop-listed.listed-index in
    let bound = length-flat_map-take listed_tags c.args.tags.now i none c.loop-listed-test.true in
    omega (arith, bound, tag_count (get_or c.args.tags.now i none), c.key_count-count.ensures, c.loop-listed.invariant.count)

pub loop-listed-preserved : goal.loop-listed-preserved
unfolding none
loop-listed-preserved c =
    let i = c.loop-listed.listed-index in
    record { count = omega (arith, count_more c.args.tags.now i none c.loop-listed-test.true, c.key_count-count.ensures, c.loop-listed.invariant.count) }
