use Rattle.std.proofs.Common.{◌≡◌, ◌+◌, get_or, Some, None, true, eqb, sym, ap, ◌∙◌, arith, ℕ}
use Rattle.std.proofs.lemmas.Bool.Decides.{nat_tests}
use Rattle.std.proofs.lemmas.List.Folds.{length-flat_map-take}
use Rattle.std.specs.List.{flat_map, position}
use Rattle.flu_model.specs.declared.jobs.TagRef.{TagRef}
use Rattle.flu_model.specs.declared.jobs.Keys.TheVariants.{Alone}
use Rattle.flu_model.specs.Listing.{listed_tags}
use Rattle.flu_model.specs.Rules.{is_same_tag}
use Rattle.flu_lemmas.proofs.Places.{position_below}
use Rattle.flu_streams.proofs.Places.{found_at, none_more, count_more, tag_count, same_kind, other_kind}
use Rattle.flu_streams.proofs.tags.place_of.Goals as goal
use Rattle.flu_streams.proofs.tags.place_of.Goals.{then-tag-listed+in_default, else-tag-listed}

none : TagRef
none = record { kind = 0; keys = Alone }

found : (c : goal.In-Some) → position (is_same_tag c.args.tag) (flat_map listed_tags c.args.tags.now) ≡ Some (c.loop-listed.count + c.in-Some.place)
unfolding none
found c =
    let i = c.loop-listed.listed-index in
    let r = get_or c.args.tags.now i none in
    let same : eqb c.args.tag.kind r.kind ≡ true = grind (arith, nat_tests) in
    let here : position (is_same_tag c.args.tag) (listed_tags r) ≡ Some c.in-Some.place = same_kind c.args.tag r same ∙ sym c.in-Some.ensures in
    found_at c.args.tag c.args.tags.now i c.in-Some.place none c.loop-listed-test.true c.loop-listed.invariant.none here
    ∙ ap (λ (n : ℕ). Some (n + c.in-Some.place)) (sym c.loop-listed.invariant.count)

pub overflow_add-result : goal.overflow_add-result
overflow_add-result c =
    let lt = position_below (is_same_tag c.args.tag) (flat_map listed_tags c.args.tags.now) (c.loop-listed.count + c.in-Some.place) (found c) in
    omega arith

pub returns-in-Some : goal.returns-in-Some
returns-in-Some c = sym (found c)

pub key_count-count-requires : goal.key_count-count-requires
unfolding none
key_count-count-requires c =
    let i = c.loop-listed.listed-index in
    let bound = length-flat_map-take listed_tags c.args.tags.now i none c.loop-listed-test.true in
    omega (arith, bound, tag_count (get_or c.args.tags.now i none))

pub overflow_add-count : goal.overflow_add-count
unfolding none
overflow_add-count c =
    let i = c.loop-listed.listed-index in
    let bound = length-flat_map-take listed_tags c.args.tags.now i none c.loop-listed-test.true in
    omega (arith, bound, tag_count (get_or c.args.tags.now i none), c.key_count-count.ensures, c.loop-listed.invariant.count)

pub loop-listed-preserved : goal.loop-listed-preserved
unfolding none
loop-listed-preserved c =
    let i = c.loop-listed.listed-index in
    let r = get_or c.args.tags.now i none in
    let here : position (is_same_tag c.args.tag) (listed_tags r) ≡ None = elim c.if-tag-listed.branch [
      | then-tag-listed+in_default w ↦ same_kind c.args.tag r (grind (arith, nat_tests)) ∙ sym w.in_default.ensures
      | else-tag-listed w ↦ other_kind c.args.tag r (grind (arith, nat_tests))
    ] in
    record {
      count = omega (arith, count_more c.args.tags.now i none c.loop-listed-test.true, c.key_count-count.ensures, c.loop-listed.invariant.count);
      none = none_more c.args.tag c.args.tags.now i none c.loop-listed-test.true c.loop-listed.invariant.none here;
    }
