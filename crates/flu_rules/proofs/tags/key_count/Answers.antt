use Rattle.std.proofs.Common.{◌≡◌, ◌+◌, ◌-◌, ap, ◌∙◌, arith, length}
use Rattle.std.proofs.lemmas.List.FromFn.{length-range_with_len}
use Rattle.flu_model.specs.Listing.{listed_keys}
use Rattle.flu_rules.proofs.tags.key_count.Goals as goal

pub returns-then-lo-hi : goal.returns-then-lo-hi
returns-then-lo-hi c =
    let count : length (listed_keys c.args.keys.now) ≡ c.in-Range.hi + 1 - c.in-Range.lo =
    ap (λ k. length (listed_keys k)) c.in-Range.is ∙ length-range_with_len _ _ in
    omega (arith, count)
