use Rattle.std.proofs.Common.{◌≡◌, Some, sym, ap, subst, ◌∙◌}
use Rattle.std.proofs.lemmas.Result.{on_ok_weaker, on_err_weaker}
use Rattle.flu_model.specs.Contents.{with_worth}
use Rattle.flu_dense.specs.Holding.{value_at, value_for}
use Rattle.flu_dense.specs.Values.{with_value}
use Rattle.flu_cells.specs.Entries.{far_held, contents_of, IsWithoutNeutral, HasKeysInRange, HasFarAlone}
use Rattle.flu_cells.proofs.CellLemmas.{without_neutral-with, keys_in_range-with, by_result}
use Rattle.flu_cells.proofs.NearLemmas.{contents-near_with, contents-far_with, contents-same, far_alone-with, far_alone-same}
use Rattle.flu_cells.proofs.FarLemmas.{far_held-same, far_held-with}
use Rattle.flu_cells.proofs.state.State.write.Goals as goal

pub invariant_of-self : goal.invariant_of-self
invariant_of-self c =
    let s = c.args.self.now in
    record {
      without_neutral = by_result c.set.result (IsWithoutNeutral (contents_of c.set.new.self s.far)) c.set.ensures.ok c.set.ensures.err
          (λ u. subst IsWithoutNeutral
          (sym (contents-near_with s.near c.set.new.self s.far c.args.c (Some c.args.w) c.in-Some.ensures.some.2
          (u ∙ ap (λ slot. with_value (value_at s.near) slot (Some c.args.w)) c.in-Some.ensures.some.0)))
          (without_neutral-with _ _ _ s.without_neutral c.requires.kept))
          (λ e. subst IsWithoutNeutral (sym (contents-same s.near c.set.new.self s.far s.far e (λ i. far_held s.far))) s.without_neutral);
      keys_in_range = by_result c.set.result (HasKeysInRange (contents_of c.set.new.self s.far)) c.set.ensures.ok c.set.ensures.err
          (λ u. subst HasKeysInRange
          (sym (contents-near_with s.near c.set.new.self s.far c.args.c (Some c.args.w) c.in-Some.ensures.some.2
          (u ∙ ap (λ slot. with_value (value_at s.near) slot (Some c.args.w)) c.in-Some.ensures.some.0)))
          (keys_in_range-with _ _ _ s.keys_in_range (λ v h. c.requires.key)))
          (λ e. subst HasKeysInRange (sym (contents-same s.near c.set.new.self s.far s.far e (λ i. far_held s.far))) s.keys_in_range);
      far_alone = s.far_alone;
    }

pub invariant_of-self-in-None : goal.invariant_of-self-in-None
invariant_of-self-in-None c =
    let s = c.args.self.now in
    let m = c.set-in-None.new.self in
    let same : value_for m ≡ value_for s.far → contents_of s.near m ≡ contents_of s.near s.far =
    λ e. contents-same s.near s.near s.far m (λ i. value_at s.near) (far_held-same s.far m e) in
    let put : value_for m ≡ with_value (value_for s.far) c.far_place.result (Some c.args.w) → far_held m ≡ with_worth (far_held s.far) c.args.c (Some c.args.w) =
    λ u. far_held-with s.far m c.args.c (Some c.args.w) c.far_place.ensures.has
    (u ∙ ap (λ place. with_value (value_for s.far) place (Some c.args.w)) c.far_place.ensures.place) in
    record {
      without_neutral = by_result c.set-in-None.result (IsWithoutNeutral (contents_of s.near m)) c.set-in-None.ensures.ok c.set-in-None.ensures.err
          (λ u. subst IsWithoutNeutral (sym (contents-far_with s.near s.far m c.args.c (Some c.args.w) c.in-None.ensures.none (put u)))
          (without_neutral-with _ _ _ s.without_neutral c.requires.kept))
          (λ e. subst IsWithoutNeutral (sym (same e)) s.without_neutral);
      keys_in_range = by_result c.set-in-None.result (HasKeysInRange (contents_of s.near m)) c.set-in-None.ensures.ok c.set-in-None.ensures.err
          (λ u. subst HasKeysInRange (sym (contents-far_with s.near s.far m c.args.c (Some c.args.w) c.in-None.ensures.none (put u)))
          (keys_in_range-with _ _ _ s.keys_in_range (λ v h. c.requires.key)))
          (λ e. subst HasKeysInRange (sym (same e)) s.keys_in_range);
      far_alone = by_result c.set-in-None.result (HasFarAlone m) c.set-in-None.ensures.ok c.set-in-None.ensures.err
          (λ u. far_alone-with s.far m c.args.c (Some c.args.w) c.in-None.ensures.none (put u) s.far_alone)
          (λ e. far_alone-same s.far m (far_held-same s.far m e) s.far_alone);
    }

pub returns-in-Some-clause-ok : goal.returns-in-Some-clause-ok
returns-in-Some-clause-ok c =
    let s = c.args.self.now in
    on_ok_weaker c.set.result
    (λ u. contents-near_with s.near c.set.new.self s.far c.args.c (Some c.args.w) c.in-Some.ensures.some.2
    (u ∙ ap (λ slot. with_value (value_at s.near) slot (Some c.args.w)) c.in-Some.ensures.some.0))
    c.set.ensures.ok

pub returns-in-Some-clause-err : goal.returns-in-Some-clause-err
returns-in-Some-clause-err c =
    let s = c.args.self.now in
    on_err_weaker c.set.result (λ e. contents-same s.near c.set.new.self s.far s.far e (λ i. far_held s.far)) c.set.ensures.err

pub returns-in-None-clause-ok : goal.returns-in-None-clause-ok
returns-in-None-clause-ok c =
    let s = c.args.self.now in
    on_ok_weaker c.set-in-None.result
    (λ u. contents-far_with s.near s.far c.set-in-None.new.self c.args.c (Some c.args.w) c.in-None.ensures.none
    (far_held-with s.far c.set-in-None.new.self c.args.c (Some c.args.w) c.far_place.ensures.has
    (u ∙ ap (λ place. with_value (value_for s.far) place (Some c.args.w)) c.far_place.ensures.place)))
    c.set-in-None.ensures.ok

pub returns-in-None-clause-err : goal.returns-in-None-clause-err
returns-in-None-clause-err c =
    let s = c.args.self.now in
    on_err_weaker c.set-in-None.result
    (λ e. contents-same s.near s.near s.far c.set-in-None.new.self (λ i. value_at s.near) (far_held-same s.far c.set-in-None.new.self e))
    c.set-in-None.ensures.err
