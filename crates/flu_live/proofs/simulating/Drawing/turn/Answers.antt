use Rattle.std.proofs.Common.{Err, length, get_or, refl, sym, ap, ◌∙◌}
use Rattle.std.specs.Prelude.{slice_get}
use Rattle.std.proofs.lemmas.Option.{slice_get-get_or}
use Rattle.flu_lemmas.proofs.Tests.{not_both}
use Rattle.flu_net.specs.declared.steps.Step.{Step}
use Rattle.flu_net.specs.declared.steps.Step.TheVariants.{Arrive}
use Rattle.flu_net.specs.Enabled.{is_enabled}
use Rattle.flu_live.specs.Seeded.{place_of}
use Rattle.flu_live.proofs.Turns.{drawn_on, has_room, made_one}
use Rattle.flu_live.proofs.simulating.Drawing.turn.Goals as goal

pub unreachable-requires : goal.unreachable-requires
unreachable-requires c =
    let none : Step = Arrive (record { 0 = 0 }) in
    let drawn : Step = get_or c.args.enabled.now c.place_of-place.result none in
    not_both (is_enabled c.args.self.now.net drawn)
    (drawn_on c.args.self.now.net c.args.enabled.now c.place_of-place.result none c.requires.enabled c.place_of-place.ensures.there)
    (c.step.ensures.not_enabled.0 (c.in-Err-NotEnabled.is ∙ ap Err c.in-Err-NotEnabled.field-0-is))

pub count-requires : goal.count-requires
count-requires c = has_room c.args.case.now c.args.self.now c.step.new.self c.requires.way c.in-Ok.ensures.left

pub returns-clause-way : goal.returns-clause-way
returns-clause-way c =
    made_one c.args.case.now c.args.self.now _ c.place_of-place.result _ c.requires.way refl c.next_draw-self.ensures.value c.next_draw-self.ensures.small
    (record {
      at = c.place_of-place.ensures.value ∙ ap (λ l. place_of c.next_draw-self.result (length l)) c.requires.enabled;
      is = sym (ap (λ l. slice_get l c.place_of-place.result) c.requires.enabled)
          ∙ slice_get-get_or c.args.enabled.now c.place_of-place.result _ c.place_of-place.ensures.there;
    })
    c.in-Ok.ensures.made c.in-Ok.ensures.case c.in-Ok.ensures.stays c.in-Ok.ensures.left c.in_ok-keep.ensures c.count.ensures c.marked-self.ensures
