use Rattle.std.proofs.Common.{◌≡◌, Some, sym, ap, ◌∙◌}
use Rattle.std.specs.Prelude.{nat_eq, option_map}
use Rattle.serde_json.specs.Events.{members_len}
use Rattle.serde_json.specs.Find.{as_object}
use Rattle.serde_json.specs.View.{view}
use Rattle.serde_json.proofs.Views.{members_len-members_view}
use Rattle.flu_lemmas.proofs.Tests.{true_eq}
use Rattle.flu_save.proofs.Families.{of_some}
use Rattle.flu_save.proofs.reading.has_three_members.Goals as goal

pub returns-in-Some : goal.returns-in-Some
returns-in-Some c =
    let count : option_map members_len (as_object (view c.args.value.now)) ≡ Some c.len.result =
    ap (option_map members_len) (sym c.in-Some.ensures) ∙ ap Some (members_len-members_view c.in-Some.members.now.entries ∙ sym c.len.ensures.len) in
    (λ t. count ∙ ap Some (true_eq c.len.result 3 t), λ e. ap (λ n. nat_eq n 3) (of_some _ _ (sym count ∙ e)))
