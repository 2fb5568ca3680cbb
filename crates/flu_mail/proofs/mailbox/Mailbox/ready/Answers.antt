use Rattle.std.proofs.Common.{Bool, sym, ap, ◌∙◌}
use Rattle.std.specs.Prelude.{◌&&◌, not}
use Rattle.std.specs.List.{list_any}
use Rattle.flu_model.specs.declared.events.Itag.{Itag}
use Rattle.flu_model.specs.Listed.{listed}
use Rattle.flu_model.specs.Owners.{owns}
use Rattle.flu_tables.specs.Lists.{itags_where}
use Rattle.flu_tables.specs.Tables.{program_in, nodes_in}
use Rattle.flu_mail.specs.declared.waiting.Purpose.TheVariants.{Take}
use Rattle.flu_mail.specs.LoopParts.{holds_up}
use Rattle.flu_mail.proofs.ListLemmas.{ready_told}
use Rattle.flu_mail.proofs.mailbox.Mailbox.ready.Goals as goal

pub returns-then-not-is_held_up : goal.returns-then-not-is_held_up
returns-then-not-is_held_up c =
    let p = program_in c.args.t.now in
    let nodes = nodes_in c.args.t.now in
    let above = c.is_held_up.ensures in
    let own = c.is_held_up-then-not-is_held_up.ensures in
    ap (λ b. not b && not c.is_held_up-then-not-is_held_up.result) (sym c.if-not-is_held_up.true)
    ∙ (λ k. not (above k) && not (own k)) ∙ ready_told p nodes (listed c.args.s.now) c.args.self.now c.args.x.now c.requires.at

pub returns-else-not-is_held_up : goal.returns-else-not-is_held_up
returns-else-not-is_held_up c =
    let p = program_in c.args.t.now in
    let nodes = nodes_in c.args.t.now in
    let m = c.args.self.now in
    let h : Itag → Bool = holds_up p m (listed c.args.s.now) Take c.args.x.now in
    let rest : Bool = not (list_any h (itags_where p (owns p nodes m.node))) in
    ap not c.if-not-is_held_up.false ∙ ap (λ b. not b && rest) (sym c.if-not-is_held_up.false)
    ∙ ap (λ b. not b && rest) c.is_held_up.ensures ∙ ready_told p nodes (listed c.args.s.now) m c.args.x.now c.requires.at
