use Rattle.std.proofs.Common.{◌≡◌, ◌+◌, ℕ, List, map, set, true, false, sym, ap, subst, ◌∙◌}
use Rattle.std.specs.Prelude.{slice_index}
use Rattle.flu_fork.specs.declared.content.Content.{Content}
use Rattle.flu_worker.specs.Notes.{WorkerNote}
use Rattle.flu_net.specs.Effects.{seeing}
use Rattle.flu_net.specs.Enabled.{may_arrive}
use Rattle.flu_net.specs.Notes.{NetNote}
use Rattle.flu_net.specs.Rule.{Rule}
use Rattle.flu_net.specs.Showing.{MaySee}
use Rattle.flu_net.proofs.Arriving.{all_may_see, rule_arrived}
use Rattle.flu_net.proofs.net.Net.arrive.Goals as goal

pub show-requires : goal.show-requires
show-requires c =
    let v : NetNote = record {
      case = c.self.inside.case;
      gone = c.self.inside.gone;
      seen = c.self.inside.seen;
      workers = c.self.inside.workers.items;
      edges = c.self.inside.edges.items;
      outs = c.self.inside.outs;
    } in
    let gone_in : c.self.inside.gone ≡ false = ap (λ (x : NetNote). x.gone) c.self.view_is ∙ c.requires.gone in
    let rule : Rule v = c.self.invariant gone_in in
    let same : c.args.case.now ≡ v.case = c.requires.case ∙ sym (ap (λ (x : NetNote). x.case) c.self.view_is) in
    let may : may_arrive v c.args.i ≡ true = subst (λ x. may_arrive x c.args.i ≡ true) (sym c.self.view_is) c.requires.may in
    let count : c.one_more-count.result ≡ slice_index v.seen c.args.i.0 + 1 = c.one_more-count.ensures ∙ ap (λ n. n + 1) c.at.ensures in
    λ w n e. subst (λ (k : Content). MaySee k c.args.i.0 c.one_more-count.result n) (sym same)
    (subst (λ (m : ℕ). MaySee v.case c.args.i.0 m n) (sym count) (all_may_see v rule c.args.i may w n e))

pub invariant_of-self : goal.invariant_of-self
invariant_of-self c =
    let v : NetNote = record {
      case = c.self.inside.case;
      gone = c.self.inside.gone;
      seen = c.self.inside.seen;
      workers = c.self.inside.workers.items;
      edges = c.self.inside.edges.items;
      outs = c.self.inside.outs;
    } in
    let gone_in : c.self.inside.gone ≡ false = ap (λ (x : NetNote). x.gone) c.self.view_is ∙ c.requires.gone in
    let rule : Rule v = c.self.invariant gone_in in
    let same : c.args.case.now ≡ v.case = c.requires.case ∙ sym (ap (λ (x : NetNote). x.case) c.self.view_is) in
    let may : may_arrive v c.args.i ≡ true = subst (λ x. may_arrive x c.args.i ≡ true) (sym c.self.view_is) c.requires.may in
    let count : c.one_more-count.result ≡ slice_index v.seen c.args.i.0 + 1 = c.one_more-count.ensures ∙ ap (λ n. n + 1) c.at.ensures in
    let ws = c.show.ensures ∙ ap (λ m. map (seeing c.args.i.0 m) v.workers) count in
    λ _. subst (λ (s : List ℕ). Rule (record v { seen = s; workers = c.show.new.workers.items })) (sym c.count_one.ensures)
    (subst (λ (l : List WorkerNote). Rule (record v { seen = set v.seen c.args.i.0 (slice_index v.seen c.args.i.0 + 1); workers = l })) (sym ws)
    (rule_arrived v rule c.args.i may))
