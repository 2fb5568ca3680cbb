use Rattle.std.proofs.Common.{◌≡◌, ℕ, List, Ok, ap, ◌∙◌}
use Rattle.std.specs.Prelude.{IsTrue}
use Rattle.flu_model.specs.declared.jobs.Program.{Program}
use Rattle.flu_model.specs.declared.plans.Plan.{Plan}
use Rattle.flu_plan.specs.Kept.{KeepsRules}
use Rattle.flu_plan.specs.Reading.{plan_in}
use Rattle.flu_plan.specs.Printing.{printed, has_text}
use Rattle.flu_plan.specs.Laws.{PrintedIsRead}
use Rattle.flu_plan.proofs.printing.print_plan.Goals as goal

rules_of : (plan : Plan) → KeepsRules plan.nodes
rules_of plan = record {
  one_tree = plan.one_tree;
  own_names = plan.own_names;
  few_nodes = plan.few_nodes;
  few_predicates = plan.few_predicates;
  shallow = plan.shallow;
  small_keys = plan.small_keys;
}

again : PrintedIsRead → (p : Program) (plan : Plan) (text : List ℕ) → text ≡ printed p plan.nodes → IsTrue (has_text p plan.nodes)
    → plan_in p text ≡ Ok plan.nodes
again law p plan text is has = ap (plan_in p) is ∙ law p plan.nodes (rules_of plan) has

pub returns-clause-read_again : goal.returns-clause-read_again
returns-clause-read_again c =
    again c.printed_is_read.ensures c.args.p.now c.args.plan.now c.of.result (c.of.ensures ∙ c.in_ok-text.ensures ∙ ap (printed c.args.p.now) c.items.ensures)

pub returns-clause-round_trip : goal.returns-clause-round_trip
returns-clause-round_trip c = λ bytes was_read.
    again c.printed_is_read.ensures c.args.p.now c.args.plan.now c.of.result (c.of.ensures ∙ c.in_ok-text.ensures ∙ ap (printed c.args.p.now) c.items.ensures)
    (c.plans_have_text.ensures c.args.p.now bytes c.args.plan.now.nodes was_read)
