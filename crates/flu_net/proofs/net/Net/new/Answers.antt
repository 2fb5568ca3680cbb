use Rattle.std.proofs.Common.{refl, ap, ◌∙◌, map}
use Rattle.std.specs.List.{range_with_len}
use Rattle.flu_model.specs.Itags.{count_of_itags}
use Rattle.flu_deps.specs.Checking.{program_of}
use Rattle.flu_net.proofs.Starts.{start_rule}
use Rattle.flu_net.proofs.net.Net.new.Goals as goal

pub invariant_of-result : goal.invariant_of-result
invariant_of-result c = λ _. start_rule c.laws_below.ensures c.args.case.now _ (record {
  case = c.note.ensures;
  gone = refl;
  seen = c.in_ok-seen.ensures
      ∙ ap (λ n. map (λ i. 0) (range_with_len 0 n)) (c.itag_count.ensures ∙ ap count_of_itags (c.program.ensures ∙ ap program_of c.checked.ensures));
  workers = c.in_ok-workers.ensures;
  edges = c.in_ok-edges.ensures;
  outs = c.of.ensures ∙ c.new.ensures.items;
})

pub returns-clause-most : goal.returns-clause-most
returns-clause-most c = c.steps_are_bounded.ensures.start c.args.case.now _ (record {
  case = c.note.ensures;
  gone = refl;
  seen = c.in_ok-seen.ensures
      ∙ ap (λ n. map (λ i. 0) (range_with_len 0 n)) (c.itag_count.ensures ∙ ap count_of_itags (c.program.ensures ∙ ap program_of c.checked.ensures));
  workers = c.in_ok-workers.ensures;
  edges = c.in_ok-edges.ensures;
  outs = c.of.ensures ∙ c.new.ensures.items;
})
