use Rattle.std.proofs.Common.{◌≡◌, ap, ◌∙◌, map, IsPermutation, subst, List, ℕ}
use Rattle.std.specs.List.{flat_map}
use Rattle.std.proofs.lemmas.List.Sorted.{IsPermutation-map}
use Rattle.std.proofs.lemmas.Result.{IfOk-weaker}
use Rattle.flu_lemmas.proofs.Sorting.{sorted_map}
use Rattle.flu_model.specs.Reports.{Line, IsReport, line_cmp, line_bytes}
use Rattle.flu_report.specs.Entries.{line_at}
use Rattle.flu_report.proofs.report.sorted_text.Goals as goal

pub returns : goal.returns
returns c =
    let p = c.args.p.now in
    let outs = c.args.outs.now in
    let entries = c.sort.new.self.items in
    let moved : IsPermutation (map line_at c.in_ok-entries.entries.items) (map line_at entries) =
    IsPermutation-map line_at _ entries c.sort.ensures.permutation in
    IfOk-weaker c.text_of.result (λ (t : List ℕ). t ≡ flat_map (line_bytes p.iso) (map line_at c.deref.result.now)) (IsReport p outs) (λ t is. record {
      lines = map line_at entries;
      all = subst (λ (lines : List Line). IsPermutation lines (map line_at entries)) c.in_ok-entries.ensures moved;
      sorted = sorted_map line_at line_cmp entries c.in_ok-sort.ensures.sorted;
      is = is ∙ ap (λ es. flat_map (line_bytes p.iso) (map line_at es)) c.deref.ensures.value;
    }) c.text_of.ensures
