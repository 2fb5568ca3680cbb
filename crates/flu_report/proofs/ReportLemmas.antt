-- The report that the definition asks for is the one that the plain program makes, and it goes by the outputs as a multiset.
use Rattle.std.proofs.Common.{◌≡◌, ℕ, List, map, refl, ap, ◌∙◌, IsPermutation}
use Rattle.std.specs.List.{flat_map}
use Rattle.std.specs.Cmp.{IsTotalOrder}
use Rattle.std.specs.FinMap.{nat_cmp-IsAntisymmetric, slice_cmp-IsAntisymmetric}
use Rattle.std.specs.Ordering.{nat_cmp, ordering_then, is_lt}
use Rattle.std.specs.Cmp.Lexicographic.{slice_cmp}
use Rattle.std.specs.declared.cmp.Ordering.TheVariants.{Equal}
use Rattle.std.proofs.lemmas.Cmp.{nat_cmp_total, nat_list_cmp_total, on_total, then_total}
use Rattle.std.proofs.lemmas.List.Sorted.{IsPermutation-map, IsPermutation-trans}
use Rattle.flu_lemmas.specs.Sorting.{in_order}
use Rattle.flu_lemmas.proofs.Sorting.{both_equal, in_order-permutation, in_order-sorted, in_order-only}
use Rattle.flu_model.specs.declared.events.Out.{Out}
use Rattle.flu_model.specs.declared.jobs.Program.{Program}
use Rattle.flu_model.specs.Reports.{Line, line_of, line_cmp, line_bytes, IsReport, report}

line_cmp-total : IsTotalOrder line_cmp
line_cmp-total = then_total (on_total (λ (l : Line). l.time) nat_cmp_total)
    (then_total (on_total (λ (l : Line). l.tag) nat_list_cmp_total) (on_total (λ (l : Line). l.text) nat_list_cmp_total))

-- lines that compare equal are equal
same_line : (a b : Line) → line_cmp a b ≡ Equal → a ≡ b
same_line a b e =
    let by_time = both_equal (nat_cmp a.time b.time) (ordering_then (slice_cmp nat_cmp a.tag b.tag) (slice_cmp nat_cmp a.text b.text)) e in
    let by_tag = both_equal (slice_cmp nat_cmp a.tag b.tag) (slice_cmp nat_cmp a.text b.text) by_time.1 in
    let time : a.time ≡ b.time = nat_cmp-IsAntisymmetric a.time b.time by_time.0 in
    let tag : a.tag ≡ b.tag = slice_cmp-IsAntisymmetric nat_cmp-IsAntisymmetric a.tag b.tag by_tag.0 in
    let text : a.text ≡ b.text = slice_cmp-IsAntisymmetric nat_cmp-IsAntisymmetric a.text b.text by_tag.1 in
    λ i. record { time = time i; tag = tag i; text = text i }

-- a report of some outputs is the one that the plain program makes
pub only_report : (p : Program) (outs : List Out) (bytes : List ℕ) → IsReport p outs bytes → bytes ≡ report p outs
only_report p outs bytes r =
    r.is
    ∙ ap (flat_map (line_bytes p.iso)) (in_order-only line_cmp line_cmp-total (map (line_of p) outs) r.lines (λ a b here there. same_line a b) r.sorted r.all)

-- the plain program makes a report of the outputs in any order
pub report_in_any_order : (p : Program) (outs others : List Out) → IsPermutation outs others → IsReport p outs (report p others)
report_in_any_order p outs others moved = record {
  lines = in_order (λ a b. is_lt (line_cmp a b)) (map (line_of p) others);
  all = IsPermutation-trans (map (line_of p) outs) (map (line_of p) others) _ (IsPermutation-map (line_of p) outs others moved)
      (in_order-permutation (λ a b. is_lt (line_cmp a b)) (map (line_of p) others));
  sorted = in_order-sorted line_cmp line_cmp-total (map (line_of p) others);
  is = refl;
}
