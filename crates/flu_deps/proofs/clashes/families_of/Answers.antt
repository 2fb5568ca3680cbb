use Rattle.std.proofs.Common.{◌≡◌, ◌≤◌, ◌%◌, true, length, ap, ◌∙◌, rules, arith}
use Rattle.std.specs.Prelude.{slice_index}
use Rattle.std.specs.List.{list_all}
use Rattle.std.proofs.Math.ListN.{set}
use Rattle.std.proofs.lemmas.List.{length-set}
use Rattle.flu_lemmas.proofs.Numbers.{one_more}
use Rattle.flu_deps.specs.LoopVisits.{action_all}
use Rattle.flu_deps.specs.LoopClashes.{HasMarks, kind_actions, marked_test}
use Rattle.flu_deps.proofs.ClashTables.{set_there, set_other}
use Rattle.flu_deps.proofs.clashes.families_of.Goals as goal

pub loop-a-preserved : goal.loop-a-preserved
loop-a-preserved c =
    let p = c.args.p.now in
    let a = c.loop-a.a in
    let table = c.loop-a.families in
    let marks = c.mark.new.self.marks in
    let few : length p.kinds ≤ 64 = p.few_kinds in
    let same : length c.items.result.now ≡ length p.kinds = ap length c.items.ensures in
    let version : c.mark.new.self.version ≡ p.version = c.mark.ensures.version ∙ c.loop-a.invariant.version in
    let marked : list_all (action_all (marked_test p.version c.args.class marks)) (kind_actions p a) ≡ true = search rules in
    record {
      version = version;
      size = length-set table (a % 64) marks.any ∙ c.loop-a.invariant.size;
      below = one_more (λ n. HasMarks p c.args.class n (slice_index (set table (a % 64) marks.any) (n % 64))) a
          (λ n less.
          let was = c.loop-a.invariant.below n less in record {
            marks = was.marks;
            marked = was.marked;
            any = set_other table (a % 64) (n % 64) marks.any (λ e. omega (arith, e, few, same)) ∙ was.any;
          }) (record { marks = marks; marked = marked; any = set_there table (a % 64) marks.any (omega (arith, c.loop-a.invariant.size)) });
    }
