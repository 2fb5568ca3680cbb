use Rattle.std.proofs.Common.{◌≡◌, List, take, refl, subst, ◌∙◌, arith}
use Rattle.std.specs.Prelude.{slice_index, slice_index_or}
use Rattle.std.proofs.lemmas.List.{take_all}
use Rattle.flu_model.specs.declared.events.Itag.{Itag}
use Rattle.flu_model.specs.Owners.{ancestors_own}
use Rattle.flu_tables.specs.Tables.{program_in, nodes_in}
use Rattle.flu_mail.specs.Mailboxes.{counts_of}
use Rattle.flu_mail.proofs.CountLemmas.{is_among, IsSetTo, set_turn, set_all, no_less}
use Rattle.flu_mail.proofs.ListLemmas.{listed_at}
use Rattle.flu_mail.proofs.MailboxLemmas.{length-counts}
use Rattle.flu_mail.proofs.mailbox.Mailbox.count_above.Goals as goal

pub bounds-counts-i : goal.bounds-counts-i
bounds-counts-i c =
    let p = program_in c.args.t.now in
    let at =
    listed_at p (ancestors_own p (nodes_in c.args.t.now) c.args.self.now.node) c.above-above.result.now c.loop-i.i-index
    (record { 0 = 0 }) c.above-above.ensures c.loop-i-test.true in
    let here = at.1 in
    let size = length-counts c.args.self.now in
    let one_each = c.requires.one_each in
    let all = c.requires.at.one_each in
    omega arith

pub set_count-requires-clause-in_range : goal.set_count-requires-clause-in_range
set_count-requires-clause-in_range c =
    let p = program_in c.args.t.now in
    let at =
    listed_at p (ancestors_own p (nodes_in c.args.t.now) c.args.self.now.node) c.above-above.result.now c.loop-i.i-index
    (record { 0 = 0 }) c.above-above.ensures c.loop-i-test.true in
    let here = at.1 in
    let all = c.requires.at.one_each in
    let over = c.requires.over.one_each in
    omega arith

pub set_count-requires-clause-forward : goal.set_count-requires-clause-forward
set_count-requires-clause-forward c =
    let p = program_in c.args.t.now in
    let above = c.above-above.result.now in
    let k = c.loop-i.i-index in
    let j = (slice_index_or above k (record { 0 = 0 })).0 in
    let at = listed_at p (ancestors_own p (nodes_in c.args.t.now) c.args.self.now.node) above k (record { 0 = 0 }) c.above-above.ensures c.loop-i-test.true in
    let here = at.1 in
    let size = length-counts c.args.self.now in
    let one_each = c.requires.one_each in
    let all = c.requires.at.one_each in
    no_less (is_among (take k above) j) (slice_index c.args.counts.now j) (slice_index (counts_of c.args.self.now) j) (slice_index (counts_of c.loop-i.self) j)
    (c.loop-i.invariant.counts j) (c.requires.forward j (omega arith) at.0)

pub set_count-requires-clause-there : goal.set_count-requires-clause-there
set_count-requires-clause-there c =
    let p = program_in c.args.t.now in
    let above = c.above-above.result.now in
    let k = c.loop-i.i-index in
    let j = (slice_index_or above k (record { 0 = 0 })).0 in
    let at = listed_at p (ancestors_own p (nodes_in c.args.t.now) c.args.self.now.node) above k (record { 0 = 0 }) c.above-above.ensures c.loop-i-test.true in
    let here = at.1 in
    let size = length-counts c.args.self.now in
    let one_each = c.requires.one_each in
    let all = c.requires.at.one_each in
    c.requires.there j (omega arith) at.0

pub loop-i-preserved : goal.loop-i-preserved
loop-i-preserved c =
    let p = program_in c.args.t.now in
    let m = c.args.self.now in
    let above = c.above-above.result.now in
    let k = c.loop-i.i-index in
    let none : Itag = record { 0 = 0 } in
    let at = listed_at p (ancestors_own p (nodes_in c.args.t.now) m.node) above k none c.above-above.ensures c.loop-i-test.true in
    let here = at.1 in
    let all = c.requires.at.one_each in
    let size = length-counts c.loop-i.self in
    let over = c.requires.over.one_each in
    let later = c.loop-i.invariant.over.one_each in
    record {
      over = c.set_count.ensures.over;
      at = λ q nodes h. c.set_count.ensures.at q nodes (c.loop-i.invariant.at q nodes h);
      seen = c.set_count.ensures.seen ∙ c.loop-i.invariant.seen;
      node = c.set_count.ensures.node ∙ c.loop-i.invariant.node;
      counts = set_turn above k (slice_index_or above k none) none c.args.counts.now (counts_of m) (counts_of c.loop-i.self) _ c.loop-i-test.true refl
          (omega arith) c.set_count.ensures.counts c.loop-i.invariant.counts;
    }

pub returns-clause-counts : goal.returns-clause-counts
returns-clause-counts c =
    let p = program_in c.args.t.now in
    let nodes = nodes_in c.args.t.now in
    let m = c.args.self.now in
    let above = c.above-above.result.now in
    let all = c.requires.at.one_each in
    let old = length-counts m in
    let now = length-counts c.loop-i.self in
    let later = c.loop-i.invariant.over.one_each in
    let over = c.requires.over.one_each in
    let given = c.requires.one_each in
    let whole : take c.loop-i.i-index above ≡ above = take_all c.loop-i.i-index above (omega arith) in
    set_all p (ancestors_own p nodes m.node) c.args.counts.now (counts_of m) (counts_of c.loop-i.self) (omega arith) (omega arith) (omega arith)
    (subst (λ (xs : List Itag). IsSetTo xs c.args.counts.now (counts_of m) (counts_of c.loop-i.self)) (whole ∙ c.above-above.ensures) c.loop-i.invariant.counts)
