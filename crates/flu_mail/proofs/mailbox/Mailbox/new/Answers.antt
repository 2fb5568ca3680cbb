use Rattle.std.proofs.Common.{◌≡◌, List, [], ◌∷◌, length, sym, ap, subst, ◌∙◌, arith}
use Rattle.std.specs.Prelude.{is_none, is_some, map, replicate, slice_get, slice_index_or}
use Rattle.std.proofs.lemmas.List.{length-append, length-map}
use Rattle.flu_lemmas.proofs.Booleans.{turned}
use Rattle.flu_lemmas.proofs.Elements.{each_push}
use Rattle.flu_lemmas.proofs.Places.{map_push_zero}
use Rattle.flu_model.specs.declared.jobs.Program.{Program}
use Rattle.flu_model.specs.Itags.{count_of_itags}
use Rattle.flu_model.specs.Listed.{listed}
use Rattle.flu_model.specs.Owners.{owns, ancestors_own}
use Rattle.flu_deps.specs.Checking.{program_of}
use Rattle.flu_deps.specs.Validated.{plan_of, IsValidFor}
use Rattle.flu_mail.specs.declared.entries.Entry.{Entry}
use Rattle.flu_mail.specs.declared.entries.Owner.TheVariants.{Node as OfNode, Ancestor as OfAncestor}
use Rattle.flu_mail.specs.declared.mailbox.Mailbox.{Mailbox}
use Rattle.flu_mail.specs.Entries.{AreKeysOf, IsEntryOver, is_of}
use Rattle.flu_mail.specs.Mailboxes.{owned_by}
use Rattle.flu_mail.specs.Waiting.{itag}
use Rattle.flu_mail.proofs.KeyLemmas.{both_in_order}
use Rattle.flu_mail.proofs.mailbox.Mailbox.new.Goals as goal

pub owns-own-requires-clause-valid : goal.owns-own-requires-clause-valid
owns-own-requires-clause-valid c = subst (λ (p : Program). IsValidFor p c.args.v.now) (sym c.program-p.ensures) c.requires.of

pub ancestors_own-above-requires-clause-valid : goal.ancestors_own-above-requires-clause-valid
ancestors_own-above-requires-clause-valid c = subst (λ (p : Program). IsValidFor p c.args.v.now) (sym c.program-p.ensures) c.requires.of

pub loop-i-preserved : goal.loop-i-preserved
loop-i-preserved c =
    let lists = listed c.args.s.now in
    let nodes = (plan_of c.args.v.now).nodes in
    let w = c.args.node in
    let old = c.loop-i.invariant in
    let xs = c.loop-i.entries.items in
    let e = c.new_entry.result in
    let items = c.in_ok-push.ensures.items in
    let own : e.own ≡ owns (program_of c.args.c.now) nodes w (itag (length xs)) = c.new_entry.ensures.own ∙ c.owns-own.ensures
    ∙ (λ k. owns (c.program-p.ensures k) nodes w (itag (sym old.size k))) in
    let above : e.above ≡ ancestors_own (program_of c.args.c.now) nodes w (itag (length xs)) = c.new_entry.ensures.above ∙ c.ancestors_own-above.ensures
    ∙ (λ k. ancestors_own (c.program-p.ensures k) nodes w (itag (sym old.size k))) in
    record {
      size = let sizes = ap length items in let more = length-append xs (e ∷ []) in let had = old.size in omega arith;
      over_items = λ j x found.
          each_push (λ k y. IsEntryOver (slice_index_or lists k []) y) xs e old.over_items
          (subst (λ k. IsEntryOver (slice_index_or lists k []) e) (sym old.size) c.new_entry.ensures.over)
          j x (ap (λ ys. slice_get ys j) (sym items) ∙ found);
      owners = λ o j x found.
          each_push (λ k y. is_of o y ≡ owned_by (program_of c.args.c.now) nodes w o (itag k)) xs e (old.owners o)
          (elim o as (λ u. is_of u e ≡ owned_by (program_of c.args.c.now) nodes w u (itag (length xs))) [ OfNode ↦ own | OfAncestor ↦ above ])
          j x (ap (λ ys. slice_get ys j) (sym items) ∙ found);
      seen = ap (map (λ (y : Entry). y.seen)) items ∙ map_push_zero (λ (y : Entry). y.seen) xs e c.loop-i.i old.seen c.new_entry.ensures.seen;
      counts = ap (map (λ (y : Entry). y.count)) items ∙ map_push_zero (λ (y : Entry). y.count) xs e c.loop-i.i old.counts c.new_entry.ensures.count;
    }

pub returns-clause-at : goal.returns-clause-at
returns-clause-at c =
    let old = c.loop-i.invariant in
    let count = c.itag_count-itags.ensures ∙ ap count_of_itags c.program-p.ensures in
    let size = old.size in
    record {
      one_each = length-map c.loop-i.entries.items (λ (e : Entry). e.seen)
          ∙ (let all : length c.loop-i.entries.items ≡ count_of_itags (program_of c.args.c.now) = omega arith in all);
      leaf = turned (is_some c.kids.result) c.is_none-leaf.result c.is_none-leaf.ensures ∙ ap is_none c.kids.ensures.kids;
      owners = old.owners;
    }

pub returns-clause-over : goal.returns-clause-over
returns-clause-over c =
    let old = c.loop-i.invariant in
    let count = c.itag_count-itags.ensures ∙ ap count_of_itags c.program-p.ensures in
    let size = old.size in
    let each = c.requires.one_each in
    let m : Mailbox = record {
      node = c.args.node;
      leaf = c.is_none-leaf.result;
      entries = c.loop-i.entries;
      own = c.in_ok-own.own;
      above = c.in_ok-above.above;
    } in
    record {
      one_each = length-map c.loop-i.entries.items (λ (e : Entry). e.seen)
          ∙ (let all : length c.loop-i.entries.items ≡ length (listed c.args.s.now) = omega arith in all);
      over_items = old.over_items;
      in_order = both_in_order m
          (subst (λ (es : List Entry). AreKeysOf (is_of OfNode) es c.in_ok-own.own) c.as_slice.ensures.value c.in_ok-own.ensures)
          (subst (λ (es : List Entry). AreKeysOf (is_of OfAncestor) es c.in_ok-above.above) c.as_slice-2.ensures.value c.in_ok-above.ensures);
    }

pub returns-clause-seen : goal.returns-clause-seen
returns-clause-seen c =
    let count = c.itag_count-itags.ensures ∙ ap count_of_itags c.program-p.ensures in
    let all : c.loop-i.i ≡ count_of_itags (program_of c.args.c.now) = omega arith in
    c.loop-i.invariant.seen ∙ ap (λ n. replicate n 0) all

pub returns-clause-counts : goal.returns-clause-counts
returns-clause-counts c =
    let count = c.itag_count-itags.ensures ∙ ap count_of_itags c.program-p.ensures in
    let all : c.loop-i.i ≡ count_of_itags (program_of c.args.c.now) = omega arith in
    c.loop-i.invariant.counts ∙ ap (λ n. replicate n 0) all
