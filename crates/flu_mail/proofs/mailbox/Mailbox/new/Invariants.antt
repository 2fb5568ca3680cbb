use Rattle.std.proofs.Common.{◌≡◌, ℕ, Some, [], length}
use Rattle.std.specs.Prelude.{map, replicate, slice_get, slice_index_or}
use Rattle.flu_lemmas.specs.Elements.{AtEach}
use Rattle.flu_model.specs.Listed.{listed}
use Rattle.flu_deps.specs.Checking.{program_of}
use Rattle.flu_deps.specs.Validated.{plan_of}
use Rattle.flu_mail.specs.declared.entries.Entry.{Entry}
use Rattle.flu_mail.specs.declared.entries.Owner.{Owner}
use Rattle.flu_mail.specs.Entries.{IsEntryOver, is_of}
use Rattle.flu_mail.specs.Mailboxes.{owned_by}
use Rattle.flu_mail.specs.Waiting.{itag}
use Rattle.flu_mail.proofs.mailbox.Mailbox.new.Given as goal

abbrev pub invariant-loop-i : goal.invariant-loop-i
invariant-loop-i l = record {
  size : length l.entries.items ≡ l.i;
  over_items : (j : ℕ) (e : Entry) → slice_get l.entries.items j ≡ Some e → IsEntryOver (slice_index_or (listed l.s) j []) e;
  owners : (o : Owner) → AtEach (λ j e. is_of o e ≡ owned_by (program_of l.c) (plan_of l.v).nodes l.node o (itag j)) l.entries.items;
  seen : map (λ (e : Entry). e.seen) l.entries.items ≡ replicate l.i 0;
  counts : map (λ (e : Entry). e.count) l.entries.items ≡ replicate l.i 0;
}
