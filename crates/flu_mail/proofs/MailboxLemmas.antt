-- What stays of a mailbox when an entry changes, and what its entries tell.
use Rattle.std.proofs.Common.{◌≡◌, ◌<◌, ◌≤◌, ◌+◌, ◌^◌, ℕ, zero, suc, Some, None, Option, List, [], ◌∷◌}
use Rattle.std.proofs.Common.{Vec, Global, length, get_or, refl, sym, ap, ◌∙◌, true, arith}
use Rattle.std.specs.Prelude.{map, IfSome, slice_get, slice_index, slice_index_or}
use Rattle.std.proofs.Math.ListN.{set}
use Rattle.std.proofs.lemmas.List.{length-set, length-map, get_or_past, set-get_or}
use Rattle.std.proofs.lemmas.Option.{slice_get_read}
use Rattle.flu_lemmas.proofs.Elements.{each_set}
use Rattle.flu_lemmas.proofs.Places.{slice_index-map}
use Rattle.flu_model.specs.declared.events.Event.{Event}
use Rattle.flu_model.specs.declared.events.Itag.{Itag}
use Rattle.flu_model.specs.declared.events.Item.{Item}
use Rattle.flu_model.specs.declared.jobs.Program.{Program}
use Rattle.flu_model.specs.declared.plans.Node.{Node}
use Rattle.flu_model.specs.Streaming.{are_streams}
use Rattle.flu_mail.specs.declared.entries.Entry.{Entry}
use Rattle.flu_mail.specs.declared.entries.Owner.{Owner}
use Rattle.flu_mail.specs.declared.entries.Owner.TheVariants.{Node as OfNode, Ancestor as OfAncestor}
use Rattle.flu_mail.specs.declared.mailbox.Mailbox.{Mailbox}
use Rattle.flu_mail.specs.Passing.{pending_event}
use Rattle.flu_mail.specs.Waiting.{itag, is_leaf}
use Rattle.flu_mail.specs.Entries.{IsEntryOver, AreKeysOf, is_of}
use Rattle.flu_mail.specs.Mailboxes.{seen_of, counts_of, keys_of, owned_by, IsAt, IsOver}
use Rattle.flu_mail.proofs.PassingLemmas.{event_of_stream}
use Rattle.flu_mail.proofs.WaitingLemmas.{stream_of}

-- an entry for each
pub length-seen : (m : Mailbox) → length (seen_of m) ≡ length m.entries.items
length-seen m = length-map m.entries.items (λ (e : Entry). e.seen)

pub length-counts : (m : Mailbox) → length (counts_of m) ≡ length (seen_of m)
length-counts m = length-map m.entries.items (λ (e : Entry). e.count) ∙ sym (length-seen m)

pub entry_there : (m : Mailbox) (n j : ℕ) → length (seen_of m) ≡ n → j < n → j < length m.entries.items
entry_there m n j one_each lt = let size = length-seen m in omega arith

-- the entry that was read
pub entry_read : (m : Mailbox) (n j : ℕ) (e : Entry) → length (seen_of m) ≡ n → j < n → e ≡ get_or m.entries.items j e → slice_get m.entries.items j ≡ Some e
entry_read m n j e one_each lt is = slice_get_read m.entries.items (length m.entries.items) j e refl (entry_there m n j one_each lt) is

pub entry_is : (m : Mailbox) (j : ℕ) (e x : Entry) → slice_get m.entries.items j ≡ Some e → slice_get m.entries.items j ≡ Some x → e ≡ x
entry_is m j e x there is = of_some (sym there ∙ is)
  where
    of_some : {a b : Entry} → Some a ≡ Some b → a ≡ b
    of_some both = cc

-- an entry with the same owners
pub owner_kept : (o : Owner) (v e : Entry) → v.own ≡ e.own → v.above ≡ e.above → is_of o v ≡ is_of o e
owner_kept OfNode v e own above = own
owner_kept OfAncestor v e own above = above

-- no stream has more items than there are numbers for
pub few_items : (vs : List (Vec Item Global)) (i : ℕ) → length (slice_index_or (map (λ (v : Vec Item Global). v.items) vs) i []) < 2 ^ 63
few_items [] i = omega arith
few_items (v ∷ vs) zero = let ok = v.ok in let small = v.small in omega arith
few_items (v ∷ vs) (suc i) = few_items vs i

-- ---- an entry changes

-- the second mailbox is the first with v in the place of the entry e of itag i
pub record Changes (m n : Mailbox) (i : ℕ) (e v : Entry) : Type 0 where
  pub node : n.node ≡ m.node
  pub leaf : n.leaf ≡ m.leaf
  pub items : n.entries.items ≡ set m.entries.items i v
  pub there : slice_get m.entries.items i ≡ Some e
  pub owner : (o : Owner) → is_of o v ≡ is_of o e
  pub in_order : (o : Owner) → AreKeysOf (is_of o) m.entries.items (keys_of o m) → AreKeysOf (is_of o) n.entries.items (keys_of o n)

pub one_each_kept : (m n : Mailbox) (i : ℕ) (e v : Entry) → Changes m n i e v → length (seen_of n) ≡ length (seen_of m)
one_each_kept m n i e v change = length-seen n ∙ ap length change.items ∙ length-set m.entries.items i v ∙ sym (length-seen m)

pub at_kept : (p : Program) (nodes : List Node) (m n : Mailbox) (i : ℕ) (e v : Entry) → Changes m n i e v → IsAt p nodes m → IsAt p nodes n
at_kept p nodes m n i e v change at = record {
  one_each = one_each_kept m n i e v change ∙ at.one_each;
  leaf = change.leaf ∙ at.leaf ∙ sym (ap (is_leaf nodes) change.node);
  owners = λ o j x found.
      each_set (λ k y. is_of o y ≡ owned_by p nodes m.node o (itag k)) m.entries.items i v (at.owners o)
      (change.owner o ∙ at.owners o i e change.there) j x (ap (λ ys. slice_get ys j) (sym change.items) ∙ found)
      ∙ ap (λ w. owned_by p nodes w o (itag j)) (sym change.node);
}

pub over_kept : (lists : List (List Item)) (m n : Mailbox) (i : ℕ) (e v : Entry) → Changes m n i e v → IsEntryOver (slice_index_or lists i []) v
    → IsOver lists m → IsOver lists n
over_kept lists m n i e v change here over = record {
  one_each = one_each_kept m n i e v change ∙ over.one_each;
  over_items =
      λ j x found. each_set (λ k y. IsEntryOver (slice_index_or lists k []) y) m.entries.items i v over.over_items here j x
      (ap (λ ys. slice_get ys j) (sym change.items) ∙ found);
  in_order = λ o. change.in_order o (over.in_order o);
}

-- what is set to what it was stays the same
pub set_to_same : (f : Entry → ℕ) (m : Mailbox) (i n : ℕ) (e : Entry) → slice_get m.entries.items i ≡ Some e → f e ≡ n
    → map f m.entries.items ≡ set (map f m.entries.items) i n
set_to_same f m i n e there same =
    sym (ap (set (map f m.entries.items) i) (sym (slice_index-map f m.entries.items i e there ∙ same)) ∙ set-get_or (map f m.entries.items) i 0)

-- ---- what is read

pub read_there : (f : Entry → ℕ) (m : Mailbox) (i : ℕ) (e : Entry) → i < length m.entries.items → e ≡ get_or m.entries.items i e
    → slice_index (map f m.entries.items) i ≡ f e
read_there f m i e lt is = slice_index-map f m.entries.items i e (slice_get_read m.entries.items (length m.entries.items) i e refl lt is)

pub read_past : (f : Entry → ℕ) (m : Mailbox) (i : ℕ) → length m.entries.items ≤ i → slice_index (map f m.entries.items) i ≡ 0
read_past f m i le = let size = length-map m.entries.items f in get_or_past (map f m.entries.items) i 0 (omega arith)

-- ---- the next event

pub if_some : {X : Type 0} (o : Option X) (P : X → Type 0) → ((x : X) → o ≡ Some x → P x) → IfSome o P
if_some None P h = tt
if_some (Some x) P h = h x refl

-- an event of an itag's stream is of that itag
pub pending_itag : (lists : List (List Item)) (counts : List ℕ) (i : Itag) (o : Option Event) → are_streams 0 lists ≡ true → i.0 < length lists
    → ((x : Event) → o ≡ Some x → pending_event lists counts i.0 ≡ Some x) → IfSome o (λ x. x.itag ≡ i)
pending_itag lists counts i o s lt pending =
    if_some o (λ x. x.itag ≡ i) (λ x e.
    let there : 0 + i.0 ≡ i.0 = omega arith in
    ap (λ n. itag n) ((event_of_stream (0 + i.0) 0 (slice_index_or lists i.0 []) (slice_index counts i.0) x (stream_of 0 lists i.0 s lt) (pending x e)).1
    ∙ there))
