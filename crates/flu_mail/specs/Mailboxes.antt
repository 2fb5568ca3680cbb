-- What contracts see of a mailbox.
use Rattle.std.specs.Prelude.{◌≡◌, ℕ, Bool, Some, List, [], map, length, slice_get, slice_index_or}
use Rattle.flu_model.specs.declared.events.Item.{Item}
use Rattle.flu_model.specs.declared.jobs.Program.{Program}
use Rattle.flu_model.specs.declared.plans.Node.{Node}
use Rattle.flu_model.specs.Itags.{count_of_itags}
use Rattle.flu_lemmas.specs.Elements.{AtEach}
use Rattle.flu_model.specs.declared.events.Itag.{Itag}
use Rattle.flu_model.specs.Owners.{owns, ancestors_own}
use Rattle.flu_tables.specs.declared.tables.Tables.{Tables}
use Rattle.flu_tables.specs.Tables.{program_in, nodes_in}
use Rattle.flu_mail.specs.declared.entries.Entry.{Entry}
use Rattle.flu_mail.specs.declared.entries.Owner.{Owner}
use Rattle.flu_mail.specs.declared.entries.Owner.TheVariants.{Node as OfNode, Ancestor as OfAncestor}
use Rattle.flu_mail.specs.declared.keys.Key.{Key}
use Rattle.flu_mail.specs.declared.mailbox.Mailbox.{Mailbox}
use Rattle.flu_mail.specs.Waiting.{itag, is_leaf}
use Rattle.flu_mail.specs.Entries.{IsEntryOver, AreKeysOf, is_of}

-- the node whose worker's it is
abbrev pub node_of : Mailbox → ℕ
node_of m = m.node

-- how many items of each itag were seen
abbrev pub seen_of : Mailbox → List ℕ
seen_of m = map (λ (e : Entry). e.seen) m.entries.items

-- how many events of each itag were counted
abbrev pub counts_of : Mailbox → List ℕ
counts_of m = map (λ (e : Entry). e.count) m.entries.items

-- the node w owns an itag, or an ancestor of it does
abbrev pub owned_by : Program → List Node → ℕ → Owner → Itag → Bool
owned_by p nodes w OfNode i = owns p nodes w i
owned_by p nodes w OfAncestor i = ancestors_own p nodes w i

-- the mailbox is one of its node in a plan of a job: it has an entry for each itag, and knows whether the node is a leaf, and which itags the node and its
-- ancestors own
pub record IsAt (p : Program) (nodes : List Node) (m : Mailbox) : Type 0 where
  pub one_each : length (seen_of m) ≡ count_of_itags p
  pub leaf : m.leaf ≡ is_leaf nodes m.node
  pub owners : (o : Owner) → AtEach (λ j e. is_of o e ≡ owned_by p nodes m.node o (itag j)) m.entries.items

-- an ancestor of the mailbox's node owns itag i, in the job and the plan of some tables
abbrev pub is_above : Tables → Mailbox → ℕ → Bool
is_above t m i = ancestors_own (program_in t) (nodes_in t) m.node (itag i)

-- the keys of the node's itags, or of those above it, by which their order is kept
abbrev pub keys_of : Owner → Mailbox → List Key
keys_of OfNode m = m.own
keys_of OfAncestor m = m.above

-- the entries are those over lists of items, one for each list, and their keys are in order
pub record IsOver (lists : List (List Item)) (m : Mailbox) : Type 0 where
  pub one_each : length (seen_of m) ≡ length lists
  pub over_items : (j : ℕ) (e : Entry) → slice_get m.entries.items j ≡ Some e → IsEntryOver (slice_index_or lists j []) e
  pub in_order : (o : Owner) → AreKeysOf (is_of o) m.entries.items (keys_of o m)
