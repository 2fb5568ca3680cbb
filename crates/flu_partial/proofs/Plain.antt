-- Values of numbers, texts and lists: an object of such members is read back from its text, by its keys.
use Rattle.std.proofs.Common.{◌≡◌, ℕ, suc, max, ◌<◌, ◌≤◌, ◌^◌, Bool, false, Option, Some, List, [], ◌++◌, refl, sym, ap, ◌∙◌, arith, append-nil}
use Rattle.std.specs.Prelude.{⊤, ◌||◌, option_map, option_and_then}
use Rattle.json.specs.Json as json
use Rattle.json.specs.Lex.{tokens}
use Rattle.json.specs.Tree as tree
use Rattle.json.proofs.Printed.Decimals.{IsNumber-decimal}
use Rattle.json.proofs.Printed.Tokens.{tokens-print}
use Rattle.json.proofs.Printed.Trees.{value-json_tokens, ArePrintable-json_tokens}
use Rattle.serde_json.specs.Data.{Num, unsigned, negative, float, Data, null, boolean, number, string, array, object, Items, no_items, item, Members, no_members, member, put}
use Rattle.serde_json.specs.Data.{depth, items_depth, members_depth}
use Rattle.serde_json.specs.Read.{read, of_json, of_items, of_members, max_depth}
use Rattle.serde_json.specs.Written.{compact_text, outline, items_outline, members_outline, has_float, items_have_float}
use Rattle.serde_json.proofs.Numbers.{number_of-decimal}
use Rattle.serde_json.proofs.Texts.{print-outline}

abbrev IsSmall : Num → Type 0
IsSmall (unsigned n) = n < 2 ^ 64
IsSmall (negative z) = ⊥
IsSmall (float x) = ⊥

abbrev mutual
  pub IsPlain : Data → Type 0
  IsPlain null = ⊤
  IsPlain (boolean b) = ⊤
  IsPlain (number n) = IsSmall n
  IsPlain (string s) = ⊤
  IsPlain (array ds) = ArePlain ds
  IsPlain (object ms) = ⊥

  pub ArePlain : Items → Type 0
  ArePlain no_items = ⊤
  ArePlain (item d ds) = IsPlain d × ArePlain ds

abbrev pub HavePlain : Members → Type 0
HavePlain no_members = ⊤
HavePlain (member k d ms) = IsPlain d × HavePlain ms

-- ---- read back
mutual
  plain_read : (d : Data) → IsPlain d → of_json (outline d) ≡ Some d
  plain_read null h = refl
  plain_read (boolean b) h = refl
  plain_read (number (unsigned n)) h = ap (option_map number) (number_of-decimal n h)
  plain_read (number (negative z)) h = absurd h
  plain_read (number (float x)) h = absurd h
  plain_read (string s) h = refl
  plain_read (array ds) h = ap (option_map array) (items_read ds h)
  plain_read (object ms) h = absurd h

  items_read : (ds : Items) → ArePlain ds → of_items (items_outline ds) ≡ Some ds
  items_read no_items h = refl
  items_read (item d ds) h =
      ap (option_and_then (λ (e : Data). option_map (item e) (of_items (items_outline ds)))) (plain_read d h.0)
      ∙ ap (option_map (item d)) (items_read ds h.1)

-- the members, put together as they are read
abbrev pub put_all : Members → Members → Members
put_all no_members found = found
put_all (member k d ms) found = put_all ms (put k d found)

members_read : (ms : Members) (found : Members) → HavePlain ms → of_members (members_outline ms) found ≡ Some (put_all ms found)
members_read no_members found h = refl
members_read (member k d ms) found h =
    ap (option_and_then (λ (e : Data). of_members (members_outline ms) (put k e found))) (plain_read d h.0) ∙ members_read ms (put k d found) h.1

-- ---- their numbers
mutual
  numbers : (d : Data) → IsPlain d → tree.HasNumbers (outline d)
  numbers null h = tt
  numbers (boolean b) h = tt
  numbers (number (unsigned n)) h = IsNumber-decimal n h
  numbers (number (negative z)) h = absurd h
  numbers (number (float x)) h = absurd h
  numbers (string s) h = tt
  numbers (array ds) h = items_numbers ds h
  numbers (object ms) h = absurd h

  items_numbers : (ds : Items) → ArePlain ds → tree.ItemsHaveNumbers (items_outline ds)
  items_numbers no_items h = tt
  items_numbers (item d ds) h = (numbers d h.0, items_numbers ds h.1)

members_numbers : (ms : Members) → HavePlain ms → tree.MembersHaveNumbers (members_outline ms)
members_numbers no_members h = tt
members_numbers (member k d ms) h = (numbers d h.0, members_numbers ms h.1)

-- ---- their depth
mutual
  same_depth : (d : Data) → IsPlain d → tree.depth (outline d) ≡ depth d
  same_depth null h = refl
  same_depth (boolean b) h = refl
  same_depth (number n) h = refl
  same_depth (string s) h = refl
  same_depth (array ds) h = ap suc (same_items_depth ds h)
  same_depth (object ms) h = absurd h

  same_items_depth : (ds : Items) → ArePlain ds → tree.items_depth (items_outline ds) ≡ items_depth ds
  same_items_depth no_items h = refl
  same_items_depth (item d ds) h = ap (λ n. max n (tree.items_depth (items_outline ds))) (same_depth d h.0)
      ∙ ap (λ n. max (depth d) n) (same_items_depth ds h.1)

same_members_depth : (ms : Members) → HavePlain ms → tree.members_depth (members_outline ms) ≡ members_depth ms
same_members_depth no_members h = refl
same_members_depth (member k d ms) h = ap (λ n. max n (tree.members_depth (members_outline ms))) (same_depth d h.0)
    ∙ ap (λ n. max (depth d) n) (same_members_depth ms h.1)

-- ---- no float
mutual
  pub plain_exact : (d : Data) → IsPlain d → has_float d ≡ false
  plain_exact null h = refl
  plain_exact (boolean b) h = refl
  plain_exact (number (unsigned n)) h = refl
  plain_exact (number (negative z)) h = refl
  plain_exact (number (float x)) h = absurd h
  plain_exact (string s) h = refl
  plain_exact (array ds) h = items_exact ds h
  plain_exact (object ms) h = absurd h

  items_exact : (ds : Items) → ArePlain ds → items_have_float ds ≡ false
  items_exact no_items h = refl
  items_exact (item d ds) h = ap (λ b. b || items_have_float ds) (plain_exact d h.0) ∙ items_exact ds h.1

-- ---- the object of members, read from its text
pub object_read : (ms : Members) → HavePlain ms → members_depth ms ≤ 126 → read (compact_text (object ms)) ≡ Some (object (put_all ms no_members))
object_read ms plain shallow =
    let j = outline (object ms) in
    let low : tree.depth j ≤ max_depth = omega (arith, same_members_depth ms plain, shallow) in
    let cut : tokens (compact_text (object ms)) ≡ tree.json_tokens j ++ [] =
    ap tokens (sym (print-outline (object ms))) ∙ tokens-print (tree.json_tokens j) (ArePrintable-json_tokens j (members_numbers ms plain))
    ∙ sym (append-nil (tree.json_tokens j)) in
    ap (option_and_then of_json) (ap (option_and_then (λ q. json.if_last q.0 q.1)) (ap (json.value max_depth) cut ∙ value-json_tokens j max_depth [] low))
    ∙ ap (option_map object) (members_read ms no_members plain)
