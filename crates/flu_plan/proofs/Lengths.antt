-- The text of a plan that keeps the rules is ASCII, and short enough to be read.
use Rattle.std.proofs.Common.{◌≡◌, ◌<◌, ◌≤◌, ◌+◌, ◌*◌, ℕ, zero, suc, Bool, true, Option, Some, None, List, [], ◌∷◌, ◌++◌, length, refl, arith, length-append}
use Rattle.std.specs.Prelude.{nat_lt, nat_le, slice_get, codes}
use Rattle.std.specs.Fmt.{decimal}
use Rattle.std.specs.List.{list_all, flat_map}
use Rattle.std.specs.Str.{IsAscii}
use Rattle.std.proofs.lemmas.Fmt.{IsAscii-decimal, length-decimal-le}
use Rattle.std.proofs.lemmas.Grind.{common_steps}
use Rattle.std.proofs.lemmas.List.Sums.{sum_by-cons}
use Rattle.std.proofs.lemmas.Str.{IsAscii-append}
use Rattle.std.proofs.lemmas.Str.Ascii.{IsAscii-nil, IsAscii-cons}
use Rattle.flu_lemmas.proofs.Tests.{and_left, and_right, true_lt, true_le}
use Rattle.flu_model.specs.declared.jobs.Keys.{Keys}
use Rattle.flu_model.specs.declared.jobs.Keys.TheVariants.{Alone, One, Range}
use Rattle.flu_model.specs.declared.jobs.Program.{Program}
use Rattle.flu_model.specs.declared.plans.Pred.{Pred}
use Rattle.flu_model.specs.declared.plans.Node.{Node}
use Rattle.flu_model.specs.Contents.{key_count}
use Rattle.flu_model.specs.PlanRules.{are_small_keys, count_of_predicates}
use Rattle.flu_names.specs.Names.{is_name, is_name_byte}
use Rattle.flu_model.specs.Rules.{kind_fits, source_fits}
use Rattle.flu_layout.specs.Laid.{line_end}
use Rattle.flu_layout.specs.Lists.{keys_text}
use Rattle.flu_plan.specs.Kept.{KeepsRules}
use Rattle.flu_plan.specs.Printing.{name_of_kind, name_of_source, name_of_child, kind_text, source_text, pred_text, preds_text, kids_text, node_line, printed}

-- a text of ASCII bytes, so many at most
pub record IsShort (most : ℕ) (text : List ℕ) : Type 0 where
  pub ascii : IsAscii text
  pub few : length text ≤ most

none : (n : ℕ) → IsShort n []
none n = record { ascii = IsAscii-nil; few = omega arith }

joined : (m n k : ℕ) (a b : List ℕ) → m + n ≤ k → IsShort m a → IsShort n b → IsShort k (a ++ b)
joined m n k a b le one two =
    let long = length-append a b in
    let first = one.few in
    let second = two.few in
    record { ascii = IsAscii-append a b one.ascii two.ascii; few = omega (arith, long, first, second, le) }

ascii_of : (t : List ℕ) → list_all (λ b. nat_lt b 128) t ≡ true → IsAscii t
ascii_of [] e = IsAscii-nil
ascii_of (b ∷ bs) e = IsAscii-cons b bs (true_lt b 128 (and_left (nat_lt b 128) _ e)) (ascii_of bs (and_right (nat_lt b 128) _ e))

word : (n : ℕ) (t : List ℕ) → list_all (λ b. nat_lt b 128) t ≡ true → length t ≤ n → IsShort n t
word n t e le = record { ascii = ascii_of t e; few = le }

more : (m n : ℕ) (t : List ℕ) → m ≤ n → IsShort m t → IsShort n t
more m n t le short = let few = short.few in record { ascii = short.ascii; few = omega (arith, few, le) }

-- ---- names
ascii_letter : (b : ℕ) → is_name_byte b ≡ true → b < 128
ascii_letter b e = grind (arith, common_steps)

letters : (t : List ℕ) → list_all is_name_byte t ≡ true → IsAscii t
letters [] e = IsAscii-nil
letters (b ∷ bs) e = IsAscii-cons b bs (ascii_letter b (and_left (is_name_byte b) _ e)) (letters bs (and_right (is_name_byte b) _ e))

name : (t : List ℕ) → is_name t ≡ true → IsShort 32 t
name t e = record {
  ascii = letters t (and_right _ (list_all is_name_byte t) (and_left _ (nat_le (length t) 32) (and_left _ _ e)));
  few = true_le (length t) 32 (and_right _ (nat_le (length t) 32) (and_left _ _ e));
}

-- what holds of nothing, and of each element, holds of what stands at a place
at_place : {X : Type 0} (test : X → Bool) (P : Option X → Type 0) → P None → ((x : X) → test x ≡ true → P (Some x)) → (xs : List X)
    → list_all test xs ≡ true → (k : ℕ) → P (slice_get xs k)
at_place test P nothing some [] e k = nothing
at_place test P nothing some (x ∷ xs) e zero = some x (and_left (test x) _ e)
at_place test P nothing some (x ∷ xs) e (suc k) = at_place test P nothing some xs (and_right (test x) _ e) k

kind_name : (p : Program) (k : ℕ) → IsShort 32 (name_of_kind (slice_get p.kinds k))
kind_name p k =
    at_place (kind_fits p.families) (λ o. IsShort 32 (name_of_kind o)) (none 32) (λ kind e. name kind.name (and_left _ _ (and_left _ _ e))) p.kinds
    p.kinds_fit k

source_name : (p : Program) (k : ℕ) → IsShort 32 (name_of_source (slice_get p.sources k))
source_name p k =
    at_place (source_fits p.kinds) (λ o. IsShort 32 (name_of_source o)) (none 32)
    (λ s e. name s.name (and_left _ _ (and_left _ _ (and_left _ _ (and_left _ _ (and_left _ _ (and_left _ _ e))))))) p.sources p.sources_fit k

-- ---- predicates
number : (k : ℕ) → k < key_count → IsShort 5 (decimal k)
number k lt = record { ascii = IsAscii-decimal k (omega (arith, lt)); few = length-decimal-le 5 k (omega arith) (omega (arith, lt)) (omega (arith, lt)) }

keys : (ks : Keys) → are_small_keys ks ≡ true → IsShort 14 (keys_text ks)
keys Alone e = none 14
keys (One k) e =
    joined 6 1 14 (codes "[" ++ decimal k) (codes "]") (omega arith)
    (joined 1 5 6 (codes "[") (decimal k) (omega arith) (word 1 (codes "[") refl (omega arith)) (number k (true_lt k key_count e)))
    (word 1 (codes "]") refl (omega arith))
keys (Range lo hi) e =
    let first = number lo (true_lt lo key_count (and_left (nat_lt lo key_count) (nat_lt hi key_count) e)) in
    let last = number hi (true_lt hi key_count (and_right (nat_lt lo key_count) (nat_lt hi key_count) e)) in
    joined 13 1 14 (codes "[" ++ decimal lo ++ codes ".." ++ decimal hi) (codes "]") (omega arith)
    (joined 8 5 13 (codes "[" ++ decimal lo ++ codes "..") (decimal hi) (omega arith)
    (joined 6 2 8 (codes "[" ++ decimal lo) (codes "..") (omega arith)
    (joined 1 5 6 (codes "[") (decimal lo) (omega arith) (word 1 (codes "[") refl (omega arith)) first)
    (word 2 (codes "..") refl (omega arith))) last)
    (word 1 (codes "]") refl (omega arith))

kind : (p : Program) (o : Option ℕ) (ks : Keys) → are_small_keys ks ≡ true → IsShort 46 (kind_text p o ks)
kind p None ks e = none 46
kind p (Some k) ks e = joined 32 14 46 (name_of_kind (slice_get p.kinds k)) (keys_text ks) (omega arith) (kind_name p k) (keys ks e)

source : (p : Program) (o : Option ℕ) → IsShort 33 (source_text p o)
source p None = none 33
source p (Some k) = joined 1 32 33 (codes "@") (name_of_source (slice_get p.sources k)) (omega arith) (word 1 (codes "@") refl (omega arith)) (source_name p k)

pred : (p : Program) (q : Pred) → are_small_keys q.keys ≡ true → IsShort 79 (pred_text p q)
pred p q e = joined 46 33 79 (kind_text p q.kind q.keys) (source_text p q.source) (omega arith) (kind p q.kind q.keys e) (source p q.source)

abbrev has_small_keys : Pred → Bool
has_small_keys q = are_small_keys q.keys

others : (p : Program) (qs : List Pred) → list_all has_small_keys qs ≡ true → IsShort (81 * length qs) (flat_map (λ q. codes ", " ++ pred_text p q) qs)
others p [] e = none _
others p (q ∷ qs) e =
    joined 81 (81 * length qs) (81 * length (q ∷ qs)) (codes ", " ++ pred_text p q) (flat_map (λ q. codes ", " ++ pred_text p q) qs) (omega arith)
    (joined 2 79 81 (codes ", ") (pred_text p q) (omega arith) (word 2 (codes ", ") refl (omega arith)) (pred p q (and_left (has_small_keys q) _ e)))
    (others p qs (and_right (has_small_keys q) _ e))

preds : (p : Program) (qs : List Pred) → list_all has_small_keys qs ≡ true → IsShort (81 * length qs) (preds_text p qs)
preds p [] e = none _
preds p (q ∷ qs) e =
    joined 1 (79 + 81 * length qs) (81 * length (q ∷ qs)) (codes " ") (pred_text p q ++ flat_map (λ q. codes ", " ++ pred_text p q) qs) (omega arith)
    (word 1 (codes " ") refl (omega arith))
    (joined 79 (81 * length qs) (79 + 81 * length qs) (pred_text p q) (flat_map (λ q. codes ", " ++ pred_text p q) qs) (omega arith)
    (pred p q (and_left (has_small_keys q) _ e)) (others p qs (and_right (has_small_keys q) _ e)))

-- ---- nodes
abbrev is_named : Node → Bool
is_named node = is_name node.name

abbrev is_keyed_small : Node → Bool
is_keyed_small node = list_all has_small_keys node.preds

module _ (p : Program) (nodes : List Node) (named : list_all is_named nodes ≡ true) where
  child : (k : ℕ) → IsShort 32 (name_of_child (slice_get nodes k))
  child k = at_place is_named (λ o. IsShort 32 (name_of_child o)) (none 32) (λ node e. name node.name e) nodes named k

  kids : (o : Option (ℕ × ℕ)) → IsShort 69 (kids_text nodes o)
  kids None = none 69
  kids (Some k) =
      let left = name_of_child (slice_get nodes k.0) in
      let right = name_of_child (slice_get nodes k.1) in
      joined 37 32 69 (codes " -> " ++ left ++ codes " ") right (omega arith)
      (joined 36 1 37 (codes " -> " ++ left) (codes " ") (omega arith)
      (joined 4 32 36 (codes " -> ") left (omega arith) (word 4 (codes " -> ") refl (omega arith)) (child k.0))
      (word 1 (codes " ") refl (omega arith))) (child k.1)

  line : (node : Node) → is_named node ≡ true → is_keyed_small node ≡ true → IsShort (108 + 81 * length node.preds) (node_line p nodes node)
  line node e f =
      let n = 81 * length node.preds in
      joined (107 + n) 1 (108 + n) (codes "node " ++ node.name ++ codes ":" ++ preds_text p node.preds ++ kids_text nodes node.kids) line_end (omega arith)
      (joined (38 + n) 69 (107 + n) (codes "node " ++ node.name ++ codes ":" ++ preds_text p node.preds) (kids_text nodes node.kids) (omega arith)
      (joined 38 n (38 + n) (codes "node " ++ node.name ++ codes ":") (preds_text p node.preds) (omega arith)
      (joined 37 1 38 (codes "node " ++ node.name) (codes ":") (omega arith)
      (joined 5 32 37 (codes "node ") node.name (omega arith) (word 5 (codes "node ") refl (omega arith)) (name node.name e))
      (word 1 (codes ":") refl (omega arith)))
      (preds p node.preds f))
      (kids node.kids))
      (word 1 line_end refl (omega arith))

  lines : (some : List Node) → list_all is_named some ≡ true → list_all is_keyed_small some ≡ true
      → IsShort (108 * length some + 81 * count_of_predicates some) (flat_map (node_line p nodes) some)
  lines [] e f = none _
  lines (node ∷ some) e f =
      let count = sum_by-cons (λ (node : Node). length node.preds) node some in
      joined (108 + 81 * length node.preds) (108 * length some + 81 * count_of_predicates some)
      (108 * length (node ∷ some) + 81 * count_of_predicates (node ∷ some)) (node_line p nodes node) (flat_map (node_line p nodes) some)
      (omega (arith, count))
      (line node (and_left (is_named node) _ e) (and_left (is_keyed_small node) _ f))
      (lines some (and_right (is_named node) _ e) (and_right (is_keyed_small node) _ f))

pub kept_is_short : (p : Program) (nodes : List Node) → KeepsRules nodes → list_all is_named nodes ≡ true → IsShort 1048576 (printed p nodes)
kept_is_short p nodes kept named =
    let few = kept.few_nodes in
    let count = kept.few_predicates in
    more (108 * length nodes + 81 * count_of_predicates nodes) 1048576 (printed p nodes) (omega (arith, few, count))
    (lines p nodes named nodes named kept.small_keys)
