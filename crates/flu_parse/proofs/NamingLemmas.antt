-- Names that are looked up, and one name more.
use Rattle.std.proofs.Common.{◌≡◌, ℕ, Bool, true, false, List, [], ◌∷◌, ◌++◌, map, Option, Some, None, refl, sym, ap, ◌∙◌}
use Rattle.std.specs.Prelude.{◌||◌, is_some, if◌then◌else◌}
use Rattle.std.specs.List.{list_any}
use Rattle.std.specs.Str.{bytes_eq}
use Rattle.std.specs.Map.{lookup}
use Rattle.indexmap.specs.IndexMap.{insert_entry}
use Rattle.flu_lemmas.proofs.Booleans.{none_of_three, or_false_left, or_false_right}
use Rattle.flu_parse.specs.Naming.{Naming, look_up, is_declared}

-- an entry by the bytes of its key
abbrev pub shown : {K X : Type 0} → (K → List ℕ) → K × X → List ℕ × X
shown bytes e = (bytes e.0, e.1)

-- looking up a key is looking up its bytes
pub lookup_by_bytes : {K X : Type 0} (bytes : K → List ℕ) (name : List ℕ) (es : List (K × X))
    → lookup (λ k. bytes_eq name (bytes k)) es ≡ look_up name (map (shown bytes) es)
lookup_by_bytes bytes name [] = refl
lookup_by_bytes bytes name (e ∷ es) = ap (λ r. if bytes_eq name (bytes e.0) then Some e.1 else r) (lookup_by_bytes bytes name es)

pub none_if_not_some : {X : Type 0} (o : Option X) → is_some o ≡ false → o ≡ None
none_if_not_some None e = refl
none_if_not_some (Some x) e = absurd (cc)

none_not_some : {X : Type 0} {x : X} → None ≡ Some x → ⊥
none_not_some e = cc

module _ {K X : Type 0} (bytes : K → List ℕ) (k : K) (v : X) where
  -- what is inserted under a new name goes last
  pub insert_new : (es : List (K × X)) → look_up (bytes k) (map (shown bytes) es) ≡ None
      → map (shown bytes) (insert_entry (λ a b. bytes_eq (bytes a) (bytes b)) es k v) ≡ map (shown bytes) es ++ (bytes k, v) ∷ []
  insert_new [] absent = refl
  insert_new (e ∷ es) absent = by (bytes_eq (bytes k) (bytes e.0)) refl (insert_new es)
    where
      by : (b : Bool) → bytes_eq (bytes k) (bytes e.0) ≡ b
          → (look_up (bytes k) (map (shown bytes) es) ≡ None → map (shown bytes) (insert_entry (λ a b. bytes_eq (bytes a) (bytes b)) es k v) ≡ map
          (shown bytes) es ++ (bytes k, v) ∷ [])
          → map (shown bytes) (insert_entry (λ a b. bytes_eq (bytes a) (bytes b)) (e ∷ es) k v) ≡ map (shown bytes) (e ∷ es) ++ (bytes k, v) ∷ []
      by true t rest = absurd (none_not_some (sym absent ∙ ap (λ b. if b then Some e.1 else look_up (bytes k) (map (shown bytes) es)) t))
      by false t rest =
          ap (λ b. map (shown bytes) (if b then (e.0, v) ∷ es else e ∷ insert_entry (λ a b. bytes_eq (bytes a) (bytes b)) es k v)) t
          ∙ ap (λ l. (bytes e.0, e.1) ∷ l) (rest (sym (ap (λ b. if b then Some e.1 else look_up (bytes k) (map (shown bytes) es)) t) ∙ absent))

-- none of four
four_apart : (a b c d : Bool) → (a || b || c || d) ≡ false → (a ≡ false) × (b ≡ false) × (c ≡ false) × (d ≡ false)
four_apart a b c d e =
    let front = or_false_left (a || b || c) d e in
    let three = none_of_three a b c front in
    (three.0, three.1, three.2, or_false_right (a || b || c) d e)

-- a name that nothing has, among families, kinds, sources and lists
pub undeclared : (n : Naming) (name : List ℕ) → is_declared n name ≡ false
    → (look_up name n.families ≡ None) × (look_up name n.kinds ≡ None) × (list_any (bytes_eq name) n.sources ≡ false) × (list_any (bytes_eq name) n.lists ≡ false)
undeclared n name e =
    let none = four_apart (is_some (look_up name n.families)) (is_some (look_up name n.kinds)) (list_any (bytes_eq name) n.sources)
    (list_any (bytes_eq name) n.lists) e in
    (none_if_not_some (look_up name n.families) none.0, none_if_not_some (look_up name n.kinds) none.1, none.2, none.3)
