-- Heads of declarations, each with its number, and how they are looked up by name.
use Rattle.std.proofs.Common.{◌≡◌, ℕ, zero, suc, ◌+◌, Bool, true, false, List, [], ◌∷◌, ◌++◌, map, length, Some, refl, sym, ap, ◌∙◌, arith}
use Rattle.std.specs.Prelude.{slice_get, is_some, if◌then◌else◌, ◌||◌}
use Rattle.std.specs.List.{list_any}
use Rattle.std.specs.Str.{bytes_eq}
use Rattle.flu_lemmas.proofs.Tests.{false_if_not}
use Rattle.flu_lemmas.proofs.Bytes.{bytes_itself, bytes_is}
use Rattle.flu_parse.specs.Naming.{look_up}
use Rattle.flu_grammar.specs.Means.{AllDiffer}
use Rattle.flu_grammar.proofs.Lists.{some_same, get_map, differ_tail, differ_head}

module _ {X H : Type 0} (name : X → List ℕ) (head : ℕ → X → H) where
  abbrev pub heads : ℕ → List X → List (List ℕ × H)
  heads i [] = []
  heads i (x ∷ xs) = (name x, head i x) ∷ heads (i + 1) xs

  pub heads_more : (i : ℕ) (xs : List X) (x : X) → heads i (xs ++ x ∷ []) ≡ heads i xs ++ (name x, head (i + length xs) x) ∷ []
  heads_more i [] x = let zero_more : i ≡ i + 0 = omega arith in ap (λ n. (name x, head n x) ∷ []) zero_more
  heads_more i (y ∷ ys) x =
      let place : i + 1 + length ys ≡ i + suc (length ys) = omega arith in
      ap (λ l. (name y, head i y) ∷ l) (heads_more (i + 1) ys x ∙ ap (λ n. heads (i + 1) ys ++ (name x, head n x) ∷ []) place)

  -- what is looked up is the head of a declaration with the name
  pub record HeadFound (xs : List X) (s : List ℕ) (i : ℕ) (h : H) : Type 0 where
    pub place : ℕ
    pub declared : X
    pub here : slice_get xs place ≡ Some declared
    pub named : name declared ≡ s
    pub is : head (i + place) declared ≡ h

  pub looked_up : (i : ℕ) (xs : List X) (s : List ℕ) (h : H) → look_up s (heads i xs) ≡ Some h → HeadFound xs s i h
  looked_up i [] s h e = absurd cc
  looked_up i (x ∷ xs) s h e = by (bytes_eq s (name x)) refl e (looked_up (i + 1) xs s h)
    where
      by : (b : Bool) → bytes_eq s (name x) ≡ b → (if b then Some (head i x) else look_up s (heads (i + 1) xs)) ≡ Some h
          → (look_up s (heads (i + 1) xs) ≡ Some h → HeadFound xs s (i + 1) h) → HeadFound (x ∷ xs) s i h
      by true hit e more =
          let zero_more : i + 0 ≡ i = omega arith in
          record { place = 0; declared = x; here = refl; named = sym (bytes_is s (name x) hit); is = ap (λ n. head n x) zero_more ∙ some_same (head i x) h e }
      by false miss e more =
          let m = more e in
          let place : i + suc m.place ≡ i + 1 + m.place = omega arith in
          record { place = suc m.place; declared = m.declared; here = m.here; named = m.named; is = ap (λ n. head n m.declared) place ∙ m.is }

  -- and is found where one has the name, and no other
  pub looks_up : (i : ℕ) (xs : List X) (k : ℕ) (x : X) → AllDiffer (map name xs) → slice_get xs k ≡ Some x
      → look_up (name x) (heads i xs) ≡ Some (head (i + k) x)
  looks_up i [] k x d here = absurd cc
  looks_up i (y ∷ ys) zero x d here =
      let same : x ≡ y = sym (some_same y x here) in
      let zero_more : i ≡ i + 0 = omega arith in
      ap (λ b. if b then Some (head i y) else look_up (name x) (heads (i + 1) ys)) (ap (λ (z : X). bytes_eq (name x) (name z)) (sym same) ∙ bytes_itself
      (name x))
      ∙ (λ j. Some (head (zero_more j) (sym same j)))
  looks_up i (y ∷ ys) (suc k) x d here =
      let other : bytes_eq (name x) (name y) ≡ false = false_if_not (bytes_eq (name x) (name y)) (λ same. differ_head (name y) (map name ys) d k
      (get_map name ys k x here ∙ ap (λ (n : List ℕ). Some n) (bytes_is (name x) (name y) same))) in
      let place : i + 1 + k ≡ i + suc k = omega arith in
      ap (λ b. if b then Some (head i y) else look_up (name x) (heads (i + 1) ys)) other
      ∙ looks_up (i + 1) ys k x (differ_tail (name y) (map name ys) d) here
      ∙ ap (λ n. Some (head n x)) place

  -- whether a name is declared
  pub is_headed : (i : ℕ) (xs : List X) (s : List ℕ) → is_some (look_up s (heads i xs)) ≡ list_any (bytes_eq s) (map name xs)
  is_headed i [] s = refl
  is_headed i (x ∷ xs) s = by (bytes_eq s (name x)) (is_headed (i + 1) xs s)
    where
      by : (b : Bool) → is_some (look_up s (heads (i + 1) xs)) ≡ list_any (bytes_eq s) (map name xs)
          → is_some (if b then Some (head i x) else look_up s (heads (i + 1) xs)) ≡ (b || list_any (bytes_eq s) (map name xs))
      by true more = refl
      by false more = more
