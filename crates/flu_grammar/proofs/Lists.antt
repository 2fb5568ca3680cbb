-- Elements of lists by their places, lists whose elements all differ, and lists that go pair by pair.
use Rattle.std.proofs.Common.{◌≡◌, ◌⊎◌, inl, inr, ℕ, zero, suc, ◌+◌, ◌<◌, Bool, true, false, cond, List}
use Rattle.std.proofs.Common.{[], ◌∷◌, ◌++◌, map, length, Some, None, refl, sym, ap, subst, ◌∙◌, arith}
use Rattle.std.specs.Prelude.{slice_get, nat_lt, not, ◌||◌}
use Rattle.std.specs.List.{list_any, position, position_or_len}
use Rattle.flu_lemmas.specs.Items.{Pairs}
use Rattle.flu_lemmas.proofs.Booleans.{or_true}
use Rattle.flu_lemmas.proofs.Places.{slice_get_push}
use Rattle.flu_lemmas.proofs.Tests.{lt_true}
use Rattle.flu_grammar.specs.Means.{AllDiffer}

module _ {X : Type 0} where
  pub some_same : (x y : X) → Some x ≡ Some y → x ≡ y
  some_same x y e = cc

  pub no_some : (x : X) → None ≡ Some x → ⊥
  no_some x e = cc

  pub get_front : (xs ys : List X) (i : ℕ) (x : X) → slice_get xs i ≡ Some x → slice_get (xs ++ ys) i ≡ Some x
  get_front [] ys i x e = cc
  get_front (z ∷ xs) ys zero x e = e
  get_front (z ∷ xs) ys (suc i) x e = get_front xs ys i x e

  pub get_below : (xs : List X) (i : ℕ) (x : X) → slice_get xs i ≡ Some x → i < length xs
  get_below [] i x e = cc
  get_below (z ∷ xs) zero x e = omega arith
  get_below (z ∷ xs) (suc i) x e = let more = get_below xs i x e in omega arith

  -- ---- elements that all differ
  pub differ_none : AllDiffer {X = X} []
  differ_none = λ i j x a b. cc

  pub differ_tail : (x : X) (xs : List X) → AllDiffer (x ∷ xs) → AllDiffer xs
  differ_tail x xs d = λ i j y a b. (let same : suc i ≡ suc j = d (suc i) (suc j) y a b in omega arith)

  pub differ_head : (x : X) (xs : List X) → AllDiffer (x ∷ xs) → (i : ℕ) → slice_get xs i ≡ Some x → ⊥
  differ_head x xs d i a = let same : 0 ≡ suc i = d 0 (suc i) x refl a in omega arith

  differ_more : (x : X) (xs : List X) → ((i : ℕ) → slice_get xs i ≡ Some x → ⊥) → AllDiffer xs → (i j : ℕ) (y : X) → slice_get (x ∷ xs) i ≡ Some y
      → slice_get (x ∷ xs) j ≡ Some y → i ≡ j
  differ_more x xs new d zero zero y a b = refl
  differ_more x xs new d zero (suc j) y a b = absurd (new j (b ∙ sym a))
  differ_more x xs new d (suc i) zero y a b = absurd (new i (a ∙ sym b))
  differ_more x xs new d (suc i) (suc j) y a b = ap suc (d i j y a b)

  pub differ_cons : (x : X) (xs : List X) → ((i : ℕ) → slice_get xs i ≡ Some x → ⊥) → AllDiffer xs → AllDiffer (x ∷ xs)
  differ_cons x xs new d = λ i j y a b. differ_more x xs new d i j y a b

  pub differ_push : (xs : List X) (x : X) → ((i : ℕ) → slice_get xs i ≡ Some x → ⊥) → AllDiffer xs → AllDiffer (xs ++ x ∷ [])
  differ_push xs x new d = λ i j y a b. at i j y (slice_get_push xs x i y a) (slice_get_push xs x j y b)
    where
      at : (i j : ℕ) (y : X) → (slice_get xs i ≡ Some y) ⊎ ((i ≡ length xs) × (x ≡ y)) → (slice_get xs j ≡ Some y) ⊎ ((j ≡ length xs) × (x ≡ y)) → i ≡ j
      at i j y (inl a) (inl b) = d i j y a b
      at i j y (inl a) (inr b) = absurd (new i (a ∙ ap Some (sym b.1)))
      at i j y (inr a) (inl b) = absurd (new j (b ∙ ap Some (sym a.1)))
      at i j y (inr a) (inr b) = a.0 ∙ sym b.0

  pub differ_front : (xs ys : List X) → AllDiffer (xs ++ ys) → AllDiffer xs
  differ_front xs ys d = λ i j y a b. d i j y (get_front xs ys i y a) (get_front xs ys j y b)

  -- ---- tests of elements
  module _ (p : X → Bool) where
    pub any_none : (xs : List X) → ((i : ℕ) (x : X) → slice_get xs i ≡ Some x → p x ≡ false) → list_any p xs ≡ false
    any_none [] h = refl
    any_none (x ∷ xs) h = ap (λ b. b || list_any p xs) (h 0 x refl) ∙ any_none xs (λ i y e. h (suc i) y e)

    pub any_there : (xs : List X) (i : ℕ) (x : X) → slice_get xs i ≡ Some x → p x ≡ true → list_any p xs ≡ true
    any_there [] i x e passes = cc
    any_there (z ∷ xs) zero x e passes = let same : z ≡ x = some_same z x e in ap (λ b. b || list_any p xs) (ap p same ∙ passes)
    any_there (z ∷ xs) (suc i) x e passes = ap (λ b. p z || b) (any_there xs i x e passes) ∙ or_true (p z)

    pub met_at : (xs : List X) → list_any p xs ≡ true → (x : X) × (slice_get xs (position_or_len p xs) ≡ Some x) × (p x ≡ true)
    met_at [] e = cc
    met_at (x ∷ xs) e = by (p x) refl (met_at xs)
      where
        by : (b : Bool) → p x ≡ b → (list_any p xs ≡ true → (y : X) × (slice_get xs (position_or_len p xs) ≡ Some y) × (p y ≡ true))
            → (y : X) × (slice_get (x ∷ xs) (cond (not b) (1 + position_or_len p xs) 0) ≡ Some y) × (p y ≡ true)
        by true hit more = (x, refl, hit)
        by false miss more =
            let later = more (sym (ap (λ b. b || list_any p xs) miss) ∙ e) in
            let place : suc (position_or_len p xs) ≡ 1 + position_or_len p xs = omega arith in
            (later.0, ap (slice_get (x ∷ xs)) (sym place) ∙ later.1, later.2)

    -- the place of the only element that passes
    pub only_at : (xs : List X) (i : ℕ) (x : X) → slice_get xs i ≡ Some x → p x ≡ true → ((j : ℕ) (y : X) → slice_get xs j ≡ Some y → p y ≡ true → j ≡ i)
        → position_or_len p xs ≡ i
    only_at xs i x here passes only =
        let met = met_at xs (any_there xs i x here passes) in only (position_or_len p xs) met.0 met.1 met.2

    pub position_only : (xs : List X) (i : ℕ) (x : X) → slice_get xs i ≡ Some x → p x ≡ true
        → ((j : ℕ) (y : X) → slice_get xs j ≡ Some y → p y ≡ true → j ≡ i) → position p xs ≡ Some i
    position_only xs i x here passes only =
        ap (λ n. cond (nat_lt n (length xs)) (Some n) None) (only_at xs i x here passes only)
        ∙ ap (λ b. cond b (Some i) None) (lt_true i (length xs) (get_below xs i x here))

module _ {X Y : Type 0} where
  pub get_map : (f : X → Y) (xs : List X) (i : ℕ) (x : X) → slice_get xs i ≡ Some x → slice_get (map f xs) i ≡ Some (f x)
  get_map f [] i x e = cc
  get_map f (z ∷ xs) zero x e = ap (λ y. Some (f y)) (some_same z x e)
  get_map f (z ∷ xs) (suc i) x e = get_map f xs i x e

  pub get_unmap : (f : X → Y) (xs : List X) (i : ℕ) (y : Y) → slice_get (map f xs) i ≡ Some y → (x : X) × (slice_get xs i ≡ Some x) × (f x ≡ y)
  get_unmap f [] i y e = cc
  get_unmap f (x ∷ xs) zero y e = (x, refl, some_same (f x) y e)
  get_unmap f (x ∷ xs) (suc i) y e = get_unmap f xs i y e

  -- ---- two lists, pair by pair
  module _ (R : X → Y → Type 0) where
    pub pairs_left : (xs : List X) (ys : List Y) → Pairs R xs ys → (i : ℕ) (x : X) → slice_get xs i ≡ Some x → (y : Y) × (slice_get ys i ≡ Some y) × R x y
    pairs_left [] ys h i x e = cc
    pairs_left (z ∷ xs) [] h i x e = absurd h
    pairs_left (z ∷ xs) (y ∷ ys) h zero x e = (y, refl, subst (λ (v : X). R v y) (some_same z x e) h.0)
    pairs_left (z ∷ xs) (y ∷ ys) h (suc i) x e = pairs_left xs ys h.1 i x e

    pub pairs_right : (xs : List X) (ys : List Y) → Pairs R xs ys → (i : ℕ) (y : Y) → slice_get ys i ≡ Some y → (x : X) × (slice_get xs i ≡ Some x) × R x y
    pairs_right xs [] h i y e = cc
    pairs_right [] (z ∷ ys) h i y e = absurd h
    pairs_right (x ∷ xs) (z ∷ ys) h zero y e = (x, refl, subst (λ (v : Y). R x v) (some_same z y e) h.0)
    pairs_right (x ∷ xs) (z ∷ ys) h (suc i) y e = pairs_right xs ys h.1 i y e

    pub pairs_length : (xs : List X) (ys : List Y) → Pairs R xs ys → length ys ≡ length xs
    pairs_length [] [] h = refl
    pairs_length [] (y ∷ ys) h = absurd h
    pairs_length (x ∷ xs) [] h = absurd h
    pairs_length (x ∷ xs) (y ∷ ys) h = let more = pairs_length xs ys h.1 in omega arith

    -- of each element of the one there is one for the other
    pub pairs_made : (xs : List X) → ((i : ℕ) (x : X) → slice_get xs i ≡ Some x → (y : Y) × R x y) → (ys : List Y) × Pairs R xs ys
    pairs_made [] h = ([], tt)
    pairs_made (x ∷ xs) h =
        let first = h 0 x refl in
        let more = pairs_made xs (λ i y e. h (suc i) y e) in
        (first.0 ∷ more.0, (first.1, more.1))

  pub pairs_weaker : (R Q : X → Y → Type 0) → ((x : X) (y : Y) → R x y → Q x y) → (xs : List X) (ys : List Y) → Pairs R xs ys → Pairs Q xs ys
  pairs_weaker R Q f [] [] h = tt
  pairs_weaker R Q f [] (y ∷ ys) h = absurd h
  pairs_weaker R Q f (x ∷ xs) [] h = absurd h
  pairs_weaker R Q f (x ∷ xs) (y ∷ ys) h = (f x y h.0, pairs_weaker R Q f xs ys h.1)

-- ---- pairs of longer lists
module _ {X Y : Type 0} (R : X → Y → Type 0) where
  pub pairs_push : (xs : List X) (ys : List Y) (x : X) (y : Y) → Pairs R xs ys → R x y → Pairs R (xs ++ x ∷ []) (ys ++ y ∷ [])
  pairs_push [] [] x y h r = (r, tt)
  pairs_push [] (w ∷ ys) x y h r = absurd h
  pairs_push (z ∷ xs) [] x y h r = absurd h
  pairs_push (z ∷ xs) (w ∷ ys) x y h r = (h.0, pairs_push xs ys x y h.1 r)

  -- where the one list has an element in its middle, the other has one too
  pub record Split (xs : List X) (x : X) (rest : List X) (all : List Y) : Type 0 where
    pub front : List Y
    pub one : Y
    pub back : List Y
    pub is : all ≡ front ++ one ∷ back
    pub left : Pairs R xs front
    pub here : R x one

  pub pairs_split : (xs : List X) (x : X) (rest : List X) (all : List Y) → Pairs R (xs ++ x ∷ rest) all → Split xs x rest all
  pairs_split [] x rest [] h = absurd h
  pairs_split [] x rest (y ∷ ys) h = record { front = []; one = y; back = ys; is = refl; left = tt; here = h.0 }
  pairs_split (z ∷ xs) x rest [] h = absurd h
  pairs_split (z ∷ xs) x rest (y ∷ ys) h =
      let more = pairs_split xs x rest ys h.1 in
      record { front = y ∷ more.front; one = more.one; back = more.back; is = ap (λ l. y ∷ l) more.is; left = (h.0, more.left); here = more.here }

  -- where each element of the one goes with one thing at most, so does the list
  pub pairs_same : ((x : X) (y z : Y) → R x y → R x z → y ≡ z) → (xs : List X) (ys zs : List Y) → Pairs R xs ys → Pairs R xs zs → ys ≡ zs
  pairs_same same [] [] [] h k = refl
  pairs_same same [] [] (z ∷ zs) h k = absurd k
  pairs_same same [] (y ∷ ys) zs h k = absurd h
  pairs_same same (x ∷ xs) [] zs h k = absurd h
  pairs_same same (x ∷ xs) (y ∷ ys) [] h k = absurd k
  pairs_same same (x ∷ xs) (y ∷ ys) (z ∷ zs) h k = λ i. same x y z h.0 k.0 i ∷ pairs_same same xs ys zs h.1 k.1 i

pub get_behind : {X : Type 0} (xs ys : List X) (i : ℕ) (y : X) → slice_get ys i ≡ Some y → slice_get (xs ++ ys) (length xs + i) ≡ Some y
get_behind [] ys i y e = let zero_more : 0 + i ≡ i = omega arith in ap (slice_get ys) zero_more ∙ e
get_behind (x ∷ xs) ys i y e =
    let place : suc (length xs) + i ≡ suc (length xs + i) = omega arith in ap (slice_get (x ∷ (xs ++ ys))) place ∙ get_behind xs ys i y e
