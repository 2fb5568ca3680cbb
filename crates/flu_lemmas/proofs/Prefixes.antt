-- The front of a list that passes a test, what is found in a list, and choices.
use Rattle.std.proofs.Common.{◌≡◌, ℕ, suc, ◌+◌, ◌<◌, ◌≤◌, Bool, true, false, cond, List, [], ◌∷◌, ◌++◌, length, get_or, take, drop, Option, Some, None, refl}
use Rattle.std.proofs.Common.{sym, subst, ◌⊎◌, inl, inr, ◌∙◌, ap, add-zero, add-one, arith}
use Rattle.std.specs.Prelude.{option_map}
use Rattle.flu_lemmas.proofs.Tests.{and_left, and_right}
use Rattle.std.specs.List.{AllPass, list_all, prefix_len, find}
use Rattle.std.proofs.Math.Seq.{drop-cons}
use Rattle.std.proofs.lemmas.Bool.{cases_lt}
use Rattle.std.proofs.lemmas.List.{get_or-take, get_or-drop, get_or_past, length-take, length-drop, take-append-drop, take_more}
use Rattle.std.proofs.lemmas.List.Sums.{prefix_len_passes, list_all-from_AllPass}
use Rattle.std.proofs.lemmas.List.Folds.{length-prefix_len}

-- what stands at a place is not past the end, unless it is 0
pub within_read : (xs : List ℕ) (n x : ℕ) → get_or xs n 0 ≡ x → 0 < x → n < length xs
within_read xs n x e some = elim (cases_lt n (length xs)) [ inl lt ↦ lt | inr le ↦ absurd (omega (arith, get_or_past xs n 0 le)) ]

pub chosen : {A : Type 0} (b : Bool) (x y z : A) → cond b x y ≡ z → ((b ≡ true) × (x ≡ z)) ⊎ ((b ≡ false) × (y ≡ z))
chosen true x y z e = inl (refl, e)
chosen false x y z e = inr (refl, e)

pub mapped : {A B : Type 0} (g : A → B) (o : Option A) (y : B) → option_map g o ≡ Some y → (x : A) × (o ≡ Some x) × (g x ≡ y)
mapped g None y e = absurd cc
mapped g (Some x) y e = (x, refl, cc)

-- what is found passes
pub find_passes : {X : Type 0} (p : X → Bool) (xs : List X) (x : X) → find p xs ≡ Some x → p x ≡ true
find_passes p [] x e = absurd cc
find_passes p (y ∷ ys) x e =
    elim (chosen (p y) (Some y) (find p ys) (Some x) e) [
      | inl h ↦ let same : y ≡ x = cc in subst (λ z. p z ≡ true) same h.0
      | inr h ↦ find_passes p ys x h.1
    ]

-- what is found passes each test that all elements pass
pub find_all : {X : Type 0} (p q : X → Bool) (xs : List X) (x : X) → find p xs ≡ Some x → list_all q xs ≡ true → q x ≡ true
find_all p q [] x e all = absurd cc
find_all p q (y ∷ ys) x e all =
    elim (chosen (p y) (Some y) (find p ys) (Some x) e) [
      | inl h ↦ let same : y ≡ x = cc in subst (λ z. q z ≡ true) same (and_left (q y) (list_all q ys) all)
      | inr h ↦ find_all p q ys x h.1 (and_right (q y) (list_all q ys) all)
    ]

-- the longest run passes
pub AllPass-prefix_len : (p : ℕ → Bool) (xs : List ℕ) → AllPass p (take (prefix_len p xs) xs)
AllPass-prefix_len p xs = λ k d lt.
    let below : k < prefix_len p xs = omega (arith, length-prefix_len p xs) in
    rw (get_or-take (prefix_len p xs) xs k d below) (prefix_len_passes p xs k d below)

pub list_all-prefix_len : (p : ℕ → Bool) (xs : List ℕ) → list_all p (take (prefix_len p xs) xs) ≡ true
list_all-prefix_len p xs = list_all-from_AllPass p (take (prefix_len p xs) xs) (AllPass-prefix_len p xs)

-- no front that passes is longer than the longest run
pub prefix_len-longest : (p : ℕ → Bool) (front rest : List ℕ) → list_all p front ≡ true → length front ≤ prefix_len p (front ++ rest)
prefix_len-longest p [] rest all = omega arith
prefix_len-longest p (x ∷ xs) rest all =
    let so_far = prefix_len-longest p xs rest (and_right (p x) (list_all p xs) all) in
    rw (and_left (p x) (list_all p xs) all) (omega arith)

pub prefix_len_some : (p : ℕ → Bool) (b : ℕ) (bytes : List ℕ) → p b ≡ true → 0 < prefix_len p (b ∷ bytes)
prefix_len_some p b bytes e = rw e (omega arith)

-- a list with an element is that element and the rest
pub first_and_rest : (s : List ℕ) → 0 < length s → s ≡ get_or s 0 0 ∷ drop 1 s
first_and_rest [] some = absurd (omega arith)
first_and_rest (b ∷ s) some = refl

-- a front that passes is at most as long as the longest run
pub prefix_len-take : (p : ℕ → Bool) (bytes : List ℕ) (n : ℕ) → list_all p (take n bytes) ≡ true → n ≤ length bytes → n ≤ prefix_len p bytes
prefix_len-take p bytes n all le =
    let whole : take n bytes ++ drop n bytes ≡ bytes = take-append-drop n bytes in
    let longest = prefix_len-longest p (take n bytes) (drop n bytes) all in
    let same = ap (prefix_len p) whole in
    omega (arith, length-take n bytes, longest, same)

-- one byte more
pub drop_one_more : (bytes : List ℕ) (n b : ℕ) (rest : List ℕ) → drop n bytes ≡ b ∷ rest
    → (n < length bytes) × (get_or bytes n 0 ≡ b) × (drop (n + 1) bytes ≡ rest)
drop_one_more bytes n b rest e =
    let len : length (drop n bytes) ≡ length (b ∷ rest) = ap length e in
    let lt : n < length bytes = omega (arith, length-drop n bytes, len) in
    let read : get_or bytes n 0 ≡ b =
    ap (λ (k : ℕ). get_or bytes k 0) (sym (add-zero n)) ∙ sym (get_or-drop n bytes 0 0) ∙ ap (λ (xs : List ℕ). get_or xs 0 0) e in
    let at_n : drop n bytes ≡ get_or bytes n 0 ∷ drop (suc n) bytes = drop-cons bytes n 0 lt in
    let both : get_or bytes n 0 ∷ drop (suc n) bytes ≡ b ∷ rest = sym at_n ∙ e in
    let rest_is : drop (suc n) bytes ≡ rest = cc in
    (lt, read, rw add-one rest_is)

pub drop_none : (bytes : List ℕ) (n : ℕ) → drop n bytes ≡ [] → length bytes ≤ n
drop_none bytes n e = let len = ap length e in omega (arith, length-drop n bytes, len)

pub take_one_more : (bytes : List ℕ) (n b : ℕ) (rest : List ℕ) → drop n bytes ≡ b ∷ rest → (n < length bytes) × (take (n + 1) bytes ≡ take n bytes ++ b ∷ [])
take_one_more bytes n b rest e =
    let more = drop_one_more bytes n b rest e in
    (more.0, take_more bytes n 0 more.0 ∙ ap (λ (x : ℕ). take n bytes ++ x ∷ []) more.1)
