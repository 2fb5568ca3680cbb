-- What looks that all pass have found.
use Rattle.std.proofs.Common.{◌≡◌, List, [], ◌∷◌, ◌++◌, length, Ok, refl, sym, ap, ◌∙◌, append_assoc, arith}
use Rattle.std.proofs.lemmas.List.{append-nil}
use Rattle.flu_plan.specs.Faults.{Found, ◌>>=◌, each}
use Rattle.flu_lemmas.proofs.Loops.{bind_ok, collect}

pub ok_same : {A : Type 0} (a b : A) → (let r : Found A = Ok a in let s : Found A = Ok b in r ≡ s) → a ≡ b
ok_same a b e = cc

module _ {X Y : Type 0} (find : X → Found Y) where
  -- of each element one thing is found
  unfoldable pub Pairs : List X → List Y → Type 0
  Pairs [] [] = Unit {0}
  Pairs [] (y ∷ ys) = ⊥
  Pairs (x ∷ xs) [] = ⊥
  Pairs (x ∷ xs) (y ∷ ys) = (find x ≡ Ok y) × Pairs xs ys

  pub collected : (done : List Y) (xs : List X) (all : List Y) → each (collect find) done xs ≡ Ok all → (ys : List Y) × (all ≡ done ++ ys) × Pairs xs ys
  unfolding each Pairs
  collected done [] all e = ([], sym (ok_same done all e) ∙ sym (append-nil done), tt)
  collected done (x ∷ xs) all e =
      let first = bind_ok (collect find done x) (λ t. each (collect find) t xs) all e in
      let one = bind_ok (find x) (λ y. Ok (done ++ y ∷ [])) first.0 first.1 in
      let more = collected first.0 xs all first.2 in
      let grown : first.0 ≡ done ++ one.0 ∷ [] = sym (ok_same (done ++ one.0 ∷ []) first.0 one.2) in
      (one.0 ∷ more.0, more.1 ∙ ap (λ d. d ++ more.0) grown ∙ append_assoc done (one.0 ∷ []) more.0, (one.1, more.2))

  -- and the other way round
  pub collects_all : (done : List Y) (xs : List X) (ys : List Y) → Pairs xs ys → each (collect find) done xs ≡ Ok (done ++ ys)
  unfolding each Pairs
  collects_all done [] [] h = ap Ok (sym (append-nil done))
  collects_all done [] (y ∷ ys) h = absurd h
  collects_all done (x ∷ xs) [] h = absurd h
  collects_all done (x ∷ xs) (y ∷ ys) h =
      ap (λ r. (r >>= λ y. Ok (done ++ y ∷ [])) >>= λ t. each (collect find) t xs) h.0
      ∙ collects_all (done ++ y ∷ []) xs ys h.1
      ∙ ap Ok (append_assoc done (y ∷ []) ys)

  pub pairs_length : (xs : List X) (ys : List Y) → Pairs xs ys → length ys ≡ length xs
  unfolding Pairs
  pairs_length [] [] h = refl
  pairs_length [] (y ∷ ys) h = absurd h
  pairs_length (x ∷ xs) [] h = absurd h
  pairs_length (x ∷ xs) (y ∷ ys) h = let more = pairs_length xs ys h.1 in omega arith
