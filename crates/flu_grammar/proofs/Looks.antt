-- Looks that find something: what they found, and that they find it.
use Rattle.std.proofs.Common.{◌≡◌, Bool, true, false, cond, List, [], ◌∷◌, ◌++◌, Ok, Err, refl, sym, ap, subst, ◌∙◌, append_assoc}
use Rattle.std.specs.Prelude.{Result}
use Rattle.std.proofs.lemmas.List.{append-nil}
use Rattle.flu_lemmas.specs.Items.{Pairs}
use Rattle.flu_lemmas.specs.Loops.{◌>>=◌, ◌>>◌, each}
use Rattle.flu_lemmas.proofs.Loops.{bind_ok, collect}

module _ {E A : Type 0} where
  pub ok_same : (a b : A) → (let r : Result A E = Ok a in let s : Result A E = Ok b in r ≡ s) → a ≡ b
  ok_same a b e = cc

  pub ok_ok : (a b : A) → a ≡ b → (let r : Result A E = Ok a in let s : Result A E = Ok b in r ≡ s)
  ok_ok a b e = ap (λ (x : A). let r : Result A E = Ok x in r) e

module _ {E B : Type 0} where
  -- a look that only passes, before another
  pub passed : (b : Bool) (fault : E) (rest : Result B E) (y : B) → (cond {A = Result (Unit {0}) E} b (Ok tt) (Err fault) >> rest) ≡ Ok y
      → (b ≡ true) × (rest ≡ Ok y)
  passed true fault rest y e = (refl, e)
  passed false fault rest y e = absurd cc

  pub passes : (b : Bool) (fault : E) (rest : Result B E) (y : B) → b ≡ true → rest ≡ Ok y
      → (cond {A = Result (Unit {0}) E} b (Ok tt) (Err fault) >> rest) ≡ Ok y
  passes b fault rest y t e = ap (λ c. cond {A = Result (Unit {0}) E} c (Ok tt) (Err fault) >> rest) t ∙ e

module _ {E A B : Type 0} where
  pub binds : (r : Result A E) (g : A → Result B E) (x : A) (y : B) → r ≡ Ok x → g x ≡ Ok y → (r >>= g) ≡ Ok y
  binds r g x y a b = ap (λ s. s >>= g) a ∙ b

  pub thens : (r : Result A E) (g : Result B E) (x : A) (y : B) → r ≡ Ok x → g ≡ Ok y → (r >> g) ≡ Ok y
  thens r g x y a b = ap (λ s. s >> g) a ∙ b

module _ {E X Y : Type 0} (find : X → Result Y E) where
  abbrev pub Finds : X → Y → Type 0
  Finds x y = find x ≡ Ok y

  -- of each element one thing is found
  pub collected : (done : List Y) (xs : List X) (all : List Y) → each (collect find) done xs ≡ Ok all → (ys : List Y) × (all ≡ done ++ ys) × Pairs Finds xs ys
  unfolding each
  collected done [] all e = ([], sym (ok_same done all e) ∙ sym (append-nil done), tt)
  collected done (x ∷ xs) all e =
      let first = bind_ok (collect find done x) (λ t. each (collect find) t xs) all e in
      let one = bind_ok (find x) (λ y. Ok (done ++ y ∷ [])) first.0 first.1 in
      let more = collected first.0 xs all first.2 in
      let grown : first.0 ≡ done ++ one.0 ∷ [] = sym (ok_same (done ++ one.0 ∷ []) first.0 one.2) in
      (one.0 ∷ more.0, more.1 ∙ ap (λ d. d ++ more.0) grown ∙ append_assoc done (one.0 ∷ []) more.0, (one.1, more.2))

  pub found_each : (xs : List X) (all : List Y) → each (collect find) [] xs ≡ Ok all → Pairs Finds xs all
  found_each xs all e = let got = collected [] xs all e in subst (λ (ys : List Y). Pairs Finds xs ys) (sym got.1) got.2

  -- and the other way round
  collects_all : (done : List Y) (xs : List X) (ys : List Y) → Pairs Finds xs ys → each (collect find) done xs ≡ Ok (done ++ ys)
  unfolding each
  collects_all done [] [] h = ap Ok (sym (append-nil done))
  collects_all done [] (y ∷ ys) h = absurd h
  collects_all done (x ∷ xs) [] h = absurd h
  collects_all done (x ∷ xs) (y ∷ ys) h =
      ap (λ r. (r >>= λ y. Ok (done ++ y ∷ [])) >>= λ t. each (collect find) t xs) h.0
      ∙ collects_all (done ++ y ∷ []) xs ys h.1
      ∙ ap Ok (append_assoc done (y ∷ []) ys)

  pub finds_each : (xs : List X) (ys : List Y) → Pairs Finds xs ys → each (collect find) [] xs ≡ Ok ys
  finds_each xs ys h = collects_all [] xs ys h
