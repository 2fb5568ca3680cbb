-- Where bytes are cut at their line feeds.
use Rattle.std.proofs.Common.{◌≡◌, ℕ, zero, suc, ◌+◌, ◌<◌, eqb, List, [], ◌∷◌, ◌++◌, length, take, drop, refl, ap, ◌-◌, length-append, add-one, arith, inl, inr}
use Rattle.std.specs.List.{onto_first}
use Rattle.std.proofs.lemmas.Bool.{cases_Bool}
use Rattle.std.proofs.lemmas.Bool.Decides.{nat_tests}
use Rattle.std.proofs.lemmas.List.{drop_at, take_all}
use Rattle.flu_lemmas.specs.Lines.{line_len, lines_of}

-- a line that has no line feed is cut off at the one behind it
pub lines_of-cut : (line rest : List ℕ) → line_len line ≡ length line → lines_of (line ++ (10 ∷ rest)) ≡ line ∷ lines_of rest
unfolding lines_of
lines_of-cut [] rest one = refl
lines_of-cut (b ∷ line) rest one =
    elim (cases_Bool (eqb b 10)) [
      | inl hit ↦ absurd (omega (arith, rw hit at one))
      | inr miss ↦ rw (miss, lines_of-cut line rest (omega (arith, rw miss at one))) refl
    ]

-- bytes that have a line feed are a line, the line feed and the rest
pub split_line : (bytes : List ℕ) → line_len bytes < length bytes → bytes ≡ take (line_len bytes) bytes ++ (10 ∷ drop (line_len bytes + 1) bytes)
split_line [] lt = absurd (omega arith)
split_line (b ∷ bytes) lt =
    elim (cases_Bool (eqb b 10)) [
      | inl hit ↦ let e : b ≡ 10 = grind (arith, nat_tests) in rw (hit, e) refl
      | inr miss ↦
          let shorter : line_len bytes < length bytes = omega (arith, rw miss at lt) in
          let n : 1 + line_len bytes ≡ suc (line_len bytes) = omega arith in
          let m : suc (line_len bytes) + 1 ≡ suc (line_len bytes + 1) = omega arith in
          rw (miss, n, m) (ap (λ (x : List ℕ). b ∷ x) (split_line bytes shorter))
    ]

pub one_line : (bytes : List ℕ) → line_len (take (line_len bytes) bytes) ≡ length (take (line_len bytes) bytes)
one_line [] = refl
one_line (b ∷ bytes) =
    elim (cases_Bool (eqb b 10)) [
      | inl hit ↦ rw hit refl
      | inr miss ↦
          let n : 1 + line_len bytes ≡ suc (line_len bytes) = omega arith in
          let h = one_line bytes in
          rw (miss, n, miss) (omega (arith, h))
    ]

-- the line and its line feed
pub take_line : (bytes : List ℕ) → line_len bytes < length bytes → take (line_len bytes + 1) bytes ≡ take (line_len bytes) bytes ++ (10 ∷ [])
take_line [] lt = absurd (omega arith)
take_line (b ∷ bytes) lt =
    elim (cases_Bool (eqb b 10)) [
      | inl hit ↦ let e : b ≡ 10 = grind (arith, nat_tests) in rw (hit, e) refl
      | inr miss ↦
          let shorter : line_len bytes < length bytes = omega (arith, rw miss at lt) in
          let n : 1 + line_len bytes ≡ suc (line_len bytes) = omega arith in
          let m : suc (line_len bytes) + 1 ≡ suc (line_len bytes + 1) = omega arith in
          rw (miss, n, m) (ap (λ (x : List ℕ). b ∷ x) (take_line bytes shorter))
    ]

-- what stands behind the bytes that were held
pub behind_held : (len : ℕ) (bytes held more : List ℕ) → bytes ≡ held ++ more → len ≡ length held → take (length bytes - len) (drop len bytes) ≡ more
behind_held len bytes held more e size =
    let front : drop len bytes ≡ more = rw (e, size) (drop_at held more (length held) refl) in
    let both : length bytes ≡ length held + length more = rw e (length-append held more) in
    let n : length bytes - len ≡ length more = omega arith in
    rw (front, n) (take_all (length more) more (omega arith))

-- where no line feed is held, the first may stand in what comes
pub line_len-more : (held more : List ℕ) → line_len held ≡ length held → line_len (held ++ more) ≡ length held + line_len more
line_len-more [] more one = omega arith
line_len-more (b ∷ held) more one =
    elim (cases_Bool (eqb b 10)) [
      | inl hit ↦ absurd (omega (arith, rw hit at one))
      | inr miss ↦ let h = line_len-more held more (omega (arith, rw miss at one)) in rw miss (omega (arith, h))
    ]

pub lines_of-line : (held rest : List ℕ) → line_len held < length held
    → lines_of (held ++ rest) ≡ take (line_len held) held ∷ lines_of (drop (line_len held + 1) held ++ rest)
unfolding lines_of
lines_of-line [] rest lt = absurd (omega arith)
lines_of-line (b ∷ held) rest lt =
    elim (cases_Bool (eqb b 10)) [
      | inl hit ↦ rw hit refl
      | inr miss ↦
          let shorter : line_len held < length held = omega (arith, rw miss at lt) in
          let n : 1 + line_len held ≡ suc (line_len held) = omega arith in
          rw (miss, n, add-one, lines_of-line held rest shorter, add-one) refl
    ]

pub lines_of-last : (held : List ℕ) → line_len held ≡ length held → 0 < length held → lines_of held ≡ held ∷ []
unfolding lines_of
lines_of-last [] e some = absurd (omega arith)
lines_of-last (b ∷ []) e some =
    elim (cases_Bool (eqb b 10)) [
      | inl hit ↦ absurd (omega (arith, rw hit at e))
      | inr miss ↦ rw miss refl
    ]
lines_of-last (b ∷ c ∷ held) e some =
    elim (cases_Bool (eqb b 10)) [
      | inl hit ↦ absurd (omega (arith, rw hit at e))
      | inr miss ↦
          let shorter : line_len (c ∷ held) ≡ length (c ∷ held) = omega (arith, rw miss at e) in
          let more : lines_of (c ∷ held) ≡ (c ∷ held) ∷ [] = lines_of-last (c ∷ held) shorter (omega arith) in
          rw miss (ap (onto_first b) more)
    ]

onto_first_long : (k b : ℕ) (lines : List (List ℕ)) → ((l : List ℕ) × (ls : List (List ℕ)) × (lines ≡ l ∷ ls) × (k < length l))
    → (l : List ℕ) × (ls : List (List ℕ)) × (onto_first b lines ≡ l ∷ ls) × (suc k < length l)
onto_first_long k b lines h = (b ∷ h.0, h.1, rw h.2 refl, omega (arith, h.3))

onto_first_some : (b : ℕ) (lines : List (List ℕ)) → (l : List ℕ) × (ls : List (List ℕ)) × (onto_first b lines ≡ l ∷ ls) × (0 < length l)
onto_first_some b [] = (b ∷ [], [], refl, omega arith)
onto_first_some b (l ∷ ls) = (b ∷ l, ls, refl, omega arith)

pub lines_of-long : (k : ℕ) (held rest : List ℕ) → k < line_len held
    → (l : List ℕ) × (ls : List (List ℕ)) × (lines_of (held ++ rest) ≡ l ∷ ls) × (k < length l)
unfolding lines_of
lines_of-long k [] rest lt = absurd (omega arith)
lines_of-long zero (b ∷ held) rest lt =
    elim (cases_Bool (eqb b 10)) [
      | inl hit ↦ absurd (omega (arith, rw hit at lt))
      | inr miss ↦ rw miss (onto_first_some b (lines_of (held ++ rest)))
    ]
lines_of-long (suc k) (b ∷ held) rest lt =
    elim (cases_Bool (eqb b 10)) [
      | inl hit ↦ absurd (omega (arith, rw hit at lt))
      | inr miss ↦ rw miss (onto_first_long k b (lines_of (held ++ rest)) (lines_of-long k held rest (omega (arith, rw miss at lt))))
    ]
