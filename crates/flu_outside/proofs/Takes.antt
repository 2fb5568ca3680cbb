-- One take, where the files tell what they have left and where they do not.
use Rattle.std.proofs.Common.{◌≡◌, ℕ, ◌≤◌, ◌<◌, List, [], ◌++◌, length, take, drop, Option, Some, None, refl, sym, ap, ◌∙◌, append_assoc, arith}
use Rattle.std.specs.Prelude.{is_some}
use Rattle.std.proofs.lemmas.Grind.{common_steps}
use Rattle.flu_lemmas.proofs.Told.{told_then, told_weaker}
use Rattle.flu_outside.specs.Outside.{Contents, Takes, WhereTold, SameLeft}
use Rattle.flu_outside.specs.Taking.{TakesFrom, KeepsBytes, IsReadOut, TookWhole, TookAtMost}

take_drop : (n : ℕ) (xs : List ℕ) → take n xs ++ drop n xs ≡ xs
take_drop n xs = grind (arith, common_steps)

takes_from-take : (name : List ℕ) (n : ℕ) (buf : List ℕ) (old new : Contents) → Takes old new name n buf → TakesFrom name old new
takes_from-take name n buf old new t = record {
  front = (take n t.bytes, rw (t.were, t.left) (sym (take_drop n t.bytes)));
  there = rw (t.were, t.left) refl;
  others = t.others;
}

takes_from-same : (name : List ℕ) (old new : Contents) → SameLeft old new → TakesFrom name old new
takes_from-same name old new same = record { front = ([], rw (same name) refl); there = ap is_some (same name); others = λ other ne. same other }

pub taken_at : (name : List ℕ) (n : ℕ) (buf : List ℕ) (a b : Option Contents) → WhereTold a b (λ old new. Takes old new name n buf)
    → WhereTold a b (TakesFrom name)
taken_at name n buf a b t = told_weaker (λ old new. Takes old new name n buf) (TakesFrom name) a b (takes_from-take name n buf) t

pub not_taken : (name : List ℕ) (a b : Option Contents) → WhereTold a b SameLeft → WhereTold a b (TakesFrom name)
not_taken name a b same = told_weaker SameLeft (TakesFrom name) a b (takes_from-same name) same

-- ---- the bytes that are held
keeps-take : (name held : List ℕ) (n : ℕ) (buf : List ℕ) (old new : Contents) → Takes old new name n buf → KeepsBytes name held (held ++ take n buf) old new
keeps-take name held n buf old new t =
    rw (t.given, t.were, t.left) (append_assoc held (take n t.bytes) (drop n t.bytes) ∙ ap (λ (x : List ℕ). held ++ x) (take_drop n t.bytes))

pub kept_at : (name held : List ℕ) (n : ℕ) (buf : List ℕ) (a b : Option Contents) → WhereTold a b (λ old new. Takes old new name n buf)
    → WhereTold a b (KeepsBytes name held (held ++ take n buf))
kept_at name held n buf a b t = told_weaker (λ old new. Takes old new name n buf) (KeepsBytes name held (held ++ take n buf)) a b (keeps-take name held n buf) t

-- a take of no bytes shows that none are left
pub read_out_at : (name : List ℕ) (n : ℕ) (buf : List ℕ) (a b : Option Contents) → WhereTold a b (λ old new. Takes old new name n buf) → n ≡ 0
    → IsReadOut name b
read_out_at name n buf None None t z = tt
read_out_at name n buf None (Some new) t z = absurd t
read_out_at name n buf (Some old) None t z = absurd t
read_out_at name n buf (Some old) (Some new) t z = t.left ∙ rw (t.end z, z) refl

-- ---- a name that is read to its end, or to more than so many bytes
pub whole_at_end : (name : List ℕ) (most : ℕ) (bytes : List ℕ) (a b : Option Contents) → WhereTold a b (KeepsBytes name [] bytes) → IsReadOut name b
    → WhereTold a b (TookWhole name most bytes)
whole_at_end name most bytes None None kept out = tt
whole_at_end name most bytes None (Some y) kept out = absurd kept
whole_at_end name most bytes (Some x) None kept out = absurd kept
whole_at_end name most bytes (Some x) (Some y) kept out = record { front = sym kept; end = λ few. out }

pub whole_over : (name : List ℕ) (most : ℕ) (bytes : List ℕ) (a b : Option Contents) → most < length bytes → WhereTold a b (KeepsBytes name [] bytes)
    → WhereTold a b (TookWhole name most bytes)
whole_over name most bytes a b over kept =
    told_weaker (KeepsBytes name [] bytes) (TookWhole name most bytes) a b (λ x y k. record { front = sym k; end = λ few. absurd (omega arith) }) kept

-- a take that failed comes behind at most so many bytes
still_few : (name : List ℕ) (most : ℕ) (bytes : List ℕ) (x y z : Contents) → length bytes ≤ most → KeepsBytes name [] bytes x y → SameLeft y z
    → TookAtMost name most x z
still_few name most bytes x y z few kept same = record { bytes = bytes; front = rw (same name) (sym kept); few = few }

pub few_before : (name : List ℕ) (most : ℕ) (bytes : List ℕ) (a b c : Option Contents) → length bytes ≤ most → WhereTold a b (KeepsBytes name [] bytes)
    → WhereTold b c SameLeft → WhereTold a c (TookAtMost name most)
few_before name most bytes a b c few kept same =
    told_then (KeepsBytes name [] bytes) SameLeft (TookAtMost name most) a b c (λ x y z k s. still_few name most bytes x y z few k s) kept same
