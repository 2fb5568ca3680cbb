-- Places of a text between its characters, and the bytes between two of them.
use Rattle.std.proofs.Common.{◌≡◌, ℕ, ◌+◌, ◌-◌, ◌<◌, ◌≤◌, Bool, true, List, [], ◌∷◌, ◌++◌, length, take, drop, get_or, sym, ap, subst, ◌∙◌, length-append}
use Rattle.std.proofs.Common.{arith}
use Rattle.std.specs.Prelude.{◌&&◌, ◌||◌, nat_le, nat_lt, if◌then◌else◌, slice_index, slice_range}
use Rattle.std.specs.List.{list_all}
use Rattle.std.specs.Str.{IsUtf8, IsCharBoundary}
use Rattle.std.proofs.lemmas.List.{take_at, drop_at, get_or-append-add, get_or_append_left, get_or-append_right}
use Rattle.std.proofs.lemmas.Str.{IsCharBoundary-before_ascii, IsCharBoundary-after_ascii}
use Rattle.std.proofs.lemmas.Grind.{common_steps}
use Rattle.flu_lemmas.specs.Spans.{is_boundary, spelled}
use Rattle.flu_lemmas.proofs.Tests.{both, le_true, all_at}

boundary_test : (i n b : ℕ) → i ≤ n → (i < n → 128 ≤ b → 192 ≤ b) → (nat_le i n && (nat_le n i || nat_lt b 128 || nat_le 192 b)) ≡ true
boundary_test i n b le high = grind (arith, common_steps)

pub is_boundary_there : (text : List ℕ) (i : ℕ) → IsCharBoundary text i → is_boundary text i ≡ true
is_boundary_there text i here = boundary_test i (length text) (slice_index text i) here.0 here.1

-- the bytes between two places of a text are those of its slice
pub spelled_slice : (text : List ℕ) (from to : ℕ) → from ≤ to → IsCharBoundary text from → IsCharBoundary text to
    → spelled text from to ≡ slice_range text from to
spelled_slice text from to rises begins ends =
    ap (λ b. if b then slice_range text from to else [])
    (both (nat_le from to && is_boundary text from) (is_boundary text to)
    (both (nat_le from to) (is_boundary text from) (le_true from to rises) (is_boundary_there text from begins)) (is_boundary_there text to ends))

-- ---- a place, by what stands before it and behind it
pub record Place (whole before after : List ℕ) (at : ℕ) : Type 0 where
  pub is : whole ≡ before ++ after
  pub here : at ≡ length before

within : (whole before : List ℕ) (b : ℕ) (after : List ℕ) (at : ℕ) → Place whole before (b ∷ after) at → at < length whole
within whole before b after at p = let size = ap length p.is in omega (arith, size, length-append before (b ∷ after), p.here)

byte_here : (whole before : List ℕ) (b : ℕ) (after : List ℕ) (at : ℕ) → Place whole before (b ∷ after) at → get_or whole at 0 ≡ b
byte_here whole before b after at p =
    ap (λ (w : List ℕ). get_or w at 0) p.is
    ∙ get_or-append_right before (b ∷ after) at at 0 (sym p.here) (omega arith)
    ∙ ap (λ (k : ℕ). get_or (b ∷ after) k 0) (let none : at - at ≡ 0 = omega arith in none)

-- a character begins where an ASCII byte stands
pub before_ascii : (whole before : List ℕ) (b : ℕ) (after : List ℕ) (at : ℕ) → Place whole before (b ∷ after) at → b < 128 → is_boundary whole at ≡ true
before_ascii whole before b after at p ascii =
    let byte = byte_here whole before b after at p in
    is_boundary_there whole at (IsCharBoundary-before_ascii whole at (within whole before b after at p) (omega (arith, byte)))

-- and behind it
pub after_ascii : (whole before : List ℕ) (b : ℕ) (after : List ℕ) (at : ℕ) → IsUtf8 whole → Place whole before (b ∷ after) at → b < 128
    → is_boundary whole (at + 1) ≡ true
after_ascii whole before b after at utf8 p ascii =
    let byte = byte_here whole before b after at p in
    is_boundary_there whole (at + 1) (IsCharBoundary-after_ascii whole at utf8 (within whole before b after at p) (omega (arith, byte)))

-- the bytes that stand between two places
pub spelled_between : (whole before bytes after : List ℕ) (from to : ℕ) → Place whole before (bytes ++ after) from → to ≡ from + length bytes
    → is_boundary whole from ≡ true → is_boundary whole to ≡ true → spelled whole from to ≡ bytes
spelled_between whole before bytes after from to p size begins ends =
    let rises : nat_le from to ≡ true = le_true from to (omega arith) in
    let count : length bytes ≡ to - from = omega arith in
    ap (λ b. if b && is_boundary whole from && is_boundary whole to then slice_range whole from to else []) rises
    ∙ ap (λ b. if b && is_boundary whole to then slice_range whole from to else []) begins
    ∙ ap (λ b. if b then slice_range whole from to else []) ends
    ∙ ap (λ w. take (to - from) (drop from w)) p.is
    ∙ ap (take (to - from)) (drop_at before (bytes ++ after) from (sym p.here))
    ∙ take_at bytes after (to - from) count

-- a byte within the bytes at a place
byte_within : (whole before bytes after : List ℕ) (at k : ℕ) → Place whole before (bytes ++ after) at → k < length bytes
    → get_or whole (at + k) 0 ≡ get_or bytes k 0
byte_within whole before bytes after at k p lt =
    ap (λ (w : List ℕ). get_or w (at + k) 0) p.is
    ∙ ap (λ (n : ℕ). get_or (before ++ (bytes ++ after)) (n + k) 0) p.here
    ∙ get_or-append-add before (bytes ++ after) k 0
    ∙ get_or_append_left bytes after 0 k lt

-- a character begins behind bytes whose last one is ASCII
ends_ascii : (whole before bytes after : List ℕ) (from to : ℕ) → IsUtf8 whole → Place whole before (bytes ++ after) from → to ≡ from + length bytes
    → 0 < length bytes → get_or bytes (length bytes - 1) 0 < 128 → is_boundary whole to ≡ true
ends_ascii whole before bytes after from to utf8 p size some ascii =
    let last : ℕ = length bytes - 1 in
    let byte = byte_within whole before bytes after from last p (omega arith) in
    let sizes = ap length p.is in
    let inside : from + last < length whole = omega (arith, sizes, length-append before (bytes ++ after), length-append bytes after, p.here) in
    let behind : from + last + 1 ≡ to = omega arith in
    subst (λ n. is_boundary whole n ≡ true) behind
    (is_boundary_there whole (from + last + 1) (IsCharBoundary-after_ascii whole (from + last) utf8 inside (omega (arith, byte))))

begins_ascii : (whole before bytes after : List ℕ) (from : ℕ) → Place whole before (bytes ++ after) from → 0 < length bytes → get_or bytes 0 0 < 128
    → is_boundary whole from ≡ true
begins_ascii whole before [] after from p some ascii = absurd (omega arith)
begins_ascii whole before (b ∷ bytes) after from p some ascii = before_ascii whole before b (bytes ++ after) from p ascii

-- bytes of which the first and the last are ASCII, by their places in a text
pub spelled_ascii : (whole before bytes after : List ℕ) (from to : ℕ) → IsUtf8 whole → Place whole before (bytes ++ after) from → to ≡ from + length bytes
    → 0 < length bytes → get_or bytes 0 0 < 128 → get_or bytes (length bytes - 1) 0 < 128 → spelled whole from to ≡ bytes
spelled_ascii whole before bytes after from to utf8 p size some first last =
    spelled_between whole before bytes after from to p size (begins_ascii whole before bytes after from p some first)
    (ends_ascii whole before bytes after from to utf8 p size some last)

-- the same where all of them pass a test that only ASCII bytes pass
pub spelled_passing : (test : ℕ → Bool) → ((b : ℕ) → test b ≡ true → b < 128) → (whole before bytes after : List ℕ) (from to : ℕ) → IsUtf8 whole
    → Place whole before (bytes ++ after) from → to ≡ from + length bytes → 0 < length bytes → list_all test bytes ≡ true → spelled whole from to ≡ bytes
spelled_passing test ascii whole before bytes after from to utf8 p size some all =
    spelled_ascii whole before bytes after from to utf8 p size some (ascii (get_or bytes 0 0) (all_at test bytes 0 0 all some))
    (ascii (get_or bytes (length bytes - 1) 0) (all_at test bytes (length bytes - 1) 0 all (omega arith)))
