-- The spans of tokens.
use Rattle.std.proofs.Common.{◌≡◌, ℕ, zero, suc, ◌+◌, ◌-◌, ◌<◌, ◌≤◌, Bool, true, ◌&&◌, List, [], ◌∷◌, ◌++◌, length, take, drop, get_or, refl, sym, ap, subst}
use Rattle.std.proofs.Common.{◌∙◌, append_assoc, arith}
use Rattle.std.specs.Prelude.{nat_lt, All}
use Rattle.std.specs.Char.{is_ascii_digit}
use Rattle.std.specs.List.{list_all}
use Rattle.std.specs.Str.{IsUtf8, IsCharBoundary}
use Rattle.std.proofs.lemmas.Bool.Decides.{nat_tests}
use Rattle.std.proofs.lemmas.List.{length-take, length-drop, get_or-take, get_or-drop, take_at, take-append-drop}
use Rattle.std.proofs.lemmas.List.Sums.{AllPass-from_list_all}
use Rattle.std.proofs.lemmas.List.Elements.{All-nil, All-cons}
use Rattle.std.proofs.lemmas.Str.{IsCharBoundary-before_ascii, IsCharBoundary-after_ascii}
use Rattle.flu_text.specs.declared.words.Word.{Word}
use Rattle.flu_text.specs.declared.words.Word.TheVariants as w
use Rattle.flu_text.specs.declared.words.Mark.{Mark}
use Rattle.flu_text.specs.declared.words.Token.{Token}
use Rattle.flu_text.specs.Spelling.{mark_spelling}
use Rattle.flu_names.specs.Names.{reserved_spelling, is_name_byte}
use Rattle.flu_text.specs.Grammar.{IsText, Spells, IsToken, LeadsTo, IsSpan, IsInside, IsInsideOfText}
use Rattle.flu_text.specs.Laws.{EachIsToken, EachIsSpan, EachIsInside, TokensRise}
use Rattle.flu_lemmas.proofs.Prefixes.{drop_one_more}
use Rattle.flu_text.proofs.Tables.{each_mark, reserved_bytes}
use Rattle.flu_text.proofs.Spelled.{end_quote, length-quoted}
use Rattle.flu_text.proofs.Places.{spelled_some, token_rises}

-- the first and the last byte of each word are ASCII
record EndsInAscii (s : List ℕ) : Type 0 where
  first : get_or s 0 0 < 128
  last : get_or s (length s - 1) 0 < 128

name_byte_ascii : (b : ℕ) → is_name_byte b ≡ true → b < 128
name_byte_ascii b e = grind (arith, nat_tests)

digit_ascii : (b : ℕ) → is_ascii_digit b ≡ true → b < 128
digit_ascii b e = grind (arith, nat_tests)

run_ends : (p : ℕ → Bool) (s : List ℕ) → ((b : ℕ) → p b ≡ true → b < 128) → list_all p s ≡ true → 0 < length s → EndsInAscii s
run_ends p s ascii all some =
    let each = AllPass-from_list_all p s all in
    record { first = ascii (get_or s 0 0) (each 0 0 some); last = ascii (get_or s (length s - 1) 0) (each (length s - 1) 0 (omega arith)) }

quoted_last : (s inside : List ℕ) → s ≡ 34 ∷ (inside ++ 34 ∷ []) → get_or s (length s - 1) 0 ≡ 34
quoted_last s inside e =
    let lengths = ap length e in
    let at_last : length s - 1 ≡ suc (length inside) = omega (arith, lengths, length-quoted inside) in
    ap (λ (k : ℕ). get_or s k 0) at_last ∙ ap (λ (x : List ℕ). get_or x (suc (length inside)) 0) e ∙ end_quote inside []

quoted_ends : (s inside : List ℕ) → s ≡ 34 ∷ (inside ++ 34 ∷ []) → EndsInAscii s
quoted_ends s inside e =
    let last = quoted_last s inside e in
    let first : get_or s 0 0 ≡ 34 = ap (λ (x : List ℕ). get_or x 0 0) e in
    record { first = omega (arith, first); last = omega (arith, last) }

mark_ends_test : (mark : Mark)
    → (nat_lt (get_or (mark_spelling mark) 0 0) 128 && nat_lt (get_or (mark_spelling mark) (length (mark_spelling mark) - 1) 0) 128) ≡ true
mark_ends_test mark =
    each_mark (λ (m : Mark). nat_lt (get_or (mark_spelling m) 0 0) 128 && nat_lt (get_or (mark_spelling m) (length (mark_spelling m) - 1) 0) 128) mark refl

mark_ends : (mark : Mark) → EndsInAscii (mark_spelling mark)
mark_ends mark = let test = mark_ends_test mark in record { first = grind (arith, nat_tests); last = grind (arith, nat_tests) }

spelled_ends : (word : Word) (s : List ℕ) → Spells word s → EndsInAscii s
spelled_ends (w.Name c) s is = run_ends is_name_byte s name_byte_ascii is.0.bytes (spelled_some (w.Name c) s is)
spelled_ends (w.Reserved r) s is =
    rw is (run_ends is_name_byte (reserved_spelling r) name_byte_ascii (reserved_bytes r) (spelled_some (w.Reserved r) (reserved_spelling r) refl))
spelled_ends (w.Number n) s is = run_ends is_ascii_digit s digit_ascii is.digits (spelled_some (w.Number n) s is)
spelled_ends w.Text s is = quoted_ends s is.inside is.quoted
spelled_ends (w.Mark mark) s is = rw is (mark_ends mark)

-- a byte of a span
slice_read : (text : List ℕ) (from n k : ℕ) → k < n → get_or (take n (drop from text)) k 0 ≡ get_or text (from + k) 0
slice_read text from n k lt = get_or-take n (drop from text) k 0 lt ∙ get_or-drop from text k 0

length-span : (text : List ℕ) (t : Token) → IsToken text t → length (take (t.to - t.from) (drop t.from text)) ≡ t.to - t.from
length-span text t is = omega (arith, is.within, length-take (t.to - t.from) (drop t.from text), length-drop t.from text)

boundary_behind : (text : List ℕ) (to : ℕ) → IsUtf8 text → 0 < to → to ≤ length text → get_or text (to - 1) 0 < 128 → IsCharBoundary text to
boundary_behind text to utf8 some le ascii =
    let back : to - 1 + 1 ≡ to = omega arith in
    subst (IsCharBoundary text) back (IsCharBoundary-after_ascii text (to - 1) utf8 (omega arith) ascii)

token_span : (text : List ℕ) (t : Token) → IsUtf8 text → IsToken text t → IsSpan text t
token_span text t utf8 is =
    let rises = token_rises text t is in
    let n = t.to - t.from in
    let s = take n (drop t.from text) in
    let ends = spelled_ends t.word s is.spelled in
    let len : length s ≡ n = length-span text t is in
    let first : get_or s 0 0 ≡ get_or text (t.from + 0) 0 = slice_read text t.from n 0 (omega arith) in
    let last : get_or s (n - 1) 0 ≡ get_or text (t.from + (n - 1)) 0 = slice_read text t.from n (n - 1) (omega arith) in
    let at_first : t.from + 0 ≡ t.from = omega arith in
    let at_last : t.from + (n - 1) ≡ t.to - 1 = omega arith in
    let first_ascii : get_or text t.from 0 < 128 = subst (λ (k : ℕ). get_or text k 0 < 128) at_first (rw (← first) ends.first) in
    let last_here : get_or s (n - 1) 0 < 128 = subst (λ (k : ℕ). get_or s (k - 1) 0 < 128) len ends.last in
    let last_ascii : get_or text (t.to - 1) 0 < 128 = subst (λ (k : ℕ). get_or text k 0 < 128) at_last (rw (← last) last_here) in
    record {
      rises = rises;
      within = is.within;
      begins = IsCharBoundary-before_ascii text t.from (omega (arith, is.within)) first_ascii;
      ends = boundary_behind text t.to utf8 (omega arith) is.within last_ascii;
    }

-- what stands between the quotes
text_inside : (text : List ℕ) (t : Token) → IsUtf8 text → IsToken text t → IsText (take (t.to - t.from) (drop t.from text)) → IsInside text t
text_inside text t utf8 is spelled =
    let rises = token_rises text t is in
    let n = t.to - t.from in
    let d = drop t.from text in
    let s = take n d in
    let inside = spelled.inside in
    let len : length s ≡ n = length-span text t is in
    let lengths = ap length spelled.quoted in
    let two : n ≡ length inside + 2 = omega (arith, len, lengths, length-quoted inside) in
    let whole : d ≡ 34 ∷ (inside ++ 34 ∷ drop n d) =
    sym (take-append-drop n d) ∙ ap (λ (x : List ℕ). x ++ drop n d) spelled.quoted ∙ ap (λ (x : List ℕ). 34 ∷ x) (append_assoc inside (34 ∷ []) (drop n d)) in
    let behind = drop_one_more text t.from 34 (inside ++ 34 ∷ drop n d) whole in
    let count : t.to - 1 - (t.from + 1) ≡ length inside = omega (arith, two) in
    let body : take (t.to - 1 - (t.from + 1)) (drop (t.from + 1) text) ≡ inside =
    ap (λ (k : ℕ). take k (drop (t.from + 1) text)) count ∙ ap (take (length inside)) behind.2 ∙ take_at inside (34 ∷ drop n d) (length inside) refl in
    let last : get_or s (n - 1) 0 ≡ get_or text (t.from + (n - 1)) 0 = slice_read text t.from n (n - 1) (omega arith) in
    let at_last : t.from + (n - 1) ≡ t.to - 1 = omega arith in
    let last_here : get_or s (n - 1) 0 ≡ 34 = subst (λ (k : ℕ). get_or s (k - 1) 0 ≡ 34) len (quoted_last s inside spelled.quoted) in
    let last_quote : get_or text (t.to - 1) 0 ≡ 34 = subst (λ (k : ℕ). get_or text k 0 ≡ 34) at_last (sym last ∙ last_here) in
    record {
      room = omega (arith, two);
      short = omega (arith, two, spelled.short);
      bytes = rw body spelled.bytes;
      begins = IsCharBoundary-after_ascii text t.from utf8 behind.0 (omega (arith, behind.1));
      ends = IsCharBoundary-before_ascii text (t.to - 1) (omega (arith, is.within)) (omega (arith, last_quote));
    }

token_inside : (text : List ℕ) (t : Token) → IsUtf8 text → IsToken text t → IsInsideOfText text t
token_inside text t utf8 is = λ e. text_inside text t utf8 is (subst (λ (word : Word). Spells word (take (t.to - t.from) (drop t.from text))) e is.spelled)

-- the tokens of a text
all_spans : (ts : List Token) (text : List ℕ) (from to : ℕ) → IsUtf8 text → LeadsTo text from ts to → All (IsSpan text) ts
all_spans [] text from to utf8 leads = All-nil (IsSpan text)
all_spans (t ∷ ts) text from to utf8 leads = All-cons (IsSpan text) t ts (token_span text t utf8 leads.1) (all_spans ts text t.to to utf8 leads.2)

all_inside : (ts : List Token) (text : List ℕ) (from to : ℕ) → IsUtf8 text → LeadsTo text from ts to → All (IsInsideOfText text) ts
all_inside [] text from to utf8 leads = All-nil (IsInsideOfText text)
all_inside (t ∷ ts) text from to utf8 leads = All-cons (IsInsideOfText text) t ts (token_inside text t utf8 leads.1) (all_inside ts text t.to to utf8 leads.2)

all_rise : (ts : List Token) (text : List ℕ) (from to : ℕ) → LeadsTo text from ts to → (k : ℕ) (d : Token) → k + 1 < length ts
    → (get_or ts k d).to ≤ (get_or ts (k + 1) d).from
all_rise [] text from to leads k d lt = absurd (omega arith)
all_rise (t ∷ []) text from to leads k d lt = absurd (omega arith)
all_rise (t ∷ s ∷ ts) text from to leads zero d lt = leads.2.0.rises
all_rise (t ∷ s ∷ ts) text from to leads (suc k) d lt =
    let next : suc k + 1 ≡ suc (k + 1) = omega arith in
    rw next (all_rise (s ∷ ts) text t.to to leads.2 k d (omega arith))

all_tokens : (ts : List Token) (text : List ℕ) (from to : ℕ) → LeadsTo text from ts to → All (IsToken text) ts
all_tokens [] text from to leads = All-nil (IsToken text)
all_tokens (t ∷ ts) text from to leads = All-cons (IsToken text) t ts leads.1 (all_tokens ts text t.to to leads.2)

pub each_is_token : EachIsToken
each_is_token text ts are = all_tokens ts text 0 (length text) are

pub each_is_span : EachIsSpan
each_is_span text ts utf8 are = all_spans ts text 0 (length text) utf8 are

pub each_is_inside : EachIsInside
each_is_inside text ts utf8 are = all_inside ts text 0 (length text) utf8 are

pub tokens_rise : TokensRise
tokens_rise text ts are = all_rise ts text 0 (length text) are
