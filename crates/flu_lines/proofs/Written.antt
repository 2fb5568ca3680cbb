-- Bytes that are written one after another.
use Rattle.std.proofs.Common.{◌≡◌, sym, ap, ◌∙◌, ℕ, ◌+◌, ◌-◌, ◌≤◌, List, [], ◌∷◌, ◌++◌, length, get_or, map, take, drop, Option, Result, Ok, Err, subst}
use Rattle.std.proofs.Common.{arith, append-nil, append_assoc, length-append, refl}
use Rattle.std.proofs.Math.Seq.{take-append-add}
use Rattle.std.specs.List.{concat}
use Rattle.std.proofs.lemmas.List.{take_all, take-append-le}
use Rattle.std.specs.Prelude.{IsErr, codes}
use Rattle.std.specs.Fmt.{decimal}
use Rattle.flu_model.specs.declared.limits.What.{What}
use Rattle.flu_streams.specs.declared.faults.Why.TheVariants.{Disordered, TooMany}
use Rattle.flu_lines.specs.Lines.{what_word, limit_text, fault_line, row_line, source_fault_line, trace_line}
use Rattle.flu_lemmas.proofs.Named.{rose_behind}
use Rattle.flu_lemmas.proofs.Told.{told_then, told_weaker, told_same}
use Rattle.flu_outside.specs.declared.sink.Failed.{Failed}
use Rattle.flu_outside.specs.Writing.{AppendsAll, AppendsPart, Writes}

part_of_first : (a b x y : List ℕ) → AppendsPart a x y → AppendsPart (a ++ b) x y
part_of_first a b x y part = (
  part.0,
  omega (arith, part.1, length-append a b),
  part.2 ∙ ap (λ l. x ++ l) (sym (take-append-le part.0 a b (omega (arith, part.1)))),
)

part_of_second : (a b x y z : List ℕ) → AppendsAll a x y → AppendsPart b y z → AppendsPart (a ++ b) x z
part_of_second a b x y z e part = (
  length a + part.0,
  omega (arith, part.1, length-append a b),
  part.2 ∙ ap (λ l. l ++ take part.0 b) e ∙ append_assoc x a (take part.0 b) ∙ ap (λ l. x ++ l) (sym (take-append-add a b part.0)),
)

all_of_both : (a b x y z : List ℕ) → AppendsAll a x y → AppendsAll b y z → AppendsAll (a ++ b) x z
all_of_both a b x y z first second = second ∙ ap (λ l. l ++ b) first ∙ append_assoc x a b

-- no bytes
pub writes_none : (x : Option (List ℕ)) (k : ℕ) → Writes [] x x k k (Ok tt)
writes_none x k = record { all = told_same (AppendsAll []) x (λ l. sym (append-nil l)); quiet = refl; part = tt; failed = tt; counts = omega arith }

-- the first bytes of a line were not all written, and the call answers the failure
pub writes_front : (a b line : List ℕ) (x y : Option (List ℕ)) (k l : ℕ) (f : Failed) (r : Result (Unit {0}) Failed) → a ++ b ≡ line → IsErr r
    → Writes a x y k l (Err f) → Writes line x y k l r
writes_front a b line x y k l f (Ok u) is failed w = absurd cc
writes_front a b line x y k l f (Err g) is failed w =
    subst (λ bytes. Writes bytes x y k l (Err g)) is record {
      all = tt;
      quiet = tt;
      part = told_weaker (AppendsPart a) (AppendsPart (a ++ b)) x y (part_of_first a b) w.part;
      failed = w.failed;
      counts = w.counts;
    }

-- all of the first bytes were written, and then others
pub writes_more : (a b : List ℕ) (x y z : Option (List ℕ)) (k l m : ℕ) (r : Result (Unit {0}) Failed) → Writes a x y k l (Ok tt) → Writes b y z l m r
    → Writes (a ++ b) x z k m r
writes_more a b x y z k l m (Ok u) w v = record {
  all = told_then (AppendsAll a) (AppendsAll b) (AppendsAll (a ++ b)) x y z (all_of_both a b) w.all v.all;
  quiet = v.quiet ∙ w.quiet;
  part = tt;
  failed = tt;
  counts = omega (arith, w.counts, v.counts);
}
writes_more a b x y z k l m (Err f) w v = record {
  all = tt;
  quiet = tt;
  part = told_then (AppendsAll a) (AppendsPart b) (AppendsPart (a ++ b)) x y z (part_of_second a b) w.all v.part;
  failed = rose_behind k l m w.counts v.failed;
  counts = omega (arith, w.counts, v.counts);
}

-- the bytes of the first of some pieces, and those of the others
pub pieces_split : {T : Type 0} (bytes : T → List ℕ) (ps : List T) (d : T) → 1 ≤ length ps
    → bytes (get_or ps 0 d) ++ concat (map bytes (take (length ps - 1) (drop 1 ps))) ≡ concat (map bytes ps)
pieces_split bytes [] d some = absurd (omega arith)
pieces_split {T} bytes (p ∷ ps) d some = ap (λ (l : List T). bytes p ++ concat (map bytes l)) (take_all (length (p ∷ ps) - 1) ps (omega arith))

-- a word and the digits of a number behind it
pub counted_pieces : (word digits text : List ℕ) (n : ℕ) → word ≡ text → digits ≡ decimal n → word ++ (digits ++ []) ≡ text ++ decimal n
counted_pieces word digits text n is are = (λ i. is i ++ (are i ++ [])) ∙ ap (λ l. text ++ l) (append-nil (decimal n))

-- pieces that make up a line
pub writes_as : (pieces line : List ℕ) (x y : Option (List ℕ)) (k l : ℕ) (r : Result (Unit {0}) Failed) → pieces ≡ line → Writes pieces x y k l r
    → Writes line x y k l r
writes_as pieces line x y k l r same w = subst (λ bytes. Writes bytes x y k l r) same w

-- the first bytes of a line were all written, and then the others
pub writes_both : (a b line : List ℕ) (x y z : Option (List ℕ)) (k l m : ℕ) (r : Result (Unit {0}) Failed) → a ++ b ≡ line → Writes a x y k l (Ok tt)
    → Writes b y z l m r → Writes line x z k m r
writes_both a b line x y z k l m r is w v = writes_as (a ++ b) line x z k m r is (writes_more a b x y z k l m r w v)

-- ---- pieces that make up a line
joined_3 : (a b c d : List ℕ) → a ++ (b ++ (c ++ d)) ≡ a ++ (b ++ c) ++ d
joined_3 a b c d = simp append_assoc

pub joined_4 : (a b c d e : List ℕ) → a ++ (b ++ (c ++ (d ++ e))) ≡ (a ++ b ++ c ++ d) ++ e
joined_4 a b c d e = simp append_assoc

joined_6 : (a b c d e f g : List ℕ) → a ++ (b ++ (c ++ (d ++ (e ++ (f ++ g))))) ≡ a ++ b ++ c ++ d ++ e ++ f ++ g
joined_6 a b c d e f g = simp append_assoc

-- the line of a fault at a place of a text
abbrev pub place_pieces : List ℕ → List ℕ → List ℕ → List ℕ
place_pieces head fault digits = head ++ (fault ++ (digits ++ codes "\n"))

-- and that of a fault at a place which has a name
pub named_place_line : (head fault bytes name : List ℕ) → bytes ≡ name → place_pieces head fault bytes ≡ fault_line head (fault ++ name)
named_place_line head fault bytes name is = ap (place_pieces head fault) is ∙ joined_3 head fault name (codes "\n")

pub place_line : (head fault digits : List ℕ) (place : ℕ) → digits ≡ decimal place → place_pieces head fault digits ≡ fault_line head (fault ++ decimal place)
place_line head fault digits place is = named_place_line head fault digits (decimal place) is

-- the line of a limit that a text passes
abbrev pub limit_pieces : List ℕ → List ℕ → List ℕ → List ℕ
limit_pieces head word digits = head ++ (codes "over limit " ++ (word ++ (codes " " ++ (digits ++ codes "\n"))))

pub limit_line : (head word digits : List ℕ) (what : What) (count : ℕ) → word ≡ what_word what → digits ≡ decimal count
    → limit_pieces head word digits ≡ fault_line head (limit_text what count)
limit_line head word digits what count is are =
    (λ i. limit_pieces head (is i) (are i))
    ∙ (ap (λ l. head ++ l) (joined_4 (codes "over limit ") (what_word what) (codes " ") (decimal count) (codes "\n"))
    ∙ sym (append_assoc head (limit_text what count) (codes "\n")))

-- the line of what stops the replay of a trace
abbrev pub trace_pieces : List ℕ → List ℕ → List ℕ
trace_pieces digits why = codes "flumina: trace line " ++ (digits ++ (codes ": " ++ (why ++ codes "\n")))

pub trace_line_of : (digits why : List ℕ) (line : ℕ) → digits ≡ decimal line → trace_pieces digits why ≡ trace_line line why
trace_line_of digits why line is = ap (λ d. trace_pieces d why) is ∙ joined_4 (codes "flumina: trace line ") (decimal line) (codes ": ") why (codes "\n")

-- the line of a row, of its first pieces and what comes behind them
abbrev pub row_pieces : List ℕ → List ℕ → List ℕ → List ℕ
row_pieces name digits rest = codes "flumina: source " ++ (name ++ (codes " row " ++ (digits ++ rest)))

pub row_line_of : (name source digits why : List ℕ) (row : ℕ) → source ≡ name → digits ≡ decimal row
    → row_pieces source digits (codes ": " ++ (why ++ codes "\n")) ≡ row_line name row why
row_line_of name source digits why row is are =
    (λ i. row_pieces (is i) (are i) (codes ": " ++ (why ++ codes "\n")))
    ∙ joined_6 (codes "flumina: source ") name (codes " row ") (decimal row) (codes ": ") why (codes "\n")

abbrev pub disordered_pieces : List ℕ → List ℕ → List ℕ → List ℕ → List ℕ
disordered_pieces name digits last got = row_pieces name digits (codes ": disordered, last " ++ (last ++ (codes ", got " ++ (got ++ codes "\n"))))

pub disordered_line : (name source digits last_digits got_digits : List ℕ) (row last got : ℕ) → source ≡ name → digits ≡ decimal row
    → last_digits ≡ decimal last → got_digits ≡ decimal got → disordered_pieces source digits last_digits got_digits
    ≡ source_fault_line name row (Disordered last got)
disordered_line name source digits last_digits got_digits row last got is are lasts gots =
    (λ i. disordered_pieces source digits (lasts i) (gots i))
    ∙ (ap (λ l. row_pieces source digits (codes ": " ++ l)) (joined_4 (codes "disordered, last ") (decimal last) (codes ", got ") (decimal got) (codes "\n"))
    ∙ row_line_of name source digits (codes "disordered, last " ++ decimal last ++ codes ", got " ++ decimal got) row is are)

abbrev pub too_many_pieces : List ℕ → List ℕ → List ℕ → List ℕ
too_many_pieces name digits count = row_pieces name digits (codes ": too many, " ++ (count ++ codes "\n"))

pub too_many_line : (name source digits count_digits : List ℕ) (row count : ℕ) → source ≡ name → digits ≡ decimal row → count_digits ≡ decimal count
    → too_many_pieces source digits count_digits ≡ source_fault_line name row (TooMany count)
too_many_line name source digits count_digits row count is are counts =
    ap (too_many_pieces source digits) counts ∙ row_line_of name source digits (codes "too many, " ++ decimal count) row is are
