-- The machine finds exactly the grammar's job, or the first token that cannot follow.
use Rattle.std.proofs.Common.{◌≡◌, ◌∙◌, ◌⊎◌, inl, inr, ℕ, List, [], ◌∷◌, ◌++◌, Result, Err, refl, sym, ap, subst, append_assoc}
use Rattle.std.proofs.lemmas.List.{append-nil}
use Rattle.std.specs.Prelude.{IfOk}
use Rattle.flu_text.specs.declared.words.Token.{Token}
use Rattle.flu_syntax.specs.declared.fault.SyntaxFault.{SyntaxFault}
use Rattle.flu_syntax.specs.declared.fault.SyntaxFault.TheVariants as f
use Rattle.flu_syntax.specs.Reading.{Tells}
use Rattle.flu_syntax.specs.Machine.{Verdict, Found, Unexpected, TooDeep, verdict}
use Rattle.flu_text.specs.Signs.{place_of}
use Rattle.flu_syntax.specs.Tree.{Job}
use Rattle.flu_syntax.specs.Grammar.{IsJobWithin, IsJob}
use Rattle.flu_syntax.specs.Continued.{MayGoOnWithin, CannotTake, IsFirstThatCannotFollow, IsTooDeep}
use Rattle.flu_syntax.specs.Laws.{FoundIsJob, JobsAreUnique, UnexpectedIsFirst, TooDeepIsThe65th}
use Rattle.flu_syntax.proofs.Heads.{is_job, job_is_found, first_unexpected, opens_too_many}

pub found_is_job : FoundIsJob
found_is_job end tokens job = (is_job end tokens job, job_is_found end tokens job)

pub jobs_are_unique : JobsAreUnique
jobs_are_unique tokens a b is_a is_b = let both : Found a ≡ Found b = sym (job_is_found 0 tokens a is_a) ∙ job_is_found 0 tokens b is_b in cc

-- ---- no tokens have two faults
-- of two fronts of a list one is a front of the other
record IsLonger {X : Type 0} (longer shorter behind : List X) (rest : List X) : Type 0 where
  between : List X
  whole : longer ≡ shorter ++ between
  later : rest ≡ between ++ behind

by_length : {X : Type 0} (a b c d : List X) → a ++ b ≡ c ++ d → IsLonger c a d b ⊎ IsLonger a c b d
by_length [] b c d e = inl (record { between = c; whole = refl; later = e })
by_length (x ∷ a) b [] d e = inr (record { between = x ∷ a; whole = refl; later = sym e })
by_length (x ∷ a) b (y ∷ c) d e =
    let first : x ≡ y = cc in
    elim (by_length a b c d (let more : a ++ b ≡ c ++ d = cc in more)) [
      | inl h ↦ inl (record { between = h.between; whole = ap (λ z. z ∷ c) (sym first) ∙ ap (λ zs. x ∷ zs) h.whole; later = h.later })
      | inr h ↦ inr (record { between = h.between; whole = ap (λ z. z ∷ a) first ∙ ap (λ zs. y ∷ zs) h.whole; later = h.later })
    ]

-- what may go on begins with what may go on
goes_on_before : (most : ℕ) (front more : List Token) → MayGoOnWithin most (front ++ more) → MayGoOnWithin most front
goes_on_before most front more h =
    (more ++ h.0, h.1, subst (λ (ts : List Token). IsJobWithin most ts h.1) (append_assoc front more h.0) h.2)

-- with a token that cannot follow, nothing goes on
cannot_go_on : (most : ℕ) (front : List Token) (t : Token) (rest more : List Token) → CannotTake front (t ∷ rest) → MayGoOnWithin most (front ++ t ∷ more) → ⊥
cannot_go_on most front t rest more cannot h =
    cannot most (goes_on_before most (front ++ t ∷ []) more (subst (MayGoOnWithin most) (sym (append_assoc front (t ∷ []) more)) h))

faults_differ : (end : ℕ) (tokens : List Token) (place : ℕ) → IsFirstThatCannotFollow end tokens place → IsTooDeep tokens → ⊥
faults_differ end tokens place first deep =
    elim (by_length first.front first.rest deep.front (deep.next ∷ deep.rest) (sym first.whole ∙ deep.whole)) [
      | inl h ↦ later h.between h.whole h.later
      | inr h ↦ before h.between h.whole h.later
    ]
  where
    -- it is the same token
    here : deep.front ≡ first.front → first.rest ≡ deep.next ∷ deep.rest → ⊥
    here same rest =
        let cannot : CannotTake first.front (deep.next ∷ deep.rest) = subst (CannotTake first.front) rest first.cannot in
        cannot 65 (subst (λ (front : List Token). MayGoOnWithin 65 (front ++ deep.next ∷ [])) same deep.deeper)

    -- the token that cannot follow stands before the one that opens
    later : (between : List Token) → deep.front ≡ first.front ++ between → first.rest ≡ between ++ deep.next ∷ deep.rest → ⊥
    later [] same rest = here (same ∙ append-nil first.front) rest
    later (t ∷ between) same rest =
        cannot_go_on 64 first.front t (between ++ deep.next ∷ deep.rest) between (subst (CannotTake first.front) rest first.cannot)
        (subst (MayGoOnWithin 64) same deep.may)

    -- or behind it
    before : (between : List Token) → first.front ≡ deep.front ++ between → deep.next ∷ deep.rest ≡ between ++ first.rest → ⊥
    before [] same rest = here (sym (same ∙ append-nil deep.front)) (sym rest)
    before (t ∷ between) same rest =
        let next : deep.next ≡ t = cc in
        let front : first.front ≡ (deep.front ++ deep.next ∷ []) ++ between =
        same ∙ ap (λ (u : Token). deep.front ++ u ∷ between) (sym next) ∙ sym (append_assoc deep.front (deep.next ∷ []) between) in
        deep.cannot (goes_on_before 64 (deep.front ++ deep.next ∷ []) between (subst (MayGoOnWithin 64) front first.may))

-- what may go on before a token that cannot follow is no longer
not_longer : (end : ℕ) (tokens : List Token) (a b : ℕ) (x : IsFirstThatCannotFollow end tokens a) (y : IsFirstThatCannotFollow end tokens b)
    → IsLonger y.front x.front y.rest x.rest → a ≡ b
not_longer end tokens a b x y h = by h.between h.whole h.later
  where
    by : (between : List Token) → y.front ≡ x.front ++ between → x.rest ≡ between ++ y.rest → a ≡ b
    by [] same rest = x.here ∙ ap (place_of end) rest ∙ sym y.here
    by (t ∷ between) same rest =
        absurd (cannot_go_on 64 x.front t (between ++ y.rest) between (subst (CannotTake x.front) rest x.cannot) (subst (MayGoOnWithin 64) same y.may))

one_place : (end : ℕ) (tokens : List Token) (a b : ℕ) → IsFirstThatCannotFollow end tokens a → IsFirstThatCannotFollow end tokens b → a ≡ b
one_place end tokens a b x y =
    elim (by_length x.front x.rest y.front y.rest (sym x.whole ∙ y.whole)) [
      | inl h ↦ not_longer end tokens a b x y h
      | inr h ↦ sym (not_longer end tokens b a y x h)
    ]

-- nor is a job one of them
no_job_first : (end : ℕ) (tokens : List Token) (place : ℕ) (job : Job) → IsFirstThatCannotFollow end tokens place → IsJob tokens job → ⊥
no_job_first end tokens place job first is = by first.rest first.cannot first.whole
  where
    by : (rest : List Token) → CannotTake first.front rest → tokens ≡ first.front ++ rest → ⊥
    by [] cannot whole = cannot 64 job (subst (λ (ts : List Token). IsJob ts job) (whole ∙ append-nil first.front) is)
    by (t ∷ rest) cannot whole =
        let whole_ : tokens ≡ (first.front ++ t ∷ []) ++ rest = whole ∙ sym (append_assoc first.front (t ∷ []) rest) in
        cannot 64 (rest, job, subst (λ (ts : List Token). IsJob ts job) whole_ is)

no_job_deep : (tokens : List Token) (job : Job) → IsTooDeep tokens → IsJob tokens job → ⊥
no_job_deep tokens job deep is =
    let whole : tokens ≡ (deep.front ++ deep.next ∷ []) ++ deep.rest = deep.whole ∙ sym (append_assoc deep.front (deep.next ∷ []) deep.rest) in
    deep.cannot (deep.rest, job, subst (λ (ts : List Token). IsJob ts job) whole is)

-- ---- so each is what the machine finds
is_unexpected : (end : ℕ) (tokens : List Token) (place : ℕ) → IsFirstThatCannotFollow end tokens place → verdict end tokens ≡ Unexpected place
is_unexpected end tokens place first = by (verdict end tokens) refl
  where
    by : (v : Verdict Job) → verdict end tokens ≡ v → verdict end tokens ≡ Unexpected place
    by (Found job) e = absurd (no_job_first end tokens place job first (is_job end tokens job e))
    by (Unexpected other) e = e ∙ ap Unexpected (one_place end tokens other place (first_unexpected end tokens other e) first)
    by TooDeep e = absurd (faults_differ end tokens place first (opens_too_many end tokens e))

is_too_deep : (end : ℕ) (tokens : List Token) → IsTooDeep tokens → verdict end tokens ≡ TooDeep
is_too_deep end tokens deep = by (verdict end tokens) refl
  where
    by : (v : Verdict Job) → verdict end tokens ≡ v → verdict end tokens ≡ TooDeep
    by (Found job) e = absurd (no_job_deep tokens job deep (is_job end tokens job e))
    by (Unexpected place) e = absurd (faults_differ end tokens place (first_unexpected end tokens place e) deep)
    by TooDeep e = e

pub unexpected_is_first : UnexpectedIsFirst
unexpected_is_first end tokens place = (first_unexpected end tokens place, is_unexpected end tokens place)

pub too_deep_is_the_65th : TooDeepIsThe65th
too_deep_is_the_65th end tokens = (opens_too_many end tokens, is_too_deep end tokens)

-- a fault that tells the verdict tells the first token that cannot follow
pub first_told : {X : Type 0} (result : Result X SyntaxFault) (fault : SyntaxFault) (end : ℕ) (tokens : List Token) → result ≡ Err fault
    → Tells fault (verdict end tokens) → (at : ℕ) → result ≡ Err (f.Unexpected at) → IsFirstThatCannotFollow end tokens at
first_told result fault end tokens p h at e =
    let same : fault ≡ f.Unexpected at = cc in
    first_unexpected end tokens at (subst (λ (x : SyntaxFault). Tells x (verdict end tokens)) same h)

-- or the token that opens one too many
pub deep_told : {X : Type 0} (result : Result X SyntaxFault) (fault : SyntaxFault) (end : ℕ) (tokens : List Token) → result ≡ Err fault
    → Tells fault (verdict end tokens) → result ≡ Err f.TooDeep → IsTooDeep tokens
deep_told result fault end tokens p h e =
    let same : fault ≡ f.TooDeep = cc in
    opens_too_many end tokens (subst (λ (x : SyntaxFault). Tells x (verdict end tokens)) same h)

pub no_job_told : {X : Type 0} (result : Result X SyntaxFault) (fault : SyntaxFault) (P : X → Type 0) → result ≡ Err fault → IfOk result P
no_job_told result fault P p = rw p tt
