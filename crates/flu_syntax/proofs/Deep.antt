-- Where a token opens one too many, the tokens before it can go on, and with it they can where one more may be open.
use Rattle.std.proofs.Common.{◌≡◌, ℕ, List, [], ◌∷◌, ◌++◌, Option, Some, None, refl, sym, ap, subst, ◌∙◌, arith}
use Rattle.std.specs.Prelude.{IfSome}
use Rattle.flu_text.specs.declared.words.Token.{Token}
use Rattle.flu_text.specs.declared.words.Word.{Word}
use Rattle.flu_text.specs.declared.words.Word.TheVariants as w
use Rattle.flu_names.specs.declared.reserved.Reserved.TheVariants as r
use Rattle.flu_text.specs.declared.words.Mark.TheVariants as m
use Rattle.flu_syntax.specs.declared.tokens.Front.{Front}
use Rattle.flu_syntax.specs.declared.tokens.Front.TheVariants as start
use Rattle.flu_syntax.specs.Tree.{Declarations}
use Rattle.flu_text.specs.Signs.{Sign, At, IsSign}
use Rattle.flu_syntax.specs.Machine.{Context, Frame, Want, Now, Start, InExpression, Next, Goes, Deep, Refused, start_of, heading_of, opening, step, whole}
use Rattle.flu_syntax.specs.Machine.{Found, Unexpected, TooDeep, ended, run}
use Rattle.flu_syntax.specs.Grammar.{declarations_signs, AreDeclarations}
use Rattle.flu_syntax.proofs.Viable.{Can, can, goes_at, declares_at}
use Rattle.flu_syntax.proofs.Spelling.{Spelt, Spells, spells_more, spells_declared, step_says}
use Rattle.flu_syntax.proofs.Said.{said_frames, said, Sound, Says}
use Rattle.flu_syntax.proofs.Spelling.{whole_spelt, heading_says, run_says}
use Rattle.flu_syntax.proofs.Levels.{Opens, opens_not, opens_minus, opens_paren, Opened, Kept, Keeps, step_keeps, any_allowed, whole_kept, heading_kept}
use Rattle.flu_syntax.proofs.Levels.{declarations_more, run_kept, opened, kept_opened}

-- A token of these opens one too many: those before it can go on, with it none do, and with it and others they spell declarations in which
-- 65 are open.
pub record DeepAt (end : ℕ) (job : Declarations) (now : Now) (tokens : List Token) : Type 0 where
  pub front : List Token
  pub next : Token
  pub rest : List Token
  pub parts : tokens ≡ front ++ next ∷ rest
  pub may : (more : List Token) × (found : Declarations) × (run end job now (front ++ more) ≡ Found found)
  pub cannot : (more : List Token) → run end job now ((front ++ next ∷ []) ++ more) ≡ TooDeep
  pub more : List Token
  pub found : Declarations
  pub spells : Spells (declarations_signs job ++ said now) ((front ++ next ∷ []) ++ more) found
  pub keeps : AreDeclarations 65 found

-- ---- the token that opens

-- the word of a token that opens
abbrev OpeningWord : Front → Word → Type 0
OpeningWord start.Not word = word ≡ w.Reserved r.Not
OpeningWord start.Minus word = word ≡ w.Mark m.Minus
OpeningWord start.Open word = word ≡ w.Mark m.OpenParen
OpeningWord _ word = Unit {0}

opening_word : (word : Word) → OpeningWord (start_of word) word
unfolding start_of
opening_word (w.Reserved r.Not) = refl
opening_word (w.Mark m.Minus) = refl
opening_word (w.Mark m.OpenParen) = refl
opening_word _ = tt

opened_sign : (context : Context) (level : ℕ) (frames : List Frame) (t : Token) {inner : ℕ} {frame : Frame} {s : Front} → Opens level t s inner frame
    → OpeningWord s t.word → (x : Sign) × IsSign x t × (said_frames context (frame ∷ frames) ≡ said_frames context frames ++ x ∷ [])
opened_sign context level frames t (opens_not low) is = (At (w.Reserved r.Not) t.from, (is, refl), refl)
opened_sign context level frames t opens_minus is = (At (w.Mark m.Minus) t.from, (is, refl), refl)
opened_sign context level frames t opens_paren is = (At (w.Mark m.OpenParen) t.from, (is, refl), refl)

deep_here : (end : ℕ) (job : Declarations) (context : Context) (level inner : ℕ) (frames : List Frame) (frame : Frame) (t : Token) (tokens : List Token)
    → Opens level t (start_of t.word) inner frame → AreDeclarations 65 job → Kept 64 (InExpression context (Want level) frames)
    → Kept 65 (InExpression context (Want level) frames) → step (InExpression context (Want level) frames) t ≡ Deep
    → DeepAt end job (InExpression context (Want level) frames) (t ∷ tokens)
deep_here end job context level inner frames frame t tokens opens are kept kept_more s =
    let other : Now = InExpression context (Want inner) (frame ∷ frames) in
    let ends : Can end job other = can end job other in
    let sign = opened_sign context level frames t opens (opening_word t.word) in
    record {
      front = [];
      next = t;
      rest = tokens;
      parts = refl;
      may = can end job (InExpression context (Want level) frames);
      cannot = λ more. goes_at end job (InExpression context (Want level) frames) t Deep more s;
      more = ends.0;
      found = ends.1;
      spells = spells_more job (said_frames context frames) other sign.0 t ends.0 ends.1 sign.1 sign.2 (run_says end ends.1 ends.0 job other tt ends.2);
      keeps = run_kept 65 (omega arith) end ends.1 ends.0 job other are (kept_opened context level frames t opens kept kept_more)
          ends.2;
    }

-- ---- tokens before it

deep_later : (end : ℕ) (job next : Declarations) (now other : Now) (t : Token) (tokens : List Token)
    → ((more : List Token) → run end job now (t ∷ more) ≡ run end next other more)
    → ((more : List Token) (found : Declarations) → Spells (declarations_signs next ++ said other) more found
    → Spells (declarations_signs job ++ said now) (t ∷ more) found)
    → DeepAt end next other tokens → DeepAt end job now (t ∷ tokens)
deep_later end job next now other t tokens leads spells h = record {
  front = t ∷ h.front;
  next = h.next;
  rest = h.rest;
  parts = ap (λ (ts : List Token). t ∷ ts) h.parts;
  may = (h.may.0, h.may.1, leads (h.front ++ h.may.0) ∙ h.may.2);
  cannot = λ more. leads ((h.front ++ h.next ∷ []) ++ more) ∙ h.cannot more;
  more = h.more;
  found = h.found;
  spells = spells ((h.front ++ h.next ∷ []) ++ h.more) h.found h.spells;
  keeps = h.keeps;
}

not_at_end : (end : ℕ) (job : Declarations) (now : Now) → run end job now [] ≡ TooDeep → ⊥
unfolding run
not_at_end end job now e = by (whole now) e
  where
    by : (o : Option Declarations) → ended end job o ≡ TooDeep → ⊥
    by None e = cc
    by (Some one) e = cc

-- what holds of a turn on the way, with at most 64 open
record IsOnTheWay (job : Declarations) (now : Now) : Type 0 where
  are : AreDeclarations 65 job
  kept : Kept 64 now
  kept_more : Kept 65 now
  sound : Sound now

way_goes : (job : Declarations) (now other : Now) (t : Token) → IsOnTheWay job now → step now t ≡ Goes other → IsOnTheWay job other
way_goes job now other t h s = record {
  are = h.are;
  kept = subst (Keeps 64 (omega arith) (Unit {0})) s (step_keeps 64 (omega arith) (Unit {0}) now t h.kept (any_allowed 64 (omega arith) now t));
  kept_more = subst (Keeps 65 (omega arith) (Unit {0})) s (step_keeps 65 (omega arith) (Unit {0}) now t h.kept_more (any_allowed 65 (omega arith) now t));
  sound = (subst (Says (said now) t) s (step_says now t h.sound)).2;
}

way_declares : (job one : Declarations) (now other : Now) (t : Token) → IsOnTheWay job now → whole now ≡ Some one
    → opening t.from (heading_of t.word) ≡ Some other
    → IsOnTheWay (job ++ one) other
way_declares job one now other t h a b = record {
  are = declarations_more 65 (omega arith) job one h.are
      (subst (λ (o : Option Declarations). IfSome o (AreDeclarations 65)) a (whole_kept 65 (omega arith) now h.kept_more));
  kept = subst (λ (o : Option Now). IfSome o (Kept 64)) b (heading_kept 64 (omega arith) t.from (heading_of t.word));
  kept_more = subst (λ (o : Option Now). IfSome o (Kept 65)) b (heading_kept 65 (omega arith) t.from (heading_of t.word));
  sound = (subst (λ (o : Option Now). IfSome o (λ now. (s : Sign) × IsSign s t × Sound now × (said now ≡ s ∷ []))) b (heading_says t t.word refl)).2;
}

deep_by_declaration : (end : ℕ) (job : Declarations) (now : Now) (t : Token) (tokens : List Token) → IsOnTheWay job now
    → run end job now (t ∷ tokens) ≡ TooDeep
    → ((next : Declarations) (other : Now) → IsOnTheWay next other → run end next other tokens ≡ TooDeep → DeepAt end next other tokens)
    → step now t ≡ Refused → (o : Option Declarations) → whole now ≡ o → (p : Option Now) → opening t.from (heading_of t.word) ≡ p
    → DeepAt end job now (t ∷ tokens)
deep_by_declaration end job now t tokens way e ih s None a p b =
    absurd (let both : Unexpected t.from ≡ TooDeep = sym (declares_at end job now t None p tokens s a b) ∙ e in cc)
deep_by_declaration end job now t tokens way e ih s (Some one) a None b =
    absurd (let both : Unexpected t.from ≡ TooDeep = sym (declares_at end job now t (Some one) None tokens s a b) ∙ e in cc)
deep_by_declaration end job now t tokens way e ih s (Some one) a (Some other) b =
    let spelt : declarations_signs one ≡ said now = subst (Spelt (said now)) a (whole_spelt now way.sound) in
    let heading = subst (λ (o : Option Now). IfSome o (λ now. (s : Sign) × IsSign s t × Sound now × (said now ≡ s ∷ []))) b (heading_says t t.word refl) in
    deep_later end job (job ++ one) now other t tokens (λ more. declares_at end job now t (Some one) (Some other) more s a b)
    (λ more found h. spells_declared job one (said now) other heading.0 t more found heading.1 spelt heading.3 h)
    (ih (job ++ one) other (way_declares job one now other t way a b) (sym (declares_at end job now t (Some one) (Some other) tokens s a b) ∙ e))

deep_by_step : (end : ℕ) (job : Declarations) (now : Now) (t : Token) (tokens : List Token) → IsOnTheWay job now → run end job now (t ∷ tokens) ≡ TooDeep
    → ((next : Declarations) (other : Now) → IsOnTheWay next other → run end next other tokens ≡ TooDeep → DeepAt end next other tokens)
    → (n : Next) → step now t ≡ n → DeepAt end job now (t ∷ tokens)
deep_by_step end job now t tokens way e ih (Goes other) s =
    let says = subst (Says (said now) t) s (step_says now t way.sound) in
    deep_later end job job now other t tokens (λ more. goes_at end job now t (Goes other) more s)
    (λ more found h. spells_more job (said now) other says.0 t more found says.1 says.3 h)
    (ih job other (way_goes job now other t way s) (sym (goes_at end job now t (Goes other) tokens s) ∙ e))
deep_by_step end job now t tokens way e ih Deep s =
    let o : Opened now t = opened 64 (omega arith) now t way.kept s in
    subst (λ (n : Now). DeepAt end job n (t ∷ tokens)) (sym o.is)
    (deep_here end job o.context o.level o.inner o.frames o.frame t tokens o.opens way.are (subst (Kept 64) o.is way.kept) (subst (Kept 65) o.is way.kept_more)
    (subst (λ (n : Now). step n t ≡ Deep) o.is s))
deep_by_step end job now t tokens way e ih Refused s =
    deep_by_declaration end job now t tokens way e ih s (whole now) refl (opening t.from (heading_of t.word)) refl

deep_on_the_way : (end : ℕ) (tokens : List Token) (job : Declarations) (now : Now) → IsOnTheWay job now → run end job now tokens ≡ TooDeep
    → DeepAt end job now tokens
deep_on_the_way end [] job now way e = absurd (not_at_end end job now e)
deep_on_the_way end (t ∷ tokens) job now way e = deep_by_step end job now t tokens way e (deep_on_the_way end tokens) (step now t) refl

pub deep_at : (end : ℕ) (tokens : List Token) → run end [] Start tokens ≡ TooDeep → DeepAt end [] Start tokens
deep_at end tokens e = deep_on_the_way end tokens [] Start (record { are = tt; kept = tt; kept_more = tt; sound = tt }) e
