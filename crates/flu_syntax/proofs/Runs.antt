-- One step of the machine.
use Rattle.std.proofs.Common.{◌≡◌, ℕ, ◌+◌, ◌<◌, ◌≤◌, Bool, true, false, cond, List, [], ◌∷◌, ◌++◌, length, Option, Some, None, refl, sym, ap, ◌∙◌, arith}
use Rattle.std.proofs.lemmas.Bool.{lt-ltb, le-ltb, le-leb, lt-leb}
use Rattle.std.proofs.lemmas.List.{append-nil}
use Rattle.flu_text.specs.declared.words.Token.{Token}
use Rattle.flu_model.specs.declared.jobs.Op.{Op}
use Rattle.flu_syntax.specs.declared.tokens.Front.{Front}
use Rattle.flu_syntax.specs.declared.tokens.Front.TheVariants as start
use Rattle.flu_syntax.specs.declared.fault.SyntaxFault.{SyntaxFault}
use Rattle.flu_syntax.specs.Reading.{Tells, Inside}
use Rattle.flu_syntax.specs.Tree.{Tree, ParenTree, NegTree, NotTree, TwoTree, Declaration, Declarations}
use Rattle.flu_syntax.specs.Machine.{Context, Amount, Guard, Frame, NegFrame, NotFrame, ParenFrame, RightFrame, Want, Have, Done, Now}
use Rattle.flu_syntax.specs.Machine.{Start, InExpression, Next, Goes, Deep, Refused, start_of, begin, deeper, done_step, behind, operator_of}
use Rattle.flu_syntax.specs.Machine.{is_within, is_close, level_behind, opens, opens_of, step, expression_step, behind_step, whole, done_whole}
use Rattle.flu_syntax.specs.Machine.{heading_of, opening, Verdict, Found, Unexpected, TooDeep, goes_on, next_declaration, run}
use Rattle.flu_text.specs.Signs.{place_of}
use Rattle.flu_syntax.specs.Grammar.{op_level}

-- ---- any turn

pub run-takes : (end : ℕ) (job : Declarations) (now next : Now) (t : Token) (tokens : List Token) → step now t ≡ Goes next
    → run end job now (t ∷ tokens) ≡ run end job next tokens
unfolding run
run-takes end job now next t tokens e = rw e refl

pub run-too_deep : (end : ℕ) (job : Declarations) (now : Now) (t : Token) (tokens : List Token) → step now t ≡ Deep → run end job now (t ∷ tokens) ≡ TooDeep
unfolding run
run-too_deep end job now t tokens e = rw e refl

pub run-misses : (end : ℕ) (job : Declarations) (now : Now) (t : Token) (tokens : List Token) → step now t ≡ Refused → whole now ≡ None
    → run end job now (t ∷ tokens) ≡ Unexpected t.from
unfolding run
run-misses end job now t tokens e h = rw (e, h) refl

pub run-ends : (end : ℕ) (job : Declarations) (now : Now) → whole now ≡ None → run end job now [] ≡ Unexpected end
unfolding run
run-ends end job now h = rw h refl

-- a turn at which all tokens do the same as at another
pub run-same_empty : (end : ℕ) (job : Declarations) (a b : Now) → whole a ≡ whole b → run end job a [] ≡ run end job b []
unfolding run
run-same_empty end job a b h = rw h refl

goes-same : (t : Token) (job : Declarations) (a b : Now) (next : Next) (more : Declarations → Now → Verdict Declarations) → whole a ≡ whole b
    → goes_on t job a next more ≡ goes_on t job b next more
goes-same t job a b (Goes now) more h = refl
goes-same t job a b Deep more h = refl
goes-same t job a b Refused more h = rw h refl

pub run-same : (end : ℕ) (job : Declarations) (a b : Now) (t : Token) (tokens : List Token) → whole a ≡ whole b → step a t ≡ step b t
    → run end job a (t ∷ tokens) ≡ run end job b (t ∷ tokens)
unfolding run
run-same end job a b t tokens h e = rw e (goes-same t job a b (step b t) (λ next now. run end next now tokens) h)

-- a declaration that ends before the tokens
pub closes_empty : (end : ℕ) (job : Declarations) (now : Now) (d : Declaration) → whole now ≡ Some (d ∷ [])
    → run end job now [] ≡ run end (job ++ d ∷ []) Start []
unfolding run whole
closes_empty end job now d h = rw h (ap Found (sym (append-nil (job ++ d ∷ []))))

after_it : (place : ℕ) (job : Declarations) (d : Declaration) (o : Option Now) (more : Declarations → Now → Verdict Declarations)
    → next_declaration place job (Some (d ∷ [])) o more ≡ next_declaration place (job ++ d ∷ []) (Some []) o more
after_it place job d None more = refl
after_it place job d (Some now) more = ap (λ (x : Declarations). more x now) (sym (append-nil (job ++ d ∷ [])))

pub closes_token : (end : ℕ) (job : Declarations) (now : Now) (d : Declaration) (t : Token) (tokens : List Token) → whole now ≡ Some (d ∷ [])
    → step now t ≡ Refused → run end job now (t ∷ tokens) ≡ run end (job ++ d ∷ []) Start (t ∷ tokens)
unfolding run whole step
closes_token end job now d t tokens h e = rw (e, h) (after_it t.from job d (opening t.from (heading_of t.word)) (λ next rest. run end next rest tokens))

-- a declaration begins
pub begins : (end : ℕ) (job : Declarations) (now : Now) (t : Token) (tokens : List Token) → opening t.from (heading_of t.word) ≡ Some now
    → run end job Start (t ∷ tokens) ≡ run end job now tokens
unfolding run whole step
begins end job now t tokens e = rw e (ap (λ (x : Declarations). run end x now tokens) (append-nil job))

pub begins_none : (end : ℕ) (job : Declarations) (t : Token) (tokens : List Token) → opening t.from (heading_of t.word) ≡ None
    → run end job Start (t ∷ tokens) ≡ Unexpected t.from
unfolding run whole step
begins_none end job t tokens e = rw e refl

pub job_ends : (end : ℕ) (job : Declarations) → run end job Start [] ≡ Found job
unfolding run whole
job_ends end job = ap Found (append-nil job)

pub job_ends_at : (end : ℕ) (job : Declarations) (tokens : List Token) → length tokens ≡ 0 → run end job Start tokens ≡ Found job
job_ends_at end job [] e = job_ends end job
job_ends_at end job (t ∷ tokens) e = let bad : ⊥ = omega arith in absurd bad

pub Tells-through : {X : Type 0} (fault : SyntaxFault) (a b : Verdict X) → a ≡ b → Tells fault b → Tells fault a
Tells-through fault a b e h = rw e h

-- ---- the front of an expression

pub step-front : (context : Context) (level : ℕ) (frames : List Frame) (t : Token) (s : Front) → s ≡ start_of t.word
    → step (InExpression context (Want level) frames) t ≡ begin context level frames t s
unfolding step expression_step
step-front context level frames t s e = rw (sym e) refl

pub run-front : (end level : ℕ) (job : Declarations) (context : Context) (frames : List Frame) (next : Now) (t : Token) (tokens more : List Token)
    (s : Front) → tokens ≡ t ∷ more → s ≡ start_of t.word
    → begin context level frames t s ≡ Goes next → run end job (InExpression context (Want level) frames) tokens ≡ run end job next more
run-front end level job context frames next t tokens more s here is e =
    rw here (run-takes end job (InExpression context (Want level) frames) next t more (step-front context level frames t s is ∙ e))

pub run-front_deep : (end level : ℕ) (job : Declarations) (context : Context) (frames : List Frame) (t : Token) (tokens more : List Token) (s : Front)
    → tokens ≡ t ∷ more → s ≡ start_of t.word
    → begin context level frames t s ≡ Deep → run end job (InExpression context (Want level) frames) tokens ≡ TooDeep
run-front_deep end level job context frames t tokens more s here is e =
    rw here (run-too_deep end job (InExpression context (Want level) frames) t more (step-front context level frames t s is ∙ e))

want_whole : (context : Context) (level : ℕ) (frames : List Frame) → whole (InExpression context (Want level) frames) ≡ None
unfolding whole
want_whole context level frames = refl

pub run-front_misses : (end level : ℕ) (job : Declarations) (context : Context) (frames : List Frame) (t : Token) (tokens more : List Token) (s : Front)
    → tokens ≡ t ∷ more → s ≡ start_of t.word
    → begin context level frames t s ≡ Refused → run end job (InExpression context (Want level) frames) tokens ≡ Unexpected (place_of end tokens)
run-front_misses end level job context frames t tokens more s here is e =
    rw here (run-misses end job (InExpression context (Want level) frames) t more (step-front context level frames t s is
    ∙ e) (want_whole context level frames))

pub run-front_end : (end level : ℕ) (job : Declarations) (context : Context) (frames : List Frame) (tokens : List Token) → tokens ≡ []
    → run end job (InExpression context (Want level) frames) tokens ≡ Unexpected (place_of end tokens)
run-front_end end level job context frames tokens e = rw e (run-ends end job (InExpression context (Want level) frames) (want_whole context level frames))

pub not_starts : (context : Context) (level : ℕ) (frames : List Frame) (t : Token) → level ≤ 2
    → begin context level frames t start.Not ≡ deeper frames (InExpression context (Want 2) (NotFrame level t.from ∷ frames))
not_starts context level frames t le = rw (le-leb level 2 le) refl

pub not_misses : (context : Context) (level : ℕ) (frames : List Frame) (t : Token) → 2 < level → begin context level frames t start.Not ≡ Refused
not_misses context level frames t lt = rw (lt-leb level 2 lt) refl

pub opens_more : (frames : List Frame) (now : Now) → opens frames < 64 → deeper frames now ≡ Goes now
opens_more frames now lt = rw (lt-ltb (opens frames) 64 lt) refl

pub opens_none : (frames : List Frame) (now : Now) → 64 ≤ opens frames → deeper frames now ≡ Deep
opens_none frames now le = rw (le-ltb (opens frames) 64 le) refl

-- ---- how many are open

pub opens-one : (f : Frame) (frames : List Frame) (n : ℕ) → opens_of f ≡ 1 → opens frames ≡ n → opens (f ∷ frames) ≡ n + 1
unfolding opens
opens-one f frames n e h = rw (e, h) (omega arith)

pub opens-same : (f : Frame) (frames : List Frame) (n : ℕ) → opens_of f ≡ 0 → opens frames ≡ n → opens (f ∷ frames) ≡ n
unfolding opens
opens-same f frames n e h = rw (e, h) (omega arith)

abbrev pub deeper_in : {n : ℕ} (here : Inside n) (f : Frame) → opens_of f ≡ 1 → Inside (n + 1)
deeper_in {n = n} here f e = record { before = here.before; context = here.context; frames = f ∷ here.frames; many = opens-one f here.frames n e here.many }

abbrev pub same_in : {n : ℕ} (here : Inside n) (f : Frame) → opens_of f ≡ 0 → Inside n
same_in {n = n} here f e = record { before = here.before; context = here.context; frames = f ∷ here.frames; many = opens-same f here.frames n e here.many }

pub opens-nil : opens [] ≡ 0
unfolding opens
opens-nil = refl

-- ---- an expression that no operator takes

pub run-neg : (end level at : ℕ) (job : Declarations) (context : Context) (t : Tree) (frames : List Frame) (tokens : List Token)
    → run end job (InExpression context (Done t) (NegFrame level at ∷ frames)) tokens ≡ run end job
    (InExpression context (Have level 6 (NegTree at t)) frames) tokens
unfolding run step expression_step done_step whole done_whole
run-neg end level at job context t frames [] = refl
run-neg end level at job context t frames (x ∷ tokens) = refl

pub run-not : (end level at : ℕ) (job : Declarations) (context : Context) (t : Tree) (frames : List Frame) (tokens : List Token)
    → run end job (InExpression context (Done t) (NotFrame level at ∷ frames)) tokens ≡ run end job
    (InExpression context (Have level 2 (NotTree at t)) frames) tokens
unfolding run step expression_step done_step whole done_whole
run-not end level at job context t frames [] = refl
run-not end level at job context t frames (x ∷ tokens) = refl

pub run-right : (end level at : ℕ) (job : Declarations) (context : Context) (o : Op) (left t : Tree) (frames : List Frame) (tokens : List Token)
    → run end job (InExpression context (Done t) (RightFrame level o at left ∷ frames)) tokens ≡ run end job
    (InExpression context (Have level (level_behind (op_level o)) (TwoTree o at left t)) frames) tokens
unfolding run step expression_step done_step whole done_whole
run-right end level at job context o left t frames [] = refl
run-right end level at job context o left t frames (x ∷ tokens) = refl

-- an expression that is whole
pub behind-whole : (context : Context) (t : Tree) → whole (InExpression context (Done t) []) ≡ whole (behind context t)
unfolding whole done_whole
behind-whole (Amount so_far at verb cell) t = refl
behind-whole (Guard so_far at deed) t = refl

pub behind-step : (context : Context) (e : Tree) (t : Token) → step (InExpression context (Done e) []) t ≡ step (behind context e) t
unfolding step expression_step done_step behind_step
behind-step (Amount so_far at verb cell) e t = refl
behind-step (Guard so_far at deed) e t = refl

pub run-behind : (end : ℕ) (job : Declarations) (context : Context) (t : Tree) (tokens : List Token)
    → run end job (InExpression context (Done t) []) tokens ≡ run end job (behind context t) tokens
run-behind end job context t [] = run-same_empty end job (InExpression context (Done t) []) (behind context t) (behind-whole context t)
run-behind end job context t (x ∷ tokens) =
    run-same end job (InExpression context (Done t) []) (behind context t) x tokens (behind-whole context t) (behind-step context t x)

-- ---- the end of a parenthesis

paren_whole : (level at : ℕ) (context : Context) (t : Tree) (frames : List Frame) → whole (InExpression context (Done t) (ParenFrame level at ∷ frames)) ≡ None
unfolding whole done_whole
paren_whole level at context t frames = refl

paren_step : (level at : ℕ) (context : Context) (t : Tree) (frames : List Frame) (x : Token) (b : Bool) → is_close x.word ≡ b
    → step (InExpression context (Done t) (ParenFrame level at ∷ frames)) x ≡ cond b
    (Goes (InExpression context (Have level 6 (ParenTree at t)) frames)) Refused
unfolding step expression_step done_step
paren_step level at context t frames x b e = rw e refl

pub run-paren_end : (end level at : ℕ) (job : Declarations) (context : Context) (t : Tree) (frames : List Frame) (tokens : List Token) → tokens ≡ []
    → run end job (InExpression context (Done t) (ParenFrame level at ∷ frames)) tokens ≡ Unexpected (place_of end tokens)
run-paren_end end level at job context t frames tokens e =
    rw e (run-ends end job (InExpression context (Done t) (ParenFrame level at ∷ frames)) (paren_whole level at context t frames))

pub run-paren : (end level at : ℕ) (job : Declarations) (context : Context) (t : Tree) (frames : List Frame) (x : Token) (tokens more : List Token)
    → tokens ≡ x ∷ more → is_close x.word ≡ true
    → run end job (InExpression context (Done t) (ParenFrame level at ∷ frames)) tokens ≡ run end job
    (InExpression context (Have level 6 (ParenTree at t)) frames) more
run-paren end level at job context t frames x tokens more here hit =
    rw here (run-takes end job (InExpression context (Done t) (ParenFrame level at ∷ frames)) (InExpression context (Have level 6 (ParenTree at t)) frames) x
    more (paren_step level at context t frames x true hit))

pub run-paren_misses : (end level at : ℕ) (job : Declarations) (context : Context) (t : Tree) (frames : List Frame) (x : Token) (tokens more : List Token)
    → tokens ≡ x ∷ more → is_close x.word ≡ false
    → run end job (InExpression context (Done t) (ParenFrame level at ∷ frames)) tokens ≡ Unexpected (place_of end tokens)
run-paren_misses end level at job context t frames x tokens more here miss =
    rw here (run-misses end job (InExpression context (Done t) (ParenFrame level at ∷ frames)) x more (paren_step level at context t frames x false miss)
    (paren_whole level at context t frames))

-- ---- operators

pub pass_end : (low high end : ℕ) (job : Declarations) (context : Context) (t : Tree) (frames : List Frame) (tokens : List Token) → tokens ≡ []
    → run end job (InExpression context (Have low high t) frames) tokens ≡ run end job (InExpression context (Done t) frames) tokens
unfolding run whole
pass_end low high end job context t frames tokens e = rw e refl

pub pass_word : (low high end : ℕ) (job : Declarations) (context : Context) (t : Tree) (frames : List Frame) (x : Token) (tokens more : List Token)
    → tokens ≡ x ∷ more → None ≡ operator_of x.word
    → run end job (InExpression context (Have low high t) frames) tokens ≡ run end job (InExpression context (Done t) frames) tokens
unfolding run step expression_step whole
pass_word low high end job context t frames x tokens more here e = rw (here, sym e) refl

pub pass_level : (low high end : ℕ) (job : Declarations) (context : Context) (t : Tree) (frames : List Frame) (x : Token) (tokens more : List Token) (o : Op)
    → tokens ≡ x ∷ more → Some o ≡ operator_of x.word
    → is_within low (op_level o) high ≡ false
    → run end job (InExpression context (Have low high t) frames) tokens ≡ run end job (InExpression context (Done t) frames) tokens
unfolding run step expression_step whole
pass_level low high end job context t frames x tokens more o here e miss = rw (here, sym e, miss) refl

operator_step : (low high : ℕ) (context : Context) (t : Tree) (frames : List Frame) (x : Token) (o : Op) → Some o ≡ operator_of x.word
    → is_within low (op_level o) high ≡ true
    → step (InExpression context (Have low high t) frames) x ≡ Goes (InExpression context (Want (op_level o + 1)) (RightFrame low o x.from t ∷ frames))
unfolding step expression_step
operator_step low high context t frames x o e hit = rw (sym e, hit) refl

pub take_operator : (low high end : ℕ) (job : Declarations) (context : Context) (t : Tree) (frames : List Frame) (x : Token) (tokens more : List Token)
    (o : Op) → tokens ≡ x ∷ more → Some o ≡ operator_of x.word
    → is_within low (op_level o) high ≡ true
    → run end job (InExpression context (Have low high t) frames) tokens ≡ run end job
    (InExpression context (Want (op_level o + 1)) (RightFrame low o x.from t ∷ frames)) more
take_operator low high end job context t frames x tokens more o here e hit =
    rw here (run-takes end job (InExpression context (Have low high t) frames)
    (InExpression context (Want (op_level o + 1)) (RightFrame low o x.from t ∷ frames)) x more (operator_step low high context t frames x o e hit))
