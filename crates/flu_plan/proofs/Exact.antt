-- What is read is exactly the grammar's plan, and an unexpected token is the first that cannot follow.
use Rattle.std.proofs.Common.{◌≡◌, ℕ, List, [], ◌∷◌, ◌++◌, Ok, Err, pos, refl, sym, ap, subst, ◌∙◌, append_assoc}
use Rattle.flu_text.specs.declared.words.Word.{Word}
use Rattle.flu_text.specs.declared.words.Word.TheVariants as w
use Rattle.flu_text.specs.declared.words.Contextual.TheVariants as c
use Rattle.flu_names.specs.declared.reserved.Reserved.TheVariants as r
use Rattle.flu_text.specs.declared.words.Mark.TheVariants as m
use Rattle.flu_text.specs.declared.words.Token.{Token}
use Rattle.flu_plan.specs.declared.fault.PlanFault.{PlanFault}
use Rattle.flu_plan.specs.declared.fault.PlanFault.TheVariants as f
use Rattle.flu_plan.specs.declared.grammar.Stage.{Stage}
use Rattle.flu_plan.specs.declared.grammar.Stage.TheVariants as stage
use Rattle.flu_text.specs.declared.written.WrittenSpan.{WrittenSpan}
use Rattle.flu_plan.specs.declared.terminals.Terminal.{Terminal}
use Rattle.flu_plan.specs.declared.terminals.Terminal.TheVariants as k
use Rattle.flu_plan.specs.declared.written.WrittenPred.{WrittenPred}
use Rattle.flu_plan.specs.declared.written.WrittenNode.{WrittenNode}
use Rattle.flu_plan.specs.Faults.{Found, ◌>>=◌, each}
use Rattle.flu_plan.specs.Machine.{terminal_of, Turn, start, stage_step, step, stage_end, ended, run}
use Rattle.flu_plan.specs.Grammar.{FoundIsPlan, PlansAreUnique, MayGoOn, CannotTake, IsFirstThatCannotFollow, UnexpectedIsFirst}
use Rattle.flu_plan.proofs.Finds.{ok_same}
use Rattle.flu_lemmas.proofs.Loops.{bind_ok}
use Rattle.flu_plan.proofs.Spelled.{turn, steps, run-takes, found_if_spelled}
use Rattle.flu_plan.proofs.History.{Read, read_start, read_more, found_spelled}

pub found_is_plan : FoundIsPlan
found_is_plan end tokens nodes = (found_spelled end start [] tokens nodes read_start, found_if_spelled end tokens nodes)

pub plans_are_unique : PlansAreUnique
plans_are_unique tokens a b first second = ok_same a b (sym (found_if_spelled 0 tokens a first) ∙ found_if_spelled 0 tokens b second)

-- ---- tokens that complete a turn

abbrev token : Word → Token
token word = record { word = word; from = 0; to = 0 }

abbrev a_name : Token
a_name = token (w.Name c.Other)

abbrev a_number : Token
a_number = token (w.Number (pos 0))

abbrev a_bracket : Token
a_bracket = token (w.Mark m.CloseBracket)

abbrev a_colon : Token
a_colon = token (w.Mark m.Colon)

abbrev a_node : Token
a_node = token (w.Reserved r.Node)

-- tokens lead from a turn to an end
abbrev Completes : Turn → Type 0
Completes u = (more : List Token) × (all : List WrittenNode) × (run 0 u more ≡ Ok all)

-- they do from each
completes : (nodes : List WrittenNode) (nm : WrittenSpan) (preds : List WrittenPred) (s : Stage) → Completes (turn nodes nm preds s)
unfolding each step ended terminal_of
completes nodes nm preds stage.Start = (a_node ∷ a_name ∷ a_colon ∷ [], _, refl)
completes nodes nm preds stage.Node = (a_name ∷ a_colon ∷ [], _, refl)
completes nodes nm preds stage.Name = (a_colon ∷ [], _, refl)
completes nodes nm preds stage.Colon = ([], _, refl)
completes nodes nm preds stage.Comma = (a_name ∷ [], _, refl)
completes nodes nm preds (stage.Kind kind) = ([], _, refl)
completes nodes nm preds (stage.Open kind) = (a_number ∷ a_bracket ∷ [], _, refl)
completes nodes nm preds (stage.Low kind low) = (a_bracket ∷ [], _, refl)
completes nodes nm preds (stage.Dots kind low) = (a_number ∷ a_bracket ∷ [], _, refl)
completes nodes nm preds (stage.High kind ks) = (a_bracket ∷ [], _, refl)
completes nodes nm preds (stage.Close kind ks) = ([], _, refl)
completes nodes nm preds (stage.At kind ks) = (a_name ∷ [], _, refl)
completes nodes nm preds stage.Source = ([], _, refl)
completes nodes nm preds stage.Arrow = (a_name ∷ a_name ∷ [], _, refl)
completes nodes nm preds (stage.Left left) = (a_name ∷ [], _, refl)
completes nodes nm preds (stage.Right left right) = ([], _, refl)

may_go_on : (u : Turn) (front : List Token) → Read u front → MayGoOn front
may_go_on u front read = let more = completes u.nodes u.name u.preds u.stage in (more.0, more.1, found_spelled 0 u front more.0 more.1 read more.2)

-- ---- a token that cannot follow

-- the turn behind some tokens decides what follows them
run-front : (end : ℕ) (u v : Turn) (front tokens : List Token) → each step u front ≡ Ok v → run end u (front ++ tokens) ≡ run end v tokens
unfolding each
run-front end u v [] tokens e = ap (λ w. run end w tokens) (ok_same u v e)
run-front end u v (t ∷ front) tokens e =
    let first = bind_ok (step u t) (λ w. each step w front) v e in
    run-takes end u first.0 t (front ++ tokens) first.1 ∙ run-front end first.0 v front tokens first.2

run-refused : (end : ℕ) (u : Turn) (t : Token) (tokens : List Token) (e : PlanFault) → step u t ≡ Err e → run end u (t ∷ tokens) ≡ Err e
unfolding each
run-refused end u t tokens e refused = ap (λ r. (r >>= λ v. each step v tokens) >>= ended end) refused

cannot_take : (u : Turn) (front : List Token) (t : Token) (rest : List Token) (e : PlanFault) → each step start front ≡ Ok u → step u t ≡ Err e
    → CannotTake front (t ∷ rest)
cannot_take u front t rest e behind refused = λ more nodes plan. (
    let found = found_if_spelled 0 ((front ++ t ∷ []) ++ more) nodes plan in
    let same = ap (run 0 start) (append_assoc front (t ∷ []) more) in
    let stops = run-front 0 start u front (t ∷ more) behind ∙ run-refused 0 u t more e refused in
    let bad = sym found ∙ same ∙ stops in
    (cc)
    )

cannot_end : (end : ℕ) (u : Turn) (front : List Token) (e : PlanFault) → each step start front ≡ Ok u → ended end u ≡ Err e → CannotTake front []
unfolding each
cannot_end end u front e behind refused = λ nodes plan. (
    let found = found_if_spelled end front nodes plan in
    let stops : run end start front ≡ Err e = ap (λ r. r >>= ended end) behind ∙ refused in
    let bad = sym found ∙ stops in
    (cc)
    )

each-push : (u v next : Turn) (front : List Token) (t : Token) → each step u front ≡ Ok v → step v t ≡ Ok next → each step u (front ++ t ∷ []) ≡ Ok next
unfolding each
each-push u v next [] t e one = ap (λ w. step w t >>= λ x. Ok x) (ok_same u v e) ∙ ap (λ r. r >>= λ x. Ok x) one
each-push u v next (x ∷ front) t e one =
    let first = bind_ok (step u x) (λ w. each step w front) v e in
    ap (λ r. r >>= λ w. each step w (front ++ t ∷ [])) first.1 ∙ each-push first.0 v next front t first.2 one

-- the only fault of a turn is its token, and that of the end the end
stage_refuses : (u : Turn) (t : Token) (k : Terminal) (s : Stage) (e : PlanFault) → stage_step u t k s ≡ Err e → e ≡ f.Unexpected t.from
stage_refuses u t k.Node stage.Start e h = cc
stage_refuses u t _ stage.Start e h = cc
stage_refuses u t k.Name stage.Node e h = cc
stage_refuses u t _ stage.Node e h = cc
stage_refuses u t k.Colon stage.Name e h = cc
stage_refuses u t _ stage.Name e h = cc
stage_refuses u t k.Arrow stage.Colon e h = cc
stage_refuses u t k.Node stage.Colon e h = cc
stage_refuses u t k.Name stage.Colon e h = cc
stage_refuses u t k.At stage.Colon e h = cc
stage_refuses u t _ stage.Colon e h = cc
stage_refuses u t k.Name stage.Comma e h = cc
stage_refuses u t k.At stage.Comma e h = cc
stage_refuses u t _ stage.Comma e h = cc
stage_refuses u t k.OpenBracket (stage.Kind kind) e h = cc
stage_refuses u t k.At (stage.Kind kind) e h = cc
stage_refuses u t k.Comma (stage.Kind kind) e h = cc
stage_refuses u t k.Arrow (stage.Kind kind) e h = cc
stage_refuses u t k.Node (stage.Kind kind) e h = cc
stage_refuses u t _ (stage.Kind kind) e h = cc
stage_refuses u t (k.Number n) (stage.Open kind) e h = cc
stage_refuses u t _ (stage.Open kind) e h = cc
stage_refuses u t k.Dots (stage.Low kind low) e h = cc
stage_refuses u t k.CloseBracket (stage.Low kind low) e h = cc
stage_refuses u t _ (stage.Low kind low) e h = cc
stage_refuses u t (k.Number n) (stage.Dots kind low) e h = cc
stage_refuses u t _ (stage.Dots kind low) e h = cc
stage_refuses u t k.CloseBracket (stage.High kind ks) e h = cc
stage_refuses u t _ (stage.High kind ks) e h = cc
stage_refuses u t k.At (stage.Close kind ks) e h = cc
stage_refuses u t k.Comma (stage.Close kind ks) e h = cc
stage_refuses u t k.Arrow (stage.Close kind ks) e h = cc
stage_refuses u t k.Node (stage.Close kind ks) e h = cc
stage_refuses u t _ (stage.Close kind ks) e h = cc
stage_refuses u t k.Name (stage.At kind ks) e h = cc
stage_refuses u t _ (stage.At kind ks) e h = cc
stage_refuses u t k.Comma stage.Source e h = cc
stage_refuses u t k.Arrow stage.Source e h = cc
stage_refuses u t k.Node stage.Source e h = cc
stage_refuses u t _ stage.Source e h = cc
stage_refuses u t k.Name stage.Arrow e h = cc
stage_refuses u t _ stage.Arrow e h = cc
stage_refuses u t k.Name (stage.Left left) e h = cc
stage_refuses u t _ (stage.Left left) e h = cc
stage_refuses u t k.Node (stage.Right left right) e h = cc
stage_refuses u t _ (stage.Right left right) e h = cc

step_refuses : (u : Turn) (t : Token) (e : PlanFault) → step u t ≡ Err e → e ≡ f.Unexpected t.from
step_refuses u t e h = stage_refuses u t (terminal_of t.word) u.stage e (sym (steps u t (terminal_of t.word) refl) ∙ h)

end_refuses : (end : ℕ) (u : Turn) (s : Stage) (e : PlanFault) → stage_end end u s ≡ Err e → e ≡ f.Unexpected end
end_refuses end u stage.Colon e h = cc
end_refuses end u (stage.Kind kind) e h = cc
end_refuses end u (stage.Close kind ks) e h = cc
end_refuses end u stage.Source e h = cc
end_refuses end u (stage.Right left right) e h = cc
end_refuses end u _ e h = cc

place_is : (a b : ℕ) → f.Unexpected a ≡ f.Unexpected b → a ≡ b
place_is a b e = cc

first_of_all : (end place : ℕ) (u : Turn) (front tokens : List Token) → each step start front ≡ Ok u → Read u front
    → run end u tokens ≡ Err (f.Unexpected place) → IsFirstThatCannotFollow end (front ++ tokens) place
unfolding each ended
first_of_all end place u front [] behind read e =
    record {
      front = front;
      rest = [];
      whole = refl;
      here = place_is place end (end_refuses end u u.stage (f.Unexpected place) e);
      may = may_go_on u front read;
      cannot = cannot_end end u front (f.Unexpected place) behind e;
    }
first_of_all end place u front (t ∷ tokens) behind read e =
    by (step u t) refl
    (λ next one. first_of_all end place next (front ++ t ∷ []) tokens (each-push start u next front t behind one) (read_more u next front t read one)
    (sym (run-takes end u next t tokens one) ∙ e))
  where
    by : (r : Found Turn) → step u t ≡ r → ((next : Turn) → step u t ≡ Ok next → IsFirstThatCannotFollow end ((front ++ t ∷ []) ++ tokens) place)
        → IsFirstThatCannotFollow end (front ++ t ∷ tokens) place
    by (Ok next) one more = subst (λ (l : List Token). IsFirstThatCannotFollow end l place) (append_assoc front (t ∷ []) tokens) (more next one)
    by (Err fault) one more =
        let stops = run-refused end u t tokens fault one in
        let same : fault ≡ f.Unexpected place = cc in
        let here : f.Unexpected place ≡ f.Unexpected t.from = sym same ∙ step_refuses u t fault one in
        record {
          front = front;
          rest = t ∷ tokens;
          whole = refl;
          here = place_is place t.from here;
          may = may_go_on u front read;
          cannot = cannot_take u front t tokens fault behind one;
        }

each_start : each step start [] ≡ Ok start
unfolding each
each_start = refl

pub unexpected_is_first : UnexpectedIsFirst
unexpected_is_first end tokens place e = first_of_all end place start [] tokens each_start read_start e
