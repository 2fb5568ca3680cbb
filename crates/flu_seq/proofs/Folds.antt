-- The fold so far.
use Rattle.std.proofs.Common.{◌≡◌, List, [], ◌∷◌, ◌++◌, refl, sym, ap, ◌∙◌}
use Rattle.std.proofs.lemmas.List.{append_assoc, append-nil}
use Rattle.flu_model.specs.declared.events.Event.{Event}
use Rattle.flu_model.specs.declared.events.Out.{Out}
use Rattle.flu_model.specs.declared.jobs.Program.{Program}
use Rattle.flu_model.specs.Contents.{Contents}
use Rattle.flu_model.specs.Folding.{state_after, outputs_of, outputs_with}
use Rattle.flu_model.specs.Updates.{effect_of}
use Rattle.flu_seq.specs.declared.coming.Coming.{Coming}
use Rattle.flu_seq.specs.LoopHeads.{IsBehind}

state_push : (p : Program) (s : Contents) (done : List Event) (x : Event) → state_after p s (done ++ x ∷ []) ≡ (effect_of p (state_after p s done) x).cells
state_push p s [] x = refl
state_push p s (y ∷ done) x = state_push p (effect_of p s y).cells done x

outputs_push : (p : Program) (s : Contents) (done : List Event) (x : Event)
    → outputs_of p s (done ++ x ∷ []) ≡ outputs_of p s done ++ outputs_with p x (effect_of p (state_after p s done) x).texts
outputs_push p s [] x = append-nil (outputs_with p x (effect_of p s x).texts)
outputs_push p s (y ∷ done) x =
    let e = effect_of p s y in
    let more = outputs_with p x (effect_of p (state_after p e.cells done) x).texts in
    ap (λ rest. outputs_with p y e.texts ++ rest) (outputs_push p e.cells done x)
    ∙ sym (append_assoc (outputs_with p y e.texts) (outputs_of p e.cells done) more)

-- some events have come and were done
pub record FoldsTo (p : Program) (opening : Contents) (c : Coming) (state : Contents) (outs : List Out) : Type 0 where
  pub done : List Event
  pub behind : IsBehind done c
  pub state' : state ≡ state_after p opening done
  pub outs' : outs ≡ outputs_of p opening done

-- one more was done
pub folds_on : (p : Program) (opening : Contents) (old new : Coming) (x : Event) (state state' : Contents) (outs outs' : List Out)
    → (folds : FoldsTo p opening old state outs) → IsBehind (folds.done ++ x ∷ []) new
    → state' ≡ (effect_of p state x).cells → outs' ≡ outs ++ outputs_with p x (effect_of p state x).texts → FoldsTo p opening new state' outs'
folds_on p opening old new x state state' outs outs' folds behind cells texts = record {
  done = folds.done ++ x ∷ [];
  behind = behind;
  state' = cells ∙ ap (λ s. (effect_of p s x).cells) folds.state' ∙ sym (state_push p opening folds.done x);
  outs' =
      texts ∙ ap (λ os. os ++ outputs_with p x (effect_of p state x).texts) folds.outs'
      ∙ ap (λ s. outputs_of p opening folds.done ++ outputs_with p x (effect_of p s x).texts) folds.state'
      ∙ sym (outputs_push p opening folds.done x);
}
