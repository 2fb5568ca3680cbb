-- The machine that follows the grammar of plans finds no fault but an unexpected token.
use Rattle.std.proofs.Common.{ℕ, List}
use Rattle.flu_text.specs.declared.words.Token.{Token}
use Rattle.flu_plan.specs.declared.fault.PlanFault.{PlanFault}
use Rattle.flu_plan.specs.declared.fault.PlanFault.TheVariants as f
use Rattle.flu_plan.specs.declared.grammar.Stage.{Stage}
use Rattle.flu_plan.specs.declared.grammar.Stage.TheVariants as stage
use Rattle.flu_plan.specs.declared.terminals.Terminal.{Terminal}
use Rattle.flu_plan.specs.declared.terminals.Terminal.TheVariants as k
use Rattle.flu_plan.specs.Faults.{each}
use Rattle.flu_plan.specs.Machine.{terminal_of, Turn, start, stage_step, step, stage_end, ended, written_in}
use Rattle.flu_grammar.proofs.FaultKinds.{FaultsAre, one_fault, faults_bind, faults_each}

abbrev pub IsUnexpected : PlanFault → Type 0
IsUnexpected (f.Unexpected at) = Unit {0}
IsUnexpected _ = ⊥

stage_faults : (u : Turn) (t : Token) (k : Terminal) (s : Stage) → FaultsAre IsUnexpected (stage_step u t k s)
stage_faults u t k.Node stage.Start e h = absurd cc
stage_faults u t _ stage.Start e h = one_fault IsUnexpected (f.Unexpected t.from) tt e h
stage_faults u t k.Name stage.Node e h = absurd cc
stage_faults u t _ stage.Node e h = one_fault IsUnexpected (f.Unexpected t.from) tt e h
stage_faults u t k.Colon stage.Name e h = absurd cc
stage_faults u t _ stage.Name e h = one_fault IsUnexpected (f.Unexpected t.from) tt e h
stage_faults u t k.Arrow stage.Colon e h = absurd cc
stage_faults u t k.Node stage.Colon e h = absurd cc
stage_faults u t k.Name stage.Colon e h = absurd cc
stage_faults u t k.At stage.Colon e h = absurd cc
stage_faults u t _ stage.Colon e h = one_fault IsUnexpected (f.Unexpected t.from) tt e h
stage_faults u t k.Name stage.Comma e h = absurd cc
stage_faults u t k.At stage.Comma e h = absurd cc
stage_faults u t _ stage.Comma e h = one_fault IsUnexpected (f.Unexpected t.from) tt e h
stage_faults u t k.OpenBracket (stage.Kind kind) e h = absurd cc
stage_faults u t k.At (stage.Kind kind) e h = absurd cc
stage_faults u t k.Comma (stage.Kind kind) e h = absurd cc
stage_faults u t k.Arrow (stage.Kind kind) e h = absurd cc
stage_faults u t k.Node (stage.Kind kind) e h = absurd cc
stage_faults u t _ (stage.Kind kind) e h = one_fault IsUnexpected (f.Unexpected t.from) tt e h
stage_faults u t (k.Number n) (stage.Open kind) e h = absurd cc
stage_faults u t _ (stage.Open kind) e h = one_fault IsUnexpected (f.Unexpected t.from) tt e h
stage_faults u t k.Dots (stage.Low kind low) e h = absurd cc
stage_faults u t k.CloseBracket (stage.Low kind low) e h = absurd cc
stage_faults u t _ (stage.Low kind low) e h = one_fault IsUnexpected (f.Unexpected t.from) tt e h
stage_faults u t (k.Number n) (stage.Dots kind low) e h = absurd cc
stage_faults u t _ (stage.Dots kind low) e h = one_fault IsUnexpected (f.Unexpected t.from) tt e h
stage_faults u t k.CloseBracket (stage.High kind ks) e h = absurd cc
stage_faults u t _ (stage.High kind ks) e h = one_fault IsUnexpected (f.Unexpected t.from) tt e h
stage_faults u t k.At (stage.Close kind ks) e h = absurd cc
stage_faults u t k.Comma (stage.Close kind ks) e h = absurd cc
stage_faults u t k.Arrow (stage.Close kind ks) e h = absurd cc
stage_faults u t k.Node (stage.Close kind ks) e h = absurd cc
stage_faults u t _ (stage.Close kind ks) e h = one_fault IsUnexpected (f.Unexpected t.from) tt e h
stage_faults u t k.Name (stage.At kind ks) e h = absurd cc
stage_faults u t _ (stage.At kind ks) e h = one_fault IsUnexpected (f.Unexpected t.from) tt e h
stage_faults u t k.Comma stage.Source e h = absurd cc
stage_faults u t k.Arrow stage.Source e h = absurd cc
stage_faults u t k.Node stage.Source e h = absurd cc
stage_faults u t _ stage.Source e h = one_fault IsUnexpected (f.Unexpected t.from) tt e h
stage_faults u t k.Name stage.Arrow e h = absurd cc
stage_faults u t _ stage.Arrow e h = one_fault IsUnexpected (f.Unexpected t.from) tt e h
stage_faults u t k.Name (stage.Left left) e h = absurd cc
stage_faults u t _ (stage.Left left) e h = one_fault IsUnexpected (f.Unexpected t.from) tt e h
stage_faults u t k.Node (stage.Right left right) e h = absurd cc
stage_faults u t _ (stage.Right left right) e h = one_fault IsUnexpected (f.Unexpected t.from) tt e h

step_faults : (u : Turn) (t : Token) → FaultsAre IsUnexpected (step u t)
unfolding step
step_faults u t = stage_faults u t (terminal_of t.word) u.stage

end_faults : (end : ℕ) (u : Turn) (s : Stage) → FaultsAre IsUnexpected (stage_end end u s)
end_faults end u stage.Colon e h = absurd cc
end_faults end u (stage.Kind kind) e h = absurd cc
end_faults end u (stage.Close kind ks) e h = absurd cc
end_faults end u stage.Source e h = absurd cc
end_faults end u (stage.Right left right) e h = absurd cc
end_faults end u _ e h = one_fault IsUnexpected (f.Unexpected end) tt e h

ended_faults : (end : ℕ) (u : Turn) → FaultsAre IsUnexpected (ended end u)
unfolding ended
ended_faults end u = end_faults end u u.stage

pub machine_faults : (end : ℕ) (ts : List Token) → FaultsAre IsUnexpected (written_in end ts)
machine_faults end ts = faults_bind IsUnexpected (each step start ts) (ended end) (faults_each IsUnexpected step step_faults start ts) (ended_faults end)
