-- Any list of steps keeps the rule of the net, and each worker's own.
use Rattle.std.proofs.Common.{◌≡◌, ℕ, true, false, Some, List, [], ◌∷◌, set, inl, inr, sym, ap, subst, ◌∙◌, arith}
use Rattle.std.specs.Prelude.{◌&&◌, is_some, not, slice_get}
use Rattle.std.specs.List.Sorted.{IsPermutation}
use Rattle.std.proofs.lemmas.Bool.{cases_eq}
use Rattle.std.proofs.lemmas.Option.{slice_get_within}
use Rattle.flu_lemmas.proofs.Places.{slice_get-there}
use Rattle.flu_lemmas.proofs.Replaced.{slice_get-set_other}
use Rattle.flu_lemmas.proofs.Tests.{and_left, and_right}
use Rattle.flu_model.specs.Folding.{final_outputs}
use Rattle.flu_model.specs.Listed.{listed}
use Rattle.flu_cells.specs.Holding.{held}
use Rattle.flu_fork.specs.declared.content.Content.{Content}
use Rattle.flu_fork.specs.declared.lots.Lot.{Lot}
use Rattle.flu_fork.specs.Lots.{job, LotFits}
use Rattle.flu_worker.specs.Choosing.{target_of}
use Rattle.flu_worker.specs.Hands.{may_lend, may_take}
use Rattle.flu_worker.specs.Keeping.{HasRule}
use Rattle.flu_worker.specs.Notes.{WorkerNote}
use Rattle.flu_net.specs.declared.edges.Edge.{Edge}
use Rattle.flu_net.specs.declared.edges.Edge.TheVariants.{Lent, Given}
use Rattle.flu_net.specs.declared.steps.Step.{Step}
use Rattle.flu_net.specs.declared.steps.Step.TheVariants.{Arrive, Handle, Ask, Take, Give, Hold, Lend}
use Rattle.flu_net.specs.Blocking.{AllKeep}
use Rattle.flu_net.specs.Effects.{IsStepOf, Makes, seeing}
use Rattle.flu_net.specs.Enabled.{by_step}
use Rattle.flu_net.specs.LawsBelow.{LawsBelow}
use Rattle.flu_net.specs.Notes.{NetNote, asked_of, kid_of}
use Rattle.flu_net.specs.Rule.{Rule, Tells}
use Rattle.flu_net.specs.Runs.{IsMade, IsReached, Runs, RunsKeepTheRule, RunsTellTheFold}
use Rattle.flu_net.proofs.Arriving.{mapped_from, rule_arrived}
use Rattle.flu_net.proofs.Finals.{all_outputs}
use Rattle.flu_net.proofs.Keeping.{rule_asks, rule_gives, rule_handles, rule_holds, rule_lends, rule_takes}
use Rattle.flu_net.proofs.Lists.{set_is}
use Rattle.flu_net.proofs.Made.{kept_case, still_there}
use Rattle.flu_net.proofs.Readying.{held_edge, there_test}
use Rattle.flu_net.proofs.Starts.{start_rule}
use Rattle.flu_net.proofs.Stepping.{hangs_now}

-- ---- the rule of the net
pub made_rule : LawsBelow → (s : Step) (old new : NetNote) → Rule old → IsMade s old new → Rule new
made_rule laws s old new rule step = by s (and_right (not old.gone) _ step.enabled) step.made
  where
    by : (s : Step) → by_step old s ≡ true → Makes s old new → Rule new
    by (Arrive i) may m = subst Rule (sym m) (rule_arrived old rule i may)
    by (Handle w) may m = rule_handles laws w old new rule m
    by (Ask w side) may m =
        let tests =
        there_test (λ (x : WorkerNote). may_take side x.hand && is_some (target_of x (asked_of old w))) (slice_get old.workers w) m.step.was m.step.at
        (and_right _ _ may) in
        rule_asks laws w side old new rule m (held_edge old.edges (kid_of old.case w side) m.kid m.is_kid (and_left _ _ may)) (and_left _ _ tests)
    by (Take w side) may m = rule_takes laws w side old new rule m
    by (Give w) may m = rule_gives laws w old new rule m
    by (Hold w) may m = rule_holds laws w old new rule m
    by (Lend w side) may m =
        rule_lends laws w side old new rule m
        (there_test (λ (x : WorkerNote). may_lend side x.hand) (slice_get old.workers w) m.step.was m.step.at (and_right _ _ may))

-- ---- each worker's own
keep_set : (w : ℕ) (old new : NetNote) → (s : IsStepOf w old new) → AllKeep old.workers → AllKeep new.workers
keep_set w old new s keep = subst AllKeep (sym s.workers) at_each
  where
    at_each : AllKeep (set old.workers w s.is)
    at_each j v at = elim (cases_eq j w) as (λ _. HasRule v) [
      | inl same ↦
          subst HasRule (set_is old.workers w s.is v (slice_get_within old.workers w s.was s.at) (sym (ap (slice_get (set old.workers w s.is)) same) ∙ at)) s.rule
      | inr other ↦ keep j v (sym (slice_get-set_other old.workers w j s.is other) ∙ at)
    ]

pub made_keep : LawsBelow → (s : Step) (old new : NetNote) → AllKeep old.workers → Makes s old new → AllKeep new.workers
made_keep laws (Arrive i) old new keep m = subst (λ (n : NetNote). AllKeep n.workers) (sym m) (λ w v at.
    (let from = mapped_from (seeing i.0 _) old.workers w v at in subst HasRule from.2 (laws.seeing_keeps from.0 _ (keep w from.0 from.1))))
made_keep laws (Handle w) old new keep m = keep_set w old new m.step keep
made_keep laws (Ask w side) old new keep m = keep_set w old new m.step keep
made_keep laws (Take w side) old new keep m = keep_set w old new m.step keep
made_keep laws (Give w) old new keep m = keep_set w old new m.step keep
made_keep laws (Hold w) old new keep m = keep_set w old new m.step keep
made_keep laws (Lend w side) old new keep m = keep_set w old new m.step keep

-- ---- runs
pub runs_keep : LawsBelow → RunsKeepTheRule
runs_keep laws k old new steps start run = along steps old start.case start.gone (start_rule laws k old start) start.workers.keep run
  where
    along : (steps : List Step) (n : NetNote) → n.case ≡ k → n.gone ≡ false → Rule n → AllKeep n.workers → Runs steps n new → IsReached k new
    along [] n case gone rule keep run = subst (IsReached k) (sym run) (record { case = case; gone = gone; rule = rule; keep = keep })
    along (s ∷ steps) n case gone rule keep run =
        along steps run.0 (kept_case s n run.0 run.1.made ∙ case) (still_there s n run.0 gone run.1.made) (made_rule laws s n run.0 rule run.1)
        (made_keep laws s n run.0 keep run.1.made) run.2

module _ (laws : LawsBelow) (k : Content) (n : NetNote) (r : IsReached k n) where
  worker_under : (w : ℕ) (e : Edge) → slice_get n.edges w ≡ Some e → (v : WorkerNote) × (slice_get n.workers w ≡ Some v)
  worker_under w e at =
      let lt = slice_get_within n.edges w e at in
      let a = r.rule.ties.workers_each in
      let b = r.rule.ties.edges_each in
      slice_get-there n.workers w (omega arith)

  placed_fits : (w : ℕ) (v : WorkerNote) (lot : Lot) → slice_get n.workers w ≡ Some v → LotFits v.case v.node lot → LotFits k w lot
  placed_fits w v lot at fits =
      let p = r.rule.ties.placed w v at in
      subst (λ (u : ℕ). LotFits k u lot) p.node (subst (λ (j : Content). LotFits j v.node lot) (p.case ∙ r.case) fits)

  pub lent_fits : (w : ℕ) (lot : Lot) → slice_get n.edges w ≡ Some (Lent lot) → LotFits k w lot
  lent_fits w lot at =
      let v = worker_under w (Lent lot) at in
      placed_fits w v.0 lot v.1 (hangs_now laws n.case n.seen n.workers n.edges r.rule.ties w v.0 v.0 v.1 (Lent lot) at (λ x. cc)).fits

  pub given_fits : (w : ℕ) (lot : Lot) → slice_get n.edges w ≡ Some (Given lot) → LotFits k w lot
  given_fits w lot at =
      let v = worker_under w (Given lot) at in
      placed_fits w v.0 lot v.1 (hangs_now laws n.case n.seen n.workers n.edges r.rule.ties w v.0 v.0 v.1 (Given lot) at (λ x. cc)).fits

pub runs_tell : LawsBelow → RunsTellTheFold
runs_tell laws k old new steps start run =
    let r = runs_keep laws k old new steps start run in
    record {
      edges = λ w lot on. elim on [ inl lent ↦ lent_fits laws k new r w lot lent | inr given ↦ given_fits laws k new r w lot given ];
      hands = λ w v at. (r.keep w v at).lots;
      outs = subst (λ (j : Content). Tells j new.workers new.outs) r.case r.rule.tells;
      whole = λ final. subst (λ (j : Content). IsPermutation (final_outputs (job j) (held j.opening) (listed j.streams)) new.outs) r.case
          (all_outputs laws new r.rule final);
    }
