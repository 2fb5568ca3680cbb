use mir.Syntax.{named}
use Rattle.flu_run.proofs.SharedCases.{case_sync}
use Rattle.flu_run.proofs.engine.TreeEngine.batch_with.Goals as goal

pub run_tree-ran-requires-sync-H : goal.run_tree-ran-requires-sync-H
run_tree-ran-requires-sync-H g c κs within =
    record {
      shared =
          (case_sync (record { mir = named 4; lft = κs.1.1.1.1.0 }) c.jobs_are_shared.ensures c.plans_are_shared.ensures c.streams_are_shared.ensures).shared;
    }
