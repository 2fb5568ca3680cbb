use Rattle.std.proofs.Common.{◌≡◌, ◌-◌, ◌^◌, ℕ, List, Option, None, true}
use Rattle.std.specs.Prelude.{is_some}
use Rattle.flu_outside.specs.Outside.{WhereTold, SameCounts}
use Rattle.flu_outside.specs.Taking.{TakesFrom, CountsOf, IsReadOut}
use Rattle.flu_rows.specs.declared.rows.Next.{Next}
use Rattle.flu_streams.specs.Holding.{IsHeldBehind}
use Rattle.flu_streams.specs.LoopHeld.{source_of, IsWellAt, IsRefilling, IsBefore, IsFew, HasRoom}
use Rattle.flu_streams.specs.Tests.{margin}
use Rattle.flu_streams.proofs.inlet.Inlet.refill.Given as goal

abbrev pub invariant-loop-time : goal.invariant-loop-time
invariant-loop-time g l =
    let left = g.F.Files.left in
    let faults = g.F.Files.faults in
    let put_faults = g.F.Files.put_faults in
    record {
      timing : l.self.timing ≡ l.fn.self.timing;
      form : l.self.rows.form ≡ l.fn.self.rows.form;
      file : l.self.rows.file ≡ l.source.file;
      so_far : (above : Option ℕ) (before : List Next) → IsHeldBehind l.fn.self.timing l.kinds l.first l.source above before (source_of l.fn.self)
          → IsRefilling l.fn.self.timing l.kinds l.source l.first l.rows above before l.fn.self l.self (left l.fn.files) (left l.files);
      well : (border : Option ℕ) → IsWellAt l.fn.self.timing l.source border l.fn.self → IsWellAt l.fn.self.timing l.source border l.self;
      out : (l.fn.self.closed ≡ true → IsReadOut l.source.file (left l.fn.files)) → l.self.closed ≡ true → IsReadOut l.source.file (left l.files);
      few : IsFew l.rows l.source l.fn.self → IsFew l.rows l.source l.self;
      room : HasRoom l.self;
      before_goal : IsBefore (margin l.self.timing l.source.slack) (source_of l.self);
      shut : l.self.closed ≡ true → l.self.goal ≡ None;
      idle : l.fn.self.closed ≡ true → (l.self.closed ≡ true) × (l.files ≡ l.fn.files);
      counted : is_some l.self.held ≡ is_some l.fn.self.held;
      taken : WhereTold (left l.fn.files) (left l.files) (TakesFrom l.source.file);
      counts : CountsOf (left l.fn.files) l.source.file (faults l.fn.files) (faults l.files);
      quiet : SameCounts (faults l.fn.files) (faults l.files);
      puts : SameCounts (put_faults l.fn.files) (put_faults l.files);
    }

abbrev pub decreases-loop-time : goal.decreases-loop-time
decreases-loop-time g l = 2 ^ 32 - l.self.rows.lines
