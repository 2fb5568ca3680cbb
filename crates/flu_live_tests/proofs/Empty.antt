-- The empty state.
use Rattle.std.proofs.Common.{◌≡◌, List, sym, subst}
use Rattle.flu_model.specs.declared.jobs.Family.{Family}
use Rattle.flu_model.specs.Contents.{Contents, nothing_held}
use Rattle.flu_model.specs.Sorts.{IsStateOf}

pub none_has_sorts : (families : List Family) (s : Contents) → s ≡ nothing_held → IsStateOf families s
none_has_sorts families s none = subst (λ (s : Contents). IsStateOf families s) (sym none) (λ d. tt)
