use Rattle.flu_net.proofs.Pairing.{events_exact, parts_paired}
use Rattle.flu_net.proofs.Prefixes.{owners_count}
use Rattle.flu_net.proofs.laws.facts_of_runs.Goals as goal

pub returns : goal.returns
returns c = record {
  exact = events_exact c.laws_below.ensures;
  paired = parts_paired c.laws_below.ensures;
  prefix = owners_count c.laws_below.ensures;
}
