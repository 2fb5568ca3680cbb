-- The lines of the steps of a run.
use Rattle.std.proofs.Common.{refl, ◌<◌, List, arith}
use Rattle.std.specs.List.{All, AllByRecursion}
use Rattle.std.proofs.lemmas.List.Elements.{All-from_recursion}
use Rattle.flu_deps.specs.Validated.{plan_of}
use Rattle.flu_fork.specs.declared.content.Content.{Content}
use Rattle.flu_fork.specs.Lots.{job}
use Rattle.flu_lemmas.proofs.Elements.{all_map}
use Rattle.flu_live.specs.Possible.{IsPossible}
use Rattle.flu_net.specs.declared.steps.Step.{Step}
use Rattle.flu_net.specs.declared.steps.Step.TheVariants.{Arrive, Handle, Ask, Take, Give, Hold, Lend}
use Rattle.flu_trace.specs.Lines.{number_of, line_of, IsLineOf}

-- a job has at most 256 itags, and a plan 127 nodes
small_number : (k : Content) (s : Step) → IsPossible k s → number_of s < 1000
small_number k (Arrive i) possible = let few = (job k).few_itags in omega (arith, possible, few)
small_number k (Handle w) possible = let few = (plan_of k.valid).few_nodes in omega (arith, possible, few)
small_number k (Ask w s) possible = let few = (plan_of k.valid).few_nodes in omega (arith, possible, few)
small_number k (Take w s) possible = let few = (plan_of k.valid).few_nodes in omega (arith, possible, few)
small_number k (Give w) possible = let few = (plan_of k.valid).few_nodes in omega (arith, possible, few)
small_number k (Hold w) possible = let few = (plan_of k.valid).few_nodes in omega (arith, possible, few)
small_number k (Lend w s) possible = let few = (plan_of k.valid).few_nodes in omega (arith, possible, few)

-- so each step that is possible has a good line
pub good_lines : (k : Content) (steps : List Step) → AllByRecursion (IsPossible k) steps → AllByRecursion (λ s. IsLineOf s (line_of s)) steps
good_lines k steps possible = all_map (IsPossible k) (λ s. IsLineOf s (line_of s)) steps (λ s one. record { number = small_number k s one; is = refl }) possible

pub small_numbers : (k : Content) (steps : List Step) → AllByRecursion (IsPossible k) steps → All (λ s. number_of s < 1000) steps
small_numbers k steps possible = All-from_recursion (λ s. number_of s < 1000) steps
    (all_map (IsPossible k) (λ s. number_of s < 1000) steps (small_number k) possible)
