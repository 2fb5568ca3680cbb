-- What a step keeps of a net, and what it adds to the counts.
use Rattle.std.proofs.Common.{◌≡◌, ◌+◌, ◌^◌, ◌<◌, ◌≤◌, ℕ, true, false, Option, Some, None, List, [], ◌∷◌, ◌++◌, length, get_or, refl, sym, ap, subst, ◌∙◌}
use Rattle.std.proofs.Common.{arith}
use Rattle.flu_draw.specs.Draws.{next_draw}
use Rattle.flu_fork.specs.declared.content.Content.{Content}
use Rattle.flu_net.specs.declared.steps.Step.{Step}
use Rattle.flu_net.specs.declared.steps.Step.TheVariants.{Arrive, Handle, Ask, Take, Give, Hold, Lend}
use Rattle.std.specs.Prelude.{IfSome, option_map, slice_get}
use Rattle.std.proofs.lemmas.Option.{slice_get-get_or}
use Rattle.flu_net.specs.Enabled.{is_enabled}
use Rattle.flu_net.specs.Effects.{Makes}
use Rattle.flu_live.proofs.Chosen.{is_on}
use Rattle.flu_net.specs.Final.{IsFinal}
use Rattle.flu_net.specs.Notes.{NetNote}
use Rattle.flu_live.specs.declared.counts.StepCounts.{StepCounts}
use Rattle.flu_live.specs.Counting.{steps_in}
use Rattle.flu_live.specs.Drawing.{IsOnItsWay, kept_in}
use Rattle.flu_net.specs.Measure.{most_steps, steps_left}
use Rattle.flu_live.specs.Seeded.{IsDrawn, IsWholeRun, Reaches, begun, counting, made, marked, no_steps}
use Rattle.flu_live.specs.Possible.{all_steps, enabled_steps}
use Rattle.flu_live.specs.declared.simulating.Drawing.{Drawing}
use Rattle.flu_net.specs.Starting.{IsStart}

pub one_more : (s : Step) (c : StepCounts) → steps_in (counting s c) ≡ steps_in c + 1
one_more (Arrive i) c = omega arith
one_more (Handle w) c = omega arith
one_more (Ask w side) c = omega arith
one_more (Take w side) c = omega arith
one_more (Give w) c = omega arith
one_more (Hold w) c = omega arith
one_more (Lend w side) c = omega arith

-- ---- a run on its way

as_is : (k : Content) (seed seed' : ℕ) (net : NetNote) (done : List Step) (x x' : ℕ) (steps steps' : StepCounts) (mark mark' : ℕ) → seed ≡ seed' → x ≡ x'
    → steps ≡ steps' → mark ≡ mark'
    → Reaches k seed net done x steps mark → Reaches k seed' net done x' steps' mark'
as_is k seed seed' net done x x' steps steps' mark mark' a b c d run =
    subst (λ m. Reaches k seed' net done x' steps' m) d
    (subst (λ (t : StepCounts). Reaches k seed' net done x' t mark) c
    (subst (λ y. Reaches k seed' net done y steps mark) b (subst (λ r. Reaches k r net done x steps mark) a run)))

-- the steps that are kept are those that were made, one step later too
one_kept : (done : List Step) (s : Step) (old new : Option (List Step)) → new ≡ option_map (λ steps. steps ++ s ∷ []) old → IfSome old (λ steps. steps ≡ done)
    → IfSome new (λ steps. steps ≡ done ++ s ∷ [])
one_kept done s None None more was = tt
one_kept done s None (Some steps) more was = absurd (cc)
one_kept done s (Some before) None more was = absurd (cc)
one_kept done s (Some before) (Some steps) more was = let grown : steps ≡ before ++ s ∷ [] = cc in grown ∙ ap (λ l. l ++ s ∷ []) was

-- the room for steps to come, as numbers
room_begun : (a l m : ℕ) → a ≡ 0 → l ≤ m → a + l ≤ m
room_begun a l m none most = omega arith

room_made : (a b l l' m : ℕ) → b ≡ a + 1 → a + l ≤ m → l' < l → b + l' ≤ m
room_made a b l l' m more room left = omega arith

room_for : (a l l' m n : ℕ) → a + l ≤ m → m < n → l' < l → a + 1 < n
room_for a l l' m n room few left = omega arith

pub begun_run : (k : Content) (d : Drawing) → IsStart k d.net → d.last ≡ d.seed → d.seed < 2 ^ 31 → d.steps ≡ no_steps → d.mark ≡ 0
    → IfSome (kept_in d.kept) (λ steps. steps ≡ []) → steps_left d.net ≤ most_steps k → most_steps k < 2 ^ 128
    → IsOnItsWay k d
begun_run k d start last small steps mark kept most few =
    let none : steps_in d.steps ≡ 0 = ap steps_in steps in
    record {
      case = start.case;
      gone = start.gone;
      done = [];
      kept = kept;
      run = as_is k d.seed d.seed d.net [] d.seed d.last no_steps d.steps 0 d.mark refl (sym last) (sym steps) (sym mark) (begun start);
      small = subst (λ (x : ℕ). x < 2 ^ 31) (sym last) small;
      room = room_begun (steps_in d.steps) (steps_left d.net) (most_steps k) none most;
      few = few;
    }

pub made_one : (k : Content) (old new : Drawing) (place : ℕ) (s : Step) → IsOnItsWay k old → new.seed ≡ old.seed → new.last ≡ next_draw old.last
    → new.last < 2 ^ 31
    → IsDrawn old.net new.last place s → Makes s old.net new.net → new.net.case ≡ old.net.case → new.net.gone ≡ false
    → steps_left new.net < steps_left old.net → kept_in new.kept ≡ option_map (λ steps. steps ++ s ∷ []) (kept_in old.kept)
    → new.steps ≡ counting s old.steps → new.mark ≡ marked old.mark place
    → IsOnItsWay k new
made_one k old new place s way seed last small drawn does case stays left kept steps mark =
    let more : steps_in new.steps ≡ steps_in old.steps + 1 = ap steps_in steps ∙ one_more s old.steps in
    record {
      case = case ∙ way.case;
      gone = stays;
      done = way.done ++ s ∷ [];
      kept = one_kept way.done s (kept_in old.kept) (kept_in new.kept) kept way.kept;
      run =
          as_is k old.seed new.seed new.net (way.done ++ s ∷ []) (next_draw old.last) new.last (counting s old.steps) new.steps (marked old.mark place) new.mark
          (sym seed)
          (sym last) (sym steps) (sym mark)
          (made way.run (subst (λ x. IsDrawn old.net x place s) last drawn) does);
      small = small;
      room = room_made (steps_in old.steps) (steps_in new.steps) (steps_left old.net) (steps_left new.net) (most_steps k) more way.room left;
      few = way.few;
    }

-- the counts have room for one step more
pub has_room : (k : Content) (old : Drawing) (new : NetNote) → IsOnItsWay k old → steps_left new < steps_left old.net → steps_in old.steps + 1 < 2 ^ 128
has_room k old new way left = room_for (steps_in old.steps) (steps_left old.net) (steps_left new) (most_steps k) (2 ^ 128) way.room way.few left

-- what is drawn is enabled
pub drawn_on : (n : NetNote) (enabled : List Step) (place : ℕ) (d : Step) → enabled ≡ enabled_steps n → place < length enabled
    → is_enabled n (get_or enabled place d) ≡ true
drawn_on n enabled place d are there =
    is_on n (all_steps n.case) place (get_or enabled place d) (sym (ap (λ l. slice_get l place) are) ∙ slice_get-get_or enabled place d there)

-- ---- the steps of a whole run, where they are kept
pub whole_of : (k : Content) (d : Drawing) (seed : ℕ) (done : List Step) (way : IsOnItsWay k d) → d.seed ≡ seed → done ≡ way.done → enabled_steps d.net ≡ []
    → IsFinal d.net → IsWholeRun k seed done d.steps d.mark
whole_of k d seed done way seeded same ended final = record {
  net = d.net;
  last = d.last;
  run =
      subst (λ (l : List Step). Reaches k seed d.net l d.last d.steps d.mark) (sym same)
      (subst (λ s. Reaches k s d.net way.done d.last d.steps d.mark) seeded way.run);
  ended = ended;
  is_final = final;
}
