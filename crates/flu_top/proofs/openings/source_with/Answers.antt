use Rattle.std.proofs.Common.{◌≡◌, sym, ap, ◌∙◌, subst, List, ℕ, Some, rules, tests}
use Rattle.std.specs.Prelude.{Contains, option_map}
use Rattle.flu_streams.specs.Files.{files_of}
use Rattle.std.proofs.lemmas.Iterator.{YieldsList-from_slice}
use Rattle.std.proofs.lemmas.Iterator.Search.{position_from_yields_List}
use Rattle.flu_top.proofs.Checkpoints.{found_file, has_file, no_file}
use Rattle.flu_top.proofs.openings.source_with.Goals as goal

pub returns-in_err-number-clause-none : goal.returns-in_err-number-clause-none
returns-in_err-number-clause-none c none name named found =
    let one = c.in_ok-name.name.now in
    let sources = c.args.program.now.sources in
    let place = position_from_yields_List (has_file one) _ _ _ c.position.ensures.ran (YieldsList-from_slice sources cc) (λ x b q k. search (rules, tests)) in
    let same : one ≡ name = let e = sym (ap (option_map (λ n. n.now)) c.in_ok-name.was) ∙ named in cc in
    no_file sources one (sym place ∙ c.in_err-number.was) (subst (λ (n : List ℕ). Contains (files_of sources) n) (sym same) found)

pub returns-clause-found : goal.returns-clause-found
returns-clause-found c =
    let one = c.in_ok-name.name.now in
    let sources = c.args.program.now.sources in
    let place = position_from_yields_List (has_file one) _ _ _ c.position.ensures.ran (YieldsList-from_slice sources cc) (λ x b q k. search (rules, tests)) in
    let found = found_file sources one c.in_ok-number.number (sym place ∙ c.in_ok-number.was) in
    (found.0, found.1, found.2, ap (option_map (λ n. n.now)) c.in_ok-name.was ∙ ap Some found.3)
