-- The itags at whose words a worker looks, and what it finds there.
use Rattle.std.proofs.Common.{◌≡◌, ◌<◌, Bool, List, map, sym, subst, arith}
use Rattle.std.specs.List.{All, range_with_len}
use Rattle.std.proofs.lemmas.List.Elements.{All-filter}
use Rattle.std.proofs.lemmas.List.FromFn.{length-map-range_with_len, get_or-map-range_with_len}
use Rattle.flu_model.specs.declared.events.Itag.{Itag}
use Rattle.flu_model.specs.declared.jobs.Program.{Program}
use Rattle.flu_model.specs.Itags.{count_of_itags}
use Rattle.flu_tables.specs.Lists.{itag, itags_where}

pub all_known : (p : Program) (test : Itag → Bool) → All (λ (i : Itag). i.0 < count_of_itags p) (itags_where p test)
all_known p test =
    All-filter test (λ (i : Itag). i.0 < count_of_itags p) (map itag (range_with_len 0 (count_of_itags p)))
    (λ k d lt.
    let within : k < count_of_itags p = omega (arith, length-map-range_with_len itag 0 (count_of_itags p)) in
    subst (λ (i : Itag). i.0 < count_of_itags p) (sym (get_or-map-range_with_len itag 0 (count_of_itags p) k k d within (omega arith))) within)

pub known_as : (p p' : Program) (xs : List Itag) (test : Itag → Bool) → p' ≡ p → xs ≡ itags_where p' test → All (λ (i : Itag). i.0 < count_of_itags p) xs
known_as p p' xs test e is =
    subst (All (λ (i : Itag). i.0 < count_of_itags p)) (sym is)
    (subst (λ (q : Program). All (λ (i : Itag). i.0 < count_of_itags q) (itags_where p' test)) e (all_known p' test))
