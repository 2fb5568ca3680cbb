-- The names of units, and what the unit of a job's times means.
use Rattle.std.proofs.Common.{◌≡◌, ℕ, Bool, true, false, List, Option, Some, None, Ok, refl, sym, ap, subst, ◌∙◌}
use Rattle.std.specs.Prelude.{◌==◌, if◌then◌else◌, codes}
use Rattle.std.specs.Str.{bytes_eq}
use Rattle.flu_lemmas.proofs.Bytes.{bytes_is}
use Rattle.flu_lemmas.proofs.Searches.{eq_true}
use Rattle.flu_lemmas.proofs.Tests.{true_eq}
use Rattle.flu_calendar.specs.declared.unit.Unit.TheVariants.{Seconds, Milliseconds, Microseconds}
use Rattle.flu_model.specs.Texts.{Unit as TimeUnit}
use Rattle.flu_syntax.specs.declared.tree.WrittenUnit.{WrittenUnit}
use Rattle.flu_syntax.specs.declared.tree.WrittenHead.{WrittenHead}
use Rattle.flu_layout.specs.Spelling.{name_of}
use Rattle.flu_parse.specs.declared.faults.JobFault.TheVariants as f
use Rattle.flu_parse.specs.Printing.{unit_name}
use Rattle.flu_parse.specs.Resolving.{unit_named, found_unit, unit_of, iso_of}
use Rattle.flu_grammar.specs.Jobs.{MeansUnit, MeansIso}
use Rattle.flu_grammar.proofs.Looks.{ok_same, ok_ok, passed, passes}

pub unit_said : (u : TimeUnit) → unit_named (unit_name u) ≡ Some u
unit_said Seconds = refl
unit_said Milliseconds = refl
unit_said Microseconds = refl

unit_is : (name : List ℕ) (u : TimeUnit) → unit_named name ≡ Some u → name ≡ unit_name u
unit_is name u e = by (bytes_eq name (codes "seconds")) (bytes_eq name (codes "milliseconds")) (bytes_eq name (codes "microseconds")) refl refl refl e
  where
    by : (a b c : Bool) → bytes_eq name (codes "seconds") ≡ a → bytes_eq name (codes "milliseconds") ≡ b → bytes_eq name (codes "microseconds") ≡ c
        → (if a then Some Seconds else if b then Some Milliseconds else if c then Some Microseconds else None) ≡ Some u → name ≡ unit_name u
    by true b c x y z e = let same : Seconds ≡ u = cc in bytes_is name (codes "seconds") x ∙ ap unit_name same
    by false true c x y z e = let same : Milliseconds ≡ u = cc in bytes_is name (codes "milliseconds") y ∙ ap unit_name same
    by false false true x y z e = let same : Microseconds ≡ u = cc in bytes_is name (codes "microseconds") z ∙ ap unit_name same
    by false false false x y z e = absurd cc

unit_means : (text : List ℕ) (version : ℕ) (o : Option WrittenUnit) (iso : Option TimeUnit) → unit_of text version o ≡ Ok iso → MeansUnit text version o iso
unit_means text version None iso e = sym (ok_same None iso e)
unit_means text version (Some written) iso e =
    let one = passed (version == 3) (f.WrongShape written.at) (found_unit written.name.from (unit_named (name_of text written.name))) iso e in
    by (true_eq version 3 one.0) (unit_named (name_of text written.name)) refl one.1
  where
    by : version ≡ 3 → (o : Option TimeUnit) → unit_named (name_of text written.name) ≡ o → found_unit written.name.from o ≡ Ok iso
        → MeansUnit text version (Some written) iso
    by third None is e = absurd cc
    by third (Some u) is e = subst (MeansUnit text version (Some written)) (ok_same (Some u) iso e) (third, unit_is (name_of text written.name) u is)

unit_found : (text : List ℕ) (version : ℕ) (o : Option WrittenUnit) (iso : Option TimeUnit) → MeansUnit text version o iso → unit_of text version o ≡ Ok iso
unit_found text version None iso h = ok_ok None iso (sym h)
unit_found text version (Some written) None h = absurd h
unit_found text version (Some written) (Some u) h =
    passes (version == 3) (f.WrongShape written.at) (found_unit written.name.from (unit_named (name_of text written.name))) (Some u) (eq_true version 3 h.0)
    (ap (λ name. found_unit written.name.from (unit_named name)) h.1 ∙ ap (found_unit written.name.from) (unit_said u))

pub iso_is : (text : List ℕ) (version : ℕ) (o : Option WrittenHead) (iso : Option TimeUnit) → iso_of text version o ≡ Ok iso → MeansIso text version o iso
iso_is text version None iso e = sym (ok_same None iso e)
iso_is text version (Some head) iso e = unit_means text version head.iso iso e

pub iso_found : (text : List ℕ) (version : ℕ) (o : Option WrittenHead) (iso : Option TimeUnit) → MeansIso text version o iso → iso_of text version o ≡ Ok iso
iso_found text version None iso h = ok_ok None iso (sym h)
iso_found text version (Some head) iso h = unit_found text version head.iso iso h
