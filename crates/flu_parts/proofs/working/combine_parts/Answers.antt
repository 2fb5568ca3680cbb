use Rattle.std.proofs.Common.{◌≡◌, ◌<◌, sym, ap, Err, ◌∙◌, subst, List, ℕ, map, string_bytes}
use Rattle.std.proofs.lemmas.List.{length-map}
use Rattle.flu_outside.specs.Outside.{WhereTold}
use Rattle.flu_deps.specs.Checking.{program_of}
use Rattle.flu_deps.specs.Validated.{plan_of}
use Rattle.flu_combine.specs.Combined.{IsCombined, LeavesUnread}
use Rattle.flu_combine.specs.Faults.{IsCause, HidesNoPartialDefect}
use Rattle.flu_parts.specs.Written.{AreNoSources}
use Rattle.flu_parts.proofs.BehindTexts.{left_of_parts, text_of_parts, fault_of_parts, defect_of_part}
use Rattle.flu_parts.proofs.Names.{bytes_at, none_as_texts}
use Rattle.flu_parts.proofs.working.combine_parts.Goals as goal

pub combine-requires-clause-some : goal.combine-requires-clause-some
combine-requires-clause-some g c =
    let same : c.as_slice.result.now ≡ map string_bytes c.args.partials.now = c.as_slice.ensures.value ∙ c.in-Ok.ensures in
    λ none. c.requires.some (none_as_texts c.args.partials.now (sym same ∙ none))

pub returns-in-Ok-combine-clause-others : goal.returns-in-Ok-combine-clause-others
returns-in-Ok-combine-clause-others g c job plan =
    let p = program_of c.args.checked.now in
    let nodes = (plan_of c.args.valid.now).nodes in
    let names = map string_bytes c.args.partials.now in
    let same : c.as_slice.result.now ≡ names = c.as_slice.ensures.value ∙ c.in-Ok.ensures in
    let none = subst (AreNoSources names) c.program.ensures (c.same_name.ensures.none c.in_default.is) in
    let a = g.F.Files.left c.args.files.now in
    let b = g.F.Files.left c.combine.new.files in
    left_of_parts p nodes job plan names none a b (subst (λ (ns : List (List ℕ)). WhereTold a b (LeavesUnread p nodes ns)) same c.combine.ensures.others)

pub returns-in-Err-Partial-clause-others : goal.returns-in-Err-Partial-clause-others
returns-in-Err-Partial-clause-others g c job plan =
    let p = program_of c.args.checked.now in
    let nodes = (plan_of c.args.valid.now).nodes in
    let names = map string_bytes c.args.partials.now in
    let same : c.as_slice.result.now ≡ names = c.as_slice.ensures.value ∙ c.in-Ok.ensures in
    let none = subst (AreNoSources names) c.program.ensures (c.same_name.ensures.none c.in_default.is) in
    let a = g.F.Files.left c.args.files.now in
    let b = g.F.Files.left c.combine.new.files in
    left_of_parts p nodes job plan names none a b (subst (λ (ns : List (List ℕ)). WhereTold a b (LeavesUnread p nodes ns)) same c.combine.ensures.others)

pub returns-in-Err-Source-clause-others : goal.returns-in-Err-Source-clause-others
returns-in-Err-Source-clause-others g c job plan =
    let p = program_of c.args.checked.now in
    let nodes = (plan_of c.args.valid.now).nodes in
    let names = map string_bytes c.args.partials.now in
    let same : c.as_slice.result.now ≡ names = c.as_slice.ensures.value ∙ c.in-Ok.ensures in
    let none = subst (AreNoSources names) c.program.ensures (c.same_name.ensures.none c.in_default.is) in
    let a = g.F.Files.left c.args.files.now in
    let b = g.F.Files.left c.combine.new.files in
    left_of_parts p nodes job plan names none a b (subst (λ (ns : List (List ℕ)). WhereTold a b (LeavesUnread p nodes ns)) same c.combine.ensures.others)

pub returns-in-Err-ReadFault-clause-others : goal.returns-in-Err-ReadFault-clause-others
returns-in-Err-ReadFault-clause-others g c job plan =
    let p = program_of c.args.checked.now in
    let nodes = (plan_of c.args.valid.now).nodes in
    let names = map string_bytes c.args.partials.now in
    let same : c.as_slice.result.now ≡ names = c.as_slice.ensures.value ∙ c.in-Ok.ensures in
    let none = subst (AreNoSources names) c.program.ensures (c.same_name.ensures.none c.in_default.is) in
    let a = g.F.Files.left c.args.files.now in
    let b = g.F.Files.left c.combine.new.files in
    left_of_parts p nodes job plan names none a b (subst (λ (ns : List (List ℕ)). WhereTold a b (LeavesUnread p nodes ns)) same c.combine.ensures.others)

pub returns-in-Err-WriteFault-clause-others : goal.returns-in-Err-WriteFault-clause-others
returns-in-Err-WriteFault-clause-others g c job plan =
    let p = program_of c.args.checked.now in
    let nodes = (plan_of c.args.valid.now).nodes in
    let names = map string_bytes c.args.partials.now in
    let same : c.as_slice.result.now ≡ names = c.as_slice.ensures.value ∙ c.in-Ok.ensures in
    let none = subst (AreNoSources names) c.program.ensures (c.same_name.ensures.none c.in_default.is) in
    let a = g.F.Files.left c.args.files.now in
    let b = g.F.Files.left c.combine.new.files in
    left_of_parts p nodes job plan names none a b (subst (λ (ns : List (List ℕ)). WhereTold a b (LeavesUnread p nodes ns)) same c.combine.ensures.others)

pub returns-clause-others : goal.returns-clause-others
returns-clause-others g c job plan =
    let p = program_of c.args.checked.now in
    let nodes = (plan_of c.args.valid.now).nodes in
    let names = map string_bytes c.args.partials.now in
    let same : c.as_slice.result.now ≡ names = c.as_slice.ensures.value ∙ c.in-Ok.ensures in
    let none = subst (AreNoSources names) c.program.ensures (c.same_name.ensures.none c.in_default.is) in
    let a = g.F.Files.left c.args.files.now in
    let b = g.F.Files.left c.combine.new.files in
    left_of_parts p nodes job plan names none a b (subst (λ (ns : List (List ℕ)). WhereTold a b (LeavesUnread p nodes ns)) same c.combine.ensures.others)

pub returns-in-Ok-combine-clause-ends : goal.returns-in-Ok-combine-clause-ends
returns-in-Ok-combine-clause-ends g c job plan =
    let p = program_of c.args.checked.now in
    let nodes = (plan_of c.args.valid.now).nodes in
    let names = map string_bytes c.args.partials.now in
    let same : c.as_slice.result.now ≡ names = c.as_slice.ensures.value ∙ c.in-Ok.ensures in
    let none = subst (AreNoSources names) c.program.ensures (c.same_name.ensures.none c.in_default.is) in
    let a = g.F.Files.left c.args.files.now in
    let b = g.F.Files.left c.combine.new.files in
    let written = c.in-Ok-combine.ensures.written in (
      written.0,
      text_of_parts p nodes job plan names none a b written.0
          (subst (λ (ns : List (List ℕ)). WhereTold a b (IsCombined p nodes ns written.0)) same written.1),
      written.2,
    )

pub returns-in-Err-Partial-clause-ends : goal.returns-in-Err-Partial-clause-ends
returns-in-Err-Partial-clause-ends g c job plan =
    let p = program_of c.args.checked.now in
    let nodes = (plan_of c.args.valid.now).nodes in
    let names = map string_bytes c.args.partials.now in
    let same : c.as_slice.result.now ≡ names = c.as_slice.ensures.value ∙ c.in-Ok.ensures in
    let none = subst (AreNoSources names) c.program.ensures (c.same_name.ensures.none c.in_default.is) in
    let a = g.F.Files.left c.args.files.now in
    let b = g.F.Files.left c.combine.new.files in
    let k = g.F.Files.faults c.args.files.now in
    let l = g.F.Files.faults c.combine.new.files in
    let cause = subst (IsCause p nodes names a b k l) c.in-Err-Partial.field-0-is
    (subst (λ (ns : List (List ℕ)). IsCause p nodes ns a b k l c.in-Err-Partial.field-0) same c.in-Err-Partial.ensures.cause) in
    let place = c.in-Err-Partial.place in
    let at = bytes_at c.args.partials.now place c.index-partials-place-in-Err-Partial.result
    (subst (λ (n : ℕ). place < n) (length-map c.args.partials.now string_bytes) cause.0) c.index-partials-place-in-Err-Partial.is
    ∙ sym c.as_str-in-Err-Partial.ensures.value in (
      defect_of_part p nodes job plan names none a b place c.as_str-in-Err-Partial.result.now c.in-Err-Partial.defect cause.0 at cause.1,
      c.in-Err-Partial.ensures.kept (λ write. cc),
    )

pub returns-in-Err-Source-clause-ends : goal.returns-in-Err-Source-clause-ends
returns-in-Err-Source-clause-ends g c job plan =
    let p = program_of c.args.checked.now in
    let nodes = (plan_of c.args.valid.now).nodes in
    let names = map string_bytes c.args.partials.now in
    let same : c.as_slice.result.now ≡ names = c.as_slice.ensures.value ∙ c.in-Ok.ensures in
    let none = subst (AreNoSources names) c.program.ensures (c.same_name.ensures.none c.in_default.is) in
    let a = g.F.Files.left c.args.files.now in
    let b = g.F.Files.left c.combine.new.files in
    let k = g.F.Files.faults c.args.files.now in
    let l = g.F.Files.faults c.combine.new.files in
    let cause = subst (IsCause p nodes names a b k l) c.in-Err-Source.field-0-is
    (subst (λ (ns : List (List ℕ)). IsCause p nodes ns a b k l c.in-Err-Source.field-0) same c.in-Err-Source.ensures.cause) in
    (cause.0, fault_of_parts p nodes job plan names none a b c.in-Err-Source.fault cause.1, c.in-Err-Source.ensures.kept (λ write. cc))

pub returns-in-Err-ReadFault-clause-ends : goal.returns-in-Err-ReadFault-clause-ends
returns-in-Err-ReadFault-clause-ends g c job plan =
    let p = program_of c.args.checked.now in
    let nodes = (plan_of c.args.valid.now).nodes in
    let names = map string_bytes c.args.partials.now in
    let same : c.as_slice.result.now ≡ names = c.as_slice.ensures.value ∙ c.in-Ok.ensures in
    let none = subst (AreNoSources names) c.program.ensures (c.same_name.ensures.none c.in_default.is) in
    let a = g.F.Files.left c.args.files.now in
    let b = g.F.Files.left c.combine.new.files in
    let k = g.F.Files.faults c.args.files.now in
    let l = g.F.Files.faults c.combine.new.files in
    let cause = subst (IsCause p nodes names a b k l) c.in-Err-ReadFault.field-0-is
    (subst (λ (ns : List (List ℕ)). IsCause p nodes ns a b k l c.in-Err-ReadFault.field-0) same c.in-Err-ReadFault.ensures.cause) in
    let hides = subst (λ (ns : List (List ℕ)). HidesNoPartialDefect p nodes ns a b k l) same
    (c.in-Err-ReadFault.ensures.hides (ap Err c.in-Err-ReadFault.field-0-is)) in
    ((none, cause, hides), c.in-Err-ReadFault.ensures.kept (λ write. cc))

pub returns-in-Err-WriteFault-clause-ends : goal.returns-in-Err-WriteFault-clause-ends
returns-in-Err-WriteFault-clause-ends g c job plan =
    let p = program_of c.args.checked.now in
    let nodes = (plan_of c.args.valid.now).nodes in
    let names = map string_bytes c.args.partials.now in
    let same : c.as_slice.result.now ≡ names = c.as_slice.ensures.value ∙ c.in-Ok.ensures in
    let none = subst (AreNoSources names) c.program.ensures (c.same_name.ensures.none c.in_default.is) in
    let a = g.F.Files.left c.args.files.now in
    let b = g.F.Files.left c.combine.new.files in
    let part = c.in-Err-WriteFault.ensures.part (ap Err c.in-Err-WriteFault.field-0-is) in (
      part.0,
      text_of_parts p nodes job plan names none a b part.0
          (subst (λ (ns : List (List ℕ)). WhereTold a b (IsCombined p nodes ns part.0)) same part.1),
      part.2,
      c.in-Err-WriteFault.ensures.failed (ap Err c.in-Err-WriteFault.field-0-is),
    )
