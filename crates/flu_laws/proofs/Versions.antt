-- The modes of version 1 of the language.
use Rattle.std.proofs.Common.{◌≡◌, ◌≢◌, Bool, true, false, cond, refl, sym, ap, ◌∙◌}
use Rattle.std.specs.Prelude.{◌==◌, slice_get}
use Rattle.std.specs.List.{list_any}
use Rattle.flu_model.specs.declared.jobs.Action.{Action}
use Rattle.flu_model.specs.declared.modes.Mode.{Mode}
use Rattle.flu_model.specs.declared.modes.Mode.TheVariants.{None as NoMode, Add as AddMode, Raise as RaiseMode, Read as ReadMode, Own}
use Rattle.flu_model.specs.Updates.{actions_of}
use Rattle.flu_model.specs.Modes.{mode_in_version_1, mode_with_reads, modes_conflict, action_reads, act_overwrites, act_adds, act_raises}
use Rattle.flu_laws.specs.Versions.{NothingIsShared, OwnsWhatItReads, Differ, ConflictsWithoutRead}

pub owns_what_it_reads : OwnsWhatItReads
owns_what_it_reads p t c first =
    let all = actions_of (slice_get p.kinds t.kind) in
    let reads = list_any (action_reads t.key c) all in
    let overwrites = list_any (λ (a : Action). act_overwrites t.key c a.act) all in
    let adds = list_any (λ (a : Action). act_adds t.key c a.act) all in
    let raises = list_any (λ (a : Action). act_raises t.key c a.act) all in
    ap (λ n. cond (n == 1) (mode_in_version_1 reads overwrites adds raises) (mode_with_reads reads overwrites adds raises)) first

never_read : (r o a m : Bool) → mode_in_version_1 r o a m ≢ ReadMode
never_read true o a m e = cc
never_read false true a m e = cc
never_read false false true m e = cc
never_read false false false true e = cc
never_read false false false false e = cc

pub nothing_is_shared : NothingIsShared
nothing_is_shared p t c first =
    let all = actions_of (slice_get p.kinds t.kind) in
    let reads = list_any (action_reads t.key c) all in
    let overwrites = list_any (λ (a : Action). act_overwrites t.key c a.act) all in
    let adds = list_any (λ (a : Action). act_adds t.key c a.act) all in
    let raises = list_any (λ (a : Action). act_raises t.key c a.act) all in
    λ read. never_read reads overwrites adds raises (sym (owns_what_it_reads p t c first) ∙ read)

differ : (m n : Mode) → m ≢ ReadMode → n ≢ ReadMode → modes_conflict m n ≡ true → Differ m n
differ NoMode n a b e = cc
differ m NoMode a b e = cc
differ ReadMode n a b e = absurd (a refl)
differ m ReadMode a b e = absurd (b refl)
differ AddMode AddMode a b e = cc
differ RaiseMode RaiseMode a b e = cc
differ AddMode RaiseMode a b e = record { first = λ h. cc; second = λ h. cc; not_both_add = λ h. cc; not_both_raise = λ h. cc }
differ AddMode Own a b e = record { first = λ h. cc; second = λ h. cc; not_both_add = λ h. cc; not_both_raise = λ h. cc }
differ RaiseMode AddMode a b e = record { first = λ h. cc; second = λ h. cc; not_both_add = λ h. cc; not_both_raise = λ h. cc }
differ RaiseMode Own a b e = record { first = λ h. cc; second = λ h. cc; not_both_add = λ h. cc; not_both_raise = λ h. cc }
differ Own AddMode a b e = record { first = λ h. cc; second = λ h. cc; not_both_add = λ h. cc; not_both_raise = λ h. cc }
differ Own RaiseMode a b e = record { first = λ h. cc; second = λ h. cc; not_both_add = λ h. cc; not_both_raise = λ h. cc }
differ Own Own a b e = record { first = λ h. cc; second = λ h. cc; not_both_add = λ h. cc; not_both_raise = λ h. cc }

conflict : (m n : Mode) → m ≢ ReadMode → n ≢ ReadMode → Differ m n → modes_conflict m n ≡ true
conflict NoMode n a b d = absurd (d.first refl)
conflict ReadMode n a b d = absurd (a refl)
conflict m NoMode a b d = absurd (d.second refl)
conflict m ReadMode a b d = absurd (b refl)
conflict AddMode AddMode a b d = absurd (d.not_both_add (refl, refl))
conflict AddMode RaiseMode a b d = refl
conflict AddMode Own a b d = refl
conflict RaiseMode AddMode a b d = refl
conflict RaiseMode RaiseMode a b d = absurd (d.not_both_raise (refl, refl))
conflict RaiseMode Own a b d = refl
conflict Own AddMode a b d = refl
conflict Own RaiseMode a b d = refl
conflict Own Own a b d = refl

pub conflicts_without_read : ConflictsWithoutRead
conflicts_without_read m n a b = (differ m n a b, conflict m n a b)
