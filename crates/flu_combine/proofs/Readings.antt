-- Partials that are read one after another.
use Rattle.std.proofs.Common.{◌≡◌, ℕ, ◌<◌, ◌≤◌, ◌+◌, Bool, true, false, Option, Some, List, [], ◌∷◌, ◌++◌, length, refl, sym, ap, subst, ◌∙◌, cond}
use Rattle.std.proofs.Common.{inl, arith, take, get_or}
use Rattle.std.specs.Prelude.{◌||◌, slice_index_or, unwrap_or, Contains}
use Rattle.std.specs.List.{AllByRecursion}
use Rattle.std.specs.Str.{bytes_eq}
use Rattle.std.proofs.lemmas.Bool.{false≢true}
use Rattle.std.proofs.lemmas.List.{append-nil, append_assoc, get_or_default, length-append, take_more}
use Rattle.std.proofs.lemmas.List.Elements.{Contains-get_or}
use Rattle.std.proofs.lemmas.List.Folds.{list_any-append}
use Rattle.std.proofs.lemmas.Slice.Eq.{bytes_eq-Decides}
use Rattle.flu_model.specs.declared.jobs.Program.{Program}
use Rattle.flu_model.specs.declared.plans.Node.{Node}
use Rattle.flu_lemmas.specs.Told.{WhereTold}
use Rattle.flu_lemmas.proofs.Told.{told_then, told_weaker, told_both, told_same}
use Rattle.flu_lemmas.proofs.Named.{fronts_at, fronts_then}
use Rattle.flu_outside.specs.Outside.{Contents, Rose, SameCounts}
use Rattle.flu_outside.specs.Taking.{bytes_left, TakesFrom, TookAtMost, TookFronts, TookWhole}
use Rattle.flu_contribution.specs.Contributions.{Contribution}
use Rattle.flu_contribution.specs.Laws.{IsApart, NoneIsWithin, AreNodesApart}
use Rattle.flu_deps.specs.Trees.{AreApart}
use Rattle.flu_streams.specs.Files.{LeavesOthers}
use Rattle.flu_selected.specs.Selecting.{is_among}
use Rattle.flu_partial.specs.declared.values.Contribution as partial
use Rattle.flu_partial.specs.declared.values.PartialHead.{PartialHead}
use Rattle.flu_partial.specs.Partial.{head_text, line_of}
use Rattle.flu_receiving.specs.Receiving.{IsWholePartial, lines_text}
use Rattle.flu_combine.specs.declared.fault.CombineFault.{CombineFault}
use Rattle.flu_combine.specs.declared.fault.CombineFault.TheVariants as combine
use Rattle.flu_combine.specs.declared.fault.PartialDefect.{PartialDefect}
use Rattle.flu_combine.specs.declared.fault.Refused.{Refused}
use Rattle.flu_combine.specs.declared.fault.Refused.TheVariants.{Defect, ReadFault, NoMemory}
use Rattle.flu_combine.specs.Names.{read_out, bytes_behind}
use Rattle.flu_combine.specs.Partials.{most_bytes, IsPartialOf, ArePartials, TellsRows, AllTellRows, IsDefect}
use Rattle.flu_combine.specs.Reading.{IsApartBeside, IsOneRead, IsRefusedAs, IsRefusal, IsRefusedAt, AreRead}
use Rattle.flu_combine.specs.Faults.{IsFaultOfPartial, IsCause, IsHaltedAt, HidesNoDefectBefore}

-- ---- one partial
-- all bytes were read
all_read : (name bytes : List ℕ) (old new : Contents) → length bytes ≤ most_bytes → TookWhole name most_bytes bytes old new → bytes_left old name ≡ bytes
all_read name bytes old new few took =
    took.front ∙ ap (λ (o : Option (List ℕ)). bytes ++ unwrap_or o []) (took.end few) ∙ append-nil bytes

end_read : (name bytes : List ℕ) (old new : Contents) → length bytes ≤ most_bytes → TookWhole name most_bytes bytes old new → TakesFrom name old new
    → (other : List ℕ) → new other ≡ read_out (name ∷ []) old other
end_read name bytes old new few took takes other = by_test (bytes_eq other name) refl
  where
    by_test : (b : Bool) → bytes_eq other name ≡ b → new other ≡ read_out (name ∷ []) old other
    by_test true is = ap new ((bytes_eq-Decides other name).0 is) ∙ took.end few ∙ sym (ap (λ (b : Bool). cond (b || false) (Some []) (old other)) is)
    by_test false is =
        takes.others other (λ same. false≢true (sym is ∙ (bytes_eq-Decides other name).1 same))
        ∙ sym (ap (λ (b : Bool). cond (b || false) (Some []) (old other)) is)

pub one_read : (p : Program) (nodes : List Node) (name bytes : List ℕ) (w : ℕ) (sent : List Contribution) (told : List ℕ) (a b : Option Contents)
    → length bytes ≤ most_bytes → WhereTold a b (TookWhole name most_bytes bytes) → WhereTold a b (TakesFrom name) → IsPartialOf p nodes bytes w sent
    → TellsRows p bytes told → WhereTold a b (IsOneRead p nodes name w sent told)
one_read p nodes name bytes w sent told a b few took takes is tells =
    told_weaker (λ old new. TookWhole name most_bytes bytes old new × TakesFrom name old new) (IsOneRead p nodes name w sent told) a b
    (λ old new both. record {
      partial = subst (λ bs. IsPartialOf p nodes bs w sent) (sym (all_read name bytes old new few both.0)) is;
      tells = subst (λ bs. TellsRows p bs told) (sym (all_read name bytes old new few both.0)) tells;
      end = λ i other. end_read name bytes old new few both.0 both.1 other i;
      taken = both.1;
    }) (told_both (TookWhole name most_bytes bytes) (TakesFrom name) a b took takes)

pub too_long : (p : Program) (nodes : List Node) (ws name bytes : List ℕ) (a b : Option Contents) → most_bytes < length bytes
    → WhereTold a b (TookWhole name most_bytes bytes) → WhereTold a b (λ was then. most_bytes < length (bytes_left was name))
too_long p nodes ws name bytes a b long took =
    told_weaker (TookWhole name most_bytes bytes) (λ was then. most_bytes < length (bytes_left was name)) a b
    (λ was then whole. rw whole.front (omega (arith, length-append bytes (bytes_left then name)))) took

pub defect_read : (p : Program) (nodes : List Node) (ws name bytes : List ℕ) (d : PartialDefect) (a b : Option Contents) → length bytes ≤ most_bytes
    → WhereTold a b (TookWhole name most_bytes bytes) → IsDefect p nodes ws bytes d → WhereTold a b (λ was then. IsDefect p nodes ws (bytes_left was name) d)
defect_read p nodes ws name bytes d a b few took is =
    told_weaker (TookWhole name most_bytes bytes) (λ was then. IsDefect p nodes ws (bytes_left was name) d) a b
    (λ was then whole. subst (λ bs. IsDefect p nodes ws bs d) (sym (all_read name bytes was then few whole)) is) took

-- why bytes that were read are not accepted
pub refused_read : (p : Program) (nodes : List Node) (ws name bytes : List ℕ) (refused : Refused) (a b : Option Contents) (before now : List ℕ → ℕ)
    → length bytes ≤ most_bytes → WhereTold a b (TookWhole name most_bytes bytes) → IsRefusedAs p nodes ws bytes refused
    → IsRefusal p nodes ws name a b before now refused
refused_read p nodes ws name bytes (Defect d) a b before now few took is = defect_read p nodes ws name bytes d a b few took is
refused_read p nodes ws name bytes ReadFault a b before now few took is = absurd is
refused_read p nodes ws name bytes NoMemory a b before now few took is = tt

-- ---- one more
all_more : {X : Type 0} (P : X → Type 0) (xs : List X) (x : X) → AllByRecursion P xs → P x → AllByRecursion P (xs ++ x ∷ [])
all_more P [] x all one = (one, tt)
all_more P (y ∷ ys) x all one = (all.0, all_more P ys x all.1 one)

none_within_more : (nodes : List Node) (ws : List ℕ) (w : ℕ) → NoneIsWithin nodes ws → AllByRecursion (λ u. AreApart nodes u w) ws
    → NoneIsWithin nodes (ws ++ w ∷ [])
none_within_more nodes [] w none all = (tt, tt)
none_within_more nodes (u ∷ us) w none all = (all_more (AreApart nodes u) us w none.0 all.0, none_within_more nodes us w none.1 all.1)

pub apart_more : (p : Program) (nodes : List Node) (ws : List ℕ) (w : ℕ) → AreNodesApart p nodes ws → IsApartBeside p nodes ws w
    → AreNodesApart p nodes (ws ++ w ∷ [])
apart_more p nodes ws w apart beside = record {
  each = all_more (IsApart p nodes) ws w apart.each beside.apart;
  none_within = none_within_more nodes ws w apart.none_within beside.beside;
}

partials_more : (p : Program) (nodes : List Node) (left : Contents) (names : List (List ℕ)) (name : List ℕ) (ws : List ℕ) (w : ℕ)
    (queues : List (List Contribution)) (sent : List Contribution) → ArePartials p nodes left names ws queues
    → IsPartialOf p nodes (bytes_left left name) w sent
    → ArePartials p nodes left (names ++ name ∷ []) (ws ++ w ∷ []) (queues ++ sent ∷ [])
partials_more p nodes left [] name [] w [] sent these one = (one, tt)
partials_more p nodes left [] name [] w (q ∷ queues) sent these one = absurd these
partials_more p nodes left [] name (v ∷ ws) w queues sent these one = absurd these
partials_more p nodes left (n ∷ names) name [] w queues sent these one = absurd these
partials_more p nodes left (n ∷ names) name (v ∷ ws) w [] sent these one = absurd these
partials_more p nodes left (n ∷ names) name (v ∷ ws) w (q ∷ queues) sent these one =
    (these.0, partials_more p nodes left names name ws w queues sent these.1 one)

tell_more : (p : Program) (left : Contents) (names : List (List ℕ)) (name : List ℕ) (told more : List ℕ) → AllTellRows p left names told
    → TellsRows p (bytes_left left name) more → AllTellRows p left (names ++ name ∷ []) (told ++ more)
tell_more p left [] name told more none one = (more, [], one, refl, ap (λ (xs : List ℕ). xs ++ more) none ∙ sym (append-nil more))
tell_more p left (n ∷ names) name told more these one = (
  these.0,
  these.1 ++ more,
  these.2,
  tell_more p left names name these.1 more these.3 one,
  ap (λ (xs : List ℕ). xs ++ more) these.4 ∙ append_assoc these.0 these.1 more,
)

-- a whole partial is not empty
not_empty : (h : PartialHead) (cs : List partial.Contribution) (b : Bool) (o : Option (List ℕ)) → IsWholePartial h cs (unwrap_or (cond b (Some []) o) [])
    → b ≡ false
not_empty h cs false o whole = refl
not_empty h cs true o whole =
    absurd (omega (arith, ap length whole.text, length-append (line_of (head_text h)) (lines_text cs), length-append (head_text h) (10 ∷ [])))

more_out : (a b : Bool) (x y : Option (List ℕ)) → cond (b || false) x (cond a x y) ≡ cond (a || (b || false)) x y
more_out true true x y = refl
more_out true false x y = refl
more_out false b x y = refl

end_more : (names : List (List ℕ)) (name : List ℕ) (was mid then : Contents) → mid ≡ read_out names was → then ≡ read_out (name ∷ []) mid
    → (other : List ℕ) → then other ≡ read_out (names ++ name ∷ []) was other
end_more names name was mid then first second other =
    ap (λ (c : Contents). c other) second ∙ ap (λ (c : Contents). read_out (name ∷ []) c other) first
    ∙ more_out (is_among names other) (bytes_eq other name) (Some []) (was other)
    ∙ sym (ap (λ (b : Bool). cond b (Some []) (was other)) (list_any-append (bytes_eq other) names (name ∷ [])))

read_one_more : (p : Program) (nodes : List Node) (names : List (List ℕ)) (name : List ℕ) (ws : List ℕ) (w : ℕ)
    (queues : List (List Contribution)) (sent : List Contribution) (told more : List ℕ) (was mid then : Contents)
    → AreRead p nodes names ws queues told was mid → IsOneRead p nodes name w sent more mid then
    → AreRead p nodes (names ++ name ∷ []) (ws ++ w ∷ []) (queues ++ sent ∷ []) (told ++ more) was then
read_one_more p nodes names name ws w queues sent told more was mid then these one =
    let here : (mid name ≡ read_out names was name) = ap (λ (c : Contents). c name) these.end in
    let whole : IsWholePartial one.partial.head one.partial.lines (bytes_left (read_out names was) name) =
    subst (λ (o : Option (List ℕ)). IsWholePartial one.partial.head one.partial.lines (unwrap_or o [])) here one.partial.whole in
    let new : is_among names name ≡ false = not_empty one.partial.head one.partial.lines (is_among names name) (was name) whole in
    let same : mid name ≡ was name = here ∙ ap (λ (b : Bool). cond b (Some []) (was name)) new in
    record {
      partials = partials_more p nodes was names name ws w queues sent these.partials
          (subst (λ (o : Option (List ℕ)). IsPartialOf p nodes (unwrap_or o []) w sent) same one.partial);
      tell = tell_more p was names name told more these.tell
          (subst (λ (o : Option (List ℕ)). TellsRows p (unwrap_or o []) more) same one.tells);
      end = λ i other. end_more names name was mid then these.end one.end other i;
      fronts = fronts_then (Some was) (Some mid) (Some then) these.fronts (fronts_at name (Some mid) (Some then) one.taken);
    }

pub read_told_more : (p : Program) (nodes : List Node) (names : List (List ℕ)) (name : List ℕ) (ws : List ℕ) (w : ℕ)
    (queues : List (List Contribution)) (sent : List Contribution) (told more : List ℕ) (a b c : Option Contents)
    → WhereTold a b (AreRead p nodes names ws queues told) → WhereTold b c (IsOneRead p nodes name w sent more)
    → WhereTold a c (AreRead p nodes (names ++ name ∷ []) (ws ++ w ∷ []) (queues ++ sent ∷ []) (told ++ more))
read_told_more p nodes names name ws w queues sent told more a b c these one =
    told_then (AreRead p nodes names ws queues told) (IsOneRead p nodes name w sent more)
    (AreRead p nodes (names ++ name ∷ []) (ws ++ w ∷ []) (queues ++ sent ∷ []) (told ++ more)) a b c
    (λ was mid then h k. read_one_more p nodes names name ws w queues sent told more was mid then h k) these one

pub none_read : (p : Program) (nodes : List Node) (a : Option Contents) → WhereTold a a (AreRead p nodes [] [] [] [])
none_read p nodes a =
    told_same (AreRead p nodes [] [] [] []) a (λ was. record { partials = tt; tell = refl; end = refl; fronts = λ name rest left. ([], left) })

pub fronts_read : (p : Program) (nodes : List Node) (names : List (List ℕ)) (ws : List ℕ) (queues : List (List Contribution)) (told : List ℕ)
    (a b : Option Contents) → WhereTold a b (AreRead p nodes names ws queues told) → WhereTold a b TookFronts
fronts_read p nodes names ws queues told a b these = told_weaker (AreRead p nodes names ws queues told) TookFronts a b (λ was then h. h.fronts) these

-- ---- other names
pub no_others : (names : List (List ℕ)) (a : Option Contents) → WhereTold a a (LeavesOthers names)
no_others names a = told_same (LeavesOthers names) a (λ was other apart. refl)

pub others_more : (names : List (List ℕ)) (name : List ℕ) (a b c : Option Contents) → Contains names name → WhereTold a b (LeavesOthers names)
    → WhereTold b c (TakesFrom name) → WhereTold a c (LeavesOthers names)
others_more names name a b c there others takes =
    told_then (LeavesOthers names) (TakesFrom name) (LeavesOthers names) a b c
    (λ was mid then h k other apart. k.others other (λ same. apart (subst (Contains names) (sym same) there)) ∙ h other apart) others takes

-- ---- faults
defect_behind : (p : Program) (nodes : List Node) (names : List (List ℕ)) (place : ℕ) (name : List ℕ) (ws : List ℕ) (queues : List (List Contribution))
    (told : List ℕ) (d : PartialDefect) (was mid : Contents) → place < length names → slice_index_or names place [] ≡ name → AreNodesApart p nodes ws
    → AreRead p nodes (take place names) ws queues told was mid → IsDefect p nodes ws (bytes_left mid name) d → IsFaultOfPartial p nodes names was place d
defect_behind p nodes names place name ws queues told d was mid lt at apart these is =
    let bytes : bytes_left mid name ≡ bytes_behind (take place names) was (slice_index_or names place []) =
    ap (λ (c : Contents). bytes_left c name) these.end ∙ ap (bytes_behind (take place names) was) (sym at) in
    inl (record {
      there = lt;
      ws = ws;
      queues = queues;
      told = told;
      earlier = record { partials = these.partials; tell = these.tell; apart = apart };
      has = subst (λ bs. IsDefect p nodes ws bs d) bytes is;
    })

pub cause_of : (p : Program) (nodes : List Node) (names : List (List ℕ)) (place : ℕ) (name : List ℕ) (ws : List ℕ) (queues : List (List Contribution))
    (told : List ℕ) (refused : Refused) (fault : CombineFault) (a b c : Option Contents) (before mid now : List ℕ → ℕ)
    → place < length names → name ≡ get_or names place name → IsRefusedAt place refused fault → AreNodesApart p nodes ws
    → WhereTold a b (AreRead p nodes (take place names) ws queues told) → SameCounts before mid → IsRefusal p nodes ws name b c mid now refused
    → IsCause p nodes names a c before now fault
cause_of p nodes names place name ws queues told (Defect d) fault a b c before mid now lt at is apart these same refusal =
    let here : slice_index_or names place [] ≡ name = get_or_default names place [] name lt ∙ sym at in
    subst (IsCause p nodes names a c before now) (sym is) (
      lt,
      told_then (AreRead p nodes (take place names) ws queues told) (λ was then. IsDefect p nodes ws (bytes_left was name) d)
          (λ was then. IsFaultOfPartial p nodes names was place d) a b c
          (λ was mid then h k. defect_behind p nodes names place name ws queues told d was mid lt here apart h k) these refusal,
    )
cause_of p nodes names place name ws queues told ReadFault fault a b c before mid now lt at is apart these same refusal =
    subst (IsCause p nodes names a c before now) (sym is)
    (inl (name, subst (Contains names) (sym at) (Contains-get_or names place name lt), subst (λ (n : ℕ). Rose n (now name)) (same name) refusal.0))
cause_of p nodes names place name ws queues told NoMemory fault a b c before mid now lt at is apart these same refusal =
    subst (IsCause p nodes names a c before now) (sym is) tt

-- a read that failed at a place
pub halted_at : (p : Program) (nodes : List Node) (names : List (List ℕ)) (place : ℕ) (name : List ℕ) (ws : List ℕ) (queues : List (List Contribution))
    (told : List ℕ) (refused : Refused) (fault : CombineFault) (a b c : Option Contents) (before mid now : List ℕ → ℕ)
    → place < length names → name ≡ get_or names place name → IsRefusedAt place refused fault → AreNodesApart p nodes ws
    → WhereTold a b (AreRead p nodes (take place names) ws queues told) → SameCounts before mid → IsRefusal p nodes ws name b c mid now refused
    → fault ≡ combine.ReadFault → HidesNoDefectBefore p nodes names a c before now
halted_at p nodes names place name ws queues told (Defect d) fault a b c before mid now lt at is apart these same refusal e =
    absurd (let other : combine.Partial place d ≡ combine.ReadFault = sym is ∙ e in cc)
halted_at p nodes names place name ws queues told ReadFault fault a b c before mid now lt at is apart these same refusal e =
    let here : name ≡ slice_index_or names place [] = at ∙ sym (get_or_default names place [] name lt) in
    record {
      place = place;
      there = lt;
      rose = subst (λ (n : List ℕ). Rose (before n) (now n)) here (subst (λ (n : ℕ). Rose n (now name)) (same name) refusal.0);
      told = told_then (AreRead p nodes (take place names) ws queues told) (TookAtMost name most_bytes) (IsHaltedAt p nodes names place) a b c
          (λ was mid then h k. record {
            ws = ws;
            queues = queues;
            told = told;
            earlier = record { partials = h.partials; tell = h.tell; apart = apart };
            few = subst (λ (n : List ℕ). TookAtMost n most_bytes (read_out (take place names) was) then) here
                (subst (λ (m : Contents). TookAtMost name most_bytes m then) h.end k);
          }) these refusal.1;
    }
halted_at p nodes names place name ws queues told NoMemory fault a b c before mid now lt at is apart these same refusal e =
    absurd (let other : combine.NoMemory ≡ combine.ReadFault = sym is ∙ e in cc)

pub same_then : (x y z : List ℕ → ℕ) → SameCounts x y → SameCounts y z → SameCounts x z
same_then x y z p q name = q name ∙ p name

-- ---- a place in the list
pub at_place : (names : List (List ℕ)) (place : ℕ) (x y : List ℕ) → place < length names → x ≡ y → y ≡ get_or names place y → x ≡ get_or names place x
at_place names place x y lt same at = same ∙ at ∙ get_or_default names place y x lt

pub among_names : (names : List (List ℕ)) (place : ℕ) (x : List ℕ) → place < length names → x ≡ get_or names place x → Contains names x
among_names names place x lt at = subst (Contains names) (sym at) (Contains-get_or names place x lt)

pub read_step : (p : Program) (nodes : List Node) (names : List (List ℕ)) (place : ℕ) (name : List ℕ) (ws more_ws : List ℕ) (w : ℕ)
    (queues more_queues : List (List Contribution)) (sent : List Contribution) (told more_told rows : List ℕ) (a b c : Option Contents)
    → place < length names → name ≡ get_or names place name → more_ws ≡ ws ++ w ∷ [] → more_queues ≡ queues ++ sent ∷ [] → more_told ≡ told ++ rows
    → WhereTold a b (AreRead p nodes (take place names) ws queues told) → WhereTold b c (IsOneRead p nodes name w sent rows)
    → WhereTold a c (AreRead p nodes (take (place + 1) names) more_ws more_queues more_told)
read_step p nodes names place name ws more_ws w queues more_queues sent told more_told rows a b c lt at same_ws same_queues same_told these one =
    let names_are : take (place + 1) names ≡ take place names ++ name ∷ [] =
    take_more names place name lt ∙ ap (λ (n : List ℕ). take place names ++ n ∷ []) (sym at) in
    subst (λ (ns : List (List ℕ)). WhereTold a c (AreRead p nodes ns more_ws more_queues more_told)) (sym names_are)
    (subst (λ (vs : List ℕ). WhereTold a c (AreRead p nodes (take place names ++ name ∷ []) vs more_queues more_told)) (sym same_ws)
    (subst (λ (qs : List (List Contribution)). WhereTold a c (AreRead p nodes (take place names ++ name ∷ []) (ws ++ w ∷ []) qs more_told)) (sym same_queues)
    (subst (λ (ts : List ℕ). WhereTold a c (AreRead p nodes (take place names ++ name ∷ []) (ws ++ w ∷ []) (queues ++ sent ∷ []) ts)) (sym same_told)
    (read_told_more p nodes (take place names) name ws w queues sent told rows a b c these one))))
