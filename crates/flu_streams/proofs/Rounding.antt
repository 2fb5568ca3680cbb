-- All sources in a refill, one after another.
use Rattle.std.proofs.Common.{◌≡◌, ◌≢◌, inl, inr, ℕ, zero, suc, ◌+◌, ◌<◌, Bool, true, false, List, [], ◌∷◌, ◌++◌, length, take, drop, get_or, set, Option}
use Rattle.std.proofs.Common.{Some, None, refl, sym}
use Rattle.std.proofs.Common.{ap, subst, ◌∙◌, append_assoc, arith, if◌then◌else◌}
use Rattle.std.specs.Prelude.{slice_get, unwrap_or}
use Rattle.std.specs.List.{Contains}
use Rattle.std.proofs.lemmas.List.{length-set}
use Rattle.std.proofs.lemmas.Option.{slice_get_read, slice_get_within}
use Rattle.flu_lemmas.proofs.Places.{slice_get_push}
use Rattle.flu_lemmas.proofs.Replaced.{slice_get-set_other}
use Rattle.flu_lemmas.proofs.Tests.{not_both}
use Rattle.flu_lemmas.proofs.Told.{told_then}
use Rattle.flu_model.specs.declared.jobs.Kind.{Kind}
use Rattle.flu_model.specs.declared.jobs.Source.{Source}
use Rattle.flu_model.specs.declared.jobs.Program.{Program}
use Rattle.flu_model.specs.declared.moments.Timing.{Timing}
use Rattle.flu_model.specs.Rules.{is_clock}
use Rattle.flu_outside.specs.Outside.{Contents, WhereTold, Rose}
use Rattle.flu_outside.specs.Taking.{TakesFrom, IsReadOut}
use Rattle.flu_rows.specs.declared.rows.Next.{Next}
use Rattle.flu_rows.specs.Reading.{ahead, read_bytes}
use Rattle.flu_streams.specs.declared.border.Border.{Border}
use Rattle.flu_streams.specs.declared.border.Border.TheVariants.{At, Closed}
use Rattle.flu_streams.specs.declared.faults.GatherFault.{GatherFault}
use Rattle.flu_streams.specs.declared.inlet.Inlet.{Inlet}
use Rattle.flu_streams.specs.declared.stop.Stop.{Stop}
use Rattle.flu_streams.specs.declared.stop.Stop.TheVariants.{Defect, ReadFault, NoMemory}
use Rattle.flu_streams.specs.Files.{files_of, LeavesOthers}
use Rattle.flu_streams.specs.Holding.{HeldSource, first_itag, still}
use Rattle.flu_streams.specs.LoopStop.{fault_of_stop}
use Rattle.flu_streams.specs.LoopHeld.{source_of, earlier_of, earliest, Refills, IsRefilled, IsStopOf, AreRefilled, StopsAtSource}
use Rattle.flu_streams.proofs.Gatherings.{still_out}
use Rattle.flu_streams.proofs.SourceFiles.{among_front, fits_at, files_apart, others_join}
use Rattle.flu_streams.proofs.Turns.{IsTurn}

-- ---- what is still to be read of a source, where others are read
still_apart : (h : HeldSource) (name : List ℕ) (y z : Contents) → h.place.file ≢ name → TakesFrom name y z → still h z ≡ still h y
still_apart h name y z ne t =
    ap (λ (o : Option (List ℕ)). if h.closed then [] else read_bytes h.place.form h.place.lines (h.place.taken ++ unwrap_or o [])) (t.others h.place.file ne)

still_before : (h : HeldSource) (names : List (List ℕ)) (x y : Contents) → (Contains names h.place.file → ⊥) → LeavesOthers names x y → still h y ≡ still h x
still_before h names x y apart others =
    ap (λ (o : Option (List ℕ)). if h.closed then [] else read_bytes h.place.form h.place.lines (h.place.taken ++ unwrap_or o [])) (others h.place.file apart)

read_out_before : (names : List (List ℕ)) (name : List ℕ) (a b : Option Contents) → WhereTold a b (LeavesOthers names) → (Contains names name → ⊥)
    → IsReadOut name a → IsReadOut name b
read_out_before names name None None others apart out = tt
read_out_before names name None (Some y) others apart out = absurd others
read_out_before names name (Some x) None others apart out = absurd others
read_out_before names name (Some x) (Some y) others apart out = others name apart ∙ out

refills_later : (timing : Timing) (kinds : List Kind) (s : Source) (first : ℕ) (rows above : Option ℕ) (before : List Next) (old new : Inlet) (name : List ℕ)
    (a b c : Option Contents) (end : Border) → s.file ≢ name
    → WhereTold b c (TakesFrom name) → Refills timing kinds s first rows above before old new a b end
    → Refills timing kinds s first rows above before old new a c end
refills_later timing kinds s first rows above before old new name a b c end ne taken r =
    let f = r.so_far in
    record {
      so_far = record {
        more = f.more;
        behind = f.behind;
        shortest = f.shortest;
        held = f.held;
        told = told_then (λ was at. still (source_of old) was ≡ f.more ++ still (source_of new) at) (TakesFrom name)
            (λ was at. still (source_of old) was ≡ f.more ++ still (source_of new) at) a b c
            (λ x y z p q. p ∙ ap (λ (rest : List Next). f.more ++ rest) (sym (still_apart (source_of new) name y z (λ e. ne (sym f.behind.file ∙ e)) q)))
            f.told taken;
      };
      ends = r.ends;
    }

refilled_later : (kinds : List Kind) (s : Source) (first : ℕ) (rows : Option ℕ) (old new : Inlet) (name : List ℕ) (a b c : Option Contents) (end : Border)
    → s.file ≢ name → WhereTold b c (TakesFrom name) → IsRefilled kinds s first rows old new a b end → IsRefilled kinds s first rows old new a c end
refilled_later kinds s first rows old new name a b c end ne taken r = record {
  timing = r.timing;
  form = r.form;
  keeps = r.keeps;
  few = r.few;
  caught = r.caught;
  border = r.border;
  turn = r.turn;
  out = λ was closed. still_out name s.file b c taken ne (r.out was closed);
  reads = λ above before is. refills_later old.timing kinds s first rows above before old new name a b c end ne taken (r.reads above before is);
}

told_before : (old : HeldSource) (names : List (List ℕ)) (P : List Next → Contents → Type 0) (a b c : Option Contents)
    → (Contains names old.place.file → ⊥) → WhereTold a b (LeavesOthers names)
    → WhereTold b c (λ was at. P (still old was) at) → WhereTold a c (λ was at. P (still old was) at)
told_before old names P a b c apart others told =
    told_then (LeavesOthers names) (λ was at. P (still old was) at) (λ was at. P (still old was) at) a b c
    (λ x y z p q. subst (λ l. P l z) (still_before old names x y apart p) q) others told

pub refilled_earlier : (kinds : List Kind) (s : Source) (first : ℕ) (rows : Option ℕ) (old new : Inlet) (names : List (List ℕ)) (a b c : Option Contents)
    (end : Border) → (Contains names s.file → ⊥)
    → WhereTold a b (LeavesOthers names) → IsRefilled kinds s first rows old new b c end → IsRefilled kinds s first rows old new a c end
refilled_earlier kinds s first rows old new names a b c end apart others r = record {
  timing = r.timing;
  form = r.form;
  keeps = r.keeps;
  few = r.few;
  caught = r.caught;
  border = r.border;
  turn = r.turn;
  out = λ was closed. r.out (λ before. read_out_before names s.file a b others apart (was before)) closed;
  reads = λ above before is.
      let k = r.reads above before is in
      let f = k.so_far in
      record {
        so_far = record {
          more = f.more;
          behind = f.behind;
          shortest = f.shortest;
          held = f.held;
          told = told_before (source_of old) names (λ l at. l ≡ f.more ++ still (source_of new) at) a b c
              (subst (λ n. Contains names n → ⊥) (sym is.file) apart) others f.told;
        };
        ends = k.ends;
      };
}

pub stop_earlier : (kinds : List Kind) (s : Source) (first : ℕ) (rows : Option ℕ) (old : Inlet) (names : List (List ℕ)) (a b c : Option Contents) (stop : Stop)
    → (Contains names s.file → ⊥)
    → WhereTold a b (LeavesOthers names) → IsStopOf kinds s first rows old b c stop → IsStopOf kinds s first rows old a c stop
stop_earlier kinds s first rows old names a b c (Defect row why) apart others r = λ above before is.
    let k = r above before is in
    record {
      more = k.more;
      next = k.next;
      sound = k.sound;
      few = k.few;
      fits = k.fits;
      defect = k.defect;
      told = told_before (source_of old) names (λ l at. (rest : List Next) × (l ≡ k.more ++ (k.next ∷ rest))) a b c
          (subst (λ n. Contains names n → ⊥) (sym is.file) apart) others k.told;
    }
stop_earlier kinds s first rows old names a b c ReadFault apart others r = λ above before is.
    let k = r above before is in
    record {
      more = k.more;
      place = k.place;
      sound = k.sound;
      few = k.few;
      fits = k.fits;
      form = k.form;
      file = k.file;
      undecided = k.undecided;
      told = told_before (source_of old) names (λ l at. l ≡ k.more ++ ahead k.place at) a b c
          (subst (λ n. Contains names n → ⊥) (sym is.file) apart) others k.told;
    }
stop_earlier kinds s first rows old names a b c NoMemory apart others r = tt

-- ---- places in lists
pub set_here : {X : Type 0} (xs : List X) (i : ℕ) (x y : X) → slice_get (set xs i x) i ≡ Some y → y ≡ x
set_here [] i x y e = absurd cc
set_here (z ∷ xs) zero x y e = let same : x ≡ y = cc in sym same
set_here (z ∷ xs) (suc i) x y e = set_here xs i x y e

-- the file of a source that is read is not that of one before it
apart_file : (p : Program) (i j : ℕ) (s t : Source) → IsTurn p i s → slice_get p.sources i ≡ Some s → slice_get p.sources j ≡ Some t → j < i
    → is_clock s ≡ false → t.file ≢ s.file
apart_file p i j s t turn here at lt goes = by_kind (is_clock t) refl
  where
    by_kind : (b : Bool) → is_clock t ≡ b → t.file ≢ s.file
    by_kind false kind = λ e. turn.apart (subst (λ n. Contains (files_of (take i p.sources)) n) e (among_front p.sources i j t at lt kind))
    by_kind true kind = λ e.
        files_apart p.kinds t s (fits_at p.kinds p.sources j t p.sources_fit at) (fits_at p.kinds p.sources i s p.sources_fit here) kind goes (sym e)

-- ---- the earliest border
earlier-assoc : (a b c : Border) → earlier_of a (earlier_of b c) ≡ earlier_of (earlier_of a b) c
earlier-assoc Closed b c = refl
earlier-assoc (At x) Closed c = refl
earlier-assoc (At x) (At y) Closed = refl
earlier-assoc (At x) (At y) (At z) = ap At (omega arith)

earlier-closed : (b : Border) → earlier_of b Closed ≡ b
earlier-closed Closed = refl
earlier-closed (At t) = refl

pub earliest-push : (ends : List Border) (end : Border) → earliest (ends ++ end ∷ []) ≡ earlier_of (earliest ends) end
earliest-push [] end = earlier-closed end
earliest-push (b ∷ ends) end = ap (earlier_of b) (earliest-push ends end) ∙ earlier-assoc b (earliest ends) end

-- ---- one source more
-- what was read of the sources before one is as it was where that one is read
pub refilled_still : (p : Program) (rows i : ℕ) (s : Source) (olds news : List Inlet) (a b c : Option Contents) (ends : List Border) → IsTurn p i s
    → length ends ≡ i → slice_get p.sources i ≡ Some s → (is_clock s ≡ true → c ≡ b)
    → WhereTold b c (TakesFrom s.file) → AreRefilled p rows olds news a b ends → AreRefilled p rows olds news a c ends
refilled_still p rows i s olds news a b c ends turn count here idle taken all = by_kind (is_clock s) refl
  where
    by_kind : (k : Bool) → is_clock s ≡ k → AreRefilled p rows olds news a c ends
    by_kind true ticks = subst (λ x. AreRefilled p rows olds news a x ends) (sym (idle ticks)) all
    by_kind false goes = record {
      size = all.size;
      each = λ j t at end old new there was is.
          let lt : j < i = omega (arith, slice_get_within ends j end there, count) in
          refilled_later p.kinds t (first_itag p j) (Some rows) old new s.file a b c end (apart_file p i j s t turn here at lt goes) taken
          (all.each j t at end old new there was is);
    }

pub refilled_more : (p : Program) (rows i : ℕ) (s : Source) (olds news : List Inlet) (old new : Inlet) (a b c : Option Contents) (ends : List Border)
    (end : Border) → IsTurn p i s → length ends ≡ i
    → slice_get p.sources i ≡ Some s → (is_clock s ≡ true → c ≡ b) → slice_get olds i ≡ Some old
    → WhereTold a b (LeavesOthers (files_of (take i p.sources))) → WhereTold b c (TakesFrom s.file)
    → AreRefilled p rows olds news a b ends → IsRefilled p.kinds s (first_itag p i) (Some rows) old new b c end
    → AreRefilled p rows olds (set news i new) a c (ends ++ end ∷ [])
refilled_more p rows i s olds news old new a b c ends end turn count at idle was others taken all one =
    let still_all = refilled_still p rows i s olds news a b c ends turn count at idle taken all in
    record {
      size = length-set news i new ∙ all.size;
      each = λ j t here e o n at_end was_old is_new. elim (slice_get_push ends end j e at_end) [
        | inl before ↦
            let lt : j < i = omega (arith, slice_get_within ends j e before, count) in
            let ne : j ≢ i = λ same. omega (arith, lt, same) in
            still_all.each j t here e o n before was_old (sym (slice_get-set_other news i j new ne) ∙ is_new)
        | inr last ↦
            let here_i : j ≡ i = last.0 ∙ count in
            let t_is : s ≡ t = one_at (sym at ∙ ap (slice_get p.sources) (sym here_i) ∙ here) in
            let o_is : old ≡ o = one_at (sym was ∙ ap (slice_get olds) (sym here_i) ∙ was_old) in
            let n_is : n ≡ new = set_here news i new n (ap (slice_get (set news i new)) (sym here_i) ∙ is_new) in
            let k = refilled_earlier p.kinds s (first_itag p i) (Some rows) old new (files_of (take i p.sources)) a b c end turn.apart others one in
            rw (here_i, ← t_is, ← o_is, n_is, ← last.1) k
      ];
    }
  where
    one_at : {X : Type 0} {x y : X} → Some x ≡ Some y → x ≡ y
    one_at e = cc

-- ---- what it does to the files
pub others_more : (p : Program) (i : ℕ) (s : Source) (a b c : Option Contents) → IsTurn p i s → (is_clock s ≡ true → c ≡ b)
    → WhereTold a b (LeavesOthers (files_of (take i p.sources))) → WhereTold b c (TakesFrom s.file)
    → WhereTold a c (LeavesOthers (files_of (take (i + 1) p.sources)))
others_more p i s a b c turn idle others taken =
    subst (λ l. WhereTold a c (LeavesOthers (files_of l))) (sym turn.more) (others_join (take i p.sources) [] s a b c idle others taken)

pub others_end : (p : Program) (i : ℕ) (s : Source) (a b c : Option Contents) → IsTurn p i s → (is_clock s ≡ true → c ≡ b)
    → WhereTold a b (LeavesOthers (files_of (take i p.sources))) → WhereTold b c (TakesFrom s.file)
    → WhereTold a c (LeavesOthers (files_of p.sources))
others_end p i s a b c turn idle others taken =
    subst (λ l. WhereTold a c (LeavesOthers (files_of l))) (sym turn.split)
    (others_join (take i p.sources) (drop (i + 1) p.sources) s a b c idle others taken)

-- ---- where one stops
pub stops_at : (p : Program) (rows i : ℕ) (s : Source) (olds news : List Inlet) (mid : Inlet) (a b c : Option Contents) (ends : List Border)
    (stop : Stop) (fault : GatherFault) (faults faults' : List ℕ → ℕ) → IsTurn p i s → length ends ≡ i
    → slice_get p.sources i ≡ Some s → is_clock s ≡ false → slice_get olds i ≡ Some mid
    → WhereTold a b (LeavesOthers (files_of (take i p.sources))) → WhereTold b c (TakesFrom s.file)
    → AreRefilled p rows olds news a b ends → IsStopOf p.kinds s (first_itag p i) (Some rows) mid b c stop → fault ≡ fault_of_stop i stop
    → (stop ≡ ReadFault → Rose (faults s.file) (faults' s.file)) → StopsAtSource p rows olds a c faults faults' fault
stops_at p rows i s olds news mid a b c ends stop fault faults faults' turn count at goes was others taken all one is rose = record {
  ends = ends;
  news = news;
  all = refilled_still p rows i s olds news a b c ends turn count at (λ ticks. absurd (not_both (is_clock s) ticks goes)) taken all;
  source = s;
  is = ap (slice_get p.sources) count ∙ at;
  has_file = goes;
  stop = stop;
  cause = is ∙ ap (λ (n : ℕ). fault_of_stop n stop) (sym count);
  rose = rose;
  own = λ old e.
      let same : mid ≡ old = same_one (sym was ∙ ap (slice_get olds) (sym count) ∙ e) in
      subst (λ n. IsStopOf p.kinds s (first_itag p n) (Some rows) old a c stop) (sym count)
      (subst (λ h. IsStopOf p.kinds s (first_itag p i) (Some rows) h a c stop) same
      (stop_earlier p.kinds s (first_itag p i) (Some rows) mid (files_of (take i p.sources)) a b c stop turn.apart others one));
}
  where
    same_one : {X : Type 0} {x y : X} → Some x ≡ Some y → x ≡ y
    same_one e = cc

-- ---- an element that an index gives
pub source_at : (p : Program) (items : List Source) (i : ℕ) (s : Source) → items ≡ p.sources → i < length items → s ≡ get_or items i s
    → slice_get p.sources i ≡ Some s
source_at p items i s e lt is = ap (λ (l : List Source). slice_get l i) (sym e) ∙ slice_get_read items (length items) i s refl lt is
