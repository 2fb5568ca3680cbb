use Rattle.std.proofs.Common.{◌≡◌, ◌<◌, ◌++◌, ◌∷◌, [], ℕ, true, false, List, Vec, length, map, take, vec_len, refl, sym, ap, subst, ◌∙◌, arith}
use Rattle.std.specs.Global.{Global}
use Rattle.std.specs.Prelude.{Result, Ok, Err, IfOk}
use Rattle.std.specs.List.{flat_map}
use Rattle.std.proofs.lemmas.Grind.{common_steps}
use Rattle.std.proofs.lemmas.Option.{slice_get_within}
use Rattle.flu_lemmas.proofs.Tests.{both}
use Rattle.flu_model.specs.declared.events.Item.{Item}
use Rattle.flu_model.specs.Listing.{listed_tags}
use Rattle.flu_model.specs.Moments.{timing_of}
use Rattle.flu_model.specs.Rules.{is_clock}
use Rattle.flu_model.specs.Streaming.{are_streams, is_stream_from}
use Rattle.flu_rows.specs.declared.rows.Next.{Next}
use Rattle.flu_streams.specs.Clocks.{items_of_ticks, ticks_of}
use Rattle.flu_streams.specs.Good.{lists_of_rows}
use Rattle.flu_streams.specs.Holding.{IsHeldBehind}
use Rattle.flu_streams.specs.Lists.{lists_in, items_of_list}
use Rattle.flu_streams.specs.LoopClocks.{ranks_in}
use Rattle.flu_streams.specs.LoopHeld.{source_of}
use Rattle.flu_streams.specs.LoopMoments.{end_moment}
use Rattle.flu_streams.specs.Rounds.{is_within, rows_between}
use Rattle.flu_streams.specs.Tags.{width}
use Rattle.flu_streams.specs.Tests.{rows_of}
use Rattle.flu_streams.proofs.Cuts.{own_items, own_streams, own_lists}
use Rattle.flu_streams.proofs.Moments.{timing_fits}
use Rattle.flu_streams.proofs.SourceFiles.{clock_width}
use Rattle.flu_streams.proofs.Ticking.{Rises, rises_filter, ticks_rise, stream_of_ticks}
use Rattle.flu_streams.proofs.held.lists_of_one.Goals as goal

if_both : {T E : Type 0} (P Q R : T → Type 0) (r : Result T E) → ((v : T) → P v → Q v → R v) → IfOk r P → IfOk r Q → IfOk r R
if_both P Q R (Ok v) f p q = f v p q
if_both P Q R (Err e) f p q = tt

pub returns-then-is_none-clause-streams : goal.returns-then-is_none-clause-streams
returns-then-is_none-clause-streams c =
    let h = c.args.inlet.now in
    let first = c.args.first in
    let n = c.tag_count-width.result in
    let end = end_moment h.timing c.args.end in
    if_both (λ (lists : Vec (Vec Item Global) Global). vec_len lists ≡ n)
    (λ (lists : Vec (Vec Item Global) Global). (i : ℕ) → i < n → items_of_list lists i ≡ own_items first end h.items i)
    (λ (lists : Vec (Vec Item Global) Global). are_streams first (lists_in lists) ≡ true) c.lists.result
    (λ lists len each. own_streams lists first n end h.items len each h.rising) c.lists.ensures.len c.lists.ensures.each

pub returns-then-is_none-clause-rows : goal.returns-then-is_none-clause-rows
returns-then-is_none-clause-rows c =
    let h = c.args.inlet.now in
    let p = c.args.p.now in
    let s = c.args.source.now in
    let first = c.args.first in
    let n = c.tag_count-width.result in
    let number = c.args.number in
    let end = end_moment h.timing c.args.end in
    let timed : h.timing ≡ timing_of p number = c.requires.timed in
    let w : n ≡ width s = c.tag_count-width.ensures ∙ ap (λ tags. length (flat_map listed_tags tags)) c.items.ensures in
    if_both (λ (lists : Vec (Vec Item Global) Global). vec_len lists ≡ n)
    (λ (lists : Vec (Vec Item Global) Global). (i : ℕ) → i < n → items_of_list lists i ≡ own_items first end h.items i)
    (λ (lists : Vec (Vec Item Global) Global). is_clock s ≡ false → (lines : List Next)
    → IsHeldBehind (timing_of p number) p.kinds first s c.args.above lines (source_of h)
    → lists_in lists ≡ lists_of_rows (timing_of p number) p.kinds s first (rows_between c.args.above c.args.end (rows_of lines))) c.lists.result
    (λ lists len each goes lines is.
    own_lists (timing_of p number)
    (timing_fits p number (slice_get_within p.sources number s c.requires.source)) lists p.kinds s first c.args.above c.args.end lines h
    (len ∙ w) (λ k lt. each k (rw w lt) ∙ (λ j. own_items first (end_moment (timed j) c.args.end) h.items k)) is c.requires.caught)
    c.lists.ensures.len c.lists.ensures.each

pub timing_of-requires : goal.timing_of-requires
timing_of-requires c = slice_get_within c.args.p.now.sources c.args.number c.args.source.now c.requires.source

pub returns-clause-len : goal.returns-clause-len
returns-clause-len c =
    let s = c.args.source.now in
    let ticks : is_clock s ≡ true = grind (arith, common_steps) in
    let one = clock_width c.args.p.now c.args.number s c.requires.source ticks in
    omega (arith, one, c.in_ok-push.ensures.len, c.new-lists.ensures.len)

pub returns-clause-streams : goal.returns-clause-streams
returns-clause-streams c =
    let p = c.args.p.now in
    let s = c.args.source.now in
    let first = c.args.first in
    let timing = c.timing_of.result in
    let ticks = c.ticks_within-ticks.result in
    let fits = c.timing_of.ensures.fits in
    let some = fits.some in
    let within = fits.within in
    let all = ticks_of p (ranks_in c.args.span) (take c.args.number p.sources, s) in
    let up : Rises 0 ticks = subst (Rises 0) (sym c.ticks_within-ticks.ensures.ticks)
    (rises_filter (is_within c.args.above c.args.end) 0 all (ticks_rise p c.args.number s (ranks_in c.args.span) c.requires.source)) in
    let stream : is_stream_from first 0 (items_of_ticks timing first ticks) ≡ true =
    stream_of_ticks timing first 0 0 ticks (omega (arith, some, within)) up (omega arith) in
    let more : c.push.new.self.items ≡ c.in_ok-list.list ∷ [] =
    c.in_ok-push.ensures.items ∙ ap (λ (ls : List (Vec Item Global)). ls ++ (c.in_ok-list.list ∷ [])) c.new-lists.ensures.items in
    let lists : lists_in c.push.new.self ≡ items_of_ticks timing first ticks ∷ [] =
    ap (map (λ (v : Vec Item Global). v.items)) more ∙ ap (λ (l : List Item). l ∷ []) c.in_ok-list.ensures in
    ap (are_streams first) lists ∙ both (is_stream_from first 0 (items_of_ticks timing first ticks)) true stream refl
