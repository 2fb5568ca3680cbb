use Rattle.flu_deps.specs.declared.visits.Class.TheVariants.{Needs, Writes, Adds, Raises}
use Rattle.flu_deps.proofs.ClashTables.{kept_through, done_kept}
use Rattle.flu_deps.proofs.clashes.Clashes.of.Goals as goal

pub returns : goal.returns
returns c =
    let p = c.args.p.now in
    let one = c.note.new.self in
    let two = c.note-2.new.self in
    let three = c.note-3.new.self in
    let four = c.note-4.new.self in
    let last = c.note-4.ensures.kept in
    let two_last = kept_through two three four c.note-3.ensures.kept last in
    record {
      needs_writes =
          λ a b la lb. done_kept p Needs Writes a b one four (kept_through one two four c.note-2.ensures.kept two_last) (c.note.ensures.done a b la lb);
      writes_needs = λ a b la lb. done_kept p Writes Needs a b two four two_last (c.note-2.ensures.done a b la lb);
      adds_raises = λ a b la lb. done_kept p Adds Raises a b three four last (c.note-3.ensures.done a b la lb);
      raises_adds = c.note-4.ensures.done;
    }
