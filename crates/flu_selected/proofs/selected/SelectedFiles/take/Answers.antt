use Rattle.std.proofs.Common.{◌≡◌, ◌∙◌, sym, ap, ℕ, List, true, None, arith}
use Rattle.std.specs.Prelude.{is_some, length}
use Rattle.flu_lemmas.specs.Told.{WhereTold}
use Rattle.flu_outside.specs.Outside.{Contents, OthersStay}
use Rattle.flu_selected.specs.Closed.{lines_in}
use Rattle.flu_selected.proofs.Keeping.{SameThere, others_stay, same_there, told_still, not_some, closed_still, apart_still, follow_still, line_taken}
use Rattle.flu_selected.proofs.selected.SelectedFiles.take.Goals as goal

pub invariant_of-self-in-None : goal.invariant_of-self-in-None
invariant_of-self-in-None g c =
    let s = c.args.self.now in
    let name : List ℕ = c.args.name.now in
    let left = g.F.Files.left in
    let faults = g.F.Files.faults in
    let k = g.K.Origin in
    let t = c.take-in-None in
    let was = left s.files.now in
    let now = left t.new.self in
    let lines : Contents = lines_in s.closed in
    let none : lines name ≡ None = not_some (lines name) (sym c.take.ensures.closed ∙ ap is_some c.in-None.is) in
    let others : WhereTold was now (OthersStay name) = others_stay name t.new.buf was now t.result t.ensures.taken t.ensures.kept in
    let there : WhereTold was now SameThere = same_there name t.new.buf was now t.result t.ensures.taken t.ensures.kept in
    record {
      same_reference = s.same_reference;
      same_names = λ n. c.take.ensures.same_names n ∙ s.same_names n;
      told = told_still SameThere was now there ∙ s.told;
      left = closed_still k.is_closed lines name k.left was now s.same_names none s.left others;
      rise = λ n. omega (arith, s.rise n, t.ensures.counts n);
      apart =
          apart_still k.is_closed lines name k.left was k.faults (faults s.files.now) (faults t.new.self) s.same_names none s.left t.ensures.others s.apart;
      follow =
          follow_still k.is_closed lines name was now k.faults (faults s.files.now) (faults t.new.self) s.same_names none s.rise t.ensures.counts
          t.ensures.others there (g.met.F.Files.shared s.files.now) (g.met.F.Files.shared t.new.self) s.follow;
    }

pub returns-in-Some-clause-taken : goal.returns-in-Some-clause-taken
returns-in-Some-clause-taken g c =
    let s = c.args.self.now in
    let closed : is_some (lines_in s.closed c.args.name.now) ≡ true = sym c.take.ensures.closed ∙ ap is_some c.in-Some.is in
    line_taken (g.F.Files.left s.files.now) (lines_in s.closed) (lines_in c.take.new.self) c.args.name.now c.in-Some.count (length c.args.buf.now)
    c.take.new.buf c.requires closed c.in-Some.ensures.amount c.in-Some.ensures.given c.in-Some.ensures.left c.take.ensures.others
