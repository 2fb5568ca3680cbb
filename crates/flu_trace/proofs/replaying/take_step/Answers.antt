use Rattle.std.proofs.Common.{◌≡◌, ◌<◌, ◌+◌, ◌++◌, [], List, ℕ, take, drop, length, refl, sym, ap, ◌∙◌, arith}
use Rattle.std.proofs.lemmas.List.{append-nil, drop_all}
use Rattle.flu_lemmas.specs.Lines.{line_len, lines_of}
use Rattle.flu_lemmas.proofs.Lines.{lines_of-line, lines_of-last, lines_of-long}
use Rattle.flu_trace.proofs.Replays.{says}
use Rattle.flu_trace.proofs.StepLines.{not_so_long}
use Rattle.flu_trace.proofs.replaying.take_step.Goals as goal

pub returns-in-Line : goal.returns-in-Line
returns-in-Line c = λ coming last.
    let h = rw c.in-Line.is at c.requires.found in
    let held = c.args.held.now in
    let len = c.in-Line.len in
    let lt : line_len held < length held = rw (← h.0) h.2 in
    let text : take len c.bytes.result.now ≡ take (line_len held) held = ap (take len) c.bytes.ensures ∙ ap (λ n. take n held) h.0 in
    let rest : c.drop_front.new.self ≡ drop (line_len held + 1) held = c.drop_front.ensures ∙ ap (λ n. drop (n + 1) held) h.0 in
    record {
      line = take (line_len held) held;
      lines = lines_of (drop (line_len held + 1) held ++ coming);
      cut = lines_of-line held coming lt;
      says = says c.read_step-step.result (take len c.bytes.result.now)
          (take (line_len held) held) text c.read_step-step.ensures.is c.read_step-step.ensures.none;
      behind = λ s is. ap (λ (l : List ℕ). lines_of (l ++ coming)) (sym rest);
    }

pub returns-in-Last : goal.returns-in-Last
unfolding lines_of
returns-in-Last c = λ coming last.
    let h = rw c.in-Last.is at c.requires.found in
    let held = c.args.held.now in
    let none : coming ≡ [] = last c.in-Last.is in
    let all : c.bytes-in-Last-2.result.now ≡ held = c.bytes-in-Last-2.ensures in
    let gone : c.drop_front-in-Last.new.self ≡ [] =
    c.drop_front-in-Last.ensures ∙ drop_all (length c.bytes-in-Last-2.result.now) held (omega (arith, ap length all)) in
    record {
      line = held;
      lines = [];
      cut = rw (none, append-nil held) (lines_of-last held h.0 h.1);
      says = says c.read_step-step-in-Last.result c.bytes-in-Last.result.now held c.bytes-in-Last.ensures c.read_step-step-in-Last.ensures.is
          c.read_step-step-in-Last.ensures.none;
      behind = λ s is. rw (gone, none) refl;
    }

pub returns-in-TooLong : goal.returns-in-TooLong
returns-in-TooLong c = λ coming last.
    let h = rw c.in-TooLong.is at c.requires.found in
    let k = lines_of-long 24 c.args.held.now coming h in
    record { line = k.0; lines = k.1; cut = k.2; says = not_so_long k.0 k.3; behind = λ s is. absurd (not_so_long k.0 k.3 s is) }
