use Rattle.std.proofs.Common.{◌≡◌, Some, None, Ok, Err, [], ◌∷◌, ◌++◌, drop, arith}
use Rattle.std.specs.Prelude.{false}
use Rattle.std.proofs.lemmas.Grind.{common_steps}
use Rattle.flu_text.specs.declared.reading.TextFault.TheVariants as f
use Rattle.flu_text.specs.Grammar.{AreTokens, IsFirstBadPlace}
use Rattle.flu_text.specs.Reading.{gap_len, token_at}
use Rattle.flu_text.proofs.Readings.{leads_first, leads_more, leads_to_bad, leads_to_end, tokens_read, bad_place_read, whole_exactly, bad_token_exactly}
use Rattle.flu_text.proofs.Spans.{each_is_token, each_is_span, each_is_inside, tokens_rise}
use Rattle.flu_text.proofs.reading.tokens.Goals as goal

pub loop-place-init : goal.loop-place-init
loop-place-init c =
    let gap : c.gap_len-place.result ≡ gap_len false c.args.text.now = grind (arith, common_steps) in
    let leads = leads_first c.args.text.now c.gap_len-place.result gap in
    record { within = grind (arith, common_steps); reads = rw c.new-found.ensures.items leads }

pub loop-place-preserved : goal.loop-place-preserved
loop-place-preserved c =
    let text = c.args.text.now in
    let found : token_at text c.loop-place.place ≡ Some c.in-Some.token = grind (arith, common_steps) in
    let gap : c.gap_len.result ≡ gap_len false (drop c.in-Some.token.to text) = grind (arith, common_steps) in
    let leads = leads_more text c.loop-place.found.items c.loop-place.place c.in-Some.token c.loop-place.invariant.reads c.loop-place.invariant.within found in
    let items : c.push.new.self.items ≡ c.loop-place.found.items ++ c.in-Some.token ∷ [] = grind (arith, common_steps) in
    record { within = grind (arith, common_steps); reads = rw (items, gap) leads }

first_bad : (c : goal.After-drop-found) → IsFirstBadPlace c.args.text.now c.loop-place.place
first_bad c =
    let none : token_at c.args.text.now c.loop-place.place ≡ None = grind (arith, common_steps) in
    leads_to_bad c.args.text.now c.loop-place.found.items c.loop-place.place c.loop-place.invariant.reads (grind (arith, common_steps)) none

pub returns-in_default-clause-whole : goal.returns-in_default-clause-whole
returns-in_default-clause-whole c =
    whole_exactly c.args.text.now (Err (f.BadToken c.loop-place.place)) (bad_place_read c.args.text.now c.loop-place.place (first_bad c))

pub returns-in_default-clause-bad_token : goal.returns-in_default-clause-bad_token
returns-in_default-clause-bad_token c =
    bad_token_exactly c.args.text.now (Err (f.BadToken c.loop-place.place)) (bad_place_read c.args.text.now c.loop-place.place (first_bad c))

pub returns-in_default-clause-reading : goal.returns-in_default-clause-reading
returns-in_default-clause-reading c = bad_place_read c.args.text.now c.loop-place.place (first_bad c)

are_tokens : (c : goal.After-loop-place) → AreTokens c.args.text.now c.loop-place.found.items
are_tokens c = leads_to_end c.args.text.now c.loop-place.found.items c.loop-place.place c.loop-place.invariant.reads (grind (arith, common_steps))

pub returns-clause-tokens : goal.returns-clause-tokens
returns-clause-tokens c = are_tokens c

pub returns-clause-each : goal.returns-clause-each
returns-clause-each c = each_is_token c.args.text.now c.loop-place.found.items (are_tokens c)

pub returns-clause-spans : goal.returns-clause-spans
returns-clause-spans c = each_is_span c.args.text.now c.loop-place.found.items c.utf8.text (are_tokens c)

pub returns-clause-inside : goal.returns-clause-inside
returns-clause-inside c = each_is_inside c.args.text.now c.loop-place.found.items c.utf8.text (are_tokens c)

pub returns-clause-rise : goal.returns-clause-rise
returns-clause-rise c = tokens_rise c.args.text.now c.loop-place.found.items (are_tokens c)

pub returns-clause-whole : goal.returns-clause-whole
returns-clause-whole c = whole_exactly c.args.text.now (Ok c.loop-place.found) (tokens_read c.args.text.now c.loop-place.found.items (are_tokens c))

pub returns-clause-bad_token : goal.returns-clause-bad_token
returns-clause-bad_token c = bad_token_exactly c.args.text.now (Ok c.loop-place.found) (tokens_read c.args.text.now c.loop-place.found.items (are_tokens c))

pub returns-clause-reading : goal.returns-clause-reading
returns-clause-reading c = tokens_read c.args.text.now c.loop-place.found.items (are_tokens c)
