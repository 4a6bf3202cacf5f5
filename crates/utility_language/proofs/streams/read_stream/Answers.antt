use Rattle.std.proofs.Common.{◌∷◌, [], ◌++◌, length, length-append, append_assoc, arith, sym, ◌∙◌, ap, rules}
use Rattle.plain_facts.proofs.Lists.{all_zip_push}
use Rattle.utility_language.specs.Words.{words_of}
use Rattle.utility_language.specs.Commands.{IsCommandOf, command_lines}
use Rattle.utility_language.proofs.StreamLemmas.{line_taken, zip_length, no_lines, all_short}
use Rattle.utility_language.proofs.streams.read_stream.Goals as goal

pub returns-then-len-room-clause-too_many : goal.returns-then-len-room-clause-too_many
returns-then-len-room-clause-too_many c =
    let read = c.loop-rest.invariant.1.0 in
    let taken = line_taken c.loop-rest.rest.now c.first_line.result.0.now c.first_line.result.1.now c.first_line.ensures.lines c.in-Some.ensures.is_command in
    let all =
    ap length (c.loop-rest.invariant.1.1 ∙ ap (λ lines. read ++ lines) taken)
    ∙ length-append read (words_of c.first_line.result.0.now ∷ command_lines c.first_line.result.1.now) in
    let same = zip_length IsCommandOf read c.loop-rest.commands.items c.loop-rest.invariant.1.2 in
    λ _. omega (arith, all, same)

pub loop-rest-preserved : goal.loop-rest-preserved
loop-rest-preserved c =
    let read = c.loop-rest.invariant.1.0 in
    let words = words_of c.first_line.result.0.now in
    let taken = line_taken c.loop-rest.rest.now c.first_line.result.0.now c.first_line.result.1.now c.first_line.ensures.lines c.in-Some.ensures.is_command in (
      omega (arith, c.in_ok-push.ensures.len),
      (
        read ++ words ∷ [],
        c.loop-rest.invariant.1.1 ∙ ap (λ lines. read ++ lines) taken ∙ sym (append_assoc read (words ∷ []) (command_lines c.first_line.result.1.now)),
        rw c.in_ok-push.ensures.items
            (all_zip_push IsCommandOf read c.loop-rest.commands.items words c.in-Some.command c.loop-rest.invariant.1.2 c.in-Some.ensures.command),
      ),
    )

pub returns-clause-fits : goal.returns-clause-fits
returns-clause-fits c =
    let read = c.loop-rest.invariant.1.0 in
    let none = no_lines c.loop-rest.rest.now (search rules) in
    let all = ap length (c.loop-rest.invariant.1.1 ∙ ap (λ lines. read ++ lines) none) ∙ length-append read [] in
    let same = zip_length IsCommandOf read c.loop-rest.commands.items c.loop-rest.invariant.1.2 in
    omega (arith, all, same)

pub returns-clause-short : goal.returns-clause-short
returns-clause-short c = all_short _ _ c.loop-rest.invariant.1.2
