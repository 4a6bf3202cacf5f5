use Rattle.std.proofs.Common.{sym, ◌∙◌}
use Rattle.utility_language.proofs.WordLemmas.{only_blanks, from_first_word, word_ended, word_ended_some, word_last}
use Rattle.utility_language.proofs.lines.first_word.Goals as goal

pub returns-in_err-start-clause-none : goal.returns-in_err-start-clause-none
returns-in_err-start-clause-none c = rw c.from_residual.ensures (only_blanks c.args.line.now (sym c.find_word.ensures ∙ c.in_err-start.was))

pub returns-in-Some-clause-words : goal.returns-in-Some-clause-words
returns-in-Some-clause-words c =
    let is = from_first_word c.args.line.now c.in_ok-start.start (sym c.find_word.ensures ∙ c.in_ok-start.was) in
    rw (c.split_at.ensures.front, c.split_at.ensures.back) (is.words ∙ word_ended _ c.in-Some.end is.begins (sym c.find_blank.ensures ∙ c.in-Some.is))

pub returns-in-Some-clause-some : goal.returns-in-Some-clause-some
returns-in-Some-clause-some c =
    let is = from_first_word c.args.line.now c.in_ok-start.start (sym c.find_word.ensures ∙ c.in_ok-start.was) in
    rw c.split_at.ensures.front (word_ended_some _ c.in-Some.end is.begins (sym c.find_blank.ensures ∙ c.in-Some.is))

pub returns-in-None-clause-words : goal.returns-in-None-clause-words
returns-in-None-clause-words c =
    let is = from_first_word c.args.line.now c.in_ok-start.start (sym c.find_word.ensures ∙ c.in_ok-start.was) in
    is.words ∙ word_last _ is.begins (sym c.find_blank.ensures ∙ c.in-None.is)
