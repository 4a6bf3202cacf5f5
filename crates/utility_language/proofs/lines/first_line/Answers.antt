use Rattle.std.proofs.Common.{◌+◌, sym, ◌∙◌}
use Rattle.std.proofs.lemmas.List.{take_rest}
use Rattle.utility_language.proofs.LineLemmas.{first_line_ended, first_line_last}
use Rattle.utility_language.proofs.lines.first_line.Goals as goal

pub returns-in-Some-clause-lines : goal.returns-in-Some-clause-lines
returns-in-Some-clause-lines c =
    rw (c.without_return.ensures, take_rest c.args.text.now (c.in-Some.end + 1))
    (first_line_ended c.args.text.now c.in-Some.end (sym c.find_line_feed.ensures ∙ c.in-Some.is))

pub returns-in-None-clause-lines : goal.returns-in-None-clause-lines
returns-in-None-clause-lines c =
    rw c.without_return-in-None.ensures (first_line_last c.args.text.now (sym c.find_line_feed.ensures ∙ c.in-None.is) c.requires)
