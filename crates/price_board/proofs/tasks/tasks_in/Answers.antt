use Rattle.std.proofs.Common.{◌∙◌, ◌*◌, Vec, Global, ap, sym}
use Rattle.std.proofs.lemmas.List.{length-map}
use Rattle.market_units.specs.declared.units.Tokens.{Tokens}
use Rattle.price_board.specs.Openings.{list_of, terms_of}
use Rattle.price_board.specs.Terms.{count_in}
use Rattle.price_board.proofs.tasks.tasks_in.Goals as goal

pub returns-in-None : goal.returns-in-None
returns-in-None c =
    let round = c.args.round.now in
    let terms = terms_of c.args.crowd.now round in
    let versions = c.len.ensures ∙ round.versions.ok.0 ∙ sym (length-map round.versions.items (λ (version : Vec Tokens Global). version.items)) in
    (λ i. versions i * c.students_in.ensures.all round i) ∙ sym (ap (λ l. count_in (list_of l) terms) c.in-None.is)
