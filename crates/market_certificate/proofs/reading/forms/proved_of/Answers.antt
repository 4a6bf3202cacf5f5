use Rattle.std.proofs.Common.{ℕ, ◌≡◌, ◌++◌, ◌∷◌, List, subst}
use Rattle.std.specs.Prelude.{codes}
use Rattle.plain_facts.proofs.Outcomes.{if_none}
use Rattle.market_units.specs.Name.{name_bytes}
use Rattle.market_certificate.specs.Texts.{proved_text}
use Rattle.market_certificate.specs.Views.{seen}
use Rattle.market_certificate.proofs.Unformed.{behind_two}
use Rattle.market_certificate.proofs.reading.forms.proved_of.Goals as goal

pub returns-clause-none : goal.returns-clause-none
returns-clause-none c =
    let name : c.in_ok-rest.rest.now ≡ name_bytes c.args.name.now ++ 32 ∷ c.in_ok-proved.proved.now =
    subst (λ (w : List ℕ). c.in_ok-rest.rest.now ≡ w ++ 32 ∷ c.in_ok-proved.proved.now) c.bytes.ensures.value c.in_ok-proved.ensures.some in
    if_none c.proved_in.result (λ none has.
    none has.0 has.1 (behind_two (codes "bundle") (name_bytes c.args.name.now) c.args.line.now c.in_ok-rest.rest.now c.in_ok-proved.proved.now (proved_text (seen c.args.tables.now).sections has.0) c.in_ok-rest.ensures.some name has.2)) c.proved_in.ensures.none
