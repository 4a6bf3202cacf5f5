use Rattle.std.proofs.Common.{ℕ, ◌≡◌, ◌++◌, ◌∷◌, List, subst}
use Rattle.std.specs.Prelude.{codes}
use Rattle.plain_facts.proofs.Outcomes.{if_none}
use Rattle.market_units.specs.Name.{name_bytes}
use Rattle.market_certificate.specs.Texts.{bundle_text}
use Rattle.market_certificate.specs.Views.{seen}
use Rattle.market_certificate.proofs.Unformed.{behind_two}
use Rattle.market_certificate.proofs.reading.forms.final_of.Goals as goal

pub returns-clause-none : goal.returns-clause-none
returns-clause-none c =
    let name : c.in_ok-rest.rest.now ≡ name_bytes c.args.name.now ++ 32 ∷ c.in_ok-names.names.now =
    subst (λ (w : List ℕ). c.in_ok-rest.rest.now ≡ w ++ 32 ∷ c.in_ok-names.names.now) c.bytes.ensures.value c.in_ok-names.ensures.some in
    if_none c.bundle_of.result (λ none has.
    none has.0 has.1 (behind_two (codes "final") (name_bytes c.args.name.now) c.args.line.now c.in_ok-rest.rest.now c.in_ok-names.names.now (bundle_text (seen c.args.tables.now).sections has.0) c.in_ok-rest.ensures.some name has.2)) c.bundle_of.ensures.none
