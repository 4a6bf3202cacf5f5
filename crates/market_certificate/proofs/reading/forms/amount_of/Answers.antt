use Rattle.std.proofs.Common.{ℕ, ◌≡◌, ◌≤◌, ◌++◌, ◌∷◌, List, sym, ◌∙◌, subst}
use Rattle.std.specs.Fmt.{decimal}
use Rattle.market_units.specs.Name.{name_bytes}
use Rattle.market_certificate.specs.Texts.{word_of}
use Rattle.market_certificate.proofs.Unformed.{behind_two}
use Rattle.market_certificate.proofs.reading.forms.amount_of.Goals as goal

pub returns-in_err-tokens-clause-none : goal.returns-in_err-tokens-clause-none
returns-in_err-tokens-clause-none c =
    rw c.from_residual-in_err-tokens.ensures (λ tables has.
    let small : has.0 ≤ c.from.result = subst (λ (n : ℕ). has.0 ≤ n) (sym (c.from.ensures ∙ c.most_of.ensures)) has.1 in
    let word : c.args.line.now ≡ word_of c.args.kind ++ 32 ∷ c.in_ok-rest.rest.now =
    subst (λ (w : List ℕ). c.args.line.now ≡ w ++ 32 ∷ c.in_ok-rest.rest.now) c.word_of.ensures c.in_ok-rest.ensures.some in
    let name : c.in_ok-rest.rest.now ≡ name_bytes c.args.name.now ++ 32 ∷ c.in_ok-digits.digits.now =
    subst (λ (w : List ℕ). c.in_ok-rest.rest.now ≡ w ++ 32 ∷ c.in_ok-digits.digits.now) c.bytes.ensures.value c.in_ok-digits.ensures.some in
    c.in_err-tokens.ensures.none has.0 small (behind_two (word_of c.args.kind) (name_bytes c.args.name.now) c.args.line.now c.in_ok-rest.rest.now c.in_ok-digits.digits.now (decimal has.0) word name has.2))
