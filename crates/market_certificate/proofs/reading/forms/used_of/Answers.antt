use Rattle.std.proofs.Common.{ℕ, ◌≡◌, ◌++◌, ◌∷◌, List, arith, subst}
use Rattle.std.specs.Prelude.{codes}
use Rattle.std.specs.Fmt.{decimal}
use Rattle.market_units.specs.Name.{name_bytes}
use Rattle.market_certificate.proofs.Unformed.{behind_two, no_seats, seat_parts}
use Rattle.market_certificate.proofs.reading.forms.used_of.Goals as goal

pub returns-in_err-first-clause-none : goal.returns-in_err-first-clause-none
returns-in_err-first-clause-none c =
    rw c.from_residual-in_err-first.ensures (λ tables has.
    let name : c.in_ok-rest.rest.now ≡ name_bytes c.args.name.now ++ 32 ∷ c.in_ok-numbers.numbers.now =
    subst (λ (w : List ℕ). c.in_ok-rest.rest.now ≡ w ++ 32 ∷ c.in_ok-numbers.numbers.now) c.bytes.ensures.value c.in_ok-numbers.ensures.some in
    no_seats c.in_ok-numbers.numbers.now has.0 c.in_err-first.ensures.none (behind_two (codes "used") (name_bytes c.args.name.now) c.args.line.now c.in_ok-rest.rest.now c.in_ok-numbers.numbers.now (decimal has.0.0 ++ 32 ∷ decimal has.0.1) c.in_ok-rest.ensures.some name has.2))

pub returns-in_err-used-clause-none : goal.returns-in_err-used-clause-none
returns-in_err-used-clause-none c =
    rw c.from_residual-in_err-used.ensures (λ tables has.
    let name : c.in_ok-rest.rest.now ≡ name_bytes c.args.name.now ++ 32 ∷ c.in_ok-numbers.numbers.now =
    subst (λ (w : List ℕ). c.in_ok-rest.rest.now ≡ w ++ 32 ∷ c.in_ok-numbers.numbers.now) c.bytes.ensures.value c.in_ok-numbers.ensures.some in
    let parts = seat_parts c.in_ok-numbers.numbers.now c.in_ok-first.first.now c.in_ok-first.second.now has.0 has.1 c.in_ok-first.ensures.found c.in_ok-first.ensures.first (behind_two (codes "used") (name_bytes c.args.name.now) c.args.line.now c.in_ok-rest.rest.now c.in_ok-numbers.numbers.now (decimal has.0.0 ++ 32 ∷ decimal has.0.1) c.in_ok-rest.ensures.some name has.2) in
    c.in_err-used.ensures.none has.0.0 (omega (arith, has.1.used, c.from.ensures)) parts.0)

pub returns-in_err-seats-clause-none : goal.returns-in_err-seats-clause-none
returns-in_err-seats-clause-none c =
    rw c.from_residual-in_err-seats.ensures (λ tables has.
    let name : c.in_ok-rest.rest.now ≡ name_bytes c.args.name.now ++ 32 ∷ c.in_ok-numbers.numbers.now =
    subst (λ (w : List ℕ). c.in_ok-rest.rest.now ≡ w ++ 32 ∷ c.in_ok-numbers.numbers.now) c.bytes.ensures.value c.in_ok-numbers.ensures.some in
    let parts = seat_parts c.in_ok-numbers.numbers.now c.in_ok-first.first.now c.in_ok-first.second.now has.0 has.1 c.in_ok-first.ensures.found c.in_ok-first.ensures.first (behind_two (codes "used") (name_bytes c.args.name.now) c.args.line.now c.in_ok-rest.rest.now c.in_ok-numbers.numbers.now (decimal has.0.0 ++ 32 ∷ decimal has.0.1) c.in_ok-rest.ensures.some name has.2) in
    c.in_err-seats.ensures.none has.0.1 (omega (arith, has.1.all, c.from-2.ensures)) parts.1)
