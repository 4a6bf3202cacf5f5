use Rattle.std.proofs.Common.{rules, ◌≡◌, ◌∷◌, ap, arith, map, refl}
use Rattle.std.specs.Fmt.{decimal}
use Rattle.std.specs.Prelude.{codes}
use Rattle.std.specs.String.{string_bytes}
use Rattle.market_words.specs.declared.words.Form.TheVariants.{Make}
use Rattle.market_words.specs.Forms.{HasForm}
use Rattle.market_words.proofs.WordLists.{make_words}
use Rattle.market_words.proofs.OneForm.{make_spells}
use Rattle.market_words.proofs.words.read_make.Goals as goal

pub returns-in_err-workers-clause-none : goal.returns-in_err-workers-clause-none
returns-in_err-workers-clause-none c = rw c.from_residual.ensures (λ form has.
    let spells =
    (make_spells c.args.more.now c.workers-item.result c.seed-item.result c.students-item.result c.sections-item.result c.accept-item.result (omega arith)
    c.workers-item.is c.seed-item.is c.students-item.is c.sections-item.is c.accept-item.is form has).0 in
    c.in_err-workers.ensures.none spells.0 spells.1 (omega (arith, spells.2, c.from.ensures)) (search (rules, spells.3)))

pub returns-in_err-seed-clause-none : goal.returns-in_err-seed-clause-none
returns-in_err-seed-clause-none c = rw c.from_residual-in_err-seed.ensures (λ form has.
    let spells =
    (make_spells c.args.more.now c.workers-item.result c.seed-item.result c.students-item.result c.sections-item.result c.accept-item.result (omega arith)
    c.workers-item.is c.seed-item.is c.students-item.is c.sections-item.is c.accept-item.is form has).1 in
    c.in_err-seed.ensures.none spells.0 (omega (arith, spells.2)) (search (rules, spells.3)))

pub returns-in_err-students-clause-none : goal.returns-in_err-students-clause-none
returns-in_err-students-clause-none c = rw c.from_residual-in_err-students.ensures (λ form has.
    let spells =
    (make_spells c.args.more.now c.workers-item.result c.seed-item.result c.students-item.result c.sections-item.result c.accept-item.result (omega arith)
    c.workers-item.is c.seed-item.is c.students-item.is c.sections-item.is c.accept-item.is form has).2 in
    c.in_err-students.ensures.none spells.0 spells.1 (omega (arith, spells.2, c.from-2.ensures)) (search (rules, spells.3)))

pub returns-in_err-sections-clause-none : goal.returns-in_err-sections-clause-none
returns-in_err-sections-clause-none c = rw c.from_residual-in_err-sections.ensures (λ form has.
    let spells =
    (make_spells c.args.more.now c.workers-item.result c.seed-item.result c.students-item.result c.sections-item.result c.accept-item.result (omega arith)
    c.workers-item.is c.seed-item.is c.students-item.is c.sections-item.is c.accept-item.is form has).3 in
    c.in_err-sections.ensures.none spells.0 spells.1 (omega (arith, spells.2, c.from-3.ensures)) (search (rules, spells.3)))

pub returns-in_err-accept-clause-none : goal.returns-in_err-accept-clause-none
returns-in_err-accept-clause-none c = rw c.from_residual-in_err-accept.ensures (λ form has.
    let spells =
    (make_spells c.args.more.now c.workers-item.result c.seed-item.result c.students-item.result c.sections-item.result c.accept-item.result (omega arith)
    c.workers-item.is c.seed-item.is c.students-item.is c.sections-item.is c.accept-item.is form has).4 in
    c.in_err-accept.ensures.none spells.0 (omega (arith, spells.2)) (search (rules, spells.3)))

pub returns-clause-form : goal.returns-clause-form
returns-clause-form c =
    let five =
    make_words c.args.more.now c.workers-item.result c.seed-item.result c.students-item.result c.sections-item.result c.accept-item.result (omega arith)
    c.workers-item.is c.seed-item.is c.students-item.is c.sections-item.is c.accept-item.is in
    let workers : string_bytes c.workers-item.result ≡ decimal c.in_ok-workers.workers = search rules in
    let seed : string_bytes c.seed-item.result ≡ decimal c.in_ok-seed.seed = search rules in
    let students : string_bytes c.students-item.result ≡ decimal c.in_ok-students.students = search rules in
    let sections : string_bytes c.sections-item.result ≡ decimal c.in_ok-sections.sections = search rules in
    let accept : string_bytes c.accept-item.result ≡ decimal c.in_ok-accept.accept = search rules in
    let has : HasForm (codes "make" ∷ map string_bytes c.args.more.now)
    (Make c.in_ok-workers.workers c.in_ok-seed.seed c.in_ok-students.students c.in_ok-sections.sections c.in_ok-accept.accept) = (
      rw (← workers, ← seed, ← students, ← sections, ← accept) (ap (λ ws. codes "make" ∷ ws) five),
      (c.in_ok-workers.ensures.least, omega (arith, c.in_ok-workers.ensures.most, c.from.ensures)),
      omega (arith, c.in_ok-seed.ensures.within),
      c.in_ok-students.ensures.least,
      omega (arith, c.in_ok-students.ensures.most, c.from-2.ensures),
      c.in_ok-sections.ensures.least,
      omega (arith, c.in_ok-sections.ensures.most, c.from-3.ensures),
      omega (arith, c.in_ok-accept.ensures.within),
    ) in
    record { has = has; named = refl; front_long = refl; some = λ no. absurd no }
