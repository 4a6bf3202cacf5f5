use Rattle.std.proofs.Common.{◌≡◌, ◌<◌, ◌≤◌, ℕ, List, length, get_or, inl, inr, refl, sym, arith}
use Rattle.std.specs.Prelude.{◌<ℤ◌}
use Rattle.std.proofs.lemmas.Int.{ints}
use Rattle.std.proofs.lemmas.Bool.{true≢false}
use Rattle.bundle_rules.specs.Menus.{wishes_of}
use Rattle.bundle_rules.specs.Wishes.{Wishes, utility}
use Rattle.bundle_rules.proofs.Feasibility.{places_of_rated}
use Rattle.demand_oracle.specs.Names.{IsPreferredByName, StandsFirst, name_of}
use Rattle.demand_oracle.specs.Questions.{offer_asked}
use Rattle.demand_oracle.specs.SummedNodes.{chosen_of}
use Rattle.demand_oracle.proofs.Ties.{leads_first_exactly}
use Rattle.demand_oracle.proofs.keeping.is_preferred.Goals as goal

-- a bundle of less utility is not preferred
worth_less : (name : ℕ → ℕ) (wishes : Wishes) (a b : List ℕ) → utility wishes a <ℤ utility wishes b → IsPreferredByName name wishes a b → ⊥
worth_less name wishes a b less (inl more) = omega (arith, ints)
worth_less name wishes a b less (inr tie) = let same : utility wishes a ≡ utility wishes b = tie.0 in omega (arith, ints)

-- of bundles of one utility that is preferred which stands first
first_of_equal : (name : ℕ → ℕ) (wishes : Wishes) (a b : List ℕ) → utility wishes a ≡ utility wishes b → IsPreferredByName name wishes a b → StandsFirst name a b
first_of_equal name wishes a b same (inl more) = absurd (omega (arith, ints))
first_of_equal name wishes a b same (inr tie) = tie.1

pub returns-then-utility : goal.returns-then-utility
returns-then-utility c =
    let wishes = wishes_of c.args.question.now.offer.now.menu.now in
    let offer = offer_asked c.args.question.now in
    let first = c.utility.ensures offer.menu offer.price c.requires.summed in
    let second = c.utility-2.ensures offer.menu offer.price c.requires.champion in
    let less : utility wishes (chosen_of c.args.summed.now) <ℤ utility wishes (chosen_of c.args.champion.now) =
    omega (arith, ints, c.if-utility.true, first, second) in (
      λ yes_. absurd (true≢false (sym yes_)),
      λ better. absurd (worth_less (name_of c.args.question.now.names.now) wishes (chosen_of c.args.summed.now) (chosen_of c.args.champion.now) less better),
    )

pub returns-then-utility-2 : goal.returns-then-utility-2
returns-then-utility-2 c =
    let wishes = wishes_of c.args.question.now.offer.now.menu.now in
    let offer = offer_asked c.args.question.now in
    let first = c.utility-4.ensures offer.menu offer.price c.requires.summed in
    let second = c.utility-3.ensures offer.menu offer.price c.requires.champion in
    let more : utility wishes (chosen_of c.args.champion.now) <ℤ utility wishes (chosen_of c.args.summed.now) =
    omega (arith, ints, c.if-utility-2.true, first, second) in
    (λ yes_. inl more, λ better. refl)

pub stand_first-requires-clause-places : goal.stand_first-requires-clause-places
stand_first-requires-clause-places c i d low =
    let menu = c.args.question.now.offer.now.menu.now in
    let few : length menu.places ≤ 60 = c.requires.question.menu.places.few in
    let all =
    rw (← c.places.ensures.value menu (offer_asked c.args.question.now).price c.requires.summed) at
    (places_of_rated menu (chosen_of c.args.summed.now) c.requires.summed.rated) in
    let on : get_or c.places.result.now i d < length menu.places = all i d low in omega arith

pub stand_first-requires-clause-own : goal.stand_first-requires-clause-own
stand_first-requires-clause-own c =
    let offer = offer_asked c.args.question.now in
    rw (c.places.ensures.value offer.menu offer.price c.requires.summed) c.requires.summed.word

pub returns : goal.returns
returns c =
    let offer = offer_asked c.args.question.now in
    let wishes = wishes_of c.args.question.now.offer.now.menu.now in
    let menu = c.args.question.now.offer.now.menu.now in
    let a = chosen_of c.args.summed.now in
    let b = chosen_of c.args.champion.now in
    let name = name_of c.args.question.now.names.now in
    let equal : utility wishes a ≡ utility wishes b =
    omega (
      arith,
      ints,
      c.if-utility.false,
      c.if-utility-2.false,
      c.utility.ensures menu offer.price c.requires.summed,
      c.utility-2.ensures menu offer.price c.requires.champion,
      c.utility-3.ensures menu offer.price c.requires.champion,
      c.utility-4.ensures menu offer.price c.requires.summed,
    ) in
    let leads = rw (c.places.ensures.value menu offer.price c.requires.summed) at c.stand_first.ensures in
    let same = leads_first_exactly menu c.args.question.now.names.now c.requires.question.names a b c.requires.summed.rated c.requires.champion.rated
    c.args.champion.now.word c.requires.champion.word in (
      λ yes_. inr (equal, same.0 (leads.0 yes_)),
      λ better. leads.1 (same.1 (first_of_equal name wishes a b equal better)),
    )
