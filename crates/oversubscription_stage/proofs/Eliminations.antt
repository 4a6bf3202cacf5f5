-- The elimination: it exists, it is one, and it grows by one round.
use Rattle.std.proofs.Common.{ℕ, zero, suc, ◌≡◌, ◌<◌, ◌≤◌, ◌+◌, ◌∙◌, List, [], ◌∷◌, ◌++◌, length, arith, ap, sym, subst, refl, inl, inr}
use Rattle.std.specs.Prelude.{slice_index, slice_set}
use Rattle.market_units.specs.declared.units.Tokens.{Tokens}
use Rattle.bundle_rules.specs.Demand.{price_in}
use Rattle.demand_api.specs.Crowds.{CrowdData, IsCrowd, holders, count}
use Rattle.demand_api.specs.Asking.{ArePricesFor}
use Rattle.own_price.specs.Holding.{HeldData, Holds}
use Rattle.own_price.proofs.Leasts.{one_least_price}
use Rattle.oversubscription_stage.specs.Rounds.{AreCountsWithin, IsMostOver, limit_after, IsRoundAt, IsRound, AreRounds, last, IsElimination, IsSettled}
use Rattle.oversubscription_stage.proofs.Finding.{find_most, one_most}
use Rattle.oversubscription_stage.proofs.Raises.{left, left_after, left_high, round_raises, find_least}

-- a round where some section is over
pub record NextRound (crowd : CrowdData) (seats : List ℕ) (prices : List Tokens) : Type 0 where
  pub next : List Tokens
  pub round : IsRound crowd seats prices next
  pub are : ArePricesFor crowd next
  pub less : left crowd next < left crowd prices

next_round : (crowd : CrowdData) (seats : List ℕ) (prices : List Tokens) → ArePricesFor crowd prices → (s : ℕ)
    → IsMostOver crowd.sections (count crowd (price_in prices)) seats s → NextRound crowd seats prices
next_round crowd seats prices are s over =
    let least = find_least crowd (price_in prices) s (limit_after (count crowd (price_in prices) s) (slice_index seats s)) in
    let price : Tokens = record { 0 = least.0 } in
    let round : IsRoundAt crowd seats prices (slice_set prices s price) s price = record { most = over; least = least.1; changed = refl } in
    record {
      next = slice_set prices s price;
      round = (s, price, round);
      are = (round_raises crowd seats prices (slice_set prices s price) s price are round).prices;
      less = left_after crowd seats prices (slice_set prices s price) s price are round;
    }

-- it ends, since each round leaves less
pub elimination_ends : (crowd : CrowdData) (seats : List ℕ) (start : List Tokens) → ArePricesFor crowd start
    → (vectors : List (List Tokens)) × IsElimination crowd seats start vectors
elimination_ends crowd seats start are = from (left crowd start) start are (omega arith)
  where
    from : (fuel : ℕ) (prices : List Tokens) → ArePricesFor crowd prices → left crowd prices ≤ fuel
        → (vectors : List (List Tokens)) × IsElimination crowd seats prices vectors
    from zero prices are few = elim (find_most (count crowd (price_in prices)) seats crowd.sections) [
      | inl over ↦ let step = next_round crowd seats prices are over.0 over.1 in let less = step.less in absurd (omega (arith, less, few))
      | inr within ↦ ([], record { rounds = tt; ends = within })
    ]
    from (suc fuel) prices are few = elim (find_most (count crowd (price_in prices)) seats crowd.sections) [
      | inl over ↦
          let step = next_round crowd seats prices are over.0 over.1 in
          let less = step.less in
          let rest = from fuel step.next step.are (omega (arith, less, few)) in
          (step.next ∷ rest.0, record { rounds = (step.round, rest.1.rounds); ends = rest.1.ends })
      | inr within ↦ ([], record { rounds = tt; ends = within })
    ]

-- the next vector is one
pub one_round : (crowd : CrowdData) (seats : List ℕ) (before one other : List Tokens) → IsRound crowd seats before one → IsRound crowd seats before other
    → one ≡ other
one_round crowd seats before one other (s, price, is) (t, cost, is') =
    let same : t ≡ s = one_most crowd.sections (count crowd (price_in before)) seats t s is'.most is.most in
    let there : IsRoundAt crowd seats before other s cost = subst (λ k. IsRoundAt crowd seats before other k cost) same is' in
    let equal : price.0 ≡ cost.0 =
    one_least_price crowd (price_in before) s (limit_after (count crowd (price_in before) s) (slice_index seats s)) price.0 cost.0 is.least there.least in
    is.changed ∙ ap (λ p. slice_set before s (record { 0 = p })) equal ∙ sym there.changed

-- no round begins where all are within their seats
none_over : (crowd : CrowdData) (seats : List ℕ) (before after : List Tokens) → AreCountsWithin crowd.sections (count crowd (price_in before)) seats
    → ¬ IsRound crowd seats before after
none_over crowd seats before after within (s, price, is) =
    let few : count crowd (price_in before) s ≤ slice_index seats s = within s is.most.in_range in
    let more : slice_index seats s < count crowd (price_in before) s = is.most.over in
    omega arith

pub one_elimination : (crowd : CrowdData) (seats : List ℕ) (start : List Tokens) (one other : List (List Tokens)) → IsElimination crowd seats start one
    → IsElimination crowd seats start other → one ≡ other
one_elimination crowd seats start [] [] is is' = refl
one_elimination crowd seats start [] (y ∷ ys) is is' = absurd (none_over crowd seats start y is.ends is'.rounds.0)
one_elimination crowd seats start (x ∷ xs) [] is is' = absurd (none_over crowd seats start x is'.ends is.rounds.0)
one_elimination crowd seats start (x ∷ xs) (y ∷ ys) is is' =
    let same : x ≡ y = one_round crowd seats start x y is.rounds.0 is'.rounds.0 in
    let there : IsElimination crowd seats x ys = subst (λ v. IsElimination crowd seats v ys) (sym same) (record { rounds = is'.rounds.1; ends = is'.ends }) in
    let rest : xs ≡ ys = one_elimination crowd seats x xs ys (record { rounds = is.rounds.1; ends = is.ends }) there in
    ap (λ v. v ∷ xs) same ∙ ap (λ vs. y ∷ vs) rest

pub settled_within_seats : (crowd : CrowdData) (seats : List ℕ) (start prices : List Tokens) (rounds : ℕ) → IsSettled crowd seats start prices rounds
    → AreCountsWithin crowd.sections (count crowd (price_in prices)) seats
settled_within_seats crowd seats start prices rounds (vectors, is, at, number) =
    subst (λ ps. AreCountsWithin crowd.sections (count crowd (price_in ps)) seats) at is.ends

-- one round more
rounds_more : (crowd : CrowdData) (seats : List ℕ) (start current next : List Tokens) (vectors : List (List Tokens)) → AreRounds crowd seats start vectors
    → last start vectors ≡ current → IsRound crowd seats current next → AreRounds crowd seats start (vectors ++ next ∷ [])
rounds_more crowd seats start current next [] so_far at round = (subst (λ ps. IsRound crowd seats ps next) (sym at) round, tt)
rounds_more crowd seats start current next (x ∷ xs) so_far at round = (so_far.0, rounds_more crowd seats x current next xs so_far.1 at round)

last_more : (start next : List Tokens) (vectors : List (List Tokens)) → last start (vectors ++ next ∷ []) ≡ next
last_more start next [] = refl
last_more start next (x ∷ xs) = last_more x next xs

length_more : (next : List Tokens) (vectors : List (List Tokens)) → length (vectors ++ next ∷ []) ≡ length vectors + 1
length_more next [] = refl
length_more next (x ∷ xs) = omega (arith, length_more next xs)

-- the elimination so far: its rounds, what is held after them, and how much is left
pub record IsUnderWay (crowd : CrowdData) (seats : List ℕ) (start : List Tokens) (held : HeldData) (number : ℕ) : Type 0 where
  pub known : IsCrowd crowd
  pub vectors : List (List Tokens)
  pub rounds : AreRounds crowd seats start vectors
  pub at : last start vectors ≡ held.prices
  pub counted : length vectors ≡ number
  pub holds : Holds crowd held
  pub left : number + left crowd held.prices ≤ 400000400

pub under_way_begins : (crowd : CrowdData) (seats : List ℕ) (start : List Tokens) (held : HeldData) → IsCrowd crowd → held.prices ≡ start → Holds crowd held
    → IsUnderWay crowd seats start held 0
under_way_begins crowd seats start held known same holds = record {
  known = known;
  vectors = [];
  rounds = tt;
  at = sym same;
  counted = refl;
  holds = holds;
  left = let high : left crowd held.prices ≤ 400000400 = left_high crowd held.prices known holds.prices.same in omega arith;
}

-- the measure falls
pub round_left_falls : (crowd : CrowdData) (seats : List ℕ) (before after : List Tokens) → ArePricesFor crowd before → IsRound crowd seats before after
    → left crowd after < left crowd before
round_left_falls crowd seats before after are (s, price, round) = left_after crowd seats before after s price are round

pub under_way_more : (crowd : CrowdData) (seats : List ℕ) (start : List Tokens) (held next : HeldData) (number : ℕ) → IsUnderWay crowd seats start held number
    → IsRound crowd seats held.prices next.prices → Holds crowd next → IsUnderWay crowd seats start next (number + 1)
under_way_more crowd seats start held next number is round holds = record {
  known = is.known;
  vectors = is.vectors ++ next.prices ∷ [];
  rounds = rounds_more crowd seats start held.prices next.prices is.vectors is.rounds is.at round;
  at = last_more start next.prices is.vectors;
  counted = length_more next.prices is.vectors ∙ ap (λ n. n + 1) is.counted;
  holds = holds;
  left =
      let less : left crowd next.prices < left crowd held.prices = round_left_falls crowd seats held.prices next.prices is.holds.prices round in
      let so_far : number + left crowd held.prices ≤ 400000400 = is.left in
      omega arith;
}

-- all counts are within their seats: the elimination is done
pub settled : (crowd : CrowdData) (seats : List ℕ) (start : List Tokens) (held : HeldData) (number : ℕ) → IsUnderWay crowd seats start held number
    → AreCountsWithin crowd.sections (count crowd (price_in held.prices)) seats → IsSettled crowd seats start held.prices number
settled crowd seats start held number is within = (
  is.vectors,
  record { rounds = is.rounds; ends = subst (λ ps. AreCountsWithin crowd.sections (count crowd (price_in ps)) seats) (sym is.at) within },
  is.at,
  is.counted,
)

-- the section that is most over what is held is most over the counts
pub most_held : (crowd : CrowdData) (seats : List ℕ) (held : HeldData) (s : ℕ) → Holds crowd held → length seats ≡ crowd.sections
    → IsMostOver (length seats) (λ t. holders t held.bundles) seats s → IsMostOver crowd.sections (count crowd (price_in held.prices)) seats s
most_held crowd seats held s holds same most =
    subst (λ n. IsMostOver n (count crowd (price_in held.prices)) seats s) same
    (subst (λ bundles. IsMostOver (length seats) (λ t. holders t bundles) seats s) holds.bundles most)

-- what is told of the held bundles holds of the counts
pub within_held : (crowd : CrowdData) (seats : List ℕ) (held : HeldData) → Holds crowd held → length seats ≡ crowd.sections
    → AreCountsWithin (length seats) (λ s. holders s held.bundles) seats → AreCountsWithin crowd.sections (count crowd (price_in held.prices)) seats
within_held crowd seats held holds same within = λ s low. subst (λ bundles. holders s bundles ≤ slice_index seats s) holds.bundles (within s (rw same low))
