-- What covers the values of so many places from one on, place by place.
use Rattle.std.proofs.Common.{◌≡◌, ◌≢◌, ℕ, zero, suc, ◌+◌, ◌*◌, ◌-◌, ◌/◌, ◌^◌, ◌≤◌, ◌<◌, max, min, refl, false, true, List, [], ◌∷◌, length, set, replicate, sym, ap, subst, ◌∙◌, arith, inl, inr}
use Rattle.std.proofs.Math.Nat.{div-mul-le_self}
use Rattle.std.proofs.lemmas.Nat.{le-div, pow_pos}
use Rattle.std.proofs.lemmas.Bool.{cases_order, cases_lt, true≢false}
use Rattle.market_units.specs.Totals.{total}
use Rattle.bundle_rules.specs.Existence.Members.{has-here, has-there, has-cases, has-above}
use Rattle.bundle_rules.specs.Menus.{clash_in}
use Rattle.bundle_bounds.specs.Offers.{OfferData, allowed_at, places_of, price_at}
use Rattle.bundle_bounds.specs.Opens.{budget_left}
use Rattle.demand_oracle.specs.declared.multipliers.Multipliers.{Multipliers}
use Rattle.demand_oracle.specs.Values.{value, units_at}
use Rattle.demand_oracle.specs.Covers.{AreApartFrom, CoversWithin}
use Rattle.demand_oracle.specs.Reaches.{within_at, HoldsCovers, AreSmall, IsAsked, IsPlaced, top_of}
use Rattle.demand_oracle.proofs.Additions.{rest_from}
use Rattle.demand_oracle.proofs.Hoping.{row_same, row_other, zero_row}

module _ (offer : OfferData) (multipliers : Multipliers) (shift top : ℕ) where
  -- places of which the first is later than k are places from the next one on
  from_next : (k p : ℕ) (ps : List ℕ) → AreApartFrom offer k (p ∷ ps) → k < p → AreApartFrom offer (k + 1) (p ∷ ps)
  from_next k p ps free low = record {
    ascending = free.ascending;
    later = λ q is. elim (has-cases p ps q is) [ inl here ↦ omega arith | inr there ↦ let above = has-above p ps q free.ascending.0 there in omega arith ];
    on_menu = free.on_menu;
    allowed = free.allowed;
    apart = free.apart;
  }

  -- past the last place there is none
  pub covers_past : (k count units most : ℕ) → length offer.menu.places ≤ k → CoversWithin offer multipliers shift k count units most
  covers_past k count units most past [] free few cheap = omega arith
  covers_past k count units most past (p ∷ ps) free few cheap =
      let a = free.later p (has-here p ps) in let b = free.on_menu p (has-here p ps) in absurd (omega arith)

  -- no place adds nothing
  pub covers_none : (k units most : ℕ) → CoversWithin offer multipliers shift k 0 units most
  covers_none k units most [] free few cheap = omega arith
  covers_none k units most (p ∷ ps) free few cheap = absurd (omega arith)

  -- a place that is not allowed is none of them
  pub covers_not_allowed : (k count units most : ℕ) → allowed_at offer k ≡ false → CoversWithin offer multipliers shift (k + 1) count units most
      → CoversWithin offer multipliers shift k count units most
  covers_not_allowed k count units most off covers [] free few cheap = omega arith
  covers_not_allowed k count units most off covers (p ∷ ps) free few cheap =
      elim (cases_order k p) [
        | inl same ↦ absurd (true≢false (sym (free.allowed p (has-here p ps)) ∙ ap (allowed_at offer) (sym same) ∙ off))
        | inr (inl below) ↦ covers (p ∷ ps) (from_next k p ps free below) few cheap
        | inr (inr above) ↦ let a = free.later p (has-here p ps) in absurd (omega arith)
      ]

  -- nor is one that costs more
  pub covers_dear : (k count units most : ℕ) → units < units_at offer shift k → CoversWithin offer multipliers shift (k + 1) count units most
      → CoversWithin offer multipliers shift k count units most
  covers_dear k count units most dear covers [] free few cheap = omega arith
  covers_dear k count units most dear covers (p ∷ ps) free few cheap =
      elim (cases_order k p) [
        | inl same ↦
            let t : ℕ = total (units_at offer shift) ps in
            let cost : ℕ = units_at offer shift p in
            let whole : cost + t ≤ units = cheap in
            let dear' : units < cost = subst (λ q. units < units_at offer shift q) same dear in
            absurd (omega arith)
        | inr (inl below) ↦ covers (p ∷ ps) (from_next k p ps free below) few cheap
        | inr (inr above) ↦ let a = free.later p (has-here p ps) in absurd (omega arith)
      ]

  -- places after the first that do not clash with it are places from the first one on that does not
  after_clashes : (k next : ℕ) (ps : List ℕ) → ((other : ℕ) → k + 1 ≤ other → other < next → clash_in offer.menu.clashes k other ≡ true)
      → AreApartFrom offer k (k ∷ ps) → AreApartFrom offer next ps
  after_clashes k next ps between free =
      let rest = rest_from offer k k ps free in record {
        ascending = rest.ascending;
        later = λ q is. elim (cases_order q next) [
          | inl same ↦ omega arith
          | inr (inl below) ↦
              let above : k + 1 ≤ q = rest.later q is in
              absurd (true≢false (sym (between q above below) ∙ free.apart k q (has-here k ps) (has-there k ps q is) (λ e. absurd (omega arith))))
          | inr (inr above) ↦ omega arith
        ];
        on_menu = rest.on_menu;
        allowed = rest.allowed;
        apart = rest.apart;
      }

  -- with a place or without it
  pub covers_place : (k next count units later apart v : ℕ) → ((other : ℕ) → k + 1 ≤ other → other < next → clash_in offer.menu.clashes k other ≡ true)
      → units_at offer shift k ≤ units → value offer multipliers k ≤ 1000 * v
      → CoversWithin offer multipliers shift (k + 1) (count + 1) units later
      → CoversWithin offer multipliers shift next count (units - units_at offer shift k) apart
      → CoversWithin offer multipliers shift k (count + 1) units (max later (apart + v))
  covers_place k next count units later apart v between fits high without with_it [] free few cheap = omega arith
  covers_place k next count units later apart v between fits high without with_it (p ∷ ps) free few cheap =
      elim (cases_order k p) [
        | inl same ↦
            let free' : AreApartFrom offer k (k ∷ ps) = subst (λ q. AreApartFrom offer k (q ∷ ps)) (sym same) free in
            let fewer : length ps ≤ count = omega arith in
            let cost : ℕ = units_at offer shift k in
            let c : ℕ = total (units_at offer shift) ps in
            let whole : cost + c ≤ units = subst (λ q. units_at offer shift q + c ≤ units) (sym same) cheap in
            let cheaper : c ≤ units - cost = omega arith in
            let t : ℕ = total (value offer multipliers) ps in
            let rest : t ≤ 1000 * apart = with_it ps (after_clashes k next ps between free') fewer cheaper in
            let one : ℕ = value offer multipliers k in
            let high' : one ≤ 1000 * v = high in
            let goal : one + t ≤ 1000 * max later (apart + v) = omega arith in
            subst (λ q. value offer multipliers q + t ≤ 1000 * max later (apart + v)) same goal
        | inr (inl below) ↦
            let t : ℕ = total (value offer multipliers) (p ∷ ps) in
            let rest : t ≤ 1000 * later = without (p ∷ ps) (from_next k p ps free below) few cheap in
            let goal : t ≤ 1000 * max later (apart + v) = omega arith in goal
        | inr (inr above) ↦ let a = free.later p (has-here p ps) in absurd (omega arith)
      ]

  -- the numbers of a place cover what can be added from it on
  placed_at : (k next v cost : ℕ) (old new : List (List ℕ)) → k < length offer.menu.places → next ≤ length offer.menu.places
      → IsPlaced offer.menu.courses top v cost k next old new → k + 1 ≤ next → HoldsCovers offer multipliers shift top old (k + 1)
      → ((other : ℕ) → k + 1 ≤ other → other < next → clash_in offer.menu.clashes k other ≡ true) → value offer multipliers k ≤ 1000 * v
      → cost ≡ units_at offer shift k
      → (count units : ℕ) → count ≤ offer.menu.courses → IsAsked offer.menu.courses top count units → CoversWithin offer multipliers shift k count units (within_at new k count units)
  placed_at k next v cost old new low on is up holds between high costs zero units few cheap = covers_none k units (within_at new k 0 units)
  placed_at k next v cost old new low on is up holds between high costs (suc count) units few cheap =
      let e : suc count ≡ count + 1 = omega arith in
      let asked : IsAsked offer.menu.courses top (count + 1) units = subst (λ n. IsAsked offer.menu.courses top n units) e cheap in
      let without = holds (k + 1) (count + 1) units (omega arith) (omega arith) (omega arith) asked in
      subst (λ n. CoversWithin offer multipliers shift k n units (within_at new k n units)) (sym e) (elim (cases_lt units cost) [
        | inl dear ↦
            let read : within_at old (k + 1) (count + 1) units ≡ within_at new k (count + 1) units = sym (is.dear count units (omega arith) asked dear) in
            subst (CoversWithin offer multipliers shift k (count + 1) units) read
            (covers_dear k (count + 1) units (within_at old (k + 1) (count + 1) units) (subst (λ n. units < n) costs dear) without)
        | inr fits ↦
            let read : max (within_at old (k + 1) (count + 1) units) (within_at old next count (units - cost) + v) ≡ within_at new k (count + 1) units =
            sym (is.more count units (omega arith) asked (omega arith)) in
            let with_it = holds next count (units - cost) up on (omega arith) (let low : units ≤ top = asked.0 in omega arith, inl (omega arith)) in
            subst (CoversWithin offer multipliers shift k (count + 1) units) read
            (covers_place k next count units (within_at old (k + 1) (count + 1) units) (within_at old next count (units - cost)) v between (subst (λ n. n ≤ units) costs (omega arith)) high without
            (subst (λ n. CoversWithin offer multipliers shift next count (units - n) (within_at old next count (units - cost))) costs with_it))
      ])

  -- those of one that is not allowed
  not_placed_at : (k next v cost : ℕ) (old new : List (List ℕ)) → k < length offer.menu.places → IsPlaced offer.menu.courses top v cost k next old new
      → HoldsCovers offer multipliers shift top old (k + 1) → allowed_at offer k ≡ false → top < cost
      → (count units : ℕ) → count ≤ offer.menu.courses → IsAsked offer.menu.courses top count units → CoversWithin offer multipliers shift k count units (within_at new k count units)
  not_placed_at k next v cost old new low is holds off dear zero units few cheap = covers_none k units (within_at new k 0 units)
  not_placed_at k next v cost old new low is holds off dear (suc count) units few cheap =
      let e : suc count ≡ count + 1 = omega arith in
      let asked : IsAsked offer.menu.courses top (count + 1) units = subst (λ n. IsAsked offer.menu.courses top n units) e cheap in
      let without = holds (k + 1) (count + 1) units (omega arith) (omega arith) (omega arith) asked in
      let read : within_at old (k + 1) (count + 1) units ≡ within_at new k (count + 1) units = sym (is.dear count units (omega arith) asked (let low : units ≤ top = asked.0 in omega arith)) in
      subst (λ n. CoversWithin offer multipliers shift k n units (within_at new k n units)) (sym e)
      (subst (CoversWithin offer multipliers shift k (count + 1) units) read
      (covers_not_allowed k (count + 1) units (within_at old (k + 1) (count + 1) units) off without))

  -- with the numbers of a place the table covers what can be added from it on
  with_place : (k next v cost : ℕ) (old new : List (List ℕ)) → offer.menu.courses ≤ 8 → IsPlaced offer.menu.courses top v cost k next old new
      → HoldsCovers offer multipliers shift top old (k + 1)
      → ((count units : ℕ) → count ≤ offer.menu.courses → IsAsked offer.menu.courses top count units → CoversWithin offer multipliers shift k count units (within_at new k count units))
      → HoldsCovers offer multipliers shift top new k
  with_place k next v cost old new capped is holds here j count units from on few cheap =
      elim (cases_order j k) [
        | inl same ↦ subst (λ n. CoversWithin offer multipliers shift n count units (within_at new n count units)) (sym same) (here count units few cheap)
        | inr (inl below) ↦ absurd (omega arith)
        | inr (inr above) ↦
            subst (CoversWithin offer multipliers shift j count units) (sym (is.later j count units (omega arith) (omega arith)))
            (holds j count units (omega arith) on few cheap)
      ]

  pub covers_placed : (k next v cost : ℕ) (old new : List (List ℕ)) → offer.menu.courses ≤ 8 → k < length offer.menu.places → next ≤ length offer.menu.places
      → k + 1 ≤ next → IsPlaced offer.menu.courses top v cost k next old new
      → ((other : ℕ) → k + 1 ≤ other → other < next → clash_in offer.menu.clashes k other ≡ true) → value offer multipliers k ≤ 1000 * v
      → cost ≡ units_at offer shift k → HoldsCovers offer multipliers shift top old (k + 1) → HoldsCovers offer multipliers shift top new k
  covers_placed k next v cost old new capped low on up is between high costs holds =
      with_place k next v cost old new capped is holds (placed_at k next v cost old new low on is up holds between high costs)

  pub covers_not_placed : (k next v cost : ℕ) (old new : List (List ℕ)) → offer.menu.courses ≤ 8 → k < length offer.menu.places
      → IsPlaced offer.menu.courses top v cost k next old new → allowed_at offer k ≡ false → top < cost → HoldsCovers offer multipliers shift top old (k + 1)
      → HoldsCovers offer multipliers shift top new k
  covers_not_placed k next v cost old new capped low is off dear holds =
      with_place k next v cost old new capped is holds (not_placed_at k next v cost old new low is holds off dear)

  -- past the last place
  pub covers_last : (table : List (List ℕ)) → HoldsCovers offer multipliers shift top table (length offer.menu.places)
  covers_last table j count units from on few cheap = covers_past j count units _ from

-- What a node asks for, by what its sections leave: with all courses left, all of the budget is.
pub asked_left : (offer : OfferData) (shift count units : ℕ) (chosen : List ℕ) → units < 64 → units ≡ budget_left offer (places_of offer.menu chosen) / 2 ^ shift
    → count ≤ offer.menu.courses - length chosen → count ≢ 0 → IsAsked offer.menu.courses (top_of offer shift) count units
asked_left offer shift count units [] low is within some =
    let all : budget_left offer [] ≡ offer.budget = omega arith in
    let q : ℕ = offer.budget / 2 ^ shift in
    let same : units ≡ q = is ∙ ap (λ n. n / 2 ^ shift) all in
    let top : units ≡ min 63 q = omega arith in
    (let goal : units ≤ min 63 q = omega arith in goal, inr top)
asked_left offer shift count units (s ∷ chosen) low is within some =
    let left : ℕ = budget_left offer (places_of offer.menu (s ∷ chosen)) in
    let t : ℕ = total (price_at offer) (places_of offer.menu (s ∷ chosen)) in
    let less : left ≤ offer.budget = (let read : left ≡ offer.budget - t = refl in omega arith) in
    let q : ℕ = offer.budget / 2 ^ shift in
    let part : left / 2 ^ shift * 2 ^ shift ≤ left = div-mul-le_self left (2 ^ shift) in
    let below : left / 2 ^ shift ≤ q = le-div (left / 2 ^ shift) offer.budget (2 ^ shift) (pow_pos shift) (omega arith) in
    let own : units ≡ left / 2 ^ shift = is in
    (let goal : units ≤ min 63 q = omega arith in goal, inl (omega arith))

-- a row of zeros is written for a count
pub nothing_more : (table : List (List ℕ)) (place count room : ℕ) → place * 9 + count < length table → ((c u : ℕ) → c < count → within_at table place c u ≡ 0)
    → (c u : ℕ) → c < count + 1 → within_at (set table (place * 9 + count) (replicate room 0)) place c u ≡ 0
nothing_more table place count room low before c u few =
    elim (cases_order c count) [
      | inl same ↦
          ap (λ n. within_at (set table (place * 9 + count) (replicate room 0)) place n u) same ∙ row_same table (place * 9 + count) (replicate room 0) u low
          ∙ zero_row room u
      | inr (inl below) ↦ row_other table (place * 9 + count) (place * 9 + c) (replicate room 0) u (λ e. absurd (omega arith)) ∙ before c u below
      | inr (inr above) ↦ absurd (omega arith)
    ]

-- numbers stay small
pub small_placed : (courses top v cost k next last : ℕ) (old new : List (List ℕ)) → courses ≤ 8 → v ≤ 65635001 → k < last → k + 1 ≤ next → next ≤ last
    → IsPlaced courses top v cost k next old new → AreSmall courses top old (k + 1) last → AreSmall courses top new k last
small_placed courses top v cost k next last old new capped high low up on is small j count units from to few cheap =
    elim (cases_order j k) [
      | inl same ↦ subst (λ n. within_at new n count units ≤ 65635001 * count) (sym same) (here count few cheap)
      | inr (inl below) ↦ absurd (omega arith)
      | inr (inr above) ↦
          subst (λ n. n ≤ 65635001 * count) (sym (is.later j count units (omega arith) (omega arith))) (small j count units (omega arith) to few cheap)
    ]
  where
    here : (n : ℕ) → n ≤ courses → IsAsked courses top n units → within_at new k n units ≤ 65635001 * n
    here zero few' asked = subst (λ x. x ≤ 65635001 * 0) (sym (is.none units)) (small (k + 1) 0 units (omega arith) (omega arith) few' asked)
    here (suc n) few' asked' =
        let e : suc n ≡ n + 1 = omega arith in
        let asked : IsAsked courses top (n + 1) units = subst (λ m. IsAsked courses top m units) e asked' in
        let a : within_at old (k + 1) (n + 1) units ≤ 65635001 * (n + 1) = small (k + 1) (n + 1) units (omega arith) (omega arith) (omega arith) asked in
        subst (λ m. within_at new k m units ≤ 65635001 * m) (sym e) (elim (cases_lt units cost) [
          | inl dear ↦ subst (λ x. x ≤ 65635001 * (n + 1)) (sym (is.dear n units (omega arith) asked dear)) a
          | inr fits ↦
              let read : within_at new k (n + 1) units ≡ max (within_at old (k + 1) (n + 1) units) (within_at old next n (units - cost) + v) =
              is.more n units (omega arith) asked (omega arith) in
              let b : within_at old next n (units - cost) ≤ 65635001 * n = small next n (units - cost) up on (omega arith) (let low : units ≤ top = asked.0 in omega arith, inl (omega arith)) in
              let goal : within_at new k (n + 1) units ≤ 65635001 * (n + 1) = omega arith in goal
        ])
