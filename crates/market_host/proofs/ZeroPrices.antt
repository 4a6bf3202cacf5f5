-- Prices of zero, one for each section that a catalogue may have.
use Rattle.std.proofs.Common.{ℕ, zero, suc, ◌≡◌, ◌<◌, List, Bool, length, get_or, arith, ap, refl, ◌∙◌}
use Rattle.std.specs.Prelude.{nat_lt, replicate}
use Rattle.std.proofs.lemmas.List.{get_or-map, get_or-replicate, length-replicate}
use Rattle.market_units.specs.declared.units.Tokens.{Tokens}
use Rattle.bundle_rules.specs.Demand.{HasPrices, IsBest, price_in}
use Rattle.bundle_rules.specs.Menus.{IsMenu, MenuData, wishes_of}

abbrev pub no_price : Tokens
no_price = record { 0 = 0 }

-- they serve each menu
pub has_prices : (menu : MenuData) (prices : List Tokens) (count : ℕ) → IsMenu menu → prices ≡ replicate count (record { 0 = 0 }) → count ≡ 400
    → HasPrices menu prices
has_prices menu prices count sound is long place other low =
    let section : ℕ = (get_or menu.places place other).section.0 in
    let high : section < 400 = (sound.places.each place other low).section in
    let within : section < length prices = rw (is, length-replicate) (omega arith) in
    let free : price_in prices section ≡ 0 =
    get_or-map (λ (price : Tokens). price.0) prices section (record { 0 = 0 }) 0 within
    ∙ ap (λ (price : Tokens). price.0) (rw is (get_or-replicate count section (record { 0 = 0 }) (record { 0 = 0 }) (omega arith))) in
    record { listed = within; high = omega arith }

free : (count s : ℕ) → price_in (replicate count no_price) s ≡ 0
free zero s = refl
free (suc count) zero = refl
free (suc count) (suc s) = free count s

-- the best bundle at these prices, where these sections are allowed, in the words that name no list
pub best_of_all : (menu : MenuData) (prices : List Tokens) (count : ℕ) (allowed : ℕ → Bool) (bundle : List ℕ) → prices ≡ replicate count no_price
    → ((s : ℕ) → allowed s ≡ nat_lt s 400)
    → IsBest (wishes_of menu) (price_in prices) 0 allowed bundle → IsBest (wishes_of menu) (λ _. 0) 0 (λ s. nat_lt s 400) bundle
best_of_all menu prices count allowed bundle is all best =
    let e : price_in prices ≡ (λ (s : ℕ). 0) = λ i s. (ap (λ (list : List Tokens). price_in list s) is ∙ free count s) i in
    let f : allowed ≡ (λ s. nat_lt s 400) = λ i s. all s i in
    rw (e, f) at best
