-- What places add to the utility of chosen ones, and the most that they can add.
use Rattle.std.proofs.Common.{◌≡◌, ℕ, ◌+◌, Bool, true, false, List, [], ◌∷◌, ◌++◌, refl, ◌∙◌, arith}
use Rattle.std.proofs.lemmas.Int.{ints}
use Rattle.std.specs.Prelude.{ℤ, pos, negsuc, ◌+ℤ◌, ◌≤ℤ◌}
use Rattle.market_units.specs.Totals.{total, signed_total}
use Rattle.market_units.specs.Subsets.{chosen}
use Rattle.bundle_rules.specs.Wishes.{Wishes, utility, adjustments}
use Rattle.bundle_rules.specs.Menus.{by_place, adjustment_in}
use Rattle.bundle_bounds.specs.Offers.{OfferData}
use Rattle.bundle_bounds.specs.Opens.{above_zero, addition, hopes, weight, prospects}

pub at_most_above : (z : ℤ) → z ≤ℤ pos (above_zero z)
at_most_above (pos n) = omega (arith, ints)
at_most_above (negsuc n) = omega (arith, ints)

pub signed_total-append : (f : ℕ → ℤ) (xs ys : List ℕ) → signed_total f (xs ++ ys) ≡ signed_total f xs +ℤ signed_total f ys
signed_total-append f [] ys = let z : ℤ = signed_total f ys in let goal : z ≡ pos 0 +ℤ z = omega (arith, ints) in goal
signed_total-append f (x ∷ xs) ys =
    let rest = signed_total-append f xs ys in
    let a : ℤ = signed_total f (xs ++ ys) in
    let b : ℤ = signed_total f xs in
    let c : ℤ = signed_total f ys in
    let rest' : a ≡ b +ℤ c = rest in
    let goal : f x +ℤ a ≡ (f x +ℤ b) +ℤ c = omega (arith, ints) in goal

module _ (w : Wishes) where
  -- what a place adds to the chosen ones
  abbrev adds : List ℕ → ℕ → ℤ
  adds cs d = pos (w.rating d) +ℤ signed_total (λ c. w.adjustment c d) cs

  -- what these places add to the chosen ones, with the adjustments of their pairs
  abbrev pub gain : List ℕ → List ℕ → ℤ
  gain cs [] = pos 0
  gain cs (d ∷ ds) = (adds cs d +ℤ adjustments w d ds) +ℤ gain cs ds

  pub gain-more : (c : ℕ) (cs ds : List ℕ) → gain (c ∷ cs) ds ≡ adjustments w c ds +ℤ gain cs ds
  gain-more c cs [] = omega (arith, ints)
  gain-more c cs (d ∷ ds) =
      let rest = gain-more c cs ds in
      let g : ℤ = gain (c ∷ cs) ds in
      let h : ℤ = gain cs ds in
      let a : ℤ = adjustments w c ds in
      let rest' : g ≡ a +ℤ h = rest in
      let r : ℤ = pos (w.rating d) in
      let x : ℤ = w.adjustment c d in
      let s : ℤ = signed_total (λ t. w.adjustment t d) cs in
      let e : ℤ = adjustments w d ds in
      let goal : ((r +ℤ (x +ℤ s)) +ℤ e) +ℤ g ≡ (x +ℤ a) +ℤ (((r +ℤ s) +ℤ e) +ℤ h) = omega (arith, ints) in goal

  gain-none : (ds : List ℕ) → utility w ds ≡ gain [] ds
  gain-none [] = refl
  gain-none (d ∷ ds) =
      let rest = gain-none ds in
      let u : ℤ = utility w ds in
      let g : ℤ = gain [] ds in
      let rest' : u ≡ g = rest in
      let r : ℤ = pos (w.rating d) in
      let a : ℤ = adjustments w d ds in
      let goal : (r +ℤ a) +ℤ u ≡ ((r +ℤ pos 0) +ℤ a) +ℤ g = omega (arith, ints) in goal

  -- the utility of the chosen ones with more
  pub utility-append : (cs ds : List ℕ) → utility w (cs ++ ds) ≡ utility w cs +ℤ gain cs ds
  utility-append [] ds = let z : ℤ = gain [] ds in gain-none ds ∙ (let goal : z ≡ pos 0 +ℤ z = omega (arith, ints) in goal)
  utility-append (c ∷ cs) ds =
      let rest = utility-append cs ds in
      let u : ℤ = utility w (cs ++ ds) in
      let v : ℤ = utility w cs in
      let g : ℤ = gain cs ds in
      let rest' : u ≡ v +ℤ g = rest in
      let more = gain-more c cs ds in
      let k : ℤ = gain (c ∷ cs) ds in
      let a : ℤ = adjustments w c ds in
      let more' : k ≡ a +ℤ g = more in
      let split = signed_total-append (w.adjustment c) cs ds in
      let t : ℤ = adjustments w c (cs ++ ds) in
      let b : ℤ = adjustments w c cs in
      let split' : t ≡ b +ℤ a = split in
      let r : ℤ = pos (w.rating c) in
      let goal : (r +ℤ t) +ℤ u ≡ ((r +ℤ b) +ℤ v) +ℤ k = omega (arith, ints) in goal

module _ (offer : OfferData) (cs : List ℕ) where
  -- the adjustments of a place with chosen later ones are at most the positive ones with all later ones
  adjustments_hope : (p : ℕ) (bs : List Bool) (ps : List ℕ) → signed_total (adjustment_in offer.menu.pairs p) (chosen bs ps) ≤ℤ pos (hopes offer p ps)
  adjustments_hope p [] ps = omega (arith, ints)
  adjustments_hope p (b ∷ bs) [] = omega (arith, ints)
  adjustments_hope p (true ∷ bs) (t ∷ ps) =
      let rest = adjustments_hope p bs ps in
      let x : ℤ = signed_total (adjustment_in offer.menu.pairs p) (chosen bs ps) in
      let h : ℕ = hopes offer p ps in
      let rest' : x ≤ℤ pos h = rest in
      let z : ℤ = adjustment_in offer.menu.pairs p t in
      let a : ℕ = above_zero z in
      let k : z ≤ℤ pos a = at_most_above z in
      let goal : (z +ℤ x) ≤ℤ pos (a + h) = omega (arith, ints) in goal
  adjustments_hope p (false ∷ bs) (t ∷ ps) =
      let rest = adjustments_hope p bs ps in
      let x : ℤ = signed_total (adjustment_in offer.menu.pairs p) (chosen bs ps) in
      let h : ℕ = hopes offer p ps in
      let rest' : x ≤ℤ pos h = rest in
      let a : ℕ = above_zero (adjustment_in offer.menu.pairs p t) in
      let goal : x ≤ℤ pos (a + h) = omega (arith, ints) in goal

  -- no choice of open places adds more than their worth
  pub gain_bound : (bs : List Bool) (ps : List ℕ)
      → gain (by_place offer.menu) cs (chosen bs ps) ≤ℤ pos (total (λ p. p.worth) (chosen bs (prospects offer cs ps)))
  unfolding by_place
  gain_bound [] ps = omega (arith, ints)
  gain_bound (b ∷ bs) [] = omega (arith, ints)
  gain_bound (false ∷ bs) (p ∷ ps) = gain_bound bs ps
  gain_bound (true ∷ bs) (p ∷ ps) =
      let rest = gain_bound bs ps in
      let g : ℤ = gain (by_place offer.menu) cs (chosen bs ps) in
      let s : ℕ = total (λ q. q.worth) (chosen bs (prospects offer cs ps)) in
      let rest' : g ≤ℤ pos s = rest in
      let x : ℤ = signed_total (adjustment_in offer.menu.pairs p) (chosen bs ps) in
      let h : ℕ = hopes offer p ps in
      let k : x ≤ℤ pos h = adjustments_hope p bs ps in
      let b : ℤ = addition offer cs p in
      let w : ℕ = above_zero (weight offer cs p ps) in
      let m : (b +ℤ pos h) ≤ℤ pos w = at_most_above (b +ℤ pos h) in
      let goal : ((b +ℤ x) +ℤ g) ≤ℤ pos (w + s) = omega (arith, ints) in goal
