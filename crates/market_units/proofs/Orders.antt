-- The order of subsets: the first has the first place on which they differ.
use Rattle.std.proofs.Common.{◌≡◌, ◌≢◌, Bool, true, false, List, [], ◌∷◌, length, refl, ap, inl, inr, ◌⊎◌, true≢false, sym, arith}
use Rattle.market_units.specs.Subsets.{earlier}

pub one_is_earlier : (as' bs : List Bool) → length as' ≡ length bs → as' ≢ bs → (earlier as' bs ≡ true) ⊎ (earlier bs as' ≡ true)
one_is_earlier [] [] same other = absurd (other refl)
one_is_earlier [] (b ∷ bs) same other = absurd (omega arith)
one_is_earlier (a ∷ as') [] same other = absurd (omega arith)
one_is_earlier (true ∷ as') (true ∷ bs) same other = one_is_earlier as' bs (omega arith) (λ e. other (ap (λ xs. true ∷ xs) e))
one_is_earlier (true ∷ as') (false ∷ bs) same other = inl refl
one_is_earlier (false ∷ as') (true ∷ bs) same other = inr refl
one_is_earlier (false ∷ as') (false ∷ bs) same other = one_is_earlier as' bs (omega arith) (λ e. other (ap (λ xs. false ∷ xs) e))

pub not_both_are_earlier : (as' bs : List Bool) → earlier as' bs ≡ true → earlier bs as' ≡ true → ⊥
not_both_are_earlier [] bs first second = true≢false (sym first)
not_both_are_earlier (a ∷ as') [] first second = true≢false (sym first)
not_both_are_earlier (true ∷ as') (true ∷ bs) first second = not_both_are_earlier as' bs first second
not_both_are_earlier (true ∷ as') (false ∷ bs) first second = true≢false (sym second)
not_both_are_earlier (false ∷ as') (true ∷ bs) first second = true≢false (sym first)
not_both_are_earlier (false ∷ as') (false ∷ bs) first second = not_both_are_earlier as' bs first second

pub earlier_than_earlier : (as' bs cs : List Bool) → earlier as' bs ≡ true → earlier bs cs ≡ true → earlier as' cs ≡ true
earlier_than_earlier [] bs cs first second = absurd (true≢false (sym first))
earlier_than_earlier (a ∷ as') [] cs first second = absurd (true≢false (sym first))
earlier_than_earlier (a ∷ as') (b ∷ bs) [] first second = absurd (true≢false (sym second))
earlier_than_earlier (true ∷ as') (true ∷ bs) (true ∷ cs) first second = earlier_than_earlier as' bs cs first second
earlier_than_earlier (true ∷ as') (true ∷ bs) (false ∷ cs) first second = refl
earlier_than_earlier (true ∷ as') (false ∷ bs) (true ∷ cs) first second = absurd (true≢false (sym second))
earlier_than_earlier (true ∷ as') (false ∷ bs) (false ∷ cs) first second = refl
earlier_than_earlier (false ∷ as') (true ∷ bs) cs first second = absurd (true≢false (sym first))
earlier_than_earlier (false ∷ as') (false ∷ bs) (true ∷ cs) first second = absurd (true≢false (sym second))
earlier_than_earlier (false ∷ as') (false ∷ bs) (false ∷ cs) first second = earlier_than_earlier as' bs cs first second
