-- The test of the first difference decides it.
use Rattle.std.proofs.Common.{◌≡◌, ◌≢◌, ℕ, ◌≤◌, ◌<◌, true, false, ◌==◌, List, [], ◌∷◌, refl, sym, ap, ◌∙◌, arith, inl, inr}
use Rattle.std.proofs.lemmas.Bool.{cases_Bool, cases_order, eq-eqb, ne_eqb, false≢true, true≢false}
use Rattle.std.proofs.lemmas.Bool.Decides.{nat_tests}
use Rattle.plain_facts.proofs.Numbers.{lt_true, true_lt}
use Rattle.market_units.specs.Members.{has}
use Rattle.bundle_rules.specs.Sets.{AllAbove, IsAscending}
use Rattle.bundle_rules.specs.Existence.Members.{has-here, has-there, has-cases, has-above}
use Rattle.bundle_rules.specs.Existence.Orders.{none_below}
use Rattle.bundle_rules.specs.Ahead.{IsAhead, is_ahead}
use Rattle.bundle_rules.specs.Laws.{AheadIsTheFirstDifference}

pub strip : (c : ℕ) (ss : List ℕ) (t : ℕ) → c ≢ t → has (c ∷ ss) t ≡ has ss t
strip c ss t apart = rw (ne_eqb c t apart) refl

pub ahead_to : (k : ℕ) (ps cs : List ℕ) → IsAscending ps → IsAscending cs → ((c : ℕ) → has cs c ≡ true → c < k) → is_ahead k ps cs ≡ true → IsAhead k ps cs
ahead_to k [] cs up up' low is = absurd (false≢true is)
ahead_to k (p ∷ ps) [] up up' low is =
    (p, true_lt p k is, has-here p ps, refl, λ t below. strip p ps t (λ e. absurd (omega arith)) ∙ none_below p ps up.0 t (omega arith))
ahead_to k (p ∷ ps) (c ∷ cs) up up' low is =
    elim (cases_Bool (p == c)) [
      | inl same ↦
          let e : p ≡ c = grind (arith, nat_tests) in
          let rest = ahead_to k ps cs up.1 up'.1 (λ d h. low d (has-there c cs d h)) (rw same at is) in
          let d = rest.0 in
          let above : p < d = has-above p ps d up.0 rest.2 in
          let other : c ≢ d = λ e'. absurd (omega arith) in (
            d,
            rest.1,
            has-there p ps d rest.2,
            strip c cs d other ∙ rest.3,
            λ t below. elim (cases_order p t) [
              | inl here ↦ rw here (has-here t ps) ∙ sym (ap (has (c ∷ cs)) (sym here ∙ e) ∙ has-here c cs)
              | inr apart ↦
                  let not_p : p ≢ t = λ e'. elim apart [ inl a ↦ absurd (omega arith) | inr b ↦ absurd (omega arith) ] in
                  let not_c : c ≢ t = λ e'. not_p (e ∙ e') in strip p ps t not_p ∙ rest.4 t below ∙ sym (strip c cs t not_c)
            ],
          )
      | inr other ↦
          let first : p < c = true_lt p c (rw other at is) in
          let c_low : c < k = low c (has-here c cs) in (
            p,
            omega arith,
            has-here p ps,
            strip c cs p (λ e. absurd (omega arith)) ∙ none_below c cs up'.0 p (omega arith),
            λ t below. (strip p ps t (λ e. absurd (omega arith)) ∙ none_below p ps up.0 t (omega arith))
                ∙ sym (strip c cs t (λ e. absurd (omega arith)) ∙ none_below c cs up'.0 t (omega arith)),
          )
    ]

at_least : (p : ℕ) (ps : List ℕ) (d : ℕ) → AllAbove p ps → has (p ∷ ps) d ≡ true → p ≤ d
at_least p ps d up is = elim (has-cases p ps d is) [ inl here ↦ omega arith | inr there ↦ let above = has-above p ps d up there in omega arith ]

pub ahead_from : (k : ℕ) (ps cs : List ℕ) → IsAscending ps → IsAscending cs → ((c : ℕ) → has cs c ≡ true → c < k) → IsAhead k ps cs → is_ahead k ps cs ≡ true
ahead_from k [] cs up up' low d = absurd (false≢true d.2)
ahead_from k (p ∷ ps) [] up up' low d = let least = at_least p ps d.0 up.0 d.2 in let below : d.0 < k = d.1 in lt_true p k (omega arith)
ahead_from k (p ∷ ps) (c ∷ cs) up up' low d =
    elim (cases_order p c) [
      | inl same ↦
          let not_c : c ≢ d.0 = λ e. true≢false (sym (has-here c cs) ∙ ap (has (c ∷ cs)) e ∙ d.3) in
          let not_p : p ≢ d.0 = λ e. not_c (sym same ∙ e) in
          let inner : IsAhead k ps cs = (
            d.0,
            d.1,
            sym (strip p ps d.0 not_p) ∙ d.2,
            sym (strip c cs d.0 not_c) ∙ d.3,
            λ t below. elim (cases_order p t) [
              | inl here ↦ none_below p ps up.0 t (omega arith) ∙ sym (none_below c cs up'.0 t (omega arith))
              | inr apart ↦
                  let other : p ≢ t = λ e'. elim apart [ inl a ↦ absurd (omega arith) | inr b ↦ absurd (omega arith) ] in
                  let other' : c ≢ t = λ e'. other (same ∙ e') in sym (strip p ps t other) ∙ d.4 t below ∙ strip c cs t other'
            ],
          ) in
          rw (eq-eqb p c same) (ahead_from k ps cs up.1 up'.1 (λ x h. low x (has-there c cs x h)) inner)
      | inr (inl first) ↦ rw (ne_eqb p c (λ e. absurd (omega arith))) (lt_true p c first)
      | inr (inr second) ↦
          let none : has (p ∷ ps) c ≡ false = strip p ps c (λ e. absurd (omega arith)) ∙ none_below p ps up.0 c (omega arith) in
          let least : p ≤ d.0 = at_least p ps d.0 up.0 d.2 in
          let earlier : c < d.0 = omega arith in
          absurd (false≢true (sym none ∙ d.4 c earlier ∙ has-here c cs))
    ]

pub ahead_is_the_first_difference : AheadIsTheFirstDifference
ahead_is_the_first_difference limit champion chosen up up' low = (ahead_to limit champion chosen up up' low, ahead_from limit champion chosen up up' low)
