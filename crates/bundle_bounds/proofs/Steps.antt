-- One more prospect in front adds what it has above the greatest of its course.
use Rattle.std.proofs.Common.{◌≡◌, ◌≢◌, ℕ, ◌+◌, ◌-◌, max, true, false, ◌==◌, List, [], ◌∷◌, refl, sym, ap, ◌∙◌, arith, inl, inr}
use Rattle.std.proofs.lemmas.Bool.{cases_Bool, eq-eqb, ne_eqb, or_left, or_right, false≢true, true≢false}
use Rattle.std.proofs.lemmas.Bool.Decides.{nat_tests}
use Rattle.market_units.specs.Totals.{total}
use Rattle.market_units.specs.Members.{has}
use Rattle.bundle_rules.specs.Existence.Members.{has-here, has-there, has-cases}
use Rattle.bundle_bounds.specs.declared.prospects.Prospect.{Prospect}
use Rattle.bundle_bounds.specs.Courses.{has_course, courses_of, greatest, by_course}
use Rattle.bundle_bounds.proofs.Courses.{without, total-without, has_course-courses}

total_same : (g h : ℕ → ℕ) (cs : List ℕ) → ((c : ℕ) → has cs c ≡ true → g c ≡ h c) → total g cs ≡ total h cs
total_same g h [] same = refl
total_same g h (c ∷ cs) same =
    let rest = total_same g h cs (λ d is. same d (has-there c cs d is)) in
    let a : ℕ = total g cs in
    let b : ℕ = total h cs in
    let rest' : a ≡ b = rest in
    let here : g c ≡ h c = same c (has-here c cs) in
    let goal : g c + a ≡ h c + b = omega arith in goal

courses-has_course : (ps : List Prospect) (c : ℕ) → has (courses_of ps) c ≡ true → has_course ps c ≡ true
courses-has_course [] c is = absurd (false≢true is)
courses-has_course (p ∷ ps) c is =
    elim (cases_Bool (has_course ps p.course)) [
      | inl again ↦ or_right (p.course == c) (has_course ps c) (courses-has_course ps c (rw again at is))
      | inr new ↦ elim (has-cases p.course (courses_of ps) c (rw new at is)) [
        | inl here ↦ or_left (p.course == c) (has_course ps c) (eq-eqb p.course c here)
        | inr there ↦ or_right (p.course == c) (has_course ps c) (courses-has_course ps c there)
      ]
    ]

courses_once : (ps : List Prospect) (c : ℕ) → has (without c (courses_of ps)) c ≡ false
courses_once [] c = refl
courses_once (p ∷ ps) c =
    elim (cases_Bool (has_course ps p.course)) [
      | inl again ↦ rw again (courses_once ps c)
      | inr new ↦
          let absent : has (courses_of ps) p.course ≡ false =
          elim (cases_Bool (has (courses_of ps) p.course)) [
            | inl is ↦ absurd (true≢false (sym (courses-has_course ps p.course is) ∙ new))
            | inr none ↦ none
          ] in
          elim (cases_Bool (p.course == c)) [
            | inl same ↦ let e : p.course ≡ c = grind (arith, nat_tests) in rw (new, same) (rw e at absent)
            | inr other ↦ rw (new, other, other) (courses_once ps c)
          ]
    ]

pub greatest_none : (f : Prospect → ℕ) (ps : List Prospect) (c : ℕ) → has_course ps c ≡ false → greatest f c ps ≡ 0
greatest_none f [] c none = refl
greatest_none f (p ∷ ps) c none =
    elim (cases_Bool (p.course == c)) [
      | inl same ↦ absurd (true≢false (sym (or_left (p.course == c) (has_course ps c) same) ∙ none))
      | inr other ↦ rw other (greatest_none f ps c (rw other at none))
    ]

greatest_other : (f : Prospect → ℕ) (p : Prospect) (ps : List Prospect) (c : ℕ) → p.course ≢ c → greatest f c (p ∷ ps) ≡ greatest f c ps
greatest_other f p ps c apart = rw (ne_eqb p.course c apart) refl

greatest_same : (f : Prospect → ℕ) (p : Prospect) (ps : List Prospect) → greatest f p.course (p ∷ ps) ≡ max (f p) (greatest f p.course ps)
greatest_same f p ps = rw (eq-eqb p.course p.course refl) refl

pub by_course-step : (f : Prospect → ℕ) (p : Prospect) (ps : List Prospect) → by_course f (p ∷ ps) ≡ (f p - greatest f p.course ps) + by_course f ps
by_course-step f p ps =
    let g : ℕ → ℕ = λ c. greatest f c ps in
    let h : ℕ → ℕ = λ c. greatest f c (p ∷ ps) in
    elim (cases_Bool (has_course ps p.course)) [
      | inl again ↦
          let cs = courses_of ps in
          let c = p.course in
          let here : has cs c ≡ true = has_course-courses ps c again in
          let first : total h cs ≡ h c + total h (without c cs) = total-without h c cs here in
          let second : total g cs ≡ g c + total g (without c cs) = total-without g c cs here in
          let same : total h (without c cs) ≡ total g (without c cs) =
          total_same h g (without c cs) (λ d is. greatest_other f p ps d (λ e. false≢true (sym (courses_once ps c) ∙ ap (has (without c cs)) e ∙ is))) in
          let top : h c ≡ max (f p) (g c) = greatest_same f p ps in
          let a : ℕ = total h cs in
          let b : ℕ = total g cs in
          let x : ℕ = total h (without c cs) in
          let y : ℕ = total g (without c cs) in
          let u : ℕ = h c in
          let v : ℕ = g c in
          let first' : a ≡ u + x = first in
          let second' : b ≡ v + y = second in
          let same' : x ≡ y = same in
          let top' : u ≡ max (f p) v = top in
          rw again (let goal : a ≡ (f p - v) + b = omega arith in goal)
      | inr new ↦
          let cs = courses_of ps in
          let c = p.course in
          let none : g c ≡ 0 = greatest_none f ps c new in
          let top : h c ≡ max (f p) (g c) = greatest_same f p ps in
          let same : total h cs ≡ total g cs =
          total_same h g cs (λ d is. greatest_other f p ps d (λ e. true≢false (sym (courses-has_course ps d is) ∙ sym (ap (has_course ps) e) ∙ new))) in
          let a : ℕ = total h cs in
          let b : ℕ = total g cs in
          let u : ℕ = h c in
          let v : ℕ = g c in
          let none' : v ≡ 0 = none in
          let top' : u ≡ max (f p) v = top in
          let same' : a ≡ b = same in
          rw new (let goal : u + a ≡ (f p - v) + b = omega arith in goal)
    ]

-- what stands past the end of a list of prospects
abbrev pub no_prospect : Prospect
no_prospect = record { place = 0; course = 0; worth = 0; price = 0; credits = 0 }
