-- What the test of two places' clashes finds.
use Rattle.std.proofs.Common.{◌≡◌, ◌==◌, ℕ, Bool, true, false, true≢false, List, IsTrue, arith, refl, sym, ◌∙◌, inl, inr}
use Rattle.std.specs.Prelude.{not}
use Rattle.std.proofs.lemmas.Bool.{cases_Bool}
use Rattle.std.proofs.lemmas.Bool.Decides.{nat_tests}
use mathlib.Core.Bool.{beq}
use Rattle.bundle_rules.specs.declared.menu.Rated.{Rated}
use Rattle.bundle_rules.specs.Menus.{clash_in, course_at, ClashesWell}

both_false : (x y : Bool) → not (beq x y) ≡ false → x ≡ false → y ≡ false
both_false true y same none = absurd (true≢false none)
both_false false true same none = absurd (true≢false same)
both_false false false same none = refl

-- two different places without a clash clash well where their courses differ
pub no_clash : (places : List Rated) (clashes : List ℕ) (a b : ℕ) (x y : Bool) (course_a course_b : ℕ) → not (beq x y) ≡ false → x ≡ false
    → x ≡ clash_in clashes a b → y ≡ clash_in clashes b a → (a ≡ b → ⊥) → course_at places a ≡ course_a → course_at places b ≡ course_b
    → (IsTrue (not (course_a == course_b)) → ClashesWell places clashes a b) × (ClashesWell places clashes a b → IsTrue (not (course_a == course_b)))
no_clash places clashes a b x y course_a course_b same none is is' apart at_a at_b =
    let none' : y ≡ false = both_false x y same none in (
      (λ other. record { both_ways = sym is ∙ none ∙ sym none' ∙ is'; one_course = λ different equal. absurd (differ other (sym at_a ∙ equal ∙ at_b)) }),
      (λ well. elim (cases_Bool (course_a == course_b))
          [ inl equal ↦ absurd (true≢false (sym (well.one_course apart (at_a ∙ alike equal ∙ sym at_b)) ∙ sym is ∙ none)) | inr other ↦ rw other refl ]),
    )
  where
    alike : (course_a == course_b) ≡ true → course_a ≡ course_b
    alike t = grind (arith, nat_tests)

    differ : IsTrue (not (course_a == course_b)) → course_a ≡ course_b → ⊥
    differ t e = grind (arith, nat_tests)
