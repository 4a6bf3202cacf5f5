-- The numbers of a round's tasks.
use Rattle.std.proofs.Common.{ℕ, suc, ◌≡◌, ◌<◌, ◌≤◌, ◌+◌, ◌*◌, ◌==◌, ◌∙◌, true, false, List, [], ◌∷◌, Option, None, Some, length, refl, sym, ap, subst, arith, drop}
use Rattle.std.specs.Prelude.{IfSome, is_some}
use Rattle.std.proofs.lemmas.Bool.{and_from, and_parts, eq-eqb, eqb-true, false≢true}
use Rattle.std.proofs.lemmas.List.{length-take-le, length-drop}
use Rattle.std.proofs.lemmas.Nat.{div-mul-add, mod-mul-add}
use Rattle.std.proofs.Math.Nat.{mul-le-mul_right}
use Rattle.bundle_rules.specs.declared.bundle.Bundle.{Bundle}
use Rattle.bundle_rules.specs.Bundles.{sections_of}
use Rattle.price_board.specs.declared.drawn.Drawn.{Drawn}
use Rattle.price_board.specs.declared.round.Task.{Task}
use Rattle.price_board.specs.declared.terms.Terms.{Terms}
use Rattle.price_board.specs.Asked.{is_taken, task_at, task_in, version_at, student_at}
use Rattle.price_board.specs.Rows.{number_of, row_of}
use Rattle.price_board.specs.Seats.{IsNumbered}
use Rattle.price_board.specs.Terms.{student_count, count_in, version_count, demand_at, demand_of, same_sections}

-- where a test finds no list, there is none
pub no_list : (list : Option (List Task)) → is_some list ≡ false → list ≡ None
no_list None none = refl
no_list (Some list) none = absurd (false≢true (sym none))

-- so many rows of this width come before the end of a row
pub row_end : (v versions n : ℕ) → v < versions → v * n + n ≤ versions * n
row_end v versions n low = let next : suc v ≤ versions = low in omega (arith, mul-le-mul_right n next)

pub number-below : (terms : Terms) (v s : ℕ) → v < version_count terms → s < student_count terms → number_of terms v s < count_in None terms
number-below terms v s low within = omega (arith, row_end v (version_count terms) (student_count terms) low, within)

pub version-at : (terms : Terms) (v s : ℕ) → s < student_count terms → version_at terms (number_of terms v s) ≡ v
version-at terms v s within = div-mul-add v (student_count terms) s within

pub student-at : (terms : Terms) (v s : ℕ) → s < student_count terms → student_at terms (number_of terms v s) ≡ s
student-at terms v s within = mod-mul-add v (student_count terms) s within

-- a row has a place for each student
pub row-length : {X : Type 0} (terms : Terms) (list : List X) (v : ℕ) → length list ≡ count_in None terms → v < version_count terms
    → length (row_of terms list v) ≡ student_count terms
row-length terms list v each low =
    length-take-le (student_count terms) (drop (v * student_count terms) list)
    (omega (arith, length-drop (v * student_count terms) list, each, row_end v (version_count terms) (student_count terms) low))

-- ---- right bundles

pub same_sections-is : (xs ys : List ℕ) → same_sections xs ys ≡ true → xs ≡ ys
same_sections-is [] [] same = refl
same_sections-is [] (y ∷ ys) same = absurd (false≢true same)
same_sections-is (x ∷ xs) [] same = absurd (false≢true same)
same_sections-is (x ∷ xs) (y ∷ ys) same =
    let parts = and_parts (x == y) (same_sections xs ys) same in
    λ i. eqb-true x y parts.0 i ∷ same_sections-is xs ys parts.1 i

pub same_sections-own : (xs : List ℕ) → same_sections xs xs ≡ true
same_sections-own [] = refl
same_sections-own (x ∷ xs) = and_from (x == x) (same_sections xs xs) (eq-eqb x x refl) (same_sections-own xs)

module _ (terms : Terms) (v s : ℕ) (bundle : Bundle) (within : s < student_count terms) where
  at_task : (v ≡ version_at terms (number_of terms v s)) × (s ≡ student_at terms (number_of terms v s))
  at_task = (sym (version-at terms v s within), sym (student-at terms v s within))

  pub right_bundle : is_taken None terms (number_of terms v s) bundle ≡ true → sections_of bundle ≡ demand_of terms v s
  right_bundle right =
      same_sections-is (sections_of bundle) (demand_of terms (version_at terms (number_of terms v s)) (student_at terms (number_of terms v s))) right
      ∙ ap (λ w. demand_of terms w (student_at terms (number_of terms v s))) (sym at_task.0) ∙ ap (demand_of terms v) (sym at_task.1)

  pub is_right_bundle : sections_of bundle ≡ demand_of terms v s → is_taken None terms (number_of terms v s) bundle ≡ true
  is_right_bundle is =
      ap (λ w. same_sections (sections_of bundle) (demand_of terms w (student_at terms (number_of terms v s)))) (sym at_task.0)
      ∙ ap (λ t. same_sections (sections_of bundle) (demand_of terms v t)) (sym at_task.1)
      ∙ subst (λ l. same_sections (sections_of bundle) l ≡ true) is (same_sections-own (sections_of bundle))

-- a posted bundle is what the student takes
pub right_posted : (terms : Terms) (v s n : ℕ) (bundle : Option Bundle) → n ≡ number_of terms v s → s < student_count terms
    → IfSome bundle (λ b. is_taken None terms n b ≡ true) → IfSome bundle (λ b. sections_of b ≡ demand_of terms v s)
right_posted terms v s n None is within right = right
right_posted terms v s n (Some bundle) is within right =
    right_bundle terms v s bundle within (subst (λ k. is_taken None terms k bundle ≡ true) is right)

-- a posted bundle of a task is what its student takes at its prices
pub right_answer : (terms : Terms) (n : ℕ) (bundle : Option Bundle) → IfSome bundle (λ b. is_taken terms.list terms n b ≡ true)
    → IfSome bundle (λ b. sections_of b ≡ demand_at terms (task_at terms n))
right_answer terms n None right = right
right_answer terms n (Some bundle) right = same_sections-is (sections_of bundle) (demand_at terms (task_at terms n)) right

-- the number of a task, of which version, student and the number of students were read
pub numbered : (terms : Terms) (v s students version student : ℕ) → v ≡ version → s ≡ student → students ≡ student_count terms
    → v * students + s ≡ number_of terms version student
numbered terms v s students version student is same all = λ i. is i * all i + same i

-- with no list, a version and a student give the number of their task
pub at_number : (terms : Terms) (drawn : Drawn) → terms.list ≡ None → drawn.task.version < version_count terms → drawn.task.student.0 < student_count terms
    → drawn.task.raised ≡ None → drawn.number ≡ number_of terms drawn.task.version drawn.task.student.0 → IsNumbered terms drawn
at_number terms drawn none low within plain is =
    let v : ℕ = drawn.task.version in
    let s : ℕ = drawn.task.student.0 in
    record {
      below = subst (λ l. drawn.number < count_in l terms) (sym none) (subst (λ n. n < count_in None terms) (sym is) (number-below terms v s low within));
      its_task =
          (λ i. record {
            version = (sym (version-at terms v s within) ∙ ap (version_at terms) (sym is)) i;
            student = record { 0 = (sym (student-at terms v s within) ∙ ap (student_at terms) (sym is)) i };
            raised = plain i;
          })
          ∙ ap (λ l. task_in l terms drawn.number) (sym none);
    }
