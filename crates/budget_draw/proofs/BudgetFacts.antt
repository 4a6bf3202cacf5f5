-- The budgets of the first students.
use Rattle.std.proofs.Common.{◌≡◌, ◌∙◌, ◌<◌, ◌≤◌, ◌+◌, ◌*◌, ◌++◌, ◌∷◌, [], ℕ, List, length, map, take, get_or, Some, option_map, ap, arith, add-one, zero-add}
use Rattle.std.specs.Prelude.{slice_get}
use Rattle.std.specs.List.{enumerate_from}
use Rattle.std.proofs.Math.Seq.{take-suc}
use Rattle.std.proofs.lemmas.List.{get_or-map, length-map}
use Rattle.std.proofs.lemmas.List.FromFn.{get_or-enumerate_from, length-enumerate_from, length-map-range_with_len}
use Rattle.std.proofs.lemmas.Option.{slice_get-get_or}
use Rattle.seed_words.specs.Streams.{stream_word, stream_words}
use Rattle.student_roll.specs.Students.{Student, no_student}
use Rattle.budget_draw.specs.Budgets.{budgets_of}
use Rattle.budget_draw.specs.Ranks.{rank_among}
use Rattle.budget_draw.proofs.Counts.{rank_among-lt}

pub length-budgets_of : (students : List Student) (seed spread : ℕ) → length (budgets_of students seed spread) ≡ length students
length-budgets_of students seed spread = length-map (enumerate_from 0 students) _ ∙ length-enumerate_from 0 students

-- what a student's own field is
own : {X : Type 0} (field : Student → X) (students : List Student) (i : ℕ) (value : X) → i < length students
    → option_map field (slice_get students i) ≡ Some value → field (get_or students i no_student) ≡ value
own field students i value within is =
    let h : option_map field (Some (get_or students i no_student)) ≡ Some value = rw (slice_get-get_or students i no_student within) at is in cc

-- the base that a student has leaves room for what is carried over
pub tokens-le : (students : List Student) (i base carry : ℕ) → i < length students → option_map (λ s. s.base) (slice_get students i) ≡ Some base
    → (get_or students i no_student).base + carry ≤ 900000 → base + carry ≤ 900000
tokens-le students i base carry within is room = omega (arith, room, own (λ s. s.base) students i base within is)

-- the budget of one student more
pub budgets_of-more : (students : List Student) (seed spread i base carry : ℕ) → i < length students
    → option_map (λ s. s.base) (slice_get students i) ≡ Some base → option_map (λ s. s.carry) (slice_get students i) ≡ Some carry
    → take (i + 1) (budgets_of students seed spread)
    ≡ take i (budgets_of students seed spread) ++ (base + carry + spread * rank_among (stream_words seed 0 (length students)) i) ∷ []
budgets_of-more students seed spread i base carry within is also =
    let budget : ℕ × Student → ℕ = λ numbered. numbered.1.base + numbered.1.carry + spread * rank_among (stream_words seed 0 (length students)) numbered.0 in
    let numbered : get_or (enumerate_from 0 students) i (0, no_student) ≡ (i, get_or students i no_student) =
    get_or-enumerate_from 0 students i (0, no_student) within ∙ ap (λ (n : ℕ). (n, get_or students i no_student)) (zero-add i) in
    let count : i < length (enumerate_from 0 students) = omega (arith, length-enumerate_from 0 students) in
    let last : get_or (map budget (enumerate_from 0 students)) i 0 ≡ base + carry + spread * rank_among (stream_words seed 0 (length students)) i =
    get_or-map budget (enumerate_from 0 students) i (0, no_student) 0 count
    ∙ ap budget numbered
    ∙ ap (λ (b : ℕ). b + (get_or students i no_student).carry + spread * rank_among (stream_words seed 0 (length students)) i)
    (own (λ s. s.base) students i base within is)
    ∙ ap (λ (b : ℕ). base + b + spread * rank_among (stream_words seed 0 (length students)) i) (own (λ s. s.carry) students i carry within also) in
    rw add-one
    (take-suc (budgets_of students seed spread) i 0 (omega (arith, length-budgets_of students seed spread))
    ∙ ap (λ (b : ℕ). take i (budgets_of students seed spread) ++ b ∷ []) last)

-- a drawn budget adds at most 49 times the greatest rank
pub spread-le : (spread rank : ℕ) → spread ≤ 49 → rank < 2000 → spread * rank ≤ 97951
spread-le spread rank s r = grind arith

-- a drawn rank is less than the greatest number of students
pub drawn_rank-lt : (words : List ℕ) (seed students student : ℕ) → words ≡ stream_words seed 0 students → student < students → students ≤ 2000
    → rank_among words student < 2000
drawn_rank-lt words seed students student is within few =
    let many : length words ≡ students = ap length is ∙ length-map-range_with_len (stream_word seed 0) 0 students in
    omega (arith, rank_among-lt words student (omega arith))
