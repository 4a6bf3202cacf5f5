-- The printed turns, each of which is due, come in passes.
use Rattle.std.proofs.Common.{ℕ, zero, suc, ◌≡◌, ◌<◌, ◌≤◌, ◌+◌, ◌*◌, ◌∙◌, ◌↔◌, Some, List, [], ◌∷◌, ◌++◌, length, map, drop, take, get_or, refl, ap, sym, subst, inl, inr, arith}
use Rattle.std.specs.Prelude.{slice_get, slice_index_or, slice_set}
use Rattle.std.proofs.Math.Nat.{mul-le-mul_right}
use Rattle.std.proofs.Math.Seq.{drop-nil, take-add}
use Rattle.std.proofs.lemmas.Bool.{cases_lt}
use Rattle.std.proofs.lemmas.Grind.{same_number_lists}
use Rattle.std.proofs.lemmas.List.{drop_all, get_or-drop, get_or-map, get_or-take, length-drop, length-map, length-take-le, take-append-drop}
use Rattle.std.proofs.lemmas.List.Concat.{flat_map-cons}
use Rattle.std.proofs.lemmas.Option.{get_or_from_slice_get, slice_get_within}
use Rattle.demand_api.specs.Crowds.{CrowdData, Student}
use Rattle.market_certificate.specs.Publications.{ProvedTurn, Publication}
use Rattle.published_parts.specs.Holdings.{demanded, held_after}
use Rattle.published_parts.specs.Passes.{ChangesNothing, ComeInPasses, turns_of}
use Rattle.certificate_checker.specs.Firsts.{AllBelow}
use Rattle.certificate_checker.specs.Turns.{HasQuietPass, IsDue, IsQuietTurn, held_before, order_in, turn_in}
use Rattle.published_parts.proofs.Passing.{GoOn, IsNumbered, come_in_passes, held_both, same_after}
use Rattle.certificate_checker.proofs.Progressing.{next_pass}
use Rattle.certificate_checker.proofs.Turning.{held_next, one_place, order_length}

drop_both : {A : Type 0} (n m : ℕ) (xs : List A) → drop (n + m) xs ≡ drop m (drop n xs)
drop_both zero m xs = let none : zero + m ≡ m = omega arith in ap (λ k. drop k xs) none
drop_both (suc n) m [] = drop-nil (suc n + m) ∙ sym (drop-nil m)
drop_both (suc n) m (x ∷ xs) = let next : suc n + m ≡ suc (n + m) = omega arith in ap (λ k. drop k (x ∷ xs)) next ∙ drop_both n m xs

-- within a list its default does not matter
pub any_default : {A : Type 0} (xs : List A) (k : ℕ) (d e : A) → k < length xs → get_or xs k d ≡ get_or xs k e
any_default [] k d e low = absurd (omega arith)
any_default (x ∷ xs) zero d e low = refl
any_default (x ∷ xs) (suc k) d e low = any_default xs k d e (omega arith)

module _ (crowd : CrowdData) (p : Publication) (some : 0 < length crowd.students) (due : AllBelow (length p.turns) (IsDue crowd p))
    (quiet_one : HasQuietPass (length crowd.students) p (length p.turns)) where
  abbrev students : ℕ
  students = length crowd.students

  abbrev order : List ℕ
  order = order_in crowd

  each : length order ≡ students
  each = order_length (map (λ (student : Student). student.budget) crowd.students) ∙ length-map crowd.students (λ (student : Student). student.budget)

  -- the turns from a pass on, and those of the pass
  from : ℕ → List ProvedTurn
  from pass = drop (pass * students) p.turns

  turns_in : ℕ → List ProvedTurn
  turns_in pass = take students (from pass)

  -- so many passes from one on
  passes_from : ℕ → ℕ → List (List ProvedTurn)
  passes_from pass zero = []
  passes_from pass (suc more) = turns_in pass ∷ passes_from (pass + 1) more

  passes_long : (pass more : ℕ) → length (passes_from pass more) ≡ more
  unfolding passes_from
  passes_long pass zero = refl
  passes_long pass (suc more) = ap suc (passes_long (pass + 1) more)

  module _ (pass more : ℕ) (whole : (pass + suc more) * students ≡ length p.turns) where
    far : (pass + 1) * students ≤ length p.turns
    far = subst (λ n. (pass + 1) * students ≤ n) whole (mul-le-mul_right students (omega arith))

    long : length (turns_in pass) ≡ students
    unfolding turns_in from
    long =
        length-take-le students (from pass) (let all = length-drop (pass * students) p.turns in let one = next_pass pass students in let h = far in omega arith)

    -- the turn at a place of the pass
    at : (place : ℕ) (d : ProvedTurn) → place < students → get_or (turns_in pass) place d ≡ turn_in p (pass * students + place)
    unfolding turns_in from
    at place d low =
        let one = next_pass pass students in
        let h = far in
        get_or-take students (from pass) place d low ∙ get_or-drop (pass * students) p.turns place d
        ∙ any_default p.turns (pass * students + place) d (record { pass = 0; student = 0; bundle = []; tree = [] }) (omega arith)

    is_due : (place : ℕ) → place < students
        → ((turn_in p (pass * students + place)).pass ≡ pass + 1) × (slice_get order place ≡ Some (turn_in p (pass * students + place)).student)
    is_due place low =
        let one = next_pass pass students in
        let h = far in
        let this = due (pass * students + place) (omega arith) in
        let small : this.place < students =
        subst (λ n. this.place < n) each (slice_get_within order this.place (turn_in p (pass * students + place)).student this.next) in
        let same = one_place students pass place this.pass this.place low small this.number in
        (this.in_pass ∙ ap (λ n. n + 1) (sym same.0), ap (slice_get order) same.1 ∙ this.next)

    numbered : IsNumbered order (pass + 1) (turns_in pass)
    numbered = record {
      numbered = λ k d low. let n = long in ap (λ (turn : ProvedTurn). turn.pass) (at k d (omega arith)) ∙ (is_due k (omega arith)).0;
      students =
          same_number_lists (map (λ (turn : ProvedTurn). turn.student) (turns_in pass)) order
          (length-map (turns_in pass) (λ (turn : ProvedTurn). turn.student) ∙ long ∙ sym each)
          (λ k low.
          let n = long in
          let m = length-map (turns_in pass) (λ (turn : ProvedTurn). turn.student) in
          get_or-map (λ (turn : ProvedTurn). turn.student) (turns_in pass) k (record { pass = 0; student = 0; bundle = []; tree = [] }) 0 (omega arith)
          ∙ ap (λ (turn : ProvedTurn). turn.student) (at k (record { pass = 0; student = 0; bundle = []; tree = [] }) (omega arith))
          ∙ sym (get_or_from_slice_get order k (turn_in p (pass * students + k)).student 0 (is_due k (omega arith)).1));
    }

    -- where the first turns of the pass change nothing, what is held before the next one is what was held before the pass
    held_same : (k : ℕ) → k ≤ students
        → ((place : ℕ) → place < k
        → slice_index_or (held_before p (pass * students)) (turn_in p (pass * students + place)).student [] ≡ (turn_in p (pass * students + place)).bundle)
        → held_before p (pass * students + k) ≡ held_before p (pass * students)
    held_same zero few quiet = let none : pass * students + 0 ≡ pass * students = omega arith in ap (held_before p) none
    held_same (suc k) few quiet =
        let one = next_pass pass students in
        let h = far in
        let before = held_same k (omega arith) (λ place low. quiet place (omega arith)) in
        let next : pass * students + suc k ≡ pass * students + k + 1 = omega arith in
        ap (held_before p) next ∙ held_next p (pass * students + k) (omega arith)
        ∙ ap (λ held. slice_set held (turn_in p (pass * students + k)).student (turn_in p (pass * students + k)).bundle) before
        ∙ same_after (held_before p (pass * students)) (turn_in p (pass * students + k)) (quiet k (omega arith))

    held_quiet : (k : ℕ) → k ≤ students → ((place : ℕ) → place < students → IsQuietTurn p (pass * students + place))
        → held_before p (pass * students + k) ≡ held_before p (pass * students)
    held_quiet zero few quiet = let none : pass * students + 0 ≡ pass * students = omega arith in ap (held_before p) none
    held_quiet (suc k) few quiet =
        let one = next_pass pass students in
        let h = far in
        let before = held_quiet k (omega arith) quiet in
        let next : pass * students + suc k ≡ pass * students + k + 1 = omega arith in
        ap (held_before p) next ∙ held_next p (pass * students + k) (omega arith)
        ∙ same_after (held_before p (pass * students + k)) (turn_in p (pass * students + k)) (quiet k (omega arith)) ∙ before

    changes_nothing : ((place : ℕ) → place < students → IsQuietTurn p (pass * students + place))
        → ChangesNothing (held_before p (pass * students)) (turns_in pass)
    changes_nothing quiet k d low =
        let n = long in
        let same = held_quiet k (omega arith) quiet in
        subst (λ (turn : ProvedTurn). slice_index_or (held_before p (pass * students)) turn.student [] ≡ turn.bundle) (sym (at k d (omega arith)))
        (ap (λ held. slice_index_or held (turn_in p (pass * students + k)).student []) (sym same) ∙ quiet k (omega arith))

    all_quiet : ChangesNothing (held_before p (pass * students)) (turns_in pass) → (place : ℕ) → place < students → IsQuietTurn p (pass * students + place)
    all_quiet nothing place low =
        let n = long in
        let each_here : (k : ℕ) → k < students → slice_index_or (held_before p (pass * students)) (turn_in p (pass * students + k)).student [] ≡ (turn_in p (pass * students + k)).bundle
        =
        λ k small. subst (λ (turn : ProvedTurn). slice_index_or (held_before p (pass * students)) turn.student [] ≡ turn.bundle) (at k (turn_in p 0) small)
        (nothing k (turn_in p 0) (omega arith)) in
        let same = held_same place (omega arith) (λ k small. each_here k (omega arith)) in
        ap (λ held. slice_index_or held (turn_in p (pass * students + place)).student []) same ∙ each_here place low

    held_later : held_after (held_before p (pass * students)) (turns_in pass) ≡ held_before p ((pass + 1) * students)
    unfolding turns_in from
    held_later =
        sym (held_both (demanded p) (take (pass * students) p.turns) (take students (drop (pass * students) p.turns)))
        ∙ ap (held_after (demanded p)) (sym (take-add (pass * students) students p.turns))
        ∙ ap (λ n. held_before p n) (sym (next_pass pass students))

  joined : (pass more : ℕ) → (pass + more) * students ≡ length p.turns → turns_of (passes_from pass more) ≡ from pass
  unfolding from passes_from turns_in
  joined pass zero whole =
      let none : pass + 0 ≡ pass = omega arith in
      sym (drop_all (pass * students) p.turns (subst (λ n. length p.turns ≤ n * students) none (omega arith)))
  joined pass (suc more) whole =
      let next : pass + 1 + more ≡ pass + suc more = omega arith in
      let rest = joined (pass + 1) more (ap (λ n. n * students) next ∙ whole) in
      flat_map-cons (λ (one : List ProvedTurn). one) (turns_in pass) (passes_from (pass + 1) more) ∙ ap (λ later. turns_in pass ++ later) rest
      ∙ ap (λ later. turns_in pass ++ later) (ap (λ n. drop n p.turns) (next_pass pass students) ∙ drop_both (pass * students) students p.turns)
      ∙ take-append-drop students (from pass)

  -- behind the pass without a change there is none
  last_pass : (quiet_one.pass + 1) * students ≡ length p.turns
  last_pass =
      let whole = quiet_one.whole in
      elim (cases_lt ((quiet_one.pass + 1) * students) (length p.turns)) [
        | inl before ↦
            absurd ((due ((quiet_one.pass + 1) * students) before).goes_on (record { pass = quiet_one.pass; whole = (omega arith); quiet = quiet_one.quiet }))
        | inr not ↦ (let h = not in omega arith)
      ]

  ends_here : (pass more : ℕ) (whole : (pass + suc more) * students ≡ length p.turns)
      → ChangesNothing (held_before p (pass * students)) (turns_in pass) ↔ (passes_from (pass + 1) more ≡ [])
  unfolding passes_from
  ends_here pass zero whole = (
    λ nothing. refl,
    λ e.
        let last = last_pass in
        let one = next_pass pass students in
        let other = next_pass quiet_one.pass students in
        let sum : (pass + suc zero) * students ≡ pass * students + students = one in
        let same : quiet_one.pass ≡ pass = (one_place students quiet_one.pass 0 pass 0 some some (omega arith)).0 in
        changes_nothing pass zero whole (λ place low. subst (λ n. IsQuietTurn p (n * students + place)) same (quiet_one.quiet place low)),
  )
  ends_here pass (suc more) whole = (
    λ nothing.
        let next : (pass + 2) * students ≡ (pass + 1) * students + students = two_passes pass in
        let far : (pass + 2) * students ≤ (pass + suc (suc more)) * students = mul-le-mul_right students (omega arith) in
        absurd
        ((due ((pass + 1) * students) (omega arith)).goes_on
        (record { pass = pass; whole = (omega arith); quiet = all_quiet pass (suc more) whole nothing })),
    λ e. absurd (cc e),
  )
    where
      two_passes : (pass : ℕ) → (pass + 2) * students ≡ (pass + 1) * students + students
      two_passes pass = let e : pass + 2 ≡ pass + 1 + 1 = omega arith in ap (λ n. n * students) e ∙ next_pass (pass + 1) students

  go_on : (pass more : ℕ) → (pass + more) * students ≡ length p.turns → GoOn order (pass + 1) (held_before p (pass * students)) (passes_from pass more)
  unfolding passes_from
  go_on pass zero whole = tt
  go_on pass (suc more) whole =
      let next : pass + 1 + more ≡ pass + suc more = omega arith in (
        numbered pass more whole,
        ends_here pass more whole,
        subst (λ held. GoOn order (pass + 1 + 1) held (passes_from (pass + 1) more)) (sym (held_later pass more whole))
            (go_on (pass + 1) more (ap (λ n. n * students) next ∙ whole)),
      )

  pub due_in_passes : ComeInPasses order (demanded p) p.turns
  unfolding from passes_from
  due_in_passes = come_in_passes order (demanded p) p.turns (passes_from 0 (quiet_one.pass + 1)) (joined 0 (quiet_one.pass + 1) whole ∙ ap (λ n. drop n p.turns) none) (
    λ e. absurd (some_pass quiet_one.pass e),
    λ e. absurd (let size = each in let none : length order ≡ 0 = ap (λ (all : List ℕ). length all) e in omega arith),
  ) (subst (λ n. GoOn order (0 + 1) (held_before p n) (passes_from 0 (quiet_one.pass + 1))) none (go_on 0 (quiet_one.pass + 1) whole))
    where
      none : 0 * students ≡ 0
      none = omega arith

      whole : (0 + (quiet_one.pass + 1)) * students ≡ length p.turns
      whole = let e : 0 + (quiet_one.pass + 1) ≡ quiet_one.pass + 1 = omega arith in ap (λ n. n * students) e ∙ last_pass

      some_pass : (n : ℕ) → passes_from 0 (n + 1) ≡ [] → ⊥
      some_pass n e = let long : length (passes_from 0 (n + 1)) ≡ 0 = ap length e in let more = passes_long 0 (n + 1) in omega arith
