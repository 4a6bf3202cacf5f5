-- What the posted bundles decide.
use Rattle.std.proofs.Common.{ℕ, zero, suc, ◌≡◌, ◌≤◌, ◌<◌, ◌+◌, ◌||◌, ◌∙◌, Bool, true, false, List, [], ◌∷◌, Some, None, Option, length, refl, ap, sym, subst, arith, slice_index_or, nat_lt, nat_le, cond, inl, inr, if◌then◌else◌}
use Rattle.std.specs.Prelude.{IsSome, is_none}
use Rattle.std.specs.List.{count_by}
use Rattle.std.proofs.lemmas.Bool.{cases_Bool, cases_lt, eq-eqb, eqb-true, false≢true, le-leb, lt-ltb, or_left, or_right}
use Rattle.std.proofs.lemmas.Bool.Decides.{nat_tests}
use Rattle.std.proofs.lemmas.List.{get_or-map, get_or_past, length-map}
use Rattle.std.proofs.lemmas.List.Sums.{sum_by-cons, get_or-le-sum_by}
use Rattle.bundle_rules.specs.declared.bundle.Bundle.{Bundle}
use Rattle.bundle_rules.specs.Bundles.{sections_of}
use Rattle.market_units.specs.Members.{has}
use Rattle.demand_api.specs.Crowds.{demands, holders}
use Rattle.task_board.specs.declared.mark.Mark.{Mark}
use Rattle.task_board.specs.declared.mark.Mark.TheVariants.{Open}
use Rattle.task_board.specs.Kept.{AreRight, AreSettled as AreTasksSettled}
use Rattle.task_board.specs.Marks.{mark_at, answer_in, answers_in}
use Rattle.price_board.specs.declared.round.Ask.{Ask}
use Rattle.price_board.specs.declared.round.Ask.TheVariants.{Counts, Exceeds}
use Rattle.price_board.specs.declared.round.Task.{Task}
use Rattle.price_board.specs.declared.tally.Tally.{Tally}
use Rattle.price_board.specs.declared.terms.Terms.{Terms}
use Rattle.price_board.specs.Asked.{rules_in}
use Rattle.price_board.specs.Closings.{AreSettledIn, exceeds_at, exceeds_of}
use Rattle.price_board.specs.Lasting.{row-at}
use Rattle.price_board.specs.Rows.{number_of, row_of}
use Rattle.price_board.specs.Settling.{ask_of, count_for, is_settled, is_with, unfilled_in}
use Rattle.price_board.specs.Tallies.{tally_of, exceeds_by, HaveTallied}
use Rattle.price_board.specs.Terms.{student_count, count_in, version_count, prices_of, count_of, demand_of}
use Rattle.price_board.proofs.Numbering.{number-below, version-at, row-length, right_bundle}
use Rattle.demand_api.proofs.Counts.{length-demands}

count-cons : {X : Type 0} (p : X → Bool) (x : X) (xs : List X) → count_by p (x ∷ xs) ≡ cond (p x) 1 0 + count_by p xs
count-cons p x xs = sum_by-cons (λ y. cond (p y) 1 0) x xs

-- ---- rows of which all are posted

some_is : (b : Option Bundle) → IsSome b → is_none b ≡ false
some_is None some = absurd (false≢true some)
some_is (Some bundle) some = refl

none_unfilled : (row : List (Option Bundle)) → ((s : ℕ) (d : Option Bundle) → s < length row → IsSome (slice_index_or row s d)) → unfilled_in row ≡ 0
none_unfilled [] filled = refl
none_unfilled (b ∷ row) filled =
    let here = ap (λ t. let n : ℕ = cond t 1 0 in n) (some_is b (filled zero b (omega arith))) in
    omega (arith, here, count-cons is_none b row, none_unfilled row (λ s d below. filled (suc s) d (omega (arith, below))))

full_settled : (ask : Ask) (row : List (Option Bundle)) → unfilled_in row ≡ 0 → is_settled ask row ≡ true
full_settled Counts row none = eq-eqb (unfilled_in row) 0 none
full_settled (Exceeds section limit) row none =
    let c : ℕ = count_for (Exceeds section limit) row in
    let u : ℕ = unfilled_in row in
    elim (cases_lt limit c) [
      | inl over ↦ or_left (nat_lt limit c) (nat_le (c + u) limit) (lt-ltb limit c over)
      | inr under ↦ or_right (nat_lt limit c) (nat_le (c + u) limit) (le-leb (c + u) limit (omega (arith, under, none)))
    ]

module _ (terms : Terms) (marks : List (Mark Bundle)) (each : length marks ≡ count_in None terms) where
  each_answer : length (answers_in marks) ≡ count_in None terms
  each_answer = length-map marks answer_in ∙ each

  -- what was posted for a student
  pub answer_there : (v s : ℕ) (d : Option Bundle) → v < version_count terms → s < student_count terms
      → slice_index_or (row_of terms (answers_in marks) v) s d ≡ answer_in (mark_at marks (number_of terms v s))
  answer_there v s d low within =
      row-at terms (answers_in marks) v s d within
      ∙ get_or-map answer_in marks (number_of terms v s) Open d (subst (λ n. number_of terms v s < n) (sym each) (number-below terms v s low within))

  -- where each task is answered or of a settled version, each version is settled
  pub all_settled : AreTasksSettled (rules_in None) terms marks → AreSettledIn None terms marks
  all_settled settled v low =
      let row : List (Option Bundle) = row_of terms (answers_in marks) v in
      let long : length row ≡ student_count terms = row-length terms (answers_in marks) v each_answer low in
      elim (cases_Bool (is_settled (ask_of terms.asks v) row)) [
        | inl settled_there ↦ settled_there
        | inr more ↦
            full_settled (ask_of terms.asks v) row
            (none_unfilled row (λ s d below.
            let within : s < student_count terms = omega (arith, below, long) in
            subst (λ (b : Option Bundle). IsSome b) (sym (answer_there v s d low within))
            (elim (settled (number_of terms v s) (number-below terms v s low within)) [
              | inl some ↦ some
              | inr over ↦
                  let at_version : is_settled (ask_of terms.asks v) row ≡ true =
                  subst (λ w. is_settled (ask_of terms.asks w) (row_of terms (answers_in marks) w) ≡ true) (version-at terms v s within) over in
                  absurd (false≢true (sym more ∙ at_version))
            ])))
      ]

  -- each student of a `Counts` version is answered
  pub counts_filled : AreSettledIn None terms marks → (v s : ℕ) → v < version_count terms → s < student_count terms → ask_of terms.asks v ≡ Counts
      → IsSome (answer_in (mark_at marks (number_of terms v s)))
  counts_filled settled v s low within counts =
      let row : List (Option Bundle) = row_of terms (answers_in marks) v in
      let none : unfilled_in row ≡ 0 = eqb-true (unfilled_in row) 0 (subst (λ a. is_settled a row ≡ true) counts (settled v low)) in
      let inside : s < length row = omega (arith, within, row-length terms (answers_in marks) v each_answer low) in
      subst (λ (b : Option Bundle). IsSome b) (answer_there v s None low within)
      (some_of (slice_index_or row s None) (unfilled_in row) none (get_or-le-sum_by (λ (b : Option Bundle). cond (is_none b) 1 0) row s None inside))
    where
      some_of : (b : Option Bundle) (u : ℕ) → u ≡ 0 → cond (is_none b) 1 0 ≤ u → IsSome b
      some_of None u none one = absurd (omega (arith, one))
      some_of (Some bundle) u none one = refl

-- where each task is answered or of a settled version, each version is settled, or each task of the list answered
pub settled_in : (list : Option (List Task)) (terms : Terms) (marks : List (Mark Bundle)) → length marks ≡ count_in list terms
    → AreTasksSettled (rules_in list) terms marks → AreSettledIn list terms marks
settled_in None terms marks each settled = all_settled terms marks each settled
settled_in (Some list) terms marks each settled = λ number low. elim (settled number low) [ inl some ↦ some | inr over ↦ absurd (false≢true over) ]

-- each task of a list is answered
pub listed_filled : (list : Option (List Task)) (terms : Terms) (marks : List (Mark Bundle)) → IsSome list → AreSettledIn list terms marks → (number : ℕ)
    → number < count_in list terms → IsSome (answer_in (mark_at marks number))
listed_filled None terms marks some settled number low = absurd (false≢true some)
listed_filled (Some list) terms marks some settled number low = settled number low

-- ---- what the posted bundles with the section decide

-- what a posted bundle tells of one student's demand
one_between : (section : ℕ) (b : Option Bundle) (sections : List ℕ) → ((c : Bundle) → b ≡ Some c → sections_of c ≡ sections)
    → (cond (is_with section b) 1 0 ≤ (if has sections section then 1 else 0))
    × ((if has sections section then 1 else 0) ≤ cond (is_with section b) 1 0 + cond (is_none b) 1 0)
one_between section None sections right = elim (cases_Bool (has sections section)) [
  | inl it ↦ rw it (omega arith)
  | inr other ↦ rw other (omega arith)
]
one_between section (Some c) sections right =
    let x : ℕ = if has (sections_of c) section then 1 else 0 in
    subst (λ l. (x ≤ (if has l section then 1 else 0)) × ((if has l section then 1 else 0) ≤ x + 0)) (right c refl) (omega arith)

-- how many take the section is between the posted bundles with it and these with those of whom none is posted
between : (section : ℕ) (row : List (Option Bundle)) (list : List (List ℕ)) → length row ≡ length list
    → ((s : ℕ) (b : Bundle) → slice_index_or row s None ≡ Some b → sections_of b ≡ slice_index_or list s [])
    → (count_by (is_with section) row ≤ holders section list) × (holders section list ≤ count_by (is_with section) row + unfilled_in row)
between section [] [] same right = omega arith
between section [] (sections ∷ list) same right = absurd (omega (arith, same))
between section (b ∷ row) [] same right = absurd (omega (arith, same))
between section (b ∷ row) (sections ∷ list) same right =
    let rest = between section row list (omega (arith, same)) (λ s c is. right (suc s) c is) in
    let first = one_between section b sections (λ c is. right zero c is) in
    omega (arith, rest.0, rest.1, first.0, first.1, count-cons (is_with section) b row, count-cons is_none b row)

decided : (limit h g c : ℕ) → (nat_lt limit h || nat_le (h + g) limit) ≡ true → h ≤ c → c ≤ h + g → nat_lt limit h ≡ nat_lt limit c
decided limit h g c settled low high = grind (arith, nat_tests)

module _ (terms : Terms) (marks : List (Mark Bundle)) (each : length marks ≡ count_in None terms) (right : AreRight (rules_in None) terms marks)
    (settled : AreSettledIn None terms marks) where
  -- past the last student of a row nothing is posted
  posted_right : (v s : ℕ) (bundle : Bundle) → v < version_count terms → slice_index_or (row_of terms (answers_in marks) v) s None ≡ Some bundle
      → sections_of bundle ≡ demand_of terms v s
  posted_right v s bundle low is =
      elim (cases_lt s (student_count terms)) [
        | inl within ↦
            right_bundle terms v s bundle within
            (right (number_of terms v s) bundle (sym (answer_there terms marks each v s None low within) ∙ is))
        | inr past ↦
            let row : List (Option Bundle) = row_of terms (answers_in marks) v in
            let beyond : length row ≤ s = omega (arith, past, row-length terms (answers_in marks) v (each_answer terms marks each) low) in
            let none : None ≡ Some bundle = sym (get_or_past row s None beyond) ∙ is in cc
      ]

  decides : (v : ℕ) (ask : Ask) → v < version_count terms → is_settled ask (row_of terms (answers_in marks) v) ≡ true
      → exceeds_by ask (tally_of ask (row_of terms (answers_in marks) v)) ≡ exceeds_at terms v ask
  decides v Counts low is = refl
  decides v (Exceeds section limit) low is =
      let row : List (Option Bundle) = row_of terms (answers_in marks) v in
      let both =
      between section.0 row (demands terms.crowd (prices_of terms v))
      (row-length terms (answers_in marks) v (each_answer terms marks each) low ∙ sym (length-demands terms.crowd (prices_of terms v)))
      (λ s b there. posted_right v s b low there) in
      ap Some (decided limit (count_by (is_with section.0) row) (unfilled_in row) (count_of terms v section.0) is both.0 both.1)

  -- what the tallies say is what the crowd's demand says
  pub exceeds_right : (tallies : List Tally) (v : ℕ) (result : Option Bool) → HaveTallied terms tallies (answers_in marks)
      → length terms.asks ≡ version_count terms → (length tallies ≤ v → result ≡ None)
      → ((d : Tally) → v < length tallies → result ≡ exceeds_by (ask_of terms.asks v) (slice_index_or tallies v d)) → result ≡ exceeds_of terms v
  exceeds_right tallies v result have asked none some = elim (cases_lt v (version_count terms)) [
    | inl low ↦
        some (tally_of (ask_of terms.asks v) (row_of terms (answers_in marks) v)) (omega (arith, low, have.each))
        ∙ ap (exceeds_by (ask_of terms.asks v)) (have.tallied v _ low) ∙ decides v (ask_of terms.asks v) low (settled v low)
    | inr past ↦
        let counts : ask_of terms.asks v ≡ Counts = get_or_past terms.asks v Counts (omega (arith, past, asked)) in
        none (omega (arith, past, have.each)) ∙ sym (ap (exceeds_at terms v) counts)
  ]
