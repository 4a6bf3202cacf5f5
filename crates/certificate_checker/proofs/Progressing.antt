-- How far the passes come by one more turn.
use Rattle.std.proofs.Common.{ℕ, ◌≡◌, ◌<◌, ◌≤◌, ◌+◌, ◌*◌, ◌∙◌, Bool, true, false, ◌||◌, add-one, ap, sym, subst, inl, inr, arith}
use Rattle.std.proofs.Math.Nat.{mul-le-mul_right, suc-mul}
use Rattle.std.proofs.lemmas.Bool.{cases_Bool, cases_lt, false≢true, or_parts}
use Rattle.market_certificate.specs.Publications.{Publication}
use Rattle.certificate_checker.specs.declared.progress.Progress.{Progress}
use Rattle.certificate_checker.specs.Parts.{IsProgress, MadeChange}
use Rattle.certificate_checker.specs.Turns.{HasQuietPass, IsQuietPass, IsQuietTurn}

-- one pass more
pub next_pass : (pass students : ℕ) → (pass + 1) * students ≡ pass * students + students
next_pass pass students = ap (λ n. n * students) (add-one pass) ∙ suc-mul pass students

abbrev pub progress_at : ℕ → ℕ → Bool → Bool → Progress
progress_at pass place changed over = record { pass = pass; place = place; changed = changed; over = over }

-- a pass that is whole after the first turns is whole after more
pub quiet_later : (students : ℕ) (p : Publication) (turns more : ℕ) → turns ≤ more → HasQuietPass students p turns → HasQuietPass students p more
quiet_later students p turns more far quiet = record { pass = quiet.pass; whole = (let whole = quiet.whole in omega arith); quiet = quiet.quiet }

pub progress_start : (students : ℕ) (p : Publication) → IsProgress students p 0 (progress_at 0 0 false false)
progress_start students p = record {
  number = omega arith;
  passes = omega arith;
  in_pass = λ some. some;
  changed = λ e. absurd (false≢true e);
  same = λ _ place low. absurd (omega arith);
  is_over = λ e. absurd (false≢true e);
  goes_on = λ some _ quiet.
      let long : (quiet.pass + 1) * students ≡ quiet.pass * students + students = next_pass quiet.pass students in
      let whole = quiet.whole in
      omega arith;
}

-- what is whole after one turn more and was not so before ends with this turn
whole_before : (pass students place other turns : ℕ) → turns ≡ pass * students + place → place + 1 < students → (other + 1) * students ≤ turns + 1
    → (other + 1) * students ≤ turns
whole_before pass students place other turns number inside whole =
    elim (cases_lt other pass) [
      | inl low ↦
          let far : (other + 1) * students ≤ pass * students = mul-le-mul_right students (let h = low in omega arith) in
          omega arith
      | inr high ↦
          let far : (pass + 1) * students ≤ (other + 1) * students = mul-le-mul_right students (let h = high in omega arith) in
          let long : (pass + 1) * students ≡ pass * students + students = next_pass pass students in
          absurd (omega arith)
    ]

-- one of the two made the change
moved_by : (a b : Bool) → a ≡ false → (a || b) ≡ true → b ≡ true
moved_by true b e h = absurd (false≢true (sym e))
moved_by false b e h = h

-- a turn within a pass
pub progress_within : (students : ℕ) (p : Publication) (turns : ℕ) (progress : Progress) (moved : Bool) → IsProgress students p turns progress
    → progress.over ≡ false → progress.place + 1 < students → MadeChange p turns moved
    → IsProgress students p (turns + 1) (progress_at progress.pass (progress.place + 1) (progress.changed || moved) false)
progress_within students p turns progress moved is goes inside made = record {
  number = let number = is.number in omega arith;
  passes = let passes = is.passes in omega arith;
  in_pass = λ some. inside;
  changed = λ e. elim (cases_Bool progress.changed) [
    | inl did ↦ let earlier = is.changed did in (earlier.0, (let low = earlier.1 in omega arith), earlier.2)
    | inr not ↦ (progress.place, omega arith, subst (λ n. ¬ IsQuietTurn p n) is.number (made.changed (moved_by progress.changed moved not e)))
  ];
  same = λ e place low. elim (cases_lt place progress.place) [
    | inl earlier ↦ is.same (or_parts progress.changed moved e).0 place earlier
    | inr here ↦
        let at : progress.place ≡ place = (let h = here in omega arith) in
        subst (λ n. IsQuietTurn p (progress.pass * students + n)) at (subst (IsQuietTurn p) is.number (made.same (or_parts progress.changed moved e).1))
  ];
  is_over = λ e. absurd (false≢true e);
  goes_on = λ some _ quiet. is.goes_on some goes (record {
    pass = quiet.pass;
    whole = whole_before progress.pass students progress.place quiet.pass turns is.number inside quiet.whole;
    quiet = quiet.quiet;
  });
}

-- the last turn of a pass
pub progress_last : (students : ℕ) (p : Publication) (turns : ℕ) (progress : Progress) (moved over : Bool) → IsProgress students p turns progress
    → progress.over ≡ false → progress.place + 1 ≡ students → MadeChange p turns moved
    → (over ≡ true → (progress.changed || moved) ≡ false) → (over ≡ false → (progress.changed || moved) ≡ true)
    → IsProgress students p (turns + 1) (progress_at (progress.pass + 1) 0 false over)
progress_last students p turns progress moved over is goes last made ended goes_more = record {
  number = let number = is.number in omega arith;
  passes = let passes = is.passes in omega arith;
  in_pass = λ some. some;
  changed = λ e. absurd (false≢true e);
  same = λ _ place low. absurd (omega arith);
  is_over = λ e. record {
    pass = progress.pass;
    whole = let number = is.number in omega arith;
    quiet = λ place low. all_quiet (ended e) place low;
  };
  goes_on = λ some e quiet. elim (cases_lt quiet.pass progress.pass) [
    | inl low ↦ is.goes_on some goes (record {
      pass = quiet.pass;
      whole =
          let far : (quiet.pass + 1) * students ≤ progress.pass * students = mul-le-mul_right students (let h = low in omega arith) in
          let number = is.number in
          omega arith;
      quiet = quiet.quiet;
    })
    | inr high ↦ same_pass (goes_more e) quiet high
  ];
}
  where
    long : (progress.pass + 1) * students ≡ progress.pass * students + students
    long = next_pass progress.pass students

    here : turns ≡ progress.pass * students + progress.place
    here = is.number

    all_quiet : (progress.changed || moved) ≡ false → (place : ℕ) → place < students → IsQuietTurn p (progress.pass * students + place)
    all_quiet e place low = elim (cases_lt place progress.place) [
      | inl earlier ↦ is.same (or_parts progress.changed moved e).0 place earlier
      | inr after ↦
          let at : progress.place ≡ place = (let h = after in omega arith) in
          subst (λ n. IsQuietTurn p (progress.pass * students + n)) at (subst (IsQuietTurn p) here (made.same (or_parts progress.changed moved e).1))
    ]

    -- a pass that is whole by now and no earlier one is this one
    this_pass : (pass : ℕ) → (pass + 1) * students ≤ turns + 1 → progress.pass ≤ pass → pass ≡ progress.pass
    this_pass pass whole high = elim (cases_lt progress.pass pass) [
      | inl above ↦
          let far : (progress.pass + 1) * students ≤ pass * students = mul-le-mul_right students (let h = above in omega arith) in
          let more : (pass + 1) * students ≡ pass * students + students = next_pass pass students in
          absurd (omega arith)
      | inr not ↦ let h = not in omega arith
    ]

    same_pass : (progress.changed || moved) ≡ true → (quiet : HasQuietPass students p (turns + 1)) → progress.pass ≤ quiet.pass → ⊥
    same_pass e quiet high =
        let is_this : quiet.pass ≡ progress.pass = this_pass quiet.pass quiet.whole high in
        let each : IsQuietPass students p progress.pass = subst (IsQuietPass students p) is_this quiet.quiet in
        elim (cases_Bool progress.changed) [
          | inl did ↦ let earlier = is.changed did in earlier.2 (each earlier.0 (let low = earlier.1 in omega arith))
          | inr not ↦ made.changed (moved_by progress.changed moved not e) (subst (IsQuietTurn p) (sym here) (each progress.place (omega arith)))
        ]
