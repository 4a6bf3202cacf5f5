-- Tallies as bundles are posted.
use Rattle.std.proofs.Common.{ℕ, ◌≡◌, ◌<◌, ◌≤◌, ◌+◌, ◌-◌, ◌*◌, ◌∙◌, Bool, false, List, length, Option, Some, None, replicate, take, drop, refl, sym, ap, subst, arith, slice_index_or, slice_set, cond, inl, inr}
use Rattle.std.specs.Prelude.{is_none}
use Rattle.std.proofs.lemmas.Bool.{cases_eq}
use Rattle.std.proofs.lemmas.List.{take-replicate, drop-replicate, get_or-replicate, get_or-map, get_or-set_same, get_or-set_other, length-set, length-replicate, length-take}
use Rattle.std.proofs.lemmas.List.Folds.{sum_by-replicate}
use Rattle.std.proofs.lemmas.List.Sums.{count_by-le-length}
use Rattle.bundle_rules.specs.declared.bundle.Bundle.{Bundle}
use Rattle.task_board.specs.declared.mark.Mark.{Mark}
use Rattle.task_board.specs.declared.mark.Mark.TheVariants.{Open}
use Rattle.task_board.specs.Marks.{mark_at, answer_in, answers_in}
use Rattle.task_board.specs.Openings.{no_answers}
use Rattle.price_board.specs.declared.round.Ask.{Ask}
use Rattle.price_board.specs.declared.round.Ask.TheVariants.{Counts, Exceeds}
use Rattle.price_board.specs.declared.round.Task.{Task}
use Rattle.price_board.specs.declared.tally.Tally.{Tally}
use Rattle.price_board.specs.declared.terms.Terms.{Terms}
use Rattle.price_board.specs.Asked.{asked_of, counted, rules_in, is_over, version_at, student_at}
use Rattle.price_board.specs.Lasting.{number-is, row-at, row-set, row-other, unfilled-posted, count-posted}
use Rattle.price_board.specs.Rows.{number_of, row_of}
use Rattle.price_board.specs.Settling.{ask_of, count_for, is_asked, is_decided, unfilled_in}
use Rattle.price_board.specs.Tallies.{tally_of, AreNoted, HaveTallied}
use Rattle.price_board.specs.Terms.{student_count, count_in, task_count, version_count}
use Rattle.price_board.proofs.Numbering.{row_end}

tally-is : (u v m n : ℕ) → u ≡ v → m ≡ n → record { unfilled = u; count = m } ≡ (let t : Tally = record { unfilled = v; count = n } in t)
tally-is u v m n a b = λ i. record { unfilled = a i; count = b i }

-- the tally after one more bundle
posted_tally : (ask : Ask) (row : List (Option Bundle)) (s : ℕ) (bundle : Bundle) → slice_index_or row s (Some bundle) ≡ None
    → tally_of ask (slice_set row s (Some bundle))
    ≡ record { unfilled = unfilled_in row - 1; count = count_for ask row + cond (is_asked ask (Some bundle)) 1 0 }
posted_tally ask row s bundle none =
    tally-is (unfilled_in (slice_set row s (Some bundle))) (unfilled_in row - 1) (count_for ask (slice_set row s (Some bundle)))
    (count_for ask row + cond (is_asked ask (Some bundle)) 1 0) (omega (arith, unfilled-posted row s bundle none)) (count-posted row s bundle none ask)

module _ (terms : Terms) (tallies : List Tally) (answers : List (Option Bundle)) (have : HaveTallied terms tallies answers) where
  -- a tally is small
  pub tally_small : (v : ℕ) (tally : Tally) → v < version_count terms → tally ≡ slice_index_or tallies v tally
      → (tally.unfilled ≤ student_count terms) × (tally.count ≤ student_count terms)
  tally_small v tally low is =
      let same = is ∙ have.tallied v tally low in
      let ask = ask_of terms.asks v in
      let row = row_of terms answers v in
      let short : length row ≤ student_count terms = omega (arith, length-take (student_count terms) (drop (v * student_count terms) answers)) in (
        omega (arith, ap (λ (t : Tally). t.unfilled) same, count_by-le-length is_none row, short),
        omega (arith, ap (λ (t : Tally). t.count) same, count_by-le-length (is_asked ask) row, short),
      )

  module _ (task : ℕ) (bundle : Bundle) (below : task < count_in None terms) (none : slice_index_or answers task (Some bundle) ≡ None) where
    abbrev v : ℕ
    v = version_at terms task

    abbrev s : ℕ
    s = student_at terms task

    here : slice_index_or (row_of terms answers v) s (Some bundle) ≡ None
    here =
        let place = number-is terms task below in
        row-at terms answers (version_at terms task) (student_at terms task) (Some bundle) place.0 ∙ ap (λ k. slice_index_or answers k (Some bundle)) place.1
        ∙ none

    -- somebody is still to be posted
    pub some_unfilled : 1 ≤ unfilled_in (row_of terms answers v)
    some_unfilled = omega (arith, unfilled-posted (row_of terms answers v) s bundle here)

    pub noted : (tally new : Tally) → version_at terms task < version_count terms → tally ≡ slice_index_or tallies (version_at terms task) tally
        → new
        ≡ record { unfilled = tally.unfilled - 1; count = tally.count + cond (is_asked (ask_of terms.asks (version_at terms task)) (Some bundle)) 1 0 }
        → HaveTallied terms (slice_set tallies (version_at terms task) new) (slice_set answers task (Some bundle))
    noted tally new low is put =
        let w : ℕ = version_at terms task in
        let t : ℕ = student_at terms task in
        let place = number-is terms task below in
        let ask = ask_of terms.asks w in
        let after : List (Option Bundle) = slice_set answers (number_of terms w t) (Some bundle) in
        let was : tally ≡ tally_of ask (row_of terms answers w) = is ∙ have.tallied w tally low in
        let now : new ≡ tally_of ask (row_of terms after w) =
        put ∙ (λ i. record { unfilled = (was i).unfilled - 1; count = (was i).count + cond (is_asked ask (Some bundle)) 1 0 })
        ∙ sym (posted_tally ask (row_of terms answers w) t bundle here) ∙ ap (tally_of ask) (sym (row-set terms answers w t (Some bundle) place.0)) in
        let all : HaveTallied terms (slice_set tallies w new) after = record {
          each = length-set tallies w new ∙ have.each;
          tallied = λ x d within. elim (cases_eq x w) [
            | inl same ↦
                subst (λ k. slice_index_or (slice_set tallies w new) k d ≡ tally_of (ask_of terms.asks k) (row_of terms after k)) (sym same)
                (get_or-set_same tallies w new d (subst (λ n. w < n) (sym have.each) low) ∙ now)
            | inr apart ↦
                get_or-set_other tallies w x new d apart ∙ have.tallied x d within
                ∙ ap (tally_of (ask_of terms.asks x)) (sym (row-other terms answers w x t (Some bundle) place.0 apart))
          ];
        } in
        subst (λ k. HaveTallied terms (slice_set tallies w new) (slice_set answers k (Some bundle))) place.1 all

-- nothing is posted at first
pub nothing_tallied : (terms : Terms) (tallies : List Tally) → tallies ≡ replicate (version_count terms) (record { unfilled = student_count terms; count = 0 })
    → HaveTallied terms tallies (no_answers (rules_in None) terms)
nothing_tallied terms tallies are = record {
  each = ap length are ∙ length-replicate (version_count terms) _;
  tallied = λ v d low.
      let n : ℕ = student_count terms in
      let row : row_of terms (no_answers (rules_in None) terms) v ≡ replicate n None =
      ap (take n) (drop-replicate (v * n) (count_in None terms) None)
      ∙ take-replicate n (count_in None terms - v * n) None (omega (arith, row_end v (version_count terms) n low)) in
      let unfilled : unfilled_in (replicate n None) ≡ n = omega (arith, sum_by-replicate (λ (o : Option Bundle). cond (is_none o) 1 0) n None) in
      ap (λ l. slice_index_or l v d) are ∙ get_or-replicate (version_count terms) v _ d low
      ∙ tally-is n (unfilled_in (replicate n None)) 0 (count_for (ask_of terms.asks v) (replicate n None)) (sym unfilled)
      (sym (none_counted (ask_of terms.asks v) n))
      ∙ ap (tally_of (ask_of terms.asks v)) (sym row);
}
  where
    none_counted : (ask : Ask) (n : ℕ) → count_for ask (replicate n None) ≡ 0
    none_counted Counts n = omega (arith, sum_by-replicate (λ (o : Option Bundle). cond (is_asked Counts o) 1 0) n None)
    none_counted (Exceeds section limit) n = omega (arith, sum_by-replicate (λ (o : Option Bundle). cond (is_asked (Exceeds section limit) o) 1 0) n None)

-- what of an answer to what is asked is the version, and what is the ask
abbrev version_in : Option (ℕ × Ask) → ℕ
version_in None = 0
version_in (Some asked) = asked.0

abbrev ask_in : Ask → Option (ℕ × Ask) → Ask
ask_in other None = other
ask_in other (Some asked) = asked.1

-- of a list nothing is tallied
pub fresh_in : (list : Option (List Task)) (terms : Terms) (tallies : List Tally)
    → (list ≡ None → tallies ≡ replicate (version_count terms) (record { unfilled = student_count terms; count = 0 }))
    → AreNoted list terms tallies (no_answers (rules_in list) terms)
fresh_in None terms tallies are = nothing_tallied terms tallies (are refl)
fresh_in (Some list) terms tallies are = tt

-- ---- a task whose version's tally and ask were read

module _ (terms : Terms) (tallies : List Tally) (answers : List (Option Bundle)) (task v : ℕ) (tally : Tally) (ask : Ask)
    (low : v < length tallies) (is : tally ≡ slice_index_or tallies v tally) where
  -- they say whether the task is over
  pub over_found : (list : Option (List Task)) (found : Bool) → AreNoted list terms tallies answers → Some (v, ask) ≡ asked_of list terms task
      → found ≡ is_decided ask tally.unfilled tally.count → found ≡ is_over list terms answers task
  over_found None found have at told =
      let at_version : v ≡ version_at terms task = ap version_in at in
      let ask_there : ask ≡ ask_of terms.asks (version_at terms task) = ap (ask_in ask) at in
      let now : tally ≡ tally_of (ask_of terms.asks v) (row_of terms answers v) = is ∙ have.tallied v tally (subst (λ n. v < n) have.each low) in
      told ∙ ap (λ (t : Tally). is_decided ask t.unfilled t.count) now ∙ (λ i. is_decided (ask_there i) (unfilled_in (row_of terms answers (at_version i))) (count_for (ask_of terms.asks (at_version i)) (row_of terms answers (at_version i))))
  over_found (Some list) found have at told = cc

  -- they say what is told of it
  pub count_found : (list : Option (List Task)) → AreNoted list terms tallies answers → Some (v, ask) ≡ asked_of list terms task
      → tally.count ≡ counted list terms answers task
  count_found None have at =
      let at_version : v ≡ version_at terms task = ap version_in at in
      ap (λ (t : Tally). t.count) (is ∙ have.tallied v tally (subst (λ n. v < n) have.each low))
      ∙ ap (λ n. count_for (ask_of terms.asks n) (row_of terms answers n)) at_version
  count_found (Some list) have at = cc

  module _ (bundle : Bundle) (none : slice_index_or answers task (Some bundle) ≡ None) where
    -- some student of the version is still to be posted, and of the others some have the section
    pub may_note : (list : Option (List Task)) → AreNoted list terms tallies answers → task < count_in list terms → Some (v, ask) ≡ asked_of list terms task
        → (1 ≤ tally.unfilled) × (tally.count ≤ student_count terms)
    may_note None have below at =
        let at_version : v ≡ version_at terms task = ap version_in at in
        let inside : v < version_count terms = subst (λ n. v < n) have.each low in
        let some : 1 ≤ unfilled_in (row_of terms answers (version_at terms task)) = some_unfilled terms tallies answers have task bundle below none in (
          subst (λ n. 1 ≤ n)
              (sym
              (ap (λ (t : Tally). t.unfilled) (is ∙ have.tallied v tally inside) ∙ ap (λ n. unfilled_in (row_of terms answers n)) at_version))
              some,
          (tally_small terms tallies answers have v tally inside is).1,
        )
    may_note (Some list) have below at = cc

    -- the tallies with the noted one
    pub noted_there : (list : Option (List Task)) (new : Tally) → AreNoted list terms tallies answers → task < count_in list terms
        → Some (v, ask) ≡ asked_of list terms task
        → new ≡ record { unfilled = tally.unfilled - 1; count = tally.count + cond (is_asked ask (Some bundle)) 1 0 }
        → AreNoted list terms (slice_set tallies v new) (slice_set answers task (Some bundle))
    noted_there None new have below at put =
        let at_version : v ≡ version_at terms task = ap version_in at in
        let ask_there : ask ≡ ask_of terms.asks (version_at terms task) = ap (ask_in ask) at in
        let inside : v < version_count terms = subst (λ n. v < n) have.each low in
        subst (λ n. HaveTallied terms (slice_set tallies n new) (slice_set answers task (Some bundle))) (sym at_version)
        (noted terms tallies answers have task bundle below none tally new (subst (λ n. n < version_count terms) at_version inside)
        (is ∙ ap (λ n. slice_index_or tallies n tally) at_version)
        (put ∙ ap (λ (a : Ask). record { unfilled = tally.unfilled - 1; count = tally.count + cond (is_asked a (Some bundle)) 1 0 }) ask_there))
    noted_there (Some list) new have below at put = tt

-- nothing is noted of a list's task
pub kept_there : (list : Option (List Task)) (terms : Terms) (tallies : List Tally) (answers : List (Option Bundle)) (task : ℕ) (bundle : Bundle)
    → None ≡ asked_of list terms task → AreNoted list terms tallies (slice_set answers task (Some bundle))
kept_there None terms tallies answers task bundle at = cc
kept_there (Some list) terms tallies answers task bundle at = tt

-- such a task is not over, and nothing is told of it
pub listed_left : (list : Option (List Task)) (terms : Terms) (answers : List (Option Bundle)) (task : ℕ) → None ≡ asked_of list terms task
    → (false ≡ is_over list terms answers task) × (0 ≡ counted list terms answers task)
listed_left None terms answers task at = cc
listed_left (Some list) terms answers task at = (refl, refl)

-- a task of which no answer was posted
pub unanswered_there : (terms : Terms) (marks : List (Mark Bundle)) (task : ℕ) (bundle : Bundle) → length marks ≡ task_count terms
    → task < task_count terms → answer_in (mark_at marks task) ≡ None → slice_index_or (answers_in marks) task (Some bundle) ≡ None
unanswered_there terms marks task bundle each below none =
    get_or-map answer_in marks task Open (Some bundle) (subst (λ n. task < n) (sym each) below) ∙ none
