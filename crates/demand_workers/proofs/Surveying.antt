-- What a survey of versions settles.
use Rattle.std.proofs.Common.{ℕ, ◌≡◌, ◌≢◌, ◌<◌, ◌≤◌, ◌+◌, ◌∙◌, ◌++◌, Bool, false, List, [], ◌∷◌, None, Some, All, length, slice_index_or, sym, subst, arith, inl, inr}
use Rattle.std.specs.Prelude.{IsTrue}
use Rattle.std.proofs.lemmas.Bool.{cases_lt, cases_order, false≢true}
use Rattle.std.proofs.lemmas.List.{get_or_append_left, get_or-append-add, get_or_past, length-append}
use Rattle.std.proofs.lemmas.List.Elements.{All-push}
use Rattle.market_units.specs.declared.units.SectionNo.{SectionNo}
use Rattle.market_units.specs.declared.units.Tokens.{Tokens}
use Rattle.bundle_rules.specs.declared.bundle.Bundle.{Bundle}
use Rattle.bundle_rules.specs.declared.menu.Rated.{Rated}
use Rattle.demand_api.specs.Crowds.{CrowdData, top}
use Rattle.price_board.specs.declared.round.Task.{Task}
use Rattle.price_board.specs.Tasks.{no_task}
use Rattle.price_board.specs.Tasks.{CanBeRaised, IsTask}
use Rattle.demand_workers.specs.Remembered.{FellWithin, IsKept, NoneIsCheaper}
use Rattle.demand_workers.specs.Surveys.{IsLeftOut, AreOthersKept, IsSurvey}

-- where nothing stands between, no section became cheaper
pub none_between : (places : List Rated) (before after : List Tokens) (first past : ℕ) → FellWithin first past before after → past ≤ first
    → All (λ (rated : Rated). rated.section.0 < length before) places → All (λ (rated : Rated). rated.section.0 < length after) places
    → NoneIsCheaper places before after
none_between places before after first past within empty listed priced i d low =
    let s : ℕ = (slice_index_or places i d).section.0 in
    elim (cases_order s first) [
      | inl same ↦ within.above s (listed i d low) (priced i d low) (omega (arith, same, empty))
      | inr (inl less) ↦ within.below s (listed i d low) (priced i d low) less
      | inr (inr more) ↦ within.above s (listed i d low) (priced i d low) (omega (arith, more, empty))
    ]

-- who is left out of more inquiries is left out of the first of them
pub left_out_before : (v s : ℕ) (first more : List Task) → IsLeftOut 0 v s (first ++ more) → IsLeftOut 0 v s first
left_out_before v s first more left k from low same =
    let there : slice_index_or (first ++ more) k no_task ≡ slice_index_or first k no_task = get_or_append_left first more no_task k low in
    let longer : length (first ++ more) ≡ length first + length more = length-append first more in
    subst (λ (q : Task). q.student.0 ≢ s) there
    (left k from (let goal : k < length (first ++ more) = omega (arith, low, longer) in goal) (subst (λ (q : Task). q.version ≡ v) (sym there) same))

-- and of the later ones
pub left_out_after : (v s : ℕ) (first more : List Task) → IsLeftOut 0 v s (first ++ more) → IsLeftOut 0 v s more
left_out_after v s first more left k from low same =
    let there : slice_index_or (first ++ more) (length first + k) no_task ≡ slice_index_or more k no_task = get_or-append-add first more k no_task in
    let longer : length (first ++ more) ≡ length first + length more = length-append first more in
    subst (λ (q : Task). q.student.0 ≢ s) there
    (left (length first + k) (let goal : 0 ≤ length first + k = omega arith in goal)
    (let goal : length first + k < length (first ++ more) = omega (arith, low, longer) in goal) (subst (λ (q : Task). q.version ≡ v) (sym there) same))

-- who of the first students is not asked at the version takes what is remembered
abbrev pub AreFirstKept : CrowdData → List Bundle → List Tokens → ℕ → ℕ → List Task → Type 0
AreFirstKept crowd bundles prices v n inquiries = (s : ℕ) → s < n → IsLeftOut 0 v s inquiries → IsKept crowd prices bundles s

-- one student more, who takes what is remembered
pub first_kept : (crowd : CrowdData) (bundles : List Bundle) (prices : List Tokens) (v n : ℕ) (inquiries : List Task)
    → AreFirstKept crowd bundles prices v n inquiries → IsKept crowd prices bundles n → AreFirstKept crowd bundles prices v (n + 1) inquiries
first_kept crowd bundles prices v n inquiries kept is s low left = elim (cases_order s n) [
  | inl same ↦ subst (IsKept crowd prices bundles) (sym same) is
  | inr (inl less) ↦ kept s less left
  | inr (inr more) ↦ absurd (omega (arith, low, more))
]

-- one student more, who is asked
pub first_asked : (crowd : CrowdData) (bundles : List Bundle) (prices : List Tokens) (v n : ℕ) (inquiries new : List Task) (inquiry : Task)
    → AreFirstKept crowd bundles prices v n inquiries → new ≡ inquiries ++ inquiry ∷ [] → inquiry.student.0 ≡ n → inquiry.version ≡ v
    → AreFirstKept crowd bundles prices v (n + 1) new
first_asked crowd bundles prices v n inquiries new inquiry kept more is at s low left =
    let all : IsLeftOut 0 v s (inquiries ++ inquiry ∷ []) = subst (IsLeftOut 0 v s) more left in
    let last : IsLeftOut 0 v s (inquiry ∷ []) = left_out_after v s inquiries (inquiry ∷ []) all in
    elim (cases_order s n) [
      | inl same ↦
          absurd (last 0 (let goal : 0 ≤ 0 = omega arith in goal) (let goal : 0 < length (inquiry ∷ []) = omega arith in goal) at (is ∙ sym same))
      | inr (inl less) ↦ kept s less (left_out_before v s inquiries (inquiry ∷ []) all)
      | inr (inr beyond) ↦ absurd (omega (arith, low, beyond))
    ]

-- ---- the rows of the students

-- a student of whom its row says so has a row
pub settled_has_row : (rows : List (List Bool)) (s v : ℕ) → IsTrue (slice_index_or (slice_index_or rows s []) v false) → s < length rows
settled_has_row rows s v holds = elim (cases_lt s (length rows)) [
  | inl low ↦ low
  | inr past ↦
      let none : slice_index_or rows s [] ≡ [] = get_or_past rows s [] past in
      absurd (false≢true (subst (λ (row : List Bool). IsTrue (slice_index_or row v false)) none holds))
]

module _ (crowd : CrowdData) (bundles : List Bundle) (versions : List (List Tokens)) where
  -- one inquiry more
  pub survey_asks : (n : ℕ) (inquiries new : List Task) (inquiry : Task) → IsSurvey crowd bundles versions n inquiries
      → new ≡ inquiries ++ inquiry ∷ [] → IsTask crowd (length versions) inquiry → inquiry.raised ≡ None → IsSurvey crowd bundles versions n new
  survey_asks n inquiries new inquiry is more its plain = record {
    asked = subst (All (IsTask crowd (length versions))) (sym more) (All-push (IsTask crowd (length versions)) inquiries inquiry is.asked its);
    plain = subst (All (λ (q : Task). q.raised ≡ None)) (sym more) (All-push (λ (q : Task). q.raised ≡ None) inquiries inquiry is.plain plain);
    others = λ v low. subst (AreOthersKept crowd bundles (slice_index_or versions v []) v) (sym more)
        (λ s inside left. is.others v low s inside (left_out_before v s inquiries (inquiry ∷ []) left));
  }

  -- one version more
  pub survey_more : (n students : ℕ) (inquiries : List Task) → IsSurvey crowd bundles versions n inquiries
      → AreFirstKept crowd bundles (slice_index_or versions n []) n students inquiries → length bundles ≤ students
      → IsSurvey crowd bundles versions (n + 1) inquiries
  survey_more n students inquiries is here all = record {
    asked = is.asked;
    plain = is.plain;
    others = λ v low. elim (cases_order v n) [
      | inl same ↦
          subst (λ w. AreOthersKept crowd bundles (slice_index_or versions w []) w inquiries) (sym same)
          (λ s inside left. here s (omega (arith, inside, all)) left)
      | inr (inl less) ↦ is.others v less
      | inr (inr more) ↦ absurd (omega (arith, low, more))
    ];
  }

-- who is not asked at the version from this place on takes the bundle that stands for it
abbrev pub AreWritten : CrowdData → List Tokens → ℕ → ℕ → ℕ → List Task → List Bundle → Type 0
AreWritten crowd prices v n place inquiries bundles = (s : ℕ) → s < n → IsLeftOut place v s inquiries → IsKept crowd prices bundles s

-- ---- inquiries with a told price

-- a told price that can be asked
pub can_be_raised : (crowd : CrowdData) (raised : SectionNo × Tokens) → raised.0.0 < crowd.sections → raised.1.0 ≤ top crowd → CanBeRaised crowd (Some raised)
can_be_raised crowd raised low high told is =
    subst (λ (r : SectionNo × Tokens). (r.0.0 < crowd.sections) × (r.1.0 ≤ top crowd)) (let e : raised ≡ told = cc in e) (low, high)
