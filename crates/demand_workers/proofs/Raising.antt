-- Holders of a section whose price is raised, and what stands for each student meanwhile.
use Rattle.std.proofs.Common.{ℕ, suc, ◌≡◌, ◌≢◌, ◌<◌, ◌≤◌, ◌+◌, ◌==◌, ◌∙◌, ◌++◌, false, List, [], ◌∷◌, length, slice_index_or, slice_set, refl, ap, sym, subst, arith, inl, inr}
use Rattle.std.specs.Arc.{arc_value}
use Rattle.std.proofs.lemmas.Bool.{cases_Bool, cases_eq, cases_order, ne_eqb}
use Rattle.std.proofs.lemmas.List.{get_or-set_same, get_or-set_other, length-set}
use Rattle.market_units.specs.declared.units.Tokens.{Tokens}
use Rattle.market_units.specs.Members.{has}
use Rattle.bundle_rules.specs.declared.bundle.Bundle.{Bundle}
use Rattle.bundle_rules.specs.Bundles.{sections_of}
use Rattle.bundle_rules.specs.Demand.{price_in}
use Rattle.demand_api.specs.Crowds.{CrowdData, demand_of}
use Rattle.demand_api.proofs.Halving.{is_raised}
use Rattle.demand_api.proofs.Keeping.{none_falls}
use Rattle.price_board.specs.declared.round.Task.{Task}
use Rattle.demand_workers.specs.declared.remembered.Remembered.{Remembered}
use Rattle.demand_workers.specs.Leaving.{AreLeft, listed}
use Rattle.demand_workers.specs.Remembered.{IsKept}
use Rattle.demand_workers.specs.Surveys.{IsLeftOut}
use Rattle.demand_workers.specs.Views.{crowd_of, price_before}
use Rattle.demand_workers.proofs.HolderSums.{listed-cons}
use Rattle.demand_workers.proofs.HoldersLeave.{takes_now}
use Rattle.demand_workers.proofs.Noting.{lacking_stays}
use Rattle.demand_workers.proofs.Surveying.{left_out_after, left_out_before}

-- no section is cheaper where one price was raised
pub none_cheaper : (prices raised : List Tokens) (s : ℕ) (least : Tokens) → s < length prices → price_in prices s ≤ least.0
    → raised ≡ slice_set prices s least → (t : ℕ) → price_in prices t ≤ price_in raised t
none_cheaper prices raised s least there up written t =
    subst (λ (l : List Tokens). price_in prices t ≤ price_in l t) (sym written)
    (none_falls s (price_in prices) (price_in (slice_set prices s least)) (is_raised prices s least there up) t)

-- the student is none of the holders from this place on
abbrev pub IsPassed : ℕ → ℕ → List (ℕ × ℕ) → Type 0
IsPassed place s hs = (k : ℕ) → place ≤ k → k < length hs → (slice_index_or hs k (0, 0)).1 ≢ s

-- each student that is none of these, and is not asked, takes what stands for it
abbrev pub AreRestKept : CrowdData → List Bundle → List Tokens → ℕ → List (ℕ × ℕ) → List Task → Type 0
AreRestKept crowd bundles prices place hs inquiries =
    (s : ℕ) → s < length bundles → IsPassed place s hs → IsLeftOut 0 0 s inquiries → IsKept crowd prices bundles s

-- who is none of the holders is not listed
none_listed : (s : ℕ) (hs : List (ℕ × ℕ)) → IsPassed 0 s hs → listed s hs ≡ 0
none_listed s [] passed = refl
none_listed s (h ∷ hs) passed =
    let apart : (h.1 == s) ≡ false =
    ne_eqb h.1 s (passed 0 (let goal : 0 ≤ 0 = omega arith in goal) (let goal : 0 < suc (length hs) = omega arith in goal)) in
    let rest : listed s hs ≡ 0 =
    none_listed s hs (λ k from low. passed (suc k) (let goal : 0 ≤ suc k = omega arith in goal) (let goal : suc k < suc (length hs) = omega (arith, low) in goal)) in
    listed-cons s h hs ∙ rw apart (omega (arith, rest))

-- a holder that is another student is passed
passed_before : (place s : ℕ) (hs : List (ℕ × ℕ)) → (slice_index_or hs place (0, 0)).1 ≢ s → IsPassed (place + 1) s hs → IsPassed place s hs
passed_before place s hs apart passed k from low = elim (cases_order k place) [
  | inl here ↦ λ same. apart (sym (ap (λ (j : ℕ). (slice_index_or hs j (0, 0)).1) here) ∙ same)
  | inr (inl less) ↦ absurd (omega (arith, from, less))
  | inr (inr more) ↦ passed k (let goal : place + 1 ≤ k = omega (arith, more) in goal) low
]

-- at first: who does not hold the section takes what is remembered
pub rest_begin : (remembered : Remembered) (raised : List Tokens) (s : ℕ) (least : Tokens) (hs : List (ℕ × ℕ)) (bundles : List Bundle)
    (inquiries : List Task) → s < (arc_value remembered.crowd).sections → price_before remembered s ≤ least.0
    → raised ≡ slice_set remembered.prices.items s least
    → AreLeft (crowd_of remembered) (price_before remembered) s (price_before remembered s) hs → bundles ≡ remembered.bundles.items
    → AreRestKept (crowd_of remembered) bundles raised 0 hs inquiries
rest_begin remembered raised s least hs bundles inquiries within up written left same =
    subst (λ (b : List Bundle). AreRestKept (crowd_of remembered) b raised 0 hs inquiries) (sym same) each
  where
    lacks : (i : ℕ) → IsPassed 0 i hs → has (demand_of (crowd_of remembered) (price_before remembered) i) s ≡ false
    lacks i passed = elim (cases_Bool (has (demand_of (crowd_of remembered) (price_before remembered) i) s)) [
      | inl holds ↦
          let none : listed i hs ≡ 0 = none_listed i hs passed in
          let some : 1 ≤ listed i hs =
          left.others i (takes_now (crowd_of remembered) (price_before remembered) s (price_before remembered s) i refl ∙ holds) in
          absurd (omega (arith, none, some))
      | inr is ↦ is
    ]

    each : AreRestKept (crowd_of remembered) remembered.bundles.items raised 0 hs inquiries
    each i low passed out d =
        let told : sections_of (slice_index_or remembered.bundles.items i d) ≡ demand_of (crowd_of remembered) (price_before remembered) i =
        remembered.taken i d low in
        lacking_stays (arc_value remembered.crowd) remembered.prices.items raised s i least (sections_of (slice_index_or remembered.bundles.items i d))
        (subst (λ n. i < n) remembered.each low) (subst (λ n. s < n) (sym remembered.priced.same) within) up written
        (ap (λ (b : List ℕ). has b s) told ∙ lacks i passed) told

module _ (crowd : CrowdData) (prices : List Tokens) (place : ℕ) (hs : List (ℕ × ℕ)) where
  -- the next holder takes another bundle, which is written
  pub rest_written : (bundles new : List Bundle) (inquiries : List Task) (student : ℕ) (other : Bundle)
      → AreRestKept crowd bundles prices place hs inquiries → new ≡ slice_set bundles student other → student < length bundles
      → (slice_index_or hs place (0, 0)).1 ≡ student → sections_of other ≡ demand_of crowd (price_in prices) student
      → AreRestKept crowd new prices (place + 1) hs inquiries
  rest_written bundles new inquiries student other kept set inside at taken =
      subst (λ (b : List Bundle). AreRestKept crowd b prices (place + 1) hs inquiries) (sym set) each
    where
      each : AreRestKept crowd (slice_set bundles student other) prices (place + 1) hs inquiries
      each s within passed out d = elim (cases_eq s student) [
        | inl here ↦
            ap (λ (j : ℕ). sections_of (slice_index_or (slice_set bundles student other) j d)) here
            ∙ ap sections_of (get_or-set_same bundles student other d inside) ∙ taken ∙ ap (demand_of crowd (price_in prices)) (sym here)
        | inr apart ↦
            ap sections_of (get_or-set_other bundles student s other d apart)
            ∙ kept s (subst (λ n. s < n) (length-set bundles student other) within) (passed_before place s hs (λ same. apart (sym same ∙ at)) passed) out d
      ]

  -- the next holder is asked
  pub rest_asked : (bundles : List Bundle) (inquiries new : List Task) (inquiry : Task) → AreRestKept crowd bundles prices place hs inquiries
      → new ≡ inquiries ++ inquiry ∷ [] → (slice_index_or hs place (0, 0)).1 ≡ inquiry.student.0 → inquiry.version ≡ 0
      → AreRestKept crowd bundles prices (place + 1) hs new
  rest_asked bundles inquiries new inquiry kept more at is s within passed out =
      let all : IsLeftOut 0 0 s (inquiries ++ inquiry ∷ []) = subst (IsLeftOut 0 0 s) more out in
      let last : IsLeftOut 0 0 s (inquiry ∷ []) = left_out_after 0 s inquiries (inquiry ∷ []) all in
      let other : (slice_index_or hs place (0, 0)).1 ≢ s =
      λ same. last 0 (let goal : 0 ≤ 0 = omega arith in goal) (let goal : 0 < length (inquiry ∷ []) = omega arith in goal) is (sym at ∙ same) in
      kept s within (passed_before place s hs other passed) (left_out_before 0 s inquiries (inquiry ∷ []) all)
