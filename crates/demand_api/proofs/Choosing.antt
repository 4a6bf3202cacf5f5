-- The items of listed students.
use Rattle.std.proofs.Common.{ℕ, zero, suc, ◌≡◌, ◌<◌, ◌≤◌, ◌+◌, ◌∙◌, List, [], ◌∷◌, ◌++◌, length, take, Some, All, arith, subst, sym}
use Rattle.std.specs.Prelude.{slice_index_or, slice_get}
use Rattle.std.proofs.lemmas.List.{take_more, take_all}
use Rattle.std.proofs.lemmas.List.Elements.{All-cons}
use Rattle.std.proofs.lemmas.Option.{slice_get_read}
use Rattle.std.proofs.lemmas.Slice.Zip.{all_zipped_more, AllZip-long}
use Rattle.market_units.specs.declared.units.StudentNo.{StudentNo}
use Rattle.market_units.specs.declared.units.Tokens.{Tokens}
use Rattle.bundle_rules.specs.Menus.{MenuData}
use Rattle.demand_api.specs.declared.crowd.Crowd.{Crowd}
use Rattle.demand_api.specs.Crowds.{IsCrowd, IsWithin}
use Rattle.demand_api.specs.Parts.{of_parts}
use Rattle.demand_api.specs.Choosing.{AreChosen}
use Rattle.demand_api.proofs.Parts.{parts_whole, budgets_high, menus_within}

pub chosen_more : {A : Type 0} (items : List A) (students : List StudentNo) (i : ℕ) (d : StudentNo) (picked later : List A) (item : A) → i < length students
    → AreChosen items (take i students) picked
    → later ≡ picked ++ item ∷ [] → slice_get items (slice_index_or students i d).0 ≡ Some item → AreChosen items (take (i + 1) students) later
chosen_more {A} items students i d picked later item low all more is =
    rw (more, take_more students i d low)
    (all_zipped_more (λ (student : StudentNo) (one : A). slice_get items student.0 ≡ Some one) (take i students) picked (slice_index_or students i d) item
    all is)

-- the same for an item that is read at the student's place
pub chosen_at : {A : Type 0} (items : List A) (students : List StudentNo) (i : ℕ) (d : StudentNo) (picked later : List A) (item : A) (place : ℕ)
    → i < length students → (n : ℕ) → n ≡ length items → All (λ student. student.0 < n) students
    → AreChosen items (take i students) picked → later ≡ picked ++ item ∷ [] → place ≡ (slice_index_or students i d).0 → item ≡ slice_index_or items place item
    → AreChosen items (take (i + 1) students) later
chosen_at items students i d picked later item place low n size range all more at is =
    let place_low : (slice_index_or students i d).0 < n = range i d low in
    chosen_more items students i d picked later item low all more
    (slice_get_read items n (slice_index_or students i d).0 item size place_low (subst (λ k. item ≡ slice_index_or items k item) at is))

-- what holds of each item holds of one that was read
all_get : {A : Type 0} (P : A → Type 0) (items : List A) (n : ℕ) (item : A) → slice_get items n ≡ Some item → All P items → P item
all_get P [] n item is all = absurd cc
all_get P (x ∷ xs) zero item is all = let e : x ≡ item = cc is in subst P e (all 0 x (omega arith))
all_get P (x ∷ xs) (suc n) item is all = all_get P xs n item is (λ i d low. all (suc i) d (let h : suc i < suc (length xs) = omega arith in h))

pub chosen_all : {A : Type 0} (P : A → Type 0) (items : List A) (students : List StudentNo) (picked : List A) → AreChosen items students picked → All P items
    → All P picked
chosen_all P items [] [] chosen = λ all i d low. absurd (omega arith)
chosen_all P items [] (x ∷ xs) chosen = absurd chosen
chosen_all P items (s ∷ ss) [] chosen = absurd chosen
chosen_all P items (s ∷ ss) (x ∷ xs) chosen = λ all. All-cons P x xs (all_get P items s.0 x chosen.0 all) (chosen_all P items ss xs chosen.1 all)

-- all students were looked at
pub chosen_done : {A : Type 0} (items : List A) (students : List StudentNo) (i : ℕ) (picked : List A) → length students ≤ i
    → AreChosen items (take i students) picked → AreChosen items students picked
chosen_done items students i picked done chosen = rw (take_all i students done) at chosen

-- an item of each kind for each student
pub chosen_same : (menus : List MenuData) (budgets : List Tokens) (students : List StudentNo) (picked : List MenuData) (amounts : List Tokens)
    → AreChosen menus students picked → AreChosen budgets students amounts → length amounts ≡ length picked
chosen_same menus budgets students picked amounts chosen paid =
    AllZip-long (λ (student : StudentNo) (one : Tokens). slice_get budgets student.0 ≡ Some one) students amounts paid
    ∙ sym (AllZip-long (λ (student : StudentNo) (one : MenuData). slice_get menus student.0 ≡ Some one) students picked chosen)

-- the students of a crowd that are chosen are one
pub chosen_whole : (crowd : Crowd) (students : List StudentNo) (picked : List MenuData) (amounts : List Tokens) → length students ≤ 2000
    → AreChosen crowd.menus.items students picked → AreChosen crowd.budgets.items students amounts → IsCrowd (of_parts picked amounts crowd.sections)
chosen_whole crowd students picked amounts few chosen paid =
    let menus = crowd.menus.items in
    let one : length picked ≡ length students =
    AllZip-long (λ (student : StudentNo) (one : MenuData). slice_get menus student.0 ≡ Some one) students picked chosen in
    parts_whole picked amounts crowd.sections (chosen_same menus crowd.budgets.items students picked amounts chosen paid) (omega arith)
    (chosen_all (λ (budget : Tokens). budget.0 ≤ 1000000) crowd.budgets.items students amounts paid (budgets_high crowd))
    crowd.whole.sections
    (chosen_all (IsWithin crowd.sections) menus students picked chosen (menus_within crowd))
