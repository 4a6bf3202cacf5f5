-- Holders of a section whose price rises.
use Rattle.std.proofs.Common.{ℕ, Bool, zero, suc, true, false, ◌≡◌, ◌≢◌, ◌<◌, ◌≤◌, ◌+◌, ◌-◌, ◌==◌, ◌∙◌, List, [], ◌∷◌, ◌++◌, All, Vec, Global, length, take, min, slice_index_or, slice_set, refl, ap, sym, subst, arith, inl, inr}
use Rattle.std.specs.Prelude.{map, slice_index, if◌then◌else◌}
use Rattle.std.specs.List.{sum_by}
use Rattle.std.specs.List.Sorted.{IsPermutation}
use Rattle.std.proofs.lemmas.Bool.{cases_Bool, cases_lt, cases_order, false≢true, ne_eqb}
use Rattle.std.proofs.lemmas.Bool.Decides.{nat_tests}
use Rattle.std.proofs.lemmas.List.{get_or-set_other, get_or-set_same, length-set}
use Rattle.std.proofs.lemmas.List.Elements.{All-append, All-cons, All-nil, All-tail, All-set}
use Rattle.std.proofs.lemmas.List.Sums.{sum_by-cons, sum_by_more, sum_by_push}
use Rattle.market_units.specs.declared.units.SectionNo.{SectionNo}
use Rattle.bundle_rules.specs.Ordinals.{ordinals}
use Rattle.demand_workers.specs.Leaving.{AreListed, takes, leaves, listed, Keeps, AreLeft}
use Rattle.demand_workers.specs.Views.{crowd_of, price_before}
use Rattle.demand_workers.specs.declared.remembered.Remembered.{Remembered}
use Rattle.std.proofs.lemmas.List.Sorted.{All-permutation, IsPermutation-sym, sum_by-IsPermutation, sum_by_popped, sum_by_pushed}
use Rattle.market_units.specs.declared.units.Tokens.{Tokens}
use Rattle.market_units.specs.Totals.{total}
use Rattle.market_units.specs.Members.{has}
use Rattle.bundle_rules.specs.Sets.{IsAscending}
use Rattle.bundle_rules.specs.Demand.{price_in}
use Rattle.bundle_rules.specs.Existence.Orders.{none_below}
use Rattle.demand_api.specs.declared.crowd.Crowd.{Crowd}
use Rattle.demand_api.specs.Asking.{ArePricesFor}
use Rattle.demand_api.specs.Crowds.{Student, CrowdData, greatest_budget, top, demand, demands, demand_of, count}
use Rattle.demand_api.specs.Views.{data_of}
use Rattle.demand_api.specs.Prices.{with_price, IsRaised, IsLeastFrom}
use Rattle.demand_api.proofs.Counts.{taken_falls, demands_by_top}
use Rattle.demand_api.proofs.Halving.{with_here, with_there, with_raised, price_at, price_kept, price_written, tried}
use Rattle.demand_api.proofs.Keeping.{same_cost, none_falls}
use Rattle.demand_api.proofs.Parts.{top_high}
use Rattle.demand_workers.proofs.HolderSums.{one_at, count_at_least, count_at_most}
use Rattle.demand_workers.specs.Notes.{budget_of}
use Rattle.demand_workers.proofs.Recalling.{budget_is, kept_bundle, taken_affordable}
use Rattle.market_units.proofs.Memberships.{member_total}

-- at the same prices a student takes the same
pub demand_same : (crowd : CrowdData) (one other : ℕ → ℕ) (i : ℕ) → ((t : ℕ) → one t ≡ other t) → demand_of crowd one i ≡ demand_of crowd other i
demand_same crowd one other i same = ap (λ ds. slice_index_or ds i []) (demands_by_top crowd one other (λ t. ap (λ p. min p (top crowd)) (same t)))

-- the present price of the section says nothing of what is taken at another one
pub takes_same : (crowd : CrowdData) (one other : ℕ → ℕ) (s p i : ℕ) → ((t : ℕ) → t ≢ s → one t ≡ other t) → takes crowd one s p i ≡ takes crowd other s p i
takes_same crowd one other s p i same = ap (λ bundle. has bundle s) (demand_same crowd (with_price one s p) (with_price other s p) i each)
  where
    each : (t : ℕ) → with_price one s p t ≡ with_price other s p t
    each t = elim (cases_Bool (t == s)) [
      | inl here ↦ rw here refl
      | inr there ↦ let apart : t ≢ s = λ e. grind (arith, nat_tests) in with_there one s p t apart ∙ same t apart ∙ sym (with_there other s p t apart)
    ]

-- who takes the section at a price takes it at a lower one
pub takes_falls : (crowd : CrowdData) (price : ℕ → ℕ) (s p q i : ℕ) → p ≤ q → takes crowd price s q i ≡ true → takes crowd price s p i ≡ true
unfolding demands
takes_falls crowd price s p q i low is = among crowd.students i is
  where
    among : (students : List Student) (k : ℕ) → has (slice_index_or (map (demand crowd.sections (with_price price s q)) students) k []) s ≡ true
        → has (slice_index_or (map (demand crowd.sections (with_price price s p)) students) k []) s ≡ true
    among [] k told = absurd (false≢true told)
    among (x ∷ xs) zero told = elim (cases_Bool (has (demand crowd.sections (with_price price s p) x) s)) [
      | inl still ↦ still
      | inr lacks ↦
          let falls = taken_falls crowd.sections s (with_price price s p) (with_price price s q) (with_raised price s p q low) x in
          let wrong : 1 ≤ 0 = rw (told, lacks) at falls in
          absurd (omega arith)
    ]
    among (x ∷ xs) (suc k) told = among xs k told

-- at the present price
pub takes_now : (crowd : CrowdData) (price : ℕ → ℕ) (s p i : ℕ) → price s ≡ p → takes crowd price s p i ≡ has (demand_of crowd price i) s
takes_now crowd price s p i now = ap (λ bundle. has bundle s) (demand_same crowd (with_price price s p) price i each)
  where
    each : (t : ℕ) → with_price price s p t ≡ price t
    each t = elim (cases_Bool (t == s)) [
      | inl here ↦ let e : t ≡ s = grind (arith, nat_tests) in rw e (with_here price s p ∙ sym now)
      | inr there ↦ with_there price s p t (λ e. grind (arith, nat_tests))
    ]

-- a set costs more by what the section costs more, at most
pub total_raised : (s more : ℕ) (before after : ℕ → ℕ) → IsRaised s before after → after s ≡ before s + more → (ss : List ℕ) → IsAscending ss
    → total after ss ≤ total before ss + more
total_raised s more before after is up [] ascending = omega arith
total_raised s more before after is up (t ∷ ts) ascending = elim (cases_order t s) [
  | inl here ↦
      let e : after t ≡ before t + more = ap after here ∙ up ∙ ap (λ n. before n + more) (sym here) in
      let rest : total after ts ≤ total before ts = same_cost s before after ts is (none_below t ts ascending.0 s (omega arith)) in
      omega arith
  | inr (inl low) ↦
      let e : after t ≡ before t = is.others t (λ same. omega arith) in
      let rest : total after ts ≤ total before ts + more = total_raised s more before after is up ts ascending.1 in
      omega arith
  | inr (inr high) ↦
      let e : after t ≡ before t = is.others t (λ same. omega arith) in
      let rest : total after ts ≤ total before ts + more = total_raised s more before after is up ts ascending.1 in
      omega arith
]

-- a holder takes the section as long as its price is not higher by more than what is left of the budget
holder_keeps : (crowd : CrowdData) (price : ℕ → ℕ) (s more i : ℕ) (bundle : List ℕ) → bundle ≡ demand_of crowd price i → has bundle s ≡ true
    → IsAscending bundle → total price bundle + more ≤ budget_of crowd i → takes crowd price s (price s + more) i ≡ true
holder_keeps crowd price s more i bundle told holds ascending paid =
    let after : ℕ → ℕ = with_price price s (price s + more) in
    let here : after s ≡ price s + more = with_here price s (price s + more) in
    let raised : IsRaised s price after = record { others = λ t apart. with_there price s (price s + more) t apart; raised = omega arith } in
    let cost : total after bundle ≤ total price bundle + more = total_raised s more price after raised here bundle ascending in
    let kept : bundle ≡ demand_of crowd after i =
    kept_bundle crowd price after i bundle (λ k d within. none_falls s price after raised _) (omega arith) told in
    ap (λ b. has b s) (sym kept) ∙ holds

-- a budget is below the top
budget_below_top : (crowd : CrowdData) (i : ℕ) → budget_of crowd i < top crowd
unfolding top
budget_below_top crowd i = omega (arith, among crowd.students i)
  where
    among : (students : List Student) (k : ℕ) → slice_index (map (λ (student : Student). student.budget) students) k ≤ greatest_budget students
    among [] k = omega arith
    among (x ∷ xs) zero = omega arith
    among (x ∷ xs) (suc k) = omega (arith, among xs k)

-- What is known of a holder with its bundle, where the section costs what stands at the place: its budget pays for the bundle, and it keeps the bundle up to
-- the price at which it leaves
pub record HolderTold (crowd : CrowdData) (prices : List Tokens) (s i place cost budget : ℕ) : Type 0 where
  pub paid : cost ≤ budget
  pub price : (slice_index_or prices place (record { 0 = 0 })).0 ≡ price_in prices s
  pub most : price_in prices s + (budget - cost) + 1 ≤ top crowd
  pub top_most : top crowd ≤ 1000001
  pub still : takes crowd (price_in prices) s (leaves (1000001 - ((slice_index_or prices place (record { 0 = 0 })).0 + (budget - cost) + 1), i) - 1) i ≡ true

pub holder_told : (crowd : Crowd) (prices : List Tokens) (s i place cost : ℕ) (budget : Tokens) (bundle : List ℕ)
    → ArePricesFor (data_of crowd) prices → s < crowd.sections → i < length crowd.menus.items
    → budget ≡ slice_index_or crowd.budgets.items i budget → bundle ≡ demand_of (data_of crowd) (price_in prices) i → has bundle s ≡ true
    → IsAscending bundle → cost ≡ total (price_in prices) bundle → place ≡ s
    → HolderTold (data_of crowd) prices s i place cost budget.0
holder_told crowd prices s i place cost budget bundle are within low has_it told holds ascending sum at =
    let price : ℕ → ℕ = price_in prices in
    let own : budget_of (data_of crowd) i ≡ budget.0 = budget_is crowd i budget low has_it in
    let paid : total price bundle ≤ budget_of (data_of crowd) i = taken_affordable (data_of crowd) price i bundle told in
    let part : price s ≤ total price bundle = member_total price bundle s holds in
    let high : budget_of (data_of crowd) i < top (data_of crowd) = budget_below_top (data_of crowd) i in
    let length_is : length prices ≡ crowd.sections = are.same in
    let here : (slice_index_or prices place (record { 0 = 0 })).0 ≡ price s =
    ap (λ (n : ℕ). (slice_index_or prices n (record { 0 = 0 })).0) at ∙ sym (price_at prices s (record { 0 = 0 }) (omega arith)) in
    let kept = holder_keeps (data_of crowd) price s (budget.0 - cost) i bundle told holds ascending (omega arith) in
    let top_most : top (data_of crowd) ≤ 1000001 = top_high crowd in
    record {
      paid = omega arith;
      price = here;
      most = omega arith;
      top_most = top_most;
      still = subst (λ (n : ℕ). takes (data_of crowd) price s n i ≡ true) (omega arith) kept;
    }

-- how far below the greatest price the holders leave, all together
abbrev pub room_of : List (ℕ × ℕ) → ℕ
room_of hs = sum_by (λ (h : ℕ × ℕ). h.0 + 1) hs

-- without the one that is popped it is less
pub room_popped : (hs rest : List (ℕ × ℕ)) (first : ℕ × ℕ) → IsPermutation hs (first ∷ rest) → room_of rest < room_of hs
room_popped hs rest first popped =
    let gone : room_of rest + (first.0 + 1) ≡ room_of hs = sum_by_popped (λ (h : ℕ × ℕ). h.0 + 1) first hs rest popped in omega arith

-- and with one that leaves later in its place
pub room_pushed : (hs rest new : List (ℕ × ℕ)) (first again : ℕ × ℕ) → IsPermutation hs (first ∷ rest) → IsPermutation (again ∷ rest) new
    → again.0 < first.0 → room_of new < room_of hs
room_pushed hs rest new first again popped pushed low =
    let gone : room_of rest + (first.0 + 1) ≡ room_of hs = sum_by_popped (λ (h : ℕ × ℕ). h.0 + 1) first hs rest popped in
    let more : room_of new ≡ again.0 + 1 + room_of rest = sum_by_pushed (λ (h : ℕ × ℕ). h.0 + 1) again rest new pushed in
    omega arith

-- a student that is not there takes nothing
none_past : (crowd : CrowdData) (price : ℕ → ℕ) (s i : ℕ) → length crowd.students ≤ i → has (demand_of crowd price i) s ≡ false
unfolding demands
none_past crowd price s i past = among crowd.students i past
  where
    among : (students : List Student) (k : ℕ) → length students ≤ k → has (slice_index_or (map (demand crowd.sections price) students) k []) s ≡ false
    among [] k long = refl
    among (x ∷ xs) zero long = absurd (omega arith)
    among (x ∷ xs) (suc k) long = among xs k (omega arith)

module _ (crowd : CrowdData) (price : ℕ → ℕ) (s level : ℕ) (hs rest : List (ℕ × ℕ)) (first : ℕ × ℕ) (left : AreLeft crowd price s level hs)
    (popped : IsPermutation hs (first ∷ rest)) (greatest_first : All (λ (h : ℕ × ℕ). h.0 ≤ first.0) rest) where
  abbrev P-students : ℕ × ℕ → Type 0
  P-students h = h.1 < length crowd.students

  -- the first holder and the rest
  all_first : All (Keeps crowd price s level) (first ∷ rest)
  all_first = All-permutation (Keeps crowd price s level) hs (first ∷ rest) popped left.keep

  pub first_keeps : Keeps crowd price s level first
  first_keeps = all_first 0 first (omega arith)

  pub first_student : first.1 < length crowd.students
  first_student = All-permutation (λ (h : ℕ × ℕ). h.1 < length crowd.students) hs (first ∷ rest) popped left.students 0 first (omega arith)

  listed_split : (i : ℕ) → listed i rest + one_at first.1 i ≡ listed i hs
  listed_split i = sum_by_popped (λ (holder : ℕ × ℕ). if holder.1 == i then 1 else 0) first hs rest popped

  -- at each price below the one at which the first leaves, as many students take the section as there are holders
  pub many_below : (p : ℕ) → p < leaves first → length hs ≤ count crowd (with_price price s p) s
  many_below p below =
      count_at_least crowd price s p hs left.students left.once
      (All-permutation (λ (h : ℕ × ℕ). takes crowd price s p h.1 ≡ true) (first ∷ rest) hs (IsPermutation-sym hs (first ∷ rest) popped) all)
    where
      still : (h : ℕ × ℕ) → Keeps crowd price s level h → leaves first ≤ leaves h → takes crowd price s p h.1 ≡ true
      still h keeps later =
          let one : 1 ≤ leaves h = keeps.some in
          takes_falls crowd price s p (leaves h - 1) h.1 (omega arith) keeps.still

      all : All (λ (h : ℕ × ℕ). takes crowd price s p h.1 ≡ true) (first ∷ rest)
      all = All-cons (λ (h : ℕ × ℕ). takes crowd price s p h.1 ≡ true) first rest (still first first_keeps (omega arith))
          (λ k d low. still (slice_index_or rest k d) (All-tail (Keeps crowd price s level) first rest all_first k d low)
          (let h : (slice_index_or rest k d).0 ≤ first.0 = greatest_first k d low in omega arith))

  -- the rest do not leave below that price
  rest_keeps : All (Keeps crowd price s (leaves first)) rest
  rest_keeps = λ k d low.
      let keeps : Keeps crowd price s level (slice_index_or rest k d) = All-tail (Keeps crowd price s level) first rest all_first k d low in
      let h : (slice_index_or rest k d).0 ≤ first.0 = greatest_first k d low in
      record { room = keeps.room; some = keeps.some; later = omega arith; capped = keeps.capped; still = keeps.still }

  rest_students : All P-students rest
  rest_students = All-tail P-students first rest (All-permutation P-students hs (first ∷ rest) popped left.students)

  -- who takes the section at that price was listed
  was_listed : (i : ℕ) → takes crowd price s (leaves first) i ≡ true → 1 ≤ listed i hs
  was_listed i is = left.others i (takes_falls crowd price s level (leaves first) i first_keeps.later is)

  -- the first holder leaves
  pub has_left : takes crowd price s (leaves first) first.1 ≡ false → AreLeft crowd price s (leaves first) rest
  has_left lacks = record {
    students = rest_students;
    once =
        λ i. (let split : listed i rest + one_at first.1 i ≡ listed i hs = listed_split i in let one : listed i hs ≤ 1 = left.once i in let goal : listed i rest
        ≤ 1 = omega arith in goal);
    keep = rest_keeps;
    others = λ i is.
        let some : 1 ≤ listed i hs = was_listed i is in
        let split : listed i rest + one_at first.1 i ≡ listed i hs = listed_split i in
        elim (cases_Bool (first.1 == i)) [
          | inl same ↦ (let e : first.1 ≡ i = grind (arith, nat_tests) in absurd (false≢true (sym lacks ∙ ap (takes crowd price s (leaves first)) e ∙ is)))
          | inr apart ↦ (let none : one_at first.1 i ≡ 0 = rw apart refl in let goal : 1 ≤ listed i rest = omega arith in goal)
        ];
  }

  module _ (again : ℕ × ℕ) (new : List (ℕ × ℕ)) (pushed : IsPermutation (again ∷ rest) new) (same : again.1 ≡ first.1) where
    listed_again : (i : ℕ) → listed i new ≡ listed i hs
    listed_again i =
        let split : listed i rest + one_at first.1 i ≡ listed i hs = listed_split i in
        let more : listed i new ≡ one_at again.1 i + listed i rest = sum_by_pushed (λ (holder : ℕ × ℕ). if holder.1 == i then 1 else 0) again rest new pushed in
        let e : one_at again.1 i ≡ one_at first.1 i = ap (λ n. one_at n i) same in
        omega arith

    -- it stays, up to another price
    pub has_stayed : Keeps crowd price s (leaves first) again → AreLeft crowd price s (leaves first) new
    has_stayed keeps = record {
      students =
          All-permutation P-students (again ∷ rest) new pushed
          (All-cons P-students again rest (subst (λ (n : ℕ). n < length crowd.students) (sym same) first_student) rest_students);
      once = λ i. subst (λ (n : ℕ). n ≤ 1) (sym (listed_again i)) (left.once i);
      keep =
          All-permutation (Keeps crowd price s (leaves first)) (again ∷ rest) new pushed
          (All-cons (Keeps crowd price s (leaves first)) again rest keeps rest_keeps);
      others = λ i is. subst (λ (n : ℕ). 1 ≤ n) (sym (listed_again i)) (was_listed i is);
    }

    pub less_stayed : again.0 < first.0 → room_of new < room_of hs
    less_stayed = room_pushed hs rest new first again popped pushed

  pub less_left : room_of rest < room_of hs
  less_left = room_popped hs rest first popped

-- where no more than the limit are left, and more took the section at each lower price, the price is the least
pub least_found : (crowd : CrowdData) (price : ℕ → ℕ) (s low limit least : ℕ) (hs : List (ℕ × ℕ)) → low ≤ least
    → ((p : ℕ) → low ≤ p → p < least → limit < count crowd (with_price price s p) s) → AreLeft crowd price s least hs → length hs ≤ limit
    → IsLeastFrom low crowd price s limit least
least_found crowd price s low limit least hs from lower left few = record {
  from = from;
  within =
      (let most : count crowd (with_price price s least) s
      ≤ length hs = count_at_most crowd price s least hs left.students left.others in let goal : count crowd (with_price price s least) s
      ≤ limit = omega arith in goal);
  lower = lower;
}

-- how often the section is among these
abbrev pub times : ℕ → List SectionNo → ℕ
times s sections = sum_by (λ (t : SectionNo). one_at t.0 s) sections

times_in : (s : ℕ) (sections : List SectionNo) → IsAscending (ordinals sections) → times s sections ≡ (if has (ordinals sections) s then 1 else 0)
times_in s [] up = refl
times_in s (t ∷ ts) up = elim (cases_Bool (t.0 == s)) [
  | inl here ↦
      let none : has (ordinals ts) s ≡ false = none_below t.0 (ordinals ts) up.0 s (grind (arith, nat_tests)) in
      let rest : times s ts ≡ 0 = times_in s ts up.1 ∙ rw none refl in
      sum_by-cons (λ (u : SectionNo). one_at u.0 s) t ts ∙ rw (here, rest) refl
  | inr apart ↦ let rest = times_in s ts up.1 in sum_by-cons (λ (u : SectionNo). one_at u.0 s) t ts ∙ rw apart (omega arith)
]

-- the holders among the first students, and the next one as often as the section was met in its bundle
pub record AreMet (crowd : CrowdData) (price : ℕ → ℕ) (s n met : ℕ) (hs : List (ℕ × ℕ)) : Type 0 where
  pub students : All (λ (h : ℕ × ℕ). h.1 < length crowd.students) hs
  pub keep : All (Keeps crowd price s (price s)) hs
  pub before : (i : ℕ) → i < n → listed i hs ≡ (if has (demand_of crowd price i) s then 1 else 0)
  pub next : listed n hs ≡ met
  pub later : (i : ℕ) → n < i → listed i hs ≡ 0

pub none_met : (crowd : CrowdData) (price : ℕ → ℕ) (s : ℕ) (hs : List (ℕ × ℕ)) → hs ≡ [] → AreMet crowd price s 0 0 hs
none_met crowd price s hs none =
    subst (AreMet crowd price s 0 0) (sym none)
    record {
      students = λ k d low. absurd (omega arith);
      keep = λ k d low. absurd (omega arith);
      before = λ i low. absurd (omega arith);
      next = refl;
      later = λ i low. refl;
    }

-- the next student is met once more
met_again : (crowd : CrowdData) (price : ℕ → ℕ) (s n met : ℕ) (hs : List (ℕ × ℕ)) (holder : ℕ × ℕ) → holder.1 ≡ n → n < length crowd.students
    → Keeps crowd price s (price s) holder → AreMet crowd price s n met hs → AreMet crowd price s n (met + 1) (hs ++ holder ∷ [])
met_again crowd price s n met hs holder own within keeps are = record {
  students =
      All-append (λ (h : ℕ × ℕ). h.1 < length crowd.students) hs (holder ∷ []) are.students
      (All-cons (λ (h : ℕ × ℕ). h.1 < length crowd.students) holder [] (let goal : holder.1 < length crowd.students = omega arith in goal) (All-nil _));
  keep = All-append (Keeps crowd price s (price s)) hs (holder ∷ []) are.keep (All-cons (Keeps crowd price s (price s)) holder [] keeps (All-nil _));
  before = λ i low. let one = more i in let none = other i (λ e. absurd (omega arith)) in let were = are.before i low in omega arith;
  next = let one = more n in let here : one_at holder.1 n ≡ 1 = rw own (grind (arith, nat_tests)) in let were = are.next in omega arith;
  later = λ i past. let one = more i in let none = other i (λ e. absurd (omega arith)) in let were = are.later i past in omega arith;
}
  where
    more : (i : ℕ) → listed i (hs ++ holder ∷ []) ≡ listed i hs + one_at holder.1 i
    more i = sum_by_push (λ (h : ℕ × ℕ). one_at h.1 i) hs holder

    other : (i : ℕ) → n ≢ i → one_at holder.1 i ≡ 0
    other i apart = rw (ne_eqb holder.1 i (λ e. apart (sym own ∙ e))) refl

-- one section more of the next student's bundle
module _ (crowd : CrowdData) (price : ℕ → ℕ) (s n k : ℕ) (sections : List SectionNo) (t none : SectionNo) (low : k < length sections)
    (at : t ≡ slice_index_or sections k none) where
  one_more : times s (take (k + 1) sections) ≡ times s (take k sections) + one_at t.0 s
  one_more =
      sum_by_more (λ (u : SectionNo). one_at u.0 s) sections k none low ∙ ap (λ (u : SectionNo). times s (take k sections) + one_at u.0 s) (sym at)

  -- it is another one
  pub met_other : (hs : List (ℕ × ℕ)) → t.0 ≢ s → AreMet crowd price s n (times s (take k sections)) hs
      → AreMet crowd price s n (times s (take (k + 1) sections)) hs
  met_other hs apart are =
      let none : one_at t.0 s ≡ 0 = rw (ne_eqb t.0 s apart) refl in
      let more = one_more in
      let same : times s (take k sections) ≡ times s (take (k + 1) sections) = omega arith in subst (λ (m : ℕ). AreMet crowd price s n m hs) same are

  -- its list has one holder more
  pub met_listed : (lists : List (Vec (ℕ × ℕ) Global)) (i : ℕ) (old new d : Vec (ℕ × ℕ) Global) (holder : ℕ × ℕ) → i ≡ t.0
      → old ≡ slice_index_or lists i old → i < length lists → new.items ≡ old.items ++ holder ∷ [] → holder.1 ≡ n → n < length crowd.students → Keeps crowd price t.0 (price t.0) holder
      → ((e : Vec (ℕ × ℕ) Global) → AreMet crowd price s n (times s (take k sections)) (slice_index_or lists s e).items)
      → AreMet crowd price s n (times s (take (k + 1) sections)) (slice_index_or (slice_set lists i new) s d).items
  met_listed lists i old new d holder to is below pushed own within keeps are = elim (cases_Bool (t.0 == s)) [
    | inl here ↦
        let here' : t.0 ≡ s = grind (arith, nat_tests) in
        let e : i ≡ s = to ∙ here' in
        let was : AreMet crowd price s n (times s (take k sections)) old.items =
        subst (λ (v : Vec (ℕ × ℕ) Global). AreMet crowd price s n (times s (take k sections)) v.items)
        (sym (is ∙ ap (λ (j : ℕ). slice_index_or lists j old) e)) (are old) in
        let one : one_at t.0 s ≡ 1 = rw here refl in
        let more = one_more in
        let up : times s (take k sections) + 1 ≡ times s (take (k + 1) sections) = omega arith in
        subst (λ (v : Vec (ℕ × ℕ) Global). AreMet crowd price s n (times s (take (k + 1) sections)) v.items)
        (sym (ap (λ (j : ℕ). slice_index_or (slice_set lists i new) j d) (sym e) ∙ get_or-set_same lists i new d below))
        (subst (AreMet crowd price s n (times s (take (k + 1) sections))) (sym pushed)
        (subst (λ (m : ℕ). AreMet crowd price s n m (old.items ++ holder ∷ [])) up
        (met_again crowd price s n (times s (take k sections)) old.items holder own within
        (subst (λ (j : ℕ). Keeps crowd price j (price j) holder) here' keeps) was)))
    | inr apart ↦
        subst (λ (v : Vec (ℕ × ℕ) Global). AreMet crowd price s n (times s (take (k + 1) sections)) v.items)
        (sym (get_or-set_other lists i s new d (λ e. grind (arith, nat_tests))))
        (met_other (slice_index_or lists s d).items (λ e. grind (arith, nat_tests)) (are d))
  ]

-- all sections of the next student's bundle were met
pub met_all : (crowd : CrowdData) (price : ℕ → ℕ) (s n : ℕ) (sections : List SectionNo) (hs : List (ℕ × ℕ)) → IsAscending (ordinals sections)
    → ordinals sections ≡ demand_of crowd price n → AreMet crowd price s n (times s sections) hs → AreMet crowd price s (n + 1) 0 hs
met_all crowd price s n sections hs up told are = record {
  students = are.students;
  keep = are.keep;
  before = λ i low. elim (cases_order i n) [
    | inl same ↦ rw same (are.next ∙ times_in s sections up ∙ ap (λ (b : List ℕ). if has b s then 1 else 0) told)
    | inr (inl less) ↦ are.before i less
    | inr (inr more) ↦ absurd (omega arith)
  ];
  next = are.later (n + 1) (omega arith);
  later = λ i past. are.later i (omega arith);
}

-- the next student's bundle lacks the section
pub met_lacking : (crowd : CrowdData) (price : ℕ → ℕ) (s n : ℕ) (hs : List (ℕ × ℕ)) → has (demand_of crowd price n) s ≡ false → AreMet crowd price s n 0 hs
    → AreMet crowd price s (n + 1) 0 hs
met_lacking crowd price s n hs lacks are = record {
  students = are.students;
  keep = are.keep;
  before = λ i low. elim (cases_order i n) [
    | inl same ↦ rw same (are.next ∙ sym (ap (λ (b : Bool). if b then 1 else 0) lacks))
    | inr (inl less) ↦ are.before i less
    | inr (inr more) ↦ absurd (omega arith)
  ];
  next = are.later (n + 1) (omega arith);
  later = λ i past. are.later i (omega arith);
}

-- the next student's bundle has the section
pub met_holding : (crowd : CrowdData) (price : ℕ → ℕ) (s n : ℕ) (hs new : List (ℕ × ℕ)) (holder : ℕ × ℕ) → has (demand_of crowd price n) s ≡ true
    → new ≡ hs ++ holder ∷ [] → holder.1 ≡ n → n < length crowd.students → Keeps crowd price s (price s) holder → AreMet crowd price s n 0 hs
    → AreMet crowd price s (n + 1) 0 new
met_holding crowd price s n hs new holder holds pushed own within keeps are =
    subst (AreMet crowd price s (n + 1) 0) (sym pushed)
    record {
      students = met.students;
      keep = met.keep;
      before = λ i low. elim (cases_order i n) [
        | inl same ↦ rw same (met.next ∙ sym (ap (λ (b : Bool). if b then 1 else 0) holds))
        | inr (inl less) ↦ met.before i less
        | inr (inr more) ↦ absurd (omega arith)
      ];
      next = met.later (n + 1) (omega arith);
      later = λ i past. met.later i (omega arith);
    }
  where
    met : AreMet crowd price s n 1 (hs ++ holder ∷ [])
    met = met_again crowd price s n 0 hs holder own within keeps are

-- all students were looked at
pub met_left : (crowd : CrowdData) (price : ℕ → ℕ) (s n : ℕ) (hs : List (ℕ × ℕ)) → n ≡ length crowd.students → AreMet crowd price s n 0 hs
    → AreLeft crowd price s (price s) hs
met_left crowd price s n hs all are = record {
  students = are.students;
  once = λ i. elim (cases_lt i n) [
    | inl low ↦ rw (are.before i low) (elim (cases_Bool (has (demand_of crowd price i) s)) [ inl is ↦ rw is (omega arith) | inr lacks ↦ rw lacks (omega arith) ])
    | inr past ↦ let none : listed i hs ≡ 0 = grind (arith, are.next, are.later i) in omega arith
  ];
  keep = are.keep;
  others = λ i is. elim (cases_lt i n) [
    | inl low ↦ rw (are.before i low, sym (takes_now crowd price s (price s) i refl) ∙ is) (omega arith)
    | inr past ↦
        absurd
        (false≢true
        (sym (none_past crowd price s i (let goal : length crowd.students ≤ i = omega arith in goal)) ∙ sym (takes_now crowd price s (price s) i refl)
        ∙ is))
  ];
}

-- the list at the place of a section, where the same is remembered
pub listed_at : (known remembered : Remembered) (lists : List (Vec (ℕ × ℕ) Global)) (s i : ℕ) (list : Vec (ℕ × ℕ) Global) (hs : List (ℕ × ℕ))
    → AreListed (crowd_of known) (price_before known) lists → known ≡ remembered → i < length lists → i ≡ s → list ≡ slice_index_or lists i list
    → hs ≡ list.items → AreLeft (crowd_of remembered) (price_before remembered) s (price_before remembered s) hs
listed_at known remembered lists s i list hs listed same low at is items =
    subst (λ (r : Remembered). AreLeft (crowd_of r) (price_before r) s (price_before r s) hs) same
    (subst (AreLeft (crowd_of known) (price_before known) s (price_before known s))
    (sym (items ∙ ap (λ (l : Vec (ℕ × ℕ) Global). l.items) (is ∙ ap (λ (j : ℕ). slice_index_or lists j list) at)))
    (listed s list (subst (λ (n : ℕ). n < length lists) at low)))

-- the same holders in another order
pub left_moved : (crowd : CrowdData) (price : ℕ → ℕ) (s level : ℕ) (hs new : List (ℕ × ℕ)) → IsPermutation hs new → AreLeft crowd price s level hs
    → AreLeft crowd price s level new
left_moved crowd price s level hs new moved left = record {
  students = All-permutation (λ (h : ℕ × ℕ). h.1 < length crowd.students) hs new moved left.students;
  once = λ i. subst (λ (n : ℕ). n ≤ 1) (sym (same i)) (left.once i);
  keep = All-permutation (Keeps crowd price s level) hs new moved left.keep;
  others = λ i is. subst (λ (n : ℕ). 1 ≤ n) (sym (same i)) (left.others i is);
}
  where
    same : (i : ℕ) → listed i new ≡ listed i hs
    same i = sum_by-IsPermutation (λ (h : ℕ × ℕ). if h.1 == i then 1 else 0) hs new moved

-- prices of which the section's is raised to one that is at most the top
pub raised_prices : (crowd : CrowdData) (prices : List Tokens) (s q : ℕ) → ArePricesFor crowd prices → q ≤ top crowd
    → ArePricesFor crowd (slice_set prices s (record { 0 = q }))
raised_prices crowd prices s q are capped = record {
  same = length-set prices s (record { 0 = q }) ∙ are.same;
  high = All-set (λ (price : Tokens). price.0 ≤ top crowd) prices s (record { 0 = q }) capped are.high;
}

-- what is taken there is what is taken with the price in place of the section's
pub taken_there : (crowd : CrowdData) (prices : List Tokens) (s q i : ℕ) → ArePricesFor crowd prices → s < crowd.sections
    → demand_of crowd (price_in (slice_set prices s (record { 0 = q }))) i ≡ demand_of crowd (with_price (price_in prices) s q) i
taken_there crowd prices s q i are within =
    demand_same crowd (price_in (slice_set prices s (record { 0 = q }))) (with_price (price_in prices) s q) i
    (tried crowd prices prices s q are (λ t apart. refl) within)

-- a holder that was found there keeps what it holds up to its price
pub keeps_there : (crowd : CrowdData) (prices : List Tokens) (s q i : ℕ) (holder : ℕ × ℕ) → ArePricesFor crowd prices → s < crowd.sections → holder.1 ≡ i
    → holder.0 ≤ 1000001 → price_in (slice_set prices s (record { 0 = q })) s < leaves holder → leaves holder ≤ top crowd
    → takes crowd (price_in (slice_set prices s (record { 0 = q }))) s (leaves holder - 1) i ≡ true → Keeps crowd (price_in prices) s q holder
keeps_there crowd prices s q i holder are within is room later capped still =
    let length_is : length prices ≡ crowd.sections = are.same in
    let here : price_in (slice_set prices s (record { 0 = q })) s ≡ q = price_written prices s q (omega arith) in
    record {
      room = room;
      some = omega arith;
      later = omega arith;
      capped = capped;
      still =
          ap (takes crowd (price_in prices) s (leaves holder - 1)) is
          ∙ sym
          (takes_same crowd (price_in (slice_set prices s (record { 0 = q }))) (price_in prices) s (leaves holder - 1) i
          (λ t apart. price_kept prices s q t apart))
          ∙ still;
    }

-- a holder that was found at the present prices, however they are read
pub keeps_now : (crowd : CrowdData) (prices read : List Tokens) (s i : ℕ) (holder : ℕ × ℕ) → read ≡ prices → holder.1 ≡ i → holder.0 ≤ 1000001
    → price_in read s < leaves holder → leaves holder ≤ top crowd → takes crowd (price_in read) s (leaves holder - 1) i ≡ true
    → Keeps crowd (price_in prices) s (price_in prices s) holder
keeps_now crowd prices read s i holder same is room later capped still =
    subst (λ (ps : List Tokens). Keeps crowd (price_in ps) s (price_in ps s) holder) same
    record { room = room; some = omega arith; later = omega arith; capped = capped; still = ap (takes crowd (price_in read) s (leaves holder - 1)) is ∙ still }

-- what was taken there tells whether the section is taken at that price
pub asked_there : (crowd : CrowdData) (prices read : List Tokens) (s q i : ℕ) (bundle : List ℕ) → ArePricesFor crowd prices → s < crowd.sections
    → read ≡ slice_set prices s (record { 0 = q }) → bundle ≡ demand_of crowd (price_in read) i → takes crowd (price_in prices) s q i ≡ has bundle s
asked_there crowd prices read s q i bundle are within same told =
    ap (λ (b : List ℕ). has b s) (sym (told ∙ ap (λ (l : List Tokens). demand_of crowd (price_in l) i) same ∙ taken_there crowd prices s q i are within))

pub keeps_asked : (crowd : CrowdData) (prices read : List Tokens) (s q i : ℕ) (holder : ℕ × ℕ) → read ≡ slice_set prices s (record { 0 = q })
    → ArePricesFor crowd prices → s < crowd.sections → holder.1 ≡ i → holder.0 ≤ 1000001 → price_in read s < leaves holder → leaves holder ≤ top crowd
    → takes crowd (price_in read) s (leaves holder - 1) i ≡ true → Keeps crowd (price_in prices) s q holder
keeps_asked crowd prices read s q i holder same are within is room later capped still =
    keeps_there crowd prices s q i holder are within is room (subst (λ (l : List Tokens). price_in l s < leaves holder) same later) capped
    (subst (λ (l : List Tokens). takes crowd (price_in l) s (leaves holder - 1) i ≡ true) same still)

-- it then leaves at a higher price than before
pub leaves_later : (crowd : CrowdData) (prices read : List Tokens) (s : ℕ) (first again : ℕ × ℕ) → read ≡ slice_set prices s (record { 0 = leaves first })
    → ArePricesFor crowd prices → s < crowd.sections → first.0 ≤ 1000001 → price_in read s < leaves again → again.0 < first.0
leaves_later crowd prices read s first again same are within room later =
    let length_is : length prices ≡ crowd.sections = are.same in
    let here : price_in (slice_set prices s (record { 0 = leaves first })) s ≡ leaves first = price_written prices s (leaves first) (omega arith) in
    let there : price_in (slice_set prices s (record { 0 = leaves first })) s < leaves again =
    subst (λ (l : List Tokens). price_in l s < leaves again) same later in
    omega arith
