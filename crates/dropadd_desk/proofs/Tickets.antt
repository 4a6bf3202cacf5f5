-- Tickets as a line is read: each is there once, and in order.
use Rattle.std.proofs.Common.{ℕ, zero, suc, ◌≡◌, ◌<◌, ◌+◌, ◌++◌, ◌==◌, ◌&&◌, ◌∙◌, Bool, true, false, not, List, [], ◌∷◌, map, take, drop, arith, refl, sym, ap, subst, inl, inr}
use Rattle.std.specs.Prelude.{if◌then◌else◌}
use Rattle.std.specs.List.{filter}
use Rattle.std.proofs.lemmas.Bool.{cases_Bool, eq-eqb, ne_eqb}
use Rattle.std.proofs.lemmas.List.{append_assoc, map-append, take-append-drop}
use Rattle.market_units.proofs.Sums.{total-append}
use Rattle.bundle_rules.specs.Sets.{AllAbove, IsAscending}
use Rattle.bundle_rules.specs.Existence.Members.{AllBelow}
use Rattle.dropadd_desk.specs.declared.reply.HallReply.{HallReply}
use Rattle.dropadd_desk.specs.declared.reply.HallReply.TheVariants as reply
use Rattle.dropadd_desk.specs.Market.{Market}
use Rattle.dropadd_desk.specs.Lines.{HallStep, Line, Ticket, gives_ticket, is_queued, line_after, line_from, line_of, named_student, names_section, no_line, noted, one_next, tickets_of}
use Rattle.dropadd_desk.proofs.Stepped.{one_if, quiet}

-- how often a ticket is in a line
abbrev pub occurs : ℕ → Line → ℕ
occurs m line = tickets_of m line.given_or_lapsed + tickets_of m line.left + tickets_of m line.waiting

tickets-append : (m : ℕ) (xs ys : List Ticket) → tickets_of m (xs ++ ys) ≡ tickets_of m xs + tickets_of m ys
tickets-append m xs ys = total-append (λ (ticket : Ticket). if ticket.number == m then 1 else 0) xs ys

tickets-split : (m k : ℕ) (xs : List Ticket) → tickets_of m (take k xs) + tickets_of m (drop k xs) ≡ tickets_of m xs
tickets-split m k xs = sym (tickets-append m (take k xs) (drop k xs)) ∙ ap (tickets_of m) (take-append-drop k xs)

tickets-parted : (m : ℕ) (p : Ticket → Bool) (xs : List Ticket)
    → tickets_of m (filter p xs) + tickets_of m (filter (λ (ticket : Ticket). not (p ticket)) xs) ≡ tickets_of m xs
tickets-parted m p [] = omega arith
tickets-parted m p (x ∷ xs) = let rest = tickets-parted m p xs in elim (cases_Bool (p x)) [
  | inl is ↦ rw is (omega arith)
  | inr other ↦ rw other (omega arith)
]

-- one more where the step was replied `Queued`
noted_count : (m number i : ℕ) (answer : HallReply) (line : Line)
    → occurs m (noted number i answer line) ≡ occurs m line + one_if (is_queued answer && (number == m))
noted_count m number i (reply.Queued ahead) line = let all = tickets-append m line.waiting (record { number = number; student = i } ∷ []) in omega (arith, all)
noted_count m number i (reply.Dropped lapsed next) line =
    let served = tickets-append m line.given_or_lapsed (take (lapsed + one_next next) line.waiting) in
    let split = tickets-split m (lapsed + one_next next) line.waiting in
    omega (arith, served, split)
noted_count m number i reply.Left line =
    let left = tickets-append m line.left (filter (λ (ticket : Ticket). ticket.student == i) line.waiting) in
    let parted = tickets-parted m (λ (ticket : Ticket). ticket.student == i) line.waiting in
    omega (arith, left, parted)
noted_count m number i reply.Added line = omega arith
noted_count m number i answer line =
    let q = quiet answer refl in
    let same : occurs m (noted number i answer line) ≡ occurs m line = ap (occurs m) (q.line number i line) in
    let none : one_if (is_queued answer && (number == m)) ≡ 0 = ap (λ b. one_if (b && (number == m))) q.queued in
    omega (arith, same, none)

module _ (market : Market) (s : ℕ) where
  step_count : (m number : ℕ) (step : HallStep) (line : Line)
      → occurs m (line_after market s number step line) ≡ occurs m line + one_if (names_section market s step.request && is_queued step.reply && (number == m))
  step_count m number step line = elim (cases_Bool (names_section market s step.request)) [
    | inl is ↦ rw is (noted_count m number (named_student market step.request) step.reply line)
    | inr other ↦ rw other (omega arith)
  ]

  -- a step of another number gives no ticket of this one
  other_count : (m number : ℕ) (step : HallStep) (line : Line) → ¬ (number ≡ m) → occurs m (line_after market s number step line) ≡ occurs m line
  other_count m number step line other =
      let here = step_count m number step line in
      let none : one_if (names_section market s step.request && is_queued step.reply && (number == m)) ≡ 0 =
      ap (λ b. one_if (names_section market s step.request && is_queued step.reply && b)) (ne_eqb number m other)
      ∙ and_nothing (names_section market s step.request && is_queued step.reply) in
      omega (arith, here, none)
    where
      and_nothing : (b : Bool) → one_if (b && false) ≡ 0
      and_nothing true = refl
      and_nothing false = refl

  -- nor do steps of later numbers
  later_count : (m number : ℕ) (history : List HallStep) (line : Line) → m < number → occurs m (line_from market s number history line) ≡ occurs m line
  later_count m number [] line low = refl
  later_count m number (step ∷ more) line low =
      later_count m (number + 1) more (line_after market s number step line) (omega arith) ∙ other_count m number step line (λ e. omega arith)

  counted_from : (k number : ℕ) (history : List HallStep) (line : Line)
      → occurs (number + k) (line_from market s number history line) ≡ occurs (number + k) line + one_if (gives_ticket market s history k)
  counted_from k number [] line = omega arith
  counted_from zero number (step ∷ more) line =
      let m : ℕ = number + 0 in
      let rest = later_count m (number + 1) more (line_after market s number step line) (omega arith) in
      let here = step_count m number step line in
      let same : (number == m) ≡ true = eq-eqb number m (omega arith) in
      let one : one_if (names_section market s step.request && is_queued step.reply && (number == m))
      ≡ one_if (names_section market s step.request && is_queued step.reply) =
      ap (λ b. one_if (names_section market s step.request && is_queued step.reply && b)) same
      ∙ and_so (names_section market s step.request && is_queued step.reply) in
      omega (arith, rest, here, one)
    where
      and_so : (b : Bool) → one_if (b && true) ≡ one_if b
      and_so true = refl
      and_so false = refl
  counted_from (suc k) number (step ∷ more) line =
      let m : ℕ = number + suc k in
      let next : number + suc k ≡ (number + 1) + k = omega arith in
      let rest : occurs m (line_from market s (number + 1) more (line_after market s number step line))
      ≡ occurs m (line_after market s number step line) + one_if (gives_ticket market s more k) =
      rw next (counted_from k (number + 1) more (line_after market s number step line)) in
      let here = other_count m number step line (λ e. omega arith) in
      omega (arith, rest, here)

  pub each_once : (history : List HallStep) (k : ℕ) → occurs k (line_of market s history) ≡ one_if (gives_ticket market s history k)
  each_once history k =
      let zero_more : 0 + k ≡ k = omega arith in
      let all = counted_from k 0 history no_line in
      let at : occurs k (line_of market s history) ≡ occurs k no_line + one_if (gives_ticket market s history k) =
      subst (λ n. occurs n (line_of market s history) ≡ occurs n no_line + one_if (gives_ticket market s history k)) zero_more all in
      omega (arith, at)

-- the numbers of tickets
abbrev pub numbers_of : List Ticket → List ℕ
numbers_of tickets = map (λ (ticket : Ticket). ticket.number) tickets

-- in order, and all below this number
pub record AreInOrder (number : ℕ) (line : Line) : Type 0 where
  pub ascending : IsAscending (numbers_of (line.given_or_lapsed ++ line.waiting))
  pub below : AllBelow number (numbers_of (line.given_or_lapsed ++ line.waiting))

below_more : (n : ℕ) (xs : List ℕ) → AllBelow n xs → AllBelow (n + 1) xs
below_more n [] all = tt
below_more n (x ∷ xs) all = ((let h : x < n = all.0 in omega arith), below_more n xs all.1)

above_push : (x n : ℕ) (xs : List ℕ) → AllAbove x xs → x < n → AllAbove x (xs ++ n ∷ [])
above_push x n [] above low = (low, tt)
above_push x n (y ∷ ys) above low = (above.0, above_push x n ys above.1 low)

ascending_push : (n : ℕ) (xs : List ℕ) → IsAscending xs → AllBelow n xs → IsAscending (xs ++ n ∷ [])
ascending_push n [] up low = (tt, tt)
ascending_push n (x ∷ xs) up low = (above_push x n xs up.0 low.0, ascending_push n xs up.1 low.1)

below_push : (n : ℕ) (xs : List ℕ) → AllBelow n xs → AllBelow (n + 1) (xs ++ n ∷ [])
below_push n [] low = ((omega arith), tt)
below_push n (x ∷ xs) low = ((let h : x < n = low.0 in omega arith), below_push n xs low.1)

above_filter : (x : ℕ) (p : Ticket → Bool) (front back : List Ticket) → AllAbove x (numbers_of (front ++ back))
    → AllAbove x (numbers_of (front ++ filter p back))
above_filter x p [] [] above = tt
above_filter x p [] (y ∷ ys) above = elim (cases_Bool (p y)) [
  | inl is ↦ rw is (above.0, above_filter x p [] ys above.1)
  | inr other ↦ rw other (above_filter x p [] ys above.1)
]
above_filter x p (y ∷ ys) back above = (above.0, above_filter x p ys back above.1)

ascending_filter : (p : Ticket → Bool) (front back : List Ticket) → IsAscending (numbers_of (front ++ back)) → IsAscending (numbers_of (front ++ filter p back))
ascending_filter p [] [] up = tt
ascending_filter p [] (y ∷ ys) up = elim (cases_Bool (p y)) [
  | inl is ↦ rw is (above_filter y.number p [] ys up.0, ascending_filter p [] ys up.1)
  | inr other ↦ rw other (ascending_filter p [] ys up.1)
]
ascending_filter p (x ∷ xs) back up = (above_filter x.number p xs back up.0, ascending_filter p xs back up.1)

below_filter : (n : ℕ) (p : Ticket → Bool) (front back : List Ticket) → AllBelow n (numbers_of (front ++ back))
    → AllBelow n (numbers_of (front ++ filter p back))
below_filter n p [] [] low = tt
below_filter n p [] (y ∷ ys) low = elim (cases_Bool (p y)) [
  | inl is ↦ rw is (low.0, below_filter n p [] ys low.1)
  | inr other ↦ rw other (below_filter n p [] ys low.1)
]
below_filter n p (x ∷ xs) back low = (low.0, below_filter n p xs back low.1)

-- the list with other items behind, in the same order
same_order : (number : ℕ) (xs ys : List Ticket) → xs ≡ ys → IsAscending (numbers_of ys) → AllBelow number (numbers_of ys)
    → IsAscending (numbers_of xs) × AllBelow (number + 1) (numbers_of xs)
same_order number xs ys same up low = (
  subst (λ l. IsAscending (numbers_of l)) (sym same) up,
  subst (λ l. AllBelow (number + 1) (numbers_of l)) (sym same) (below_more number (numbers_of ys) low),
)

noted_order : (number i : ℕ) (answer : HallReply) (line : Line) → AreInOrder number line → AreInOrder (number + 1) (noted number i answer line)
noted_order number i (reply.Queued ahead) line order =
    let ticket : Ticket = record { number = number; student = i } in
    let joined : numbers_of (line.given_or_lapsed ++ (line.waiting ++ ticket ∷ [])) ≡ numbers_of (line.given_or_lapsed ++ line.waiting) ++ number ∷ [] =
    ap numbers_of (sym (append_assoc line.given_or_lapsed line.waiting (ticket ∷ [])))
    ∙ map-append (λ (t : Ticket). t.number) (line.given_or_lapsed ++ line.waiting) (ticket ∷ []) in
    record {
      ascending = subst IsAscending (sym joined) (ascending_push number (numbers_of (line.given_or_lapsed ++ line.waiting)) order.ascending order.below);
      below = subst (AllBelow (number + 1)) (sym joined) (below_push number (numbers_of (line.given_or_lapsed ++ line.waiting)) order.below);
    }
noted_order number i (reply.Dropped lapsed next) line order =
    let n : ℕ = lapsed + one_next next in
    let same =
    append_assoc line.given_or_lapsed (take n line.waiting) (drop n line.waiting) ∙ ap (λ l. line.given_or_lapsed ++ l) (take-append-drop n line.waiting) in
    let both =
    same_order number ((line.given_or_lapsed ++ take n line.waiting) ++ drop n line.waiting) (line.given_or_lapsed ++ line.waiting) same order.ascending
    order.below in
    record { ascending = both.0; below = both.1 }
noted_order number i reply.Left line order = record {
  ascending = ascending_filter (λ (ticket : Ticket). not (ticket.student == i)) line.given_or_lapsed line.waiting order.ascending;
  below = below_more number _ (below_filter number (λ (ticket : Ticket). not (ticket.student == i)) line.given_or_lapsed line.waiting order.below);
}
noted_order number i reply.Added line order = record { ascending = order.ascending; below = below_more number _ order.below }
noted_order number i answer line order =
    let q = quiet answer refl in
    subst (AreInOrder (number + 1)) (sym (q.line number i line)) (record { ascending = order.ascending; below = below_more number _ order.below })

module _ (market : Market) (s : ℕ) where
  order_from : (number : ℕ) (history : List HallStep) (line : Line) → AreInOrder number line
      → IsAscending (numbers_of ((line_from market s number history line).given_or_lapsed ++ (line_from market s number history line).waiting))
  order_from number [] line order = order.ascending
  order_from number (step ∷ more) line order = order_from (number + 1) more (line_after market s number step line) next
    where
      next : AreInOrder (number + 1) (line_after market s number step line)
      next = elim (cases_Bool (names_section market s step.request)) [
        | inl is ↦ rw is (noted_order number (named_student market step.request) step.reply line order)
        | inr other ↦ rw other (record { ascending = order.ascending; below = below_more number _ order.below })
      ]

  pub all_in_order : (history : List HallStep) → IsAscending (numbers_of ((line_of market s history).given_or_lapsed ++ (line_of market s history).waiting))
  all_in_order history = order_from 0 history no_line (record { ascending = tt; below = tt })
