-- Inputs that are used one after another.
use Rattle.std.proofs.Common.{ℕ, Bool, true, false, cond, ◌≡◌, ◌+◌, List, [], ◌∷◌, ◌++◌, length, map, Some, None, arith, ap, sym, ◌∙◌, refl, append_assoc}
use Rattle.std.specs.Prelude.{IsTrue, Option}
use Rattle.std.proofs.lemmas.List.{append-nil, length-append, map-append}
use Rattle.market_edge.specs.declared.shelf.Shelf as Shelf
use Rattle.market_edge.specs.Openings.{BeginsAtMost, Opening, Changes, read_out, with_read_out}
use Rattle.market_host.specs.declared.cause.Cause.{Cause}
use Rattle.market_host.specs.declared.trouble.Trouble.{Trouble}
use Rattle.market_host.specs.declared.trouble.Trouble.TheVariants.{ShelfFault, Refused, TooLong, OutOfMemory}
use Rattle.market_host.specs.Statuses.{status_of}
use Rattle.market_host.specs.Traces.{AreReadOut, AreReadTo, AreReadUntil, AreUsed, CountsStand, IsLastBegun, Trace, only_begun, trace, with_begun_too}

changes_by : (old new : Option (List Opening)) (change other : List Opening → List Opening) → ((openings : List Opening) → change openings ≡ other openings)
    → Changes old new change → Changes old new other
changes_by old None change other same is = tt
changes_by None (Some new) change other same is = absurd is
changes_by (Some old) (Some new) change other same is = is ∙ same old

changes_then : (old mid new : Option (List Opening)) (first next : List Opening → List Opening) → Changes old mid first → Changes mid new next
    → Changes old new (λ openings. next (first openings))
changes_then old mid None first next p q = tt
changes_then old None (Some z) first next p q = absurd q
changes_then None (Some y) (Some z) first next p q = absurd p
changes_then (Some x) (Some y) (Some z) first next p q = q ∙ ap next p

read_out_too : (front names : List (List ℕ)) (openings : List Opening)
    → with_read_out names (with_read_out front openings) ≡ with_read_out (front ++ names) openings
read_out_too front names openings =
    append_assoc openings (map read_out front) (map read_out names) ∙ ap (λ more. openings ++ more) (sym (map-append read_out front names))

begun_too : (front ended begun : List (List ℕ)) (openings : List Opening)
    → with_begun_too ended begun (with_read_out front openings) ≡ with_begun_too (front ++ ended) begun openings
begun_too front ended begun openings =
    append_assoc openings (map read_out front) (map read_out ended ++ map only_begun begun)
    ∙ ap (λ more. openings ++ more)
    (sym (append_assoc (map read_out front) (map read_out ended) (map only_begun begun))
    ∙ ap (λ more. more ++ map only_begun begun) (sym (map-append read_out front ended)))

begun_none : (names : List (List ℕ)) (openings : List Opening) → with_read_out names openings ≡ with_begun_too names [] openings
begun_none names openings = ap (λ more. openings ++ more) (sym (append-nil (map read_out names)))

-- the counts stand, from before an earlier call on
stand_from : (stop : Trouble) (before mid after : List ℕ → ℕ) → mid ≡ before → CountsStand stop mid after → CountsStand stop before after
stand_from (ShelfFault n) before mid after same is = tt
stand_from (Refused n row cause) before mid after same is = is ∙ same
stand_from (TooLong n) before mid after same is = is ∙ same
stand_from OutOfMemory before mid after same is = is ∙ same

add_zero : (n : ℕ) → n + 0 ≡ n
add_zero n = omega arith

further : (stop : Trouble) (first front ended begun : ℕ) → IsLastBegun stop ((first + front) + ended) begun → IsLastBegun stop (first + (front + ended)) begun
further (ShelfFault n) first front ended begun is = (omega (arith, is.0), is.1)
further (Refused n row cause) first front ended begun is = (omega (arith, is.0), is.1)
further (TooLong n) first front ended begun is = (omega (arith, is.0), is.1)
further OutOfMemory first front ended begun is = is

module _ {H : Type 0} (shelf : Shelf.Ghosts H) where
  -- no input is read
  pub none_used : (a : H) → AreReadOut (trace shelf a a) []
  none_used a = (refl, unchanged (shelf.shows a).openings) where
    unchanged : (told : Option (List Opening)) → Changes told told (with_read_out [])
    unchanged None = tt
    unchanged (Some openings) = sym (append-nil openings)

  -- these inputs are read to their ends, and then those
  pub read_behind : (a b c : H) (front names : List (List ℕ)) → AreReadOut (trace shelf a b) front → AreReadOut (trace shelf b c) names
      → AreReadOut (trace shelf a c) (front ++ names)
  read_behind a b c front names p q = (
    q.0 ∙ p.0,
    changes_by (shelf.shows a).openings (shelf.shows c).openings _ _ (read_out_too front names)
        (changes_then (shelf.shows a).openings (shelf.shows b).openings (shelf.shows c).openings (with_read_out front) (with_read_out names) p.1 q.1),
  )

  -- these inputs are read to their ends, and one of those stops the call
  pub until_behind : (a b c : H) (front names : List (List ℕ)) (first : ℕ) (stop : Trouble) → AreReadOut (trace shelf a b) front
      → AreReadUntil (trace shelf b c) names (first + length front) stop
      → AreReadUntil (trace shelf a c) (front ++ names) first stop
  until_behind a b c front names first stop p (stand, ended, begun, later, split, last, q) = (
    stand_from stop (shelf.shows a).faults (shelf.shows b).faults (shelf.shows c).faults p.0 stand,
    front ++ ended,
    begun,
    later,
    ap (λ rest. front ++ rest) split ∙ sym (append_assoc front ended (begun ++ later)),
    rw (length-append front ended) (further stop first (length front) (length ended) (length begun) last),
    changes_by (shelf.shows a).openings (shelf.shows c).openings _ _ (begun_too front ended begun)
        (changes_then (shelf.shows a).openings (shelf.shows b).openings (shelf.shows c).openings (with_read_out front) (with_begun_too ended begun) p.1 q),
  )

  -- one of these inputs stops the call, before any behind them
  pub until_before : (a b : H) (names more : List (List ℕ)) (first : ℕ) (stop : Trouble) → AreReadUntil (trace shelf a b) names first stop
      → AreReadUntil (trace shelf a b) (names ++ more) first stop
  until_before a b names more first stop (stand, ended, begun, later, split, last, q) = (
    stand,
    ended,
    begun,
    later ++ more,
    ap (λ rest. rest ++ more) split ∙ append_assoc ended (begun ++ later) more ∙ ap (λ rest. ended ++ rest) (append_assoc begun later more),
    last,
    q,
  )

  -- these inputs are read to their ends, and memory is wanted
  pub until_memory : (a b : H) (names : List (List ℕ)) (first : ℕ) → AreReadOut (trace shelf a b) names → AreReadUntil (trace shelf a b) names first OutOfMemory
  until_memory a b names first p =
      (p.0, names, [], [], sym (append-nil names), omega arith, changes_by (shelf.shows a).openings (shelf.shows b).openings _ _ (begun_none names) p.1)

  -- an input is begun at most, and this stops the call
  pub until_begun : (a b : H) (name : List ℕ) (number : ℕ) (begun : Bool) (stop : Trouble) → CountsStand stop (shelf.shows a).faults (shelf.shows b).faults
      → IsLastBegun stop number (cond begun 1 0)
      → BeginsAtMost (shelf.shows a).openings (shelf.shows b).openings name begun → AreReadUntil (trace shelf a b) (name ∷ []) number stop
  until_begun a b name number true stop stand last begins = (stand, [], name ∷ [], [], refl, rw (add_zero number) last, begins)
  until_begun a b name number false stop stand last begins = (
    stand,
    [],
    [],
    name ∷ [],
    refl,
    rw (add_zero number) last,
    changes_by (shelf.shows a).openings (shelf.shows b).openings _ _ (λ openings. sym (append-nil openings)) begins,
  )

  -- the shelf is at fault
  pub until_fault : (a b : H) (name : List ℕ) (number : ℕ) (begun : Bool) → BeginsAtMost (shelf.shows a).openings (shelf.shows b).openings name begun
      → AreReadUntil (trace shelf a b) (name ∷ []) number (ShelfFault number)
  until_fault a b name number true begins = until_begun a b name number true (ShelfFault number) tt (refl, omega arith) begins
  until_fault a b name number false begins = until_begun a b name number false (ShelfFault number) tt (refl, omega arith) begins

  -- an input has more bytes than its limit
  pub until_too_long : (a b : H) (name : List ℕ) (number : ℕ) (begun : Bool) → (shelf.shows b).faults ≡ (shelf.shows a).faults → IsTrue begun
      → BeginsAtMost (shelf.shows a).openings (shelf.shows b).openings name begun
      → AreReadUntil (trace shelf a b) (name ∷ []) number (TooLong number)
  until_too_long a b name number true same is begins = until_begun a b name number true (TooLong number) same (refl, omega arith) begins
  until_too_long a b name number false same is begins = absurd cc

  -- there is no memory for an input
  pub until_no_room : (a b : H) (name : List ℕ) (number : ℕ) (begun : Bool) → (shelf.shows b).faults ≡ (shelf.shows a).faults
      → BeginsAtMost (shelf.shows a).openings (shelf.shows b).openings name begun → AreReadUntil (trace shelf a b) (name ∷ []) number OutOfMemory
  until_no_room a b name number true same begins = until_begun a b name number true OutOfMemory same (omega arith) begins
  until_no_room a b name number false same begins = until_begun a b name number false OutOfMemory same (omega arith) begins

  -- an input is read to its end, and refused
  pub until_refused : (a b : H) (name : List ℕ) (number row : ℕ) (cause : Cause) → AreReadOut (trace shelf a b) (name ∷ [])
      → AreReadUntil (trace shelf a b) (name ∷ []) number (Refused number row cause)
  until_refused a b name number row cause p =
      (p.0, name ∷ [], [], [], refl, (omega arith, refl), changes_by (shelf.shows a).openings (shelf.shows b).openings _ _ (begun_none (name ∷ [])) p.1)

  -- a session is read to its end, and has too many commands
  pub until_surplus : (a b : H) (name : List ℕ) (number : ℕ) → AreReadOut (trace shelf a b) (name ∷ [])
      → AreReadUntil (trace shelf a b) (name ∷ []) number (TooLong number)
  until_surplus a b name number p =
      (p.0, name ∷ [], [], [], refl, (omega arith, omega arith), changes_by (shelf.shows a).openings (shelf.shows b).openings _ _ (begun_none (name ∷ [])) p.1)

-- what stops a call, by its status
pub stopped_used : (words : List (List ℕ)) (seen : Trace) (stop : Trouble) → AreReadTo words seen stop → AreUsed words seen (status_of stop)
stopped_used words seen (ShelfFault n) used = used
stopped_used words seen (Refused n row cause) used = used
stopped_used words seen (TooLong n) used = used
stopped_used words seen OutOfMemory used = used
