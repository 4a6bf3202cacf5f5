-- What a test tells of what it tests.
use Rattle.std.proofs.Common.{◌≡◌, ◌&&◌, Bool, true, false, refl, true≢false, sym}
use Rattle.std.specs.Prelude.{T, not}
use Rattle.std.specs.Ordering.{is_eq, is_lt}
use Rattle.std.proofs.lemmas.Bool.{false≢true}
use Rattle.std.specs.declared.cmp.Ordering.{Ordering}
use Rattle.std.specs.declared.cmp.Ordering.TheVariants.{Less, Equal, Greater}

-- a conjunction and its parts
pub and_three : (a b c : Bool) → (a && b && c) ≡ true → (a ≡ true) × (b ≡ true) × (c ≡ true)
and_three true true true h = (refl, refl, refl)
and_three true true false h = absurd (cc)
and_three true false c h = absurd (cc)
and_three false b c h = absurd (cc)

pub and_first : (a b : Bool) → (a && b) ≡ true → a ≡ true
and_first true b e = refl
and_first false b e = e

pub and_second : (a b : Bool) → (a && b) ≡ true → b ≡ true
and_second true b e = e
and_second false b e = absurd (true≢false (sym e))

pub and_parts : (a b : Bool) → (a && b) ≡ true → (a ≡ true) × (b ≡ true)
and_parts true b both = (refl, both)
and_parts false b both = absurd (false≢true both)

-- what is so, as an equation
pub true_of : (b : Bool) → T b → b ≡ true
true_of true h = refl
true_of false h = absurd h

-- a negation
pub not_false : (b : Bool) → not b ≡ false → b ≡ true
not_false true e = refl
not_false false e = absurd (true≢false e)

pub not_true : (b : Bool) → not b ≡ true → b ≡ false
not_true true e = absurd (true≢false (sym e))
not_true false e = refl

-- an order that a test tells
pub only_equal : (r : Ordering) → is_eq r ≡ true → r ≡ Equal
only_equal Less e = absurd (true≢false (sym e))
only_equal Equal e = refl
only_equal Greater e = absurd (true≢false (sym e))

pub only_less : (r : Ordering) → is_lt r ≡ true → r ≡ Less
only_less Less e = refl
only_less Equal e = absurd (true≢false (sym e))
only_less Greater e = absurd (true≢false (sym e))
