-- The published turns come in the passes in which they were made.
use Rattle.std.proofs.Common.{ℕ, suc, ◌≡◌, ◌<◌, ◌+◌, ◌∙◌, ◌↔◌, Some, List, [], ◌∷◌, ◌++◌, length, map, refl, ap, sym, subst, arith}
use Rattle.std.specs.Prelude.{slice_index_or, slice_set}
use Rattle.std.specs.List.{AllZip, flat_map}
use Rattle.std.proofs.lemmas.List.{length-map, set-get_or}
use Rattle.std.proofs.lemmas.List.Concat.{flat_map-cons}
use Rattle.std.proofs.lemmas.List.Elements.{All-cons}
use Rattle.std.proofs.lemmas.Option.{get_or_from_slice_get, slice_get-get_or, slice_get_within}
use Rattle.std.proofs.lemmas.Slice.Zip.{AllZip-long}
use Rattle.market_units.specs.declared.units.Tokens.{Tokens}
use Rattle.bundle_rules.specs.Demand.{price_in}
use Rattle.budget_draw.specs.AfterOrder.{after_order_of}
use Rattle.demand_api.specs.Crowds.{CrowdData, Student}
use Rattle.aftermarket_stage.specs.Passes.{ArePasses, IsMadeOf, due_of}
use Rattle.aftermarket_stage.specs.Turns.{EachTurn, IsQuiet, IsTurn, TurnData, after_turn, after_turns}
use Rattle.market_certificate.specs.Publications.{ProvedTurn}
use Rattle.published_parts.specs.Holdings.{demanded, held_after, tokens}
use Rattle.published_parts.specs.Markets.{seats_in}
use Rattle.published_parts.specs.Offers.{IsProvedDemand}
use Rattle.published_parts.specs.Passes.{ChangesNothing, ComeInPasses, turns_of}
use Rattle.published_parts.proofs.Asked.{crowd_count}
use Rattle.published_parts.proofs.Passing.{GoOn, IsNumbered, come_in_passes}
use Rattle.published_parts.proofs.Resting.{in_order, is_allocation}
use Rattle.published_market.specs.Laws.{AllocatedInPasses}
use Rattle.published_market.specs.Publishing.{IsPublicationOf, terms_at}
use Rattle.published_market.specs.Turns.{IsPublishedTurn}
use Rattle.published_market.proofs.Sentences.{best_at_its_turn, published_after}
use Rattle.published_market.proofs.Turning.{same_held}
use Rattle.published_parts.proofs.HeldAfter.{length-held_after}

-- a list beside another of two parts, in two parts
record IsParted {A B : Type 0} (R : A → B → Type 0) (front later : List A) (ys : List B) : Type 0 where
  pub ahead : List B
  pub behind : List B
  pub whole : ys ≡ ahead ++ behind
  pub first : AllZip R front ahead
  pub second : AllZip R later behind

part_like : {A B : Type 0} (R : A → B → Type 0) (front later : List A) (ys : List B) → AllZip R (front ++ later) ys → IsParted R front later ys
part_like R [] later ys are = record { ahead = []; behind = ys; whole = refl; first = tt; second = are }
part_like R (x ∷ front) later [] are = absurd are
part_like R (x ∷ front) later (y ∷ ys) are =
    let rest = part_like R front later ys are.1 in
    record { ahead = y ∷ rest.ahead; behind = rest.behind; whole = ap (λ all. y ∷ all) rest.whole; first = (are.0, rest.first); second = rest.second }

module _ (crowd : CrowdData) (prices : List Tokens) (raise : ℕ) where
  abbrev Is : TurnData → ProvedTurn → Type 0
  Is = IsPublishedTurn crowd prices raise

  -- published turns have the pass and the students of those that were made
  due_published : (number : ℕ) (order : List ℕ) (turns : List TurnData) (published : List ProvedTurn) → AllZip Is turns published
      → map due_of turns ≡ map {B = ℕ × ℕ} (λ student. (number, student)) order → IsNumbered order number published
  due_published number [] [] [] are due = record { numbered = λ k d low. absurd (omega arith); students = refl }
  due_published number (student ∷ order) [] published are due = absurd (cc due)
  due_published number [] (turn ∷ turns) published are due = absurd (cc due)
  due_published number order [] (proved ∷ published) are due = absurd are
  due_published number order (turn ∷ turns) [] are due = absurd are
  due_published number (student ∷ order) (turn ∷ turns) (proved ∷ published) are due =
      let head : due_of turn ≡ (number, student) = cc due in
      let tail : map due_of turns ≡ map {B = ℕ × ℕ} (λ one. (number, one)) order = cc due in
      let rest = due_published number order turns published are.1 tail in
      let pass : proved.pass ≡ number = are.0.pass ∙ ap (λ (key : ℕ × ℕ). key.0) head in
      let who : proved.student ≡ student = are.0.student ∙ ap (λ (key : ℕ × ℕ). key.1) head in
      record {
        numbered = All-cons (λ (one : ProvedTurn). one.pass ≡ number) proved published pass rest.numbered;
        students = ap (λ n. n ∷ map (λ (one : ProvedTurn). one.student) published) who ∙ ap (λ more. student ∷ more) rest.students;
      }

  -- a made turn to what is held leaves all as it was
  still : (held : List (List ℕ)) (turn : TurnData) → IsQuiet held turn → after_turn held turn ≡ held
  still held turn quiet =
      ap (slice_set held turn.student) (sym (get_or_from_slice_get held turn.student turn.bundle [] quiet)) ∙ set-get_or held turn.student []

  -- what changes nothing as it was made changes nothing as it is published, and the other way round
  quiet_published : (held : List (List ℕ)) (turns : List TurnData) (published : List ProvedTurn) → AllZip Is turns published → EachTurn IsQuiet held turns
      → ChangesNothing held published
  quiet_published held [] [] are quiet = λ k d low. absurd (omega arith)
  quiet_published held [] (proved ∷ published) are quiet = absurd are
  quiet_published held (turn ∷ turns) [] are quiet = absurd are
  quiet_published held (turn ∷ turns) (proved ∷ published) are quiet =
      let here : slice_index_or held proved.student [] ≡ proved.bundle =
      ap (λ n. slice_index_or held n []) are.0.student ∙ get_or_from_slice_get held turn.student turn.bundle [] quiet.0 ∙ sym are.0.bundle in
      All-cons (λ (one : ProvedTurn). slice_index_or held one.student [] ≡ one.bundle) proved published here
      (quiet_published held turns published are.1 (subst (λ now. EachTurn IsQuiet now turns) (still held turn quiet.0) quiet.1))

  quiet_made : (held : List (List ℕ)) (turns : List TurnData) (published : List ProvedTurn) → length held ≡ length crowd.students → AllZip Is turns published
      → ChangesNothing held published → EachTurn IsQuiet held turns
  quiet_made held [] [] many are nothing = tt
  quiet_made held [] (proved ∷ published) many are nothing = absurd are
  quiet_made held (turn ∷ turns) [] many are nothing = absurd are
  quiet_made held (turn ∷ turns) (proved ∷ published) many are nothing =
      let inside : turn.student < length crowd.students = slice_get_within crowd.students turn.student are.0.who are.0.listed in
      let told : slice_index_or held proved.student [] ≡ proved.bundle = nothing 0 proved (omega arith) in
      let here : slice_index_or held turn.student [] ≡ turn.bundle = ap (λ n. slice_index_or held n []) (sym are.0.student) ∙ told ∙ are.0.bundle in
      let quiet : IsQuiet held turn = slice_get-get_or held turn.student [] (omega arith) ∙ ap Some here in (
        quiet,
        subst (λ now. EachTurn IsQuiet now turns) (sym (still held turn quiet))
            (quiet_made held turns published many are.1 (λ k d low. nothing (suc k) d (let h : suc k < suc (length published) = omega arith in h))),
      )

  -- the order of each pass
  abbrev order : List ℕ
  order = after_order_of (map (λ (student : Student). student.budget) crowd.students)

  -- the published turns by their passes
  record ByPass (number : ℕ) (held : List (List ℕ)) (by_pass : List (List TurnData)) (published : List ProvedTurn) : Type 0 where
    pub passes : List (List ProvedTurn)
    pub joined : turns_of passes ≡ published
    pub many : length passes ≡ length by_pass
    pub go_on : GoOn order number held passes

  none_of : {A B : Type 0} (xs : List A) (ys : List B) → length xs ≡ length ys → xs ≡ [] → ys ≡ []
  none_of xs [] long e = refl
  none_of xs (y ∷ ys) long e = absurd (let none : length xs ≡ 0 = ap length e in omega arith)

  by_passes : (Wanted : List (List ℕ) → TurnData → Type 0) (number : ℕ) (held : List (List ℕ)) (by_pass : List (List TurnData)) (published : List ProvedTurn)
      → length held ≡ length crowd.students
      → ArePasses Wanted crowd number held by_pass → AllZip Is (flat_map (λ pass. pass) by_pass) published → ByPass number held by_pass published
  by_passes Wanted number held [] [] size are zipped = record { passes = []; joined = refl; many = refl; go_on = tt }
  by_passes Wanted number held [] (proved ∷ published) size are zipped = absurd zipped
  by_passes Wanted number held (turns ∷ later) published size are zipped =
      let parts =
      part_like Is turns (flat_map (λ pass. pass) later) published
      (subst (λ all. AllZip Is all published) (flat_map-cons (λ (pass : List TurnData). pass) turns later) zipped) in
      let after : held_after held parts.ahead ≡ after_turns held turns = same_held crowd prices raise held turns parts.ahead parts.first in
      let rest =
      by_passes Wanted (number + 1) (after_turns held turns) later parts.behind (ap length (sym after) ∙ length-held_after held parts.ahead ∙ size) are.2
      parts.second in
      record {
        passes = parts.ahead ∷ rest.passes;
        joined = flat_map-cons (λ (pass : List ProvedTurn). pass) parts.ahead rest.passes ∙ ap (λ more. parts.ahead ++ more) rest.joined ∙ sym parts.whole;
        many = ap suc rest.many;
        go_on = (
          due_published number order turns parts.ahead parts.first are.0.due,
          (
            λ nothing. none_of later rest.passes (sym rest.many) (are.1.0 (quiet_made held turns parts.ahead size parts.first nothing)),
            λ e. quiet_published held turns parts.ahead parts.first (are.1.1 (none_of rest.passes later rest.many e)),
          ),
          subst (λ now. GoOn order (number + 1) now rest.passes) (sym after) rest.go_on,
        );
      }

  -- an order without students is empty, and the other way round
  nobody : {A : Type 0} (students : List Student) (passes : List A) → ((passes ≡ []) ↔ (students ≡ []))
      → (passes ≡ []) ↔ (after_order_of (map (λ (student : Student). student.budget) students) ≡ [])
  nobody [] passes some = (λ e. refl, λ e. some.1 refl)
  nobody (student ∷ students) passes some = (
    λ e. absurd (let none : student ∷ students ≡ [] = some.0 e in cc),
    λ e. absurd (
        let there = in_order (map (λ (one : Student). one.budget) (student ∷ students)) 0 (omega arith) in
        let none = ap (λ (all : List ℕ). length all) e in
        let low = there.1 in
        omega arith),
  )

  pub published_by_pass : (Wanted : List (List ℕ) → TurnData → Type 0) (start : List (List ℕ)) (turns : List TurnData) (published : List ProvedTurn)
      (passes : ℕ)
      → length start ≡ length crowd.students
      → IsMadeOf Wanted crowd start turns passes → AllZip Is turns published → ComeInPasses order start published
  published_by_pass Wanted start turns published passes size made zipped =
      let all =
      by_passes Wanted 1 start made.by_pass published size made.whole (subst (λ (ts : List TurnData). AllZip Is ts published) (sym made.joined) zipped) in
      come_in_passes order start published all.passes all.joined
      (nobody crowd.students all.passes
      (λ e. made.some.0 (none_of all.passes made.by_pass all.many e), λ e. none_of made.by_pass all.passes (sym all.many) (made.some.1 e)))
      all.go_on

pub allocated_in_passes : AllocatedInPasses
allocated_in_passes market streams order p journal is so =
    let made : IsPublicationOf market journal is.lengths p = published_after market streams order p journal is so in
    let crowd : CrowdData = made.crowd in
    let outcome = made.outcome in
    let prices : List Tokens = tokens p.prices in
    let count : length crowd.students ≡ length market.roll.students = crowd_count market journal crowd made.is_crowd in
    let size : length (demanded p) ≡ length crowd.students =
    length-map p.bundles _ ∙ AllZip-long (IsProvedDemand crowd.sections (price_in prices)) crowd.students p.bundles outcome.bundles in
    let many : length p.budgets ≡ length market.roll.students =
    ap (λ (all : List ℕ). length all) outcome.budgets ∙ length-map crowd.students (λ (student : Student). student.budget) ∙ count in
    let passes =
    published_by_pass crowd prices market.settings.raise (IsTurn (terms_at crowd (seats_in market) prices market.settings.raise)) (demanded p)
    outcome.turns.turns p.turns is.lengths.passes size outcome.turns.made outcome.turns.published in
    is_allocation market journal p many (subst (λ (budgets : List ℕ). ComeInPasses (after_order_of budgets) (demanded p) p.turns) (sym outcome.budgets) passes)
    (best_at_its_turn market streams order p journal is so) outcome.allocation outcome.used
