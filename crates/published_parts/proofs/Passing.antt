-- Passes of published turns: from the first on, by their numbers, and what is held behind the last.
use Rattle.std.proofs.Common.{ℕ, suc, ◌≡◌, ◌≢◌, ◌<◌, ◌+◌, ◌∙◌, ◌⊎◌, ◌↔◌, ◌==◌, true, All, List, [], ◌∷◌, ◌++◌, length, map, get_or, refl, ap, sym, subst, inl, inr, arith}
use Rattle.std.specs.Prelude.{slice_index_or, slice_set}
use Rattle.std.specs.List.{Contains}
use Rattle.std.proofs.lemmas.Bool.{cases_Bool}
use Rattle.std.proofs.lemmas.Bool.Decides.{nat_tests}
use Rattle.std.proofs.Math.Seq.{get_or-append_seam}
use Rattle.std.proofs.lemmas.List.{append_assoc, append-nil, get_or-map, length-append, length-map, set-get_or}
use Rattle.std.proofs.lemmas.List.Elements.{All-cons}
use Rattle.std.proofs.lemmas.List.Concat.{flat_map-append, flat_map-cons}
use Rattle.plain_facts.proofs.Lists.{all_front}
use Rattle.market_certificate.specs.Publications.{ProvedTurn}
use Rattle.published_parts.specs.Holdings.{held_after}
use Rattle.published_parts.specs.Passes.{ChangesNothing, ComeInPasses, IsLastTurn, IsPassBetween, turns_of}

-- a pass of this number
pub record IsNumbered (order : List ℕ) (number : ℕ) (pass : List ProvedTurn) : Type 0 where
  pub numbered : All (λ (turn : ProvedTurn). turn.pass ≡ number) pass
  pub students : map (λ (turn : ProvedTurn). turn.student) pass ≡ order

-- passes one after another, the first with this number and from these bundles on: nobody changes anything in a pass exactly where it is the last
abbrev pub GoOn : List ℕ → ℕ → List (List ℕ) → List (List ProvedTurn) → Type 0
GoOn order number held [] = Unit {0}
GoOn order number held (pass ∷ later) =
    IsNumbered order number pass × (ChangesNothing held pass ↔ (later ≡ [])) × GoOn order (number + 1) (held_after held pass) later

pub held_both : (held : List (List ℕ)) (front later : List ProvedTurn) → held_after held (front ++ later) ≡ held_after (held_after held front) later
held_both held [] later = refl
held_both held (turn ∷ front) later = held_both (slice_set held turn.student turn.bundle) front later

-- what is held after one pass and others
held_passes : (held : List (List ℕ)) (pass : List ProvedTurn) (later : List (List ProvedTurn))
    → held_after held (turns_of (pass ∷ later)) ≡ held_after (held_after held pass) (turns_of later)
held_passes held pass later = ap (held_after held) (flat_map-cons (λ (one : List ProvedTurn). one) pass later) ∙ held_both held pass (turns_of later)

between : (order : List ℕ) (number : ℕ) (held : List (List ℕ)) (earlier later : List (List ProvedTurn)) (pass : List ProvedTurn)
    → GoOn order number held (earlier ++ pass ∷ later)
    → IsNumbered order (number + length earlier) pass × (ChangesNothing (held_after held (turns_of earlier)) pass ↔ (later ≡ []))
between order number held [] later pass are = let here : number ≡ number + 0 = omega arith in (subst (λ n. IsNumbered order n pass) here are.0, are.1)
between order number held (first ∷ earlier) later pass are =
    let rest = between order (number + 1) (held_after held first) earlier later pass are.2 in
    let next : number + 1 + length earlier ≡ number + suc (length earlier) = omega arith in (
      subst (λ n. IsNumbered order n pass) next rest.0,
      subst (λ before. ChangesNothing before pass ↔ (later ≡ [])) (sym (held_passes held first earlier)) rest.1,
    )

-- passes from the first on are passes between others
pub come_in_passes : (order : List ℕ) (start : List (List ℕ)) (turns : List ProvedTurn) (passes : List (List ProvedTurn)) → turns_of passes ≡ turns
    → ((passes ≡ []) ↔ (order ≡ [])) → GoOn order 1 start passes → ComeInPasses order start turns
come_in_passes order start turns passes joined none are = record {
  passes = passes;
  joined = joined;
  none = none;
  each = λ earlier later pass split.
      let here = between order 1 start earlier later pass (subst (GoOn order 1 start) split are) in
      let number : 1 + length earlier ≡ length earlier + 1 = omega arith in
      record { numbered = subst (λ n. All (λ (turn : ProvedTurn). turn.pass ≡ n) pass) number here.0.numbered; students = here.0.students; last = here.1 };
}

-- a turn to what is held leaves all as it was
pub same_after : (held : List (List ℕ)) (turn : ProvedTurn) → slice_index_or held turn.student [] ≡ turn.bundle → slice_set held turn.student turn.bundle ≡ held
same_after held turn same = ap (slice_set held turn.student) (sym same) ∙ set-get_or held turn.student []

-- and so does a pass in which nobody changes anything
pub held_still : (held : List (List ℕ)) (pass : List ProvedTurn) → ChangesNothing held pass → held_after held pass ≡ held
held_still held [] quiet = refl
held_still held (turn ∷ pass) quiet =
    let here : slice_index_or held turn.student [] ≡ turn.bundle = quiet 0 turn (omega arith) in
    ap (λ now. held_after now pass) (same_after held turn here)
    ∙ held_still held pass (λ k d low. quiet (suc k) d (let h : suc k < suc (length pass) = omega arith in h))

-- the turn of a student at which it has none behind
pub record IsSplit (student : ℕ) (turns : List ProvedTurn) : Type 0 where
  pub earlier : List ProvedTurn
  pub later : List ProvedTurn
  pub turn : ProvedTurn
  pub split : turns ≡ earlier ++ turn ∷ later
  pub whose : turn.student ≡ student
  pub none_later : All (λ (other : ProvedTurn). other.student ≢ student) later

last_or_none : (student : ℕ) (turns : List ProvedTurn) → IsSplit student turns ⊎ All (λ (other : ProvedTurn). other.student ≢ student) turns
last_or_none student [] = inr (λ k d low. absurd (omega arith))
last_or_none student (turn ∷ turns) = elim (last_or_none student turns) [
  | inl at ↦
      inl
      (record {
        earlier = turn ∷ at.earlier;
        later = at.later;
        turn = at.turn;
        split = ap (λ all. turn ∷ all) at.split;
        whose = at.whose;
        none_later = at.none_later;
      })
  | inr none ↦ elim (cases_Bool (turn.student == student)) [
    | inl same ↦
        inl
        (record {
          earlier = [];
          later = turns;
          turn = turn;
          split = refl;
          whose = (let e : turn.student ≡ student = grind (arith, nat_tests) in e);
          none_later = none;
        })
    | inr other ↦
        let apart : turn.student ≢ student = λ e. (let f : (turn.student == student) ≡ true = grind (arith, nat_tests) in cc) in
        inr (All-cons (λ (other : ProvedTurn). other.student ≢ student) turn turns apart none)
  ]
]

-- the last of several passes
record IsEnd (passes : List (List ProvedTurn)) : Type 0 where
  pub front : List (List ProvedTurn)
  pub last : List ProvedTurn
  pub split : passes ≡ front ++ last ∷ []

end_of : (first : List ProvedTurn) (passes : List (List ProvedTurn)) → IsEnd (first ∷ passes)
end_of first [] = record { front = []; last = first; split = refl }
end_of first (next ∷ passes) =
    let rest = end_of next passes in record { front = first ∷ rest.front; last = rest.last; split = ap (λ all. first ∷ all) rest.split }

end_or_none : (passes : List (List ProvedTurn)) → (passes ≡ []) ⊎ IsEnd passes
end_or_none [] = inl refl
end_or_none (first ∷ passes) = inr (end_of first passes)

-- one who is in the order has a turn in a pass
not_none : (student : ℕ) (order : List ℕ) (pass : List ProvedTurn) → map (λ (turn : ProvedTurn). turn.student) pass ≡ order → Contains order student
    → ¬ All (λ (other : ProvedTurn). other.student ≢ student) pass
not_none student order pass same there none =
    let no_turn : ProvedTurn = record { pass = 0; student = 0; bundle = []; tree = [] } in
    let long : length pass ≡ length order = sym (length-map pass (λ (turn : ProvedTurn). turn.student)) ∙ ap length same in
    let low : there.0 < length order = there.1 in
    let at : (get_or pass there.0 no_turn).student ≡ student =
    sym (get_or-map (λ (turn : ProvedTurn). turn.student) pass there.0 no_turn student (omega arith)) ∙ ap (λ all. get_or all there.0 student) same
    ∙ there.2 in
    none there.0 no_turn (omega arith) at

-- the student's last turn, before which all hold what they hold in the end
pub record IsAtRest (student : ℕ) (start : List (List ℕ)) (turns : List ProvedTurn) : Type 0 where
  pub turn : ProvedTurn
  pub last : IsLastTurn student turns turn
  pub before : held_after start last.earlier ≡ held_after start turns
  pub final : slice_index_or (held_after start turns) student [] ≡ turn.bundle

-- Where turns come in passes, each student has a last turn, which leaves what was held before it; and so does every turn behind it.
pub at_rest : (order : List ℕ) (start : List (List ℕ)) (turns : List ProvedTurn) → ComeInPasses order start turns → (student : ℕ) → Contains order student
    → IsAtRest student start turns
at_rest order start turns come student there = elim (end_or_none come.passes) [
  | inl empty ↦ let nobody : order ≡ [] = come.none.0 empty in absurd (let low : there.0 < length order = there.1 in let none = ap length nobody in omega arith)
  | inr end ↦ resting end (come.each end.front [] end.last end.split)
]
  where
    resting : (end : IsEnd come.passes) → IsPassBetween order start end.front [] end.last → IsAtRest student start turns
    resting end pass = elim (last_or_none student end.last) [
      | inr none ↦ absurd (not_none student order end.last pass.students there none)
      | inl at ↦
          let held : List (List ℕ) = held_after start (turns_of end.front) in
          let quiet : ChangesNothing held end.last = pass.last.1 refl in
          let whole : turns ≡ turns_of end.front ++ end.last =
          sym come.joined ∙ ap turns_of end.split ∙ flat_map-append (λ (one : List ProvedTurn). one) end.front (end.last ∷ [])
          ∙ ap (λ last. turns_of end.front ++ last) (append-nil end.last) in
          let ends : held_after start turns ≡ held =
          ap (held_after start) whole ∙ held_both start (turns_of end.front) end.last ∙ held_still held end.last quiet in
          let front : ChangesNothing held at.earlier =
          all_front (λ (turn : ProvedTurn). slice_index_or held turn.student [] ≡ turn.bundle) at.earlier (at.turn ∷ at.later)
          (subst (ChangesNothing held) at.split quiet) in
          let before : held_after start (turns_of end.front ++ at.earlier) ≡ held =
          held_both start (turns_of end.front) at.earlier ∙ held_still held at.earlier front in
          let there : slice_index_or held at.turn.student [] ≡ at.turn.bundle =
          at_seam (λ (turn : ProvedTurn). slice_index_or held turn.student [] ≡ turn.bundle) at.earlier at.later at.turn
          (subst (ChangesNothing held) at.split quiet) in
          let split : turns ≡ (turns_of end.front ++ at.earlier) ++ at.turn ∷ at.later =
          whole ∙ ap (λ last. turns_of end.front ++ last) at.split ∙ sym (append_assoc (turns_of end.front) at.earlier (at.turn ∷ at.later)) in
          record {
            turn = at.turn;
            last = record { earlier = turns_of end.front ++ at.earlier; later = at.later; split = split; whose = at.whose; none_later = at.none_later };
            before = before ∙ sym ends;
            final = ap (λ now. slice_index_or now student []) ends ∙ ap (λ n. slice_index_or held n []) (sym at.whose) ∙ there;
          }
    ]
      where
        at_seam : {A : Type 0} (P : A → Type 0) (front later : List A) (x : A) → All P (front ++ x ∷ later) → P x
        at_seam P front later x all =
            subst P (get_or-append_seam front x later x) (all (length front) x (let long = length-append front (x ∷ later) in omega arith))
