use Rattle.std.proofs.Common.{rules, ◌≡◌, ◌<◌, ◌≤◌, ◌+◌, ◌-◌, ◌*◌, ℕ, List, max, [], slice_set, slice_index_or, inl, inr, ap, subst, ◌∙◌, arith}
use Rattle.std.proofs.lemmas.Bool.{cases_lt}
use Rattle.demand_oracle.specs.Reaches.{number_at, within_at, IsAsked}
use Rattle.demand_oracle.proofs.Hoping.{row_other}
use Rattle.demand_oracle.proofs.tables.put_counts.Goals as goal

pub put_row-requires-clause-small : goal.put_row-requires-clause-small
put_row-requires-clause-small c units low =
    let menu = c.args.spot.now.offer.now.menu.now in
    let capped : menu.courses ≤ 8 = c.len.ensures.menu.caps.courses_cap in
    let n : ℕ = c.loop-count.count - 1 in
    let at : c.from-apart.result * 9 + c.loop-count.count - 1 ≡ c.args.next * 9 + n = omega arith in
    let before : within_at c.args.most.now c.args.next n units ≤ 65635001 * n = c.requires.small n units (omega arith) low in
    let kept : number_at c.loop-count.most (c.args.next * 9 + n) units ≡ number_at c.args.most.now (c.args.next * 9 + n) units =
    c.loop-count.invariant.later (c.args.next * 9 + n) units (omega arith)
    ∙ row_other c.args.most.now (c.from-row.result * 9) (c.args.next * 9 + n) _ units (λ e. absurd (omega arith)) in
    rw at (omega arith)

pub loop-count-preserved : goal.loop-count-preserved
loop-count-preserved c =
    let courses : ℕ = c.args.spot.now.offer.now.menu.now.courses in
    let place : ℕ = c.args.spot.now.place in
    let next : ℕ = c.args.next in
    let count : ℕ = c.loop-count.count in
    let cost : ℕ = c.args.gain.cost in
    let v : ℕ = c.args.gain.value in
    let begun : List (List ℕ) = slice_set c.args.most.now (c.from-row.result * 9) (slice_index_or c.args.most.now (c.from-row.result * 9 + 9) []) in
    let row : c.from-row.result ≡ place = c.from-row.ensures in
    let apart : c.from-apart.result ≡ next = c.from-apart.ensures in
    let later : (one units : ℕ) → place * 9 + 9 ≤ one → number_at c.loop-count.most one units ≡ number_at begun one units =
    λ one units behind. c.loop-count.invariant.later one units (omega arith) in
    let before : (one units : ℕ) → one + 1 < count → number_at c.put_row.new.most (place * 9 + (one + 1)) units ≡ number_at c.loop-count.most (place * 9 + (one + 1)) units =
    λ one units low. c.put_row.ensures.others (place * 9 + (one + 1)) units (λ e. absurd (omega arith)) in
    let here : (one units : ℕ) → one + 1 ≡ count → number_at c.put_row.new.most (place * 9 + (one + 1)) units ≡ number_at c.put_row.new.most (c.from-row.result * 9 + count) units =
    λ one units same. ap (λ n. number_at c.put_row.new.most n units) (omega arith) in
    let behind : (one units : ℕ) → one + 1 ≡ count
    → number_at c.loop-count.most (c.from-row.result * 9 + 9 + count) units ≡ number_at begun ((place + 1) * 9 + (one + 1)) units =
    λ one units same. ap (λ n. number_at c.loop-count.most n units) (omega arith) ∙ later ((place + 1) * 9 + (one + 1)) units (omega arith) in
    let beside : (one units : ℕ) → one + 1 ≡ count
    → number_at c.loop-count.most (c.from-apart.result * 9 + count - 1) units ≡ number_at begun (next * 9 + one) units =
    λ one units same. ap (λ n. number_at c.loop-count.most n units) (omega arith) ∙ later (next * 9 + one) units (omega (arith, c.requires.later)) in
    let from_first : (one units : ℕ) → one + 1 ≡ count → IsAsked courses c.args.top (one + 1) units → c.first_asked-first.result ≤ units =
    λ one units same asked. c.first_asked-first.ensures units (subst (λ n. IsAsked courses c.args.top n units) same asked) in
    record {
      whole = search rules;
      none = search rules;
      later = search rules;
      dear = λ one units low asked dear. elim (cases_lt (one + 1) count) [
        | inl less ↦ before one units less ∙ c.loop-count.invariant.dear one units less asked dear
        | inr not_less ↦
            let same : one + 1 ≡ count = omega arith in
            here one units same ∙ c.put_row.ensures.dear units (from_first one units same asked) asked.0 dear ∙ behind one units same
      ];
      more = λ one units low asked fits. elim (cases_lt (one + 1) count) [
        | inl less ↦ before one units less ∙ c.loop-count.invariant.more one units less asked fits
        | inr not_less ↦
            let same : one + 1 ≡ count = omega arith in
            here one units same ∙ c.put_row.ensures.more units (from_first one units same asked) asked.0 fits
            ∙ ap (λ n. max n (number_at c.loop-count.most (c.from-apart.result * 9 + count - 1) (units - cost) + v)) (behind one units same)
            ∙ ap (λ n. max (number_at begun ((place + 1) * 9 + (one + 1)) units) (n + v)) (beside one (units - cost) same)
      ];
    }
