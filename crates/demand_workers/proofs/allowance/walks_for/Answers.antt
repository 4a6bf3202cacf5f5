use Rattle.std.proofs.Common.{ℕ, ◌≡◌, ◌<◌, ◌≤◌, ◌+◌, ◌-◌, ◌*◌, ◌^◌, ◌∙◌, length, sym, subst, arith, rules}
use Rattle.demand_api.specs.Views.{data_of}
use Rattle.demand_api.proofs.Parts.{menus_few, students_length}
use Rattle.demand_workers.proofs.Allowing.{walks_few, walks_within}
use Rattle.demand_workers.proofs.allowance.walks_for.Goals as goal
use Rattle.demand_api.proofs.Counts.{top_some}

pub digits_of-requires : goal.digits_of-requires
digits_of-requires c = let some = top_some (data_of c.args.crowd.now) in subst (λ (n : ℕ). 1 ≤ n) (sym c.top.ensures) some

pub overflow_mul-result-2 : goal.overflow_mul-result-2
overflow_mul-result-2 c =
    let all : c.len-students.result ≡ length c.args.crowd.now.menus.items = c.len-students.ensures ∙ c.args.crowd.now.menus.ok.0 in
    let few : length c.args.crowd.now.menus.items ≤ 2000 = menus_few c.args.crowd.now in
    let short : c.from-digits.result ≤ 32 = subst (λ (n : ℕ). n ≤ 32) (sym c.from-digits.ensures) c.digits_of.ensures.few in
    let most : (c.args.pairs * (c.from-digits.result + 1) - 2) * c.len-students.result ≤ 13200 * 2000 =
    walks_few c.args.pairs c.from-digits.result c.len-students.result c.requires.1 short (omega (arith, all, few)) in
    search rules

pub returns : goal.returns
returns c digits fits =
    let crowd = c.args.crowd.now in
    let own : ℕ = c.from-digits.result in
    let all : c.len-students.result ≡ length (data_of c.args.crowd.now).students =
    c.len-students.ensures ∙ c.args.crowd.now.menus.ok.0 ∙ sym (students_length c.args.crowd.now) in
    let some : 1 ≤ c.from-digits.result = subst (λ (n : ℕ). 1 ≤ n) (sym c.from-digits.ensures) c.digits_of.ensures.some in
    let least : c.from-digits.result ≤ digits =
    subst (λ (n : ℕ). n ≤ digits) (sym c.from-digits.ensures) (c.digits_of.ensures.least digits (subst (λ (n : ℕ). n < 2 ^ digits) (sym c.top.ensures) fits)) in
    walks_within c.args.pairs c.from-digits.result digits c.len-students.result (length (data_of c.args.crowd.now).students) c.requires.0 some least all
