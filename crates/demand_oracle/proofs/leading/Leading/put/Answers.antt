use Rattle.std.proofs.Common.{◌≡◌, ◌≤◌, ◌++◌, ◌∷◌, drop, length, min, refl, sym, take, ◌∙◌, ap, arith}
use Rattle.std.proofs.lemmas.List.{length-set, length-take}
use Rattle.demand_oracle.proofs.Shifting.{shift_end, shift_start, shift_step}
use Rattle.demand_oracle.proofs.leading.Leading.put.Goals as goal

pub later-init : goal.later-init
later-init c =
    let self = c.args.self.now in
    let wide : length self.nodes ≡ 8 = self.whole in
    let few : self.count ≤ 8 = self.few in
    let long : length (take self.count self.nodes) ≡ min self.count (length self.nodes) = length-take self.count self.nodes in
    let within : c.args.at ≤ length (take self.count self.nodes) = c.requires in record {
      count = refl;
      wide = wide;
      whole = shift_start self.nodes self.count (omega arith) c.args.at c.args.node.now (omega arith);
    }

pub later-preserved : goal.later-preserved
later-preserved c =
    let self = c.later.self in
    let wide : length self.nodes ≡ 8 = c.later.invariant.wide in
    let few : self.count ≤ 8 = self.few in
    let same : self.count ≡ c.args.self.now.count = c.later.invariant.count in record {
      count = same;
      wide = length-set self.nodes c.later.place c.later.moved ∙ wide;
      whole =
          shift_step self.nodes self.count (omega arith) c.later.place c.later.moved c.index-self-place.result (omega (arith, c.later-test.true))
          ∙ c.later.invariant.whole;
    }

pub returns : goal.returns
returns c =
    let self = c.later.self in
    let wide : length self.nodes ≡ 8 = c.later.invariant.wide in
    let few : self.count ≤ 8 = self.few in
    let same : self.count ≡ c.args.self.now.count = c.later.invariant.count in
    let first = c.args.self.now in
    let long : length (take first.count first.nodes) ≡ min first.count (length first.nodes) = length-take first.count first.nodes in
    let from : c.args.at ≤ length (take first.count first.nodes) = c.requires in
    let to : c.later.place ≤ first.count = c.later.auto.place-end (omega arith) in
    let all : self.count ≡ c.later.place = omega (arith, c.later-test.false) in
    sym (shift_end self.nodes self.count (omega arith) c.later.moved)
    ∙ ap (λ n. take n self.nodes ++ c.later.moved ∷ drop n (take self.count self.nodes)) all
    ∙ c.later.invariant.whole
