use Rattle.std.proofs.Common.{◌≡◌, ◌*◌, drop, sym, ap, subst, ◌∙◌, arith, to_z, of_z, w32, w64}
use Rattle.std.specs.Prelude.{All}
use Rattle.std.proofs.lemmas.Int.{ints}
use Rattle.bundle_bounds.specs.Courses.{by_course}
use Rattle.bundle_bounds.specs.Modest.{IsModest}
use Rattle.bundle_bounds.specs.Tangents.{AreTangents}
use Rattle.bundle_bounds.proofs.BelowLimit.{few_of_room, rest_of_room}
use Rattle.bundle_bounds.proofs.StemSteps.{stem_shut, stem_open, lent_some, next_limit}
use Rattle.bundle_bounds.proofs.stems.Stem.pass.Goals as goal

pub leave-self-requires-clause-some : goal.leave-self-requires-clause-some
leave-self-requires-clause-some c = lent_some _ _ _ _ _ c.requires.stem c.requires.left (sym c.is_next_open.ensures ∙ c.if-not-is_next_open.false)

pub invariant_of-all : goal.invariant_of-all
invariant_of-all c =
    let whole = c.requires.stem.keeps.whole in
    record {
      modest = subst (All IsModest) (sym (rest_of_room c.args.self.now.room c.args.self.now.start whole)) c.requires.stem.keeps.modest;
      few = few_of_room c.args.self.now.room c.args.self.now.start whole;
    }

pub leave-self-requires-clause-plain : goal.leave-self-requires-clause-plain
leave-self-requires-clause-plain c =
    c.requires.stem.keeps.plain_is
    ∙ ap (by_course (λ p. 1000 * p.worth)) (sym (rest_of_room c.args.self.now.room c.args.self.now.start c.requires.stem.keeps.whole))

pub leave-self-requires-clause-tangents : goal.leave-self-requires-clause-tangents
leave-self-requires-clause-tangents c =
    let rests = c.args.self.now.rests in
    let room = rest_of_room c.args.self.now.room c.args.self.now.start c.requires.stem.keeps.whole in (
      rests.budget,
      (
        rests.credits,
        (
          rests.courses,
          subst (λ ps. AreTangents rests.budget rests.credits rests.courses ps c.args.self.now.tangents) (sym room) c.requires.stem.keeps.tangents_are,
        ),
      ),
    )

pub returns-then-not-is_next_open : goal.returns-then-not-is_next_open
returns-then-not-is_next_open c =
    let m : to_z w32 (of_z w32 c.args.self.now.most) ≡ c.args.self.now.most = omega (arith, ints) in
    let l : to_z w64 (of_z w64 c.limit_after-limit.result) ≡ c.limit_after-limit.result = omega (arith, ints) in
    let limit = next_limit _ _ _ _ _ c.requires.stem _ _ _ _ m l c.limit_after-limit.ensures c.as_slice-champions.ensures.value in
    let s : to_z w64 (of_z w64 c.args.self.now.limit) ≡ c.args.self.now.limit = omega (arith, ints) in
    stem_shut _ _ _ _ _ c.requires.stem c.requires.left (to_z w64 (of_z w64 c.limit_after-limit.result)) c.is_still_quiet-self.result
    (sym c.is_next_open.ensures ∙ c.if-not-is_next_open.true) limit
    (λ yes. let still = c.is_still_quiet-self.ensures yes in (still.0, sym s ∙ still.1))

pub returns : goal.returns
returns c =
    let rests = c.args.self.now.rests in
    let room = rest_of_room c.args.self.now.room c.args.self.now.start c.requires.stem.keeps.whole in
    let m : to_z w32 (of_z w32 c.args.self.now.most) ≡ c.args.self.now.most = omega (arith, ints) in
    let l : to_z w64 (of_z w64 c.limit_after-limit.result) ≡ c.limit_after-limit.result = omega (arith, ints) in
    let limit = next_limit _ _ _ _ _ c.requires.stem _ _ _ _ m l c.limit_after-limit.ensures c.as_slice-champions.ensures.value in
    stem_open _ _ _ _ _ c.requires.stem c.requires.left (sym c.is_next_open.ensures ∙ c.if-not-is_next_open.false)
    (to_z w64 (of_z w64 c.limit_after-limit.result)) c.leave-self.result c.leave-self.new.tangents limit
    (c.leave-self.ensures.plain ∙ ap (λ ps. by_course (λ p. 1000 * p.worth) (drop 1 ps)) room) c.leave-self.ensures.less
    (subst (λ ps. AreTangents rests.budget rests.credits rests.courses (drop 1 ps) c.leave-self.new.tangents) room
    (c.leave-self.ensures.tangents rests.budget rests.credits rests.courses (subst (λ ps. AreTangents rests.budget rests.credits rests.courses ps c.args.self.now.tangents) (sym room) c.requires.stem.keeps.tangents_are)))
