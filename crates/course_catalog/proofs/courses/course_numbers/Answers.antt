use Rattle.std.proofs.Common.{◌≡◌, ◌+◌, ◌∙◌, ◌++◌, ◌∷◌, [], suc, take, ap, sym, arith}
use Rattle.std.proofs.Math.Seq.{take-suc}
use Rattle.std.proofs.lemmas.List.{take_all}
use Rattle.course_catalog.specs.Sections.{Section}
use Rattle.course_catalog.proofs.CourseFacts.{one_more, all_numbered}
use Rattle.course_catalog.proofs.courses.course_numbers.Goals as goal

pub loop-section-preserved : goal.loop-section-preserved
loop-section-preserved c =
    let sections = c.args.sections.now in
    let s = c.section-item.result in
    let k = c.loop-section.section-index in
    let next : k + 1 ≡ suc k = omega arith in
    let more : take (k + 1) sections ≡ take k sections ++ s ∷ [] =
    rw next (take-suc sections k s c.loop-section-test.true ∙ ap (λ (t : Section). take k sections ++ t ∷ []) (sym c.section-item.is)) in
    rw (more, c.in_ok-push-in-Ok.ensures.items)
    (one_more (take k sections) c.loop-section.courses.keys c.insert_full.new.self.keys c.loop-section.numbers.items s c.section.inside.course c.in-Ok.number
    (ap (λ (t : Section). t.course) c.section.view_is) c.in-Ok.ensures.keys c.in-Ok.ensures.index c.loop-section.invariant)

pub returns : goal.returns
returns c =
    let sections = c.args.sections.now in
    let whole : take c.loop-section.section-index sections ≡ sections = take_all _ _ (omega arith) in
    all_numbered sections _ c.loop-section.numbers.items (rw whole at c.loop-section.invariant)
