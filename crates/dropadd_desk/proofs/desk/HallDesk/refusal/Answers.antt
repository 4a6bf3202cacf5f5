use Rattle.std.proofs.Common.{◌<◌, ◌∙◌, ap, sym, subst, length, refl}
use Rattle.market_units.specs.Members.{has}
use Rattle.dropadd_desk.specs.HallView.{market_of}
use Rattle.dropadd_desk.specs.Step.{obstacle}
use Rattle.dropadd_desk.proofs.DeskLemmas.{any_has, refused_holding, refused_waiting, refused_later}
use Rattle.dropadd_desk.proofs.desk.HallDesk.refusal.Goals as goal

pub returns-then-has-clause-refusal : goal.returns-then-has-clause-refusal
returns-then-has-clause-refusal c =
    refused_holding _ _ _ _ _ (ap (λ l. has l c.args.section.0) (sym c.bundle-held.ensures.value) ∙ sym c.has.ensures ∙ c.if-has.true)

pub returns-then-contains-clause-refusal : goal.returns-then-contains-clause-refusal
returns-then-contains-clause-refusal c =
    refused_waiting _ _ _ _ _ (ap (λ l. has l c.args.section.0) (sym c.bundle-held.ensures.value) ∙ sym c.has.ensures ∙ c.if-has.false)
    (ap (λ l. has l c.args.student.0) (sym c.waiting.ensures.waiting) ∙ sym (any_has _ c.args.student.0 (λ y. refl) c.waiting.result.now)
    ∙ sym c.contains.ensures.value ∙ c.if-contains.true)

pub returns-clause-refusal : goal.returns-clause-refusal
returns-clause-refusal c =
    refused_later _ _ _ _ _ _ (ap (λ l. has l c.args.section.0) (sym c.bundle-held.ensures.value) ∙ sym c.has.ensures ∙ c.if-has.false)
    (ap (λ l. has l c.args.student.0) (sym c.waiting.ensures.waiting) ∙ sym (any_has _ c.args.student.0 (λ y. refl) c.waiting.result.now)
    ∙ sym c.contains.ensures.value ∙ c.if-contains.false)
    (c.obstacle.ensures.obstacle ∙ ap (obstacle (market_of c.args.self.now) c.args.student.0 c.args.section.0) c.bundle-held.ensures.value)

pub returns-clause-room : goal.returns-clause-room
returns-clause-room c = λ none. subst (λ set. length set < 8) c.bundle-held.ensures.value (c.obstacle.ensures.room none)
